use Rattle.std.proofs.Common.{rules, ◌≡◌, Some, w32, to_z, of_z, arith}
use Rattle.std.specs.Prelude.{slice_get}
use Rattle.std.proofs.lemmas.Grind.{common_steps}
use Rattle.quic_queue.specs.declared.queue.Entry.{Entry}
use Rattle.quic_queue.specs.Levels.{entries_of}
use Rattle.quic_queue.proofs.Lines.{first_is_highest}
use Rattle.quic_queue.proofs.queue.first_of_all.Goals as goal

pub returns-in-Some-front-clause-highest : goal.returns-in-Some-front-clause-highest
returns-in-Some-front-clause-highest c =
    let e : Entry = record { priority = to_z w32 (of_z w32 c.in-Some.priority.now.0); id = c.in-Some-front.id.now } in
    let first : Some e ≡ slice_get (entries_of c.args.levels.now.entries) 0 = first_of (search rules, grind (arith, common_steps)) in
    first_is_highest c.args.levels.now.entries (Some e) c.into_iter-priority-iterator.ensures.into_iter_gives.5 first
