use Rattle.std.proofs.Common.{rules, ◌≡◌, Some, sym, w32, to_z, of_z, arith}
use Rattle.std.specs.Prelude.{slice_get}
use Rattle.std.proofs.lemmas.Grind.{common_steps}
use Rattle.quic_queue.specs.SendOrder.{NoneIsHigher}
use Rattle.quic_queue.specs.Levels.{entries_of}
use Rattle.quic_queue.proofs.Lines.{first_shown, first_level_is_highest}
use Rattle.quic_queue.proofs.queue.first_below.Goals as goal

pub returns-in-Some-clause-first : goal.returns-in-Some-clause-first
returns-in-Some-clause-first c =
    let m = c.args.levels.now in
    let k = c.in_ok-priority.priority.now in
    let whole : to_z w32 (of_z w32 k.0) ≡ k.0 = search rules in
    let some : slice_get c.in_ok-priority.ids.now.items 0 ≡ Some c.in-Some.id.now = first_of (search rules, grind (arith, common_steps)) in
    let shown = first_shown m.entries k c.in_ok-priority.ids.now c.in-Some.id.now c.in_ok-priority.ensures.first some in
    rw whole (sym shown)

pub returns-in-Some-clause-highest : goal.returns-in-Some-clause-highest
returns-in-Some-clause-highest c =
    let m = c.args.levels.now in
    let k = c.in_ok-priority.priority.now in
    let whole : to_z w32 (of_z w32 k.0) ≡ k.0 = search rules in
    let highest : NoneIsHigher k.0 (entries_of m.entries) = first_level_is_highest k.0 m.entries c.in_ok-priority.ensures.all_from in
    rw whole highest
