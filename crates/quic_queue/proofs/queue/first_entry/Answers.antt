use Rattle.std.proofs.Common.{rules, ◌≡◌, w32, to_z, of_z}
use Rattle.quic_queue.proofs.Tops.{top_is_highest}
use Rattle.quic_queue.proofs.queue.first_entry.Goals as goal

pub returns-in-Some-clause-highest : goal.returns-in-Some-clause-highest
returns-in-Some-clause-highest c =
    let top = c.args.top.now in
    let whole : to_z w32 (of_z w32 top.priority) ≡ top.priority = search rules in
    rw whole (top_is_highest top c.args.lower.now c.requires)
