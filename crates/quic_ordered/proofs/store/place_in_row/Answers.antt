use Rattle.std.specs.Map.{values_of}
use Rattle.quic_ordered.proofs.Order.{order_behind}
use Rattle.quic_ordered.proofs.store.place_in_row.Goals as goal

pub place_for-requires-clause-order : goal.place_for-requires-clause-order
place_for-requires-clause-order c = order_behind 0 (values_of c.args.gaps.now) c.args.row.now.runs c.requires.store.order
