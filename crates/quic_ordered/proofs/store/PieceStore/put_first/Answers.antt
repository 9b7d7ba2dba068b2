use Rattle.quic_ordered.proofs.Fronts.{fronted_above}
use Rattle.quic_ordered.proofs.store.PieceStore.put_first.Goals as goal

pub put_first-requires : goal.put_first-requires
put_first-requires c = fronted_above c.self.inside.gaps c.self.inside.row.runs c.args.piece c.self.invariant (rw (← c.self.view_is) at c.requires)
