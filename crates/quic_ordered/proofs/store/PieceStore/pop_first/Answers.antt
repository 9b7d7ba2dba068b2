use Rattle.quic_ordered.proofs.Fronts.{popped_map, popped_row}
use Rattle.quic_ordered.proofs.store.PieceStore.pop_first.Goals as goal

pub invariant_of-self : goal.invariant_of-self
invariant_of-self c = let s = c.in-Some.ensures.some in popped_map _ _ _ s.0 _ c.self.invariant s.1 c.pop_first.ensures.rises

pub invariant_of-self-in-None : goal.invariant_of-self-in-None
invariant_of-self-in-None c = let n = c.in-None.ensures.none in popped_row _ _ _ _ c.pop_front.result c.self.invariant n.0 n.1 c.pop_first.ensures.rises c.pop_front.ensures.popped
