use Rattle.quic_assembler.proofs.Queue.{queue_popped, popped_sound, lowest_popped, sound_is_some}
use Rattle.quic_assembler.proofs.pieces.Pieces.pop_first.Goals as goal

pub invariant_of-self : goal.invariant_of-self
invariant_of-self c = queue_popped _ _ _ _ _ _ c.unwrap-piece.result c.self.invariant
    (rw c.unwrap-piece.ensures at c.pop.ensures.permutation)
    ((rw c.unwrap-piece.ensures at c.pop.ensures.heap_order) c.self.invariant.order).0
    c.len.ensures.value c.allocation_size.ensures.value

pub returns-clause-lowest : goal.returns-clause-lowest
returns-clause-lowest c = rw (← c.self.view_is) (lowest_popped _ _ c.unwrap-piece.result (rw c.unwrap-piece.ensures at c.pop.ensures.permutation) ((rw c.unwrap-piece.ensures at c.pop.ensures.below_top) c.self.invariant.order))

pub returns-clause-sound : goal.returns-clause-sound
returns-clause-sound c = popped_sound _ _ _ _ c.unwrap-piece.result c.self.invariant (rw c.unwrap-piece.ensures at c.pop.ensures.permutation)

pub returns-clause-others : goal.returns-clause-others
returns-clause-others c =
    let q = queue_popped _ _ _ _ _ _ c.unwrap-piece.result c.self.invariant
    (rw c.unwrap-piece.ensures at c.pop.ensures.permutation)
    ((rw c.unwrap-piece.ensures at c.pop.ensures.heap_order) c.self.invariant.order).0
    c.len.ensures.value c.allocation_size.ensures.value in
    sound_is_some _ q.sound
