use Rattle.std.proofs.Common.{arith, sym, ◌∙◌}
use Rattle.quic_ordered.proofs.Firsts.{insert_last, absent_last}
use Rattle.quic_ordered.proofs.Totals.{map_total_bound, inserted_new}
use Rattle.quic_ordered.proofs.map.PieceMap.put_last.Goals as goal

pub overflow_add-self : goal.overflow_add-self
overflow_add-self c = omega (arith, map_total_bound _ _ _ c.self.invariant)

pub overflow_add-self-in-Ok : goal.overflow_add-self-in-Ok
overflow_add-self-in-Ok c = omega (arith, map_total_bound _ _ _ c.self.invariant)

pub invariant_of-self : goal.invariant_of-self
invariant_of-self c =
    inserted_new _ _ _ _ _ _ c.args.piece.offset c.args.piece c.self.invariant (record { below = c.len-length.ensures.bound; allocation = c.allocation_size-allocated.ensures.bound })
    c.in-Ok.ensures.entries (sym (rw (← c.self.view_is) at (absent_last _ _ c.requires))) c.put_last.ensures.rises
    (omega (arith, c.len-length.ensures.value)) (omega (arith, c.allocation_size-allocated.ensures.value))

pub returns-in-Ok-clause-put : goal.returns-in-Ok-clause-put
returns-in-Ok-clause-put c = rw (← c.self.view_is) (c.in-Ok.ensures.entries ∙ insert_last _ _ c.args.piece (rw (← c.self.view_is) at c.requires))
