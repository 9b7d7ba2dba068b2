use Rattle.std.proofs.Common.{refl}
use Rattle.std.proofs.lemmas.Result.{err_from_is_err_and}
use Rattle.quic_assembler.proofs.Whole.{leaves_order, assembler_left, same_permuted, same_but_held}
use Rattle.quic_assembler.proofs.assembly.HeapAssembler.leave_order.Goals as goal

pub returns-in_err-compact-clause-err : goal.returns-in_err-compact-clause-err
returns-in_err-compact-clause-err c =
    let p = err_from_is_err_and c.from_residual-in_err-compact.result c.from_residual-in_err-compact.ensures.1 in
    rw (p.1, ← c.self.view_is) (same_permuted _ _ refl c.in_err-compact.ensures.err)

pub returns-in_err-compact-clause-err_others : goal.returns-in_err-compact-clause-err_others
returns-in_err-compact-clause-err_others c =
    let p = err_from_is_err_and c.from_residual-in_err-compact.result c.from_residual-in_err-compact.ensures.1 in
    rw (p.1, ← c.self.view_is) (same_but_held _ _ refl refl refl refl)

pub invariant_of-self-2 : goal.invariant_of-self-2
invariant_of-self-2 c = assembler_left _ _ _ _ _ c.self.invariant.bounded c.in_ok-compact.ensures.compacts c.drop_below.ensures.kept c.drop_below.ensures.below c.in_ok-received.ensures

pub returns-clause-ok : goal.returns-clause-ok
returns-clause-ok c =
    let mode = rw (← c.self.view_is) at c.requires in
    rw (← c.self.view_is) (leaves_order _ _ _ mode refl refl refl c.in_ok-compact.ensures.compacts c.drop_below.ensures.kept c.drop_below.ensures.below c.in_ok-received.ensures)
