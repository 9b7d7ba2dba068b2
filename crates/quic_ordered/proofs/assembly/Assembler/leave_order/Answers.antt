use Rattle.std.proofs.Common.{refl}
use Rattle.quic_assembler.proofs.Runs.{KeepsFrom-refl}
use Rattle.quic_assembler.proofs.Whole.{leaves_order, assembler_left, same_but_held}
use Rattle.std.proofs.lemmas.Result.{err_from_is_err_and}
use Rattle.quic_ordered.proofs.Assembling.{holds_same, holds_left, compacts_same, below_order, true_not_false}
use Rattle.quic_ordered.proofs.assembly.Assembler.leave_order.Goals as goal

pub returns-in_err-compact-clause-held : goal.returns-in_err-compact-clause-held
returns-in_err-compact-clause-held c =
    let same = rw c.in_ok-received.ensures.same at c.in_err-compact.ensures.same in
    rw (← c.self.view_is) (holds_same _ _ refl same)

pub returns-in_err-compact-clause-err_others : goal.returns-in_err-compact-clause-err_others
returns-in_err-compact-clause-err_others c =
    let p = err_from_is_err_and c.from_residual-in_err-compact.result c.from_residual-in_err-compact.ensures.1 in
    rw (p.1, ← c.self.view_is) (same_but_held _ _ refl refl refl refl)

pub invariant_of-self-2 : goal.invariant_of-self-2
invariant_of-self-2 c =
    let mode = rw (← c.self.view_is) at c.requires in
    let same = rw c.in_ok-received.ensures.same at c.in_ok-compact.ensures.same in
    let order = rw c.in_ok-received.ensures.same at c.in_ok-compact.ensures.order in
    record {
      whole = assembler_left _ _ _ _ _ c.self.invariant.whole.bounded (compacts_same _ _ c.len-count.ensures.order (order 0 c.len-count.ensures.order) same) (KeepsFrom-refl _ _) (λ at l. below_order _ _ at (order _ (c.self.invariant.above mode)) l) c.in_ok-received.ensures.set;
      above = λ e. absurd (true_not_false _ e refl);
    }

pub returns-clause-ok : goal.returns-clause-ok
returns-clause-ok c =
    let mode = rw (← c.self.view_is) at c.requires in
    let same = rw c.in_ok-received.ensures.same at c.in_ok-compact.ensures.same in
    let order = rw c.in_ok-received.ensures.same at c.in_ok-compact.ensures.order in
    rw (← c.self.view_is) (leaves_order _ _ _ mode refl refl refl (compacts_same _ _ c.len-count.ensures.order (order 0 c.len-count.ensures.order) same) (KeepsFrom-refl _ _) (λ at l. below_order _ _ at (order _ (c.self.invariant.above mode)) l) c.in_ok-received.ensures.set)

pub returns-clause-held : goal.returns-clause-held
returns-clause-held c =
    let mode = rw (← c.self.view_is) at c.requires in
    let same = rw c.in_ok-received.ensures.same at c.in_ok-compact.ensures.same in
    rw (← c.self.view_is) (holds_left _ _ mode refl (c.self.invariant.above mode) same)

pub returns-clause-joined : goal.returns-clause-joined
returns-clause-joined c =
    let same = rw c.in_ok-received.ensures.same at c.in_ok-compact.ensures.same in
    rw (← c.self.view_is) (record { same = same; apart = c.in_ok-compact.ensures.apart; tidy = c.in_ok-compact.ensures.tidy; memory = rw c.in_ok-received.ensures.same at c.in_ok-compact.ensures.memory })
