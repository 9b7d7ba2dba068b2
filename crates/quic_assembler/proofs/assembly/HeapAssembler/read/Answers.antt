use Rattle.std.proofs.Common.{refl, sym, ◌∙◌}
use Rattle.std.proofs.lemmas.Result.{err_from_is_err_and}
use Rattle.std.proofs.lemmas.Option.{MatchOption-at_none, MatchOption-at_some}
use Rattle.quic_assembler.proofs.Whole.{holds_nothing, assembler_less, assembler_read, gives_some, held_here, next_lowest, done_given, done_same_unordered, same_kept, holds_more, none_next, none_at_next}
use Rattle.quic_assembler.proofs.Sums.{takes_off}
use Rattle.quic_assembler.proofs.assembly.HeapAssembler.read.Goals as goal

pub returns-in_default-clause-none_unordered : goal.returns-in_default-clause-none_unordered
returns-in_default-clause-none_unordered c = λ _. holds_nothing _ c.in_default.ensures.nothing

pub invariant_of-self : goal.invariant_of-self
invariant_of-self c = assembler_less _ _ _ _ _ c.self.invariant c.in_err-take_first.ensures.err.count

pub returns-in_err-take_first-clause-err_held : goal.returns-in_err-take_first-clause-err_held
returns-in_err-take_first-clause-err_held c =
    let p = err_from_is_err_and c.from_residual.result c.from_residual.ensures.1 in
    let next = rw (← c.self.view_is) at c.in-Some.ensures.next in
    rw (p.1, ← c.self.view_is) (same_kept _ _ _ next refl c.in_err-take_first.ensures.err)

pub returns-in_err-take_first-clause-err_more : goal.returns-in_err-take_first-clause-err_more
returns-in_err-take_first-clause-err_more c =
    let p = err_from_is_err_and c.from_residual.result c.from_residual.ensures.1 in
    let next = rw (← c.self.view_is) at c.in-Some.ensures.next in
    rw (p.1, c.requires, ← c.self.view_is) (holds_more _ _ _ next c.in_err-take_first.ensures.err_more)

pub returns-in_err-take_first-clause-done : goal.returns-in_err-take_first-clause-done
returns-in_err-take_first-clause-done c = rw (← c.self.view_is) (λ at e. done_same_unordered _ _ at e refl refl)

pub invariant_of-self-in-None : goal.invariant_of-self-in-None
invariant_of-self-in-None c =
    let t = MatchOption-at_none _ _ c.in-None.is c.in_ok-take_first.ensures.ok in
    assembler_less _ _ _ _ _ c.self.invariant t.kept.count

pub invariant_of-self-in-Some-2 : goal.invariant_of-self-in-Some-2
invariant_of-self-in-Some-2 c =
    let t = MatchOption-at_some _ _ _ c.in-Some-2.is c.in_ok-take_first.ensures.ok in
    let next = rw (← c.self.view_is) at c.in-Some.ensures.next in
    rw c.len.ensures (assembler_read _ _ _ _ _ _ _ _ c.self.invariant next.behind t)

pub returns-in-None-clause-none : goal.returns-in-None-clause-none
returns-in-None-clause-none c =
    let t = MatchOption-at_none _ _ c.in-None.is c.in_ok-take_first.ensures.ok in
    let next = rw (← c.self.view_is) at c.in-Some.ensures.next in
    λ e. rw (← c.self.view_is) (none_next _ _ next (sym (rw (← c.self.view_is) at c.requires) ∙ e) t.none)

pub returns-in-None-clause-none_unordered : goal.returns-in-None-clause-none_unordered
returns-in-None-clause-none_unordered c =
    let t = MatchOption-at_none _ _ c.in-None.is c.in_ok-take_first.ensures.ok in
    let next = rw (← c.self.view_is) at c.in-Some.ensures.next in
    λ e. absurd (none_at_next _ _ next (sym (rw (← c.self.view_is) at c.requires) ∙ e) t.none)

pub returns-in-None-clause-none_held : goal.returns-in-None-clause-none_held
returns-in-None-clause-none_held c =
    let t = MatchOption-at_none _ _ c.in-None.is c.in_ok-take_first.ensures.ok in
    let next = rw (← c.self.view_is) at c.in-Some.ensures.next in
    rw (← c.self.view_is) (same_kept _ _ _ next refl t.kept)

pub returns-in-None-clause-done : goal.returns-in-None-clause-done
returns-in-None-clause-done c = rw (← c.self.view_is) (λ at e. done_same_unordered _ _ at e refl refl)

pub returns-in-Some-2-clause-given : goal.returns-in-Some-2-clause-given
returns-in-Some-2-clause-given c =
    let t = MatchOption-at_some _ _ _ c.in-Some-2.is c.in_ok-take_first.ensures.ok in
    let next = rw (← c.self.view_is) at c.in-Some.ensures.next in
    rw (← c.self.view_is) (gives_some _ _ _ _ _ next refl (rw c.len.ensures refl) c.self.invariant t)

pub returns-in-Some-2-clause-here : goal.returns-in-Some-2-clause-here
returns-in-Some-2-clause-here c =
    let t = MatchOption-at_some _ _ _ c.in-Some-2.is c.in_ok-take_first.ensures.ok in
    let next = rw (← c.self.view_is) at c.in-Some.ensures.next in
    rw (← c.self.view_is) (held_here _ _ _ _ _ next t)

pub returns-in-Some-2-clause-lowest : goal.returns-in-Some-2-clause-lowest
returns-in-Some-2-clause-lowest c = λ at. next_lowest _ _ at c.in-Some.ensures.next

pub returns-in-Some-2-clause-taken : goal.returns-in-Some-2-clause-taken
returns-in-Some-2-clause-taken c =
    let t = MatchOption-at_some _ _ _ c.in-Some-2.is c.in_ok-take_first.ensures.ok in
    let next = rw (← c.self.view_is) at c.in-Some.ensures.next in
    λ at. done_given _ _ _ _ at _ next refl refl (rw c.len.ensures refl) c.self.invariant t

pub returns-in-Some-2-clause-done : goal.returns-in-Some-2-clause-done
returns-in-Some-2-clause-done c = rw (← c.self.view_is) (λ at e. done_same_unordered _ _ at e refl refl)

pub returns-in-Some-2-clause-sums : goal.returns-in-Some-2-clause-sums
returns-in-Some-2-clause-sums c =
    let o = MatchOption-at_some _ _ _ c.in-Some-2.is c.in_ok-take_first.ensures.off in
    rw (← c.self.view_is) (takes_off _ _ _ _ _ o)
