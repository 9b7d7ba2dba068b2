use Rattle.std.proofs.Common.{refl}
use Rattle.std.proofs.lemmas.Result.{err_from_is_err_and}
use Rattle.quic_assembler.proofs.Whole.{holds_nothing, assembler_read, gives_some, held_here, next_lowest, done_given, done_same_unordered, holds_more}
use Rattle.quic_ordered.proofs.Assembling.{order_given, more_first, next_at, given_is}
use Rattle.quic_ordered.proofs.assembly.Assembler.read.Goals as goal

pub returns-then-not-has_next-clause-none_unordered : goal.returns-then-not-has_next-clause-none_unordered
returns-then-not-has_next-clause-none_unordered c = λ e. holds_nothing _ (c.has_next.ensures.none c.if-not-has_next.true e)

pub returns-in_err-take_first-clause-err_more : goal.returns-in_err-take_first-clause-err_more
returns-in_err-take_first-clause-err_more c =
    let p = err_from_is_err_and c.from_residual.result c.from_residual.ensures.1 in
    let y = rw (← c.self.view_is) at (c.has_next.ensures.yes c.if-not-has_next.false) in
    rw (p.1, c.requires, ← c.self.view_is) (holds_more _ _ _ y.3 (more_first _ y.1 y.0 _ y.2 (c.in_err-take_first.ensures.err_part y.0 y.1 y.2)))

pub invariant_of-self-in-Some : goal.invariant_of-self-in-Some
invariant_of-self-in-Some c =
    let y = rw (← c.self.view_is) at (c.has_next.ensures.yes c.if-not-has_next.false) in
    let g = given_is _ _ _ c.in-Some.is c.in_ok-take_first.ensures.first in
    let t = given_is _ _ _ c.in-Some.is c.in_ok-take_first.ensures.takes in
    let next = next_at _ _ _ _ _ _ y.0 y.1 y.2 g y.3 in
    rw c.len.ensures (record {
      whole = assembler_read _ _ _ _ _ _ _ _ c.self.invariant.whole next.behind t;
      above = λ e. rw (← next.behind e) (order_given _ _ _ _ _ _ (c.self.invariant.above e) g);
    })

pub returns-clause-given : goal.returns-clause-given
returns-clause-given c =
    let y = rw (← c.self.view_is) at (c.has_next.ensures.yes c.if-not-has_next.false) in
    let g = given_is _ _ _ c.in-Some.is c.in_ok-take_first.ensures.first in
    let t = given_is _ _ _ c.in-Some.is c.in_ok-take_first.ensures.takes in
    let next = next_at _ _ _ _ _ _ y.0 y.1 y.2 g y.3 in
    rw (← c.self.view_is) (gives_some _ _ _ _ _ next refl (rw c.len.ensures refl) c.self.invariant.whole t)

pub returns-clause-here : goal.returns-clause-here
returns-clause-here c =
    let y = rw (← c.self.view_is) at (c.has_next.ensures.yes c.if-not-has_next.false) in
    let g = given_is _ _ _ c.in-Some.is c.in_ok-take_first.ensures.first in
    let t = given_is _ _ _ c.in-Some.is c.in_ok-take_first.ensures.takes in
    let next = next_at _ _ _ _ _ _ y.0 y.1 y.2 g y.3 in
    rw (← c.self.view_is) (held_here _ _ _ _ _ next t)

pub returns-clause-lowest : goal.returns-clause-lowest
returns-clause-lowest c =
    let y = rw (← c.self.view_is) at (c.has_next.ensures.yes c.if-not-has_next.false) in
    let g = given_is _ _ _ c.in-Some.is c.in_ok-take_first.ensures.first in
    let next = next_at _ _ _ _ _ _ y.0 y.1 y.2 g y.3 in
    rw (← c.self.view_is) (λ at. next_lowest _ _ at next)

pub returns-clause-taken : goal.returns-clause-taken
returns-clause-taken c =
    let y = rw (← c.self.view_is) at (c.has_next.ensures.yes c.if-not-has_next.false) in
    let g = given_is _ _ _ c.in-Some.is c.in_ok-take_first.ensures.first in
    let t = given_is _ _ _ c.in-Some.is c.in_ok-take_first.ensures.takes in
    let next = next_at _ _ _ _ _ _ y.0 y.1 y.2 g y.3 in
    λ at. done_given _ _ _ _ at _ next refl refl (rw c.len.ensures refl) c.self.invariant.whole t

pub returns-clause-done : goal.returns-clause-done
returns-clause-done c = rw (← c.self.view_is) (λ at e. done_same_unordered _ _ at e refl refl)
