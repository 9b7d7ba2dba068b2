use Rattle.std.proofs.Common.{rules, ◌<◌, arith}
use Rattle.std.specs.Prelude.{slice_index_or}
use Rattle.std.proofs.lemmas.Bool.Decides.{nat_tests}
use Rattle.std.proofs.lemmas.List.{take_rest}
use Rattle.quic_wire.proofs.Steps.{IsBytes}
use Rattle.quic_session.proofs.Behind.{skipped-count, skipped-is, some-not-none, same-count}
use Rattle.quic_session.proofs.runs.behind_skipped.Goals as goal

pub returns-in_err-count-clause-none : goal.returns-in_err-count-clause-none
returns-in_err-count-clause-none c = λ none rest h.
    let above : 1 < slice_index_or c.args.bytes.now 0 0 = grind (arith, nat_tests, c.if-kind-le1.false) in
    let s = skipped-count c.args.bytes.now rest above h in
    some-not-none _ (s.0, rest) s.1 (rw (take_rest c.args.bytes.now 1) at c.in_err-count.ensures)

pub returns-then-count-clause-none : goal.returns-then-count-clause-none
returns-then-count-clause-none c = λ none rest h.
    let above : 1 < slice_index_or c.args.bytes.now 0 0 = grind (arith, nat_tests, c.if-kind-le1.false) in
    let s = skipped-count c.args.bytes.now rest above h in
    let e = rw (take_rest c.args.bytes.now 1) at c.in_ok-count.ensures in
    omega (arith, same-count _ s.0 c.in_ok-count.count rest c.in_ok-count.rest.now s.1 e, s.2, c.if-count.true)

pub returns-clause-some : goal.returns-clause-some
returns-clause-some c = λ own.
    let above : 1 < slice_index_or c.args.bytes.now 0 0 = grind (arith, nat_tests, c.if-kind-le1.false) in
    let fits : IsBytes c.args.bytes.now = search rules in
    let e = rw (take_rest c.args.bytes.now 1) at c.in_ok-count.ensures in
    skipped-is c.args.bytes.now c.in_ok-count.rest.now c.in_ok-count.count fits above own e (omega (arith, c.if-count.false))
