use Rattle.std.proofs.Common.{◌≡◌, arith}
use Rattle.quic_wire.proofs.Read.{frame_takes}
use Rattle.quic_wire.proofs.Whole.{behind_both, behind_frame}
use Rattle.quic_session.proofs.Behind.{frame-before, none-before, passed, none-left, divided-here, last-behind}
use Rattle.quic_session.proofs.runs.offset_of.Goals as goal
use Rattle.quic_session.proofs.runs.offset_of.Goals.{else-loop-left-test, then-loop-left-test+in_default}

pub loop-left-preserved : goal.loop-left-preserved
loop-left-preserved c =
    let f = frame-before c.loop-left.rest.now c.in-Some.after.now c.in-Some.ensures in
    let t = frame_takes c.loop-left.rest.now (f.0, c.in-Some.after.now) c.loop-left.invariant.fits f.1 in
    record {
      fits = t.fits;
      last = behind_both c.args.bytes.now c.loop-left.rest.now c.in-Some.after.now c.loop-left.invariant.last (behind_frame c.loop-left.rest.now f.0 c.in-Some.after.now t.begins);
      divided = λ fs gs rest long begins.
          passed c.args.bytes.now c.loop-left.rest.now c.in-Some.after.now f.0 fs gs rest c.loop-left.left (omega (arith, c.loop-left-test.true)) f.1 (c.loop-left.invariant.divided fs gs rest long begins);
    }

pub returns-clause-parts : goal.returns-clause-parts
returns-clause-parts c = λ fs gs rest long begins.
    let d = c.loop-left.invariant.divided fs gs rest long begins in
    let here = last-behind c.loop-left.rest.now c.args.bytes.now c.loop-left.invariant.last in
    let none : c.loop-left.left ≡ 0 = elim c.loop-left-test.branch [ else-loop-left-test w ↦ omega (arith, w.loop-left-test) | then-loop-left-test+in_default w ↦ none-left c.args.bytes.now c.loop-left.rest.now fs gs rest c.loop-left.left (none-before c.loop-left.rest.now w.in_default.ensures) d ] in
    rw here (divided-here c.args.bytes.now c.loop-left.rest.now fs gs rest c.loop-left.left none d)
