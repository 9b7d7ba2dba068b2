use Rattle.std.proofs.Common.{◌++◌, ◌∷◌, [], sym}
use Rattle.quic_wire.proofs.Read.{frame_takes}
use Rattle.quic_wire.proofs.Whole.{behind_both, behind_frame}
use Rattle.quic_session.proofs.Behind.{frame-before, none-before, one-more, run-behind, no-run}
use Rattle.quic_session.proofs.runs.run_length.Goals as goal

pub returns-in_err-rest-clause-malformed : goal.returns-in_err-rest-clause-malformed
returns-in_err-rest-clause-malformed c = λ none fs rest run.
    let h = c.loop-rest.invariant.only fs rest run in
    no-run c.loop-rest.rest.now rest h.0 (sym c.loop-rest-test.ensures) (none-before c.loop-rest.rest.now c.in_err-rest.ensures) h.1

pub loop-rest-smaller : goal.loop-rest-smaller
loop-rest-smaller c =
    let f = frame-before c.loop-rest.rest.now c.in_ok-rest.rest.now c.in_ok-rest.ensures in
    (frame_takes c.loop-rest.rest.now (f.0, c.in_ok-rest.rest.now) c.loop-rest.invariant.fits f.1).shorter

pub loop-rest-preserved : goal.loop-rest-preserved
loop-rest-preserved c =
    let f = frame-before c.loop-rest.rest.now c.in_ok-rest.rest.now c.in_ok-rest.ensures in
    let t = frame_takes c.loop-rest.rest.now (f.0, c.in_ok-rest.rest.now) c.loop-rest.invariant.fits f.1 in
    record {
      fits = t.fits;
      last = behind_both c.args.bytes.now c.loop-rest.rest.now c.in_ok-rest.rest.now c.loop-rest.invariant.last (behind_frame c.loop-rest.rest.now f.0 c.in_ok-rest.rest.now t.begins);
      found = (c.loop-rest.invariant.found.0 ++ f.0 ∷ [], one-more c.args.bytes.now c.loop-rest.rest.now c.in_ok-rest.rest.now c.loop-rest.invariant.found.0 f.0 c.loop-rest.invariant.found.1 t.begins);
      only = λ fs rest run.
          let h = c.loop-rest.invariant.only fs rest run in
          run-behind c.loop-rest.rest.now rest c.in_ok-rest.rest.now f.0 h.0 (sym c.loop-rest-test.ensures) f.1 h.1;
    }
