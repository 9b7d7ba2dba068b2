use Rattle.std.proofs.Common.{refl, Some}
use Rattle.quic_wire.specs.declared.frame.Frame.TheVariants as frames
use Rattle.quic_streams.proofs.state.StreamsState.settle_stop.Goals as goal

pub returns-clause-tries : goal.returns-clause-tries
returns-clause-tries c = record {
  frame = Some (frames.StopSending c.in-Some.stop);
  settles = record {
    stop = c.in-Some.stop;
    front = c.in-Some.ensures.0;
    last = c.in-Some.ensures.1;
    left = c.settle_stop.ensures.settled c.in-Some.stop c.in-Some.ensures.0 c.in-Some.ensures.1;
    frame = refl;
    end = refl;
  };
  written = c.in_ok-append_if.ensures.ok;
  fits = c.in_ok-append_if.ensures.fits;
}
