use Rattle.std.proofs.Common.{refl}
use Rattle.quic_streams.specs.Payload.{control_order, place_of}
use Rattle.quic_streams.proofs.ControlRuns.{nothing_written}
use Rattle.quic_streams.proofs.state.StreamsState.write_control.Goals as goal

pub returns-then-not-has_control-clause-writes : goal.returns-then-not-has_control-clause-writes
returns-then-not-has_control-clause-writes c =
    nothing_written c.args.max_size control_order (place_of c.args.self.now c.args.pending.now c.args.buf.now c.args.sent.now c.args.stats.now) (c.if-not-has_control.ensures refl)
