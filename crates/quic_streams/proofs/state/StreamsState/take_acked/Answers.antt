use Rattle.std.proofs.Common.{inl, inr}
use Rattle.quic_retransmits.specs.Pending.{thin_view}
use Rattle.quic_streams.specs.Shown.{streams_view}
use Rattle.quic_streams.specs.Settling.{AcksMeta, RefusesAck}
use Rattle.quic_streams.proofs.Sent.{stops-at-frame, stops-at-reset, ok-there}
use Rattle.quic_streams.proofs.state.StreamsState.take_acked.Goals as goal

pub returns-in-Err : goal.returns-in-Err
returns-in-Err c =
    inl (stops-at-frame AcksMeta RefusesAck (streams_view c.args.self.now) (streams_view c.ack_frames.new.self) c.args.sent.streams.items c.without_first-streams.result.items (thin_view c.args.sent.control) c.in-Err.told
    (rw c.as_slice.ensures at c.in-Err.ensures.err) c.without_first-streams.ensures)

pub returns-in-Err-ack_noted : goal.returns-in-Err-ack_noted
returns-in-Err-ack_noted c =
    let frames = rw c.as_slice.ensures at (ok-there c.ack_frames.result c.ack_frames.ensures.ok (λ e h. c.in_default.not-Err e h)) in
    let s = c.in-Err-ack_noted.ensures.err in
    inr (stops-at-reset (streams_view c.args.self.now) (streams_view c.ack_frames.new.self) (streams_view c.ack_noted.new.self) c.args.sent.streams.items c.clear.new.self.items (thin_view c.args.sent.control) (thin_view c.drop_resets.new.self)
    c.in-Err-ack_noted.count frames s c.clear.ensures.items (rw s.is at c.drop_resets.ensures))
