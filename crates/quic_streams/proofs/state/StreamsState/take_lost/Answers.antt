use Rattle.std.proofs.Common.{refl, inl}
use Rattle.quic_retransmits.specs.Pending.{thin_view}
use Rattle.quic_streams.specs.Shown.{streams_view}
use Rattle.quic_streams.specs.Settling.{LosesMeta, RefusesLoss}
use Rattle.quic_streams.proofs.Sent.{stops-at-frame}
use Rattle.quic_streams.proofs.state.StreamsState.take_lost.Goals as goal

pub returns-in-Err : goal.returns-in-Err
returns-in-Err c = (
  inl (stops-at-frame LosesMeta RefusesLoss (streams_view c.args.self.now) (streams_view c.lose_frames.new.self) c.args.sent.streams.items c.without_first-streams.result.items (thin_view c.args.sent.control) c.in-Err.count
      (rw c.as_slice.ensures at c.in-Err.ensures.err) c.without_first-streams.ensures),
  refl,
)
