use Rattle.std.proofs.Common.{rules}
use Rattle.quic_streams.specs.Shown.{streams_view}
use Rattle.quic_history.proofs.FrameSteps.{put_and_counted, known_after}
use Rattle.quic_streams.proofs.state.StreamsState.reset_on.Goals as goal

pub notice-requires-clause-known : goal.notice-requires-clause-known
notice-requires-clause-known c =
    let s = streams_view c.args.self.now in
    let h = c.args.half.value in
    let h' = c.reset-answer.new.self in
    let is = put_and_counted s c.args.frame.id h h' _ _ (streams_view c.count.new.self) c.put_half.ensures.put (search rules) c.count.ensures.counted in
    known_after s c.args.frame.id h h' (streams_view c.count.new.self) is c.requires.known
