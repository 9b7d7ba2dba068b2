use Rattle.std.proofs.Common.{rules}
use Rattle.quic_streams.specs.Shown.{streams_view}
use Rattle.quic_streams.specs.Waiting.{limit_counts}
use Rattle.quic_streams.proofs.state.StreamsState.has_limit.Goals as goal

pub returns : goal.returns
unfolding streams_view
returns c = c.any_id.ensures (limit_counts (streams_view c.args.self.now)) (λ id answer post. search rules)
