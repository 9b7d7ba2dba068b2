use Rattle.std.proofs.Common.{◌≡◌, ◌≤◌}
use Rattle.quic_values.specs.Ids.{other_side}
use Rattle.quic_values.specs.declared.ids.Dir.TheVariants.{Bi}
use Rattle.quic_history.specs.Used.{halves_among}
use Rattle.quic_streams.specs.Shown.{streams_view}
use Rattle.quic_streams.proofs.state.StreamsState.accepted_halves.Given as goal

abbrev pub invariant-loop-index : goal.invariant-loop-index
invariant-loop-index l = (l.count ≡ halves_among (streams_view l.self) (other_side (streams_view l.self).out.side) Bi l.index) × (l.count ≤ l.index)
