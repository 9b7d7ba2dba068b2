use Rattle.std.proofs.Common.{◌≡◌, ◌≤◌, length, vec_len, vec_capacity}
use Rattle.std.specs.List.{zip}
use Rattle.quic_pair.specs.Shown.{pair_view}
use Rattle.quic_exchange.specs.Runs.{TakesSteps}
use Rattle.quic_pair.proofs.pair.Pair.run.Given as goal

abbrev pub invariant-loop-step : goal.invariant-loop-step
invariant-loop-step l = record {
  taken : TakesSteps (pair_view l.fn.self) (zip l.yielded l.replies.items) (pair_view l.self);
  count : vec_len l.replies ≡ length l.yielded;
  room : vec_len l.fn.steps ≤ vec_capacity l.replies;
}
