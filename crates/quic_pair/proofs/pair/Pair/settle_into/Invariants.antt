use Rattle.std.proofs.Common.{false, ◌-◌, ◌^◌, length}
use Rattle.quic_pair.specs.Shown.{pair_view}
use Rattle.quic_exchange.specs.declared.phase.Phase.TheVariants as phase
use Rattle.quic_exchange.specs.Settling.{FollowsPhases}
use Rattle.quic_exchange.proofs.Settling.{GoesBy}
use Rattle.quic_pair.proofs.pair.Pair.settle_into.Given as goal

abbrev pub invariant-loop-next : goal.invariant-loop-next
invariant-loop-next l = record {
  taken : GoesBy (pair_view l.fn.self) l.taken.items (pair_view l.self);
  order : FollowsPhases (pair_view l.fn.self) (phase.Report 0 false) l.taken.items (pair_view l.self) l.phase;
}

-- the list grows with each step, and memory has an end
abbrev pub decreases-loop-next : goal.decreases-loop-next
decreases-loop-next l = 2 ^ 64 - length l.taken.items
