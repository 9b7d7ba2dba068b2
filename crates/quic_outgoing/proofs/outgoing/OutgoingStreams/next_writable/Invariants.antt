use Rattle.std.proofs.Common.{◌≡◌, ℕ, List, ◌++◌, false}
use Rattle.std.specs.Prelude.{All}
use Rattle.quic_outgoing.specs.Seen.{senders}
use Rattle.quic_outgoing.specs.Calls.{can_take, without_marks}
use Rattle.quic_outgoing.proofs.outgoing.OutgoingStreams.next_writable.Given as goal

abbrev pub invariant-loop-id : goal.invariant-loop-id
invariant-loop-id l = (passed : List ℕ) × (l.fn.self.blocked.items ≡ l.self.blocked.items ++ passed)
    × All (λ q. can_take (senders l.fn.self.halves q) ≡ false) passed
    × (senders l.self.halves ≡ without_marks (senders l.fn.self.halves) passed)
    × (l.self.halves.side ≡ l.fn.self.halves.side) × (l.self.halves.first ≡ l.fn.self.halves.first)
    × (l.self.own_bi ≡ l.fn.self.own_bi) × (l.self.own_uni ≡ l.fn.self.own_uni) × (l.self.budget ≡ l.fn.self.budget)

abbrev pub decreases-loop-id : goal.decreases-loop-id
decreases-loop-id l = goal.left-loop-id l
