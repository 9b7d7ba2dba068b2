use Rattle.std.proofs.Common.{◌≡◌, ◌≤◌, ◌+◌, true, take, length}
use Rattle.std.specs.Prelude.{All, vec_len}
use Rattle.std.specs.Vec.{vec_capacity}
use Rattle.quic_outgoing.specs.Seen.{is_made}
use Rattle.quic_outgoing.specs.Params.{with_waiting}
use Rattle.quic_outgoing.specs.Shown.{outgoing_view}
use Rattle.quic_outgoing.proofs.outgoing.OutgoingStreams.mark_all.Given as goal

abbrev pub invariant-loop-index : goal.invariant-loop-index
invariant-loop-index l = record {
  waits : outgoing_view l.self ≡ with_waiting (outgoing_view l.fn.self) (take l.index l.ids);
  made : All (λ q. is_made l.self.halves q ≡ true) l.ids;
  room : vec_len l.self.blocked + length l.ids ≤ vec_capacity l.self.blocked + l.index;
}
