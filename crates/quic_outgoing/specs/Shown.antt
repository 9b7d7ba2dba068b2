-- The sending side as contracts see it, and the room in it.
use Rattle.std.specs.Prelude.{ℕ}
use Rattle.quic_outgoing.specs.Outgoing.{Outgoing}
use Rattle.quic_outgoing.specs.Seen.{senders, sender_room}
use Rattle.quic_outgoing.specs.declared.outgoing.OutgoingStreams.{OutgoingStreams}

unfoldable pub outgoing_view : OutgoingStreams → Outgoing
outgoing_view s = record {
  side = s.halves.side;
  own_bi = s.own_bi;
  own_uni = s.own_uni;
  budget = s.budget;
  first = s.halves.first;
  halves = senders s.halves;
  blocked = s.blocked.items;
}

-- how many streams can be permitted without new memory
unfoldable pub permit_room : OutgoingStreams → ℕ
permit_room s = sender_room s.halves
