use Rattle.std.proofs.Common.{◌≡◌, true, take}
use Rattle.std.specs.Prelude.{All}
use Rattle.quic_outgoing.specs.Seen.{senders, sender_room, is_made}
use Rattle.quic_outgoing.proofs.entries.SendEntries.make_all.Given as goal

abbrev pub invariant-loop-index : goal.invariant-loop-index
invariant-loop-index l = record {
  made : All (λ q. is_made l.self q ≡ true) (take l.index l.ids);
  halves : senders l.self ≡ senders l.fn.self;
  side : l.self.side ≡ l.fn.self.side;
  first : l.self.first ≡ l.fn.self.first;
  room : sender_room l.self ≡ sender_room l.fn.self;
}
