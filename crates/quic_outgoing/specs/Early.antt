-- An early start (RFC 9001 section 4.6): what its rejection leaves, and what is sent again of it.
use Rattle.std.specs.Prelude.{◌≡◌, ◌⊎◌, ℕ, ℤ, Bool, true, false, not, ◌&&◌, ◌||◌, nat_lt, if◌then◌else◌, [], Option, Some, None}
use Rattle.std.specs.Option.{option_map}
use Rattle.quic_values.specs.declared.ids.Side.{Side}
use Rattle.quic_limits.specs.Own.{no_own}
use Rattle.quic_limits.specs.SendingCredit.{no_credit}
use Rattle.quic_sending.specs.declared.send.Send.{Send}
use Rattle.quic_sending.specs.Buffer.{is_acked}
use Rattle.quic_sending.specs.Sending.{is_reset_sent}
use Rattle.quic_outgoing.specs.Senders.{SendersById, is_local, new_sender, no_limits}
use Rattle.quic_outgoing.specs.Outgoing.{Outgoing}
use Rattle.quic_outgoing.specs.Calls.{HasMore, HasNoMore}
use Rattle.quic_outgoing.specs.Transmitting.{is_data_sent}

-- the streams of this end have no halves, and those that are held of its peer's are new, with no limit
unfoldable pub of_peer_anew : Side → SendersById → SendersById
of_peer_anew side f = λ q. if is_local side q then None else option_map (λ s. new_sender 0) (f q)

-- an early start was rejected: this end opened nothing and sent nothing, and holds no limit; its window stays
abbrev pub after_rejection : Outgoing → Outgoing
after_rejection u = record u {
  own_bi = no_own;
  own_uni = no_own;
  budget = no_credit u.budget.send_window;
  first = no_limits;
  halves = of_peer_anew u.side u.halves;
  blocked = [];
}

-- whether a half has data or an end to be sent, sent before or not: one that was reset has none
abbrev pub has_content : Send → Bool
has_content s = not (is_reset_sent s.state) && (nat_lt 0 s.pending.offset || is_data_sent s.state)

-- a half of which all that was written counts as not sent, and so does the end of a finished stream; of one that was
-- reset nothing is sent
abbrev pub as_unsent : Send → Send
as_unsent s = if is_reset_sent s.state then s else record s { pending = record s.pending { unsent = 0; lost = [] }; fin_pending = s.fin_pending || is_data_sent s.state }

-- so it is with each half of this end's streams
unfoldable pub own_unsent : Side → SendersById → SendersById
own_unsent side f = λ q. if is_local side q then option_map as_unsent (f q) else f q

abbrev pub with_all_unsent : Outgoing → Outgoing
with_all_unsent u = record u { halves = own_unsent u.side u.halves }

-- nothing is acknowledged that this end sent on its own streams, but of those that were reset
abbrev pub NoneAcked : Side → SendersById → Type 0
NoneAcked side f = (q : ℕ) (s : Send) → is_local side q ≡ true → f q ≡ Some s → is_reset_sent s.state ≡ false → (n : ℕ) → is_acked s.pending n ≡ false

-- each half of which something was acknowledged stays as it is
abbrev pub KeepsAcked : SendersById → SendersById → Type 0
KeepsAcked f g = (q : ℕ) (s : Send) (n : ℕ) → f q ≡ Some s → is_acked s.pending n ≡ true → g q ≡ Some s

-- the priority at which a stream is then to be queued, where it has something to be sent, and had nothing before
abbrev pub QueuesUnsent : Option Send → Option ℤ → Type 0
QueuesUnsent None queue = queue ≡ None
QueuesUnsent (Some s) None = (has_content s ≡ false) ⊎ HasMore s
QueuesUnsent (Some s) (Some priority) = (has_content s ≡ true) × HasNoMore s × (priority ≡ s.priority)
