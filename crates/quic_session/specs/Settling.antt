-- What becomes of a payload that is reported acknowledged or lost by its token.
use Rattle.std.specs.Prelude.{ℕ, ◌≡◌, ◌-◌, List, Some, None, Result, Ok, Err}
use Rattle.quic_history.specs.World.{Made}
use Rattle.quic_history.specs.History.{Event, From}
use Rattle.quic_streams.specs.declared.settling.SentPayload.{SentPayload}
use Rattle.quic_streams.specs.Sent.{sent_view}
use Rattle.quic_streams.specs.Settling.{AcksWhole, LosesWhole, acks_told, losses_told}
use Rattle.quic_endpoint.specs.Ends.{EndState, with_counts_told}
use Rattle.quic_session.specs.declared.session.Session.{Session}
use Rattle.quic_session.specs.declared.settling.SettleError.{SettleError}
use Rattle.quic_session.specs.declared.settling.SettleError.TheVariants as settle_error
use Rattle.quic_session.specs.Counts.{counts_of, with_lost_bytes, stream_bytes}
use Rattle.quic_session.specs.Sessions.{end_of, datagrams_view}
use Rattle.quic_session.specs.Tokens.{unsettled, with_payload}

-- nothing changed of the end, of what is kept, and of what was counted
abbrev pub SettlesNothing : Session → Session → Type 0
SettlesNothing s t = (end_of t ≡ end_of s) × (unsettled t.unsettled ≡ unsettled s.unsettled) × (counts_of t ≡ counts_of s)

-- the payload of a token was acknowledged (RFC 9000 section 13.3): all of it was reported, and nothing stands under the
-- token any more
pub record AcksAll (s : Session) (token : ℕ) (t : Session) : Type 0 where
  pub sent : SentPayload
  pub stood : unsettled s.unsettled token ≡ Some sent
  pub acked : EndState
  pub acks : AcksWhole (end_of s).streams (sent_view sent) (Ok tt) acked.streams
  pub pending : acked.pending ≡ (end_of s).pending
  pub is : end_of t ≡ with_counts_told acked
  pub settled : unsettled t.unsettled ≡ with_payload (unsettled s.unsettled) token None
  pub from : (m : Made) (h : List Event) → From m h (end_of s).streams → From m (acks_told (sent_view sent) (Ok tt) h) (end_of t).streams
  pub counts : counts_of t ≡ counts_of s

-- or memory ran out: what was not reported stands under the token
pub record AcksSome (s : Session) (token : ℕ) (t : Session) : Type 0 where
  pub sent : SentPayload
  pub rest : SentPayload
  pub stood : unsettled s.unsettled token ≡ Some sent
  pub acks : AcksWhole (end_of s).streams (sent_view sent) (Err (sent_view rest)) (end_of t).streams
  pub pending : (end_of t).pending ≡ (end_of s).pending
  pub kept : unsettled t.unsettled ≡ with_payload (unsettled s.unsettled) token (Some rest)
  pub from : (m : Made) (h : List Event) → From m h (end_of s).streams → From m (acks_told (sent_view sent) (Err (sent_view rest)) h) (end_of t).streams
  pub counts : counts_of t ≡ counts_of s

-- what came of the report that the payload of a token was acknowledged
abbrev pub AcksToken : Session → ℕ → Result (Unit {0}) SettleError → Session → Type 0
AcksToken s token (Ok x) t = AcksAll s token t
AcksToken s token (Err settle_error.UnknownToken) t = (unsettled s.unsettled token ≡ None) × SettlesNothing s t
AcksToken s token (Err settle_error.OutOfMemory) t = AcksSome s token t

-- the payload of a token was lost: all of it was reported, and nothing stands under the token any more
pub record LosesAll (s : Session) (token : ℕ) (t : Session) : Type 0 where
  pub sent : SentPayload
  pub stood : unsettled s.unsettled token ≡ Some sent
  pub loses : LosesWhole (end_of s).streams (end_of s).pending (sent_view sent) (Ok tt) (end_of t).streams (end_of t).pending
  pub settled : unsettled t.unsettled ≡ with_payload (unsettled s.unsettled) token None
  pub from : (m : Made) (h : List Event) → From m h (end_of s).streams → From m (losses_told (sent_view sent) (Ok tt) h) (end_of t).streams
  pub counts : counts_of t ≡ with_lost_bytes (counts_of s) (stream_bytes sent.streams.items)

-- or memory ran out: what was not reported stands under the token
pub record LosesSome (s : Session) (token : ℕ) (t : Session) : Type 0 where
  pub sent : SentPayload
  pub rest : SentPayload
  pub stood : unsettled s.unsettled token ≡ Some sent
  pub loses : LosesWhole (end_of s).streams (end_of s).pending (sent_view sent) (Err (sent_view rest)) (end_of t).streams (end_of t).pending
  pub kept : unsettled t.unsettled ≡ with_payload (unsettled s.unsettled) token (Some rest)
  pub from : (m : Made) (h : List Event) → From m h (end_of s).streams → From m (losses_told (sent_view sent) (Err (sent_view rest)) h) (end_of t).streams
  pub counts : counts_of t ≡ with_lost_bytes (counts_of s) (stream_bytes sent.streams.items - stream_bytes rest.streams.items)

-- what came of the report that the payload of a token was lost
abbrev pub LosesToken : Session → ℕ → Result (Unit {0}) SettleError → Session → Type 0
LosesToken s token (Ok x) t = LosesAll s token t
LosesToken s token (Err settle_error.UnknownToken) t = (unsettled s.unsettled token ≡ None) × SettlesNothing s t
LosesToken s token (Err settle_error.OutOfMemory) t = LosesSome s token t

-- nothing changed beside the end, the payloads, and what was counted
abbrev pub SettlesOnly : Session → Session → Type 0
SettlesOnly s t = (t.conn ≡ s.conn) × (datagrams_view t ≡ datagrams_view s) × (t.unsettled.next ≡ s.unsettled.next)
