-- Two sessions and the payloads between them, and what contracts see of them.
use Rattle.std.specs.Prelude.{ℕ, ◌≡◌, ◌<◌, ◌≤◌, ◌+◌, false, true, List, Option, Some, None, length, slice_get}
use Rattle.quic_wire.specs.declared.frame.Frame.{Frame}
use Rattle.quic_outgoing.specs.declared.limits.PeerLimits.{PeerLimits}
use Rattle.quic_history.specs.World.{Made}
use Rattle.quic_streams.specs.Connection.{is_shut}
use Rattle.quic_session.specs.declared.session.Session.{Session}
use Rattle.quic_session.specs.Sessions.{end_of}
use Rattle.quic_session.specs.Tokens.{unsettled}
use Rattle.quic_session.specs.Params.{are_stream_limits}
use Rattle.quic_session.specs.Receiving.{IsNoDatagram, direction_refusal}
use Rattle.quic_steps.specs.declared.steps.End.{End}
use Rattle.quic_steps.specs.declared.steps.End.TheVariants.{A, B}
use Rattle.quic_exchange.specs.declared.early.EarlyLimits.{EarlyLimits}
use Rattle.quic_exchange.specs.declared.sent.Note.{Note}
use Rattle.quic_exchange.specs.From.{end_begun}
use Rattle.quic_exchange.specs.Sent.{Sent}
use Rattle.quic_exchange.specs.Payloads.{IsFrameAt}
use Rattle.quic_exchange.specs.Notes.{Kept, kept_by, rows}
use Rattle.quic_exchange.specs.State.{PairState, the_end, peer}
use Rattle.quic_pair.specs.declared.ends.Ends.{Ends}

-- what each session keeps of its payloads, by token
abbrev pub kept_of : Session → Session → End → Kept
kept_of a b = kept_by (unsettled a.unsettled) (unsettled b.unsettled)

-- two sessions, the payloads between them, and the limits that wait for a decision
abbrev pub view_of : Session → Session → List Note → Option EarlyLimits → PairState
view_of a b notes waits = record { a = end_of a; b = end_of b; sent = rows (kept_of a b) notes; waits = waits }

abbrev pub ends_view : Ends → PairState
ends_view e = view_of e.a e.b e.sent.items e.waits

abbrev pub session_of : Session → Session → End → Session
session_of a b A = a
session_of a b B = b

-- something comes of one of two sessions, and the other stays
abbrev pub OnSession : (Session → Session → Type 0) → End → Session → Session → Session → Session → Type 0
OnSession P A a b c d = P a c × (d ≡ b)
OnSession P B a b c d = P b d × (c ≡ a)

-- ---- what holds of two sessions between steps

-- the token of the next payload of an endpoint
abbrev pub next_token_of : Session → Session → End → ℕ
next_token_of a b who = (session_of a b who).unsettled.next

-- neither connection is closed
abbrev pub AreOpen : Session → Session → Type 0
AreOpen a b = (is_shut a.conn ≡ false) × (is_shut b.conn ≡ false)

-- each token was given by the endpoint that wrote the payload
abbrev pub HaveGivenTokens : Session → Session → List Note → Type 0
HaveGivenTokens a b notes = (i : ℕ) (n : Note) (t : ℕ) → slice_get notes i ≡ Some n → n.token ≡ Some t → t < next_token_of a b n.writer

-- no two payloads of an endpoint have one token
abbrev pub HaveOwnTokens : List Note → Type 0
HaveOwnTokens notes = (i j : ℕ) (m n : Note) (t : ℕ) → slice_get notes i ≡ Some m → slice_get notes j ≡ Some n → m.writer ≡ n.writer → m.token ≡ Some t → n.token ≡ Some t → i ≡ j

-- no more tokens were given than payloads were sent, so that they do not run out
abbrev pub AreTokensFew : Session → Session → List Note → Type 0
AreTokensFew a b notes = (a.unsettled.next ≤ length notes + 1) × (b.unsettled.next ≤ length notes + 1)

-- stream limits that wait are at most 2^60
abbrev pub AreStreamLimits : Option EarlyLimits → Type 0
AreStreamLimits waits = (k : EarlyLimits) → waits ≡ Some k → are_stream_limits k.others ≡ true

pub record IsConsistent (a b : Session) (notes : List Note) (waits : Option EarlyLimits) : Type 0 where
  pub open_ends : AreOpen a b
  pub below : HaveGivenTokens a b notes
  pub apart : HaveOwnTokens notes
  pub few : AreTokensFew a b notes
  pub limits : AreStreamLimits waits

abbrev pub AreConsistent : Ends → Type 0
AreConsistent e = IsConsistent e.a e.b e.sent.items e.waits

-- a session that was given limits, and did nothing yet
pub record IsBegun (m : Made) (limits : PeerLimits) (s : Session) : Type 0 where
  pub end : end_of s ≡ end_begun m limits
  pub open_end : is_shut s.conn ≡ false
  pub token : s.unsettled.next ≡ 1

-- ---- what is handed over

-- no frame of a payload fails a check of the endpoint to which it is handed, and none is a datagram
abbrev pub AreHonestFrames : PairState → Type 0
AreHonestFrames v = (number : ℕ) (s : Sent) → slice_get v.sent number ≡ Some s → (index : ℕ) (g : Frame) → IsFrameAt s.text.bytes index g
    → (direction_refusal (the_end v (peer s.writer)).streams g ≡ None) × IsNoDatagram g

-- once it is decided what becomes of what the client sent early
abbrev pub AreHonestOnce : PairState → Type 0
AreHonestOnce v = v.waits ≡ None → AreHonestFrames v
