-- What two ends know of each other's limits once a settling ended, and what may be written and opened then.
use Rattle.std.specs.Prelude.{ℕ, Bool, true, false, ◌≡◌, ◌⊎◌, [], ◌∷◌, ◌++◌, Ok, ◌+◌, ◌-◌, ◌/◌, ◌^◌, ◌≤◌, ◌<◌, Some, None}
use Rattle.quic_values.specs.declared.ids.Dir.{Dir}
use Rattle.quic_sending.specs.declared.send.Send.{Send}
use Rattle.quic_sending.specs.Buffer.{total_length}
use Rattle.quic_limits.specs.Credit.{Credit}
use Rattle.quic_limits.specs.Remote.{Remote}
use Rattle.quic_receiving.specs.Half.{Half, is_open, window_end}
use Rattle.quic_flows.specs.Flow.{SendFlow, takes_data}
use Rattle.quic_history.specs.Flows.{room_on}
use Rattle.quic_history.specs.World.{World, remote_of}
use Rattle.quic_steps.specs.declared.steps.End.{End}
use Rattle.quic_steps.specs.declared.steps.End.TheVariants.{A, B}
use Rattle.quic_steps.specs.declared.steps.Step.{Step}
use Rattle.quic_steps.specs.declared.steps.Step.TheVariants as steps
use Rattle.quic_steps.specs.declared.steps.Reply.TheVariants.{Done}
use Rattle.quic_exchange.specs.From.{Beginning}
use Rattle.quic_exchange.specs.State.{PairState, peer, the_end}
use Rattle.quic_exchange.specs.History.{History, Past}
use Rattle.quic_exchange.specs.Completed.{IsUnreset, IsUnstopped}
use Rattle.quic_exchange.specs.Tale.{Tale, Tales, retained_by}

-- ---- where it holds

-- the client sent nothing before the handshake was done
abbrev pub StartsAtOnce : Beginning → Type 0
StartsAtOnce s = s.early ≡ None

-- it is decided whether the server takes what the client sends early, where it sends any
abbrev pub IsAgreed : Beginning → PairState → Type 0
IsAgreed s v = StartsAtOnce s ⊎ (v.waits ≡ None)

-- the client sets what it permits: its receive window, or how many streams at a time
abbrev pub sets_permits : Step → Bool
sets_permits (steps.SetReceiveWindow A window) = true
sets_permits (steps.SetMaxConcurrent A dir count) = true
sets_permits step = false

-- none of these steps does
abbrev pub SetsNone : History → Type 0
SetsNone [] = Unit {0}
SetsNone (e ∷ h) = (sets_permits e.0 ≡ false) × SetsNone h

-- before a rejection of what it sends early the client set nothing that it permits. A limit that it set may have left in a frame that leaves
-- with the rejection; what was announced so need not be announced again: MAX_DATA not before the limit rises by an eighth of the window,
-- MAX_STREAMS not before the next read, frame or acknowledgement
abbrev pub RejectsUnset : History → Type 0
RejectsUnset h = (before behind : History) → h ≡ before ++ (steps.EarlyReject, Ok Done) ∷ behind → SetsNone before

-- nothing that was announced is forgotten: so it is where the client starts at once, where the server accepts what it sends early, and
-- where the server rejects it and the client set nothing before
abbrev pub ForgetsNone : Beginning → History → PairState → Type 0
ForgetsNone s h v = StartsAtOnce s ⊎ ((v.waits ≡ None) × RejectsUnset h)

-- the receive window was not made smaller, or what was consumed since made up for it: until then consumed bytes give no credit
abbrev pub OwesNoDebt : Credit → Type 0
OwesNoDebt c = c.shrink_debt ≡ 0

-- the limit can be told: no frame tells more than 2^62 - 1 (RFC 9000 section 16)
abbrev pub CanBeTold : ℕ → Type 0
CanBeTold limit = limit < 2 ^ 62 - 1

-- a stream takes more data: it was neither ended nor given up by its writer
abbrev pub TakesMore : SendFlow → Type 0
TakesMore f = takes_data f.reset f.finished ≡ true

-- more data may come on a stream, and are wanted: its reader holds it, did not stop it, and knows no final size
pub record IsReadOn (w : World) (id : ℕ) (h : Half) : Type 0 where
  pub held : w.receive id ≡ Some h
  pub runs : is_open h ≡ true

-- ---- what is known

-- a writer knows the limits that its reader announced last (RFC 9000 sections 4.1, 4.6, 19.9, 19.10 and 19.11)
pub record KnowsAnnounced (t : Tale) (w : World) : Type 0 where
  pub connection : w.credit.sent_max_data ≤ t.limit
  pub streams : (id : ℕ) (h : Half) → IsReadOn w id h → TakesMore (t.flow id) → h.sent_max ≤ (t.flow id).limit
  pub counts : (d : Dir) → (remote_of w d).sent_max_remote ≤ t.count d

-- what a reader permits its writer knows but for an eighth: of the receive window, of the window of a stream, of the streams at a time
pub record KnowsPermitted (t : Tale) (w : World) : Type 0 where
  pub connection : OwesNoDebt w.credit → CanBeTold w.credit.local_max_data → w.credit.local_max_data ≤ t.limit + w.credit.receive_window / 8
  pub streams : (id : ℕ) (h : Half) → IsReadOn w id h → TakesMore (t.flow id) → window_end h w.window ≤ (t.flow id).limit + w.window / 8
  pub counts : (d : Dir) → (remote_of w d).max_remote ≤ t.count d + (remote_of w d).max_concurrent / 8

-- ---- what may be done

-- all that was written counts as consumed: the limit is a whole window above it
abbrev pub IsAllConsumed : Tale → Credit → Type 0
IsAllConsumed t c = t.written + c.receive_window ≤ c.local_max_data

-- all that was written on a stream was read
abbrev pub IsAllRead : SendFlow → Half → Type 0
IsAllRead f h = total_length f.cuts ≤ h.buffer.bytes_read

-- none of the streams that were opened is open: each is wholly freed, as far as the counts of the peer tell
abbrev pub NoneIsOpen : Tale → Dir → Remote → Type 0
NoneIsOpen t d r = t.opened d + r.allocated ≤ r.max_remote

-- what the limits let a writer do
-- connection: the limit of the connection leaves the receive window but for an eighth (RFC 9000 section 4.1)
-- streams: that of a stream leaves its window but for an eighth
-- opens: where no stream of a direction is open, one may be opened (section 4.6)
pub record MayGoOn (t : Tale) (w : World) : Type 0 where
  pub connection : OwesNoDebt w.credit → CanBeTold w.credit.local_max_data → IsAllConsumed t w.credit → w.credit.receive_window - w.credit.receive_window / 8 ≤ t.limit - t.written
  pub streams : (id : ℕ) (h : Half) → IsReadOn w id h → TakesMore (t.flow id) → IsAllRead (t.flow id) h → CanBeTold (h.buffer.bytes_read + w.window) → w.window - w.window / 8 ≤ room_on (t.flow id)
  pub opens : (d : Dir) → 0 < (remote_of w d).max_concurrent → (remote_of w d).max_remote < 2 ^ 60 → NoneIsOpen t d (remote_of w d) → t.opened d < t.count d

-- so of an end that writes to the other
pub record KnowsLimits (v : PairState) (t : Tales) (who : End) : Type 0 where
  pub announced : KnowsAnnounced (t.of who) (the_end v (peer who)).streams
  pub permitted : KnowsPermitted (t.of who) (the_end v (peer who)).streams
  pub goes_on : MayGoOn (t.of who) (the_end v (peer who)).streams

abbrev pub KnowLimits : PairState → Tales → Type 0
KnowLimits v t = (who : End) → KnowsLimits v t who

-- what of it is said of each stream
pub record KnowsStreams (t : Tale) (w : World) : Type 0 where
  pub announced : (id : ℕ) (h : Half) → IsReadOn w id h → TakesMore (t.flow id) → h.sent_max ≤ (t.flow id).limit
  pub permitted : (id : ℕ) (h : Half) → IsReadOn w id h → TakesMore (t.flow id) → window_end h w.window ≤ (t.flow id).limit + w.window / 8
  pub goes_on : (id : ℕ) (h : Half) → IsReadOn w id h → TakesMore (t.flow id) → IsAllRead (t.flow id) h → CanBeTold (h.buffer.bytes_read + w.window) → w.window - w.window / 8 ≤ room_on (t.flow id)

-- the client knows all, and the server what is said of streams: so it is whatever came of what the client sent early
pub record KnowMost (v : PairState) (t : Tales) : Type 0 where
  pub client : KnowsLimits v t A
  pub server : KnowsStreams (t.of B) v.a.streams

-- where all that was written on a stream was read, as a settling leaves what was neither given up nor stopped, the limit of the stream
-- leaves its window but for an eighth. So where the window is above 0, at least one byte
abbrev pub HaveRoom : Past → PairState → Tales → Type 0
HaveRoom p v t = (who : End) (id : ℕ) (s : Send) (h : Half) → (the_end v who).streams.out.halves id ≡ Some s → IsUnreset (p.flow who id) → IsUnstopped (p.flow who id)
    → IsReadOn (the_end v (peer who)).streams id h → TakesMore ((t.of who).flow id) → CanBeTold (h.buffer.bytes_read + (the_end v (peer who)).streams.window)
    → (the_end v (peer who)).streams.window - (the_end v (peer who)).streams.window / 8 ≤ room_on ((t.of who).flow id)

-- nothing that was written is retained, so the send window of each end is free: as a settling leaves it, since all is acknowledged
abbrev pub AreFree : Tales → Type 0
AreFree t = (who : End) → retained_by (t.of who) ≡ 0
