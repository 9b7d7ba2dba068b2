-- What C sets of a session, and asks of it.
use Rattle.std.specs.Prelude.{ℕ, ℤ, Bool, true, false, pos, negsuc, ◌≡◌, ◌⊎◌, ◌==◌, ◌^◌, ◌<◌, ◌≤◌, not, nat_lt, is_some, if◌then◌else◌, List, [], ◌∷◌, length, slice_index, Option, Some, None, IsOk, OnErr, Result, Ok, Err}
use Rattle.std.specs.List.{list_any}
use Rattle.quic_values.specs.declared.memory.OutOfMemory.{OutOfMemory}
use Rattle.quic_values.specs.declared.ids.Side.{Side}
use Rattle.quic_values.specs.declared.ids.Side.TheVariants.{Client, Server}
use Rattle.quic_datagrams.specs.declared.datagrams.DatagramLimits.{DatagramLimits}
use Rattle.quic_outgoing.specs.declared.limits.PeerLimits.{PeerLimits}
use Rattle.quic_outgoing.specs.Early.{NoneAcked}
use Rattle.quic_outgoing.specs.Transmitting.{sending_priority}
use Rattle.quic_queue.specs.SendOrder.{ids_of, line}
use Rattle.quic_limits.specs.SendingCredit.{with_window, writable}
use Rattle.quic_limits.specs.Remote.{open_now}
use Rattle.quic_retransmits.specs.Pending.{nothing}
use Rattle.quic_history.specs.World.{Made, made_with, start}
use Rattle.quic_history.specs.Early.{IsEarly, with_rejection, SendsAgain, ResendsOnlyUnacked}
use Rattle.quic_history.specs.History.{Event, Sending, Resized, SetConcurrent, Rejected, SentAgain, IsUnanswered, From}
use Rattle.quic_history.specs.SendEvents.{GaveLimits, SetWindow}
use Rattle.quic_history.specs.Sends.{with_out, with_params_given}
use Rattle.quic_streams.specs.Waiting.{TellsEmpty}
use Rattle.quic_streams.specs.declared.streams.ConnState.TheVariants as conn_state
use Rattle.quic_endpoint.specs.Ends.{with_world, with_window_set, SetsConcurrentAt}
use Rattle.quic_session.specs.declared.session.Session.{Session}
use Rattle.quic_session.specs.declared.session.Config.{Config}
use Rattle.quic_session.specs.Params.{are_stream_limits}
use Rattle.quic_session.specs.Sessions.{end_of, datagrams_view, beside_of, with_datagrams, no_datagrams, with_max}
use Rattle.quic_session.specs.Counts.{counts_of, no_counts}
use Rattle.quic_session.specs.Tokens.{unsettled, payload_count}
use Rattle.quic_session.specs.Settling.{SettlesOnly}
use Rattle.quic_session.specs.Users.{UsersView, users_view, no_users}
use Rattle.quic_streams_c.specs.declared.connection.RawConfig.{RawConfig}
use Rattle.quic_streams_c.specs.declared.connection.RawLimits.{RawLimits}
use Rattle.quic_streams_c.specs.declared.connection.RawInfo.{RawInfo}
use Rattle.quic_streams_c.specs.declared.connection.RawDue.{RawDue}
use Rattle.quic_streams_c.specs.Answers.{TellsDone, memory_code}
use Rattle.quic_streams_c.specs.Calls.{Refuses, WithNumber}
use Rattle.quic_streams_c.specs.Numbers.{small, dir_at, length_at}
use Rattle.quic_streams_c.specs.Sessions.{GoesOn, Unchanged}
use Rattle.quic_streams_c.specs.Words.{words_filled, WithKnown}

abbrev pub side_at : ℕ → Side
side_at n = if n == 0 then Client else Server

-- the words of qs_config
abbrev pub config_at : List ℕ → RawConfig
config_at words = record {
  side = slice_index words 0;
  max_remote_uni = slice_index words 1;
  max_remote_bi = slice_index words 2;
  send_window = slice_index words 3;
  receive_window = slice_index words 4;
  stream_window = slice_index words 5;
  datagram_receive = slice_index words 6;
  datagram_send = slice_index words 7;
  track_streams = slice_index words 8;
}

-- a configuration has no number that is too large
pub record IsConfig (c : RawConfig) : Type 0 where
  pub side : c.side < 2
  pub uni : c.max_remote_uni ≤ 2 ^ 60
  pub bi : c.max_remote_bi ≤ 2 ^ 60
  pub receive_window : c.receive_window < 2 ^ 62
  pub stream_window : c.stream_window < 2 ^ 62
  pub track_streams : c.track_streams < 2

-- what is permitted of its datagrams
abbrev pub raw_limits : RawConfig → DatagramLimits
raw_limits c = record { receive = length_at c.datagram_receive; send = c.datagram_send; max = None }

-- what a session begins with by it
abbrev pub IsConfigOf : RawConfig → Config → Type 0
IsConfigOf r c = (c ≡ record {
  side = side_at r.side;
  max_remote_uni = r.max_remote_uni;
  max_remote_bi = r.max_remote_bi;
  send_window = r.send_window;
  receive_window = r.receive_window;
  stream_window = r.stream_window;
  datagrams = raw_limits r;
})

abbrev pub made_by : Config → Made
made_by c = made_with c.side c.max_remote_uni c.max_remote_bi c.send_window c.receive_window c.stream_window

-- whether its streams are tracked
abbrev pub is_tracked : RawConfig → Bool
is_tracked r = r.track_streams == 1

abbrev pub with_tracking : Bool → UsersView → UsersView
with_tracking false u = u
with_tracking true u = record u { tracks = true }

-- a new session of a configuration, whose streams are tracked or not
pub record IsNewOf (c : Config) (tracks : Bool) (s : Session) : Type 0 where
  pub end : end_of s ≡ record { streams = start (made_by c); pending = nothing }
  pub from : From (made_by c) [] (end_of s).streams
  pub conn : s.conn ≡ conn_state.Open
  pub datagrams : datagrams_view s ≡ no_datagrams c.datagrams
  pub payloads : unsettled s.unsettled ≡ (λ token. None)
  pub token : s.unsettled.next ≡ 1
  pub users : users_view s.users ≡ with_tracking tracks no_users
  pub counts : counts_of s ≡ no_counts

-- a session is made, unless a number is above its bound or memory runs out
pub record MakesNew (r : RawConfig) (code : ℤ) (new : Option Session) : Type 0 where
  pub good : IsConfig r
  pub config : Config
  pub is : IsConfigOf r config
  pub made : ((code ≡ negsuc 1) × (new ≡ None)) ⊎ ((code ≡ pos 0) × ((s : Session) × (new ≡ Some s) × IsNewOf config (is_tracked r) s))

-- a closed handle is opened, or stays closed
abbrev pub OpensClosed : RawConfig → ℤ → Option Session → Type 0
OpensClosed r code new = ((code ≡ negsuc 2) × (new ≡ None) × (IsConfig r → ⊥)) ⊎ MakesNew r code new

-- qs_conn_open: an open handle stays as it is
abbrev pub OpensHandle : List ℕ → Option Session → ℤ → Option Session → Type 0
OpensHandle words (Some s) code new = (code ≡ negsuc 3) × (new ≡ Some s)
OpensHandle words None code new = WithKnown 9 words ((code ≡ negsuc 2) × (new ≡ None)) (OpensClosed (config_at words) code new)

-- the words of qs_peer_limits
abbrev pub limits_at : List ℕ → RawLimits
limits_at words = record {
  max_data = slice_index words 0;
  max_streams_bidi = slice_index words 1;
  max_streams_uni = slice_index words 2;
  stream_data_uni = slice_index words 3;
  stream_data_bidi_local = slice_index words 4;
  stream_data_bidi_remote = slice_index words 5;
  max_datagram = slice_index words 6;
}

-- six limits that can be encoded
pub record AreLimits (r : RawLimits) : Type 0 where
  pub on_all : r.max_data < 2 ^ 62
  pub bidi : r.max_streams_bidi < 2 ^ 62
  pub uni : r.max_streams_uni < 2 ^ 62
  pub on_uni : r.stream_data_uni < 2 ^ 62
  pub on_local : r.stream_data_bidi_local < 2 ^ 62
  pub on_remote : r.stream_data_bidi_remote < 2 ^ 62

abbrev pub peer_limits : RawLimits → PeerLimits
peer_limits r = record {
  initial_max_data = r.max_data;
  initial_max_streams_bidi = r.max_streams_bidi;
  initial_max_streams_uni = r.max_streams_uni;
  initial_max_stream_data_uni = r.stream_data_uni;
  initial_max_stream_data_bidi_local = r.stream_data_bidi_local;
  initial_max_stream_data_bidi_remote = r.stream_data_bidi_remote;
}

-- the limits of the peer's transport parameters are taken, and the greatest length of a datagram
pub record TakesLimits (s : Session) (r : RawLimits) (t : Session) : Type 0 where
  pub end : end_of t ≡ with_world (end_of s) (with_params_given (end_of s).streams (peer_limits r))
  pub from : GoesOn s (Sending (GaveLimits (peer_limits r) (Ok tt))) t
  pub beside : beside_of t ≡ with_datagrams (beside_of s) (with_max (datagrams_view s) (length_at r.max_datagram))

-- out of memory, neither is
abbrev pub TakesLimitsOrNone : Session → RawLimits → Result (Unit {0}) OutOfMemory → Session → Type 0
TakesLimitsOrNone s r (Ok x) t = TakesLimits s r t
TakesLimitsOrNone s r (Err e) t = Unchanged s t × GoesOn s (Sending (GaveLimits (peer_limits r) (Err e))) t

-- no memory is taken where this end opened no stream
abbrev pub IsFreeOf : Session → Result (Unit {0}) OutOfMemory → Type 0
IsFreeOf s answer = (end_of s).streams.out.own_bi.opened ≡ 0 → (end_of s).streams.out.own_uni.opened ≡ 0 → IsOk answer

-- nothing changes for stream limits above 2^60 (RFC 9000 section 18.2)
pub record RefusesLimits (s : Session) (r : RawLimits) (code : ℤ) (t : Session) : Type 0 where
  pub above : are_stream_limits (peer_limits r) ≡ false
  pub is : code ≡ negsuc 2
  pub same : Unchanged s t

-- limits are set, if they can be
abbrev pub SetsLimits : Session → RawLimits → ℤ → Session → Type 0
SetsLimits s r code t = (Refuses s code t × ((AreLimits r) → ⊥))
    ⊎ (AreLimits r × (are_stream_limits (peer_limits r) ≡ true) × (answer : Result (Unit {0}) OutOfMemory) × TakesLimitsOrNone s r answer t × IsFreeOf s answer × TellsDone memory_code answer code)
    ⊎ (AreLimits r × RefusesLimits s r code t)

-- qs_set_peer_limits
abbrev pub SetsLimitsRaw : Session → List ℕ → ℤ → Session → Type 0
SetsLimitsRaw s words code t = WithKnown 7 words (Refuses s code t) (SetsLimits s (limits_at words) code t)

-- qs_conn_close
abbrev pub Closes : Session → ℤ → Session → Type 0
Closes s code t = (code ≡ pos 0) × (end_of t ≡ end_of s) × (beside_of t ≡ record (beside_of s) { conn = conn_state.Closed })

-- qs_zero_rtt_rejected
pub record Rejects (s : Session) (code : ℤ) (t : Session) : Type 0 where
  pub done : code ≡ pos 0
  pub rejects : end_of t ≡ record { streams = with_rejection (end_of s).streams; pending = nothing }
  pub from : (m : Made) (h : List Event) → IsEarly (end_of s).streams → From m h (end_of s).streams → From m (Rejected ∷ h) (end_of t).streams
  pub unanswered : (m : Made) (h : List Event) → m.side ≡ Client → IsUnanswered h → From m h (end_of s).streams → From m (Rejected ∷ h) (end_of t).streams
  pub payloads : unsettled t.unsettled ≡ (λ token. None)
  pub counts : counts_of t ≡ counts_of s
  pub others : SettlesOnly s t

-- qs_retransmit_all_for_0rtt
pub record SendsEarlyAgain (s : Session) (code : ℤ) (t : Session) : Type 0 where
  pub answer : Result (Unit {0}) OutOfMemory
  pub sends : NoneAcked (end_of s).streams.out.side (end_of s).streams.out.halves → SendsAgain (end_of s).streams answer (end_of t).streams
  pub unacked : ResendsOnlyUnacked (end_of s).streams (end_of t).streams
  pub unanswered : (m : Made) (h : List Event) → IsUnanswered h → From m h (end_of s).streams → SendsAgain (end_of s).streams answer (end_of t).streams × From m (SentAgain answer ∷ h) (end_of t).streams
  pub refused : OnErr answer (end_of t ≡ end_of s)
  pub pending : (end_of t).pending ≡ (end_of s).pending
  pub beside : beside_of t ≡ beside_of s
  pub tells : TellsDone memory_code answer code

-- qs_set_send_window
abbrev pub SetsSendWindowRaw : Session → ℕ → ℤ → Session → Type 0
SetsSendWindowRaw s window code t = (code ≡ pos 0)
    × (end_of t ≡ with_world (end_of s) (with_out (end_of s).streams (record (end_of s).streams.out { budget = with_window (end_of s).streams.out.budget window })))
    × GoesOn s (Sending (SetWindow window)) t × (beside_of t ≡ beside_of s)

-- qs_set_receive_window
abbrev pub SetsReceiveWindowRaw : Session → ℕ → ℤ → Session → Type 0
SetsReceiveWindowRaw s window code t = WithNumber (small window) (Refuses s code t) (λ w. (larger : Bool) × (larger ≡ nat_lt (end_of s).streams.credit.receive_window w)
    × (code ≡ pos 0) × (end_of t ≡ with_window_set (end_of s) w larger) × GoesOn s (Resized w larger) t × (beside_of t ≡ beside_of s))

-- qs_set_max_concurrent
abbrev pub SetsConcurrentRaw : Session → ℕ → ℕ → ℤ → Session → Type 0
SetsConcurrentRaw s dir count code t = WithNumber (dir_at dir) (Refuses s code t) (λ d. WithNumber (small count) (Refuses s code t) (λ n. (answer : Result (Unit {0}) OutOfMemory)
    × SetsConcurrentAt (end_of s) d n answer (end_of t) × GoesOn s (SetConcurrent d n answer) t × (beside_of t ≡ beside_of s) × TellsDone memory_code answer code))

abbrev pub flag : Bool → ℕ
flag b = if b then 1 else 0

-- what C is told of a session
pub record IsInfo (s : Session) (i : RawInfo) : Type 0 where
  pub concurrent_bi : i.max_concurrent_bidi ≡ (end_of s).streams.bi.allocated
  pub concurrent_uni : i.max_concurrent_uni ≡ (end_of s).streams.uni.allocated
  pub remote_bi : i.max_remote_bidi ≡ (end_of s).streams.bi.max_remote
  pub remote_uni : i.max_remote_uni ≡ (end_of s).streams.uni.max_remote
  pub next_bi : i.next_remote_bidi ≡ (end_of s).streams.bi.next_remote
  pub next_uni : i.next_remote_uni ≡ (end_of s).streams.uni.next_remote
  pub open_bi : i.remote_open_bidi ≡ open_now (end_of s).streams.bi
  pub open_uni : i.remote_open_uni ≡ open_now (end_of s).streams.uni
  pub max_data : i.local_max_data ≡ (end_of s).streams.credit.local_max_data
  pub received : i.data_received ≡ (end_of s).streams.credit.data_recvd
  pub write_limit : i.write_limit ≡ writable (end_of s).streams.out.budget
  pub send_streams : i.send_streams ≡ (end_of s).streams.send_streams
  pub payloads : i.payloads ≡ payload_count s.unsettled
  pub sendable : i.can_send_stream_data ≡ flag (list_any (λ id. is_some (sending_priority ((end_of s).streams.out.halves id))) (ids_of (line (end_of s).streams.queue)))
  pub pending : (empty : Bool) × TellsEmpty (end_of s).streams (end_of s).pending empty × (i.has_pending ≡ flag (not empty))

-- the words of qs_info
abbrev pub info_words : RawInfo → List ℕ
info_words i = i.max_concurrent_bidi ∷ i.max_concurrent_uni ∷ i.max_remote_bidi ∷ i.max_remote_uni ∷ i.next_remote_bidi ∷ i.next_remote_uni
    ∷ i.remote_open_bidi ∷ i.remote_open_uni ∷ i.local_max_data ∷ i.data_received ∷ i.write_limit ∷ i.send_streams ∷ i.payloads
    ∷ i.can_send_stream_data ∷ i.has_pending ∷ []

-- qs_get_info
abbrev pub TellsInfo : Session → ℤ → List ℕ → List ℕ → Type 0
TellsInfo s code was now = (code ≡ pos 0) × ((i : RawInfo) × IsInfo s i × (now ≡ words_filled (info_words i) was))

-- what C is told of what waits to be sent
pub record IsDue (s : Session) (d : RawDue) : Type 0 where
  pub control : (empty : Bool) × TellsEmpty (end_of s).streams (end_of s).pending empty × (d.control ≡ flag (not empty))
  pub datagrams : d.datagrams ≡ flag (not (length s.datagrams.outgoing == 0))
  pub streams : d.streams ≡ flag (list_any (λ id. is_some (sending_priority ((end_of s).streams.out.halves id))) (ids_of (line (end_of s).streams.queue)))

-- the words of qs_due
abbrev pub due_words : RawDue → List ℕ
due_words d = d.control ∷ d.datagrams ∷ d.streams ∷ []

-- qs_get_due
abbrev pub TellsDue : Session → ℤ → List ℕ → List ℕ → Type 0
TellsDue s code was now = (code ≡ pos 0) × ((d : RawDue) × IsDue s d × (now ≡ words_filled (due_words d) was))
