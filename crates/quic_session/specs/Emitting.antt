-- What a session writes into a payload, and what becomes of the session.
use Rattle.std.specs.Prelude.{ℕ, ◌≡◌, ◌==◌, ◌⊎◌, ◌&&◌, ◌<◌, ◌≤◌, ◌+◌, ◌-◌, min, not, nat_le, Bool, true, false, List, [], ◌++◌, length, take, drop, Option, Some, None, Result, Ok, Err, is_err, OnOk, OnErr}
use Rattle.quic_values.specs.declared.memory.OutOfMemory.{OutOfMemory}
use Rattle.quic_wire.specs.declared.frame.Datagram.{Datagram}
use Rattle.quic_wire.specs.declared.frame.StreamMeta.{StreamMeta}
use Rattle.quic_datagrams.specs.declared.stats.FrameStats.{FrameStats}
use Rattle.quic_datagrams.specs.Queue.{IsWritten, ends_within}
use Rattle.quic_queue.specs.SendOrder.{line}
use Rattle.quic_retransmits.specs.Pending.{Pending, nothing}
use Rattle.quic_retransmits.specs.Settling.{noted_in}
use Rattle.quic_writing.specs.Appended.{AppendsFrames}
use Rattle.quic_history.specs.World.{World, Made}
use Rattle.quic_history.specs.History.{Event, From}
use Rattle.quic_history.specs.declared.control.ControlKind.{ControlKind}
use Rattle.quic_streams.specs.declared.settling.SentPayload.{SentPayload}
use Rattle.quic_streams.specs.Payload.{PayloadPlace, Entry, WritesKinds, WritesEntries, IsKindDone, LeavesKind, control_order, with_entries}
use Rattle.quic_streams.specs.Transmitting.{WritesStreamFrames, GoesOnWithTurns, end_writer, told_bytes, with_turns}
use Rattle.quic_endpoint.specs.Ends.{EndState}
use Rattle.quic_endpoint.specs.declared.payload.Payload.{Payload}
use Rattle.quic_session.specs.declared.session.Session.{Session}
use Rattle.quic_session.specs.declared.buffer.Buffer.{Buffer}
use Rattle.quic_session.specs.declared.emitting.Emitted.{Emitted}
use Rattle.quic_session.specs.declared.emitting.Parts.{Parts}
use Rattle.quic_session.specs.Counts.{counts_of, with_sent_frames, datagrams_counted, streams_counted}
use Rattle.quic_session.specs.Sessions.{Datagrams, end_of, datagrams_view}
use Rattle.quic_session.specs.Tokens.{unsettled, KeepsNew}

-- bytes: the frames, encoded one after another
-- control: what those beside STREAM and DATAGRAM carry
-- streams: what each STREAM frame carries
pub record DraftView : Type 0 where
  pub bytes : List ℕ
  pub control : Pending
  pub streams : List StreamMeta

-- end, datagrams: those of a session that writes
-- sent: the counters of the frames that it wrote
-- payload: the payload so far
pub record Writing : Type 0 where
  pub end : EndState
  pub datagrams : Datagrams
  pub sent : FrameStats
  pub payload : DraftView

abbrev pub payload_of : Payload → DraftView
payload_of d = record { bytes = d.bytes.items; control = noted_in d.sent.control; streams = d.sent.streams.items }

abbrev pub writing_of : Session → Payload → Writing
writing_of s d = record { end = end_of s; datagrams = datagrams_view s; sent = (counts_of s).sent; payload = payload_of d }

-- a session with an empty payload
abbrev pub blank : Session → Writing
blank s = record { end = end_of s; datagrams = datagrams_view s; sent = (counts_of s).sent; payload = record { bytes = []; control = nothing; streams = [] } }

-- the end that writes, with its payload and the counters of its frames
abbrev pub place_in : Writing → PayloadPlace
place_in a = record { end = a.end.streams; pending = a.end.pending; sheet = record { bytes = a.payload.bytes; sent = a.payload.control; stats = a.sent } }

-- control frames are written (RFC 9000 section 19), as the writer of the streams does
pub record WritesControl (most : ℕ) (a : Writing) (answer : Result (Unit {0}) OutOfMemory) (b : Writing) : Type 0 where
  pub writes : WritesKinds most control_order (place_in a) answer (place_in b)
  pub full : OnOk answer ((kind : ControlKind) → IsKindDone kind most (place_in b))
  pub refused : OnErr answer (LeavesKind most (place_in b))
  pub within : length a.payload.bytes ≤ most → length b.payload.bytes ≤ most
  pub from : WritesEntries (place_in a).sheet (place_in b).sheet a.end.streams b.end.streams
  pub streams : b.payload.streams ≡ a.payload.streams
  pub datagrams : b.datagrams ≡ a.datagrams

-- the oldest datagrams leave a queue and stand in a payload, each where a frame with the greatest head begins below the
-- maximum, and it then ends within it
pub data SendsOldest (most : ℕ) (queue : List Datagram) (bytes : List ℕ) : Bool → List Datagram → List ℕ → Type 0 where
  none : SendsOldest most queue bytes false queue bytes
  more : {sent : Bool} {q r : List Datagram} {b c : List ℕ} → SendsOldest most queue bytes sent q b → length b + 9 < most → IsWritten most q r b c true → SendsOldest most queue bytes true r c

-- no further one can
abbrev pub AreSent : ℕ → List Datagram → List ℕ → Type 0
AreSent most queue bytes = (most ≤ length bytes + 9) ⊎ (ends_within most (length bytes) queue ≡ false)

-- a queue that some left or none, and where some did a blocked sender is told that there is room
abbrev pub with_datagrams_sent : Datagrams → Bool → List Datagram → Datagrams
with_datagrams_sent d false queue = record d { state = record d.state { outgoing = queue } }
with_datagrams_sent d true queue = record d { state = record d.state { outgoing = queue; send_blocked = false }; told_room = d.told_room && not d.state.send_blocked }

-- datagrams are written (RFC 9221 section 4)
pub record WritesDatagrams (most : ℕ) (a : Writing) (answer : Result (Unit {0}) OutOfMemory) (b : Writing) : Type 0 where
  pub some : Bool
  pub sends : SendsOldest most a.datagrams.state.outgoing a.payload.bytes some b.datagrams.state.outgoing b.payload.bytes
  pub full : OnOk answer (AreSent most b.datagrams.state.outgoing b.payload.bytes)
  pub refused : OnErr answer (length b.payload.bytes + 9 < most)
  pub datagrams : b.datagrams ≡ with_datagrams_sent a.datagrams some b.datagrams.state.outgoing
  pub sent : b.sent ≡ datagrams_counted a.sent (length a.datagrams.state.outgoing - length b.datagrams.state.outgoing)
  pub end : b.end ≡ a.end
  pub payload : b.payload ≡ record a.payload { bytes = b.payload.bytes }

-- STREAM frames are written (RFC 9000 section 19.8), as the writer of the streams does
pub record WritesStreams (most : ℕ) (fair : Bool) (a : Writing) (answer : Result (Unit {0}) OutOfMemory) (b : Writing) : Type 0 where
  pub writes : WritesStreamFrames most fair a.end.streams a.payload.bytes a.payload.streams b.end.streams b.payload.bytes b.payload.streams
  pub full : OnOk answer ((line b.end.streams.queue ≡ []) ⊎ (most ≤ length b.payload.bytes + 25))
  pub refused : OnErr answer ((0 < length (line b.end.streams.queue)) × (length b.payload.bytes + 25 < most))
  pub carries : (m : Made) (h : List Event) → From m h a.end.streams
      → AppendsFrames (told_bytes m h) most (end_writer a.end.streams a.payload.bytes a.payload.streams) (end_writer b.end.streams b.payload.bytes b.payload.streams)
  pub from : GoesOnWithTurns most fair a.payload.streams b.payload.streams a.end.streams b.end.streams
  pub pending : b.end.pending ≡ a.end.pending
  pub control : b.payload.control ≡ a.payload.control
  pub datagrams : b.datagrams ≡ a.datagrams
  pub sent : b.sent ≡ streams_counted a.sent (length b.payload.streams - length a.payload.streams)

-- a part is written, if it was asked for
abbrev pub IfAsked : Bool → (Writing → Result (Unit {0}) OutOfMemory → Writing → Type 0) → Writing → Result (Unit {0}) OutOfMemory → Writing → Type 0
IfAsked false Writes a answer b = (answer ≡ Ok tt) × (b ≡ a)
IfAsked true Writes a answer b = Writes a answer b

-- the parts that were asked for are written one after another: control frames, datagrams, data. Out of memory,
-- a part may stop, and then those behind it are not begun
pub data WritesParts (most : ℕ) (parts : Parts) (fair : Bool) (a : Writing) : Result (Unit {0}) OutOfMemory → Writing → Type 0 where
  whole : {answer : Result (Unit {0}) OutOfMemory} {d : Writing} → (b c : Writing) → IfAsked parts.control (WritesControl most) a (Ok tt) b
      → IfAsked parts.datagrams (WritesDatagrams most) b (Ok tt) c → IfAsked parts.streams (WritesStreams most fair) c answer d → WritesParts most parts fair a answer d
  no_datagrams : {error : OutOfMemory} {c : Writing} → (b : Writing) → IfAsked parts.control (WritesControl most) a (Ok tt) b
      → IfAsked parts.datagrams (WritesDatagrams most) b (Err error) c → WritesParts most parts fair a (Err error) c
  control_alone : {error : OutOfMemory} {b : Writing} → IfAsked parts.control (WritesControl most) a (Err error) b → WritesParts most parts fair a (Err error) b

-- the end, the datagrams, and the counters of frames that were sent are as they were left
abbrev pub IsLeftAs : Writing → Session → Session → Type 0
IsLeftAs a s t = (end_of t ≡ a.end) × (datagrams_view t ≡ a.datagrams) × (counts_of t ≡ with_sent_frames (counts_of s) a.sent)

-- no payload was kept
abbrev pub KeepsNone : Session → Session → Type 0
KeepsNone s t = (unsettled t.unsettled ≡ unsettled s.unsettled) × (t.unsettled.next ≡ s.unsettled.next)

-- what was written of nothing: entries that are of no use may have been dropped
pub record WritesNothing (most : ℕ) (parts : Parts) (fair : Bool) (s : Session) (answer : Result (Unit {0}) OutOfMemory) (t : Session) : Type 0 where
  pub written : Writing
  pub writes : WritesParts most parts fair (blank s) answer written
  pub none : written.payload.bytes ≡ []
  pub leaves : IsLeftAs written s t

-- a payload is copied into a buffer of so many bytes, whose other bytes stay. Nothing may stand behind it where it ends with
-- the buffer and has data
pub record IsPutOut (p : DraftView) (size : ℕ) (out : List ℕ) (e : Emitted) (new : List ℕ) : Type 0 where
  pub len : e.len ≡ min (length p.bytes) size
  pub copied : new ≡ take e.len p.bytes ++ drop e.len out
  pub ends : e.ends ≡ ((e.len == size) && not (length p.streams == 0))

-- a payload was written, also where memory ran out: then the frames that were written before are the payload. It
-- stands in the buffer, whose other bytes stay, and what is to be reported of it stands under its token
pub record WritesPayload (parts : Parts) (fair : Bool) (s : Session) (out : List ℕ) (e : Emitted) (t : Session) (new : List ℕ) : Type 0 where
  pub answer : Result (Unit {0}) OutOfMemory
  pub written : Writing
  pub writes : WritesParts (length out) parts fair (blank s) answer written
  pub some : 0 < length written.payload.bytes
  pub within : (m : Made) (h : List Event) → From m h (end_of s).streams → length written.payload.bytes ≤ length out
  pub puts : IsPutOut written.payload (length out) out e new
  pub sent : SentPayload
  pub keeps : KeepsNew (unsettled s.unsettled) s.unsettled.next sent e.token (unsettled t.unsettled) t.unsettled.next
  pub cut : e.cut ≡ is_err answer
  pub control : noted_in sent.control ≡ written.payload.control
  pub streams : sent.streams.items ≡ written.payload.streams
  pub leaves : IsLeftAs written s t

-- what came of writing a payload into a buffer
abbrev pub EmitsPayload : Session → Parts → Bool → List ℕ → Result (Option Emitted) OutOfMemory → Session → List ℕ → Type 0
EmitsPayload s parts fair out (Ok (Some e)) t new = WritesPayload parts fair s out e t new
EmitsPayload s parts fair out (Ok None) t new = (new ≡ out) × KeepsNone s t × WritesNothing (length out) parts fair s (Ok tt) t
EmitsPayload s parts fair out (Err error) t new = (new ≡ out) × KeepsNone s t × (((end_of t ≡ end_of s) × (datagrams_view t ≡ datagrams_view s) × (counts_of t ≡ counts_of s)) ⊎ WritesNothing (length out) parts fair s (Err error) t)

-- a payload of at most so many bytes is lent: it is what the memory has in which it stands. Nothing may stand behind it where it
-- has all these bytes, and data
pub record IsLent (most : ℕ) (p : DraftView) (e : Emitted) (held : List ℕ) : Type 0 where
  pub stands : held ≡ p.bytes
  pub len : e.len ≡ length p.bytes
  pub ends : e.ends ≡ (nat_le most e.len && not (length p.streams == 0))

-- a payload was written and is lent, and what is to be reported of it stands under its token
pub record LendsPayload (most : ℕ) (parts : Parts) (fair : Bool) (s : Session) (e : Emitted) (t : Session) (held : List ℕ) : Type 0 where
  pub answer : Result (Unit {0}) OutOfMemory
  pub written : Writing
  pub writes : WritesParts most parts fair (blank s) answer written
  pub some : 0 < length written.payload.bytes
  pub within : (m : Made) (h : List Event) → From m h (end_of s).streams → length written.payload.bytes ≤ most
  pub lent : IsLent most written.payload e held
  pub sent : SentPayload
  pub keeps : KeepsNew (unsettled s.unsettled) s.unsettled.next sent e.token (unsettled t.unsettled) t.unsettled.next
  pub cut : e.cut ≡ is_err answer
  pub control : noted_in sent.control ≡ written.payload.control
  pub streams : sent.streams.items ≡ written.payload.streams
  pub leaves : IsLeftAs written s t

-- what came of writing a payload that is lent
abbrev pub EmitsLent : ℕ → Session → Parts → Bool → Result (Option Emitted) OutOfMemory → Session → List ℕ → Type 0
EmitsLent most s parts fair (Ok (Some e)) t held = LendsPayload most parts fair s e t held
EmitsLent most s parts fair (Ok None) t held = KeepsNone s t × WritesNothing most parts fair s (Ok tt) t
EmitsLent most s parts fair (Err error) t held = KeepsNone s t × (((end_of t ≡ end_of s) × (datagrams_view t ≡ datagrams_view s) × (counts_of t ≡ counts_of s)) ⊎ WritesNothing most parts fair s (Err error) t)

-- a buffer stays where no payload was written into it
abbrev pub KeepsBuffer : Result (Option Emitted) OutOfMemory → Buffer → Buffer → Type 0
KeepsBuffer (Ok (Some e)) was now = Unit {0}
KeepsBuffer (Ok None) was now = now ≡ was
KeepsBuffer (Err error) was now = now ≡ was

-- entries left what was pending, and streams had their turns: whatever history came before, it goes on with them
pub record GoesOnWithFrames (most : ℕ) (fair : Bool) (w v : World) : Type 0 where
  pub entries : List Entry
  pub turns : List (Option StreamMeta)
  pub from : (m : Made) (h : List Event) → From m h w → From m (with_turns most fair turns (with_entries entries h)) v
