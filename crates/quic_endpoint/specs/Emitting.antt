-- What an end writes into a payload.
use Rattle.std.specs.Prelude.{ℕ, Bool, ◌≡◌, ◌⊎◌, ◌<◌, ◌≤◌, ◌+◌, List, [], length, unwrap_or, Result, Ok, Err, OnOk, OnErr}
use Rattle.quic_values.specs.declared.memory.OutOfMemory.{OutOfMemory}
use Rattle.quic_datagrams.specs.declared.stats.FrameStats.{FrameStats}
use Rattle.quic_queue.specs.SendOrder.{line}
use Rattle.quic_retransmits.specs.Pending.{Pending, nothing}
use Rattle.quic_writing.specs.Appended.{AppendsFrames}
use Rattle.quic_history.specs.World.{Made}
use Rattle.quic_history.specs.History.{Event, From}
use Rattle.quic_history.specs.declared.control.ControlKind.{ControlKind}
use Rattle.quic_streams.specs.Payload.{PayloadPlace, WritesKinds, WritesEntries, IsKindDone, LeavesKind, control_order}
use Rattle.quic_streams.specs.Settling.{SentView}
use Rattle.quic_streams.specs.Sent.{sent_view}
use Rattle.quic_streams.specs.Transmitting.{WritesStreamFrames, GoesOnWithTurns, end_writer, told_bytes}
use Rattle.quic_endpoint.specs.Ends.{EndState}
use Rattle.quic_endpoint.specs.declared.payload.Payload.{Payload}

-- bytes: the frames, spelled one after another
-- sent: what the writers of the frames handed back
pub record PayloadView : Type 0 where
  pub bytes : List ℕ
  pub sent : SentView

abbrev pub payload_view : Payload → PayloadView
payload_view p = record { bytes = p.bytes.items; sent = sent_view p.sent }

-- what was noted of the frames beside STREAM
abbrev pub control_in : PayloadView → Pending
control_in payload = unwrap_or payload.sent.control nothing

-- an end with a payload and the counters of its frames
abbrev pub place_at : EndState → List ℕ → Pending → FrameStats → PayloadPlace
place_at e bytes sent stats = record { end = e.streams; pending = e.pending; sheet = record { bytes = bytes; sent = sent; stats = stats } }

-- the frames beside STREAM are written into an empty payload
pub record EmitsControl (most : ℕ) (e : EndState) (answer : Result (Unit {0}) OutOfMemory) (f : EndState) (bytes : List ℕ) (sent : Pending) : Type 0 where
  pub before : FrameStats
  pub after : FrameStats
  pub writes : WritesKinds most control_order (place_at e [] nothing before) answer (place_at f bytes sent after)
  pub full : OnOk answer ((kind : ControlKind) → IsKindDone kind most (place_at f bytes sent after))
  pub refused : OnErr answer (LeavesKind most (place_at f bytes sent after))
  pub from : WritesEntries (record { bytes = []; sent = nothing; stats = before }) (record { bytes = bytes; sent = sent; stats = after }) e.streams f.streams

-- STREAM frames are written behind them
pub record EmitsStreams (most : ℕ) (fair : Bool) (e : EndState) (bytes : List ℕ) (answer : Result (Unit {0}) OutOfMemory) (f : EndState) (payload : PayloadView) : Type 0 where
  pub writes : WritesStreamFrames most fair e.streams bytes [] f.streams payload.bytes payload.sent.streams
  pub full : OnOk answer ((line f.streams.queue ≡ []) ⊎ (most ≤ length payload.bytes + 25))
  pub refused : OnErr answer ((0 < length (line f.streams.queue)) × (length payload.bytes + 25 < most))
  pub carries : (m : Made) (h : List Event) → From m h e.streams → AppendsFrames (told_bytes m h) most (end_writer e.streams bytes []) (end_writer f.streams payload.bytes payload.sent.streams)
  pub from : GoesOnWithTurns most fair [] payload.sent.streams e.streams f.streams
  pub pending : f.pending ≡ e.pending

-- memory ran out before one was written
pub record EmitsNoStream (e : EndState) (bytes : List ℕ) (f : EndState) (payload : PayloadView) : Type 0 where
  pub same : f ≡ e
  pub bytes_are : payload.bytes ≡ bytes
  pub none : payload.sent.streams ≡ []

-- a payload was written, also where memory ran out: then the frames that were written before stand in it
pub data EmitsAt (most : ℕ) (fair : Bool) (e : EndState) (payload : PayloadView) : Result (Unit {0}) OutOfMemory → EndState → Type 0 where
  whole : {answer : Result (Unit {0}) OutOfMemory} {f : EndState} → (between : EndState) (bytes : List ℕ) → EmitsControl most e (Ok tt) between bytes (control_in payload)
      → EmitsStreams most fair between bytes answer f payload → EmitsAt most fair e payload answer f
  cut : {error : OutOfMemory} {f : EndState} → (between : EndState) (bytes : List ℕ) → EmitsControl most e (Err error) between bytes (control_in payload)
      → EmitsNoStream between bytes f payload → EmitsAt most fair e payload (Err error) f
