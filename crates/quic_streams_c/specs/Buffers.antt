-- Buffers that C holds.
use Rattle.std.specs.Prelude.{ℕ, ℤ, Bool, true, false, pos, negsuc, ◌≡◌, ◌==◌, ◌⊎◌, ◌++◌, ◌-◌, ◌<◌, ◌||◌, not, nat_lt, List, [], length, replicate, take, Option, Some, None, Result, Ok}
use denote.RawPtr.{Ptr, null_ptr}
use Rattle.std.specs.Vec.{vec_ptr}
use Rattle.quic_values.specs.declared.memory.OutOfMemory.{OutOfMemory}
use Rattle.quic_session.specs.declared.session.Session.{Session}
use Rattle.quic_session.specs.declared.buffer.Buffer.{Buffer}
use Rattle.quic_session.specs.declared.emitting.Emitted.{Emitted}
use Rattle.quic_session.specs.declared.emitting.Parts.{Parts}
use Rattle.quic_session.specs.Sessions.{end_of}
use Rattle.quic_session.specs.declared.processing.Progress.{Progress}
use Rattle.quic_session.specs.declared.processing.Halt.TheVariants as halt
use Rattle.quic_session.specs.Emitting.{EmitsLent, KeepsBuffer, GoesOnWithFrames}
use Rattle.quic_session.specs.Receiving.{ReceivesOnly}
use Rattle.quic_session.specs.Processing.{ProcessesHeld}
use Rattle.quic_streams_c.specs.declared.peer.RawError.{RawError}
use Rattle.quic_streams_c.specs.Calls.{Refuses, WithNumber}
use Rattle.quic_streams_c.specs.Frames.{TellsReceived}
use Rattle.quic_streams_c.specs.Payloads.{parts_at, TellsPayload}

-- what C holds: the buffer, and where its bytes stand and how many they are
pub record Held : Type 0 where
  pub value : Option Buffer
  pub bytes : Ptr
  pub len : ℕ

-- data and len of a buffer: where its bytes stand, and how many they are; NULL and 0 if it is closed
abbrev pub IsShown : Option Buffer → Ptr → ℕ → Type 0
IsShown None bytes len = (bytes ≡ null_ptr) × (len ≡ 0)
IsShown (Some b) bytes len = (bytes ≡ vec_ptr b.bytes) × (len ≡ length b.bytes.items)

-- the bytes of a buffer; one that is closed has none
abbrev pub bytes_of : Option Buffer → List ℕ
bytes_of None = []
bytes_of (Some b) = b.bytes.items

-- a buffer is open, and has at least so many bytes: those that it had, and zeros behind them
abbrev pub IsBufferReserved : Option Buffer → ℕ → Option Buffer → Type 0
IsBufferReserved old size None = ⊥
IsBufferReserved old size (Some b) = b.bytes.items ≡ bytes_of old ++ replicate (size - length (bytes_of old)) 0

-- one stays closed, or keeps its bytes
abbrev pub KeepsBufferBytes : Option Buffer → Option Buffer → Type 0
KeepsBufferBytes None new = new ≡ None
KeepsBufferBytes (Some b) None = ⊥
KeepsBufferBytes (Some b) (Some d) = d.bytes.items ≡ b.bytes.items

-- a buffer needs memory to have at least so many bytes: it is closed, or has fewer
abbrev pub NeedsMemory : Option Buffer → ℕ → Type 0
NeedsMemory None size = Unit {0}
NeedsMemory (Some b) size = length b.bytes.items < size

-- a buffer is open and long enough; out of memory, which only one that needs it may be, it is as it was
abbrev pub Reserves : Option Buffer → ℕ → ℤ → Option Buffer → Type 0
Reserves old size code new = ((code ≡ pos 0) × IsBufferReserved old size new) ⊎ ((code ≡ negsuc 1) × NeedsMemory old size × KeepsBufferBytes old new)

-- qs_buffer_reserve
abbrev pub ReservesRaw : Option Buffer → ℕ → ℤ → Held → Type 0
ReservesRaw old size code new = Reserves old size code new.value × IsShown new.value new.bytes new.len

-- a buffer is opened; out of memory, nothing changes
abbrev pub OpensBuffer : Type 0 → ℕ → ℤ → Held → Type 0
OpensBuffer Kept size code new = ((code ≡ pos 0) × IsBufferReserved None size new.value × IsShown new.value new.bytes new.len) ⊎ ((code ≡ negsuc 1) × Kept)

-- qs_buffer_free
abbrev pub FreesRaw : Held → Type 0
FreesRaw new = (new.value ≡ None) × IsShown None new.bytes new.len

-- a payload of at most so many bytes is written into a buffer, of these parts
pub record EmittingHeld (s : Session) (parts : Parts) (fair : Bool) (most : ℕ) (b : Buffer) (code : ℤ) (t : Session) (d : Buffer) (was now : List ℕ) : Type 0 where
  pub answer : Result (Option Emitted) OutOfMemory
  pub emits : EmitsLent most s parts fair answer t d.bytes.items
  pub buffer : KeepsBuffer answer b d
  pub from : GoesOnWithFrames most fair (end_of s).streams (end_of t).streams
  pub conn : t.conn ≡ s.conn
  pub tells : TellsPayload answer code was now

abbrev pub EmitsHeld : Session → ℕ → ℕ → ℕ → Buffer → ℤ → Session → Buffer → List ℕ → List ℕ → Type 0
EmitsHeld s parts fair most b code t d was now = WithNumber (parts_at parts) (Refuses s code t × (d ≡ b) × (now ≡ was)) (λ p. EmittingHeld s p (not (fair == 0)) most b code t d was now)

-- a call on a buffer: of a closed one the answer is QS_ERR_CLOSED, and it stays closed, without bytes
abbrev pub WithBuffer : Session → Option Buffer → ℤ → Session → Held → Type 0 → (Buffer → Buffer → Type 0) → Type 0
WithBuffer s None code t new Keeps Does = (code ≡ negsuc 0) × (t ≡ s) × (new.value ≡ None) × IsShown None new.bytes new.len × Keeps
WithBuffer s (Some b) code t new Keeps Does = by-new new.value
  where
    by-new : Option Buffer → Type 0
    by-new None = ⊥
    by-new (Some d) = Does b d × IsShown (Some d) new.bytes new.len

-- qs_emit_buffer
abbrev pub EmitsBufferRaw : Session → ℕ → ℕ → ℕ → Option Buffer → ℤ → Session → Held → List ℕ → List ℕ → Type 0
EmitsBufferRaw s parts fair most old code t new was now = WithBuffer s old code t new (now ≡ was) (λ b d. EmitsHeld s parts fair most b code t d was now)

-- the payload is processed from an offset on, and stays in front of a frame that the host processes
pub record ProcessesBuffer (s : Session) (b : Buffer) (size first : ℕ) (code : ℤ) (t : Session) (d : Buffer) (next : ℕ) (was now : RawError) : Type 0 where
  pub progress : Progress
  pub processes : ProcessesHeld s (take size b.bytes.items) first progress t
  pub others : ReceivesOnly s t
  pub kept : progress.answer ≡ Ok halt.OtherFrame → d ≡ b
  pub next_is : next ≡ progress.next
  pub tells : TellsReceived progress.answer code was now

-- the payload is the first bytes of a buffer, if it has so many, and the offset is none behind them
abbrev pub ReceivesHeld : Session → Buffer → ℕ → ℕ → ℤ → Session → Buffer → ℕ → RawError → RawError → Type 0
ReceivesHeld s b size first code t d next was now = by-size (nat_lt (length b.bytes.items) size || nat_lt size first)
  where
    by-size : Bool → Type 0
    by-size true = Refuses s code t × (d ≡ b) × (next ≡ first) × (now ≡ was)
    by-size false = ProcessesBuffer s b size first code t d next was now

-- qs_receive_buffer
abbrev pub ReceivesBufferRaw : Session → Option Buffer → ℕ → ℕ → ℤ → Session → Held → ℕ → RawError → RawError → Type 0
ReceivesBufferRaw s old size first code t new next was now = WithBuffer s old code t new ((next ≡ first) × (now ≡ was)) (λ b d. ReceivesHeld s b size first code t d next was now)
