-- Frames and payloads that C hands in.
use Rattle.std.specs.Prelude.{ℕ, ℤ, Bool, true, false, nat_lt, pos, negsuc, ◌≡◌, ◌⊎◌, ◌==◌, ◌++◌, max, min, not, List, length, take, drop, replicate, Result, Ok, Err, codes}
use Rattle.quic_wire.specs.declared.frame.Frame.{Frame}
use Rattle.quic_wire.specs.declared.frame.Frame.TheVariants as frames
use Rattle.quic_wire.specs.declared.error.ReceiveError.{ReceiveError}
use Rattle.quic_wire.specs.declared.error.ReceiveError.TheVariants as receive_error
use Rattle.quic_receiving.specs.declared.transmit.ShouldTransmit.{ShouldTransmit}
use Rattle.quic_history.specs.World.{Made}
use Rattle.quic_history.specs.History.{Event, From}
use Rattle.quic_endpoint.specs.Receiving.{data_length, with_call_made}
use Rattle.quic_session.specs.declared.session.Session.{Session}
use Rattle.quic_session.specs.declared.processing.Progress.{Progress}
use Rattle.quic_session.specs.declared.processing.Halt.{Halt}
use Rattle.quic_session.specs.declared.processing.Halt.TheVariants as halt
use Rattle.quic_session.specs.declared.receiving.PayloadError.{PayloadError}
use Rattle.quic_session.specs.declared.receiving.PayloadError.TheVariants as payload_error
use Rattle.quic_session.specs.Sessions.{end_of}
use Rattle.quic_session.specs.Receiving.{ReceivesFrame, ReceivesOnly, call_of}
use Rattle.quic_session.specs.Processing.{Processes}
use Rattle.quic_streams_c.specs.declared.peer.RawError.{RawError}
use Rattle.quic_streams_c.specs.Calls.{Refuses, WithNumber}
use Rattle.quic_streams_c.specs.Numbers.{small, dir_at}

-- an error as C is told it: its code, how many bytes of its reason, at most 80, are told, and these, with zeros behind
-- them
pub record IsTold (code : ℕ) (reason : List ℕ) (error : RawError) : Type 0 where
  pub code_is : error.code ≡ code
  pub length_is : error.reason_len ≡ min (length reason) 80
  pub reason_is : error.reason ≡ take error.reason_len reason ++ drop error.reason_len (replicate 80 0)

-- what C is told of a frame
abbrev pub TellsTaken : Result ShouldTransmit ReceiveError → ℤ → RawError → RawError → Type 0
TellsTaken (Ok transmit) code was now = (code ≡ pos 0) × (now ≡ was)
TellsTaken (Err receive_error.CompactionMemory) code was now = (code ≡ negsuc 1) × (now ≡ was)
TellsTaken (Err receive_error.OutOfMemory) code was now = (code ≡ negsuc 1) × (now ≡ was)
TellsTaken (Err (receive_error.Transport error)) code was now = (code ≡ negsuc 9) × IsTold error.code error.reason.now now

-- a frame is handed in, that came in a payload of so many bytes
pub record HandsFrame (s : Session) (frame : Frame) (size : ℕ) (code : ℤ) (t : Session) (was now : RawError) : Type 0 where
  pub answer : Result ShouldTransmit ReceiveError
  pub receives : ReceivesFrame s frame (max size (data_length frame)) answer t
  pub from : (m : Made) (h : List Event) → From m h (end_of s).streams → From m (with_call_made (call_of frame answer) h) (end_of t).streams
  pub others : ReceivesOnly s t
  pub tells : TellsTaken answer code was now

-- a number is refused
abbrev pub Denies : Session → ℤ → Session → RawError → RawError → Type 0
Denies s code t was now = Refuses s code t × (now ≡ was)

-- or there was no memory for a copy of the bytes
abbrev pub CopiesNone : Session → ℤ → Session → RawError → RawError → Type 0
CopiesNone s code t was now = (code ≡ negsuc 1) × (t ≡ s) × (now ≡ was)

-- qs_on_stream
abbrev pub HandsStream : Session → ℕ → ℕ → List ℕ → ℕ → ℕ → ℤ → Session → RawError → RawError → Type 0
HandsStream s id offset bytes fin size code t was now = WithNumber (small id) (Denies s code t was now) (λ i. WithNumber (small offset) (Denies s code t was now) (λ o.
    CopiesNone s code t was now ⊎ HandsFrame s (frames.Stream (record { id = i; offset = o; fin = not (fin == 0); bytes = bytes })) size code t was now))

-- qs_on_reset_stream
abbrev pub HandsReset : Session → ℕ → ℕ → ℕ → ℤ → Session → RawError → RawError → Type 0
HandsReset s id error size code t was now = WithNumber (small id) (Denies s code t was now) (λ i. WithNumber (small error) (Denies s code t was now) (λ e. WithNumber (small size) (Denies s code t was now) (λ n.
    HandsFrame s (frames.ResetStream (record { id = i; error_code = e; final_offset = n })) 0 code t was now)))

-- qs_on_stop_sending
abbrev pub HandsStop : Session → ℕ → ℕ → ℤ → Session → RawError → RawError → Type 0
HandsStop s id error code t was now = WithNumber (small id) (Denies s code t was now) (λ i. WithNumber (small error) (Denies s code t was now) (λ e.
    HandsFrame s (frames.StopSending (record { id = i; error_code = e })) 0 code t was now))

-- qs_on_max_data
abbrev pub HandsMaxData : Session → ℕ → ℤ → Session → RawError → RawError → Type 0
HandsMaxData s limit code t was now = WithNumber (small limit) (Denies s code t was now) (λ n. HandsFrame s (frames.MaxData n) 0 code t was now)

-- qs_on_max_stream_data
abbrev pub HandsMaxStreamData : Session → ℕ → ℕ → ℤ → Session → RawError → RawError → Type 0
HandsMaxStreamData s id limit code t was now = WithNumber (small id) (Denies s code t was now) (λ i. WithNumber (small limit) (Denies s code t was now) (λ n.
    HandsFrame s (frames.MaxStreamData i n) 0 code t was now))

-- qs_on_max_streams
abbrev pub HandsMaxStreams : Session → ℕ → ℕ → ℤ → Session → RawError → RawError → Type 0
HandsMaxStreams s dir count code t was now = WithNumber (dir_at dir) (Denies s code t was now) (λ d. WithNumber (small count) (Denies s code t was now) (λ n.
    HandsFrame s (frames.MaxStreams d n) 0 code t was now))

-- qs_on_datagram
abbrev pub HandsDatagram : Session → List ℕ → ℤ → Session → RawError → RawError → Type 0
HandsDatagram s bytes code t was now = CopiesNone s code t was now ⊎ HandsFrame s (frames.Datagram (record { bytes = bytes })) 0 code t was now

-- what C is told of a payload: that all of it was processed, or that the host processes the next frame, or why no more was
abbrev pub TellsReceived : Result Halt PayloadError → ℤ → RawError → RawError → Type 0
TellsReceived (Ok halt.End) code was now = (code ≡ pos 0) × (now ≡ was)
TellsReceived (Ok halt.OtherFrame) code was now = (code ≡ pos 3) × (now ≡ was)
TellsReceived (Err payload_error.Malformed) code was now = (code ≡ negsuc 10) × IsTold 7 (codes "malformed frame") now
TellsReceived (Err (payload_error.Transport error)) code was now = (code ≡ negsuc 9) × IsTold error.code error.reason.now now
TellsReceived (Err payload_error.OutOfMemory) code was now = (code ≡ negsuc 1) × (now ≡ was)

-- a payload is processed from an offset on
pub record ProcessesRaw (s : Session) (payload : List ℕ) (first : ℕ) (code : ℤ) (t : Session) (next : ℕ) (was now : RawError) : Type 0 where
  pub progress : Progress
  pub processes : Processes s payload first progress t
  pub others : ReceivesOnly s t
  pub next_is : next ≡ progress.next
  pub tells : TellsReceived progress.answer code was now

-- qs_receive: an offset behind the payload is refused
abbrev pub ReceivesRaw : Session → List ℕ → ℕ → ℤ → Session → ℕ → RawError → RawError → Type 0
ReceivesRaw s payload first code t next was now = by-offset (nat_lt (length payload) first)
  where
    by-offset : Bool → Type 0
    by-offset true = Refuses s code t × (next ≡ first) × (now ≡ was)
    by-offset false = ProcessesRaw s payload first code t next was now
