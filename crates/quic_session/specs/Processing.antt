-- What a payload does to a session if other frames stand between those of the library (RFC 9000 section 12.4).
use Rattle.std.specs.Prelude.{ℕ, ◌≡◌, ◌⊎◌, ◌≤◌, ◌-◌, true, List, [], ◌∷◌, ◌++◌, length, drop, map, Result, Ok, Err}
use Rattle.quic_wire.specs.declared.frame.Frame.{Frame}
use Rattle.quic_wire.specs.Frames.{BeginsFrames, AreFrames}
use Rattle.quic_session.specs.declared.session.Session.{Session}
use Rattle.quic_session.specs.declared.receiving.Received.{Received}
use Rattle.quic_session.specs.declared.receiving.PayloadError.{PayloadError}
use Rattle.quic_session.specs.declared.receiving.PayloadError.TheVariants as payload_error
use Rattle.quic_session.specs.declared.processing.Progress.{Progress}
use Rattle.quic_session.specs.declared.processing.Halt.{Halt}
use Rattle.quic_session.specs.declared.processing.Halt.TheVariants as halt
use Rattle.quic_session.specs.Receiving.{FrameCall, TakesFrames, ReceivesFrame, StopsAtRefused, GoesOnWithCalls, payload_answer}
use Rattle.quic_session.specs.Runs.{begins_with, is_own_type, is_other_type, BeginsSkipped, BeginsRun, BeginsMalformed}

-- the frames of calls
abbrev pub called_frames : List FrameCall → List Frame
called_frames calls = map (λ c. c.frame) calls

-- the bytes were processed by calls, up to the rest: a skipped frame changes nothing, and the frames of a run are accepted one
-- after another, as those of a payload that is as long as the run
pub data ProcessesRuns (s : Session) (bytes : List ℕ) : List FrameCall → List ℕ → Session → Type 0 where
  none : ProcessesRuns s bytes [] bytes s
  skips : {calls : List FrameCall} {b : List ℕ} {t : Session} → ProcessesRuns s bytes calls b t → (c : List ℕ) → BeginsSkipped b c → ProcessesRuns s bytes calls c t
  accepts : {earlier : List FrameCall} {b : List ℕ} {t u : Session} → ProcessesRuns s bytes earlier b t → (c : List ℕ) (calls : List FrameCall) → BeginsRun b (called_frames calls) c
      → TakesFrames (length b - length c) t calls u → ProcessesRuns s bytes (earlier ++ calls) c u

-- why processing stops in front of the rest: nothing is left, the host processes the next frame, what stands there is malformed,
-- or there is no memory for the frames that begin there
abbrev pub StopsFor : List ℕ → Result Halt PayloadError → Type 0
StopsFor rest (Ok halt.End) = rest ≡ []
StopsFor rest (Ok halt.OtherFrame) = begins_with is_other_type rest ≡ true
StopsFor rest (Err payload_error.Malformed) = BeginsMalformed rest
StopsFor rest (Err payload_error.OutOfMemory) = begins_with is_own_type rest ≡ true
StopsFor rest (Err (payload_error.Transport error)) = ⊥

-- it stopped between frames
pub record StopsBetween (s : Session) (bytes rest : List ℕ) (answer : Result Halt PayloadError) (t : Session) : Type 0 where
  pub calls : List FrameCall
  pub processes : ProcessesRuns s bytes calls rest t
  pub from : GoesOnWithCalls calls s t
  pub why : StopsFor rest answer

-- or at a frame of a run that was rejected: the frames before it were accepted, and the rest begins with it
pub record StopsAtRejected (s : Session) (bytes rest : List ℕ) (answer : Result Halt PayloadError) (t : Session) : Type 0 where
  pub run : List ℕ
  pub before : Session
  pub earlier : List FrameCall
  pub processes : ProcessesRuns s bytes earlier run before
  pub calls : List FrameCall
  pub rejected : FrameCall
  pub others : List Frame
  pub behind : List ℕ
  pub is_run : BeginsRun run (called_frames calls ++ rejected.frame ∷ others) behind
  pub accepted : BeginsFrames run (called_frames calls) rest
  pub left : BeginsFrames rest (rejected.frame ∷ others) behind
  pub between : Session
  pub accepts : TakesFrames (length run - length behind) before calls between
  pub rejects : ReceivesFrame between rejected.frame (length run - length behind) rejected.answer t
  pub from : GoesOnWithCalls (earlier ++ (calls ++ rejected ∷ [])) s t
  pub error : PayloadError
  pub why : payload_answer rejected.answer ≡ Err error
  pub answers : answer ≡ Err error

-- a payload was processed from an offset on
pub record Processes (s : Session) (payload : List ℕ) (first : ℕ) (p : Progress) (t : Session) : Type 0 where
  pub on : first ≤ p.next
  pub within : p.next ≤ length payload
  pub stops : StopsBetween s (drop first payload) (drop p.next payload) p.answer t ⊎ StopsAtRejected s (drop first payload) (drop p.next payload) p.answer t

-- a payload of the library's frames alone was taken out of a buffer without a copy, and one of its frames was rejected. The
-- buffer no longer has the payload, so the offset is that of its first frame
pub record LosesPayload (s : Session) (payload : List ℕ) (p : Progress) (t : Session) : Type 0 where
  pub all : List Frame
  pub spelled : AreFrames payload all
  pub received : Received
  pub stops : StopsAtRefused (length payload) 0 all s received t
  pub error : PayloadError
  pub why : received.answer ≡ Err error
  pub answers : p.answer ≡ Err error
  pub next : p.next ≡ 0

-- the payload of a buffer was processed from an offset on
abbrev pub ProcessesHeld : Session → List ℕ → ℕ → Progress → Session → Type 0
ProcessesHeld s payload first p t = Processes s payload first p t ⊎ LosesPayload s payload p t
