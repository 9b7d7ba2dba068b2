-- What a frame of the peer does to an end.
use Rattle.std.specs.Prelude.{ℕ, false, ◌≡◌, length, Option, Some, None, Result, Ok, Err, List, ◌∷◌}
use Rattle.quic_values.specs.declared.memory.OutOfMemory.{OutOfMemory}
use Rattle.quic_wire.specs.declared.frame.Frame.{Frame}
use Rattle.quic_wire.specs.declared.frame.Frame.TheVariants as frames
use Rattle.quic_wire.specs.declared.error.ReceiveError.{ReceiveError}
use Rattle.quic_wire.specs.declared.error.ReceiveError.TheVariants as receive_error
use Rattle.quic_receiving.specs.declared.transmit.ShouldTransmit.{ShouldTransmit}
use Rattle.quic_history.specs.World.{World}
use Rattle.quic_streams.specs.Accounting.{CountsPieces}
use Rattle.quic_history.specs.History.{Event, Received, ReceivedReset, Sending, Step}
use Rattle.quic_history.specs.SendEvents.{RaisedData, RaisedLimit, RaisedCount, StoppedOwn}
use Rattle.quic_endpoint.specs.Ends.{EndState, with_counts_told, with_limit_told}

-- how many bytes of data a frame has
abbrev pub data_length : Frame → ℕ
data_length (frames.Stream f) = length f.bytes
data_length _ = 0

-- an answer, without whether a frame is to be sent
abbrev pub done_so : Result ShouldTransmit ReceiveError → Result (Unit {0}) ReceiveError
done_so (Ok transmit) = Ok tt
done_so (Err error) = Err error

-- the same of a call that is refused for lack of memory alone
abbrev pub stopped_so : Result ShouldTransmit ReceiveError → Result (Unit {0}) OutOfMemory
stopped_so (Ok transmit) = Ok tt
stopped_so (Err error) = Err (record {})

-- the call that a frame is. Others than these change nothing
abbrev pub event_of : Frame → Result ShouldTransmit ReceiveError → Option Event
event_of (frames.Stream f) answer = Some (Received f.id f.offset f.bytes f.fin answer)
event_of (frames.ResetStream f) answer = Some (ReceivedReset f.id f.error_code f.final_offset answer)
event_of (frames.StopSending f) answer = Some (Sending (StoppedOwn f.id f.error_code (stopped_so answer)))
event_of (frames.MaxData limit) answer = Some (Sending (RaisedData limit))
event_of (frames.MaxStreamData id limit) answer = Some (Sending (RaisedLimit id limit (done_so answer)))
event_of (frames.MaxStreams dir count) answer = Some (Sending (RaisedCount dir count (done_so answer)))
event_of _ answer = None

-- that call was made, if there is one
abbrev pub MakesCall : World → Option Event → World → Type 0
MakesCall u None v = v ≡ u
MakesCall u (Some e) v = Step u e v

-- and a history goes on with it
abbrev pub with_call_made : Option Event → List Event → List Event
with_call_made None h = h
with_call_made (Some e) h = e ∷ h

-- what a frame of a payload of so many bytes does with the pieces of the half that it reaches: its data keep the payload alive
abbrev pub AccountsFrame : World → Frame → ℕ → Result ShouldTransmit ReceiveError → World → Type 0
AccountsFrame u (frames.Stream f) size answer v = CountsPieces u f.id f.offset f.bytes f.fin size answer v
AccountsFrame u _ size answer v = Unit {0}

-- an answer by which no frame is to be sent
abbrev pub IsQuiet : Result ShouldTransmit ReceiveError → Type 0
IsQuiet (Ok transmit) = transmit.0 ≡ false
IsQuiet (Err error) = Unit {0}

-- one without a refusal
abbrev pub AnswersDone : Result ShouldTransmit ReceiveError → Type 0
AnswersDone (Ok transmit) = transmit.0 ≡ false
AnswersDone (Err error) = ⊥

-- one without a refusal but for lack of memory
abbrev pub IsDoneIfRoom : Result ShouldTransmit ReceiveError → Type 0
IsDoneIfRoom (Ok transmit) = transmit.0 ≡ false
IsDoneIfRoom (Err error) = error ≡ receive_error.OutOfMemory

-- which answers a frame may have: only data and resets give credit, and limits of the connection and frames that change
-- nothing are never refused
abbrev pub MayAnswer : Frame → Result ShouldTransmit ReceiveError → Type 0
MayAnswer (frames.Stream f) answer = Unit {0}
MayAnswer (frames.ResetStream f) answer = Unit {0}
MayAnswer (frames.StopSending f) answer = IsDoneIfRoom answer
MayAnswer (frames.MaxStreamData id limit) answer = IsQuiet answer
MayAnswer (frames.MaxStreams dir count) answer = IsQuiet answer
MayAnswer _ answer = AnswersDone answer

-- what an answer asks for is queued: MAX_DATA, and MAX_STREAMS where it is due. A refusal for lack of memory asks nothing
abbrev pub with_answer_told : Result ShouldTransmit ReceiveError → EndState → EndState
with_answer_told (Ok transmit) e = with_counts_told (with_limit_told transmit.0 e)
with_answer_told (Err (receive_error.Transport error)) e = with_counts_told e
with_answer_told (Err receive_error.CompactionMemory) e = with_counts_told e
with_answer_told (Err receive_error.OutOfMemory) e = e

-- what came of a frame
pub record ReceivesAt (e : EndState) (frame : Frame) (answer : Result ShouldTransmit ReceiveError) (f : EndState) : Type 0 where
  pub taken : EndState
  pub call : MakesCall e.streams (event_of frame answer) taken.streams
  pub pending : taken.pending ≡ e.pending
  pub may : MayAnswer frame answer
  pub is : f ≡ with_answer_told answer taken
