-- What the calls of an end are replied.
use Rattle.std.specs.Prelude.{ℕ, if◌then◌else◌, Option, Some, None, Result, Ok, Err}
use Rattle.std.specs.Global.{Vec}
use Rattle.quic_values.specs.declared.memory.OutOfMemory.{OutOfMemory}
use Rattle.quic_wire.specs.declared.event.StreamEvent.{StreamEvent}
use Rattle.quic_wire.specs.declared.error.ReceiveError.{ReceiveError}
use Rattle.quic_wire.specs.declared.error.ReceiveError.TheVariants as receive_error
use Rattle.quic_sending.specs.declared.send.Written.{Written}
use Rattle.quic_sending.specs.declared.send.WriteError.{WriteError}
use Rattle.quic_sending.specs.declared.send.WriteError.TheVariants as write_error
use Rattle.quic_sending.specs.declared.send.FinishError.{FinishError}
use Rattle.quic_sending.specs.declared.send.FinishError.TheVariants as finish_error
use Rattle.quic_sending.specs.declared.errors.HandleError.{HandleError}
use Rattle.quic_sending.specs.declared.errors.HandleError.TheVariants as handle_error
use Rattle.quic_receiving.specs.declared.errors.ReadableError.{ReadableError}
use Rattle.quic_receiving.specs.declared.errors.ReadableError.TheVariants as readable_error
use Rattle.quic_receiving.specs.declared.transmit.ShouldTransmit.{ShouldTransmit}
use Rattle.quic_history.specs.declared.progress.LastAnswer.{LastAnswer}
use Rattle.quic_history.specs.declared.progress.LastAnswer.TheVariants as last_answer
use Rattle.quic_streams.specs.declared.batches.ReadSome.{ReadSome}
use Rattle.quic_streams.specs.declared.settling.SentPayload.{SentPayload}
use Rattle.quic_steps.specs.declared.steps.Last.{Last}
use Rattle.quic_steps.specs.declared.steps.Last.TheVariants as last
use Rattle.quic_steps.specs.declared.steps.Reply.{Reply}
use Rattle.quic_steps.specs.declared.steps.Reply.TheVariants.{Done, DoneTransmit, Fault, Id, Nothing, Wrote, WroteChunks, Blocked, Stopped, Closed, Illegal, Read, Code, Event, Payload}
use Rattle.quic_steps.specs.declared.steps.PairError.{PairError}
use Rattle.quic_steps.specs.declared.steps.PairError.TheVariants as refusals

-- the reply to a step, or why it was refused
abbrev pub Answer : Type 0
Answer = Result Reply PairError

-- the answer of a step for which there was no memory
abbrev pub wants_memory : Answer
wants_memory = Err refusals.OutOfMemory

-- the reply to the id of a stream, or to none
abbrev pub accepted_reply : Option ℕ → Answer
accepted_reply (Some id) = Ok (Id id)
accepted_reply None = Ok Nothing

-- to a stream that is opened
abbrev pub opened_reply : Result (Option ℕ) OutOfMemory → Answer
opened_reply (Ok id) = accepted_reply id
opened_reply (Err error) = wants_memory

-- to a write that took nothing
abbrev pub unwritten_reply : WriteError → Answer
unwritten_reply write_error.Blocked = Ok Blocked
unwritten_reply (write_error.Stopped code) = Ok (Stopped code)
unwritten_reply write_error.ClosedStream = Ok Closed
unwritten_reply write_error.OutOfMemory = wants_memory

-- to a write
abbrev pub written_reply : Result Written WriteError → Answer
written_reply (Ok written) = Ok (Wrote written.bytes)
written_reply (Err error) = unwritten_reply error

-- to a write of chunks
abbrev pub chunks_reply : Result Written WriteError → Answer
chunks_reply (Ok written) = Ok (WroteChunks written)
chunks_reply (Err error) = unwritten_reply error

-- to an end that was refused
abbrev pub unfinished_reply : FinishError → Answer
unfinished_reply (finish_error.Stopped code) = Ok (Stopped code)
unfinished_reply finish_error.ClosedStream = Ok Closed
unfinished_reply finish_error.OutOfMemory = wants_memory

-- to an end
abbrev pub finished_reply : Result (Unit {0}) FinishError → Answer
finished_reply (Ok done) = Ok Done
finished_reply (Err error) = unfinished_reply error

-- to a call that was refused
abbrev pub unhandled_reply : HandleError → Answer
unhandled_reply handle_error.ClosedStream = Ok Closed
unhandled_reply handle_error.OutOfMemory = wants_memory

-- to a call that answers nothing
abbrev pub handled_reply : Result (Unit {0}) HandleError → Answer
handled_reply (Ok done) = Ok Done
handled_reply (Err error) = unhandled_reply error

-- to a code, or to none
abbrev pub code_reply : Result (Option ℕ) HandleError → Answer
code_reply (Ok (Some code)) = Ok (Code code)
code_reply (Ok None) = Ok Nothing
code_reply (Err error) = unhandled_reply error

-- how a read ended
abbrev pub last_of : LastAnswer → Last
last_of last_answer.Blocked = last.Blocked
last_of last_answer.Ended = last.Ended
last_of (last_answer.Reset code) = last.Reset code
last_of last_answer.Memory = last.Memory
last_of last_answer.More = last.More

-- to a reader that was refused
abbrev pub unread_reply : ReadableError → Answer
unread_reply readable_error.ClosedStream = Ok Closed
unread_reply readable_error.IllegalOrderedRead = Ok Illegal
unread_reply readable_error.OutOfMemory = wants_memory

-- to a read
abbrev pub read_reply : Result ReadSome ReadableError → Answer
read_reply (Ok read) = Ok (Read read.chunks (last_of read.last) read.transmit.0)
read_reply (Err error) = unread_reply error

-- to an event, or to none
abbrev pub event_reply : Option StreamEvent → Answer
event_reply (Some event) = Ok (Event event)
event_reply None = Ok Nothing

-- to a call that may run out of memory
abbrev pub done_reply : Result (Unit {0}) OutOfMemory → Answer
done_reply (Ok done) = Ok Done
done_reply (Err error) = wants_memory

-- to a report of a payload; where something came back, memory ran out
abbrev pub report_reply : Result (Unit {0}) SentPayload → Answer
report_reply (Ok done) = Ok Done
report_reply (Err back) = wants_memory

-- a refusal of a frame is a reply, unless it is out of memory
abbrev pub received_reply : Result ShouldTransmit ReceiveError → Answer
received_reply (Ok transmit) = Ok (if transmit.0 then DoneTransmit else Done)
received_reply (Err (receive_error.Transport error)) = Ok (Fault (receive_error.Transport error))
received_reply (Err receive_error.CompactionMemory) = Ok (Fault receive_error.CompactionMemory)
received_reply (Err receive_error.OutOfMemory) = wants_memory

-- a payload with its number and its bytes, unless memory ran out
abbrev pub payload_reply : {E : Type 0} → ℕ → Result (Unit {0}) OutOfMemory → Result (Vec ℕ) E → Answer
payload_reply number (Ok done) (Ok bytes) = Ok (Payload number bytes)
payload_reply number (Ok done) (Err error) = wants_memory
payload_reply number (Err error) bytes = wants_memory
