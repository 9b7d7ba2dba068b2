-- The lines that answer steps.
use Rattle.std.specs.Prelude.{ℕ, Bool, true, false, List, ◌++◌, ◌==◌, if◌then◌else◌, Option, Some, None, codes}
use Rattle.std.specs.Fmt.{decimal}
use Rattle.std.specs.List.{flat_map}
use Rattle.quic_wire.specs.declared.ReceiveError.{ReceiveError}
use Rattle.quic_wire.specs.declared.ReceiveError.TheVariants as faults
use Rattle.quic_wire.specs.declared.StreamEvent.{StreamEvent}
use Rattle.quic_wire.specs.declared.StreamEvent.TheVariants as events
use Rattle.quic_wire.specs.declared.Dir.{Dir}
use Rattle.quic_wire.specs.declared.Dir.TheVariants.{Bi, Uni}
use Rattle.quic_steps.specs.Errors.{number_of}
use Rattle.quic_steps.specs.declared.steps.PairError.{PairError}
use Rattle.quic_steps.specs.declared.steps.PairError.TheVariants.{NoSuchPayload, NoSuchFrame, NotAccepted, UnknownId, OutOfMemory, AlreadySettled, LimitsBelow, Undecided, Decided}
use Rattle.quic_steps.specs.declared.steps.Reply.{Reply}
use Rattle.quic_steps.specs.declared.steps.Reply.TheVariants as replies
use Rattle.quic_steps.specs.declared.steps.Last.{Last}
use Rattle.quic_steps.specs.declared.steps.Last.TheVariants as lasts
use Rattle.quic_assembler.specs.declared.Chunk.{Chunk}
use Rattle.quic_lines.specs.Field.{hex_form}

-- the name of the reason for which a step is refused
abbrev pub reason_name : PairError → List ℕ
reason_name NoSuchPayload = codes "NoSuchPayload"
reason_name NoSuchFrame = codes "NoSuchFrame"
reason_name NotAccepted = codes "NotAccepted"
reason_name UnknownId = codes "UnknownId"
reason_name OutOfMemory = codes "OutOfMemory"
reason_name AlreadySettled = codes "AlreadySettled"
reason_name LimitsBelow = codes "LimitsBelow"
reason_name Undecided = codes "Undecided"
reason_name Decided = codes "Decided"

-- the reason's number and its name
abbrev pub refusal_text : PairError → List ℕ
refusal_text error = codes "refused " ++ decimal (number_of error) ++ codes " " ++ reason_name error

abbrev pub direction_text : Dir → List ℕ
direction_text Bi = codes "bi"
direction_text Uni = codes "uni"

-- the name of a transport error's code (RFC 9000 section 20.1)
abbrev pub code_name : ℕ → List ℕ
code_name code =
    if code == 1 then codes "INTERNAL_ERROR"
    else if code == 3 then codes "FLOW_CONTROL_ERROR"
    else if code == 4 then codes "STREAM_LIMIT_ERROR"
    else if code == 5 then codes "STREAM_STATE_ERROR"
    else if code == 6 then codes "FINAL_SIZE_ERROR"
    else if code == 7 then codes "FRAME_ENCODING_ERROR"
    else if code == 9 then codes "CONNECTION_ID_LIMIT_ERROR"
    else if code == 10 then codes "PROTOCOL_VIOLATION"
    else codes "NO_ERROR"

abbrev pub fault_text : ReceiveError → List ℕ
fault_text (faults.Transport error) = code_name error.code
fault_text faults.OutOfMemory = codes "OutOfMemory"
fault_text faults.CompactionMemory = codes "CompactionMemory"

abbrev pub stopped_text : ℕ → ℕ → List ℕ
stopped_text id code = codes "stopped " ++ decimal id ++ codes " " ++ decimal code

abbrev pub event_text : StreamEvent → List ℕ
event_text (events.Opened dir) = codes "opened " ++ direction_text dir
event_text (events.Readable id) = codes "readable " ++ decimal id
event_text (events.Writable id) = codes "writable " ++ decimal id
event_text (events.Finished id) = codes "finished " ++ decimal id
event_text (events.Stopped id code) = stopped_text id code
event_text (events.Available dir) = codes "available " ++ direction_text dir

-- each chunk's offset and bytes, followed by a space
abbrev pub chunk_text : Chunk → List ℕ
chunk_text chunk = decimal chunk.offset ++ codes ":" ++ hex_form chunk.bytes ++ codes " "

abbrev pub last_text : Last → List ℕ
last_text lasts.Blocked = codes "blocked"
last_text lasts.Ended = codes "end"
last_text (lasts.Reset code) = codes "reset " ++ decimal code
last_text lasts.Memory = codes "memory"
last_text lasts.More = codes "more"

abbrev pub transmit_text : Bool → List ℕ
transmit_text true = codes " transmit"
transmit_text false = codes " quiet"

abbrev pub read_text : List Chunk → Last → Bool → List ℕ
read_text chunks last transmit = flat_map chunk_text chunks ++ last_text last ++ transmit_text transmit

abbrev pub wrote_text : ℕ → ℕ → List ℕ
wrote_text bytes chunks = codes "wrote " ++ decimal bytes ++ codes " chunks " ++ decimal chunks

abbrev pub payload_text : ℕ → List ℕ → List ℕ
payload_text number bytes = codes "payload " ++ decimal number ++ codes " " ++ hex_form bytes

abbrev pub reply_text : Reply → List ℕ
reply_text replies.Done = codes "ok"
reply_text replies.DoneTransmit = codes "ok transmit"
reply_text (replies.Fault fault) = codes "error " ++ fault_text fault
reply_text (replies.Id id) = codes "id " ++ decimal id
reply_text replies.Nothing = codes "none"
reply_text (replies.Wrote count) = codes "wrote " ++ decimal count
reply_text (replies.WroteChunks written) = wrote_text written.bytes written.chunks
reply_text replies.Blocked = codes "blocked"
reply_text (replies.Stopped code) = codes "stopped " ++ decimal code
reply_text replies.Closed = codes "closed"
reply_text replies.Illegal = codes "illegal"
reply_text (replies.Read chunks last transmit) = read_text chunks.items last transmit
reply_text (replies.Code code) = codes "code " ++ decimal code
reply_text (replies.Expanded true) = codes "expanded"
reply_text (replies.Expanded false) = codes "not expanded"
reply_text (replies.Event event) = event_text event
reply_text (replies.Payload number bytes) = payload_text number bytes.items

-- the reply for a payload that was handed in whole: how many frames were accepted, and the fault of the next one if it has one
abbrev pub whole_text : ℕ → Option ReceiveError → List ℕ
whole_text accepted None = codes "accepted " ++ decimal accepted
whole_text accepted (Some fault) = codes "accepted " ++ decimal accepted ++ codes " " ++ fault_text fault
