-- The steps of a pair with their replies, the first one first, and what a caller knows from them.
use Rattle.std.specs.Prelude.{ℕ, Bool, true, false, ◌==◌, ◌&&◌, if◌then◌else◌, List, [], ◌∷◌, ◌++◌, Option, None, Ok, Err, take}
use Rattle.std.specs.List.{concat}
use Rattle.quic_assembler.specs.declared.chunk.Chunk.{Chunk}
use Rattle.quic_wire.specs.declared.event.StreamEvent.{StreamEvent}
use Rattle.quic_wire.specs.declared.event.StreamEvent.TheVariants as stream_event
use Rattle.quic_wire.specs.declared.error.ReceiveError.{ReceiveError}
use Rattle.quic_wire.specs.declared.error.ReceiveError.TheVariants as receive_error
use Rattle.quic_wire.specs.Codes.{INTERNAL_ERROR}
use Rattle.quic_history.specs.History.{ReadChunk}
use Rattle.quic_steps.specs.declared.steps.End.{End}
use Rattle.quic_steps.specs.declared.steps.End.TheVariants.{A, B}
use Rattle.quic_steps.specs.declared.steps.Step.{Step}
use Rattle.quic_steps.specs.declared.steps.Step.TheVariants as steps
use Rattle.quic_steps.specs.declared.steps.Reply.TheVariants.{Done, DoneTransmit, Fault, Id, Wrote, WroteChunks, Stopped, Read, Code, Event}
use Rattle.quic_steps.specs.declared.steps.PairError.TheVariants.{OutOfMemory as NoMemory}
use Rattle.quic_steps.specs.declared.steps.Last.{Last}
use Rattle.quic_steps.specs.declared.steps.Last.TheVariants as last
use Rattle.quic_exchange.specs.Replies.{Answer}
use Rattle.quic_exchange.specs.declared.early.EarlyLimits.{EarlyLimits}
use Rattle.quic_exchange.specs.declared.unsettled.Report.{Report}
use Rattle.quic_exchange.specs.declared.unsettled.Report.TheVariants.{Lost, Acknowledged}
use Rattle.quic_exchange.specs.State.{peer}

-- a step with its reply
abbrev pub StepTaken : Type 0
StepTaken = Step × Answer

-- steps with their replies, the first one first
abbrev pub History : Type 0
History = List StepTaken

-- a frame, by the number of its payload and its place there
abbrev pub FramePlace : Type 0
FramePlace = ℕ × ℕ

-- what a caller knows of what one end sends on one stream
pub record Flow : Type 0 where
  -- the bytes that writes were told were taken
  pub written : List ℕ
  -- it was ended
  pub finished : Bool
  -- the codes with which it was given up
  pub resets : List ℕ
  -- those with which its reader stopped it
  pub stops : List ℕ
  -- the chunks that reads gave, the last first
  pub given : List ReadChunk
  -- a read told the end
  pub ended : Bool
  -- its reader was opened to read bytes as they come
  pub unordered : Bool
  -- the codes of a reset that its reader was told
  pub told_resets : List ℕ
  -- those of a stop that its writer was told
  pub told_stops : List ℕ
  -- a poll told that it is finished
  pub complete : Bool

-- a flow of which nothing is known
abbrev pub no_flow : Flow
no_flow = record { written = []; finished = false; resets = []; stops = []; given = []; ended = false; unordered = false; told_resets = []; told_stops = []; complete = false }

-- ids: the streams that an end was given, by `Open` and `Accept`, the last first
-- flow: of each end as it writes, and of each stream
-- accepted: the frames of which a delivery was answered Ok, one for each such delivery, the last first
-- kept: those of which a delivery was kept: there were too many pieces, or no memory to compact them, or it was answered Ok
-- settled: the payloads of which a report was answered Ok, the last first
-- begun: those of which a report was begun, for the rest of which there was no memory, one for each such report
pub record Past : Type 0 where
  pub ids : End → List ℕ
  pub flow : End → ℕ → Flow
  pub accepted : List FramePlace
  pub kept : List FramePlace
  pub settled : List ℕ
  pub begun : List (ℕ × Report)

-- what is known before the first step
abbrev pub nothing_yet : Past
nothing_yet = record { ids = λ who. []; flow = λ who id. no_flow; accepted = []; kept = []; settled = []; begun = [] }

-- whether two ends are one
abbrev pub is_same_end : End → End → Bool
is_same_end A A = true
is_same_end B B = true
is_same_end _ _ = false

-- a stream was given to an end
abbrev pub gives_id : End → ℕ → Past → Past
gives_id who id p = record p { ids = λ end. if is_same_end end who then id ∷ p.ids end else p.ids end }

-- what is known after a stream was opened or accepted
abbrev pub after_given : Past → End → Answer → Past
after_given p who (Ok (Id id)) = gives_id who id p
after_given p who _ = p

-- more is known of one flow
abbrev pub with_flow : End → ℕ → (Flow → Flow) → Past → Past
with_flow who id change p = record p { flow = λ end q. if is_same_end end who && (q == id) then change (p.flow end q) else p.flow end q }

-- more bytes were written
abbrev pub writes_more : List ℕ → Flow → Flow
writes_more bytes f = record f { written = f.written ++ bytes }

-- the flow was ended
abbrev pub ends_flow : Flow → Flow
ends_flow f = record f { finished = true }

-- it was given up, with a code
abbrev pub resets_with : ℕ → Flow → Flow
resets_with code f = record f { resets = code ∷ f.resets }

-- its reader stopped it, with a code
abbrev pub stops_with : ℕ → Flow → Flow
stops_with code f = record f { stops = code ∷ f.stops }

-- its reader was told that it was given up, with a code
abbrev pub tells_reset : ℕ → Flow → Flow
tells_reset code f = record f { told_resets = code ∷ f.told_resets }

-- its writer was told of a stop, with a code
abbrev pub tells_stop : ℕ → Flow → Flow
tells_stop code f = record f { told_stops = code ∷ f.told_stops }

-- its writer was told that it is finished
abbrev pub completes : Flow → Flow
completes f = record f { complete = true }

-- chunks that a read gave
abbrev pub with_chunks_read : Bool → List Chunk → List ReadChunk → List ReadChunk
with_chunks_read ordered [] given = given
with_chunks_read ordered (c ∷ cs) given = with_chunks_read ordered cs (record { offset = c.offset; bytes = c.bytes; ordered = ordered } ∷ given)

-- how a read ended
abbrev pub reads_last : Last → Flow → Flow
reads_last last.Ended f = record f { ended = true }
reads_last (last.Reset code) f = tells_reset code f
reads_last _ f = f

-- chunks were read, in order or as they come
abbrev pub reads_chunks : Bool → List Chunk → Flow → Flow
reads_chunks ordered chunks f = record f { given = with_chunks_read ordered chunks f.given; unordered = if ordered then f.unordered else true }

-- what is known after a write
abbrev pub after_write : Past → End → ℕ → List ℕ → Answer → Past
after_write p who id bytes (Ok (Wrote count)) = with_flow who id (writes_more (take count bytes)) p
after_write p who id bytes (Ok (Stopped code)) = with_flow who id (tells_stop code) p
after_write p who id bytes _ = p

-- after one of chunks
abbrev pub after_chunks : Past → End → ℕ → List (List ℕ) → Answer → Past
after_chunks p who id chunks (Ok (WroteChunks written)) = with_flow who id (writes_more (take written.bytes (concat chunks))) p
after_chunks p who id chunks (Ok (Stopped code)) = with_flow who id (tells_stop code) p
after_chunks p who id chunks _ = p

-- after an end
abbrev pub after_finish : Past → End → ℕ → Answer → Past
after_finish p who id (Ok Done) = with_flow who id ends_flow p
after_finish p who id (Ok (Stopped code)) = with_flow who id (tells_stop code) p
after_finish p who id _ = p

-- after a reset
abbrev pub past_reset : Past → End → ℕ → ℕ → Answer → Past
past_reset p who id code (Ok Done) = with_flow who id (resets_with code) p
past_reset p who id code _ = p

-- after a stop
abbrev pub past_stop : Past → End → ℕ → ℕ → Answer → Past
past_stop p who id code (Ok Done) = with_flow (peer who) id (stops_with code) p
past_stop p who id code _ = p

-- after a read
abbrev pub past_read : Past → End → ℕ → Bool → Answer → Past
past_read p who id ordered (Ok (Read chunks last transmit)) = with_flow (peer who) id (λ f. reads_last last (reads_chunks ordered chunks.items f)) p
past_read p who id ordered _ = p

-- after a question for the code of a reset
abbrev pub past_code : Past → End → ℕ → Answer → Past
past_code p who id (Ok (Code code)) = with_flow (peer who) id (tells_reset code) p
past_code p who id _ = p

-- after an event that was told
abbrev pub after_event : Past → End → StreamEvent → Past
after_event p who (stream_event.Finished id) = with_flow who id completes p
after_event p who (stream_event.Stopped id code) = with_flow who id (tells_stop code) p
after_event p who _ = p

-- after a poll
abbrev pub after_poll : Past → End → Answer → Past
after_poll p who (Ok (Event event)) = after_event p who event
after_poll p who _ = p

-- a frame was accepted, and so kept
abbrev pub accepts_frame : FramePlace → Past → Past
accepts_frame at p = record p { accepted = at ∷ p.accepted; kept = at ∷ p.kept }

-- a frame was kept, or not
abbrev pub keeps_frame : FramePlace → Bool → Past → Past
keeps_frame at kept p = record p { kept = if kept then at ∷ p.kept else p.kept }

-- whether a frame that was refused so was kept
abbrev pub is_kept_by : ReceiveError → Bool
is_kept_by (receive_error.Transport error) = error.code == INTERNAL_ERROR
is_kept_by receive_error.CompactionMemory = true
is_kept_by receive_error.OutOfMemory = false

-- what is known after a delivery
abbrev pub after_deliver : Past → FramePlace → Answer → Past
after_deliver p at (Ok Done) = accepts_frame at p
after_deliver p at (Ok DoneTransmit) = accepts_frame at p
after_deliver p at (Ok (Fault fault)) = keeps_frame at (is_kept_by fault) p
after_deliver p at _ = p

-- after a report of a payload
abbrev pub after_report : Past → ℕ → Report → Answer → Past
after_report p number kind (Ok Done) = record p { settled = number ∷ p.settled }
after_report p number kind (Err NoMemory) = record p { begun = (number, kind) ∷ p.begun }
after_report p number kind _ = p

-- after a rejection: all flows begin anew, and no id was given
abbrev pub past_rejected : Past → Answer → Past
past_rejected p (Ok Done) = nothing_yet
past_rejected p _ = p

-- after the server asked the client to begin again: the payloads of which something was reported left
abbrev pub past_retried : Past → Answer → Past
past_retried p (Ok Done) = record p { settled = []; begun = [] }
past_retried p _ = p

-- what is known after one more step
abbrev pub after : Past → Step → Answer → Past
after p (steps.Open who dir) reply = after_given p who reply
after p (steps.Accept who dir) reply = after_given p who reply
after p (steps.Write who id bytes) reply = after_write p who id bytes reply
after p (steps.WriteChunks who id chunks) reply = after_chunks p who id chunks reply
after p (steps.Finish who id) reply = after_finish p who id reply
after p (steps.Reset who id code) reply = past_reset p who id code reply
after p (steps.Stop who id code) reply = past_stop p who id code reply
after p (steps.Read who id ordered most times) reply = past_read p who id ordered reply
after p (steps.ReceivedReset who id) reply = past_code p who id reply
after p (steps.Poll who) reply = after_poll p who reply
after p (steps.Deliver number index) reply = after_deliver p (number, index) reply
after p (steps.Lose number) reply = after_report p number Lost reply
after p (steps.Ack number) reply = after_report p number Acknowledged reply
after p steps.EarlyReject reply = past_rejected p reply
after p steps.Retry reply = past_retried p reply
after p _ reply = p

-- what is known after these steps, and what was known before
abbrev pub past_from : Past → History → Past
past_from p [] = p
past_from p (e ∷ h) = past_from (after p e.0 e.1) h

-- what is known after these steps
abbrev pub past_of : History → Past
past_of h = past_from nothing_yet h

-- what is to be decided after one more step
abbrev pub waits_then : Option EarlyLimits → Step → Answer → Option EarlyLimits
waits_then waits steps.EarlyAccept (Ok reply) = None
waits_then waits steps.EarlyReject (Ok reply) = None
waits_then waits step reply = waits

-- after these steps
abbrev pub waits_from : Option EarlyLimits → History → Option EarlyLimits
waits_from waits [] = waits
waits_from waits (e ∷ h) = waits_from (waits_then waits e.0 e.1) h
