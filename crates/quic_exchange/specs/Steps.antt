-- What each step does to two ends and what was sent between them.
use Rattle.std.specs.Prelude.{ℕ, Bool, true, false, ◌&&◌, MatchBool, ◌≡◌, ◌⊎◌, List, [], ◌∷◌, ◌++◌, length, slice_get, slice_set, is_some, Some, None, Result, Ok, Err}
use Rattle.std.specs.Option.{option_map}
use Rattle.quic_values.specs.declared.memory.OutOfMemory.{OutOfMemory}
use Rattle.quic_outgoing.specs.Early.{NoneAcked}
use Rattle.quic_retransmits.specs.Pending.{nothing}
use Rattle.quic_history.specs.World.{World}
use Rattle.quic_history.specs.Sends.{with_params_given}
use Rattle.quic_history.specs.Early.{with_rejection, SendsAgain}
use Rattle.quic_link.specs.Endpoints.{LimitsWithin}
use Rattle.quic_wire.specs.declared.frame.Frame.{Frame}
use Rattle.quic_wire.specs.declared.error.ReceiveError.{ReceiveError}
use Rattle.quic_sending.specs.Source.{slice_lists}
use Rattle.quic_receiving.specs.declared.transmit.ShouldTransmit.{ShouldTransmit}
use Rattle.quic_streams.specs.declared.settling.SentPayload.{SentPayload}
use Rattle.quic_streams.specs.Settling.{SentView}
use Rattle.quic_streams.specs.Sent.{sent_view, report_view}
use Rattle.quic_endpoint.specs.Ends.{EndState, with_world}
use Rattle.quic_endpoint.specs.Receiving.{ReceivesAt, AccountsFrame}
use Rattle.quic_endpoint.specs.Reports.{LosesPayloadAt, AcksPayloadAt}
use Rattle.quic_endpoint.specs.Emitting.{PayloadView, EmitsAt}
use Rattle.quic_steps.specs.declared.steps.End.{End}
use Rattle.quic_steps.specs.declared.steps.PayloadPart.{PayloadPart}
use Rattle.quic_steps.specs.declared.steps.End.TheVariants.{A, B}
use Rattle.quic_steps.specs.declared.steps.Step.{Step}
use Rattle.quic_steps.specs.declared.steps.Step.TheVariants as steps
use Rattle.quic_steps.specs.declared.steps.Reply.TheVariants.{Done, Payload}
use Rattle.quic_steps.specs.declared.steps.PairError.TheVariants.{NoSuchPayload, NoSuchFrame, NotAccepted, AlreadySettled, LimitsBelow, Undecided, Decided, OutOfMemory as NoMemory}
use Rattle.quic_exchange.specs.Replies.{Answer, report_reply, received_reply}
use Rattle.quic_exchange.specs.Parts.{EmitsPartAt}
use Rattle.quic_exchange.specs.Payloads.{SentText, IsFrameAt, LacksFrame, IsMarked}
use Rattle.quic_exchange.specs.declared.unsettled.Report.{Report}
use Rattle.quic_exchange.specs.declared.unsettled.Report.TheVariants.{Lost, Acknowledged}
use Rattle.quic_exchange.specs.Unsettled.{may_report, unsettled_after}
use Rattle.quic_exchange.specs.Reports.{MayServe, RefusesReport}
use Rattle.quic_exchange.specs.declared.early.EarlyLimits.{EarlyLimits}
use Rattle.quic_exchange.specs.Sent.{Sent}
use Rattle.quic_exchange.specs.Gone.{IsNoPayload, HaveLeft, with_all_noted}
use Rattle.quic_exchange.specs.State.{PairState, peer, the_end, with_end, with_sent, OnEnd}
use Rattle.quic_exchange.specs.Calls.{Opens, Accepts, OnGiven, Writes, WritesChunksOrNone, Finishes, ResetsOn, StopsOn, SetsPriorityOn, AsksReset, ReadsOn, SetsSendWindow, SetsReceiveWindow, SetsMaxConcurrent, Polls}

-- a payload of the view of an end, which nothing was delivered of
pub record IsSentBy (who : End) (payload : PayloadView) (s : Sent) : Type 0 where
  pub writer : s.writer ≡ who
  pub text : s.text ≡ record { bytes = payload.bytes; accepted = [] }
  pub begun : s.unsettled.begun ≡ None
  pub rest : option_map sent_view s.unsettled.rest ≡ Some payload.sent
  pub here : s.gone ≡ false

-- an end wrote a payload, which is sent
pub record Emits (old : PairState) (who : End) (most : ℕ) (fair : Bool) (answer : Result (Unit {0}) OutOfMemory) (payload : PayloadView) (new : PairState) : Type 0 where
  pub end : EndState
  pub emits : EmitsAt most fair (the_end old who) payload answer end
  pub sent : Sent
  pub sent_is : IsSentBy who payload sent
  pub is : new ≡ with_sent (with_end old who end) (old.sent ++ sent ∷ [])

-- all of it, with its number and its bytes
pub record EmitsWhole (old : PairState) (who : End) (most : ℕ) (fair : Bool) (number : ℕ) (bytes : List ℕ) (new : PairState) : Type 0 where
  pub payload : PayloadView
  pub emits : Emits old who most fair (Ok tt) payload new
  pub number_is : number ≡ length old.sent
  pub bytes_are : bytes ≡ payload.bytes

-- what could be written of it, for lack of memory
pub record EmitsPart (old : PairState) (who : End) (most : ℕ) (fair : Bool) (new : PairState) : Type 0 where
  pub answer : Result (Unit {0}) OutOfMemory
  pub payload : PayloadView
  pub emits : Emits old who most fair answer payload new

-- what an emit was replied, and what it did
abbrev pub Emitted : PairState → End → ℕ → Bool → Answer → PairState → Type 0
Emitted old who most fair (Ok (Payload number bytes)) new = EmitsWhole old who most fair number bytes.items new
Emitted old who most fair (Err NoMemory) new = (new ≡ old) ⊎ EmitsPart old who most fair new
Emitted old who most fair _ new = ⊥

-- ---- payloads of one part

-- an endpoint wrote a payload so, which is sent
pub record EmitsBy (At : EndState → PayloadView → Result (Unit {0}) OutOfMemory → EndState → Type 0) (old : PairState) (who : End) (answer : Result (Unit {0}) OutOfMemory) (payload : PayloadView) (new : PairState) : Type 0 where
  pub end : EndState
  pub emits : At (the_end old who) payload answer end
  pub sent : Sent
  pub sent_is : IsSentBy who payload sent
  pub is : new ≡ with_sent (with_end old who end) (old.sent ++ sent ∷ [])

-- all of it, with its number and its bytes
pub record EmitsWholeBy (At : EndState → PayloadView → Result (Unit {0}) OutOfMemory → EndState → Type 0) (old : PairState) (who : End) (number : ℕ) (bytes : List ℕ) (new : PairState) : Type 0 where
  pub payload : PayloadView
  pub emits : EmitsBy At old who (Ok tt) payload new
  pub number_is : number ≡ length old.sent
  pub bytes_are : bytes ≡ payload.bytes

-- the frames that were written before memory ran out
pub record EmitsCutBy (At : EndState → PayloadView → Result (Unit {0}) OutOfMemory → EndState → Type 0) (old : PairState) (who : End) (new : PairState) : Type 0 where
  pub answer : Result (Unit {0}) OutOfMemory
  pub payload : PayloadView
  pub emits : EmitsBy At old who answer payload new

-- what an emit of such a payload was replied, and what it did
abbrev pub EmittedBy : (EndState → PayloadView → Result (Unit {0}) OutOfMemory → EndState → Type 0) → PairState → End → Answer → PairState → Type 0
EmittedBy At old who (Ok (Payload number bytes)) new = EmitsWholeBy At old who number bytes.items new
EmittedBy At old who (Err NoMemory) new = (new ≡ old) ⊎ EmitsCutBy At old who new
EmittedBy At old who _ new = ⊥

-- what an emit of one part was replied, and what it did
abbrev pub EmittedPart : PairState → End → ℕ → Bool → PayloadPart → Answer → PairState → Type 0
EmittedPart old who most fair part reply new = EmittedBy (EmitsPartAt part most fair) old who reply new

-- ---- frames that were sent

-- a payload has a number, and did not leave
pub record HasPayload (old : PairState) (number : ℕ) : Type 0 where
  pub sent : Sent
  pub is : slice_get old.sent number ≡ Some sent
  pub here : sent.gone ≡ false

-- why a step on a frame of a payload is refused, and nothing changes
abbrev pub LacksPayload : PairState → ℕ → PairState → Type 0
LacksPayload old number new = IsNoPayload old.sent number × (new ≡ old)

-- a payload is there, but memory ran out before anything was done
abbrev pub WantsMemoryFor : PairState → ℕ → PairState → Type 0
WantsMemoryFor old number new = HasPayload old number × (new ≡ old)

-- a payload is there, but it is not as the step wants it
pub record RefusesOf (old : PairState) (number : ℕ) (Why : Sent → Type 0) (new : PairState) : Type 0 where
  pub payload : HasPayload old number
  pub why : Why payload.sent
  pub is : new ≡ old

-- the frames at a place, after an answer
abbrev pub SentAfter : List Sent → ℕ → Sent → ℕ → Result ShouldTransmit ReceiveError → List Sent → Type 0
SentAfter old number sent index (Ok transmit) new = (marked : SentText) × IsMarked sent.text index marked × (new ≡ slice_set old number (record sent { text = marked }))
SentAfter old number sent index (Err error) new = new ≡ old

-- an end takes a frame of a payload of so many bytes
pub record EndTakesFrame (frame : Frame) (size : ℕ) (answer : Result ShouldTransmit ReceiveError) (e f : EndState) : Type 0 where
  pub receives : ReceivesAt e frame answer f
  pub accounts : AccountsFrame e.streams frame size answer f.streams

-- a frame of a payload is handed to the other end, with the length of the payload
pub record HandsOver (old : PairState) (number index : ℕ) (reply : Answer) (new : PairState) : Type 0 where
  pub payload : HasPayload old number
  pub frame : Frame
  pub at : IsFrameAt payload.sent.text.bytes index frame
  pub answer : Result ShouldTransmit ReceiveError
  pub end : EndState
  pub receives : ReceivesAt (the_end old (peer payload.sent.writer)) frame answer end
  pub accounts : AccountsFrame (the_end old (peer payload.sent.writer)).streams frame (length payload.sent.text.bytes) answer end.streams
  pub reply_is : reply ≡ received_reply answer
  pub sent : SentAfter old.sent number payload.sent index answer new.sent
  pub is : new ≡ with_sent (with_end old (peer payload.sent.writer) end) new.sent

-- what a delivery was replied, and what it did
abbrev pub Delivers : PairState → ℕ → ℕ → Answer → PairState → Type 0
Delivers old number index (Err NoSuchPayload) new = LacksPayload old number new
Delivers old number index (Err NoSuchFrame) new = RefusesOf old number (λ s. LacksFrame s.text.bytes index) new
Delivers old number index (Err NoMemory) new = WantsMemoryFor old number new ⊎ HandsOver old number index (Err NoMemory) new
Delivers old number index reply new = HandsOver old number index reply new

-- ---- what becomes of them

-- what is unreported of a payload is reported to the end that wrote it, and what comes back is unreported still
pub record Reports (kind : Report) (At : EndState → SentView → Result (Unit {0}) SentView → EndState → Type 0) (old : PairState) (number : ℕ) (reply : Answer) (new : PairState) : Type 0 where
  pub payload : HasPayload old number
  pub may : may_report kind payload.sent.unsettled ≡ true
  pub serves : MayServe kind payload.sent.text
  pub rest : SentPayload
  pub rest_is : payload.sent.unsettled.rest ≡ Some rest
  pub answer : Result (Unit {0}) SentPayload
  pub end : EndState
  pub does : At (the_end old payload.sent.writer) (sent_view rest) (report_view answer) end
  pub reply_is : reply ≡ report_reply answer
  pub is : new ≡ with_sent (with_end old payload.sent.writer end) (slice_set old.sent number (record payload.sent { unsettled = unsettled_after kind payload.sent.unsettled answer }))

-- what a report of a payload was replied, and what it did. Where memory ran out, a beginning of it was served, and what
-- came back is left
abbrev pub SettlesPayload : Report → (EndState → SentView → Result (Unit {0}) SentView → EndState → Type 0) → PairState → ℕ → Answer → PairState → Type 0
SettlesPayload kind At old number (Ok Done) new = Reports kind At old number (Ok Done) new
SettlesPayload kind At old number (Err NoMemory) new = Reports kind At old number (Err NoMemory) new
SettlesPayload kind At old number (Err NoSuchPayload) new = LacksPayload old number new
SettlesPayload kind At old number (Err AlreadySettled) new = RefusesOf old number (λ s. RefusesReport kind s AlreadySettled) new
SettlesPayload kind At old number (Err NotAccepted) new = RefusesOf old number (λ s. RefusesReport kind s NotAccepted) new
SettlesPayload kind At old number _ new = ⊥

-- ---- what a client sends before the handshake is done (RFC 9001 section 4.6)

-- whether an end is the server
abbrev pub is_server : End → Bool
is_server A = false
is_server B = true

-- whether a step has to wait until it is decided whether the server takes what the client sends early: one of the server, or a
-- delivery
abbrev pub needs_decision : Step → Bool
needs_decision (steps.Open who dir) = is_server who
needs_decision (steps.Accept who dir) = is_server who
needs_decision (steps.Write who id bytes) = is_server who
needs_decision (steps.WriteChunks who id chunks) = is_server who
needs_decision (steps.Finish who id) = is_server who
needs_decision (steps.Reset who id code) = is_server who
needs_decision (steps.Stop who id code) = is_server who
needs_decision (steps.SetPriority who id priority) = is_server who
needs_decision (steps.Read who id ordered most times) = is_server who
needs_decision (steps.ReceivedReset who id) = is_server who
needs_decision (steps.SetSendWindow who window) = is_server who
needs_decision (steps.SetReceiveWindow who window) = is_server who
needs_decision (steps.SetMaxConcurrent who dir count) = is_server who
needs_decision (steps.Poll who) = is_server who
needs_decision (steps.Emit who most fair) = is_server who
needs_decision (steps.EmitPart who most fair part) = is_server who
needs_decision (steps.Deliver number index) = true
needs_decision _ = false

-- it is not decided, and these are the limits
abbrev pub IsWaiting : PairState → EarlyLimits → Type 0
IsWaiting old k = old.waits ≡ Some k

-- the server accepts what the client sends early: the client is given its limits, and nothing waits any more
pub record AcceptsEarly (old new : PairState) : Type 0 where
  pub limits : EarlyLimits
  pub waiting : IsWaiting old limits
  pub within : LimitsWithin limits.remembered limits.others
  pub is : new ≡ record old { a = with_world old.a (with_params_given old.a.streams limits.others); waits = None }

-- or cannot, since a limit that was remembered is above its own
pub record MayNotAccept (old new : PairState) : Type 0 where
  pub limits : EarlyLimits
  pub waiting : IsWaiting old limits
  pub below : LimitsWithin limits.remembered limits.others → ⊥
  pub is : new ≡ old

-- or memory runs out
pub record WantsToAccept (old new : PairState) : Type 0 where
  pub limits : EarlyLimits
  pub waiting : IsWaiting old limits
  pub within : LimitsWithin limits.remembered limits.others
  pub is : new ≡ old

-- the server rejects it: the client begins anew with its limits, has nothing to send, and all payloads leave
pub record RejectsEarly (old new : PairState) : Type 0 where
  pub limits : EarlyLimits
  pub waiting : IsWaiting old limits
  pub sent : List Sent
  pub left : HaveLeft old.sent sent
  pub is : new ≡ record old { a = record { streams = with_params_given (with_rejection old.a.streams) limits.others; pending = nothing }; sent = sent; waits = None }

-- the server asks the client to begin again (RFC 9000 section 17.2.5): all payloads leave, and all that they carried and that
-- is unreported is to be sent again
pub record Retries (old new : PairState) : Type 0 where
  pub limits : EarlyLimits
  pub waiting : IsWaiting old limits
  pub streams : World
  pub again : NoneAcked old.a.streams.out.side old.a.streams.out.halves → SendsAgain old.a.streams (Ok tt) streams
  pub sent : List Sent
  pub left : HaveLeft old.sent sent
  pub is : new ≡ record old { a = record { streams = streams; pending = with_all_noted old.a.pending old.sent }; sent = sent }

-- it is decided, and nothing changes
abbrev pub IsDecided : PairState → PairState → Type 0
IsDecided old new = (old.waits ≡ None) × (new ≡ old)

-- what each was replied, and what it did
abbrev pub Accepted : PairState → Answer → PairState → Type 0
Accepted old (Ok Done) new = AcceptsEarly old new
Accepted old (Err NoMemory) new = WantsToAccept old new
Accepted old (Err LimitsBelow) new = MayNotAccept old new
Accepted old (Err Decided) new = IsDecided old new
Accepted old _ new = ⊥

abbrev pub Rejected : PairState → Answer → PairState → Type 0
Rejected old (Ok Done) new = RejectsEarly old new
Rejected old (Err Decided) new = IsDecided old new
Rejected old _ new = ⊥

abbrev pub Retried : PairState → Answer → PairState → Type 0
Retried old (Ok Done) new = Retries old new
Retried old (Err NoMemory) new = (is_some old.waits ≡ true) × (new ≡ old)
Retried old (Err Decided) new = IsDecided old new
Retried old _ new = ⊥

-- ---- all steps

-- what each step was replied, and what it did, but for those that say what becomes of what the client sends early
abbrev pub NextOrdinary : PairState → Step → Answer → PairState → Type 0
NextOrdinary old (steps.Open who dir) reply new = OnEnd (λ e f. Opens e dir reply f) old who new
NextOrdinary old (steps.Accept who dir) reply new = OnEnd (λ e f. Accepts e dir reply f) old who new
NextOrdinary old (steps.Write who id bytes) reply new = OnEnd (λ e f. OnGiven e id reply f (Writes e id (slice_lists bytes) reply f)) old who new
NextOrdinary old (steps.WriteChunks who id chunks) reply new = OnEnd (λ e f. OnGiven e id reply f (WritesChunksOrNone e id chunks reply f)) old who new
NextOrdinary old (steps.Finish who id) reply new = OnEnd (λ e f. OnGiven e id reply f (Finishes e id reply f)) old who new
NextOrdinary old (steps.Reset who id code) reply new = OnEnd (λ e f. OnGiven e id reply f (ResetsOn e id code reply f)) old who new
NextOrdinary old (steps.Stop who id code) reply new = OnEnd (λ e f. OnGiven e id reply f (StopsOn e id code reply f)) old who new
NextOrdinary old (steps.SetPriority who id priority) reply new = OnEnd (λ e f. OnGiven e id reply f (SetsPriorityOn e id priority reply f)) old who new
NextOrdinary old (steps.Read who id ordered most times) reply new = OnEnd (λ e f. OnGiven e id reply f (ReadsOn e id ordered most times reply f)) old who new
NextOrdinary old (steps.ReceivedReset who id) reply new = OnEnd (λ e f. OnGiven e id reply f (AsksReset e id reply f)) old who new
NextOrdinary old (steps.SetSendWindow who window) reply new = OnEnd (λ e f. SetsSendWindow e window reply f) old who new
NextOrdinary old (steps.SetReceiveWindow who window) reply new = OnEnd (λ e f. SetsReceiveWindow e window reply f) old who new
NextOrdinary old (steps.SetMaxConcurrent who dir count) reply new = OnEnd (λ e f. SetsMaxConcurrent e dir count reply f) old who new
NextOrdinary old (steps.Poll who) reply new = OnEnd (λ e f. Polls e reply f) old who new
NextOrdinary old (steps.Emit who most fair) reply new = Emitted old who most fair reply new
NextOrdinary old (steps.EmitPart who most fair part) reply new = EmittedPart old who most fair part reply new
NextOrdinary old (steps.Deliver number index) reply new = Delivers old number index reply new
NextOrdinary old (steps.Lose number) reply new = SettlesPayload Lost LosesPayloadAt old number reply new
NextOrdinary old (steps.Ack number) reply new = SettlesPayload Acknowledged AcksPayloadAt old number reply new
NextOrdinary old _ reply new = ⊥

-- what each step that is taken was replied, and what it did
abbrev pub NextTaken : PairState → Step → Answer → PairState → Type 0
NextTaken old steps.EarlyAccept reply new = Accepted old reply new
NextTaken old steps.EarlyReject reply new = Rejected old reply new
NextTaken old steps.Retry reply new = Retried old reply new
NextTaken old step reply new = NextOrdinary old step reply new

-- the same of each step: one that has to wait for the decision is refused until then
abbrev pub Next : PairState → Step → Answer → PairState → Type 0
Next old step reply new = MatchBool (is_some old.waits && needs_decision step) ((reply ≡ Err Undecided) × (new ≡ old)) (NextTaken old step reply new)
