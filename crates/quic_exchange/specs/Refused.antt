-- When a step is refused, by what a caller knows: the steps before it with their replies, and the payloads that were sent.
use Rattle.std.specs.Prelude.{ℕ, ◌≡◌, ◌⊎◌, ◌&&◌, true, false, MatchBool, List, slice_get, Option, is_some, Some, None, Ok, Err}
use Rattle.quic_wire.specs.declared.frame.Frame.{Frame}
use Rattle.quic_link.specs.Endpoints.{IsOneOf, LimitsWithin}
use Rattle.quic_steps.specs.declared.steps.Step.{Step}
use Rattle.quic_steps.specs.declared.steps.Step.TheVariants as steps
use Rattle.quic_steps.specs.declared.steps.PairError.TheVariants.{NoSuchPayload, NoSuchFrame, NotAccepted, UnknownId, AlreadySettled, LimitsBelow, Undecided, Decided, OutOfMemory as NoMemory}
use Rattle.quic_exchange.specs.declared.early.EarlyLimits.{EarlyLimits}
use Rattle.quic_exchange.specs.Sent.{Sent}
use Rattle.quic_exchange.specs.Gone.{IsNoPayload}
use Rattle.quic_exchange.specs.Steps.{needs_decision}
use Rattle.quic_exchange.specs.declared.unsettled.Report.{Report}
use Rattle.quic_exchange.specs.declared.unsettled.Report.TheVariants.{Lost, Acknowledged}
use Rattle.quic_exchange.specs.Unsettled.{other_report}
use Rattle.quic_exchange.specs.Payloads.{IsFrameAt, LacksFrame}
use Rattle.quic_exchange.specs.Replies.{Answer}
use Rattle.quic_exchange.specs.History.{Past, FramePlace}

-- a step is refused for a named reason; lack of memory is none of them
abbrev pub IsRefused : Answer → Type 0
IsRefused (Ok reply) = ⊥
IsRefused (Err NoMemory) = ⊥
IsRefused (Err error) = Unit {0}

-- and for none
abbrev pub IsTaken : Answer → Type 0
IsTaken reply = IsRefused reply → ⊥

-- ---- steps on streams

-- the id is unknown exactly where it is not one of those that the end was given
abbrev pub IsKnownSo : List ℕ → ℕ → Answer → Type 0
IsKnownSo given id (Err UnknownId) = IsOneOf id given → ⊥
IsKnownSo given id reply = IsOneOf id given × IsTaken reply

-- ---- steps on payloads

-- a payload has the number and did not leave, and its bytes are so
pub record HasBytes (sent : List Sent) (number : ℕ) (Are : List ℕ → Type 0) : Type 0 where
  pub payload : Sent
  pub is : slice_get sent number ≡ Some payload
  pub here : payload.gone ≡ false
  pub are : Are payload.text.bytes

-- bytes of any kind
abbrev pub Always : List ℕ → Type 0
Always bytes = Unit {0}

-- a frame stands at a place
abbrev pub HasFrame : List ℕ → ℕ → Type 0
HasFrame bytes index = (frame : Frame) × IsFrameAt bytes index frame

-- a delivery is of a frame that stands in a payload; it is refused where there is no such payload, or its bytes lack the
-- frame, and memory runs out only for a payload that was sent
abbrev pub IsFoundSo : List Sent → ℕ → ℕ → Answer → Type 0
IsFoundSo sent number index (Ok reply) = HasBytes sent number (λ bytes. HasFrame bytes index)
IsFoundSo sent number index (Err NoSuchPayload) = IsNoPayload sent number
IsFoundSo sent number index (Err NoSuchFrame) = HasBytes sent number (λ bytes. LacksFrame bytes index)
IsFoundSo sent number index (Err NoMemory) = HasBytes sent number Always
IsFoundSo sent number index _ = ⊥

-- a payload is settled for a report: one of it was served, or the other one was begun
abbrev pub IsSettledFor : Past → ℕ → Report → Type 0
IsSettledFor p number kind = IsOneOf number p.settled ⊎ IsOneOf (number, other_report kind) p.begun

-- each frame of a payload was accepted
abbrev pub HasAllAccepted : List FramePlace → ℕ → List ℕ → Type 0
HasAllAccepted accepted number bytes = (index : ℕ) → HasFrame bytes index → IsOneOf (number, index) accepted

-- one of them was not
abbrev pub HasOneUnaccepted : List FramePlace → ℕ → List ℕ → Type 0
HasOneUnaccepted accepted number bytes = (index : ℕ) × HasFrame bytes index × (IsOneOf (number, index) accepted → ⊥)

-- what a report of a payload needs of its frames
abbrev pub Needs : Report → List FramePlace → ℕ → List ℕ → Type 0
Needs Lost accepted number bytes = Unit {0}
Needs Acknowledged accepted number bytes = HasAllAccepted accepted number bytes

-- and what it lacks where it is refused
abbrev pub Misses : Report → List FramePlace → ℕ → List ℕ → Type 0
Misses Lost accepted number bytes = ⊥
Misses Acknowledged accepted number bytes = HasOneUnaccepted accepted number bytes

-- a report was served, whole or in part: of a payload that was sent and not settled for it, with all that it needs
pub record IsServedSo (p : Past) (sent : List Sent) (number : ℕ) (kind : Report) : Type 0 where
  pub unsettled : IsSettledFor p number kind → ⊥
  pub has : HasBytes sent number (Needs kind p.accepted number)

-- it was refused, since a frame was not accepted
pub record IsUnacceptedSo (p : Past) (sent : List Sent) (number : ℕ) (kind : Report) : Type 0 where
  pub unsettled : IsSettledFor p number kind → ⊥
  pub misses : HasBytes sent number (Misses kind p.accepted number)

-- since the payload is settled for it
pub record IsSettledSo (p : Past) (sent : List Sent) (number : ℕ) (kind : Report) : Type 0 where
  pub settled : IsSettledFor p number kind
  pub there : HasBytes sent number Always

-- a report is refused where there is no such payload, else where the payload is settled for it, and else where a frame lacks
-- what it needs; memory runs out only for one that is not refused
abbrev pub IsReportedSo : Past → List Sent → ℕ → Report → Answer → Type 0
IsReportedSo p sent number kind (Err NoSuchPayload) = IsNoPayload sent number
IsReportedSo p sent number kind (Err AlreadySettled) = IsSettledSo p sent number kind
IsReportedSo p sent number kind (Err NotAccepted) = IsUnacceptedSo p sent number kind
IsReportedSo p sent number kind (Err NoMemory) = IsServedSo p sent number kind
IsReportedSo p sent number kind (Ok reply) = IsServedSo p sent number kind
IsReportedSo p sent number kind _ = ⊥

-- ---- what a client sends before the handshake is done

-- a limit that was remembered is above that of the server, or none is
abbrev pub AreBelow : Option EarlyLimits → Type 0
AreBelow waits = (k : EarlyLimits) × (waits ≡ Some k) × (LimitsWithin k.remembered k.others → ⊥)

abbrev pub AreWithin : Option EarlyLimits → Type 0
AreWithin waits = (k : EarlyLimits) × (waits ≡ Some k) × LimitsWithin k.remembered k.others

-- an acceptance is refused where it is decided, or else where a limit is below the one that was remembered
abbrev pub IsAcceptedSo : Option EarlyLimits → Answer → Type 0
IsAcceptedSo waits (Err Decided) = waits ≡ None
IsAcceptedSo waits (Err LimitsBelow) = AreBelow waits
IsAcceptedSo waits (Err NoMemory) = AreWithin waits
IsAcceptedSo waits (Ok reply) = AreWithin waits
IsAcceptedSo waits _ = ⊥

-- a rejection, and a wish to begin again, are refused where it is decided; a rejection needs no memory
abbrev pub IsDecidedSo : Option EarlyLimits → Answer → Type 0
IsDecidedSo waits (Err Decided) = waits ≡ None
IsDecidedSo waits (Err NoMemory) = is_some waits ≡ true
IsDecidedSo waits (Ok reply) = is_some waits ≡ true
IsDecidedSo waits _ = ⊥

-- ---- all steps

-- a step that is not refused for being too early is refused exactly so, and for no other reason; lack of memory is excused, on a
-- stream that the end was given and on a payload that was sent
abbrev pub IsRefusedIn : Option EarlyLimits → Past → List Sent → Step → Answer → Type 0
IsRefusedIn waits p sent (steps.Write who id bytes) reply = IsKnownSo (p.ids who) id reply
IsRefusedIn waits p sent (steps.WriteChunks who id chunks) reply = IsKnownSo (p.ids who) id reply
IsRefusedIn waits p sent (steps.Finish who id) reply = IsKnownSo (p.ids who) id reply
IsRefusedIn waits p sent (steps.Reset who id code) reply = IsKnownSo (p.ids who) id reply
IsRefusedIn waits p sent (steps.Stop who id code) reply = IsKnownSo (p.ids who) id reply
IsRefusedIn waits p sent (steps.SetPriority who id priority) reply = IsKnownSo (p.ids who) id reply
IsRefusedIn waits p sent (steps.Read who id ordered most times) reply = IsKnownSo (p.ids who) id reply
IsRefusedIn waits p sent (steps.ReceivedReset who id) reply = IsKnownSo (p.ids who) id reply
IsRefusedIn waits p sent (steps.Deliver number index) reply = IsFoundSo sent number index reply
IsRefusedIn waits p sent (steps.Lose number) reply = IsReportedSo p sent number Lost reply
IsRefusedIn waits p sent (steps.Ack number) reply = IsReportedSo p sent number Acknowledged reply
IsRefusedIn waits p sent steps.EarlyAccept reply = IsAcceptedSo waits reply
IsRefusedIn waits p sent steps.EarlyReject reply = IsDecidedSo waits reply × (reply ≡ Err NoMemory → ⊥)
IsRefusedIn waits p sent steps.Retry reply = IsDecidedSo waits reply
IsRefusedIn waits p sent step reply = IsTaken reply

-- each step is refused exactly so: while it is not decided whether the server takes what the client sends early, every step of the
-- server, and every delivery, is refused for that
abbrev pub IsRefusedSo : Option EarlyLimits → Past → List Sent → Step → Answer → Type 0
IsRefusedSo waits p sent step reply = MatchBool (is_some waits && needs_decision step) (reply ≡ Err Undecided) (IsRefusedIn waits p sent step reply)
