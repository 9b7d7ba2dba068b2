-- Payloads as a pair notes them, by number. What is unreported of each is kept by the endpoint that wrote it, under a token.
use Rattle.std.specs.Prelude.{◌≡◌, ◌⊎◌, ◌≤◌, ℕ, Bool, true, false, ◌&&◌, List, [], Option, Some, None, Result, Ok, Err, MatchBool, length, map, slice_get, slice_set}
use Rattle.std.specs.Global.{Vec}
use Rattle.quic_wire.specs.declared.error.ReceiveError.{ReceiveError}
use Rattle.quic_receiving.specs.declared.transmit.ShouldTransmit.{ShouldTransmit}
use Rattle.quic_streams.specs.declared.settling.SentPayload.{SentPayload}
use Rattle.quic_endpoint.specs.Receiving.{data_length}
use Rattle.quic_steps.specs.declared.steps.End.{End}
use Rattle.quic_steps.specs.declared.steps.End.TheVariants.{A, B}
use Rattle.quic_steps.specs.declared.steps.PairError.{PairError}
use Rattle.quic_steps.specs.declared.steps.PairError.TheVariants as refusals
use Rattle.quic_exchange.specs.declared.places.HandedFrame.{HandedFrame}
use Rattle.quic_exchange.specs.declared.sent.Note.{Note}
use Rattle.quic_exchange.specs.declared.unsettled.Report.{Report}
use Rattle.quic_exchange.specs.Payloads.{SentText, IsFrameAt, LacksFrame, IsReadyToMark, IsMarked, LacksAccepted}
use Rattle.quic_exchange.specs.Reports.{MayServe}
use Rattle.quic_exchange.specs.Unsettled.{needs_acceptance, goes_on}
use Rattle.quic_exchange.specs.Sent.{Sent}

-- ---- a note as a payload

-- what an endpoint keeps of its payloads, by token
abbrev pub Kept : Type 0
Kept = ℕ → Option SentPayload

-- what each of two endpoints keeps
abbrev pub kept_by : Kept → Kept → End → Kept
kept_by a b A = a
kept_by a b B = b

-- what is kept under a token, nothing without one
abbrev pub under : Kept → Option ℕ → Option SentPayload
under f None = None
under f (Some token) = f token

-- the payload of a note: what is unreported of it is kept by its writer
abbrev pub row : (End → Kept) → Note → Sent
row k n = record { writer = n.writer; unsettled = record { begun = n.begun; rest = under (k n.writer) n.token }; text = n.text; gone = n.gone }

abbrev pub rows : (End → Kept) → List Note → List Sent
rows k notes = map (row k) notes

-- ---- notes by number

-- a payload that left had the number
pub record WasNote (notes : List Note) (number : ℕ) : Type 0 where
  pub note : Note
  pub is : slice_get notes number ≡ Some note
  pub gone : note.gone ≡ true

-- no payload has the number: none was sent, or it left
abbrev pub IsNoNote : List Note → ℕ → Type 0
IsNoNote notes number = (length notes ≤ number) ⊎ WasNote notes number

-- one was sent, and did not
pub record IsNoteThere (notes : List Note) (number : ℕ) : Type 0 where
  pub note : Note
  pub is : slice_get notes number ≡ Some note
  pub here : note.gone ≡ false

-- the frame at a place of this payload
pub record IsHandedFrame (whole : Note) (index : ℕ) (h : HandedFrame) : Type 0 where
  pub writer : h.writer ≡ whole.writer
  pub at : IsFrameAt whole.text.bytes index h.frame
  pub within : data_length h.frame ≤ h.len
  pub length_is : h.len ≡ length whole.text.bytes
  pub marks : IsReadyToMark whole.text index h.marks

-- the frame at a place of a payload
pub record FindsFrameOf (notes : List Note) (payload index : ℕ) (h : HandedFrame) : Type 0 where
  pub whole : Note
  pub is : slice_get notes payload ≡ Some whole
  pub here : whole.gone ≡ false
  pub writer : h.writer ≡ whole.writer
  pub at : IsFrameAt whole.text.bytes index h.frame
  pub within : data_length h.frame ≤ h.len
  pub length_is : h.len ≡ length whole.text.bytes
  pub marks : IsReadyToMark whole.text index h.marks

-- a payload with such a text has a number
pub record HasTextOf (notes : List Note) (payload : ℕ) (Is : SentText → Type 0) : Type 0 where
  pub whole : Note
  pub is : slice_get notes payload ≡ Some whole
  pub here : whole.gone ≡ false
  pub why : Is whole.text

-- why no frame was found: there is no such payload, its text lacks it, or there was no memory to read it
abbrev pub FailsToFindIn : List Note → ℕ → ℕ → PairError → Type 0
FailsToFindIn notes payload index refusals.NoSuchPayload = IsNoNote notes payload
FailsToFindIn notes payload index refusals.NoSuchFrame = HasTextOf notes payload (λ text. LacksFrame text.bytes index)
FailsToFindIn notes payload index refusals.OutOfMemory = HasTextOf notes payload (λ text. Unit {0})
FailsToFindIn notes payload index _ = ⊥

-- the frame at a place can be marked with these marks
pub record IsReadyIn (notes : List Note) (payload index : ℕ) (marks : Option (Vec Bool)) : Type 0 where
  pub whole : Note
  pub is : slice_get notes payload ≡ Some whole
  pub ready : IsReadyToMark whole.text index marks

-- it is marked
pub record MarksNote (old : List Note) (payload index : ℕ) (new : List Note) : Type 0 where
  pub whole : Note
  pub is : slice_get old payload ≡ Some whole
  pub text : SentText
  pub marked : IsMarked whole.text index text
  pub new_is : new ≡ slice_set old payload (record whole { text = text })

-- it is marked, if the answer is Ok
abbrev pub MarksNoteIf : Result ShouldTransmit ReceiveError → List Note → ℕ → ℕ → List Note → Type 0
MarksNoteIf (Ok transmit) old payload index new = MarksNote old payload index new
MarksNoteIf (Err error) old payload index new = new ≡ old

-- ---- reports

-- a payload takes a report of a kind, if something of it is unreported
pub record CanReport (kind : Report) (n : Note) (unsettled : Bool) : Type 0 where
  pub may : (unsettled && goes_on kind n.begun) ≡ true
  pub serves : MayServe kind n.text

-- or does not: it is settled for that report, or one of its frames was not accepted
abbrev pub RefusesNote : Report → Note → Bool → PairError → Type 0
RefusesNote kind n unsettled refusals.AlreadySettled = (unsettled && goes_on kind n.begun) ≡ false
RefusesNote kind n unsettled refusals.NotAccepted = ((unsettled && goes_on kind n.begun) ≡ true) × (needs_acceptance kind ≡ true) × LacksAccepted n.text
RefusesNote kind n unsettled _ = ⊥

-- a report of the payload of a number was begun
abbrev pub BeginsReport : List Note → ℕ → Report → List Note → Type 0
BeginsReport old payload kind new = (n : Note) → slice_get old payload ≡ Some n → new ≡ slice_set old payload (record n { begun = Some kind })

-- ---- payloads that leave

-- nothing is kept of one that left
pub record HasLeftNetwork (n : Note) : Type 0 where
  pub gone : n.gone ≡ true
  pub token : n.token ≡ None
  pub begun : n.begun ≡ None
  pub text : n.text ≡ record { bytes = []; accepted = [] }

-- all of some leave
pub record HaveLeftNetwork (old new : List Note) : Type 0 where
  pub size : length new ≡ length old
  pub each : (number : ℕ) (n : Note) → slice_get new number ≡ Some n → HasLeftNetwork n
