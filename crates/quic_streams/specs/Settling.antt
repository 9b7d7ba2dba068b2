-- What becomes of what a writer handed back for a payload when the payload is reported lost or acknowledged.
use Rattle.std.specs.Prelude.{ℕ, ◌≡◌, ◌-◌, ◌⊎◌, List, [], ◌∷◌, ◌++◌, length, take, Option, Some, None, is_some, true, unwrap_or, Result, Ok, Err}
use Rattle.quic_values.specs.declared.memory.OutOfMemory.{OutOfMemory}
use Rattle.quic_wire.specs.declared.frame.StreamMeta.{StreamMeta}
use Rattle.quic_retransmits.specs.Pending.{Pending, nothing, merged_if}
use Rattle.quic_history.specs.World.{World}
use Rattle.quic_history.specs.Acknowledged.{AcksOwn, LosesOwn, AcksReset}
use Rattle.quic_history.specs.SendEvents.{AckedOwn, LostOwn, ResetAckedOwn}
use Rattle.quic_history.specs.History.{Event, Sending}

-- streams: what each STREAM frame carried, in the order of the payload
-- control: what was noted of the other frames, if there were any
pub record SentView : Type 0 where
  pub streams : List StreamMeta
  pub control : Option Pending

-- the streams that were given up, with their codes, in the order of their RESET_STREAM frames
abbrev pub resets_of : Option Pending → List (ℕ × ℕ)
resets_of control = (unwrap_or control nothing).reset_stream

-- steps for each of a list, in its order
abbrev pub EachInOrder : {T : Type 0} → (World → T → World → Type 0) → World → List T → World → Type 0
EachInOrder Each u [] v = v ≡ u
EachInOrder Each u (x ∷ xs) v = (w : World) × Each u x w × EachInOrder Each w xs v

-- the report of one frame, served
abbrev pub AcksMeta : World → StreamMeta → World → Type 0
AcksMeta u meta v = AcksOwn u meta.id meta.offsets meta.fin (Ok tt) v

abbrev pub LosesMeta : World → StreamMeta → World → Type 0
LosesMeta u meta v = LosesOwn u meta.id meta.offsets meta.fin (Ok tt) v

abbrev pub AcksResetOf : World → ℕ × ℕ → World → Type 0
AcksResetOf u reset v = AcksReset u reset.0 (Ok tt) v

-- the report of one frame may be refused for lack of memory
abbrev pub RefusesAck : World → StreamMeta → Type 0
RefusesAck u meta = (error : OutOfMemory) × AcksOwn u meta.id meta.offsets meta.fin (Err error) u

abbrev pub RefusesLoss : World → StreamMeta → Type 0
RefusesLoss u meta = (error : OutOfMemory) × LosesOwn u meta.id meta.offsets meta.fin (Err error) u

abbrev pub RefusesReset : World → ℕ × ℕ → Type 0
RefusesReset u reset = (error : OutOfMemory) × AcksReset u reset.0 (Err error) u

-- some of a list were reported, from its first on, and the report of the next was refused
-- told: those that were reported
-- next: the one whose report was refused
-- rest: those behind it
pub record StopsIn (T : Type 0) (Each : World → T → World → Type 0) (Refuses : World → T → Type 0) (u : World) (all : List T) (v : World) : Type 0 where
  pub told : List T
  pub next : T
  pub rest : List T
  pub parts : all ≡ told ++ next ∷ rest
  pub reports : EachInOrder Each u told v
  pub refused : Refuses v next

-- a report that stopped at a STREAM frame: what comes back has that frame, those behind it, and all that was noted of the
-- other frames
pub record StopsAtFrame (Each : World → StreamMeta → World → Type 0) (Refuses : World → StreamMeta → Type 0) (u : World) (sent back : SentView) (v : World) : Type 0 where
  pub frames : StopsIn StreamMeta Each Refuses u sent.streams v
  pub left : back ≡ record sent { streams = frames.next ∷ frames.rest }

-- a report of an acknowledgement that stopped at a RESET_STREAM: what comes back has that one and those behind it, and no
-- STREAM frame
pub record StopsAtReset (u : World) (sent back : SentView) (v : World) : Type 0 where
  pub between : World
  pub control : Pending
  pub frames : EachInOrder AcksMeta u sent.streams between
  pub noted : sent.control ≡ Some control
  pub resets : StopsIn (ℕ × ℕ) AcksResetOf RefusesReset between control.reset_stream v
  pub left : back ≡ record { streams = []; control = Some (record control { reset_stream = resets.next ∷ resets.rest }) }

-- what came of the report that a payload was acknowledged: each STREAM frame in order, then each RESET_STREAM; or the
-- beginning of that, and then what is unreported comes back
abbrev pub AcksWhole : World → SentView → Result (Unit {0}) SentView → World → Type 0
AcksWhole u sent (Ok x) v = (w : World) × EachInOrder AcksMeta u sent.streams w × EachInOrder AcksResetOf w (resets_of sent.control) v
AcksWhole u sent (Err back) v = StopsAtFrame AcksMeta RefusesAck u sent back v ⊎ StopsAtReset u sent back v

-- a report of a loss that stopped at what was noted of the other frames, since there was no memory to join it to what is
-- pending
pub record StopsAtControl (u : World) (sent back : SentView) (v : World) : Type 0 where
  pub frames : EachInOrder LosesMeta u sent.streams v
  pub noted : is_some sent.control ≡ true
  pub left : back ≡ record sent { streams = [] }

-- what came of the report that a payload was lost, with what is pending before and after: each STREAM frame in order,
-- then what was noted of the others is joined to what is pending; or the beginning of that, and then what is unreported
-- comes back and nothing is joined
abbrev pub LosesWhole : World → Pending → SentView → Result (Unit {0}) SentView → World → Pending → Type 0
LosesWhole u p sent (Ok x) v q = EachInOrder LosesMeta u sent.streams v × (q ≡ merged_if p sent.control)
LosesWhole u p sent (Err back) v q = (StopsAtFrame LosesMeta RefusesLoss u sent back v ⊎ StopsAtControl u sent back v) × (q ≡ p)

-- the history of a report: what was reported is what did not come back
abbrev pub unreported : Result (Unit {0}) SentView → SentView
unreported (Ok x) = record { streams = []; control = None }
unreported (Err back) = back

-- a list without its end
abbrev pub before_end : {T : Type 0} → List T → List T → List T
before_end all end = take (length all - length end) all

abbrev pub with_acks : List StreamMeta → List Event → List Event
with_acks [] h = h
with_acks (meta ∷ metas) h = with_acks metas (Sending (AckedOwn meta.id meta.offsets meta.fin (Ok tt)) ∷ h)

abbrev pub with_reset_acks : List (ℕ × ℕ) → List Event → List Event
with_reset_acks [] h = h
with_reset_acks (reset ∷ resets) h = with_reset_acks resets (Sending (ResetAckedOwn reset.0 (Ok tt)) ∷ h)

abbrev pub with_losses : List StreamMeta → List Event → List Event
with_losses [] h = h
with_losses (meta ∷ metas) h = with_losses metas (Sending (LostOwn meta.id meta.offsets meta.fin (Ok tt)) ∷ h)

abbrev pub acks_told : SentView → Result (Unit {0}) SentView → List Event → List Event
acks_told sent answer h = let back = unreported answer in
    with_reset_acks (before_end (resets_of sent.control) (resets_of back.control)) (with_acks (before_end sent.streams back.streams) h)

abbrev pub losses_told : SentView → Result (Unit {0}) SentView → List Event → List Event
losses_told sent answer h = with_losses (before_end sent.streams (unreported answer).streams) h
