-- A payload that a session writes for a pair.
use Rattle.std.specs.Prelude.{ℕ, ◌≡◌, Bool, true, false, Option, Some, None, Result, Ok, Err}
use Rattle.quic_values.specs.declared.memory.OutOfMemory.{OutOfMemory}
use Rattle.quic_streams.specs.declared.settling.SentPayload.{SentPayload}
use Rattle.quic_streams.specs.Sent.{sent_view}
use Rattle.quic_endpoint.specs.Ends.{EndState}
use Rattle.quic_endpoint.specs.Emitting.{PayloadView, EmitsAt}
use Rattle.quic_session.specs.declared.session.Session.{Session}
use Rattle.quic_session.specs.declared.emitting.Parts.{Parts}
use Rattle.quic_session.specs.Sessions.{end_of}
use Rattle.quic_session.specs.Tokens.{unsettled, KeepsNew}
use Rattle.quic_session.specs.Slots.{ChangesSlots}
use Rattle.quic_steps.specs.declared.steps.End.{End}
use Rattle.quic_steps.specs.declared.steps.PayloadPart.{PayloadPart}
use Rattle.quic_steps.specs.declared.steps.PayloadPart.TheVariants.{Control, Streams}
use Rattle.quic_exchange.specs.Parts.{EmitsPartAt}
use Rattle.quic_exchange.specs.Replies.{Answer}
use Rattle.quic_exchange.specs.State.{PairState}
use Rattle.quic_exchange.specs.Steps.{Emitted, EmittedPart}
use Rattle.quic_pair.specs.declared.emitting.Written.{Written}

-- control frames and data, or one of these
abbrev pub parts_for : Option PayloadPart → Parts
parts_for None = record { control = true; datagrams = false; streams = true }
parts_for (Some Control) = record { control = true; datagrams = false; streams = false }
parts_for (Some Streams) = record { control = false; datagrams = false; streams = true }

-- an endpoint writes a payload of both, or of one part
abbrev pub EmitsOf : Option PayloadPart → ℕ → Bool → EndState → PayloadView → Result (Unit {0}) OutOfMemory → EndState → Type 0
EmitsOf None most fair e payload answer f = EmitsAt most fair e payload answer f
EmitsOf (Some part) most fair e payload answer f = EmitsPartAt part most fair e payload answer f

-- what the step was replied, and what it did
abbrev pub EmittedOf : PairState → End → ℕ → Bool → Option PayloadPart → Answer → PairState → Type 0
EmittedOf old who most fair None reply new = Emitted old who most fair reply new
EmittedOf old who most fair (Some part) reply new = EmittedPart old who most fair part reply new

-- a payload was written and is kept under its token, also one without frames
pub record KeepsWritten (most : ℕ) (fair : Bool) (part : Option PayloadPart) (s : Session) (w : Written) (t : Session) : Type 0 where
  pub sent : SentPayload
  pub emits : EmitsOf part most fair (end_of s) (record { bytes = w.bytes.items; sent = sent_view sent }) w.answer (end_of t)
  pub keeps : KeepsNew (unsettled s.unsettled) s.unsettled.next sent w.token (unsettled t.unsettled) t.unsettled.next
  pub conn : t.conn ≡ s.conn

-- or, for lack of memory, nothing was
abbrev pub EmitsKept : ℕ → Bool → Option PayloadPart → Session → Result Written OutOfMemory → Session → Type 0
EmitsKept most fair part s (Ok w) t = KeepsWritten most fair part s w t
EmitsKept most fair part s (Err error) t = ChangesSlots s t
