-- A payload that an endpoint writes of one part alone: control frames, or STREAM frames.
use Rattle.std.specs.Prelude.{ℕ, Bool, ◌≡◌, [], Result}
use Rattle.quic_values.specs.declared.memory.OutOfMemory.{OutOfMemory}
use Rattle.quic_retransmits.specs.Pending.{nothing}
use Rattle.quic_endpoint.specs.Ends.{EndState}
use Rattle.quic_endpoint.specs.Emitting.{PayloadView, control_in, EmitsControl, EmitsStreams}
use Rattle.quic_steps.specs.declared.steps.PayloadPart.{PayloadPart}
use Rattle.quic_steps.specs.declared.steps.PayloadPart.TheVariants.{Control, Streams}

-- control frames alone, and no STREAM frame
pub record EmitsControlAlone (most : ℕ) (e : EndState) (payload : PayloadView) (answer : Result (Unit {0}) OutOfMemory) (f : EndState) : Type 0 where
  pub writes : EmitsControl most e answer f payload.bytes (control_in payload)
  pub none : payload.sent.streams ≡ []

-- STREAM frames alone, of which nothing is noted
pub record EmitsStreamsAlone (most : ℕ) (fair : Bool) (e : EndState) (payload : PayloadView) (answer : Result (Unit {0}) OutOfMemory) (f : EndState) : Type 0 where
  pub writes : EmitsStreams most fair e [] answer f payload
  pub none : control_in payload ≡ nothing

-- a payload of a part was written, also if memory ran out: then the frames that were written before stand in it
abbrev pub EmitsPartAt : PayloadPart → ℕ → Bool → EndState → PayloadView → Result (Unit {0}) OutOfMemory → EndState → Type 0
EmitsPartAt Control most fair e payload answer f = EmitsControlAlone most e payload answer f
EmitsPartAt Streams most fair e payload answer f = EmitsStreamsAlone most fair e payload answer f
