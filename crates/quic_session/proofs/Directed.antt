-- Frames that are refused for their direction, and the calls that the others are.
use Rattle.std.proofs.Common.{◌≡◌, ℕ, Bool, true, false, refl, sym, ap, subst, List, Option, Some, None, Result, Ok, Err}
use Rattle.std.proofs.lemmas.Bool.{false≢true}
use Rattle.std.proofs.lemmas.Option.{none-some}
use Rattle.quic_wire.specs.declared.frame.Frame.{Frame}
use Rattle.quic_wire.specs.declared.frame.Frame.TheVariants as frames
use Rattle.quic_wire.specs.declared.error.TransportError.{TransportError}
use Rattle.quic_wire.specs.declared.error.ReceiveError.{ReceiveError}
use Rattle.quic_wire.specs.declared.error.ReceiveError.TheVariants as receive_error
use Rattle.quic_receiving.specs.declared.transmit.ShouldTransmit.{ShouldTransmit}
use Rattle.quic_history.specs.World.{World, Made}
use Rattle.quic_history.specs.History.{Event, From}
use Rattle.quic_endpoint.specs.Receiving.{event_of, with_call_made, MayAnswer}
use Rattle.quic_session.specs.Receiving.{direction_refusal, call_of}

-- a refused one is no call
pub misdirected-none : (w : World) (frame : Frame) (code : ℕ) (error : TransportError) → direction_refusal w frame ≡ Some code → call_of frame (Err (receive_error.Transport error)) ≡ None
misdirected-none w (frames.StopSending f) code error h = refl
misdirected-none w (frames.StreamDataBlocked id offset) code error h = refl
misdirected-none w _ code error h = absurd (none-some code h)

pub misdirected-stays : (w : World) (frame : Frame) (code : ℕ) (error : TransportError) → direction_refusal w frame ≡ Some code
    → (m : Made) (h : List Event) (v : World) → From m h v → From m (with_call_made (call_of frame (Err (receive_error.Transport error))) h) v
misdirected-stays w frame code error k m h v f =
    let P : Option Event → Type 0 = λ o. From m (with_call_made o h) v in
    subst P (sym (misdirected-none w frame code error k)) f

is_transport : ReceiveError → Bool
is_transport (receive_error.Transport error) = true
is_transport _ = false

no-room : (error : TransportError) → ◌≡◌ {A = ReceiveError} (receive_error.Transport error) receive_error.OutOfMemory → ⊥
unfolding is_transport
no-room error h = false≢true (sym (ap is_transport h))

-- any other is the call that it is of the streams
pub directed-call : (frame : Frame) (answer : Result ShouldTransmit ReceiveError) → MayAnswer frame answer → call_of frame answer ≡ event_of frame answer
directed-call (frames.StopSending f) (Ok transmit) may = refl
directed-call (frames.StopSending f) (Err (receive_error.Transport error)) may = absurd (no-room error may)
directed-call (frames.StopSending f) (Err receive_error.CompactionMemory) may = refl
directed-call (frames.StopSending f) (Err receive_error.OutOfMemory) may = refl
directed-call _ answer may = refl
