-- Honest frames that are handed to a session.
use Rattle.std.proofs.Common.{inl, inr, ◌≡◌, ℕ, List, Option, None, Result, sym, ap, ◌∙◌}
use Rattle.std.proofs.lemmas.Option.{none-some}
use Rattle.quic_wire.specs.declared.frame.Frame.{Frame}
use Rattle.quic_wire.specs.declared.error.ReceiveError.{ReceiveError}
use Rattle.quic_receiving.specs.declared.transmit.ShouldTransmit.{ShouldTransmit}
use Rattle.quic_session.specs.declared.session.Session.{Session}
use Rattle.quic_session.specs.Sessions.{end_of}
use Rattle.quic_session.specs.Tokens.{unsettled}
use Rattle.quic_session.specs.Receiving.{ReceivesFrame, ReceivesOnly, IsNoDatagram, direction_refusal}
use Rattle.quic_steps.specs.declared.steps.End.{End}
use Rattle.quic_steps.specs.declared.steps.End.TheVariants.{A, B}
use Rattle.quic_exchange.specs.declared.early.EarlyLimits.{EarlyLimits}
use Rattle.quic_exchange.specs.declared.sent.Note.{Note}
use Rattle.quic_exchange.specs.State.{the_end}
use Rattle.quic_exchange.specs.Steps.{EndTakesFrame}
use Rattle.quic_pair.specs.Ends.{view_of, OnSession}
use Rattle.quic_pair.proofs.Sessions.{DoesOnly}

-- a frame that is directed rightly, and no datagram, is taken by the endpoint
takes-frame : (s : Session) (g : Frame) (size : ℕ) (answer : Result ShouldTransmit ReceiveError) (t : Session) → direction_refusal (end_of s).streams g ≡ None → IsNoDatagram g → ReceivesFrame s g size answer t → EndTakesFrame g size answer (end_of s) (end_of t)
takes-frame s g size answer t right other (inl d) = absurd (other d.datagram d.is)
takes-frame s g size answer t right other (inr (inl m)) = absurd (none-some m.code (sym right ∙ m.misdirected))
takes-frame s g size answer t right other (inr (inr k)) = record { receives = k.receives; accounts = k.accounts }

pub takes-only : (s : Session) (g : Frame) (size : ℕ) (answer : Result ShouldTransmit ReceiveError) (t : Session) → direction_refusal (end_of s).streams g ≡ None → IsNoDatagram g → ReceivesFrame s g size answer t × ReceivesOnly s t
    → DoesOnly (EndTakesFrame g size answer) s t
takes-only s g size answer t right other r = (takes-frame s g size answer t right other r.0, ap unsettled r.1.1)

pub takes-on : (g : Frame) (size : ℕ) (answer : Result ShouldTransmit ReceiveError) (w : End) (a b c d : Session) (notes : List Note) (waits : Option EarlyLimits) → direction_refusal (the_end (view_of a b notes waits) w).streams g ≡ None → IsNoDatagram g
    → OnSession (λ x y. ReceivesFrame x g size answer y × ReceivesOnly x y) w a b c d → OnSession (DoesOnly (EndTakesFrame g size answer)) w a b c d
takes-on g size answer A a b c d notes waits right other o = (takes-only a g size answer c right other o.0, o.1)
takes-on g size answer B a b c d notes waits right other o = (takes-only b g size answer d right other o.0, o.1)
