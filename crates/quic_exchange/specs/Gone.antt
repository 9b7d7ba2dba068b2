-- Payloads that left the network: none of their frames is delivered from then on, and nothing is reported of them.
use Rattle.std.specs.Prelude.{◌≡◌, ◌⊎◌, ◌≤◌, ℕ, true, false, List, [], ◌∷◌, Option, Some, None, length, slice_get}
use Rattle.quic_retransmits.specs.Pending.{Pending, merged_if, thin_view}
use Rattle.quic_streams.specs.declared.settling.SentPayload.{SentPayload}
use Rattle.quic_exchange.specs.Sent.{Sent}

-- one of them: of what it was nothing is kept
pub record IsGone (s : Sent) : Type 0 where
  pub gone : s.gone ≡ true
  pub text : s.text ≡ record { bytes = []; accepted = [] }
  pub begun : s.unsettled.begun ≡ None
  pub rest : s.unsettled.rest ≡ None

-- a payload that left had the number
pub record HasLeft (sent : List Sent) (number : ℕ) : Type 0 where
  pub payload : Sent
  pub is : slice_get sent number ≡ Some payload
  pub gone : payload.gone ≡ true

-- no payload has the number: none was sent, or it left
abbrev pub IsNoPayload : List Sent → ℕ → Type 0
IsNoPayload sent number = (length sent ≤ number) ⊎ HasLeft sent number

-- one was sent, and did not
pub record IsThere (sent : List Sent) (number : ℕ) : Type 0 where
  pub payload : Sent
  pub is : slice_get sent number ≡ Some payload
  pub here : payload.gone ≡ false

-- all of some leave
pub record HaveLeft (old new : List Sent) : Type 0 where
  pub size : length new ≡ length old
  pub each : (number : ℕ) (s : Sent) → slice_get new number ≡ Some s → IsGone s

-- what was noted of the frames of a payload beside STREAM, if something of it is unreported
abbrev pub noted_at : Option SentPayload → Option Pending
noted_at None = None
noted_at (Some rest) = thin_view rest.control

-- pending control frames, with those that were noted
abbrev pub with_noted : Pending → Option SentPayload → Pending
with_noted p rest = merged_if p (noted_at rest)

-- with what was noted of each of some, the first one first
abbrev pub with_all_noted : Pending → List Sent → Pending
with_all_noted p [] = p
with_all_noted p (s ∷ ss) = with_all_noted (with_noted p s.unsettled.rest) ss
