-- The payloads that are in the network: those that `Emit` and `EmitPart` returned. None leaves it, but that a rejection of early
-- data and a Retry drop all.
use Rattle.std.specs.Prelude.{ℕ, Bool, ◌≡◌, ◌⊎◌, ◌+◌, false, List, [], ◌∷◌, length, slice_get, Some, Ok, Err}
use Rattle.quic_retransmits.specs.Pending.{nothing}
use Rattle.quic_link.specs.Endpoints.{IsOneOf}
use Rattle.quic_steps.specs.declared.steps.End.{End}
use Rattle.quic_steps.specs.declared.steps.PayloadPart.{PayloadPart}
use Rattle.quic_steps.specs.declared.steps.Step.{Step}
use Rattle.quic_steps.specs.declared.steps.Step.TheVariants as steps
use Rattle.quic_steps.specs.declared.steps.Reply.TheVariants.{Payload}
use Rattle.quic_steps.specs.declared.steps.PairError.TheVariants.{OutOfMemory as NoMemory}
use Rattle.quic_exchange.specs.Sent.{Sent}
use Rattle.quic_exchange.specs.Gone.{HaveLeft}
use Rattle.quic_exchange.specs.Replies.{Answer}
use Rattle.quic_exchange.specs.State.{PairState}
use Rattle.quic_exchange.specs.History.{History}

-- ---- of each step

-- a payload keeps its writer and its bytes, and stays in the network or out of it
pub record IsSamePayload (s t : Sent) : Type 0 where
  pub writer : t.writer ≡ s.writer
  pub bytes : t.text.bytes ≡ s.text.bytes
  pub gone : t.gone ≡ s.gone

-- each payload does, under its number
abbrev pub KeepsPayloads : List Sent → List Sent → Type 0
KeepsPayloads old new = (number : ℕ) (s : Sent) → slice_get old number ≡ Some s → (t : Sent) × (slice_get new number ≡ Some t) × IsSamePayload s t

-- and there is no other
pub record KeepsNetwork (old new : List Sent) : Type 0 where
  pub size : length new ≡ length old
  pub each : KeepsPayloads old new

-- there is one more: an endpoint sent these bytes, under the next number
pub record SendsPayload (who : End) (bytes : List ℕ) (old new : List Sent) : Type 0 where
  pub size : length new ≡ length old + 1
  pub each : KeepsPayloads old new
  pub payload : Sent
  pub is : slice_get new (length old) ≡ Some payload
  pub writer : payload.writer ≡ who
  pub bytes_are : payload.text.bytes ≡ bytes
  pub here : payload.gone ≡ false

-- `Emit` or `EmitPart` sends the payload that it returns; if memory runs out, it sends one or none
abbrev pub EmitsReturned : End → Answer → List Sent → List Sent → Type 0
EmitsReturned who (Ok (Payload number bytes)) old new = (number ≡ length old) × SendsPayload who bytes.items old new
EmitsReturned who (Err NoMemory) old new = KeepsNetwork old new ⊎ ((bytes : List ℕ) × SendsPayload who bytes old new)
EmitsReturned who reply old new = KeepsNetwork old new

-- a Retry drops all payloads
abbrev pub DropsPayloads : Answer → List Sent → List Sent → Type 0
DropsPayloads (Ok reply) old new = HaveLeft old new
DropsPayloads (Err error) old new = KeepsNetwork old new

-- so does a rejection of early data, after which the client has no control frame to send
abbrev pub DropsEarlyData : Answer → PairState → PairState → Type 0
DropsEarlyData (Ok reply) old new = HaveLeft old.sent new.sent × (new.a.pending ≡ nothing)
DropsEarlyData (Err error) old new = KeepsNetwork old.sent new.sent

-- no other step adds a payload or drops one
abbrev pub ChangesNetwork : PairState → Step → Answer → PairState → Type 0
ChangesNetwork old (steps.Emit who most fair) reply new = EmitsReturned who reply old.sent new.sent
ChangesNetwork old (steps.EmitPart who most fair part) reply new = EmitsReturned who reply old.sent new.sent
ChangesNetwork old steps.EarlyReject reply new = DropsEarlyData reply old new
ChangesNetwork old steps.Retry reply new = DropsPayloads reply old.sent new.sent
ChangesNetwork old step reply new = KeepsNetwork old.sent new.sent

-- ---- by what a caller knows

-- a payload that `Emit` or `EmitPart` returned
pub record Returned : Type 0 where
  pub number : ℕ
  pub writer : End
  pub bytes : List ℕ

-- those that were not dropped since, after one more step
abbrev pub returned_then : List Returned → Step → Answer → List Returned
returned_then l (steps.Emit who most fair) (Ok (Payload number bytes)) = record { number = number; writer = who; bytes = bytes.items } ∷ l
returned_then l (steps.EmitPart who most fair part) (Ok (Payload number bytes)) = record { number = number; writer = who; bytes = bytes.items } ∷ l
returned_then l steps.EarlyReject (Ok reply) = []
returned_then l steps.Retry (Ok reply) = []
returned_then l step reply = l

-- after these steps
abbrev pub returned_from : List Returned → History → List Returned
returned_from l [] = l
returned_from l (e ∷ h) = returned_from (returned_then l e.0 e.1) h

-- each of them is in the network
abbrev pub AreInNetwork : List Returned → List Sent → Type 0
AreInNetwork l sent = (r : Returned) → IsOneOf r l → (s : Sent) × (slice_get sent r.number ≡ Some s) × (s.writer ≡ r.writer) × (s.text.bytes ≡ r.bytes) × (s.gone ≡ false)

-- and there is no other
abbrev pub AreAllReturned : List Returned → List Sent → Type 0
AreAllReturned l sent = (number : ℕ) (s : Sent) → slice_get sent number ≡ Some s → s.gone ≡ false → IsOneOf (record { number = number; writer = s.writer; bytes = s.text.bytes }) l

-- no `Emit` ran out of memory, and no `EmitPart`
pub record IsEmittedWhole (h : History) : Type 0 where
  pub whole : (who : End) (most : ℕ) (fair : Bool) → IsOneOf (steps.Emit who most fair, Err NoMemory) h → ⊥
  pub parts : (who : End) (most : ℕ) (fair : Bool) (part : PayloadPart) → IsOneOf (steps.EmitPart who most fair part, Err NoMemory) h → ⊥

-- the network has the payloads that `Emit` and `EmitPart` returned, and no other unless one of these ran out of memory
pub record IsNetworkOf (h : History) (sent : List Sent) : Type 0 where
  pub there : AreInNetwork (returned_from [] h) sent
  pub only : IsEmittedWhole h → AreAllReturned (returned_from [] h) sent
