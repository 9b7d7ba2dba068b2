-- What the report of a frame does to the half of its stream, where that lies.
use Rattle.std.specs.Prelude.{◌≡◌, ℕ, ℤ, ◌-◌, Bool, true, false, Option, Some, None, MatchBool}
use Rattle.std.specs.declared.ops.Range.{Range}
use Rattle.quic_sending.specs.declared.send.Send.{Send}
use Rattle.quic_sending.specs.Buffer.{total_length}
use Rattle.quic_outgoing.specs.declared.acknowledging.Acked.{Acked}
use Rattle.quic_outgoing.specs.Senders.{SendersById, with_sender}
use Rattle.quic_outgoing.specs.Calls.{QueuesAt}
use Rattle.quic_outgoing.specs.Acknowledging.{AcknowledgesOffsets, LosesOffsets, is_complete, were_sent}

-- a frame that was sent is acknowledged on a half
pub record AcksSent (offsets : Range ℕ) (fin : Bool) (s : Send) (acked : Acked) (t : Send) : Type 0 where
  pub sent : were_sent (Some s) offsets ≡ true
  pub acks : AcknowledgesOffsets offsets fin s t
  pub released : acked.released ≡ total_length s.pending.held - total_length t.pending.held
  pub complete : acked.is_complete ≡ is_complete t

-- what came of the report on a half that a frame was acknowledged: nothing, where it does not count
abbrev pub AcksOn : Range ℕ → Bool → Send → Option Acked → Send → Type 0
AcksOn offsets fin s None t = (were_sent (Some s) offsets ≡ false) × (t ≡ s)
AcksOn offsets fin s (Some acked) t = AcksSent offsets fin s acked t

-- a frame that was sent is acknowledged on the half of a stream
pub record AcksHeld (f : SendersById) (id : ℕ) (offsets : Range ℕ) (fin : Bool) (acked : Acked) (g : SendersById) : Type 0 where
  pub half : Send
  pub after : Send
  pub is_held : f id ≡ Some half
  pub acks : AcksSent offsets fin half acked after
  pub is : g ≡ with_sender f id (Some after)

-- what came of the report on the halves that a frame was acknowledged
abbrev pub AcksIn : SendersById → ℕ → Range ℕ → Bool → Option Acked → SendersById → Type 0
AcksIn f id offsets fin None g = (were_sent (f id) offsets ≡ false) × (g ≡ f)
AcksIn f id offsets fin (Some acked) g = AcksHeld f id offsets fin acked g

-- what came of the report on a half that a frame was lost: nothing, where it does not count
abbrev pub LosesOn : Range ℕ → Bool → Send → Option ℤ → Send → Type 0
LosesOn offsets fin s queue t = MatchBool (were_sent (Some s) offsets) (QueuesAt s queue × LosesOffsets offsets fin s t) ((queue ≡ None) × (t ≡ s))

-- a frame that was sent is lost of the half of a stream
pub record LosesHeld (f : SendersById) (id : ℕ) (offsets : Range ℕ) (fin : Bool) (queue : Option ℤ) (g : SendersById) : Type 0 where
  pub half : Send
  pub after : Send
  pub is_held : f id ≡ Some half
  pub queues : QueuesAt half queue
  pub loses : LosesOffsets offsets fin half after
  pub is : g ≡ with_sender f id (Some after)

-- what came of the report on the halves that a frame was lost
abbrev pub LosesIn : SendersById → ℕ → Range ℕ → Bool → Option ℤ → SendersById → Type 0
LosesIn f id offsets fin queue g = MatchBool (were_sent (f id) offsets) (LosesHeld f id offsets fin queue g) ((queue ≡ None) × (g ≡ f))
