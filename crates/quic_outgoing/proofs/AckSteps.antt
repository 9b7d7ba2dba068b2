-- Reports of frames that count.
use Rattle.std.proofs.Common.{◌≡◌, ℕ, ℤ, Bool, true, false, Option, Some, None, ap, ◌∙◌}
use Rattle.std.specs.Prelude.{MatchBool}
use Rattle.std.specs.declared.ops.Range.{Range}
use Rattle.quic_sending.specs.declared.send.Send.{Send}
use Rattle.quic_outgoing.specs.declared.acknowledging.Acked.{Acked}
use Rattle.quic_outgoing.specs.Senders.{SendersById, bare, raised, with_sender}
use Rattle.quic_outgoing.specs.Calls.{QueuesAt}
use Rattle.quic_outgoing.specs.Acknowledging.{were_sent}
use Rattle.quic_outgoing.specs.Reports.{AcksOn, AcksIn, LosesOn, LosesIn}
use Rattle.quic_outgoing.proofs.SenderMaps.{with_sender-back}
use Rattle.quic_outgoing.proofs.Frames.{sound-bare}

-- what a report does to a half does not depend on the limit of the peer
pub acks-raised : (limit : ℕ) (offsets : Range ℕ) (fin : Bool) (s t : Send) (o : Option Acked) → AcksOn offsets fin s o t → AcksOn offsets fin (raised limit s) o (raised limit t)
acks-raised limit offsets fin s t None h = (h.0, ap (raised limit) h.1)
acks-raised limit offsets fin s t (Some a) h = record {
  sent = h.sent;
  acks = record {
    acked = h.acks.acked;
    lost = h.acks.lost;
    held = h.acks.held;
    unsent = h.acks.unsent;
    offset = h.acks.offset;
    room = h.acks.room;
    cuts = h.acks.cuts;
    sound = h.acks.sound;
    others = ap (raised limit) h.acks.others;
  };
  released = h.released;
  complete = h.complete;
}

either : (b : Bool) (P Q R S : Type 0) → (P → R) → (Q → S) → MatchBool b P Q → MatchBool b R S
either true P Q R S f g h = f h
either false P Q R S f g h = g h

queues-same : (limit : ℕ) (s : Send) (q : Option ℤ) → QueuesAt s q → QueuesAt (raised limit (bare s)) q
queues-same limit s None h = h
queues-same limit s (Some priority) h = h

pub loses-bare : (limit : ℕ) (offsets : Range ℕ) (fin : Bool) (s t : Send) (queue : Option ℤ) → LosesOn offsets fin s queue t
    → LosesOn offsets fin (raised limit (bare s)) queue (raised limit (bare t))
loses-bare limit offsets fin s t queue = either (were_sent (Some s) offsets) _ _ _ _
    (λ h. (queues-same limit s queue h.0, record { lost = h.1.lost; sound = sound-bare t.pending h.1.sound; others = ap (λ (x : Send). raised limit (bare x)) h.1.others }))
    (λ h. (h.0, ap (λ (x : Send). raised limit (bare x)) h.1))

-- ---- the halves

pub acks-in : (f g : SendersById) (id : ℕ) (offsets : Range ℕ) (fin : Bool) (s t : Send) (o : Option Acked) → f id ≡ Some s → g ≡ with_sender f id (Some t) → AcksOn offsets fin s o t
    → AcksIn f id offsets fin o g
acks-in f g id offsets fin s t None held is h =
    (ap (λ o. were_sent o offsets) held ∙ h.0, is ∙ ap (λ x. with_sender f id (Some x)) h.1 ∙ with_sender-back f id (Some s) held)
acks-in f g id offsets fin s t (Some a) held is h = record { half = s; after = t; is_held = held; acks = h; is = is }

pub loses-in : (f g : SendersById) (id : ℕ) (offsets : Range ℕ) (fin : Bool) (s t : Send) (queue : Option ℤ) → f id ≡ Some s → g ≡ with_sender f id (Some t) → LosesOn offsets fin s queue t
    → LosesIn f id offsets fin queue g
loses-in f g id offsets fin s t queue held is h = rw held (either (were_sent (Some s) offsets) _ _ _ _
    (λ k. record { half = s; after = t; is_held = held; queues = k.0; loses = k.1; is = is })
    (λ k. (k.0, is ∙ ap (λ x. with_sender f id (Some x)) k.1 ∙ with_sender-back f id (Some s) held)) h)
