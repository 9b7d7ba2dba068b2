-- What the application does on the sending side of a stream.
use Rattle.std.specs.Prelude.{ℕ, ℤ, Bool, true, false, ◌≡◌, ◌⊎◌, List, Option, Some, None, Result, Ok, Err}
use Rattle.quic_sending.specs.declared.send.Written.{Written}
use Rattle.quic_sending.specs.declared.send.WriteError.{WriteError}
use Rattle.quic_sending.specs.declared.send.WriteError.TheVariants as write_error
use Rattle.quic_sending.specs.declared.send.FinishError.{FinishError}
use Rattle.quic_sending.specs.declared.errors.HandleError.{HandleError}
use Rattle.quic_retransmits.specs.Pending.{Pending}
use Rattle.quic_outgoing.specs.declared.writing.Wrote.{Wrote}
use Rattle.quic_outgoing.specs.Outgoing.{Outgoing}
use Rattle.quic_outgoing.specs.Calls.{FinishesStream, ResetsStream, SetsPriority}
use Rattle.quic_outgoing.specs.Writing.{WritesOn}
use Rattle.quic_queue.specs.SendOrder.{with_entry}
use Rattle.quic_history.specs.World.{World}
use Rattle.quic_history.specs.Sends.{with_out}

-- a stream is queued to be sent on, at a priority; one on which something was to be sent before is queued already
abbrev pub with_queued : World → ℕ → Option ℤ → World
with_queued w id None = w
with_queued w id (Some priority) = record w { queue = with_entry w.queue (record { priority = priority; id = id }) }

-- what came of a write of these lists: on a connection that is closed nothing is written
abbrev pub WritesOwn : World → ℕ → List (List ℕ) → Bool → Pending → Result Written WriteError → World → List (List ℕ) → Pending → Type 0
WritesOwn w id lists closed p (Ok written) v left q = (closed ≡ false) × (wrote : Wrote) × (o : Outgoing) × WritesOn w.out id lists p (Ok wrote) o left q
    × (written ≡ wrote.written) × (v ≡ with_queued (with_out w o) id wrote.queue_at)
WritesOwn w id lists closed p (Err e) v left q = ((closed ≡ true) × (e ≡ write_error.Blocked) × (v ≡ w) × (left ≡ lists) × (q ≡ p))
    ⊎ ((closed ≡ false) × (o : Outgoing) × WritesOn w.out id lists p (Err e) o left q × (v ≡ with_out w o))

-- what came of ending a stream
abbrev pub FinishesOwn : World → ℕ → Result (Unit {0}) FinishError → World → Type 0
FinishesOwn w id (Ok x) v = (queue : Option ℤ) × (o : Outgoing) × FinishesStream w.out id (Ok queue) o × (v ≡ with_queued (with_out w o) id queue)
FinishesOwn w id (Err e) v = (o : Outgoing) × FinishesStream w.out id (Err e) o × (v ≡ with_out w o)

-- what came of giving a stream up
abbrev pub ResetsOwn : World → ℕ → ℕ → Pending → Result (Unit {0}) HandleError → World → Pending → Type 0
ResetsOwn w id code p answer v q = (o : Outgoing) × ResetsStream w.out id code p answer o q × (v ≡ with_out w o)

-- what came of giving a stream a priority
abbrev pub SetsOwnPriority : World → ℕ → ℤ → Result (Unit {0}) HandleError → World → Type 0
SetsOwnPriority w id priority answer v = (o : Outgoing) × SetsPriority w.out id priority answer o × (v ≡ with_out w o)
