-- What a frame does to the world, put together from the calls that do it.
use Rattle.std.proofs.Common.{◌≡◌, ℕ, Bool, true, false, List, Some, None, Result, Ok, refl, sym, ap, ◌∙◌, inr, ◌-◌}
use Rattle.std.specs.Prelude.{◌&&◌, if◌then◌else◌}
use Rattle.quic_limits.specs.Credit.{is_max_data_due}
use Rattle.quic_receiving.specs.Half.{Half}
use Rattle.quic_wire.specs.declared.error.ReceiveError.{ReceiveError}
use Rattle.quic_receiving.specs.Calls.{Ingests, TakesFrame}
use Rattle.quic_receiving.specs.declared.transmit.ShouldTransmit.{ShouldTransmit}
use Rattle.quic_history.specs.World.{World, id_refusal, with_freed, noticed, with_credit, with_receive, with_counted, advanced}
use Rattle.quic_history.specs.Receiving.{Reaches, Receives}
use Rattle.quic_history.proofs.WorldSteps.{receive-there, with_receive-twice, credit-with_receive, refusal-with_receive, refusal-advanced}

-- a half is put back, and what it grew by is counted
pub put_and_counted : (s : World) (id : ℕ) (h h' : Half) (n : ℕ) (u v : World) → u ≡ with_receive s id (Some h') → n ≡ h'.end - h.end → v ≡ with_counted u n
    → v ≡ advanced (with_receive s id (Some h)) id h h'
put_and_counted s id h h' n u v put is count =
    count ∙ ap (λ x. with_counted x n) (put ∙ sym (with_receive-twice s id (Some h) (Some h')))
    ∙ ap (with_counted (with_receive (with_receive s id (Some h)) id (Some h'))) is

-- that refuses no frame that was not refused
pub known_after : (s : World) (id : ℕ) (h h' : Half) (v : World) → v ≡ advanced (with_receive s id (Some h)) id h h' → id_refusal s id ≡ None → id_refusal v id ≡ None
known_after s id h h' v is known = ap (λ x. id_refusal x id) is ∙ refusal-advanced (with_receive s id (Some h)) id id h h' ∙ refusal-with_receive s id id (Some h) ∙ known

by_cases : (b : Bool) {P : Type 0} → (b ≡ true → P) → (b ≡ false → P) → P
by_cases true t f = t refl
by_cases false t f = f refl

-- a frame does not stop a half
pub takes-stopped : (h : Half) (offset : ℕ) (bytes : List ℕ) (fin : Bool) (h' : Half) → TakesFrame h offset bytes fin h' → h'.stopped ≡ h.stopped
takes-stopped h offset bytes fin h' t = by_cases h.stopped (λ s. ap (λ x. x.stopped) (t.stopped s)) (λ s. ap (λ x. x.stopped) (t.running s).is)

and_true : (b : Bool) → (b && true) ≡ b
and_true true = refl
and_true false = refl

-- a frame was taken on a stopped half
pub receives_stopped : (w : World) (id offset : ℕ) (bytes : List ℕ) (fin : Bool) (transmit : ShouldTransmit) (answer : ℕ × Bool) (h h' : Half) (v : World)
    → Reaches w id offset bytes fin (Ok answer) h h' → h'.stopped ≡ true → transmit.0 ≡ is_max_data_due v.credit
    → v ≡ with_credit (if answer.1 then with_freed (advanced w id h h') id else advanced w id h h') (h'.end - h.end)
    → Receives w id offset bytes fin (Ok transmit) v
receives_stopped w id offset bytes fin transmit answer h h' v r s due is =
    let stopped : h.stopped ≡ true = sym (takes-stopped h offset bytes fin h' r.ingests.3) ∙ s in
    let closed : answer.1 ≡ fin = r.ingests.2 ∙ ap (λ b. fin && b) stopped ∙ and_true fin in
    let ended : v ≡ with_credit (if fin then with_freed (advanced w id h h') id else advanced w id h h') (h'.end - h.end) =
    is ∙ ap (λ b. with_credit (if b then with_freed (advanced w id h h') id else advanced w id h h') (h'.end - h.end)) closed in
    inr (answer, h, h', r, rw stopped due, rw stopped ended)

-- a frame was taken on a half that is read
pub receives_running : (w : World) (id offset : ℕ) (bytes : List ℕ) (fin : Bool) (transmit : ShouldTransmit) (answer : ℕ × Bool) (h h' : Half) (v : World)
    → Reaches w id offset bytes fin (Ok answer) h h' → h'.stopped ≡ false → transmit.0 ≡ false → v ≡ noticed (advanced w id h h') id true
    → Receives w id offset bytes fin (Ok transmit) v
receives_running w id offset bytes fin transmit answer h h' v r s due is =
    let running : h.stopped ≡ false = sym (takes-stopped h offset bytes fin h' r.ingests.3) ∙ s in
    inr (answer, h, h', r, rw running due, rw running is)

-- a frame reaches the half that was put aside for it
pub reaches : (s : World) (id offset : ℕ) (bytes : List ℕ) (fin : Bool) (answer : Result (ℕ × Bool) ReceiveError) (h k h' : Half) (received permitted : ℕ)
    → id_refusal s id ≡ None → h.reset ≡ None → received ≡ s.credit.data_recvd → permitted ≡ s.credit.local_max_data → k ≡ h
    → Ingests k offset bytes fin received permitted answer h' → Reaches (with_receive s id (Some h)) id offset bytes fin answer h h'
reaches s id offset bytes fin answer h k h' received permitted known running used limit is ingests =
    record {
      known = refusal-with_receive s id id (Some h) ∙ known;
      half = receive-there s id (Some h);
      running = running;
      ingests = rw (credit-with_receive s id (Some h), ← used, ← limit, ← is) ingests;
    }

-- up to where a half gives credit when its bytes are discarded
pub discarded_by : (u u' v : World) (id n n' : ℕ) (closed : Bool) → v ≡ with_credit (if closed then with_freed u id else u) n → u ≡ u' → n ≡ n'
    → v ≡ with_credit (if closed then with_freed u' id else u') n'
discarded_by u u' v id n n' closed is same count = is ∙ ap (λ x. with_credit (if closed then with_freed x id else x) n) same ∙ ap (with_credit (if closed then with_freed u' id else u')) count
