-- What every call leaves, and that the limit of a connection does not fall.
use Rattle.std.proofs.Common.{◌≡◌, ℕ, Bool, true, false, List, Option, Some, None, is_some, Result, Ok, Err, refl, sym, subst, ap, ◌∙◌, inl, inr, arith, ◌-◌, ◌≤◌, ◌<◌, ◌^◌}
use Rattle.std.specs.Prelude.{not, min, nat_lt, ◌+◌, if◌then◌else◌, ◌==◌}
use Rattle.quic_values.specs.declared.ids.Side.{Side}
use Rattle.quic_assembler.specs.declared.chunk.Chunk.{Chunk}
use Rattle.quic_wire.specs.declared.error.ReceiveError.{ReceiveError}
use Rattle.quic_wire.specs.declared.error.ReceiveError.TheVariants as receive_error
use Rattle.quic_receiving.specs.Half.{Half, stop_credit}
use Rattle.quic_receiving.specs.declared.transmit.ShouldTransmit.{ShouldTransmit}
use Rattle.quic_receiving.specs.declared.errors.ReadError.{ReadError}
use Rattle.quic_receiving.specs.declared.errors.ReadError.TheVariants as read_error
use Rattle.quic_receiving.specs.declared.errors.ReadableError.{ReadableError}
use Rattle.quic_receiving.specs.declared.errors.ReadableError.TheVariants as readable_error
use Rattle.quic_sending.specs.declared.errors.HandleError.{HandleError}
use Rattle.quic_sending.specs.declared.errors.HandleError.TheVariants as handle_error
use Rattle.quic_retransmits.specs.Pending.{Pending}
use Rattle.quic_queue.specs.SendOrder.{SendOrder}
use Rattle.quic_history.specs.World.{World, with_receive, with_credit, with_receive_window, remote_of, advanced, noticed, with_freed}
use Rattle.quic_history.specs.Receiving.{Receives, ReceivesReset, after_data, after_reset, credited_to}
use Rattle.quic_history.specs.Reading.{Begins, Stops, TellsReset, after_read, after_stop}
use Rattle.quic_history.specs.History.{Event, Received, ReceivedReset, AddedCredits, Began, Gave, Ended, Stopped, ToldReset, Resized, SetConcurrent, Accepted, LeftPending, Sending, Rejected, SentAgain, Step, Goes}
use Rattle.quic_history.specs.Early.{with_rejection}
use Rattle.quic_history.specs.SendTotals.{SendTotals, send_totals}
use Rattle.quic_history.proofs.ControlSteps.{announces, goes-settled}
use Rattle.quic_history.proofs.SendSteps.{goes-sending}
use Rattle.quic_history.proofs.Permits.{steady-concurrent}
use Rattle.quic_limits.specs.Credit.{Credit}
use Rattle.quic_limits.specs.Remote.{one_accepted}
use Rattle.quic_history.proofs.StreamSteps.{Steady, steady, steady-put, steady-noticed, steady-freed, steady-remote}

-- what no call but credit changes
record Firm : Type 0 where
  pub side : Side
  pub window : ℕ
  pub limit : ℕ
  pub send_totals : SendTotals
  pub queue : SendOrder

abbrev firm_of : Steady → Firm
firm_of s = record { side = s.side; window = s.window; limit = s.credit.local_max_data; send_totals = s.send_totals; queue = s.queue }

abbrev firm : World → Firm
firm w = firm_of (steady w)

firm-put : (u : World) (id : ℕ) (o : Option Half) → firm (with_receive u id o) ≡ firm u
firm-put u id o = ap firm_of (steady-put u id o)

firm-freed : (u : World) (id : ℕ) → firm (with_freed u id) ≡ firm u
firm-freed u id = ap firm_of (steady-freed u id)

firm-noticed : (u : World) (id : ℕ) (b : Bool) → firm (noticed u id b) ≡ firm u
firm-noticed u id b = ap firm_of (steady-noticed u id b)

-- a call of the receiving side: what every call leaves, the totals of what is sent, and the send queue
pub record Firmly (u v : World) : Type 0 where
  pub goes : Goes u v
  pub same : send_totals v.out ≡ send_totals u.out
  pub queue : v.queue ≡ u.queue

stays : (u v : World) → firm v ≡ firm u → Firmly u v
stays u v e = record {
  goes = record { side = ap (λ s. s.side) e; window = ap (λ s. s.window) e; limit = omega (arith, ap (λ s. s.limit) e) };
  same = ap (λ s. s.send_totals) e;
  queue = ap (λ s. s.queue) e;
}

rises_at : (u v w : World) → v ≡ w → Firmly u w → Firmly u v
rises_at u v w e r = let P : World → Type 0 = λ x. Firmly u x in subst P (sym e) r

credit_rises : (u v : World) (n : ℕ) → u.credit.local_max_data < 2 ^ 64 → firm v ≡ firm u → Firmly u (with_credit v n)
credit_rises u v n fits e = record {
  goes = record { side = ap (λ s. s.side) e; window = ap (λ s. s.window) e; limit = omega (arith, ap (λ s. s.limit) e) };
  same = ap (λ s. s.send_totals) e;
  queue = ap (λ s. s.queue) e;
}

rest_rises : (u v : World) (n : ℕ) (b : Bool) → u.credit.local_max_data < 2 ^ 64 → firm v ≡ firm u → Firmly u (if b then v else with_credit v n)
rest_rises u v n true fits e = stays u v e
rest_rises u v n false fits e = credit_rises u v n fits e

limit-either : (u v w : World) (b : Bool) → firm v ≡ firm u → firm w ≡ firm u → firm (if b then v else w) ≡ firm u
limit-either u v w true e k = e
limit-either u v w false e k = k

rises-data : (u : World) (id : ℕ) (old new : Half) (fin stopped : Bool) → u.credit.local_max_data < 2 ^ 64
    → Firmly u (if stopped then with_credit (if fin then with_freed (advanced u id old new) id else advanced u id old new) (new.end - old.end) else noticed (advanced u id old new) id true)
rises-data u id old new fin true fits =
    let w = advanced u id old new in
    let same = firm-put u id (Some new) in
    credit_rises u (if fin then with_freed w id else w) (new.end - old.end) fits (limit-either u (with_freed w id) w fin (firm-freed w id ∙ same) same)
rises-data u id old new fin false fits =
    let w = advanced u id old new in
    stays u (noticed w id true) (firm-noticed w id true ∙ firm-put u id (Some new))

rises-received : (u v : World) (id offset : ℕ) (bytes : List ℕ) (fin : Bool) (answer : Result ShouldTransmit ReceiveError) → u.credit.local_max_data < 2 ^ 64
    → Receives u id offset bytes fin answer v → Firmly u v
rises-received u v id offset bytes fin (Ok transmit) fits (inl s) = stays u v (ap firm s.3)
rises-received u v id offset bytes fin (Ok transmit) fits (inr s) = rises_at u v (after_data u id s.1 s.2 fin) s.5 (rises-data u id s.1 s.2 fin s.1.stopped fits)
rises-received u v id offset bytes fin (Err (receive_error.Transport error)) fits (inl s) = stays u v (ap firm s.1)
rises-received u v id offset bytes fin (Err (receive_error.Transport error)) fits (inr s) = stays u v (ap firm s.3 ∙ firm-put u id (Some s.1))
rises-received u v id offset bytes fin (Err receive_error.CompactionMemory) fits s = stays u v (ap firm s.3 ∙ firm-put u id (Some s.1))
rises-received u v id offset bytes fin (Err receive_error.OutOfMemory) fits s = stays u v (ap firm s)

rises-reset : (u v : World) (id code final : ℕ) (answer : Result ShouldTransmit ReceiveError) → u.credit.local_max_data < 2 ^ 64 → ReceivesReset u id code final answer v → Firmly u v
rises-reset u v id code final (Ok transmit) fits (inl s) = stays u v (ap firm s.3)
rises-reset u v id code final (Ok transmit) fits (inr (inl s)) = stays u v (ap firm s.4)
rises-reset u v id code final (Ok transmit) fits (inr (inr s)) =
    let old = s.0 in
    let new = s.1 in
    let w = advanced u id old new in
    let x = noticed w id (not old.stopped) in
    let same = firm-noticed w id (not old.stopped) ∙ firm-put u id (Some new) in
    rises_at u v (after_reset u id old new) s.4
    (rest_rises u (if old.stopped then with_freed x id else x) (new.end - credited_to old) (new.end - credited_to old == 0) fits
    (limit-either u (with_freed x id) x old.stopped (firm-freed x id ∙ same) same))
rises-reset u v id code final (Err (receive_error.Transport error)) fits (inl s) = stays u v (ap firm s.1)
rises-reset u v id code final (Err (receive_error.Transport error)) fits (inr s) = stays u v (ap firm s.3)
rises-reset u v id code final (Err receive_error.CompactionMemory) fits s = absurd s
rises-reset u v id code final (Err receive_error.OutOfMemory) fits s = stays u v (ap firm s)

rises-began : (u v : World) (id : ℕ) (ordered : Bool) (answer : Result (Unit {0}) ReadableError) → Begins u id ordered answer v → Firmly u v
rises-began u v id ordered (Ok x) s = stays u v (ap firm s.is ∙ firm-put u id (Some s.new))
rises-began u v id ordered (Err readable_error.ClosedStream) s = stays u v (ap firm s.1)
rises-began u v id ordered (Err readable_error.IllegalOrderedRead) s = stays u v (ap firm s.is ∙ firm-put u id (Some s.new))
rises-began u v id ordered (Err readable_error.OutOfMemory) (inl s) = stays u v (ap firm s)
rises-began u v id ordered (Err readable_error.OutOfMemory) (inr s) = stays u v (ap firm s.is ∙ firm-put u id (Some s.new))

limit-read : (u : World) (id : ℕ) (new : Half) (answer : Result (Option Chunk) ReadError) → firm (after_read u id new answer) ≡ firm u
limit-read u id new (Ok (Some chunk)) = firm-put u id (Some new)
limit-read u id new (Ok None) = firm-freed u id
limit-read u id new (Err read_error.Blocked) = firm-put u id (Some new)
limit-read u id new (Err (read_error.Reset code)) = firm-freed u id
limit-read u id new (Err read_error.OutOfMemory) = firm-put u id (Some new)

rises-stopped : (u v : World) (id code : ℕ) (answer : Result (Unit {0}) HandleError) (p q : Pending) → u.credit.local_max_data < 2 ^ 64 → Stops u id code p answer v q → Firmly u v
rises-stopped u v id code (Ok x) p q fits s =
    rises_at u v (after_stop u id s.0 s.1) s.6
    (credit_rises u (if is_some s.0.size then with_freed u id else with_receive u id (Some s.1)) (stop_credit s.0) fits
    (limit-either u (with_freed u id) (with_receive u id (Some s.1)) (is_some s.0.size) (firm-freed u id) (firm-put u id (Some s.1))))
rises-stopped u v id code (Err handle_error.ClosedStream) p q fits s = stays u v (ap firm s.1)
rises-stopped u v id code (Err handle_error.OutOfMemory) p q fits s = stays u v (ap firm s.0)

rises-told : (u v : World) (id : ℕ) (answer : Result (Option ℕ) HandleError) (p q : Pending) → TellsReset u id p answer v q → Firmly u v
rises-told u v id (Ok (Some code)) p q s = stays u v (ap firm s.4 ∙ firm-freed u id)
rises-told u v id (Ok None) p q s = stays u v (ap firm s.4)
rises-told u v id (Err handle_error.ClosedStream) p q s = stays u v (ap firm s.1)
rises-told u v id (Err handle_error.OutOfMemory) p q s = stays u v (ap firm s.3)

resized_rises : (c : Credit) (n : ℕ) (b : Bool) → c.local_max_data < 2 ^ 64 → c.local_max_data ≤ (if b
    then record c { receive_window = n; local_max_data = min (c.local_max_data + (n - c.receive_window)) (2 ^ 64 - 1) }
    else record c { receive_window = n; shrink_debt = min (c.shrink_debt + (c.receive_window - n)) (2 ^ 64 - 1) }).local_max_data
resized_rises c n true fits = omega arith
resized_rises c n false fits = omega arith

-- whether a call is one of the sending side
abbrev pub is_of_sending : Event → Bool
is_of_sending (Sending e) = true
is_of_sending Rejected = true
is_of_sending (SentAgain answer) = true
is_of_sending _ = false

pub firmly : (h : List Event) (u : World) (e : Event) (v : World) → u.credit.local_max_data < 2 ^ 64 → is_of_sending e ≡ false → Step u e v → Firmly u v
firmly h u (Received id offset bytes fin answer) v fits n s = rises-received u v id offset bytes fin answer fits s
firmly h u (ReceivedReset id code final answer) v fits n s = rises-reset u v id code final answer fits s
firmly h u (AddedCredits count answer) v fits n s = rises_at u v (with_credit u count) s.0 (credit_rises u u count fits refl)
firmly h u (Began id ordered answer) v fits n s = rises-began u v id ordered answer s
firmly h u (Gave id most ordered answer) v fits n s = stays u v (ap firm s.is ∙ limit-read u id s.new answer)
firmly h u (Ended id count) v fits n s = rises_at u v (with_credit u count) s (credit_rises u u count fits refl)
firmly h u (Stopped id code answer) v fits n s = rises-stopped u v id code answer s.0 s.1 fits s.2
firmly h u (ToldReset id answer) v fits n s = rises-told u v id answer s.0 s.1 s.2
firmly h u (Resized size answer) v fits n s = rises_at u v (with_receive_window u size) s.0 (record { goes = record { side = refl; window = refl; limit = resized_rises u.credit size (nat_lt u.credit.receive_window size) fits }; same = refl; queue = refl })
firmly h u (SetConcurrent dir count (Ok k)) v fits n s = stays u v (ap firm s ∙ ap firm_of (steady-concurrent u dir count))
firmly h u (SetConcurrent dir count (Err k)) v fits n s = stays u v (ap firm s)
firmly h u (Accepted dir answer) v fits n s = stays u v (ap firm s.0 ∙ ap firm_of (steady-remote u dir (one_accepted (remote_of u dir))))
firmly h u (LeftPending kind frame) v fits n s = let t = announces kind u s.0 frame v s.1 s.2 in record { goes = goes-settled u v t; same = ap send_totals t.out; queue = t.queue }
firmly h u (Sending e) v fits n s = cc
firmly h u Rejected v fits n s = cc
firmly h u (SentAgain answer) v fits n s = cc

-- what an early start leaves
goes_at : (u v w : World) → v ≡ w → Goes u w → Goes u v
goes_at u v w e g = let P : World → Type 0 = λ x. Goes u x in subst P (sym e) g

pub goes : (h : List Event) (u : World) (e : Event) (v : World) → u.credit.local_max_data < 2 ^ 64 → Step u e v → Goes u v
goes h u (Received id offset bytes fin answer) v fits s = let f = firmly h u (Received id offset bytes fin answer) v fits refl s in f.goes
goes h u (ReceivedReset id code final answer) v fits s = let f = firmly h u (ReceivedReset id code final answer) v fits refl s in f.goes
goes h u (AddedCredits count answer) v fits s = let f = firmly h u (AddedCredits count answer) v fits refl s in f.goes
goes h u (Began id ordered answer) v fits s = let f = firmly h u (Began id ordered answer) v fits refl s in f.goes
goes h u (Gave id most ordered answer) v fits s = let f = firmly h u (Gave id most ordered answer) v fits refl s in f.goes
goes h u (Ended id count) v fits s = let f = firmly h u (Ended id count) v fits refl s in f.goes
goes h u (Stopped id code answer) v fits s = let f = firmly h u (Stopped id code answer) v fits refl s in f.goes
goes h u (ToldReset id answer) v fits s = let f = firmly h u (ToldReset id answer) v fits refl s in f.goes
goes h u (Resized size answer) v fits s = let f = firmly h u (Resized size answer) v fits refl s in f.goes
goes h u (SetConcurrent dir count (Ok k)) v fits s = let f = firmly h u (SetConcurrent dir count (Ok k)) v fits refl s in f.goes
goes h u (SetConcurrent dir count (Err k)) v fits s = let f = firmly h u (SetConcurrent dir count (Err k)) v fits refl s in f.goes
goes h u (Accepted dir answer) v fits s = let f = firmly h u (Accepted dir answer) v fits refl s in f.goes
goes h u (LeftPending kind frame) v fits s = let f = firmly h u (LeftPending kind frame) v fits refl s in f.goes
goes h u (Sending e) v fits s = goes-sending u e v s
goes h u Rejected v fits s = goes_at u v (with_rejection u) s.1 (record { side = refl; window = refl; limit = omega arith })
goes h u (SentAgain (Ok x)) v fits s = goes_at u v _ s.1.2 (record { side = refl; window = refl; limit = omega arith })
goes h u (SentAgain (Err x)) v fits s = goes_at u v u s.1 (record { side = refl; window = refl; limit = omega arith })
