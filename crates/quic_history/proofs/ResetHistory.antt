-- A RESET_STREAM frame keeps what a history says.
use Rattle.std.proofs.Common.{◌≡◌, ℕ, Bool, true, false, ◌||◌, eqb, List, ◌∷◌, Option, Some, None, is_some, Result, Ok, Err, refl, sym, ap, ◌∙◌, inl, inr, arith, ◌+◌, ◌-◌, ◌≤◌}
use Rattle.std.specs.Prelude.{not, max, if◌then◌else◌, ◌==◌}
use Rattle.std.proofs.lemmas.Bool.Decides.{nat_tests}
use Rattle.quic_wire.specs.declared.error.ReceiveError.{ReceiveError}
use Rattle.quic_wire.specs.declared.error.ReceiveError.TheVariants as receive_error
use Rattle.quic_receiving.specs.Half.{Half, Refused, Taken, reset_verdict, is_unfit, is_beyond}
use Rattle.quic_receiving.specs.Calls.{Clears}
use Rattle.quic_receiving.specs.declared.transmit.ShouldTransmit.{ShouldTransmit}
use Rattle.quic_limits.specs.Credit.{Credit}
use Rattle.quic_history.specs.World.{World, id_refusal, with_credit, advanced, noticed, with_freed}
use Rattle.quic_history.specs.Receiving.{ReceivesReset, after_reset, with_rest, credited_to}
use Rattle.quic_history.specs.History.{Event, ReceivedReset, Trace, HalfFrom, CreditFrom, Facts, trace, is_closed, consumed, consumed_by, last_window, debt, received}
use Rattle.quic_history.proofs.WorldSteps.{credit-with_receive, refusal-advanced}
use Rattle.quic_history.proofs.Totals.{by_cases, same}
use Rattle.quic_history.proofs.Credits.{credit-counted, credit-credited, credit-same}
use Rattle.quic_history.proofs.Traces.{itself, received-change, received-kept}
use Rattle.quic_history.proofs.StreamSteps.{AllFrom, AllBut, all-told, half-from, gone-from, but-from, but-put, but-noticed, all-put, all-freed, all-noticed, refusal-noticed, credit-noticed, credit-freed}
use Rattle.quic_history.proofs.FrameHistory.{not_beyond, open-trace, when, facts-at}

-- a final size that is taken is none that another frame excludes
fit_end : (o : Option ℕ) (high final : ℕ) → ((e : ℕ) → o ≡ Some e → high ≡ e) → is_unfit o high final ≡ false → high ≤ final
fit_end None high final f h = grind (arith, nat_tests)
fit_end (Some known) high final f h = let e = f known refl in grind (arith, nat_tests)

-- what a reset that is taken passed
record Passes (old : Half) (final had most : ℕ) : Type 0 where
  pub fit : is_unfit old.size old.end final ≡ false
  pub fits : had + (final - old.end) ≤ most

no_test_fails : (a b : Bool) (e k : ℕ) → (if a then Refused e else if b then Refused k else Taken) ≡ Taken → (a ≡ false) × (b ≡ false)
no_test_fails true b e k h = cc
no_test_fails false true e k h = cc
no_test_fails false false e k h = (refl, refl)

passes : (old : Half) (final had most : ℕ) → reset_verdict old final had most ≡ Taken → Passes old final had most
passes old final had most v =
    let tests = no_test_fails (is_unfit old.size old.end final) (is_beyond old.end old.sent_max final had most) 6 3 v in
    record { fit = tests.0; fits = not_beyond old.end old.sent_max final had most tests.1 }

-- what gives no credit yet gives it, if it is some
rest_if : (window : ℕ) (b : Bool) (n used owed came : ℕ) (w : World) → (n == 0) ≡ b → CreditFrom window used owed came w.credit
    → CreditFrom window (used + n) (owed - n) came (if b then w else with_credit w n).credit
rest_if window true n used owed came w e c = let z : n ≡ 0 = grind (arith, nat_tests) in credit-same window used owed came (used + n) (owed - n) came w.credit (omega arith) (omega arith) refl c
rest_if window false n used owed came w e c = credit-credited window used owed came n w.credit c

all_rest : (g : ℕ → Trace) (n : ℕ) (w : World) → AllFrom g w → AllFrom g (with_rest w n)
all_rest g n w s = when g w (with_credit w n) (n == 0) (λ _. s) (λ _. s)

-- ---- the first reset that is taken, on a half that is there

module _ (begun : Credit) (h : List Event) (u : World) (id code final : ℕ) (transmit : ShouldTransmit) (old new : Half) (f : Facts begun h u)
    (known : id_refusal u id ≡ None) (half : u.receive id ≡ Some old) (running : old.reset ≡ None) (passed : Passes old final u.credit.data_recvd u.credit.local_max_data)
    (clears : Clears old.buffer new.buffer) (is : new ≡ record old { buffer = new.buffer; size = Some final; reset = Some code; end = final }) where
  abbrev e : Event
  e = ReceivedReset id code final (Ok transmit)

  abbrev g : ℕ → Trace
  g = trace (e ∷ h)

  abbrev t : Trace
  t = trace h id

  abbrev w : World
  w = advanced u id old new

  was : HalfFrom u.window t old
  was = half-from (trace h) u id old f.streams known half

  others : (q : ℕ) → eqb q id ≡ false → g q ≡ trace h q
  others q n = rw n refl

  here : g id ≡ record t { high = final; sized = true; reset = Some code; gone = t.stopped }
  here = rw (itself id, open-trace t old was running) refl

  but : AllBut id g w
  but = but-put g u id (Some new) (but-from (trace h) g u id others f.streams)

  end_is : new.end ≡ final
  end_is = ap (λ x. x.end) is

  low : old.end ≤ final
  low = fit_end old.size old.end final was.final passed.fit

  came : received (e ∷ h) ≡ received h + (new.end - old.end)
  came = let change = received-change h g id others in
      let high : (g id).high ≡ final = ap (λ k. k.high) here in
      let a = was.high in
      let b = end_is in
      let c = low in
      omega arith

  counted-credit : CreditFrom (last_window begun h) (consumed h) (debt begun h) (received (e ∷ h)) w.credit
  counted-credit = rw (credit-with_receive u id (Some new))
      (credit-counted (last_window begun h) (consumed h) (debt begun h) (received h) (new.end - old.end) (received (e ∷ h)) u.credit f.credit came (let b = end_is in let fits = passed.fits in omega arith))

  half_reset : t.stopped ≡ false → HalfFrom u.window (g id) new
  half_reset s = record {
    high = end_is ∙ sym (ap (λ k. k.high) here);
    read = clears.bytes_read ∙ was.read ∙ sym (ap (λ k. k.read) here);
    sized = ap (λ x. is_some x.size) is ∙ sym (ap (λ k. k.sized) here);
    stopped = ap (λ x. x.stopped) is ∙ was.stopped ∙ sym (ap (λ k. k.stopped) here);
    reset = ap (λ x. x.reset) is ∙ sym (ap (λ k. k.reset) here);
    there = ap (λ k. k.gone) here ∙ s;
    final = λ size k. end_is ∙ (let m : Some final ≡ Some size = sym (ap (λ x. x.size) is) ∙ k in cc);
    within = omega (arith, end_is, low, clears.highest, was.within);
    limit = ap (λ x. x.sent_max) is ∙ was.limit ∙ ap (λ k. max u.window k) (sym (ap (λ k. k.announced) here));
    holds = λ s r. let k : Some code ≡ None = sym (ap (λ k. k.reset) here) ∙ r in cc;
  }

  credited_is : (b c : Bool) → c ≡ b → final - (if b then t.high else t.read) ≡ new.end - (if c then old.end else old.buffer.bytes_read)
  credited_is true c k = rw k (let a = was.high in let b = end_is in omega arith)
  credited_is false c k = rw k (let a = was.read in let b = end_is in omega arith)

  used : consumed_by h e ≡ new.end - credited_to old
  used = rw (open-trace t old was running) (credited_is t.stopped old.stopped was.stopped)

  abbrev x : World
  x = noticed w id (not old.stopped)

  credit_freed : (b : Bool) → (if b then with_freed x id else x).credit ≡ w.credit
  credit_freed true = credit-freed x id ∙ credit-noticed w id (not old.stopped)
  credit_freed false = credit-noticed w id (not old.stopped)

  facts_reset : Facts begun (e ∷ h) (after_reset u id old new)
  facts_reset =
      let n : ℕ = new.end - credited_to old in
      let y = if old.stopped then with_freed x id else x in
      let base : CreditFrom (last_window begun h) (consumed h) (debt begun h) (received (e ∷ h)) y.credit = rw (credit_freed old.stopped) counted-credit in
      let some = used in
      record {
        credit = credit-same (last_window begun h) (consumed h + n) (debt begun h - n) (received (e ∷ h)) (consumed (e ∷ h)) (debt begun (e ∷ h)) (received (e ∷ h)) (with_rest y n).credit
            (omega arith) (omega arith) refl (rest_if (last_window begun h) (n == 0) n (consumed h) (debt begun h) (received (e ∷ h)) y refl base);
        streams = all_rest g n y (when g (with_freed x id) x old.stopped
            (λ s. all-freed g x id (but-noticed g w id id (not old.stopped) but) (refusal-noticed w id (not old.stopped) id ∙ refusal-advanced u id id old new ∙ known)
            (ap (λ k. k.gone) here ∙ sym was.stopped ∙ s))
            (λ s. all-noticed g w id (not old.stopped) (all-put g u id new (but-from (trace h) g u id others f.streams) known (half_reset (sym was.stopped ∙ s)))));
      }

-- ---- a reset that changes nothing

module _ (begun : Credit) (h : List Event) (u : World) (id code final : ℕ) (answer : Result ShouldTransmit ReceiveError) (f : Facts begun h u)
    (untold : (q : ℕ) → trace (ReceivedReset id code final answer ∷ h) q ≡ trace h q) (unused : consumed_by h (ReceivedReset id code final answer) ≡ 0)
    (came : received (ReceivedReset id code final answer ∷ h) ≡ received h) where
  abbrev e0 : Event
  e0 = ReceivedReset id code final answer

  abbrev g0 : ℕ → Trace
  g0 = trace (e0 ∷ h)

  facts_unchanged : Facts begun (e0 ∷ h) u
  facts_unchanged =
      let none = unused in
      record {
        credit = credit-same (last_window begun h) (consumed h) (debt begun h) (received h) (consumed (e0 ∷ h)) (debt begun (e0 ∷ h)) (received (e0 ∷ h)) u.credit (omega arith) (omega arith) came f.credit;
        streams = all-told (trace h) g0 u untold f.streams;
      }

-- on a stream that is closed
module _ (begun : Credit) (h : List Event) (u : World) (id code final : ℕ) (transmit : ShouldTransmit) (f : Facts begun h u) (closed : is_closed (trace h id) ≡ true) where
  pub untold-closed : (q : ℕ) → trace (ReceivedReset id code final (Ok transmit) ∷ h) q ≡ trace h q
  untold-closed q = by_cases (eqb q id)
      (λ t. let c : is_closed (trace h q) ≡ true = ap (λ x. is_closed (trace h x)) (same q id t) ∙ closed in rw (t, c) refl)
      (λ n. rw n refl)

  facts_closed : Facts begun (ReceivedReset id code final (Ok transmit) ∷ h) u
  facts_closed = facts_unchanged begun h u id code final (Ok transmit) f untold-closed (rw closed refl)
      (received-kept h (trace (ReceivedReset id code final (Ok transmit) ∷ h)) id (λ q n. untold-closed q) (ap (λ k. k.high) (untold-closed id)))

pub or-second : (b c : Bool) → c ≡ true → (b || c) ≡ true
or-second true c e = refl
or-second false c e = e

pub or-first : (b c : Bool) → b ≡ true → (b || c) ≡ true
or-first b c e = rw e refl

-- ---- every answer

pub kept-reset : (begun : Credit) (h : List Event) (u v : World) (id code final : ℕ) (answer : Result ShouldTransmit ReceiveError)
    → Facts begun h u → ReceivesReset u id code final answer v → Facts begun (ReceivedReset id code final answer ∷ h) v
kept-reset begun h u v id code final (Ok transmit) f (inl s) =
    facts-at begun _ v u s.3 (facts_closed begun h u id code final transmit f (or-second (is_some (trace h id).reset) (trace h id).gone (gone-from (trace h) u id f.streams s.0 s.1)))
kept-reset begun h u v id code final (Ok transmit) f (inr (inl s)) =
    let x = half-from (trace h) u id s.0 f.streams s.2.known s.2.half in
    facts-at begun _ v u s.4 (facts_closed begun h u id code final transmit f (or-first (is_some (trace h id).reset) (trace h id).gone (ap is_some (sym x.reset) ∙ s.2.resets.1)))
kept-reset begun h u v id code final (Ok transmit) f (inr (inr s)) =
    let r = s.2 in
    facts-at begun _ v _ s.4 (facts_reset begun h u id code final transmit s.0 s.1 f r.known r.half r.resets.1
    (passes s.0 final u.credit.data_recvd u.credit.local_max_data r.resets.0) r.resets.2 r.resets.3)
kept-reset begun h u v id code final (Err (receive_error.Transport error)) f (inl s) = facts-at begun _ v u s.1 (facts_unchanged begun h u id code final (Err (receive_error.Transport error)) f (λ q. refl) refl refl)
kept-reset begun h u v id code final (Err (receive_error.Transport error)) f (inr s) = facts-at begun _ v u s.3 (facts_unchanged begun h u id code final (Err (receive_error.Transport error)) f (λ q. refl) refl refl)
kept-reset begun h u v id code final (Err receive_error.CompactionMemory) f s = absurd s
kept-reset begun h u v id code final (Err receive_error.OutOfMemory) f s = facts-at begun _ v u s (facts_unchanged begun h u id code final (Err receive_error.OutOfMemory) f (λ q. refl) refl refl)
