-- A STREAM frame keeps what a history says.
use Rattle.std.proofs.Common.{◌≡◌, ℕ, Bool, true, false, ◌||◌, ◌&&◌, eqb, List, ◌∷◌, length, Option, Some, None, is_some, Result, Ok, Err, max, refl, sym, ap, ◌∙◌, subst, inl, inr, arith, ◌+◌, ◌-◌, ◌/◌, ◌%◌, ◌≤◌}
use Rattle.std.specs.Prelude.{nat_lt, nat_le, ◌^◌, if◌then◌else◌, ◌==◌}
use Rattle.std.proofs.lemmas.Bool.Decides.{nat_tests}
use Rattle.quic_wire.specs.declared.error.ReceiveError.{ReceiveError}
use Rattle.quic_wire.specs.declared.error.ReceiveError.TheVariants as receive_error
use Rattle.quic_receiving.specs.Half.{Half, Refused, Taken, verdict, is_beyond, counted_to}
use Rattle.quic_values.specs.Offsets.{is_past}
use Rattle.quic_receiving.specs.Data.{IsData}
use Rattle.quic_receiving.specs.Calls.{Inserted, KeepsBytes, TakesFrame, Ingests}
use Rattle.quic_receiving.proofs.Data.{data-inserted}
use Rattle.quic_receiving.specs.declared.transmit.ShouldTransmit.{ShouldTransmit}
use Rattle.quic_values.specs.Ids.{index_of}
use Rattle.quic_limits.specs.Credit.{Credit}
use Rattle.quic_history.specs.World.{World, id_refusal, is_own, with_receive, with_credit, advanced, noticed, with_freed}
use Rattle.quic_history.specs.Receiving.{IsDropped, Receives, after_data}
use Rattle.quic_history.specs.History.{Event, Received, Trace, HalfFrom, StreamFrom, CreditFrom, Facts, slices, trace, is_closed, is_frame_kept, consumed, consumed_by, last_window, debt, received}
use Rattle.quic_history.proofs.WorldSteps.{credit-with_receive, refusal-advanced, with_receive-back, with_counted-none}
use Rattle.quic_history.proofs.Refusals.{refusal_by, refusal-is}
use Rattle.quic_history.proofs.Totals.{by_cases, same}
use Rattle.quic_history.proofs.Credits.{credit-counted, credit-credited, credit-same}
use Rattle.quic_history.proofs.Traces.{itself, received-change}
use Rattle.quic_history.proofs.StreamSteps.{AllFrom, AllBut, all-told, half-from, but-from, but-put, all-put, all-freed, all-noticed, credit-noticed, credit-freed}

-- what a frame that was kept leaves of a half
pub record Grows (old new : Half) (offset : ℕ) (bytes : List ℕ) (fin : Bool) : Type 0 where
  pub high : new.end ≡ max old.end (offset + length bytes)
  pub size : new.size ≡ (if fin then Some (offset + length bytes) else old.size)
  pub stopped : new.stopped ≡ old.stopped
  pub reset : new.reset ≡ old.reset
  pub limit : new.sent_max ≡ old.sent_max
  pub read : new.buffer.bytes_read ≡ old.buffer.bytes_read
  pub highest : new.buffer.highest ≤ max old.buffer.highest (offset + length bytes)
  pub inserts : old.stopped ≡ false → Inserted old.buffer new.buffer offset bytes

size_or : (o : Option ℕ) (end : ℕ) (fin : Bool) → is_some (if fin then Some end else o) ≡ (is_some o || fin)
size_or None end true = refl
size_or None end false = refl
size_or (Some size) end true = refl
size_or (Some size) end false = refl

grows-counted : (old new : Half) (offset : ℕ) (bytes : List ℕ) (fin : Bool) → old.stopped ≡ true → new ≡ counted_to old (offset + length bytes) fin → Grows old new offset bytes fin
grows-counted old new offset bytes fin stopped is = rw is (record {
  high = refl;
  size = refl;
  stopped = refl;
  reset = refl;
  limit = refl;
  read = refl;
  highest = omega arith;
  inserts = λ s. cc;
})

grows-keeps : (old new : Half) (offset : ℕ) (bytes : List ℕ) (fin : Bool) → KeepsBytes old offset bytes fin new → Grows old new offset bytes fin
grows-keeps old new offset bytes fin k = record {
  high = ap (λ x. x.end) k.is;
  size = ap (λ x. x.size) k.is;
  stopped = ap (λ x. x.stopped) k.is;
  reset = ap (λ x. x.reset) k.is;
  limit = ap (λ x. x.sent_max) k.is;
  read = k.inserted.bytes_read;
  highest = omega (arith, k.inserted.highest);
  inserts = λ s. k.inserted;
}

grows-takes : (old new : Half) (offset : ℕ) (bytes : List ℕ) (fin : Bool) → TakesFrame old offset bytes fin new → Grows old new offset bytes fin
grows-takes old new offset bytes fin t = by_cases old.stopped
    (λ s. grows-counted old new offset bytes fin s (t.stopped s))
    (λ s. grows-keeps old new offset bytes fin (t.running s))

-- what a frame that is taken passed
pub record Passes (old : Half) (end : ℕ) (fin : Bool) (had most : ℕ) : Type 0 where
  pub past : is_past old.size end fin ≡ false
  pub low : fin ≡ true → old.end ≤ end
  pub fits : had + (end - old.end) ≤ most

no_test_fails : (a b c d : Bool) (e k : ℕ) → (if a then Refused e else if b then Refused k else if c then Refused k else if d then Refused e else Taken) ≡ Taken
    → (b ≡ false) × (c ≡ false) × (d ≡ false)
no_test_fails true b c d e k h = cc
no_test_fails false true c d e k h = cc
no_test_fails false false true d e k h = cc
no_test_fails false false false true e k h = cc
no_test_fails false false false false e k h = (refl, refl, refl)

pub not_beyond : (high limit end had most : ℕ) → is_beyond high limit end had most ≡ false → had + (end - high) ≤ most
not_beyond high limit end had most h = grind (arith, nat_tests)

high_after : (fin : Bool) (high end : ℕ) → (fin && nat_lt end high) ≡ false → fin ≡ true → high ≤ end
high_after true high end h t = grind (arith, nat_tests)
high_after false high end h t = cc

passes : (h : Half) (offset count : ℕ) (fin : Bool) (had most : ℕ) → verdict h offset count fin had most ≡ Taken → Passes h (offset + count) fin had most
passes h offset count fin had most v =
    let end = offset + count in
    let tests = no_test_fails (nat_le (2 ^ 62) end) (is_past h.size end fin) (fin && nat_lt end h.end) (is_beyond h.end h.sent_max end had most) 3 6 v in
    record { past = tests.0; low = high_after fin h.end end tests.1; fits = not_beyond h.end h.sent_max end had most tests.2 }

-- then a final size that is known is the highest offset still
size_after : (o : Option ℕ) (high end : ℕ) (fin : Bool) → ((e : ℕ) → o ≡ Some e → high ≡ e) → is_past o end fin ≡ false
    → (fin ≡ true → high ≤ end) → (e : ℕ) → (if fin then Some end else o) ≡ Some e → max high end ≡ e
size_after o high end true final past low e h = let k : end ≡ e = cc in omega (arith, low refl)
size_after None high end false final past low e h = cc
size_after (Some size) high end false final past low e h = let k : high ≡ e = final e h in let m : size ≡ e = cc in grind (arith, nat_tests)

-- a frame that is refused is of another code than an internal error
refused_code : (a b c d : Bool) (code : ℕ) → (if a then Refused 3 else if b then Refused 6 else if c then Refused 6 else if d then Refused 3 else Taken) ≡ Refused code → (code == 1) ≡ false
refused_code true b c d code h = let e : 3 ≡ code = cc in grind (arith, nat_tests)
refused_code false true c d code h = let e : 6 ≡ code = cc in grind (arith, nat_tests)
refused_code false false true d code h = let e : 6 ≡ code = cc in grind (arith, nat_tests)
refused_code false false false true code h = let e : 3 ≡ code = cc in grind (arith, nat_tests)
refused_code false false false false code h = cc

pub refused-other : (h : Half) (offset count : ℕ) (fin : Bool) (had most code : ℕ) → verdict h offset count fin had most ≡ Refused code → (code == 1) ≡ false
refused-other h offset count fin had most code v = let end = offset + count in
    refused_code (nat_le (2 ^ 62) end) (is_past h.size end fin) (fin && nat_lt end h.end) (is_beyond h.end h.sent_max end had most) code v

closed_or : (b c : Bool) → b ≡ false → c ≡ false → (b || c) ≡ false
closed_or b c e k = rw (e, k) refl

-- a half that was not reset is of a stream that is not closed
pub open-trace : {n : ℕ} (t : Trace) (h : Half) → HalfFrom n t h → h.reset ≡ None → is_closed t ≡ false
open-trace t h x running = closed_or (is_some t.reset) t.gone (ap (λ (o : Option ℕ). is_some o) (sym x.reset ∙ running)) x.there

half_grown : (n : ℕ) (t t' : Trace) (old new : Half) (offset : ℕ) (bytes : List ℕ) (fin : Bool) (had most : ℕ) → HalfFrom n t old → Grows old new offset bytes fin
    → Passes old (offset + length bytes) fin had most
    → t' ≡ record t { high = max t.high (offset + length bytes); sized = t.sized || fin; gone = t.stopped && fin; kept = record { offset = offset; bytes = bytes } ∷ t.kept }
    → t'.gone ≡ false → HalfFrom n t' new
half_grown n t t' old new offset bytes fin had most x g p e there = record {
  high = g.high ∙ ap (λ n. max n (offset + length bytes)) x.high ∙ sym (ap (λ k. k.high) e);
  read = g.read ∙ x.read ∙ sym (ap (λ k. k.read) e);
  sized = ap is_some g.size ∙ size_or old.size (offset + length bytes) fin ∙ ap (λ b. b || fin) x.sized ∙ sym (ap (λ k. k.sized) e);
  stopped = g.stopped ∙ x.stopped ∙ sym (ap (λ k. k.stopped) e);
  reset = g.reset ∙ x.reset ∙ sym (ap (λ k. k.reset) e);
  there = there;
  final = λ size k. g.high ∙ size_after old.size old.end (offset + length bytes) fin x.final p.past p.low size (sym g.size ∙ k);
  within = omega (arith, g.high, g.highest, x.within);
  limit = g.limit ∙ x.limit ∙ ap (λ k. max n k) (sym (ap (λ k. k.announced) e));
  holds = subst HasData (sym e) (λ s r. data-inserted t.kept (slices t.given) old.buffer new.buffer offset bytes (g.inserts (x.stopped ∙ s)) (x.holds s r));
}
  where
    HasData : Trace → Type 0
    HasData k = k.stopped ≡ false → k.reset ≡ None → IsData k.kept (slices k.given) new.buffer

pub when : (g : ℕ → Trace) (u v : World) (b : Bool) → (b ≡ true → AllFrom g u) → (b ≡ false → AllFrom g v) → AllFrom g (if b then u else v)
when g u v true s t = s refl
when g u v false s t = t refl

and_none : (b c : Bool) → c ≡ false → (b && c) ≡ false
and_none true c e = e
and_none false c e = refl

and_both : (b c : Bool) → b ≡ true → c ≡ true → (b && c) ≡ true
and_both b c e k = rw (e, k) refl

-- ---- a frame that was kept, on a half that was not reset

module _ (begun : Credit) (h : List Event) (u : World) (id offset : ℕ) (bytes : List ℕ) (fin : Bool) (answer : Result ShouldTransmit ReceiveError) (old new : Half) (f : Facts begun h u)
    (known : id_refusal u id ≡ None) (half : u.receive id ≡ Some old) (running : old.reset ≡ None) (grows : Grows old new offset bytes fin)
    (passed : Passes old (offset + length bytes) fin u.credit.data_recvd u.credit.local_max_data) (kept : is_frame_kept answer ≡ true) where
  abbrev e : Event
  e = Received id offset bytes fin answer

  abbrev g : ℕ → Trace
  g = trace (e ∷ h)

  abbrev t : Trace
  t = trace h id

  abbrev end : ℕ
  end = offset + length bytes

  abbrev w : World
  w = advanced u id old new

  was : HalfFrom u.window t old
  was = half-from (trace h) u id old f.streams known half

  others : (q : ℕ) → eqb q id ≡ false → g q ≡ trace h q
  others q n = rw n refl

  here : g id ≡ record t { high = max t.high end; sized = t.sized || fin; gone = t.stopped && fin; kept = record { offset = offset; bytes = bytes } ∷ t.kept }
  here = rw (itself id, kept, open-trace t old was running) refl

  but : AllBut id g w
  but = but-put g u id (Some new) (but-from (trace h) g u id others f.streams)

  put : (g id).gone ≡ false → AllFrom g w
  put there = all-put g u id new (but-from (trace h) g u id others f.streams) known (half_grown u.window t (g id) old new offset bytes fin u.credit.data_recvd u.credit.local_max_data was grows passed here there)

  came : received (e ∷ h) ≡ received h + (new.end - old.end)
  came = let change = received-change h g id others in
      let high : (g id).high ≡ max t.high end = ap (λ k. k.high) here in
      let a = was.high in
      let b = grows.high in
      omega arith

  counted-credit : CreditFrom (last_window begun h) (consumed h) (debt begun h) (received (e ∷ h)) w.credit
  counted-credit = rw (credit-with_receive u id (Some new))
      (credit-counted (last_window begun h) (consumed h) (debt begun h) (received h) (new.end - old.end) (received (e ∷ h)) u.credit f.credit came (let b = grows.high in let fits = passed.fits in omega arith))

  used : (n : ℕ) → (if t.stopped then end - t.high else 0) ≡ n → consumed_by h e ≡ n
  used n is = rw (kept, open-trace t old was running) is

  -- the half is read
  facts_running : old.stopped ≡ false → Facts begun (e ∷ h) w
  facts_running s =
      let stopped : t.stopped ≡ false = sym was.stopped ∙ s in
      let none : consumed_by h e ≡ 0 = used 0 (rw stopped refl) in
      record {
        credit = credit-same (last_window begun h) (consumed h) (debt begun h) (received (e ∷ h)) (consumed (e ∷ h)) (debt begun (e ∷ h)) (received (e ∷ h)) w.credit (omega arith) (omega arith) refl counted-credit;
        streams = put (ap (λ k. k.gone) here ∙ ap (λ b. b && fin) stopped);
      }

  -- and the frame is noticed
  facts_noticed : old.stopped ≡ false → Facts begun (e ∷ h) (noticed w id true)
  facts_noticed s = let r = facts_running s in record {
    credit = rw (credit-noticed w id true) r.credit;
    streams = all-noticed g w id true r.streams;
  }

  credit_freed : (b : Bool) → (if b then with_freed w id else w).credit ≡ w.credit
  credit_freed true = credit-freed w id
  credit_freed false = refl

  -- its bytes are discarded
  facts_discarded : old.stopped ≡ true → Facts begun (e ∷ h) (with_credit (if fin then with_freed w id else w) (new.end - old.end))
  facts_discarded s =
      let stopped : t.stopped ≡ true = sym was.stopped ∙ s in
      let high = was.high in
      let grown = grows.high in
      let count : ℕ = new.end - old.end in
      let some : consumed_by h e ≡ count = used count (rw stopped (omega arith)) in
      let known_now : id_refusal w id ≡ None = refusal-advanced u id id old new ∙ known in
      record {
        credit = rw (credit_freed fin) (credit-same (last_window begun h) (consumed h + count) (debt begun h - count) (received (e ∷ h)) (consumed (e ∷ h)) (debt begun (e ∷ h)) (received (e ∷ h)) _
            (omega arith) (omega arith) refl (credit-credited (last_window begun h) (consumed h) (debt begun h) (received (e ∷ h)) count w.credit counted-credit));
        streams = when g (with_freed w id) w fin
            (λ c. all-freed g w id but known_now (ap (λ k. k.gone) here ∙ and_both t.stopped fin stopped c))
            (λ c. put (ap (λ k. k.gone) here ∙ and_none t.stopped fin c));
      }

-- ---- a frame that changes nothing

or_second : (b c : Bool) → c ≡ true → (b || c) ≡ true
or_second true c e = refl
or_second false c e = e

or_first : (b c : Bool) → b ≡ true → (b || c) ≡ true
or_first b c e = rw e refl

pub dropped-closed : (n : ℕ) (t : Trace) (r : Option ℕ) (o : Option Half) → r ≡ None → StreamFrom n t r o → IsDropped o → is_closed t ≡ true
dropped-closed n t r None k s d = let gone : t.gone ≡ true = rw k at s in or_second (is_some t.reset) t.gone gone
dropped-closed n t r (Some half) k s d = let x : HalfFrom n t half = rw k at s in or_first (is_some t.reset) t.gone (ap (λ (o : Option ℕ). is_some o) (sym x.reset) ∙ d)

module _ (begun : Credit) (h : List Event) (u : World) (id offset : ℕ) (bytes : List ℕ) (fin : Bool) (answer : Result ShouldTransmit ReceiveError) (f : Facts begun h u)
    (closed : is_frame_kept answer ≡ true → is_closed (trace h id) ≡ true) where
  abbrev e0 : Event
  e0 = Received id offset bytes fin answer

  abbrev g0 : ℕ → Trace
  g0 = trace (e0 ∷ h)

  pub untold : (q : ℕ) → g0 q ≡ trace h q
  untold q = by_cases (eqb q id)
      (λ t. by_cases (is_frame_kept answer)
      (λ k. let c : is_closed (trace h q) ≡ true = ap (λ x. is_closed (trace h x)) (same q id t) ∙ closed k in rw (t, k, c) refl)
      (λ k. rw (t, k) refl))
      (λ n. rw n refl)

  unused : consumed_by h e0 ≡ 0
  unused = by_cases (is_frame_kept answer) (λ k. rw (k, closed k) refl) (λ k. rw k refl)

  facts_unchanged : Facts begun (e0 ∷ h) u
  facts_unchanged =
      let change = received-change h g0 id (λ q n. untold q) in
      let high : (g0 id).high ≡ (trace h id).high = ap (λ k. k.high) (untold id) in
      let none = unused in
      record {
        credit = credit-same (last_window begun h) (consumed h) (debt begun h) (received h) (consumed (e0 ∷ h)) (debt begun (e0 ∷ h)) (received (e0 ∷ h)) u.credit (omega arith) (omega arith) (omega arith) f.credit;
        streams = all-told (trace h) g0 u untold f.streams;
      }

pub facts-at : (begun : Credit) (h : List Event) (v w : World) → v ≡ w → Facts begun h w → Facts begun h v
facts-at begun h v w e f = let P : World → Type 0 = λ x. Facts begun h x in subst P (sym e) f

refusal_by_code : (own bi : Bool) (opened m n index code : ℕ) → refusal_by own bi opened m n index ≡ Some code → (code == 1) ≡ false
refusal_by_code true true opened m n index code h = state_if (nat_le opened index) code h
  where
    state_if : (b : Bool) (code : ℕ) → (if b then Some 5 else None) ≡ Some code → (code == 1) ≡ false
    state_if true code h = let e : 5 ≡ code = cc in grind (arith, nat_tests)
    state_if false code h = cc
refusal_by_code true false opened m n index code h = let e : 5 ≡ code = cc in grind (arith, nat_tests)
refusal_by_code false true opened m n index code h = limit_if (nat_le m index) code h
  where
    limit_if : (b : Bool) (code : ℕ) → (if b then Some 4 else None) ≡ Some code → (code == 1) ≡ false
    limit_if true code h = let e : 4 ≡ code = cc in grind (arith, nat_tests)
    limit_if false code h = cc
refusal_by_code false false opened m n index code h = limit_if (nat_le n index) code h
  where
    limit_if : (b : Bool) (code : ℕ) → (if b then Some 4 else None) ≡ Some code → (code == 1) ≡ false
    limit_if true code h = let e : 4 ≡ code = cc in grind (arith, nat_tests)
    limit_if false code h = cc

-- a frame on a stream that the peer may not use is of another code than an internal error
pub refusal-code : (w : World) (q code : ℕ) → id_refusal w q ≡ Some code → (code == 1) ≡ false
refusal-code w q code e = refusal_by_code (is_own w q) (q / 2 % 2 == 0) w.out.own_bi.opened w.bi.max_remote w.uni.max_remote (index_of q) code (sym (refusal-is w q) ∙ e)

not_kept : (b : Bool) {P : Type 0} → b ≡ false → b ≡ true → P
not_kept b e k = absurd (cc)

-- a half that is put back as it was
pub unmoved : (u : World) (id : ℕ) (old new : Half) → u.receive id ≡ Some old → new ≡ old → advanced u id old new ≡ u
unmoved u id old new half is = rw is (with_counted-none (with_receive u id (Some old)) (old.end - old.end) (omega arith) ∙ with_receive-back u id (Some old) half)

pub after_data_stopped : (u : World) (id : ℕ) (old new : Half) (fin : Bool) → old.stopped ≡ true
    → after_data u id old new fin ≡ with_credit (if fin then with_freed (advanced u id old new) id else advanced u id old new) (new.end - old.end)
after_data_stopped u id old new fin s = rw s refl

pub after_data_running : (u : World) (id : ℕ) (old new : Half) (fin : Bool) → old.stopped ≡ false → after_data u id old new fin ≡ noticed (advanced u id old new) id true
after_data_running u id old new fin s = rw s refl

-- ---- every answer

pub kept-received : (begun : Credit) (h : List Event) (u v : World) (id offset : ℕ) (bytes : List ℕ) (fin : Bool) (answer : Result ShouldTransmit ReceiveError)
    → Facts begun h u → Receives u id offset bytes fin answer v → Facts begun (Received id offset bytes fin answer ∷ h) v
kept-received begun h u v id offset bytes fin (Ok transmit) f (inl s) =
    facts-at begun _ v u s.3 (facts_unchanged begun h u id offset bytes fin (Ok transmit) f (λ k. dropped-closed u.window (trace h id) (id_refusal u id) (u.receive id) s.0 (f.streams id) s.1))
kept-received begun h u v id offset bytes fin (Ok transmit) f (inr s) =
    let old = s.1 in
    let new = s.2 in
    let r = s.3 in
    let grows = grows-takes old new offset bytes fin r.ingests.3 in
    let passed = passes old offset (length bytes) fin u.credit.data_recvd u.credit.local_max_data r.ingests.0 in
    by_cases old.stopped
    (λ k. facts-at begun _ v _ (s.5 ∙ after_data_stopped u id old new fin k) (facts_discarded begun h u id offset bytes fin (Ok transmit) old new f r.known r.half r.running grows passed refl k))
    (λ k. facts-at begun _ v _ (s.5 ∙ after_data_running u id old new fin k) (facts_noticed begun h u id offset bytes fin (Ok transmit) old new f r.known r.half r.running grows passed refl k))
kept-received begun h u v id offset bytes fin (Err (receive_error.Transport error)) f (inl s) =
    facts-at begun _ v u s.1 (facts_unchanged begun h u id offset bytes fin (Err (receive_error.Transport error)) f (not_kept _ (refusal-code u id error.code s.0)))
kept-received begun h u v id offset bytes fin (Err (receive_error.Transport error)) f (inr s) = refused s.2.ingests
  where
    refused : Ingests s.0 offset bytes fin u.credit.data_recvd u.credit.local_max_data (Err (receive_error.Transport error)) s.1 → Facts begun (Received id offset bytes fin (Err (receive_error.Transport error)) ∷ h) v
    refused (inl k) =
        facts-at begun _ v u (s.3 ∙ unmoved u id s.0 s.1 s.2.half k.1)
        (facts_unchanged begun h u id offset bytes fin (Err (receive_error.Transport error)) f
        (not_kept _ (refused-other s.0 offset (length bytes) fin u.credit.data_recvd u.credit.local_max_data error.code k.0)))
    refused (inr k) =
        let passed = passes s.0 offset (length bytes) fin u.credit.data_recvd u.credit.local_max_data k.0 in
        facts-at begun _ v _ s.3 (facts_running begun h u id offset bytes fin (Err (receive_error.Transport error)) s.0 s.1 f s.2.known s.2.half s.2.running
        (grows-keeps s.0 s.1 offset bytes fin k.4) passed (rw k.1 refl) k.4.running)
kept-received begun h u v id offset bytes fin (Err receive_error.CompactionMemory) f s =
    let k = s.2.ingests in
    let passed = passes s.0 offset (length bytes) fin u.credit.data_recvd u.credit.local_max_data k.0 in
    facts-at begun _ v _ s.3 (facts_running begun h u id offset bytes fin (Err receive_error.CompactionMemory) s.0 s.1 f s.2.known s.2.half s.2.running
    (grows-keeps s.0 s.1 offset bytes fin k.2) passed refl k.2.running)
kept-received begun h u v id offset bytes fin (Err receive_error.OutOfMemory) f s =
    facts-at begun _ v u s (facts_unchanged begun h u id offset bytes fin (Err receive_error.OutOfMemory) f (not_kept false refl))
