-- Reads, stops, and what is told of resets keep what a history says.
use Rattle.std.proofs.Common.{◌≡◌, ℕ, Bool, true, false, eqb, List, length, ◌∷◌, Option, Some, None, is_some, is_none, Result, Ok, Err, refl, sym, ap, ◌∙◌, inl, inr, arith, ◌+◌, ◌-◌}
use Rattle.std.specs.Prelude.{max, if◌then◌else◌}
use Rattle.quic_assembler.specs.declared.chunk.Chunk.{Chunk}
use Rattle.quic_assembler.specs.declared.errors.EnsureError.{EnsureError}
use Rattle.quic_assembler.specs.declared.errors.EnsureError.TheVariants as ensure_error
use Rattle.quic_limits.specs.Credit.{Credit, credited}
use Rattle.quic_receiving.specs.Half.{Half, stop_credit}
use Rattle.quic_receiving.specs.Data.{IsData}
use Rattle.quic_receiving.specs.Calls.{Orders, Given, Rests}
use Rattle.quic_receiving.proofs.Data.{data-rests, data-leaves, data-given}
use Rattle.quic_receiving.specs.declared.errors.ReadError.{ReadError}
use Rattle.quic_receiving.specs.declared.errors.ReadError.TheVariants as read_error
use Rattle.quic_receiving.specs.declared.errors.ReadableError.{ReadableError}
use Rattle.quic_receiving.specs.declared.errors.ReadableError.TheVariants as readable_error
use Rattle.quic_sending.specs.declared.errors.HandleError.{HandleError}
use Rattle.quic_sending.specs.declared.errors.HandleError.TheVariants as handle_error
use Rattle.quic_retransmits.specs.Pending.{Pending}
use Rattle.quic_history.specs.World.{World, id_refusal, with_receive, with_credit, with_freed}
use Rattle.quic_history.specs.Reading.{Begins, Asks, ReadsHalf, Stops, TellsReset, after_stop}
use Rattle.quic_history.specs.History.{Event, Began, Gave, Ended, Stopped, ToldReset, Trace, HalfFrom, CreditFrom, Facts, slices, trace, with_read, consumed, consumed_by, last_window, window_set, debt, received}
use Rattle.quic_history.specs.History as history
use Rattle.quic_history.proofs.WorldSteps.{credit-with_receive}
use Rattle.quic_history.proofs.Totals.{by_cases}
use Rattle.quic_history.proofs.Credits.{credit-credited, credit-same}
use Rattle.quic_history.proofs.Traces.{itself, high-read, received-kept}
use Rattle.quic_history.proofs.StreamSteps.{all-told, half-from, known-from, but-from, all-put, all-freed, credit-freed}
use Rattle.quic_history.proofs.FrameHistory.{facts-at, when}

-- ---- a call that receives nothing and gives no credit

module _ (begun : Credit) (h : List Event) (e : Event) (u : World) (f : Facts begun h u) (unset : window_set e ≡ None) (came : received (e ∷ h) ≡ received h) (unused : consumed_by h e ≡ 0) where
  abbrev g : ℕ → Trace
  g = trace (e ∷ h)

  credit_idle : CreditFrom (last_window begun (e ∷ h)) (consumed (e ∷ h)) (debt begun (e ∷ h)) (received (e ∷ h)) u.credit
  credit_idle = let none = unused in
      rw unset (credit-same (last_window begun h) (consumed h) (debt begun h) (received h) (consumed (e ∷ h)) (debt begun h - consumed_by h e) (received (e ∷ h)) u.credit (omega arith) (omega arith) came f.credit)

  -- it changes nothing
  facts_idle : ((q : ℕ) → g q ≡ trace h q) → Facts begun (e ∷ h) u
  facts_idle untold = record { credit = credit_idle; streams = all-told (trace h) g u untold f.streams }

  -- one half changes
  facts_put : (id : ℕ) (new : Half) → ((q : ℕ) → eqb q id ≡ false → g q ≡ trace h q) → id_refusal u id ≡ None → HalfFrom u.window (g id) new → Facts begun (e ∷ h) (with_receive u id (Some new))
  facts_put id new others known is = record {
    credit = rw (credit-with_receive u id (Some new)) credit_idle;
    streams = all-put g u id new (but-from (trace h) g u id others f.streams) known is;
  }

  -- one half goes
  facts_freed : (id : ℕ) → ((q : ℕ) → eqb q id ≡ false → g q ≡ trace h q) → id_refusal u id ≡ None → (g id).gone ≡ true → Facts begun (e ∷ h) (with_freed u id)
  facts_freed id others known is = record {
    credit = rw (credit-freed u id) credit_idle;
    streams = all-freed g u id (but-from (trace h) g u id others f.streams) known is;
  }

-- a half of which only the buffer changed, and not how much was read
half_same : {n : ℕ} (t : Trace) (old new : Half) → HalfFrom n t old → new ≡ record old { buffer = new.buffer } → new.buffer.bytes_read ≡ old.buffer.bytes_read
    → new.buffer.highest ≡ old.buffer.highest → (IsData t.kept (slices t.given) old.buffer → IsData t.kept (slices t.given) new.buffer) → HalfFrom n t new
half_same t old new x is read highest more = record {
  high = ap (λ k. k.end) is ∙ x.high;
  read = read ∙ x.read;
  sized = ap (λ k. is_some k.size) is ∙ x.sized;
  stopped = ap (λ k. k.stopped) is ∙ x.stopped;
  reset = ap (λ k. k.reset) is ∙ x.reset;
  there = x.there;
  final = λ size k. ap (λ y. y.end) is ∙ x.final size (sym (ap (λ y. y.size) is) ∙ k);
  within = omega (arith, highest, ap (λ y. y.end) is, x.within);
  limit = ap (λ y. y.sent_max) is ∙ x.limit;
  holds = λ s r. more (x.holds s r);
}

half_rests : {n : ℕ} (t : Trace) (old new : Half) → HalfFrom n t old → new ≡ record old { buffer = new.buffer } → Rests old.buffer new.buffer → HalfFrom n t new
half_rests t old new x is rests = half_same t old new x is rests.bytes_read rests.highest (data-rests t.kept (slices t.given) old.buffer new.buffer rests)

-- ---- a reader is asked for

ordered_half : {n : ℕ} (t : Trace) (old new : Half) (ordered : Bool) (answer : Result (Unit {0}) EnsureError) → HalfFrom n t old → Orders old ordered answer new → HalfFrom n t new
ordered_half t old new ordered (Ok u) x (inl s) = rw s.1 x
ordered_half t old new ordered (Ok u) x (inr s) = half_same t old new x s.2 s.1.leaves.bytes_read s.1.leaves.highest (data-leaves t.kept (slices t.given) old.buffer new.buffer s.1)
ordered_half t old new ordered (Err ensure_error.IllegalOrderedRead) x s = half_rests t old new x s.3 s.2
ordered_half t old new ordered (Err ensure_error.OutOfMemory) x s = half_rests t old new x s.2 s.1

facts_asks : (begun : Credit) (h : List Event) (u v : World) (id : ℕ) (ordered : Bool) (answer : Result (Unit {0}) ReadableError) (asked : Result (Unit {0}) EnsureError) → Facts begun h u
    → Asks u id ordered asked v → Facts begun (Began id ordered answer ∷ h) v
facts_asks begun h u v id ordered answer asked f a =
    let known = known-from (trace h) u id a.old f.streams a.half in
    facts-at begun _ v (with_receive u id (Some a.new)) a.is
    (facts_put begun h (Began id ordered answer) u f refl refl refl id a.new (λ q n. refl) known
    (ordered_half (trace h id) a.old a.new ordered asked (half-from (trace h) u id a.old f.streams known a.half) a.orders))

facts_asked_none : (begun : Credit) (h : List Event) (u v : World) (id : ℕ) (ordered : Bool) (answer : Result (Unit {0}) ReadableError) → Facts begun h u → v ≡ u → Facts begun (Began id ordered answer ∷ h) v
facts_asked_none begun h u v id ordered answer f is = facts-at begun _ v u is (facts_idle begun h (Began id ordered answer) u f refl refl refl (λ q. refl))

pub kept-began : (begun : Credit) (h : List Event) (u v : World) (id : ℕ) (ordered : Bool) (answer : Result (Unit {0}) ReadableError) → Facts begun h u → Begins u id ordered answer v → Facts begun (Began id ordered answer ∷ h) v
kept-began begun h u v id ordered (Ok x) f s = facts_asks begun h u v id ordered (Ok x) (Ok x) f s
kept-began begun h u v id ordered (Err readable_error.ClosedStream) f s = facts_asked_none begun h u v id ordered (Err readable_error.ClosedStream) f s.1
kept-began begun h u v id ordered (Err readable_error.IllegalOrderedRead) f s = facts_asks begun h u v id ordered (Err readable_error.IllegalOrderedRead) (Err ensure_error.IllegalOrderedRead) f s
kept-began begun h u v id ordered (Err readable_error.OutOfMemory) f (inl s) = facts_asked_none begun h u v id ordered (Err readable_error.OutOfMemory) f s
kept-began begun h u v id ordered (Err readable_error.OutOfMemory) f (inr s) = facts_asks begun h u v id ordered (Err readable_error.OutOfMemory) (Err ensure_error.OutOfMemory) f s

-- ---- a read

module _ (begun : Credit) (h : List Event) (u : World) (id most : ℕ) (ordered : Bool) (answer : Result (Option Chunk) ReadError) (old new : Half) (f : Facts begun h u) (half : u.receive id ≡ Some old) where
  abbrev e : Event
  e = Gave id most ordered answer

  known : id_refusal u id ≡ None
  known = known-from (trace h) u id old f.streams half

  was : HalfFrom u.window (trace h id) old
  was = half-from (trace h) u id old f.streams known half

  others : (q : ℕ) → eqb q id ≡ false → trace (e ∷ h) q ≡ trace h q
  others q n = rw n refl

  here : trace (e ∷ h) id ≡ with_read ordered answer (trace h id)
  here = rw (itself id) refl

  came_read : received (e ∷ h) ≡ received h
  came_read = received-kept h (trace (e ∷ h)) id others (ap (λ k. k.high) here ∙ high-read ordered answer (trace h id))

  facts_read : HalfFrom u.window (with_read ordered answer (trace h id)) new → Facts begun (e ∷ h) (with_receive u id (Some new))
  facts_read is = facts_put begun h e u f refl came_read refl id new others known (rw here is)

  facts_ended : (with_read ordered answer (trace h id)).gone ≡ true → Facts begun (e ∷ h) (with_freed u id)
  facts_ended is = facts_freed begun h e u f refl came_read refl id others known (ap (λ k. k.gone) here ∙ is)

half_given : {n : ℕ} (t : Trace) (old new : Half) (most : ℕ) (ordered : Bool) (chunk : Chunk) → HalfFrom n t old → new ≡ record old { buffer = new.buffer } → Given old.buffer most chunk new.buffer
    → HalfFrom n (with_read ordered (Ok (Some chunk)) t) new
half_given t old new most ordered chunk x is gives = record {
  high = ap (λ k. k.end) is ∙ x.high;
  read = gives.bytes_read ∙ ap (λ n. n + length chunk.bytes) x.read;
  sized = ap (λ k. is_some k.size) is ∙ x.sized;
  stopped = ap (λ k. k.stopped) is ∙ x.stopped;
  reset = ap (λ k. k.reset) is ∙ x.reset;
  there = x.there;
  final = λ size k. ap (λ y. y.end) is ∙ x.final size (sym (ap (λ y. y.size) is) ∙ k);
  within = omega (arith, gives.highest, ap (λ y. y.end) is, x.within);
  limit = ap (λ y. y.sent_max) is ∙ x.limit;
  holds = λ s r. data-given t.kept (slices t.given) old.buffer new.buffer most chunk gives (x.holds s r);
}

pub kept-gave : (begun : Credit) (h : List Event) (u v : World) (id most : ℕ) (ordered : Bool) (answer : Result (Option Chunk) ReadError) → Facts begun h u → ReadsHalf u id most ordered answer v → Facts begun (Gave id most ordered answer ∷ h) v
kept-gave begun h u v id most ordered (Ok (Some chunk)) f s =
    facts-at begun _ v _ s.is (facts_read begun h u id most ordered (Ok (Some chunk)) s.old s.new f s.half
    (half_given (trace h id) s.old s.new most ordered chunk (was begun h u id most ordered (Ok (Some chunk)) s.old s.new f s.half) s.reads.2 s.reads.1))
kept-gave begun h u v id most ordered (Ok None) f s = facts-at begun _ v _ s.is (facts_ended begun h u id most ordered (Ok None) s.old s.new f s.half refl)
kept-gave begun h u v id most ordered (Err read_error.Blocked) f s =
    facts-at begun _ v _ s.is (facts_read begun h u id most ordered (Err read_error.Blocked) s.old s.new f s.half
    (half_rests (trace h id) s.old s.new (was begun h u id most ordered (Err read_error.Blocked) s.old s.new f s.half) s.reads.2.is s.reads.2.rests))
kept-gave begun h u v id most ordered (Err (read_error.Reset code)) f s = facts-at begun _ v _ s.is (facts_ended begun h u id most ordered (Err (read_error.Reset code)) s.old s.new f s.half refl)
kept-gave begun h u v id most ordered (Err read_error.OutOfMemory) f s =
    facts-at begun _ v _ s.is (facts_read begun h u id most ordered (Err read_error.OutOfMemory) s.old s.new f s.half
    (half_rests (trace h id) s.old s.new (was begun h u id most ordered (Err read_error.OutOfMemory) s.old s.new f s.half) s.reads.1.is s.reads.1.rests))

-- ---- a reader is ended

pub kept-ended : (begun : Credit) (h : List Event) (u v : World) (id count : ℕ) → Facts begun h u → v ≡ with_credit u count → Facts begun (Ended id count ∷ h) v
kept-ended begun h u v id count f is = rw is (record {
  credit = credit-credited (last_window begun h) (consumed h) (debt begun h) (received h) count u.credit f.credit;
  streams = f.streams;
})

-- ---- a stop

module _ (begun : Credit) (h : List Event) (u : World) (id code : ℕ) (old new : Half) (f : Facts begun h u) (half : u.receive id ≡ Some old)
    (is : new ≡ record old { buffer = new.buffer; stopped = true }) (read : new.buffer.bytes_read ≡ old.buffer.bytes_read) (highest : new.buffer.highest ≡ old.buffer.highest) where
  abbrev es : Event
  es = Stopped id code (Ok tt)

  abbrev gs : ℕ → Trace
  gs = trace (es ∷ h)

  abbrev t : Trace
  t = trace h id

  known_stop : id_refusal u id ≡ None
  known_stop = known-from (trace h) u id old f.streams half

  was_stop : HalfFrom u.window t old
  was_stop = half-from (trace h) u id old f.streams known_stop half

  others_stop : (q : ℕ) → eqb q id ≡ false → gs q ≡ trace h q
  others_stop q n = rw n refl

  here_stop : gs id ≡ record t { stopped = true; gone = t.sized }
  here_stop = rw (itself id) refl

  came_stop : received (es ∷ h) ≡ received h
  came_stop = received-kept h gs id others_stop (ap (λ k. k.high) here_stop)

  reset_is : (o p : Option ℕ) → o ≡ p → (m n : ℕ) → (if is_some p then 0 else m - n) ≡ (if is_none o then m - n else 0)
  reset_is None p k m n = rw (← k) refl
  reset_is (Some c) p k m n = rw (← k) refl

  used_stop : history.stop_gives t ≡ stop_credit old
  used_stop = rw (was_stop.high, was_stop.read) (reset_is old.reset t.reset was_stop.reset t.high t.read)

  half_stopped : t.sized ≡ false → HalfFrom u.window (gs id) new
  half_stopped s = record {
    high = ap (λ k. k.end) is ∙ was_stop.high ∙ sym (ap (λ k. k.high) here_stop);
    read = read ∙ was_stop.read ∙ sym (ap (λ k. k.read) here_stop);
    sized = ap (λ k. is_some k.size) is ∙ was_stop.sized ∙ sym (ap (λ k. k.sized) here_stop);
    stopped = ap (λ k. k.stopped) is ∙ sym (ap (λ k. k.stopped) here_stop);
    reset = ap (λ k. k.reset) is ∙ was_stop.reset ∙ sym (ap (λ k. k.reset) here_stop);
    there = ap (λ k. k.gone) here_stop ∙ s;
    final = λ size k. ap (λ y. y.end) is ∙ was_stop.final size (sym (ap (λ y. y.size) is) ∙ k);
    within = omega (arith, highest, ap (λ y. y.end) is, was_stop.within);
    limit = ap (λ k. k.sent_max) is ∙ was_stop.limit ∙ ap (λ k. max u.window k) (sym (ap (λ k. k.announced) here_stop));
    holds = λ k r. let e : true ≡ false = sym (ap (λ y. y.stopped) here_stop) ∙ k in cc;
  }

  credit_stop : (b : Bool) → (if b then with_freed u id else with_receive u id (Some new)).credit ≡ u.credit
  credit_stop true = credit-freed u id
  credit_stop false = credit-with_receive u id (Some new)

  facts_stopped : Facts begun (es ∷ h) (after_stop u id old new)
  facts_stopped =
      let n : ℕ = stop_credit old in
      let y = if is_some old.size then with_freed u id else with_receive u id (Some new) in
      let base : CreditFrom (last_window begun h) (consumed h) (debt begun h) (received h) y.credit = rw (credit_stop (is_some old.size)) f.credit in
      let some : consumed_by h es ≡ n = used_stop in
      let came = came_stop in
      let but = but-from (trace h) gs u id others_stop f.streams in
      record {
        credit = credit-same (last_window begun h) (consumed h + n) (debt begun h - n) (received h) (consumed (es ∷ h)) (debt begun (es ∷ h)) (received (es ∷ h)) (credited y.credit n)
            (omega arith) (omega arith) came_stop (credit-credited (last_window begun h) (consumed h) (debt begun h) (received h) n y.credit base);
        streams = when gs (with_freed u id) (with_receive u id (Some new)) (is_some old.size)
            (λ s. all-freed gs u id but known_stop (ap (λ k. k.gone) here_stop ∙ sym was_stop.sized ∙ s))
            (λ s. all-put gs u id new but known_stop (half_stopped (sym was_stop.sized ∙ s)));
      }

pub kept-stopped : (begun : Credit) (h : List Event) (u v : World) (id code : ℕ) (answer : Result (Unit {0}) HandleError) (p q : Pending) → Facts begun h u → Stops u id code p answer v q
    → Facts begun (Stopped id code answer ∷ h) v
kept-stopped begun h u v id code (Ok x) p q f s = facts-at begun _ v _ s.6 (facts_stopped begun h u id code s.0 s.1 f s.2 s.5 s.4.bytes_read s.4.highest)
kept-stopped begun h u v id code (Err handle_error.ClosedStream) p q f s =
    facts-at begun _ v u s.1 (facts_idle begun h (Stopped id code (Err handle_error.ClosedStream)) u f refl refl refl (λ k. refl))
kept-stopped begun h u v id code (Err handle_error.OutOfMemory) p q f s =
    facts-at begun _ v u s.0 (facts_idle begun h (Stopped id code (Err handle_error.OutOfMemory)) u f refl refl refl (λ k. refl))

-- ---- the code of a reset is asked for

module _ (begun : Credit) (h : List Event) (u : World) (id code : ℕ) (f : Facts begun h u) where
  told_others : (q : ℕ) → eqb q id ≡ false → trace (ToldReset id (Ok (Some code)) ∷ h) q ≡ trace h q
  told_others q n = rw n refl

  came_told : received (ToldReset id (Ok (Some code)) ∷ h) ≡ received h
  came_told = received-kept h (trace (ToldReset id (Ok (Some code)) ∷ h)) id told_others (rw (itself id) refl)

  facts_told : id_refusal u id ≡ None → Facts begun (ToldReset id (Ok (Some code)) ∷ h) (with_freed u id)
  facts_told known = facts_freed begun h (ToldReset id (Ok (Some code))) u f refl came_told refl id told_others known (rw (itself id) refl)

pub kept-told : (begun : Credit) (h : List Event) (u v : World) (id : ℕ) (answer : Result (Option ℕ) HandleError) (p q : Pending) → Facts begun h u → TellsReset u id p answer v q
    → Facts begun (ToldReset id answer ∷ h) v
kept-told begun h u v id (Ok (Some code)) p q f s = facts-at begun _ v _ s.4 (facts_told begun h u id code f (known-from (trace h) u id s.0 f.streams s.1))
kept-told begun h u v id (Ok None) p q f s =
    facts-at begun _ v u s.4 (facts_idle begun h (ToldReset id (Ok None)) u f refl refl refl (λ k. refl))
kept-told begun h u v id (Err handle_error.ClosedStream) p q f s =
    facts-at begun _ v u s.1 (facts_idle begun h (ToldReset id (Err handle_error.ClosedStream)) u f refl refl refl (λ k. refl))
kept-told begun h u v id (Err handle_error.OutOfMemory) p q f s =
    facts-at begun _ v u s.3 (facts_idle begun h (ToldReset id (Err handle_error.OutOfMemory)) u f refl refl refl (λ k. refl))
