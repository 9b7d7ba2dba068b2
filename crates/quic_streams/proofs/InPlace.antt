-- Lemmas on halves that are changed where they lie.
use Rattle.std.proofs.Common.{◌≡◌, is_some, ℕ, ◌+◌, ◌-◌, ◌^◌, ◌<◌, ◌≤◌, ◌&&◌, nat_le, not, Bool, true, false, List, length, Option, Some, None, Result, Ok, Err, OnOk, OnErr, inl, inr, refl, ap, sym, ◌∙◌, subst, arith}
use Rattle.std.proofs.lemmas.Bool.{false≢true}
use Rattle.std.proofs.lemmas.Bool.Decides.{nat_tests}
use Rattle.quic_assembler.specs.declared.chunk.Chunk.{Chunk}
use Rattle.quic_assembler.specs.Reassembly.{Reassembly, fresh}
use Rattle.quic_assembler.specs.declared.errors.EnsureError.{EnsureError}
use Rattle.quic_assembler.specs.declared.errors.EnsureError.TheVariants as ensure_error
use Rattle.quic_wire.specs.declared.error.ReceiveError.{ReceiveError}
use Rattle.quic_wire.specs.declared.error.ReceiveError.TheVariants as receive_error
use Rattle.quic_receiving.proofs.Data.{data-fresh}
use Rattle.quic_assembler.specs.declared.errors.InsertError.TheVariants as insert_error
use Rattle.quic_ordered.specs.Assembly.{TellsPieces}
use Rattle.quic_wire.proofs.Steps.{some_is}
use Rattle.quic_limits.specs.Remote.{Remote}
use Rattle.quic_values.specs.Ids.{dir_of}
use Rattle.quic_values.specs.declared.ids.Dir.{Dir}
use Rattle.quic_values.specs.declared.ids.Dir.TheVariants.{Bi, Uni}
use Rattle.quic_receiving.specs.Half.{Half, Taken, verdict, new_half}
use Rattle.quic_receiving.specs.Calls.{HasNone, Rests, Waits, Reads, buffer_answer}
use Rattle.quic_receiving.specs.declared.errors.ReadError.{ReadError}
use Rattle.quic_receiving.specs.declared.errors.ReadError.TheVariants as read_error
use Rattle.quic_receiving.specs.declared.errors.ReadableError.{ReadableError}
use Rattle.quic_receiving.specs.declared.errors.ReadableError.TheVariants as readable_error
use Rattle.quic_receiving.specs.declared.transmit.ShouldTransmit.{ShouldTransmit}
use Rattle.quic_history.specs.Halves.{Halves, with_half}
use Rattle.quic_history.specs.World.{World, id_refusal, noticed, remote_of, with_counted, with_freed, with_receive, with_remote, advanced}
use Rattle.quic_streams.specs.Accounting.{IsWanted, TellsHalfPieces, CountsPieces, buffered}
use Rattle.quic_history.specs.Receiving.{IsDropped, Reaches, Receives}
use Rattle.quic_history.specs.declared.progress.Progress.{Progress}
use Rattle.quic_history.specs.declared.progress.Progress.TheVariants as progress
use Rattle.quic_history.specs.Reading.{is_mode, is_reading, is_ended, progress_after, given_by, after_read, ReadsHalf, IsClosed, Asks, Begins}
use Rattle.quic_history.proofs.ReadingSteps.{reader_mode, reader_runs, reading-after}
use Rattle.quic_history.proofs.WorldSteps.{with_receive-twice, with_receive-back, receive-there, with_counted-none}
use Rattle.quic_history.proofs.HalfMaps.{half-there, with_half-back}
use Rattle.quic_history.proofs.StreamSteps.{noticed-any}
use Rattle.quic_history.proofs.FrameSteps.{takes-stopped, discarded_by, receives_stopped, receives_running}
use Rattle.std.specs.Global.{Box}
use Rattle.quic_streams.specs.Held.{half_in}
use Rattle.quic_streams.specs.declared.halves.Ingested.{Ingested}
use Rattle.quic_streams.specs.InPlace.{mode_of, IsInMode, ReadsIn, AsksHalf, OrdersIn, AsksIn, IngestsHalf, IngestsOn, TakesIn, IngestsIn, TellsFrame, ChangesHalves}

rests-same : (a : Reassembly) → Rests a a
rests-same a = record {
  held = record { keeps = λ at byte h. h; origin = λ at byte h. h };
  done = λ at. refl;
  bytes_read = refl;
  ordered = refl;
  highest = refl;
  pieces = omega arith;
}

none_fresh : HasNone fresh
none_fresh = record { next = λ o h. data-fresh.held 0 h.0 h.1; any = λ o at byte h. data-fresh.held at byte h }

-- nothing is at hand of a half to which nothing came
pub new-blocked : (window most : ℕ) → Reads (new_half window) most (Err read_error.Blocked) (new_half window)
new-blocked window most = (refl, none_fresh, record { running = refl; same = refl; rests = rests-same (new_half window).buffer; is = refl })

-- the mode of an entry is that of its half
pub entry-mode-of : (w : ℕ) (o : Option (Box Half)) → (half_in w o).buffer.ordered ≡ mode_of o
entry-mode-of w None = refl
entry-mode-of w (Some b) = refl

pub entry-mode : (w : ℕ) (o : Option (Box Half)) (ordered : Bool) → (half_in w o).buffer.ordered ≡ ordered → mode_of o ≡ ordered
entry-mode w o ordered h = sym (entry-mode-of w o) ∙ h

-- one half changed
pub put-in : (w v : World) (id : ℕ) (o : Option Half) → ChangesHalves w v → v.receive ≡ with_half w.receive id o → v ≡ with_receive w id o
unfolding with_receive
put-in w v id o only is = only ∙ ap (λ f. record w { receive = f }) is

-- ---- reads

pub reader-in-mode : (o : Option Half) (ordered : Bool) (read : ℕ) → is_reading progress.Readable o ordered read ≡ true → IsInMode o ordered
reader-in-mode None ordered read h = absurd (false≢true h)
reader-in-mode (Some k) ordered read h = reader_mode k ordered read h

pub after-ended : (w : World) (id : ℕ) (h : Half) (r : Result (Option Chunk) ReadError) → is_ended (progress_after r) ≡ true → after_read w id h r ≡ with_freed w id
after-ended w id h (Ok (Some chunk)) e = absurd (false≢true e)
after-ended w id h (Ok None) e = refl
after-ended w id h (Err read_error.Blocked) e = absurd (false≢true e)
after-ended w id h (Err (read_error.Reset code)) e = refl
after-ended w id h (Err read_error.OutOfMemory) e = absurd (false≢true e)

pub after-going : (w : World) (id : ℕ) (h : Half) (r : Result (Option Chunk) ReadError) → is_ended (progress_after r) ≡ false → after_read w id h r ≡ with_receive w id (Some h)
after-going w id h (Ok (Some chunk)) e = refl
after-going w id h (Ok None) e = absurd (false≢true (sym e))
after-going w id h (Err read_error.Blocked) e = refl
after-going w id h (Err (read_error.Reset code)) e = absurd (false≢true (sym e))
after-going w id h (Err read_error.OutOfMemory) e = refl

freed-after : (w u : World) (id : ℕ) (o : Option Half) → u ≡ with_receive w id o → with_freed u id ≡ with_freed w id
freed-after w u id o e = rw (e, with_receive-twice w id o None) refl

module _ (w u : World) (id most : ℕ) (ordered : Bool) (read : ℕ) (r : Result (Option Chunk) ReadError)
    (reading : is_reading progress.Readable (w.receive id) ordered read ≡ true) (s : ReadsIn w.receive id most ordered r u.receive) (only : ChangesHalves w u) where
  was_reading : is_reading progress.Readable (Some s.old) ordered read ≡ true
  was_reading = ap (λ o. is_reading progress.Readable o ordered read) (sym s.half) ∙ reading

  is_put : u ≡ with_receive w id (Some s.new)
  is_put = put-in w u id (Some s.new) only s.is

  half_read : (v : World) → v ≡ after_read w id s.new r → ReadsHalf w id most ordered r v
  half_read v is = record {
    old = s.old;
    new = s.new;
    half = s.half;
    mode = s.mode;
    running = reader_runs s.old ordered read was_reading;
    reads = s.reads;
    is = is;
  }

  -- the half is freed behind the last answer
  pub read-ended : (v : World) → is_ended (progress_after r) ≡ true → v ≡ with_freed u id → ReadsHalf w id most ordered r v
  read-ended v e is = half_read v (is ∙ freed-after w u id (Some s.new) is_put ∙ sym (after-ended w id s.new r e))

  -- and else it stays
  pub read-going : is_ended (progress_after r) ≡ false → ReadsHalf w id most ordered r u
  read-going e = half_read u (is_put ∙ sym (after-going w id s.new r e))

  goes-on : is_reading (progress_after r) (Some s.new) ordered (read + given_by r) ≡ true
  goes-on = reading-after s.old s.new ordered read most r was_reading s.reads

  pub still-reading : is_reading (progress_after r) (u.receive id) ordered (read + given_by r) ≡ true
  still-reading = rw (is_put, receive-there w id (Some s.new)) goes-on

-- ---- what is asked

pub err_map : {T E P Q : Type 0} (r : Result T E) → (P → Q) → OnErr r P → OnErr r Q
err_map (Ok x) f p = tt
err_map (Err e) f p = f p

-- a half that is put back as it was
pub same-in : (f g : Halves) (id : ℕ) (h k : Half) → f id ≡ Some h → g ≡ with_half f id (Some k) → k ≡ h → g ≡ f
same-in f g id h k there is same = is ∙ ap (λ x. with_half f id (Some x)) same ∙ with_half-back f id (Some h) there

pub asks-in : (f g : Halves) (id : ℕ) (ordered : Bool) (r : Result (Unit {0}) ReadableError) (h k : Half) → f id ≡ Some h → g ≡ with_half f id (Some k)
    → AsksHalf h ordered r k → AsksIn f id ordered r g
asks-in f g id ordered (Ok u) h k there is a = record { old = h; new = k; half = there; running = a.0; orders = a.1; is = is }
asks-in f g id ordered (Err readable_error.ClosedStream) h k there is a =
    let closed : IsClosed (Some h) = a.0 in
    (rw there closed, same-in f g id h k there is a.1)
asks-in f g id ordered (Err readable_error.IllegalOrderedRead) h k there is a = record { old = h; new = k; half = there; running = a.0; orders = a.1; is = is }
asks-in f g id ordered (Err readable_error.OutOfMemory) h k there is (inl same) = inl (same-in f g id h k there is same)
asks-in f g id ordered (Err readable_error.OutOfMemory) h k there is (inr a) = inr (record { old = h; new = k; half = there; running = a.0; orders = a.1; is = is })

asks-world : (w v : World) (id : ℕ) (ordered : Bool) (r : Result (Unit {0}) EnsureError) → OrdersIn w.receive id ordered r v.receive → ChangesHalves w v → Asks w id ordered r v
asks-world w v id ordered r s only = record {
  old = s.old;
  new = s.new;
  half = s.half;
  running = s.running;
  orders = s.orders;
  is = put-in w v id (Some s.new) only s.is;
}

-- the halves are as they were
same-world : (w v : World) → ChangesHalves w v → v.receive ≡ w.receive → v ≡ w
same-world w v only same = only ∙ ap (λ f. record w { receive = f }) same

pub begins_in : (w v : World) (id : ℕ) (ordered : Bool) (r : Result (Unit {0}) ReadableError) → AsksIn w.receive id ordered r v.receive → ChangesHalves w v → Begins w id ordered r v
begins_in w v id ordered (Ok u) s only = asks-world w v id ordered (Ok u) s only
begins_in w v id ordered (Err readable_error.ClosedStream) s only = (s.0, same-world w v only s.1)
begins_in w v id ordered (Err readable_error.IllegalOrderedRead) s only = asks-world w v id ordered (Err ensure_error.IllegalOrderedRead) s only
begins_in w v id ordered (Err readable_error.OutOfMemory) (inl same) only = inl (same-world w v only same)
begins_in w v id ordered (Err readable_error.OutOfMemory) (inr s) only = inr (asks-world w v id ordered (Err ensure_error.OutOfMemory) s only)

pub begins_at : (u w v : World) (id : ℕ) (ordered : Bool) (r : Result (Unit {0}) ReadableError) → w ≡ u → AsksIn w.receive id ordered r v.receive → ChangesHalves w v → Begins u id ordered r v
begins_at u w v id ordered r same s only = let P : World → Type 0 = λ x. Begins x id ordered r v in subst P same (begins_in w v id ordered r s only)

-- ---- what is received

same-error : (error : ReceiveError) → buffered (Err error) ≡ buffer_answer (Err error)
same-error (receive_error.Transport error) = refl
same-error receive_error.CompactionMemory = refl
same-error receive_error.OutOfMemory = refl

-- a count of streams is no half
counts-kept : (x : World) (dir : Dir) (r : Remote) {f : Halves} → x.receive ≡ f → (with_remote x dir r).receive ≡ f
counts-kept x Bi r e = e
counts-kept x Uni r e = e

-- where nothing changed for lack of memory the pieces are as they were
unchanged-pieces : (h : Half) (offset : ℕ) (bytes : List ℕ) (size : ℕ) → TellsPieces h.buffer offset bytes size (Err insert_error.OutOfMemory) h.buffer
unchanged-pieces h offset bytes size = record { stale = λ s. refl; settled = tt; many = λ e. cc }

pub accounts-none : (w v : World) (id offset : ℕ) (bytes : List ℕ) (fin : Bool) (size : ℕ) → v ≡ w → CountsPieces w id offset bytes fin size (Err receive_error.OutOfMemory) v
accounts-none w v id offset bytes fin size same = λ h k. record {
  new = h;
  half = ap (λ x. x.receive id) same ∙ k.half;
  pieces = unchanged-pieces h offset bytes size;
}

-- a frame that is refused for its id reaches no half
pub accounts-unknown : (w v : World) (id offset : ℕ) (bytes : List ℕ) (fin : Bool) (size : ℕ) (result : Result ShouldTransmit ReceiveError) (code : ℕ)
    → id_refusal w id ≡ Some code → CountsPieces w id offset bytes fin size result v
accounts-unknown w v id offset bytes fin size result code known = λ h k. let e = sym k.known ∙ known in cc

-- and one that is dropped reaches none that is read
pub accounts-dropped : (w v : World) (id offset : ℕ) (bytes : List ℕ) (fin : Bool) (size : ℕ) (result : Result ShouldTransmit ReceiveError)
    → IsDropped (w.receive id) → CountsPieces w id offset bytes fin size result v
accounts-dropped w v id offset bytes fin size result dropped = λ h k.
    let reset : is_some h.reset ≡ true = (rw k.half at dropped) in
    absurd (false≢true (sym (ap is_some k.running) ∙ reset))

pub ruleset accounts_rules = (accounts-none, accounts-unknown, accounts-dropped)

pub takes-in : (f g : Halves) (id offset : ℕ) (bytes : List ℕ) (fin : Bool) (size received permitted : ℕ) (o : Option Ingested) (h k : Half) → f id ≡ Some h → g ≡ with_half f id (Some k)
    → IngestsOn h offset bytes fin size received permitted o k → IngestsIn f id offset bytes fin size received permitted o g
takes-in f g id offset bytes fin size received permitted None h k there is s =
    let dropped : IsDropped (Some h) = s.0 in
    (rw there dropped, same-in f g id h k there is s.1)
takes-in f g id offset bytes fin size received permitted (Some taken) h k there is s = record { old = h; new = k; half = there; ingests = s; is = is }

module _ (w u v : World) (id offset : ℕ) (bytes : List ℕ) (fin : Bool) (size received permitted : ℕ) (taken : Ingested) (known : id_refusal w id ≡ None)
    (used : received ≡ w.credit.data_recvd) (limit : permitted ≡ w.credit.local_max_data)
    (s : TakesIn w.receive id offset bytes fin size received permitted taken u.receive) (only : ChangesHalves w u) where
  reached : Reaches w id offset bytes fin taken.answer s.old s.new
  reached = record { known = known; half = s.half; running = s.ingests.running; ingests = rw (← used, ← limit) s.ingests.ingests }

  counts : with_counted u taken.grown ≡ advanced w id s.old s.new
  counts = ap (λ x. with_counted x taken.grown) (put-in w u id (Some s.new) only s.is) ∙ ap (with_counted (with_receive w id (Some s.new))) s.ingests.grown

  taken-on : (answer : ℕ × Bool) (transmit : ShouldTransmit) (stopped : Bool) → stopped ≡ s.old.stopped → Reaches w id offset bytes fin (Ok answer) s.old s.new
      → TellsFrame u id stopped taken.grown (Ok answer) (Ok transmit) v → Receives w id offset bytes fin (Ok transmit) v
  taken-on answer transmit true is r t =
      receives_stopped w id offset bytes fin transmit answer s.old s.new v r (takes-stopped s.old offset bytes fin s.new r.ingests.3 ∙ sym is) t.0
      (discarded_by (with_counted u taken.grown) (advanced w id s.old s.new) v id taken.grown (s.new.end - s.old.end) answer.1 t.1 counts s.ingests.grown)
  taken-on answer transmit false is r t =
      receives_running w id offset bytes fin transmit answer s.old s.new v r (takes-stopped s.old offset bytes fin s.new r.ingests.3 ∙ sym is) t.0
      (t.1 ∙ ap (λ x. noticed x id true) counts)

  none : (n : ℕ) → n - n ≡ 0
  none n = omega arith

  unchanged : s.new ≡ s.old → advanced w id s.old s.new ≡ w
  unchanged same =
      ap (λ k. advanced w id s.old k) same ∙ with_counted-none (with_receive w id (Some s.old)) (s.old.end - s.old.end) (none s.old.end) ∙ with_receive-back w id (Some s.old) s.half

  refused : (error : ReceiveError) → Reaches w id offset bytes fin (Err error) s.old s.new → v ≡ advanced w id s.old s.new → Receives w id offset bytes fin (Err error) v
  refused (receive_error.Transport error) r is = inr (s.old, s.new, r, is)
  refused receive_error.CompactionMemory r is = (s.old, s.new, r, is)
  refused receive_error.OutOfMemory r is = is ∙ unchanged r.ingests.3

  told_by : (answer : Result (ℕ × Bool) ReceiveError) (result : Result ShouldTransmit ReceiveError) → Reaches w id offset bytes fin answer s.old s.new
      → TellsFrame u id taken.stopped taken.grown answer result v → Receives w id offset bytes fin result v
  told_by (Ok answer) (Ok transmit) r t = taken-on answer transmit taken.stopped s.ingests.stopped r t
  told_by (Ok answer) (Err told) r t = absurd t
  told_by (Err error) (Ok transmit) r t = absurd t
  told_by (Err error) (Err told) r t =
      let P : ReceiveError → Type 0 = λ e. Receives w id offset bytes fin (Err e) v in
      subst P (sym t.0) (refused error r (t.1 ∙ counts))

  -- what is told of a frame that reached a half is what came of it
  pub receives-in : (result : Result ShouldTransmit ReceiveError) → TellsFrame u id taken.stopped taken.grown taken.answer result v → Receives w id offset bytes fin result v
  receives-in result t = told_by taken.answer result reached t

  -- ---- and what it does with the pieces

  put : u.receive id ≡ Some s.new
  put = rw s.is (half-there w.receive id (Some s.new))

  noticed-put : (x : World) → x.receive ≡ u.receive → (noticed x id true).receive id ≡ Some s.new
  noticed-put x same =
      let P : World → Type 0 = λ y. y.receive ≡ u.receive in
      ap (λ f. f id) (noticed-any P x id true same (counts-kept x (dir_of id) _ same)) ∙ put

  module _ (h : Half) (k : IsWanted w id offset bytes fin h) where
    is_old : s.old ≡ h
    is_old = some_is s.old h (sym s.half ∙ k.half)

    pieces : TellsPieces h.buffer offset bytes size (buffer_answer taken.answer) s.new.buffer
    pieces =
        let reading : s.old.stopped ≡ false = ap (λ x. x.stopped) is_old ∙ k.wanted in
        let fits : verdict s.old offset (length bytes) fin received permitted ≡ Taken = rw (is_old, used, limit) k.taken in
        let P : Half → Type 0 = λ x. TellsPieces x.buffer offset bytes size (buffer_answer taken.answer) s.new.buffer in
        subst P is_old (s.ingests.accounts reading fits)

    is_running : taken.stopped ≡ false
    is_running = s.ingests.stopped ∙ ap (λ x. x.stopped) is_old ∙ k.wanted

    alive : (result : Result ShouldTransmit ReceiveError) → buffered result ≡ buffer_answer taken.answer → v.receive id ≡ Some s.new → TellsHalfPieces id offset bytes size result h v
    alive result same there = record { new = s.new; half = there; pieces = rw same pieces }

    alive_by : (answer : Result (ℕ × Bool) ReceiveError) (result : Result ShouldTransmit ReceiveError) (stopped : Bool) → answer ≡ taken.answer → stopped ≡ false
        → TellsFrame u id stopped taken.grown answer result v → TellsHalfPieces id offset bytes size result h v
    alive_by (Ok answer) (Ok transmit) true is runs t = absurd (false≢true (sym runs))
    alive_by (Ok answer) (Ok transmit) false is runs t = alive (Ok transmit) (ap buffer_answer is) (ap (λ x. x.receive id) t.1 ∙ noticed-put (with_counted u taken.grown) refl)
    alive_by (Ok answer) (Err told) stopped is runs t = absurd t
    alive_by (Err error) (Ok transmit) stopped is runs t = absurd t
    alive_by (Err error) (Err told) stopped is runs t =
        alive (Err told) (ap (λ x. buffered (Err x)) t.0 ∙ same-error error ∙ ap buffer_answer is) (ap (λ x. x.receive id) t.1 ∙ put)

  -- the data of a frame that is taken keep its payload alive
  pub accounts-in : (result : Result ShouldTransmit ReceiveError) → TellsFrame u id taken.stopped taken.grown taken.answer result v → CountsPieces w id offset bytes fin size result v
  accounts-in result t = λ h k. alive_by h k taken.answer result taken.stopped refl (is_running h k) t
