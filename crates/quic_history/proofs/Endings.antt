-- A reported end means that every byte was given, over every history.
use Rattle.std.proofs.Common.{◌≡◌, ℕ, Bool, true, false, ◌||◌, List, ◌∷◌, length, Option, Some, None, is_some, Result, Ok, Err, refl, sym, ap, ◌∙◌, ◌↔◌, subst, inl, inr, arith, ◌+◌, ◌≤◌, ◌<◌}
use Rattle.std.specs.Prelude.{if◌then◌else◌, ◌==◌, ◌-◌, max, slice_index}
use Rattle.std.proofs.lemmas.Bool.Decides.{nat_tests}
use Rattle.quic_assembler.specs.declared.chunk.Chunk.{Chunk}
use Rattle.quic_assembler.specs.Piece.{lies}
use Rattle.quic_wire.specs.declared.error.ReceiveError.{ReceiveError}
use Rattle.quic_wire.specs.declared.frame.Frame.TheVariants as frames
use Rattle.quic_receiving.specs.declared.transmit.ShouldTransmit.{ShouldTransmit}
use Rattle.quic_receiving.specs.Data.{IsData, IsAllGiven, is_in_slices}
use Rattle.quic_receiving.specs.Half.{Half, is_all}
use Rattle.quic_receiving.specs.Calls.{Reads}
use Rattle.quic_receiving.specs.declared.errors.ReadError.{ReadError}
use Rattle.quic_receiving.specs.declared.errors.ReadError.TheVariants as read_error
use Rattle.quic_receiving.proofs.Data.{all_given}
use Rattle.quic_limits.specs.Credit.{Credit}
use Rattle.quic_history.specs.World.{World}
use Rattle.quic_history.specs.History.{Event, Received, ReceivedReset, Gave, Stopped, ToldReset, Rejected, SentAgain, Step, Move, Framed, WasReset, WasRead, WasStopped, WasTold, WasAnnounced, LeftPending, Trace, HalfFrom, Facts, GivenSo, EndsSo, TellsEnds, slices, trace, moved, is_closed, is_frame_kept, with_kept_frame, with_reset, with_read, with_stop, with_move}
use Rattle.quic_history.proofs.EarlyFacts.{told-rejected}
use Rattle.quic_history.proofs.Totals.{by_cases, same}
use Rattle.quic_history.proofs.StreamSteps.{half-from, known-from}

or_false : (b c : Bool) → (b || c) ≡ false → c ≡ false
or_false true c h = cc
or_false false c h = h

-- what holds of what is told of a stream holds after a move that keeps it
if_moved : (P : Trace → Type 0) (b : Bool) (t u : Trace) → (b ≡ true → P t) → P u → P (if b then t else u)
if_moved P true t u p q = p refl
if_moved P false t u p q = q

-- a stream that is not closed did not end
not_ended : (t : Trace) {P : Type 0} → EndsSo t → t.gone ≡ false → t.ended ≡ true → P
not_ended t p there e = let k = p.freed e in cc

never_ended : (t u : Trace) → EndsSo t → t.gone ≡ false → u.ended ≡ t.ended → EndsSo u
never_ended t u p there same = record {
  freed = λ e. not_ended t p there (sym same ∙ e);
  sized = λ e. not_ended t p there (sym same ∙ e);
  all = λ e. not_ended t p there (sym same ∙ e);
}

ends_frame : (t : Trace) (offset : ℕ) (bytes : List ℕ) (fin : Bool) → EndsSo t → EndsSo (with_kept_frame offset bytes fin t)
ends_frame t offset bytes fin p = by_cases (is_closed t) (λ c. rw c p) (λ c. rw c (never_ended t _ p (or_false (is_some t.reset) t.gone c) refl))

ends_reset : (t : Trace) (code final : ℕ) → EndsSo t → EndsSo (with_reset code final t)
ends_reset t code final p = by_cases (is_closed t) (λ c. rw c p) (λ c. rw c (never_ended t _ p (or_false (is_some t.reset) t.gone c) refl))

-- as many bytes were read as a known final size tells
all_of : (o : Option ℕ) (count : ℕ) → is_all o count ≡ true → (size : ℕ) × (o ≡ Some size) × (count ≡ size)
all_of None count h = cc
all_of (Some size) count h = (size, refl, grind (arith, nat_tests))

-- as many bytes were read as a known final size tells exactly where every byte below it was given
half_tells : (n : ℕ) (t : Trace) (h : Half) → HalfFrom n t h → h.stopped ≡ false → h.reset ≡ None → (size : ℕ) → h.size ≡ Some size → (h.buffer.bytes_read ≡ size) ↔ IsAllGiven (slices t.given) size
half_tells n t h x running unreset size sized =
    let end : h.end ≡ size = x.final size sized in
    let most : h.buffer.highest ≤ size = omega (arith, x.within, end) in
    all_given t.kept (slices t.given) h.buffer size most (x.holds (sym x.stopped ∙ running) (sym x.reset ∙ unreset))

pub tells-ends : (begun : Credit) (h : List Event) (v : World) → Facts begun h v → TellsEnds h v
tells-ends begun h v f q half there running unreset size sized =
    half_tells v.window (trace h q) half (half-from (trace h) v q half f.streams (known-from (trace h) v q half f.streams there) there) running unreset size sized

-- the end is told where the final size is known and every byte was given
ended_so : (n : ℕ) (t : Trace) (ordered : Bool) (h : Half) → HalfFrom n t h → h.stopped ≡ false → h.reset ≡ None → is_all h.size h.buffer.bytes_read ≡ true → EndsSo (with_read ordered (Ok None) t)
ended_so n t ordered h x running unreset all =
    let k = all_of h.size h.buffer.bytes_read all in
    let high : t.high ≡ k.0 = sym x.high ∙ x.final k.0 k.1 in
    record {
      freed = λ e. refl;
      sized = λ e. sym x.sized ∙ ap (λ (o : Option ℕ). is_some o) k.1;
      all = λ e. rw high ((half_tells n t h x running unreset k.0 k.1).0 k.2);
    }

ends_read : (n : ℕ) (t : Trace) (ordered : Bool) (old new : Half) (most : ℕ) (answer : Result (Option Chunk) ReadError) → HalfFrom n t old → old.stopped ≡ false → Reads old most answer new
    → EndsSo t → EndsSo (with_read ordered answer t)
ends_read n t ordered old new most (Ok (Some chunk)) x running s p = never_ended t _ p x.there refl
ends_read n t ordered old new most (Ok None) x running s p = ended_so n t ordered old x running s.2.running s.0
ends_read n t ordered old new most (Err read_error.Blocked) x running s p = p
ends_read n t ordered old new most (Err (read_error.Reset code)) x running s p = never_ended t _ p x.there refl
ends_read n t ordered old new most (Err read_error.OutOfMemory) x running s p = p

-- ---- what was given

given_frame : (t : Trace) (offset : ℕ) (bytes : List ℕ) (fin : Bool) → GivenSo t → GivenSo (with_kept_frame offset bytes fin t)
given_frame t offset bytes fin g = by_cases (is_closed t) (λ c. rw c g)
    (λ c. rw c (record { came = λ at byte h. inr (g.came at byte h); once = g.once }))

given_reset : (t : Trace) (code final : ℕ) → GivenSo t → GivenSo (with_reset code final t)
given_reset t code final g = by_cases (is_closed t) (λ c. rw c g) (λ c. rw c (record { came = g.came; once = g.once }))

not_false : (b : Bool) → (b ≡ true → ⊥) → b ≡ false
not_false true n = absurd (n refl)
not_false false n = refl

lies_within : (offset count at : ℕ) → lies offset (offset + count) at ≡ true → (offset ≤ at) × (at < offset + count)
lies_within offset count at e = (grind (arith, nat_tests), grind (arith, nat_tests))

given_read : (n : ℕ) (t : Trace) (ordered : Bool) (old new : Half) (most : ℕ) (answer : Result (Option Chunk) ReadError) → HalfFrom n t old → old.stopped ≡ false → Reads old most answer new
    → GivenSo t → GivenSo (with_read ordered answer t)
given_read n t ordered old new most (Ok (Some chunk)) x running s g =
    let d : IsData t.kept (slices t.given) old.buffer = x.holds (sym x.stopped ∙ running) (sym x.reset ∙ s.0) in
    record {
      came = λ at byte h. elim h [ inl k ↦ d.held at byte (s.1.gives.given at byte k) | inr k ↦ g.came at byte k ];
      once = (
        λ at l. not_false (is_in_slices (slices t.given) at)
            (λ k. let w = lies_within chunk.offset (length chunk.bytes) at l in
            let byte : ℕ = slice_index chunk.bytes (at - chunk.offset) in
            d.once at k (byte, s.1.gives.given at byte (w.0, w.1, refl))),
        g.once,
      );
    }
given_read n t ordered old new most (Ok None) x running s g = record { came = g.came; once = g.once }
given_read n t ordered old new most (Err read_error.Blocked) x running s g = g
given_read n t ordered old new most (Err (read_error.Reset code)) x running s g = record { came = g.came; once = g.once }
given_read n t ordered old new most (Err read_error.OutOfMemory) x running s g = g

-- ---- every call keeps both

abbrev pub IsTold : Trace → Type 0
IsTold t = EndsSo t × GivenSo t

told_moved : (h : List Event) (q id : ℕ) (m : Move) → ((q == id) ≡ true → IsTold (with_move m (trace h id))) → IsTold (trace h q) → IsTold (moved (Some (id, m)) q (trace h q))
told_moved h q id m here p = if_moved IsTold (q == id) (with_move m (trace h q)) (trace h q)
    (λ t. let P : ℕ → Type 0 = λ k. IsTold (with_move m (trace h k)) in subst P (sym (same q id t)) (here t)) p

told_frame : (t : Trace) (offset : ℕ) (bytes : List ℕ) (fin : Bool) (answer : Result ShouldTransmit ReceiveError) → IsTold t → IsTold (with_move (Framed offset bytes fin answer) t)
told_frame t offset bytes fin answer p = if_moved IsTold (is_frame_kept answer) (with_kept_frame offset bytes fin t) t (λ k. (ends_frame t offset bytes fin p.0, given_frame t offset bytes fin p.1)) p

told_stopped : (n : ℕ) (t : Trace) (h : Half) → HalfFrom n t h → IsTold t → IsTold (with_stop t)
told_stopped n t h x p = (never_ended t _ p.0 x.there refl, record { came = p.1.came; once = p.1.once })

told_code : (t : Trace) → IsTold t → IsTold (record t { gone = true })
told_code t p = (record { freed = λ e. refl; sized = p.0.sized; all = p.0.all }, record { came = p.1.came; once = p.1.once })

told_announced : (t : Trace) (limit : ℕ) → IsTold t → IsTold (record t { announced = max t.announced limit })
told_announced t limit p = (record { freed = p.0.freed; sized = p.0.sized; all = p.0.all }, record { came = p.1.came; once = p.1.once })

pub kept-told-of : (begun : Credit) (h : List Event) (u : World) (e : Event) (v : World) → Facts begun h u → Step u e v → ((q : ℕ) → IsTold (trace h q)) → (q : ℕ) → IsTold (trace (e ∷ h) q)
kept-told-of begun h u (Received id offset bytes fin answer) v f s p q =
    told_moved h q id (Framed offset bytes fin answer) (λ t. told_frame (trace h id) offset bytes fin answer (p id)) (p q)
kept-told-of begun h u (ReceivedReset id code final (Ok transmit)) v f s p q =
    told_moved h q id (WasReset code final) (λ t. (ends_reset (trace h id) code final (p id).0, given_reset (trace h id) code final (p id).1)) (p q)
kept-told-of begun h u (Gave id most ordered answer) v f s p q =
    let known = known-from (trace h) u id s.old f.streams s.half in
    let was = half-from (trace h) u id s.old f.streams known s.half in
    told_moved h q id (WasRead ordered answer)
    (λ t. (ends_read u.window (trace h id) ordered s.old s.new most answer was s.running s.reads (p id).0, given_read u.window (trace h id) ordered s.old s.new most answer was s.running s.reads (p id).1)) (p q)
kept-told-of begun h u (Stopped id code (Ok x)) v f s p q =
    let known = known-from (trace h) u id s.2.0 f.streams s.2.2 in
    told_moved h q id WasStopped (λ t. told_stopped u.window (trace h id) s.2.0 (half-from (trace h) u id s.2.0 f.streams known s.2.2) (p id)) (p q)
kept-told-of begun h u (ToldReset id (Ok (Some code))) v f s p q = told_moved h q id WasTold (λ t. told_code (trace h id) (p id)) (p q)
kept-told-of begun h u (LeftPending kind (Some (frames.MaxStreamData id limit))) v f s p q =
    told_moved h q id (WasAnnounced limit) (λ t. told_announced (trace h id) limit (p id)) (p q)
kept-told-of begun h u Rejected v f s p q = told-rejected q (trace h q) (p q)
kept-told-of begun h u (SentAgain (Ok x)) v f s p q = p q
kept-told-of begun h u (SentAgain (Err x)) v f s p q = p q
kept-told-of begun h u _ v f s p q = p q
