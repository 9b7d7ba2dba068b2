-- What reads gave in order stands in a row, and a stream that was reset tells no end.
use Rattle.std.proofs.Common.{◌≡◌, ℕ, Bool, true, false, eqb, List, [], ◌∷◌, length, Option, Some, None, is_some, Result, Ok, Err, refl, sym, ap, ◌∙◌, subst, inl, inr, arith, ◌+◌, ◌≤◌}
use Rattle.std.specs.Prelude.{◌++◌, ◌&&◌, ◌||◌, if◌then◌else◌}
use Rattle.std.proofs.lemmas.List.{length-append}
use Rattle.quic_assembler.specs.declared.chunk.Chunk.{Chunk}
use Rattle.quic_wire.specs.declared.frame.Frame.TheVariants as frames
use Rattle.quic_values.specs.declared.ids.Dir.TheVariants.{Bi, Uni}
use Rattle.quic_values.specs.Ids.{other_side}
use Rattle.quic_assembler.specs.Reassembly.{piece_count}
use Rattle.quic_receiving.specs.Half.{Half, new_half}
use Rattle.quic_history.specs.Halves.{is_among, with_first}
use Rattle.quic_receiving.specs.declared.errors.ReadError.{ReadError}
use Rattle.quic_receiving.specs.declared.errors.ReadError.TheVariants as read_error
use Rattle.quic_history.specs.World.{World, Made, start}
use Rattle.quic_history.specs.Early.{begins_anew}
use Rattle.quic_history.specs.History.{Event, Move, Framed, WasReset, WasRead, WasStopped, WasTold, WasAnnounced, ReceivedReset, Began, Gave, Stopped, ToldReset, LeftPending, Step, From, Trace, ReadChunk, HalfFrom, EndsSo, trace, move_of, moved, with_move, with_kept_frame, is_frame_kept, is_closed, joint_move_of}
use Rattle.quic_history.specs.Reading.{ReadsHalf}
use Rattle.quic_history.proofs.StreamSteps.{half-from, known-from}
use Rattle.quic_history.proofs.Totals.{by_cases, same}
use Rattle.quic_link.specs.Promises.{given_in_order, WasReadUnordered, IsOver, kept_count}
use Rattle.quic_link.proofs.Modes.{IsNewHalf, modes-step, begun_by, read_none}
use Rattle.quic_link.proofs.Basics.{some_same}

-- each chunk that was read in order starts where those before it end
abbrev pub InRows : List ReadChunk → Type 0
InRows [] = Unit {0}
InRows (c ∷ cs) = InRows cs × (c.ordered ≡ true → c.offset ≡ length (given_in_order cs))

pub record TraceSo (t : Trace) : Type 0 where
  pub unreset : t.ended ≡ true → t.reset ≡ None
  pub rows : InRows t.given
  pub few : length (given_in_order t.given) ≤ t.read
  -- what is freed is over
  pub over : t.gone ≡ true → IsOver t

pub record ReadsSo (h : List Event) (w : World) : Type 0 where
  pub traces : (q : ℕ) → TraceSo (trace h q)
  -- all that was read of a half that reads in order was read so
  pub order : (q : ℕ) (half : Half) → w.receive q ≡ Some half → half.buffer.ordered ≡ true → length (given_in_order (trace h q).given) ≡ (trace h q).read
  -- one that reads bytes as they come was asked to
  pub unordered : (q : ℕ) (half : Half) → w.receive q ≡ Some half → half.buffer.ordered ≡ false → WasReadUnordered h q
  -- and one that reads in order holds no more pieces than frames were kept
  pub pieces : (q : ℕ) (half : Half) → w.receive q ≡ Some half → half.buffer.ordered ≡ true → piece_count half.buffer ≤ kept_count h q

-- what a read did agrees with the half that it read
abbrev ReadTrue : (w : World) → ℕ → Trace → Move → Type 0
ReadTrue w id t (WasRead ordered (Ok (Some chunk))) = (ordered ≡ true → chunk.offset ≡ length (given_in_order t.given)) × ((half : Half) → w.receive id ≡ Some half → half.buffer.ordered ≡ ordered)
ReadTrue w id t (WasRead ordered (Ok None)) = t.reset ≡ None
ReadTrue w id t (WasRead ordered (Err (read_error.Reset code))) = t.reset ≡ Some code
ReadTrue w id t WasTold = is_some t.reset ≡ true
ReadTrue w id t _ = Unit {0}

abbrev ReadsTrue : (w : World) → (ℕ → Trace) → Option (ℕ × Move) → Type 0
ReadsTrue w f None = Unit {0}
ReadsTrue w f (Some m) = ReadTrue w m.0 (f m.0) m.1

so_if : (a b : Trace) (k : Bool) → (k ≡ true → TraceSo a) → (k ≡ false → TraceSo b) → TraceSo (if k then a else b)
so_if a b true g h = g refl
so_if a b false g h = h refl

-- the rest does not count
so_same : (t t' : Trace) → t'.ended ≡ t.ended → t'.reset ≡ t.reset → t'.given ≡ t.given → t'.read ≡ t.read → (t'.gone ≡ true → IsOver t') → TraceSo t → TraceSo t'
so_same t t' a b c d o s =
    let P : List ReadChunk → Type 0 = λ g. InRows g in
    let few = s.few in
    let n : length (given_in_order t'.given) ≡ length (given_in_order t.given) = ap (λ g. length (given_in_order g)) c in
    record { unreset = λ k. b ∙ s.unreset (sym a ∙ k); rows = subst P (sym c) s.rows; few = omega arith; over = o }

more_given : (b : Bool) (xs ys : List ℕ) (n : ℕ) → length xs ≤ n → length (if b then xs ++ ys else xs) ≤ n + length ys
more_given true xs ys n l = let k = length-append xs ys in omega arith
more_given false xs ys n l = omega arith

not_both : (a b : Bool) → a ≡ true → (b || a) ≡ false → ⊥
not_both a true e k = cc
not_both a false e k = let l = sym e ∙ k in cc

both : (a b : Bool) → (a && b) ≡ true → a ≡ true
both true b k = refl
both false b k = cc

so_move : (w : World) (id : ℕ) (m : Move) (t : Trace) → EndsSo t → ReadTrue w id t m → TraceSo t → TraceSo (with_move m t)
so_move w id (Framed offset bytes fin answer) t e k s =
    so_if (with_kept_frame offset bytes fin t) t (is_frame_kept answer) (λ a. so_if t _ (is_closed t) (λ b. s) (λ b. so_same t _ refl refl refl refl (λ g. inr (inl (both t.stopped fin g))) s)) (λ a. s)
so_move w id (WasReset code final) t e k s =
    so_if t _ (is_closed t) (λ b. s) (λ b. record { unreset = λ r. absurd (not_both t.gone (is_some t.reset) (e.freed r) b); rows = s.rows; few = s.few; over = λ g. inr (inr refl) })
so_move w id (WasRead ordered (Ok (Some chunk))) t e k s = record { unreset = s.unreset; rows = (s.rows, k.0); few = more_given ordered (given_in_order t.given) chunk.bytes t.read s.few; over = s.over }
so_move w id (WasRead ordered (Ok None)) t e k s = record { unreset = λ r. k; rows = s.rows; few = s.few; over = λ g. inl refl }
so_move w id (WasRead ordered (Err read_error.Blocked)) t e k s = s
so_move w id (WasRead ordered (Err (read_error.Reset code))) t e k s = so_same t _ refl refl refl refl (λ g. inr (inr (ap (λ (o : Option ℕ). is_some o) k))) s
so_move w id (WasRead ordered (Err read_error.OutOfMemory)) t e k s = s
so_move w id WasStopped t e k s = so_same t _ refl refl refl refl (λ g. inr (inl refl)) s
so_move w id WasTold t e k s = so_same t _ refl refl refl refl (λ g. inr (inr k)) s
so_move w id (WasAnnounced limit) t e k s = so_same t _ refl refl refl refl s.over s

so_moved : (w : World) (f : ℕ → Trace) (o : Option (ℕ × Move)) (q : ℕ) → EndsSo (f q) → ReadsTrue w f o → TraceSo (f q) → TraceSo (moved o q (f q))
so_moved w f None q e k s = s
so_moved w f (Some m) q e k s = by_cases (eqb q m.0)
    (λ t. let P : ℕ → Type 0 = λ i. ReadTrue w i (f i) m.1 in
    let at : ReadTrue w q (f q) m.1 = subst P (sym (same q m.0 t)) k in
    so_if (with_move m.1 (f q)) (f q) (eqb q m.0) (λ x. so_move w q m.1 (f q) e at s) (λ x. s))
    (λ n. rw n s)

-- ---- in order

abbrev Same : Trace → Type 0
Same t = length (given_in_order t.given) ≡ t.read

same_if : (a b : Trace) (k : Bool) → Same a → Same b → Same (if k then a else b)
same_if a b true g h = g
same_if a b false g h = h

order_move : (w : World) (id : ℕ) (m : Move) (t : Trace) (half : Half) → w.receive id ≡ Some half → half.buffer.ordered ≡ true → ReadTrue w id t m → Same t → Same (with_move m t)
order_move w id (Framed offset bytes fin answer) t half at o k s = same_if (with_kept_frame offset bytes fin t) t (is_frame_kept answer) (same_if t _ (is_closed t) s s) s
order_move w id (WasReset code final) t half at o k s = same_if t _ (is_closed t) s s
order_move w id (WasRead ordered (Ok (Some chunk))) t half at o k s =
    let is : ordered ≡ true = sym (k.1 half at) ∙ o in
    let n = length-append (given_in_order t.given) chunk.bytes in
    let all : length (given_in_order t.given ++ chunk.bytes) ≡ t.read + length chunk.bytes = omega arith in
    rw is all
order_move w id (WasRead ordered (Ok None)) t half at o k s = s
order_move w id (WasRead ordered (Err read_error.Blocked)) t half at o k s = s
order_move w id (WasRead ordered (Err (read_error.Reset code))) t half at o k s = s
order_move w id (WasRead ordered (Err read_error.OutOfMemory)) t half at o k s = s
order_move w id WasStopped t half at o k s = s
order_move w id WasTold t half at o k s = s
order_move w id (WasAnnounced limit) t half at o k s = s

order_moved : (w : World) (f : ℕ → Trace) (o : Option (ℕ × Move)) (q : ℕ) (half : Half) → w.receive q ≡ Some half → half.buffer.ordered ≡ true → ReadsTrue w f o → Same (f q) → Same (moved o q (f q))
order_moved w f None q half at r k s = s
order_moved w f (Some m) q half at r k s = by_cases (eqb q m.0)
    (λ t. let P : ℕ → Type 0 = λ i. ReadTrue w i (f i) m.1 in
    let here : ReadTrue w q (f q) m.1 = subst P (sym (same q m.0 t)) k in
    same_if (with_move m.1 (f q)) (f q) (eqb q m.0) (order_move w q m.1 (f q) half at r here s) s)
    (λ n. rw n s)

-- ---- what a call did

begun_is : (e : Event) (q : ℕ) → begun_by e ≡ Some q → Began q false (Ok tt) ≡ e
begun_is (Began id false (Ok x)) q k = let i : q ≡ id = cc in ap (λ j. Began j false (Ok tt)) i
begun_is _ q k = cc

module _ (m : Made) (h : List Event) (u : World) (f : From m h u) (s : ReadsSo h u) where
  told_half : (id : ℕ) (half : Half) → u.receive id ≡ Some half → HalfFrom u.window (trace h id) half
  told_half id half e = half-from (trace h) u id half f.facts.streams (known-from (trace h) u id half f.facts.streams e) e

  read_true : (id most : ℕ) (ordered : Bool) (answer : Result (Option Chunk) ReadError) (v : World) → ReadsHalf u id most ordered answer v → ReadTrue u id (trace h id) (WasRead ordered answer)
  read_true id most ordered (Ok (Some chunk)) v r =
      let told = told_half id r.old r.half in (
        λ e. let o : r.old.buffer.ordered ≡ true = r.mode ∙ e in r.reads.1.start o ∙ told.read ∙ sym (s.order id r.old r.half o),
        λ half e. let k = some_same half r.old (sym e ∙ r.half) in ap (λ (x : Half). x.buffer.ordered) k ∙ r.mode,
      )
  read_true id most ordered (Ok None) v r =
      let told = told_half id r.old r.half in
      sym told.reset ∙ r.reads.2.running
  read_true id most ordered (Err read_error.Blocked) v r = tt
  read_true id most ordered (Err (read_error.Reset code)) v r = let told = told_half id r.old r.half in sym told.reset ∙ r.reads.0
  read_true id most ordered (Err read_error.OutOfMemory) v r = tt

  reads_true : (e : Event) (v : World) → Step u e v → ReadsTrue u (trace h) (move_of e)
  reads_true (Gave id most ordered answer) v r = read_true id most ordered answer v r
  reads_true (ReceivedReset id code final (Ok transmit)) v r = tt
  reads_true (ReceivedReset id code final (Err error)) v r = tt
  reads_true (Stopped id code (Ok x)) v r = tt
  reads_true (Stopped id code (Err error)) v r = tt
  reads_true (ToldReset id (Ok (Some code))) v r =
      let t = r.2 in
      let told = told_half id t.0 t.1 in
      ap (λ (o : Option ℕ). is_some o) (sym told.reset ∙ t.3)
  reads_true (ToldReset id (Ok None)) v r = tt
  reads_true (ToldReset id (Err error)) v r = tt
  reads_true (LeftPending kind None) v r = tt
  reads_true (LeftPending kind (Some (frames.MaxStreamData id limit))) v r = tt
  reads_true (LeftPending kind (Some _)) v r = tt
  reads_true _ v r = tt

  pub reads-kept : (e : Event) (v : World) → begins_anew (joint_move_of e) ≡ false → Step u e v → From m (e ∷ h) v → ReadsSo (e ∷ h) v
  reads-kept e v plain r after =
      let k = reads_true e v r in
      let traces : (q : ℕ) → TraceSo (trace (e ∷ h) q) = λ q. rw plain (so_moved u (trace h) (move_of e) q (f.ends q) k (s.traces q)) in
      record {
        traces = traces;
        order = λ q half at o. elim (modes-step u e v plain r q half at) [
          | inl none ↦ (let told = half-from (trace (e ∷ h)) v q half after.facts.streams (known-from (trace (e ∷ h)) v q half after.facts.streams at) at in
              let read = told.read in
              let nothing = none.read in
              let few = (traces q).few in
              omega arith)
          | inr was ↦ rw plain (order_moved u (trace h) (move_of e) q was.0 was.1 (was.2.ordered o) k (s.order q was.0 was.1 (was.2.ordered o)))
        ];
        unordered = λ q half at o. elim (modes-step u e v plain r q half at) [
          | inl none ↦ absurd (let n = sym none.ordered ∙ o in cc)
          | inr was ↦ elim (was.2.unordered o) [ inl before ↦ inr (s.unordered q was.0 was.1 before) | inr now ↦ inl (begun_is e q now) ]
        ];
        pieces = λ q half at o. elim (modes-step u e v plain r q half at) [
          | inl none ↦ (let n = none.pieces in omega arith)
          | inr was ↦ (let l = was.2.pieces o in let n = s.pieces q was.0 was.1 (was.2.ordered o) in omega arith)
        ];
      }

-- at first nothing came of any half
start_new : (m : Made) (q : ℕ) (half : Half) → (start m).receive q ≡ Some half → IsNewHalf half
unfolding with_first
start_new m q half e = by_two (is_among (other_side m.side) Uni m.uni.max_remote q) (is_among (other_side m.side) Bi m.bi.max_remote q) e
  where
    by_two : (a b : Bool) → (if a then Some (new_half m.window) else (if b then Some (new_half m.window) else None)) ≡ Some half → IsNewHalf half
    by_two true b k = read_none half m.window (some_same (new_half m.window) half k)
    by_two false true k = read_none half m.window (some_same (new_half m.window) half k)
    by_two false false k = cc

pub reads-new : (m : Made) → ReadsSo [] (start m)
reads-new m = record {
  traces = λ q. record { unreset = λ k. refl; rows = tt; few = omega arith; over = λ k. cc };
  order = λ q half e o. refl;
  unordered = λ q half e o. absurd (let n = start_new m q half e in let k = sym n.ordered ∙ o in cc);
  pieces = λ q half e o. let n = start_new m q half e in let k = n.pieces in omega arith;
}
