-- Where all that came of each stream was read, all that was received counts as consumed.
use Rattle.std.proofs.Common.{◌≡◌, ℕ, zero, suc, Bool, true, false, List, [], ◌∷◌, length, Option, Some, None, is_some, Ok, Err, refl, sym, ◌∙◌, subst, inl, inr, arith, ◌+◌, ◌≤◌, ◌<◌}
use Rattle.std.specs.Prelude.{◌||◌, ◌==◌, ◌&&◌, cond, if◌then◌else◌}
use Rattle.quic_assembler.specs.Piece.{lies}
use Rattle.quic_receiving.specs.Counted.{number}
use Rattle.quic_receiving.specs.Data.{is_in_slices, IsAllGiven}
use Rattle.quic_receiving.specs.Half.{Half}
use Rattle.quic_receiving.specs.declared.errors.ReadError.TheVariants as read_error
use Rattle.quic_receiving.proofs.Counted.{number-lies}
use Rattle.quic_outgoing.specs.Senders.{is_local}
use Rattle.quic_values.specs.declared.ids.Side.TheVariants.{Client}
use Rattle.quic_history.specs.World.{World, Made, id_refusal}
use Rattle.quic_history.specs.Early.{begins_anew}
use Rattle.quic_history.specs.History.{Event, Move, Framed, WasReset, WasRead, WasStopped, WasTold, WasAnnounced, From, Trace, ReadChunk, HalfFrom, StreamFrom, slices, untouched, trace, streams, told_still, move_of, moved, with_move, with_kept_frame, is_frame_kept, is_closed, joint_move_of}
use Rattle.quic_link.specs.Promises.{IsOver}
use Rattle.quic_link.proofs.Ends.{ArePlain}
use Rattle.quic_link.proofs.Readers.{ReadsSo}
use Rattle.quic_link.proofs.Sums.{total-most}
use Rattle.quic_progress.specs.Progress.{OwesNoDebt, CanBeTold}
use Rattle.quic_progress.proofs.Spent.{counted_on, outstanding, counted-all}

-- ---- as many bytes were given as were read

abbrev pub given_length : List ReadChunk → ℕ
given_length [] = 0
given_length (c ∷ cs) = length c.bytes + given_length cs

abbrev IsGivenSo : Trace → Type 0
IsGivenSo t = t.read ≡ given_length t.given

given_if : (a b : Trace) (k : Bool) → IsGivenSo a → IsGivenSo b → IsGivenSo (if k then a else b)
given_if a b true g h = g
given_if a b false g h = h

given_move : (m : Move) (t : Trace) → IsGivenSo t → IsGivenSo (with_move m t)
given_move (Framed offset bytes fin answer) t s = given_if (with_kept_frame offset bytes fin t) t (is_frame_kept answer) (given_if t _ (is_closed t) s s) s
given_move (WasReset code final) t s = given_if t _ (is_closed t) s s
given_move (WasRead ordered (Ok (Some chunk))) t s = omega (arith, s)
given_move (WasRead ordered (Ok None)) t s = s
given_move (WasRead ordered (Err read_error.Blocked)) t s = s
given_move (WasRead ordered (Err (read_error.Reset code))) t s = s
given_move (WasRead ordered (Err read_error.OutOfMemory)) t s = s
given_move WasStopped t s = s
given_move WasTold t s = s
given_move (WasAnnounced limit) t s = s

given_moved : (o : Option (ℕ × Move)) (q : ℕ) (t : Trace) → IsGivenSo t → IsGivenSo (moved o q t)
given_moved None q t s = s
given_moved (Some m) q t s = given_if (with_move m.1 t) t (q == m.0) (given_move m.1 t s) s

given_still : (e : Event) (q : ℕ) (t : Trace) → IsGivenSo t → IsGivenSo (told_still e q t)
given_still e q t s = given_if untouched t (begins_anew (joint_move_of e) && is_local Client q) refl s

given-so : (h : List Event) (q : ℕ) → IsGivenSo (trace h q)
given-so [] q = refl
given-so (e ∷ h) q = given_moved (move_of e) q (told_still e q (trace h q)) (given_still e q (trace h q) (given-so h q))

-- ---- what has each offset has as many bytes

number_none : (n : ℕ) → number (is_in_slices []) n ≡ 0
unfolding number
number_none zero = refl
number_none (suc n) = omega (arith, number_none n)

number_all : (n : ℕ) (f : ℕ → Bool) → ((at : ℕ) → at < n → f at ≡ true) → n ≤ number f n
unfolding number
number_all zero f h = omega arith
number_all (suc n) f h = omega (arith, number_all n f (λ at l. h at (omega (arith, l))), one (f n) (h n (omega arith)))
  where
    one : (b : Bool) → b ≡ true → 1 ≤ cond b 1 0
    one true e = omega arith
    one false e = cc

number_or : (n : ℕ) (f g : ℕ → Bool) → number (λ at. f at || g at) n ≤ number f n + number g n
unfolding number
number_or zero f g = omega arith
number_or (suc n) f g = omega (arith, number_or n f g, bits (f n) (g n))
  where
    bits : (a b : Bool) → cond (a || b) 1 0 ≤ cond a 1 0 + cond b 1 0
    bits true true = omega arith
    bits true false = omega arith
    bits false true = omega arith
    bits false false = omega arith

number_given : (n : ℕ) (cs : List ReadChunk) → number (is_in_slices (slices cs)) n ≤ given_length cs
number_given n [] = let e = number_none n in omega (arith, e)
number_given n (c ∷ cs) =
    let rest = number_given n cs in
    let both = number_or n (lies c.offset (c.offset + length c.bytes)) (is_in_slices (slices cs)) in
    let one = number-lies n c.offset (c.offset + length c.bytes) (omega arith) in
    omega (arith, rest, both, one)

pub given-all : (h : List Event) (q n : ℕ) → IsAllGiven (slices (trace h q).given) n → n ≤ (trace h q).read
given-all h q n all =
    let a = number_all n (is_in_slices (slices (trace h q).given)) all in
    let b = number_given n (trace h q).given in
    let c = given-so h q in
    omega (arith, a, b, c)

-- ---- what came counts

-- all that came of each stream that is held was read, unless it was stopped or reset
abbrev pub AreReadUp : World → Type 0
AreReadUp w = (q : ℕ) (h : Half) → w.receive q ≡ Some h → h.stopped ≡ false → h.reset ≡ None → h.end ≤ h.buffer.bytes_read

either_counts : (stopped reset : Bool) (high read : ℕ) → (stopped ≡ false → reset ≡ false → high ≤ read) → high ≤ (if stopped || reset then high else read)
either_counts true reset high read l = omega arith
either_counts false true high read l = omega arith
either_counts false false high read l = l refl refl

no_code : (o : Option ℕ) → is_some o ≡ false → o ≡ None
no_code None e = refl
no_code (Some code) e = cc

differ : (b : Bool) → b ≡ true → b ≡ false → ⊥
differ true e d = cc
differ false e d = cc

module _ (m : Made) (h : List Event) (w : World) (f : From m h w) (reads : ReadsSo h w) (up : AreReadUp w) where
  over_counts : (q : ℕ) → IsOver (trace h q) → (trace h q).high ≤ counted_on (trace h q)
  over_counts q (inl ended) = either_counts (trace h q).stopped (is_some (trace h q).reset) (trace h q).high (trace h q).read (λ a b. given-all h q (trace h q).high ((f.ends q).all ended))
  over_counts q (inr (inl stopped)) = either_counts (trace h q).stopped (is_some (trace h q).reset) (trace h q).high (trace h q).read (λ a b. absurd (differ (trace h q).stopped stopped a))
  over_counts q (inr (inr reset)) = either_counts (trace h q).stopped (is_some (trace h q).reset) (trace h q).high (trace h q).read (λ a b. absurd (differ (is_some (trace h q).reset) reset b))

  held_counts : (q : ℕ) (half : Half) → w.receive q ≡ Some half → HalfFrom w.window (trace h q) half → (trace h q).high ≤ counted_on (trace h q)
  held_counts q half held t = either_counts (trace h q).stopped (is_some (trace h q).reset) (trace h q).high (trace h q).read
      (λ a b.
      let l = up q half held (t.stopped ∙ a) (t.reset ∙ no_code (trace h q).reset b) in
      let high = t.high in
      let read = t.read in
      omega (arith, l, high, read))

  stream_counts : (q : ℕ) (r : Option ℕ) (o : Option Half) → w.receive q ≡ o → StreamFrom w.window (trace h q) r o → (trace h q).high ≤ counted_on (trace h q)
  stream_counts q None (Some half) held s = held_counts q half held s
  stream_counts q None None held s = over_counts q ((reads.traces q).over s)
  stream_counts q (Some error) (Some half) held s = absurd s
  stream_counts q (Some error) None held s = let P : Trace → Type 0 = λ t. t.high ≤ counted_on t in subst P (sym s) (omega arith)

  counts : (q : ℕ) → (trace h q).high ≤ counted_on (trace h q)
  counts q = stream_counts q (id_refusal w q) (w.receive q) refl (f.facts.streams q)

  -- the limit is a whole window above what was received
  pub received-spent : ArePlain h → outstanding h ≡ 0 → OwesNoDebt w.credit → CanBeTold w.credit.local_max_data → w.credit.data_recvd + w.credit.receive_window ≤ w.credit.local_max_data
  received-spent plain none owes small =
      let c = f.facts.credit in
      let came = c.received in
      let window = c.receive_window in
      let limit = c.limit in
      let most = total-most (λ q. counted_on (trace h q)) (λ q. (trace h q).high) (streams h) counts in
      let all = counted-all h plain in
      omega (arith, came, window, limit, most, all, none, small)
