-- The first pieces of a row stay as they are, and those behind them are joined to them.
use Rattle.std.proofs.Common.{◌≡◌, ℕ, ◌+◌, ◌≤◌, ◌<◌, sym, ap, subst, ◌∙◌, inl, inr, List, [], ◌∷◌, ◌++◌, length, take, drop, zero, suc, arith, append_assoc, take-append-drop}
use Rattle.std.specs.Prelude.{slice_index_or}
use Rattle.std.specs.List.{All}
use Rattle.std.specs.Map.{values_of}
use Rattle.std.proofs.lemmas.List.{length-append, append-nil, take_at, drop_at, take_more}
use Rattle.std.proofs.lemmas.List.Elements.{All-nil, All-weaker, All-push, All-take, All-drop}
use Rattle.quic_assembler.specs.Piece.{PieceView, run_end}
use Rattle.quic_ordered.specs.Rows.{HoldSame, IsGathered, IsAmong, IsKeptOrOwn, IsStore, IsTidy, JoinsLast, LieInOrder, LieWithGaps, tidied, joined_with}
use Rattle.quic_ordered.proofs.Stores.{all_among}
use Rattle.quic_ordered.proofs.Compacting.{same_refl, gaps_push, order_gathered_front}

-- ---- how many stay

-- a piece from an offset on can be put behind others, with a gap before it
abbrev pub HasGapsTo : ℕ → List PieceView → Type 0
HasGapsTo floor xs = (p : PieceView) → floor ≤ p.offset → 0 < length p.bytes → LieWithGaps 0 (xs ++ p ∷ [])

pub gaps_none : HasGapsTo 0 []
gaps_none p le some = (le, some, tt)

some_at : (low : ℕ) (rs : List PieceView) (n : ℕ) (r : PieceView) → LieInOrder low rs → n < length rs → r ≡ slice_index_or rs n r → 0 < length r.bytes
some_at low [] n r h lt e = absurd (omega arith)
some_at low (x ∷ rs) zero r h lt e = subst (λ (s : PieceView). 0 < length s.bytes) (sym e) h.1
some_at low (x ∷ rs) (suc n) r h lt e = some_at (run_end x) rs n r h.2 (omega arith) e

one_more : (rs : List PieceView) (n : ℕ) (r : PieceView) → n < length rs → r ≡ slice_index_or rs n r → take (n + 1) rs ≡ take n rs ++ r ∷ []
one_more rs n r lt e = take_more rs n r lt ∙ ap (λ (s : PieceView). take n rs ++ s ∷ []) (sym e)

-- so many stay: each is tidy, and there are gaps between them and before what comes from an offset on
pub record AreTidyTo (floor : ℕ) (rs : List PieceView) : Type 0 where
  pub apart : LieWithGaps 0 rs
  pub next : HasGapsTo floor rs
  pub tidy : All IsTidy rs

pub tidy_none : (rs : List PieceView) → AreTidyTo 0 (take 0 rs)
tidy_none rs = record { apart = tt; next = gaps_none; tidy = All-nil IsTidy }

pub tidy_more : (rs : List PieceView) (n floor : ℕ) (r : PieceView) → LieInOrder 0 rs → n < length rs → r ≡ slice_index_or rs n r → floor ≤ r.offset → IsTidy r → AreTidyTo floor (take n rs) → AreTidyTo (run_end r + 1) (take (n + 1) rs)
tidy_more rs n floor r h lt e le tidy t =
    let apart = t.next r le (some_at 0 rs n r h lt e) in
    subst (AreTidyTo (run_end r + 1)) (sym (one_more rs n r lt e))
    (record {
      apart = apart;
      next = λ p more some. gaps_push 0 (take n rs) r p apart (omega (arith, more)) some;
      tidy = All-push IsTidy (take n rs) r t.tidy tidy;
    })

-- ---- those behind them

-- a row was split: so many are in front
pub split_front : (all xs ys : List PieceView) (n : ℕ) → xs ++ ys ≡ all → length xs ≡ n → xs ≡ take n all
split_front all xs ys n e l = sym (take_at xs ys n l) ∙ ap (λ (zs : List PieceView). take n zs) e

pub split_rest : (all xs ys : List PieceView) (n : ℕ) → xs ++ ys ≡ all → length xs ≡ n → ys ≡ drop n all
split_rest all xs ys n e l = sym (drop_at xs ys n l) ∙ ap (λ (zs : List PieceView). drop n zs) e

pub split_length : (all : List PieceView) (n : ℕ) → length (take n all) + length (drop n all) ≡ length all
split_length all n = let e = ap (λ (zs : List PieceView). length zs) (take-append-drop n all) in omega (arith, e, length-append (take n all) (drop n all))

-- those that stay are gathered
pub gathered_kept : (all out rest : List PieceView) (n : ℕ) → LieInOrder 0 all → out ≡ take n all → rest ≡ drop n all → LieWithGaps 0 (take n all) → All IsTidy (take n all) → IsGathered all out rest
gathered_kept all out rest n order f b apart tidy =
    rw (f, b) (record {
      same = subst (HoldSame all) (sym (take-append-drop n all)) (same_refl all);
      order = subst (LieInOrder 0) (sym (take-append-drop n all)) order;
      apart = apart;
      tidy = tidy;
      pieces = let l = split_length all n in omega arith;
      stems = All-weaker (IsAmong all) (IsKeptOrOwn all) (λ r a. inl a) (take n all) (All-take (IsAmong all) n all (all_among [] all));
      left = All-drop (IsAmong all) n all (all_among [] all);
    })

-- a piece that is joined takes the place of at most one
pub joined_length : (rs rs' : List PieceView) (p : PieceView) → JoinsLast rs p rs' → length rs' ≤ length rs + 1
joined_length rs rs' p j =
    elim j.case [
      | inl none ↦ let a = ap (λ (xs : List PieceView). length xs) none.1 in omega arith
      | inr some ↦
          let a = ap (λ (xs : List PieceView). length xs) some.2 in
          let b = length-append some.0 (some.1 ∷ []) in
          elim some.3 [
            | inl touch ↦ let c = ap (λ (xs : List PieceView). length xs) touch.1 in omega (arith, length-append some.0 (joined_with some.1 p ∷ []))
            | inr gap ↦ let c = ap (λ (xs : List PieceView). length xs) gap.1 in omega (arith, length-append rs (tidied p ∷ []))
          ]
    ]

-- a piece goes from the end of a row to the front of another
pub split_step : (xs xs' ys ys' : List PieceView) (p : PieceView) → xs ≡ xs' ++ p ∷ [] → ys' ≡ p ∷ ys → xs' ++ ys' ≡ xs ++ ys
split_step xs xs' ys ys' p e f = ap (λ (zs : List PieceView). xs' ++ zs) f ∙ (sym (append_assoc xs' (p ∷ []) ys) ∙ ap (λ (zs : List PieceView). zs ++ ys) (sym e))

-- a piece goes from the front of a row to the end of another
pub behind_step : (xs xs' ys ys' : List PieceView) (p : PieceView) → ys ≡ p ∷ ys' → xs' ≡ xs ++ p ∷ [] → xs' ++ ys' ≡ xs ++ ys
behind_step xs xs' ys ys' p e f = ap (λ (zs : List PieceView). zs ++ ys') f ∙ (append_assoc xs (p ∷ []) ys' ∙ ap (λ (zs : List PieceView). xs ++ zs) (sym e))

-- ---- all are in the row again

pub same_behind : (es : List (ℕ × PieceView)) (all rest out row : List PieceView) → es ≡ [] → IsGathered all out rest → row ≡ out ++ rest → HoldSame (values_of es ++ all) (values_of es ++ row)
same_behind es all rest out row e g f = subst (λ (xs : List (ℕ × PieceView)). HoldSame (values_of xs ++ all) (values_of xs ++ row)) (sym e) (subst (HoldSame all) (sym f) g.same)

pub length_behind : (es : List (ℕ × PieceView)) (all rest out row : List PieceView) → es ≡ [] → IsGathered all out rest → row ≡ out ++ rest → length (values_of es ++ row) ≤ length (values_of es ++ all)
length_behind es all rest out row e g f =
    let n = ap (λ (xs : List PieceView). length xs) f in
    let le : length row ≤ length all = omega (arith, n, g.pieces, length-append out rest) in
    subst (λ (xs : List (ℕ × PieceView)). length (values_of xs ++ row) ≤ length (values_of xs ++ all)) (sym e) le

pub store_behind : (es : List (ℕ × PieceView)) (all rest out row : List PieceView) → IsStore es all → es ≡ [] → IsGathered all out rest → row ≡ out ++ rest → IsStore es row
store_behind es all rest out row s e g f = record { rises = s.rises; keyed = s.keyed; order = order_gathered_front 0 es all rest out row s.order e g f }

-- none is left
pub only_out : (es : List (ℕ × PieceView)) (rest out row : List PieceView) → es ≡ [] → rest ≡ [] → row ≡ out ++ rest → out ≡ values_of es ++ row
only_out es rest out row e none f = sym (ap (λ (xs : List (ℕ × PieceView)). values_of xs ++ row) e ∙ (f ∙ (ap (λ (ys : List PieceView). out ++ ys) none ∙ append-nil out)))
