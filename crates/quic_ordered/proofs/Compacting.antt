-- Pieces that touch are joined.
use Rattle.std.proofs.Common.{◌≡◌, ℕ, ◌+◌, ◌-◌, ◌*◌, ◌/◌, ◌≤◌, ◌<◌, ◌⊎◌, refl, sym, ap, subst, ◌∙◌, inl, inr, List, [], ◌∷◌, ◌++◌, length, arith, append_assoc, Bool, true, false, cond, Some}
use Rattle.std.specs.Prelude.{nat_le, ◌≢◌, slice_index}
use Rattle.std.specs.List.{All, Any}
use Rattle.std.specs.Map.{values_of}
use Rattle.std.proofs.lemmas.Bool.{cases_lt}
use Rattle.std.proofs.lemmas.Bool.Decides.{nat_tests}
use Rattle.std.proofs.lemmas.List.{length-append, get_or_append_left, get_or-append-add}
use Rattle.std.proofs.lemmas.List.Elements.{All-head, All-tail, All-nil, All-cons, All-push, All-pop, All-append, All-weaker}
use Rattle.quic_assembler.specs.Piece.{PieceView, run_end, RunHolds}
use Rattle.quic_assembler.proofs.Counts.{Any-here, Any-there, Any-cons, Any-nil, Any-append}
use Rattle.quic_ordered.specs.Rows.{Hold, HoldSame, IsGathered, IsAmong, IsKeptOrOwn, Outgrows, JoinsLast, LieInOrder, LieWithGaps, IsTidy, tidied, joined_with}
use Rattle.quic_ordered.proofs.Order.{hold_front, hold_behind, lower, order_behind}

-- ---- the same is held

pub same_refl : (xs : List PieceView) → HoldSame xs xs
same_refl xs = record { keeps = λ at byte h. h; origin = λ at byte h. h }

pub same_trans : (xs ys zs : List PieceView) → HoldSame xs ys → HoldSame ys zs → HoldSame xs zs
same_trans xs ys zs p q = record { keeps = λ at byte h. q.keeps at byte (p.keeps at byte h); origin = λ at byte h. p.origin at byte (q.origin at byte h) }

within : (xs ys ys' zs : List PieceView) (at byte : ℕ) → (Hold ys at byte → Hold ys' at byte) → Hold (xs ++ (ys ++ zs)) at byte → Hold (xs ++ (ys' ++ zs)) at byte
within xs ys ys' zs at byte f h =
    elim (Any-append (RunHolds at byte) xs (ys ++ zs) h) [
      | inl a ↦ hold_front xs (ys' ++ zs) at byte a
      | inr b ↦ elim (Any-append (RunHolds at byte) ys zs b) [
        | inl c ↦ hold_behind xs (ys' ++ zs) at byte (hold_front ys' zs at byte (f c))
        | inr d ↦ hold_behind xs (ys' ++ zs) at byte (hold_behind ys' zs at byte d)
      ]
    ]

same_within : (xs ys ys' zs : List PieceView) → HoldSame ys ys' → HoldSame (xs ++ (ys ++ zs)) (xs ++ (ys' ++ zs))
same_within xs ys ys' zs s = record {
  keeps = λ at byte h. within xs ys ys' zs at byte (s.keeps at byte) h;
  origin = λ at byte h. within xs ys' ys zs at byte (s.origin at byte) h;
}

tidied_by : (b : Bool) (r : PieceView) → b ≡ nat_le r.allocation_size (length r.bytes * 6 / 5) → ((cond b r (record r { allocation_size = length r.bytes })).offset ≡ r.offset) × ((cond b r (record r { allocation_size = length r.bytes })).bytes ≡ r.bytes) × IsTidy (cond b r (record r { allocation_size = length r.bytes }))
tidied_by true r t = (refl, refl, let u = sym t in grind (arith, nat_tests))
tidied_by false r t = (refl, refl, omega arith)

pub tidied_is : (r : PieceView) → ((tidied r).offset ≡ r.offset) × ((tidied r).bytes ≡ r.bytes) × IsTidy (tidied r)
tidied_is r = tidied_by (nat_le r.allocation_size (length r.bytes * 6 / 5)) r refl

one_holds : (p r : PieceView) (at byte : ℕ) → r.offset ≡ p.offset → r.bytes ≡ p.bytes → RunHolds at byte p → RunHolds at byte r
one_holds p r at byte o b h =
    let l = ap (λ (bs : List ℕ). length bs) b in
    let low = h.0 in
    let high = h.1 in
    (omega (arith, o, low), omega (arith, o, l, high), ap (λ (bs : List ℕ). slice_index bs (at - r.offset)) b ∙ ap (λ (n : ℕ). slice_index p.bytes (at - n)) o ∙ h.2)

same_one : (p r : PieceView) → r.offset ≡ p.offset → r.bytes ≡ p.bytes → HoldSame (p ∷ []) (r ∷ [])
same_one p r o b = record {
  keeps = λ at byte h. elim (Any-cons (RunHolds at byte) p [] h) [
    | inl a ↦ Any-here (RunHolds at byte) r [] (one_holds p r at byte o b a)
    | inr n ↦ absurd (Any-nil (RunHolds at byte) n)
  ];
  origin = λ at byte h. elim (Any-cons (RunHolds at byte) r [] h) [
    | inl a ↦ Any-here (RunHolds at byte) p [] (one_holds r p at byte (sym o) (sym b) a)
    | inr n ↦ absurd (Any-nil (RunHolds at byte) n)
  ];
}

joined_keeps : (last p : PieceView) (at byte : ℕ) → run_end last ≡ p.offset → RunHolds at byte last ⊎ RunHolds at byte p → RunHolds at byte (joined_with last p)
joined_keeps last p at byte e (inl h) =
    let l = length-append last.bytes p.bytes in
    let low = h.0 in
    let high = h.1 in
    (low, omega (arith, l, high), get_or_append_left last.bytes p.bytes 0 (at - last.offset) (omega (arith, low, high)) ∙ h.2)
joined_keeps last p at byte e (inr h) =
    let l = length-append last.bytes p.bytes in
    let low = h.0 in
    let high = h.1 in
    let i : at - last.offset ≡ length last.bytes + (at - p.offset) = omega (arith, low, e) in
    (omega (arith, low, e), omega (arith, l, e, high), ap (slice_index (last.bytes ++ p.bytes)) i ∙ get_or-append-add last.bytes p.bytes (at - p.offset) 0 ∙ h.2)

joined_origin : (last p : PieceView) (at byte : ℕ) → run_end last ≡ p.offset → RunHolds at byte (joined_with last p) → RunHolds at byte last ⊎ RunHolds at byte p
joined_origin last p at byte e h =
    let l = length-append last.bytes p.bytes in
    let low = h.0 in
    let high = h.1 in
    elim (cases_lt at (run_end last)) [
      | inl lt ↦ inl (low, lt, sym (get_or_append_left last.bytes p.bytes 0 (at - last.offset) (omega (arith, low, lt))) ∙ h.2)
      | inr ge ↦
          let i : at - last.offset ≡ length last.bytes + (at - p.offset) = omega (arith, low, e, ge) in
          inr (omega (arith, ge, e), omega (arith, l, e, high), sym (get_or-append-add last.bytes p.bytes (at - p.offset) 0) ∙ sym (ap (slice_index (last.bytes ++ p.bytes)) i) ∙ h.2)
    ]

same_joined : (last p : PieceView) → run_end last ≡ p.offset → HoldSame (last ∷ (p ∷ [])) (joined_with last p ∷ [])
same_joined last p e = record {
  keeps = λ at byte h. Any-here (RunHolds at byte) (joined_with last p) [] (elim (Any-cons (RunHolds at byte) last (p ∷ []) h) [
    | inl a ↦ joined_keeps last p at byte e (inl a)
    | inr b ↦ elim (Any-cons (RunHolds at byte) p [] b) [
      | inl c ↦ joined_keeps last p at byte e (inr c)
      | inr n ↦ absurd (Any-nil (RunHolds at byte) n)
    ]
  ]);
  origin = λ at byte h. elim (Any-cons (RunHolds at byte) (joined_with last p) [] h) [
    | inl a ↦ elim (joined_origin last p at byte e a) [
      | inl b ↦ Any-here (RunHolds at byte) last (p ∷ []) b
      | inr c ↦ Any-there (RunHolds at byte) last (p ∷ []) (Any-here (RunHolds at byte) p [] c)
    ]
    | inr n ↦ absurd (Any-nil (RunHolds at byte) n)
  ];
}

-- ---- in order

order_one : (low : ℕ) (xs rest : List PieceView) (p r : PieceView) → r.offset ≡ p.offset → length r.bytes ≡ length p.bytes → LieInOrder low (xs ++ (p ∷ rest)) → LieInOrder low (xs ++ (r ∷ rest))
order_one low [] rest p r o l h = let a = h.0 in let b = h.1 in (omega arith, omega arith, lower (run_end r) (run_end p) rest (omega arith) h.2)
order_one low (x ∷ xs) rest p r o l h = (h.0, h.1, order_one (run_end x) xs rest p r o l h.2)

order_joined : (low : ℕ) (xs rest : List PieceView) (last p : PieceView) → run_end last ≡ p.offset → LieInOrder low (xs ++ (last ∷ (p ∷ rest))) → LieInOrder low (xs ++ (joined_with last p ∷ rest))
order_joined low [] rest last p e h =
    let l = length-append last.bytes p.bytes in
    let s = h.1 in
    (h.0, omega (arith, l, s), lower (run_end (joined_with last p)) (run_end p) rest (omega (arith, l, e)) h.2.2)
order_joined low (x ∷ xs) rest last p e h = (h.0, h.1, order_joined (run_end x) xs rest last p e h.2)

-- where the next one begins
next_begins : (low : ℕ) (xs rest : List PieceView) (last p : PieceView) → LieInOrder low (xs ++ (last ∷ (p ∷ rest))) → (run_end last ≤ p.offset) × (0 < length p.bytes)
next_begins low [] rest last p h = (h.2.0, h.2.1)
next_begins low (x ∷ xs) rest last p h = next_begins (run_end x) xs rest last p h.2

pub gaps_push : (low : ℕ) (xs : List PieceView) (last p : PieceView) → LieWithGaps low (xs ++ last ∷ []) → run_end last < p.offset → 0 < length p.bytes → LieWithGaps low ((xs ++ last ∷ []) ++ p ∷ [])
gaps_push low [] last p h lt some = (h.0, h.1, (omega arith, some, tt))
gaps_push low (x ∷ xs) last p h lt some = (h.0, h.1, gaps_push (run_end x + 1) xs last p h.2 lt some)

gaps_joined : (low : ℕ) (xs : List PieceView) (last p : PieceView) → LieWithGaps low (xs ++ last ∷ []) → LieWithGaps low (xs ++ joined_with last p ∷ [])
gaps_joined low [] last p h = let l = length-append last.bytes p.bytes in let s = h.1 in (h.0, omega (arith, l, s), tt)
gaps_joined low (x ∷ xs) last p h = (h.0, h.1, gaps_joined (run_end x + 1) xs last p h.2)

-- ---- one step

among_behind : (xs ys : List PieceView) (r : PieceView) → IsAmong ys r → IsAmong (xs ++ ys) r
among_behind [] ys r h = h
among_behind (x ∷ xs) ys r h = Any-there (λ (s : PieceView). s ≡ r) x (xs ++ ys) (among_behind xs ys r h)

all_among : (xs ys : List PieceView) → All (IsAmong (xs ++ ys)) ys
all_among xs [] = All-nil (IsAmong (xs ++ []))
all_among xs (y ∷ ys) =
    All-cons (IsAmong (xs ++ (y ∷ ys))) y ys (among_behind xs (y ∷ ys) y (Any-here (λ (s : PieceView). s ≡ y) y ys refl))
    (subst (λ (zs : List PieceView). All (IsAmong zs) ys) (append_assoc xs (y ∷ []) ys) (all_among (xs ++ y ∷ []) ys))

any_more : (P Q : PieceView → Type 0) → ((s : PieceView) → P s → Q s) → (xs : List PieceView) → Any P xs → Any Q xs
any_more P Q f [] h = absurd (Any-nil P h)
any_more P Q f (x ∷ xs) h =
    elim (Any-cons P x xs h) [
      | inl a ↦ Any-here Q x xs (f x a)
      | inr b ↦ Any-there Q x xs (any_more P Q f xs b)
    ]

outgrown : (all : List PieceView) (r new : PieceView) → new.offset ≡ r.offset → (IsTidy r → ⊥) ⊎ (length r.bytes < length new.bytes) → IsAmong all r → Any (Outgrows new) all
outgrown all r new o more h =
    any_more (λ (s : PieceView). s ≡ r) (Outgrows new)
    (λ s e. (ap (λ (q : PieceView). q.offset) e ∙ sym o, subst (λ (q : PieceView). (IsTidy q → ⊥) ⊎ (length q.bytes < length new.bytes)) (sym e) more))
    all h

-- a piece that grows goes on to outgrow what it outgrew
grown : (all : List PieceView) (last new : PieceView) → new.offset ≡ last.offset → length last.bytes < length new.bytes → IsKeptOrOwn all last → Any (Outgrows new) all
grown all last new o more (inl h) = outgrown all last new o (inr more) h
grown all last new o more (inr h) =
    any_more (Outgrows last) (Outgrows new)
    (λ s e. (
      e.0 ∙ sym o,
      elim e.1 [
        | inl u ↦ inl u
        | inr l ↦ inr (omega (arith, l, more))
      ],
    ))
    all h.1

tidied_stems : (all : List PieceView) (r : PieceView) (b : Bool) → nat_le r.allocation_size (length r.bytes * 6 / 5) ≡ b → IsAmong all r → IsKeptOrOwn all (cond b r (record r { allocation_size = length r.bytes }))
tidied_stems all r true e h = inl h
tidied_stems all r false e h =
    let no : length r.bytes * 6 / 5 < r.allocation_size = grind (arith, nat_tests) in
    inr (refl, outgrown all r (record r { allocation_size = length r.bytes }) refl (inl (λ t. absurd (omega (arith, t, no)))) h)

pub gathered_none : (all out : List PieceView) → out ≡ [] → LieInOrder 0 all → IsGathered all out all
gathered_none all out e h =
    rw e (record {
      same = same_refl all;
      order = h;
      apart = tt;
      tidy = All-nil IsTidy;
      pieces = omega arith;
      stems = All-nil (IsKeptOrOwn all);
      left = all_among [] all;
    })

-- a piece is put behind all others
step_put : (all out rest : List PieceView) (p : PieceView) → IsGathered all out (p ∷ rest) → LieWithGaps 0 (out ++ tidied p ∷ []) → IsGathered all (out ++ tidied p ∷ []) rest
step_put all out rest p g apart =
    let t = tidied_is p in
    let a = append_assoc out (tidied p ∷ []) rest in
    record {
      same = same_trans all (out ++ (p ∷ rest)) ((out ++ tidied p ∷ []) ++ rest) g.same (subst (HoldSame (out ++ (p ∷ rest))) (sym a) (same_within out (p ∷ []) (tidied p ∷ []) rest (same_one p (tidied p) t.0 t.1)));
      order = subst (LieInOrder 0) (sym a) (order_one 0 out rest p (tidied p) t.0 (ap (λ (bs : List ℕ). length bs) t.1) g.order);
      apart = apart;
      tidy = All-push IsTidy out (tidied p) g.tidy t.2;
      pieces = let n = g.pieces in omega (arith, n, length-append out (tidied p ∷ []));
      stems = All-push (IsKeptOrOwn all) out (tidied p) g.stems (tidied_stems all p (nat_le p.allocation_size (length p.bytes * 6 / 5)) refl (All-head (IsAmong all) p rest g.left));
      left = All-tail (IsAmong all) p rest g.left;
    }

step_join : (all others rest : List PieceView) (last p : PieceView) → IsGathered all (others ++ last ∷ []) (p ∷ rest) → run_end last ≡ p.offset → IsGathered all (others ++ joined_with last p ∷ []) rest
step_join all others rest last p g e =
    let a = append_assoc others (last ∷ []) (p ∷ rest) in
    let b = append_assoc others (joined_with last p ∷ []) rest in
    let l = length-append last.bytes p.bytes in
    let n = next_begins 0 others rest last p (subst (LieInOrder 0) a g.order) in
    let stems = All-pop (IsKeptOrOwn all) (others ++ last ∷ []) others (Some last) refl g.stems in
    record {
      same = same_trans all ((others ++ last ∷ []) ++ (p ∷ rest)) ((others ++ joined_with last p ∷ []) ++ rest) g.same
          (subst (HoldSame ((others ++ last ∷ []) ++ (p ∷ rest))) (sym b) (subst (λ (ys : List PieceView). HoldSame ys (others ++ (joined_with last p ∷ rest))) (sym a) (same_within others (last ∷ (p ∷ [])) (joined_with last p ∷ []) rest (same_joined last p e))));
      order = subst (LieInOrder 0) (sym b) (order_joined 0 others rest last p e (subst (LieInOrder 0) a g.order));
      apart = gaps_joined 0 others last p g.apart;
      tidy = All-push IsTidy others (joined_with last p) (All-pop IsTidy (others ++ last ∷ []) others (Some last) refl g.tidy).0 (omega (arith, l));
      pieces = let n = g.pieces in omega (arith, n, length-append others (last ∷ []), length-append others (joined_with last p ∷ []));
      stems = All-push (IsKeptOrOwn all) others (joined_with last p) stems.0 (inr (omega (arith, l), grown all last (joined_with last p) refl (omega (arith, l, n.1)) stems.1));
      left = All-tail (IsAmong all) p rest g.left;
    }

step_apart : (all others rest : List PieceView) (last p : PieceView) → IsGathered all (others ++ last ∷ []) (p ∷ rest) → run_end last ≢ p.offset → IsGathered all ((others ++ last ∷ []) ++ tidied p ∷ []) rest
step_apart all others rest last p g ne =
    let t = tidied_is p in
    let n = next_begins 0 others rest last p (subst (LieInOrder 0) (append_assoc others (last ∷ []) (p ∷ rest)) g.order) in
    let l = ap (λ (bs : List ℕ). length bs) t.1 in
    step_put all (others ++ last ∷ []) rest p g (gaps_push 0 others last (tidied p) g.apart (omega (arith, n.0, t.0, ne)) (omega (arith, n.1, l)))

step_first : (all out rest : List PieceView) (p : PieceView) → IsGathered all out (p ∷ rest) → out ≡ [] → IsGathered all (out ++ tidied p ∷ []) rest
step_first all out rest p g e =
    let t = tidied_is p in
    let l = ap (λ (bs : List ℕ). length bs) t.1 in
    let h = order_behind 0 out (p ∷ rest) g.order in
    let some = h.1 in
    step_put all out rest p g (subst (λ (ys : List PieceView). LieWithGaps 0 (ys ++ tidied p ∷ [])) (sym e) (omega arith, omega (arith, l, some), tt))

pub gathered_step : (all out out' rest : List PieceView) (p : PieceView) → IsGathered all out (p ∷ rest) → JoinsLast out p out' → IsGathered all out' rest
gathered_step all out out' rest p g j =
    elim j.case [
      | inl none ↦ subst (λ (ys : List PieceView). IsGathered all ys rest) (ap (λ (ys : List PieceView). ys ++ tidied p ∷ []) none.0 ∙ sym none.1) (step_first all out rest p g none.0)
      | inr some ↦
          let h = subst (λ (ys : List PieceView). IsGathered all ys (p ∷ rest)) some.2 g in
          elim some.3 [
            | inl touch ↦ subst (λ (ys : List PieceView). IsGathered all ys rest) (sym touch.1) (step_join all some.0 rest some.1 p h touch.0)
            | inr gap ↦ subst (λ (ys : List PieceView). IsGathered all ys rest) (ap (λ (ys : List PieceView). ys ++ tidied p ∷ []) (sym some.2) ∙ sym gap.1) (step_apart all some.0 rest some.1 p h gap.0)
          ]
    ]

-- ---- what is held lies no lower

pub held_above : (low : ℕ) (xs : List PieceView) (at byte : ℕ) → LieInOrder low xs → Hold xs at byte → low ≤ at
held_above low [] at byte h any = absurd (Any-nil (RunHolds at byte) any)
held_above low (x ∷ xs) at byte h any =
    elim (Any-cons (RunHolds at byte) x xs any) [
      | inl here ↦ let a = h.0 in omega (arith, here.0, a)
      | inr there ↦ let i = held_above (run_end x) xs at byte h.2 there in let a = h.0 in omega (arith, i, a)
    ]

pub order_same : (low : ℕ) (xs ys : List PieceView) → LieInOrder low xs → HoldSame xs ys → LieInOrder 0 ys → LieInOrder low ys
order_same low xs [] h s o = tt
order_same low xs (y ∷ ys) h s o =
    let some = o.1 in
    let first : RunHolds y.offset (slice_index y.bytes (y.offset - y.offset)) y = (omega arith, omega (arith, some), refl) in
    (held_above low xs y.offset _ h (s.origin y.offset _ (Any-here (RunHolds y.offset (slice_index y.bytes (y.offset - y.offset))) y ys first)), o.1, o.2)

only_row : (es : List (ℕ × PieceView)) (rs : List PieceView) → es ≡ [] → values_of es ++ rs ≡ rs
only_row es rs e = ap (λ (xs : List (ℕ × PieceView)). values_of xs ++ rs) e

pub order_gathered_front : (low : ℕ) (es : List (ℕ × PieceView)) (all rest out row : List PieceView) → LieInOrder low (values_of es ++ all) → es ≡ [] → IsGathered all out rest → row ≡ out ++ rest → LieInOrder low (values_of es ++ row)
order_gathered_front low es all rest out row h e g f =
    subst (LieInOrder low) (sym f ∙ sym (only_row es row e)) (order_same low all (out ++ rest) (subst (LieInOrder low) (only_row es all e) h) g.same g.order)

kept_of_among : (all rest : List PieceView) → All (IsAmong all) rest → All (IsKeptOrOwn all) rest
kept_of_among all rest h = All-weaker (IsAmong all) (IsKeptOrOwn all) (λ r a. inl a) rest h

kept_at : (es : List (ℕ × PieceView)) (all row : List PieceView) → es ≡ [] → All (IsKeptOrOwn all) row → All (IsKeptOrOwn (values_of es ++ all)) (values_of es ++ row)
kept_at es all row e h = subst (λ (xs : List PieceView). All (IsKeptOrOwn xs) (values_of es ++ row)) (sym (only_row es all e)) (subst (All (IsKeptOrOwn all)) (sym (only_row es row e)) h)

pub kept_gathered_front : (es : List (ℕ × PieceView)) (all rest out row : List PieceView) → es ≡ [] → IsGathered all out rest → row ≡ out ++ rest → All (IsKeptOrOwn (values_of es ++ all)) (values_of es ++ row)
kept_gathered_front es all rest out row e g f =
    kept_at es all row e (subst (All (IsKeptOrOwn all)) (sym f) (All-append (IsKeptOrOwn all) out rest g.stems (kept_of_among all rest g.left)))

pub kept_all : (all : List PieceView) → All (IsKeptOrOwn all) all
kept_all all = kept_of_among all all (all_among [] all)
