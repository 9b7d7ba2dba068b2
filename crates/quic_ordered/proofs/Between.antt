-- A piece that is put between others.
use Rattle.std.proofs.Common.{inl, inr, ◌≡◌, ◌⊎◌, ℕ, ◌+◌, ◌-◌, ◌≤◌, ◌<◌, refl, sym, ap, subst, ◌∙◌, List, [], ◌∷◌, ◌++◌, length, take, drop, zero, suc, arith, append_assoc, take-append-drop}
use Rattle.std.specs.Prelude.{slice_index_or}
use Rattle.std.specs.List.{All, Any}
use Rattle.std.proofs.lemmas.List.{length-append}
use Rattle.std.proofs.lemmas.List.Elements.{All-nil, All-cons, All-head, All-tail, All-append, All-weaker}
use Rattle.quic_assembler.specs.Piece.{PieceView, run_end}
use Rattle.quic_assembler.proofs.Counts.{Any-here, Any-there, Any-cons, Any-nil}
use Rattle.quic_ordered.specs.Rows.{LieInOrder, Merges, IsAmong, StemsFrom, StaysApart, LiesApart, Encloses, JoinsAll}
use Rattle.quic_ordered.proofs.Joined.{apart_row}
use Rattle.quic_ordered.proofs.Places.{at_low, any_behind}
use Rattle.quic_ordered.proofs.Stores.{stems_all, stay_of_among, all_among}

-- ---- a place in a row

pub ends_before : (low : ℕ) (rs : List PieceView) (m n : ℕ) (r : PieceView) → LieInOrder low rs → m < length rs → r ≡ slice_index_or rs m r → run_end r ≤ n → All (λ (r : PieceView). run_end r ≤ n) (take (suc m) rs)
ends_before low [] m n r h lt e le = absurd (omega arith)
ends_before low (x ∷ xs) zero n r h lt e le = All-cons (λ (r : PieceView). run_end r ≤ n) x [] (rw (← e) le) (All-nil (λ (r : PieceView). run_end r ≤ n))
ends_before low (x ∷ xs) (suc m) n r h lt e le =
    let first : run_end x ≤ r.offset = let a = at_low (run_end x) xs m r h.2 (omega arith) in let f = ap (λ (s : PieceView). s.offset) e in omega (arith, a, f) in
    All-cons (λ (r : PieceView). run_end r ≤ n) x (take (suc m) xs) (omega (arith, first, le)) (ends_before (run_end x) xs m n r h.2 (omega arith) e le)

-- all up to a place end by an offset, where the last of them does
pub ends_to : (rs : List PieceView) (n offset : ℕ) (r : PieceView) → LieInOrder 0 rs → 0 < n → n ≤ length rs → r ≡ slice_index_or rs (n - 1) r → run_end r ≤ offset → All (λ (r : PieceView). run_end r ≤ offset) (take n rs)
ends_to rs n offset r h some fits e le =
    let f : suc (n - 1) ≡ n = omega arith in
    subst (λ (k : ℕ). All (λ (r : PieceView). run_end r ≤ offset) (take k rs)) f (ends_before 0 rs (n - 1) offset r h (omega arith) e le)

pub none_to : (rs : List PieceView) (n offset : ℕ) → n ≡ 0 → All (λ (r : PieceView). run_end r ≤ offset) (take n rs)
none_to rs n offset e = subst (λ (k : ℕ). All (λ (r : PieceView). run_end r ≤ offset) (take k rs)) (sym e) (All-nil (λ (r : PieceView). run_end r ≤ offset))

pub begin_behind : (low : ℕ) (rs : List PieceView) (n end : ℕ) (r : PieceView) → LieInOrder low rs → r ≡ slice_index_or rs n r → end ≤ r.offset → LieInOrder end (drop n rs)
begin_behind low [] zero end r h e le = tt
begin_behind low [] (suc n) end r h e le = tt
begin_behind low (x ∷ xs) zero end r h e le = (let f = ap (λ (s : PieceView). s.offset) e in omega (arith, f, le), h.1, h.2)
begin_behind low (x ∷ xs) (suc n) end r h e le = begin_behind (run_end x) xs n end r h.2 e le

pub none_behind : (rs : List PieceView) (n end : ℕ) → length rs ≤ n → LieInOrder end (drop n rs)
none_behind [] zero end le = tt
none_behind [] (suc n) end le = tt
none_behind (x ∷ xs) zero end le = absurd (omega arith)
none_behind (x ∷ xs) (suc n) end le = none_behind xs n end (omega arith)

-- ---- lists between which a piece is put

any_between : (P : PieceView → Type 0) (fs bs : List PieceView) (p : PieceView) → Any P (fs ++ bs) → Any P (fs ++ p ∷ bs)
any_between P [] bs p h = Any-there P p bs h
any_between P (a ∷ fs) bs p h =
    elim (Any-cons P a (fs ++ bs) h) [
      | inl here ↦ Any-here P a (fs ++ p ∷ bs) here
      | inr there ↦ Any-there P a (fs ++ p ∷ bs) (any_between P fs bs p there)
    ]

any_without : (P : PieceView → Type 0) (fs bs : List PieceView) (p : PieceView) → Any P (fs ++ p ∷ bs) → Any P (fs ++ bs) ⊎ P p
any_without P [] bs p h = elim (Any-cons P p bs h) [ inl here ↦ inr here | inr there ↦ inl there ]
any_without P (a ∷ fs) bs p h =
    elim (Any-cons P a (fs ++ p ∷ bs) h) [
      | inl here ↦ inl (Any-here P a (fs ++ bs) here)
      | inr there ↦ elim (any_without P fs bs p there) [ inl other ↦ inl (Any-there P a (fs ++ bs) other) | inr mine ↦ inr mine ]
    ]

all_between : (P : PieceView → Type 0) (fs bs : List PieceView) (p : PieceView) → All P (fs ++ bs) → P p → All P (fs ++ p ∷ bs)
all_between P [] bs p h mine = All-cons P p bs mine h
all_between P (a ∷ fs) bs p h mine = All-cons P a (fs ++ p ∷ bs) (All-head P a (fs ++ bs) h) (all_between P fs bs p (All-tail P a (fs ++ bs) h) mine)

all_without : (P : PieceView → Type 0) (fs bs : List PieceView) (p : PieceView) → All P (fs ++ p ∷ bs) → All P (fs ++ bs)
all_without P [] bs p h = All-tail P p bs h
all_without P (a ∷ fs) bs p h = All-cons P a (fs ++ bs) (All-head P a (fs ++ p ∷ bs) h) (all_without P fs bs p (All-tail P a (fs ++ p ∷ bs) h))

order_between : (low : ℕ) (fs bs : List PieceView) (p : PieceView) → LieInOrder low (fs ++ bs) → All (λ (r : PieceView). run_end r ≤ p.offset) fs → low ≤ p.offset → 0 < length p.bytes → LieInOrder (run_end p) bs → LieInOrder low (fs ++ p ∷ bs)
order_between low [] bs p h ends le some rest = (le, some, rest)
order_between low (a ∷ fs) bs p h ends le some rest =
    (h.0, h.1, order_between (run_end a) fs bs p h.2 (All-tail (λ (r : PieceView). run_end r ≤ p.offset) a fs ends) (All-head (λ (r : PieceView). run_end r ≤ p.offset) a fs ends) some rest)

apart_between : (fs bs : List PieceView) (p : PieceView) → All (λ (r : PieceView). run_end r ≤ p.offset) fs → LieInOrder (run_end p) bs → All (LiesApart p) (fs ++ bs)
apart_between fs bs p ends rest = All-append (LiesApart p) fs bs (All-weaker (λ (r : PieceView). run_end r ≤ p.offset) (LiesApart p) (λ r a. inl a) fs ends) (apart_row (run_end p) bs p (omega arith) rest)

none_has : (rs : List PieceView) (p : PieceView) → 0 < length p.bytes → All (LiesApart p) rs → Any (Encloses p.offset (run_end p)) rs → ⊥
none_has [] p some apart h = Any-nil (Encloses p.offset (run_end p)) h
none_has (r ∷ rs) p some apart h =
    elim (Any-cons (Encloses p.offset (run_end p)) r rs h) [
      | inl here ↦ elim (All-head (LiesApart p) r rs apart) [ inl before ↦ omega (arith, here.0, here.1, before) | inr behind ↦ omega (arith, here.0, here.1, behind) ]
      | inr there ↦ none_has rs p some (All-tail (LiesApart p) r rs apart) there
    ]

-- what is known of a piece that was put between others
pub record IsPut (vs rs rs' : List PieceView) (p : PieceView) : Type 0 where
  pub order : (low : ℕ) → low ≤ p.offset → LieInOrder low (vs ++ rs) → LieInOrder low (vs ++ rs')
  pub merges : Merges (vs ++ rs) p (vs ++ rs')
  pub stems : All (StemsFrom (vs ++ rs) p) (vs ++ rs')
  pub joins : JoinsAll (vs ++ rs) p (vs ++ rs')
  pub stay : All (StaysApart p.offset (run_end p) (vs ++ rs')) (vs ++ rs)
  pub none : Any (Encloses p.offset (run_end p)) (vs ++ rs) → ⊥
  pub pieces : length (vs ++ rs') ≤ length (vs ++ rs) + 1

put_between : (fs bs : List PieceView) (p : PieceView) → All (λ (r : PieceView). run_end r ≤ p.offset) fs → LieInOrder (run_end p) bs → 0 < length p.bytes → IsPut fs bs (p ∷ bs) p
put_between fs bs p ends rest some =
    let apart = apart_between fs bs p ends rest in
    record {
      order = λ low le h. order_between low fs bs p h ends le some rest;
      merges = record {
        keeps = λ at byte h. any_between _ fs bs p h;
        gains = λ at byte h none. any_behind _ fs (p ∷ bs) (Any-here _ p bs h);
        origin = λ at byte h. any_without _ fs bs p h;
      };
      stems = all_between (StemsFrom (fs ++ bs) p) fs bs p (stems_all (fs ++ bs) p) (inr (inl refl));
      joins = inl (apart, any_behind (λ (s : PieceView). s ≡ p) fs (p ∷ bs) (Any-here (λ (s : PieceView). s ≡ p) p bs refl));
      stay = stay_of_among p.offset (run_end p) (fs ++ p ∷ bs) (fs ++ bs) (all_without (IsAmong (fs ++ p ∷ bs)) fs bs p (all_among [] (fs ++ p ∷ bs)));
      none = none_has (fs ++ bs) p some apart;
      pieces = simp length-append (omega arith);
    }

pub is_put : (vs rs rs' : List PieceView) (n : ℕ) (p : PieceView) → All (λ (r : PieceView). run_end r ≤ p.offset) (vs ++ take n rs) → LieInOrder (run_end p) (drop n rs) → 0 < length p.bytes → rs' ≡ take n rs ++ p ∷ drop n rs → IsPut vs rs rs' p
is_put vs rs rs' n p ends rest some is =
    let h = put_between (vs ++ take n rs) (drop n rs) p ends rest some in
    let old : (vs ++ take n rs) ++ drop n rs ≡ vs ++ rs = append_assoc vs (take n rs) (drop n rs) ∙ ap (λ (xs : List PieceView). vs ++ xs) (take-append-drop n rs) in
    let new : (vs ++ take n rs) ++ p ∷ drop n rs ≡ vs ++ rs' = append_assoc vs (take n rs) (p ∷ drop n rs) ∙ ap (λ (xs : List PieceView). vs ++ xs) (sym is) in
    record {
      order = λ low le q. subst (LieInOrder low) new (h.order low le (subst (LieInOrder low) (sym old) q));
      merges = subst (λ (xs : List PieceView). Merges xs p (vs ++ rs')) old (subst (Merges ((vs ++ take n rs) ++ drop n rs) p) new h.merges);
      stems = subst (λ (xs : List PieceView). All (StemsFrom xs p) (vs ++ rs')) old (subst (All (StemsFrom ((vs ++ take n rs) ++ drop n rs) p)) new h.stems);
      joins = subst (λ (xs : List PieceView). JoinsAll xs p (vs ++ rs')) old (subst (JoinsAll ((vs ++ take n rs) ++ drop n rs) p) new h.joins);
      stay = subst (All (StaysApart p.offset (run_end p) (vs ++ rs'))) old (subst (λ (xs : List PieceView). All (StaysApart p.offset (run_end p) xs) ((vs ++ take n rs) ++ drop n rs)) new h.stay);
      none = λ any. h.none (subst (Any (Encloses p.offset (run_end p))) (sym old) any);
      pieces = let a = ap (λ (xs : List PieceView). length xs) old in let b = ap (λ (xs : List PieceView). length xs) new in omega (arith, h.pieces, a, b);
    }

-- where a piece can be put none encloses it
pub none_encloses_place : (vs rs : List PieceView) (n : ℕ) (p : PieceView) → All (λ (r : PieceView). run_end r ≤ p.offset) (vs ++ take n rs) → LieInOrder (run_end p) (drop n rs) → 0 < length p.bytes → Any (Encloses p.offset (run_end p)) (vs ++ rs) → ⊥
none_encloses_place vs rs n p ends rest some any = (is_put vs rs (take n rs ++ p ∷ drop n rs) n p ends rest some refl).none any
