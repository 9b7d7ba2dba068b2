-- Pieces that touch, one behind another, are joined to the one before them.
use Rattle.std.proofs.Common.{◌≡◌, ℕ, ◌+◌, ◌*◌, ◌/◌, ◌≤◌, ◌<◌, ◌⊎◌, refl, sym, ap, subst, ◌∙◌, inl, inr, List, [], ◌∷◌, ◌++◌, length, arith, append_assoc, Bool, true, false, cond, Option, Some, None}
use Rattle.std.specs.Prelude.{nat_le, ◌≢◌}
use Rattle.std.specs.Map.{values_of}
use Rattle.std.proofs.lemmas.Bool.{cases_eq, cases_lt}
use Rattle.std.proofs.lemmas.List.{append-nil, length-append}
use Rattle.quic_assembler.specs.Piece.{PieceView, run_end}
use Rattle.quic_ordered.specs.Entries.{piece_at, piece_of, IsPieceMap}
use Rattle.quic_ordered.specs.Rows.{RiseByKey, LieInOrder, tidied, joined_with}
use Rattle.quic_ordered.specs.Sweeping.{IsNextPiece, IsSwept, IsChain, chain_end, chain_bytes, grown, IsNextRun, IsRunJoined}
use Rattle.quic_ordered.proofs.Order.{piece_map_of}
use Rattle.quic_ordered.proofs.Placed.{same_map, none_of}
use Rattle.quic_ordered.proofs.Sweeping.{Steps, put_list, join_list, swept_base, swept_order, next_ends}

-- ---- chains

pub chain_le : (es : List (ℕ × PieceView)) (from : ℕ) (rs : List PieceView) → IsChain es from rs → from ≤ chain_end from rs
chain_le es from [] c = omega arith
chain_le es from (r ∷ rs) c = let i = chain_le es (run_end r) rs c.4 in let o = c.1 in omega arith

pub chain_len : (es : List (ℕ × PieceView)) (from : ℕ) (rs : List PieceView) → IsChain es from rs → from + length (chain_bytes rs) ≡ chain_end from rs
chain_len es from [] c = omega arith
chain_len es from (r ∷ rs) c = let i = chain_len es (run_end r) rs c.4 in let o = c.1 in let l = length-append r.bytes (chain_bytes rs) in omega arith

pub chain_none : (es : List (ℕ × PieceView)) (from : ℕ) (rs : List PieceView) → IsChain es from rs → chain_end from rs ≡ from → rs ≡ []
chain_none es from [] c e = refl
chain_none es from (r ∷ rs) c e = let i = chain_le es (run_end r) rs c.4 in let o = c.1 in let s = c.2 in absurd (omega arith)

pub chain_same : (es es' : List (ℕ × PieceView)) (from : ℕ) (rs : List PieceView) → ((q : ℕ) → from ≤ q → piece_at es' q ≡ piece_at es q) → IsChain es from rs → IsChain es' from rs
chain_same es es' from [] same c = tt
chain_same es es' from (r ∷ rs) same c =
    let o = c.1 in (
      same from (omega arith) ∙ c.0,
      c.1,
      c.2,
      λ q lt to. same q (omega arith) ∙ c.3 q lt to,
      chain_same es es' (run_end r) rs (λ q le. same q (omega arith)) c.4,
    )

-- the first piece of a chain
pub record ChainHead (es : List (ℕ × PieceView)) (from end : ℕ) : Type 0 where
  pub first : PieceView
  pub rest : List PieceView
  pub found : piece_at es from ≡ Some first
  pub offset : first.offset ≡ from
  pub some : 0 < length first.bytes
  pub dense : (q : ℕ) → from < q → q < run_end first → piece_at es q ≡ None
  pub chain : IsChain es (run_end first) rest
  pub ends : end ≡ chain_end (run_end first) rest

pub chain_head : (es : List (ℕ × PieceView)) (from end : ℕ) (rs : List PieceView) → IsChain es from rs → end ≡ chain_end from rs → from < end → ChainHead es from end
chain_head es from end [] c e lt = absurd (omega arith)
chain_head es from end (r ∷ rs) c e lt = record { first = r; rest = rs; found = c.0; offset = c.1; some = c.2; dense = c.3; chain = c.4; ends = e }

-- a chain and one more
pub chain_more : (es : List (ℕ × PieceView)) (from : ℕ) (rs : List PieceView) (r : PieceView) → IsPieceMap es → IsChain es from rs → piece_at es (chain_end from rs) ≡ Some r → IsChain es from (rs ++ r ∷ []) × (chain_end from (rs ++ r ∷ []) ≡ run_end r) × (chain_bytes (rs ++ r ∷ []) ≡ chain_bytes rs ++ r.bytes)
chain_more es from [] r m c found =
    ((found, m.key from r found, m.some from r found, λ q lt to. none_of (piece_at es q) (λ v at. let a = m.apart from q r v found at lt in omega arith), tt), refl, append-nil r.bytes)
chain_more es from (s ∷ rs) r m c found =
    let i = chain_more es (run_end s) rs r m c.4 found in
    ((c.0, c.1, c.2, c.3, i.0), i.1, ap (λ (bs : List ℕ). s.bytes ++ bs) i.2 ∙ sym (append_assoc s.bytes (chain_bytes rs) r.bytes))

-- ---- a piece grows by each

grow : PieceView → List PieceView → PieceView
grow v [] = v
grow v (r ∷ rs) = grow (joined_with v r) rs

grow_is : (v r : PieceView) (rs : List PieceView) → grow v (r ∷ rs) ≡ joined_with v (piece_of 0 (chain_bytes (r ∷ rs)) 0)
unfolding grow
grow_is v r [] = ap (λ (bs : List ℕ). joined_with v (piece_of 0 bs 0)) (sym (append-nil r.bytes))
grow_is v r (s ∷ rs) =
    let bs = chain_bytes (s ∷ rs) in
    let l : length (v.bytes ++ r.bytes) + length bs ≡ length v.bytes + length (r.bytes ++ bs) = let a = length-append v.bytes r.bytes in let b = length-append r.bytes bs in omega arith in
    grow_is (joined_with v r) s rs
    ∙ (ap (λ (xs : List ℕ). record v { bytes = xs; allocation_size = length (v.bytes ++ r.bytes) + length bs }) (append_assoc v.bytes r.bytes bs)
    ∙ ap (λ (n : ℕ). record v { bytes = v.bytes ++ (r.bytes ++ bs); allocation_size = n }) l)

-- a piece that is copied first grows to the same
tidied_joined : (v r : PieceView) → joined_with (tidied v) r ≡ joined_with v r
tidied_joined v r = by_case (nat_le v.allocation_size (length v.bytes * 6 / 5))
  where
    by_case : (b : Bool) → joined_with (cond b v (record v { allocation_size = length v.bytes })) r ≡ joined_with v r
    by_case true = refl
    by_case false = refl

grown_is : (v : PieceView) (rs : List PieceView) → grow (tidied v) rs ≡ grown v rs
unfolding grow
grown_is v [] = refl
grown_is v (r ∷ rs) = ap (λ (p : PieceView). grow p rs) (tidied_joined v r) ∙ grow_is v r rs

-- ---- a chain behind the last piece that is done

record ChainDone (all : List PieceView) (base end : ℕ) (es : List (ℕ × PieceView)) (v : PieceView) (rs : List PieceView) : Type 0 where
  steps : Steps all base (chain_end end rs)
  here : piece_at steps.map base ≡ Some (grow v rs)
  gone : (q : ℕ) → end ≤ q → q < chain_end end rs → piece_at steps.map q ≡ None
  others : (q : ℕ) → (q ≡ base → ⊥) → (q < end) ⊎ (chain_end end rs ≤ q) → piece_at steps.map q ≡ piece_at es q

-- one piece was joined, and then the others of the chain
done_more : (all : List PieceView) (base end : ℕ) (es : List (ℕ × PieceView)) (v r : PieceView) (rs : List PieceView) (map : List (ℕ × PieceView)) → base < end → end < run_end r → run_end r ≤ chain_end (run_end r) rs
    → ((q : ℕ) → end < q → q < run_end r → piece_at es q ≡ None) → piece_at map end ≡ None → ((q : ℕ) → (q ≡ base → ⊥) → (q ≡ end → ⊥) → piece_at map q ≡ piece_at es q)
    → ChainDone all base (run_end r) map (joined_with v r) rs → ChainDone all base end es v (r ∷ rs)
unfolding grow
done_more all base end es v r rs map below some le dense none same d = record {
  steps = d.steps;
  here = d.here;
  gone = λ q from to. elim (cases_lt q (run_end r)) [
    | inl lt ↦ d.others q (λ e. omega arith) (inl lt) ∙ absent q from lt
    | inr ge ↦ d.gone q ge to
  ];
  others = λ q ne out. elim out [
    | inl lt ↦ d.others q ne (inl (omega arith)) ∙ same q ne (λ e. omega arith)
    | inr ge ↦ d.others q ne (inr ge) ∙ same q ne (λ e. omega arith)
  ];
}
  where
    absent : (q : ℕ) → end ≤ q → q < run_end r → piece_at map q ≡ None
    absent q from lt = elim (cases_eq q end) [
      | inl e ↦ ap (piece_at map) e ∙ none
      | inr ne ↦ same q (λ e. omega arith) ne ∙ dense q (omega (arith, ne)) lt
    ]

chain_done : (all : List PieceView) (base end : ℕ) (es : List (ℕ × PieceView)) (rs : List PieceView) → IsSwept all (Some base) end es → RiseByKey es → IsChain es end rs → (v : PieceView) → piece_at es base ≡ Some v → ChainDone all base end es v rs
unfolding grow
chain_done all base end es [] s rises c v found = record {
  steps = record { map = es; swept = s; rises = rises };
  here = found;
  gone = λ q le lt. absurd (omega arith);
  others = λ q ne out. refl;
}
chain_done all base end es (r ∷ rs) s rises c v found =
    let b = swept_base all base end es s in
    let o = c.1 in
    let some = c.2 in
    let below : base < end = let x = b.2 in let y = b.3 in let z = b.4 in omega arith in
    let n : IsNextPiece es end (run_end r) (nat_le r.allocation_size (length r.bytes * 6 / 5)) end = record { run = r; found = c.0; from = omega arith; first = λ q le lt. absurd (omega arith); ends = refl; is_little = refl } in
    let j = join_list all base end es end (run_end r) (nat_le r.allocation_size (length r.bytes * 6 / 5)) s n refl in
    let chain = chain_same es j.0.map (run_end r) rs (λ q le. j.3 q (λ e. omega arith) (λ e. omega arith)) c.4 in
    done_more all base end es v r rs j.0.map below (omega arith) (chain_le es (run_end r) rs c.4) c.3 j.2 j.3 (chain_done all base (run_end r) j.0.map rs j.0.swept j.0.rises chain (joined_with v r) (j.1 v found))

-- the map in which the pieces of a chain were joined to the last one is that one
is_done : (all : List PieceView) (base end : ℕ) (es es' : List (ℕ × PieceView)) (v w : PieceView) (rs : List PieceView) (d : ChainDone all base end es v rs) → RiseByKey es' → grow v rs ≡ w
    → piece_at es' base ≡ Some w → ((q : ℕ) → end ≤ q → q < chain_end end rs → piece_at es' q ≡ None) → ((q : ℕ) → (q ≡ base → ⊥) → (q < end) ⊎ (chain_end end rs ≤ q) → piece_at es' q ≡ piece_at es q) → base < end
    → IsSwept all (Some base) (chain_end end rs) es'
is_done all base end es es' v w rs d rises is here gone others below =
    let map = d.steps.map in
    let same : es' ≡ map = same_map es' map rises d.steps.rises (λ q.
    elim (cases_eq q base) [
      | inl e ↦ ap (piece_at es') e ∙ (here ∙ (ap (λ (p : PieceView). Some p) (sym is) ∙ (sym d.here ∙ ap (piece_at map) (sym e))))
      | inr ne ↦ elim (cases_lt q end) [
        | inl lt ↦ others q ne (inl lt) ∙ sym (d.others q ne (inl lt))
        | inr ge ↦ elim (cases_lt q (chain_end end rs)) [
          | inl lt ↦ gone q ge lt ∙ sym (d.gone q ge lt)
          | inr out ↦ others q ne (inr out) ∙ sym (d.others q ne (inr out))
        ]
      ]
    ]) in
    subst (IsSwept all (Some base) (chain_end end rs)) (sym same) d.steps.swept

-- ---- what a step of a compaction makes

pub swept_map : (all : List PieceView) (last : Option ℕ) (end : ℕ) (es : List (ℕ × PieceView)) → IsSwept all last end es → IsPieceMap es
swept_map all last end es s =
    piece_map_of es [] 0 s.keyed (subst (LieInOrder 0) (sym (append-nil (values_of es))) (subst (λ (xs : List (ℕ × PieceView)). LieInOrder 0 (values_of xs)) (sym s.is) (swept_order all last end es s)))

pub swept_last : (all : List PieceView) (base end : ℕ) (es es' : List (ℕ × PieceView)) (rs : List PieceView) → IsSwept all (Some base) end es → RiseByKey es → RiseByKey es' → IsChain es end rs → end < chain_end end rs → IsRunJoined es base end rs es' → IsSwept all (Some base) (chain_end end rs) es'
swept_last all base end es es' [] s rises rises' c some j = absurd (omega (arith, some))
swept_last all base end es es' (r ∷ rs) s rises rises' c some j =
    let b = swept_base all base end es s in
    let x = b.2 in
    let y = b.3 in
    let z = b.4 in
    is_done all base end es es' b.0 (grown b.0 (r ∷ rs)) (r ∷ rs) (chain_done all base end es (r ∷ rs) s rises c b.0 b.1) rises' (grow_is b.0 r rs) (j.here b.0 b.1) j.gone j.others (omega arith)

pub swept_next : (all : List PieceView) (last : Option ℕ) (end : ℕ) (es es' : List (ℕ × PieceView)) (start stop : ℕ) (little : Bool) (rs : List PieceView) → IsSwept all last end es → IsNextPiece es start stop little end → (last ≡ None) ⊎ (end ≢ start) → RiseByKey es' → IsChain es stop rs → IsRunJoined es start stop rs es' → IsSwept all (Some start) (chain_end stop rs) es'
swept_next all last end es es' start stop little rs s n apart rises' c j =
    let p = put_list all last end es start stop little s n apart in
    let e = next_ends all last end es start stop little s n in
    let lt = e.1 in
    let chain = chain_same es p.0.map stop rs (λ q le. p.2 q (λ same. omega arith)) c in
    let d = chain_done all start stop p.0.map rs p.0.swept p.0.rises chain (tidied n.run) p.1 in
    is_done all start stop p.0.map es' (tidied n.run) (grown n.run rs) rs d rises' (grown_is n.run rs) (j.here n.run n.found) j.gone (λ q ne out. j.others q ne out ∙ sym (p.2 q ne)) lt

-- the piece to which others are joined
pub run_base : (all : List PieceView) (last : Option ℕ) (end : ℕ) (es : List (ℕ × PieceView)) (base from stop : ℕ) (bytes : List ℕ) → IsSwept all last end es → IsNextRun es last end base from stop bytes → (v : PieceView) × (piece_at es base ≡ Some v) × (run_end v ≡ from)
run_base all last end es base from stop bytes s r = elim r.case [
  | inl t ↦ let b = swept_base all base end es (subst (λ (l : Option ℕ). IsSwept all l end es) t.0 s) in (b.0, b.1, sym b.3 ∙ sym t.2)
  | inr n ↦ (r.next.run, ap (piece_at es) n.0 ∙ r.next.found, sym r.next.ends ∙ sym n.1)
]

-- it goes on
pub run_on : (all : List PieceView) (last : Option ℕ) (end : ℕ) (es : List (ℕ × PieceView)) (base from stop : ℕ) (bytes : List ℕ) → IsSwept all last end es → IsNextRun es last end base from stop bytes → end < stop
run_on all last end es base from stop bytes s r =
    let e = next_ends all last end es r.start r.first_end r.little s r.next in
    let on = r.on in
    omega (arith, e.0, e.1, on)

-- one step of a compaction
pub run_done : (all : List PieceView) (last : Option ℕ) (end : ℕ) (es es' : List (ℕ × PieceView)) (base from stop : ℕ) (bytes : List ℕ) (rs : List PieceView) → IsSwept all last end es → IsNextRun es last end base from stop bytes → RiseByKey es → RiseByKey es' → IsChain es from rs → stop ≡ chain_end from rs → IsRunJoined es base from rs es' → IsSwept all (Some base) stop es'
run_done all last end es es' base from stop bytes rs s r rises rises' c ends j = elim r.case [
  | inl t ↦
      let on = run_on all last end es base from stop bytes s r in
      let c' : IsChain es end rs = subst (λ (n : ℕ). IsChain es n rs) t.2 c in
      let ends' : stop ≡ chain_end end rs = ends ∙ ap (λ (n : ℕ). chain_end n rs) t.2 in
      let some : end < chain_end end rs = omega (arith, on, ends') in
      let j' : IsRunJoined es base end rs es' = subst (λ (n : ℕ). IsRunJoined es base n rs es') t.2 j in
      subst (λ (n : ℕ). IsSwept all (Some base) n es') (sym ends') (swept_last all base end es es' rs (subst (λ (l : Option ℕ). IsSwept all l end es) t.0 s) rises rises' c' some j')
  | inr n ↦
      let c' : IsChain es r.first_end rs = subst (λ (m : ℕ). IsChain es m rs) n.1 c in
      let ends' : stop ≡ chain_end r.first_end rs = ends ∙ ap (λ (m : ℕ). chain_end m rs) n.1 in
      let j' : IsRunJoined es r.start r.first_end rs es' = subst (λ (m : ℕ). IsRunJoined es r.start m rs es') n.1 (subst (λ (b : ℕ). IsRunJoined es b from rs es') n.0 j) in
      subst (λ (b : ℕ). IsSwept all (Some b) stop es') (sym n.0) (subst (λ (m : ℕ). IsSwept all (Some r.start) m es') (sym ends') (swept_next all last end es es' r.start r.first_end r.little rs s r.next n.2 rises' c' j'))
]
