-- The last place of a map, and the first.
use Rattle.std.proofs.Common.{◌≡◌, ℕ, ◌<◌, refl, sym, ap, ◌∙◌, List, [], ◌∷◌, ◌++◌, arith, Bool, cond, Option, Some, None}
use Rattle.std.specs.Prelude.{Result, Ok, Err, OnOk}
use Rattle.std.specs.List.{All}
use Rattle.std.specs.Map.{keys_of}
use Rattle.std.specs.BTreeMap.{insert_entry}
use Rattle.std.specs.Ordering.{nat_cmp, match_ordering}
use Rattle.std.specs.Cmp.{nat_cmp_is}
use Rattle.std.specs.declared.cmp.Ordering.{Ordering}
use Rattle.std.specs.declared.cmp.Ordering.TheVariants.{Less, Greater}
use Rattle.std.proofs.lemmas.List.Elements.{All-head, All-tail}
use Rattle.quic_assembler.specs.Piece.{PieceView}
use Rattle.quic_ordered.specs.Entries.{piece_at}
use Rattle.quic_ordered.proofs.Held.{is_at-apart}
use Rattle.quic_ordered.proofs.Order.{at_head}

pub greater : (a b : ℕ) → b < a → nat_cmp a b ≡ Greater
greater a b lt = sym (nat_cmp_is a b Greater lt)

pub less : (a b : ℕ) → a < b → nat_cmp a b ≡ Less
less a b lt = sym (nat_cmp_is a b Less lt)

pub insert_last : {V : Type 0} (es : List (ℕ × V)) (k : ℕ) (v : V) → All (λ (key : ℕ). key < k) (keys_of es) → insert_entry nat_cmp es k v ≡ es ++ (k, v) ∷ []
insert_last [] k v below = refl
insert_last (e ∷ es) k v below =
    let lt = All-head (λ (key : ℕ). key < k) e.0 (keys_of es) below in
    let i = insert_last es k v (All-tail (λ (key : ℕ). key < k) e.0 (keys_of es) below) in
    ap (λ (o : Ordering). match_ordering o ((k, v) ∷ (e ∷ es)) ((e.0, v) ∷ es) (e ∷ insert_entry nat_cmp es k v)) (greater k e.0 lt) ∙ ap (λ xs. e ∷ xs) i

pub absent_last : (es : List (ℕ × PieceView)) (k : ℕ) → All (λ (key : ℕ). key < k) (keys_of es) → piece_at es k ≡ None
absent_last [] k below = refl
absent_last (e ∷ es) k below =
    let lt = All-head (λ (key : ℕ). key < k) e.0 (keys_of es) below in
    let i = absent_last es k (All-tail (λ (key : ℕ). key < k) e.0 (keys_of es) below) in
    ap (λ (b : Bool). cond b (Some e.1) (piece_at es k)) (is_at-apart k e.0 (λ same. omega arith)) ∙ i

pub insert_first : (es : List (ℕ × PieceView)) (k : ℕ) (v : PieceView) → ((q : ℕ) (w : PieceView) → piece_at es q ≡ Some w → k < q) → insert_entry nat_cmp es k v ≡ (k, v) ∷ es
insert_first [] k v above = refl
insert_first (e ∷ es) k v above =
    ap (λ (o : Ordering). match_ordering o ((k, v) ∷ (e ∷ es)) ((e.0, v) ∷ es) (e ∷ insert_entry nat_cmp es k v)) (less k e.0 (above e.0 e.1 (at_head e es)))

absent_by : (o : Option PieceView) (k : ℕ) → ((v : PieceView) → o ≡ Some v → k < k) → o ≡ None
absent_by None k h = refl
absent_by (Some v) k h = absurd (omega (arith, h v refl))

pub absent_first : (es : List (ℕ × PieceView)) (k : ℕ) → ((q : ℕ) (v : PieceView) → piece_at es q ≡ Some v → k < q) → piece_at es k ≡ None
absent_first es k above = absent_by (piece_at es k) k (λ v found. above k v found)

pub on_ok : {T E A B : Type 0} (r : Result T E) → OnOk r A → (A → B) → OnOk r B
on_ok (Ok x) h f = f h
on_ok (Err e) h f = tt
