-- What a read gives of the piece that is being read, or of the one that comes first behind none.
use Rattle.std.proofs.Common.{◌≡◌, ℕ, ◌+◌, ◌≤◌, refl, sym, ap, subst, ◌∙◌, List, ◌∷◌, ◌++◌, length, take, arith, Bool, true, false}
use Rattle.std.specs.Prelude.{Option, Some, None, option_to_list, is_some, Result, Ok, Err, OnErr}
use Rattle.std.specs.List.{All}
use Rattle.quic_assembler.specs.Piece.{PieceView, left_of, TakesSome}
use Rattle.quic_assembler.specs.Reassembly.{IfGiven, OnNothing}
use Rattle.quic_assembler.specs.declared.chunk.Chunk.{Chunk}
use Rattle.quic_ordered.specs.Rows.{LieInOrder, FitsWords, GivesFirst, IsFronted}
use Rattle.quic_ordered.proofs.Order.{lower}
use Rattle.quic_ordered.proofs.Assembling.{order_given}
use Rattle.quic_ordered.proofs.Fronts.{rest_order}
use Rattle.quic_ordered.proofs.Taking.{takes_given, gives_whole}

-- what was given of the piece that is being read, and what is left of it
abbrev pub GivesOf : Option PieceView → Option PieceView → ℕ → Chunk → Type 0
GivesOf first first' most chunk = (p : PieceView) × (first ≡ Some p) × (chunk.offset ≡ p.offset) × (chunk.bytes ≡ take most p.bytes) × (option_to_list first' ≡ left_of most p)

gives_front : (first first' : Option PieceView) (rs : List PieceView) (most : ℕ) (chunk : Chunk) → GivesOf first first' most chunk → GivesFirst most (option_to_list first ++ rs) chunk.offset chunk.bytes (option_to_list first' ++ rs)
gives_front first first' rs most chunk g = record {
  first = g.0;
  rest = rs;
  is = ap (λ (o : Option PieceView). option_to_list o ++ rs) g.1;
  at = g.2;
  given = g.3;
  left = ap (λ (xs : List PieceView). xs ++ rs) g.4;
}

pub given_takes : {E : Type 0} (r : Result (Option Chunk) E) (first first' : Option PieceView) (rs xs : List PieceView) (most : ℕ) → xs ≡ option_to_list first ++ rs → LieInOrder 0 xs → All FitsWords xs → IfGiven r (GivesOf first first' most) → IfGiven r (λ chunk. TakesSome chunk.offset most chunk.bytes xs (option_to_list first' ++ rs))
given_takes (Ok (Some chunk)) first first' rs xs most e h fits g = takes_given most chunk.offset chunk.bytes xs (option_to_list first' ++ rs) h fits (subst (λ (ys : List PieceView). GivesFirst most ys chunk.offset chunk.bytes (option_to_list first' ++ rs)) (sym e) (gives_front first first' rs most chunk g))
given_takes (Ok None) first first' rs xs most e h fits g = tt
given_takes (Err e) first first' rs xs most is h fits g = tt

-- each outcome leaves the pieces in order
pub given_fronted : {E : Type 0} (r : Result (Option Chunk) E) (first first' : Option PieceView) (rs : List PieceView) (most : ℕ) → IsFronted first rs → IfGiven r (GivesOf first first' most) → OnNothing r ((first ≡ None) × (first' ≡ None)) → OnErr r (first' ≡ first) → IsFronted first' rs
given_fronted (Ok (Some chunk)) first first' rs most h g none err =
    let k = gives_front first first' rs most chunk g in
    lower 0 (chunk.offset + length chunk.bytes) (option_to_list first' ++ rs) (omega arith) (order_given most 0 chunk.offset chunk.bytes (option_to_list first ++ rs) (option_to_list first' ++ rs) h k)
given_fronted (Ok None) first first' rs most h g none err = subst (λ (o : Option PieceView). IsFronted o rs) (none.0 ∙ sym none.1) h
given_fronted (Err e) first first' rs most h g none err = subst (λ (o : Option PieceView). IsFronted o rs) (sym err) h

-- ---- where no piece is being read

pub none_read : (first : Option PieceView) (b : Bool) → b ≡ is_some first → b ≡ false → first ≡ None
none_read None b e f = refl
none_read (Some p) b e f = let g : true ≡ false = sym e ∙ f in cc

pub popped_fronted : (first : Option PieceView) (rs rs' : List PieceView) (p : PieceView) → first ≡ None → rs ≡ p ∷ rs' → IsFronted first rs → IsFronted first rs'
popped_fronted first rs rs' p none e h =
    let k : LieInOrder 0 rs = subst (λ (o : Option PieceView). LieInOrder 0 (option_to_list o ++ rs)) none h in
    subst (λ (o : Option PieceView). LieInOrder 0 (option_to_list o ++ rs')) (sym none) (rest_order (Some p) rs rs' k e)

-- the first of the others was given whole
pub popped_takes : (first : Option PieceView) (rs rs' xs : List PieceView) (p : PieceView) (most : ℕ) (chunk : Chunk) → first ≡ None → xs ≡ option_to_list first ++ rs → rs ≡ p ∷ rs' → chunk ≡ record { offset = p.offset; bytes = p.bytes } → length p.bytes ≤ most → LieInOrder 0 xs → All FitsWords xs → TakesSome chunk.offset most chunk.bytes xs (option_to_list first ++ rs')
popped_takes first rs rs' xs p most chunk none is e c le h fits =
    let all : xs ≡ p ∷ rs' = is ∙ ap (λ (o : Option PieceView). option_to_list o ++ rs) none ∙ e in
    let left : option_to_list first ++ rs' ≡ rs' = ap (λ (o : Option PieceView). option_to_list o ++ rs') none in
    let at : chunk.offset ≡ p.offset = ap (λ (k : Chunk). k.offset) c in
    let given : chunk.bytes ≡ p.bytes = ap (λ (k : Chunk). k.bytes) c in
    takes_given most chunk.offset chunk.bytes xs (option_to_list first ++ rs') h fits (gives_whole most chunk.offset chunk.bytes xs rs' (option_to_list first ++ rs') p all at le given left)
