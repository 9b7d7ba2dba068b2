-- The pieces of a map are compacted where they lie, one after another.
use Rattle.std.specs.Prelude.{ℕ, Bool, ◌≡◌, ◌≢◌, ◌⊎◌, ◌^◌, ◌*◌, ◌/◌, ◌≤◌, ◌<◌, nat_le, List, [], ◌∷◌, ◌++◌, length, Option, Some, None}
use Rattle.std.specs.Map.{values_of}
use Rattle.quic_assembler.specs.Piece.{PieceView, run_end}
use Rattle.quic_ordered.specs.Entries.{piece_at, piece_of}
use Rattle.quic_ordered.specs.Rows.{AreKeyed, IsGathered, tidied, joined_with}

-- the first piece from n on: where it begins and ends, and whether it keeps little more memory alive than it has bytes
pub record IsNextPiece (es : List (ℕ × PieceView)) (start end : ℕ) (little : Bool) (n : ℕ) : Type 0 where
  pub run : PieceView
  pub found : piece_at es start ≡ Some run
  pub from : n ≤ start
  pub first : (q : ℕ) → n ≤ q → q < start → piece_at es q ≡ None
  pub ends : end ≡ run_end run
  pub is_little : little ≡ nat_le run.allocation_size (length run.bytes * 6 / 5)

-- where the last of some pieces begins and ends
abbrev pub EndsWith : Option ℕ → ℕ → List (ℕ × PieceView) → Type 0
EndsWith None end done = (done ≡ []) × (end ≡ 0)
EndsWith (Some base) end done = (others : List (ℕ × PieceView)) × (piece : PieceView) × (done ≡ others ++ (base, piece) ∷ []) × (end ≡ run_end piece)

-- of all pieces those up to `end` are compacted; the last of them begins at `last`
pub record IsSwept (all : List PieceView) (last : Option ℕ) (end : ℕ) (es : List (ℕ × PieceView)) : Type 0 where
  pub done : List (ℕ × PieceView)
  pub rest : List (ℕ × PieceView)
  pub is : es ≡ done ++ rest
  pub keyed : AreKeyed es
  pub gathered : IsGathered all (values_of done) (values_of rest)
  pub at : EndsWith last end done

-- of the pieces of a map some, from the first on, are compacted
pub record IsSweptMap (old new : List (ℕ × PieceView)) : Type 0 where
  pub done : List PieceView
  pub rest : List PieceView
  pub is : values_of new ≡ done ++ rest
  pub gathered : IsGathered (values_of old) done rest
  pub keyed : AreKeyed new

-- pieces of a map that touch, one behind another, from an offset on
abbrev pub IsChain : List (ℕ × PieceView) → ℕ → List PieceView → Type 0
IsChain es from [] = Unit {0}
IsChain es from (r ∷ rs) = (piece_at es from ≡ Some r) × (r.offset ≡ from) × (0 < length r.bytes)
    × ((q : ℕ) → from < q → q < run_end r → piece_at es q ≡ None) × IsChain es (run_end r) rs

-- where they end
abbrev pub chain_end : ℕ → List PieceView → ℕ
chain_end from [] = from
chain_end from (r ∷ rs) = chain_end (run_end r) rs

-- their bytes
abbrev pub chain_bytes : List PieceView → List ℕ
chain_bytes [] = []
chain_bytes (r ∷ rs) = r.bytes ++ chain_bytes rs

-- a piece and those of a chain behind it as one; with none behind it, it is copied where it keeps much memory alive
abbrev pub grown : PieceView → List PieceView → PieceView
grown v [] = tidied v
grown v (r ∷ rs) = joined_with v (piece_of 0 (chain_bytes (r ∷ rs)) 0)

-- what is to be done next, where the last piece that is done begins at `last` and ends at `end`: behind the piece at
-- `base` a chain from its end up to `stop`, which has these bytes. The piece is the last one that is done, and the next
-- one touches it, or it is the next one itself
pub record IsNextRun (es : List (ℕ × PieceView)) (last : Option ℕ) (end base from stop : ℕ) (bytes : List ℕ) : Type 0 where
  pub start : ℕ
  pub first_end : ℕ
  pub little : Bool
  pub next : IsNextPiece es start first_end little end
  pub case : ((last ≡ Some base) × (end ≡ start) × (from ≡ end)) ⊎ ((base ≡ start) × (from ≡ first_end) × ((last ≡ None) ⊎ (end ≢ start)))
  pub chain : List PieceView
  pub touch : IsChain es from chain
  pub ends : stop ≡ chain_end from chain
  pub text : bytes ≡ chain_bytes chain
  pub on : first_end ≤ stop
  pub bound : stop < 2 ^ 62

-- the pieces of a chain from an offset on are joined to the one at `base`
pub record IsRunJoined (old : List (ℕ × PieceView)) (base from : ℕ) (rs : List PieceView) (new : List (ℕ × PieceView)) : Type 0 where
  pub here : (v : PieceView) → piece_at old base ≡ Some v → piece_at new base ≡ Some (grown v rs)
  pub gone : (q : ℕ) → from ≤ q → q < chain_end from rs → piece_at new q ≡ None
  pub others : (q : ℕ) → (q ≡ base → ⊥) → (q < from) ⊎ (chain_end from rs ≤ q) → piece_at new q ≡ piece_at old q
