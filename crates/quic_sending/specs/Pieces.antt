-- Pieces, each with the offset of its first byte.
use Rattle.std.specs.Prelude.{◌≡◌, ℕ, ◌+◌, ◌<◌, ◌≤◌, List, [], ◌∷◌, length, slice_index_or}
use Rattle.quic_sending.specs.declared.piece_queue.Piece.{Piece}

abbrev pub contents : List Piece → List (List ℕ)
contents [] = []
contents (p ∷ ps) = p.bytes ∷ contents ps

-- none of them is empty, and each starts where the one before it ends, the first at n
abbrev pub IsLaidOut : ℕ → List Piece → Type 0
IsLaidOut n [] = Unit {0}
IsLaidOut n (p ∷ ps) = (p.start ≡ n) × (0 < length p.bytes) × IsLaidOut (n + length p.bytes) ps

-- at least `low` and at most `high` of the pieces start at an offset or before it: the first ones do, and the
-- last ones do not
pub record IsBetween (ps : List Piece) (offset low high : ℕ) : Type 0 where
  pub ordered : low ≤ high
  pub within : high ≤ length ps
  pub before : (k : ℕ) (d : Piece) → k < low → (slice_index_or ps k d).start ≤ offset
  pub behind : (k : ℕ) (d : Piece) → high ≤ k → k < length ps → offset < (slice_index_or ps k d).start

-- so many of the pieces start at an offset or before it
abbrev pub IsCountUpTo : List Piece → ℕ → ℕ → Type 0
IsCountUpTo ps offset count = IsBetween ps offset count count
