-- Pieces in the order of their offsets.
use Rattle.std.specs.Prelude.{ℕ, ◌≡◌, ◌+◌, ◌≤◌, ◌<◌, ◌^◌, ◌*◌, ◌/◌, ◌≢◌, ◌⊎◌, nat_le, List, [], ◌∷◌, ◌++◌, length, take, slice_index_or, sum_by, cond, Option, option_to_list}
use Rattle.std.specs.List.{Any, All}
use Rattle.std.specs.Map.{keys_of, values_of}
use Rattle.std.specs.Ordering.{nat_cmp}
use Rattle.std.specs.List.Sorted.{IsStrictlySortedBy}
use Rattle.quic_assembler.specs.Piece.{PieceView, KeepsAlive, RunHolds, run_end, run_length, run_allocation, left_of}

-- pieces in a row, and how many there is room for
pub record Row : Type 0 where
  pub runs : List PieceView
  pub room : ℕ

-- its numbers fit
pub record FitsWords (r : PieceView) : Type 0 where
  pub below : run_end r < 2 ^ 62
  pub allocation : r.allocation_size < 2 ^ 64

-- the sums of the lengths and of the allocation sizes
pub record AreSums (total allocated : ℕ) (runs : List PieceView) : Type 0 where
  pub total_is : total ≡ sum_by run_length runs
  pub allocated_is : allocated ≡ sum_by run_allocation runs
  pub sound : All FitsWords runs

-- the keys rise
abbrev pub RiseByKey : List (ℕ × PieceView) → Type 0
RiseByKey es = IsStrictlySortedBy nat_cmp (keys_of es)

-- each piece stands at its offset
abbrev pub AreKeyed : List (ℕ × PieceView) → Type 0
AreKeyed [] = Unit {0}
AreKeyed (e ∷ es) = (e.1.offset ≡ e.0) × AreKeyed es

-- a map with its sums
pub record IsSummedMap (total allocated : ℕ) (es : List (ℕ × PieceView)) : Type 0 where
  pub rises : RiseByKey es
  pub sums : AreSums total allocated (values_of es)

-- pieces from low on, none of them empty, each ending by where the next begins
abbrev pub LieInOrder : ℕ → List PieceView → Type 0
LieInOrder low [] = Unit {0}
LieInOrder low (r ∷ rs) = (low ≤ r.offset) × (0 < length r.bytes) × LieInOrder (run_end r) rs

-- so many pieces begin at an offset or before it
pub record BeginUpTo (rs : List PieceView) (offset n : ℕ) : Type 0 where
  pub fits : n ≤ length rs
  pub below : (k : ℕ) (d : PieceView) → k < n → (slice_index_or rs k d).offset ≤ offset
  pub above : (k : ℕ) (d : PieceView) → n ≤ k → k < length rs → offset < (slice_index_or rs k d).offset

-- a byte of one of the pieces
abbrev pub Hold : List PieceView → ℕ → ℕ → Type 0
Hold rs at byte = Any (RunHolds at byte) rs

-- the bytes of rs and of a piece are held; where both have a byte, that of rs
pub record Merges (rs : List PieceView) (new : PieceView) (rs' : List PieceView) : Type 0 where
  pub keeps : (at byte : ℕ) → Hold rs at byte → Hold rs' at byte
  pub gains : (at byte : ℕ) → RunHolds at byte new → ((b : ℕ) → Hold rs at b → ⊥) → Hold rs' at byte
  pub origin : (at byte : ℕ) → Hold rs' at byte → Hold rs at byte ⊎ RunHolds at byte new

-- a map, and behind it a row
pub record IsStore (es : List (ℕ × PieceView)) (rs : List PieceView) : Type 0 where
  pub rises : RiseByKey es
  pub keyed : AreKeyed es
  pub order : LieInOrder 0 (values_of es ++ rs)

-- a piece that is being read, if there is one, and behind it the others
abbrev pub IsFronted : Option PieceView → List PieceView → Type 0
IsFronted first rest = LieInOrder 0 (option_to_list first ++ rest)

-- a piece that keeps much more memory alive than it has bytes is copied
abbrev pub tidied : PieceView → PieceView
tidied r = cond (nat_le r.allocation_size (length r.bytes * 6 / 5)) r (record r { allocation_size = length r.bytes })

-- a piece, and behind it one that begins where it ends, as one in memory of its own
abbrev pub joined_with : PieceView → PieceView → PieceView
joined_with r next = record r { bytes = r.bytes ++ next.bytes; allocation_size = length r.bytes + length next.bytes }

-- pieces from low on, none of them empty, each ending before the next begins
abbrev pub LieWithGaps : ℕ → List PieceView → Type 0
LieWithGaps low [] = Unit {0}
LieWithGaps low (r ∷ rs) = (low ≤ r.offset) × (0 < length r.bytes) × LieWithGaps (run_end r + 1) rs

-- it keeps at most a fifth more memory alive than it has bytes
abbrev pub IsTidy : PieceView → Type 0
IsTidy r = r.allocation_size ≤ length r.bytes * 6 / 5

-- the same bytes at the same offsets
pub record HoldSame (rs rs' : List PieceView) : Type 0 where
  pub keeps : (at byte : ℕ) → Hold rs at byte → Hold rs' at byte
  pub origin : (at byte : ℕ) → Hold rs' at byte → Hold rs at byte

-- a piece came behind others: it was joined with the last of them where that ends at its begin
pub record JoinsLast (rs : List PieceView) (p : PieceView) (rs' : List PieceView) : Type 0 where
  pub case : ((rs ≡ []) × (rs' ≡ tidied p ∷ [])) ⊎ ((others : List PieceView) × (last : PieceView) × (rs ≡ others ++ last ∷ [])
      × (((run_end last ≡ p.offset) × (rs' ≡ others ++ joined_with last p ∷ [])) ⊎ ((run_end last ≢ p.offset) × (rs' ≡ rs ++ tidied p ∷ []))))

-- a piece is one of some others
abbrev pub IsAmong : List PieceView → PieceView → Type 0
IsAmong rs r = Any (λ s. s ≡ r) rs

-- s begins where r does, and kept too much memory alive or has fewer bytes
abbrev pub Outgrows : PieceView → PieceView → Type 0
Outgrows r s = (s.offset ≡ r.offset) × ((IsTidy s → ⊥) ⊎ (length s.bytes < length r.bytes))

-- a piece was held before, with its allocation size, or has memory of its own in the place of one that it outgrows
abbrev pub IsKeptOrOwn : List PieceView → PieceView → Type 0
IsKeptOrOwn rs r = IsAmong rs r ⊎ ((r.allocation_size ≡ length r.bytes) × Any (Outgrows r) rs)

-- of all pieces some were moved to `out`, and joined there where they touch; the rest is left
pub record IsGathered (all out rest : List PieceView) : Type 0 where
  pub same : HoldSame all (out ++ rest)
  pub order : LieInOrder 0 (out ++ rest)
  pub apart : LieWithGaps 0 out
  pub tidy : All IsTidy out
  pub pieces : length out + length rest ≤ length all
  pub stems : All (IsKeptOrOwn all) out
  pub left : All (IsAmong all) rest

-- all offsets from one up to another are the piece's
abbrev pub Encloses : ℕ → ℕ → PieceView → Type 0
Encloses offset end r = (r.offset ≤ offset) × (end ≤ run_end r)

-- the first bytes of the first piece, at most so many, were given, and the offset at which it begins; the rest is left
pub record GivesFirst (most : ℕ) (rs : List PieceView) (offset : ℕ) (bytes : List ℕ) (rs' : List PieceView) : Type 0 where
  pub first : PieceView
  pub rest : List PieceView
  pub is : rs ≡ first ∷ rest
  pub at : offset ≡ first.offset
  pub given : bytes ≡ take most first.bytes
  pub left : rs' ≡ left_of most first ++ rest

-- a piece was held before, or is the new one, or has memory of its own
abbrev pub StemsFrom : List PieceView → PieceView → PieceView → Type 0
StemsFrom rs new r = IsAmong rs r ⊎ ((r ≡ new) ⊎ (r.allocation_size ≡ length r.bytes))

-- a piece shares no offset with another
abbrev pub LiesApart : PieceView → PieceView → Type 0
LiesApart new r = (run_end r ≤ new.offset) ⊎ (run_end new ≤ r.offset)

-- a piece shares an offset with another
abbrev pub Overlaps : PieceView → PieceView → Type 0
Overlaps new r = (new.offset < run_end r) × (r.offset < run_end new)

-- a piece has all offsets of a new one, and of each of rs that the new one overlaps, in memory of its own
pub record HasAllOf (rs : List PieceView) (new p : PieceView) : Type 0 where
  pub has : Encloses new.offset (run_end new) p
  pub each : All (λ r. LiesApart new r ⊎ Encloses r.offset (run_end r) p) rs
  pub memory : p.allocation_size ≡ length p.bytes

-- a new piece overlaps none of rs and is one of rs', or lies within one of rs, or one of rs' has it and all that it overlaps
abbrev pub JoinsAll : List PieceView → PieceView → List PieceView → Type 0
JoinsAll rs new rs' = (All (LiesApart new) rs × IsAmong rs' new) ⊎ (Any (Encloses new.offset (run_end new)) rs ⊎ (Any (Overlaps new) rs × Any (HasAllOf rs new) rs'))

-- a piece stays, unless it overlaps the offsets from one up to another
abbrev pub StaysApart : ℕ → ℕ → List PieceView → PieceView → Type 0
StaysApart offset end rs r = (run_end r ≤ offset) ⊎ (end ≤ r.offset) → IsAmong rs r

-- pieces were added to rs, each of which keeps so much memory alive; all others stay as they were
pub record AddsOnly (size : ℕ) (rs rs' : List PieceView) : Type 0 where
  pub stay : All (IsAmong rs') rs
  pub alive : All (λ r. IsAmong rs r ⊎ KeepsAlive size r) rs'
