-- Pieces by their offsets, as the entries of a map.
use Rattle.std.specs.Prelude.{ℕ, ◌≡◌, ◌+◌, ◌-◌, ◌≤◌, ◌<◌, ◌⊎◌, List, length, false, Option, Some, None}
use Rattle.std.specs.List.{All}
use Rattle.std.specs.Map.{lookup}
use Rattle.std.specs.BTreeMap.{is_at}
use Rattle.std.specs.Ordering.{nat_cmp}
use Rattle.quic_assembler.specs.Piece.{PieceView, run_end, RunHolds}
use Rattle.quic_ordered.specs.Rows.{Encloses, LiesApart, Overlaps}

-- a piece of which nothing is known but where it begins, its bytes, and the memory that they keep alive
abbrev pub piece_of : ℕ → List ℕ → ℕ → PieceView
piece_of offset bytes size = record { offset = offset; bytes = bytes; allocation_size = size; compact = false; sequence = 0 }

-- the run that stands at a key of the map's entries
abbrev pub piece_at : List (ℕ × PieceView) → ℕ → Option PieceView
piece_at es q = lookup (is_at (nat_cmp q)) es

-- no run begins between two offsets, both included
abbrev pub NoPieceBegins : List (ℕ × PieceView) → ℕ → ℕ → Type 0
NoPieceBegins es from to = (q : ℕ) → from ≤ q → q ≤ to → piece_at es q ≡ None

-- each run stands at its offset, has a byte, and ends before the next begins
pub record IsPieceMap (es : List (ℕ × PieceView)) : Type 0 where
  pub key : (q : ℕ) (v : PieceView) → piece_at es q ≡ Some v → v.offset ≡ q
  pub some : (q : ℕ) (v : PieceView) → piece_at es q ≡ Some v → 0 < length v.bytes
  pub apart : (q r : ℕ) (v w : PieceView) → piece_at es q ≡ Some v → piece_at es r ≡ Some w → q < r → run_end v ≤ r

-- a run of the map has the byte
pub record MapHolds (es : List (ℕ × PieceView)) (at byte : ℕ) : Type 0 where
  pub start : ℕ
  pub run : PieceView
  pub found : piece_at es start ≡ Some run
  pub here : RunHolds at byte run

-- no run of the map has a byte there
abbrev pub MapHoldsNone : List (ℕ × PieceView) → ℕ → Type 0
MapHoldsNone es at = (byte : ℕ) → MapHolds es at byte → ⊥

-- the last run that begins up to n
pub record IsLastPiece (es : List (ℕ × PieceView)) (start end n : ℕ) : Type 0 where
  pub run : PieceView
  pub found : piece_at es start ≡ Some run
  pub ends : end ≡ run_end run
  pub up_to : start ≤ n
  pub last : NoPieceBegins es (start + 1) n

-- of the runs that begin below the end of a new one the last ends by its offset, if there is one
abbrev pub IsFreeFor : List (ℕ × PieceView) → PieceView → Type 0
IsFreeFor es new = NoPieceBegins es 0 (run_end new - 1) ⊎ ((start end : ℕ) × (IsLastPiece es start end (run_end new - 1) × (end ≤ new.offset)))

-- the first run that begins from n on
pub record IsFirstPiece (es : List (ℕ × PieceView)) (start n : ℕ) : Type 0 where
  pub run : PieceView
  pub found : piece_at es start ≡ Some run
  pub from : n ≤ start
  pub first : (q : ℕ) → n ≤ q → q < start → piece_at es q ≡ None

-- the run was taken into the map: where both had a byte the held one stays
pub record MapTakes (es : List (ℕ × PieceView)) (new : PieceView) (es' : List (ℕ × PieceView)) : Type 0 where
  pub keeps : (at byte : ℕ) → MapHolds es at byte → MapHolds es' at byte
  pub gains : (at byte : ℕ) → RunHolds at byte new → MapHoldsNone es at → MapHolds es' at byte
  pub origin : (at byte : ℕ) → MapHolds es' at byte → MapHolds es at byte ⊎ RunHolds at byte new

-- an offset at which a run has no byte
abbrev pub IsOutside : PieceView → ℕ → Type 0
IsOutside r at = (at < r.offset) ⊎ (run_end r ≤ at)

-- the bytes of a run were written over those of another
pub record WritesOver (other old new : PieceView) : Type 0 where
  pub offset : new.offset ≡ old.offset
  pub len : length new.bytes ≡ length old.bytes
  pub within : (at byte : ℕ) → RunHolds at byte other → RunHolds at byte new
  pub outside : (at byte : ℕ) → IsOutside other at → RunHolds at byte old → RunHolds at byte new
  pub origin : (at byte : ℕ) → RunHolds at byte new → RunHolds at byte other ⊎ (RunHolds at byte old × IsOutside other at)

-- a run between which and the map's runs a new one lies: all that the new one overlaps begin from start on and end by `end`
pub record SpansAll (es : List (ℕ × PieceView)) (new : PieceView) (start end : ℕ) : Type 0 where
  pub from : start ≤ new.offset
  pub to : run_end new ≤ end
  pub below : (q : ℕ) (v : PieceView) → piece_at es q ≡ Some v → q < start → run_end v ≤ start
  pub inside : (q : ℕ) (v : PieceView) → piece_at es q ≡ Some v → q < run_end new → run_end v ≤ end
  pub above : (q : ℕ) (v : PieceView) → piece_at es q ≡ Some v → run_end new ≤ q → end ≤ q
  pub left : (at : ℕ) → start ≤ at → at < new.offset → (byte : ℕ) × MapHolds es at byte
  pub tight : (q : ℕ) (v : PieceView) → piece_at es q ≡ Some v → start ≤ q → q < new.offset → new.offset < run_end v
  pub right : (at : ℕ) → run_end new ≤ at → at < end → (byte : ℕ) × MapHolds es at byte

-- a run behind start has the byte
pub record StillHolds (es : List (ℕ × PieceView)) (start at byte : ℕ) : Type 0 where
  pub key : ℕ
  pub run : PieceView
  pub behind : start < key
  pub found : piece_at es key ≡ Some run
  pub here : RunHolds at byte run

-- some of the runs that a new one overlaps were taken out of the map es, and written over a base; ms are left
pub record IsJoining (es : List (ℕ × PieceView)) (new : PieceView) (start end : ℕ) (ms : List (ℕ × PieceView)) (base : PieceView) : Type 0 where
  pub offset : base.offset ≡ start
  pub ends : run_end base ≡ end
  pub slot : piece_at ms start ≡ None → ⊥
  pub outside : (q : ℕ) → (q < start) ⊎ (run_end new ≤ q) → piece_at ms q ≡ piece_at es q
  pub rest : (q : ℕ) (v : PieceView) → start < q → piece_at ms q ≡ Some v → piece_at es q ≡ Some v
  pub written : (at byte : ℕ) → start ≤ at → at < end → MapHolds es at byte → RunHolds at byte base ⊎ StillHolds ms start at byte
  pub fresh : (at byte : ℕ) → RunHolds at byte new → MapHoldsNone es at → RunHolds at byte base
  pub origin : (at byte : ℕ) → RunHolds at byte base → MapHolds es at byte ⊎ (RunHolds at byte new ⊎ IsOutside new at)

-- each piece of the map was there, or is the new one, or has memory of its own
abbrev pub MapStems : List (ℕ × PieceView) → PieceView → List (ℕ × PieceView) → Type 0
MapStems es new es' = (q : ℕ) (v : PieceView) → piece_at es' q ≡ Some v → (piece_at es q ≡ Some v) ⊎ ((v ≡ new) ⊎ (v.allocation_size ≡ length v.bytes))

-- some piece of the map is so
abbrev pub MapHas : List (ℕ × PieceView) → (PieceView → Type 0) → Type 0
MapHas es P = (q : ℕ) × (v : PieceView) × (piece_at es q ≡ Some v) × P v

-- one piece of the map has all offsets of a run, and of each that the run overlapped, in memory of its own
pub record HasJoined (es : List (ℕ × PieceView)) (new : PieceView) (es' : List (ℕ × PieceView)) : Type 0 where
  pub start : ℕ
  pub run : PieceView
  pub found : piece_at es' start ≡ Some run
  pub has : Encloses new.offset (run_end new) run
  pub each : (q : ℕ) (v : PieceView) → piece_at es q ≡ Some v → LiesApart new v ⊎ Encloses v.offset (run_end v) run
  pub memory : run.allocation_size ≡ length run.bytes

-- a run overlaps none of the map and stands in it afterwards, or lies within one, or one has it and all that it overlaps
abbrev pub MapJoins : List (ℕ × PieceView) → PieceView → List (ℕ × PieceView) → Type 0
MapJoins es new es' = (((q : ℕ) (v : PieceView) → piece_at es q ≡ Some v → LiesApart new v) × (piece_at es' new.offset ≡ Some new)) ⊎ (MapHas es (Encloses new.offset (run_end new)) ⊎ (MapHas es (Overlaps new) × HasJoined es new es'))

-- each piece that a run does not overlap stays
abbrev pub MapKeepsApart : List (ℕ × PieceView) → PieceView → List (ℕ × PieceView) → Type 0
MapKeepsApart es new es' = (q : ℕ) (v : PieceView) → piece_at es q ≡ Some v → (run_end v ≤ new.offset) ⊎ (run_end new ≤ v.offset) → piece_at es' q ≡ Some v

-- the maps differ at most at some offsets, at which none of the first begins
pub record IsPlaced (offsets : List ℕ) (es es' : List (ℕ × PieceView)) : Type 0 where
  pub absent : All (λ (o : ℕ). piece_at es o ≡ None) offsets
  pub same : (q : ℕ) → All (λ (o : ℕ). q ≡ o → ⊥) offsets → piece_at es' q ≡ piece_at es q

-- a run grew: its bytes stay at their offsets, and what the others are is left open
pub record GrowsTo (start end : ℕ) (old new : PieceView) : Type 0 where
  pub offset : new.offset ≡ start
  pub ends : run_end new ≡ end
  pub keeps : (at byte : ℕ) → RunHolds at byte old → RunHolds at byte new
