-- What contracts see of an assembler over pieces that do not overlap.
use Rattle.std.specs.Prelude.{ℕ, Bool, true, false, ◌≡◌, ◌+◌, ◌-◌, ◌≤◌, ◌<◌, ◌⊎◌, ◌||◌, max, List, length, Result, Ok, Err}
use Rattle.std.specs.List.{All, Any}
use Rattle.std.specs.List.Sorted.{IsStrictlySortedBy}
use Rattle.std.specs.Ordering.{nat_cmp}
use Rattle.quic_ranges.specs.Runs.{Run as Range}
use Rattle.quic_assembler.specs.declared.errors.InsertError.{InsertError}
use Rattle.quic_assembler.specs.declared.errors.InsertError.TheVariants.{TooManyChunks, CompactionMemory, OutOfMemory}
use Rattle.quic_assembler.specs.Piece.{PieceView, sums_of, cut_at, lies, run_end}
use Rattle.quic_assembler.specs.Reassembly.{Reassembly, Holds, IsDone, is_done, IsHeld, IsAssembler, IsStale, Takes, is_wasteful, with_piece, MatchInsert}
use Rattle.quic_ordered.specs.Entries.{piece_of}
use Rattle.quic_ordered.specs.Rows.{LieInOrder, LieWithGaps, IsTidy, IsKeptOrOwn, HoldSame, Merges, StemsFrom, StaysApart, Encloses, JoinsAll, AddsOnly}

-- what is true of an assembler whose pieces do not overlap: in ordered mode they lie behind what was read
pub record IsApartAssembler (runs : List PieceView) (received : List Range) (ordered : Bool) (bytes_read : ℕ) : Type 0 where
  pub whole : IsAssembler runs received ordered bytes_read
  pub above : ordered ≡ true → LieInOrder bytes_read runs

-- the first bytes that lie below what was read were cut off
abbrev pub unread : ℕ → ℕ → List ℕ → ℕ → PieceView
unread read offset bytes size = cut_at read (piece_of offset bytes size)

-- a piece has all offsets of another
abbrev pub EnclosesPiece : PieceView → PieceView → Type 0
EnclosesPiece p r = Encloses p.offset (run_end p) r

-- in ordered mode the part of a piece behind what was read was joined with all pieces that it overlaps into one; the others stay, and nothing changes where it lies within one
pub record JoinsUnread (old : Reassembly) (offset : ℕ) (bytes : List ℕ) (size : ℕ) (mid : List PieceView) : Type 0 where
  pub merges : Merges old.runs (unread old.bytes_read offset bytes size) mid
  pub stems : All (StemsFrom old.runs (unread old.bytes_read offset bytes size)) mid
  pub joined : 0 < length (unread old.bytes_read offset bytes size).bytes → JoinsAll old.runs (unread old.bytes_read offset bytes size) mid
  pub stays : All (StaysApart offset (offset + length bytes) mid) old.runs
  pub within : Any (EnclosesPiece (unread old.bytes_read offset bytes size)) old.runs → mid ≡ old.runs
  pub pieces : length mid ≤ length old.runs + 1

-- what the pieces are once bytes came, before any compaction
pub record AddsPiece (old : Reassembly) (offset : ℕ) (bytes : List ℕ) (size : ℕ) (mid : List PieceView) : Type 0 where
  pub joins : old.ordered ≡ true → JoinsUnread old offset bytes size mid
  pub sums : old.ordered ≡ false → sums_of mid ≡ with_piece old offset bytes size
  pub adds : old.ordered ≡ false → AddsOnly size old.runs mid

-- a piece was kept
pub record KeepsPiece (old new : Reassembly) (offset : ℕ) (bytes : List ℕ) (size : ℕ) : Type 0 where
  pub held : Takes (Holds old) (Holds new) (IsDone old) offset bytes
  pub done : (at : ℕ) → old.ordered ≡ false → is_done new at ≡ (is_done old at || lies offset (offset + length bytes) at)
  pub added : AddsPiece old offset bytes size new.runs
  pub highest : new.highest ≡ max old.highest (offset + length bytes)
  pub bytes_read : new.bytes_read ≡ old.bytes_read
  pub ordered : new.ordered ≡ old.ordered

-- pieces that touch were joined, and those that kept much more memory alive than they have bytes were copied. Each piece
-- is one that was there, with its allocation size, or has an allocation size of its length
pub record IsJoined (mid new : List PieceView) : Type 0 where
  pub same : HoldSame mid new
  pub apart : LieWithGaps 0 new
  pub tidy : All IsTidy new
  pub memory : All (IsKeptOrOwn mid) new

-- pieces were compacted where that is due, and only there
abbrev pub Relieves : Result (Unit {0}) InsertError → Bool → List PieceView → List PieceView → Type 0
Relieves (Ok u) due mid new = ((due ≡ false) × (new ≡ mid)) ⊎ ((due ≡ true) × IsJoined mid new × (length new ≤ 1024))
Relieves (Err TooManyChunks) due mid new = (due ≡ true) × IsJoined mid new × (1024 < length new)
Relieves (Err CompactionMemory) due mid new = (due ≡ true) × HoldSame mid new × (length new ≤ length mid)
Relieves (Err OutOfMemory) due mid new = Unit {0}

-- bytes were added, and the pieces compacted where that is due
pub record Settled (old : Reassembly) (offset : ℕ) (bytes : List ℕ) (size : ℕ) (r : Result (Unit {0}) InsertError) (new : Reassembly) : Type 0 where
  pub mid : List PieceView
  pub added : AddsPiece old offset bytes size mid
  pub relieved : Relieves r (is_wasteful (sums_of mid) (max old.highest (offset + length bytes) - old.bytes_read)) mid new.runs

-- the held offsets form more than so many runs without neighbours
pub record FormMoreRuns (n : ℕ) (held : ℕ → ℕ → Type 0) : Type 0 where
  pub starts : List ℕ
  pub rise : IsStrictlySortedBy nat_cmp starts
  pub begin : All (λ at. IsHeld held at × ((at ≡ 0) ⊎ (IsHeld held (at - 1) → ⊥))) starts
  pub many : n < length starts

-- what an insert does with the pieces: bytes that begin below what was read and end by there change none
pub record TellsPieces (old : Reassembly) (offset : ℕ) (bytes : List ℕ) (size : ℕ) (r : Result (Unit {0}) InsertError) (new : Reassembly) : Type 0 where
  pub stale : IsStale old offset bytes → new.runs ≡ old.runs
  pub settled : MatchInsert r (IsStale old offset bytes ⊎ Settled old offset bytes size r new) (Unit {0})
  pub many : r ≡ Err TooManyChunks → FormMoreRuns 1024 (Holds new)
