-- What contracts see of an assembler.
use Rattle.quic_ranges.specs.Runs.{contains, Run as Range}
use Rattle.std.specs.Prelude.{◌≡◌, ◌==◌, ◌&&◌, ◌||◌, ◌-◌, ◌*◌, ◌/◌, ◌^◌, ◌↔◌, sum_by, max, min, not, zero, suc, true, false, nat_lt, ℕ, Bool, ◌+◌, ◌≤◌, ◌<◌, ◌⊎◌, List, [], length, cond, Option, Result, IfOk, IfSome, MatchOption, Ok, Err}
use Rattle.quic_assembler.specs.declared.errors.InsertError.{InsertError}
use Rattle.quic_assembler.specs.declared.errors.InsertError.TheVariants.{TooManyChunks, CompactionMemory, OutOfMemory}
use Rattle.std.specs.List.{Any, All}
use Rattle.quic_assembler.specs.Piece.{PieceView, RunHolds, Covers, IsByteAt, bit, lies, cover_count, run_end, cut_at, HoldsSame, IsSome, run_length, run_allocation, Sums, sums_of, KeepsAlive}

-- the pieces that are held, in no order; the offsets ever received or read, in unordered mode
pub record Reassembly : Type 0 where
  pub runs : List PieceView
  pub received : List Range
  pub bytes_read : ℕ
  pub ordered : Bool
  pub highest : ℕ

-- how an assembler begins: it holds nothing, and gave nothing
abbrev pub fresh : Reassembly
fresh = record { runs = []; received = []; bytes_read = 0; ordered = true; highest = 0 }

-- in ordered mode, what lies below is taken no more
abbrev pub floor : Reassembly → ℕ
floor a = cond a.ordered a.bytes_read 0

-- whether an offset is taken no more: in ordered mode those below the number read, in unordered mode those ever received or read
unfoldable pub is_done : Reassembly → ℕ → Bool
is_done a at = cond a.ordered (nat_lt at a.bytes_read) (contains a.received at)

abbrev pub IsDone : Reassembly → ℕ → Type 0
IsDone a at = is_done a at ≡ true

unfoldable pub Holds : Reassembly → ℕ → ℕ → Type 0
Holds a at byte = (floor a ≤ at) × Any (RunHolds at byte) a.runs

abbrev pub piece_count : Reassembly → ℕ
piece_count a = length a.runs

-- an offset that is not done, and before which the bytes from offset on begin or are done
abbrev pub starts_run : (ℕ → Bool) → ℕ → ℕ → Bool
starts_run done offset at = not (done at) && ((at == offset) || done (at - 1))

-- how many longest runs of offsets that are not done there are among so many from offset on
abbrev pub run_count : (ℕ → Bool) → ℕ → ℕ → ℕ
run_count done offset zero = 0
run_count done offset (suc n) = run_count done offset n + bit (starts_run done offset (offset + n))

-- how many offsets that are not done there are among so many from offset on
abbrev pub fresh_count : (ℕ → Bool) → ℕ → ℕ → ℕ
fresh_count done offset zero = 0
fresh_count done offset (suc n) = fresh_count done offset n + bit (not (done (offset + n)))

-- the sum of f below n
unfoldable pub tally : ℕ → (ℕ → ℕ) → ℕ
tally zero f = 0
tally (suc n) f = tally n f + f n

-- the sums of the pieces that are held
abbrev pub sums : Reassembly → Sums
sums a = sums_of a.runs

-- how many offsets pieces cover
unfoldable pub covered : List PieceView → ℕ
covered rs = tally (2 ^ 62) (λ at. min 1 (cover_count at rs))

-- the pieces cover so many offsets, each once, and keep no other memory alive
pub record IsCompacted (n : ℕ) (s : Sums) : Type 0 where
  pub total : s.total ≡ n
  pub allocated : s.allocated ≡ n

-- in unordered mode no two pieces overlap, what is held was received, and what was read was received before
pub record IsApart (runs : List PieceView) (received : List Range) (bytes_read : ℕ) : Type 0 where
  pub count : (at : ℕ) → cover_count at runs ≤ bit (contains received at)
  pub read : bytes_read + tally (2 ^ 62) (λ at. cover_count at runs) ≤ tally (2 ^ 62) (λ at. bit (contains received at))

-- what is true of every assembler
pub record IsAssembler (runs : List PieceView) (received : List Range) (ordered : Bool) (bytes_read : ℕ) : Type 0 where
  pub bounded : bytes_read ≤ 2 ^ 62
  pub apart : ordered ≡ false → IsApart runs received bytes_read

-- ys hold what xs hold, and of a run what was not received
pub record TakesFresh (received : List Range) (whole : PieceView) (xs ys : List PieceView) : Type 0 where
  pub count : (at : ℕ) → cover_count at ys ≡ cover_count at xs + bit (lies whole.offset (run_end whole) at && not (contains received at))
  pub origin : (at byte : ℕ) → Any (RunHolds at byte) ys → Any (RunHolds at byte) xs ⊎ (RunHolds at byte whole × (contains received at ≡ false))
  pub pieces : length ys ≡ length xs + run_count (contains received) whole.offset (length whole.bytes)
  pub total : sum_by run_length ys ≡ sum_by run_length xs + fresh_count (contains received) whole.offset (length whole.bytes)
  pub allocated : sum_by run_allocation ys ≡ sum_by run_allocation xs + run_count (contains received) whole.offset (length whole.bytes) * whole.allocation_size

-- what lies before start was taken off `rest`, and is behind the fronts
pub record TakesFront (start : ℕ) (rest rest' : PieceView) (fronts fronts' : List PieceView) : Type 0 where
  pub same : HoldsSame (cut_at start rest) rest'
  pub count : (at : ℕ) → cover_count at fronts' ≡ cover_count at fronts + bit (lies rest.offset start at)
  pub origin : (at byte : ℕ) → Any (RunHolds at byte) fronts' → Any (RunHolds at byte) fronts ⊎ RunHolds at byte rest
  pub pieces : length fronts' ≡ length fronts + min 1 (start - rest.offset)
  pub total : sum_by run_length fronts' ≡ sum_by run_length fronts + (start - rest.offset)
  pub memory : All (KeepsAlive rest.allocation_size) fronts → All (KeepsAlive rest.allocation_size) fronts'
  pub alive : KeepsAlive rest.allocation_size rest'
  pub sound : All IsSome fronts → All IsSome fronts'

-- no offset of the run was received
abbrev pub NoneReceived : List Range → PieceView → Type 0
NoneReceived received r = (at : ℕ) → r.offset ≤ at → at < run_end r → contains received at ≡ false

-- what was received before was cut out of the front of a run: `fronts` is what is left of it, `rest` is still to be cut
pub record IsCut (received : List Range) (whole rest : PieceView) (fronts : List PieceView) : Type 0 where
  pub from : whole.offset ≤ rest.offset
  pub to : rest.offset ≤ run_end whole
  pub same : HoldsSame (cut_at rest.offset whole) rest
  pub sound : All IsSome fronts
  pub count : (at : ℕ) → cover_count at fronts ≡ bit (lies whole.offset rest.offset at && not (contains received at))
  pub origin : (at byte : ℕ) → Any (RunHolds at byte) fronts → RunHolds at byte whole
  pub pieces : length fronts ≡ run_count (contains received) whole.offset (rest.offset - whole.offset)
  pub total : sum_by run_length fronts ≡ fresh_count (contains received) whole.offset (rest.offset - whole.offset)
  pub memory : All (KeepsAlive whole.allocation_size) fronts
  pub alive : KeepsAlive whole.allocation_size rest
  pub starts : (rest.offset ≡ whole.offset) ⊎ (contains received (rest.offset - 1) ≡ true)

-- some byte is held there
abbrev pub IsHeld : (ℕ → ℕ → Type 0) → ℕ → Type 0
IsHeld held at = (byte : ℕ) × held at byte

-- an offset of the bytes that start at offset
abbrev pub IsWithin : ℕ → List ℕ → ℕ → Type 0
IsWithin offset bytes at = (offset ≤ at) × (at < offset + length bytes)

-- held' is held and the bytes that start at offset, where they are not done; of two bytes at one offset one may go
pub record Takes (held held' : ℕ → ℕ → Type 0) (done : ℕ → Type 0) (offset : ℕ) (bytes : List ℕ) : Type 0 where
  pub keeps : (at : ℕ) → IsHeld held at → IsHeld held' at
  pub gains : (at : ℕ) → IsWithin offset bytes at → done at ⊎ IsHeld held' at
  pub origin : (at byte : ℕ) → held' at byte → held at byte ⊎ IsByteAt offset bytes at byte
  pub fresh : (at byte : ℕ) → held' at byte → held at byte ⊎ (done at → ⊥)

-- the same bytes are held
pub record SameHeld (held held' : ℕ → ℕ → Type 0) : Type 0 where
  pub keeps : (at byte : ℕ) → held at byte → held' at byte
  pub origin : (at byte : ℕ) → held' at byte → held at byte

-- the same offsets are held, and no byte that was not; of two bytes at one offset one may go
pub record KeepsOffsets (held held' : ℕ → ℕ → Type 0) : Type 0 where
  pub keeps : (at : ℕ) → IsHeld held at → IsHeld held' at
  pub origin : (at byte : ℕ) → held' at byte → held at byte

-- held' is held without the bytes that start at offset, which were held
pub record Gives (held held' : ℕ → ℕ → Type 0) (offset : ℕ) (bytes : List ℕ) : Type 0 where
  pub given : (at byte : ℕ) → IsByteAt offset bytes at byte → held at byte
  pub gone : (at : ℕ) → IsWithin offset bytes at → IsHeld held' at → ⊥
  pub keeps : (at byte : ℕ) → held at byte → IsWithin offset bytes at ⊎ held' at byte
  pub origin : (at byte : ℕ) → held' at byte → held at byte

-- where reads go on, in ordered mode at `read` and else at the lowest offset that is held, more than so many offsets in a row are held
pub record HoldsMore (held : ℕ → ℕ → Type 0) (ordered : Bool) (read most : ℕ) : Type 0 where
  pub start : ℕ
  pub behind : ordered ≡ true → start ≡ read
  pub lowest : (at : ℕ) → at < start → IsHeld held at → ⊥
  pub row : (at : ℕ) → start ≤ at → at ≤ start + most → IsHeld held at

-- what a read gave, and what it says where nothing was at hand
abbrev pub IfGiven : {C E : Type 0} → Result (Option C) E → (C → Type 0) → Type 0
IfGiven r P = IfOk r (λ o. IfSome o P)

abbrev pub OnNothing : {C E : Type 0} → Result (Option C) E → Type 0 → Type 0
OnNothing r P = IfOk r (λ o. MatchOption o P (λ _. Unit {0}))

-- the sums with a piece of which each longest run of offsets that are not done is held, and keeps all its memory alive
abbrev pub with_piece : Reassembly → ℕ → List ℕ → ℕ → Sums
with_piece a offset bytes size = record {
  pieces = piece_count a + run_count (is_done a) offset (length bytes);
  total = sum_by run_length a.runs + fresh_count (is_done a) offset (length bytes);
  allocated = sum_by run_allocation a.runs + run_count (is_done a) offset (length bytes) * size;
}

-- how many offsets the pieces cover then
unfoldable pub covered_with : Reassembly → ℕ → List ℕ → ℕ
covered_with a offset bytes = tally (2 ^ 62) (λ at. min 1 (cover_count at a.runs + bit (lies offset (offset + length bytes) at && not (is_done a at))))

-- a piece was kept
pub record Keeps (old new : Reassembly) (offset : ℕ) (bytes : List ℕ) (size : ℕ) : Type 0 where
  pub held : Takes (Holds old) (Holds new) (IsDone old) offset bytes
  pub done : (at : ℕ) → old.ordered ≡ false → is_done new at ≡ (is_done old at || lies offset (offset + length bytes) at)
  pub sums : sums new ≡ with_piece old offset bytes size
  pub covered : covered new.runs ≡ covered_with old offset bytes
  pub pieces : old.ordered ≡ true → piece_count new ≤ piece_count old + 1
  pub highest : new.highest ≡ max old.highest (offset + length bytes)
  pub bytes_read : new.bytes_read ≡ old.bytes_read
  pub ordered : new.ordered ≡ old.ordered

-- reads go on at an offset: in ordered mode behind what was read, in unordered mode at the lowest piece
pub record IsNext (a : Reassembly) (offset : ℕ) : Type 0 where
  pub behind : a.ordered ≡ true → offset ≡ a.bytes_read
  pub lowest : a.ordered ≡ false → All (λ q. offset ≤ q.offset) a.runs
  pub covered : a.ordered ≡ false → Any (Covers offset) a.runs

-- the mode was changed
pub record LeavesOrder (old new : Reassembly) : Type 0 where
  pub held : KeepsOffsets (Holds old) (Holds new)
  pub done : (at : ℕ) → IsDone new at ↔ ((at < old.bytes_read) ⊎ IsHeld (Holds old) at)
  pub ordered : new.ordered ≡ false
  pub bytes_read : new.bytes_read ≡ old.bytes_read
  pub highest : new.highest ≡ old.highest

-- the piece was kept, or the call had no memory for it
abbrev pub MatchInsert : Result (Unit {0}) InsertError → Type 0 → Type 0 → Type 0
MatchInsert (Ok u) P Q = P
MatchInsert (Err TooManyChunks) P Q = P
MatchInsert (Err CompactionMemory) P Q = P
MatchInsert (Err OutOfMemory) P Q = Q

-- no two bytes are held at one offset
abbrev pub HoldsOnce : (ℕ → ℕ → Type 0) → Type 0
HoldsOnce held = (at a b : ℕ) → held at a → held at b → a ≡ b

abbrev pub HoldsNothing : (ℕ → ℕ → Type 0) → Type 0
HoldsNothing held = (at byte : ℕ) → held at byte → ⊥

-- in ordered mode the bytes start below what was read, and end at or below it
abbrev pub IsBehind : Bool → ℕ → ℕ → List ℕ → Type 0
IsBehind ordered read offset bytes = (ordered ≡ true) × (offset < read) × (offset + length bytes ≤ read)

abbrev pub IsStale : Reassembly → ℕ → List ℕ → Type 0
IsStale a offset bytes = IsBehind a.ordered a.bytes_read offset bytes

-- all but what is held is the same
pub record IsSameButHeld (a b : Reassembly) : Type 0 where
  pub bytes_read : b.bytes_read ≡ a.bytes_read
  pub ordered : b.ordered ≡ a.ordered
  pub highest : b.highest ≡ a.highest
  pub done : (at : ℕ) → is_done b at ≡ is_done a at

-- how many bytes are of use: those that are held, and at most so many as were not read
abbrev pub used : Sums → ℕ → ℕ
used s unread = min s.total unread

-- whether compaction is due: too many pieces are held, or they keep too much memory alive
unfoldable pub is_wasteful : Sums → ℕ → Bool
is_wasteful s unread = nat_lt 2048 s.pieces || nat_lt (max 32768 (used s unread * 3 / 2)) (s.allocated - used s unread)

-- pieces with the sums s that cover n offsets were compacted where that is due, and only there; t are the sums afterwards
abbrev pub Settles : Result (Unit {0}) InsertError → Bool → Sums → ℕ → Sums → Type 0
Settles (Ok u) due s n t = ((due ≡ false) × (t ≡ s)) ⊎ ((due ≡ true) × IsCompacted n t × (t.pieces ≤ 1024))
Settles (Err TooManyChunks) due s n t = (due ≡ true) × IsCompacted n t × (1024 < t.pieces)
Settles (Err CompactionMemory) due s n t = (due ≡ true) × (t ≡ s)
Settles (Err OutOfMemory) due s n t = Unit {0}

-- what the pieces come to once bytes came that keep so much memory alive, and whether they were compacted for it
pub record Accounts (old : Reassembly) (offset : ℕ) (bytes : List ℕ) (size : ℕ) (r : Result (Unit {0}) InsertError) (new : Reassembly) : Type 0 where
  pub stale : IsStale old offset bytes → sums new ≡ sums old
  pub settles : IsStale old offset bytes ⊎ Settles r (is_wasteful (with_piece old offset bytes size) (max old.highest (offset + length bytes) - old.bytes_read)) (with_piece old offset bytes size) (covered_with old offset bytes) (sums new)
