-- What compaction keeps, joins and drops.
use Rattle.std.specs.Prelude.{ℕ, Bool, not, true, ◌≡◌, ◌+◌, ◌*◌, ◌/◌, ◌≤◌, ◌⊎◌, ◌&&◌, ◌||◌, nat_le, nat_lt, if◌then◌else◌, cond, max, min, List, [], ◌∷◌, ◌++◌, length, Option, Some, None}
use Rattle.std.specs.List.{Any, All}
use Rattle.quic_assembler.specs.Piece.{PieceView, IsSome, RunHolds, cover_count, covers, run_end, cut_at}

-- ys hold a byte where xs hold one, each offset once, and only bytes that xs hold
pub record Compacts (xs ys : List PieceView) : Type 0 where
  pub count : (at : ℕ) → cover_count at ys ≡ min 1 (cover_count at xs)
  pub origin : (at byte : ℕ) → Any (RunHolds at byte) ys → Any (RunHolds at byte) xs

-- each run starts at or below all later ones
abbrev pub Rises : List PieceView → Type 0
Rises [] = Unit {0}
Rises (r ∷ rs) = All (λ (q : PieceView). r.offset ≤ q.offset) rs × Rises rs

-- whether a run uses most of its memory
abbrev pub is_compact : PieceView → Bool
is_compact r = r.compact || nat_le r.allocation_size (length r.bytes * 6 / 5)

-- where the first of some runs starts
abbrev pub first_offset : List PieceView → Option ℕ
first_offset [] = None
first_offset (r ∷ rs) = Some r.offset

-- whether a run touches neither what ends at `end` nor what starts at `next`
abbrev pub is_alone : ℕ → PieceView → Option ℕ → Bool
is_alone end r None = nat_lt end r.offset
is_alone end r (Some next) = nat_lt end r.offset && nat_lt (run_end r) next

-- whether what lies above `end` of a run stays: it uses most of its memory, and has at least so many bytes or touches no other
unfoldable pub stays : ℕ → ℕ → PieceView → Option ℕ → Bool
stays least end r next = is_compact (cut_at end r) && (nat_le least (length (cut_at end r).bytes) || is_alone end r next)

-- whether it is copied
abbrev pub is_joined : ℕ → ℕ → PieceView → Option ℕ → Bool
is_joined least end r next = not (stays least end r next)

-- of a run what lies above `end`, if it passed a test
abbrev pub seen : Bool → ℕ → PieceView → List PieceView
seen passed end r = if nat_le (run_end r) end then [] else (if passed then cut_at end r ∷ [] else [])

-- of runs in order what lies above `end` and above each run before, where it passes a test of `end`, the run, and where the next one starts
abbrev pub parts_where : (ℕ → PieceView → Option ℕ → Bool) → ℕ → List PieceView → List PieceView
parts_where test end [] = []
parts_where test end (r ∷ rs) = seen (test end r (first_offset rs)) end r ++ parts_where test (max end (run_end r)) rs

-- all the memory of a run that compaction made or kept is its bytes
pub record IsTight (r : PieceView) : Type 0 where
  pub allocation : r.allocation_size ≡ length r.bytes
  pub compact : r.compact ≡ true

-- ys hold what xs hold and what r holds
pub record Adds (r : PieceView) (xs ys : List PieceView) : Type 0 where
  pub count : (at : ℕ) → cover_count at ys ≡ cover_count at xs + covers at r
  pub origin : (at byte : ℕ) → Any (RunHolds at byte) ys → Any (RunHolds at byte) xs ⊎ RunHolds at byte r

-- ys hold what xs hold and what is seen of a run
pub record AddsSeen (passed : Bool) (end : ℕ) (r : PieceView) (xs ys : List PieceView) : Type 0 where
  pub count : (at : ℕ) → cover_count at ys ≡ cover_count at xs + cover_count at (seen passed end r)
  pub origin : (at byte : ℕ) → Any (RunHolds at byte) ys → Any (RunHolds at byte) xs ⊎ RunHolds at byte r

-- ys hold what xs hold and what is seen of all runs
pub record AddsPart (test : ℕ → PieceView → Option ℕ → Bool) (rs xs ys : List PieceView) : Type 0 where
  pub count : (at : ℕ) → cover_count at ys ≡ cover_count at xs + cover_count at (parts_where test 0 rs)
  pub origin : (at byte : ℕ) → Any (RunHolds at byte) ys → Any (RunHolds at byte) xs ⊎ Any (RunHolds at byte) rs

-- how many pieces there are, with one that is being joined, unless it is empty
abbrev pub slots : PieceView → List PieceView → ℕ
slots joined rs = length rs + min 1 (length joined.bytes)

-- one run more, unless it is empty
abbrev pub with_run : PieceView → List PieceView → List PieceView
with_run r rs = cond (nat_lt 0 (length r.bytes)) (r ∷ rs) rs

-- all but `rest` was seen: ys hold what xs hold, and what was seen so far
pub record HasSeen (test : ℕ → PieceView → Option ℕ → Bool) (all rest xs ys : List PieceView) (end : ℕ) : Type 0 where
  pub count : (at : ℕ) → cover_count at ys + cover_count at (parts_where test end rest) ≡ cover_count at xs + cover_count at (parts_where test 0 all)
  pub origin : (at byte : ℕ) → Any (RunHolds at byte) ys → Any (RunHolds at byte) xs ⊎ Any (RunHolds at byte) all
  pub left : (at byte : ℕ) → Any (RunHolds at byte) rest → Any (RunHolds at byte) all
  pub some : All IsSome rest
