-- What became of offsets: which are acknowledged, and which are lost.
use Rattle.std.specs.Prelude.{◌≡◌, ℕ, ◌<◌, ◌≤◌, Bool, ◌||◌, true, false, List, [], ◌∷◌, ◌++◌, nat_lt, min, max, if◌then◌else◌}
use Rattle.std.specs.declared.ops.Range.{Range}
use Rattle.quic_ranges.specs.Runs.{Run, contains}
use Rattle.quic_sending.specs.Ranges.{IsNothing, IsLowestRun}

-- a run, or none where it has no number
abbrev pub run_of : ℕ → ℕ → List Run
run_of a b = if nat_lt a b then (a, b) ∷ [] else []

-- the numbers of a set that are not in a run
abbrev pub minus_run : List Run → Run → List Run
minus_run [] q = []
minus_run (r ∷ rs) q = run_of r.0 (min r.1 q.0) ++ (run_of (max r.0 q.1) r.1 ++ minus_run rs q)

-- the numbers of a set that are in none of these runs
abbrev pub minus : List Run → List Run → List Run
minus s [] = s
minus s (q ∷ qs) = minus (minus_run s q) qs

-- what is known of offsets
pub record Answered : Type 0 where
  -- all below this one are acknowledged, and this one is not
  pub prefix : ℕ
  -- the acknowledged ones above that
  pub later : List Run
  -- the lost ones, none of them acknowledged
  pub lost : List Run

-- whether an offset is below the prefix or among the later ones
abbrev pub is_answered : ℕ → List Run → ℕ → Bool
is_answered prefix later n = nat_lt n prefix || contains later n

-- a range is the lowest run of a set, or is empty where the set is
pub record IsLowestOrNone (s : List Run) (range : Range ℕ) : Type 0 where
  pub run : range.start < range.end → IsLowestRun s range.start range.end
  pub none : range.end ≤ range.start → IsNothing s

-- the lowest numbers of a range that are not in a set
pub record IsGap (s : List Run) (range gap : Range ℕ) : Type 0 where
  pub from : range.start ≤ gap.start
  pub to : gap.end ≤ range.end
  -- before it
  pub before : (n : ℕ) → range.start ≤ n → n < gap.start → n < range.end → contains s n ≡ true
  pub outside : (n : ℕ) → gap.start ≤ n → n < gap.end → contains s n ≡ false
  pub ends : gap.start < gap.end → gap.end < range.end → contains s gap.end ≡ true
  pub full : gap.end ≤ gap.start → range.end ≤ gap.start

-- a set without the runs that touch the numbers below a: with them there is no gap up to e
pub record Joins (a e : ℕ) (later later' : List Run) : Type 0 where
  pub same : (n : ℕ) → (nat_lt n e || contains later' n) ≡ (nat_lt n a || contains later n)
  pub above : (n : ℕ) → contains later' n ≡ true → e < n
  pub grows : a ≤ e
