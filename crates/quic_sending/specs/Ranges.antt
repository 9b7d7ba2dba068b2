-- Sets of offsets, as `quic_values` has them, and their lowest runs.
use Rattle.std.specs.Prelude.{◌≡◌, ℕ, ◌<◌, false, List}
use Rattle.quic_ranges.specs.Runs.{Run, contains, range_of, IsRunOf}

-- nothing is in the set
abbrev pub IsNothing : List Run → Type 0
IsNothing s = (n : ℕ) → contains s n ≡ false

-- from a up to b is the lowest run of the set
pub record IsLowestRun (s : List Run) (a b : ℕ) : Type 0 where
  pub run : IsRunOf s (range_of (a, b))
  pub lowest : (n : ℕ) → n < a → contains s n ≡ false
