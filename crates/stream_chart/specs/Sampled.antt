-- Which rows of a run are kept.
use Rattle.std.specs.Prelude.{◌≡◌, ◌*◌, ◌-◌, ◌%◌, ◌^◌, ◌==◌, ◌<◌, ◌&&◌, ℕ, Bool, List, [], ◌∷◌, ◌++◌, length, filter, min, nat_lt, nat_le, Option, Some, slice_get, if◌then◌else◌}
use Rattle.stream_chart.specs.declared.samples.Row.{Row}

-- the rows, the first step first, and how many steps lie between two that are offered and kept
pub record Sampled : Type 0 where
  pub rows : List Row
  pub distance : ℕ

abbrev pub nothing_sampled : Sampled
nothing_sampled = record { rows = []; distance = 1 }

-- the row of a step that lies a whole number of distances behind step 0
abbrev pub is_sampled : ℕ → Row → Bool
is_sampled distance row = row.step % distance == 0

-- twice the distance, up to the greatest number of 64 bits
abbrev pub doubled : ℕ → ℕ
doubled distance = min (distance * 2) (2 ^ 64 - 1)

-- where there are 47 rows, those stay that are due at twice the distance
abbrev pub thinned : Sampled → Sampled
thinned s = if nat_le 47 (length s.rows) then record { rows = filter (is_sampled (doubled s.distance)) s.rows; distance = doubled s.distance } else s

-- one more row at the end
abbrev pub with_row : Sampled → Row → Sampled
with_row s row = record s { rows = s.rows ++ row ∷ [] }

-- a row is kept where it is due and there is room
abbrev pub with_offered : Sampled → Row → Sampled
with_offered s row = if nat_lt (length s.rows) 47 && is_sampled s.distance row then with_row s row else s

-- the last row is this one
abbrev pub EndsWithRow : Sampled → Row → Type 0
EndsWithRow s row = slice_get s.rows (length s.rows - 1) ≡ Some row
