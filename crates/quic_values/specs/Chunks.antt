-- Bytes that stand one behind the other, and where they are parted.
use Rattle.std.specs.Prelude.{◌≡◌, ◌≤◌, ℕ, List, [], ◌∷◌}
use Rattle.std.specs.List.{slice_range}

-- the parts of some bytes that end at these offsets, where the first begins at `start`
abbrev pub parted_at : ℕ → List ℕ → List ℕ → List (List ℕ)
parted_at start bytes [] = []
parted_at start bytes (end ∷ ends) = slice_range bytes start end ∷ parted_at end bytes ends

-- offsets from `start` on that do not fall, the last of which is `limit`
abbrev pub ReachesFrom : ℕ → List ℕ → ℕ → Type 0
ReachesFrom start [] limit = start ≡ limit
ReachesFrom start (end ∷ ends) limit = (start ≤ end) × ReachesFrom end ends limit
