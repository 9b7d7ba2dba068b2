-- Streams that are marked.
use Rattle.std.specs.Prelude.{ℕ, ◌+◌, suc, zero, List, [], ◌∷◌}
use Rattle.block_map.specs.Sorted.{KeyAndValue}

-- 1 for a mark
abbrev pub mark_of : ℕ → ℕ
mark_of zero = 0
mark_of (suc n) = 1

-- how many are marked
abbrev pub mark_count : List KeyAndValue → ℕ
mark_count [] = 0
mark_count (e ∷ es) = mark_of e.1 + mark_count es
