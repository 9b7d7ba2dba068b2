-- What offsets and counts of streams say, whichever crate asks.
use Rattle.std.specs.Prelude.{ℕ, Bool, false, ◌+◌, ◌-◌, ◌^◌, ◌==◌, ◌&&◌, ◌||◌, not, min, nat_lt, Option, Some, None}

-- whether a frame that ends at `end` lies past a final size, or ends the stream elsewhere (RFC 9000 section 4.5)
abbrev pub is_past : Option ℕ → ℕ → Bool → Bool
is_past None end fin = false
is_past (Some size) end fin = nat_lt size end || (fin && not (end == size))

-- one more, up to the greatest number of 64 bits
abbrev pub one_more : ℕ → ℕ
one_more n = min (n + 1) (2 ^ 64 - 1)
