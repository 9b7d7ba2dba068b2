-- Numbers that C hands in, and what they name.
use Rattle.std.specs.Prelude.{ℕ, ◌==◌, ◌-◌, ◌^◌, nat_lt, if◌then◌else◌, Option, Some, None}
use Rattle.quic_values.specs.declared.ids.Dir.{Dir}
use Rattle.quic_values.specs.declared.ids.Dir.TheVariants.{Bi, Uni}

-- 0 is bidirectional, 1 unidirectional, and others name nothing
abbrev pub dir_at : ℕ → Option Dir
dir_at n = if n == 0 then Some Bi else (if n == 1 then Some Uni else None)

-- a number that can be encoded (RFC 9000 section 16)
abbrev pub small : ℕ → Option ℕ
small n = if nat_lt n (2 ^ 62) then Some n else None

-- the number of a direction
abbrev pub direction_number : Dir → ℕ
direction_number Bi = 0
direction_number Uni = 1

-- a length, and none for the greatest number
abbrev pub length_at : ℕ → Option ℕ
length_at n = if n == 2 ^ 64 - 1 then None else Some n
