-- Numbers of variable length: big-endian, and the two highest bits of the first byte give the length.
use Rattle.std.specs.Prelude.{◌≡◌, ℕ, ◌+◌, ◌*◌, ◌^◌, ◌<◌, List, [], ◌∷◌, ◌++◌, ◌⊎◌, nat_lt, if◌then◌else◌}
use Rattle.std.specs.Int.{w16, w32, w64, to_be_bytes}

-- the spellings in one, two, four and eight bytes
abbrev pub in_one : ℕ → List ℕ
in_one n = n ∷ []

abbrev pub in_two : ℕ → List ℕ
in_two n = to_be_bytes w16 (1 * 2 ^ 14 + n)

abbrev pub in_four : ℕ → List ℕ
in_four n = to_be_bytes w32 (2 * 2 ^ 30 + n)

abbrev pub in_eight : ℕ → List ℕ
in_eight n = to_be_bytes w64 (3 * 2 ^ 62 + n)

-- the bytes spell the number
abbrev pub SpellsNumber : List ℕ → ℕ → Type 0
SpellsNumber bytes n = ((n < 2 ^ 6) × (bytes ≡ in_one n)) ⊎ (((n < 2 ^ 14) × (bytes ≡ in_two n)) ⊎ (((n < 2 ^ 30) × (bytes ≡ in_four n)) ⊎ ((n < 2 ^ 62) × (bytes ≡ in_eight n))))

-- the shortest spelling
unfoldable pub shortest : ℕ → List ℕ
shortest n = if nat_lt n (2 ^ 6) then in_one n else if nat_lt n (2 ^ 14) then in_two n else if nat_lt n (2 ^ 30) then in_four n else in_eight n

-- the bytes are a spelling of the number, and then the rest
abbrev pub BeginsNumber : List ℕ → ℕ → List ℕ → Type 0
BeginsNumber bytes n rest = (text : List ℕ) × SpellsNumber text n × (bytes ≡ text ++ rest)

-- how many bytes the shortest spelling has
abbrev pub size_of : ℕ → ℕ
size_of n = if nat_lt n (2 ^ 6) then 1 else if nat_lt n (2 ^ 14) then 2 else if nat_lt n (2 ^ 30) then 4 else 8
