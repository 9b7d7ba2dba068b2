-- Bytes in a line: lower-case hexadecimal, and a dash for none.
use Rattle.std.specs.Prelude.{◌≡◌, ◌<◌, ℕ, List, [], ◌∷◌, length, map, All}
use Rattle.std.specs.List.{join_with_byte}
use Rattle.hex.specs.Hex.{encode_lower, IsBytes}

abbrev pub hex_form : List ℕ → List ℕ
hex_form [] = 45 ∷ []
hex_form (b ∷ bs) = encode_lower (b ∷ bs)

-- the text is the form of no bytes at all
abbrev pub SpellsNoBytes : List ℕ → Type 0
SpellsNoBytes text = (bytes : List ℕ) → IsBytes bytes → hex_form bytes ≡ text → ⊥

-- one or more chunks of bytes
abbrev pub AreChunks : List (List ℕ) → Type 0
AreChunks chunks = (0 < length chunks) × All IsBytes chunks

-- the text is the form of no such chunks
abbrev pub SpellsNoChunks : List ℕ → Type 0
SpellsNoChunks text = (chunks : List (List ℕ)) → AreChunks chunks → text ≡ join_with_byte 44 (map hex_form chunks) → ⊥
