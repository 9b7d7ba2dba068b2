-- Structs that may grow: lists of 64-bit words, of which the caller and the library may know different numbers. `slice_index` of such a
-- list is a word of it, and 0 for a word that the caller does not have.
use Rattle.std.specs.Prelude.{ℕ, ◌≡◌, ◌++◌, List, All, length, take, drop, replicate}

-- a caller's words after the library filled them: those that the library knows, as many as the caller has, and 0 behind them
abbrev pub words_filled : List ℕ → List ℕ → List ℕ
words_filled known was = take (length was) (known ++ replicate (length was) 0)

-- the words behind the first so many are 0
abbrev pub AreZeroFrom : ℕ → List ℕ → Type 0
AreZeroFrom known words = All (λ word. word ≡ 0) (drop known words)

-- a struct that is read, of which the library knows so many words: a caller's word that it does not know has to be 0
abbrev pub WithKnown : ℕ → List ℕ → Type 0 → Type 0 → Type 0
WithKnown known words Refused Does = (AreZeroFrom known words → Does) × ((AreZeroFrom known words → ⊥) → Refused)
