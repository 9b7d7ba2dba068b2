-- Structs that are read, of which a caller may have words that the library does not know.
use Rattle.std.proofs.Common.{◌≡◌, ◌↔◌, ℕ, List, Bool, true, false, IsTrue}
use Rattle.quic_streams_c.specs.Words.{AreZeroFrom, WithKnown}

pub unknown-refused : (known : ℕ) (words : List ℕ) (zero : Bool) (Refused Does : Type 0) → (IsTrue zero ↔ AreZeroFrom known words) → zero ≡ false → Refused → WithKnown known words Refused Does
unknown-refused known words zero Refused Does tells is r = ((λ all. let it : zero ≡ true = tells.1 all in cc), λ some. r)

pub known-taken : (known : ℕ) (words : List ℕ) (zero : Bool) (Refused Does : Type 0) → (IsTrue zero ↔ AreZeroFrom known words) → zero ≡ true → Does → WithKnown known words Refused Does
known-taken known words zero Refused Does tells is d = ((λ all. d), λ some. absurd (some (tells.0 is)))
