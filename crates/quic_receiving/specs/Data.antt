-- What a receive half holds, by the frames that it kept and the chunks that it gave.
use Rattle.std.specs.Prelude.{◌≡◌, ℕ, ◌+◌, ◌≤◌, ◌<◌, ◌⊎◌, Bool, true, false, ◌||◌, if◌then◌else◌, List, [], ◌∷◌, length}
use Rattle.quic_assembler.specs.Piece.{lies, IsByteAt}
use Rattle.quic_assembler.specs.Reassembly.{Reassembly, Holds, is_done, IsHeld}
use Rattle.quic_receiving.specs.Counted.{number}

-- bytes of a stream, and where they stand
pub record Slice : Type 0 where
  pub offset : ℕ
  pub bytes : List ℕ

-- one of the slices has this byte there
abbrev pub Carries : List Slice → ℕ → ℕ → Type 0
Carries [] at byte = ⊥
Carries (s ∷ ss) at byte = IsByteAt s.offset s.bytes at byte ⊎ Carries ss at byte

-- whether one of the slices has a byte there
abbrev pub is_in_slices : List Slice → ℕ → Bool
is_in_slices [] at = false
is_in_slices (s ∷ ss) at = lies s.offset (s.offset + length s.bytes) at || is_in_slices ss at

-- what a reassembler holds once it kept some frames and gave some chunks
pub record IsData (kept given : List Slice) (a : Reassembly) : Type 0 where
  -- each byte that is held came in a kept frame
  pub held : (at byte : ℕ) → Holds a at byte → Carries kept at byte
  -- each byte that was given came in one
  pub came : (at byte : ℕ) → Carries given at byte → Carries kept at byte
  -- what came was given, or is held
  pub complete : (at : ℕ) → is_in_slices kept at ≡ true → (is_in_slices given at ≡ true) ⊎ IsHeld (Holds a) at
  -- what was given is not held, so that no byte is given twice
  pub once : (at : ℕ) → is_in_slices given at ≡ true → IsHeld (Holds a) at → ⊥
  -- what is taken no more: in ordered mode what was given, in unordered mode what came
  pub done : (at : ℕ) → is_done a at ≡ (if a.ordered then is_in_slices given at else is_in_slices kept at)
  -- as many offsets were given as bytes
  pub count : (n : ℕ) → a.highest ≤ n → number (is_in_slices given) n ≡ a.bytes_read
  -- what came lies below the highest end
  pub within : (at : ℕ) → is_in_slices kept at ≡ true → at < a.highest

-- every byte below a final size was given
abbrev pub IsAllGiven : List Slice → ℕ → Type 0
IsAllGiven given size = (at : ℕ) → at < size → is_in_slices given at ≡ true
