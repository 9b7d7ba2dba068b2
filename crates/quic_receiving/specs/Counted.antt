-- What was read lies within what came.
use Rattle.std.specs.Prelude.{ℕ, zero, suc, ◌+◌, ◌≤◌, ◌<◌, Bool, true, false, not, ◌&&◌, ◌⊎◌, cond}
use Rattle.std.proofs.Common.{inl, inr}
use Rattle.quic_assembler.specs.Reassembly.{Reassembly, Holds, is_done}
use Rattle.quic_assembler.specs.Laws.{held_or_not}

-- how many offsets below n pass a test
unfoldable pub number : (ℕ → Bool) → ℕ → ℕ
number f zero = 0
number f (suc n) = number f n + cond (f n) 1 0

-- whether it is the first of two
abbrev pub is_first : {P Q : Type 0} → P ⊎ Q → Bool
is_first (inl p) = true
is_first (inr q) = false

-- whether a byte is held at an offset
unfoldable pub is_held : Reassembly → ℕ → Bool
is_held a at = is_first (held_or_not a at)

-- whether the byte at an offset was read, or let go: it is taken no more, and is not held
unfoldable pub is_gone : Reassembly → ℕ → Bool
is_gone a at = is_done a at && not (is_held a at)

-- what is held is below the highest end, and as much as was read is gone below it
pub record IsCounted (a : Reassembly) : Type 0 where
  pub held : (at byte : ℕ) → Holds a at byte → at < a.highest
  pub read : a.bytes_read ≤ number (is_gone a) a.highest
