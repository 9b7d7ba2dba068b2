-- The memory of a row.
use Rattle.std.proofs.Common.{ℕ, ◌≤◌, arith}
use Rattle.block_map.specs.Rows.{IsRowMemory}

pub memory_less : (capacity n k : ℕ) → IsRowMemory capacity n → k ≤ n → IsRowMemory capacity k
memory_less capacity n k m le = record {
  few = m.few;
  many = λ lt. m.many (omega (arith, lt, le));
}

pub memory_full : (capacity n : ℕ) → 64 ≤ capacity → IsRowMemory capacity n
memory_full capacity n full = record {
  few = omega (arith, full);
  many = λ _. full;
}
