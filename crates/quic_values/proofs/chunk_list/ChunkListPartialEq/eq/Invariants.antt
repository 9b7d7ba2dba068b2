use Rattle.std.proofs.Common.{◌≡◌, ◌==◌, drop}
use Rattle.std.specs.Cmp.Lexicographic.{pointwise}
use Rattle.quic_values.proofs.chunk_list.ChunkListPartialEq.eq.Given as goal

-- those before were alike
abbrev pub invariant-loop-index : goal.invariant-loop-index
invariant-loop-index l = pointwise (pointwise ◌==◌) l.self l.other ≡ pointwise (pointwise ◌==◌) (drop l.index l.self) (drop l.index l.other)
