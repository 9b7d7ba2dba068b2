use Rattle.std.proofs.Common.{IfSome}
use Rattle.block_map.specs.Rows.{IsPlace}
use Rattle.block_map_tests.proofs.tests.are_same.Given as goal

abbrev pub invariant-loop-key : goal.invariant-loop-key
invariant-loop-key g l =
    (goal.iterator-loop-key g).can_next l.key-iterator
    × (goal.iterator-loop-key g).is_finite l.key-iterator
    × IfSome l.place (λ p. IsPlace l.map.rows p.block p.index)
