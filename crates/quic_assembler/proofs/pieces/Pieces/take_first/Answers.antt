use Rattle.std.proofs.Common.{arith, refl}
use Rattle.std.proofs.lemmas.Result.{err_from_is_err_and}
use Rattle.std.proofs.lemmas.List.Sorted.{length_permutation}
use Rattle.quic_assembler.proofs.Runs.{KeepsFrom-cut, CoversMore-front, TakesSome-front, none_reaches}
use Rattle.quic_assembler.proofs.Sums.{reads_off}
use Rattle.quic_assembler.proofs.pieces.Pieces.take_first.Goals as goal

pub returns-then-not-reaches-clause-ok : goal.returns-then-not-reaches-clause-ok
returns-then-not-reaches-clause-ok c = record {
  none = λ byte a. none_reaches _ _ (c.if-not-reaches.ensures.no refl) byte (c.drop_stale.ensures.kept.keeps _ byte (omega arith) a);
  kept = c.drop_stale.ensures.kept;
}

pub returns-in_err-bytes-clause-err : goal.returns-in_err-bytes-clause-err
returns-in_err-bytes-clause-err c =
    let p = err_from_is_err_and c.from_residual.result c.from_residual.ensures.1 in
    let r = c.pop_first-piece.result in
    let ends = rw (← c.pop_first-piece.ensures.first) at (c.drop_stale.ensures.fresh r (omega (arith, length_permutation _ _ c.pop_first-piece.ensures.popped))) in
    rw p.1 (KeepsFrom-cut _ _ _ _ _ r (omega arith) c.drop_stale.ensures.kept c.pop_first-piece.ensures.popped (rw c.cut_below.ensures.cut at c.in_err-bytes.ensures.err))

pub returns-in_err-bytes-clause-err_more : goal.returns-in_err-bytes-clause-err_more
returns-in_err-bytes-clause-err_more c =
    let p = err_from_is_err_and c.from_residual.result c.from_residual.ensures.1 in
    let r = c.pop_first-piece.result in
    let starts = rw (← c.pop_first-piece.ensures.first) at (c.if-not-reaches.ensures.yes r refl) in
    let ends = rw (← c.pop_first-piece.ensures.first) at (c.drop_stale.ensures.fresh r (omega (arith, length_permutation _ _ c.pop_first-piece.ensures.popped))) in
    rw p.1 (CoversMore-front _ _ _ _ _ r c.drop_stale.ensures.kept c.pop_first-piece.ensures.popped starts ends (rw c.cut_below.ensures.cut at c.in_err-bytes.ensures.err_part))

pub returns-in_err-bytes-clause-len : goal.returns-in_err-bytes-clause-len
returns-in_err-bytes-clause-len c = omega (arith, length_permutation _ _ c.pop_first-piece.ensures.popped)

pub returns-clause-len : goal.returns-clause-len
returns-clause-len c = omega (arith, length_permutation _ _ c.pop_first-piece.ensures.popped)

pub returns-clause-ok : goal.returns-clause-ok
returns-clause-ok c =
    let r = c.pop_first-piece.result in
    let starts = rw (← c.pop_first-piece.ensures.first) at (c.if-not-reaches.ensures.yes r refl) in
    let ends = rw (← c.pop_first-piece.ensures.first) at (c.drop_stale.ensures.fresh r (omega (arith, length_permutation _ _ c.pop_first-piece.ensures.popped))) in
    TakesSome-front _ _ _ _ _ _ _ r c.drop_stale.ensures.kept c.pop_first-piece.ensures.popped starts ends c.pop_first-piece.ensures.sound.below
    (rw c.cut_below.ensures.cut at c.in_ok-bytes.ensures.value)
    (rw c.cut_below.ensures.cut at c.in_ok-bytes.ensures.part)
    (rw c.cut_below.ensures.cut at c.in_ok-bytes.ensures.whole)

pub returns-clause-off : goal.returns-clause-off
returns-clause-off c =
    reads_off _ _ _ _ _ _ _ c.pop_first-piece.result c.drop_stale.ensures.sheds c.pop_first-piece.ensures.popped
    (rw c.cut_below.ensures.cut at c.in_ok-bytes.ensures.value)
    (rw c.cut_below.ensures.cut at c.in_ok-bytes.ensures.part)
    (rw c.cut_below.ensures.cut at c.in_ok-bytes.ensures.whole)
