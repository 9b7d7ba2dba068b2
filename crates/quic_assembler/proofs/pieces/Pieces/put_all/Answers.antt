use Rattle.std.proofs.Common.{arith, refl}
use Rattle.std.proofs.lemmas.List.Elements.{All-head, All-tail}
use Rattle.std.proofs.lemmas.List.Sorted.{length_permutation, IsPermutation-refl, IsPermutation-sym, IsPermutation-trans, IsPermutation-middle, IsPermutation-append_right}
use Rattle.std.specs.Vec.Iter.{into_iter_items}
use Rattle.quic_assembler.specs.Piece.{IsSome}
use Rattle.quic_assembler.proofs.Counts.{nothing_before}
use Rattle.quic_assembler.proofs.pieces.Pieces.put_all.Goals as goal

pub loop-piece-init : goal.loop-piece-init
loop-piece-init c = rw c.into_iter-piece-iterator.ensures.into_iter_gives.0 (record {
  some = c.requires.some;
  put = IsPermutation-refl _;
  length_is = refl;
  room = omega arith;
})

pub put-requires-clause-some : goal.put-requires-clause-some
put-requires-clause-some c = All-head IsSome c.in-Some.piece _ (rw c.in-Some.ensures.steps.0 at c.loop-piece.invariant.some)

pub put-requires-clause-room : goal.put-requires-clause-room
put-requires-clause-room c =
    let length_is = rw c.in-Some.ensures.steps.0 at c.loop-piece.invariant.length_is in
    omega (arith, length_is, c.loop-piece.invariant.room, c.requires.room, c.args.pieces.ok)

pub loop-piece-preserved : goal.loop-piece-preserved
loop-piece-preserved c =
    let length_is = rw c.in-Some.ensures.steps.0 at c.loop-piece.invariant.length_is in
    let put = rw c.in-Some.ensures.steps.0 at c.loop-piece.invariant.put in
    record {
      some = All-tail IsSome c.in-Some.piece _ (rw c.in-Some.ensures.steps.0 at c.loop-piece.invariant.some);
      put = IsPermutation-trans _ _ _ put (IsPermutation-trans _ _ _ (IsPermutation-sym _ _ (IsPermutation-middle (into_iter_items c.next.new.self) c.in-Some.piece _)) (IsPermutation-append_right (into_iter_items c.next.new.self) _ _ c.put.ensures.put));
      length_is = omega (arith, length_is, length_permutation _ _ c.put.ensures.put);
      room = omega (arith, c.loop-piece.invariant.room, c.put.ensures.room);
    }

pub returns-clause-put : goal.returns-clause-put
returns-clause-put c = nothing_before _ (into_iter_items c.loop-piece.piece-iterator) _ (omega (arith, c.in-None.ensures.steps.0, c.loop-piece.piece-iterator.rest.ok)) c.loop-piece.invariant.put
