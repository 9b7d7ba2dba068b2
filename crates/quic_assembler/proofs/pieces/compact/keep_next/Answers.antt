use Rattle.std.proofs.Common.{arith, length-drop, sym}
use Rattle.std.proofs.lemmas.List.Sorted.{length_permutation, All-permutation}
use Rattle.std.proofs.lemmas.List.Elements.{All-cons}
use Rattle.quic_assembler.specs.Compact.{IsTight}
use Rattle.quic_assembler.proofs.Parts.{seen_kept, adds_seen, adds_put}
use Rattle.quic_assembler.proofs.pieces.compact.keep_next.Goals as goal

pub put-requires-clause-some : goal.put-requires-clause-some
put-requires-clause-some c = rw c.keep_from.ensures.same.bytes (simp length-drop (omega (arith, c.end-stop.ensures.value)))

pub returns-then-is_kept-clause-adds : goal.returns-then-is_kept-clause-adds
returns-then-is_kept-clause-adds c =
    let kept = sym (c.if-is_kept.ensures) in
    adds_seen _ c.args.end c.args.piece _ _ (seen_kept _ c.args.end c.args.piece (omega arith) kept) (adds_put _ c.keep_from.new.self _ _ c.keep_from.ensures.same c.put.ensures.put)

pub returns-then-is_kept-clause-tight : goal.returns-then-is_kept-clause-tight
returns-then-is_kept-clause-tight c = All-permutation IsTight _ _ c.put.ensures.put (All-cons IsTight _ _ c.keep_from.ensures.tight c.requires.tight)

pub returns-then-is_kept-clause-len : goal.returns-then-is_kept-clause-len
returns-then-is_kept-clause-len c =
    let kept = sym (c.if-is_kept.ensures) in
    rw (seen_kept _ c.args.end c.args.piece (omega arith) kept) (omega (arith, length_permutation _ _ c.put.ensures.put))
