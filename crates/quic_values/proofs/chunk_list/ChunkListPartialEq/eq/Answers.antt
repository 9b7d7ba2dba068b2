use Rattle.std.proofs.Common.{◌∙◌, arith, sym}
use Rattle.quic_values.proofs.Parts.{compared}
use Rattle.quic_values.proofs.chunk_list.ChunkListPartialEq.eq.Goals as goal

pub returns-then-ne : goal.returns-then-ne
returns-then-ne c =
    let told = compared (λ x. x.now) c.args.self.now c.args.other.now c.loop-index.index c.get.result c.get-in-loop-index.result c.ne.result (omega (arith, c.loop-index-test.true, c.len-index-end.ensures)) (omega (arith, c.loop-index-test.true, c.len-index-end.ensures, c.if-len.false, c.len.ensures, c.len-2.ensures)) c.get.ensures.chunk c.get.ensures.none c.get-in-loop-index.ensures.chunk c.get-in-loop-index.ensures.none c.ne.ensures in
    sym (c.loop-index.invariant ∙ rw c.if-ne.true at told)

pub loop-index-preserved : goal.loop-index-preserved
loop-index-preserved c =
    let told = compared (λ x. x.now) c.args.self.now c.args.other.now c.loop-index.index c.get.result c.get-in-loop-index.result c.ne.result (omega (arith, c.loop-index-test.true, c.len-index-end.ensures)) (omega (arith, c.loop-index-test.true, c.len-index-end.ensures, c.if-len.false, c.len.ensures, c.len-2.ensures)) c.get.ensures.chunk c.get.ensures.none c.get-in-loop-index.ensures.chunk c.get-in-loop-index.ensures.none c.ne.ensures in
    c.loop-index.invariant ∙ rw c.if-ne.false at told
