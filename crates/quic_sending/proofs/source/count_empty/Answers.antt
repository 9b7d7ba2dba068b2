use Rattle.std.proofs.Common.{◌≡◌, ◌+◌, ◌<◌, ap, sym, ◌∙◌, length, drop, arith}
use Rattle.std.proofs.lemmas.Bool.Decides.{nat_tests}
use Rattle.quic_sending.specs.Source.{drop_empty}
use Rattle.quic_sending.proofs.Chunks.{chunks-at, drop_empty-none, drop_empty-some}
use Rattle.quic_sending.proofs.source.count_empty.Goals as goal

pub loop-count-preserved : goal.loop-count-preserved
loop-count-preserved c =
    let here = chunks-at c.args.chunks.now _ c.index-chunks-from.result (omega arith) c.index-chunks-from.is in
    let none : length c.index-chunks-from.result ≡ 0 = grind (arith, nat_tests) in
    let next : c.args.from + c.loop-count.count + 1 ≡ c.args.from + (c.loop-count.count + 1) = omega arith in
    record {
      within = omega arith;
      same = c.loop-count.invariant.same ∙ (ap drop_empty here ∙ (drop_empty-none _ _ none ∙ ap (λ n. drop_empty (drop n c.args.chunks.now)) next));
    }

pub returns-else-is_empty-clause-left : goal.returns-else-is_empty-clause-left
returns-else-is_empty-clause-left c =
    let here = chunks-at c.args.chunks.now _ c.index-chunks-from.result (omega arith) c.index-chunks-from.is in
    let some : 0 < length c.index-chunks-from.result = grind (arith, nat_tests) in
    c.loop-count.invariant.same ∙ (ap drop_empty here ∙ (drop_empty-some _ _ some ∙ sym here))
