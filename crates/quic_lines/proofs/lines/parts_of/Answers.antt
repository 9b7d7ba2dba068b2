use Rattle.std.proofs.Common.{◌∙◌, arith, ap, lit<}
use Rattle.std.specs.Prelude.{map}
use Rattle.std.specs.Str.Iter.{split_text, split_has_more, split_pattern}
use Rattle.std.proofs.lemmas.Iterator.Consumers.{YieldsList-turn, YieldsList-end}
use Rattle.std.proofs.lemmas.Iterator.Splits.{YieldsList-from_str_split}
use Rattle.quic_lines.proofs.lines.parts_of.Goals as goal

pub returns-then-len-eq-MOST_FIELDS-clause-none : goal.returns-then-len-eq-MOST_FIELDS-clause-none
returns-then-len-eq-MOST_FIELDS-clause-none c =
    let split = c.split-part-items.ensures in
    let gives = c.into_iter-part-iterator.ensures.into_iter_gives in
    let turn = YieldsList-turn (YieldsList-from_str_split 32 c.args.text.now (lit< tt) (ap split_text gives ∙ split.text) (ap split_has_more gives ∙ split.has_more) (ap split_pattern gives ∙ split.pattern)) c.loop-part.yielded _ c.loop-part.yielded_by _ _ c.in-Some.part c.in-Some.is c.next.ensures.steps in
    λ e. omega (arith, turn.0, c.loop-part.invariant.count, c.len.ensures, c.if-len-eq-MOST_FIELDS.true)

pub returns-clause-parts : goal.returns-clause-parts
returns-clause-parts c =
    let split = c.split-part-items.ensures in
    let gives = c.into_iter-part-iterator.ensures.into_iter_gives in
    let all = YieldsList-end (YieldsList-from_str_split 32 c.args.text.now (lit< tt) (ap split_text gives ∙ split.text) (ap split_has_more gives ∙ split.has_more) (ap split_pattern gives ∙ split.pattern)) c.loop-part.yielded c.loop-part.part-iterator c.loop-part.yielded_by c.next.result c.next.new.self c.in-None.is c.next.ensures.steps in
    ap (map (λ part. part.now)) c.loop-part.invariant.same ∙ all.0
