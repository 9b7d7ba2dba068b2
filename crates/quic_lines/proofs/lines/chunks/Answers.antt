use Rattle.std.proofs.Common.{◌∙◌, length, ap, sym, lit<}
use Rattle.std.specs.Str.Iter.{split_text, split_has_more, split_pattern}
use Rattle.std.proofs.lemmas.Iterator.Consumers.{YieldsList-turn}
use Rattle.std.proofs.lemmas.Iterator.Splits.{YieldsList-from_str_split}
use Rattle.std.proofs.lemmas.Result.{err_from_is_err_and}
use Rattle.quic_lines.proofs.Parts.{no_chunks}
use Rattle.quic_lines.proofs.lines.chunks.Goals as goal

pub returns-in_err-chunk-clause-none : goal.returns-in_err-chunk-clause-none
returns-in_err-chunk-clause-none c =
    let p = err_from_is_err_and c.from_residual-in_err-chunk.result c.from_residual-in_err-chunk.ensures.1 in
    let split = c.split-part-items.ensures in
    let gives = c.into_iter-part-iterator.ensures.into_iter_gives in
    let turn = YieldsList-turn (YieldsList-from_str_split 44 c.args.field.now (lit< tt) (ap split_text gives ∙ split.text) (ap split_has_more gives ∙ split.has_more) (ap split_pattern gives ∙ split.pattern)) c.loop-part.yielded _ c.loop-part.yielded_by _ _ c.in-Some.part c.in-Some.is c.next.ensures.steps in
    rw p.1 (λ e. no_chunks c.args.field.now c.in-Some.part.now (length c.loop-part.yielded) turn.0 turn.1 (c.in_err-chunk.ensures.none (sym p.2 ∙ e)))
