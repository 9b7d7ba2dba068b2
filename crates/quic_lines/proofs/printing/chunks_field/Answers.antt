use Rattle.quic_lines.proofs.Parts.{joined_more}
use Rattle.quic_lines.proofs.printing.chunks_field.Goals as goal

pub loop-index-preserved : goal.loop-index-preserved
loop-index-preserved c =
    let more = joined_more c.args.chunks.now c.loop-index.index c.in-Some.chunk.now c.comma.result.now c.in-Some.ensures.chunk c.comma.ensures.first c.comma.ensures.other in
    cc (more, c.loop-index.invariant, c.in_ok-push_str.ensures.bytes, c.in_ok-push_str-2.ensures.bytes, c.as_str.ensures.value, c.in_ok-form.ensures)
