use Rattle.std.proofs.Common.{◌∙◌, refl, sym, arith}
use Rattle.quic_sending.proofs.Chunks.{cut_piece-zero}
use Rattle.quic_sending.proofs.source.BytesArray.from_chunks.Goals as goal

pub invariant_of-result : goal.invariant_of-result
invariant_of-result c = record { in_range = omega arith; taken = refl; is_part = c.new.ensures ∙ sym (cut_piece-zero c.args.chunks.now) }
