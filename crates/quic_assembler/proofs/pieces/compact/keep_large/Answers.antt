use Rattle.std.proofs.Common.{arith, reverse}
use Rattle.quic_assembler.specs.Compact.{stays}
use Rattle.quic_assembler.proofs.Parts.{seen_next, part_length, reverse_last}
use Rattle.quic_assembler.proofs.pieces.compact.keep_large.Goals as goal

pub loop-piece-preserved : goal.loop-piece-preserved
loop-piece-preserved c =
    let rest = reverse_last _ _ c.in-Some.piece c.in-Some.ensures.items in
    let seen = rw rest at c.loop-piece.invariant.seen in
    let length_is = rw rest at c.loop-piece.invariant.length_is in
    let next = rw c.as_slice.ensures.value at c.last_offset-next.ensures in
    record {
      seen = rw c.keep_next-end.ensures.end (seen_next _ _ _ _ _ _ _ c.in-Some.piece seen (rw next at c.keep_next-end.ensures.adds));
      tight = c.keep_next-end.ensures.tight;
      length_is = rw c.keep_next-end.ensures.end (omega (arith, length_is, rw next at c.keep_next-end.ensures.len, part_length (stays c.args.least) c.loop-piece.end c.in-Some.piece (reverse c.pop.new.self.items)));
      room = omega (arith, c.loop-piece.invariant.room, c.keep_next-end.ensures.room);
    }
