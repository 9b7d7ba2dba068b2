use Rattle.std.proofs.Common.{arith, sym}
use Rattle.quic_assembler.proofs.Parts.{seen_kept, adds_seen, cut_at-max, not_kept}
use Rattle.quic_assembler.proofs.pieces.compact.join_next.Goals as goal

pub join-requires-clause-to : goal.join-requires-clause-to
join-requires-clause-to c = omega (arith, c.end-stop.ensures.value, c.max.ensures, c.offset.ensures)

pub returns-clause-adds : goal.returns-clause-adds
returns-clause-adds c =
    let copied = not_kept _ (sym c.if-is_kept.ensures) in
    adds_seen _ c.args.end c.args.piece.now _ _ (seen_kept _ c.args.end c.args.piece.now (omega (arith, c.end-stop.ensures.value)) copied)
    (rw (c.max.ensures, c.offset.ensures, cut_at-max) at c.in_ok-join.ensures.adds)

pub returns-clause-len : goal.returns-clause-len
returns-clause-len c =
    let copied = not_kept _ (sym c.if-is_kept.ensures) in
    rw (seen_kept _ c.args.end c.args.piece.now (omega (arith, c.end-stop.ensures.value)) copied) (omega (arith, c.in_ok-join.ensures.len))
