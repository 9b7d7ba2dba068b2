use Rattle.std.proofs.Common.{arith, ap}
use Rattle.quic_assembler.specs.Piece.{PieceView}
use Rattle.quic_assembler.proofs.Fresh.{fronts_none, fronts_split}
use Rattle.quic_ordered.proofs.unreceived.split_fresh.Goals as goal

pub returns-then-offset-start : goal.returns-then-offset-start
returns-then-offset-start c = fronts_none _ _ _ (omega arith)

pub returns : goal.returns
returns c =
    let f = c.in_ok-front.ensures.front in
    fronts_split _ _ _ c.in_ok-front.front _ _ (omega (arith, c.requires.from, c.offset.ensures)) c.requires.to c.in_ok-front.ensures.rest (ap (λ (r : PieceView). r.offset) f) (ap (λ (r : PieceView). r.bytes) f) (ap (λ (r : PieceView). r.allocation_size) f) c.in_ok-front.ensures.rest_memory c.in_ok-push.ensures.items
