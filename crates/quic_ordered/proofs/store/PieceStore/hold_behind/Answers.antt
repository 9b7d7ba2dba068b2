use Rattle.std.proofs.Common.{List, ◌∙◌, ap, ◌++◌, ◌∷◌, []}
use Rattle.quic_assembler.specs.Piece.{PieceView}
use Rattle.quic_ordered.proofs.Stores.{pushed}
use Rattle.quic_ordered.proofs.store.PieceStore.hold_behind.Goals as goal

pub invariant_of-self-2 : goal.invariant_of-self-2
invariant_of-self-2 c =
    let ends = rw (← c.self.view_is) at c.requires.behind in
    let put = c.put_back.ensures.put ∙ ap (λ (rs : List PieceView). rs ++ c.args.piece ∷ []) c.in_ok-reserve.ensures.runs in
    pushed _ _ _ c.args.piece c.self.invariant ends c.requires.some put
