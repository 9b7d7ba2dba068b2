use Rattle.std.proofs.Common.{arith}
use Rattle.quic_ordered.proofs.Between.{ends_to, none_to, begin_behind, none_behind}
use Rattle.quic_ordered.proofs.row.PieceRow.place_for.Goals.{else-count-gt0-via-then-count-gt0+else-end-offset, else-count-gt0-via-else-count-gt0, else-behind-gt0-via-then-behind-gt0+else-offset-end, else-behind-gt0-via-else-behind-gt0}
use Rattle.quic_ordered.proofs.row.PieceRow.place_for.Goals as goal

pub returns-clause-before : goal.returns-clause-before
returns-clause-before c =
    let order = rw (← c.self.view_is) at c.requires.order in
    let fits = rw (← c.self.view_is) at c.requires.counted.fits in
    rw (← c.self.view_is)
    (elim c.else-count-gt0.branch [
      | else-count-gt0-via-then-count-gt0+else-end-offset w ↦ ends_to c.self.inside.pieces.items c.args.count c.args.offset w.index.result.now order (omega arith) fits w.index.ensures (omega (arith, w.end.ensures.value))
      | else-count-gt0-via-else-count-gt0 w ↦ none_to c.self.inside.pieces.items c.args.count c.args.offset (omega arith)
    ])

pub returns-clause-behind : goal.returns-clause-behind
returns-clause-behind c =
    let order = rw (← c.self.view_is) at c.requires.order in
    let fits = rw (← c.self.view_is) at c.requires.counted.fits in
    rw (← c.self.view_is)
    (elim c.else-behind-gt0.branch [
      | else-behind-gt0-via-then-behind-gt0+else-offset-end w ↦ begin_behind 0 c.self.inside.pieces.items c.args.count c.args.end w.index-then-behind-gt0.result.now order w.index-then-behind-gt0.ensures (omega (arith, w.offset.ensures.value))
      | else-behind-gt0-via-else-behind-gt0 w ↦ none_behind c.self.inside.pieces.items c.args.count c.args.end (omega arith)
    ])
