use Rattle.std.proofs.Common.{◌≡◌, ◌≤◌, ◌<◌, ◌-◌, length, min, sym, ap, ◌∙◌, arith}
use Rattle.quic_sending.specs.Buffer.{Queued}
use Rattle.quic_sending.proofs.Laid.{piece_part-none, piece_part-counted, piece_part-slice, piece_part-end}
use Rattle.quic_sending.proofs.piece_queue.PieceQueue.part.Goals as goal

pub returns-then-count-eq0 : goal.returns-then-count-eq0
returns-then-count-eq0 c =
    let gone : c.self.inside.gone ≡ c.args.self.now.gone = ap (λ (v : Queued). v.gone) c.self.view_is in
    let from : c.self.inside.gone ≤ c.args.start = omega arith in
    rw (← c.self.view_is) (sym (piece_part-none c.self.inside.gone c.self.inside.pieces.items c.args.start c.args.most c.self.invariant.0 from (λ d l. c.count_up_to-count.ensures.behind 0 d (omega arith) l)))

pub returns-then-at-len : goal.returns-then-at-len
returns-then-at-len c =
    let end : length c.index-piece.result.now.bytes ≤ c.args.start - c.index-piece.result.now.start = omega arith in
    rw (← c.self.view_is)
    (sym
    (piece_part-counted c.self.inside.gone c.self.inside.pieces.items c.count_up_to-count.result c.index-piece.result.now c.args.start c.args.most c.self.invariant.0 c.count_up_to-count.ensures c.if-count-eq0.false c.index-piece.ensures
    ∙ piece_part-end c.index-piece.result.now.bytes _ c.args.most end))

pub returns : goal.returns
returns c =
    let within : c.args.start - c.index-piece.result.now.start < length c.index-piece.result.now.bytes = omega arith in
    let size : c.min.result ≡ min c.args.most (length c.index-piece.result.now.bytes - (c.args.start - c.index-piece.result.now.start)) = omega arith in
    rw (← c.self.view_is)
    (piece_part-slice c.index-piece.result.now.bytes c.as_slice.result.now (c.args.start - c.index-piece.result.now.start) c.args.most c.min.result within c.as_slice.ensures size
    ∙ sym (piece_part-counted c.self.inside.gone c.self.inside.pieces.items c.count_up_to-count.result c.index-piece.result.now c.args.start c.args.most c.self.invariant.0 c.count_up_to-count.ensures c.if-count-eq0.false c.index-piece.ensures))
