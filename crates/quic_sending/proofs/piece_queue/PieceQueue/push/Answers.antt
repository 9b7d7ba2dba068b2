use Rattle.std.proofs.Common.{◌≡◌, ◌<◌, ◌∷◌, [], ap, length, refl, arith}
use Rattle.quic_sending.specs.Buffer.{Queued, total_length}
use Rattle.quic_sending.specs.Pieces.{contents}
use Rattle.quic_sending.proofs.Pieces.{total-append}
use Rattle.quic_sending.proofs.Laid.{contents-append, IsLaidOut-push}
use Rattle.quic_sending.proofs.piece_queue.PieceQueue.push.Goals as goal

pub invariant_of-self-2 : goal.invariant_of-self-2
invariant_of-self-2 c =
    let same : c.self.inside.end ≡ c.args.self.now.end = ap (λ (v : Queued). v.end) c.self.view_is in
    let lengths = c.self.invariant.1 in
    let all = contents-append c.self.inside.pieces.items (record { start = c.self.inside.end; bytes = c.args.piece } ∷ []) in
    let sums = total-append (contents c.self.inside.pieces.items) (c.args.piece ∷ []) in
    let joined = ap total_length all in
    let filled : 0 < length c.args.piece = omega arith in
    rw c.in_ok-push_back.ensures.items (IsLaidOut-push c.self.inside.gone _ _ c.self.invariant.0 (omega arith) filled, omega arith, omega arith)

pub returns-clause-ok : goal.returns-clause-ok
returns-clause-ok c =
    let all = contents-append c.self.inside.pieces.items (record { start = c.self.inside.end; bytes = c.args.piece } ∷ []) in
    rw (← c.self.view_is, c.in_ok-push_back.ensures.items, all, c.len-len.ensures) refl
