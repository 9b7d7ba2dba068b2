use Rattle.std.proofs.Common.{◌≡◌, ◌-◌, ◌<◌, length, ap, ◌∙◌, arith}
use Rattle.std.specs.List.{concat}
use Rattle.quic_sending.specs.Buffer.{Buffered, IsSound, piece_part}
use Rattle.quic_sending.proofs.Pieces.{piece_part-past}
use Rattle.quic_sending.proofs.Cuts.{HasCuts-part, IsFrontAt-piece_part, length-concat}
use Rattle.quic_sending.proofs.send_buffer.SendBuffer.get.Goals as goal

pub returns-clause-most : goal.returns-clause-most
returns-clause-most c =
    let front = (IsFrontAt-piece_part c.self.inside.pieces.held (c.args.range.start - c.self.inside.pieces.gone) c.saturating_sub-most.result).most in
    let size = ap length c.part.ensures in
    omega arith

pub returns-clause-unwritten : goal.returns-clause-unwritten
returns-clause-unwritten c = λ past.
    let lengths = c.self.invariant.lengths in
    let offset : c.self.inside.pieces.end ≡ c.args.self.now.offset = ap (λ (v : Buffered). v.offset) c.self.view_is in
    c.part.ensures ∙ piece_part-past c.self.inside.pieces.held _ _ (omega arith)

pub returns-clause-some : goal.returns-clause-some
returns-clause-some c = λ h w n.
    let lengths = c.self.invariant.lengths in
    let offset : c.self.inside.pieces.end ≡ c.args.self.now.offset = ap (λ (v : Buffered). v.offset) c.self.view_is in
    let prefix : c.self.inside.outcomes.prefix ≡ c.args.self.now.prefix = ap (λ (v : Buffered). v.prefix) c.self.view_is in
    let gone = c.self.invariant.gone_acked in
    let len = length-concat c.self.inside.pieces.held in
    let within : c.args.range.start - c.self.inside.pieces.gone < length (concat c.self.inside.pieces.held) = omega arith in
    let long : 0 < c.saturating_sub-most.result = omega arith in
    rw c.part.ensures ((IsFrontAt-piece_part c.self.inside.pieces.held _ _).some within long)

pub returns-clause-piece : goal.returns-clause-piece
returns-clause-piece c = λ cuts h l.
    let sound : IsSound c.args.self.now = rw (← c.self.view_is) c.self.invariant in
    let held : c.part.result.now ≡ piece_part c.args.self.now.held (c.args.range.start - c.args.self.now.gone) (c.args.range.end - c.args.range.start) = rw (← c.self.view_is, ← c.saturating_sub-most.ensures) c.part.ensures in
    held ∙ HasCuts-part c.args.self.now cuts _ _ h sound.lengths l

pub returns-clause-bytes : goal.returns-clause-bytes
returns-clause-bytes c = λ cuts h l. rw (returns-clause-piece c cuts h l) (IsFrontAt-piece_part cuts _ _)
