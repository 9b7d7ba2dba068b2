use Rattle.std.proofs.Common.{sym, subst, ap, ◌∙◌, ◌≡◌, ℕ, Some, arith}
use Rattle.quic_assembler.specs.Piece.{PieceView}
use Rattle.quic_ordered.specs.Entries.{piece_at}
use Rattle.quic_ordered.proofs.Joining.{begin, begin_with}
use Rattle.quic_ordered.proofs.gaps.base_of.Goals as goal
use Rattle.quic_ordered.proofs.gaps.base_of.Goals.{in-Some, in_default}

pub returns-clause-joins : goal.returns-clause-joins
returns-clause-joins c =
    let f = c.requires.spans.from in
    let t = c.requires.spans.to in
    let n = c.requires.some in
    let at = ap (λ (r : PieceView). r.offset) c.new-2.ensures in
    let here = subst (λ (k : ℕ). piece_at c.insert.new.self k ≡ Some c.new-2.result) at c.in_ok-first.ensures.here in
    let others : (x : ℕ) → (x ≡ c.args.start → ⊥) → piece_at c.insert.new.self x ≡ piece_at c.args.pieces.now x = λ x ne. c.in_ok-first.ensures.others x (λ same. ne (same ∙ at)) in
    let old = c.in_ok-first.ensures.old ∙ ap (piece_at c.args.pieces.now) at in
    elim c.match-first.branch [
      | in-Some w ↦ rw w.base-is (begin_with _ _ c.args.new.now w.in-Some.piece c.in_ok-base.base c.write.new.self w.write-in-Some.new.self _ c.args.start c.args.end c.requires.spans c.requires.some (omega arith)
          c.in_ok-base.ensures.offset c.in_ok-base.ensures.len here others c.write.ensures.written w.write-in-Some.ensures.written (sym old ∙ w.in-Some.is))
      | in_default w ↦ rw w.base-is (begin _ _ c.args.new.now c.in_ok-base.base c.write.new.self _ c.args.start c.args.end c.requires.spans c.requires.some (omega arith)
          c.in_ok-base.ensures.offset c.in_ok-base.ensures.len here others c.write.ensures.written (sym old ∙ w.in_default.is))
    ]
