use Rattle.std.proofs.Common.{arith, ap, sym, ◌∙◌, inl, inr}
use Rattle.std.proofs.lemmas.Bool.{cases_eq}
use Rattle.quic_assembler.specs.Piece.{run_end}
use Rattle.quic_ordered.specs.Entries.{piece_at}
use Rattle.quic_ordered.proofs.Held.{covered, some_is, none_some}
use Rattle.quic_ordered.proofs.gaps.start_of.Goals as goal

pub returns-in-Some-clause-left : goal.returns-in-Some-clause-left
returns-in-Some-clause-left c =
    let last = c.in-Some.ensures.found in
    let e = last.ends in
    λ at low high. covered _ _ at last.run c.requires last.found low (omega arith)

pub returns-in-Some-clause-tight : goal.returns-in-Some-clause-tight
returns-in-Some-clause-tight c = λ q v found from lt.
    let last = c.in-Some.ensures.found in
    let e = last.ends in
    elim (cases_eq q c.in-Some.start) [
      | inl same ↦
          let f = ap run_end (some_is (piece_at c.args.pieces.now c.in-Some.start) v last.run (ap (piece_at c.args.pieces.now) (sym same) ∙ found) last.found) in
          omega arith
      | inr ne ↦ absurd (none_some (piece_at c.args.pieces.now q) v (last.last q (omega (arith, ne, from)) (omega arith)) found)
    ]
