use Rattle.std.proofs.Common.{◌≡◌, ◌-◌, take, drop, ℕ, List, Some, length, ap, sym, subst, ◌∙◌, inl, inr, arith}
use Rattle.std.proofs.lemmas.List.{length-drop, take_all}
use Rattle.std.proofs.lemmas.Bool.{cases_eq}
use Rattle.quic_assembler.specs.Piece.{PieceView}
use Rattle.quic_ordered.specs.Entries.{piece_at, piece_of, GrowsTo, WritesOver}
use Rattle.quic_ordered.proofs.Held.{some_is}
use Rattle.quic_ordered.proofs.Joining.{begin_first}
use Rattle.quic_ordered.proofs.Placed.{same_map}
use Rattle.quic_ordered.proofs.gaps.grow_first.Goals as goal
use Rattle.quic_assembler.specs.Piece.{run_end}

rest_whole : (xs : List ℕ) (k : ℕ) → take (length xs - k) (drop k xs) ≡ drop k xs
rest_whole xs k = take_all (length xs - k) (drop k xs) (simp length-drop (omega arith))

pub returns-in-Err-clause-err : goal.returns-in-Err-clause-err
returns-in-Err-clause-err c = same_map c.put_back.new.pieces c.args.pieces.now c.put_back.ensures.rises c.requires.rises (λ q.
    elim (cases_eq q c.args.start) [
      | inl same ↦ ap (piece_at c.put_back.new.pieces) same ∙ (c.put_back.ensures.here ∙ (ap (λ (r : PieceView). Some r) c.in-Err.ensures.err ∙ (sym c.lift-base.ensures.value ∙ ap (piece_at c.args.pieces.now) (sym same))))
      | inr ne ↦ c.put_back.ensures.others q ne ∙ c.lift-base.ensures.others q ne
    ])

pub returns-in-Err-clause-pieces : goal.returns-in-Err-clause-pieces
returns-in-Err-clause-pieces c = omega (arith, ap (λ (es : List (ℕ × PieceView)). length es) (returns-in-Err-clause-err c))

pub returns-clause-joins : goal.returns-clause-joins
returns-clause-joins c =
    let f = c.requires.first in
    let p = c.lift-base.result in
    let found = c.lift-base.ensures.value in
    let same = some_is (piece_at c.args.pieces.now c.args.start) f.0 p f.1 found in
    let ends = ap (λ (r : PieceView). run_end r) same in
    let at = c.requires.apart.key c.args.start p found in
    let w = rw (c.end-floor.ensures.value, c.offset.ensures.value, c.as_slice.ensures) at c.write_bytes.ensures.written in
    begin_first c.args.pieces.now c.lift-base.new.pieces c.args.new.now p c.grow_end.new.self c.write_bytes.new.self c.lift-base.ensures.slot.0 c.args.start c.args.end c.requires.spans c.requires.some found at
    (omega (arith, f.2, ends)) (omega (arith, f.3, ends)) c.lift-base.ensures.slot.1 c.lift-base.ensures.others (subst (λ (n : ℕ). GrowsTo n c.args.end p c.grow_end.new.self) at c.in_default.ensures.grows)
    (subst (λ (bs : List ℕ). WritesOver (piece_of (run_end p) bs 0) c.grow_end.new.self c.write_bytes.new.self) (rest_whole c.args.new.now.bytes (run_end p - c.args.new.now.offset)) w)
