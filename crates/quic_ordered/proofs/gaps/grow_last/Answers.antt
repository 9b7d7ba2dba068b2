use Rattle.std.proofs.Common.{◌≡◌, ℕ, List, Some, length, ap, sym, subst, ◌∙◌, inl, inr, arith}
use Rattle.std.proofs.lemmas.Bool.{cases_eq}
use Rattle.quic_assembler.specs.Piece.{PieceView, run_end}
use Rattle.quic_ordered.specs.Entries.{piece_at, GrowsTo}
use Rattle.quic_ordered.proofs.Held.{some_is}
use Rattle.quic_ordered.proofs.Joining.{GrowsLast, begin_last, begin_last_with}
use Rattle.quic_ordered.proofs.Placed.{same_map}
use Rattle.quic_ordered.proofs.gaps.grow_last.Goals as goal
use Rattle.quic_ordered.proofs.gaps.grow_last.Goals.{in-Some, in_default-first}

pub returns-in-Err-clause-err : goal.returns-in-Err-clause-err
returns-in-Err-clause-err c =
    let order = c.requires.order.0 in
    let at = ap (λ (r : PieceView). r.offset) c.new-2.ensures in
    let first = c.in_ok-first.ensures.old ∙ ap (piece_at c.args.pieces.now) at in
    let others : (x : ℕ) → (x ≡ c.args.start → ⊥) → piece_at c.insert.new.self x ≡ piece_at c.args.pieces.now x = λ x ne. c.in_ok-first.ensures.others x (λ same. ne (same ∙ at)) in
    same_map c.put_back-in-Err.new.pieces c.args.pieces.now c.put_back-in-Err.ensures.rises c.requires.rises (λ q.
    elim (cases_eq q c.args.start) [
      | inl same ↦ ap (piece_at c.put_back-in-Err.new.pieces) same ∙ (c.put_back-in-Err.ensures.here ∙ (first ∙ ap (piece_at c.args.pieces.now) (sym same)))
      | inr ne ↦ c.put_back-in-Err.ensures.others q ne ∙ (elim (cases_eq q c.args.last) [
        | inl same ↦ ap (piece_at c.put_back.new.pieces) same ∙ (c.put_back.ensures.here ∙ (ap (λ (r : PieceView). Some r) c.in-Err.ensures.err ∙ (sym c.lift-base.ensures.value ∙ (others c.args.last (λ e. omega arith) ∙ ap (piece_at c.args.pieces.now) (sym same)))))
        | inr other ↦ c.put_back.ensures.others q other ∙ (c.lift-base.ensures.others q other ∙ others q ne)
      ])
    ])

pub returns-in-Err-clause-pieces : goal.returns-in-Err-clause-pieces
returns-in-Err-clause-pieces c = omega (arith, ap (λ (es : List (ℕ × PieceView)). length es) (returns-in-Err-clause-err c))

pub returns-clause-joins : goal.returns-clause-joins
returns-clause-joins c =
    let order = c.requires.order.0 in
    let at = ap (λ (r : PieceView). r.offset) c.new-2.ensures in
    let first = c.in_ok-first.ensures.old ∙ ap (piece_at c.args.pieces.now) at in
    let others : (x : ℕ) → (x ≡ c.args.start → ⊥) → piece_at c.insert.new.self x ≡ piece_at c.args.pieces.now x = λ x ne. c.in_ok-first.ensures.others x (λ same. ne (same ∙ at)) in
    let here = subst (λ (k : ℕ). piece_at c.insert.new.self k ≡ Some c.new-2.result) at c.in_ok-first.ensures.here in
    let v = c.lift-base.result in
    let found = sym (others c.args.last (λ e. omega arith)) ∙ c.lift-base.ensures.value in
    let f = c.requires.last in
    let same = some_is (piece_at c.args.pieces.now c.args.last) f.0 v f.1 found in
    let ends = sym (ap (λ (r : PieceView). run_end r) same) ∙ f.2 in
    let w = rw (c.offset.ensures.value, c.offset-2.ensures.value, c.as_slice.ensures) at c.write_bytes.ensures.written in
    let s : GrowsLast c.args.pieces.now c.remove.new.self c.args.new.now v c.grow_front.new.self c.write_bytes.new.self c.new-2.result c.args.start c.args.end c.args.last = record {
      apart = c.requires.apart;
      spans = c.requires.spans;
      some = c.requires.some;
      order = c.requires.order.0;
      found = found;
      ends = ends;
      from = c.requires.order.1;
      to = c.requires.order.2;
      slot = c.remove.ensures.others c.args.start (λ e. omega arith) ∙ (c.lift-base.ensures.others c.args.start (λ e. omega arith) ∙ here);
      gone = c.remove.ensures.gone;
      others = λ x ne other. c.remove.ensures.others x other ∙ (c.lift-base.ensures.others x other ∙ others x ne);
      grows = subst (λ (n : ℕ). GrowsTo c.args.start n v c.grow_front.new.self) ends c.in_default.ensures.grows;
      writes = w;
    } in
    elim c.match-first.branch [
      | in-Some b ↦ rw b.base-is (begin_last_with _ _ _ v b.in-Some.piece _ _ b.write.new.self _ _ _ _ s (sym first ∙ b.in-Some.is) b.write.ensures.written)
      | in_default-first b ↦ rw b.base-is (begin_last _ _ _ v _ _ _ _ _ _ s (sym first ∙ b.in_default-first.is))
    ]
