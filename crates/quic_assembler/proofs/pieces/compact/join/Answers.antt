use Rattle.std.proofs.Common.{arith, length-drop, sym, ◌∙◌, ℕ, ◌≡◌, ◌≤◌}
use Rattle.std.proofs.lemmas.List.Elements.{All-head, All-tail, All-cons}
use Rattle.quic_assembler.specs.Compact.{IsTight}
use Rattle.quic_assembler.specs.Piece.{PieceView, IsSome, cut_at, HoldsSame}
use Rattle.quic_assembler.proofs.Parts.{adds_joined, adds_anew}
use Rattle.quic_assembler.proofs.Counts.{count_permuted, with_run_count, with_run_length, any_with_run, all_with_run, Any-permutation}
use Rattle.std.proofs.lemmas.List.Sorted.{All-permutation, IsPermutation-sym, length_permutation}
use Rattle.quic_assembler.proofs.pieces.compact.join.Goals as goal

pub extend-requires : goal.extend-requires
extend-requires c = rw c.bytes_from-more.ensures.value (simp length-drop (omega (arith, c.bytes_from-more.ensures.bound)))

pub joined-next-requires : goal.joined-next-requires
joined-next-requires c = rw (c.in_ok-bytes.ensures, c.bytes_from-more.ensures.value) (simp length-drop (omega (arith, c.bytes_from-more.ensures.bound)))

cut_start : (start : ℕ) (r : PieceView) → r.offset ≤ start → (cut_at start r).offset ≡ start
cut_start start r l = omega arith

pub returns-then-end-start-clause-adds : goal.returns-then-end-start-clause-adds
returns-then-end-start-clause-adds c = adds_joined c.args.joined.now c.extend.new.self (cut_at c.args.start c.args.piece.now) _
    (omega (arith, c.end.ensures.value)) c.in_ok-extend.ensures.offset (rw (← c.bytes_from-more.ensures.value) c.in_ok-extend.ensures.bytes)

pub returns-then-end-start-clause-tight : goal.returns-then-end-start-clause-tight
returns-then-end-start-clause-tight c = All-cons IsTight _ _ (c.in_ok-extend.ensures.tight (All-head IsTight _ _ c.requires.tight).compact) (All-tail IsTight _ _ c.requires.tight)

pub returns-clause-adds : goal.returns-clause-adds
returns-clause-adds c =
    let next : HoldsSame (cut_at c.args.start c.args.piece.now) c.joined-next.result = record {
      offset = c.joined-next.ensures.offset ∙ sym (cut_start c.args.start c.args.piece.now c.requires.from);
      bytes = c.joined-next.ensures.bytes ∙ c.in_ok-bytes.ensures ∙ c.bytes_from-more.ensures.value;
    } in
    let put = rw c.replace-done.ensures.value at c.in_ok-push_some.ensures in
    rw c.replace-done.ensures.after (adds_anew c.args.joined.now c.joined-next.result (cut_at c.args.start c.args.piece.now) _ _ next
    (λ at. count_permuted at _ _ put ∙ with_run_count at c.args.joined.now _)
    (λ at byte h. any_with_run _ _ _ (Any-permutation _ _ _ (IsPermutation-sym _ _ put) h)))

pub returns-clause-tight : goal.returns-clause-tight
returns-clause-tight c =
    let put = rw c.replace-done.ensures.value at c.in_ok-push_some.ensures in
    rw c.replace-done.ensures.after (All-cons IsTight _ _ c.joined-next.ensures.tight (All-permutation IsTight _ _ put (all_with_run IsTight c.args.joined.now _ (λ _. All-head IsTight _ _ c.requires.tight) (All-tail IsTight _ _ c.requires.tight))))

pub returns-clause-some : goal.returns-clause-some
returns-clause-some c = λ some.
    let put = rw c.replace-done.ensures.value at c.in_ok-push_some.ensures in
    All-permutation IsSome _ _ put (all_with_run IsSome c.args.joined.now _ (λ l. l) some)

pub returns-clause-len : goal.returns-clause-len
returns-clause-len c =
    let put = rw c.replace-done.ensures.value at c.in_ok-push_some.ensures in
    omega (arith, length_permutation _ _ put, with_run_length c.args.joined.now c.args.copies.now.items)
