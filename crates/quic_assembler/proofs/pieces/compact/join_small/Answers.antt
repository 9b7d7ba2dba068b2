use Rattle.std.proofs.Common.{arith, ◌∙◌, inl, inr, reverse, []}
use Rattle.quic_assembler.specs.Compact.{is_joined, IsTight}
use Rattle.std.proofs.lemmas.List.Elements.{All-head, All-tail}
use Rattle.std.proofs.lemmas.List.Sorted.{All-permutation, IsPermutation-sym, length_permutation}
use Rattle.quic_assembler.specs.Piece.{IsSome, RunHolds}
use Rattle.quic_assembler.proofs.Counts.{Any-cons, Any-nil, Any-permutation, any_with_run, all_with_run, count_permuted, with_run_count, with_run_length}
use Rattle.quic_assembler.proofs.Parts.{seen_next, seen_all, part_length, joined_small, holds_none, reverse_last, reverse_none}
use Rattle.quic_assembler.proofs.pieces.compact.join_small.Goals as goal

pub join_next-requires-clause-some : goal.join_next-requires-clause-some
join_next-requires-clause-some c =
    let rest = reverse_last _ _ c.in-Some.piece.now c.in-Some.ensures.cases.0 in
    All-head IsSome c.in-Some.piece.now _ (rw rest at c.loop-piece.invariant.seen).some

pub loop-piece-preserved : goal.loop-piece-preserved
loop-piece-preserved c =
    let rest = reverse_last _ _ c.in-Some.piece.now c.in-Some.ensures.cases.0 in
    let seen = rw rest at c.loop-piece.invariant.seen in
    let slots = rw rest at c.loop-piece.invariant.slots in
    record {
      seen = rw c.in_ok-end.ensures.end (seen_next _ _ _ _ _ _ _ c.in-Some.piece.now seen (rw c.last_offset-next.ensures at c.in_ok-end.ensures.adds));
      tight = c.in_ok-end.ensures.tight;
      some = c.in_ok-end.ensures.some c.loop-piece.invariant.some;
      slots = rw c.in_ok-end.ensures.end (omega (arith, slots, rw c.last_offset-next.ensures at c.in_ok-end.ensures.len, part_length (is_joined c.args.least) c.loop-piece.end c.in-Some.piece.now (reverse c.in-Some.others.now)));
    }

pub returns-clause-adds : goal.returns-clause-adds
returns-clause-adds c =
    let all = seen_all _ _ _ _ _ _ c.loop-piece.invariant.seen (reverse_none _ c.in_default.ensures.cases) in
    let first = joined_small c.joined-joined.result _ c.joined-joined.ensures.bytes c.new.ensures in
    let put = c.in_ok-push_some.ensures in
    record {
      count = λ at. count_permuted at _ _ put ∙ with_run_count at c.loop-piece.joined _ ∙ all.count at ∙ omega (arith, first at);
      origin = λ at byte p. elim (all.origin at byte (any_with_run (RunHolds at byte) c.loop-piece.joined _ (Any-permutation _ _ _ (IsPermutation-sym _ _ put) p))) [
        | inl q ↦ elim (Any-cons (RunHolds at byte) c.joined-joined.result [] q) [
          | inl h ↦ absurd (holds_none c.joined-joined.result _ c.joined-joined.ensures.bytes c.new.ensures at byte h)
          | inr h ↦ absurd (Any-nil (RunHolds at byte) h)
        ]
        | inr q ↦ inr q
      ];
    }

pub returns-clause-tight : goal.returns-clause-tight
returns-clause-tight c = All-permutation IsTight _ _ c.in_ok-push_some.ensures (all_with_run IsTight c.loop-piece.joined _ (λ _. All-head IsTight _ _ c.loop-piece.invariant.tight) (All-tail IsTight _ _ c.loop-piece.invariant.tight))

pub returns-clause-some : goal.returns-clause-some
returns-clause-some c = All-permutation IsSome _ _ c.in_ok-push_some.ensures (all_with_run IsSome c.loop-piece.joined _ (λ l. l) c.loop-piece.invariant.some)

pub returns-clause-len : goal.returns-clause-len
returns-clause-len c = omega (arith, length_permutation _ _ c.in_ok-push_some.ensures, with_run_length c.loop-piece.joined c.loop-piece.copies.items, c.loop-piece.invariant.slots)
