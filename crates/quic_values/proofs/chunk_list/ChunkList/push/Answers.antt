use Rattle.std.proofs.Common.{◌∙◌, ◌+◌, ◌++◌, ◌∷◌, [], List, length, ℕ, arith, ap}
use Rattle.quic_values.proofs.Parts.{Reaches-low, Reaches-high, parts_low, parts_high}
use Rattle.quic_values.proofs.chunk_list.ChunkList.push.Goals as goal

pub invariant_of-self-then-end-from : goal.invariant_of-self-then-end-from
invariant_of-self-then-end-from c =
    let none = c.self.invariant.1 (omega (arith, c.if-end-from.true, c.len.ensures)) in (
      Reaches-low c.self.inside.low_ends.items c.self.inside.high_ends.items c.push.new.self.items _ (c.len.result + length c.args.chunk.now) _
          (c.in-Ok.ensures.items ∙ ap (λ (x : List ℕ). x ++ (c.len.result + length c.args.chunk.now) ∷ []) c.in_ok-reserve.ensures.items) (omega (arith, none, c.self.inside.high_ends.ok.0)) c.self.invariant.0 (omega (arith, c.len.ensures)) (omega (arith, c.len.ensures, c.in_ok-extend_from_slice.ensures.len)),
      λ small. none,
    )

pub invariant_of-self-else-end-from : goal.invariant_of-self-else-end-from
invariant_of-self-else-end-from c = (
  Reaches-high c.self.inside.low_ends.items c.self.inside.high_ends.items c.push-else-end-from.new.self.items _ (c.len.result + length c.args.chunk.now) _
      (c.in-Ok-push.ensures.items ∙ ap (λ (x : List ℕ). x ++ (c.len.result + length c.args.chunk.now) ∷ []) c.in_ok-reserve-2.ensures.items) c.self.invariant.0 (omega (arith, c.len.ensures)) (omega (arith, c.len.ensures, c.in_ok-extend_from_slice-2.ensures.len)),
  λ small. absurd (omega (arith, small, c.if-end-from.false, c.len.ensures, c.in_ok-extend_from_slice-2.ensures.len)),
)

pub returns-in-Ok-clause-ok : goal.returns-in-Ok-clause-ok
returns-in-Ok-clause-ok c =
    let none = c.self.invariant.1 (omega (arith, c.if-end-from.true, c.len.ensures)) in
    parts_low c.self.inside.content.items c.args.chunk.now c.extend_from_slice.new.self.items c.self.inside.low_ends.items c.self.inside.high_ends.items c.push.new.self.items _ (c.len.result + length c.args.chunk.now)
    c.in_ok-extend_from_slice.ensures.items (c.in-Ok.ensures.items ∙ ap (λ (x : List ℕ). x ++ (c.len.result + length c.args.chunk.now) ∷ []) c.in_ok-reserve.ensures.items) (omega (arith, none, c.self.inside.high_ends.ok.0)) c.self.invariant.0 c.self.inside.content.ok.0 (omega (arith, c.len.ensures, c.self.inside.content.ok.0))
    ∙ ap (λ (x : List (List ℕ)). x ++ c.args.chunk.now ∷ []) c.self.view_is

pub returns-in-Ok-push-clause-ok : goal.returns-in-Ok-push-clause-ok
returns-in-Ok-push-clause-ok c =
    parts_high c.self.inside.content.items c.args.chunk.now c.extend_from_slice-else-end-from.new.self.items c.self.inside.low_ends.items c.self.inside.high_ends.items c.push-else-end-from.new.self.items _ (c.len.result + length c.args.chunk.now)
    c.in_ok-extend_from_slice-2.ensures.items (c.in-Ok-push.ensures.items ∙ ap (λ (x : List ℕ). x ++ (c.len.result + length c.args.chunk.now) ∷ []) c.in_ok-reserve-2.ensures.items) c.self.invariant.0 c.self.inside.content.ok.0 (omega (arith, c.len.ensures, c.self.inside.content.ok.0))
    ∙ ap (λ (x : List (List ℕ)). x ++ c.args.chunk.now ∷ []) c.self.view_is
