use Rattle.std.proofs.Common.{◌≡◌, ℕ, arith, sym, ap, subst, ◌∙◌, inl, inr}
use Rattle.std.proofs.lemmas.Bool.{cases_eq, cases_lt}
use Rattle.quic_assembler.specs.Piece.{run_end}
use Rattle.quic_ordered.specs.Entries.{piece_at}
use Rattle.quic_ordered.specs.Sweeping.{IsChain, chain_end}
use Rattle.quic_ordered.proofs.Held.{none_some, some_is}
use Rattle.quic_ordered.proofs.Chains.{chain_le, chain_same, chain_head}
use Rattle.quic_ordered.proofs.compaction.remove_run.Goals as goal

pub unreachable-requires : goal.unreachable-requires
unreachable-requires c =
    let i = c.loop-at.invariant.chain in
    let h = chain_head c.loop-at.pieces c.loop-at.at c.args.end i.0 i.1 i.2 c.loop-at-test.true in
    none_some (piece_at c.loop-at.pieces c.loop-at.at) h.first (sym c.remove_near.ensures.value ∙ c.in_default.is) h.found

pub loop-at-smaller : goal.loop-at-smaller
loop-at-smaller c =
    let i = c.loop-at.invariant.chain in
    let h = chain_head c.loop-at.pieces c.loop-at.at c.args.end i.0 i.1 i.2 c.loop-at-test.true in
    let same = some_is (piece_at c.loop-at.pieces c.loop-at.at) h.first c.in-Some.piece h.found (sym c.remove_near.ensures.value ∙ c.in-Some.is) in
    let ends = ap run_end same in
    let o = h.offset in
    let some = h.some in
    let b = c.end-at.ensures in
    omega (arith, ends, o, some, b.value, b.bound)

pub loop-at-preserved : goal.loop-at-preserved
loop-at-preserved c =
    let es = c.loop-at.pieces in
    let at = c.loop-at.at in
    let new = c.remove_near.new.self in
    let i = c.loop-at.invariant.chain in
    let h = chain_head es at c.args.end i.0 i.1 i.2 c.loop-at-test.true in
    let same = some_is (piece_at es at) h.first c.in-Some.piece h.found (sym c.remove_near.ensures.value ∙ c.in-Some.is) in
    let stop : c.end-at.result ≡ run_end h.first = c.end-at.ensures.value ∙ sym (ap run_end same) in
    let o = h.offset in
    let some = h.some in
    let up = c.loop-at.invariant.up in
    let others = c.remove_near.ensures.others in
    record {
      chain = (h.rest, chain_same es new c.end-at.result h.rest (λ q le. others q (λ e. omega (arith, stop, o, some, le, e))) (subst (λ (n : ℕ). IsChain es n h.rest) (sym stop) h.chain), h.ends ∙ ap (λ (n : ℕ). chain_end n h.rest) (sym stop));
      gone = λ q from to.
          elim (cases_eq q at) [
            | inl e ↦ ap (piece_at new) e ∙ c.remove_near.ensures.gone
            | inr ne ↦ others q ne ∙ elim (cases_lt q at) [
              | inl lt ↦ c.loop-at.invariant.gone q from lt
              | inr ge ↦ h.dense q (omega (arith, ne, ge)) (omega (arith, to, stop))
            ]
          ];
      others = λ q out. elim out [
        | inl lt ↦ others q (λ e. omega (arith, lt, up, e)) ∙ c.loop-at.invariant.others q (inl lt)
        | inr ge ↦ others q (λ e. omega (arith, stop, o, some, ge, e)) ∙ c.loop-at.invariant.others q (inr (omega (arith, stop, o, some, ge)))
      ];
      rises = c.remove_near.ensures.rises;
      up = omega (arith, stop, o, some, up);
    }

pub returns-clause-others : goal.returns-clause-others
returns-clause-others c = λ q out.
    let i = c.loop-at.invariant.chain in
    let le = chain_le c.loop-at.pieces c.loop-at.at i.0 i.1 in
    let e = i.2 in
    elim out [
      | inl lt ↦ c.loop-at.invariant.others q (inl lt)
      | inr ge ↦ c.loop-at.invariant.others q (inr (omega (arith, le, e, ge)))
    ]
