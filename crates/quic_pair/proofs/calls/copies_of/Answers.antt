use Rattle.std.proofs.Common.{◌≡◌, ◌<◌, ◌≤◌, ◌++◌, ◌∷◌, [], ◌∙◌, length, ap, sym, rules, arith, Some}
use Rattle.std.specs.Prelude.{slice_get, take}
use Rattle.quic_exchange.proofs.Lists.{take_more}
use Rattle.quic_pair.proofs.calls.copies_of.Goals.{in-Some+in_ok-copy_from_slice+in_ok-push, in_default}
use Rattle.quic_pair.proofs.calls.copies_of.Goals as goal

pub loop-index-preserved : goal.loop-index-preserved
loop-index-preserved c = elim c.match-get.branch [
  | in-Some+in_ok-copy_from_slice+in_ok-push w ↦
      let at : slice_get c.args.chunks.now c.loop-index.index ≡ Some w.in-Some.chunk.now = w.in-Some.ensures.chunk in
      let longer = take_more c.args.chunks.now c.loop-index.index w.in-Some.chunk.now at in
      let before : c.loop-index.copies.items ≡ take c.loop-index.index c.args.chunks.now = c.loop-index.invariant in
      rw w.copies-is (w.in_ok-push.ensures.items ∙ ap (λ x. c.loop-index.copies.items ++ x ∷ []) w.in_ok-copy_from_slice.ensures ∙ ap (λ l. l ++ w.in-Some.chunk.now ∷ []) before ∙ sym longer)
  | in_default w ↦
      let within : c.loop-index.index < length c.args.chunks.now = search rules in
      let past : length c.args.chunks.now ≤ c.loop-index.index = w.in_default.ensures.none in
      absurd (omega (arith, within, past))
]
