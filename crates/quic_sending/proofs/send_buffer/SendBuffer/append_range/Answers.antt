use Rattle.std.proofs.Common.{◌≤◌, ℕ, List, ◌++◌, ap, ◌∙◌, arith}
use Rattle.std.specs.List.{concat}
use Rattle.std.proofs.lemmas.List.{append_assoc}
use Rattle.quic_sending.proofs.Cuts.{front-step}
use Rattle.quic_sending.proofs.send_buffer.SendBuffer.append_range.Goals as goal

pub loop-at-preserved : goal.loop-at-preserved
loop-at-preserved c =
    record {
      from = omega arith;
      to = omega (arith, c.get-part.ensures.most);
      len = omega arith;
      room = omega arith;
      capacity = omega arith;
      copied = λ cuts h.
          let kept : c.args.self.now.prefix ≤ c.loop-at.at = omega arith in
          c.append.ensures.items
          ∙ (ap (λ (x : List ℕ). x ++ c.get-part.result.now) (c.loop-at.invariant.copied cuts h)
          ∙ (append_assoc c.reserve.new.self.items _ _
          ∙ ap (λ (x : List ℕ). c.reserve.new.self.items ++ x) (front-step (concat cuts) c.get-part.result.now c.args.range.start c.loop-at.at _ c.loop-at.invariant.from (c.get-part.ensures.bytes cuts h kept))));
    }
