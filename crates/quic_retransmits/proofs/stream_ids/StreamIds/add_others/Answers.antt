use Rattle.std.proofs.Common.{◌≡◌, ◌∙◌, ℕ, Bool, List, subst, ap, arith, length}
use Rattle.std.specs.Prelude.{◌||◌, ◌==◌}
use Rattle.std.specs.List.{list_any}
use Rattle.std.specs.HashSet.{contains}
use Rattle.quic_retransmits.specs.Ids.{is_in_ids}
use Rattle.quic_retransmits.proofs.Sets.{added-next, or-false, same_ids}
use Rattle.quic_retransmits.proofs.stream_ids.StreamIds.add_others.Goals as goal

pub loop-id-preserved : goal.loop-id-preserved
loop-id-preserved c =
    let size = ap (length {A = ℕ}) c.in-Some.ensures.steps in
    let room = c.loop-id.invariant.room in
    let less = c.insert_reserved.ensures.room in
    record {
      all = λ id.
          added-next c.in-Some.id.now id (is_in_ids c.loop-id.self id) (is_in_ids c.insert_reserved.new.self id) (list_any (λ q. id == q) c.next.new.self)
          (ap (λ (ids : ℕ → Bool). ids id) c.insert_reserved.ensures.set)
          ∙ subst (λ (it : List ℕ). (is_in_ids c.loop-id.self id || list_any (λ q. id == q) it) ≡ (is_in_ids c.args.self.now id || contains ◌==◌ c.args.more.now id)) c.in-Some.ensures.steps (c.loop-id.invariant.all id);
      room = omega (arith, size, room, less);
    }

pub returns : goal.returns
returns c =
    same_ids (is_in_ids c.loop-id.self) (λ id. is_in_ids c.args.self.now id || contains ◌==◌ c.args.more.now id)
    (λ id.
    or-false (is_in_ids c.loop-id.self id)
    ∙ subst (λ (it : List ℕ). (is_in_ids c.loop-id.self id || list_any (λ q. id == q) it) ≡ (is_in_ids c.args.self.now id || contains ◌==◌ c.args.more.now id)) c.in-None.ensures.steps.0 (c.loop-id.invariant.all id))
