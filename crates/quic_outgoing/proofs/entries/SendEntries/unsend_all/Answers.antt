use Rattle.std.proofs.Common.{rules, ℕ, cond}
use Rattle.std.specs.Option.{option_map}
use Rattle.std.specs.HashMap.{get}
use Rattle.std.specs.Prelude.{◌==◌}
use Rattle.quic_outgoing.specs.Senders.{is_local, first_limit}
use Rattle.quic_outgoing.specs.Seen.{senders, unsent_box, IsAckedAt}
use Rattle.quic_outgoing.proofs.EarlyHalves.{kept-pairs, unsent-own, MayUnsend, may-unsend, acked-kept}
use Rattle.quic_outgoing.proofs.entries.SendEntries.unsend_all.Goals as goal

pub returns-clause-halves : goal.returns-clause-halves
unfolding senders
returns-clause-halves c = λ none.
    let side = c.args.self.now.side in
    let w = first_limit side c.args.self.now.first in
    let f = λ (q : ℕ). get ◌==◌ c.args.self.now.entries q in
    unsent-own side w _ f (λ q. kept-pairs _ (λ k v. cond (is_local side k) (option_map unsent_box v) v) (MayUnsend side) _ (λ k v b w f' t. search rules) _ _ c.retain.ensures.filtered q (λ v e. may-unsend side w f none q v e))

pub returns-clause-kept : goal.returns-clause-kept
unfolding senders
returns-clause-kept c =
    let side = c.args.self.now.side in
    let w = first_limit side c.args.self.now.first in
    let f = λ (q : ℕ). get ◌==◌ c.args.self.now.entries q in
    acked-kept w _ f (λ n q may. kept-pairs _ (λ k v. v) (λ k v. IsAckedAt n v) _ (λ k v b w f' t. search rules) _ _ c.retain.ensures.filtered q may)
