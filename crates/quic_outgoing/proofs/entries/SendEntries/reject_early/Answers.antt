use Rattle.std.proofs.Common.{rules, eqb, None, sym, ap, ◌∙◌}
use Rattle.std.specs.Prelude.{not}
use Rattle.std.specs.Option.{option_map}
use Rattle.std.proofs.lemmas.Bool.{eqb-true}
use Rattle.std.proofs.lemmas.Map.Entries.{lookup-filter-keys}
use Rattle.std.proofs.lemmas.Map.Made.{filter_same_pairs, map_same_pairs, lookup-map_values}
use Rattle.quic_outgoing.specs.Senders.{is_local}
use Rattle.quic_outgoing.specs.Seen.{senders}
use Rattle.quic_outgoing.proofs.EarlyHalves.{anew}
use Rattle.quic_outgoing.proofs.entries.SendEntries.reject_early.Goals as goal

pub returns-clause-halves : goal.returns-clause-halves
unfolding senders
returns-clause-halves c =
    let side = c.args.self.now.side in
    let es = c.args.self.now.entries.entries in
    let others = filter_same_pairs _ (λ p. not (is_local side p.0)) _ (λ k v b w f' t. search rules) _ _ c.retain.ensures.filtered in
    let unused = map_same_pairs _ (λ v. None) _ (λ k v b w f' t. search rules) _ _ c.retain-2.ensures.filtered in
    rw c.none-self.ensures (anew side c.args.self.now.first _ _ (λ q.
    rw unused (lookup-map_values (λ v. None) (eqb q) c.retain.new.self.entries
    ∙ ap (option_map (λ v. None)) (rw others (lookup-filter-keys (eqb q) (λ k. not (is_local side k)) (not (is_local side q)) (λ k t. ap (λ i. not (is_local side i)) (sym (eqb-true q k t))) es)))))
