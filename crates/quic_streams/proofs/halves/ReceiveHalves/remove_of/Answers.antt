use Rattle.std.proofs.Common.{rules, eqb, sym, ap}
use Rattle.std.specs.Prelude.{not}
use Rattle.std.proofs.lemmas.Bool.{eqb-true}
use Rattle.std.proofs.lemmas.Map.Entries.{lookup-filter-keys}
use Rattle.std.proofs.lemmas.Map.Made.{filter_same_pairs}
use Rattle.quic_outgoing.specs.Senders.{is_local}
use Rattle.quic_streams.specs.Held.{halves_view}
use Rattle.quic_streams.proofs.HeldMaps.{held-without}
use Rattle.quic_streams.proofs.halves.ReceiveHalves.remove_of.Goals as goal

pub returns-clause-held : goal.returns-clause-held
unfolding halves_view
returns-clause-held c =
    let side = c.args.side in
    let es = c.args.self.now.entries.entries in
    let others = filter_same_pairs _ (λ p. not (is_local side p.0)) _ (λ k v b w f' t. search rules) _ _ c.retain.ensures.filtered in
    held-without side c.args.self.now.window _ _ (λ q.
    rw others (lookup-filter-keys (eqb q) (λ k. not (is_local side k)) (not (is_local side q)) (λ k t. ap (λ i. not (is_local side i)) (sym (eqb-true q k t))) es))
