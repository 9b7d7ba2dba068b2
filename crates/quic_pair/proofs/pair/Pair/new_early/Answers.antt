use Rattle.std.proofs.Common.{◌≡◌, [], rules, refl, sym, ap, ◌∙◌, subst, Some, None, true}
use Rattle.quic_outgoing.specs.declared.limits.PeerLimits.{PeerLimits}
use Rattle.quic_session.specs.Params.{are_stream_limits}
use Rattle.quic_exchange.specs.State.{PairState}
use Rattle.quic_values.specs.declared.ids.Side.TheVariants.{Server}
use Rattle.quic_link.specs.Endpoints.{limits_of}
use Rattle.quic_exchange.specs.From.{PairFrom, AreSoundLimits, made_of, at_once}
use Rattle.quic_exchange.specs.declared.early.EarlyLimits.{EarlyLimits}
use Rattle.quic_exchange.proofs.Deeds.{new_early-so}
use Rattle.quic_pair.specs.Ends.{ends_view}
use Rattle.quic_pair.specs.Shown.{pair_view}
use Rattle.quic_pair.proofs.Beginnings.{few-so, waits-so}
use Rattle.quic_pair.proofs.pair.Pair.new_early.Goals as goal

pub new-requires : goal.new-requires
new-requires c =
    let P : PeerLimits → Type 0 = λ l. are_stream_limits l ≡ true in
    record {
      first = few-so c.args.remembered c.requires.few_bi c.requires.few_uni;
      limits = waits-so (record { remembered = c.args.remembered; others = c.limits_of-others.result }) (subst P (sym c.limits_of-others.ensures) (few-so (limits_of (made_of Server c.args.b)) c.args.b.bi_in_range c.args.b.uni_in_range));
    }

pub invariant_of-result : goal.invariant_of-result
invariant_of-result c =
    let few : AreSoundLimits c.args.remembered = record { few_bi = c.requires.few_bi; few_uni = c.requires.few_uni; of_connection = search rules; of_uni = search rules; of_bidi_local = search rules; of_bidi_remote = search rules } in
    record {
      sound = ∣ record {
        reached = (record { a = c.args.a; b = c.args.b; early = Some c.args.remembered }, [], new_early-so c.args.a c.args.b c.args.remembered c.limits_of-others.result (ends_view c.in_ok-ends.ends) c.limits_of-others.ensures c.in_ok-ends.ensures.view c.args.a.uni_in_range c.args.b.uni_in_range c.args.a.bi_in_range c.args.b.bi_in_range (search rules) (search rules) (search rules) (search rules) few);
        consistent = c.in_ok-ends.ensures.sound;
      } ∣₁;
    }

pub returns : goal.returns
unfolding pair_view
returns c =
    let few : AreSoundLimits c.args.remembered = record { few_bi = c.requires.few_bi; few_uni = c.requires.few_uni; of_connection = search rules; of_uni = search rules; of_bidi_local = search rules; of_bidi_remote = search rules } in
    new_early-so c.args.a c.args.b c.args.remembered c.limits_of-others.result (ends_view c.in_ok-ends.ends) c.limits_of-others.ensures c.in_ok-ends.ensures.view c.args.a.uni_in_range c.args.b.uni_in_range c.args.a.bi_in_range c.args.b.bi_in_range (search rules) (search rules) (search rules) (search rules) few
