use Rattle.std.proofs.Common.{◌≡◌, [], rules, refl, sym, ap, ◌∙◌, subst, Some, None, true}
use Rattle.quic_outgoing.specs.declared.limits.PeerLimits.{PeerLimits}
use Rattle.quic_session.specs.Params.{are_stream_limits}
use Rattle.quic_exchange.specs.State.{PairState}
use Rattle.quic_values.specs.declared.ids.Side.TheVariants.{Server}
use Rattle.quic_link.specs.Endpoints.{limits_of}
use Rattle.quic_exchange.specs.From.{PairFrom, AreSoundLimits, made_of, at_once}
use Rattle.quic_exchange.proofs.Deeds.{new-so}
use Rattle.quic_pair.specs.Ends.{ends_view}
use Rattle.quic_pair.specs.Shown.{pair_view}
use Rattle.quic_pair.proofs.Beginnings.{few-so, none-waits-so}
use Rattle.quic_pair.proofs.pair.Pair.new.Goals as goal

pub new-requires : goal.new-requires
new-requires c =
    let P : PeerLimits → Type 0 = λ l. are_stream_limits l ≡ true in
    record { first = subst P (sym c.limits_of.ensures) (few-so (limits_of (made_of Server c.args.b)) c.args.b.bi_in_range c.args.b.uni_in_range); limits = none-waits-so }

pub invariant_of-result : goal.invariant_of-result
invariant_of-result c =
    record {
      sound = ∣ record {
        reached = (at_once c.args.a c.args.b, [], new-so c.args.a c.args.b c.limits_of.result (ends_view c.in_ok-ends.ends) c.limits_of.ensures c.in_ok-ends.ensures.view c.args.a.uni_in_range c.args.b.uni_in_range c.args.a.bi_in_range c.args.b.bi_in_range (search rules) (search rules) (search rules) (search rules));
        consistent = c.in_ok-ends.ensures.sound;
      } ∣₁;
    }

pub returns : goal.returns
unfolding pair_view
returns c = new-so c.args.a c.args.b c.limits_of.result (ends_view c.in_ok-ends.ends) c.limits_of.ensures c.in_ok-ends.ensures.view c.args.a.uni_in_range c.args.b.uni_in_range c.args.a.bi_in_range c.args.b.bi_in_range (search rules) (search rules) (search rules) (search rules)
