-- The peer's limits, where no stream was opened.
use Rattle.std.proofs.Common.{◌≡◌, [], ◌++◌, ◌∙◌, ap, List}
use Rattle.std.specs.Prelude.{map}
use Rattle.std.proofs.lemmas.List.{append-nil}
use Rattle.quic_wire.specs.declared.event.StreamEvent.{StreamEvent}
use Rattle.quic_wire.specs.declared.event.StreamEvent.TheVariants as stream_event
use Rattle.quic_outgoing.specs.declared.limits.PeerLimits.{PeerLimits}
use Rattle.quic_outgoing.specs.Outgoing.{Outgoing, with_params}
use Rattle.quic_outgoing.specs.Params.{after_params, newly_writable}
use Rattle.quic_outgoing.proofs.Woken.{none-waits, none-writable}
use Rattle.quic_history.specs.World.{World}
use Rattle.quic_history.specs.Sends.{with_out, with_params_given}

-- they tell the application of nothing
pub given-unopened : (u : World) (p : PeerLimits) → u.out.own_bi.opened ≡ 0 → u.out.own_uni.opened ≡ 0 → with_params_given u p ≡ with_out u (with_params u.out p)
given-unopened u p bi uni =
    ap (λ (o : Outgoing). record u { out = with_params o p; events = u.events ++ map stream_event.Writable (newly_writable u.out p) }) (none-waits u.out p bi uni)
    ∙ ap (λ ids. record u { out = with_params u.out p; events = u.events ++ map stream_event.Writable ids }) (none-writable u.out p bi uni)
    ∙ ap (λ es. record u { out = with_params u.out p; events = es }) (append-nil u.events)
