use Rattle.std.proofs.Common.{◌≡◌, ℕ, sym, ap, ◌∙◌, arith, Some, ◌+◌}
use Rattle.quic_values.specs.declared.ids.Dir.TheVariants.{Bi}
use Rattle.quic_values.specs.Ids.{stream_id, other_side}
use Rattle.quic_outgoing.specs.Outgoing.{Outgoing, with_send_half, fresh_sender}
use Rattle.quic_outgoing.specs.Shown.{outgoing_view}
use Rattle.quic_outgoing.proofs.PeerStreams.{more-none, more-one}
use Rattle.quic_outgoing.proofs.outgoing.OutgoingStreams.permit_each.Goals as goal

pub loop-offset-init : goal.loop-offset-init
loop-offset-init c = record {
  streams = sym (more-none _ c.args.first);
  room = omega (arith, c.requires.room);
}

initiator : (c : goal.After-permit) → c.not-initiator.result ≡ other_side (outgoing_view c.args.self.now).side
unfolding outgoing_view
initiator c = c.not-initiator.ensures ∙ ap other_side c.side.ensures

pub loop-offset-preserved : goal.loop-offset-preserved
loop-offset-preserved c =
    let u = outgoing_view c.args.self.now in
    let n = c.loop-offset.offset in
    let id = stream_id (other_side u.side) Bi (c.args.first + n) in
    let put : Outgoing → ℕ → Outgoing = λ w q. with_send_half w q (Some (fresh_sender w q)) in
    record {
      streams = c.permit.ensures.permitted ∙ ap (λ q. put (outgoing_view c.loop-offset.self) q) (c.new.ensures.number ∙ ap (λ k. stream_id k Bi (c.args.first + n)) (initiator c))
          ∙ ap (λ w. put w id) c.loop-offset.invariant.streams ∙ more-one u c.args.first n;
      room = omega arith;
    }
