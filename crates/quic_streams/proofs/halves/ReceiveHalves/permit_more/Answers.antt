use Rattle.std.proofs.Common.{sym, ap, refl, ◌∙◌, arith, Some, ◌+◌}
use Rattle.quic_values.specs.Ids.{stream_id}
use Rattle.quic_receiving.specs.Half.{new_half}
use Rattle.quic_streams.specs.Held.{halves_view}
use Rattle.quic_history.specs.Halves.{with_half}
use Rattle.quic_history.proofs.FirstStreams.{with_more-none, with_more-one}
use Rattle.quic_streams.proofs.halves.ReceiveHalves.permit_more.Goals as goal

pub loop-offset-init : goal.loop-offset-init
loop-offset-init c = record {
  held = sym (with_more-none _ c.args.initiator c.args.dir c.args.first _);
  window = refl;
  room = omega (arith, c.requires.room);
}

pub loop-offset-preserved : goal.loop-offset-preserved
loop-offset-preserved c =
    let i = c.loop-offset.invariant in
    let id = stream_id c.args.initiator c.args.dir (c.args.first + c.loop-offset.offset) in
    let o = Some (new_half c.args.self.now.window) in
    record {
      held = c.permit.ensures.held ∙ ap (λ k. with_half (halves_view c.loop-offset.self) k (Some (new_half c.loop-offset.self.window))) c.new.ensures.number
          ∙ ap (λ w. with_half (halves_view c.loop-offset.self) id (Some (new_half w))) i.window
          ∙ ap (λ f. with_half f id o) i.held ∙ with_more-one _ c.args.initiator c.args.dir c.args.first c.loop-offset.offset o;
      window = c.permit.ensures.window ∙ i.window;
      room = omega arith;
    }
