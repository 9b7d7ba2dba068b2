use Rattle.std.proofs.Common.{sym, ap, ◌∙◌, arith, Some}
use Rattle.quic_values.specs.Ids.{stream_id}
use Rattle.quic_receiving.specs.Half.{new_half}
use Rattle.quic_streams.specs.Held.{halves_view}
use Rattle.quic_history.specs.Halves.{with_half}
use Rattle.quic_history.proofs.FirstStreams.{with_first-none, with_first-more}
use Rattle.quic_streams.proofs.halves.ReceiveHalves.permit_first.Goals as goal

pub loop-index-init : goal.loop-index-init
loop-index-init c = record {
  held = c.reserve.ensures.held ∙ sym (with_first-none _ c.args.initiator c.args.dir _);
  window = c.reserve.ensures.window;
  room = omega (arith, c.in_ok-reserve.ensures.ok);
}

pub loop-index-preserved : goal.loop-index-preserved
loop-index-preserved c =
    let i = c.loop-index.invariant in
    let id = stream_id c.args.initiator c.args.dir c.loop-index.index in
    let o = Some (new_half c.args.self.now.window) in
    record {
      held = c.permit.ensures.held ∙ ap (λ k. with_half (halves_view c.loop-index.self) k (Some (new_half c.loop-index.self.window))) c.new.ensures.number
          ∙ ap (λ w. with_half (halves_view c.loop-index.self) id (Some (new_half w))) i.window
          ∙ ap (λ f. with_half f id o) i.held ∙ with_first-more _ c.args.initiator c.args.dir c.loop-index.index o;
      window = c.permit.ensures.window ∙ i.window;
      room = omega arith;
    }
