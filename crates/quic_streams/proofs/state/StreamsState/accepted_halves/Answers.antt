use Rattle.std.proofs.Common.{◌≡◌, ℕ, ap, ◌∙◌, sym, arith, ◌+◌, ◌≤◌, Bool, true, false}
use Rattle.std.specs.Option.{is_some}
use Rattle.quic_values.specs.declared.ids.Side.{Side}
use Rattle.quic_values.specs.declared.ids.Dir.TheVariants.{Bi}
use Rattle.quic_values.specs.Ids.{stream_id, other_side}
use Rattle.quic_outgoing.specs.Shown.{outgoing_view}
use Rattle.quic_history.specs.World.{World, sends}
use Rattle.quic_history.specs.Used.{halves_among}
use Rattle.quic_history.proofs.UsedHistory.{none-among, one-among}
use Rattle.quic_streams.specs.Shown.{streams_view}
use Rattle.quic_streams.proofs.state.StreamsState.accepted_halves.Goals as goal
use Rattle.quic_streams.proofs.state.StreamsState.accepted_halves.Goals.{then-contains, else-contains}

pub loop-index-init : goal.loop-index-init
loop-index-init c = let w : World = streams_view c.args.self.now in (none-among w (other_side w.out.side) Bi, omega arith)

pub loop-index-preserved : goal.loop-index-preserved
unfolding streams_view
loop-index-preserved c =
    let w : World = streams_view c.args.self.now in
    let peer : Side = other_side w.out.side in
    let n : ℕ = c.loop-index.index in
    let id : c.new.result ≡ stream_id peer Bi n = c.new.ensures.number ∙ ap (λ (s : Side). stream_id s Bi n) (c.not-peer.ensures ∙ ap other_side c.side.ensures) in
    let held : sends w (stream_id peer Bi n) ≡ c.contains.result = ap (λ q. is_some (w.out.halves q)) (sym id) ∙ sym c.contains.ensures in
    let before = c.loop-index.invariant in
    elim c.if-contains.branch [
      | then-contains t ↦ (let e : c.if-contains.count ≡ c.loop-index.count + 1 = t.count-is in let few = before.1 in
          (e ∙ one-among w peer Bi n c.loop-index.count true (held ∙ t.if-contains.true) before.0, omega arith))
      | else-contains f ↦ (let e : c.if-contains.count ≡ c.loop-index.count = f.count-is in let few = before.1 in
          (e ∙ one-among w peer Bi n c.loop-index.count false (held ∙ f.if-contains.false) before.0, omega arith))
    ]
