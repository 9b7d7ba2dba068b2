use Rattle.std.proofs.Common.{ℕ, List, ◌∷◌}
use Rattle.quic_sending.specs.Source.{slice_lists}
use Rattle.quic_retransmits.specs.Pending.{pending_view}
use Rattle.quic_streams.specs.Connection.{is_shut}
use Rattle.quic_streams.specs.Shown.{streams_view}
use Rattle.quic_history.specs.World.{Made}
use Rattle.quic_history.specs.Writes.{WritesOwn}
use Rattle.quic_history.specs.SendEvents.{WroteOwn}
use Rattle.quic_history.specs.History.{Event, Sending, From}
use Rattle.quic_history.proofs.Histories.{next}
use Rattle.quic_streams.proofs.Results.{written-as}
use Rattle.quic_streams.proofs.send_stream.SendStream.write.Goals as goal

pub returns-clause-from : goal.returns-clause-from
returns-clause-from c =
    let u = streams_view c.args.self.now.state.now in
    let v = streams_view c.write_bytes.new.self in
    let p = pending_view c.args.self.now.pending.now in
    let q = pending_view c.write_bytes.new.pending in
    let id : ℕ = c.args.self.now.id in
    let lists = slice_lists c.args.bytes.now in
    let closed = is_shut c.args.self.now.conn in
    written-as c.write_bytes.result
    (λ written. (left : List (List ℕ)) × WritesOwn u id lists closed p written v left q)
    (λ written. (m : Made) (h : List Event) → From m h u → From m (Sending (WroteOwn id lists closed written) ∷ h) v)
    (λ written s m h f. next m h u (Sending (WroteOwn id lists closed written)) v tt f (p, q, s.0, s.1))
    c.write_bytes.ensures.writes
