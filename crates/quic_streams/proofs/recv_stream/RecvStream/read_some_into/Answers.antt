use Rattle.std.proofs.Common.{Err, List, ◌∷◌}
use Rattle.quic_receiving.specs.declared.errors.ReadableError.{ReadableError}
use Rattle.quic_retransmits.specs.Pending.{pending_view}
use Rattle.quic_history.specs.World.{Made}
use Rattle.quic_history.specs.History.{Event, Began, From, with_reads}
use Rattle.quic_history.specs.Reading.{Begins, ReadsSome}
use Rattle.quic_history.proofs.Histories.{next}
use Rattle.quic_history.proofs.Batches.{from-reads}
use Rattle.quic_streams.specs.Shown.{streams_view}
use Rattle.quic_streams.specs.declared.batches.ReadSome.{ReadSome}
use Rattle.quic_streams.proofs.Results.{map_ok, map_err}
use Rattle.quic_streams.proofs.recv_stream.RecvStream.read_some_into.Goals as goal

pub returns-clause-from : goal.returns-clause-from
returns-clause-from c =
    let u = streams_view c.args.self.now.state.now in
    let v = streams_view c.read_some.new.self in
    let p = pending_view c.args.self.now.pending.now in
    let q = pending_view c.read_some.new.pending in
    let id = c.args.self.now.id in
    map_ok (λ (r : ReadSome). ReadsSome u id c.args.max_length c.args.times c.args.ordered p r.chunks.items r.last r.transmit.0 v q)
    (λ (r : ReadSome). (m : Made) (h : List Event) → From m h u → From m (with_reads id c.args.max_length c.args.ordered r.chunks.items r.last h) v)
    c.read_some.result
    (λ r s m h f. from-reads m h u v id c.args.max_length c.args.times c.args.ordered p q r.chunks.items r.last r.transmit.0 f s)
    c.read_some.ensures.reads

pub returns-clause-from_refused : goal.returns-clause-from_refused
returns-clause-from_refused c =
    let u = streams_view c.args.self.now.state.now in
    let v = streams_view c.read_some.new.self in
    let id = c.args.self.now.id in
    map_err (λ (e : ReadableError). Begins u id c.args.ordered (Err e) v)
    (λ (e : ReadableError). (m : Made) (h : List Event) → From m h u → From m (Began id c.args.ordered (Err e) ∷ h) v)
    c.read_some.result
    (λ e s m h f. next m h u (Began id c.args.ordered (Err e)) v tt f s)
    c.read_some.ensures.refused
