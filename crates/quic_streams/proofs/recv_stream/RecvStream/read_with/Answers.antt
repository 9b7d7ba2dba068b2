use Rattle.std.proofs.Common.{rules, Err, List, ◌∷◌, IfErr}
use Rattle.quic_receiving.specs.declared.errors.ReadableError.{ReadableError}
use Rattle.quic_retransmits.specs.Pending.{pending_view}
use Rattle.quic_history.specs.World.{Made}
use Rattle.quic_history.specs.History.{Event, Began, From}
use Rattle.quic_history.specs.Reading.{Begins}
use Rattle.quic_history.proofs.Histories.{next}
use Rattle.quic_streams.specs.Shown.{streams_view}
use Rattle.quic_streams.proofs.Results.{map_err}
use Rattle.quic_streams.proofs.Visits.{reads_with}
use Rattle.quic_streams.proofs.recv_stream.RecvStream.read_with.Goals as goal

pub returns-in_err-begin-clause-from_refused : goal.returns-in_err-begin-clause-from_refused
returns-in_err-begin-clause-from_refused g c =
    let u = streams_view c.args.self.now.state.now in
    let v = streams_view c.begin.new.self in
    let id = c.args.self.now.id in
    let refused : IfErr c.from_residual.result (λ (e : ReadableError). Begins u id c.args.ordered (Err e) v) = search rules in
    map_err (λ (e : ReadableError). Begins u id c.args.ordered (Err e) v)
    (λ (e : ReadableError). (m : Made) (h : List Event) → From m h u → From m (Began id c.args.ordered (Err e) ∷ h) v)
    c.from_residual.result
    (λ e s m h f. next m h u (Began id c.args.ordered (Err e)) v tt f s)
    refused

pub returns-clause-reads : goal.returns-clause-reads
returns-clause-reads g c =
    let reader = c.visit.new.reader in
    let n = c.new-reader.ensures in
    let visits = rw (n.streams, n.id, n.ordered) at c.visit.ensures.visits in
    reads_with (streams_view c.args.self.now.state.now) (streams_view c.begin.new.self) (streams_view reader.streams.now) _ c.args.self.now.id c.args.ordered (pending_view c.args.self.now.pending.now) _ _
    reader.progress reader.read c.finalize.result.0 (search rules) visits (search rules) (search rules) (search rules)
