use Rattle.std.proofs.Common.{rules, ◌≡◌, Some, Option}
use Rattle.quic_streams.specs.Held.{halves_view, half_in}
use Rattle.quic_streams.specs.InPlace.{IngestsOn, IngestsIn}
use Rattle.quic_streams.specs.declared.halves.Ingested.{Ingested}
use Rattle.quic_streams.proofs.HeldMaps.{held-put}
use Rattle.quic_streams.proofs.Results.{map_ok}
use Rattle.quic_streams.proofs.InPlace.{takes-in, same-in, err_map}
use Rattle.quic_streams.proofs.halves.ReceiveHalves.ingest.Goals as goal

pub returns-in-Some-clause-ingests : goal.returns-in-Some-clause-ingests
unfolding halves_view
returns-in-Some-clause-ingests c =
    let f = c.args.frame in
    let w = c.args.self.now.window in
    let h = half_in w c.in-Some.entry.now in
    let k = half_in w c.ingest_on.new.entry in
    let moved = held-put w _ _ f.id _ ((c.get_mut.follows.holds c.ingest_on.new.entry).3 (search rules)).0 in
    let there : halves_view c.args.self.now f.id ≡ Some h = search rules in
    map_ok (λ (o : Option Ingested). IngestsOn h f.offset f.bytes f.fin c.args.payload_len c.args.received c.args.permitted o k) _
    c.ingest_on.result
    (λ o s. takes-in (halves_view c.args.self.now) _ f.id f.offset f.bytes f.fin c.args.payload_len c.args.received c.args.permitted o h k there moved s)
    c.ingest_on.ensures.ingests

pub returns-in-Some-clause-err : goal.returns-in-Some-clause-err
unfolding halves_view
returns-in-Some-clause-err c =
    let id = c.args.frame.id in
    let w = c.args.self.now.window in
    let moved = held-put w _ _ id _ ((c.get_mut.follows.holds c.ingest_on.new.entry).3 (search rules)).0 in
    let there : halves_view c.args.self.now id ≡ Some (half_in w c.in-Some.entry.now) = search rules in
    err_map c.ingest_on.result (λ e. same-in (halves_view c.args.self.now) _ id (half_in w c.in-Some.entry.now) (half_in w c.ingest_on.new.entry) there moved e) c.ingest_on.ensures.err
