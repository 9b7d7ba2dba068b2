use Rattle.std.proofs.Common.{Err, subst}
use Rattle.quic_history.specs.World.{World}
use Rattle.quic_history.specs.Reading.{ReadsSome}
use Rattle.quic_retransmits.specs.Pending.{Pending, pending_view}
use Rattle.quic_streams.specs.Shown.{streams_view}
use Rattle.quic_streams.proofs.HalfReads.{reads_some}
use Rattle.quic_streams.proofs.InPlace.{begins_at}
use Rattle.quic_streams.proofs.state.StreamsState.read_some.Goals as goal

pub returns-in-Ok-clause-reads : goal.returns-in-Ok-clause-reads
returns-in-Ok-clause-reads c =
    let told = c.in-Ok.ensures in
    let reads = c.in-Ok.reads in
    let credit = c.give_credit-transmit in
    let w = streams_view c.make_stream_room.new.self in
    let q = pending_view credit.new.pending in
    let p = pending_view c.reserve_window.new.self in
    let all =
    reads_some w (streams_view c.read_some_in_place.new.self) (streams_view c.free_if_ended.new.self) c.args.id c.args.max_length c.args.times c.args.ordered reads.chunks.items reads.last
    told.reads told.halves c.free_if_ended.ensures.ended c.free_if_ended.ensures.going (streams_view credit.new.streams) p q reads.window_due credit.result.0 reads.read told.bytes told.due
    credit.ensures.streams credit.ensures.pending credit.ensures.transmit in
    let P : World → Type 0 = λ x. ReadsSome x c.args.id c.args.max_length c.args.times c.args.ordered p reads.chunks.items reads.last credit.result.0 (streams_view credit.new.streams) q in
    let Q : Pending → Type 0 = λ x. ReadsSome (streams_view c.args.self.now) c.args.id c.args.max_length c.args.times c.args.ordered x reads.chunks.items reads.last credit.result.0 (streams_view credit.new.streams) q in
    subst Q c.reserve_window.ensures.same (subst P c.make_stream_room.ensures.same all)

pub returns-in-Err-clause-refused : goal.returns-in-Err-clause-refused
returns-in-Err-clause-refused c =
    begins_at (streams_view c.args.self.now) (streams_view c.make_stream_room.new.self) (streams_view c.read_some_in_place.new.self) c.args.id c.args.ordered (Err c.in-Err.error) c.make_stream_room.ensures.same
    c.in-Err.ensures.refused c.in-Err.ensures.halves
