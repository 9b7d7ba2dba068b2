use Rattle.std.proofs.Common.{rules}
use Rattle.quic_streams.specs.Shown.{streams_view}
use Rattle.quic_streams.proofs.InPlace.{reader-in-mode, read-ended, read-going, still-reading}
use Rattle.quic_streams.proofs.state.StreamsState.read_half.Goals as goal

pub read_in_place-answer-requires : goal.read_in_place-answer-requires
read_in_place-answer-requires c = reader-in-mode _ c.args.ordered c.args.read c.requires.reading

pub returns-then-is_ended-clause-reads : goal.returns-then-is_ended-clause-reads
returns-then-is_ended-clause-reads c =
    let a = c.read_in_place-answer in
    read-ended (streams_view c.args.self.now) (streams_view a.new.self) c.args.id c.args.max_length c.args.ordered c.args.read a.result
    c.requires.reading a.ensures.reads a.ensures.halves (streams_view c.free_receive.new.self) (search rules) c.free_receive.ensures

pub returns-else-is_ended-clause-reads : goal.returns-else-is_ended-clause-reads
returns-else-is_ended-clause-reads c =
    let a = c.read_in_place-answer in
    read-going (streams_view c.args.self.now) (streams_view a.new.self) c.args.id c.args.max_length c.args.ordered c.args.read a.result
    c.requires.reading a.ensures.reads a.ensures.halves (search rules)

pub returns-else-is_ended-clause-reading : goal.returns-else-is_ended-clause-reading
returns-else-is_ended-clause-reading c =
    let a = c.read_in_place-answer in
    still-reading (streams_view c.args.self.now) (streams_view a.new.self) c.args.id c.args.max_length c.args.ordered c.args.read a.result
    c.requires.reading a.ensures.reads a.ensures.halves
