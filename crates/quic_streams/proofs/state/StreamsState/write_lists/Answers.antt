use Rattle.std.proofs.Common.{rules, ◌∙◌}
use Rattle.quic_retransmits.specs.Pending.{pending_view}
use Rattle.quic_streams.specs.Connection.{is_shut}
use Rattle.quic_streams.specs.Shown.{streams_view}
use Rattle.quic_streams.proofs.LeftChunks.{left_of_write, kept_of_write}
use Rattle.quic_streams.proofs.state.StreamsState.write_lists.Goals as goal

pub returns-clause-left : goal.returns-clause-left
returns-clause-left c =
    let s = c.write_source.new.source in
    let first = c.from_chunks-source.ensures.lists in
    let size = c.write_source.ensures.list_count ∙ c.from_chunks-source.ensures.list_count in
    let wrote = rw first at c.write_source.ensures.writes in
    left_of_write c.write_source.result (streams_view c.args.self.now) c.args.id (is_shut c.args.conn) (pending_view c.args.pending.now) (streams_view c.write_source.new.self) (pending_view c.write_source.new.pending) s.consumed s.chunks.now _ c.args.chunks.now s.in_range s.taken size wrote
    (search rules)

pub returns-clause-kept : goal.returns-clause-kept
returns-clause-kept c =
    let s = c.write_source.new.source in
    let first = c.from_chunks-source.ensures.lists in
    let size = c.write_source.ensures.list_count ∙ c.from_chunks-source.ensures.list_count in
    let wrote = rw first at c.write_source.ensures.writes in
    kept_of_write c.write_source.result (streams_view c.args.self.now) c.args.id (is_shut c.args.conn) (pending_view c.args.pending.now) (streams_view c.write_source.new.self) (pending_view c.write_source.new.pending) s.consumed s.chunks.now _ c.args.chunks.now s.in_range size wrote
    (search rules)
