use Rattle.std.proofs.Common.{◌+◌, ◌-◌, length}
use Rattle.quic_outgoing.specs.Shown.{outgoing_view}
use Rattle.quic_queue.specs.SendOrder.{line}
use Rattle.quic_writing.specs.Writer.{writer, TakesTurns}
use Rattle.quic_writing.proofs.stream_frames.take_turns.Given as goal

abbrev pub invariant-loop-streams : goal.invariant-loop-streams
invariant-loop-streams l =
    TakesTurns l.max_size l.fair (writer (outgoing_view l.initial.streams) l.initial.queue l.initial.buf.items l.initial.sent.items) (writer (outgoing_view l.streams) l.queue l.buf.items l.sent.items)

abbrev pub decreases-loop-streams : goal.decreases-loop-streams
decreases-loop-streams l = (l.max_size - length l.buf.items) + length (line l.queue)
