use Rattle.std.proofs.Common.{◌≡◌, length, arith, rules}
use Rattle.quic_outgoing.specs.Shown.{outgoing_view}
use Rattle.quic_writing.specs.Writer.{writer, none, more}
use Rattle.quic_writing.proofs.Turns.{shrinks}
use Rattle.quic_writing.proofs.stream_frames.take_turns.Goals as goal

pub loop-streams-init : goal.loop-streams-init
loop-streams-init c = none

pub loop-streams-smaller : goal.loop-streams-smaller
loop-streams-smaller c =
    let len_is : c.len.result ≡ length c.loop-streams.buf.items = search rules in
    let a = writer (outgoing_view c.loop-streams.streams) c.loop-streams.queue c.loop-streams.buf.items c.loop-streams.sent.items in
    let b = writer (outgoing_view c.take_turn.new.streams) c.take_turn.new.queue c.take_turn.new.buf.items c.take_turn.new.sent.items in
    shrinks c.args.max_size c.args.fair a b (omega arith) (c.in_ok-take_turn.ensures.turn c.if-not-branch.false)

pub loop-streams-preserved : goal.loop-streams-preserved
loop-streams-preserved c =
    let len_is : c.len.result ≡ length c.loop-streams.buf.items = search rules in
    more c.loop-streams.invariant (omega arith) (c.in_ok-take_turn.ensures.turn c.if-not-branch.false)
