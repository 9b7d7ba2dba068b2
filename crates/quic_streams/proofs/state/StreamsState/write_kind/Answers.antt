use Rattle.std.proofs.Common.{arith}
use Rattle.quic_streams.specs.Payload.{none, more}
use Rattle.quic_streams.proofs.state.StreamsState.write_kind.Goals as goal

pub loop-self-init : goal.loop-self-init
loop-self-init c = none

pub loop-self-preserved : goal.loop-self-preserved
loop-self-preserved c =
    let turn = rw c.if-not-branch.false at c.in_ok-settle.ensures.tries in
    more c.loop-self.invariant (omega arith) turn
