use Rattle.std.proofs.Common.{◌≤◌, arith, rules}
use Rattle.quic_sending.proofs.Cuts.{HasCuts-ack}
use Rattle.quic_sending.proofs.Sound.{prefix_sent, IsSound-ack}
use Rattle.quic_sending.proofs.send_buffer.SendBuffer.ack.Goals as goal

pub drop_covered-requires : goal.drop_covered-requires
drop_covered-requires c =
    let sent : c.args.range.end ≤ c.self.inside.unsent = search rules in
    let within = prefix_sent _ c.ack.new.self.prefix c.ack.new.self.later c.args.range c.self.invariant sent c.in_ok-ack.ensures.grows c.in_ok-ack.ensures.acked in
    let low = c.self.invariant.gone_acked in
    let grows = c.in_ok-ack.ensures.grows in
    let high = c.self.invariant.sent_written in
    (omega arith, omega arith)

pub invariant_of-self-2 : goal.invariant_of-self-2
invariant_of-self-2 c =
    let sent : c.args.range.end ≤ c.self.inside.unsent = search rules in
    IsSound-ack _ _ c.args.range c.self.invariant sent c.in_ok-ack.ensures.grows c.in_ok-ack.ensures.acked c.in_ok-ack.ensures.lost c.in_ok-ack.ensures.above (search rules) (search rules) c.drop_covered.ensures.lengths c.drop_covered.ensures.filled (search rules) (search rules)

pub returns-clause-sound : goal.returns-clause-sound
returns-clause-sound c = invariant_of-self-2 c

pub returns-clause-cuts : goal.returns-clause-cuts
returns-clause-cuts c = λ cuts h. HasCuts-ack c.args.self.now _ cuts h (search rules) (search rules) (search rules) (search rules)
