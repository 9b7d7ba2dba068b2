use Rattle.std.proofs.Common.{arith}
use Rattle.quic_session.proofs.Marks.{count-most}
use Rattle.quic_session.proofs.tracked.Tracked.reserve.Goals as goal

pub overflow_sub-missing : goal.overflow_sub-missing
overflow_sub-missing c =
    let u = c.args.self.now in
    omega (arith, c.len.ensures.len, c.len-2.ensures, u.marked, count-most u.streams.items, u.touched.ok.0)
