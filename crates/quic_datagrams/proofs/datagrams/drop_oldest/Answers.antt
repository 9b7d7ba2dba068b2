use Rattle.std.proofs.Common.{sym, ◌∙◌, ◌≤◌, arith}
use Rattle.quic_datagrams.specs.Queue.{total_cost}
use Rattle.quic_datagrams.proofs.QueueLemmas.{newest_within-fits}
use Rattle.quic_datagrams.proofs.datagrams.drop_oldest.Goals as goal

pub returns-clause-kept : goal.returns-clause-kept
returns-clause-kept c =
    let fits : total_cost c.loop-size.queue.items ≤ c.args.room = omega arith in
    sym (newest_within-fits _ _ fits) ∙ c.loop-size.invariant.same
