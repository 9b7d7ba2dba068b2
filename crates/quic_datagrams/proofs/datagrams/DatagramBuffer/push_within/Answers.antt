use Rattle.std.proofs.Common.{◌≡◌, [], ◌∷◌, arith, rules}
use Rattle.quic_datagrams.specs.Queue.{with_newest}
use Rattle.quic_datagrams.proofs.QueueLemmas.{total_cost-append, with_newest-joins}
use Rattle.quic_datagrams.proofs.datagrams.DatagramBuffer.push_within.Goals as goal

pub invariant_of-self-2 : goal.invariant_of-self-2
invariant_of-self-2 c =
    rw c.push_back_reserved.ensures.items (omega (arith, total_cost-append c.drop_oldest.new.queue.items (c.args.datagram ∷ [])))

pub returns-clause-within : goal.returns-clause-within
returns-clause-within c =
    rw c.push_back_reserved.ensures.items (omega (arith, total_cost-append c.drop_oldest.new.queue.items (c.args.datagram ∷ [])))

pub returns-clause-joins : goal.returns-clause-joins
returns-clause-joins c =
    let queued : c.push_back_reserved.new.self.items ≡ with_newest c.args.window c.args.self.now c.args.datagram = search rules in
    rw queued (with_newest-joins c.args.window c.args.self.now c.args.datagram)
