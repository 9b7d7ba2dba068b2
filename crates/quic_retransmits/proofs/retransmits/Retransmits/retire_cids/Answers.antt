use Rattle.std.proofs.Common.{◌-◌, length-append, arith}
use Rattle.quic_retransmits.specs.Pending.{numbers_from}
use Rattle.quic_retransmits.proofs.Numbers.{length-numbers_from}
use Rattle.quic_retransmits.proofs.retransmits.Retransmits.retire_cids.Goals as goal

pub returns-clause-few : goal.returns-clause-few
returns-clause-few c =
    rw c.push_numbers.ensures
    (omega (arith, length-append c.reserve.new.self.items (numbers_from c.args.cids.start (c.args.cids.end - c.args.cids.start)), length-numbers_from c.args.cids.start (c.args.cids.end - c.args.cids.start)))
