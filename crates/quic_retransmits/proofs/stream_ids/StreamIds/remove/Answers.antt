use Rattle.quic_retransmits.specs.Ids.{is_in_table}
use Rattle.quic_retransmits.proofs.Sets.{without_either}
use Rattle.quic_retransmits.proofs.stream_ids.StreamIds.remove.Goals as goal

pub returns-clause-set : goal.returns-clause-set
returns-clause-set c =
    without_either c.clear_first.new.self.first c.args.self.now.first (is_in_table c.remove.new.self) (is_in_table c.args.self.now.others) c.args.id c.clear_first.ensures.first
    (rw (← c.clear_first.ensures.others) c.remove.ensures.set)
