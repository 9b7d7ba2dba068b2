use Rattle.quic_retransmits.proofs.stream_ids.StreamIds.add_first.Goals as goal

pub returns-in-Some-clause-set : goal.returns-in-Some-clause-set
returns-in-Some-clause-set c = rw c.in-Some.is c.insert_reserved.ensures.set
