use Rattle.quic_retransmits.proofs.id_table.IdTable.reserve.Goals as goal

pub returns-in_ok-reserve-in-Some-clause-same : goal.returns-in_ok-reserve-in-Some-clause-same
returns-in_ok-reserve-in-Some-clause-same c = λ q. rw (c.in-Some.is, ← c.deref_mut.ensures.value) (c.reserve.ensures.keys.2 q)
