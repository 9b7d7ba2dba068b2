use Rattle.quic_retransmits.proofs.id_table.IdTable.remove.Goals as goal

pub returns-then-not-is_empty-clause-set : goal.returns-then-not-is_empty-clause-set
returns-then-not-is_empty-clause-set c = λ q. rw (c.in-Some.is, ← c.deref_mut.ensures.value) (c.remove.ensures.updates.0 q)
