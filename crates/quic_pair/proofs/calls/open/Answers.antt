use Rattle.quic_pair.proofs.calls.open.Goals as goal

pub returns-clause-does : goal.returns-clause-does
returns-clause-does c = record { answer = c.open.result; opens = (rw c.requires at c.open.ensures.opens, c.open.ensures.pending); reply_is = c.opened_reply.ensures }
