use Rattle.quic_pair.proofs.calls.call.Goals as goal

pub returns-in-SetMaxConcurrent-clause-does : goal.returns-in-SetMaxConcurrent-clause-does
returns-in-SetMaxConcurrent-clause-does c = rw c.in-SetMaxConcurrent.is (record { answer = c.set_max_concurrent.result; sets = c.set_max_concurrent.ensures.sets; reply_is = c.done_reply.ensures })
