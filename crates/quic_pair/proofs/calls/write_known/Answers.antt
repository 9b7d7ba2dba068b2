use Rattle.std.proofs.Common.{sym, ap, Ok, Err}
use Rattle.quic_steps.specs.declared.steps.Reply.TheVariants.{Wrote}
use Rattle.quic_pair.proofs.calls.write_known.Goals as goal

pub returns-in-Ok-clause-does : goal.returns-in-Ok-clause-does
returns-in-Ok-clause-does c =
    let w = rw (c.in-Ok.is, c.as_slice.ensures, c.requires.open) at (c.write.ensures.writes c.requires.given) in
    record { answer = Ok w.0; writes = w.2; reply_is = ap (λ n. Ok (Wrote n)) (sym w.1) }

pub returns-in-Err-clause-does : goal.returns-in-Err-clause-does
returns-in-Err-clause-does c = record { answer = Err c.in-Err.error; writes = rw (c.in-Err.is, c.as_slice.ensures, c.requires.open) at (c.write.ensures.writes c.requires.given); reply_is = c.unwritten_reply.ensures }
