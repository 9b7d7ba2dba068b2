use Rattle.std.proofs.Common.{[], length, arith}
use Rattle.quic_wire.proofs.Within.{all_within}
use Rattle.quic_wire.proofs.reading.decode_within.Goals as goal

pub returns-clause-found : goal.returns-clause-found
returns-clause-found g c =
    rw (c.in_ok-push.ensures.items, c.with_payload.ensures)
    (rw (c.in-Some.is, c.deref.ensures.value) at c.in_ok-frames.ensures.found)

pub returns-clause-only : goal.returns-clause-only
returns-clause-only g c = λ fs is.
    rw (c.in_ok-push.ensures.items, c.with_payload.ensures)
    (rw (c.in-Some.is, c.deref.ensures.value) at (c.in_ok-frames.ensures.only fs (rw c.deref.ensures.value is)))

pub returns-clause-within : goal.returns-clause-within
returns-clause-within g c =
    all_within (length c.args.payload.items) c.args.payload.items c.push.new.self.items [] (omega arith) (returns-clause-found g c)

pub returns-in_default-clause-within : goal.returns-in_default-clause-within
returns-in_default-clause-within g c =
    all_within (length c.args.payload.items) c.args.payload.items c.in_ok-frames.frames.items [] (omega arith)
    (rw (c.in_default.is, c.deref.ensures.value) at c.in_ok-frames.ensures.found)
