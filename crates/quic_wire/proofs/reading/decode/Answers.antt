use Rattle.std.proofs.Common.{[], refl, length, arith}
use Rattle.quic_wire.proofs.Within.{all_within}
use Rattle.quic_wire.proofs.reading.decode.Goals as goal

pub returns-clause-within : goal.returns-clause-within
returns-clause-within c =
    all_within (length c.args.payload.now) c.args.payload.now c.in_ok-frames.frames.items [] (omega arith) (rw (c.in_ok-frames.ensures.whole refl) at c.in_ok-frames.ensures.found)
