use Rattle.std.proofs.Common.{w32, to_z-of_z}
use Rattle.quic_streams_c.proofs.Known.{known-taken}
use Rattle.quic_streams_c.proofs.connection.set_limit_words.Goals as goal

pub returns : goal.returns
returns c =
    simp (to_z-of_z {w = w32} {z = c.set_limits.result} (record { sfits = c.set_limits.type_inv }))
    (known-taken 7 c.args.words.now _ _ _ c.are_zero_from.ensures c.if-not-are_zero_from.false (rw c.limits_at.ensures at c.set_limits.ensures))
