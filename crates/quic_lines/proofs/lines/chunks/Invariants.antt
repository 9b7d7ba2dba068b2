use Rattle.std.proofs.Common.{◌≡◌, map}
use Rattle.quic_lines.specs.Field.{hex_form}
use Rattle.quic_lines.proofs.lines.chunks.Given as goal

abbrev pub invariant-loop-part : goal.invariant-loop-part
invariant-loop-part l = map hex_form l.chunks ≡ map (λ part. part.now) l.yielded
