use Rattle.std.proofs.Common.{◌≡◌, map, take}
use Rattle.std.specs.Prelude.{string_bytes}
use Rattle.std.specs.List.{join_with_byte}
use Rattle.quic_lines.specs.Field.{hex_form}
use Rattle.quic_lines.proofs.printing.chunks_field.Given as goal

abbrev pub invariant-loop-index : goal.invariant-loop-index
invariant-loop-index l = string_bytes l.field ≡ join_with_byte 44 (map hex_form (take l.index l.chunks))
