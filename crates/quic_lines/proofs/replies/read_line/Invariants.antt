use Rattle.std.proofs.Common.{◌≡◌, string_bytes, take}
use Rattle.std.specs.List.{flat_map}
use Rattle.quic_lines.specs.Line.{chunk_text}
use Rattle.quic_lines.proofs.replies.read_line.Given as goal

-- the chunks so far are written
abbrev pub invariant-loop-chunk : goal.invariant-loop-chunk
invariant-loop-chunk l = string_bytes l.line ≡ flat_map chunk_text (take l.chunk-index l.chunks)
