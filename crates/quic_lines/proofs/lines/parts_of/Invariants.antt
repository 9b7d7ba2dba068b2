use Rattle.std.proofs.Common.{◌≡◌, length, vec_len}
use Rattle.quic_lines.proofs.lines.parts_of.Given as goal

abbrev pub invariant-loop-part : goal.invariant-loop-part
invariant-loop-part l = record {
  same : l.parts.items ≡ l.yielded;
  count : vec_len l.parts ≡ length l.yielded;
}
