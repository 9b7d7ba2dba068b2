use Rattle.std.proofs.Common.{◌≡◌, ◌++◌, take, drop}
use Rattle.std.specs.Prelude.{map}
use Rattle.quic_streams_c.specs.Slices.{raw_slice}
use Rattle.quic_streams_c.proofs.chunks.put_slices.Given as goal

abbrev pub invariant-loop-bytes : goal.invariant-loop-bytes
invariant-loop-bytes l = record {
  at : l.at ≡ l.bytes-index;
  put : l.slices ≡ map raw_slice (take l.bytes-index l.lent) ++ drop l.bytes-index l.initial.slices;
}
