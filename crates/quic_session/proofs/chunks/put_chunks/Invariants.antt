use Rattle.std.proofs.Common.{◌≡◌, ◌++◌, take, drop}
use Rattle.quic_history.specs.Reading.{bytes_in}
use Rattle.quic_session.specs.Reading.{chunk_bytes}
use Rattle.quic_session.proofs.chunks.put_chunks.Given as goal

abbrev pub invariant-loop-chunk : goal.invariant-loop-chunk
invariant-loop-chunk l = record {
  count : l.count ≡ bytes_in (take l.chunk-index l.chunks);
  copied : l.out ≡ chunk_bytes (take l.chunk-index l.chunks) ++ drop l.count l.initial.out;
}
