use Rattle.std.proofs.Common.{◌≡◌, ◌≤◌, ◌+◌, ◌++◌, length}
use Rattle.std.specs.Prelude.{map, vec_len, vec_capacity}
use Rattle.std.specs.Vec.Iter.{drain_items}
use Rattle.quic_session.specs.Lending.{lent_bytes}
use Rattle.quic_session.proofs.lending.lend_all.Given as goal

abbrev pub invariant-loop-chunk : goal.invariant-loop-chunk
invariant-loop-chunk l = record {
  lent : map lent_bytes l.lent.items ≡ map (λ c. c.bytes) l.yielded;
  room : vec_len l.lent + length (drain_items l.chunk-iterator) ≤ vec_capacity l.lent;
  rest : l.fn.chunks.items ≡ l.yielded ++ drain_items l.chunk-iterator;
}
