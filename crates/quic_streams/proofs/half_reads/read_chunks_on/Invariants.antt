use Rattle.std.proofs.Common.{ℕ, ◌≡◌, ◌≤◌, length}
use Rattle.std.specs.Vec.{vec_capacity}
use Rattle.quic_history.specs.Reading.{bytes_in}
use Rattle.quic_streams.specs.Held.{half_in}
use Rattle.quic_streams.specs.InPlace.{mode_of}
use Rattle.quic_streams.specs.HalfReads.{GivesOn}
use Rattle.quic_streams.proofs.half_reads.read_chunks_on.Given as goal

abbrev pub invariant-loop-index : goal.invariant-loop-index
invariant-loop-index l = record {
  gives : (window : ℕ) → GivesOn (half_in window l.fn.entry) l.max_length l.chunks.items (half_in window l.entry);
  mode : mode_of l.entry ≡ l.ordered;
  read : (window : ℕ) → l.read ≤ (half_in window l.entry).buffer.bytes_read;
  bytes : l.read ≡ bytes_in l.chunks.items;
  count : length l.chunks.items ≡ l._index;
  places : l.times ≤ vec_capacity l.chunks;
}
