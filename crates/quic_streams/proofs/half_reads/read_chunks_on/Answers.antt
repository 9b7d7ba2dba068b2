use Rattle.std.proofs.Common.{arith, rules, ◌≡◌, ◌≤◌, ◌<◌, ◌+◌, ◌^◌, ◌++◌, ◌∷◌, [], List, Err, length, length-append}
use Rattle.quic_assembler.specs.declared.chunk.Chunk.{Chunk}
use Rattle.quic_history.specs.Reading.{bytes_in}
use Rattle.quic_history.proofs.Batches.{bytes_in-more}
use Rattle.quic_streams.specs.Held.{half_in}
use Rattle.quic_streams.proofs.HalfReads.{gives_on-more, last_on}
use Rattle.quic_streams.proofs.half_reads.read_chunks_on.Goals as goal

pub overflow_add-read : goal.overflow_add-read
overflow_add-read c =
    let told = rw c.in-Ok-Some.field-0-is at c.in-Ok-Some.ensures in
    let small : c.loop-index.read + c.len.result < 2 ^ 64 =
    omega (arith, (told.reads 0).1.bytes_read, told.bound 0, c.loop-index.invariant.read 0, c.len.ensures) in
    search rules

pub returns-in-Ok-None-clause-reads : goal.returns-in-Ok-None-clause-reads
returns-in-Ok-None-clause-reads c =
    let told = rw c.in-Ok-None.field-0-is at c.in-Ok-None.ensures in
    λ window. (half_in window c.loop-index.entry, c.loop-index.invariant.gives window, told.reads window)

pub returns-in-Err-clause-reads : goal.returns-in-Err-clause-reads
returns-in-Err-clause-reads c = λ window. (
  half_in window c.loop-index.entry,
  c.loop-index.invariant.gives window,
  last_on (half_in window c.loop-index.entry) (half_in window c.read_on.new.entry) c.args.max_length (Err c.in-Err.error) c.of_error.result c.of_error.ensures (c.in-Err.ensures.reads window),
)

pub loop-index-preserved : goal.loop-index-preserved
loop-index-preserved c =
    let told = rw c.in-Ok-Some.field-0-is at c.in-Ok-Some.ensures in
    let old : List Chunk = c.loop-index.chunks.items in
    let chunk : Chunk = c.in-Ok-Some.chunk in
    let i = c.loop-index.invariant in
    let items : c.push_reserved.new.self.items ≡ old ++ chunk ∷ [] = c.push_reserved.ensures.items in
    let more : bytes_in (old ++ chunk ∷ []) ≡ bytes_in old + length chunk.bytes = bytes_in-more old chunk in
    let longer : length (old ++ chunk ∷ []) ≡ length old + 1 = length-append old (chunk ∷ []) in
    record {
      gives = λ window. rw items
          (gives_on-more (half_in window c.args.entry.now) (half_in window c.loop-index.entry) (half_in window c.read_on.new.entry) c.args.max_length old chunk (i.gives window) (told.reads window));
      mode = told.mode;
      read = λ window. omega (arith, i.read window, (told.reads window).1.bytes_read, c.len.ensures);
      bytes = rw (items, c.len.ensures) (omega (arith, i.bytes, more));
      count = rw items (omega (arith, i.count, longer));
      places = rw c.push_reserved.ensures.capacity i.places;
    }
