use Rattle.std.proofs.Common.{◌≡◌, ◌+◌, ℕ, List, ap, ◌∙◌, sym, refl, take, length, ◌++◌, drop, arith}
use Rattle.std.proofs.Math.Seq.{take-length}
use Rattle.quic_assembler.specs.declared.chunk.Chunk.{Chunk}
use Rattle.quic_history.specs.Reading.{bytes_in}
use Rattle.quic_session.specs.Reading.{chunk_bytes}
use Rattle.quic_session.proofs.Copied.{count-step, count-within, copied-step}
use Rattle.quic_session.proofs.chunks.put_chunks.Goals as goal

whole : (xs : List Chunk) (n : ℕ) → n ≡ length xs → take n xs ≡ xs
whole xs n e = ap (λ k. take k xs) e ∙ take-length xs

pub loop-chunk-init : goal.loop-chunk-init
loop-chunk-init c = record { count = refl; copied = refl }

pub put_at-requires : goal.put_at-requires
put_at-requires c =
    let i = c.loop-chunk.chunk-index in
    omega (arith, ap length c.as_slice.ensures, c.loop-chunk.invariant.count, count-step c.args.chunks.now i c.chunk-item.result c.loop-chunk-test.true c.chunk-item.is, count-within c.args.chunks.now (i + 1), c.requires, c.loop-chunk.auto.out)

pub loop-chunk-preserved : goal.loop-chunk-preserved
loop-chunk-preserved c =
    let i = c.loop-chunk.chunk-index in
    let step = count-step c.args.chunks.now i c.chunk-item.result c.loop-chunk-test.true c.chunk-item.is in
    let long : length c.as_slice.result.now ≡ c.len-count.result = ap length c.as_slice.ensures ∙ sym c.len-count.ensures in
    record {
      count = omega (arith, c.loop-chunk.invariant.count, step, c.len-count.ensures);
      copied = copied-step c.args.chunks.now i c.chunk-item.result c.loop-chunk.count c.args.out.now c.loop-chunk.out c.as_slice.result.now c.put_at.new.out c.loop-chunk-test.true c.chunk-item.is
          c.loop-chunk.invariant.count c.as_slice.ensures c.loop-chunk.invariant.copied c.put_at.ensures
          ∙ ap (λ n. chunk_bytes (take (i + 1) c.args.chunks.now) ++ drop (c.loop-chunk.count + n) c.args.out.now) long;
    }

pub returns-clause-count : goal.returns-clause-count
returns-clause-count c = c.loop-chunk.invariant.count ∙ ap bytes_in (whole c.args.chunks.now c.loop-chunk.chunk-index (omega arith))

pub returns-clause-copied : goal.returns-clause-copied
returns-clause-copied c = c.loop-chunk.invariant.copied ∙ ap (λ l. chunk_bytes l ++ drop c.loop-chunk.count c.args.out.now) (whole c.args.chunks.now c.loop-chunk.chunk-index (omega arith))
