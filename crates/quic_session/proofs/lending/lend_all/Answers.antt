use Rattle.std.proofs.Common.{◌≡◌, sym, ap, arith, ◌∙◌, List, ℕ, length, take, drop, ◌++◌, ◌∷◌, []}
use Rattle.std.specs.Prelude.{map}
use Rattle.std.proofs.lemmas.List.{map-append, append_assoc, append-nil}
use Rattle.std.proofs.Math.Seq.{take-length}
use Rattle.std.specs.Vec.Iter.{drain_items}
use Rattle.quic_assembler.specs.declared.chunk.Chunk.{Chunk}
use Rattle.quic_session.specs.Lending.{lent_bytes}
use Rattle.quic_session.proofs.lending.lend_all.Goals as goal

abbrev bytes_of : Chunk → List ℕ
bytes_of c = c.bytes

whole : (cs : List Chunk) (n : ℕ) → length cs ≡ n → take n cs ≡ cs
whole cs n e = ap (λ k. take k cs) (sym e) ∙ take-length cs

pub loop-chunk-init : goal.loop-chunk-init
loop-chunk-init c =
    let left = ap drain_items c.into_iter-chunk-iterator.ensures.into_iter_gives ∙ c.drain-chunk-items.ensures.rest ∙ whole c.args.chunks.items _ (omega (arith, c.args.chunks.ok.0)) in
    record {
      lent = ap (map lent_bytes) c.requires.none;
      room = omega (arith, c.requires.room, ap length left, c.args.chunks.ok.0);
      rest = sym left;
    }

pub loop-chunk-preserved : goal.loop-chunk-preserved
loop-chunk-preserved c =
    let chunk = c.in-Some.chunk in
    let start = c.into_parts-memory.result.1 in
    let memory = c.into_parts-memory.result.0 in
    let before = c.loop-chunk.yielded in
    record {
      lent = ap (map lent_bytes) c.push_reserved.ensures.items ∙ map-append lent_bytes c.loop-chunk.lent.items (_ ∷ []) ∙ ap (λ l. l ++ drop start memory.items ∷ []) c.loop-chunk.invariant.lent
          ∙ ap (λ b. map bytes_of before ++ b ∷ []) c.into_parts-memory.ensures.rest ∙ sym (map-append bytes_of before (chunk ∷ []));
      room = omega (arith, c.loop-chunk.invariant.room, c.push_reserved.ensures.len, c.push_reserved.ensures.capacity, ap length c.in-Some.ensures.steps.0);
      rest = c.loop-chunk.invariant.rest ∙ ap (λ l. before ++ l) c.in-Some.ensures.steps.0 ∙ sym (append_assoc before (chunk ∷ []) (drain_items c.next.new.self));
    }

pub returns : goal.returns
returns c = c.loop-chunk.invariant.lent ∙ ap (map bytes_of) (sym (c.loop-chunk.invariant.rest ∙ ap (λ l. c.loop-chunk.yielded ++ l) c.in-None.ensures.steps.0 ∙ append-nil c.loop-chunk.yielded))
