use Rattle.std.proofs.Common.{◌≡◌, ◌≤◌, ◌++◌, ◌∙◌, sym, ap, inr, refl, rules, List, ℕ, Err, length, drop, subst}
use Rattle.quic_assembler.specs.declared.chunk.Chunk.{Chunk}
use Rattle.quic_history.specs.Reading.{bytes_in}
use Rattle.quic_session.specs.Reading.{chunk_bytes, AreConsecutive}
use Rattle.quic_session.proofs.Copied.{given-fit, given-order}
use Rattle.quic_session.proofs.session.Session.read_many.Goals as goal

pub put_chunks-count-requires : goal.put_chunks-count-requires
put_chunks-count-requires c =
    let r = rw c.chunks_for-times.ensures at c.in_ok-some.ensures.reads in
    let size = length c.args.out.now in
    let P : List Chunk → Type 0 = λ l. bytes_in l ≤ size in
    subst P (sym c.deref.ensures.value) (given-fit r.reads.opened r.reads.read c.args.id size _ c.in_ok-some.some.chunks.items c.in_ok-some.some.last r.reads.gives r.reads.count)

pub returns-clause-reads : goal.returns-clause-reads
returns-clause-reads c =
    let r = rw c.chunks_for-times.ensures at c.in_ok-some.ensures.reads in
    let P : ℕ → Type 0 = λ at. AreConsecutive at c.in_ok-some.some.chunks.items in
    record {
      given = sym c.was_given.ensures ∙ c.if-not-was_given.false;
      chunks = c.in_ok-some.some.chunks.items;
      transmit = c.in_ok-some.some.transmit.0;
      reads = r;
      in_order = subst P (sym (rw c.deref-2.ensures.value at c.offset_of_first-offset.ensures)) (given-order r.reads.opened r.reads.read c.args.id _ c.in_ok-some.some.chunks.items r.reads.gives);
      count = c.put_chunks-count.ensures.count ∙ ap bytes_in c.deref.ensures.value;
      copied = c.put_chunks-count.ensures.copied ∙ ap (λ l. chunk_bytes l ++ drop c.put_chunks-count.result c.args.out.now) c.deref.ensures.value;
      from = rw c.chunks_for-times.ensures at c.in_ok-some.ensures.from;
    }

pub returns-in_err-some-clause-reads : goal.returns-in_err-some-clause-reads
returns-in_err-some-clause-reads c =
    let is : c.from_residual.result ≡ Err c.in_err-some.field-0.0 = search rules in
    rw is (
      refl,
      inr (record {
        given = sym c.was_given.ensures ∙ c.if-not-was_given.false;
        refuses = c.in_err-some.ensures.refused;
        from = c.in_err-some.ensures.from_refused;
      }),
    )
