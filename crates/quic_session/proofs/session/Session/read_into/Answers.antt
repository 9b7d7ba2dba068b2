use Rattle.std.proofs.Common.{◌≡◌, ◌∙◌, sym, inr, length, refl, rules, Err}
use Rattle.quic_session.proofs.Copied.{count-most, given-few}
use Rattle.quic_session.proofs.session.Session.read_into.Goals as goal

pub put_chunk-read-requires : goal.put_chunk-read-requires
put_chunk-read-requires c =
    let r = c.in_ok-some.ensures.reads.reads in
    let chunks = c.in_ok-some.some.chunks.items in
    given-few r.opened r.read c.args.id (length c.args.out.now) c.args.ordered chunks r.gives (count-most 1 (length chunks) c.in_ok-some.some.last r.count)

pub returns-clause-reads : goal.returns-clause-reads
returns-clause-reads c = record {
  given = sym c.was_given.ensures ∙ c.if-not-was_given.false;
  chunks = c.in_ok-some.some.chunks.items;
  transmit = c.in_ok-some.some.transmit.0;
  reads = rw c.put_chunk-read.ensures.last c.in_ok-some.ensures.reads;
  copies = c.put_chunk-read.ensures.copies;
  from = rw c.put_chunk-read.ensures.last c.in_ok-some.ensures.from;
}

pub returns-in_err-some-clause-reads : goal.returns-in_err-some-clause-reads
returns-in_err-some-clause-reads c =
    let is : c.from_residual.result ≡ Err c.in_err-some.field-0.0 = search rules in
    rw is (
      refl,
      inr (record {
        given = sym c.was_given.ensures ∙ c.if-not-was_given.false;
        refuses = c.in_err-some.ensures.refused;
        from = c.in_err-some.ensures.from_refused;
      }),
    )
