use Rattle.std.proofs.Common.{◌≡◌, ◌∙◌, sym, ap, List, ◌∷◌, ℕ, true, false, Ok, Err, inl, inr, Result, length, rules, subst, arith}
use Rattle.std.specs.Prelude.{OnOk, is_err}
use Rattle.std.proofs.lemmas.Bool.{false≢true}
use Rattle.std.proofs.lemmas.List.{length-map}
use Rattle.quic_assembler.specs.declared.chunk.Chunk.{Chunk}
use Rattle.quic_endpoint.specs.Shown.{endpoint_view}
use Rattle.quic_history.specs.World.{Made}
use Rattle.quic_history.specs.History.{Event, Began, From, with_reads}
use Rattle.quic_endpoint.specs.Ends.{EndState, ReadsAt, RefusesRead}
use Rattle.quic_session.specs.Sessions.{end_of}
use Rattle.quic_session.specs.Reading.{AreConsecutive}
use Rattle.quic_session.specs.Lending.{lent_bytes, lends_for, whole_chunk}
use Rattle.quic_session.proofs.Copied.{count-most, given-order}
use Rattle.quic_session.proofs.session.Session.read_lent.Goals as goal

abbrev bytes_of : Chunk → List ℕ
bytes_of c = c.bytes

-- what a call says of its success holds where it was no error
where-ok : {A E P : Type 0} (r : Result A E) → is_err r ≡ false → OnOk r P → P
where-ok (Ok _) no-error p = p
where-ok (Err _) no-error p = absurd (false≢true (sym no-error))

pub lend_all-requires-clause-none : goal.lend_all-requires-clause-none
lend_all-requires-clause-none c = c.reserve.ensures.items ∙ c.take_back.ensures.none

pub lend_all-requires-clause-room : goal.lend_all-requires-clause-room
lend_all-requires-clause-room c =
    let some = c.in_ok-some.some in
    let few = count-most c.lends_for-times.result (length some.chunks.items) some.last c.in_ok-some.ensures.reads.reads.count in
    let none = ap length (c.reserve.ensures.items ∙ c.take_back.ensures.none) in
    let room = where-ok c.reserve.result (sym c.is_err.ensures.value ∙ c.if-is_err.false) c.reserve.ensures.ok in
    omega (arith, few, none, c.reserve.new.self.ok.0, room, some.chunks.ok.0)

pub returns-clause-reads : goal.returns-clause-reads
returns-clause-reads c =
    let some = c.in_ok-some.some in
    let before : EndState = end_of c.args.self.now in
    let after : EndState = endpoint_view c.read_reusing.new.self in
    let Reads : ℕ → EndState → Type 0 = λ times. λ e. ReadsAt e c.args.id whole_chunk times true some.chunks.items some.last some.transmit.0 after in
    let Goes : EndState → Type 0 = λ e. (m : Made) (h : List Event) → From m h e.streams → From m (with_reads c.args.id whole_chunk true some.chunks.items some.last h) after.streams in
    let At : ℕ → Type 0 = λ at. AreConsecutive at some.chunks.items in
    let times = c.lends_for-times.ensures in
    let r : ReadsAt before c.args.id whole_chunk (lends_for c.args.most) true some.chunks.items some.last some.transmit.0 after
    = subst (Reads (lends_for c.args.most)) c.take_back.ensures.end (subst (λ n. Reads n (end_of c.take_back.new.self)) times c.in_ok-some.ensures.reads) in
    let few = count-most (lends_for c.args.most) (length some.chunks.items) some.last r.reads.count in
    let lent = c.lend_all.ensures in
    let count : length c.lend_all.new.lent.items ≡ length some.chunks.items = sym (length-map c.lend_all.new.lent.items lent_bytes) ∙ ap length lent ∙ length-map some.chunks.items bytes_of in
    record {
      given = sym c.was_given.ensures ∙ c.if-not-was_given.false;
      chunks = some.chunks.items;
      transmit = some.transmit.0;
      reads = r;
      in_order = subst At (sym (rw c.deref.ensures.value at c.offset_of_first-offset.ensures)) (given-order r.reads.opened r.reads.read c.args.id _ some.chunks.items r.reads.gives);
      few = few;
      count = omega (arith, c.len.ensures, c.lend_all.new.lent.ok.0, count);
      lent = lent;
      from = subst Goes c.take_back.ensures.end c.in_ok-some.ensures.from;
    }

pub returns-in_err-some-clause-reads : goal.returns-in_err-some-clause-reads
returns-in_err-some-clause-reads c =
    let error = c.in_err-some.field-0.0 in
    let is : c.from_residual.result ≡ Err error = search rules in
    let after : EndState = endpoint_view c.read_reusing.new.self in
    let Refuses : EndState → Type 0 = λ e. RefusesRead e c.args.id true error after in
    let Goes : EndState → Type 0 = λ e. (m : Made) (h : List Event) → From m h e.streams → From m (Began c.args.id true (Err error) ∷ h) after.streams in
    rw is (inr (inl (record {
      given = sym c.was_given.ensures ∙ c.if-not-was_given.false;
      refuses = subst Refuses c.take_back.ensures.end c.in_err-some.ensures.refused;
      from = subst Goes c.take_back.ensures.end c.in_err-some.ensures.from_refused;
    })))
