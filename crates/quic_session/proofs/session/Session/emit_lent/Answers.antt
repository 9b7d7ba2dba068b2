use Rattle.std.proofs.Common.{◌≡◌, ◌<◌, refl, sym, ap, ◌∙◌, subst, [], length, arith, Ok}
use Rattle.std.proofs.lemmas.Bool.{eqb-true, eqb-false}
use Rattle.std.proofs.lemmas.List.{nil_from_length}
use Rattle.quic_session.specs.Counts.{counts_of}
use Rattle.quic_session.specs.Sessions.{end_of, datagrams_view}
use Rattle.quic_session.specs.Tokens.{unsettled}
use Rattle.quic_session.specs.declared.unsettled.Unsettled.{Unsettled}
use Rattle.quic_session.specs.Emitting.{DraftView, WritesParts, writing_of}
use Rattle.quic_session.proofs.Emitted.{parts-within, parts-on, no-frames, frames-left}
use Rattle.quic_session.proofs.session.Session.emit_lent.Goals as goal

pub returns-in_err-reserve-clause-from : goal.returns-in_err-reserve-clause-from
returns-in_err-reserve-clause-from c = no-frames _ _ _

pub returns-in_err-answer-clause-from : goal.returns-in_err-answer-clause-from
returns-in_err-answer-clause-from c = parts-on c.write_parts-answer.ensures.writes

pub returns-then-is_empty-clause-from : goal.returns-then-is_empty-clause-from
returns-then-is_empty-clause-from c = parts-on c.write_parts-answer.ensures.writes

pub returns-clause-from : goal.returns-clause-from
returns-clause-from c = frames-left (ap (λ x. x.streams) c.lend.ensures.end) (parts-on c.write_parts-answer.ensures.writes)

pub returns-then-is_empty-clause-emits : goal.returns-then-is_empty-clause-emits
returns-then-is_empty-clause-emits c =
    let w = c.write_parts-answer in
    let P : DraftView → Type 0 = λ p. WritesParts c.args.max_size c.args.parts c.args.fair (record { end = end_of c.args.self.now; datagrams = datagrams_view c.args.self.now; sent = (counts_of c.args.self.now).sent; payload = p }) (Ok tt) (writing_of w.new.self w.new.draft) in
    let empty = eqb-true _ 0 (sym c.is_empty.ensures ∙ c.if-is_empty.true) in
    let nothing : w.new.draft.bytes.items ≡ [] = nil_from_length w.new.draft.bytes.items (sym w.new.draft.bytes.ok.0 ∙ empty) in (
      (ap unsettled w.ensures.payloads ∙ c.reserve.ensures.same, ap (λ (u : Unsettled). u.next) w.ensures.payloads ∙ c.reserve.ensures.next),
      record { written = writing_of w.new.self w.new.draft; writes = subst P c.blank_payload-draft.ensures c.in_ok-answer.ensures.writes; none = nothing; leaves = (refl, refl, w.ensures.counts) },
    )

pub returns-clause-emits : goal.returns-clause-emits
returns-clause-emits c =
    let w = c.write_parts-answer in
    let P : DraftView → Type 0 = λ p. WritesParts c.args.max_size c.args.parts c.args.fair (record { end = end_of c.args.self.now; datagrams = datagrams_view c.args.self.now; sent = (counts_of c.args.self.now).sent; payload = p }) w.result (writing_of w.new.self w.new.draft) in
    let writes = subst P c.blank_payload-draft.ensures w.ensures.writes in
    let held = eqb-false _ 0 (sym c.is_empty.ensures ∙ c.if-is_empty.false) in
    let some : 0 < length w.new.draft.bytes.items = omega (arith, held, w.new.draft.bytes.ok.0) in
    let kept : unsettled w.new.self.unsettled ≡ unsettled c.args.self.now.unsettled = ap unsettled w.ensures.payloads ∙ c.reserve.ensures.same in
    let next : w.new.self.unsettled.next ≡ c.args.self.now.unsettled.next = ap (λ (u : Unsettled). u.next) w.ensures.payloads ∙ c.reserve.ensures.next in
    record {
      answer = w.result;
      written = writing_of w.new.self w.new.draft;
      writes = writes;
      some = some;
      within = λ m h f. parts-within writes m h f (omega arith);
      lent = c.lend.ensures.lent;
      sent = w.new.draft.sent;
      keeps = rw (kept, next) at c.lend.ensures.keeps;
      cut = c.lend.ensures.cut ∙ c.is_err.ensures.value;
      control = refl;
      streams = refl;
      leaves = (c.lend.ensures.end, c.lend.ensures.datagrams, c.lend.ensures.counts ∙ w.ensures.counts);
    }
