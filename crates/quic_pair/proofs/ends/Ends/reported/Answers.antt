use Rattle.std.proofs.Common.{◌≡◌, ◌∙◌, ℕ, zero, suc, Bool, List, [], ◌∷◌, Option, Some, None, false, refl, sym, ap, subst, get_or}
use Rattle.std.specs.Prelude.{is_some, option_copied, slice_get}
use Rattle.std.proofs.lemmas.Option.{none-some, same_Some}
use Rattle.std.proofs.Common.{Bor}
use Rattle.quic_streams.specs.declared.settling.SentPayload.{SentPayload}
use Rattle.quic_steps.specs.declared.steps.PairError.TheVariants.{AlreadySettled}
use Rattle.quic_exchange.specs.declared.sent.Note.{Note}
use Rattle.quic_exchange.specs.Notes.{under, row, IsNoNote, IsNoteThere, CanReport}
use Rattle.quic_exchange.specs.State.{PairState}
use Rattle.quic_exchange.proofs.Deeds.{report-refused}
use Rattle.quic_exchange.proofs.Rows.{no-note}
use Rattle.quic_pair.specs.Ends.{kept_of, ends_view}
use Rattle.quic_pair.specs.Reporting.{report_of}
use Rattle.quic_pair.proofs.Sessions.{note-read}
use Rattle.quic_pair.proofs.ends.Ends.reported.Goals as goal

copied-some : (r : Option (Bor SentPayload)) → is_some r ≡ is_some (option_copied r)
copied-some None = refl
copied-some (Some x) = refl

pub returns-then-is_no_payload-clause-refused : goal.returns-then-is_no_payload-clause-refused
returns-then-is_no_payload-clause-refused c =
    let e = c.args.self.now in
    let none : IsNoNote e.sent.items c.args.payload = rw c.deref.ensures.value at (c.is_no_payload.ensures.yes c.if-is_no_payload.true) in
    (no-note (kept_of e.a e.b) e.sent.items c.args.payload none, refl)

pub returns-in_default-clause-refused : goal.returns-in_default-clause-refused
returns-in_default-clause-refused c =
    let e = c.args.self.now in
    let t : IsNoteThere e.sent.items c.args.payload = rw c.deref.ensures.value at (c.is_no_payload.ensures.no c.if-is_no_payload.false) in
    let same : c.index-note.result.now ≡ t.note = c.index-note.ensures ∙ note-read e.sent.items c.args.payload t.note c.index-note.result.now t.is in
    let none : t.note.token ≡ None = sym (ap (λ (n : Note). n.token) same) ∙ c.in_default.is in
    let view : PairState = ends_view e in
    report-refused (kept_of e.a e.b) e.sent.items view refl c.args.kind (report_of c.args.kind) c.args.payload t.note t.is t.here view false (sym (ap (λ (o : Option ℕ). is_some (under (kept_of e.a e.b t.note.writer) o)) none)) AlreadySettled refl refl

pub returns-in-Ok-clause-taken : goal.returns-in-Ok-clause-taken
returns-in-Ok-clause-taken c =
    let e = c.args.self.now in
    let note : Note = c.index-note.result.now in
    let t : IsNoteThere e.sent.items c.args.payload = rw c.deref.ensures.value at (c.is_no_payload.ensures.no c.if-is_no_payload.false) in
    let same : note ≡ t.note = c.index-note.ensures ∙ note-read e.sent.items c.args.payload t.note note t.is in
    let P : Bool → Type 0 = λ b. CanReport c.args.kind note b in
    let unsettled : c.is_some.result ≡ is_some (under (kept_of e.a e.b note.writer) note.token) = c.is_some.ensures ∙ copied-some c.rest_of.result ∙ ap is_some c.rest_of.ensures in
    record {
      note = note;
      is = t.is ∙ ap Some (sym same);
      here = ap (λ (n : Note). n.gone) same ∙ t.here;
      writer_is = refl;
      token_is = c.in-Some.is;
      can = subst P unsettled c.in-Ok.ensures.ok;
    }

pub returns-in-Err-clause-refused : goal.returns-in-Err-clause-refused
returns-in-Err-clause-refused c =
    let e = c.args.self.now in
    let note : Note = c.index-note.result.now in
    let t : IsNoteThere e.sent.items c.args.payload = rw c.deref.ensures.value at (c.is_no_payload.ensures.no c.if-is_no_payload.false) in
    let same : note ≡ t.note = c.index-note.ensures ∙ note-read e.sent.items c.args.payload t.note note t.is in
    let view : PairState = ends_view e in
    let unsettled : c.is_some.result ≡ is_some (under (kept_of e.a e.b note.writer) note.token) = c.is_some.ensures ∙ copied-some c.rest_of.result ∙ ap is_some c.rest_of.ensures in
    report-refused (kept_of e.a e.b) e.sent.items view refl c.args.kind (report_of c.args.kind) c.args.payload note (t.is ∙ ap Some (sym same)) (ap (λ (n : Note). n.gone) same ∙ t.here) view c.is_some.result unsettled c.in-Err.error c.in-Err.ensures.refused refl
