use Rattle.std.proofs.Common.{◌≡◌, ◌∙◌, Option, Some, None, Result, Ok, Err, true, refl, sym, ap, subst}
use Rattle.std.specs.Prelude.{◌&&◌, is_some, slice_set}
use Rattle.std.proofs.lemmas.Option.{none-some}
use Rattle.quic_streams.specs.declared.settling.SentPayload.{SentPayload}
use Rattle.quic_streams.specs.Sent.{sent_view, report_view}
use Rattle.quic_endpoint.specs.Ends.{EndState}
use Rattle.quic_session.specs.declared.session.Session.{Session}
use Rattle.quic_session.specs.declared.settling.SettleError.TheVariants as settle_error
use Rattle.quic_session.specs.Sessions.{end_of}
use Rattle.quic_steps.specs.declared.steps.End.{End}
use Rattle.quic_exchange.specs.declared.sent.Note.{Note}
use Rattle.quic_exchange.specs.declared.unsettled.Report.{Report}
use Rattle.quic_exchange.specs.Notes.{under, row, rows}
use Rattle.quic_exchange.specs.Sent.{Sent}
use Rattle.quic_exchange.specs.State.{PairState, the_end}
use Rattle.quic_exchange.specs.Unsettled.{goes_on, unsettled_after}
use Rattle.quic_exchange.proofs.Deeds.{report-so}
use Rattle.quic_pair.specs.Ends.{kept_of, view_of, session_of, OnSession}
use Rattle.quic_pair.specs.Reporting.{report_of, ReportsToken, TakesReport}
use Rattle.quic_pair.proofs.Sessions.{on-map, GivesNone, sound-same, sound-on, set-tokens}
use Rattle.quic_pair.proofs.Reporting.{Reported, all-on, back-on, some-on, unknown-on, rest-on, same-notes, rows-reported, left-there, view-reported, end-of-session, may-rest}
use Rattle.quic_pair.proofs.ends.Ends.report.Goals as goal

pub returns-in-Err : goal.returns-in-Err
returns-in-Err c = record { next = c.in-Err.ensures.refused; sound = c.requires }

pub returns-in-Ok-report_on : goal.returns-in-Ok-report_on
returns-in-Ok-report_on c =
    let old = c.args.self.now in
    let s = c.report_on.new.a in
    let t = c.report_on.new.b in
    let kind = c.args.kind in
    let n = c.args.payload in
    let notes = old.sent.items in
    let writer = c.in-Ok.taken.0 in
    let token = c.in-Ok.taken.1 in
    let x : TakesReport old.a old.b notes n kind writer token = c.in-Ok.ensures.taken in
    let note = x.note in
    let o : OnSession (Reported kind token (Ok tt)) writer old.a old.b s t = all-on kind token writer old.a old.b s t c.in-Ok-report_on.ensures in
    let rest = rest-on kind token (Ok tt) writer old.a old.b s t o in
    let before : PairState = view_of old.a old.b notes old.waits in
    let rest_is : under (kept_of old.a old.b note.writer) note.token ≡ Some rest.0 = ap (λ (w : End). under (kept_of old.a old.b w) note.token) x.writer_is ∙ ap (under (kept_of old.a old.b writer)) x.token_is ∙ rest.1 in
    let left = left-there kind token (Ok tt) writer old.a old.b s t o note x.writer_is x.token_is in
    let rows_are : rows (kept_of s t) notes ≡ slice_set (rows (kept_of old.a old.b) notes) n (record (row (kept_of old.a old.b) note) { unsettled = unsettled_after kind (row (kept_of old.a old.b) note).unsettled (Ok tt) }) =
    ap (rows (kept_of s t)) (same-notes notes n note x.is) ∙ rows-reported kind token (Ok tt) writer old.a old.b s t o notes n note note c.requires.apart x.is x.writer_is x.token_is
    ∙ ap (λ (r : Option SentPayload). slice_set (rows (kept_of old.a old.b) notes) n (record { writer = note.writer; unsettled = record { begun = note.begun; rest = r }; text = note.text; gone = note.gone })) left in
    let D : EndState → Type 0 = λ e. report_of kind e (sent_view rest.0) (report_view (Ok tt)) (end_of (session_of s t writer)) in
    record {
      next = report-so (kept_of old.a old.b) notes before refl kind (report_of kind) n note x.is x.here (view_of s t notes old.waits) rest.0 rest_is (is_some (under (kept_of old.a old.b note.writer) note.token)) refl x.can (Ok tt) (end_of (session_of s t writer))
          (subst D (sym (end-of-session old.a old.b notes old.waits note.writer writer x.writer_is)) rest.2)
          (view-reported kind token (Ok tt) writer old.a old.b s t o note.writer notes notes _ old.waits x.writer_is rows_are);
      sound = sound-same old.a old.b s t writer notes old.waits c.requires (on-map (Reported kind token (Ok tt)) GivesNone writer old.a old.b s t (λ p q k. (k.only.0, k.only.2)) o);
    }

-- the token is that of a payload
pub returns-in-Err-UnknownToken : goal.returns-in-Err-UnknownToken
returns-in-Err-UnknownToken c =
    let old = c.args.self.now in
    let x : TakesReport old.a old.b old.sent.items c.args.payload c.args.kind c.in-Ok.taken.0 c.in-Ok.taken.1 = c.in-Ok.ensures.taken in
    let none = unknown-on c.args.kind c.in-Ok.taken.1 c.in-Ok.taken.0 old.a old.b c.report_on.new.a c.report_on.new.b (rw c.in-Err-UnknownToken.field-0-is at c.in-Err-UnknownToken.ensures) in
    let rest = may-rest old.a old.b x.note c.in-Ok.taken.0 c.in-Ok.taken.1 x.writer_is x.token_is c.args.kind x.can in
    absurd (none-some rest.0 (sym none ∙ rest.1))

pub returns-in-Err-OutOfMemory : goal.returns-in-Err-OutOfMemory
returns-in-Err-OutOfMemory c =
    let old = c.args.self.now in
    let s = c.report_on.new.a in
    let t = c.report_on.new.b in
    let kind = c.args.kind in
    let n = c.args.payload in
    let notes = old.sent.items in
    let writer = c.in-Ok.taken.0 in
    let token = c.in-Ok.taken.1 in
    let x : TakesReport old.a old.b notes n kind writer token = c.in-Ok.ensures.taken in
    let note = x.note in
    let e : OnSession (λ x y. ReportsToken kind x token (Err settle_error.OutOfMemory) y) writer old.a old.b s t = rw c.in-Err-OutOfMemory.field-0-is at c.in-Err-OutOfMemory.ensures in
    let back : SentPayload = back-on kind token writer old.a old.b s t e in
    let o : OnSession (Reported kind token (Err back)) writer old.a old.b s t = some-on kind token writer old.a old.b s t e in
    let rest = rest-on kind token (Err back) writer old.a old.b s t o in
    let before : PairState = view_of old.a old.b notes old.waits in
    let begun : Note = record note { begun = Some kind } in
    let behind = c.begin.new.sent.items in
    let behind_is : behind ≡ slice_set notes n begun = c.begin.ensures note x.is in
    let rest_is : under (kept_of old.a old.b note.writer) note.token ≡ Some rest.0 = ap (λ (w : End). under (kept_of old.a old.b w) note.token) x.writer_is ∙ ap (under (kept_of old.a old.b writer)) x.token_is ∙ rest.1 in
    let left = left-there kind token (Err back) writer old.a old.b s t o begun x.writer_is x.token_is in
    let rows_are : rows (kept_of s t) behind ≡ slice_set (rows (kept_of old.a old.b) notes) n (record (row (kept_of old.a old.b) note) { unsettled = unsettled_after kind (row (kept_of old.a old.b) note).unsettled (Err back) }) =
    ap (rows (kept_of s t)) behind_is ∙ rows-reported kind token (Err back) writer old.a old.b s t o notes n note begun c.requires.apart x.is x.writer_is x.token_is
    ∙ ap (λ (r : Option SentPayload). slice_set (rows (kept_of old.a old.b) notes) n (record { writer = note.writer; unsettled = record { begun = Some kind; rest = r }; text = note.text; gone = note.gone })) left in
    let D : EndState → Type 0 = λ e. report_of kind e (sent_view rest.0) (report_view (Err back)) (end_of (session_of s t writer)) in
    let tokens = set-tokens notes behind n note begun x.is refl refl behind_is in
    record {
      next = report-so (kept_of old.a old.b) notes before refl kind (report_of kind) n note x.is x.here (view_of s t behind old.waits) rest.0 rest_is (is_some (under (kept_of old.a old.b note.writer) note.token)) refl x.can (Err back) (end_of (session_of s t writer))
          (subst D (sym (end-of-session old.a old.b notes old.waits note.writer writer x.writer_is)) rest.2)
          (view-reported kind token (Err back) writer old.a old.b s t o note.writer notes behind _ old.waits x.writer_is rows_are);
      sound = sound-on old.a old.b s t writer notes behind old.waits old.waits c.requires (on-map (Reported kind token (Err back)) GivesNone writer old.a old.b s t (λ p q k. (k.only.0, k.only.2)) o) tokens.0 tokens.1 (λ k e. e);
    }
