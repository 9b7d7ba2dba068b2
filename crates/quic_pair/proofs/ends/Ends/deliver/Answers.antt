use Rattle.std.proofs.Common.{◌≡◌, Some, None, Ok, Err, refl, sym, ap, ◌∙◌, subst}
use Rattle.quic_endpoint.specs.Ends.{EndState}
use Rattle.quic_session.specs.declared.session.Session.{Session}
use Rattle.quic_session.specs.declared.unsettled.Unsettled.{Unsettled}
use Rattle.quic_session.specs.Receiving.{ReceivesFrame, ReceivesOnly, IsNoDatagram, direction_refusal}
use Rattle.quic_session.specs.Sessions.{end_of}
use Rattle.quic_steps.specs.declared.steps.End.{End}
use Rattle.quic_steps.specs.declared.steps.End.TheVariants.{A, B}
use Rattle.quic_exchange.specs.Notes.{FindsFrameOf, MarksNoteIf, row}
use Rattle.quic_exchange.specs.State.{PairState, OnEnd, peer, the_end}
use Rattle.quic_exchange.specs.Steps.{EndTakesFrame}
use Rattle.quic_exchange.proofs.Deeds.{deliver-refused, deliver-so}
use Rattle.quic_exchange.proofs.Rows.{row-at}
use Rattle.quic_pair.specs.Ends.{kept_of, view_of, session_of, OnSession}
use Rattle.quic_pair.proofs.Sessions.{on-map, on-session, DoesOnly, GivesNone, sound-on, marks-tokens, rows-kept}
use Rattle.quic_pair.proofs.Handing.{takes-only, takes-on}
use Rattle.quic_pair.proofs.ends.Ends.deliver.Goals as goal

pub returns-in-Err : goal.returns-in-Err
returns-in-Err c =
    let old = c.args.self.now in
    let before : PairState = view_of old.a old.b old.sent.items old.waits in
    let same = c.frame_at.ensures.same in
    record {
      next = deliver-refused (kept_of old.a old.b) old.sent.items before refl (view_of old.a old.b c.frame_at.new.sent.items old.waits) c.args.payload c.args.index c.in-Err.error c.in-Err.ensures.fails (ap (λ l. view_of old.a old.b l old.waits) same);
      sound = rw same c.requires.sound;
    }

pub returns : goal.returns
returns c =
    let old = c.args.self.now in
    let s = c.receive_on-answer.new.a in
    let t = c.receive_on-answer.new.b in
    let notes = old.sent.items in
    let behind = c.mark_if.new.sent.items in
    let h = c.in-Ok.found in
    let answer = c.receive_on-answer.result in
    let same = c.frame_at.ensures.same in
    let f : FindsFrameOf notes c.args.payload c.args.index h = c.in-Ok.ensures.found in
    let before : PairState = view_of old.a old.b notes old.waits in
    let mid : PairState = view_of s t notes old.waits in
    let new : PairState = view_of s t behind old.waits in
    let honest = c.requires.honest c.args.payload (row (kept_of old.a old.b) f.whole) (row-at (kept_of old.a old.b) notes c.args.payload f.whole f.is) c.args.index h.frame f.at in
    let P : Session → Session → Type 0 = λ x y. ReceivesFrame x h.frame h.len answer y × ReceivesOnly x y in
    let o : OnSession P (peer h.writer) old.a old.b s t = c.receive_on-answer.ensures in
    let d : OnEnd (EndTakesFrame h.frame h.len answer) before (peer h.writer) mid =
    on-session (EndTakesFrame h.frame h.len answer) (peer h.writer) old.a old.b s t notes old.waits (takes-on h.frame h.len answer (peer h.writer) old.a old.b s t notes old.waits (let D : End → Type 0 = λ w. direction_refusal (the_end before (peer w)).streams h.frame ≡ None in subst D (sym f.writer) honest.0) honest.1 o) in
    let m : MarksNoteIf answer notes c.args.payload c.args.index behind = rw same at c.mark_if.ensures in
    let gives = on-map P GivesNone (peer h.writer) old.a old.b s t (λ x y k. (k.1.0, ap (λ (u : Unsettled). u.next) k.1.1)) o in
    let tokens = marks-tokens answer notes c.args.payload c.args.index behind m in
    rw c.received_reply.ensures (record {
      next = deliver-so (kept_of s t) notes before (sym (rows-kept (peer h.writer) old.a old.b s t notes (on-map P (λ x y. y.unsettled ≡ x.unsettled) (peer h.writer) old.a old.b s t (λ x y k. k.1.1) o))) behind mid new refl c.args.payload c.args.index h f answer d m refl;
      sound = sound-on old.a old.b s t (peer h.writer) notes behind old.waits old.waits c.requires.sound gives tokens.0 tokens.1 (λ k e. e);
    })
