use Rattle.std.proofs.Common.{◌≡◌, ℕ, Bool, List, [], Option, Result, Ok, Err, is_err, refl, sym, ap, ◌∙◌, subst}
use Rattle.quic_values.specs.declared.memory.OutOfMemory.{OutOfMemory}
use Rattle.quic_streams.specs.declared.settling.SentPayload.{SentPayload}
use Rattle.quic_streams.specs.Sent.{sent_view}
use Rattle.quic_endpoint.specs.Ends.{EndState}
use Rattle.quic_session.specs.declared.session.Session.{Session}
use Rattle.quic_session.specs.declared.emitting.Parts.{Parts}
use Rattle.quic_session.specs.declared.emitting.Emitted.{Emitted}
use Rattle.quic_session.specs.Sessions.{end_of}
use Rattle.quic_session.specs.Emitting.{LendsPayload, WritesNothing, KeepsNone}
use Rattle.quic_session.specs.Slots.{ReservesSlot, ChangesSlots, KeepsEmpty}
use Rattle.quic_session.specs.Tokens.{unsettled, KeepsNew}
use Rattle.quic_steps.specs.declared.steps.PayloadPart.{PayloadPart}
use Rattle.quic_pair.specs.declared.emitting.Written.{Written}
use Rattle.quic_pair.specs.Emitting.{parts_for, EmitsOf, KeepsWritten}
use Rattle.quic_pair.proofs.Emits.{Answer, emits-of, nothing-noted, same-answer}
use Rattle.quic_pair.proofs.emitting.emit.Goals as goal

-- the end is as it was before the slot was reserved
module _ (most : ℕ) (fair : Bool) (part : Option PayloadPart) (s u : Session) (slots : ChangesSlots s u) where
  from-before : (bytes : List ℕ) (sent : SentPayload) (r : Answer) (e : EndState) → EmitsOf part most fair (end_of u) (record { bytes = bytes; sent = sent_view sent }) r e → EmitsOf part most fair (end_of s) (record { bytes = bytes; sent = sent_view sent }) r e
  from-before bytes sent r e m = let P : EndState → Type 0 = λ x. EmitsOf part most fair x (record { bytes = bytes; sent = sent_view sent }) r e in subst P slots.end m

  -- a payload is lent
  written-lent : (e : Emitted) (t : Session) (held : List ℕ) (w : Written) → LendsPayload most (parts_for part) fair u e t held → t.conn ≡ u.conn → w.token ≡ e.token → w.bytes.items ≡ held → is_err w.answer ≡ e.cut → KeepsWritten most fair part s w t
  written-lent e t held w l conn token bytes cut = record {
    sent = l.sent;
    emits =
        let B : List ℕ → Type 0 = λ x. EmitsOf part most fair (end_of s) (record { bytes = x; sent = sent_view l.sent }) w.answer (end_of t) in
        let R : Answer → Type 0 = λ x. EmitsOf part most fair (end_of s) (record { bytes = held; sent = sent_view l.sent }) x (end_of t) in
        let H : List ℕ → Type 0 = λ x. EmitsOf part most fair (end_of s) (record { bytes = x; sent = sent_view l.sent }) l.answer (end_of t) in
        let E : EndState → Type 0 = λ x. EmitsOf part most fair (end_of s) (record { bytes = l.written.payload.bytes; sent = sent_view l.sent }) l.answer x in
        let made = from-before l.written.payload.bytes l.sent l.answer l.written.end (emits-of most fair u part l.writes l.sent l.control l.streams) in
        subst B (sym bytes) (subst R (same-answer l.answer w.answer (sym (cut ∙ l.cut))) (subst H (sym l.lent.stands) (subst E (sym l.leaves.0) made)));
    keeps =
        let K : ℕ → Type 0 = λ x. KeepsNew (unsettled s.unsettled) s.unsettled.next l.sent x (unsettled t.unsettled) t.unsettled.next in
        subst K (sym token) (rw (slots.kept.0, slots.kept.1) at l.keeps);
    conn = conn ∙ slots.conn;
  }

  -- nothing was written
  written-empty : (r : Answer) (t v : Session) (w : Written) → WritesNothing most (parts_for part) fair u r t → KeepsNone u t → t.conn ≡ u.conn → KeepsEmpty t w.token v → w.bytes.items ≡ [] → w.answer ≡ r → KeepsWritten most fair part s w v
  written-empty r t v w n kept conn k bytes answer = record {
    sent = k.sent;
    emits =
        let noted = nothing-noted u part n.writes n.none in
        let B : List ℕ → Type 0 = λ x. EmitsOf part most fair (end_of s) (record { bytes = x; sent = sent_view k.sent }) w.answer (end_of v) in
        let R : Answer → Type 0 = λ x. EmitsOf part most fair (end_of s) (record { bytes = []; sent = sent_view k.sent }) x (end_of v) in
        let H : List ℕ → Type 0 = λ x. EmitsOf part most fair (end_of s) (record { bytes = x; sent = sent_view k.sent }) r (end_of v) in
        let E : EndState → Type 0 = λ x. EmitsOf part most fair (end_of s) (record { bytes = n.written.payload.bytes; sent = sent_view k.sent }) r x in
        let made = from-before n.written.payload.bytes k.sent r n.written.end (emits-of most fair u part n.writes k.sent (k.control ∙ sym noted.0) (k.streams ∙ sym noted.1)) in
        subst B (sym bytes) (subst R (sym answer) (subst H n.none (subst E (sym (k.end ∙ n.leaves.0)) made)));
    keeps = rw (kept.0 ∙ slots.kept.0, kept.1 ∙ slots.kept.1) at k.keeps;
    conn = k.conn ∙ conn ∙ slots.conn;
  }

pub without_frames-requires : goal.without_frames-requires
without_frames-requires c = rw (c.in-Ok-None.is, c.in-Ok-None.field-0-is) at (c.emit_buffer.ensures.reserved c.in_ok-reserve_payload.ensures.ok)

pub without_frames-requires-in-Err : goal.without_frames-requires-in-Err
without_frames-requires-in-Err c = (rw c.in-Err.is at (c.emit_buffer.ensures.reserved c.in_ok-reserve_payload.ensures.ok)).0

pub returns-in-Ok-Some : goal.returns-in-Ok-Some
returns-in-Ok-Some c =
    let u = c.reserve_payload.new.self in
    let t = c.emit_buffer.new.self in
    let held = c.emit_buffer.new.buffer.bytes.items in
    let P : Parts → Type 0 = λ p. LendsPayload c.args.max_size p c.args.fair u c.in-Ok-Some.emitted t held in
    let l : LendsPayload c.args.max_size (parts_for c.args.part) c.args.fair u c.in-Ok-Some.emitted t held = subst P c.parts_for.ensures (rw (c.in-Ok-Some.is, c.in-Ok-Some.field-0-is) at c.emit_buffer.ensures.emits) in
    written-lent c.args.max_size c.args.fair c.args.part c.args.end.now u c.in_ok-reserve_payload.ensures.slots c.in-Ok-Some.emitted t held _ l c.emit_buffer.ensures.conn refl refl c.cut_answer.ensures

pub returns-in-Ok-None : goal.returns-in-Ok-None
returns-in-Ok-None c =
    let u = c.reserve_payload.new.self in
    let t = c.emit_buffer.new.self in
    let k = c.without_frames.ensures in
    let e = rw (c.in-Ok-None.is, c.in-Ok-None.field-0-is) at c.emit_buffer.ensures.emits in
    let P : Parts → Type 0 = λ p. WritesNothing c.args.max_size p c.args.fair u (Ok tt) t in
    written-empty c.args.max_size c.args.fair c.args.part c.args.end.now u c.in_ok-reserve_payload.ensures.slots (Ok tt) t c.without_frames.new.end c.without_frames.result (subst P c.parts_for.ensures e.1) e.0 c.emit_buffer.ensures.conn k.keeps k.bytes k.answer

pub returns-in-Err : goal.returns-in-Err
returns-in-Err c =
    let u = c.reserve_payload.new.self in
    let t = c.emit_buffer.new.self in
    let k = c.without_frames-in-Err.ensures in
    let e = rw c.in-Err.is at c.emit_buffer.ensures.emits in
    let r = rw c.in-Err.is at (c.emit_buffer.ensures.reserved c.in_ok-reserve_payload.ensures.ok) in
    let P : Parts → Type 0 = λ p. WritesNothing c.args.max_size p c.args.fair u (Err c.in-Err.error) t in
    written-empty c.args.max_size c.args.fair c.args.part c.args.end.now u c.in_ok-reserve_payload.ensures.slots (Err c.in-Err.error) t c.without_frames-in-Err.new.end c.without_frames-in-Err.result (subst P c.parts_for.ensures r.1) e.0 c.emit_buffer.ensures.conn k.keeps k.bytes k.answer
