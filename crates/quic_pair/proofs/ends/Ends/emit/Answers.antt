use Rattle.std.proofs.Common.{◌≡◌, ℕ, ◌<◌, ◌+◌, ◌^◌, List, [], ◌∷◌, ◌++◌, length, Option, Some, None, refl, sym, ap, ◌∙◌, subst, arith}
use Rattle.std.specs.Option.{option_map}
use Rattle.std.proofs.lemmas.List.{length_push}
use Rattle.quic_streams.specs.declared.settling.SentPayload.{SentPayload}
use Rattle.quic_streams.specs.Sent.{sent_view}
use Rattle.quic_endpoint.specs.Ends.{EndState}
use Rattle.quic_endpoint.specs.Emitting.{PayloadView}
use Rattle.quic_session.specs.declared.session.Session.{Session}
use Rattle.quic_session.specs.Sessions.{end_of}
use Rattle.quic_session.specs.Slots.{ChangesSlots}
use Rattle.quic_exchange.specs.declared.sent.Note.{Note}
use Rattle.quic_exchange.specs.Notes.{under, row, rows}
use Rattle.quic_exchange.specs.Sent.{Sent}
use Rattle.quic_exchange.specs.State.{PairState}
use Rattle.quic_exchange.specs.Steps.{IsSentBy}
use Rattle.quic_exchange.proofs.Rows.{rows-length}
use Rattle.quic_pair.specs.Emitting.{EmitsOf}
use Rattle.quic_pair.specs.Ends.{kept_of, view_of, OnSession}
use Rattle.quic_pair.proofs.Emits.{Sends, sent-on, emits-next, emits-none}
use Rattle.quic_pair.proofs.Sessions.{on-map, on-ends, view-same, LooksSame, GivesNone, Puts, Gives, kept-there, sound-same, sound-push, rows-behind}
use Rattle.quic_pair.proofs.ends.Ends.emit.Goals as goal

pub returns-then-is_err : goal.returns-then-is_err
returns-then-is_err c =
    let old = c.args.self.now in
    record {
      next = emits-none c.args.part (view_of old.a old.b old.sent.items old.waits) (view_of old.a old.b c.reserve.new.self.items old.waits) c.args.who c.args.max_size c.args.fair (ap (λ l. view_of old.a old.b l old.waits) c.reserve.ensures.items);
      sound = rw c.reserve.ensures.items c.requires;
    }

pub returns-in-Err : goal.returns-in-Err
returns-in-Err c =
    let old = c.args.self.now in
    let s = c.emit_on.new.a in
    let t = c.emit_on.new.b in
    let o : OnSession ChangesSlots c.args.who old.a old.b s t = c.in-Err.ensures in
    record {
      next = emits-none c.args.part (view_of old.a old.b old.sent.items old.waits) (view_of s t c.reserve.new.self.items old.waits) c.args.who c.args.max_size c.args.fair (ap (λ l. view_of s t l old.waits) c.reserve.ensures.items ∙ view-same c.args.who old.a old.b s t old.sent.items old.waits (on-map ChangesSlots LooksSame c.args.who old.a old.b s t (λ x y h. (h.end, h.kept.0)) o));
      sound = rw c.reserve.ensures.items (sound-same old.a old.b s t c.args.who old.sent.items old.waits c.requires (on-map ChangesSlots GivesNone c.args.who old.a old.b s t (λ x y h. (h.conn, h.kept.1)) o));
    }

pub returns : goal.returns
returns c =
    let old = c.args.self.now in
    let who = c.args.who in
    let s = c.emit_on.new.a in
    let t = c.emit_on.new.b in
    let w = c.in-Ok.written in
    let notes : List Note = old.sent.items in
    let note : Note = c.new-note.result in
    let on = sent-on c.args.max_size c.args.fair c.args.part w who old.a old.b s t c.in-Ok.ensures in
    let sent : SentPayload = on.0 in
    let o : OnSession (Sends c.args.max_size c.args.fair c.args.part w sent) who old.a old.b s t = on.1 in
    let P = Sends c.args.max_size c.args.fair c.args.part w sent in
    let gives : OnSession (Gives w.token) who old.a old.b s t = on-map P (Gives w.token) who old.a old.b s t (λ x y h. h.gives) o in
    let puts : OnSession (Puts w.token (Some sent)) who old.a old.b s t = on-map P (Puts w.token (Some sent)) who old.a old.b s t (λ x y h. h.puts) o in
    let items : c.push.new.self.items ≡ notes ++ note ∷ [] = c.in-Ok-push.ensures.items ∙ ap (λ l. l ++ note ∷ []) c.reserve.ensures.items in
    let size : length (notes ++ note ∷ []) ≡ length notes + 1 = length_push notes note in
    let all : length c.push.new.self.items ≡ length (notes ++ note ∷ []) = ap length items in
    let room : length notes + 1 < 2 ^ 63 = omega (arith, size, all, c.push.new.self.ok.0, c.push.new.self.ok.1, c.push.new.self.small) in
    let writer : note.writer ≡ who = ap (λ (n : Note). n.writer) c.new-note.ensures in
    let has : note.token ≡ Some w.token = ap (λ (n : Note). n.token) c.new-note.ensures in
    let payload : PayloadView = record { bytes = w.bytes.items; sent = sent_view sent } in
    let rest : under (kept_of s t note.writer) note.token ≡ Some sent = ap (λ x. under (kept_of s t x) note.token) writer ∙ ap (under (kept_of s t who)) has ∙ kept-there who old.a old.b s t w.token (Some sent) puts in
    let sent_is : IsSentBy who payload (row (kept_of s t) note) = record {
      writer = writer;
      text = ap (λ (n : Note). n.text) c.new-note.ensures;
      begun = ap (λ (n : Note). n.begun) c.new-note.ensures;
      rest = ap (option_map sent_view) rest;
      here = ap (λ (n : Note). n.gone) c.new-note.ensures;
    } in
    let before : PairState = view_of old.a old.b notes old.waits in
    let behind : PairState = view_of s t (notes ++ note ∷ []) old.waits in
    let rows_are = rows-behind old.a old.b s t who notes old.waits note w.token c.requires gives room writer has sent puts in
    let count : c.len-number.result ≡ length before.sent = c.len-number.ensures ∙ c.reserve.new.self.ok.0 ∙ ap length c.reserve.ensures.items ∙ sym (rows-length (kept_of old.a old.b) notes) in
    let E : EndState → EndState → Type 0 = λ e f. EmitsOf c.args.part c.args.max_size c.args.fair e payload w.answer f in
    let ends = on-ends E who old.a old.b s t (on-map P (λ x y. E (end_of x) (end_of y)) who old.a old.b s t (λ x y h. h.emits) o) in
    rw (items, c.payload_reply.ensures) (record {
      next = emits-next c.args.part before behind who c.args.max_size c.args.fair payload c.len-number.result (row (kept_of s t) note) sent_is rows_are refl count w.answer c.from_slice-copy.result ends (λ v e. (rw e at c.from_slice-copy.ensures.items) ∙ c.as_slice.ensures.value);
      sound = sound-push old.a old.b s t who notes old.waits note w.token c.requires gives room writer has;
    })
