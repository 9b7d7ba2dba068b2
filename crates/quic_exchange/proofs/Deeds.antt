-- Steps on payloads, put together from what their parts do.
use Rattle.std.proofs.Common.{◌≡◌, ℕ, Bool, false, List, [], ◌∷◌, ◌++◌, length, Some, None, Result, Ok, Err, refl, sym, ap, ◌∙◌, subst, inl, inr}
use Rattle.std.specs.Prelude.{◌^◌, ◌<◌, ◌≤◌, ◌&&◌, is_some, slice_get, slice_set}
use Rattle.std.proofs.lemmas.Option.{none-some, same_Some}
use Rattle.quic_values.specs.declared.ids.Side.TheVariants.{Client, Server}
use Rattle.quic_outgoing.specs.declared.limits.PeerLimits.{PeerLimits}
use Rattle.quic_link.specs.Endpoints.{limits_of}
use Rattle.quic_steps.specs.declared.steps.Config.{Config}
use Rattle.quic_exchange.specs.From.{PairFrom, AreSoundLimits, made_of, end_begun, at_once, begun}
use Rattle.std.specs.Global.{Vec}
use Rattle.quic_values.specs.declared.memory.OutOfMemory.{OutOfMemory}
use Rattle.quic_wire.proofs.Steps.{some_is}
use Rattle.quic_wire.specs.declared.error.ReceiveError.{ReceiveError}
use Rattle.quic_wire.specs.declared.error.ReceiveError.TheVariants as receive_error
use Rattle.quic_receiving.specs.declared.transmit.ShouldTransmit.{ShouldTransmit}
use Rattle.quic_streams.specs.declared.settling.SentPayload.{SentPayload}
use Rattle.quic_streams.specs.Settling.{SentView}
use Rattle.quic_streams.specs.Sent.{sent_view, report_view}
use Rattle.quic_endpoint.specs.Ends.{EndState}
use Rattle.quic_endpoint.specs.Emitting.{PayloadView, EmitsAt}
use Rattle.quic_endpoint.specs.Receiving.{AccountsFrame}
use Rattle.quic_steps.specs.declared.steps.End.{End}
use Rattle.quic_steps.specs.declared.steps.End.TheVariants.{A, B}
use Rattle.quic_steps.specs.declared.steps.PairError.{PairError}
use Rattle.quic_steps.specs.declared.steps.PairError.TheVariants as refusals
use Rattle.quic_exchange.specs.Sent.{Sent}
use Rattle.quic_exchange.specs.declared.unsettled.Report.{Report}
use Rattle.quic_exchange.specs.declared.places.HandedFrame.{HandedFrame}
use Rattle.quic_exchange.specs.Replies.{received_reply, report_reply, payload_reply}
use Rattle.quic_exchange.specs.Payloads.{IsMarked}
use Rattle.quic_exchange.specs.declared.sent.Note.{Note}
use Rattle.quic_exchange.specs.Gone.{IsNoPayload}
use Rattle.quic_exchange.specs.Notes.{Kept, row, rows, IsNoNote, FindsFrameOf, FailsToFindIn, MarksNote, MarksNoteIf, CanReport, RefusesNote}
use Rattle.quic_exchange.specs.Unsettled.{goes_on, unsettled_after}
use Rattle.quic_exchange.specs.State.{PairState, OnEnd, peer, the_end, with_end, with_sent, two_ends}
use Rattle.quic_exchange.specs.Steps.{IsSentBy, Emits, Emitted, EmitsBy, EmittedBy, EndTakesFrame, HasPayload, Delivers, HandsOver, SentAfter, Reports, SettlesPayload}
use Rattle.quic_exchange.proofs.Rows.{row-at, rows-set, no-note}

pub sent-same : (p : PairState) (who : End) (e : EndState) → (with_end p who e).sent ≡ p.sent
sent-same p A e = refl
sent-same p B e = refl

-- ---- a payload is written

module _ (old new : PairState) (who : End) (most : ℕ) (fair : Bool) (payload : PayloadView) (number : ℕ) (sent : Sent) (sent_is : IsSentBy who payload sent) (is : new.sent ≡ old.sent ++ sent ∷ []) (waits : new.waits ≡ old.waits) (count : number ≡ length old.sent) where
  sent_behind : (k : End) (e : EndState) → two_ends new.a new.b ≡ with_end (two_ends old.a old.b) k e → new ≡ with_sent (with_end old k e) (old.sent ++ sent ∷ [])
  sent_behind A e m = ap (λ l. record new { sent = l }) is ∙ ap (λ w. record new { sent = old.sent ++ sent ∷ []; waits = w }) waits ∙ ap (λ (p : PairState). record { a = p.a; b = p.b; sent = old.sent ++ sent ∷ []; waits = old.waits }) m
  sent_behind B e m = ap (λ l. record new { sent = l }) is ∙ ap (λ w. record new { sent = old.sent ++ sent ∷ []; waits = w }) waits ∙ ap (λ (p : PairState). record { a = p.a; b = p.b; sent = old.sent ++ sent ∷ []; waits = old.waits }) m

  end_alone : (k : End) → the_end (two_ends old.a old.b) k ≡ the_end old k
  end_alone A = refl
  end_alone B = refl

  emits-so : (answer : Result (Unit {0}) OutOfMemory) → OnEnd (λ e f. EmitsAt most fair e payload answer f) (two_ends old.a old.b) who (two_ends new.a new.b) → Emits old who most fair answer payload new
  emits-so answer d = record { end = d.end; emits = subst (λ e. EmitsAt most fair e payload answer d.end) (end_alone who) d.does; sent = sent; sent_is = sent_is; is = sent_behind who d.end d.is }

  pub emit-so : {E : Type 0} (written : Result (Unit {0}) OutOfMemory) (copy : Result (Vec ℕ) E) → OnEnd (λ e f. EmitsAt most fair e payload written f) (two_ends old.a old.b) who (two_ends new.a new.b)
      → ((v : Vec ℕ) → copy ≡ Ok v → v.items ≡ payload.bytes) → Emitted old who most fair (payload_reply number written copy) new
  emit-so (Ok done) (Ok bytes) d b = record { payload = payload; emits = emits-so (Ok tt) d; number_is = count; bytes_are = b bytes refl }
  emit-so (Ok done) (Err error) d b = inr (record { answer = Ok tt; payload = payload; emits = emits-so (Ok tt) d })
  emit-so (Err wanting) copy d b = inr (record { answer = Err wanting; payload = payload; emits = emits-so (Err wanting) d })

  -- so is one that is written in another way
  emits_by : (At : EndState → PayloadView → Result (Unit {0}) OutOfMemory → EndState → Type 0) (answer : Result (Unit {0}) OutOfMemory) → OnEnd (λ e f. At e payload answer f) (two_ends old.a old.b) who (two_ends new.a new.b) → EmitsBy At old who answer payload new
  emits_by At answer d = record { end = d.end; emits = subst (λ e. At e payload answer d.end) (end_alone who) d.does; sent = sent; sent_is = sent_is; is = sent_behind who d.end d.is }

  pub emit-by : {E : Type 0} (At : EndState → PayloadView → Result (Unit {0}) OutOfMemory → EndState → Type 0) (written : Result (Unit {0}) OutOfMemory) (copy : Result (Vec ℕ) E) → OnEnd (λ e f. At e payload written f) (two_ends old.a old.b) who (two_ends new.a new.b)
      → ((v : Vec ℕ) → copy ≡ Ok v → v.items ≡ payload.bytes) → EmittedBy At old who (payload_reply number written copy) new
  emit-by At (Ok done) (Ok bytes) d b = record { payload = payload; emits = emits_by At (Ok tt) d; number_is = count; bytes_are = b bytes refl }
  emit-by At (Ok done) (Err error) d b = inr (record { answer = Ok tt; payload = payload; emits = emits_by At (Ok tt) d })
  emit-by At (Err wanting) copy d b = inr (record { answer = Err wanting; payload = payload; emits = emits_by At (Err wanting) d })

-- ---- a frame is handed over

module _ (k : End → Kept) (notes : List Note) (old : PairState) (s : old.sent ≡ rows k notes) where
  there : (n : ℕ) (note : Note) → slice_get notes n ≡ Some note → slice_get old.sent n ≡ Some (row k note)
  there n note is = ap (λ l. slice_get l n) s ∙ row-at k notes n note is

  absent : (n : ℕ) → IsNoNote notes n → IsNoPayload old.sent n
  absent n h = let P : List Sent → Type 0 = λ l. IsNoPayload l n in subst P (sym s) (no-note k notes n h)

  pub deliver-refused : (new : PairState) (n i : ℕ) (error : PairError) → FailsToFindIn notes n i error → new ≡ old → Delivers old n i (Err error) new
  deliver-refused new n i refusals.NoSuchPayload h e = (absent n h, e)
  deliver-refused new n i refusals.NoSuchFrame h e = record { payload = record { sent = row k h.whole; is = there n h.whole h.is; here = h.here }; why = h.why; is = e }
  deliver-refused new n i refusals.OutOfMemory h e = inl (record { sent = row k h.whole; is = there n h.whole h.is; here = h.here }, e)
  deliver-refused new n i _ h e = absurd h

  module _ (behind : List Note) (mid new : PairState) (t : new.sent ≡ rows k behind) (n i : ℕ) (h : HandedFrame) (f : FindsFrameOf notes n i h) where
    at_writer : (P : EndState → EndState → Type 0) → OnEnd P old (peer h.writer) mid → OnEnd P old (peer f.whole.writer) mid
    at_writer P d = let Q : End → Type 0 = λ w. OnEnd P old (peer w) mid in subst Q f.writer d

    -- what was handed over, whatever the answer
    handed : (answer : Result ShouldTransmit ReceiveError) → OnEnd (EndTakesFrame h.frame h.len answer) old (peer h.writer) mid → SentAfter old.sent n (row k f.whole) i answer new.sent → new ≡ with_sent mid new.sent
        → HandsOver old n i (received_reply answer) new
    handed answer d after e =
        let o = at_writer (EndTakesFrame h.frame h.len answer) d in record {
          payload = record { sent = row k f.whole; is = there n f.whole f.is; here = f.here };
          frame = h.frame;
          at = f.at;
          answer = answer;
          end = o.end;
          receives = o.does.receives;
          accounts = subst (λ n. AccountsFrame (the_end old (peer f.whole.writer)).streams h.frame n answer o.end.streams) f.length_is o.does.accounts;
          reply_is = refl;
          sent = after;
          is = e ∙ ap (λ v. with_sent v new.sent) o.is;
        }

    -- the marked payload is the one that was found
    marked-so : (transmit : ShouldTransmit) → MarksNote notes n i behind → SentAfter old.sent n (row k f.whole) i (Ok transmit) new.sent
    marked-so transmit m =
        let w : m.whole ≡ f.whole = some_is m.whole f.whole (sym m.is ∙ f.is) in
        let P : Note → Type 0 = λ x. IsMarked x.text i m.text in
        let Q : Note → Type 0 = λ x. behind ≡ slice_set notes n (record x { text = m.text }) in
        let marked : Note = record f.whole { text = m.text } in
        (m.text, subst P w m.marked, t ∙ ap (rows k) (subst Q w m.new_is) ∙ rows-set k notes n marked ∙ ap (λ l. slice_set l n (row k marked)) (sym s))

    same-so : behind ≡ notes → new.sent ≡ old.sent
    same-so m = t ∙ ap (rows k) m ∙ sym s

    pub deliver-so : (answer : Result ShouldTransmit ReceiveError) → OnEnd (EndTakesFrame h.frame h.len answer) old (peer h.writer) mid → MarksNoteIf answer notes n i behind → new ≡ with_sent mid new.sent
        → Delivers old n i (received_reply answer) new
    deliver-so (Ok transmit) d m e = handed (Ok transmit) d (marked-so transmit m) e
    deliver-so (Err (receive_error.Transport error)) d m e = handed (Err (receive_error.Transport error)) d (same-so m) e
    deliver-so (Err receive_error.CompactionMemory) d m e = handed (Err receive_error.CompactionMemory) d (same-so m) e
    deliver-so (Err receive_error.OutOfMemory) d m e = inr (handed (Err receive_error.OutOfMemory) d (same-so m) e)

  -- ---- what is reported of a payload

  module _ (kind : Report) (At : EndState → SentView → Result (Unit {0}) SentView → EndState → Type 0) where
    pub report-missing : (new : PairState) (n : ℕ) → IsNoNote notes n → new ≡ old → SettlesPayload kind At old n (Err refusals.NoSuchPayload) new
    report-missing new n h e = (absent n h, e)

    module _ (n : ℕ) (note : Note) (is : slice_get notes n ≡ Some note) (here : note.gone ≡ false) where
      abbrev payload : HasPayload old n
      payload = record { sent = row k note; is = there n note is; here = here }

      pub report-refused : (new : PairState) (unsettled : Bool) → unsettled ≡ is_some (row k note).unsettled.rest → (error : PairError) → RefusesNote kind note unsettled error → new ≡ old → SettlesPayload kind At old n (Err error) new
      report-refused new unsettled u refusals.AlreadySettled h e = record { payload = payload; why = ap (λ b. b && goes_on kind note.begun) (sym u) ∙ h; is = e }
      report-refused new unsettled u refusals.NotAccepted h e = record { payload = payload; why = (ap (λ b. b && goes_on kind note.begun) (sym u) ∙ h.0, h.1, h.2); is = e }
      report-refused new unsettled u _ h e = absurd h

      pub report-so : (new : PairState) (rest : SentPayload) → (row k note).unsettled.rest ≡ Some rest → (unsettled : Bool) → unsettled ≡ is_some (row k note).unsettled.rest → CanReport kind note unsettled
          → (answer : Result (Unit {0}) SentPayload) (end : EndState) → At (the_end old note.writer) (sent_view rest) (report_view answer) end
          → new ≡ with_sent (with_end old note.writer end) (slice_set old.sent n (record (row k note) { unsettled = unsettled_after kind (row k note).unsettled answer })) → SettlesPayload kind At old n (report_reply answer) new
      report-so new rest rest_is unsettled u can answer end does e = by answer (record {
        payload = payload;
        may = ap (λ b. b && goes_on kind note.begun) (sym u) ∙ can.may;
        serves = can.serves;
        rest = rest;
        rest_is = rest_is;
        answer = answer;
        end = end;
        does = does;
        reply_is = refl;
        is = e;
      })
        where
          by : (a : Result (Unit {0}) SentPayload) → Reports kind At old n (report_reply a) new → SettlesPayload kind At old n (report_reply a) new
          by (Ok done) x = x
          by (Err back) x = x

-- ---- a pair is made

-- as its configs say
pub new-so : (a b : Config) (limits : PeerLimits) (v : PairState) → limits ≡ limits_of (made_of Server b)
    → v ≡ record { a = end_begun (made_of Client a) limits; b = end_begun (made_of Server b) (limits_of (made_of Client a)); sent = []; waits = None }
    → a.max_remote_uni ≤ 2 ^ 60 → b.max_remote_uni ≤ 2 ^ 60 → a.max_remote_bi ≤ 2 ^ 60 → b.max_remote_bi ≤ 2 ^ 60 → a.receive_window < 2 ^ 62 → b.receive_window < 2 ^ 62 → a.stream_receive_window < 2 ^ 62 → b.stream_receive_window < 2 ^ 62 → PairFrom (at_once a b) [] v
new-so a b limits v l is uni_a uni_b bi_a bi_b small_a small_b stream_a stream_b = begun (record {
  is = is ∙ ap (λ k. record { a = end_begun (made_of Client a) k; b = end_begun (made_of Server b) (limits_of (made_of Client a)); sent = []; waits = None }) l;
  few_uni = (uni_a, uni_b);
  few_bi = (bi_a, bi_b);
  small = (small_a, small_b);
  small_of_stream = (stream_a, stream_b);
  remembered = λ k e. absurd (none-some k e);
})

pub new_early-so : (a b : Config) (remembered others : PeerLimits) (v : PairState) → others ≡ limits_of (made_of Server b)
    → v ≡ record { a = end_begun (made_of Client a) remembered; b = end_begun (made_of Server b) (limits_of (made_of Client a)); sent = []; waits = Some (record { remembered = remembered; others = others }) }
    → a.max_remote_uni ≤ 2 ^ 60 → b.max_remote_uni ≤ 2 ^ 60 → a.max_remote_bi ≤ 2 ^ 60 → b.max_remote_bi ≤ 2 ^ 60 → a.receive_window < 2 ^ 62 → b.receive_window < 2 ^ 62 → a.stream_receive_window < 2 ^ 62 → b.stream_receive_window < 2 ^ 62 → AreSoundLimits remembered
    → PairFrom (record { a = a; b = b; early = Some remembered }) [] v
new_early-so a b remembered others v l is uni_a uni_b bi_a bi_b small_a small_b stream_a stream_b few = begun (record {
  is = is ∙ ap (λ k. record { a = end_begun (made_of Client a) remembered; b = end_begun (made_of Server b) (limits_of (made_of Client a)); sent = []; waits = Some (record { remembered = remembered; others = k }) }) l;
  few_uni = (uni_a, uni_b);
  few_bi = (bi_a, bi_b);
  small = (small_a, small_b);
  small_of_stream = (stream_a, stream_b);
  remembered = λ k e. subst AreSoundLimits (same_Some remembered k e) few;
})
