-- A payload of control frames and data that a session writes is one that its endpoint writes, and one without bytes has nothing noted.
use Rattle.std.proofs.Common.{◌≡◌, ℕ, ◌<◌, ◌+◌, ◌-◌, Bool, true, List, [], ◌∷◌, ◌++◌, length, Option, Some, None, Result, Ok, Err, refl, sym, ap, ◌∙◌, subst, inl, inr, arith}
use Rattle.std.specs.Prelude.{is_err}
use Rattle.std.specs.Global.{Vec}
use Rattle.quic_values.specs.declared.memory.OutOfMemory.{OutOfMemory}
use Rattle.quic_wire.specs.declared.frame.Frame.{Frame}
use Rattle.quic_wire.specs.declared.frame.Frame.TheVariants as frames
use Rattle.quic_wire.specs.declared.frame.StreamMeta.{StreamMeta}
use Rattle.quic_wire.specs.Text.{text, meta_text}
use Rattle.quic_retransmits.specs.Pending.{Pending, nothing}
use Rattle.quic_retransmits.specs.Settling.{noted, noted_in}
use Rattle.quic_writing.specs.Appended.{AppendsFrames}
use Rattle.quic_writing.specs.Writer.{Writer, TakesTurns, none, more}
use Rattle.quic_history.specs.World.{Made}
use Rattle.quic_history.specs.History.{Event, From}
use Rattle.quic_streams.specs.declared.settling.SentPayload.{SentPayload}
use Rattle.quic_streams.specs.Sent.{sent_view}
use Rattle.quic_streams.specs.Payload.{Sheet, Entry, with_frame_written_if, sheet_with}
use Rattle.quic_streams.specs.Transmitting.{WritesStreamFrames, GoesOnWithTurns, end_writer, told_bytes}
use Rattle.quic_endpoint.specs.Ends.{EndState}
use Rattle.quic_endpoint.specs.Emitting.{PayloadView, EmitsControl, EmitsStreams, EmitsAt, whole as all_parts, cut as control_cut}
use Rattle.quic_session.specs.declared.session.Session.{Session}
use Rattle.quic_session.specs.Sessions.{end_of}
use Rattle.quic_session.specs.Emitting.{Writing, blank, place_in, WritesControl, WritesStreams, WritesParts, whole, no_datagrams, control_alone}
use Rattle.quic_steps.specs.declared.steps.End.{End}
use Rattle.quic_steps.specs.declared.steps.End.TheVariants.{A, B}
use Rattle.quic_steps.specs.declared.steps.PairError.TheVariants.{OutOfMemory as NoMemory}
use Rattle.quic_steps.specs.declared.steps.PayloadPart.{PayloadPart}
use Rattle.quic_steps.specs.declared.steps.PayloadPart.TheVariants.{Control, Streams}
use Rattle.quic_exchange.specs.Parts.{EmitsControlAlone, EmitsStreamsAlone, EmitsPartAt}
use Rattle.quic_exchange.specs.Replies.{payload_reply}
use Rattle.quic_exchange.specs.Sent.{Sent}
use Rattle.quic_exchange.specs.State.{PairState, OnEnd, two_ends}
use Rattle.quic_exchange.specs.Steps.{IsSentBy}
use Rattle.quic_exchange.proofs.Deeds.{emit-so, emit-by}
use Rattle.quic_pair.specs.declared.emitting.Written.{Written}
use Rattle.quic_pair.specs.Emitting.{parts_for, EmitsOf, EmittedOf, KeepsWritten}
use Rattle.quic_pair.specs.Ends.{OnSession}
use Rattle.quic_pair.proofs.Sessions.{Puts, Gives}

-- ---- without bytes

append-nil : {X : Type 0} (xs ys : List X) → xs ++ ys ≡ [] → xs ≡ []
append-nil [] ys e = refl
append-nil (x ∷ xs) ys e = cc

append-some : {X : Type 0} (xs : List X) (x : X) (ys : List X) → xs ++ x ∷ ys ≡ [] → ⊥
append-some [] x ys e = cc
append-some (z ∷ xs) x ys e = cc

-- a frame that is noted has a byte
noted-blank : (f : Frame) (bytes : List ℕ) (sent : Pending) → bytes ++ text f ≡ [] → noted sent f ≡ sent
noted-blank (frames.ResetStream f) bytes sent e = absurd (append-some bytes _ _ e)
noted-blank (frames.StopSending f) bytes sent e = absurd (append-some bytes _ _ e)
noted-blank (frames.MaxData limit) bytes sent e = absurd (append-some bytes _ _ e)
noted-blank (frames.MaxStreamData id limit) bytes sent e = absurd (append-some bytes _ _ e)
noted-blank (frames.MaxStreams dir count) bytes sent e = absurd (append-some bytes _ _ e)
noted-blank (frames.DataBlocked limit) bytes sent e = absurd (append-some bytes _ _ e)
noted-blank (frames.StreamDataBlocked id limit) bytes sent e = absurd (append-some bytes _ _ e)
noted-blank _ bytes sent e = refl

frame-blank : (o : Option Frame) (s : Sheet) → (with_frame_written_if s o).bytes ≡ [] → (s.bytes ≡ []) × ((with_frame_written_if s o).sent ≡ s.sent)
frame-blank None s e = (e, refl)
frame-blank (Some f) s e = (append-nil s.bytes (text f) e, noted-blank f s.bytes s.sent e)

sheet-blank : (es : List Entry) (s : Sheet) → (sheet_with s es).bytes ≡ [] → (s.bytes ≡ []) × ((sheet_with s es).sent ≡ s.sent)
sheet-blank [] s e = (e, refl)
sheet-blank (x ∷ es) s e =
    let behind = sheet-blank es (with_frame_written_if s x.frame) e in
    let here = frame-blank x.frame s behind.0 in
    (here.0, behind.1 ∙ here.1)

meta-some : (m : StreamMeta) (w : Bool) → 0 < length (meta_text m w)
meta-some m w = omega arith

turns-blank : {most : ℕ} {fair : Bool} {a b : Writer} → TakesTurns most fair a b → b.bytes ≡ [] → (a.bytes ≡ []) × (b.sent ≡ a.sent)
turns-blank none e = (e, refl)
turns-blank (more turns room (inl k)) e =
    let before = turns-blank turns (sym (ap (λ (x : Writer). x.bytes) k.is) ∙ e) in
    (before.0, ap (λ (x : Writer). x.sent) k.is ∙ before.1)
turns-blank (more turns room (inr k)) e =
    let size = k.transmits.appends.size in
    let some = meta-some k.frame.meta k.transmits.appends.with_length in
    absurd (omega (arith, size, some, ap length e))

abbrev pub Answer : Type 0
Answer = Result (Unit {0}) OutOfMemory

control-blank : (most : ℕ) (a b : Writing) (r : Answer) → WritesControl most a r b → b.payload.bytes ≡ [] → (a.payload.bytes ≡ []) × (b.payload.control ≡ a.payload.control)
control-blank most a b r w e =
    let s = sheet-blank w.from.entries (place_in a).sheet (sym (ap (λ (x : Sheet). x.bytes) w.from.sheet) ∙ e) in
    (s.0, ap (λ (x : Sheet). x.sent) w.from.sheet ∙ s.1)

streams-blank : (most : ℕ) (fair : Bool) (a b : Writing) (r : Answer) → WritesStreams most fair a r b → b.payload.bytes ≡ [] → (a.payload.bytes ≡ []) × (b.payload.streams ≡ a.payload.streams)
streams-blank most fair a b r w e = turns-blank w.writes.turns e

parts-blank : {most : ℕ} {fair : Bool} {a : Writing} {r : Answer} {d : Writing} (part : Option PayloadPart) → WritesParts most (parts_for part) fair a r d → d.payload.bytes ≡ [] → (d.payload.control ≡ a.payload.control) × (d.payload.streams ≡ a.payload.streams)
parts-blank {most} {fair} {a} {r} {d} None (whole b c x y z) e =
    let last = streams-blank most fair c d r z e in
    let first = control-blank most a b (Ok tt) x (ap (λ (w : Writing). w.payload.bytes) (sym y.1) ∙ last.0) in
    (z.control ∙ ap (λ (w : Writing). w.payload.control) y.1 ∙ first.1, last.1 ∙ ap (λ (w : Writing). w.payload.streams) y.1 ∙ x.streams)
parts-blank {most} {fair} {a} {r} {d} None (no_datagrams b x y) e = let no = y.0 in cc
parts-blank {most} {fair} {a} {r} {d} None (control_alone x) e = ((control-blank most a d r x e).1, x.streams)
parts-blank {most} {fair} {a} {r} {d} (Some Control) (whole b c x y z) e =
    let same : d ≡ b = z.1 ∙ y.1 in
    let first = control-blank most a b (Ok tt) x (ap (λ (w : Writing). w.payload.bytes) (sym same) ∙ e) in
    (ap (λ (w : Writing). w.payload.control) same ∙ first.1, ap (λ (w : Writing). w.payload.streams) same ∙ x.streams)
parts-blank {most} {fair} {a} {r} {d} (Some Control) (no_datagrams b x y) e = let no = y.0 in cc
parts-blank {most} {fair} {a} {r} {d} (Some Control) (control_alone x) e = ((control-blank most a d r x e).1, x.streams)
parts-blank {most} {fair} {a} {r} {d} (Some Streams) (whole b c x y z) e =
    let same : c ≡ a = y.1 ∙ x.1 in
    let last = streams-blank most fair c d r z e in
    (z.control ∙ ap (λ (w : Writing). w.payload.control) same, last.1 ∙ ap (λ (w : Writing). w.payload.streams) same)
parts-blank {most} {fair} {a} {r} {d} (Some Streams) (no_datagrams b x y) e = let no = y.0 in cc
parts-blank {most} {fair} {a} {r} {d} (Some Streams) (control_alone x) e = let no = x.0 in cc

pub nothing-noted : {most : ℕ} {fair : Bool} (s : Session) (part : Option PayloadPart) {r : Answer} {d : Writing} → WritesParts most (parts_for part) fair (blank s) r d → d.payload.bytes ≡ [] → (d.payload.control ≡ nothing) × (d.payload.streams ≡ [])
nothing-noted s part w e = parts-blank part w e

-- ---- the parts as the endpoint writes them

module _ (most : ℕ) (fair : Bool) (s : Session) where
  control-part : (r : Answer) (b : Writing) → WritesControl most (blank s) r b → (control : Pending) → control ≡ b.payload.control → EmitsControl most (end_of s) r b.end b.payload.bytes control
  control-part r b w control e =
      let P : Pending → Type 0 = λ x. EmitsControl most (end_of s) r b.end b.payload.bytes x in
      subst P (sym e) (record { before = (blank s).sent; after = b.sent; writes = w.writes; full = w.full; refused = w.refused; from = w.from })

  -- what is said of the frames of streams that were handed back before and behind
  abbrev Carried : Writing → Writing → List StreamMeta → List StreamMeta → Type 0
  Carried b d before behind = WritesStreamFrames most fair b.end.streams b.payload.bytes before d.end.streams d.payload.bytes behind
      × ((m : Made) (h : List Event) → From m h b.end.streams → AppendsFrames (told_bytes m h) most (end_writer b.end.streams b.payload.bytes before) (end_writer d.end.streams d.payload.bytes behind))
      × GoesOnWithTurns most fair before behind b.end.streams d.end.streams

  streams-part : (r : Answer) (b d : Writing) → WritesStreams most fair b r d → b.payload.streams ≡ [] → (sent : SentPayload) → sent.streams.items ≡ d.payload.streams
      → EmitsStreams most fair b.end b.payload.bytes r d.end (record { bytes = d.payload.bytes; sent = sent_view sent })
  streams-part r b d w none_before sent e =
      let P : List StreamMeta → Type 0 = λ x. Carried b d x d.payload.streams in
      let Q : List StreamMeta → Type 0 = λ x. Carried b d [] x in
      let all : Carried b d [] sent.streams.items = subst Q (sym e) (subst P none_before (w.writes, w.carries, w.from)) in
      record { writes = all.0; full = w.full; refused = w.refused; carries = all.1; from = all.2; pending = w.pending }

  emits-both : {r : Answer} {d : Writing} → WritesParts most (parts_for None) fair (blank s) r d → (sent : SentPayload) → noted_in sent.control ≡ d.payload.control → sent.streams.items ≡ d.payload.streams
      → EmitsAt most fair (end_of s) (record { bytes = d.payload.bytes; sent = sent_view sent }) r d.end
  emits-both {r} {d} (whole b c x y z) sent control streams =
      let P : Writing → Type 0 = λ w. WritesStreams most fair w r d in
      let last : WritesStreams most fair b r d = subst P y.1 z in
      all_parts b.end b.payload.bytes (control-part (Ok tt) b x (noted_in sent.control) (control ∙ last.control)) (streams-part r b d last x.streams sent streams)
  emits-both {r} {d} (no_datagrams b x y) sent control streams = let no = y.0 in cc
  emits-both {r} {d} (control_alone x) sent control streams =
      control_cut d.end d.payload.bytes (control-part r d x (noted_in sent.control) control) (record { same = refl; bytes_are = refl; none = streams ∙ x.streams })

  -- one part alone
  control-written : (r : Answer) (d : Writing) → WritesControl most (blank s) r d → (sent : SentPayload) → noted_in sent.control ≡ d.payload.control → sent.streams.items ≡ d.payload.streams
      → EmitsControlAlone most (end_of s) (record { bytes = d.payload.bytes; sent = sent_view sent }) r d.end
  control-written r d x sent control streams = record { writes = control-part r d x (noted_in sent.control) control; none = streams ∙ x.streams }

  emits-control : {r : Answer} {d : Writing} → WritesParts most (parts_for (Some Control)) fair (blank s) r d → (sent : SentPayload) → noted_in sent.control ≡ d.payload.control → sent.streams.items ≡ d.payload.streams
      → EmitsControlAlone most (end_of s) (record { bytes = d.payload.bytes; sent = sent_view sent }) r d.end
  emits-control {r} {d} (whole b c x y z) sent control streams =
      let P : Writing → Type 0 = λ w. WritesControl most (blank s) (Ok tt) w in
      let Q : Answer → Type 0 = λ a. WritesControl most (blank s) a d in
      control-written r d (subst Q (sym z.0) (subst P (sym (z.1 ∙ y.1)) x)) sent control streams
  emits-control {r} {d} (no_datagrams b x y) sent control streams = let no = y.0 in cc
  emits-control {r} {d} (control_alone x) sent control streams = control-written r d x sent control streams

  emits-streams : {r : Answer} {d : Writing} → WritesParts most (parts_for (Some Streams)) fair (blank s) r d → (sent : SentPayload) → noted_in sent.control ≡ d.payload.control → sent.streams.items ≡ d.payload.streams
      → EmitsStreamsAlone most fair (end_of s) (record { bytes = d.payload.bytes; sent = sent_view sent }) r d.end
  emits-streams {r} {d} (whole b c x y z) sent control streams =
      let P : Writing → Type 0 = λ w. WritesStreams most fair w r d in
      let last : WritesStreams most fair (blank s) r d = subst P (y.1 ∙ x.1) z in
      record { writes = streams-part r (blank s) d last refl sent streams; none = control ∙ last.control }
  emits-streams {r} {d} (no_datagrams b x y) sent control streams = let no = y.0 in cc
  emits-streams {r} {d} (control_alone x) sent control streams = let no = x.0 in cc

  pub emits-of : {r : Answer} {d : Writing} (part : Option PayloadPart) → WritesParts most (parts_for part) fair (blank s) r d → (sent : SentPayload) → noted_in sent.control ≡ d.payload.control → sent.streams.items ≡ d.payload.streams
      → EmitsOf part most fair (end_of s) (record { bytes = d.payload.bytes; sent = sent_view sent }) r d.end
  emits-of None w sent control streams = emits-both w sent control streams
  emits-of (Some Control) w sent control streams = emits-control w sent control streams
  emits-of (Some Streams) w sent control streams = emits-streams w sent control streams

-- ---- a payload that one of two sessions wrote

pub record Sends (most : ℕ) (fair : Bool) (part : Option PayloadPart) (w : Written) (sent : SentPayload) (s t : Session) : Type 0 where
  pub emits : EmitsOf part most fair (end_of s) (record { bytes = w.bytes.items; sent = sent_view sent }) w.answer (end_of t)
  pub puts : Puts w.token (Some sent) s t
  pub gives : Gives w.token s t

pub sent-on : (most : ℕ) (fair : Bool) (part : Option PayloadPart) (w : Written) (who : End) (a b c d : Session) → OnSession (λ s t. KeepsWritten most fair part s w t) who a b c d → (sent : SentPayload) × OnSession (Sends most fair part w sent) who a b c d
sent-on most fair part w A a b c d o = let k = o.0 in (k.sent, (record { emits = k.emits; puts = k.keeps.kept; gives = (k.conn, k.keeps.is_next, k.keeps.rises) }, o.1))
sent-on most fair part w B a b c d o = let k = o.0 in (k.sent, (record { emits = k.emits; puts = k.keeps.kept; gives = (k.conn, k.keeps.is_next, k.keeps.rises) }, o.1))

-- an answer is known by whether it is an error
pub same-answer : (a b : Answer) → is_err a ≡ is_err b → a ≡ b
same-answer (Ok u) (Ok v) e = refl
same-answer (Err u) (Err v) e = refl
same-answer (Ok u) (Err v) e = cc
same-answer (Err u) (Ok v) e = cc

-- the step was taken
pub emits-next : (part : Option PayloadPart) (old new : PairState) (who : End) (most : ℕ) (fair : Bool) (payload : PayloadView) (number : ℕ) (sent : Sent) (sent_is : IsSentBy who payload sent) (is : new.sent ≡ old.sent ++ sent ∷ []) (waits : new.waits ≡ old.waits) (count : number ≡ length old.sent) {E : Type 0} (written : Answer) (copy : Result (Vec ℕ) E)
    → OnEnd (λ e f. EmitsOf part most fair e payload written f) (two_ends old.a old.b) who (two_ends new.a new.b) → ((v : Vec ℕ) → copy ≡ Ok v → v.items ≡ payload.bytes) → EmittedOf old who most fair part (payload_reply number written copy) new
emits-next None old new who most fair payload number sent sent_is is waits count written copy d b = emit-so old new who most fair payload number sent sent_is is waits count written copy d b
emits-next (Some part) old new who most fair payload number sent sent_is is waits count written copy d b = emit-by old new who most fair payload number sent sent_is is waits count (EmitsPartAt part most fair) written copy d b

-- nothing was written, for lack of memory
pub emits-none : (part : Option PayloadPart) (old new : PairState) (who : End) (most : ℕ) (fair : Bool) → new ≡ old → EmittedOf old who most fair part (Err NoMemory) new
emits-none None old new who most fair same = inl same
emits-none (Some part) old new who most fair same = inl same
