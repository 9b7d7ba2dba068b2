-- Whatever steps led to a pair since it was made, or since the server rejected what the client had sent early, each end came from calls that took every reset that was accepted.
use Rattle.std.proofs.Common.{◌≡◌, ◌⊎◌, ℕ, List, ◌∷◌, Result, Ok, Err, refl, sym, ap, ◌∙◌, subst, inl, inr}
use Rattle.std.specs.Prelude.{slice_get}
use Rattle.std.proofs.lemmas.Option.{same_Some}
use Rattle.quic_wire.specs.declared.frame.Frame.{Frame}
use Rattle.quic_wire.specs.declared.frame.Frame.TheVariants as frames
use Rattle.quic_wire.specs.declared.frame.ResetStream.{ResetStream}
use Rattle.quic_wire.specs.declared.error.ReceiveError.{ReceiveError}
use Rattle.quic_wire.specs.declared.error.ReceiveError.TheVariants as receive_error
use Rattle.quic_receiving.specs.declared.transmit.ShouldTransmit.{ShouldTransmit}
use Rattle.quic_history.specs.World.{World, Made}
use Rattle.quic_history.specs.History.{Event, ReceivedReset, From}
use Rattle.quic_link.specs.Endpoints.{IsOneOf}
use Rattle.quic_link.proofs.Ends.{ArePlain}
use Rattle.quic_endpoint.specs.Ends.{EndState}
use Rattle.quic_endpoint.specs.Receiving.{MakesCall, event_of}
use Rattle.quic_endpoint.specs.Reports.{LosesPayloadAt, AcksPayloadAt}
use Rattle.quic_steps.specs.declared.steps.End.{End}
use Rattle.quic_steps.specs.declared.steps.End.TheVariants.{A, B}
use Rattle.quic_steps.specs.declared.steps.Step.{Step}
use Rattle.quic_steps.specs.declared.steps.Step.TheVariants as steps
use Rattle.quic_steps.specs.declared.steps.Reply.TheVariants.{Done, DoneTransmit, Fault}
use Rattle.quic_steps.specs.declared.steps.PairError.TheVariants.{OutOfMemory as NoMemory}
use Rattle.quic_exchange.specs.Sent.{Sent}
use Rattle.quic_exchange.specs.declared.unsettled.Report.TheVariants.{Lost, Acknowledged}
use Rattle.quic_exchange.specs.Payloads.{IsFrameAt}
use Rattle.quic_exchange.specs.Replies.{Answer, received_reply}
use Rattle.quic_exchange.specs.State.{PairState, peer, the_end, with_end, with_sent}
use Rattle.quic_exchange.specs.Steps.{NextOrdinary, HandsOver}
use Rattle.quic_exchange.specs.History.{History, Past, FramePlace, after, past_of}
use Rattle.quic_exchange.specs.Readable.{SomeReset}
use Rattle.quic_exchange.proofs.Emissions.{emitted-some, emitted-part}
use Rattle.quic_exchange.proofs.Beside.{IsOfNoPayload, beside}
use Rattle.quic_exchange.proofs.Flips.{peer-other}
use Rattle.quic_exchange.proofs.Origins.{Origin}
use Rattle.quic_exchange.proofs.Eras.{EraFrom, Changes, begun, next, changed, accepts, retries}
use Rattle.quic_exchange.proofs.Grown.{past-after}
use Rattle.quic_exchange.proofs.KeptPlaces.{frame-one}
use Rattle.quic_exchange.proofs.Marks.{AreMarkedSo, HasMark, marks-from, sent_on_end}
use Rattle.quic_exchange.proofs.PayloadKnows.{StaySent, stay-sent}
use Rattle.quic_exchange.proofs.Recounted.{made_at}
use Rattle.quic_exchange.proofs.Streamless.{stay-emitted, stay-delivered, stay-reported}
use Rattle.quic_progress.proofs.Whole.{Run, Runs, runs-frame, by-call}
use Rattle.quic_progress.proofs.WholeSteps.{step-runs, answer_streams, changed-runs}
use Rattle.quic_progress.proofs.Paid.{paid-from}

-- a RESET_STREAM of the stream was taken
abbrev pub WasResetIn : List Event → ℕ → Type 0
WasResetIn calls q = (code : ℕ) × (final : ℕ) × (transmit : ShouldTransmit) × IsOneOf (ReceivedReset q code final (Ok transmit)) calls

pub record HeardAt (m : Made) (p : Past) (sent : List Sent) (who : End) (w : World) : Type 0 where
  pub calls : List Event
  pub from : From m calls w
  pub plain : ArePlain calls
  pub heard : (q code : ℕ) → SomeReset sent (peer who) q code p.accepted → WasResetIn calls q

-- ---- steps that accept nothing

-- a reset at a place that was accepted before was accepted before
reset_back : (old new : List Sent) (from : End) (q code : ℕ) (ps qs : List FramePlace) → StaySent old new → (r : SomeReset new from q code qs) → IsOneOf r.at ps → HasMark old r.at → SomeReset old from q code ps
reset_back old new from q code ps qs stay r listed m =
    let k = stay r.at.0 m.payload m.is in
    let same : k.0 ≡ r.payload = same_Some k.0 r.payload (sym k.1 ∙ r.is) in
    let bytes : r.payload.text.bytes ≡ m.payload.text.bytes = sym (ap (λ (s : Sent). s.text.bytes) same) ∙ k.3 in
    let P : List ℕ → Type 0 = λ b. IsFrameAt b r.at.1 (frames.ResetStream r.frame) in
    record { at = r.at; listed = listed; payload = m.payload; is = m.is; writer = sym k.2 ∙ ap (λ (s : Sent). s.writer) same ∙ r.writer; frame = r.frame; there = subst P bytes r.there; on = r.on; with_code = r.with_code }

module _ (m : Made) (p q : Past) (old new : List Sent) (who : End) (u v : World) (marks : AreMarkedSo p.accepted old) (stay : StaySent old new) where
  heard_on : q.accepted ≡ p.accepted → Runs m u v → HeardAt m p old who u → HeardAt m q new who v
  heard_on same r x =
      let k = r x.calls x.from x.plain in
      record {
        calls = k.calls;
        from = k.from;
        plain = k.plain;
        heard = λ id code reset.
            let P : List FramePlace → Type 0 = λ l. IsOneOf reset.at l in
            let listed = subst P same reset.listed in
            let h = x.heard id code (reset_back old new (peer who) id code p.accepted q.accepted stay reset listed (marks.marked reset.at listed)) in
            (h.0, h.1, h.2, k.stays _ h.3);
      }

-- ---- a frame is handed over

-- the call that a reset is stands among those that the end came from
abbrev RunsReset : Made → World → World → Frame → Result ShouldTransmit ReceiveError → Type 0
RunsReset m u v frame answer = (h : List Event) → From m h u → ArePlain h → (r : Run m h v) × ((g : ResetStream) (transmit : ShouldTransmit) → frame ≡ frames.ResetStream g → answer ≡ Ok transmit → IsOneOf (ReceivedReset g.id g.error_code g.final_offset (Ok transmit)) r.calls)

runs_reset : (m : Made) (u v : World) (frame : Frame) (answer : Result ShouldTransmit ReceiveError) → MakesCall u (event_of frame answer) v → RunsReset m u v frame answer
runs_reset m u v (frames.ResetStream f) answer s h from plain =
    let k = by-call m u v (ReceivedReset f.id f.error_code f.final_offset answer) tt s h from plain in (
      k.0,
      λ g transmit e a.
          let same : f ≡ g = cc in
          let P : ResetStream → Type 0 = λ x. IsOneOf (ReceivedReset x.id x.error_code x.final_offset (Ok transmit)) k.0.calls in
          let Q : Result ShouldTransmit ReceiveError → Type 0 = λ x. IsOneOf (ReceivedReset f.id f.error_code f.final_offset x) k.0.calls in
          subst P same (subst Q a k.1),
    )
runs_reset m u v frame answer s h from plain = (runs-frame m u v frame answer s h from plain, λ g transmit e a. cc)

runs_at : (m : Made) (u v w : World) (frame : Frame) (answer : Result ShouldTransmit ReceiveError) → v ≡ w → RunsReset m u w frame answer → RunsReset m u v frame answer
runs_at m u v w frame answer is r = let P : World → Type 0 = λ x. RunsReset m u x frame answer in subst P (sym is) r

end_sent : (old : PairState) (who : End) (g : EndState) (sent : List Sent) → the_end (with_sent (with_end old who g) sent) who ≡ g
end_sent old A g sent = refl
end_sent old B g sent = refl

hand_runs : (old new : PairState) (m : Made) (number index : ℕ) (reply : Answer) (n : HandsOver old number index reply new) → RunsReset m (the_end old (peer n.payload.sent.writer)).streams (the_end new (peer n.payload.sent.writer)).streams n.frame n.answer
hand_runs old new m number index reply n =
    let k = peer n.payload.sent.writer in
    let r = n.receives in
    let at : (the_end new (peer n.payload.sent.writer)).streams ≡ r.taken.streams = ap (λ (v : PairState). (the_end v (peer n.payload.sent.writer)).streams) n.is ∙ ap (λ (g : EndState). g.streams) (end_sent old (peer n.payload.sent.writer) n.end new.sent) ∙ ap (λ (g : EndState). g.streams) r.is ∙ answer_streams n.answer r.taken in
    runs_at m (the_end old k).streams (the_end new k).streams r.taken.streams n.frame n.answer at (runs_reset m (the_end old k).streams r.taken.streams n.frame n.answer r.call)

-- an answer by which a frame was accepted
accepted_by : (answer : Result ShouldTransmit ReceiveError) (reply : Answer) → ((reply ≡ Ok Done) ⊎ (reply ≡ Ok DoneTransmit)) → reply ≡ received_reply answer → (transmit : ShouldTransmit) × (answer ≡ Ok transmit)
accepted_by (Ok transmit) reply done e = (transmit, refl)
accepted_by (Err (receive_error.Transport error)) reply (inl d) e = let k = sym d ∙ e in cc
accepted_by (Err (receive_error.Transport error)) reply (inr d) e = let k = sym d ∙ e in cc
accepted_by (Err receive_error.CompactionMemory) reply (inl d) e = let k = sym d ∙ e in cc
accepted_by (Err receive_error.CompactionMemory) reply (inr d) e = let k = sym d ∙ e in cc
accepted_by (Err receive_error.OutOfMemory) reply (inl d) e = let k = sym d ∙ e in cc
accepted_by (Err receive_error.OutOfMemory) reply (inr d) e = let k = sym d ∙ e in cc

module _ (m : End → Made) (p : Past) (old new : PairState) (marks : AreMarkedSo p.accepted old.sent) (x : (who : End) → HeardAt (m who) p old.sent who (the_end old who).streams) where
  module _ (number index : ℕ) (reply : Answer) (done : (reply ≡ Ok Done) ⊎ (reply ≡ Ok DoneTransmit)) (n : HandsOver old number index reply new) (stay : StaySent old.sent new.sent) (q : Past) (accepts : q.accepted ≡ (number, index) ∷ p.accepted) where
    -- the frame is the one that was handed over
    frame_there : (from : End) (id code : ℕ) (r : SomeReset new.sent from id code q.accepted) → r.at ≡ (number, index) → (n.frame ≡ frames.ResetStream r.frame) × (n.payload.sent.writer ≡ from)
    frame_there from id code r e =
        let k = stay number n.payload.sent n.payload.is in
        let same : k.0 ≡ r.payload = same_Some k.0 r.payload (sym k.1 ∙ ap (λ (a : FramePlace). slice_get new.sent a.0) (sym e) ∙ r.is) in
        let bytes : r.payload.text.bytes ≡ n.payload.sent.text.bytes = sym (ap (λ (s : Sent). s.text.bytes) same) ∙ k.3 in
        let P : List ℕ → Type 0 = λ b. IsFrameAt b r.at.1 (frames.ResetStream r.frame) in
        let Q : FramePlace → Type 0 = λ a. IsFrameAt n.payload.sent.text.bytes a.1 (frames.ResetStream r.frame) in
        (frame-one n.payload.sent.text.bytes index n.frame (frames.ResetStream r.frame) n.at (subst Q e (subst P bytes r.there)), sym k.2 ∙ ap (λ (s : Sent). s.writer) same ∙ r.writer)

    before : (who : End) (k : Run (m who) (x who).calls (the_end new who).streams) (id code : ℕ) (r : SomeReset new.sent (peer who) id code q.accepted) → IsOneOf r.at p.accepted → WasResetIn k.calls id
    before who k id code r listed =
        let h = (x who).heard id code (reset_back old.sent new.sent (peer who) id code p.accepted q.accepted stay r listed (marks.marked r.at listed)) in
        (h.0, h.1, h.2, k.stays _ h.3)

    listed_so : (from : End) (id code : ℕ) (r : SomeReset new.sent from id code q.accepted) → (r.at ≡ (number, index)) ⊎ IsOneOf r.at p.accepted
    listed_so from id code r = let P : List FramePlace → Type 0 = λ l. IsOneOf r.at l in subst P accepts r.listed

    heard_there : HeardAt (m (peer n.payload.sent.writer)) q new.sent (peer n.payload.sent.writer) (the_end new (peer n.payload.sent.writer)).streams
    heard_there =
        let who = peer n.payload.sent.writer in
        let y = x (peer n.payload.sent.writer) in
        let k = hand_runs old new (m (peer n.payload.sent.writer)) number index reply n y.calls y.from y.plain in
        let a = accepted_by n.answer reply done n.reply_is in
        record {
          calls = k.0.calls;
          from = k.0.from;
          plain = k.0.plain;
          heard = λ id code r. elim (listed_so (peer (peer n.payload.sent.writer)) id code r) [
            | inl now ↦ (
                let f = frame_there (peer (peer n.payload.sent.writer)) id code r now in
                let P : ℕ → Type 0 = λ i. IsOneOf (ReceivedReset i r.frame.error_code r.frame.final_offset (Ok a.0)) k.0.calls in
                (r.frame.error_code, r.frame.final_offset, a.0, subst P r.on (k.1 r.frame a.0 f.0 a.1))
                )
            | inr listed ↦ before (peer n.payload.sent.writer) k.0 id code r listed
          ];
        }

    heard_beside : (k : (who : End) → Runs (m who) (the_end old who).streams (the_end new who).streams) (who : End) → who ≡ n.payload.sent.writer → HeardAt (m who) q new.sent who (the_end new who).streams
    heard_beside runs who is =
        let y = x who in
        let k = runs who y.calls y.from y.plain in
        record {
          calls = k.calls;
          from = k.from;
          plain = k.plain;
          heard = λ id code r. elim (listed_so (peer who) id code r) [
            | inl now ↦ (let f = frame_there (peer who) id code r now in absurd (peer-other who (is ∙ f.1)))
            | inr listed ↦ before who k id code r listed
          ];
        }

    heard_handed : (k : (who : End) → Runs (m who) (the_end old who).streams (the_end new who).streams) (who : End) → HeardAt (m who) q new.sent who (the_end new who).streams
    heard_handed runs who = by who n.payload.sent.writer refl heard_there
      where
        by : (who writer : End) → n.payload.sent.writer ≡ writer → HeardAt (m (peer n.payload.sent.writer)) q new.sent (peer n.payload.sent.writer) (the_end new (peer n.payload.sent.writer)).streams → HeardAt (m who) q new.sent who (the_end new who).streams
        by A A e h = heard_beside runs A (sym e)
        by B B e h = heard_beside runs B (sym e)
        by A B e h = let P : End → Type 0 = λ k. HeardAt (m (peer k)) q new.sent (peer k) (the_end new (peer k)).streams in subst P e h
        by B A e h = let P : End → Type 0 = λ k. HeardAt (m (peer k)) q new.sent (peer k) (the_end new (peer k)).streams in subst P e h

  -- ---- all steps

  heard_same : (step : Step) (reply : Answer) → (after p step reply).accepted ≡ p.accepted → StaySent old.sent new.sent → ((who : End) → Runs (m who) (the_end old who).streams (the_end new who).streams) → (who : End) → HeardAt (m who) (after p step reply) new.sent who (the_end new who).streams
  heard_same step reply same stay runs who = heard_on (m who) p (after p step reply) old.sent new.sent who (the_end old who).streams (the_end new who).streams marks stay same (runs who) (x who)

  heard_end : (step : Step) (reply : Answer) → IsOfNoPayload step → new.sent ≡ old.sent → NextOrdinary old step reply new → (who : End) → HeardAt (m who) (after p step reply) new.sent who (the_end new who).streams
  heard_end step reply k same n = heard_same step reply (beside p step reply k).accepted (subst (StaySent old.sent) (sym same) (stay-sent old.sent)) (step-runs old new m step reply n)

  pub heard-next : (step : Step) (reply : Answer) → NextOrdinary old step reply new → (who : End) → HeardAt (m who) (after p step reply) new.sent who (the_end new who).streams
  heard-next (steps.Open who dir) reply n = heard_end (steps.Open who dir) reply tt (sent_on_end old who new n) n
  heard-next (steps.Accept who dir) reply n = heard_end (steps.Accept who dir) reply tt (sent_on_end old who new n) n
  heard-next (steps.Write who id bytes) reply n = heard_end (steps.Write who id bytes) reply tt (sent_on_end old who new n) n
  heard-next (steps.WriteChunks who id chunks) reply n = heard_end (steps.WriteChunks who id chunks) reply tt (sent_on_end old who new n) n
  heard-next (steps.Finish who id) reply n = heard_end (steps.Finish who id) reply tt (sent_on_end old who new n) n
  heard-next (steps.Reset who id code) reply n = heard_end (steps.Reset who id code) reply tt (sent_on_end old who new n) n
  heard-next (steps.Stop who id code) reply n = heard_end (steps.Stop who id code) reply tt (sent_on_end old who new n) n
  heard-next (steps.SetPriority who id priority) reply n = heard_end (steps.SetPriority who id priority) reply tt (sent_on_end old who new n) n
  heard-next (steps.Read who id ordered most times) reply n = heard_end (steps.Read who id ordered most times) reply tt (sent_on_end old who new n) n
  heard-next (steps.ReceivedReset who id) reply n = heard_end (steps.ReceivedReset who id) reply tt (sent_on_end old who new n) n
  heard-next (steps.SetSendWindow who window) reply n = heard_end (steps.SetSendWindow who window) reply tt (sent_on_end old who new n) n
  heard-next (steps.SetReceiveWindow who window) reply n = heard_end (steps.SetReceiveWindow who window) reply tt (sent_on_end old who new n) n
  heard-next (steps.SetMaxConcurrent who dir count) reply n = heard_end (steps.SetMaxConcurrent who dir count) reply tt (sent_on_end old who new n) n
  heard-next (steps.Poll who) reply n = heard_end (steps.Poll who) reply tt (sent_on_end old who new n) n
  heard-next (steps.Emit who most fair) reply n = heard_same (steps.Emit who most fair) reply refl (stay-emitted old new who most fair reply (emitted-some old new who most fair reply n)) (step-runs old new m (steps.Emit who most fair) reply n)
  heard-next (steps.EmitPart who most fair part) reply n = heard_same (steps.EmitPart who most fair part) reply refl (stay-emitted old new who most fair reply (emitted-part old new who most fair part reply n)) (step-runs old new m (steps.EmitPart who most fair part) reply n)
  heard-next (steps.Deliver number index) (Ok Done) n = heard_handed number index (Ok Done) (inl refl) n (stay-delivered old new number index (Ok Done) n) (after p (steps.Deliver number index) (Ok Done)) refl (step-runs old new m (steps.Deliver number index) (Ok Done) n)
  heard-next (steps.Deliver number index) (Ok DoneTransmit) n = heard_handed number index (Ok DoneTransmit) (inr refl) n (stay-delivered old new number index (Ok DoneTransmit) n) (after p (steps.Deliver number index) (Ok DoneTransmit)) refl (step-runs old new m (steps.Deliver number index) (Ok DoneTransmit) n)
  heard-next (steps.Deliver number index) (Ok (Fault fault)) n = heard_same (steps.Deliver number index) (Ok (Fault fault)) refl (stay-delivered old new number index (Ok (Fault fault)) n) (step-runs old new m (steps.Deliver number index) (Ok (Fault fault)) n)
  heard-next (steps.Deliver number index) reply n = heard_same (steps.Deliver number index) reply refl (stay-delivered old new number index reply n) (step-runs old new m (steps.Deliver number index) reply n)
  heard-next (steps.Lose number) (Ok Done) n = heard_same (steps.Lose number) (Ok Done) refl (stay-reported old new Lost LosesPayloadAt number (Ok Done) n) (step-runs old new m (steps.Lose number) (Ok Done) n)
  heard-next (steps.Lose number) (Err NoMemory) n = heard_same (steps.Lose number) (Err NoMemory) refl (stay-reported old new Lost LosesPayloadAt number (Err NoMemory) n) (step-runs old new m (steps.Lose number) (Err NoMemory) n)
  heard-next (steps.Lose number) reply n = heard_same (steps.Lose number) reply refl (stay-reported old new Lost LosesPayloadAt number reply n) (step-runs old new m (steps.Lose number) reply n)
  heard-next (steps.Ack number) (Ok Done) n = heard_same (steps.Ack number) (Ok Done) refl (stay-reported old new Acknowledged AcksPayloadAt number (Ok Done) n) (step-runs old new m (steps.Ack number) (Ok Done) n)
  heard-next (steps.Ack number) (Err NoMemory) n = heard_same (steps.Ack number) (Err NoMemory) refl (stay-reported old new Acknowledged AcksPayloadAt number (Err NoMemory) n) (step-runs old new m (steps.Ack number) (Err NoMemory) n)
  heard-next (steps.Ack number) reply n = heard_same (steps.Ack number) reply refl (stay-reported old new Acknowledged AcksPayloadAt number reply n) (step-runs old new m (steps.Ack number) reply n)
  heard-next _ reply n = absurd n

-- ---- from the beginning of an era

heard_changed : {b : Origin} (m : End → Made) (p : Past) (old new : PairState) → AreMarkedSo p.accepted old.sent → ((who : End) → Runs (m who) (the_end old who).streams (the_end new who).streams) → ((who : End) → HeardAt (m who) p old.sent who (the_end old who).streams)
    → (step : Step) → Changes b p old new step → (who : End) → HeardAt (m who) (after p step (Ok Done)) new.sent who (the_end new who).streams
heard_changed m p old new marks runs x step (accepts k within few) who =
    let same : new.sent ≡ old.sent = ap (λ (v : PairState). v.sent) k.is in
    heard_on (m who) p p old.sent new.sent who (the_end old who).streams (the_end new who).streams marks (subst (StaySent old.sent) (sym same) (stay-sent old.sent)) refl (runs who) (x who)
heard_changed m p old new marks runs x step (retries k n did mine accepted kept) who =
    let a = x who in
    let r = runs who a.calls a.from a.plain in
    record { calls = r.calls; from = r.from; plain = r.plain; heard = λ q code reset. let P : List FramePlace → Type 0 = λ l. IsOneOf reset.at l in absurd (subst P accepted reset.listed) }

pub heard-from : {a b : Origin} {h : History} {v : PairState} (f : EraFrom a b h v) (who : End) → HeardAt (made_at a b who) (past_of h) v.sent who (the_end v who).streams
heard-from {a} {b} (begun n) who = let k = paid-from (begun n) who in record { calls = k.calls; from = k.from; plain = k.plain; heard = λ q code r. absurd r.listed }
heard-from {a} {b} (next {h} {old} {new} step reply f n) who =
    let Q : Past → Type 0 = λ p. HeardAt (made_at a b who) p new.sent who (the_end new who).streams in
    subst Q (sym (past-after h step reply)) (heard-next (made_at a b) (past_of h) old new (marks-from f) (λ k. heard-from f k) step reply n who)
heard-from {a} {b} (changed {h} {old} {new} step f c) who =
    let Q : Past → Type 0 = λ p. HeardAt (made_at a b who) p new.sent who (the_end new who).streams in
    subst Q (sym (past-after h step (Ok Done))) (heard_changed (made_at a b) (past_of h) old new (marks-from f) (λ k. changed-runs old new (made_at a b k) step c k) (λ k. heard-from f k) step c who)
