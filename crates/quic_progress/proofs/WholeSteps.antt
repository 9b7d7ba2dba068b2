-- Each step does so to both ends of a pair.
use Rattle.std.proofs.Common.{◌≡◌, ℕ, Bool, true, false, List, Result, Ok, Err, refl, sym, ap, ◌∙◌, subst, inl, inr}
use Rattle.quic_values.specs.declared.memory.OutOfMemory.{OutOfMemory}
use Rattle.quic_wire.specs.declared.error.ReceiveError.{ReceiveError}
use Rattle.quic_wire.specs.declared.error.ReceiveError.TheVariants as receive_error
use Rattle.quic_sending.specs.Source.{slice_lists}
use Rattle.quic_sending.specs.declared.errors.HandleError.{HandleError}
use Rattle.quic_sending.specs.declared.errors.HandleError.TheVariants as handle_error
use Rattle.quic_receiving.specs.declared.errors.ReadableError.{ReadableError}
use Rattle.quic_receiving.specs.declared.transmit.ShouldTransmit.{ShouldTransmit}
use Rattle.quic_history.specs.World.{Made}
use Rattle.quic_history.specs.Permitting.{acceptable}
use Rattle.quic_history.specs.SendEvents.{OpenedOwn, GaveLimits, SetWindow, WroteOwn, FinishedOwn, ResetOwn, SetOwnPriority, Polled}
use Rattle.quic_history.specs.History.{Began, Stopped as StoppedEvent, ToldReset, Resized, SetConcurrent, Accepted, Sending, SentAgain}
use Rattle.quic_streams.specs.declared.batches.ReadSome.{ReadSome}
use Rattle.quic_streams.specs.Sent.{sent_view, report_view}
use Rattle.quic_endpoint.specs.Ends.{EndState, StopsReading}
use Rattle.quic_endpoint.specs.Receiving.{with_answer_told}
use Rattle.quic_endpoint.specs.Reports.{LosesPayloadAt, AcksPayloadAt}
use Rattle.quic_steps.specs.declared.steps.End.{End}
use Rattle.quic_steps.specs.declared.steps.End.TheVariants.{A, B}
use Rattle.quic_steps.specs.declared.steps.Step.{Step as PairStep}
use Rattle.quic_steps.specs.declared.steps.Step.TheVariants as steps
use Rattle.quic_steps.specs.declared.steps.Reply.TheVariants.{Done, Payload}
use Rattle.quic_steps.specs.declared.steps.PairError.TheVariants.{NoSuchPayload, NoSuchFrame, NotAccepted, AlreadySettled, OutOfMemory as NoMemory}
use Rattle.quic_exchange.specs.Sent.{Sent}
use Rattle.quic_exchange.specs.declared.unsettled.Report.TheVariants.{Lost, Acknowledged}
use Rattle.quic_exchange.specs.Replies.{Answer, handled_reply}
use Rattle.quic_exchange.specs.State.{PairState, peer, the_end, with_end, with_sent}
use Rattle.quic_exchange.specs.Calls.{OnGiven, ReadsSo}
use Rattle.quic_exchange.specs.Steps.{NextOrdinary, HandsOver, Delivers, SettlesPayload}
use Rattle.quic_exchange.specs.History.{Past}
use Rattle.quic_exchange.proofs.Emissions.{EmitsSome, EmittedSome, emitted-some, emitted-part}
use Rattle.quic_exchange.proofs.Origins.{Origin}
use Rattle.quic_exchange.proofs.Eras.{Changes, accepts, retries}
use Rattle.quic_exchange.proofs.OwnDoings.{own-unacked}
use Rattle.quic_exchange.proofs.CallsSetting.{told-streams}
use Rattle.quic_progress.proofs.Whole.{Runs, RunsBy, by-call, by-at, runs-same, runs-at, runs-call, runs-reads, runs-emits, runs-lost, runs-acked, runs-frame}

pub answer_streams : (answer : Result ShouldTransmit ReceiveError) (e : EndState) → (with_answer_told answer e).streams ≡ e.streams
answer_streams (Ok transmit) e = refl
answer_streams (Err (receive_error.Transport error)) e = refl
answer_streams (Err receive_error.CompactionMemory) e = refl
answer_streams (Err receive_error.OutOfMemory) e = refl

module _ (old new : PairState) (m : End → Made) where
  abbrev Both : Type 0
  Both = (who : End) → Runs (m who) (the_end old who).streams (the_end new who).streams

  both_same : new ≡ old → Both
  both_same e who = let P : PairState → Type 0 = λ v. Runs (m who) (the_end old who).streams (the_end v who).streams in subst P (sym e) (runs-same (m who) (the_end old who).streams)

  with_one : (k : End) (g : EndState) → Runs (m k) (the_end old k).streams g.streams → (who : End) → Runs (m who) (the_end old who).streams (the_end (with_end old k g) who).streams
  with_one A g l A = l
  with_one A g l B = runs-same (m B) old.b.streams
  with_one B g l A = runs-same (m A) old.a.streams
  with_one B g l B = l

  with_more : (k : End) (g : EndState) (sent : List Sent) → Runs (m k) (the_end old k).streams g.streams → (who : End) → Runs (m who) (the_end old who).streams (the_end (with_sent (with_end old k g) sent) who).streams
  with_more A g sent l A = l
  with_more A g sent l B = runs-same (m B) old.b.streams
  with_more B g sent l A = runs-same (m A) old.a.streams
  with_more B g sent l B = l

  both_end : (k : End) (g : EndState) → new ≡ with_end old k g → Runs (m k) (the_end old k).streams g.streams → Both
  both_end k g e l who = let P : PairState → Type 0 = λ v. Runs (m who) (the_end old who).streams (the_end v who).streams in subst P (sym e) (with_one k g l who)

  both_sent : (k : End) (g : EndState) (sent : List Sent) → new ≡ with_sent (with_end old k g) sent → Runs (m k) (the_end old k).streams g.streams → Both
  both_sent k g sent e l who = let P : PairState → Type 0 = λ v. Runs (m who) (the_end old who).streams (the_end v who).streams in subst P (sym e) (with_more k g sent l who)

  given_so : (k : End) (e g : EndState) (id : ℕ) (reply : Answer) (Does : Type 0) → OnGiven e id reply g Does → (Does → Runs (m k) e.streams g.streams) → Runs (m k) e.streams g.streams
  given_so k e g id reply Does d known = elim d [ inl there ↦ known there.1 | inr none ↦ runs-at (m k) e.streams g.streams e.streams (ap (λ (x : EndState). x.streams) none.2) (runs-same (m k) e.streams) ]

  read_so : (k : End) (e g : EndState) (id : ℕ) (ordered : Bool) (most times : ℕ) → (answer : Result ReadSome ReadableError) → ReadsSo e id ordered most times answer g → Runs (m k) e.streams g.streams
  read_so k e g id ordered most times (Ok read) s =
      runs-at (m k) e.streams g.streams s.read.streams (ap (λ (x : EndState). x.streams) s.is)
      (runs-reads id most ordered (m k) times e.pending s.read.pending read.chunks.items read.last read.transmit.0 e.streams s.read.streams s.reads)
  read_so k e g id ordered most times (Err error) s =
      runs-at (m k) e.streams g.streams s.asked.streams (ap (λ (x : EndState). x.streams) s.is ∙ told-streams _ s.asked) (runs-call (m k) e.streams s.asked.streams (Began id ordered (Err error)) tt s.begins)

  handed_so : (number index : ℕ) (reply : Answer) → HandsOver old number index reply new → Both
  handed_so number index reply n =
      let k = peer n.payload.sent.writer in
      let r = n.receives in
      both_sent k n.end new.sent n.is
      (runs-at (m k) (the_end old k).streams n.end.streams r.taken.streams (ap (λ (x : EndState). x.streams) r.is ∙ answer_streams n.answer r.taken) (runs-frame (m k) (the_end old k).streams r.taken.streams n.frame n.answer r.call))

  delivered_so : (number index : ℕ) (reply : Answer) → Delivers old number index reply new → Both
  delivered_so number index (Err NoSuchPayload) n = both_same n.1
  delivered_so number index (Err NoSuchFrame) n = both_same n.is
  delivered_so number index (Err NoMemory) n = elim n [ inl same ↦ both_same same.1 | inr t ↦ handed_so number index (Err NoMemory) t ]
  delivered_so number index reply n = handed_so number index reply n

  loses_so : (number : ℕ) (reply : Answer) → SettlesPayload Lost LosesPayloadAt old number reply new → Both
  loses_so number (Ok Done) n = both_sent n.payload.sent.writer n.end _ n.is (runs-lost (m n.payload.sent.writer) _ _ _ _ (sent_view n.rest) (report_view n.answer) n.does)
  loses_so number (Err NoMemory) n = both_sent n.payload.sent.writer n.end _ n.is (runs-lost (m n.payload.sent.writer) _ _ _ _ (sent_view n.rest) (report_view n.answer) n.does)
  loses_so number (Err NoSuchPayload) n = both_same n.1
  loses_so number (Err AlreadySettled) n = both_same n.is
  loses_so number (Err NotAccepted) n = both_same n.is
  loses_so number _ n = absurd n

  acked_so : (k : End) (e f : EndState) (sent : _) (answer : _) → AcksPayloadAt e sent answer f → Runs (m k) e.streams f.streams
  acked_so k e f sent answer d = runs-at (m k) e.streams f.streams d.acked.streams (ap (λ (x : EndState). x.streams) d.is ∙ told-streams _ d.acked) (runs-acked (m k) e.streams d.acked.streams sent answer d.acks)

  acks_so : (number : ℕ) (reply : Answer) → SettlesPayload Acknowledged AcksPayloadAt old number reply new → Both
  acks_so number (Ok Done) n = both_sent n.payload.sent.writer n.end _ n.is (acked_so n.payload.sent.writer _ n.end (sent_view n.rest) (report_view n.answer) n.does)
  acks_so number (Err NoMemory) n = both_sent n.payload.sent.writer n.end _ n.is (acked_so n.payload.sent.writer _ n.end (sent_view n.rest) (report_view n.answer) n.does)
  acks_so number (Err NoSuchPayload) n = both_same n.1
  acks_so number (Err AlreadySettled) n = both_same n.is
  acks_so number (Err NotAccepted) n = both_same n.is
  acks_so number _ n = absurd n

  emits_so : (who : End) (most : ℕ) (fair : Bool) (answer : Result (Unit {0}) OutOfMemory) (payload : _) → EmitsSome old who most fair answer payload new → Both
  emits_so who most fair answer payload n = both_sent who n.end _ n.is (runs-emits (m who) n.emits)

  emitted_so : (who : End) (most : ℕ) (fair : Bool) (reply : Answer) → EmittedSome old who most fair reply new → Both
  emitted_so who most fair (Ok (Payload number bytes)) n = emits_so who most fair (Ok tt) n.payload n.emits
  emitted_so who most fair (Err NoMemory) n = elim n [ inl same ↦ both_same same | inr part ↦ emits_so who most fair part.answer part.payload part.emits ]
  emitted_so who most fair _ n = absurd n

  pub step-runs : (step : PairStep) (reply : Answer) → NextOrdinary old step reply new → Both
  step-runs (steps.Open who dir) reply n = both_end who n.end n.is (runs-call (m who) _ n.end.streams (Sending (OpenedOwn dir false n.does.answer)) tt n.does.opens.0)
  step-runs (steps.Accept who dir) reply n = both_end who n.end n.is (runs-call (m who) _ n.end.streams (Accepted dir (acceptable (the_end old who).streams dir)) tt (ap (λ (e : EndState). e.streams) n.does.is, refl))
  step-runs (steps.Write who id bytes) reply n = let e = the_end old who in
      both_end who n.end n.is (given_so who e n.end id reply _ n.does (λ d. runs-call (m who) e.streams n.end.streams (Sending (WroteOwn id (slice_lists bytes) false d.answer)) tt (e.pending, n.end.pending, d.writes.0, d.writes.1)))
  step-runs (steps.WriteChunks who id chunks) reply n = let e = the_end old who in
      both_end who n.end n.is (given_so who e n.end id reply _ n.does (λ k. elim k [
        | inl d ↦ runs-call (m who) e.streams n.end.streams (Sending (WroteOwn id chunks false d.answer)) tt (e.pending, n.end.pending, d.writes.0, d.writes.1)
        | inr none ↦ runs-at (m who) e.streams n.end.streams e.streams (ap (λ (x : EndState). x.streams) none.1) (runs-same (m who) e.streams)
      ]))
  step-runs (steps.Finish who id) reply n = let e = the_end old who in
      both_end who n.end n.is (given_so who e n.end id reply _ n.does (λ d. runs-call (m who) e.streams n.end.streams (Sending (FinishedOwn id d.answer)) tt d.finishes.0))
  step-runs (steps.Reset who id code) reply n = let e = the_end old who in
      both_end who n.end n.is (given_so who e n.end id reply _ n.does (λ d. runs-call (m who) e.streams n.end.streams (Sending (ResetOwn id code d.answer)) tt (e.pending, n.end.pending, d.resets)))
  step-runs (steps.Stop who id code) reply n = let e = the_end old who in
      both_end who n.end n.is (given_so who e n.end id reply _ n.does (λ d. let s = d.stops in
      runs-at (m who) e.streams n.end.streams s.stopped.streams (ap (λ (x : EndState). x.streams) s.is ∙ told-streams _ s.stopped) (runs-call (m who) e.streams s.stopped.streams (StoppedEvent id code d.answer) tt (e.pending, s.stopped.pending, s.stops))))
  step-runs (steps.SetPriority who id priority) reply n = let e = the_end old who in
      both_end who n.end n.is (given_so who e n.end id reply _ n.does (λ d. runs-call (m who) e.streams n.end.streams (Sending (SetOwnPriority id priority d.answer)) tt d.sets.0))
  step-runs (steps.Read who id ordered most times) reply n = let e = the_end old who in
      both_end who n.end n.is (given_so who e n.end id reply _ n.does (λ d. read_so who e n.end id ordered most times d.answer d.reads))
  step-runs (steps.ReceivedReset who id) reply n = let e = the_end old who in
      both_end who n.end n.is (given_so who e n.end id reply _ n.does (λ d. let s = d.tells in
      runs-at (m who) e.streams n.end.streams s.asked.streams (ap (λ (x : EndState). x.streams) s.is ∙ told-streams _ s.asked) (runs-call (m who) e.streams s.asked.streams (ToldReset id d.answer) tt (e.pending, s.asked.pending, s.tells))))
  step-runs (steps.SetSendWindow who window) reply n = both_end who n.end n.is (runs-call (m who) _ n.end.streams (Sending (SetWindow window)) tt (ap (λ (x : EndState). x.streams) n.does.1))
  step-runs (steps.SetReceiveWindow who window) reply n = both_end who n.end n.is (runs-call (m who) _ n.end.streams (Resized window n.does.larger) tt (ap (λ (x : EndState). x.streams) n.does.is, n.does.larger_is))
  step-runs (steps.SetMaxConcurrent who dir count) reply n = let e = the_end old who in let s = n.does.sets in
      both_end who n.end n.is (runs-at (m who) e.streams n.end.streams s.set.streams (ap (λ (x : EndState). x.streams) s.is ∙ told-streams _ s.set) (runs-call (m who) e.streams s.set.streams (SetConcurrent dir count n.does.answer) tt s.sets))
  step-runs (steps.Poll who) reply n = both_end who n.end n.is (runs-call (m who) _ n.end.streams (Sending (Polled n.does.event)) tt n.does.polls)
  step-runs (steps.Emit who most fair) reply n = emitted_so who most fair reply (emitted-some old new who most fair reply n)
  step-runs (steps.EmitPart who most fair part) reply n = emitted_so who most fair reply (emitted-part old new who most fair part reply n)
  step-runs (steps.Deliver number index) reply n = delivered_so number index reply n
  step-runs (steps.Lose number) reply n = loses_so number reply n
  step-runs (steps.Ack number) reply n = acks_so number reply n
  step-runs _ reply n = absurd n

-- ---- a stop is one of the calls

end_there : (old : PairState) (who : End) (g : EndState) → the_end (with_end old who g) who ≡ g
end_there old A g = refl
end_there old B g = refl

stopped_by : (m : Made) (e f : EndState) (id code : ℕ) (answer : Result (Unit {0}) HandleError) → ◌≡◌ {A = Answer} (Ok Done) (handled_reply answer) → StopsReading e id code answer f → RunsBy (StoppedEvent id code (Ok tt)) m e.streams f.streams
stopped_by m e f id code (Ok x) is s = by-at (StoppedEvent id code (Ok tt)) m e.streams f.streams s.stopped.streams (ap (λ (k : EndState). k.streams) s.is ∙ told-streams true s.stopped) (by-call m e.streams s.stopped.streams (StoppedEvent id code (Ok tt)) tt (e.pending, s.stopped.pending, s.stops))
stopped_by m e f id code (Err handle_error.ClosedStream) is s = cc
stopped_by m e f id code (Err handle_error.OutOfMemory) is s = cc

pub stop-runs : (old new : PairState) (m : Made) (who : End) (id code : ℕ) → NextOrdinary old (steps.Stop who id code) (Ok Done) new → RunsBy (StoppedEvent id code (Ok tt)) m (the_end old who).streams (the_end new who).streams
stop-runs old new m who id code n =
    let e = the_end old who in
    let at : (the_end new who).streams ≡ n.end.streams = ap (λ (v : PairState). (the_end v who).streams) n.is ∙ ap (λ (g : EndState). g.streams) (end_there old who n.end) in
    by-at (StoppedEvent id code (Ok tt)) m e.streams (the_end new who).streams n.end.streams at
    (elim n.does [
      | inl there ↦ stopped_by m e n.end id code there.1.answer there.1.reply_is there.1.stops
      | inr none ↦ (let k = none.1 in cc)
    ])

-- ---- the server accepts what the client sent early, or the client is to begin again

pub changed-runs : {b : Origin} {p : Past} (old new : PairState) (m : Made) (step : PairStep) → Changes b p old new step → (who : End) → Runs m (the_end old who).streams (the_end new who).streams
changed-runs old new m step (accepts k within few) A = runs-call m old.a.streams new.a.streams (Sending (GaveLimits k.limits.others (Ok tt))) tt (ap (λ (v : PairState). v.a.streams) k.is)
changed-runs old new m step (accepts k within few) B = runs-at m old.b.streams new.b.streams old.b.streams (ap (λ (v : PairState). v.b.streams) k.is) (runs-same m old.b.streams)
changed-runs old new m step (retries k n did mine accepted kept) A =
    let none = own-unacked n old.a.streams did in
    runs-at m old.a.streams new.a.streams k.streams (ap (λ (v : PairState). v.a.streams) k.is) (runs-call m old.a.streams k.streams (SentAgain (Ok tt)) tt (none, k.again none))
changed-runs old new m step (retries k n did mine accepted kept) B = runs-at m old.b.streams new.b.streams old.b.streams (ap (λ (v : PairState). v.b.streams) k.is) (runs-same m old.b.streams)
