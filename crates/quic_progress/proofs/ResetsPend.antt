-- Each step but a payload that is written leaves the resets that are pending.
use Rattle.std.proofs.Common.{◌≡◌, ℕ, Bool, true, false, List, [], ◌∷◌, Option, Some, None, Result, Ok, Err, sym, ap, subst, inl, inr}
use Rattle.std.specs.Prelude.{◌||◌, is_ok, if◌then◌else◌}
use Rattle.quic_wire.specs.declared.error.ReceiveError.{ReceiveError}
use Rattle.quic_wire.specs.declared.error.ReceiveError.TheVariants as receive_error
use Rattle.quic_sending.specs.Source.{slice_lists}
use Rattle.quic_sending.specs.declared.send.Send.{Send}
use Rattle.quic_sending.specs.declared.send.Written.{Written}
use Rattle.quic_sending.specs.declared.send.WriteError.{WriteError}
use Rattle.quic_sending.specs.declared.send.WriteError.TheVariants as write_error
use Rattle.quic_sending.specs.declared.errors.HandleError.{HandleError}
use Rattle.quic_sending.specs.declared.errors.HandleError.TheVariants as handle_error
use Rattle.quic_receiving.specs.declared.errors.ReadableError.{ReadableError}
use Rattle.quic_receiving.specs.declared.transmit.ShouldTransmit.{ShouldTransmit}
use Rattle.quic_outgoing.specs.Outgoing.{Outgoing, is_stuck}
use Rattle.quic_outgoing.specs.Writing.{RefusesWrite, told_blocked, is_limit_news}
use Rattle.quic_limits.specs.SendingCredit.{is_blocked_due}
use Rattle.quic_retransmits.specs.Queueing.{with_id}
use Rattle.quic_retransmits.specs.Pending.{Pending, merged_if}
use Rattle.quic_history.specs.World.{World}
use Rattle.quic_history.specs.Writes.{WritesOwn}
use Rattle.quic_history.specs.Reading.{Stops, TellsReset}
use Rattle.quic_streams.specs.declared.batches.ReadSome.{ReadSome}
use Rattle.quic_streams.specs.Settling.{SentView, LosesWhole}
use Rattle.quic_streams.specs.Sent.{sent_view, report_view}
use Rattle.quic_link.specs.Endpoints.{IsOneOf}
use Rattle.quic_endpoint.specs.Ends.{EndState, ResetsAt, is_handled, not_for_memory, with_counts_told_if}
use Rattle.quic_endpoint.specs.Receiving.{with_answer_told}
use Rattle.quic_endpoint.specs.Reports.{LosesPayloadAt, AcksPayloadAt}
use Rattle.quic_steps.specs.declared.steps.End.{End}
use Rattle.quic_steps.specs.declared.steps.End.TheVariants.{A, B}
use Rattle.quic_steps.specs.declared.steps.Step.{Step as PairStep}
use Rattle.quic_steps.specs.declared.steps.Step.TheVariants as steps
use Rattle.quic_steps.specs.declared.steps.Reply.TheVariants.{Done}
use Rattle.quic_steps.specs.declared.steps.PairError.TheVariants.{NoSuchPayload, NoSuchFrame, NotAccepted, AlreadySettled, OutOfMemory as NoMemory}
use Rattle.quic_exchange.specs.Sent.{Sent}
use Rattle.quic_exchange.specs.declared.unsettled.Report.TheVariants.{Lost, Acknowledged}
use Rattle.quic_exchange.specs.Replies.{Answer}
use Rattle.quic_exchange.specs.State.{PairState, peer, the_end, with_end, with_sent}
use Rattle.quic_exchange.specs.Calls.{OnGiven, ReadsSo}
use Rattle.quic_exchange.specs.Steps.{NextOrdinary, HandsOver, Delivers, SettlesPayload}
use Rattle.quic_exchange.proofs.Lists.{one-of-first}
use Rattle.quic_progress.proofs.Ends.{WritesNone}

abbrev pub KeepsResets : Pending → Pending → Type 0
KeepsResets p q = (x : ℕ × ℕ) → IsOneOf x p.reset_stream → IsOneOf x q.reset_stream

keeps_same : (p q : Pending) → q ≡ p → KeepsResets p q
keeps_same p q e x i = let P : Pending → Type 0 = λ r. IsOneOf x r.reset_stream in subst P (sym e) i

keeps_at : (p q r : Pending) → q ≡ r → KeepsResets p r → KeepsResets p q
keeps_at p q r e k = let P : Pending → Type 0 = λ y. KeepsResets p y in subst P (sym e) k

blocked_keeps : (u : Outgoing) (id : ℕ) (p : Pending) (o : Option Send) → KeepsResets p (told_blocked u id o p)
blocked_keeps u id p None x i = i
blocked_keeps u id p (Some s) x i = by (is_stuck u)
  where
    by : (b : Bool) → IsOneOf x (if b then record p { data_blocked = p.data_blocked || is_blocked_due u.budget } else record p { stream_data_blocked = with_id p.stream_data_blocked id (is_limit_news s) }).reset_stream
    by true = i
    by false = i

refused_keeps : (u : Outgoing) (id : ℕ) (p : Pending) (e : WriteError) (v : Outgoing) (q : Pending) → RefusesWrite u id p e v q → KeepsResets p q
refused_keeps u id p write_error.Blocked v q r = keeps_at p q (told_blocked u id (u.halves id) p) r.2 (blocked_keeps u id p (u.halves id))
refused_keeps u id p (write_error.Stopped code) v q r = keeps_same p q r.2
refused_keeps u id p write_error.ClosedStream v q r = keeps_same p q r.2
refused_keeps u id p write_error.OutOfMemory v q r = keeps_same p q r.1

writes_keeps : (u : World) (id : ℕ) (lists : List (List ℕ)) (p : Pending) (answer : Result Written WriteError) (v : World) (left : List (List ℕ)) (q : Pending) → WritesOwn u id lists false p answer v left q → KeepsResets p q
writes_keeps u id lists p (Ok written) v left q d = keeps_same p q d.3.1
writes_keeps u id lists p (Err e) v left q d = elim d [ inl closed ↦ keeps_same p q closed.4 | inr k ↦ refused_keeps u.out id p e k.1 q k.2.1 ]

resets_keeps : (e f : EndState) (id code : ℕ) (answer : Result (Unit {0}) HandleError) → ResetsAt e id code answer f → KeepsResets e.pending f.pending
resets_keeps e f id code (Ok x) d = λ y i. let P : Pending → Type 0 = λ r. IsOneOf y r.reset_stream in subst P (sym d.1.4) (one-of-first y e.pending.reset_stream ((id, code) ∷ []) i)
resets_keeps e f id code (Err handle_error.ClosedStream) d = keeps_same e.pending f.pending d.1.2
resets_keeps e f id code (Err handle_error.OutOfMemory) d = keeps_same e.pending f.pending d.1.1

stops_keeps : (u : World) (id code : ℕ) (p : Pending) (answer : Result (Unit {0}) HandleError) (v : World) (q : Pending) → Stops u id code p answer v q → KeepsResets p q
stops_keeps u id code p (Ok x) v q d = keeps_at p q _ d.7 (λ y i. i)
stops_keeps u id code p (Err handle_error.ClosedStream) v q d = keeps_same p q d.2
stops_keeps u id code p (Err handle_error.OutOfMemory) v q d = keeps_same p q d.1

tells_keeps : (u : World) (id : ℕ) (p : Pending) (answer : Result (Option ℕ) HandleError) (v : World) (q : Pending) → TellsReset u id p answer v q → KeepsResets p q
tells_keeps u id p (Ok (Some code)) v q d = keeps_at p q _ d.5 (λ y i. i)
tells_keeps u id p (Ok None) v q d = keeps_same p q d.5
tells_keeps u id p (Err handle_error.ClosedStream) v q d = keeps_same p q d.2
tells_keeps u id p (Err handle_error.OutOfMemory) v q d = keeps_same p q d.4

pub merged-keeps : (p : Pending) (o : Option Pending) → KeepsResets p (merged_if p o)
merged-keeps p None x i = i
merged-keeps p (Some b) x i = one-of-first x p.reset_stream b.reset_stream i

lost_keeps : (u v : World) (p q : Pending) (sent : SentView) (answer : Result (Unit {0}) SentView) → LosesWhole u p sent answer v q → KeepsResets p q
lost_keeps u v p q sent (Ok x) d = keeps_at p q _ d.1 (merged-keeps p sent.control)
lost_keeps u v p q sent (Err back) d = keeps_same p q d.1

counts_keep : (b : Bool) (e f : EndState) → KeepsResets e.pending f.pending → KeepsResets e.pending (with_counts_told_if b f).pending
counts_keep true e f k = k
counts_keep false e f k = k

answer_keeps : (answer : Result ShouldTransmit ReceiveError) (e f : EndState) → KeepsResets e.pending f.pending → KeepsResets e.pending (with_answer_told answer f).pending
answer_keeps (Ok transmit) e f k = k
answer_keeps (Err (receive_error.Transport error)) e f k = k
answer_keeps (Err receive_error.CompactionMemory) e f k = k
answer_keeps (Err receive_error.OutOfMemory) e f k = k

end_keeps : (e f g : EndState) → f ≡ g → KeepsResets e.pending g.pending → KeepsResets e.pending f.pending
end_keeps e f g is k = let P : EndState → Type 0 = λ y. KeepsResets e.pending y.pending in subst P (sym is) k

-- ---- steps

module _ (old new : PairState) where
  abbrev Both : Type 0
  Both = (who : End) → KeepsResets (the_end old who).pending (the_end new who).pending

  both_same : new ≡ old → Both
  both_same e who = let P : PairState → Type 0 = λ v. KeepsResets (the_end old who).pending (the_end v who).pending in subst P (sym e) (λ x i. i)

  with_one : (k : End) (g : EndState) → KeepsResets (the_end old k).pending g.pending → (who : End) → KeepsResets (the_end old who).pending (the_end (with_end old k g) who).pending
  with_one A g l A = l
  with_one A g l B = λ x i. i
  with_one B g l A = λ x i. i
  with_one B g l B = l

  with_more : (k : End) (g : EndState) (sent : List Sent) → KeepsResets (the_end old k).pending g.pending → (who : End) → KeepsResets (the_end old who).pending (the_end (with_sent (with_end old k g) sent) who).pending
  with_more A g sent l A = l
  with_more A g sent l B = λ x i. i
  with_more B g sent l A = λ x i. i
  with_more B g sent l B = l

  both_end : (k : End) (g : EndState) → new ≡ with_end old k g → KeepsResets (the_end old k).pending g.pending → Both
  both_end k g e l who = let P : PairState → Type 0 = λ v. KeepsResets (the_end old who).pending (the_end v who).pending in subst P (sym e) (with_one k g l who)

  both_sent : (k : End) (g : EndState) (sent : List Sent) → new ≡ with_sent (with_end old k g) sent → KeepsResets (the_end old k).pending g.pending → Both
  both_sent k g sent e l who = let P : PairState → Type 0 = λ v. KeepsResets (the_end old who).pending (the_end v who).pending in subst P (sym e) (with_more k g sent l who)

  given_so : (e g : EndState) (id : ℕ) (reply : Answer) (Does : Type 0) → OnGiven e id reply g Does → (Does → KeepsResets e.pending g.pending) → KeepsResets e.pending g.pending
  given_so e g id reply Does d known = elim d [ inl there ↦ known there.1 | inr none ↦ keeps_same e.pending g.pending (ap (λ (x : EndState). x.pending) none.2) ]

  read_so : (e g : EndState) (id : ℕ) (ordered : Bool) (most times : ℕ) → (answer : Result ReadSome ReadableError) → ReadsSo e id ordered most times answer g → KeepsResets e.pending g.pending
  read_so e g id ordered most times (Ok read) s = end_keeps e g _ s.is (keeps_at e.pending s.read.pending _ s.reads.pending (λ x i. i))
  read_so e g id ordered most times (Err error) s = end_keeps e g _ s.is (counts_keep (not_for_memory error) e s.asked (keeps_same e.pending s.asked.pending s.pending))

  handed_so : (number index : ℕ) (reply : Answer) → HandsOver old number index reply new → Both
  handed_so number index reply n =
      let k = peer n.payload.sent.writer in
      let r = n.receives in
      both_sent k n.end new.sent n.is (end_keeps (the_end old k) n.end _ r.is (answer_keeps n.answer (the_end old k) r.taken (keeps_same (the_end old k).pending r.taken.pending r.pending)))

  delivered_so : (number index : ℕ) (reply : Answer) → Delivers old number index reply new → Both
  delivered_so number index (Err NoSuchPayload) n = both_same n.1
  delivered_so number index (Err NoSuchFrame) n = both_same n.is
  delivered_so number index (Err NoMemory) n = elim n [ inl same ↦ both_same same.1 | inr t ↦ handed_so number index (Err NoMemory) t ]
  delivered_so number index reply n = handed_so number index reply n

  loses_so : (number : ℕ) (reply : Answer) → SettlesPayload Lost LosesPayloadAt old number reply new → Both
  loses_so number (Ok Done) n = both_sent n.payload.sent.writer n.end _ n.is (lost_keeps _ _ _ _ (sent_view n.rest) (report_view n.answer) n.does)
  loses_so number (Err NoMemory) n = both_sent n.payload.sent.writer n.end _ n.is (lost_keeps _ _ _ _ (sent_view n.rest) (report_view n.answer) n.does)
  loses_so number (Err NoSuchPayload) n = both_same n.1
  loses_so number (Err AlreadySettled) n = both_same n.is
  loses_so number (Err NotAccepted) n = both_same n.is
  loses_so number _ n = absurd n

  acked_so : (e f : EndState) (sent : SentView) (answer : Result (Unit {0}) SentView) → AcksPayloadAt e sent answer f → KeepsResets e.pending f.pending
  acked_so e f sent answer d = end_keeps e f _ d.is (counts_keep (is_ok answer) e d.acked (keeps_same e.pending d.acked.pending d.pending))

  acks_so : (number : ℕ) (reply : Answer) → SettlesPayload Acknowledged AcksPayloadAt old number reply new → Both
  acks_so number (Ok Done) n = both_sent n.payload.sent.writer n.end _ n.is (acked_so _ n.end (sent_view n.rest) (report_view n.answer) n.does)
  acks_so number (Err NoMemory) n = both_sent n.payload.sent.writer n.end _ n.is (acked_so _ n.end (sent_view n.rest) (report_view n.answer) n.does)
  acks_so number (Err NoSuchPayload) n = both_same n.1
  acks_so number (Err AlreadySettled) n = both_same n.is
  acks_so number (Err NotAccepted) n = both_same n.is
  acks_so number _ n = absurd n

  pub step-keeps : (step : PairStep) (reply : Answer) → WritesNone step → NextOrdinary old step reply new → Both
  step-keeps (steps.Open who dir) reply w n = both_end who n.end n.is (keeps_same _ _ n.does.opens.1)
  step-keeps (steps.Accept who dir) reply w n = both_end who n.end n.is (keeps_same _ _ (ap (λ (e : EndState). e.pending) n.does.is))
  step-keeps (steps.Write who id bytes) reply w n = let e = the_end old who in
      both_end who n.end n.is (given_so e n.end id reply _ n.does (λ d. writes_keeps e.streams id (slice_lists bytes) e.pending d.answer n.end.streams d.writes.0 n.end.pending d.writes.1))
  step-keeps (steps.WriteChunks who id chunks) reply w n = let e = the_end old who in
      both_end who n.end n.is (given_so e n.end id reply _ n.does (λ k. elim k [
        | inl d ↦ writes_keeps e.streams id chunks e.pending d.answer n.end.streams d.writes.0 n.end.pending d.writes.1
        | inr none ↦ keeps_same e.pending n.end.pending (ap (λ (x : EndState). x.pending) none.1)
      ]))
  step-keeps (steps.Finish who id) reply w n = let e = the_end old who in both_end who n.end n.is (given_so e n.end id reply _ n.does (λ d. keeps_same _ _ d.finishes.1))
  step-keeps (steps.Reset who id code) reply w n = let e = the_end old who in both_end who n.end n.is (given_so e n.end id reply _ n.does (λ d. resets_keeps e n.end id code d.answer d.resets))
  step-keeps (steps.Stop who id code) reply w n = let e = the_end old who in
      both_end who n.end n.is (given_so e n.end id reply _ n.does (λ d. let s = d.stops in
      end_keeps e n.end _ s.is (counts_keep (is_handled d.answer) e s.stopped (stops_keeps e.streams id code e.pending d.answer s.stopped.streams s.stopped.pending s.stops))))
  step-keeps (steps.SetPriority who id priority) reply w n = let e = the_end old who in both_end who n.end n.is (given_so e n.end id reply _ n.does (λ d. keeps_same _ _ d.sets.1))
  step-keeps (steps.Read who id ordered most times) reply w n = let e = the_end old who in both_end who n.end n.is (given_so e n.end id reply _ n.does (λ d. read_so e n.end id ordered most times d.answer d.reads))
  step-keeps (steps.ReceivedReset who id) reply w n = let e = the_end old who in
      both_end who n.end n.is (given_so e n.end id reply _ n.does (λ d. let s = d.tells in
      end_keeps e n.end _ s.is (counts_keep (is_handled d.answer) e s.asked (tells_keeps e.streams id e.pending d.answer s.asked.streams s.asked.pending s.tells))))
  step-keeps (steps.SetSendWindow who window) reply w n = both_end who n.end n.is (keeps_same _ _ (ap (λ (x : EndState). x.pending) n.does.1))
  step-keeps (steps.SetReceiveWindow who window) reply w n = both_end who n.end n.is (end_keeps (the_end old who) n.end _ n.does.is (λ x i. i))
  step-keeps (steps.SetMaxConcurrent who dir count) reply w n = let e = the_end old who in let s = n.does.sets in
      both_end who n.end n.is (end_keeps e n.end _ s.is (counts_keep (is_ok n.does.answer) e s.set (keeps_same _ _ s.pending)))
  step-keeps (steps.Poll who) reply w n = both_end who n.end n.is (keeps_same _ _ n.does.pending)
  step-keeps (steps.Emit who most fair) reply w n = absurd w
  step-keeps (steps.EmitPart who most fair part) reply w n = absurd w
  step-keeps (steps.Deliver number index) reply w n = delivered_so number index reply n
  step-keeps (steps.Lose number) reply w n = loses_so number reply n
  step-keeps (steps.Ack number) reply w n = acks_so number reply n
  step-keeps _ reply w n = absurd n
