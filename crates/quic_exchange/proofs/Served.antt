-- Which steps are refused, and that these leave a pair as it was.
use Rattle.std.proofs.Common.{◌≡◌, ℕ, ℤ, List, Bool, Option, Some, None, Result, Ok, Err, refl, sym, ap, ◌∙◌, subst, inl, inr}
use Rattle.quic_values.specs.declared.memory.OutOfMemory.{OutOfMemory}
use Rattle.quic_values.specs.declared.ids.Dir.{Dir}
use Rattle.quic_wire.specs.declared.event.StreamEvent.{StreamEvent}
use Rattle.quic_wire.specs.declared.error.ReceiveError.{ReceiveError}
use Rattle.quic_wire.specs.declared.error.ReceiveError.TheVariants as receive_error
use Rattle.quic_sending.specs.declared.send.Written.{Written}
use Rattle.quic_sending.specs.declared.send.WriteError.{WriteError}
use Rattle.quic_sending.specs.declared.send.WriteError.TheVariants as write_error
use Rattle.quic_sending.specs.declared.send.FinishError.{FinishError}
use Rattle.quic_sending.specs.declared.send.FinishError.TheVariants as finish_error
use Rattle.quic_sending.specs.declared.errors.HandleError.{HandleError}
use Rattle.quic_sending.specs.declared.errors.HandleError.TheVariants as handle_error
use Rattle.quic_receiving.specs.declared.errors.ReadableError.{ReadableError}
use Rattle.quic_receiving.specs.declared.errors.ReadableError.TheVariants as readable_error
use Rattle.quic_receiving.specs.declared.transmit.ShouldTransmit.{ShouldTransmit}
use Rattle.quic_history.specs.Permitting.{acceptable}
use Rattle.quic_streams.specs.declared.batches.ReadSome.{ReadSome}
use Rattle.quic_streams.specs.Settling.{SentView}
use Rattle.quic_endpoint.specs.Ends.{EndState}
use Rattle.quic_endpoint.specs.Reports.{LosesPayloadAt, AcksPayloadAt}
use Rattle.quic_steps.specs.declared.steps.End.{End}
use Rattle.quic_steps.specs.declared.steps.End.TheVariants.{A, B}
use Rattle.quic_steps.specs.declared.steps.Step.{Step}
use Rattle.quic_steps.specs.declared.steps.Step.TheVariants as steps
use Rattle.quic_steps.specs.declared.steps.Reply.TheVariants.{Done, Expanded, Payload}
use Rattle.quic_steps.specs.declared.steps.PairError.TheVariants.{NoSuchPayload, NoSuchFrame, NotAccepted, AlreadySettled, OutOfMemory as NoMemory}
use Rattle.quic_exchange.specs.declared.unsettled.Report.{Report}
use Rattle.quic_exchange.specs.declared.unsettled.Report.TheVariants.{Lost, Acknowledged}
use Rattle.quic_exchange.specs.Replies.{Answer, wants_memory, accepted_reply, opened_reply, unwritten_reply, written_reply, chunks_reply, unfinished_reply, finished_reply, unhandled_reply, handled_reply, code_reply, unread_reply, read_reply, event_reply, done_reply, received_reply}
use Rattle.quic_exchange.specs.State.{PairState, OnEnd, the_end, with_end}
use Rattle.quic_exchange.specs.Calls.{Opens, Accepts, OnGiven, Writes, WritesChunksOrNone, Finishes, ResetsOn, StopsOn, SetsPriorityOn, AsksReset, ReadsOn, SetsReceiveWindow, SetsMaxConcurrent, Polls}
use Rattle.quic_exchange.specs.Steps.{NextOrdinary, HandsOver, Delivers, SettlesPayload}
use Rattle.quic_exchange.specs.Refused.{IsRefused, IsTaken}
use Rattle.quic_exchange.proofs.Emissions.{EmittedSome, emitted-some, emitted-part}

-- ---- replies

served_at : (reply answer : Answer) → reply ≡ answer → IsTaken answer → IsTaken reply
served_at reply answer e s = subst IsTaken (sym e) s

served_accepted : (id : Option ℕ) → IsTaken (accepted_reply id)
served_accepted (Some id) = λ k. k
served_accepted None = λ k. k

served_opened : (answer : Result (Option ℕ) OutOfMemory) → IsTaken (opened_reply answer)
served_opened (Ok id) = served_accepted id
served_opened (Err error) = λ k. k

served_unwritten : (error : WriteError) → IsTaken (unwritten_reply error)
served_unwritten write_error.Blocked = λ k. k
served_unwritten (write_error.Stopped code) = λ k. k
served_unwritten write_error.ClosedStream = λ k. k
served_unwritten write_error.OutOfMemory = λ k. k

served_written : (answer : Result Written WriteError) → IsTaken (written_reply answer)
served_written (Ok written) = λ k. k
served_written (Err error) = served_unwritten error

served_chunks : (answer : Result Written WriteError) → IsTaken (chunks_reply answer)
served_chunks (Ok written) = λ k. k
served_chunks (Err error) = served_unwritten error

served_unfinished : (error : FinishError) → IsTaken (unfinished_reply error)
served_unfinished (finish_error.Stopped code) = λ k. k
served_unfinished finish_error.ClosedStream = λ k. k
served_unfinished finish_error.OutOfMemory = λ k. k

served_finished : (answer : Result (Unit {0}) FinishError) → IsTaken (finished_reply answer)
served_finished (Ok done) = λ k. k
served_finished (Err error) = served_unfinished error

served_unhandled : (error : HandleError) → IsTaken (unhandled_reply error)
served_unhandled handle_error.ClosedStream = λ k. k
served_unhandled handle_error.OutOfMemory = λ k. k

served_handled : (answer : Result (Unit {0}) HandleError) → IsTaken (handled_reply answer)
served_handled (Ok done) = λ k. k
served_handled (Err error) = served_unhandled error

served_code : (answer : Result (Option ℕ) HandleError) → IsTaken (code_reply answer)
served_code (Ok (Some code)) = λ k. k
served_code (Ok None) = λ k. k
served_code (Err error) = served_unhandled error

served_unread : (error : ReadableError) → IsTaken (unread_reply error)
served_unread readable_error.ClosedStream = λ k. k
served_unread readable_error.IllegalOrderedRead = λ k. k
served_unread readable_error.OutOfMemory = λ k. k

served_read : (answer : Result ReadSome ReadableError) → IsTaken (read_reply answer)
served_read (Ok read) = λ k. k
served_read (Err error) = served_unread error

served_event : (event : Option StreamEvent) → IsTaken (event_reply event)
served_event (Some event) = λ k. k
served_event None = λ k. k

pub served-done : (answer : Result (Unit {0}) OutOfMemory) → IsTaken (done_reply answer)
served-done (Ok done) = λ k. k
served-done (Err error) = λ k. k

pub served-received : (answer : Result ShouldTransmit ReceiveError) → IsTaken (received_reply answer)
served-received (Ok transmit) = λ k. k
served-received (Err (receive_error.Transport error)) = λ k. k
served-received (Err receive_error.CompactionMemory) = λ k. k
served-received (Err receive_error.OutOfMemory) = λ k. k

-- ---- calls

pub served-set : (reply : Answer) → reply ≡ Ok Done → IsTaken reply
served-set reply is = served_at reply (Ok Done) is (λ h. h)

module _ {e f : EndState} {reply : Answer} where
  pub served-opens : {dir : Dir} → Opens e dir reply f → IsTaken reply
  served-opens o = served_at reply (opened_reply o.answer) o.reply_is (served_opened o.answer)

  pub served-accepts : {dir : Dir} → Accepts e dir reply f → IsTaken reply
  served-accepts {dir} o = served_at reply (accepted_reply (acceptable e.streams dir)) o.reply_is (served_accepted (acceptable e.streams dir))

  pub served-writes : {id : ℕ} {lists : List (List ℕ)} → Writes e id lists reply f → IsTaken reply
  served-writes o = served_at reply (written_reply o.answer) o.reply_is (served_written o.answer)

  pub served-chunks : {id : ℕ} {lists : List (List ℕ)} → WritesChunksOrNone e id lists reply f → IsTaken reply
  served-chunks o = elim o [
    | inl k ↦ served_at reply (chunks_reply k.answer) k.reply_is (served_chunks k.answer)
    | inr k ↦ served_at reply wants_memory k.0 (λ h. h)
  ]

  pub served-finishes : {id : ℕ} → Finishes e id reply f → IsTaken reply
  served-finishes o = served_at reply (finished_reply o.answer) o.reply_is (served_finished o.answer)

  pub served-resets : {id code : ℕ} → ResetsOn e id code reply f → IsTaken reply
  served-resets o = served_at reply (handled_reply o.answer) o.reply_is (served_handled o.answer)

  pub served-stops : {id code : ℕ} → StopsOn e id code reply f → IsTaken reply
  served-stops o = served_at reply (handled_reply o.answer) o.reply_is (served_handled o.answer)

  pub served-priority : {id : ℕ} {priority : ℤ} → SetsPriorityOn e id priority reply f → IsTaken reply
  served-priority o = served_at reply (handled_reply o.answer) o.reply_is (served_handled o.answer)

  pub served-asks : {id : ℕ} → AsksReset e id reply f → IsTaken reply
  served-asks o = served_at reply (code_reply o.answer) o.reply_is (served_code o.answer)

  pub served-reads : {id : ℕ} {ordered : Bool} {most times : ℕ} → ReadsOn e id ordered most times reply f → IsTaken reply
  served-reads o = served_at reply (read_reply o.answer) o.reply_is (served_read o.answer)

  pub served-receive-window : {window : ℕ} → SetsReceiveWindow e window reply f → IsTaken reply
  served-receive-window o = served_at reply (Ok (Expanded o.larger)) o.reply_is (λ h. h)

  pub served-max-concurrent : {dir : Dir} {count : ℕ} → SetsMaxConcurrent e dir count reply f → IsTaken reply
  served-max-concurrent o = served_at reply (done_reply o.answer) o.reply_is (served-done o.answer)

  pub served-polls : Polls e reply f → IsTaken reply
  served-polls o = served_at reply (event_reply o.event) o.reply_is (served_event o.event)

pub served-emitted : (old new : PairState) (who : End) (most : ℕ) (fair : Bool) (reply : Answer) → EmittedSome old who most fair reply new → IsTaken reply
served-emitted old new who most fair (Ok (Payload number bytes)) k = λ h. h
served-emitted old new who most fair (Err NoMemory) k = λ h. h
served-emitted old new who most fair _ k = absurd k

module _ {old new : PairState} where
  pub served-hands : {number index : ℕ} (reply : Answer) → HandsOver old number index reply new → IsTaken reply
  served-hands reply k = served_at reply (received_reply k.answer) k.reply_is (served-received k.answer)

-- ---- a step that is refused leaves the pair as it was

end_kept : (v : PairState) (who : End) → with_end v who (the_end v who) ≡ v
end_kept v A = refl
end_kept v B = refl

module _ (old new : PairState) (reply : Answer) (refused : IsRefused reply) where
  -- one on a stream that its end was not given
  unknown_stays : {Does : EndState → EndState → Type 0} (who : End) (id : ℕ) → OnEnd (λ e f. OnGiven e id reply f (Does e f)) old who new → ((e f : EndState) → Does e f → IsTaken reply) → new ≡ old
  unknown_stays who id d served = elim d.does [
    | inl k ↦ absurd (served (the_end old who) d.end k.1 refused)
    | inr k ↦ d.is ∙ ap (with_end old who) k.2 ∙ end_kept old who
  ]

  -- any other on an end is not refused
  served_stays : {Does : EndState → EndState → Type 0} (who : End) → OnEnd Does old who new → ((e f : EndState) → Does e f → IsTaken reply) → new ≡ old
  served_stays who d served = absurd (served (the_end old who) d.end d.does refused)

module _ (old new : PairState) where
  delivers_stay : (number index : ℕ) (reply : Answer) → IsRefused reply → Delivers old number index reply new → new ≡ old
  delivers_stay number index (Err NoSuchPayload) r k = k.1
  delivers_stay number index (Err NoSuchFrame) r k = k.is
  delivers_stay number index (Err NoMemory) r k = absurd r
  delivers_stay number index reply r k = absurd (served-hands reply k r)

  settles_stay : (number : ℕ) (kind : Report) (At : EndState → SentView → Result (Unit {0}) SentView → EndState → Type 0) (reply : Answer) → IsRefused reply → SettlesPayload kind At old number reply new → new ≡ old
  settles_stay number kind At (Ok Done) r k = absurd r
  settles_stay number kind At (Err NoMemory) r k = absurd r
  settles_stay number kind At (Err NoSuchPayload) r k = k.1
  settles_stay number kind At (Err AlreadySettled) r k = k.is
  settles_stay number kind At (Err NotAccepted) r k = k.is
  settles_stay number kind At _ r k = absurd k

  pub refused-stays : (step : Step) (reply : Answer) → NextOrdinary old step reply new → IsRefused reply → new ≡ old
  refused-stays (steps.Open who dir) reply n r = served_stays old new reply r who n (λ e f k. served-opens k)
  refused-stays (steps.Accept who dir) reply n r = served_stays old new reply r who n (λ e f k. served-accepts k)
  refused-stays (steps.Write who id bytes) reply n r = unknown_stays old new reply r who id n (λ e f k. served-writes k)
  refused-stays (steps.WriteChunks who id chunks) reply n r = unknown_stays old new reply r who id n (λ e f k. served-chunks k)
  refused-stays (steps.Finish who id) reply n r = unknown_stays old new reply r who id n (λ e f k. served-finishes k)
  refused-stays (steps.Reset who id code) reply n r = unknown_stays old new reply r who id n (λ e f k. served-resets k)
  refused-stays (steps.Stop who id code) reply n r = unknown_stays old new reply r who id n (λ e f k. served-stops k)
  refused-stays (steps.SetPriority who id priority) reply n r = unknown_stays old new reply r who id n (λ e f k. served-priority k)
  refused-stays (steps.Read who id ordered most times) reply n r = unknown_stays old new reply r who id n (λ e f k. served-reads k)
  refused-stays (steps.ReceivedReset who id) reply n r = unknown_stays old new reply r who id n (λ e f k. served-asks k)
  refused-stays (steps.SetSendWindow who window) reply n r = served_stays old new reply r who n (λ e f k. served-set reply k.0)
  refused-stays (steps.SetReceiveWindow who window) reply n r = served_stays old new reply r who n (λ e f k. served-receive-window k)
  refused-stays (steps.SetMaxConcurrent who dir count) reply n r = served_stays old new reply r who n (λ e f k. served-max-concurrent k)
  refused-stays (steps.Poll who) reply n r = served_stays old new reply r who n (λ e f k. served-polls k)
  refused-stays (steps.Emit who most fair) reply n r = absurd (served-emitted old new who most fair reply (emitted-some old new who most fair reply n) r)
  refused-stays (steps.EmitPart who most fair part) reply n r = absurd (served-emitted old new who most fair reply (emitted-part old new who most fair part reply n) r)
  refused-stays (steps.Deliver number index) reply n r = delivers_stay number index reply r n
  refused-stays (steps.Lose number) reply n r = settles_stay number Lost LosesPayloadAt reply r n
  refused-stays (steps.Ack number) reply n r = settles_stay number Acknowledged AcksPayloadAt reply r n
  refused-stays _ reply n r = absurd n
