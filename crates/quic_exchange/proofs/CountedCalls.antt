-- What steps of an application tell of what its end sends.
use Rattle.std.proofs.Common.{◌≡◌, ℕ, Bool, true, false, List, [], ◌∷◌, Option, Some, None, Result, Ok, Err, refl, sym, ap, ◌∙◌, subst, inl, inr, arith}
use Rattle.std.specs.Prelude.{ℤ, ◌+◌, is_ok}
use Rattle.quic_values.specs.declared.memory.OutOfMemory.{OutOfMemory}
use Rattle.quic_values.specs.declared.ids.Dir.{Dir}
use Rattle.quic_wire.specs.declared.event.StreamEvent.{StreamEvent}
use Rattle.quic_assembler.specs.declared.chunk.Chunk.{Chunk}
use Rattle.quic_sending.specs.Source.{slice_lists}
use Rattle.quic_sending.specs.declared.send.Written.{Written}
use Rattle.quic_sending.specs.declared.send.WriteError.{WriteError}
use Rattle.quic_sending.specs.declared.send.WriteError.TheVariants as write_error
use Rattle.quic_sending.specs.declared.send.FinishError.{FinishError}
use Rattle.quic_sending.specs.declared.send.FinishError.TheVariants as finish_error
use Rattle.quic_sending.specs.declared.errors.HandleError.{HandleError}
use Rattle.quic_sending.specs.declared.errors.HandleError.TheVariants as handle_error
use Rattle.quic_receiving.specs.declared.errors.ReadableError.{ReadableError}
use Rattle.quic_receiving.specs.declared.errors.ReadableError.TheVariants as readable_error
use Rattle.quic_receiving.specs.declared.errors.ReadError.TheVariants as read_error
use Rattle.quic_retransmits.specs.Pending.{Pending}
use Rattle.quic_streams.specs.declared.batches.ReadSome.{ReadSome}
use Rattle.quic_flows.specs.Flow.{WasWritten, WasFinished, WasGivenUp, front_of}
use Rattle.quic_history.specs.World.{World, Made}
use Rattle.quic_history.specs.declared.progress.LastAnswer.{LastAnswer}
use Rattle.quic_history.specs.declared.progress.LastAnswer.TheVariants as last_answer
use Rattle.quic_history.specs.Permitting.{acceptable}
use Rattle.quic_history.specs.Reading.{GivesChunks, LastReads, ReadsSome, bytes_in}
use Rattle.quic_history.specs.SendEvents.{OpenedOwn, SetWindow, WroteOwn, FinishedOwn, ResetOwn, SetOwnPriority, Polled}
use Rattle.quic_history.specs.History.{Event, Step, Fits, Accepted, Resized, SetConcurrent, Sending, Began, Gave, Ended, Stopped, ToldReset, given, with_chunks, with_last}
use Rattle.quic_history.proofs.Histories.{next}
use Rattle.quic_endpoint.specs.Ends.{EndState, OpensAt, WritesAt, FinishesAt, ResetsAt, with_counts_told_if}
use Rattle.quic_exchange.proofs.Origins.{Origin}
use Rattle.quic_steps.specs.declared.steps.End.{End}
use Rattle.quic_steps.specs.declared.steps.Step.{Step as PairStep}
use Rattle.quic_steps.specs.declared.steps.Step.TheVariants as steps
use Rattle.quic_steps.specs.declared.steps.PairError.TheVariants.{UnknownId}
use Rattle.quic_exchange.specs.Replies.{Answer, opened_reply, accepted_reply, written_reply, chunks_reply, finished_reply, handled_reply, done_reply, event_reply, read_reply, code_reply}
use Rattle.quic_exchange.specs.State.{PairState, OnEnd, the_end, with_end}
use Rattle.quic_exchange.specs.Calls.{Opens, Accepts, OnGiven, Writes, WritesChunksOrNone, Finishes, ResetsOn, StopsOn, SetsPriorityOn, AsksReset, ReadsOn, ReadsSo, SetsSendWindow, SetsReceiveWindow, SetsMaxConcurrent, Polls}
use Rattle.quic_exchange.specs.Tale.{Tale, StepTells, with_deed, with_bytes_taken, with_one_opened, with_window_of}
use Rattle.quic_exchange.proofs.CallsSetting.{told-streams}
use Rattle.quic_exchange.proofs.Counted.{Counted, CountedBy, TellsSo, counted-untold, counted-taken, counted-deed, counted-by, by-counted, by-untold, by-at, counted-at, side-held}
use Rattle.quic_exchange.proofs.Recounted.{Recounted, Retold, made_at, recount-end, recount-called, untold, TellsNothing}

-- ---- calls that change one number

tells_opened : (m : Made) (h : List Event) (t : Tale) (dir : Dir) (id : ℕ) → TellsSo m h t → TellsSo m (Sending (OpenedOwn dir false (Ok (Some id))) ∷ h) (with_one_opened dir t)
tells_opened m h t dir id k = record {
  flow_is = k.flow_is;
  streams_are = k.streams_are;
  written_is = let e = k.written_is in omega arith;
  limit_is = let e = k.limit_is in omega arith;
  window_is = k.window_is;
  opened_are = λ d. let e = k.opened_are d in omega arith;
  counts_are = λ d. let e = k.counts_are d in omega arith;
}

counted_opened : (m : Made) (w v : World) (t : Tale) (dir : Dir) (id : ℕ) → Counted m w t → Step w (Sending (OpenedOwn dir false (Ok (Some id)))) v → Counted m v (with_one_opened dir t)
counted_opened m w v t dir id c s =
    let e = Sending (OpenedOwn dir false (Ok (Some id))) in
    record { calls = e ∷ c.calls; from = next m c.calls w e v tt c.from s; plain = (refl, c.plain); tells = tells_opened m c.calls t dir id c.tells }

tells_window : (m : Made) (h : List Event) (t : Tale) (window : ℕ) → TellsSo m h t → TellsSo m (Sending (SetWindow window) ∷ h) (with_window_of window t)
tells_window m h t window k = record {
  flow_is = k.flow_is;
  streams_are = k.streams_are;
  written_is = let e = k.written_is in omega arith;
  limit_is = let e = k.limit_is in omega arith;
  window_is = refl;
  opened_are = λ d. let e = k.opened_are d in omega arith;
  counts_are = λ d. let e = k.counts_are d in omega arith;
}

counted_window : (m : Made) (w v : World) (t : Tale) (window : ℕ) → Counted m w t → Step w (Sending (SetWindow window)) v → Counted m v (with_window_of window t)
counted_window m w v t window c s =
    let e = Sending (SetWindow window) in
    record { calls = e ∷ c.calls; from = next m c.calls w e v tt c.from s; plain = (refl, c.plain); tells = tells_window m c.calls t window c.tells }

-- ---- reads

given_chunks : (id most : ℕ) (ordered : Bool) (cs : List Chunk) (h : List Event) → given (with_chunks id most ordered cs h) ≡ given h + bytes_in cs
given_chunks id most ordered [] h = omega arith
given_chunks id most ordered (c ∷ cs) h = omega (arith, given_chunks id most ordered cs (Gave id most ordered (Ok (Some c)) ∷ h))

given_last : (id most : ℕ) (ordered : Bool) (last : LastAnswer) (h : List Event) → given (with_last id most ordered last h) ≡ given h
given_last id most ordered last_answer.Blocked h = refl
given_last id most ordered last_answer.Ended h = refl
given_last id most ordered (last_answer.Reset code) h = refl
given_last id most ordered last_answer.Memory h = refl
given_last id most ordered last_answer.More h = refl

module _ (m : Made) (t : Tale) (id most : ℕ) (ordered : Bool) where
  chunks_counted : (cs : List Chunk) (h : List Event) (w v : World) → CountedBy m h w t → GivesChunks w id most ordered cs v → CountedBy m (with_chunks id most ordered cs h) v t
  chunks_counted [] h w v c g = by-at v g c
  chunks_counted (k ∷ ks) h w v c g =
      let e = Gave id most ordered (Ok (Some k)) in
      chunks_counted ks (e ∷ h) g.0 v (by-untold m h w g.0 t e (untold e tt) tt c g.1) g.2

  last_counted : (last : LastAnswer) (h : List Event) (w v : World) → CountedBy m h w t → LastReads w id most ordered last v → CountedBy m (with_last id most ordered last h) v t
  last_counted last_answer.Blocked h w v c r = let e = Gave id most ordered (Err read_error.Blocked) in by-untold m h w v t e (untold e tt) tt c r
  last_counted last_answer.Ended h w v c r = let e = Gave id most ordered (Ok None) in by-untold m h w v t e (untold e tt) tt c r
  last_counted (last_answer.Reset code) h w v c r = let e = Gave id most ordered (Err (read_error.Reset code)) in by-untold m h w v t e (untold e tt) tt c r
  last_counted last_answer.Memory h w v c r = let e = Gave id most ordered (Err read_error.OutOfMemory) in by-untold m h w v t e (untold e tt) tt c r
  last_counted last_answer.More h w v c r = by-at v r c

  reads_counted : (times : ℕ) (p q : Pending) (cs : List Chunk) (last : LastAnswer) (transmit : Bool) (w v : World) → Counted m w t → ReadsSome w id most times ordered p cs last transmit v q → Counted m v t
  reads_counted times p q cs last transmit w v c s =
      let b = Began id ordered (Ok tt) in
      let opened = by-untold m c.calls w s.opened t b (untold b tt) tt (by-counted c) s.begins in
      let h = with_chunks id most ordered cs (b ∷ c.calls) in
      let read = chunks_counted cs (b ∷ c.calls) s.opened s.read opened s.gives in
      let k = with_last id most ordered last h in
      let ended = last_counted last h s.read s.ended read s.last_reads in
      let fits : bytes_in cs ≡ given k = let x = given_last id most ordered last h in let y = given_chunks id most ordered cs (b ∷ c.calls) in counted_up (bytes_in cs) (given k) (given h) x y in
      let e = Ended id (bytes_in cs) in
      counted-by (by-untold m k s.ended v t e (untold e tt) fits ended s.is)
    where
      counted_up : (n k h : ℕ) → k ≡ h → h ≡ 0 + n → n ≡ k
      counted_up n k h a b = omega arith

-- ---- steps of an application

module _ (a b : Origin) (old new : PairState) (r : Recounted a b old) (who : End) where
  abbrev after : PairStep → Answer → Type 0
  after step reply = Retold a b old r.tales step reply new

  abbrev end : EndState
  end = the_end old who

  abbrev made : Made
  made = made_at a b who

  here : Counted made end.streams (r.tales.of who)
  here = r.counted who

  -- the end made a call that tells nothing
  called : (f : EndState) (e : Event) → TellsNothing e → ((k : List Event) → Fits k e) → Step end.streams e f.streams → Counted made f.streams (r.tales.of who)
  called f e k fits s = counted-untold made end.streams f.streams (r.tales.of who) e (untold e k) fits here s

  -- which is all that a step did
  quiet : (step : PairStep) (reply : Answer) (f : EndState) → new ≡ with_end old who f → StepTells old.sent old.sent step reply r.tales r.tales → Counted made f.streams (r.tales.of who) → after step reply
  quiet step reply f is t c = recount-called a b old r step reply who f new is c t

  -- a step that is refused, as its stream is not known, does nothing
  on_given : (step : PairStep) (id : ℕ) (reply : Answer) (f : EndState) (Does : Type 0) → StepTells old.sent old.sent step (Err UnknownId) r.tales r.tales → new ≡ with_end old who f → OnGiven end id reply f Does → (Does → after step reply) → after step reply
  on_given step id reply f Does t is d known = elim d [
    | inl k ↦ known k.1
    | inr k ↦ subst (after step) (sym k.1) (quiet step (Err UnknownId) f is t (counted-at f.streams (ap (λ (e : EndState). e.streams) k.2) here))
  ]

  -- ---- streams are opened and accepted

  opened_any : (dir : Dir) (f : EndState) → new ≡ with_end old who f → (answer : Result (Option ℕ) OutOfMemory) → OpensAt end dir answer f → after (steps.Open who dir) (opened_reply answer)
  opened_any dir f is (Ok (Some id)) o = recount-end a b old r (steps.Open who dir) _ who (with_one_opened dir) f new is (counted_opened made end.streams f.streams (r.tales.of who) dir id here o.0) refl
  opened_any dir f is (Ok None) o = quiet (steps.Open who dir) _ f is refl (called f (Sending (OpenedOwn dir false (Ok None))) tt (λ k. tt) o.0)
  opened_any dir f is (Err error) o = quiet (steps.Open who dir) _ f is refl (called f (Sending (OpenedOwn dir false (Err error))) tt (λ k. tt) o.0)

  pub counts-open : (dir : Dir) (reply : Answer) → OnEnd (λ e f. Opens e dir reply f) old who new → after (steps.Open who dir) reply
  counts-open dir reply d = subst (after (steps.Open who dir)) (sym d.does.reply_is) (opened_any dir d.end d.is d.does.answer d.does.opens)

  accepted_tells : (dir : Dir) (answer : Option ℕ) → StepTells old.sent old.sent (steps.Accept who dir) (accepted_reply answer) r.tales r.tales
  accepted_tells dir (Some id) = refl
  accepted_tells dir None = refl

  pub counts-accept : (dir : Dir) (reply : Answer) → OnEnd (λ e f. Accepts e dir reply f) old who new → after (steps.Accept who dir) reply
  counts-accept dir reply d =
      let o = d.does in
      let f = d.end in
      let answer = acceptable end.streams dir in
      subst (after (steps.Accept who dir)) (sym o.reply_is)
      (quiet (steps.Accept who dir) (accepted_reply answer) f d.is (accepted_tells dir answer) (called f (Accepted dir answer) tt (λ k. tt) (ap (λ (j : EndState). j.streams) o.is, refl)))

  -- ---- writes

  module _ (id : ℕ) (f : EndState) (is : new ≡ with_end old who f) (lists : List (List ℕ)) where
    wrote_some : (written : Written) → WritesAt end id lists (Ok written) f → Counted made f.streams (with_bytes_taken id written.bytes lists (r.tales.of who))
    wrote_some written w =
        let e = Sending (WroteOwn id lists false (Ok written)) in
        let took = w.1.3 in
        counted-taken made end.streams f.streams (r.tales.of who) e id (WasWritten (front_of written.bytes lists)) written.bytes
        (record { move_is = refl; limits = refl; joint = refl; taken = refl; limit = refl; window = refl; opens = λ d. refl; counts = λ d. refl }) (λ k. tt)
        (side-held here id took.0.half took.0.is_held) here (end.pending, f.pending, w.0, w.1)

    wrote_none : (error : WriteError) → WritesAt end id lists (Err error) f → Counted made f.streams (r.tales.of who)
    wrote_none error w = called f (Sending (WroteOwn id lists false (Err error))) tt (λ k. tt) (end.pending, f.pending, w.0, w.1)

    wrote_bytes : (bytes : List ℕ) → lists ≡ slice_lists bytes → (answer : Result Written WriteError) → WritesAt end id lists answer f → after (steps.Write who id bytes) (written_reply answer)
    wrote_bytes bytes same (Ok written) w =
        let P : List (List ℕ) → Type 0 = λ l. Counted made f.streams (with_bytes_taken id written.bytes l (r.tales.of who)) in
        recount-end a b old r (steps.Write who id bytes) _ who (with_bytes_taken id written.bytes (slice_lists bytes)) f new is (subst P same (wrote_some written w)) refl
    wrote_bytes bytes same (Err write_error.Blocked) w = quiet (steps.Write who id bytes) _ f is refl (wrote_none write_error.Blocked w)
    wrote_bytes bytes same (Err (write_error.Stopped code)) w = quiet (steps.Write who id bytes) _ f is refl (wrote_none (write_error.Stopped code) w)
    wrote_bytes bytes same (Err write_error.ClosedStream) w = quiet (steps.Write who id bytes) _ f is refl (wrote_none write_error.ClosedStream w)
    wrote_bytes bytes same (Err write_error.OutOfMemory) w = quiet (steps.Write who id bytes) _ f is refl (wrote_none write_error.OutOfMemory w)

    wrote_chunks : (answer : Result Written WriteError) → WritesAt end id lists answer f → after (steps.WriteChunks who id lists) (chunks_reply answer)
    wrote_chunks (Ok written) w = recount-end a b old r (steps.WriteChunks who id lists) _ who (with_bytes_taken id written.bytes lists) f new is (wrote_some written w) refl
    wrote_chunks (Err write_error.Blocked) w = quiet (steps.WriteChunks who id lists) _ f is refl (wrote_none write_error.Blocked w)
    wrote_chunks (Err (write_error.Stopped code)) w = quiet (steps.WriteChunks who id lists) _ f is refl (wrote_none (write_error.Stopped code) w)
    wrote_chunks (Err write_error.ClosedStream) w = quiet (steps.WriteChunks who id lists) _ f is refl (wrote_none write_error.ClosedStream w)
    wrote_chunks (Err write_error.OutOfMemory) w = quiet (steps.WriteChunks who id lists) _ f is refl (wrote_none write_error.OutOfMemory w)

  pub counts-write : (id : ℕ) (bytes : List ℕ) (reply : Answer) → OnEnd (λ e f. OnGiven e id reply f (Writes e id (slice_lists bytes) reply f)) old who new → after (steps.Write who id bytes) reply
  counts-write id bytes reply d = on_given (steps.Write who id bytes) id reply d.end _ refl d.is d.does
      (λ w. subst (after (steps.Write who id bytes)) (sym w.reply_is) (wrote_bytes id d.end d.is (slice_lists bytes) bytes refl w.answer w.writes))

  pub counts-chunks : (id : ℕ) (chunks : List (List ℕ)) (reply : Answer) → OnEnd (λ e f. OnGiven e id reply f (WritesChunksOrNone e id chunks reply f)) old who new → after (steps.WriteChunks who id chunks) reply
  counts-chunks id chunks reply d = on_given (steps.WriteChunks who id chunks) id reply d.end _ refl d.is d.does
      (λ w. elim w [
        | inl k ↦ subst (after (steps.WriteChunks who id chunks)) (sym k.reply_is) (wrote_chunks id d.end d.is chunks k.answer k.writes)
        | inr k ↦ subst (after (steps.WriteChunks who id chunks)) (sym k.0) (quiet (steps.WriteChunks who id chunks) _ d.end d.is refl (counted-at d.end.streams (ap (λ (e : EndState). e.streams) k.1) here))
      ])

  -- ---- ends and resets

  finished_one : (id : ℕ) (f : EndState) → FinishesAt end id (Ok tt) f → Counted made f.streams (with_deed id WasFinished (r.tales.of who))
  finished_one id f done =
      let s = done.0.2 in
      counted-deed made end.streams f.streams (r.tales.of who) (Sending (FinishedOwn id (Ok tt))) id WasFinished
      (record { move_is = refl; limits = refl; joint = refl; taken = refl; limit = refl; window = refl; opens = λ d. refl; counts = λ d. refl }) (λ k. tt) (side-held here id s.0 s.1) here done.0

  finished_none : (id : ℕ) (f : EndState) (error : FinishError) → FinishesAt end id (Err error) f → Counted made f.streams (r.tales.of who)
  finished_none id f error done = called f (Sending (FinishedOwn id (Err error))) tt (λ k. tt) done.0

  finished_any : (id : ℕ) (f : EndState) → new ≡ with_end old who f → (answer : Result (Unit {0}) FinishError) → FinishesAt end id answer f → after (steps.Finish who id) (finished_reply answer)
  finished_any id f is (Ok u) done = recount-end a b old r (steps.Finish who id) _ who (with_deed id WasFinished) f new is (finished_one id f done) refl
  finished_any id f is (Err (finish_error.Stopped code)) done = quiet (steps.Finish who id) _ f is refl (finished_none id f (finish_error.Stopped code) done)
  finished_any id f is (Err finish_error.ClosedStream) done = quiet (steps.Finish who id) _ f is refl (finished_none id f finish_error.ClosedStream done)
  finished_any id f is (Err finish_error.OutOfMemory) done = quiet (steps.Finish who id) _ f is refl (finished_none id f finish_error.OutOfMemory done)

  pub counts-finish : (id : ℕ) (reply : Answer) → OnEnd (λ e f. OnGiven e id reply f (Finishes e id reply f)) old who new → after (steps.Finish who id) reply
  counts-finish id reply d = on_given (steps.Finish who id) id reply d.end _ refl d.is d.does
      (λ w. subst (after (steps.Finish who id)) (sym w.reply_is) (finished_any id d.end d.is w.answer w.finishes))

  reset_one : (id code : ℕ) (f : EndState) → ResetsAt end id code (Ok tt) f → Counted made f.streams (with_deed id (WasGivenUp code) (r.tales.of who))
  reset_one id code f done =
      let s = done.1 in
      counted-deed made end.streams f.streams (r.tales.of who) (Sending (ResetOwn id code (Ok tt))) id (WasGivenUp code)
      (record { move_is = refl; limits = refl; joint = refl; taken = refl; limit = refl; window = refl; opens = λ d. refl; counts = λ d. refl }) (λ k. tt) (side-held here id s.0 s.1) here (end.pending, f.pending, done)

  reset_none : (id code : ℕ) (f : EndState) (error : HandleError) → ResetsAt end id code (Err error) f → Counted made f.streams (r.tales.of who)
  reset_none id code f error done = called f (Sending (ResetOwn id code (Err error))) tt (λ k. tt) (end.pending, f.pending, done)

  reset_any : (id code : ℕ) (f : EndState) → new ≡ with_end old who f → (answer : Result (Unit {0}) HandleError) → ResetsAt end id code answer f → after (steps.Reset who id code) (handled_reply answer)
  reset_any id code f is (Ok u) done = recount-end a b old r (steps.Reset who id code) _ who (with_deed id (WasGivenUp code)) f new is (reset_one id code f done) refl
  reset_any id code f is (Err handle_error.ClosedStream) done = quiet (steps.Reset who id code) _ f is refl (reset_none id code f handle_error.ClosedStream done)
  reset_any id code f is (Err handle_error.OutOfMemory) done = quiet (steps.Reset who id code) _ f is refl (reset_none id code f handle_error.OutOfMemory done)

  pub counts-reset : (id code : ℕ) (reply : Answer) → OnEnd (λ e f. OnGiven e id reply f (ResetsOn e id code reply f)) old who new → after (steps.Reset who id code) reply
  counts-reset id code reply d = on_given (steps.Reset who id code) id reply d.end _ refl d.is d.does
      (λ w. subst (after (steps.Reset who id code)) (sym w.reply_is) (reset_any id code d.end d.is w.answer w.resets))

  -- ---- other calls, that tell nothing

  told_at : (f g : EndState) (due : Bool) → f ≡ with_counts_told_if due g → Counted made g.streams (r.tales.of who) → Counted made f.streams (r.tales.of who)
  told_at f g due is c = counted-at f.streams (ap (λ (k : EndState). k.streams) is ∙ told-streams due g) c

  pub counts-stop : (id code : ℕ) (reply : Answer) → OnEnd (λ e f. OnGiven e id reply f (StopsOn e id code reply f)) old who new → after (steps.Stop who id code) reply
  counts-stop id code reply d = on_given (steps.Stop who id code) id reply d.end _ refl d.is d.does
      (λ w. let s = w.stops in
      subst (after (steps.Stop who id code)) (sym w.reply_is)
      (quiet (steps.Stop who id code) (handled_reply w.answer) d.end d.is (stopped_tells w.answer) (told_at d.end s.stopped _ s.is (called s.stopped (Stopped id code w.answer) tt (λ k. tt) (end.pending, s.stopped.pending, s.stops)))))
    where
      stopped_tells : (answer : Result (Unit {0}) HandleError) → StepTells old.sent old.sent (steps.Stop who id code) (handled_reply answer) r.tales r.tales
      stopped_tells (Ok u) = refl
      stopped_tells (Err handle_error.ClosedStream) = refl
      stopped_tells (Err handle_error.OutOfMemory) = refl

  pub counts-priority : (id : ℕ) (priority : ℤ) (reply : Answer) → OnEnd (λ e f. OnGiven e id reply f (SetsPriorityOn e id priority reply f)) old who new → after (steps.SetPriority who id priority) reply
  counts-priority id priority reply d = on_given (steps.SetPriority who id priority) id reply d.end _ refl d.is d.does
      (λ w. subst (after (steps.SetPriority who id priority)) (sym w.reply_is)
      (quiet (steps.SetPriority who id priority) (handled_reply w.answer) d.end d.is (set_tells w.answer) (called d.end (Sending (SetOwnPriority id priority w.answer)) tt (λ k. tt) w.sets.0)))
    where
      set_tells : (answer : Result (Unit {0}) HandleError) → StepTells old.sent old.sent (steps.SetPriority who id priority) (handled_reply answer) r.tales r.tales
      set_tells (Ok u) = refl
      set_tells (Err handle_error.ClosedStream) = refl
      set_tells (Err handle_error.OutOfMemory) = refl

  read_so : (id : ℕ) (ordered : Bool) (most times : ℕ) (f : EndState) (answer : Result ReadSome ReadableError) → ReadsSo end id ordered most times answer f → Counted made f.streams (r.tales.of who)
  read_so id ordered most times f (Ok read) s =
      told_at f s.read true s.is (reads_counted made (r.tales.of who) id most ordered times end.pending s.read.pending read.chunks.items read.last read.transmit.0 end.streams s.read.streams here s.reads)
  read_so id ordered most times f (Err error) s = told_at f s.asked _ s.is (called s.asked (Began id ordered (Err error)) tt (λ k. tt) s.begins)

  pub counts-read : (id : ℕ) (ordered : Bool) (most times : ℕ) (reply : Answer) → OnEnd (λ e f. OnGiven e id reply f (ReadsOn e id ordered most times reply f)) old who new → after (steps.Read who id ordered most times) reply
  counts-read id ordered most times reply d = on_given (steps.Read who id ordered most times) id reply d.end _ refl d.is d.does
      (λ w. subst (after (steps.Read who id ordered most times)) (sym w.reply_is)
      (quiet (steps.Read who id ordered most times) (read_reply w.answer) d.end d.is (read_tells w.answer) (read_so id ordered most times d.end w.answer w.reads)))
    where
      read_tells : (answer : Result ReadSome ReadableError) → StepTells old.sent old.sent (steps.Read who id ordered most times) (read_reply answer) r.tales r.tales
      read_tells (Ok read) = refl
      read_tells (Err readable_error.ClosedStream) = refl
      read_tells (Err readable_error.IllegalOrderedRead) = refl
      read_tells (Err readable_error.OutOfMemory) = refl

  pub counts-code : (id : ℕ) (reply : Answer) → OnEnd (λ e f. OnGiven e id reply f (AsksReset e id reply f)) old who new → after (steps.ReceivedReset who id) reply
  counts-code id reply d = on_given (steps.ReceivedReset who id) id reply d.end _ refl d.is d.does
      (λ w. let s = w.tells in
      subst (after (steps.ReceivedReset who id)) (sym w.reply_is)
      (quiet (steps.ReceivedReset who id) (code_reply w.answer) d.end d.is (code_tells w.answer) (told_at d.end s.asked _ s.is (called s.asked (ToldReset id w.answer) tt (λ k. tt) (end.pending, s.asked.pending, s.tells)))))
    where
      code_tells : (answer : Result (Option ℕ) HandleError) → StepTells old.sent old.sent (steps.ReceivedReset who id) (code_reply answer) r.tales r.tales
      code_tells (Ok (Some code)) = refl
      code_tells (Ok None) = refl
      code_tells (Err handle_error.ClosedStream) = refl
      code_tells (Err handle_error.OutOfMemory) = refl

  pub counts-send-window : (window : ℕ) (reply : Answer) → OnEnd (λ e f. SetsSendWindow e window reply f) old who new → after (steps.SetSendWindow who window) reply
  counts-send-window window reply d =
      let o = d.does in
      subst (after (steps.SetSendWindow who window)) (sym o.0)
      (recount-end a b old r (steps.SetSendWindow who window) _ who (with_window_of window) d.end new d.is (counted_window made end.streams d.end.streams (r.tales.of who) window here (ap (λ (k : EndState). k.streams) o.1)) refl)

  pub counts-receive-window : (window : ℕ) (reply : Answer) → OnEnd (λ e f. SetsReceiveWindow e window reply f) old who new → after (steps.SetReceiveWindow who window) reply
  counts-receive-window window reply d =
      let o = d.does in
      subst (after (steps.SetReceiveWindow who window)) (sym o.reply_is)
      (quiet (steps.SetReceiveWindow who window) _ d.end d.is refl (called d.end (Resized window o.larger) tt (λ k. tt) (ap (λ (k : EndState). k.streams) o.is, o.larger_is)))

  pub counts-concurrent : (dir : Dir) (count : ℕ) (reply : Answer) → OnEnd (λ e f. SetsMaxConcurrent e dir count reply f) old who new → after (steps.SetMaxConcurrent who dir count) reply
  counts-concurrent dir count reply d =
      let o = d.does in
      let s = o.sets in
      subst (after (steps.SetMaxConcurrent who dir count)) (sym o.reply_is)
      (quiet (steps.SetMaxConcurrent who dir count) (done_reply o.answer) d.end d.is (set_tells o.answer) (told_at d.end s.set (is_ok o.answer) s.is (called s.set (SetConcurrent dir count o.answer) tt (λ k. tt) s.sets)))
    where
      set_tells : (answer : Result (Unit {0}) OutOfMemory) → StepTells old.sent old.sent (steps.SetMaxConcurrent who dir count) (done_reply answer) r.tales r.tales
      set_tells (Ok u) = refl
      set_tells (Err error) = refl

  pub counts-poll : (reply : Answer) → OnEnd (λ e f. Polls e reply f) old who new → after (steps.Poll who) reply
  counts-poll reply d =
      let o = d.does in
      subst (after (steps.Poll who)) (sym o.reply_is)
      (quiet (steps.Poll who) (event_reply o.event) d.end d.is (poll_tells o.event) (called d.end (Sending (Polled o.event)) tt (λ k. tt) o.polls))
    where
      poll_tells : (event : Option StreamEvent) → StepTells old.sent old.sent (steps.Poll who) (event_reply event) r.tales r.tales
      poll_tells (Some event) = refl
      poll_tells None = refl
