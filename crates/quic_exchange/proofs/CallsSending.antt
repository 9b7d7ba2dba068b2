-- A pair, once the application of an end wrote on a stream, ended it or gave it up.
use Rattle.std.proofs.Common.{◌≡◌, ℕ, Bool, true, false, eqb, List, [], ◌∷◌, Some, None, Result, Ok, Err, refl, sym, ap, ◌∙◌, subst, inl, inr}
use Rattle.std.specs.Prelude.{◌++◌, take}
use Rattle.std.specs.List.{concat}
use Rattle.std.proofs.lemmas.List.Folds.{concat-append}
use Rattle.std.proofs.lemmas.List.{append-nil}
use Rattle.quic_sending.specs.Source.{slice_lists}
use Rattle.quic_sending.specs.declared.send.Send.{Send}
use Rattle.quic_sending.specs.declared.send.Written.{Written}
use Rattle.quic_sending.specs.declared.send.WriteError.{WriteError}
use Rattle.quic_sending.specs.declared.send.WriteError.TheVariants as write_error
use Rattle.quic_sending.specs.declared.send.FinishError.{FinishError}
use Rattle.quic_sending.specs.declared.send.FinishError.TheVariants as finish_error
use Rattle.quic_sending.proofs.Fronts.{AreFrontOf-pieces_of}
use Rattle.quic_sending.specs.declared.errors.HandleError.{HandleError}
use Rattle.quic_sending.specs.declared.errors.HandleError.TheVariants as handle_error
use Rattle.quic_retransmits.specs.Queueing.{with_reset_stream}
use Rattle.quic_flows.specs.Flow.{SendMove, WasWritten, WasFinished, WasGivenUp, SendFlow, with_send_move, front_of}
use Rattle.quic_flows.proofs.Fronts.{front-taken}
use Rattle.quic_history.specs.World.{World}
use Rattle.quic_history.specs.Flows.{has_send_side, has_side_in, send_moved}
use Rattle.quic_history.specs.Acknowledged.{was_given}
use Rattle.quic_history.specs.SendEvents.{WroteOwn, FinishedOwn, ResetOwn}
use Rattle.quic_history.specs.History.{Event, Sending, move_of, send_move_of, limits_in, opened_in_all, send_tale, since}
use Rattle.quic_history.proofs.Traces.{itself}
use Rattle.quic_history.proofs.SendSides.{held-side}
use Rattle.quic_history.proofs.FlowHistory.{known-by}
use Rattle.quic_link.specs.Endpoints.{LinkedEnd, MayAct, acted, WasStoppedWith, sent_on, written_on}
use Rattle.quic_link.specs.Asked.{AreAsked}
use Rattle.quic_link.proofs.Ends.{Comes}
use Rattle.quic_link.proofs.Given.{given-more}
use Rattle.quic_link.proofs.AskedFor.{asked-refused, asked-reset, reset-told}
use Rattle.quic_link.proofs.Joint.{agrees}
use Rattle.quic_link.proofs.Promised.{promised}
use Rattle.quic_endpoint.specs.Ends.{EndState, WritesAt, FinishesAt, ResetsAt}
use Rattle.quic_steps.specs.declared.steps.End.{End}
use Rattle.quic_steps.specs.declared.steps.Step.TheVariants as steps
use Rattle.quic_exchange.specs.Replies.{Answer, written_reply, chunks_reply, finished_reply, handled_reply}
use Rattle.quic_exchange.specs.Calls.{OnGiven, Writes, WritesChunksOrNone, Finishes, ResetsOn}
use Rattle.quic_exchange.specs.State.{PairState, OnEnd, the_end, with_end}
use Rattle.quic_exchange.specs.History.{Past, Flow, with_flow, after, after_write, after_chunks, after_finish, past_reset, writes_more, ends_flow, resets_with, tells_stop}
use Rattle.quic_exchange.proofs.Joined.{Seen, Sees}
use Rattle.quic_exchange.proofs.CallsFlows.{Onward, onward-call, FlowKnown, SendsSame, known-first, known-stop, whole-first}
use Rattle.quic_exchange.proofs.Gives.{gave-none}
use Rattle.quic_exchange.proofs.CallsSeen.{Called, IsSilent, silent-quiet, silent-gives, called-once, quiet-accepts, sees-sent, sees-quiet, sees-stays, sends-same, reads-same}
use Rattle.quic_exchange.proofs.CallsSetting.{asked-same, may-act, given-here, on-given}

-- ---- streams

-- whether a stream has a sending side, as the calls tell
abbrev is_there : LinkedEnd → ℕ → Bool
is_there x id = has_send_side x.made.side (opened_in_all (since x.calls)) (send_tale x.made x.calls).may_open id

-- one whose half is held has
held_there : (x : LinkedEnd) (id : ℕ) (s : Send) → Comes x → x.world.out.halves id ≡ Some s → is_there x id ≡ true
held_there x id s f held =
    let there = held-side _ _ (has_side_in x.world.out x.world.bi.max_remote id) s (x.world.out.halves id) held (f.sends.flows id) in
    let known = known-by x.made x.calls x.world f.side f.sends.may_open f.from.sent id in
    known ∙ there

other_stream : (m : SendMove) (there : ℕ → Bool) (id q : ℕ) (t : SendFlow) → eqb q id ≡ false → send_moved (Some (id, m)) there q t ≡ t
other_stream m there id q t n = rw n refl

that_stream : (m : SendMove) (there : ℕ → Bool) (id : ℕ) (t : SendFlow) → there id ≡ true → send_moved (Some (id, m)) there id t ≡ with_send_move m t
that_stream m there id t k = rw (itself id, k) refl

flows_same : (x z : LinkedEnd) (q : ℕ) → sent_on z q ≡ sent_on x q → SendsSame x z q
flows_same x z q k = record { written = ap (λ (t : SendFlow). concat t.cuts) k; finished = ap (λ (t : SendFlow). t.finished) k; reset = ap (λ (t : SendFlow). t.reset) k }

-- the first bytes of some lists
front_bytes : (n : ℕ) (lists : List (List ℕ)) → concat (front_of n lists) ≡ take n (concat lists)
front_bytes n lists = let front = AreFrontOf-pieces_of n lists in ap concat (sym (front-taken n lists _ front)) ∙ front.bytes

slice_bytes : (bytes : List ℕ) → concat (slice_lists bytes) ≡ bytes
slice_bytes [] = refl
slice_bytes (b ∷ bs) = append-nil (b ∷ bs)

-- ---- what is known then

module _ (f : Flow) (x y z : LinkedEnd) (q : ℕ) (o : Onward x y z) (k : FlowKnown f x y q) where
  known_written : (bytes : List ℕ) → written_on z q ≡ written_on x q ++ bytes → (sent_on z q).finished ≡ (sent_on x q).finished → (sent_on z q).reset ≡ (sent_on x q).reset → FlowKnown (writes_more bytes f) z y q
  known_written bytes w d r = record {
    written = w ∙ ap (λ l. l ++ bytes) k.written;
    finished = d ∙ k.finished;
    resets = λ code h. k.resets code (sym r ∙ h);
    stops = k.stops;
    given = k.given;
    ended = k.ended;
    unordered = k.unordered;
    told_resets = λ code h. r ∙ k.told_resets code h;
    told_stops = k.told_stops;
    complete = λ h. whole-first x y z o q (k.complete h);
  }

  known_ended : written_on z q ≡ written_on x q → (sent_on z q).finished ≡ true → (sent_on z q).reset ≡ (sent_on x q).reset → FlowKnown (ends_flow f) z y q
  known_ended w d r = record {
    written = w ∙ k.written;
    finished = d;
    resets = λ code h. k.resets code (sym r ∙ h);
    stops = k.stops;
    given = k.given;
    ended = k.ended;
    unordered = k.unordered;
    told_resets = λ code h. r ∙ k.told_resets code h;
    told_stops = k.told_stops;
    complete = λ h. whole-first x y z o q (k.complete h);
  }

  known_given_up : (code : ℕ) → written_on z q ≡ written_on x q → (sent_on z q).finished ≡ (sent_on x q).finished → (sent_on z q).reset ≡ Some code → FlowKnown (resets_with code f) z y q
  known_given_up code w d r = record {
    written = w ∙ k.written;
    finished = d ∙ k.finished;
    resets = λ c h. inl (let l : Some c ≡ Some code = sym h ∙ r in cc);
    stops = k.stops;
    given = k.given;
    ended = k.ended;
    unordered = k.unordered;
    told_resets = λ c h. (o.grown q).reset c (k.told_resets c h);
    told_stops = k.told_stops;
    complete = λ h. whole-first x y z o q (k.complete h);
  }

-- ---- calls

module _ (p : Past) (who : End) (old new : PairState) (x y : LinkedEnd) (s : Seen p who old x y) (f : EndState) (now : new ≡ with_end old who f) (id : ℕ) where
  comes : Comes x
  comes = ((agrees s.linked).0).comes

  -- a call that did something on the sending side of this stream
  module _ (e : Event) (move : SendMove) (a : MayAct x y e f.streams) (asked : AreAsked (acted x e f.streams) f.pending) (change : Flow → Flow) where
    moved_call : IsSilent e → Called who old new x y (acted x e f.streams)
    moved_call w = called-once who old new x y e f.streams f (onward-call x y e f.streams s.linked a) refl asked now (quiet-accepts x e f.streams (silent-quiet e w))

    seen_moved : IsSilent e → move_of e ≡ None → ((q : ℕ) → sent_on (acted x e f.streams) q ≡ send_moved (Some (id, move)) (is_there x) q (sent_on x q))
        → (FlowKnown (p.flow who id) x y id → FlowKnown (change (p.flow who id)) (acted x e f.streams) y id) → Sees (with_flow who id change p) who new x y
    seen_moved w r is here =
        sees-sent p who old new x y (acted x e f.streams) s (moved_call w) (gave-none x e f.streams (silent-gives e w)) id change
        (λ q n. flows_same x (acted x e f.streams) q (is q ∙ other_stream move (is_there x) id q (sent_on x q) n))
        (reads-same x y e f.streams a r (silent-quiet e w)) here

  -- a call that did nothing, but told a stop
  told_stop : (e : Event) (code : ℕ) → MayAct x y e f.streams → send_move_of e ≡ None → limits_in e ≡ None → move_of e ≡ None → IsSilent e
      → AreAsked x f.pending → WasStoppedWith y.calls id code → Sees (with_flow who id (tells_stop code) p) who new x y
  told_stop e code a m l r w asked t =
      let z = acted x e f.streams in
      let o = onward-call x y e f.streams s.linked a in
      let c = called-once who old new x y e f.streams f o refl (o.asked f.pending asked) now (quiet-accepts x e f.streams (silent-quiet e w)) in
      sees-sent p who old new x y z s c (gave-none x e f.streams (silent-gives e w)) id (tells_stop code) (λ q n. sends-same x y e f.streams a m l q) (reads-same x y e f.streams a r (silent-quiet e w))
      (λ k. known-stop (p.flow who id) z y id (known-first x y z o id (p.flow who id) (sends-same x y e f.streams a m l id) k) code t)

  -- ---- a write

  module _ (given : was_given (the_end old who).streams id ≡ true) (lists : List (List ℕ)) where
    wrote_some : (written : Written) → WritesAt (the_end old who) id lists (Ok written) f → Sees (with_flow who id (writes_more (take written.bytes (concat lists))) p) who new x y
    wrote_some written wrote =
        let e = Sending (WroteOwn id lists false (Ok written)) in
        let a = may-act p who old new x y s e f.streams (given-here p who old new x y s id given) tt ((the_end old who).pending, f.pending, wrote.0, wrote.1) in
        let took = wrote.1.3 in
        let held = (ap (λ (w : World). w.out.halves id) s.here.world) ∙ took.0.is_held in
        let there = held_there x id took.0.half comes held in
        let z = acted x e f.streams in
        let o = onward-call x y e f.streams s.linked a in
        let move = WasWritten (front_of written.bytes lists) in
        let flow_is : sent_on z id ≡ with_send_move move (sent_on x id) = that_stream move (is_there x) id (sent_on x id) there in
        let bytes : written_on z id ≡ written_on x id ++ take written.bytes (concat lists) =
        ap (λ (t : SendFlow). concat t.cuts) flow_is ∙ concat-append (sent_on x id).cuts (front_of written.bytes lists) ∙ ap (λ l. written_on x id ++ l) (front_bytes written.bytes lists) in
        seen_moved e move a (o.asked f.pending (asked-same x (the_end old who).pending f.pending took.1 s.here.pending)) (writes_more (take written.bytes (concat lists))) tt refl (λ q. refl)
        (λ k. known_written (p.flow who id) x y z id o k (take written.bytes (concat lists)) bytes (ap (λ (t : SendFlow). t.finished) flow_is) (ap (λ (t : SendFlow). t.reset) flow_is))

    wrote_may : (error : WriteError) → WritesAt (the_end old who) id lists (Err error) f → MayAct x y (Sending (WroteOwn id lists false (Err error))) f.streams
    wrote_may error wrote = may-act p who old new x y s (Sending (WroteOwn id lists false (Err error))) f.streams tt tt ((the_end old who).pending, f.pending, wrote.0, wrote.1)

    wrote_asked : (error : WriteError) → WritesAt (the_end old who) id lists (Err error) f → AreAsked x f.pending
    wrote_asked error wrote = elim wrote.1 [
      | inl k ↦ asked-same x (the_end old who).pending f.pending k.4 s.here.pending
      | inr k ↦ asked-refused x (the_end old who).streams.out k.1 (the_end old who).pending f.pending id error k.2.1 s.here.pending
    ]

    wrote_none : (error : WriteError) → WritesAt (the_end old who) id lists (Err error) f → Sees p who new x y
    wrote_none error wrote = sees-quiet p who old new x y f (Sending (WroteOwn id lists false (Err error))) f.streams s (wrote_may error wrote) refl refl refl tt refl (wrote_asked error wrote) now

    wrote_stopped : (code : ℕ) → WritesAt (the_end old who) id lists (Err (write_error.Stopped code)) f → Sees (with_flow who id (tells_stop code) p) who new x y
    wrote_stopped code wrote =
        let error = write_error.Stopped code in
        let e = Sending (WroteOwn id lists false (Err error)) in
        let a = wrote_may error wrote in
        told_stop e code a refl refl refl tt (wrote_asked error wrote) ((promised s.linked).0.answers e f.streams a)

    wrote_bytes : (bytes : List ℕ) → concat lists ≡ bytes → (answer : Result Written WriteError) → WritesAt (the_end old who) id lists answer f → Sees (after_write p who id bytes (written_reply answer)) who new x y
    wrote_bytes bytes same (Ok written) wrote = let P : List ℕ → Type 0 = λ l. Sees (with_flow who id (writes_more (take written.bytes l)) p) who new x y in subst P same (wrote_some written wrote)
    wrote_bytes bytes same (Err write_error.Blocked) wrote = wrote_none write_error.Blocked wrote
    wrote_bytes bytes same (Err (write_error.Stopped code)) wrote = wrote_stopped code wrote
    wrote_bytes bytes same (Err write_error.ClosedStream) wrote = wrote_none write_error.ClosedStream wrote
    wrote_bytes bytes same (Err write_error.OutOfMemory) wrote = wrote_none write_error.OutOfMemory wrote

    wrote_chunks : (answer : Result Written WriteError) → WritesAt (the_end old who) id lists answer f → Sees (after_chunks p who id lists (chunks_reply answer)) who new x y
    wrote_chunks (Ok written) wrote = wrote_some written wrote
    wrote_chunks (Err write_error.Blocked) wrote = wrote_none write_error.Blocked wrote
    wrote_chunks (Err (write_error.Stopped code)) wrote = wrote_stopped code wrote
    wrote_chunks (Err write_error.ClosedStream) wrote = wrote_none write_error.ClosedStream wrote
    wrote_chunks (Err write_error.OutOfMemory) wrote = wrote_none write_error.OutOfMemory wrote

  -- ---- an end

  finished_one : was_given (the_end old who).streams id ≡ true → (u : Unit {0}) → FinishesAt (the_end old who) id (Ok u) f → Sees (with_flow who id ends_flow p) who new x y
  finished_one given u done =
      let e = Sending (FinishedOwn id (Ok u)) in
      let a = may-act p who old new x y s e f.streams (given-here p who old new x y s id given) tt done.0 in
      let half = done.0.2 in
      let held = (ap (λ (w : World). w.out.halves id) s.here.world) ∙ half.1 in
      let there = held_there x id half.0 comes held in
      let z = acted x e f.streams in
      let o = onward-call x y e f.streams s.linked a in
      let flow_is : sent_on z id ≡ with_send_move WasFinished (sent_on x id) = that_stream WasFinished (is_there x) id (sent_on x id) there in
      seen_moved e WasFinished a (o.asked f.pending (asked-same x (the_end old who).pending f.pending done.1 s.here.pending)) ends_flow tt refl (λ q. refl)
      (λ k. known_ended (p.flow who id) x y z id o k (ap (λ (t : SendFlow). concat t.cuts) flow_is) (ap (λ (t : SendFlow). t.finished) flow_is) (ap (λ (t : SendFlow). t.reset) flow_is))

  finished_may : (error : FinishError) → FinishesAt (the_end old who) id (Err error) f → MayAct x y (Sending (FinishedOwn id (Err error))) f.streams
  finished_may error done = may-act p who old new x y s (Sending (FinishedOwn id (Err error))) f.streams tt tt done.0

  finished_none : (error : FinishError) → FinishesAt (the_end old who) id (Err error) f → Sees p who new x y
  finished_none error done =
      sees-quiet p who old new x y f (Sending (FinishedOwn id (Err error))) f.streams s (finished_may error done) refl refl refl tt refl (asked-same x (the_end old who).pending f.pending done.1 s.here.pending) now

  finished_any : was_given (the_end old who).streams id ≡ true → (answer : Result (Unit {0}) FinishError) → FinishesAt (the_end old who) id answer f → Sees (after_finish p who id (finished_reply answer)) who new x y
  finished_any given (Ok u) done = finished_one given u done
  finished_any given (Err (finish_error.Stopped code)) done =
      let error = finish_error.Stopped code in
      let e = Sending (FinishedOwn id (Err error)) in
      let a = finished_may error done in
      told_stop e code a refl refl refl tt (asked-same x (the_end old who).pending f.pending done.1 s.here.pending) ((promised s.linked).0.answers e f.streams a)
  finished_any given (Err finish_error.ClosedStream) done = finished_none finish_error.ClosedStream done
  finished_any given (Err finish_error.OutOfMemory) done = finished_none finish_error.OutOfMemory done

  -- ---- a reset

  module _ (given : was_given (the_end old who).streams id ≡ true) (code : ℕ) where
    reset_one : (u : Unit {0}) → ResetsAt (the_end old who) id code (Ok u) f → Sees (with_flow who id (resets_with code) p) who new x y
    reset_one u done =
        let e = Sending (ResetOwn id code (Ok tt)) in
        let a = may-act p who old new x y s e f.streams tt tt ((the_end old who).pending, f.pending, done) in
        let half = done.1 in
        let held = (ap (λ (w : World). w.out.halves id) s.here.world) ∙ half.1 in
        let there = held_there x id half.0 comes held in
        let z = acted x e f.streams in
        let o = onward-call x y e f.streams s.linked a in
        let told = reset-told x y id code f.streams comes a in
        let p0 = (the_end old who).pending in
        let asked = asked-reset z p0 id code told (given-more x y e f.streams comes a id (given-here p who old new x y s id given)) (o.asked p0 s.here.pending) in
        let flow_is : sent_on z id ≡ with_send_move (WasGivenUp code) (sent_on x id) = that_stream (WasGivenUp code) (is_there x) id (sent_on x id) there in
        seen_moved e (WasGivenUp code) a (asked-same z (record p0 { reset_stream = with_reset_stream p0.reset_stream id code }) f.pending half.4 asked) (resets_with code) tt refl (λ q. refl)
        (λ k. known_given_up (p.flow who id) x y z id o k code (ap (λ (t : SendFlow). concat t.cuts) flow_is) (ap (λ (t : SendFlow). t.finished) flow_is) told)

    reset_none : (error : HandleError) → ResetsAt (the_end old who) id code (Err error) f → f.pending ≡ (the_end old who).pending → Sees p who new x y
    reset_none error done is =
        let e = Sending (ResetOwn id code (Err error)) in
        sees-quiet p who old new x y f e f.streams s (may-act p who old new x y s e f.streams tt tt ((the_end old who).pending, f.pending, done)) refl refl refl tt refl (asked-same x (the_end old who).pending f.pending is s.here.pending) now

    reset_any : (answer : Result (Unit {0}) HandleError) → ResetsAt (the_end old who) id code answer f → Sees (past_reset p who id code (handled_reply answer)) who new x y
    reset_any (Ok u) done = reset_one u done
    reset_any (Err handle_error.ClosedStream) done = reset_none handle_error.ClosedStream done done.1.2
    reset_any (Err handle_error.OutOfMemory) done = reset_none handle_error.OutOfMemory done done.1.1

-- ---- the steps

module _ (p : Past) (who : End) (old new : PairState) (x y : LinkedEnd) where
  pub seen-write : (id : ℕ) (bytes : List ℕ) (reply : Answer) → Seen p who old x y → OnEnd (λ e f. OnGiven e id reply f (Writes e id (slice_lists bytes) reply f)) old who new → Sees (after p (steps.Write who id bytes) reply) who new x y
  seen-write id bytes reply s d =
      on-given p who old new x y id reply d.end (after_write p who id bytes) (Writes (the_end old who) id (slice_lists bytes) reply d.end) s refl d.is d.does
      (λ given w. let P : Answer → Type 0 = λ k. Sees (after_write p who id bytes k) who new x y in
      subst P (sym w.reply_is) (wrote_bytes p who old new x y s d.end d.is id given (slice_lists bytes) bytes (slice_bytes bytes) w.answer w.writes))

  pub seen-write-chunks : (id : ℕ) (chunks : List (List ℕ)) (reply : Answer) → Seen p who old x y → OnEnd (λ e f. OnGiven e id reply f (WritesChunksOrNone e id chunks reply f)) old who new → Sees (after p (steps.WriteChunks who id chunks) reply) who new x y
  seen-write-chunks id chunks reply s d =
      let P : Answer → Type 0 = λ k. Sees (after_chunks p who id chunks k) who new x y in
      on-given p who old new x y id reply d.end (after_chunks p who id chunks) (WritesChunksOrNone (the_end old who) id chunks reply d.end) s refl d.is d.does
      (λ given w. elim w [
        | inl k ↦ subst P (sym k.reply_is) (wrote_chunks p who old new x y s d.end d.is id given chunks k.answer k.writes)
        | inr k ↦ subst P (sym k.0) (sees-stays p who old new x y d.end s k.1 d.is)
      ])

  pub seen-finish : (id : ℕ) (reply : Answer) → Seen p who old x y → OnEnd (λ e f. OnGiven e id reply f (Finishes e id reply f)) old who new → Sees (after p (steps.Finish who id) reply) who new x y
  seen-finish id reply s d =
      on-given p who old new x y id reply d.end (after_finish p who id) (Finishes (the_end old who) id reply d.end) s refl d.is d.does
      (λ given w. let P : Answer → Type 0 = λ k. Sees (after_finish p who id k) who new x y in
      subst P (sym w.reply_is) (finished_any p who old new x y s d.end d.is id given w.answer w.finishes))

  pub seen-reset : (id code : ℕ) (reply : Answer) → Seen p who old x y → OnEnd (λ e f. OnGiven e id reply f (ResetsOn e id code reply f)) old who new → Sees (after p (steps.Reset who id code) reply) who new x y
  seen-reset id code reply s d =
      on-given p who old new x y id reply d.end (past_reset p who id code) (ResetsOn (the_end old who) id code reply d.end) s refl d.is d.does
      (λ given w. let P : Answer → Type 0 = λ k. Sees (past_reset p who id code k) who new x y in
      subst P (sym w.reply_is) (reset_any p who old new x y s d.end d.is id given code w.answer w.resets))
