-- Nothing that was kept is withheld from a read.
use Rattle.std.proofs.Common.{◌≡◌, ◌⊎◌, ℕ, Bool, true, false, List, [], ◌∷◌, length, Option, Some, None, Result, Ok, Err, refl, sym, ap, ◌∙◌, subst, inl, inr, arith, ◌<◌, ◌≤◌}
use Rattle.std.specs.Prelude.{nat_le, min, is_some, if◌then◌else◌}
use Rattle.std.proofs.lemmas.Bool.Decides.{nat_tests}
use Rattle.quic_values.specs.declared.ids.Side.{Side}
use Rattle.quic_values.specs.declared.ids.Side.TheVariants.{Client, Server}
use Rattle.quic_values.specs.declared.ids.Dir.{Dir}
use Rattle.quic_values.specs.declared.ids.Dir.TheVariants.{Bi, Uni}
use Rattle.quic_values.specs.Ids.{initiator_of, dir_of, index_of}
use Rattle.quic_wire.specs.Codes.{STREAM_LIMIT_ERROR, STREAM_STATE_ERROR}
use Rattle.quic_assembler.specs.declared.chunk.Chunk.{Chunk}
use Rattle.quic_wire.specs.declared.event.StreamEvent.{StreamEvent}
use Rattle.quic_wire.specs.declared.event.StreamEvent.TheVariants as stream_event
use Rattle.quic_sending.specs.declared.send.Written.{Written}
use Rattle.quic_sending.specs.declared.send.WriteError.{WriteError}
use Rattle.quic_sending.specs.declared.send.WriteError.TheVariants as write_error
use Rattle.quic_sending.specs.declared.send.FinishError.{FinishError}
use Rattle.quic_sending.specs.declared.send.FinishError.TheVariants as finish_error
use Rattle.quic_sending.specs.Source.{slice_lists}
use Rattle.quic_outgoing.specs.Calls.{end_refusal}
use Rattle.quic_receiving.specs.Data.{is_in_slices, IsAllGiven}
use Rattle.quic_receiving.specs.Half.{Half}
use Rattle.quic_sending.specs.declared.errors.HandleError.{HandleError}
use Rattle.quic_sending.specs.declared.errors.HandleError.TheVariants as handle_error
use Rattle.quic_receiving.specs.declared.errors.ReadError.TheVariants as read_error
use Rattle.quic_receiving.specs.declared.errors.ReadableError.{ReadableError}
use Rattle.quic_receiving.specs.declared.errors.ReadableError.TheVariants as readable_error
use Rattle.quic_retransmits.specs.Pending.{Pending}
use Rattle.quic_outgoing.specs.Outgoing.{own_of}
use Rattle.quic_streams.specs.declared.batches.ReadSome.{ReadSome}
use Rattle.quic_history.specs.World.{World, is_own, is_same_side, remote_of, own_refusal, id_refusal}
use Rattle.quic_history.specs.Acknowledged.{was_given}
use Rattle.quic_history.specs.declared.progress.LastAnswer.{LastAnswer}
use Rattle.quic_history.specs.declared.progress.LastAnswer.TheVariants as last_answer
use Rattle.quic_history.specs.Reading.{ReadsSome, ReadsHalf, GivesChunks, LastReads}
use Rattle.quic_history.specs.SendEvents.{Polled}
use Rattle.quic_history.specs.Sends.{TellsNext}
use Rattle.quic_history.specs.Writes.{WritesOwn}
use Rattle.quic_history.specs.History.{Event, Received, ReceivedReset, Began, Gave, Sending, From as From_end, ReadChunk, slices, trace, with_chunks, is_sent_on, room_in_connection, room_in_window}
use Rattle.quic_history.proofs.Totals.{by_cases}
use Rattle.quic_history.proofs.Traces.{itself}
use Rattle.quic_history.proofs.StreamSteps.{half-from, known-from}
use Rattle.quic_link.specs.Endpoints.{LinkedEnd, MayAct, WasGiven, came_on, sent_on}
use Rattle.quic_link.specs.Truths.{amount_on}
use Rattle.quic_link.specs.Promises.{KeptAt, EndKept, given_in_order, IsOver as IsOverTrace}
use Rattle.quic_link.proofs.Basics.{permits_now}
use Rattle.quic_link.proofs.Ends.{Comes}
use Rattle.quic_link.proofs.Readings.{GoesOn, goes-call, called, chunks-linked}
use Rattle.quic_link.proofs.Joint.{agrees}
use Rattle.quic_link.proofs.Promised.{promised}
use Rattle.quic_endpoint.specs.Ends.{EndState, WritesAt, FinishesAt, ReadsAt, RefusesRead, TellsResetAt}
use Rattle.quic_steps.specs.declared.steps.End.{End}
use Rattle.quic_exchange.proofs.Origins.{Origin}
use Rattle.quic_steps.specs.declared.steps.Step.{Step}
use Rattle.quic_steps.specs.declared.steps.Step.TheVariants as steps
use Rattle.quic_steps.specs.declared.steps.Reply.TheVariants.{Read}
use Rattle.quic_exchange.specs.Replies.{Answer, written_reply, chunks_reply, finished_reply, read_reply, last_of, code_reply, event_reply}
use Rattle.quic_exchange.specs.Calls.{OnGiven, AsksReset, ReadsOn, ReadsSo}
use Rattle.quic_exchange.specs.State.{PairState, OnEnd, peer, the_end}
use Rattle.quic_exchange.specs.Steps.{NextOrdinary}
use Rattle.quic_exchange.specs.History.{Past, Flow, History, past_of, past_read, with_flow, reads_chunks, with_chunks_read}
use Rattle.quic_exchange.specs.Headline.{SomeStream, HasOffset, HasEnd}
use Rattle.quic_exchange.specs.Readable.{AreCut, SomeReset, SomeStop, StopTrue, EventTrue, HasNothingLeft, OnlySends, IsFlowOver, EndsReads, ReadsTrue, CodeTrue, WithholdsNothing, side_of}
use Rattle.quic_exchange.proofs.Eras.{EraFrom}
use Rattle.quic_exchange.proofs.Joined.{Seen, Joined}
use Rattle.quic_exchange.proofs.KeptCalls.{kept-offset, kept-end, was-stopped, was-reset}
use Rattle.quic_exchange.proofs.Flips.{seen-as}
use Rattle.quic_exchange.proofs.Headlines.{length-written}
use Rattle.quic_exchange.proofs.CallsFlows.{flow-changed}
use Rattle.quic_exchange.proofs.CallsSeen.{step-at}
use Rattle.quic_exchange.proofs.CallsSetting.{given-here}
use Rattle.quic_exchange.proofs.CallsReading.{chunks-calls, chunks-given, reads-back}
use Rattle.quic_exchange.proofs.Grown.{joined-from}
use Rattle.quic_exchange.proofs.Stops.{stop-came, event-came, write-stopped, finish-stopped}

-- ---- streams that were given

below : (n i : ℕ) {X : Type 0} (e : X) → i < n → (if nat_le n i then Some e else None) ≡ None
below n i e l = by_test (nat_le n i) (grind (arith, nat_tests))
  where
    by_test : (b : Bool) → b ≡ false → (if b then Some e else None) ≡ None
    by_test true k = cc
    by_test false k = refl

known_by : (w : World) (own : Bool) (d : Dir) (i : ℕ) → (remote_of w d).next_reported ≤ (remote_of w d).max_remote → i < (if own then (own_of w.out d).opened else (remote_of w d).next_reported)
    → ((own ≡ true) × (d ≡ Uni)) ⊎ ((if own then own_refusal w d i else (if nat_le (remote_of w d).max_remote i then Some STREAM_LIMIT_ERROR else None)) ≡ None)
known_by w true Uni i l k = inl (refl, refl)
known_by w true Bi i l k = inr (below w.out.own_bi.opened i STREAM_STATE_ERROR k)
known_by w false d i l k = inr (below (remote_of w d).max_remote i STREAM_LIMIT_ERROR (omega (arith, l, k)))

-- a stream that was given is known, or one that the end only sends on
given_known : (x : LinkedEnd) → Comes x → (id : ℕ) → WasGiven x.world id → ((is_own x.world id ≡ true) × (dir_of id ≡ Uni)) ⊎ (id_refusal x.world id ≡ None)
given_known x f id k =
    let r = permits_now x.made x.calls x.world f.from.run f.remotes (dir_of id) in
    let a = r.accepted in
    let b = r.opened in
    known_by x.world (is_own x.world id) (dir_of id) (index_of id) (omega (arith, a, b)) k

same_sides : (a b : Side) → is_same_side a b ≡ true → b ≡ a
same_sides Client Client e = refl
same_sides Client Server e = cc
same_sides Server Client e = cc
same_sides Server Server e = refl

some_code : (o : Option ℕ) → is_some o ≡ true → (code : ℕ) × (o ≡ Some code)
some_code (Some code) e = (code, refl)
some_code None e = cc

-- ---- what is known after a read

pub flow_here : (P : Flow → Type 0) (who : End) (id : ℕ) (change : Flow → Flow) (p : Past) → P (change (p.flow who id)) → P ((with_flow who id change p).flow who id)
flow_here P who id change p h = flow-changed P who id change p id (λ e. h) (λ n. absurd (let l = sym (itself id) ∙ n in cc))

module _ (p : Past) (who : End) (v : PairState) (x y : LinkedEnd) (s : Seen p who v x y) (id most times : ℕ) (ordered : Bool) where
  abbrev known : Flow
  known = p.flow (peer who) id

  -- ---- nothing is left

  module _ (last : LastAnswer) (q : Pending) (cs : List Chunk) (transmit : Bool) (u : World) (r : Pending) (d : ReadsSome x.world id most times ordered q cs last transmit u r) where
    abbrev calls_read : List Event
    calls_read = with_chunks id most ordered cs (Began id ordered (Ok tt) ∷ x.calls)

    -- the end before the read that gave none
    abbrev between : LinkedEnd
    between = called x calls_read d.read

    goes : GoesOn x y between
    goes =
        let b = Began id ordered (Ok tt) in
        chunks-linked x y id most ordered cs (b ∷ x.calls) d.opened d.read (goes-call x y b d.opened s.linked (record { fits = tt; honest = tt; step = d.begins })) d.gives

    given : (came_on between id).given ≡ with_chunks_read ordered cs known.given
    given = chunks-given id most ordered cs (Began id ordered (Ok tt) ∷ x.calls) ∙ ap (with_chunks_read ordered cs) (s.receives.given id)

    offset_read : (at : ℕ) → SomeStream v.sent (peer who) id p.kept (HasOffset at) → KeptAt calls_read id at
    offset_read at k =
        let c = kept-offset v.sent (peer who) id p.kept x.calls (s.kept_here.streams id) at k in
        record { offset = c.offset; bytes = c.bytes; fin = c.fin; answer = c.answer; is = chunks-calls id most ordered cs (Began id ordered (Ok tt) ∷ x.calls) (Received id c.offset c.bytes c.fin c.answer) (inr c.is); kept = c.kept; has = c.has }

    end_read : SomeStream v.sent (peer who) id p.kept HasEnd → EndKept calls_read id
    end_read k =
        let c = kept-end v.sent (peer who) id p.kept x.calls (s.kept_here.streams id) k in
        record { offset = c.offset; bytes = c.bytes; answer = c.answer; is = chunks-calls id most ordered cs (Began id ordered (Ok tt) ∷ x.calls) (Received id c.offset c.bytes true c.answer) (inr c.is); kept = c.kept }

    nothing_left : last ≡ last_answer.Blocked → HasNothingLeft (reads_chunks ordered cs known) (peer who) id p.kept v.sent ordered
    nothing_left blocked =
        let L : LastAnswer → Type 0 = λ l. LastReads d.read id most ordered l d.ended in
        let half : ReadsHalf d.read id most ordered (Err read_error.Blocked) d.ended = subst L blocked d.last_reads in
        let none = (promised goes.linked).0.answers (Gave id most ordered (Err read_error.Blocked)) d.ended (record { fits = tt; honest = tt; step = half }) in
        let P : ℕ → Type 0 = λ n. KeptAt calls_read id n in
        let G : List ReadChunk → Type 0 = λ g. IsAllGiven (slices g) (length known.written) in
        let A : ℕ → Type 0 = λ n. IsAllGiven (slices (came_on between id).given) n in
        let amount : amount_on y id ≡ length known.written = length-written p v.sent (peer who) y x s.receives id in
        record {
          next = λ o k.
              let row = (((agrees goes.linked).0).reads).order id half.old half.half (half.mode ∙ o) in
              let n : length (given_in_order (with_chunks_read ordered cs known.given)) ≡ (came_on between id).read = ap (λ g. length (given_in_order g)) (sym given) ∙ row in
              none.next o (subst P n (offset_read _ k));
          any = λ o at k. by_cases (is_in_slices (slices (with_chunks_read ordered cs known.given)) at)
              (λ t. t)
              (λ n. absurd (none.any o at (offset_read at k) (ap (λ g. is_in_slices (slices g) at) given ∙ n)));
          end = λ k all. none.end (end_read k) (subst A (sym amount) (subst G (sym given) all));
        }

    -- the reset that was told came
    reset_came : (code : ℕ) → last ≡ last_answer.Reset code → SomeReset v.sent (peer who) id code p.accepted
    reset_came code told =
        let L : LastAnswer → Type 0 = λ l. LastReads d.read id most ordered l d.ended in
        let half : ReadsHalf d.read id most ordered (Err (read_error.Reset code)) d.ended = subst L told d.last_reads in
        let streams = (((agrees goes.linked).0).comes).facts.streams in
        let knows = half-from (trace calls_read) d.read id half.old streams (known-from (trace calls_read) d.read id half.old streams half.half) half.half in
        let has : (trace calls_read id).reset ≡ Some code = sym knows.reset ∙ half.reads.0 in
        let t = was-reset calls_read id code has in
        s.kept_here.resets id code t.0 t.1 (reads-back id most ordered cs last_answer.More x.calls (ReceivedReset id code t.0 (Ok t.1)) tt (inr t.2))

  -- no chunk has more bytes than were asked for
  cut_so : (w : World) (cs : List Chunk) (u : World) → GivesChunks w id most ordered cs u → AreCut most cs
  cut_so w [] u d = tt
  cut_so w (c ∷ cs) u d = (d.1.reads.1.limit, d.1.reads.1.some, cut_so d.0 cs u d.2)

  -- ---- each answer

  ends_reads : (r : ReadSome) (last : LastAnswer) (f : EndState) → ReadsAt (the_end v who) id most times ordered r.chunks.items last r.transmit.0 f
      → EndsReads (past_read p who id ordered (Ok (Read r.chunks (last_of last) r.transmit.0))) v.sent who id ordered times (length r.chunks.items) (last_of last)
  ends_reads r last_answer.Blocked f d =
      let q = (the_end v who).pending in
      let W : World → Type 0 = λ w. ReadsSome w id most times ordered q r.chunks.items last_answer.Blocked r.transmit.0 d.read.streams d.read.pending in
      let P : Flow → Type 0 = λ k. HasNothingLeft k (peer who) id p.kept v.sent ordered in
      flow_here P (peer who) id (reads_chunks ordered r.chunks.items) p (nothing_left last_answer.Blocked q r.chunks.items r.transmit.0 d.read.streams d.read.pending (subst W (sym s.here.world) d.reads) refl)
  ends_reads r last_answer.Ended f d = tt
  ends_reads r (last_answer.Reset code) f d =
      let q = (the_end v who).pending in
      let W : World → Type 0 = λ w. ReadsSome w id most times ordered q r.chunks.items (last_answer.Reset code) r.transmit.0 d.read.streams d.read.pending in
      reset_came (last_answer.Reset code) q r.chunks.items r.transmit.0 d.read.streams d.read.pending (subst W (sym s.here.world) d.reads) code refl
  ends_reads r last_answer.Memory f d = tt
  ends_reads r last_answer.More f d = d.reads.count

  may_begin : (error : ReadableError) (f : EndState) (d : RefusesRead (the_end v who) id ordered error f) → MayAct x y (Began id ordered (Err error)) d.asked.streams
  may_begin error f d = record { fits = tt; honest = tt; step = step-at x.world (the_end v who).streams d.asked.streams (Began id ordered (Err error)) s.here.world d.begins }

  -- the trace of a stream that is over
  over_so : IsOverTrace (came_on x id) → IsFlowOver p v.sent (peer who) id
  over_so (inl e) = inl (sym (s.receives.ended id) ∙ e)
  over_so (inr (inl e)) = let t = was-stopped x.calls id e in inr (inl (t.0, s.receives.stops id t.0 t.1))
  over_so (inr (inr e)) =
      let code = some_code (came_on x id).reset e in
      let t = was-reset x.calls id code.0 code.1 in
      inr (inr (code.0, s.kept_here.resets id code.0 t.0 t.1 t.2))

  -- the code of a reset that was told came
  reset_told : (code : ℕ) (h : Half) → (the_end v who).streams.receive id ≡ Some h → h.reset ≡ Some code → SomeReset v.sent (peer who) id code p.accepted
  reset_told code h held is =
      let streams = (((agrees s.linked).0).comes).facts.streams in
      let there : x.world.receive id ≡ Some h = ap (λ (w : World). w.receive id) s.here.world ∙ held in
      let knows = half-from (trace x.calls) x.world id h streams (known-from (trace x.calls) x.world id h streams there) there in
      let t = was-reset x.calls id code (sym knows.reset ∙ is) in
      s.kept_here.resets id code t.0 t.1 t.2

  code_so : (answer : Result (Option ℕ) HandleError) (f : EndState) → TellsResetAt (the_end v who) id answer f → CodeTrue p v.sent who id (code_reply answer)
  code_so (Ok (Some code)) f d = reset_told code d.tells.0 d.tells.1 d.tells.3
  code_so (Ok None) f d = tt
  code_so (Err handle_error.ClosedStream) f d = tt
  code_so (Err handle_error.OutOfMemory) f d = tt

  module _ (side : x.made.side ≡ side_of who) (given : was_given (the_end v who).streams id ≡ true) where
    closed_so : (f : EndState) → RefusesRead (the_end v who) id ordered readable_error.ClosedStream f → OnlySends who id ⊎ IsFlowOver p v.sent (peer who) id
    closed_so f d =
        let comes = ((agrees s.linked).0).comes in
        elim (given_known x comes id (given-here p who v v x y s id given)) [
          | inl own ↦ inl (same_sides x.world.out.side (initiator_of id) own.0 ∙ comes.side ∙ side, own.1)
          | inr there ↦ inr (over_so ((promised s.linked).0.answers (Began id ordered (Err readable_error.ClosedStream)) d.asked.streams (may_begin readable_error.ClosedStream f d) there))
        ]

    illegal_so : (f : EndState) → RefusesRead (the_end v who) id ordered readable_error.IllegalOrderedRead f → (ordered ≡ true) × (known.unordered ≡ true)
    illegal_so f d =
        let t = (promised s.linked).0.answers (Began id ordered (Err readable_error.IllegalOrderedRead)) d.asked.streams (may_begin readable_error.IllegalOrderedRead f d) in
        (t.0, s.receives.unordered id t.1)

    answered_so : (answer : Result ReadSome ReadableError) (f : EndState) → ReadsSo (the_end v who) id ordered most times answer f → ReadsTrue (past_read p who id ordered (read_reply answer)) v.sent who id ordered most times (read_reply answer)
    answered_so (Ok r) f d = (cut_so d.reads.opened r.chunks.items d.reads.read d.reads.gives, ends_reads r r.last f d)
    answered_so (Err readable_error.ClosedStream) f d = closed_so f d
    answered_so (Err readable_error.IllegalOrderedRead) f d = illegal_so f d
    answered_so (Err readable_error.OutOfMemory) f d = tt

-- ---- stops that are told

module _ (p : Past) (who : End) (v : PairState) (x y : LinkedEnd) (s : Seen p who v x y) where
  stop_told : (id code : ℕ) → (sent_on x id).stopped ≡ Some code → SomeStop v.sent (peer who) id code p.accepted
  stop_told id code e = s.kept_here.stops id code (stop-came x.made x.calls id code e)

  comes_from : From_end x.made x.calls x.world
  comes_from = (((agrees s.linked).0).comes).from

  -- a write
  abbrev WriteTold : ℕ → Result Written WriteError → Type 0
  WriteTold id (Err (write_error.Stopped code)) = SomeStop v.sent (peer who) id code p.accepted
  WriteTold id _ = Unit {0}

  write_told : (id : ℕ) (lists : List (List ℕ)) (answer : Result Written WriteError) (f : EndState) → WritesAt (the_end v who) id lists answer f → WriteTold id answer
  write_told id lists (Ok written) f d = tt
  write_told id lists (Err (write_error.Stopped code)) f d =
      let pending = (the_end v who).pending in
      let W : World → Type 0 = λ w. WritesOwn w id lists false pending (Err (write_error.Stopped code)) f.streams d.0 f.pending in
      let told = comes_from.writes id lists false pending (Err (write_error.Stopped code)) f.streams d.0 f.pending (subst W (sym s.here.world) d.1) in
      stop_told id code (write-stopped (is_sent_on x.made x.calls id) (min (room_in_connection x.calls) (room_in_window x.made x.calls)) code (sent_on x id) told.1)
  write_told id lists (Err write_error.Blocked) f d = tt
  write_told id lists (Err write_error.ClosedStream) f d = tt
  write_told id lists (Err write_error.OutOfMemory) f d = tt

  written_told : (id : ℕ) (answer : Result Written WriteError) → WriteTold id answer → StopTrue p v.sent who id (written_reply answer)
  written_told id (Ok written) t = tt
  written_told id (Err (write_error.Stopped code)) t = t
  written_told id (Err write_error.Blocked) t = tt
  written_told id (Err write_error.ClosedStream) t = tt
  written_told id (Err write_error.OutOfMemory) t = tt

  chunks_told : (id : ℕ) (answer : Result Written WriteError) → WriteTold id answer → StopTrue p v.sent who id (chunks_reply answer)
  chunks_told id (Ok written) t = tt
  chunks_told id (Err (write_error.Stopped code)) t = t
  chunks_told id (Err write_error.Blocked) t = tt
  chunks_told id (Err write_error.ClosedStream) t = tt
  chunks_told id (Err write_error.OutOfMemory) t = tt

  -- an end
  finish_told : (id : ℕ) (answer : Result (Unit {0}) FinishError) (f : EndState) → FinishesAt (the_end v who) id answer f → StopTrue p v.sent who id (finished_reply answer)
  finish_told id (Ok done) f d = tt
  finish_told id (Err (finish_error.Stopped code)) f d = elim d.0.1.0 [
    | inl k ↦ (let H : World → Type 0 = λ w. end_refusal (w.out.halves id) ≡ Some (finish_error.Stopped code) in
        stop_told id code (finish-stopped x.made x.calls x.world comes_from id code (x.world.out.halves id) refl (subst H (sym s.here.world) k)))
    | inr k ↦ cc
  ]
  finish_told id (Err finish_error.ClosedStream) f d = tt
  finish_told id (Err finish_error.OutOfMemory) f d = tt

  -- an event
  event_told : (event : Option StreamEvent) (f : EndState) → TellsNext (the_end v who).streams event f.streams → EventTrue p v.sent who (event_reply event)
  event_told None f d = tt
  event_told (Some (stream_event.Stopped id code)) f d =
      let e = Sending (Polled (Some (stream_event.Stopped id code))) in
      let goes = goes-call x y e f.streams s.linked (record { fits = tt; honest = tt; step = step-at x.world (the_end v who).streams f.streams e s.here.world d }) in
      s.kept_here.stops id code (event-came x.made x.calls f.streams id code (((agrees goes.linked).0).comes).from)
  event_told (Some _) f d = tt

-- ---- the step

module _ (a b : Origin) (p : Past) (old new : PairState) (j : Joined a b p old) where
  abbrev IsRead : End → ℕ → Bool → ℕ → ℕ → Answer → Type 0
  IsRead who id ordered most times reply = ReadsTrue (past_read p who id ordered reply) old.sent who id ordered most times reply

  read_so : (who : End) (id : ℕ) (ordered : Bool) (most times : ℕ) (reply : Answer) → OnEnd (λ e f. OnGiven e id reply f (ReadsOn e id ordered most times reply f)) old who new → IsRead who id ordered most times reply
  read_so who id ordered most times reply n = elim n.does [
    | inl known ↦ (let r = known.1 in
        let P : Answer → Type 0 = λ k. IsRead who id ordered most times k in
        subst P (sym r.reply_is)
        (seen-as a b p old who j (IsRead who id ordered most times (read_reply r.answer)) (λ x y side s. answered_so p who old x y s id most times ordered side known.0 r.answer n.end r.reads)))
    | inr unknown ↦ (let P : Answer → Type 0 = λ k. IsRead who id ordered most times k in subst P (sym unknown.1) tt)
  ]

  asked_so : (who : End) (id : ℕ) (reply : Answer) → OnEnd (λ e f. OnGiven e id reply f (AsksReset e id reply f)) old who new → CodeTrue p old.sent who id reply
  asked_so who id reply n = elim n.does [
    | inl known ↦ (let r = known.1 in
        let P : Answer → Type 0 = λ k. CodeTrue p old.sent who id k in
        subst P (sym r.reply_is)
        (seen-as a b p old who j (CodeTrue p old.sent who id (code_reply r.answer)) (λ x y side s. code_so p who old x y s id 0 0 true r.answer n.end r.tells)))
    | inr unknown ↦ (let P : Answer → Type 0 = λ k. CodeTrue p old.sent who id k in subst P (sym unknown.1) tt)
  ]

  stop_on : (who : End) (id : ℕ) (reply : Answer) {Does : EndState → EndState → Type 0} → OnEnd (λ e f. OnGiven e id reply f (Does e f)) old who new
      → ((x y : LinkedEnd) (s : Seen p who old x y) (f : EndState) → Does (the_end old who) f → StopTrue p old.sent who id reply) → StopTrue p old.sent who id reply
  stop_on who id reply n does = elim n.does [
    | inl known ↦ seen-as a b p old who j (StopTrue p old.sent who id reply) (λ x y side s. does x y s n.end known.1)
    | inr unknown ↦ (let P : Answer → Type 0 = λ k. StopTrue p old.sent who id k in subst P (sym unknown.1) tt)
  ]

  write_stops : (who : End) (id : ℕ) (bytes : List ℕ) (reply : Answer) → NextOrdinary old (steps.Write who id bytes) reply new → StopTrue p old.sent who id reply
  write_stops who id bytes reply n = stop_on who id reply n (λ x y s f d.
      let P : Answer → Type 0 = λ k. StopTrue p old.sent who id k in
      subst P (sym d.reply_is) (written_told p who old x y s id d.answer (write_told p who old x y s id (slice_lists bytes) d.answer f d.writes)))

  chunks_stop : (who : End) (id : ℕ) (chunks : List (List ℕ)) (reply : Answer) → NextOrdinary old (steps.WriteChunks who id chunks) reply new → StopTrue p old.sent who id reply
  chunks_stop who id chunks reply n = stop_on who id reply n (λ x y s f k.
      let P : Answer → Type 0 = λ r. StopTrue p old.sent who id r in
      elim k [
        | inl d ↦ subst P (sym d.reply_is) (chunks_told p who old x y s id d.answer (write_told p who old x y s id chunks d.answer f d.writes))
        | inr wants ↦ subst P (sym wants.0) tt
      ])

  finish_stops : (who : End) (id : ℕ) (reply : Answer) → NextOrdinary old (steps.Finish who id) reply new → StopTrue p old.sent who id reply
  finish_stops who id reply n = stop_on who id reply n (λ x y s f d.
      let P : Answer → Type 0 = λ k. StopTrue p old.sent who id k in
      subst P (sym d.reply_is) (finish_told p who old x y s id d.answer f d.finishes))

  poll_stops : (who : End) (reply : Answer) → NextOrdinary old (steps.Poll who) reply new → EventTrue p old.sent who reply
  poll_stops who reply n =
      let d = n.does in
      let P : Answer → Type 0 = λ k. EventTrue p old.sent who k in
      subst P (sym d.reply_is) (seen-as a b p old who j (EventTrue p old.sent who (event_reply d.event)) (λ x y side s. event_told p who old x y s d.event n.end d.polls))

  readable_next : (step : Step) (reply : Answer) → NextOrdinary old step reply new → WithholdsNothing p old.sent step reply
  readable_next (steps.Read who id ordered most times) reply n = read_so who id ordered most times reply n
  readable_next (steps.ReceivedReset who id) reply n = asked_so who id reply n
  readable_next (steps.Write who id bytes) reply n = write_stops who id bytes reply n
  readable_next (steps.WriteChunks who id chunks) reply n = chunks_stop who id chunks reply n
  readable_next (steps.Finish who id) reply n = finish_stops who id reply n
  readable_next (steps.Poll who) reply n = poll_stops who reply n
  readable_next _ reply n = tt

-- whatever the network did, nothing that was kept is withheld
pub readable-so : (a b : Origin) (h : History) (old new : PairState) (step : Step) (reply : Answer) → EraFrom a b h old → NextOrdinary old step reply new → WithholdsNothing (past_of h) old.sent step reply
readable-so a b h old new step reply f n = readable_next a b (past_of h) old new (joined-from f) step reply n
