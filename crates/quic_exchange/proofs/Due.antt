-- No step withholds what was due.
use Rattle.std.proofs.Common.{◌≡◌, ℕ, Bool, true, false, eqb, List, [], ◌∷◌, ◌++◌, length, Option, Some, None, Result, Ok, Err, refl, sym, ap, ◌∙◌, subst, inl, inr, arith}
use Rattle.std.specs.Prelude.{◌||◌, ◌&&◌, not, ◌==◌, ◌-◌, min, nat_le, is_none, if◌then◌else◌}
use Rattle.std.specs.List.{concat}
use Rattle.std.proofs.lemmas.Bool.Decides.{nat_tests}
use Rattle.std.proofs.Math.Nat.{min-zero, zero-min}
use Rattle.std.proofs.lemmas.Option.{same_Some}
use Rattle.quic_values.specs.declared.memory.OutOfMemory.{OutOfMemory}
use Rattle.quic_values.specs.declared.ids.Dir.{Dir}
use Rattle.quic_values.specs.declared.ids.Dir.TheVariants.{Bi, Uni}
use Rattle.quic_values.specs.Ids.{stream_id}
use Rattle.quic_wire.specs.declared.frame.Frame.{Frame}
use Rattle.quic_wire.specs.declared.frame.Frame.TheVariants as frames
use Rattle.quic_wire.specs.declared.error.ReceiveError.{ReceiveError}
use Rattle.quic_wire.specs.declared.error.ReceiveError.TheVariants as receive_error
use Rattle.quic_sending.specs.declared.send.Send.{Send}
use Rattle.quic_sending.specs.declared.send.Written.{Written}
use Rattle.quic_sending.specs.declared.send.WriteError.{WriteError}
use Rattle.quic_sending.specs.declared.send.WriteError.TheVariants as write_error
use Rattle.quic_sending.specs.Buffer.{total_length}
use Rattle.quic_sending.specs.Sending.{permitted, stream_room, write_refusal, is_ready}
use Rattle.quic_sending.specs.Source.{slice_lists}
use Rattle.quic_sending.proofs.Cuts.{length-concat}
use Rattle.quic_limits.specs.Credit.{Credit, credited, is_max_data_due}
use Rattle.quic_limits.specs.Remote.{is_max_streams_due}
use Rattle.quic_limits.specs.SendingCredit.{writable}
use Rattle.quic_receiving.specs.Half.{Half}
use Rattle.quic_sending.specs.declared.errors.HandleError.{HandleError}
use Rattle.quic_sending.specs.declared.errors.HandleError.TheVariants as handle_error
use Rattle.quic_receiving.specs.declared.errors.ReadableError.{ReadableError}
use Rattle.quic_receiving.specs.declared.errors.ReadableError.TheVariants as readable_error
use Rattle.quic_receiving.specs.declared.transmit.ShouldTransmit.{ShouldTransmit}
use Rattle.quic_outgoing.specs.Outgoing.{Outgoing, own_of, is_stuck}
use Rattle.quic_outgoing.specs.Writing.{refusal_of_write}
use Rattle.quic_retransmits.specs.Pending.{Pending, nothing, merged_if, thin_view}
use Rattle.quic_retransmits.specs.Queueing.{with_id, with_stop_sending}
use Rattle.quic_history.specs.World.{World, with_freed, noticed, advanced, with_credit, with_receive}
use Rattle.quic_history.specs.Sends.{with_opened}
use Rattle.quic_history.specs.SendEvents.{SendEvent, SendStep, RaisedData, RaisedLimit, RaisedCount, StoppedOwn}
use Rattle.quic_history.specs.Receiving.{Receives, ReceivesReset, credited_to}
use Rattle.quic_history.specs.Reading.{progress_of, is_window_queued, bytes_in}
use Rattle.quic_history.specs.declared.progress.Progress.{Progress}
use Rattle.quic_history.specs.declared.progress.Progress.TheVariants as progress
use Rattle.quic_history.specs.Halves.{is_due_in}
use Rattle.quic_history.proofs.SendFreed.{steady-send-freed, without_half}
use Rattle.quic_history.proofs.SendSteps.{kind-of, opening}
use Rattle.quic_history.proofs.StreamSteps.{credit-noticed, credit-freed}
use Rattle.quic_history.proofs.Traces.{itself}
use Rattle.quic_history.specs.declared.progress.LastAnswer.{LastAnswer}
use Rattle.quic_history.specs.declared.progress.LastAnswer.TheVariants as last_answer
use Rattle.quic_streams.specs.declared.batches.ReadSome.{ReadSome}
use Rattle.quic_streams.specs.declared.settling.SentPayload.{SentPayload}
use Rattle.quic_streams.specs.Sent.{sent_view, report_view}
use Rattle.quic_link.specs.Endpoints.{IsOneOf}
use Rattle.quic_endpoint.specs.Ends.{EndState, OpensAt, WritesAt, ResetsAt, StopsReading, TellsResetAt, ReadsAt, SetsConcurrentAt, with_counts_told, with_limit_told, with_window_set}
use Rattle.quic_endpoint.specs.Reports.{LosesPayloadAt, AcksPayloadAt}
use Rattle.quic_endpoint.specs.Receiving.{MakesCall, ReceivesAt, event_of, done_so, stopped_so}
use Rattle.quic_steps.specs.declared.steps.End.{End}
use Rattle.quic_steps.specs.declared.steps.End.TheVariants.{A, B}
use Rattle.quic_exchange.proofs.Origins.{Origin}
use Rattle.quic_steps.specs.declared.steps.PayloadPart.{PayloadPart}
use Rattle.quic_steps.specs.declared.steps.Step.{Step}
use Rattle.quic_steps.specs.declared.steps.Step.TheVariants as steps
use Rattle.quic_steps.specs.declared.steps.Reply.TheVariants.{Done, Payload}
use Rattle.quic_steps.specs.declared.steps.PairError.{PairError}
use Rattle.quic_steps.specs.declared.steps.PairError.TheVariants.{UnknownId}
use Rattle.quic_exchange.specs.Sent.{Sent, Unsettled}
use Rattle.quic_exchange.specs.Replies.{Answer, opened_reply, written_reply, chunks_reply, handled_reply, code_reply, read_reply, done_reply, received_reply, report_reply, last_of}
use Rattle.quic_exchange.specs.State.{PairState, OnEnd, peer, the_end, with_end, with_sent}
use Rattle.quic_exchange.specs.Calls.{OnGiven, ReadsSo}
use Rattle.quic_exchange.specs.declared.unsettled.Report.TheVariants.{Lost, Acknowledged}
use Rattle.quic_exchange.specs.Payloads.{noted_of}
use Rattle.quic_exchange.specs.Unsettled.{goes_on, may_report}
use Rattle.quic_exchange.specs.Steps.{NextOrdinary, Emitted, EmittedPart, HandsOver, Delivers, SettlesPayload, HasPayload}
use Rattle.quic_exchange.specs.History.{History, past_of}
use Rattle.quic_exchange.proofs.Eras.{EraFrom}
use Rattle.quic_exchange.specs.Due.{AsksStreams, AsksData, AsksWindow, AsksAllOf, OpensAll, LeavesRoom, WritesAll, AsksForReset, AsksStop, AsksStopIf, AsksWindowIf, AsksAfterRead, AsksStreamsIf, AsksLarger, IsFull, IsFullIf, IsFullOf, IsFullOfIf, LosesNone, LosesNoneIf, HasConsumed, AsksAfterFrame, AsksAgain, OnWriter, AsksFor}
use Rattle.quic_exchange.proofs.Left.{AreLeft}
use Rattle.quic_exchange.proofs.Grown.{joined-from, grown-from}
use Rattle.quic_exchange.proofs.Flips.{seen-as}
use Rattle.quic_exchange.proofs.DuePayloads.{full-payload, loses-none, full-part, loses-none-of, asks-all-of, is-last}

-- ---- the end that a step changed

changed_end : (old new : PairState) (who : End) (e : EndState) → new ≡ with_end old who e → the_end new who ≡ e
changed_end old new A e is = ap (λ (v : PairState). v.a) is
changed_end old new B e is = ap (λ (v : PairState). v.b) is

sent_end : (old new : PairState) (who : End) (e : EndState) (sent : List Sent) → new ≡ with_sent (with_end old who e) sent → the_end new who ≡ e
sent_end old new A e sent is = ap (λ (v : PairState). v.a) is
sent_end old new B e sent is = ap (λ (v : PairState). v.b) is

-- ---- counts that are told

or_right : (a b : Bool) → b ≡ true → (a || b) ≡ true
or_right true b e = refl
or_right false b e = e

counts_told : (e : EndState) → AsksStreams (with_counts_told e)
counts_told e = record { bi = or_right e.pending.max_streams_bi (is_max_streams_due e.streams.bi); uni = or_right e.pending.max_streams_uni (is_max_streams_due e.streams.uni) }

asks_at : (e f : EndState) → f ≡ with_counts_told e → AsksStreams f
asks_at e f is = subst AsksStreams (sym is) (counts_told e)

-- ---- streams that are opened

opens_all : (e f : EndState) (dir : Dir) (answer : Result (Option ℕ) OutOfMemory) → OpensAt e dir answer f → OpensAll e.streams.out dir (opened_reply answer)
opens_all e f dir (Ok (Some id)) d = tt
opens_all e f dir (Ok None) d = elim d.0.0 [ inl closed ↦ cc | inr reached ↦ reached ]
opens_all e f dir (Err error) d = tt

-- ---- writes

-- nothing may be written where a limit leaves nothing, and on a half that refuses for its limit
no_least : (room : ℕ) → 0 ≡ min 0 room
no_least room = sym (zero-min room)

no_room : (s : Send) (limit : ℕ) → write_refusal s ≡ Some write_error.Blocked → 0 ≡ permitted s limit
no_room s limit e = by_all (is_ready s.state) s.stop_reason (nat_le s.max_data s.pending.offset) refl refl refl
  where
    by_all : (r : Bool) (o : Option ℕ) (b : Bool) → is_ready s.state ≡ r → s.stop_reason ≡ o → nat_le s.max_data s.pending.offset ≡ b → 0 ≡ permitted s limit
    by_all true None true r o b = let z : stream_room s ≡ 0 = grind (arith, nat_tests, b) in rw z (sym (min-zero limit))
    by_all true None false r o b = let k = rw (r, o, b) at e in cc
    by_all true (Some code) b r o k = let j = rw (r, o) at e in cc
    by_all false o b r p k = let j = rw r at e in cc

is_zero : (n : ℕ) → eqb n 0 ≡ true → n ≡ 0
is_zero n e = grind (arith, nat_tests, e)

blocked_room : (u : Outgoing) (id : ℕ) (o : Option Send) → u.halves id ≡ o → refusal_of_write u o ≡ Some write_error.Blocked → LeavesRoom u id 0
blocked_room u id None h e = cc
blocked_room u id (Some s) h e = by_stuck (is_stuck u) refl e
  where
    by_stuck : (b : Bool) → is_stuck u ≡ b → (if b then Some write_error.Blocked else write_refusal s) ≡ Some write_error.Blocked → LeavesRoom u id 0
    by_stuck true k e' = record { half = s; is_held = h; room_is = rw (is_zero (writable u.budget) k) (no_least (stream_room s)) }
    by_stuck false k e' = record { half = s; is_held = h; room_is = no_room s (writable u.budget) e' }

-- as the answer of a write says
abbrev Room : EndState → ℕ → ℕ → Result Written WriteError → Type 0
Room e id count (Ok written) = (room : ℕ) × LeavesRoom e.streams.out id room × (written.bytes ≡ min room count)
Room e id count (Err write_error.Blocked) = LeavesRoom e.streams.out id 0
Room e id count (Err error) = Unit {0}

room_of : (e f : EndState) (id : ℕ) (lists : List (List ℕ)) (answer : Result Written WriteError) → WritesAt e id lists answer f → Room e id (total_length lists) answer
room_of e f id lists (Ok written) d =
    let t = d.1.3.0 in
    (permitted t.half (writable e.streams.out.budget), record { half = t.half; is_held = t.is_held; room_is = refl }, ap (λ (w : Written). w.bytes) d.1.4 ∙ t.bytes)
room_of e f id lists (Err write_error.Blocked) d = elim d.1 [
  | inl closed ↦ (let c = closed.0 in cc)
  | inr k ↦ blocked_room e.streams.out id (e.streams.out.halves id) refl k.2.1.0
]
room_of e f id lists (Err (write_error.Stopped code)) d = tt
room_of e f id lists (Err write_error.ClosedStream) d = tt
room_of e f id lists (Err write_error.OutOfMemory) d = tt

wrote_all : (e : EndState) (id count : ℕ) (answer : Result Written WriteError) → Room e id count answer → WritesAll e.streams.out id count (written_reply answer)
wrote_all e id count (Ok written) r = r
wrote_all e id count (Err write_error.Blocked) r = r
wrote_all e id count (Err (write_error.Stopped code)) r = tt
wrote_all e id count (Err write_error.ClosedStream) r = tt
wrote_all e id count (Err write_error.OutOfMemory) r = tt

wrote_chunks : (e : EndState) (id count : ℕ) (answer : Result Written WriteError) → Room e id count answer → WritesAll e.streams.out id count (chunks_reply answer)
wrote_chunks e id count (Ok written) r = r
wrote_chunks e id count (Err write_error.Blocked) r = r
wrote_chunks e id count (Err (write_error.Stopped code)) r = tt
wrote_chunks e id count (Err write_error.ClosedStream) r = tt
wrote_chunks e id count (Err write_error.OutOfMemory) r = tt

one_slice : (bytes : List ℕ) → total_length (slice_lists bytes) ≡ length bytes
one_slice [] = refl
one_slice (b ∷ bs) = omega arith

-- ---- resets and stops

asks_reset : (e f : EndState) (id code : ℕ) (answer : Result (Unit {0}) HandleError) → ResetsAt e id code answer f → AsksForReset id code (handled_reply answer) f
asks_reset e f id code (Ok done) d =
    let P : Pending → Type 0 = λ p. IsOneOf (id, code) p.reset_stream in
    subst P (sym d.1.4) (is-last (id, code) e.pending.reset_stream)
asks_reset e f id code (Err handle_error.ClosedStream) d = tt
asks_reset e f id code (Err handle_error.OutOfMemory) d = tt

asks_stop : (e f : EndState) (id code : ℕ) (answer : Result (Unit {0}) HandleError) → StopsReading e id code answer f → AsksStopIf e id code (handled_reply answer) f
asks_stop e f id code (Ok done) d =
    let t = d.stops in
    let F : EndState → Type 0 = λ k. AsksStop e id code k in
    subst F (sym d.is) (record {
      stop = λ h held unreset.
          let same : t.0 ≡ h = same_Some t.0 h (sym t.2 ∙ held) in
          let no : is_none t.0.reset ≡ true = ap (λ (k : Half). is_none k.reset) same ∙ ap is_none unreset in
          let P : Pending → Type 0 = λ p. IsOneOf (record { id = id; error_code = code }) p.stop_sending in
          let Q : Bool → Type 0 = λ b. IsOneOf (record { id = id; error_code = code }) (with_stop_sending e.pending.stop_sending id code b) in
          subst P (sym t.7) (subst Q (sym no) (is-last (record { id = id; error_code = code }) e.pending.stop_sending));
      limit = (let P : Pending → Type 0 = λ p. is_max_data_due d.stopped.streams.credit ≡ true → p.max_data ≡ true in
          subst P (sym t.7) (or_right e.pending.max_data (is_max_data_due d.stopped.streams.credit)));
    })
asks_stop e f id code (Err handle_error.ClosedStream) d = tt
asks_stop e f id code (Err handle_error.OutOfMemory) d = tt

stop_counts : (e f : EndState) (id code : ℕ) (answer : Result (Unit {0}) HandleError) → StopsReading e id code answer f → AsksStreamsIf (handled_reply answer) f
stop_counts e f id code (Ok done) d = asks_at d.stopped f d.is
stop_counts e f id code (Err handle_error.ClosedStream) d = asks_at d.stopped f d.is
stop_counts e f id code (Err handle_error.OutOfMemory) d = tt

-- ---- reads

asked_id : (ids : ℕ → Bool) (id : ℕ) (due : Bool) → due ≡ true → (with_id ids id due) id ≡ true
asked_id ids id true e = or_right (ids id) (true && (id == id)) (itself id)
asked_id ids id false e = cc

module _ (e f : EndState) (id most times : ℕ) (ordered : Bool) (r : ReadSome) where
  module _ (last : LastAnswer) (d : ReadsAt e id most times ordered r.chunks.items last r.transmit.0 f) where
    asks_data : AsksData f
    asks_data =
        let s = d.reads in
        let F : EndState → Type 0 = λ k. AsksData k in
        let P : Pending → Type 0 = λ p. is_max_data_due d.read.streams.credit ≡ true → p.max_data ≡ true in
        let C : Credit → Type 0 = λ c. is_max_data_due c ≡ true → (e.pending.max_data || is_max_data_due (credited s.ended.credit (bytes_in r.chunks.items))) ≡ true in
        subst F (sym d.is) (subst P (sym s.pending) (subst C (sym (ap (λ (w : World). w.credit) s.is)) (or_right e.pending.max_data (is_max_data_due (credited s.ended.credit (bytes_in r.chunks.items))))))

    asks_counts : AsksStreams f
    asks_counts = asks_at d.read f d.is

    -- the reader goes on
    asks_window : progress_of last ≡ progress.Readable → AsksWindow f id
    asks_window goes =
        let s = d.reads in
        let F : EndState → Type 0 = λ k. AsksWindow k id in
        let P : Pending → Type 0 = λ p. is_due_in d.read.streams.window (d.read.streams.receive id) ≡ true → p.max_stream_data id ≡ true in
        let W : World → Type 0 = λ w. is_due_in w.window (w.receive id) ≡ true → (with_id e.pending.max_stream_data id (is_window_queued (progress_of last) s.ended (s.ended.receive id))) id ≡ true in
        let G : Progress → Type 0 = λ g. is_due_in s.ended.window (s.ended.receive id) ≡ true → (with_id e.pending.max_stream_data id (is_window_queued g s.ended (s.ended.receive id))) id ≡ true in
        subst F (sym d.is) (subst P (sym s.pending) (subst W (sym s.is) (subst G (sym goes) (asked_id e.pending.max_stream_data id (is_due_in s.ended.window (s.ended.receive id))))))

  asks_read : (last : LastAnswer) (d : ReadsAt e id most times ordered r.chunks.items last r.transmit.0 f) → AsksWindowIf (last_of last) f id
  asks_read last_answer.Blocked d = asks_window last_answer.Blocked d refl
  asks_read last_answer.Ended d = tt
  asks_read (last_answer.Reset code) d = tt
  asks_read last_answer.Memory d = asks_window last_answer.Memory d refl
  asks_read last_answer.More d = asks_window last_answer.More d refl

asks_after_read : (e f : EndState) (id most times : ℕ) (ordered : Bool) (answer : Result ReadSome ReadableError) → ReadsSo e id ordered most times answer f → AsksAfterRead id (read_reply answer) f
asks_after_read e f id most times ordered (Ok r) d = (asks_read e f id most times ordered r r.last d, asks_data e f id most times ordered r r.last d)
asks_after_read e f id most times ordered (Err readable_error.ClosedStream) d = tt
asks_after_read e f id most times ordered (Err readable_error.IllegalOrderedRead) d = tt
asks_after_read e f id most times ordered (Err readable_error.OutOfMemory) d = tt

read_counts : (e f : EndState) (id most times : ℕ) (ordered : Bool) (answer : Result ReadSome ReadableError) → ReadsSo e id ordered most times answer f → AsksStreamsIf (read_reply answer) f
read_counts e f id most times ordered (Ok r) d = asks_counts e f id most times ordered r r.last d
read_counts e f id most times ordered (Err readable_error.ClosedStream) d = asks_at d.asked f d.is
read_counts e f id most times ordered (Err readable_error.IllegalOrderedRead) d = asks_at d.asked f d.is
read_counts e f id most times ordered (Err readable_error.OutOfMemory) d = tt

asks_code : (e f : EndState) (id : ℕ) (answer : Result (Option ℕ) HandleError) → TellsResetAt e id answer f → AsksStreamsIf (code_reply answer) f
asks_code e f id (Ok (Some code)) d = asks_at d.asked f d.is
asks_code e f id (Ok None) d = asks_at d.asked f d.is
asks_code e f id (Err handle_error.ClosedStream) d = asks_at d.asked f d.is
asks_code e f id (Err handle_error.OutOfMemory) d = tt

asks_concurrent : (e f : EndState) (dir : Dir) (count : ℕ) (answer : Result (Unit {0}) OutOfMemory) → SetsConcurrentAt e dir count answer f → AsksStreamsIf (done_reply answer) f
asks_concurrent e f dir count (Ok done) d = asks_at d.set f d.is
asks_concurrent e f dir count (Err error) d = tt

asks_larger : (e : EndState) (window : ℕ) (larger : Bool) → larger ≡ true → (with_window_set e window larger).pending.max_data ≡ true
asks_larger e window larger l = or_right e.pending.max_data larger l

-- ---- frames that are handed over

opened_credit : (u : World) (d : Dir) (id : ℕ) (o : Outgoing) → (with_opened u d id o).credit ≡ u.credit
unfolding with_receive
opened_credit u Bi id o = refl
opened_credit u Uni id o = refl

-- calls of the sending side give no credit
credit_sending : (u : World) (e : SendEvent) (v : World) → SendStep u e v → v.credit ≡ u.credit
credit_sending u e v s = elim (kind-of u e v s) [
  | inl p ↦ p.credit
  | inr k ↦ elim k [
    | inl o ↦ ap (λ (w : World). w.credit) o.is ∙ opened_credit u o.dir (stream_id u.out.side o.dir (own_of u.out o.dir).opened) (opening u o.dir (stream_id u.out.side o.dir (own_of u.out o.dir).opened))
    | inr f ↦ f.rest.credit ∙ ap (λ k. k.credit) (steady-send-freed (without_half u f.id f.budget) f.id)
  ]
]

-- what an answer tells of credit: if bytes were consumed, a limit that is due is told
abbrev Tells : World → Result ShouldTransmit ReceiveError → World → Type 0
Tells u (Ok transmit) v = HasConsumed u.credit v.credit → is_max_data_due v.credit ≡ true → transmit.0 ≡ true
Tells u (Err error) v = HasConsumed u.credit v.credit → ⊥

-- the limit, and what is owed of the window
abbrev limits_of : Credit → ℕ × ℕ
limits_of c = (c.local_max_data, c.shrink_debt)

not_less : (u v : World) → limits_of v.credit ≡ limits_of u.credit → HasConsumed u.credit v.credit → ⊥
not_less u v e (inl l) = absurd (omega (arith, ap (λ (x : ℕ × ℕ). x.0) e, l))
not_less u v e (inr l) = absurd (omega (arith, ap (λ (x : ℕ × ℕ). x.1) e, l))

-- both stay
tells_still : (u : World) (answer : Result ShouldTransmit ReceiveError) (v : World) → limits_of v.credit ≡ limits_of u.credit → Tells u answer v
tells_still u (Ok transmit) v e = λ l due. absurd (not_less u v e l)
tells_still u (Err error) v e = λ l. not_less u v e l

limit_same : (u v : World) → v ≡ u → limits_of v.credit ≡ limits_of u.credit
limit_same u v e = ap (λ (w : World). limits_of w.credit) e

limit_advanced : (u v : World) (id : ℕ) (old new : Half) → v ≡ advanced u id old new → limits_of v.credit ≡ limits_of u.credit
unfolding with_receive
limit_advanced u v id old new e = ap (λ (w : World). limits_of w.credit) e

limit_noticed : (u v : World) (id : ℕ) (readable : Bool) (old new : Half) → v ≡ noticed (advanced u id old new) id readable → limits_of v.credit ≡ limits_of u.credit
limit_noticed u v id readable old new e =
    ap (λ (w : World). limits_of w.credit) e ∙ ap limits_of (credit-noticed (advanced u id old new) id readable) ∙ limit_advanced u (advanced u id old new) id old new refl

-- data that was taken
tells_data : (u v : World) (id : ℕ) (old new : Half) (fin stopped : Bool) (transmit : ShouldTransmit)
    → v ≡ (let w = advanced u id old new in if stopped then with_credit (if fin then with_freed w id else w) (new.end - old.end) else noticed w id true)
    → transmit.0 ≡ (stopped && is_max_data_due v.credit) → Tells u (Ok transmit) v
tells_data u v id old new fin true transmit e t = λ l due. t ∙ due
tells_data u v id old new fin false transmit e t = λ l due. absurd (not_less u v (limit_noticed u v id true old new e) l)

tells_received : (u v : World) (id offset : ℕ) (bytes : List ℕ) (fin : Bool) (answer : Result ShouldTransmit ReceiveError) → Receives u id offset bytes fin answer v → Tells u answer v
tells_received u v id offset bytes fin (Ok transmit) r = elim r [
  | inl dropped ↦ tells_still u (Ok transmit) v (limit_same u v dropped.3)
  | inr taken ↦ tells_data u v id taken.1 taken.2 fin taken.1.stopped transmit taken.5 taken.4
]
tells_received u v id offset bytes fin (Err (receive_error.Transport error)) r = elim r [
  | inl unknown ↦ tells_still u (Err (receive_error.Transport error)) v (limit_same u v unknown.1)
  | inr there ↦ tells_still u (Err (receive_error.Transport error)) v (limit_advanced u v id there.0 there.1 there.3)
]
tells_received u v id offset bytes fin (Err receive_error.CompactionMemory) r = tells_still u (Err receive_error.CompactionMemory) v (limit_advanced u v id r.0 r.1 r.3)
tells_received u v id offset bytes fin (Err receive_error.OutOfMemory) r = tells_still u (Err receive_error.OutOfMemory) v (limit_same u v r)

-- a reset that was taken
limit_freed : (u v : World) (id : ℕ) (old new : Half) (stopped : Bool)
    → v ≡ (let w = noticed (advanced u id old new) id (not stopped) in if stopped then with_freed w id else w) → limits_of v.credit ≡ limits_of u.credit
limit_freed u v id old new true e =
    ap (λ (w : World). limits_of w.credit) e ∙ ap limits_of (credit-freed (noticed (advanced u id old new) id false) id) ∙ limit_noticed u (noticed (advanced u id old new) id false) id false old new refl
limit_freed u v id old new false e = limit_noticed u v id true old new e

tells_rest : (u w v : World) (n : ℕ) (nil : Bool) (transmit : ShouldTransmit) → limits_of w.credit ≡ limits_of u.credit → v ≡ (if nil then w else with_credit w n)
    → transmit.0 ≡ (not nil && is_max_data_due v.credit) → Tells u (Ok transmit) v
tells_rest u w v n true transmit k e t = λ l due. absurd (not_less u v (limit_same w v e ∙ k) l)
tells_rest u w v n false transmit k e t = λ l due. t ∙ due

tells_reset : (u v : World) (id code final : ℕ) (answer : Result ShouldTransmit ReceiveError) → ReceivesReset u id code final answer v → Tells u answer v
tells_reset u v id code final (Ok transmit) r = elim r [
  | inl dropped ↦ tells_still u (Ok transmit) v (limit_same u v dropped.3)
  | inr k ↦ elim k [
    | inl again ↦ tells_still u (Ok transmit) v (limit_same u v again.4)
    | inr first ↦ (let old = first.0 in let new = first.1 in
        let w = noticed (advanced u id old new) id (not old.stopped) in
        tells_rest u (if old.stopped then with_freed w id else w) v (new.end - credited_to old) (new.end - credited_to old == 0) transmit
        (limit_freed u (if old.stopped then with_freed w id else w) id old new old.stopped refl) first.4 first.3)
  ]
]
tells_reset u v id code final (Err (receive_error.Transport error)) r = elim r [
  | inl unknown ↦ tells_still u (Err (receive_error.Transport error)) v (limit_same u v unknown.1)
  | inr there ↦ tells_still u (Err (receive_error.Transport error)) v (limit_same u v there.3)
]
tells_reset u v id code final (Err receive_error.CompactionMemory) r = absurd r
tells_reset u v id code final (Err receive_error.OutOfMemory) r = tells_still u (Err receive_error.OutOfMemory) v (limit_same u v r)

tells_sending : (u : World) (e : SendEvent) (answer : Result ShouldTransmit ReceiveError) (v : World) → SendStep u e v → Tells u answer v
tells_sending u e answer v s = tells_still u answer v (ap limits_of (credit_sending u e v s))

tells_frame : (u v : World) (frame : Frame) (answer : Result ShouldTransmit ReceiveError) → MakesCall u (event_of frame answer) v → Tells u answer v
tells_frame u v (frames.Stream g) answer c = tells_received u v g.id g.offset g.bytes g.fin answer c
tells_frame u v (frames.ResetStream g) answer c = tells_reset u v g.id g.error_code g.final_offset answer c
tells_frame u v (frames.StopSending g) answer c = tells_sending u (StoppedOwn g.id g.error_code (stopped_so answer)) answer v c
tells_frame u v (frames.MaxData limit) answer c = tells_sending u (RaisedData limit) answer v c
tells_frame u v (frames.MaxStreamData id limit) answer c = tells_sending u (RaisedLimit id limit (done_so answer)) answer v c
tells_frame u v (frames.MaxStreams dir count) answer c = tells_sending u (RaisedCount dir count (done_so answer)) answer v c
tells_frame u v _ answer c = tells_still u answer v (limit_same u v c)

-- an end that a frame was handed to, if memory did not run out
abbrev AsksAfterAnswer : Result ShouldTransmit ReceiveError → EndState → EndState → Type 0
AsksAfterAnswer (Err receive_error.OutOfMemory) e f = Unit {0}
AsksAfterAnswer answer e f = AsksAfterFrame e f

asks_refused : (e t f : EndState) → f ≡ with_counts_told t → (HasConsumed e.streams.credit t.streams.credit → ⊥) → AsksAfterFrame e f
asks_refused e t f is still = subst (λ k. AsksAfterFrame e k) (sym is) (record { counts = counts_told t; limit = λ l. absurd (still l) })

asks_frame : (e f : EndState) (frame : Frame) (answer : Result ShouldTransmit ReceiveError) → ReceivesAt e frame answer f → AsksAfterAnswer answer e f
asks_frame e f frame (Ok transmit) r =
    let t = r.taken in
    let F : EndState → Type 0 = λ k. AsksAfterFrame e k in
    subst F (sym r.is) (record {
      counts = counts_told (with_limit_told transmit.0 t);
      limit = λ l due. or_right t.pending.max_data transmit.0 (tells_frame e.streams t.streams frame (Ok transmit) r.call l due);
    })
asks_frame e f frame (Err (receive_error.Transport error)) r = asks_refused e r.taken f r.is (tells_frame e.streams r.taken.streams frame (Err (receive_error.Transport error)) r.call)
asks_frame e f frame (Err receive_error.CompactionMemory) r = asks_refused e r.taken f r.is (tells_frame e.streams r.taken.streams frame (Err receive_error.CompactionMemory) r.call)
asks_frame e f frame (Err receive_error.OutOfMemory) r = tt

-- ---- steps on payloads

module _ (old new : PairState) where
  same_sent : (number : ℕ) (h k : HasPayload old number) → h.sent ≡ k.sent
  same_sent number h k = same_Some h.sent k.sent (sym h.is ∙ k.is)

  on_writer : (Holds : Sent → Type 0) (number : ℕ) (reply : Answer) (h : HasPayload old number) → Holds h.sent → OnWriter old number Holds reply
  on_writer Holds number (Ok reply) h holds = λ k. subst Holds (same_sent number h k) holds
  on_writer Holds number (Err error) h holds = tt

  abbrev AfterFrame : Sent → Type 0
  AfterFrame s = AsksAfterFrame (the_end old (peer s.writer)) (the_end new (peer s.writer))

  answered_frame : (number : ℕ) (h : HasPayload old number) (answer : Result ShouldTransmit ReceiveError) → AsksAfterAnswer answer (the_end old (peer h.sent.writer)) (the_end new (peer h.sent.writer)) → OnWriter old number AfterFrame (received_reply answer)
  answered_frame number h (Ok transmit) a = on_writer AfterFrame number (received_reply (Ok transmit)) h a
  answered_frame number h (Err (receive_error.Transport error)) a = on_writer AfterFrame number (received_reply (Err (receive_error.Transport error))) h a
  answered_frame number h (Err receive_error.CompactionMemory) a = on_writer AfterFrame number (received_reply (Err receive_error.CompactionMemory)) h a
  answered_frame number h (Err receive_error.OutOfMemory) a = tt

  handed_asks : (number index : ℕ) (reply : Answer) → HandsOver old number index reply new → OnWriter old number AfterFrame reply
  handed_asks number index reply k =
      let who = peer k.payload.sent.writer in
      let P : Answer → Type 0 = λ r. OnWriter old number AfterFrame r in
      let F : EndState → Type 0 = λ e. AsksAfterAnswer k.answer (the_end old who) e in
      subst P (sym k.reply_is) (answered_frame number k.payload k.answer (subst F (sym (sent_end old new who k.end new.sent k.is)) (asks_frame (the_end old who) k.end k.frame k.answer k.receives)))

  delivers_asks : (number index : ℕ) (reply : Answer) → Delivers old number index reply new → OnWriter old number AfterFrame reply
  delivers_asks number index (Ok reply) k = handed_asks number index (Ok reply) k
  delivers_asks number index (Err error) k = tt

  abbrev WriterAsks : Sent → Type 0
  WriterAsks s = AsksStreams (the_end new s.writer)

  acked_asks : (answer : Result (Unit {0}) SentPayload) (number : ℕ) (h : HasPayload old number) (r : SentPayload) (f : EndState) → AcksPayloadAt (the_end old h.sent.writer) (sent_view r) (report_view answer) f → the_end new h.sent.writer ≡ f → OnWriter old number WriterAsks (report_reply answer)
  acked_asks (Ok done) number h r f d e = on_writer WriterAsks number (Ok Done) h (subst AsksStreams (sym e) (asks_at d.acked f d.is))
  acked_asks (Err back) number h r f d e = tt

  acks_asks : (number : ℕ) (reply : Answer) → SettlesPayload Acknowledged AcksPayloadAt old number reply new → OnWriter old number WriterAsks reply
  acks_asks number (Ok Done) k =
      let P : Answer → Type 0 = λ r. OnWriter old number WriterAsks r in
      subst P (sym k.reply_is) (acked_asks k.answer number k.payload k.rest k.end k.does (sent_end old new k.payload.sent.writer k.end _ k.is))
  acks_asks number (Err error) k = tt
  acks_asks number _ k = absurd k

  module _ (told : ℕ → ℕ) (left : AreLeft old.sent told) where
    abbrev AllAsked : Sent → Type 0
    AllAsked s = AsksAgain s.text.bytes (the_end new s.writer)

    lost_asks : (answer : Result (Unit {0}) SentPayload) (number : ℕ) (h : HasPayload old number) (r : SentPayload) → h.sent.unsettled.rest ≡ Some r → may_report Lost h.sent.unsettled ≡ true → (f : EndState) → LosesPayloadAt (the_end old h.sent.writer) (sent_view r) (report_view answer) f
        → the_end new h.sent.writer ≡ f → OnWriter old number AllAsked (report_reply answer)
    lost_asks (Ok done) number h r rest may f d e =
        on_writer AllAsked number (Ok Done) h (λ all spelled.
        let noted = (left number h.sent r all h.is rest spelled).noted (goes_so h.sent.unsettled r rest may) in
        let p = (the_end old h.sent.writer).pending in
        let P : Pending → Type 0 = λ q. AsksAllOf (noted_of nothing all) q in
        let Q : Pending → Type 0 = λ q. AsksAllOf q (merged_if p (thin_view r.control)) in
        let F : EndState → Type 0 = λ g. AsksAllOf (noted_of nothing all) g.pending in
        subst F (sym e) (subst P (sym d.1) (subst Q noted (asks-all-of p (thin_view r.control)))))
      where
        goes_so : (u : Unsettled) (x : SentPayload) → u.rest ≡ Some x → may_report Lost u ≡ true → goes_on Lost u.begun ≡ true
        goes_so u x is may = rw is at may
    lost_asks (Err back) number h r rest may f d e = tt

    loses_asks : (number : ℕ) (reply : Answer) → SettlesPayload Lost LosesPayloadAt old number reply new → OnWriter old number AllAsked reply
    loses_asks number (Ok Done) k =
        let P : Answer → Type 0 = λ r. OnWriter old number AllAsked r in
        subst P (sym k.reply_is) (lost_asks k.answer number k.payload k.rest k.rest_is k.may k.end k.does (sent_end old new k.payload.sent.writer k.end _ k.is))
    loses_asks number (Err error) k = tt
    loses_asks number _ k = absurd k

-- ---- payloads that are written

module _ (a b : Origin) (h : History) (old new : PairState) (g : EraFrom a b h old) where
  emits_full : (who : End) (most : ℕ) (fair : Bool) (reply : Answer) → Emitted old who most fair reply new → IsFullIf most reply (the_end new who)
  emits_full who most fair (Ok (Payload number bytes)) k =
      let F : EndState → Type 0 = λ e. IsFull most bytes.items e in
      let B : List ℕ → Type 0 = λ l. IsFull most l k.emits.end in
      subst F (sym (sent_end old new who k.emits.end (old.sent ++ k.emits.sent ∷ []) k.emits.is))
      (subst B (sym k.bytes_are) (seen-as a b (past_of h) old who (joined-from g) (IsFull most k.payload.bytes k.emits.end) (λ x y side s. full-payload x y s.linked s.here k.emits.emits)))
  emits_full who most fair (Err error) k = tt
  emits_full who most fair _ k = absurd k

  emits_all : (who : End) (most : ℕ) (fair : Bool) (reply : Answer) → Emitted old who most fair reply new → LosesNoneIf (the_end old who) reply (the_end new who)
  emits_all who most fair (Ok (Payload number bytes)) k =
      let F : EndState → Type 0 = λ e. LosesNone (the_end old who) bytes.items e in
      let B : List ℕ → Type 0 = λ l. LosesNone (the_end old who) l k.emits.end in
      subst F (sym (sent_end old new who k.emits.end (old.sent ++ k.emits.sent ∷ []) k.emits.is))
      (subst B (sym k.bytes_are) (seen-as a b (past_of h) old who (joined-from g) (LosesNone (the_end old who) k.payload.bytes k.emits.end) (λ x y side s. loses-none x y s.linked s.here k.emits.emits)))
  emits_all who most fair (Err error) k = tt
  emits_all who most fair _ k = absurd k

  part_full : (who : End) (most : ℕ) (fair : Bool) (part : PayloadPart) (reply : Answer) → EmittedPart old who most fair part reply new → IsFullOfIf part most reply (the_end new who)
  part_full who most fair part (Ok (Payload number bytes)) k =
      let F : EndState → Type 0 = λ e. IsFullOf part most bytes.items e in
      let B : List ℕ → Type 0 = λ l. IsFullOf part most l k.emits.end in
      subst F (sym (sent_end old new who k.emits.end (old.sent ++ k.emits.sent ∷ []) k.emits.is))
      (subst B (sym k.bytes_are) (seen-as a b (past_of h) old who (joined-from g) (IsFullOf part most k.payload.bytes k.emits.end) (λ x y side s. full-part part most fair (the_end old who) k.emits.end k.payload x y s.linked s.here k.emits.emits)))
  part_full who most fair part (Err error) k = tt
  part_full who most fair part _ k = absurd k

  part_all : (who : End) (most : ℕ) (fair : Bool) (part : PayloadPart) (reply : Answer) → EmittedPart old who most fair part reply new → LosesNoneIf (the_end old who) reply (the_end new who)
  part_all who most fair part (Ok (Payload number bytes)) k =
      let F : EndState → Type 0 = λ e. LosesNone (the_end old who) bytes.items e in
      let B : List ℕ → Type 0 = λ l. LosesNone (the_end old who) l k.emits.end in
      subst F (sym (sent_end old new who k.emits.end (old.sent ++ k.emits.sent ∷ []) k.emits.is))
      (subst B (sym k.bytes_are) (loses-none-of part most fair (the_end old who) k.emits.end k.payload k.emits.emits))
  part_all who most fair part (Err error) k = tt
  part_all who most fair part _ k = absurd k

-- ---- all steps

module _ (old new : PairState) (who : End) (id : ℕ) (reply : Answer) where
  -- of a step on a stream that was given
  given_asks : (Holds : Answer → Type 0) {Does : EndState → EndState → Type 0} → ((error : PairError) → Holds (Err error)) → OnEnd (λ e f. OnGiven e id reply f (Does e f)) old who new → ((f : EndState) → the_end new who ≡ f → Does (the_end old who) f → Holds reply) → Holds reply
  given_asks Holds unknown d does = elim d.does [
    | inl given ↦ does d.end (changed_end old new who d.end d.is) given.1
    | inr lacks ↦ subst Holds (sym lacks.1) (unknown UnknownId)
  ]

module _ (old new : PairState) where
  writes_next : (who : End) (id : ℕ) (bytes : List ℕ) (reply : Answer) → NextOrdinary old (steps.Write who id bytes) reply new → WritesAll (the_end old who).streams.out id (length bytes) reply
  writes_next who id bytes reply n =
      let Holds : Answer → Type 0 = λ r. WritesAll (the_end old who).streams.out id (length bytes) r in
      given_asks old new who id reply Holds (λ error. tt) n (λ f is d.
      let R : ℕ → Type 0 = λ count. Room (the_end old who) id count d.answer in
      subst Holds (sym d.reply_is) (wrote_all (the_end old who) id (length bytes) d.answer (subst R (one_slice bytes) (room_of (the_end old who) f id (slice_lists bytes) d.answer d.writes))))

  chunks_next : (who : End) (id : ℕ) (chunks : List (List ℕ)) (reply : Answer) → NextOrdinary old (steps.WriteChunks who id chunks) reply new → WritesAll (the_end old who).streams.out id (length (concat chunks)) reply
  chunks_next who id chunks reply n =
      let Holds : Answer → Type 0 = λ r. WritesAll (the_end old who).streams.out id (length (concat chunks)) r in
      given_asks old new who id reply Holds (λ error. tt) n (λ f is k. elim k [
        | inl d ↦ (let R : ℕ → Type 0 = λ count. Room (the_end old who) id count d.answer in
            subst Holds (sym d.reply_is) (wrote_chunks (the_end old who) id (length (concat chunks)) d.answer (subst R (sym (length-concat chunks)) (room_of (the_end old who) f id chunks d.answer d.writes))))
        | inr wants ↦ subst Holds (sym wants.0) tt
      ])

  resets_next : (who : End) (id code : ℕ) (reply : Answer) → NextOrdinary old (steps.Reset who id code) reply new → AsksForReset id code reply (the_end new who)
  resets_next who id code reply n =
      let Holds : Answer → Type 0 = λ r. AsksForReset id code r (the_end new who) in
      given_asks old new who id reply Holds (λ error. tt) n (λ f is d.
      let F : EndState → Type 0 = λ e. AsksForReset id code (handled_reply d.answer) e in
      subst Holds (sym d.reply_is) (subst F (sym is) (asks_reset (the_end old who) f id code d.answer d.resets)))

  stops_next : (who : End) (id code : ℕ) (reply : Answer) → NextOrdinary old (steps.Stop who id code) reply new → AsksStopIf (the_end old who) id code reply (the_end new who) × AsksStreamsIf reply (the_end new who)
  stops_next who id code reply n =
      let Holds : Answer → Type 0 = λ r. AsksStopIf (the_end old who) id code r (the_end new who) × AsksStreamsIf r (the_end new who) in
      given_asks old new who id reply Holds (λ error. (tt, tt)) n (λ f is d.
      let F : EndState → Type 0 = λ e. AsksStopIf (the_end old who) id code (handled_reply d.answer) e × AsksStreamsIf (handled_reply d.answer) e in
      subst Holds (sym d.reply_is) (subst F (sym is) (asks_stop (the_end old who) f id code d.answer d.stops, stop_counts (the_end old who) f id code d.answer d.stops)))

  reads_next : (who : End) (id : ℕ) (ordered : Bool) (most times : ℕ) (reply : Answer) → NextOrdinary old (steps.Read who id ordered most times) reply new → AsksAfterRead id reply (the_end new who) × AsksStreamsIf reply (the_end new who)
  reads_next who id ordered most times reply n =
      let Holds : Answer → Type 0 = λ r. AsksAfterRead id r (the_end new who) × AsksStreamsIf r (the_end new who) in
      given_asks old new who id reply Holds (λ error. (tt, tt)) n (λ f is d.
      let F : EndState → Type 0 = λ e. AsksAfterRead id (read_reply d.answer) e × AsksStreamsIf (read_reply d.answer) e in
      subst Holds (sym d.reply_is) (subst F (sym is) (asks_after_read (the_end old who) f id most times ordered d.answer d.reads, read_counts (the_end old who) f id most times ordered d.answer d.reads)))

  codes_next : (who : End) (id : ℕ) (reply : Answer) → NextOrdinary old (steps.ReceivedReset who id) reply new → AsksStreamsIf reply (the_end new who)
  codes_next who id reply n =
      let Holds : Answer → Type 0 = λ r. AsksStreamsIf r (the_end new who) in
      given_asks old new who id reply Holds (λ error. tt) n (λ f is d.
      let F : EndState → Type 0 = λ e. AsksStreamsIf (code_reply d.answer) e in
      subst Holds (sym d.reply_is) (subst F (sym is) (asks_code (the_end old who) f id d.answer d.tells)))

  opens_next : (who : End) (dir : Dir) (reply : Answer) → NextOrdinary old (steps.Open who dir) reply new → OpensAll (the_end old who).streams.out dir reply
  opens_next who dir reply n =
      let d = n.does in
      let Holds : Answer → Type 0 = λ r. OpensAll (the_end old who).streams.out dir r in
      subst Holds (sym d.reply_is) (opens_all (the_end old who) n.end dir d.answer d.opens)

  window_next : (who : End) (window : ℕ) (reply : Answer) → NextOrdinary old (steps.SetReceiveWindow who window) reply new → AsksLarger reply (the_end new who)
  window_next who window reply n =
      let d = n.does in
      let Holds : Answer → Type 0 = λ r. AsksLarger r (the_end new who) in
      let F : EndState → Type 0 = λ e. d.larger ≡ true → e.pending.max_data ≡ true in
      subst Holds (sym d.reply_is) (subst F (sym (changed_end old new who n.end n.is ∙ d.is)) (λ l. asks_larger (the_end old who) window d.larger l))

  concurrent_next : (who : End) (dir : Dir) (count : ℕ) (reply : Answer) → NextOrdinary old (steps.SetMaxConcurrent who dir count) reply new → AsksStreamsIf reply (the_end new who)
  concurrent_next who dir count reply n =
      let d = n.does in
      let Holds : Answer → Type 0 = λ r. AsksStreamsIf r (the_end new who) in
      let F : EndState → Type 0 = λ e. AsksStreamsIf (done_reply d.answer) e in
      subst Holds (sym d.reply_is) (subst F (sym (changed_end old new who n.end n.is)) (asks_concurrent (the_end old who) n.end dir count d.answer d.sets))

-- whatever steps led to a pair, the next one withholds nothing that was due
pub asks-for : (a b : Origin) (h : History) (old new : PairState) (step : Step) (reply : Answer) → EraFrom a b h old → NextOrdinary old step reply new → AsksFor old step reply new
asks-for a b h old new (steps.Open who dir) reply g n = opens_next old new who dir reply n
asks-for a b h old new (steps.Write who id bytes) reply g n = writes_next old new who id bytes reply n
asks-for a b h old new (steps.WriteChunks who id chunks) reply g n = chunks_next old new who id chunks reply n
asks-for a b h old new (steps.Reset who id code) reply g n = resets_next old new who id code reply n
asks-for a b h old new (steps.Stop who id code) reply g n = stops_next old new who id code reply n
asks-for a b h old new (steps.Read who id ordered most times) reply g n = reads_next old new who id ordered most times reply n
asks-for a b h old new (steps.ReceivedReset who id) reply g n = codes_next old new who id reply n
asks-for a b h old new (steps.SetReceiveWindow who window) reply g n = window_next old new who window reply n
asks-for a b h old new (steps.SetMaxConcurrent who dir count) reply g n = concurrent_next old new who dir count reply n
asks-for a b h old new (steps.Emit who most fair) reply g n = (emits_full a b h old new g who most fair reply n, emits_all a b h old new g who most fair reply n)
asks-for a b h old new (steps.EmitPart who most fair part) reply g n = (part_full a b h old new g who most fair part reply n, part_all a b h old new g who most fair part reply n)
asks-for a b h old new (steps.Deliver number index) reply g n = delivers_asks old new number index reply n
asks-for a b h old new (steps.Lose number) reply g n = let r = (grown-from g).recounted in loses_asks old new r.tales.told r.left number reply n
asks-for a b h old new (steps.Ack number) reply g n = acks_asks old new number reply n
asks-for a b h old new steps.Retry reply g n = absurd n
asks-for a b h old new _ reply g n = tt
