-- Of the streams that are finished the applications were told, or are to be told: each step keeps it.
use Rattle.std.proofs.Common.{◌≡◌, ℕ, Bool, true, false, List, [], ◌∷◌, ◌++◌, Option, Some, None, Result, Ok, Err, refl, sym, ap, ◌∙◌, subst, inl, inr, arith}
use Rattle.std.specs.Prelude.{◌+◌, is_ok, take, if◌then◌else◌}
use Rattle.std.specs.List.{concat}
use Rattle.quic_values.specs.declared.memory.OutOfMemory.{OutOfMemory}
use Rattle.quic_wire.specs.declared.event.StreamEvent.{StreamEvent}
use Rattle.quic_wire.specs.declared.event.StreamEvent.TheVariants as stream_event
use Rattle.quic_wire.specs.declared.error.ReceiveError.{ReceiveError}
use Rattle.quic_wire.specs.declared.error.ReceiveError.TheVariants as receive_error
use Rattle.quic_wire.specs.declared.frame.Frame.{Frame}
use Rattle.quic_wire.specs.declared.frame.Frame.TheVariants as frames
use Rattle.quic_wire.specs.declared.frame.StreamMeta.{StreamMeta}
use Rattle.quic_assembler.specs.declared.chunk.Chunk.{Chunk}
use Rattle.quic_sending.specs.Source.{slice_lists}
use Rattle.quic_receiving.specs.declared.transmit.ShouldTransmit.{ShouldTransmit}
use Rattle.quic_sending.specs.declared.errors.HandleError.{HandleError}
use Rattle.quic_receiving.specs.declared.errors.ReadableError.{ReadableError}
use Rattle.quic_receiving.specs.declared.errors.ReadError.TheVariants as read_error
use Rattle.quic_outgoing.specs.Early.{NoneAcked}
use Rattle.quic_retransmits.specs.Pending.{Pending, nothing}
use Rattle.quic_history.specs.World.{World, Made}
use Rattle.quic_history.specs.declared.control.ControlKind.{ControlKind}
use Rattle.quic_history.specs.declared.progress.LastAnswer.{LastAnswer}
use Rattle.quic_history.specs.declared.progress.LastAnswer.TheVariants as last_answer
use Rattle.quic_history.specs.Permitting.{acceptable}
use Rattle.quic_history.specs.Reading.{GivesChunks, LastReads, ReadsSome, bytes_in}
use Rattle.quic_history.specs.Sends.{with_params_given}
use Rattle.quic_history.specs.SendEvents.{GaveLimits, OpenedOwn, RaisedData, RaisedCount, RaisedLimit, StoppedOwn, SetWindow, WroteOwn, FinishedOwn, ResetOwn, SetOwnPriority, AckedOwn, LostOwn, ResetAckedOwn, Polled}
use Rattle.quic_history.specs.History.{Event, Step, Fits, Received, ReceivedReset, Accepted, Resized, SetConcurrent, Sending, Began, Gave, Ended, Stopped as StoppedEvent, ToldReset, LeftPending, SentAgain, given, with_chunks, with_last}
use Rattle.quic_history.proofs.Traces.{itself}
use Rattle.quic_streams.specs.declared.batches.ReadSome.{ReadSome}
use Rattle.quic_streams.specs.Payload.{PayloadPlace, SettlesSome, WritesKinds, none as no_entry, more as one_entry}
use Rattle.quic_streams.specs.Transmitting.{with_turns}
use Rattle.quic_streams.specs.Settling.{SentView, EachInOrder, AcksMeta, LosesMeta, AcksResetOf, AcksWhole, resets_of}
use Rattle.quic_streams.specs.Sent.{sent_view, report_view}
use Rattle.quic_link.specs.Endpoints.{IsOneOf}
use Rattle.quic_endpoint.specs.Ends.{EndState, ResetsAt, with_counts_told_if, with_world}
use Rattle.quic_endpoint.specs.Emitting.{PayloadView, control_in, place_at, EmitsStreams}
use Rattle.quic_endpoint.specs.Receiving.{ReceivesAt, MakesCall, event_of, with_answer_told, done_so, stopped_so}
use Rattle.quic_endpoint.specs.Reports.{LosesPayloadAt, AcksPayloadAt}
use Rattle.quic_steps.specs.declared.steps.End.{End}
use Rattle.quic_steps.specs.declared.steps.End.TheVariants.{A, B}
use Rattle.quic_steps.specs.declared.steps.Last.{Last}
use Rattle.quic_steps.specs.declared.steps.Last.TheVariants as last
use Rattle.quic_steps.specs.declared.steps.Step.{Step as PairStep}
use Rattle.quic_steps.specs.declared.steps.Step.TheVariants as steps
use Rattle.quic_steps.specs.declared.steps.Reply.TheVariants.{Done, DoneTransmit, Fault, Id, Wrote, WroteChunks, Stopped, Read, Code, Event as Told, Payload}
use Rattle.quic_steps.specs.declared.steps.PairError.TheVariants.{NoSuchPayload, NoSuchFrame, NotAccepted, AlreadySettled, OutOfMemory as NoMemory}
use Rattle.quic_exchange.specs.Sent.{Sent}
use Rattle.quic_exchange.specs.declared.unsettled.Report.{Report}
use Rattle.quic_exchange.specs.declared.unsettled.Report.TheVariants.{Lost, Acknowledged}
use Rattle.quic_exchange.specs.Replies.{Answer, handled_reply, event_reply}
use Rattle.quic_exchange.specs.State.{PairState, OnEnd, peer, the_end, with_end, with_sent}
use Rattle.quic_exchange.specs.Calls.{OnGiven, ReadsSo, ResetsOn}
use Rattle.quic_exchange.specs.Steps.{NextOrdinary, HandsOver, Delivers, Reports, SettlesPayload}
use Rattle.quic_exchange.specs.History.{Past, Flow, FramePlace, after, after_given, after_write, after_chunks, after_finish, past_reset, past_stop, past_read, past_code, past_retried, after_event, after_poll, after_deliver, after_report, with_flow, writes_more, ends_flow, resets_with, stops_with, tells_reset, tells_stop, completes, reads_chunks, reads_last}
use Rattle.quic_exchange.specs.Gone.{with_all_noted}
use Rattle.quic_exchange.proofs.Emissions.{EmitsKinds, EmitsSomeAt, whole, cut, EmitsSome, EmittedSome, emitted-some, emitted-part}
use Rattle.quic_exchange.proofs.Origins.{Origin}
use Rattle.quic_exchange.proofs.Eras.{Changes, accepts, retries}
use Rattle.quic_exchange.proofs.OwnDoings.{own-unacked}
use Rattle.quic_exchange.proofs.Notified.{Notified, NotifiedBy, TellsOf, KnowsMore, MayCall, notified-call, notified-one, notified-at, notified-by, notified-more, turns-tell}

-- ---- what is known of flows only grows

knows_as : (f g : ℕ → Flow) → ((q : ℕ) → g q ≡ f q) → KnowsMore f g
knows_as f g e = record {
  resets = λ q code l. subst (λ (x : Flow). IsOneOf code x.resets) (sym (e q)) l;
  complete = λ q c. ap (λ (x : Flow). x.complete) (e q) ∙ c;
  stops = λ q code l. subst (λ (x : Flow). IsOneOf code x.told_stops) (sym (e q)) l;
}

knows_same : (f : ℕ → Flow) → KnowsMore f f
knows_same f = knows_as f f (λ q. refl)

either_flow : (P : Flow → Type 0) (b : Bool) (f g : Flow) → P f → P g → P (if b then f else g)
either_flow P true f g k l = k
either_flow P false f g k l = l

module _ (who : End) (id : ℕ) (change : Flow → Flow) (p : Past) (resets : (f : Flow) (code : ℕ) → IsOneOf code f.resets → IsOneOf code (change f).resets) (complete : (f : Flow) → f.complete ≡ true → (change f).complete ≡ true) (stops : (f : Flow) (code : ℕ) → IsOneOf code f.told_stops → IsOneOf code (change f).told_stops) where
  knows_flow : (end : End) → KnowsMore (p.flow end) ((with_flow who id change p).flow end)
  knows_flow end = record {
    resets = λ q code l. either_flow (λ x. IsOneOf code x.resets) _ (change (p.flow end q)) (p.flow end q) (resets (p.flow end q) code l) l;
    complete = λ q c. either_flow (λ x. x.complete ≡ true) _ (change (p.flow end q)) (p.flow end q) (complete (p.flow end q) c) c;
    stops = λ q code l. either_flow (λ x. IsOneOf code x.told_stops) _ (change (p.flow end q)) (p.flow end q) (stops (p.flow end q) code l) l;
  }

knows_read : (l : Last) (ordered : Bool) (chunks : List Chunk) (f : Flow) (code : ℕ) → IsOneOf code f.resets → IsOneOf code (reads_last l (reads_chunks ordered chunks f)).resets
knows_read last.Ended ordered chunks f code k = k
knows_read (last.Reset c) ordered chunks f code k = k
knows_read _ ordered chunks f code k = k

knows_complete : (l : Last) (ordered : Bool) (chunks : List Chunk) (f : Flow) → f.complete ≡ true → (reads_last l (reads_chunks ordered chunks f)).complete ≡ true
knows_complete last.Ended ordered chunks f k = k
knows_complete (last.Reset c) ordered chunks f k = k
knows_complete _ ordered chunks f k = k

knows_stops : (l : Last) (ordered : Bool) (chunks : List Chunk) (f : Flow) (code : ℕ) → IsOneOf code f.told_stops → IsOneOf code (reads_last l (reads_chunks ordered chunks f)).told_stops
knows_stops last.Ended ordered chunks f code k = k
knows_stops (last.Reset c) ordered chunks f code k = k
knows_stops _ ordered chunks f code k = k

-- a step that begins no era: what is known of flows stays
abbrev IsWithinEra : PairStep → Type 0
IsWithinEra steps.EarlyReject = ⊥
IsWithinEra _ = Unit {0}

module _ (p : Past) (end : End) where
  more_given : (who : End) (reply : Answer) → KnowsMore (p.flow end) ((after_given p who reply).flow end)
  more_given who (Ok (Id id)) = knows_same (p.flow end)
  more_given who _ = knows_same (p.flow end)

  more_write : (who : End) (id : ℕ) (bytes : List ℕ) (reply : Answer) → KnowsMore (p.flow end) ((after_write p who id bytes reply).flow end)
  more_write who id bytes (Ok (Wrote count)) = knows_flow who id (writes_more (take count bytes)) p (λ f code l. l) (λ f c. c) (λ f c l. l) end
  more_write who id bytes (Ok (Stopped code)) = knows_flow who id (tells_stop code) p (λ f c l. l) (λ f c. c) (λ f c l. inr l) end
  more_write who id bytes _ = knows_same (p.flow end)

  more_chunks : (who : End) (id : ℕ) (chunks : List (List ℕ)) (reply : Answer) → KnowsMore (p.flow end) ((after_chunks p who id chunks reply).flow end)
  more_chunks who id chunks (Ok (WroteChunks written)) = knows_flow who id (writes_more (take written.bytes (concat chunks))) p (λ f code l. l) (λ f c. c) (λ f c l. l) end
  more_chunks who id chunks (Ok (Stopped code)) = knows_flow who id (tells_stop code) p (λ f c l. l) (λ f c. c) (λ f c l. inr l) end
  more_chunks who id chunks _ = knows_same (p.flow end)

  more_finish : (who : End) (id : ℕ) (reply : Answer) → KnowsMore (p.flow end) ((after_finish p who id reply).flow end)
  more_finish who id (Ok Done) = knows_flow who id ends_flow p (λ f code l. l) (λ f c. c) (λ f c l. l) end
  more_finish who id (Ok (Stopped code)) = knows_flow who id (tells_stop code) p (λ f c l. l) (λ f c. c) (λ f c l. inr l) end
  more_finish who id _ = knows_same (p.flow end)

  more_reset : (who : End) (id code : ℕ) (reply : Answer) → KnowsMore (p.flow end) ((past_reset p who id code reply).flow end)
  more_reset who id code (Ok Done) = knows_flow who id (resets_with code) p (λ f c l. inr l) (λ f c. c) (λ f c l. l) end
  more_reset who id code _ = knows_same (p.flow end)

  more_stop : (who : End) (id code : ℕ) (reply : Answer) → KnowsMore (p.flow end) ((past_stop p who id code reply).flow end)
  more_stop who id code (Ok Done) = knows_flow (peer who) id (stops_with code) p (λ f c l. l) (λ f c. c) (λ f c l. l) end
  more_stop who id code _ = knows_same (p.flow end)

  more_read : (who : End) (id : ℕ) (ordered : Bool) (reply : Answer) → KnowsMore (p.flow end) ((past_read p who id ordered reply).flow end)
  more_read who id ordered (Ok (Read chunks l transmit)) = knows_flow (peer who) id (λ f. reads_last l (reads_chunks ordered chunks.items f)) p (λ f code k. knows_read l ordered chunks.items f code k) (λ f k. knows_complete l ordered chunks.items f k) (λ f code k. knows_stops l ordered chunks.items f code k) end
  more_read who id ordered _ = knows_same (p.flow end)

  more_code : (who : End) (id : ℕ) (reply : Answer) → KnowsMore (p.flow end) ((past_code p who id reply).flow end)
  more_code who id (Ok (Code code)) = knows_flow (peer who) id (tells_reset code) p (λ f c l. l) (λ f c. c) (λ f c l. l) end
  more_code who id _ = knows_same (p.flow end)

  more_event : (who : End) (g : StreamEvent) → KnowsMore (p.flow end) ((after_event p who g).flow end)
  more_event who (stream_event.Finished id) = knows_flow who id completes p (λ f code l. l) (λ f c. refl) (λ f c l. l) end
  more_event who (stream_event.Stopped id code) = knows_flow who id (tells_stop code) p (λ f c l. l) (λ f c. c) (λ f c l. inr l) end
  more_event who _ = knows_same (p.flow end)

  more_poll : (who : End) (reply : Answer) → KnowsMore (p.flow end) ((after_poll p who reply).flow end)
  more_poll who (Ok (Told g)) = more_event who g
  more_poll who _ = knows_same (p.flow end)

  more_report : (number : ℕ) (kind : Report) (reply : Answer) → KnowsMore (p.flow end) ((after_report p number kind reply).flow end)
  more_report number kind (Ok Done) = knows_same (p.flow end)
  more_report number kind (Err NoMemory) = knows_same (p.flow end)
  more_report number kind _ = knows_same (p.flow end)

  same_deliver : (at : FramePlace) (reply : Answer) (q : ℕ) → (after_deliver p at reply).flow end q ≡ p.flow end q
  same_deliver at (Ok Done) q = refl
  same_deliver at (Ok DoneTransmit) q = refl
  same_deliver at (Ok (Fault fault)) q = refl
  same_deliver at _ q = refl

  more_retried : (reply : Answer) → KnowsMore (p.flow end) ((past_retried p reply).flow end)
  more_retried (Ok Done) = knows_same (p.flow end)
  more_retried _ = knows_same (p.flow end)

  pub knows-more : (step : PairStep) (reply : Answer) → IsWithinEra step → KnowsMore (p.flow end) ((after p step reply).flow end)
  knows-more (steps.Open who dir) reply era = more_given who reply
  knows-more (steps.Accept who dir) reply era = more_given who reply
  knows-more (steps.Write who id bytes) reply era = more_write who id bytes reply
  knows-more (steps.WriteChunks who id chunks) reply era = more_chunks who id chunks reply
  knows-more (steps.Finish who id) reply era = more_finish who id reply
  knows-more (steps.Reset who id code) reply era = more_reset who id code reply
  knows-more (steps.Stop who id code) reply era = more_stop who id code reply
  knows-more (steps.Read who id ordered most times) reply era = more_read who id ordered reply
  knows-more (steps.ReceivedReset who id) reply era = more_code who id reply
  knows-more (steps.Poll who) reply era = more_poll who reply
  knows-more (steps.Deliver number index) reply era = knows_as (p.flow end) ((after_deliver p (number, index) reply).flow end) (λ q. same_deliver (number, index) reply q)
  knows-more (steps.Lose number) reply era = more_report number Lost reply
  knows-more (steps.Ack number) reply era = more_report number Acknowledged reply
  knows-more steps.Retry reply era = more_retried reply
  knows-more steps.EarlyReject reply era = absurd era
  knows-more _ reply era = knows_same (p.flow end)

-- what is known of a flow once it changed
changed_here : (who : End) (id : ℕ) (change : Flow → Flow) (p : Past) → (with_flow who id change p).flow who id ≡ change (p.flow who id)
changed_here A id change p = ap (λ b. if b then change (p.flow A id) else p.flow A id) (itself id)
changed_here B id change p = ap (λ b. if b then change (p.flow B id) else p.flow B id) (itself id)

-- ---- calls of one end, one after another

-- where counts of streams are told
counts_same : (told : Bool) (e : EndState) → (with_counts_told_if told e).streams ≡ e.streams
counts_same true e = refl
counts_same false e = refl

module _ (f : ℕ → Flow) where
  module _ (m : Made) (id most : ℕ) (ordered : Bool) where
    chunks_notified : (cs : List Chunk) (h : List Event) (w v : World) → NotifiedBy m h w f → GivesChunks w id most ordered cs v → NotifiedBy m (with_chunks id most ordered cs h) v f
    chunks_notified [] h w v k g = let P : World → Type 0 = λ u. NotifiedBy m h u f in subst P (sym g) k
    chunks_notified (c ∷ cs) h w v k g =
        let e = Gave id most ordered (Ok (Some c)) in
        chunks_notified cs (e ∷ h) g.0 v (notified-call m h w g.0 f e tt tt k g.1) g.2

    last_notified : (l : LastAnswer) (h : List Event) (w v : World) → NotifiedBy m h w f → LastReads w id most ordered l v → NotifiedBy m (with_last id most ordered l h) v f
    last_notified last_answer.Blocked h w v k r = notified-call m h w v f (Gave id most ordered (Err read_error.Blocked)) tt tt k r
    last_notified last_answer.Ended h w v k r = notified-call m h w v f (Gave id most ordered (Ok None)) tt tt k r
    last_notified (last_answer.Reset code) h w v k r = notified-call m h w v f (Gave id most ordered (Err (read_error.Reset code))) tt tt k r
    last_notified last_answer.Memory h w v k r = notified-call m h w v f (Gave id most ordered (Err read_error.OutOfMemory)) tt tt k r
    last_notified last_answer.More h w v k r = let P : World → Type 0 = λ u. NotifiedBy m h u f in subst P (sym r) k

    given_chunks : (cs : List Chunk) (h : List Event) → given (with_chunks id most ordered cs h) ≡ given h + bytes_in cs
    given_chunks [] h = omega arith
    given_chunks (c ∷ cs) h = omega (arith, given_chunks cs (Gave id most ordered (Ok (Some c)) ∷ h))

    given_last : (l : LastAnswer) (h : List Event) → given (with_last id most ordered l h) ≡ given h
    given_last last_answer.Blocked h = refl
    given_last last_answer.Ended h = refl
    given_last (last_answer.Reset code) h = refl
    given_last last_answer.Memory h = refl
    given_last last_answer.More h = refl

  reads_notified : (id most times : ℕ) (ordered : Bool) (p q : Pending) (cs : List Chunk) (l : LastAnswer) (transmit : Bool) (w v : World) → Notified w f → ReadsSome w id most times ordered p cs l transmit v q → Notified v f
  reads_notified id most times ordered p q cs l transmit w v k s =
      let m = k.made in
      let b = Began id ordered (Ok tt) in
      let opened = notified-call m k.calls w s.opened f b tt tt k.by s.begins in
      let h = with_chunks id most ordered cs (b ∷ k.calls) in
      let read = chunks_notified m id most ordered cs (b ∷ k.calls) s.opened s.read opened s.gives in
      let j = with_last id most ordered l h in
      let ended = last_notified m id most ordered l h s.read s.ended read s.last_reads in
      let fits : bytes_in cs ≡ given j = let x = given_last m id most ordered l h in let y = given_chunks m id most ordered cs (b ∷ k.calls) in counted_up (bytes_in cs) (given j) (given h) x y in
      notified-by f (notified-call m j s.ended v f (Ended id (bytes_in cs)) tt fits ended s.is)
    where
      counted_up : (n k h : ℕ) → k ≡ h → h ≡ 0 + n → n ≡ k
      counted_up n k h a b = omega arith

  -- reports of one frame after another
  module _ {T : Type 0} (Each : World → T → World → Type 0) (event : T → Event) (may : (x : T) → MayCall (event x) f) (fits : (h : List Event) (x : T) → Fits h (event x)) (steps_so : (u v : World) (x : T) → Each u x v → Step u (event x) v) where
    row_notified : (xs : List T) (w v : World) → Notified w f → EachInOrder Each w xs v → Notified v f
    row_notified [] w v k s = notified-at w v f s k
    row_notified (x ∷ xs) w v k s = row_notified xs s.0 v (notified-one w s.0 f (event x) (may x) (λ h. fits h x) k (steps_so w s.0 x s.1)) s.2

  acks_notified : (xs : List StreamMeta) (w v : World) → Notified w f → EachInOrder AcksMeta w xs v → Notified v f
  acks_notified = row_notified AcksMeta (λ (x : StreamMeta). Sending (AckedOwn x.id x.offsets x.fin (Ok tt))) (λ x. tt) (λ h x. tt) (λ u v x k. k)

  losses_notified : (xs : List StreamMeta) (w v : World) → Notified w f → EachInOrder LosesMeta w xs v → Notified v f
  losses_notified = row_notified LosesMeta (λ (x : StreamMeta). Sending (LostOwn x.id x.offsets x.fin (Ok tt))) (λ x. tt) (λ h x. tt) (λ u v x k. k)

  resets_notified : (xs : List (ℕ × ℕ)) (w v : World) → Notified w f → EachInOrder AcksResetOf w xs v → Notified v f
  resets_notified = row_notified AcksResetOf (λ (x : ℕ × ℕ). Sending (ResetAckedOwn x.0 (Ok tt))) (λ x. tt) (λ h x. tt) (λ u v x k. k)

  loss_notified : (e g : EndState) (sent : SentView) (answer : Result (Unit {0}) SentView) → Notified e.streams f → LosesPayloadAt e sent answer g → Notified g.streams f
  loss_notified e g sent (Ok x) k s = losses_notified sent.streams e.streams g.streams k s.0
  loss_notified e g sent (Err back) k s = elim s.0 [
    | inl stop ↦ losses_notified stop.frames.told e.streams g.streams k stop.frames.reports
    | inr stop ↦ losses_notified sent.streams e.streams g.streams k stop.frames
  ]

  whole_notified : (u v : World) (sent : SentView) (answer : Result (Unit {0}) SentView) → Notified u f → AcksWhole u sent answer v → Notified v f
  whole_notified u v sent (Ok x) k s = resets_notified (resets_of sent.control) s.0 v (acks_notified sent.streams u s.0 k s.1) s.2
  whole_notified u v sent (Err back) k s = elim s [
    | inl stop ↦ acks_notified stop.frames.told u v k stop.frames.reports
    | inr stop ↦ resets_notified stop.resets.told stop.between v (acks_notified sent.streams u stop.between k stop.frames) stop.resets.reports
  ]

  ack_notified : (e g : EndState) (sent : SentView) (answer : Result (Unit {0}) SentView) → Notified e.streams f → AcksPayloadAt e sent answer g → Notified g.streams f
  ack_notified e g sent answer k s = notified-at s.acked.streams g.streams f (ap (λ (x : EndState). x.streams) s.is ∙ counts_same (is_ok answer) s.acked) (whole_notified e.streams s.acked.streams sent answer k s.acks)

  -- frames that are written into a payload
  entries_notified : {kind : ControlKind} {most : ℕ} {a b : PayloadPlace} → SettlesSome kind most a b → Notified a.end f → Notified b.end f
  entries_notified no_entry k = k
  entries_notified {kind} {most} {a} {b} (one_entry {p} {q} {r} before room one) k = notified-one q.end r.end f (LeftPending kind one.frame) tt (λ h. tt) (entries_notified before k) (q.pending, r.pending, one.settles)

  kinds_notified : (most : ℕ) (kinds : List ControlKind) (a b : PayloadPlace) (answer : Result (Unit {0}) OutOfMemory) → WritesKinds most kinds a answer b → Notified a.end f → Notified b.end f
  kinds_notified most [] a b (Ok x) s k = let P : PayloadPlace → Type 0 = λ j. Notified j.end f in subst P (sym s) k
  kinds_notified most [] a b (Err e) s k = absurd s
  kinds_notified most (kind ∷ kinds) a b answer s k = elim s [
    | inl t ↦ kinds_notified most kinds t.0 b answer t.2 (entries_notified t.1.turns k)
    | inr t ↦ entries_notified t.1 k
  ]

  control_notified : (most : ℕ) (e g : EndState) (answer : Result (Unit {0}) OutOfMemory) (bytes : List ℕ) (sent : Pending) → EmitsKinds most e answer g bytes sent → Notified e.streams f → Notified g.streams f
  control_notified most e g answer bytes sent s k = kinds_notified most s.kinds (place_at e [] nothing s.before) (place_at g bytes sent s.after) answer s.writes k

  streams_notified : (most : ℕ) (fair : Bool) (e : EndState) (bytes : List ℕ) (answer : Result (Unit {0}) OutOfMemory) (g : EndState) (payload : PayloadView) → EmitsStreams most fair e bytes answer g payload → Notified e.streams f → Notified g.streams f
  streams_notified most fair e bytes answer g payload s k =
      let same : g.streams.events ≡ e.streams.events = ap (λ (w : World). w.events) s.writes.others in
      let h = with_turns most fair s.from.turns k.calls in
      let P : List StreamEvent → Type 0 = λ events. TellsOf k.made h events f in
      notified-by f (record { from = s.from.from k.made k.calls k.by.from; tells = subst P (sym same) (turns-tell k.made f e.streams.events most fair s.from.turns k.calls k.by.tells) })

  emit_notified : {most : ℕ} {fair : Bool} {e : EndState} {payload : PayloadView} {answer : Result (Unit {0}) OutOfMemory} {g : EndState} → EmitsSomeAt most fair e payload answer g → Notified e.streams f → Notified g.streams f
  emit_notified {most} {fair} {e} {payload} {answer} {g} (whole between bytes control streams) k = streams_notified most fair between bytes answer g payload streams (control_notified most e between (Ok tt) bytes (control_in payload) control k)
  emit_notified {most} {fair} {e} {payload} {answer} {g} (cut {first} between bytes control none) k =
      notified-at between.streams g.streams f (ap (λ (x : EndState). x.streams) none.same) (control_notified most e between first bytes (control_in payload) control k)

  -- a frame of the peer
  heard_notified : (frame : Frame) (answer : Result ShouldTransmit ReceiveError) (w v : World) → MakesCall w (event_of frame answer) v → Notified w f → Notified v f
  heard_notified (frames.Stream s) answer w v c k = notified-one w v f (Received s.id s.offset s.bytes s.fin answer) tt (λ h. tt) k c
  heard_notified (frames.ResetStream s) answer w v c k = notified-one w v f (ReceivedReset s.id s.error_code s.final_offset answer) tt (λ h. tt) k c
  heard_notified (frames.StopSending s) answer w v c k = notified-one w v f (Sending (StoppedOwn s.id s.error_code (stopped_so answer))) tt (λ h. tt) k c
  heard_notified (frames.MaxData limit) answer w v c k = notified-one w v f (Sending (RaisedData limit)) tt (λ h. tt) k c
  heard_notified (frames.MaxStreamData id limit) answer w v c k = notified-one w v f (Sending (RaisedLimit id limit (done_so answer))) tt (λ h. tt) k c
  heard_notified (frames.MaxStreams dir count) answer w v c k = notified-one w v f (Sending (RaisedCount dir count (done_so answer))) tt (λ h. tt) k c
  heard_notified _ answer w v c k = notified-at w v f c k

  answered_same : (answer : Result ShouldTransmit ReceiveError) (e : EndState) → (with_answer_told answer e).streams ≡ e.streams
  answered_same (Ok transmit) e = refl
  answered_same (Err (receive_error.Transport error)) e = refl
  answered_same (Err receive_error.CompactionMemory) e = refl
  answered_same (Err receive_error.OutOfMemory) e = refl

  received_notified : (e : EndState) (frame : Frame) (answer : Result ShouldTransmit ReceiveError) (g : EndState) → ReceivesAt e frame answer g → Notified e.streams f → Notified g.streams f
  received_notified e frame answer g r k = notified-at r.taken.streams g.streams f (ap (λ (x : EndState). x.streams) r.is ∙ answered_same answer r.taken) (heard_notified frame answer e.streams r.taken.streams r.call k)

-- ---- steps

-- so of each end
abbrev pub AreNotified : Past → PairState → Type 0
AreNotified p v = (who : End) → Notified (the_end v who).streams (p.flow who)

module _ (old new : PairState) (f : End → ℕ → Flow) (k : (who : End) → Notified (the_end old who).streams (f who)) where
  abbrev All : PairState → Type 0
  All v = (who : End) → Notified (the_end v who).streams (f who)

  at_sent : (who : End) (g : EndState) (sents : List Sent) → Notified g.streams (f who) → All (with_sent (with_end old who g) sents)
  at_sent A g sents n A = n
  at_sent A g sents n B = k B
  at_sent B g sents n A = k A
  at_sent B g sents n B = n

  -- an end was called, and payloads are these
  called_sent : (who : End) (g : EndState) (sents : List Sent) → new ≡ with_sent (with_end old who g) sents → Notified g.streams (f who) → All new
  called_sent who g sents e n = subst All (sym e) (at_sent who g sents n)

  same_sent : (who : End) (g : EndState) → with_end old who g ≡ with_sent (with_end old who g) old.sent
  same_sent A g = refl
  same_sent B g = refl

  called_end : (who : End) (g : EndState) → new ≡ with_end old who g → Notified g.streams (f who) → All new
  called_end who g e n = called_sent who g old.sent (e ∙ same_sent who g) n

  stays_all : new ≡ old → All new
  stays_all e = subst All (sym e) k

  -- by one call
  called : (who : End) (g : EndState) (e : Event) → MayCall e (f who) → ((h : List Event) → Fits h e) → Step (the_end old who).streams e g.streams → Notified g.streams (f who)
  called who g e may fits s = notified-one (the_end old who).streams g.streams (f who) e may fits (k who) s

  -- a step on a stream that is not known does nothing
  on_given : (who : End) (id : ℕ) (reply : Answer) (g : EndState) (Does : Type 0) → OnGiven (the_end old who) id reply g Does → (Does → Notified g.streams (f who)) → Notified g.streams (f who)
  on_given who id reply g Does d known = elim d [
    | inl there ↦ known there.1
    | inr none ↦ notified-at (the_end old who).streams g.streams (f who) (ap (λ (e : EndState). e.streams) none.2) (k who)
  ]

  told_at : (who : End) (g s : EndState) (due : Bool) → g ≡ with_counts_told_if due s → Notified s.streams (f who) → Notified g.streams (f who)
  told_at who g s due is n = notified-at s.streams g.streams (f who) (ap (λ (e : EndState). e.streams) is ∙ counts_same due s) n

  read_so : (who : End) (id : ℕ) (ordered : Bool) (most times : ℕ) (g : EndState) (answer : Result ReadSome ReadableError) → ReadsSo (the_end old who) id ordered most times answer g → Notified g.streams (f who)
  read_so who id ordered most times g (Ok read) s =
      told_at who g s.read true s.is (reads_notified (f who) id most times ordered (the_end old who).pending s.read.pending read.chunks.items read.last read.transmit.0 (the_end old who).streams s.read.streams (k who) s.reads)
  read_so who id ordered most times g (Err error) s = told_at who g s.asked _ s.is (called who s.asked (Began id ordered (Err error)) tt (λ h. tt) s.begins)

  emits : (who : End) (most : ℕ) (fair : Bool) (answer : Result (Unit {0}) OutOfMemory) (payload : PayloadView) → EmitsSome old who most fair answer payload new → All new
  emits who most fair answer payload e = called_sent who e.end (old.sent ++ e.sent ∷ []) e.is (emit_notified (f who) e.emits (k who))

  emitted : (who : End) (most : ℕ) (fair : Bool) (reply : Answer) → EmittedSome old who most fair reply new → All new
  emitted who most fair (Ok (Payload number bytes)) n = emits who most fair (Ok tt) n.payload n.emits
  emitted who most fair (Err NoMemory) n = elim n [ inl same ↦ stays_all same | inr part ↦ emits who most fair part.answer part.payload part.emits ]
  emitted who most fair _ n = absurd n

  handed : (number index : ℕ) (reply : Answer) → HandsOver old number index reply new → All new
  handed number index reply n = let who = peer n.payload.sent.writer in called_sent who n.end new.sent n.is (received_notified (f who) (the_end old who) n.frame n.answer n.end n.receives (k who))

  delivered : (number index : ℕ) (reply : Answer) → Delivers old number index reply new → All new
  delivered number index (Err NoSuchPayload) n = stays_all n.1
  delivered number index (Err NoSuchFrame) n = stays_all n.is
  delivered number index (Err NoMemory) n = elim n [ inl same ↦ stays_all same.1 | inr t ↦ handed number index (Err NoMemory) t ]
  delivered number index reply n = handed number index reply n

  lost : (number : ℕ) (reply : Answer) → Reports Lost LosesPayloadAt old number reply new → All new
  lost number reply n = let who = n.payload.sent.writer in called_sent who n.end _ n.is (loss_notified (f who) (the_end old who) n.end (sent_view n.rest) (report_view n.answer) (k who) n.does)

  acked : (number : ℕ) (reply : Answer) → Reports Acknowledged AcksPayloadAt old number reply new → All new
  acked number reply n = let who = n.payload.sent.writer in called_sent who n.end _ n.is (ack_notified (f who) (the_end old who) n.end (sent_view n.rest) (report_view n.answer) (k who) n.does)

  loses : (number : ℕ) (reply : Answer) → SettlesPayload Lost LosesPayloadAt old number reply new → All new
  loses number (Ok Done) n = lost number (Ok Done) n
  loses number (Err NoMemory) n = lost number (Err NoMemory) n
  loses number (Err NoSuchPayload) n = stays_all n.1
  loses number (Err AlreadySettled) n = stays_all n.is
  loses number (Err NotAccepted) n = stays_all n.is
  loses number _ n = absurd n

  acks : (number : ℕ) (reply : Answer) → SettlesPayload Acknowledged AcksPayloadAt old number reply new → All new
  acks number (Ok Done) n = acked number (Ok Done) n
  acks number (Err NoMemory) n = acked number (Err NoMemory) n
  acks number (Err NoSuchPayload) n = stays_all n.1
  acks number (Err AlreadySettled) n = stays_all n.is
  acks number (Err NotAccepted) n = stays_all n.is
  acks number _ n = absurd n

-- ---- steps whose reply tells more

module _ (p : Past) (old new : PairState) (k : AreNotified p old) where
  more_known : (step : PairStep) (reply : Answer) → IsWithinEra step → (who : End) → Notified (the_end old who).streams ((after p step reply).flow who)
  more_known step reply era who = notified-more (the_end old who).streams (p.flow who) ((after p step reply).flow who) (knows-more p who step reply era) (k who)

  abbrev then_all : PairStep → Answer → Type 0
  then_all step reply = AreNotified (after p step reply) new

  reset_any : (who : End) (id code : ℕ) (g : EndState) → new ≡ with_end old who g → (answer : Result (Unit {0}) HandleError) → ResetsAt (the_end old who) id code answer g → then_all (steps.Reset who id code) (handled_reply answer)
  reset_any who id code g e (Ok u) done =
      let p2 = after p (steps.Reset who id code) (Ok Done) in
      let all = more_known (steps.Reset who id code) (Ok Done) tt in
      let here : IsOneOf code (p2.flow who id).resets = subst (λ (x : Flow). IsOneOf code x.resets) (sym (changed_here who id (resets_with code) p)) (inl refl) in
      called_end old new p2.flow all who g e (called old new p2.flow all who g (Sending (ResetOwn id code (Ok u))) here (λ h. tt) ((the_end old who).pending, g.pending, done))
  reset_any who id code g e (Err error) done =
      let reply = handled_reply (Err error) in
      let p2 = after p (steps.Reset who id code) reply in
      let all = more_known (steps.Reset who id code) reply tt in
      called_end old new p2.flow all who g e (called old new p2.flow all who g (Sending (ResetOwn id code (Err error))) tt (λ h. tt) ((the_end old who).pending, g.pending, done))

  poll_any : (who : End) (g : EndState) → new ≡ with_end old who g → (event : Option StreamEvent) → Step (the_end old who).streams (Sending (Polled event)) g.streams → then_all (steps.Poll who) (event_reply event)
  poll_any who g e event s =
      let reply = event_reply event in
      let p2 = after p (steps.Poll who) reply in
      let all = more_known (steps.Poll who) reply tt in
      called_end old new p2.flow all who g e (called old new p2.flow all who g (Sending (Polled event)) (may event) (λ h. tt) s)
    where
      may : (o : Option StreamEvent) → MayCall (Sending (Polled o)) ((after p (steps.Poll who) (event_reply o)).flow who)
      may (Some (stream_event.Finished id)) = ap (λ (x : Flow). x.complete) (changed_here who id completes p)
      may (Some (stream_event.Opened dir)) = tt
      may (Some (stream_event.Readable id)) = tt
      may (Some (stream_event.Writable id)) = tt
      may (Some (stream_event.Stopped id code)) = subst (λ (x : Flow). IsOneOf code x.told_stops) (sym (changed_here who id (tells_stop code) p)) (inl refl)
      may (Some (stream_event.Available dir)) = tt
      may None = tt

  -- an end was called, and the reply tells nothing that has to be known
  plain_end : (step : PairStep) (reply : Answer) → IsWithinEra step → (who : End) (g : EndState) → new ≡ with_end old who g → ((f : End → ℕ → Flow) → ((end : End) → Notified (the_end old end).streams (f end)) → Notified g.streams (f who)) → then_all step reply
  plain_end step reply era who g e does = let all = more_known step reply era in let f = (after p step reply).flow in called_end old new f all who g e (does f all)

  reset_so : (who : End) (id code : ℕ) (reply : Answer) → OnEnd (λ e g. OnGiven e id reply g (ResetsOn e id code reply g)) old who new → then_all (steps.Reset who id code) reply
  reset_so who id code reply n = elim n.does [
    | inl there ↦ subst (then_all (steps.Reset who id code)) (sym there.1.reply_is) (reset_any who id code n.end n.is there.1.answer there.1.resets)
    | inr none ↦ (
        let all = more_known (steps.Reset who id code) reply tt in
        let f = (after p (steps.Reset who id code) reply).flow in
        called_end old new f all who n.end n.is (notified-at (the_end old who).streams n.end.streams (f who) (ap (λ (e : EndState). e.streams) none.2) (all who))
        )
  ]

  -- a step keeps it
  pub notified-next : (step : PairStep) (reply : Answer) → NextOrdinary old step reply new → AreNotified (after p step reply) new
  notified-next (steps.Reset who id code) reply n = reset_so who id code reply n
  notified-next (steps.Poll who) reply n = subst (then_all (steps.Poll who)) (sym n.does.reply_is) (poll_any who n.end n.is n.does.event n.does.polls)
  notified-next (steps.Open who dir) reply n = plain_end (steps.Open who dir) reply tt who n.end n.is (λ f k. called old new f k who n.end (Sending (OpenedOwn dir false n.does.answer)) tt (λ h. tt) n.does.opens.0)
  notified-next (steps.Accept who dir) reply n =
      plain_end (steps.Accept who dir) reply tt who n.end n.is (λ f k. called old new f k who n.end (Accepted dir (acceptable (the_end old who).streams dir)) tt (λ h. tt) (ap (λ (e : EndState). e.streams) n.does.is, refl))
  notified-next (steps.Write who id bytes) reply n =
      plain_end (steps.Write who id bytes) reply tt who n.end n.is (λ f k. on_given old new f k who id reply n.end _ n.does (λ w. called old new f k who n.end (Sending (WroteOwn id (slice_lists bytes) false w.answer)) tt (λ h. tt) ((the_end old who).pending, n.end.pending, w.writes.0, w.writes.1)))
  notified-next (steps.WriteChunks who id chunks) reply n =
      plain_end (steps.WriteChunks who id chunks) reply tt who n.end n.is (λ f k. on_given old new f k who id reply n.end _ n.does (λ d. elim d [
        | inl w ↦ called old new f k who n.end (Sending (WroteOwn id chunks false w.answer)) tt (λ h. tt) ((the_end old who).pending, n.end.pending, w.writes.0, w.writes.1)
        | inr none ↦ notified-at (the_end old who).streams n.end.streams (f who) (ap (λ (e : EndState). e.streams) none.1) (k who)
      ]))
  notified-next (steps.Finish who id) reply n =
      plain_end (steps.Finish who id) reply tt who n.end n.is (λ f k. on_given old new f k who id reply n.end _ n.does (λ w. called old new f k who n.end (Sending (FinishedOwn id w.answer)) tt (λ h. tt) w.finishes.0))
  notified-next (steps.Stop who id code) reply n =
      plain_end (steps.Stop who id code) reply tt who n.end n.is (λ f k. on_given old new f k who id reply n.end _ n.does (λ w. let s = w.stops in
      told_at old new f k who n.end s.stopped _ s.is (called old new f k who s.stopped (StoppedEvent id code w.answer) tt (λ h. tt) ((the_end old who).pending, s.stopped.pending, s.stops))))
  notified-next (steps.SetPriority who id priority) reply n =
      plain_end (steps.SetPriority who id priority) reply tt who n.end n.is (λ f k. on_given old new f k who id reply n.end _ n.does (λ w. called old new f k who n.end (Sending (SetOwnPriority id priority w.answer)) tt (λ h. tt) w.sets.0))
  notified-next (steps.Read who id ordered most times) reply n =
      plain_end (steps.Read who id ordered most times) reply tt who n.end n.is (λ f k. on_given old new f k who id reply n.end _ n.does (λ w. read_so old new f k who id ordered most times n.end w.answer w.reads))
  notified-next (steps.ReceivedReset who id) reply n =
      plain_end (steps.ReceivedReset who id) reply tt who n.end n.is (λ f k. on_given old new f k who id reply n.end _ n.does (λ w. let s = w.tells in
      told_at old new f k who n.end s.asked _ s.is (called old new f k who s.asked (ToldReset id w.answer) tt (λ h. tt) ((the_end old who).pending, s.asked.pending, s.tells))))
  notified-next (steps.SetSendWindow who window) reply n = plain_end (steps.SetSendWindow who window) reply tt who n.end n.is (λ f k. called old new f k who n.end (Sending (SetWindow window)) tt (λ h. tt) (ap (λ (e : EndState). e.streams) n.does.1))
  notified-next (steps.SetReceiveWindow who window) reply n =
      plain_end (steps.SetReceiveWindow who window) reply tt who n.end n.is (λ f k. called old new f k who n.end (Resized window n.does.larger) tt (λ h. tt) (ap (λ (e : EndState). e.streams) n.does.is, n.does.larger_is))
  notified-next (steps.SetMaxConcurrent who dir count) reply n =
      plain_end (steps.SetMaxConcurrent who dir count) reply tt who n.end n.is (λ f k. let s = n.does.sets in
      told_at old new f k who n.end s.set (is_ok n.does.answer) s.is (called old new f k who s.set (SetConcurrent dir count n.does.answer) tt (λ h. tt) s.sets))
  notified-next (steps.Emit who most fair) reply n = emitted old new p.flow k who most fair reply (emitted-some old new who most fair reply n)
  notified-next (steps.EmitPart who most fair part) reply n = emitted old new p.flow k who most fair reply (emitted-part old new who most fair part reply n)
  notified-next (steps.Deliver number index) reply n = delivered old new _ (more_known (steps.Deliver number index) reply tt) number index reply n
  notified-next (steps.Lose number) reply n = loses old new _ (more_known (steps.Lose number) reply tt) number reply n
  notified-next (steps.Ack number) reply n = acks old new _ (more_known (steps.Ack number) reply tt) number reply n
  notified-next _ reply n = absurd n

-- and so does what the server does to what a client sent early
pub notified-changed : (b : Origin) (p : Past) (old new : PairState) → AreNotified p old → (step : PairStep) → Changes b p old new step → AreNotified (after p step (Ok Done)) new
notified-changed b p old new k step (accepts c within few) =
    let P : PairState → Type 0 = λ v. AreNotified p v in
    subst P (sym c.is) of_both
  where
    of_both : AreNotified p (record old { a = with_world old.a (with_params_given old.a.streams c.limits.others); waits = None })
    of_both A = notified-one old.a.streams (with_params_given old.a.streams c.limits.others) (p.flow A) (Sending (GaveLimits c.limits.others (Ok tt))) tt (λ h. tt) (k A) refl
    of_both B = k B
notified-changed b p old new k step (retries c m did mine accepted kept) =
    let P : PairState → Type 0 = λ v. AreNotified p v in
    subst P (sym c.is) of_both
  where
    unacked : NoneAcked old.a.streams.out.side old.a.streams.out.halves
    unacked = own-unacked m old.a.streams did

    of_both : AreNotified p (record old { a = record { streams = c.streams; pending = with_all_noted old.a.pending old.sent }; sent = c.sent })
    of_both A = notified-one old.a.streams c.streams (p.flow A) (SentAgain (Ok tt)) tt (λ h. tt) (k A) (unacked, c.again unacked)
    of_both B = k B
