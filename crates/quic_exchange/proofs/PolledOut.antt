-- At the end of a settling no application is to be told anything.
use Rattle.std.proofs.Common.{◌≡◌, ℕ, Bool, true, false, List, [], ◌∷◌, length, Option, Some, None, Result, Ok, Err, refl, sym, ap, ◌∙◌, subst, inl, inr}
use Rattle.std.specs.Prelude.{ℤ, ◌+◌, ◌^◌, ◌&&◌, ◌-◌, nat_lt, if◌then◌else◌}
use Rattle.quic_values.specs.declared.memory.OutOfMemory.{OutOfMemory}
use Rattle.quic_values.specs.declared.ids.Side.{Side}
use Rattle.quic_values.specs.declared.ids.Side.TheVariants.{Client, Server}
use Rattle.quic_values.specs.declared.ids.Dir.{Dir}
use Rattle.quic_values.specs.declared.ids.Dir.TheVariants.{Bi, Uni}
use Rattle.quic_values.specs.Ids.{initiator_of, dir_of, index_of, stream_id}
use Rattle.quic_wire.specs.declared.event.StreamEvent.{StreamEvent}
use Rattle.quic_wire.specs.declared.frame.Frame.{Frame}
use Rattle.quic_wire.specs.declared.frame.StreamMeta.{StreamMeta}
use Rattle.quic_retransmits.specs.Pending.{Pending, nothing}
use Rattle.quic_history.specs.World.{World}
use Rattle.quic_history.specs.Sends.{TellsNext, PollsQueue, with_out}
use Rattle.quic_history.specs.Writes.{with_queued}
use Rattle.quic_history.specs.Control.{SettlesEntry}
use Rattle.quic_history.specs.declared.control.ControlKind.{ControlKind}
use Rattle.quic_history.specs.declared.control.ControlKind.TheVariants as kinds
use Rattle.quic_history.proofs.SendSteps.{either-way}
use Rattle.quic_streams.specs.Payload.{PayloadPlace, SettlesSome, WritesKinds, none as no_entry, more as one_entry}
use Rattle.quic_streams.specs.Settling.{SentView, EachInOrder, LosesMeta}
use Rattle.quic_streams.specs.Sent.{sent_view, report_view}
use Rattle.quic_endpoint.specs.Ends.{EndState}
use Rattle.quic_endpoint.specs.Emitting.{PayloadView, control_in, place_at}
use Rattle.quic_endpoint.specs.Reports.{LosesPayloadAt}
use Rattle.quic_steps.specs.declared.steps.End.{End}
use Rattle.quic_steps.specs.declared.steps.End.TheVariants.{A, B}
use Rattle.quic_steps.specs.declared.steps.Step.TheVariants as steps
use Rattle.quic_steps.specs.declared.steps.Reply.TheVariants.{Done, Payload}
use Rattle.quic_steps.specs.declared.steps.PairError.TheVariants.{NoSuchPayload, NotAccepted, AlreadySettled, OutOfMemory as NoMemory}
use Rattle.quic_exchange.specs.Sent.{Sent}
use Rattle.quic_exchange.specs.declared.unsettled.Report.TheVariants.{Lost}
use Rattle.quic_exchange.specs.declared.phase.Phase.{Phase}
use Rattle.quic_exchange.specs.declared.phase.Phase.TheVariants as phase
use Rattle.quic_exchange.specs.declared.phase.Going.{Going}
use Rattle.quic_exchange.specs.declared.phase.Going.TheVariants.{On, Over, StreamOver, Unordered}
use Rattle.quic_exchange.specs.Replies.{Answer, event_reply}
use Rattle.quic_exchange.specs.State.{PairState, OnEnd, the_end, with_end, with_sent}
use Rattle.quic_exchange.specs.Calls.{Polls}
use Rattle.quic_exchange.specs.Steps.{NextOrdinary, SettlesPayload}
use Rattle.quic_exchange.specs.History.{History}
use Rattle.quic_exchange.specs.Settling.{step_at, going_of, is_quiet_at, behind_reports, phase_after, after_accepting, after_streams, after_reading, after_polling, after_emits, after_frame, IsSoughtFor, FollowsPhases, IsSettling, none as follows_none, more as follows_more}
use Rattle.quic_exchange.proofs.Emissions.{EmitsKinds, EmitsSomeAt, whole, cut, EmittedSome, emitted-some}
use Rattle.quic_exchange.proofs.Ordinary.{ordinary-at}

-- an end is to be told nothing
abbrev pub HasNoEvents : PairState → End → Type 0
HasNoEvents v who = (the_end v who).streams.events ≡ []

-- neither is
abbrev pub HaveNoEvents : PairState → Type 0
HaveNoEvents v = HasNoEvents v A × HasNoEvents v B

-- which ends are to be told nothing before the step of a phase
abbrev IsPolledFor : Phase → PairState → Type 0
IsPolledFor (phase.Poll B) v = HasNoEvents v A
IsPolledFor phase.EmitOfA v = HaveNoEvents v
IsPolledFor (phase.EmitOfB first empty quiet) v = HaveNoEvents v
IsPolledFor (phase.Drop first) v = HaveNoEvents v
IsPolledFor _ v = Unit {0}

-- ---- a poll that tells nothing

tells_none : (w v : World) → TellsNext w None v → v.events ≡ []
tells_none w v s = either-way w.bi.opened s (λ t. let e = t.0 in cc) (λ t. either-way w.uni.opened t (λ r. let e = r.0 in cc) (λ p. of_queue (with_out w p.1) p.0 p.3))
  where
    of_queue : (u : World) (writable : Option ℕ) → PollsQueue u writable None v → v.events ≡ []
    of_queue u (Some id) k = let e = k.0 in cc
    of_queue u None k = ap (λ (x : World). x.events) k.2 ∙ k.1.1

-- ---- what leaves what is to be told

none_at : (old new : PairState) → ((who : End) → (the_end new who).streams.events ≡ (the_end old who).streams.events) → HaveNoEvents old → HaveNoEvents new
none_at old new same none = (same A ∙ none.0, same B ∙ none.1)

entry_events : (kind : ControlKind) (u : World) (p : Pending) (o : Option Frame) (v : World) (q : Pending) → SettlesEntry kind u p o v q → v.events ≡ u.events
entry_events kinds.ResetStream u p o v q s = ap (λ (w : World). w.events) s.end
entry_events kinds.StopSending u p o v q s = ap (λ (w : World). w.events) s.end
entry_events kinds.MaxData u p o v q s = ap (λ (w : World). w.events) s.end
entry_events kinds.MaxStreamData u p o v q s = ap (λ (w : World). w.events) s.end
entry_events (kinds.MaxStreams Bi) u p o v q s = ap (λ (w : World). w.events) s.end
entry_events (kinds.MaxStreams Uni) u p o v q s = ap (λ (w : World). w.events) s.end
entry_events kinds.DataBlocked u p o v q s = ap (λ (w : World). w.events) s.end
entry_events kinds.StreamDataBlocked u p o v q s = ap (λ (w : World). w.events) s.end

some_events : {kind : ControlKind} {most : ℕ} {a b : PayloadPlace} → SettlesSome kind most a b → b.end.events ≡ a.end.events
some_events no_entry = refl
some_events {kind} {most} {a} {b} (one_entry {p} {q} {r} before room one) = entry_events kind q.end q.pending one.frame r.end r.pending one.settles ∙ some_events before

kinds_events : (most : ℕ) (ks : List ControlKind) (a b : PayloadPlace) (answer : Result (Unit {0}) OutOfMemory) → WritesKinds most ks a answer b → b.end.events ≡ a.end.events
kinds_events most [] a b (Ok x) s = ap (λ (p : PayloadPlace). p.end.events) s
kinds_events most [] a b (Err e) s = absurd s
kinds_events most (kind ∷ ks) a b answer s = elim s [
  | inl t ↦ kinds_events most ks t.0 b answer t.2 ∙ some_events t.1.turns
  | inr t ↦ some_events t.1
]

control_events : (most : ℕ) (e g : EndState) (answer : Result (Unit {0}) OutOfMemory) (bytes : List ℕ) (sent : Pending) → EmitsKinds most e answer g bytes sent → g.streams.events ≡ e.streams.events
control_events most e g answer bytes sent s = kinds_events most s.kinds (place_at e [] nothing s.before) (place_at g bytes sent s.after) answer s.writes

emit_events : {most : ℕ} {fair : Bool} {e : EndState} {payload : PayloadView} {answer : Result (Unit {0}) OutOfMemory} {g : EndState} → EmitsSomeAt most fair e payload answer g → g.streams.events ≡ e.streams.events
emit_events {most} {fair} {e} {payload} {answer} {g} (whole between bytes control streams) = ap (λ (w : World). w.events) streams.writes.others ∙ control_events most e between (Ok tt) bytes (control_in payload) control
emit_events {most} {fair} {e} {payload} {answer} {g} (cut {first} between bytes control none) = ap (λ (x : EndState). x.streams.events) none.same ∙ control_events most e between first bytes (control_in payload) control

lost_events : (xs : List StreamMeta) (w v : World) → EachInOrder LosesMeta w xs v → v.events ≡ w.events
lost_events [] w v s = ap (λ (u : World). u.events) s
lost_events (x ∷ xs) w v s = lost_events xs s.0 v s.2 ∙ ap (λ (u : World). u.events) s.1.3 ∙ queued s.1.0 (with_out w s.1.1)
  where
    queued : (o : Option ℤ) (u : World) → (with_queued u x.id o).events ≡ u.events
    queued None u = refl
    queued (Some priority) u = refl

loss_events : (e g : EndState) (sent : SentView) (answer : Result (Unit {0}) SentView) → LosesPayloadAt e sent answer g → g.streams.events ≡ e.streams.events
loss_events e g sent (Ok x) s = lost_events sent.streams e.streams g.streams s.0
loss_events e g sent (Err back) s = elim s.0 [
  | inl stop ↦ lost_events stop.frames.told e.streams g.streams stop.frames.reports
  | inr stop ↦ lost_events sent.streams e.streams g.streams stop.frames
]

-- ---- steps

module _ (old new : PairState) where
  same_events : (who : End) (g : EndState) (sents : List Sent) → g.streams.events ≡ (the_end old who).streams.events → new ≡ with_sent (with_end old who g) sents → (end : End) → (the_end new end).streams.events ≡ (the_end old end).streams.events
  same_events who g sents same e end = ap (λ (v : PairState). (the_end v end).streams.events) e ∙ by who same end
    where
      by : (k : End) → g.streams.events ≡ (the_end old k).streams.events → (end : End) → (the_end (with_sent (with_end old k g) sents) end).streams.events ≡ (the_end old end).streams.events
      by A d A = d
      by A d B = refl
      by B d A = refl
      by B d B = d

  stays_so : new ≡ old → (end : End) → (the_end new end).streams.events ≡ (the_end old end).streams.events
  stays_so e end = ap (λ (v : PairState). (the_end v end).streams.events) e

  emitted_events : (who : End) (most : ℕ) (fair : Bool) (reply : Answer) → EmittedSome old who most fair reply new → (end : End) → (the_end new end).streams.events ≡ (the_end old end).streams.events
  emitted_events who most fair (Ok (Payload number bytes)) n = same_events who n.emits.end _ (emit_events n.emits.emits) n.emits.is
  emitted_events who most fair (Err NoMemory) n = elim n [ inl same ↦ stays_so same | inr part ↦ same_events who part.emits.end _ (emit_events part.emits.emits) part.emits.is ]
  emitted_events who most fair _ n = absurd n

  loses_events : (number : ℕ) (reply : Answer) → SettlesPayload Lost LosesPayloadAt old number reply new → (end : End) → (the_end new end).streams.events ≡ (the_end old end).streams.events
  loses_events number (Ok Done) n = let who = n.payload.sent.writer in same_events who n.end _ (loss_events (the_end old who) n.end (sent_view n.rest) (report_view n.answer) n.does) n.is
  loses_events number (Err NoMemory) n = let who = n.payload.sent.writer in same_events who n.end _ (loss_events (the_end old who) n.end (sent_view n.rest) (report_view n.answer) n.does) n.is
  loses_events number (Err NoSuchPayload) n = stays_so n.1
  loses_events number (Err AlreadySettled) n = stays_so n.is
  loses_events number (Err NotAccepted) n = stays_so n.is
  loses_events number _ n = absurd n

  -- a poll that does not go on told nothing
  no_more : (who : End) → (going : Going) → (going ≡ On → ⊥) → (event : Option StreamEvent) (g : EndState) → TellsNext (the_end old who).streams event g.streams → going_of (event_reply event) ≡ Some going → g.streams.events ≡ []
  no_more who going other None g s e = tells_none (the_end old who).streams g.streams s
  no_more who going other (Some event) g s e = absurd (other (let same : On ≡ going = cc in sym same))

  polls_none : (who : End) (reply : Answer) (going : Going) → (going ≡ On → ⊥) → OnEnd (λ e g. Polls e reply g) old who new → going_of reply ≡ Some going → HasNoEvents new who
  polls_none who reply going other n e =
      let P : Answer → Type 0 = λ r. going_of r ≡ Some going in
      let none = no_more who going other n.does.event n.end n.does.polls (subst P n.does.reply_is e) in
      ap (λ (v : PairState). (the_end v who).streams.events) n.is ∙ at who none
    where
      at : (k : End) → n.end.streams.events ≡ [] → (the_end (with_end old k n.end) k).streams.events ≡ []
      at A d = d
      at B d = d

  -- and the other end is as it was
  a_stays : (reply : Answer) → OnEnd (λ e g. Polls e reply g) old B new → HasNoEvents old A → HasNoEvents new A
  a_stays reply n none = ap (λ (v : PairState). v.a.streams.events) n.is ∙ none

-- ---- phases before which nothing need hold

free_streams : (who : End) (s : Side) (d : Dir) (v : PairState) → IsPolledFor (after_streams who s d) v
free_streams A Client Bi v = tt
free_streams A Client Uni v = tt
free_streams A Server Bi v = tt
free_streams A Server Uni v = tt
free_streams B Client Bi v = tt
free_streams B Client Uni v = tt
free_streams B Server Bi v = tt
free_streams B Server Uni v = tt

free_stream : (who : End) (id following : ℕ) (more : Bool) (v : PairState) → IsPolledFor (if more then phase.Read who following true else after_streams who (initiator_of id) (dir_of id)) v
free_stream who id following true v = tt
free_stream who id following false v = free_streams who (initiator_of id) (dir_of id) v

free_reading : (who : End) (id : ℕ) (ordered : Bool) (going : Going) (v : PairState) → IsPolledFor (after_reading who id ordered going) v
free_reading who id ordered On v = tt
free_reading who id ordered Unordered v = tt
free_reading who id ordered StreamOver v = free_stream who id (stream_id (initiator_of id) (dir_of id) (index_of id + 1)) (nat_lt (index_of id + 1) (2 ^ 60)) v
free_reading who id ordered Over v = free_streams who (initiator_of id) (dir_of id) v

free_accepting : (who : End) (dir : Dir) (v : PairState) → IsPolledFor (after_accepting who dir) v
free_accepting A Bi v = tt
free_accepting A Uni v = tt
free_accepting B Bi v = tt
free_accepting B Uni v = tt

free_frame : (payload frame : ℕ) (following : Option ℕ) (quiet : Bool) (going : Going) (v : PairState) → IsPolledFor (after_frame payload frame following quiet going) v
free_frame payload frame (Some other) quiet Over v = tt
free_frame payload frame None quiet Over v = tt
free_frame payload frame (Some other) quiet On v = tt
free_frame payload frame None quiet On v = tt
free_frame payload frame (Some other) quiet StreamOver v = tt
free_frame payload frame None quiet StreamOver v = tt
free_frame payload frame (Some other) quiet Unordered v = tt
free_frame payload frame None quiet Unordered v = tt

free_reports : (quiet : Bool) (v : PairState) → IsPolledFor (behind_reports quiet) v
free_reports true v = tt
free_reports false v = tt

-- ---- all phases

module _ (old new : PairState) where
  poll_a : (going : Going) (reply : Answer) → NextOrdinary old (steps.Poll A) reply new → going_of reply ≡ Some going → IsPolledFor (after_polling A going) new
  poll_a On reply n e = tt
  poll_a Over reply n e = polls_none old new A reply Over (λ k. cc) n e
  poll_a StreamOver reply n e = polls_none old new A reply StreamOver (λ k. cc) n e
  poll_a Unordered reply n e = polls_none old new A reply Unordered (λ k. cc) n e

  poll_b : (going : Going) (reply : Answer) → HasNoEvents old A → NextOrdinary old (steps.Poll B) reply new → going_of reply ≡ Some going → IsPolledFor (after_polling B going) new
  poll_b On reply none n e = a_stays old new reply n none
  poll_b Over reply none n e = (a_stays old new reply n none, polls_none old new B reply Over (λ k. cc) n e)
  poll_b StreamOver reply none n e = (a_stays old new reply n none, polls_none old new B reply StreamOver (λ k. cc) n e)
  poll_b Unordered reply none n e = (a_stays old new reply n none, polls_none old new B reply Unordered (λ k. cc) n e)

  emit_b : (first : ℕ) (empty : Bool) (going : Going) (second : ℕ) (quiet : Bool) → HaveNoEvents new → IsPolledFor (after_emits first empty going second quiet) new
  emit_b first true Over second quiet none = none
  emit_b first true On second quiet none = tt
  emit_b first true StreamOver second quiet none = tt
  emit_b first true Unordered second quiet none = tt
  emit_b first false Over second quiet none = tt
  emit_b first false On second quiet none = tt
  emit_b first false StreamOver second quiet none = tt
  emit_b first false Unordered second quiet none = tt

  polled-next : (at : Phase) → IsPolledFor at old → (reply : Answer) → NextOrdinary old (step_at at) reply new → (going : Going) → going_of reply ≡ Some going → IsPolledFor (phase_after at going (length old.sent) (is_quiet_at new.sent (length old.sent))) new
  polled-next (phase.Report payload quiet) r reply n On e = tt
  polled-next (phase.Report payload quiet) r reply n Over e = tt
  polled-next (phase.Report payload quiet) r reply n StreamOver e = tt
  polled-next (phase.Report payload quiet) r reply n Unordered e = tt
  polled-next (phase.ReportLost payload quiet) r reply n going e = tt
  polled-next (phase.Accept who dir) r reply n On e = tt
  polled-next (phase.Accept who dir) r reply n Over e = free_accepting who dir new
  polled-next (phase.Accept who dir) r reply n StreamOver e = free_accepting who dir new
  polled-next (phase.Accept who dir) r reply n Unordered e = free_accepting who dir new
  polled-next (phase.Read who id ordered) r reply n going e = free_reading who id ordered going new
  polled-next (phase.Poll A) r reply n going e = poll_a going reply n e
  polled-next (phase.Poll B) r reply n going e = poll_b going reply r n e
  polled-next phase.EmitOfA r reply n going e = none_at old new (emitted_events old new A (2 ^ 64 - 1) true reply (emitted-some old new A (2 ^ 64 - 1) true reply n)) r
  polled-next (phase.EmitOfB first empty quiet) r reply n going e = emit_b first empty going (length old.sent) (quiet && is_quiet_at new.sent (length old.sent)) (none_at old new (emitted_events old new B (2 ^ 64 - 1) true reply (emitted-some old new B (2 ^ 64 - 1) true reply n)) r)
  polled-next (phase.Deliver payload frame following quiet) r reply n going e = free_frame payload frame following quiet going new
  polled-next (phase.Drop first) r reply n going e = none_at old new (loses_events old new first reply n) r

polled_same : (at following : Phase) (v : PairState) → IsPolledFor at v → following ≡ at → IsPolledFor following v
polled_same at following v r e = subst (λ (x : Phase). IsPolledFor x v) (sym e) r

polled_sought : (at following : Phase) (v : PairState) → IsPolledFor at v → IsSoughtFor v.sent at following → IsPolledFor following v
polled_sought (phase.Report from quiet) following v r s = elim s [
  | inl here ↦ polled_same (phase.Report here.0 quiet) following v tt here.2
  | inr none ↦ polled_same (behind_reports quiet) following v (free_reports quiet v) none.1
]
polled_sought (phase.Drop first) following v r s = elim s [
  | inl here ↦ polled_same (phase.Drop here.0) following v r here.2
  | inr none ↦ polled_same (phase.Report none.0 true) following v tt none.2
]
polled_sought (phase.ReportLost payload quiet) following v r s = polled_same (phase.ReportLost payload quiet) following v r s
polled_sought (phase.Accept who dir) following v r s = polled_same (phase.Accept who dir) following v r s
polled_sought (phase.Read who id ordered) following v r s = polled_same (phase.Read who id ordered) following v r s
polled_sought (phase.Poll who) following v r s = polled_same (phase.Poll who) following v r s
polled_sought phase.EmitOfA following v r s = polled_same phase.EmitOfA following v r s
polled_sought (phase.EmitOfB first empty quiet) following v r s = polled_same (phase.EmitOfB first empty quiet) following v r s
polled_sought (phase.Deliver payload frame after quiet) following v r s = polled_same (phase.Deliver payload frame after quiet) following v r s

polled-phases : (old : PairState) (taken : History) (new : PairState) (at : Phase) → FollowsPhases old (phase.Report 0 false) taken new at → IsPolledFor at new
polled-phases old _ _ _ follows_none = tt
polled-phases old _ _ _ (follows_more {taken} {between} {new} {at} here reply going before sought n e) =
    polled-next between new here (polled_sought at here between (polled-phases old taken between at before) sought) reply (ordinary-at here between new reply n) going e

-- so neither end is to be told anything at the end
pub polled-out : (old : PairState) (taken : History) (new : PairState) → IsSettling old taken new → (who : End) → HasNoEvents new who
polled-out old taken new s who = of_both who (subst (λ (x : Phase). IsPolledFor x new) s.ended.was (polled-phases old taken new s.at s.follows))
  where
    of_both : (k : End) → HaveNoEvents new → HasNoEvents new k
    of_both A none = none.0
    of_both B none = none.1
