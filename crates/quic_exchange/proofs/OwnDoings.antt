-- What a client does while its peer has not answered are own doings.
use Rattle.std.proofs.Common.{◌≡◌, ◌⊎◌, ℕ, Bool, true, false, zero, suc, List, [], ◌∷◌, ◌++◌, Option, Some, None, is_some, Result, Ok, Err, refl, sym, ap, ◌∙◌, subst, inl, inr, arith, length, ◌<◌}
use Rattle.std.specs.Prelude.{ℤ, ◌==◌, ◌&&◌, is_none, map, drop, nat_lt, slice_get, slice_set, slice_index_or, if◌then◌else◌}
use Rattle.std.proofs.lemmas.Bool.Decides.{nat_tests}
use Rattle.quic_values.specs.declared.memory.OutOfMemory.{OutOfMemory}
use Rattle.quic_values.specs.declared.ids.Dir.{Dir}
use Rattle.quic_values.specs.declared.ids.Side.{Side}
use Rattle.quic_values.specs.declared.ids.Side.TheVariants.{Client}
use Rattle.quic_values.specs.Ids.{initiator_of, dir_of, index_of}
use Rattle.quic_assembler.specs.declared.chunk.Chunk.{Chunk}
use Rattle.quic_wire.specs.declared.frame.Frame.{Frame}
use Rattle.quic_wire.specs.declared.frame.StreamMeta.{StreamMeta}
use Rattle.quic_wire.specs.Frames.{AreFrames}
use Rattle.quic_sending.specs.Source.{slice_lists}
use Rattle.quic_sending.specs.Buffer.{is_acked}
use Rattle.quic_sending.specs.Sending.{is_reset_sent}
use Rattle.quic_sending.specs.declared.send.Written.{Written}
use Rattle.quic_sending.specs.declared.send.WriteError.{WriteError}
use Rattle.quic_receiving.specs.declared.errors.ReadableError.{ReadableError}
use Rattle.quic_outgoing.specs.declared.limits.PeerLimits.{PeerLimits}
use Rattle.quic_outgoing.specs.Outgoing.{own_of, with_params}
use Rattle.quic_outgoing.specs.Senders.{is_local}
use Rattle.quic_outgoing.specs.Early.{NoneAcked}
use Rattle.quic_flows.specs.Flow.{SendFlow, SendMove, WasWritten, WasFinished, WasGivenUp, WasCarried, WasLost, with_send_move, counts_for, front_of, FlowFrom}
use Rattle.quic_streams.specs.declared.batches.ReadSome.{ReadSome}
use Rattle.quic_streams.specs.Payload.{Entry, with_entries}
use Rattle.quic_streams.specs.Transmitting.{with_turns}
use Rattle.quic_streams.specs.Settling.{SentView, EachInOrder, AcksMeta, AcksResetOf, AcksWhole, with_losses, losses_told, before_end, resets_of, unreported}
use Rattle.quic_streams.specs.Sent.{sent_view, report_view}
use Rattle.quic_streams.proofs.PayloadReports.{from-losses}
use Rattle.quic_history.specs.World.{World, Made, PermitsNoLess, made_again, start, is_own, remote_of}
use Rattle.quic_history.specs.Early.{with_rejection, SendsAgain, JointMove, WereDropped, WereUnsent, with_joint_move, with_unsent}
use Rattle.quic_history.specs.Flows.{has_send_side, has_side_in, send_moved, with_first_limits}
use Rattle.quic_history.specs.Sends.{with_out}
use Rattle.quic_history.specs.Acknowledged.{was_given}
use Rattle.quic_history.specs.declared.progress.LastAnswer.{LastAnswer}
use Rattle.quic_history.specs.declared.progress.LastAnswer.TheVariants as last_answer
use Rattle.quic_history.specs.Permitting.{acceptable}
use Rattle.quic_history.specs.SendEvents.{GaveLimits, OpenedOwn, RaisedLimit, StoppedOwn, SetWindow, WroteOwn, FinishedOwn, ResetOwn, SetOwnPriority, AckedOwn, LostOwn, ResetAckedOwn, TookTurn, Polled}
use Rattle.quic_history.specs.History.{Event, Step, Fits, From, IsStart, Accepted, Resized, SetConcurrent, LeftPending, Sending, SentAgain, Began, Gave, Stopped, ToldReset, with_chunks, with_last, with_reads, flow, since, send_tale, opened_in_all, send_move_of, limits_in, joint_move_of}
use Rattle.quic_history.specs.OwnDoings.{is_own_doing, AreOwnDoings}
use Rattle.quic_history.proofs.Histories.{next}
use Rattle.quic_history.proofs.Batches.{from-reads}
use Rattle.quic_history.proofs.Beginnings.{begins}
use Rattle.quic_history.proofs.EarlyFacts.{same-ends}
use Rattle.quic_history.proofs.EarlyFlows.{reset_state}
use Rattle.quic_history.proofs.SendSides.{held-flow}
use Rattle.quic_history.proofs.Unopened.{given-unopened}
use Rattle.quic_history.proofs.Bare.{IsBare, bare-run, mine, not-mine}
use Rattle.quic_history.proofs.Renewed.{renewed, permits-no-less}
use Rattle.quic_link.specs.Endpoints.{LinkedEnd}
use Rattle.quic_endpoint.specs.Ends.{EndState, WritesAt, with_counts_told_if}
use Rattle.quic_endpoint.specs.Emitting.{PayloadView}
use Rattle.quic_endpoint.specs.Reports.{LosesPayloadAt, AcksPayloadAt}
use Rattle.quic_steps.specs.declared.steps.End.{End}
use Rattle.quic_steps.specs.declared.steps.End.TheVariants.{A, B}
use Rattle.quic_steps.specs.declared.steps.Step.{Step as PairStep}
use Rattle.quic_steps.specs.declared.steps.Step.TheVariants as steps
use Rattle.quic_steps.specs.declared.steps.Reply.TheVariants.{Done, Payload}
use Rattle.quic_steps.specs.declared.steps.PairError.TheVariants.{NoSuchPayload, NotAccepted, AlreadySettled, OutOfMemory as NoMemory}
use Rattle.quic_exchange.specs.Sent.{Sent, Unsettled}
use Rattle.quic_exchange.specs.declared.unsettled.Report.TheVariants.{Lost, Acknowledged}
use Rattle.quic_exchange.specs.Unsettled.{unsettled_after}
use Rattle.quic_exchange.specs.Payloads.{SentText}
use Rattle.quic_exchange.specs.History.{Past}
use Rattle.quic_exchange.specs.Replies.{Answer}
use Rattle.quic_exchange.specs.State.{PairState, OnEnd, the_end, with_end, with_sent}
use Rattle.quic_exchange.specs.Calls.{Opens, Accepts, OnGiven, Writes, WritesChunksOrNone, Finishes, ResetsOn, StopsOn, SetsPriorityOn, AsksReset, ReadsOn, ReadsSo, SetsSendWindow, SetsReceiveWindow, SetsMaxConcurrent, Polls}
use Rattle.quic_exchange.specs.Gone.{IsGone, HaveLeft}
use Rattle.quic_exchange.specs.Steps.{Reports, SettlesPayload, NextOrdinary, is_server, needs_decision}
use Rattle.quic_exchange.specs.Tale.{Part, Carried, GivenUp, parts_in}
use Rattle.quic_exchange.proofs.Emissions.{EmitsSomeAt, whole, cut, EmitsSome, EmittedSome, emitted-some, emitted-part}
use Rattle.quic_exchange.proofs.CallsSetting.{told-streams}
use Rattle.quic_exchange.proofs.Left.{AreLeft}
use Rattle.quic_exchange.proofs.Joined.{Seen}
use Rattle.quic_exchange.proofs.Lists.{slice_get-push, slice_get-slice_set}

-- a call writes, ends or gives up a stream that a client opens, if it does so to one
abbrev pub IsOnOwn : Event → Type 0
IsOnOwn (Sending (WroteOwn id lists closed answer)) = is_local Client id ≡ true
IsOnOwn (Sending (FinishedOwn id answer)) = is_local Client id ≡ true
IsOnOwn (Sending (ResetOwn id code answer)) = is_local Client id ≡ true
IsOnOwn _ = Unit {0}

abbrev pub AreOnOwn : List Event → Type 0
AreOnOwn [] = Unit {0}
AreOnOwn (e ∷ h) = IsOnOwn e × AreOnOwn h

-- a client came so far by its own doings
pub record DidOwn (m : Made) (w : World) : Type 0 where
  pub calls : List Event
  pub from : From m calls w
  pub own : AreOwnDoings calls
  pub on_own : AreOnOwn calls

-- A wrote a payload, and nothing of it was accepted
pub record IsUntaken (s : Sent) : Type 0 where
  pub writer : s.writer ≡ A
  pub unaccepted : s.text.accepted ≡ []

-- so is each payload, unless it left
abbrev pub AreUntaken : List Sent → Type 0
AreUntaken sent = (number : ℕ) (s : Sent) → slice_get sent number ≡ Some s → IsUntaken s ⊎ IsGone s

-- the bytes of each payload spell frames
abbrev pub AreSpelled : List Sent → Type 0
AreSpelled sent = (number : ℕ) (s : Sent) → slice_get sent number ≡ Some s → (all : List Frame) × AreFrames s.text.bytes all

-- after such a step too the client did its own doings, and the other end and its frames are as they were
pub record StaysOwn (m : Made) (old new : PairState) : Type 0 where
  pub did : DidOwn m new.a.streams
  pub other : new.b ≡ old.b
  pub untaken : AreUntaken new.sent

-- ---- how it begins, and what it gives

pub own-begun : (m : Made) (limits : PeerLimits) → IsStart m (start m) → DidOwn m (with_out (start m) (with_params (start m).out limits))
own-begun m limits s =
    let e = Sending (GaveLimits limits (Ok tt)) in
    record {
      calls = e ∷ [];
      from = next m [] (start m) e (with_out (start m) (with_params (start m).out limits)) tt (begins m (start m) s) (sym (given-unopened (start m) limits refl refl));
      own = (inr (refl, refl), tt);
      on_own = (tt, tt);
    }

pub own-bare : (m : Made) (w : World) → m.side ≡ Client → DidOwn m w → IsBare w
own-bare m w client d = bare-run m d.calls w client d.from.run d.own

-- an end that is rejected then is a new one
pub own-renewed : (m : Made) (w : World) → m.side ≡ Client → DidOwn m w → IsStart (made_again (with_rejection w)) (with_rejection w)
own-renewed m w client d = (renewed m d.calls w (with_rejection w) client d.own d.from refl).run

-- whose peer may send and open no less
pub own-permits : (m : Made) (w : World) → DidOwn m w → PermitsNoLess m (made_again (with_rejection w))
own-permits m w d = permits-no-less m d.calls w (with_rejection w) d.from refl

-- ---- nothing that it sent is acknowledged

-- nothing is acknowledged on a stream
abbrev HasNoneAcked : SendFlow → Type 0
HasNoneAcked t = (n : ℕ) → t.acked n ≡ false

unacked_if : (b : Bool) (t u : SendFlow) → HasNoneAcked t → HasNoneAcked u → HasNoneAcked (if b then t else u)
unacked_if true t u s k = s
unacked_if false t u s k = k

unacked_joint : (o : Option JointMove) (side : Side) (q : ℕ) (t : SendFlow) → HasNoneAcked t → HasNoneAcked (with_joint_move o side q t)
unacked_joint None side q t k = k
unacked_joint (Some WereDropped) side q t k = λ n. refl
unacked_joint (Some WereUnsent) side q t k = unacked_if (is_local side q) (with_unsent t) t (unacked_if (is_none t.reset) _ t k k) k

unacked_limits : (l : Option PeerLimits) (side : Side) (q : ℕ) (t : SendFlow) → HasNoneAcked t → HasNoneAcked (with_first_limits l side q t)
unacked_limits None side q t k = k
unacked_limits (Some limits) side q t k = k

unacked_here : (id q : ℕ) (move : SendMove) (there : ℕ → Bool) (t : SendFlow) → HasNoneAcked (with_send_move move t) → HasNoneAcked t → HasNoneAcked (send_moved (Some (id, move)) there q t)
unacked_here id q move there t s k = unacked_if ((q == id) && there q) (with_send_move move t) t s k

unacked_moved : (h : List Event) (e : Event) (there : ℕ → Bool) (q : ℕ) (t : SendFlow) → (is_own_doing e ≡ true) ⊎ ((is_some (limits_in e) ≡ true) × (h ≡ [])) → HasNoneAcked t → HasNoneAcked (send_moved (send_move_of e) there q t)
unacked_moved h (Sending (RaisedLimit id limit (Ok x))) there q t own k = not-mine (mine h (Sending (RaisedLimit id limit (Ok x))) refl own)
unacked_moved h (Sending (StoppedOwn id code (Ok x))) there q t own k = not-mine (mine h (Sending (StoppedOwn id code (Ok x))) refl own)
unacked_moved h (Sending (AckedOwn id offsets fin (Ok x))) there q t own k = not-mine (mine h (Sending (AckedOwn id offsets fin (Ok x))) refl own)
unacked_moved h (Sending (ResetAckedOwn id (Ok x))) there q t own k = not-mine (mine h (Sending (ResetAckedOwn id (Ok x))) refl own)
unacked_moved h (Sending (WroteOwn id lists closed (Ok written))) there q t own k = unacked_here id q (WasWritten (front_of written.bytes lists)) there t k k
unacked_moved h (Sending (FinishedOwn id (Ok x))) there q t own k = unacked_here id q WasFinished there t k k
unacked_moved h (Sending (ResetOwn id code (Ok x))) there q t own k = unacked_here id q (WasGivenUp code) there t k k
unacked_moved h (Sending (LostOwn id offsets fin (Ok x))) there q t own k = unacked_here id q (WasLost offsets.start offsets.end fin) there t (unacked_if (counts_for t.reset t.sent_up_to offsets.end) _ t k k) k
unacked_moved h (Sending (TookTurn most fair (Some frame))) there q t own k = unacked_here frame.id q (WasCarried frame.offsets.start frame.offsets.end frame.fin) there t (unacked_if (is_none t.reset) _ t k k) k
unacked_moved h _ there q t own k = k

unacked_flow : (m : Made) (h : List Event) → AreOwnDoings h → (q : ℕ) → HasNoneAcked (flow m h q)
unacked_flow m [] own q = λ n. refl
unacked_flow m (e ∷ h) own q =
    unacked_limits (limits_in e) m.side q _
    (unacked_moved h e (has_send_side m.side (opened_in_all (since h)) (send_tale m h).may_open) q (with_joint_move (joint_move_of e) m.side q (flow m h q)) own.0
    (unacked_joint (joint_move_of e) m.side q (flow m h q) (unacked_flow m h own.1 q)))

pub own-unacked : (m : Made) (w : World) → DidOwn m w → NoneAcked w.out.side w.out.halves
own-unacked m w d q s own held open_now n = by (flow m d.calls q).reset refl
  where
    is : FlowFrom (flow m d.calls q) s
    is = held-flow _ (flow m d.calls q) (has_side_in w.out w.bi.max_remote q) s (w.out.halves q) held (d.from.sends.flows q)

    by : (o : Option ℕ) → (flow m d.calls q).reset ≡ o → is_acked s.pending n ≡ false
    by None e = (is.offsets e).acked n ∙ unacked_flow m d.calls d.own q n
    by (Some code) e =
        let k = sym open_now ∙ ap is_reset_sent is.state ∙ reset_state (flow m d.calls q).reset (flow m d.calls q).finished (flow m d.calls q).end_acked ∙ ap (λ (o : Option ℕ). is_some o) e in cc

-- ---- one more call

did_at : (m : Made) (v w : World) → v ≡ w → DidOwn m w → DidOwn m v
did_at m v w e d = let P : World → Type 0 = λ u. DidOwn m u in subst P (sym e) d

one_more : (m : Made) (w v : World) (e : Event) → is_own_doing e ≡ true → IsOnOwn e → ((h : List Event) → Fits h e) → DidOwn m w → Step w e v → DidOwn m v
one_more m w v e own on fits d s = record { calls = e ∷ d.calls; from = next m d.calls w e v (fits d.calls) d.from s; own = (inl own, d.own); on_own = (on, d.on_own) }

-- a stream that was given is one that the client opened
given_own : (w : World) (id : ℕ) → IsBare w → was_given w id ≡ true → is_local Client id ≡ true
given_own w id b given = by (is_own w id) refl given
  where
    local : is_own w id ≡ is_local Client id
    local = same-ends w.out.side (initiator_of id) ∙ ap (λ s. is_local s id) b.client

    by : (own : Bool) → is_own w id ≡ own → (if own then nat_lt (index_of id) (own_of w.out (dir_of id)).opened else nat_lt (index_of id) (remote_of w (dir_of id)).next_reported) ≡ true → is_local Client id ≡ true
    by true e k = sym local ∙ e
    by false e k =
        let k0 = b.unopened (dir_of id) in
        let z = k0.reported in
        let none : nat_lt (index_of id) (remote_of w (dir_of id)).next_reported ≡ false = grind (arith, nat_tests) in
        let both = sym none ∙ k in cc

-- all that it sent is to be sent again
pub own-again : (m : Made) (w v : World) → DidOwn m w → (NoneAcked w.out.side w.out.halves → SendsAgain w (Ok tt) v) → DidOwn m v
own-again m w v d again = let none = own-unacked m w d in one_more m w v (SentAgain (Ok tt)) refl tt (λ h. tt) d (none, again none)

-- ---- payloads

-- one that is there did not leave
pub untaken-here : (s : Sent) → s.gone ≡ false → IsUntaken s ⊎ IsGone s → IsUntaken s
untaken-here s here (inl k) = k
untaken-here s here (inr k) = let both = sym here ∙ k.gone in cc

pub untaken-left : (old new : List Sent) → HaveLeft old new → AreUntaken new
untaken-left old new l number s got = inr (l.each number s got)

-- the client wrote each, and so it spells frames
pub spelled-seen : (p : Past) (v : PairState) (x y : LinkedEnd) → Seen p A v x y → AreUntaken v.sent → AreSpelled v.sent
spelled-seen p v x y s untaken number payload got = by (untaken number payload got)
  where
    P : List ℕ → Type 0
    P bytes = AreFrames bytes []

    by : IsUntaken payload ⊎ IsGone payload → (all : List Frame) × AreFrames payload.text.bytes all
    by (inl k) = let i = s.own number payload got k.writer in (i.all, i.spelled)
    by (inr k) = ([], subst P (sym (ap (λ (text : SentText). text.bytes) k.text)) refl)

-- ---- several calls

abbrev AreDone : List Event → Type 0
AreDone h = AreOwnDoings h × AreOnOwn h

module _ (id most : ℕ) (ordered : Bool) (mine : is_local Client id ≡ true) where
  chunks_own : (cs : List Chunk) (h : List Event) → AreDone h → AreDone (with_chunks id most ordered cs h)
  chunks_own [] h k = k
  chunks_own (c ∷ cs) h k = chunks_own cs (Gave id most ordered (Ok (Some c)) ∷ h) ((inl mine, k.0), (tt, k.1))

  last_own : (last : LastAnswer) (h : List Event) → AreDone h → AreDone (with_last id most ordered last h)
  last_own last_answer.Blocked h k = ((inl mine, k.0), (tt, k.1))
  last_own last_answer.Ended h k = ((inl mine, k.0), (tt, k.1))
  last_own (last_answer.Reset code) h k = ((inl mine, k.0), (tt, k.1))
  last_own last_answer.Memory h k = ((inl mine, k.0), (tt, k.1))
  last_own last_answer.More h k = k

  reads_own : (cs : List Chunk) (last : LastAnswer) (h : List Event) → AreDone h → AreDone (with_reads id most ordered cs last h)
  reads_own cs last h k =
      let b = Began id ordered (Ok tt) ∷ h in
      let r = last_own last (with_chunks id most ordered cs b) (chunks_own cs b ((inl mine, k.0), (tt, k.1))) in
      ((inl refl, r.0), (tt, r.1))

entries_own : (es : List Entry) (h : List Event) → AreDone h → AreDone (with_entries es h)
entries_own [] h k = k
entries_own (e ∷ es) h k = entries_own es (LeftPending e.kind e.frame ∷ h) ((inl refl, k.0), (tt, k.1))

turns_own : (most : ℕ) (fair : Bool) (ts : List (Option StreamMeta)) (h : List Event) → AreDone h → AreDone (with_turns most fair ts h)
turns_own most fair [] h k = k
turns_own most fair (t ∷ ts) h k = turns_own most fair ts (Sending (TookTurn most fair t) ∷ h) ((inl refl, k.0), (tt, k.1))

losses_own : (ms : List StreamMeta) (h : List Event) → AreDone h → AreDone (with_losses ms h)
losses_own [] h k = k
losses_own (m ∷ ms) h k = losses_own ms (Sending (LostOwn m.id m.offsets m.fin (Ok tt)) ∷ h) ((inl refl, k.0), (tt, k.1))

by_calls : (m : Made) (w : World) (h : List Event) → From m h w → AreDone h → DidOwn m w
by_calls m w h f k = record { calls = h; from = f; own = k.0; on_own = k.1 }

-- a payload is written
emitted_own : {most : ℕ} {fair : Bool} {e f : EndState} {payload : PayloadView} {answer : Result (Unit {0}) OutOfMemory} (m : Made) → DidOwn m e.streams → EmitsSomeAt most fair e payload answer f → DidOwn m f.streams
emitted_own {most} {fair} {e} {f} m d (whole between bytes control streams) =
    let written = with_entries control.from.entries d.calls in
    by_calls m f.streams (with_turns most fair streams.from.turns written) (streams.from.from m written (control.from.from m d.calls d.from))
    (turns_own most fair streams.from.turns written (entries_own control.from.entries d.calls (d.own, d.on_own)))
emitted_own {most} {fair} {e} {f} m d (cut between bytes control short) =
    let written = with_entries control.from.entries d.calls in
    did_at m f.streams between.streams (ap (λ (k : EndState). k.streams) short.same)
    (by_calls m between.streams written (control.from.from m d.calls d.from) (entries_own control.from.entries d.calls (d.own, d.on_own)))

-- a payload was lost
lost_own : (m : Made) (e f : EndState) (r : SentView) (answer : Result (Unit {0}) SentView) → DidOwn m e.streams → LosesPayloadAt e r answer f → DidOwn m f.streams
lost_own m e f r answer d k =
    by_calls m f.streams (losses_told r answer d.calls) (from-losses m d.calls e.streams f.streams e.pending f.pending r answer d.from k)
    (losses_own (before_end r.streams (unreported answer).streams) d.calls (d.own, d.on_own))

-- ---- a payload without frames

no_beginning : {T : Type 0} (told rest : List T) (next : T) → [] ≡ told ++ next ∷ rest → ⊥
no_beginning [] rest next e = cc
no_beginning (t ∷ told) rest next e = cc

-- that it was acknowledged does nothing
acked_none : (u v : World) (r : SentView) (answer : Result (Unit {0}) SentView) → r.streams ≡ [] → resets_of r.control ≡ [] → AcksWhole u r answer v → v ≡ u
acked_none u v r (Ok x) none_sent none_reset k =
    let P : List StreamMeta → Type 0 = λ ms. EachInOrder AcksMeta u ms k.0 in
    let Q : List (ℕ × ℕ) → Type 0 = λ cs. EachInOrder AcksResetOf k.0 cs v in
    let first : k.0 ≡ u = subst P none_sent k.1 in
    let second : v ≡ k.0 = subst Q none_reset k.2 in
    second ∙ first
acked_none u v r (Err back) none_sent none_reset (inl stop) = absurd (no_beginning stop.frames.told stop.frames.rest stop.frames.next (sym none_sent ∙ stop.frames.parts))
acked_none u v r (Err back) none_sent none_reset (inr stop) = absurd (no_beginning stop.resets.told stop.resets.rest stop.resets.next (sym none_reset ∙ ap resets_of stop.noted ∙ stop.resets.parts))

none_dropped : (n : ℕ) → drop {A = Part} n [] ≡ []
none_dropped zero = refl
none_dropped (suc n) = refl

none_of : (ms : List StreamMeta) (cs : List (ℕ × ℕ)) → map Carried ms ++ map (λ (c : ℕ × ℕ). GivenUp c.0) cs ≡ [] → (ms ≡ []) × (cs ≡ [])
none_of [] [] e = (refl, refl)
none_of [] (c ∷ cs) e = cc
none_of (m ∷ ms) cs e = cc

-- all frames of a payload are accepted, and none is: it has none
unmarked : (marks : List Bool) (index : ℕ) → marks ≡ [] → slice_index_or marks index false ≡ true → ⊥
unmarked marks index e h = let k = sym (ap (λ l. slice_index_or l index false) e) ∙ h in cc

no_frames : (s : SentText) (all : List Frame) → s.accepted ≡ [] → ((index : ℕ) → index < length all → slice_index_or s.accepted index false ≡ true) → all ≡ []
no_frames s [] none set = refl
no_frames s (f ∷ fs) none set = absurd (unmarked s.accepted 0 none (set 0 (omega arith)))

-- ---- steps of the client

module _ (m : Made) (client : m.side ≡ Client) (old new : PairState) (did : DidOwn m old.a.streams) (untaken : AreUntaken old.sent) where
  abbrev end : EndState
  end = old.a

  -- nothing changed
  same_pair : new ≡ old → StaysOwn m old new
  same_pair is = let P : PairState → Type 0 = λ v. StaysOwn m old v in subst P (sym is) (record { did = did; other = refl; untaken = untaken })

  -- the client has another value
  stays : (f : EndState) → new ≡ with_end old A f → DidOwn m f.streams → StaysOwn m old new
  stays f is d = let P : PairState → Type 0 = λ v. StaysOwn m old v in subst P (sym is) (record { did = d; other = refl; untaken = untaken })

  -- by one call
  called : (f : EndState) → new ≡ with_end old A f → (e : Event) → is_own_doing e ≡ true → IsOnOwn e → ((h : List Event) → Fits h e) → Step end.streams e f.streams → StaysOwn m old new
  called f is e own on fits s = stays f is (one_more m end.streams f.streams e own on fits did s)

  -- after which counts of streams may be told
  told : (f g : EndState) (due : Bool) → f ≡ with_counts_told_if due g → new ≡ with_end old A f → DidOwn m g.streams → StaysOwn m old new
  told f g due k is d = stays f is (did_at m f.streams g.streams (ap (λ (e : EndState). e.streams) k ∙ told-streams due g) d)

  -- or by none
  unchanged : (f : EndState) → new ≡ with_end old A f → f ≡ end → StaysOwn m old new
  unchanged f is k = stays f is (did_at m f.streams end.streams (ap (λ (e : EndState). e.streams) k) did)

  on_given : (id : ℕ) (reply : Answer) (f : EndState) (Does : Type 0) → new ≡ with_end old A f → OnGiven end id reply f Does → (is_local Client id ≡ true → Does → StaysOwn m old new) → StaysOwn m old new
  on_given id reply f Does is d known = elim d [
    | inl k ↦ known (given_own end.streams id (own-bare m end.streams client did) k.0) k.1
    | inr k ↦ unchanged f is k.2
  ]

  -- ---- of the application

  own_open : (dir : Dir) (reply : Answer) → OnEnd (λ e f. Opens e dir reply f) old A new → StaysOwn m old new
  own_open dir reply d = called d.end d.is (Sending (OpenedOwn dir false d.does.answer)) refl tt (λ h. tt) d.does.opens.0

  own_accept : (dir : Dir) (reply : Answer) → OnEnd (λ e f. Accepts e dir reply f) old A new → StaysOwn m old new
  own_accept dir reply d = called d.end d.is (Accepted dir (acceptable end.streams dir)) refl tt (λ h. tt) (ap (λ (j : EndState). j.streams) d.does.is, refl)

  wrote_own : (id : ℕ) (lists : List (List ℕ)) (f : EndState) → new ≡ with_end old A f → is_local Client id ≡ true → (answer : Result Written WriteError) → WritesAt end id lists answer f → StaysOwn m old new
  wrote_own id lists f is mine answer w = called f is (Sending (WroteOwn id lists false answer)) refl mine (λ h. tt) (end.pending, f.pending, w.0, w.1)

  own_write : (id : ℕ) (bytes : List ℕ) (reply : Answer) → OnEnd (λ e f. OnGiven e id reply f (Writes e id (slice_lists bytes) reply f)) old A new → StaysOwn m old new
  own_write id bytes reply d = on_given id reply d.end _ d.is d.does (λ mine w. wrote_own id (slice_lists bytes) d.end d.is mine w.answer w.writes)

  own_chunks : (id : ℕ) (chunks : List (List ℕ)) (reply : Answer) → OnEnd (λ e f. OnGiven e id reply f (WritesChunksOrNone e id chunks reply f)) old A new → StaysOwn m old new
  own_chunks id chunks reply d = on_given id reply d.end _ d.is d.does (λ mine w. elim w [
    | inl k ↦ wrote_own id chunks d.end d.is mine k.answer k.writes
    | inr k ↦ unchanged d.end d.is k.1
  ])

  own_finish : (id : ℕ) (reply : Answer) → OnEnd (λ e f. OnGiven e id reply f (Finishes e id reply f)) old A new → StaysOwn m old new
  own_finish id reply d = on_given id reply d.end _ d.is d.does (λ mine w. called d.end d.is (Sending (FinishedOwn id w.answer)) refl mine (λ h. tt) w.finishes.0)

  own_reset : (id code : ℕ) (reply : Answer) → OnEnd (λ e f. OnGiven e id reply f (ResetsOn e id code reply f)) old A new → StaysOwn m old new
  own_reset id code reply d = on_given id reply d.end _ d.is d.does (λ mine w. called d.end d.is (Sending (ResetOwn id code w.answer)) refl mine (λ h. tt) (end.pending, d.end.pending, w.resets))

  own_stop : (id code : ℕ) (reply : Answer) → OnEnd (λ e f. OnGiven e id reply f (StopsOn e id code reply f)) old A new → StaysOwn m old new
  own_stop id code reply d = on_given id reply d.end _ d.is d.does (λ mine w.
      let s = w.stops in
      told d.end s.stopped _ s.is d.is (one_more m end.streams s.stopped.streams (Stopped id code w.answer) mine tt (λ h. tt) did (end.pending, s.stopped.pending, s.stops)))

  own_priority : (id : ℕ) (priority : ℤ) (reply : Answer) → OnEnd (λ e f. OnGiven e id reply f (SetsPriorityOn e id priority reply f)) old A new → StaysOwn m old new
  own_priority id priority reply d = on_given id reply d.end _ d.is d.does (λ mine w. called d.end d.is (Sending (SetOwnPriority id priority w.answer)) refl tt (λ h. tt) w.sets.0)

  read_own : (id : ℕ) (ordered : Bool) (most times : ℕ) (f : EndState) → new ≡ with_end old A f → is_local Client id ≡ true → (answer : Result ReadSome ReadableError) → ReadsSo end id ordered most times answer f → StaysOwn m old new
  read_own id ordered most times f is mine (Ok read) s =
      let cs = read.chunks.items in
      told f s.read true s.is is (by_calls m s.read.streams (with_reads id most ordered cs read.last did.calls)
      (from-reads m did.calls end.streams s.read.streams id most times ordered end.pending s.read.pending cs read.last read.transmit.0 did.from s.reads)
      (reads_own id most ordered mine cs read.last did.calls (did.own, did.on_own)))
  read_own id ordered most times f is mine (Err error) s = told f s.asked _ s.is is (one_more m end.streams s.asked.streams (Began id ordered (Err error)) mine tt (λ h. tt) did s.begins)

  own_read : (id : ℕ) (ordered : Bool) (most times : ℕ) (reply : Answer) → OnEnd (λ e f. OnGiven e id reply f (ReadsOn e id ordered most times reply f)) old A new → StaysOwn m old new
  own_read id ordered most times reply d = on_given id reply d.end _ d.is d.does (λ mine w. read_own id ordered most times d.end d.is mine w.answer w.reads)

  own_code : (id : ℕ) (reply : Answer) → OnEnd (λ e f. OnGiven e id reply f (AsksReset e id reply f)) old A new → StaysOwn m old new
  own_code id reply d = on_given id reply d.end _ d.is d.does (λ mine w.
      let s = w.tells in
      told d.end s.asked _ s.is d.is (one_more m end.streams s.asked.streams (ToldReset id w.answer) mine tt (λ h. tt) did (end.pending, s.asked.pending, s.tells)))

  own_send_window : (window : ℕ) (reply : Answer) → OnEnd (λ e f. SetsSendWindow e window reply f) old A new → StaysOwn m old new
  own_send_window window reply d = called d.end d.is (Sending (SetWindow window)) refl tt (λ h. tt) (ap (λ (k : EndState). k.streams) d.does.1)

  own_receive_window : (window : ℕ) (reply : Answer) → OnEnd (λ e f. SetsReceiveWindow e window reply f) old A new → StaysOwn m old new
  own_receive_window window reply d = called d.end d.is (Resized window d.does.larger) refl tt (λ h. tt) (ap (λ (k : EndState). k.streams) d.does.is, d.does.larger_is)

  own_concurrent : (dir : Dir) (count : ℕ) (reply : Answer) → OnEnd (λ e f. SetsMaxConcurrent e dir count reply f) old A new → StaysOwn m old new
  own_concurrent dir count reply d =
      let s = d.does.sets in
      told d.end s.set _ s.is d.is (one_more m end.streams s.set.streams (SetConcurrent dir count d.does.answer) refl tt (λ h. tt) did s.sets)

  own_poll : (reply : Answer) → OnEnd (λ e f. Polls e reply f) old A new → StaysOwn m old new
  own_poll reply d = called d.end d.is (Sending (Polled d.does.event)) refl tt (λ h. tt) d.does.polls

  -- ---- payloads

  emits_own : (most : ℕ) (fair : Bool) (answer : Result (Unit {0}) OutOfMemory) (payload : PayloadView) → EmitsSome old A most fair answer payload new → StaysOwn m old new
  emits_own most fair answer payload k =
      let P : PairState → Type 0 = λ v. StaysOwn m old v in
      let Q : Sent → Type 0 = λ s. IsUntaken s ⊎ IsGone s in
      let now : IsUntaken k.sent = record { writer = k.sent_is.writer; unaccepted = ap (λ (t : SentText). t.accepted) k.sent_is.text } in
      subst P (sym k.is) (record {
        did = emitted_own m did k.emits;
        other = refl;
        untaken = λ number s got. elim (slice_get-push old.sent k.sent number s got) [
          | inl before ↦ untaken number s before
          | inr last ↦ subst Q (sym last.1) (inl now)
        ];
      })

  own_emit : (most : ℕ) (fair : Bool) (reply : Answer) → EmittedSome old A most fair reply new → StaysOwn m old new
  own_emit most fair (Ok (Payload number bytes)) k = emits_own most fair (Ok tt) k.payload k.emits
  own_emit most fair (Err NoMemory) k = elim k [
    | inl same ↦ same_pair same
    | inr t ↦ emits_own most fair t.answer t.payload t.emits
  ]
  own_emit most fair _ k = absurd k

  -- something was reported of a payload
  reported : (number : ℕ) (s : Sent) → slice_get old.sent number ≡ Some s → IsUntaken s → (f : EndState) (u : Unsettled) → new ≡ with_sent (with_end old s.writer f) (slice_set old.sent number (record s { unsettled = u })) → DidOwn m f.streams → StaysOwn m old new
  reported number s at mine f u is d =
      let t : Sent = record s { unsettled = u } in
      let P : PairState → Type 0 = λ v. StaysOwn m old v in
      let Q : Sent → Type 0 = λ x. IsUntaken x ⊎ IsGone x in
      let now : IsUntaken t = record { writer = mine.writer; unaccepted = mine.unaccepted } in
      subst P (sym (is ∙ ap (λ (w : End). with_sent (with_end old w f) (slice_set old.sent number t)) mine.writer)) (record {
        did = d;
        other = refl;
        untaken = λ n x got. elim (slice_get-slice_set old.sent number n t x got) [
          | inl here ↦ subst Q (sym here.1) (inl now)
          | inr there ↦ untaken n x there
        ];
      })

  lost : (number : ℕ) (reply : Answer) → Reports Lost LosesPayloadAt old number reply new → StaysOwn m old new
  lost number reply k =
      let s = k.payload.sent in
      let mine = untaken-here s k.payload.here (untaken number s k.payload.is) in
      let R : End → Type 0 = λ w. LosesPayloadAt (the_end old w) (sent_view k.rest) (report_view k.answer) k.end in
      reported number s k.payload.is mine k.end (unsettled_after Lost s.unsettled k.answer) k.is (lost_own m end k.end (sent_view k.rest) (report_view k.answer) did (subst R mine.writer k.does))

  own_lose : (number : ℕ) (reply : Answer) → SettlesPayload Lost LosesPayloadAt old number reply new → StaysOwn m old new
  own_lose number (Ok Done) k = lost number (Ok Done) k
  own_lose number (Err NoMemory) k = lost number (Err NoMemory) k
  own_lose number (Err NoSuchPayload) k = same_pair k.1
  own_lose number (Err AlreadySettled) k = same_pair k.is
  own_lose number (Err NotAccepted) k = same_pair k.is
  own_lose number _ k = absurd k

  module _ (spelled : AreSpelled old.sent) (count : ℕ → ℕ) (left : AreLeft old.sent count) where
    -- of one without frames, since none was accepted
    acked : (number : ℕ) (reply : Answer) → Reports Acknowledged AcksPayloadAt old number reply new → StaysOwn m old new
    acked number reply k =
        let s = k.payload.sent in
        let mine = untaken-here s k.payload.here (untaken number s k.payload.is) in
        let text = spelled number s k.payload.is in
        let none : text.0 ≡ [] = no_frames s.text text.0 mine.unaccepted (k.serves text.0 text.1) in
        let l = left number s k.rest text.0 k.payload.is k.rest_is text.1 in
        let rest = sent_view k.rest in
        let both = none_of rest.streams (resets_of rest.control) (l.parts ∙ ap (λ all. drop (count number) (parts_in all)) none ∙ none_dropped (count number)) in
        let R : End → Type 0 = λ w. AcksPayloadAt (the_end old w) rest (report_view k.answer) k.end in
        let a : AcksPayloadAt end rest (report_view k.answer) k.end = subst R mine.writer k.does in
        reported number s k.payload.is mine k.end (unsettled_after Acknowledged s.unsettled k.answer) k.is
        (did_at m k.end.streams end.streams (ap (λ (e : EndState). e.streams) a.is ∙ told-streams _ a.acked ∙ acked_none end.streams a.acked.streams rest (report_view k.answer) both.0 both.1 a.acks) did)

    own_ack : (number : ℕ) (reply : Answer) → SettlesPayload Acknowledged AcksPayloadAt old number reply new → StaysOwn m old new
    own_ack number (Ok Done) k = acked number (Ok Done) k
    own_ack number (Err NoMemory) k = acked number (Err NoMemory) k
    own_ack number (Err NoSuchPayload) k = same_pair k.1
    own_ack number (Err AlreadySettled) k = same_pair k.is
    own_ack number (Err NotAccepted) k = same_pair k.is
    own_ack number _ k = absurd k

-- ---- all of them

at_client : (P : End → Type 0) (who : End) → is_server who ≡ false → P who → P A
at_client P A e p = p
at_client P B e p = cc

pub own-next : (m : Made) → m.side ≡ Client → (old new : PairState) → DidOwn m old.a.streams → AreUntaken old.sent → AreSpelled old.sent → (told : ℕ → ℕ) → AreLeft old.sent told
    → (step : PairStep) (reply : Answer) → needs_decision step ≡ false → NextOrdinary old step reply new → StaysOwn m old new
own-next m c old new d u s told l (steps.Open who dir) reply by n = own_open m c old new d u dir reply (at_client (λ w. NextOrdinary old (steps.Open w dir) reply new) who by n)
own-next m c old new d u s told l (steps.Accept who dir) reply by n = own_accept m c old new d u dir reply (at_client (λ w. NextOrdinary old (steps.Accept w dir) reply new) who by n)
own-next m c old new d u s told l (steps.Write who id bytes) reply by n = own_write m c old new d u id bytes reply (at_client (λ w. NextOrdinary old (steps.Write w id bytes) reply new) who by n)
own-next m c old new d u s told l (steps.WriteChunks who id chunks) reply by n = own_chunks m c old new d u id chunks reply (at_client (λ w. NextOrdinary old (steps.WriteChunks w id chunks) reply new) who by n)
own-next m c old new d u s told l (steps.Finish who id) reply by n = own_finish m c old new d u id reply (at_client (λ w. NextOrdinary old (steps.Finish w id) reply new) who by n)
own-next m c old new d u s told l (steps.Reset who id code) reply by n = own_reset m c old new d u id code reply (at_client (λ w. NextOrdinary old (steps.Reset w id code) reply new) who by n)
own-next m c old new d u s told l (steps.Stop who id code) reply by n = own_stop m c old new d u id code reply (at_client (λ w. NextOrdinary old (steps.Stop w id code) reply new) who by n)
own-next m c old new d u s told l (steps.SetPriority who id priority) reply by n = own_priority m c old new d u id priority reply (at_client (λ w. NextOrdinary old (steps.SetPriority w id priority) reply new) who by n)
own-next m c old new d u s told l (steps.Read who id ordered most times) reply by n = own_read m c old new d u id ordered most times reply (at_client (λ w. NextOrdinary old (steps.Read w id ordered most times) reply new) who by n)
own-next m c old new d u s told l (steps.ReceivedReset who id) reply by n = own_code m c old new d u id reply (at_client (λ w. NextOrdinary old (steps.ReceivedReset w id) reply new) who by n)
own-next m c old new d u s told l (steps.SetSendWindow who window) reply by n = own_send_window m c old new d u window reply (at_client (λ w. NextOrdinary old (steps.SetSendWindow w window) reply new) who by n)
own-next m c old new d u s told l (steps.SetReceiveWindow who window) reply by n = own_receive_window m c old new d u window reply (at_client (λ w. NextOrdinary old (steps.SetReceiveWindow w window) reply new) who by n)
own-next m c old new d u s told l (steps.SetMaxConcurrent who dir count) reply by n = own_concurrent m c old new d u dir count reply (at_client (λ w. NextOrdinary old (steps.SetMaxConcurrent w dir count) reply new) who by n)
own-next m c old new d u s told l (steps.Poll who) reply by n = own_poll m c old new d u reply (at_client (λ w. NextOrdinary old (steps.Poll w) reply new) who by n)
own-next m c old new d u s told l (steps.Emit who most fair) reply by n = own_emit m c old new d u most fair reply (emitted-some old new A most fair reply (at_client (λ w. NextOrdinary old (steps.Emit w most fair) reply new) who by n))
own-next m c old new d u s told l (steps.EmitPart who most fair part) reply by n = own_emit m c old new d u most fair reply (emitted-part old new A most fair part reply (at_client (λ w. NextOrdinary old (steps.EmitPart w most fair part) reply new) who by n))
own-next m c old new d u s told l (steps.Lose number) reply by n = own_lose m c old new d u number reply n
own-next m c old new d u s told l (steps.Ack number) reply by n = own_ack m c old new d u s told l number reply n
own-next m c old new d u s told l (steps.Deliver number index) reply by n = cc
own-next m c old new d u s told l _ reply by n = absurd n
