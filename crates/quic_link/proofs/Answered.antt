-- What calls are answered is true of the other end.
use Rattle.std.proofs.Common.{◌≡◌, ℕ, Bool, true, false, List, Option, Some, None, is_some, Ok, Err, refl, sym, ap, ◌∙◌, subst, inl, inr, arith, ◌+◌, ◌<◌, ◌≤◌}
use Rattle.std.specs.Prelude.{◌==◌, ◌&&◌, min, if◌then◌else◌}
use Rattle.std.proofs.lemmas.Bool.Decides.{nat_tests}
use Rattle.quic_wire.specs.declared.error.TransportError.{TransportError}
use Rattle.quic_wire.specs.declared.error.ReceiveError.TheVariants as receive_error
use Rattle.quic_sending.specs.declared.send.Send.{Send}
use Rattle.quic_sending.specs.declared.send.WriteError.TheVariants as write_error
use Rattle.quic_sending.specs.declared.send.FinishError.TheVariants as finish_error
use Rattle.quic_sending.specs.Sending.{finish_refusal, is_ready}
use Rattle.quic_receiving.specs.Half.{Half, is_all}
use Rattle.quic_receiving.specs.Data.{IsAllGiven}
use Rattle.quic_receiving.specs.declared.errors.ReadError.TheVariants as read_error
use Rattle.quic_receiving.specs.declared.errors.ReadableError.TheVariants as readable_error
use Rattle.quic_outgoing.specs.Calls.{end_refusal}
use Rattle.quic_flows.specs.Flow.{SendFlow, takes_data}
use Rattle.quic_history.specs.World.{World, id_refusal}
use Rattle.quic_history.specs.Flows.{refusal_told, refusal_where, room_on}
use Rattle.quic_history.specs.Reading.{ReadsHalf, IsClosed}
use Rattle.quic_history.specs.SendEvents.{WroteOwn, FinishedOwn, Polled}
use Rattle.quic_history.specs.History.{Event, Received, Began, Gave, ToldReset, Sending, HalfFrom, slices, trace, is_frame_kept, is_sent_on, room_in_connection, room_in_window}
use Rattle.quic_history.proofs.Totals.{by_cases}
use Rattle.quic_history.proofs.StreamSteps.{half-from, known-from, gone-from}
use Rattle.quic_link.specs.Endpoints.{LinkedEnd, MayAct, sent_on, came_on}
use Rattle.quic_link.specs.Truths.{amount_on}
use Rattle.quic_link.specs.Promises.{HasNothingToRead, KeptAt, AnswersTrue, IsOver, WasReadUnordered, RefusesNone, frames_kept, kept_count}
use Rattle.quic_link.proofs.Growth.{held-told}
use Rattle.quic_history.proofs.ToldEvents.{queues}
use Rattle.quic_link.proofs.Told.{told-polled}
use Rattle.quic_link.proofs.Ends.{comes-acted, plain-call}
use Rattle.quic_link.proofs.Readers.{reads-kept}
use Rattle.quic_link.proofs.Truthful.{readable}
use Rattle.quic_link.proofs.Joint.{Agrees}

module _ (x y : LinkedEnd) (s : Agrees x y) (r : Agrees y x) where
  told : (id : ℕ) (h : Half) → x.world.receive id ≡ Some h → HalfFrom x.world.window (came_on x id) h
  told id h e = half-from (trace x.calls) x.world id h s.comes.facts.streams (known-from (trace x.calls) x.world id h s.comes.facts.streams e) e

  size_of_half : (o : Option ℕ) (n : ℕ) → is_all o n ≡ true → o ≡ Some n
  size_of_half None n e = cc
  size_of_half (Some m) n e = let i : m ≡ n = grind (arith, nat_tests) in ap (λ k. Some k) i

  -- the end
  end_true : (id most : ℕ) (ordered : Bool) (v : World) → ReadsHalf x.world id most ordered (Ok None) v → ((sent_on y id).finished ≡ true) × IsAllGiven (slices (came_on x id).given) (amount_on y id)
  end_true id most ordered v k =
      let h = told id k.old k.half in
      let size = size_of_half k.old.size k.old.buffer.bytes_read k.reads.0 in
      let sized : (came_on x id).sized ≡ true = sym h.sized ∙ ap (λ (o : Option ℕ). is_some o) size in
      let fits = r.fits id in
      let all = (s.comes.tells id k.old k.half k.running k.reads.2.running k.old.buffer.bytes_read size).0 refl in
      let whole : k.old.buffer.bytes_read ≡ amount_on y id = sym (h.final k.old.buffer.bytes_read size) ∙ h.high ∙ fits.whole sized in
      let P : ℕ → Type 0 = λ n. IsAllGiven (slices (came_on x id).given) n in
      (fits.ended sized (sym h.reset ∙ k.reads.2.running), subst P whole all)

  -- nothing to read
  blocked_true : (id most : ℕ) (ordered : Bool) (v : World) → ReadsHalf x.world id most ordered (Err read_error.Blocked) v → HasNothingToRead x y id ordered
  blocked_true id most ordered v k =
      let t = told id k.old k.half in
      let is = readable y x r s id k.old k.half k.running k.reads.2.running in
      let none = k.reads.1 in
      let P : ℕ → Type 0 = λ n. KeptAt x.calls id n in
      record {
        next = λ o h. let q : k.old.buffer.ordered ≡ true = k.mode ∙ o in none.next q (is.next q (subst P (sym t.read) h));
        any = λ o at h g. let q : k.old.buffer.ordered ≡ false = k.mode ∙ o in let b = is.any at h g in none.any q at b.0 b.1;
        end = λ h all. let e = sym (is.end h all) ∙ k.reads.0 in cc;
      }

  -- a reset
  reset_true : (id code : ℕ) (h : Half) → x.world.receive id ≡ Some h → h.reset ≡ Some code → (sent_on y id).reset ≡ Some code
  reset_true id code h e k = let t = told id h e in (r.fits id).reset code (sym t.reset ∙ k)

  -- a stream that is read no more
  closed_over : (id : ℕ) (o : Option Half) → x.world.receive id ≡ o → id_refusal x.world id ≡ None → IsClosed o → IsOver (came_on x id)
  closed_over id None e k c = (s.reads.traces id).over (gone-from (trace x.calls) x.world id s.comes.facts.streams k e)
  closed_over id (Some h) e k c = let t = told id h e in inr (inl (sym t.stopped ∙ c))

  -- the code of a stop
  stopped_where : (o : Option ℕ) (room code : ℕ) → refusal_where o room ≡ Some (write_error.Stopped code) → o ≡ Some code
  stopped_where None room code e = by_room (room == 0) e
    where
      by_room : (b : Bool) → (if b then Some write_error.Blocked else None) ≡ Some (write_error.Stopped code) → None ≡ Some code
      by_room true k = cc
      by_room false k = cc
  stopped_where (Some c) room code e = cc

  stopped_told : (there : Bool) (room code : ℕ) (t : SendFlow) → refusal_told there room t ≡ Some (write_error.Stopped code) → t.stopped ≡ Some code
  stopped_told false room code t e = cc
  stopped_told true room code t e = by_room (room == 0) e
    where
      by_takes : (b : Bool) → (if b then refusal_where t.stopped (room_on t) else Some write_error.ClosedStream) ≡ Some (write_error.Stopped code) → t.stopped ≡ Some code
      by_takes true k = stopped_where t.stopped (room_on t) code k
      by_takes false k = cc

      by_room : (b : Bool) → (if b then Some write_error.Blocked else (if takes_data t.reset t.finished then refusal_where t.stopped (room_on t) else Some write_error.ClosedStream)) ≡ Some (write_error.Stopped code) → t.stopped ≡ Some code
      by_room true k = cc
      by_room false k = by_takes (takes_data t.reset t.finished) k

  finish_stopped : (h : Send) (code : ℕ) (o : Option ℕ) → h.stop_reason ≡ o → finish_refusal h ≡ Some (finish_error.Stopped code) → o ≡ Some code
  finish_stopped h code None e k = by_ready (is_ready h.state) refl
    where
      by_ready : (b : Bool) → is_ready h.state ≡ b → None ≡ Some code
      by_ready true l = let j = rw (e, l) at k in cc
      by_ready false l = let j = rw (e, l) at k in cc
  finish_stopped h code (Some c) e k = let j = rw e at k in cc

  ended_stopped : (id code : ℕ) (o : Option Send) → x.world.out.halves id ≡ o → end_refusal o ≡ Some (finish_error.Stopped code) → (sent_on x id).stopped ≡ Some code
  ended_stopped id code None e k = cc
  ended_stopped id code (Some h) e k =
      let t = held-told x.made x.calls x.world x.world s.comes.from id h e in
      sym t.stopped ∙ finish_stopped h code h.stop_reason refl k

  -- too many pieces
  crowded_true : (none : RefusesNone y x) (id offset : ℕ) (bytes : List ℕ) (fin : Bool) (error : TransportError) (v : World) → MayAct x y (Received id offset bytes fin (Err (receive_error.Transport error))) v
      → (WasReadUnordered x.calls id → ⊥) → 1024 < kept_count x.calls id + 1
  crowded_true none id offset bytes fin error v a not_read =
      let e = Received id offset bytes fin (Err (receive_error.Transport error)) in
      let c = (none e v a).1 in
      let acted_so = comes-acted x y e v s.comes a in
      let after = reads-kept x.made x.calls x.world s.comes.from s.reads e v (plain-call x y e a.honest) a.step acted_so.from in
      let many = c.many in
      by_cases c.half.buffer.ordered
      (λ o. let k = after.pieces id c.half c.held o in let l = kept_most e id in omega arith)
      (λ o. absurd (elim (after.unordered id c.half c.held o) [ inl now ↦ cc | inr before ↦ not_read before ]))
    where
      kept_if : (b : Bool) → (if b then 1 else 0) ≤ 1
      kept_if true = omega arith
      kept_if false = omega arith

      kept_most : (e : Event) (q : ℕ) → frames_kept e q ≤ 1
      kept_most (Received id offset bytes fin answer) q = kept_if ((q == id) && is_frame_kept answer)
      kept_most _ q = omega arith

  pub answers-true : RefusesNone y x → AnswersTrue x y
  answers-true none (Gave id most ordered (Ok None)) v a = end_true id most ordered v a.step
  answers-true none (Gave id most ordered (Ok (Some chunk))) v a = tt
  answers-true none (Gave id most ordered (Err (read_error.Reset code))) v a = reset_true id code a.step.old a.step.half a.step.reads.0
  answers-true none (Gave id most ordered (Err read_error.Blocked)) v a = blocked_true id most ordered v a.step
  answers-true none (Gave id most ordered (Err read_error.OutOfMemory)) v a = tt
  answers-true none (ToldReset id (Ok (Some code))) v a = let t = a.step.2 in reset_true id code t.0 t.1 t.3
  answers-true none (ToldReset id (Ok None)) v a = tt
  answers-true none (ToldReset id (Err error)) v a = tt
  answers-true none (Began id ordered (Err readable_error.ClosedStream)) v a = λ known. closed_over id (x.world.receive id) refl known a.step.0
  answers-true none (Began id ordered (Err readable_error.IllegalOrderedRead)) v a = let k = a.step in (k.orders.0, s.reads.unordered id k.old k.half k.orders.1)
  answers-true none (Began id ordered (Err readable_error.OutOfMemory)) v a = tt
  answers-true none (Began id ordered (Ok u)) v a = tt
  answers-true none (Received id offset bytes fin (Err (receive_error.Transport error))) v a = crowded_true none id offset bytes fin error v a
  answers-true none (Received id offset bytes fin (Err receive_error.CompactionMemory)) v a = tt
  answers-true none (Received id offset bytes fin (Err receive_error.OutOfMemory)) v a = tt
  answers-true none (Received id offset bytes fin (Ok transmit)) v a = tt
  answers-true none (Sending (WroteOwn id lists closed (Err (write_error.Stopped code)))) v a =
      let k = a.step in
      let w = s.comes.writes id lists closed k.0 (Err (write_error.Stopped code)) v k.2 k.1 k.3 in
      (s.acked id).stopped code (stopped_told (is_sent_on x.made x.calls id) (min (room_in_connection x.calls) (room_in_window x.made x.calls)) code (sent_on x id) w.1)
  answers-true none (Sending (WroteOwn id lists closed (Err write_error.Blocked))) v a = tt
  answers-true none (Sending (WroteOwn id lists closed (Err write_error.ClosedStream))) v a = tt
  answers-true none (Sending (WroteOwn id lists closed (Err write_error.OutOfMemory))) v a = tt
  answers-true none (Sending (WroteOwn id lists closed (Ok written))) v a = tt
  answers-true none (Sending (FinishedOwn id (Err (finish_error.Stopped code)))) v a = elim a.step.1.0 [
    | inl k ↦ (s.acked id).stopped code (ended_stopped id code (x.world.out.halves id) refl k)
    | inr k ↦ cc
  ]
  answers-true none (Sending (FinishedOwn id (Err finish_error.ClosedStream))) v a = tt
  answers-true none (Sending (FinishedOwn id (Err finish_error.OutOfMemory))) v a = tt
  answers-true none (Sending (FinishedOwn id (Ok u))) v a = tt
  answers-true none (Sending (Polled None)) v a = tt
  answers-true none (Sending (Polled (Some g))) v a = told-polled x y x.world.events v.events g (queues x.made x.calls x.world s.comes.side s.comes.from.sent s.comes.sends (Sending (Polled (Some g))) v a.step) s.events
  answers-true none _ v a = tt
