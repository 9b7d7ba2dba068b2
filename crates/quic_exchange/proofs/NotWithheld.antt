-- Nothing permitted is withheld on the sending side, by what the steps tell.
use Rattle.std.proofs.Common.{◌≡◌, ◌⊎◌, ℕ, Bool, true, false, List, [], ◌∷◌, length, Option, Some, None, Result, Ok, Err, refl, sym, ap, ◌∙◌, subst, inl, inr, arith, ◌≤◌, ◌<◌}
use Rattle.std.specs.Prelude.{◌==◌, ◌&&◌, ◌-◌, not, min, nat_lt, if◌then◌else◌}
use Rattle.std.specs.List.{concat}
use Rattle.std.proofs.lemmas.Bool.Decides.{nat_tests}
use Rattle.quic_values.specs.declared.ids.Dir.{Dir}
use Rattle.quic_values.specs.declared.ids.Dir.TheVariants.{Bi, Uni}
use Rattle.quic_values.specs.declared.memory.OutOfMemory.{OutOfMemory}
use Rattle.quic_values.specs.Ids.{dir_of, index_of}
use Rattle.quic_sending.specs.Source.{slice_lists}
use Rattle.quic_sending.specs.Buffer.{total_length}
use Rattle.quic_sending.specs.declared.send.Written.{Written}
use Rattle.quic_sending.specs.declared.send.WriteError.{WriteError}
use Rattle.quic_sending.specs.declared.send.WriteError.TheVariants as write_error
use Rattle.quic_sending.proofs.Cuts.{length-concat}
use Rattle.quic_flows.specs.Flow.{SendFlow, takes_data, retained}
use Rattle.quic_outgoing.specs.Outgoing.{own_of}
use Rattle.quic_outgoing.specs.Senders.{is_local}
use Rattle.quic_queue.specs.SendOrder.{line}
use Rattle.quic_history.specs.World.{World, Made, remote_of}
use Rattle.quic_history.specs.Acknowledged.{was_given}
use Rattle.quic_history.specs.Flows.{room_on, refusal_where, refusal_told, has_send_side, has_side_in, is_answered_on, HasRest, stands}
use Rattle.quic_history.specs.History.{since, flow, moved_streams, taken_in_all, greatest_limit, opened_in_all, greatest_count, retained_in_all, total_over, room_in_connection, room_in_window, write_room, is_sent_on, why_not, send_tale, WritesSo}
use Rattle.quic_history.proofs.FlowHistory.{known-by}
use Rattle.quic_history.proofs.Totals.{total_same}
use Rattle.quic_link.proofs.Basics.{permits_now, same_id}
use Rattle.quic_link.proofs.Ends.{since-plain}
use Rattle.quic_link.proofs.Opens.{own-local}
use Rattle.quic_endpoint.specs.Ends.{EndState, OpensAt, WritesAt}
use Rattle.quic_exchange.proofs.Origins.{Origin}
use Rattle.quic_steps.specs.declared.steps.End.{End}
use Rattle.quic_steps.specs.declared.steps.End.TheVariants.{A, B}
use Rattle.quic_steps.specs.declared.steps.PayloadPart.TheVariants.{Streams}
use Rattle.quic_steps.specs.declared.steps.Step.{Step}
use Rattle.quic_steps.specs.declared.steps.Step.TheVariants as steps
use Rattle.quic_steps.specs.declared.steps.Reply.TheVariants.{Payload}
use Rattle.quic_exchange.specs.Replies.{Answer, opened_reply, written_reply, chunks_reply}
use Rattle.quic_exchange.specs.State.{PairState, OnEnd, the_end}
use Rattle.quic_exchange.specs.Calls.{OnGiven, Writes, WritesChunksOrNone}
use Rattle.quic_exchange.specs.Steps.{NextOrdinary}
use Rattle.quic_exchange.specs.Due.{IsFull, IsFullOfStreams}
use Rattle.quic_exchange.proofs.Eras.{EraFrom, ToldIn}
use Rattle.quic_exchange.specs.History.{History, past_of}
use Rattle.quic_exchange.specs.Readable.{side_of}
use Rattle.quic_exchange.specs.Tale.{Tale, StepTells, retained_by}
use Rattle.quic_exchange.specs.Withheld.{NotWithheld, DoesAsPermitted, LeavesNone, WritesTold, RefusesData, OnlyReceives, room_told}
use Rattle.quic_exchange.proofs.Grown.{grown-from, retold-next}
use Rattle.quic_exchange.proofs.Counted.{Counted}
use Rattle.quic_exchange.proofs.Recounted.{Recounted, made_at}
use Rattle.quic_exchange.proofs.Due.{asks-for}
use Rattle.quic_exchange.proofs.ToldOnce.{tells-once, told-in-once}

-- ---- writes

module _ (m : Made) (w : World) (t : Tale) (c : Counted m w t) where
  since_is : since c.calls ≡ c.calls
  since_is = since-plain c.calls c.plain

  connection_is : room_in_connection c.calls ≡ t.limit - t.written
  connection_is = ap (λ h. greatest_limit h - taken_in_all h) since_is ∙ ap (λ n. n - taken_in_all c.calls) c.tells.limit_is ∙ ap (λ n. t.limit - n) c.tells.written_is

  retained_is : retained_in_all m c.calls ≡ retained_by t
  retained_is = total_same (λ q. retained (t.flow q)) (λ q. retained (flow m c.calls q)) (moved_streams c.calls) (λ q. ap retained (c.tells.flow_is q)) ∙ ap (total_over (λ q. retained (t.flow q))) c.tells.streams_are

  window_room : room_in_window m c.calls ≡ t.send_window - retained_by t
  window_room = ap (λ n. n - retained_in_all m c.calls) c.tells.window_is ∙ ap (λ n. t.send_window - n) retained_is

  both_rooms : min (room_in_connection c.calls) (room_in_window m c.calls) ≡ min (t.limit - t.written) (t.send_window - retained_by t)
  both_rooms = ap (λ n. min n (room_in_window m c.calls)) connection_is ∙ ap (min (t.limit - t.written)) window_room

  room_is : (id : ℕ) → write_room m c.calls id ≡ room_told t id
  room_is id = ap (λ n. min n (room_on (flow m c.calls id))) both_rooms ∙ ap (λ f. min (min (t.limit - t.written) (t.send_window - retained_by t)) (room_on f)) (c.tells.flow_is id)

-- ---- why nothing is written

zero_is : (n : ℕ) (b : Bool) → (n == 0) ≡ b → b ≡ true → n ≡ 0
zero_is n b e k = same_id n 0 (e ∙ k)

above : (n : ℕ) → (n == 0) ≡ false → 0 < n
above n e = grind (arith, nat_tests)

least_zero : (a b : ℕ) → (a ≡ 0) ⊎ (b ≡ 0) → min a b ≡ 0
least_zero a b (inl e) = omega arith
least_zero a b (inr e) = omega arith

module _ (room : ℕ) (f : SendFlow) where
  -- the limit of the stream leaves nothing
  full_where : (stopped : Option ℕ) (z : Bool) → (room_on f == 0) ≡ z → refusal_where stopped (room_on f) ≡ Some write_error.Blocked → room_on f ≡ 0
  full_where None true e k = zero_is (room_on f) true e refl
  full_where None false e k = let j : None ≡ Some write_error.Blocked = ap (λ b. if b then Some write_error.Blocked else None) (sym e) ∙ k in cc
  full_where (Some code) z e k = cc

  full_on : (z takes : Bool) → (room == 0) ≡ z → takes_data f.reset f.finished ≡ takes → (if z then Some write_error.Blocked else (if takes then refusal_where f.stopped (room_on f) else Some write_error.ClosedStream)) ≡ Some write_error.Blocked
      → (room ≡ 0) ⊎ (room_on f ≡ 0)
  full_on true takes e d k = inl (zero_is room true e refl)
  full_on false true e d k = inr (full_where f.stopped (room_on f == 0) refl k)
  full_on false false e d k = cc

  blocked_room : (sends : Bool) → refusal_told sends room f ≡ Some write_error.Blocked → min room (room_on f) ≡ 0
  blocked_room true k = least_zero room (room_on f) (full_on (room == 0) (takes_data f.reset f.finished) refl refl k)
  blocked_room false k = cc

  -- there is room
  room_where : (stopped : Option ℕ) (z : Bool) → (room_on f == 0) ≡ z → refusal_where stopped (room_on f) ≡ None → 0 < room_on f
  room_where None true e k = let j : Some write_error.Blocked ≡ None = ap (λ b. if b then Some write_error.Blocked else None) (sym e) ∙ k in cc
  room_where None false e k = above (room_on f) e
  room_where (Some code) z e k = cc

  some_on : (z takes : Bool) → (room == 0) ≡ z → (if z then Some write_error.Blocked else (if takes then refusal_where f.stopped (room_on f) else Some write_error.ClosedStream)) ≡ None → 0 < min room (room_on f)
  some_on true takes e k = cc
  some_on false true e k = let n = above room e in let m = room_where f.stopped (room_on f == 0) refl k in omega arith
  some_on false false e k = cc

  some_room : (sends : Bool) → refusal_told sends room f ≡ None → 0 < min room (room_on f)
  some_room true k = some_on (room == 0) (takes_data f.reset f.finished) refl k
  some_room false k = cc

  -- the stream was stopped
  stopped_where : (stopped : Option ℕ) (z : Bool) (code : ℕ) → (room_on f == 0) ≡ z → refusal_where stopped (room_on f) ≡ Some (write_error.Stopped code) → stopped ≡ Some code
  stopped_where None true code e k = let j : Some write_error.Blocked ≡ Some (write_error.Stopped code) = ap (λ b. if b then Some write_error.Blocked else None) (sym e) ∙ k in cc
  stopped_where None false code e k = let j : None ≡ Some (write_error.Stopped code) = ap (λ b. if b then Some write_error.Blocked else None) (sym e) ∙ k in cc
  stopped_where (Some c) z code e k = let i : c ≡ code = cc in ap (λ (n : ℕ). Some n) i

  stopped_on : (z takes : Bool) (code : ℕ) → (if z then Some write_error.Blocked else (if takes then refusal_where f.stopped (room_on f) else Some write_error.ClosedStream)) ≡ Some (write_error.Stopped code) → f.stopped ≡ Some code
  stopped_on true takes code k = cc
  stopped_on false true code k = stopped_where f.stopped (room_on f == 0) code refl k
  stopped_on false false code k = cc

  stopped_told : (sends : Bool) (code : ℕ) → refusal_told sends room f ≡ Some (write_error.Stopped code) → f.stopped ≡ Some code
  stopped_told true code k = stopped_on (room == 0) (takes_data f.reset f.finished) code k
  stopped_told false code k = cc

  -- it takes no more data
  closed_where : (stopped : Option ℕ) (z : Bool) → (room_on f == 0) ≡ z → refusal_where stopped (room_on f) ≡ Some write_error.ClosedStream → ⊥
  closed_where None true e k = let j : Some write_error.Blocked ≡ Some write_error.ClosedStream = ap (λ b. if b then Some write_error.Blocked else None) (sym e) ∙ k in cc
  closed_where None false e k = let j : None ≡ Some write_error.ClosedStream = ap (λ b. if b then Some write_error.Blocked else None) (sym e) ∙ k in cc
  closed_where (Some c) z e k = cc

  closed_on : (z takes : Bool) → (if z then Some write_error.Blocked else (if takes then refusal_where f.stopped (room_on f) else Some write_error.ClosedStream)) ≡ Some write_error.ClosedStream → takes ≡ false
  closed_on true takes k = cc
  closed_on false true k = absurd (closed_where f.stopped (room_on f == 0) refl k)
  closed_on false false k = refl

  closed_told : (sends : Bool) → refusal_told sends room f ≡ Some write_error.ClosedStream → (sends ≡ false) ⊎ (takes_data f.reset f.finished ≡ false)
  closed_told true k = inr (closed_on (room == 0) (takes_data f.reset f.finished) k)
  closed_told false k = inl refl

-- a stream that was given, on which an end does not send
not_sent : (local : Bool) (d : Dir) (i opened reported most : ℕ) → (if local then nat_lt i opened else nat_lt i reported) ≡ true → (d ≡ Bi → reported ≤ most) → (if local then nat_lt i opened else is_answered_on d most i) ≡ false → (local ≡ false) × (d ≡ Uni)
not_sent true d i opened reported most g l k = absurd (let e = sym g ∙ k in cc)
not_sent false Bi i opened reported most g l k = let n = l refl in absurd (grind (arith, nat_tests))
not_sent false Uni i opened reported most g l k = (refl, refl)

either_false : (a b : Bool) → (a && not b) ≡ false → (a ≡ false) ⊎ (b ≡ true)
either_false true true e = inr refl
either_false true false e = cc
either_false false b e = inl refl

module _ (m : Made) (w : World) (t : Tale) (c : Counted m w t) (who : End) (side : m.side ≡ side_of who) (id : ℕ) (given : was_given w id ≡ true) where
  reported_most : (d : Dir) → (remote_of w d).next_reported ≤ (remote_of w d).max_remote
  reported_most d = let k = permits_now m c.calls w c.from.run c.from.remotes d in let a = k.opened in let b = k.accepted in omega arith

  only_receives : has_side_in w.out w.bi.max_remote id ≡ false → OnlyReceives who id
  only_receives k =
      let own = own-local w w.out.side id refl in
      let P : Bool → Type 0 = λ l. (if l then nat_lt (index_of id) (own_of w.out (dir_of id)).opened else nat_lt (index_of id) (remote_of w (dir_of id)).next_reported) ≡ true in
      let here : is_local w.out.side id ≡ is_local (side_of who) id = ap (λ s. is_local s id) (c.from.side ∙ side) in
      let n = not_sent (is_local w.out.side id) (dir_of id) (index_of id) (own_of w.out (dir_of id)).opened (remote_of w (dir_of id)).next_reported w.bi.max_remote (subst P own given) (most (dir_of id)) k in
      (sym here ∙ n.0, n.1)
    where
      most : (d : Dir) → d ≡ Bi → (remote_of w d).next_reported ≤ w.bi.max_remote
      most Bi e = reported_most Bi
      most Uni e = cc

  sides_so : (sends : Bool) → is_sent_on m c.calls id ≡ sends → sends ≡ false → OnlyReceives who id ⊎ ((t.flow id).freed ≡ true)
  sides_so sends e k = elim (either_false (has_send_side m.side (opened_in_all (since c.calls)) (send_tale m c.calls).may_open id) (flow m c.calls id).freed (e ∙ k)) [
    | inl none ↦ inl (only_receives (sym (known-by m c.calls w c.from.side c.from.sends.may_open c.from.sent id) ∙ none))
    | inr freed ↦ inr (sym (ap (λ (f : SendFlow). f.freed) (c.tells.flow_is id)) ∙ freed)
  ]

  abbrev rooms : ℕ
  rooms = min (room_in_connection c.calls) (room_in_window m c.calls)

  room_as : min rooms (room_on (flow m c.calls id)) ≡ room_told t id
  room_as = room_is m w t c id

  closed_so : why_not m c.calls id ≡ Some write_error.ClosedStream → OnlyReceives who id ⊎ RefusesData (t.flow id)
  closed_so k = elim (closed_told rooms (flow m c.calls id) (is_sent_on m c.calls id) k) [
    | inl none ↦ elim (sides_so (is_sent_on m c.calls id) refl none) [ inl only ↦ inl only | inr freed ↦ inr (inr freed) ]
    | inr takes ↦ inr (inl (sym (ap (λ (f : SendFlow). takes_data f.reset f.finished) (c.tells.flow_is id)) ∙ takes))
  ]

  stopped_so : (code : ℕ) → why_not m c.calls id ≡ Some (write_error.Stopped code) → (t.flow id).stopped ≡ Some code
  stopped_so code k = sym (ap (λ (f : SendFlow). f.stopped) (c.tells.flow_is id)) ∙ stopped_told rooms (flow m c.calls id) (is_sent_on m c.calls id) code k

  blocked_so : why_not m c.calls id ≡ Some write_error.Blocked → room_told t id ≡ 0
  blocked_so k = sym room_as ∙ blocked_room rooms (flow m c.calls id) (is_sent_on m c.calls id) k

  took_so : (bytes count : ℕ) → why_not m c.calls id ≡ None → bytes ≡ min count (write_room m c.calls id) → (bytes ≡ min count (room_told t id)) × (0 < room_told t id)
  took_so bytes count k e =
      let P : ℕ → Type 0 = λ n. 0 < n in
      (e ∙ ap (min count) room_as, subst P room_as (some_room rooms (flow m c.calls id) (is_sent_on m c.calls id) k))

  -- a write by which that is answered, of so many bytes
  wrote_told : (lists : List (List ℕ)) (answer : Result Written WriteError) → WritesSo m c.calls id lists false answer → WritesTold t who id (total_length lists) (written_reply answer)
  wrote_told lists (Ok written) s = took_so written.bytes (total_length lists) s.1 s.2
  wrote_told lists (Err write_error.Blocked) (inl e) = cc
  wrote_told lists (Err write_error.Blocked) (inr k) = blocked_so k
  wrote_told lists (Err (write_error.Stopped code)) s = stopped_so code s.1
  wrote_told lists (Err write_error.ClosedStream) s = closed_so s.1
  wrote_told lists (Err write_error.OutOfMemory) s = tt

  chunks_told : (lists : List (List ℕ)) (answer : Result Written WriteError) → WritesSo m c.calls id lists false answer → WritesTold t who id (total_length lists) (chunks_reply answer)
  chunks_told lists (Ok written) s = took_so written.bytes (total_length lists) s.1 s.2
  chunks_told lists (Err write_error.Blocked) (inl e) = cc
  chunks_told lists (Err write_error.Blocked) (inr k) = blocked_so k
  chunks_told lists (Err (write_error.Stopped code)) s = stopped_so code s.1
  chunks_told lists (Err write_error.ClosedStream) s = closed_so s.1
  chunks_told lists (Err write_error.OutOfMemory) s = tt

-- ---- steps

slice_total : (bytes : List ℕ) → total_length (slice_lists bytes) ≡ length bytes
slice_total [] = refl
slice_total (b ∷ bs) = omega arith

side_made : (a b : Origin) (who : End) → (made_at a b who).side ≡ side_of who
side_made a b A = refl
side_made a b B = refl

module _ (a b : Origin) (old new : PairState) (r : Recounted a b old) (who : End) where
  abbrev end : EndState
  end = the_end old who

  abbrev tale : Tale
  tale = r.tales.of who

  opens_so : (dir : Dir) (f : EndState) (answer : Result (Option ℕ) OutOfMemory) → OpensAt end dir answer f → DoesAsPermitted r.tales (steps.Open who dir) (opened_reply answer)
  opens_so dir f (Ok (Some id)) o = tt
  opens_so dir f (Ok None) o = elim o.0.0 [
    | inl closed ↦ cc
    | inr most ↦ counted_up dir (r.counted who) most
  ]
    where
      counted_up : (d : Dir) (c : Counted (made_at a b who) end.streams tale) → (own_of end.streams.out d).limit ≤ (own_of end.streams.out d).opened → tale.count d ≤ tale.opened d
      counted_up Bi c l =
          let since_as = since-plain c.calls c.plain in
          let x = c.from.sent.opened Bi ∙ ap (λ k. opened_in_all k Bi) since_as ∙ c.tells.opened_are Bi in
          let y = c.from.sent.counted Bi ∙ ap (λ k. greatest_count k Bi) since_as ∙ c.tells.counts_are Bi in
          omega arith
      counted_up Uni c l =
          let since_as = since-plain c.calls c.plain in
          let x = c.from.sent.opened Uni ∙ ap (λ k. opened_in_all k Uni) since_as ∙ c.tells.opened_are Uni in
          let y = c.from.sent.counted Uni ∙ ap (λ k. greatest_count k Uni) since_as ∙ c.tells.counts_are Uni in
          omega arith
  opens_so dir f (Err error) o = tt

  writes_so : (id : ℕ) (lists : List (List ℕ)) (f : EndState) (answer : Result Written WriteError) → WritesAt end id lists answer f → WritesSo (made_at a b who) (r.counted who).calls id lists false answer
  writes_so id lists f answer w = (r.counted who).from.writes id lists false end.pending answer f.streams w.0 f.pending w.1

  write_does : (id : ℕ) (bytes : List ℕ) (reply : Answer) → OnEnd (λ e f. OnGiven e id reply f (Writes e id (slice_lists bytes) reply f)) old who new → WritesTold tale who id (length bytes) reply
  write_does id bytes reply d = elim d.does [
    | inl k ↦ (
        let w = k.1 in
        let P : Answer → Type 0 = λ q. WritesTold tale who id (length bytes) q in
        let Q : ℕ → Type 0 = λ n. WritesTold tale who id n (written_reply w.answer) in
        subst P (sym w.reply_is) (subst Q (slice_total bytes) (wrote_told (made_at a b who) end.streams tale (r.counted who) who (side_made a b who) id k.0 (slice_lists bytes) w.answer (writes_so id (slice_lists bytes) d.end w.answer w.writes)))
        )
    | inr k ↦ (let P : Answer → Type 0 = λ q. WritesTold tale who id (length bytes) q in subst P (sym k.1) tt)
  ]

  chunks_does : (id : ℕ) (chunks : List (List ℕ)) (reply : Answer) → OnEnd (λ e f. OnGiven e id reply f (WritesChunksOrNone e id chunks reply f)) old who new → WritesTold tale who id (length (concat chunks)) reply
  chunks_does id chunks reply d =
      let P : Answer → Type 0 = λ q. WritesTold tale who id (length (concat chunks)) q in
      elim d.does [
        | inl k ↦ elim k.1 [
          | inl w ↦ (
              let Q : ℕ → Type 0 = λ n. WritesTold tale who id n (chunks_reply w.answer) in
              subst P (sym w.reply_is) (subst Q (sym (length-concat chunks)) (chunks_told (made_at a b who) end.streams tale (r.counted who) who (side_made a b who) id k.0 chunks w.answer (writes_so id chunks d.end w.answer w.writes)))
              )
          | inr w ↦ subst P (sym w.0) tt
        ]
        | inr k ↦ subst P (sym k.1) tt
      ]

does_so : (a b : Origin) (old new : PairState) (r : Recounted a b old) (step : Step) (reply : Answer) → NextOrdinary old step reply new → DoesAsPermitted r.tales step reply
does_so a b old new r (steps.Open who dir) reply n =
    let o = n.does in
    let P : Answer → Type 0 = λ q. DoesAsPermitted r.tales (steps.Open who dir) q in
    subst P (sym o.reply_is) (opens_so a b old new r who dir n.end o.answer o.opens)
does_so a b old new r (steps.Write who id bytes) reply n = write_does a b old new r who id bytes reply n
does_so a b old new r (steps.WriteChunks who id chunks) reply n = chunks_does a b old new r who id chunks reply n
does_so a b old new r _ reply n = tt

-- where no stream is queued nothing is left to be sent
none_left : (m : Made) (w : World) (t : Tale) → Counted m w t → (id : ℕ) → line w.queue ≡ [] → HasRest (t.flow id) → ⊥
none_left m w t c id e k =
    let P : SendFlow → Type 0 = λ f. HasRest f in
    let there = c.from.rest id (subst P (sym (c.tells.flow_is id)) k) in
    let none : stands id (line w.queue) ≡ false = ap (stands id) e in
    let l = sym there ∙ none in cc

leaves_so : (a b : Origin) (h : History) (old new : PairState) (r : Recounted a b new) (step : Step) (reply : Answer) → EraFrom a b h old → NextOrdinary old step reply new → LeavesNone r.tales step reply
leaves_so a b h old new r (steps.Emit who most fair) (Ok (Payload number bytes)) f n =
    let full : IsFull most bytes.items (the_end new who) = (asks-for a b h old new (steps.Emit who most fair) (Ok (Payload number bytes)) f n).0 in
    λ id rest. elim full.streams [
      | inl none ↦ absurd (none_left (made_at a b who) (the_end new who).streams (r.tales.of who) (r.counted who) id none rest)
      | inr fills ↦ fills
    ]
leaves_so a b h old new r (steps.EmitPart who most fair Streams) (Ok (Payload number bytes)) f n =
    let full : IsFullOfStreams most bytes.items (the_end new who) = (asks-for a b h old new (steps.EmitPart who most fair Streams) (Ok (Payload number bytes)) f n).0 in
    λ id rest. elim full.streams [
      | inl none ↦ absurd (none_left (made_at a b who) (the_end new who).streams (r.tales.of who) (r.counted who) id none rest)
      | inr fills ↦ fills
    ]
leaves_so a b h old new r _ reply f n = tt

-- whatever steps led to a pair, the next one withholds nothing on the sending side that is permitted
pub not-withheld : (a b : Origin) (h : History) (old new : PairState) (step : Step) (reply : Answer) (f : EraFrom a b h old) → NextOrdinary old step reply new → NotWithheld (ToldIn f) (StepTells old.sent new.sent step reply) step reply
not-withheld a b h old new step reply f n =
    let g = grown-from f in
    let r = retold-next a b (past_of h) old new g.joined g.recounted step reply n in
    record {
      before = g.recounted.tales;
      behind = r.behind.tales;
      is_told = g.told;
      told_alone = λ t k. told-in-once f t g.recounted.tales k g.told;
      tells_so = r.tells;
      tells_alone = λ t k. tells-once old.sent new.sent g.recounted.tales t r.behind.tales step reply k r.tells;
      does = does_so a b old new g.recounted step reply n;
      leaves = leaves_so a b h old new r.behind step reply f n;
    }
