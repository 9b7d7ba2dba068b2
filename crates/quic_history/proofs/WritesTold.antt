-- What a write answers, by the calls before it alone.
use Rattle.std.proofs.Common.{◌≡◌, ℕ, Bool, true, false, List, Option, Some, None, Ok, Err, refl, sym, ap, ◌∙◌, inl, inr, arith, ◌-◌}
use Rattle.std.specs.Prelude.{◌==◌, ◌&&◌, not, min, nat_le, if◌then◌else◌}
use Rattle.std.proofs.lemmas.Bool.Decides.{nat_tests}
use Rattle.quic_sending.specs.declared.send.Send.{Send}
use Rattle.quic_sending.specs.declared.send.Written.{Written}
use Rattle.quic_sending.specs.declared.send.WriteError.{WriteError}
use Rattle.quic_sending.specs.declared.send.WriteError.TheVariants as write_error
use Rattle.quic_sending.specs.Buffer.{total_length}
use Rattle.quic_sending.specs.Sending.{is_ready, write_refusal}
use Rattle.quic_limits.specs.SendingCredit.{writable}
use Rattle.quic_retransmits.specs.Pending.{Pending}
use Rattle.quic_flows.specs.Flow.{SendFlow, takes_data, FlowFrom, FlowAt}
use Rattle.quic_flows.proofs.FlowSteps.{ready-is}
use Rattle.quic_outgoing.specs.Outgoing.{Outgoing, is_stuck, with_params}
use Rattle.quic_outgoing.specs.Writing.{RefusesWrite, refusal_of_write}
use Rattle.quic_history.specs.World.{World, Made}
use Rattle.quic_history.specs.Writes.{WritesOwn}
use Rattle.quic_history.specs.SendTotals.{send_totals}
use Rattle.quic_history.specs.Flows.{has_side_in, room_on, refusal_where, refusal_told}
use Rattle.quic_history.specs.History.{since, Event, SentSo, flow, FlowsSo, room_in_connection, room_in_window, write_room, why_not, WritesSo, TellsWrites, room_with}
use Rattle.quic_history.proofs.SendSides.{held-flow}
use Rattle.quic_history.proofs.FlowHistory.{known-by}
use Rattle.quic_outgoing.specs.declared.limits.PeerLimits.{PeerLimits}

-- why a half refuses a write is told of its stream
refusal_by : (t : SendFlow) (s : Send) (b : Bool) (o : Option ℕ) → FlowFrom t s → is_ready s.state ≡ b → s.stop_reason ≡ o
    → write_refusal s ≡ (if b then refusal_where o (room_on t) else Some write_error.ClosedStream)
refusal_by t s false o f e k = rw e refl
refusal_by t s true (Some code) f e k = rw (e, k) refl
refusal_by t s true None f e k =
    let limit = f.limit in
    let written = f.cuts.written in
    let none : nat_le s.max_data s.pending.offset ≡ (room_on t == 0) = rw (limit, written) (grind (arith, nat_tests)) in
    rw (e, k, none) refl

refusal_is : (t : SendFlow) (s : Send) → FlowFrom t s → write_refusal s ≡ (if takes_data t.reset t.finished then refusal_where t.stopped (room_on t) else Some write_error.ClosedStream)
refusal_is t s f =
    refusal_by t s (is_ready s.state) s.stop_reason f refl refl
    ∙ ap (λ b. if b then refusal_where s.stop_reason (room_on t) else Some write_error.ClosedStream) (ready-is t s f)
    ∙ ap (λ o. if takes_data t.reset t.finished then refusal_where o (room_on t) else Some write_error.ClosedStream) f.stopped

-- why a write is refused, by what is told of its stream
refused_at : (o : Outgoing) (first room : ℕ) (t : SendFlow) (k : Bool) (h : Option Send) → writable o.budget ≡ room → FlowAt first t k h → refusal_of_write o h ≡ refusal_told (k && not t.freed) room t
refused_at o first room t true (Some s) e f =
    let there = f.there in
    rw there (ap (λ r. if is_stuck o then Some write_error.Blocked else r) (refusal_is t s f)
    ∙ ap (λ n. if n == 0 then Some write_error.Blocked else (if takes_data t.reset t.finished then refusal_where t.stopped (room_on t) else Some write_error.ClosedStream)) e)
refused_at o first room t true None e f = rw f refl
refused_at o first room t false (Some s) e f = absurd f
refused_at o first room t false None e f = refl

module _ (m : Made) (h : List Event) (u : World) (side : u.out.side ≡ m.side) (sent : SentSo (since h) (send_totals u.out)) (f : FlowsSo m h u) where
  -- how many bytes may be written on all streams
  pub all-room : writable u.out.budget ≡ min (room_in_connection h) (room_in_window m h)
  all-room =
      let taken = sent.taken in
      let limit = sent.limit in
      let window = f.send_window in
      let kept = f.retained in
      omega arith

  -- and with the limit of the peer's transport parameters
  pub room-given : (limits : PeerLimits) → writable (with_params u.out limits).budget ≡ min (room_with limits h) (room_in_window m h)
  room-given limits =
      let taken = sent.taken in
      let limit = sent.limit in
      let window = f.send_window in
      let kept = f.retained in
      omega arith

  refused : (id : ℕ) → refusal_of_write u.out (u.out.halves id) ≡ why_not m h id
  refused id =
      refused_at u.out _ (min (room_in_connection h) (room_in_window m h)) (flow m h id) (has_side_in u.out u.bi.max_remote id) (u.out.halves id) all-room (f.flows id)
      ∙ ap (λ k. refusal_told (k && not (flow m h id).freed) (min (room_in_connection h) (room_in_window m h)) (flow m h id)) (sym (known-by m h u side f.may_open sent id))

  taken_so : (id n b : ℕ) (s : Send) → u.out.halves id ≡ Some s → b ≡ min (min (writable u.out.budget) (s.max_data - s.pending.offset)) n → b ≡ min n (write_room m h id)
  taken_so id n b s e k =
      let t = held-flow _ (flow m h id) (has_side_in u.out u.bi.max_remote id) s (u.out.halves id) e (f.flows id) in
      let limit = t.limit in
      let written = t.cuts.written in
      let room = all-room in
      omega arith

  wrote_so : (id : ℕ) (lists : List (List ℕ)) (closed : Bool) (p : Pending) (written : Written) (w : World) (left : List (List ℕ)) (q : Pending) → WritesOwn u id lists closed p (Ok written) w left q
      → WritesSo m h id lists closed (Ok written)
  wrote_so id lists closed p written w left q s =
      let t = s.3.0 in
      let bytes = ap (λ (x : Written). x.bytes) s.4 ∙ t.bytes in
      (s.0, sym (refused id) ∙ ap (λ x. refusal_of_write u.out x) t.is_held ∙ t.free, taken_so id (total_length lists) written.bytes t.half t.is_held bytes)

  refuses_so : (id : ℕ) (lists : List (List ℕ)) (closed : Bool) (p : Pending) (e : WriteError) (o : Outgoing) (q : Pending) → closed ≡ false → RefusesWrite u.out id p e o q → WritesSo m h id lists closed (Err e)
  refuses_so id lists closed p write_error.Blocked o q c s = inr (sym (refused id) ∙ s.0)
  refuses_so id lists closed p (write_error.Stopped code) o q c s = (c, sym (refused id) ∙ s.0)
  refuses_so id lists closed p write_error.ClosedStream o q c s = (c, sym (refused id) ∙ s.0)
  refuses_so id lists closed p write_error.OutOfMemory o q c s = c

  closed_so : (id : ℕ) (lists : List (List ℕ)) (closed : Bool) (e : WriteError) → closed ≡ true → e ≡ write_error.Blocked → WritesSo m h id lists closed (Err e)
  closed_so id lists closed write_error.Blocked c k = inl c
  closed_so id lists closed (write_error.Stopped code) c k = cc
  closed_so id lists closed write_error.ClosedStream c k = cc
  closed_so id lists closed write_error.OutOfMemory c k = cc

  -- each write answers as the calls before it tell
  pub writes-told : TellsWrites m h u
  writes-told id lists closed p (Ok written) w left q s = wrote_so id lists closed p written w left q s
  writes-told id lists closed p (Err e) w left q (inl s) = closed_so id lists closed e s.0 s.1
  writes-told id lists closed p (Err e) w left q (inr s) = refuses_so id lists closed p e s.1 q s.0 s.2.1
