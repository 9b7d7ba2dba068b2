-- What each call on the sending side may do, and answer.
use Rattle.std.specs.Prelude.{◌≡◌, ◌⊎◌, ℕ, ℤ, ◌-◌, ◌<◌, ◌≤◌, ◌^◌, Bool, true, false, ◌==◌, ◌&&◌, not, min, nat_lt, List, [], ◌∷◌, ◌++◌, Option, Some, None, is_none, unwrap_or, Result, Ok, Err, if◌then◌else◌, All, MatchBool}
use Rattle.std.specs.Option.{option_map}
use Rattle.std.specs.List.{list_any}
use Rattle.quic_values.specs.declared.ids.Dir.{Dir}
use Rattle.quic_values.specs.declared.memory.OutOfMemory.{OutOfMemory}
use Rattle.quic_values.specs.Ids.{stream_id}
use Rattle.quic_wire.specs.declared.error.TransportError.{TransportError}
use Rattle.quic_wire.specs.Codes.{FRAME_ENCODING_ERROR}
use Rattle.quic_limits.specs.Own.{with_next_own, with_count}
use Rattle.quic_limits.specs.SendingCredit.{is_limit, with_released}
use Rattle.quic_sending.specs.declared.send.Send.{Send}
use Rattle.quic_sending.specs.declared.send.SendState.TheVariants.{DataSent, ResetSent}
use Rattle.quic_sending.specs.declared.send.ClosedStream.{ClosedStream}
use Rattle.quic_sending.specs.declared.send.FinishError.{FinishError}
use Rattle.quic_sending.specs.declared.send.FinishError.TheVariants as finish_error
use Rattle.quic_sending.specs.Buffer.{HasDue, HasNoneDue, total_length}
use Rattle.quic_sending.specs.Sending.{is_ready, is_reset_sent, finish_refusal}
use Rattle.quic_sending.specs.declared.errors.HandleError.{HandleError}
use Rattle.quic_sending.specs.declared.errors.HandleError.TheVariants as handle_error
use Rattle.quic_queue.specs.SendOrder.{SendOrder}
use Rattle.quic_retransmits.specs.Pending.{Pending}
use Rattle.quic_retransmits.specs.Queueing.{with_reset_stream}
use Rattle.quic_outgoing.specs.Senders.{SendersById, with_sender}
use Rattle.quic_outgoing.specs.Outgoing.{Outgoing, own_of, with_own, with_send_half, fresh_sender, waiting, is_stuck, marked}

-- a stream is opened where one more may be. Out of memory, nothing is
abbrev pub OpensStream : Outgoing → Dir → Result (Option ℕ) OutOfMemory → Outgoing → Type 0
OpensStream u dir (Ok None) v = ((own_of u dir).limit ≤ (own_of u dir).opened) × (v ≡ u)
OpensStream u dir (Ok (Some id)) v = ((own_of u dir).opened < (own_of u dir).limit) × (id ≡ stream_id u.side dir (own_of u dir).opened)
    × (v ≡ with_send_half (with_own u dir (with_next_own (own_of u dir))) id (Some (fresh_sender u id)))
OpensStream u dir (Err e) v = v ≡ u

-- the peer gave a count of streams: a number above 2^60 is no count
abbrev pub RaisesStreams : Outgoing → Dir → ℕ → Result Bool TransportError → Outgoing → Type 0
RaisesStreams u dir count (Ok rose) v = (count ≤ 2 ^ 60) × (rose ≡ nat_lt (own_of u dir).limit count) × (v ≡ with_own u dir (with_count (own_of u dir) count))
RaisesStreams u dir count (Err e) v = (2 ^ 60 < count) × (e.code ≡ FRAME_ENCODING_ERROR) × (v ≡ u)

-- the limit that a number gives: there is no greater offset than 2^62 - 1
abbrev pub as_limit : ℕ → ℕ
as_limit n = min n (2 ^ 62 - 1)

-- whether a limit counts: the half takes new data, and holds a lower one
abbrev pub rises : Send → ℕ → Bool
rises s n = is_ready s.state && nat_lt s.max_data (as_limit n)

abbrev pub with_rise : Send → ℕ → Send
with_rise s n = if rises s n then record s { max_data = as_limit n } else s

-- whether that lets a half be written on that was written up to its limit
abbrev pub is_woken : Send → ℕ → Bool
is_woken s n = rises s n && (s.pending.offset == s.max_data)

-- a stream whose half was given a limit; where nothing may be written, one that was woken waits
abbrev pub after_rise : Outgoing → ℕ → ℕ → Option Send → Outgoing
after_rise u id n None = u
after_rise u id n (Some s) = if is_woken s n && is_stuck u then waiting u id (with_rise s n) else with_send_half u id (Some (with_rise s n))

-- whether the application is to be told that it may write
abbrev pub tells_writable : Outgoing → ℕ → Option Send → Bool
tells_writable u n None = false
tells_writable u n (Some s) = is_woken s n && not (is_stuck u)

-- the peer gave a limit for a stream
abbrev pub RaisesStream : Outgoing → ℕ → ℕ → Result Bool OutOfMemory → Outgoing → Type 0
RaisesStream u id n (Ok tells) v = (tells ≡ tells_writable u n (u.halves id)) × (v ≡ after_rise u id n (u.halves id))
RaisesStream u id n (Err e) v = v ≡ u

-- whether a half was not stopped before
abbrev pub is_first_stop : Option Send → Bool
is_first_stop None = false
is_first_stop (Some s) = is_none s.stop_reason

-- the peer stopped a stream: the first code stays
abbrev pub with_stop_reason : Outgoing → ℕ → ℕ → Option Send → Outgoing
with_stop_reason u id code None = u
with_stop_reason u id code (Some s) = with_send_half u id (Some (record s { stop_reason = Some (unwrap_or s.stop_reason code) }))

abbrev pub StopsSending : Outgoing → ℕ → ℕ → Result Bool OutOfMemory → Outgoing → Type 0
StopsSending u id code (Ok first) v = (first ≡ is_first_stop (u.halves id)) × (v ≡ with_stop_reason u id code (u.halves id))
StopsSending u id code (Err e) v = v ≡ u

-- what is told of a half, and that the stream is closed where none is held
abbrev pub told_of_half : {T : Type 0} → (Send → T) → Option Send → Result T ClosedStream
told_of_half f None = Err (record {})
told_of_half f (Some s) = Ok (f s)

-- whether something is to be sent on a stream: data, or its end
abbrev pub HasMore : Send → Type 0
HasMore s = s.fin_pending ≡ false → HasDue s.pending

abbrev pub HasNoMore : Send → Type 0
HasNoMore s = (s.fin_pending ≡ false) × HasNoneDue s.pending

-- the priority at which a stream is to be queued: none is told where something was to be sent before
abbrev pub QueuesAt : Send → Option ℤ → Type 0
QueuesAt s None = HasMore s
QueuesAt s (Some priority) = HasNoMore s × (priority ≡ s.priority)

-- the same of a stream: none is told of one that is not held
abbrev pub QueuesStreamAt : Option Send → Option ℤ → Type 0
QueuesStreamAt None queue = queue ≡ None
QueuesStreamAt (Some s) queue = QueuesAt s queue

-- room is made in the queue at the priority at which a stream is to be queued, in place of other room: nothing else changes
abbrev pub MakesRoomAt : SendOrder → Option ℤ → SendOrder → Type 0
MakesRoomAt q None r = r ≡ q
MakesRoomAt q (Some priority) r = r ≡ record q { reserved = Some priority }

-- a refused call leaves the queue as it was, or with the room that was made for the stream
abbrev pub MayMakeRoom : Option Send → SendOrder → SendOrder → Type 0
MayMakeRoom o q r = (r ≡ q) ⊎ ((queue_at : Option ℤ) × QueuesStreamAt o queue_at × MakesRoomAt q queue_at r)

-- why a stream is not finished
abbrev pub end_refusal : Option Send → Option FinishError
end_refusal None = Some finish_error.ClosedStream
end_refusal (Some s) = finish_refusal s

-- a half of which the end is to be sent
abbrev pub finished : Send → Send
finished s = record s { state = DataSent false; fin_pending = true }

-- a half is finished
abbrev pub EndsHalf : Send → Option ℤ → Send → Type 0
EndsHalf s queue t = (finish_refusal s ≡ None) × QueuesAt s queue × (t ≡ finished s)

-- and the half of a stream
abbrev pub EndsHalfIn : SendersById → ℕ → Option ℤ → SendersById → Type 0
EndsHalfIn f id queue g = (s : Send) × (f id ≡ Some s) × (finish_refusal s ≡ None) × QueuesAt s queue × (g ≡ with_sender f id (Some (finished s)))

-- why a stream is not finished, or memory runs out
abbrev pub IsEndRefused : Option Send → FinishError → Type 0
IsEndRefused o e = (end_refusal o ≡ Some e) ⊎ (e ≡ finish_error.OutOfMemory)

-- a stream is finished, or refused; lack of memory needs no other reason
abbrev pub FinishesStream : Outgoing → ℕ → Result (Option ℤ) FinishError → Outgoing → Type 0
FinishesStream u id (Ok queue) v = (s : Send) × (u.halves id ≡ Some s) × (finish_refusal s ≡ None) × QueuesAt s queue × (v ≡ with_send_half u id (Some (finished s)))
FinishesStream u id (Err e) v = ((end_refusal (u.halves id) ≡ Some e) ⊎ (e ≡ finish_error.OutOfMemory)) × (v ≡ u)

-- a half of which nothing but the reset is sent: every offset counts as sent and acknowledged
abbrev pub given_up : Send → Send
given_up s = record s {
  state = ResetSent;
  fin_pending = false;
  pending = record {
    offset = s.pending.offset;
    unsent = s.pending.offset;
    prefix = s.pending.offset;
    later = [];
    lost = [];
    held = [];
    gone = s.pending.offset;
    room = 0;
  };
}

-- whether a stream cannot be reset: it is not open, or it was reset
abbrev pub is_reset_or_gone : Option Send → Bool
is_reset_or_gone None = true
is_reset_or_gone (Some s) = is_reset_sent s.state

-- a stream is given up: what was retained of it is released, and RESET_STREAM is queued
abbrev pub ResetsStream : Outgoing → ℕ → ℕ → Pending → Result (Unit {0}) HandleError → Outgoing → Pending → Type 0
ResetsStream u id code p (Ok done) v q = (s : Send) × (u.halves id ≡ Some s) × (is_reset_sent s.state ≡ false)
    × (v ≡ record (with_send_half u id (Some (given_up s))) { budget = with_released u.budget (total_length s.pending.held) })
    × (q ≡ record p { reset_stream = with_reset_stream p.reset_stream id code })
ResetsStream u id code p (Err handle_error.ClosedStream) v q = (is_reset_or_gone (u.halves id) ≡ true) × (v ≡ u) × (q ≡ p)
ResetsStream u id code p (Err handle_error.OutOfMemory) v q = (v ≡ u) × (q ≡ p)

-- a stream gets its place among those that are queued later
abbrev pub SetsPriority : Outgoing → ℕ → ℤ → Result (Unit {0}) HandleError → Outgoing → Type 0
SetsPriority u id priority (Ok done) v = (s : Send) × (u.halves id ≡ Some s) × (v ≡ with_send_half u id (Some (record s { priority = priority })))
SetsPriority u id priority (Err handle_error.ClosedStream) v = (u.halves id ≡ None) × (v ≡ u)
SetsPriority u id priority (Err handle_error.OutOfMemory) v = v ≡ u

-- whether new data may be written on a stream, as far as it knows itself
abbrev pub can_take : Option Send → Bool
can_take None = false
can_take (Some s) = is_ready s.state && nat_lt s.pending.offset s.max_data

-- a stream waits no more
unfoldable pub unmarked : SendersById → ℕ → SendersById
unmarked f id = λ q. if q == id then option_map (marked false) (f q) else f q

-- these streams wait no more
unfoldable pub without_marks : SendersById → List ℕ → SendersById
without_marks f ids = λ q. if list_any (λ id. q == id) ids then option_map (marked false) (f q) else f q

-- the last stream that waits and can take data is told of; those behind it are taken off. None is told of where
-- nothing may be written, or where no stream can take data
abbrev pub PollsWritable : Outgoing → Option ℕ → Outgoing → Type 0
PollsWritable u None v = MatchBool (is_stuck u) (v ≡ u)
    (All (λ q. can_take (u.halves q) ≡ false) u.blocked × (v ≡ record u { halves = without_marks u.halves u.blocked; blocked = [] }))
PollsWritable u (Some id) v = (is_stuck u ≡ false) × (can_take (u.halves id) ≡ true)
    × (rest : List ℕ) × (passed : List ℕ) × (u.blocked ≡ rest ++ id ∷ passed) × All (λ q. can_take (u.halves q) ≡ false) passed
    × (v ≡ record u { halves = without_marks u.halves (id ∷ passed); blocked = rest })

-- the limit of a stream that holds new data back, where STREAM_DATA_BLOCKED was queued for that very limit
abbrev pub blocked_limit : Option Send → Option ℕ
blocked_limit None = None
blocked_limit (Some s) = if is_ready s.state && (is_none s.stop_reason && is_limit s.max_data s.data_blocked_limit) then Some s.max_data else None
