-- The sending sides of the streams of an end, and what is told of each.
use Rattle.std.specs.Prelude.{ℕ, ◌<◌, ◌||◌, Bool, true, false, ◌≡◌, ◌⊎◌, ◌-◌, ◌^◌, ◌==◌, ◌&&◌, min, nat_lt, if◌then◌else◌, List, [], ◌∷◌, Option, Some, None}
use Rattle.quic_wire.specs.declared.event.StreamEvent.{StreamEvent}
use Rattle.quic_wire.specs.declared.event.StreamEvent.TheVariants as stream_event
use Rattle.quic_values.specs.declared.ids.Side.{Side}
use Rattle.quic_values.specs.declared.ids.Dir.{Dir}
use Rattle.quic_values.specs.declared.ids.Dir.TheVariants.{Bi, Uni}
use Rattle.quic_values.specs.Ids.{dir_of, index_of}
use Rattle.quic_queue.specs.declared.queue.Entry.{Entry}
use Rattle.quic_queue.specs.SendOrder.{SendOrder, line}
use Rattle.quic_sending.specs.declared.send.WriteError.{WriteError}
use Rattle.quic_sending.specs.declared.send.WriteError.TheVariants as write_error
use Rattle.quic_sending.specs.Buffer.{total_length}
use Rattle.quic_flows.specs.Flow.{takes_data, SendMove, SendFlow, with_least_limit, with_send_move, FlowAt, counts_for, is_whole, with_acked}
use Rattle.quic_outgoing.specs.declared.limits.PeerLimits.{PeerLimits}
use Rattle.quic_outgoing.specs.declared.entries.FirstLimits.{FirstLimits}
use Rattle.quic_outgoing.specs.Senders.{is_local, first_limit, joined}
use Rattle.quic_outgoing.specs.Outgoing.{Outgoing, own_of, first_of}

-- whether this end sends on the stream of its peer of a direction and an index: the peer may open so many that go both ways
abbrev pub is_answered_on : Dir → ℕ → ℕ → Bool
is_answered_on Bi may_open index = nat_lt index may_open
is_answered_on Uni may_open index = false

-- whether a stream has a sending side: this end opened it, so many of each direction, or it sends on it to its peer
abbrev pub has_send_side : Side → (Dir → ℕ) → ℕ → ℕ → Bool
has_send_side side opened may_open id = if is_local side id then nat_lt (index_of id) (opened (dir_of id)) else is_answered_on (dir_of id) may_open (index_of id)

-- the same of the value of an end
abbrev pub has_side_in : Outgoing → ℕ → ℕ → Bool
has_side_in o may_open id = has_send_side o.side (λ d. (own_of o d).opened) may_open id

-- what was done to a stream with a sending side counts
abbrev pub send_moved : Option (ℕ × SendMove) → (ℕ → Bool) → ℕ → SendFlow → SendFlow
send_moved None there q t = t
send_moved (Some m) there q t = if (q == m.0) && there q then with_send_move m.1 t else t

-- limits that are handed in are for each stream, also for one that is opened later
abbrev pub with_first_limits : Option PeerLimits → Side → ℕ → SendFlow → SendFlow
with_first_limits None side q t = t
with_first_limits (Some limits) side q t = with_least_limit (first_limit side (first_of limits) q) t

-- the limits that streams begin with, once some were handed in
abbrev pub with_limits_in : Option PeerLimits → FirstLimits → FirstLimits
with_limits_in None l = l
with_limits_in (Some limits) l = joined l (first_of limits)

-- what calls tell of the sending sides
pub record SendTale : Type 0 where
  -- of each stream
  pub flow : ℕ → SendFlow
  -- how many bidirectional streams the peer may open
  pub may_open : ℕ

-- each half is as is told of its stream
abbrev pub AllFlows : (ℕ → SendFlow) → Outgoing → ℕ → Type 0
AllFlows f o may_open = (q : ℕ) → FlowAt (first_limit o.side o.first q) (f q) (has_side_in o may_open q) (o.halves q)

-- how many bytes the limit of a stream leaves
abbrev pub room_on : SendFlow → ℕ
room_on t = t.limit - total_length t.cuts

-- why nothing is written on a stream that takes new data: the peer asked to send no more on it, or its limit leaves nothing
abbrev pub refusal_where : Option ℕ → ℕ → Option WriteError
refusal_where None room = if room == 0 then Some write_error.Blocked else None
refusal_where (Some code) room = Some (write_error.Stopped code)

-- why nothing is written on a stream that is open, where so many bytes may be written on all of them
abbrev pub refusal_on : ℕ → SendFlow → Option WriteError
refusal_on room t = if room == 0 then Some write_error.Blocked else (if takes_data t.reset t.finished then refusal_where t.stopped (room_on t) else Some write_error.ClosedStream)

-- the same, of one that is open or not
abbrev pub refusal_told : Bool → ℕ → SendFlow → Option WriteError
refusal_told false room t = Some write_error.ClosedStream
refusal_told true room t = refusal_on room t

-- whether a limit lets a stream be written on that was written up to its limit
abbrev pub wakes : ℕ → SendFlow → Bool
wakes limit t = (takes_data t.reset t.finished && nat_lt t.limit (min limit (2 ^ 62 - 1))) && (total_length t.cuts == t.limit)

-- whether an acknowledgement of these offsets, and of the end or not, is the last that a stream waits for
abbrev pub ends_by : ℕ → ℕ → Bool → SendFlow → Bool
ends_by first behind fin t = counts_for t.reset t.sent_up_to behind && is_whole (with_acked first behind fin t)

-- one event, or none
abbrev pub told_if : Bool → StreamEvent → List StreamEvent
told_if true e = e ∷ []
told_if false e = []

-- what is queued to be told, before and after the application was answered so: that the peer opened streams, and that a
-- stream may be written on, need not have been queued
abbrev pub TakesQueued : List StreamEvent → Option StreamEvent → List StreamEvent → Type 0
TakesQueued before None after = (before ≡ []) × (after ≡ [])
TakesQueued before (Some (stream_event.Opened dir)) after = (after ≡ before) ⊎ (before ≡ stream_event.Opened dir ∷ after)
TakesQueued before (Some (stream_event.Writable id)) after = (after ≡ before) ⊎ (before ≡ stream_event.Writable id ∷ after)
TakesQueued before (Some e) after = before ≡ e ∷ after

-- whether a stream stands in a list of entries
abbrev pub stands : ℕ → List Entry → Bool
stands q [] = false
stands q (e ∷ es) = (q == e.id) || stands q es

-- something is left to be sent on a stream, neither given up nor freed: an offset that was in no frame; one that was
-- lost, and since then neither in a frame nor acknowledged; or the end, which was in no frame since it was asked for, or
-- since it was lost
abbrev pub HasRest : SendFlow → Type 0
HasRest t = (t.reset ≡ None) × (t.freed ≡ false)
    × (((n : ℕ) × (n < total_length t.cuts) × (t.carried n ≡ false)) ⊎ (((n : ℕ) × (t.missing n ≡ true) × (t.acked n ≡ false)) ⊎ (t.end_due ≡ true)))

-- each stream on which something is left to be sent stands in the send queue
abbrev pub AreInQueue : (ℕ → SendFlow) → SendOrder → Type 0
AreInQueue f q = (id : ℕ) → HasRest (f id) → stands id (line q) ≡ true
