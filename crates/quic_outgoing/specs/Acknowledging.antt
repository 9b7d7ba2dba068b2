-- What acknowledgements and losses of frames do to a stream.
use Rattle.std.specs.Prelude.{◌≡◌, ◌⊎◌, ◌<◌, ℕ, ℤ, ◌-◌, Bool, true, false, not, ◌&&◌, ◌||◌, ◌==◌, nat_le, List, Option, Some, None, is_some, Result, Ok, Err, if◌then◌else◌, MatchBool}
use Rattle.std.specs.declared.ops.Range.{Range}
use Rattle.quic_values.specs.declared.memory.OutOfMemory.{OutOfMemory}
use Rattle.quic_ranges.specs.Runs.{lies_in}
use Rattle.quic_limits.specs.SendingCredit.{with_released}
use Rattle.quic_sending.specs.declared.send.Send.{Send}
use Rattle.quic_sending.specs.Buffer.{HasCuts, IsSound, is_acked, is_lost, total_length, uncovered}
use Rattle.quic_sending.specs.Sending.{is_ready, is_reset_sent, is_finish_acked, after_ack}
use Rattle.quic_outgoing.specs.Outgoing.{Outgoing, with_send_half}
use Rattle.quic_outgoing.specs.Calls.{QueuesAt}

-- whether all these offsets were sent on a stream that is open and was not reset: no other report of them counts
abbrev pub were_sent : Option Send → Range ℕ → Bool
were_sent None offsets = false
were_sent (Some s) offsets = not (is_reset_sent s.state) && nat_le offsets.end s.pending.unsent

-- a half once a frame of these offsets, with the end or not, is acknowledged: they are not sent again, and of the pieces
-- those are retained that the acknowledged prefix does not wholly cover
pub record AcknowledgesOffsets (offsets : Range ℕ) (fin : Bool) (s t : Send) : Type 0 where
  pub acked : (n : ℕ) → is_acked t.pending n ≡ (is_acked s.pending n || lies_in offsets n)
  pub lost : (n : ℕ) → is_lost t.pending n ≡ (is_lost s.pending n && not (lies_in offsets n))
  pub held : t.pending.held ≡ uncovered (t.pending.prefix - s.pending.gone) s.pending.held
  pub unsent : t.pending.unsent ≡ s.pending.unsent
  pub offset : t.pending.offset ≡ s.pending.offset
  pub room : t.pending.room ≡ s.pending.room
  pub cuts : (cuts : List (List ℕ)) → HasCuts cuts s.pending → HasCuts cuts t.pending
  pub sound : IsSound t.pending
  pub others : t ≡ record s { state = after_ack s.state fin; pending = t.pending }

-- the report that offsets of a half are acknowledged may need memory: they lie behind a gap, or nothing was done on it
abbrev pub MayWantMemory : Range ℕ → Option Send → Type 0
MayWantMemory offsets None = ⊥
MayWantMemory offsets (Some s) = ((s.pending.prefix < offsets.start) × (offsets.start < offsets.end)) ⊎ ((is_ready s.state ≡ true) × (s.pending.offset ≡ 0))

-- whether the end and every byte are acknowledged
abbrev pub is_complete : Send → Bool
is_complete s = is_finish_acked s.state && (s.pending.prefix == s.pending.offset)

-- a frame on a stream was acknowledged: what is retained no more leaves the budget, and a half that is complete by this
-- is let go
pub record AcksHalf (u : Outgoing) (id : ℕ) (offsets : Range ℕ) (fin : Bool) (done : Bool) (v : Outgoing) : Type 0 where
  pub half : Send
  pub after : Send
  pub is_held : u.halves id ≡ Some half
  pub acks : AcknowledgesOffsets offsets fin half after
  pub done_is : done ≡ is_complete after
  pub is : v ≡ record (with_send_half u id (if done then None else Some after)) { budget = with_released u.budget (total_length half.pending.held - total_length after.pending.held) }

-- what came of the report that a frame was acknowledged. Lack of memory is answered only where a half is held
abbrev pub AcksStream : Outgoing → ℕ → Range ℕ → Bool → Result Bool OutOfMemory → Outgoing → Type 0
AcksStream u id offsets fin (Ok done) v = MatchBool (were_sent (u.halves id) offsets) (AcksHalf u id offsets fin done v) ((done ≡ false) × (v ≡ u))
AcksStream u id offsets fin (Err e) v = (is_some (u.halves id) ≡ true) × (v ≡ u)

-- the report that offsets of a half are lost may need memory: some lie above the acknowledged prefix, or nothing was done
-- on it
abbrev pub LossMayWantMemory : Range ℕ → Option Send → Type 0
LossMayWantMemory offsets None = ⊥
LossMayWantMemory offsets (Some s) = ((offsets.start < offsets.end) × (s.pending.prefix < offsets.end)) ⊎ ((is_ready s.state ≡ true) × (s.pending.offset ≡ 0))

-- a half once a frame of these offsets is lost: those that are not acknowledged are to be sent again, and so is the end
-- of a finished stream, if the frame had it
pub record LosesOffsets (offsets : Range ℕ) (fin : Bool) (s t : Send) : Type 0 where
  pub lost : (n : ℕ) → is_lost t.pending n ≡ (is_lost s.pending n || (lies_in offsets n && not (is_acked s.pending n)))
  pub sound : IsSound t.pending
  pub others : t ≡ record s { fin_pending = s.fin_pending || (fin && not (is_ready s.state)); pending = record s.pending { lost = t.pending.lost } }

-- a frame on a stream was lost, which is then queued where nothing was to be sent on it before
pub record LosesOnHalf (u : Outgoing) (id : ℕ) (offsets : Range ℕ) (fin : Bool) (queue : Option ℤ) (v : Outgoing) : Type 0 where
  pub half : Send
  pub after : Send
  pub is_held : u.halves id ≡ Some half
  pub queues : QueuesAt half queue
  pub loses : LosesOffsets offsets fin half after
  pub is : v ≡ with_send_half u id (Some after)

-- what came of the report that a frame was lost. Lack of memory is answered only where a half is held
abbrev pub LosesOnStream : Outgoing → ℕ → Range ℕ → Bool → Result (Option ℤ) OutOfMemory → Outgoing → Type 0
LosesOnStream u id offsets fin (Ok queue) v = MatchBool (were_sent (u.halves id) offsets) (LosesOnHalf u id offsets fin queue v) ((queue ≡ None) × (v ≡ u))
LosesOnStream u id offsets fin (Err e) v = (is_some (u.halves id) ≡ true) × (v ≡ u)

-- whether a stream was reset and its half is still held
abbrev pub is_given_up : Option Send → Bool
is_given_up None = false
is_given_up (Some s) = is_reset_sent s.state

-- RESET_STREAM was acknowledged: the half of a stream that was reset is let go
abbrev pub without_given_up : Outgoing → ℕ → Outgoing
without_given_up u id = if is_given_up (u.halves id) then with_send_half u id None else u
