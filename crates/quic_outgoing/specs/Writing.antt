-- Writes on a stream.
use Rattle.std.specs.Prelude.{◌≡◌, ◌⊎◌, ℕ, Bool, ◌||◌, not, min, List, length, ◌+◌, Option, Some, None, option_map, Result, Ok, Err, if◌then◌else◌}
use Rattle.quic_limits.specs.SendingCredit.{writable, with_written, with_blocked, is_blocked_due, is_limit}
use Rattle.quic_sending.specs.declared.send.Send.{Send}
use Rattle.quic_sending.specs.declared.send.WriteError.{WriteError}
use Rattle.quic_sending.specs.declared.send.WriteError.TheVariants as write_error
use Rattle.quic_sending.specs.Buffer.{total_length}
use Rattle.quic_sending.specs.Sending.{write_refusal, permitted, is_ready}
use Rattle.quic_sending.specs.Source.{Appends, rest_of}
use Rattle.quic_retransmits.specs.Pending.{Pending}
use Rattle.quic_retransmits.specs.Queueing.{with_id}
use Rattle.quic_outgoing.specs.declared.writing.Wrote.{Wrote}
use Rattle.quic_outgoing.specs.Senders.{SendersById, with_sender}
use Rattle.quic_outgoing.specs.Outgoing.{Outgoing, with_send_half, waiting, is_stuck}
use Rattle.quic_outgoing.specs.Calls.{QueuesAt}

-- why a write on a stream is refused, if it is: there is no such stream, or nothing may be written on any, or the half
-- says no
abbrev pub refusal_of_write : Outgoing → Option Send → Option WriteError
refusal_of_write u None = Some write_error.ClosedStream
refusal_of_write u (Some s) = if is_stuck u then Some write_error.Blocked else write_refusal s

-- how many bytes a write of n takes: what the connection and the stream leave
abbrev pub written_of : Outgoing → Send → ℕ → ℕ
written_of u s n = min (permitted s (writable u.budget)) n

-- the limit of a stream holds data back, and STREAM_DATA_BLOCKED was not queued for it
abbrev pub is_limit_news : Send → Bool
is_limit_news s = not (is_limit s.max_data s.data_blocked_limit)

-- a write found nothing to be writable: on any stream, or on this one
abbrev pub after_blocked : Outgoing → ℕ → Option Send → Outgoing
after_blocked u id None = u
after_blocked u id (Some s) = if is_stuck u then record (waiting u id s) { budget = with_blocked u.budget }
    else with_send_half u id (Some (record s { data_blocked_limit = Some s.max_data }))

-- and what is queued to tell the peer: DATA_BLOCKED once for each limit of the connection, or STREAM_DATA_BLOCKED once
-- for each limit of the stream
abbrev pub told_blocked : Outgoing → ℕ → Option Send → Pending → Pending
told_blocked u id None p = p
told_blocked u id (Some s) p = if is_stuck u then record p { data_blocked = p.data_blocked || is_blocked_due u.budget }
    else record p { stream_data_blocked = with_id p.stream_data_blocked id (is_limit_news s) }

-- a write of at most so many bytes took the first bytes of these lists on a half
pub record TakesBytes (most : ℕ) (s : Send) (lists : List (List ℕ)) (wrote : Wrote) (left : List (List ℕ)) (t : Send) : Type 0 where
  pub free : write_refusal s ≡ None
  pub bytes : wrote.written.bytes ≡ min (permitted s most) (total_length lists)
  pub chunks : wrote.written.chunks + length left ≡ length lists
  pub queue : QueuesAt s wrote.queue_at
  pub appends : Appends (permitted s most) lists s.pending t.pending
  pub others : t ≡ record s { pending = t.pending }
  pub rest : left ≡ rest_of (permitted s most) lists

-- and on the half of a stream
pub record TakesBytesIn (most : ℕ) (f : SendersById) (id : ℕ) (lists : List (List ℕ)) (wrote : Wrote) (left : List (List ℕ)) (g : SendersById) : Type 0 where
  pub half : Send
  pub after : Send
  pub is_held : f id ≡ Some half
  pub takes : TakesBytes most half lists wrote left after
  pub is : g ≡ with_sender f id (Some after)

-- why nothing is taken by a half: there is none, it refuses, or memory runs out
abbrev pub IsRefusedBy : Option Send → WriteError → Type 0
IsRefusedBy None e = e ≡ write_error.ClosedStream
IsRefusedBy (Some s) e = (write_refusal s ≡ Some e) ⊎ (e ≡ write_error.OutOfMemory)

-- a refusal that no later limit lifts: there is no such half, it is closed, or the peer stopped it
abbrev pub lasting_refusal : Option Send → Option WriteError
lasting_refusal None = Some write_error.ClosedStream
lasting_refusal (Some s) = if is_ready s.state then option_map write_error.Stopped s.stop_reason else Some write_error.ClosedStream

-- where nothing may be written on any stream, those that are held wait whatever else holds
abbrev pub refusal_to_stay : Outgoing → Option Send → Option WriteError
refusal_to_stay u None = Some write_error.ClosedStream
refusal_to_stay u (Some s) = if is_stuck u then None else lasting_refusal (Some s)

-- a write took the first bytes of these lists
pub record TakesBytesOf (u : Outgoing) (id : ℕ) (lists : List (List ℕ)) (wrote : Wrote) (left : List (List ℕ)) (v : Outgoing) : Type 0 where
  pub half : Send
  pub after : Send
  pub is_held : u.halves id ≡ Some half
  pub free : refusal_of_write u (Some half) ≡ None
  pub bytes : wrote.written.bytes ≡ written_of u half (total_length lists)
  pub chunks : wrote.written.chunks + length left ≡ length lists
  pub queue : QueuesAt half wrote.queue_at
  pub appends : Appends (permitted half (writable u.budget)) lists half.pending after.pending
  pub others : after ≡ record half { pending = after.pending }
  pub rest : left ≡ rest_of (permitted half (writable u.budget)) lists
  pub is : v ≡ record (with_send_half u id (Some after)) { budget = with_written u.budget wrote.written.bytes }

-- a write took nothing: why, and what that leaves
abbrev pub RefusesWrite : Outgoing → ℕ → Pending → WriteError → Outgoing → Pending → Type 0
RefusesWrite u id p write_error.Blocked v q = (refusal_of_write u (u.halves id) ≡ Some write_error.Blocked)
    × (v ≡ after_blocked u id (u.halves id)) × (q ≡ told_blocked u id (u.halves id) p)
RefusesWrite u id p (write_error.Stopped code) v q = (refusal_of_write u (u.halves id) ≡ Some (write_error.Stopped code)) × (v ≡ u) × (q ≡ p)
RefusesWrite u id p write_error.ClosedStream v q = (refusal_of_write u (u.halves id) ≡ Some write_error.ClosedStream) × (v ≡ u) × (q ≡ p)
RefusesWrite u id p write_error.OutOfMemory v q = (v ≡ u) × (q ≡ p)

-- a write on a stream
abbrev pub WritesOn : Outgoing → ℕ → List (List ℕ) → Pending → Result Wrote WriteError → Outgoing → List (List ℕ) → Pending → Type 0
WritesOn u id lists p (Ok wrote) v left q = TakesBytesOf u id lists wrote left v × (q ≡ p)
WritesOn u id lists p (Err e) v left q = (left ≡ lists) × RefusesWrite u id p e v q
