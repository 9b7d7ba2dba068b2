-- The frames beside STREAM that an end writes: what leaves what is pending, as which frame, and what the end notes of it
-- (RFC 9000 sections 4.1, 4.6 and 19).
use Rattle.std.specs.Prelude.{ℕ, Bool, true, false, ◌≡◌, max, if◌then◌else◌, List, [], ◌∷◌, ◌++◌, Option, Some, None}
use Rattle.std.specs.Option.{option_map}
use Rattle.quic_values.specs.declared.ids.Dir.{Dir}
use Rattle.quic_values.specs.declared.ids.Dir.TheVariants.{Bi, Uni}
use Rattle.quic_wire.specs.declared.frame.Frame.{Frame}
use Rattle.quic_wire.specs.declared.frame.Frame.TheVariants as frames
use Rattle.quic_wire.specs.declared.frame.StopSending.{StopSending}
use Rattle.quic_wire.specs.Text.{CanEncode, size_bound}
use Rattle.quic_wire.specs.declared.frame.TheConstants.ResetStream as reset_stream
use Rattle.quic_wire.specs.declared.frame.TheConstants.StopSending as stop_sending
use Rattle.quic_wire.specs.declared.frame.TheConstants.Frame as frame
use Rattle.quic_limits.specs.Credit.{max_data_of, announced}
use Rattle.quic_limits.specs.Remote.{streams_announced}
use Rattle.quic_limits.specs.SendingCredit.{is_blocked_reported}
use Rattle.quic_sending.specs.declared.send.Send.{Send}
use Rattle.quic_receiving.specs.Half.{Half, is_open, window_end}
use Rattle.quic_outgoing.specs.Calls.{blocked_limit}
use Rattle.quic_retransmits.specs.Pending.{Pending}
use Rattle.quic_retransmits.specs.Settling.{without_id, max_streams_in, without_max_streams}
use Rattle.quic_history.specs.declared.control.ControlKind.{ControlKind}
use Rattle.quic_history.specs.declared.control.ControlKind.TheVariants as kinds
use Rattle.quic_history.specs.Halves.{Halves, with_half}
use Rattle.quic_history.specs.World.{World, remote_of, with_remote}

-- a stream that was given up ends at what was written; a half that was freed needs no frame
abbrev pub reset_frame : ℕ → ℕ → Option Send → Option Frame
reset_frame id code o = option_map (λ (s : Send). frames.ResetStream (record { id = id; error_code = code; final_offset = s.pending.offset })) o

-- the limit of a stream that is announced, where more data may come and are wanted
abbrev pub announced_end : ℕ → Option Half → Option ℕ
announced_end window None = None
announced_end window (Some h) = if is_open h then Some (window_end h window) else None

abbrev pub window_frame : ℕ → ℕ → Option Half → Option Frame
window_frame window id o = option_map (frames.MaxStreamData id) (announced_end window o)

-- a half once it was
abbrev pub with_announced : ℕ → Half → Half
with_announced window h = if is_open h then record h { sent_max = max h.sent_max (window_end h window) } else h

abbrev pub after_announced : Halves → ℕ → ℕ → Option Half → Halves
after_announced f window id None = f
after_announced f window id (Some h) = with_half f id (Some (with_announced window h))

-- DATA_BLOCKED is of use while the limit is held for which it was queued
abbrev pub data_blocked_frame : World → Option Frame
data_blocked_frame u = if is_blocked_reported u.out.budget then Some (frames.DataBlocked u.out.budget.max_data) else None

-- and so is STREAM_DATA_BLOCKED
abbrev pub stream_blocked_frame : ℕ → Option Send → Option Frame
stream_blocked_frame id o = option_map (frames.StreamDataBlocked id) (blocked_limit o)

-- the last RESET_STREAM that was queued leaves what is pending
pub record SettlesReset (u : World) (p : Pending) (o : Option Frame) (v : World) (q : Pending) : Type 0 where
  pub id : ℕ
  pub code : ℕ
  pub front : List (ℕ × ℕ)
  pub last : p.reset_stream ≡ front ++ (id, code) ∷ []
  pub left : q ≡ record p { reset_stream = front }
  pub frame : o ≡ reset_frame id code (u.out.halves id)
  pub end : v ≡ u

-- the last STOP_SENDING that was queued does; it is always written, also for a half that was freed
pub record SettlesStop (u : World) (p : Pending) (o : Option Frame) (v : World) (q : Pending) : Type 0 where
  pub stop : StopSending
  pub front : List StopSending
  pub last : p.stop_sending ≡ front ++ stop ∷ []
  pub left : q ≡ record p { stop_sending = front }
  pub frame : o ≡ Some (frames.StopSending stop)
  pub end : v ≡ u

-- MAX_DATA does, with the limit that is enforced, and that limit was announced
pub record SettlesMaxData (u : World) (p : Pending) (o : Option Frame) (v : World) (q : Pending) : Type 0 where
  pub queued : p.max_data ≡ true
  pub left : q ≡ record p { max_data = false }
  pub frame : o ≡ Some (frames.MaxData (max_data_of u.credit))
  pub end : v ≡ record u { credit = announced u.credit }

-- the MAX_STREAM_DATA of some stream does
pub record SettlesWindow (u : World) (p : Pending) (o : Option Frame) (v : World) (q : Pending) : Type 0 where
  pub id : ℕ
  pub queued : p.max_stream_data id ≡ true
  pub left : q ≡ record p { max_stream_data = without_id p.max_stream_data id }
  pub frame : o ≡ window_frame u.window id (u.receive id)
  pub end : v ≡ record u { receive = after_announced u.receive u.window id (u.receive id) }

-- MAX_STREAMS of a direction does, with the count that is enforced, and that count was announced
pub record SettlesMaxStreams (d : Dir) (u : World) (p : Pending) (o : Option Frame) (v : World) (q : Pending) : Type 0 where
  pub queued : max_streams_in p d ≡ true
  pub left : q ≡ without_max_streams p d
  pub frame : o ≡ Some (frames.MaxStreams d (remote_of u d).max_remote)
  pub end : v ≡ with_remote u d (streams_announced (remote_of u d))

-- DATA_BLOCKED does
pub record SettlesDataBlocked (u : World) (p : Pending) (o : Option Frame) (v : World) (q : Pending) : Type 0 where
  pub queued : p.data_blocked ≡ true
  pub left : q ≡ record p { data_blocked = false }
  pub frame : o ≡ data_blocked_frame u
  pub end : v ≡ u

-- the STREAM_DATA_BLOCKED of some stream does
pub record SettlesStreamBlocked (u : World) (p : Pending) (o : Option Frame) (v : World) (q : Pending) : Type 0 where
  pub id : ℕ
  pub queued : p.stream_data_blocked id ≡ true
  pub left : q ≡ record p { stream_data_blocked = without_id p.stream_data_blocked id }
  pub frame : o ≡ stream_blocked_frame id (u.out.halves id)
  pub end : v ≡ u

-- how many bytes a frame of a kind takes at most
abbrev pub kind_bound : ControlKind → ℕ
kind_bound kinds.ResetStream = reset_stream.SIZE_BOUND
kind_bound kinds.StopSending = stop_sending.SIZE_BOUND
kind_bound kinds.MaxData = frame.MAX_DATA_SIZE_BOUND
kind_bound kinds.MaxStreamData = frame.MAX_STREAM_DATA_SIZE_BOUND
kind_bound (kinds.MaxStreams d) = frame.MAX_STREAMS_SIZE_BOUND
kind_bound kinds.DataBlocked = frame.DATA_BLOCKED_SIZE_BOUND
kind_bound kinds.StreamDataBlocked = frame.STREAM_DATA_BLOCKED_SIZE_BOUND

-- a frame that can be written, and takes no more than its kind
pub record IsOfKind (k : ControlKind) (f : Frame) : Type 0 where
  pub can : CanEncode f
  pub bound : size_bound f ≡ kind_bound k

-- one entry of a kind leaves what is pending: it is written as a frame, or dropped where it is of no use
abbrev pub SettlesEntry : ControlKind → World → Pending → Option Frame → World → Pending → Type 0
SettlesEntry kinds.ResetStream u p o v q = SettlesReset u p o v q
SettlesEntry kinds.StopSending u p o v q = SettlesStop u p o v q
SettlesEntry kinds.MaxData u p o v q = SettlesMaxData u p o v q
SettlesEntry kinds.MaxStreamData u p o v q = SettlesWindow u p o v q
SettlesEntry (kinds.MaxStreams d) u p o v q = SettlesMaxStreams d u p o v q
SettlesEntry kinds.DataBlocked u p o v q = SettlesDataBlocked u p o v q
SettlesEntry kinds.StreamDataBlocked u p o v q = SettlesStreamBlocked u p o v q

-- nothing of a kind is pending
abbrev pub HasNoneOf : ControlKind → Pending → Type 0
HasNoneOf kinds.ResetStream p = p.reset_stream ≡ []
HasNoneOf kinds.StopSending p = p.stop_sending ≡ []
HasNoneOf kinds.MaxData p = p.max_data ≡ false
HasNoneOf kinds.MaxStreamData p = (id : ℕ) → p.max_stream_data id ≡ false
HasNoneOf (kinds.MaxStreams d) p = max_streams_in p d ≡ false
HasNoneOf kinds.DataBlocked p = p.data_blocked ≡ false
HasNoneOf kinds.StreamDataBlocked p = (id : ℕ) → p.stream_data_blocked id ≡ false
