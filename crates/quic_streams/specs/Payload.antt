-- A payload to which frames beside STREAM are written, and what writing them may do.
use Rattle.std.specs.Prelude.{◌≡◌, ◌⊎◌, ℕ, ◌+◌, ◌<◌, ◌≤◌, Bool, true, false, List, [], ◌∷◌, ◌++◌, length, Option, Some, None, IfSome, IsErr, Result, Ok, Err}
use Rattle.quic_values.specs.declared.memory.OutOfMemory.{OutOfMemory}
use Rattle.quic_values.specs.declared.ids.Dir.TheVariants.{Bi, Uni}
use Rattle.quic_wire.specs.declared.frame.Frame.{Frame}
use Rattle.quic_wire.specs.Frames.{BeginsWith}
use Rattle.quic_wire.specs.Text.{text}
use Rattle.quic_datagrams.specs.declared.stats.FrameStats.{FrameStats}
use Rattle.quic_datagrams.specs.Counting.{with_frame}
use Rattle.std.specs.Global.{Vec}
use Rattle.quic_retransmits.specs.declared.retransmits.Retransmits.{Retransmits}
use Rattle.quic_retransmits.specs.declared.retransmits.ThinRetransmits.{ThinRetransmits}
use Rattle.quic_retransmits.specs.Pending.{Pending, pending_view}
use Rattle.quic_streams.specs.declared.state.StreamsState.{StreamsState}
use Rattle.quic_streams.specs.Shown.{streams_view}
use Rattle.quic_retransmits.specs.Settling.{noted, noted_in}
use Rattle.quic_history.specs.World.{World, Made}
use Rattle.quic_history.specs.History.{Event, LeftPending, From}
use Rattle.quic_history.specs.declared.control.ControlKind.{ControlKind}
use Rattle.quic_history.specs.declared.control.ControlKind.TheVariants as kinds
use Rattle.quic_history.specs.Control.{SettlesEntry, HasNoneOf, kind_bound}
use Rattle.quic_streams.specs.declared.payload.ControlPayload.{ControlPayload}

-- bytes: the payload so far
-- sent: what was noted of its frames
-- stats: how many frames of each type there were
pub record Sheet : Type 0 where
  pub bytes : List ℕ
  pub sent : Pending
  pub stats : FrameStats

abbrev pub sheet_of : ControlPayload → FrameStats → Sheet
sheet_of c stats = record { bytes = c.bytes.items; sent = noted_in c.sent; stats = stats }

-- a frame more: its spelling behind what was there, noted as sent, and counted
abbrev pub with_frame_written : Sheet → Frame → Sheet
with_frame_written s f = record { bytes = s.bytes ++ text f; sent = noted s.sent f; stats = with_frame s.stats f }

abbrev pub with_frame_written_if : Sheet → Option Frame → Sheet
with_frame_written_if s None = s
with_frame_written_if s (Some f) = with_frame_written s f

-- an end, what it has to send beside STREAM, and a payload
pub record PayloadPlace : Type 0 where
  pub end : World
  pub pending : Pending
  pub sheet : Sheet

-- a frame is spelled so that it is read again, and takes no more than this
pub record FitsIn (bound : ℕ) (f : Frame) : Type 0 where
  pub spelled : (rest : List ℕ) → BeginsWith (text f ++ rest) f rest
  pub short : length (text f) ≤ bound

-- one entry of a kind leaves what is pending, and stands in the payload where it is of use
pub record SettlesOne (k : ControlKind) (a b : PayloadPlace) : Type 0 where
  pub frame : Option Frame
  pub settles : SettlesEntry k a.end a.pending frame b.end b.pending
  pub written : b.sheet ≡ with_frame_written_if a.sheet frame
  pub fits : IfSome frame (FitsIn (kind_bound k))

-- one entry is tried: there was one, or none, or memory lacked
abbrev pub Tries : ControlKind → PayloadPlace → Result Bool OutOfMemory → PayloadPlace → Type 0
Tries k a (Ok true) b = SettlesOne k a b
Tries k a (Ok false) b = HasNoneOf k a.pending × (b ≡ a)
Tries k a (Err e) b = b ≡ a

-- entries of a kind leave, each where the longest frame of the kind still fits below the maximum
pub data SettlesSome (k : ControlKind) (most : ℕ) : PayloadPlace → PayloadPlace → Type 0 where
  none : {p : PayloadPlace} → SettlesSome k most p p
  more : {p q r : PayloadPlace} → SettlesSome k most p q → length q.sheet.bytes + kind_bound k < most → SettlesOne k q r → SettlesSome k most p r

-- nothing of a kind is left, or the longest frame of it does not fit
abbrev pub IsKindDone : ControlKind → ℕ → PayloadPlace → Type 0
IsKindDone k most p = HasNoneOf k p.pending ⊎ (most ≤ length p.sheet.bytes + kind_bound k)

-- something of a kind is left, and the longest frame of the kind fits
pub record LeavesKind (most : ℕ) (p : PayloadPlace) : Type 0 where
  pub kind : ControlKind
  pub left : IsKindDone kind most p → ⊥

-- the kinds in the order in which they are written
abbrev pub control_order : List ControlKind
control_order = kinds.ResetStream ∷ kinds.StopSending ∷ kinds.MaxData ∷ kinds.MaxStreamData ∷ kinds.MaxStreams Bi ∷ kinds.MaxStreams Uni ∷ kinds.DataBlocked ∷ kinds.StreamDataBlocked ∷ []

-- a kind is done, at a place between
pub record FinishesKind (k : ControlKind) (most : ℕ) (a m : PayloadPlace) : Type 0 where
  pub turns : SettlesSome k most a m
  pub done : IsKindDone k most m

-- the kinds are written one after another. Out of memory, the last one may stop before it is done
abbrev pub WritesKinds : ℕ → List ControlKind → PayloadPlace → Result (Unit {0}) OutOfMemory → PayloadPlace → Type 0
WritesKinds most [] a (Ok x) b = b ≡ a
WritesKinds most [] a (Err e) b = ⊥
WritesKinds most (k ∷ ks) a r b = ((m : PayloadPlace) × FinishesKind k most a m × WritesKinds most ks m r b) ⊎ (IsErr r × SettlesSome k most a b)

-- an entry that left what was pending: its kind, and the frame that was written for it, if one was
pub record Entry : Type 0 where
  pub kind : ControlKind
  pub frame : Option Frame

-- the frames of some entries, one after another
abbrev pub sheet_with : Sheet → List Entry → Sheet
sheet_with s [] = s
sheet_with s (e ∷ es) = sheet_with (with_frame_written_if s e.frame) es

-- a history with them
abbrev pub with_entries : List Entry → List Event → List Event
with_entries [] h = h
with_entries (e ∷ es) h = with_entries es (LeftPending e.kind e.frame ∷ h)

-- entries left what was pending, and a payload has their frames; whatever history came before, it goes on with them
pub record WritesEntries (a b : Sheet) (u v : World) : Type 0 where
  pub entries : List Entry
  pub sheet : b ≡ sheet_with a entries
  pub from : (m : Made) (h : List Event) → From m h u → From m (with_entries entries h) v

-- an end and a payload, as a call finds and leaves them
abbrev pub place_of : StreamsState → Retransmits → Vec ℕ → ThinRetransmits → FrameStats → PayloadPlace
place_of s p buf sent stats = record { end = streams_view s; pending = pending_view p; sheet = record { bytes = buf.items; sent = noted_in sent; stats = stats } }
