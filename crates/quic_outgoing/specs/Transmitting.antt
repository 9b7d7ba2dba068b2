-- The STREAM frames of a stream, one at a time (RFC 9000 section 19.8).
use Rattle.std.specs.Prelude.{◌≡◌, ◌≢◌, ℕ, ℤ, ◌+◌, ◌-◌, ◌≤◌, Bool, true, false, not, ◌&&◌, ◌==◌, if◌then◌else◌, max, List, ◌++◌, length, take, drop, Option, Some, None, Result, Ok, Err, MatchBool, []}
use Rattle.std.specs.List.{concat}
use Rattle.quic_values.specs.Numbers.{size_of}
use Rattle.quic_ranges.specs.Runs.{lies_in}
use Rattle.quic_values.specs.declared.memory.OutOfMemory.{OutOfMemory}
use Rattle.quic_wire.specs.Text.{meta_text, stream_of}
use Rattle.quic_wire.specs.Frames.{BeginsWith}
use Rattle.quic_sending.specs.declared.send.Send.{Send}
use Rattle.quic_sending.specs.declared.send.SendState.{SendState}
use Rattle.quic_sending.specs.declared.send.SendState.TheVariants.{Ready, DataSent, ResetSent}
use Rattle.quic_sending.specs.Sending.{is_reset_sent}
use Rattle.quic_sending.specs.Buffer.{HasCuts, IsSound, IsNextRange, is_lost, frame_end, has_length}
use Rattle.quic_outgoing.specs.declared.transmitting.WrittenFrame.{WrittenFrame}
use Rattle.quic_outgoing.specs.Senders.{SendersById, with_sender}
use Rattle.quic_outgoing.specs.Outgoing.{Outgoing}
use Rattle.quic_outgoing.specs.Calls.{HasMore, HasNoMore}

-- the bytes of a list from an offset up to another
abbrev pub between : List ℕ → ℕ → ℕ → List ℕ
between bytes start end = take (end - start) (drop start bytes)

-- finished, and not reset
abbrev pub is_data_sent : SendState → Bool
is_data_sent Ready = false
is_data_sent (DataSent finish_acked) = true
is_data_sent ResetSent = false

-- the priority of a half on which data may be sent: none is told of one that is gone, or was reset
abbrev pub sending_priority : Option Send → Option ℤ
sending_priority None = None
sending_priority (Some s) = if is_reset_sent s.state then None else Some s.priority

-- the room that a payload leaves for a frame behind its type and its id
abbrev pub room_behind_id : ℕ → ℕ → List ℕ → ℕ
room_behind_id most id bytes = most - length bytes - 1 - size_of id

-- one frame of a half is appended to a payload: the front of the range that is to be sent next, with the end where the
-- stream is finished and ends there
pub record AppendsFrame (most id : ℕ) (s : Send) (bytes : List ℕ) (frame : WrittenFrame) (t : Send) (new : List ℕ) : Type 0 where
  pub limit : ℕ
  pub with_length : Bool
  pub id_is : frame.meta.id ≡ id
  pub next : IsNextRange s.pending frame.meta.offsets.start limit
  pub end_is : frame.meta.offsets.end ≡ frame_end frame.meta.offsets.start limit (room_behind_id most id bytes)
  pub length_is : with_length ≡ has_length frame.meta.offsets.start limit (room_behind_id most id bytes)
  pub fin_is : frame.meta.fin ≡ (is_data_sent s.state && (frame.meta.offsets.end == s.pending.offset))
  pub ordered : frame.meta.offsets.start ≤ frame.meta.offsets.end
  pub written : frame.meta.offsets.end ≤ s.pending.offset
  pub lost : (n : ℕ) → is_lost t.pending n ≡ (is_lost s.pending n && not (lies_in frame.meta.offsets n))
  pub after : t ≡ record s {
    pending = record s.pending { lost = t.pending.lost; unsent = max s.pending.unsent frame.meta.offsets.end };
    fin_pending = s.fin_pending && not frame.meta.fin;
  }
  pub sound : IsSound t.pending
  pub more : MatchBool frame.has_more (HasMore t) (HasNoMore t)
  pub size : length new ≡ length bytes + length (meta_text frame.meta with_length) + (frame.meta.offsets.end - frame.meta.offsets.start)
  pub text : (cuts : List (List ℕ)) → HasCuts cuts s.pending →
      new ≡ bytes ++ meta_text frame.meta with_length ++ between (concat cuts) frame.meta.offsets.start frame.meta.offsets.end
  pub spelled : (content rest : List ℕ) → length content ≡ frame.meta.offsets.end - frame.meta.offsets.start → (with_length ≡ false → rest ≡ []) →
      BeginsWith (meta_text frame.meta with_length ++ content ++ rest) (stream_of frame.meta content) rest

-- one frame of a held stream is written
pub record TransmitsFrame (f : SendersById) (id most : ℕ) (bytes : List ℕ) (frame : WrittenFrame) (g : SendersById) (new : List ℕ) : Type 0 where
  pub half : Send
  pub sent : Send
  pub is_held : f id ≡ Some half
  pub appends : AppendsFrame most id half bytes frame sent new
  pub is : g ≡ with_sender f id (Some sent)

-- one frame of a stream is written or, for lack of memory, none
abbrev pub Transmits : Outgoing → ℕ → ℕ → List ℕ → Result WrittenFrame OutOfMemory → Outgoing → List ℕ → Type 0
Transmits u id most bytes (Ok frame) v new = TransmitsFrame u.halves id most bytes frame v.halves new × (v ≡ record u { halves = v.halves })
Transmits u id most bytes (Err e) v new = (v ≡ u) × (new ≡ bytes)

-- one frame of a stream is written where data may be sent on it and its priority is this one: else, and for lack of memory,
-- none
abbrev pub SendsAt : SendersById → ℕ → ℤ → ℕ → List ℕ → Result (Option WrittenFrame) OutOfMemory → SendersById → List ℕ → Type 0
SendsAt f id priority most bytes (Ok (Some frame)) g new = (sending_priority (f id) ≡ Some priority) × TransmitsFrame f id most bytes frame g new
SendsAt f id priority most bytes (Ok None) g new = (sending_priority (f id) ≢ Some priority) × (g ≡ f) × (new ≡ bytes)
SendsAt f id priority most bytes (Err e) g new = (sending_priority (f id) ≡ Some priority) × (g ≡ f) × (new ≡ bytes)

-- the same, and nothing else of the sending side changes
abbrev pub TransmitsAt : Outgoing → ℕ → ℤ → ℕ → List ℕ → Result (Option WrittenFrame) OutOfMemory → Outgoing → List ℕ → Type 0
TransmitsAt u id priority most bytes (Ok (Some frame)) v new = (sending_priority (u.halves id) ≡ Some priority) × Transmits u id most bytes (Ok frame) v new
TransmitsAt u id priority most bytes (Ok None) v new = (sending_priority (u.halves id) ≢ Some priority) × (v ≡ u) × (new ≡ bytes)
TransmitsAt u id priority most bytes (Err e) v new = (sending_priority (u.halves id) ≡ Some priority) × Transmits u id most bytes (Err e) v new
