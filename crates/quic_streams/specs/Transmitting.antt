-- The frames that are written of the streams of an end.
use Rattle.std.specs.Prelude.{◌≡◌, ℕ, Bool, List, [], ◌∷◌, ◌++◌, Option, Some, None}
use Rattle.std.specs.List.{concat}
use Rattle.quic_wire.specs.declared.frame.StreamMeta.{StreamMeta}
use Rattle.quic_writing.specs.Writer.{Writer, writer, TakesTurns}
use Rattle.quic_history.specs.World.{World, Made}
use Rattle.quic_history.specs.SendEvents.{TookTurn}
use Rattle.quic_history.specs.History.{Event, Sending, From, flow}

-- an end that writes STREAM frames to a payload
abbrev pub end_writer : World → List ℕ → List StreamMeta → Writer
end_writer w bytes sent = writer w.out w.queue bytes sent

-- the streams of an end have their turns, and nothing else changes
pub record WritesStreamFrames (most : ℕ) (fair : Bool) (w : World) (bytes : List ℕ) (sent : List StreamMeta) (v : World) (payload : List ℕ) (frames : List StreamMeta) : Type 0 where
  pub turns : TakesTurns most fair (end_writer w bytes sent) (end_writer v payload frames)
  pub others : v ≡ record w { out = v.out; queue = v.queue }

-- the bytes that were written on each stream, as the calls tell
abbrev pub told_bytes : Made → List Event → ℕ → List ℕ
told_bytes m h q = concat (flow m h q).cuts

-- the frames of some turns, of which each has one or none
abbrev pub frames_of : List (Option StreamMeta) → List StreamMeta
frames_of [] = []
frames_of (None ∷ ts) = frames_of ts
frames_of (Some frame ∷ ts) = frame ∷ frames_of ts

-- a history with these turns, the first one first
abbrev pub with_turns : ℕ → Bool → List (Option StreamMeta) → List Event → List Event
with_turns most fair [] h = h
with_turns most fair (t ∷ ts) h = with_turns most fair ts (Sending (TookTurn most fair t) ∷ h)

-- streams had their turns, whose frames were handed back; whatever history came before, it goes on with them
pub record GoesOnWithTurns (most : ℕ) (fair : Bool) (sent frames : List StreamMeta) (w v : World) : Type 0 where
  pub turns : List (Option StreamMeta)
  pub handed : frames ≡ sent ++ frames_of turns
  pub from : (m : Made) (h : List Event) → From m h w → From m (with_turns most fair turns h) v
