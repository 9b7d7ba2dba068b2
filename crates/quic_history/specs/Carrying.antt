-- The STREAM frames that an end writes, one turn of its send queue after the other.
use Rattle.std.specs.Prelude.{ℕ, Bool, ◌≡◌, Option, Some, None}
use Rattle.quic_wire.specs.declared.frame.StreamMeta.{StreamMeta}
use Rattle.quic_writing.specs.Writer.{Writer, SkipsFirst, ServesFirst}
use Rattle.quic_history.specs.World.{World}

-- an end with the streams and the queue of a writer
abbrev pub with_writer : World → Writer → World
with_writer w x = record w { out = x.streams; queue = x.queue }

-- the first stream in the queue had its turn, and was let go without a frame
pub record PassesOver (w v : World) : Type 0 where
  pub before : Writer
  pub after : Writer
  pub found : w ≡ with_writer w before
  pub turn : SkipsFirst before after
  pub is : v ≡ with_writer w after

-- a frame of it was written
pub record CarriesFrame (most : ℕ) (fair : Bool) (w : World) (frame : StreamMeta) (v : World) : Type 0 where
  pub before : Writer
  pub after : Writer
  pub found : w ≡ with_writer w before
  pub turn : ServesFirst most fair before after
  pub meta : frame ≡ turn.frame.meta
  pub is : v ≡ with_writer w after

-- what came of a turn
abbrev pub TakesItsTurn : ℕ → Bool → World → Option StreamMeta → World → Type 0
TakesItsTurn most fair w None v = PassesOver w v
TakesItsTurn most fair w (Some frame) v = CarriesFrame most fair w frame v
