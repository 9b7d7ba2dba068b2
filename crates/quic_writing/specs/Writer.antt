-- What a writer of STREAM frames does, one stream of the queue after the other.
use Rattle.std.specs.Prelude.{◌≡◌, ℕ, ℤ, ◌+◌, ◌<◌, ◌⊎◌, Bool, true, false, List, [], ◌∷◌, ◌++◌, length, Some, None}
use Rattle.quic_wire.specs.declared.frame.StreamMeta.{StreamMeta}
use Rattle.quic_queue.specs.declared.queue.Entry.{Entry}
use Rattle.quic_queue.specs.declared.queue.Next.{Next}
use Rattle.quic_queue.specs.declared.queue.Next.TheVariants.{LetGo, PutAnew, KeepBack}
use Rattle.quic_queue.specs.SendOrder.{SendOrder, first, without_next, with_turn_ended}
use Rattle.quic_outgoing.specs.declared.transmitting.WrittenFrame.{WrittenFrame}
use Rattle.quic_outgoing.specs.Outgoing.{Outgoing}
use Rattle.quic_outgoing.specs.Transmitting.{TransmitsFrame, sending_priority}

-- streams: those on which this end sends
-- queue: those of them that have something to send, without the room for one more
-- bytes: the payload
-- sent: the frames that were handed back
pub record Writer : Type 0 where
  pub streams : Outgoing
  pub queue : SendOrder
  pub bytes : List ℕ
  pub sent : List StreamMeta

-- a queue without the room for one more, on which no answer depends
abbrev pub unreserved : SendOrder → SendOrder
unreserved q = record q { reserved = None }

abbrev pub writer : Outgoing → SendOrder → List ℕ → List StreamMeta → Writer
writer streams queue bytes sent = record { streams = streams; queue = unreserved queue; bytes = bytes; sent = sent }

-- what becomes of a stream once a frame of it was written: where more is to be sent it is put anew at its present
-- priority, or kept back
abbrev pub next_of : Bool → ℤ → Bool → Next
next_of fair priority false = LetGo
next_of true priority true = PutAnew priority
next_of false priority true = KeepBack

-- the first stream in the queue is not held, or was reset: it is let go
pub record SkipsFirst (a b : Writer) : Type 0 where
  pub entry : Entry
  pub is_first : first a.queue ≡ Some entry
  pub closed : sending_priority (a.streams.halves entry.id) ≡ None
  pub is : b ≡ record a { queue = with_turn_ended (without_next a.queue) entry LetGo }

-- a frame of the first stream in the queue is written
pub record ServesFirst (most : ℕ) (fair : Bool) (a b : Writer) : Type 0 where
  pub entry : Entry
  pub priority : ℤ
  pub frame : WrittenFrame
  pub is_first : first a.queue ≡ Some entry
  pub free : sending_priority (a.streams.halves entry.id) ≡ Some priority
  pub transmits : TransmitsFrame a.streams.halves entry.id most a.bytes frame b.streams.halves b.bytes
  pub others : b.streams ≡ record a.streams { halves = b.streams.halves }
  pub queue : b.queue ≡ with_turn_ended (without_next a.queue) entry (next_of fair priority frame.has_more)
  pub sent : b.sent ≡ a.sent ++ frame.meta ∷ []

-- the first stream in the queue has its turn
abbrev pub TakesTurn : ℕ → Bool → Writer → Writer → Type 0
TakesTurn most fair a b = SkipsFirst a b ⊎ ServesFirst most fair a b

-- streams have their turns, each where a frame with the greatest head still fits
pub data TakesTurns (most : ℕ) (fair : Bool) : Writer → Writer → Type 0 where
  none : {a : Writer} → TakesTurns most fair a a
  more : {a b c : Writer} → TakesTurns most fair a b → length b.bytes + 25 < most → TakesTurn most fair b c → TakesTurns most fair a c
