-- What holds between two ends, whatever frames are lost, repeated or reordered.
use Rattle.std.specs.Prelude.{ℕ, ◌≡◌, ◌<◌, ◌+◌, true, List, [], ◌∷◌, ◌++◌, length, slice_get, Some}
use Rattle.quic_assembler.specs.Piece.{lies, IsByteAt}
use Rattle.quic_wire.specs.declared.frame.Frame.TheVariants as frames
use Rattle.quic_wire.specs.declared.frame.Stream.{Stream}
use Rattle.quic_receiving.specs.Data.{Carries, IsAllGiven}
use Rattle.quic_history.specs.History.{ReadChunk, slices, EachOnce}
use Rattle.quic_link.specs.Endpoints.{IsOneOf}
use Rattle.quic_link.specs.Promises.{given_in_order}
use Rattle.quic_steps.specs.declared.steps.End.{End}
use Rattle.quic_exchange.specs.Sent.{Sent}
use Rattle.quic_exchange.specs.Payloads.{IsFrameAt}
use Rattle.quic_exchange.specs.History.{Past, Flow, FramePlace}

-- the second list begins with the first
abbrev pub IsBeginningOf : List ℕ → List ℕ → Type 0
IsBeginningOf xs ys = (rest : List ℕ) × (xs ++ rest ≡ ys)

-- an end sent a STREAM frame at a place
pub record IsStreamFrom (sent : List Sent) (who : End) (at : FramePlace) (s : Stream) : Type 0 where
  pub payload : Sent
  pub is : slice_get sent at.0 ≡ Some payload
  pub writer : payload.writer ≡ who
  pub frame : IsFrameAt payload.text.bytes at.1 (frames.Stream s)

-- one of some places has a STREAM frame of an end on a stream, of which something holds
pub record SomeStream (sent : List Sent) (who : End) (id : ℕ) (places : List FramePlace) (Is : Stream → Type 0) : Type 0 where
  pub at : FramePlace
  pub listed : IsOneOf at places
  pub stream : Stream
  pub sent_as : IsStreamFrom sent who at stream
  pub on : stream.id ≡ id
  pub is : Is stream

-- a frame has the byte at an offset
abbrev pub HasOffset : ℕ → Stream → Type 0
HasOffset at s = lies s.offset (s.offset + length s.bytes) at ≡ true

-- and the end
abbrev pub HasEnd : Stream → Type 0
HasEnd s = s.fin ≡ true

-- all that an end wrote on a stream was delivered: it was ended, and every byte and the end stood in frames that were accepted
pub record IsDelivered (f : Flow) (who : End) (id : ℕ) (accepted : List FramePlace) (sent : List Sent) : Type 0 where
  pub finished : f.finished ≡ true
  pub bytes : (at : ℕ) → at < length f.written → SomeStream sent who id accepted (HasOffset at)
  pub end : SomeStream sent who id accepted HasEnd

-- the chunks of ordered reads follow one another; the newest chunk is the first of the list
abbrev pub AreInOrder : List ReadChunk → Type 0
AreInOrder [] = Unit {0}
AreInOrder (c ∷ cs) = AreInOrder cs × (c.ordered ≡ true → c.offset ≡ length (given_in_order cs))

-- what was read and told of what an end sends on a stream is true
pub record IsFaithful (f : Flow) (who : End) (id : ℕ) (accepted : List FramePlace) (sent : List Sent) : Type 0 where
  -- what ordered reads gave is a beginning of what was written
  pub beginning : IsBeginningOf (given_in_order f.given) f.written
  -- each chunk is what was written at its place
  pub slices_written : (at byte : ℕ) → Carries (slices f.given) at byte → IsByteAt 0 f.written at byte
  -- a chunk of an ordered read lies behind what ordered reads gave before
  pub in_order : AreInOrder f.given
  -- no byte is given twice
  pub once : EachOnce (slices f.given)
  -- where a read told the end, the stream was ended, and every byte of it given
  pub ended : f.ended ≡ true → (f.finished ≡ true) × IsAllGiven (slices f.given) (length f.written)
  -- codes that are told of a reset and of a stop are those of a reset and of a stop
  pub resets : (code : ℕ) → IsOneOf code f.told_resets → IsOneOf code f.resets
  pub stops : (code : ℕ) → IsOneOf code f.told_stops → IsOneOf code f.stops
  -- where the writer is told that it is finished, all of it was delivered
  pub complete : f.complete ≡ true → IsDelivered f who id accepted sent

-- so of what each end sends on each stream
abbrev pub Headline : Past → List Sent → Type 0
Headline p sent = (who : End) (id : ℕ) → IsFaithful (p.flow who id) who id p.accepted sent
