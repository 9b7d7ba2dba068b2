-- What a read lends.
use Rattle.std.specs.Prelude.{ℕ, ◌≡◌, ◌≤◌, ◌⊎◌, min, Bool, true, List, length, drop, map, Result, Ok, Err}
use Rattle.quic_assembler.specs.declared.chunk.Chunk.{Chunk}
use Rattle.quic_receiving.specs.declared.errors.ReadableError.{ReadableError}
use Rattle.quic_receiving.specs.declared.errors.ReadableError.TheVariants as readable_error
use Rattle.quic_history.specs.Acknowledged.{was_given}
use Rattle.quic_history.specs.World.{Made}
use Rattle.quic_history.specs.History.{Event, From, with_reads}
use Rattle.quic_endpoint.specs.Ends.{ReadsAt}
use Rattle.quic_session.specs.declared.session.Session.{Session}
use Rattle.quic_session.specs.declared.application.ReadInto.{ReadInto}
use Rattle.quic_session.specs.declared.lent_bytes.LentBytes.{LentBytes}
use Rattle.quic_session.specs.Sessions.{end_of}
use Rattle.quic_session.specs.Reading.{AreConsecutive, IsNotGiven, RefusesChunk}

-- the bytes that stand in a piece of memory that is lent
abbrev pub lent_bytes : LentBytes → List ℕ
lent_bytes piece = drop piece.start piece.memory.items

-- how many chunks are asked for at most, where so many may be lent
abbrev pub lends_for : ℕ → ℕ
lends_for most = min most 64

-- the most bytes that can be asked for of a chunk: each is given whole
abbrev pub whole_chunk : ℕ
whole_chunk = 18446744073709551615

-- a stream that was given was read in order, for several chunks, which are lent. They stand one behind another in the stream
pub record ReadsChunksLent (s : Session) (id most : ℕ) (r : ReadInto) (t : Session) : Type 0 where
  pub given : was_given (end_of s).streams id ≡ true
  pub chunks : List Chunk
  pub transmit : Bool
  pub reads : ReadsAt (end_of s) id whole_chunk (lends_for most) true chunks r.last transmit (end_of t)
  pub in_order : AreConsecutive r.offset chunks
  pub few : length chunks ≤ lends_for most
  pub count : r.count ≡ length chunks
  pub lent : map lent_bytes t.lent.items ≡ map (λ c. c.bytes) chunks
  pub from : (m : Made) (h : List Event) → From m h (end_of s).streams → From m (with_reads id whole_chunk true chunks r.last h) (end_of t).streams

-- there was no memory for the list of what is lent, and nothing was read
pub record LendsNone (s : Session) (error : ReadableError) (t : Session) : Type 0 where
  pub memory : error ≡ readable_error.OutOfMemory
  pub same : end_of t ≡ end_of s

-- what came of a read that lends
abbrev pub ReadsLent : Session → ℕ → ℕ → Result ReadInto ReadableError → Session → Type 0
ReadsLent s id most (Ok r) t = ReadsChunksLent s id most r t
ReadsLent s id most (Err error) t = IsNotGiven s id error t ⊎ RefusesChunk s id true error t ⊎ LendsNone s error t
