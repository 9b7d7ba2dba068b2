-- What a read into a buffer of the host gives.
use Rattle.std.specs.Prelude.{ℕ, ◌≡◌, ◌≤◌, ◌+◌, ◌/◌, ◌⊎◌, max, min, Bool, true, false, List, [], ◌∷◌, ◌++◌, length, drop, map, Result, Ok, Err}
use Rattle.std.specs.List.{concat}
use Rattle.quic_assembler.specs.declared.chunk.Chunk.{Chunk}
use Rattle.quic_receiving.specs.declared.errors.ReadableError.{ReadableError}
use Rattle.quic_receiving.specs.declared.errors.ReadableError.TheVariants as readable_error
use Rattle.quic_history.specs.Acknowledged.{was_given}
use Rattle.quic_history.specs.World.{Made}
use Rattle.quic_history.specs.Reading.{bytes_in}
use Rattle.quic_history.specs.History.{Event, Began, From, with_reads}
use Rattle.quic_endpoint.specs.Ends.{ReadsAt, RefusesRead}
use Rattle.quic_session.specs.declared.session.Session.{Session}
use Rattle.quic_session.specs.declared.application.ReadInto.{ReadInto}
use Rattle.quic_session.specs.Sessions.{end_of}

-- the one chunk that was given stands first in the buffer, whose other bytes stay
abbrev pub CopiesChunk : List Chunk → ReadInto → List ℕ → List ℕ → Type 0
CopiesChunk [] r out new = (r.count ≡ 0) × (r.offset ≡ 0) × (new ≡ out)
CopiesChunk (c ∷ cs) r out new = (cs ≡ []) × (r.count ≡ length c.bytes) × (r.offset ≡ c.offset) × (new ≡ c.bytes ++ drop (length c.bytes) out)

-- there is one chunk at most, and it has no more than so many bytes
abbrev pub AreFew : List Chunk → ℕ → Type 0
AreFew [] most = Unit {0}
AreFew (c ∷ cs) most = (cs ≡ []) × (length c.bytes ≤ most)

-- a stream that was given was read, for one chunk of at most as many bytes as the buffer has
pub record ReadsChunkInto (s : Session) (id : ℕ) (ordered : Bool) (out : List ℕ) (r : ReadInto) (t : Session) (new : List ℕ) : Type 0 where
  pub given : was_given (end_of s).streams id ≡ true
  pub chunks : List Chunk
  pub transmit : Bool
  pub reads : ReadsAt (end_of s) id (length out) 1 ordered chunks r.last transmit (end_of t)
  pub copies : CopiesChunk chunks r out new
  pub from : (m : Made) (h : List Event) → From m h (end_of s).streams → From m (with_reads id (length out) ordered chunks r.last h) (end_of t).streams

-- a read of a stream that was given was refused
pub record RefusesChunk (s : Session) (id : ℕ) (ordered : Bool) (error : ReadableError) (t : Session) : Type 0 where
  pub given : was_given (end_of s).streams id ≡ true
  pub refuses : RefusesRead (end_of s) id ordered error (end_of t)
  pub from : (m : Made) (h : List Event) → From m h (end_of s).streams → From m (Began id ordered (Err error) ∷ h) (end_of t).streams

-- the stream was not given
pub record IsNotGiven (s : Session) (id : ℕ) (error : ReadableError) (t : Session) : Type 0 where
  pub unknown : was_given (end_of s).streams id ≡ false
  pub error_is : error ≡ readable_error.ClosedStream
  pub same : end_of t ≡ end_of s

-- what came of a read into a buffer
abbrev pub ReadsInto : Session → ℕ → Bool → List ℕ → Result ReadInto ReadableError → Session → List ℕ → Type 0
ReadsInto s id ordered out (Ok r) t new = ReadsChunkInto s id ordered out r t new
ReadsInto s id ordered out (Err error) t new = (new ≡ out) × (IsNotGiven s id error t ⊎ RefusesChunk s id ordered error t)

-- the bytes of chunks, one after another
abbrev pub chunk_bytes : List Chunk → List ℕ
chunk_bytes chunks = concat (map (λ c. c.bytes) chunks)

-- where the first of them stands in the stream
abbrev pub offset_of_first : List Chunk → ℕ
offset_of_first [] = 0
offset_of_first (c ∷ cs) = c.offset

-- each of them stands in the stream where the one before it ends, the first at an offset
abbrev pub AreConsecutive : ℕ → List Chunk → Type 0
AreConsecutive at [] = Unit {0}
AreConsecutive at (c ∷ cs) = (c.offset ≡ at) × AreConsecutive (at + length c.bytes) cs

-- how many chunks are asked for at most, for a buffer of so many bytes
abbrev pub chunks_for : ℕ → ℕ
chunks_for size = max (min (size / 2048) 64) 1

-- and of how many bytes each at most
abbrev pub share_of : ℕ → ℕ
share_of size = size / chunks_for size

-- a stream that was given was read in order, for several chunks, of which each has its share of the buffer. They stand one
-- behind another in the stream, and so first in the buffer, whose other bytes stay
pub record ReadsChunksInto (s : Session) (id : ℕ) (out : List ℕ) (r : ReadInto) (t : Session) (new : List ℕ) : Type 0 where
  pub given : was_given (end_of s).streams id ≡ true
  pub chunks : List Chunk
  pub transmit : Bool
  pub reads : ReadsAt (end_of s) id (share_of (length out)) (chunks_for (length out)) true chunks r.last transmit (end_of t)
  pub in_order : AreConsecutive r.offset chunks
  pub count : r.count ≡ bytes_in chunks
  pub copied : new ≡ chunk_bytes chunks ++ drop r.count out
  pub from : (m : Made) (h : List Event) → From m h (end_of s).streams → From m (with_reads id (share_of (length out)) true chunks r.last h) (end_of t).streams

-- what came of a read of several chunks
abbrev pub ReadsManyInto : Session → ℕ → List ℕ → Result ReadInto ReadableError → Session → List ℕ → Type 0
ReadsManyInto s id out (Ok r) t new = ReadsChunksInto s id out r t new
ReadsManyInto s id out (Err error) t new = (new ≡ out) × (IsNotGiven s id error t ⊎ RefusesChunk s id true error t)
