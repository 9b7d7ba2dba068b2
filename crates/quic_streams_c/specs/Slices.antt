-- What C is lent of a stream.
use Rattle.std.specs.Prelude.{ℕ, ℤ, Bool, true, false, negsuc, ◌≡◌, ◌==◌, ◌++◌, List, length, map, drop, Result, Ok, Err}
use Rattle.std.specs.Vec.{vec_ptr}
use Rattle.quic_receiving.specs.declared.errors.ReadableError.{ReadableError}
use Rattle.quic_session.specs.declared.session.Session.{Session}
use Rattle.quic_session.specs.declared.application.ReadInto.{ReadInto}
use Rattle.quic_session.specs.declared.lent_bytes.LentBytes.{LentBytes}
use Rattle.quic_session.specs.Sessions.{beside_of}
use Rattle.quic_session.specs.Lending.{lent_bytes, ReadsLent}
use Rattle.quic_streams_c.specs.declared.chunks.RawSlice.{RawSlice}
use Rattle.quic_streams_c.specs.Answers.{TellsMany}
use Rattle.quic_streams_c.specs.Calls.{Refuses, WithNumber}
use Rattle.quic_streams_c.specs.Numbers.{small}

-- where bytes stand that are lent: their memory, where they begin in it, and how many they are
abbrev pub raw_slice : LentBytes → RawSlice
raw_slice piece = record { memory = vec_ptr piece.memory; start = piece.start; len = length (lent_bytes piece) }

-- what C has of a read that lends
pub record LentView : Type 0 where
  pub slices : List RawSlice
  pub count : ℕ
  pub offset : ℕ
  pub app_code : ℕ

-- the slices are those of what is lent, and the others stay
abbrev pub PutsSlices : Result ReadInto ReadableError → Session → List RawSlice → List RawSlice → Type 0
PutsSlices (Ok r) t was now = now ≡ map raw_slice t.lent.items ++ drop (length t.lent.items) was
PutsSlices (Err error) t was now = now ≡ was

-- a stream is read for several chunks, which are lent
pub record ReadingLent (s : Session) (id : ℕ) (code : ℤ) (t : Session) (was now : LentView) : Type 0 where
  pub answer : Result ReadInto ReadableError
  pub reads : ReadsLent s id (length was.slices) answer t
  pub beside : beside_of t ≡ beside_of s
  pub slices : PutsSlices answer t was.slices now.slices
  pub tells : TellsMany answer code was.count now.count was.offset now.offset was.app_code now.app_code

-- no slices are refused
abbrev pub ReadsLentIfRoom : Bool → Session → ℕ → ℤ → Session → LentView → LentView → Type 0
ReadsLentIfRoom true s id code t was now = (code ≡ negsuc 14) × (t ≡ s) × (now ≡ was)
ReadsLentIfRoom false s id code t was now = ReadingLent s id code t was now

-- qs_stream_read_lent
abbrev pub ReadsLentRaw : Session → ℕ → ℤ → Session → LentView → LentView → Type 0
ReadsLentRaw s id code t was now = WithNumber (small id) (Refuses s code t × (now ≡ was)) (λ i. ReadsLentIfRoom (length was.slices == 0) s i code t was now)
