-- Payloads that were sent, and the frames in them.
use Rattle.std.specs.Prelude.{replicate, ◌≡◌, ◌⊎◌, ℕ, ◌+◌, ◌≤◌, ◌<◌, Bool, true, false, ◌||◌, ◌==◌, All, List, [], ◌∷◌, Option, Some, None, length, slice_get, slice_index_or}
use Rattle.std.specs.Global.{Vec}
use Rattle.quic_wire.specs.declared.frame.Frame.{Frame}
use Rattle.quic_wire.specs.declared.frame.Frame.TheVariants as frames
use Rattle.quic_wire.specs.declared.frame.Stream.{Stream}
use Rattle.quic_wire.specs.declared.frame.StreamMeta.{StreamMeta}
use Rattle.quic_wire.specs.Frames.{AreFrames, IsFrameWithin}
use Rattle.quic_retransmits.specs.Pending.{Pending}
use Rattle.quic_retransmits.specs.Settling.{noted}

-- bytes: the frames, spelled one after another
-- accepted: of each frame in its order whether a delivery of it was answered Ok, or nothing where none was
pub record SentText : Type 0 where
  pub bytes : List ℕ
  pub accepted : List Bool

-- whether a delivery of the frame at a place was answered Ok
abbrev pub is_accepted : SentText → ℕ → Bool
is_accepted s index = slice_index_or s.accepted index false

-- the frames that some bytes spell
pub record AreRead (bytes : List ℕ) (all : List Frame) : Type 0 where
  pub spelled : AreFrames bytes all
  pub within : All (IsFrameWithin (length bytes)) all

-- there are as many marks as frames
abbrev pub AreMarks : List ℕ → List Bool → Type 0
AreMarks bytes marks = (all : List Frame) → AreFrames bytes all → length marks ≡ length all

-- frames that were read, or none yet; and of as many it is known whether they were accepted, or of none yet
pub record IsDecoded (bytes : List ℕ) (all : List Frame) (accepted : List Bool) : Type 0 where
  pub read : (all ≡ []) ⊎ AreRead bytes all
  pub marks : (accepted ≡ []) ⊎ AreMarks bytes accepted

-- the bytes spell frames, of which this one stands at a place
pub record IsFrameAt (bytes : List ℕ) (index : ℕ) (frame : Frame) : Type 0 where
  pub all : List Frame
  pub spelled : AreFrames bytes all
  pub at : slice_get all index ≡ Some frame

-- whatever frames the bytes spell, none stands at this place
abbrev pub LacksFrame : List ℕ → ℕ → Type 0
LacksFrame bytes index = (all : List Frame) → AreFrames bytes all → length all ≤ index

-- marks with which a frame can be marked as accepted: those that are there, or others where none are
abbrev pub IsReadyToMark : SentText → ℕ → Option (Vec Bool) → Type 0
IsReadyToMark s index None = index < length s.accepted
IsReadyToMark s index (Some marks) = (s.accepted ≡ []) × (index < length marks.items) × (marks.items ≡ replicate (length marks.items) false) × AreMarks s.bytes marks.items

-- the frame at this place was accepted beside those before
pub record IsMarked (old : SentText) (index : ℕ) (new : SentText) : Type 0 where
  pub same : new ≡ record old { accepted = new.accepted }
  pub marks : (at : ℕ) → is_accepted new at ≡ (is_accepted old at || (at == index))

-- what a STREAM frame carries
abbrev pub meta_of : Stream → StreamMeta
meta_of s = record { id = s.id; offsets = record { start = s.offset; end = s.offset + length s.bytes }; fin = s.fin }

-- none where there are marks, or as many as that, of which none is set
abbrev pub AreFreshMarks : List Bool → ℕ → Option (Vec Bool) → Type 0
AreFreshMarks accepted count None = 0 < length accepted
AreFreshMarks accepted count (Some marks) = (accepted ≡ []) × (marks.items ≡ replicate count false)

-- whether a frame is no STREAM frame
abbrev pub is_control : Frame → Bool
is_control (frames.Stream s) = false
is_control _ = true

-- the streams of the RESET_STREAM frames among some
abbrev pub resets_in : List Frame → List ℕ
resets_in [] = []
resets_in (frames.ResetStream f ∷ fs) = f.id ∷ resets_in fs
resets_in (_ ∷ fs) = resets_in fs

-- the streams of the RESET_STREAM frames among some, each with its code
abbrev pub codes_in : List Frame → List (ℕ × ℕ)
codes_in [] = []
codes_in (frames.ResetStream f ∷ fs) = (f.id, f.error_code) ∷ codes_in fs
codes_in (_ ∷ fs) = codes_in fs

-- what the STREAM frames among some carry
abbrev pub metas_in : List Frame → List StreamMeta
metas_in [] = []
metas_in (frames.Stream s ∷ fs) = meta_of s ∷ metas_in fs
metas_in (_ ∷ fs) = metas_in fs

-- what is to be sent again where some frames are lost, one after another
abbrev pub noted_of : Pending → List Frame → Pending
noted_of p [] = p
noted_of p (f ∷ fs) = noted_of (noted p f) fs

-- marks are all set
abbrev pub AreSet : List Bool → Type 0
AreSet marks = (index : ℕ) → index < length marks → slice_index_or marks index false ≡ true

-- one mark is not
pub record LacksMark (marks : List Bool) : Type 0 where
  pub index : ℕ
  pub within : index < length marks
  pub unset : slice_index_or marks index false ≡ false

-- every frame of a payload was accepted
abbrev pub AreAllAccepted : SentText → Type 0
AreAllAccepted s = (all : List Frame) → AreFrames s.bytes all → (index : ℕ) → index < length all → is_accepted s index ≡ true

-- a frame of some was not
pub record LacksOneOf (s : SentText) (all : List Frame) : Type 0 where
  pub index : ℕ
  pub within : index < length all
  pub unmarked : is_accepted s index ≡ false

-- one of a payload was not
abbrev pub LacksAccepted : SentText → Type 0
LacksAccepted s = (all : List Frame) → AreFrames s.bytes all → LacksOneOf s all

-- whether a frame has data
abbrev pub has_data : Frame → Bool
has_data (frames.Stream s) = true
has_data (frames.Datagram d) = true
has_data (frames.Crypto c) = true
has_data _ = false
