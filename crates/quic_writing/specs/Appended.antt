-- What a writer of STREAM frames appends to a payload.
use Rattle.std.specs.Prelude.{◌≡◌, ◌⊎◌, ℕ, ◌≤◌, Bool, true, false, List, [], ◌∷◌, ◌++◌, length, map, Some}
use Rattle.std.specs.List.{concat}
use Rattle.quic_wire.specs.declared.frame.StreamMeta.{StreamMeta}
use Rattle.quic_wire.specs.declared.frame.Frame.{Frame}
use Rattle.quic_wire.specs.Text.{meta_text, stream_of}
use Rattle.quic_wire.specs.Frames.{AreFrames}
use Rattle.quic_sending.specs.declared.send.Send.{Send}
use Rattle.quic_sending.specs.Buffer.{HasCuts}
use Rattle.quic_outgoing.specs.Outgoing.{Outgoing}
use Rattle.quic_outgoing.specs.Transmitting.{between}
use Rattle.quic_writing.specs.Writer.{Writer}

-- these bytes were written on a half
pub record HoldsWritten (bytes : List ℕ) (s : Send) : Type 0 where
  pub cuts : List (List ℕ)
  pub has : HasCuts cuts s.pending
  pub joined : concat cuts ≡ bytes

-- the bytes that were written on each stream that is held
abbrev pub AreWritten : (ℕ → List ℕ) → Outgoing → Type 0
AreWritten written u = (id : ℕ) (s : Send) → u.halves id ≡ Some s → HoldsWritten (written id) s

-- the STREAM frame that carries written bytes
abbrev pub frame_with : (ℕ → List ℕ) → StreamMeta → Frame
frame_with written m = stream_of m (between (written m.id) m.offsets.start m.offsets.end)

-- its spelling, with a length or without
abbrev pub spelling : (ℕ → List ℕ) → Bool → StreamMeta → List ℕ
spelling written with_length m = meta_text m with_length ++ between (written m.id) m.offsets.start m.offsets.end

-- the spellings of frames with their lengths, joined
abbrev pub spellings : (ℕ → List ℕ) → List StreamMeta → List ℕ
spellings written [] = []
spellings written (m ∷ ms) = spelling written true m ++ spellings written ms

-- all frames but the last have a length
pub record LacksLastLength (written : ℕ → List ℕ) (frames : List StreamMeta) (text : List ℕ) : Type 0 where
  pub before : List StreamMeta
  pub last : StreamMeta
  pub are : frames ≡ before ++ last ∷ []
  pub spelled : text ≡ spellings written before ++ spelling written false last

-- the frames that were handed back are appended with the written bytes as their data: they can be read again, they do not
-- pass the greatest size of the payload and, where the last one has no length, they reach it
pub record AppendsFrames (written : ℕ → List ℕ) (most : ℕ) (a b : Writer) : Type 0 where
  pub frames : List StreamMeta
  pub text : List ℕ
  pub sent : b.sent ≡ a.sent ++ frames
  pub bytes : b.bytes ≡ a.bytes ++ text
  pub spelled : (text ≡ spellings written frames) ⊎ (LacksLastLength written frames text × (length b.bytes ≡ most))
  pub decodes : AreFrames text (map (frame_with written) frames)
  pub within : length a.bytes ≤ most → length b.bytes ≤ most
  pub kept : AreWritten written b.streams
