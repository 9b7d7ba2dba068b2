-- What the lines of a session spell, field by field. Fields are parted by single spaces.
use Rattle.std.specs.Prelude.{◌≡◌, ◌==◌, ◌<◌, ◌≤◌, ◌^◌, ℕ, FitsSigned, Bool, true, false, List, [], ◌∷◌, codes, map}
use Rattle.std.specs.Int.{w32}
use Rattle.std.specs.Fmt.{decimal, signed_decimal}
use Rattle.std.specs.List.{join_with_byte, slice_split}
use Rattle.quic_outgoing.specs.declared.limits.PeerLimits.{PeerLimits}
use Rattle.quic_steps.specs.declared.steps.Config.{Config}
use Rattle.quic_steps.specs.declared.steps.End.{End}
use Rattle.quic_steps.specs.declared.steps.End.TheVariants.{A, B}
use Rattle.quic_steps.specs.declared.steps.PayloadPart.{PayloadPart}
use Rattle.quic_steps.specs.declared.steps.PayloadPart.TheVariants.{Control, Streams}
use Rattle.quic_steps.specs.declared.steps.Step.{Step}
use Rattle.quic_steps.specs.declared.steps.Step.TheVariants as steps
use Rattle.hex.specs.Hex.{IsBytes}
use Rattle.quic_lines.specs.Field.{hex_form, AreChunks}
use Rattle.quic_lines.specs.Line.{direction_text}

abbrev pub end_text : End → List ℕ
end_text A = codes "a"
end_text B = codes "b"

-- the first letter, or the second
abbrev pub letter_text : List ℕ → List ℕ → Bool → List ℕ
letter_text first second true = first
letter_text first second false = second

abbrev pub mode_text : Bool → List ℕ
mode_text ordered = letter_text (codes "o") (codes "u") ordered

abbrev pub fairness_text : Bool → List ℕ
fairness_text fair = letter_text (codes "f") (codes "u") fair

abbrev pub part_text : PayloadPart → List ℕ
part_text Control = codes "control"
part_text Streams = codes "streams"

abbrev pub step_fields : Step → List (List ℕ)
step_fields (steps.Open who dir) = codes "open" ∷ end_text who ∷ direction_text dir ∷ []
step_fields (steps.Accept who dir) = codes "accept" ∷ end_text who ∷ direction_text dir ∷ []
step_fields (steps.Write who id bytes) = codes "write" ∷ end_text who ∷ decimal id ∷ hex_form bytes ∷ []
step_fields (steps.WriteChunks who id chunks) = codes "chunks" ∷ end_text who ∷ decimal id ∷ join_with_byte 44 (map hex_form chunks) ∷ []
step_fields (steps.Finish who id) = codes "finish" ∷ end_text who ∷ decimal id ∷ []
step_fields (steps.Reset who id code) = codes "reset" ∷ end_text who ∷ decimal id ∷ decimal code ∷ []
step_fields (steps.Stop who id code) = codes "stop" ∷ end_text who ∷ decimal id ∷ decimal code ∷ []
step_fields (steps.SetPriority who id priority) = codes "priority" ∷ end_text who ∷ decimal id ∷ signed_decimal priority ∷ []
step_fields (steps.Read who id ordered max times) = codes "read" ∷ end_text who ∷ decimal id ∷ mode_text ordered ∷ decimal max ∷ decimal times ∷ []
step_fields (steps.ReceivedReset who id) = codes "received-reset" ∷ end_text who ∷ decimal id ∷ []
step_fields (steps.SetSendWindow who window) = codes "send-window" ∷ end_text who ∷ decimal window ∷ []
step_fields (steps.SetReceiveWindow who window) = codes "receive-window" ∷ end_text who ∷ decimal window ∷ []
step_fields (steps.SetMaxConcurrent who dir count) = codes "max-concurrent" ∷ end_text who ∷ direction_text dir ∷ decimal count ∷ []
step_fields (steps.Poll who) = codes "poll" ∷ end_text who ∷ []
step_fields (steps.Emit who max_size fair) = codes "emit" ∷ end_text who ∷ decimal max_size ∷ fairness_text fair ∷ []
step_fields (steps.EmitPart who max_size fair part) = codes "emit-part" ∷ end_text who ∷ decimal max_size ∷ fairness_text fair ∷ part_text part ∷ []
step_fields (steps.Deliver payload frame) = codes "deliver" ∷ decimal payload ∷ decimal frame ∷ []
step_fields (steps.Lose payload) = codes "lose" ∷ decimal payload ∷ []
step_fields (steps.Ack payload) = codes "ack" ∷ decimal payload ∷ []
step_fields steps.EarlyAccept = codes "early-accept" ∷ []
step_fields steps.EarlyReject = codes "early-reject" ∷ []
step_fields steps.Retry = codes "retry" ∷ []

-- the numbers of a step lie in the ranges of its fields: a read asks for 1 to 65535 chunks, a limit of streams is at most 2^60, and chunks to write are one or more
abbrev pub IsInRange : Step → Type 0
IsInRange (steps.Open who dir) = Unit {0}
IsInRange (steps.Accept who dir) = Unit {0}
IsInRange (steps.Write who id bytes) = (id < 2 ^ 62) × IsBytes bytes
IsInRange (steps.WriteChunks who id chunks) = (id < 2 ^ 62) × AreChunks chunks
IsInRange (steps.Finish who id) = id < 2 ^ 62
IsInRange (steps.Reset who id code) = (id < 2 ^ 62) × (code < 2 ^ 62)
IsInRange (steps.Stop who id code) = (id < 2 ^ 62) × (code < 2 ^ 62)
IsInRange (steps.SetPriority who id priority) = (id < 2 ^ 62) × FitsSigned w32 priority
IsInRange (steps.Read who id ordered max times) = (id < 2 ^ 62) × (max < 2 ^ 64) × (0 < times) × (times ≤ 65535)
IsInRange (steps.ReceivedReset who id) = id < 2 ^ 62
IsInRange (steps.SetSendWindow who window) = window < 2 ^ 64
IsInRange (steps.SetReceiveWindow who window) = window < 2 ^ 62
IsInRange (steps.SetMaxConcurrent who dir count) = count ≤ 2 ^ 60
IsInRange (steps.Poll who) = Unit {0}
IsInRange (steps.Emit who max_size fair) = max_size < 2 ^ 64
IsInRange (steps.EmitPart who max_size fair part) = max_size < 2 ^ 64
IsInRange (steps.Deliver payload frame) = (payload < 2 ^ 64) × (frame < 2 ^ 64)
IsInRange (steps.Lose payload) = payload < 2 ^ 64
IsInRange (steps.Ack payload) = payload < 2 ^ 64
IsInRange steps.EarlyAccept = Unit {0}
IsInRange steps.EarlyReject = Unit {0}
IsInRange steps.Retry = Unit {0}

abbrev pub IsConfigInRange : Config → Type 0
IsConfigInRange c = (c.max_remote_uni ≤ 2 ^ 60) × (c.max_remote_bi ≤ 2 ^ 60) × (c.send_window < 2 ^ 64) × (c.receive_window < 2 ^ 62) × (c.stream_receive_window < 2 ^ 62)

abbrev pub limit_fields : Config → List (List ℕ)
limit_fields c = decimal c.max_remote_uni ∷ decimal c.max_remote_bi ∷ decimal c.send_window ∷ decimal c.receive_window ∷ decimal c.stream_receive_window ∷ []

abbrev pub config_fields : End → Config → List (List ℕ)
config_fields who c = codes "config" ∷ end_text who ∷ limit_fields c

-- the limits of the server that the client remembers: the connection's, counts, and those of streams
abbrev pub IsEarlyInRange : PeerLimits → Type 0
IsEarlyInRange l = (l.initial_max_data < 2 ^ 62) × (l.initial_max_streams_bidi ≤ 2 ^ 60) × (l.initial_max_streams_uni ≤ 2 ^ 60)
    × (l.initial_max_stream_data_uni < 2 ^ 62) × (l.initial_max_stream_data_bidi_local < 2 ^ 62) × (l.initial_max_stream_data_bidi_remote < 2 ^ 62)

abbrev pub remembered_fields : PeerLimits → List (List ℕ)
remembered_fields l = decimal l.initial_max_data ∷ decimal l.initial_max_streams_bidi ∷ decimal l.initial_max_streams_uni
    ∷ decimal l.initial_max_stream_data_uni ∷ decimal l.initial_max_stream_data_bidi_local ∷ decimal l.initial_max_stream_data_bidi_remote ∷ []

abbrev pub early_fields : PeerLimits → List (List ℕ)
early_fields l = codes "early" ∷ codes "a" ∷ remembered_fields l

-- fields with a space between each two, and so the line of a step
abbrev pub spaced : List (List ℕ) → List ℕ
spaced fields = join_with_byte 32 fields

abbrev pub step_text : Step → List ℕ
step_text step = spaced (step_fields step)

-- the fields of a line
abbrev pub fields_of : List ℕ → List (List ℕ)
fields_of line = slice_split (λ b. b == 32) line

-- a line means this step, or this config of an end
abbrev pub MeansStep : List ℕ → Step → Type 0
MeansStep line step = fields_of line ≡ step_fields step

-- a line asks for a settling
abbrev pub MeansSettle : List ℕ → Type 0
MeansSettle line = line ≡ codes "settle"

-- a line hands in the payload of this number whole, or none
abbrev pub MeansWhole : List ℕ → ℕ → Type 0
MeansWhole line payload = line ≡ spaced (codes "deliver-all" ∷ decimal payload ∷ [])

abbrev pub MeansNoWhole : List ℕ → Type 0
MeansNoWhole line = (payload : ℕ) → payload < 2 ^ 64 → MeansWhole line payload → ⊥

abbrev pub MeansConfig : List ℕ → End → Config → Type 0
MeansConfig line who config = fields_of line ≡ config_fields who config

-- a line has the client remember these limits, or none
abbrev pub MeansEarly : List ℕ → PeerLimits → Type 0
MeansEarly line limits = fields_of line ≡ early_fields limits

abbrev pub MeansNoEarly : List ℕ → Type 0
MeansNoEarly line = (limits : PeerLimits) → IsEarlyInRange limits → MeansEarly line limits → ⊥

-- no step has these fields
abbrev pub SpellsNoStep : List (List ℕ) → Type 0
SpellsNoStep fields = (step : Step) → IsInRange step → fields ≡ step_fields step → ⊥

-- a line means no step, or no config of this end
abbrev pub MeansNoStep : List ℕ → Type 0
MeansNoStep line = (step : Step) → IsInRange step → MeansStep line step → ⊥

abbrev pub MeansNoConfig : List ℕ → End → Type 0
MeansNoConfig line who = (config : Config) → IsConfigInRange config → MeansConfig line who config → ⊥
