-- What is written of what is to be sent: it leaves what is pending, and is noted as sent.
use Rattle.std.specs.Prelude.{◌≡◌, ℕ, ◌+◌, Bool, true, false, not, ◌==◌, ◌&&◌, vec_len, slice_index_or, if◌then◌else◌, List, [], ◌∷◌, ◌++◌, Option, Some, None, unwrap_or}
use Rattle.quic_values.specs.declared.ids.Dir.{Dir}
use Rattle.quic_values.specs.declared.ids.Dir.TheVariants.{Bi, Uni}
use Rattle.quic_wire.specs.declared.frame.Frame.{Frame}
use Rattle.quic_wire.specs.declared.frame.Frame.TheVariants as frames
use Rattle.quic_retransmits.specs.declared.retransmits.Retransmits.{Retransmits}
use Rattle.quic_retransmits.specs.declared.retransmits.ThinRetransmits.{ThinRetransmits}
use Rattle.quic_retransmits.specs.Pending.{Pending, nothing, thin_view}
use Rattle.quic_retransmits.specs.Ids.{id_entries}
use Rattle.quic_retransmits.specs.Queueing.{with_id}

-- a frame was sent: what is to be sent again where it is lost. Frames of other kinds are noted elsewhere, or nowhere
abbrev pub noted : Pending → Frame → Pending
noted p (frames.ResetStream f) = record p { reset_stream = p.reset_stream ++ (f.id, f.error_code) ∷ [] }
noted p (frames.StopSending f) = record p { stop_sending = p.stop_sending ++ f ∷ [] }
noted p (frames.MaxData limit) = record p { max_data = true }
noted p (frames.MaxStreamData id limit) = record p { max_stream_data = with_id p.max_stream_data id true }
noted p (frames.MaxStreams Bi count) = record p { max_streams_bi = true }
noted p (frames.MaxStreams Uni count) = record p { max_streams_uni = true }
noted p (frames.DataBlocked limit) = record p { data_blocked = true }
noted p (frames.StreamDataBlocked id limit) = record p { stream_data_blocked = with_id p.stream_data_blocked id true }
noted p _ = p

-- what was noted so far
abbrev pub noted_in : ThinRetransmits → Pending
noted_in t = unwrap_or (thin_view t) nothing

-- a set without an id
abbrev pub without_id : (ℕ → Bool) → ℕ → ℕ → Bool
without_id ids id = λ q. ids q && not (q == id)

-- the last of a list, if there is one
abbrev pub IsLastIn : {T : Type 0} → List T → Option T → Type 0
IsLastIn xs None = xs ≡ []
IsLastIn {T} xs (Some x) = (front : List T) × (xs ≡ front ++ x ∷ [])

-- some id of a set, if there is one
abbrev pub IsSomeIn : (ℕ → Bool) → Option ℕ → Type 0
IsSomeIn ids None = (q : ℕ) → ids q ≡ false
IsSomeIn ids (Some id) = ids id ≡ true

-- 1 where a flag is set
abbrev pub one_if : Bool → ℕ
one_if b = if b then 1 else 0

-- how many entries are pending of the kinds that are written one after another
abbrev pub entry_count : Retransmits → ℕ
entry_count r = vec_len r.reset_stream + vec_len r.stop_sending + id_entries r.max_stream_data + id_entries r.stream_data_blocked
    + one_if r.max_data + one_if r.data_blocked + one_if (slice_index_or r.max_stream_id 0 false) + one_if (slice_index_or r.max_stream_id 1 false)

-- whether MAX_STREAMS of a direction is pending
abbrev pub max_streams_in : Pending → Dir → Bool
max_streams_in p Bi = p.max_streams_bi
max_streams_in p Uni = p.max_streams_uni

abbrev pub without_max_streams : Pending → Dir → Pending
without_max_streams p Bi = record p { max_streams_bi = false }
without_max_streams p Uni = record p { max_streams_uni = false }
