-- What calls queue to be sent, and the room for it.
use Rattle.std.specs.Prelude.{ℕ, Bool, ◌-◌, ◌==◌, ◌&&◌, ◌||◌, vec_len, if◌then◌else◌, List, [], ◌∷◌, ◌++◌}
use Rattle.std.specs.Vec.{vec_capacity}
use Rattle.quic_wire.specs.declared.frame.StopSending.{StopSending}
use Rattle.quic_retransmits.specs.Ids.{id_places}
use Rattle.quic_retransmits.specs.declared.retransmits.Retransmits.{Retransmits}

-- a set of ids, with one more where that is due
abbrev pub with_id : (ℕ → Bool) → ℕ → Bool → ℕ → Bool
with_id ids id due = λ q. ids q || (due && (q == id))

-- a list of STOP_SENDING frames, with one more where that is due
abbrev pub with_stop_sending : List StopSending → ℕ → ℕ → Bool → List StopSending
with_stop_sending frames id code due = if due then frames ++ record { id = id; error_code = code } ∷ [] else frames

-- how many places there are for an id to be queued for MAX_STREAM_DATA
abbrev pub window_rooms : Retransmits → ℕ → ℕ
window_rooms r id = id_places r.max_stream_data id

-- how many more STOP_SENDING frames can be queued without new memory
abbrev pub stop_rooms : Retransmits → ℕ
stop_rooms r = vec_capacity r.stop_sending - vec_len r.stop_sending

-- a list of RESET_STREAM frames, with one more
abbrev pub with_reset_stream : List (ℕ × ℕ) → ℕ → ℕ → List (ℕ × ℕ)
with_reset_stream frames id code = frames ++ (id, code) ∷ []

-- how many places there are for an id to be queued for STREAM_DATA_BLOCKED
abbrev pub blocked_rooms : Retransmits → ℕ → ℕ
blocked_rooms r id = id_places r.stream_data_blocked id

-- how many more RESET_STREAM frames can be queued without new memory
abbrev pub reset_rooms : Retransmits → ℕ
reset_rooms r = vec_capacity r.reset_stream - vec_len r.reset_stream
