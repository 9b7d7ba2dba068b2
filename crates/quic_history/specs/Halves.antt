-- The receive halves of a connection, by the ids of their streams.
use Rattle.std.specs.Prelude.{ℕ, Bool, false, ◌==◌, ◌≡◌, Option, Some, None, Result, Ok, Err, true, ◌&&◌, ◌+◌, nat_le, nat_lt, if◌then◌else◌}
use Rattle.std.specs.Option.{option_map}
use Rattle.quic_values.specs.declared.ids.Side.{Side}
use Rattle.quic_values.specs.declared.ids.Dir.{Dir}
use Rattle.quic_values.specs.Ids.{stream_id, index_of}
use Rattle.std.specs.HashMap.{get, spare}
use Rattle.quic_outgoing.specs.Senders.{is_between}
use Rattle.std.specs.Global.{Box}
use Rattle.quic_sending.specs.declared.send.ClosedStream.{ClosedStream}
use Rattle.quic_receiving.specs.Half.{Half, new_half, is_window_due}

-- the half of each stream that has one
abbrev pub Halves : Type 0
Halves = ℕ → Option Half

-- another half, or none, at one id
unfoldable pub with_half : Halves → ℕ → Option Half → Halves
with_half f id o = λ q. if q == id then o else f q

-- the half was taken out, and a new one is in its place
abbrev pub taken : Halves → ℕ → ℕ → Option Half → Halves
taken f id window None = f
taken f id window (Some h) = with_half f id (Some (new_half window))

-- whether MAX_STREAM_DATA is worth a frame on a stream with this half
abbrev pub is_due_in : ℕ → Option Half → Bool
is_due_in window None = false
is_due_in window (Some h) = is_window_due h window

-- the code of a reset is told, but not of a stream that is stopped, or not there
abbrev pub TellsCode : Option Half → Result (Option ℕ) ClosedStream → Type 0
TellsCode None (Ok code) = ⊥
TellsCode None (Err e) = Unit {0}
TellsCode (Some h) (Ok code) = (h.stopped ≡ false) × (code ≡ h.reset)
TellsCode (Some h) (Err e) = h.stopped ≡ true

-- whether an id is one of the first so many streams of an initiator and a direction
abbrev pub is_among : Side → Dir → ℕ → ℕ → Bool
is_among initiator dir count id = (id == stream_id initiator dir (index_of id)) && nat_lt (index_of id) count

-- the same half at each of the first so many streams
unfoldable pub with_first : Halves → Side → Dir → ℕ → Option Half → Halves
with_first f initiator dir count o = λ id. if is_among initiator dir count id then o else f id

-- the same half at each of so many streams of an initiator and a direction, from an index on
unfoldable pub with_more : Halves → Side → Dir → ℕ → ℕ → Option Half → Halves
with_more f initiator dir first count o = λ id. if is_between initiator dir first count id then o else f id
