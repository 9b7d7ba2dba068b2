-- Room that was made before a call that takes no memory.
use Rattle.std.specs.Prelude.{ℕ, ◌<◌, min}
use Rattle.std.specs.VecDeque.{deque_len, deque_capacity}
use Rattle.quic_streams.specs.declared.state.StreamsState.{StreamsState}
use Rattle.quic_streams.specs.Held.{room}
use Rattle.quic_outgoing.specs.Shown.{permit_room}

-- how many streams can be permitted without new memory
unfoldable pub rooms : StreamsState → ℕ
rooms s = min (room s.receive) (permit_room s.outgoing)

-- there is room for one more event
unfoldable pub HasEventRoom : StreamsState → Type 0
HasEventRoom s = deque_len s.events < deque_capacity s.events
