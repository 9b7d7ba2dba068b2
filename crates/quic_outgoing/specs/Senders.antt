-- The send halves of a connection's streams, by the ids of their streams.
use Rattle.std.specs.Prelude.{nat_le, ◌+◌, ℕ, ◌==◌, ◌&&◌, Bool, true, false, [], max, nat_lt, pos, if◌then◌else◌, Option, Some, None}
use Rattle.std.specs.Option.{option_map}
use Rattle.quic_values.specs.declared.ids.Side.{Side}
use Rattle.quic_values.specs.declared.ids.Side.TheVariants.{Client, Server}
use Rattle.quic_values.specs.declared.ids.Dir.{Dir}
use Rattle.quic_values.specs.declared.ids.Dir.TheVariants.{Bi, Uni}
use Rattle.quic_values.specs.Ids.{stream_id, other_side, initiator_of, dir_of, index_of}
use Rattle.quic_sending.specs.declared.send.Send.{Send}
use Rattle.quic_sending.specs.declared.send.SendState.TheVariants.{Ready}
use Rattle.quic_outgoing.specs.declared.entries.FirstLimits.{FirstLimits}

-- the half of each stream that has one
abbrev pub SendersById : Type 0
SendersById = ℕ → Option Send

-- a half's value without the room for further pieces, on which no answer depends
abbrev pub bare : Send → Send
bare s = record s { pending = record s.pending { room = 0 } }

-- a half to which nothing was written, with a limit
abbrev pub new_sender : ℕ → Send
new_sender limit = record {
  max_data = limit;
  state = Ready;
  pending = record { offset = 0; unsent = 0; prefix = 0; later = []; lost = []; held = []; gone = 0; room = 0 };
  priority = pos 0;
  fin_pending = false;
  connection_blocked = false;
  data_blocked_limit = None;
  stop_reason = None;
}

-- a half whose limit is at least this one
abbrev pub raised : ℕ → Send → Send
raised limit s = record s { max_data = max s.max_data limit }

-- another half, or none, at one id
unfoldable pub with_sender : SendersById → ℕ → Option Send → SendersById
with_sender f id o = λ q. if q == id then o else f q

-- whether two ends are one
abbrev pub are_one_end : Side → Side → Bool
are_one_end Client Client = true
are_one_end Client Server = false
are_one_end Server Client = false
are_one_end Server Server = true

-- whether an end opens the stream with this id itself
abbrev pub is_local : Side → ℕ → Bool
is_local side id = are_one_end side (initiator_of id)

-- the limit that streams of a direction begin with, those of this end or those of its peer
abbrev pub first_for : Bool → Dir → FirstLimits → ℕ
first_for local Uni l = l.uni
first_for true Bi l = l.own_bi
first_for false Bi l = l.peer_bi

-- the limit that a stream begins with
abbrev pub first_limit : Side → FirstLimits → ℕ → ℕ
first_limit side l id = first_for (is_local side id) (dir_of id) l

-- no limit was given
abbrev pub no_limits : FirstLimits
no_limits = record { uni = 0; own_bi = 0; peer_bi = 0 }

-- the greater one of each limit
abbrev pub joined : FirstLimits → FirstLimits → FirstLimits
joined a b = record { uni = max a.uni b.uni; own_bi = max a.own_bi b.own_bi; peer_bi = max a.peer_bi b.peer_bi }

-- each half has at least the limit that its stream begins with by these
unfoldable pub raised_by : Side → FirstLimits → SendersById → SendersById
raised_by side l f = λ q. option_map (raised (first_limit side l q)) (f q)

-- whether an id is one of so many streams of an initiator and a direction, from an index on
abbrev pub is_between : Side → Dir → ℕ → ℕ → ℕ → Bool
is_between initiator dir first count id = (id == stream_id initiator dir (index_of id)) && (nat_le first (index_of id) && nat_lt (index_of id) (first + count))

-- new halves at so many bidirectional streams of the peer, from an index on
unfoldable pub with_more_of_peer : SendersById → Side → FirstLimits → ℕ → ℕ → SendersById
with_more_of_peer f side l first count = λ q. if is_between (other_side side) Bi first count q then Some (new_sender (first_limit side l q)) else f q
