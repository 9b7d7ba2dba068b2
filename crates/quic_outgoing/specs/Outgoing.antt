-- The sending side of a connection's streams, as contracts see it.
use Rattle.std.specs.Prelude.{ℕ, zero, suc, Bool, true, ◌==◌, List, [], ◌∷◌, ◌++◌, Option, Some, None, if◌then◌else◌}
use Rattle.quic_values.specs.declared.ids.Side.{Side}
use Rattle.quic_values.specs.declared.ids.Dir.{Dir}
use Rattle.quic_values.specs.declared.ids.Dir.TheVariants.{Bi, Uni}
use Rattle.quic_values.specs.Ids.{stream_id}
use Rattle.quic_limits.specs.Own.{Own, no_own, with_count}
use Rattle.quic_limits.specs.SendingCredit.{SendingCredit, no_credit, with_limit, writable}
use Rattle.quic_sending.specs.declared.send.Send.{Send}
use Rattle.quic_outgoing.specs.declared.entries.FirstLimits.{FirstLimits}
use Rattle.quic_outgoing.specs.declared.limits.PeerLimits.{PeerLimits}
use Rattle.quic_outgoing.specs.Senders.{SendersById, with_sender, new_sender, first_limit, no_limits, joined, raised_by, with_more_of_peer}

-- side: which end this is
-- own_bi, own_uni: the streams that it may open itself
-- budget: how many bytes may be sent on all streams together, and how many were
-- first: the limits that streams begin with
-- halves: the send half of a stream, if one is held
-- blocked: the streams that wait until something may be written; the last one is told of first
pub record Outgoing : Type 0 where
  pub side : Side
  pub own_bi : Own
  pub own_uni : Own
  pub budget : SendingCredit
  pub first : FirstLimits
  pub halves : SendersById
  pub blocked : List ℕ

-- nothing is open, and nothing may be sent
abbrev pub no_streams : Side → ℕ → Outgoing
no_streams side send_window = record {
  side = side;
  own_bi = no_own;
  own_uni = no_own;
  budget = no_credit send_window;
  first = no_limits;
  halves = λ id. None;
  blocked = [];
}

-- another half, or none, of a stream
abbrev pub with_send_half : Outgoing → ℕ → Option Send → Outgoing
with_send_half u id o = record u { halves = with_sender u.halves id o }

-- the half of a stream that is permitted or opened now
abbrev pub fresh_sender : Outgoing → ℕ → Send
fresh_sender u id = new_sender (first_limit u.side u.first id)

-- the streams of a direction that this end may open
abbrev pub own_of : Outgoing → Dir → Own
own_of u Bi = u.own_bi
own_of u Uni = u.own_uni

abbrev pub with_own : Outgoing → Dir → Own → Outgoing
with_own u Bi o = record u { own_bi = o }
with_own u Uni o = record u { own_uni = o }

-- the ids of the first so many streams of an end and a direction
abbrev pub first_ids : Side → Dir → ℕ → List ℕ
first_ids side d zero = []
first_ids side d (suc n) = first_ids side d n ++ stream_id side d n ∷ []

-- those of all streams that this end opened, bidirectional ones first
abbrev pub own_ids : Outgoing → List ℕ
own_ids o = first_ids o.side Bi o.own_bi.opened ++ first_ids o.side Uni o.own_uni.opened

-- the limits that streams begin with by what the peer gave
abbrev pub first_of : PeerLimits → FirstLimits
first_of p = record {
  uni = p.initial_max_stream_data_uni;
  own_bi = p.initial_max_stream_data_bidi_remote;
  peer_bi = p.initial_max_stream_data_bidi_local;
}

-- the peer gave its limits: each counts that is above what was held
abbrev pub with_params : Outgoing → PeerLimits → Outgoing
with_params u p = record u {
  own_bi = with_count u.own_bi p.initial_max_streams_bidi;
  own_uni = with_count u.own_uni p.initial_max_streams_uni;
  budget = with_limit u.budget p.initial_max_data;
  first = joined u.first (first_of p);
  halves = raised_by u.side (first_of p) u.halves;
}

-- nothing may be written on any stream
abbrev pub is_stuck : Outgoing → Bool
is_stuck u = writable u.budget == 0

-- a half that is on the list of those that wait, or that is not
abbrev pub marked : Bool → Send → Send
marked b s = record s { connection_blocked = b }

-- a stream waits with this half, unless it does already
abbrev pub waiting : Outgoing → ℕ → Send → Outgoing
waiting u id s = if s.connection_blocked then with_send_half u id (Some s) else record (with_send_half u id (Some (marked true s))) { blocked = u.blocked ++ id ∷ [] }

-- so many more bidirectional streams of the peer are permitted, from an index on
abbrev pub with_more_streams : Outgoing → ℕ → ℕ → Outgoing
with_more_streams u first count = record u { halves = with_more_of_peer u.halves u.side u.first first count }
