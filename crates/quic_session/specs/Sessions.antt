-- A session as contracts see it.
use Rattle.std.specs.Prelude.{ℕ, Bool, true, false, ◌&&◌, not, List, [], ◌∷◌, drop, Option, Some, None}
use Rattle.quic_datagrams.specs.declared.datagrams.DatagramState.{DatagramState}
use Rattle.quic_datagrams.specs.declared.datagrams.DatagramLimits.{DatagramLimits}
use Rattle.quic_datagrams.specs.Sending.{after_drop, has_unblocked}
use Rattle.quic_wire.specs.declared.frame.Datagram.{Datagram}
use Rattle.quic_streams.specs.declared.streams.ConnState.{ConnState}
use Rattle.quic_endpoint.specs.Shown.{endpoint_view}
use Rattle.quic_endpoint.specs.Ends.{EndState}
use Rattle.quic_session.specs.declared.unsettled.Unsettled.{Unsettled}
use Rattle.quic_session.specs.declared.session.Session.{Session}
use Rattle.quic_session.specs.declared.counts.Counts.{Counts}
use Rattle.quic_session.specs.declared.datagrams.DatagramEvent.{DatagramEvent}
use Rattle.quic_session.specs.declared.datagrams.DatagramEvent.TheVariants as datagram_event
use Rattle.quic_session.specs.Counts.{counts_of}

-- the end of the connection
abbrev pub end_of : Session → EndState
end_of s = endpoint_view s.endpoint

-- datagrams: those that wait, at either side
-- limits: what is permitted of them
-- told_received: that nothing is to be told of a received one
-- told_room: that nothing is to be told of room for one to be sent
pub record Datagrams : Type 0 where
  pub state : DatagramState
  pub limits : DatagramLimits
  pub told_received : Bool
  pub told_room : Bool

abbrev pub datagrams_view : Session → Datagrams
datagrams_view s = record { state = s.datagrams; limits = s.limits; told_received = s.told_received; told_room = s.told_room }

-- what stands beside the end
-- conn: whether the connection is open
-- datagrams: the datagrams
-- unsettled: the payloads that were sent and not heard of
-- counts: what was counted
pub record Beside : Type 0 where
  pub conn : ConnState
  pub datagrams : Datagrams
  pub unsettled : Unsettled
  pub counts : Counts

abbrev pub beside_of : Session → Beside
beside_of s = record { conn = s.conn; datagrams = datagrams_view s; unsettled = s.unsettled; counts = counts_of s }

abbrev pub with_datagrams : Beside → Datagrams → Beside
with_datagrams b d = record b { datagrams = d }

abbrev pub with_counts : Beside → Counts → Beside
with_counts b c = record b { counts = c }

-- no datagrams, under limits
abbrev pub no_datagrams : DatagramLimits → Datagrams
no_datagrams limits = record { state = record { incoming = []; outgoing = []; send_blocked = false }; limits = limits; told_received = true; told_room = true }

-- the bytes of the oldest datagram of a queue, if one waits
abbrev pub oldest_received : List Datagram → Option (List ℕ)
oldest_received [] = None
oldest_received (oldest ∷ others) = Some oldest.bytes

-- it was read
abbrev pub without_oldest : Datagrams → Datagrams
without_oldest d = record d { state = record d.state { incoming = drop 1 d.state.incoming } }

-- another greatest length: what waits to be sent and is longer goes, and a blocked sender is told
abbrev pub with_max : Datagrams → Option ℕ → Datagrams
with_max d max = record d {
  state = after_drop max d.state;
  limits = record d.limits { max = max };
  told_room = d.told_room && not (has_unblocked max d.state);
}

-- what is to be told next, that a datagram came before that there is room for one
abbrev pub next_told : Datagrams → Option DatagramEvent
next_told d = by_flags d.told_received d.told_room
  where
    by_flags : Bool → Bool → Option DatagramEvent
    by_flags false room = Some datagram_event.Received
    by_flags true false = Some datagram_event.Unblocked
    by_flags true true = None

-- and it was told
abbrev pub with_told : Datagrams → Datagrams
with_told d = by_flags d.told_received d.told_room
  where
    by_flags : Bool → Bool → Datagrams
    by_flags false room = record d { told_received = true }
    by_flags true false = record d { told_room = true }
    by_flags true true = d
