-- The streams of one end of a connection, as contracts see them.
use Rattle.std.specs.Prelude.{ℕ, Bool, true, false, ◌≡◌, ◌+◌, ◌-◌, ◌^◌, ◌≤◌, ◌<◌, min, nat_le, if◌then◌else◌, List, [], ◌∷◌, ◌++◌, Option, Some, None, is_some}
use Rattle.quic_values.specs.declared.ids.Side.{Side}
use Rattle.quic_values.specs.declared.ids.Side.TheVariants.{Client, Server}
use Rattle.quic_values.specs.declared.ids.Dir.{Dir}
use Rattle.quic_values.specs.declared.ids.Dir.TheVariants.{Bi, Uni}
use Rattle.quic_values.specs.Ids.{other_side, stream_id, initiator_of, dir_of, index_of}
use Rattle.quic_wire.specs.declared.event.StreamEvent.{StreamEvent}
use Rattle.quic_wire.specs.declared.event.StreamEvent.TheVariants as stream_event
use Rattle.quic_wire.specs.Codes.{STREAM_LIMIT_ERROR, STREAM_STATE_ERROR}
use Rattle.quic_limits.specs.Credit.{Credit, new_credit, credited, counted, resized}
use Rattle.quic_limits.specs.Remote.{Remote, new_remote, replaced, replacement, opened_up_to}
use Rattle.quic_receiving.specs.Half.{Half, new_half}
use Rattle.quic_history.specs.Halves.{Halves, with_half, with_first}
use Rattle.quic_queue.specs.SendOrder.{SendOrder, empty_queue}
use Rattle.quic_outgoing.specs.Outgoing.{Outgoing, no_streams, with_send_half, with_more_streams, fresh_sender}

-- credit: for the data of all streams together
-- bi, uni: the streams that the peer may open
-- out: which end this is, and its sending side: the streams that it opened, the send halves, and how much may be sent
-- queue: the streams on which something is to be sent
-- receive: the receive half of a stream, if one is held
-- window: the first limit of each stream
-- events: what the application was not told yet
-- send_streams: how many send halves are held of the streams that this end opened or accepted
-- adjusted: whether it was set how many streams the peer is to be able to use at a time
pub record World : Type 0 where
  pub credit : Credit
  pub bi : Remote
  pub uni : Remote
  pub out : Outgoing
  pub queue : SendOrder
  pub receive : Halves
  pub window : ℕ
  pub events : List StreamEvent
  pub send_streams : ℕ
  pub adjusted : Bool

-- what an end is made with: which end it is, the streams of each direction that the peer may open, the send window, the
-- credit for the data of all streams together, the first limit of each stream, and whether it was set how many streams the
-- peer is to be able to use at a time
pub record Made : Type 0 where
  pub side : Side
  pub uni : Remote
  pub bi : Remote
  pub send_window : ℕ
  pub credit : Credit
  pub window : ℕ
  pub adjusted : Bool

-- with so many streams, and with these windows of sending, of receiving, and of receiving on one stream
abbrev pub made_with : Side → ℕ → ℕ → ℕ → ℕ → ℕ → Made
made_with side uni bi send_window receive_window window = record {
  side = side;
  uni = new_remote uni;
  bi = new_remote bi;
  send_window = send_window;
  credit = new_credit receive_window;
  window = window;
  adjusted = false;
}

-- with what an end holds that is not of its own streams
abbrev pub made_again : World → Made
made_again w = record {
  side = w.out.side;
  uni = w.uni;
  bi = w.bi;
  send_window = w.out.budget.send_window;
  credit = w.credit;
  window = w.window;
  adjusted = w.adjusted;
}

-- the peer of an end that is made like n may send and open no less than that of one that is made like m
pub record PermitsNoLess (m n : Made) : Type 0 where
  pub side : n.side ≡ m.side
  pub limit : m.credit.local_max_data ≤ n.credit.local_max_data
  pub uni : m.uni.max_remote ≤ n.uni.max_remote
  pub bi : m.bi.max_remote ≤ n.bi.max_remote
  pub window : n.window ≡ m.window

-- how an end begins: the streams that the peer may open have new halves
abbrev pub start : Made → World
start m = record {
  credit = m.credit;
  bi = m.bi;
  uni = m.uni;
  out = with_more_streams (no_streams m.side m.send_window) 0 m.bi.max_remote;
  queue = empty_queue;
  receive = with_first (with_first (λ id. None) (other_side m.side) Bi m.bi.max_remote (Some (new_half m.window))) (other_side m.side) Uni m.uni.max_remote (Some (new_half m.window));
  window = m.window;
  events = [];
  send_streams = 0;
  adjusted = m.adjusted;
}

-- a credit of which nothing was used: no data came, and the limit is the window and the debt
pub record IsUnusedCredit (c : Credit) : Type 0 where
  pub received : c.data_recvd ≡ 0
  pub limit : c.local_max_data ≡ min (c.receive_window + c.shrink_debt) (2 ^ 64 - 1)
  pub debt_fits : c.shrink_debt < 2 ^ 64

-- streams of the peer of which none was opened: it may use all that it may open, which are as many as it is to be able to
-- use at a time, or more
pub record IsUnusedRemote (r : Remote) : Type 0 where
  pub next : r.next_remote ≡ 0
  pub reported : r.next_reported ≡ 0
  pub told : r.opened ≡ false
  pub allocated : r.allocated ≡ r.max_remote
  pub few : r.max_remote ≤ 2 ^ 60
  pub enough : min r.max_concurrent (2 ^ 60) ≤ r.max_remote

-- whether the send half of a stream is held
abbrev pub sends : World → ℕ → Bool
sends w = λ q. is_some (w.out.halves q)

-- how many streams of a direction the peer is to be able to use at a time
abbrev pub count_of : Made → Dir → ℕ
count_of m Bi = m.bi.max_concurrent
count_of m Uni = m.uni.max_concurrent

-- whether two ends are one
abbrev pub is_same_side : Side → Side → Bool
is_same_side Client Client = true
is_same_side Client Server = false
is_same_side Server Client = false
is_same_side Server Server = true

-- whether this end opened the stream, or is to open it
abbrev pub is_own : World → ℕ → Bool
is_own w id = is_same_side w.out.side (initiator_of id)

-- the peer's streams of a direction
abbrev pub remote_of : World → Dir → Remote
remote_of w Bi = w.bi
remote_of w Uni = w.uni

abbrev pub with_remote : World → Dir → Remote → World
with_remote w Bi r = record w { bi = r }
with_remote w Uni r = record w { uni = r }

-- another receive half, or none, of a stream
unfoldable pub with_receive : World → ℕ → Option Half → World
with_receive w id h = record w { receive = with_half w.receive id h }

-- the error of a frame on a stream that the peer may not send on, or may not open (RFC 9000 sections 4.6 and 19.8)
abbrev pub own_refusal : World → Dir → ℕ → Option ℕ
own_refusal w Uni index = Some STREAM_STATE_ERROR
own_refusal w Bi index = if nat_le w.out.own_bi.opened index then Some STREAM_STATE_ERROR else None

abbrev pub id_refusal : World → ℕ → Option ℕ
id_refusal w id = if is_own w id then own_refusal w (dir_of id) (index_of id)
    else (if nat_le (remote_of w (dir_of id)).max_remote (index_of id) then Some STREAM_LIMIT_ERROR else None)

-- a stream of the peer is permitted: its halves are new
abbrev pub with_permitted : World → Dir → ℕ → World
with_permitted w Uni index = with_receive w (stream_id (other_side w.out.side) Uni index) (Some (new_half w.window))
with_permitted w Bi index = let id = stream_id (other_side w.out.side) Bi index in
    record (with_receive w id (Some (new_half w.window))) { out = with_send_half w.out id (Some (fresh_sender w.out id)) }

abbrev pub permitted_if : World → Dir → Option ℕ → World
permitted_if w dir None = w
permitted_if w dir (Some index) = with_permitted w dir index

-- a stream of the peer was wholly freed, and another may take its place
abbrev pub replaced_in : World → Dir → World
replaced_in w dir = permitted_if (with_remote w dir (replaced (remote_of w dir))) dir (replacement (remote_of w dir))

-- a stream of the peer lost its receive half: it is wholly freed, unless its send half is held
abbrev pub released : World → Dir → ℕ → World
released w Uni id = replaced_in w Uni
released w Bi id = if sends w id then w else replaced_in w Bi

-- the receive half of a stream is freed
abbrev pub with_freed : World → ℕ → World
with_freed w id = let u = with_receive w id None in
    if is_own u id then u else released u (dir_of id) id

abbrev pub told : World → StreamEvent → World
told w e = record w { events = w.events ++ e ∷ [] }

abbrev pub told_readable : World → ℕ → Bool → World
told_readable w id true = told w (stream_event.Readable id)
told_readable w id false = w

-- a frame came on a stream: it opens the stream where it was not, and else the application is told that it may read
abbrev pub noticed : World → ℕ → Bool → World
noticed w id readable = if is_own w id then told_readable w id readable
    else (if nat_le (remote_of w (dir_of id)).next_remote (index_of id)
    then with_remote w (dir_of id) (opened_up_to (remote_of w (dir_of id)) (index_of id))
    else told_readable w id readable)

-- so many send halves are held of the streams that this end opened or accepted
abbrev pub with_send_streams : World → ℕ → World
with_send_streams w n = record w { send_streams = n }

abbrev pub with_credit : World → ℕ → World
with_credit w n = record w { credit = credited w.credit n }

-- the receive window was set
abbrev pub with_receive_window : World → ℕ → World
with_receive_window w n = record w { credit = resized w.credit n }

-- the highest offsets grew by n
abbrev pub with_counted : World → ℕ → World
with_counted w n = record w { credit = counted w.credit n }

-- a half changed, and what came of it counts
abbrev pub advanced : World → ℕ → Half → Half → World
advanced w id h h' = with_counted (with_receive w id (Some h')) (h'.end - h.end)
