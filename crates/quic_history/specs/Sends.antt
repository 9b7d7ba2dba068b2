-- What the calls on the sending side do to an end.
use Rattle.std.specs.Prelude.{ℕ, Bool, ◌++◌, map, true, false, ◌≡◌, ◌≤◌, ◌<◌, ◌^◌, ◌⊎◌, not, nat_le, nat_lt, if◌then◌else◌, List, [], ◌∷◌, Option, Some, None, Result, Ok, Err, MatchBool}
use Rattle.quic_values.specs.declared.memory.OutOfMemory.{OutOfMemory}
use Rattle.quic_values.specs.declared.ids.Dir.{Dir}
use Rattle.quic_values.specs.declared.ids.Dir.TheVariants.{Bi, Uni}
use Rattle.quic_values.specs.Ids.{dir_of, index_of}
use Rattle.quic_values.specs.Offsets.{one_more}
use Rattle.quic_wire.specs.declared.event.StreamEvent.{StreamEvent}
use Rattle.quic_wire.specs.declared.event.StreamEvent.TheVariants as stream_event
use Rattle.quic_wire.specs.declared.error.ReceiveError.{ReceiveError}
use Rattle.quic_wire.specs.declared.error.ReceiveError.TheVariants as receive_error
use Rattle.quic_wire.specs.Codes.{FRAME_ENCODING_ERROR, STREAM_LIMIT_ERROR, STREAM_STATE_ERROR}
use Rattle.quic_limits.specs.Own.{with_count}
use Rattle.quic_limits.specs.Remote.{opening_told}
use Rattle.quic_limits.specs.SendingCredit.{with_limit, with_window}
use Rattle.quic_receiving.specs.Half.{new_half}
use Rattle.quic_outgoing.specs.declared.limits.PeerLimits.{PeerLimits}
use Rattle.quic_outgoing.specs.Outgoing.{Outgoing, own_of, with_own}
use Rattle.quic_outgoing.specs.Params.{after_params, newly_writable}
use Rattle.quic_outgoing.specs.Calls.{OpensStream, RaisesStream, StopsSending, PollsWritable}
use Rattle.quic_history.specs.World.{World, is_own, remote_of, with_remote, with_receive, with_send_streams, told, noticed}

-- another sending side
abbrev pub with_out : World → Outgoing → World
with_out w o = record w { out = o }

-- the peer gave its transport parameters: the application is told of each stream of this end that they let be written on
abbrev pub with_params_given : World → PeerLimits → World
with_params_given w p = record w { out = after_params w.out p; events = w.events ++ map stream_event.Writable (newly_writable w.out p) }

-- out of memory, nothing changes
abbrev pub TakesParams : World → PeerLimits → Result (Unit {0}) OutOfMemory → World → Type 0
TakesParams w p (Ok x) v = v ≡ with_params_given w p
TakesParams w p (Err e) v = v ≡ w

-- a stream of this end was opened: one that is bidirectional has a new receive half
abbrev pub with_opened : World → Dir → ℕ → Outgoing → World
with_opened w Uni id o = with_send_streams (with_out w o) (one_more w.send_streams)
with_opened w Bi id o = with_send_streams (with_out (with_receive w id (Some (new_half w.window))) o) (one_more w.send_streams)

-- a stream was asked for, on a connection that is closed or not: none is opened on a closed one, and where as many were
-- as the peer permits
abbrev pub OpensOwn : World → Dir → Bool → Result (Option ℕ) OutOfMemory → World → Type 0
OpensOwn w d closed (Ok None) v = ((closed ≡ true) ⊎ ((own_of w.out d).limit ≤ (own_of w.out d).opened)) × (v ≡ w)
OpensOwn w d closed (Ok (Some id)) v = (closed ≡ false) × (o : Outgoing) × OpensStream w.out d (Ok (Some id)) o × (v ≡ with_opened w d id o)
OpensOwn w d closed (Err e) v = v ≡ w

-- the error of a frame on the sending side of a stream: the peer may not open it, or only the peer sends on it, or it is
-- not open (RFC 9000 sections 4.6 and 19.10)
abbrev pub sending_refusal : World → ℕ → Option ℕ
sending_refusal w id = if is_own w id
    then (if nat_le (own_of w.out (dir_of id)).opened (index_of id) then Some STREAM_STATE_ERROR else None)
    else peer_refusal w (dir_of id) (index_of id)
  where
    peer_refusal : World → Dir → ℕ → Option ℕ
    peer_refusal w Uni index = Some STREAM_STATE_ERROR
    peer_refusal w Bi index = if nat_le w.bi.max_remote index then Some STREAM_LIMIT_ERROR else None

-- the peer gave a count of streams, of which the application is told where it is a rise
abbrev pub with_own_count : World → Dir → ℕ → World
with_own_count w d count = let u = with_out w (with_own w.out d (with_count (own_of w.out d) count)) in
    if nat_lt (own_of w.out d).limit count then told u (stream_event.Available d) else u

abbrev pub RaisesCount : World → Dir → ℕ → Result (Unit {0}) ReceiveError → World → Type 0
RaisesCount w d count (Ok x) v = (count ≤ 2 ^ 60) × (v ≡ with_own_count w d count)
RaisesCount w d count (Err (receive_error.Transport error)) v = (2 ^ 60 < count) × (error.code ≡ FRAME_ENCODING_ERROR) × (v ≡ w)
RaisesCount w d count (Err receive_error.CompactionMemory) v = ⊥
RaisesCount w d count (Err receive_error.OutOfMemory) v = ((own_of w.out d).limit < count) × (count ≤ 2 ^ 60) × (v ≡ w)

-- the application is told that it may write on a stream
abbrev pub told_writable : World → ℕ → Bool → World
told_writable w id true = told w (stream_event.Writable id)
told_writable w id false = w

-- the peer gave a limit for a stream. The frame opens one of the peer that was not open
abbrev pub RaisesLimit : World → ℕ → ℕ → Result (Unit {0}) ReceiveError → World → Type 0
RaisesLimit w id n (Ok x) v = (sending_refusal w id ≡ None) × (tells : Bool) × (o : Outgoing) × RaisesStream w.out id n (Ok tells) o
    × (v ≡ noticed (told_writable (with_out w o) id tells) id false)
RaisesLimit w id n (Err (receive_error.Transport error)) v = (sending_refusal w id ≡ Some error.code) × (v ≡ w)
RaisesLimit w id n (Err receive_error.CompactionMemory) v = ⊥
RaisesLimit w id n (Err receive_error.OutOfMemory) v = v ≡ w

-- whether a stream is this end's, or one that the peer may open
abbrev pub is_permitted : World → ℕ → Bool
is_permitted w id = if is_own w id then true else nat_lt (index_of id) (remote_of w (dir_of id)).max_remote

-- the first STOP_SENDING of a stream is told of, and opens one of the peer that was not open
abbrev pub after_first_stop : World → ℕ → ℕ → Bool → World
after_first_stop w id code true = noticed (told w (stream_event.Stopped id code)) id false
after_first_stop w id code false = w

-- the peer asked to send no more on a stream
abbrev pub StopsOwn : World → ℕ → ℕ → Result (Unit {0}) OutOfMemory → World → Type 0
StopsOwn w id code (Ok x) v = MatchBool (is_permitted w id)
    ((is_first : Bool) × (o : Outgoing) × StopsSending w.out id code (Ok is_first) o × (v ≡ after_first_stop (with_out w o) id code is_first))
    (v ≡ w)
StopsOwn w id code (Err e) v = v ≡ w

-- the first of the events that are queued, if there is one, and the others
abbrev pub TakesOldest : List StreamEvent → Option StreamEvent → List StreamEvent → Type 0
TakesOldest events None others = (events ≡ []) × (others ≡ [])
TakesOldest events (Some e) others = events ≡ e ∷ others

-- that a stream may be written on is told first, then what is queued
abbrev pub PollsQueue : World → Option ℕ → Option StreamEvent → World → Type 0
PollsQueue w (Some id) answer v = (answer ≡ Some (stream_event.Writable id)) × (v ≡ w)
PollsQueue w None answer v = (others : List StreamEvent) × TakesOldest w.events answer others × (v ≡ record w { events = others })

-- what the application is told next: that the peer opened streams, bidirectional ones first, then that a stream that
-- waited may be written on, then what is queued
abbrev pub TellsNext : World → Option StreamEvent → World → Type 0
TellsNext w answer v = MatchBool w.bi.opened
    ((answer ≡ Some (stream_event.Opened Bi)) × (v ≡ with_remote w Bi (opening_told w.bi)))
    (MatchBool w.uni.opened
    ((answer ≡ Some (stream_event.Opened Uni)) × (v ≡ with_remote w Uni (opening_told w.uni)))
    ((writable : Option ℕ) × (o : Outgoing) × PollsWritable w.out writable o × PollsQueue (with_out w o) writable answer v))
