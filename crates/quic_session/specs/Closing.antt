-- How a session tells its host that a stream is over, and which calls may end one.
use Rattle.std.specs.Prelude.{ℕ, ◌&&◌, if◌then◌else◌, Bool, true, false, is_none, List, [], ◌∷◌, Option, Some, None, Result, Ok, Err}
use Rattle.quic_values.specs.declared.memory.OutOfMemory.{OutOfMemory}
use Rattle.quic_wire.specs.declared.frame.Frame.{Frame}
use Rattle.quic_wire.specs.declared.frame.Frame.TheVariants as frames
use Rattle.quic_wire.specs.declared.event.StreamEvent.{StreamEvent}
use Rattle.quic_wire.specs.declared.event.StreamEvent.TheVariants as stream_event
use Rattle.quic_history.specs.World.{World}
use Rattle.quic_streams.specs.declared.settling.SentPayload.{SentPayload}
use Rattle.quic_history.specs.declared.progress.LastAnswer.{LastAnswer}
use Rattle.quic_history.specs.declared.progress.LastAnswer.TheVariants as last_answer
use Rattle.quic_streams.specs.Sent.{sent_view}
use Rattle.quic_streams.specs.Settling.{resets_of}
use Rattle.quic_session.specs.declared.closing.Closed.{Closed}
use Rattle.quic_session.specs.Users.{UsersView, with_known, with_touched, without_first_touched, last_word, without_stream}

-- a stream is over: no state of its receive side is left, and none of its send side (RFC 9000 sections 3.1 and 3.2)
abbrev pub has_no_side : World → ℕ → Bool
has_no_side w id = is_none (w.receive id) && is_none (w.out.halves id)

-- the word of a stream that is over, if the host was not told of it
abbrev pub ended_word : (ℕ → Bool) → ℕ → UsersView → Option ℕ
ended_word over id u = if over id then last_word id u else None

-- such a stream is forgotten
abbrev pub without_ended : (ℕ → Bool) → ℕ → UsersView → UsersView
without_ended over id u = if over id then without_stream id u else u

-- a stream is told, or else what comes behind it
abbrev pub told_or : ℕ → Option ℕ → UsersView → Option Closed × UsersView → Option Closed × UsersView
told_or id (Some word) u others = (Some (record { id = id; user = word }), u)
told_or id None u others = others

-- the first of some streams that is over and of which the host was not told, and what becomes of the streams: those before
-- it no longer stand in touched, and it is forgotten with its word
abbrev pub first_over : (ℕ → Bool) → List ℕ → UsersView → Option Closed × UsersView
first_over over [] u = (None, u)
first_over over (id ∷ ids) u =
    let v = without_first_touched id ids u in
    told_or id (ended_word over id v) (without_ended over id v) (first_over over ids (without_ended over id v))

-- a stream was opened or accepted, or none
abbrev pub with_given_stream : Option ℕ → UsersView → UsersView
with_given_stream (Some id) u = with_known id u
with_given_stream None u = u

abbrev pub with_opened_stream : Result (Option ℕ) OutOfMemory → UsersView → UsersView
with_opened_stream (Ok given) u = with_given_stream given u
with_opened_stream (Err error) u = u

-- a stream was named by a call that may end it, if it did
abbrev pub touched_if : Bool → ℕ → UsersView → UsersView
touched_if true id u = with_touched id u
touched_if false id u = u

-- a read ends the receive side where it gives the last bytes or the reset
abbrev pub touched_by_read : ℕ → LastAnswer → UsersView → UsersView
touched_by_read id last_answer.Ended u = with_touched id u
touched_by_read id (last_answer.Reset code) u = with_touched id u
touched_by_read id _ u = u

-- a frame ends the receive side of a stream that was stopped, if it tells the final size
abbrev pub touched_by_frame : Frame → UsersView → UsersView
touched_by_frame (frames.Stream f) u = touched_if f.fin f.id u
touched_by_frame (frames.ResetStream f) u = with_touched f.id u
touched_by_frame _ u = u

-- the send side is gone where all data and FIN are acknowledged, which an event tells
abbrev pub touched_by_event : Option StreamEvent → UsersView → UsersView
touched_by_event (Some (stream_event.Finished id)) u = with_touched id u
touched_by_event _ u = u

-- and where RESET_STREAM is acknowledged
abbrev pub touched_by_resets : List (ℕ × ℕ) → UsersView → UsersView
touched_by_resets [] u = u
touched_by_resets (r ∷ rs) u = touched_by_resets rs (with_touched r.0 u)

-- so much is noted of the acknowledgement of a payload, if there is one
abbrev pub touched_by_payload : Option SentPayload → UsersView → UsersView
touched_by_payload None u = u
touched_by_payload (Some sent) u = touched_by_resets (resets_of (sent_view sent).control) u
