-- Events as C is told them.
use Rattle.std.specs.Prelude.{ℕ, ℤ, pos, ◌≡◌, Option, Some, None, option_map, List, [], ◌∷◌}
use Rattle.quic_values.specs.Ids.{dir_of}
use Rattle.quic_wire.specs.declared.event.StreamEvent.{StreamEvent}
use Rattle.quic_wire.specs.declared.event.StreamEvent.TheVariants as stream_event
use Rattle.quic_history.specs.History.{Sending}
use Rattle.quic_history.specs.SendEvents.{Polled}
use Rattle.quic_history.specs.Sends.{TellsNext}
use Rattle.quic_endpoint.specs.Ends.{EndState}
use Rattle.quic_session.specs.declared.session.Session.{Session}
use Rattle.quic_session.specs.declared.closing.Closed.{Closed}
use Rattle.quic_session.specs.declared.datagrams.DatagramEvent.{DatagramEvent}
use Rattle.quic_session.specs.declared.datagrams.DatagramEvent.TheVariants as datagram_event
use Rattle.quic_session.specs.Sessions.{end_of, datagrams_view, beside_of, with_datagrams, next_told, with_told}
use Rattle.quic_session.specs.Users.{UsersView, users_view, word_of}
use Rattle.quic_session.specs.Closing.{has_no_side, first_over, touched_by_event}
use Rattle.quic_streams_c.specs.declared.events.RawEvent.{RawEvent}
use Rattle.quic_streams_c.specs.Numbers.{direction_number}
use Rattle.quic_streams_c.specs.Sessions.{GoesOn}
use Rattle.quic_streams_c.specs.Words.{words_filled}

abbrev pub raw_event : ℕ → ℕ → ℕ → ℕ → ℕ → RawEvent
raw_event kind dir id app_code user = record { kind = kind; dir = dir; id = id; app_code = app_code; user = user }

-- an event of the streams, with the host's word for its stream
abbrev pub event_at : UsersView → StreamEvent → RawEvent
event_at u (stream_event.Opened dir) = raw_event 1 (direction_number dir) 0 0 0
event_at u (stream_event.Readable id) = raw_event 2 (direction_number (dir_of id)) id 0 (word_of u id)
event_at u (stream_event.Writable id) = raw_event 3 (direction_number (dir_of id)) id 0 (word_of u id)
event_at u (stream_event.Finished id) = raw_event 4 (direction_number (dir_of id)) id 0 (word_of u id)
event_at u (stream_event.Stopped id code) = raw_event 5 (direction_number (dir_of id)) id code (word_of u id)
event_at u (stream_event.Available dir) = raw_event 6 (direction_number dir) 0 0 0

-- one of datagrams
abbrev pub datagram_event_at : DatagramEvent → RawEvent
datagram_event_at datagram_event.Received = raw_event 7 0 0 0 0
datagram_event_at datagram_event.Unblocked = raw_event 8 0 0 0 0

-- that a stream is over
abbrev pub closed_event_at : Closed → RawEvent
closed_event_at c = raw_event 9 (direction_number (dir_of c.id)) c.id 0 c.user

-- the first stream that is over, and what is left
abbrev pub over_in : EndState → UsersView → Option Closed × UsersView
over_in e u = first_over (has_no_side e.streams) u.touched u

abbrev pub next_over : Session → Option Closed × UsersView
next_over s = over_in (end_of s) (users_view s.users)

-- what is told where the streams have an event, or none: then the first stream that is over, if there is one
abbrev pub TellsStreams : UsersView → Option StreamEvent → Option RawEvent → Session → Type 0
TellsStreams u (Some e) answer t = (answer ≡ Some (event_at (users_view t.users) e)) × (users_view t.users ≡ touched_by_event (Some e) u)
TellsStreams u None answer t = (answer ≡ option_map closed_event_at (over_in (end_of t) u).0) × (users_view t.users ≡ (over_in (end_of t) u).1)

-- the next event of the streams is told, if there is one, and else that one of them is over
pub record PollsStreams (s : Session) (answer : Option RawEvent) (t : Session) : Type 0 where
  pub told : Option StreamEvent
  pub polls : TellsNext (end_of s).streams told (end_of t).streams
  pub pending : (end_of t).pending ≡ (end_of s).pending
  pub from : GoesOn s (Sending (Polled told)) t
  pub tells : TellsStreams (users_view s.users) told answer t

-- what is to be told of datagrams is told before that
abbrev pub TellsEvent : Option DatagramEvent → Session → Option RawEvent → Session → Type 0
TellsEvent (Some e) s answer t = (answer ≡ Some (datagram_event_at e)) × (end_of t ≡ end_of s) × (beside_of t ≡ with_datagrams (beside_of s) (with_told (datagrams_view s))) × (t.users ≡ s.users)
TellsEvent None s answer t = PollsStreams s answer t × (beside_of t ≡ with_datagrams (beside_of s) (with_told (datagrams_view s)))

-- the words of qs_event
abbrev pub event_words : RawEvent → List ℕ
event_words e = e.kind ∷ e.dir ∷ e.id ∷ e.app_code ∷ e.user ∷ []

-- what is written
abbrev pub TellsRaw : Option RawEvent → ℤ → List ℕ → List ℕ → Type 0
TellsRaw (Some e) code was now = (code ≡ pos 0) × (now ≡ words_filled (event_words e) was)
TellsRaw None code was now = (code ≡ pos 1) × (now ≡ was)

-- qs_poll
abbrev pub PollsRaw : Session → ℤ → Session → List ℕ → List ℕ → Type 0
PollsRaw s code t was now = (next : Option RawEvent) × TellsEvent (next_told (datagrams_view s)) s next t × TellsRaw next code was now
