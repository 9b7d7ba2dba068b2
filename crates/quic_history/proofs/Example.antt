-- A worked example: what the history of ten calls tells, whatever end it led to.
use Rattle.std.proofs.Common.{◌≡◌, ◌⊎◌, ℕ, true, false, List, [], ◌∷◌, Some, Ok, Err, refl, sym, ap, ◌∙◌, inl, inr}
use Rattle.std.specs.Prelude.{min}
use Rattle.quic_values.specs.declared.ids.Side.TheVariants.{Client}
use Rattle.quic_values.specs.declared.ids.Dir.TheVariants.{Bi, Uni}
use Rattle.quic_wire.specs.declared.event.StreamEvent.{StreamEvent}
use Rattle.quic_wire.specs.declared.event.StreamEvent.TheVariants as stream_event
use Rattle.quic_sending.specs.declared.send.Written.{Written}
use Rattle.quic_sending.specs.declared.send.WriteError.TheVariants as write_error
use Rattle.quic_sending.specs.Buffer.{total_length}
use Rattle.quic_retransmits.specs.Pending.{Pending}
use Rattle.quic_outgoing.specs.declared.limits.PeerLimits.{PeerLimits}
use Rattle.quic_history.specs.World.{World, Made, made_with}
use Rattle.quic_history.specs.Writes.{WritesOwn}
use Rattle.quic_history.specs.SendEvents.{GaveLimits, OpenedOwn, RaisedData, RaisedCount, RaisedLimit, StoppedOwn, SetWindow, Polled, WroteOwn}
use Rattle.quic_history.specs.History.{Event, Sending, From, write_room, why_not, retained_in_all}

-- a client with a send window of 100 bytes, whose peer may open no streams
abbrev client : Made
client = made_with Client 0 0 100 1000 1000

-- the peer permits 10 bytes in all and one bidirectional stream, which may carry 6
abbrev peer : PeerLimits
peer = record {
  initial_max_data = 10;
  initial_max_streams_bidi = 1;
  initial_max_streams_uni = 0;
  initial_max_stream_data_uni = 0;
  initial_max_stream_data_bidi_local = 0;
  initial_max_stream_data_bidi_remote = 6;
}

-- from below: stream 0 is opened and takes 4 bytes; its limit rises to 9, the send window is set to 7, the limit of the
-- connection rises to 20; two unidirectional streams are permitted and stream 2 is opened; the peer stops it; and the
-- application is told of the streams that were permitted
abbrev calls : List Event
calls =
    Sending (Polled (Some (stream_event.Available Uni)))
    ∷ Sending (StoppedOwn 2 5 (Ok tt))
    ∷ Sending (OpenedOwn Uni false (Ok (Some 2)))
    ∷ Sending (RaisedCount Uni 2 (Ok tt))
    ∷ Sending (RaisedData 20)
    ∷ Sending (SetWindow 7)
    ∷ Sending (RaisedLimit 0 9 (Ok tt))
    ∷ Sending (WroteOwn 0 ((1 ∷ 2 ∷ 3 ∷ 4 ∷ []) ∷ []) false (Ok (record { bytes = 4; chunks = 1 })))
    ∷ Sending (OpenedOwn Bi false (Ok (Some 0)))
    ∷ Sending (GaveLimits peer (Ok tt))
    ∷ []

-- of the limit of the connection 16 bytes are left, of the window 3, and of the limit of the stream 5
room_is : write_room client calls 0 ≡ 3
room_is = refl

retained_is : retained_in_all client calls ≡ 4
retained_is = refl

module _ (v : World) (f : From client calls v) (lists : List (List ℕ)) (p q : Pending) (w : World) (left : List (List ℕ)) where
  -- a write on stream 0 takes 3 bytes at most
  takes_three : (written : Written) → WritesOwn v 0 lists false p (Ok written) w left q → written.bytes ≡ min (total_length lists) 3
  takes_three written s = let told = f.writes 0 lists false p (Ok written) w left q s in told.2

  -- and is not blocked
  not_blocked : WritesOwn v 0 lists false p (Err write_error.Blocked) w left q → ⊥
  not_blocked s = neither (f.writes 0 lists false p (Err write_error.Blocked) w left q s)
    where
      neither : (false ≡ true) ⊎ (why_not client calls 0 ≡ Some write_error.Blocked) → ⊥
      neither (inl e) = cc
      neither (inr e) = cc

  -- one on stream 2 takes nothing, and tells the code of the stop
  takes_nothing : (written : Written) → WritesOwn v 2 lists false p (Ok written) w left q → ⊥
  takes_nothing written s = let told = f.writes 2 lists false p (Ok written) w left q s in let none = told.1 in cc

  tells_stop : (code : ℕ) → WritesOwn v 2 lists false p (Err (write_error.Stopped code)) w left q → code ≡ 5
  tells_stop code s = let told = f.writes 2 lists false p (Err (write_error.Stopped code)) w left q s in let same = told.1 in cc

  -- stream 4 was not opened
  is_closed : WritesOwn v 4 lists false p (Err write_error.Blocked) w left q → ⊥
  is_closed s = neither (f.writes 4 lists false p (Err write_error.Blocked) w left q s)
    where
      neither : (false ≡ true) ⊎ (why_not client calls 4 ≡ Some write_error.Blocked) → ⊥
      neither (inl e) = cc
      neither (inr e) = cc

abbrev others : List StreamEvent → List StreamEvent
others [] = []
others (e ∷ es) = es

-- the stop alone is still to be told
still_told : (v : World) → From client calls v → v.events ≡ stream_event.Stopped 2 5 ∷ []
still_told v f =
    let q = f.queued in
    let limits = q.1.1.1.1.1.1.1.1.1.2 in
    let opened = q.1.1.1.1.1.1.1.1.2 in
    let wrote = q.1.1.1.1.1.1.1.2 in
    let raised = q.1.1.1.1.1.1.2 in
    let window = q.1.1.1.1.1.2 in
    let budget = q.1.1.1.1.2 in
    let count = q.1.1.1.2 in
    let second = q.1.1.2 in
    let stopped = q.1.2 in
    let first = q.1.1.1.1.1.1.1.1.1.1 in
    let all : q.0 ≡ stream_event.Available Uni ∷ stream_event.Stopped 2 5 ∷ [] = rw (stopped, second, count, budget, window, raised, wrote, opened, limits, first) refl in
    ap others (sym q.2 ∙ all)

-- 4 bytes are retained
still_retained : (v : World) → From client calls v → v.out.budget.buffered_data ≡ 4
still_retained v f = f.sends.retained
