-- What the calls of a session promise, as relations between the sessions before and after.
use Rattle.std.specs.Prelude.{ℕ, ℤ, ◌≡◌, ◌∷◌, List, true, false, if◌then◌else◌, Option, Result, Err}
use Rattle.quic_values.specs.declared.memory.OutOfMemory.{OutOfMemory}
use Rattle.quic_values.specs.declared.ids.Dir.{Dir}
use Rattle.quic_sending.specs.declared.send.WriteError.{WriteError}
use Rattle.quic_sending.specs.declared.send.WriteError.TheVariants as write_error
use Rattle.quic_sending.specs.declared.send.FinishError.{FinishError}
use Rattle.quic_sending.specs.declared.send.FinishError.TheVariants as finish_error
use Rattle.quic_sending.specs.declared.send.ClosedStream.{ClosedStream}
use Rattle.quic_sending.specs.Source.{slice_lists}
use Rattle.quic_sending.specs.declared.errors.HandleError.{HandleError}
use Rattle.quic_sending.specs.declared.errors.HandleError.TheVariants as handle_error
use Rattle.quic_outgoing.specs.Calls.{told_of_half}
use Rattle.quic_history.specs.World.{Made}
use Rattle.quic_history.specs.Acknowledged.{was_given}
use Rattle.quic_history.specs.History.{Event, Sending, Accepted, Stopped, ToldReset, From}
use Rattle.quic_history.specs.SendEvents.{OpenedOwn, WroteOwn, FinishedOwn, ResetOwn, SetOwnPriority}
use Rattle.quic_history.specs.Sends.{OpensOwn}
use Rattle.quic_history.specs.Writes.{WritesOwn}
use Rattle.quic_history.specs.Permitting.{with_accepted, acceptable}
use Rattle.quic_streams.specs.Connection.{is_shut}
use Rattle.quic_streams.specs.Writing.{IsWrittenAs}
use Rattle.quic_endpoint.specs.Ends.{with_world, FinishesAt, ResetsAt, SetsPriorityAt, StopsReading, TellsResetAt}
use Rattle.quic_session.specs.declared.session.Session.{Session}
use Rattle.quic_session.specs.Sessions.{end_of, beside_of}

-- whatever history came before, it goes on with a call
abbrev pub GoesOn : Session → Event → Session → Type 0
GoesOn s e t = (m : Made) (h : List Event) → From m h (end_of s).streams → From m (e ∷ h) (end_of t).streams

-- nothing changes
abbrev pub Unchanged : Session → Session → Type 0
Unchanged s t = (end_of t ≡ end_of s) × (beside_of t ≡ beside_of s)

-- a stream was opened, or none may be
abbrev pub SessionOpens : Session → Dir → Result (Option ℕ) OutOfMemory → Session → Type 0
SessionOpens s dir answer t = OpensOwn (end_of s).streams dir (is_shut s.conn) answer (end_of t).streams × ((end_of t).pending ≡ (end_of s).pending)
    × GoesOn s (Sending (OpenedOwn dir (is_shut s.conn) answer)) t × (beside_of t ≡ beside_of s)

-- one of the peer was accepted, or there is none
abbrev pub SessionAccepts : Session → Dir → Option ℕ → Session → Type 0
SessionAccepts s dir answer t = (answer ≡ acceptable (end_of s).streams dir) × (end_of t ≡ with_world (end_of s) (with_accepted (end_of s).streams dir))
    × GoesOn s (Accepted dir answer) t × (beside_of t ≡ beside_of s)

-- bytes were written on a stream that was given
abbrev pub SessionWrites : Session → ℕ → List ℕ → Result ℕ WriteError → Session → Type 0
SessionWrites s id bytes answer t =
    (was_given (end_of s).streams id ≡ true → IsWrittenAs answer (λ written. (left : List (List ℕ)) × WritesOwn (end_of s).streams id (slice_lists bytes) (is_shut s.conn) (end_of s).pending written (end_of t).streams left (end_of t).pending))
    × (was_given (end_of s).streams id ≡ false → (answer ≡ Err write_error.ClosedStream) × (end_of t ≡ end_of s))
    × (was_given (end_of s).streams id ≡ true → IsWrittenAs answer (λ written. (m : Made) (h : List Event) → From m h (end_of s).streams → From m (Sending (WroteOwn id (slice_lists bytes) (is_shut s.conn) written) ∷ h) (end_of t).streams))
    × (beside_of t ≡ beside_of s)

-- a call on a stream: done where it was given, else refused with no change
abbrev pub OnStream : {A E : Type 0} → Session → ℕ → Result A E → E → Type 0 → Event → Session → Type 0
OnStream s id answer closed Does event t = (was_given (end_of s).streams id ≡ true → Does)
    × (was_given (end_of s).streams id ≡ false → (answer ≡ Err closed) × (end_of t ≡ end_of s))
    × (was_given (end_of s).streams id ≡ true → GoesOn s event t) × (beside_of t ≡ beside_of s)

abbrev pub SessionFinishes : Session → ℕ → Result (Unit {0}) FinishError → Session → Type 0
SessionFinishes s id answer t = OnStream s id answer finish_error.ClosedStream (FinishesAt (end_of s) id answer (end_of t)) (Sending (FinishedOwn id answer)) t

abbrev pub SessionResets : Session → ℕ → ℕ → Result (Unit {0}) HandleError → Session → Type 0
SessionResets s id code answer t = OnStream s id answer handle_error.ClosedStream (ResetsAt (end_of s) id code answer (end_of t)) (Sending (ResetOwn id code answer)) t

abbrev pub SessionStops : Session → ℕ → ℕ → Result (Unit {0}) HandleError → Session → Type 0
SessionStops s id code answer t = OnStream s id answer handle_error.ClosedStream (StopsReading (end_of s) id code answer (end_of t)) (Stopped id code answer) t

abbrev pub SessionSetsPriority : Session → ℕ → ℤ → Result (Unit {0}) HandleError → Session → Type 0
SessionSetsPriority s id priority answer t = OnStream s id answer handle_error.ClosedStream (SetsPriorityAt (end_of s) id priority answer (end_of t)) (Sending (SetOwnPriority id priority answer)) t

abbrev pub SessionTellsReset : Session → ℕ → Result (Option ℕ) HandleError → Session → Type 0
SessionTellsReset s id answer t = OnStream s id answer handle_error.ClosedStream (TellsResetAt (end_of s) id answer (end_of t)) (ToldReset id answer) t

-- the priority of a stream is told
abbrev pub SessionTellsPriority : Session → ℕ → Result ℤ ClosedStream → Type 0
SessionTellsPriority s id answer = (was_given (end_of s).streams id ≡ true → answer ≡ told_of_half (λ h. h.priority) ((end_of s).streams.out.halves id))
    × (was_given (end_of s).streams id ≡ false → answer ≡ Err (record {}))

-- the code of the peer's STOP_SENDING for a stream, as qs_stream_stopped returns it
abbrev pub stop_code_of : Session → ℕ → Result (Option ℕ) ClosedStream
stop_code_of s id = if was_given (end_of s).streams id then told_of_half (λ h. h.stop_reason) ((end_of s).streams.out.halves id) else Err (record {})

-- the code with which the peer stopped one
abbrev pub SessionTellsStop : Session → ℕ → Result (Option ℕ) ClosedStream → Type 0
SessionTellsStop s id answer = (was_given (end_of s).streams id ≡ true → answer ≡ told_of_half (λ h. h.stop_reason) ((end_of s).streams.out.halves id))
    × (was_given (end_of s).streams id ≡ false → answer ≡ Err (record {}))
