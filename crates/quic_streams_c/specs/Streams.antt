-- Calls of C on streams.
use Rattle.std.specs.Prelude.{ℕ, ℤ, Bool, true, false, pos, negsuc, ◌≡◌, ◌⊎◌, ◌==◌, List, length, Option, Result}
use Rattle.quic_values.specs.declared.memory.OutOfMemory.{OutOfMemory}
use Rattle.quic_sending.specs.declared.send.WriteError.{WriteError}
use Rattle.quic_sending.specs.declared.send.FinishError.{FinishError}
use Rattle.quic_sending.specs.declared.send.ClosedStream.{ClosedStream}
use Rattle.quic_sending.specs.declared.errors.HandleError.{HandleError}
use Rattle.quic_receiving.specs.declared.errors.ReadableError.{ReadableError}
use Rattle.quic_session.specs.declared.session.Session.{Session}
use Rattle.quic_session.specs.declared.application.ReadInto.{ReadInto}
use Rattle.quic_session.specs.Sessions.{beside_of}
use Rattle.quic_session.specs.Reading.{ReadsInto, ReadsManyInto}
use Rattle.quic_session.specs.Users.{users_view, with_room}
use Rattle.quic_session.specs.Closing.{with_opened_stream, with_given_stream}
use Rattle.quic_streams_c.specs.Answers.{memory_code, handle_code, closed_code, TellsDone, TellsSigned, TellsSome, TellsOption, stopped_first, TellsWrite, TellsFinish, TellsRead, TellsMany}
use Rattle.quic_streams_c.specs.Calls.{Refuses, WithNumber}
use Rattle.quic_streams_c.specs.Numbers.{small, dir_at}
use Rattle.quic_streams_c.specs.Sessions.{Unchanged, SessionOpens, SessionAccepts, SessionWrites, SessionFinishes, SessionResets, SessionStops, SessionSetsPriority, SessionTellsPriority, stop_code_of, SessionTellsStop, SessionTellsReset}

-- there is no memory for what is kept of a stream until it is over
abbrev pub LacksRoom : Session → ℤ → Session → Type 0
LacksRoom s code t = (code ≡ negsuc 1) × Unchanged s t × (users_view t.users ≡ users_view s.users)

-- qs_stream_open
abbrev pub OpensRaw : Session → ℕ → ℤ → Session → ℕ → ℕ → Type 0
OpensRaw s dir code t was now = WithNumber (dir_at dir) (Refuses s code t × (now ≡ was)) (λ d. (LacksRoom s code t × (now ≡ was))
    ⊎ ((answer : Result (Option ℕ) OutOfMemory) × SessionOpens s d answer t × TellsSome memory_code answer code was now × (users_view t.users ≡ with_opened_stream answer (with_room (users_view s.users)))))

-- qs_stream_accept
abbrev pub AcceptsRaw : Session → ℕ → ℤ → Session → ℕ → ℕ → Type 0
AcceptsRaw s dir code t was now = WithNumber (dir_at dir) (Refuses s code t × (now ≡ was)) (λ d. (LacksRoom s code t × (now ≡ was))
    ⊎ ((answer : Option ℕ) × SessionAccepts s d answer t × TellsOption answer (pos 1) code was now × (users_view t.users ≡ with_given_stream answer (with_room (users_view s.users)))))

-- qs_stream_write: the session's write, and where that is blocked, the peer's STOP_SENDING comes before it. No credit lets more
-- be written on a stopped stream, so the host has to learn of the stop also while there is no credit
abbrev pub WritesRaw : Session → ℕ → List ℕ → ℤ → Session → ℕ → ℕ → ℕ → ℕ → Type 0
WritesRaw s id bytes code t was now app app' = WithNumber (small id) (Refuses s code t × (now ≡ was) × (app' ≡ app)) (λ i.
    (answer : Result ℕ WriteError) × SessionWrites s i bytes answer t × TellsWrite (stopped_first answer (stop_code_of t i)) code was now app app')

-- qs_stream_finish
abbrev pub FinishesRaw : Session → ℕ → ℤ → Session → ℕ → ℕ → Type 0
FinishesRaw s id code t app app' = WithNumber (small id) (Refuses s code t × (app' ≡ app)) (λ i.
    (answer : Result (Unit {0}) FinishError) × SessionFinishes s i answer t × TellsFinish answer code app app')

-- qs_stream_reset
abbrev pub ResetsRaw : Session → ℕ → ℕ → ℤ → Session → Type 0
ResetsRaw s id error code t = WithNumber (small id) (Refuses s code t) (λ i. WithNumber (small error) (Refuses s code t) (λ e.
    (answer : Result (Unit {0}) HandleError) × SessionResets s i e answer t × TellsDone handle_code answer code))

-- qs_stream_stop
abbrev pub StopsRaw : Session → ℕ → ℕ → ℤ → Session → Type 0
StopsRaw s id error code t = WithNumber (small id) (Refuses s code t) (λ i. WithNumber (small error) (Refuses s code t) (λ e.
    (answer : Result (Unit {0}) HandleError) × SessionStops s i e answer t × TellsDone handle_code answer code))

-- qs_stream_set_priority
abbrev pub SetsPriorityRaw : Session → ℕ → ℤ → ℤ → Session → Type 0
SetsPriorityRaw s id priority code t = WithNumber (small id) (Refuses s code t) (λ i.
    (answer : Result (Unit {0}) HandleError) × SessionSetsPriority s i priority answer t × TellsDone handle_code answer code)

-- qs_stream_priority
abbrev pub TellsPriorityRaw : Session → ℕ → ℤ → ℤ → ℤ → Type 0
TellsPriorityRaw s id code was now = WithNumber (small id) ((code ≡ negsuc 2) × (now ≡ was)) (λ i.
    (answer : Result ℤ ClosedStream) × SessionTellsPriority s i answer × TellsSigned closed_code answer code was now)

-- qs_stream_stopped
abbrev pub TellsStopRaw : Session → ℕ → ℤ → ℕ → ℕ → Type 0
TellsStopRaw s id code was now = WithNumber (small id) ((code ≡ negsuc 2) × (now ≡ was)) (λ i.
    (answer : Result (Option ℕ) ClosedStream) × SessionTellsStop s i answer × TellsSome closed_code answer code was now)

-- qs_stream_received_reset
abbrev pub TellsResetRaw : Session → ℕ → ℤ → Session → ℕ → ℕ → Type 0
TellsResetRaw s id code t was now = WithNumber (small id) (Refuses s code t × (now ≡ was)) (λ i.
    (answer : Result (Option ℕ) HandleError) × SessionTellsReset s i answer t × TellsSome handle_code answer code was now)

-- what C has of a read
pub record ReadView : Type 0 where
  pub out : List ℕ
  pub count : ℕ
  pub offset : ℕ
  pub app_code : ℕ

-- a stream is read
pub record ReadsStream (s : Session) (id : ℕ) (ordered : Bool) (code : ℤ) (t : Session) (was now : ReadView) : Type 0 where
  pub answer : Result ReadInto ReadableError
  pub reads : ReadsInto s id ordered was.out answer t now.out
  pub beside : beside_of t ≡ beside_of s
  pub tells : TellsRead answer code was.count now.count was.offset now.offset was.app_code now.app_code

-- a buffer without bytes is refused
abbrev pub ReadsIfRoom : Bool → Session → ℕ → Bool → ℤ → Session → ReadView → ReadView → Type 0
ReadsIfRoom true s id ordered code t was now = (code ≡ negsuc 14) × (t ≡ s) × (now ≡ was)
ReadsIfRoom false s id ordered code t was now = ReadsStream s id ordered code t was now

-- qs_stream_read, qs_stream_read_unordered
abbrev pub ReadsRaw : Session → ℕ → Bool → ℤ → Session → ReadView → ReadView → Type 0
ReadsRaw s id ordered code t was now = WithNumber (small id) (Refuses s code t × (now ≡ was)) (λ i. ReadsIfRoom (length was.out == 0) s i ordered code t was now)

-- a stream is read for several chunks
pub record ReadsMany (s : Session) (id : ℕ) (code : ℤ) (t : Session) (was now : ReadView) : Type 0 where
  pub answer : Result ReadInto ReadableError
  pub reads : ReadsManyInto s id was.out answer t now.out
  pub beside : beside_of t ≡ beside_of s
  pub tells : TellsMany answer code was.count now.count was.offset now.offset was.app_code now.app_code

-- a buffer without bytes is refused
abbrev pub ReadsManyIfRoom : Bool → Session → ℕ → ℤ → Session → ReadView → ReadView → Type 0
ReadsManyIfRoom true s id code t was now = (code ≡ negsuc 14) × (t ≡ s) × (now ≡ was)
ReadsManyIfRoom false s id code t was now = ReadsMany s id code t was now

-- qs_stream_read_many
abbrev pub ReadsManyRaw : Session → ℕ → ℤ → Session → ReadView → ReadView → Type 0
ReadsManyRaw s id code t was now = WithNumber (small id) (Refuses s code t × (now ≡ was)) (λ i. ReadsManyIfRoom (length was.out == 0) s i code t was now)
