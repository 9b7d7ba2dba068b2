-- What C is answered, and what is written through its pointers.
use Rattle.std.specs.Prelude.{ℕ, ℤ, pos, negsuc, ◌≡◌, ◌==◌, if◌then◌else◌, Option, Some, None, Result, Ok, Err}
use Rattle.quic_values.specs.declared.memory.OutOfMemory.{OutOfMemory}
use Rattle.quic_sending.specs.declared.send.WriteError.{WriteError}
use Rattle.quic_sending.specs.declared.send.WriteError.TheVariants as write_error
use Rattle.quic_sending.specs.declared.send.FinishError.{FinishError}
use Rattle.quic_sending.specs.declared.send.FinishError.TheVariants as finish_error
use Rattle.quic_sending.specs.declared.send.ClosedStream.{ClosedStream}
use Rattle.quic_sending.specs.declared.errors.HandleError.{HandleError}
use Rattle.quic_sending.specs.declared.errors.HandleError.TheVariants as handle_error
use Rattle.quic_receiving.specs.declared.errors.ReadableError.{ReadableError}
use Rattle.quic_receiving.specs.declared.errors.ReadableError.TheVariants as readable_error
use Rattle.quic_history.specs.declared.progress.LastAnswer.{LastAnswer}
use Rattle.quic_history.specs.declared.progress.LastAnswer.TheVariants as last_answer
use Rattle.quic_session.specs.declared.application.ReadInto.{ReadInto}
use Rattle.quic_session.specs.declared.settling.SettleError.{SettleError}
use Rattle.quic_session.specs.declared.settling.SettleError.TheVariants as settle_error
use Rattle.quic_session.specs.declared.datagrams.DatagramError.{DatagramError}
use Rattle.quic_session.specs.declared.datagrams.DatagramError.TheVariants as datagram_error

-- why a write took nothing
abbrev pub write_code : WriteError → ℤ
write_code write_error.Blocked = negsuc 5
write_code (write_error.Stopped code) = negsuc 6
write_code write_error.ClosedStream = negsuc 4
write_code write_error.OutOfMemory = negsuc 1

-- the code of the peer's STOP_SENDING, where that is the reason
abbrev pub write_stop : WriteError → ℕ → ℕ
write_stop (write_error.Stopped code) app = code
write_stop _ app = app

abbrev pub finish_code : FinishError → ℤ
finish_code (finish_error.Stopped code) = negsuc 6
finish_code finish_error.ClosedStream = negsuc 4
finish_code finish_error.OutOfMemory = negsuc 1

abbrev pub finish_stop : FinishError → ℕ → ℕ
finish_stop (finish_error.Stopped code) app = code
finish_stop _ app = app

abbrev pub handle_code : HandleError → ℤ
handle_code handle_error.ClosedStream = negsuc 4
handle_code handle_error.OutOfMemory = negsuc 1

abbrev pub readable_code : ReadableError → ℤ
readable_code readable_error.ClosedStream = negsuc 4
readable_code readable_error.IllegalOrderedRead = negsuc 8
readable_code readable_error.OutOfMemory = negsuc 1

abbrev pub settle_code : SettleError → ℤ
settle_code settle_error.UnknownToken = negsuc 11
settle_code settle_error.OutOfMemory = negsuc 1

abbrev pub datagram_code : DatagramError → ℤ
datagram_code datagram_error.UnsupportedByPeer = negsuc 12
datagram_code datagram_error.Disabled = negsuc 12
datagram_code datagram_error.TooLarge = negsuc 13
datagram_code datagram_error.Blocked = negsuc 5
datagram_code datagram_error.OutOfMemory = negsuc 1

-- where memory ran out, no bytes were read
abbrev pub readable_count : ReadableError → ℕ → ℕ
readable_count readable_error.OutOfMemory count = 0
readable_count _ count = count

-- why a read gave no bytes
abbrev pub last_code : LastAnswer → ℤ
last_code last_answer.Blocked = negsuc 5
last_code last_answer.Ended = pos 2
last_code (last_answer.Reset code) = negsuc 7
last_code last_answer.Memory = negsuc 1
last_code last_answer.More = pos 0

-- the code of the peer's RESET_STREAM, where that is the reason
abbrev pub last_reset : LastAnswer → ℕ → ℕ
last_reset (last_answer.Reset code) app = code
last_reset _ app = app

-- done, or out of memory
abbrev pub TellsDone : {E : Type 0} → (E → ℤ) → Result (Unit {0}) E → ℤ → Type 0
TellsDone of_error (Ok x) code = code ≡ pos 0
TellsDone of_error (Err error) code = code ≡ of_error error

abbrev pub memory_code : OutOfMemory → ℤ
memory_code error = negsuc 1

abbrev pub closed_code : ClosedStream → ℤ
closed_code error = negsuc 4

-- a number was given
abbrev pub TellsNumber : {E : Type 0} → (E → ℤ) → Result ℕ E → ℤ → ℕ → ℕ → Type 0
TellsNumber of_error (Ok n) code was now = (code ≡ pos 0) × (now ≡ n)
TellsNumber of_error (Err error) code was now = (code ≡ of_error error) × (now ≡ was)

-- a signed one was
abbrev pub TellsSigned : {E : Type 0} → (E → ℤ) → Result ℤ E → ℤ → ℤ → ℤ → Type 0
TellsSigned of_error (Ok n) code was now = (code ≡ pos 0) × (now ≡ n)
TellsSigned of_error (Err error) code was now = (code ≡ of_error error) × (now ≡ was)

-- one was given, or there was none now
abbrev pub TellsSome : {E : Type 0} → (E → ℤ) → Result (Option ℕ) E → ℤ → ℕ → ℕ → Type 0
TellsSome of_error (Ok (Some n)) code was now = (code ≡ pos 0) × (now ≡ n)
TellsSome of_error (Ok None) code was now = (code ≡ pos 1) × (now ≡ was)
TellsSome of_error (Err error) code was now = (code ≡ of_error error) × (now ≡ was)

-- the same, where there is no error
abbrev pub TellsOption : Option ℕ → ℤ → ℤ → ℕ → ℕ → Type 0
TellsOption (Some n) none code was now = (code ≡ pos 0) × (now ≡ n)
TellsOption None none code was now = (code ≡ none) × (now ≡ was)

-- how many bytes were written, or why none
abbrev pub TellsWrite : Result ℕ WriteError → ℤ → ℕ → ℕ → ℕ → ℕ → Type 0
TellsWrite (Ok n) code was now app app' = (code ≡ pos 0) × (now ≡ n) × (app' ≡ app)
TellsWrite (Err error) code was now app app' = (code ≡ write_code error) × (now ≡ was) × (app' ≡ write_stop error app)

-- a write that is blocked on a stream which the peer stopped counts as stopped
abbrev pub stopped_first : Result ℕ WriteError → Result (Option ℕ) ClosedStream → Result ℕ WriteError
stopped_first (Err write_error.Blocked) (Ok (Some code)) = Err (write_error.Stopped code)
stopped_first answer stop = answer

-- that a stream was ended, or why not
abbrev pub TellsFinish : Result (Unit {0}) FinishError → ℤ → ℕ → ℕ → Type 0
TellsFinish (Ok x) code app app' = (code ≡ pos 0) × (app' ≡ app)
TellsFinish (Err error) code app app' = (code ≡ finish_code error) × (app' ≡ finish_stop error app)

-- what a read gave: the count is 0 where it gave no bytes
abbrev pub TellsRead : Result ReadInto ReadableError → ℤ → ℕ → ℕ → ℕ → ℕ → ℕ → ℕ → Type 0
TellsRead (Ok r) code count count' offset offset' app app' = (count' ≡ r.count)
    × (code ≡ (if r.count == 0 then last_code r.last else pos 0))
    × (offset' ≡ (if r.count == 0 then offset else r.offset)) × (app' ≡ (if r.count == 0 then last_reset r.last app else app))
TellsRead (Err error) code count count' offset offset' app app' = (code ≡ readable_code error) × (count' ≡ readable_count error count) × (offset' ≡ offset) × (app' ≡ app)

-- the answer of a read of several chunks: whether more may be at hand, nothing more is now, or nothing more comes
abbrev pub many_code : LastAnswer → ℕ → ℤ
many_code last_answer.Blocked count = pos 1
many_code last_answer.Ended count = pos 2
many_code (last_answer.Reset code) count = negsuc 7
many_code last_answer.Memory count = if count == 0 then negsuc 1 else pos 0
many_code last_answer.More count = pos 0

-- what such a read gave: each answer but a refusal tells the count
abbrev pub TellsMany : Result ReadInto ReadableError → ℤ → ℕ → ℕ → ℕ → ℕ → ℕ → ℕ → Type 0
TellsMany (Ok r) code count count' offset offset' app app' = (count' ≡ r.count) × (code ≡ many_code r.last r.count)
    × (offset' ≡ (if r.count == 0 then offset else r.offset)) × (app' ≡ last_reset r.last app)
TellsMany (Err error) code count count' offset offset' app app' = (code ≡ readable_code error) × (count' ≡ readable_count error count) × (offset' ≡ offset) × (app' ≡ app)
