-- A write that may finish its stream.
use Rattle.std.specs.Prelude.{ℕ, ℤ, Bool, true, false, pos, negsuc, ◌≡◌, ◌==◌, ◌&&◌, not, List, length, Result, Ok, Err}
use Rattle.quic_sending.specs.declared.send.WriteError.{WriteError}
use Rattle.quic_sending.specs.declared.send.WriteError.TheVariants as write_error
use Rattle.quic_sending.specs.declared.send.FinishError.{FinishError}
use Rattle.quic_session.specs.declared.session.Session.{Session}
use Rattle.quic_streams_c.specs.Answers.{write_code, write_stop, stopped_first, TellsFinish}
use Rattle.quic_streams_c.specs.Calls.{Refuses, WithNumber}
use Rattle.quic_streams_c.specs.Numbers.{small}
use Rattle.quic_streams_c.specs.Sessions.{SessionWrites, SessionFinishes, stop_code_of}

-- a write without bytes that is to finish its stream is the end alone
abbrev pub is_end_alone : List ℕ → ℕ → Bool
is_end_alone bytes fin = (length bytes == 0) && not (fin == 0)

-- a write took all of so many bytes, and is to finish its stream
abbrev pub ends_write : Result ℕ WriteError → ℕ → ℕ → Bool
ends_write (Ok n) len fin = (n == len) && not (fin == 0)
ends_write (Err e) len fin = false

-- how many bytes were written, or why none
abbrev pub TellsPart : Result ℕ WriteError → ℤ → ℕ → ℕ → ℕ → Type 0
TellsPart (Ok n) code now app app' = (code ≡ pos 0) × (now ≡ n) × (app' ≡ app)
TellsPart (Err error) code now app app' = (code ≡ write_code error) × (now ≡ 0) × (app' ≡ write_stop error app)

-- the stream is finished behind so many bytes that were written
abbrev pub EndsBehind : ℕ → Session → ℕ → ℤ → Session → ℕ → ℕ → ℕ → Type 0
EndsBehind len s i code t now app app' = (end : Result (Unit {0}) FinishError) × SessionFinishes s i end t × (now ≡ len) × TellsFinish end code app app'

-- a write that took all is followed by the end, if that is asked for; any other is told as qs_stream_write tells it
abbrev pub EndsIfAll : Bool → Session → ℕ → ℕ → Result ℕ WriteError → ℤ → Session → ℕ → ℕ → ℕ → Type 0
EndsIfAll false m i len answer code t now app app' = (t ≡ m) × TellsPart (stopped_first answer (stop_code_of m i)) code now app app'
EndsIfAll true m i len answer code t now app app' = EndsBehind len m i code t now app app'

-- bytes are written, and the end behind them; the end alone needs no credit
abbrev pub WritesThenEnds : Bool → Session → ℕ → List ℕ → ℕ → ℤ → Session → ℕ → ℕ → ℕ → Type 0
WritesThenEnds true s i bytes fin code t now app app' = EndsBehind 0 s i code t now app app'
WritesThenEnds false s i bytes fin code t now app app' =
    (m : Session) × (answer : Result ℕ WriteError) × SessionWrites s i bytes answer m × EndsIfAll (ends_write answer (length bytes) fin) m i (length bytes) answer code t now app app'

-- qs_stream_write_fin
abbrev pub WritesFinRaw : Session → ℕ → List ℕ → ℕ → ℤ → Session → ℕ → ℕ → ℕ → ℕ → Type 0
WritesFinRaw s id bytes fin code t was now app app' = WithNumber (small id) (Refuses s code t × (now ≡ was) × (app' ≡ app)) (λ i.
    WritesThenEnds (is_end_alone bytes fin) s i bytes fin code t now app app')
