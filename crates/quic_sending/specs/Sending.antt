-- The send half of a stream (RFC 9000 section 3.1).
use Rattle.std.specs.Prelude.{◌≡◌, ◌⊎◌, min, ℕ, ◌-◌, Bool, true, false, ◌||◌, nat_le, if◌then◌else◌, Option, Some, None}
use Rattle.quic_sending.specs.declared.send.Send.{Send}
use Rattle.quic_sending.specs.declared.send.SendState.{SendState}
use Rattle.quic_sending.specs.declared.send.SendState.TheVariants.{Ready, DataSent, ResetSent}
use Rattle.quic_sending.specs.declared.send.WriteError.{WriteError}
use Rattle.quic_sending.specs.declared.send.WriteError.TheVariants as write_error
use Rattle.quic_sending.specs.declared.send.FinishError.{FinishError}
use Rattle.quic_sending.specs.declared.send.FinishError.TheVariants as finish_error

-- neither finished nor reset
abbrev pub is_ready : SendState → Bool
is_ready Ready = true
is_ready (DataSent finish_acked) = false
is_ready ResetSent = false

abbrev pub is_reset_sent : SendState → Bool
is_reset_sent Ready = false
is_reset_sent (DataSent finish_acked) = false
is_reset_sent ResetSent = true

-- how many bytes the stream's limit leaves
abbrev pub stream_room : Send → ℕ
stream_room s = s.max_data - s.pending.offset

-- how many bytes a write may take that is handed a limit
abbrev pub permitted : Send → ℕ → ℕ
permitted s limit = min limit (stream_room s)

-- why a write is refused
abbrev pub write_refusal : Send → Option WriteError
write_refusal s = if is_ready s.state then stopped s.stop_reason else Some write_error.ClosedStream
  where
    stopped : Option ℕ → Option WriteError
    stopped None = if nat_le s.max_data s.pending.offset then Some write_error.Blocked else None
    stopped (Some code) = Some (write_error.Stopped code)

-- the answer of a write that takes nothing: that refusal or, where there is none, lack of memory
abbrev pub IsWriteRefusal : Send → WriteError → Type 0
IsWriteRefusal s e = (write_refusal s ≡ Some e) ⊎ ((write_refusal s ≡ None) × (e ≡ write_error.OutOfMemory))

-- why a finish is refused
abbrev pub finish_refusal : Send → Option FinishError
finish_refusal s = stopped s.stop_reason
  where
    stopped : Option ℕ → Option FinishError
    stopped None = if is_ready s.state then None else Some finish_error.ClosedStream
    stopped (Some code) = Some (finish_error.Stopped code)

-- the state once a frame is acknowledged, with the end or not
abbrev pub after_ack : SendState → Bool → SendState
after_ack Ready fin = Ready
after_ack (DataSent finish_acked) fin = DataSent (finish_acked || fin)
after_ack ResetSent fin = ResetSent

-- whether the end is acknowledged
abbrev pub is_finish_acked : SendState → Bool
is_finish_acked Ready = false
is_finish_acked (DataSent finish_acked) = finish_acked
is_finish_acked ResetSent = false
