-- What comes of the limits of the peer's transport parameters.
use Rattle.std.specs.Prelude.{ℕ, Bool, ◌≡◌, ◌&&◌, ◌^◌, nat_le, true, false, Option, Some, None, Result, Ok, Err}
use Rattle.quic_outgoing.specs.declared.limits.PeerLimits.{PeerLimits}
use Rattle.quic_history.specs.History.{Event, Sending}
use Rattle.quic_history.specs.SendEvents.{GaveLimits}
use Rattle.quic_session.specs.declared.params.ParamsError.{ParamsError}
use Rattle.quic_session.specs.declared.params.ParamsError.TheVariants as params_error

-- the code of an error in transport parameters (RFC 9000 section 20.1)
abbrev pub TRANSPORT_PARAMETER_ERROR : ℕ
TRANSPORT_PARAMETER_ERROR = 8

-- the stream limits are at most 2^60 (RFC 9000 section 18.2)
abbrev pub are_stream_limits : PeerLimits → Bool
are_stream_limits p = nat_le p.initial_max_streams_bidi (2 ^ 60) && nat_le p.initial_max_streams_uni (2 ^ 60)

-- greater stream limits, and no others, are refused with TRANSPORT_PARAMETER_ERROR
abbrev pub ChecksLimits : PeerLimits → Result (Unit {0}) ParamsError → Type 0
ChecksLimits p (Ok x) = are_stream_limits p ≡ true
ChecksLimits p (Err params_error.OutOfMemory) = are_stream_limits p ≡ true
ChecksLimits p (Err (params_error.Transport error)) = (are_stream_limits p ≡ false) × (error.code ≡ TRANSPORT_PARAMETER_ERROR)

-- the call of the streams that it is. They are not asked for limits that are refused
abbrev pub params_call : PeerLimits → Result (Unit {0}) ParamsError → Option Event
params_call p (Ok x) = Some (Sending (GaveLimits p (Ok tt)))
params_call p (Err params_error.OutOfMemory) = Some (Sending (GaveLimits p (Err (record {}))))
params_call p (Err (params_error.Transport error)) = None
