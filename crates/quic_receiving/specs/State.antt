-- How far the peer has told where a stream ends.
use Rattle.std.specs.Prelude.{ℕ, Option, Some, None}
use Rattle.quic_receiving.specs.declared.state.RecvState.{RecvState}
use Rattle.quic_receiving.specs.declared.state.RecvState.TheVariants.{Recv, ResetRecvd}

-- the final size, where it is known
abbrev pub known_size : RecvState → Option ℕ
known_size (Recv size) = size
known_size (ResetRecvd size error_code) = Some size

-- the code of the RESET_STREAM, if one was taken
abbrev pub reset_code_of : RecvState → Option ℕ
reset_code_of (Recv size) = None
reset_code_of (ResetRecvd size error_code) = Some error_code
