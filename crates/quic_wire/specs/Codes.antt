-- The codes of transport errors that streams and datagrams can end a connection with (RFC 9000 section 20.1).
use Rattle.std.specs.Prelude.{ℕ}

abbrev pub INTERNAL_ERROR : ℕ
INTERNAL_ERROR = 1

abbrev pub STREAM_LIMIT_ERROR : ℕ
STREAM_LIMIT_ERROR = 4

abbrev pub STREAM_STATE_ERROR : ℕ
STREAM_STATE_ERROR = 5

abbrev pub FRAME_ENCODING_ERROR : ℕ
FRAME_ENCODING_ERROR = 7

abbrev pub CONNECTION_ID_LIMIT_ERROR : ℕ
CONNECTION_ID_LIMIT_ERROR = 9

abbrev pub PROTOCOL_VIOLATION : ℕ
PROTOCOL_VIOLATION = 10
