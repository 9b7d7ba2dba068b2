-- What contracts see of the receive half of a stream (RFC 9000 sections 3.2, 4.1 and 4.5).
use Rattle.std.specs.Prelude.{◌≡◌, ℕ, ◌+◌, ◌-◌, ◌/◌, ◌^◌, ◌<◌, ◌≤◌, Bool, true, false, not, ◌&&◌, ◌||◌, ◌==◌, nat_lt, nat_le, if◌then◌else◌, min, max, Option, Some, None, is_none, is_some}
use Rattle.quic_assembler.specs.Reassembly.{Reassembly, fresh}
use Rattle.quic_receiving.specs.Counted.{IsCounted}
use Rattle.quic_values.specs.Offsets.{is_past}

pub record Half : Type 0 where
  -- what came and was not read
  pub buffer : Reassembly
  -- the final size, where it is known, by FIN or by RESET_STREAM
  pub size : Option ℕ
  -- the code of the RESET_STREAM that was taken
  pub reset : Option ℕ
  -- the highest offset received, which after a reset is the final size
  pub end : ℕ
  -- the last limit of the stream that was sent
  pub sent_max : ℕ
  -- whether the application stopped it
  pub stopped : Bool

-- a half to which nothing came
abbrev pub new_half : ℕ → Half
new_half limit = record { buffer = fresh; size = None; reset = None; end = 0; sent_max = limit; stopped = false }

-- what is true of every half
pub record IsHalf (h : Half) : Type 0 where
  pub end_bound : h.end < 2 ^ 62
  pub limit_bound : h.sent_max < 2 ^ 62
  -- a final size that is known is the highest offset received
  pub size_is : (size : ℕ) → h.size ≡ Some size → h.end ≡ size
  pub reset_sized : is_some h.reset ≡ true → is_some h.size ≡ true
  -- what is held, and what was read, came
  pub counted : IsCounted h.buffer
  pub within : h.buffer.highest ≤ h.end
  pub read_bound : h.buffer.bytes_read ≤ h.end

-- The codes of errors (RFC 9000 section 20.1).
abbrev pub internal_error : ℕ
internal_error = 1

abbrev pub flow_control_error : ℕ
flow_control_error = 3

abbrev pub final_size_error : ℕ
final_size_error = 6

-- what a frame is: the error of a code, or taken
pub data Verdict : Type 0 where
  Refused : ℕ → Verdict
  Taken : Verdict

-- how many bytes up to `end` are above the highest offset received
abbrev pub new_bytes : ℕ → ℕ → ℕ
new_bytes high end = end - high

-- whether data up to `end` go above the limit of the stream, or above that of the connection, of which `received` bytes are used
abbrev pub is_beyond : ℕ → ℕ → ℕ → ℕ → ℕ → Bool
is_beyond high limit end received max_data = nat_lt limit end || nat_lt max_data (received + new_bytes high end)

abbrev pub verdict_of_limits : ℕ → ℕ → ℕ → ℕ → ℕ → Verdict
verdict_of_limits high limit end received max_data = if is_beyond high limit end received max_data then Refused flow_control_error else Taken

-- the verdict on a STREAM frame that ends at `end`: the first test that fails decides
abbrev pub verdict_by : Option ℕ → ℕ → ℕ → ℕ → Bool → ℕ → ℕ → Verdict
verdict_by size high limit end fin received max_data =
    if nat_le (2 ^ 62) end then Refused flow_control_error
    else if is_past size end fin then Refused final_size_error
    else if fin && nat_lt end high then Refused final_size_error
    else verdict_of_limits high limit end received max_data

-- the verdict on a STREAM frame of `count` bytes at `offset`
abbrev pub verdict : Half → ℕ → ℕ → Bool → ℕ → ℕ → Verdict
verdict h offset count fin received max_data = verdict_by h.size h.end h.sent_max (offset + count) fin received max_data

-- whether a reset tells another final size than the known one, or one below the highest offset received
abbrev pub is_unfit : Option ℕ → ℕ → ℕ → Bool
is_unfit None high final = nat_lt final high
is_unfit (Some size) high final = not (final == size)

-- the verdict on a RESET_STREAM with a final size
abbrev pub reset_verdict : Half → ℕ → ℕ → ℕ → Verdict
reset_verdict h final received max_data =
    if is_unfit h.size h.end final then Refused final_size_error
    else verdict_of_limits h.end h.sent_max final received max_data

-- once a frame that ends at `end` counts
abbrev pub counted_to : Half → ℕ → Bool → Half
counted_to h end fin = record h { end = max h.end end; size = if fin then Some end else h.size }

-- how many bytes a stop gives credit for: those that were not read, and none after a reset, which gave it
abbrev pub stop_credit : Half → ℕ
stop_credit h = if is_none h.reset then h.end - h.buffer.bytes_read else 0

-- whether MAX_STREAM_DATA is of use: more data may come, and are wanted
abbrev pub is_open : Half → Bool
is_open h = is_none h.size && not h.stopped

-- the limit to announce
abbrev pub window_end : Half → ℕ → ℕ
window_end h window = min (h.buffer.bytes_read + window) (2 ^ 62 - 1)

-- whether that limit is worth a frame: it is above the last one sent by an eighth of the window or more
abbrev pub is_window_due : Half → ℕ → Bool
is_window_due h window = is_open h && nat_le (window / 8) (window_end h window - h.sent_max)

-- whether so many bytes are all that there are
abbrev pub is_all : Option ℕ → ℕ → Bool
is_all None count = false
is_all (Some size) count = size == count
