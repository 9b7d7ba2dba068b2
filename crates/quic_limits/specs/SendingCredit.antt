-- The credit of a connection for the data that it sends (RFC 9000 section 4.1), and how much of it may be retained.
use Rattle.std.specs.Prelude.{ℕ, Bool, false, ◌+◌, ◌-◌, ◌^◌, ◌&&◌, ◌==◌, not, min, max, Option, Some, None, if◌then◌else◌}

-- max_data: how many bytes may be sent in all
-- data_sent: how many bytes were written in all
-- buffered_data: how many written bytes are retained
-- send_window: how many bytes may be retained
-- blocked_at: the limit for which DATA_BLOCKED was queued last
pub record SendingCredit : Type 0 where
  pub max_data : ℕ
  pub data_sent : ℕ
  pub buffered_data : ℕ
  pub send_window : ℕ
  pub blocked_at : Option ℕ

-- nothing may be sent, and nothing was
abbrev pub no_credit : ℕ → SendingCredit
no_credit window = record { max_data = 0; data_sent = 0; buffered_data = 0; send_window = window; blocked_at = None }

-- how many bytes the limit leaves, and how many the window
abbrev pub limit_left : SendingCredit → ℕ
limit_left c = c.max_data - c.data_sent

abbrev pub window_left : SendingCredit → ℕ
window_left c = c.send_window - c.buffered_data

-- how many bytes may be written
abbrev pub writable : SendingCredit → ℕ
writable c = min (limit_left c) (window_left c)

-- n bytes were written
abbrev pub with_written : SendingCredit → ℕ → SendingCredit
with_written c n = record c { data_sent = c.data_sent + n; buffered_data = c.buffered_data + n }

-- the same, up to the greatest number of 64 bits
abbrev pub saturated : SendingCredit → SendingCredit
saturated c = record c { data_sent = min c.data_sent (2 ^ 64 - 1); buffered_data = min c.buffered_data (2 ^ 64 - 1) }

-- n bytes are retained no more
abbrev pub with_released : SendingCredit → ℕ → SendingCredit
with_released c n = record c { buffered_data = c.buffered_data - n }

-- the peer gave a limit
abbrev pub with_limit : SendingCredit → ℕ → SendingCredit
with_limit c limit = record c { max_data = max c.max_data limit }

abbrev pub with_window : SendingCredit → ℕ → SendingCredit
with_window c window = record c { send_window = window }

abbrev pub is_limit : ℕ → Option ℕ → Bool
is_limit limit None = false
is_limit limit (Some at) = at == limit

-- DATA_BLOCKED was queued for the limit that is held
abbrev pub is_blocked_reported : SendingCredit → Bool
is_blocked_reported c = is_limit c.max_data c.blocked_at

-- the limit holds data back, and DATA_BLOCKED was not queued for it
abbrev pub is_blocked_due : SendingCredit → Bool
is_blocked_due c = (c.data_sent == c.max_data) && not (is_blocked_reported c)

-- DATA_BLOCKED is queued where it is due
abbrev pub with_blocked : SendingCredit → SendingCredit
with_blocked c = if is_blocked_due c then record c { blocked_at = Some c.max_data } else c
