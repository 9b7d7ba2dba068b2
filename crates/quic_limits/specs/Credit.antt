-- The credit of a connection for the data that it receives (RFC 9000 sections 4.1 and 4.2).
use Rattle.std.specs.Prelude.{ℕ, Bool, ◌+◌, ◌-◌, ◌/◌, ◌^◌, ◌&&◌, min, max, nat_le, nat_lt, if◌then◌else◌}

-- receive_window: how many bytes may be received and not consumed
-- local_max_data: how many bytes the peer may send in all
-- sent_max_data: the last limit that was announced
-- data_recvd: the sum of the highest offsets received, over all streams
-- shrink_debt: how many consumed bytes give no credit, since the window was made smaller
pub record Credit : Type 0 where
  pub receive_window : ℕ
  pub local_max_data : ℕ
  pub sent_max_data : ℕ
  pub data_recvd : ℕ
  pub shrink_debt : ℕ

abbrev pub new_credit : ℕ → Credit
new_credit window = record { receive_window = window; local_max_data = window; sent_max_data = window; data_recvd = 0; shrink_debt = 0 }

-- n bytes were consumed: they pay the debt first, and raise the limit by what is left
abbrev pub credited : Credit → ℕ → Credit
credited c n = record c { local_max_data = min (c.local_max_data + (n - c.shrink_debt)) (2 ^ 64 - 1); shrink_debt = c.shrink_debt - n }

-- the limit can be announced, and has grown by an eighth of the window since it was last
abbrev pub is_max_data_due : Credit → Bool
is_max_data_due c = nat_le c.local_max_data (2 ^ 62 - 1) && nat_le (c.sent_max_data + c.receive_window / 8) c.local_max_data

-- the highest offsets grew by n in all
abbrev pub counted : Credit → ℕ → Credit
counted c n = record c { data_recvd = c.data_recvd + n }

-- the limit that a MAX_DATA frame announces
abbrev pub max_data_of : Credit → ℕ
max_data_of c = min c.local_max_data (2 ^ 62 - 1)

abbrev pub announced : Credit → Credit
announced c = record c { sent_max_data = max c.sent_max_data (max_data_of c) }

-- a larger window raises the limit by the gain, a smaller one adds the loss to the debt
abbrev pub resized : Credit → ℕ → Credit
resized c window = if nat_lt c.receive_window window
    then record c { receive_window = window; local_max_data = min (c.local_max_data + (window - c.receive_window)) (2 ^ 64 - 1) }
    else record c { receive_window = window; shrink_debt = min (c.shrink_debt + (c.receive_window - window)) (2 ^ 64 - 1) }
