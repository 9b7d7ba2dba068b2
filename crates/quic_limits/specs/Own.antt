-- The streams of one direction that an end may open itself (RFC 9000 section 4.6).
use Rattle.std.specs.Prelude.{ℕ, ◌+◌, ◌^◌, ◌≤◌, min, max, nat_lt, Option, Some, None, if◌then◌else◌}

-- opened: how many it opened, which is the next index
-- limit: how many it may open in all
pub record Own : Type 0 where
  pub opened : ℕ
  pub limit : ℕ

-- none was opened, and none may be
abbrev pub no_own : Own
no_own = record { opened = 0; limit = 0 }

-- the index of the next, where it may be opened
abbrev pub next_own : Own → Option ℕ
next_own o = if nat_lt o.opened o.limit then Some o.opened else None

-- the next is opened, where it may be
abbrev pub with_next_own : Own → Own
with_next_own o = if nat_lt o.opened o.limit then record o { opened = o.opened + 1 } else o

-- the peer gave a count; there are 2^60 streams at most
abbrev pub with_count : Own → ℕ → Own
with_count o count = record o { limit = max o.limit (min count (2 ^ 60)) }

-- what is true of all
pub record IsOwn (o : Own) : Type 0 where
  pub opened : o.opened ≤ o.limit
  pub limit : o.limit ≤ 2 ^ 60
