-- The streams of one direction that the peer may open (RFC 9000 section 4.6).
use Rattle.std.specs.Prelude.{ℕ, Bool, true, false, ◌+◌, ◌-◌, ◌/◌, ◌^◌, ◌&&◌, ◌≤◌, ◌<◌, ◌≡◌, nat_le, nat_lt, min, if◌then◌else◌, Option, Some, None}

-- max_remote: how many it may open in all
-- sent_max_remote: the last count that was announced
-- allocated: how many it may use now: those permitted that are not wholly freed
-- max_concurrent: how many it is to be able to use at a time
-- next_remote: the lowest index that it did not open
-- next_reported: the lowest index that the application did not accept
-- opened: whether it opened some that the application was not told of
pub record Remote : Type 0 where
  pub max_remote : ℕ
  pub sent_max_remote : ℕ
  pub allocated : ℕ
  pub max_concurrent : ℕ
  pub next_remote : ℕ
  pub next_reported : ℕ
  pub opened : Bool

abbrev pub new_remote : ℕ → Remote
new_remote count = record { max_remote = count; sent_max_remote = count; allocated = count; max_concurrent = count; next_remote = 0; next_reported = 0; opened = false }

-- the peer may use fewer than it is to be able to use
abbrev pub lacks_streams : Remote → Bool
lacks_streams r = nat_lt r.allocated r.max_concurrent && nat_lt r.max_remote (2 ^ 60)

-- one more is permitted
abbrev pub one_permitted : Remote → Remote
one_permitted r = record r { max_remote = r.max_remote + 1; allocated = r.allocated + 1 }

-- one was wholly freed
abbrev pub freed : Remote → Remote
freed r = record r { allocated = r.allocated - 1 }

-- one was wholly freed, and another takes its place where the peer may use too few
abbrev pub replaced : Remote → Remote
replaced r = if lacks_streams (freed r) then one_permitted (freed r) else freed r

-- the index that takes the place of one that was wholly freed
abbrev pub replacement : Remote → Option ℕ
replacement r = if lacks_streams (freed r) then Some r.max_remote else None

-- the peer opened a stream, and with it all of lower index
abbrev pub opened_up_to : Remote → ℕ → Remote
opened_up_to r index = if nat_le r.next_remote index then record r { next_remote = index + 1; opened = true } else r

-- the count has grown by more than an eighth of the streams at a time since it was last announced
abbrev pub is_max_streams_due : Remote → Bool
is_max_streams_due r = nat_lt (r.max_concurrent / 8) (r.max_remote - r.sent_max_remote)

abbrev pub streams_announced : Remote → Remote
streams_announced r = record r { sent_max_remote = r.max_remote }

-- no count was announced, as far as the peer can have taken one
abbrev pub none_announced : Remote → Remote
none_announced r = record r { sent_max_remote = 0 }

-- how many more are permitted once it is to be able to use so many at a time; there are 2^60 streams at most
abbrev pub lacking : Remote → ℕ → ℕ
lacking r count = min (count - r.allocated) (2 ^ 60 - r.max_remote)

-- it is to be able to use so many at a time
abbrev pub with_concurrent : Remote → ℕ → Remote
with_concurrent r count = record r { max_concurrent = count; max_remote = r.max_remote + lacking r count; allocated = r.allocated + lacking r count }

-- the lowest index that the application did not accept, if the peer opened it
abbrev pub acceptable_index : Remote → Option ℕ
acceptable_index r = if nat_lt r.next_reported r.next_remote then Some r.next_reported else None

-- it was accepted
abbrev pub one_accepted : Remote → Remote
one_accepted r = if nat_lt r.next_reported r.next_remote then record r { next_reported = r.next_reported + 1 } else r

-- the application was told that it opened some
abbrev pub opening_told : Remote → Remote
opening_told r = record r { opened = false }

-- how many of those that it opened are not wholly freed, as far as the counts tell
abbrev pub open_now : Remote → ℕ
open_now r = r.next_remote - (r.max_remote - r.allocated)

-- what is true of all
pub record IsRemote (r : Remote) : Type 0 where
  pub max_remote : r.max_remote ≤ 2 ^ 60
  pub max_concurrent : r.max_concurrent < 2 ^ 62
  pub sent : r.sent_max_remote ≤ r.max_remote
  pub allocated : r.allocated ≤ r.max_remote
  pub enough : lacks_streams r ≡ false
  pub next : r.next_remote ≤ r.max_remote
  pub reported : r.next_reported ≤ r.next_remote
