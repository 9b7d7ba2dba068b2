-- The streams that a host was given, and its words.
use Rattle.std.specs.Prelude.{ℕ, ◌&&◌, suc, zero, Bool, true, false, is_none, is_some, List, [], ◌∷◌, ◌++◌, Option, Some, None, unwrap_or}
use Rattle.std.specs.Global.{Box}
use Rattle.std.specs.Map.{lookup, set_value, remove_entry}
use Rattle.std.specs.BTreeMap.{is_at, insert_entry}
use Rattle.std.specs.Ordering.{nat_cmp}
use Rattle.block_map.specs.Sorted.{KeyAndValue}
use Rattle.quic_session.specs.declared.tracked.Tracked.{Tracked}
use Rattle.quic_session.specs.declared.users.Users.{Users}

-- streams: the streams that the host was given and of whose end it was not told, each with 1 if it stands in touched, else 0
-- words: the words that the host set for them
-- touched: the streams that a call named by which they may have ended, the oldest first
-- ready: whether there is room for one more stream
-- tracks: whether the session keeps all this
pub record UsersView : Type 0 where
  pub streams : List KeyAndValue
  pub words : List KeyAndValue
  pub touched : List ℕ
  pub ready : Bool
  pub tracks : Bool

abbrev pub no_users : UsersView
no_users = record { streams = []; words = []; touched = []; ready = false; tracks = false }

abbrev pub tracked_view : Tracked → UsersView
tracked_view u = record { streams = u.streams.items; words = u.words.items; touched = u.touched.items; ready = u.ready; tracks = true }

-- no stream is kept where the host did not ask for it
abbrev pub tracking_view : Option (Box Tracked) → UsersView
tracking_view None = no_users
tracking_view (Some u) = tracked_view u.value

abbrev pub users_view : Users → UsersView
users_view u = tracking_view u.tracked

-- room for one more stream was made, where streams are kept
abbrev pub with_room : UsersView → UsersView
with_room u = record u { ready = u.tracks }

-- none of the streams is kept any more
abbrev pub without_streams : UsersView → UsersView
without_streams u = record no_users { tracks = u.tracks }

-- what a map has for a stream
abbrev pub at : List KeyAndValue → ℕ → Option ℕ
at entries id = lookup (is_at (nat_cmp id)) entries

-- the word of a stream, 0 if none is set
abbrev pub word_of : UsersView → ℕ → ℕ
word_of u id = unwrap_or (at u.words id) 0

-- whether the host was given a stream, and was not told that it is over
abbrev pub is_known : UsersView → ℕ → Bool
is_known u id = is_some (at u.streams id)

-- a stream more, if there is room for it
abbrev pub with_known : ℕ → UsersView → UsersView
with_known id u = by_room (u.ready && is_none (at u.streams id))
  where
    by_room : Bool → UsersView
    by_room true = record u { streams = insert_entry nat_cmp u.streams id 0; ready = false }
    by_room false = u

abbrev pub with_word : ℕ → ℕ → UsersView → UsersView
with_word id word u = record u { words = insert_entry nat_cmp u.words id word }

-- a stream may have ended: it stands in touched, once
abbrev pub with_touched : ℕ → UsersView → UsersView
with_touched id u = by_mark (at u.streams id)
  where
    by_mark : Option ℕ → UsersView
    by_mark (Some zero) = record u { streams = set_value (is_at (nat_cmp id)) u.streams 1; touched = u.touched ++ id ∷ [] }
    by_mark (Some (suc n)) = u
    by_mark None = u

-- the oldest of touched is out, and others are left
abbrev pub without_first_touched : ℕ → List ℕ → UsersView → UsersView
without_first_touched id ids u = record u { streams = set_value (is_at (nat_cmp id)) u.streams 0; touched = ids }

-- what is given of a stream that is forgotten: its word
abbrev pub last_word : ℕ → UsersView → Option ℕ
last_word id u = by_mark (at u.streams id)
  where
    by_mark : Option ℕ → Option ℕ
    by_mark (Some zero) = Some (word_of u id)
    by_mark (Some (suc n)) = None
    by_mark None = None

-- a stream that does not stand in touched is forgotten, with its word
abbrev pub without_stream : ℕ → UsersView → UsersView
without_stream id u = by_mark (at u.streams id)
  where
    by_mark : Option ℕ → UsersView
    by_mark (Some zero) = record u { streams = remove_entry (is_at (nat_cmp id)) u.streams; words = remove_entry (is_at (nat_cmp id)) u.words; ready = false }
    by_mark (Some (suc n)) = u
    by_mark None = u
