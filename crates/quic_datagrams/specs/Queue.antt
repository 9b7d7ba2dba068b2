-- Datagrams that wait, the oldest first.
use Rattle.std.specs.Prelude.{◌≡◌, ℕ, ◌+◌, ◌-◌, ◌^◌, ◌≤◌, Bool, true, false, ◌&&◌, List, [], ◌∷◌, ◌++◌, length, filter, nat_lt, nat_le, Option, Some, None, if◌then◌else◌}
use Rattle.quic_wire.specs.declared.frame.Datagram.{Datagram}
use Rattle.quic_wire.specs.declared.error.ReceiveError.{ReceiveError}
use Rattle.quic_wire.specs.declared.error.ReceiveError.TheVariants as receive_error
use Rattle.quic_wire.specs.Codes.{PROTOCOL_VIOLATION}
use Rattle.quic_wire.specs.Text.{datagram_text}

-- what a datagram counts: its length, and 32
abbrev pub cost : Datagram → ℕ
cost d = length d.bytes + 32

abbrev pub total_cost : List Datagram → ℕ
total_cost [] = 0
total_cost (d ∷ ds) = cost d + total_cost ds

-- the length of the oldest datagram, if one waits
abbrev pub oldest_length : List Datagram → Option ℕ
oldest_length [] = None
oldest_length (d ∷ ds) = Some (length d.bytes)

-- the longest end of a queue that counts at most n
abbrev pub newest_within : ℕ → List Datagram → List Datagram
newest_within n [] = []
newest_within n (d ∷ ds) = if nat_le (total_cost (d ∷ ds)) n then d ∷ ds else newest_within n ds

-- a queue under a window, once a datagram is added: the oldest went until it fitted
abbrev pub with_newest : ℕ → List Datagram → Datagram → List Datagram
with_newest window ds d = newest_within (window - cost d) ds ++ d ∷ []

-- what stays of a queue once its oldest went: an end of it that counts at most n, and no longer one does
pub record IsNewestWithin (n : ℕ) (old kept : List Datagram) : Type 0 where
  pub gone : List Datagram
  pub oldest_first : old ≡ gone ++ kept
  pub within : total_cost kept ≤ n
  pub longest : (front end : List Datagram) → old ≡ front ++ end → total_cost end ≤ n → length end ≤ length kept

-- a datagram joined a queue under a window: of the oldest went no more than had to, and it stands behind the others
abbrev pub JoinsWithin : ℕ → List Datagram → Datagram → List Datagram → Type 0
JoinsWithin window old d new = (kept : List Datagram) × (new ≡ kept ++ d ∷ []) × (IsNewestWithin (window - cost d) old kept)

-- the datagrams of at most n bytes
abbrev pub no_longer_than : ℕ → List Datagram → List Datagram
no_longer_than n ds = filter (λ d. nat_le (length d.bytes) n) ds

-- a frame of a datagram, with a length, takes at most n bytes. There is no such frame of 2^62 bytes or more
abbrev pub fits_in : Datagram → ℕ → Bool
fits_in d n = nat_lt (length d.bytes) (2 ^ 62) && nat_le (length (datagram_text d true)) n

abbrev pub oldest_fits_in : List Datagram → ℕ → Bool
oldest_fits_in [] n = false
oldest_fits_in (d ∷ ds) n = fits_in d n

-- the oldest datagram ends within a maximum, behind so many bytes
abbrev pub ends_within : ℕ → ℕ → List Datagram → Bool
ends_within max len ds = nat_le len max && oldest_fits_in ds (max - len)

-- the oldest datagram left the queue and stands behind the buffer, or nothing changed, as it would not end within
-- the maximum
abbrev pub IsWritten : ℕ → List Datagram → List Datagram → List ℕ → List ℕ → Bool → Type 0
IsWritten max old new buf buf' true = (d : Datagram) × (old ≡ d ∷ new) × (buf' ≡ buf ++ datagram_text d true) × (length buf' ≤ max)
IsWritten max old new buf buf' false = (ends_within max (length buf) old ≡ false) × (new ≡ old) × (buf' ≡ buf)

-- a datagram fits a window alone
abbrev pub fits_alone : Option ℕ → Datagram → Bool
fits_alone None d = false
fits_alone (Some window) d = nat_le (cost d) window

-- why a received datagram is refused: it fits no window, or memory ran out
abbrev pub IsReceiveRefusal : Option ℕ → Datagram → ReceiveError → Type 0
IsReceiveRefusal window d (receive_error.Transport e) = (fits_alone window d ≡ false) × (e.code ≡ PROTOCOL_VIOLATION)
IsReceiveRefusal window d receive_error.OutOfMemory = fits_alone window d ≡ true
IsReceiveRefusal window d receive_error.CompactionMemory = ⊥
