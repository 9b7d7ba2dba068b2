-- Entries by rising keys, as a list.
use Rattle.std.specs.Prelude.{ℕ, ◌<◌, ◌≤◌, ◌&&◌, not, nat_le, List, length, slice_index_or}
use Rattle.std.specs.List.{filter}

-- a key and its value
abbrev pub KeyAndValue : Type 0
KeyAndValue = ℕ × ℕ

-- each key is below those behind it
abbrev pub KeysRise : List KeyAndValue → Type 0
KeysRise xs = (i j : ℕ) (d e : KeyAndValue) → i < j → j < length xs → (slice_index_or xs i d).0 < (slice_index_or xs j e).0

-- the last entry with a key up to n
pub record IsLastUpTo (xs : List KeyAndValue) (n at : ℕ) : Type 0 where
  pub fits : at < length xs
  pub up_to : (d : KeyAndValue) → (slice_index_or xs at d).0 ≤ n
  pub above : (k : ℕ) (d : KeyAndValue) → at < k → k < length xs → n < (slice_index_or xs k d).0

-- the first entry with a key from n on
pub record IsFirstFrom (xs : List KeyAndValue) (n at : ℕ) : Type 0 where
  pub fits : at < length xs
  pub from : (d : KeyAndValue) → n ≤ (slice_index_or xs at d).0
  pub below : (k : ℕ) (d : KeyAndValue) → k < at → (slice_index_or xs k d).0 < n

-- a key can be put in so far behind the front
pub record GoesAt (xs : List KeyAndValue) (at key : ℕ) : Type 0 where
  pub fits : at ≤ length xs
  pub below : (k : ℕ) (d : KeyAndValue) → k < at → (slice_index_or xs k d).0 < key
  pub above : (k : ℕ) (d : KeyAndValue) → at ≤ k → k < length xs → key < (slice_index_or xs k d).0

-- a key can stand in the place of another
pub record FitsAt (xs : List KeyAndValue) (at key : ℕ) : Type 0 where
  pub fits : at < length xs
  pub below : (k : ℕ) (d : KeyAndValue) → k < at → (slice_index_or xs k d).0 < key
  pub above : (k : ℕ) (d : KeyAndValue) → at < k → k < length xs → key < (slice_index_or xs k d).0

-- the entries whose keys do not lie between two numbers, both included
abbrev pub without_keys : List KeyAndValue → ℕ → ℕ → List KeyAndValue
without_keys xs from to = filter (λ e. not (nat_le from e.0 && nat_le e.0 to)) xs
