-- Entries by rising keys, in rows.
use Rattle.std.specs.Prelude.{ℕ, ◌≡◌, ◌≢◌, ◌+◌, ◌^◌, ◌<◌, ◌≤◌, ◌⊎◌, Bool, true, List, [], ◌∷◌, ◌++◌, length, take, drop, slice_index_or}
use Rattle.block_map.specs.Sorted.{KeyAndValue, KeysRise}

-- rows one behind another
abbrev pub flat : List (List KeyAndValue) → List KeyAndValue
flat [] = []
flat (r ∷ rs) = r ++ flat rs

-- what contracts see of a map: its entries, the rows that they lie in, and whether there is room for one more
pub record Entries : Type 0 where
  pub items : List KeyAndValue
  pub rows : List (List KeyAndValue)
  pub room : Bool

abbrev pub as_entries : List (List KeyAndValue) → Bool → Entries
as_entries rows room = record { items = flat rows; rows = rows; room = room }

-- a place of a row is one of its entries
abbrev pub IsPlace : List (List KeyAndValue) → ℕ → ℕ → Type 0
IsPlace rows block index = (block < length rows) × (index < length (slice_index_or rows block []))

-- where the entry at a place of a row stands among all
abbrev pub place_among : List (List KeyAndValue) → ℕ → ℕ → ℕ
place_among rows block index = length (flat (take block rows)) + index

-- of two neighbours, both together have more entries than a row has room for
abbrev pub AreFull : List (List KeyAndValue) → Type 0
AreFull rows = (i : ℕ) (d e : List KeyAndValue) → i + 1 < length rows → 64 < length (slice_index_or rows i d) + length (slice_index_or rows (i + 1) e)

-- the key of the first entry
abbrev pub first_key : List KeyAndValue → ℕ
first_key [] = 0
first_key (e ∷ es) = e.0

-- the first keys of rows rise
abbrev pub FirstsRise : List (List KeyAndValue) → Type 0
FirstsRise rows = (i j : ℕ) (d e : List KeyAndValue) → i < j → j < length rows → first_key (slice_index_or rows i d) < first_key (slice_index_or rows j e)

-- a row, behind so many entries that are gone
pub record IsBlock (most first start : ℕ) (xs : List KeyAndValue) : Type 0 where
  pub some : start < length xs
  pub fits : length xs ≤ most
  pub head : first ≡ first_key (drop start xs)
  pub rises : KeysRise (drop start xs)

-- no row is empty
abbrev pub HasSome : List (List KeyAndValue) → Type 0
HasSome rows = (i : ℕ) (d : List KeyAndValue) → i < length rows → 0 < length (slice_index_or rows i d)

-- memory of a row with so many entries has room for 4, and for 64 where they are more
pub record IsRowMemory (capacity count : ℕ) : Type 0 where
  pub few : 4 ≤ capacity
  pub many : 4 < count → 64 ≤ capacity

-- there is room for one entry more: in the only row, or for a new row, where others are one with memory for 64
abbrev pub HasRoomForOne : List (List KeyAndValue) → ℕ → ℕ → Type 0
HasRoomForOne rs capacity spare = ((length rs ≡ 1) × ((length (slice_index_or rs 0 []) < 32) × (length (slice_index_or rs 0 []) ≢ 4)))
    ⊎ ((length rs < capacity) × ((4 ≤ spare) × (0 < length rs → 64 ≤ spare)))

-- a map: no row is empty, keys rise over all, and there is room where it says so
pub record IsMap (rows : List (List KeyAndValue)) (len : ℕ) (spare : List KeyAndValue) (ready : Bool) (capacity spare_capacity : ℕ) : Type 0 where
  pub some : HasSome rows
  pub rises : KeysRise (flat rows)
  pub len_is : len ≡ length (flat rows)
  pub empty : spare ≡ []
  pub room : ready ≡ true → HasRoomForOne rows capacity spare_capacity × (len < 2 ^ 62)
