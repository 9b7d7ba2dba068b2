-- What a send buffer retains: written bytes with their cuts, and four sets of offsets.
use Rattle.std.specs.Prelude.{◌≡◌, ℕ, ◌+◌, ◌-◌, ◌^◌, ◌<◌, ◌≤◌, Bool, true, false, if◌then◌else◌, ◌||◌, List, [], ◌∷◌, length, take, drop, nat_lt, min, ◌⊎◌}
use Rattle.quic_values.specs.Numbers.{size_of}
use Rattle.quic_ranges.specs.Runs.{Run, contains, is_in}
use Rattle.quic_sending.specs.Ranges.{IsNothing, IsLowestRun}

-- what a write of these bytes adds to the pieces
abbrev pub cut_of : List ℕ → List (List ℕ)
cut_of [] = []
cut_of (b ∷ bs) = (b ∷ bs) ∷ []

-- how many bytes there are in all pieces
abbrev pub total_length : List (List ℕ) → ℕ
total_length [] = 0
total_length (p ∷ ps) = length p + total_length ps

-- a queue of pieces
pub record Queued : Type 0 where
  pub held : List (List ℕ)
  -- how many bytes the pieces before those had
  pub gone : ℕ
  -- the offset behind the last one
  pub end : ℕ
  -- how many more there is memory for
  pub room : ℕ

-- the value of a send buffer
pub record Buffered : Type 0 where
  -- how many bytes were written
  pub offset : ℕ
  -- the first offset that was never sent
  pub unsent : ℕ
  -- all offsets below this one are acknowledged, and this one is not
  pub prefix : ℕ
  -- the acknowledged offsets above that
  pub later : List Run
  -- the offsets to be sent again
  pub lost : List Run
  -- the written pieces that the acknowledged prefix does not wholly cover
  pub held : List (List ℕ)
  -- how many bytes the pieces before those had
  pub gone : ℕ
  -- how many more pieces there is memory for
  pub room : ℕ

abbrev pub is_acked : Buffered → ℕ → Bool
is_acked v n = nat_lt n v.prefix || contains v.later n

abbrev pub is_lost : Buffered → ℕ → Bool
is_lost v n = contains v.lost n

abbrev pub is_sent : Buffered → ℕ → Bool
is_sent v n = nat_lt n v.unsent

-- whether an offset is to be sent: lost, or never sent
abbrev pub is_due : Buffered → ℕ → Bool
is_due v n = is_lost v n || is_in (v.unsent, v.offset) n

-- some offset is, or none
abbrev pub HasDue : Buffered → Type 0
HasDue v = (n : ℕ) × (is_due v n ≡ true)

abbrev pub HasNoneDue : Buffered → Type 0
HasNoneDue v = (n : ℕ) → is_due v n ≡ false

-- from a up to b is the lowest lost range or, where nothing is lost, the range that was never sent
abbrev pub IsNextRange : Buffered → ℕ → ℕ → Type 0
IsNextRange v a b = IsLowestRun v.lost a b ⊎ (IsNothing v.lost × (a ≡ v.unsent) × (b ≡ v.offset))

-- from a up to b is a front of the range that is to be sent next
pub record IsFrontOfNext (v : Buffered) (a b : ℕ) : Type 0 where
  pub limit : ℕ
  pub next : IsNextRange v a limit
  pub ordered : a ≤ b
  pub within : b ≤ limit

-- the bytes from s on, n at most, of the piece that holds the place s
abbrev pub piece_part : List (List ℕ) → ℕ → ℕ → List ℕ
piece_part [] s n = []
piece_part (p ∷ ps) s n = if nat_lt s (length p) then take n (drop s p) else piece_part ps (s - length p) n

-- the pieces that are not wholly below the place d
abbrev pub uncovered : ℕ → List (List ℕ) → List (List ℕ)
uncovered d [] = []
uncovered d (p ∷ ps) = if nat_lt d (length p) then p ∷ ps else uncovered (d - length p) ps

-- v may be the value of a buffer to which these pieces were written
pub record HasCuts (cuts : List (List ℕ)) (v : Buffered) : Type 0 where
  pub written : v.offset ≡ total_length cuts
  pub retained : v.held ≡ uncovered v.prefix cuts

-- xs is what some bytes begin with from s on, at most n of them, and some where there are some
pub record IsFrontAt (bytes : List ℕ) (s n : ℕ) (xs : List ℕ) : Type 0 where
  pub same : xs ≡ take (length xs) (drop s bytes)
  pub most : length xs ≤ n
  pub some : s < length bytes → 0 < n → 0 < length xs

-- no piece is empty
abbrev pub AreFilled : List (List ℕ) → Type 0
AreFilled [] = Unit {0}
AreFilled (p ∷ ps) = (0 < length p) × AreFilled ps

-- the place d is in the first piece
abbrev pub IsInFirst : ℕ → List (List ℕ) → Type 0
IsInFirst d [] = d ≡ 0
IsInFirst d (p ∷ ps) = d < length p

-- what holds of every send buffer
pub record IsSound (v : Buffered) : Type 0 where
  pub lengths : v.gone + total_length v.held ≡ v.offset
  pub filled : AreFilled v.held
  pub first : IsInFirst (v.prefix - v.gone) v.held
  pub gone_acked : v.gone ≤ v.prefix
  pub acked_sent : v.prefix ≤ v.unsent
  pub sent_written : v.unsent ≤ v.offset
  pub small : v.offset < 2 ^ 62
  pub later_in : (n : ℕ) → contains v.later n ≡ true → (v.prefix < n) × (n < v.unsent)
  pub lost_in : (n : ℕ) → contains v.lost n ≡ true → (v.prefix ≤ n) × (n < v.unsent) × (contains v.later n ≡ false)

-- the room in a frame of this size for data that starts at an offset, if no length is written
abbrev pub data_room : ℕ → ℕ → ℕ
data_room start max_len = if nat_lt 0 start then max_len - size_of start else max_len

-- whether the frame of a range gets a length
abbrev pub has_length : ℕ → ℕ → ℕ → Bool
has_length start end max_len = nat_lt (end - start) (data_room start max_len)

-- where the frame of a range ends
abbrev pub frame_end : ℕ → ℕ → ℕ → ℕ
frame_end start end max_len = min end (start + (data_room start max_len - (if has_length start end max_len then 8 else 0)))
