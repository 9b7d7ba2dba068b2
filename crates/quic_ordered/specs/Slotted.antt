-- Pieces by their offsets, each in a slot of a slab.
use Rattle.std.specs.Prelude.{ℕ, ◌≡◌, ◌^◌, ◌≤◌, List, [], map, length, drop, Option, Some, None}
use Rattle.std.specs.Map.{lookup}
use Rattle.std.specs.Option.{unwrap_or}
use Rattle.std.specs.BTreeMap.{is_at}
use Rattle.std.specs.Ordering.{nat_cmp}
use Rattle.slab.specs.Slab.{Slab, get, ContainsKey}
use Rattle.block_map.specs.Sorted.{KeyAndValue, KeysRise}
use Rattle.block_map.specs.Rows.{IsPlace, place_among}
use Rattle.block_map.specs.declared.map.Place.{Place}
use Rattle.quic_assembler.specs.Piece.{PieceView}
use Rattle.quic_ordered.specs.Entries.{piece_of}

-- the piece in a slot
abbrev pub in_slot : Slab PieceView → ℕ → PieceView
in_slot s k = unwrap_or (get s k) (piece_of 0 [] 0)

-- the pieces, where each offset has a slot
abbrev pub in_slots : Slab PieceView → List KeyAndValue → List (ℕ × PieceView)
in_slots s es = map (λ (e : KeyAndValue). (e.0, in_slot s e.1)) es

-- the slot of an offset
abbrev pub slot_at : List KeyAndValue → ℕ → Option ℕ
slot_at es q = lookup (is_at (nat_cmp q)) es

-- offsets rise, and each has a slot of its own, with a piece
pub record AreSlots (es : List KeyAndValue) (s : Slab PieceView) : Type 0 where
  pub rises : KeysRise es
  pub few : length es ≤ 2 ^ 62
  pub held : (q k : ℕ) → slot_at es q ≡ Some k → ContainsKey s k
  pub unlike : (q r k : ℕ) → slot_at es q ≡ Some k → slot_at es r ≡ Some k → q ≡ r

-- what contracts see: the pieces by their offsets, and the rows that the offsets lie in
pub record Slots : Type 0 where
  pub entries : List (ℕ × PieceView)
  pub rows : List (List KeyAndValue)

abbrev pub as_slots : Slab PieceView → List KeyAndValue → List (List KeyAndValue) → Slots
as_slots s es rows = record { entries = in_slots s es; rows = rows }

-- a place is one, or there is none any more
abbrev pub IsPlaceOrEnd : Slots → Option Place → Type 0
IsPlaceOrEnd m None = Unit {0}
IsPlaceOrEnd m (Some p) = IsPlace m.rows p.block p.index

-- the pieces from a place on
abbrev pub from_place : Slots → Option Place → List (ℕ × PieceView)
from_place m None = []
from_place m (Some p) = drop (place_among m.rows p.block p.index) m.entries
