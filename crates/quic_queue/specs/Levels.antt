-- The ids of each priority, and what the queue shows of them.
use Rattle.std.specs.Prelude.{◌≡◌, ◌≢◌, ℕ, ℤ, ◌<◌, List, [], ◌∷◌, ◌++◌, map, Option, Some, IsSomeAnd, IfSome, slice_get, int_lt, true}
use Rattle.std.specs.Global.{Global}
use Rattle.std.specs.declared.cmp.Reverse.{Reverse}
use Rattle.std.specs.declared.collections.VecDeque.{VecDeque}
use Rattle.std.specs.VecDeque.{deque_len, deque_capacity}
use Rattle.std.specs.Ordering.{int_cmp}
use Rattle.std.specs.declared.cmp.Ordering.{Ordering}
use Rattle.std.specs.BTreeMap.{BTreeMap, get}
use Rattle.quic_queue.specs.declared.queue.Entry.{Entry}
use Rattle.quic_queue.specs.declared.queue.TopLevel.{TopLevel}

-- the ids of one priority, as they were put
abbrev pub Ids : Type 0
Ids = VecDeque ℕ Global

-- the ids by priority, the highest first
abbrev pub Levels : Type 0
Levels = BTreeMap (Reverse ℤ) Ids

-- the order of the levels
abbrev pub falling : Reverse ℤ → Reverse ℤ → Ordering
falling x y = int_cmp y.0 x.0

-- the ids of a priority
abbrev pub ids_at : Levels → ℤ → Option Ids
ids_at levels priority = get falling levels (record { 0 = priority })

-- the entries of one level
abbrev pub entries_at : Reverse ℤ × Ids → List Entry
entries_at level = map (λ id. record { priority = level.0.0; id = id }) level.1.items

-- the entries of all levels, the next one first
abbrev pub entries_of : List (Reverse ℤ × Ids) → List Entry
entries_of [] = []
entries_of (level ∷ levels) = entries_at level ++ entries_of levels

-- one more id finds room at a priority
abbrev pub HasRoom : Levels → ℤ → Type 0
HasRoom levels priority = IsSomeAnd (ids_at levels priority) (λ ids. deque_len ids < deque_capacity ids)

-- a priority has ids, or is not there
abbrev pub IsFilled : Levels → ℤ → Type 0
IsFilled levels priority = IfSome (ids_at levels priority) (λ ids. 0 < deque_len ids)

-- a priority is above those of all levels
abbrev pub IsAbove : ℤ → Levels → Type 0
IsAbove priority levels = (other : ℤ) → IfSome (ids_at levels other) (λ ids. int_lt other priority ≡ true)

-- the entries of the top level and of those below it, the next one first
abbrev pub waiting_of : TopLevel → Levels → List Entry
waiting_of top lower = entries_of ((record { 0 = top.priority }, top.ids) ∷ lower.entries)

-- one more id finds room at a priority, in the top level or below it
pub record HasRoomAt (top : TopLevel) (lower : Levels) (priority : ℤ) : Type 0 where
  pub top_room : priority ≡ top.priority → deque_len top.ids < deque_capacity top.ids
  pub lower_room : priority ≢ top.priority → HasRoom lower priority

-- the top level is above the others, there is room at the reserved priority, and each other level below the top has ids
pub record AreLevels (top : TopLevel) (lower : Levels) (reserved : Option ℤ) : Type 0 where
  pub above : IsAbove top.priority lower
  pub room : (priority : ℤ) → reserved ≡ Some priority → HasRoomAt top lower priority
  pub filled : (priority : ℤ) → reserved ≢ Some priority → IsFilled lower priority

-- at each other priority stands what stood there
abbrev pub KeepsOtherLevels : Levels → ℤ → Levels → Type 0
KeepsOtherLevels levels priority after = (other : ℤ) → other ≢ priority → ids_at after other ≡ ids_at levels other

-- the first entry has this priority
abbrev pub IsFirstPriority : List (Reverse ℤ × Ids) → ℤ → Type 0
IsFirstPriority levels priority = IsSomeAnd (slice_get (entries_of levels) 0) (λ e. e.priority ≡ priority)

-- the first level, if there is one, has no ids
abbrev pub FirstIsEmpty : List (Reverse ℤ × Ids) → Type 0
FirstIsEmpty levels = IfSome (slice_get levels 0) (λ level. level.1.items ≡ [])

-- where one more id found room at another priority, it still does
abbrev pub KeepsRoomAtOthers : TopLevel → Levels → ℤ → TopLevel → Levels → Type 0
KeepsRoomAtOthers top lower priority top' lower' = (other : ℤ) → other ≢ priority → HasRoomAt top lower other → HasRoomAt top' lower' other
