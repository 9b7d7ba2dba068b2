-- The streams that have something to send, as callers of the queue see them.
use Rattle.std.specs.Prelude.{◌≡◌, ◌⊎◌, ℕ, ℤ, Bool, false, List, [], ◌∷◌, map, drop, Option, Some, None, is_some, slice_get, All, if◌then◌else◌, int_lt}
use Rattle.quic_queue.specs.declared.queue.Entry.{Entry}
use Rattle.quic_queue.specs.declared.queue.Next.{Next}
use Rattle.quic_queue.specs.declared.queue.Next.TheVariants.{LetGo, PutAnew, KeepBack}

pub record SendOrder : Type 0 where
  -- in the order in which they are taken: higher priorities first, equal ones as they were put
  pub waiting : List Entry
  -- the one that comes before all of these
  pub kept : Option Entry
  -- the priority for which there is room
  pub reserved : Option ℤ

-- no entries, and no room
abbrev pub empty_queue : SendOrder
empty_queue = record { waiting = []; kept = None; reserved = None }

-- one entry more, behind those of its priority
abbrev pub put : List Entry → Entry → List Entry
put [] e = e ∷ []
put (x ∷ xs) e = if int_lt x.priority e.priority then e ∷ x ∷ xs else x ∷ put xs e

-- one entry more, in the room that was there
abbrev pub with_entry : SendOrder → Entry → SendOrder
with_entry q e = record q { waiting = put q.waiting e; reserved = None }

-- all entries, the next one first
abbrev pub line : SendOrder → List Entry
line q = elim q.kept [ None ↦ q.waiting | Some e ↦ e ∷ q.waiting ]

-- the next one
abbrev pub first : SendOrder → Option Entry
first q = slice_get (line q) 0

-- the next one is taken out
abbrev pub without_next : SendOrder → SendOrder
without_next q = record q { waiting = if is_some q.kept then q.waiting else drop 1 q.waiting; kept = None }

-- no entry has a higher priority
abbrev pub NoneIsHigher : ℤ → List Entry → Type 0
NoneIsHigher priority es = All (λ e. int_lt priority e.priority ≡ false) es

-- the ids of some entries
abbrev pub ids_of : List Entry → List ℕ
ids_of es = map (λ e. e.id) es

-- each answer that may be given for an id is that of a function
abbrev pub Tells : (ℕ → Bool → Type 0) → (ℕ → Bool) → Type 0
Tells answers test = (id : ℕ) (answer : Bool) → answers id answer → answer ≡ test id

-- what becomes of an entry that was taken out, at the end of its turn
abbrev pub with_turn_ended : SendOrder → Entry → Next → SendOrder
with_turn_ended q e LetGo = record q { reserved = None }
with_turn_ended q e (PutAnew p) = with_entry q (record { priority = p; id = e.id })
with_turn_ended q e KeepBack = record q { kept = Some e; reserved = None }

-- there is room where an entry is put anew
abbrev pub IsReserved : SendOrder → Next → Type 0
IsReserved q LetGo = Unit {0}
IsReserved q (PutAnew p) = q.reserved ≡ Some p
IsReserved q KeepBack = Unit {0}

-- there is room where the next entry is put anew: it was made for that priority or, where none is kept back and the
-- entry keeps its priority, its own place serves
abbrev pub HasTurnPlace : SendOrder → Entry → Next → Type 0
HasTurnPlace q e LetGo = Unit {0}
HasTurnPlace q e (PutAnew p) = (q.reserved ≡ Some p) ⊎ ((q.kept ≡ None) × (p ≡ e.priority))
HasTurnPlace q e KeepBack = Unit {0}
