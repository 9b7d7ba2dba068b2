-- A set of numbers, as the runs of numbers that it consists of.
use Rattle.std.specs.Prelude.{◌≡◌, ℕ, ◌+◌, ◌<◌, ◌≤◌, Bool, true, false, not, ◌&&◌, ◌||◌, List, [], ◌∷◌, nat_lt, nat_le}
use Rattle.std.specs.List.{filter}
use Rattle.std.specs.Prelude.{Option, Some, None, ◌-◌, if◌then◌else◌}
use Rattle.std.specs.Map.{lookup}
use Rattle.std.specs.declared.ops.Range.{Range}
use Rattle.std.specs.BTreeMap.{is_at, insert_entry}
use Rattle.std.specs.Ordering.{nat_cmp}

-- a run: from its first number up to, and without, its end
abbrev pub Run : Type 0
Run = ℕ × ℕ

-- whether a number is in a run
abbrev pub is_in : Run → ℕ → Bool
is_in r n = nat_le r.0 n && nat_lt n r.1

-- a run as a range
abbrev pub range_of : Run → Range ℕ
range_of r = record { start = r.0; end = r.1 }

-- whether a number lies in a range
abbrev pub lies_in : Range ℕ → ℕ → Bool
lies_in range n = is_in (range.start, range.end) n

-- whether a number is in the set
abbrev pub contains : List Run → ℕ → Bool
contains [] n = false
contains (r ∷ rs) n = is_in r n || contains rs n

-- runs from low on, none of them empty, each apart from the next
abbrev pub AreRuns : ℕ → List Run → Type 0
AreRuns low [] = Unit {0}
AreRuns low (r ∷ rs) = (low ≤ r.0) × (r.0 < r.1) × AreRuns (r.1 + 1) rs

-- the runs that do not begin between two numbers, both included
abbrev pub without : List Run → ℕ → ℕ → List Run
without rs from to = filter (λ r. not (nat_le from r.0 && nat_le r.0 to)) rs

-- a run of the set that is as long as can be
pub record IsRunOf (s : List Run) (range : Range ℕ) : Type 0 where
  pub some : range.start < range.end
  pub inside : (n : ℕ) → range.start ≤ n → n < range.end → contains s n ≡ true
  pub end : contains s range.end ≡ false

-- the end of the run that begins at a number
abbrev pub end_at : List Run → ℕ → Option ℕ
end_at rs q = lookup (is_at (nat_cmp q)) rs

-- each run that begins up to b ends by then
abbrev pub EndBy : List Run → ℕ → Type 0
EndBy rs b = (k v : ℕ) → end_at rs k ≡ Some v → k ≤ b → v ≤ b

-- each run that begins before a ends before it
abbrev pub EndBefore : List Run → ℕ → Type 0
EndBefore rs a = (k v : ℕ) → end_at rs k ≡ Some v → k < a → v < a

-- no run begins between two numbers, both included
abbrev pub NoneBegins : List Run → ℕ → ℕ → Type 0
NoneBegins rs from to = (q : ℕ) → from ≤ q → q ≤ to → end_at rs q ≡ None

-- the last run that begins up to n
pub record IsLast (rs : List Run) (s e n : ℕ) : Type 0 where
  pub found : end_at rs s ≡ Some e
  pub up_to : s ≤ n
  pub last : NoneBegins rs (s + 1) n

-- the runs, and one from b to e, unless that is empty
abbrev pub with_right : List Run → ℕ → ℕ → List Run
with_right rs b e = if nat_lt b e then insert_entry nat_cmp rs b e else rs

-- the runs, of which one is to end at a
abbrev pub with_left : List Run → Option ℕ → ℕ → List Run
with_left rs None a = rs
with_left rs (Some l) a = insert_entry nat_cmp rs l a

abbrev pub cut : List Run → Option ℕ → ℕ → ℕ → ℕ → List Run
cut rs left a b e = without (with_left (with_right rs b e) left a) a (b - 1)

-- each run that begins before a ends by then
abbrev pub EndUpTo : List Run → ℕ → Type 0
EndUpTo rs a = (k v : ℕ) → end_at rs k ≡ Some v → k < a → v ≤ a
