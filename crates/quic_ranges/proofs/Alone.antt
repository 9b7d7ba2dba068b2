-- One run put where none begins behind its start.
use Rattle.std.proofs.Common.{◌≡◌, ◌∙◌, ℕ, ◌+◌, ◌<◌, ◌≤◌, false, ◌||◌, List, inl, inr, arith}
use Rattle.std.proofs.lemmas.Bool.{le-ltb}
use Rattle.std.specs.BTreeMap.{insert_entry}
use Rattle.std.specs.Ordering.{nat_cmp}
use Rattle.quic_ranges.specs.Runs.{Run, is_in, contains, AreRuns, NoneBegins, IsLast, EndBefore, EndBy}
use Rattle.quic_ranges.proofs.Entries.{joins, without-none, contains_last}
use Rattle.quic_ranges.proofs.Placed.{none_begins-insert}
use Rattle.quic_ranges.proofs.Order.{at_most_last, inside, widened, EndBefore-start, EndBy-past}

-- the set with the run from a to b put in is that of rs, with the numbers from x to b
pub record Put (x a b : ℕ) (rs new : List Run) : Type 0 where
  pub runs : AreRuns 0 new
  pub set : (n : ℕ) → contains new n ≡ (contains rs n || is_in (x, b) n)

-- rs is free for a run from a to b
pub record Free (a b : ℕ) (rs : List Run) : Type 0 where
  pub before : EndBefore rs a
  pub by : EndBy rs b
  pub out : contains rs a ≡ false

pub placed : (a b : ℕ) (rs new : List Run) → AreRuns 0 rs → a < b → EndBefore rs a → EndBy rs b → new ≡ insert_entry nat_cmp rs a b → NoneBegins rs (a + 1) b → Put a a b rs new
placed a b rs new runs some before by is none =
    let h = joins 0 a b rs runs (omega arith) some before by in
    let e = without-none (insert_entry nat_cmp rs a b) (a + 1) b (none_begins-insert a b b rs none) in
    record { runs = rw is (rw e at h.runs); set = λ n. rw (is, ← e) (h.adds n) }

-- the run that holds x, from a to e, goes on to b
pub longer : (a e x b : ℕ) (rs new : List Run) → AreRuns 0 rs → IsLast rs a e b → a ≤ x → x ≤ e → x < b → e < b → new ≡ insert_entry nat_cmp rs a b → Put x a b rs new
longer a e x b rs new runs last from to some more is =
    let h = placed a b rs new runs (omega arith) (EndBefore-start a e rs runs last.found) (EndBy-past a e b rs runs last (omega arith)) is last.last in
    record {
      runs = h.runs;
      set = λ n. h.set n ∙ widened rs a b x b n from (omega arith) (λ k low high. inside 0 a e k rs runs last.found low (omega arith)) (λ k low high. absurd (omega arith));
    }

-- the last run that begins up to b ends before a
pub free_past : (s e a b : ℕ) (rs : List Run) → AreRuns 0 rs → a < b → IsLast rs s e b → s ≤ a → e < a → Free a b rs
free_past s e a b rs runs some last from past = record {
  before = λ k v f lt. elim (at_most_last s e b k v rs runs last f (omega arith)) [ inl before ↦ omega arith | inr same ↦ omega arith ];
  by = EndBy-past s e b rs runs last (omega arith);
  out = contains_last 0 s e a rs runs last.found from (λ q p t. last.last q p (omega arith)) ∙ le-ltb a e (omega arith);
}
