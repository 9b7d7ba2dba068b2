-- Lemmas on sets of offsets.
use Rattle.std.proofs.Common.{◌≡◌, ℕ, ◌<◌, ◌≤◌, true, false, ◌||◌, List, ◌&&◌, not, max, nat_lt, arith}
use Rattle.std.proofs.lemmas.Bool.Decides.{nat_tests}
use Rattle.std.specs.declared.ops.Range.{Range}
use Rattle.quic_ranges.specs.Runs.{Run, contains, lies_in, IsRunOf}

-- one more run that touches the prefix is taken out of the later offsets
pub Joins-step : (first later rest : List Run) (a reached low : ℕ) (run : Range ℕ) → IsRunOf later run → ((n : ℕ) → n < run.start → contains later n ≡ false) → ((n : ℕ) → contains rest n ≡ (contains later n && not (lies_in run n))) → contains later low ≡ true → low ≤ max a reached → ((n : ℕ) → n < reached → contains later n ≡ false) → ((n : ℕ) → (nat_lt n (max a reached) || contains later n) ≡ (nat_lt n a || contains first n)) → (reached < run.end) × ((n : ℕ) → n < run.end → contains rest n ≡ false) × ((n : ℕ) → (nat_lt n (max a run.end) || contains rest n) ≡ (nat_lt n a || contains first n))
Joins-step first later rest a reached low run is lowest others has near none same = (beyond, λ n l. below n l, λ n. again n)
  where
    begins : run.start ≤ low
    begins = let at = lowest low in grind (arith, nat_tests)

    beyond : reached < run.end
    beyond =
        let some = is.some in
        let at = is.inside run.start in
        let free = none run.start in
        grind (arith, nat_tests)

    below : (n : ℕ) → n < run.end → contains rest n ≡ false
    below n l =
        let at = lowest n in
        let left = others n in
        grind (arith, nat_tests)

    again : (n : ℕ) → (nat_lt n (max a run.end) || contains rest n) ≡ (nat_lt n a || contains first n)
    again n =
        let b = begins in
        let e = beyond in
        let in_run = is.inside n in
        let at = lowest n in
        let left = others n in
        let old = same n in
        let free = none n in
        grind (arith, nat_tests)
