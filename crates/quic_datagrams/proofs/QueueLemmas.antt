-- Lemmas on queues of datagrams.
use Rattle.std.proofs.Common.{◌≡◌, ℕ, ◌+◌, ◌-◌, ◌<◌, ◌≤◌, Bool, List, [], ◌∷◌, ◌++◌, length, true, false, cond, refl, ap, arith, length-append}
use Rattle.std.specs.Prelude.{nat_le}
use Rattle.std.proofs.lemmas.Bool.Decides.{nat_tests}
use Rattle.quic_wire.specs.declared.frame.Datagram.{Datagram}
use Rattle.quic_datagrams.specs.Queue.{cost, total_cost, newest_within, with_newest, no_longer_than, IsNewestWithin, JoinsWithin}

-- what fits stays whole
pub newest_within-fits : (n : ℕ) (ds : List Datagram) → total_cost ds ≤ n → newest_within n ds ≡ ds
newest_within-fits n [] h = refl
newest_within-fits n (d ∷ ds) h = grind (arith, nat_tests)

-- the oldest goes where all do not fit
pub newest_within-drop : (n : ℕ) (d : Datagram) (ds : List Datagram) → n < total_cost (d ∷ ds) → newest_within n (d ∷ ds) ≡ newest_within n ds
newest_within-drop n d ds h = grind (arith, nat_tests)

pub total_cost-append : (a b : List Datagram) → total_cost (a ++ b) ≡ total_cost a + total_cost b
total_cost-append [] b = omega arith
total_cost-append (d ∷ a) b = omega (arith, total_cost-append a b)

-- fewer datagrams count no more
pub total_cost-longer : (n : ℕ) (ds : List Datagram) → total_cost (no_longer_than n ds) ≤ total_cost ds
total_cost-longer n [] = omega arith
total_cost-longer n (d ∷ ds) =
    elim (nat_le (length d.bytes) n) as (λ b. total_cost (cond b (d ∷ no_longer_than n ds) (no_longer_than n ds)) ≤ cost d + total_cost ds) [
      | true ↦ omega (arith, total_cost-longer n ds)
      | false ↦ omega (arith, total_cost-longer n ds)
    ]

-- none goes where all fit
pub with_newest-roomy : (window : ℕ) (ds : List Datagram) (d : Datagram) → total_cost ds + cost d ≤ window → with_newest window ds d ≡ ds ++ d ∷ []
with_newest-roomy window ds d h =
    let fits : total_cost ds ≤ window - cost d = omega arith in
    rw (newest_within-fits (window - cost d) ds fits) refl

-- a test that fails says that the other is less
past : (a n : ℕ) → nat_le a n ≡ false → n < a
past a n test = grind (arith, nat_tests)

passed : (a n : ℕ) → nat_le a n ≡ true → a ≤ n
passed a n test = grind (arith, nat_tests)

no_longer : (ds front end : List Datagram) → ds ≡ front ++ end → length end ≤ length ds
no_longer ds front end parts = omega (arith, ap (length {A = Datagram}) parts, length-append front end)

-- an end that fits stands behind the oldest, if all do not fit
fits_behind : (n : ℕ) (d : Datagram) (ds kept : List Datagram) → n < total_cost (d ∷ ds) → IsNewestWithin n ds kept → (front end : List Datagram) → d ∷ ds ≡ front ++ end → total_cost end ≤ n → length end ≤ length kept
fits_behind n d ds kept all_past is [] end parts fits = absurd (omega (arith, ap total_cost parts))
fits_behind n d ds kept all_past is (x ∷ front) end parts fits =
    let behind : ds ≡ front ++ end = cc in
    is.longest front end behind fits

-- the longest end that counts at most n, where it is all or what is behind the oldest
all_or_behind : (n : ℕ) (d : Datagram) (ds : List Datagram) → IsNewestWithin n ds (newest_within n ds) → (all_fit : Bool) → nat_le (total_cost (d ∷ ds)) n ≡ all_fit → IsNewestWithin n (d ∷ ds) (cond all_fit (d ∷ ds) (newest_within n ds))
all_or_behind n d ds behind true test = record {
  gone = [];
  oldest_first = refl;
  within = passed (total_cost (d ∷ ds)) n test;
  longest = λ front end parts _. no_longer (d ∷ ds) front end parts;
}
all_or_behind n d ds behind false test = record {
  gone = d ∷ behind.gone;
  oldest_first = ap (λ (rest : List Datagram). d ∷ rest) behind.oldest_first;
  within = behind.within;
  longest = fits_behind n d ds (newest_within n ds) (past (total_cost (d ∷ ds)) n test) behind;
}

-- the longest end that counts at most n is what its name says
pub newest_within-is : (n : ℕ) (ds : List Datagram) → IsNewestWithin n ds (newest_within n ds)
newest_within-is n [] = record {
  gone = [];
  oldest_first = refl;
  within = omega arith;
  longest = λ front end parts _. no_longer [] front end parts;
}
newest_within-is n (d ∷ ds) = all_or_behind n d ds (newest_within-is n ds) (nat_le (total_cost (d ∷ ds)) n) refl

pub with_newest-joins : (window : ℕ) (ds : List Datagram) (d : Datagram) → JoinsWithin window ds d (with_newest window ds d)
with_newest-joins window ds d = (newest_within (window - cost d) ds, refl, newest_within-is (window - cost d) ds)
