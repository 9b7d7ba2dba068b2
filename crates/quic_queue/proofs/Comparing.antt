-- How priorities compare.
use Rattle.std.proofs.Common.{◌≡◌, ℤ, Bool, true, false, cond, refl, ap, ◌∙◌}
use Rattle.std.specs.Prelude.{int_lt}
use Rattle.std.specs.declared.cmp.Ordering.{Ordering}
use Rattle.std.specs.declared.cmp.Ordering.TheVariants.{Less, Equal, Greater}
use Rattle.std.specs.declared.cmp.Reverse.{Reverse}
use Rattle.std.specs.Ordering.{is_eq, is_gt, int_cmp, ordering_reverse}
use Rattle.std.specs.Cmp.{int_cmp_total}
use Rattle.std.specs.BTreeMap.{is_at}
use Rattle.std.proofs.lemmas.Map.Lookups.{exact_signed}
use Rattle.quic_queue.specs.Levels.{falling}

pub by_test : {P : Type 0} (b : Bool) → (b ≡ true → P) → (b ≡ false → P) → P
by_test true f g = f refl
by_test false f g = g refl

-- whether a level is that of a priority
abbrev pub at : ℤ → Reverse ℤ → Bool
at p = is_at (falling (record { 0 = p }))

equal : (o : Ordering) → is_eq o ≡ true → o ≡ Equal
equal Less e = cc
equal Equal e = refl
equal Greater e = cc

pub at-is : (p : ℤ) (k : Reverse ℤ) → at p k ≡ true → k.0 ≡ p
at-is p k e = exact_signed _ _ (equal (int_cmp k.0 p) e)

less : (a b : Bool) → cond a Less (cond b Greater Equal) ≡ Less → a ≡ true
less true b e = refl
less false true e = cc
less false false e = cc

pub lower : (x y : ℤ) → int_cmp x y ≡ Less → int_lt x y ≡ true
lower x y e = less (int_lt x y) (int_lt y x) e

pub less_of : (a b : Bool) → a ≡ true → cond a Less (cond b Greater Equal) ≡ Less
less_of a b e = rw e refl

greater : (a b : Bool) → cond a Less (cond b Greater Equal) ≡ Greater → a ≡ false
greater true b e = cc
greater false b e = refl

pub not_lower : (x y : ℤ) → int_lt x y ≡ true → int_lt y x ≡ false
not_lower x y e =
    let less : int_cmp x y ≡ Less = less_of (int_lt x y) (int_lt y x) e in
    greater (int_lt y x) (int_lt x y) (int_cmp_total.antisymm y x ∙ ap ordering_reverse less)

pub not_below_itself : (x : ℤ) → int_lt x x ≡ false
not_below_itself x = by_test (int_lt x x) (λ e. not_lower x x e) (λ e. e)

pub at-itself : (p : ℤ) (k : Reverse ℤ) → k.0 ≡ p → at p k ≡ true
at-itself p k e = rw e (rw (not_below_itself p) refl)

pub at-lower : (p : ℤ) (k : Reverse ℤ) → int_lt p k.0 ≡ true → at p k ≡ false
at-lower p k e = rw (not_lower p k.0 e, e) refl

equal_or_greater : (a b : Bool) → is_gt (cond a Less (cond b Greater Equal)) ≡ false → a ≡ false → b ≡ false
equal_or_greater true b h e = cc
equal_or_greater false true h e = cc
equal_or_greater false false h e = refl

pub not_greater : (x y : ℤ) → is_gt (int_cmp x y) ≡ false → int_lt y x ≡ false
not_greater x y h = by_test (int_lt x y) (λ t. not_lower x y t) (λ t. equal_or_greater (int_lt x y) (int_lt y x) h t)
