use Rattle.std.proofs.Common.{◌≡◌, ◌∙◌, ℕ, Bool, true, false, eqb, refl, sym, ap, subst, List}
use Rattle.std.specs.Prelude.{◌==◌, ◌||◌}
use Rattle.std.specs.List.{list_any}
use Rattle.quic_history.proofs.Totals.{by_cases, same}
use Rattle.quic_streams.proofs.pending.any_other.Goals as goal

later : (a b : Bool) → b ≡ true → (a || b) ≡ true
later true b e = refl
later false b e = e

others : (a b : Bool) → (a || b) ≡ true → a ≡ false → b ≡ true
others true b e n = cc
others false b e n = e

apart : (p : ℕ → Bool) (id x : ℕ) → p id ≡ true → p x ≡ false → eqb id x ≡ false
apart p id x i n = by_cases (eqb id x) (λ t. let e : p id ≡ false = ap p (same id x t) ∙ n in cc) (λ f. f)

pub loop-id-preserved : goal.loop-id-preserved
loop-id-preserved g c = (
  c.loop-id.invariant.0,
  λ id e. c.loop-id.invariant.1 id (subst (λ (it : List ℕ). list_any (λ k. id == k) it ≡ true) (sym c.in-Some.ensures.steps) (later (eqb id c.in-Some.id.now) _ e)),
  λ p tells id i k.
      let here = subst (λ (it : List ℕ). list_any (λ q. id == q) it ≡ true) c.in-Some.ensures.steps (c.loop-id.invariant.2 p tells id i k) in
      let fails : p c.in-Some.id.now ≡ false = sym (tells _ _ c.test.ensures) ∙ c.if-test.false in
      others (eqb id c.in-Some.id.now) _ here (apart p id c.in-Some.id.now k fails),
)

pub returns : goal.returns
returns g c = λ p tells id i.
    by_cases (p id)
    (λ k. let none = subst (λ (it : List ℕ). list_any (λ q. id == q) it ≡ true) c.in-None.ensures.steps.0 (c.loop-id.invariant.2 p tells id i k) in cc)
    (λ f. f)
