-- Lemmas on maps from ids to halves.
use Rattle.std.proofs.Common.{◌≡◌, ℕ, Bool, true, false, cond, eqb, Option, Some, refl, sym, ap, ◌∙◌, arith}
use Rattle.std.specs.Prelude.{◌==◌, Result, Ok, Err, OnErr}
use Rattle.std.proofs.lemmas.Bool.{eqb-true}
use Rattle.std.proofs.lemmas.Grind.{common_steps}
use Rattle.std.specs.Global.{Box}
use Rattle.std.specs.Option.{option_map}
use Rattle.quic_receiving.specs.Half.{Half, new_half}
use Rattle.quic_retransmits.proofs.Sets.{==-comm}
use Rattle.quic_history.specs.Halves.{Halves, with_half, taken}

eqb-self : (n : ℕ) → eqb n n ≡ true
eqb-self n = grind (arith, common_steps)

pub half-there : (f : Halves) (id : ℕ) (o : Option Half) → (with_half f id o) id ≡ o
unfolding with_half
half-there f id o = ap (λ b. cond b o (f id)) (eqb-self id)

choose : {X : Type 0} (b : Bool) (o p r : X) → cond b p (cond b o r) ≡ cond b p r
choose true o p r = refl
choose false o p r = refl

pub with_half-twice : (f : Halves) (id : ℕ) (o p : Option Half) → with_half (with_half f id o) id p ≡ with_half f id p
unfolding with_half
with_half-twice f id o p = λ i. λ q. choose (eqb q id) o p (f q) i

back : (f : Halves) (id : ℕ) (p : Option Half) → f id ≡ p → (q : ℕ) (b : Bool) → eqb q id ≡ b → cond b p (f q) ≡ f q
back f id p h q true e = sym h ∙ ap f (sym (eqb-true q id e))
back f id p h q false e = refl

pub with_half-back : (f : Halves) (id : ℕ) (p : Option Half) → f id ≡ p → with_half f id p ≡ f
unfolding with_half
with_half-back f id p h = λ i. λ q. back f id p h q (eqb q id) refl i

pub taken-some : (f : Halves) (id w : ℕ) (h : Half) → f id ≡ Some h → taken f id w (f id) ≡ with_half f id (Some (new_half w))
taken-some f id w h e = rw e refl

pub ruleset half_steps = (half-there, with_half-twice, with_half-back)
