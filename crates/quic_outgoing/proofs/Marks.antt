-- Streams that wait no more.
use Rattle.std.proofs.Common.{◌≡◌, ◌⊎◌, inl, inr, ℕ, Bool, true, false, cond, eqb, Option, Some, None, refl, sym, ap, ◌∙◌, List, [], ◌∷◌, ◌||◌, arith}
use Rattle.std.specs.Prelude.{◌==◌, All}
use Rattle.std.specs.List.{list_any}
use Rattle.std.specs.Option.{option_map}
use Rattle.std.proofs.lemmas.Bool.{eqb-true}
use Rattle.quic_sending.specs.declared.send.Send.{Send}
use Rattle.quic_outgoing.specs.Senders.{SendersById, with_sender, new_sender}
use Rattle.quic_outgoing.specs.Outgoing.{marked}
use Rattle.quic_outgoing.specs.Calls.{unmarked, without_marks, can_take}

mark-at : (f : SendersById) (id : ℕ) (s t : Send) → f id ≡ Some s → t ≡ marked false s → (q : ℕ) (b : Bool) → eqb q id ≡ b
    → cond b (Some t) (f q) ≡ cond b (option_map (marked false) (f q)) (f q)
mark-at f id s t h g q true e = ap Some g ∙ sym (ap (option_map (marked false)) (ap f (eqb-true q id e) ∙ h))
mark-at f id s t h g q false e = refl

pub unmarked-some : (f : SendersById) (id : ℕ) (s t : Send) → f id ≡ Some s → t ≡ marked false s → with_sender f id (Some t) ≡ unmarked f id
unfolding with_sender unmarked
unmarked-some f id s t h g = λ i. λ q. mark-at f id s t h g q (eqb q id) refl i

keep-at : (f : SendersById) (id : ℕ) → option_map (marked false) (f id) ≡ f id → (q : ℕ) (b : Bool) → eqb q id ≡ b
    → f q ≡ cond b (option_map (marked false) (f q)) (f q)
keep-at f id h q true e = ap f (eqb-true q id e) ∙ sym h ∙ ap (λ n. option_map (marked false) (f n)) (sym (eqb-true q id e))
keep-at f id h q false e = refl

unmarked-keep : (f : SendersById) (id : ℕ) → option_map (marked false) (f id) ≡ f id → f ≡ unmarked f id
unfolding unmarked
unmarked-keep f id h = λ i. λ q. keep-at f id h q (eqb q id) refl i

pub unmarked-unused : (f : SendersById) (id limit : ℕ) → (f id ≡ None) ⊎ (f id ≡ Some (new_sender limit)) → f ≡ unmarked f id
unmarked-unused f id limit (inl e) = unmarked-keep f id (ap (option_map (marked false)) e ∙ sym e)
unmarked-unused f id limit (inr e) = unmarked-keep f id (ap (option_map (marked false)) e ∙ sym e)

one-more : (a b : Bool) (o : Option Send) → cond a (option_map (marked false) (cond b (option_map (marked false) o) o)) (cond b (option_map (marked false) o) o)
    ≡ cond (a || b) (option_map (marked false) o) o
one-more true true None = refl
one-more true true (Some s) = refl
one-more true false o = refl
one-more false true o = refl
one-more false false o = refl

-- one more stream waits no more
pub marks-more : (f : SendersById) (id : ℕ) (ids : List ℕ) → unmarked (without_marks f ids) id ≡ without_marks f (id ∷ ids)
unfolding unmarked without_marks
marks-more f id ids = λ i. λ q. one-more (q == id) (list_any (λ n. q == n) ids) (f q) i

pub marks-none : (f : SendersById) → f ≡ without_marks f []
unfolding without_marks
marks-none f = refl

can-take-at : (b : Bool) (o : Option Send) → can_take (cond b (option_map (marked false) o) o) ≡ can_take o
can-take-at true None = refl
can-take-at true (Some s) = refl
can-take-at false o = refl

-- whether data may be written does not depend on who waits
pub can_take-marks : (f : SendersById) (ids : List ℕ) (q : ℕ) → can_take ((without_marks f ids) q) ≡ can_take (f q)
unfolding without_marks
can_take-marks f ids q = can-take-at (list_any (λ n. q == n) ids) (f q)

pub all-none : (P : ℕ → Type 0) → All P []
all-none P = λ k d h. absurd (omega arith)
