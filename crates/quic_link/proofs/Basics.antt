-- What several files use.
use Rattle.std.proofs.Common.{◌≡◌, ◌⊎◌, ℕ, Bool, true, false, List, [], ◌∷◌, Option, Some, None, refl, inl, inr, arith}
use Rattle.std.specs.Prelude.{◌++◌, ◌==◌, ◌&&◌, ◌||◌}
use Rattle.std.proofs.lemmas.Bool.Decides.{nat_tests}
use Rattle.quic_values.specs.declared.ids.Side.{Side}
use Rattle.quic_values.specs.declared.ids.Side.TheVariants.{Client, Server}
use Rattle.quic_values.specs.Ids.{other_side}
use Rattle.quic_flows.specs.Flow.{takes_data}
use Rattle.quic_history.specs.World.{World, Made}
use Rattle.quic_history.specs.History.{Event, IsRun, EverPermits, PermitsNow}
use Rattle.quic_link.specs.Endpoints.{IsOneOf}

-- ---- tests

pub both : (a b : Bool) → (a && b) ≡ true → (a ≡ true) × (b ≡ true)
both true b k = (refl, k)
both false b k = cc

pub either_true : (a b : Bool) → (a || b) ≡ true → (a ≡ true) ⊎ (b ≡ true)
either_true true b h = inl refl
either_true false b h = inr h

pub or_left : (a b : Bool) → a ≡ true → (a || b) ≡ true
or_left a b h = rw h refl

pub or_right : (a b : Bool) → b ≡ true → (a || b) ≡ true
or_right true b e = refl
or_right false b e = e

pub same_id : (a b : ℕ) → (a == b) ≡ true → a ≡ b
same_id a b h = grind (arith, nat_tests)

pub some_same : {X : Type 0} (a b : X) → Some a ≡ Some b → a ≡ b
some_same a b k = cc

-- ---- lists

pub only : {X : Type 0} (a b : X) → IsOneOf a (b ∷ []) → a ≡ b
only a b (inl e) = e
only a b (inr h) = absurd h

pub either-of : {X : Type 0} (a : X) (xs ys : List X) → IsOneOf a (xs ++ ys) → IsOneOf a xs ⊎ IsOneOf a ys
either-of a [] ys h = inr h
either-of a (x ∷ xs) ys (inl e) = inl (inl e)
either-of a (x ∷ xs) ys (inr h) = elim (either-of a xs ys h) [ inl k ↦ inl (inr k) | inr k ↦ inr k ]

-- ---- ends and streams

pub other_other : (s : Side) → s ≡ other_side (other_side s)
other_other Client = refl
other_other Server = refl

-- a stream that is ended takes no more data
pub ended_closed : (r : Option ℕ) (b : Bool) → b ≡ true → takes_data r b ≡ false
ended_closed None b k = rw k refl
ended_closed (Some code) b k = refl

pub permits_now : (m : Made) (h : List Event) (v : World) (run : IsRun m h v) → EverPermits m h v run → PermitsNow m h v run
permits_now m [] v run p = p
permits_now m (e ∷ h) v run p = p.0
