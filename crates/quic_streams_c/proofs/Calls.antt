-- Calls on open and closed handles, and numbers that are tested.
use Rattle.std.proofs.Common.{◌≡◌, ℕ, ℤ, negsuc, List, Option, Some, None, IsSome, refl, subst}
use Rattle.quic_session.specs.declared.session.Session.{Session}
use Rattle.quic_streams_c.specs.Calls.{WithNumber}
use Rattle.quic_streams_c.specs.Settings.{config_at, OpensClosed, OpensHandle}
use Rattle.quic_streams_c.specs.Words.{WithKnown}

pub number-refused : {A : Type 0} (o n : Option A) (Refused : Type 0) (Does : A → Type 0) → o ≡ n → ((x : A) → o ≡ Some x → ⊥) → Refused → WithNumber n Refused Does
number-refused {A = A} None n Refused Does e absent r = let P : Option A → Type 0 = λ m. WithNumber m Refused Does in subst P e r
number-refused (Some x) n Refused Does e absent r = absurd (absent x refl)

pub number-given : {A : Type 0} (x : A) (n : Option A) (Refused : Type 0) (Does : A → Type 0) → Some x ≡ n → Does x → WithNumber n Refused Does
number-given {A = A} x n Refused Does e d = let P : Option A → Type 0 = λ m. WithNumber m Refused Does in subst P e d

-- a closed handle is opened, or stays closed
pub opens : (words : List ℕ) (old : Option Session) (code : ℤ) (new : Option Session) → (IsSome old → ⊥)
    → WithKnown 9 words ((code ≡ negsuc 2) × (new ≡ None)) (OpensClosed (config_at words) code new) → OpensHandle words old code new
opens words None code new closed opened = opened
opens words (Some x) code new closed opened = absurd (closed refl)

-- a closed handle stays closed
pub stays : (words : List ℕ) (old : Option Session) (code : ℤ) → (IsSome old → ⊥)
    → ((new : Option Session) → new ≡ None → WithKnown 9 words ((code ≡ negsuc 2) × (new ≡ None)) (OpensClosed (config_at words) code new)) → OpensHandle words old code old
stays words None code closed opened = opened None refl
stays words (Some x) code closed opened = absurd (closed refl)
