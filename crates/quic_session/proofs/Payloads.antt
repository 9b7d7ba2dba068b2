-- Payloads that are put under a token, or go.
use Rattle.std.proofs.Common.{◌≡◌, ◌≢◌, ℕ, ◌⊎◌, inl, inr, Bool, true, false, cond, Option, Some, None, refl, sym, ap, ◌∙◌}
use Rattle.std.specs.Prelude.{◌==◌}
use Rattle.std.proofs.lemmas.Bool.Decides.{eqb_tells}
use Rattle.quic_streams.specs.declared.settling.SentPayload.{SentPayload}
use Rattle.quic_session.specs.Tokens.{with_payload}

abbrev pub Kept : Type 0
Kept = ℕ → Option SentPayload

pub none-there : (o : Option SentPayload) → ((x : SentPayload) → o ≡ Some x → ⊥) → o ≡ None
none-there None absent = refl
none-there (Some x) absent = absurd (absent x refl)

-- to take out what is not there changes nothing
pub put-none : (f : Kept) (token : ℕ) → f token ≡ None → with_payload f token None ≡ f
unfolding with_payload
put-none f token nothing = λ i. λ q. at q (eqb_tells token q) i
  where
    at : (q : ℕ) → ((token == q) ≡ true) × (token ≡ q) ⊎ ((token == q) ≡ false) × (token ≢ q) → cond (token == q) None (f q) ≡ f q
    at q (inl e) = ap (λ t. cond t None (f q)) e.0 ∙ sym nothing ∙ ap f e.1
    at q (inr e) = ap (λ t. cond t None (f q)) e.0

-- what was put back stands where it was taken out
pub put-twice : (f : Kept) (token : ℕ) (sent : Option SentPayload) → with_payload (with_payload f token None) token sent ≡ with_payload f token sent
unfolding with_payload
put-twice f token sent = λ i. λ q. at q (token == q) i
  where
    at : (q : ℕ) (t : Bool) → cond t sent (cond t None (f q)) ≡ cond t sent (f q)
    at q true = refl
    at q false = refl
