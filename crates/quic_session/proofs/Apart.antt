-- What stands under a token is as it was after a payload of another was kept or settled.
use Rattle.std.proofs.Common.{◌≡◌, ◌≢◌, ◌<◌, ℕ, ◌⊎◌, inl, inr, true, false, cond, zero, suc, Option, Some, List, [], ◌∷◌, refl, sym, ap, subst, ◌∙◌, arith}
use Rattle.std.specs.Prelude.{◌==◌, map, slice_get, slice_set}
use Rattle.std.proofs.lemmas.Option.{none-some, same_Some}
use Rattle.std.proofs.lemmas.Bool.Decides.{eqb_tells}
use Rattle.quic_streams.specs.declared.settling.SentPayload.{SentPayload}
use Rattle.quic_session.specs.declared.unsettled.Unsettled.{Unsettled}
use Rattle.quic_session.specs.Tokens.{unsettled, with_payload, HaveTokensBelow, LAST, KeepsNew}
use Rattle.quic_session.proofs.Places.{none-behind}
use Rattle.quic_session.proofs.Payloads.{Kept}

pub put-apart : (f : Kept) (token q : ℕ) (sent : Option SentPayload) → token ≢ q → with_payload f token sent q ≡ f q
unfolding with_payload
put-apart f token q sent apart = by (eqb_tells token q)
  where
    by : ((token == q) ≡ true) × (token ≡ q) ⊎ ((token == q) ≡ false) × (token ≢ q) → cond (token == q) sent (f q) ≡ f q
    by (inl e) = absurd (apart e.1)
    by (inr e) = ap (λ t. cond t sent (f q)) e.0

-- the payloads of a session stand under tokens below the next one, unless that is the last that there is
pub below-next : (u : Unsettled) → u.next < LAST → HaveTokensBelow (unsettled u) u.next
unfolding unsettled
below-next u small = none-behind u.first u.next u.places.items (let turn = u.in_turn.1 in omega (arith, turn, small))

pub put-there : (f : Kept) (token : ℕ) (sent : Option SentPayload) → with_payload f token sent token ≡ sent
unfolding with_payload
put-there f token sent = by (eqb_tells token token)
  where
    by : ((token == token) ≡ true) × (token ≡ token) ⊎ ((token == token) ≡ false) × (token ≢ token) → cond (token == token) sent (f token) ≡ sent
    by (inl e) = ap (λ t. cond t sent (f token)) e.0
    by (inr e) = absurd (e.1 refl)

-- an earlier token
pub new-apart : (f g : Kept) (next after token q : ℕ) (sent : SentPayload) → KeepsNew f next sent token g after → q < next → g q ≡ f q
new-apart f g next after token q sent k below =
    ap (λ (h : Kept). h q) k.kept ∙ put-apart f token q (Some sent) (λ e. let is_next = k.is_next in omega (arith, e, is_next, below))

pub new-there : (f g : Kept) (next after token : ℕ) (sent : SentPayload) → KeepsNew f next sent token g after → g token ≡ Some sent
new-there f g next after token sent k = ap (λ (h : Kept). h token) k.kept ∙ put-there f token (Some sent)

-- what the tokens of a list stand for
abbrev pub looked_up : Kept → List ℕ → List (Option SentPayload)
looked_up f tokens = map f tokens

-- a token is none of some
abbrev pub IsNone : ℕ → List ℕ → Type 0
IsNone token [] = Unit {0}
IsNone token (t ∷ ts) = (token ≢ t) × IsNone token ts

-- tokens are distinct
abbrev pub AreApart : List ℕ → Type 0
AreApart [] = Unit {0}
AreApart (t ∷ ts) = IsNone t ts × AreApart ts

pub all-apart : (f : Kept) (token : ℕ) (sent : Option SentPayload) (ts : List ℕ) → IsNone token ts → map (with_payload f token sent) ts ≡ map f ts
all-apart f token sent [] a = refl
all-apart f token sent (t ∷ ts) a = ap (λ x. x ∷ map (with_payload f token sent) ts) (put-apart f token t sent a.0) ∙ ap (λ xs. f t ∷ xs) (all-apart f token sent ts a.1)

-- one at a place in a list is not one that is none of it
pub no-other : (ts : List ℕ) (n t token : ℕ) → IsNone t ts → slice_get ts n ≡ Some token → t ≢ token
no-other [] n t token a is = absurd (none-some token is)
no-other (u ∷ us) zero t token a is = λ e. a.0 (e ∙ sym (same_Some _ _ is))
no-other (u ∷ us) (suc n) t token a is = no-other us n t token a.1 is

-- another payload under the token of a place changes what is looked up there alone
pub one-changes : (f : Kept) (ts : List ℕ) (number token : ℕ) (sent : Option SentPayload) → AreApart ts → slice_get ts number ≡ Some token
    → map (with_payload f token sent) ts ≡ slice_set (map f ts) number sent
one-changes f [] number token sent a is = absurd (none-some token is)
one-changes f (t ∷ ts) zero token sent a is =
    let P : ℕ → Type 0 = λ k. map (with_payload f k sent) (t ∷ ts) ≡ sent ∷ map f ts in
    subst P (same_Some _ _ is) (ap (λ x. x ∷ map (with_payload f t sent) ts) (put-there f t sent) ∙ ap (λ xs. sent ∷ xs) (all-apart f t sent ts a.0))
one-changes f (t ∷ ts) (suc n) token sent a is =
    let apart : token ≢ t = λ e. no-other ts n t token a.0 is (sym e) in
    ap (λ x. x ∷ map (with_payload f token sent) ts) (put-apart f token t sent apart) ∙ ap (λ xs. f t ∷ xs) (one-changes f ts n token sent a.1 is)
