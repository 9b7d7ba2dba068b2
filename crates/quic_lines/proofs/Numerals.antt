-- Numbers in a line: decimal digits without leading zeros.
use Rattle.std.proofs.Common.{◌≡◌, refl, ℕ, zero, suc, ◌+◌, ◌%◌, ◌<◌, ◌≤◌, ◌^◌, true, List, [], ◌∷◌, Result, Ok, Err, length, get_or, sym, ap, ◌∙◌, arith, rules, lit<}
use Rattle.std.specs.Option.{SomeIff, ok_or}
use Rattle.std.specs.Prelude.{ℤ, pos, negsuc, Option, Some, None, IfOk, IfErr, FitsSigned}
use Rattle.std.proofs.Math.IntN.{neg_ℤ}
use lib.Signed.{mag}
use Rattle.std.specs.Int.{w32}
use Rattle.std.specs.Fmt.{decimal, signed_decimal}
use Rattle.std.specs.Result.{result_or}
use Rattle.std.specs.Str.{all_ascii_digits}
use Rattle.std.specs.Str.Parse.{ParsesUnsigned, ParsesSigned, digits_value}
use Rattle.std.proofs.lemmas.Fmt.{decimal-digits_value, decimal_digit, decimal_by_steps, decimal_injective, first_decimal, parse-decimal, parse-signed_decimal}
use Rattle.std.proofs.lemmas.List.{get_or_append_left, length-append}
use Rattle.std.proofs.lemmas.Str.Parse.{IsNumeralModel, numerals_by_value, parse_plain, parse_signed_plain, parse_signed_minus}

pub numerals : IsNumeralModel (λ ds. all_ascii_digits ds ≡ true) (digits_value 10)
numerals = numerals_by_value _ (search rules)

-- digits of which the first is not 0 are the decimal form of their value
spells : (ds : List ℕ) → all_ascii_digits ds ≡ true → 0 < length ds → digits_value 10 ds < 2 ^ 64 → 49 ≤ get_or ds 0 0 → decimal (digits_value 10 ds) ≡ ds
spells ds digits some small first = decimal-digits_value numerals ds digits some (λ e. absurd (omega (arith, first, e))) small

-- a parsed number that begins with no 0 and no sign
pub number_or : {E D : Type 0} (bs : List ℕ) (r : Result ℕ E) (e : D) → ParsesUnsigned 64 10 bs r → 49 ≤ get_or bs 0 0 → IfOk (result_or r (Err e)) (λ n. bs ≡ decimal n)
number_or {E} {D} bs (Ok n) e h first =
    let k = parse_plain numerals {E = E} 64 bs (Ok n) h (λ q. omega (arith, first, q)) in
    sym (ap decimal k.1 ∙ spells bs k.0.0 k.0.1 k.0.2 first)
number_or {E} {D} bs (Err x) e h first = tt

-- the same with a sign
half_small : (n : ℕ) → n < 2 ^ 31 → n < 2 ^ 64
half_small n h = omega arith

negative : (m : ℕ) (ds : List ℕ) → decimal m ≡ ds → 49 ≤ get_or ds 0 0 → signed_decimal (neg_ℤ (pos m)) ≡ 45 ∷ ds
negative zero ds e first = absurd (omega (arith, first, ap (λ (xs : List ℕ). get_or xs 0 0) (sym e ∙ decimal_digit 0 (lit< tt))))
negative (suc m) ds e first = ap (λ (xs : List ℕ). 45 ∷ xs) e

pub plain_or : {E D : Type 0} (bs : List ℕ) (r : Result ℤ E) (e : D) → ParsesSigned w32 10 bs r → 49 ≤ get_or bs 0 0 → IfOk (result_or r (Err e)) (λ z. bs ≡ signed_decimal z)
plain_or {E} {D} bs (Ok z) e h first =
    let k = parse_signed_plain numerals {E = E} w32 bs (Ok z) h (λ q. omega (arith, first, q)) (λ q. omega (arith, first, q)) in
    sym (ap signed_decimal k.1 ∙ spells bs k.0.0 k.0.1 (half_small (digits_value 10 bs) k.0.2) first)
plain_or {E} {D} bs (Err x) e h first = tt

half_small_or_equal : (n : ℕ) → n ≤ 2 ^ 31 → n < 2 ^ 64
half_small_or_equal n h = omega arith

pub minus_or : {E D : Type 0} (bs : List ℕ) (r : Result ℤ E) (e : D) → ParsesSigned w32 10 bs r → get_or bs 0 0 ≡ 45 → 49 ≤ get_or bs 1 0 → IfOk (result_or r (Err e)) (λ z. bs ≡ signed_decimal z)
minus_or {E} {D} [] r e h sign first = absurd (let z : 0 ≡ 45 = sign in omega (arith, z))
minus_or {E} {D} (b ∷ ds) (Ok z) e h sign first =
    let k = parse_signed_minus numerals {E = E} w32 (b ∷ ds) (Ok z) h sign in
    ap (λ n. n ∷ ds) sign ∙ sym (ap signed_decimal k.1 ∙ negative (digits_value 10 ds) ds (spells ds k.0.0 k.0.1 (half_small_or_equal (digits_value 10 ds) k.0.2) first) first)
minus_or {E} {D} (b ∷ ds) (Err x) e h sign first = tt

-- a text that does not parse is no decimal form
pub no_number_or : {E D : Type 0} (bs : List ℕ) (r : Result ℕ E) (e : D) → ParsesUnsigned 64 10 bs r → IfErr (result_or r (Err e)) (λ _. (n : ℕ) → n < 2 ^ 64 → bs ≡ decimal n → ⊥)
no_number_or {E} {D} bs (Ok n) e h = tt
no_number_or {E} {D} bs (Err x) e h = λ n small is. let z = parse-decimal 64 n bs (Err x) small small is h in cc

mag_small : (z : ℤ) → FitsSigned w32 z → mag z < 2 ^ 63
mag_small z fits = omega (arith, fits.sfits)

pub no_signed_or : {E D : Type 0} (bs : List ℕ) (r : Result ℤ E) (e : D) → ParsesSigned w32 10 bs r → IfErr (result_or r (Err e)) (λ _. (z : ℤ) → FitsSigned w32 z → bs ≡ signed_decimal z → ⊥)
no_signed_or {E} {D} bs (Ok z) e h = tt
no_signed_or {E} {D} bs (Err x) e h = λ z fits is. let p = parse-signed_decimal w32 z bs (Err x) fits (mag_small z fits) is h in cc

-- a decimal form is `0`, or begins with a digit from 1 to 9
last_digit : (n : ℕ) → n < 2 ^ 64 → get_or (decimal n) 0 0 ≤ 57
last_digit n small = (decimal_by_steps (λ m ds. (0 < length ds) × (get_or ds 0 0 ≤ 57)) (λ m l. (omega arith, omega arith))
    (λ m ds l h. (omega (arith, length-append ds ((48 + m % 10) ∷ [])), omega (arith, get_or_append_left ds ((48 + m % 10) ∷ []) 0 0 h.0, h.1))) n small).1

pub no_number : (bs : List ℕ) → (bs ≡ 48 ∷ [] → ⊥) → ((49 ≤ get_or bs 0 0) × (get_or bs 0 0 ≤ 57) → ⊥) → (n : ℕ) → n < 2 ^ 64 → bs ≡ decimal n → ⊥
no_number bs some other zero small is = some (is ∙ decimal_digit 0 (lit< tt))
no_number bs some other (suc n) small is = other (rw is (omega (arith, first_decimal (suc n) (omega arith) small), last_digit (suc n) small))

-- a signed one is that, or begins with a sign and such a digit
pub no_signed : (bs : List ℕ) → (bs ≡ 48 ∷ [] → ⊥) → ((49 ≤ get_or bs 0 0) × (get_or bs 0 0 ≤ 57) → ⊥) → ((get_or bs 0 0 ≡ 45) × (49 ≤ get_or bs 1 0) × (get_or bs 1 0 ≤ 57) → ⊥) →
    (z : ℤ) → FitsSigned w32 z → bs ≡ signed_decimal z → ⊥
no_signed bs some plain minus (pos n) fits is = no_number bs some plain n (omega (arith, fits.sfits)) is
no_signed bs some plain minus (negsuc n) fits is =
    minus (rw is (refl, omega (arith, first_decimal (suc n) (omega arith) (omega (arith, fits.sfits))), last_digit (suc n) (omega (arith, fits.sfits))))

-- a text is the decimal form of one number at most
pub one_number : (bs : List ℕ) (m n : ℕ) → m < 2 ^ 64 → n < 2 ^ 64 → bs ≡ decimal m → bs ≡ decimal n → m ≡ n
one_number bs m n small below is form = decimal_injective m n small below (sym is ∙ form)

-- a number that is too large for its field is the only one that the text spells
pub too_large : {D : Type 0} (bs : List ℕ) (found : Option ℕ) (m : ℕ) (e : D) → SomeIff found (m < 2 ^ 62) m → m < 2 ^ 64 → bs ≡ decimal m → IfErr (ok_or found e) (λ _. (n : ℕ) → n < 2 ^ 62 → bs ≡ decimal n → ⊥)
too_large {D} bs (Some x) m e h small is = tt
too_large {D} bs None m e h small is = λ n low form. let same = one_number bs m n small (omega (arith, low)) is form in h (omega (arith, same, low))
