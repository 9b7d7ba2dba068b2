-- Texts that are joined by a byte which none of them has are parted there.
use Rattle.std.proofs.Common.{◌≡◌, ◌∙◌, ◌<◌, ◌+◌, ℕ, suc, zero, ◌/◌, ◌%◌, eqb, not, ◌&&◌, Bool, true, false, List, [], ◌∷◌, ◌++◌, length, take, map, get_or, codes, Some, sym, ap, refl, arith, append_assoc, add-one, length-take}
use Rattle.std.proofs.lemmas.List.{length-map}
use Rattle.std.specs.Prelude.{slice_index, slice_get, All}
use Rattle.std.specs.List.{join_with_byte, slice_split}
use Rattle.std.proofs.lemmas.Bool.{and_parts}
use Rattle.std.proofs.lemmas.List.Elements.{All-nil, All-cons, All-map, All-get_or, All-same, All-weaker}
use Rattle.std.proofs.lemmas.Option.{slice_get_within}
use Rattle.std.proofs.lemmas.List.Splits.{slice_split_none, slice_split_at}
use Rattle.hex.specs.Hex.{encode_with, lower_digits, IsBytes}
use Rattle.quic_lines.specs.Field.{hex_form, SpellsNoBytes, SpellsNoChunks}

-- a text without this byte
abbrev pub Lacks : ℕ → List ℕ → Type 0
Lacks c xs = All (λ b. eqb b c ≡ false) xs

-- texts without it
pub data AllLack (c : ℕ) : List (List ℕ) → Type 0 where
  no_text : AllLack c []
  lacking : {x : List ℕ} {xs : List (List ℕ)} → Lacks c x → AllLack c xs → AllLack c (x ∷ xs)

pub split_joined : (c : ℕ) → eqb c c ≡ true → (x : List ℕ) (xs : List (List ℕ)) → AllLack c (x ∷ xs) → slice_split (λ b. eqb b c) (join_with_byte c (x ∷ xs)) ≡ x ∷ xs
split_joined c same x [] (lacking h no_text) = slice_split_none (λ b. eqb b c) x h
split_joined c same x (y ∷ ys) (lacking h g) = slice_split_at (λ b. eqb b c) x c (join_with_byte c (y ∷ ys)) h same ∙ ap (λ l. x ∷ l) (split_joined c same y ys g)

-- whether a text that is written out lacks it
abbrev pub lacks : ℕ → List ℕ → Bool
lacks c [] = true
lacks c (b ∷ bs) = not (eqb b c) && lacks c bs

not_true : (b : Bool) → not b ≡ true → b ≡ false
not_true true e = sym e
not_true false e = refl

lacks_at : (c : ℕ) (bs : List ℕ) → eqb 0 c ≡ false → lacks c bs ≡ true → (i : ℕ) → eqb (slice_index bs i) c ≡ false
lacks_at c [] some e i = some
lacks_at c (b ∷ bs) some e zero = not_true (eqb b c) (and_parts (not (eqb b c)) (lacks c bs) e).0
lacks_at c (b ∷ bs) some e (suc i) = lacks_at c bs some (and_parts (not (eqb b c)) (lacks c bs) e).1 i

pub written_lacks : (c : ℕ) (bs : List ℕ) → lacks c bs ≡ true → Lacks c bs
written_lacks c [] e = All-nil (λ b. eqb b c ≡ false)
written_lacks c (b ∷ bs) e = let p = and_parts (not (eqb b c)) (lacks c bs) e in All-cons (λ x. eqb x c ≡ false) b bs (not_true (eqb b c) p.0) (written_lacks c bs p.1)

-- the form of bytes lacks what no digit and no dash is
encoded_lacks : (c : ℕ) → eqb 0 c ≡ false → lacks c lower_digits ≡ true → (xs : List ℕ) → Lacks c (encode_with lower_digits xs)
unfolding encode_with
encoded_lacks c some digits [] = All-nil (λ b. eqb b c ≡ false)
encoded_lacks c some digits (b ∷ rest) =
    All-cons (λ x. eqb x c ≡ false) (slice_index lower_digits (b / 16)) (slice_index lower_digits (b % 16) ∷ encode_with lower_digits rest) (lacks_at c lower_digits some digits (b / 16))
    (All-cons (λ x. eqb x c ≡ false) (slice_index lower_digits (b % 16)) (encode_with lower_digits rest) (lacks_at c lower_digits some digits (b % 16)) (encoded_lacks c some digits rest))

pub form_lacks : (c : ℕ) → eqb 0 c ≡ false → lacks c lower_digits ≡ true → eqb 45 c ≡ false → (xs : List ℕ) → Lacks c (hex_form xs)
form_lacks c some digits dash [] = All-cons (λ x. eqb x c ≡ false) 45 [] dash (All-nil (λ b. eqb b c ≡ false))
form_lacks c some digits dash (b ∷ bs) = encoded_lacks c some digits (b ∷ bs)

-- so chunks that are joined by commas are parted there
forms_lack : (xs : List (List ℕ)) → AllLack 44 (map hex_form xs)
forms_lack [] = no_text
forms_lack (x ∷ xs) = lacking (form_lacks 44 refl refl refl x) (forms_lack xs)

pub parted : (x : List ℕ) (xs : List (List ℕ)) → slice_split (λ b. eqb b 44) (join_with_byte 44 (map hex_form (x ∷ xs))) ≡ map hex_form (x ∷ xs)
parted x xs = split_joined 44 refl (hex_form x) (map hex_form xs) (forms_lack (x ∷ xs))

abbrev IsForm : List ℕ → Type 0
IsForm text = (bytes : List ℕ) × IsBytes bytes × (hex_form bytes ≡ text)

all_forms : (chunks : List (List ℕ)) → All IsBytes chunks → All IsForm (map hex_form chunks)
all_forms chunks h = All-map IsForm hex_form chunks (All-weaker IsBytes (λ x. IsForm (hex_form x)) (λ x b. (x, b, refl)) chunks h)

-- where one part is no form of bytes, the text is no form of chunks
pub no_chunks : (text part : List ℕ) (i : ℕ) → i < length (slice_split (λ b. eqb b 44) text) → part ≡ get_or (slice_split (λ b. eqb b 44) text) i part → SpellsNoBytes part → SpellsNoChunks text
no_chunks text part i low at refused [] are e = absurd (omega (arith, are.0))
no_chunks text part i low at refused (x ∷ xs) are e =
    let parts = ap (slice_split (λ b. eqb b 44)) e ∙ parted x xs in
    let form = All-get_or IsForm (slice_split (λ b. eqb b 44) text) i part low (All-same IsForm _ (map hex_form (x ∷ xs)) parts (all_forms (x ∷ xs) are.1)) in
    refused form.0 form.1 (form.2 ∙ sym at)

-- chunks that are joined so, and one more
pub one_more : (xs : List (List ℕ)) (x : List ℕ) → 0 < length xs → join_with_byte 44 (xs ++ x ∷ []) ≡ join_with_byte 44 xs ++ (44 ∷ x)
one_more [] x some = absurd (omega (arith, some))
one_more (y ∷ []) x some = refl
one_more (y ∷ z ∷ zs) x some = ap (λ (l : List ℕ). y ++ (44 ∷ l)) (one_more (z ∷ zs) x (omega arith)) ∙ sym (append_assoc y (44 ∷ join_with_byte 44 (z ∷ zs)) (44 ∷ x))

taken : (chunks : List (List ℕ)) (i : ℕ) (x : List ℕ) → slice_get chunks i ≡ Some x → map hex_form (take (suc i) chunks) ≡ map hex_form (take i chunks) ++ hex_form x ∷ []
taken [] i x e = cc e
taken (y ∷ ys) zero x e = cc e
taken (y ∷ ys) (suc i) x e = ap (λ (l : List (List ℕ)). hex_form y ∷ l) (taken ys i x e)

pub joined_more : (chunks : List (List ℕ)) (i : ℕ) (x comma : List ℕ) → slice_get chunks i ≡ Some x → (i ≡ 0 → comma ≡ []) → (0 < i → comma ≡ codes ",") →
    join_with_byte 44 (map hex_form (take (i + 1) chunks)) ≡ (join_with_byte 44 (map hex_form (take i chunks)) ++ comma) ++ hex_form x
joined_more chunks zero x comma e first other = rw (first refl) (ap (join_with_byte 44) (taken chunks 0 x e))
joined_more chunks (suc i) x comma e first other =
    let low = slice_get_within chunks (suc i) x e in
    rw (add-one, other (omega arith)) (ap (join_with_byte 44) (taken chunks (suc i) x e) ∙ one_more (map hex_form (take (suc i) chunks)) (hex_form x) (simp (length-map, length-take) (omega (arith, low)))
    ∙ sym (append_assoc (join_with_byte 44 (map hex_form (take (suc i) chunks))) (codes ",") (hex_form x)))
