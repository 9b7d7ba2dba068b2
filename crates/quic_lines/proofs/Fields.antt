-- The form of bytes decodes to them.
use Rattle.std.proofs.Common.{◌≡◌, ℕ, List, [], ◌∷◌, ◌∙◌, ◌⊎◌, Result, Ok, Err, sym, ap, inl, inr}
use Rattle.hex.specs.Hex.{decode_of, IsBytes}
use Rattle.hex.specs.declared.error.FromHexError.{FromHexError}
use Rattle.hex.specs.declared.error.FromHexError.TheVariants as errors
use Rattle.hex.proofs.HexLemmas.{decode_of-encode_lower}
use Rattle.quic_lines.specs.Field.{hex_form, SpellsNoBytes}

pub decodes : (xs text : List ℕ) → IsBytes xs → hex_form xs ≡ text → (text ≡ 45 ∷ [] → ⊥) → decode_of text ≡ Ok xs
decodes [] text bytes e some = absurd (some (sym e))
decodes (x ∷ xs) text bytes e some = rw (← e) (decode_of-encode_lower (x ∷ xs) bytes)

-- a text that does not decode is no form
pub no_form : (text : List ℕ) (e : FromHexError) → decode_of text ≡ Err e → (text ≡ 45 ∷ [] → ⊥) → SpellsNoBytes text
no_form text e refused some xs bytes form = let z = sym refused ∙ decodes xs text bytes form some in cc

ok_is : (a b : List ℕ) → ◌≡◌ {A = Result (List ℕ) FromHexError} (Ok a) (Ok b) → a ≡ b
ok_is a b e = cc

-- a text that decodes to bytes of another form is no form
pub other_form : (text found : List ℕ) → decode_of text ≡ Ok found → (hex_form found ≡ text → ⊥) → (text ≡ 45 ∷ [] → ⊥) → SpellsNoBytes text
other_form text found decoded other some xs bytes form =
    other (ap hex_form (ok_is _ _ (sym decoded ∙ decodes xs text bytes form some)) ∙ form)

-- an error other than out of memory is the text's
pub refused_by : (text : List ℕ) (e f : FromHexError) → (e ≡ errors.OutOfMemory) ⊎ (decode_of text ≡ Err e) → e ≡ f → (f ≡ errors.OutOfMemory → ⊥) → (text ≡ 45 ∷ [] → ⊥) → SpellsNoBytes text
refused_by text e f (inl out) is other some = absurd (other (sym is ∙ out))
refused_by text e f (inr refused) is other some = no_form text e refused some
