use Rattle.std.proofs.Common.{◌∙◌, ◌∷◌, [], ap, sym}
use Rattle.std.specs.Cmp.Lexicographic.{other_text}
use Rattle.quic_lines.specs.Field.{hex_form}
use Rattle.quic_lines.proofs.Fields.{other_form, refused_by}
use Rattle.quic_lines.proofs.hexadecimal.hex_bytes.Goals as goal

pub returns-in-Err-InvalidHexCharacter-clause-none : goal.returns-in-Err-InvalidHexCharacter-clause-none
returns-in-Err-InvalidHexCharacter-clause-none c =
    refused_by c.args.field.now _ _ c.in-Err-InvalidHexCharacter.ensures.err c.in-Err-InvalidHexCharacter.field-0-is (λ e. cc)
    (other_text c.args.field.now (45 ∷ []) (sym c.if-eq.false ∙ c.eq.ensures))

pub returns-in-Err-OddLength-clause-none : goal.returns-in-Err-OddLength-clause-none
returns-in-Err-OddLength-clause-none c =
    refused_by c.args.field.now _ _ c.in-Err-OddLength.ensures.err c.in-Err-OddLength.field-0-is (λ e. cc)
    (other_text c.args.field.now (45 ∷ []) (sym c.if-eq.false ∙ c.eq.ensures))

pub returns-in-Err-InvalidStringLength-clause-none : goal.returns-in-Err-InvalidStringLength-clause-none
returns-in-Err-InvalidStringLength-clause-none c =
    refused_by c.args.field.now _ _ c.in-Err-InvalidStringLength.ensures.err c.in-Err-InvalidStringLength.field-0-is (λ e. cc)
    (other_text c.args.field.now (45 ∷ []) (sym c.if-eq.false ∙ c.eq.ensures))

pub returns-else-eq-2-clause-none : goal.returns-else-eq-2-clause-none
returns-else-eq-2-clause-none c =
    other_form c.args.field.now c.in-Ok.bytes.items c.in-Ok.ensures.ok
    (λ e. other_text c.as_str.result.now c.args.field.now (sym c.if-eq-2.false ∙ c.eq-2.ensures) (c.as_str.ensures.value ∙ c.in_ok-form.ensures ∙ ap hex_form c.as_slice.ensures.value ∙ e))
    (other_text c.args.field.now (45 ∷ []) (sym c.if-eq.false ∙ c.eq.ensures))
