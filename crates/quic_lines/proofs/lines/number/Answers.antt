use Rattle.std.proofs.Common.{◌≡◌, ◌∙◌, ◌≤◌, sym, lit<, rules}
use Rattle.std.specs.Cmp.Lexicographic.{other_text}
use Rattle.std.specs.Prelude.{slice_index, codes}
use Rattle.std.proofs.lemmas.Fmt.{decimal_digit}
use Rattle.quic_lines.proofs.Numerals.{number_or, no_number_or, no_number}
use Rattle.quic_lines.proofs.lines.number.Goals as goal

pub returns-then-eq-clause-text : goal.returns-then-eq-clause-text
returns-then-eq-clause-text c =
    let zero_is : c.args.field.now ≡ codes "0" = search rules in
    zero_is ∙ sym (decimal_digit 0 (lit< tt))

pub returns-clause-text : goal.returns-clause-text
returns-clause-text c =
    let first : 49 ≤ slice_index c.args.field.now 0 = search rules in
    rw c.or.ensures (number_or c.args.field.now c.parse.result _ c.parse.ensures.value.0 first)

pub returns-clause-none : goal.returns-clause-none
returns-clause-none c = rw c.or.ensures (no_number_or c.args.field.now c.parse.result _ c.parse.ensures.value.0)

pub returns-then-not-begins_as_number-clause-none : goal.returns-then-not-begins_as_number-clause-none
returns-then-not-begins_as_number-clause-none c =
    no_number c.args.field.now (other_text c.args.field.now (codes "0") (sym c.if-eq.false ∙ c.eq.ensures))
    (λ h. let told = c.if-not-begins_as_number.ensures.1 (rw c.as_bytes.ensures.value h) in cc)
