use Rattle.std.proofs.Common.{◌≡◌, ◌∙◌, ◌≤◌, sym, lit<, rules}
use Rattle.std.specs.Cmp.Lexicographic.{other_text}
use Rattle.std.specs.Prelude.{slice_index, codes}
use Rattle.std.proofs.lemmas.Fmt.{decimal_digit}
use Rattle.quic_lines.proofs.Numerals.{plain_or, minus_or, no_signed_or, no_signed}
use Rattle.quic_lines.proofs.lines.priority.Goals as goal

pub returns-then-eq-clause-text : goal.returns-then-eq-clause-text
returns-then-eq-clause-text c =
    let zero_is : c.args.field.now ≡ codes "0" = search rules in
    zero_is ∙ sym (decimal_digit 0 (lit< tt))

pub returns-then-begins_as_number-clause-text : goal.returns-then-begins_as_number-clause-text
returns-then-begins_as_number-clause-text c =
    let first : 49 ≤ slice_index c.args.field.now 0 = search rules in
    rw c.or.ensures (plain_or c.args.field.now c.parse.result _ c.parse.ensures.value.0 first)

pub returns-then-begins_as_number-clause-none : goal.returns-then-begins_as_number-clause-none
returns-then-begins_as_number-clause-none c = rw c.or.ensures (no_signed_or c.args.field.now c.parse.result _ c.parse.ensures.value.0)

pub returns-then-begins_as_negative-clause-text : goal.returns-then-begins_as_negative-clause-text
returns-then-begins_as_negative-clause-text c =
    let sign : slice_index c.args.field.now 0 ≡ 45 = search rules in
    let first : 49 ≤ slice_index c.args.field.now 1 = search rules in
    rw c.or-then-begins_as_negative.ensures (minus_or c.args.field.now c.parse-then-begins_as_negative.result _ c.parse-then-begins_as_negative.ensures.value.0 sign first)

pub returns-then-begins_as_negative-clause-none : goal.returns-then-begins_as_negative-clause-none
returns-then-begins_as_negative-clause-none c = rw c.or-then-begins_as_negative.ensures (no_signed_or c.args.field.now c.parse-then-begins_as_negative.result _ c.parse-then-begins_as_negative.ensures.value.0)

pub returns-clause-none : goal.returns-clause-none
returns-clause-none c =
    no_signed c.args.field.now (other_text c.args.field.now (codes "0") (sym c.if-eq.false ∙ c.eq.ensures))
    (λ h. let told = c.if-begins_as_number.ensures.1 (rw c.as_bytes.ensures.value h) in cc)
    (λ h. let told = c.if-begins_as_negative.ensures.1 (rw c.as_bytes-2.ensures.value h) in cc)
