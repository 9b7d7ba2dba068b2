-- A line that spells a step has its fields, and these are of no other step.
use Rattle.std.proofs.Common.{◌≡◌, ◌∙◌, ℕ, suc, zero, ◌+◌, ◌%◌, ◌<◌, ◌≤◌, ◌^◌, eqb, Bool, true, false, List, [], ◌∷◌, ◌++◌, length, map, get_or, codes, if◌then◌else◌, Result, Ok, Err, refl, sym, ap, subst, arith, rules}
use Rattle.std.specs.Prelude.{ℤ, pos, negsuc, FitsSigned, All}
use lib.Pointwise.{pointwise}
use lib.Signed.{mag}
use Rattle.std.proofs.Math.IntN.{neg_ℤ}
use Rattle.std.specs.Int.{w32}
use Rattle.std.specs.Fmt.{decimal, signed_decimal}
use Rattle.std.specs.List.{join_with_byte, slice_split}
use Rattle.std.specs.Str.{all_ascii_digits}
use Rattle.std.specs.Str.Parse.{digits_value}
use Rattle.std.proofs.lemmas.Fmt.{decimal_by_steps, digits_value-decimal}
use Rattle.std.proofs.lemmas.List.{get_or_append_left, length-append}
use Rattle.std.proofs.lemmas.List.Elements.{All-nil, All-cons, All-append, All-weaker}
use Rattle.hex.specs.Hex.{decode_of, IsBytes}
use Rattle.hex.specs.declared.error.FromHexError.{FromHexError}
use Rattle.hex.proofs.HexLemmas.{decode_of-encode_lower}
use Rattle.quic_steps.specs.declared.steps.End.{End}
use Rattle.quic_steps.specs.declared.steps.End.TheVariants.{A, B}
use Rattle.quic_steps.specs.declared.steps.PayloadPart.{PayloadPart}
use Rattle.quic_steps.specs.declared.steps.PayloadPart.TheVariants.{Control, Streams}
use Rattle.quic_steps.specs.declared.steps.Step.{Step}
use Rattle.quic_steps.specs.declared.steps.Step.TheVariants as steps
use Rattle.quic_wire.specs.declared.Dir.{Dir}
use Rattle.quic_wire.specs.declared.Dir.TheVariants.{Bi, Uni}
use Rattle.quic_lines.specs.declared.steps.Verb.{Verb}
use Rattle.quic_lines.specs.declared.steps.Verb.TheVariants as verbs
use Rattle.quic_lines.specs.Field.{hex_form, AreChunks}
use Rattle.quic_lines.specs.Grammar.{end_text, mode_text, fairness_text, part_text, spaced, step_fields, step_text, fields_of, IsInRange, MeansStep}
use Rattle.quic_lines.specs.Line.{direction_text}
use Rattle.quic_lines.proofs.Numerals.{numerals}
use Rattle.quic_lines.proofs.Parts.{Lacks, AllLack, no_text, lacking, split_joined, written_lacks, form_lacks, parted}
use Rattle.quic_lines.proofs.Verbs.{verb_of, named}

-- ---- no field has a space

all_high : (n : ℕ) → n < 2 ^ 64 → All (λ b. 48 ≤ b) (decimal n)
all_high n small = decimal_by_steps (λ m ds. All (λ b. 48 ≤ b) ds) (λ m l. All-cons (λ b. 48 ≤ b) (48 + m) [] (omega arith) (All-nil (λ b. 48 ≤ b)))
    (λ m ds l h. All-append (λ b. 48 ≤ b) ds ((48 + m % 10) ∷ []) h (All-cons (λ b. 48 ≤ b) (48 + m % 10) [] (omega arith) (All-nil (λ b. 48 ≤ b)))) n small

not_a_space : (b : ℕ) → 48 ≤ b → eqb b 32 ≡ false
not_a_space b h = grind arith

decimal_lacks : (n : ℕ) → n < 2 ^ 64 → Lacks 32 (decimal n)
decimal_lacks n small = All-weaker (λ b. 48 ≤ b) (λ b. eqb b 32 ≡ false) not_a_space (decimal n) (all_high n small)

signed_lacks : (z : ℤ) → FitsSigned w32 z → Lacks 32 (signed_decimal z)
signed_lacks (pos n) fits = decimal_lacks n (omega (arith, fits.sfits))
signed_lacks (negsuc n) fits = All-cons (λ b. eqb b 32 ≡ false) 45 (decimal (suc n)) refl (decimal_lacks (suc n) (omega (arith, fits.sfits)))

end_lacks : (who : End) → Lacks 32 (end_text who)
end_lacks A = written_lacks 32 (codes "a") refl
end_lacks B = written_lacks 32 (codes "b") refl

direction_lacks : (dir : Dir) → Lacks 32 (direction_text dir)
direction_lacks Bi = written_lacks 32 (codes "bi") refl
direction_lacks Uni = written_lacks 32 (codes "uni") refl

mode_lacks : (ordered : Bool) → Lacks 32 (mode_text ordered)
mode_lacks true = written_lacks 32 (codes "o") refl
mode_lacks false = written_lacks 32 (codes "u") refl

fairness_lacks : (fair : Bool) → Lacks 32 (fairness_text fair)
fairness_lacks true = written_lacks 32 (codes "f") refl
fairness_lacks false = written_lacks 32 (codes "u") refl

part_lacks : (part : PayloadPart) → Lacks 32 (part_text part)
part_lacks Control = written_lacks 32 (codes "control") refl
part_lacks Streams = written_lacks 32 (codes "streams") refl

hex_lacks : (bytes : List ℕ) → Lacks 32 (hex_form bytes)
hex_lacks bytes = form_lacks 32 refl refl refl bytes

joined_lacks : (x : List ℕ) (xs : List (List ℕ)) → Lacks 32 (join_with_byte 44 (map hex_form (x ∷ xs)))
joined_lacks x [] = hex_lacks x
joined_lacks x (y ∷ ys) = All-append (λ b. eqb b 32 ≡ false) (hex_form x) (44 ∷ join_with_byte 44 (map hex_form (y ∷ ys))) (hex_lacks x) (All-cons (λ b. eqb b 32 ≡ false) 44 _ refl (joined_lacks y ys))

chunks_lack : (chunks : List (List ℕ)) → Lacks 32 (join_with_byte 44 (map hex_form chunks))
chunks_lack [] = All-nil (λ b. eqb b 32 ≡ false)
chunks_lack (x ∷ xs) = joined_lacks x xs

fields_lack : (step : Step) → IsInRange step → AllLack 32 (step_fields step)
fields_lack (steps.Open who dir) range = lacking (written_lacks 32 (codes "open") refl) (lacking (end_lacks who) (lacking (direction_lacks dir) no_text))
fields_lack (steps.Accept who dir) range = lacking (written_lacks 32 (codes "accept") refl) (lacking (end_lacks who) (lacking (direction_lacks dir) no_text))
fields_lack (steps.Write who id bytes) range = lacking (written_lacks 32 (codes "write") refl) (lacking (end_lacks who) (lacking (decimal_lacks id (omega (arith, range.0))) (lacking (hex_lacks bytes) no_text)))
fields_lack (steps.WriteChunks who id chunks) range = lacking (written_lacks 32 (codes "chunks") refl) (lacking (end_lacks who) (lacking (decimal_lacks id (omega (arith, range.0))) (lacking (chunks_lack chunks) no_text)))
fields_lack (steps.Finish who id) range = lacking (written_lacks 32 (codes "finish") refl) (lacking (end_lacks who) (lacking (decimal_lacks id (omega (arith, range))) no_text))
fields_lack (steps.Reset who id code) range = lacking (written_lacks 32 (codes "reset") refl) (lacking (end_lacks who) (lacking (decimal_lacks id (omega (arith, range.0))) (lacking (decimal_lacks code (omega (arith, range.1))) no_text)))
fields_lack (steps.Stop who id code) range = lacking (written_lacks 32 (codes "stop") refl) (lacking (end_lacks who) (lacking (decimal_lacks id (omega (arith, range.0))) (lacking (decimal_lacks code (omega (arith, range.1))) no_text)))
fields_lack (steps.SetPriority who id priority) range = lacking (written_lacks 32 (codes "priority") refl) (lacking (end_lacks who) (lacking (decimal_lacks id (omega (arith, range.0))) (lacking (signed_lacks priority range.1) no_text)))
fields_lack (steps.Read who id ordered max times) range = lacking (written_lacks 32 (codes "read") refl) (lacking (end_lacks who) (lacking (decimal_lacks id (omega (arith, range.0))) (lacking (mode_lacks ordered) (lacking (decimal_lacks max range.1) (lacking (decimal_lacks times (omega (arith, range.3))) no_text)))))
fields_lack (steps.ReceivedReset who id) range = lacking (written_lacks 32 (codes "received-reset") refl) (lacking (end_lacks who) (lacking (decimal_lacks id (omega (arith, range))) no_text))
fields_lack (steps.SetSendWindow who window) range = lacking (written_lacks 32 (codes "send-window") refl) (lacking (end_lacks who) (lacking (decimal_lacks window range) no_text))
fields_lack (steps.SetReceiveWindow who window) range = lacking (written_lacks 32 (codes "receive-window") refl) (lacking (end_lacks who) (lacking (decimal_lacks window (omega (arith, range))) no_text))
fields_lack (steps.SetMaxConcurrent who dir count) range = lacking (written_lacks 32 (codes "max-concurrent") refl) (lacking (end_lacks who) (lacking (direction_lacks dir) (lacking (decimal_lacks count (omega (arith, range))) no_text)))
fields_lack (steps.Poll who) range = lacking (written_lacks 32 (codes "poll") refl) (lacking (end_lacks who) no_text)
fields_lack (steps.Emit who max_size fair) range = lacking (written_lacks 32 (codes "emit") refl) (lacking (end_lacks who) (lacking (decimal_lacks max_size range) (lacking (fairness_lacks fair) no_text)))
fields_lack (steps.EmitPart who max_size fair part) range = lacking (written_lacks 32 (codes "emit-part") refl) (lacking (end_lacks who) (lacking (decimal_lacks max_size range) (lacking (fairness_lacks fair) (lacking (part_lacks part) no_text))))
fields_lack (steps.Deliver payload frame) range = lacking (written_lacks 32 (codes "deliver") refl) (lacking (decimal_lacks payload range.0) (lacking (decimal_lacks frame range.1) no_text))
fields_lack (steps.Lose payload) range = lacking (written_lacks 32 (codes "lose") refl) (lacking (decimal_lacks payload range) no_text)
fields_lack (steps.Ack payload) range = lacking (written_lacks 32 (codes "ack") refl) (lacking (decimal_lacks payload range) no_text)
fields_lack steps.EarlyAccept range = lacking (written_lacks 32 (codes "early-accept") refl) no_text
fields_lack steps.EarlyReject range = lacking (written_lacks 32 (codes "early-reject") refl) no_text
fields_lack steps.Retry range = lacking (written_lacks 32 (codes "retry") refl) no_text

-- so they are the fields of the line
split_fields : (fields : List (List ℕ)) → 0 < length fields → AllLack 32 fields → fields_of (spaced fields) ≡ fields
split_fields [] some lack = absurd (omega (arith, some))
split_fields (x ∷ xs) some lack = split_joined 32 refl x xs lack

some_field : (step : Step) → 0 < length (step_fields step)
some_field (steps.Open who dir) = omega arith
some_field (steps.Accept who dir) = omega arith
some_field (steps.Write who id bytes) = omega arith
some_field (steps.WriteChunks who id chunks) = omega arith
some_field (steps.Finish who id) = omega arith
some_field (steps.Reset who id code) = omega arith
some_field (steps.Stop who id code) = omega arith
some_field (steps.SetPriority who id priority) = omega arith
some_field (steps.Read who id ordered max times) = omega arith
some_field (steps.ReceivedReset who id) = omega arith
some_field (steps.SetSendWindow who window) = omega arith
some_field (steps.SetReceiveWindow who window) = omega arith
some_field (steps.SetMaxConcurrent who dir count) = omega arith
some_field (steps.Poll who) = omega arith
some_field (steps.Emit who max_size fair) = omega arith
some_field (steps.EmitPart who max_size fair part) = omega arith
some_field (steps.Deliver payload frame) = omega arith
some_field (steps.Lose payload) = omega arith
some_field (steps.Ack payload) = omega arith
some_field steps.EarlyAccept = omega arith
some_field steps.EarlyReject = omega arith
some_field steps.Retry = omega arith

pub line_means : (line : List ℕ) (step : Step) → line ≡ step_text step → IsInRange step → MeansStep line step
line_means line step e range = rw e (split_fields (step_fields step) (some_field step) (fields_lack step range))

-- ---- a step is known from its fields

abbrev end_of : List ℕ → End
end_of field = if pointwise eqb field (codes "a") then A else B

end_back : (who : End) → end_of (end_text who) ≡ who
end_back A = refl
end_back B = refl

abbrev direction_of : List ℕ → Dir
direction_of field = if pointwise eqb field (codes "bi") then Bi else Uni

direction_back : (dir : Dir) → direction_of (direction_text dir) ≡ dir
direction_back Bi = refl
direction_back Uni = refl

-- whether a field is this letter
abbrev is_letter : List ℕ → List ℕ → Bool
is_letter letter field = pointwise eqb field letter

mode_back : (ordered : Bool) → is_letter (codes "o") (mode_text ordered) ≡ ordered
mode_back true = refl
mode_back false = refl

fairness_back : (fair : Bool) → is_letter (codes "f") (fairness_text fair) ≡ fair
fairness_back true = refl
fairness_back false = refl

abbrev part_of : List ℕ → PayloadPart
part_of field = if pointwise eqb field (codes "control") then Control else Streams

part_back : (part : PayloadPart) → part_of (part_text part) ≡ part
part_back Control = refl
part_back Streams = refl

abbrev number_in : List ℕ → ℕ
number_in field = digits_value 10 field

number_back : (n : ℕ) → n < 2 ^ 64 → number_in (decimal n) ≡ n
number_back n small = digits_value-decimal numerals n small

first_high : (n : ℕ) → n < 2 ^ 64 → (0 < length (decimal n)) × (48 ≤ get_or (decimal n) 0 0)
first_high n small = decimal_by_steps (λ m ds. (0 < length ds) × (48 ≤ get_or ds 0 0)) (λ m l. (omega arith, omega arith))
    (λ m ds l h. (omega (arith, length-append ds ((48 + m % 10) ∷ [])), omega (arith, get_or_append_left ds ((48 + m % 10) ∷ []) 0 0 h.0, h.1))) n small

abbrev signed_in : List ℕ → ℤ
signed_in [] = pos 0
signed_in (b ∷ ds) = if eqb b 45 then neg_ℤ (pos (digits_value 10 ds)) else pos (digits_value 10 (b ∷ ds))

no_dash : (b : ℕ) → 48 ≤ b → eqb b 45 ≡ false
no_dash b h = grind arith

signed_plain : (ds : List ℕ) → 0 < length ds → 48 ≤ get_or ds 0 0 → signed_in ds ≡ pos (digits_value 10 ds)
signed_plain [] some high = absurd (omega (arith, some))
signed_plain (b ∷ ds) some high = rw (no_dash b high) refl

signed_back : (z : ℤ) → FitsSigned w32 z → signed_in (signed_decimal z) ≡ z
signed_back (pos n) fits =
    let small : n < 2 ^ 64 = omega (arith, fits.sfits) in
    signed_plain (decimal n) (first_high n small).0 (first_high n small).1 ∙ ap pos (number_back n small)
signed_back (negsuc n) fits = ap (λ m. neg_ℤ (pos m)) (number_back (suc n) (omega (arith, fits.sfits)))

abbrev found : Result (List ℕ) FromHexError → List ℕ
found (Ok bytes) = bytes
found (Err error) = []

abbrev bytes_in : List ℕ → List ℕ
bytes_in field = found (decode_of field)

bytes_back : (bytes : List ℕ) → IsBytes bytes → bytes_in (hex_form bytes) ≡ bytes
bytes_back [] h = refl
bytes_back (b ∷ bs) h = ap found (decode_of-encode_lower (b ∷ bs) h)

abbrev chunks_in : List ℕ → List (List ℕ)
chunks_in field = map bytes_in (slice_split (λ b. eqb b 44) field)

forms_back : (chunks : List (List ℕ)) → All IsBytes chunks → map bytes_in (map hex_form chunks) ≡ chunks
forms_back [] h = refl
forms_back (x ∷ xs) h =
    let first = bytes_back x (h 0 x (omega arith)) in
    let rest = forms_back xs (λ k d low. h (suc k) d (omega arith)) in
    cc

chunks_back : (chunks : List (List ℕ)) → AreChunks chunks → chunks_in (join_with_byte 44 (map hex_form chunks)) ≡ chunks
chunks_back [] are = absurd (omega (arith, are.0))
chunks_back (x ∷ xs) are = ap (map bytes_in) (parted x xs) ∙ forms_back (x ∷ xs) are.1

-- the step of a verb, and of fields of which the first is the verb
abbrev field_of : List (List ℕ) → ℕ → List ℕ
field_of fields i = get_or fields i []

abbrev step_of : Verb → List (List ℕ) → Step
step_of verbs.Open f = steps.Open (end_of (field_of f 1)) (direction_of (field_of f 2))
step_of verbs.Accept f = steps.Accept (end_of (field_of f 1)) (direction_of (field_of f 2))
step_of verbs.Write f = steps.Write (end_of (field_of f 1)) (number_in (field_of f 2)) (bytes_in (field_of f 3))
step_of verbs.WriteChunks f = steps.WriteChunks (end_of (field_of f 1)) (number_in (field_of f 2)) (chunks_in (field_of f 3))
step_of verbs.Finish f = steps.Finish (end_of (field_of f 1)) (number_in (field_of f 2))
step_of verbs.Reset f = steps.Reset (end_of (field_of f 1)) (number_in (field_of f 2)) (number_in (field_of f 3))
step_of verbs.Stop f = steps.Stop (end_of (field_of f 1)) (number_in (field_of f 2)) (number_in (field_of f 3))
step_of verbs.SetPriority f = steps.SetPriority (end_of (field_of f 1)) (number_in (field_of f 2)) (signed_in (field_of f 3))
step_of verbs.Read f = steps.Read (end_of (field_of f 1)) (number_in (field_of f 2)) (is_letter (codes "o") (field_of f 3)) (number_in (field_of f 4)) (number_in (field_of f 5))
step_of verbs.ReceivedReset f = steps.ReceivedReset (end_of (field_of f 1)) (number_in (field_of f 2))
step_of verbs.SetSendWindow f = steps.SetSendWindow (end_of (field_of f 1)) (number_in (field_of f 2))
step_of verbs.SetReceiveWindow f = steps.SetReceiveWindow (end_of (field_of f 1)) (number_in (field_of f 2))
step_of verbs.SetMaxConcurrent f = steps.SetMaxConcurrent (end_of (field_of f 1)) (direction_of (field_of f 2)) (number_in (field_of f 3))
step_of verbs.Poll f = steps.Poll (end_of (field_of f 1))
step_of verbs.Emit f = steps.Emit (end_of (field_of f 1)) (number_in (field_of f 2)) (is_letter (codes "f") (field_of f 3))
step_of verbs.EmitPart f = steps.EmitPart (end_of (field_of f 1)) (number_in (field_of f 2)) (is_letter (codes "f") (field_of f 3)) (part_of (field_of f 4))
step_of verbs.Deliver f = steps.Deliver (number_in (field_of f 1)) (number_in (field_of f 2))
step_of verbs.Lose f = steps.Lose (number_in (field_of f 1))
step_of verbs.Ack f = steps.Ack (number_in (field_of f 1))
step_of verbs.EarlyAccept f = steps.EarlyAccept
step_of verbs.EarlyReject f = steps.EarlyReject
step_of verbs.Retry f = steps.Retry

abbrev step_in : List (List ℕ) → Step
step_in fields = step_of (named (field_of fields 0)) fields

-- (each step by its parts)
step_back : (step : Step) → IsInRange step → step_in (step_fields step) ≡ step
step_back (steps.Open who dir) range = cc (end_back who, direction_back dir)
step_back (steps.Accept who dir) range = cc (end_back who, direction_back dir)
step_back (steps.Write who id bytes) range = cc (end_back who, number_back id (omega (arith, range.0)), bytes_back bytes range.1)
step_back (steps.WriteChunks who id chunks) range = cc (end_back who, number_back id (omega (arith, range.0)), chunks_back chunks range.1)
step_back (steps.Finish who id) range = cc (end_back who, number_back id (omega (arith, range)))
step_back (steps.Reset who id code) range = cc (end_back who, number_back id (omega (arith, range.0)), number_back code (omega (arith, range.1)))
step_back (steps.Stop who id code) range = cc (end_back who, number_back id (omega (arith, range.0)), number_back code (omega (arith, range.1)))
step_back (steps.SetPriority who id priority) range = cc (end_back who, number_back id (omega (arith, range.0)), signed_back priority range.1)
step_back (steps.Read who id ordered max times) range =
    cc (end_back who, number_back id (omega (arith, range.0)), mode_back ordered, number_back max range.1, number_back times (omega (arith, range.3)))
step_back (steps.ReceivedReset who id) range = cc (end_back who, number_back id (omega (arith, range)))
step_back (steps.SetSendWindow who window) range = cc (end_back who, number_back window range)
step_back (steps.SetReceiveWindow who window) range = cc (end_back who, number_back window (omega (arith, range)))
step_back (steps.SetMaxConcurrent who dir count) range = cc (end_back who, direction_back dir, number_back count (omega (arith, range)))
step_back (steps.Poll who) range = cc (end_back who)
step_back (steps.Emit who max_size fair) range = cc (end_back who, number_back max_size range, fairness_back fair)
step_back (steps.EmitPart who max_size fair part) range = cc (end_back who, number_back max_size range, fairness_back fair, part_back part)
step_back (steps.Deliver payload frame) range = cc (number_back payload range.0, number_back frame range.1)
step_back (steps.Lose payload) range = cc (number_back payload range)
step_back (steps.Ack payload) range = cc (number_back payload range)
step_back steps.EarlyAccept range = refl
step_back steps.EarlyReject range = refl
step_back steps.Retry range = refl

pub same_step : (line : List ℕ) (step again : Step) → line ≡ step_text step → IsInRange step → IsInRange again → MeansStep line again → again ≡ step
same_step line step again e range within means =
    let fields : step_fields again ≡ step_fields step = sym means ∙ line_means line step e range in
    sym (step_back again within) ∙ ap step_in fields ∙ step_back step range
