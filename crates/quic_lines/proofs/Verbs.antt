-- The verb of a step, and the fields behind it.
use Rattle.std.proofs.Common.{◌≡◌, ◌≤◌, ◌<◌, ◌∙◌, ℕ, eqb, ◌-◌, length, take, drop, arith, if◌then◌else◌, List, [], ◌∷◌, map, get_or, codes, refl, sym, ap, subst}
use Rattle.std.proofs.lemmas.List.{take_rest}
use lib.Pointwise.{pointwise}
use Rattle.quic_steps.specs.declared.steps.Step.{Step}
use Rattle.quic_steps.specs.declared.steps.Step.TheVariants as steps
use Rattle.quic_lines.specs.declared.steps.Verb.{Verb}
use Rattle.quic_lines.specs.declared.steps.Verb.TheVariants as verbs
use Rattle.quic_lines.specs.Arguments.{verb_text, SpellsNoArguments}
use Rattle.quic_lines.specs.Grammar.{step_fields, IsInRange, SpellsNoStep}

abbrev pub verb_of : Step → Verb
verb_of (steps.Open who dir) = verbs.Open
verb_of (steps.Accept who dir) = verbs.Accept
verb_of (steps.Write who id bytes) = verbs.Write
verb_of (steps.WriteChunks who id chunks) = verbs.WriteChunks
verb_of (steps.Finish who id) = verbs.Finish
verb_of (steps.Reset who id code) = verbs.Reset
verb_of (steps.Stop who id code) = verbs.Stop
verb_of (steps.SetPriority who id priority) = verbs.SetPriority
verb_of (steps.Read who id ordered max times) = verbs.Read
verb_of (steps.ReceivedReset who id) = verbs.ReceivedReset
verb_of (steps.SetSendWindow who window) = verbs.SetSendWindow
verb_of (steps.SetReceiveWindow who window) = verbs.SetReceiveWindow
verb_of (steps.SetMaxConcurrent who dir count) = verbs.SetMaxConcurrent
verb_of (steps.Poll who) = verbs.Poll
verb_of (steps.Emit who max_size fair) = verbs.Emit
verb_of (steps.EmitPart who max_size fair part) = verbs.EmitPart
verb_of (steps.Deliver payload frame) = verbs.Deliver
verb_of (steps.Lose payload) = verbs.Lose
verb_of (steps.Ack payload) = verbs.Ack
verb_of steps.EarlyAccept = verbs.EarlyAccept
verb_of steps.EarlyReject = verbs.EarlyReject
verb_of steps.Retry = verbs.Retry

-- a step's fields begin with its verb
begins : (step : Step) → (arguments : List (List ℕ)) × (step_fields step ≡ verb_text (verb_of step) ∷ arguments)
begins (steps.Open who dir) = (_, refl)
begins (steps.Accept who dir) = (_, refl)
begins (steps.Write who id bytes) = (_, refl)
begins (steps.WriteChunks who id chunks) = (_, refl)
begins (steps.Finish who id) = (_, refl)
begins (steps.Reset who id code) = (_, refl)
begins (steps.Stop who id code) = (_, refl)
begins (steps.SetPriority who id priority) = (_, refl)
begins (steps.Read who id ordered max times) = (_, refl)
begins (steps.ReceivedReset who id) = (_, refl)
begins (steps.SetSendWindow who window) = (_, refl)
begins (steps.SetReceiveWindow who window) = (_, refl)
begins (steps.SetMaxConcurrent who dir count) = (_, refl)
begins (steps.Poll who) = (_, refl)
begins (steps.Emit who max_size fair) = (_, refl)
begins (steps.EmitPart who max_size fair part) = (_, refl)
begins (steps.Deliver payload frame) = (_, refl)
begins (steps.Lose payload) = (_, refl)
begins (steps.Ack payload) = (_, refl)
begins steps.EarlyAccept = (_, refl)
begins steps.EarlyReject = (_, refl)
begins steps.Retry = (_, refl)

first_is : (step : Step) (first : List ℕ) (arguments : List (List ℕ)) → first ∷ arguments ≡ step_fields step → first ≡ verb_text (verb_of step)
first_is step first arguments e = let b = begins step in cc

-- no two verbs have one text
abbrev pub named : List ℕ → Verb
named text =
    if pointwise eqb text (codes "open") then verbs.Open else
    if pointwise eqb text (codes "accept") then verbs.Accept else
    if pointwise eqb text (codes "write") then verbs.Write else
    if pointwise eqb text (codes "chunks") then verbs.WriteChunks else
    if pointwise eqb text (codes "finish") then verbs.Finish else
    if pointwise eqb text (codes "reset") then verbs.Reset else
    if pointwise eqb text (codes "stop") then verbs.Stop else
    if pointwise eqb text (codes "priority") then verbs.SetPriority else
    if pointwise eqb text (codes "read") then verbs.Read else
    if pointwise eqb text (codes "received-reset") then verbs.ReceivedReset else
    if pointwise eqb text (codes "send-window") then verbs.SetSendWindow else
    if pointwise eqb text (codes "receive-window") then verbs.SetReceiveWindow else
    if pointwise eqb text (codes "max-concurrent") then verbs.SetMaxConcurrent else
    if pointwise eqb text (codes "poll") then verbs.Poll else
    if pointwise eqb text (codes "emit") then verbs.Emit else
    if pointwise eqb text (codes "emit-part") then verbs.EmitPart else
    if pointwise eqb text (codes "deliver") then verbs.Deliver else
    if pointwise eqb text (codes "lose") then verbs.Lose else
    if pointwise eqb text (codes "ack") then verbs.Ack else
    if pointwise eqb text (codes "early-accept") then verbs.EarlyAccept else
    if pointwise eqb text (codes "early-reject") then verbs.EarlyReject else
    verbs.Retry

named_is : (verb : Verb) → named (verb_text verb) ≡ verb
named_is verbs.Open = refl
named_is verbs.Accept = refl
named_is verbs.Write = refl
named_is verbs.WriteChunks = refl
named_is verbs.Finish = refl
named_is verbs.Reset = refl
named_is verbs.Stop = refl
named_is verbs.SetPriority = refl
named_is verbs.Read = refl
named_is verbs.ReceivedReset = refl
named_is verbs.SetSendWindow = refl
named_is verbs.SetReceiveWindow = refl
named_is verbs.SetMaxConcurrent = refl
named_is verbs.Poll = refl
named_is verbs.Emit = refl
named_is verbs.EmitPart = refl
named_is verbs.Deliver = refl
named_is verbs.Lose = refl
named_is verbs.Ack = refl
named_is verbs.EarlyAccept = refl
named_is verbs.EarlyReject = refl
named_is verbs.Retry = refl

same_verb : (a b : Verb) → verb_text a ≡ verb_text b → a ≡ b
same_verb a b e = sym (named_is a) ∙ ap named e ∙ named_is b

-- the fields behind the verb of a step
tails : (x y : List ℕ) (xs ys : List (List ℕ)) → x ∷ xs ≡ y ∷ ys → xs ≡ ys
tails x y xs ys e = cc

at_verb : (step : Step) (first : List ℕ) (arguments : List (List ℕ)) → SpellsNoArguments (verb_of step) arguments → IsInRange step → first ∷ arguments ≡ step_fields step → ⊥
at_verb (steps.Open who dir) first arguments none range e = none who dir (tails _ _ _ _ e)
at_verb (steps.Accept who dir) first arguments none range e = none who dir (tails _ _ _ _ e)
at_verb (steps.Write who id bytes) first arguments none range e = none who id bytes range.0 range.1 (tails _ _ _ _ e)
at_verb (steps.WriteChunks who id chunks) first arguments none range e = none who id chunks range.0 range.1 (tails _ _ _ _ e)
at_verb (steps.Finish who id) first arguments none range e = none who id range (tails _ _ _ _ e)
at_verb (steps.Reset who id code) first arguments none range e = none who id code range.0 range.1 (tails _ _ _ _ e)
at_verb (steps.Stop who id code) first arguments none range e = none who id code range.0 range.1 (tails _ _ _ _ e)
at_verb (steps.SetPriority who id priority) first arguments none range e = none who id priority range.0 range.1 (tails _ _ _ _ e)
at_verb (steps.Read who id ordered max times) first arguments none range e = none who id ordered max times range.0 range.1 range.2 range.3 (tails _ _ _ _ e)
at_verb (steps.ReceivedReset who id) first arguments none range e = none who id range (tails _ _ _ _ e)
at_verb (steps.SetSendWindow who window) first arguments none range e = none who window range (tails _ _ _ _ e)
at_verb (steps.SetReceiveWindow who window) first arguments none range e = none who window range (tails _ _ _ _ e)
at_verb (steps.SetMaxConcurrent who dir count) first arguments none range e = none who dir count range (tails _ _ _ _ e)
at_verb (steps.Poll who) first arguments none range e = none who (tails _ _ _ _ e)
at_verb (steps.Emit who max_size fair) first arguments none range e = none who max_size fair range (tails _ _ _ _ e)
at_verb (steps.EmitPart who max_size fair part) first arguments none range e = none who max_size fair part range (tails _ _ _ _ e)
at_verb (steps.Deliver payload frame) first arguments none range e = none payload frame range.0 range.1 (tails _ _ _ _ e)
at_verb (steps.Lose payload) first arguments none range e = none payload range (tails _ _ _ _ e)
at_verb (steps.Ack payload) first arguments none range e = none payload range (tails _ _ _ _ e)
at_verb steps.EarlyAccept first arguments none range e = none (tails _ _ _ _ e)
at_verb steps.EarlyReject first arguments none range e = none (tails _ _ _ _ e)
at_verb steps.Retry first arguments none range e = none (tails _ _ _ _ e)

no_step : (verb : Verb) (first : List ℕ) (arguments : List (List ℕ)) → first ≡ verb_text verb → SpellsNoArguments verb arguments → SpellsNoStep (first ∷ arguments)
no_step verb first arguments is none step range e =
    at_verb step first arguments (subst (λ v. SpellsNoArguments v arguments) (same_verb verb (verb_of step) (sym is ∙ first_is step first arguments e)) none) range e

-- where the first field is no verb, or the others are none of its verb, the fields are no step
pub no_verb : {A : Type 0} (f : A → List ℕ) (fields : List A) (z : A) → 1 ≤ length fields → ((verb : Verb) → f (get_or fields 0 z) ≡ verb_text verb → ⊥) → SpellsNoStep (map f fields)
no_verb f [] z some none = absurd (omega (arith, some))
no_verb f (x ∷ xs) z some none = λ step range e. none (verb_of step) (first_is step (f x) (map f xs) e)

pub no_arguments : {A : Type 0} (f : A → List ℕ) (fields : List A) (z : A) (verb : Verb) → 1 ≤ length fields → f (get_or fields 0 z) ≡ verb_text verb → SpellsNoArguments verb (map f (take (length fields - 1) (drop 1 fields))) → SpellsNoStep (map f fields)
no_arguments f [] z verb some is none = absurd (omega (arith, some))
no_arguments f (x ∷ xs) z verb some is none = no_step verb (f x) (map f xs) is (subst (λ ys. SpellsNoArguments verb (map f ys)) (take_rest (x ∷ xs) 1) none)

-- the fifth of five fields
pub fifth : {A B : Type 0} (f : A → B) (xs : List A) (z : A) (a b c d e : B) → map f xs ≡ a ∷ b ∷ c ∷ d ∷ e ∷ [] → f (get_or xs 4 z) ≡ e
fifth f [] z a b c d e h = cc
fifth f (p ∷ []) z a b c d e h = cc
fifth f (p ∷ q ∷ []) z a b c d e h = cc
fifth f (p ∷ q ∷ r ∷ []) z a b c d e h = cc
fifth f (p ∷ q ∷ r ∷ s ∷ []) z a b c d e h = cc
fifth f (p ∷ q ∷ r ∷ s ∷ t ∷ ts) z a b c d e h = cc

-- the sixth of six, and all of them
pub sixth : {A B : Type 0} (f : A → B) (xs : List A) (z : A) (a b c d e g : B) → map f xs ≡ a ∷ b ∷ c ∷ d ∷ e ∷ g ∷ [] → f (get_or xs 5 z) ≡ g
sixth f [] z a b c d e g h = cc
sixth f (p ∷ []) z a b c d e g h = cc
sixth f (p ∷ q ∷ []) z a b c d e g h = cc
sixth f (p ∷ q ∷ r ∷ []) z a b c d e g h = cc
sixth f (p ∷ q ∷ r ∷ s ∷ []) z a b c d e g h = cc
sixth f (p ∷ q ∷ r ∷ s ∷ t ∷ []) z a b c d e g h = cc
sixth f (p ∷ q ∷ r ∷ s ∷ t ∷ u ∷ us) z a b c d e g h = cc

pub all_six : {A B : Type 0} (f : A → B) (xs : List A) (z : A) (a b c d e g : B) → 6 ≤ length xs → length xs < 7 → f (get_or xs 0 z) ≡ a → f (get_or xs 1 z) ≡ b → f (get_or xs 2 z) ≡ c → f (get_or xs 3 z) ≡ d → f (get_or xs 4 z) ≡ e → f (get_or xs 5 z) ≡ g → map f xs ≡ a ∷ b ∷ c ∷ d ∷ e ∷ g ∷ []
all_six f [] z a b c d e g low high i j k l m n = absurd (omega (arith, low))
all_six f (p ∷ []) z a b c d e g low high i j k l m n = absurd (omega (arith, low))
all_six f (p ∷ q ∷ []) z a b c d e g low high i j k l m n = absurd (omega (arith, low))
all_six f (p ∷ q ∷ r ∷ []) z a b c d e g low high i j k l m n = absurd (omega (arith, low))
all_six f (p ∷ q ∷ r ∷ s ∷ []) z a b c d e g low high i j k l m n = absurd (omega (arith, low))
all_six f (p ∷ q ∷ r ∷ s ∷ t ∷ []) z a b c d e g low high i j k l m n = absurd (omega (arith, low))
all_six f (p ∷ q ∷ r ∷ s ∷ t ∷ u ∷ []) z a b c d e g low high i j k l m n = cc
all_six f (p ∷ q ∷ r ∷ s ∷ t ∷ u ∷ v ∷ vs) z a b c d e g low high i j k l m n = absurd (omega (arith, high))

-- no step has more than seven fields
pub few_fields : (step : Step) → length (step_fields step) ≤ 7
few_fields (steps.Open who dir) = omega arith
few_fields (steps.Accept who dir) = omega arith
few_fields (steps.Write who id bytes) = omega arith
few_fields (steps.WriteChunks who id chunks) = omega arith
few_fields (steps.Finish who id) = omega arith
few_fields (steps.Reset who id code) = omega arith
few_fields (steps.Stop who id code) = omega arith
few_fields (steps.SetPriority who id priority) = omega arith
few_fields (steps.Read who id ordered max times) = omega arith
few_fields (steps.ReceivedReset who id) = omega arith
few_fields (steps.SetSendWindow who window) = omega arith
few_fields (steps.SetReceiveWindow who window) = omega arith
few_fields (steps.SetMaxConcurrent who dir count) = omega arith
few_fields (steps.Poll who) = omega arith
few_fields (steps.Emit who max_size fair) = omega arith
few_fields (steps.EmitPart who max_size fair part) = omega arith
few_fields (steps.Deliver payload frame) = omega arith
few_fields (steps.Lose payload) = omega arith
few_fields (steps.Ack payload) = omega arith
few_fields steps.EarlyAccept = omega arith
few_fields steps.EarlyReject = omega arith
few_fields steps.Retry = omega arith
