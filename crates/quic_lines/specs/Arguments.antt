-- The first field of each step, and what its other fields cannot be.
use Rattle.std.specs.Prelude.{◌≡◌, ◌<◌, ◌≤◌, ◌^◌, ℕ, ℤ, Bool, FitsSigned, List, [], ◌∷◌, codes, map}
use Rattle.std.specs.Int.{w32}
use Rattle.std.specs.Fmt.{decimal, signed_decimal}
use Rattle.std.specs.List.{join_with_byte}
use Rattle.hex.specs.Hex.{IsBytes}
use Rattle.quic_steps.specs.declared.steps.End.{End}
use Rattle.quic_steps.specs.declared.steps.PayloadPart.{PayloadPart}
use Rattle.quic_wire.specs.declared.Dir.{Dir}
use Rattle.quic_lines.specs.declared.steps.Verb.{Verb}
use Rattle.quic_lines.specs.declared.steps.Verb.TheVariants as verbs
use Rattle.quic_lines.specs.Field.{hex_form, AreChunks}
use Rattle.quic_lines.specs.Grammar.{end_text, mode_text, fairness_text, part_text}
use Rattle.quic_lines.specs.Line.{direction_text}

abbrev pub verb_text : Verb → List ℕ
verb_text verbs.Open = codes "open"
verb_text verbs.Accept = codes "accept"
verb_text verbs.Write = codes "write"
verb_text verbs.WriteChunks = codes "chunks"
verb_text verbs.Finish = codes "finish"
verb_text verbs.Reset = codes "reset"
verb_text verbs.Stop = codes "stop"
verb_text verbs.SetPriority = codes "priority"
verb_text verbs.Read = codes "read"
verb_text verbs.ReceivedReset = codes "received-reset"
verb_text verbs.SetSendWindow = codes "send-window"
verb_text verbs.SetReceiveWindow = codes "receive-window"
verb_text verbs.SetMaxConcurrent = codes "max-concurrent"
verb_text verbs.Poll = codes "poll"
verb_text verbs.Emit = codes "emit"
verb_text verbs.EmitPart = codes "emit-part"
verb_text verbs.Deliver = codes "deliver"
verb_text verbs.Lose = codes "lose"
verb_text verbs.Ack = codes "ack"
verb_text verbs.EarlyAccept = codes "early-accept"
verb_text verbs.EarlyReject = codes "early-reject"
verb_text verbs.Retry = codes "retry"

-- no step of this verb has these fields behind it
abbrev pub SpellsNoArguments : Verb → List (List ℕ) → Type 0
SpellsNoArguments verbs.Open fields = (who : End) (dir : Dir) → fields ≡ end_text who ∷ direction_text dir ∷ [] → ⊥
SpellsNoArguments verbs.Accept fields = (who : End) (dir : Dir) → fields ≡ end_text who ∷ direction_text dir ∷ [] → ⊥
SpellsNoArguments verbs.Write fields = (who : End) (id : ℕ) (bytes : List ℕ) → id < 2 ^ 62 → IsBytes bytes → fields ≡ end_text who ∷ decimal id ∷ hex_form bytes ∷ [] → ⊥
SpellsNoArguments verbs.WriteChunks fields = (who : End) (id : ℕ) (chunks : List (List ℕ)) → id < 2 ^ 62 → AreChunks chunks → fields ≡ end_text who ∷ decimal id ∷ join_with_byte 44 (map hex_form chunks) ∷ [] → ⊥
SpellsNoArguments verbs.Finish fields = (who : End) (id : ℕ) → id < 2 ^ 62 → fields ≡ end_text who ∷ decimal id ∷ [] → ⊥
SpellsNoArguments verbs.Reset fields = (who : End) (id code : ℕ) → id < 2 ^ 62 → code < 2 ^ 62 → fields ≡ end_text who ∷ decimal id ∷ decimal code ∷ [] → ⊥
SpellsNoArguments verbs.Stop fields = (who : End) (id code : ℕ) → id < 2 ^ 62 → code < 2 ^ 62 → fields ≡ end_text who ∷ decimal id ∷ decimal code ∷ [] → ⊥
SpellsNoArguments verbs.SetPriority fields = (who : End) (id : ℕ) (priority : ℤ) → id < 2 ^ 62 → FitsSigned w32 priority → fields ≡ end_text who ∷ decimal id ∷ signed_decimal priority ∷ [] → ⊥
SpellsNoArguments verbs.Read fields = (who : End) (id : ℕ) (ordered : Bool) (max times : ℕ) → id < 2 ^ 62 → max < 2 ^ 64 → 0 < times → times ≤ 65535 → fields ≡ end_text who ∷ decimal id ∷ mode_text ordered ∷ decimal max ∷ decimal times ∷ [] → ⊥
SpellsNoArguments verbs.ReceivedReset fields = (who : End) (id : ℕ) → id < 2 ^ 62 → fields ≡ end_text who ∷ decimal id ∷ [] → ⊥
SpellsNoArguments verbs.SetSendWindow fields = (who : End) (window : ℕ) → window < 2 ^ 64 → fields ≡ end_text who ∷ decimal window ∷ [] → ⊥
SpellsNoArguments verbs.SetReceiveWindow fields = (who : End) (window : ℕ) → window < 2 ^ 62 → fields ≡ end_text who ∷ decimal window ∷ [] → ⊥
SpellsNoArguments verbs.SetMaxConcurrent fields = (who : End) (dir : Dir) (count : ℕ) → count ≤ 2 ^ 60 → fields ≡ end_text who ∷ direction_text dir ∷ decimal count ∷ [] → ⊥
SpellsNoArguments verbs.Poll fields = (who : End) → fields ≡ end_text who ∷ [] → ⊥
SpellsNoArguments verbs.Emit fields = (who : End) (max_size : ℕ) (fair : Bool) → max_size < 2 ^ 64 → fields ≡ end_text who ∷ decimal max_size ∷ fairness_text fair ∷ [] → ⊥
SpellsNoArguments verbs.EmitPart fields = (who : End) (max_size : ℕ) (fair : Bool) (part : PayloadPart) → max_size < 2 ^ 64 → fields ≡ end_text who ∷ decimal max_size ∷ fairness_text fair ∷ part_text part ∷ [] → ⊥
SpellsNoArguments verbs.Deliver fields = (payload frame : ℕ) → payload < 2 ^ 64 → frame < 2 ^ 64 → fields ≡ decimal payload ∷ decimal frame ∷ [] → ⊥
SpellsNoArguments verbs.Lose fields = (payload : ℕ) → payload < 2 ^ 64 → fields ≡ decimal payload ∷ [] → ⊥
SpellsNoArguments verbs.Ack fields = (payload : ℕ) → payload < 2 ^ 64 → fields ≡ decimal payload ∷ [] → ⊥
SpellsNoArguments verbs.EarlyAccept fields = fields ≡ [] → ⊥
SpellsNoArguments verbs.EarlyReject fields = fields ≡ [] → ⊥
SpellsNoArguments verbs.Retry fields = fields ≡ [] → ⊥
