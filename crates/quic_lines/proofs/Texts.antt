-- The characters of what a line spells.
use Rattle.std.proofs.Common.{◌≡◌, ◌∙◌, ℕ, suc, zero, ◌<◌, ◌^◌, ◌/◌, ◌%◌, eqb, ltb, not, ◌&&◌, Bool, true, false, List, [], ◌∷◌, ◌++◌, length, map, get_or, codes, refl, sym, ap, subst, arith, lit<, ltb-true}
use Rattle.std.specs.Prelude.{slice_index, All, Option, Some, None, IfSome}
use Rattle.std.specs.Fmt.{decimal}
use Rattle.std.specs.List.{join_with_byte, slice_split}
use Rattle.std.specs.Str.{IsAscii}
use Rattle.std.proofs.lemmas.Bool.{and_parts}
use Rattle.std.proofs.lemmas.Fmt.{IsAscii-decimal, IsAscii-signed}
use Rattle.std.proofs.lemmas.List.Elements.{All-nil, All-cons, All-append, All-map, All-get_or, All-same, All-weaker}
use Rattle.std.proofs.lemmas.List.Splits.{slice_split_none, slice_split_at, join_with_byte-slice_split}
use Rattle.std.proofs.lemmas.Str.Ascii.{IsAscii-nil, IsAscii-cons, IsAscii-from_all, All-from_ascii}
use Rattle.hex.specs.Hex.{encode_with, lower_digits, IsBytes}
use Rattle.hex.proofs.HexLemmas.{IsAscii-encode_with}
use Rattle.quic_outgoing.specs.declared.limits.PeerLimits.{PeerLimits}
use Rattle.quic_steps.specs.declared.steps.Config.{Config}
use Rattle.quic_steps.specs.declared.steps.End.{End}
use Rattle.quic_steps.specs.declared.steps.End.TheVariants.{A, B}
use Rattle.quic_steps.specs.declared.steps.PayloadPart.{PayloadPart}
use Rattle.quic_steps.specs.declared.steps.PayloadPart.TheVariants.{Control, Streams}
use Rattle.quic_steps.specs.declared.steps.Step.{Step}
use Rattle.quic_steps.specs.declared.steps.Step.TheVariants as steps
use Rattle.quic_wire.specs.declared.Dir.{Dir}
use Rattle.quic_wire.specs.declared.Dir.TheVariants.{Bi, Uni}
use Rattle.quic_lines.specs.Field.{hex_form, SpellsNoBytes, SpellsNoChunks}
use Rattle.quic_lines.specs.Grammar.{end_text, mode_text, fairness_text, part_text, step_fields, config_fields, fields_of, IsInRange, IsConfigInRange, IsEarlyInRange, early_fields, MeansStep, MeansConfig, MeansEarly, MeansSettle, MeansWhole}
use Rattle.quic_lines.specs.Line.{direction_text}

-- a text that is written out is ASCII
abbrev is_low : List ℕ → Bool
is_low [] = true
is_low (b ∷ bs) = ltb b 128 && is_low bs

written : (bs : List ℕ) → is_low bs ≡ true → IsAscii bs
written [] e = IsAscii-nil
written (b ∷ bs) e = let p = and_parts (ltb b 128) (is_low bs) e in IsAscii-cons b bs (ltb-true b 128 p.0) (written bs p.1)

end_ascii : (who : End) → IsAscii (end_text who)
end_ascii A = written (codes "a") refl
end_ascii B = written (codes "b") refl

direction_ascii : (dir : Dir) → IsAscii (direction_text dir)
direction_ascii Bi = written (codes "bi") refl
direction_ascii Uni = written (codes "uni") refl

mode_ascii : (ordered : Bool) → IsAscii (mode_text ordered)
mode_ascii true = written (codes "o") refl
mode_ascii false = written (codes "u") refl

fairness_ascii : (fair : Bool) → IsAscii (fairness_text fair)
fairness_ascii true = written (codes "f") refl
fairness_ascii false = written (codes "u") refl

part_ascii : (part : PayloadPart) → IsAscii (part_text part)
part_ascii Control = written (codes "control") refl
part_ascii Streams = written (codes "streams") refl

hex_ascii : (bytes : List ℕ) → IsAscii (hex_form bytes)
hex_ascii [] = written (codes "-") refl
hex_ascii (b ∷ bs) = IsAscii-encode_with lower_digits (b ∷ bs) (written lower_digits refl)

-- joined texts are ASCII where each is
appended : (a b : List ℕ) → IsAscii a → IsAscii b → IsAscii (a ++ b)
appended a b h g = IsAscii-from_all (a ++ b) (All-append (λ x. x < 128) a b (All-from_ascii a h) (All-from_ascii b g))

data AreAscii : List (List ℕ) → Type 0 where
  none : AreAscii []
  more : {x : List ℕ} {xs : List (List ℕ)} → IsAscii x → AreAscii xs → AreAscii (x ∷ xs)

joined : (c : ℕ) → c < 128 → (xs : List (List ℕ)) → AreAscii xs → IsAscii (join_with_byte c xs)
joined c low [] none = IsAscii-nil
joined c low (x ∷ []) (more h g) = h
joined c low (x ∷ y ∷ ys) (more h g) = appended x _ h (IsAscii-cons c _ low (joined c low (y ∷ ys) g))

all_hex_ascii : (chunks : List (List ℕ)) → AreAscii (map hex_form chunks)
all_hex_ascii [] = none
all_hex_ascii (x ∷ xs) = more (hex_ascii x) (all_hex_ascii xs)

chunks_ascii : (chunks : List (List ℕ)) → IsAscii (join_with_byte 44 (map hex_form chunks))
chunks_ascii chunks = joined 44 (lit< tt) (map hex_form chunks) (all_hex_ascii chunks)

fields_ascii : (step : Step) → IsInRange step → AreAscii (step_fields step)
fields_ascii (steps.Open who dir) range = more (written (codes "open") refl) (more (end_ascii who) (more (direction_ascii dir) none))
fields_ascii (steps.Accept who dir) range = more (written (codes "accept") refl) (more (end_ascii who) (more (direction_ascii dir) none))
fields_ascii (steps.Write who id bytes) range = more (written (codes "write") refl) (more (end_ascii who) (more (IsAscii-decimal id (omega (arith, range.0))) (more (hex_ascii bytes) none)))
fields_ascii (steps.WriteChunks who id chunks) range = more (written (codes "chunks") refl) (more (end_ascii who) (more (IsAscii-decimal id (omega (arith, range.0))) (more (chunks_ascii chunks) none)))
fields_ascii (steps.Finish who id) range = more (written (codes "finish") refl) (more (end_ascii who) (more (IsAscii-decimal id (omega (arith, range))) none))
fields_ascii (steps.Reset who id code) range = more (written (codes "reset") refl) (more (end_ascii who) (more (IsAscii-decimal id (omega (arith, range.0))) (more (IsAscii-decimal code (omega (arith, range.1))) none)))
fields_ascii (steps.Stop who id code) range = more (written (codes "stop") refl) (more (end_ascii who) (more (IsAscii-decimal id (omega (arith, range.0))) (more (IsAscii-decimal code (omega (arith, range.1))) none)))
fields_ascii (steps.SetPriority who id priority) range = more (written (codes "priority") refl) (more (end_ascii who) (more (IsAscii-decimal id (omega (arith, range.0))) (more (IsAscii-signed priority (omega (arith, range.1.sfits))) none)))
fields_ascii (steps.Read who id ordered max times) range = more (written (codes "read") refl) (more (end_ascii who) (more (IsAscii-decimal id (omega (arith, range.0))) (more (mode_ascii ordered) (more (IsAscii-decimal max (omega (arith, range.1))) (more (IsAscii-decimal times (omega (arith, range.3))) none)))))
fields_ascii (steps.ReceivedReset who id) range = more (written (codes "received-reset") refl) (more (end_ascii who) (more (IsAscii-decimal id (omega (arith, range))) none))
fields_ascii (steps.SetSendWindow who window) range = more (written (codes "send-window") refl) (more (end_ascii who) (more (IsAscii-decimal window (omega (arith, range))) none))
fields_ascii (steps.SetReceiveWindow who window) range = more (written (codes "receive-window") refl) (more (end_ascii who) (more (IsAscii-decimal window (omega (arith, range))) none))
fields_ascii (steps.SetMaxConcurrent who dir count) range = more (written (codes "max-concurrent") refl) (more (end_ascii who) (more (direction_ascii dir) (more (IsAscii-decimal count (omega (arith, range))) none)))
fields_ascii (steps.Poll who) range = more (written (codes "poll") refl) (more (end_ascii who) none)
fields_ascii (steps.Emit who max_size fair) range = more (written (codes "emit") refl) (more (end_ascii who) (more (IsAscii-decimal max_size (omega (arith, range))) (more (fairness_ascii fair) none)))
fields_ascii (steps.EmitPart who max_size fair part) range = more (written (codes "emit-part") refl) (more (end_ascii who) (more (IsAscii-decimal max_size (omega (arith, range))) (more (fairness_ascii fair) (more (part_ascii part) none))))
fields_ascii (steps.Deliver payload frame) range = more (written (codes "deliver") refl) (more (IsAscii-decimal payload (omega (arith, range.0))) (more (IsAscii-decimal frame (omega (arith, range.1))) none))
fields_ascii (steps.Lose payload) range = more (written (codes "lose") refl) (more (IsAscii-decimal payload (omega (arith, range))) none)
fields_ascii (steps.Ack payload) range = more (written (codes "ack") refl) (more (IsAscii-decimal payload (omega (arith, range))) none)
fields_ascii steps.EarlyAccept range = more (written (codes "early-accept") refl) none
fields_ascii steps.EarlyReject range = more (written (codes "early-reject") refl) none
fields_ascii steps.Retry range = more (written (codes "retry") refl) none

limits_ascii : (who : End) (config : Config) → IsConfigInRange config → AreAscii (config_fields who config)
limits_ascii who config range = more (written (codes "config") refl) (more (end_ascii who) (more (IsAscii-decimal config.max_remote_uni (omega (arith, range.0)))
    (more (IsAscii-decimal config.max_remote_bi (omega (arith, range.1))) (more (IsAscii-decimal config.send_window (omega (arith, range.2)))
    (more (IsAscii-decimal config.receive_window (omega (arith, range.3))) (more (IsAscii-decimal config.stream_receive_window (omega (arith, range.4))) none))))))

remembered_ascii : (l : PeerLimits) → IsEarlyInRange l → AreAscii (early_fields l)
remembered_ascii l range = more (written (codes "early") refl) (more (written (codes "a") refl) (more (IsAscii-decimal l.initial_max_data (omega (arith, range.0)))
    (more (IsAscii-decimal l.initial_max_streams_bidi (omega (arith, range.1))) (more (IsAscii-decimal l.initial_max_streams_uni (omega (arith, range.2)))
    (more (IsAscii-decimal l.initial_max_stream_data_uni (omega (arith, range.3))) (more (IsAscii-decimal l.initial_max_stream_data_bidi_local (omega (arith, range.4)))
    (more (IsAscii-decimal l.initial_max_stream_data_bidi_remote (omega (arith, range.5))) none)))))))

-- so a line is ASCII where its fields are
line_ascii : (line : List ℕ) (fields : List (List ℕ)) → fields_of line ≡ fields → AreAscii fields → IsAscii line
line_ascii line fields e h = subst (λ (x : List ℕ). IsAscii x) (join_with_byte-slice_split 32 line) (joined 32 (lit< tt) (fields_of line) (subst AreAscii (sym e) h))

pub step_ascii : (line : List ℕ) (step : Step) → IsInRange step → MeansStep line step → IsAscii line
step_ascii line step range means = line_ascii line (step_fields step) means (fields_ascii step range)

pub config_ascii : (line : List ℕ) (who : End) (config : Config) → IsConfigInRange config → MeansConfig line who config → IsAscii line
config_ascii line who config range means = line_ascii line (config_fields who config) means (limits_ascii who config range)

pub settle_ascii : (line : List ℕ) → MeansSettle line → IsAscii line
settle_ascii line means = rw means (written (codes "settle") refl)

pub whole_ascii : (line : List ℕ) (found : Option ℕ) → IfSome found (MeansWhole line) → IfSome found (λ payload. payload < 2 ^ 64) → IfSome found (λ payload. IsAscii line)
whole_ascii line None means small = tt
whole_ascii line (Some payload) means small = rw means (appended (codes "deliver-all ") (decimal payload) (written (codes "deliver-all ") refl) (IsAscii-decimal payload small))

pub early_ascii : (line : List ℕ) (l : PeerLimits) → IsEarlyInRange l → MeansEarly line l → IsAscii line
early_ascii line l range means = line_ascii line (early_fields l) means (remembered_ascii l range)
