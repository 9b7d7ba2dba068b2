-- Steps on payloads keep a pair two linked ends.
use Rattle.std.proofs.Common.{ℕ}
use Rattle.quic_exchange.proofs.Origins.{Origin}
use Rattle.quic_steps.specs.declared.steps.Step.{Step}
use Rattle.quic_steps.specs.declared.steps.Step.TheVariants as steps
use Rattle.quic_exchange.specs.Replies.{Answer}
use Rattle.quic_exchange.specs.State.{PairState}
use Rattle.quic_exchange.specs.Steps.{NextOrdinary}
use Rattle.quic_exchange.specs.History.{Past, after}
use Rattle.quic_exchange.proofs.Emissions.{emitted-some, emitted-part}
use Rattle.quic_exchange.proofs.Joined.{Joined}
use Rattle.quic_exchange.proofs.Left.{AreLeft}
use Rattle.quic_exchange.proofs.PayloadEmits.{joined-emits}
use Rattle.quic_exchange.proofs.DeliverMarks.{joined-delivers}
use Rattle.quic_exchange.proofs.Reports.{joined-loses, joined-acks}

-- a payload is written, a frame of one is delivered, or it is told what became of one
abbrev pub IsOnPayload : Step → Type 0
IsOnPayload (steps.Emit who most fair) = Unit {0}
IsOnPayload (steps.EmitPart who most fair part) = Unit {0}
IsOnPayload (steps.Deliver number index) = Unit {0}
IsOnPayload (steps.Lose number) = Unit {0}
IsOnPayload (steps.Ack number) = Unit {0}
IsOnPayload _ = ⊥

pub joined-payloads : (a b : Origin) (p : Past) (old new : PairState) (step : Step) (reply : Answer) → IsOnPayload step → Joined a b p old → (told : ℕ → ℕ) → AreLeft old.sent told → NextOrdinary old step reply new → Joined a b (after p step reply) new
joined-payloads a b p old new (steps.Emit who most fair) reply on j told left n = joined-emits a b p old new who most fair reply j (emitted-some old new who most fair reply n)
joined-payloads a b p old new (steps.EmitPart who most fair part) reply on j told left n = joined-emits a b p old new who most fair reply j (emitted-part old new who most fair part reply n)
joined-payloads a b p old new (steps.Deliver number index) reply on j told left n = joined-delivers a b p old new number index j reply n
joined-payloads a b p old new (steps.Lose number) reply on j told left n = joined-loses a b p old new number j told left reply n
joined-payloads a b p old new (steps.Ack number) reply on j told left n = joined-acks a b p old new number j told left reply n
joined-payloads a b p old new _ reply on j told left n = absurd on
