-- A step that one endpoint takes alone is a step of the pair.
use Rattle.std.proofs.Common.{◌≡◌, Some, sym, subst}
use Rattle.std.proofs.lemmas.Option.{none-some, same_Some}
use Rattle.quic_endpoint.specs.Ends.{EndState}
use Rattle.quic_steps.specs.declared.steps.End.{End}
use Rattle.quic_steps.specs.declared.steps.Step.{Step}
use Rattle.quic_steps.specs.declared.steps.Step.TheVariants as steps
use Rattle.quic_exchange.specs.Replies.{Answer}
use Rattle.quic_exchange.specs.State.{PairState, OnEnd}
use Rattle.quic_exchange.specs.Steps.{NextTaken}
use Rattle.quic_pair.specs.Calls.{caller_of, EndDoes}

moved : (step : Step) (reply : Answer) (old new : PairState) (w who : End) → Some w ≡ Some who → OnEnd (λ e f. EndDoes step e reply f) old who new → OnEnd (λ e f. EndDoes step e reply f) old w new
moved step reply old new w who e o = let P : End → Type 0 = λ x. OnEnd (λ u v. EndDoes step u reply v) old x new in subst P (sym (same_Some w who e)) o

pub alone : (old new : PairState) (step : Step) (who : End) (reply : Answer) → caller_of step ≡ Some who → OnEnd (λ e f. EndDoes step e reply f) old who new → NextTaken old step reply new
alone old new (steps.Open w dir) who reply e o = moved (steps.Open w dir) reply old new w who e o
alone old new (steps.Accept w dir) who reply e o = moved (steps.Accept w dir) reply old new w who e o
alone old new (steps.Write w id bytes) who reply e o = moved (steps.Write w id bytes) reply old new w who e o
alone old new (steps.WriteChunks w id chunks) who reply e o = moved (steps.WriteChunks w id chunks) reply old new w who e o
alone old new (steps.Finish w id) who reply e o = moved (steps.Finish w id) reply old new w who e o
alone old new (steps.Reset w id code) who reply e o = moved (steps.Reset w id code) reply old new w who e o
alone old new (steps.Stop w id code) who reply e o = moved (steps.Stop w id code) reply old new w who e o
alone old new (steps.SetPriority w id priority) who reply e o = moved (steps.SetPriority w id priority) reply old new w who e o
alone old new (steps.Read w id ordered most times) who reply e o = moved (steps.Read w id ordered most times) reply old new w who e o
alone old new (steps.ReceivedReset w id) who reply e o = moved (steps.ReceivedReset w id) reply old new w who e o
alone old new (steps.SetSendWindow w window) who reply e o = moved (steps.SetSendWindow w window) reply old new w who e o
alone old new (steps.SetReceiveWindow w window) who reply e o = moved (steps.SetReceiveWindow w window) reply old new w who e o
alone old new (steps.SetMaxConcurrent w dir count) who reply e o = moved (steps.SetMaxConcurrent w dir count) reply old new w who e o
alone old new (steps.Poll w) who reply e o = moved (steps.Poll w) reply old new w who e o
alone old new _ who reply e o = absurd (none-some who e)
