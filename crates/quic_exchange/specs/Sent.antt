-- A payload that was sent, and what is unreported of it.
use Rattle.std.specs.Prelude.{Bool, Option}
use Rattle.quic_streams.specs.declared.settling.SentPayload.{SentPayload}
use Rattle.quic_steps.specs.declared.steps.End.{End}
use Rattle.quic_exchange.specs.declared.unsettled.Report.{Report}
use Rattle.quic_exchange.specs.Payloads.{SentText}

-- begun: the report that was begun, for the rest of which there was no memory
-- rest: what is still to be reported, unless all was
pub record Unsettled : Type 0 where
  pub begun : Option Report
  pub rest : Option SentPayload

-- writer: the endpoint that wrote it
-- text: its frames, and which of them were accepted
-- gone: whether it left the network
pub record Sent : Type 0 where
  pub writer : End
  pub unsettled : Unsettled
  pub text : SentText
  pub gone : Bool
