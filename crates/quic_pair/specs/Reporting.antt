-- Reports of payloads by their tokens.
use Rattle.std.specs.Prelude.{ℕ, ◌≡◌, false, is_some, List, Option, Some, None, Result, Ok, Err, slice_get}
use Rattle.quic_streams.specs.declared.settling.SentPayload.{SentPayload}
use Rattle.quic_streams.specs.Settling.{SentView}
use Rattle.quic_streams.specs.Sent.{sent_view}
use Rattle.quic_endpoint.specs.Ends.{EndState}
use Rattle.quic_endpoint.specs.Reports.{LosesPayloadAt, AcksPayloadAt}
use Rattle.quic_session.specs.declared.session.Session.{Session}
use Rattle.quic_session.specs.declared.settling.SettleError.{SettleError}
use Rattle.quic_session.specs.Settling.{AcksToken, LosesToken, SettlesOnly}
use Rattle.quic_steps.specs.declared.steps.End.{End}
use Rattle.quic_exchange.specs.declared.sent.Note.{Note}
use Rattle.quic_exchange.specs.declared.unsettled.Report.{Report}
use Rattle.quic_exchange.specs.declared.unsettled.Report.TheVariants.{Lost, Acknowledged}
use Rattle.quic_exchange.specs.Sent.{Sent}
use Rattle.quic_exchange.specs.Notes.{CanReport, under}
use Rattle.quic_exchange.specs.Replies.{Answer}
use Rattle.quic_exchange.specs.Steps.{SettlesPayload}
use Rattle.quic_exchange.specs.State.{PairState}
use Rattle.quic_pair.specs.Ends.{kept_of}

-- what a report does to an endpoint
abbrev pub report_of : Report → EndState → SentView → Result (Unit {0}) SentView → EndState → Type 0
report_of Lost = LosesPayloadAt
report_of Acknowledged = AcksPayloadAt

-- a payload was reported to the session that wrote it
abbrev pub ReportsToken : Report → Session → ℕ → Result (Unit {0}) SettleError → Session → Type 0
ReportsToken Lost s token answer t = LosesToken s token answer t × SettlesOnly s t
ReportsToken Acknowledged s token answer t = AcksToken s token answer t × SettlesOnly s t

-- a payload takes a report: its writer and its token
pub record TakesReport (a b : Session) (notes : List Note) (payload : ℕ) (kind : Report) (writer : End) (token : ℕ) : Type 0 where
  pub note : Note
  pub is : slice_get notes payload ≡ Some note
  pub here : note.gone ≡ false
  pub writer_is : note.writer ≡ writer
  pub token_is : note.token ≡ Some token
  pub can : CanReport kind note (is_some (under (kept_of a b note.writer) note.token))

-- what a report of a payload was replied, and what it did
abbrev pub ReportsPayload : Report → PairState → ℕ → Answer → PairState → Type 0
ReportsPayload kind old payload reply new = SettlesPayload kind (report_of kind) old payload reply new

-- what is unreported of a payload, if there is one
abbrev pub rest_in : Option Sent → Option SentPayload
rest_in None = None
rest_in (Some s) = s.unsettled.rest

abbrev pub rest_at : List Sent → ℕ → Option SentPayload
rest_at sent number = rest_in (slice_get sent number)
