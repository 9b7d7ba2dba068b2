-- What is unreported of a payload that was sent.
use Rattle.std.specs.Prelude.{Bool, true, false, ◌&&◌, ◌==◌, length, Option, Some, None, is_some, Result, Ok, Err}
use Rattle.quic_streams.specs.declared.settling.SentPayload.{SentPayload}
use Rattle.quic_streams.specs.Settling.{resets_of}
use Rattle.quic_streams.specs.Sent.{sent_view}
use Rattle.quic_exchange.specs.Sent.{Unsettled}
use Rattle.quic_exchange.specs.declared.unsettled.Report.{Report}
use Rattle.quic_exchange.specs.declared.unsettled.Report.TheVariants.{Lost, Acknowledged}

-- whether every frame of the payload has to be accepted for a report
abbrev pub needs_acceptance : Report → Bool
needs_acceptance Lost = false
needs_acceptance Acknowledged = true

-- whether a report begins, or goes on with the one that was begun
abbrev pub goes_on : Report → Option Report → Bool
goes_on Lost (Some Lost) = true
goes_on Acknowledged (Some Acknowledged) = true
goes_on Lost (Some Acknowledged) = false
goes_on Acknowledged (Some Lost) = false
goes_on kind None = true

-- whether a payload takes a report: something of it is unreported, and the report of the other kind was not begun
abbrev pub may_report : Report → Unsettled → Bool
may_report kind u = is_some u.rest && goes_on kind u.begun

-- the report of the other kind
abbrev pub other_report : Report → Report
other_report Lost = Acknowledged
other_report Acknowledged = Lost

-- what is unreported behind a report: nothing once it was served, and else what came back, of a report that was begun
abbrev pub unsettled_after : Report → Unsettled → Result (Unit {0}) SentPayload → Unsettled
unsettled_after kind u (Ok done) = record u { rest = None }
unsettled_after kind u (Err back) = record { begun = Some kind; rest = Some back }

-- a payload has nothing for a reader: no STREAM frame and no RESET_STREAM frame of it is unreported
abbrev pub is_quiet : Option SentPayload → Bool
is_quiet None = true
is_quiet (Some rest) = (length (sent_view rest).streams == 0) && (length (resets_of (sent_view rest).control) == 0)
