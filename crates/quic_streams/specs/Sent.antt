-- What a writer handed back for a payload, as contracts see it.
use Rattle.std.specs.Prelude.{ℕ, ◌≡◌, List, length, Option, Some, Result, Ok, Err}
use Rattle.quic_retransmits.specs.Pending.{thin_view}
use Rattle.quic_retransmits.specs.Pending.{Pending}
use Rattle.quic_history.specs.World.{World}
use Rattle.quic_streams.specs.Settling.{SentView, StopsIn, AcksResetOf, RefusesReset}
use Rattle.quic_streams.specs.declared.settling.SentPayload.{SentPayload}

abbrev pub sent_view : SentPayload → SentView
sent_view sent = record { streams = sent.streams.items; control = thin_view sent.control }

-- the answer of a report, with what comes back
abbrev pub report_view : Result (Unit {0}) SentPayload → Result (Unit {0}) SentView
report_view (Ok x) = Ok x
report_view (Err back) = Err (sent_view back)

-- reports of a list stopped behind so many
pub record StopsAfter (T : Type 0) (Each : World → T → World → Type 0) (Refuses : World → T → Type 0) (u : World) (all : List T) (v : World) (count : ℕ) : Type 0 where
  pub stops : StopsIn T Each Refuses u all v
  pub behind : length stops.told ≡ count

-- those of the RESET_STREAM frames that were noted
pub record StopsAfterResets (u : World) (noted : Option Pending) (v : World) (count : ℕ) : Type 0 where
  pub control : Pending
  pub is : noted ≡ Some control
  pub resets : StopsAfter (ℕ × ℕ) AcksResetOf RefusesReset u control.reset_stream v count
