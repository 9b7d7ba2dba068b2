-- What reports of losses and acknowledgements do to an end.
use Rattle.std.specs.Prelude.{◌≡◌, Result, is_ok}
use Rattle.quic_streams.specs.Settling.{SentView, AcksWhole, LosesWhole}
use Rattle.quic_endpoint.specs.Ends.{EndState, with_counts_told_if}

-- a payload was lost: what was noted of its frames beside STREAM is joined to what is to be sent
abbrev pub LosesPayloadAt : EndState → SentView → Result (Unit {0}) SentView → EndState → Type 0
LosesPayloadAt e sent answer f = LosesWhole e.streams e.pending sent answer f.streams f.pending

-- it was acknowledged; after that the counts of streams are told, where nothing came back
pub record AcksPayloadAt (e : EndState) (sent : SentView) (answer : Result (Unit {0}) SentView) (f : EndState) : Type 0 where
  pub acked : EndState
  pub acks : AcksWhole e.streams sent answer acked.streams
  pub pending : acked.pending ≡ e.pending
  pub is : f ≡ with_counts_told_if (is_ok answer) acked
