-- What telling of the counts of streams leaves.
use Rattle.std.proofs.Common.{◌≡◌, Bool, true, false, refl, sym, subst, List, Option, Some, None, Result, Ok, Err}
use Rattle.std.specs.Prelude.{is_ok}
use Rattle.quic_streams.specs.declared.settling.SentPayload.{SentPayload}
use Rattle.quic_streams.specs.Sent.{report_view}
use Rattle.quic_wire.specs.declared.frame.Frame.{Frame}
use Rattle.quic_wire.specs.declared.frame.Frame.TheVariants as frames
use Rattle.quic_wire.specs.declared.error.ReceiveError.{ReceiveError}
use Rattle.quic_wire.specs.declared.error.ReceiveError.TheVariants as receive_error
use Rattle.quic_receiving.specs.declared.transmit.ShouldTransmit.{ShouldTransmit}
use Rattle.quic_history.specs.World.{World, Made}
use Rattle.quic_history.specs.History.{Event, Fits, From}
use Rattle.quic_history.proofs.Histories.{next}
use Rattle.quic_endpoint.specs.Receiving.{MakesCall, event_of, with_call_made, with_answer_told}
use Rattle.quic_endpoint.specs.Ends.{EndState, with_counts_told_if}

pub told-streams : (b : Bool) (e : EndState) → (with_counts_told_if b e).streams ≡ e.streams
told-streams true e = refl
told-streams false e = refl

-- whether a report was served whole is the same of what contracts see of it
pub report-ok : (answer : Result (Unit {0}) SentPayload) → is_ok (report_view answer) ≡ is_ok answer
report-ok (Ok x) = refl
report-ok (Err back) = refl

pub answer-streams : (answer : Result ShouldTransmit ReceiveError) (e : EndState) → (with_answer_told answer e).streams ≡ e.streams
answer-streams (Ok transmit) e = refl
answer-streams (Err (receive_error.Transport error)) e = refl
answer-streams (Err receive_error.CompactionMemory) e = refl
answer-streams (Err receive_error.OutOfMemory) e = refl

-- a call fits the calls before it, if there is one
abbrev pub FitsCall : List Event → Option Event → Type 0
FitsCall h None = Unit {0}
FitsCall h (Some e) = Fits h e

pub event-fits : (frame : Frame) (answer : Result ShouldTransmit ReceiveError) (h : List Event) → FitsCall h (event_of frame answer)
event-fits (frames.Stream f) answer h = tt
event-fits (frames.ResetStream f) answer h = tt
event-fits (frames.StopSending f) answer h = tt
event-fits (frames.MaxData limit) answer h = tt
event-fits (frames.MaxStreamData id limit) answer h = tt
event-fits (frames.MaxStreams dir count) answer h = tt
event-fits _ answer h = tt

pub goes-on : (m : Made) (h : List Event) (u v : World) (e : Option Event) → FitsCall h e → From m h u → MakesCall u e v → From m (with_call_made e h) v
goes-on m h u v None fits f k = let P : World → Type 0 = λ w. From m h w in subst P (sym k) f
goes-on m h u v (Some e) fits f k = next m h u e v fits f k
