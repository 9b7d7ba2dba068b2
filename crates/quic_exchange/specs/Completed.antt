-- What the end of a settling completes.
use Rattle.std.specs.Prelude.{ℕ, ◌≡◌, ◌<◌, true, false, List, length, Some, None}
use Rattle.quic_sending.specs.Buffer.{total_length}
use Rattle.quic_flows.specs.Flow.{SendFlow}
use Rattle.quic_receiving.specs.Data.{IsAllGiven}
use Rattle.quic_history.specs.History.{slices}
use Rattle.quic_link.specs.Endpoints.{IsOneOf}
use Rattle.quic_steps.specs.declared.steps.End.{End}
use Rattle.quic_exchange.specs.Sent.{Sent}
use Rattle.quic_exchange.specs.History.{Past, Flow, FramePlace}
use Rattle.quic_exchange.specs.Tale.{Tales}
use Rattle.quic_exchange.specs.Headline.{SomeStream, HasOffset, HasEnd}

-- all that an end wrote on a stream arrived: each byte stood in a frame that was accepted, and the end too, where it was ended
pub record HasArrived (f : Flow) (who : End) (id : ℕ) (accepted : List FramePlace) (sent : List Sent) : Type 0 where
  pub bytes : (at : ℕ) → at < length f.written → SomeStream sent who id accepted (HasOffset at)
  pub end : f.finished ≡ true → SomeStream sent who id accepted HasEnd

-- a flow was not given up by its writer
abbrev pub IsUnreset : Flow → Type 0
IsUnreset f = (code : ℕ) → IsOneOf code f.resets → ⊥

-- so of what each end sends on each stream, unless it was given up
abbrev pub HaveArrived : Past → List Sent → Type 0
HaveArrived p sent = (who : End) (id : ℕ) → IsUnreset (p.flow who id) → HasArrived (p.flow who id) who id p.accepted sent

-- its reader did not stop it
abbrev pub IsUnstopped : Flow → Type 0
IsUnstopped f = (code : ℕ) → IsOneOf code f.stops → ⊥

-- all that was written on a stream was read: every byte was given, and the end was told, where it was ended
pub record IsReadWhole (f : Flow) : Type 0 where
  pub all : IsAllGiven (slices f.given) (length f.written)
  pub ended : f.finished ≡ true → f.ended ≡ true

-- so of what each end sends on each stream, unless it was given up or stopped
abbrev pub HaveBeenRead : Past → Type 0
HaveBeenRead p = (who : End) (id : ℕ) → IsUnreset (p.flow who id) → IsUnstopped (p.flow who id) → IsReadWhole (p.flow who id)

-- all that was written on a stream is acknowledged: where it was ended its half was freed by that (RFC 9000 section 3.1), and else each
-- byte is
pub record IsAllAcked (f : SendFlow) : Type 0 where
  pub ended : f.finished ≡ true → f.freed ≡ true
  pub running : f.finished ≡ false → (n : ℕ) → n < total_length f.cuts → f.acked n ≡ true

-- so on each stream, by what is told, unless it was given up
abbrev pub AreAllAcked : (Tales → Type 0) → Type 0
AreAllAcked told = (t : Tales) → told t → (who : End) (id : ℕ) → ((t.of who).flow id).reset ≡ None → IsAllAcked ((t.of who).flow id)

-- the writer of each stream that was ended was told that it is finished, unless it was given up: all that was sent on it is acknowledged
-- ("Data Recvd", RFC 9000 section 3.1)
abbrev pub HaveBeenTold : Past → Type 0
HaveBeenTold p = (who : End) (id : ℕ) → IsUnreset (p.flow who id) → (p.flow who id).finished ≡ true → (p.flow who id).complete ≡ true

-- of each stream that the other end asked to send no more on its writer was told the code, the first that came, unless its half was freed,
-- by what is told (RFC 9000 section 3.5)
abbrev pub AreStopsTold : (Tales → Type 0) → Past → Type 0
AreStopsTold told p = (t : Tales) → told t → (who : End) (id code : ℕ) → ((t.of who).flow id).stopped ≡ Some code → ((t.of who).flow id).freed ≡ false → IsOneOf code (p.flow who id).told_stops
