-- What the limit of the connection leaves to be written once a settling ended.
use Rattle.std.specs.Prelude.{ℕ, ◌-◌, ◌/◌, ◌≤◌, List}
use Rattle.quic_history.specs.World.{World}
use Rattle.quic_steps.specs.declared.steps.End.{End}
use Rattle.quic_steps.specs.declared.steps.End.TheVariants.{A, B}
use Rattle.quic_exchange.specs.State.{PairState, peer, the_end}
use Rattle.quic_exchange.specs.History.{Past}
use Rattle.quic_exchange.specs.Readable.{SomeReset}
use Rattle.quic_exchange.specs.Sent.{Sent}
use Rattle.quic_link.specs.Endpoints.{IsOneOf}
use Rattle.quic_exchange.specs.Tale.{Tale, Tales}
use Rattle.quic_progress.specs.Progress.{OwesNoDebt, CanBeTold, IsAllConsumed}

-- of each stream that its writer gave up a RESET_STREAM frame was accepted, which tells its final size (RFC 9000 sections 4.5 and 19.4)
abbrev pub HaveResetsArrived : Past → List Sent → Type 0
HaveResetsArrived p sent = (who : End) (id code : ℕ) → IsOneOf code (p.flow who id).resets → (told : ℕ) × SomeReset sent who id told p.accepted

-- of what one end writes and the other reads, where no debt is owed and the limit can be told
-- all: the limit that the reader permits is its receive window above all that was written (RFC 9000 sections 4.1 and 4.2)
-- room: so the limit that the writer knows leaves the window but for an eighth
pub record CountsAsConsumed (t : Tale) (w : World) : Type 0 where
  pub all : OwesNoDebt w.credit → CanBeTold w.credit.local_max_data → IsAllConsumed t w.credit
  pub room : OwesNoDebt w.credit → CanBeTold w.credit.local_max_data → w.credit.receive_window - w.credit.receive_window / 8 ≤ t.limit - t.written

-- so each way
abbrev pub CountAsConsumed : PairState → Tales → Type 0
CountAsConsumed v t = (who : End) → CountsAsConsumed (t.of who) (the_end v (peer who)).streams

-- the client knows so much of the server, and all that the server wrote counts as consumed: so it is whatever came of what the client sent early
pub record ConsumeMost (v : PairState) (t : Tales) : Type 0 where
  pub client : CountsAsConsumed (t.of A) v.b.streams
  pub server : OwesNoDebt v.a.streams.credit → CanBeTold v.a.streams.credit.local_max_data → IsAllConsumed (t.of B) v.a.streams.credit
