-- What was delivered is read: the law of a stream all of which came.
use Rattle.std.specs.Prelude.{ℕ, ◌≡◌, ◌<◌, ◌≤◌, true, false, List, length, Ok, Err}
use Rattle.quic_assembler.specs.declared.chunk.Chunk.{Chunk}
use Rattle.quic_receiving.specs.Data.{IsAllGiven}
use Rattle.quic_history.specs.History.{slices}
use Rattle.quic_link.specs.Endpoints.{IsOneOf}
use Rattle.quic_steps.specs.declared.steps.End.{End}
use Rattle.quic_steps.specs.declared.steps.Step.{Step}
use Rattle.quic_steps.specs.declared.steps.Step.TheVariants as steps
use Rattle.quic_steps.specs.declared.steps.Reply.TheVariants.{Read}
use Rattle.quic_steps.specs.declared.steps.PairError.TheVariants.{OutOfMemory as NoMemory}
use Rattle.quic_steps.specs.declared.steps.Last.{Last}
use Rattle.quic_steps.specs.declared.steps.Last.TheVariants as last
use Rattle.quic_exchange.specs.Sent.{Sent}
use Rattle.quic_exchange.specs.Replies.{Answer}
use Rattle.quic_exchange.specs.State.{peer}
use Rattle.quic_exchange.specs.History.{Past, Flow, past_read}
use Rattle.quic_exchange.specs.Headline.{IsDelivered}
use Rattle.quic_exchange.specs.Readable.{SomeReset, OnlySends}

-- all of what an end wrote on a stream was delivered to the other, who was given the stream, and may still read it in order:
-- neither was it stopped, nor did a reset come, nor was its end told, nor was it read as bytes come
pub record MayDrain (p : Past) (sent : List Sent) (who : End) (id : ℕ) : Type 0 where
  pub known : IsOneOf id (p.ids who)
  pub receives : OnlySends who id → ⊥
  pub delivered : IsDelivered (p.flow (peer who) id) (peer who) id p.accepted sent
  pub running : (code : ℕ) → IsOneOf code (p.flow (peer who) id).stops → ⊥
  pub unreset : (code : ℕ) → SomeReset sent (peer who) id code p.accepted → ⊥
  pub unended : (p.flow (peer who) id).ended ≡ false
  pub in_order : (p.flow (peer who) id).unordered ≡ false

-- every byte of a flow was given, and its end told
pub record IsDrained (f : Flow) : Type 0 where
  pub all : IsAllGiven (slices f.given) (length f.written)
  pub ended : f.ended ≡ true

-- a read told the end, and then every byte was given; or it gave as many chunks as it asked for, which are no more than bytes
-- were written, since each has one; or there was no memory for a chunk
abbrev pub DrainsBy : ℕ → List Chunk → Last → Flow → Type 0
DrainsBy times chunks last.Ended f = IsDrained f
DrainsBy times chunks last.More f = (length chunks ≡ times) × (times ≤ length f.written)
DrainsBy times chunks last.Memory f = Unit {0}
DrainsBy times chunks _ f = ⊥

-- so it does, or memory ran out before it
abbrev pub DrainsFlow : ℕ → Answer → Flow → Type 0
DrainsFlow times (Ok (Read chunks last transmit)) f = DrainsBy times chunks.items last f
DrainsFlow times (Err NoMemory) f = Unit {0}
DrainsFlow times _ f = ⊥

-- where all was delivered, an ordered read gives what was not given yet, and tells the end, or gives all the chunks that it asked for
abbrev pub Drains : Past → List Sent → Step → Answer → Type 0
Drains p sent (steps.Read who id ordered most times) reply = ordered ≡ true → 0 < most → MayDrain p sent who id → DrainsFlow times reply ((past_read p who id ordered reply).flow (peer who) id)
Drains p sent _ reply = Unit {0}
