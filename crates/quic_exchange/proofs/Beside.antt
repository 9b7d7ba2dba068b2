-- What the steps beside deliveries and reports leave of what a caller knows of payloads.
use Rattle.std.proofs.Common.{◌≡◌, ℕ, Bool, List, Ok, refl}
use Rattle.quic_wire.specs.declared.event.StreamEvent.{StreamEvent}
use Rattle.quic_wire.specs.declared.event.StreamEvent.TheVariants as stream_event
use Rattle.quic_steps.specs.declared.steps.End.{End}
use Rattle.quic_steps.specs.declared.steps.Step.{Step}
use Rattle.quic_steps.specs.declared.steps.Step.TheVariants as steps
use Rattle.quic_steps.specs.declared.steps.Reply.TheVariants.{Done, DoneTransmit, Fault, Id, Wrote, WroteChunks, Stopped, Read, Code, Event}
use Rattle.quic_exchange.specs.Replies.{Answer}
use Rattle.quic_exchange.specs.History.{Past, FramePlace, after, after_given, after_write, after_chunks, after_finish, past_reset, past_stop, past_read, past_code, after_poll, after_event, after_deliver}

-- as much is known of payloads
pub record IsBeside (p p' : Past) : Type 0 where
  pub accepted : p'.accepted ≡ p.accepted
  pub kept : p'.kept ≡ p.kept
  pub settled : p'.settled ≡ p.settled
  pub begun : p'.begun ≡ p.begun

beside_same : (p : Past) → IsBeside p p
beside_same p = record { accepted = refl; kept = refl; settled = refl; begun = refl }

module _ (p : Past) (who : End) where
  given_none : (reply : Answer) → IsBeside p (after_given p who reply)
  given_none (Ok (Id id)) = record { accepted = refl; kept = refl; settled = refl; begun = refl }
  given_none _ = record { accepted = refl; kept = refl; settled = refl; begun = refl }

  write_none : (id : ℕ) (bytes : List ℕ) (reply : Answer) → IsBeside p (after_write p who id bytes reply)
  write_none id bytes (Ok (Wrote count)) = record { accepted = refl; kept = refl; settled = refl; begun = refl }
  write_none id bytes (Ok (Stopped code)) = record { accepted = refl; kept = refl; settled = refl; begun = refl }
  write_none id bytes _ = record { accepted = refl; kept = refl; settled = refl; begun = refl }

  chunks_none : (id : ℕ) (chunks : List (List ℕ)) (reply : Answer) → IsBeside p (after_chunks p who id chunks reply)
  chunks_none id chunks (Ok (WroteChunks written)) = record { accepted = refl; kept = refl; settled = refl; begun = refl }
  chunks_none id chunks (Ok (Stopped code)) = record { accepted = refl; kept = refl; settled = refl; begun = refl }
  chunks_none id chunks _ = record { accepted = refl; kept = refl; settled = refl; begun = refl }

  finish_none : (id : ℕ) (reply : Answer) → IsBeside p (after_finish p who id reply)
  finish_none id (Ok Done) = record { accepted = refl; kept = refl; settled = refl; begun = refl }
  finish_none id (Ok (Stopped code)) = record { accepted = refl; kept = refl; settled = refl; begun = refl }
  finish_none id _ = record { accepted = refl; kept = refl; settled = refl; begun = refl }

  reset_none : (id code : ℕ) (reply : Answer) → IsBeside p (past_reset p who id code reply)
  reset_none id code (Ok Done) = record { accepted = refl; kept = refl; settled = refl; begun = refl }
  reset_none id code _ = record { accepted = refl; kept = refl; settled = refl; begun = refl }

  stop_none : (id code : ℕ) (reply : Answer) → IsBeside p (past_stop p who id code reply)
  stop_none id code (Ok Done) = record { accepted = refl; kept = refl; settled = refl; begun = refl }
  stop_none id code _ = record { accepted = refl; kept = refl; settled = refl; begun = refl }

  read_none : (id : ℕ) (ordered : Bool) (reply : Answer) → IsBeside p (past_read p who id ordered reply)
  read_none id ordered (Ok (Read chunks last transmit)) = record { accepted = refl; kept = refl; settled = refl; begun = refl }
  read_none id ordered _ = record { accepted = refl; kept = refl; settled = refl; begun = refl }

  code_none : (id : ℕ) (reply : Answer) → IsBeside p (past_code p who id reply)
  code_none id (Ok (Code code)) = record { accepted = refl; kept = refl; settled = refl; begun = refl }
  code_none id _ = record { accepted = refl; kept = refl; settled = refl; begun = refl }

  event_none : (event : StreamEvent) → IsBeside p (after_event p who event)
  event_none (stream_event.Finished id) = record { accepted = refl; kept = refl; settled = refl; begun = refl }
  event_none (stream_event.Stopped id code) = record { accepted = refl; kept = refl; settled = refl; begun = refl }
  event_none _ = record { accepted = refl; kept = refl; settled = refl; begun = refl }

  poll_none : (reply : Answer) → IsBeside p (after_poll p who reply)
  poll_none (Ok (Event event)) = event_none event
  poll_none _ = record { accepted = refl; kept = refl; settled = refl; begun = refl }

-- no step on an end tells of payloads, and no payload that is written
abbrev pub IsOfNoPayload : Step → Type 0
IsOfNoPayload (steps.Deliver number index) = ⊥
IsOfNoPayload (steps.Lose number) = ⊥
IsOfNoPayload (steps.Ack number) = ⊥
IsOfNoPayload steps.EarlyReject = ⊥
IsOfNoPayload steps.Retry = ⊥
IsOfNoPayload step = Unit {0}

pub beside : (p : Past) (step : Step) (reply : Answer) → IsOfNoPayload step → IsBeside p (after p step reply)
beside p (steps.Open who dir) reply k = given_none p who reply
beside p (steps.Accept who dir) reply k = given_none p who reply
beside p (steps.Write who id bytes) reply k = write_none p who id bytes reply
beside p (steps.WriteChunks who id chunks) reply k = chunks_none p who id chunks reply
beside p (steps.Finish who id) reply k = finish_none p who id reply
beside p (steps.Reset who id code) reply k = reset_none p who id code reply
beside p (steps.Stop who id code) reply k = stop_none p who id code reply
beside p (steps.SetPriority who id priority) reply k = beside_same p
beside p (steps.Read who id ordered most times) reply k = read_none p who id ordered reply
beside p (steps.ReceivedReset who id) reply k = code_none p who id reply
beside p (steps.SetSendWindow who window) reply k = beside_same p
beside p (steps.SetReceiveWindow who window) reply k = beside_same p
beside p (steps.SetMaxConcurrent who dir count) reply k = beside_same p
beside p (steps.Poll who) reply k = poll_none p who reply
beside p (steps.Emit who most fair) reply k = beside_same p
beside p (steps.EmitPart who most fair part) reply k = beside_same p
beside p (steps.Deliver number index) reply k = absurd k
beside p (steps.Lose number) reply k = absurd k
beside p (steps.Ack number) reply k = absurd k
beside p steps.EarlyAccept reply k = beside_same p
beside p steps.EarlyReject reply k = absurd k
beside p steps.Retry reply k = absurd k

-- a delivery tells of no report
pub deliver-settled : (p : Past) (at : FramePlace) (reply : Answer) → (after_deliver p at reply).settled ≡ p.settled
deliver-settled p at (Ok Done) = refl
deliver-settled p at (Ok DoneTransmit) = refl
deliver-settled p at (Ok (Fault fault)) = refl
deliver-settled p at _ = refl

pub deliver-begun : (p : Past) (at : FramePlace) (reply : Answer) → (after_deliver p at reply).begun ≡ p.begun
deliver-begun p at (Ok Done) = refl
deliver-begun p at (Ok DoneTransmit) = refl
deliver-begun p at (Ok (Fault fault)) = refl
deliver-begun p at _ = refl
