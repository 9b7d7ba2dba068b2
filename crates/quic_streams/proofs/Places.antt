-- Room that was made in the queue.
use Rattle.std.proofs.Common.{◌≡◌, ℤ, Option, Some, None, refl, ap, inl, inr}
use Rattle.quic_queue.specs.SendOrder.{SendOrder}
use Rattle.quic_sending.specs.declared.send.Send.{Send}
use Rattle.quic_outgoing.specs.Calls.{MakesRoomAt, MayMakeRoom}
use Rattle.quic_streams.specs.declared.state.StreamsState.{StreamsState}
use Rattle.quic_streams.specs.Writing.{HasPlaceAt}

-- no stream is queued by it
pub nothing-queued : (q : SendOrder) (queue_at : Option ℤ) (r : SendOrder) → MakesRoomAt q queue_at r → record r { reserved = None } ≡ record q { reserved = None }
nothing-queued q None r h = ap (λ (s : SendOrder). record s { reserved = None }) h
nothing-queued q (Some priority) r h = ap (λ (s : SendOrder). record s { reserved = None }) h

pub nothing-queued-if : (o : Option Send) (q r : SendOrder) → MayMakeRoom o q r → record r { reserved = None } ≡ record q { reserved = None }
nothing-queued-if o q r (inl h) = ap (λ (s : SendOrder). record s { reserved = None }) h
nothing-queued-if o q r (inr (queue_at, at, h)) = nothing-queued q queue_at r h

-- the stream can be queued
pub has-place : (q : SendOrder) (queue_at : Option ℤ) (s : StreamsState) → MakesRoomAt q queue_at s.queue → HasPlaceAt s queue_at
has-place q None s h = tt
has-place q (Some priority) s h = ap (λ (r : SendOrder). r.reserved) h

pub ruleset place_rules = (nothing-queued, nothing-queued-if, has-place)
