-- Writes on a stream, and the room to queue it.
use Rattle.std.specs.Prelude.{◌≡◌, ℕ, ℤ, Option, Some, None, Result, Ok, Err}
use Rattle.quic_sending.specs.declared.send.Send.{Send}
use Rattle.quic_sending.specs.declared.send.Written.{Written}
use Rattle.quic_sending.specs.declared.send.WriteError.{WriteError}
use Rattle.quic_outgoing.specs.Calls.{HasNoMore}
use Rattle.quic_outgoing.specs.Shown.{outgoing_view}
use Rattle.quic_streams.specs.declared.state.StreamsState.{StreamsState}

-- an answer that is the number of bytes of one that says more, of which this is true
abbrev pub IsWrittenAs : Result ℕ WriteError → (Result Written WriteError → Type 0) → Type 0
IsWrittenAs (Ok n) P = (written : Written) × (written.bytes ≡ n) × P (Ok written)
IsWrittenAs (Err e) P = P (Err e)

-- there is room in the queue at the priority of a half, if there is one and nothing is to be sent on it
abbrev pub IsPlaceOf : Option Send → Option ℤ → Type 0
IsPlaceOf None reserved = Unit {0}
IsPlaceOf (Some s) reserved = HasNoMore s → reserved ≡ Some s.priority

abbrev pub HasPlace : StreamsState → ℕ → Type 0
HasPlace s id = IsPlaceOf ((outgoing_view s.outgoing).halves id) s.queue.reserved

-- memory may be wanted to queue a stream: it is held, and nothing is to be sent on it
abbrev pub MayWantPlace : Option Send → Type 0
MayWantPlace None = ⊥
MayWantPlace (Some s) = HasNoMore s

-- there is room in the queue where it is asked for
abbrev pub HasPlaceAt : StreamsState → Option ℤ → Type 0
HasPlaceAt s None = Unit {0}
HasPlaceAt s (Some priority) = s.queue.reserved ≡ Some priority
