-- A stream that waits, and a limit that is given for one, on its half where that lies.
use Rattle.std.specs.Prelude.{◌≡◌, ℕ, Bool, true, not, ◌&&◌, if◌then◌else◌, Option, Some, None}
use Rattle.quic_sending.specs.declared.send.Send.{Send}
use Rattle.quic_outgoing.specs.declared.waiting.Raised.{Raised}
use Rattle.quic_outgoing.specs.Senders.{SendersById, with_sender}
use Rattle.quic_outgoing.specs.Outgoing.{marked}
use Rattle.quic_outgoing.specs.Calls.{is_woken, with_rise}

-- a stream waits on its half, and is put on the list unless it did before
abbrev pub WaitsOn : Send → Bool → Send → Type 0
WaitsOn s joins t = (joins ≡ not s.connection_blocked) × (t ≡ marked true s)

-- and among the halves: none waits where none is held
abbrev pub WaitsIn : SendersById → ℕ → Option Bool → SendersById → Type 0
WaitsIn f id None g = (f id ≡ None) × (g ≡ f)
WaitsIn f id (Some joins) g = (s : Send) × (f id ≡ Some s) × (joins ≡ not s.connection_blocked) × (g ≡ with_sender f id (Some (marked true s)))

-- whether the stream of a half waits once that was given a limit: it was woken where nothing may be written
abbrev pub waits_after : ℕ → Bool → Send → Bool
waits_after n stuck s = is_woken s n && stuck

-- a half that was given a limit
abbrev pub risen : ℕ → Bool → Send → Send
risen n stuck s = if waits_after n stuck s then marked true (with_rise s n) else with_rise s n

-- whether its stream is put on the list
abbrev pub joins_after : ℕ → Bool → Send → Bool
joins_after n stuck s = waits_after n stuck s && not (with_rise s n).connection_blocked

abbrev pub RaisesOn : ℕ → Bool → Send → Raised → Send → Type 0
RaisesOn n stuck s raised t = (raised.is_woken ≡ is_woken s n) × (raised.joins ≡ joins_after n stuck s) × (t ≡ risen n stuck s)

-- and among the halves: none is given a limit where none is held
abbrev pub RaisesIn : SendersById → ℕ → ℕ → Bool → Option Raised → SendersById → Type 0
RaisesIn f id n stuck None g = (f id ≡ None) × (g ≡ f)
RaisesIn f id n stuck (Some raised) g = (s : Send) × (f id ≡ Some s) × (raised.is_woken ≡ is_woken s n) × (raised.joins ≡ joins_after n stuck s) × (g ≡ with_sender f id (Some (risen n stuck s)))
