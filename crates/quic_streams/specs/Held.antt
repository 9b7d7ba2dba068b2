-- The halves that an end holds, by the ids of their streams.
use Rattle.std.specs.Prelude.{ℕ, ◌==◌, Option, Some, None}
use Rattle.std.specs.Option.{option_map}
use Rattle.std.specs.HashMap.{get, spare}
use Rattle.std.specs.Global.{Box}
use Rattle.quic_receiving.specs.Half.{Half, new_half}
use Rattle.quic_history.specs.Halves.{Halves}
use Rattle.quic_streams.specs.declared.halves.ReceiveHalves.{ReceiveHalves}

-- a half that was not used is a new one
abbrev pub half_in : ℕ → Option (Box Half) → Half
half_in window None = new_half window
half_in window (Some b) = b.value

-- the halves that are held
unfoldable pub halves_view : ReceiveHalves → Halves
halves_view h = λ q. option_map (half_in h.window) (get ◌==◌ h.entries q)

-- how many more halves can be held without new memory
abbrev pub room : ReceiveHalves → ℕ
room h = spare h.entries
