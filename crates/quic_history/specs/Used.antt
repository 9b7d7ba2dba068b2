-- How many send halves an end holds of the streams that it opened or accepted.
use Rattle.std.specs.Prelude.{ℕ, ◌+◌}
use Rattle.quic_values.specs.declared.ids.Side.{Side}
use Rattle.quic_values.specs.declared.ids.Dir.{Dir}
use Rattle.quic_values.specs.declared.ids.Dir.TheVariants.{Bi, Uni}
use Rattle.quic_values.specs.Ids.{stream_id, other_side}
use Rattle.quic_receiving.specs.Counted.{number}
use Rattle.quic_history.specs.World.{World, sends}

-- of the first so many streams of an initiator and a direction
abbrev pub halves_among : World → Side → Dir → ℕ → ℕ
halves_among w initiator d n = number (λ i. sends w (stream_id initiator d i)) n

-- of those that it opened, of both directions, and of the bidirectional ones of the peer that were accepted
abbrev pub used_halves : World → ℕ
used_halves w = (halves_among w w.out.side Bi w.out.own_bi.opened + halves_among w w.out.side Uni w.out.own_uni.opened)
    + halves_among w (other_side w.out.side) Bi w.bi.next_reported
