use Rattle.std.proofs.Common.{refl, w32, to_z-of_z}
use Rattle.quic_streams_c.proofs.Calls.{number-refused, number-given}
use Rattle.quic_streams_c.proofs.peer.hand_max_data.Goals as goal

pub returns-in_default : goal.returns-in_default
returns-in_default c = number-refused c.small.result _ _ _ c.small.ensures c.in_default.not-Some ((refl, refl), refl)

pub returns : goal.returns
returns c = number-given c.in-Some.limit _ _ _ c.in-Some.ensures (simp (to_z-of_z {w = w32} {z = c.hand.result} (record { sfits = c.hand.type_inv })) c.hand.ensures)
