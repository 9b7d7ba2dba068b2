use Rattle.std.proofs.Common.{refl, w32, to_z-of_z}
use Rattle.quic_streams_c.proofs.Calls.{number-refused, number-given}
use Rattle.quic_streams_c.proofs.users.set_user.Goals as goal

pub returns-in_default : goal.returns-in_default
returns-in_default c = number-refused c.stream_of.result _ _ _ c.stream_of.ensures c.in_default.not-Some (refl, refl)

pub returns : goal.returns
returns c =
    let p = c.set_user.ensures in
    number-given c.in-Some.id _ _ _ c.in-Some.ensures (
      c.set_user.result,
      record { set = p.set; known = p.known; unknown = p.unknown; err = p.err; others = (p.end, p.beside) },
      simp (to_z-of_z {w = w32} {z = c.tell_handled.result} (record { sfits = c.tell_handled.type_inv })) c.tell_handled.ensures,
    )
