-- What holds of linked ends, both ways.
use Rattle.quic_link.specs.Endpoints.{LinkedEnd, Linked}
use Rattle.std.proofs.Common.{arith}
use Rattle.quic_link.specs.Promises.{Promises, AreWelcome, IsPermitted}
use Rattle.quic_link.proofs.Directed.{stops-both, blocks-own}
use Rattle.quic_link.proofs.Ends.{turned}
use Rattle.quic_link.proofs.Joint.{Agrees, agrees}
use Rattle.quic_link.proofs.Welcome.{all-welcome, refuses-none}
use Rattle.quic_link.proofs.Truthful.{truthful, readable}
use Rattle.quic_link.proofs.Answered.{answers-true}

permitted : (x y : LinkedEnd) → Agrees x y → Agrees y x → IsPermitted x y
permitted x y s r = record { all = s.credit.limit; each = λ q. let a = s.limits q in let b = r.permits q in omega arith }

promises : (x y : LinkedEnd) → Linked x y → Agrees x y → Agrees y x → Promises x y
promises x y l s r =
    let stops = stops-both l in
    let blocks = blocks-own l in
    let all : AreWelcome x y = all-welcome x y s r stops.0 blocks.0 in
    let back : AreWelcome y x = all-welcome y x r s stops.1 blocks.1 in
    record { comes = s.comes.from; given = λ id. (s.given.only id, s.given.told id); frames_true = s.truth; frames_asked = s.asked; welcome = all; unrefused = refuses-none x y all; truth = truthful x y s r; readable = readable x y s r; answers = answers-true x y s r (refuses-none y x back); limits = permitted x y s r }

pub promised : {x y : LinkedEnd} → Linked x y → Promises x y × Promises y x
promised {x} {y} l = let k = agrees l in (promises x y l k.0 k.1, promises y x (turned l) k.1 k.0)
