use Rattle.std.proofs.Common.{refl}
use Rattle.quic_retransmits.proofs.retransmits.Retransmits.take_in.Goals as goal

pub returns : goal.returns
returns c =
    rw (c.append_all.ensures, c.append_all-2.ensures, c.append_all-3.ensures, c.append_all-4.ensures, c.append_all-5.ensures, c.add_all.ensures, c.add_all-2.ensures, c.put_in_front.ensures) refl
