use Rattle.std.proofs.Common.{refl, arith}
use Rattle.quic_assembler.proofs.Whole.{assembler_pushed}
use Rattle.quic_ordered.proofs.Assembling.{keeps_joined}
use Rattle.quic_ordered.proofs.Cutting.{unread_whole}
use Rattle.quic_ordered.proofs.assembly.Assembler.hold_unread.Goals as goal

pub invariant_of-self-2 : goal.invariant_of-self-2
invariant_of-self-2 c =
    let mode = rw (← c.self.view_is) at c.requires.mode in
    let above = rw (← c.self.view_is) at c.requires.above in
    record {
      whole = assembler_pushed _ _ _ _ _ mode c.self.invariant.whole;
      above = λ e. c.in_ok-insert.ensures.order _ above (c.self.invariant.above e);
    }

pub returns-clause-ok : goal.returns-clause-ok
returns-clause-ok c =
    let mode = rw (← c.self.view_is) at c.requires.mode in
    let above = rw (← c.self.view_is) at c.requires.above in
    let is = unread_whole c.self.inside.bytes_read c.args.offset c.args.bytes c.args.allocation_size above in
    rw (← c.self.view_is) (keeps_joined _ _ _ _ _ c.args.offset _ _ is mode mode refl (omega arith) (omega arith) (omega arith) c.in_ok-insert.ensures.merges c.in_ok-insert.ensures.stems c.in_ok-insert.ensures.stays c.in_ok-insert.ensures.joined (λ h. (c.in_ok-insert.ensures.within h).1) c.in_ok-insert.ensures.pieces)
