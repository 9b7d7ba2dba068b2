use Rattle.std.proofs.Common.{rules, refl, arith}
use Rattle.quic_assembler.proofs.Whole.{keeps_nothing, keeps_pushed_at}
use Rattle.quic_assembler.proofs.assembly.HeapAssembler.hold_unread.Goals as goal

pub returns-then-end-max-clause-ok : goal.returns-then-end-max-clause-ok
returns-then-end-max-clause-ok c =
    let mode = rw (← c.self.view_is) at c.requires.mode in
    rw (← c.self.view_is) (keeps_nothing _ _ _ _ _ mode mode refl refl (omega arith) (omega arith))

pub returns-clause-ok : goal.returns-clause-ok
returns-clause-ok c =
    let mode = rw (← c.self.view_is) at c.requires.mode in
    rw (← c.self.view_is) (keeps_pushed_at _ _ c.new-piece.result _ _ _ (search rules) (search rules) (search rules) mode mode refl (omega arith) (omega arith) (rw c.cut_below.ensures.cut at c.in_ok-push.ensures.ok))
