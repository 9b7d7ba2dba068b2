use Rattle.std.proofs.Common.{arith, ap}
use Rattle.quic_assembler.specs.Reassembly.{Reassembly}
use Rattle.quic_ordered.proofs.Firsts.{on_ok}
use Rattle.quic_ordered.proofs.Cutting.{keeps_cut}
use Rattle.quic_ordered.proofs.assembly.Assembler.hold_above.Goals as goal

pub returns-clause-ok : goal.returns-clause-ok
returns-clause-ok c =
    let at = ap (λ (a : Reassembly). a.bytes_read) c.self.view_is in
    on_ok c.hold_unread.result c.hold_unread.ensures.ok (λ k. keeps_cut c.args.self.now c.hold_unread.new.self c.args.offset c.self.inside.bytes_read c.args.bytes c.advance.new.self c.args.allocation_size c.requires.mode at (omega (arith, c.requires.below, at)) (omega (arith, c.requires.on, at)) c.advance.ensures k)
