use Rattle.std.proofs.Common.{arith}
use Rattle.std.proofs.lemmas.List.{length-append}
use Rattle.std.proofs.lemmas.List.Sorted.{length_permutation}
use Rattle.quic_assembler.proofs.Fresh.{takes_fresh}
use Rattle.quic_assembler.proofs.unreceived.hold_unreceived.Goals as goal

pub put_some-requires : goal.put_some-requires
put_some-requires c =
    let put = rw c.in_ok-reserve.ensures.runs at c.put_all.ensures.put in
    let room = rw c.in_ok-reserve.ensures.runs at c.in_ok-reserve.ensures.room in
    omega (arith, length_permutation _ _ put, length-append c.cut_all.new.fronts.items c.args.pieces.now.runs, room, c.put_all.ensures.room, c.cut_all.new.fronts.ok)

pub returns-clause-ok : goal.returns-clause-ok
returns-clause-ok c = takes_fresh _ _ _ _ _ _ _ c.in_ok-cut_all.ensures.cut c.in_ok-cut_all.ensures.none (rw c.in_ok-reserve.ensures.runs at c.put_all.ensures.put) c.put_some.ensures.put
