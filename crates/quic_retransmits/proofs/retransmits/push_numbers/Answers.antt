use Rattle.std.proofs.Common.{◌<◌, ◌∙◌, arith}
use Rattle.quic_retransmits.proofs.Numbers.{numbers_from-push}
use Rattle.quic_retransmits.proofs.retransmits.push_numbers.Goals as goal

pub loop-number-preserved : goal.loop-number-preserved
loop-number-preserved c =
    let more : c.loop-number.number < c.args.end = omega arith in
    rw c.push_reserved.ensures.items (record {
      all = numbers_from-push c.loop-number.list.items c.loop-number.number c.args.end more ∙ c.loop-number.invariant.all;
      room = omega arith;
    })
