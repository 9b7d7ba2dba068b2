use Rattle.std.proofs.Common.{rules, arith, sym}
use Rattle.quic_ordered.proofs.Given.{given_takes, given_fronted, none_read, popped_fronted, popped_takes}
use Rattle.quic_ordered.proofs.Taking.{takes_given}
use Rattle.quic_ordered.proofs.pieces.OrderedPieces.take_first.Goals as goal

pub invariant_of-self : goal.invariant_of-self
invariant_of-self c = given_fronted c.give.result c.self.inside.first c.give.new.first c.self.inside.rest c.args.max_length c.self.invariant c.give.ensures.given c.give.ensures.none c.give.ensures.err

pub returns-then-is_some-clause-takes : goal.returns-then-is_some-clause-takes
returns-then-is_some-clause-takes c = given_takes c.give.result c.self.inside.first c.give.new.first c.self.inside.rest c.args.self.now c.args.max_length (sym c.self.view_is) c.len-count.ensures.order c.len-count.ensures.fits c.give.ensures.given

pub invariant_of-self-then-len-max_length : goal.invariant_of-self-then-len-max_length
invariant_of-self-then-len-max_length c = popped_fronted c.self.inside.first c.self.inside.rest c.pop_first.new.self c.in-Some.piece (none_read c.self.inside.first c.is_some.result c.is_some.ensures c.if-is_some.false) c.in-Some.ensures.popped c.self.invariant

pub returns-then-len-max_length-clause-takes : goal.returns-then-len-max_length-clause-takes
returns-then-len-max_length-clause-takes c =
    let none = none_read c.self.inside.first c.is_some.result c.is_some.ensures c.if-is_some.false in
    popped_takes c.self.inside.first c.self.inside.rest c.pop_first.new.self c.args.self.now c.in-Some.piece c.args.max_length c.whole.result none (sym c.self.view_is) c.in-Some.ensures.popped c.whole.ensures (omega (arith, c.len.ensures.value, c.if-len-max_length.true)) c.len-count.ensures.order c.len-count.ensures.fits

pub returns-clause-takes : goal.returns-clause-takes
returns-clause-takes c =
    takes_given c.args.max_length c.offset-offset.result c.in_ok-bytes.bytes c.args.self.now _ c.len-count.ensures.order c.len-count.ensures.fits (search rules)
