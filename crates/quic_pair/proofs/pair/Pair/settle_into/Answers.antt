use Rattle.std.proofs.Common.{false, sym, subst}
use Rattle.quic_exchange.specs.declared.phase.Phase.TheVariants as phase
use Rattle.quic_pair.specs.Shown.{pair_view}
use Rattle.quic_exchange.specs.History.{History}
use Rattle.quic_exchange.specs.Runs.{none}
use Rattle.quic_exchange.specs.Settling.{FollowsPhases, none as follows_none}
use Rattle.quic_exchange.proofs.Completes.{steps-decided}
use Rattle.quic_exchange.proofs.Settling.{GoesBy, steps-on, follows-on, cut-off, on-err}
use Rattle.quic_pair.proofs.pair.Pair.settle_into.Goals as goal

pub loop-next-init : goal.loop-next-init
loop-next-init c =
    let v = pair_view c.args.self.now in
    let P : History → Type 0 = λ l. GoesBy v l v in
    let Q : History → Type 0 = λ l. FollowsPhases v (phase.Report 0 false) l v (phase.Report 0 false) in
    record { taken = subst P (sym c.requires.none) none; order = subst Q (sym c.requires.none) follows_none }

pub take-requires : goal.take-requires
take-requires c = (steps-decided (pair_view c.args.self.now) c.loop-next.taken.items (pair_view c.loop-next.self) c.requires.decided c.loop-next.invariant.taken).1

pub returns-in_err-phase-clause-next : goal.returns-in_err-phase-clause-next
returns-in_err-phase-clause-next c = steps-on (pair_view c.args.self.now) (pair_view c.loop-next.self) c.loop-next.taken.items c.in-Some.next c.take.result (pair_view c.take.new.self) c.take.new.taken.items c.loop-next.invariant.taken c.take.ensures.takes

pub returns-in_err-phase-clause-cut_off : goal.returns-in_err-phase-clause-cut_off
returns-in_err-phase-clause-cut_off c =
    on-err c.from_residual.result _
    (cut-off (pair_view c.args.self.now) (pair_view c.loop-next.self) c.loop-next.taken.items c.loop-next.phase c.in-Some.next c.in_err-phase.field-0.0 (pair_view c.take.new.self) c.take.new.taken.items c.loop-next.invariant.order c.in-Some.ensures.sought c.in_err-phase.ensures.takes)

pub returns-in_err-phase-clause-memory : goal.returns-in_err-phase-clause-memory
returns-in_err-phase-clause-memory c = on-err c.from_residual.result _ c.in_err-phase.ensures.memory

pub loop-next-preserved : goal.loop-next-preserved
loop-next-preserved c = record {
  taken = steps-on (pair_view c.args.self.now) (pair_view c.loop-next.self) c.loop-next.taken.items c.in-Some.next c.take.result (pair_view c.take.new.self) c.take.new.taken.items c.loop-next.invariant.taken c.take.ensures.takes;
  order = follows-on (pair_view c.args.self.now) (pair_view c.loop-next.self) c.loop-next.taken.items c.loop-next.phase c.in-Some.next c.in_ok-phase.phase (pair_view c.take.new.self) c.take.new.taken.items c.loop-next.invariant.order c.in-Some.ensures.sought c.in_ok-phase.ensures.takes;
}

pub returns : goal.returns
returns c = record {
  next = c.loop-next.invariant.taken;
  order = record { at = c.loop-next.phase; follows = c.loop-next.invariant.order; ended = c.in_default.ensures.none };
  cut_off = tt;
  memory = tt;
  settled = c.in_default.ensures.none.settled;
}
