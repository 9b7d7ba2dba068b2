use Rattle.std.proofs.Common.{subst, arith, inl, inr}
use Rattle.quic_ordered.specs.Entries.{SpansAll}
use Rattle.quic_ordered.proofs.Joining.{spans_of, within_takes, near_ends}
use Rattle.quic_ordered.proofs.Firsts.{on_ok}
use Rattle.quic_ordered.proofs.gaps.hold_near.Goals as goal

pub returns-then-end-last_end-clause-takes : goal.returns-then-end-last_end-clause-takes
returns-then-end-last_end-clause-takes c =
    let lt = near_ends c.args.pieces.now c.args.new c.args.last c.args.last_end _ c.requires.apart c.requires.last c.requires.near in
    let o = c.offset-offset.ensures.value in
    let e = c.end-end.ensures.value in
    within_takes _ c.args.new c.args.last c.args.last_end _ c.requires.apart c.requires.last (omega arith) (omega arith)

pub join-requires-clause-spans : goal.join-requires-clause-spans
join-requires-clause-spans c =
    let lt = near_ends c.args.pieces.now c.args.new c.args.last c.args.last_end _ c.requires.apart c.requires.last c.requires.near in
    let s = c.requires.some in
    let o = c.offset-offset.ensures.value in
    let e = c.end-end.ensures.value in
    let m = c.max.ensures in
    let n = c.start_of-start.ensures.up_to in
    let spans = spans_of c.args.pieces.now c.args.new c.start_of-start.result c.args.last c.args.last_end _ c.requires.apart c.requires.last (omega arith) (omega arith)
    c.start_of-start.ensures.below (λ at low high. c.start_of-start.ensures.left at low (omega arith)) (λ q v found from lt. let t = c.start_of-start.ensures.tight q v found from (omega arith) in omega arith) in
    subst (SpansAll c.args.pieces.now c.args.new c.start_of-start.result) (omega arith) spans

pub returns-then-end-last_end-clause-joined : goal.returns-then-end-last_end-clause-joined
returns-then-end-last_end-clause-joined c =
    let lt = near_ends c.args.pieces.now c.args.new c.args.last c.args.last_end _ c.requires.apart c.requires.last c.requires.near in
    let o = c.offset-offset.ensures.value in
    let e = c.end-end.ensures.value in
    let l = c.requires.last in
    let k = c.requires.apart.key c.args.last l.run l.found in
    let ends = l.ends in
    inr (inl (c.args.last, l.run, l.found, (omega arith, omega arith)))

pub returns-clause-joined : goal.returns-clause-joined
returns-clause-joined c =
    let lt = near_ends c.args.pieces.now c.args.new c.args.last c.args.last_end _ c.requires.apart c.requires.last c.requires.near in
    let s = c.requires.some in
    let o = c.offset-offset.ensures.value in
    let e = c.end-end.ensures.value in
    let l = c.requires.last in
    let k = c.requires.apart.key c.args.last l.run l.found in
    let ends = l.ends in
    let below = l.up_to in
    on_ok c.join.result c.join.ensures.joined (λ j. inr (inr ((c.args.last, l.run, l.found, (omega arith, omega arith)), j)))
