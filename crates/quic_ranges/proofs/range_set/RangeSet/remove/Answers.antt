use Rattle.std.proofs.Common.{◌≤◌, ◌-◌, arith, ◌∙◌, inl, inr}
use Rattle.std.proofs.lemmas.Bool.{le-ltb, cases_lt}
use Rattle.quic_ranges.proofs.Entries.{contains_last, contains_none, end_at-bounds}
use Rattle.quic_ranges.proofs.Order.{inside, is_in_true}
use Rattle.quic_ranges.proofs.Cut.{cuts, is_left, removes_nothing}
use Rattle.quic_ranges.proofs.range_set.RangeSet.remove.Goals as goal

pub returns-in_default-clause-set : goal.returns-in_default-clause-set
returns-in_default-clause-set c = λ n. rw (← c.self.view_is)
    (removes_nothing c.self.inside.runs.items c.args.range.start c.args.range.end n
    (λ k from to. contains_none 0 k c.self.inside.runs.items c.self.invariant (λ q p t. c.in_default.ensures.none q p (omega arith))))

pub returns-then-end-range-clause-set : goal.returns-then-end-range-clause-set
returns-then-end-range-clause-set c = λ n.
    let rs = c.self.inside.runs.items in
    let h = c.in-Some.ensures.found in
    let at = end_at-bounds 0 c.in-Some.last c.in-Some.end rs c.self.invariant h.found in
    rw (← c.self.view_is)
    (removes_nothing rs c.args.range.start c.args.range.end n
    (λ k from to. contains_last 0 c.in-Some.last c.in-Some.end k rs c.self.invariant h.found (omega arith) (λ q p t. h.last q p (omega arith)) ∙ le-ltb k c.in-Some.end (omega arith)))

pub invariant_of-self-2 : goal.invariant_of-self-2
invariant_of-self-2 c =
    let rs = c.self.inside.runs.items in
    let left = is_left rs c.args.range.start c.left_over-left.result c.left_over-left.ensures.found c.left_over-left.ensures.none in
    rw (c.clear_runs.ensures, c.keep_left.ensures.ok, c.in_ok-keep_right.ensures.ok)
    (cuts 0 c.args.range.start c.args.range.end c.in-Some.last c.in-Some.end rs c.left_over-left.result c.self.invariant (omega arith) (omega arith) c.in-Some.ensures.found left).runs

pub returns-clause-set : goal.returns-clause-set
returns-clause-set c = λ n.
    let rs = c.self.inside.runs.items in
    let left = is_left rs c.args.range.start c.left_over-left.result c.left_over-left.ensures.found c.left_over-left.ensures.none in
    rw (c.clear_runs.ensures, c.keep_left.ensures.ok, c.in_ok-keep_right.ensures.ok, ← c.self.view_is)
    ((cuts 0 c.args.range.start c.args.range.end c.in-Some.last c.in-Some.end rs c.left_over-left.result c.self.invariant (omega arith) (omega arith) c.in-Some.ensures.found left).set n)

pub returns-clause-changed : goal.returns-clause-changed
returns-clause-changed c = λ t.
    let rs = c.self.inside.runs.items in
    let h = c.in-Some.ensures.found in
    let s = c.in-Some.last in
    let up : s ≤ c.args.range.end - 1 = h.up_to in
    let at = end_at-bounds 0 s c.in-Some.end rs c.self.invariant h.found in
    rw (← c.self.view_is)
    (elim (cases_lt s c.args.range.start) [
      | inl lt ↦ (c.args.range.start, is_in_true (c.args.range.start, c.args.range.end) c.args.range.start (omega arith) (omega arith), inside 0 s c.in-Some.end c.args.range.start rs c.self.invariant h.found (omega arith) (omega arith))
      | inr ge ↦ (s, is_in_true (c.args.range.start, c.args.range.end) s ge (omega arith), inside 0 s c.in-Some.end s rs c.self.invariant h.found (omega arith) at.1)
    ])
