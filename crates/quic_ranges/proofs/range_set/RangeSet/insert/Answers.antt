use Rattle.std.proofs.Common.{◌+◌, ◌-◌, ◌<◌, ◌≡◌, ℕ, List, arith, ap}
use Rattle.std.specs.Prelude.{slice_index_or}
use Rattle.block_map.specs.Rows.{place_among}
use Rattle.quic_ranges.specs.Runs.{Run}
use Rattle.quic_ranges.proofs.Entries.{contains_none, end_at-bounds}
use Rattle.quic_ranges.proofs.Order.{adds_nothing, inside, outside, is_in_true, touches_none}
use Rattle.quic_ranges.proofs.Alone.{placed, longer, free_past}
use Rattle.quic_ranges.proofs.Placed.{key_is, is_last, none_up_to, put_at, longer_at}
use Rattle.quic_ranges.proofs.range_set.RangeSet.insert.Goals as goal

pub returns-in_default-clause-changed : goal.returns-in_default-clause-changed
returns-in_default-clause-changed c = λ t.
    let rs = c.self.inside.runs.items in
    let a = c.args.range.start in
    let b = c.args.range.end in
    let none = none_up_to rs b c.in_default.ensures.none in
    rw (← c.self.view_is) (a, is_in_true (a, b) a (omega arith) (omega arith), contains_none 0 a rs c.self.invariant (λ q p u. none q p (omega arith)))

pub returns-then-range-start-clause-changed : goal.returns-then-range-start-clause-changed
returns-then-range-start-clause-changed c = λ t.
    let rs = c.self.inside.runs.items in
    let at = place_among c.self.inside.runs.rows c.in-Some.place.block c.in-Some.place.index in
    let r : Run = c.entry-start.result in
    let a = c.args.range.start in
    let b = c.args.range.end in
    let last = is_last rs b at r c.find.ensures.rises c.in-Some.ensures.last c.entry-start.ensures in
    let up = last.up_to in
    let k : ℕ = r.0 - 1 in
    let lt = c.if-range-start.true in
    let next : k + 1 ≡ r.0 = omega (arith, lt) in
    rw (← c.self.view_is) (k, is_in_true (a, b) k (omega (arith, lt)) (omega (arith, lt, up)), touches_none 0 r.0 r.1 k rs c.self.invariant last.found next)

pub put_behind-requires-clause-above : goal.put_behind-requires-clause-above
put_behind-requires-clause-above c =
    let rs = c.self.inside.runs.items in
    let at = place_among c.self.inside.runs.rows c.in-Some.place.block c.in-Some.place.index in
    let r : Run = c.entry-start.result in
    let a = c.args.range.start in
    let b = c.args.range.end in
    let last = is_last rs b at r c.find.ensures.rises c.in-Some.ensures.last c.entry-start.ensures in
    let before : (d : Run) → (slice_index_or rs at d).0 < a = λ d.
    let e = key_is rs at r c.entry-start.ensures d in
    let f = end_at-bounds 0 r.0 r.1 rs c.self.invariant last.found in
    let past = c.if-end-range.true in
    omega (arith, e, f.1, past) in
    rw (c.reserve-then-end-range.ensures.items, c.reserve-then-end-range.ensures.rows) before

pub invariant_of-self-then-end-range : goal.invariant_of-self-then-end-range
invariant_of-self-then-end-range c =
    let rs = c.self.inside.runs.items in
    let at = place_among c.self.inside.runs.rows c.in-Some.place.block c.in-Some.place.index in
    let r : Run = c.entry-start.result in
    let a = c.args.range.start in
    let b = c.args.range.end in
    let last = is_last rs b at r c.find.ensures.rises c.in-Some.ensures.last c.entry-start.ensures in
    let before : (d : Run) → (slice_index_or rs at d).0 < a = λ d.
    let e = key_is rs at r c.entry-start.ensures d in
    let f = end_at-bounds 0 r.0 r.1 rs c.self.invariant last.found in
    let past = c.if-end-range.true in
    omega (arith, e, f.1, past) in
    let room = c.reserve-then-end-range.ensures in
    let there = ap (λ (rows : List (List Run)). place_among rows c.in-Some.place.block c.in-Some.place.index) room.rows in
    let is = put_at rs c.reserve-then-end-range.new.self.items c.put_behind.new.self.items at (place_among c.reserve-then-end-range.new.self.rows c.in-Some.place.block c.in-Some.place.index) a b c.find.ensures.rises c.in-Some.ensures.last before (omega arith) room.items there c.put_behind.ensures in
    let free = free_past r.0 r.1 a b rs c.self.invariant (omega arith) last (omega arith) (omega arith) in
    let put = placed a b rs c.put_behind.new.self.items c.self.invariant (omega arith) free.before free.by is (λ q p u. last.last q (omega arith) u) in
    put.runs

pub returns-then-end-range-clause-set : goal.returns-then-end-range-clause-set
returns-then-end-range-clause-set c =
    let rs = c.self.inside.runs.items in
    let at = place_among c.self.inside.runs.rows c.in-Some.place.block c.in-Some.place.index in
    let r : Run = c.entry-start.result in
    let a = c.args.range.start in
    let b = c.args.range.end in
    let last = is_last rs b at r c.find.ensures.rises c.in-Some.ensures.last c.entry-start.ensures in
    let before : (d : Run) → (slice_index_or rs at d).0 < a = λ d.
    let e = key_is rs at r c.entry-start.ensures d in
    let f = end_at-bounds 0 r.0 r.1 rs c.self.invariant last.found in
    let past = c.if-end-range.true in
    omega (arith, e, f.1, past) in
    let room = c.reserve-then-end-range.ensures in
    let there = ap (λ (rows : List (List Run)). place_among rows c.in-Some.place.block c.in-Some.place.index) room.rows in
    let is = put_at rs c.reserve-then-end-range.new.self.items c.put_behind.new.self.items at (place_among c.reserve-then-end-range.new.self.rows c.in-Some.place.block c.in-Some.place.index) a b c.find.ensures.rises c.in-Some.ensures.last before (omega arith) room.items there c.put_behind.ensures in
    let free = free_past r.0 r.1 a b rs c.self.invariant (omega arith) last (omega arith) (omega arith) in
    let put = placed a b rs c.put_behind.new.self.items c.self.invariant (omega arith) free.before free.by is (λ q p u. last.last q (omega arith) u) in
    rw (← c.self.view_is) put.set

pub returns-then-end-range-clause-changed : goal.returns-then-end-range-clause-changed
returns-then-end-range-clause-changed c = λ t.
    let rs = c.self.inside.runs.items in
    let at = place_among c.self.inside.runs.rows c.in-Some.place.block c.in-Some.place.index in
    let r : Run = c.entry-start.result in
    let a = c.args.range.start in
    let b = c.args.range.end in
    let last = is_last rs b at r c.find.ensures.rises c.in-Some.ensures.last c.entry-start.ensures in
    let free = free_past r.0 r.1 a b rs c.self.invariant (omega arith) last (omega arith) (omega arith) in
    rw (← c.self.view_is) (a, is_in_true (a, b) a (omega arith) (omega arith), free.out)

pub returns-then-range-end-clause-set : goal.returns-then-range-end-clause-set
returns-then-range-end-clause-set c = λ n.
    let rs = c.self.inside.runs.items in
    let at = place_among c.self.inside.runs.rows c.in-Some.place.block c.in-Some.place.index in
    let r : Run = c.entry-start.result in
    let a = c.args.range.start in
    let b = c.args.range.end in
    let last = is_last rs b at r c.find.ensures.rises c.in-Some.ensures.last c.entry-start.ensures in
    rw (← c.self.view_is) (adds_nothing rs a b n (λ k low high. inside 0 r.0 r.1 k rs c.self.invariant last.found (omega arith) (omega arith)))

pub invariant_of-self-2 : goal.invariant_of-self-2
invariant_of-self-2 c =
    let rs = c.self.inside.runs.items in
    let at = place_among c.self.inside.runs.rows c.in-Some.place.block c.in-Some.place.index in
    let r : Run = c.entry-start.result in
    let a = c.args.range.start in
    let b = c.args.range.end in
    let last = is_last rs b at r c.find.ensures.rises c.in-Some.ensures.last c.entry-start.ensures in
    let key = key_is rs at r c.entry-start.ensures in
    let is = longer_at rs c.set_value.new.self.items at r.0 b c.find.ensures.rises c.in-Some.ensures.last.fits key c.set_value.ensures.items in
    let put = longer r.0 r.1 a b rs c.set_value.new.self.items c.self.invariant last (omega arith) (omega arith) (omega arith) (omega arith) is in
    put.runs

pub returns-clause-set : goal.returns-clause-set
returns-clause-set c =
    let rs = c.self.inside.runs.items in
    let at = place_among c.self.inside.runs.rows c.in-Some.place.block c.in-Some.place.index in
    let r : Run = c.entry-start.result in
    let a = c.args.range.start in
    let b = c.args.range.end in
    let last = is_last rs b at r c.find.ensures.rises c.in-Some.ensures.last c.entry-start.ensures in
    let key = key_is rs at r c.entry-start.ensures in
    let is = longer_at rs c.set_value.new.self.items at r.0 b c.find.ensures.rises c.in-Some.ensures.last.fits key c.set_value.ensures.items in
    let put = longer r.0 r.1 a b rs c.set_value.new.self.items c.self.invariant last (omega arith) (omega arith) (omega arith) (omega arith) is in
    rw (← c.self.view_is) put.set

pub returns-clause-changed : goal.returns-clause-changed
returns-clause-changed c = λ t.
    let rs = c.self.inside.runs.items in
    let at = place_among c.self.inside.runs.rows c.in-Some.place.block c.in-Some.place.index in
    let r : Run = c.entry-start.result in
    let a = c.args.range.start in
    let b = c.args.range.end in
    let last = is_last rs b at r c.find.ensures.rises c.in-Some.ensures.last c.entry-start.ensures in
    rw (← c.self.view_is) (r.1, is_in_true (a, b) r.1 (omega arith) (omega arith), outside 0 r.0 r.1 rs c.self.invariant last.found)
