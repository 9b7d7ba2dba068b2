use Rattle.std.proofs.Common.{sym, ap, ◌∙◌, None}
use Rattle.std.proofs.lemmas.Int.{to_z-of_z}
use Rattle.quic_queue.specs.Levels.{entries_of}
use Rattle.quic_queue.proofs.Lines.{entries_of-remove}
use Rattle.quic_queue.proofs.Changes.{others_stay, is_filled, is_gone, no_items, some_items}
use Rattle.quic_queue.proofs.Tops.{above_rest}
use Rattle.quic_queue.proofs.queue.drop_if_empty.Goals as goal

pub returns-then-is_empty-clause-shown : goal.returns-then-is_empty-clause-shown
returns-then-is_empty-clause-shown c =
    let fits = c.ranges.priority in
    let m = c.args.levels.now in
    let p = c.args.priority in
    let there = simp to_z-of_z at c.in-Some.ensures.value in
    let entries = simp to_z-of_z at c.remove.ensures.entries in
    let empty = no_items c.in-Some.ids.now (sym c.is_empty.ensures ∙ c.if-is_empty.true) in
    ap entries_of entries ∙ entries_of-remove p m.entries c.in-Some.ids.now (sym there) empty

pub returns-then-is_empty-clause-others : goal.returns-then-is_empty-clause-others
returns-then-is_empty-clause-others c =
    let fits = c.ranges.priority in
    let m = c.args.levels.now in
    let p = c.args.priority in
    let updates = simp to_z-of_z at c.remove.ensures.updates in
    others_stay m c.remove.new.self p None updates

pub returns-then-is_empty-clause-filled : goal.returns-then-is_empty-clause-filled
returns-then-is_empty-clause-filled c =
    let fits = c.ranges.priority in
    let m = c.args.levels.now in
    let p = c.args.priority in
    let updates = simp to_z-of_z at c.remove.ensures.updates in
    is_gone c.remove.new.self p updates.1

pub returns-else-is_empty-clause-filled : goal.returns-else-is_empty-clause-filled
returns-else-is_empty-clause-filled c =
    let fits = c.ranges.priority in
    let m = c.args.levels.now in
    let p = c.args.priority in
    let there = simp to_z-of_z at c.in-Some.ensures.value in
    is_filled m p c.in-Some.ids.now (sym there) (some_items c.in-Some.ids.now (sym c.is_empty.ensures ∙ c.if-is_empty.false))

pub returns-in_default-clause-filled : goal.returns-in_default-clause-filled
returns-in_default-clause-filled c =
    let fits = c.ranges.priority in
    let m = c.args.levels.now in
    let p = c.args.priority in
    let told = simp to_z-of_z at c.get.ensures.value in
    let none = rw c.in_default.is at told in
    is_gone m p (sym none)

pub returns-then-is_empty-clause-above : goal.returns-then-is_empty-clause-above
returns-then-is_empty-clause-above c = λ q above.
    let fits = c.ranges.priority in
    let m = c.args.levels.now in
    let p = c.args.priority in
    let updates = simp to_z-of_z at c.remove.ensures.updates in
    above_rest q p m c.remove.new.self above (others_stay m c.remove.new.self p None updates) updates.1
