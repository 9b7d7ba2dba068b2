use Rattle.std.proofs.Common.{arith, sym, ap, ◌∙◌}
use Rattle.std.proofs.lemmas.Int.{to_z-of_z}
use Rattle.quic_queue.specs.Levels.{entries_of}
use Rattle.quic_queue.proofs.Lines.{entries_of-push}
use Rattle.quic_queue.proofs.Changes.{room_there, no_room, is_filled, written}
use Rattle.quic_queue.proofs.Tops.{still_above, there_below}
use Rattle.quic_queue.proofs.queue.push_at.Goals as goal

pub push_back_reserved-requires : goal.push_back_reserved-requires
push_back_reserved-requires c =
    let fits = c.ranges.priority in
    let m = c.args.levels.now in
    let p = c.args.priority in
    let there = simp to_z-of_z at c.in-Some.ensures.value in
    room_there m p c.in-Some.ids.now (sym there) c.requires

pub unreachable-requires : goal.unreachable-requires
unreachable-requires c =
    let fits = c.ranges.priority in
    let m = c.args.levels.now in
    let p = c.args.priority in
    let none = simp to_z-of_z at c.in-None.ensures.value in
    no_room m p (sym none) c.requires

pub returns-clause-shown : goal.returns-clause-shown
returns-clause-shown c =
    let fits = c.ranges.priority in
    let m = c.args.levels.now in
    let p = c.args.priority in
    let v = c.in-Some.ids.now in
    let w = c.push_back_reserved.new.self in
    let n = c.get_mut.follows.lender w in
    let there = simp to_z-of_z at c.in-Some.ensures.value in
    let holds = simp to_z-of_z at (c.get_mut.follows.holds w) in
    ap entries_of holds.0 ∙ entries_of-push p m.entries v w c.args.id c.get_mut.ensures.ordered (sym there) c.push_back_reserved.ensures.items

pub returns-clause-others : goal.returns-clause-others
returns-clause-others c =
    let fits = c.ranges.priority in
    let m = c.args.levels.now in
    let p = c.args.priority in
    let v = c.in-Some.ids.now in
    let w = c.push_back_reserved.new.self in
    let n = c.get_mut.follows.lender w in
    let there = simp to_z-of_z at c.in-Some.ensures.value in
    let holds = simp to_z-of_z at (c.get_mut.follows.holds w) in
    (written m n p v w there holds.3).0

pub returns-clause-filled : goal.returns-clause-filled
returns-clause-filled c =
    let fits = c.ranges.priority in
    let m = c.args.levels.now in
    let p = c.args.priority in
    let v = c.in-Some.ids.now in
    let w = c.push_back_reserved.new.self in
    let n = c.get_mut.follows.lender w in
    let there = simp to_z-of_z at c.in-Some.ensures.value in
    let holds = simp to_z-of_z at (c.get_mut.follows.holds w) in
    is_filled n p w (written m n p v w there holds.3).1 (omega (arith, c.push_back_reserved.ensures.len))

pub returns-clause-above : goal.returns-clause-above
returns-clause-above c = λ q above.
    let fits = c.ranges.priority in
    let m = c.args.levels.now in
    let p = c.args.priority in
    let v = c.in-Some.ids.now in
    let w = c.push_back_reserved.new.self in
    let n = c.get_mut.follows.lender w in
    let there = simp to_z-of_z at c.in-Some.ensures.value in
    let holds = simp to_z-of_z at (c.get_mut.follows.holds w) in
    still_above q p m n above (written m n p v w there holds.3).0 (there_below q p m v above (sym there))
