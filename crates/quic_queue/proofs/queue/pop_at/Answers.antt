use Rattle.std.proofs.Common.{sym, ap, ◌∙◌}
use Rattle.std.proofs.lemmas.Int.{to_z-of_z}
use Rattle.quic_queue.specs.Levels.{entries_of}
use Rattle.quic_queue.proofs.Lines.{entries_of-pop, first_found, first_priority, first_has_ids}
use Rattle.quic_queue.proofs.Changes.{has_room, room_after, written}
use Rattle.quic_queue.proofs.Tops.{still_above, there_below}
use Rattle.quic_queue.proofs.queue.pop_at.Goals as goal

pub unreachable-requires : goal.unreachable-requires
unreachable-requires c =
    let fits = c.ranges.priority in
    let m = c.args.levels.now in
    let p = c.args.priority in
    let none = simp to_z-of_z at c.in-None.ensures.value in
    let first = first_priority m.entries p c.requires in
    let found = first_found m.entries first.0 c.get_mut.ensures.ordered first.1 in
    let there = rw first.2 at found.1 in
    cc

pub returns-clause-shown : goal.returns-clause-shown
returns-clause-shown c =
    let fits = c.ranges.priority in
    let m = c.args.levels.now in
    let p = c.args.priority in
    let v = c.in-Some.ids.now in
    let w = c.pop_front.new.self in
    let n = c.get_mut.follows.lender w in
    let there = simp to_z-of_z at c.in-Some.ensures.value in
    let holds = simp to_z-of_z at (c.get_mut.follows.holds w) in
    let first = first_priority m.entries p c.requires in
    ap entries_of holds.0 ∙ entries_of-pop p m.entries first.0 v w c.get_mut.ensures.ordered first.1 first.2 (sym there) c.pop_front.ensures.rest

pub returns-clause-others : goal.returns-clause-others
returns-clause-others c =
    let fits = c.ranges.priority in
    let m = c.args.levels.now in
    let p = c.args.priority in
    let v = c.in-Some.ids.now in
    let w = c.pop_front.new.self in
    let n = c.get_mut.follows.lender w in
    let there = simp to_z-of_z at c.in-Some.ensures.value in
    let holds = simp to_z-of_z at (c.get_mut.follows.holds w) in
    (written m n p v w there holds.3).0

pub returns-clause-room : goal.returns-clause-room
returns-clause-room c =
    let fits = c.ranges.priority in
    let m = c.args.levels.now in
    let p = c.args.priority in
    let v = c.in-Some.ids.now in
    let w = c.pop_front.new.self in
    let n = c.get_mut.follows.lender w in
    let there = simp to_z-of_z at c.in-Some.ensures.value in
    let holds = simp to_z-of_z at (c.get_mut.follows.holds w) in
    let some = first_has_ids m.entries p v c.get_mut.ensures.ordered c.requires (sym there) in
    has_room n p w (written m n p v w there holds.3).1 (room_after v w some c.pop_front.ensures.rest c.pop_front.ensures.capacity)

pub returns-clause-above : goal.returns-clause-above
returns-clause-above c = λ q above.
    let fits = c.ranges.priority in
    let m = c.args.levels.now in
    let p = c.args.priority in
    let v = c.in-Some.ids.now in
    let w = c.pop_front.new.self in
    let n = c.get_mut.follows.lender w in
    let there = simp to_z-of_z at c.in-Some.ensures.value in
    let holds = simp to_z-of_z at (c.get_mut.follows.holds w) in
    still_above q p m n above (written m n p v w there holds.3).0 (there_below q p m v above (sym there))
