use Rattle.std.proofs.Common.{arith, sym, ap, ◌∙◌, Some}
use Rattle.std.specs.BTreeMap.{insert_entry}
use Rattle.std.proofs.lemmas.Int.{to_z-of_z}
use Rattle.quic_queue.specs.Levels.{Levels, falling, entries_of}
use Rattle.quic_queue.proofs.Lines.{entries_of-set_same, entries_of-insert}
use Rattle.quic_queue.proofs.Changes.{others_stay, has_room, room_there, no_room, filled_still, written, on_err}
use Rattle.quic_queue.proofs.queue.make_room_at.Goals as goal

pub returns-in_err-reserve-in-Some-clause-shown : goal.returns-in_err-reserve-in-Some-clause-shown
returns-in_err-reserve-in-Some-clause-shown c =
    let fits = c.ranges.priority in
    let m = c.args.levels.now in
    let p = c.args.priority in
    let v = c.in-Some.ids.now in
    let w = c.reserve.new.self in
    let n = c.get_mut.follows.lender w in
    let there = simp to_z-of_z at c.in-Some.ensures.value in
    let holds = simp to_z-of_z at (c.get_mut.follows.holds w) in
    ap entries_of holds.0 ∙ entries_of-set_same p m.entries v w (sym there) c.reserve.ensures.items

pub returns-in_err-reserve-in-Some-clause-others : goal.returns-in_err-reserve-in-Some-clause-others
returns-in_err-reserve-in-Some-clause-others c =
    let fits = c.ranges.priority in
    let m = c.args.levels.now in
    let p = c.args.priority in
    let v = c.in-Some.ids.now in
    let w = c.reserve.new.self in
    let n = c.get_mut.follows.lender w in
    let there = simp to_z-of_z at c.in-Some.ensures.value in
    let holds = simp to_z-of_z at (c.get_mut.follows.holds w) in
    (written m n p v w there holds.3).0

pub returns-in_ok-reserve-in-Some-clause-shown : goal.returns-in_ok-reserve-in-Some-clause-shown
returns-in_ok-reserve-in-Some-clause-shown c =
    let fits = c.ranges.priority in
    let m = c.args.levels.now in
    let p = c.args.priority in
    let v = c.in-Some.ids.now in
    let w = c.reserve.new.self in
    let n = c.get_mut.follows.lender w in
    let there = simp to_z-of_z at c.in-Some.ensures.value in
    let holds = simp to_z-of_z at (c.get_mut.follows.holds w) in
    ap entries_of holds.0 ∙ entries_of-set_same p m.entries v w (sym there) c.reserve.ensures.items

pub returns-in_ok-reserve-in-Some-clause-others : goal.returns-in_ok-reserve-in-Some-clause-others
returns-in_ok-reserve-in-Some-clause-others c =
    let fits = c.ranges.priority in
    let m = c.args.levels.now in
    let p = c.args.priority in
    let v = c.in-Some.ids.now in
    let w = c.reserve.new.self in
    let n = c.get_mut.follows.lender w in
    let there = simp to_z-of_z at c.in-Some.ensures.value in
    let holds = simp to_z-of_z at (c.get_mut.follows.holds w) in
    (written m n p v w there holds.3).0

pub returns-in_err-reserve-in-Some-clause-err : goal.returns-in_err-reserve-in-Some-clause-err
returns-in_err-reserve-in-Some-clause-err c =
    let fits = c.ranges.priority in
    let m = c.args.levels.now in
    let p = c.args.priority in
    let v = c.in-Some.ids.now in
    let w = c.reserve.new.self in
    let n = c.get_mut.follows.lender w in
    let there = simp to_z-of_z at c.in-Some.ensures.value in
    let holds = simp to_z-of_z at (c.get_mut.follows.holds w) in
    on_err _ (filled_still m n p v w there (written m n p v w there holds.3).1 c.reserve.ensures.len)

pub returns-in_err-reserve-in-Some-clause-unneeded : goal.returns-in_err-reserve-in-Some-clause-unneeded
returns-in_err-reserve-in-Some-clause-unneeded c = λ room.
    let fits = c.ranges.priority in
    let m = c.args.levels.now in
    let p = c.args.priority in
    let there = simp to_z-of_z at c.in-Some.ensures.value in
    let less = room_there m p c.in-Some.ids.now (sym there) room in
    let full = c.in_err-reserve-in-Some.ensures.full in
    absurd (omega (arith, less, full))

pub returns-in_err-ids-in-None-clause-unneeded : goal.returns-in_err-ids-in-None-clause-unneeded
returns-in_err-ids-in-None-clause-unneeded c = λ room.
    let fits = c.ranges.priority in
    let m = c.args.levels.now in
    let p = c.args.priority in
    let none = simp to_z-of_z at c.in-None.ensures.value in
    absurd (no_room m p (sym none) room)

pub returns-in_err-insert-in-None-clause-unneeded : goal.returns-in_err-insert-in-None-clause-unneeded
returns-in_err-insert-in-None-clause-unneeded c = λ room.
    let fits = c.ranges.priority in
    let m = c.args.levels.now in
    let p = c.args.priority in
    let none = simp to_z-of_z at c.in-None.ensures.value in
    absurd (no_room m p (sym none) room)

pub returns-in_ok-reserve-in-Some-clause-ok : goal.returns-in_ok-reserve-in-Some-clause-ok
returns-in_ok-reserve-in-Some-clause-ok c =
    let fits = c.ranges.priority in
    let m = c.args.levels.now in
    let p = c.args.priority in
    let v = c.in-Some.ids.now in
    let w = c.reserve.new.self in
    let n = c.get_mut.follows.lender w in
    let there = simp to_z-of_z at c.in-Some.ensures.value in
    let holds = simp to_z-of_z at (c.get_mut.follows.holds w) in
    has_room n p w (written m n p v w there holds.3).1 (omega (arith, c.in_ok-reserve-in-Some.ensures.ok))

pub returns-in_ok-insert-in-None-clause-shown : goal.returns-in_ok-insert-in-None-clause-shown
returns-in_ok-insert-in-None-clause-shown c =
    let fits = c.ranges.priority in
    let m = c.args.levels.now in
    let p = c.args.priority in
    let none = simp to_z-of_z at c.in-None.ensures.value in
    let w = c.in_ok-ids-in-None.ids in
    let entries = simp to_z-of_z at c.in_ok-insert-in-None.ensures.entries in
    let same = c.get_mut.follows.holds-at-none in
    ap entries_of entries ∙ ap (λ (k : Levels). entries_of (insert_entry falling k.entries (record { 0 = p }) w)) same ∙ entries_of-insert p m.entries w (sym none) c.in_ok-ids-in-None.ensures.items

pub returns-in_ok-insert-in-None-clause-others : goal.returns-in_ok-insert-in-None-clause-others
returns-in_ok-insert-in-None-clause-others c =
    let fits = c.ranges.priority in
    let m = c.args.levels.now in
    let p = c.args.priority in
    let w = c.in_ok-ids-in-None.ids in
    let n = c.insert.new.self in
    let updates = simp to_z-of_z at c.in_ok-insert-in-None.ensures.updates in
    let same = c.get_mut.follows.holds-at-none in
    rw same at (others_stay c.get_mut.follows.lender-at-none n p (Some w) updates)

pub returns-in_ok-insert-in-None-clause-ok : goal.returns-in_ok-insert-in-None-clause-ok
returns-in_ok-insert-in-None-clause-ok c =
    let fits = c.ranges.priority in
    let m = c.args.levels.now in
    let p = c.args.priority in
    let w = c.in_ok-ids-in-None.ids in
    let n = c.insert.new.self in
    let updates = simp to_z-of_z at c.in_ok-insert-in-None.ensures.updates in
    has_room n p w updates.1 (omega (arith, c.in_ok-ids-in-None.ensures.len, c.in_ok-ids-in-None.ensures.capacity))
