use Rattle.std.proofs.lemmas.Int.{to_z-of_z}
use Rattle.quic_queue.specs.Levels.{IsFilled, KeepsRoomAtOthers}
use Rattle.quic_queue.proofs.Changes.{on_err_with}
use Rattle.quic_queue.proofs.queue.make_other_room.Goals as goal

pub returns-clause-err : goal.returns-clause-err
returns-clause-err c =
    let fits = c.ranges.priority in
    let p = c.args.priority in
    let top = c.args.top.now in
    let m = c.args.lower.now in
    let n = c.make_room_at.new.levels in
    let others = simp to_z-of_z at c.make_room_at.ensures.others in
    let err = simp to_z-of_z at c.make_room_at.ensures.err in
    let keeps : KeepsRoomAtOthers top m p top n = λ other apart room. record { top_room = room.top_room; lower_room = λ ne. rw (others other apart) (room.lower_room ne) } in
    on_err_with (IsFilled m p → IsFilled n p) (KeepsRoomAtOthers top m p top n) c.make_room_at.result err keeps

pub returns-clause-unneeded : goal.returns-clause-unneeded
returns-clause-unneeded c = λ room.
    let fits = c.ranges.priority in
    let unneeded = simp to_z-of_z at c.make_room_at.ensures.unneeded in
    unneeded (room.lower_room c.requires.apart)
