use Rattle.std.proofs.Common.{rules, ◌≡◌, Some, ap, w32, to_z, of_z}
use Rattle.std.proofs.lemmas.Int.{to_z-of_z}
use Rattle.quic_queue.specs.Levels.{AreLevels}
use Rattle.quic_queue.proofs.Tops.{refused_room, made_room}
use Rattle.quic_queue.proofs.queue.SendQueue.reserve.Goals as goal

pub invariant_of-self : goal.invariant_of-self
invariant_of-self c =
    let fits = c.ranges.priority in
    let a = c.self.inside in
    let p = c.args.priority in
    let h = simp to_z-of_z at c.in_err-make_room.ensures in
    refused_room a.top c.make_room.new.top a.lower c.make_room.new.lower p a.reserved c.self.invariant h.above h.err h.filled
    (λ e. let k = h.unneeded (c.self.invariant.room p e) in cc)

pub invariant_of-self-then-former-priority : goal.invariant_of-self-then-former-priority
invariant_of-self-then-former-priority c =
    let fits = c.ranges.priority in
    let a = c.self.inside in
    let p = c.args.priority in
    let f = c.in-Some.former in
    let whole : to_z w32 (of_z w32 f) ≡ f = search rules in
    let h = simp to_z-of_z at c.in_ok-make_room.ensures in
    let after = simp to_z-of_z at c.replace.ensures.after in
    let others = rw whole at c.drop_if_empty.ensures.others in
    let gone = rw whole at c.drop_if_empty.ensures.filled in
    let inv : AreLevels a.top a.lower (Some f) = rw c.in-Some.ensures.value c.self.invariant in
    rw after
    (made_room a.top c.make_room.new.top a.lower c.make_room.new.lower c.drop_if_empty.new.levels p f inv h.above h.ok h.filled others c.drop_if_empty.ensures.above gone
    (λ e. c.if-former-priority.true (ap (of_z w32) e)))
