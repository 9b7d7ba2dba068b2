use Rattle.std.proofs.Common.{◌∙◌, arith, sym}
use Rattle.std.proofs.lemmas.Int.{to_z-of_z}
use Rattle.quic_queue.proofs.Changes.{fewer_after, is_another, is_that}
use Rattle.quic_queue.proofs.Tops.{served_top, served_lower, both_others}
use Rattle.quic_queue.proofs.queue.SendQueue.take_at.Goals as goal

pub invariant_of-self : goal.invariant_of-self
invariant_of-self c =
    let a = c.self.inside in
    served_top a.top.priority a.top.ids c.pop_front.new.self a.lower a.reserved c.self.invariant (fewer_after a.top.ids c.pop_front.new.self c.pop_front.ensures.rest) (omega (arith, c.pop_front.ensures.capacity))

pub invariant_of-self-then-ne : goal.invariant_of-self-then-ne
invariant_of-self-then-ne c =
    let fits = c.ranges.priority in
    let a = c.self.inside in
    let p = c.args.priority in
    let n = c.pop_at.new.levels in
    let o = c.drop_if_empty.new.levels in
    let first = simp to_z-of_z at c.pop_at.ensures.others in
    let then = simp to_z-of_z at c.drop_if_empty.ensures.others in
    let other = simp to_z-of_z at (sym c.if-ne.true ∙ c.ne.ensures) in
    let filled = simp to_z-of_z at c.drop_if_empty.ensures.filled in
    served_lower _ a.lower o p a.reserved (served_top a.top.priority a.top.ids c.pop_front.new.self a.lower a.reserved c.self.invariant (fewer_after a.top.ids c.pop_front.new.self c.pop_front.ensures.rest) (omega (arith, c.pop_front.ensures.capacity)))
    (both_others a.lower n o p first then) (λ q above. c.drop_if_empty.ensures.above q (c.pop_at.ensures.above q above)) (λ e. absurd (is_another a.reserved p other e)) (λ ne. filled)

pub invariant_of-self-else-ne : goal.invariant_of-self-else-ne
invariant_of-self-else-ne c =
    let fits = c.ranges.priority in
    let a = c.self.inside in
    let p = c.args.priority in
    let n = c.pop_at.new.levels in
    let first = simp to_z-of_z at c.pop_at.ensures.others in
    let that = simp to_z-of_z at (sym c.if-ne.false ∙ c.ne.ensures) in
    let room = simp to_z-of_z at c.pop_at.ensures.room in
    served_lower _ a.lower n p a.reserved (served_top a.top.priority a.top.ids c.pop_front.new.self a.lower a.reserved c.self.invariant (fewer_after a.top.ids c.pop_front.new.self c.pop_front.ensures.rest) (omega (arith, c.pop_front.ensures.capacity)))
    first c.pop_at.ensures.above (λ e. room) (λ ne. absurd (ne (is_that a.reserved p that)))
