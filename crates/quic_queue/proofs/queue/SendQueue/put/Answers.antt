use Rattle.std.proofs.Common.{rules, ◌≡◌, w32, to_z, of_z, List, None, refl, sym, ap, ◌∙◌}
use Rattle.std.proofs.lemmas.Int.{to_z-of_z}
use Rattle.quic_queue.specs.declared.queue.Entry.{Entry}
use Rattle.quic_queue.specs.SendOrder.{SendOrder, put}
use Rattle.quic_queue.specs.Levels.{waiting_of}
use Rattle.quic_queue.proofs.Tops.{top_push, lower_push, room_below}
use Rattle.quic_queue.proofs.queue.SendQueue.put.Goals as goal

pub push_back_reserved-requires : goal.push_back_reserved-requires
push_back_reserved-requires c =
    let p = c.args.priority in
    let tp = c.self.inside.top.priority in
    let whole : to_z w32 (of_z w32 tp) ≡ tp = search rules in
    let is : p ≡ tp = sym (to_z-of_z w32 p c.ranges.priority) ∙ ap (to_z w32) c.if-priority-self.true ∙ whole in
    (c.self.invariant.room p (ap (λ (q : SendOrder). q.reserved) c.self.view_is ∙ c.requires)).top_room is

pub push_at-requires : goal.push_at-requires
push_at-requires c =
    let p = c.args.priority in
    rw (to_z-of_z w32 p c.ranges.priority)
    ((c.self.invariant.room p (ap (λ (q : SendOrder). q.reserved) c.self.view_is ∙ c.requires)).lower_room (λ is. c.if-priority-self.false (ap (of_z w32) is)))

pub returns-then-priority-self : goal.returns-then-priority-self
returns-then-priority-self c =
    let a = c.self.inside in
    let p = c.args.priority in
    let tp = a.top.priority in
    let whole : to_z w32 (of_z w32 tp) ≡ tp = search rules in
    let is : p ≡ tp = sym (to_z-of_z w32 p c.ranges.priority) ∙ ap (to_z w32) c.if-priority-self.true ∙ whole in
    let chain : waiting_of (record { priority = tp; ids = c.push_back_reserved.new.self }) a.lower ≡ put (waiting_of a.top a.lower) (record { priority = p; id = c.args.id }) =
    top_push a.top (record { priority = tp; ids = c.push_back_reserved.new.self }) a.lower c.args.id c.self.invariant.above refl c.push_back_reserved.ensures.items
    ∙ ap (λ k. put (waiting_of a.top a.lower) (record { priority = k; id = c.args.id })) (sym is) in
    rw (← c.self.view_is) (ap (λ (l : List Entry). record { waiting = l; kept = a.kept; reserved = None }) chain)

pub returns : goal.returns
returns c =
    let fits = c.ranges.priority in
    let a = c.self.inside in
    let p = c.args.priority in
    let n = c.push_at.new.levels in
    let shown = simp to_z-of_z at c.push_at.ensures.shown in
    let room = (c.self.invariant.room p (ap (λ (q : SendOrder). q.reserved) c.self.view_is ∙ c.requires)).lower_room (λ is. c.if-priority-self.false (ap (of_z w32) is)) in
    let chain = lower_push a.top a.lower n p c.args.id (room_below a.top.priority p a.lower c.self.invariant.above room) shown in
    rw (← c.self.view_is) (ap (λ (l : List Entry). record { waiting = l; kept = a.kept; reserved = None }) chain)
