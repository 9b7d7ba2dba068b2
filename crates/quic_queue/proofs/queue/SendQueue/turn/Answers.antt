use Rattle.std.proofs.Common.{◌≡◌, ◌∙◌, List, drop, sym, ap, refl, None, Some}
use Rattle.std.specs.Prelude.{slice_get}
use Rattle.quic_queue.specs.declared.queue.Entry.{Entry}
use Rattle.quic_queue.specs.SendOrder.{SendOrder, put}
use Rattle.quic_queue.specs.Levels.{waiting_of}
use Rattle.quic_queue.proofs.Changes.{some_taken}
use Rattle.quic_queue.proofs.Tops.{top_push, top_pop, top_first}
use Rattle.quic_queue.proofs.queue.SendQueue.turn.Goals as goal

pub returns : goal.returns
returns c =
    let a = c.self.inside in
    let s = c.args.self.now in
    let e = c.args.entry in
    let tp = a.top.priority in
    let v = a.top.ids in
    let u = c.pop_front.new.self in
    let w = c.push_back_reserved.new.self in
    let is = c.self.view_is ∙ c.release.ensures in
    let waits : waiting_of a.top a.lower ≡ s.waiting = ap (λ (q : SendOrder). q.waiting) is in
    let kept : a.kept ≡ None = ap (λ (q : SendOrder). q.kept) is ∙ c.requires.none_kept in
    let reserved : a.reserved ≡ None = ap (λ (q : SendOrder). q.reserved) is in
    let some = some_taken c.pop_front.result v.items u.items c.pop_front.ensures.items c.if-is_none.ensures in
    let first : slice_get (waiting_of a.top a.lower) 0 ≡ Some e = rw waits (rw c.requires.none_kept at c.requires.is_first) in
    let same : e.priority ≡ tp = top_first tp v a.lower e some first in
    let chain : waiting_of (record { priority = tp; ids = w }) a.lower ≡ put (drop 1 s.waiting) e =
    top_push (record { priority = tp; ids = u }) (record { priority = tp; ids = w }) a.lower e.id c.self.invariant.above refl c.push_back_reserved.ensures.items
    ∙ ap (λ l. put l (record { priority = tp; id = e.id })) (top_pop tp v u a.lower some c.pop_front.ensures.rest ∙ ap (drop 1) waits)
    ∙ ap (λ p. put (drop 1 s.waiting) (record { priority = p; id = e.id })) (sym same) in
    rw (c.requires.none_kept, kept, reserved) (ap (λ (l : List Entry). record { waiting = l; kept = None; reserved = None }) chain)
