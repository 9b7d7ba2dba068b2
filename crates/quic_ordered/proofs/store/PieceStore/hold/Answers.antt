use Rattle.std.specs.Map.{values_of}
use Rattle.std.proofs.Common.{◌∙◌, ap, List, ℕ, ◌++◌}
use Rattle.quic_assembler.specs.Piece.{PieceView}
use Rattle.quic_ordered.proofs.Clear.{either, enclosed_clear, store_after, order_after, merges_after}
use Rattle.quic_ordered.proofs.Firsts.{on_ok}
use Rattle.quic_ordered.proofs.Joined.{pushed_joins, held_joins}
use Rattle.quic_ordered.proofs.Stores.{pushed, pushed_merges, order_pushed, map_of_store, pushed_stems, held_stems, pushed_stay, held_stay, same_store}
use Rattle.quic_ordered.proofs.store.PieceStore.hold.Goals as goal

-- the piece goes into the map, and the row stays

pub hold-requires-clause-apart : goal.hold-requires-clause-apart
hold-requires-clause-apart c = map_of_store _ _ c.self.invariant

pub invariant_of-self : goal.invariant_of-self
invariant_of-self c =
    let clear = c.is_clear.ensures c.if-is_clear.true in
    store_after c.hold.result _ _ _ c.args.piece c.self.invariant clear c.hold.ensures.takes c.hold.ensures.err c.hold.ensures.apart c.hold.ensures.rises

pub returns-then-is_clear-clause-merges : goal.returns-then-is_clear-clause-merges
returns-then-is_clear-clause-merges c =
    let clear = c.is_clear.ensures c.if-is_clear.true in
    rw (← c.self.view_is) (merges_after c.hold.result c.self.inside.gaps c.hold.new.pieces c.self.inside.row.runs c.args.piece c.self.invariant clear c.hold.ensures.takes c.hold.ensures.apart c.hold.ensures.rises)

pub returns-then-is_clear-clause-stems : goal.returns-then-is_clear-clause-stems
returns-then-is_clear-clause-stems c =
    rw (← c.self.view_is) (on_ok c.hold.result c.hold.ensures.stems (λ s. held_stems c.self.inside.gaps c.hold.new.pieces c.self.inside.row.runs c.args.piece c.hold.ensures.rises s))

pub returns-then-is_clear-clause-joined : goal.returns-then-is_clear-clause-joined
returns-then-is_clear-clause-joined c =
    let clear = c.is_clear.ensures c.if-is_clear.true in
    rw (← c.self.view_is) (on_ok c.hold.result c.hold.ensures.joined (λ j. held_joins c.self.inside.gaps c.hold.new.pieces c.self.inside.row.runs c.args.piece c.self.invariant.rises clear j))

pub returns-then-is_clear-clause-stays : goal.returns-then-is_clear-clause-stays
returns-then-is_clear-clause-stays c =
    rw (← c.self.view_is) (on_ok c.hold.result c.hold.ensures.stays (λ s. held_stay c.self.inside.gaps c.hold.new.pieces c.self.inside.row.runs c.args.piece c.self.invariant.rises s))

pub returns-then-is_clear-clause-order : goal.returns-then-is_clear-clause-order
returns-then-is_clear-clause-order c =
    let clear = c.is_clear.ensures c.if-is_clear.true in
    rw (← c.self.view_is)
    (λ low le h. order_after c.hold.result low c.self.inside.gaps c.hold.new.pieces c.self.inside.row.runs c.args.piece c.self.invariant clear c.hold.ensures.takes c.hold.ensures.err c.hold.ensures.apart c.hold.ensures.rises le h)

pub returns-then-is_clear-clause-within : goal.returns-then-is_clear-clause-within
returns-then-is_clear-clause-within c = λ any.
    let clear = c.is_clear.ensures c.if-is_clear.true in
    let m = enclosed_clear c.self.inside.gaps c.self.inside.row.runs c.args.piece c.self.invariant clear c.requires (rw (← c.self.view_is) at any) in
    let w = c.hold.ensures.within m.0 m.1 m.2 m.3 m.4 in
    (w.0, ap (λ (es : List (ℕ × PieceView)). values_of es ++ c.self.inside.row.runs) w.1 ∙ c.self.view_is)

-- the piece goes to the end of the row

pub invariant_of-self-then-is_behind : goal.invariant_of-self-then-is_behind
invariant_of-self-then-is_behind c =
    let ends = rw (← c.self.view_is, c.offset.ensures.value) at (c.is_behind.ensures c.if-is_behind.true) in
    either c.push_back.result c.push_back.ensures.ok c.push_back.ensures.err
    (λ e. pushed c.self.inside.gaps _ _ c.args.piece c.self.invariant ends c.requires e)
    (λ e. same_store c.self.inside.gaps _ _ e c.self.invariant)

pub returns-then-is_behind-clause-merges : goal.returns-then-is_behind-clause-merges
returns-then-is_behind-clause-merges c = rw (← c.self.view_is) (on_ok c.push_back.result c.push_back.ensures.ok (λ e. pushed_merges (values_of c.self.inside.gaps) _ _ c.args.piece e))

pub returns-then-is_behind-clause-stems : goal.returns-then-is_behind-clause-stems
returns-then-is_behind-clause-stems c = rw (← c.self.view_is) (on_ok c.push_back.result c.push_back.ensures.ok (λ e. pushed_stems (values_of c.self.inside.gaps) _ _ c.args.piece e))

pub returns-then-is_behind-clause-joined : goal.returns-then-is_behind-clause-joined
returns-then-is_behind-clause-joined c =
    let ends = rw (← c.self.view_is, c.offset.ensures.value) at (c.is_behind.ensures c.if-is_behind.true) in
    rw (← c.self.view_is) (on_ok c.push_back.result c.push_back.ensures.ok (λ e. pushed_joins (values_of c.self.inside.gaps) _ _ c.args.piece e ends))

pub returns-then-is_behind-clause-stays : goal.returns-then-is_behind-clause-stays
returns-then-is_behind-clause-stays c = rw (← c.self.view_is) (on_ok c.push_back.result c.push_back.ensures.ok (λ e. pushed_stay (values_of c.self.inside.gaps) _ _ c.args.piece e))

pub returns-then-is_behind-clause-order : goal.returns-then-is_behind-clause-order
returns-then-is_behind-clause-order c =
    let ends = rw (← c.self.view_is, c.offset.ensures.value) at (c.is_behind.ensures c.if-is_behind.true) in
    rw (← c.self.view_is)
    (λ low le h. either c.push_back.result c.push_back.ensures.ok c.push_back.ensures.err
    (λ e. order_pushed low (values_of c.self.inside.gaps) _ _ c.args.piece h ends le c.requires e)
    (λ e. rw e h))
