use Rattle.std.specs.Map.{values_of}
use Rattle.std.proofs.Common.{◌∙◌, ap, sym, subst, List, ℕ, ◌≡◌, ◌++◌, inl, inr, arith}
use Rattle.std.specs.Prelude.{Some}
use Rattle.quic_assembler.specs.Piece.{PieceView, run_end}
use Rattle.quic_ordered.specs.Entries.{piece_at}
use Rattle.quic_ordered.proofs.Stores.{map_of_store, held_stems, held_stay, same_store}
use Rattle.quic_ordered.proofs.Clear.{either, store_after, order_after, merges_after}
use Rattle.quic_ordered.proofs.Firsts.{on_ok}
use Rattle.quic_ordered.proofs.Joined.{held_joins}
use Rattle.quic_ordered.proofs.Order.{order_behind}
use Rattle.quic_ordered.proofs.Places.{encloses_row, enclosed_map, merges_enclosed}
use Rattle.quic_ordered.proofs.Fronts.{ok_or_err}
use Rattle.quic_ordered.proofs.Between.{is_put, none_encloses_place}
use Rattle.quic_ordered.proofs.store.PieceStore.hold_between.Goals as goal

pub hold-requires-clause-apart : goal.hold-requires-clause-apart
hold-requires-clause-apart c = map_of_store _ _ c.in_ok-clear_way.ensures.store

pub invariant_of-self-2 : goal.invariant_of-self-2
invariant_of-self-2 c =
    store_after c.hold.result _ _ _ c.args.piece c.in_ok-clear_way.ensures.store (rw c.end-2.ensures.value at c.in_ok-clear_way.ensures.clear) c.hold.ensures.takes c.hold.ensures.err c.hold.ensures.apart c.hold.ensures.rises

pub returns-clause-merges : goal.returns-clause-merges
returns-clause-merges c =
    rw (← c.self.view_is, ← c.in_ok-clear_way.ensures.same)
    (merges_after c.hold.result c.clear_way.new.gaps c.hold.new.pieces c.clear_way.new.row.runs c.args.piece c.in_ok-clear_way.ensures.store (rw c.end-2.ensures.value at c.in_ok-clear_way.ensures.clear) c.hold.ensures.takes c.hold.ensures.apart c.hold.ensures.rises)

pub returns-clause-order : goal.returns-clause-order
returns-clause-order c =
    rw (← c.self.view_is, ← c.in_ok-clear_way.ensures.same)
    (λ low le h. order_after c.hold.result low c.clear_way.new.gaps c.hold.new.pieces c.clear_way.new.row.runs c.args.piece c.in_ok-clear_way.ensures.store (rw c.end-2.ensures.value at c.in_ok-clear_way.ensures.clear) c.hold.ensures.takes c.hold.ensures.err c.hold.ensures.apart c.hold.ensures.rises le h)

pub returns-clause-stems : goal.returns-clause-stems
returns-clause-stems c =
    rw (← c.self.view_is, ← c.in_ok-clear_way.ensures.same) (on_ok c.hold.result c.hold.ensures.stems (λ s. held_stems c.clear_way.new.gaps c.hold.new.pieces c.clear_way.new.row.runs c.args.piece c.hold.ensures.rises s))

pub returns-clause-joined : goal.returns-clause-joined
returns-clause-joined c =
    rw (← c.self.view_is, ← c.in_ok-clear_way.ensures.same)
    (on_ok c.hold.result c.hold.ensures.joined (λ j. held_joins c.clear_way.new.gaps c.hold.new.pieces c.clear_way.new.row.runs c.args.piece c.in_ok-clear_way.ensures.store.rises (rw c.end-2.ensures.value at c.in_ok-clear_way.ensures.clear) j))

pub returns-clause-stays : goal.returns-clause-stays
returns-clause-stays c =
    rw (← c.self.view_is, ← c.in_ok-clear_way.ensures.same) (on_ok c.hold.result c.hold.ensures.stays (λ s. held_stay c.clear_way.new.gaps c.hold.new.pieces c.clear_way.new.row.runs c.args.piece c.in_ok-clear_way.ensures.store.rises s))

pub count_up_to-count-requires : goal.count_up_to-count-requires
count_up_to-count-requires c = order_behind 0 (values_of c.self.inside.gaps) c.self.inside.row.runs c.self.invariant.order

pub encloses-requires-clause-order : goal.encloses-requires-clause-order
encloses-requires-clause-order c = order_behind 0 (values_of c.self.inside.gaps) c.self.inside.row.runs c.self.invariant.order

pub returns-then-encloses-clause-merges : goal.returns-then-encloses-clause-merges
returns-then-encloses-clause-merges c =
    let any = rw (c.offset.ensures.value, c.end.ensures.value) at (c.encloses.ensures.yes c.if-encloses.true c.offset.result c.count_up_to-count.ensures) in
    rw (← c.self.view_is) (merges_enclosed _ c.args.piece (encloses_row c.self.inside.gaps c.self.inside.row.runs c.args.piece.offset (run_end c.args.piece) any))

pub returns-then-encloses-clause-joined : goal.returns-then-encloses-clause-joined
returns-then-encloses-clause-joined c =
    let any = rw (c.offset.ensures.value, c.end.ensures.value) at (c.encloses.ensures.yes c.if-encloses.true c.offset.result c.count_up_to-count.ensures) in
    rw (← c.self.view_is) (inr (inl (encloses_row c.self.inside.gaps c.self.inside.row.runs c.args.piece.offset (run_end c.args.piece) any)))

-- what lies within a piece of the map needs no memory
pub returns-in_err-clear_way-clause-within : goal.returns-in_err-clear_way-clause-within
returns-in_err-clear_way-clause-within c = λ any.
    let none = rw (c.offset.ensures.value, c.end.ensures.value) at (c.encloses.ensures.no c.if-encloses.false c.offset.result (omega (arith, c.offset.ensures.value, c.end.ensures.value, c.requires)) c.count_up_to-count.ensures) in
    let m = enclosed_map c.self.inside.gaps c.self.inside.row.runs c.args.piece.offset (run_end c.args.piece) c.self.invariant none (rw (← c.self.view_is) at any) in
    let k = c.clear_way.ensures.kept (rw (← c.end-2.ensures.value) at m.5) in
    absurd (ok_or_err c.clear_way.result _ _ k.0 c.in_err-clear_way.was)

pub returns-clause-within : goal.returns-clause-within
returns-clause-within c = λ any.
    let none = rw (c.offset.ensures.value, c.end.ensures.value) at (c.encloses.ensures.no c.if-encloses.false c.offset.result (omega (arith, c.offset.ensures.value, c.end.ensures.value, c.requires)) c.count_up_to-count.ensures) in
    let m = enclosed_map c.self.inside.gaps c.self.inside.row.runs c.args.piece.offset (run_end c.args.piece) c.self.invariant none (rw (← c.self.view_is) at any) in
    let k = c.clear_way.ensures.kept (rw (← c.end-2.ensures.value) at m.5) in
    let w = c.hold.ensures.within m.0 m.1 (subst (λ (es : List (ℕ × PieceView)). piece_at es m.0 ≡ Some m.1) (sym k.1) m.2) m.3 m.4 in
    (w.0, ap (λ (es : List (ℕ × PieceView)). values_of es ++ c.clear_way.new.row.runs) w.1 ∙ c.in_ok-clear_way.ensures.same ∙ c.self.view_is)

-- a piece that was put between those of the row
pub invariant_of-self : goal.invariant_of-self
invariant_of-self c =
    either c.put_at.result c.put_at.ensures.ok c.put_at.ensures.err
    (λ e.
    let put = is_put (values_of c.self.inside.gaps) c.self.inside.row.runs c.put_at.new.self.runs c.in-Some.index c.args.piece c.in-Some.ensures.before c.in-Some.ensures.behind c.requires e in
    record { rises = c.self.invariant.rises; keyed = c.self.invariant.keyed; order = put.order 0 (omega arith) c.self.invariant.order })
    (λ e. same_store c.self.inside.gaps _ _ e c.self.invariant)

pub returns-in-Some-clause-merges : goal.returns-in-Some-clause-merges
returns-in-Some-clause-merges c =
    rw (← c.self.view_is) (on_ok c.put_at.result c.put_at.ensures.ok (λ e. (is_put (values_of c.self.inside.gaps) c.self.inside.row.runs c.put_at.new.self.runs c.in-Some.index c.args.piece c.in-Some.ensures.before c.in-Some.ensures.behind c.requires e).merges))

pub returns-in-Some-clause-stems : goal.returns-in-Some-clause-stems
returns-in-Some-clause-stems c =
    rw (← c.self.view_is) (on_ok c.put_at.result c.put_at.ensures.ok (λ e. (is_put (values_of c.self.inside.gaps) c.self.inside.row.runs c.put_at.new.self.runs c.in-Some.index c.args.piece c.in-Some.ensures.before c.in-Some.ensures.behind c.requires e).stems))

pub returns-in-Some-clause-joined : goal.returns-in-Some-clause-joined
returns-in-Some-clause-joined c =
    rw (← c.self.view_is) (on_ok c.put_at.result c.put_at.ensures.ok (λ e. (is_put (values_of c.self.inside.gaps) c.self.inside.row.runs c.put_at.new.self.runs c.in-Some.index c.args.piece c.in-Some.ensures.before c.in-Some.ensures.behind c.requires e).joins))

pub returns-in-Some-clause-stays : goal.returns-in-Some-clause-stays
returns-in-Some-clause-stays c =
    rw (← c.self.view_is) (on_ok c.put_at.result c.put_at.ensures.ok (λ e. (is_put (values_of c.self.inside.gaps) c.self.inside.row.runs c.put_at.new.self.runs c.in-Some.index c.args.piece c.in-Some.ensures.before c.in-Some.ensures.behind c.requires e).stay))

pub returns-in-Some-clause-order : goal.returns-in-Some-clause-order
returns-in-Some-clause-order c =
    rw (← c.self.view_is)
    (λ low le h. either c.put_at.result c.put_at.ensures.ok c.put_at.ensures.err
    (λ e. (is_put (values_of c.self.inside.gaps) c.self.inside.row.runs c.put_at.new.self.runs c.in-Some.index c.args.piece c.in-Some.ensures.before c.in-Some.ensures.behind c.requires e).order low le h)
    (λ e. rw e h))

pub returns-in-Some-clause-pieces : goal.returns-in-Some-clause-pieces
returns-in-Some-clause-pieces c =
    rw (← c.self.view_is)
    (either c.put_at.result c.put_at.ensures.ok c.put_at.ensures.err
    (λ e. (is_put (values_of c.self.inside.gaps) c.self.inside.row.runs c.put_at.new.self.runs c.in-Some.index c.args.piece c.in-Some.ensures.before c.in-Some.ensures.behind c.requires e).pieces)
    (λ e. rw e (omega arith)))

pub returns-in-Some-clause-within : goal.returns-in-Some-clause-within
returns-in-Some-clause-within c = λ any.
    absurd (none_encloses_place (values_of c.self.inside.gaps) c.self.inside.row.runs c.in-Some.index c.args.piece c.in-Some.ensures.before c.in-Some.ensures.behind c.requires (rw (← c.self.view_is) at any))
