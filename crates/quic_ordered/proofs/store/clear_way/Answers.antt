use Rattle.std.proofs.Common.{arith, ◌∙◌, sym, subst, List, ◌∷◌, ◌++◌}
use Rattle.std.specs.Map.{values_of}
use Rattle.quic_assembler.specs.Piece.{PieceView}
use Rattle.quic_ordered.specs.Rows.{LieInOrder}
use Rattle.quic_ordered.proofs.Order.{keys_below, order_behind}
use Rattle.quic_ordered.proofs.Stores.{moved, moved_same}
use Rattle.quic_ordered.proofs.store.clear_way.Goals as goal

pub put_last-requires : goal.put_last-requires
put_last-requires c =
    let e = rw c.in-Some-pop_front.is at c.pop_front.ensures.popped in
    let s = c.loop-offset.invariant.store in
    keys_below c.loop-offset.gaps c.pop_front.new.self.runs c.in-Some-pop_front.piece 0 s.keyed (subst (λ (xs : List PieceView). LieInOrder 0 (values_of c.loop-offset.gaps ++ xs)) e s.order)

pub loop-offset-preserved : goal.loop-offset-preserved
loop-offset-preserved c =
    let e = rw c.in-Some-pop_front.is at c.pop_front.ensures.popped in
    record {
      store = moved _ _ _ _ c.in-Some-pop_front.piece c.loop-offset.invariant.store e c.in_default-put_last.ensures.put c.in_default-put_last.ensures.rises;
      same = moved_same c.loop-offset.gaps c.put_last.new.self c.loop-offset.row.runs c.pop_front.new.self.runs c.in-Some-pop_front.piece e c.in_default-put_last.ensures.put ∙ c.loop-offset.invariant.same;
      kept = λ o.
          let k = c.loop-offset.invariant.kept o in
          let f = c.in-Some.ensures.some in
          let a = subst (LieInOrder c.args.end) (sym k.1 ∙ f.2) o in
          absurd (omega (arith, a.0, c.if-offset-end.false, f.3));
    }

pub returns-then-offset-end-clause-clear : goal.returns-then-offset-end-clause-clear
returns-then-offset-end-clause-clear c =
    let f = c.in-Some.ensures.some in
    let s = c.loop-offset.invariant.store in
    let h = order_behind 0 (values_of c.loop-offset.gaps) (f.0 ∷ f.1) (subst (λ (xs : List PieceView). LieInOrder 0 (values_of c.loop-offset.gaps ++ xs)) f.2 s.order) in
    rw f.2 (omega (arith, f.3), h.1, h.2)
