use Rattle.std.proofs.Common.{arith, ◌∙◌, ap, sym, subst, ◌+◌, List, ◌++◌, length, option_to_list, inl, inr}
use Rattle.std.specs.List.{Any, All}
use Rattle.quic_assembler.specs.Piece.{PieceView}
use Rattle.quic_assembler.proofs.Counts.{Any-append}
use Rattle.quic_ordered.specs.Entries.{piece_of}
use Rattle.quic_ordered.specs.Rows.{LieInOrder, Merges, StemsFrom, StaysApart, Encloses, JoinsAll}
use Rattle.quic_ordered.proofs.Firsts.{on_ok}
use Rattle.quic_ordered.proofs.Fronts.{front_merges, front_stems, front_stays, front_order, front_clear, ok_or_err}
use Rattle.quic_ordered.proofs.Joined.{front_joins}
use Rattle.quic_ordered.proofs.Places.{merges_enclosed, merges_empty, any_front}
use Rattle.quic_ordered.proofs.pieces.OrderedPieces.insert.Goals as goal
use Rattle.quic_ordered.proofs.pieces.OrderedPieces.insert.Goals.{then-end-offset-via-then-end-offset, then-end-offset-via-else-end-offset+then-has_all}

pub returns-then-end-offset-clause-merges : goal.returns-then-end-offset-clause-merges
returns-then-end-offset-clause-merges c =
    elim c.then-end-offset.branch [
      | then-end-offset-via-then-end-offset w ↦ merges_empty _ _ (omega (arith, w.if-end-offset.true, c.len.ensures))
      | then-end-offset-via-else-end-offset+then-has_all w ↦
          rw (← c.self.view_is)
          (merges_enclosed _ (piece_of c.args.offset c.args.bytes c.args.allocation_size) (any_front (Encloses c.args.offset (c.args.offset + length c.args.bytes)) (option_to_list c.self.inside.first) c.self.inside.rest (rw c.len.ensures at (w.has_all.ensures.yes w.if-has_all.true))))
    ]

-- where a piece has all, nothing has to make way
pub returns-in_err-make_way-clause-within : goal.returns-in_err-make_way-clause-within
returns-in_err-make_way-clause-within c = λ any.
    let P = Encloses c.args.offset (c.args.offset + length c.args.bytes) in
    elim (Any-append P (option_to_list c.self.inside.first) c.self.inside.rest (rw (← c.self.view_is) at any)) [
      | inl f ↦ absurd (c.has_all.ensures.no c.if-has_all.false (rw (← c.len.ensures) at f))
      | inr r ↦
          let k = c.make_way.ensures.kept (front_clear 0 c.args.offset _ (option_to_list c.self.inside.first) c.self.inside.rest c.self.invariant r) in
          absurd (ok_or_err c.make_way.result _ _ k.0 c.in_err-make_way.was)
    ]

pub invariant_of-self-2 : goal.invariant_of-self-2
invariant_of-self-2 c =
    front_order 0 c.args.offset (option_to_list c.make_way.new.first) c.make_way.new.rest c.insert.new.self (subst (LieInOrder 0) (sym c.in_ok-make_way.ensures.same) c.self.invariant) (omega arith) c.in_ok-make_way.ensures.clear c.insert.ensures.order

pub returns-clause-merges : goal.returns-clause-merges
returns-clause-merges c =
    let fs = option_to_list c.make_way.new.first in
    let new = piece_of c.args.offset c.args.bytes c.args.allocation_size in
    let e = c.in_ok-make_way.ensures.same ∙ c.self.view_is in
    on_ok c.insert.result c.insert.ensures.merges (λ m. subst (λ (xs : List PieceView). Merges xs new (fs ++ c.insert.new.self)) e (front_merges fs c.make_way.new.rest c.insert.new.self new m))

pub returns-clause-stems : goal.returns-clause-stems
returns-clause-stems c =
    let fs = option_to_list c.make_way.new.first in
    let new = piece_of c.args.offset c.args.bytes c.args.allocation_size in
    let e = c.in_ok-make_way.ensures.same ∙ c.self.view_is in
    on_ok c.insert.result c.insert.ensures.stems (λ m. subst (λ (xs : List PieceView). All (StemsFrom xs new) (fs ++ c.insert.new.self)) e (front_stems fs c.make_way.new.rest c.insert.new.self new m))

pub returns-clause-joined : goal.returns-clause-joined
returns-clause-joined c =
    let fs = option_to_list c.make_way.new.first in
    let new = piece_of c.args.offset c.args.bytes c.args.allocation_size in
    let e = c.in_ok-make_way.ensures.same ∙ c.self.view_is in
    on_ok c.insert.result c.insert.ensures.joined (λ j some. subst (λ (xs : List PieceView). JoinsAll xs new (fs ++ c.insert.new.self)) e (front_joins fs c.make_way.new.rest c.insert.new.self new c.in_ok-make_way.ensures.clear (j some)))

pub returns-clause-stays : goal.returns-clause-stays
returns-clause-stays c =
    let fs = option_to_list c.make_way.new.first in
    let end = c.args.offset + length c.args.bytes in
    let e = c.in_ok-make_way.ensures.same ∙ c.self.view_is in
    on_ok c.insert.result c.insert.ensures.stays (λ m. subst (All (StaysApart c.args.offset end (fs ++ c.insert.new.self))) e (front_stays c.args.offset end fs c.make_way.new.rest c.insert.new.self m))

pub returns-clause-order : goal.returns-clause-order
returns-clause-order c = λ low le h.
    let e = c.in_ok-make_way.ensures.same ∙ c.self.view_is in
    front_order low c.args.offset (option_to_list c.make_way.new.first) c.make_way.new.rest c.insert.new.self (subst (LieInOrder low) (sym e) h) le c.in_ok-make_way.ensures.clear c.insert.ensures.order

pub returns-clause-within : goal.returns-clause-within
returns-clause-within c = λ any.
    let P = Encloses c.args.offset (c.args.offset + length c.args.bytes) in
    elim (Any-append P (option_to_list c.self.inside.first) c.self.inside.rest (rw (← c.self.view_is) at any)) [
      | inl f ↦ absurd (c.has_all.ensures.no c.if-has_all.false (rw (← c.len.ensures) at f))
      | inr r ↦
          let k = c.make_way.ensures.kept (front_clear 0 c.args.offset _ (option_to_list c.self.inside.first) c.self.inside.rest c.self.invariant r) in
          let w = c.insert.ensures.within (subst (Any P) (sym k.2) r) in
          (w.0, ap (λ (xs : List PieceView). option_to_list c.make_way.new.first ++ xs) w.1 ∙ c.in_ok-make_way.ensures.same ∙ c.self.view_is)
    ]
