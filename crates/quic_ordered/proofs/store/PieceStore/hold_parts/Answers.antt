use Rattle.std.specs.Map.{values_of}
use Rattle.std.proofs.Common.{List, ◌++◌, subst, ◌∙◌}
use Rattle.std.specs.List.Sorted.{IsPermutation}
use Rattle.quic_assembler.specs.Piece.{PieceView}
use Rattle.quic_ordered.proofs.Stores.{map_of_store}
use Rattle.quic_ordered.proofs.Placed.{placed_store, placed_permutes, once_front}
use Rattle.quic_ordered.proofs.store.PieceStore.hold_parts.Goals as goal

pub place_all-requires-clause-apart : goal.place_all-requires-clause-apart
place_all-requires-clause-apart c = map_of_store _ _ c.in_ok-clear_way.ensures.store

pub place_all-requires-clause-once : goal.place_all-requires-clause-once
place_all-requires-clause-once c = λ at.
    once_front at c.args.parts.items (values_of c.clear_way.new.gaps) c.clear_way.new.row.runs c.args.self.now (c.in_ok-clear_way.ensures.same ∙ c.self.view_is) (c.requires.once at)

pub invariant_of-self-in_default : goal.invariant_of-self-in_default
invariant_of-self-in_default c =
    placed_store _ _ _ c.args.parts.items c.args.range.end c.in_ok-clear_way.ensures.store c.in_ok-clear_way.ensures.clear c.requires.within c.in_ok-offsets.ensures.rises c.in_ok-offsets.ensures.apart c.in_ok-offsets.ensures.all

pub returns-clause-ok : goal.returns-clause-ok
returns-clause-ok c =
    subst (λ (xs : List PieceView). IsPermutation (c.args.parts.items ++ xs) (values_of c.place_all.new.pieces ++ c.clear_way.new.row.runs)) (c.in_ok-clear_way.ensures.same ∙ c.self.view_is)
    (placed_permutes c.clear_way.new.gaps c.place_all.new.pieces c.clear_way.new.row.runs c.args.parts.items c.in_ok-offsets.ensures.all)
