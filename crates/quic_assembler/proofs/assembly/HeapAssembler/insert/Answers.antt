use Rattle.std.proofs.Common.{refl, rules, arith, inr, ap}
use Rattle.quic_assembler.specs.Piece.{Sums}
use Rattle.quic_assembler.proofs.Whole.{takes_compacted, takes_nothing, below_is_done, MatchInsert-kept, settles_piece}
use Rattle.quic_assembler.proofs.assembly.HeapAssembler.insert.Goals as goal

pub returns-then-end-self-clause-kept : goal.returns-then-end-self-clause-kept
returns-then-end-self-clause-kept c = rw (← c.self.view_is) (takes_nothing _ _ _ _ refl refl (λ at w. below_is_done _ at (search rules) (omega arith)))

pub returns-clause-kept : goal.returns-clause-kept
returns-clause-kept c = MatchInsert-kept _ _ c.relieve.result c.relieve.ensures.kept (takes_compacted _ _ _ _ _ _ c.in_ok-hold.ensures.ok.held c.relieve.ensures.held)

pub returns-clause-settles : goal.returns-clause-settles
returns-clause-settles c = inr (settles_piece c.relieve.result c.args.self.now c.hold.new.self c.relieve.new.self _ _ _ c.in_ok-hold.ensures.ok c.relieve.ensures.settles)

pub returns-clause-pieces_unordered : goal.returns-clause-pieces_unordered
returns-clause-pieces_unordered c = λ _. omega (arith, c.relieve.ensures.pieces, ap (λ (s : Sums). s.pieces) c.in_ok-hold.ensures.ok.sums)
