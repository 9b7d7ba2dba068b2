use Rattle.std.proofs.Common.{◌∙◌}
use Rattle.quic_ordered.proofs.Firsts.{insert_first, absent_first, on_ok}
use Rattle.quic_ordered.proofs.map.PieceMap.put_first.Goals as goal

pub put_new-requires : goal.put_new-requires
put_new-requires c = absent_first _ _ c.requires

pub returns-clause-put : goal.returns-clause-put
returns-clause-put c = on_ok c.put_new.result c.put_new.ensures.entries (λ e. e ∙ insert_first _ _ c.args.piece c.requires)
