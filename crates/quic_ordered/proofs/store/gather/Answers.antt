use Rattle.std.proofs.Common.{◌∙◌}
use Rattle.quic_ordered.proofs.Stores.{gathered_store, gathered_same, gathered_room}
use Rattle.quic_ordered.proofs.store.gather.Goals as goal

pub loop-piece-preserved : goal.loop-piece-preserved
loop-piece-preserved c =
    let s = c.in-Some.ensures.some in
    let n = c.loop-piece.invariant.room in
    record {
      store = gathered_store _ _ _ _ s.0 c.in-Some.piece c.loop-piece.invariant.store s.1 c.put_front.ensures.put c.in-Some.ensures.rises;
      same = gathered_same c.loop-piece.gaps c.pop_last.new.self c.loop-piece.row.runs c.put_front.new.self.runs s.0 c.in-Some.piece s.1 c.put_front.ensures.put ∙ c.loop-piece.invariant.same;
      room = gathered_room c.loop-piece.gaps c.pop_last.new.self c.loop-piece.row.runs c.put_front.new.self.runs s.0 c.in-Some.piece c.loop-piece.row.room c.put_front.new.self.room s.1 c.put_front.ensures.put n c.put_front.ensures.room;
    }
