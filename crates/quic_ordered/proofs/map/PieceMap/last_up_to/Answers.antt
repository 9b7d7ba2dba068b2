use Rattle.quic_ordered.proofs.map.PieceMap.last_up_to.Goals as goal

pub returns-in-Some-clause-found : goal.returns-in-Some-clause-found
returns-in-Some-clause-found c =
    rw (← c.self.view_is) (record {
      run = c.in-Some.piece.now;
      found = c.in-Some.ensures.found;
      ends = c.end.ensures.value;
      up_to = c.in-Some.ensures.up_to;
      last = c.in-Some.ensures.last;
    })
