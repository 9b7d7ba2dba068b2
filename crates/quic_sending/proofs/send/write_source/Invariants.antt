use Rattle.std.proofs.Common.{◌≡◌, ℕ, ◌+◌, ◌-◌, ◌≤◌, List, ◌++◌, length, min}
use Rattle.quic_sending.specs.Buffer.{HasCuts, total_length, IsSound}
use Rattle.quic_sending.specs.Source.{rest_of}
use Rattle.quic_sending.proofs.Fronts.{pieces_of}
use Rattle.quic_sending.proofs.send.write_source.Given as goal

abbrev pub invariant-loop-chunk : goal.invariant-loop-chunk
invariant-loop-chunk g l =
    let lists = g.S.BytesSource.lists in
    record {
      ready : l.left ≡ g.S.BytesSource.ready l.source;
      held : l.buffer.held ++ pieces_of l.left (lists l.source) ≡ l.initial.buffer.held ++ pieces_of l.limit (lists l.initial.source);
      rest : rest_of l.left (lists l.source) ≡ rest_of l.limit (lists l.initial.source);
      offset : l.buffer.offset + min l.left (total_length (lists l.source)) ≡ l.initial.buffer.offset + min l.limit (total_length (lists l.initial.source));
      bytes : (l.limit - l.left) + min l.left (total_length (lists l.source)) ≡ min l.limit (total_length (lists l.initial.source));
      below : l.left ≤ l.limit;
      chunks : l.chunks + length (lists l.source) ≡ length (lists l.initial.source);
      room : length (pieces_of l.left (lists l.source)) ≤ l.buffer.room;
      other : l.buffer ≡ record l.initial.buffer { offset = l.buffer.offset; held = l.buffer.held; room = l.buffer.room };
      cuts : (cuts : List (List ℕ)) → HasCuts cuts l.initial.buffer → (done : List (List ℕ)) × HasCuts (cuts ++ done) l.buffer × (done ++ pieces_of l.left (lists l.source) ≡ pieces_of l.limit (lists l.initial.source));
      sound : IsSound l.buffer;
      borrow : g.S.BytesSource.borrow l.source ≡ g.S.BytesSource.borrow l.initial.source;
      list_count : g.S.BytesSource.list_count l.source ≡ g.S.BytesSource.list_count l.initial.source;
    }

abbrev pub decreases-loop-chunk : goal.decreases-loop-chunk
decreases-loop-chunk g l = l.left
