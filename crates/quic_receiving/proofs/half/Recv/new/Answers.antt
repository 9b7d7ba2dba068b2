use Rattle.std.proofs.Common.{refl}
use Rattle.quic_receiving.proofs.Buffers.{done-none}
use Rattle.quic_receiving.proofs.half.Recv.new.Goals as goal

pub returns-clause-fresh : goal.returns-clause-fresh
returns-clause-fresh c =
    let e = c.new.ensures in
    rw c.default.ensures (record {
      empty = record {
        nothing = e.empty;
        done = done-none c.new.result e.ordered e.bytes_read;
        bytes_read = e.bytes_read;
        ordered = e.ordered;
        highest = e.highest;
        pieces = e.pieces;
      };
      is = refl;
    })
