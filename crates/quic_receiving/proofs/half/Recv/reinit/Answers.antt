use Rattle.std.proofs.Common.{refl}
use Rattle.quic_receiving.proofs.Buffers.{done-none}
use Rattle.quic_receiving.proofs.half.Recv.reinit.Goals as goal

pub returns : goal.returns
returns c =
    let e = c.reinit.ensures in
    rw c.default-self-inside.ensures (record {
      empty = record {
        nothing = e.empty;
        done = done-none c.reinit.new.self e.ordered e.bytes_read;
        bytes_read = e.bytes_read;
        ordered = e.ordered;
        highest = e.highest;
        pieces = e.pieces;
      };
      is = refl;
    })
