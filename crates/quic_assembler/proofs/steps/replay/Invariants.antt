use Rattle.std.proofs.Common.{◌≡◌, ◌≤◌, ◌++◌, List, take, vec_capacity}
use Rattle.quic_assembler.specs.declared.chunk.Chunk.{Chunk}
use Rattle.quic_assembler.specs.Steps.{body_of, Replays}
use Rattle.quic_assembler.proofs.Replays.{Known}
use Rattle.quic_assembler.proofs.steps.replay.Given as goal

abbrev pub invariant-loop-op : goal.invariant-loop-op
invariant-loop-op g l =
    let body = body_of g.R.Reassemble.holds g.R.Reassemble.is_done g.R.Reassemble.read_count g.R.Reassemble.is_ordered g.R.Reassemble.highest g.R.Reassemble.piece_count g.R.Reassemble.inserts g.R.Reassemble.reads g.R.Reassemble.orders in
    record {
      given : List Chunk;
      added : l.out.items ≡ l.initial.out.items ++ given;
      steps : Replays body (take l.op-index l.ops) l.initial.r given l.r;
      known : Known (take l.op-index l.ops) given (body.state l.r);
      room : vec_capacity l.initial.out ≤ vec_capacity l.out;
      mode : l.ordered ≡ g.R.Reassemble.is_ordered l.r;
    }
