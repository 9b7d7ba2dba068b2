use Rattle.std.proofs.Common.{arith, ◌++◌, ap, length, length-append}
use Rattle.quic_values.proofs.Parts.{length-parted_at}
use Rattle.quic_values.proofs.chunk_list.ChunkList.len.Goals as goal

pub returns : goal.returns
returns c =
    omega (arith, ap length c.self.view_is, length-parted_at 0 c.self.inside.content.items (c.self.inside.low_ends.items ++ c.self.inside.high_ends.items), length-append c.self.inside.low_ends.items c.self.inside.high_ends.items, c.self.inside.low_ends.ok.0, c.self.inside.high_ends.ok.0, c.len.ensures, c.len-2.ensures)
