use Rattle.std.proofs.Common.{true}
use Rattle.quic_receiving.proofs.Buffers.{clears}
use Rattle.quic_receiving.proofs.Counted.{counted-clears}
use Rattle.quic_receiving.proofs.Sound.{sound_buffer}
use Rattle.quic_receiving.proofs.half.Recv.stop.Goals as goal
use Rattle.quic_receiving.specs.contracts.half.Recv.{the_view}

pub invariant_of-self : goal.invariant_of-self
invariant_of-self c =
    let e = c.clear.ensures in
    let old = the_view c.self.inside in
    let cleared = clears old.buffer c.clear.new.self e.empty e.done e.bytes_read e.ordered e.highest e.pieces in
    sound_buffer old c.clear.new.self true c.self.invariant e.highest (counted-clears old.buffer c.clear.new.self cleared c.self.invariant.counted)

pub invariant_of-self-2 : goal.invariant_of-self-2
invariant_of-self-2 c =
    let e = c.clear.ensures in
    let old = the_view c.self.inside in
    let cleared = clears old.buffer c.clear.new.self e.empty e.done e.bytes_read e.ordered e.highest e.pieces in
    sound_buffer old c.clear.new.self true c.self.invariant e.highest (counted-clears old.buffer c.clear.new.self cleared c.self.invariant.counted)
