use Rattle.quic_receiving.proofs.Counted.{counted-ordering}
use Rattle.quic_receiving.proofs.Sound.{sound_buffer}
use Rattle.quic_receiving.proofs.half.Recv.ensure_ordering.Goals as goal
use Rattle.quic_receiving.specs.contracts.half.Recv.{the_view}

pub invariant_of-self : goal.invariant_of-self
invariant_of-self c =
    let e = c.ensure_ordering.ensures in
    let old = the_view c.self.inside in
    let new = c.ensure_ordering.new.self in
    sound_buffer old new old.stopped c.self.invariant e.highest
    (counted-ordering old.buffer new c.args.ordered c.ensure_ordering.result e.refused e.same e.done e.err_others e.held e.bytes_read e.highest c.self.invariant.counted)
