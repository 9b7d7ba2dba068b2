use Rattle.std.proofs.Common.{◌≡◌, false, Some, refl, arith, rules}
use Rattle.quic_receiving.specs.Half.{is_unfit}
use Rattle.quic_receiving.proofs.Buffers.{clears}
use Rattle.quic_receiving.proofs.Counted.{counted-clears}
use Rattle.quic_receiving.proofs.Sound.{sound, fit_end}
use Rattle.quic_receiving.proofs.half.Recv.reset.Goals as goal
use Rattle.quic_receiving.specs.contracts.half.Recv.{the_view}

pub invariant_of-self : goal.invariant_of-self
invariant_of-self c =
    let e = c.clear.ensures in
    let old = the_view c.self.inside in
    let size = c.into_inner-size.result in
    let cleared = clears old.buffer c.clear.new.self e.empty e.done e.bytes_read e.ordered e.highest e.pieces in
    let fits : is_unfit old.size old.end size ≡ false = search rules in
    let low = fit_end old.size old.end size c.self.invariant.size_is fits in
    sound c.clear.new.self (Some size) (Some c.args.error_code) size old.sent_max old.stopped (omega arith) c.self.invariant.limit_bound
    (λ n h. cc)
    (λ s. refl)
    (counted-clears old.buffer c.clear.new.self cleared c.self.invariant.counted)
    (omega (arith, e.highest, c.self.invariant.within))

pub returns-clause-sound : goal.returns-clause-sound
returns-clause-sound c =
    let e = c.clear.ensures in
    let old = the_view c.self.inside in
    let size = c.into_inner-size.result in
    let cleared = clears old.buffer c.clear.new.self e.empty e.done e.bytes_read e.ordered e.highest e.pieces in
    let fits : is_unfit old.size old.end size ≡ false = search rules in
    let low = fit_end old.size old.end size c.self.invariant.size_is fits in
    sound c.clear.new.self (Some size) (Some c.args.error_code) size old.sent_max old.stopped (omega arith) c.self.invariant.limit_bound
    (λ n h. cc)
    (λ s. refl)
    (counted-clears old.buffer c.clear.new.self cleared c.self.invariant.counted)
    (omega (arith, e.highest, c.self.invariant.within))
