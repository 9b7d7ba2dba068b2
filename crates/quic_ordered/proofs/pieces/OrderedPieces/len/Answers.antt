use Rattle.std.proofs.Common.{arith, ◌∷◌}
use Rattle.std.proofs.lemmas.List.Elements.{All-cons}
use Rattle.quic_ordered.specs.Rows.{FitsWords}
use Rattle.quic_ordered.proofs.Totals.{order_count}
use Rattle.quic_ordered.proofs.pieces.OrderedPieces.len.Goals as goal

pub returns-in-Some-clause-small : goal.returns-in-Some-clause-small
returns-in-Some-clause-small c =
    let h = rw c.in-Some.is at c.self.invariant in
    let fits = All-cons FitsWords c.in-Some.first c.self.inside.rest (record { below = c.end-end.ensures.bound; allocation = c.allocation_size-allocated.ensures.bound }) c.len-count.ensures.fits in
    let n = order_count 0 (c.in-Some.first ∷ c.self.inside.rest) h fits (omega arith) in
    omega (arith, n, c.len-count.ensures.len)
