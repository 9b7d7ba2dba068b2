use Rattle.std.proofs.Common.{◌≡◌, inr, length, arith}
use Rattle.quic_pair.specs.Ends.{ends_view}
use Rattle.quic_pair.specs.Shown.{pair_view}
use Rattle.quic_pair.proofs.pair.Pair.report_from.Goals as goal

pub returns : goal.returns
unfolding pair_view
returns c =
    let past = c.if-number-count.false in
    let count : c.count.result ≡ length (ends_view c.args.self.now.ends).sent = c.count.ensures in
    inr (λ n s low within is. c.unsettled_from-number.ensures.settled n s low (omega (arith, within, past, count)) is, c.behind_reports.ensures)
