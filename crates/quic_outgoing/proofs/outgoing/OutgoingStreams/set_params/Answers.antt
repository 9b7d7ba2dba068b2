use Rattle.std.proofs.Common.{rules, ◌≡◌, Ok}
use Rattle.quic_outgoing.specs.Params.{after_params}
use Rattle.quic_outgoing.specs.History.{GaveParams}
use Rattle.quic_outgoing.specs.Shown.{outgoing_view}
use Rattle.quic_outgoing.proofs.Histories.{continues}
use Rattle.quic_outgoing.proofs.outgoing.OutgoingStreams.set_params.Goals as goal

pub returns-clause-from : goal.returns-clause-from
unfolding outgoing_view
returns-clause-from c =
    let is : outgoing_view c.take_limits.new.self ≡ after_params (outgoing_view c.args.self.now) c.args.params.now = search rules in
    continues (outgoing_view c.args.self.now) (GaveParams c.args.params.now (Ok tt)) (outgoing_view c.take_limits.new.self) is
