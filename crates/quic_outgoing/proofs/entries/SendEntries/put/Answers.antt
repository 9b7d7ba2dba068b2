use Rattle.std.proofs.Common.{rules, Some, ap, ◌∙◌}
use Rattle.quic_outgoing.specs.Seen.{senders}
use Rattle.quic_outgoing.specs.Senders.{first_limit, bare, with_sender}
use Rattle.quic_outgoing.proofs.SenderMaps.{senders-put, raised-same}
use Rattle.quic_outgoing.proofs.entries.SendEntries.put.Goals as goal

pub returns-clause-halves : goal.returns-clause-halves
unfolding senders
returns-clause-halves c =
    let w = first_limit c.args.self.now.side c.args.self.now.first in
    senders-put w _ _ c.args.id _ ((c.get_mut.follows.holds (Some c.args.half)).3 (search rules)).0
    ∙ ap (λ s. with_sender (senders c.args.self.now) c.args.id (Some s)) (raised-same (w c.args.id) (bare c.args.half.value) c.requires.limit)
