use Rattle.std.proofs.Common.{rules}
use Rattle.quic_outgoing.specs.Shown.{outgoing_view}
use Rattle.quic_outgoing.proofs.Frames.{transmits}
use Rattle.quic_outgoing.proofs.outgoing.OutgoingStreams.write_frame.Goals as goal

pub returns-clause-transmits : goal.returns-clause-transmits
unfolding outgoing_view
returns-clause-transmits c =
    transmits _ _ c.args.id c.args.max_size _ _ _ c.write_frame.ensures.ok c.write_frame.ensures.halves c.write_frame.ensures.bytes (search rules)
