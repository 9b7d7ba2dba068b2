use Rattle.std.proofs.Common.{rules}
use Rattle.std.proofs.lemmas.Int.{to_z-of_z}
use Rattle.quic_outgoing.specs.Shown.{outgoing_view}
use Rattle.quic_outgoing.proofs.Frames.{transmits_at}
use Rattle.quic_outgoing.proofs.outgoing.OutgoingStreams.write_frame_at.Goals as goal

pub returns-clause-transmits : goal.returns-clause-transmits
unfolding outgoing_view
returns-clause-transmits c =
    let fits = c.ranges.priority in
    let sends = simp to_z-of_z at c.write_frame_at.ensures.sends in
    transmits_at (outgoing_view c.args.self.now) (outgoing_view (record c.args.self.now { halves = c.write_frame_at.new.self })) c.args.id c.args.priority c.args.max_size _ _ _ sends (search rules)
