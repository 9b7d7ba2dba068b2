use Rattle.quic_streams_c.proofs.Slices.{lends-few}
use Rattle.quic_streams_c.proofs.chunks.read_lent.Goals as goal

pub show_lent-requires : goal.show_lent-requires
show_lent-requires c = lends-few _ _ _ _ _ c.read_lent-answer.ensures.reads
