use Rattle.quic_sending.proofs.Fronts.{one_piece}
use Rattle.quic_sending.proofs.source.ByteSliceBytesSource.prepare.Goals as goal

pub returns-clause-count : goal.returns-clause-count
returns-clause-count c = λ pieces h. one_piece c.args.self.now.bytes.now c.args.limit pieces h
