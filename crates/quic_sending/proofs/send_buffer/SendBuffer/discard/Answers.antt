use Rattle.std.proofs.Common.{rules}
use Rattle.quic_sending.proofs.Cuts.{HasCuts-all}
use Rattle.quic_sending.proofs.send_buffer.SendBuffer.discard.Goals as goal

pub returns-clause-cuts : goal.returns-clause-cuts
returns-clause-cuts c = λ cuts h. HasCuts-all c.args.self.now _ cuts h (search rules) (search rules) (search rules)
