use Rattle.quic_wire.specs.declared.frame.Frame.TheVariants as frames
use Rattle.quic_wire.proofs.Written.{frame_written, frame_size}
use Rattle.quic_wire.proofs.frame.ResetStream.encode.Goals as goal

pub returns-clause-spelled : goal.returns-clause-spelled
returns-clause-spelled c = λ rest. frame_written (frames.ResetStream c.args.self.now) rest c.put-done.ensures.spelling

pub returns-clause-bound : goal.returns-clause-bound
returns-clause-bound c = frame_size (frames.ResetStream c.args.self.now)
