use Rattle.std.proofs.Common.{rules, ◌≡◌, refl}
use Rattle.std.specs.Prelude.{None}
use Rattle.quic_queue.specs.SendOrder.{first}
use Rattle.quic_writing.proofs.Queues.{line-empty}
use Rattle.quic_writing.proofs.stream_frames.take_turn.Goals as goal

pub returns-in_default-clause-idle : goal.returns-in_default-clause-idle
returns-in_default-clause-idle c =
    let none : first c.args.queue.now ≡ None = search rules in
    λ _. (line-empty c.args.queue.now none, refl)
