use Rattle.std.proofs.Common.{◌-◌, deque_len}
use Rattle.quic_sending.proofs.piece_queue.advance_hint.Given as goal

abbrev pub decreases-loop-hint : goal.decreases-loop-hint
decreases-loop-hint l = deque_len l.pieces - l.hint
