use Rattle.std.proofs.Common.{◌≡◌, drop}
use Rattle.quic_session.specs.Counts.{bytes_added, stream_bytes}
use Rattle.quic_session.proofs.counts.total_bytes.Given as goal

abbrev pub invariant-loop-frame : goal.invariant-loop-frame
invariant-loop-frame l = bytes_added l.total (drop l.frame-index l.frames) ≡ stream_bytes l.frames
