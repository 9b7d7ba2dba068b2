use Rattle.std.proofs.Common.{◌≡◌, take}
use Rattle.quic_retransmits.proofs.retransmits.clone_cids.Given as goal

abbrev pub invariant-loop-cid : goal.invariant-loop-cid
invariant-loop-cid l = l.copy.items ≡ take l.cid-index l.cids
