-- The theorem of two linked ends.
use Rattle.quic_link.proofs.Promised.{promised}
use Rattle.quic_link.proofs.linked_ends_promise.Goals as goal

pub returns : goal.returns
returns c = λ x y l. promised l
