use Rattle.std.proofs.Common.{◌≡◌, ◌∙◌, refl, List, [], ◌∷◌, length}
use Rattle.std.specs.Prelude.{option_map}
use Rattle.quic_wire.specs.declared.frame.Datagram.{Datagram}
use Rattle.quic_datagrams.specs.Queue.{oldest_length}
use Rattle.quic_session.specs.Sessions.{oldest_received}
use Rattle.quic_session.proofs.session.Session.datagram_length.Goals as goal

length-of-oldest : (queue : List Datagram) → oldest_length queue ≡ option_map length (oldest_received queue)
length-of-oldest [] = refl
length-of-oldest (oldest ∷ others) = refl

pub returns : goal.returns
returns c = c.oldest_length.ensures ∙ length-of-oldest c.args.self.now.datagrams.incoming
