-- An end that ran so comes from its calls, and what its reads say of its streams.
use Rattle.std.proofs.Common.{List, [], ◌∷◌, sym, subst}
use Rattle.quic_history.specs.World.{World, Made}
use Rattle.quic_history.specs.History.{Event, From, IsRun}
use Rattle.quic_history.proofs.Histories.{next}
use Rattle.quic_history.proofs.Beginnings.{begins}
use Rattle.quic_link.proofs.Ends.{ArePlain}
use Rattle.quic_link.proofs.Readers.{ReadsSo, reads-new, reads-kept}

pub from-run : (m : Made) (h : List Event) (v : World) → IsRun m h v → From m h v
from-run m [] v s = begins m v s
from-run m (e ∷ h) v r = next m h r.0 e v r.2 (from-run m h r.0 r.1) r.3

pub reads-run : (m : Made) (h : List Event) (v : World) → IsRun m h v → ArePlain h → ReadsSo h v
reads-run m [] v s plain = let P : World → Type 0 = λ w. ReadsSo [] w in subst P (sym s.is) (reads-new m)
reads-run m (e ∷ h) v r plain = reads-kept m h r.0 (from-run m h r.0 r.1) (reads-run m h r.0 r.1 plain.1) e v plain.0 r.3 (from-run m (e ∷ h) v r)
