-- A pair as one of its ends sees it, the other sees too.
use Rattle.std.proofs.Common.{◌≡◌, refl, ap, ◌∙◌}
use Rattle.quic_history.specs.World.{Made}
use Rattle.quic_link.specs.Endpoints.{LinkedEnd}
use Rattle.quic_link.proofs.Ends.{turned}
use Rattle.quic_steps.specs.declared.steps.End.{End}
use Rattle.quic_steps.specs.declared.steps.End.TheVariants.{A, B}
use Rattle.quic_exchange.proofs.Origins.{Origin}
use Rattle.quic_exchange.specs.State.{PairState, peer}
use Rattle.quic_exchange.specs.History.{Past}
use Rattle.quic_exchange.specs.Readable.{side_of}
use Rattle.quic_exchange.proofs.Joined.{Seen, Sees, Joined}

-- the other end of the other is the end itself
pub peer-peer : (who : End) → peer (peer who) ≡ who
peer-peer A = refl
peer-peer B = refl

pub peer-other : (who : End) → who ≡ peer who → ⊥
peer-other A e = cc
peer-other B e = cc

pub seen-flip : (p : Past) (who : End) (v : PairState) (x y : LinkedEnd) → Seen p who v x y → Seen p (peer who) v y x
seen-flip p A v x y s = record { linked = turned s.linked; here = s.there; there = s.here; own = s.others; others = s.own; sends = s.receives; receives = s.sends; kept_there = s.kept_here; kept_here = s.kept_there }
seen-flip p B v x y s = record { linked = turned s.linked; here = s.there; there = s.here; own = s.others; others = s.own; sends = s.receives; receives = s.sends; kept_there = s.kept_here; kept_here = s.kept_there }

-- what becomes of a pair by calls of either end, as that end sees it
pub joined-by : (a b : Origin) (p p' : Past) (who : End) (old new : PairState) → Joined a b p old → ((x y : LinkedEnd) → Seen p who old x y → Sees p' who new x y) → Joined a b p' new
joined-by a b p p' A old new j f =
    let s = f j.first j.second j.seen in
    record { first = s.end; second = j.second; made_first = s.made ∙ j.made_first; made_second = j.made_second; seen = s.seen }
joined-by a b p p' B old new j f =
    let s = f j.second j.first (seen-flip p A old j.first j.second j.seen) in
    record { first = j.first; second = s.end; made_first = j.made_first; made_second = s.made ∙ j.made_second; seen = seen-flip p' B new s.end j.first s.seen }

-- what follows from how an end sees a pair
pub seen-as : (a b : Origin) (p : Past) (v : PairState) (who : End) → Joined a b p v → (T : Type 0) → ((x y : LinkedEnd) → x.made.side ≡ side_of who → Seen p who v x y → T) → T
seen-as a b p v A j T f = f j.first j.second (ap (λ (m : Made). m.side) j.made_first) j.seen
seen-as a b p v B j T f = f j.second j.first (ap (λ (m : Made). m.side) j.made_second) (seen-flip p A v j.first j.second j.seen)
