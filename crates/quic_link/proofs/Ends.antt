-- Each of two ends may come from its calls.
use Rattle.std.proofs.Common.{◌≡◌, ℕ, sym, ap, ◌∙◌, refl, subst, false, List, [], ◌∷◌, Ok, Err}
use Rattle.quic_values.specs.Ids.{other_side}
use Rattle.quic_history.specs.World.{World}
use Rattle.quic_history.specs.SendTotals.{send_totals}
use Rattle.quic_history.specs.History.{From, Event, Rejected, SentAgain, Facts, GivenSo, EndsSo, TellsEnds, EverPermits, SentSo, FlowsSo, TellsWrites, AreQueued, trace, since, joint_move_of}
use Rattle.quic_history.specs.Early.{begins_anew}
use Rattle.quic_history.proofs.Histories.{next}
use Rattle.quic_history.proofs.Beginnings.{begins}
use Rattle.quic_link.specs.Endpoints.{LinkedEnd, MayAct, IsHonest, acted, IsNewEnd, Linked, begun, first_acts, second_acts}
use Rattle.quic_link.proofs.Basics.{other_other}

-- a call that is honest rejects no early start
pub plain-call : (x y : LinkedEnd) (e : Event) → IsHonest x y e → begins_anew (joint_move_of e) ≡ false
plain-call x y Rejected h = absurd h
plain-call x y (SentAgain (Ok u)) h = refl
plain-call x y (SentAgain (Err u)) h = refl
plain-call x y _ h = refl

-- no call does
abbrev pub ArePlain : List Event → Type 0
ArePlain [] = Unit {0}
ArePlain (e ∷ h) = (begins_anew (joint_move_of e) ≡ false) × ArePlain h

pub since-plain : (h : List Event) → ArePlain h → since h ≡ h
since-plain [] p = refl
since-plain (e ∷ h) p = rw p.0 (ap (λ l. e ∷ l) (since-plain h p.1))

-- an end may come from its calls, of which none rejected an early start
pub record Comes (x : LinkedEnd) : Type 0 where
  pub from : From x.made x.calls x.world
  pub plain : ArePlain x.calls
  pub side : x.world.out.side ≡ x.made.side
  pub window : x.world.window ≡ x.made.window
  pub facts : Facts x.made.credit x.calls x.world
  pub given : (q : ℕ) → GivenSo (trace x.calls q)
  pub ends : (q : ℕ) → EndsSo (trace x.calls q)
  pub tells : TellsEnds x.calls x.world
  pub remotes : EverPermits x.made x.calls x.world from.run
  pub sent : SentSo x.calls (send_totals x.world.out)
  pub sends : FlowsSo x.made x.calls x.world
  pub writes : TellsWrites x.made x.calls x.world
  pub queued : AreQueued x.made x.calls x.world.events

pub comes-from : (x : LinkedEnd) → From x.made x.calls x.world → ArePlain x.calls → Comes x
comes-from x f plain = record {
  from = f;
  plain = plain;
  side = f.side;
  window = f.window;
  facts = f.facts;
  given = f.given;
  ends = f.ends;
  tells = f.tells;
  remotes = f.remotes;
  sent = let P : List Event → Type 0 = λ h. SentSo h (send_totals x.world.out) in subst P (since-plain x.calls plain) f.sent;
  sends = f.sends;
  writes = f.writes;
  queued = f.queued;
}

-- two ends are linked either way
pub turned : {x y : LinkedEnd} → Linked x y → Linked y x
turned {x} {y} (begun a b s) = begun b a (other_other x.made.side ∙ ap other_side (sym s))
turned (first_acts e v l a) = second_acts e v (turned l) a
turned (second_acts e v l a) = first_acts e v (turned l) a

pub comes-new : (x : LinkedEnd) → IsNewEnd x → Comes x
comes-new x n =
    let P : List Event → Type 0 = λ h. From x.made h x.world in
    let Q : List Event → Type 0 = λ h. ArePlain h in
    comes-from x (subst P (sym n.calls) (begins x.made x.world n.start)) (subst Q (sym n.calls) tt)

pub comes-acted : (x y : LinkedEnd) (e : Event) (v : World) → Comes x → MayAct x y e v → Comes (acted x e v)
comes-acted x y e v f a = comes-from (acted x e v) (next x.made x.calls x.world e v a.fits f.from a.step) (plain-call x y e a.honest, f.plain)
