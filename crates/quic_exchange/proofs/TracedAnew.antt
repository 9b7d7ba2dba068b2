-- What was sent is traced still where limits are given once more, or all counts as not sent.
use Rattle.std.proofs.Common.{◌≡◌, ℕ, Bool, true, false, refl, sym, ap, ◌∙◌, subst, inl, inr}
use Rattle.std.specs.Prelude.{◌||◌, is_none, if◌then◌else◌}
use Rattle.quic_values.specs.declared.ids.Side.{Side}
use Rattle.quic_values.specs.declared.ids.Side.TheVariants.{Client}
use Rattle.quic_wire.specs.declared.frame.StreamMeta.{StreamMeta}
use Rattle.quic_flows.specs.Flow.{SendFlow, with_least_limit}
use Rattle.quic_outgoing.specs.declared.limits.PeerLimits.{PeerLimits}
use Rattle.quic_outgoing.specs.Senders.{is_local}
use Rattle.quic_history.specs.World.{World, Made}
use Rattle.quic_history.specs.Early.{with_unsent}
use Rattle.quic_history.specs.History.{flow}
use Rattle.quic_link.proofs.Unsent.{flow_unsent}
use Rattle.quic_steps.specs.declared.steps.End.{End}
use Rattle.quic_steps.specs.declared.steps.End.TheVariants.{A, B}
use Rattle.quic_exchange.specs.Tale.{Tale, Tales, told_of, with_limits_given, with_unsent_told}
use Rattle.quic_exchange.proofs.Traced.{SomeWay, IsTraced, AreTraced, traced-more}
use Rattle.quic_exchange.proofs.Counted.{Counted}
use Rattle.quic_exchange.proofs.OwnDoings.{DidOwn}
use Rattle.quic_exchange.proofs.OwnUnsent.{HasNoneSent, own-unsent}

-- a higher limit changes nothing of it
way_limit : (ways : StreamMeta → Type 0) (f : SendFlow) (id limit : ℕ) (Is : StreamMeta → Type 0) → SomeWay ways f id Is → SomeWay ways (with_least_limit limit f) id Is
way_limit ways f id limit Is s = record { meta = s.meta; way = s.way; on = s.on; sent = s.sent; is = s.is }

traced_limit : (ways : StreamMeta → Type 0) (id limit : ℕ) (f : SendFlow) → IsTraced ways id f → IsTraced ways id (with_least_limit limit f)
traced_limit ways id limit f t = record {
  bytes = λ r n k. elim (t.bytes r n k) [
    | inl m ↦ inl m
    | inr other ↦ elim other [ inl a ↦ inr (inl a) | inr s ↦ inr (inr (way_limit ways f id limit _ s)) ]
  ];
  end = λ r k. elim (t.end r k) [
    | inl due ↦ inl due
    | inr other ↦ elim other [ inl a ↦ inr (inl a) | inr s ↦ inr (inr (way_limit ways f id limit _ s)) ]
  ];
}

pub traced-given : (ways : StreamMeta → Type 0) (side : Side) (limits : PeerLimits) (t : Tale) → AreTraced ways t → AreTraced ways (with_limits_given side limits t)
traced-given ways side limits t k q = traced_limit ways q _ (t.flow q) (k q)

-- ---- nothing counts as sent

due_now : (a b : Bool) → b ≡ true → (a || b) ≡ true
due_now true b e = refl
due_now false b e = e

traced_unsent : (ways : StreamMeta → Type 0) (id : ℕ) (f : SendFlow) → IsTraced ways id (with_unsent f)
traced_unsent ways id f = by (is_none f.reset) refl
  where
    by : (b : Bool) → is_none f.reset ≡ b → IsTraced ways id (if b then flow_unsent f else f)
    by true e = record { bytes = λ r n k. cc; end = λ r k. inl (due_now f.end_due f.finished k) }
    by false e = record { bytes = λ r n k. (let both = sym (ap is_none r) ∙ e in cc); end = λ r k. (let both = sym (ap is_none r) ∙ e in cc) }

traced_none : (ways : StreamMeta → Type 0) (id : ℕ) (f : SendFlow) → HasNoneSent f → IsTraced ways id f
traced_none ways id f u = record { bytes = λ r n k. (let both = sym (u.carried r n) ∙ k in cc); end = λ r k. (let both = sym (u.finished r) ∙ k in cc) }

-- on the streams of a client; and on the others nothing was
pub traced-again : (ways : StreamMeta → Type 0) (t : Tale) → ((q : ℕ) → is_local Client q ≡ false → HasNoneSent (t.flow q)) → AreTraced ways (with_unsent_told Client t)
traced-again ways t none q = by (is_local Client q) refl
  where
    by : (b : Bool) → is_local Client q ≡ b → IsTraced ways q (if b then with_unsent (t.flow q) else t.flow q)
    by true e = traced_unsent ways q (t.flow q)
    by false e = traced_none ways q (t.flow q) (none q e)

-- by what is told of a client that did its own doings
pub counted-unsent : (m n : Made) (w : World) (t : Tale) → DidOwn m w → Counted n w t → (q : ℕ) → is_local Client q ≡ false → HasNoneSent (t.flow q)
counted-unsent m n w t d c q peer = subst HasNoneSent (c.tells.flow_is q) (own-unsent m w d q peer _ (flow n c.calls q) (c.from.sends.flows q))

-- ---- both ends

pub all-given : (ways : End → StreamMeta → Type 0) (limits : PeerLimits) (t : Tales) → ((who : End) → AreTraced (ways who) (t.of who)) → (who : End) → AreTraced (ways who) ((told_of A (with_limits_given Client limits) t).of who)
all-given ways limits t k A = traced-given (ways A) Client limits (t.of A) (k A)
all-given ways limits t k B = k B

-- where the other end sent nothing that is under way
pub all-again : (ways more : End → StreamMeta → Type 0) (t : Tales) → ((m : StreamMeta) → ways B m → ⊥) → ((q : ℕ) → is_local Client q ≡ false → HasNoneSent ((t.of A).flow q)) → ((who : End) → AreTraced (ways who) (t.of who))
    → (who : End) → AreTraced (more who) ((told_of A (with_unsent_told Client) t).of who)
all-again ways more t nothing none k A = traced-again (more A) (t.of A) none
all-again ways more t nothing none k B = traced-more (ways B) (more B) (t.of B) (λ m w. absurd (nothing m w)) (k B)
