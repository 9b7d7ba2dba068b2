-- Once every payload was reported and nothing is left to be sent, all that was written arrived.
use Rattle.std.proofs.Common.{◌≡◌, ℕ, Bool, true, false, List, length, Option, Some, None, refl, sym, ap, ◌∙◌, subst, inl, inr, arith, ◌<◌}
use Rattle.std.proofs.lemmas.Option.{none-some}
use Rattle.quic_wire.specs.declared.frame.StreamMeta.{StreamMeta}
use Rattle.quic_sending.specs.declared.send.Send.{Send}
use Rattle.quic_sending.specs.Buffer.{total_length}
use Rattle.quic_flows.specs.Flow.{SendFlow, FlowAt, FlowFrom, state_told}
use Rattle.quic_outgoing.specs.Senders.{first_limit}
use Rattle.quic_history.specs.World.{World, Made}
use Rattle.quic_history.specs.Flows.{HasRest, has_side_in}
use Rattle.quic_history.specs.History.{Event, flow}
use Rattle.quic_link.specs.Endpoints.{LinkedEnd, sent_on}
use Rattle.quic_link.specs.Promises.{CameAt, EndCame}
use Rattle.quic_link.proofs.Acks.{AckedSo}
use Rattle.quic_link.proofs.Joint.{agrees}
use Rattle.quic_exchange.proofs.Origins.{Origin}
use Rattle.quic_steps.specs.declared.steps.End.{End}
use Rattle.quic_exchange.specs.Readable.{side_of}
use Rattle.quic_exchange.specs.State.{PairState, the_end}
use Rattle.quic_exchange.specs.History.{Past, History, past_of}
use Rattle.quic_exchange.proofs.Eras.{EraFrom}
use Rattle.quic_exchange.specs.Tale.{Tale}
use Rattle.quic_exchange.specs.Settling.{AreIdle, AreSettledIn}
use Rattle.quic_exchange.specs.Completed.{HasArrived, HaveArrived, IsUnreset}
use Rattle.quic_exchange.proofs.Lists.{slice_get-within}
use Rattle.quic_exchange.proofs.Joined.{Seen}
use Rattle.quic_exchange.proofs.Flips.{seen-as}
use Rattle.quic_exchange.proofs.Headlines.{length-written, came-at, end-came}
use Rattle.quic_exchange.proofs.Counted.{Counted}
use Rattle.quic_exchange.proofs.Recounted.{made_at}
use Rattle.quic_exchange.proofs.Grown.{joined-from}
use Rattle.quic_exchange.proofs.Settling.{leaves-no-rest}
use Rattle.quic_exchange.proofs.Traced.{IsTraced}
use Rattle.quic_exchange.proofs.TracedSteps.{IsUnreported, traces-from}

-- ---- two histories of one end tell the same of a stream, unless its half is freed or given up

pub record IsAlike (f g : SendFlow) : Type 0 where
  pub freed : f.freed ≡ false
  pub reset : f.reset ≡ None
  pub amount : total_length g.cuts ≡ total_length f.cuts
  pub finished : f.finished ≡ g.finished
  pub acked : (n : ℕ) → f.acked n ≡ true → g.acked n ≡ true
  pub end_acked : f.finished ≡ true → f.end_acked ≡ true → g.end_acked ≡ true

-- what the state of a half tells
record SameState (reset : Option ℕ) (finished end_acked : Bool) (other : Option ℕ) (others_finished others_acked : Bool) : Type 0 where
  reset_is : reset ≡ None
  finished_is : finished ≡ others_finished
  acked_is : finished ≡ true → end_acked ≡ true → others_acked ≡ true

state_same : (r q : Option ℕ) (f a g b : Bool) → q ≡ None → state_told r f a ≡ state_told q g b → SameState r f a q g b
state_same None None false a false b n e = record { reset_is = refl; finished_is = refl; acked_is = λ h k. cc }
state_same None None true a true b n e = record { reset_is = refl; finished_is = refl; acked_is = λ h k. (let d : a ≡ b = cc in sym d ∙ k) }
state_same None None true a false b n e = cc
state_same None None false a true b n e = cc
state_same (Some c) None f a false b n e = cc
state_same (Some c) None f a true b n e = cc
state_same r (Some c) f a g b n e = cc

held_alike : (f g : SendFlow) (s : Send) → FlowFrom f s → FlowFrom g s → g.reset ≡ None → IsAlike f g
held_alike f g s a b r =
    let state = state_same f.reset g.reset f.finished f.end_acked g.finished g.end_acked r (sym a.state ∙ b.state) in
    record {
      freed = a.there;
      reset = state.reset_is;
      amount = sym b.cuts.written ∙ a.cuts.written;
      finished = state.finished_is;
      acked = λ n k. sym ((b.offsets r).acked n) ∙ (a.offsets state.reset_is).acked n ∙ k;
      end_acked = λ h k. state.acked_is h k;
    }

pub alike : (first other : ℕ) (there : Bool) (half : Option Send) (f g : SendFlow) → FlowAt first f there half → FlowAt other g there half → g.reset ≡ None → g.freed ≡ false → IsAlike f g
alike first other true (Some s) f g a b r d = held_alike f g s a b r
alike first other true None f g a b r d = let e = sym b ∙ d in cc
alike first other false (Some s) f g a b r d = absurd a
alike first other false None f g a b r d = record {
  freed = ap (λ (t : SendFlow). t.freed) a;
  reset = ap (λ (t : SendFlow). t.reset) a;
  amount = ap (λ (t : SendFlow). total_length t.cuts) b ∙ sym (ap (λ (t : SendFlow). total_length t.cuts) a);
  finished = ap (λ (t : SendFlow). t.finished) a ∙ sym (ap (λ (t : SendFlow). t.finished) b);
  acked = λ n k. let e = sym (ap (λ (t : SendFlow). t.acked n) a) ∙ k in cc;
  end_acked = λ h k. let e = sym (ap (λ (t : SendFlow). t.end_acked) a) ∙ k in cc;
}

-- ---- one stream

module _ (ways : StreamMeta → Type 0) (none : (m : StreamMeta) → ways m → ⊥) (id : ℕ) (f : SendFlow) (t : IsTraced ways id f) (rest : HasRest f → ⊥) (reset : f.reset ≡ None) (there : f.freed ≡ false) where
  -- what was written was carried, and what was carried is acknowledged
  was_carried : (n : ℕ) → n < total_length f.cuts → (b : Bool) → f.carried n ≡ b → f.carried n ≡ true
  was_carried n l true e = e
  was_carried n l false e = absurd (rest (reset, there, inl (n, l, e)))

  found_again : (n : ℕ) → f.missing n ≡ true → (b : Bool) → f.acked n ≡ b → f.acked n ≡ true
  found_again n m true e = e
  found_again n m false e = absurd (rest (reset, there, inr (inl (n, m, e))))

  pub is-acked-at : (n : ℕ) → n < total_length f.cuts → f.acked n ≡ true
  is-acked-at n l = elim (t.bytes reset n (was_carried n l (f.carried n) refl)) [
    | inl m ↦ found_again n m (f.acked n) refl
    | inr other ↦ elim other [ inl a ↦ a | inr s ↦ absurd (none s.meta s.way) ]
  ]

  pub is-end-acked : f.finished ≡ true → f.end_acked ≡ true
  is-end-acked h = elim (t.end reset h) [
    | inl due ↦ absurd (rest (reset, there, inr (inr due)))
    | inr other ↦ elim other [ inl a ↦ a | inr s ↦ absurd (none s.meta s.way) ]
  ]

module _ (ways : StreamMeta → Type 0) (none : (m : StreamMeta) → ways m → ⊥) (id : ℕ) (f g : SendFlow) (t : IsTraced ways id f) (rest : HasRest f → ⊥) (calls : List Event) (acks : AckedSo g calls id) (unreset : g.reset ≡ None) (same : g.freed ≡ false → IsAlike f g) where
  module _ (k : IsAlike f g) where
    came_alike : (n : ℕ) → n < total_length g.cuts → CameAt calls id n
    came_alike n l = acks.came n (k.acked n (is-acked-at ways none id f t rest k.reset k.freed n (let e = k.amount in omega (arith, e, l))))

    end_alike : g.finished ≡ true → EndCame calls id
    end_alike h = let e = k.finished ∙ h in acks.end_came (k.end_acked e (is-end-acked ways none id f t rest k.reset k.freed e))

  all_came : (b : Bool) → g.freed ≡ b → (n : ℕ) → n < total_length g.cuts → CameAt calls id n
  all_came true e n l = acks.came n ((acks.whole e unreset).all n l)
  all_came false e n l = came_alike (same e) n l

  end_came : (b : Bool) → g.freed ≡ b → g.finished ≡ true → EndCame calls id
  end_came true e h = acks.end_came (acks.whole e unreset).end_acked
  end_came false e h = end_alike (same e) h

-- ---- one end

no_reset : (o : Option ℕ) → ((code : ℕ) → o ≡ Some code → ⊥) → o ≡ None
no_reset None n = refl
no_reset (Some code) n = absurd (n code refl)

module _ (p : Past) (v : PairState) (who : End) (id : ℕ) (t : SendFlow) (traced : IsTraced (IsUnreported v.sent who) id t) (none : (m : StreamMeta) → IsUnreported v.sent who m → ⊥) (rest : HasRest t → ⊥)
    (c : (w : World) → w ≡ (the_end v who).streams → (g : SendFlow) → FlowAt (first_limit w.out.side w.out.first id) g (has_side_in w.out w.bi.max_remote id) (w.out.halves id) → g.reset ≡ None → g.freed ≡ false → IsAlike t g) (unreset : IsUnreset (p.flow who id)) where
  arrived_seen : (x y : LinkedEnd) → x.made.side ≡ side_of who → Seen p who v x y → HasArrived (p.flow who id) who id p.accepted v.sent
  arrived_seen x y side s =
      let k = s.sends in
      let g = sent_on x id in
      let acks = ((agrees s.linked).0).acked id in
      let never : g.reset ≡ None = no_reset g.reset (λ code e. unreset code (k.resets id code e)) in
      let same : g.freed ≡ false → IsAlike t g = λ e. c x.world s.here.world g (((agrees s.linked).0).comes.from.sends.flows id) never e in
      record {
        bytes = λ at l. came-at p v.sent who x y k id at (all_came (IsUnreported v.sent who) none id t g traced rest y.calls acks never same g.freed refl at (subst (λ n. at < n) (sym (length-written p v.sent who x y k id)) l));
        end = λ h. end-came p v.sent who x y k id (end_came (IsUnreported v.sent who) none id t g traced rest y.calls acks never same g.freed refl (k.finished id ∙ h));
      }

-- ---- both

module _ (a b : Origin) (h : History) (v : PairState) (f : EraFrom a b h v) (idle : AreIdle v) (settled : AreSettledIn 0 (length v.sent) v.sent) where
  pub none-unreported : (who : End) (m : StreamMeta) → IsUnreported v.sent who m → ⊥
  none-unreported who m u = none-some u.rest (sym (settled u.number u.payload (omega arith) (slice_get-within v.sent u.number u.payload u.is) u.is) ∙ u.rest_is)

  alike_told : (who : End) (id : ℕ) (t : SendFlow) (m : Made) (u : Tale) (c : Counted m (the_end v who).streams u) → flow m c.calls id ≡ t → (w : World) → w ≡ (the_end v who).streams → (g : SendFlow)
      → FlowAt (first_limit w.out.side w.out.first id) g (has_side_in w.out w.bi.max_remote id) (w.out.halves id) → g.reset ≡ None → g.freed ≡ false → IsAlike t g
  alike_told who id t m u c is w e g at r d =
      let P : World → Type 0 = λ u. FlowAt (first_limit u.out.side u.out.first id) g (has_side_in u.out u.bi.max_remote id) (u.out.halves id) in
      let Q : SendFlow → Type 0 = λ j. IsAlike j g in
      subst Q is (alike _ _ _ _ (flow m c.calls id) g (c.from.sends.flows id) (subst P e at) r d)

  pub have-arrived : HaveArrived (past_of h) v.sent
  have-arrived who id unreset =
      let g = traces-from f in
      let c = g.recounted.counted who in
      let t = (g.recounted.tales.of who).flow id in
      seen-as a b (past_of h) v who (joined-from f) (HasArrived ((past_of h).flow who id) who id (past_of h).accepted v.sent)
      (arrived_seen (past_of h) v who id t (g.traced who id) (none-unreported who) (λ r. leaves-no-rest a b h v f idle g.recounted.tales g.told who id r) (alike_told who id t (made_at a b who) (g.recounted.tales.of who) c (c.tells.flow_is id)) unreset)
