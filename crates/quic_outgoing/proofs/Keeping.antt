-- What a call leaves of the budget, and of the streams that were opened.
use Rattle.std.proofs.Common.{◌≡◌, ℕ, ℤ, Bool, true, false, cond, List, [], ◌∷◌, Option, Some, None, refl, ap, ◌∙◌}
use Rattle.std.specs.Prelude.{MatchBool}
use Rattle.quic_limits.specs.SendingCredit.{SendingCredit, with_blocked, is_blocked_due}
use Rattle.quic_sending.specs.declared.send.Send.{Send}
use Rattle.quic_outgoing.specs.declared.limits.PeerLimits.{PeerLimits}
use Rattle.quic_outgoing.specs.Outgoing.{Outgoing, with_send_half, with_params, waiting, is_stuck}
use Rattle.quic_outgoing.specs.Params.{as_waiting, with_waiting, with_woken, own_woken}
use Rattle.quic_outgoing.specs.Calls.{after_rise, with_rise, is_woken, with_stop_reason, PollsWritable}
use Rattle.quic_outgoing.specs.Writing.{after_blocked}
use Rattle.std.specs.declared.ops.Range.{Range}
use Rattle.quic_outgoing.specs.Acknowledging.{AcksHalf, LosesOnHalf, were_sent, is_given_up, without_given_up}
use Rattle.std.specs.Prelude.{◌&&◌}

-- nothing more was sent, no limit rose, and nothing was opened
pub record Keeps (u v : Outgoing) : Type 0 where
  pub side : v.side ≡ u.side
  pub sent : v.budget.data_sent ≡ u.budget.data_sent
  pub limit : v.budget.max_data ≡ u.budget.max_data
  pub bi : v.own_bi ≡ u.own_bi
  pub uni : v.own_uni ≡ u.own_uni

pub keeps-all : (u : Outgoing) → Keeps u u
keeps-all u = record { side = refl; sent = refl; limit = refl; bi = refl; uni = refl }

pub keeps-is : {u v w : Outgoing} → w ≡ v → Keeps u v → Keeps u w
keeps-is {u} {v} {w} e k = record {
  side = ap (λ (x : Outgoing). x.side) e ∙ k.side;
  sent = ap (λ (x : Outgoing). x.budget.data_sent) e ∙ k.sent;
  limit = ap (λ (x : Outgoing). x.budget.max_data) e ∙ k.limit;
  bi = ap (λ (x : Outgoing). x.own_bi) e ∙ k.bi;
  uni = ap (λ (x : Outgoing). x.own_uni) e ∙ k.uni;
}

pub keeps-stream : (u : Outgoing) (id : ℕ) (o : Option Send) → Keeps u (with_send_half u id o)
keeps-stream u id o = record { side = refl; sent = refl; limit = refl; bi = refl; uni = refl }

keeps-choice : (b : Bool) (u v w : Outgoing) → Keeps u v → Keeps u w → Keeps u (cond b v w)
keeps-choice true u v w a b = a
keeps-choice false u v w a b = b

keeps-waiting : (u : Outgoing) (id : ℕ) (s : Send) → Keeps u (waiting u id s)
keeps-waiting u id s = keeps-choice s.connection_blocked u _ _ (keeps-stream u id (Some s)) (record { side = refl; sent = refl; limit = refl; bi = refl; uni = refl })

keeps-on : {u v w : Outgoing} → Keeps u v → Keeps v w → Keeps u w
keeps-on a b = record {
  side = b.side ∙ a.side;
  sent = b.sent ∙ a.sent;
  limit = b.limit ∙ a.limit;
  bi = b.bi ∙ a.bi;
  uni = b.uni ∙ a.uni;
}

keeps-as : (u : Outgoing) (id : ℕ) (o : Option Send) → Keeps u (as_waiting u id o)
keeps-as u id None = keeps-all u
keeps-as u id (Some s) = keeps-waiting u id s

keeps-waits : (u : Outgoing) (ids : List ℕ) → Keeps u (with_waiting u ids)
keeps-waits u [] = keeps-all u
keeps-waits u (id ∷ ids) = keeps-on (keeps-as u id (u.halves id)) (keeps-waits (as_waiting u id (u.halves id)) ids)

pub keeps-woken : (u : Outgoing) (p : PeerLimits) → Keeps u (with_woken u p)
keeps-woken u p = keeps-choice (is_stuck (with_params u p)) u _ _ (keeps-waits u (own_woken u p)) (keeps-all u)

pub keeps-rise : (u : Outgoing) (id n : ℕ) (o : Option Send) → Keeps u (after_rise u id n o)
keeps-rise u id n None = keeps-all u
keeps-rise u id n (Some s) = keeps-choice (is_woken s n && is_stuck u) u _ _ (keeps-waiting u id (with_rise s n)) (keeps-stream u id (Some (with_rise s n)))

pub keeps-stop : (u : Outgoing) (id code : ℕ) (o : Option Send) → Keeps u (with_stop_reason u id code o)
keeps-stop u id code None = keeps-all u
keeps-stop u id code (Some s) = keeps-stream u id _

blocked-sent : (b : Bool) (c : SendingCredit) (at : Option ℕ) → (cond b (record c { blocked_at = at }) c).data_sent ≡ c.data_sent
blocked-sent true c at = refl
blocked-sent false c at = refl

blocked-limit : (b : Bool) (c : SendingCredit) (at : Option ℕ) → (cond b (record c { blocked_at = at }) c).max_data ≡ c.max_data
blocked-limit true c at = refl
blocked-limit false c at = refl

keeps-told : (u v : Outgoing) → Keeps u v → Keeps u (record v { budget = with_blocked u.budget })
keeps-told u v k = record {
  side = k.side;
  sent = blocked-sent (is_blocked_due u.budget) u.budget (Some u.budget.max_data);
  limit = blocked-limit (is_blocked_due u.budget) u.budget (Some u.budget.max_data);
  bi = k.bi;
  uni = k.uni;
}

pub keeps-blocked : (u : Outgoing) (id : ℕ) (o : Option Send) → Keeps u (after_blocked u id o)
keeps-blocked u id None = keeps-all u
keeps-blocked u id (Some s) = keeps-choice (is_stuck u) u _ _ (keeps-told u (waiting u id s) (keeps-waiting u id s)) (keeps-stream u id _)

none-polled : (b : Bool) (P : Type 0) (u v w : Outgoing) → Keeps u w → MatchBool b (v ≡ u) (P × (v ≡ w)) → Keeps u v
none-polled true P u v w k h = keeps-is h (keeps-all u)
none-polled false P u v w k h = keeps-is h.1 k

pub keeps-polled : (u v : Outgoing) (answer : Option ℕ) → PollsWritable u answer v → Keeps u v
keeps-polled u v None h = none-polled (is_stuck u) _ u v _ (record { side = refl; sent = refl; limit = refl; bi = refl; uni = refl }) h
keeps-polled u v (Some id) h = keeps-is h.6 (record { side = refl; sent = refl; limit = refl; bi = refl; uni = refl })

keeps-either : (b : Bool) {P Q : Type 0} (u v : Outgoing) → (P → Keeps u v) → (Q → Keeps u v) → MatchBool b P Q → Keeps u v
keeps-either true u v p q h = p h
keeps-either false u v p q h = q h

pub keeps-acked : (u : Outgoing) (id : ℕ) (offsets : Range ℕ) (fin done : Bool) (v : Outgoing)
    → MatchBool (were_sent (u.halves id) offsets) (AcksHalf u id offsets fin done v) ((done ≡ false) × (v ≡ u)) → Keeps u v
keeps-acked u id offsets fin done v h = keeps-either (were_sent (u.halves id) offsets) u v
    (λ a. keeps-is a.is (record { side = refl; sent = refl; limit = refl; bi = refl; uni = refl })) (λ n. keeps-is n.1 (keeps-all u)) h

pub keeps-lost : (u : Outgoing) (id : ℕ) (offsets : Range ℕ) (fin : Bool) (queue : Option ℤ) (v : Outgoing)
    → MatchBool (were_sent (u.halves id) offsets) (LosesOnHalf u id offsets fin queue v) ((queue ≡ None) × (v ≡ u)) → Keeps u v
keeps-lost u id offsets fin queue v h = keeps-either (were_sent (u.halves id) offsets) u v
    (λ a. keeps-is a.is (keeps-stream u id (Some a.after))) (λ n. keeps-is n.1 (keeps-all u)) h

pub keeps-given-up : (u : Outgoing) (id : ℕ) → Keeps u (without_given_up u id)
keeps-given-up u id = keeps-choice (is_given_up (u.halves id)) u _ _ (keeps-stream u id None) (keeps-all u)
