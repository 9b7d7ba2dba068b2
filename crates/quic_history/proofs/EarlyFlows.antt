-- What is told of the sending sides stays true where an early start is rejected, or sent again.
use Rattle.std.proofs.Common.{◌≡◌, ℕ, Bool, true, false, List, [], ◌∷◌, Option, Some, None, is_some, refl, sym, ap, ◌∙◌, subst, arith}
use Rattle.std.specs.Prelude.{◌||◌, is_none, nat_lt, if◌then◌else◌}
use Rattle.std.specs.Option.{option_map}
use Rattle.std.proofs.lemmas.Bool.Decides.{nat_tests}
use Rattle.quic_values.specs.declared.ids.Side.{Side}
use Rattle.quic_values.specs.declared.ids.Dir.{Dir}
use Rattle.quic_values.specs.declared.ids.Dir.TheVariants.{Bi, Uni}
use Rattle.quic_values.specs.Ids.{dir_of, index_of}
use Rattle.quic_sending.specs.declared.send.Send.{Send}
use Rattle.quic_sending.specs.Sending.{is_reset_sent}
use Rattle.quic_flows.specs.Flow.{SendFlow, new_flow, retained, state_told, FlowFrom, FlowAt}
use Rattle.quic_flows.proofs.FlowSteps.{flow-fresh}
use Rattle.quic_outgoing.specs.Senders.{is_local, first_for, first_limit, no_limits, new_sender}
use Rattle.quic_outgoing.specs.Outgoing.{Outgoing, own_of}
use Rattle.quic_outgoing.specs.Transmitting.{is_data_sent}
use Rattle.quic_outgoing.specs.Early.{of_peer_anew, after_rejection, as_unsent, own_unsent, with_all_unsent}
use Rattle.quic_history.specs.Flows.{has_side_in, is_answered_on, AllFlows}
use Rattle.quic_history.specs.Early.{IsEarly, with_unsent}
use Rattle.quic_history.specs.World.{World}
use Rattle.quic_history.specs.History.{total_over}
use Rattle.quic_history.proofs.SendSides.{none-held}

-- ---- a rejection

pub none-first : (own : Bool) (d : Dir) → first_for own d no_limits ≡ 0
none-first true Bi = refl
none-first true Uni = refl
none-first false Bi = refl
none-first false Uni = refl

not_open : (first : ℕ) → first ≡ 0 → FlowAt first (new_flow 0) false None
not_open first z = ap new_flow (sym z)

none_opened : (o : Outgoing) (d : Dir) (n : ℕ) → nat_lt n (own_of (after_rejection o) d).opened ≡ false
none_opened o Bi n = grind (arith, nat_tests)
none_opened o Uni n = grind (arith, nat_tests)

peer_anew : (first : ℕ) (k : Bool) (o : Option Send) → first ≡ 0 → (k ≡ true → is_some o ≡ true) → (k ≡ false → o ≡ None) → FlowAt first (new_flow 0) k (option_map (λ s. new_sender 0) o)
peer_anew first true (Some s) z there none = flow-fresh 0
peer_anew first true None z there none = let k = there refl in cc
peer_anew first false (Some s) z there none = let k = none refl in cc
peer_anew first false None z there none = not_open first z

pub flows-rejected : (f : ℕ → SendFlow) (u : World) → IsEarly u → AllFlows f u.out u.bi.max_remote → AllFlows (λ q. new_flow 0) (after_rejection u.out) u.bi.max_remote
unfolding of_peer_anew
flows-rejected f u early all q = by (is_local u.out.side q) refl
  where
    by : (b : Bool) → is_local u.out.side q ≡ b
        → FlowAt (first_for b (dir_of q) no_limits) (new_flow 0) (if b then nat_lt (index_of q) (own_of (after_rejection u.out) (dir_of q)).opened else is_answered_on (dir_of q) u.bi.max_remote (index_of q))
        (if b then None else option_map (λ s. new_sender 0) (u.out.halves q))
    by true e = rw (none_opened u.out (dir_of q) (index_of q)) (not_open (first_for true (dir_of q) no_limits) (none-first true (dir_of q)))
    by false e =
        let side : has_side_in u.out u.bi.max_remote q ≡ is_answered_on (dir_of q) u.bi.max_remote (index_of q) =
        ap (λ b. if b then nat_lt (index_of q) (own_of u.out (dir_of q)).opened else is_answered_on (dir_of q) u.bi.max_remote (index_of q)) e in
        peer_anew (first_for false (dir_of q) no_limits) (is_answered_on (dir_of q) u.bi.max_remote (index_of q)) (u.out.halves q) (none-first false (dir_of q))
        (λ t. early.peer q e (side ∙ t))
        (λ n. none-held _ (f q) (has_side_in u.out u.bi.max_remote q) (u.out.halves q) (side ∙ n) (all q))

pub none-in-all : (ids : List ℕ) → 0 ≡ total_over (λ q. retained (new_flow 0)) ids
none-in-all [] = refl
none-in-all (q ∷ ids) = let k = none-in-all ids in omega arith

-- ---- all is sent again

pub sent_state : (finished acked : Bool) → is_data_sent (state_told None finished acked) ≡ finished
sent_state true acked = refl
sent_state false acked = refl

pub reset_state : (o : Option ℕ) (finished acked : Bool) → is_reset_sent (state_told o finished acked) ≡ is_some o
reset_state None true acked = refl
reset_state None false acked = refl
reset_state (Some code) finished acked = refl

none_sent : (n : ℕ) → nat_lt n 0 ≡ false
none_sent n = grind (arith, nat_tests)

pub unsent-flow : (t : SendFlow) (s : Send) → FlowFrom t s → FlowFrom (with_unsent t) (as_unsent s)
unsent-flow t s f = by t.reset refl
  where
    gone : (code : ℕ) → t.reset ≡ Some code → FlowFrom (with_unsent t) (as_unsent s)
    gone code e =
        let r : is_reset_sent s.state ≡ true = ap is_reset_sent f.state ∙ reset_state t.reset t.finished t.end_acked ∙ ap (λ (o : Option ℕ). is_some o) e in
        rw (ap (λ (o : Option ℕ). is_none o) e, r) f

    here : t.reset ≡ None → FlowFrom (with_unsent t) (as_unsent s)
    here e =
        let r : is_reset_sent s.state ≡ false = ap is_reset_sent f.state ∙ reset_state t.reset t.finished t.end_acked ∙ ap (λ (o : Option ℕ). is_some o) e in
        let o = f.offsets e in
        let ended : is_data_sent s.state ≡ t.finished = ap is_data_sent f.state ∙ ap (λ (x : Option ℕ). is_data_sent (state_told x t.finished t.end_acked)) e ∙ sent_state t.finished t.end_acked in
        rw (ap (λ (x : Option ℕ). is_none x) e, r) (record {
          there = f.there;
          cuts = record { written = f.cuts.written; retained = f.cuts.retained };
          within = f.within;
          limit = f.limit;
          state = f.state;
          stopped = f.stopped;
          end_due = ap (λ b. b || is_data_sent s.state) f.end_due ∙ ap (λ b. t.end_due || b) ended;
          offsets = λ k. record { sent = λ n. none_sent n; unsent = refl; lost = λ n. refl; lost_sent = λ n h. cc; acked = o.acked; first = o.first };
          empty = f.empty;
        })

    by : (o : Option ℕ) → t.reset ≡ o → FlowFrom (with_unsent t) (as_unsent s)
    by None e = here e
    by (Some code) e = gone code e

pub unsent-freed : (t : SendFlow) → (with_unsent t).freed ≡ t.freed
unsent-freed t = by (is_none t.reset)
  where
    by : (b : Bool) → (if b then record t { carried = λ n. false; sent_up_to = 0; missing = λ n. false; end_due = t.end_due || t.finished } else t).freed ≡ t.freed
    by true = refl
    by false = refl

pub unsent-retained : (t : SendFlow) → retained (with_unsent t) ≡ retained t
unsent-retained t = by (is_none t.reset)
  where
    by : (b : Bool) → retained (if b then record t { carried = λ n. false; sent_up_to = 0; missing = λ n. false; end_due = t.end_due || t.finished } else t) ≡ retained t
    by true = refl
    by false = refl

unsent_at : (first : ℕ) (t : SendFlow) (k : Bool) (o : Option Send) → FlowAt first t k o → FlowAt first (with_unsent t) k (option_map as_unsent o)
unsent_at first t true (Some s) f = unsent-flow t s f
unsent_at first t true None f = unsent-freed t ∙ f
unsent_at first t false (Some s) f = absurd f
unsent_at first t false None f = ap with_unsent f

pub flows-unsent : (f : ℕ → SendFlow) (side : Side) (a : Outgoing) (n : ℕ) → a.side ≡ side → AllFlows f a n → AllFlows (λ q. if is_local side q then with_unsent (f q) else f q) (with_all_unsent a) n
unfolding own_unsent
flows-unsent f side a n e all = subst (λ (s : Side). AllFlows (λ q. if is_local s q then with_unsent (f q) else f q) (with_all_unsent a) n) e every
  where
    at : (q : ℕ) (b : Bool) → FlowAt (first_limit a.side a.first q) (if b then with_unsent (f q) else f q) (has_side_in a n q) (if b then option_map as_unsent (a.halves q) else a.halves q)
    at q true = unsent_at (first_limit a.side a.first q) (f q) (has_side_in a n q) (a.halves q) (all q)
    at q false = all q

    every : AllFlows (λ q. if is_local a.side q then with_unsent (f q) else f q) (with_all_unsent a) n
    every q = at q (is_local a.side q)
