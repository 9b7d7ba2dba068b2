-- Which streams have a sending side, and what leaves all that is told of them.
use Rattle.std.proofs.Common.{◌≡◌, ℕ, Bool, true, false, eqb, Option, Some, None, is_some, refl, sym, ap, ◌∙◌, subst, arith, ◌+◌, ◌/◌, ◌%◌, ◌<◌, List, [], ◌∷◌}
use Rattle.std.specs.Prelude.{◌==◌, ◌||◌, ◌++◌, nat_lt, if◌then◌else◌, unwrap_or, is_none, max}
use Rattle.std.specs.Option.{option_map}
use Rattle.std.specs.List.{list_any}
use Rattle.std.proofs.lemmas.Bool.Decides.{nat_tests}
use Rattle.quic_values.specs.declared.ids.Side.{Side}
use Rattle.quic_values.specs.declared.ids.Side.TheVariants.{Client, Server}
use Rattle.quic_values.specs.declared.ids.Dir.{Dir}
use Rattle.quic_values.specs.declared.ids.Dir.TheVariants.{Bi, Uni}
use Rattle.quic_values.specs.Ids.{stream_id, other_side, is_client_side, dir_of, index_of}
use Rattle.quic_sending.specs.declared.send.Send.{Send}
use Rattle.quic_limits.specs.Own.{Own, with_next_own}
use Rattle.quic_limits.specs.SendingCredit.{SendingCredit, with_blocked, is_blocked_due}
use Rattle.quic_flows.specs.Flow.{SendMove, WasWritten, WasFinished, WasGivenUp, WasAskedToStop, WasPermitted, WasCarried, WasAcked, WasLost, WasResetAcked, SendFlow, new_flow, with_least_limit, with_send_move, takes_data, counts_for, FlowFrom, FlowAt, is_whole, with_acked}
use Rattle.quic_flows.proofs.FlowSteps.{Core, core, flow-core, flow-fresh, flow-raised}
use Rattle.quic_outgoing.specs.Senders.{SendersById, with_sender, new_sender, is_local, are_one_end, first_limit, first_for, joined, raised, raised_by, is_between, with_more_of_peer}
use Rattle.quic_outgoing.specs.Outgoing.{Outgoing, own_of, with_own, with_send_half, with_more_streams, fresh_sender, with_params, first_of, waiting, marked, is_stuck}
use Rattle.quic_outgoing.specs.declared.limits.PeerLimits.{PeerLimits}
use Rattle.quic_outgoing.specs.declared.entries.FirstLimits.{FirstLimits}
use Rattle.quic_outgoing.specs.Calls.{without_marks}
use Rattle.quic_outgoing.specs.Writing.{after_blocked}
use Rattle.quic_history.specs.Flows.{has_side_in, is_answered_on, AllFlows}
use Rattle.quic_history.proofs.Totals.{by_cases, same}
use Rattle.quic_history.proofs.Traces.{itself}
use Rattle.quic_history.proofs.Refusals.{is_bi, side-bit, dir-bit, index-id}
use Rattle.quic_outgoing.specs.Params.{as_waiting, with_waiting, with_woken, own_woken}

-- ---- which streams have a sending side

-- by whether this end opens it, whether it is bidirectional, how many are open, and its index
abbrev pub side_by : Bool → Bool → ℕ → ℕ → ℕ → ℕ → Bool
side_by true true bi uni n i = nat_lt i bi
side_by true false bi uni n i = nat_lt i uni
side_by false true bi uni n i = nat_lt i n
side_by false false bi uni n i = false

side_parts : (o : Outgoing) (n i : ℕ) (own bi : Bool)
    → (if own then nat_lt i (own_of o (if bi then Bi else Uni)).opened else is_answered_on (if bi then Bi else Uni) n i) ≡ side_by own bi o.own_bi.opened o.own_uni.opened n i
side_parts o n i true true = refl
side_parts o n i true false = refl
side_parts o n i false true = refl
side_parts o n i false false = refl

pub side-is : (o : Outgoing) (n q : ℕ) → has_side_in o n q ≡ side_by (is_local o.side q) (q / 2 % 2 == 0) o.own_bi.opened o.own_uni.opened n (index_of q)
side-is o n q = side_parts o n (index_of q) (is_local o.side q) (q / 2 % 2 == 0)

-- so many more bidirectional streams of the peer
more_parts : (s : Side) (b c : Bool) (bi uni q n k : ℕ) → (q % 2 == 0) ≡ b → (q / 2 % 2 == 0) ≡ c → is_between (other_side s) Bi n k q ≡ false
    → side_by (are_one_end s (if b then Client else Server)) c bi uni (n + k) (q / 4) ≡ side_by (are_one_end s (if b then Client else Server)) c bi uni n (q / 4)
more_parts Client true true bi uni q n k e d l = refl
more_parts Client true false bi uni q n k e d l = refl
more_parts Client false true bi uni q n k e d l = grind (arith, nat_tests)
more_parts Client false false bi uni q n k e d l = refl
more_parts Server true true bi uni q n k e d l = grind (arith, nat_tests)
more_parts Server true false bi uni q n k e d l = refl
more_parts Server false true bi uni q n k e d l = refl
more_parts Server false false bi uni q n k e d l = refl

-- one of those had none, and has one
record OneOfMore (s : Side) (c own : Bool) (bi uni q n k : ℕ) : Type 0 where
  pub before : side_by own c bi uni n (q / 4) ≡ false
  pub after : side_by own c bi uni (n + k) (q / 4) ≡ true

one_of_more : (s : Side) (b c : Bool) (bi uni q n k : ℕ) → (q % 2 == 0) ≡ b → (q / 2 % 2 == 0) ≡ c → is_between (other_side s) Bi n k q ≡ true
    → OneOfMore s c (are_one_end s (if b then Client else Server)) bi uni q n k
one_of_more Client true c bi uni q n k e d l = absurd (apart q n k e l)
  where
    apart : (q n k : ℕ) → (q % 2 == 0) ≡ true → is_between Server Bi n k q ≡ true → ⊥
    apart q n k e l = grind (arith, nat_tests)
one_of_more Client false true bi uni q n k e d l = record { before = grind (arith, nat_tests); after = grind (arith, nat_tests) }
one_of_more Client false false bi uni q n k e d l = absurd (apart q n k d l)
  where
    apart : (q n k : ℕ) → (q / 2 % 2 == 0) ≡ false → is_between Server Bi n k q ≡ true → ⊥
    apart q n k e l = grind (arith, nat_tests)
one_of_more Server false c bi uni q n k e d l = absurd (apart q n k e l)
  where
    apart : (q n k : ℕ) → (q % 2 == 0) ≡ false → is_between Client Bi n k q ≡ true → ⊥
    apart q n k e l = grind (arith, nat_tests)
one_of_more Server true true bi uni q n k e d l = record { before = grind (arith, nat_tests); after = grind (arith, nat_tests) }
one_of_more Server true false bi uni q n k e d l = absurd (apart q n k d l)
  where
    apart : (q n k : ℕ) → (q / 2 % 2 == 0) ≡ false → is_between Client Bi n k q ≡ true → ⊥
    apart q n k e l = grind (arith, nat_tests)

-- the next one alone
pub one-between : (s : Side) (q n : ℕ) → is_between (other_side s) Bi n 1 q ≡ eqb q (stream_id (other_side s) Bi n)
one-between Client q n = by_cases (eqb q (stream_id Server Bi n)) (λ t. let e : q ≡ stream_id Server Bi n = same q (stream_id Server Bi n) t in rw (t, e) (at n)) (λ f. rw f (apart q n f))
  where
    at : (n : ℕ) → is_between Server Bi n 1 (stream_id Server Bi n) ≡ true
    at n = grind (arith, nat_tests)

    apart : (q n : ℕ) → eqb q (stream_id Server Bi n) ≡ false → is_between Server Bi n 1 q ≡ false
    apart q n f = grind (arith, nat_tests)
one-between Server q n = by_cases (eqb q (stream_id Client Bi n)) (λ t. let e : q ≡ stream_id Client Bi n = same q (stream_id Client Bi n) t in rw (t, e) (at n)) (λ f. rw f (apart q n f))
  where
    at : (n : ℕ) → is_between Client Bi n 1 (stream_id Client Bi n) ≡ true
    at n = grind (arith, nat_tests)

    apart : (q n : ℕ) → eqb q (stream_id Client Bi n) ≡ false → is_between Client Bi n 1 q ≡ false
    apart q n f = grind (arith, nat_tests)

-- ---- what is told of one stream

some_core : (c d : Core) → Some c ≡ Some d → c ≡ d
some_core c d e = ap (λ (o : Option Core). unwrap_or o d) e

flow_at_core : (first : ℕ) (t : SendFlow) (k : Bool) (o o' : Option Send) → option_map core o' ≡ option_map core o → FlowAt first t k o → FlowAt first t k o'
flow_at_core first t true (Some s) (Some s') e f = flow-core t s s' (some_core (core s') (core s) e) f
flow_at_core first t true (Some s) None e f = cc
flow_at_core first t true None (Some s') e f = cc
flow_at_core first t true None None e f = f
flow_at_core first t false (Some s) o' e f = absurd f
flow_at_core first t false None (Some s') e f = cc
flow_at_core first t false None None e f = f

-- a stream without a sending side has no half, and nothing was done on it
pub none-done : (first : ℕ) (t : SendFlow) (k : Bool) (o : Option Send) → k ≡ false → FlowAt first t k o → t ≡ new_flow first
none-done first t true o e f = cc
none-done first t false (Some s) e f = absurd f
none-done first t false None e f = f

pub none-held : (first : ℕ) (t : SendFlow) (k : Bool) (o : Option Send) → k ≡ false → FlowAt first t k o → o ≡ None
none-held first t true o e f = cc
none-held first t false (Some s) e f = absurd f
none-held first t false None e f = refl

-- one that has a half has a side, and is as it is told
pub held-side : (first : ℕ) (t : SendFlow) (k : Bool) (s : Send) (o : Option Send) → o ≡ Some s → FlowAt first t k o → k ≡ true
held-side first t true s o e f = refl
held-side first t false s None e f = cc
held-side first t false s (Some s') e f = absurd f

pub held-flow : (first : ℕ) (t : SendFlow) (k : Bool) (s : Send) (o : Option Send) → o ≡ Some s → FlowAt first t k o → FlowFrom t s
held-flow first t true s None e f = cc
held-flow first t true s (Some s') e f = let there : s' ≡ s = ap (λ (o : Option Send). unwrap_or o s) e in let P : Send → Type 0 = λ x. FlowFrom t x in subst P there f
held-flow first t false s None e f = cc
held-flow first t false s (Some s') e f = absurd f

flow_at : (first first' : ℕ) (t t' : SendFlow) (k k' : Bool) (o o' : Option Send) → first' ≡ first → t' ≡ t → k' ≡ k → o' ≡ o → FlowAt first t k o → FlowAt first' t' k' o'
flow_at first first' t t' k k' o o' a b c d f = rw (a, b, c, d) f

-- a new half
flow_at_new : (first : ℕ) (t : SendFlow) (k : Bool) (o : Option Send) → t ≡ new_flow first → k ≡ true → o ≡ Some (new_sender first) → FlowAt first t k o
flow_at_new first t k o e l is = rw (e, l, is) (flow-fresh first)

-- ---- a call that changes nothing of which is told

pub record SameSides (a b : Outgoing) : Type 0 where
  pub side : b.side ≡ a.side
  pub first : b.first ≡ a.first
  pub bi : b.own_bi.opened ≡ a.own_bi.opened
  pub uni : b.own_uni.opened ≡ a.own_uni.opened
  pub cores : (q : ℕ) → option_map core (b.halves q) ≡ option_map core (a.halves q)
  pub buffered : b.budget.buffered_data ≡ a.budget.buffered_data
  pub window : b.budget.send_window ≡ a.budget.send_window

pub same-side : (a b : Outgoing) (n q : ℕ) → b.side ≡ a.side → b.own_bi.opened ≡ a.own_bi.opened → b.own_uni.opened ≡ a.own_uni.opened → has_side_in b n q ≡ has_side_in a n q
same-side a b n q side bi uni = side-is b n q ∙ rw (side, bi, uni) (sym (side-is a n q))

pub same-limit : (a b : Outgoing) (q : ℕ) → b.side ≡ a.side → b.first ≡ a.first → first_limit b.side b.first q ≡ first_limit a.side a.first q
same-limit a b q side first = rw (side, first) refl

pub flows-same : (f : ℕ → SendFlow) (a b : Outgoing) (n : ℕ) → SameSides a b → AllFlows f a n → AllFlows f b n
flows-same f a b n s all q =
    flow_at _ _ (f q) (f q) (has_side_in a n q) (has_side_in b n q) (b.halves q) (b.halves q) (same-limit a b q s.side s.first) refl (same-side a b n q s.side s.bi s.uni) refl
    (flow_at_core _ (f q) (has_side_in a n q) (a.halves q) (b.halves q) (s.cores q) (all q))

pub sides-none : (a : Outgoing) → SameSides a a
sides-none a = record { side = refl; first = refl; bi = refl; uni = refl; cores = λ q. refl; buffered = refl; window = refl }

pub sides-then : (a b c : Outgoing) → SameSides a b → SameSides b c → SameSides a c
sides-then a b c s t = record {
  side = t.side ∙ s.side;
  first = t.first ∙ s.first;
  bi = t.bi ∙ s.bi;
  uni = t.uni ∙ s.uni;
  cores = λ q. t.cores q ∙ s.cores q;
  buffered = t.buffered ∙ s.buffered;
  window = t.window ∙ s.window;
}

pub sides-at : (a b c : Outgoing) → b ≡ c → SameSides a c → SameSides a b
sides-at a b c e s = let P : Outgoing → Type 0 = λ x. SameSides a x in subst P (sym e) s

cores_put : (f : SendersById) (id : ℕ) (s t : Send) → f id ≡ Some s → core t ≡ core s → (q : ℕ) → option_map core ((with_sender f id (Some t)) q) ≡ option_map core (f q)
unfolding with_sender
cores_put f id s t e k q = by_cases (eqb q id)
    (λ c. let there : option_map core (f q) ≡ Some (core s) = ap (λ j. option_map core (f j)) (same q id c) ∙ ap (λ o. option_map core o) e in rw c (ap (λ x. Some x) k ∙ sym there))
    (λ n. rw n refl)

-- another half of the same parts
pub sides-put : (a : Outgoing) (id : ℕ) (s t : Send) → a.halves id ≡ Some s → core t ≡ core s → SameSides a (with_send_half a id (Some t))
sides-put a id s t e k = record { side = refl; first = refl; bi = refl; uni = refl; cores = cores_put a.halves id s t e k; buffered = refl; window = refl }

-- a stream waits
pub sides-waits : (a : Outgoing) (id : ℕ) (s t : Send) → a.halves id ≡ Some s → core t ≡ core s → SameSides a (waiting a id t)
sides-waits a id s t e k = by_mark t.connection_blocked
  where
    by_mark : (b : Bool) → SameSides a (if b then with_send_half a id (Some t) else record (with_send_half a id (Some (marked true t))) { blocked = a.blocked ++ id ∷ [] })
    by_mark true = sides-put a id s t e k
    by_mark false = record { side = refl; first = refl; bi = refl; uni = refl; cores = cores_put a.halves id s (marked true t) e k; buffered = refl; window = refl }

sides-as : (a : Outgoing) (id : ℕ) (o : Option Send) → a.halves id ≡ o → SameSides a (as_waiting a id o)
sides-as a id None e = sides-none a
sides-as a id (Some s) e = sides-waits a id s s e refl

sides-waiting : (a : Outgoing) (ids : List ℕ) → SameSides a (with_waiting a ids)
sides-waiting a [] = sides-none a
sides-waiting a (id ∷ ids) = let b = as_waiting a id (a.halves id) in sides-then a b _ (sides-as a id (a.halves id) refl) (sides-waiting b ids)

-- the streams wait that limits let be written on
pub sides-woken : (a : Outgoing) (p : PeerLimits) → SameSides a (with_woken a p)
sides-woken a p = by_stuck (is_stuck (with_params a p))
  where
    by_stuck : (b : Bool) → SameSides a (if b then with_waiting a (own_woken a p) else a)
    by_stuck true = sides-waiting a (own_woken a p)
    by_stuck false = sides-none a

cores_unmarked : (f : SendersById) (ids : List ℕ) (q : ℕ) → option_map core ((without_marks f ids) q) ≡ option_map core (f q)
unfolding without_marks
cores_unmarked f ids q = by_test (list_any (λ id. q == id) ids) (f q)
  where
    by_test : (b : Bool) (o : Option Send) → option_map core (if b then option_map (marked false) o else o) ≡ option_map core o
    by_test true None = refl
    by_test true (Some s) = refl
    by_test false o = refl

-- streams wait no more
pub sides-unmarked : (a : Outgoing) (ids left : List ℕ) → SameSides a (record a { halves = without_marks a.halves ids; blocked = left })
sides-unmarked a ids left = record { side = refl; first = refl; bi = refl; uni = refl; cores = cores_unmarked a.halves ids; buffered = refl; window = refl }

blocked_buffered : (c : SendingCredit) (b : Bool) → (if b then record c { blocked_at = Some c.max_data } else c).buffered_data ≡ c.buffered_data
blocked_buffered c true = refl
blocked_buffered c false = refl

blocked_window : (c : SendingCredit) (b : Bool) → (if b then record c { blocked_at = Some c.max_data } else c).send_window ≡ c.send_window
blocked_window c true = refl
blocked_window c false = refl

-- DATA_BLOCKED was queued, or not
pub sides-noted : (a b : Outgoing) → SameSides a b → SameSides a (record b { budget = with_blocked a.budget })
sides-noted a b s = record {
  side = s.side;
  first = s.first;
  bi = s.bi;
  uni = s.uni;
  cores = s.cores;
  buffered = blocked_buffered a.budget (is_blocked_due a.budget);
  window = blocked_window a.budget (is_blocked_due a.budget);
}

-- a write found nothing to be writable
pub sides-blocked : (a : Outgoing) (id : ℕ) (o : Option Send) → a.halves id ≡ o → SameSides a (after_blocked a id o)
sides-blocked a id None e = sides-none a
sides-blocked a id (Some s) e = by_stuck (is_stuck a)
  where
    by_stuck : (k : Bool) → SameSides a (if k then record (waiting a id s) { budget = with_blocked a.budget } else with_send_half a id (Some (record s { data_blocked_limit = Some s.max_data })))
    by_stuck true = sides-noted a (waiting a id s) (sides-waits a id s s e refl)
    by_stuck false = sides-put a id s _ e refl

-- ---- more streams

pub flows-more : (f : ℕ → SendFlow) (a : Outgoing) (n k : ℕ) → AllFlows f a n → AllFlows f (with_more_streams a n k) (n + k)
unfolding with_more_of_peer
flows-more f a n k all q = by_cases (is_between (other_side a.side) Bi n k q)
    (λ t.
    let one = one_of_more a.side (q % 2 == 0) (q / 2 % 2 == 0) a.own_bi.opened a.own_uni.opened q n k refl refl t in
    let none = none-done _ (f q) (has_side_in a n q) (a.halves q) (side-is a n q ∙ one.before) (all q) in
    flow_at_new _ (f q) (has_side_in a (n + k) q) _ none (side-is a (n + k) q ∙ one.after) (rw t refl))
    (λ e. flow_at _ _ (f q) (f q) (has_side_in a n q) (has_side_in a (n + k) q) (a.halves q) _ refl refl
    (side-is a (n + k) q ∙ more_parts a.side (q % 2 == 0) (q / 2 % 2 == 0) a.own_bi.opened a.own_uni.opened q n k refl refl e ∙ sym (side-is a n q)) (rw e refl) (all q))

-- the same halves
pub flows-halves : (f : ℕ → SendFlow) (a b : Outgoing) (n : ℕ) → b.side ≡ a.side → b.first ≡ a.first → b.own_bi.opened ≡ a.own_bi.opened → b.own_uni.opened ≡ a.own_uni.opened
    → ((q : ℕ) → b.halves q ≡ a.halves q) → AllFlows f a n → AllFlows f b n
flows-halves f a b n side first bi uni halves all q =
    flow_at _ _ (f q) (f q) (has_side_in a n q) (has_side_in b n q) (a.halves q) (b.halves q) (same-limit a b q side first) refl (same-side a b n q side bi uni) (halves q) (all q)

one_half : (a : Outgoing) (n q : ℕ) → (with_send_half a (stream_id (other_side a.side) Bi n) (Some (fresh_sender a (stream_id (other_side a.side) Bi n)))).halves q ≡ (with_more_streams a n 1).halves q
unfolding with_sender with_more_of_peer
one_half a n q = by_cases (eqb q (stream_id (other_side a.side) Bi n))
    (λ t. let e : q ≡ stream_id (other_side a.side) Bi n = same q _ t in
    rw (one-between a.side q n, t) (ap (λ k. Some (fresh_sender a k)) (sym e)))
    (λ f. rw (one-between a.side q n, f) refl)

-- the next bidirectional stream of the peer is permitted
pub flows-next : (f : ℕ → SendFlow) (a : Outgoing) (n : ℕ) → AllFlows f a n
    → AllFlows f (with_send_half a (stream_id (other_side a.side) Bi n) (Some (fresh_sender a (stream_id (other_side a.side) Bi n)))) (n + 1)
flows-next f a n all =
    let id : ℕ = stream_id (other_side a.side) Bi n in
    flows-halves f (with_more_streams a n 1) (with_send_half a id (Some (fresh_sender a id))) (n + 1) refl refl refl refl (one_half a n) (flows-more f a n 1 all)

-- ---- a stream of this end is opened

bi_parts : (s : Side) (b c : Bool) (bi uni q n : ℕ) → (q % 2 == 0) ≡ b → (q / 2 % 2 == 0) ≡ c → eqb q (stream_id s Bi bi) ≡ false
    → side_by (are_one_end s (if b then Client else Server)) c (bi + 1) uni n (q / 4) ≡ side_by (are_one_end s (if b then Client else Server)) c bi uni n (q / 4)
bi_parts Client true true bi uni q n e d l = grind (arith, nat_tests)
bi_parts Client true false bi uni q n e d l = refl
bi_parts Client false true bi uni q n e d l = refl
bi_parts Client false false bi uni q n e d l = refl
bi_parts Server true true bi uni q n e d l = refl
bi_parts Server true false bi uni q n e d l = refl
bi_parts Server false true bi uni q n e d l = grind (arith, nat_tests)
bi_parts Server false false bi uni q n e d l = refl

uni_parts : (s : Side) (b c : Bool) (bi uni q n : ℕ) → (q % 2 == 0) ≡ b → (q / 2 % 2 == 0) ≡ c → eqb q (stream_id s Uni uni) ≡ false
    → side_by (are_one_end s (if b then Client else Server)) c bi (uni + 1) n (q / 4) ≡ side_by (are_one_end s (if b then Client else Server)) c bi uni n (q / 4)
uni_parts Client true false bi uni q n e d l = grind (arith, nat_tests)
uni_parts Client true true bi uni q n e d l = refl
uni_parts Client false true bi uni q n e d l = refl
uni_parts Client false false bi uni q n e d l = refl
uni_parts Server true true bi uni q n e d l = refl
uni_parts Server true false bi uni q n e d l = refl
uni_parts Server false false bi uni q n e d l = grind (arith, nat_tests)
uni_parts Server false true bi uni q n e d l = refl

own_end : (s : Side) → are_one_end s (if is_client_side s then Client else Server) ≡ true
own_end Client = refl
own_end Server = refl

own_id : (s : Side) (d : Dir) (m : ℕ) → is_local s (stream_id s d m) ≡ true
own_id s d m = ap (λ b. are_one_end s (if b then Client else Server)) (side-bit s d m) ∙ own_end s

side_at : (o : Outgoing) (n m : ℕ) (d : Dir) (s : Side) → o.side ≡ s → has_side_in o n (stream_id s d m) ≡ side_by true (is_bi d) o.own_bi.opened o.own_uni.opened n m
side_at o n m d s e = side-is o n (stream_id s d m) ∙ rw (e, own_id s d m, dir-bit s d m, index-id s d m) refl

not_below : (m : ℕ) → nat_lt m m ≡ false
not_below m = grind (arith, nat_tests)

just_below : (m : ℕ) → nat_lt m (m + 1) ≡ true
just_below m = grind (arith, nat_tests)

pub opened-next : (o : Own) → o.opened < o.limit → (with_next_own o).opened ≡ o.opened + 1
opened-next o l = let t : nat_lt o.opened o.limit ≡ true = grind (arith, nat_tests) in rw t refl

-- one more stream with a new half
module _ (f : ℕ → SendFlow) (a b : Outgoing) (n id : ℕ) (side : b.side ≡ a.side) (first : b.first ≡ a.first) (before : has_side_in a n id ≡ false) (after : has_side_in b n id ≡ true)
    (others : (q : ℕ) → eqb q id ≡ false → has_side_in b n q ≡ has_side_in a n q) (here : b.halves id ≡ Some (fresh_sender a id)) (rest : (q : ℕ) → eqb q id ≡ false → b.halves q ≡ a.halves q)
    (all : AllFlows f a n) where
  at_one : FlowAt (first_limit b.side b.first id) (f id) (has_side_in b n id) (b.halves id)
  at_one =
      let same_first = same-limit a b id side first in
      let none = none-done _ (f id) (has_side_in a n id) (a.halves id) before (all id) in
      flow_at_new (first_limit b.side b.first id) (f id) (has_side_in b n id) (b.halves id) (none ∙ ap new_flow (sym same_first)) after (here ∙ ap (λ k. Some (new_sender k)) (sym same_first))

  pub flows-one : AllFlows f b n
  flows-one q = by_cases (eqb q id)
      (λ t. let P : ℕ → Type 0 = λ k. FlowAt (first_limit b.side b.first k) (f k) (has_side_in b n k) (b.halves k) in subst P (sym (same q id t)) at_one)
      (λ e. flow_at _ _ (f q) (f q) (has_side_in a n q) (has_side_in b n q) (a.halves q) (b.halves q) (same-limit a b q side first) refl (others q e) (rest q e) (all q))

pub here_put : (g : SendersById) (id : ℕ) (o : Option Send) → (with_sender g id o) id ≡ o
unfolding with_sender
here_put g id o = rw (itself id) refl

rest_put : (g : SendersById) (id q : ℕ) (o : Option Send) → eqb q id ≡ false → (with_sender g id o) q ≡ g q
unfolding with_sender
rest_put g id q o e = rw e refl

-- the sending side with one more stream open
abbrev pub with_one_open : Outgoing → Dir → Outgoing
with_one_open a d = let id : ℕ = stream_id a.side d (own_of a d).opened in with_send_half (with_own a d (with_next_own (own_of a d))) id (Some (fresh_sender a id))

pub flows-opened : (f : ℕ → SendFlow) (a : Outgoing) (d : Dir) (n : ℕ) → (own_of a d).opened < (own_of a d).limit → AllFlows f a n → AllFlows f (with_one_open a d) n
flows-opened f a Bi n l all =
    let id : ℕ = stream_id a.side Bi a.own_bi.opened in
    let b = with_one_open a Bi in
    let more : b.own_bi.opened ≡ a.own_bi.opened + 1 = opened-next a.own_bi l in
    flows-one f a b n id refl refl (side_at a n a.own_bi.opened Bi a.side refl ∙ not_below a.own_bi.opened) (side_at b n a.own_bi.opened Bi a.side refl ∙ rw more (just_below a.own_bi.opened))
    (λ q e. side-is b n q ∙ rw more (bi_parts a.side (q % 2 == 0) (q / 2 % 2 == 0) a.own_bi.opened a.own_uni.opened q n refl refl e) ∙ sym (side-is a n q))
    (here_put a.halves id (Some (fresh_sender a id))) (λ q e. rest_put a.halves id q (Some (fresh_sender a id)) e) all
flows-opened f a Uni n l all =
    let id : ℕ = stream_id a.side Uni a.own_uni.opened in
    let b = with_one_open a Uni in
    let more : b.own_uni.opened ≡ a.own_uni.opened + 1 = opened-next a.own_uni l in
    flows-one f a b n id refl refl (side_at a n a.own_uni.opened Uni a.side refl ∙ not_below a.own_uni.opened) (side_at b n a.own_uni.opened Uni a.side refl ∙ rw more (just_below a.own_uni.opened))
    (λ q e. side-is b n q ∙ rw more (uni_parts a.side (q % 2 == 0) (q / 2 % 2 == 0) a.own_bi.opened a.own_uni.opened q n refl refl e) ∙ sym (side-is a n q))
    (here_put a.halves id (Some (fresh_sender a id))) (λ q e. rest_put a.halves id q (Some (fresh_sender a id)) e) all

-- ---- something was done to one stream

-- what is left of a half that was held: it is as is told, or it was freed
abbrev pub HalfAfter : SendFlow → Option Send → Type 0
HalfAfter t None = t.freed ≡ true
HalfAfter t (Some s) = FlowFrom t s

-- what was done to a half is what the move says
pub record MovesHalf (m : SendMove) (t : SendFlow) (o o' : Option Send) : Type 0 where
  pub none : o ≡ None → o' ≡ None
  pub some : (s : Send) → o ≡ Some s → FlowFrom t s → HalfAfter (with_send_move m t) o'

half_after : (first : ℕ) (t : SendFlow) (o : Option Send) → HalfAfter t o → FlowAt first t true o
half_after first t None h = h
half_after first t (Some s) h = h

pub after_at : (t : SendFlow) (o p : Option Send) → o ≡ p → HalfAfter t p → HalfAfter t o
after_at t o p e h = let P : Option Send → Type 0 = λ x. HalfAfter t x in subst P (sym e) h

freed_if : (b : Bool) (t u : SendFlow) → u.freed ≡ true → t.freed ≡ true → (if b then u else t).freed ≡ true
freed_if true t u e d = e
freed_if false t u e d = d

-- a stream that was freed stays so
pub freed_moved : (m : SendMove) (t : SendFlow) → t.freed ≡ true → (with_send_move m t).freed ≡ true
freed_moved (WasWritten pieces) t e = e
freed_moved WasFinished t e = e
freed_moved (WasGivenUp code) t e = e
freed_moved (WasAskedToStop code) t e = e
freed_moved (WasPermitted limit) t e = freed_if (takes_data t.reset t.finished) t _ e e
freed_moved (WasCarried start behind fin) t e = freed_if (is_none t.reset) t _ e e
freed_moved (WasAcked start behind fin) t e = freed_if (counts_for t.reset t.sent_up_to behind) t _ (ap (λ b. b || is_whole (with_acked start behind fin t)) e) e
freed_moved (WasLost start behind fin) t e = freed_if (counts_for t.reset t.sent_up_to behind) t _ e e
freed_moved WasResetAcked t e = ap (λ b. b || is_some t.reset) e

flow_at_moved : (first : ℕ) (t g : SendFlow) (m : SendMove) (k : Bool) (o o' : Option Send) → MovesHalf m t o o' → g ≡ (if k then with_send_move m t else t) → FlowAt first t k o → FlowAt first g k o'
flow_at_moved first t g m true (Some s) o' h e f = flow_at first first (with_send_move m t) g true true o' o' refl e refl refl (half_after first (with_send_move m t) o' (h.some s refl f))
flow_at_moved first t g m true None o' h e f = flow_at first first (with_send_move m t) g true true None o' refl e refl (h.none refl) (freed_moved m t f)
flow_at_moved first t g m false (Some s) o' h e f = absurd f
flow_at_moved first t g m false None o' h e f = flow_at first first t g false false None o' refl e refl (h.none refl) f

pub flows-moved : (f g : ℕ → SendFlow) (a b : Outgoing) (n id : ℕ) (m : SendMove) → b.side ≡ a.side → b.first ≡ a.first → b.own_bi.opened ≡ a.own_bi.opened → b.own_uni.opened ≡ a.own_uni.opened
    → ((q : ℕ) → eqb q id ≡ false → option_map core (b.halves q) ≡ option_map core (a.halves q)) → MovesHalf m (f id) (a.halves id) (b.halves id)
    → g id ≡ (if has_side_in a n id then with_send_move m (f id) else f id) → ((q : ℕ) → eqb q id ≡ false → g q ≡ f q) → AllFlows f a n → AllFlows g b n
flows-moved f g a b n id m side first bi uni rest here is others all q = by_cases (eqb q id)
    (λ t. let P : ℕ → Type 0 = λ k. FlowAt (first_limit b.side b.first k) (g k) (has_side_in b n k) (b.halves k) in
    subst P (sym (same q id t))
    (flow_at _ _ (g id) (g id) (has_side_in a n id) (has_side_in b n id) (b.halves id) (b.halves id) (same-limit a b id side first) refl (same-side a b n id side bi uni) refl
    (flow_at_moved _ (f id) (g id) m (has_side_in a n id) (a.halves id) (b.halves id) here is (all id))))
    (λ e. flow_at _ _ (f q) (g q) (has_side_in a n q) (has_side_in b n q) (b.halves q) (b.halves q) (same-limit a b q side first) (others q e) (same-side a b n q side bi uni) refl
    (flow_at_core _ (f q) (has_side_in a n q) (a.halves q) (b.halves q) (rest q e) (all q)))

-- the half of that stream alone is another
pub moves-put : (m : SendMove) (t : SendFlow) (g : SendersById) (id : ℕ) (s s' : Send) → g id ≡ Some s → (FlowFrom t s → FlowFrom (with_send_move m t) s') → MovesHalf m t (g id) ((with_sender g id (Some s')) id)
moves-put m t g id s s' e k = record {
  none = λ n. absurd (none_some s (sym e ∙ n));
  some = λ x l f. let same : x ≡ s = ap (λ (o : Option Send). unwrap_or o s) (sym l ∙ e) in
      let P : Send → Type 0 = λ y. FlowFrom t y in
      after_at (with_send_move m t) ((with_sender g id (Some s')) id) (Some s') (here_put g id (Some s')) (k (subst P same f));
}
  where
    none_some : (s : Send) → Some s ≡ None → ⊥
    none_some s e = cc

pub cores-rest : (g : SendersById) (id q : ℕ) (o : Option Send) → eqb q id ≡ false → option_map core ((with_sender g id o) q) ≡ option_map core (g q)
cores-rest g id q o e = ap (λ x. option_map core x) (rest_put g id q o e)

-- ---- the peer's limits are handed in

limit_joined : (own : Bool) (d : Dir) (a b : FirstLimits) → first_for own d (joined a b) ≡ max (first_for own d a) (first_for own d b)
limit_joined true Bi a b = refl
limit_joined false Bi a b = refl
limit_joined true Uni a b = refl
limit_joined false Uni a b = refl

flow_at_raised : (first limit first' : ℕ) (t : SendFlow) (k : Bool) (o : Option Send) → first' ≡ max first limit → FlowAt first t k o → FlowAt first' (with_least_limit limit t) k (option_map (raised limit) o)
flow_at_raised first limit first' t true (Some s) e f = flow-raised t s limit f
flow_at_raised first limit first' t true None e f = f
flow_at_raised first limit first' t false (Some s) e f = absurd f
flow_at_raised first limit first' t false None e f = ap (λ x. with_least_limit limit x) f ∙ ap new_flow (sym e)

pub flows-limits : (f : ℕ → SendFlow) (a : Outgoing) (p : PeerLimits) (n : ℕ) → AllFlows f a n → AllFlows (λ q. with_least_limit (first_limit a.side (first_of p) q) (f q)) (with_params a p) n
unfolding raised_by
flows-limits f a p n all q =
    flow_at _ _ (with_least_limit (first_limit a.side (first_of p) q) (f q)) _ (has_side_in a n q) (has_side_in (with_params a p) n q) _ _ refl refl
    (same-side a (with_params a p) n q refl refl refl) refl
    (flow_at_raised (first_limit a.side a.first q) (first_limit a.side (first_of p) q) (first_limit a.side (joined a.first (first_of p)) q) (f q) (has_side_in a n q) (a.halves q)
    (limit_joined (is_local a.side q) (dir_of q) a.first (first_of p)) (all q))
