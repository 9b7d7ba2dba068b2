-- What calls do to a send half keeps what is told of it.
use Rattle.std.proofs.Common.{◌≡◌, ℕ, Bool, true, false, List, [], Option, Some, None, is_some, refl, sym, ap, ◌∙◌, subst, arith, ◌-◌, ◌<◌, ◌≤◌}
use Rattle.std.specs.Prelude.{◌&&◌, ◌||◌, max, min, nat_lt, if◌then◌else◌, unwrap_or, ◌++◌, ◌^◌, pos}
use Rattle.std.proofs.lemmas.Bool.Decides.{nat_tests}
use Rattle.quic_sending.specs.declared.send.Send.{Send}
use Rattle.quic_sending.specs.declared.send.SendState.{SendState}
use Rattle.quic_sending.specs.declared.send.SendState.TheVariants.{Ready, DataSent, ResetSent}
use Rattle.quic_sending.specs.Buffer.{Buffered, HasCuts, total_length, is_acked}
use Rattle.quic_sending.specs.Source.{Appends}
use Rattle.quic_sending.specs.Sending.{is_ready, is_reset_sent, write_refusal, finish_refusal}
use Rattle.quic_sending.proofs.Cuts.{HasCuts-all}
use Rattle.quic_flows.specs.Flow.{WasWritten, WasFinished, WasGivenUp, WasAskedToStop, WasPermitted, SendFlow, new_flow, takes_data, with_least_limit, with_send_move, front_of, passing, retained, state_told, OffsetsFrom, FlowFrom}
use Rattle.quic_flows.proofs.Fronts.{front-taken, passing-is}

-- the parts of a half of which the calls tell
pub record Core : Type 0 where
  pub max_data : ℕ
  pub state : SendState
  pub pending : Buffered
  pub fin_pending : Bool
  pub stop_reason : Option ℕ

abbrev pub core : Send → Core
core s = record { max_data = s.max_data; state = s.state; pending = s.pending; fin_pending = s.fin_pending; stop_reason = s.stop_reason }

-- the same, of those parts alone
record CoreFrom (t : SendFlow) (c : Core) : Type 0 where
  pub there : t.freed ≡ false
  pub cuts : HasCuts t.cuts c.pending
  pub within : c.pending.prefix ≤ c.pending.offset
  pub limit : c.max_data ≡ t.limit
  pub state : c.state ≡ state_told t.reset t.finished t.end_acked
  pub stopped : c.stop_reason ≡ t.stopped
  pub end_due : c.fin_pending ≡ t.end_due
  pub offsets : t.reset ≡ None → OffsetsFrom t c.pending
  pub empty : is_some t.reset ≡ true → c.pending.held ≡ []

core_from : (t : SendFlow) (s : Send) → FlowFrom t s → CoreFrom t (core s)
core_from t s f = record { there = f.there; cuts = f.cuts; within = f.within; limit = f.limit; state = f.state; stopped = f.stopped; end_due = f.end_due; offsets = f.offsets; empty = f.empty }

flow_from : (t : SendFlow) (s : Send) → CoreFrom t (core s) → FlowFrom t s
flow_from t s f = record { there = f.there; cuts = f.cuts; within = f.within; limit = f.limit; state = f.state; stopped = f.stopped; end_due = f.end_due; offsets = f.offsets; empty = f.empty }

-- nothing else counts
pub flow-core : (t : SendFlow) (s s' : Send) → core s' ≡ core s → FlowFrom t s → FlowFrom t s'
flow-core t s s' e f = let P : Core → Type 0 = λ c. CoreFrom t c in flow_from t s' (subst P (sym e) (core_from t s f))

-- a new half
abbrev fresh : ℕ → Send
fresh limit = record {
  max_data = limit;
  state = Ready;
  pending = record { offset = 0; unsent = 0; prefix = 0; later = []; lost = []; held = []; gone = 0; room = 0 };
  priority = pos 0;
  fin_pending = false;
  connection_blocked = false;
  data_blocked_limit = None;
  stop_reason = None;
}

fresh_offsets : (limit : ℕ) → OffsetsFrom (new_flow limit) (fresh limit).pending
fresh_offsets limit = record {
  sent = λ n. none n;
  unsent = refl;
  lost = λ n. refl;
  lost_sent = λ n e. cc;
  acked = λ n. none_acked n;
  first = none_acked 0;
}
  where
    none : (n : ℕ) → nat_lt n 0 ≡ false
    none n = grind (arith, nat_tests)

    none_acked : (n : ℕ) → (nat_lt n 0 || false) ≡ false
    none_acked n = rw (none n) refl

pub flow-fresh : (limit : ℕ) → FlowFrom (new_flow limit) (fresh limit)
flow-fresh limit = record {
  there = refl;
  cuts = record { written = refl; retained = refl };
  within = omega arith;
  limit = refl;
  state = refl;
  stopped = refl;
  end_due = refl;
  offsets = λ e. fresh_offsets limit;
  empty = λ e. cc;
}

-- ---- the state of a half

ready_by : (r : Option ℕ) (f a : Bool) → is_ready (state_told r f a) ≡ takes_data r f
ready_by None false a = refl
ready_by None true a = refl
ready_by (Some code) f a = refl

-- a half takes new data where the stream does
pub ready-is : (t : SendFlow) (s : Send) → FlowFrom t s → is_ready s.state ≡ takes_data t.reset t.finished
ready-is t s f = ap is_ready f.state ∙ ready_by t.reset t.finished t.end_acked

reset_by : (r : Option ℕ) (f a : Bool) → is_reset_sent (state_told r f a) ≡ is_some r
reset_by None false a = refl
reset_by None true a = refl
reset_by (Some code) f a = refl

pub reset-is : (t : SendFlow) (s : Send) → FlowFrom t s → is_reset_sent s.state ≡ is_some t.reset
reset-is t s f = ap is_reset_sent f.state ∙ reset_by t.reset t.finished t.end_acked

not_some : (r : Option ℕ) → is_some r ≡ false → r ≡ None
not_some None e = refl
not_some (Some code) e = cc

takes_none : (r : Option ℕ) (f : Bool) → takes_data r f ≡ true → r ≡ None
takes_none None f e = refl
takes_none (Some code) f e = cc

state_ready : (r : Option ℕ) (f a : Bool) → takes_data r f ≡ true → state_told r f a ≡ Ready
state_ready None false a e = refl
state_ready None true a e = cc
state_ready (Some code) f a e = cc

write_ready : (s : Send) (b : Bool) → is_ready s.state ≡ b → write_refusal s ≡ None → b ≡ true
write_ready s true e r = refl
write_ready s false e r = let k = rw e at r in cc

pub writable-ready : (s : Send) → write_refusal s ≡ None → is_ready s.state ≡ true
writable-ready s r = write_ready s (is_ready s.state) refl r

finish_ready : (s : Send) (o : Option ℕ) (b : Bool) → s.stop_reason ≡ o → is_ready s.state ≡ b → finish_refusal s ≡ None → b ≡ true
finish_ready s None true q e r = refl
finish_ready s None false q e r = let k = rw (q, e) at r in cc
finish_ready s (Some code) b q e r = let k = rw q at r in cc

pub finishable-ready : (s : Send) → finish_refusal s ≡ None → is_ready s.state ≡ true
finishable-ready s r = finish_ready s s.stop_reason (is_ready s.state) refl refl r

-- a half that takes new data was not given up
pub ready-none : (t : SendFlow) (s : Send) → FlowFrom t s → is_ready s.state ≡ true → t.reset ≡ None
ready-none t s f e = takes_none t.reset t.finished (sym (ready-is t s f) ∙ e)

-- ---- what was done

-- bytes were written
pub flow-written : (t : SendFlow) (s : Send) (b : Buffered) (n : ℕ) (lists : List (List ℕ)) → FlowFrom t s → write_refusal s ≡ None → Appends n lists s.pending b
    → FlowFrom (with_send_move (WasWritten (front_of n lists)) t) (record s { pending = b })
flow-written t s b n lists f r a =
    let none : t.reset ≡ None = ready-none t s f (writable-ready s r) in
    let prefix = ap (λ (v : Buffered). v.prefix) a.buffer in
    let offset = ap (λ (v : Buffered). v.offset) a.buffer in
    let within = f.within in
    record {
      there = f.there;
      cuts = let P : List (List ℕ) → Type 0 = λ ps. HasCuts (t.cuts ++ ps) b in subst P (front-taken n lists a.pieces a.front) (a.cuts t.cuts f.cuts);
      within = omega arith;
      limit = f.limit;
      state = f.state;
      stopped = f.stopped;
      end_due = f.end_due;
      offsets = λ e. let o = f.offsets e in
          let P : Buffered → Type 0 = λ v. OffsetsFrom (with_send_move (WasWritten (front_of n lists)) t) v in
          subst P (sym a.buffer) (record { sent = o.sent; unsent = o.unsent; lost = o.lost; lost_sent = o.lost_sent; acked = o.acked; first = o.first });
      empty = λ e. absurd (let k : is_some t.reset ≡ false = ap (λ (o : Option ℕ). is_some o) none in cc);
    }

-- it was ended
pub flow-finished : (t : SendFlow) (s : Send) → FlowFrom t s → finish_refusal s ≡ None → FlowFrom (with_send_move WasFinished t) (record s { state = DataSent false; fin_pending = true })
flow-finished t s f r = record {
  there = f.there;
  cuts = f.cuts;
  within = f.within;
  limit = f.limit;
  state = ap (λ o. state_told o true false) (sym (ready-none t s f (finishable-ready s r)));
  stopped = f.stopped;
  end_due = refl;
  offsets = λ e. let o = f.offsets e in record { sent = o.sent; unsent = o.unsent; lost = o.lost; lost_sent = o.lost_sent; acked = o.acked; first = o.first };
  empty = f.empty;
}

-- a half of which nothing but the reset is sent
abbrev dropped : Send → Send
dropped s = record s {
  state = ResetSent;
  fin_pending = false;
  pending = record {
    offset = s.pending.offset;
    unsent = s.pending.offset;
    prefix = s.pending.offset;
    later = [];
    lost = [];
    held = [];
    gone = s.pending.offset;
    room = 0;
  };
}

-- it was given up
pub flow-given-up : (t : SendFlow) (s : Send) (code : ℕ) → FlowFrom t s → FlowFrom (with_send_move (WasGivenUp code) t) (dropped s)
flow-given-up t s code f = record {
  there = f.there;
  cuts = let all = HasCuts-all s.pending (dropped s).pending t.cuts f.cuts refl refl refl in record { written = all.written; retained = all.retained };
  within = omega arith;
  limit = f.limit;
  state = refl;
  stopped = f.stopped;
  end_due = refl;
  offsets = λ e. cc;
  empty = λ e. refl;
}

-- the peer asked to send no more
pub flow-asked : (t : SendFlow) (s : Send) (code : ℕ) → FlowFrom t s → FlowFrom (with_send_move (WasAskedToStop code) t) (record s { stop_reason = Some (unwrap_or s.stop_reason code) })
flow-asked t s code f = record {
  there = f.there;
  cuts = f.cuts;
  within = f.within;
  limit = f.limit;
  state = f.state;
  stopped = ap (λ o. Some (unwrap_or o code)) f.stopped;
  end_due = f.end_due;
  offsets = λ e. let o = f.offsets e in record { sent = o.sent; unsent = o.unsent; lost = o.lost; lost_sent = o.lost_sent; acked = o.acked; first = o.first };
  empty = f.empty;
}

-- another limit
limit_set : (t : SendFlow) (s : Send) (limit n : ℕ) → n ≡ max t.limit limit → FlowFrom t s → FlowFrom (with_least_limit limit t) (record s { max_data = n })
limit_set t s limit n e f = record {
  there = f.there;
  cuts = f.cuts;
  within = f.within;
  limit = e;
  state = f.state;
  stopped = f.stopped;
  end_due = f.end_due;
  offsets = λ k. let o = f.offsets k in record { sent = o.sent; unsent = o.unsent; lost = o.lost; lost_sent = o.lost_sent; acked = o.acked; first = o.first };
  empty = f.empty;
}

-- the peer's limits were handed in
pub flow-raised : (t : SendFlow) (s : Send) (limit : ℕ) → FlowFrom t s → FlowFrom (with_least_limit limit t) (record s { max_data = max s.max_data limit })
flow-raised t s limit f = limit_set t s limit (max s.max_data limit) (ap (λ n. max n limit) f.limit) f

limit_if : (t : SendFlow) (s : Send) (limit : ℕ) (b c : Bool) → nat_lt s.max_data limit ≡ c → FlowFrom t s
    → FlowFrom (if b then with_least_limit limit t else t) (if b && c then record s { max_data = limit } else s)
limit_if t s limit true true e f = let l = f.limit in let k : s.max_data < limit = grind (arith, nat_tests) in limit_set t s limit limit (omega arith) f
limit_if t s limit true false e f = let l = f.limit in let k : limit ≤ s.max_data = grind (arith, nat_tests) in limit_set t s limit s.max_data (omega arith) f
limit_if t s limit false c e f = f

-- the peer gave a limit for it
pub flow-permitted : (t : SendFlow) (s : Send) (n : ℕ) → FlowFrom t s
    → FlowFrom (with_send_move (WasPermitted n) t) (if is_ready s.state && nat_lt s.max_data (min n (2 ^ 62 - 1)) then record s { max_data = min n (2 ^ 62 - 1) } else s)
flow-permitted t s n f =
    let limit : ℕ = min n (2 ^ 62 - 1) in
    let P : Bool → Type 0 = λ b. FlowFrom (if b then with_least_limit limit t else t) (if is_ready s.state && nat_lt s.max_data limit then record s { max_data = limit } else s) in
    subst P (ready-is t s f) (limit_if t s limit (is_ready s.state) (nat_lt s.max_data limit) refl f)

-- ---- what is retained

-- below the acknowledged beginning each offset is acknowledged
below_prefix : (v : Buffered) (n : ℕ) → n < v.prefix → is_acked v n ≡ true
below_prefix v n l = let k : nat_lt n v.prefix ≡ true = grind (arith, nat_tests) in rw k refl

pub kept_prefix : (t : SendFlow) (s : Send) → FlowFrom t s → OffsetsFrom t s.pending → passing t.acked (total_length t.cuts) ≡ s.pending.prefix
kept_prefix t s f o =
    let written = f.cuts.written in
    let within = f.within in
    let is = passing-is t.acked s.pending.prefix (total_length t.cuts) (λ m l. sym (o.acked m) ∙ below_prefix s.pending m l) (sym (o.acked s.pending.prefix) ∙ o.first) in
    omega arith

-- what is held is what is retained
pub flow-retained : (t : SendFlow) (s : Send) → FlowFrom t s → total_length s.pending.held ≡ retained t
flow-retained t s f = by_reset t.reset refl
  where
    by_reset : (r : Option ℕ) → t.reset ≡ r → total_length s.pending.held ≡ retained t
    by_reset None e =
        let there = f.there in
        let prefix = kept_prefix t s f (f.offsets e) in
        let held = f.cuts.retained in
        rw (e, there, prefix, held) refl
    by_reset (Some code) e =
        let none = f.empty (ap (λ (o : Option ℕ). is_some o) e) in
        rw (e, none) refl
