-- Each call leaves what the history says of what may be sent.
use Rattle.std.proofs.Common.{◌≡◌, ◌≤◌, ◌<◌, ◌+◌, ℕ, Bool, true, false, cond, Option, Some, None, List, [], ◌∷◌, refl, sym, ap, ◌∙◌, max, min, subst, ◌^◌, arith}
use Rattle.std.specs.Prelude.{Ok, Err, nat_lt}
use Rattle.std.proofs.lemmas.Bool.Decides.{nat_tests}
use Rattle.quic_values.specs.declared.ids.Side.{Side}
use Rattle.quic_values.specs.declared.ids.Dir.{Dir}
use Rattle.quic_values.specs.declared.ids.Dir.TheVariants.{Bi, Uni}
use Rattle.quic_limits.specs.SendingCredit.{SendingCredit, writable, with_limit, with_written}
use Rattle.quic_limits.specs.Own.{Own, with_next_own, with_count}
use Rattle.quic_sending.specs.declared.send.WriteError.TheVariants as write_error
use Rattle.quic_sending.specs.declared.errors.HandleError.TheVariants as handle_error
use Rattle.quic_sending.specs.declared.send.Send.{Send}
use Rattle.quic_outgoing.specs.declared.limits.PeerLimits.{PeerLimits}
use Rattle.quic_outgoing.specs.declared.writing.Wrote.{Wrote}
use Rattle.quic_outgoing.specs.Writing.{TakesBytesOf}
use Rattle.quic_outgoing.specs.Outgoing.{Outgoing, no_streams, own_of, with_own, with_send_half, with_params, fresh_sender}
use Rattle.quic_outgoing.specs.Params.{with_woken}
use Rattle.quic_outgoing.specs.History.{Call, Permitted, PermittedMore, Removed, GaveParams, Opened, GaveData, GaveStreams, GaveStream, WasStopped, Writing, Finished, Reset, SetPriority, Polled, Transmitted, SetWindow, AckedFrame, LostFrame, ResetAcked, RejectedEarly, Unsent, DoesCall, is_rejection, calls_since, bytes_by, data_limit_of, count_in, given_for, count_given_by, opened_by, TellsBudget, ComesFrom, Continues}
use Rattle.quic_outgoing.specs.Early.{after_rejection}
use Rattle.quic_outgoing.proofs.Keeping.{Keeps, keeps-all, keeps-is, keeps-stream, keeps-rise, keeps-stop, keeps-blocked, keeps-polled, keeps-acked, keeps-lost, keeps-given-up, keeps-woken}

-- what a call adds to what was sent, to the limits, and to what was opened
record Moves (u : Outgoing) (e : Call) (v : Outgoing) : Type 0 where
  side : v.side ≡ u.side
  sent : v.budget.data_sent ≡ u.budget.data_sent + bytes_by e
  limit : v.budget.max_data ≡ max u.budget.max_data (data_limit_of e)
  within : u.budget.data_sent ≤ u.budget.max_data → v.budget.data_sent ≤ v.budget.max_data
  opened : (dir : Dir) → (own_of v dir).opened ≡ (own_of u dir).opened + opened_by e dir
  counted : (dir : Dir) → (own_of v dir).limit ≡ max (own_of u dir).limit (count_given_by e dir)
  few : (dir : Dir) → (own_of u dir).opened ≤ (own_of u dir).limit → (own_of v dir).opened ≤ (own_of v dir).limit

-- a call that is none of those that count
record IsIdle (e : Call) : Type 0 where
  bytes : bytes_by e ≡ 0
  limit : data_limit_of e ≡ 0
  opened : (dir : Dir) → opened_by e dir ≡ 0
  counted : (dir : Dir) → count_given_by e dir ≡ 0

own-kept : (u v : Outgoing) → Keeps u v → (dir : Dir) → own_of v dir ≡ own_of u dir
own-kept u v k Bi = k.bi
own-kept u v k Uni = k.uni

stays : {a b c : ℕ} → a ≡ b → c ≡ 0 → a ≡ b + c
stays p q = omega (arith, p, q)

stays-max : {a b c : ℕ} → a ≡ b → c ≡ 0 → a ≡ max b c
stays-max p q = omega (arith, p, q)

idle : (u : Outgoing) (e : Call) (v : Outgoing) → IsIdle e → Keeps u v → Moves u e v
idle u e v i k = record {
  side = k.side;
  sent = stays k.sent i.bytes;
  limit = stays-max k.limit i.limit;
  within = λ h. rw (k.sent, k.limit) h;
  opened = λ dir. stays (ap (λ (o : Own). o.opened) (own-kept u v k dir)) (i.opened dir);
  counted = λ dir. stays-max (ap (λ (o : Own). o.limit) (own-kept u v k dir)) (i.counted dir);
  few = λ dir h. rw (own-kept u v k dir) h;
}

-- what is told goes on
goes-on : {side : Side} {h : List Call} {u : Outgoing} {e : Call} {v : Outgoing} → Moves u e v → TellsBudget side h u → TellsBudget side (e ∷ h) v
goes-on {side} {h} {u} {e} {v} m t = record {
  is_side = m.side ∙ t.is_side;
  written = m.sent ∙ ap (λ n. n + bytes_by e) t.written;
  limit = m.limit ∙ ap (λ n. max n (data_limit_of e)) t.limit;
  within = let w = m.within (rw (t.written, t.limit) t.within) in
      rw (← (m.sent ∙ ap (λ n. n + bytes_by e) t.written), ← (m.limit ∙ ap (λ n. max n (data_limit_of e)) t.limit)) w;
  opened = λ dir. m.opened dir ∙ ap (λ n. n + opened_by e dir) (t.opened dir);
  counted = λ dir. m.counted dir ∙ ap (λ n. max n (count_given_by e dir)) (t.counted dir);
  few = λ dir. let w = m.few dir (rw (t.opened dir, t.counted dir) (t.few dir)) in
      rw (← (m.opened dir ∙ ap (λ n. n + opened_by e dir) (t.opened dir)), ← (m.counted dir ∙ ap (λ n. max n (count_given_by e dir)) (t.counted dir))) w;
}

moves-is : {u : Outgoing} {e : Call} {v w : Outgoing} → v ≡ w → Moves u e w → Moves u e v
moves-is {u} {e} {v} {w} is m = subst (λ (x : Outgoing). Moves u e x) (sym is) m

below : (a b : ℕ) → a < b → nat_lt a b ≡ true
below a b h = grind (arith, nat_tests)

one-opened : (o : Own) → o.opened < o.limit → with_next_own o ≡ record o { opened = o.opened + 1 }
one-opened o h = ap (λ b. cond b (record o { opened = o.opened + 1 }) o) (below o.opened o.limit h)

none-more : (n : ℕ) → n ≡ n + 0
none-more n = omega arith

none-greater : (n : ℕ) → n ≡ max n 0
none-greater n = omega arith

up-to : (a b : ℕ) → b ≤ 2 ^ 60 → max a (min b (2 ^ 60)) ≡ max a b
up-to a b h = omega arith

-- what the peer's limits add, of a sending side on which streams were made to wait
params-move : (u w : Outgoing) (p : PeerLimits) → Keeps u w → Moves u (GaveParams p (Ok tt)) (with_params w p)
params-move u w p k = record {
  side = k.side;
  sent = k.sent ∙ none-more _;
  limit = ap (λ n. max n p.initial_max_data) k.limit;
  within = λ h. let sent = k.sent in let limit = k.limit in omega (arith, h, sent, limit);
  opened = λ dir. opened dir;
  counted = λ dir. counted dir;
  few = λ dir h. few dir h;
}
  where
    opened : (dir : Dir) → (own_of (with_params w p) dir).opened ≡ (own_of u dir).opened + 0
    opened Bi = ap (λ (o : Own). o.opened) k.bi ∙ none-more _
    opened Uni = ap (λ (o : Own). o.opened) k.uni ∙ none-more _

    counted : (dir : Dir) → (own_of (with_params w p) dir).limit ≡ max (own_of u dir).limit (min (count_in p dir) (2 ^ 60))
    counted Bi = ap (λ (o : Own). max o.limit (min p.initial_max_streams_bidi (2 ^ 60))) k.bi
    counted Uni = ap (λ (o : Own). max o.limit (min p.initial_max_streams_uni (2 ^ 60))) k.uni

    few : (dir : Dir) → (own_of u dir).opened ≤ (own_of u dir).limit → (own_of (with_params w p) dir).opened ≤ (own_of (with_params w p) dir).limit
    few Bi h = let is = k.bi in rw is (omega (arith, h))
    few Uni h = let is = k.uni in rw is (omega (arith, h))

data-moves : (u : Outgoing) (limit : ℕ) → Moves u (GaveData limit) (record u { budget = with_limit u.budget limit })
data-moves u limit = record {
  side = refl;
  sent = none-more _;
  limit = refl;
  within = λ h. omega (arith, h);
  opened = λ dir. opened dir;
  counted = λ dir. counted dir;
  few = λ dir h. few dir h;
}
  where
    opened : (dir : Dir) → (own_of (record u { budget = with_limit u.budget limit }) dir).opened ≡ (own_of u dir).opened + 0
    opened Bi = none-more _
    opened Uni = none-more _

    counted : (dir : Dir) → (own_of (record u { budget = with_limit u.budget limit }) dir).limit ≡ max (own_of u dir).limit 0
    counted Bi = none-greater _
    counted Uni = none-greater _

    few : (dir : Dir) → (own_of u dir).opened ≤ (own_of u dir).limit → (own_of (record u { budget = with_limit u.budget limit }) dir).opened ≤ (own_of (record u { budget = with_limit u.budget limit }) dir).limit
    few Bi h = h
    few Uni h = h

open-moves : (u : Outgoing) (d : Dir) (id : ℕ) (o : Option Send) → (own_of u d).opened < (own_of u d).limit
    → Moves u (Opened d (Ok (Some id))) (with_send_half (with_own u d (record (own_of u d) { opened = (own_of u d).opened + 1 })) id o)
open-moves u Bi id o less = record {
  side = refl;
  sent = none-more _;
  limit = none-greater _;
  within = λ h. h;
  opened = λ dir. opened dir;
  counted = λ dir. counted dir;
  few = λ dir h. few dir h;
}
  where
    w : Outgoing
    w = with_send_half (with_own u Bi (record u.own_bi { opened = u.own_bi.opened + 1 })) id o

    opened : (dir : Dir) → (own_of w dir).opened ≡ (own_of u dir).opened + given_for Bi dir 1
    opened Bi = refl
    opened Uni = none-more _

    counted : (dir : Dir) → (own_of w dir).limit ≡ max (own_of u dir).limit 0
    counted Bi = none-greater _
    counted Uni = none-greater _

    few : (dir : Dir) → (own_of u dir).opened ≤ (own_of u dir).limit → (own_of w dir).opened ≤ (own_of w dir).limit
    few Bi h = omega (arith, less)
    few Uni h = h
open-moves u Uni id o less = record {
  side = refl;
  sent = none-more _;
  limit = none-greater _;
  within = λ h. h;
  opened = λ dir. opened dir;
  counted = λ dir. counted dir;
  few = λ dir h. few dir h;
}
  where
    w : Outgoing
    w = with_send_half (with_own u Uni (record u.own_uni { opened = u.own_uni.opened + 1 })) id o

    opened : (dir : Dir) → (own_of w dir).opened ≡ (own_of u dir).opened + given_for Uni dir 1
    opened Bi = none-more _
    opened Uni = refl

    counted : (dir : Dir) → (own_of w dir).limit ≡ max (own_of u dir).limit 0
    counted Bi = none-greater _
    counted Uni = none-greater _

    few : (dir : Dir) → (own_of u dir).opened ≤ (own_of u dir).limit → (own_of w dir).opened ≤ (own_of w dir).limit
    few Bi h = h
    few Uni h = omega (arith, less)

count-moves : (u : Outgoing) (d : Dir) (count : ℕ) (rose : Bool) → count ≤ 2 ^ 60
    → Moves u (GaveStreams d count (Ok rose)) (with_own u d (with_count (own_of u d) count))
count-moves u Bi count rose small = record {
  side = refl;
  sent = none-more _;
  limit = none-greater _;
  within = λ h. h;
  opened = λ dir. opened dir;
  counted = λ dir. counted dir;
  few = λ dir h. few dir h;
}
  where
    w : Outgoing
    w = with_own u Bi (with_count u.own_bi count)

    opened : (dir : Dir) → (own_of w dir).opened ≡ (own_of u dir).opened + 0
    opened Bi = none-more _
    opened Uni = none-more _

    counted : (dir : Dir) → (own_of w dir).limit ≡ max (own_of u dir).limit (given_for Bi dir count)
    counted Bi = up-to _ count small
    counted Uni = none-greater _

    few : (dir : Dir) → (own_of u dir).opened ≤ (own_of u dir).limit → (own_of w dir).opened ≤ (own_of w dir).limit
    few Bi h = omega (arith, h)
    few Uni h = h
count-moves u Uni count rose small = record {
  side = refl;
  sent = none-more _;
  limit = none-greater _;
  within = λ h. h;
  opened = λ dir. opened dir;
  counted = λ dir. counted dir;
  few = λ dir h. few dir h;
}
  where
    w : Outgoing
    w = with_own u Uni (with_count u.own_uni count)

    opened : (dir : Dir) → (own_of w dir).opened ≡ (own_of u dir).opened + 0
    opened Bi = none-more _
    opened Uni = none-more _

    counted : (dir : Dir) → (own_of w dir).limit ≡ max (own_of u dir).limit (given_for Uni dir count)
    counted Bi = none-greater _
    counted Uni = up-to _ count small

    few : (dir : Dir) → (own_of u dir).opened ≤ (own_of u dir).limit → (own_of w dir).opened ≤ (own_of w dir).limit
    few Bi h = h
    few Uni h = omega (arith, h)

taken-within : (c : SendingCredit) (n m k : ℕ) → n ≡ min (min (writable c) m) k → c.data_sent ≤ c.max_data → c.data_sent + n ≤ c.max_data
taken-within c n m k e h = omega (arith, e, h)

write-moves : (u : Outgoing) (id : ℕ) (lists left : List (List ℕ)) (wrote : Wrote) (v : Outgoing) → TakesBytesOf u id lists wrote left v
    → Moves u (Writing id lists (Ok wrote)) v
write-moves u id lists left wrote v t = moves-is t.is (record {
  side = refl;
  sent = refl;
  limit = none-greater _;
  within = λ h. taken-within u.budget _ _ _ t.bytes h;
  opened = λ dir. opened dir;
  counted = λ dir. counted dir;
  few = λ dir h. few dir h;
})
  where
    w : Outgoing
    w = record (with_send_half u id (Some t.after)) { budget = with_written u.budget wrote.written.bytes }

    opened : (dir : Dir) → (own_of w dir).opened ≡ (own_of u dir).opened + 0
    opened Bi = none-more _
    opened Uni = none-more _

    counted : (dir : Dir) → (own_of w dir).limit ≡ max (own_of u dir).limit 0
    counted Bi = none-greater _
    counted Uni = none-greater _

    few : (dir : Dir) → (own_of u dir).opened ≤ (own_of u dir).limit → (own_of w dir).opened ≤ (own_of w dir).limit
    few Bi h = h
    few Uni h = h

moves : (u : Outgoing) (e : Call) (v : Outgoing) → is_rejection e ≡ false → DoesCall u e v → Moves u e v
moves u (Permitted id) v n h = idle u _ v (record { bytes = refl; limit = refl; opened = λ dir. refl; counted = λ dir. refl })
    (keeps-is h (keeps-stream u id _))
moves u (PermittedMore first count) v n h = idle u _ v (record { bytes = refl; limit = refl; opened = λ dir. refl; counted = λ dir. refl })
    (keeps-is h (record { side = refl; sent = refl; limit = refl; bi = refl; uni = refl }))
moves u (Removed id) v n h = idle u _ v (record { bytes = refl; limit = refl; opened = λ dir. refl; counted = λ dir. refl })
    (keeps-is h (keeps-stream u id None))
moves u (GaveParams params (Ok x)) v n h = moves-is h (params-move u (with_woken u params) params (keeps-woken u params))
moves u (GaveParams params (Err e)) v n h = idle u _ v (record { bytes = refl; limit = refl; opened = λ dir. refl; counted = λ dir. refl })
    (keeps-is h (keeps-all u))
moves u (Opened dir (Ok None)) v n h = idle u _ v (record { bytes = refl; limit = refl; opened = λ dir. refl; counted = λ dir. refl })
    (keeps-is h.1 (keeps-all u))
moves u (Opened dir (Ok (Some id))) v n h = moves-is (h.2 ∙ ap (λ (o : Own). with_send_half (with_own u dir o) id (Some (fresh_sender u id))) (one-opened (own_of u dir) h.0)) (open-moves u dir id _ h.0)
moves u (Opened dir (Err e)) v n h = idle u _ v (record { bytes = refl; limit = refl; opened = λ dir. refl; counted = λ dir. refl })
    (keeps-is h (keeps-all u))
moves u (GaveData limit) v n h = moves-is h (data-moves u limit)
moves u (GaveStreams dir count (Ok rose)) v n h = moves-is h.2 (count-moves u dir count rose h.0)
moves u (GaveStreams dir count (Err e)) v n h = idle u _ v (record { bytes = refl; limit = refl; opened = λ dir. refl; counted = λ dir. refl })
    (keeps-is h.2 (keeps-all u))
moves u (GaveStream id limit (Ok tells)) v n h = idle u _ v (record { bytes = refl; limit = refl; opened = λ dir. refl; counted = λ dir. refl })
    (keeps-is h.1 (keeps-rise u id limit (u.halves id)))
moves u (GaveStream id limit (Err e)) v n h = idle u _ v (record { bytes = refl; limit = refl; opened = λ dir. refl; counted = λ dir. refl })
    (keeps-is h (keeps-all u))
moves u (WasStopped id code (Ok first)) v n h = idle u _ v (record { bytes = refl; limit = refl; opened = λ dir. refl; counted = λ dir. refl })
    (keeps-is h.1 (keeps-stop u id code (u.halves id)))
moves u (WasStopped id code (Err e)) v n h = idle u _ v (record { bytes = refl; limit = refl; opened = λ dir. refl; counted = λ dir. refl })
    (keeps-is h (keeps-all u))
moves u (Writing id lists (Ok wrote)) v n h = write-moves u id lists h.1 wrote v h.3.0
moves u (Writing id lists (Err write_error.Blocked)) v n h = idle u _ v (record { bytes = refl; limit = refl; opened = λ dir. refl; counted = λ dir. refl })
    (keeps-is h.3.1.1 (keeps-blocked u id (u.halves id)))
moves u (Writing id lists (Err (write_error.Stopped code))) v n h = idle u _ v (record { bytes = refl; limit = refl; opened = λ dir. refl; counted = λ dir. refl })
    (keeps-is h.3.1.1 (keeps-all u))
moves u (Writing id lists (Err write_error.ClosedStream)) v n h = idle u _ v (record { bytes = refl; limit = refl; opened = λ dir. refl; counted = λ dir. refl })
    (keeps-is h.3.1.1 (keeps-all u))
moves u (Writing id lists (Err write_error.OutOfMemory)) v n h = idle u _ v (record { bytes = refl; limit = refl; opened = λ dir. refl; counted = λ dir. refl })
    (keeps-is h.3.1.0 (keeps-all u))
moves u (Finished id (Ok queue)) v n h = idle u _ v (record { bytes = refl; limit = refl; opened = λ dir. refl; counted = λ dir. refl })
    (keeps-is h.4 (keeps-stream u id _))
moves u (Finished id (Err e)) v n h = idle u _ v (record { bytes = refl; limit = refl; opened = λ dir. refl; counted = λ dir. refl })
    (keeps-is h.1 (keeps-all u))
moves u (Reset id code (Ok done)) v n h = idle u _ v (record { bytes = refl; limit = refl; opened = λ dir. refl; counted = λ dir. refl })
    (keeps-is h.2.3 (record { side = refl; sent = refl; limit = refl; bi = refl; uni = refl }))
moves u (Reset id code (Err handle_error.ClosedStream)) v n h = idle u _ v (record { bytes = refl; limit = refl; opened = λ dir. refl; counted = λ dir. refl })
    (keeps-is h.2.1 (keeps-all u))
moves u (Reset id code (Err handle_error.OutOfMemory)) v n h = idle u _ v (record { bytes = refl; limit = refl; opened = λ dir. refl; counted = λ dir. refl })
    (keeps-is h.2.0 (keeps-all u))
moves u (SetPriority id priority (Ok done)) v n h = idle u _ v (record { bytes = refl; limit = refl; opened = λ dir. refl; counted = λ dir. refl })
    (keeps-is h.2 (keeps-stream u id _))
moves u (SetPriority id priority (Err handle_error.ClosedStream)) v n h = idle u _ v (record { bytes = refl; limit = refl; opened = λ dir. refl; counted = λ dir. refl })
    (keeps-is h.1 (keeps-all u))
moves u (SetPriority id priority (Err handle_error.OutOfMemory)) v n h = idle u _ v (record { bytes = refl; limit = refl; opened = λ dir. refl; counted = λ dir. refl })
    (keeps-is h (keeps-all u))
moves u (Polled answer) v n h = idle u _ v (record { bytes = refl; limit = refl; opened = λ dir. refl; counted = λ dir. refl })
    (keeps-polled u v answer h)
moves u (Transmitted id most (Ok frame)) v n h = idle u _ v (record { bytes = refl; limit = refl; opened = λ dir. refl; counted = λ dir. refl })
    (keeps-is h.2.1 (record { side = refl; sent = refl; limit = refl; bi = refl; uni = refl }))
moves u (Transmitted id most (Err e)) v n h = idle u _ v (record { bytes = refl; limit = refl; opened = λ dir. refl; counted = λ dir. refl })
    (keeps-is h.2.0 (keeps-all u))
moves u (SetWindow window) v n h = idle u _ v (record { bytes = refl; limit = refl; opened = λ dir. refl; counted = λ dir. refl })
    (keeps-is h (record { side = refl; sent = refl; limit = refl; bi = refl; uni = refl }))
moves u (AckedFrame id offsets fin (Ok done)) v n h = idle u _ v (record { bytes = refl; limit = refl; opened = λ dir. refl; counted = λ dir. refl })
    (keeps-acked u id offsets fin done v h)
moves u (AckedFrame id offsets fin (Err e)) v n h = idle u _ v (record { bytes = refl; limit = refl; opened = λ dir. refl; counted = λ dir. refl })
    (keeps-is h.1 (keeps-all u))
moves u (LostFrame id offsets fin (Ok queue)) v n h = idle u _ v (record { bytes = refl; limit = refl; opened = λ dir. refl; counted = λ dir. refl })
    (keeps-lost u id offsets fin queue v h)
moves u (LostFrame id offsets fin (Err e)) v n h = idle u _ v (record { bytes = refl; limit = refl; opened = λ dir. refl; counted = λ dir. refl })
    (keeps-is h.1 (keeps-all u))
moves u (ResetAcked id answer) v n h = idle u _ v (record { bytes = refl; limit = refl; opened = λ dir. refl; counted = λ dir. refl })
    (keeps-is h.1 (keeps-given-up u id))
moves u RejectedEarly v n h = cc
moves u Unsent v n h = idle u _ v (record { bytes = refl; limit = refl; opened = λ dir. refl; counted = λ dir. refl })
    (keeps-is h (record { side = refl; sent = refl; limit = refl; bi = refl; uni = refl }))

-- what the calls since the last rejection say
begun : (side : Side) (u : Outgoing) → u.side ≡ side → TellsBudget side [] (after_rejection u)
begun side u e = record { is_side = e; written = refl; limit = refl; within = omega arith; opened = λ dir. opened dir; counted = λ dir. counted dir; few = λ dir. omega arith }
  where
    opened : (dir : Dir) → (own_of (after_rejection u) dir).opened ≡ 0
    opened Bi = refl
    opened Uni = refl

    counted : (dir : Dir) → (own_of (after_rejection u) dir).limit ≡ 0
    counted Bi = refl
    counted Uni = refl

is-rejection : (u : Outgoing) (e : Call) (v : Outgoing) → is_rejection e ≡ true → DoesCall u e v → v ≡ after_rejection u
is-rejection u (Permitted id) v t h = cc
is-rejection u (PermittedMore first count) v t h = cc
is-rejection u (Removed id) v t h = cc
is-rejection u (GaveParams params answer) v t h = cc
is-rejection u (Opened dir answer) v t h = cc
is-rejection u (GaveData limit) v t h = cc
is-rejection u (GaveStreams dir count answer) v t h = cc
is-rejection u (GaveStream id limit answer) v t h = cc
is-rejection u (WasStopped id code answer) v t h = cc
is-rejection u (Writing id lists answer) v t h = cc
is-rejection u (Finished id answer) v t h = cc
is-rejection u (Reset id code answer) v t h = cc
is-rejection u (SetPriority id priority answer) v t h = cc
is-rejection u (Polled answer) v t h = cc
is-rejection u (Transmitted id most answer) v t h = cc
is-rejection u (SetWindow window) v t h = cc
is-rejection u (AckedFrame id offsets fin answer) v t h = cc
is-rejection u (LostFrame id offsets fin answer) v t h = cc
is-rejection u (ResetAcked id answer) v t h = cc
is-rejection u RejectedEarly v t h = h
is-rejection u Unsent v t h = cc

tells-on : (side : Side) (h : List Call) (u : Outgoing) (e : Call) (v : Outgoing) (b : Bool) → is_rejection e ≡ b → TellsBudget side h u → DoesCall u e v → TellsBudget side (cond b [] (e ∷ h)) v
tells-on side h u e v false n t does = goes-on (moves u e v n does) t
tells-on side h u e v true n t does = subst (λ (x : Outgoing). TellsBudget side [] x) (sym (is-rejection u e v n does)) (begun side u t.is_side)

-- one more call
pub next : (side : Side) (window : ℕ) (h : List Call) (u : Outgoing) (e : Call) (v : Outgoing) → ComesFrom side window h u → DoesCall u e v → ComesFrom side window (e ∷ h) v
next side window h u e v f does = record { run = (u, f.run, does); tells = tells-on side (calls_since h) u e v (is_rejection e) refl f.tells does }

pub continues : (u : Outgoing) (e : Call) (v : Outgoing) → DoesCall u e v → Continues u e v
continues u e v does = λ side window h f. next side window h u e v f does

-- no call
pub starts : (side : Side) (window : ℕ) (v : Outgoing) → v ≡ no_streams side window → ComesFrom side window [] v
starts side window v is = record { run = is; tells = subst (λ (x : Outgoing). TellsBudget side [] x) (sym is) begin }
  where
    opened : (dir : Dir) → (own_of (no_streams side window) dir).opened ≡ 0
    opened Bi = refl
    opened Uni = refl

    counted : (dir : Dir) → (own_of (no_streams side window) dir).limit ≡ 0
    counted Bi = refl
    counted Uni = refl

    begin : TellsBudget side [] (no_streams side window)
    begin = record { is_side = refl; written = refl; limit = refl; within = omega arith; opened = λ dir. opened dir; counted = λ dir. counted dir; few = λ dir. omega arith }
