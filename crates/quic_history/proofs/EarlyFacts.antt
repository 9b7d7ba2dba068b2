-- What is told of what an end received stays true where an early start is rejected, or sent again.
use Rattle.std.proofs.Common.{◌≡◌, ℕ, Bool, true, false, List, ◌∷◌, Option, Some, None, is_some, Result, Ok, Err, refl, sym, ap, ◌∙◌, subst, arith, ◌/◌, ◌%◌}
use Rattle.std.specs.Prelude.{◌&&◌, ◌==◌, not, nat_le, if◌then◌else◌}
use Rattle.std.specs.Option.{option_map}
use Rattle.std.proofs.lemmas.Bool.Decides.{nat_tests}
use Rattle.quic_values.specs.declared.ids.Side.{Side}
use Rattle.quic_values.specs.declared.ids.Side.TheVariants.{Client, Server}
use Rattle.quic_values.specs.declared.ids.Dir.{Dir}
use Rattle.quic_values.specs.declared.ids.Dir.TheVariants.{Bi, Uni}
use Rattle.quic_values.specs.Ids.{stream_id, other_side, initiator_of, dir_of, index_of}
use Rattle.quic_wire.specs.Codes.{STREAM_STATE_ERROR}
use Rattle.quic_limits.specs.Remote.{Remote}
use Rattle.quic_receiving.specs.Half.{Half}
use Rattle.quic_outgoing.specs.Senders.{is_local, are_one_end, new_sender}
use Rattle.quic_sending.specs.declared.send.Send.{Send}
use Rattle.quic_outgoing.specs.Early.{of_peer_anew, own_unsent, as_unsent, with_all_unsent}
use Rattle.quic_limits.specs.Credit.{Credit}
use Rattle.quic_history.specs.World.{World, sends, id_refusal, is_own, is_same_side, own_refusal, remote_of}
use Rattle.quic_history.specs.Early.{IsEarly, without_own, with_rejection, announced_anew}
use Rattle.quic_history.specs.History.{Event, Rejected, SentAgain, Trace, untouched, trace, told_still, streams, received, consumed, debt, last_window, is_freed, GivenSo, EndsSo, StreamFrom, Facts}
use Rattle.quic_history.proofs.Totals.{total_same}
use Rattle.quic_history.proofs.Credits.{credit-same}
use Rattle.quic_history.proofs.Refusals.{refusal_by, refusal-is, refusal-same, side-bit}
use Rattle.quic_history.proofs.StreamSteps.{AllFrom, half-from, all-same}
use Rattle.quic_history.proofs.SendSteps.{Spares}
use Rattle.quic_values.specs.declared.memory.OutOfMemory.{OutOfMemory}
use Rattle.quic_queue.specs.SendOrder.{SendOrder}
use Rattle.quic_history.specs.Halves.{Halves}
use Rattle.quic_history.proofs.Remotes.{AllRemotes, SameLimits, limits-refl, remote-same}

pub same-ends : (a b : Side) → is_same_side a b ≡ are_one_end a b
same-ends Client Client = refl
same-ends Client Server = refl
same-ends Server Client = refl
same-ends Server Server = refl

-- the streams of the peer are none of a client's
peer_of : (d : Dir) (i : ℕ) → is_local Client (stream_id (other_side Client) d i) ≡ false
peer_of d i = ap (λ b. are_one_end Client (if b then Client else Server)) (side-bit Server d i)

-- ---- what was received on a client's own streams before a frame came

high_none : (n : ℕ) (t : Trace) (error : ℕ) (o : Option Half) → StreamFrom n t (Some error) o → t.high ≡ 0
high_none n t error (Some h) f = absurd f
high_none n t error None f = ap (λ (x : Trace). x.high) f

none-came : (f : ℕ → Trace) (u : World) → IsEarly u → AllFrom f u → (q : ℕ) → is_local Client q ≡ true → (f q).high ≡ 0
none-came f u early all q e = by (id_refusal u q) refl
  where
    own : is_local u.out.side q ≡ true
    own = ap (λ s. is_local s q) early.client ∙ e

    by : (r : Option ℕ) → id_refusal u q ≡ r → (f q).high ≡ 0
    by None k =
        let h = early.own q own k in
        let x = half-from f u q h.0 all k h.1 in
        sym x.high ∙ h.2
    by (Some error) k = high_none u.window (f q) error (u.receive q) (let s = all q in rw k at s)

told_high : (f : ℕ → Trace) (u : World) → IsEarly u → AllFrom f u → (q : ℕ) → (told_still Rejected q (f q)).high ≡ (f q).high
told_high f u early all q = by (is_local Client q) refl
  where
    by : (b : Bool) → is_local Client q ≡ b → (if b then untouched else f q).high ≡ (f q).high
    by true e = sym (none-came f u early all q e)
    by false e = refl

-- ---- each stream

no_error : (w : World) (d : Dir) (index : ℕ) → w.out.own_bi.opened ≡ 0 → (error : ℕ) × (own_refusal w d index ≡ Some error)
no_error w Uni index z = (STREAM_STATE_ERROR, refl)
no_error w Bi index z = let k : nat_le w.out.own_bi.opened index ≡ true = grind (arith, nat_tests) in (STREAM_STATE_ERROR, rw k refl)

unheard : (n : ℕ) (r : Option ℕ) → (error : ℕ) × (r ≡ Some error) → StreamFrom n untouched r None
unheard n r e = rw e.1 refl

others_refused : (b : Bool) (opened opened' bi uni index : ℕ) → refusal_by false b opened bi uni index ≡ refusal_by false b opened' bi uni index
others_refused true opened opened' bi uni index = refl
others_refused false opened opened' bi uni index = refl

pub announced-most : (b : Bool) (r : Remote) → (announced_anew b r).max_remote ≡ r.max_remote
announced-most true r = refl
announced-most false r = refl

-- a frame on a stream of the peer is refused as before
peer_refused : (u : World) (q : ℕ) → is_own u q ≡ false → id_refusal (with_rejection u) q ≡ id_refusal u q
peer_refused u q e =
    let b = q / 2 % 2 == 0 in
    refusal-is (with_rejection u) q
    ∙ ap (λ own. refusal_by own b 0 (announced_anew u.adjusted u.bi).max_remote (announced_anew u.adjusted u.uni).max_remote (index_of q)) e
    ∙ ap (λ n. refusal_by false b 0 n (announced_anew u.adjusted u.uni).max_remote (index_of q)) (announced-most u.adjusted u.bi)
    ∙ ap (λ n. refusal_by false b 0 u.bi.max_remote n (index_of q)) (announced-most u.adjusted u.uni)
    ∙ others_refused b 0 u.out.own_bi.opened u.bi.max_remote u.uni.max_remote (index_of q)
    ∙ ap (λ own. refusal_by own b u.out.own_bi.opened u.bi.max_remote u.uni.max_remote (index_of q)) (sym e)
    ∙ sym (refusal-is u q)

announced_same : (b : Bool) (r : Remote) → SameLimits r (announced_anew b r)
announced_same true r = record { max = refl; allocated = refl; concurrent = refl; opened = λ k. k; accepted = λ k. k }
announced_same false r = limits-refl r

streams_rejected : (f : ℕ → Trace) (u : World) → IsEarly u → AllFrom f u → AllFrom (λ q. told_still Rejected q (f q)) (with_rejection u)
unfolding without_own
streams_rejected f u early all q = there
  where
    w : World
    w = with_rejection u

    side : is_local u.out.side q ≡ is_local Client q
    side = ap (λ s. is_local s q) early.client

    own : (b : Bool) → is_local Client q ≡ b → is_own w q ≡ b
    own b e = same-ends u.out.side (initiator_of q) ∙ side ∙ e

    refused : is_local Client q ≡ true → (error : ℕ) × (id_refusal w q ≡ Some error)
    refused e = let k = no_error w (dir_of q) (index_of q) refl in (k.0, rw (own true e) k.1)

    by : (b : Bool) → is_local Client q ≡ b → StreamFrom u.window (if b then untouched else f q) (id_refusal w q) (if b then None else u.receive q)
    by true e = unheard u.window (id_refusal w q) (refused e)
    by false e = subst (λ (r : Option ℕ). StreamFrom u.window (f q) r (u.receive q)) (sym (peer_refused u q (own false e))) (all q)

    there : StreamFrom u.window (told_still Rejected q (f q)) (id_refusal w q) (if is_local u.out.side q then None else u.receive q)
    there = subst (λ (b : Bool). StreamFrom u.window (told_still Rejected q (f q)) (id_refusal w q) (if b then None else u.receive q)) (sym side) (by (is_local Client q) refl)

-- ---- what a history says

pub facts-rejected : (begun : Credit) (h : List Event) (u v : World) → Facts begun h u → IsEarly u → v ≡ with_rejection u → Facts begun (Rejected ∷ h) v
facts-rejected begun h u v f early e = rw e (record {
  credit = credit-same (last_window begun h) (consumed h) (debt begun h) (received h) _ _ _ u.credit (omega arith) (omega arith)
      (total_same (λ q. (trace h q).high) (λ q. (trace (Rejected ∷ h) q).high) (streams h) (told_high (trace h) u early f.streams)) f.credit;
  streams = streams_rejected (trace h) u early f.streams;
})

pub told-rejected : (q : ℕ) (t : Trace) → EndsSo t × GivenSo t → EndsSo (told_still Rejected q t) × GivenSo (told_still Rejected q t)
told-rejected q t p = by (is_local Client q)
  where
    by : (b : Bool) → EndsSo (if b then untouched else t) × GivenSo (if b then untouched else t)
    by true = (record { freed = λ k. cc; sized = λ k. cc; all = λ k. cc }, record { came = λ at byte h. absurd h; once = tt })
    by false = p

-- ---- the peer's streams

held_anew : (u : World) (q : ℕ) → is_local u.out.side q ≡ false → sends (with_rejection u) q ≡ sends u q
unfolding of_peer_anew
held_anew u q e = by (u.out.halves q) (is_local u.out.side q) e
  where
    by : (o : Option Send) (b : Bool) → b ≡ false → is_some (if b then None else option_map (λ s. new_sender 0) o) ≡ is_some o
    by o true k = cc
    by None false k = refl
    by (Some s) false k = refl

still_told : (h : List Event) (q : ℕ) → is_local Client q ≡ false → trace (Rejected ∷ h) q ≡ trace h q
still_told h q e = rw e refl

freed_same : (h : List Event) (u : World) → u.out.side ≡ Client → (d : Dir) (i : ℕ)
    → is_freed (trace (Rejected ∷ h)) u.out.side (sends (with_rejection u)) d i ≡ is_freed (trace h) u.out.side (sends u) d i
freed_same h u e Uni i =
    let p : is_local Client (stream_id (other_side u.out.side) Uni i) ≡ false = ap (λ s. is_local Client (stream_id (other_side s) Uni i)) e ∙ peer_of Uni i in
    ap (λ (t : Trace). t.gone) (still_told h (stream_id (other_side u.out.side) Uni i) p)
freed_same h u e Bi i =
    let id = stream_id (other_side u.out.side) Bi i in
    let p : is_local Client id ≡ false = ap (λ s. is_local Client (stream_id (other_side s) Bi i)) e ∙ peer_of Bi i in
    let o : is_local u.out.side id ≡ false = ap (λ s. is_local s id) e ∙ p in
    ap (λ (t : Trace). t.gone && not (sends (with_rejection u) id)) (still_told h id p) ∙ ap (λ b. (trace h id).gone && not b) (held_anew u id o)

pub remotes-rejected : (at_once b : Dir → ℕ) (h : List Event) (u v : World) → IsEarly u → v ≡ with_rejection u → AllRemotes at_once b (trace h) u → AllRemotes at_once b (trace (Rejected ∷ h)) v
remotes-rejected at_once b h u v early e x = let P : World → Type 0 = λ w. AllRemotes at_once b (trace (Rejected ∷ h)) w in subst P (sym e) both
  where
    each : (d : Dir) → SameLimits (remote_of u d) (remote_of (with_rejection u) d)
    each Bi = announced_same u.adjusted u.bi
    each Uni = announced_same u.adjusted u.uni

    both : AllRemotes at_once b (trace (Rejected ∷ h)) (with_rejection u)
    both d = remote-same (at_once d) (b d) (is_freed (trace h) u.out.side (sends u) d) (is_freed (trace (Rejected ∷ h)) u.out.side (sends (with_rejection u)) d) (remote_of u d) (remote_of (with_rejection u) d)
        (each d) (λ i l. freed_same h u early.client d i) (x d)

unsent_sends : (u : World) (q : ℕ) → is_some ((with_all_unsent u.out).halves q) ≡ sends u q
unfolding own_unsent
unsent_sends u q = by (u.out.halves q) (is_local u.out.side q)
  where
    by : (o : Option Send) (b : Bool) → is_some (if b then option_map as_unsent o else o) ≡ is_some o
    by None true = refl
    by (Some s) true = refl
    by o false = refl

-- what is sent again leaves the receiving side as it is
pub spares-again : (u v : World) (q : SendOrder) → v ≡ record u { out = with_all_unsent u.out; queue = q } → Spares u v
spares-again u v q e = let P : World → Type 0 = λ w. Spares u w in
    subst P (sym e) (record { side = refl; window = refl; credit = refl; receive = refl; opened = refl; opened_uni = refl; reported = refl; count = refl; limits = limits; held = unsent_sends u })
  where
    limits : (d : Dir) → SameLimits (remote_of u d) (remote_of (record u { out = with_all_unsent u.out; queue = q }) d)
    limits Bi = limits-refl u.bi
    limits Uni = limits-refl u.uni

pub facts-again : (begun : Credit) (h : List Event) (u v : World) (answer : Result (Unit {0}) OutOfMemory) → Facts begun h u → Spares u v → Facts begun (SentAgain answer ∷ h) v
facts-again begun h u v (Ok x) f s = record {
  credit = rw s.credit (credit-same (last_window begun h) (consumed h) (debt begun h) (received h) _ _ _ u.credit (omega arith) (omega arith) refl f.credit);
  streams = let bi = s.limits Bi in let uni = s.limits Uni in
      all-same (trace h) u v s.window (λ q. refusal-same v u q s.side s.opened bi.max uni.max) (λ q. ap (λ (k : Halves). k q) s.receive) f.streams;
}
facts-again begun h u v (Err x) f s = record {
  credit = rw s.credit (credit-same (last_window begun h) (consumed h) (debt begun h) (received h) _ _ _ u.credit (omega arith) (omega arith) refl f.credit);
  streams = let bi = s.limits Bi in let uni = s.limits Uni in
      all-same (trace h) u v s.window (λ q. refusal-same v u q s.side s.opened bi.max uni.max) (λ q. ap (λ (k : Halves). k q) s.receive) f.streams;
}

-- and so does lack of memory
pub spares-nothing : (u v : World) → v ≡ u → Spares u v
spares-nothing u v e = let P : World → Type 0 = λ w. Spares u w in
    subst P (sym e) (record { side = refl; window = refl; credit = refl; receive = refl; opened = refl; opened_uni = refl; reported = refl; count = refl; limits = λ d. limits-refl (remote_of u d); held = λ q. refl })
