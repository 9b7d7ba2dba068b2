-- Each call keeps the number of send halves of the streams that an end opened or accepted.
use Rattle.std.proofs.Common.{◌≡◌, ℕ, Bool, true, false, eqb, List, [], ◌∷◌, Option, Some, None, is_some, Result, Ok, Err, refl, sym, ap, ◌∙◌, subst, inl, inr, arith, ◌+◌, ◌-◌, ◌≤◌, ◌<◌, ◌/◌, ◌%◌}
use Rattle.std.specs.Prelude.{◌==◌, ◌^◌, ◌&&◌, ◌||◌, min, max, nat_lt, if◌then◌else◌}
use Rattle.std.proofs.lemmas.Bool.Decides.{nat_tests}
use Rattle.quic_values.specs.declared.ids.Side.{Side}
use Rattle.quic_values.specs.declared.ids.Side.TheVariants.{Client, Server}
use Rattle.quic_values.specs.declared.ids.Dir.{Dir}
use Rattle.quic_values.specs.declared.ids.Dir.TheVariants.{Bi, Uni}
use Rattle.quic_values.specs.Ids.{stream_id, other_side, dir_of, index_of, initiator_of}
use Rattle.quic_values.specs.Offsets.{one_more}
use Rattle.quic_limits.specs.Remote as remote
use Rattle.quic_limits.specs.Remote.{Remote, one_accepted}
use Rattle.quic_limits.specs.SendingCredit.{SendingCredit}
use Rattle.quic_sending.specs.declared.send.Send.{Send}
use Rattle.quic_receiving.specs.Counted.{number}
use Rattle.quic_receiving.proofs.Counted.{number-bound}
use Rattle.quic_outgoing.specs.Senders.{is_local, are_one_end, with_sender, new_sender}
use Rattle.quic_outgoing.specs.Outgoing.{Outgoing, own_of}
use Rattle.quic_outgoing.specs.History.{count_in, given_for}
use Rattle.quic_flows.specs.Flow.{SendFlow}
use Rattle.quic_history.specs.World.{World, Made, sends, is_own, is_same_side, remote_of, with_remote, with_send_streams, replaced_in, with_credit, with_receive_window}
use Rattle.quic_history.specs.Sends.{with_opened}
use Rattle.quic_history.specs.SendEvents.{SendEvent, SendStep, GaveLimits, RaisedCount}
use Rattle.quic_history.specs.SendTotals.{SendTotals, send_totals, own_total}
use Rattle.quic_history.specs.Permitting.{with_accepted, is_sent_as_well}
use Rattle.quic_history.specs.Acknowledged.{without_sender, with_send_freed}
use Rattle.quic_history.specs.Flows.{AllFlows, has_side_in}
use Rattle.quic_history.specs.Used.{used_halves, halves_among}
use Rattle.quic_history.specs.History.{Event, Received, ReceivedReset, AddedCredits, Began, Gave, Ended, Stopped, ToldReset, Resized, SetConcurrent, Accepted, LeftPending, Sending, Rejected, SentAgain, since, Step, SentSo, FlowsSo, count_by, greatest_count, opened_in_all, send_tale, may_open_after}
use Rattle.quic_history.proofs.ControlSteps.{announces}
use Rattle.quic_history.proofs.ReceivingSteps.{stays-at, stays-same, stays-replaced, stays-received, stays-reset, stays-began, stays-gave, stays-stopped, stays-told-reset}
use Rattle.std.specs.Option.{option_map}
use Rattle.quic_outgoing.specs.Early.{of_peer_anew}
use Rattle.quic_history.specs.Early.{announced_anew, with_rejection}
use Rattle.quic_history.proofs.EarlyFacts.{spares-again}
use Rattle.quic_history.proofs.Refusals.{own-other}
use Rattle.quic_history.proofs.Remotes.{number-same, next-number, other-place, bi-not-uni, spelled}
use Rattle.quic_history.proofs.Totals.{by_cases, same}
use Rattle.quic_history.proofs.SendFreed.{without_half, send-freed, none-here, others-held}
use Rattle.quic_history.proofs.SendSides.{side_by, side-is, held-side}
use Rattle.quic_history.proofs.SendSteps.{OpensOne, FreesOne, Spares, kind-of, opening}
use Rattle.quic_history.proofs.UsedHalves.{Keeps, KeepsUsed, used-kept, used-same, used-less-bi, used-less-uni, used-less-peer, own-apart, number-next, keeps-parts, keeps-none, keeps-onward, keeps-concurrent, keeps-spared, keeps-announced, used-opened}

-- ---- how many there may be

count_few : (e : Event) (d : Dir) → count_by e d ≤ 2 ^ 60
count_few (Sending (GaveLimits limits (Ok x))) d = omega arith
count_few (Sending (RaisedCount dir count (Ok x))) d = omega arith
count_few e d = omega arith

greatest_few : (h : List Event) (d : Dir) → greatest_count h d ≤ 2 ^ 60
greatest_few [] d = omega arith
greatest_few (e ∷ h) d = let a = greatest_few h d in let b = count_few e d in omega arith

may_open_few : (m : Made) (h : List Event) → m.bi.max_remote ≤ 2 ^ 60 → (send_tale m h).may_open ≤ 2 ^ 60
may_open_few m [] l = l
may_open_few m (e ∷ h) l = let a = may_open_few m h l in omega arith

opened_few : (h : List Event) (v : World) (d : Dir) → SentSo h (send_totals v.out) → (own_total (send_totals v.out) d).opened ≤ 2 ^ 60
opened_few h v d f = let a = f.opened d in let b = f.few d in let c = greatest_few h d in omega arith

pub used-few : (m : Made) (h : List Event) (v : World) → m.bi.max_remote ≤ 2 ^ 60 → SentSo (since h) (send_totals v.out) → FlowsSo m h v → v.bi.next_reported ≤ v.bi.max_remote → used_halves v < 2 ^ 64
used-few m h v l sent sends room =
    let s : Side = v.out.side in
    let a = opened_few (since h) v Bi sent in
    let b = opened_few (since h) v Uni sent in
    let c = may_open_few m h l in
    let d = sends.may_open in
    let x = number-bound v.out.own_bi.opened (λ i. is_some (v.out.halves (stream_id s Bi i))) in
    let y = number-bound v.out.own_uni.opened (λ i. is_some (v.out.halves (stream_id s Uni i))) in
    let z = number-bound v.bi.next_reported (λ i. is_some (v.out.halves (stream_id (other_side s) Bi i))) in
    omega arith

-- the count is that of the halves
abbrev pub CountsUsed : World → Type 0
CountsUsed w = w.send_streams ≡ used_halves w

counts_kept : (u v : World) → Keeps u v → CountsUsed u → CountsUsed v
counts_kept u v k e = k.count ∙ e ∙ sym (used-kept u v k)

-- ---- a stream is opened

opened_count : (u : World) (d : Dir) (id : ℕ) (o : Outgoing) → (with_opened u d id o).send_streams ≡ one_more u.send_streams
opened_count u Bi id o = refl
opened_count u Uni id o = refl

one_more_is : (a b c : ℕ) → a ≡ b → c ≡ b + 1 → c < 2 ^ 64 → min (a + 1) (2 ^ 64 - 1) ≡ c
one_more_is a b c e k l = omega arith

counts_opened : (u v : World) → OpensOne u v → used_halves v < 2 ^ 64 → CountsUsed u → CountsUsed v
counts_opened u v k few e =
    let id : ℕ = stream_id u.out.side k.dir (own_of u.out k.dir).opened in
    let more : used_halves v ≡ used_halves u + 1 = ap used_halves k.is ∙ used-opened u k.dir k.few in
    ap (λ w. w.send_streams) k.is ∙ opened_count u k.dir id (opening u k.dir id) ∙ one_more_is u.send_streams (used_halves u) (used_halves v) e more few

-- ---- one is accepted

next_number : (n : ℕ) (g : ℕ → Bool) (b : Bool) → g n ≡ b → number g (n + 1) ≡ (if b then number g n + 1 else number g n)
next_number n g true e = number-next n g e
next_number n g false e = next-number n g e

counts_next : (a n m : ℕ) (b : Bool) → a ≡ n → m ≡ (if b then n + 1 else n) → m < 2 ^ 64 → (if b then min (a + 1) (2 ^ 64 - 1) else a) ≡ m
counts_next a n m true e k l = omega arith
counts_next a n m false e k l = omega arith

counts_accepted : (u : World) (d : Dir) → used_halves (with_accepted u d) < 2 ^ 64 → CountsUsed u → CountsUsed (with_accepted u d)
counts_accepted u Uni few e = e
counts_accepted u Bi few e = by_next (nat_lt u.bi.next_reported u.bi.next_remote) few
  where
    after : Bool → World
    after b = with_send_streams (record u { bi = if b then record u.bi { next_reported = u.bi.next_reported + 1 } else u.bi })
        (if b && sends u (stream_id (other_side u.out.side) Bi u.bi.next_reported) then one_more u.send_streams else u.send_streams)

    by_next : (b : Bool) → used_halves (after b) < 2 ^ 64 → (after b).send_streams ≡ used_halves (after b)
    by_next true few =
        let at : ℕ → Bool = λ i. sends u (stream_id (other_side u.out.side) Bi i) in
        let more = next_number u.bi.next_reported at (at u.bi.next_reported) refl in
        counts_next u.send_streams (used_halves u) (used_halves (after true)) (at u.bi.next_reported) e (added (at u.bi.next_reported) more) few
      where
        added : (b : Bool) → number (λ i. sends u (stream_id (other_side u.out.side) Bi i)) (u.bi.next_reported + 1)
            ≡ (if b then number (λ i. sends u (stream_id (other_side u.out.side) Bi i)) u.bi.next_reported + 1 else number (λ i. sends u (stream_id (other_side u.out.side) Bi i)) u.bi.next_reported)
            → used_halves (after true) ≡ (if b then used_halves u + 1 else used_halves u)
        added true k = omega arith
        added false k = omega arith
    by_next false few = e

-- ---- a half is let go

own_spelled : (s : Side) (b c : Bool) (q : ℕ) → (q % 2 == 0) ≡ b → (q / 2 % 2 == 0) ≡ c → is_same_side s (if b then Client else Server) ≡ true
    → q ≡ stream_id s (if c then Bi else Uni) (q / 4)
own_spelled Client true true q e k n = grind (arith, nat_tests)
own_spelled Client true false q e k n = grind (arith, nat_tests)
own_spelled Client false c q e k n = cc
own_spelled Server true c q e k n = cc
own_spelled Server false true q e k n = grind (arith, nat_tests)
own_spelled Server false false q e k n = grind (arith, nat_tests)

same_end : (a b : Side) → are_one_end a b ≡ is_same_side a b
same_end Client Client = refl
same_end Client Server = refl
same_end Server Client = refl
same_end Server Server = refl

below : (i n : ℕ) → nat_lt i n ≡ true → i < n
below i n e = grind (arith, nat_tests)

not_below : (i n k : ℕ) → nat_lt i n ≡ false → k < n → eqb k i ≡ false
not_below i n k e l = grind (arith, nat_tests)

one_less : (a n m : ℕ) → a ≡ n → n ≡ m + 1 → a - 1 ≡ m
one_less a n m e k = omega arith

module _ (u : World) (id : ℕ) (c : SendingCredit) (held : sends u id ≡ true) (e : CountsUsed u) where
  abbrev w : World
  w = without_half u id c

  abbrev s : Side
  s = u.out.side

  at_id : (q : ℕ) → id ≡ q → sends u q ≡ true
  at_id q k = ap (sends u) (sym k) ∙ held

  gone_at : (q : ℕ) → id ≡ q → sends w q ≡ false
  gone_at q k = ap (sends w) (sym k) ∙ none-here u id c

  others_at : (q : ℕ) → id ≡ q → (k : ℕ) → eqb k q ≡ false → sends w k ≡ sends u k
  others_at q l k n = others-held u id c k (rw l n)

  own_bi : id ≡ stream_id s Bi (index_of id) → index_of id < u.out.own_bi.opened → u.send_streams - 1 ≡ used_halves w
  own_bi k l = let q : ℕ = stream_id s Bi (index_of id) in
      one_less u.send_streams (used_halves u) (used_halves w) e
      (used-less-bi (sends u) (sends w) s u.out.own_bi.opened u.out.own_uni.opened u.bi.next_reported (index_of id) l (at_id q k) (gone_at q k) (others_at q k))

  own_uni : id ≡ stream_id s Uni (index_of id) → index_of id < u.out.own_uni.opened → u.send_streams - 1 ≡ used_halves w
  own_uni k l = let q : ℕ = stream_id s Uni (index_of id) in
      one_less u.send_streams (used_halves u) (used_halves w) e
      (used-less-uni (sends u) (sends w) s u.out.own_bi.opened u.out.own_uni.opened u.bi.next_reported (index_of id) l (at_id q k) (gone_at q k) (others_at q k))

  peer_bi : id ≡ stream_id (other_side s) Bi (index_of id) → (b : Bool) → nat_lt (index_of id) u.bi.next_reported ≡ b → (if b then u.send_streams - 1 else u.send_streams) ≡ used_halves w
  peer_bi k true l = let q : ℕ = stream_id (other_side s) Bi (index_of id) in
      one_less u.send_streams (used_halves u) (used_halves w) e
      (used-less-peer (sends u) (sends w) s u.out.own_bi.opened u.out.own_uni.opened u.bi.next_reported (index_of id) (below (index_of id) u.bi.next_reported l) (at_id q k) (gone_at q k) (others_at q k))
  peer_bi k false l = let q : ℕ = stream_id (other_side s) Bi (index_of id) in
      e ∙ sym (used-same (sends u) (sends w) s u.out.own_bi.opened u.out.own_uni.opened u.bi.next_reported
      (λ d i. others_at q k (stream_id s d i) (own-apart s d i (index_of id)))
      (λ i m. others_at q k (stream_id (other_side s) Bi i) (other-place (other_side s) Bi i (index_of id) (not_below (index_of id) u.bi.next_reported i l m))))

  counts_without : (own bi : Bool) → is_same_side s (initiator_of id) ≡ own → (id / 2 % 2 == 0) ≡ bi
      → side_by own bi u.out.own_bi.opened u.out.own_uni.opened u.bi.max_remote (index_of id) ≡ true
      → (if (if own then nat_lt (index_of id) (own_of w.out (if bi then Bi else Uni)).opened else nat_lt (index_of id) (remote_of w (if bi then Bi else Uni)).next_reported)
      then u.send_streams - 1 else u.send_streams) ≡ used_halves w
  counts_without true true o b l = rw l (own_bi (own_spelled s (id % 2 == 0) true id refl b o) (below (index_of id) u.out.own_bi.opened l))
  counts_without true false o b l = rw l (own_uni (own_spelled s (id % 2 == 0) false id refl b o) (below (index_of id) u.out.own_uni.opened l))
  counts_without false true o b l = peer_bi (spelled s (id % 2 == 0) true id refl b o) (nat_lt (index_of id) u.bi.next_reported) refl
  counts_without false false o b l = cc

  pub counts-freed : has_side_in u.out u.bi.max_remote id ≡ true → CountsUsed (without_sender w id)
  counts-freed there = counts_without (is_own u id) (id / 2 % 2 == 0) refl refl
      (ap (λ b. side_by b (id / 2 % 2 == 0) u.out.own_bi.opened u.out.own_uni.opened u.bi.max_remote (index_of id)) (sym (same_end s (initiator_of id))) ∙ sym (side-is u.out u.bi.max_remote id) ∙ there)

held_there : (f : ℕ → SendFlow) (u : World) (id : ℕ) → AllFlows f u.out u.bi.max_remote → sends u id ≡ true → has_side_in u.out u.bi.max_remote id ≡ true
held_there f u id all held = by_half (u.out.halves id) refl held
  where
    by_half : (o : Option Send) → u.out.halves id ≡ o → is_some o ≡ true → has_side_in u.out u.bi.max_remote id ≡ true
    by_half None k l = cc
    by_half (Some h) k l = held-side _ (f id) (has_side_in u.out u.bi.max_remote id) h (u.out.halves id) k (all id)

keeps_freed : (w : World) (id : ℕ) → KeepsUsed (without_sender w id) (with_send_freed w id)
keeps_freed w id = send-freed (KeepsUsed (without_sender w id)) w id (keeps-none (without_sender w id)) (stays-replaced KeepsUsed keeps-parts (without_sender w id) Bi)

-- ---- how many are held, one after another

pub none-among : (w : World) (s : Side) (d : Dir) → 0 ≡ halves_among w s d 0
unfolding number
none-among w s d = refl

pub one-among : (w : World) (s : Side) (d : Dir) (n count : ℕ) (b : Bool) → sends w (stream_id s d n) ≡ b → count ≡ halves_among w s d n → (if b then count + 1 else count) ≡ halves_among w s d (n + 1)
one-among w s d n count true e k = k' k ∙ sym (number-next n (λ i. sends w (stream_id s d i)) e)
  where
    k' : count ≡ halves_among w s d n → count + 1 ≡ halves_among w s d n + 1
    k' k = ap (λ m. m + 1) k
one-among w s d n count false e k = k ∙ sym (next-number n (λ i. sends w (stream_id s d i)) e)

-- ---- an early start is rejected

announced_reported : (b : Bool) (r : Remote) → (announced_anew b r).next_reported ≡ r.next_reported
announced_reported true r = refl
announced_reported false r = refl

peer_local : (s : Side) (i : ℕ) → is_local s (stream_id (other_side s) Bi i) ≡ false
peer_local s i = same_end s (initiator_of (stream_id (other_side s) Bi i)) ∙ own-other s Bi i

some_mapped : (o : Option Send) → is_some (option_map (λ s. new_sender 0) o) ≡ is_some o
some_mapped None = refl
some_mapped (Some s) = refl

peer_kept : (u : World) (i : ℕ) → sends (with_rejection u) (stream_id (other_side u.out.side) Bi i) ≡ sends u (stream_id (other_side u.out.side) Bi i)
unfolding of_peer_anew
peer_kept u i = rw (peer_local u.out.side i) (some_mapped (u.out.halves (stream_id (other_side u.out.side) Bi i)))

none_opened : (f : ℕ → Bool) → number f 0 ≡ 0
unfolding number
none_opened f = refl

counts_rejected : (u : World) → CountsUsed (with_rejection u)
counts_rejected u =
    let s : Side = u.out.side in
    let v : World = with_rejection u in
    let a = none_opened (λ i. sends v (stream_id s Bi i)) in
    let b = none_opened (λ i. sends v (stream_id s Uni i)) in
    let c = number-same u.bi.next_reported (λ i. sends u (stream_id (other_side s) Bi i)) (λ i. sends v (stream_id (other_side s) Bi i)) (λ i l. peer_kept u i) in
    rw (announced_reported u.adjusted u.bi) (omega (arith, a, b, c))

-- ---- every call

module _ (m : Made) (h : List Event) (u v : World) (room : u.bi.next_reported ≤ u.bi.max_remote) (flows : FlowsSo m h u) (few : used_halves v < 2 ^ 64) (e : CountsUsed u) where
  keeps : KeepsUsed u v → CountsUsed v
  keeps k = counts_kept u v (k room) e

  counts_one_freed : FreesOne u v → CountsUsed v
  counts_one_freed k =
      let w = without_half u k.id k.budget in
      counts_kept (without_sender w k.id) v
      (keeps-onward (without_sender w k.id) (with_send_freed w k.id) v (keeps_freed w k.id) (keeps-spared (with_send_freed w k.id) v k.rest) room)
      (counts-freed u k.id k.budget k.held e (held_there _ u k.id flows.flows k.held))

  counts_sending : (a : SendEvent) → SendStep u a v → CountsUsed v
  counts_sending a s = elim (kind-of u a v s) [
    | inl k ↦ keeps (keeps-spared u v k)
    | inr (inl k) ↦ counts_opened u v k few e
    | inr (inr k) ↦ counts_one_freed k
  ]

  pub kept-used : (a : Event) → Step u a v → CountsUsed v
  kept-used (Received id offset bytes fin answer) s = keeps (stays-received KeepsUsed keeps-parts u v id offset bytes fin answer s)
  kept-used (ReceivedReset id code final answer) s = keeps (stays-reset KeepsUsed keeps-parts u v id code final answer s)
  kept-used (AddedCredits count answer) s = keeps (stays-at KeepsUsed keeps-parts u v (with_credit u count) s.0 (keeps-parts.credit u count))
  kept-used (Began id ordered answer) s = keeps (stays-began KeepsUsed keeps-parts u v id ordered answer s)
  kept-used (Gave id most ordered answer) s = keeps (stays-gave KeepsUsed keeps-parts u v id s.new answer s.is)
  kept-used (Ended id count) s = keeps (stays-at KeepsUsed keeps-parts u v (with_credit u count) s (keeps-parts.credit u count))
  kept-used (Stopped id code answer) s = keeps (stays-stopped KeepsUsed keeps-parts u v id code answer s.0 s.1 s.2)
  kept-used (ToldReset id answer) s = keeps (stays-told-reset KeepsUsed keeps-parts u v id answer s.0 s.1 s.2)
  kept-used (Resized size answer) s = (let P : World → Type 0 = λ x. CountsUsed x in subst P (sym s.0) e)
  kept-used (SetConcurrent dir count (Ok k)) s = keeps (stays-at KeepsUsed keeps-parts u v _ s (keeps-concurrent u dir count))
  kept-used (SetConcurrent dir count (Err k)) s = keeps (stays-same KeepsUsed keeps-parts u v s)
  kept-used (Accepted dir answer) s = let P : World → Type 0 = λ x. CountsUsed x in
      subst P (sym s.0) (counts_accepted u dir (let l : used_halves v ≡ used_halves (with_accepted u dir) = ap used_halves s.0 in omega (arith, few, l)) e)
  kept-used (LeftPending kind frame) s = keeps (keeps-announced u v (announces kind u s.0 frame v s.1 s.2))
  kept-used (Sending a) s = counts_sending a s
  kept-used Rejected s = let P : World → Type 0 = λ x. CountsUsed x in subst P (sym s.1) (counts_rejected u)
  kept-used (SentAgain (Ok x)) s = keeps (keeps-spared u v (spares-again u v _ s.1.2))
  kept-used (SentAgain (Err x)) s = keeps (stays-same KeepsUsed keeps-parts u v s.1)
