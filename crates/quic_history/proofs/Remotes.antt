-- How many streams the peer may open, over histories.
use Rattle.std.proofs.Common.{◌≡◌, ◌⊎◌, ℕ, zero, suc, add-one, Bool, true, false, ◌&&◌, not, eqb, Option, Some, None, refl, sym, ap, ◌∙◌, inl, inr, arith, ◌+◌, ◌-◌, ◌/◌, ◌%◌, ◌≤◌, ◌<◌}
use Rattle.std.specs.Prelude.{max, min, ◌==◌, ◌^◌, nat_le, nat_lt, if◌then◌else◌}
use Rattle.std.proofs.lemmas.Bool.{cases_lt}
use Rattle.std.proofs.lemmas.Bool.Decides.{nat_tests}
use Rattle.quic_values.specs.declared.ids.Side.{Side}
use Rattle.quic_values.specs.declared.ids.Side.TheVariants.{Client, Server}
use Rattle.quic_values.specs.declared.ids.Dir.{Dir}
use Rattle.quic_values.specs.declared.ids.Dir.TheVariants.{Bi, Uni}
use Rattle.quic_values.specs.Ids.{stream_id, other_side, dir_of, index_of}
use Rattle.quic_wire.specs.Codes.{STREAM_LIMIT_ERROR}
use Rattle.quic_limits.specs.Remote as remote
use Rattle.quic_limits.specs.Remote.{Remote}
use Rattle.quic_receiving.specs.Counted.{number}
use Rattle.quic_receiving.specs.Half.{Half}
use Rattle.quic_outgoing.specs.Senders.{with_sender}
use Rattle.quic_history.specs.World.{World, sends, id_refusal, own_refusal, is_own, is_same_side, remote_of, with_remote, with_receive, with_send_streams, permitted_if, replaced_in, released, with_freed, told_readable, noticed}
use Rattle.quic_history.specs.History.{Trace, RemoteFrom, is_freed}
use Rattle.quic_history.proofs.Totals.{by_cases, same}
use Rattle.quic_history.proofs.Refusals.{own-other}
use Rattle.quic_receiving.proofs.Counted.{number-bound}
use Rattle.quic_receiving.proofs.Data.{number-all}

-- ---- counts

pub number-same : (n : ℕ) (f g : ℕ → Bool) → ((i : ℕ) → i < n → g i ≡ f i) → number g n ≡ number f n
unfolding number
number-same zero f g e = refl
number-same (suc n) f g e = let k = e n (omega arith) in rw k (omega (arith, number-same n f g (λ i l. e i (omega arith))))

-- one more passes
pub number-one : (n i : ℕ) (f g : ℕ → Bool) → i < n → f i ≡ false → g i ≡ true → ((k : ℕ) → eqb k i ≡ false → g k ≡ f k) → number g n ≡ number f n + 1
unfolding number
number-one zero i f g l before after e = absurd (omega arith)
number-one (suc n) i f g l before after e = elim (cases_lt i n) [
  | inl k ↦ (let m : eqb n i ≡ false = grind (arith, nat_tests) in let s = e n m in rw s (omega (arith, number-one n i f g k before after e)))
  | inr k ↦ (let is : i ≡ n = omega arith in
      let before_n : f n ≡ false = sym (ap f is) ∙ before in
      let after_n : g n ≡ true = sym (ap g is) ∙ after in
      rw (before_n, after_n) (omega (arith, number-same n f g (λ j m. e j (let a : j < i = omega arith in grind (arith, nat_tests))))))
]

false_true : (b : Bool) {P : Type 0} → b ≡ false → b ≡ true → P
false_true b e k = absurd (cc)

number_less : (n i : ℕ) (f : ℕ → Bool) → i < n → f i ≡ false → number f n < n
number_less n i f l before = elim (cases_lt (number f n) n) [
  | inl k ↦ k
  | inr k ↦ false_true (f i) before (number-all n f (omega (arith, number-bound n f)) i l)
]

-- ---- one direction

pub record SameLimits (r r' : Remote) : Type 0 where
  pub max : r'.max_remote ≡ r.max_remote
  pub allocated : r'.allocated ≡ r.allocated
  pub concurrent : r'.max_concurrent ≡ r.max_concurrent
  pub opened : r.next_remote ≤ r.max_remote → r'.next_remote ≤ r'.max_remote
  pub accepted : r.next_reported ≤ r.next_remote → r'.next_reported ≤ r'.next_remote

pub remote-same : (at_once before : ℕ) (f g : ℕ → Bool) (r r' : Remote) → SameLimits r r' → ((i : ℕ) → i < r.max_remote → g i ≡ f i) → RemoteFrom at_once before f r → RemoteFrom at_once before g r'
remote-same at_once before f g r r' s e x =
    let n = number-same r.max_remote f g e in
    let a = s.max in
    let b = s.allocated in
    let c = s.concurrent in
    let d = x.allocated in
    let m : r.max_remote ≡ max before (min (r.max_concurrent + number f r.max_remote) (2 ^ 60)) = x.permitted in
    let p : r.max_remote ≡ max before (min (r.max_concurrent + number g r.max_remote) (2 ^ 60)) = omega arith in
    record {
      concurrent = s.concurrent ∙ x.concurrent;
      allocated = rw (s.max, s.allocated) (omega arith);
      permitted = rw (s.max, s.concurrent) p;
      opened = s.opened x.opened;
      accepted = s.accepted x.accepted;
    }

pub next-number : (n : ℕ) (g : ℕ → Bool) → g n ≡ false → number g (n + 1) ≡ number g n
unfolding number
next-number n g e = rw (add-one, e) (omega arith)

after_replaced : (at_once before' : ℕ) (f g : ℕ → Bool) (r : Remote) (i : ℕ) (b : Bool) → remote.lacks_streams (remote.freed r) ≡ b → i < r.max_remote → f i ≡ false → g i ≡ true
    → ((k : ℕ) → eqb k i ≡ false → g k ≡ f k) → g r.max_remote ≡ false → RemoteFrom at_once before' f r → RemoteFrom at_once before' g (if b then remote.one_permitted (remote.freed r) else remote.freed r)
after_replaced at_once before' f g r i true lacks l before after e last x =
    let one = number-one r.max_remote i f g l before after e in
    let less = number_less r.max_remote i f l before in
    let d = x.allocated in
    let m : r.max_remote ≡ max before' (min (r.max_concurrent + number f r.max_remote) (2 ^ 60)) = x.permitted in
    let lacking : r.allocated - 1 < r.max_concurrent = and_first r.allocated r.max_concurrent (nat_lt r.max_remote (2 ^ 60)) lacks in
    let room : r.max_remote < 2 ^ 60 = and_lt (nat_lt (r.allocated - 1) r.max_concurrent) r.max_remote lacks in
    let more : number g (r.max_remote + 1) ≡ number g r.max_remote = next-number r.max_remote g last in
    let rises : r.max_remote + 1 ≡ max before' (min (r.max_concurrent + number g (r.max_remote + 1)) (2 ^ 60)) = omega arith in
    record {
      concurrent = x.concurrent;
      allocated = omega arith;
      permitted = rises;
      opened = let o : r.next_remote ≤ r.max_remote = x.opened in let m : r.next_remote ≤ r.max_remote + 1 = omega arith in m;
      accepted = x.accepted;
    }
  where
    and_first : (a c : ℕ) (b : Bool) → (nat_lt (a - 1) c && b) ≡ true → a - 1 < c
    and_first a c true e = grind (arith, nat_tests)
    and_first a c false e = grind (arith, nat_tests)

    and_lt : (b : Bool) (m : ℕ) → (b && nat_lt m (2 ^ 60)) ≡ true → m < 2 ^ 60
    and_lt true m e = grind (arith, nat_tests)
    and_lt false m e = cc
after_replaced at_once before' f g r i false lacks l before after e last x =
    let one = number-one r.max_remote i f g l before after e in
    let less = number_less r.max_remote i f l before in
    let d = x.allocated in
    let m : r.max_remote ≡ max before' (min (r.max_concurrent + number f r.max_remote) (2 ^ 60)) = x.permitted in
    let full : (r.max_concurrent ≤ r.allocated - 1) ⊎ (2 ^ 60 ≤ r.max_remote) = not_both (r.allocated - 1) r.max_concurrent r.max_remote lacks in
    elim full [
      | inl k ↦ (let stays : r.max_remote ≡ max before' (min (r.max_concurrent + number g r.max_remote) (2 ^ 60)) = omega arith in record { concurrent = x.concurrent; allocated = omega arith; permitted = stays; opened = x.opened; accepted = x.accepted })
      | inr k ↦ (let stays : r.max_remote ≡ max before' (min (r.max_concurrent + number g r.max_remote) (2 ^ 60)) = omega arith in record { concurrent = x.concurrent; allocated = omega arith; permitted = stays; opened = x.opened; accepted = x.accepted })
    ]
  where
    not_both : (a c m : ℕ) → (nat_lt a c && nat_lt m (2 ^ 60)) ≡ false → (c ≤ a) ⊎ (2 ^ 60 ≤ m)
    not_both a c m e = elim (cases_lt a c) [
      | inl k ↦ inr (let t : nat_lt a c ≡ true = grind (arith, nat_tests) in let s : nat_lt m (2 ^ 60) ≡ false = rw t at e in grind (arith, nat_tests))
      | inr k ↦ inl k
    ]

-- what might be opened is what there is room for, or what might be before
pub rebased : (at_once before : ℕ) (f : ℕ → Bool) (r : Remote) → RemoteFrom at_once before f r → RemoteFrom at_once r.max_remote f r
rebased at_once before f r x = let m : r.max_remote ≡ max before (min (r.max_concurrent + number f r.max_remote) (2 ^ 60)) = x.permitted in
    let p : r.max_remote ≡ max r.max_remote (min (r.max_concurrent + number f r.max_remote) (2 ^ 60)) = omega arith in record { concurrent = x.concurrent; allocated = x.allocated; permitted = p; opened = x.opened; accepted = x.accepted }

-- one more is wholly freed, and the next is not
pub remote-replaced : (at_once before : ℕ) (f g : ℕ → Bool) (r : Remote) (i : ℕ) → i < r.max_remote → f i ≡ false → g i ≡ true
    → ((k : ℕ) → eqb k i ≡ false → g k ≡ f k) → g r.max_remote ≡ false → RemoteFrom at_once before f r → RemoteFrom at_once before g (remote.replaced r)
remote-replaced at_once before f g r i l was after e last x = after_replaced at_once before f g r i (remote.lacks_streams (remote.freed r)) refl l was after e last x

-- ---- both directions

abbrev pub AllRemotes : (Dir → ℕ) → (Dir → ℕ) → (ℕ → Trace) → World → Type 0
AllRemotes at_once b f w = (d : Dir) → RemoteFrom (at_once d) (b d) (is_freed f w.out.side (sends w) d) (remote_of w d)

-- what does not count is the same
pub record SameRemotes (u v : World) : Type 0 where
  pub side : v.out.side ≡ u.out.side
  pub sends : (sends v) ≡ (sends u)
  pub limits : (d : Dir) → SameLimits (remote_of u d) (remote_of v d)

pub limits-refl : (r : Remote) → SameLimits r r
limits-refl r = record { max = refl; allocated = refl; concurrent = refl; opened = λ k. k; accepted = λ k. k }

pub remotes-put : (u : World) (id : ℕ) (o : Option Half) → SameRemotes u (with_receive u id o)
unfolding with_receive
remotes-put u id o = record { side = refl; sends = refl; limits = both }
  where
    both : (d : Dir) → SameLimits (remote_of u d) (remote_of (with_receive u id o) d)
    both Bi = limits-refl u.bi
    both Uni = limits-refl u.uni

remotes_told : (u : World) (id : ℕ) (b : Bool) → SameRemotes u (told_readable u id b)
remotes_told u id true = record { side = refl; sends = refl; limits = both }
  where
    both : (d : Dir) → SameLimits (remote_of u d) (remote_of (told_readable u id true) d)
    both Bi = limits-refl u.bi
    both Uni = limits-refl u.uni
remotes_told u id false = record { side = refl; sends = refl; limits = λ d. limits-refl (remote_of u d) }

pub remotes-remote : (u : World) (e : Dir) (r : Remote) → SameLimits (remote_of u e) r → SameRemotes u (with_remote u e r)
remotes-remote u Bi r s = record { side = refl; sends = refl; limits = both }
  where
    both : (d : Dir) → SameLimits (remote_of u d) (remote_of (with_remote u Bi r) d)
    both Bi = s
    both Uni = limits-refl u.uni
remotes-remote u Uni r s = record { side = refl; sends = refl; limits = both }
  where
    both : (d : Dir) → SameLimits (remote_of u d) (remote_of (with_remote u Uni r) d)
    both Bi = limits-refl u.bi
    both Uni = s

pub remotes-counted : (u v : World) (n : ℕ) → SameRemotes u v → SameRemotes u (with_send_streams v n)
remotes-counted u v n s = record { side = s.side; sends = s.sends; limits = both }
  where
    both : (d : Dir) → SameLimits (remote_of u d) (remote_of (with_send_streams v n) d)
    both Bi = s.limits Bi
    both Uni = s.limits Uni

pub opened-limits : (r : Remote) (index : ℕ) (b : Bool) → nat_le r.next_remote index ≡ b → index < r.max_remote → SameLimits r (if b then record r { next_remote = index + 1; opened = true } else r)
opened-limits r index true e l = record { max = refl; allocated = refl; concurrent = refl; opened = λ k. above index r.max_remote l; accepted = λ k. below r.next_reported r.next_remote index k e }
  where
    above : (i m : ℕ) → i < m → i + 1 ≤ m
    above i m l = omega arith

    below : (a n i : ℕ) → a ≤ n → nat_le n i ≡ true → a ≤ i + 1
    below a n i k e = grind (arith, nat_tests)
opened-limits r index false e l = limits-refl r

-- what a notice may be, of a stream that the peer may open
pub noticed-known : (P : World → Type 0) (w : World) (id : ℕ) (b : Bool) → (is_own w id ≡ false → index_of id < (remote_of w (dir_of id)).max_remote) → P (told_readable w id b)
    → (index_of id < (remote_of w (dir_of id)).max_remote → P (with_remote w (dir_of id) (remote.opened_up_to (remote_of w (dir_of id)) (index_of id)))) → P (noticed w id b)
noticed-known P w id b known told opened = by_own (is_own w id) refl
  where
    by_first : (c : Bool) → P (with_remote w (dir_of id) (remote.opened_up_to (remote_of w (dir_of id)) (index_of id)))
        → P (if c then with_remote w (dir_of id) (remote.opened_up_to (remote_of w (dir_of id)) (index_of id)) else told_readable w id b)
    by_first true p = p
    by_first false p = told

    by_own : (c : Bool) → is_own w id ≡ c
        → P (if c then told_readable w id b else (if nat_le (remote_of w (dir_of id)).next_remote (index_of id)
        then with_remote w (dir_of id) (remote.opened_up_to (remote_of w (dir_of id)) (index_of id))
        else told_readable w id b))
    by_own true e = told
    by_own false e = by_first (nat_le (remote_of w (dir_of id)).next_remote (index_of id)) (opened (known e))

pub remotes-noticed : (u : World) (id : ℕ) (b : Bool) → (is_own u id ≡ false → index_of id < (remote_of u (dir_of id)).max_remote) → SameRemotes u (noticed u id b)
remotes-noticed u id b known =
    let P : World → Type 0 = λ x. SameRemotes u x in
    noticed-known P u id b known (remotes_told u id b)
    (λ l. remotes-remote u (dir_of id) _ (opened-limits (remote_of u (dir_of id)) (index_of id) (nat_le (remote_of u (dir_of id)).next_remote (index_of id)) refl l))

pub remotes-then : (u v w : World) → SameRemotes u v → SameRemotes v w → SameRemotes u w
remotes-then u v w s t = record {
  side = t.side ∙ s.side;
  sends = t.sends ∙ s.sends;
  limits = λ d. let a = s.limits d in let b = t.limits d in record { max = b.max ∙ a.max; allocated = b.allocated ∙ a.allocated; concurrent = b.concurrent ∙ a.concurrent; opened = λ k. b.opened (a.opened k); accepted = λ k. b.accepted (a.accepted k) };
}

freed_same : (f g : ℕ → Trace) (s : Side) (sends : ℕ → Bool) (d : Dir) (i : ℕ) → (g (stream_id (other_side s) d i)).gone ≡ (f (stream_id (other_side s) d i)).gone
    → is_freed g s sends d i ≡ is_freed f s sends d i
freed_same f g s sends Uni i e = e
freed_same f g s sends Bi i e = ap (λ b. b && not (sends (stream_id (other_side s) Bi i))) e

-- a call that frees no half
pub remotes-idle : (at_once b : Dir → ℕ) (f g : ℕ → Trace) (u v : World) → ((q : ℕ) → (g q).gone ≡ (f q).gone) → SameRemotes u v → AllRemotes at_once b f u → AllRemotes at_once b g v
remotes-idle at_once b f g u v gone s x d =
    rw (s.side, s.sends) (remote-same (at_once d) (b d) (is_freed f u.out.side (sends u) d) (is_freed g u.out.side (sends u) d) (remote_of u d) (remote_of v d) (s.limits d)
    (λ i l. freed_same f g u.out.side (sends u) d i (gone (stream_id (other_side u.out.side) d i))) (x d))

-- ---- a half is freed

pub other-place : (s : Side) (d : Dir) (i j : ℕ) → eqb i j ≡ false → eqb (stream_id s d i) (stream_id s d j) ≡ false
other-place Client Bi i j e = grind (arith, nat_tests)
other-place Client Uni i j e = grind (arith, nat_tests)
other-place Server Bi i j e = grind (arith, nat_tests)
other-place Server Uni i j e = grind (arith, nat_tests)

pub bi-not-uni : (s : Side) (i j : ℕ) → eqb (stream_id s Bi i) (stream_id s Uni j) ≡ false
bi-not-uni Client i j = grind (arith, nat_tests)
bi-not-uni Server i j = grind (arith, nat_tests)

pub uni-not-bi : (s : Side) (i j : ℕ) → eqb (stream_id s Uni i) (stream_id s Bi j) ≡ false
uni-not-bi Client i j = grind (arith, nat_tests)
uni-not-bi Server i j = grind (arith, nat_tests)

-- another stream took the place of one of a direction
abbrev IsReplaced : Dir → World → World → Type 0
IsReplaced Uni w v = (v.out.side ≡ w.out.side) × (v.bi ≡ w.bi) × (v.uni ≡ remote.replaced w.uni) × ((sends v) ≡ (sends w))
IsReplaced Bi w v = (v.out.side ≡ w.out.side) × (v.bi ≡ remote.replaced w.bi) × (v.uni ≡ w.uni)
    × ((q : ℕ) → eqb q (stream_id (other_side w.out.side) Bi w.bi.max_remote) ≡ false → (sends v) q ≡ (sends w) q)

uni_if : (w : World) (id : ℕ) (b : Bool) (r : Remote) → let v = permitted_if (with_remote (with_receive w id None) Uni r) Uni (if b then Some w.uni.max_remote else None) in
    (v.out.side ≡ w.out.side) × (v.bi ≡ w.bi) × (v.uni ≡ r) × ((sends v) ≡ (sends w))
unfolding with_receive
uni_if w id true r = (refl, refl, refl, refl)
uni_if w id false r = (refl, refl, refl, refl)

bi_if : (w : World) (id : ℕ) (b : Bool) (r : Remote) → let v = permitted_if (with_remote (with_receive w id None) Bi r) Bi (if b then Some w.bi.max_remote else None) in
    (v.out.side ≡ w.out.side) × (v.bi ≡ r) × (v.uni ≡ w.uni) × ((q : ℕ) → eqb q (stream_id (other_side w.out.side) Bi w.bi.max_remote) ≡ false → (sends v) q ≡ (sends w) q)
unfolding with_receive with_sender
bi_if w id true r = (refl, refl, refl, λ q n. rw n refl)
bi_if w id false r = (refl, refl, refl, λ q n. refl)

is_replaced : (d : Dir) (w : World) (id : ℕ) → IsReplaced d w (replaced_in (with_receive w id None) d)
unfolding with_receive
is_replaced Uni w id = uni_if w id (remote.lacks_streams (remote.freed w.uni)) (remote.replaced w.uni)
is_replaced Bi w id = bi_if w id (remote.lacks_streams (remote.freed w.bi)) (remote.replaced w.bi)

pub none-and : (b c : Bool) → b ≡ false → (b && c) ≡ false
none-and b c e = rw e refl

module _ (at_once b : Dir → ℕ) (f g : ℕ → Trace) (w : World) (id : ℕ) (was : (f id).gone ≡ false) (is : (g id).gone ≡ true) (others : (q : ℕ) → eqb q id ≡ false → g q ≡ f q)
    (next : (d : Dir) → (g (stream_id (other_side w.out.side) d (remote_of w d).max_remote)).gone ≡ false) (x : AllRemotes at_once b f w) where
  abbrev o : Side
  o = other_side w.out.side

  -- the other direction
  uni_stays : (j : ℕ) → id ≡ stream_id o Bi j → RemoteFrom (at_once Uni) (b Uni) (is_freed g w.out.side (sends w) Uni) w.uni
  uni_stays j e = remote-same (at_once Uni) (b Uni) (is_freed f w.out.side (sends w) Uni) (is_freed g w.out.side (sends w) Uni) w.uni w.uni (limits-refl w.uni)
      (λ i l. ap (λ t. t.gone) (others (stream_id o Uni i) (rw e (uni-not-bi o i j)))) (x Uni)

  bi_stays : (j : ℕ) → id ≡ stream_id o Uni j → RemoteFrom (at_once Bi) (b Bi) (is_freed g w.out.side (sends w) Bi) w.bi
  bi_stays j e = remote-same (at_once Bi) (b Bi) (is_freed f w.out.side (sends w) Bi) (is_freed g w.out.side (sends w) Bi) w.bi w.bi (limits-refl w.bi)
      (λ i l. ap (λ t. t.gone && not ((sends w) (stream_id o Bi i))) (others (stream_id o Bi i) (rw e (bi-not-uni o i j)))) (x Bi)

  uni_replaced : (v : World) (j : ℕ) → id ≡ stream_id o Uni j → j < w.uni.max_remote → IsReplaced Uni w v → AllRemotes at_once b g v
  uni_replaced v j e l r Uni = rw (r.0, r.2, r.3)
      (remote-replaced (at_once Uni) (b Uni) (is_freed f w.out.side (sends w) Uni) (is_freed g w.out.side (sends w) Uni) w.uni j l (ap (λ k. (f k).gone) (sym e) ∙ was) (ap (λ k. (g k).gone) (sym e) ∙ is)
      (λ i n. ap (λ t. t.gone) (others (stream_id o Uni i) (rw e (other-place o Uni i j n)))) (next Uni) (x Uni))
  uni_replaced v j e l r Bi = rw (r.0, r.1, r.3) (bi_stays j e)

  -- a bidirectional stream whose send half is held is not wholly freed
  bi_held : (j : ℕ) → id ≡ stream_id o Bi j → (sends w) id ≡ true → RemoteFrom (at_once Bi) (b Bi) (is_freed g w.out.side (sends w) Bi) w.bi
  bi_held j e held = remote-same (at_once Bi) (b Bi) (is_freed f w.out.side (sends w) Bi) (is_freed g w.out.side (sends w) Bi) w.bi w.bi (limits-refl w.bi)
      (λ i l. by_cases (eqb i j)
      (λ t. let at : (sends w) (stream_id o Bi i) ≡ true = ap (λ k. (sends w) (stream_id o Bi k)) (same i j t) ∙ ap (sends w) (sym e) ∙ held in
      rw at (both_none (g (stream_id o Bi i)).gone (f (stream_id o Bi i)).gone))
      (λ n. ap (λ t. t.gone && not ((sends w) (stream_id o Bi i))) (others (stream_id o Bi i) (rw e (other-place o Bi i j n))))) (x Bi)
    where
      none : (b : Bool) → (b && false) ≡ false
      none true = refl
      none false = refl

      both_none : (b c : Bool) → (b && false) ≡ (c && false)
      both_none b c = none b ∙ sym (none c)

  sends_after : (v : World) (j : ℕ) → ((q : ℕ) → eqb q (stream_id o Bi w.bi.max_remote) ≡ false → (sends v) q ≡ (sends w) q) → (i : ℕ) → eqb i j ≡ false → id ≡ stream_id o Bi j
      → is_freed g w.out.side (sends v) Bi i ≡ is_freed f w.out.side (sends w) Bi i
  sends_after v j s i n e =
      let k : g (stream_id o Bi i) ≡ f (stream_id o Bi i) = others (stream_id o Bi i) (rw e (other-place o Bi i j n)) in
      by_cases (eqb i w.bi.max_remote)
      (λ t. let a : i ≡ w.bi.max_remote = same i w.bi.max_remote t in
      let b : (g (stream_id o Bi i)).gone ≡ false = ap (λ m. (g (stream_id o Bi m)).gone) a ∙ next Bi in
      let c : (f (stream_id o Bi i)).gone ≡ false = sym (ap (λ t. t.gone) k) ∙ b in
      rw (b, c) refl)
      (λ m. rw (k, s (stream_id o Bi i) (other-place o Bi i w.bi.max_remote m)) refl)

  bi_replaced : (v : World) (j : ℕ) → id ≡ stream_id o Bi j → j < w.bi.max_remote → (sends w) id ≡ false → IsReplaced Bi w v → AllRemotes at_once b g v
  bi_replaced v j e l free r Uni = rw (r.0, r.2) (uni_stays j e)
  bi_replaced v j e l free r Bi =
      let here : eqb (stream_id o Bi j) (stream_id o Bi w.bi.max_remote) ≡ false = other-place o Bi j w.bi.max_remote (let a : j < w.bi.max_remote = l in grind (arith, nat_tests)) in
      let free_after : (sends v) (stream_id o Bi j) ≡ false = r.3 (stream_id o Bi j) here ∙ ap (sends w) (sym e) ∙ free in
      let gone : (g (stream_id o Bi j)).gone ≡ true = ap (λ k. (g k).gone) (sym e) ∙ is in
      let last : is_freed g w.out.side (sends v) Bi w.bi.max_remote ≡ false = none-and (g (stream_id o Bi w.bi.max_remote)).gone (not ((sends v) (stream_id o Bi w.bi.max_remote))) (next Bi) in
      rw (r.0, r.1)
      (remote-replaced (at_once Bi) (b Bi) (is_freed f w.out.side (sends w) Bi) (is_freed g w.out.side (sends v) Bi) w.bi j l
      (none-and (f (stream_id o Bi j)).gone (not ((sends w) (stream_id o Bi j))) (ap (λ k. (f k).gone) (sym e) ∙ was)) (rw (gone, free_after) refl)
      (λ i n. sends_after v j r.3 i n e) last (x Bi))

  same_world : (v : World) → SameRemotes w v → RemoteFrom (at_once Bi) (b Bi) (is_freed g w.out.side (sends w) Bi) w.bi → RemoteFrom (at_once Uni) (b Uni) (is_freed g w.out.side (sends w) Uni) w.uni → AllRemotes at_once b g v
  same_world v s x' u Bi = rw (s.side, s.sends) (remote-same (at_once Bi) (b Bi) (is_freed g w.out.side (sends w) Bi) (is_freed g w.out.side (sends w) Bi) w.bi v.bi (s.limits Bi) (λ i l. refl) x')
  same_world v s x' u Uni = rw (s.side, s.sends) (remote-same (at_once Uni) (b Uni) (is_freed g w.out.side (sends w) Uni) (is_freed g w.out.side (sends w) Uni) w.uni v.uni (s.limits Uni) (λ i l. refl) u)

  bi_if_held : (c : Bool) (j : ℕ) → (sends w) id ≡ c → id ≡ stream_id o Bi j → j < w.bi.max_remote
      → AllRemotes at_once b g (if c then with_receive w id None else replaced_in (with_receive w id None) Bi)
  bi_if_held true j s e l = same_world (with_receive w id None) (remotes-put w id None) (bi_held j e s) (uni_stays j e)
  bi_if_held false j s e l = bi_replaced (replaced_in (with_receive w id None) Bi) j e l s (is_replaced Bi w id)

  sends_put : (sends (with_receive w id None)) id ≡ (sends w) id
  unfolding with_receive
  sends_put = refl

  of_dir : (d : Dir) (j : ℕ) → id ≡ stream_id o d j → j < (remote_of w d).max_remote → AllRemotes at_once b g (released (with_receive w id None) d id)
  of_dir Uni j e l = uni_replaced (replaced_in (with_receive w id None) Uni) j e l (is_replaced Uni w id)
  of_dir Bi j e l = bi_if_held ((sends (with_receive w id None)) id) j (sym sends_put) e l

pub spelled : (s : Side) (b c : Bool) (q : ℕ) → (q % 2 == 0) ≡ b → (q / 2 % 2 == 0) ≡ c → is_same_side s (if b then Client else Server) ≡ false
    → q ≡ stream_id (other_side s) (if c then Bi else Uni) (q / 4)
spelled Client true true q e k n = cc
spelled Client true false q e k n = cc
spelled Client false true q e k n = grind (arith, nat_tests)
spelled Client false false q e k n = grind (arith, nat_tests)
spelled Server true true q e k n = grind (arith, nat_tests)
spelled Server true false q e k n = grind (arith, nat_tests)
spelled Server false true q e k n = cc
spelled Server false false q e k n = cc

index_if : (own : Bool) (o : Option ℕ) (error most index : ℕ) → own ≡ false → (if own then o else (if nat_le most index then Some error else None)) ≡ None → index < most
index_if true o error most index e k = cc
index_if false o error most index e k = within (nat_le most index) refl k
  where
    within : (b : Bool) → nat_le most index ≡ b → (if b then Some error else None) ≡ None → index < most
    within true t k = cc
    within false t k = grind (arith, nat_tests)

-- a stream of which no frame is refused is this end's, or one that the peer may open
pub known-index : (w : World) (id : ℕ) → id_refusal w id ≡ None → is_own w id ≡ false → index_of id < (remote_of w (dir_of id)).max_remote
known-index w id known own = index_if (is_own w id) (own_refusal w (dir_of id) (index_of id)) STREAM_LIMIT_ERROR (remote_of w (dir_of id)).max_remote (index_of id) own known

freed_if : (at_once b : Dir → ℕ) (g : ℕ → Trace) (u v : World) (own : Bool) → (own ≡ true → AllRemotes at_once b g u) → (own ≡ false → AllRemotes at_once b g v) → AllRemotes at_once b g (if own then u else v)
freed_if at_once b g u v true s t = s refl
freed_if at_once b g u v false s t = t refl

own_put : (w : World) (id : ℕ) → is_own (with_receive w id None) id ≡ is_own w id
unfolding with_receive
own_put w id = refl

-- a half is freed, and no other
pub remotes-freed : (at_once b : Dir → ℕ) (f g : ℕ → Trace) (w : World) (id : ℕ) → id_refusal w id ≡ None → (f id).gone ≡ false → (g id).gone ≡ true → ((q : ℕ) → eqb q id ≡ false → g q ≡ f q)
    → ((d : Dir) → (g (stream_id (other_side w.out.side) d (remote_of w d).max_remote)).gone ≡ false) → AllRemotes at_once b f w → AllRemotes at_once b g (with_freed w id)
remotes-freed at_once b f g w id known was is others next x =
    let u = with_receive w id None in
    freed_if at_once b g u (released u (dir_of id) id) (is_own u id)
    (λ own.
    let mine : is_own w id ≡ true = sym (own_put w id) ∙ own in
    let apart = λ (d : Dir) (i : ℕ). not_mine w id d i mine in
    same_world at_once b f g w id was is others next x u (remotes-put w id None)
    (remote-same (at_once Bi) (b Bi) (is_freed f w.out.side (sends w) Bi) (is_freed g w.out.side (sends w) Bi) w.bi w.bi (limits-refl w.bi)
    (λ i l. freed_same f g w.out.side (sends w) Bi i (ap (λ t. t.gone) (others (stream_id (other_side w.out.side) Bi i) (apart Bi i)))) (x Bi))
    (remote-same (at_once Uni) (b Uni) (is_freed f w.out.side (sends w) Uni) (is_freed g w.out.side (sends w) Uni) w.uni w.uni (limits-refl w.uni)
    (λ i l. freed_same f g w.out.side (sends w) Uni i (ap (λ t. t.gone) (others (stream_id (other_side w.out.side) Uni i) (apart Uni i)))) (x Uni)))
    (λ own.
    let peers : is_own w id ≡ false = sym (own_put w id) ∙ own in
    of_dir at_once b f g w id was is others next x (dir_of id) (index_of id) (spelled w.out.side (id % 2 == 0) (id / 2 % 2 == 0) id refl refl peers)
    (known-index w id known peers))
  where
    not_mine : (w : World) (id : ℕ) (d : Dir) (i : ℕ) → is_own w id ≡ true → eqb (stream_id (other_side w.out.side) d i) id ≡ false
    not_mine w id d i mine = by_cases (eqb (stream_id (other_side w.out.side) d i) id)
        (λ t. let k : is_own w id ≡ false = ap (is_own w) (sym (same (stream_id (other_side w.out.side) d i) id t)) ∙ own-other w.out.side d i in false_true (is_own w id) k mine)
        (λ n. n)
