-- More streams are permitted at once.
use Rattle.std.proofs.Common.{◌≡◌, ℕ, zero, suc, add-one, Bool, true, false, ◌&&◌, not, Option, Some, None, is_some, Result, Ok, Err, refl, sym, ap, ◌∙◌, subst, arith, ◌+◌, ◌-◌, ◌≤◌, ◌<◌}
use Rattle.std.specs.Prelude.{max, min, ◌^◌, nat_le, nat_lt, if◌then◌else◌}
use Rattle.std.proofs.lemmas.Bool.Decides.{nat_tests}
use Rattle.quic_values.specs.declared.memory.OutOfMemory.{OutOfMemory}
use Rattle.quic_values.specs.declared.ids.Side.{Side}
use Rattle.quic_values.specs.declared.ids.Dir.{Dir}
use Rattle.quic_values.specs.declared.ids.Dir.TheVariants.{Bi, Uni}
use Rattle.quic_values.specs.Ids.{stream_id, other_side}
use Rattle.quic_wire.specs.Codes.{STREAM_LIMIT_ERROR}
use Rattle.quic_limits.specs.Remote.{Remote, lacking, with_concurrent, one_accepted}
use Rattle.quic_receiving.specs.Counted.{number}
use Rattle.quic_receiving.specs.Half.{Half, new_half}
use Rattle.quic_history.specs.Halves.{with_more}
use Rattle.quic_history.specs.World.{World, sends, id_refusal, remote_of, with_remote}
use Rattle.quic_history.specs.Permitting.{after_concurrent, with_accepted, with_count_of}
use Rattle.quic_history.specs.History.{Trace, RemoteFrom, untouched, is_freed, room_for}
use Rattle.quic_history.proofs.FirstStreams.{with_more-none, with_more-one, more-below}
use Rattle.quic_history.proofs.Refusals.{refusal-same, refusal-peer}
use Rattle.quic_history.proofs.Remotes.{AllRemotes, SameLimits, SameRemotes, number-same, next-number}
use Rattle.quic_history.proofs.StreamSteps.{AllFrom, all-same, all-remote, raised-all, new-from, Steady, steady, steady-remote}

-- ---- what is told of each stream

-- the largest count of a direction, and the halves, with so many more
abbrev many : Dir → World → ℕ → World
many d u n = let m : ℕ = (remote_of u d).max_remote in
    record (with_remote u d (record (remote_of u d) { max_remote = m + n })) { receive = with_more u.receive (other_side u.out.side) d m n (Some (new_half u.window)) }

many_none : (f : ℕ → Trace) (d : Dir) (u : World) → AllFrom f u → AllFrom f (many d u 0)
many_none f Bi u s = all-same f u (many Bi u 0) refl (λ q. refusal-same (many Bi u 0) u q refl refl (omega arith) refl) (λ q. ap (λ k. k q) (with_more-none u.receive (other_side u.out.side) Bi u.bi.max_remote (Some (new_half u.window)))) s
many_none f Uni u s = all-same f u (many Uni u 0) refl (λ q. refusal-same (many Uni u 0) u q refl refl refl (omega arith)) (λ q. ap (λ k. k q) (with_more-none u.receive (other_side u.out.side) Uni u.uni.max_remote (Some (new_half u.window)))) s

many_one : (f : ℕ → Trace) (d : Dir) (u : World) (n : ℕ) → AllFrom f (many d u n) → AllFrom f (many d u (n + 1))
many_one f Bi u n s = raised-all f Bi (many Bi u n) (many Bi u (n + 1)) refl refl refl (omega arith, refl) (sym (with_more-one u.receive (other_side u.out.side) Bi u.bi.max_remote n (Some (new_half u.window)))) s
many_one f Uni u n s = raised-all f Uni (many Uni u n) (many Uni u (n + 1)) refl refl refl (refl, omega arith) (sym (with_more-one u.receive (other_side u.out.side) Uni u.uni.max_remote n (Some (new_half u.window)))) s

all_many : (f : ℕ → Trace) (d : Dir) (u : World) (n : ℕ) → AllFrom f u → AllFrom f (many d u n)
all_many f d u zero s = many_none f d u s
all_many f d u (suc n) s = let P : ℕ → Type 0 = λ k. AllFrom f (many d u k) in subst P (suc_is n) (many_one f d u n (all_many f d u n s))
  where
    suc_is : (n : ℕ) → n + 1 ≡ suc n
    suc_is n = omega arith

pub all-concurrent : (f : ℕ → Trace) (u : World) (d : Dir) (count : ℕ) → AllFrom f u → AllFrom f (after_concurrent u d count)
all-concurrent f u Bi count s = let n : ℕ = lacking u.bi count in
    all-same f (many Bi u n) (after_concurrent u Bi count) refl (λ q. refusal-same (after_concurrent u Bi count) (many Bi u n) q refl refl refl refl) (λ q. refl) (all_many f Bi u n s)
all-concurrent f u Uni count s = let n : ℕ = lacking u.uni count in
    all-same f (many Uni u n) (after_concurrent u Uni count) refl (λ q. refusal-same (after_concurrent u Uni count) (many Uni u n) q refl refl refl refl) (λ q. refl) (all_many f Uni u n s)

-- ---- how many may be opened

pub number-more : (n more : ℕ) (f g : ℕ → Bool) → ((i : ℕ) → i < n → g i ≡ f i) → ((i : ℕ) → n ≤ i → g i ≡ false) → number g (n + more) ≡ number f n
number-more n zero f g below above = let P : ℕ → Type 0 = λ k. number g k ≡ number f n in subst P (plus_none n) (number-same n f g below)
  where
    plus_none : (n : ℕ) → n ≡ n + 0
    plus_none n = omega arith
number-more n (suc more) f g below above = let P : ℕ → Type 0 = λ k. number g k ≡ number f n in
    subst P (plus_suc n more) (next-number (n + more) g (above (n + more) (omega arith)) ∙ number-more n more f g below above)
  where
    plus_suc : (n m : ℕ) → (n + m) + 1 ≡ n + suc m
    plus_suc n m = omega arith

concurrent_from : (at_once count : ℕ) (f g : ℕ → Bool) (r : Remote) → ((i : ℕ) → i < r.max_remote → g i ≡ f i) → ((i : ℕ) → r.max_remote ≤ i → g i ≡ false)
    → RemoteFrom at_once r.max_remote f r → RemoteFrom count r.max_remote g (with_concurrent r count)
concurrent_from at_once count f g r below above x =
    let more : ℕ = lacking r count in
    let over = number-more r.max_remote (min (count - r.allocated) (2 ^ 60 - r.max_remote)) f g below above in
    let a = x.allocated in
    let p : r.max_remote + min (count - r.allocated) (2 ^ 60 - r.max_remote)
    ≡ max r.max_remote (min (count + number g (r.max_remote + min (count - r.allocated) (2 ^ 60 - r.max_remote))) (2 ^ 60)) = omega arith in
    record { concurrent = refl; allocated = omega arith; permitted = p; opened = let o : r.next_remote ≤ r.max_remote = x.opened in let m : r.next_remote ≤ r.max_remote + lacking r count = omega arith in m; accepted = x.accepted }

not_gone : (b c : Bool) → b ≡ false → (b && c) ≡ false
not_gone b c e = rw e refl

ge_le : (m n : ℕ) → m ≤ n → nat_le m n ≡ true
ge_le m n l = grind (arith, nat_tests)

module _ (f : ℕ → Trace) (u : World) (s : AllFrom f u) where
  -- nothing was told of a stream that was not permitted
  later : (d : Dir) (i : ℕ) → (remote_of u d).max_remote ≤ i → (f (stream_id (other_side u.out.side) d i)).gone ≡ false
  later Bi i l = let q : ℕ = stream_id (other_side u.out.side) Bi i in
      ap (λ t. t.gone) (new-from u.window (f q) (id_refusal u q) (u.receive q) STREAM_LIMIT_ERROR (refusal-peer u u.out.side Bi i refl ∙ rw (ge_le u.bi.max_remote i l) refl) (s q))
  later Uni i l = let q : ℕ = stream_id (other_side u.out.side) Uni i in
      ap (λ t. t.gone) (new-from u.window (f q) (id_refusal u q) (u.receive q) STREAM_LIMIT_ERROR (refusal-peer u u.out.side Uni i refl ∙ rw (ge_le u.uni.max_remote i l) refl) (s q))

  pub remotes-concurrent : (at_once : Dir → ℕ) (d : Dir) (count : ℕ) → AllRemotes at_once (λ e. (remote_of u e).max_remote) f u
      → AllRemotes (with_count_of d count at_once) (λ e. (remote_of u e).max_remote) f (after_concurrent u d count)
  remotes-concurrent at_once Bi count x Bi = concurrent_from (at_once Bi) count (is_freed f u.out.side (sends u) Bi) (is_freed f u.out.side (sends (after_concurrent u Bi count)) Bi) u.bi
      (λ i l. ap (λ o. (f (stream_id (other_side u.out.side) Bi i)).gone && not (is_some o)) (more-below u.out u.bi.max_remote (lacking u.bi count) i l))
      (λ i l. not_gone (f (stream_id (other_side u.out.side) Bi i)).gone _ (later Bi i l))
      (x Bi)
  remotes-concurrent at_once Bi count x Uni = x Uni
  remotes-concurrent at_once Uni count x Bi = x Bi
  remotes-concurrent at_once Uni count x Uni = concurrent_from (at_once Uni) count (is_freed f u.out.side (sends u) Uni) (is_freed f u.out.side (sends u) Uni) u.uni (λ i l. refl) (λ i l. later Uni i l) (x Uni)

-- ---- what stays

pub steady-concurrent : (u : World) (d : Dir) (count : ℕ) → steady (after_concurrent u d count) ≡ steady u
steady-concurrent u Bi count = refl
steady-concurrent u Uni count = refl

accepted_limits : (r : Remote) (b : Bool) → nat_lt r.next_reported r.next_remote ≡ b → SameLimits r (if b then record r { next_reported = r.next_reported + 1 } else r)
accepted_limits r true e = record { max = refl; allocated = refl; concurrent = refl; opened = λ k. k; accepted = λ k. one_more r.next_reported r.next_remote e }
  where
    one_more : (a n : ℕ) → nat_lt a n ≡ true → a + 1 ≤ n
    one_more a n e = grind (arith, nat_tests)
accepted_limits r false e = record { max = refl; allocated = refl; concurrent = refl; opened = λ k. k; accepted = λ k. k }

pub one-accepted : (r : Remote) → SameLimits r (one_accepted r)
one-accepted r = accepted_limits r (nat_lt r.next_reported r.next_remote) refl

pub all-accepted : (f : ℕ → Trace) (u : World) (d : Dir) → AllFrom f u → AllFrom f (with_accepted u d)
all-accepted f u d s = let same = one-accepted (remote_of u d) in all-remote f d u (one_accepted (remote_of u d)) same.max s

pub credit-accepted : (u : World) (d : Dir) → (with_accepted u d).credit ≡ u.credit
credit-accepted u Bi = refl
credit-accepted u Uni = refl

pub credit-concurrent : (u : World) (d : Dir) (count : ℕ) → (after_concurrent u d count).credit ≡ u.credit
credit-concurrent u Bi count = refl
credit-concurrent u Uni count = refl
