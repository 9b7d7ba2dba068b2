-- What calls do to the number of send halves that are held of the streams that an end opened or accepted.
use Rattle.std.proofs.Common.{◌≡◌, ℕ, Bool, true, false, eqb, Option, Some, None, is_some, refl, sym, ap, ◌∙◌, subst, arith, add-one, ◌+◌, ◌-◌, ◌≤◌, ◌<◌}
use Rattle.std.specs.Prelude.{◌==◌, nat_le, nat_lt, if◌then◌else◌}
use Rattle.std.proofs.lemmas.Bool.Decides.{nat_tests}
use Rattle.quic_values.specs.declared.ids.Side.{Side}
use Rattle.quic_values.specs.declared.ids.Side.TheVariants.{Client, Server}
use Rattle.quic_values.specs.declared.ids.Dir.{Dir}
use Rattle.quic_values.specs.declared.ids.Dir.TheVariants.{Bi, Uni}
use Rattle.quic_values.specs.Ids.{stream_id, other_side, dir_of, index_of}
use Rattle.quic_wire.specs.declared.event.StreamEvent.{StreamEvent}
use Rattle.quic_limits.specs.Remote as remote
use Rattle.quic_limits.specs.Remote.{Remote}
use Rattle.quic_limits.specs.Own.{Own}
use Rattle.quic_receiving.specs.Counted.{number}
use Rattle.quic_receiving.specs.Half.{Half}
use Rattle.quic_outgoing.specs.Senders.{is_between, with_sender, with_more_of_peer}
use Rattle.quic_outgoing.specs.Outgoing.{own_of}
use Rattle.quic_history.specs.World.{World, sends, remote_of, with_remote, with_receive, with_permitted, told, with_credit, with_counted}
use Rattle.quic_history.specs.Sends.{with_opened}
use Rattle.quic_history.specs.Permitting.{after_concurrent}
use Rattle.quic_history.specs.Used.{used_halves}
use Rattle.quic_history.proofs.ControlSteps.{Announces}
use Rattle.quic_history.proofs.ReceivingSteps.{Stays}
use Rattle.quic_history.proofs.Remotes.{SameLimits, number-same, number-one, next-number, other-place, bi-not-uni, uni-not-bi}
use Rattle.quic_history.proofs.SendSides.{opened-next}
use Rattle.quic_history.proofs.SendSteps.{Spares, peer-apart, opening}

-- ---- counts

-- by which halves are held
abbrev pub used_of : (ℕ → Bool) → Side → ℕ → ℕ → ℕ → ℕ
used_of f s bi uni reported = (number (λ i. f (stream_id s Bi i)) bi + number (λ i. f (stream_id s Uni i)) uni) + number (λ i. f (stream_id (other_side s) Bi i)) reported

pub number-next : (n : ℕ) (g : ℕ → Bool) → g n ≡ true → number g (n + 1) ≡ number g n + 1
unfolding number
number-next n g e = rw (add-one, e) (omega arith)

apart : (i n : ℕ) → i < n → eqb i n ≡ false
apart i n l = grind (arith, nat_tests)

apart_from : (i n : ℕ) → n ≤ i → (k : ℕ) → k < n → eqb k i ≡ false
apart_from i n l k m = grind (arith, nat_tests)

pub own-apart : (s : Side) (d : Dir) (i j : ℕ) → eqb (stream_id s d i) (stream_id (other_side s) Bi j) ≡ false
own-apart Client Bi i j = grind (arith, nat_tests)
own-apart Client Uni i j = grind (arith, nat_tests)
own-apart Server Bi i j = grind (arith, nat_tests)
own-apart Server Uni i j = grind (arith, nat_tests)

-- two ends that hold halves at the ids that f and g tell
module _ (f g : ℕ → Bool) (s : Side) (bi uni reported : ℕ) where
  pub used-same : ((d : Dir) (i : ℕ) → g (stream_id s d i) ≡ f (stream_id s d i)) → ((i : ℕ) → i < reported → g (stream_id (other_side s) Bi i) ≡ f (stream_id (other_side s) Bi i))
      → used_of g s bi uni reported ≡ used_of f s bi uni reported
  used-same own peer =
      let a = number-same bi (λ i. f (stream_id s Bi i)) (λ i. g (stream_id s Bi i)) (λ i l. own Bi i) in
      let b = number-same uni (λ i. f (stream_id s Uni i)) (λ i. g (stream_id s Uni i)) (λ i l. own Uni i) in
      let c = number-same reported (λ i. f (stream_id (other_side s) Bi i)) (λ i. g (stream_id (other_side s) Bi i)) peer in
      omega arith

  -- a bidirectional one is opened
  pub used-more-bi : g (stream_id s Bi bi) ≡ true → ((q : ℕ) → eqb q (stream_id s Bi bi) ≡ false → g q ≡ f q) → used_of g s (bi + 1) uni reported ≡ used_of f s bi uni reported + 1
  used-more-bi here others =
      let n = number-next bi (λ i. g (stream_id s Bi i)) here in
      let a = number-same bi (λ i. f (stream_id s Bi i)) (λ i. g (stream_id s Bi i)) (λ i l. others (stream_id s Bi i) (other-place s Bi i bi (apart i bi l))) in
      let b = number-same uni (λ i. f (stream_id s Uni i)) (λ i. g (stream_id s Uni i)) (λ i l. others (stream_id s Uni i) (uni-not-bi s i bi)) in
      let c = number-same reported (λ i. f (stream_id (other_side s) Bi i)) (λ i. g (stream_id (other_side s) Bi i)) (λ i l. others (stream_id (other_side s) Bi i) (peer-apart s Bi Bi i bi)) in
      omega arith

  pub used-more-uni : g (stream_id s Uni uni) ≡ true → ((q : ℕ) → eqb q (stream_id s Uni uni) ≡ false → g q ≡ f q) → used_of g s bi (uni + 1) reported ≡ used_of f s bi uni reported + 1
  used-more-uni here others =
      let n = number-next uni (λ i. g (stream_id s Uni i)) here in
      let a = number-same bi (λ i. f (stream_id s Bi i)) (λ i. g (stream_id s Bi i)) (λ i l. others (stream_id s Bi i) (bi-not-uni s i uni)) in
      let b = number-same uni (λ i. f (stream_id s Uni i)) (λ i. g (stream_id s Uni i)) (λ i l. others (stream_id s Uni i) (other-place s Uni i uni (apart i uni l))) in
      let c = number-same reported (λ i. f (stream_id (other_side s) Bi i)) (λ i. g (stream_id (other_side s) Bi i)) (λ i l. others (stream_id (other_side s) Bi i) (peer-apart s Bi Uni i uni)) in
      omega arith

  -- one of this end is let go
  pub used-less-bi : (j : ℕ) → j < bi → f (stream_id s Bi j) ≡ true → g (stream_id s Bi j) ≡ false → ((q : ℕ) → eqb q (stream_id s Bi j) ≡ false → g q ≡ f q)
      → used_of f s bi uni reported ≡ used_of g s bi uni reported + 1
  used-less-bi j l was here others =
      let n = number-one bi j (λ i. g (stream_id s Bi i)) (λ i. f (stream_id s Bi i)) l here was (λ k e. sym (others (stream_id s Bi k) (other-place s Bi k j e))) in
      let b = number-same uni (λ i. f (stream_id s Uni i)) (λ i. g (stream_id s Uni i)) (λ i k. others (stream_id s Uni i) (uni-not-bi s i j)) in
      let c = number-same reported (λ i. f (stream_id (other_side s) Bi i)) (λ i. g (stream_id (other_side s) Bi i)) (λ i k. others (stream_id (other_side s) Bi i) (peer-apart s Bi Bi i j)) in
      omega arith

  pub used-less-uni : (j : ℕ) → j < uni → f (stream_id s Uni j) ≡ true → g (stream_id s Uni j) ≡ false → ((q : ℕ) → eqb q (stream_id s Uni j) ≡ false → g q ≡ f q)
      → used_of f s bi uni reported ≡ used_of g s bi uni reported + 1
  used-less-uni j l was here others =
      let n = number-one uni j (λ i. g (stream_id s Uni i)) (λ i. f (stream_id s Uni i)) l here was (λ k e. sym (others (stream_id s Uni k) (other-place s Uni k j e))) in
      let a = number-same bi (λ i. f (stream_id s Bi i)) (λ i. g (stream_id s Bi i)) (λ i k. others (stream_id s Bi i) (bi-not-uni s i j)) in
      let c = number-same reported (λ i. f (stream_id (other_side s) Bi i)) (λ i. g (stream_id (other_side s) Bi i)) (λ i k. others (stream_id (other_side s) Bi i) (peer-apart s Bi Uni i j)) in
      omega arith

  -- one of the peer that was accepted is let go
  pub used-less-peer : (j : ℕ) → j < reported → f (stream_id (other_side s) Bi j) ≡ true → g (stream_id (other_side s) Bi j) ≡ false → ((q : ℕ) → eqb q (stream_id (other_side s) Bi j) ≡ false → g q ≡ f q)
      → used_of f s bi uni reported ≡ used_of g s bi uni reported + 1
  used-less-peer j l was here others =
      let n = number-one reported j (λ i. g (stream_id (other_side s) Bi i)) (λ i. f (stream_id (other_side s) Bi i)) l here was
      (λ k e. sym (others (stream_id (other_side s) Bi k) (other-place (other_side s) Bi k j e))) in
      let a = number-same bi (λ i. f (stream_id s Bi i)) (λ i. g (stream_id s Bi i)) (λ i k. others (stream_id s Bi i) (own-apart s Bi i j)) in
      let b = number-same uni (λ i. f (stream_id s Uni i)) (λ i. g (stream_id s Uni i)) (λ i k. others (stream_id s Uni i) (own-apart s Uni i j)) in
      omega arith

-- ---- calls that leave the number as it is

pub record Keeps (u v : World) : Type 0 where
  pub side : v.out.side ≡ u.out.side
  pub bi : v.out.own_bi.opened ≡ u.out.own_bi.opened
  pub uni : v.out.own_uni.opened ≡ u.out.own_uni.opened
  pub reported : v.bi.next_reported ≡ u.bi.next_reported
  pub room : v.bi.next_reported ≤ v.bi.max_remote
  pub count : v.send_streams ≡ u.send_streams
  pub own : (d : Dir) (i : ℕ) → sends v (stream_id u.out.side d i) ≡ sends u (stream_id u.out.side d i)
  pub peer : (i : ℕ) → i < u.bi.next_reported → sends v (stream_id (other_side u.out.side) Bi i) ≡ sends u (stream_id (other_side u.out.side) Bi i)

pub used-kept : (u v : World) → Keeps u v → used_halves v ≡ used_halves u
used-kept u v k = rw (k.side, k.bi, k.uni, k.reported) (used-same (sends u) (sends v) u.out.side u.out.own_bi.opened u.out.own_uni.opened u.bi.next_reported k.own k.peer)

-- the application accepted no more streams than the peer may open
abbrev pub KeepsUsed : World → World → Type 0
KeepsUsed u v = u.bi.next_reported ≤ u.bi.max_remote → Keeps u v

pub keeps-none : (u : World) → KeepsUsed u u
keeps-none u r = record { side = refl; bi = refl; uni = refl; reported = refl; room = r; count = refl; own = λ d i. refl; peer = λ i l. refl }

pub keeps-onward : (u v w : World) → KeepsUsed u v → KeepsUsed v w → KeepsUsed u w
keeps-onward u v w s t r = let a = s r in let b = t a.room in record {
  side = b.side ∙ a.side;
  bi = b.bi ∙ a.bi;
  uni = b.uni ∙ a.uni;
  reported = b.reported ∙ a.reported;
  room = b.room;
  count = b.count ∙ a.count;
  own = λ d i. (rw a.side at b.own d i) ∙ a.own d i;
  peer = λ i l. (rw a.side at b.peer i (rw a.reported l)) ∙ a.peer i l;
}

keeps_put : (u : World) (id : ℕ) (o : Option Half) → KeepsUsed u (with_receive u id o)
unfolding with_receive
keeps_put u id o r = record { side = refl; bi = refl; uni = refl; reported = refl; room = r; count = refl; own = λ d i. refl; peer = λ i l. refl }

keeps_remote : (u : World) (d : Dir) (r : Remote) → r.max_remote ≡ (remote_of u d).max_remote → r.next_reported ≡ (remote_of u d).next_reported → KeepsUsed u (with_remote u d r)
keeps_remote u Bi r most reported room = record { side = refl; bi = refl; uni = refl; reported = reported; room = rw (reported, most) room; count = refl; own = λ d i. refl; peer = λ i l. refl }
keeps_remote u Uni r most reported room = record { side = refl; bi = refl; uni = refl; reported = refl; room = room; count = refl; own = λ d i. refl; peer = λ i l. refl }

peer_below : (s : Side) (i m n : ℕ) → i < m → m ≤ n → eqb (stream_id (other_side s) Bi i) (stream_id (other_side s) Bi n) ≡ false
peer_below s i m n l k = other-place (other_side s) Bi i n (apart i n (omega arith))

keeps_permitted : (u : World) (d : Dir) → KeepsUsed u (with_permitted (with_remote u d (remote.one_permitted (remote.freed (remote_of u d)))) d (remote_of u d).max_remote)
unfolding with_receive with_sender
keeps_permitted u Bi r = record {
  side = refl;
  bi = refl;
  uni = refl;
  reported = refl;
  room = omega arith;
  count = refl;
  own = λ d i. rw (own-apart u.out.side d i u.bi.max_remote) refl;
  peer = λ i l. rw (peer_below u.out.side i u.bi.next_reported u.bi.max_remote l r) refl;
}
keeps_permitted u Uni r = record { side = refl; bi = refl; uni = refl; reported = refl; room = r; count = refl; own = λ d i. refl; peer = λ i l. refl }

pub keeps-parts : Stays KeepsUsed
keeps-parts = record {
  none = keeps-none;
  onward = keeps-onward;
  put = keeps_put;
  counts = keeps_remote;
  told = λ u e r. record { side = refl; bi = refl; uni = refl; reported = refl; room = r; count = refl; own = λ d i. refl; peer = λ i l. refl };
  credit = λ u n r. record { side = refl; bi = refl; uni = refl; reported = refl; room = r; count = refl; own = λ d i. refl; peer = λ i l. refl };
  counted = λ u n r. record { side = refl; bi = refl; uni = refl; reported = refl; room = r; count = refl; own = λ d i. refl; peer = λ i l. refl };
  permitted = keeps_permitted;
}

own_between : (s : Side) (d : Dir) (i m n : ℕ) → is_between (other_side s) Bi m n (stream_id s d i) ≡ false
own_between Client Bi i m n = grind (arith, nat_tests)
own_between Client Uni i m n = grind (arith, nat_tests)
own_between Server Bi i m n = grind (arith, nat_tests)
own_between Server Uni i m n = grind (arith, nat_tests)

peer_between : (s : Side) (i m n : ℕ) → i < m → is_between (other_side s) Bi m n (stream_id (other_side s) Bi i) ≡ false
peer_between Client i m n l = grind (arith, nat_tests)
peer_between Server i m n l = grind (arith, nat_tests)

pub keeps-concurrent : (u : World) (d : Dir) (count : ℕ) → KeepsUsed u (after_concurrent u d count)
unfolding with_more_of_peer
keeps-concurrent u Bi count r = record {
  side = refl;
  bi = refl;
  uni = refl;
  reported = refl;
  room = omega arith;
  count = refl;
  own = λ d i. rw (own_between u.out.side d i u.bi.max_remote (remote.lacking u.bi count)) refl;
  peer = λ i l. rw (peer_between u.out.side i u.bi.max_remote (remote.lacking u.bi count) (omega arith)) refl;
}
keeps-concurrent u Uni count r = record { side = refl; bi = refl; uni = refl; reported = refl; room = r; count = refl; own = λ d i. refl; peer = λ i l. refl }

pub keeps-spared : (u v : World) → Spares u v → KeepsUsed u v
keeps-spared u v s r = record {
  side = s.side;
  bi = s.opened;
  uni = s.opened_uni;
  reported = s.reported;
  room = let most = s.limits Bi in rw (s.reported, most.max) r;
  count = s.count;
  own = λ d i. s.held (stream_id u.out.side d i);
  peer = λ i l. s.held (stream_id (other_side u.out.side) Bi i);
}

pub keeps-announced : (u v : World) → Announces u v → KeepsUsed u v
keeps-announced u v s r = record {
  side = ap (λ o. o.side) s.out;
  bi = ap (λ o. o.own_bi.opened) s.out;
  uni = ap (λ o. o.own_uni.opened) s.out;
  reported = s.reported;
  room = let most = s.limits Bi in rw (s.reported, most.max) r;
  count = s.count;
  own = λ d i. ap (λ o. is_some (o.halves (stream_id u.out.side d i))) s.out;
  peer = λ i l. ap (λ o. is_some (o.halves (stream_id (other_side u.out.side) Bi i))) s.out;
}

-- ---- a stream is opened

itself : (n : ℕ) → eqb n n ≡ true
itself n = grind (arith, nat_tests)

pub used-opened : (u : World) (d : Dir) → (own_of u.out d).opened < (own_of u.out d).limit
    → used_halves (with_opened u d (stream_id u.out.side d (own_of u.out d).opened) (opening u d (stream_id u.out.side d (own_of u.out d).opened))) ≡ used_halves u + 1
unfolding with_receive with_sender
used-opened u Bi l = let id : ℕ = stream_id u.out.side Bi u.out.own_bi.opened in
    rw (opened-next u.out.own_bi l)
    (used-more-bi (sends u) (sends (with_opened u Bi id (opening u Bi id))) u.out.side u.out.own_bi.opened u.out.own_uni.opened u.bi.next_reported (rw (itself id) refl) (λ q n. rw n refl))
used-opened u Uni l = let id : ℕ = stream_id u.out.side Uni u.out.own_uni.opened in
    rw (opened-next u.out.own_uni l)
    (used-more-uni (sends u) (sends (with_opened u Uni id (opening u Uni id))) u.out.side u.out.own_bi.opened u.out.own_uni.opened u.bi.next_reported (rw (itself id) refl) (λ q n. rw n refl))
