-- The streams that an application was given are those that `open` and `accept` answered.
use Rattle.std.proofs.Common.{◌≡◌, ℕ, Bool, true, false, List, [], ◌∷◌, Some, None, Ok, refl, sym, ap, ◌∙◌, subst, inl, inr, arith, ◌+◌, ◌/◌, ◌%◌, ◌≤◌, ◌<◌}
use Rattle.std.specs.Prelude.{◌==◌, nat_lt, if◌then◌else◌}
use Rattle.std.specs.Option.{option_map}
use Rattle.std.proofs.lemmas.Bool.{cases_lt}
use Rattle.std.proofs.lemmas.Bool.Decides.{nat_tests}
use Rattle.quic_values.specs.declared.ids.Side.{Side}
use Rattle.quic_values.specs.declared.ids.Side.TheVariants.{Client, Server}
use Rattle.quic_values.specs.declared.ids.Dir.{Dir}
use Rattle.quic_values.specs.declared.ids.Dir.TheVariants.{Bi, Uni}
use Rattle.quic_values.specs.Ids.{stream_id, other_side, initiator_of, dir_of, index_of}
use Rattle.quic_limits.specs.Remote.{Remote, acceptable_index, one_accepted}
use Rattle.quic_outgoing.specs.History.{given_for}
use Rattle.quic_outgoing.specs.Outgoing.{own_of}
use Rattle.quic_outgoing.specs.Senders.{is_local, are_one_end}
use Rattle.quic_history.specs.World.{World, is_own, remote_of}
use Rattle.quic_history.specs.Permitting.{with_accepted}
use Rattle.quic_history.specs.SendEvents.{OpenedOwn}
use Rattle.quic_history.specs.History.{Event, Accepted, Sending, opened_in_all}
use Rattle.quic_history.proofs.Refusals.{side-bit, dir-bit, index-id}
use Rattle.quic_link.specs.Endpoints.{LinkedEnd, IsOneOf, MayAct, acted, WasGiven, GaveId}
use Rattle.quic_link.proofs.Ends.{Comes, comes-acted, plain-call}
use Rattle.quic_link.proofs.Meets.{next_of_dir}
use Rattle.quic_link.proofs.Reports.{reports, reports-step}
use Rattle.quic_link.proofs.Opens.{own-local, opened-is}
use Rattle.quic_link.proofs.Given.{given-more}
use Rattle.quic_link.proofs.Basics.{some_same}

-- ---- ids

-- an id is spelled by its initiator, direction and index
id_is : (id : ℕ) → id ≡ stream_id (initiator_of id) (dir_of id) (index_of id)
id_is id = by_bits (id % 2 == 0) (id / 2 % 2 == 0) refl refl
  where
    by_bits : (b c : Bool) → (id % 2 == 0) ≡ b → (id / 2 % 2 == 0) ≡ c → id ≡ stream_id (if b then Client else Server) (if c then Bi else Uni) (id / 4)
    by_bits true true e k = grind (arith, nat_tests)
    by_bits true false e k = grind (arith, nat_tests)
    by_bits false true e k = grind (arith, nat_tests)
    by_bits false false e k = grind (arith, nat_tests)

initiator_is : (s : Side) (d : Dir) (n : ℕ) → initiator_of (stream_id s d n) ≡ s
initiator_is Client d n = ap (λ b. if b then Client else Server) (side-bit Client d n)
initiator_is Server d n = ap (λ b. if b then Client else Server) (side-bit Server d n)

pub dir_is : (s : Side) (d : Dir) (n : ℕ) → dir_of (stream_id s d n) ≡ d
dir_is s Bi n = ap (λ b. if b then Bi else Uni) (dir-bit s Bi n)
dir_is s Uni n = ap (λ b. if b then Bi else Uni) (dir-bit s Uni n)

same_end : (a b : Side) → are_one_end a b ≡ true → b ≡ a
same_end Client Client e = refl
same_end Client Server e = cc
same_end Server Client e = cc
same_end Server Server e = refl

other_end : (a b : Side) → are_one_end a b ≡ false → b ≡ other_side a
other_end Client Client e = cc
other_end Client Server e = refl
other_end Server Client e = refl
other_end Server Server e = cc

own_one : (a : Side) → are_one_end a a ≡ true
own_one Client = refl
own_one Server = refl

other_one : (a : Side) → are_one_end a (other_side a) ≡ false
other_one Client = refl
other_one Server = refl

pub local_own : (s : Side) (d : Dir) (n : ℕ) → is_local s (stream_id s d n) ≡ true
local_own s d n = ap (are_one_end s) (initiator_is s d n) ∙ own_one s

local_peer : (s : Side) (d : Dir) (n : ℕ) → is_local s (stream_id (other_side s) d n) ≡ false
local_peer s d n = ap (are_one_end s) (initiator_is (other_side s) d n) ∙ other_one s

own_id : (s : Side) (id : ℕ) → is_local s id ≡ true → id ≡ stream_id s (dir_of id) (index_of id)
own_id s id e = id_is id ∙ ap (λ k. stream_id k (dir_of id) (index_of id)) (same_end s (initiator_of id) e)

peer_id : (s : Side) (id : ℕ) → is_local s id ≡ false → id ≡ stream_id (other_side s) (dir_of id) (index_of id)
peer_id s id e = id_is id ∙ ap (λ k. stream_id k (dir_of id) (index_of id)) (other_end s (initiator_of id) e)

-- ---- how many were given

-- by counts: how many of a direction were opened, or accepted
abbrev counted : LinkedEnd → ℕ → ℕ
counted x id = if is_local x.made.side id then opened_in_all x.calls (dir_of id) else next_of_dir (reports x.world) (dir_of id)

report_is : (w : World) (d : Dir) → (remote_of w d).next_reported ≡ next_of_dir (reports w) d
report_is w Bi = refl
report_is w Uni = refl

count_is : (own : Bool) (a b c d : ℕ) → a ≡ c → b ≡ d → (if own then a else b) ≡ (if own then c else d)
count_is true a b c d e k = e
count_is false a b c d e k = k

given_is : (x : LinkedEnd) (id : ℕ) → Comes x → (if is_own x.world id then (own_of x.world.out (dir_of id)).opened else (remote_of x.world (dir_of id)).next_reported) ≡ counted x id
given_is x id f =
    ap (λ b. if b then (own_of x.world.out (dir_of id)).opened else (remote_of x.world (dir_of id)).next_reported) (own-local x.world x.made.side id f.side)
    ∙ count_is (is_local x.made.side id) _ _ _ _ (opened-is x (dir_of id) f) (report_is x.world (dir_of id))

to_given : (x : LinkedEnd) (id : ℕ) → Comes x → index_of id < counted x id → WasGiven x.world id
to_given x id f l = let e = given_is x id f in omega arith

of_given : (x : LinkedEnd) (id : ℕ) → Comes x → WasGiven x.world id → index_of id < counted x id
of_given x id f l = let e = given_is x id f in omega arith

-- ---- a call that gives one

given_self : (d : Dir) → given_for d d 1 ≡ 1
given_self Bi = refl
given_self Uni = refl

-- a stream that was opened is given
opened_given : (x y : LinkedEnd) (d : Dir) (closed : Bool) (id : ℕ) (v : World) → Comes x → MayAct x y (Sending (OpenedOwn d closed (Ok (Some id)))) v → WasGiven v id
opened_given x y d closed id v f a =
    let e = Sending (OpenedOwn d closed (Ok (Some id))) in
    let z = acted x e v in
    let g = comes-acted x y e v f a in
    let n : ℕ = (own_of x.world.out d).opened in
    let is : id ≡ stream_id x.made.side d n = a.step.2.1 ∙ ap (λ s. stream_id s d n) f.side in
    let own : is_local x.made.side id ≡ true = ap (is_local x.made.side) is ∙ local_own x.made.side d n in
    let dir : dir_of id ≡ d = ap dir_of is ∙ dir_is x.made.side d n in
    let index : index_of id ≡ n = ap index_of is ∙ index-id x.made.side d n in
    let count = opened-is x d f in
    let P : Bool → Type 0 = λ b. index_of id < (if b then opened_in_all (e ∷ x.calls) (dir_of id) else next_of_dir (reports v) (dir_of id)) in
    let Q : Dir → Type 0 = λ c. index_of id < opened_in_all (e ∷ x.calls) c in
    let self = given_self d in
    let here : index_of id < opened_in_all x.calls d + given_for d d 1 = omega arith in
    to_given z id g (subst P (sym own) (subst Q (sym dir) here))

accepted_next : (r : Remote) (s : Side) (d : Dir) (id : ℕ) → Some id ≡ option_map (stream_id s d) (acceptable_index r) → (id ≡ stream_id s d r.next_reported) × (nat_lt r.next_reported r.next_remote ≡ true)
accepted_next r s d id e = by_test (nat_lt r.next_reported r.next_remote) refl e
  where
    by_test : (b : Bool) → nat_lt r.next_reported r.next_remote ≡ b → Some id ≡ option_map (stream_id s d) (if b then Some r.next_reported else None) → (id ≡ stream_id s d r.next_reported) × (nat_lt r.next_reported r.next_remote ≡ true)
    by_test true k h = (some_same id (stream_id s d r.next_reported) h, k)
    by_test false k h = cc

one_more : (r : Remote) → nat_lt r.next_reported r.next_remote ≡ true → (one_accepted r).next_reported ≡ r.next_reported + 1
one_more r e = rw e refl

accepted_here : (u v : World) (d : Dir) → v ≡ with_accepted u d → next_of_dir (reports v) d ≡ (one_accepted (remote_of u d)).next_reported
accepted_here u v Bi e = ap (λ (w : World). w.bi.next_reported) e
accepted_here u v Uni e = ap (λ (w : World). w.uni.next_reported) e

-- and so is one that was accepted
accepted_given : (x y : LinkedEnd) (d : Dir) (id : ℕ) (v : World) → Comes x → MayAct x y (Accepted d (Some id)) v → WasGiven v id
accepted_given x y d id v f a =
    let e = Accepted d (Some id) in
    let z = acted x e v in
    let g = comes-acted x y e v f a in
    let r : Remote = remote_of x.world d in
    let next = accepted_next r (other_side x.world.out.side) d id a.step.1 in
    let is : id ≡ stream_id (other_side x.made.side) d r.next_reported = next.0 ∙ ap (λ s. stream_id (other_side s) d r.next_reported) f.side in
    let own : is_local x.made.side id ≡ false = ap (is_local x.made.side) is ∙ local_peer x.made.side d r.next_reported in
    let dir : dir_of id ≡ d = ap dir_of is ∙ dir_is (other_side x.made.side) d r.next_reported in
    let index : index_of id ≡ r.next_reported = ap index_of is ∙ index-id (other_side x.made.side) d r.next_reported in
    let count = accepted_here x.world v d a.step.0 in
    let more = one_more r next.1 in
    let P : Bool → Type 0 = λ b. index_of id < (if b then opened_in_all (e ∷ x.calls) (dir_of id) else next_of_dir (reports v) (dir_of id)) in
    let Q : Dir → Type 0 = λ c. index_of id < next_of_dir (reports v) c in
    let here : index_of id < next_of_dir (reports v) d = omega arith in
    to_given z id g (subst P (sym own) (subst Q (sym dir) here))

-- ---- and no other

given_dir : (e d : Dir) → 0 < given_for e d 1 → e ≡ d
given_dir Bi Bi l = refl
given_dir Bi Uni l = absurd (omega arith)
given_dir Uni Bi l = absurd (omega arith)
given_dir Uni Uni l = refl

given_few : (e d : Dir) → given_for e d 1 ≤ 1
given_few Bi Bi = omega arith
given_few Bi Uni = omega arith
given_few Uni Bi = omega arith
given_few Uni Uni = omega arith

-- a stream of this end that is given now
new_own : (x y : LinkedEnd) (e : Event) (v : World) (id : ℕ) → Comes x → MayAct x y e v → is_local x.made.side id ≡ true → opened_in_all x.calls (dir_of id) ≤ index_of id → index_of id < opened_in_all (e ∷ x.calls) (dir_of id) → GaveId (e ∷ x.calls) id
new_own x y (Sending (OpenedOwn d closed (Ok (Some k)))) v id f a own low high =
    let few = given_few d (dir_of id) in
    let dir = given_dir d (dir_of id) (omega arith) in
    let index : index_of id ≡ opened_in_all x.calls (dir_of id) = omega arith in
    let P : Dir → Type 0 = λ c. index_of id ≡ opened_in_all x.calls c in
    let at : index_of id ≡ opened_in_all x.calls d = subst P (sym dir) index in
    let opened = opened-is x d f in
    let same : (own_of x.world.out d).opened ≡ index_of id = opened ∙ sym at in
    let k_is : k ≡ stream_id x.made.side d (index_of id) = a.step.2.1 ∙ ap (λ s. stream_id s d (own_of x.world.out d).opened) f.side ∙ ap (λ n. stream_id x.made.side d n) same in
    let id_at : id ≡ stream_id x.made.side d (index_of id) = own_id x.made.side id own ∙ ap (λ c. stream_id x.made.side c (index_of id)) (sym dir) in
    inl (d, closed, inl (ap (λ j. Sending (OpenedOwn d closed (Ok (Some j)))) (id_at ∙ sym k_is)))
new_own x y e v id f a own low high = absurd (omega arith)

step_up : (r : Remote) → r.next_reported < (one_accepted r).next_reported → (nat_lt r.next_reported r.next_remote ≡ true) × ((one_accepted r).next_reported ≡ r.next_reported + 1)
step_up r l = by_test (nat_lt r.next_reported r.next_remote) refl l
  where
    by_test : (b : Bool) → nat_lt r.next_reported r.next_remote ≡ b → r.next_reported < (if b then record r { next_reported = r.next_reported + 1 } else r).next_reported
        → (nat_lt r.next_reported r.next_remote ≡ true) × ((one_accepted r).next_reported ≡ r.next_reported + 1)
    by_test true k m = (k, one_more r k)
    by_test false k m = absurd (omega arith)

pub record AcceptsNow (u v : World) (e d : Dir) : Type 0 where
  pub dir : e ≡ d
  pub some : nat_lt (remote_of u e).next_reported (remote_of u e).next_remote ≡ true
  pub next : next_of_dir (reports v) d ≡ (remote_of u e).next_reported + 1

accepts_now : (u v : World) (e d : Dir) → v ≡ with_accepted u e → next_of_dir (reports u) d < next_of_dir (reports v) d → AcceptsNow u v e d
accepts_now u v Bi Bi s l = let k = ap (λ (w : World). w.bi.next_reported) s in let t = step_up u.bi (omega arith) in record { dir = refl; some = t.0; next = k ∙ t.1 }
accepts_now u v Bi Uni s l = let k : v.uni.next_reported ≡ u.uni.next_reported = ap (λ (w : World). w.uni.next_reported) s in absurd (omega arith)
accepts_now u v Uni Bi s l = let k : v.bi.next_reported ≡ u.bi.next_reported = ap (λ (w : World). w.bi.next_reported) s in absurd (omega arith)
accepts_now u v Uni Uni s l = let k = ap (λ (w : World). w.uni.next_reported) s in let t = step_up u.uni (omega arith) in record { dir = refl; some = t.0; next = k ∙ t.1 }

-- a stream of the peer that is
new_peer : (x y : LinkedEnd) (e : Event) (v : World) (id : ℕ) → Comes x → MayAct x y e v → is_local x.made.side id ≡ false → next_of_dir (reports x.world) (dir_of id) ≤ index_of id → index_of id < next_of_dir (reports v) (dir_of id) → GaveId (e ∷ x.calls) id
new_peer x y (Accepted d (Some k)) v id f a own low high =
    let t = accepts_now x.world v d (dir_of id) a.step.0 (omega arith) in
    let r : Remote = remote_of x.world d in
    let P : Dir → Type 0 = λ c. next_of_dir (reports x.world) c ≤ index_of id in
    let low_here : next_of_dir (reports x.world) d ≤ index_of id = subst P (sym t.dir) low in
    let told = report_is x.world d in
    let next = t.next in
    let index : index_of id ≡ r.next_reported = omega arith in
    let is = accepted_next r (other_side x.world.out.side) d k a.step.1 in
    let k_is : k ≡ stream_id (other_side x.made.side) d (index_of id) = is.0 ∙ ap (λ s. stream_id (other_side s) d r.next_reported) f.side ∙ ap (λ n. stream_id (other_side x.made.side) d n) (sym index) in
    let id_at : id ≡ stream_id (other_side x.made.side) d (index_of id) = peer_id x.made.side id own ∙ ap (λ c. stream_id (other_side x.made.side) c (index_of id)) (sym t.dir) in
    inr (d, inl (ap (λ j. Accepted d (Some j)) (id_at ∙ sym k_is)))
new_peer x y (Accepted d None) v id f a own low high =
    let t = accepts_now x.world v d (dir_of id) a.step.0 (omega arith) in
    absurd (let k = rw t.some at a.step.1 in cc)
new_peer x y e v id f a own low high =
    let k : next_of_dir (reports v) (dir_of id) ≡ next_of_dir (reports x.world) (dir_of id) = ap (λ p. next_of_dir p (dir_of id)) (reports-step x.world e v (plain-call x y e a.honest) refl a.step) in
    absurd (omega arith)

-- ---- after every call

pub record GivenSo (x : LinkedEnd) : Type 0 where
  pub told : (id : ℕ) → GaveId x.calls id → WasGiven x.world id
  pub only : (id : ℕ) → WasGiven x.world id → GaveId x.calls id

gave_more : (calls : List Event) (e : Event) (id : ℕ) → GaveId calls id → GaveId (e ∷ calls) id
gave_more calls e id (inl k) = inl (k.0, k.1, inr k.2)
gave_more calls e id (inr k) = inr (k.0, inr k.1)

new_given : (x y : LinkedEnd) (e : Event) (v : World) (id : ℕ) → Comes x → MayAct x y e v → counted x id ≤ index_of id → index_of id < counted (acted x e v) id → GaveId (e ∷ x.calls) id
new_given x y e v id f a low high = by_own (is_local x.made.side id) refl
  where
    by_own : (b : Bool) → is_local x.made.side id ≡ b → GaveId (e ∷ x.calls) id
    by_own true k = new_own x y e v id f a k (rw k at low) (rw k at high)
    by_own false k = new_peer x y e v id f a k (rw k at low) (rw k at high)

pub given-step : (x y : LinkedEnd) (e : Event) (v : World) → Comes x → MayAct x y e v → GivenSo x → GivenSo (acted x e v)
given-step x y e v f a s = record {
  told = λ id k. elim k [
    | inl o ↦ elim o.2 [
      | inl now ↦ (let P : Event → Type 0 = λ j. MayAct x y j v → WasGiven v id in subst P now (λ b. opened_given x y o.0 o.1 id v f b) a)
      | inr old ↦ given-more x y e v f a id (s.told id (inl (o.0, o.1, old)))
    ]
    | inr o ↦ elim o.1 [
      | inl now ↦ (let P : Event → Type 0 = λ j. MayAct x y j v → WasGiven v id in subst P now (λ b. accepted_given x y o.0 id v f b) a)
      | inr old ↦ given-more x y e v f a id (s.told id (inr (o.0, old)))
    ]
  ];
  only = λ id k.
      let z = acted x e v in
      let high = of_given z id (comes-acted x y e v f a) k in
      elim (cases_lt (index_of id) (counted x id)) [
        | inl l ↦ gave_more x.calls e id (s.only id (to_given x id f l))
        | inr l ↦ new_given x y e v id f a l high
      ];
}

-- at first none was given
pub given-new : (x : LinkedEnd) → Comes x → x.calls ≡ [] → reports x.world ≡ (0, 0) → GivenSo x
given-new x f none start_reports = record {
  told = λ id k. absurd (elim k [ inl o ↦ nowhere _ o.2 | inr o ↦ nowhere _ o.1 ]);
  only = λ id k. absurd (let l = of_given x id f k in nothing (is_local x.made.side id) (index_of id) (dir_of id) l);
}
  where
    nowhere : (e : Event) → IsOneOf e x.calls → ⊥
    nowhere e h = let P : List Event → Type 0 = λ l. IsOneOf e l in absurd (subst P none h)

    none_told : (d : Dir) → next_of_dir (reports x.world) d ≡ 0
    none_told Bi = ap (λ (p : ℕ × ℕ). p.0) start_reports
    none_told Uni = ap (λ (p : ℕ × ℕ). p.1) start_reports

    nothing : (own : Bool) (i : ℕ) (d : Dir) → i < (if own then opened_in_all x.calls d else next_of_dir (reports x.world) d) → ⊥
    nothing true i d l = let e : opened_in_all x.calls d ≡ 0 = ap (λ h. opened_in_all h d) none in omega arith
    nothing false i d l = let e = none_told d in omega arith
