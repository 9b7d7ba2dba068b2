-- What is told of each stream stays true at each step.
use Rattle.std.proofs.Common.{◌≡◌, ℕ, Bool, true, false, cond, eqb, Option, Some, None, refl, sym, ap, ◌∙◌, subst, arith, ◌+◌}
use Rattle.std.specs.Prelude.{nat_le, max, if◌then◌else◌}
use Rattle.quic_values.specs.declared.ids.Side.{Side}
use Rattle.quic_values.specs.declared.ids.Dir.{Dir}
use Rattle.quic_limits.specs.Credit.{Credit}
use Rattle.quic_values.specs.declared.ids.Dir.TheVariants.{Bi, Uni}
use Rattle.quic_values.specs.Ids.{stream_id, other_side, dir_of, index_of}
use Rattle.quic_limits.specs.Remote as remote
use Rattle.quic_limits.specs.Remote.{Remote}
use Rattle.quic_receiving.specs.Half.{Half, new_half}
use Rattle.quic_history.specs.Halves.{with_half}
use Rattle.quic_history.specs.SendTotals.{SendTotals, send_totals}
use Rattle.quic_queue.specs.SendOrder.{SendOrder}
use Rattle.quic_history.specs.World.{World, sends, id_refusal, is_own, remote_of, with_remote, with_receive, with_permitted, permitted_if, replaced_in, released, with_freed, told_readable, noticed}
use Rattle.quic_receiving.proofs.Data.{data-fresh}
use Rattle.quic_history.specs.History.{Trace, untouched, HalfFrom, StreamFrom}
use Rattle.quic_history.proofs.WorldSteps.{receive-there, refusal-with_receive, credit-with_receive}
use Rattle.quic_history.proofs.Refusals.{IsRaised, refusal-same, refusal-raised, refusal-next, refusal-permitted}
use Rattle.quic_history.proofs.Totals.{by_cases, same}

-- what is told of each stream is true of an end
abbrev pub AllFrom : (ℕ → Trace) → World → Type 0
AllFrom f w = (q : ℕ) → StreamFrom w.window (f q) (id_refusal w q) (w.receive q)

moved : (n n' : ℕ) (t : Trace) (r r' : Option ℕ) (o o' : Option Half) → n' ≡ n → r' ≡ r → o' ≡ o → StreamFrom n t r o → StreamFrom n' t r' o'
moved n n' t r r' o o' w e k s = rw (w, e, k) s

retold : (n : ℕ) (t t' : Trace) (r : Option ℕ) (o : Option Half) → t' ≡ t → StreamFrom n t r o → StreamFrom n t' r o
retold n t t' r o e s = rw e s

-- the same halves, and the same frames are refused
pub all-same : (f : ℕ → Trace) (u v : World) → v.window ≡ u.window → ((q : ℕ) → id_refusal v q ≡ id_refusal u q) → ((q : ℕ) → v.receive q ≡ u.receive q) → AllFrom f u → AllFrom f v
all-same f u v w r o s q = moved u.window v.window (f q) (id_refusal u q) (id_refusal v q) (u.receive q) (v.receive q) w (r q) (o q) (s q)

-- the same is told
pub all-told : (f g : ℕ → Trace) (u : World) → ((q : ℕ) → g q ≡ f q) → AllFrom f u → AllFrom g u
all-told f g u e s q = retold u.window (f q) (g q) (id_refusal u q) (u.receive q) (e q) (s q)

here : (n : ℕ) (t : Trace) (r : Option ℕ) (o : Option Half) (h : Half) → r ≡ None → o ≡ Some h → StreamFrom n t r o → HalfFrom n t h
here n t r o h e k s = let there = rw (e, k) at s in there

pub half-from : (f : ℕ → Trace) (w : World) (id : ℕ) (h : Half) → AllFrom f w → id_refusal w id ≡ None → w.receive id ≡ Some h → HalfFrom w.window (f id) h
half-from f w id h s e k = here w.window (f id) (id_refusal w id) (w.receive id) h e k (s id)

gone : (n : ℕ) (t : Trace) (r : Option ℕ) (o : Option Half) → r ≡ None → o ≡ None → StreamFrom n t r o → t.gone ≡ true
gone n t r o e k s = let there = rw (e, k) at s in there

pub gone-from : (f : ℕ → Trace) (w : World) (id : ℕ) → AllFrom f w → id_refusal w id ≡ None → w.receive id ≡ None → (f id).gone ≡ true
gone-from f w id s e k = gone w.window (f id) (id_refusal w id) (w.receive id) e k (s id)

-- a half that is there is of a stream whose frames are not refused
known_by : (n : ℕ) (t : Trace) (r : Option ℕ) (h : Half) → StreamFrom n t r (Some h) → r ≡ None
known_by n t None h s = refl
known_by n t (Some error) h s = absurd s

known_half : (n : ℕ) (t : Trace) (r : Option ℕ) (o : Option Half) (h : Half) → o ≡ Some h → StreamFrom n t r o → r ≡ None
known_half n t r o h k s = let there = rw k at s in known_by n t r h there

pub known-from : (f : ℕ → Trace) (w : World) (id : ℕ) (h : Half) → AllFrom f w → w.receive id ≡ Some h → id_refusal w id ≡ None
known-from f w id h s k = known_half w.window (f id) (id_refusal w id) (w.receive id) h k (s id)

pub new-from : (n : ℕ) (t : Trace) (r : Option ℕ) (o : Option Half) (error : ℕ) → r ≡ Some error → StreamFrom n t r o → t ≡ untouched
new-from n t r None error e s = let there = rw e at s in there
new-from n t r (Some h) error e s = absurd (rw e at s)

receive-other : (w : World) (id q : ℕ) (o : Option Half) → eqb q id ≡ false → (with_receive w id o).receive q ≡ w.receive q
unfolding with_receive with_half
receive-other w id q o n = rw n refl

pub window-put : (w : World) (id : ℕ) (o : Option Half) → (with_receive w id o).window ≡ w.window
unfolding with_receive
window-put w id o = refl

set_half : (n n' : ℕ) (t : Trace) (r : Option ℕ) (o : Option Half) (h : Half) → n' ≡ n → r ≡ None → o ≡ Some h → HalfFrom n t h → StreamFrom n' t r o
set_half n n' t r o h w e k s = rw (w, e, k) s

set_none : (n : ℕ) (t : Trace) (r : Option ℕ) (o : Option Half) → r ≡ None → o ≡ None → t.gone ≡ true → StreamFrom n t r o
set_none n t r o e k s = rw (e, k) s

-- what is told of each stream but one is true of an end
abbrev pub AllBut : ℕ → (ℕ → Trace) → World → Type 0
AllBut id g w = (q : ℕ) → eqb q id ≡ false → StreamFrom w.window (g q) (id_refusal w q) (w.receive q)

pub but-from : (f g : ℕ → Trace) (w : World) (id : ℕ) → ((q : ℕ) → eqb q id ≡ false → g q ≡ f q) → AllFrom f w → AllBut id g w
but-from f g w id others s q n = retold w.window (f q) (g q) (id_refusal w q) (w.receive q) (others q n) (s q)

-- the half of that stream changes
pub but-put : (g : ℕ → Trace) (w : World) (id : ℕ) (o : Option Half) → AllBut id g w → AllBut id g (with_receive w id o)
but-put g w id o s q n = moved w.window _ (g q) (id_refusal w q) _ (w.receive q) _ (window-put w id o) (refusal-with_receive w id q o) (receive-other w id q o n) (s q n)

-- it is as is told of it
pub all-put : (g : ℕ → Trace) (w : World) (id : ℕ) (h : Half) → AllBut id g w → id_refusal w id ≡ None → HalfFrom w.window (g id) h → AllFrom g (with_receive w id (Some h))
all-put g w id h s known is q = by_cases (eqb q id)
    (λ t. let P : ℕ → Type 0 = λ k. StreamFrom (with_receive w id (Some h)).window (g k) (id_refusal (with_receive w id (Some h)) k) ((with_receive w id (Some h)).receive k) in
    subst P (sym (same q id t)) (set_half w.window _ (g id) _ _ h (window-put w id (Some h)) (refusal-with_receive w id id (Some h) ∙ known) (receive-there w id (Some h)) is))
    (but-put g w id (Some h) s q)

-- it goes, as is told of it
all-without : (g : ℕ → Trace) (w : World) (id : ℕ) → AllBut id g w → id_refusal w id ≡ None → (g id).gone ≡ true → AllFrom g (with_receive w id None)
all-without g w id s known is q = by_cases (eqb q id)
    (λ t. let P : ℕ → Type 0 = λ k. StreamFrom (with_receive w id None).window (g k) (id_refusal (with_receive w id None) k) ((with_receive w id None).receive k) in
    subst P (sym (same q id t)) (set_none _ (g id) _ _ (refusal-with_receive w id id None ∙ known) (receive-there w id None) is))
    (but-put g w id None s q)

pub new-half-from : (window : ℕ) → HalfFrom window untouched (new_half window)
new-half-from window = record {
  high = refl;
  read = refl;
  sized = refl;
  stopped = refl;
  reset = refl;
  there = refl;
  final = λ size e. cc;
  within = omega arith;
  limit = at_first window;
  holds = λ s r. data-fresh;
}
  where
    at_first : (n : ℕ) → n ≡ max n 0
    at_first n = omega arith

-- the next stream of the peer is permitted
pub raised-all : (f : ℕ → Trace) (d : Dir) (u v : World) → v.window ≡ u.window → v.out.side ≡ u.out.side → v.out.own_bi.opened ≡ u.out.own_bi.opened → IsRaised d u v
    → v.receive ≡ with_half u.receive (stream_id (other_side u.out.side) d (remote_of u d).max_remote) (Some (new_half u.window)) → AllFrom f u → AllFrom f v
unfolding with_half
raised-all f d u v window side opened r halves s q =
    let id = stream_id (other_side u.out.side) d (remote_of u d).max_remote in
    let at : v.receive q ≡ cond (eqb q id) (Some (new_half u.window)) (u.receive q) = ap (λ k. k q) halves in
    by_cases (eqb q id)
    (λ t.
    let is : q ≡ id = same q id t in
    let told : f q ≡ untouched = new-from u.window (f q) (id_refusal u q) (u.receive q) _ (ap (id_refusal u) is ∙ refusal-next d u) (s q) in
    retold v.window untouched (f q) (id_refusal v q) (v.receive q) told
    (set_half u.window v.window untouched (id_refusal v q) (v.receive q) (new_half u.window) window (ap (id_refusal v) is ∙ refusal-permitted d u v side r) (at ∙ rw t refl) (new-half-from u.window)))
    (λ n. moved u.window v.window (f q) (id_refusal u q) (id_refusal v q) (u.receive q) (v.receive q) window (refusal-raised d u v q side opened r n) (at ∙ rw n refl) (s q))

-- one stream of which nothing was told is opened
pub all-one : (f : ℕ → Trace) (u v : World) (id error : ℕ) → v.window ≡ u.window → v.receive ≡ with_half u.receive id (Some (new_half u.window)) → id_refusal u id ≡ Some error → id_refusal v id ≡ None
    → ((q : ℕ) → eqb q id ≡ false → id_refusal v q ≡ id_refusal u q) → AllFrom f u → AllFrom f v
unfolding with_half
all-one f u v id error window halves before after others s q =
    let at : v.receive q ≡ cond (eqb q id) (Some (new_half u.window)) (u.receive q) = ap (λ k. k q) halves in
    by_cases (eqb q id)
    (λ t.
    let is : q ≡ id = same q id t in
    let told : f q ≡ untouched = new-from u.window (f q) (id_refusal u q) (u.receive q) error (ap (id_refusal u) is ∙ before) (s q) in
    retold v.window untouched (f q) (id_refusal v q) (v.receive q) told
    (set_half u.window v.window untouched (id_refusal v q) (v.receive q) (new_half u.window) window (ap (id_refusal v) is ∙ after) (at ∙ rw t refl) (new-half-from u.window)))
    (λ n. moved u.window v.window (f q) (id_refusal u q) (id_refusal v q) (u.receive q) (v.receive q) window (others q n) (at ∙ rw n refl) (s q))

-- the world with it
abbrev with_next : Dir → World → World
with_next d u = with_permitted (with_remote u d (remote.one_permitted (remote.freed (remote_of u d)))) d (remote_of u d).max_remote

all-permitted : (f : ℕ → Trace) (d : Dir) (u : World) → AllFrom f u → AllFrom f (with_next d u)
unfolding with_receive
all-permitted f Bi u s = raised-all f Bi u (with_next Bi u) refl refl refl (refl, refl) refl s
all-permitted f Uni u s = raised-all f Uni u (with_next Uni u) refl refl refl (refl, refl) refl s

pub all-remote : (f : ℕ → Trace) (d : Dir) (u : World) (r : Remote) → r.max_remote ≡ (remote_of u d).max_remote → AllFrom f u → AllFrom f (with_remote u d r)
all-remote f Bi u r e s = all-same f u (with_remote u Bi r) refl (λ q. refusal-same (with_remote u Bi r) u q refl refl e refl) (λ q. refl) s
all-remote f Uni u r e s = all-same f u (with_remote u Uni r) refl (λ q. refusal-same (with_remote u Uni r) u q refl refl refl e) (λ q. refl) s

replaced_if : (f : ℕ → Trace) (d : Dir) (u : World) (b : Bool) → AllFrom f u
    → AllFrom f (permitted_if (with_remote u d (if b then remote.one_permitted (remote.freed (remote_of u d)) else remote.freed (remote_of u d))) d (if b then Some (remote_of u d).max_remote else None))
replaced_if f d u true s = all-permitted f d u s
replaced_if f d u false s = all-remote f d u (remote.freed (remote_of u d)) refl s

pub all-replaced : (f : ℕ → Trace) (d : Dir) (u : World) → AllFrom f u → AllFrom f (replaced_in u d)
all-replaced f d u s = replaced_if f d u (remote.lacks_streams (remote.freed (remote_of u d))) s

either : (f : ℕ → Trace) (u v : World) (b : Bool) → AllFrom f u → AllFrom f v → AllFrom f (if b then u else v)
either f u v true s t = s
either f u v false s t = t

all-released : (f : ℕ → Trace) (d : Dir) (u : World) (id : ℕ) → AllFrom f u → AllFrom f (released u d id)
all-released f Uni u id s = all-replaced f Uni u s
all-released f Bi u id s = either f u (replaced_in u Bi) ((sends u) id) s (all-replaced f Bi u s)

-- a half is freed, as is told of its stream
pub all-freed : (g : ℕ → Trace) (w : World) (id : ℕ) → AllBut id g w → id_refusal w id ≡ None → (g id).gone ≡ true → AllFrom g (with_freed w id)
all-freed g w id s known is =
    let u = with_receive w id None in
    let t = all-without g w id s known is in
    either g u (released u (dir_of id) id) (is_own u id) t (all-released g (dir_of id) u id t)

if_any : (P : World → Type 0) (u v : World) (b : Bool) → P u → P v → P (if b then u else v)
if_any P u v true s t = s
if_any P u v false s t = t

-- what a notice may be
pub noticed-any : (P : World → Type 0) (w : World) (id : ℕ) (b : Bool) → P (told_readable w id b)
    → P (with_remote w (dir_of id) (remote.opened_up_to (remote_of w (dir_of id)) (index_of id))) → P (noticed w id b)
noticed-any P w id b told opened = if_any P _ _ (is_own w id) told (if_any P _ _ (nat_le (remote_of w (dir_of id)).next_remote (index_of id)) opened told)

pub opened-max : (r : Remote) (index : ℕ) (b : Bool) → (if b then record r { next_remote = index + 1; opened = true } else r).max_remote ≡ r.max_remote
opened-max r index true = refl
opened-max r index false = refl

refusal_readable : (w : World) (id : ℕ) (b : Bool) (q : ℕ) → id_refusal (told_readable w id b) q ≡ id_refusal w q
refusal_readable w id true q = refl
refusal_readable w id false q = refl

refusal_remote : (w : World) (d : Dir) (r : Remote) (q : ℕ) → r.max_remote ≡ (remote_of w d).max_remote → id_refusal (with_remote w d r) q ≡ id_refusal w q
refusal_remote w Bi r q e = refusal-same (with_remote w Bi r) w q refl refl e refl
refusal_remote w Uni r q e = refusal-same (with_remote w Uni r) w q refl refl refl e

-- a frame that is noticed changes nothing of what is refused
pub refusal-noticed : (w : World) (id : ℕ) (b : Bool) (q : ℕ) → id_refusal (noticed w id b) q ≡ id_refusal w q
refusal-noticed w id b q =
    let P : World → Type 0 = λ x. id_refusal x q ≡ id_refusal w q in
    noticed-any P w id b (refusal_readable w id b q) (refusal_remote w (dir_of id) _ q (opened-max (remote_of w (dir_of id)) (index_of id) _))

receive_readable : (w : World) (id : ℕ) (b : Bool) (q : ℕ) → (told_readable w id b).receive q ≡ w.receive q
receive_readable w id true q = refl
receive_readable w id false q = refl

receive_remote : (w : World) (d : Dir) (r : Remote) (q : ℕ) → (with_remote w d r).receive q ≡ w.receive q
receive_remote w Bi r q = refl
receive_remote w Uni r q = refl

-- nor of the halves
receive-noticed : (w : World) (id : ℕ) (b : Bool) (q : ℕ) → (noticed w id b).receive q ≡ w.receive q
receive-noticed w id b q =
    let P : World → Type 0 = λ x. x.receive q ≡ w.receive q in
    noticed-any P w id b (receive_readable w id b q) (receive_remote w (dir_of id) _ q)

window_readable : (w : World) (id : ℕ) (b : Bool) → (told_readable w id b).window ≡ w.window
window_readable w id true = refl
window_readable w id false = refl

window_remote : (w : World) (d : Dir) (r : Remote) → (with_remote w d r).window ≡ w.window
window_remote w Bi r = refl
window_remote w Uni r = refl

window-noticed : (w : World) (id : ℕ) (b : Bool) → (noticed w id b).window ≡ w.window
window-noticed w id b =
    let P : World → Type 0 = λ x. x.window ≡ w.window in
    noticed-any P w id b (window_readable w id b) (window_remote w (dir_of id) _)

pub all-noticed : (g : ℕ → Trace) (w : World) (id : ℕ) (b : Bool) → AllFrom g w → AllFrom g (noticed w id b)
all-noticed g w id b s q = moved w.window _ (g q) (id_refusal w q) _ (w.receive q) _ (window-noticed w id b) (refusal-noticed w id b q) (receive-noticed w id b q) (s q)

pub but-noticed : (g : ℕ → Trace) (w : World) (id k : ℕ) (b : Bool) → AllBut k g w → AllBut k g (noticed w id b)
but-noticed g w id k b s q n = moved w.window _ (g q) (id_refusal w q) _ (w.receive q) _ (window-noticed w id b) (refusal-noticed w id b q) (receive-noticed w id b q) (s q n)

-- ---- what few calls change

-- which end it is, the windows, the credit, and the totals of what is sent
pub record Steady : Type 0 where
  pub side : Side
  pub window : ℕ
  pub credit : Credit
  pub send_totals : SendTotals
  pub queue : SendOrder

abbrev pub steady : World → Steady
steady w = record { side = w.out.side; window = w.window; credit = w.credit; send_totals = send_totals w.out; queue = w.queue }

pub steady-put : (w : World) (id : ℕ) (o : Option Half) → steady (with_receive w id o) ≡ steady w
unfolding with_receive
steady-put w id o = refl

steady_readable : (w : World) (id : ℕ) (b : Bool) → steady (told_readable w id b) ≡ steady w
steady_readable w id true = refl
steady_readable w id false = refl

pub steady-remote : (w : World) (d : Dir) (r : Remote) → steady (with_remote w d r) ≡ steady w
steady-remote w Bi r = refl
steady-remote w Uni r = refl

pub steady-noticed : (w : World) (id : ℕ) (b : Bool) → steady (noticed w id b) ≡ steady w
steady-noticed w id b =
    let P : World → Type 0 = λ x. steady x ≡ steady w in
    noticed-any P w id b (steady_readable w id b) (steady-remote w (dir_of id) _)

steady_permitted : (w : World) (d : Dir) (index : ℕ) → steady (with_permitted w d index) ≡ steady w
unfolding with_receive
steady_permitted w Bi index = refl
steady_permitted w Uni index = refl

steady_permitted_if : (w : World) (d : Dir) (o : Option ℕ) → steady (permitted_if w d o) ≡ steady w
steady_permitted_if w d None = refl
steady_permitted_if w d (Some index) = steady_permitted w d index

pub steady-replaced : (w : World) (d : Dir) → steady (replaced_in w d) ≡ steady w
steady-replaced w d = steady_permitted_if (with_remote w d (remote.replaced (remote_of w d))) d (remote.replacement (remote_of w d)) ∙ steady-remote w d _

steady_released : (w : World) (d : Dir) (id : ℕ) → steady (released w d id) ≡ steady w
steady_released w Uni id = steady-replaced w Uni
steady_released w Bi id =
    let P : World → Type 0 = λ x. steady x ≡ steady w in
    if_any P w (replaced_in w Bi) ((sends w) id) refl (steady-replaced w Bi)

-- a half that is freed changes nothing of the credit
pub steady-freed : (w : World) (id : ℕ) → steady (with_freed w id) ≡ steady w
steady-freed w id =
    let u = with_receive w id None in
    let P : World → Type 0 = λ x. steady x ≡ steady w in
    if_any P u (released u (dir_of id) id) (is_own u id) (steady-put w id None) (steady_released u (dir_of id) id ∙ steady-put w id None)

-- nor of the credit
pub credit-noticed : (w : World) (id : ℕ) (b : Bool) → (noticed w id b).credit ≡ w.credit
credit-noticed w id b = ap (λ s. s.credit) (steady-noticed w id b)

pub credit-freed : (w : World) (id : ℕ) → (with_freed w id).credit ≡ w.credit
credit-freed w id = ap (λ s. s.credit) (steady-freed w id)
