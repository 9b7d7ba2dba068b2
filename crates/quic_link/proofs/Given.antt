-- A stream that the application was given stays so.
use Rattle.std.proofs.Common.{◌≡◌, ℕ, Bool, true, false, ◌∷◌, refl, sym, ap, subst, arith, ◌+◌, ◌≤◌, ◌<◌}
use Rattle.std.specs.Prelude.{nat_lt, if◌then◌else◌}
use Rattle.quic_values.specs.declared.ids.Dir.{Dir}
use Rattle.quic_values.specs.declared.ids.Dir.TheVariants.{Bi, Uni}
use Rattle.quic_values.specs.Ids.{dir_of, index_of}
use Rattle.quic_limits.specs.Remote.{Remote}
use Rattle.quic_outgoing.specs.Outgoing.{own_of}
use Rattle.quic_outgoing.specs.Senders.{is_local}
use Rattle.quic_history.specs.World.{World, remote_of}
use Rattle.quic_history.specs.Permitting.{with_accepted}
use Rattle.quic_history.specs.Early.{begins_anew}
use Rattle.quic_history.specs.History.{Event, Accepted, Step, opened_in_all, joint_move_of}
use Rattle.quic_link.specs.Endpoints.{LinkedEnd, MayAct, acted, WasGiven}
use Rattle.quic_link.proofs.Ends.{Comes, comes-acted, plain-call}
use Rattle.quic_link.proofs.Meets.{next_of_dir}
use Rattle.quic_link.proofs.Reports.{reports, reports-step}
use Rattle.quic_link.proofs.Opens.{own-local, opened-is}

accepted_more : (r : Remote) (b : Bool) → r.next_reported ≤ (if b then record r { next_reported = r.next_reported + 1 } else r).next_reported
accepted_more r true = omega arith
accepted_more r false = omega arith

accepted_grows : (u v : World) (e d : Dir) → v ≡ with_accepted u e → next_of_dir (reports u) d ≤ next_of_dir (reports v) d
accepted_grows u v Bi Bi s = let k = ap (λ (w : World). w.bi.next_reported) s in let l = accepted_more u.bi (nat_lt u.bi.next_reported u.bi.next_remote) in omega arith
accepted_grows u v Bi Uni s = let k : v.uni.next_reported ≡ u.uni.next_reported = ap (λ (w : World). w.uni.next_reported) s in omega arith
accepted_grows u v Uni Bi s = let k : v.bi.next_reported ≡ u.bi.next_reported = ap (λ (w : World). w.bi.next_reported) s in omega arith
accepted_grows u v Uni Uni s = let k = ap (λ (w : World). w.uni.next_reported) s in let l = accepted_more u.uni (nat_lt u.uni.next_reported u.uni.next_remote) in omega arith

same_reports : (u v : World) (d : Dir) → reports v ≡ reports u → next_of_dir (reports u) d ≤ next_of_dir (reports v) d
same_reports u v d e = let k : next_of_dir (reports v) d ≡ next_of_dir (reports u) d = ap (λ p. next_of_dir p d) e in omega arith

-- the application accepts more and more
reports_grow : (u : World) (e : Event) (v : World) → begins_anew (joint_move_of e) ≡ false → Step u e v → (d : Dir) → next_of_dir (reports u) d ≤ next_of_dir (reports v) d
reports_grow u (Accepted dir answer) v plain s d = accepted_grows u v dir d s.0
reports_grow u e v plain s d = same_reports u v d (reports-step u e v plain refl s)

report_is : (w : World) (d : Dir) → (remote_of w d).next_reported ≡ next_of_dir (reports w) d
report_is w Bi = refl
report_is w Uni = refl

more_by : (own : Bool) (i a b c d : ℕ) → a ≤ c → b ≤ d → i < (if own then a else b) → i < (if own then c else d)
more_by true i a b c d l m k = omega arith
more_by false i a b c d l m k = omega arith

pub given-more : (x y : LinkedEnd) (e : Event) (v : World) → Comes x → MayAct x y e v → (id : ℕ) → WasGiven x.world id → WasGiven v id
given-more x y e v f a id k =
    let z = acted x e v in
    let g = comes-acted x y e v f a in
    let d : Dir = dir_of id in
    let old = own-local x.world x.made.side id f.side in
    let new = own-local v x.made.side id g.side in
    let P : Bool → Type 0 = λ b. index_of id < (if b then (own_of x.world.out d).opened else (remote_of x.world d).next_reported) in
    let Q : Bool → Type 0 = λ b. index_of id < (if b then (own_of v.out d).opened else (remote_of v d).next_reported) in
    let opened = opened-is x d f in
    let opened_now = opened-is z d g in
    let grown = reports_grow x.world e v (plain-call x y e a.honest) a.step d in
    let told = report_is x.world d in
    let told_now = report_is v d in
    let more : opened_in_all x.calls d ≤ opened_in_all (e ∷ x.calls) d = omega arith in
    subst Q (sym new)
    (more_by (is_local x.made.side id) (index_of id) (own_of x.world.out d).opened (remote_of x.world d).next_reported (own_of v.out d).opened (remote_of v d).next_reported (omega arith) (omega arith) (subst P old k))
