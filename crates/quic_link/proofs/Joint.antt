-- What holds of two ends that are linked, each way.
use Rattle.std.proofs.Common.{◌≡◌, ℕ, [], refl, sym, ap, ◌∙◌, subst, arith, ◌≤◌, ◌<◌, ◌^◌}
use Rattle.quic_values.specs.declared.ids.Dir.{Dir}
use Rattle.quic_values.specs.declared.ids.Dir.TheVariants.{Bi, Uni}
use Rattle.quic_values.specs.Ids.{other_side}
use Rattle.quic_history.specs.World.{World, Made, start, remote_of}
use Rattle.quic_history.specs.History.{Event, IsStart, move_of}
use Rattle.quic_link.specs.Endpoints.{LinkedEnd, MayAct, acted, IsNewEnd, Linked, begun, first_acts, second_acts, sent_on, came_on}
use Rattle.quic_link.proofs.Ends.{Comes, comes-new, comes-acted, plain-call}
use Rattle.quic_link.proofs.Growth.{grows}
use Rattle.quic_link.proofs.Rooms.{RoomSo, room-kept, limits-honest}
use Rattle.quic_link.proofs.TrueFrames.{AllTrue, true-acted, count-few}
use Rattle.quic_link.proofs.Permits.{PermitsSo, permits-acted}
use Rattle.quic_link.proofs.Streams.{StreamFits, fits-new, fits-grown, fits-moved, move-true, LimitSo, limits-sent, limits-came}
use Rattle.quic_link.proofs.Acks.{AckedSo, acked-sent, acked-came}
use Rattle.quic_link.proofs.Told.{AllToldTrue, told-first, told-second}
use Rattle.quic_link.proofs.Meets.{nexts, next_of_dir}
use Rattle.quic_link.proofs.AskedFor.{AllAskedFor, frames-asked}
use Rattle.quic_link.proofs.GivenIds.{GivenSo, given-new, given-step}
use Rattle.quic_link.proofs.Opens.{IdsSo}
use Rattle.quic_link.proofs.Readers.{ReadsSo, reads-new, reads-kept}
use Rattle.quic_link.proofs.Kept.{KeptSo, kept-new, kept-step}
use Rattle.quic_link.proofs.Counts.{DataSo, ids-first, ids-other, data-first, data-other}
use Rattle.quic_link.proofs.Basics.{other_other}

-- as x sends and y receives
pub record Agrees (x y : LinkedEnd) : Type 0 where
  pub comes : Comes x
  pub small : x.made.window < 2 ^ 62
  pub few : (d : Dir) → (remote_of x.world d).max_remote ≤ 2 ^ 60
  pub other : y.made.side ≡ other_side x.made.side
  pub truth : AllTrue x
  pub asked : AllAskedFor x
  pub given : GivenSo x
  pub ids : IdsSo x y
  pub credit : DataSo x y
  pub reads : ReadsSo x.calls x.world
  pub keeps : KeptSo x.calls
  pub rooms : (q : ℕ) → RoomSo (sent_on x q)
  pub fits : (q : ℕ) → StreamFits (sent_on x q) (came_on y q)
  pub limits : (q : ℕ) → LimitSo y.made.window (sent_on x q) (came_on y q)
  pub acked : (q : ℕ) → AckedSo (sent_on x q) y.calls q
  pub events : AllToldTrue x y
  pub permits : PermitsSo x

-- ---- at first

abbrev new_end : Made → LinkedEnd
new_end m = record { made = m; calls = []; world = start m; wrote = [] }

is_new : (x : LinkedEnd) → IsNewEnd x → x ≡ new_end x.made
is_new x n =
    ap (λ c. record { made = x.made; calls = c; world = x.world; wrote = x.wrote }) n.calls
    ∙ ap (λ w. record { made = x.made; calls = []; world = x.world; wrote = w }) n.wrote
    ∙ ap (λ w. record { made = x.made; calls = []; world = w; wrote = [] }) n.start.is

new_ids : (m n : Made) → IsStart m (start m) → IdsSo (new_end m) (new_end n)
new_ids m n s = record { frames_open = λ g h. absurd h; queue = λ q h. cc; met = met; counts = λ d. omega arith; base = λ d. omega arith }
  where
    met : (d : Dir) → next_of_dir (nexts (start m)) d ≤ 0
    met Bi = let e = s.bi.next in omega arith
    met Uni = let e = s.uni.next in omega arith

agrees_new : (m n : Made) → Comes (new_end m) → IsStart m (start m) → m.window < 2 ^ 62 → n.side ≡ other_side m.side → Agrees (new_end m) (new_end n)
agrees_new m n f s small other = record {
  comes = f;
  small = small;
  few = few;
  other = other;
  truth = λ g h. absurd h;
  asked = λ g h. absurd h;
  given = given-new (new_end m) f refl (ap (λ (n : ℕ). (n, m.uni.next_reported)) s.bi.reported ∙ ap (λ (n : ℕ). (0, n)) s.uni.reported);
  ids = new_ids m n s;
  credit = record { limit = omega arith; base = omega arith };
  reads = reads-new m;
  keeps = kept-new;
  rooms = λ q. record { within = omega arith; small = omega arith };
  fits = λ q. fits-new (sent_on (new_end m) q);
  limits = λ q. omega arith;
  acked = λ q. record { came = λ k e. cc; end_came = λ e. cc; whole = λ e r. cc; stopped = λ code e. cc };
  events = λ g h. absurd h;
  permits = λ q. omega arith;
}
  where
    few : (d : Dir) → (remote_of (start m) d).max_remote ≤ 2 ^ 60
    few Bi = s.bi.few
    few Uni = s.uni.few

-- an end that may have begun so may begin so
begun_at : (m : Made) (v : World) → IsStart m v → IsStart m (start m)
begun_at m v s = let P : World → Type 0 = λ w. IsStart m w in subst P s.is s

agrees_begun : (x y : LinkedEnd) → IsNewEnd x → IsNewEnd y → y.made.side ≡ other_side x.made.side → Agrees x y
agrees_begun x y a b other =
    let e = is_new x a in
    let k = is_new y b in
    let P : LinkedEnd → Type 0 = λ z. Agrees z y in
    let Q : LinkedEnd → Type 0 = λ z. Agrees (new_end x.made) z in
    let R : LinkedEnd → Type 0 = λ z. Comes z in
    subst P (sym e) (subst Q (sym k) (agrees_new x.made y.made (subst R e (comes-new x a)) (begun_at x.made x.world a.start) a.small other))

-- ---- a call of the end that sends

agrees-sent : (x y : LinkedEnd) (e : Event) (v : World) → Agrees x y → Agrees y x → MayAct x y e v → Agrees (acted x e v) y
agrees-sent x y e v s r a =
    let f = s.comes in
    let l = limits-honest x y e a.honest in
    let plain = plain-call x y e a.honest in
    record {
      comes = comes-acted x y e v f a;
      small = s.small;
      few = λ d. count-few x.made x.calls x.world f.from e v a.step d (s.few d);
      other = s.other;
      truth = true-acted x y e v f a s.truth;
      asked = frames-asked x y e v f a s.asked;
      given = given-step x y e v f a s.given;
      ids = ids-first x y e v f a s.other r.truth s.ids r.ids;
      credit = data-first x y e v f a r.truth s.credit r.credit;
      reads = let after = comes-acted x y e v f a in reads-kept x.made x.calls x.world f.from s.reads e v plain a.step after.from;
      keeps = kept-step x.made x.calls x.world f.from e v plain a.step s.keeps;
      rooms = λ q. room-kept x.made x.calls x.world v f.from y.made e plain a.step r.small l q (s.rooms q);
      fits = λ q. fits-grown (sent_on x q) (sent_on (acted x e v) q) (came_on y q) (grows x.made x.calls x.world v f.from e plain a.step q) (s.fits q);
      limits = limits-sent x y e v r.truth a.honest l s.limits;
      acked = acked-sent x y e v f r.truth a s.acked;
      events = told-first x y e v f r.truth a s.acked s.events;
      permits = permits-acted x y v e a (true-acted x y e v f a s.truth) s.permits;
    }

-- ---- and of the end that receives

agrees-came : (x y : LinkedEnd) (e : Event) (v : World) → Agrees x y → Agrees y x → MayAct y x e v → Agrees x (acted y e v)
agrees-came x y e v s r a =
    let f = r.comes in
    let plain = plain-call y x e a.honest in
    record {
      comes = s.comes;
      small = s.small;
      few = s.few;
      other = s.other;
      truth = s.truth;
      asked = s.asked;
      given = s.given;
      ids = ids-other y x e v f a s.ids;
      credit = data-other y x e v f a s.credit;
      reads = s.reads;
      keeps = s.keeps;
      rooms = s.rooms;
      fits = λ q. rw plain (fits-moved (sent_on x) (move_of e) q (came_on y q) (move-true x y e s.truth a.honest) (s.fits q));
      limits = limits-came x y e v plain s.limits;
      acked = λ q. acked-came (sent_on x q) y.calls q e (s.acked q);
      events = told-second x y e v s.events;
      permits = s.permits;
    }

-- both ways, however they came so far
pub agrees : {x y : LinkedEnd} → Linked x y → Agrees x y × Agrees y x
agrees {x} {y} (begun a b other) = (agrees_begun x y a b other, agrees_begun y x b a (other_other x.made.side ∙ ap other_side (sym other)))
agrees (first_acts {x} {y} e v l a) = let k = agrees l in (agrees-sent x y e v k.0 k.1 a, agrees-came y x e v k.1 k.0 a)
agrees (second_acts {x} {y} e v l a) = let k = agrees l in (agrees-came x y e v k.0 k.1 a, agrees-sent y x e v k.1 k.0 a)
