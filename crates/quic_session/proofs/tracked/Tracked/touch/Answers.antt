use Rattle.std.proofs.Common.{arith, rules, refl, sym, ap, ◌∙◌, ℕ, ◌≡◌, length, Some, slice_index_or, slice_set}
use Rattle.std.specs.Map.{set_value}
use Rattle.std.specs.BTreeMap.{is_at}
use Rattle.std.specs.Ordering.{nat_cmp}
use Rattle.block_map.specs.Sorted.{KeyAndValue}
use Rattle.block_map.specs.Rows.{place_among}
use Rattle.block_map.proofs.Keyed.{lookup_here}
use Rattle.quic_session.specs.Marks.{mark_of, mark_count}
use Rattle.quic_session.specs.Users.{at, tracked_view}
use Rattle.quic_session.proofs.Marks.{count-room, count-set, length-set, set-here, marked-stays}
use Rattle.quic_session.proofs.tracked.Tracked.touch.Goals as goal

pub push_back_reserved-requires : goal.push_back_reserved-requires
push_back_reserved-requires c =
    let u = c.args.self.now in
    let i = place_among u.streams.rows c.in-Some.place.block c.in-Some.place.index in
    let unmarked : c.entry.result.1 ≡ 0 = search rules in
    let none : (d : KeyAndValue) → (slice_index_or u.streams.items i d).1 ≡ 0 = λ d. sym (ap (λ (e : KeyAndValue). e.1) (c.entry.ensures d)) ∙ unmarked in
    omega (arith, u.marked, u.places, u.touched.ok.0, count-room u.streams.items i c.in-Some.ensures.fits none)

pub invariant_of-self : goal.invariant_of-self
invariant_of-self c =
    let u = c.args.self.now in
    let i = place_among u.streams.rows c.in-Some.place.block c.in-Some.place.index in
    let d : KeyAndValue = (0, 0) in
    let unmarked : c.entry.result.1 ≡ 0 = search rules in
    let none = ap mark_of (sym (ap (λ (e : KeyAndValue). e.1) (c.entry.ensures d)) ∙ unmarked) in
    let is = c.set_value.ensures.items d in
    let k = (slice_index_or u.streams.items i d).0 in
    let count = count-set u.streams.items i k 1 d c.in-Some.ensures.fits in
    let counts = ap mark_count is in
    let long = ap length is ∙ length-set u.streams.items i (k, 1) in
    let one_more = c.push_back_reserved.ensures.len in
    record {
      marked = omega (arith, u.marked, one_more, c.push_back_reserved.new.self.ok.0, u.touched.ok.0, counts, count, none);
      places = omega (arith, u.places, long, c.push_back_reserved.ensures.capacity);
      prepared = λ ready. let p = u.prepared ready in let room = p.1 in (c.set_value.ensures.room ∙ p.0, omega (arith, room, long, c.push_back_reserved.ensures.capacity));
    }

pub returns-then-entry-eq-UNTOUCHED : goal.returns-then-entry-eq-UNTOUCHED
returns-then-entry-eq-UNTOUCHED c =
    let u = c.args.self.now in
    let i = place_among u.streams.rows c.in-Some.place.block c.in-Some.place.index in
    let d : KeyAndValue = (0, 0) in
    let key : (e : KeyAndValue) → (slice_index_or u.streams.items i e).0 ≡ c.args.id = λ e. c.in-Some.ensures.key e ∙ c.key_of.ensures in
    let unmarked : c.entry.result.1 ≡ 0 = search rules in
    let found : at u.streams.items c.args.id ≡ Some 0
    = lookup_here u.streams.items i c.args.id d c.place_of.ensures.rises c.in-Some.ensures.fits key ∙ ap (λ (n : ℕ). Some n) (sym (ap (λ (e : KeyAndValue). e.1) (c.entry.ensures d)) ∙ unmarked) in
    let is : c.set_value.new.self.items ≡ set_value (is_at (nat_cmp c.args.id)) u.streams.items 1
    = c.set_value.ensures.items d ∙ ap (λ (k : ℕ). slice_set u.streams.items i (k, 1)) (key d) ∙ set-here u.streams.items i c.args.id 1 c.place_of.ensures.rises c.in-Some.ensures.fits key in
    rw (found, is, c.push_back_reserved.ensures.items) refl

pub returns-else-entry-eq-UNTOUCHED : goal.returns-else-entry-eq-UNTOUCHED
returns-else-entry-eq-UNTOUCHED c =
    let u = c.args.self.now in
    let i = place_among u.streams.rows c.in-Some.place.block c.in-Some.place.index in
    let d : KeyAndValue = (0, 0) in
    let key : (e : KeyAndValue) → (slice_index_or u.streams.items i e).0 ≡ c.args.id = λ e. c.in-Some.ensures.key e ∙ c.key_of.ensures in
    let found : at u.streams.items c.args.id ≡ Some c.entry.result.1
    = lookup_here u.streams.items i c.args.id d c.place_of.ensures.rises c.in-Some.ensures.fits key ∙ ap (λ (n : ℕ). Some n) (sym (ap (λ (e : KeyAndValue). e.1) (c.entry.ensures d))) in
    marked-stays c.args.id c.entry.result.1 (tracked_view u) found (search rules)
