use Rattle.std.proofs.Common.{arith, rules, refl, sym, ap, ◌∙◌, ℕ, ◌≡◌, length, None, slice_index_or, slice_set}
use Rattle.std.specs.Map.{set_value, lookup}
use Rattle.std.specs.BTreeMap.{is_at}
use Rattle.std.specs.Ordering.{nat_cmp}
use Rattle.block_map.specs.Sorted.{KeyAndValue}
use Rattle.block_map.specs.Rows.{place_among}
use Rattle.quic_session.specs.Marks.{mark_count}
use Rattle.quic_session.proofs.Marks.{mark-most, count-set, length-set, set-here, set-unfound}
use Rattle.quic_session.proofs.tracked.Tracked.next_touched.Goals.{in-Some, in_default}
use Rattle.quic_session.proofs.tracked.Tracked.next_touched.Goals as goal

pub invariant_of-self-in-Some : goal.invariant_of-self-in-Some
invariant_of-self-in-Some c =
    let u = c.args.self.now in
    let i = place_among u.streams.rows c.in-Some.place.block c.in-Some.place.index in
    let d : KeyAndValue = (0, 0) in
    let is = c.set_value.ensures.items d in
    let k = (slice_index_or u.streams.items i d).0 in
    let count = count-set u.streams.items i k 0 d c.in-Some.ensures.fits in
    let most = mark-most (slice_index_or u.streams.items i d).1 in
    let counts = ap mark_count is in
    let long = ap length is ∙ length-set u.streams.items i (k, 0) in
    let fewer = c.in_ok-id.ensures.len in
    let capacity = c.in_ok-id.ensures.capacity in
    record {
      marked = omega (arith, u.marked, fewer, c.pop_front.new.self.ok.0, u.touched.ok.0, counts, count, most);
      places = omega (arith, u.places, long, capacity);
      prepared = λ ready. let p = u.prepared ready in let room = p.1 in (c.set_value.ensures.room ∙ p.0, omega (arith, room, long, capacity));
    }

pub returns-clause-some : goal.returns-clause-some
returns-clause-some c =
    let u = c.args.self.now in
    let id = c.in_ok-id.id in
    let left = c.pop_front.new.self.items in
    let d : KeyAndValue = (0, 0) in (
      left,
      c.in_ok-id.ensures.items,
      elim c.match-place_of.branch [
        | in-Some w ↦
            let i = place_among u.streams.rows w.in-Some.place.block w.in-Some.place.index in
            let key : (e : KeyAndValue) → (slice_index_or u.streams.items i e).0 ≡ id = λ e. w.in-Some.ensures.key e ∙ c.key_of.ensures in
            let is : w.set_value.new.self.items ≡ set_value (is_at (nat_cmp id)) u.streams.items 0
            = w.set_value.ensures.items d ∙ ap (λ (k : ℕ). slice_set u.streams.items i (k, 0)) (key d) ∙ set-here u.streams.items i id 0 c.place_of.ensures.rises w.in-Some.ensures.fits key in
            rw (w.self-is, is) refl
        | in_default w ↦
            let none : lookup (is_at (nat_cmp c.key_of.result)) u.streams.items ≡ None = search rules in
            let absent : lookup (is_at (nat_cmp id)) u.streams.items ≡ None = ap (λ (k : ℕ). lookup (is_at (nat_cmp k)) u.streams.items) (sym c.key_of.ensures) ∙ none in
            rw (w.self-is, set-unfound u.streams.items id 0 absent) refl
      ],
    )
