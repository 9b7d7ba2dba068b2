use Rattle.std.proofs.Common.{arith, rules, ◌≡◌, Some, None, ap, ◌∙◌, ℕ, Option, List}
use Rattle.std.specs.Prelude.{is_some}
use Rattle.std.specs.Map.{lookup}
use Rattle.std.specs.BTreeMap.{is_at}
use Rattle.std.specs.Ordering.{nat_cmp}
use Rattle.block_map.specs.Sorted.{KeyAndValue}
use Rattle.quic_session.specs.Marks.{mark_count}
use Rattle.quic_session.specs.Users.{at}
use Rattle.quic_session.proofs.Marks.{takes-one, gone}
use Rattle.quic_session.proofs.tracked.Tracked.remove.Goals as goal

pub invariant_of-self : goal.invariant_of-self
invariant_of-self c =
    let u = c.args.self.now in
    let unmarked : lookup (is_at (nat_cmp c.key_of-key.result)) u.streams.items ≡ Some 0 = search rules in
    let takes = takes-one u.streams.items c.key_of-key.result unmarked in
    let is = c.remove.ensures.items in
    let count = ap mark_count is ∙ takes.count in
    let long = takes.length in
    record {
      marked = omega (arith, u.marked, count);
      places = rw is (omega (arith, long, u.places));
      prepared = search rules;
    }

pub returns-clause-gone : goal.returns-clause-gone
returns-clause-gone c =
    let u = c.args.self.now in
    let key = c.key_of-key.ensures in
    let none : at c.remove.new.self.items c.key_of-key.result ≡ None
    = ap (λ (es : List KeyAndValue). at es c.key_of-key.result) c.remove.ensures.items ∙ gone u.streams.items c.key_of-key.result c.len-count.ensures.rises in
    let none_of : at c.remove.new.self.items c.args.id ≡ None = rw key at none in
    ap (λ (o : Option ℕ). is_some o) none_of
