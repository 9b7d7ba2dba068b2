use Rattle.std.proofs.Common.{arith, rules, ◌≡◌, None, ap, ◌∙◌}
use Rattle.std.specs.Map.{lookup}
use Rattle.std.specs.BTreeMap.{is_at}
use Rattle.std.specs.Ordering.{nat_cmp}
use Rattle.quic_session.specs.Marks.{mark_count}
use Rattle.quic_session.proofs.Marks.{adds-one}
use Rattle.quic_session.proofs.tracked.Tracked.add.Goals as goal

pub invariant_of-self : goal.invariant_of-self
invariant_of-self c =
    let u = c.args.self.now in
    let absent : lookup (is_at (nat_cmp c.key_of-key.result)) u.streams.items ≡ None = search rules in
    let adds = adds-one u.streams.items c.key_of-key.result absent in
    let is = c.insert.ensures.items in
    let count = ap mark_count is ∙ adds.count in
    let long = adds.length in
    let room = (u.prepared (search rules)).1 in
    record {
      marked = omega (arith, u.marked, count);
      places = rw is (omega (arith, long, room));
      prepared = search rules;
    }
