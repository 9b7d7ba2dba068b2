use Rattle.std.proofs.Common.{◌≤◌, cond}
use Rattle.std.specs.Prelude.{◌==◌}
use Rattle.std.specs.HashSet.{contains, spare}
use Rattle.quic_retransmits.proofs.Sets.{OnOk-here, fits}
use Rattle.quic_retransmits.proofs.id_table.IdTable.insert_reserved.Goals as goal

pub returns-in-Some-clause-set : goal.returns-in-Some-clause-set
returns-in-Some-clause-set c =
    let room : 1 ≤ cond (contains ◌==◌ c.deref_mut.result.now c.args.id) 1 (spare c.deref_mut.result.now) = rw c.deref_mut.ensures.value (rw c.in-Some.is at c.requires) in
    let here = OnOk-here c.insert.result (fits c.insert.result _ _ room c.insert.ensures.succeeds c.insert.ensures.absent) c.insert.ensures.updates in
    λ q. rw (c.in-Some.is, ← c.deref_mut.ensures.value) (here.0 q)
