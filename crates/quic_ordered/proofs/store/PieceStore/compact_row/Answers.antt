use Rattle.std.proofs.Common.{subst}
use Rattle.std.specs.List.{All}
use Rattle.std.specs.Map.{values_of}
use Rattle.quic_ordered.specs.Rows.{LieWithGaps, IsTidy}
use Rattle.quic_ordered.proofs.Compacting.{order_gathered_front, kept_gathered_front}
use Rattle.quic_ordered.proofs.Firsts.{on_ok}
use Rattle.quic_ordered.proofs.Keeping.{gathered_kept, same_behind, length_behind, store_behind, only_out}
use Rattle.quic_ordered.proofs.Order.{order_behind}
use Rattle.quic_ordered.proofs.store.PieceStore.compact_row.Goals as goal

pub invariant_of-self-2 : goal.invariant_of-self-2
invariant_of-self-2 c =
    let g = c.join_touching-joined.ensures.gathered c.gather.new.row.runs (gathered_kept c.gather.new.row.runs c.split_off.new.self.runs c.in_ok-rest.rest.runs c.count_tidy-kept.result (order_behind 0 (values_of c.gather.new.gaps) c.gather.new.row.runs c.in_ok-gather.ensures.store.order) c.in_ok-rest.ensures.front c.in_ok-rest.ensures.rest c.count_tidy-kept.ensures.apart c.count_tidy-kept.ensures.tidy) in
    store_behind c.gather.new.gaps c.gather.new.row.runs c.join_touching-joined.new.row.runs c.join_touching-joined.new.out.runs c.put_behind.new.row.runs c.in_ok-gather.ensures.store c.in_ok-gather.ensures.empty g c.put_behind.ensures

pub returns-clause-same : goal.returns-clause-same
returns-clause-same c =
    let g = c.join_touching-joined.ensures.gathered c.gather.new.row.runs (gathered_kept c.gather.new.row.runs c.split_off.new.self.runs c.in_ok-rest.rest.runs c.count_tidy-kept.result (order_behind 0 (values_of c.gather.new.gaps) c.gather.new.row.runs c.in_ok-gather.ensures.store.order) c.in_ok-rest.ensures.front c.in_ok-rest.ensures.rest c.count_tidy-kept.ensures.apart c.count_tidy-kept.ensures.tidy) in
    rw (← c.self.view_is, ← c.in_ok-gather.ensures.same) (same_behind c.gather.new.gaps c.gather.new.row.runs c.join_touching-joined.new.row.runs c.join_touching-joined.new.out.runs c.put_behind.new.row.runs c.in_ok-gather.ensures.empty g c.put_behind.ensures)

pub returns-clause-order : goal.returns-clause-order
returns-clause-order c =
    let g = c.join_touching-joined.ensures.gathered c.gather.new.row.runs (gathered_kept c.gather.new.row.runs c.split_off.new.self.runs c.in_ok-rest.rest.runs c.count_tidy-kept.result (order_behind 0 (values_of c.gather.new.gaps) c.gather.new.row.runs c.in_ok-gather.ensures.store.order) c.in_ok-rest.ensures.front c.in_ok-rest.ensures.rest c.count_tidy-kept.ensures.apart c.count_tidy-kept.ensures.tidy) in
    rw (← c.self.view_is, ← c.in_ok-gather.ensures.same) (λ low h. order_gathered_front low c.gather.new.gaps c.gather.new.row.runs c.join_touching-joined.new.row.runs c.join_touching-joined.new.out.runs c.put_behind.new.row.runs h c.in_ok-gather.ensures.empty g c.put_behind.ensures)

pub returns-clause-pieces : goal.returns-clause-pieces
returns-clause-pieces c =
    let g = c.join_touching-joined.ensures.gathered c.gather.new.row.runs (gathered_kept c.gather.new.row.runs c.split_off.new.self.runs c.in_ok-rest.rest.runs c.count_tidy-kept.result (order_behind 0 (values_of c.gather.new.gaps) c.gather.new.row.runs c.in_ok-gather.ensures.store.order) c.in_ok-rest.ensures.front c.in_ok-rest.ensures.rest c.count_tidy-kept.ensures.apart c.count_tidy-kept.ensures.tidy) in
    rw (← c.self.view_is, ← c.in_ok-gather.ensures.same) (length_behind c.gather.new.gaps c.gather.new.row.runs c.join_touching-joined.new.row.runs c.join_touching-joined.new.out.runs c.put_behind.new.row.runs c.in_ok-gather.ensures.empty g c.put_behind.ensures)

pub returns-clause-apart : goal.returns-clause-apart
returns-clause-apart c =
    let g = c.join_touching-joined.ensures.gathered c.gather.new.row.runs (gathered_kept c.gather.new.row.runs c.split_off.new.self.runs c.in_ok-rest.rest.runs c.count_tidy-kept.result (order_behind 0 (values_of c.gather.new.gaps) c.gather.new.row.runs c.in_ok-gather.ensures.store.order) c.in_ok-rest.ensures.front c.in_ok-rest.ensures.rest c.count_tidy-kept.ensures.apart c.count_tidy-kept.ensures.tidy) in
    on_ok c.join_touching-joined.result c.join_touching-joined.ensures.all (λ none. subst (LieWithGaps 0) (only_out c.gather.new.gaps c.join_touching-joined.new.row.runs c.join_touching-joined.new.out.runs c.put_behind.new.row.runs c.in_ok-gather.ensures.empty none c.put_behind.ensures) g.apart)

pub returns-clause-tidy : goal.returns-clause-tidy
returns-clause-tidy c =
    let g = c.join_touching-joined.ensures.gathered c.gather.new.row.runs (gathered_kept c.gather.new.row.runs c.split_off.new.self.runs c.in_ok-rest.rest.runs c.count_tidy-kept.result (order_behind 0 (values_of c.gather.new.gaps) c.gather.new.row.runs c.in_ok-gather.ensures.store.order) c.in_ok-rest.ensures.front c.in_ok-rest.ensures.rest c.count_tidy-kept.ensures.apart c.count_tidy-kept.ensures.tidy) in
    on_ok c.join_touching-joined.result c.join_touching-joined.ensures.all (λ none. subst (All IsTidy) (only_out c.gather.new.gaps c.join_touching-joined.new.row.runs c.join_touching-joined.new.out.runs c.put_behind.new.row.runs c.in_ok-gather.ensures.empty none c.put_behind.ensures) g.tidy)

pub returns-clause-memory : goal.returns-clause-memory
returns-clause-memory c =
    let g = c.join_touching-joined.ensures.gathered c.gather.new.row.runs (gathered_kept c.gather.new.row.runs c.split_off.new.self.runs c.in_ok-rest.rest.runs c.count_tidy-kept.result (order_behind 0 (values_of c.gather.new.gaps) c.gather.new.row.runs c.in_ok-gather.ensures.store.order) c.in_ok-rest.ensures.front c.in_ok-rest.ensures.rest c.count_tidy-kept.ensures.apart c.count_tidy-kept.ensures.tidy) in
    rw (← c.self.view_is, ← c.in_ok-gather.ensures.same) (kept_gathered_front c.gather.new.gaps c.gather.new.row.runs c.join_touching-joined.new.row.runs c.join_touching-joined.new.out.runs c.put_behind.new.row.runs c.in_ok-gather.ensures.empty g c.put_behind.ensures)
