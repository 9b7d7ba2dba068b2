use Rattle.quic_ordered.proofs.Firsts.{on_ok}
use Rattle.quic_ordered.proofs.Sweeping.{no_row, map_order, compacted_same, compacted_order, compacted_store, compacted_kept, compacted_apart, compacted_tidy}
use Rattle.quic_ordered.proofs.store.PieceStore.compact_map.Goals as goal

pub compact-requires-clause-order : goal.compact-requires-clause-order
compact-requires-clause-order c = map_order c.clear_way.new.gaps c.clear_way.new.row.runs c.in_ok-clear_way.ensures.store

pub invariant_of-self-2 : goal.invariant_of-self-2
invariant_of-self-2 c =
    let none = no_row c.clear_way.new.row.runs c.in_ok-clear_way.ensures.clear c.len-count.ensures.fits in
    compacted_store c.clear_way.new.gaps c.compact.new.pieces c.clear_way.new.row.runs none c.compact.ensures.compacted c.compact.ensures.rises c.in_ok-clear_way.ensures.store

pub returns-clause-same : goal.returns-clause-same
returns-clause-same c =
    let none = no_row c.clear_way.new.row.runs c.in_ok-clear_way.ensures.clear c.len-count.ensures.fits in
    rw (← c.self.view_is, ← c.in_ok-clear_way.ensures.same) (compacted_same c.clear_way.new.gaps c.compact.new.pieces c.clear_way.new.row.runs none c.compact.ensures.compacted)

pub returns-clause-order : goal.returns-clause-order
returns-clause-order c =
    let none = no_row c.clear_way.new.row.runs c.in_ok-clear_way.ensures.clear c.len-count.ensures.fits in
    rw (← c.self.view_is, ← c.in_ok-clear_way.ensures.same)
    (λ low h. compacted_order low c.clear_way.new.gaps c.compact.new.pieces c.clear_way.new.row.runs none c.compact.ensures.compacted h)

pub returns-clause-apart : goal.returns-clause-apart
returns-clause-apart c =
    let none = no_row c.clear_way.new.row.runs c.in_ok-clear_way.ensures.clear c.len-count.ensures.fits in
    on_ok c.compact.result c.compact.ensures.apart (λ h. compacted_apart c.compact.new.pieces c.clear_way.new.row.runs none h)

pub returns-clause-tidy : goal.returns-clause-tidy
returns-clause-tidy c =
    let none = no_row c.clear_way.new.row.runs c.in_ok-clear_way.ensures.clear c.len-count.ensures.fits in
    on_ok c.compact.result c.compact.ensures.tidy (λ h. compacted_tidy c.compact.new.pieces c.clear_way.new.row.runs none h)

pub returns-clause-memory : goal.returns-clause-memory
returns-clause-memory c =
    let none = no_row c.clear_way.new.row.runs c.in_ok-clear_way.ensures.clear c.len-count.ensures.fits in
    rw (← c.self.view_is, ← c.in_ok-clear_way.ensures.same) (compacted_kept c.clear_way.new.gaps c.compact.new.pieces c.clear_way.new.row.runs none c.compact.ensures.compacted)
