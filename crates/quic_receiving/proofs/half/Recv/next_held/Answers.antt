use Rattle.std.proofs.Common.{refl, rules}
use Rattle.quic_receiving.proofs.Buffers.{rests}
use Rattle.quic_receiving.proofs.Counted.{counted-rests, counted-given}
use Rattle.quic_receiving.proofs.Sound.{sound_buffer}
use Rattle.quic_receiving.proofs.Readings.{waits, no_memory}
use Rattle.quic_receiving.proofs.half.Recv.next_held.Goals as goal
use Rattle.quic_receiving.specs.contracts.half.Recv.{the_view}

pub returns-in-Some-clause-reads : goal.returns-in-Some-clause-reads
returns-in-Some-clause-reads c =
    let e = rw c.in-Some.is at c.in_ok-chunk.ensures in
    rw (← c.self.view_is) (
      search rules,
      record {
        first = e.first;
        gives = e.given;
        here = e.here;
        limit = e.limit;
        some = e.some;
        start = λ o. e.start (search rules);
        lowest = e.lowest;
        taken = e.taken;
        done = e.done;
        bytes_read = e.moves;
        ordered = e.ordered;
        highest = e.highest;
        pieces = e.pieces;
      },
      refl,
    )

pub returns-in_err-chunk-clause-reads : goal.returns-in_err-chunk-clause-reads
returns-in_err-chunk-clause-reads c =
    let e = c.in_err-chunk.ensures in
    let old = the_view c.self.inside in
    let new = c.read.new.self in
    rw (← c.self.view_is)
    (no_memory old c.args.max_length c.from_residual.result (record old { buffer = new }) c.from_residual.ensures.1 c.args.ordered (search rules) e.err_more
    (waits old new (search rules) e.err (rests old.buffer new e.err_held e.done e.err_read e.ordered e.highest e.pieces)))

pub returns-then-is_all-clause-reads : goal.returns-then-is_all-clause-reads
returns-then-is_all-clause-reads c =
    let e = rw c.in_default.is at c.in_ok-chunk.ensures in
    let old = the_view c.self.inside in
    let new = c.read.new.self in
    rw (← c.self.view_is) (
      search rules,
      record { next = λ o. e.none (search rules); any = λ u. e.none_unordered (search rules) },
      waits old new (search rules) e.none_same (rests old.buffer new e.none_held e.done e.none_read e.ordered e.highest e.pieces),
    )

pub returns-clause-reads : goal.returns-clause-reads
returns-clause-reads c =
    let e = rw c.in_default.is at c.in_ok-chunk.ensures in
    let old = the_view c.self.inside in
    let new = c.read.new.self in
    rw (← c.self.view_is) (
      search rules,
      record { next = λ o. e.none (search rules); any = λ u. e.none_unordered (search rules) },
      waits old new (search rules) e.none_same (rests old.buffer new e.none_held e.done e.none_read e.ordered e.highest e.pieces),
    )

pub invariant_of-self : goal.invariant_of-self
invariant_of-self c =
    let e = c.in_err-chunk.ensures in
    let old = the_view c.self.inside in
    let new = c.read.new.self in
    sound_buffer old new old.stopped c.self.invariant e.highest
    (counted-rests old.buffer new (rests old.buffer new e.err_held e.done e.err_read e.ordered e.highest e.pieces) c.self.invariant.counted)

pub invariant_of-self-then-is_all : goal.invariant_of-self-then-is_all
invariant_of-self-then-is_all c =
    let e = rw c.in_default.is at c.in_ok-chunk.ensures in
    let old = the_view c.self.inside in
    let new = c.read.new.self in
    sound_buffer old new old.stopped c.self.invariant e.highest
    (counted-rests old.buffer new (rests old.buffer new e.none_held e.done e.none_read e.ordered e.highest e.pieces) c.self.invariant.counted)

pub invariant_of-self-2 : goal.invariant_of-self-2
invariant_of-self-2 c =
    let e = rw c.in_default.is at c.in_ok-chunk.ensures in
    let old = the_view c.self.inside in
    let new = c.read.new.self in
    sound_buffer old new old.stopped c.self.invariant e.highest
    (counted-rests old.buffer new (rests old.buffer new e.none_held e.done e.none_read e.ordered e.highest e.pieces) c.self.invariant.counted)

pub invariant_of-self-in-Some : goal.invariant_of-self-in-Some
invariant_of-self-in-Some c =
    let e = rw c.in-Some.is at c.in_ok-chunk.ensures in
    let old = the_view c.self.inside in
    let new = c.read.new.self in
    sound_buffer old new old.stopped c.self.invariant e.highest (counted-given old.buffer new c.args.max_length c.in-Some.chunk (record {
      first = e.first;
      gives = e.given;
      here = e.here;
      limit = e.limit;
      some = e.some;
      start = λ o. e.start (search rules);
      lowest = e.lowest;
      taken = e.taken;
      done = e.done;
      bytes_read = e.moves;
      ordered = e.ordered;
      highest = e.highest;
      pieces = e.pieces;
    }) c.self.invariant.counted)
