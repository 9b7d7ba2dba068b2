use Rattle.std.proofs.Common.{arith, refl, sym, ◌++◌, option_to_list, append_assoc, []}
use Rattle.std.proofs.lemmas.List.{append-nil}
use Rattle.std.proofs.lemmas.Result.{err_from_is_err_and}
use Rattle.quic_assembler.specs.Steps.{body_of}
use Rattle.quic_assembler.proofs.Replays.{replays_push, known_step, known_start, replay_end, replay_refused, refused_memory, refused_by_call, gives_by_read, if_some, take_next}
use Rattle.quic_assembler.proofs.steps.replay.Goals as goal

pub returns-in_err-make_room : goal.returns-in_err-make_room
returns-in_err-make_room g c =
    let inv = c.loop-op.invariant in
    let p = err_from_is_err_and c.from_residual.result c.from_residual.ensures.1 in
    rw (p.1, p.2) (replay_refused _ _ _ _ _ _ _ _ _ inv.given c.op-item.result _ c.loop-op-test.true c.op-item.is (rw c.make_room.ensures.items inv.added) inv.steps inv.known c.requires.ordered c.requires.fresh (refused_memory (body_of g.R.Reassemble.holds g.R.Reassemble.is_done g.R.Reassemble.read_count g.R.Reassemble.is_ordered g.R.Reassemble.highest g.R.Reassemble.piece_count g.R.Reassemble.inserts g.R.Reassemble.reads g.R.Reassemble.orders) _ c.op-item.result _ c.in_err-make_room.ensures.full.0 (omega (arith, c.in_err-make_room.ensures.full.1, c.make_room.ensures.room, inv.room))))

pub keep-requires : goal.keep-requires
keep-requires g c =
    if_some c.in_ok-chunk.chunk (gives_by_read (body_of g.R.Reassemble.holds g.R.Reassemble.is_done g.R.Reassemble.read_count g.R.Reassemble.is_ordered g.R.Reassemble.highest g.R.Reassemble.piece_count g.R.Reassemble.inserts g.R.Reassemble.reads g.R.Reassemble.orders) c.op-item.result _ _ c.in_ok-chunk.chunk c.in_ok-chunk.ensures.ok) c.in_ok-make_room.ensures.ok

pub returns-in_err-chunk : goal.returns-in_err-chunk
returns-in_err-chunk g c =
    let inv = c.loop-op.invariant in
    let p = err_from_is_err_and c.from_residual-in_err-chunk.result c.from_residual-in_err-chunk.ensures.1 in
    rw (p.1, p.2) (replay_refused _ _ _ _ _ _ _ _ _ inv.given c.op-item.result _ c.loop-op-test.true c.op-item.is (rw c.make_room.ensures.items inv.added) inv.steps inv.known c.requires.ordered c.requires.fresh (refused_by_call (body_of g.R.Reassemble.holds g.R.Reassemble.is_done g.R.Reassemble.read_count g.R.Reassemble.is_ordered g.R.Reassemble.highest g.R.Reassemble.piece_count g.R.Reassemble.inserts g.R.Reassemble.reads g.R.Reassemble.orders) _ c.op-item.result _ _ _ c.in_err-chunk.ensures.err))

pub loop-op-init : goal.loop-op-init
loop-op-init g c = record {
  given = [];
  added = rw append-nil refl;
  steps = (refl, refl);
  known = known_start _ c.requires.empty;
  room = omega arith;
  mode = sym c.requires.ordered;
}

pub loop-op-preserved : goal.loop-op-preserved
loop-op-preserved g c =
    let inv = c.loop-op.invariant in
    let next = take_next c.args.ops.now c.loop-op.op-index c.op-item.result c.loop-op-test.true c.op-item.is in
    record {
      given = inv.given ++ option_to_list c.in_ok-chunk.chunk;
      added = rw (c.keep.ensures.kept, c.make_room.ensures.items, inv.added, append_assoc) refl;
      steps = rw next (replays_push (body_of g.R.Reassemble.holds g.R.Reassemble.is_done g.R.Reassemble.read_count g.R.Reassemble.is_ordered g.R.Reassemble.highest g.R.Reassemble.piece_count g.R.Reassemble.inserts g.R.Reassemble.reads g.R.Reassemble.orders) _ c.op-item.result _ _ _ _ _ inv.steps c.in_ok-chunk.ensures.ok);
      known = rw next (known_step (body_of g.R.Reassemble.holds g.R.Reassemble.is_done g.R.Reassemble.read_count g.R.Reassemble.is_ordered g.R.Reassemble.highest g.R.Reassemble.piece_count g.R.Reassemble.inserts g.R.Reassemble.reads g.R.Reassemble.orders) g.met.R.Reassemble.done_below _ c.op-item.result _ _ c.loop-op.r c.take_step.new.r inv.known c.in_ok-chunk.ensures.ok);
      room = omega (arith, c.keep.ensures.room, c.make_room.ensures.room, inv.room);
      mode = c.in_ok-chunk.ensures.mode;
    }

pub returns : goal.returns
returns g c =
    let inv = c.loop-op.invariant in
    replay_end _ _ _ _ _ _ _ _ inv.given c.loop-op-test.false (omega arith) inv.added inv.steps inv.known c.requires.ordered c.requires.fresh
