use Rattle.std.proofs.Common.{◌<◌, length, sym, refl, rules}
use Rattle.std.proofs.lemmas.List.{take_more}
use Rattle.std.proofs.lemmas.Result.{err_from_is_err_and}
use Rattle.quic_streams.specs.Settling.{LosesMeta, RefusesLoss}
use Rattle.quic_streams.proofs.Sent.{one-more, stops-at}
use Rattle.quic_streams.proofs.state.StreamsState.lose_frames.Goals as goal

pub loop-index-init : goal.loop-index-init
loop-index-init c = refl

pub loop-index-preserved : goal.loop-index-preserved
loop-index-preserved c =
    let x = c.index-frames-index.result in
    let within : c.loop-index.index < length c.args.frames.now = search rules in
    rw (take_more c.args.frames.now c.loop-index.index x within, sym c.index-frames-index.is)
    (one-more LosesMeta _ _ _ _ x c.loop-index.invariant c.in_ok-lose_frame.ensures.ok)

pub returns-in_err-lose_frame-clause-err : goal.returns-in_err-lose_frame-clause-err
returns-in_err-lose_frame-clause-err c =
    let p = err_from_is_err_and c.from_residual.result c.from_residual.ensures.1 in
    let x = c.index-frames-index.result in
    let within : c.loop-index.index < length c.args.frames.now = search rules in
    rw p.1 (stops-at LosesMeta RefusesLoss _ _ _ c.args.frames.now c.loop-index.index _ x within c.loop-index.invariant _ c.in_err-lose_frame.ensures.err c.index-frames-index.is p.2)
