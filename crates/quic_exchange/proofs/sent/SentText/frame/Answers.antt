use Rattle.std.proofs.Common.{◌∙◌}
use Rattle.std.proofs.lemmas.Result.{err_from_is_err_and}
use Rattle.quic_exchange.specs.Payloads.{AreFreshMarks}
use Rattle.quic_exchange.proofs.Texts.{lacks-past, length-within-at, ready-so}
use Rattle.quic_exchange.proofs.sent.SentText.frame.Goals as goal

pub returns-in_err-frame-clause-none : goal.returns-in_err-frame-clause-none
returns-in_err-frame-clause-none c e =
    let p = err_from_is_err_and c.from_residual-in_err-frame.result c.from_residual-in_err-frame.ensures.1 in
    let is = p.1 in
    let same = p.2 in
    let read = rw c.deref.ensures.value at c.in_ok-read_once.ensures.read in
    let past = rw c.deref-2.ensures.value at (c.in_err-frame.ensures.none cc) in
    rw (← c.self.view_is) (lacks-past _ _ read c.args.index past)

pub returns-clause-within : goal.returns-clause-within
returns-clause-within c =
    let read = rw c.deref.ensures.value at c.in_ok-read_once.ensures.read in
    let at = rw c.deref-2.ensures.value at c.in_ok-frame.ensures.found in
    rw (← c.self.view_is) (length-within-at _ _ read c.args.index c.in_ok-frame.frame at)

pub returns-clause-marks : goal.returns-clause-marks
returns-clause-marks c =
    let read = rw c.deref.ensures.value at c.in_ok-read_once.ensures.read in
    let at = rw c.deref-2.ensures.value at c.in_ok-frame.ensures.found in
    let count = c.len.ensures ∙ c.read_once.new.frames.ok.0 in
    let made : AreFreshMarks c.deref-3.result.now c.len.result c.in_ok-marks.marks = c.in_ok-marks.ensures in
    let fresh = rw (c.deref-3.ensures.value, count) at made in
    rw (← c.self.view_is) (ready-so _ _ read _ c.args.index c.in_ok-frame.frame c.in_ok-marks.marks at c.self.invariant.marks fresh)
