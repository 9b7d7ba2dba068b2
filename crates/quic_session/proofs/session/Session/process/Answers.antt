use Rattle.std.proofs.Common.{◌≡◌, ◌+◌, ◌-◌, ◌∙◌, ℕ, drop, refl, subst, arith}
use Rattle.std.proofs.lemmas.List.{take_rest, length-drop}
use Rattle.quic_session.proofs.Processed.{Processed, Stopped, behind-more, processed-none, processed-skipped, processed-run, run-accepted, run-rejected}
use Rattle.quic_session.proofs.session.Session.process.Goals as goal
use Rattle.quic_session.proofs.session.Session.process.Goals.{in-Skipped, in-Run+in_default}

same-size : (next n : ℕ) → next + n - next ≡ n
same-size next n = omega arith

pub loop-length-init : goal.loop-length-init
loop-length-init c = record { on = omega arith; within = c.requires; processed = processed-none _ _; others = (refl, refl) }

pub returns-in-Err-clause-processes : goal.returns-in-Err-clause-processes
returns-in-Err-clause-processes c =
    let payload = c.args.payload.now in
    let next = c.loop-length.next in
    let n = c.in-Run.length in
    let offset = c.offset_of-accepted.result in
    let e = rw (take_rest payload next) at c.in-Run.ensures in
    let o = rw (take_rest payload next) at c.offset_of-accepted.ensures in
    let receives = rw (same-size next n) at c.receive-received.ensures.receives in
    let stops = run-rejected c.args.self.now c.loop-length.self (drop c.args.first payload) (drop next payload) n offset e.2 c.receive-received.result c.receive-received.new.self c.in-Err.error
    e.1.1 e.0 e.3 c.loop-length.invariant.processed receives c.in-Err.is o.parts in
    record {
      on = omega (arith, c.loop-length.invariant.on);
      within = omega (arith, o.within, length-drop next payload, c.loop-length.invariant.within);
      stops = subst (λ l. Stopped c.args.self.now (drop c.args.first payload) l c.in-Err.error c.receive-received.new.self) (behind-more payload next offset) stops;
    }

pub loop-length-preserved : goal.loop-length-preserved
loop-length-preserved c =
    let payload = c.args.payload.now in
    let next = c.loop-length.next in
    let s = c.args.self.now in
    let whole = drop c.args.first payload in
    elim c.match-front_of.branch [
      | in-Skipped w ↦
          let n = w.in-Skipped.length in
          let e = rw (take_rest payload next) at w.in-Skipped.ensures in
          rw (w.length-is, w.self-is) (record {
            on = omega (arith, c.loop-length.invariant.on);
            within = omega (arith, e.0.1, length-drop next payload, c.loop-length.invariant.within);
            processed = subst (λ l. Processed s whole l c.loop-length.self) (behind-more payload next n) (processed-skipped s whole (drop next payload) (drop n (drop next payload)) c.loop-length.self c.loop-length.invariant.processed e.1);
            others = c.loop-length.invariant.others;
          })
      | in-Run+in_default w ↦
          let n = w.in-Run.length in
          let e = rw (take_rest payload next) at w.in-Run.ensures in
          let receives = rw (same-size next n) at w.receive-received.ensures.receives in
          let a = run-accepted c.loop-length.self (drop next payload) n e.2 w.receive-received.result w.receive-received.new.self e.1.1 e.3 receives w.in_default.is in
          rw (w.length-is, w.self-is) (record {
            on = omega (arith, c.loop-length.invariant.on);
            within = omega (arith, e.1.1, length-drop next payload, c.loop-length.invariant.within);
            processed = subst (λ l. Processed s whole l w.receive-received.new.self) (behind-more payload next n) (processed-run s whole (drop next payload) (drop n (drop next payload)) c.loop-length.self w.receive-received.new.self c.loop-length.invariant.processed a);
            others = (w.receive-received.ensures.others.0 ∙ c.loop-length.invariant.others.0, w.receive-received.ensures.others.1 ∙ c.loop-length.invariant.others.1);
          })
    ]
