use Rattle.std.proofs.Common.{◌≡◌, ◌∙◌, ◌-◌, ◌^◌, ℕ, List, Option, Bool, true, rules, sym, subst, arith}
use Rattle.std.specs.Io.KnownBytes.{Appends}
use Rattle.streampair.specs.Session.{Answers}
use Rattle.streampair.specs.Streams.{AppendsPart, TakesFirstLine}
use Rattle.streampair.proofs.Serving.{IfErr-failed, Progress-start, Progress-line, Progress-unread, Progress-part, Progress-stop, Progress-too_many}
use Rattle.streampair.proofs.session.run.Goals as goal

pub loop-number-init : goal.loop-number-init
loop-number-init g c = rw c.requires (Progress-start (g.E.Environment.unread c.args.environment.now) (g.E.Environment.written c.args.environment.now))

pub returns-in_err-read_line-clause-stops : goal.returns-in_err-read_line-clause-stops
returns-in_err-read_line-clause-stops g c =
    let E = g.E.Environment in
    IfErr-failed c.from_residual.result _ c.from_residual.ensures.1
    (Progress-unread (E.unread c.args.environment.now) c.loop-number.number c.loop-number.session (E.unread c.loop-number.environment) (E.written c.args.environment.now) (E.written c.loop-number.environment) (E.written c.read_line.new.self) c.loop-number.invariant c.in_err-read_line.ensures.written)

pub returns-in_err-write-in-Ok-clause-stops : goal.returns-in_err-write-in-Ok-clause-stops
returns-in_err-write-in-Ok-clause-stops g c =
    let E = g.E.Environment in
    let found : c.in_ok-read_line.field-0 ≡ true = search rules in
    let takes = subst (λ (x : List ℕ). TakesFirstLine (E.unread c.loop-number.environment) x (E.unread c.read_line.new.self)) (sym c.as_slice.ensures.value) (c.in_ok-read_line.ensures.line found) in
    let answers = subst (λ (x : List ℕ). Answers c.loop-number.session c.as_slice.result.now x c.answer.new.self) (sym c.as_bytes.ensures) c.in-Ok.ensures.answers in
    let part = subst (λ (o : Option (List ℕ)). AppendsPart o (E.written c.write.new.self) c.as_bytes.result.now) c.in_ok-read_line.ensures.written c.in_err-write-in-Ok.ensures.part in
    IfErr-failed c.from_residual-in_err-write-in-Ok.result _ c.from_residual-in_err-write-in-Ok.ensures.1
    (Progress-part (E.unread c.args.environment.now) c.loop-number.number c.loop-number.session c.answer.new.self (E.unread c.loop-number.environment) (E.unread c.read_line.new.self) (E.written c.args.environment.now) (E.written c.loop-number.environment) (E.written c.write.new.self) c.as_slice.result.now c.as_bytes.result.now
    c.loop-number.invariant takes c.in-Ok.ensures.ascii answers part)

pub returns-in-Err-clause-stops : goal.returns-in-Err-clause-stops
returns-in-Err-clause-stops g c =
    let E = g.E.Environment in
    let found : c.in_ok-read_line.field-0 ≡ true = search rules in
    let takes = subst (λ (x : List ℕ). TakesFirstLine (E.unread c.loop-number.environment) x (E.unread c.read_line.new.self)) (sym c.as_slice.ensures.value) (c.in_ok-read_line.ensures.line found) in
    Progress-stop (E.unread c.args.environment.now) c.loop-number.number c.loop-number.session (E.unread c.loop-number.environment) (E.unread c.read_line.new.self) (E.written c.args.environment.now) (E.written c.loop-number.environment) (E.written c.note.new.environment) c.as_slice.result.now c.in-Err.stop
    c.loop-number.invariant takes (c.note.ensures.written ∙ c.in_ok-read_line.ensures.written) c.in-Err.ensures.stops

pub loop-number-preserved : goal.loop-number-preserved
loop-number-preserved g c =
    let E = g.E.Environment in
    let found : c.in_ok-read_line.field-0 ≡ true = search rules in
    let takes = subst (λ (x : List ℕ). TakesFirstLine (E.unread c.loop-number.environment) x (E.unread c.read_line.new.self)) (sym c.as_slice.ensures.value) (c.in_ok-read_line.ensures.line found) in
    let answers = subst (λ (x : List ℕ). Answers c.loop-number.session c.as_slice.result.now x c.answer.new.self) (sym c.as_bytes.ensures) c.in-Ok.ensures.answers in
    let whole = subst (λ (o : Option (List ℕ)). Appends o (E.written c.write.new.self) c.as_bytes.result.now) c.in_ok-read_line.ensures.written c.in_ok-write-in-Ok.ensures.whole in
    Progress-line (E.unread c.args.environment.now) c.loop-number.number c.loop-number.session c.answer.new.self (E.unread c.loop-number.environment) (E.unread c.read_line.new.self) (E.unread c.write.new.self) (E.written c.args.environment.now) (E.written c.loop-number.environment) (E.written c.write.new.self) c.as_slice.result.now c.as_bytes.result.now
    c.loop-number.invariant takes c.in_ok-write-in-Ok.ensures.unread c.in-Ok.ensures.ascii answers whole

pub returns-clause-stops : goal.returns-clause-stops
returns-clause-stops g c =
    let E = g.E.Environment in
    let end : c.loop-number.number ≡ 2 ^ 64 - 1 = search rules in
    Progress-too_many (E.unread c.args.environment.now) c.loop-number.number c.loop-number.session (E.unread c.loop-number.environment) (E.written c.args.environment.now) (E.written c.loop-number.environment) c.loop-number.invariant end
