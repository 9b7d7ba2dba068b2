use Rattle.std.proofs.Common.{◌++◌, List, ℕ, ◌∙◌, subst}
use Rattle.std.specs.Prelude.{codes, Option}
use Rattle.std.specs.Fmt.{decimal}
use Rattle.std.specs.Io.KnownBytes.{Appends}
use Rattle.streampair.specs.Streams.{AppendsPart}
use Rattle.streampair.proofs.Serving.{OnErr-always, part_of_longer, part_behind, last_part}
use Rattle.streampair.proofs.session.write_malformed.Goals as goal

pub returns-in_err-write-clause-part : goal.returns-in_err-write-clause-part
returns-in_err-write-clause-part g c =
    let E = g.E.Environment in
    OnErr-always c.from_residual.result _ (part_of_longer (E.written c.args.environment.now) (E.written c.write.new.self) (codes "malformed ") (decimal c.args.number ++ codes "\n") c.in_err-write.ensures.part)

pub returns-in_err-write-2-clause-part : goal.returns-in_err-write-2-clause-part
returns-in_err-write-2-clause-part g c =
    let E = g.E.Environment in
    let part = subst (λ (t : List ℕ). AppendsPart (E.written c.write.new.self) (E.written c.write-2.new.self) t) (c.as_bytes.ensures.value ∙ c.format.ensures.text) c.in_err-write-2.ensures.part in
    OnErr-always c.from_residual-in_err-write-2.result _
    (part_behind (E.written c.args.environment.now) (E.written c.write.new.self) (E.written c.write-2.new.self) (codes "malformed ") (decimal c.args.number ++ codes "\n") c.in_ok-write.ensures.whole
    (part_of_longer (E.written c.write.new.self) (E.written c.write-2.new.self) (decimal c.args.number) (codes "\n") part))

pub returns-clause-part : goal.returns-clause-part
returns-clause-part g c =
    let E = g.E.Environment in
    let digits = subst (λ (t : List ℕ). Appends (E.written c.write.new.self) (E.written c.write-2.new.self) t) (c.as_bytes.ensures.value ∙ c.format.ensures.text) c.in_ok-write-2.ensures.whole in
    last_part c.write-3.result (E.written c.args.environment.now) (E.written c.write.new.self) (E.written c.write-2.new.self) (E.written c.write-3.new.self) (codes "malformed ") (decimal c.args.number) (codes "\n") c.in_ok-write.ensures.whole digits c.write-3.ensures.part
