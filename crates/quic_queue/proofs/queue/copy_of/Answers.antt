use Rattle.std.proofs.Common.{rules}
use Rattle.std.proofs.lemmas.List.Elements.{same_from_all_zip}
use Rattle.quic_queue.proofs.Copies.{copied-entries, copied-filled, copied-above}
use Rattle.quic_queue.proofs.queue.copy_of.Goals as goal

pub returns-clause-shown : goal.returns-clause-shown
returns-clause-shown c = copied-entries _ _ (λ x y k. search rules) (λ v w d. same_from_all_zip _ v.items w.items d.0 (λ x y k. search rules)) (λ v w d. d.1) c.args.levels.now.entries c.in_ok-clone.field-0.entries c.in_ok-clone.ensures.cases

pub returns-clause-filled : goal.returns-clause-filled
returns-clause-filled c = copied-filled _ _ (λ x y k. search rules) (λ v w d. same_from_all_zip _ v.items w.items d.0 (λ x y k. search rules)) (λ v w d. d.1) c.args.levels.now c.in_ok-clone.field-0 c.in_ok-clone.ensures.cases

pub returns-clause-above : goal.returns-clause-above
returns-clause-above c = copied-above _ _ (λ x y k. search rules) (λ v w d. same_from_all_zip _ v.items w.items d.0 (λ x y k. search rules)) (λ v w d. d.1) c.args.levels.now c.in_ok-clone.field-0 c.in_ok-clone.ensures.cases
