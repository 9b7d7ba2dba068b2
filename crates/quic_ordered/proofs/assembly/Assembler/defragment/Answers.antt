use Rattle.std.proofs.Common.{refl, arith}
use Rattle.std.specs.Prelude.{Result, Ok, Err, OnOk, OnErr}
use Rattle.quic_assembler.proofs.Whole.{assembler_less, same_but_held, offsets_of_same}
use Rattle.quic_ordered.proofs.Assembling.{count_same, holds_same, holds_once, forms_runs}
use Rattle.quic_ordered.proofs.assembly.Assembler.defragment.Goals as goal

on_ok : {T E A B : Type 0} (r : Result T E) → OnOk r A → (A → B) → OnOk r B
on_ok (Ok x) h f = f h
on_ok (Err e) h f = tt

on_err : {T E A : Type 0} (r : Result T E) → A → OnErr r A
on_err (Ok x) a = tt
on_err (Err e) a = a

pub invariant_of-self : goal.invariant_of-self
invariant_of-self c = record {
  whole = assembler_less _ _ _ _ _ c.self.invariant.whole (λ at. omega (arith, count_same _ _ c.len-count.ensures.order (c.compact.ensures.order 0 c.len-count.ensures.order) c.compact.ensures.same at));
  above = λ e. c.compact.ensures.order _ (c.self.invariant.above e);
}

pub returns-clause-held : goal.returns-clause-held
returns-clause-held c = rw (← c.self.view_is) (offsets_of_same _ _ (holds_same _ _ refl c.compact.ensures.same))

pub returns-clause-same : goal.returns-clause-same
returns-clause-same c = rw (← c.self.view_is) (holds_same _ _ refl c.compact.ensures.same)

pub returns-clause-err : goal.returns-clause-err
returns-clause-err c = rw (← c.self.view_is) (on_err c.compact.result (holds_same _ _ refl c.compact.ensures.same))

pub returns-clause-once : goal.returns-clause-once
returns-clause-once c = on_ok c.compact.result c.compact.ensures.apart (λ h. holds_once _ h)

pub returns-clause-others : goal.returns-clause-others
returns-clause-others c = rw (← c.self.view_is) (same_but_held _ _ refl refl refl refl)

pub returns-clause-runs : goal.returns-clause-runs
returns-clause-runs c = on_ok c.compact.result c.compact.ensures.apart (λ h n many. forms_runs _ n h (λ e. c.compact.ensures.order _ (c.self.invariant.above e)) many)
