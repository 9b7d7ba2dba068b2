use Rattle.std.proofs.Common.{arith, sym, ◌∙◌, Bool, true, ◌≡◌}
use Rattle.std.specs.Prelude.{not}
use Rattle.std.proofs.lemmas.Bool.Decides.{nat_tests}
use Rattle.quic_ordered.proofs.Assembling.{next_of, none_here, none_at_all}
use Rattle.quic_ordered.proofs.assembly.Assembler.has_next.Goals as goal

two : (b : Bool) → not b ≡ true → b ≡ true → ⊥
two b e f = cc

pub returns-then-not-ordered-clause-yes : goal.returns-then-not-ordered-clause-yes
returns-then-not-ordered-clause-yes c = λ t.
    let f = c.in-Some.ensures.first in
    rw (← c.self.view_is) (f.0, f.1, f.2, next_of _ f.0 f.1 c.len-count.ensures.order f.2 (λ e. absurd (two c.args.ordered t (c.requires ∙ (rw (← c.self.view_is) e)))))

pub returns-else-not-ordered-clause-no : goal.returns-else-not-ordered-clause-no
returns-else-not-ordered-clause-no c = λ t e.
    let f = c.in-Some.ensures.first in
    rw (← c.self.view_is) (none_here _ f.0 f.1 c.len-count.ensures.order f.2 (c.self.invariant.above (sym (rw (← c.self.view_is) at c.requires) ∙ e)) (λ s. grind (arith, nat_tests)))

pub returns-in-None-clause-no : goal.returns-in-None-clause-no
returns-in-None-clause-no c = λ t e. rw (← c.self.view_is) (none_at_all _ c.in-None.ensures.none _)
