use Rattle.std.proofs.Common.{arith, ◌≡◌, ◌≤◌, ℕ, true}
use Rattle.std.specs.Prelude.{nat_le}
use Rattle.std.proofs.lemmas.Bool.Decides.{nat_tests}
use Rattle.quic_ordered.proofs.Stores.{all_end_row, all_end_map}
use Rattle.quic_ordered.proofs.store.PieceStore.is_behind.Goals as goal

le_of_test : (a b : ℕ) → nat_le a b ≡ true → a ≤ b
le_of_test a b h = grind (arith, nat_tests)

pub returns-in-Some : goal.returns-in-Some
returns-in-Some c = λ t.
    let s = c.in-Some.ensures.some in
    let le = le_of_test c.in-Some.end c.args.offset t in
    rw (← c.self.view_is) (all_end_row _ _ s.0 s.1 c.args.offset c.self.invariant.order s.2 (omega (arith, le, s.3)))

pub returns-in-Some-last_end : goal.returns-in-Some-last_end
returns-in-Some-last_end c = λ t.
    let s = c.in-Some-last_end.ensures.some in
    let le = le_of_test c.in-Some-last_end.end c.args.offset t in
    rw (← c.self.view_is) (all_end_map _ s.0 _ s.1 s.2 c.args.offset c.self.invariant.order c.in-None.ensures.none s.3 (omega (arith, le, s.4)))
