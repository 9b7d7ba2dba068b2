use Rattle.std.proofs.Common.{arith, ◌≡◌, ◌≤◌, ℕ, true}
use Rattle.std.specs.Prelude.{nat_le}
use Rattle.std.proofs.lemmas.Bool.Decides.{nat_tests}
use Rattle.quic_ordered.proofs.Clear.{row_from}
use Rattle.quic_ordered.proofs.store.is_clear.Goals as goal

le_of_test : (a b : ℕ) → nat_le a b ≡ true → a ≤ b
le_of_test a b h = grind (arith, nat_tests)

pub returns-in-Some : goal.returns-in-Some
returns-in-Some c = λ t.
    let s = c.in-Some.ensures.some in
    let le = le_of_test c.end.result c.in-Some.first t in
    row_from c.args.gaps.now _ s.1 s.0 _ c.requires s.2 (omega (arith, le, s.3, c.end.ensures.value))
