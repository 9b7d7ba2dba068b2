use Rattle.std.proofs.Common.{◌≡◌, ◌-◌, ℕ, List, length, Some}
use Rattle.std.specs.Prelude.{slice_get}
use Rattle.quic_retransmits.proofs.Lasts.{split_last}
use Rattle.quic_retransmits.proofs.retransmits.Retransmits.next_reset.Goals as goal

pub returns-in-Some : goal.returns-in-Some
returns-in-Some c =
    let xs : List (ℕ × ℕ) = c.args.self.now.reset_stream.items in
    let x : ℕ × ℕ = c.in-Some.last.now in
    let e : Some x ≡ slice_get xs (length xs - 1) = rw (← c.deref.ensures.value) c.in-Some.ensures.value in
    split_last xs x e
