use Rattle.std.proofs.Common.{◌≡◌, ◌∙◌, ℕ, List, [], sym, ap, arith}
use Rattle.std.specs.Prelude.{slice_get}
use Rattle.std.proofs.lemmas.Option.{none-some}
use Rattle.quic_exchange.specs.declared.sent.Note.{Note}
use Rattle.quic_pair.proofs.ends.Ends.new.Goals as goal

pub returns-clause-sound : goal.returns-clause-sound
returns-clause-sound c =
    let x = c.in_ok-session_with.ensures in
    let y = c.in_ok-session_with-2.ensures in
    let empty : c.new.result.items ≡ [] = c.new.ensures.items in
    let first = x.token in
    let second = y.token in
    record {
      open_ends = (x.open_end, y.open_end);
      below = λ i n t is tok. absurd (none-some n (sym (ap (λ (l : List Note). slice_get l i) empty) ∙ is));
      apart = λ i j m n t is_m is_n w tok_m tok_n. absurd (none-some m (sym (ap (λ (l : List Note). slice_get l i) empty) ∙ is_m));
      few = (omega (arith, first), omega (arith, second));
      limits = c.requires.limits;
    }
