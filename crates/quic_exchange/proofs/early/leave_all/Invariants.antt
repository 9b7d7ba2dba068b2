use Rattle.std.proofs.Common.{◌≡◌, ℕ, ◌<◌, length, Some}
use Rattle.std.specs.Prelude.{slice_get}
use Rattle.quic_exchange.specs.declared.sent.Note.{Note}
use Rattle.quic_exchange.specs.Notes.{HasLeftNetwork}
use Rattle.quic_exchange.proofs.early.leave_all.Given as goal

abbrev pub invariant-loop-index : goal.invariant-loop-index
invariant-loop-index l = record {
  size : length l.sent.items ≡ length l.fn.sent.items;
  each : (number : ℕ) (n : Note) → number < l.index → slice_get l.sent.items number ≡ Some n → HasLeftNetwork n;
}
