use Rattle.std.proofs.Common.{rules, ◌≡◌, ◌∙◌, None, ℤ, List, sym, ap, w32, to_z, of_z}
use Rattle.quic_queue.specs.declared.queue.Entry.{Entry}
use Rattle.quic_queue.specs.Levels.{IsFilled, IsAbove, entries_of}
use Rattle.quic_queue.proofs.Lines.{some_is}
use Rattle.quic_queue.proofs.Tops.{kept_in_copy, same_or, same_waiting}
use Rattle.quic_queue.proofs.queue.SendQueue.copy.Goals as goal
use Rattle.quic_queue.proofs.queue.SendQueue.copy.Goals.{in-Some, in_default}

pub invariant_of-result : goal.invariant_of-result
invariant_of-result c =
    let a = c.self.inside in
    let tp = a.top.priority in
    let whole : to_z w32 (of_z w32 tp) ≡ tp = search rules in
    let inv = c.self.invariant in
    let still = c.in_ok-lower.ensures.above tp inv.above in
    let filled = c.in_ok-lower.ensures.filled in
    let above : IsAbove tp c.match-self.lower = elim c.match-self.branch [
      | in-Some w ↦ rw w.lower-is (w.drop_if_empty.ensures.above tp still)
      | in_default w ↦ rw w.lower-is still
    ] in
    let all : (p : ℤ) → IsFilled c.match-self.lower p = elim c.match-self.branch [
      | in-Some w ↦
          let q = w.in-Some.priority in
          let whole : to_z w32 (of_z w32 q) ≡ q = search rules in
          let others = rw whole at w.drop_if_empty.ensures.others in
          let gone = rw whole at w.drop_if_empty.ensures.filled in
          rw w.lower-is (λ p. same_or q p (λ is. rw is gone) (λ ne. rw (others p ne) (filled p (inv.filled p (λ e. ne (sym (some_is q p (sym w.in-Some.is ∙ e))))))))
      | in_default w ↦ rw w.lower-is (λ p. filled p (inv.filled p (w.in_default.not-Some p)))
    ] in
    rw whole (kept_in_copy (record { priority = tp; ids = c.in_ok-ids.ids }) c.match-self.lower above all)

pub returns : goal.returns
returns c =
    let a = c.self.inside in
    let tp = a.top.priority in
    let whole : to_z w32 (of_z w32 tp) ≡ tp = search rules in
    let same : entries_of c.match-self.lower.entries ≡ entries_of a.lower.entries = elim c.match-self.branch [
      | in-Some w ↦ rw w.lower-is (w.drop_if_empty.ensures.shown ∙ c.in_ok-lower.ensures.shown)
      | in_default w ↦ rw w.lower-is c.in_ok-lower.ensures.shown
    ] in
    rw (whole, ← c.self.view_is)
    (ap (λ (l : List Entry). record { waiting = l; kept = a.kept; reserved = None }) (same_waiting tp a.top.ids c.in_ok-ids.ids a.lower c.match-self.lower c.in_ok-ids.ensures same))
