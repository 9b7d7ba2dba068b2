use Rattle.std.proofs.Common.{◌≡◌, ◌≤◌, ◌<◌, ◌^◌, ◌⊎◌, ℕ, List, arith, sym, ap, subst, ◌∙◌, ◌++◌, inl, inr, Option, Some, None}
use Rattle.std.specs.Prelude.{IfNone, ◌≢◌}
use Rattle.std.proofs.lemmas.Bool.Decides.{nat_tests}
use Rattle.quic_assembler.specs.Piece.{PieceView}
use Rattle.quic_ordered.specs.declared.map.Run.{Run}
use Rattle.quic_ordered.specs.declared.map.Passed.{Passed}
use Rattle.quic_ordered.specs.Entries.{piece_at}
use Rattle.quic_ordered.specs.Slotted.{from_place}
use Rattle.quic_ordered.proofs.Sweeping.{no_last}
use Rattle.quic_ordered.proofs.Passing.{from_on, left_from, begins_on, IsAt, step_touch, step_begin, step_pass, step_more, step_none}
use Rattle.quic_ordered.proofs.map.PieceMap.pass_over.Goals as goal
use Rattle.quic_ordered.proofs.map.PieceMap.pass_over.Goals.{in-None+in-Some-last+in_ok-extend_from_slice-in-Some-last, in-None+in_default-last+then-is_little, in_default-last-via-in-Some-last+else-floor-start, in_default-last-via-in_default-last, in-None+in_default-last+else-is_little, in-Some-found+else-run-start+in_ok-extend_from_slice-in-Some-found}

none_on : {A : Type 0} {P : Type 0} (o : Option A) → o ≡ None → IfNone o P → P
none_on None is h = h
none_on (Some x) is h = absurd cc

pub loop-start-init : goal.loop-start-init
loop-start-init c =
    (omega arith, c.place_from-place.ensures.place, (c.clear.ensures.items, λ all s. (s, left_from all c.args.last c.args.end c.args.self.now s ∙ (ap (from_on c.args.end) (sym c.self.view_is) ∙ sym c.place_from-place.ensures.rest))))

-- where the loop is, at the same values
same_at : (es : List (ℕ × PieceView)) (last0 : Option ℕ) (end0 : ℕ) (last last' : Option ℕ) (end end' : ℕ) (o o' : Option Run) (bytes bytes' : List ℕ) (rest : List (ℕ × PieceView))
    → last' ≡ last → end' ≡ end → o' ≡ o → bytes' ≡ bytes → end0 ≤ end → IsAt es last0 end0 last end o bytes rest → (end0 ≤ end') × IsAt es last0 end0 last' end' o' bytes' rest
same_at es last0 end0 last last' end end' o o' bytes bytes' rest e f g h le at = (
  subst (λ (n : ℕ). end0 ≤ n) (sym f) le,
  subst (λ (l : Option ℕ). IsAt es last0 end0 l end' o' bytes' rest) (sym e)
      (subst (λ (n : ℕ). IsAt es last0 end0 last n o' bytes' rest) (sym f)
      (subst (λ (r : Option Run). IsAt es last0 end0 last end r bytes' rest) (sym g)
      (subst (λ (bs : List ℕ). IsAt es last0 end0 last end o bs rest) (sym h) at))),
)

pub loop-start-preserved : goal.loop-start-preserved
loop-start-preserved c =
    let es = c.args.self.now in
    let m = c.self.inside.pieces in
    let l = c.loop-start in
    let j = c.match-found in
    let last0 = c.args.last in
    let end0 = c.args.end in
    let start = c.in-Some.start in
    let stop = c.end-stop.result in
    let piece = c.in-Some.piece.now in
    let left = from_place m c.step.new.place in
    let given = c.in-Some.ensures.some in
    let ends = c.end-stop.ensures in
    let bound : stop < 2 ^ 62 = omega (arith, ends.value, ends.bound) in
    let none : l.found ≡ None → IsAt es last0 end0 l.last l.floor None l.bytes.items (from_place m l.place) =
    λ is. subst (λ (o : Option Run). IsAt es last0 end0 l.last l.floor o l.bytes.items (from_place m l.place)) is l.invariant.2 in
    let ahead : (end0 ≤ j.floor) × IsAt es last0 end0 j.last j.floor j.found j.bytes.items left = elim j.branch [
      | in-None+in-Some-last+in_ok-extend_from_slice-in-Some-last w ↦
          let base = w.in-Some-last.base in
          let at = subst (λ (o : Option ℕ). IsAt es last0 end0 o l.floor None l.bytes.items (from_place m l.place)) w.in-Some-last.is (none w.in-None.is) in
          let text = w.in_ok-extend_from_slice-in-Some-last.ensures.items ∙ ap (λ (bs : List ℕ). l.bytes.items ++ bs) w.as_slice.ensures in
          let here = step_touch es last0 end0 base l.floor start stop l.before piece l.bytes.items w.extend_from_slice.new.self.items (from_place m l.place) left c.requires at given w.if-floor-start.true ends.value bound text in
          same_at es last0 end0 (Some base) j.last l.floor j.floor (Some w.new.result) j.found w.extend_from_slice.new.self.items j.bytes.items left
          w.last-is w.floor-is w.found-is (ap (λ bs. bs.items) w.bytes-is) l.invariant.0
          (subst (λ (r : Run). IsAt es last0 end0 (Some base) l.floor (Some r) w.extend_from_slice.new.self.items left) (sym w.new.ensures) here)
      | in-None+in_default-last+then-is_little w ↦
          let at = none w.in-None.is in
          let apart : (l.last ≡ None) ⊎ (l.floor ≢ start) = elim w.in_default-last.branch [
            | in_default-last-via-in-Some-last+else-floor-start v ↦ inr (λ e. let t = v.if-floor-start.false in grind (arith, nat_tests, e, t))
            | in_default-last-via-in_default-last v ↦ inl (no_last l.last (λ x e. v.in_default-last.not-Some x e))
          ] in
          let first = at.1 c.requires.0 c.requires.1 in
          let on = begins_on c.requires.0 l.last l.floor es first.0 start piece left (first.1 ∙ given) in
          let before = l.invariant.0 in
          same_at es last0 end0 (Some start) j.last stop j.floor None j.found l.bytes.items j.bytes.items left
          w.last-is w.floor-is (w.found-is ∙ w.in-None.is) (ap (λ bs. bs.items) w.bytes-is) (omega (arith, on, ends.value, before))
          (step_pass es last0 end0 l.last l.floor start stop piece l.bytes.items (from_place m l.place) left at given apart ends.value (sym w.if-is_little.true ∙ w.is_little.ensures))
      | in-None+in_default-last+else-is_little w ↦
          let at = none w.in-None.is in
          let apart : (l.last ≡ None) ⊎ (l.floor ≢ start) = elim w.in_default-last.branch [
            | in_default-last-via-in-Some-last+else-floor-start v ↦ inr (λ e. let t = v.if-floor-start.false in grind (arith, nat_tests, e, t))
            | in_default-last-via-in_default-last v ↦ inl (no_last l.last (λ x e. v.in_default-last.not-Some x e))
          ] in
          let same : w.in_default-last.last ≡ l.last = elim w.in_default-last.branch [
            | in_default-last-via-in-Some-last+else-floor-start v ↦ v.last-is ∙ sym v.in-Some-last.is
            | in_default-last-via-in_default-last v ↦ v.last-is
          ] in
          let here = step_begin es last0 end0 l.last l.floor start stop l.here piece l.bytes.items (from_place m l.place) left c.requires at given apart ends.value bound in
          same_at es last0 end0 l.last j.last l.floor j.floor (Some w.new-else-is_little.result) j.found l.bytes.items j.bytes.items left
          (w.last-is ∙ same) w.floor-is w.found-is (ap (λ bs. bs.items) w.bytes-is) l.invariant.0
          (subst (λ (r : Run). IsAt es last0 end0 l.last l.floor (Some r) l.bytes.items left) (sym w.new-else-is_little.ensures) here)
      | in-Some-found+else-run-start+in_ok-extend_from_slice-in-Some-found w ↦
          let run = w.in-Some-found.run' in
          let at = subst (λ (o : Option Run). IsAt es last0 end0 l.last l.floor o l.bytes.items (from_place m l.place)) w.in-Some-found.is l.invariant.2 in
          let text = w.in_ok-extend_from_slice-in-Some-found.ensures.items ∙ ap (λ (bs : List ℕ). l.bytes.items ++ bs) w.as_slice-in-Some-found.ensures in
          let touch : run.stop ≡ start = let t = w.if-run-start.false in grind (arith, nat_tests, t) in
          let more = w.extend_from_slice-in-Some-found.new.self.items in
          same_at es last0 end0 l.last j.last l.floor j.floor (Some (record { base = run.base; from = run.from; stop = stop; hint = run.hint })) j.found more j.bytes.items left
          w.last-is w.floor-is w.found-is (ap (λ bs. bs.items) w.bytes-is) l.invariant.0
          (step_more es last0 end0 l.last l.floor start stop run piece l.bytes.items more (from_place m l.place) left c.requires at given touch ends.value bound text)
    ] in
    (ahead.0, c.step.ensures.place, ahead.1)

pub returns-clause-none : goal.returns-clause-none
returns-clause-none c =
    let l = c.loop-start in
    let m = c.self.inside.pieces in
    subst (λ (p : Passed). IfNone p.next ((q : ℕ) → p.end ≤ q → piece_at c.args.self.now q ≡ None)) (sym c.new-2.ensures)
    (step_none c.args.self.now c.args.last c.args.end l.last l.floor l.found l.bytes.items (from_place m l.place) c.requires l.invariant.2 (none_on c.step.result c.in_default.is c.step.ensures.none))
