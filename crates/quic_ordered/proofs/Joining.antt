-- A join of the runs that a new one overlaps.
use Rattle.std.proofs.Common.{◌≡◌, ℕ, ◌+◌, ◌-◌, ◌<◌, ◌≤◌, ◌⊎◌, List, length, Option, Some, None, sym, ap, subst, ◌∙◌, inl, inr, arith, refl}
use Rattle.std.specs.Prelude.{max, take, drop, slice_index}
use Rattle.std.proofs.lemmas.Grind.{common_steps}
use Rattle.std.proofs.lemmas.List.{length-drop, length-take, get_or-take}
use Rattle.std.proofs.lemmas.Bool.{cases_lt, cases_eq}
use Rattle.quic_assembler.specs.Piece.{PieceView, run_end, RunHolds, cut_at}
use Rattle.quic_assembler.proofs.Runs.{RunHolds-cut, RunHolds-uncut}
use Rattle.quic_ordered.specs.Entries.{piece_at, MapHolds, MapHoldsNone, IsPieceMap, IsOutside, WritesOver, SpansAll, StillHolds, IsJoining, MapTakes, MapStems, HasJoined, MapKeepsApart, IsLastPiece, IsFreeFor, GrowsTo, piece_of}
use Rattle.quic_ordered.specs.Rows.{LiesApart, Encloses}
use Rattle.quic_ordered.proofs.Held.{some_is, none_some, place, one_byte, held_once, held, covered}

-- ---- another run is taken out and written over the base

step_written : (es ms ms' : List (ℕ × PieceView)) (new q base base' : PieceView) (start end k at byte : ℕ) → IsPieceMap es → piece_at ms k ≡ Some q → start < k
    → ((x : ℕ) → (x ≡ k → ⊥) → piece_at ms' x ≡ piece_at ms x) → WritesOver q base base' → IsJoining es new start end ms base
    → MapHolds es at byte → RunHolds at byte base ⊎ StillHolds ms start at byte → RunHolds at byte base' ⊎ StillHolds ms' start at byte
step_written es ms ms' new q base base' start end k at byte apart found lt others w j h (inl here) =
    elim (place q at) [
      | inl out ↦ inl (w.outside at byte out here)
      | inr has ↦
          let mine = held es k at has.0 q (j.rest k q lt found) has.1 in
          let e = held_once es at has.0 byte apart mine h in
          inl (w.within at byte (subst (λ b. RunHolds at b q) e has.1))
    ]
step_written es ms ms' new q base base' start end k at byte apart found lt others w j h (inr waits) =
    elim (cases_eq waits.key k) [
      | inl same ↦
          let e = some_is (piece_at ms k) waits.run q (ap (piece_at ms) (sym same) ∙ waits.found) found in
          inl (w.within at byte (subst (RunHolds at byte) e waits.here))
      | inr ne ↦ inr (record { key = waits.key; run = waits.run; behind = waits.behind; found = others waits.key ne ∙ waits.found; here = waits.here })
    ]

step_fresh : (es : List (ℕ × PieceView)) (q base base' : PieceView) (k at byte : ℕ) → piece_at es k ≡ Some q → WritesOver q base base' → MapHoldsNone es at → RunHolds at byte base → RunHolds at byte base'
step_fresh es q base base' k at byte found w none here =
    elim (place q at) [
      | inl out ↦ w.outside at byte out here
      | inr has ↦ absurd (none has.0 (held es k at has.0 q found has.1))
    ]

step_origin : (es : List (ℕ × PieceView)) (new q base base' : PieceView) (k at byte : ℕ) → piece_at es k ≡ Some q → WritesOver q base base'
    → (RunHolds at byte base → MapHolds es at byte ⊎ (RunHolds at byte new ⊎ IsOutside new at))
    → RunHolds at byte q ⊎ (RunHolds at byte base × IsOutside q at) → MapHolds es at byte ⊎ (RunHolds at byte new ⊎ IsOutside new at)
step_origin es new q base base' k at byte found w before (inl mine) = inl (held es k at byte q found mine)
step_origin es new q base base' k at byte found w before (inr old) = before old.0

not_out : (k start n x : ℕ) → start < k → k < n → (x < start) ⊎ (n ≤ x) → x ≡ k → ⊥
not_out k start n x lt below (inl a) e = omega arith
not_out k start n x lt below (inr a) e = omega arith

step_rest : (es ms ms' : List (ℕ × PieceView)) (k x : ℕ) (v : PieceView) → piece_at ms' k ≡ None → ((x : ℕ) → (x ≡ k → ⊥) → piece_at ms' x ≡ piece_at ms x)
    → (piece_at ms x ≡ Some v → piece_at es x ≡ Some v) → piece_at ms' x ≡ Some v → piece_at es x ≡ Some v
step_rest es ms ms' k x v gone others before e =
    elim (cases_eq x k) [
      | inl same ↦ absurd (none_some (piece_at ms' k) v gone (ap (piece_at ms') (sym same) ∙ e))
      | inr ne ↦ before (sym (others x ne) ∙ e)
    ]

pub step : (es ms ms' : List (ℕ × PieceView)) (new q base base' : PieceView) (start end k : ℕ) → IsPieceMap es → piece_at ms k ≡ Some q → start < k → k < run_end new
    → piece_at ms' k ≡ None → ((x : ℕ) → (x ≡ k → ⊥) → piece_at ms' x ≡ piece_at ms x) → WritesOver q base base' → IsJoining es new start end ms base → IsJoining es new start end ms' base'
step es ms ms' new q base base' start end k apart found lt below gone others w j =
    let kept = j.rest k q lt found in
    let wo = w.offset in
    let wl = w.len in
    let je = j.ends in
    record {
      offset = w.offset ∙ j.offset;
      ends = omega arith;
      slot = λ e. j.slot (sym (others start (λ same. omega arith)) ∙ e);
      outside = λ x o. others x (not_out k start (run_end new) x lt below o) ∙ j.outside x o;
      rest = λ x v behind e. step_rest es ms ms' k x v gone others (j.rest x v behind) e;
      written = λ at byte low high h. step_written es ms ms' new q base base' start end k at byte apart found lt others w j h (j.written at byte low high h);
      fresh = λ at byte h none. step_fresh es q base base' k at byte kept w none (j.fresh at byte h none);
      origin = λ at byte h. step_origin es new q base base' k at byte kept w (j.origin at byte) (w.origin at byte h);
    }

-- what a run that waits lies within
pub step_fits : (es ms : List (ℕ × PieceView)) (new q base : PieceView) (start end k : ℕ) → IsPieceMap es → SpansAll es new start end → piece_at ms k ≡ Some q → start < k → k < run_end new
    → IsJoining es new start end ms base → (base.offset ≤ q.offset) × (run_end q ≤ run_end base)
step_fits es ms new q base start end k apart spans found lt below j =
    let kept = j.rest k q lt found in
    let e = apart.key k q kept in
    let i = spans.inside k q kept below in
    let jo = j.offset in
    let je = j.ends in
    (omega arith, omega arith)

-- ---- the base is made, and the new run written over it

waits_behind : (es ms : List (ℕ × PieceView)) (new : PieceView) (start end at byte : ℕ) → SpansAll es new start end → start ≤ at → ((x : ℕ) → (x ≡ start → ⊥) → piece_at ms x ≡ piece_at es x)
    → (h : MapHolds es at byte) → (h.start ≡ start → ⊥) → StillHolds ms start at byte
waits_behind es ms new start end at byte spans low others h ne =
    let here = h.here in
    let behind : start < h.start = elim (cases_lt h.start start) [
      | inl lt ↦ let e = spans.below h.start h.run h.found lt in absurd (omega arith)
      | inr ge ↦ omega arith
    ] in
    record { key = h.start; run = h.run; behind = behind; found = others h.start ne ∙ h.found; here = h.here }

begin_origin : (es : List (ℕ × PieceView)) (new blank : PieceView) (at byte : ℕ) → RunHolds at byte new ⊎ (RunHolds at byte blank × IsOutside new at) → MapHolds es at byte ⊎ (RunHolds at byte new ⊎ IsOutside new at)
begin_origin es new blank at byte (inl h) = inr (inl h)
begin_origin es new blank at byte (inr h) = inr (inr h.1)

slot_stays : (o : Option PieceView) (v : PieceView) → o ≡ Some v → o ≡ None → ⊥
slot_stays o v e f = cc

not_start : (start n x : ℕ) → start < n → (x < start) ⊎ (n ≤ x) → x ≡ start → ⊥
not_start start n x lt (inl a) e = omega arith
not_start start n x lt (inr a) e = omega arith

pub begin : (es ms : List (ℕ × PieceView)) (new blank base hollow : PieceView) (start end : ℕ) → SpansAll es new start end → 0 < length new.bytes → start < end
    → blank.offset ≡ start → length blank.bytes ≡ end - start → piece_at ms start ≡ Some hollow → ((x : ℕ) → (x ≡ start → ⊥) → piece_at ms x ≡ piece_at es x)
    → WritesOver new blank base → piece_at es start ≡ None → IsJoining es new start end ms base
begin es ms new blank base hollow start end spans some lt at_start len slot others w none =
    let wo = w.offset in
    let wl = w.len in
    let sf = spans.from in
    record {
      offset = w.offset ∙ at_start;
      ends = omega arith;
      slot = slot_stays _ hollow slot;
      outside = λ x o. others x (not_start start (run_end new) x (omega arith) o);
      rest = λ x v behind e. sym (others x (λ same. omega arith)) ∙ e;
      written = λ at byte low high h. inr (waits_behind es ms new start end at byte spans low others h (λ same. none_some (piece_at es start) h.run none (ap (piece_at es) (sym same) ∙ h.found)));
      fresh = λ at byte h no. w.within at byte h;
      origin = λ at byte h. begin_origin es new blank at byte (w.origin at byte h);
    }

begin_written : (es ms : List (ℕ × PieceView)) (new p base base' : PieceView) (start end at byte : ℕ) → SpansAll es new start end → start ≤ at → ((x : ℕ) → (x ≡ start → ⊥) → piece_at ms x ≡ piece_at es x)
    → WritesOver p base base' → piece_at es start ≡ Some p → MapHolds es at byte → RunHolds at byte base' ⊎ StillHolds ms start at byte
begin_written es ms new p base base' start end at byte spans low others w found h =
    elim (cases_eq h.start start) [
      | inl same ↦
          let e = some_is (piece_at es start) h.run p (ap (piece_at es) (sym same) ∙ h.found) found in
          inl (w.within at byte (subst (RunHolds at byte) e h.here))
      | inr ne ↦ inr (waits_behind es ms new start end at byte spans low others h ne)
    ]

pub begin_with : (es ms : List (ℕ × PieceView)) (new p blank base base' hollow : PieceView) (start end : ℕ) → SpansAll es new start end → 0 < length new.bytes → start < end
    → blank.offset ≡ start → length blank.bytes ≡ end - start → piece_at ms start ≡ Some hollow → ((x : ℕ) → (x ≡ start → ⊥) → piece_at ms x ≡ piece_at es x)
    → WritesOver new blank base → WritesOver p base base' → piece_at es start ≡ Some p → IsJoining es new start end ms base'
begin_with es ms new p blank base base' hollow start end spans some lt at_start len slot others w w' found =
    let wo = w.offset in
    let wl = w.len in
    let wo' = w'.offset in
    let wl' = w'.len in
    let sf = spans.from in
    record {
      offset = w'.offset ∙ (w.offset ∙ at_start);
      ends = omega arith;
      slot = slot_stays _ hollow slot;
      outside = λ x o. others x (not_start start (run_end new) x (omega arith) o);
      rest = λ x v behind e. sym (others x (λ same. omega arith)) ∙ e;
      written = λ at byte low high h. begin_written es ms new p base base' start end at byte spans low others w' found h;
      fresh = λ at byte h no. step_fresh es p base base' start at byte found w' no (w.within at byte h);
      origin = λ at byte h. step_origin es new p base base' start at byte found w' (λ old. begin_origin es new blank at byte (w.origin at byte old)) (w'.origin at byte h);
    }

within : (at : ℕ) (r : PieceView) (end : ℕ) {byte : ℕ} → RunHolds at byte r → run_end r ≤ end → at < end
within at r end h le = omega (arith, h.1, le)

-- ---- the base is put in

pub record Done (es ms ms' : List (ℕ × PieceView)) (new base : PieceView) (start end : ℕ) : Type 0 where
  pub apart : IsPieceMap es
  pub some : 0 < length new.bytes
  pub spans : SpansAll es new start end
  pub joins : IsJoining es new start end ms base
  pub none : (q : ℕ) → start < q → q < run_end new → piece_at ms q ≡ None
  pub mine : piece_at ms' start ≡ Some base
  pub others : (x : ℕ) → (x ≡ start → ⊥) → piece_at ms' x ≡ piece_at ms x

-- a run at another key is one that was there before, and lies before the base or behind it
was_there : (es ms ms' : List (ℕ × PieceView)) (new base : PieceView) (start end q : ℕ) (v : PieceView) → Done es ms ms' new base start end → (q ≡ start → ⊥) → piece_at ms' q ≡ Some v
    → (piece_at es q ≡ Some v) × ((q < start) ⊎ (run_end new ≤ q))
was_there es ms ms' new base start end q v d ne e =
    let f : piece_at ms q ≡ Some v = sym (d.others q ne) ∙ e in
    elim (cases_lt q start) [
      | inl lt ↦ (sym (d.joins.outside q (inl lt)) ∙ f, inl lt)
      | inr ge ↦
          elim (cases_lt q (run_end new)) [
            | inl below ↦ absurd (none_some (piece_at ms q) v (d.none q (omega arith) below) f)
            | inr above ↦ (sym (d.joins.outside q (inr above)) ∙ f, inr above)
          ]
    ]

base_has : (es ms ms' : List (ℕ × PieceView)) (new base : PieceView) (start end at byte : ℕ) → Done es ms ms' new base start end → at < end → RunHolds at byte base ⊎ StillHolds ms start at byte → RunHolds at byte base
base_has es ms ms' new base start end at byte d high (inl here) = here
base_has es ms ms' new base start end at byte d high (inr waits) =
    let here = waits.here in
    elim (cases_lt waits.key (run_end new)) [
      | inl lt ↦ absurd (none_some (piece_at ms waits.key) waits.run (d.none waits.key waits.behind lt) waits.found)
      | inr ge ↦
          let found = d.joins.rest waits.key waits.run waits.behind waits.found in
          let above = d.spans.above waits.key waits.run found ge in
          let e = d.apart.key waits.key waits.run found in
          absurd (omega arith)
    ]

done_keeps : (es ms ms' : List (ℕ × PieceView)) (new base : PieceView) (start end at byte : ℕ) → Done es ms ms' new base start end → MapHolds es at byte → MapHolds ms' at byte
done_keeps es ms ms' new base start end at byte d h =
    let here = h.here in
    let sm = d.some in
    let e = d.apart.key h.start h.run h.found in
    let sf = d.spans.from in
    elim (cases_lt h.start start) [
      | inl lt ↦ held ms' h.start at byte h.run (d.others h.start (λ same. omega arith) ∙ (d.joins.outside h.start (inl lt) ∙ h.found)) h.here
      | inr ge ↦
          elim (cases_lt h.start (run_end new)) [
            | inl below ↦
                let i = d.spans.inside h.start h.run h.found below in
                let low : start ≤ at = omega (arith, e, ge, here.0) in
                let high : at < end = within at h.run end here i in
                held ms' start at byte base d.mine (base_has es ms ms' new base start end at byte d high (d.joins.written at byte low high h))
            | inr above ↦ held ms' h.start at byte h.run (d.others h.start (λ same. omega arith) ∙ (d.joins.outside h.start (inr above) ∙ h.found)) h.here
          ]
    ]

out_held : (es ms ms' : List (ℕ × PieceView)) (new base : PieceView) (start end at : ℕ) → Done es ms ms' new base start end → start ≤ at → at < end → IsOutside new at → (byte : ℕ) × MapHolds es at byte
out_held es ms ms' new base start end at d low high (inl lt) = d.spans.left at low lt
out_held es ms ms' new base start end at d low high (inr ge) = d.spans.right at ge high

done_origin : (es ms ms' : List (ℕ × PieceView)) (new base : PieceView) (start end at byte : ℕ) → Done es ms ms' new base start end → RunHolds at byte base
    → MapHolds es at byte ⊎ (RunHolds at byte new ⊎ IsOutside new at) → MapHolds es at byte ⊎ RunHolds at byte new
done_origin es ms ms' new base start end at byte d here (inl h) = inl h
done_origin es ms ms' new base start end at byte d here (inr (inl h)) = inr h
done_origin es ms ms' new base start end at byte d here (inr (inr out)) =
    let jo = d.joins.offset in
    let je = d.joins.ends in
    let h = out_held es ms ms' new base start end at d (omega arith) (omega arith) out in
    let there = base_has es ms ms' new base start end at h.0 d (omega arith) (d.joins.written at h.0 (omega arith) (omega arith) h.1) in
    inl (subst (MapHolds es at) (one_byte base at h.0 byte there here) h.1)

pub takes : (es ms ms' : List (ℕ × PieceView)) (new base : PieceView) (start end : ℕ) → Done es ms ms' new base start end → MapTakes es new ms'
takes es ms ms' new base start end d = record {
  keeps = λ at byte h. done_keeps es ms ms' new base start end at byte d h;
  gains = λ at byte h none. held ms' start at byte base d.mine (d.joins.fresh at byte h none);
  origin = λ at byte h.
      elim (cases_eq h.start start) [
        | inl same ↦
            let e = some_is (piece_at ms' start) h.run base (ap (piece_at ms') (sym same) ∙ h.found) d.mine in
            let here = subst (RunHolds at byte) e h.here in
            done_origin es ms ms' new base start end at byte d here (d.joins.origin at byte here)
        | inr ne ↦ inl (held es h.start at byte h.run (was_there es ms ms' new base start end h.start h.run d ne h.found).0 h.here)
      ];
}

done_apart : (es ms ms' : List (ℕ × PieceView)) (new base : PieceView) (start end q r : ℕ) (v w : PieceView) → Done es ms ms' new base start end
    → piece_at ms' q ≡ Some v → piece_at ms' r ≡ Some w → q < r → run_end v ≤ r
done_apart es ms ms' new base start end q r v w d found other lt =
    let je = d.joins.ends in
    let sf = d.spans.from in
    let sm = d.some in
    elim (cases_eq q start) [
      | inl same ↦
          let e = ap run_end (some_is (piece_at ms' start) v base (ap (piece_at ms') (sym same) ∙ found) d.mine) in
          let there = was_there es ms ms' new base start end r w d (λ f. omega arith) other in
          elim there.1 [
            | inl below ↦ absurd (omega arith)
            | inr above ↦ let a = d.spans.above r w there.0 above in omega arith
          ]
      | inr ne ↦
          let mine = was_there es ms ms' new base start end q v d ne found in
          elim (cases_eq r start) [
            | inl same ↦ let b = d.spans.below q v mine.0 (omega arith) in omega arith
            | inr ne' ↦ d.apart.apart q r v w mine.0 (was_there es ms ms' new base start end r w d ne' other).0 lt
          ]
    ]

pub stays_apart : (es ms ms' : List (ℕ × PieceView)) (new base : PieceView) (start end : ℕ) → Done es ms ms' new base start end → IsPieceMap ms'
stays_apart es ms ms' new base start end d =
    let sm = d.some in
    let je = d.joins.ends in
    let jo = d.joins.offset in
    let sf = d.spans.from in
    let st = d.spans.to in
    record {
      key = λ q v found.
          elim (cases_eq q start) [
            | inl same ↦ let e = some_is (piece_at ms' start) v base (ap (piece_at ms') (sym same) ∙ found) d.mine in ap (λ (x : PieceView). x.offset) e ∙ (d.joins.offset ∙ sym same)
            | inr ne ↦ d.apart.key q v (was_there es ms ms' new base start end q v d ne found).0
          ];
      some = λ q v found.
          elim (cases_eq q start) [
            | inl same ↦ let e = ap (λ (x : PieceView). length x.bytes) (some_is (piece_at ms' start) v base (ap (piece_at ms') (sym same) ∙ found) d.mine) in omega arith
            | inr ne ↦ d.apart.some q v (was_there es ms ms' new base start end q v d ne found).0
          ];
      apart = λ q r v w found other lt. done_apart es ms ms' new base start end q r v w d found other lt;
    }

-- ---- the new run overlaps none, or lies within one

pub last_bounds : (es : List (ℕ × PieceView)) (last last_end n q : ℕ) (v : PieceView) → IsPieceMap es → IsLastPiece es last last_end n → piece_at es q ≡ Some v → q ≤ n → run_end v ≤ last_end
last_bounds es last last_end n q v apart l found le =
    let e = l.ends in
    elim (cases_eq q last) [
      | inl same ↦ let f = ap run_end (some_is (piece_at es last) v l.run (ap (piece_at es) (sym same) ∙ found) l.found) in omega arith
      | inr ne ↦
          elim (cases_lt q last) [
            | inl lt ↦ let a = apart.apart q last v l.run found l.found lt in let k = apart.key last l.run l.found in omega arith
            | inr ge ↦ absurd (none_some (piece_at es q) v (l.last q (omega arith) le) found)
          ]
    ]

pub spans_of : (es : List (ℕ × PieceView)) (new : PieceView) (start last last_end n : ℕ) → IsPieceMap es → IsLastPiece es last last_end n → n + 1 ≡ run_end new → start ≤ new.offset
    → ((q : ℕ) (v : PieceView) → piece_at es q ≡ Some v → q < start → run_end v ≤ start)
    → ((at : ℕ) → start ≤ at → at < new.offset → (byte : ℕ) × MapHolds es at byte)
    → ((q : ℕ) (v : PieceView) → piece_at es q ≡ Some v → start ≤ q → q < new.offset → new.offset < run_end v) → SpansAll es new start (max (run_end new) last_end)
spans_of es new start last last_end n apart l e from below left tight =
    let ends = l.ends in
    let up_to = l.up_to in
    record {
      from = from;
      to = omega arith;
      below = below;
      inside = λ q v found lt. let b = last_bounds es last last_end n q v apart l found (omega arith) in omega arith;
      above = λ q v found ge. let a = apart.apart last q l.run v l.found found (omega arith) in omega arith;
      left = left;
      tight = tight;
      right = λ at low high. covered es last at l.run apart l.found (omega arith) (omega arith);
    }

-- the runs of the map end before the new one, or begin behind it
abbrev pub Free : List (ℕ × PieceView) → PieceView → Type 0
Free es new = (q : ℕ) (v : PieceView) → piece_at es q ≡ Some v → (run_end v ≤ new.offset) ⊎ (run_end new ≤ q)

pub free_of : (es : List (ℕ × PieceView)) (new : PieceView) (last last_end n : ℕ) → IsPieceMap es → IsLastPiece es last last_end n → n + 1 ≡ run_end new → last_end ≤ new.offset → Free es new
free_of es new last last_end n apart l e le q v found =
    elim (cases_lt n q) [
      | inl lt ↦ inr (omega arith)
      | inr ge ↦ let b = last_bounds es last last_end n q v apart l found ge in inl (omega arith)
    ]

not_new : (es : List (ℕ × PieceView)) (new : PieceView) (q : ℕ) (v : PieceView) → IsPieceMap es → 0 < length new.bytes → Free es new → piece_at es q ≡ Some v → q ≡ new.offset → ⊥
not_new es new q v apart some free found same =
    let k = apart.key q v found in
    let s = apart.some q v found in
    elim (free q v found) [
      | inl a ↦ omega arith
      | inr b ↦ omega arith
    ]

-- a new piece that overlaps none
pub free_for : (es : List (ℕ × PieceView)) (new : PieceView) → IsPieceMap es → 0 < length new.bytes → IsFreeFor es new → Free es new
free_for es new apart some (inl none) q v found =
    elim (cases_lt (run_end new - 1) q) [
      | inl lt ↦ inr (omega arith)
      | inr ge ↦ let e = sym found ∙ none q (omega arith) ge in absurd cc
    ]
free_for es new apart some (inr l) q v found = free_of es new l.0 l.1 (run_end new - 1) apart l.2.0 (omega arith) l.2.1 q v found

none_is : (o : Option PieceView) → ((v : PieceView) → o ≡ Some v → ⊥) → o ≡ None
none_is None f = refl
none_is (Some v) f = absurd (f v refl)

pub free_none : (es : List (ℕ × PieceView)) (new : PieceView) → IsPieceMap es → 0 < length new.bytes → Free es new → piece_at es new.offset ≡ None
free_none es new apart some free = none_is (piece_at es new.offset) (λ v found. not_new es new new.offset v apart some free found refl)

pub free_within : (es : List (ℕ × PieceView)) (new v : PieceView) (q : ℕ) → 0 < length new.bytes → Free es new → piece_at es q ≡ Some v → q ≤ new.offset → run_end new ≤ run_end v → ⊥
free_within es new v q some free found low high =
    elim (free q v found) [
      | inl a ↦ omega arith
      | inr b ↦ omega arith
    ]

-- the last piece that begins below the end of a new one ends behind its offset
pub near_ends : (es : List (ℕ × PieceView)) (new : PieceView) (last last_end n : ℕ) → IsPieceMap es → IsLastPiece es last last_end n → (new.offset ≤ last) ⊎ (new.offset < last_end) → new.offset < last_end
near_ends es new last last_end n apart l near =
    let k = apart.key last l.run l.found in
    let s = apart.some last l.run l.found in
    let e = l.ends in
    elim near [
      | inl le ↦ omega arith
      | inr lt ↦ lt
    ]

pub put_takes : (es es' : List (ℕ × PieceView)) (new : PieceView) → IsPieceMap es → 0 < length new.bytes → Free es new → piece_at es' new.offset ≡ Some new
    → ((x : ℕ) → (x ≡ new.offset → ⊥) → piece_at es' x ≡ piece_at es x) → MapTakes es new es'
put_takes es es' new apart some free mine others = record {
  keeps = λ at byte h. held es' h.start at byte h.run (others h.start (not_new es new h.start h.run apart some free h.found) ∙ h.found) h.here;
  gains = λ at byte h none. held es' new.offset at byte new mine h;
  origin = λ at byte h.
      elim (cases_eq h.start new.offset) [
        | inl same ↦ inr (subst (RunHolds at byte) (some_is (piece_at es' new.offset) h.run new (ap (piece_at es') (sym same) ∙ h.found) mine) h.here)
        | inr ne ↦ inl (held es h.start at byte h.run (sym (others h.start ne) ∙ h.found) h.here)
      ];
}

put_two : (es es' : List (ℕ × PieceView)) (new : PieceView) (q r : ℕ) (v w : PieceView) → IsPieceMap es → 0 < length new.bytes → Free es new → piece_at es' new.offset ≡ Some new
    → ((x : ℕ) → (x ≡ new.offset → ⊥) → piece_at es' x ≡ piece_at es x) → piece_at es' q ≡ Some v → piece_at es' r ≡ Some w → q < r → run_end v ≤ r
put_two es es' new q r v w apart some free mine others found other lt =
    elim (cases_eq q new.offset) [
      | inl same ↦
          let e = ap run_end (some_is (piece_at es' new.offset) v new (ap (piece_at es') (sym same) ∙ found) mine) in
          let there : piece_at es r ≡ Some w = sym (others r (λ f. omega arith)) ∙ other in
          let k = apart.key r w there in
          elim (free r w there) [
            | inl a ↦ let s = apart.some r w there in absurd (omega arith)
            | inr b ↦ omega arith
          ]
      | inr ne ↦
          let here : piece_at es q ≡ Some v = sym (others q ne) ∙ found in
          elim (cases_eq r new.offset) [
            | inl same ↦ elim (free q v here) [
              | inl a ↦ omega arith
              | inr b ↦ absurd (omega arith)
            ]
            | inr ne' ↦ apart.apart q r v w here (sym (others r ne') ∙ other) lt
          ]
    ]

pub put_apart : (es es' : List (ℕ × PieceView)) (new : PieceView) → IsPieceMap es → 0 < length new.bytes → Free es new → piece_at es' new.offset ≡ Some new
    → ((x : ℕ) → (x ≡ new.offset → ⊥) → piece_at es' x ≡ piece_at es x) → IsPieceMap es'
put_apart es es' new apart some free mine others = record {
  key = λ q v found.
      elim (cases_eq q new.offset) [
        | inl same ↦ ap (λ (x : PieceView). x.offset) (some_is (piece_at es' new.offset) v new (ap (piece_at es') (sym same) ∙ found) mine) ∙ sym same
        | inr ne ↦ apart.key q v (sym (others q ne) ∙ found)
      ];
  some = λ q v found.
      elim (cases_eq q new.offset) [
        | inl same ↦ let e = ap (λ (x : PieceView). length x.bytes) (some_is (piece_at es' new.offset) v new (ap (piece_at es') (sym same) ∙ found) mine) in omega arith
        | inr ne ↦ apart.some q v (sym (others q ne) ∙ found)
      ];
  apart = λ q r v w found other lt. put_two es es' new q r v w apart some free mine others found other lt;
}

pub within_takes : (es : List (ℕ × PieceView)) (new : PieceView) (last last_end n : ℕ) → IsPieceMap es → IsLastPiece es last last_end n → last ≤ new.offset → run_end new ≤ last_end → MapTakes es new es
within_takes es new last last_end n apart l low high =
    let e = l.ends in
    record {
      keeps = λ at byte h. h;
      gains = λ at byte h none. let c = covered es last at l.run apart l.found (omega (arith, h.0, low)) (omega (arith, h.1, high, e)) in absurd (none c.0 c.1);
      origin = λ at byte h. inl h;
    }

-- ---- the memory of the pieces

pub put_stems : (es es' : List (ℕ × PieceView)) (new : PieceView) → piece_at es' new.offset ≡ Some new → ((x : ℕ) → (x ≡ new.offset → ⊥) → piece_at es' x ≡ piece_at es x) → MapStems es new es'
put_stems es es' new mine others = λ q v found.
    elim (cases_eq q new.offset) [
      | inl same ↦ inr (inl (some_is (piece_at es' new.offset) v new (ap (piece_at es') (sym same) ∙ found) mine))
      | inr ne ↦ inl (sym (others q ne) ∙ found)
    ]

pub join_stems : (es ms ms' : List (ℕ × PieceView)) (new base : PieceView) (start end : ℕ) → Done es ms ms' new base start end → base.allocation_size ≡ length base.bytes → MapStems es new ms'
join_stems es ms ms' new base start end d memory = λ q v found.
    elim (cases_eq q start) [
      | inl same ↦
          let e = some_is (piece_at ms' start) v base (ap (piece_at ms') (sym same) ∙ found) d.mine in
          inr (inr (ap (λ (r : PieceView). r.allocation_size) e ∙ memory ∙ sym (ap (λ (r : PieceView). length r.bytes) e)))
      | inr ne ↦ inl (was_there es ms ms' new base start end q v d ne found).0
    ]

-- ---- what a piece does not overlap stays, and one piece has all that it overlaps

pub free_apart : (es : List (ℕ × PieceView)) (new : PieceView) → IsPieceMap es → Free es new → (q : ℕ) (v : PieceView) → piece_at es q ≡ Some v → LiesApart new v
free_apart es new m free q v found =
    let k = m.key q v found in
    elim (free q v found) [
      | inl below ↦ inl (omega arith)
      | inr above ↦ inr (omega arith)
    ]

apart_key : (es : List (ℕ × PieceView)) (new : PieceView) (q : ℕ) (v : PieceView) → IsPieceMap es → 0 < length new.bytes → piece_at es q ≡ Some v → (run_end v ≤ new.offset) ⊎ (run_end new ≤ v.offset) → q ≡ new.offset → ⊥
apart_key es new q v m some found (inl a) same = let k = m.key q v found in let s = m.some q v found in omega arith
apart_key es new q v m some found (inr a) same = let k = m.key q v found in let s = m.some q v found in omega arith

pub put_keeps : (es es' : List (ℕ × PieceView)) (new : PieceView) → IsPieceMap es → 0 < length new.bytes → ((x : ℕ) → (x ≡ new.offset → ⊥) → piece_at es' x ≡ piece_at es x) → MapKeepsApart es new es'
put_keeps es es' new m some others = λ q v found apart. others q (apart_key es new q v m some found apart) ∙ found

join_each : (es ms ms' : List (ℕ × PieceView)) (new base : PieceView) (start end q : ℕ) (v : PieceView) → Done es ms ms' new base start end → piece_at es q ≡ Some v → LiesApart new v ⊎ Encloses v.offset (run_end v) base
join_each es ms ms' new base start end q v d found =
    let jo = d.joins.offset in
    let je = d.joins.ends in
    let sf = d.spans.from in
    let k = d.apart.key q v found in
    elim (cases_lt q start) [
      | inl lt ↦ let b = d.spans.below q v found lt in inl (inl (omega arith))
      | inr ge ↦ elim (cases_lt q (run_end new)) [
        | inl inside ↦ let i = d.spans.inside q v found inside in inr (omega arith, omega arith)
        | inr above ↦ inl (inr (omega arith))
      ]
    ]

pub join_has : (es ms ms' : List (ℕ × PieceView)) (new base : PieceView) (start end : ℕ) → Done es ms ms' new base start end → base.allocation_size ≡ length base.bytes → HasJoined es new ms'
join_has es ms ms' new base start end d memory =
    let jo = d.joins.offset in
    let je = d.joins.ends in
    let sf = d.spans.from in
    let st = d.spans.to in
    record { start = start; run = base; found = d.mine; has = (omega arith, omega arith); each = λ q v found. join_each es ms ms' new base start end q v d found; memory = memory }

join_keeps_at : (es ms ms' : List (ℕ × PieceView)) (new base : PieceView) (start end q : ℕ) (v : PieceView) → Done es ms ms' new base start end → piece_at es q ≡ Some v → (run_end v ≤ new.offset) ⊎ (run_end new ≤ v.offset) → piece_at ms' q ≡ Some v
join_keeps_at es ms ms' new base start end q v d found (inl a) =
    let k = d.apart.key q v found in
    let s = d.apart.some q v found in
    elim (cases_lt q start) [
      | inl lt ↦ d.others q (λ same. omega arith) ∙ (d.joins.outside q (inl lt) ∙ found)
      | inr ge ↦ absurd (let t = d.spans.tight q v found ge (omega arith) in omega (arith, t, a))
    ]
join_keeps_at es ms ms' new base start end q v d found (inr a) =
    let k = d.apart.key q v found in
    let sf = d.spans.from in
    let sm = d.some in
    d.others q (λ same. omega arith) ∙ (d.joins.outside q (inr (omega arith)) ∙ found)

pub join_keeps : (es ms ms' : List (ℕ × PieceView)) (new base : PieceView) (start end : ℕ) → Done es ms ms' new base start end → MapKeepsApart es new ms'
join_keeps es ms ms' new base start end d = λ q v found apart. join_keeps_at es ms ms' new base start end q v d found apart

-- ---- a held run grows, and is the base

not_below : (p : PieceView) (at start : ℕ) → p.offset ≡ start → start ≤ at → IsOutside p at → run_end p ≤ at
not_below p at start e low (inl a) = absurd (omega arith)
not_below p at start e low (inr a) = a

not_behind : (v : PieceView) (at last : ℕ) → v.offset ≡ last → at < run_end v → IsOutside v at → at < last
not_behind v at last e high (inl a) = omega arith
not_behind v at last e high (inr a) = absurd (omega arith)

behind_tail : (p new : PieceView) (start at end : ℕ) → end ≡ run_end new → p.offset ≡ start → start ≤ at → IsOutside p at → (at < run_end p) ⊎ (end ≤ at) → IsOutside new at
behind_tail p new start at end e f low (inl a) o = absurd (omega arith)
behind_tail p new start at end e f low (inr a) (inl b) = absurd (omega arith)
behind_tail p new start at end e f low (inr a) (inr b) = inr (omega arith)

before_head : (new : PieceView) (at last end : ℕ) → end ≡ last → at < last → (at < new.offset) ⊎ (end ≤ at) → IsOutside new at
before_head new at last end e low (inl a) = inl a
before_head new at last end e low (inr a) = absurd (omega arith)

not_last : (start last n x : ℕ) → start < last → last < n → (x < start) ⊎ (n ≤ x) → x ≡ last → ⊥
not_last start last n x lt to (inl a) e = omega arith
not_last start last n x lt to (inr a) e = omega arith

one_holds : (p r : PieceView) (at byte : ℕ) → r.offset ≡ p.offset → r.bytes ≡ p.bytes → RunHolds at byte p → RunHolds at byte r
one_holds p r at byte o b h =
    let l = ap (λ (bs : List ℕ). length bs) b in
    let low = h.0 in
    let high = h.1 in
    (omega (arith, o, low), omega (arith, o, l, high), ap (λ (bs : List ℕ). slice_index bs (at - r.offset)) b ∙ ap (λ (n : ℕ). slice_index p.bytes (at - n)) o ∙ h.2)

tail_end : (new : PieceView) (floor : ℕ) → new.offset ≤ floor → floor ≤ run_end new → floor + length (drop (floor - new.offset) new.bytes) ≡ run_end new
tail_end new floor from to = simp length-drop (omega arith)

head_end : (new : PieceView) (limit : ℕ) → new.offset ≤ limit → limit ≤ run_end new → new.offset + length (take (limit - new.offset) new.bytes) ≡ limit
head_end new limit from to = simp length-take (omega arith)

tail_holds : (new : PieceView) (floor at byte : ℕ) → new.offset ≤ floor → floor ≤ at → RunHolds at byte new → RunHolds at byte (piece_of floor (drop (floor - new.offset) new.bytes) 0)
tail_holds new floor at byte from low h =
    let r = RunHolds-cut floor at byte new low h in
    one_holds (cut_at floor new) (piece_of floor (drop (floor - new.offset) new.bytes) 0) at byte (omega arith) refl r

tail_held : (new : PieceView) (floor at byte : ℕ) → new.offset ≤ floor → RunHolds at byte (piece_of floor (drop (floor - new.offset) new.bytes) 0) → RunHolds at byte new
tail_held new floor at byte from h = RunHolds-uncut floor at byte new (one_holds (piece_of floor (drop (floor - new.offset) new.bytes) 0) (cut_at floor new) at byte (omega arith) refl h)

head_holds : (new : PieceView) (limit at byte : ℕ) → limit ≤ run_end new → at < limit → RunHolds at byte new → RunHolds at byte (piece_of new.offset (take (limit - new.offset) new.bytes) 0)
head_holds new limit at byte to low h = grind (arith, common_steps, get_or-take, length-take)

head_held : (new : PieceView) (limit at byte : ℕ) → limit ≤ run_end new → RunHolds at byte (piece_of new.offset (take (limit - new.offset) new.bytes) 0) → RunHolds at byte new
head_held new limit at byte to h = grind (arith, common_steps, get_or-take, length-take)

grown_is : (old new : PieceView) (start end at byte : ℕ) → GrowsTo start end old new → RunHolds at byte new → RunHolds at byte old ⊎ IsOutside old at
grown_is old new start end at byte g h =
    elim (place old at) [
      | inl out ↦ inr out
      | inr has ↦
          let e = one_byte new at has.0 byte (g.keeps at has.0 has.1) h in
          inl (subst (λ (b : ℕ). RunHolds at b old) e has.1)
    ]

pub begin_first : (es ms : List (ℕ × PieceView)) (new p grown base hollow : PieceView) (start end : ℕ) → SpansAll es new start end → 0 < length new.bytes → piece_at es start ≡ Some p → p.offset ≡ start
    → new.offset ≤ run_end p → run_end p ≤ run_end new → piece_at ms start ≡ Some hollow → ((x : ℕ) → (x ≡ start → ⊥) → piece_at ms x ≡ piece_at es x) → GrowsTo start end p grown
    → WritesOver (piece_of (run_end p) (drop (run_end p - new.offset) new.bytes) 0) grown base → IsJoining es new start end ms base
begin_first es ms new p grown base hollow start end spans some found at_start from to slot others g w =
    let wo = w.offset in
    let wl = w.len in
    let go = g.offset in
    let ge = g.ends in
    let sf = spans.from in
    let te = tail_end new (run_end p) from to in
    record {
      offset = w.offset ∙ g.offset;
      ends = omega arith;
      slot = slot_stays _ hollow slot;
      outside = λ x o. others x (not_start start (run_end new) x (omega arith) o);
      rest = λ x v behind e. sym (others x (λ same. omega arith)) ∙ e;
      written = λ at byte low high h.
          elim (cases_eq h.start start) [
            | inl same ↦
                let e = some_is (piece_at es start) h.run p (ap (piece_at es) (sym same) ∙ h.found) found in
                let here = subst (RunHolds at byte) e h.here in
                inl (w.outside at byte (inl here.1) (g.keeps at byte here))
            | inr ne ↦ inr (waits_behind es ms new start end at byte spans low others h ne)
          ];
      fresh = λ at byte h no.
          elim (place p at) [
            | inr has ↦ absurd (no has.0 (held es start at has.0 p found has.1))
            | inl out ↦ w.within at byte (tail_holds new (run_end p) at byte from (not_below p at start at_start (let a = h.0 in omega arith) out) h)
          ];
      origin = λ at byte h.
          elim (w.origin at byte h) [
            | inl t ↦ inr (inl (tail_held new (run_end p) at byte from t))
            | inr old ↦
                elim (grown_is p grown start end at byte g old.0) [
                  | inl mine ↦ inl (held es start at byte p found mine)
                  | inr out ↦ inr (inr (behind_tail p new start at (run_end p + length (drop (run_end p - new.offset) new.bytes)) te at_start (let a = old.0.0 in omega arith) out old.1))
                ]
          ];
    }

-- the held run is the last one, and grows to the front
pub record GrowsLast (es ms : List (ℕ × PieceView)) (new v grown base hollow : PieceView) (start end last : ℕ) : Type 0 where
  pub apart : IsPieceMap es
  pub spans : SpansAll es new start end
  pub some : 0 < length new.bytes
  pub order : start < last
  pub found : piece_at es last ≡ Some v
  pub ends : run_end v ≡ end
  pub from : new.offset ≤ last
  pub to : last < run_end new
  pub slot : piece_at ms start ≡ Some hollow
  pub gone : piece_at ms last ≡ None
  pub others : (x : ℕ) → (x ≡ start → ⊥) → (x ≡ last → ⊥) → piece_at ms x ≡ piece_at es x
  pub grows : GrowsTo start end v grown
  pub writes : WritesOver (piece_of new.offset (take (last - new.offset) new.bytes) 0) grown base

last_kept : (es ms : List (ℕ × PieceView)) (new v grown base hollow : PieceView) (start end last at byte : ℕ) → GrowsLast es ms new v grown base hollow start end last → RunHolds at byte v → RunHolds at byte base
last_kept es ms new v grown base hollow start end last at byte s h =
    let k = s.apart.key last v s.found in
    let he = head_end new last s.from (let t = s.to in omega arith) in
    s.writes.outside at byte (inr (let a = h.0 in omega arith)) (s.grows.keeps at byte h)

last_waits : (es ms : List (ℕ × PieceView)) (new v grown base hollow : PieceView) (start end last at byte : ℕ) → GrowsLast es ms new v grown base hollow start end last → start ≤ at → (h : MapHolds es at byte) → (h.start ≡ start → ⊥) → (h.start ≡ last → ⊥) → StillHolds ms start at byte
last_waits es ms new v grown base hollow start end last at byte s low h ne other =
    let here = h.here in
    let behind : start < h.start = elim (cases_lt h.start start) [
      | inl lt ↦ let e = s.spans.below h.start h.run h.found lt in absurd (omega arith)
      | inr ge ↦ omega arith
    ] in
    record { key = h.start; run = h.run; behind = behind; found = s.others h.start ne other ∙ h.found; here = h.here }

last_written : (es ms : List (ℕ × PieceView)) (new v grown base hollow : PieceView) (start end last at byte : ℕ) → GrowsLast es ms new v grown base hollow start end last → start ≤ at → (h : MapHolds es at byte) → (h.start ≡ start → ⊥) → RunHolds at byte v ⊎ StillHolds ms start at byte
last_written es ms new v grown base hollow start end last at byte s low h ne =
    elim (cases_eq h.start last) [
      | inl same ↦
          let e = some_is (piece_at es last) h.run v (ap (piece_at es) (sym same) ∙ h.found) s.found in
          inl (subst (RunHolds at byte) e h.here)
      | inr other ↦ inr (last_waits es ms new v grown base hollow start end last at byte s low h ne other)
    ]

last_fresh : (es ms : List (ℕ × PieceView)) (new v grown base hollow : PieceView) (start end last at byte : ℕ) → GrowsLast es ms new v grown base hollow start end last → RunHolds at byte new → MapHoldsNone es at → RunHolds at byte base
last_fresh es ms new v grown base hollow start end last at byte s h free =
    let k = s.apart.key last v s.found in
    let t = s.to in
    let e = s.ends in
    let st = s.spans.to in
    let b = h.1 in
    elim (place v at) [
      | inr has ↦ absurd (free has.0 (held es last at has.0 v s.found has.1))
      | inl out ↦ s.writes.within at byte (head_holds new last at byte (omega arith) (not_behind v at last k (omega arith) out) h)
    ]

last_origin : (es ms : List (ℕ × PieceView)) (new v grown base hollow : PieceView) (start end last at byte : ℕ) → GrowsLast es ms new v grown base hollow start end last → RunHolds at byte base → MapHolds es at byte ⊎ (RunHolds at byte new ⊎ IsOutside new at)
last_origin es ms new v grown base hollow start end last at byte s h =
    let k = s.apart.key last v s.found in
    let t = s.to in
    let e = s.ends in
    let ge = s.grows.ends in
    let he = head_end new last s.from (omega arith) in
    elim (s.writes.origin at byte h) [
      | inl a ↦ inr (inl (head_held new last at byte (omega arith) a))
      | inr old ↦
          elim (grown_is v grown start end at byte s.grows old.0) [
            | inl mine ↦ inl (held es last at byte v s.found mine)
            | inr out ↦ inr (inr (before_head new at last (new.offset + length (take (last - new.offset) new.bytes)) he (not_behind v at last k (let b = old.0.1 in omega arith) out) old.1))
          ]
    ]

last_outside : (es ms : List (ℕ × PieceView)) (new v grown base hollow : PieceView) (start end last x : ℕ) → GrowsLast es ms new v grown base hollow start end last → (x < start) ⊎ (run_end new ≤ x) → piece_at ms x ≡ piece_at es x
last_outside es ms new v grown base hollow start end last x s o =
    let t = s.to in
    let l = s.order in
    s.others x (not_start start (run_end new) x (omega arith) o) (not_last start last (run_end new) x l t o)

last_rest : (es ms : List (ℕ × PieceView)) (new v grown base hollow : PieceView) (start end last x : ℕ) (w : PieceView) → GrowsLast es ms new v grown base hollow start end last → start < x → piece_at ms x ≡ Some w → piece_at es x ≡ Some w
last_rest es ms new v grown base hollow start end last x w s behind e =
    elim (cases_eq x last) [
      | inl same ↦ absurd (none_some (piece_at ms last) w s.gone (ap (piece_at ms) (sym same) ∙ e))
      | inr ne ↦ sym (s.others x (λ same. omega arith) ne) ∙ e
    ]

pub begin_last : (es ms : List (ℕ × PieceView)) (new v grown base hollow : PieceView) (start end last : ℕ) → GrowsLast es ms new v grown base hollow start end last → piece_at es start ≡ None → IsJoining es new start end ms base
begin_last es ms new v grown base hollow start end last s none =
    let wo = s.writes.offset in
    let wl = s.writes.len in
    let go = s.grows.offset in
    let ge = s.grows.ends in
    record {
      offset = s.writes.offset ∙ s.grows.offset;
      ends = omega arith;
      slot = slot_stays _ hollow s.slot;
      outside = λ x o. last_outside es ms new v grown base hollow start end last x s o;
      rest = λ x w behind e. last_rest es ms new v grown base hollow start end last x w s behind e;
      written = λ at byte low high h. elim (last_written es ms new v grown base hollow start end last at byte s low h (λ same. none_some (piece_at es start) h.run none (ap (piece_at es) (sym same) ∙ h.found))) [
        | inl mine ↦ inl (last_kept es ms new v grown base hollow start end last at byte s mine)
        | inr waits ↦ inr waits
      ];
      fresh = λ at byte h no. last_fresh es ms new v grown base hollow start end last at byte s h no;
      origin = λ at byte h. last_origin es ms new v grown base hollow start end last at byte s h;
    }

last_both : (es ms : List (ℕ × PieceView)) (new v p grown base base' hollow : PieceView) (start end last at byte : ℕ) → GrowsLast es ms new v grown base hollow start end last → piece_at es start ≡ Some p → WritesOver p base base' → start ≤ at → MapHolds es at byte → RunHolds at byte base' ⊎ StillHolds ms start at byte
last_both es ms new v p grown base base' hollow start end last at byte s found w low h =
    elim (cases_eq h.start start) [
      | inl same ↦
          let e = some_is (piece_at es start) h.run p (ap (piece_at es) (sym same) ∙ h.found) found in
          inl (w.within at byte (subst (RunHolds at byte) e h.here))
      | inr ne ↦
          elim (last_written es ms new v grown base hollow start end last at byte s low h ne) [
            | inl mine ↦
                let k = s.apart.key last v s.found in
                let d = s.apart.apart start last p v found s.found s.order in
                inl (w.outside at byte (inr (let a = mine.0 in omega arith)) (last_kept es ms new v grown base hollow start end last at byte s mine))
            | inr waits ↦ inr waits
          ]
    ]

pub begin_last_with : (es ms : List (ℕ × PieceView)) (new v p grown base base' hollow : PieceView) (start end last : ℕ) → GrowsLast es ms new v grown base hollow start end last → piece_at es start ≡ Some p → WritesOver p base base' → IsJoining es new start end ms base'
begin_last_with es ms new v p grown base base' hollow start end last s found w =
    let wo = s.writes.offset in
    let wl = s.writes.len in
    let wo' = w.offset in
    let wl' = w.len in
    let go = s.grows.offset in
    let ge = s.grows.ends in
    record {
      offset = w.offset ∙ (s.writes.offset ∙ s.grows.offset);
      ends = omega arith;
      slot = slot_stays _ hollow s.slot;
      outside = λ x o. last_outside es ms new v grown base hollow start end last x s o;
      rest = λ x r behind e. last_rest es ms new v grown base hollow start end last x r s behind e;
      written = λ at byte low high h. last_both es ms new v p grown base base' hollow start end last at byte s found w low h;
      fresh = λ at byte h no. step_fresh es p base base' start at byte found w no (last_fresh es ms new v grown base hollow start end last at byte s h no);
      origin = λ at byte h. step_origin es new p base base' start at byte found w (last_origin es ms new v grown base hollow start end last at byte s) (w.origin at byte h);
    }
