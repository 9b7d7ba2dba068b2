-- Lemmas on the reports of whole payloads.
use Rattle.std.specs.Prelude.{OnOk}
use Rattle.std.proofs.Common.{◌≡◌, ℕ, ◌+◌, ◌<◌, Result, Ok, Err, List, [], ◌∷◌, ◌++◌, length, take, drop, get_or, Option, Some, refl, sym, ap, ◌∙◌, subst, arith}
use Rattle.std.proofs.lemmas.List.{take-append-drop, drop_more, length-take-le}
use Rattle.std.proofs.Math.Seq.{drop-append_seam}
use Rattle.quic_wire.specs.declared.frame.StreamMeta.{StreamMeta}
use Rattle.quic_retransmits.specs.Pending.{Pending}
use Rattle.quic_history.specs.World.{World}
use Rattle.quic_streams.specs.Settling.{EachInOrder, StopsAtFrame, StopsAtReset, AcksMeta, AcksResetOf, RefusesReset}
use Rattle.quic_streams.specs.Sent.{StopsAfter, StopsAfterResets}

-- one more report
pub one-more : {T : Type 0} → (Each : World → T → World → Type 0) (u w v : World) (xs : List T) (x : T) → EachInOrder Each u xs w → Each w x v → EachInOrder Each u (xs ++ x ∷ []) v
one-more {T} Each u w v [] x e s = let P : World → Type 0 = λ a. Each a x v in (v, subst P e s, refl)
one-more {T} Each u w v (y ∷ ys) x e s = (e.0, e.1, one-more Each e.0 w v ys x e.2 s)

-- the report of the next is refused, with as many before it as the answer says
pub stops-at : {T : Type 0} → (Each : World → T → World → Type 0) (Refuses : World → T → Type 0) (u w v : World) (xs : List T) (i n : ℕ) (x : T) → i < length xs
    → EachInOrder Each u (take i xs) w → (e : ℕ) → (e ≡ i) × Refuses w x × (v ≡ w) → x ≡ get_or xs i x → n ≡ e → StopsAfter T Each Refuses u xs v n
stops-at {T} Each Refuses u w v xs i n x lt reports e refused is answer =
    let P : World → Type 0 = λ a. StopsAfter T Each Refuses u xs a n in
    subst P (sym refused.2) (record {
      stops = record {
        told = take i xs;
        next = x;
        rest = drop (i + 1) xs;
        parts = sym (take-append-drop i xs) ∙ ap (λ ys. take i xs ++ ys) (drop_more xs i x lt ∙ ap (λ y. y ∷ drop (i + 1) xs) (sym is));
        reports = reports;
        refused = refused.1;
      };
      behind = length-take-le i xs (omega (arith, lt)) ∙ sym (answer ∙ refused.0);
    })

-- what is left behind those that were reported
pub left-after : {T : Type 0} → (Each : World → T → World → Type 0) (Refuses : World → T → Type 0) (u v : World) (xs : List T) (count : ℕ) (s : StopsAfter T Each Refuses u xs v count)
    → drop count xs ≡ s.stops.next ∷ s.stops.rest
left-after {T} Each Refuses u v xs count s =
    let rest : List T = s.stops.next ∷ s.stops.rest in
    ap (λ n. drop n xs) (sym s.behind) ∙ ap (drop (length s.stops.told)) s.stops.parts ∙ drop-append_seam s.stops.told rest

-- a report that stopped at a frame, and what comes back
pub stops-at-frame : (Each : World → StreamMeta → World → Type 0) (Refuses : World → StreamMeta → Type 0) (u v : World) (metas back : List StreamMeta) (control : Option Pending) (count : ℕ)
    → StopsAfter StreamMeta Each Refuses u metas v count → back ≡ drop count metas
    → StopsAtFrame Each Refuses u (record { streams = metas; control = control }) (record { streams = back; control = control }) v
stops-at-frame Each Refuses u v metas back control count s e = record {
  frames = s.stops;
  left = ap (λ xs. record { streams = xs; control = control }) (e ∙ left-after Each Refuses u v metas count s);
}

-- and one that stopped at a reset
pub stops-at-reset : (u w v : World) (metas back : List StreamMeta) (control left : Option Pending) (count : ℕ) → EachInOrder AcksMeta u metas w
    → (s : StopsAfterResets w control v count) → back ≡ [] → left ≡ Some (record s.control { reset_stream = drop count s.control.reset_stream })
    → StopsAtReset u (record { streams = metas; control = control }) (record { streams = back; control = left }) v
stops-at-reset u w v metas back control left count e s none is = record {
  between = w;
  control = s.control;
  frames = e;
  noted = s.is;
  resets = s.resets.stops;
  left =
      let some : left ≡ Some (record s.control { reset_stream = s.resets.stops.next ∷ s.resets.stops.rest }) =
      is ∙ ap (λ rs. Some (record s.control { reset_stream = rs })) (left-after AcksResetOf RefusesReset w v s.control.reset_stream count s.resets) in
      ap (λ xs. record { streams = xs; control = left }) none ∙ ap (λ c. record { streams = []; control = c }) some;
}

-- what holds of an answer that is no error
pub ok-there : {E P : Type 0} (r : Result (Unit {0}) E) → OnOk r P → ((e : E) → r ≡ Err e → ⊥) → P
ok-there (Ok x) p not = p
ok-there (Err e) p not = absurd (not e refl)
