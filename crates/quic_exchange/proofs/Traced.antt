-- What was sent and not acknowledged is to be sent again, or stands in a payload that is unreported: what is done to a flow keeps it.
use Rattle.std.proofs.Common.{◌≡◌, ◌⊎◌, ℕ, Bool, true, false, List, [], ◌∷◌, None, refl, sym, ap, ◌∙◌, subst, inl, inr, arith, ◌≤◌}
use Rattle.std.specs.Prelude.{◌==◌, ◌&&◌, ◌-◌, ◌^◌, min, not, is_none, nat_le, if◌then◌else◌}
use Rattle.std.proofs.lemmas.Bool.Decides.{nat_tests}
use Rattle.quic_ranges.specs.Runs.{is_in}
use Rattle.quic_wire.specs.declared.frame.StreamMeta.{StreamMeta}
use Rattle.quic_flows.specs.Flow.{SendFlow, SendMove, WasWritten, WasFinished, WasGivenUp, WasAskedToStop, WasPermitted, WasCarried, WasAcked, WasLost, WasResetAcked, with_send_move, with_carried, with_acked, with_lost, with_least_limit, takes_data, counts_for, freed_if_whole}
use Rattle.quic_link.specs.Endpoints.{IsOneOf}
use Rattle.quic_link.proofs.Basics.{either_true, or_left, or_right, same_id}
use Rattle.quic_exchange.specs.Tale.{Part, Carried, GivenUp, Tale, with_deed, with_parts, acked_part, lost_part}

-- one of some frames that are under way, of what was sent on a stream
pub record SomeWay (ways : StreamMeta → Type 0) (f : SendFlow) (id : ℕ) (Is : StreamMeta → Type 0) : Type 0 where
  pub meta : StreamMeta
  pub way : ways meta
  pub on : meta.id ≡ id
  pub sent : meta.offsets.end ≤ f.sent_up_to
  pub is : Is meta

-- it carries an offset
abbrev pub CarriesOffset : ℕ → StreamMeta → Type 0
CarriesOffset n m = is_in (m.offsets.start, m.offsets.end) n ≡ true

-- or the end
abbrev pub CarriesEnd : StreamMeta → Type 0
CarriesEnd m = m.fin ≡ true

-- of a stream that was not given up, each offset that was carried is missing, acknowledged, or under way, and so is its end where it
-- was ended
pub record IsTraced (ways : StreamMeta → Type 0) (id : ℕ) (f : SendFlow) : Type 0 where
  pub bytes : f.reset ≡ None → (n : ℕ) → f.carried n ≡ true → (f.missing n ≡ true) ⊎ ((f.acked n ≡ true) ⊎ SomeWay ways f id (CarriesOffset n))
  pub end : f.reset ≡ None → f.finished ≡ true → (f.end_due ≡ true) ⊎ ((f.end_acked ≡ true) ⊎ SomeWay ways f id CarriesEnd)

-- so of each stream of an end
abbrev pub AreTraced : (StreamMeta → Type 0) → Tale → Type 0
AreTraced ways t = (id : ℕ) → IsTraced ways id (t.flow id)

-- ---- what changes a flow

-- a frame that is under way is so still
way_on : (ways more : StreamMeta → Type 0) (f g : SendFlow) (id : ℕ) (Is : StreamMeta → Type 0) → ((m : StreamMeta) → ways m → more m) → f.sent_up_to ≤ g.sent_up_to → SomeWay ways f id Is → SomeWay more g id Is
way_on ways more f g id Is w u s = record { meta = s.meta; way = w s.meta s.way; on = s.on; sent = let e = s.sent in omega (arith, e, u); is = s.is }

-- nothing that was sent, lost or acknowledged is told, but that it is to be sent
record IsCalm (f g : SendFlow) : Type 0 where
  reset : g.reset ≡ None → f.reset ≡ None
  carried : (n : ℕ) → g.carried n ≡ true → f.carried n ≡ true
  missing : (n : ℕ) → f.missing n ≡ true → g.missing n ≡ true
  acked : (n : ℕ) → f.acked n ≡ true → g.acked n ≡ true
  up_to : f.sent_up_to ≤ g.sent_up_to
  end : g.reset ≡ None → g.finished ≡ true → (g.end_due ≡ true) ⊎ ((f.finished ≡ true) × (f.end_due ≡ true → g.end_due ≡ true) × (f.end_acked ≡ true → g.end_acked ≡ true))

calm_traced : (ways more : StreamMeta → Type 0) (id : ℕ) (f g : SendFlow) → ((m : StreamMeta) → ways m → more m) → IsCalm f g → IsTraced ways id f → IsTraced more id g
calm_traced ways more id f g w c t = record {
  bytes = λ r n k. elim (t.bytes (c.reset r) n (c.carried n k)) [
    | inl m ↦ inl (c.missing n m)
    | inr other ↦ elim other [ inl a ↦ inr (inl (c.acked n a)) | inr s ↦ inr (inr (way_on ways more f g id (CarriesOffset n) w c.up_to s)) ]
  ];
  end = λ r k. elim (c.end r k) [
    | inl due ↦ inl due
    | inr same ↦ elim (t.end (c.reset r) same.0) [
      | inl due ↦ inl (same.1 due)
      | inr other ↦ elim other [ inl a ↦ inr (inl (same.2 a)) | inr s ↦ inr (inr (way_on ways more f g id CarriesEnd w c.up_to s)) ]
    ]
  ];
}

calm_same : (f g : SendFlow) → g.reset ≡ f.reset → g.carried ≡ f.carried → g.missing ≡ f.missing → g.acked ≡ f.acked → g.sent_up_to ≡ f.sent_up_to → g.finished ≡ f.finished → g.end_due ≡ f.end_due → g.end_acked ≡ f.end_acked → IsCalm f g
calm_same f g reset carried missing acked up_to finished due end_acked = record {
  reset = λ r. sym reset ∙ r;
  carried = λ n k. sym (ap (λ h. h n) carried) ∙ k;
  missing = λ n k. ap (λ h. h n) missing ∙ k;
  acked = λ n k. ap (λ h. h n) acked ∙ k;
  up_to = omega (arith, up_to);
  end = λ r k. inr (sym finished ∙ k, (λ d. due ∙ d), (λ a. end_acked ∙ a));
}

calm_if : (b : Bool) (f g h : SendFlow) → IsCalm f g → IsCalm f h → IsCalm f (if b then g else h)
calm_if true f g h c d = c
calm_if false f g h c d = d

calm_one : (f : SendFlow) → IsCalm f f
calm_one f = calm_same f f refl refl refl refl refl refl refl refl

-- what is done to a flow beside what is sent, lost and acknowledged
abbrev pub IsBesideSending : SendMove → Type 0
IsBesideSending (WasCarried first behind fin) = ⊥
IsBesideSending (WasAcked first behind fin) = ⊥
IsBesideSending (WasLost first behind fin) = ⊥
IsBesideSending _ = Unit {0}

calm_move : (m : SendMove) (f : SendFlow) → IsBesideSending m → IsCalm f (with_send_move m f)
calm_move (WasWritten pieces) f k = calm_same f _ refl refl refl refl refl refl refl refl
calm_move WasFinished f k = record { reset = λ r. r; carried = λ n h. h; missing = λ n h. h; acked = λ n h. h; up_to = omega arith; end = λ r h. inl refl }
calm_move (WasGivenUp code) f k = record { reset = λ r. cc; carried = λ n h. h; missing = λ n h. h; acked = λ n h. h; up_to = omega arith; end = λ r h. cc }
calm_move (WasAskedToStop code) f k = calm_same f _ refl refl refl refl refl refl refl refl
calm_move (WasPermitted limit) f k = calm_if (takes_data f.reset f.finished) f (with_least_limit (min limit (2 ^ 62 - 1)) f) f (calm_same f _ refl refl refl refl refl refl refl refl) (calm_one f)
calm_move (WasCarried first behind fin) f k = absurd k
calm_move (WasAcked first behind fin) f k = absurd k
calm_move (WasLost first behind fin) f k = absurd k
calm_move WasResetAcked f k = calm_same f _ refl refl refl refl refl refl refl refl

-- ---- the flow of a stream among all

by_stream : (ways more : StreamMeta → Type 0) (id q : ℕ) (f g : SendFlow) → IsTraced more q f → ((q ≡ id) → IsTraced more q g) → IsTraced more q (if q == id then g else f)
by_stream ways more id q f g other here = by_test (q == id) refl
  where
    by_test : (b : Bool) → (q == id) ≡ b → IsTraced more q (if b then g else f)
    by_test true e = here (same_id q id e)
    by_test false e = other

more_ways : (ways more : StreamMeta → Type 0) (id : ℕ) (f : SendFlow) → ((m : StreamMeta) → ways m → more m) → IsTraced ways id f → IsTraced more id f
more_ways ways more id f w t = calm_traced ways more id f f w (calm_one f) t

pub traced-more : (ways more : StreamMeta → Type 0) (t : Tale) → ((m : StreamMeta) → ways m → more m) → AreTraced ways t → AreTraced more t
traced-more ways more t w k q = more_ways ways more q (t.flow q) w (k q)

pub traced-deed : (ways : StreamMeta → Type 0) (id : ℕ) (m : SendMove) (t : Tale) → IsBesideSending m → AreTraced ways t → AreTraced ways (with_deed id m t)
traced-deed ways id m t b k q = by_stream ways ways id q (t.flow q) (with_send_move m (t.flow q)) (k q) (λ e. calm_traced ways ways q (t.flow q) (with_send_move m (t.flow q)) (λ j w. w) (calm_move m (t.flow q) b) (k q))

-- ---- a frame is sent

module _ (ways : StreamMeta → Type 0) (k : StreamMeta) (there : ways k) where
  sent_now : (f : SendFlow) (id : ℕ) (Is : StreamMeta → Type 0) → id ≡ k.id → Is k → SomeWay ways (with_carried k.offsets.start k.offsets.end k.fin f) id Is
  sent_now f id Is e i = record { meta = k; way = there; on = sym e; sent = omega arith; is = i }

  still : (f : SendFlow) (id : ℕ) (Is : StreamMeta → Type 0) → SomeWay ways f id Is → SomeWay ways (with_carried k.offsets.start k.offsets.end k.fin f) id Is
  still f id Is s = way_on ways ways f (with_carried k.offsets.start k.offsets.end k.fin f) id Is (λ m w. w) (omega arith) s

  missing_now : (f : SendFlow) (id n : ℕ) → id ≡ k.id → (b : Bool) → is_in (k.offsets.start, k.offsets.end) n ≡ b → f.missing n ≡ true
      → ((f.missing n && not (is_in (k.offsets.start, k.offsets.end) n)) ≡ true) ⊎ ((f.acked n ≡ true) ⊎ SomeWay ways (with_carried k.offsets.start k.offsets.end k.fin f) id (CarriesOffset n))
  missing_now f id n e true i m = inr (inr (sent_now f id (CarriesOffset n) e i))
  missing_now f id n e false i m = inl (rw (m, i) refl)

  due_now : (f : SendFlow) (id : ℕ) → id ≡ k.id → (b : Bool) → k.fin ≡ b → f.end_due ≡ true
      → ((f.end_due && not k.fin) ≡ true) ⊎ ((f.end_acked ≡ true) ⊎ SomeWay ways (with_carried k.offsets.start k.offsets.end k.fin f) id CarriesEnd)
  due_now f id e true i d = inr (inr (sent_now f id CarriesEnd e i))
  due_now f id e false i d = inl (rw (d, i) refl)

  carried_one : (f : SendFlow) (id : ℕ) → id ≡ k.id → IsTraced ways id f → IsTraced ways id (with_carried k.offsets.start k.offsets.end k.fin f)
  carried_one f id e t = record {
    bytes = λ r n h. elim (either_true (f.carried n) (is_in (k.offsets.start, k.offsets.end) n) h) [
      | inl before ↦ elim (t.bytes r n before) [
        | inl m ↦ missing_now f id n e (is_in (k.offsets.start, k.offsets.end) n) refl m
        | inr other ↦ elim other [ inl a ↦ inr (inl a) | inr s ↦ inr (inr (still f id (CarriesOffset n) s)) ]
      ]
      | inr now ↦ inr (inr (sent_now f id (CarriesOffset n) e now))
    ];
    end = λ r h. elim (t.end r h) [
      | inl d ↦ due_now f id e k.fin refl d
      | inr other ↦ elim other [ inl a ↦ inr (inl a) | inr s ↦ inr (inr (still f id CarriesEnd s)) ]
    ];
  }

  carried_if : (b : Bool) (f : SendFlow) (id : ℕ) → id ≡ k.id → IsTraced ways id f → IsTraced ways id (if b then with_carried k.offsets.start k.offsets.end k.fin f else f)
  carried_if true f id e t = carried_one f id e t
  carried_if false f id e t = t

  pub traced-carried : (t : Tale) → AreTraced ways t → AreTraced ways (with_deed k.id (WasCarried k.offsets.start k.offsets.end k.fin) t)
  traced-carried t j q = by_stream ways ways k.id q (t.flow q) (with_send_move (WasCarried k.offsets.start k.offsets.end k.fin) (t.flow q)) (j q) (λ e. carried_if (is_none (t.flow q).reset) (t.flow q) q e (j q))

-- ---- a part of a payload is reported

-- what is behind a report of a frame: what it carried is missing or acknowledged, where it was sent
record IsReportedIn (k : StreamMeta) (f g : SendFlow) : Type 0 where
  calm : IsCalm f g
  bytes : f.reset ≡ None → k.offsets.end ≤ f.sent_up_to → (n : ℕ) → CarriesOffset n k → (g.missing n ≡ true) ⊎ (g.acked n ≡ true)
  end : f.reset ≡ None → k.offsets.end ≤ f.sent_up_to → f.finished ≡ true → k.fin ≡ true → (g.end_due ≡ true) ⊎ (g.end_acked ≡ true)

counts_so : (f : SendFlow) (behind : ℕ) → f.reset ≡ None → behind ≤ f.sent_up_to → counts_for f.reset f.sent_up_to behind ≡ true
counts_so f behind r l = let e : nat_le behind f.sent_up_to ≡ true = grind (arith, nat_tests) in rw (r, e) refl

reported_if : (k : StreamMeta) (f g : SendFlow) (b : Bool) → counts_for f.reset f.sent_up_to k.offsets.end ≡ b → IsReportedIn k f g → IsReportedIn k f (if b then g else f)
reported_if k f g true e r = r
reported_if k f g false e r = record {
  calm = calm_one f;
  bytes = λ none l n h. let c = sym (counts_so f k.offsets.end none l) ∙ e in cc;
  end = λ none l d h. let c = sym (counts_so f k.offsets.end none l) ∙ e in cc;
}

acked_in : (k : StreamMeta) (f : SendFlow) → IsReportedIn k f (freed_if_whole (with_acked k.offsets.start k.offsets.end k.fin f))
acked_in k f = record {
  calm = record {
    reset = λ r. r;
    carried = λ n h. h;
    missing = λ n h. h;
    acked = λ n h. or_left (f.acked n) (is_in (k.offsets.start, k.offsets.end) n) h;
    up_to = omega arith;
    end = λ r h. inr (h, (λ d. d), (λ a. or_left f.end_acked k.fin a));
  };
  bytes = λ r l n h. inr (or_right (f.acked n) (is_in (k.offsets.start, k.offsets.end) n) h);
  end = λ r l d h. inr (or_right f.end_acked k.fin h);
}

both_true : (a b : Bool) → a ≡ true → b ≡ true → (a && b) ≡ true
both_true a b e d = rw (e, d) refl

lost_in : (k : StreamMeta) (f : SendFlow) → IsReportedIn k f (with_lost k.offsets.start k.offsets.end k.fin f)
lost_in k f = record {
  calm = record {
    reset = λ r. r;
    carried = λ n h. h;
    missing = λ n h. or_left (f.missing n) (is_in (k.offsets.start, k.offsets.end) n) h;
    acked = λ n h. h;
    up_to = omega arith;
    end = λ r h. inr (h, (λ d. or_left f.end_due (k.fin && f.finished) d), (λ a. a));
  };
  bytes = λ r l n h. inl (or_right (f.missing n) (is_in (k.offsets.start, k.offsets.end) n) h);
  end = λ r l d h. inl (or_right f.end_due (k.fin && f.finished) (both_true k.fin f.finished h d));
}

-- a frame that is under way is the one that is reported, or another
abbrev pub OrOneOf : (StreamMeta → Type 0) → List Part → StreamMeta → Type 0
OrOneOf ways xs m = ways m ⊎ IsOneOf (Carried m) xs

module _ (ways : StreamMeta → Type 0) (x : Part) (xs : List Part) where
  -- where it is the first, what it carried is told, or it is another
  way_first : (f g : SendFlow) (id : ℕ) (Is : StreamMeta → Type 0) (T : Type 0) → f.sent_up_to ≤ g.sent_up_to → ((m : StreamMeta) → Carried m ≡ x → m.id ≡ id → m.offsets.end ≤ f.sent_up_to → Is m → T) → SomeWay (OrOneOf ways (x ∷ xs)) f id Is → T ⊎ SomeWay (OrOneOf ways xs) g id Is
  way_first f g id Is T u told s = elim s.way [
    | inl w ↦ inr (record { meta = s.meta; way = inl w; on = s.on; sent = let e = s.sent in omega (arith, e, u); is = s.is })
    | inr h ↦ elim h [
      | inl e ↦ inl (told s.meta e s.on s.sent s.is)
      | inr l ↦ inr (record { meta = s.meta; way = inr l; on = s.on; sent = let e = s.sent in omega (arith, e, u); is = s.is })
    ]
  ]

  -- it tells of a flow what the report of each frame tells that it is
  traced_by : (id : ℕ) (f g : SendFlow) → IsCalm f g → ((m : StreamMeta) → Carried m ≡ x → m.id ≡ id → IsReportedIn m f g) → IsTraced (OrOneOf ways (x ∷ xs)) id f → IsTraced (OrOneOf ways xs) id g
  traced_by id f g c told t = record {
    bytes = λ r n k. elim (t.bytes (c.reset r) n (c.carried n k)) [
      | inl m ↦ inl (c.missing n m)
      | inr other ↦ elim other [
        | inl a ↦ inr (inl (c.acked n a))
        | inr s ↦ elim (way_first f g id (CarriesOffset n) ((g.missing n ≡ true) ⊎ (g.acked n ≡ true)) c.up_to (λ m e on l i. (told m e on).bytes (c.reset r) l n i) s) [
          | inl now ↦ elim now [ inl m ↦ inl m | inr a ↦ inr (inl a) ]
          | inr way ↦ inr (inr way)
        ]
      ]
    ];
    end = λ r k. elim (c.end r k) [
      | inl due ↦ inl due
      | inr same ↦ elim (t.end (c.reset r) same.0) [
        | inl due ↦ inl (same.1 due)
        | inr other ↦ elim other [
          | inl a ↦ inr (inl (same.2 a))
          | inr s ↦ elim (way_first f g id CarriesEnd ((g.end_due ≡ true) ⊎ (g.end_acked ≡ true)) c.up_to (λ m e on l i. (told m e on).end (c.reset r) l same.0 i) s) [
            | inl now ↦ elim now [ inl d ↦ inl d | inr a ↦ inr (inl a) ]
            | inr way ↦ inr (inr way)
          ]
        ]
      ]
    ];
  }

same_meta : (m k : StreamMeta) → Carried m ≡ Carried k → m ≡ k
same_meta m k e = cc

no_meta : (m : StreamMeta) (id : ℕ) → Carried m ≡ GivenUp id → ⊥
no_meta m id e = cc

-- a report of a part, as it is told of a tale
abbrev pub TellsPart : (Part → Tale → Tale) → Type 1
TellsPart deed = (ways : StreamMeta → Type 0) (x : Part) (xs : List Part) (t : Tale) → AreTraced (OrOneOf ways (x ∷ xs)) t → AreTraced (OrOneOf ways xs) (deed x t)

-- what is reported of one stream is told of that
module _ (ways : StreamMeta → Type 0) (k : StreamMeta) (xs : List Part) (t : Tale) (move : SendMove) (told : (f : SendFlow) → IsReportedIn k f (with_send_move move f)) where
  told_one : (m : StreamMeta) (f : SendFlow) → Carried m ≡ Carried k → IsReportedIn m f (with_send_move move f)
  told_one m f e = let P : StreamMeta → Type 0 = λ j. IsReportedIn j f (with_send_move move f) in subst P (sym (same_meta m k e)) (told f)

  told_part : AreTraced (OrOneOf ways (Carried k ∷ xs)) t → AreTraced (OrOneOf ways xs) (with_deed k.id move t)
  told_part j q = by_test (q == k.id) refl
    where
      apart_from : (m : StreamMeta) → Carried m ≡ Carried k → m.id ≡ q → (q == k.id) ≡ false → ⊥
      apart_from m c on e =
          let same : q ≡ k.id = sym on ∙ ap (λ (j : StreamMeta). j.id) (same_meta m k c) in
          grind (arith, nat_tests)

      by_test : (b : Bool) → (q == k.id) ≡ b → IsTraced (OrOneOf ways xs) q (if b then with_send_move move (t.flow q) else t.flow q)
      by_test true e = traced_by ways (Carried k) xs q (t.flow q) (with_send_move move (t.flow q)) (told (t.flow q)).calm (λ m c on. told_one m (t.flow q) c) (j q)
      by_test false e = traced_by ways (Carried k) xs q (t.flow q) (t.flow q) (calm_one (t.flow q)) (λ m c on. absurd (apart_from m c on e)) (j q)

pub acked-told : TellsPart acked_part
acked-told ways (Carried k) xs t j = told_part ways k xs t (WasAcked k.offsets.start k.offsets.end k.fin) (λ f. reported_if k f (freed_if_whole (with_acked k.offsets.start k.offsets.end k.fin f)) (counts_for f.reset f.sent_up_to k.offsets.end) refl (acked_in k f)) j
acked-told ways (GivenUp id) xs t j =
    traced-deed (OrOneOf ways xs) id WasResetAcked t tt (λ q. traced_by ways (GivenUp id) xs q (t.flow q) (t.flow q) (calm_one (t.flow q)) (λ m e on. absurd (no_meta m id e)) (j q))

pub lost-told : TellsPart lost_part
lost-told ways (Carried k) xs t j = told_part ways k xs t (WasLost k.offsets.start k.offsets.end k.fin) (λ f. reported_if k f (with_lost k.offsets.start k.offsets.end k.fin f) (counts_for f.reset f.sent_up_to k.offsets.end) refl (lost_in k f)) j
lost-told ways (GivenUp id) xs t j = λ q. traced_by ways (GivenUp id) xs q (t.flow q) (t.flow q) (calm_one (t.flow q)) (λ m e on. absurd (no_meta m id e)) (j q)

-- each of them, one after another
pub parts-told : (deed : Part → Tale → Tale) → TellsPart deed → (ways : StreamMeta → Type 0) (xs : List Part) (t : Tale) → AreTraced (OrOneOf ways xs) t → AreTraced (OrOneOf ways []) (with_parts deed xs t)
parts-told deed told ways [] t k = k
parts-told deed told ways (x ∷ xs) t k = parts-told deed told ways xs (deed x t) (told ways x xs t k)
