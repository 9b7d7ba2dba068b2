-- A reset that was pending is so still once a payload was written, or is noted of it, or its half was freed.
use Rattle.std.proofs.Common.{◌≡◌, ◌⊎◌, ℕ, Bool, List, [], ◌∷◌, ◌++◌, Option, Some, None, Result, Ok, Err, refl, sym, ap, ◌∙◌, subst, inl, inr}
use Rattle.quic_values.specs.declared.ids.Dir.TheVariants.{Bi, Uni}
use Rattle.quic_values.specs.declared.memory.OutOfMemory.{OutOfMemory}
use Rattle.quic_wire.specs.declared.frame.Frame.{Frame}
use Rattle.quic_wire.specs.declared.frame.Frame.TheVariants as frames
use Rattle.quic_datagrams.specs.declared.stats.FrameStats.{FrameStats}
use Rattle.quic_sending.specs.declared.send.Send.{Send}
use Rattle.quic_retransmits.specs.Pending.{Pending, nothing}
use Rattle.quic_retransmits.specs.Settling.{noted}
use Rattle.quic_outgoing.specs.Outgoing.{Outgoing}
use Rattle.quic_history.specs.World.{World}
use Rattle.quic_history.specs.Control.{SettlesEntry, SettlesReset, reset_frame}
use Rattle.quic_history.specs.declared.control.ControlKind.{ControlKind}
use Rattle.quic_history.specs.declared.control.ControlKind.TheVariants as kinds
use Rattle.quic_streams.specs.Payload.{Sheet, PayloadPlace, with_frame_written_if, SettlesOne, SettlesSome, none, more, WritesKinds}
use Rattle.quic_link.specs.Endpoints.{IsOneOf}
use Rattle.quic_endpoint.specs.Ends.{EndState}
use Rattle.quic_endpoint.specs.Emitting.{PayloadView, control_in, place_at}
use Rattle.quic_exchange.proofs.Lists.{one-of-first, one-of-last}
use Rattle.quic_exchange.proofs.Emissions.{EmitsSomeAt, whole, cut}

-- what became of a reset while frames were written
abbrev pub IsLeftOf : World → Pending → Pending → ℕ × ℕ → Type 0
IsLeftOf u p sent z = IsOneOf z p.reset_stream ⊎ (IsOneOf z sent.reset_stream ⊎ (u.out.halves z.0 ≡ None))

-- ---- one entry

noted_stays : (z : ℕ × ℕ) (p : Pending) (f : Frame) → IsOneOf z p.reset_stream → IsOneOf z (noted p f).reset_stream
noted_stays z p (frames.ResetStream f) i = one-of-first z p.reset_stream ((f.id, f.error_code) ∷ []) i
noted_stays z p (frames.MaxStreams Bi count) i = i
noted_stays z p (frames.MaxStreams Uni count) i = i
noted_stays z p _ i = i

written_stays : (z : ℕ × ℕ) (s : Sheet) (o : Option Frame) → IsOneOf z s.sent.reset_stream → IsOneOf z (with_frame_written_if s o).sent.reset_stream
written_stays z s None i = i
written_stays z s (Some f) i = noted_stays z s.sent f i

front_or_last : (z last : ℕ × ℕ) (front : List (ℕ × ℕ)) → IsOneOf z (front ++ last ∷ []) → IsOneOf z front ⊎ (z ≡ last)
front_or_last z last [] (inl e) = inr e
front_or_last z last [] (inr h) = absurd h
front_or_last z last (y ∷ ys) (inl e) = inl (inl e)
front_or_last z last (y ∷ ys) (inr h) = elim (front_or_last z last ys h) [ inl i ↦ inl (inr i) | inr e ↦ inr e ]

is_last : (z : ℕ × ℕ) (xs : List (ℕ × ℕ)) → IsOneOf z (xs ++ z ∷ [])
is_last z xs = one-of-last z xs (z ∷ []) (inl refl)

module _ (z : ℕ × ℕ) where
  -- the last reset leaves what is pending
  reset_left : (u : World) (p : Pending) (s : Sheet) (o : Option Frame) (v : World) (q : Pending) → SettlesReset u p o v q → IsOneOf z p.reset_stream → IsLeftOf v q (with_frame_written_if s o).sent z
  reset_left u p s o v q e i =
      let P : List (ℕ × ℕ) → Type 0 = λ l. IsOneOf z l in
      let Q : Pending → Type 0 = λ r. IsOneOf z r.reset_stream in
      elim (front_or_last z (e.id, e.code) e.front (subst P e.last i)) [
        | inl before ↦ inl (subst Q (sym e.left) before)
        | inr now ↦ inr (by_half (u.out.halves e.id) refl now)
      ]
    where
      by_half : (h : Option Send) → u.out.halves e.id ≡ h → z ≡ (e.id, e.code) → IsOneOf z (with_frame_written_if s o).sent.reset_stream ⊎ (v.out.halves z.0 ≡ None)
      by_half None held now =
          let R : ℕ × ℕ → Type 0 = λ y. v.out.halves y.0 ≡ None in
          inr (subst R (sym now) (ap (λ (w : World). w.out.halves e.id) e.end ∙ held))
      by_half (Some h) held now =
          let frame : o ≡ Some (frames.ResetStream (record { id = e.id; error_code = e.code; final_offset = h.pending.offset })) = e.frame ∙ ap (reset_frame e.id e.code) held in
          let R : Option Frame → Type 0 = λ f. IsOneOf z (with_frame_written_if s f).sent.reset_stream in
          let S : ℕ × ℕ → Type 0 = λ y. IsOneOf z (s.sent.reset_stream ++ y ∷ []) in
          inl (subst R (sym frame) (subst S now (is_last z s.sent.reset_stream)))

  -- an entry of another kind does
  other_left : (u v : World) (p q : Pending) (s : Sheet) (o : Option Frame) → v.out ≡ u.out → q.reset_stream ≡ p.reset_stream → IsLeftOf u p s.sent z → IsLeftOf v q (with_frame_written_if s o).sent z
  other_left u v p q s o out same (inl i) = let P : List (ℕ × ℕ) → Type 0 = λ l. IsOneOf z l in inl (subst P (sym same) i)
  other_left u v p q s o out same (inr (inl i)) = inr (inl (written_stays z s o i))
  other_left u v p q s o out same (inr (inr n)) = inr (inr (ap (λ (x : Outgoing). x.halves z.0) out ∙ n))

  beside_left : (u v : World) (p q : Pending) (s : Sheet) (o : Option Frame) → v.out ≡ u.out → IsOneOf z s.sent.reset_stream ⊎ (u.out.halves z.0 ≡ None) → IsLeftOf v q (with_frame_written_if s o).sent z
  beside_left u v p q s o out (inl i) = inr (inl (written_stays z s o i))
  beside_left u v p q s o out (inr n) = inr (inr (ap (λ (x : Outgoing). x.halves z.0) out ∙ n))

  entry_left : (kind : ControlKind) (u : World) (p : Pending) (s : Sheet) (o : Option Frame) (v : World) (q : Pending) → SettlesEntry kind u p o v q → IsLeftOf u p s.sent z → IsLeftOf v q (with_frame_written_if s o).sent z
  entry_left kinds.ResetStream u p s o v q e (inl i) = reset_left u p s o v q e i
  entry_left kinds.ResetStream u p s o v q e (inr k) = beside_left u v p q s o (ap (λ (w : World). w.out) e.end) k
  entry_left kinds.StopSending u p s o v q e l = other_left u v p q s o (ap (λ (w : World). w.out) e.end) (ap (λ (r : Pending). r.reset_stream) e.left) l
  entry_left kinds.MaxData u p s o v q e l = other_left u v p q s o (ap (λ (w : World). w.out) e.end) (ap (λ (r : Pending). r.reset_stream) e.left) l
  entry_left kinds.MaxStreamData u p s o v q e l = other_left u v p q s o (ap (λ (w : World). w.out) e.end) (ap (λ (r : Pending). r.reset_stream) e.left) l
  entry_left (kinds.MaxStreams Bi) u p s o v q e l = other_left u v p q s o (ap (λ (w : World). w.out) e.end) (ap (λ (r : Pending). r.reset_stream) e.left) l
  entry_left (kinds.MaxStreams Uni) u p s o v q e l = other_left u v p q s o (ap (λ (w : World). w.out) e.end) (ap (λ (r : Pending). r.reset_stream) e.left) l
  entry_left kinds.DataBlocked u p s o v q e l = other_left u v p q s o (ap (λ (w : World). w.out) e.end) (ap (λ (r : Pending). r.reset_stream) e.left) l
  entry_left kinds.StreamDataBlocked u p s o v q e l = other_left u v p q s o (ap (λ (w : World). w.out) e.end) (ap (λ (r : Pending). r.reset_stream) e.left) l

  -- ---- all entries

  abbrev IsLeftAt : PayloadPlace → Type 0
  IsLeftAt x = IsLeftOf x.end x.pending x.sheet.sent z

  one_left : (kind : ControlKind) (x y : PayloadPlace) → SettlesOne kind x y → IsLeftAt x → IsLeftAt y
  one_left kind x y s l = let P : Sheet → Type 0 = λ h. IsLeftOf y.end y.pending h.sent z in subst P (sym s.written) (entry_left kind x.end x.pending x.sheet s.frame y.end y.pending s.settles l)

  some_left : {kind : ControlKind} {most : ℕ} {x y : PayloadPlace} → SettlesSome kind most x y → IsLeftAt x → IsLeftAt y
  some_left (none {p}) l = l
  some_left {kind} {most} (more {p} {q} {r} before room s) l = one_left kind q r s (some_left before l)

  kinds_left : (most : ℕ) (all : List ControlKind) (x y : PayloadPlace) (answer : Result (Unit {0}) OutOfMemory) → WritesKinds most all x answer y → IsLeftAt x → IsLeftAt y
  kinds_left most [] x y (Ok r) w l = let P : PayloadPlace → Type 0 = λ k. IsLeftAt k in subst P (sym w) l
  kinds_left most [] x y (Err e) w l = absurd w
  kinds_left most (k ∷ ks) x y answer w l = elim w [
    | inl a ↦ kinds_left most ks a.0 y answer a.2 (some_left a.1.turns l)
    | inr b ↦ some_left b.1 l
  ]

  -- ---- a payload

  -- the control frames change no half of the sending side
  kind_out : (kind : ControlKind) (u : World) (p : Pending) (o : Option Frame) (v : World) (q : Pending) → SettlesEntry kind u p o v q → v.out ≡ u.out
  kind_out kinds.ResetStream u p o v q e = ap (λ (w : World). w.out) e.end
  kind_out kinds.StopSending u p o v q e = ap (λ (w : World). w.out) e.end
  kind_out kinds.MaxData u p o v q e = ap (λ (w : World). w.out) e.end
  kind_out kinds.MaxStreamData u p o v q e = ap (λ (w : World). w.out) e.end
  kind_out (kinds.MaxStreams Bi) u p o v q e = ap (λ (w : World). w.out) e.end
  kind_out (kinds.MaxStreams Uni) u p o v q e = ap (λ (w : World). w.out) e.end
  kind_out kinds.DataBlocked u p o v q e = ap (λ (w : World). w.out) e.end
  kind_out kinds.StreamDataBlocked u p o v q e = ap (λ (w : World). w.out) e.end

  some_out : {kind : ControlKind} {most : ℕ} {x y : PayloadPlace} → SettlesSome kind most x y → y.end.out ≡ x.end.out
  some_out (none {p}) = refl
  some_out {kind} {most} (more {p} {q} {r} before room s) = kind_out kind q.end q.pending s.frame r.end r.pending s.settles ∙ some_out before

  kinds_out : (most : ℕ) (all : List ControlKind) (x y : PayloadPlace) (answer : Result (Unit {0}) OutOfMemory) → WritesKinds most all x answer y → y.end.out ≡ x.end.out
  kinds_out most [] x y (Ok r) w = ap (λ (k : PayloadPlace). k.end.out) w
  kinds_out most [] x y (Err e) w = absurd w
  kinds_out most (k ∷ ks) x y answer w = elim w [
    | inl a ↦ kinds_out most ks a.0 y answer a.2 ∙ some_out a.1.turns
    | inr b ↦ some_out b.1
  ]

  -- what was pending is so still, or is noted of the payload, or its half was freed before
  control_left : (most : ℕ) (all : List ControlKind) (e f : EndState) (payload : PayloadView) (bytes : List ℕ) (before after : FrameStats) (answer : Result (Unit {0}) OutOfMemory) → WritesKinds most all (place_at e [] nothing before) answer (place_at f bytes (control_in payload) after)
      → IsOneOf z e.pending.reset_stream → IsOneOf z f.pending.reset_stream ⊎ (IsOneOf z (control_in payload).reset_stream ⊎ (e.streams.out.halves z.0 ≡ None))
  control_left most all e f payload bytes before after answer w i =
      let out : f.streams.out ≡ e.streams.out = kinds_out most all (place_at e [] nothing before) (place_at f bytes (control_in payload) after) answer w in
      elim (kinds_left most all (place_at e [] nothing before) (place_at f bytes (control_in payload) after) answer w (inl i)) [
        | inl pending ↦ inl pending
        | inr (inl noted) ↦ inr (inl noted)
        | inr (inr gone) ↦ inr (inr (sym (ap (λ (x : Outgoing). x.halves z.0) out) ∙ gone))
      ]

pub emits-left : {most : ℕ} {fair : Bool} {e f : EndState} {payload : PayloadView} {answer : Result (Unit {0}) OutOfMemory} (z : ℕ × ℕ) → EmitsSomeAt most fair e payload answer f → IsOneOf z e.pending.reset_stream
    → IsOneOf z f.pending.reset_stream ⊎ (IsOneOf z (control_in payload).reset_stream ⊎ (e.streams.out.halves z.0 ≡ None))
emits-left {most} {fair} {e} {f} {payload} z (whole {answer} between bytes c d) i =
    let P : Pending → Type 0 = λ r. IsOneOf z r.reset_stream ⊎ (IsOneOf z (control_in payload).reset_stream ⊎ (e.streams.out.halves z.0 ≡ None)) in
    subst P (sym d.pending) (control_left z most c.kinds e between payload bytes c.before c.after (Ok tt) c.writes i)
emits-left {most} {fair} {e} {f} {payload} z (cut {first} between bytes c d) i =
    let P : EndState → Type 0 = λ x. IsOneOf z x.pending.reset_stream ⊎ (IsOneOf z (control_in payload).reset_stream ⊎ (e.streams.out.halves z.0 ≡ None)) in
    subst P (sym d.same) (control_left z most c.kinds e between payload bytes c.before c.after first c.writes i)
