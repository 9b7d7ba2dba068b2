-- A payload that an end writes announces what it permits, where that was pending and is not.
use Rattle.std.proofs.Common.{◌≡◌, ◌⊎◌, ℕ, Bool, true, false, List, [], ◌∷◌, ◌++◌, Option, Some, None, Result, Ok, Err, refl, sym, ap, ◌∙◌, subst, inl, inr, arith, ◌≤◌}
use Rattle.std.specs.Prelude.{IfSome, ◌||◌, ◌==◌, ◌&&◌, map}
use Rattle.std.proofs.lemmas.List.{append_assoc, append-nil}
use Rattle.std.proofs.lemmas.Option.{same_Some}
use Rattle.quic_values.specs.declared.ids.Dir.TheVariants.{Bi, Uni}
use Rattle.quic_values.specs.declared.memory.OutOfMemory.{OutOfMemory}
use Rattle.quic_wire.specs.declared.frame.Frame.{Frame}
use Rattle.quic_wire.specs.declared.frame.Frame.TheVariants as frames
use Rattle.quic_wire.specs.Text.{text}
use Rattle.quic_wire.specs.Frames.{BeginsFrames, AreFrames}
use Rattle.quic_wire.proofs.Joins.{join}
use Rattle.quic_datagrams.specs.declared.stats.FrameStats.{FrameStats}
use Rattle.quic_retransmits.specs.Pending.{Pending, nothing}
use Rattle.quic_retransmits.specs.Settling.{noted}
use Rattle.quic_writing.specs.Appended.{frame_with}
use Rattle.quic_history.specs.World.{World}
use Rattle.quic_history.specs.Control.{SettlesEntry, kind_bound}
use Rattle.quic_history.specs.declared.control.ControlKind.{ControlKind}
use Rattle.quic_history.specs.History.{From}
use Rattle.quic_history.proofs.Traces.{itself}
use Rattle.quic_streams.specs.Payload.{Sheet, PayloadPlace, with_frame_written, with_frame_written_if, SettlesOne, SettlesSome, FitsIn, none, more, WritesKinds}
use Rattle.quic_streams.specs.Transmitting.{told_bytes}
use Rattle.quic_link.specs.Endpoints.{LinkedEnd, Linked, IsOneOf}
use Rattle.quic_link.proofs.Joint.{agrees}
use Rattle.quic_endpoint.specs.Ends.{EndState}
use Rattle.quic_endpoint.specs.Emitting.{PayloadView, control_in, place_at, EmitsStreams, EmitsNoStream}
use Rattle.quic_exchange.specs.Payloads.{noted_of}
use Rattle.quic_exchange.proofs.Emissions.{EmitsSomeAt, whole, cut}
use Rattle.quic_exchange.proofs.Joined.{Stands}
use Rattle.quic_exchange.proofs.Lists.{one-of-first}
use Rattle.quic_exchange.proofs.DuePayloads.{noted-joined, is-last}
use Rattle.quic_exchange.proofs.PayloadPages.{Page, page-control}
use Rattle.quic_progress.proofs.Permissions.{Permission, AllData, DataOn, StreamsOf, frame_of, is_asked, announced_of, permitted_of, eighth_of, IsWithin}
use Rattle.quic_progress.proofs.Written.{DoesEntry, entered}

-- what became of a permission while frames were written
abbrev pub Does : Permission → World → Pending → World → Pending → List Frame → Type 0
Does k u p v q all = ((announced_of k v ≡ announced_of k u) × (is_asked k p ≡ true → is_asked k q ≡ true))
    ⊎ ((IsOneOf (frame_of k (announced_of k v)) all × (permitted_of k v ≤ announced_of k v)) ⊎ ((announced_of k v ≡ 0) × (permitted_of k v ≡ 0)))

-- the frames beside STREAM that were written so far, from an end and what it had to send on
record Said (u : World) (p : Pending) (x : PayloadPlace) : Type 0 where
  all : List Frame
  spelled : (rest : List ℕ) → BeginsFrames (x.sheet.bytes ++ rest) all rest
  noted : x.sheet.sent ≡ noted_of nothing all
  window : x.end.window ≡ u.window
  debt : x.end.credit.shrink_debt ≡ u.credit.shrink_debt
  permitted : (k : Permission) → permitted_of k x.end ≡ permitted_of k u
  eighth : (k : Permission) → eighth_of k x.end ≡ eighth_of k u
  within : IsWithin x.end
  does : (k : Permission) → Does k u p x.end x.pending all

module _ (u : World) (p : Pending) where
  -- the same frames with more behind them
  said_then : (k : Permission) (x y : World) (a b : Pending) (o : Option Frame) (all longer : List Frame) → ((f : Frame) → IsOneOf f all → IsOneOf f longer) → ((f : Frame) → o ≡ Some f → IsOneOf f longer) → permitted_of k y ≡ permitted_of k x → Does k u p x a all → DoesEntry k x a o y b → Does k u p y b longer
  said_then k x y a b o all longer old new same d e = elim e [
    | inl kept ↦ elim d [
      | inl was ↦ inl (kept.0 ∙ was.0, λ t. kept.1 (was.1 t))
      | inr (inl said) ↦ (let P : ℕ → Type 0 = λ n. IsOneOf (frame_of k n) longer in inr (inl (subst P (sym kept.0) (old _ said.0), let l = said.1 in let m = kept.0 in omega (arith, l, m, same))))
      | inr (inr nil) ↦ inr (inr (kept.0 ∙ nil.0, same ∙ nil.1))
    ]
    | inr (inl said) ↦ inr (inl (new _ said.0, said.1))
    | inr (inr nil) ↦ inr (inr nil)
  ]

  module _ (x y : PayloadPlace) (t : Said u p x) (kind : ControlKind) where
    said_dropped : SettlesEntry kind x.end x.pending None y.end y.pending → y.sheet ≡ x.sheet → Said u p y
    said_dropped s same =
        let e = entered kind x.end x.pending None y.end y.pending t.within s in
        let P : Sheet → Type 0 = λ h. (rest : List ℕ) → BeginsFrames (h.bytes ++ rest) t.all rest in
        record {
          all = t.all;
          spelled = subst P (sym same) t.spelled;
          noted = ap (λ (h : Sheet). h.sent) same ∙ t.noted;
          window = e.window ∙ t.window;
          debt = e.debt ∙ t.debt;
          permitted = λ k. e.permitted k ∙ t.permitted k;
          eighth = λ k. e.eighth k ∙ t.eighth k;
          within = e.within;
          does = λ k. said_then k x.end y.end x.pending y.pending None t.all t.all (λ f h. h) (λ f h. cc) (e.permitted k) (t.does k) (e.does k);
        }

    said_written : (g : Frame) → SettlesEntry kind x.end x.pending (Some g) y.end y.pending → y.sheet ≡ with_frame_written x.sheet g → FitsIn (kind_bound kind) g → Said u p y
    said_written g s same fits =
        let e = entered kind x.end x.pending (Some g) y.end y.pending t.within s in
        let P : Sheet → Type 0 = λ h. (rest : List ℕ) → BeginsFrames (h.bytes ++ rest) (t.all ++ g ∷ []) rest in
        record {
          all = t.all ++ g ∷ [];
          spelled = subst P (sym same) (λ rest. spelled_more rest);
          noted = ap (λ (h : Sheet). h.sent) same ∙ ap (λ (j : Pending). noted j g) t.noted ∙ sym (noted-joined nothing t.all (g ∷ []));
          window = e.window ∙ t.window;
          debt = e.debt ∙ t.debt;
          permitted = λ k. e.permitted k ∙ t.permitted k;
          eighth = λ k. e.eighth k ∙ t.eighth k;
          within = e.within;
          does = λ k. said_then k x.end y.end x.pending y.pending (Some g) t.all (t.all ++ g ∷ []) (λ f h. one-of-first f t.all (g ∷ []) h) (λ f h. last_is f h) (e.permitted k) (t.does k) (e.does k);
        }
      where
        spelled_more : (rest : List ℕ) → BeginsFrames ((x.sheet.bytes ++ text g) ++ rest) (t.all ++ g ∷ []) rest
        spelled_more rest =
            let P : List ℕ → Type 0 = λ b. BeginsFrames b (t.all ++ g ∷ []) rest in
            subst P (sym (append_assoc x.sheet.bytes (text g) rest))
            (join (x.sheet.bytes ++ (text g ++ rest)) (text g ++ rest) rest t.all (g ∷ []) (t.spelled (text g ++ rest)) (rest, fits.spelled rest, refl))

        last_is : (f : Frame) → Some g ≡ Some f → IsOneOf f (t.all ++ g ∷ [])
        last_is f h = let P : Frame → Type 0 = λ x. IsOneOf x (t.all ++ g ∷ []) in subst P (same_Some g f h) (is-last g t.all)

    said_one : SettlesOne kind x y → Said u p y
    said_one s = by_frame s.frame s.settles s.written s.fits
      where
        by_frame : (frame : Option Frame) → SettlesEntry kind x.end x.pending frame y.end y.pending → y.sheet ≡ with_frame_written_if x.sheet frame → IfSome frame (FitsIn (kind_bound kind)) → Said u p y
        by_frame None k same fits = said_dropped k same
        by_frame (Some g) k same fits = said_written g k same fits

  said_some : {kind : ControlKind} {most : ℕ} {x y : PayloadPlace} → Said u p x → SettlesSome kind most x y → Said u p y
  said_some t (none {p}) = t
  said_some {kind} {most} t (more {p} {q} {r} before room s) = said_one q r (said_some t before) kind s

  said_kinds : (most : ℕ) (kinds : List ControlKind) (x y : PayloadPlace) (answer : Result (Unit {0}) OutOfMemory) → Said u p x → WritesKinds most kinds x answer y → Said u p y
  said_kinds most [] x y (Ok r) t w = let P : PayloadPlace → Type 0 = λ k. Said u p k in subst P (sym w) t
  said_kinds most [] x y (Err e) t w = absurd w
  said_kinds most (k ∷ ks) x y answer t w = elim w [
    | inl a ↦ said_kinds most ks a.0 y answer (said_some t a.1.turns) a.2
    | inr b ↦ said_some t b.1
  ]

said_first : (e : EndState) (stats : FrameStats) → IsWithin e.streams → Said e.streams e.pending (place_at e [] nothing stats)
said_first e stats w = record { all = []; spelled = λ rest. refl; noted = refl; window = refl; debt = refl; permitted = λ k. refl; eighth = λ k. refl; within = w; does = λ k. inl (refl, λ a. a) }

-- ---- a payload

-- what became of all permissions
pub record Emptied (e f : EndState) (payload : PayloadView) : Type 0 where
  pub front : List Frame
  pub behind : List Frame
  pub spelled : AreFrames payload.bytes (front ++ behind)
  pub noted : control_in payload ≡ noted_of nothing front
  pub window : f.streams.window ≡ e.streams.window
  pub debt : f.streams.credit.shrink_debt ≡ e.streams.credit.shrink_debt
  pub permitted : (k : Permission) → permitted_of k f.streams ≡ permitted_of k e.streams
  pub eighth : (k : Permission) → eighth_of k f.streams ≡ eighth_of k e.streams
  pub within : IsWithin f.streams
  pub does : (k : Permission) → Does k e.streams e.pending f.streams f.pending front

-- the streams had their turns
same_beside : (v w : World) → v ≡ record w { out = v.out; queue = v.queue } → (k : Permission) → (announced_of k v ≡ announced_of k w) × (permitted_of k v ≡ permitted_of k w) × (eighth_of k v ≡ eighth_of k w)
same_beside v w e AllData = (ap (λ (x : World). x.credit.sent_max_data) e, ap (permitted_of AllData) e, ap (eighth_of AllData) e)
same_beside v w e (DataOn id) = (ap (announced_of (DataOn id)) e, ap (permitted_of (DataOn id)) e, ap (eighth_of (DataOn id)) e)
same_beside v w e (StreamsOf Bi) = (ap (announced_of (StreamsOf Bi)) e, ap (permitted_of (StreamsOf Bi)) e, ap (eighth_of (StreamsOf Bi)) e)
same_beside v w e (StreamsOf Uni) = (ap (announced_of (StreamsOf Uni)) e, ap (permitted_of (StreamsOf Uni)) e, ap (eighth_of (StreamsOf Uni)) e)

within_beside : (v w : World) → v ≡ record w { out = v.out; queue = v.queue } → IsWithin w → IsWithin v
within_beside v w e i =
    let P : World → Type 0 = λ x. IsWithin x in
    let here : IsWithin (record w { out = v.out; queue = v.queue }) = record { small = i.small; whole = i.whole; halves = i.halves } in
    subst P (sym e) here

does_beside : (k : Permission) (u v w : World) (p q r : Pending) (all : List Frame) → announced_of k v ≡ announced_of k w → permitted_of k v ≡ permitted_of k w → q ≡ r → Does k u p w r all → Does k u p v q all
does_beside k u v w p q r all a m e d = elim d [
  | inl was ↦ inl (a ∙ was.0, λ t. ap (is_asked k) e ∙ was.1 t)
  | inr (inl said) ↦ (let P : ℕ → Type 0 = λ n. IsOneOf (frame_of k n) all in let l = said.1 in inr (inl (subst P (sym a) said.0, omega (arith, l, a, m))))
  | inr (inr nil) ↦ inr (inr (a ∙ nil.0, m ∙ nil.1))
]

module _ (x y : LinkedEnd) (e : EndState) (payload : PayloadView) (between f : EndState) (bytes : List ℕ) (stats : FrameStats) (t : Page x y (place_at between bytes (control_in payload) stats)) (s : Said e.streams e.pending (place_at between bytes (control_in payload) stats)) where
  with_streams : {most : ℕ} {fair : Bool} {answer : Result (Unit {0}) OutOfMemory} → EmitsStreams most fair between bytes answer f payload → Emptied e f payload
  with_streams m =
      let z = t.end in
      let P : World → Type 0 = λ u. From z.made z.calls u in
      let from : From z.made z.calls between.streams = subst P t.world ((agrees t.linked).0).comes.from in
      let carried = m.carries z.made z.calls from in
      let ms = map (frame_with (told_bytes z.made z.calls)) carried.frames in
      let Q : List ℕ → Type 0 = λ b. BeginsFrames b (s.all ++ ms) [] in
      let same = same_beside f.streams between.streams m.writes.others in
      record {
        front = s.all;
        behind = ms;
        spelled = subst Q (sym carried.bytes) (join (bytes ++ carried.text) carried.text [] s.all ms (s.spelled carried.text) carried.decodes);
        noted = s.noted;
        window = ap (λ (w : World). w.window) m.writes.others ∙ s.window;
        debt = ap (λ (w : World). w.credit.shrink_debt) m.writes.others ∙ s.debt;
        permitted = λ k. (same k).1 ∙ s.permitted k;
        eighth = λ k. (same k).2 ∙ s.eighth k;
        within = within_beside f.streams between.streams m.writes.others s.within;
        does = λ k. does_beside k e.streams f.streams between.streams e.pending f.pending between.pending s.all (same k).0 (same k).1 m.pending (s.does k);
      }

  without_streams : EmitsNoStream between bytes f payload → Emptied e f payload
  without_streams n =
      let P : EndState → Type 0 = λ g. Emptied e g payload in
      let Q : List ℕ → Type 0 = λ b. AreFrames b (s.all ++ []) in
      let R : List Frame → Type 0 = λ l. AreFrames bytes l in
      let here : AreFrames bytes s.all = (let B : List ℕ → Type 0 = λ b. BeginsFrames b s.all [] in subst B (append-nil bytes) (s.spelled [])) in
      subst P (sym n.same) (record {
        front = s.all;
        behind = [];
        spelled = subst Q (sym n.bytes_are) (subst R (sym (append-nil s.all)) here);
        noted = s.noted;
        window = s.window;
        debt = s.debt;
        permitted = s.permitted;
        eighth = s.eighth;
        within = s.within;
        does = s.does;
      })

pub emptied : {most : ℕ} {fair : Bool} {e f : EndState} {payload : PayloadView} {answer : Result (Unit {0}) OutOfMemory} (x y : LinkedEnd) → Linked x y → Stands x e → IsWithin e.streams → EmitsSomeAt most fair e payload answer f → Emptied e f payload
emptied {most} {fair} {e} {f} {payload} x y l s w (whole between bytes c d) =
    with_streams x y e payload between f bytes c.after (page-control x y most e c.before c.kinds (place_at between bytes (control_in payload) c.after) (Ok tt) l s c.writes)
    (said_kinds e.streams e.pending most c.kinds (place_at e [] nothing c.before) (place_at between bytes (control_in payload) c.after) (Ok tt) (said_first e c.before w) c.writes) d
emptied {most} {fair} {e} {f} {payload} x y l s w (cut {first} between bytes c d) =
    without_streams x y e payload between f bytes c.after (page-control x y most e c.before c.kinds (place_at between bytes (control_in payload) c.after) first l s c.writes)
    (said_kinds e.streams e.pending most c.kinds (place_at e [] nothing c.before) (place_at between bytes (control_in payload) c.after) first (said_first e c.before w) c.writes) d

-- ---- what is noted of a frame is to be sent again

or_left : (a b : Bool) → a ≡ true → (a || b) ≡ true
or_left true b e = refl
or_left false b e = cc

or_right : (a b : Bool) → b ≡ true → (a || b) ≡ true
or_right true b e = refl
or_right false b e = e

noted_keeps : (k : Permission) (p : Pending) (f : Frame) → is_asked k p ≡ true → is_asked k (noted p f) ≡ true
noted_keeps AllData p (frames.MaxData limit) e = refl
noted_keeps AllData p (frames.MaxStreams Bi count) e = e
noted_keeps AllData p (frames.MaxStreams Uni count) e = e
noted_keeps AllData p _ e = e
noted_keeps (DataOn id) p (frames.MaxStreamData q limit) e = or_left (p.max_stream_data id) (true && (id == q)) e
noted_keeps (DataOn id) p (frames.MaxStreams Bi count) e = e
noted_keeps (DataOn id) p (frames.MaxStreams Uni count) e = e
noted_keeps (DataOn id) p _ e = e
noted_keeps (StreamsOf Bi) p (frames.MaxStreams Bi count) e = refl
noted_keeps (StreamsOf Bi) p (frames.MaxStreams Uni count) e = e
noted_keeps (StreamsOf Bi) p _ e = e
noted_keeps (StreamsOf Uni) p (frames.MaxStreams Bi count) e = e
noted_keeps (StreamsOf Uni) p (frames.MaxStreams Uni count) e = refl
noted_keeps (StreamsOf Uni) p _ e = e

noted_stays : (k : Permission) (p : Pending) (fs : List Frame) → is_asked k p ≡ true → is_asked k (noted_of p fs) ≡ true
noted_stays k p [] e = e
noted_stays k p (f ∷ fs) e = noted_stays k (noted p f) fs (noted_keeps k p f e)

noted_now : (k : Permission) (p : Pending) (limit : ℕ) → is_asked k (noted p (frame_of k limit)) ≡ true
noted_now AllData p limit = refl
noted_now (DataOn id) p limit = or_right (p.max_stream_data id) (true && (id == id)) (itself id)
noted_now (StreamsOf Bi) p limit = refl
noted_now (StreamsOf Uni) p limit = refl

pub noted-asked : (k : Permission) (p : Pending) (limit : ℕ) (fs : List Frame) → IsOneOf (frame_of k limit) fs → is_asked k (noted_of p fs) ≡ true
noted-asked k p limit [] h = absurd h
noted-asked k p limit (f ∷ fs) (inl e) = let P : Frame → Type 0 = λ x. is_asked k (noted_of p (x ∷ fs)) ≡ true in subst P e (noted_stays k (noted p (frame_of k limit)) fs (noted_now k p limit))
noted-asked k p limit (f ∷ fs) (inr h) = noted-asked k (noted p f) limit fs h
