-- A payload is full, and what was lost of it is to be sent again.
use Rattle.std.proofs.Common.{◌≡◌, ◌⊎◌, ℕ, Bool, true, false, List, [], ◌∷◌, ◌++◌, length, Option, Some, None, Result, Ok, Err, refl, sym, ap, ◌∙◌, subst, inl, inr, arith, ◌+◌, ◌≤◌, ◌<◌}
use Rattle.std.specs.Prelude.{IfSome, ◌||◌, map, if◌then◌else◌, unwrap_or}
use Rattle.std.specs.Option.{option_map}
use Rattle.std.proofs.lemmas.List.{append_assoc, append-nil, length-append}
use Rattle.std.proofs.lemmas.Option.{same_Some}
use Rattle.quic_values.specs.declared.ids.Dir.TheVariants.{Bi, Uni}
use Rattle.quic_values.specs.declared.memory.OutOfMemory.{OutOfMemory}
use Rattle.quic_wire.specs.declared.frame.Frame.{Frame}
use Rattle.quic_wire.specs.declared.frame.Frame.TheVariants as frames
use Rattle.quic_wire.specs.declared.frame.StreamMeta.{StreamMeta}
use Rattle.quic_wire.specs.Text.{text}
use Rattle.quic_wire.specs.Frames.{BeginsFrames}
use Rattle.quic_wire.proofs.Joins.{join}
use Rattle.quic_datagrams.specs.declared.stats.FrameStats.{FrameStats}
use Rattle.quic_sending.specs.declared.send.Send.{Send}
use Rattle.quic_outgoing.specs.Calls.{blocked_limit}
use Rattle.quic_retransmits.specs.Pending.{Pending, nothing, merged, merged_if}
use Rattle.quic_retransmits.specs.Settling.{noted}
use Rattle.quic_limits.specs.Credit.{max_data_of}
use Rattle.quic_limits.specs.SendingCredit.{is_blocked_reported}
use Rattle.quic_writing.specs.Appended.{frame_with}
use Rattle.quic_history.specs.World.{World, remote_of}
use Rattle.quic_history.specs.Control.{SettlesEntry, HasNoneOf, kind_bound, announced_end}
use Rattle.quic_history.specs.declared.control.ControlKind.{ControlKind}
use Rattle.quic_history.specs.declared.control.ControlKind.TheVariants as kinds
use Rattle.quic_history.specs.History.{From}
use Rattle.quic_streams.specs.Payload.{Sheet, PayloadPlace, with_frame_written, with_frame_written_if, SettlesOne, SettlesSome, FitsIn, none, more, WritesKinds, control_order}
use Rattle.quic_streams.specs.Transmitting.{told_bytes}
use Rattle.quic_streams.specs.Settling.{resets_of}
use Rattle.quic_link.specs.Endpoints.{LinkedEnd, Linked, IsOneOf}
use Rattle.quic_link.proofs.Basics.{either-of, only}
use Rattle.quic_link.proofs.Joint.{agrees}
use Rattle.quic_endpoint.specs.Ends.{EndState}
use Rattle.quic_endpoint.specs.Emitting.{PayloadView, control_in, place_at, EmitsAt, whole}
use Rattle.quic_steps.specs.declared.steps.PayloadPart.{PayloadPart}
use Rattle.quic_steps.specs.declared.steps.PayloadPart.TheVariants.{Control, Streams}
use Rattle.quic_exchange.specs.Parts.{EmitsPartAt}
use Rattle.quic_exchange.specs.Payloads.{is_control, codes_in, noted_of}
use Rattle.quic_exchange.specs.Due.{IsFull, IsFullOf, AsksAllOf, ControlEntry, IsPending, frame_of, IsSpelledIn, LosesNone}
use Rattle.quic_exchange.proofs.Entries.{frames-kept, entry-left, IsAmong, among-more, among-last}
use Rattle.quic_exchange.proofs.Joined.{Stands}
use Rattle.quic_exchange.proofs.Lists.{one-of-first}
use Rattle.quic_exchange.proofs.PayloadPages.{page-control}

-- ---- frames beside STREAM

control_some : (f g : Frame) → is_control f ≡ true → Some g ≡ Some f → is_control g ≡ true
control_some f g c e = ap is_control (same_Some g f e) ∙ c

mapped : {A : Type 0} (f : A → Frame) (o : Option A) (g : Frame) → ((a : A) → is_control (f a) ≡ true) → Some g ≡ option_map f o → is_control g ≡ true
mapped f None g c e = cc
mapped f (Some a) g c e = control_some (f a) g (c a) e

chosen : (b : Bool) (f g : Frame) → is_control f ≡ true → Some g ≡ (if b then Some f else None) → is_control g ≡ true
chosen true f g c e = control_some f g c e
chosen false f g c e = cc

-- whatever is written for an entry is one
entry_control : (kind : ControlKind) (u : World) (p : Pending) (g : Frame) (v : World) (q : Pending) → SettlesEntry kind u p (Some g) v q → is_control g ≡ true
entry_control kinds.ResetStream u p g v q s = mapped (λ (h : Send). frames.ResetStream (record { id = s.id; error_code = s.code; final_offset = h.pending.offset })) (u.out.halves s.id) g (λ h. refl) s.frame
entry_control kinds.StopSending u p g v q s = control_some (frames.StopSending s.stop) g refl s.frame
entry_control kinds.MaxData u p g v q s = control_some (frames.MaxData (max_data_of u.credit)) g refl s.frame
entry_control kinds.MaxStreamData u p g v q s = mapped (λ n. frames.MaxStreamData s.id n) (announced_end u.window (u.receive s.id)) g (λ n. refl) s.frame
entry_control (kinds.MaxStreams d) u p g v q s = control_some (frames.MaxStreams d (remote_of u d).max_remote) g refl s.frame
entry_control kinds.DataBlocked u p g v q s = chosen (is_blocked_reported u.out.budget) (frames.DataBlocked u.out.budget.max_data) g refl s.frame
entry_control kinds.StreamDataBlocked u p g v q s = mapped (λ n. frames.StreamDataBlocked s.id n) (blocked_limit (u.out.halves s.id)) g (λ n. refl) s.frame

-- what a payload begins with, so far, since it was begun at a place
pub record Front (most : ℕ) (start p : PayloadPlace) : Type 0 where
  pub all : List Frame
  pub spelled : (rest : List ℕ) → BeginsFrames (p.sheet.bytes ++ rest) all rest
  pub control : (g : Frame) → IsOneOf g all → is_control g ≡ true
  pub within : length p.sheet.bytes ≤ most
  pub noted : p.sheet.sent ≡ noted_of nothing all
  pub frames_same : (x : ControlEntry) → frame_of p.end x ≡ frame_of start.end x
  pub kept : (x : ControlEntry) → IsPending start.pending x → IsPending p.pending x ⊎ IsAmong all (frame_of start.end x)

-- a RESET_STREAM is noted behind those before
noted_code : (p : Pending) (g : Frame) → (noted p g).reset_stream ≡ p.reset_stream ++ codes_in (g ∷ [])
noted_code p (frames.ResetStream f) = refl
noted_code p (frames.MaxStreams Bi count) = sym (append-nil p.reset_stream)
noted_code p (frames.MaxStreams Uni count) = sym (append-nil p.reset_stream)
noted_code p _ = sym (append-nil p.reset_stream)

pub codes-joined : (fs gs : List Frame) → codes_in (fs ++ gs) ≡ codes_in fs ++ codes_in gs
codes-joined [] gs = refl
codes-joined (frames.ResetStream f ∷ fs) gs = ap (λ l. (f.id, f.error_code) ∷ l) (codes-joined fs gs)
codes-joined (_ ∷ fs) gs = codes-joined fs gs

-- frames are noted one after another
pub noted-joined : (p : Pending) (fs gs : List Frame) → noted_of p (fs ++ gs) ≡ noted_of (noted_of p fs) gs
noted-joined p [] gs = refl
noted-joined p (f ∷ fs) gs = noted-joined (noted p f) fs gs

noted_codes : (p : Pending) (fs : List Frame) → (noted_of p fs).reset_stream ≡ p.reset_stream ++ codes_in fs
noted_codes p [] = sym (append-nil p.reset_stream)
noted_codes p (f ∷ fs) = noted_codes (noted p f) fs ∙ ap (λ l. l ++ codes_in fs) (noted_code p f) ∙ append_assoc p.reset_stream (codes_in (f ∷ [])) (codes_in fs) ∙ ap (λ l. p.reset_stream ++ l) (sym (codes-joined (f ∷ []) fs))

-- of the streams that were given up, their codes
pub codes-noted : (payload : PayloadView) (fs : List Frame) → control_in payload ≡ noted_of nothing fs → resets_of payload.sent.control ≡ codes_in fs
codes-noted payload fs e = ap (λ (p : Pending). p.reset_stream) e ∙ noted_codes nothing fs

module _ (most : ℕ) (start p q : PayloadPlace) (t : Front most start p) (kind : ControlKind) (room : length p.sheet.bytes + kind_bound kind < most) where
  -- what is pending of what was, where one entry leaves
  left_of : (o : Option Frame) (behind : List Frame) → SettlesEntry kind p.end p.pending o q.end q.pending → IsAmong (t.all ++ behind) o → (x : ControlEntry) → IsPending start.pending x → IsPending q.pending x ⊎ IsAmong (t.all ++ behind) (frame_of start.end x)
  left_of o behind s now x h =
      let P : Option Frame → Type 0 = λ k. IsAmong (t.all ++ behind) k in
      elim (t.kept x h) [
        | inl pending ↦ (elim (entry-left kind p.end p.pending o q.end q.pending s x pending) [
          | inl still ↦ inl still
          | inr e ↦ inr (subst P (sym (sym (t.frames_same x) ∙ e)) now)
        ])
        | inr done ↦ inr (among-more t.all behind (frame_of start.end x) done)
      ]

  front_dropped : SettlesEntry kind p.end p.pending None q.end q.pending → q.sheet ≡ p.sheet → Front most start q
  front_dropped s same =
      let P : Sheet → Type 0 = λ h. (rest : List ℕ) → BeginsFrames (h.bytes ++ rest) t.all rest in
      let Q : Sheet → Type 0 = λ h. length h.bytes ≤ most in
      let K : List Frame → Type 0 = λ l. (x : ControlEntry) → IsPending start.pending x → IsPending q.pending x ⊎ IsAmong l (frame_of start.end x) in
      record {
        all = t.all;
        spelled = subst P (sym same) t.spelled;
        control = t.control;
        within = subst Q (sym same) t.within;
        noted = ap (λ (h : Sheet). h.sent) same ∙ t.noted;
        frames_same = λ x. frames-kept kind p.end p.pending None q.end q.pending s x ∙ t.frames_same x;
        kept = subst K (append-nil t.all) (left_of None [] s tt);
      }

  front_written : (g : Frame) → SettlesEntry kind p.end p.pending (Some g) q.end q.pending → q.sheet ≡ with_frame_written p.sheet g → FitsIn (kind_bound kind) g → Front most start q
  front_written g s same fits =
      let P : Sheet → Type 0 = λ h. (rest : List ℕ) → BeginsFrames (h.bytes ++ rest) (t.all ++ g ∷ []) rest in
      let Q : Sheet → Type 0 = λ h. length h.bytes ≤ most in
      record {
        all = t.all ++ g ∷ [];
        spelled = subst P (sym same) (λ rest. spelled_more rest);
        control = λ f h. elim (either-of f t.all (g ∷ []) h) [
          | inl before ↦ t.control f before
          | inr now ↦ ap is_control (only f g now) ∙ entry_control kind p.end p.pending g q.end q.pending s
        ];
        noted = ap (λ (h : Sheet). h.sent) same ∙ ap (λ (p : Pending). noted p g) t.noted ∙ sym (noted-joined nothing t.all (g ∷ []));
        within = subst Q (sym same) (let l = length-append p.sheet.bytes (text g) in let k = fits.short in omega (arith, l, k, room));
        frames_same = λ x. frames-kept kind p.end p.pending (Some g) q.end q.pending s x ∙ t.frames_same x;
        kept = left_of (Some g) (g ∷ []) s (among-last t.all g);
      }
    where
      spelled_more : (rest : List ℕ) → BeginsFrames ((p.sheet.bytes ++ text g) ++ rest) (t.all ++ g ∷ []) rest
      spelled_more rest =
          let P : List ℕ → Type 0 = λ b. BeginsFrames b (t.all ++ g ∷ []) rest in
          subst P (sym (append_assoc p.sheet.bytes (text g) rest))
          (join (p.sheet.bytes ++ (text g ++ rest)) (text g ++ rest) rest t.all (g ∷ []) (t.spelled (text g ++ rest)) (rest, fits.spelled rest, refl))

  front_one : SettlesOne kind p q → Front most start q
  front_one s = by_frame s.frame s.settles s.written s.fits
    where
      by_frame : (frame : Option Frame) → SettlesEntry kind p.end p.pending frame q.end q.pending → q.sheet ≡ with_frame_written_if p.sheet frame → IfSome frame (FitsIn (kind_bound kind)) → Front most start q
      by_frame None k same fits = front_dropped k same
      by_frame (Some g) k same fits = front_written g k same fits

front_some : {kind : ControlKind} {most : ℕ} (start : PayloadPlace) {p q : PayloadPlace} → Front most start p → SettlesSome kind most p q → Front most start q
front_some start t (none {p}) = t
front_some {kind} {most} start t (more {p} {q} {r} before room s) = front_one most start q r (front_some start t before) kind room s

pub front_kinds : (most : ℕ) (kinds : List ControlKind) (start p q : PayloadPlace) (answer : Result (Unit {0}) OutOfMemory) → Front most start p → WritesKinds most kinds p answer q → Front most start q
front_kinds most [] start p q (Ok u) t w = let P : PayloadPlace → Type 0 = λ k. Front most start k in subst P (sym w) t
front_kinds most [] start p q (Err e) t w = absurd w
front_kinds most (k ∷ ks) start p q answer t w = elim w [
  | inl a ↦ front_kinds most ks start a.0 q answer (front_some start t a.1.turns) a.2
  | inr b ↦ front_some start t b.1
]

pub front_first : (most : ℕ) (e : EndState) (stats : FrameStats) → Front most (place_at e [] nothing stats) (place_at e [] nothing stats)
front_first most e stats = record { all = []; spelled = λ rest. refl; control = λ g h. absurd h; within = omega arith; noted = refl; frames_same = λ x. refl; kept = λ x h. inl h }

-- ---- STREAM frames behind them

are_streams : (written : ℕ → List ℕ) (ms : List StreamMeta) (g : Frame) → IsOneOf g (map (frame_with written) ms) → is_control g ≡ false
are_streams written [] g h = absurd h
are_streams written (m ∷ ms) g h = elim h [ inl e ↦ ap is_control e | inr k ↦ are_streams written ms g k ]

-- a payload that was written whole is full
pub full-payload : {most : ℕ} {fair : Bool} {e f : EndState} {payload : PayloadView} (x y : LinkedEnd) → Linked x y → Stands x e → EmitsAt most fair e payload (Ok tt) f → IsFull most payload.bytes f
full-payload {most} {fair} {e} {f} {payload} x y l s (whole between bytes c d) =
    let page = page-control x y most e c.before control_order (place_at between bytes (control_in payload) c.after) (Ok tt) l s c.writes in
    let z = page.end in
    let P : World → Type 0 = λ u. From z.made z.calls u in
    let from : From z.made z.calls between.streams = subst P page.world ((agrees page.linked).0).comes.from in
    let appended = d.carries z.made z.calls from in
    let front = front_kinds most control_order (place_at e [] nothing c.before) (place_at e [] nothing c.before) (place_at between bytes (control_in payload) c.after) (Ok tt) (front_first most e c.before) c.writes in
    let Q : List ℕ → Type 0 = λ b. BeginsFrames b front.all [] in
    let K : Pending → Type 0 = λ p. (kind : ControlKind) → HasNoneOf kind p ⊎ (most ≤ length bytes + kind_bound kind) in
    record {
      front = bytes;
      behind = appended.text;
      is = appended.bytes;
      control = record { all = front.all; spelled = subst Q (append-nil bytes) (front.spelled []); kind = front.control };
      streams_are = record { all = map (frame_with (told_bytes z.made z.calls)) appended.frames; spelled = appended.decodes; kind = are_streams (told_bytes z.made z.calls) appended.frames };
      within = appended.within front.within;
      kinds = subst K (sym d.pending) c.full;
      streams = d.full;
    }

-- and each control frame that was pending is so still, is in it, or is of no use any more
pub loses-none : {most : ℕ} {fair : Bool} {e f : EndState} {payload : PayloadView} (x y : LinkedEnd) → Linked x y → Stands x e → EmitsAt most fair e payload (Ok tt) f → LosesNone e payload.bytes f
loses-none {most} {fair} {e} {f} {payload} x y l s (whole between bytes c d) = λ entry h. elim (front.kept entry h) [
  | inl pending ↦ (let P : Pending → Type 0 = λ p. IsPending p entry in inl (subst P (sym d.pending) pending))
  | inr written ↦ inr (spelled_in (frame_of e.streams entry) written)
]
  where
    start : PayloadPlace
    start = place_at e [] nothing c.before

    front : Front most start (place_at between bytes (control_in payload) c.after)
    front = front_kinds most control_order start start (place_at between bytes (control_in payload) c.after) (Ok tt) (front_first most e c.before) c.writes

    spelled_in : (o : Option Frame) → IsAmong front.all o → IsSpelledIn payload.bytes o
    spelled_in None h = tt
    spelled_in (Some g) h =
        let page = page-control x y most e c.before control_order (place_at between bytes (control_in payload) c.after) (Ok tt) l s c.writes in
        let z = page.end in
        let P : World → Type 0 = λ u. From z.made z.calls u in
        let appended = d.carries z.made z.calls (subst P page.world ((agrees page.linked).0).comes.from) in
        let ms = map (frame_with (told_bytes z.made z.calls)) appended.frames in
        let Q : List ℕ → Type 0 = λ b. BeginsFrames b (front.all ++ ms) [] in
        (front.all ++ ms, subst Q (sym appended.bytes) (join (bytes ++ appended.text) appended.text [] front.all ms (front.spelled appended.text) appended.decodes), one-of-first g front.all ms h)

-- ---- a payload of one part

-- it is full, if it was written whole
pub full-part : (part : PayloadPart) (most : ℕ) (fair : Bool) (e f : EndState) (payload : PayloadView) (x y : LinkedEnd) → Linked x y → Stands x e → EmitsPartAt part most fair e payload (Ok tt) f → IsFullOf part most payload.bytes f
full-part Control most fair e f payload x y l s k =
    let c = k.writes in
    let front = front_kinds most control_order (place_at e [] nothing c.before) (place_at e [] nothing c.before) (place_at f payload.bytes (control_in payload) c.after) (Ok tt) (front_first most e c.before) c.writes in
    let Q : List ℕ → Type 0 = λ b. BeginsFrames b front.all [] in
    record {
      control = record { all = front.all; spelled = subst Q (append-nil payload.bytes) (front.spelled []); kind = front.control };
      within = front.within;
      kinds = c.full;
    }
full-part Streams most fair e f payload x y l s k =
    let d = k.writes in
    let P : World → Type 0 = λ u. From x.made x.calls u in
    let from : From x.made x.calls e.streams = subst P s.world ((agrees l).0).comes.from in
    let appended = d.carries x.made x.calls from in
    let ms = map (frame_with (told_bytes x.made x.calls)) appended.frames in
    let Q : List ℕ → Type 0 = λ b. BeginsFrames b ms [] in
    record {
      streams_are = record { all = ms; spelled = subst Q (sym appended.bytes) appended.decodes; kind = are_streams (told_bytes x.made x.calls) appended.frames };
      within = appended.within (omega arith);
      streams = d.full;
    }

-- and each control frame that was pending is so still, is in it, or is of no use any more
pub loses-none-of : (part : PayloadPart) (most : ℕ) (fair : Bool) (e f : EndState) (payload : PayloadView) → EmitsPartAt part most fair e payload (Ok tt) f → LosesNone e payload.bytes f
loses-none-of Control most fair e f payload k = λ entry h. elim (front.kept entry h) [ inl pending ↦ inl pending | inr written ↦ inr (spelled_in (frame_of e.streams entry) written) ]
  where
    start : PayloadPlace
    start = place_at e [] nothing k.writes.before

    front : Front most start (place_at f payload.bytes (control_in payload) k.writes.after)
    front = front_kinds most control_order start start (place_at f payload.bytes (control_in payload) k.writes.after) (Ok tt) (front_first most e k.writes.before) k.writes.writes

    spelled_in : (o : Option Frame) → IsAmong front.all o → IsSpelledIn payload.bytes o
    spelled_in None h = tt
    spelled_in (Some g) h =
        let Q : List ℕ → Type 0 = λ b. BeginsFrames b front.all [] in
        (front.all, subst Q (append-nil payload.bytes) (front.spelled []), h)
loses-none-of Streams most fair e f payload k = λ entry h. let P : Pending → Type 0 = λ p. IsPending p entry in inl (subst P (sym k.writes.pending) h)

-- ---- what was lost is to be sent again

or_right : (a b : Bool) → b ≡ true → (a || b) ≡ true
or_right true b e = refl
or_right false b e = e

behind_others : {X : Type 0} (x : X) (xs ys : List X) → IsOneOf x ys → IsOneOf x (xs ++ ys)
behind_others x [] ys h = h
behind_others x (k ∷ xs) ys h = inr (behind_others x xs ys h)

asks_none : (a : Pending) → AsksAllOf nothing a
asks_none a = record {
  max_data = λ e. cc;
  data_blocked = λ e. cc;
  max_streams_bi = λ e. cc;
  max_streams_uni = λ e. cc;
  max_stream_data = λ id e. cc;
  stream_data_blocked = λ id e. cc;
  reset_stream = λ id code h. absurd h;
  stop_sending = λ id code h. absurd h;
}

asks_merged : (a b : Pending) → AsksAllOf b (merged a b)
asks_merged a b = record {
  max_data = or_right a.max_data b.max_data;
  data_blocked = or_right a.data_blocked b.data_blocked;
  max_streams_bi = or_right a.max_streams_bi b.max_streams_bi;
  max_streams_uni = or_right a.max_streams_uni b.max_streams_uni;
  max_stream_data = λ id. or_right (a.max_stream_data id) (b.max_stream_data id);
  stream_data_blocked = λ id. or_right (a.stream_data_blocked id) (b.stream_data_blocked id);
  reset_stream = λ id code h. behind_others (id, code) a.reset_stream b.reset_stream h;
  stop_sending = λ id code h. behind_others (record { id = id; error_code = code }) a.stop_sending b.stop_sending h;
}

pub asks-all-of : (a : Pending) (o : Option Pending) → AsksAllOf (unwrap_or o nothing) (merged_if a o)
asks-all-of a None = asks_none a
asks-all-of a (Some b) = asks_merged a b

-- ---- the last of a list

pub is-last : {X : Type 0} (x : X) (xs : List X) → IsOneOf x (xs ++ x ∷ [])
is-last x xs = behind_others x xs (x ∷ []) (inl refl)
