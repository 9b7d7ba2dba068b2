-- Writing a payload is a row of calls of a linked end: entries that leave what is pending, and turns of the send queue.
use Rattle.std.proofs.Common.{◌≡◌, ℕ, Bool, true, false, List, [], ◌∷◌, ◌++◌, Option, Some, None, refl, sym, ap, ◌∙◌, subst, inl, inr}
use Rattle.std.specs.Prelude.{◌==◌, ◌&&◌, is_none, if◌then◌else◌}
use Rattle.std.specs.List.{concat}
use Rattle.std.proofs.lemmas.List.{append-nil, append_assoc}
use Rattle.quic_wire.specs.declared.frame.Frame.{Frame}
use Rattle.quic_wire.specs.declared.frame.StreamMeta.{StreamMeta}
use Rattle.quic_flows.specs.Flow.{WasCarried, SendFlow, with_send_move}
use Rattle.quic_outgoing.specs.Transmitting.{between}
use Rattle.quic_retransmits.specs.Pending.{Pending}
use Rattle.quic_retransmits.specs.Settling.{noted}
use Rattle.quic_wire.specs.Text.{stream_of}
use Rattle.quic_writing.specs.Writer.{Writer, TakesTurn, TakesTurns, none, more}
use Rattle.quic_writing.specs.Appended.{frame_with}
use Rattle.quic_history.specs.World.{World}
use Rattle.quic_history.specs.Flows.{has_send_side, send_moved}
use Rattle.quic_history.specs.Carrying.{with_writer}
use Rattle.quic_history.specs.Control.{SettlesEntry}
use Rattle.quic_history.specs.declared.control.ControlKind.{ControlKind}
use Rattle.quic_history.specs.SendEvents.{TookTurn}
use Rattle.quic_history.specs.History.{Event, LeftPending, Sending, Step, flow, opened_in_all, send_tale, since}
use Rattle.quic_link.specs.Endpoints.{LinkedEnd, MayAct, acted, Linked, first_acts, written_on, WasAskedFor}
use Rattle.quic_link.specs.Asked.{AreAsked}
use Rattle.quic_link.proofs.Joint.{agrees}
use Rattle.quic_link.proofs.AskedFor.{asked-acted, asked-left, asked-written, asked-noted, frame-asked}

-- ---- entries beside STREAM

-- an entry that leaves what is pending, all of which was asked for, is a call of a linked end
pub entry-may : (x y : LinkedEnd) (kind : ControlKind) (p q : Pending) (frame : Option Frame) (v : World) → AreAsked x p → SettlesEntry kind x.world p frame v q → MayAct x y (LeftPending kind frame) v
entry-may x y kind p q None v k s = record { fits = tt; honest = tt; step = (p, q, s) }
entry-may x y kind p q (Some g) v k s = record { fits = tt; honest = asked-written x p k kind g v q s; step = (p, q, s) }

pub entry-linked : (x y : LinkedEnd) (kind : ControlKind) (p q : Pending) (frame : Option Frame) (v : World) → Linked x y → AreAsked x p → SettlesEntry kind x.world p frame v q
    → Linked (acted x (LeftPending kind frame) v) y × AreAsked (acted x (LeftPending kind frame) v) q
entry-linked x y kind p q frame v l k s =
    let a = entry-may x y kind p q frame v k s in
    let f = (agrees l).0 in
    (first_acts (LeftPending kind frame) v l a, asked-acted x y (LeftPending kind frame) v f.comes a q (asked-left x p k kind frame v q s))

abbrev pub noted_if : Pending → Option Frame → Pending
noted_if notes None = notes
noted_if notes (Some g) = noted notes g

abbrev pub before_frames : Option Frame → List Frame → List Frame
before_frames None fs = fs
before_frames (Some g) fs = g ∷ fs

-- the end, once entries of x left what is pending: what is left, and what was noted of the frames that were written, was
-- asked for. The frames stand here the last one first
pub record SettledTo (x y : LinkedEnd) (w : World) (left notes : Pending) (frames : List Frame) : Type 0 where
  pub end : LinkedEnd
  pub linked : Linked end y
  pub made : end.made ≡ x.made
  pub world : end.world ≡ w
  pub bytes : (q : ℕ) → written_on end q ≡ written_on x q
  pub wrote : end.wrote ≡ frames ++ x.wrote
  pub left_asked : AreAsked end left
  pub notes_asked : AreAsked end notes
  pub asked : (p : Pending) → AreAsked x p → AreAsked end p

-- no entry yet
pub settled-none : (x y : LinkedEnd) (left notes : Pending) → Linked x y → AreAsked x left → AreAsked x notes → SettledTo x y x.world left notes []
settled-none x y left notes l a b = record { end = x; linked = l; made = refl; world = refl; bytes = λ q. refl; wrote = refl; left_asked = a; notes_asked = b; asked = λ p h. h }

-- one more
module _ (x y : LinkedEnd) (w : World) (left notes : Pending) (frames : List Frame) (t : SettledTo x y w left notes frames) (kind : ControlKind) (v : World) (q : Pending) where
  pub settled-more : (frame : Option Frame) → SettlesEntry kind w left frame v q → SettledTo x y v q (noted_if notes frame) (before_frames frame frames)
  settled-more None s =
      let k = let P : World → Type 0 = λ u. SettlesEntry kind u left None v q in subst P (sym t.world) s in
      let e = LeftPending kind None in
      let may = entry-may t.end y kind left q None v t.left_asked k in
      let more = entry-linked t.end y kind left q None v t.linked t.left_asked k in
      let f = (agrees t.linked).0 in
      record {
        end = acted t.end e v;
        linked = more.0;
        made = t.made;
        world = refl;
        bytes = t.bytes;
        wrote = t.wrote;
        left_asked = more.1;
        notes_asked = asked-acted t.end y e v f.comes may notes t.notes_asked;
        asked = λ p h. asked-acted t.end y e v f.comes may p (t.asked p h);
      }
  settled-more (Some g) s =
      let k = let P : World → Type 0 = λ u. SettlesEntry kind u left (Some g) v q in subst P (sym t.world) s in
      let e = LeftPending kind (Some g) in
      let z = acted t.end e v in
      let may = entry-may t.end y kind left q (Some g) v t.left_asked k in
      let more = entry-linked t.end y kind left q (Some g) v t.linked t.left_asked k in
      let f = (agrees t.linked).0 in
      let told : WasAskedFor z g = frame-asked t.end y e v f.comes may g (asked-written t.end left t.left_asked kind g v q k) in
      record {
        end = z;
        linked = more.0;
        made = t.made;
        world = refl;
        bytes = t.bytes;
        wrote = ap (λ fs. g ∷ fs) t.wrote;
        left_asked = more.1;
        notes_asked = asked-noted z notes g told (asked-acted t.end y e v f.comes may notes t.notes_asked);
        asked = λ p h. asked-acted t.end y e v f.comes may p (t.asked p h);
      }

-- ---- turns of the send queue

-- frames of streams that were written, the last one first, before others
abbrev pub written_back : (ℕ → List ℕ) → List StreamMeta → List Frame → List Frame
written_back written [] fs = fs
written_back written (m ∷ ms) fs = written_back written ms (frame_with written m ∷ fs)

back_more : (written : ℕ → List ℕ) (ms : List StreamMeta) (m : StreamMeta) (fs : List Frame) → written_back written (ms ++ m ∷ []) fs ≡ frame_with written m ∷ written_back written ms fs
back_more written [] m fs = refl
back_more written (k ∷ ms) m fs = back_more written ms m (frame_with written k ∷ fs)

-- the end z, once some turns of x were taken, which handed these frames back
pub record TookTurns (x y : LinkedEnd) (w : World) (b : Writer) (frames : List StreamMeta) : Type 0 where
  pub end : LinkedEnd
  pub linked : Linked end y
  pub made : end.made ≡ x.made
  pub world : end.world ≡ with_writer w b
  pub bytes : (q : ℕ) → written_on end q ≡ written_on x q
  pub wrote : end.wrote ≡ written_back (written_on x) frames x.wrote
  pub asked : (p : Pending) → AreAsked x p → AreAsked end p

cuts_if : (a b : SendFlow) (k : Bool) → (if k then a else b).cuts ≡ (if k then a.cuts else b.cuts)
cuts_if a b true = refl
cuts_if a b false = refl

same_if : (xs : List (List ℕ)) (k : Bool) → (if k then xs else xs) ≡ xs
same_if xs true = refl
same_if xs false = refl

carried_cuts : (id first behind q : ℕ) (fin : Bool) (there : ℕ → Bool) (t : SendFlow) → (send_moved (Some (id, WasCarried first behind fin)) there q t).cuts ≡ t.cuts
carried_cuts id first behind q fin there t =
    let m = WasCarried first behind fin in
    let moved : (with_send_move m t).cuts ≡ t.cuts = cuts_if _ t (is_none t.reset) ∙ same_if t.cuts (is_none t.reset) in
    cuts_if (with_send_move m t) t ((q == id) && there q) ∙ ap (λ c. if (q == id) && there q then c else t.cuts) moved ∙ same_if t.cuts ((q == id) && there q)

-- a turn writes nothing on a stream
turn_bytes : (x : LinkedEnd) (most : ℕ) (fair : Bool) (frame : Option StreamMeta) (v : World) (q : ℕ) → written_on (acted x (Sending (TookTurn most fair frame)) v) q ≡ written_on x q
turn_bytes x most fair None v q = refl
turn_bytes x most fair (Some meta) v q =
    ap concat (carried_cuts meta.id meta.offsets.start meta.offsets.end q meta.fin (has_send_side x.made.side (opened_in_all (since x.calls)) (send_tale x.made x.calls).may_open) (flow x.made x.calls q))

turn_may : (x y : LinkedEnd) (most : ℕ) (fair : Bool) (frame : Option StreamMeta) (v : World) → Step x.world (Sending (TookTurn most fair frame)) v → MayAct x y (Sending (TookTurn most fair frame)) v
turn_may x y most fair None v s = record { fits = tt; honest = tt; step = s }
turn_may x y most fair (Some meta) v s = record { fits = tt; honest = tt; step = s }

step_at : (u w v : World) (e : Event) → u ≡ w → Step w e v → Step u e v
step_at u w v e k s = let P : World → Type 0 = λ z. Step z e v in subst P (sym k) s

frame_same : (f g : ℕ → List ℕ) (m : StreamMeta) → f m.id ≡ g m.id → frame_with f m ≡ frame_with g m
frame_same f g m e = ap (λ bytes. stream_of m (between bytes m.offsets.start m.offsets.end)) e

-- one turn more
one_turn : (x y : LinkedEnd) (most : ℕ) (fair : Bool) (w : World) (a b : Writer) (frames : List StreamMeta) → TookTurns x y w a frames → TakesTurn most fair a b → (more_frames : List StreamMeta) × (b.sent ≡ a.sent ++ more_frames) × TookTurns x y w b (frames ++ more_frames)
one_turn x y most fair w a b frames t (inl k) =
    let e = Sending (TookTurn most fair None) in
    let z = acted t.end e (with_writer w b) in
    let s : Step (with_writer w a) e (with_writer w b) = record { before = a; after = b; found = refl; turn = k; is = refl } in
    let may = turn_may t.end y most fair None (with_writer w b) (step_at t.end.world (with_writer w a) (with_writer w b) e t.world s) in (
      [],
      ap (λ (k : Writer). k.sent) k.is ∙ sym (append-nil a.sent),
      record {
        end = z;
        linked = first_acts e (with_writer w b) t.linked may;
        made = t.made;
        world = refl;
        bytes = t.bytes;
        wrote = t.wrote ∙ ap (λ ms. written_back (written_on x) ms x.wrote) (sym (append-nil frames));
        asked = λ p h. asked-acted t.end y e (with_writer w b) ((agrees t.linked).0).comes may p (t.asked p h);
      },
    )
one_turn x y most fair w a b frames t (inr k) =
    let meta = k.frame.meta in
    let e = Sending (TookTurn most fair (Some meta)) in
    let z = acted t.end e (with_writer w b) in
    let s : Step (with_writer w a) e (with_writer w b) = record { before = a; after = b; found = refl; turn = k; meta = refl; is = refl } in
    let may = turn_may t.end y most fair (Some meta) (with_writer w b) (step_at t.end.world (with_writer w a) (with_writer w b) e t.world s) in (
      meta ∷ [],
      k.sent,
      record {
        end = z;
        linked = first_acts e (with_writer w b) t.linked may;
        made = t.made;
        world = refl;
        bytes = λ q. turn_bytes t.end most fair (Some meta) (with_writer w b) q ∙ t.bytes q;
        wrote = ap (λ g. g ∷ t.end.wrote) (frame_same (written_on t.end) (written_on x) meta (t.bytes meta.id)) ∙ ap (λ fs. frame_with (written_on x) meta ∷ fs) t.wrote ∙ sym (back_more (written_on x) frames meta x.wrote);
        asked = λ p h. asked-acted t.end y e (with_writer w b) ((agrees t.linked).0).comes may p (t.asked p h);
      },
    )

-- turns of the send queue are calls of a linked end, which then wrote the frames that were handed back
pub turns-linked : {most : ℕ} {fair : Bool} {a b : Writer} (x y : LinkedEnd) (w : World) → Linked x y → x.world ≡ with_writer w a → TakesTurns most fair a b
    → (frames : List StreamMeta) × (b.sent ≡ a.sent ++ frames) × TookTurns x y w b frames
turns-linked x y w l e (none {a}) = ([], sym (append-nil a.sent), record { end = x; linked = l; made = refl; world = e; bytes = λ q. refl; wrote = refl; asked = λ p h. h })
turns-linked {most} {fair} x y w l e (more {a} {b} {c} ts room t) =
    let before = turns-linked x y w l e ts in
    let one = one_turn x y most fair w b c before.0 before.2 t in
    (before.0 ++ one.0, one.1 ∙ ap (λ l. l ++ one.0) before.1 ∙ append_assoc a.sent before.0 one.0, one.2)
