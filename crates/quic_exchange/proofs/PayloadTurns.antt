-- Turns of the send queue are calls of a linked end, of which the steps tell nothing.
use Rattle.std.proofs.Common.{◌≡◌, ◌⊎◌, ℕ, Bool, List, [], ◌∷◌, ◌++◌, Option, Some, None, refl, sym, ap, ◌∙◌, subst, inl, inr}
use Rattle.std.specs.Prelude.{map}
use Rattle.std.specs.List.{concat}
use Rattle.std.proofs.lemmas.List.{append-nil, append_assoc}
use Rattle.quic_wire.specs.declared.frame.Frame.{Frame}
use Rattle.quic_wire.specs.declared.frame.StreamMeta.{StreamMeta}
use Rattle.quic_wire.specs.Text.{stream_of}
use Rattle.quic_outgoing.specs.Transmitting.{between}
use Rattle.quic_writing.specs.Writer.{Writer, TakesTurns, SkipsFirst, ServesFirst, none, more}
use Rattle.quic_writing.specs.Appended.{frame_with}
use Rattle.quic_history.specs.World.{World}
use Rattle.quic_history.specs.Carrying.{with_writer}
use Rattle.quic_history.specs.SendEvents.{SendStep, TookTurn}
use Rattle.quic_history.specs.History.{Sending}
use Rattle.quic_link.specs.Endpoints.{LinkedEnd, Linked, first_acts, MayAct, acted, IsOneOf, IsHonestSending, written_on}
use Rattle.quic_exchange.proofs.KeptFrames.{HearsNothing, hears-none, hears-both}
use Rattle.quic_exchange.proofs.PayloadKeeps.{Keeps, keeps-refl, keeps-both, keeps-send, hears-send}

-- x came to an end that is w with this writer, and wrote the frames that were handed back
pub record Turned (x y : LinkedEnd) (w : World) (b : Writer) (frames : List StreamMeta) : Type 0 where
  pub end : LinkedEnd
  pub linked : Linked end y
  pub keeps : Keeps x end
  pub hears : HearsNothing x end
  pub world : end.world ≡ with_writer w b
  pub wrote : (g : Frame) → IsOneOf g (map (frame_with (written_on x)) frames) → IsOneOf g end.wrote

-- a frame among some and one more
mapped_either : (f : StreamMeta → Frame) (ms : List StreamMeta) (m : StreamMeta) (g : Frame) → IsOneOf g (map f (ms ++ m ∷ [])) → IsOneOf g (map f ms) ⊎ (g ≡ f m)
mapped_either f [] m g (inl e) = inr e
mapped_either f [] m g (inr h) = absurd h
mapped_either f (k ∷ ms) m g (inl e) = inl (inl e)
mapped_either f (k ∷ ms) m g (inr h) = elim (mapped_either f ms m g h) [ inl a ↦ inl (inr a) | inr b ↦ inr b ]

module _ (x y : LinkedEnd) (most : ℕ) (fair : Bool) (w : World) (b c : Writer) (frames : List StreamMeta) (t : Turned x y w b frames) where
  turn_step : (frame : Option StreamMeta) → SendStep (with_writer w b) (TookTurn most fair frame) (with_writer w c) → MayAct t.end y (Sending (TookTurn most fair frame)) (with_writer w c)
  turn_step frame s = record { fits = tt; honest = honest frame; step = let P : World → Type 0 = λ u. SendStep u (TookTurn most fair frame) (with_writer w c) in subst P (sym t.world) s }
    where
      honest : (frame : Option StreamMeta) → IsHonestSending t.end y (TookTurn most fair frame)
      honest frame = tt

  -- a stream is let go
  turn_skipped : SkipsFirst b c → Turned x y w c frames
  turn_skipped k =
      let e = TookTurn most fair None in
      let z = acted t.end (Sending e) (with_writer w c) in
      let may = turn_step None (record { before = b; after = c; found = refl; turn = k; is = refl }) in
      let keeps = keeps-send t.end y e (with_writer w c) tt t.linked may in
      record {
        end = z;
        linked = first_acts (Sending e) (with_writer w c) t.linked may;
        keeps = keeps-both x t.end z t.keeps keeps;
        hears = hears-both x t.end z t.hears (hears-send t.end e (with_writer w c) tt);
        world = refl;
        wrote = λ g h. keeps.wrote g (t.wrote g h);
      }

  -- a frame is written
  turn_served : (k : ServesFirst most fair b c) → Turned x y w c (frames ++ k.frame.meta ∷ [])
  turn_served k =
      let m = k.frame.meta in
      let e = TookTurn most fair (Some m) in
      let z = acted t.end (Sending e) (with_writer w c) in
      let may = turn_step (Some m) (record { before = b; after = c; found = refl; turn = k; meta = refl; is = refl }) in
      let keeps = keeps-send t.end y e (with_writer w c) tt t.linked may in
      let same : frame_with (written_on t.end) m ≡ frame_with (written_on x) m = ap (λ bytes. stream_of m (between bytes m.offsets.start m.offsets.end)) (ap concat (t.keeps.flows m.id).cuts) in
      record {
        end = z;
        linked = first_acts (Sending e) (with_writer w c) t.linked may;
        keeps = keeps-both x t.end z t.keeps keeps;
        hears = hears-both x t.end z t.hears (hears-send t.end e (with_writer w c) tt);
        world = refl;
        wrote = λ g h. elim (mapped_either (frame_with (written_on x)) frames m g h) [ inl before ↦ keeps.wrote g (t.wrote g before) | inr now ↦ inl (now ∙ sym same) ];
      }

pub turns-taken : {most : ℕ} {fair : Bool} {a b : Writer} (x y : LinkedEnd) (w : World) → Linked x y → x.world ≡ with_writer w a → TakesTurns most fair a b → (frames : List StreamMeta) × (b.sent ≡ a.sent ++ frames) × Turned x y w b frames
turns-taken x y w l e (none {a}) = ([], sym (append-nil a.sent), record { end = x; linked = l; keeps = keeps-refl x; hears = hears-none x; world = e; wrote = λ g h. absurd h })
turns-taken {most} {fair} x y w l e (more {a} {b} {c} ts room (inl k)) =
    let before = turns-taken x y w l e ts in
    (before.0, ap (λ (v : Writer). v.sent) k.is ∙ before.1, turn_skipped x y most fair w b c before.0 before.2 k)
turns-taken {most} {fair} x y w l e (more {a} {b} {c} ts room (inr k)) =
    let before = turns-taken x y w l e ts in
    (before.0 ++ k.frame.meta ∷ [], k.sent ∙ ap (λ v. v ++ k.frame.meta ∷ []) before.1 ∙ append_assoc a.sent before.0 (k.frame.meta ∷ []), turn_served x y most fair w b c before.0 before.2 k)
