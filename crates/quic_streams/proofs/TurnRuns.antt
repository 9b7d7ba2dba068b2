-- What turns of the send queue leave behind, one after another.
use Rattle.std.proofs.Common.{◌≡◌, ℕ, Bool, List, [], ◌∷◌, ◌++◌, Option, Some, None, refl, sym, ap, ◌∙◌, subst, inl, inr, append_assoc}
use Rattle.std.proofs.lemmas.List.{append-nil}
use Rattle.quic_wire.specs.declared.frame.StreamMeta.{StreamMeta}
use Rattle.quic_writing.specs.Writer.{Writer, TakesTurn, TakesTurns, none, more}
use Rattle.quic_history.specs.World.{World, Made}
use Rattle.quic_history.specs.Carrying.{with_writer}
use Rattle.quic_history.specs.SendEvents.{TookTurn}
use Rattle.quic_history.specs.History.{Event, Sending, From, flow}
use Rattle.quic_history.specs.Flows.{has_side_in}
use Rattle.quic_history.proofs.SendSides.{held-flow}
use Rattle.quic_writing.specs.Appended.{AreWritten}
use Rattle.quic_history.proofs.Histories.{next}
use Rattle.quic_streams.specs.Transmitting.{frames_of, with_turns, GoesOnWithTurns, told_bytes}

frames_of-more : (ts us : List (Option StreamMeta)) → frames_of (ts ++ us) ≡ frames_of ts ++ frames_of us
frames_of-more [] us = refl
frames_of-more (None ∷ ts) us = frames_of-more ts us
frames_of-more (Some frame ∷ ts) us = ap (λ l. frame ∷ l) (frames_of-more ts us)

with_turns-more : (most : ℕ) (fair : Bool) (ts us : List (Option StreamMeta)) (h : List Event) → with_turns most fair (ts ++ us) h ≡ with_turns most fair us (with_turns most fair ts h)
with_turns-more most fair [] us h = refl
with_turns-more most fair (t ∷ ts) us h = with_turns-more most fair ts us (Sending (TookTurn most fair t) ∷ h)

goes_none : (most : ℕ) (fair : Bool) (sent : List StreamMeta) (w : World) → GoesOnWithTurns most fair sent sent w w
goes_none most fair sent w = record { turns = []; handed = sym (append-nil sent); from = λ m h f. f }

goes_then : (most : ℕ) (fair : Bool) (a b c : List StreamMeta) (u v w : World) → GoesOnWithTurns most fair a b u v → GoesOnWithTurns most fair b c v w → GoesOnWithTurns most fair a c u w
goes_then most fair a b c u v w x y = record {
  turns = x.turns ++ y.turns;
  handed = y.handed ∙ ap (λ l. l ++ frames_of y.turns) x.handed ∙ (simp append_assoc) ∙ ap (λ l. a ++ l) (sym (frames_of-more x.turns y.turns));
  from = λ m h f. let P : List Event → Type 0 = λ k. From m k w in
      subst P (sym (with_turns-more most fair x.turns y.turns h)) (y.from m (with_turns most fair x.turns h) (x.from m h f));
}

goes_turn : (most : ℕ) (fair : Bool) (w : World) (a b : Writer) → TakesTurn most fair a b → GoesOnWithTurns most fair a.sent b.sent (with_writer w a) (with_writer w b)
goes_turn most fair w a b (inl t) = record {
  turns = None ∷ [];
  handed = ap (λ (x : Writer). x.sent) t.is ∙ sym (append-nil a.sent);
  from = λ m h f. next m h (with_writer w a) (Sending (TookTurn most fair None)) (with_writer w b) tt f (record { before = a; after = b; found = refl; turn = t; is = refl });
}
goes_turn most fair w a b (inr t) = record {
  turns = Some t.frame.meta ∷ [];
  handed = t.sent;
  from = λ m h f. next m h (with_writer w a) (Sending (TookTurn most fair (Some t.frame.meta))) (with_writer w b) tt f
      (record { before = a; after = b; found = refl; turn = t; meta = refl; is = refl });
}

pub turns-from : {most : ℕ} {fair : Bool} {a b : Writer} (w : World) → TakesTurns most fair a b → GoesOnWithTurns most fair a.sent b.sent (with_writer w a) (with_writer w b)
turns-from {most} {fair} w (none {a}) = goes_none most fair a.sent (with_writer w a)
turns-from {most} {fair} w (more {a} {b} {c} ts room t) =
    goes_then most fair a.sent b.sent c.sent (with_writer w a) (with_writer w b) (with_writer w c) (turns-from w ts) (goes_turn most fair w b c t)

-- what the calls tell was written
pub written-from : (m : Made) (h : List Event) (v : World) → From m h v → AreWritten (told_bytes m h) v.out
written-from m h v f id s e =
    let half = held-flow _ (flow m h id) (has_side_in v.out v.bi.max_remote id) s (v.out.halves id) e (f.sends.flows id) in
    record { cuts = (flow m h id).cuts; has = half.cuts; joined = refl }
