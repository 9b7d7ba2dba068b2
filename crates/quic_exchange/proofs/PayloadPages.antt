-- The frames beside STREAM that are written into a payload are calls of a linked end, which wrote them.
use Rattle.std.proofs.Common.{◌≡◌, ℕ, List, [], ◌∷◌, ◌++◌, Option, Some, None, Result, Ok, Err, refl, sym, subst, inl, inr}
use Rattle.std.specs.Prelude.{IfSome}
use Rattle.std.proofs.lemmas.List.{append_assoc}
use Rattle.quic_values.specs.declared.memory.OutOfMemory.{OutOfMemory}
use Rattle.quic_wire.specs.declared.frame.Frame.{Frame}
use Rattle.quic_wire.specs.Text.{text}
use Rattle.quic_wire.specs.Frames.{BeginsFrames}
use Rattle.quic_wire.proofs.Joins.{join}
use Rattle.quic_datagrams.specs.declared.stats.FrameStats.{FrameStats}
use Rattle.quic_retransmits.specs.Pending.{nothing}
use Rattle.quic_history.specs.World.{World}
use Rattle.quic_history.specs.Control.{SettlesEntry, kind_bound}
use Rattle.quic_history.specs.declared.control.ControlKind.{ControlKind}
use Rattle.quic_history.specs.History.{LeftPending}
use Rattle.quic_streams.specs.Payload.{Sheet, PayloadPlace, with_frame_written, with_frame_written_if, SettlesOne, SettlesSome, FitsIn, none, more, WritesKinds}
use Rattle.quic_link.specs.Endpoints.{LinkedEnd, Linked, IsOneOf, acted, WasAskedFor}
use Rattle.quic_link.specs.Asked.{AreAsked}
use Rattle.quic_link.proofs.Basics.{either-of, only}
use Rattle.quic_link.proofs.Joint.{agrees}
use Rattle.quic_link.proofs.AskedFor.{asked-nothing, asked-written, asked-noted, frame-asked}
use Rattle.quic_link.proofs.Payloads.{entry-may, entry-linked}
use Rattle.quic_endpoint.specs.Ends.{EndState}
use Rattle.quic_endpoint.specs.Emitting.{place_at}
use Rattle.quic_exchange.proofs.Joined.{Stands}
use Rattle.quic_exchange.proofs.KeptFrames.{HearsNothing, hears-none, hears-both}
use Rattle.quic_exchange.proofs.PayloadKeeps.{Keeps, keeps-refl, keeps-both, keeps-settled, hears-settled}

-- x came to an end at a place of a payload, of which it wrote every frame, and what is left and what was noted was asked for
pub record Page (x y : LinkedEnd) (p : PayloadPlace) : Type 0 where
  pub end : LinkedEnd
  pub linked : Linked end y
  pub keeps : Keeps x end
  pub hears : HearsNothing x end
  pub world : end.world ≡ p.end
  pub left : AreAsked end p.pending
  pub notes : AreAsked end p.sheet.sent
  pub all : List Frame
  pub spelled : (rest : List ℕ) → BeginsFrames (p.sheet.bytes ++ rest) all rest
  pub wrote : (g : Frame) → IsOneOf g all → IsOneOf g end.wrote

-- an empty payload
page_first : (x y : LinkedEnd) (e : EndState) (stats : FrameStats) → Linked x y → Stands x e → Page x y (place_at e [] nothing stats)
page_first x y e stats l s = record {
  end = x;
  linked = l;
  keeps = keeps-refl x;
  hears = hears-none x;
  world = s.world;
  left = s.pending;
  notes = asked-nothing x;
  all = [];
  spelled = λ rest. refl;
  wrote = λ g h. absurd h;
}

-- ---- one entry more

module _ (x y : LinkedEnd) (p q : PayloadPlace) (t : Page x y p) (kind : ControlKind) where
  settles_here : (frame : Option Frame) → SettlesEntry kind p.end p.pending frame q.end q.pending → SettlesEntry kind t.end.world p.pending frame q.end q.pending
  settles_here frame s = let P : World → Type 0 = λ u. SettlesEntry kind u p.pending frame q.end q.pending in subst P (sym t.world) s

  -- it is dropped
  page_dropped : SettlesEntry kind p.end p.pending None q.end q.pending → q.sheet ≡ p.sheet → Page x y q
  page_dropped s same =
      let k = settles_here None s in
      let may = entry-may t.end y kind p.pending q.pending None q.end t.left k in
      let next = entry-linked t.end y kind p.pending q.pending None q.end t.linked t.left k in
      let keeps = keeps-settled t.end y kind None q.end t.linked may in
      let z = acted t.end (LeftPending kind None) q.end in
      let P : Sheet → Type 0 = λ h. AreAsked z h.sent in
      let Q : Sheet → Type 0 = λ h. (rest : List ℕ) → BeginsFrames (h.bytes ++ rest) t.all rest in
      record {
        end = z;
        linked = next.0;
        keeps = keeps-both x t.end z t.keeps keeps;
        hears = hears-both x t.end z t.hears (hears-settled t.end kind None q.end);
        world = refl;
        left = next.1;
        notes = subst P (sym same) (keeps.asked p.sheet.sent t.notes);
        all = t.all;
        spelled = subst Q (sym same) t.spelled;
        wrote = λ g h. keeps.wrote g (t.wrote g h);
      }

  -- it is written
  page_written : (g : Frame) → SettlesEntry kind p.end p.pending (Some g) q.end q.pending → q.sheet ≡ with_frame_written p.sheet g → ((rest : List ℕ) → BeginsFrames (text g ++ rest) (g ∷ []) rest) → Page x y q
  page_written g s same fits =
      let k = settles_here (Some g) s in
      let may = entry-may t.end y kind p.pending q.pending (Some g) q.end t.left k in
      let next = entry-linked t.end y kind p.pending q.pending (Some g) q.end t.linked t.left k in
      let keeps = keeps-settled t.end y kind (Some g) q.end t.linked may in
      let z = acted t.end (LeftPending kind (Some g)) q.end in
      let told : WasAskedFor z g = frame-asked t.end y (LeftPending kind (Some g)) q.end ((agrees t.linked).0).comes may g (asked-written t.end p.pending t.left kind g q.end q.pending k) in
      let P : Sheet → Type 0 = λ h. AreAsked z h.sent in
      let Q : Sheet → Type 0 = λ h. (rest : List ℕ) → BeginsFrames (h.bytes ++ rest) (t.all ++ g ∷ []) rest in
      record {
        end = z;
        linked = next.0;
        keeps = keeps-both x t.end z t.keeps keeps;
        hears = hears-both x t.end z t.hears (hears-settled t.end kind (Some g) q.end);
        world = refl;
        left = next.1;
        notes = subst P (sym same) (asked-noted z p.sheet.sent g told (keeps.asked p.sheet.sent t.notes));
        all = t.all ++ g ∷ [];
        spelled = subst Q (sym same) (λ rest. spelled_more rest);
        wrote = λ f h. elim (either-of f t.all (g ∷ []) h) [ inl before ↦ keeps.wrote f (t.wrote f before) | inr now ↦ inl (only f g now) ];
      }
    where
      spelled_more : (rest : List ℕ) → BeginsFrames ((p.sheet.bytes ++ text g) ++ rest) (t.all ++ g ∷ []) rest
      spelled_more rest =
          let P : List ℕ → Type 0 = λ b. BeginsFrames b (t.all ++ g ∷ []) rest in
          subst P (sym (append_assoc p.sheet.bytes (text g) rest)) (join (p.sheet.bytes ++ (text g ++ rest)) (text g ++ rest) rest t.all (g ∷ []) (t.spelled (text g ++ rest)) (fits rest))

  page_one : SettlesOne kind p q → Page x y q
  page_one s = by_frame s.frame s.settles s.written s.fits
    where
      by_frame : (frame : Option Frame) → SettlesEntry kind p.end p.pending frame q.end q.pending → q.sheet ≡ with_frame_written_if p.sheet frame → IfSome frame (FitsIn (kind_bound kind)) → Page x y q
      by_frame None k same fits = page_dropped k same
      by_frame (Some g) k same fits = page_written g k same (λ rest. (rest, fits.spelled rest, refl))

-- ---- all entries

page_some : {kind : ControlKind} {most : ℕ} {p q : PayloadPlace} (x y : LinkedEnd) → Page x y p → SettlesSome kind most p q → Page x y q
page_some x y t (none {p}) = t
page_some {kind} x y t (more {p} {q} {r} before room s) = page_one x y q r (page_some x y t before) kind s

page_kinds : (x y : LinkedEnd) (most : ℕ) (kinds : List ControlKind) (p q : PayloadPlace) (answer : Result (Unit {0}) OutOfMemory) → Page x y p → WritesKinds most kinds p answer q → Page x y q
page_kinds x y most [] p q (Ok u) t w = let P : PayloadPlace → Type 0 = λ k. Page x y k in subst P (sym w) t
page_kinds x y most [] p q (Err e) t w = absurd w
page_kinds x y most (k ∷ ks) p q answer t w = elim w [
  | inl a ↦ page_kinds x y most ks a.0 q answer (page_some x y t a.1.turns) a.2
  | inr b ↦ page_some x y t b.1
]

-- what an end writes beside STREAM into an empty payload
pub page-control : (x y : LinkedEnd) (most : ℕ) (e : EndState) (stats : FrameStats) (kinds : List ControlKind) (q : PayloadPlace) (answer : Result (Unit {0}) OutOfMemory) → Linked x y → Stands x e → WritesKinds most kinds (place_at e [] nothing stats) answer q
    → Page x y q
page-control x y most e stats kinds q answer l s w = page_kinds x y most kinds (place_at e [] nothing stats) q answer (page_first x y e stats l s) w
