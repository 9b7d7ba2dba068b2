-- Frames that stand in front of other bytes are frames without these.
use Rattle.std.proofs.Common.{◌≡◌, ℕ, ◌≤◌, Bool, true, false, List, [], ◌∷◌, ◌++◌, length, take, drop, refl, sym, ap, subst, ◌∙◌, arith, append_assoc}
use Rattle.std.proofs.lemmas.List.{take_at, append-nil, length-append, length-drop, nil_from_length}
use Rattle.quic_values.specs.Numbers.{BeginsNumber}
use Rattle.quic_wire.specs.declared.frame.Stream.{Stream}
use Rattle.quic_wire.specs.declared.frame.Frame.{Frame}
use Rattle.quic_wire.specs.declared.frame.Frame.TheVariants as frames
use Rattle.quic_wire.specs.Frames.{has_bit, BeginsTwo, BeginsOffset, BeginsContent, BeginsStream, BeginsFields, BeginsWith, BeginsFrames, AreFrames}

-- bytes without their last ones are such
abbrev Cut : (List ℕ → Type 0) → List ℕ → List ℕ → Type 0
Cut Are bytes b = (text : List ℕ) × (bytes ≡ text ++ b) × Are text

number-cut : (bytes j b : List ℕ) (n : ℕ) → BeginsNumber bytes n (j ++ b) → Cut (λ t. BeginsNumber t n j) bytes b
number-cut bytes j b n h = (h.0 ++ j, h.2 ∙ sym (append_assoc h.0 j b), (h.0, h.1, refl))

two-cut : (bytes j b : List ℕ) (m n : ℕ) → BeginsTwo bytes m n (j ++ b) → Cut (λ t. BeginsTwo t m n j) bytes b
two-cut bytes j b m n h =
    let second = number-cut h.0 j b n h.2 in
    let first = number-cut bytes second.0 b m (subst (λ r. BeginsNumber bytes m r) second.1 h.1) in
    (first.0, first.1, (second.0, first.2, second.2))

offset-cut : (o : Bool) (bytes j b : List ℕ) (n : ℕ) → BeginsOffset o bytes n (j ++ b) → Cut (λ t. BeginsOffset o t n j) bytes b
offset-cut true bytes j b n h = number-cut bytes j b n h
offset-cut false bytes j b n h = (j, h.1, (h.0, refl))

content-cut : (l : Bool) (bytes content j b : List ℕ) → BeginsContent l bytes content (j ++ b) → Cut (λ t. BeginsContent l t content j) bytes b
content-cut true bytes content j b h = number-cut bytes (content ++ j) b (length content) (subst (λ r. BeginsNumber bytes (length content) r) (sym (append_assoc content j b)) h)
content-cut false bytes content j b h =
    let none : length (j ++ b) ≡ 0 = ap length h.1 in
    let b-none : b ≡ [] = nil_from_length b (omega (arith, none, length-append j b)) in
    (content, h.0 ∙ sym (append-nil content) ∙ ap (λ l. content ++ l) (sym b-none), (refl, nil_from_length j (omega (arith, none, length-append j b))))

stream-cut : (kind : ℕ) (bytes j b : List ℕ) (s : Stream) → BeginsStream kind bytes s (j ++ b) → Cut (λ t. BeginsStream kind t s j) bytes b
stream-cut kind bytes j b s h =
    let content = content-cut (has_bit kind 2) h.5 s.bytes j b h.7 in
    let offset = offset-cut (has_bit kind 4) h.3 content.0 b s.offset (subst (λ r. BeginsOffset (has_bit kind 4) h.3 s.offset r) content.1 h.6) in
    let id = number-cut bytes offset.0 b s.id (subst (λ r. BeginsNumber bytes s.id r) offset.1 h.4) in
    (id.0, id.1, (h.0, h.1, h.2, offset.0, id.2, content.0, offset.2, content.2))

fields-cut : (kind : ℕ) (bytes j b : List ℕ) (f : Frame) → BeginsFields kind bytes f (j ++ b) → Cut (λ t. BeginsFields kind t f j) bytes b
fields-cut kind bytes j b (frames.ResetStream f) h =
    let end = two-cut h.1 j b f.error_code f.final_offset h.3 in
    let id = number-cut bytes end.0 b f.id (subst (λ r. BeginsNumber bytes f.id r) end.1 h.2) in
    (id.0, id.1, (h.0, end.0, id.2, end.2))
fields-cut kind bytes j b (frames.StopSending f) h = let c = two-cut bytes j b f.id f.error_code h.1 in (c.0, c.1, (h.0, c.2))
fields-cut kind bytes j b (frames.Stream s) h = stream-cut kind bytes j b s h
fields-cut kind bytes j b (frames.MaxData n) h = let c = number-cut bytes j b n h.1 in (c.0, c.1, (h.0, c.2))
fields-cut kind bytes j b (frames.MaxStreamData id n) h = let c = two-cut bytes j b id n h.1 in (c.0, c.1, (h.0, c.2))
fields-cut kind bytes j b (frames.MaxStreams dir n) h = let c = number-cut bytes j b n h.1 in (c.0, c.1, (h.0, c.2))
fields-cut kind bytes j b (frames.DataBlocked n) h = let c = number-cut bytes j b n h.1 in (c.0, c.1, (h.0, c.2))
fields-cut kind bytes j b (frames.StreamDataBlocked id n) h = let c = two-cut bytes j b id n h.1 in (c.0, c.1, (h.0, c.2))
fields-cut kind bytes j b (frames.Datagram d) h = let c = content-cut (has_bit kind 1) bytes d.bytes j b h.2 in (c.0, c.1, (h.0, h.1, c.2))
fields-cut kind bytes j b _ h = absurd h

frame-cut : (bytes j b : List ℕ) (f : Frame) → BeginsWith bytes f (j ++ b) → Cut (λ t. BeginsWith t f j) bytes b
frame-cut [] j b f h = absurd h
frame-cut (kind ∷ bytes) j b f h = let c = fields-cut kind bytes j b f h in (kind ∷ c.0, ap (λ l. kind ∷ l) c.1, c.2)

frames-cut : (bytes b : List ℕ) (fs : List Frame) → BeginsFrames bytes fs b → Cut (λ t. AreFrames t fs) bytes b
frames-cut bytes b [] h = ([], h, refl)
frames-cut bytes b (f ∷ fs) h =
    let others = frames-cut h.0 b fs h.2 in
    let first = frame-cut bytes others.0 b f (subst (λ r. BeginsWith bytes f r) others.1 h.1) in
    (first.0, first.1, (others.0, first.2, others.2))

-- the bytes of a run are its frames
pub run-text : (bytes : List ℕ) (n : ℕ) (fs : List Frame) → n ≤ length bytes → BeginsFrames bytes fs (drop n bytes) → AreFrames (take n bytes) fs
run-text bytes n fs within h =
    let c = frames-cut bytes (drop n bytes) fs h in
    let long : length c.0 ≡ n = omega (arith, ap length c.1, length-append c.0 (drop n bytes), length-drop n bytes, within) in
    let is : take n bytes ≡ c.0 = ap (take n) c.1 ∙ ap (λ k. take k (c.0 ++ drop n bytes)) (sym long) ∙ take_at c.0 (drop n bytes) (length c.0) refl in
    subst (λ t. AreFrames t fs) (sym is) c.2
