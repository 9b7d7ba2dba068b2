-- What the turns of a writer append.
use Rattle.std.proofs.Common.{◌≡◌, ℕ, ◌+◌, ◌-◌, ◌≤◌, ◌<◌, ◌⊎◌, Bool, true, false, cond, eqb, List, [], ◌∷◌, ◌++◌, length, drop, Some, refl, sym, ap, ◌∙◌, inl, inr, subst, arith, length-append, length-drop, append-nil, append_assoc}
use Rattle.std.specs.Prelude.{map}
use Rattle.std.specs.List.{concat}
use Rattle.std.proofs.lemmas.List.{map-append, length-take-le}
use Rattle.std.proofs.lemmas.Bool.{eqb-true}
use Rattle.std.proofs.lemmas.Option.{same_Some}
use Rattle.quic_wire.specs.declared.frame.StreamMeta.{StreamMeta}
use Rattle.quic_wire.specs.declared.frame.Frame.{Frame}
use Rattle.quic_wire.specs.Text.{meta_text}
use Rattle.quic_wire.specs.Frames.{BeginsFrames, AreFrames}
use Rattle.quic_wire.proofs.Joins.{join}
use Rattle.quic_sending.specs.declared.send.Send.{Send}
use Rattle.quic_sending.specs.Buffer.{total_length, uncovered}
use Rattle.quic_outgoing.specs.Senders.{SendersById, with_sender}
use Rattle.quic_outgoing.specs.Transmitting.{between}
use Rattle.quic_writing.specs.Writer.{Writer, SkipsFirst, ServesFirst, TakesTurn, TakesTurns, none, more}
use Rattle.quic_writing.specs.Appended.{HoldsWritten, AreWritten, frame_with, spelling, spellings, LacksLastLength, AppendsFrames}
use Rattle.quic_writing.proofs.Sizes.{frame-within, frame-fills}

-- ---- what was written stays

-- a half with the same bytes and acknowledged prefix
holds-after : (bytes : List ℕ) (s t : Send) → HoldsWritten bytes s → t.pending.offset ≡ s.pending.offset → t.pending.prefix ≡ s.pending.prefix → t.pending.held ≡ s.pending.held → HoldsWritten bytes t
holds-after bytes s t h offset prefix held = record {
  cuts = h.cuts;
  has = record { written = offset ∙ h.has.written; retained = held ∙ h.has.retained ∙ ap (λ n. uncovered n h.cuts) (sym prefix) };
  joined = h.joined;
}

held-at : (written : ℕ → List ℕ) (f : SendersById) (id q : ℕ) (sent s : Send) (b : Bool) → eqb q id ≡ b → HoldsWritten (written id) sent
    → ((s : Send) → f q ≡ Some s → HoldsWritten (written q) s) → cond b (Some sent) (f q) ≡ Some s → HoldsWritten (written q) s
held-at written f id q sent s true is new old at =
    let same : sent ≡ s = same_Some _ _ at in
    let here : q ≡ id = eqb-true q id is in
    subst (λ n. HoldsWritten (written n) s) (sym here) (subst (λ (x : Send). HoldsWritten (written id) x) same new)
held-at written f id q sent s false is new old at = old s at

written-kept : (written : ℕ → List ℕ) (f g : SendersById) (id : ℕ) (sent : Send) → g ≡ with_sender f id (Some sent) → HoldsWritten (written id) sent
    → ((q : ℕ) (s : Send) → f q ≡ Some s → HoldsWritten (written q) s) → (q : ℕ) (s : Send) → g q ≡ Some s → HoldsWritten (written q) s
unfolding with_sender
written-kept written f g id sent is new old q s at =
    let there : cond (eqb q id) (Some sent) (f q) ≡ Some s = sym (ap (λ (k : SendersById). k q) is) ∙ at in
    held-at written f id q sent s (eqb q id) refl new (old q) there

-- ---- the bytes of a frame

total-concat : (cuts : List (List ℕ)) → total_length cuts ≡ length (concat cuts)
total-concat [] = refl
total-concat (c ∷ cs) = rw (length-append c (concat cs), total-concat cs) refl

written-length : (bytes : List ℕ) (s : Send) → HoldsWritten bytes s → s.pending.offset ≡ length bytes
written-length bytes s h = h.has.written ∙ total-concat h.cuts ∙ ap length h.joined

length-between : (bytes : List ℕ) (start end : ℕ) → start ≤ end → end ≤ length bytes → length (between bytes start end) ≡ end - start
length-between bytes start end ordered within =
    let fits : end - start ≤ length (drop start bytes) = omega (arith, length-drop start bytes) in
    length-take-le (end - start) (drop start bytes) fits

-- ---- one frame more

spellings-append : (written : ℕ → List ℕ) (ms : List StreamMeta) (m : StreamMeta) → spellings written (ms ++ m ∷ []) ≡ spellings written ms ++ spelling written true m
spellings-append written [] m = append-nil (spelling written true m)
spellings-append written (x ∷ ms) m = ap (λ t. spelling written true x ++ t) (spellings-append written ms m) ∙ sym (append_assoc (spelling written true x) (spellings written ms) (spelling written true m))

-- the text so far: all frames have a length, and more may follow; or the payload is full
abbrev pub IsTextSoFar : (ℕ → List ℕ) → ℕ → Writer → List StreamMeta → List ℕ → Type 0
IsTextSoFar written most b frames text =
    ((text ≡ spellings written frames) × ((rest : List ℕ) → BeginsFrames (text ++ rest) (map (frame_with written) frames) rest))
    ⊎ (LacksLastLength written frames text × AreFrames text (map (frame_with written) frames) × (length b.bytes ≡ most))

pub record Progress (written : ℕ → List ℕ) (most : ℕ) (a b : Writer) : Type 0 where
  pub frames : List StreamMeta
  pub text : List ℕ
  pub sent : b.sent ≡ a.sent ++ frames
  pub bytes : b.bytes ≡ a.bytes ++ text
  pub so_far : IsTextSoFar written most b frames text
  pub within : length a.bytes ≤ most → length b.bytes ≤ most
  pub kept : AreWritten written b.streams

-- where more fits, each frame has a length
all-lengths : (written : ℕ → List ℕ) (most : ℕ) (b : Writer) (frames : List StreamMeta) (text : List ℕ) → IsTextSoFar written most b frames text → length b.bytes + 25 < most
    → (text ≡ spellings written frames) × ((rest : List ℕ) → BeginsFrames (text ++ rest) (map (frame_with written) frames) rest)
all-lengths written most b frames text (inl h) small = h
all-lengths written most b frames text (inr h) small = absurd (omega (arith, h.2, small))

join-one : (text one rest : List ℕ) (fs : List Frame) (f : Frame) → ((rest : List ℕ) → BeginsFrames (text ++ rest) fs rest) → BeginsFrames (one ++ rest) (f ∷ []) rest
    → BeginsFrames ((text ++ one) ++ rest) (fs ++ f ∷ []) rest
join-one text one rest fs f before this =
    let whole = join (text ++ (one ++ rest)) (one ++ rest) rest fs (f ∷ []) (before (one ++ rest)) this in
    let same : (text ++ one) ++ rest ≡ text ++ (one ++ rest) = append_assoc text one rest in
    rw same whole

so-far-more : (written : ℕ → List ℕ) (most : ℕ) (c : Writer) (frames : List StreamMeta) (text : List ℕ) (m : StreamMeta) (b : Bool)
    → text ≡ spellings written frames → ((rest : List ℕ) → BeginsFrames (text ++ rest) (map (frame_with written) frames) rest)
    → ((rest : List ℕ) → (b ≡ false → rest ≡ []) → BeginsFrames (spelling written b m ++ rest) (frame_with written m ∷ []) rest)
    → (b ≡ false → length c.bytes ≡ most)
    → IsTextSoFar written most c (frames ++ m ∷ []) (text ++ spelling written b m)
so-far-more written most c frames text m true is before this fills =
    let fs : map (frame_with written) (frames ++ m ∷ []) ≡ map (frame_with written) frames ++ frame_with written m ∷ [] = map-append (frame_with written) frames (m ∷ []) in
    inl (
      ap (λ t. t ++ spelling written true m) is ∙ sym (spellings-append written frames m),
      λ rest. rw fs (join-one text (spelling written true m) rest _ _ before (this rest (λ e. absurd (let x = e in cc)))),
    )
so-far-more written most c frames text m false is before this fills =
    let fs : map (frame_with written) (frames ++ m ∷ []) ≡ map (frame_with written) frames ++ frame_with written m ∷ [] = map-append (frame_with written) frames (m ∷ []) in
    let whole = join-one text (spelling written false m) [] (map (frame_with written) frames) (frame_with written m) before (this [] (λ e. refl)) in
    let bare : BeginsFrames (text ++ spelling written false m) (map (frame_with written) frames ++ frame_with written m ∷ []) [] =
    subst (λ t. BeginsFrames t (map (frame_with written) frames ++ frame_with written m ∷ []) []) (append-nil (text ++ spelling written false m)) whole in
    inr (record { before = frames; last = m; are = refl; spelled = ap (λ t. t ++ spelling written false m) is }, rw fs bare, fills refl)

-- a stream that is let go changes no byte
skipped : (written : ℕ → List ℕ) (most : ℕ) (a b c : Writer) → Progress written most a b → SkipsFirst b c → Progress written most a c
skipped written most a b c p s =
    let sent : c.sent ≡ b.sent = ap (λ (w : Writer). w.sent) s.is in
    let bytes : c.bytes ≡ b.bytes = ap (λ (w : Writer). w.bytes) s.is in
    let streams : c.streams ≡ b.streams = ap (λ (w : Writer). w.streams) s.is in
    record {
      frames = p.frames;
      text = p.text;
      sent = sent ∙ p.sent;
      bytes = bytes ∙ p.bytes;
      so_far = elim p.so_far [ inl h ↦ inl h | inr h ↦ inr (h.0, h.1, ap length bytes ∙ h.2) ];
      within = λ h. rw bytes (p.within h);
      kept = rw streams p.kept;
    }

-- a frame is appended
served : (written : ℕ → List ℕ) (most : ℕ) (fair : Bool) (a b c : Writer) → Progress written most a b → length b.bytes + 25 < most → ServesFirst most fair b c → Progress written most a c
served written most fair a b c p small s =
    let h = s.transmits.appends in
    let m = s.frame.meta in
    let half = s.transmits.half in
    let old = p.kept s.entry.id half s.transmits.is_held in
    let bytes_of : written s.entry.id ≡ written m.id = ap written (sym h.id_is) in
    let size : half.pending.offset ≡ length (written m.id) = written-length (written s.entry.id) half old ∙ ap length bytes_of in
    let data' : between (concat old.cuts) m.offsets.start m.offsets.end ≡ between (written m.id) m.offsets.start m.offsets.end =
    ap (λ bytes. between bytes m.offsets.start m.offsets.end) (old.joined ∙ bytes_of) in
    let this : c.bytes ≡ b.bytes ++ spelling written h.with_length m =
    h.text old.cuts old.has ∙ append_assoc b.bytes (meta_text m h.with_length) _ ∙ ap (λ t. b.bytes ++ (meta_text m h.with_length ++ t)) data' in
    let lengths = all-lengths written most b p.frames p.text p.so_far small in
    let content = between (written m.id) m.offsets.start m.offsets.end in
    let long : length content ≡ m.offsets.end - m.offsets.start = length-between (written m.id) m.offsets.start m.offsets.end h.ordered (omega (arith, h.written, size)) in
    record {
      frames = p.frames ++ m ∷ [];
      text = p.text ++ spelling written h.with_length m;
      sent = s.sent ∙ ap (λ ms. ms ++ m ∷ []) p.sent ∙ append_assoc a.sent p.frames (m ∷ []);
      bytes = this ∙ ap (λ t. t ++ spelling written h.with_length m) p.bytes ∙ append_assoc a.bytes p.text (spelling written h.with_length m);
      so_far = so-far-more written most c p.frames p.text m h.with_length lengths.0 lengths.1
          (λ rest last. (rest, h.spelled content rest long last, refl))
          (λ lacks. frame-fills most s.entry.id half s.transmits.sent b.bytes c.bytes s.frame h small lacks);
      within = λ fits. frame-within most s.entry.id half s.transmits.sent b.bytes c.bytes s.frame h small;
      kept = written-kept written b.streams.halves c.streams.halves s.entry.id s.transmits.sent s.transmits.is
          (holds-after (written s.entry.id) half s.transmits.sent old (ap (λ (x : Send). x.pending.offset) h.after) (ap (λ (x : Send). x.pending.prefix) h.after) (ap (λ (x : Send). x.pending.held) h.after))
          p.kept;
    }

progress-turn : (written : ℕ → List ℕ) (most : ℕ) (fair : Bool) (a b c : Writer) → Progress written most a b → length b.bytes + 25 < most → TakesTurn most fair b c → Progress written most a c
progress-turn written most fair a b c p small (inl s) = skipped written most a b c p s
progress-turn written most fair a b c p small (inr s) = served written most fair a b c p small s

progress-turns : {most : ℕ} {fair : Bool} {a b : Writer} (written : ℕ → List ℕ) → TakesTurns most fair a b → AreWritten written a.streams → Progress written most a b
progress-turns written (none {a}) h = record {
  frames = [];
  text = [];
  sent = sym (append-nil a.sent);
  bytes = sym (append-nil a.bytes);
  so_far = inl (refl, λ rest. refl);
  within = λ fits. fits;
  kept = h;
}
progress-turns {most} {fair} written (more {a} {b} {c} ts small t) h = progress-turn written most fair a b c (progress-turns written ts h) small t

told : (written : ℕ → List ℕ) (most : ℕ) (b : Writer) (frames : List StreamMeta) (text : List ℕ) → IsTextSoFar written most b frames text
    → ((text ≡ spellings written frames) ⊎ (LacksLastLength written frames text × (length b.bytes ≡ most))) × AreFrames text (map (frame_with written) frames)
told written most b frames text (inl h) = (inl h.0, subst (λ t. BeginsFrames t (map (frame_with written) frames) []) (append-nil text) (h.1 []))
told written most b frames text (inr h) = (inr (h.0, h.2), h.1)

pub appends-turns : {most : ℕ} {fair : Bool} {a b : Writer} (written : ℕ → List ℕ) → TakesTurns most fair a b → AreWritten written a.streams → AppendsFrames written most a b
appends-turns {most} {fair} {a} {b} written ts h =
    let p = progress-turns written ts h in
    let tells = told written most b p.frames p.text p.so_far in
    record { frames = p.frames; text = p.text; sent = p.sent; bytes = p.bytes; spelled = tells.0; decodes = tells.1; within = p.within; kept = p.kept }
