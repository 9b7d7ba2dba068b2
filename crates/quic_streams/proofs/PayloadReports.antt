-- The report of a whole payload goes on with a history.
use Rattle.std.proofs.Common.{◌≡◌, ℕ, ◌-◌, List, [], ◌∷◌, ◌++◌, length, take, Result, Ok, Err, inl, inr, refl, sym, subst, ap, ◌∙◌, arith, length-append}
use Rattle.std.proofs.lemmas.List.{append-nil}
use Rattle.std.proofs.Math.Seq.{take-append_seam}
use Rattle.quic_wire.specs.declared.frame.StreamMeta.{StreamMeta}
use Rattle.quic_retransmits.specs.Pending.{Pending}
use Rattle.quic_history.specs.World.{World, Made}
use Rattle.quic_history.specs.SendEvents.{AckedOwn, LostOwn, ResetAckedOwn}
use Rattle.quic_history.specs.History.{Event, Sending, From}
use Rattle.quic_streams.specs.Settling.{SentView, resets_of, EachInOrder, AcksMeta, LosesMeta, AcksResetOf, AcksWhole, LosesWhole, before_end, with_acks, with_reset_acks, with_losses, acks_told, losses_told}
use Rattle.quic_history.proofs.Histories.{next}

from-metas : (m : Made) (h : List Event) (u v : World) (metas : List StreamMeta) → From m h u → EachInOrder AcksMeta u metas v → From m (with_acks metas h) v
from-metas m h u v [] f r = let P : World → Type 0 = λ x. From m h x in subst P (sym r) f
from-metas m h u v (meta ∷ metas) f r =
    let e = Sending (AckedOwn meta.id meta.offsets meta.fin (Ok tt)) in
    from-metas m (e ∷ h) r.0 v metas (next m h u e r.0 tt f r.1) r.2

from-resets : (m : Made) (h : List Event) (u v : World) (resets : List (ℕ × ℕ)) → From m h u → EachInOrder AcksResetOf u resets v → From m (with_reset_acks resets h) v
from-resets m h u v [] f r = let P : World → Type 0 = λ x. From m h x in subst P (sym r) f
from-resets m h u v (reset ∷ resets) f r =
    let e = Sending (ResetAckedOwn reset.0 (Ok tt)) in
    from-resets m (e ∷ h) r.0 v resets (next m h u e r.0 tt f r.1) r.2

from-lost : (m : Made) (h : List Event) (u v : World) (metas : List StreamMeta) → From m h u → EachInOrder LosesMeta u metas v → From m (with_losses metas h) v
from-lost m h u v [] f r = let P : World → Type 0 = λ x. From m h x in subst P (sym r) f
from-lost m h u v (meta ∷ metas) f r =
    let e = Sending (LostOwn meta.id meta.offsets meta.fin (Ok tt)) in
    from-lost m (e ∷ h) r.0 v metas (next m h u e r.0 tt f r.1) r.2

-- what is before an end is what the end was put behind
pub before-end : {T : Type 0} → (all told end : List T) → all ≡ told ++ end → before_end all end ≡ told
before-end {T} all told end e =
    let lengths : length (told ++ end) - length end ≡ length told = omega (arith, length-append told end) in
    let P : List T → Type 0 = λ xs. take (length xs - length end) xs ≡ told in
    subst P (sym e) (ap (λ n. take n (told ++ end)) lengths ∙ take-append_seam told end)

whole : {T : Type 0} → (all : List T) → before_end all [] ≡ all
whole all = before-end all all [] (sym (append-nil all))

-- the history of a report is that of its parts
acks-parts : (m : Made) (h : List Event) (v : World) (metas all back : List StreamMeta) (resets noted left : List (ℕ × ℕ)) → before_end all back ≡ metas → before_end noted left ≡ resets
    → From m (with_reset_acks resets (with_acks metas h)) v → From m (with_reset_acks (before_end noted left) (with_acks (before_end all back) h)) v
acks-parts m h v metas all back resets noted left e d f = rw e (rw d f)

-- an acknowledgement of a whole payload, or of its beginning
pub from-acks : (m : Made) (h : List Event) (u v : World) (sent : SentView) (answer : Result (Unit {0}) SentView) → From m h u → AcksWhole u sent answer v
    → From m (acks_told sent answer h) v
from-acks m h u v sent (Ok x) f a =
    acks-parts m h v sent.streams sent.streams [] (resets_of sent.control) (resets_of sent.control) [] (whole sent.streams) (whole (resets_of sent.control))
    (from-resets m (with_acks sent.streams h) a.0 v (resets_of sent.control) (from-metas m h u a.0 sent.streams f a.1) a.2)
from-acks m h u v sent (Err back) f (inl s) =
    let P : SentView → Type 0 = λ b. From m (acks_told sent (Err b) h) v in
    let noted = resets_of sent.control in
    subst P (sym s.left) (acks-parts m h v s.frames.told sent.streams (s.frames.next ∷ s.frames.rest) [] noted noted
    (before-end sent.streams s.frames.told (s.frames.next ∷ s.frames.rest) s.frames.parts) (before-end noted [] noted refl)
    (from-metas m h u v s.frames.told f s.frames.reports))
from-acks m h u v sent (Err back) f (inr s) =
    let P : SentView → Type 0 = λ b. From m (acks_told sent (Err b) h) v in
    let noted : resets_of sent.control ≡ s.control.reset_stream = ap resets_of s.noted in
    let left : List (ℕ × ℕ) = s.resets.next ∷ s.resets.rest in
    subst P (sym s.left) (acks-parts m h v sent.streams sent.streams [] s.resets.told (resets_of sent.control) left
    (whole sent.streams) (before-end (resets_of sent.control) s.resets.told left (noted ∙ s.resets.parts))
    (from-resets m (with_acks sent.streams h) s.between v s.resets.told (from-metas m h u s.between sent.streams f s.frames) s.resets.reports))

-- a loss of a whole payload, or of its beginning
pub from-losses : (m : Made) (h : List Event) (u v : World) (p q : Pending) (sent : SentView) (answer : Result (Unit {0}) SentView) → From m h u → LosesWhole u p sent answer v q
    → From m (losses_told sent answer h) v
from-losses m h u v p q sent (Ok x) f a = rw (whole sent.streams) (from-lost m h u v sent.streams f a.0)
from-losses m h u v p q sent (Err back) f (inl s, _) =
    let P : SentView → Type 0 = λ b. From m (losses_told sent (Err b) h) v in
    subst P (sym s.left) (rw (before-end sent.streams s.frames.told (s.frames.next ∷ s.frames.rest) s.frames.parts) (from-lost m h u v s.frames.told f s.frames.reports))
from-losses m h u v p q sent (Err back) f (inr s, _) =
    let P : SentView → Type 0 = λ b. From m (losses_told sent (Err b) h) v in
    subst P (sym s.left) (rw (whole sent.streams) (from-lost m h u v sent.streams f s.frames))
