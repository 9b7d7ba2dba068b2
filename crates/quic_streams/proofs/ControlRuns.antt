-- What entries that leave what is pending leave behind, one after another.
use Rattle.std.proofs.Common.{◌≡◌, ℕ, ◌+◌, ◌<◌, ◌≤◌, Bool, false, List, [], ◌∷◌, ◌++◌, length, length-append, Option, Some, None, Result, Ok, Err, refl, sym, ap, ◌∙◌, subst, inl, inr, arith}
use Rattle.std.specs.Prelude.{IfSome, IsErr, OnOk, not, ◌&&◌, ◌==◌}
use Rattle.quic_values.specs.declared.memory.OutOfMemory.{OutOfMemory}
use Rattle.quic_values.specs.declared.ids.Dir.{Dir}
use Rattle.quic_values.specs.declared.ids.Dir.TheVariants.{Bi, Uni}
use Rattle.quic_wire.specs.declared.frame.Frame.{Frame}
use Rattle.quic_wire.specs.Text.{text}
use Rattle.quic_retransmits.specs.Pending.{Pending}
use Rattle.quic_retransmits.specs.Settling.{max_streams_in, without_max_streams, without_id}
use Rattle.quic_history.specs.World.{World}
use Rattle.quic_history.specs.History.{Event, LeftPending, From}
use Rattle.quic_history.specs.declared.control.ControlKind.{ControlKind}
use Rattle.quic_history.specs.declared.control.ControlKind.TheVariants as kinds
use Rattle.quic_history.specs.Control.{SettlesEntry, HasNoneOf, kind_bound}
use Rattle.quic_history.proofs.Histories.{next}
use Rattle.quic_streams.specs.Payload.{Sheet, PayloadPlace, SettlesOne, SettlesSome, none, more, IsKindDone, FitsIn, WritesKinds, control_order, with_frame_written_if, Entry, sheet_with, with_entries, WritesEntries}

-- ---- nothing is added to what is pending

-- where there was none of something, there is none
record Fewer (q p : Pending) : Type 0 where
  pub resets : p.reset_stream ≡ [] → q.reset_stream ≡ []
  pub stops : p.stop_sending ≡ [] → q.stop_sending ≡ []
  pub limit : p.max_data ≡ false → q.max_data ≡ false
  pub windows : (id : ℕ) → p.max_stream_data id ≡ false → q.max_stream_data id ≡ false
  pub streams : (d : Dir) → max_streams_in p d ≡ false → max_streams_in q d ≡ false
  pub blocked : p.data_blocked ≡ false → q.data_blocked ≡ false
  pub stream_blocked : (id : ℕ) → p.stream_data_blocked id ≡ false → q.stream_data_blocked id ≡ false

fewer_at : (p q r : Pending) → q ≡ r → Fewer r p → Fewer q p
fewer_at p q r e f = let P : Pending → Type 0 = λ x. Fewer x p in subst P (sym e) f

no_last : {T : Type 0} (front : List T) (x : T) (xs : List T) → xs ≡ front ++ x ∷ [] → xs ≡ [] → front ≡ []
no_last [] x xs e n = refl
no_last (y ∷ front) x xs e n = absurd (apart (sym e ∙ n))
  where
    apart : y ∷ (front ++ x ∷ []) ≡ [] → ⊥
    apart k = cc

taken_none : (b c : Bool) → b ≡ false → (b && c) ≡ false
taken_none b c e = rw e refl

fewer_without : (d e : Dir) (p : Pending) → max_streams_in p e ≡ false → max_streams_in (without_max_streams p d) e ≡ false
fewer_without Bi Bi p k = refl
fewer_without Bi Uni p k = k
fewer_without Uni Bi p k = k
fewer_without Uni Uni p k = refl

fewer_streams : (d : Dir) (p : Pending) → Fewer (without_max_streams p d) p
fewer_streams Bi p = record { resets = λ k. k; stops = λ k. k; limit = λ k. k; windows = λ id k. k; streams = λ e k. fewer_without Bi e p k; blocked = λ k. k; stream_blocked = λ id k. k }
fewer_streams Uni p = record { resets = λ k. k; stops = λ k. k; limit = λ k. k; windows = λ id k. k; streams = λ e k. fewer_without Uni e p k; blocked = λ k. k; stream_blocked = λ id k. k }

same_streams : (p : Pending) (q : Pending) → q.max_streams_bi ≡ p.max_streams_bi → q.max_streams_uni ≡ p.max_streams_uni → (d : Dir) → max_streams_in p d ≡ false → max_streams_in q d ≡ false
same_streams p q b u Bi k = b ∙ k
same_streams p q b u Uni k = u ∙ k

settles_fewer : (k : ControlKind) (u : World) (p : Pending) (o : Option Frame) (v : World) (q : Pending) → SettlesEntry k u p o v q → Fewer q p
settles_fewer kinds.ResetStream u p o v q s = fewer_at p q _ s.left
    (record { resets = λ n. no_last s.front (s.id, s.code) p.reset_stream s.last n; stops = λ k. k; limit = λ k. k; windows = λ id k. k; streams = same_streams p (record p { reset_stream = s.front }) refl refl; blocked = λ k. k; stream_blocked = λ id k. k })
settles_fewer kinds.StopSending u p o v q s = fewer_at p q _ s.left
    (record { resets = λ k. k; stops = λ n. no_last s.front s.stop p.stop_sending s.last n; limit = λ k. k; windows = λ id k. k; streams = same_streams p (record p { stop_sending = s.front }) refl refl; blocked = λ k. k; stream_blocked = λ id k. k })
settles_fewer kinds.MaxData u p o v q s = fewer_at p q _ s.left
    (record { resets = λ k. k; stops = λ k. k; limit = λ k. refl; windows = λ id k. k; streams = same_streams p (record p { max_data = false }) refl refl; blocked = λ k. k; stream_blocked = λ id k. k })
settles_fewer kinds.MaxStreamData u p o v q s = fewer_at p q _ s.left
    (record {
      resets = λ k. k;
      stops = λ k. k;
      limit = λ k. k;
      windows = λ id k. taken_none (p.max_stream_data id) (not (id == s.id)) k;
      streams = same_streams p (record p { max_stream_data = without_id p.max_stream_data s.id }) refl refl;
      blocked = λ k. k;
      stream_blocked = λ id k. k;
    })
settles_fewer (kinds.MaxStreams d) u p o v q s = fewer_at p q _ s.left (fewer_streams d p)
settles_fewer kinds.DataBlocked u p o v q s = fewer_at p q _ s.left
    (record { resets = λ k. k; stops = λ k. k; limit = λ k. k; windows = λ id k. k; streams = same_streams p (record p { data_blocked = false }) refl refl; blocked = λ k. refl; stream_blocked = λ id k. k })
settles_fewer kinds.StreamDataBlocked u p o v q s = fewer_at p q _ s.left
    (record {
      resets = λ k. k;
      stops = λ k. k;
      limit = λ k. k;
      windows = λ id k. k;
      streams = same_streams p (record p { stream_data_blocked = without_id p.stream_data_blocked s.id }) refl refl;
      blocked = λ k. k;
      stream_blocked = λ id k. taken_none (p.stream_data_blocked id) (not (id == s.id)) k;
    })

fewer_none : (k : ControlKind) (q p : Pending) → Fewer q p → HasNoneOf k p → HasNoneOf k q
fewer_none kinds.ResetStream q p f n = f.resets n
fewer_none kinds.StopSending q p f n = f.stops n
fewer_none kinds.MaxData q p f n = f.limit n
fewer_none kinds.MaxStreamData q p f n = λ id. f.windows id (n id)
fewer_none (kinds.MaxStreams d) q p f n = f.streams d n
fewer_none kinds.DataBlocked q p f n = f.blocked n
fewer_none kinds.StreamDataBlocked q p f n = λ id. f.stream_blocked id (n id)

-- ---- the payload grows, and stays within its maximum

written_longer : (s : Sheet) (o : Option Frame) → length s.bytes ≤ length (with_frame_written_if s o).bytes
written_longer s None = omega arith
written_longer s (Some f) = omega (arith, length-append s.bytes (text f))

written_within : (s : Sheet) (o : Option Frame) (bound most : ℕ) → length s.bytes + bound < most → IfSome o (FitsIn bound) → length (with_frame_written_if s o).bytes ≤ most
written_within s None bound most room fits = omega arith
written_within s (Some f) bound most room fits = omega (arith, length-append s.bytes (text f), fits.short)

longer_at : (a b : Sheet) → b ≡ a → length a.bytes ≤ length b.bytes
longer_at a b e = rw e (omega arith)

turn_longer : (k : ControlKind) (a b : PayloadPlace) → SettlesOne k a b → length a.sheet.bytes ≤ length b.sheet.bytes
turn_longer k a b t =
    let e : length b.sheet.bytes ≡ length (with_frame_written_if a.sheet t.frame).bytes = ap (λ (s : Sheet). length s.bytes) t.written in
    omega (arith, written_longer a.sheet t.frame, e)

turn_within : (k : ControlKind) (a b : PayloadPlace) (most : ℕ) → length a.sheet.bytes + kind_bound k < most → SettlesOne k a b → length b.sheet.bytes ≤ most
turn_within k a b most room t =
    let e : length b.sheet.bytes ≡ length (with_frame_written_if a.sheet t.frame).bytes = ap (λ (s : Sheet). length s.bytes) t.written in
    omega (arith, written_within a.sheet t.frame (kind_bound k) most room t.fits, e)

turns_within : {k : ControlKind} {most : ℕ} {a b : PayloadPlace} → SettlesSome k most a b → length a.sheet.bytes ≤ most → length b.sheet.bytes ≤ most
turns_within none w = w
turns_within {k} {most} (more {p} {q} {r} ts room t) w = turn_within k q r most room t

-- ---- what is done stays done

turn_keeps : (j k : ControlKind) (most : ℕ) (a b : PayloadPlace) → SettlesOne k a b → IsKindDone j most a → IsKindDone j most b
turn_keeps j k most a b t (inl n) = inl (fewer_none j b.pending a.pending (settles_fewer k a.end a.pending t.frame b.end b.pending t.settles) n)
turn_keeps j k most a b t (inr l) = inr (omega (arith, turn_longer k a b t))

turns_keep : (j : ControlKind) {k : ControlKind} {most : ℕ} {a b : PayloadPlace} → SettlesSome k most a b → IsKindDone j most a → IsKindDone j most b
turns_keep j none d = d
turns_keep j {k} {most} (more {p} {q} {r} ts room t) d = turn_keeps j k most q r t (turns_keep j ts d)

done_at : (j : ControlKind) (most : ℕ) (a b : PayloadPlace) → b ≡ a → IsKindDone j most a → IsKindDone j most b
done_at j most a b e d = let P : PayloadPlace → Type 0 = λ x. IsKindDone j most x in subst P (sym e) d

kinds_keep : (j : ControlKind) (most : ℕ) (ks : List ControlKind) (a : PayloadPlace) (r : Result (Unit {0}) OutOfMemory) (b : PayloadPlace) → WritesKinds most ks a r b → IsKindDone j most a → IsKindDone j most b
kinds_keep j most [] a (Ok x) b w d = done_at j most a b w d
kinds_keep j most [] a (Err e) b w d = absurd w
kinds_keep j most (k ∷ ks) a r b (inl w) d = kinds_keep j most ks w.0 r b w.2 (turns_keep j w.1.turns d)
kinds_keep j most (k ∷ ks) a r b (inr w) d = turns_keep j w.1 d

-- each of some kinds is done
abbrev AreDone : List ControlKind → ℕ → PayloadPlace → Type 0
AreDone [] most p = Unit {0}
AreDone (k ∷ ks) most p = IsKindDone k most p × AreDone ks most p

no_error : (r : Result (Unit {0}) OutOfMemory) (x : Unit {0}) → r ≡ Ok x → IsErr r → ⊥
no_error (Ok y) x k e = cc
no_error (Err y) x k e = cc

kinds_done : (most : ℕ) (ks : List ControlKind) (a : PayloadPlace) (x : Unit {0}) (b : PayloadPlace) → WritesKinds most ks a (Ok x) b → AreDone ks most b
kinds_done most [] a x b w = tt
kinds_done most (k ∷ ks) a x b (inl w) = (kinds_keep k most ks w.0 (Ok x) b w.2 w.1.done, kinds_done most ks w.0 x b w.2)
kinds_done most (k ∷ ks) a x b (inr w) = absurd (no_error (Ok x) x refl w.0)

done_each : (most : ℕ) (b : PayloadPlace) → AreDone control_order most b → (k : ControlKind) → IsKindDone k most b
done_each most b d kinds.ResetStream = d.0
done_each most b d kinds.StopSending = d.1.0
done_each most b d kinds.MaxData = d.1.1.0
done_each most b d kinds.MaxStreamData = d.1.1.1.0
done_each most b d (kinds.MaxStreams Bi) = d.1.1.1.1.0
done_each most b d (kinds.MaxStreams Uni) = d.1.1.1.1.1.0
done_each most b d kinds.DataBlocked = d.1.1.1.1.1.1.0
done_each most b d kinds.StreamDataBlocked = d.1.1.1.1.1.1.1.0

-- every kind is done
pub all-done : (most : ℕ) (a : PayloadPlace) (x : Unit {0}) (b : PayloadPlace) → WritesKinds most control_order a (Ok x) b → (k : ControlKind) → IsKindDone k most b
all-done most a x b w = done_each most b (kinds_done most control_order a x b w)

pub all-within : (most : ℕ) (ks : List ControlKind) (a : PayloadPlace) (r : Result (Unit {0}) OutOfMemory) (b : PayloadPlace) → WritesKinds most ks a r b → length a.sheet.bytes ≤ most → length b.sheet.bytes ≤ most
all-within most [] a (Ok x) b w l = rw w l
all-within most [] a (Err e) b w l = absurd w
all-within most (k ∷ ks) a r b (inl w) l = all-within most ks w.0 r b w.2 (turns_within w.1.turns l)
all-within most (k ∷ ks) a r b (inr w) l = turns_within w.1 l

-- ---- the history

sheet_with-more : (s : Sheet) (es fs : List Entry) → sheet_with s (es ++ fs) ≡ sheet_with (sheet_with s es) fs
sheet_with-more s [] fs = refl
sheet_with-more s (e ∷ es) fs = sheet_with-more (with_frame_written_if s e.frame) es fs

with_entries-more : (es fs : List Entry) (h : List Event) → with_entries (es ++ fs) h ≡ with_entries fs (with_entries es h)
with_entries-more [] fs h = refl
with_entries-more (e ∷ es) fs h = with_entries-more es fs (LeftPending e.kind e.frame ∷ h)

entries_none : (a : PayloadPlace) → WritesEntries a.sheet a.sheet a.end a.end
entries_none a = record { entries = []; sheet = refl; from = λ m h f. f }

entries_then : (a b c : PayloadPlace) → WritesEntries a.sheet b.sheet a.end b.end → WritesEntries b.sheet c.sheet b.end c.end → WritesEntries a.sheet c.sheet a.end c.end
entries_then a b c x y = record {
  entries = x.entries ++ y.entries;
  sheet = y.sheet ∙ ap (λ s. sheet_with s y.entries) x.sheet ∙ sym (sheet_with-more a.sheet x.entries y.entries);
  from = λ m h f. let P : List Event → Type 0 = λ k. From m k c.end in
      subst P (sym (with_entries-more x.entries y.entries h)) (y.from m (with_entries x.entries h) (x.from m h f));
}

turn_entry : (k : ControlKind) (a b : PayloadPlace) → SettlesOne k a b → WritesEntries a.sheet b.sheet a.end b.end
turn_entry k a b t = record {
  entries = record { kind = k; frame = t.frame } ∷ [];
  sheet = t.written;
  from = λ m h f. next m h a.end (LeftPending k t.frame) b.end tt f (a.pending, b.pending, t.settles);
}

turns_entries : {k : ControlKind} {most : ℕ} {a b : PayloadPlace} → SettlesSome k most a b → WritesEntries a.sheet b.sheet a.end b.end
turns_entries (none {p}) = entries_none p
turns_entries {k} (more {p} {q} {r} ts room t) = entries_then p q r (turns_entries ts) (turn_entry k q r t)

entries_at : (a b : PayloadPlace) → b ≡ a → WritesEntries a.sheet b.sheet a.end b.end
entries_at a b e = let P : PayloadPlace → Type 0 = λ x. WritesEntries a.sheet x.sheet a.end x.end in subst P (sym e) (entries_none a)

pub all-entries : (most : ℕ) (ks : List ControlKind) (a : PayloadPlace) (r : Result (Unit {0}) OutOfMemory) (b : PayloadPlace) → WritesKinds most ks a r b → WritesEntries a.sheet b.sheet a.end b.end
all-entries most [] a (Ok x) b w = entries_at a b w
all-entries most [] a (Err e) b w = absurd w
all-entries most (k ∷ ks) a r b (inl w) = entries_then a w.0 b (turns_entries w.1.turns) (all-entries most ks w.0 r b w.2)
all-entries most (k ∷ ks) a r b (inr w) = turns_entries w.1

-- on success every kind is done
pub done-on-ok : (most : ℕ) (a : PayloadPlace) (r : Result (Unit {0}) OutOfMemory) (b : PayloadPlace) → WritesKinds most control_order a r b → OnOk r ((k : ControlKind) → IsKindDone k most b)
done-on-ok most a (Ok x) b w = all-done most a x b w
done-on-ok most a (Err e) b w = tt

-- ---- where nothing is pending, nothing is written

pub nothing_written : (most : ℕ) (ks : List ControlKind) (a : PayloadPlace) → ((k : ControlKind) → HasNoneOf k a.pending) → WritesKinds most ks a (Ok tt) a
nothing_written most [] a n = refl
nothing_written most (k ∷ ks) a n = inl (a, record { turns = none; done = inl (n k) }, nothing_written most ks a n)
