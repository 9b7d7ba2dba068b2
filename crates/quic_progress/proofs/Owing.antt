-- What an end permits is above what it announced by less than an eighth, or is to be announced: what a call keeps of it.
use Rattle.std.proofs.Common.{◌≡◌, ◌⊎◌, ℕ, Bool, true, false, Option, Some, None, refl, sym, ap, ◌∙◌, subst, inl, inr, arith, ◌≤◌, ◌<◌, ◌+◌, ◌-◌, ◌/◌, ◌^◌}
use Rattle.std.specs.Prelude.{◌||◌, ◌&&◌, min, nat_le, nat_lt, if◌then◌else◌}
use Rattle.std.proofs.lemmas.Bool.Decides.{nat_tests}
use Rattle.quic_values.specs.declared.ids.Dir.{Dir}
use Rattle.quic_values.specs.declared.ids.Dir.TheVariants.{Bi, Uni}
use Rattle.quic_limits.specs.Credit.{Credit, is_max_data_due}
use Rattle.quic_limits.specs.Remote.{Remote, is_max_streams_due}
use Rattle.quic_receiving.specs.Half.{Half, is_open, window_end, is_window_due}
use Rattle.quic_retransmits.specs.Settling.{max_streams_in}
use Rattle.quic_history.specs.Halves.{is_due_in}
use Rattle.quic_history.specs.World.{World}
use Rattle.quic_endpoint.specs.Ends.{EndState, with_counts_told}
use Rattle.quic_exchange.specs.Due.{AsksData, AsksStreams, AsksWindow}
use Rattle.quic_progress.proofs.Leaves.{May, SameRoom, HalfGoes}
use Rattle.quic_progress.proofs.Permissions.{Permission, AllData, DataOn, StreamsOf, limit_in, next_limit_in, announced_of, permitted_of, eighth_of}
use Rattle.quic_progress.proofs.Ends.{EndLeaves}

-- MAX_DATA is not to be announced while bytes that are consumed give no credit, since the window was made smaller; nor where the limit
-- reached the greatest number that a frame can tell
abbrev pub IsExempt : Credit → Type 0
IsExempt c = (0 < c.shrink_debt) ⊎ (2 ^ 62 - 1 ≤ c.local_max_data)

-- the limit that is enforced is above the one that was announced last by no more than an eighth
abbrev pub IsNear : Permission → World → Type 0
IsNear k w = permitted_of k w ≤ announced_of k w + eighth_of k w

abbrev pub OwesData : EndState → Type 0
OwesData e = IsExempt e.streams.credit ⊎ ((e.pending.max_data ≡ true) ⊎ IsNear AllData e.streams)

abbrev pub OwesWindow : ℕ → EndState → Type 0
OwesWindow id e = (e.pending.max_stream_data id ≡ true) ⊎ IsNear (DataOn id) e.streams

abbrev pub OwesCount : Dir → EndState → Type 0
OwesCount d e = (max_streams_in e.pending d ≡ true) ⊎ IsNear (StreamsOf d) e.streams

-- ---- data of all streams

not_due : (local sent x : ℕ) → (nat_le local (2 ^ 62 - 1) && nat_le (sent + x) local) ≡ false → (2 ^ 62 - 1 ≤ local) ⊎ (min local (2 ^ 62 - 1) ≤ sent + x)
not_due local sent x e = by (nat_le local (2 ^ 62 - 1)) (nat_le (sent + x) local) refl refl e
  where
    above : (a n : ℕ) → nat_le a n ≡ false → n ≤ a
    above a n e = grind (arith, nat_tests)

    by : (a b : Bool) → nat_le local (2 ^ 62 - 1) ≡ a → nat_le (sent + x) local ≡ b → (a && b) ≡ false → (2 ^ 62 - 1 ≤ local) ⊎ (min local (2 ^ 62 - 1) ≤ sent + x)
    by false b k l e = inl (above local (2 ^ 62 - 1) k)
    by true true k l e = cc
    by true false k l e = inr (let m = above (sent + x) local l in omega (arith, m))

-- where MAX_DATA is asked for if it is due
pub data-asked : (f : EndState) → AsksData f → OwesData f
data-asked f a = by (is_max_data_due f.streams.credit) refl
  where
    by : (b : Bool) → is_max_data_due f.streams.credit ≡ b → OwesData f
    by true e = inr (inl (a e))
    by false e = elim (not_due f.streams.credit.local_max_data f.streams.credit.sent_max_data (f.streams.credit.receive_window / 8) e) [ inl big ↦ inl (inr big) | inr near ↦ inr (inr near) ]

-- where no byte was consumed
pub data-still : (m : May) (e f : EndState) → EndLeaves m e f → f.streams.credit.receive_window ≡ e.streams.credit.receive_window → f.streams.credit.local_max_data ≤ e.streams.credit.local_max_data → e.streams.credit.shrink_debt ≤ f.streams.credit.shrink_debt → OwesData e → OwesData f
data-still m e f l size limit debt o = elim o [
  | inl (inl owed) ↦ inl (inl (omega (arith, owed, debt)))
  | inl (inr big) ↦ inl (inr (let r = l.streams.rises in omega (arith, big, r)))
  | inr (inl asked) ↦ inr (inl (l.asked AllData asked))
  | inr (inr near) ↦ inr (inr (let s = l.streams.whole in let w = ap (λ (n : ℕ). n / 8) size in omega (arith, near, limit, s, w)))
]

pub data-room : (m : May) (e f : EndState) → EndLeaves m e f → SameRoom e.streams.credit f.streams.credit → OwesData e → OwesData f
data-room m e f l r o = data-still m e f l r.2 (let a = r.0 in omega (arith, a)) (let a = r.1 in omega (arith, a)) o

pub data-plain : (m : May) (e f : EndState) → EndLeaves m e f → m.credits ≡ false → OwesData e → OwesData f
data-plain m e f l c o = elim l.streams.room [ inl may ↦ (let z = sym c ∙ may in cc) | inr r ↦ data-room m e f l r o ]

pub data-told : (e : EndState) → OwesData e → OwesData (with_counts_told e)
data-told e o = o

-- ---- data of a stream

window_not_due : (window : ℕ) (h : Half) → is_window_due h window ≡ false → (if is_open h then window_end h window else 0) ≤ (if is_open h then h.sent_max else 0) + window / 8
window_not_due window h e = by (is_open h) e
  where
    above : (a n : ℕ) → nat_le a n ≡ false → n ≤ a
    above a n e = grind (arith, nat_tests)

    by : (b : Bool) → (b && nat_le (window / 8) (window_end h window - h.sent_max)) ≡ false → (if b then window_end h window else 0) ≤ (if b then h.sent_max else 0) + window / 8
    by true e = let l = above (window / 8) (window_end h window - h.sent_max) e in omega (arith, l)
    by false e = omega arith

near_not_due : (window : ℕ) (o : Option Half) → is_due_in window o ≡ false → next_limit_in window o ≤ limit_in o + window / 8
near_not_due window None e = omega arith
near_not_due window (Some h) e = window_not_due window h e

pub window-asked : (f : EndState) (id : ℕ) → AsksWindow f id → OwesWindow id f
window-asked f id a = by (is_due_in f.streams.window (f.streams.receive id)) refl
  where
    by : (b : Bool) → is_due_in f.streams.window (f.streams.receive id) ≡ b → OwesWindow id f
    by true e = inl (a e)
    by false e = inr (near_not_due f.streams.window (f.streams.receive id) e)

near_goes : (window : ℕ) (o p : Option Half) → HalfGoes window false o p → next_limit_in window o ≤ limit_in o + window / 8 → next_limit_in window p ≤ limit_in p + window / 8
near_goes window o None g n = omega arith
near_goes window o (Some k) g n = by (is_open k) refl
  where
    by : (b : Bool) → is_open k ≡ b → (if b then window_end k window else 0) ≤ (if b then k.sent_max else 0) + window / 8
    by false e = omega arith
    by true e = elim g [
      | inl new ↦ (let s = new.sent in elim new.read [ inl r ↦ cc | inr z ↦ omega (arith, s, z) ])
      | inr h ↦ (
          let P : Option Half → Type 0 = λ x. next_limit_in window x ≤ limit_in x + window / 8 in
          let Q : Bool → Type 0 = λ b. (if b then window_end h.0 window else 0) ≤ (if b then h.0.sent_max else 0) + window / 8 in
          let before : window_end h.0 window ≤ h.0.sent_max + window / 8 = subst Q (h.2.opens e) (subst P h.1 n) in
          let s = h.2.sent in
          elim h.2.read [ inl r ↦ cc | inr z ↦ omega (arith, before, s, z) ]
          )
    ]

-- of a half that is gone, or new
pub window-freed : (id : ℕ) (f : EndState) → HalfGoes f.streams.window false None (f.streams.receive id) → OwesWindow id f
window-freed id f g = inr (near_goes f.streams.window None (f.streams.receive id) g (omega arith))

pub window-left : (m : May) (id : ℕ) (e f : EndState) → EndLeaves m e f → m.reads id ≡ false → OwesWindow id e → OwesWindow id f
window-left m id e f l r o = elim o [
  | inl asked ↦ inl (l.asked (DataOn id) asked)
  | inr near ↦ inr (
      let P : Bool → Type 0 = λ b. HalfGoes e.streams.window b (e.streams.receive id) (f.streams.receive id) in
      let Q : ℕ → Type 0 = λ n. next_limit_in n (f.streams.receive id) ≤ limit_in (f.streams.receive id) + n / 8 in
      subst Q (sym l.streams.window) (near_goes e.streams.window (e.streams.receive id) (f.streams.receive id) (subst P r (l.streams.halves id)) near)
      )
]

-- ---- how many streams

count_not_due : (r : Remote) → is_max_streams_due r ≡ false → r.max_remote ≤ r.sent_max_remote + r.max_concurrent / 8
count_not_due r e = below (r.max_concurrent / 8) (r.max_remote - r.sent_max_remote) r.max_remote r.sent_max_remote refl e
  where
    below : (x y n s : ℕ) → y ≡ n - s → nat_lt x y ≡ false → n ≤ s + x
    below x y n s d e = let l : y ≤ x = grind (arith, nat_tests) in omega (arith, l, d)

pub count-asked : (f : EndState) → AsksStreams f → (d : Dir) → OwesCount d f
count-asked f a Bi = by (is_max_streams_due f.streams.bi) refl
  where
    by : (b : Bool) → is_max_streams_due f.streams.bi ≡ b → OwesCount Bi f
    by true e = inl (a.bi e)
    by false e = inr (count_not_due f.streams.bi e)
count-asked f a Uni = by (is_max_streams_due f.streams.uni) refl
  where
    by : (b : Bool) → is_max_streams_due f.streams.uni ≡ b → OwesCount Uni f
    by true e = inl (a.uni e)
    by false e = inr (count_not_due f.streams.uni e)

or_right : (a b : Bool) → b ≡ true → (a || b) ≡ true
or_right true b e = refl
or_right false b e = e

pub count-told : (e : EndState) (d : Dir) → OwesCount d (with_counts_told e)
count-told e d = count-asked (with_counts_told e) (record { bi = or_right e.pending.max_streams_bi (is_max_streams_due e.streams.bi); uni = or_right e.pending.max_streams_uni (is_max_streams_due e.streams.uni) }) d

pub count-left : (m : May) (d : Dir) (e f : EndState) → EndLeaves m e f → m.frees ≡ false → OwesCount d e → OwesCount d f
count-left m d e f l r o = elim o [
  | inl asked ↦ inl (l.asked (StreamsOf d) asked)
  | inr near ↦ elim l.streams.permits [
    | inl may ↦ (let z = sym r ∙ may in cc)
    | inr same ↦ inr (let c = same d in let a = c.0 in let b = ap (λ (n : ℕ). n / 8) c.1 in let s = l.streams.counts d in omega (arith, near, a, b, s))
  ]
]
