-- What an end permits its peer, what it announced of that, and what its peer is told.
use Rattle.std.proofs.Common.{◌≡◌, ◌⊎◌, ℕ, Bool, true, false, Option, Some, None, refl, sym, ap, ◌∙◌, subst, inl, inr, arith, ◌≤◌, ◌<◌, ◌^◌, ◌/◌}
use Rattle.std.specs.Prelude.{if◌then◌else◌}
use Rattle.quic_values.specs.declared.ids.Dir.{Dir}
use Rattle.quic_wire.specs.declared.frame.Frame.{Frame}
use Rattle.quic_wire.specs.declared.frame.Frame.TheVariants as frames
use Rattle.quic_limits.specs.Credit.{max_data_of}
use Rattle.quic_receiving.specs.Half.{Half, is_open, window_end}
use Rattle.quic_retransmits.specs.Pending.{Pending}
use Rattle.quic_retransmits.specs.Settling.{max_streams_in}
use Rattle.quic_history.specs.World.{World, remote_of}
use Rattle.quic_progress.proofs.Leaves.{HalfGoes, May, Leaves}

-- what is permitted: data of all streams together, data of one stream, or to open streams of a direction (RFC 9000 sections 4.1 and 4.6)
pub data Permission : Type 0 where
  AllData : Permission
  DataOn : (id : ℕ) → Permission
  StreamsOf : (dir : Dir) → Permission

-- the frame that announces a limit
abbrev pub frame_of : Permission → ℕ → Frame
frame_of AllData n = frames.MaxData n
frame_of (DataOn id) n = frames.MaxStreamData id n
frame_of (StreamsOf d) n = frames.MaxStreams d n

-- whether such a frame is pending
abbrev pub is_asked : Permission → Pending → Bool
is_asked AllData p = p.max_data
is_asked (DataOn id) p = p.max_stream_data id
is_asked (StreamsOf d) p = max_streams_in p d

-- the last limit of a stream that was announced, where more data may come and are wanted
abbrev pub limit_in : Option Half → ℕ
limit_in None = 0
limit_in (Some h) = if is_open h then h.sent_max else 0

-- the limit that is announced next
abbrev pub next_limit_in : ℕ → Option Half → ℕ
next_limit_in window None = 0
next_limit_in window (Some h) = if is_open h then window_end h window else 0

-- the limit that was announced last
abbrev pub announced_of : Permission → World → ℕ
announced_of AllData w = w.credit.sent_max_data
announced_of (DataOn id) w = limit_in (w.receive id)
announced_of (StreamsOf d) w = (remote_of w d).sent_max_remote

-- the one that is enforced, as a frame may tell it
abbrev pub permitted_of : Permission → World → ℕ
permitted_of AllData w = max_data_of w.credit
permitted_of (DataOn id) w = next_limit_in w.window (w.receive id)
permitted_of (StreamsOf d) w = (remote_of w d).max_remote

-- the first limit of a stream needs no frame
abbrev pub unannounced : Permission → World → ℕ
unannounced AllData w = 0
unannounced (DataOn id) w = w.window
unannounced (StreamsOf d) w = 0

-- by how much it may be above the one that was announced last
abbrev pub eighth_of : Permission → World → ℕ
eighth_of AllData w = w.credit.receive_window / 8
eighth_of (DataOn id) w = w.window / 8
eighth_of (StreamsOf d) w = (remote_of w d).max_concurrent / 8

-- no limit was announced above the one that is enforced
pub record IsWithin (w : World) : Type 0 where
  pub small : w.window < 2 ^ 62
  pub whole : w.credit.sent_max_data ≤ max_data_of w.credit
  pub halves : (q : ℕ) → limit_in (w.receive q) ≤ next_limit_in w.window (w.receive q)

-- ---- what calls leave of it

goes_open : (window : ℕ) (reads : Bool) (o : Option Half) (k : Half) → HalfGoes window reads o (Some k) → is_open k ≡ true → (k.sent_max ≤ limit_in o) ⊎ (k.sent_max ≤ window)
goes_open window reads o k g e = elim g [
  | inl n ↦ inr (let s = n.sent in omega (arith, s))
  | inr h ↦ inl (
      let s = h.2.sent in
      let there : limit_in o ≡ h.0.sent_max = ap limit_in h.1 ∙ ap (λ b. if b then h.0.sent_max else 0) (h.2.opens e) in
      omega (arith, s, there)
      )
]

goes_limit : (window : ℕ) (reads : Bool) (o p : Option Half) → HalfGoes window reads o p → (limit_in p ≤ limit_in o) ⊎ (limit_in p ≤ window)
goes_limit window reads o None g = inr (omega arith)
goes_limit window reads o (Some k) g = by (is_open k) refl
  where
    by : (b : Bool) → is_open k ≡ b → ((if b then k.sent_max else 0) ≤ limit_in o) ⊎ ((if b then k.sent_max else 0) ≤ window)
    by true e = goes_open window reads o k g e
    by false e = inr (omega arith)

pub announced-left : (m : May) (u v : World) → Leaves m u v → (k : Permission) → (announced_of k v ≤ announced_of k u) ⊎ (announced_of k v ≤ unannounced k u)
announced-left m u v l AllData = inl (let e = l.whole in omega (arith, e))
announced-left m u v l (DataOn id) = goes_limit u.window (m.reads id) (u.receive id) (v.receive id) (l.halves id)
announced-left m u v l (StreamsOf d) = inl (let e = l.counts d in omega (arith, e))

pub unannounced-left : (m : May) (u v : World) → Leaves m u v → (k : Permission) → unannounced k v ≡ unannounced k u
unannounced-left m u v l AllData = refl
unannounced-left m u v l (DataOn id) = l.window
unannounced-left m u v l (StreamsOf d) = refl

goes_within : (window : ℕ) (reads : Bool) (o p : Option Half) → window < 2 ^ 62 → HalfGoes window reads o p → limit_in o ≤ next_limit_in window o → limit_in p ≤ next_limit_in window p
goes_within window reads o None small g l = omega arith
goes_within window reads o (Some k) small g l = by (is_open k) refl
  where
    by : (b : Bool) → is_open k ≡ b → (if b then k.sent_max else 0) ≤ (if b then window_end k window else 0)
    by true e = elim g [
      | inl n ↦ (let s = n.sent in omega (arith, s, small))
      | inr h ↦ (
          let P : Option Half → Type 0 = λ x. limit_in x ≤ next_limit_in window x in
          let Q : Bool → Type 0 = λ b. (if b then h.0.sent_max else 0) ≤ (if b then window_end h.0 window else 0) in
          let before : h.0.sent_max ≤ window_end h.0 window = subst Q (h.2.opens e) (subst P h.1 l) in
          let s = h.2.sent in
          let g = h.2.grows in
          omega (arith, before, s, g)
          )
    ]
    by false e = omega arith

pub within-left : (m : May) (u v : World) → Leaves m u v → IsWithin u → IsWithin v
within-left m u v l w = record {
  small = let a = w.small in let b = l.window in omega (arith, a, b);
  whole = let a = w.whole in let b = l.whole in let c = l.rises in omega (arith, a, b, c);
  halves = λ q.
      let P : ℕ → Type 0 = λ n. limit_in (v.receive q) ≤ next_limit_in n (v.receive q) in
      subst P (sym l.window) (goes_within u.window (m.reads q) (u.receive q) (v.receive q) w.small (l.halves q) (w.halves q));
}
