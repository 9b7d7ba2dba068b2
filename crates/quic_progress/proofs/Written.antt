-- What an end writes of what is pending announces what it permits.
use Rattle.std.proofs.Common.{◌≡◌, ◌⊎◌, ℕ, Bool, true, false, eqb, List, Option, Some, None, refl, sym, ap, ◌∙◌, subst, inl, inr, arith, ◌≤◌}
use Rattle.std.specs.Prelude.{max, if◌then◌else◌}
use Rattle.std.specs.Option.{option_map}
use Rattle.quic_values.specs.declared.ids.Dir.{Dir}
use Rattle.quic_values.specs.declared.ids.Dir.TheVariants.{Bi, Uni}
use Rattle.quic_wire.specs.declared.frame.Frame.{Frame}
use Rattle.quic_wire.specs.declared.frame.Frame.TheVariants as frames
use Rattle.quic_limits.specs.Credit.{announced, max_data_of}
use Rattle.quic_limits.specs.Remote.{streams_announced}
use Rattle.quic_receiving.specs.Half.{Half, is_open, window_end}
use Rattle.quic_retransmits.specs.Pending.{Pending}
use Rattle.quic_retransmits.specs.Settling.{without_id, without_max_streams}
use Rattle.quic_history.specs.Halves.{Halves, with_half}
use Rattle.quic_history.specs.World.{World, remote_of, with_remote}
use Rattle.quic_history.specs.Control.{SettlesEntry, window_frame, with_announced, after_announced}
use Rattle.quic_history.specs.declared.control.ControlKind.{ControlKind}
use Rattle.quic_history.specs.declared.control.ControlKind.TheVariants as kinds
use Rattle.quic_history.proofs.Totals.{by_cases, same}
use Rattle.quic_history.proofs.HalfMaps.{half-there}
use Rattle.quic_progress.proofs.Permissions.{Permission, AllData, DataOn, StreamsOf, frame_of, is_asked, limit_in, next_limit_in, announced_of, permitted_of, eighth_of, IsWithin}

-- what became of a permission where an entry left what is pending: its frame is pending still; or the frame that was written has the limit
-- that is enforced; or none is of use, as no more data may come, or are wanted
abbrev pub DoesEntry : Permission → World → Pending → Option Frame → World → Pending → Type 0
DoesEntry k u p o v q = ((announced_of k v ≡ announced_of k u) × (is_asked k p ≡ true → is_asked k q ≡ true))
    ⊎ (((o ≡ Some (frame_of k (announced_of k v))) × (permitted_of k v ≤ announced_of k v)) ⊎ ((announced_of k v ≡ 0) × (permitted_of k v ≡ 0)))

-- and what is permitted is the same
pub record Entered (u : World) (p : Pending) (o : Option Frame) (v : World) (q : Pending) : Type 0 where
  pub window : v.window ≡ u.window
  pub debt : v.credit.shrink_debt ≡ u.credit.shrink_debt
  pub permitted : (k : Permission) → permitted_of k v ≡ permitted_of k u
  pub eighth : (k : Permission) → eighth_of k v ≡ eighth_of k u
  pub within : IsWithin v
  pub does : (k : Permission) → DoesEntry k u p o v q

-- ---- an entry of another kind

abbrev SameAsked : Pending → Pending → Type 0
SameAsked p q = (k : Permission) → is_asked k p ≡ true → is_asked k q ≡ true

entered_none : (u : World) (p : Pending) (o : Option Frame) (v : World) (q : Pending) → IsWithin u → v ≡ u → SameAsked p q → Entered u p o v q
entered_none u p o v q w e a =
    let P : World → Type 0 = λ x. Entered u p o x q in
    subst P (sym e) (record { window = refl; debt = refl; permitted = λ k. refl; eighth = λ k. refl; within = w; does = λ k. inl (refl, a k) })

asked_at : (p q r : Pending) → q ≡ r → SameAsked p r → SameAsked p q
asked_at p q r e a = let P : Pending → Type 0 = λ x. SameAsked p x in subst P (sym e) a

reset_asked : (p : Pending) (l : List (ℕ × ℕ)) → SameAsked p (record p { reset_stream = l })
reset_asked p l AllData e = e
reset_asked p l (DataOn id) e = e
reset_asked p l (StreamsOf Bi) e = e
reset_asked p l (StreamsOf Uni) e = e

stop_asked : (p : Pending) (l : List _) → SameAsked p (record p { stop_sending = l })
stop_asked p l AllData e = e
stop_asked p l (DataOn id) e = e
stop_asked p l (StreamsOf Bi) e = e
stop_asked p l (StreamsOf Uni) e = e

blocked_asked : (p : Pending) (b : Bool) → SameAsked p (record p { data_blocked = b })
blocked_asked p b AllData e = e
blocked_asked p b (DataOn id) e = e
blocked_asked p b (StreamsOf Bi) e = e
blocked_asked p b (StreamsOf Uni) e = e

stream_blocked_asked : (p : Pending) (f : ℕ → Bool) → SameAsked p (record p { stream_data_blocked = f })
stream_blocked_asked p f AllData e = e
stream_blocked_asked p f (DataOn id) e = e
stream_blocked_asked p f (StreamsOf Bi) e = e
stream_blocked_asked p f (StreamsOf Uni) e = e

-- ---- MAX_DATA

data_entered : (u : World) (p : Pending) → IsWithin u → Entered u p (Some (frames.MaxData (max_data_of u.credit))) (record u { credit = announced u.credit }) (record p { max_data = false })
data_entered u p w = record {
  window = refl;
  debt = refl;
  permitted = permitted;
  eighth = eighth;
  within = record { small = w.small; whole = let d = w.whole in omega (arith, d); halves = w.halves };
  does = does;
}
  where
    v : World
    v = record u { credit = announced u.credit }

    permitted : (k : Permission) → permitted_of k (record u { credit = announced u.credit }) ≡ permitted_of k u
    permitted AllData = refl
    permitted (DataOn id) = refl
    permitted (StreamsOf Bi) = refl
    permitted (StreamsOf Uni) = refl

    top : max u.credit.sent_max_data (max_data_of u.credit) ≡ max_data_of u.credit
    top = let d = w.whole in omega (arith, d)

    eighth : (k : Permission) → eighth_of k (record u { credit = announced u.credit }) ≡ eighth_of k u
    eighth AllData = refl
    eighth (DataOn q) = refl
    eighth (StreamsOf Bi) = refl
    eighth (StreamsOf Uni) = refl

    does : (k : Permission) → DoesEntry k u p (Some (frames.MaxData (max_data_of u.credit))) (record u { credit = announced u.credit }) (record p { max_data = false })
    does AllData = inr (inl (ap (λ n. Some (frames.MaxData n)) (sym top), omega (arith, top)))
    does (DataOn id) = inl (refl, λ e. e)
    does (StreamsOf Bi) = inl (refl, λ e. e)
    does (StreamsOf Uni) = inl (refl, λ e. e)

-- ---- MAX_STREAMS

streams_entered : (u : World) (p : Pending) (d : Dir) → IsWithin u → Entered u p (Some (frames.MaxStreams d (remote_of u d).max_remote)) (with_remote u d (streams_announced (remote_of u d))) (without_max_streams p d)
streams_entered u p Bi w = record {
  window = refl;
  debt = refl;
  permitted = permitted;
  eighth = eighth;
  within = record { small = w.small; whole = w.whole; halves = w.halves };
  does = does;
}
  where
    permitted : (k : Permission) → permitted_of k (with_remote u Bi (streams_announced u.bi)) ≡ permitted_of k u
    permitted AllData = refl
    permitted (DataOn id) = refl
    permitted (StreamsOf Bi) = refl
    permitted (StreamsOf Uni) = refl

    eighth : (k : Permission) → eighth_of k (with_remote u Bi (streams_announced u.bi)) ≡ eighth_of k u
    eighth AllData = refl
    eighth (DataOn q) = refl
    eighth (StreamsOf Bi) = refl
    eighth (StreamsOf Uni) = refl

    does : (k : Permission) → DoesEntry k u p (Some (frames.MaxStreams Bi u.bi.max_remote)) (with_remote u Bi (streams_announced u.bi)) (without_max_streams p Bi)
    does AllData = inl (refl, λ e. e)
    does (DataOn id) = inl (refl, λ e. e)
    does (StreamsOf Bi) = inr (inl (refl, omega arith))
    does (StreamsOf Uni) = inl (refl, λ e. e)
streams_entered u p Uni w = record {
  window = refl;
  debt = refl;
  permitted = permitted;
  eighth = eighth;
  within = record { small = w.small; whole = w.whole; halves = w.halves };
  does = does;
}
  where
    permitted : (k : Permission) → permitted_of k (with_remote u Uni (streams_announced u.uni)) ≡ permitted_of k u
    permitted AllData = refl
    permitted (DataOn id) = refl
    permitted (StreamsOf Bi) = refl
    permitted (StreamsOf Uni) = refl

    eighth : (k : Permission) → eighth_of k (with_remote u Uni (streams_announced u.uni)) ≡ eighth_of k u
    eighth AllData = refl
    eighth (DataOn q) = refl
    eighth (StreamsOf Bi) = refl
    eighth (StreamsOf Uni) = refl

    does : (k : Permission) → DoesEntry k u p (Some (frames.MaxStreams Uni u.uni.max_remote)) (with_remote u Uni (streams_announced u.uni)) (without_max_streams p Uni)
    does AllData = inl (refl, λ e. e)
    does (DataOn id) = inl (refl, λ e. e)
    does (StreamsOf Bi) = inl (refl, λ e. e)
    does (StreamsOf Uni) = inr (inl (refl, omega arith))

-- ---- MAX_STREAM_DATA

-- of the half whose limit is announced
record HalfSaid (window id : ℕ) (o : Option Half) (f : Option Frame) (p : Option Half) : Type 0 where
  limit : next_limit_in window p ≡ next_limit_in window o
  within : limit_in p ≤ next_limit_in window p
  said : ((f ≡ Some (frames.MaxStreamData id (limit_in p))) × (next_limit_in window p ≤ limit_in p)) ⊎ ((limit_in p ≡ 0) × (next_limit_in window p ≡ 0))

after_half : ℕ → Option Half → Option Half
after_half window None = None
after_half window (Some h) = Some (with_announced window h)

half_said : (window id : ℕ) (o : Option Half) → limit_in o ≤ next_limit_in window o → HalfSaid window id o (window_frame window id o) (after_half window o)
unfolding after_half
half_said window id None l = record { limit = refl; within = omega arith; said = inr (refl, refl) }
half_said window id (Some h) l = by (is_open h) refl l
  where
    by : (b : Bool) → is_open h ≡ b → (if b then h.sent_max else 0) ≤ (if b then window_end h window else 0)
        → HalfSaid window id (Some h) (option_map (frames.MaxStreamData id) (if b then Some (window_end h window) else None)) (Some (if b then record h { sent_max = max h.sent_max (window_end h window) } else h))
    by true e k =
        let top : max h.sent_max (window_end h window) ≡ window_end h window = omega (arith, k) in
        let g = record h { sent_max = max h.sent_max (window_end h window) } in
        let at : limit_in (Some g) ≡ window_end h window = ap (λ b. if b then g.sent_max else 0) e ∙ top in
        let next : next_limit_in window (Some g) ≡ window_end h window = ap (λ b. if b then window_end g window else 0) e in
        let was : next_limit_in window (Some h) ≡ window_end h window = ap (λ b. if b then window_end h window else 0) e in
        record { limit = next ∙ sym was; within = omega (arith, at, next); said = inl (ap (λ n. Some (frames.MaxStreamData id n)) (sym at), omega (arith, at, next)) }
    by false e k =
        let at : limit_in (Some h) ≡ 0 = ap (λ b. if b then h.sent_max else 0) e in
        let next : next_limit_in window (Some h) ≡ 0 = ap (λ b. if b then window_end h window else 0) e in
        record { limit = refl; within = omega (arith, at, next); said = inr (at, next) }

other_half : (f : Halves) (id q : ℕ) (o : Option Half) → eqb q id ≡ false → (with_half f id o) q ≡ f q
unfolding with_half
other_half f id q o n = rw n refl

after_here : (f : Halves) (window id : ℕ) (o : Option Half) → f id ≡ o → (after_announced f window id o) id ≡ after_half window o
unfolding after_half
after_here f window id None e = e
after_here f window id (Some h) e = half-there f id (Some (with_announced window h))

after_other : (f : Halves) (window id q : ℕ) (o : Option Half) → eqb q id ≡ false → (after_announced f window id o) q ≡ f q
after_other f window id q None n = refl
after_other f window id q (Some h) n = other_half f id q (Some (with_announced window h)) n

not_here : (ids : ℕ → Bool) (id q : ℕ) → eqb q id ≡ false → ids q ≡ true → (without_id ids id) q ≡ true
not_here ids id q n e = rw (e, n) refl

window_entered : (u : World) (p : Pending) (id : ℕ) → IsWithin u → Entered u p (window_frame u.window id (u.receive id)) (record u { receive = after_announced u.receive u.window id (u.receive id) }) (record p { max_stream_data = without_id p.max_stream_data id })
window_entered u p id w = record {
  window = refl;
  debt = refl;
  permitted = permitted;
  eighth = eighth;
  within = record { small = w.small; whole = w.whole; halves = λ q. within q };
  does = does;
}
  where
    f : Halves
    f = after_announced u.receive u.window id (u.receive id)

    here : (after_announced u.receive u.window id (u.receive id)) id ≡ after_half u.window (u.receive id)
    here = after_here u.receive u.window id (u.receive id) refl

    s : HalfSaid u.window id (u.receive id) (window_frame u.window id (u.receive id)) (after_half u.window (u.receive id))
    s = half_said u.window id (u.receive id) (w.halves id)

    at : HalfSaid u.window id (u.receive id) (window_frame u.window id (u.receive id)) ((after_announced u.receive u.window id (u.receive id)) id)
    at = let P : Option Half → Type 0 = λ o. HalfSaid u.window id (u.receive id) (window_frame u.window id (u.receive id)) o in subst P (sym here) s

    limit_at : (q : ℕ) → next_limit_in u.window ((after_announced u.receive u.window id (u.receive id)) q) ≡ next_limit_in u.window (u.receive q)
    limit_at q = by_cases (eqb q id)
        (λ t. let P : ℕ → Type 0 = λ k. next_limit_in u.window ((after_announced u.receive u.window id (u.receive id)) k) ≡ next_limit_in u.window (u.receive k) in subst P (sym (same q id t)) at.limit)
        (λ n. ap (next_limit_in u.window) (after_other u.receive u.window id q (u.receive id) n))

    within : (q : ℕ) → limit_in ((after_announced u.receive u.window id (u.receive id)) q) ≤ next_limit_in u.window ((after_announced u.receive u.window id (u.receive id)) q)
    within q = by_cases (eqb q id)
        (λ t. let P : ℕ → Type 0 = λ k. limit_in ((after_announced u.receive u.window id (u.receive id)) k) ≤ next_limit_in u.window ((after_announced u.receive u.window id (u.receive id)) k) in subst P (sym (same q id t)) at.within)
        (λ n. let P : Option Half → Type 0 = λ o. limit_in o ≤ next_limit_in u.window o in subst P (sym (after_other u.receive u.window id q (u.receive id) n)) (w.halves q))

    permitted : (k : Permission) → permitted_of k (record u { receive = after_announced u.receive u.window id (u.receive id) }) ≡ permitted_of k u
    permitted AllData = refl
    permitted (DataOn q) = limit_at q
    permitted (StreamsOf Bi) = refl
    permitted (StreamsOf Uni) = refl

    eighth : (k : Permission) → eighth_of k (record u { receive = after_announced u.receive u.window id (u.receive id) }) ≡ eighth_of k u
    eighth AllData = refl
    eighth (DataOn q) = refl
    eighth (StreamsOf Bi) = refl
    eighth (StreamsOf Uni) = refl

    does : (k : Permission) → DoesEntry k u p (window_frame u.window id (u.receive id)) (record u { receive = after_announced u.receive u.window id (u.receive id) }) (record p { max_stream_data = without_id p.max_stream_data id })
    does AllData = inl (refl, λ e. e)
    does (DataOn q) = by_cases (eqb q id)
        (λ t.
        let P : ℕ → Type 0 = λ k. DoesEntry (DataOn k) u p (window_frame u.window id (u.receive id)) (record u { receive = after_announced u.receive u.window id (u.receive id) }) (record p { max_stream_data = without_id p.max_stream_data id }) in
        subst P (sym (same q id t)) (inr at.said))
        (λ n.
        inl (ap limit_in (after_other u.receive u.window id q (u.receive id) n), not_here p.max_stream_data id q n))
    does (StreamsOf Bi) = inl (refl, λ e. e)
    does (StreamsOf Uni) = inl (refl, λ e. e)

-- ---- all entries

pub entered : (kind : ControlKind) (u : World) (p : Pending) (o : Option Frame) (v : World) (q : Pending) → IsWithin u → SettlesEntry kind u p o v q → Entered u p o v q
entered kinds.ResetStream u p o v q w s = entered_none u p o v q w s.end (asked_at p q _ s.left (reset_asked p s.front))
entered kinds.StopSending u p o v q w s = entered_none u p o v q w s.end (asked_at p q _ s.left (stop_asked p s.front))
entered kinds.MaxData u p o v q w s =
    let P : Option Frame → Type 0 = λ f. Entered u p f v q in
    let Q : World → Type 0 = λ x. Entered u p (Some (frames.MaxData (max_data_of u.credit))) x q in
    let R : Pending → Type 0 = λ x. Entered u p (Some (frames.MaxData (max_data_of u.credit))) (record u { credit = announced u.credit }) x in
    subst P (sym s.frame) (subst Q (sym s.end) (subst R (sym s.left) (data_entered u p w)))
entered kinds.MaxStreamData u p o v q w s =
    let f = window_frame u.window s.id (u.receive s.id) in
    let P : Option Frame → Type 0 = λ f. Entered u p f v q in
    let Q : World → Type 0 = λ x. Entered u p f x q in
    let R : Pending → Type 0 = λ x. Entered u p f (record u { receive = after_announced u.receive u.window s.id (u.receive s.id) }) x in
    subst P (sym s.frame) (subst Q (sym s.end) (subst R (sym s.left) (window_entered u p s.id w)))
entered (kinds.MaxStreams d) u p o v q w s =
    let f = Some (frames.MaxStreams d (remote_of u d).max_remote) in
    let P : Option Frame → Type 0 = λ f. Entered u p f v q in
    let Q : World → Type 0 = λ x. Entered u p f x q in
    let R : Pending → Type 0 = λ x. Entered u p f (with_remote u d (streams_announced (remote_of u d))) x in
    subst P (sym s.frame) (subst Q (sym s.end) (subst R (sym s.left) (streams_entered u p d w)))
entered kinds.DataBlocked u p o v q w s = entered_none u p o v q w s.end (asked_at p q _ s.left (blocked_asked p false))
entered kinds.StreamDataBlocked u p o v q w s = entered_none u p o v q w s.end (asked_at p q _ s.left (stream_blocked_asked p _))
