-- A control frame that was pending is so still once others are written, is written, or is of no use any more.
use Rattle.std.proofs.Common.{◌≡◌, ◌⊎◌, ℕ, Bool, true, false, List, [], ◌∷◌, ◌++◌, Option, Some, None, refl, sym, ap, ◌∙◌, subst, inl, inr}
use Rattle.std.specs.Prelude.{◌&&◌, ◌==◌, not, max, if◌then◌else◌}
use Rattle.std.specs.Option.{option_map}
use Rattle.quic_values.specs.declared.ids.Dir.{Dir}
use Rattle.quic_values.specs.declared.ids.Dir.TheVariants.{Bi, Uni}
use Rattle.quic_wire.specs.declared.frame.Frame.{Frame}
use Rattle.quic_wire.specs.declared.frame.Frame.TheVariants as frames
use Rattle.quic_wire.specs.declared.frame.StopSending.{StopSending as StopFrame}
use Rattle.quic_limits.specs.Credit.{announced}
use Rattle.quic_limits.specs.Remote.{streams_announced}
use Rattle.quic_receiving.specs.Half.{Half, is_open, window_end}
use Rattle.quic_retransmits.specs.Pending.{Pending}
use Rattle.quic_retransmits.specs.Settling.{without_id, without_max_streams}
use Rattle.quic_history.specs.Halves.{with_half}
use Rattle.quic_history.specs.World.{World, remote_of, with_remote}
use Rattle.quic_history.specs.Control.{SettlesEntry, SettlesReset, SettlesStop, SettlesMaxData, SettlesWindow, SettlesMaxStreams, SettlesDataBlocked, SettlesStreamBlocked, reset_frame, announced_end, window_frame, with_announced, after_announced, stream_blocked_frame}
use Rattle.quic_history.specs.declared.control.ControlKind.{ControlKind}
use Rattle.quic_history.specs.declared.control.ControlKind.TheVariants as kinds
use Rattle.quic_link.specs.Endpoints.{IsOneOf}
use Rattle.quic_link.proofs.Basics.{same_id}
use Rattle.quic_exchange.specs.Due.{ControlEntry, ResetStream, StopSending, MaxData, MaxStreamData, MaxStreams, DataBlocked, StreamDataBlocked, IsPending, frame_of}
use Rattle.quic_exchange.proofs.Lists.{one-of-first, one-of-last}

-- ---- what is written for one says nothing of the frames of others

window_same : (window : ℕ) (h : Half) (b : Bool) → announced_end window (Some (if b then record h { sent_max = max h.sent_max (window_end h window) } else h)) ≡ announced_end window (Some h)
window_same window h true = refl
window_same window h false = refl

module _ (u : World) (id q : ℕ) where
  window_at : (h : Half) → u.receive id ≡ Some h → (b : Bool) → (q == id) ≡ b → window_frame u.window q (if b then Some (with_announced u.window h) else u.receive q) ≡ window_frame u.window q (u.receive q)
  window_at h held true e =
      ap (λ (o : Option ℕ). option_map (frames.MaxStreamData q) o) (window_same u.window h (is_open h)) ∙ ap (window_frame u.window q) (sym (ap u.receive (same_id q id e) ∙ held))
  window_at h held false e = refl

  window_by : (o : Option Half) → u.receive id ≡ o → window_frame u.window q (after_announced u.receive u.window id o q) ≡ window_frame u.window q (u.receive q)
  unfolding with_half
  window_by None held = refl
  window_by (Some h) held = window_at h held (q == id) refl

credit_kept : (u : World) (x : ControlEntry) → frame_of (record u { credit = announced u.credit }) x ≡ frame_of u x
credit_kept u (ResetStream id code) = refl
credit_kept u (StopSending id code) = refl
credit_kept u MaxData = refl
credit_kept u (MaxStreamData id) = refl
credit_kept u (MaxStreams Bi) = refl
credit_kept u (MaxStreams Uni) = refl
credit_kept u DataBlocked = refl
credit_kept u (StreamDataBlocked id) = refl

window_kept : (u : World) (id : ℕ) (x : ControlEntry) → frame_of (record u { receive = after_announced u.receive u.window id (u.receive id) }) x ≡ frame_of u x
window_kept u id (ResetStream q code) = refl
window_kept u id (StopSending q code) = refl
window_kept u id MaxData = refl
window_kept u id (MaxStreamData q) = window_by u id q (u.receive id) refl
window_kept u id (MaxStreams Bi) = refl
window_kept u id (MaxStreams Uni) = refl
window_kept u id DataBlocked = refl
window_kept u id (StreamDataBlocked q) = refl

counts_kept : (u : World) (d : Dir) (x : ControlEntry) → frame_of (with_remote u d (streams_announced (remote_of u d))) x ≡ frame_of u x
counts_kept u Bi (ResetStream id code) = refl
counts_kept u Bi (StopSending id code) = refl
counts_kept u Bi MaxData = refl
counts_kept u Bi (MaxStreamData id) = refl
counts_kept u Bi (MaxStreams Bi) = refl
counts_kept u Bi (MaxStreams Uni) = refl
counts_kept u Bi DataBlocked = refl
counts_kept u Bi (StreamDataBlocked id) = refl
counts_kept u Uni (ResetStream id code) = refl
counts_kept u Uni (StopSending id code) = refl
counts_kept u Uni MaxData = refl
counts_kept u Uni (MaxStreamData id) = refl
counts_kept u Uni (MaxStreams Bi) = refl
counts_kept u Uni (MaxStreams Uni) = refl
counts_kept u Uni DataBlocked = refl
counts_kept u Uni (StreamDataBlocked id) = refl

pub frames-kept : (kind : ControlKind) (u : World) (p : Pending) (o : Option Frame) (v : World) (q : Pending) → SettlesEntry kind u p o v q → (x : ControlEntry) → frame_of v x ≡ frame_of u x
frames-kept kinds.ResetStream u p o v q s x = ap (λ (w : World). frame_of w x) s.end
frames-kept kinds.StopSending u p o v q s x = ap (λ (w : World). frame_of w x) s.end
frames-kept kinds.MaxData u p o v q s x = ap (λ (w : World). frame_of w x) s.end ∙ credit_kept u x
frames-kept kinds.MaxStreamData u p o v q s x = ap (λ (w : World). frame_of w x) s.end ∙ window_kept u s.id x
frames-kept (kinds.MaxStreams d) u p o v q s x = ap (λ (w : World). frame_of w x) s.end ∙ counts_kept u d x
frames-kept kinds.DataBlocked u p o v q s x = ap (λ (w : World). frame_of w x) s.end
frames-kept kinds.StreamDataBlocked u p o v q s x = ap (λ (w : World). frame_of w x) s.end

-- ---- the one that leaves what is pending is written

front_or_last : {X : Type 0} (x last : X) (front : List X) → IsOneOf x (front ++ last ∷ []) → IsOneOf x front ⊎ (x ≡ last)
front_or_last x last [] (inl e) = inr e
front_or_last x last [] (inr h) = absurd h
front_or_last x last (y ∷ ys) (inl e) = inl (inl e)
front_or_last x last (y ∷ ys) (inr h) = elim (front_or_last x last ys h) [ inl i ↦ inl (inr i) | inr e ↦ inr e ]

without_other : (a b : Bool) → a ≡ true → b ≡ false → (a && not b) ≡ true
without_other true false h e = refl
without_other true true h e = cc
without_other false b h e = cc

module _ (u : World) (p : Pending) (o : Option Frame) (v : World) (q : Pending) where
  still : (r : Pending) (x : ControlEntry) → q ≡ r → IsPending r x → IsPending q x ⊎ (frame_of u x ≡ o)
  still r x left h = let P : Pending → Type 0 = λ k. IsPending k x in inl (subst P (sym left) h)

  reset_left : SettlesReset u p o v q → (x : ControlEntry) → IsPending p x → IsPending q x ⊎ (frame_of u x ≡ o)
  reset_left s (ResetStream id code) h =
      let P : List (ℕ × ℕ) → Type 0 = λ l. IsOneOf (id, code) l in
      elim (front_or_last (id, code) (s.id, s.code) s.front (subst P s.last h)) [
        | inl before ↦ still (record p { reset_stream = s.front }) (ResetStream id code) s.left before
        | inr now ↦ inr (ap (λ (z : ℕ × ℕ). reset_frame z.0 z.1 (u.out.halves z.0)) now ∙ sym s.frame)
      ]
  reset_left s (StopSending id code) h = still (record p { reset_stream = s.front }) (StopSending id code) s.left h
  reset_left s MaxData h = still (record p { reset_stream = s.front }) MaxData s.left h
  reset_left s (MaxStreamData id) h = still (record p { reset_stream = s.front }) (MaxStreamData id) s.left h
  reset_left s (MaxStreams Bi) h = still (record p { reset_stream = s.front }) (MaxStreams Bi) s.left h
  reset_left s (MaxStreams Uni) h = still (record p { reset_stream = s.front }) (MaxStreams Uni) s.left h
  reset_left s DataBlocked h = still (record p { reset_stream = s.front }) DataBlocked s.left h
  reset_left s (StreamDataBlocked id) h = still (record p { reset_stream = s.front }) (StreamDataBlocked id) s.left h

  stop_left : SettlesStop u p o v q → (x : ControlEntry) → IsPending p x → IsPending q x ⊎ (frame_of u x ≡ o)
  stop_left s (StopSending id code) h =
      let stop : StopFrame = record { id = id; error_code = code } in
      let P : List StopFrame → Type 0 = λ l. IsOneOf stop l in
      elim (front_or_last stop s.stop s.front (subst P s.last h)) [
        | inl before ↦ still (record p { stop_sending = s.front }) (StopSending id code) s.left before
        | inr now ↦ inr (ap (λ (z : StopFrame). Some (frames.StopSending z)) now ∙ sym s.frame)
      ]
  stop_left s (ResetStream id code) h = still (record p { stop_sending = s.front }) (ResetStream id code) s.left h
  stop_left s MaxData h = still (record p { stop_sending = s.front }) MaxData s.left h
  stop_left s (MaxStreamData id) h = still (record p { stop_sending = s.front }) (MaxStreamData id) s.left h
  stop_left s (MaxStreams Bi) h = still (record p { stop_sending = s.front }) (MaxStreams Bi) s.left h
  stop_left s (MaxStreams Uni) h = still (record p { stop_sending = s.front }) (MaxStreams Uni) s.left h
  stop_left s DataBlocked h = still (record p { stop_sending = s.front }) DataBlocked s.left h
  stop_left s (StreamDataBlocked id) h = still (record p { stop_sending = s.front }) (StreamDataBlocked id) s.left h

  data_left : SettlesMaxData u p o v q → (x : ControlEntry) → IsPending p x → IsPending q x ⊎ (frame_of u x ≡ o)
  data_left s MaxData h = inr (sym s.frame)
  data_left s (ResetStream id code) h = still (record p { max_data = false }) (ResetStream id code) s.left h
  data_left s (StopSending id code) h = still (record p { max_data = false }) (StopSending id code) s.left h
  data_left s (MaxStreamData id) h = still (record p { max_data = false }) (MaxStreamData id) s.left h
  data_left s (MaxStreams Bi) h = still (record p { max_data = false }) (MaxStreams Bi) s.left h
  data_left s (MaxStreams Uni) h = still (record p { max_data = false }) (MaxStreams Uni) s.left h
  data_left s DataBlocked h = still (record p { max_data = false }) DataBlocked s.left h
  data_left s (StreamDataBlocked id) h = still (record p { max_data = false }) (StreamDataBlocked id) s.left h

  window_left : SettlesWindow u p o v q → (x : ControlEntry) → IsPending p x → IsPending q x ⊎ (frame_of u x ≡ o)
  window_left s (MaxStreamData id) h = by (id == s.id) refl
    where
      by : (b : Bool) → (id == s.id) ≡ b → IsPending q (MaxStreamData id) ⊎ (frame_of u (MaxStreamData id) ≡ o)
      by true e = inr (ap (λ (i : ℕ). window_frame u.window i (u.receive i)) (same_id id s.id e) ∙ sym s.frame)
      by false e = still (record p { max_stream_data = without_id p.max_stream_data s.id }) (MaxStreamData id) s.left (without_other (p.max_stream_data id) (id == s.id) h e)
  window_left s (ResetStream id code) h = still (record p { max_stream_data = without_id p.max_stream_data s.id }) (ResetStream id code) s.left h
  window_left s (StopSending id code) h = still (record p { max_stream_data = without_id p.max_stream_data s.id }) (StopSending id code) s.left h
  window_left s MaxData h = still (record p { max_stream_data = without_id p.max_stream_data s.id }) MaxData s.left h
  window_left s (MaxStreams Bi) h = still (record p { max_stream_data = without_id p.max_stream_data s.id }) (MaxStreams Bi) s.left h
  window_left s (MaxStreams Uni) h = still (record p { max_stream_data = without_id p.max_stream_data s.id }) (MaxStreams Uni) s.left h
  window_left s DataBlocked h = still (record p { max_stream_data = without_id p.max_stream_data s.id }) DataBlocked s.left h
  window_left s (StreamDataBlocked id) h = still (record p { max_stream_data = without_id p.max_stream_data s.id }) (StreamDataBlocked id) s.left h

  counts_left : (d : Dir) → SettlesMaxStreams d u p o v q → (x : ControlEntry) → IsPending p x → IsPending q x ⊎ (frame_of u x ≡ o)
  counts_left Bi s (MaxStreams Bi) h = inr (sym s.frame)
  counts_left Bi s (MaxStreams Uni) h = still (without_max_streams p Bi) (MaxStreams Uni) s.left h
  counts_left Bi s (ResetStream id code) h = still (without_max_streams p Bi) (ResetStream id code) s.left h
  counts_left Bi s (StopSending id code) h = still (without_max_streams p Bi) (StopSending id code) s.left h
  counts_left Bi s MaxData h = still (without_max_streams p Bi) MaxData s.left h
  counts_left Bi s (MaxStreamData id) h = still (without_max_streams p Bi) (MaxStreamData id) s.left h
  counts_left Bi s DataBlocked h = still (without_max_streams p Bi) DataBlocked s.left h
  counts_left Bi s (StreamDataBlocked id) h = still (without_max_streams p Bi) (StreamDataBlocked id) s.left h
  counts_left Uni s (MaxStreams Uni) h = inr (sym s.frame)
  counts_left Uni s (MaxStreams Bi) h = still (without_max_streams p Uni) (MaxStreams Bi) s.left h
  counts_left Uni s (ResetStream id code) h = still (without_max_streams p Uni) (ResetStream id code) s.left h
  counts_left Uni s (StopSending id code) h = still (without_max_streams p Uni) (StopSending id code) s.left h
  counts_left Uni s MaxData h = still (without_max_streams p Uni) MaxData s.left h
  counts_left Uni s (MaxStreamData id) h = still (without_max_streams p Uni) (MaxStreamData id) s.left h
  counts_left Uni s DataBlocked h = still (without_max_streams p Uni) DataBlocked s.left h
  counts_left Uni s (StreamDataBlocked id) h = still (without_max_streams p Uni) (StreamDataBlocked id) s.left h

  blocked_left : SettlesDataBlocked u p o v q → (x : ControlEntry) → IsPending p x → IsPending q x ⊎ (frame_of u x ≡ o)
  blocked_left s DataBlocked h = inr (sym s.frame)
  blocked_left s (ResetStream id code) h = still (record p { data_blocked = false }) (ResetStream id code) s.left h
  blocked_left s (StopSending id code) h = still (record p { data_blocked = false }) (StopSending id code) s.left h
  blocked_left s MaxData h = still (record p { data_blocked = false }) MaxData s.left h
  blocked_left s (MaxStreamData id) h = still (record p { data_blocked = false }) (MaxStreamData id) s.left h
  blocked_left s (MaxStreams Bi) h = still (record p { data_blocked = false }) (MaxStreams Bi) s.left h
  blocked_left s (MaxStreams Uni) h = still (record p { data_blocked = false }) (MaxStreams Uni) s.left h
  blocked_left s (StreamDataBlocked id) h = still (record p { data_blocked = false }) (StreamDataBlocked id) s.left h

  stream_blocked_left : SettlesStreamBlocked u p o v q → (x : ControlEntry) → IsPending p x → IsPending q x ⊎ (frame_of u x ≡ o)
  stream_blocked_left s (StreamDataBlocked id) h = by (id == s.id) refl
    where
      by : (b : Bool) → (id == s.id) ≡ b → IsPending q (StreamDataBlocked id) ⊎ (frame_of u (StreamDataBlocked id) ≡ o)
      by true e = inr (ap (λ (i : ℕ). stream_blocked_frame i (u.out.halves i)) (same_id id s.id e) ∙ sym s.frame)
      by false e = still (record p { stream_data_blocked = without_id p.stream_data_blocked s.id }) (StreamDataBlocked id) s.left (without_other (p.stream_data_blocked id) (id == s.id) h e)
  stream_blocked_left s (ResetStream id code) h = still (record p { stream_data_blocked = without_id p.stream_data_blocked s.id }) (ResetStream id code) s.left h
  stream_blocked_left s (StopSending id code) h = still (record p { stream_data_blocked = without_id p.stream_data_blocked s.id }) (StopSending id code) s.left h
  stream_blocked_left s MaxData h = still (record p { stream_data_blocked = without_id p.stream_data_blocked s.id }) MaxData s.left h
  stream_blocked_left s (MaxStreamData id) h = still (record p { stream_data_blocked = without_id p.stream_data_blocked s.id }) (MaxStreamData id) s.left h
  stream_blocked_left s (MaxStreams Bi) h = still (record p { stream_data_blocked = without_id p.stream_data_blocked s.id }) (MaxStreams Bi) s.left h
  stream_blocked_left s (MaxStreams Uni) h = still (record p { stream_data_blocked = without_id p.stream_data_blocked s.id }) (MaxStreams Uni) s.left h
  stream_blocked_left s DataBlocked h = still (record p { stream_data_blocked = without_id p.stream_data_blocked s.id }) DataBlocked s.left h

pub entry-left : (kind : ControlKind) (u : World) (p : Pending) (o : Option Frame) (v : World) (q : Pending) → SettlesEntry kind u p o v q → (x : ControlEntry) → IsPending p x → IsPending q x ⊎ (frame_of u x ≡ o)
entry-left kinds.ResetStream u p o v q s x h = reset_left u p o v q s x h
entry-left kinds.StopSending u p o v q s x h = stop_left u p o v q s x h
entry-left kinds.MaxData u p o v q s x h = data_left u p o v q s x h
entry-left kinds.MaxStreamData u p o v q s x h = window_left u p o v q s x h
entry-left (kinds.MaxStreams d) u p o v q s x h = counts_left u p o v q d s x h
entry-left kinds.DataBlocked u p o v q s x h = blocked_left u p o v q s x h
entry-left kinds.StreamDataBlocked u p o v q s x h = stream_blocked_left u p o v q s x h

-- ---- frames that were written

-- a frame is one of some, if there is one
abbrev pub IsAmong : List Frame → Option Frame → Type 0
IsAmong all None = Unit {0}
IsAmong all (Some g) = IsOneOf g all

pub among-more : (all more : List Frame) (o : Option Frame) → IsAmong all o → IsAmong (all ++ more) o
among-more all more None h = tt
among-more all more (Some g) h = one-of-first g all more h

pub among-last : (all : List Frame) (g : Frame) → IsAmong (all ++ g ∷ []) (Some g)
among-last all g = one-of-last g all (g ∷ []) (inl refl)
