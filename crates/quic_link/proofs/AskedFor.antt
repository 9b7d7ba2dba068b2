-- Pending control frames were asked for, and so is every control frame that was written.
use Rattle.std.proofs.Common.{◌≡◌, ℕ, Bool, true, false, List, [], ◌∷◌, Option, Some, None, Ok, refl, sym, ap, ◌∙◌, subst, inl, inr}
use Rattle.std.specs.Prelude.{◌++◌, ◌==◌, ◌&&◌, ◌||◌, not, if◌then◌else◌}
use Rattle.std.specs.Option.{option_map}
use Rattle.quic_values.specs.declared.ids.Dir.{Dir}
use Rattle.quic_values.specs.declared.ids.Dir.TheVariants.{Bi, Uni}
use Rattle.quic_wire.specs.declared.frame.Frame.{Frame}
use Rattle.quic_wire.specs.declared.frame.Frame.TheVariants as frames
use Rattle.quic_wire.specs.declared.frame.StopSending.{StopSending}
use Rattle.quic_sending.specs.declared.send.Send.{Send}
use Rattle.quic_outgoing.specs.Outgoing.{Outgoing, is_stuck}
use Rattle.quic_sending.specs.declared.send.WriteError.{WriteError}
use Rattle.quic_sending.specs.declared.send.WriteError.TheVariants as write_error
use Rattle.quic_outgoing.specs.Writing.{is_limit_news, told_blocked, RefusesWrite}
use Rattle.quic_limits.specs.SendingCredit.{is_blocked_due}
use Rattle.quic_retransmits.specs.Pending.{Pending, nothing, merged}
use Rattle.quic_retransmits.specs.Queueing.{with_id, with_stop_sending, with_reset_stream}
use Rattle.quic_retransmits.specs.Settling.{noted, without_max_streams}
use Rattle.quic_flows.specs.Flow.{WasGivenUp, SendFlow}
use Rattle.quic_writing.specs.Appended.{frame_with}
use Rattle.quic_history.specs.World.{World}
use Rattle.quic_history.specs.Flows.{has_send_side, has_side_in, send_moved}
use Rattle.quic_history.specs.declared.control.ControlKind.{ControlKind}
use Rattle.quic_history.specs.declared.control.ControlKind.TheVariants as kinds
use Rattle.quic_history.specs.Control.{SettlesEntry, reset_frame, announced_end}
use Rattle.quic_history.specs.SendEvents.{ResetOwn, TookTurn}
use Rattle.quic_history.specs.History.{Event, LeftPending, Sending, opened_in_all, send_tale, since}
use Rattle.quic_history.proofs.Traces.{itself}
use Rattle.quic_history.proofs.SendSides.{held-side}
use Rattle.quic_history.proofs.FlowHistory.{known-by}
use Rattle.quic_link.specs.Endpoints.{LinkedEnd, IsOneOf, MayAct, acted, written_by, written_on, sent_on, WasAskedFor, WasGiven, WasStoppedWith}
use Rattle.quic_link.specs.Asked.{AreAsked}
use Rattle.quic_link.proofs.Ends.{Comes, plain-call}
use Rattle.quic_link.proofs.Growth.{grows}
use Rattle.quic_link.proofs.Given.{given-more}
use Rattle.quic_link.proofs.Basics.{both, either-of, either_true, only, same_id, some_same}

-- ---- frames

abbrev pub AllAskedFor : LinkedEnd → Type 0
AllAskedFor x = (g : Frame) → IsOneOf g x.wrote → WasAskedFor x g

module _ (x y : LinkedEnd) (e : Event) (v : World) (f : Comes x) (a : MayAct x y e v) where
  reset_stays : (id code : ℕ) → (sent_on x id).reset ≡ Some code → (sent_on (acted x e v) id).reset ≡ Some code
  reset_stays id code k = let g = grows x.made x.calls x.world v f.from e (plain-call x y e a.honest) a.step id in g.reset code k

  pub frame-asked : (g : Frame) → WasAskedFor x g → WasAskedFor (acted x e v) g
  frame-asked (frames.ResetStream r) k = (reset_stays r.id r.error_code k.0, given-more x y e v f a r.id k.1)
  frame-asked (frames.StopSending s) k = (inr k.0, given-more x y e v f a s.id k.1)
  frame-asked (frames.MaxStreamData id limit) k = given-more x y e v f a id k
  frame-asked _ k = tt

  -- what is pending stays asked for
  pub asked-acted : (p : Pending) → AreAsked x p → AreAsked (acted x e v) p
  asked-acted p s = record {
    resets = λ id code h. let k = s.resets id code h in (reset_stays id code k.0, given-more x y e v f a id k.1);
    stops = λ g h. let k = s.stops g h in (inr k.0, given-more x y e v f a g.id k.1);
    windows = λ id h. given-more x y e v f a id (s.windows id h);
  }

asked_at : (x : LinkedEnd) (g k : Frame) → g ≡ k → WasAskedFor x k → WasAskedFor x g
asked_at x g k e t = let P : Frame → Type 0 = λ j. WasAskedFor x j in subst P (sym e) t

new_asked : (x y : LinkedEnd) (e : Event) (v : World) → MayAct x y e v → (g : Frame) → IsOneOf g (written_by x e) → WasAskedFor x g
new_asked x y (LeftPending kind (Some k)) v a g h = asked_at x g k (only g k h) a.honest
new_asked x y (LeftPending kind None) v a g h = absurd h
new_asked x y (Sending (TookTurn most fair (Some meta))) v a g h = asked_at x g (frame_with (written_on x) meta) (only g (frame_with (written_on x) meta) h) tt
new_asked x y (Sending (TookTurn most fair None)) v a g h = absurd h
new_asked x y _ v a g h = absurd h

pub frames-asked : (x y : LinkedEnd) (e : Event) (v : World) → Comes x → MayAct x y e v → AllAskedFor x → AllAskedFor (acted x e v)
frames-asked x y e v f a s g h = frame-asked x y e v f a g (elim (either-of g (written_by x e) x.wrote h) [ inl k ↦ new_asked x y e v a g k | inr k ↦ s g k ])

-- ---- what is pending

pub asked-nothing : (x : LinkedEnd) → AreAsked x nothing
asked-nothing x = record { resets = λ id code h. absurd h; stops = λ g h. absurd h; windows = λ id h. cc }

-- fewer entries
pub asked-fewer : (x : LinkedEnd) (p q : Pending) → ((k : ℕ × ℕ) → IsOneOf k q.reset_stream → IsOneOf k p.reset_stream) → ((k : StopSending) → IsOneOf k q.stop_sending → IsOneOf k p.stop_sending)
    → ((id : ℕ) → q.max_stream_data id ≡ true → p.max_stream_data id ≡ true) → AreAsked x p → AreAsked x q
asked-fewer x p q r s w k = record { resets = λ id code h. k.resets id code (r (id, code) h); stops = λ g h. k.stops g (s g h); windows = λ id h. k.windows id (w id h) }

-- two sets joined
pub asked-merged : (x : LinkedEnd) (p q : Pending) → AreAsked x p → AreAsked x q → AreAsked x (merged p q)
asked-merged x p q a b = record {
  resets = λ id code h. elim (either-of (id, code) p.reset_stream q.reset_stream h) [ inl k ↦ a.resets id code k | inr k ↦ b.resets id code k ];
  stops = λ g h. elim (either-of g p.stop_sending q.stop_sending h) [ inl k ↦ a.stops g k | inr k ↦ b.stops g k ];
  windows = λ id h. elim (either_true (p.max_stream_data id) (q.max_stream_data id) h) [ inl k ↦ a.windows id k | inr k ↦ b.windows id k ];
}

-- a limit of a stream that was given is queued
pub asked-window : (x : LinkedEnd) (p : Pending) (id : ℕ) (due : Bool) → WasGiven x.world id → AreAsked x p → AreAsked x (record p { max_stream_data = with_id p.max_stream_data id due })
asked-window x p id due g a = record {
  resets = a.resets;
  stops = a.stops;
  windows = λ q h. elim (either_true (p.max_stream_data q) (due && (q == id)) h) [
    | inl k ↦ a.windows q k
    | inr k ↦ (let i = same_id q id (both due (q == id) k).1 in let P : ℕ → Type 0 = λ j. WasGiven x.world j in subst P (sym i) g)
  ];
}

-- a stop, that was asked for
pub asked-stop : (x : LinkedEnd) (p : Pending) (id code : ℕ) (due : Bool) → WasStoppedWith x.calls id code → WasGiven x.world id → AreAsked x p → AreAsked x (record p { stop_sending = with_stop_sending p.stop_sending id code due })
asked-stop x p id code true w g a = record {
  resets = a.resets;
  stops = λ k h. elim (either-of k p.stop_sending (record { id = id; error_code = code } ∷ []) h) [
    | inl o ↦ a.stops k o
    | inr n ↦ (let P : StopSending → Type 0 = λ j. WasStoppedWith x.calls j.id j.error_code × WasGiven x.world j.id in subst P (sym (only k (record { id = id; error_code = code }) n)) (w, g))
  ];
  windows = a.windows;
}
asked-stop x p id code false w g a = record { resets = a.resets; stops = a.stops; windows = a.windows }

-- a reset, that was asked for
pub asked-reset : (x : LinkedEnd) (p : Pending) (id code : ℕ) → (sent_on x id).reset ≡ Some code → WasGiven x.world id → AreAsked x p → AreAsked x (record p { reset_stream = with_reset_stream p.reset_stream id code })
asked-reset x p id code r g a = record {
  resets = λ q c h. elim (either-of (q, c) p.reset_stream ((id, code) ∷ []) h) [
    | inl o ↦ a.resets q c o
    | inr n ↦ (let P : ℕ × ℕ → Type 0 = λ j. ((sent_on x j.0).reset ≡ Some j.1) × WasGiven x.world j.0 in subst P (sym (only (q, c) (id, code) n)) (r, g))
  ];
  stops = a.stops;
  windows = a.windows;
}

-- the flow of a stream once it was given up
pub reset-told : (x y : LinkedEnd) (id code : ℕ) (v : World) → Comes x → MayAct x y (Sending (ResetOwn id code (Ok tt))) v → (sent_on (acted x (Sending (ResetOwn id code (Ok tt))) v) id).reset ≡ Some code
reset-told x y id code v f a =
    let r = a.step.2.1 in
    let there = held-side _ _ (has_side_in x.world.out x.world.bi.max_remote id) r.0 (x.world.out.halves id) r.1 (f.sends.flows id) in
    let known = known-by x.made x.calls x.world f.side f.sends.may_open f.from.sent id in
    given_up (has_send_side x.made.side (opened_in_all (since x.calls)) (send_tale x.made x.calls).may_open) (sent_on x id) (known ∙ there)
  where
    given_up : (there : ℕ → Bool) (t : SendFlow) → there id ≡ true → (send_moved (Some (id, WasGivenUp code)) there id t).reset ≡ Some code
    given_up there t k = rw (itself id, k) refl

-- a frame that was written is noted, so that it is pending again once it is lost
pub asked-noted : (x : LinkedEnd) (p : Pending) (g : Frame) → WasAskedFor x g → AreAsked x p → AreAsked x (noted p g)
asked-noted x p (frames.ResetStream r) k a = asked-reset x p r.id r.error_code k.0 k.1 a
asked-noted x p (frames.StopSending s) k a = asked-stop x p s.id s.error_code true k.0 k.1 a
asked-noted x p (frames.MaxStreamData id limit) k a = asked-window x p id true k a
asked-noted x p (frames.MaxData limit) k a = record { resets = a.resets; stops = a.stops; windows = a.windows }
asked-noted x p (frames.MaxStreams Bi count) k a = record { resets = a.resets; stops = a.stops; windows = a.windows }
asked-noted x p (frames.MaxStreams Uni count) k a = record { resets = a.resets; stops = a.stops; windows = a.windows }
asked-noted x p (frames.DataBlocked offset) k a = record { resets = a.resets; stops = a.stops; windows = a.windows }
asked-noted x p (frames.StreamDataBlocked id offset) k a = record { resets = a.resets; stops = a.stops; windows = a.windows }
asked-noted x p _ k a = a

-- what a write queues that found nothing to be writable, and what a refused write leaves
pub asked-blocked : (x : LinkedEnd) (u : Outgoing) (p : Pending) (id : ℕ) (o : Option Send) → AreAsked x p → AreAsked x (told_blocked u id o p)
asked-blocked x u p id None a = a
asked-blocked x u p id (Some s) a = told (is_stuck u)
  where
    told : (b : Bool) → AreAsked x (if b then record p { data_blocked = p.data_blocked || is_blocked_due u.budget } else record p { stream_data_blocked = with_id p.stream_data_blocked id (is_limit_news s) })
    told true = record { resets = a.resets; stops = a.stops; windows = a.windows }
    told false = record { resets = a.resets; stops = a.stops; windows = a.windows }

pub asked-refused : (x : LinkedEnd) (u v : Outgoing) (p q : Pending) (id : ℕ) (e : WriteError) → RefusesWrite u id p e v q → AreAsked x p → AreAsked x q
asked-refused x u v p q id write_error.Blocked r a = let P : Pending → Type 0 = λ k. AreAsked x k in subst P (sym r.2) (asked-blocked x u p id (u.halves id) a)
asked-refused x u v p q id (write_error.Stopped code) r a = let P : Pending → Type 0 = λ k. AreAsked x k in subst P (sym r.2) a
asked-refused x u v p q id write_error.ClosedStream r a = let P : Pending → Type 0 = λ k. AreAsked x k in subst P (sym r.2) a
asked-refused x u v p q id write_error.OutOfMemory r a = let P : Pending → Type 0 = λ k. AreAsked x k in subst P (sym r.1) a

-- ---- an entry that leaves

in_front : {X : Type 0} (k : X) (xs ys : List X) → IsOneOf k xs → IsOneOf k (xs ++ ys)
in_front k [] ys h = absurd h
in_front k (x ∷ xs) ys (inl e) = inl e
in_front k (x ∷ xs) ys (inr h) = inr (in_front k xs ys h)

at_end : {X : Type 0} (k : X) (xs : List X) → IsOneOf k (xs ++ k ∷ [])
at_end k [] = inl refl
at_end k (x ∷ xs) = inr (at_end k xs)

module _ (x : LinkedEnd) (p : Pending) (s : AreAsked x p) where
  unchanged : (q : Pending) → q.reset_stream ≡ p.reset_stream → q.stop_sending ≡ p.stop_sending → q.max_stream_data ≡ p.max_stream_data → AreAsked x q
  unchanged q a b c = asked-fewer x p q
      (λ k h. let P : List (ℕ × ℕ) → Type 0 = λ l. IsOneOf k l in subst P a h)
      (λ k h. let P : List StopSending → Type 0 = λ l. IsOneOf k l in subst P b h)
      (λ id h. sym (ap (λ w. w id) c) ∙ h) s

  streams_unchanged : (q : Pending) (d : Dir) → q ≡ without_max_streams p d → AreAsked x q
  streams_unchanged q Bi e = unchanged q (ap (λ (k : Pending). k.reset_stream) e) (ap (λ (k : Pending). k.stop_sending) e) (ap (λ (k : Pending). k.max_stream_data) e)
  streams_unchanged q Uni e = unchanged q (ap (λ (k : Pending). k.reset_stream) e) (ap (λ (k : Pending). k.stop_sending) e) (ap (λ (k : Pending). k.max_stream_data) e)

  -- the others stay asked for
  pub asked-left : (kind : ControlKind) (o : Option Frame) (v : World) (q : Pending) → SettlesEntry kind x.world p o v q → AreAsked x q
  asked-left kinds.ResetStream o v q t = asked-fewer x p q
      (λ k h. let P : List (ℕ × ℕ) → Type 0 = λ l. IsOneOf k l in
      subst P (sym t.last) (in_front k t.front ((t.id, t.code) ∷ []) (subst P (ap (λ (j : Pending). j.reset_stream) t.left) h)))
      (λ k h. let P : List StopSending → Type 0 = λ l. IsOneOf k l in subst P (ap (λ (j : Pending). j.stop_sending) t.left) h)
      (λ id h. sym (ap (λ (j : Pending). j.max_stream_data id) t.left) ∙ h) s
  asked-left kinds.StopSending o v q t = asked-fewer x p q
      (λ k h. let P : List (ℕ × ℕ) → Type 0 = λ l. IsOneOf k l in subst P (ap (λ (j : Pending). j.reset_stream) t.left) h)
      (λ k h. let P : List StopSending → Type 0 = λ l. IsOneOf k l in
      subst P (sym t.last) (in_front k t.front (t.stop ∷ []) (subst P (ap (λ (j : Pending). j.stop_sending) t.left) h)))
      (λ id h. sym (ap (λ (j : Pending). j.max_stream_data id) t.left) ∙ h) s
  asked-left kinds.MaxData o v q t = unchanged q (ap (λ (k : Pending). k.reset_stream) t.left) (ap (λ (k : Pending). k.stop_sending) t.left) (ap (λ (k : Pending). k.max_stream_data) t.left)
  asked-left kinds.MaxStreamData o v q t = asked-fewer x p q
      (λ k h. let P : List (ℕ × ℕ) → Type 0 = λ l. IsOneOf k l in subst P (ap (λ (j : Pending). j.reset_stream) t.left) h)
      (λ k h. let P : List StopSending → Type 0 = λ l. IsOneOf k l in subst P (ap (λ (j : Pending). j.stop_sending) t.left) h)
      (λ id h. (both (p.max_stream_data id) (not (id == t.id)) (sym (ap (λ (j : Pending). j.max_stream_data id) t.left) ∙ h)).0) s
  asked-left (kinds.MaxStreams d) o v q t = streams_unchanged q d t.left
  asked-left kinds.DataBlocked o v q t = unchanged q (ap (λ (k : Pending). k.reset_stream) t.left) (ap (λ (k : Pending). k.stop_sending) t.left) (ap (λ (k : Pending). k.max_stream_data) t.left)
  asked-left kinds.StreamDataBlocked o v q t = unchanged q (ap (λ (k : Pending). k.reset_stream) t.left) (ap (λ (k : Pending). k.stop_sending) t.left) (ap (λ (k : Pending). k.max_stream_data) t.left)

  reset_asked : (id code : ℕ) (o : Option Send) (g : Frame) → IsOneOf (id, code) p.reset_stream → Some g ≡ reset_frame id code o → WasAskedFor x g
  reset_asked id code None g h k = cc
  reset_asked id code (Some t) g h k = asked_at x g (frames.ResetStream (record { id = id; error_code = code; final_offset = t.pending.offset })) (some_same g _ k) (s.resets id code h)

  window_asked : (id : ℕ) (o : Option ℕ) (g : Frame) → p.max_stream_data id ≡ true → Some g ≡ option_map (frames.MaxStreamData id) o → WasAskedFor x g
  window_asked id None g h k = cc
  window_asked id (Some limit) g h k = asked_at x g (frames.MaxStreamData id limit) (some_same g _ k) (s.windows id h)

  blocked_asked : (id : ℕ) (o : Option ℕ) (g : Frame) → Some g ≡ option_map (frames.StreamDataBlocked id) o → WasAskedFor x g
  blocked_asked id None g k = cc
  blocked_asked id (Some limit) g k = asked_at x g (frames.StreamDataBlocked id limit) (some_same g _ k) tt

  data_blocked_asked : (b : Bool) (n : ℕ) (g : Frame) → Some g ≡ (if b then Some (frames.DataBlocked n) else None) → WasAskedFor x g
  data_blocked_asked true n g k = asked_at x g (frames.DataBlocked n) (some_same g _ k) tt
  data_blocked_asked false n g k = cc

  -- and the frame that is written was
  pub asked-written : (kind : ControlKind) (g : Frame) (v : World) (q : Pending) → SettlesEntry kind x.world p (Some g) v q → WasAskedFor x g
  asked-written kinds.ResetStream g v q t =
      let P : List (ℕ × ℕ) → Type 0 = λ l. IsOneOf (t.id, t.code) l in
      reset_asked t.id t.code (x.world.out.halves t.id) g (subst P (sym t.last) (at_end (t.id, t.code) t.front)) t.frame
  asked-written kinds.StopSending g v q t =
      let P : List StopSending → Type 0 = λ l. IsOneOf t.stop l in
      asked_at x g (frames.StopSending t.stop) (some_same g _ t.frame) (s.stops t.stop (subst P (sym t.last) (at_end t.stop t.front)))
  asked-written kinds.MaxData g v q t = asked_at x g _ (some_same g _ t.frame) tt
  asked-written kinds.MaxStreamData g v q t = window_asked t.id (announced_end x.world.window (x.world.receive t.id)) g t.queued t.frame
  asked-written (kinds.MaxStreams d) g v q t = asked_at x g _ (some_same g _ t.frame) tt
  asked-written kinds.DataBlocked g v q t = data_blocked_asked _ _ g t.frame
  asked-written kinds.StreamDataBlocked g v q t = blocked_asked t.id _ g t.frame
