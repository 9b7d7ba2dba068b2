-- Of each stream whose send half was freed, and which was not given up, the application was told that it is finished, or is to be told; and so
-- of each that its peer asked to send no more on, with the first code that came, while its half is held.
use Rattle.std.proofs.Common.{◌≡◌, ◌⊎◌, ℕ, Bool, true, false, List, [], ◌∷◌, ◌++◌, Option, Some, None, Ok, refl, sym, ap, ◌∙◌, subst, inl, inr}
use Rattle.std.specs.Prelude.{◌==◌, ◌&&◌, ◌^◌, ◌-◌, min, not, is_none, is_some, unwrap_or, if◌then◌else◌}
use Rattle.std.proofs.lemmas.Option.{same_Some}
use Rattle.quic_values.specs.declared.ids.Side.{Side}
use Rattle.quic_wire.specs.declared.frame.StreamMeta.{StreamMeta}
use Rattle.quic_wire.specs.declared.event.StreamEvent.{StreamEvent}
use Rattle.quic_wire.specs.declared.event.StreamEvent.TheVariants as stream_event
use Rattle.quic_flows.specs.Flow.{SendFlow, SendMove, WasWritten, WasFinished, WasGivenUp, WasAskedToStop, WasPermitted, WasCarried, WasAcked, WasLost, WasResetAcked, with_send_move, with_carried, with_acked, with_lost, with_least_limit, takes_data, counts_for, is_whole, freed_if_whole}
use Rattle.quic_outgoing.specs.declared.limits.PeerLimits.{PeerLimits}
use Rattle.quic_outgoing.specs.Senders.{is_local}
use Rattle.quic_history.specs.World.{World, Made}
use Rattle.quic_history.specs.Flows.{send_moved, with_first_limits, ends_by, told_if}
use Rattle.quic_history.specs.Early.{JointMove, WereDropped, WereUnsent, with_joint_move, with_unsent}
use Rattle.quic_history.specs.SendEvents.{RaisedLimit, StoppedOwn, WroteOwn, FinishedOwn, ResetOwn, AckedOwn, LostOwn, ResetAckedOwn, TookTurn, Polled}
use Rattle.quic_history.specs.History.{Event, Received, ReceivedReset, Sending, Step, Fits, From, flow, send_move_of, joint_move_of, limits_in, is_sent_on, QueuesSo}
use Rattle.quic_history.proofs.Histories.{next}
use Rattle.quic_history.proofs.ToldEvents.{queues}
use Rattle.quic_streams.specs.Transmitting.{with_turns}
use Rattle.quic_link.specs.Endpoints.{IsOneOf}
use Rattle.quic_link.proofs.Basics.{both, either_true, or_left, same_id}
use Rattle.quic_exchange.specs.History.{Flow}
use Rattle.quic_exchange.proofs.Counted.{sides_told}

-- a flow was given up by its writer
abbrev pub IsGivenUp : Flow → Type 0
IsGivenUp f = (code : ℕ) × IsOneOf code f.resets

-- that an event was told is known, if it is of these kinds
abbrev pub IsKnownTold : (ℕ → Flow) → StreamEvent → Type 0
IsKnownTold f (stream_event.Finished id) = (f id).complete ≡ true
IsKnownTold f (stream_event.Stopped id code) = IsOneOf code (f id).told_stops
IsKnownTold f _ = Unit {0}

-- what is known of flows has the codes with which calls gave them up; of each whose half was freed by calls it has that it was given up, or
-- that a poll told that it is finished, or that is to be told; and of each whose half is held so the first code of a stop
pub record TellsOf (m : Made) (h : List Event) (events : List StreamEvent) (f : ℕ → Flow) : Type 0 where
  pub resets : (q code : ℕ) → (flow m h q).reset ≡ Some code → IsOneOf code (f q).resets
  pub told : (q : ℕ) → (flow m h q).freed ≡ true → IsGivenUp (f q) ⊎ (((f q).complete ≡ true) ⊎ IsOneOf (stream_event.Finished q) events)
  pub stops : (q code : ℕ) → (flow m h q).stopped ≡ Some code → ((flow m h q).freed ≡ true) ⊎ (IsOneOf code (f q).told_stops ⊎ IsOneOf (stream_event.Stopped q code) events)

-- these calls led to an end, of whose flows this is known
pub record NotifiedBy (m : Made) (h : List Event) (w : World) (f : ℕ → Flow) : Type 0 where
  pub from : From m h w
  pub tells : TellsOf m h w.events f

-- some calls did
pub record Notified (w : World) (f : ℕ → Flow) : Type 0 where
  pub made : Made
  pub calls : List Event
  pub by : NotifiedBy made calls w f

-- ---- what frees a half, and what gives a stream up

-- an acknowledgement is the last that a stream waits for
abbrev FreesBy : SendMove → SendFlow → Type 0
FreesBy (WasAcked first behind fin) t = ends_by first behind fin t ≡ true
FreesBy _ t = ⊥

abbrev HasCode : SendFlow → Type 0
HasCode t = (code : ℕ) × (t.reset ≡ Some code)

some_code : (o : Option ℕ) → is_some o ≡ true → (code : ℕ) × (o ≡ Some code)
some_code None e = cc
some_code (Some code) e = (code, refl)

freed_same : (b : Bool) (f g : SendFlow) → f.freed ≡ g.freed → (if b then f else g).freed ≡ g.freed
freed_same true f g e = e
freed_same false f g e = refl

reset_same : (b : Bool) (f g : SendFlow) → f.reset ≡ g.reset → (if b then f else g).reset ≡ g.reset
reset_same true f g e = e
reset_same false f g e = refl

stopped_same : (b : Bool) (f g : SendFlow) → f.stopped ≡ g.stopped → (if b then f else g).stopped ≡ g.stopped
stopped_same true f g e = e
stopped_same false f g e = refl

both_so : (a b : Bool) → a ≡ true → b ≡ true → (a && b) ≡ true
both_so a b e d = rw (e, d) refl

acked_frees : (first behind : ℕ) (fin : Bool) (t : SendFlow) (c : Bool) → counts_for t.reset t.sent_up_to behind ≡ c → (if c then freed_if_whole (with_acked first behind fin t) else t).freed ≡ true
    → (t.freed ≡ true) ⊎ (HasCode t ⊎ FreesBy (WasAcked first behind fin) t)
acked_frees first behind fin t false k e = inl e
acked_frees first behind fin t true k e = elim (either_true t.freed (is_whole (with_acked first behind fin t)) e) [
  | inl old ↦ inl old
  | inr now ↦ inr (inr (both_so (counts_for t.reset t.sent_up_to behind) (is_whole (with_acked first behind fin t)) k now))
]

move_frees : (m : SendMove) (t : SendFlow) → (with_send_move m t).freed ≡ true → (t.freed ≡ true) ⊎ (HasCode t ⊎ FreesBy m t)
move_frees (WasWritten pieces) t e = inl e
move_frees WasFinished t e = inl e
move_frees (WasGivenUp code) t e = inl e
move_frees (WasAskedToStop code) t e = inl e
move_frees (WasPermitted limit) t e = inl (sym (freed_same (takes_data t.reset t.finished) (with_least_limit (min limit (2 ^ 62 - 1)) t) t refl) ∙ e)
move_frees (WasCarried first behind fin) t e = inl (sym (freed_same (is_none t.reset) (with_carried first behind fin t) t refl) ∙ e)
move_frees (WasAcked first behind fin) t e = acked_frees first behind fin t (counts_for t.reset t.sent_up_to behind) refl e
move_frees (WasLost first behind fin) t e = inl (sym (freed_same (counts_for t.reset t.sent_up_to behind) (with_lost first behind fin t) t refl) ∙ e)
move_frees WasResetAcked t e = elim (either_true t.freed (is_some t.reset) e) [ inl old ↦ inl old | inr some ↦ inr (inl (some_code t.reset some)) ]

move_resets : (m : SendMove) (t : SendFlow) (code : ℕ) → (with_send_move m t).reset ≡ Some code → (t.reset ≡ Some code) ⊎ (m ≡ WasGivenUp code)
move_resets (WasWritten pieces) t code e = inl e
move_resets WasFinished t code e = inl e
move_resets (WasGivenUp c) t code e = inr (ap WasGivenUp (same_Some c code e))
move_resets (WasAskedToStop c) t code e = inl e
move_resets (WasPermitted limit) t code e = inl (sym (reset_same (takes_data t.reset t.finished) (with_least_limit (min limit (2 ^ 62 - 1)) t) t refl) ∙ e)
move_resets (WasCarried first behind fin) t code e = inl (sym (reset_same (is_none t.reset) (with_carried first behind fin t) t refl) ∙ e)
move_resets (WasAcked first behind fin) t code e = inl (sym (reset_same (counts_for t.reset t.sent_up_to behind) (freed_if_whole (with_acked first behind fin t)) t refl) ∙ e)
move_resets (WasLost first behind fin) t code e = inl (sym (reset_same (counts_for t.reset t.sent_up_to behind) (with_lost first behind fin t) t refl) ∙ e)
move_resets WasResetAcked t code e = inl e

move_stops : (m : SendMove) (t : SendFlow) (code : ℕ) → (with_send_move m t).stopped ≡ Some code → (t.stopped ≡ Some code) ⊎ ((t.stopped ≡ None) × (m ≡ WasAskedToStop code))
move_stops (WasWritten pieces) t code e = inl e
move_stops WasFinished t code e = inl e
move_stops (WasGivenUp c) t code e = inl e
move_stops (WasAskedToStop c) t code e = by_first t.stopped refl (same_Some (unwrap_or t.stopped c) code e)
  where
    by_first : (o : Option ℕ) → t.stopped ≡ o → unwrap_or o c ≡ code → (t.stopped ≡ Some code) ⊎ ((t.stopped ≡ None) × (WasAskedToStop c ≡ WasAskedToStop code))
    by_first None k d = inr (k, ap WasAskedToStop d)
    by_first (Some first) k d = inl (k ∙ ap (λ (n : ℕ). Some n) d)
move_stops (WasPermitted limit) t code e = inl (sym (stopped_same (takes_data t.reset t.finished) (with_least_limit (min limit (2 ^ 62 - 1)) t) t refl) ∙ e)
move_stops (WasCarried first behind fin) t code e = inl (sym (stopped_same (is_none t.reset) (with_carried first behind fin t) t refl) ∙ e)
move_stops (WasAcked first behind fin) t code e = inl (sym (stopped_same (counts_for t.reset t.sent_up_to behind) (freed_if_whole (with_acked first behind fin t)) t refl) ∙ e)
move_stops (WasLost first behind fin) t code e = inl (sym (stopped_same (counts_for t.reset t.sent_up_to behind) (with_lost first behind fin t) t refl) ∙ e)
move_stops WasResetAcked t code e = inl e

-- a half that was freed stays so
freed_either : (b : Bool) (f g : SendFlow) → f.freed ≡ true → g.freed ≡ true → (if b then f else g).freed ≡ true
freed_either true f g d e = d
freed_either false f g d e = e

move_keeps : (m : SendMove) (t : SendFlow) → t.freed ≡ true → (with_send_move m t).freed ≡ true
move_keeps (WasWritten pieces) t e = e
move_keeps WasFinished t e = e
move_keeps (WasGivenUp c) t e = e
move_keeps (WasAskedToStop c) t e = e
move_keeps (WasPermitted limit) t e = freed_either (takes_data t.reset t.finished) (with_least_limit (min limit (2 ^ 62 - 1)) t) t e e
move_keeps (WasCarried first behind fin) t e = freed_either (is_none t.reset) (with_carried first behind fin t) t e e
move_keeps (WasAcked first behind fin) t e = freed_either (counts_for t.reset t.sent_up_to behind) (freed_if_whole (with_acked first behind fin t)) t (or_left t.freed (is_whole (with_acked first behind fin t)) e) e
move_keeps (WasLost first behind fin) t e = freed_either (counts_for t.reset t.sent_up_to behind) (with_lost first behind fin t) t e e
move_keeps WasResetAcked t e = or_left t.freed (is_some t.reset) e

-- ---- so of one stream among all

abbrev MovesBy : Option (ℕ × SendMove) → (ℕ → Bool) → ℕ → SendFlow → Type 0
MovesBy None there q t = ⊥
MovesBy (Some m) there q t = (q ≡ m.0) × (there q ≡ true) × FreesBy m.1 t

abbrev GivesBy : Option (ℕ × SendMove) → ℕ → ℕ → Type 0
GivesBy None q code = ⊥
GivesBy (Some m) q code = (q ≡ m.0) × (m.1 ≡ WasGivenUp code)

abbrev StopsBy : Option (ℕ × SendMove) → (ℕ → Bool) → ℕ → SendFlow → ℕ → Type 0
StopsBy None there q t code = ⊥
StopsBy (Some m) there q t code = (q ≡ m.0) × (there q ≡ true) × (t.stopped ≡ None) × (m.1 ≡ WasAskedToStop code)

moved_frees : (o : Option (ℕ × SendMove)) (there : ℕ → Bool) (q : ℕ) (t : SendFlow) → (send_moved o there q t).freed ≡ true → (t.freed ≡ true) ⊎ (HasCode t ⊎ MovesBy o there q t)
moved_frees None there q t e = inl e
moved_frees (Some m) there q t e = by_test ((q == m.0) && there q) refl e
  where
    by_test : (b : Bool) → ((q == m.0) && there q) ≡ b → (if b then with_send_move m.1 t else t).freed ≡ true → (t.freed ≡ true) ⊎ (HasCode t ⊎ MovesBy (Some m) there q t)
    by_test false k d = inl d
    by_test true k d =
        let two = both (q == m.0) (there q) k in
        elim (move_frees m.1 t d) [
          | inl old ↦ inl old
          | inr other ↦ elim other [ inl code ↦ inr (inl code) | inr by ↦ inr (inr (same_id q m.0 two.0, two.1, by)) ]
        ]

moved_resets : (o : Option (ℕ × SendMove)) (there : ℕ → Bool) (q : ℕ) (t : SendFlow) (code : ℕ) → (send_moved o there q t).reset ≡ Some code → (t.reset ≡ Some code) ⊎ GivesBy o q code
moved_resets None there q t code e = inl e
moved_resets (Some m) there q t code e = by_test ((q == m.0) && there q) refl e
  where
    by_test : (b : Bool) → ((q == m.0) && there q) ≡ b → (if b then with_send_move m.1 t else t).reset ≡ Some code → (t.reset ≡ Some code) ⊎ GivesBy (Some m) q code
    by_test false k d = inl d
    by_test true k d = elim (move_resets m.1 t code d) [ inl old ↦ inl old | inr by ↦ inr (same_id q m.0 (both (q == m.0) (there q) k).0, by) ]

moved_stops : (o : Option (ℕ × SendMove)) (there : ℕ → Bool) (q : ℕ) (t : SendFlow) (code : ℕ) → (send_moved o there q t).stopped ≡ Some code → (t.stopped ≡ Some code) ⊎ StopsBy o there q t code
moved_stops None there q t code e = inl e
moved_stops (Some m) there q t code e = by_test ((q == m.0) && there q) refl e
  where
    by_test : (b : Bool) → ((q == m.0) && there q) ≡ b → (if b then with_send_move m.1 t else t).stopped ≡ Some code → (t.stopped ≡ Some code) ⊎ StopsBy (Some m) there q t code
    by_test false k d = inl d
    by_test true k d =
        let two = both (q == m.0) (there q) k in
        elim (move_stops m.1 t code d) [ inl old ↦ inl old | inr by ↦ inr (same_id q m.0 two.0, two.1, by.0, by.1) ]

moved_keeps : (o : Option (ℕ × SendMove)) (there : ℕ → Bool) (q : ℕ) (t : SendFlow) → t.freed ≡ true → (send_moved o there q t).freed ≡ true
moved_keeps None there q t e = e
moved_keeps (Some m) there q t e = freed_either ((q == m.0) && there q) (with_send_move m.1 t) t (move_keeps m.1 t e) e

-- limits that are handed in change neither
limits_free : (l : Option PeerLimits) (side : Side) (q : ℕ) (t : SendFlow) → (with_first_limits l side q t).freed ≡ t.freed
limits_free None side q t = refl
limits_free (Some limits) side q t = refl

limits_reset : (l : Option PeerLimits) (side : Side) (q : ℕ) (t : SendFlow) → (with_first_limits l side q t).reset ≡ t.reset
limits_reset None side q t = refl
limits_reset (Some limits) side q t = refl

limits_stop : (l : Option PeerLimits) (side : Side) (q : ℕ) (t : SendFlow) → (with_first_limits l side q t).stopped ≡ t.stopped
limits_stop None side q t = refl
limits_stop (Some limits) side q t = refl

-- nor does what is done to all streams at once, unless they begin anew
joint_free : (o : Option JointMove) (side : Side) (q : ℕ) (t : SendFlow) → (with_joint_move o side q t).freed ≡ true → t.freed ≡ true
joint_free None side q t e = e
joint_free (Some WereDropped) side q t e = cc
joint_free (Some WereUnsent) side q t e = sym (freed_same (is_local side q) (with_unsent t) t (freed_same (is_none t.reset) _ t refl)) ∙ e

joint_reset : (o : Option JointMove) (side : Side) (q : ℕ) (t : SendFlow) (code : ℕ) → (with_joint_move o side q t).reset ≡ Some code → t.reset ≡ Some code
joint_reset None side q t code e = e
joint_reset (Some WereDropped) side q t code e = cc
joint_reset (Some WereUnsent) side q t code e = sym (reset_same (is_local side q) (with_unsent t) t (reset_same (is_none t.reset) _ t refl)) ∙ e

joint_stop : (o : Option JointMove) (side : Side) (q : ℕ) (t : SendFlow) (code : ℕ) → (with_joint_move o side q t).stopped ≡ Some code → (t.stopped ≡ Some code) × (t.freed ≡ true → (with_joint_move o side q t).freed ≡ true)
joint_stop None side q t code e = (e, λ d. d)
joint_stop (Some WereDropped) side q t code e = cc
joint_stop (Some WereUnsent) side q t code e =
    (sym (stopped_same (is_local side q) (with_unsent t) t (stopped_same (is_none t.reset) _ t refl)) ∙ e, λ d. freed_same (is_local side q) (with_unsent t) t (freed_same (is_none t.reset) _ t refl) ∙ d)

module _ (m : Made) (h : List Event) (e : Event) (q : ℕ) where
  abbrev behind_joint : SendFlow
  behind_joint = with_joint_move (joint_move_of e) m.side q (flow m h q)

  frees : (flow m (e ∷ h) q).freed ≡ true → ((flow m h q).freed ≡ true) ⊎ (HasCode (flow m h q) ⊎ MovesBy (send_move_of e) (sides_told m h) q behind_joint)
  frees d = elim (moved_frees (send_move_of e) (sides_told m h) q behind_joint (sym (limits_free (limits_in e) m.side q (send_moved (send_move_of e) (sides_told m h) q behind_joint)) ∙ d)) [
    | inl old ↦ inl (joint_free (joint_move_of e) m.side q (flow m h q) old)
    | inr other ↦ elim other [ inl code ↦ inr (inl (code.0, joint_reset (joint_move_of e) m.side q (flow m h q) code.0 code.1)) | inr by ↦ inr (inr by) ]
  ]

  gives : (code : ℕ) → (flow m (e ∷ h) q).reset ≡ Some code → ((flow m h q).reset ≡ Some code) ⊎ GivesBy (send_move_of e) q code
  gives code d = elim (moved_resets (send_move_of e) (sides_told m h) q behind_joint code (sym (limits_reset (limits_in e) m.side q (send_moved (send_move_of e) (sides_told m h) q behind_joint)) ∙ d)) [
    | inl old ↦ inl (joint_reset (joint_move_of e) m.side q (flow m h q) code old)
    | inr by ↦ inr by
  ]

  -- a half that was freed before stays so
  after_keeps : behind_joint.freed ≡ true → (flow m (e ∷ h) q).freed ≡ true
  after_keeps d = limits_free (limits_in e) m.side q (send_moved (send_move_of e) (sides_told m h) q behind_joint) ∙ moved_keeps (send_move_of e) (sides_told m h) q behind_joint d

  stops_so : (code : ℕ) → (flow m (e ∷ h) q).stopped ≡ Some code → (((flow m h q).stopped ≡ Some code) × ((flow m h q).freed ≡ true → (flow m (e ∷ h) q).freed ≡ true)) ⊎ StopsBy (send_move_of e) (sides_told m h) q behind_joint code
  stops_so code d = elim (moved_stops (send_move_of e) (sides_told m h) q behind_joint code (sym (limits_stop (limits_in e) m.side q (send_moved (send_move_of e) (sides_told m h) q behind_joint)) ∙ d)) [
    | inl old ↦ (let j = joint_stop (joint_move_of e) m.side q (flow m h q) code old in inl (j.0, λ k. after_keeps (j.1 k)))
    | inr by ↦ inr by
  ]

-- ---- what is queued

-- a call may be made where what it gives up, and what it tells, is known
abbrev pub MayCall : Event → (ℕ → Flow) → Type 0
MayCall (Sending (ResetOwn id code (Ok x))) f = IsOneOf code (f id).resets
MayCall (Sending (Polled (Some g))) f = IsKnownTold f g
MayCall _ f = Unit {0}

in_front : (g : StreamEvent) (xs ys : List StreamEvent) → IsOneOf g xs → IsOneOf g (xs ++ ys)
in_front g [] ys h = absurd h
in_front g (x ∷ xs) ys (inl e) = inl e
in_front g (x ∷ xs) ys (inr h) = inr (in_front g xs ys h)

in_back : (g : StreamEvent) (xs ys : List StreamEvent) → IsOneOf g ys → IsOneOf g (xs ++ ys)
in_back g [] ys h = h
in_back g (x ∷ xs) ys h = inr (in_back g xs ys h)

told_there : (g : StreamEvent) (b : Bool) → b ≡ true → IsOneOf g (told_if b g)
told_there g true e = inl refl
told_there g false e = cc

stays_more : (g : StreamEvent) (before more after : List StreamEvent) → after ≡ before ++ more → IsOneOf g before → IsOneOf g after
stays_more g before more after e k = subst (λ (es : List StreamEvent). IsOneOf g es) (sym e) (in_front g before more k)

stays_same : (g : StreamEvent) (before after : List StreamEvent) → after ≡ before → IsOneOf g before → IsOneOf g after
stays_same g before after e k = subst (λ (es : List StreamEvent). IsOneOf g es) (sym e) k

-- where an event is taken, it was told, and another stays
stays_taken : (f : ℕ → Flow) (g o : StreamEvent) (before after : List StreamEvent) → IsKnownTold f o → before ≡ o ∷ after → IsOneOf g before → IsKnownTold f g ⊎ IsOneOf g after
stays_taken f g o before after told e k = elim (subst (λ (es : List StreamEvent). IsOneOf g es) e k) [
  | inl is ↦ inl (subst (IsKnownTold f) (sym is) told)
  | inr there ↦ inr there
]

-- what is to be told is queued until it is told
stays_queued : (m : Made) (h : List Event) (e : Event) (f : ℕ → Flow) (before after : List StreamEvent) → MayCall e f → QueuesSo m h e before after → (g : StreamEvent) → IsOneOf g before → IsKnownTold f g ⊎ IsOneOf g after
stays_queued m h (Sending (Polled None)) f before after may s g k = absurd (subst (λ (es : List StreamEvent). IsOneOf g es) s.0 k)
stays_queued m h (Sending (Polled (Some (stream_event.Opened dir)))) f before after may s g k = elim s [ inl same ↦ inr (stays_same g before after same k) | inr taken ↦ stays_taken f g (stream_event.Opened dir) before after may taken k ]
stays_queued m h (Sending (Polled (Some (stream_event.Writable id)))) f before after may s g k = elim s [ inl same ↦ inr (stays_same g before after same k) | inr taken ↦ stays_taken f g (stream_event.Writable id) before after may taken k ]
stays_queued m h (Sending (Polled (Some (stream_event.Readable id)))) f before after may s g k = stays_taken f g (stream_event.Readable id) before after may s k
stays_queued m h (Sending (Polled (Some (stream_event.Stopped id code)))) f before after may s g k = stays_taken f g (stream_event.Stopped id code) before after may s k
stays_queued m h (Sending (Polled (Some (stream_event.Available dir)))) f before after may s g k = stays_taken f g (stream_event.Available dir) before after may s k
stays_queued m h (Sending (Polled (Some (stream_event.Finished id)))) f before after may s g k = stays_taken f g (stream_event.Finished id) before after may s k
stays_queued m h (Received id offset bytes fin (Ok transmit)) f before after may s g k = elim s [ inl same ↦ inr (stays_same g before after same k) | inr more ↦ inr (stays_more g before _ after more k) ]
stays_queued m h (ReceivedReset id code final (Ok transmit)) f before after may s g k = elim s [ inl same ↦ inr (stays_same g before after same k) | inr more ↦ inr (stays_more g before _ after more k) ]
stays_queued m h _ f before after may s g k = inr (stays_more g before _ after s k)

-- by the acknowledgement that frees a half it is queued
acked_queued : (m : Made) (h : List Event) (e : Event) (before after : List StreamEvent) (q : ℕ) → (flow m h q).freed ≡ false → MovesBy (send_move_of e) (sides_told m h) q (behind_joint m h e q) → QueuesSo m h e before after → IsOneOf (stream_event.Finished q) after
acked_queued m h (Sending (AckedOwn id offsets fin (Ok x))) before after q there k s =
    let told : ℕ → List StreamEvent = λ n. told_if (is_sent_on m h n && ends_by offsets.start offsets.end fin (flow m h n)) (stream_event.Finished n) in
    let sent : is_sent_on m h q ≡ true = both_so (sides_told m h q) (not (flow m h q).freed) k.1 (ap not there) in
    let here : IsOneOf (stream_event.Finished q) (told q) = told_there (stream_event.Finished q) (is_sent_on m h q && ends_by offsets.start offsets.end fin (flow m h q)) (both_so (is_sent_on m h q) (ends_by offsets.start offsets.end fin (flow m h q)) sent k.2) in
    subst (λ (es : List StreamEvent). IsOneOf (stream_event.Finished q) es) (sym s) (in_back (stream_event.Finished q) before (told id) (subst (λ n. IsOneOf (stream_event.Finished q) (told n)) k.0 here))
acked_queued m h (Sending (RaisedLimit id limit (Ok x))) before after q there k s = absurd k.2
acked_queued m h (Sending (StoppedOwn id code (Ok x))) before after q there k s = absurd k.2
acked_queued m h (Sending (WroteOwn id lists closed (Ok written))) before after q there k s = absurd k.2
acked_queued m h (Sending (FinishedOwn id (Ok x))) before after q there k s = absurd k.2
acked_queued m h (Sending (ResetOwn id code (Ok x))) before after q there k s = absurd k.2
acked_queued m h (Sending (LostOwn id offsets fin (Ok x))) before after q there k s = absurd k.2
acked_queued m h (Sending (ResetAckedOwn id (Ok x))) before after q there k s = absurd k.2
acked_queued m h (Sending (TookTurn most fair (Some frame))) before after q there k s = absurd k.2
acked_queued m h _ before after q there k s = absurd k

-- and by the first stop that comes while a half is held its code is
stop_queued : (m : Made) (h : List Event) (e : Event) (before after : List StreamEvent) (q code : ℕ) → StopsBy (send_move_of e) (sides_told m h) q (behind_joint m h e q) code → QueuesSo m h e before after → ((flow m (e ∷ h) q).freed ≡ true) ⊎ IsOneOf (stream_event.Stopped q code) after
stop_queued m h (Sending (StoppedOwn id c (Ok x))) before after q code k s = by_test (flow m h q).freed refl
  where
    same_code : c ≡ code
    same_code = let e = k.3 in cc

    by_test : (b : Bool) → (flow m h q).freed ≡ b → ((flow m (Sending (StoppedOwn id c (Ok x)) ∷ h) q).freed ≡ true) ⊎ IsOneOf (stream_event.Stopped q code) after
    by_test true d = inl (after_keeps m h (Sending (StoppedOwn id c (Ok x))) q d)
    by_test false d =
        let told : ℕ → List StreamEvent = λ n. told_if (is_sent_on m h n && is_none (flow m h n).stopped) (stream_event.Stopped n c) in
        let sent : is_sent_on m h q ≡ true = both_so (sides_told m h q) (not (flow m h q).freed) k.1 (ap not d) in
        let here : IsOneOf (stream_event.Stopped q c) (told q) = told_there (stream_event.Stopped q c) (is_sent_on m h q && is_none (flow m h q).stopped) (both_so (is_sent_on m h q) (is_none (flow m h q).stopped) sent (ap is_none k.2)) in
        let there : IsOneOf (stream_event.Stopped q c) (told id) = subst (λ n. IsOneOf (stream_event.Stopped q c) (told n)) k.0 here in
        let P : ℕ → Type 0 = λ n. IsOneOf (stream_event.Stopped q n) after in
        inr (subst P same_code (subst (λ (es : List StreamEvent). IsOneOf (stream_event.Stopped q c) es) (sym s) (in_back (stream_event.Stopped q c) before (told id) there)))
stop_queued m h (Sending (RaisedLimit id limit (Ok x))) before after q code k s = let e = k.3 in cc
stop_queued m h (Sending (AckedOwn id offsets fin (Ok x))) before after q code k s = let e = k.3 in cc
stop_queued m h (Sending (WroteOwn id lists closed (Ok written))) before after q code k s = let e = k.3 in cc
stop_queued m h (Sending (FinishedOwn id (Ok x))) before after q code k s = let e = k.3 in cc
stop_queued m h (Sending (ResetOwn id c (Ok x))) before after q code k s = let e = k.3 in cc
stop_queued m h (Sending (LostOwn id offsets fin (Ok x))) before after q code k s = let e = k.3 in cc
stop_queued m h (Sending (ResetAckedOwn id (Ok x))) before after q code k s = let e = k.3 in cc
stop_queued m h (Sending (TookTurn most fair (Some frame))) before after q code k s = let e = k.3 in cc
stop_queued m h _ before after q code k s = absurd k

-- what is given up is known
known_code : (e : Event) (f : ℕ → Flow) → MayCall e f → (q code : ℕ) → GivesBy (send_move_of e) q code → IsOneOf code (f q).resets
known_code (Sending (ResetOwn id c (Ok x))) f may q code k =
    let gave = k.1 in
    let same : c ≡ code = cc in
    subst (λ n. IsOneOf code (f n).resets) (sym k.0) (subst (λ n. IsOneOf n (f id).resets) same may)
known_code (Sending (AckedOwn id offsets fin (Ok x))) f may q code k = let e = k.1 in cc
known_code (Sending (RaisedLimit id limit (Ok x))) f may q code k = let e = k.1 in cc
known_code (Sending (StoppedOwn id c (Ok x))) f may q code k = let e = k.1 in cc
known_code (Sending (WroteOwn id lists closed (Ok written))) f may q code k = let e = k.1 in cc
known_code (Sending (FinishedOwn id (Ok x))) f may q code k = let e = k.1 in cc
known_code (Sending (LostOwn id offsets fin (Ok x))) f may q code k = let e = k.1 in cc
known_code (Sending (ResetAckedOwn id (Ok x))) f may q code k = let e = k.1 in cc
known_code (Sending (TookTurn most fair (Some frame))) f may q code k = let e = k.1 in cc
known_code _ f may q code k = absurd k

-- ---- one call more

module _ (m : Made) (h : List Event) (w v : World) (f : ℕ → Flow) (e : Event) (may : MayCall e f) (fits : Fits h e) (k : NotifiedBy m h w f) (s : Step w e v) where
  queued_so : QueuesSo m h e w.events v.events
  queued_so = queues m h w k.from.side k.from.sent k.from.sends e v s

  still_told : (q : ℕ) → (flow m h q).freed ≡ true → IsGivenUp (f q) ⊎ (((f q).complete ≡ true) ⊎ IsOneOf (stream_event.Finished q) v.events)
  still_told q d = elim (k.tells.told q d) [
    | inl given ↦ inl given
    | inr other ↦ elim other [ inl told ↦ inr (inl told) | inr there ↦ inr (stays_queued m h e f w.events v.events may queued_so (stream_event.Finished q) there) ]
  ]

  told_then : (q : ℕ) → (c : Bool) → (flow m h q).freed ≡ c → MovesBy (send_move_of e) (sides_told m h) q (behind_joint m h e q) → IsGivenUp (f q) ⊎ (((f q).complete ≡ true) ⊎ IsOneOf (stream_event.Finished q) v.events)
  told_then q true d by = still_told q d
  told_then q false d by = inr (inr (acked_queued m h e w.events v.events q d by queued_so))

  stops_then : (q code : ℕ) → (flow m (e ∷ h) q).stopped ≡ Some code → ((flow m (e ∷ h) q).freed ≡ true) ⊎ (IsOneOf code (f q).told_stops ⊎ IsOneOf (stream_event.Stopped q code) v.events)
  stops_then q code d = elim (stops_so m h e q code d) [
    | inl old ↦ elim (k.tells.stops q code old.0) [
      | inl freed ↦ inl (old.1 freed)
      | inr other ↦ elim other [ inl told ↦ inr (inl told) | inr there ↦ inr (stays_queued m h e f w.events v.events may queued_so (stream_event.Stopped q code) there) ]
    ]
    | inr by ↦ elim (stop_queued m h e w.events v.events q code by queued_so) [ inl freed ↦ inl freed | inr there ↦ inr (inr there) ]
  ]

  pub notified-call : NotifiedBy m (e ∷ h) v f
  notified-call = record {
    from = next m h w e v fits k.from s;
    tells = record {
      resets = λ q code d. elim (gives m h e q code d) [ inl old ↦ k.tells.resets q code old | inr by ↦ known_code e f may q code by ];
      told = λ q d. elim (frees m h e q d) [
        | inl old ↦ still_told q old
        | inr other ↦ elim other [ inl code ↦ inl (code.0, k.tells.resets q code.0 code.1) | inr by ↦ told_then q (flow m h q).freed refl by ]
      ];
      stops = stops_then;
    };
  }

pub notified-one : (w v : World) (f : ℕ → Flow) (e : Event) → MayCall e f → ((h : List Event) → Fits h e) → Notified w f → Step w e v → Notified v f
notified-one w v f e may fits k s = record { made = k.made; calls = e ∷ k.calls; by = notified-call k.made k.calls w v f e may (fits k.calls) k.by s }

-- ---- the same end

pub notified-at : (w v : World) (f : ℕ → Flow) → v ≡ w → Notified w f → Notified v f
notified-at w v f e k = let P : World → Type 0 = λ u. Notified u f in subst P (sym e) k

pub notified-by : {m : Made} {h : List Event} {w : World} (f : ℕ → Flow) → NotifiedBy m h w f → Notified w f
notified-by {m} {h} f k = record { made = m; calls = h; by = k }

-- what is known of flows only grows
pub record KnowsMore (f g : ℕ → Flow) : Type 0 where
  pub resets : (q code : ℕ) → IsOneOf code (f q).resets → IsOneOf code (g q).resets
  pub complete : (q : ℕ) → (f q).complete ≡ true → (g q).complete ≡ true
  pub stops : (q code : ℕ) → IsOneOf code (f q).told_stops → IsOneOf code (g q).told_stops

pub notified-more : (w : World) (f g : ℕ → Flow) → KnowsMore f g → Notified w f → Notified w g
notified-more w f g more k = record {
  made = k.made;
  calls = k.calls;
  by = record {
    from = k.by.from;
    tells = record {
      resets = λ q code d. more.resets q code (k.by.tells.resets q code d);
      told = λ q d. elim (k.by.tells.told q d) [
        | inl given ↦ inl (given.0, more.resets q given.0 given.1)
        | inr other ↦ elim other [ inl told ↦ inr (inl (more.complete q told)) | inr there ↦ inr (inr there) ]
      ];
      stops = λ q code d. elim (k.by.tells.stops q code d) [
        | inl freed ↦ inl freed
        | inr other ↦ elim other [ inl told ↦ inr (inl (more.stops q code told)) | inr there ↦ inr (inr there) ]
      ];
    };
  };
}

-- ---- turns of the send queue, which tell nothing of it

module _ (m : Made) (f : ℕ → Flow) (events : List StreamEvent) (most : ℕ) (fair : Bool) where
  no_code : (t : Option StreamMeta) (q code : ℕ) → GivesBy (send_move_of (Sending (TookTurn most fair t))) q code → ⊥
  no_code None q code k = k
  no_code (Some frame) q code k = let e = k.1 in cc

  no_end : (t : Option StreamMeta) (there : ℕ → Bool) (q : ℕ) (g : SendFlow) → MovesBy (send_move_of (Sending (TookTurn most fair t))) there q g → ⊥
  no_end None there q g k = k
  no_end (Some frame) there q g k = k.2

  no_stop : (t : Option StreamMeta) (there : ℕ → Bool) (q : ℕ) (g : SendFlow) (code : ℕ) → StopsBy (send_move_of (Sending (TookTurn most fair t))) there q g code → ⊥
  no_stop None there q g code k = k
  no_stop (Some frame) there q g code k = let e = k.3 in cc

  turn_tells : (h : List Event) (t : Option StreamMeta) → TellsOf m h events f → TellsOf m (Sending (TookTurn most fair t) ∷ h) events f
  turn_tells h t k =
      let e = Sending (TookTurn most fair t) in
      record {
        resets = λ q code d. elim (gives m h e q code d) [ inl old ↦ k.resets q code old | inr by ↦ absurd (no_code t q code by) ];
        told = λ q d. elim (frees m h e q d) [
          | inl old ↦ k.told q old
          | inr other ↦ elim other [ inl code ↦ inl (code.0, k.resets q code.0 code.1) | inr by ↦ absurd (no_end t (sides_told m h) q (behind_joint m h e q) by) ]
        ];
        stops = λ q code d. elim (stops_so m h e q code d) [
          | inl old ↦ elim (k.stops q code old.0) [ inl freed ↦ inl (old.1 freed) | inr other ↦ inr other ]
          | inr by ↦ absurd (no_stop t (sides_told m h) q (behind_joint m h e q) code by)
        ];
      }

  pub turns-tell : (ts : List (Option StreamMeta)) (h : List Event) → TellsOf m h events f → TellsOf m (with_turns most fair ts h) events f
  turns-tell [] h k = k
  turns-tell (t ∷ ts) h k = turns-tell ts (Sending (TookTurn most fair t) ∷ h) (turn_tells h t k)
