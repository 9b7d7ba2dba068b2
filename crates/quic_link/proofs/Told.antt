-- What the application of an end is told is true of the other end.
use Rattle.std.proofs.Common.{◌≡◌, ◌⊎◌, ℕ, Bool, true, false, List, [], ◌∷◌, Option, Some, None, Ok, Err, refl, sym, ap, ◌∙◌, subst, inl, inr, arith}
use Rattle.std.specs.Prelude.{◌++◌, ◌&&◌, not, is_none, nat_le}
use Rattle.quic_wire.specs.declared.event.StreamEvent.{StreamEvent}
use Rattle.quic_wire.specs.declared.event.StreamEvent.TheVariants as stream_event
use Rattle.quic_wire.specs.declared.frame.Frame.TheVariants as frames
use Rattle.quic_flows.specs.Flow.{WasAcked, SendFlow, with_acked, counts_for, is_whole, freed_if_whole}
use Rattle.quic_history.specs.World.{World}
use Rattle.quic_history.specs.Flows.{has_send_side, send_moved, told_if, ends_by, TakesQueued}
use Rattle.quic_history.specs.SendEvents.{RaisedCount, RaisedLimit, StoppedOwn, AckedOwn, Polled, GaveLimits}
use Rattle.quic_history.specs.History.{Event, Received, ReceivedReset, Sending, opened_in_all, send_tale, told_by, QueuesSo, is_sent_on, since, told_of_limits, opened_ids}
use Rattle.quic_history.proofs.ToldEvents.{queues}
use Rattle.quic_history.proofs.Traces.{itself}
use Rattle.quic_link.specs.Endpoints.{LinkedEnd, IsOneOf, MayAct, acted, sent_on}
use Rattle.quic_link.specs.Promises.{IsTrueEvent, CameWhole}
use Rattle.quic_link.proofs.Ends.{Comes, plain-call}
use Rattle.quic_link.proofs.Growth.{grows}
use Rattle.quic_link.proofs.TrueFrames.{AllTrue, amount-stays}
use Rattle.quic_link.proofs.Acks.{AckedSo, acked-sent}
use Rattle.quic_link.proofs.Basics.{both, either-of, ended_closed, or_right}
use Rattle.quic_outgoing.specs.declared.limits.PeerLimits.{PeerLimits}

abbrev pub AllToldTrue : LinkedEnd → LinkedEnd → Type 0
AllToldTrue x y = (g : StreamEvent) → IsOneOf g x.world.events → IsTrueEvent x y g

-- ---- what was true stays so

event_first : (x y : LinkedEnd) (e : Event) (v : World) → Comes x → MayAct x y e v → (g : StreamEvent) → IsTrueEvent x y g → IsTrueEvent (acted x e v) y g
event_first x y e v f a (stream_event.Finished id) t =
    let grown = grows x.made x.calls x.world v f.from e (plain-call x y e a.honest) a.step id in
    let same = amount-stays x y e v f a id (ended_closed (sent_on x id).reset (sent_on x id).finished t.finished) in
    record { finished = grown.finished t.finished; bytes = λ at l. t.bytes at (omega arith); end = t.end }
event_first x y e v f a (stream_event.Stopped id code) t = t
event_first x y e v f a (stream_event.Opened d) t = tt
event_first x y e v f a (stream_event.Readable id) t = tt
event_first x y e v f a (stream_event.Writable id) t = tt
event_first x y e v f a (stream_event.Available d) t = tt

event_second : (x y : LinkedEnd) (e : Event) (v : World) (g : StreamEvent) → IsTrueEvent x y g → IsTrueEvent x (acted y e v) g
event_second x y e v (stream_event.Finished id) t =
    let c = t.end in
    record {
      finished = t.finished;
      bytes = λ at l. let b = t.bytes at l in record { offset = b.offset; bytes = b.bytes; fin = b.fin; transmit = b.transmit; is = inr b.is; has = b.has };
      end = record { offset = c.offset; bytes = c.bytes; transmit = c.transmit; is = inr c.is };
    }
event_second x y e v (stream_event.Stopped id code) t = inr t
event_second x y e v (stream_event.Opened d) t = tt
event_second x y e v (stream_event.Readable id) t = tt
event_second x y e v (stream_event.Writable id) t = tt
event_second x y e v (stream_event.Available d) t = tt

-- ---- what is told now

event_at : (x y : LinkedEnd) (g k : StreamEvent) → g ≡ k → IsTrueEvent x y k → IsTrueEvent x y g
event_at x y g k e t = let P : StreamEvent → Type 0 = λ j. IsTrueEvent x y j in subst P (sym e) t

only_if : (b : Bool) (g k : StreamEvent) → IsOneOf g (told_if b k) → (b ≡ true) × (g ≡ k)
only_if true g k (inl e) = (refl, e)
only_if true g k (inr h) = absurd h
only_if false g k h = absurd h

none_of : (r : Option ℕ) → is_none r ≡ true → r ≡ None
none_of None e = refl
none_of (Some code) e = cc

-- a stream of which all is acknowledged came
whole_came : (x y : LinkedEnd) (id first behind : ℕ) (fin : Bool) (t t' : SendFlow) → counts_for t.reset t.sent_up_to behind ≡ true → is_whole (with_acked first behind fin t) ≡ true → t' ≡ freed_if_whole (with_acked first behind fin t)
    → sent_on x id ≡ t' → AckedSo (sent_on x id) y.calls id → CameWhole x y id
whole_came x y id first behind fin t t' c w e k s =
    let at : sent_on x id ≡ freed_if_whole (with_acked first behind fin t) = k ∙ e in
    let freed : (sent_on x id).freed ≡ true = ap (λ (f : SendFlow). f.freed) at ∙ or_right t.freed (is_whole (with_acked first behind fin t)) w in
    let reset : (sent_on x id).reset ≡ None = ap (λ (f : SendFlow). f.reset) at ∙ none_of t.reset (both (is_none t.reset) (nat_le behind t.sent_up_to) c).0 in
    let all = s.whole freed reset in
    record { finished = all.finished; bytes = λ n l. s.came n (all.all n l); end = s.end_came all.end_acked }

acked_flow : (id first behind : ℕ) (fin : Bool) (there : ℕ → Bool) (t : SendFlow) → there id ≡ true → counts_for t.reset t.sent_up_to behind ≡ true
    → send_moved (Some (id, WasAcked first behind fin)) there id t ≡ freed_if_whole (with_acked first behind fin t)
acked_flow id first behind fin there t k c = rw (itself id, k, c) refl

module _ (x y : LinkedEnd) (f : Comes x) (t : AllTrue y) (s : (q : ℕ) → AckedSo (sent_on x q) y.calls q) where
  -- limits tell of streams that may be written on alone
  limits_told : (limits : PeerLimits) (ids : List ℕ) (z : LinkedEnd) (g : StreamEvent) → IsOneOf g (told_of_limits x.made x.calls limits ids) → IsTrueEvent z y g
  limits_told limits [] z g h = absurd h
  limits_told limits (id ∷ ids) z g h = elim (either-of g (told_if _ (stream_event.Writable id)) (told_of_limits x.made x.calls limits ids) h) [
    | inl now ↦ (let k = only_if _ g (stream_event.Writable id) now in event_at z y g (stream_event.Writable id) k.1 tt)
    | inr others ↦ limits_told limits ids z g others
  ]

  new_told : (e : Event) (v : World) → MayAct x y e v → (g : StreamEvent) → IsOneOf g (told_by x.made x.calls e) → IsTrueEvent (acted x e v) y g
  new_told (Sending (GaveLimits limits (Ok u))) v a g h = limits_told limits (opened_ids x.made.side (since x.calls)) (acted x (Sending (GaveLimits limits (Ok u))) v) g h
  new_told (Sending (RaisedCount dir count (Ok u))) v a g h = let k = only_if _ g (stream_event.Available dir) h in event_at _ y g (stream_event.Available dir) k.1 tt
  new_told (Sending (RaisedCount dir count (Err error))) v a g h = absurd h
  new_told (Sending (StoppedOwn id code (Ok u))) v a g h =
      let k = only_if _ g (stream_event.Stopped id code) h in
      event_at (acted x (Sending (StoppedOwn id code (Ok u))) v) y g (stream_event.Stopped id code) k.1 (t (frames.StopSending (record { id = id; error_code = code })) a.honest)
  new_told (Sending (StoppedOwn id code (Err error))) v a g h = absurd h
  new_told (Sending (RaisedLimit id limit (Ok u))) v a g h = let k = only_if _ g (stream_event.Writable id) h in event_at _ y g (stream_event.Writable id) k.1 tt
  new_told (Sending (RaisedLimit id limit (Err error))) v a g h = absurd h
  new_told (Sending (AckedOwn id offsets fin (Ok u))) v a g h =
      let e = Sending (AckedOwn id offsets fin (Ok u)) in
      let there : ℕ → Bool = has_send_side x.made.side (opened_in_all (since x.calls)) (send_tale x.made x.calls).may_open in
      let k = only_if (is_sent_on x.made x.calls id && ends_by offsets.start offsets.end fin (sent_on x id)) g (stream_event.Finished id) h in
      let parts = both (is_sent_on x.made x.calls id) (ends_by offsets.start offsets.end fin (sent_on x id)) k.0 in
      let open_now = both (there id) (not (sent_on x id).freed) parts.0 in
      let counts = both (counts_for (sent_on x id).reset (sent_on x id).sent_up_to offsets.end) (is_whole (with_acked offsets.start offsets.end fin (sent_on x id))) parts.1 in
      event_at (acted x e v) y g (stream_event.Finished id) k.1
      (whole_came (acted x e v) y id offsets.start offsets.end fin (sent_on x id) (sent_on (acted x e v) id) counts.0 counts.1
      (acked_flow id offsets.start offsets.end fin there (sent_on x id) open_now.0 counts.0) refl (acked-sent x y e v f t a s id))
  new_told (Sending (AckedOwn id offsets fin (Err error))) v a g h = absurd h
  new_told _ v a g h = absurd h

-- what was taken is told no more
left_of : (before after : List StreamEvent) (k g : StreamEvent) → before ≡ k ∷ after → IsOneOf g after → IsOneOf g before
left_of before after k g e h = let P : List StreamEvent → Type 0 = λ es. IsOneOf g es in subst P (sym e) (inr h)

same_of : (before after : List StreamEvent) (g : StreamEvent) → after ≡ before → IsOneOf g after → IsOneOf g before
same_of before after g e h = let P : List StreamEvent → Type 0 = λ es. IsOneOf g es in subst P e h

taken_of : (before after : List StreamEvent) (answer : Option StreamEvent) (g : StreamEvent) → TakesQueued before answer after → IsOneOf g after → IsOneOf g before
taken_of before after None g t h = same_of before after g (t.1 ∙ sym t.0) h
taken_of before after (Some (stream_event.Opened d)) g t h = elim t [ inl e ↦ same_of before after g e h | inr e ↦ left_of before after (stream_event.Opened d) g e h ]
taken_of before after (Some (stream_event.Writable id)) g t h = elim t [ inl e ↦ same_of before after g e h | inr e ↦ left_of before after (stream_event.Writable id) g e h ]
taken_of before after (Some (stream_event.Readable id)) g t h = left_of before after (stream_event.Readable id) g t h
taken_of before after (Some (stream_event.Finished id)) g t h = left_of before after (stream_event.Finished id) g t h
taken_of before after (Some (stream_event.Stopped id code)) g t h = left_of before after (stream_event.Stopped id code) g t h
taken_of before after (Some (stream_event.Available d)) g t h = left_of before after (stream_event.Available d) g t h

-- what is told next is true
pub told-polled : (x y : LinkedEnd) (before after : List StreamEvent) (g : StreamEvent) → TakesQueued before (Some g) after → ((k : StreamEvent) → IsOneOf k before → IsTrueEvent x y k) → IsTrueEvent x y g
told-polled x y before after (stream_event.Finished id) e all = let P : List StreamEvent → Type 0 = λ es. IsOneOf (stream_event.Finished id) es in all (stream_event.Finished id) (subst P (sym e) (inl refl))
told-polled x y before after (stream_event.Stopped id code) e all = let P : List StreamEvent → Type 0 = λ es. IsOneOf (stream_event.Stopped id code) es in all (stream_event.Stopped id code) (subst P (sym e) (inl refl))
told-polled x y before after (stream_event.Opened d) e all = tt
told-polled x y before after (stream_event.Readable id) e all = tt
told-polled x y before after (stream_event.Writable id) e all = tt
told-polled x y before after (stream_event.Available d) e all = tt

module _ (x y : LinkedEnd) (e : Event) (v : World) (f : Comes x) (t : AllTrue y) (a : MayAct x y e v) (s : (q : ℕ) → AckedSo (sent_on x q) y.calls q) (old : AllToldTrue x y) where
  more_told : v.events ≡ x.world.events ++ told_by x.made x.calls e → AllToldTrue (acted x e v) y
  more_told k g h =
      let P : List StreamEvent → Type 0 = λ es. IsOneOf g es in
      elim (either-of g x.world.events (told_by x.made x.calls e) (subst P k h)) [
        | inl b ↦ event_first x y e v f a g (old g b)
        | inr n ↦ new_told x y f t s e v a g n
      ]

  fewer_told : ((g : StreamEvent) → IsOneOf g v.events → IsOneOf g x.world.events) → AllToldTrue (acted x e v) y
  fewer_told k g h = event_first x y e v f a g (old g (k g h))

  readable_told : (id : ℕ) → (v.events ≡ x.world.events) ⊎ (v.events ≡ x.world.events ++ stream_event.Readable id ∷ []) → AllToldTrue (acted x e v) y
  readable_told id (inl k) g h = event_first x y e v f a g (old g (same_of x.world.events v.events g k h))
  readable_told id (inr k) g h =
      let P : List StreamEvent → Type 0 = λ es. IsOneOf g es in
      elim (either-of g x.world.events (stream_event.Readable id ∷ []) (subst P k h)) [
        | inl b ↦ event_first x y e v f a g (old g b)
        | inr n ↦ elim n [ inl i ↦ event_at (acted x e v) y g (stream_event.Readable id) i tt | inr i ↦ absurd i ]
      ]

by_queues : (x y : LinkedEnd) (e : Event) (v : World) → Comes x → AllTrue y → MayAct x y e v → ((q : ℕ) → AckedSo (sent_on x q) y.calls q) → AllToldTrue x y → QueuesSo x.made x.calls e x.world.events v.events → AllToldTrue (acted x e v) y
by_queues x y (Sending (Polled answer)) v f t a s old k = fewer_told x y (Sending (Polled answer)) v f t a s old (λ g h. taken_of x.world.events v.events answer g k h)
by_queues x y (Received id offset bytes fin (Ok transmit)) v f t a s old k = readable_told x y (Received id offset bytes fin (Ok transmit)) v f t a s old id k
by_queues x y (ReceivedReset id code final (Ok transmit)) v f t a s old k = readable_told x y (ReceivedReset id code final (Ok transmit)) v f t a s old id k
by_queues x y e v f t a s old k = more_told x y e v f t a s old k

pub told-first : (x y : LinkedEnd) (e : Event) (v : World) → Comes x → AllTrue y → MayAct x y e v → ((q : ℕ) → AckedSo (sent_on x q) y.calls q) → AllToldTrue x y → AllToldTrue (acted x e v) y
told-first x y e v f t a s old = by_queues x y e v f t a s old (queues x.made x.calls x.world f.side f.from.sent f.sends e v a.step)

pub told-second : (x y : LinkedEnd) (e : Event) (v : World) → AllToldTrue x y → AllToldTrue x (acted y e v)
told-second x y e v old g h = event_second x y e v g (old g h)
