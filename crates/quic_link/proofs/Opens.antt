-- Each frame that an end wrote is on a stream that is open, and no end counts on more streams than it may.
use Rattle.std.proofs.Common.{◌≡◌, ℕ, Bool, true, false, List, ◌∷◌, Option, Some, None, refl, sym, ap, ◌∙◌, subst, arith, ◌≤◌, ◌<◌}
use Rattle.std.specs.Prelude.{not, nat_lt, if◌then◌else◌}
use Rattle.std.specs.Option.{option_map}
use Rattle.quic_values.specs.declared.ids.Side.{Side}
use Rattle.quic_values.specs.declared.ids.Side.TheVariants.{Client, Server}
use Rattle.quic_values.specs.declared.ids.Dir.{Dir}
use Rattle.quic_values.specs.declared.ids.Dir.TheVariants.{Bi, Uni}
use Rattle.quic_values.specs.Ids.{other_side, initiator_of, dir_of, index_of}
use Rattle.quic_wire.specs.declared.frame.Frame.{Frame}
use Rattle.quic_wire.specs.declared.frame.Frame.TheVariants as frames
use Rattle.quic_wire.specs.declared.frame.StreamMeta.{StreamMeta}
use Rattle.quic_queue.specs.SendOrder.{SendOrder, line}
use Rattle.quic_sending.specs.declared.send.Send.{Send}
use Rattle.quic_receiving.specs.Half.{Half}
use Rattle.quic_retransmits.specs.Pending.{Pending}
use Rattle.quic_outgoing.specs.Outgoing.{own_of}
use Rattle.quic_outgoing.specs.Senders.{is_local, are_one_end}
use Rattle.quic_writing.specs.Appended.{frame_with}
use Rattle.quic_history.specs.World.{World, start, is_own, is_same_side, remote_of, id_refusal, own_refusal}
use Rattle.quic_history.specs.Flows.{stands, has_side_in, is_answered_on}
use Rattle.quic_history.specs.Carrying.{CarriesFrame}
use Rattle.quic_history.specs.declared.control.ControlKind.{ControlKind}
use Rattle.quic_history.specs.declared.control.ControlKind.TheVariants as kinds
use Rattle.quic_history.specs.Control.{SettlesEntry, reset_frame, window_frame, announced_end}
use Rattle.quic_history.specs.SendEvents.{TookTurn}
use Rattle.quic_history.specs.History.{Event, LeftPending, Sending, trace, opened_in_all, greatest_count}
use Rattle.quic_history.proofs.SendSides.{held-side}
use Rattle.quic_history.proofs.StreamSteps.{known-from}
use Rattle.quic_link.specs.Endpoints.{LinkedEnd, IsOneOf, MayAct, acted, written_by, written_on, WasAskedFor, WasGiven}
use Rattle.quic_link.proofs.Ends.{Comes}
use Rattle.quic_link.proofs.TrueFrames.{turn-so}
use Rattle.quic_link.proofs.Meets.{nexts, next_of_dir}
use Rattle.quic_link.proofs.Queues.{first-stands}
use Rattle.quic_link.proofs.Basics.{only, permits_now, some_same}

-- ---- whose a stream is

same_ends : (a b : Side) → is_same_side a b ≡ are_one_end a b
same_ends Client Client = refl
same_ends Client Server = refl
same_ends Server Client = refl
same_ends Server Server = refl

pub own-local : (w : World) (s : Side) (id : ℕ) → w.out.side ≡ s → is_own w id ≡ is_local s id
own-local w s id e = ap (λ k. is_same_side k (initiator_of id)) e ∙ same_ends s (initiator_of id)

other_ends : (a b : Side) → are_one_end (other_side a) b ≡ not (are_one_end a b)
other_ends Client Client = refl
other_ends Client Server = refl
other_ends Server Client = refl
other_ends Server Server = refl

pub local-other : (a b : Side) (id : ℕ) → b ≡ other_side a → is_local b id ≡ not (is_local a id)
local-other a b id e = ap (λ k. is_local k id) e ∙ other_ends a (initiator_of id)

-- ---- streams that are open

-- the end that opens it did
abbrev pub OpenBy : Bool → (Dir → ℕ) → (Dir → ℕ) → ℕ → Type 0
OpenBy own mine theirs id = index_of id < (if own then mine (dir_of id) else theirs (dir_of id))

abbrev pub IsOpenAt : LinkedEnd → LinkedEnd → ℕ → Type 0
IsOpenAt x y id = OpenBy (is_local x.made.side id) (opened_in_all x.calls) (opened_in_all y.calls) id

-- and the end sends on it
pub record SendsOn (x y : LinkedEnd) (id : ℕ) : Type 0 where
  pub opened : IsOpenAt x y id
  pub both_ways : is_local x.made.side id ≡ false → dir_of id ≡ Bi

-- or receives on it
pub record ReceivesOn (x y : LinkedEnd) (id : ℕ) : Type 0 where
  pub opened : IsOpenAt x y id
  pub both_ways : is_local x.made.side id ≡ true → dir_of id ≡ Bi

abbrev pub OpenFrame : LinkedEnd → LinkedEnd → Frame → Type 0
OpenFrame x y (frames.Stream s) = SendsOn x y s.id
OpenFrame x y (frames.ResetStream f) = SendsOn x y f.id
OpenFrame x y (frames.MaxStreamData id limit) = ReceivesOn x y id
OpenFrame x y (frames.StopSending f) = IsOpenAt x y f.id
OpenFrame x y _ = Unit {0}

pub record IdsSo (x y : LinkedEnd) : Type 0 where
  pub frames_open : (g : Frame) → IsOneOf g x.wrote → OpenFrame x y g
  pub queue : (q : ℕ) → stands q (line x.world.queue) ≡ true → IsOpenAt x y q
  pub met : (d : Dir) → next_of_dir (nexts x.world) d ≤ opened_in_all y.calls d
  pub counts : (d : Dir) → greatest_count x.calls d ≤ (remote_of y.world d).max_remote
  pub base : (d : Dir) → (remote_of (start x.made) d).max_remote ≤ (remote_of x.world d).max_remote

-- more streams are opened
open_more : (own : Bool) (a b c d : Dir → ℕ) (id : ℕ) → ((k : Dir) → a k ≤ c k) → ((k : Dir) → b k ≤ d k) → OpenBy own a b id → OpenBy own c d id
open_more true a b c d id l m o = let k = l (dir_of id) in omega arith
open_more false a b c d id l m o = let k = m (dir_of id) in omega arith

pub opened_grows : (h : List Event) (e : Event) (d : Dir) → opened_in_all h d ≤ opened_in_all (e ∷ h) d
opened_grows h e d = omega arith

most_same : (f : Dir → ℕ) (d : Dir) → f d ≤ f d
most_same f d = omega arith

pub open_first : (x y : LinkedEnd) (e : Event) (v : World) (id : ℕ) → IsOpenAt x y id → IsOpenAt (acted x e v) y id
open_first x y e v id o = open_more (is_local x.made.side id) (opened_in_all x.calls) (opened_in_all y.calls) (opened_in_all (e ∷ x.calls)) (opened_in_all y.calls) id (opened_grows x.calls e) (most_same (opened_in_all y.calls)) o

pub open_second : (x y : LinkedEnd) (e : Event) (v : World) (id : ℕ) → IsOpenAt x y id → IsOpenAt x (acted y e v) id
open_second x y e v id o = open_more (is_local x.made.side id) (opened_in_all x.calls) (opened_in_all y.calls) (opened_in_all x.calls) (opened_in_all (e ∷ y.calls)) id (most_same (opened_in_all x.calls)) (opened_grows y.calls e) o

-- a stream that is open is open at the other end
open_turned : (own other : Bool) (a b : Dir → ℕ) (id : ℕ) → other ≡ not own → OpenBy own a b id → OpenBy other b a id
open_turned true other a b id e o = rw e o
open_turned false other a b id e o = rw e o

pub open-turned : (x y : LinkedEnd) (id : ℕ) → y.made.side ≡ other_side x.made.side → IsOpenAt x y id → IsOpenAt y x id
open-turned x y id e o = open_turned (is_local x.made.side id) (is_local y.made.side id) (opened_in_all x.calls) (opened_in_all y.calls) id (local-other x.made.side y.made.side id e) o

pub frame_first : (x y : LinkedEnd) (e : Event) (v : World) (g : Frame) → OpenFrame x y g → OpenFrame (acted x e v) y g
frame_first x y e v (frames.Stream s) o = record { opened = open_first x y e v s.id o.opened; both_ways = o.both_ways }
frame_first x y e v (frames.ResetStream f) o = record { opened = open_first x y e v f.id o.opened; both_ways = o.both_ways }
frame_first x y e v (frames.MaxStreamData id limit) o = record { opened = open_first x y e v id o.opened; both_ways = o.both_ways }
frame_first x y e v (frames.StopSending f) o = open_first x y e v f.id o
frame_first x y e v _ o = tt

pub frame_second : (x y : LinkedEnd) (e : Event) (v : World) (g : Frame) → OpenFrame x y g → OpenFrame x (acted y e v) g
frame_second x y e v (frames.Stream s) o = record { opened = open_second x y e v s.id o.opened; both_ways = o.both_ways }
frame_second x y e v (frames.ResetStream f) o = record { opened = open_second x y e v f.id o.opened; both_ways = o.both_ways }
frame_second x y e v (frames.MaxStreamData id limit) o = record { opened = open_second x y e v id o.opened; both_ways = o.both_ways }
frame_second x y e v (frames.StopSending f) o = open_second x y e v f.id o
frame_second x y e v _ o = tt

-- ---- what an end was given, and what it sends or receives on

pub opened-is : (x : LinkedEnd) (d : Dir) → Comes x → (own_of x.world.out d).opened ≡ opened_in_all x.calls d
opened-is x Bi f = f.sent.opened Bi
opened-is x Uni f = f.sent.opened Uni

next_is : (w : World) (d : Dir) → (remote_of w d).next_remote ≡ next_of_dir (nexts w) d
next_is w Bi = refl
next_is w Uni = refl

given_by : (own : Bool) (i mine told : ℕ) (a b : ℕ) → mine ≡ a → told ≤ b → i < (if own then mine else told) → i < (if own then a else b)
given_by true i mine told a b e l k = omega arith
given_by false i mine told a b e l k = omega arith

module _ (x y : LinkedEnd) (f : Comes x) (s : IdsSo x y) where
  -- an id that was given is of a stream that is open
  pub given-open : (id : ℕ) → WasGiven x.world id → IsOpenAt x y id
  given-open id k =
      let d : Dir = dir_of id in
      let r = permits_now x.made x.calls x.world f.from.run f.remotes d in
      let accepted = r.accepted in
      let met = s.met d in
      let same = next_is x.world d in
      let own = own-local x.world x.made.side id f.side in
      let P : Bool → Type 0 = λ b. index_of id < (if b then (own_of x.world.out d).opened else (remote_of x.world d).next_reported) in
      given_by (is_local x.made.side id) (index_of id) (own_of x.world.out d).opened (remote_of x.world d).next_reported (opened_in_all x.calls d) (opened_in_all y.calls d)
      (opened-is x d f) (omega arith) (subst P own k)

  answered_bi : (d : Dir) (n i : ℕ) → is_answered_on d n i ≡ true → d ≡ Bi
  answered_bi Bi n i k = refl
  answered_bi Uni n i k = cc

  side_bi : (own : Bool) (d : Dir) (a n i : ℕ) → (if own then nat_lt i a else is_answered_on d n i) ≡ true → own ≡ false → d ≡ Bi
  side_bi true d a n i k e = cc
  side_bi false d a n i k e = answered_bi d n i k

  -- an end sends only on its own streams and on those that go both ways
  pub held-both : (id : ℕ) (h : Send) → x.world.out.halves id ≡ Some h → is_local x.made.side id ≡ false → dir_of id ≡ Bi
  held-both id h e k =
      let there = held-side _ _ (has_side_in x.world.out x.world.bi.max_remote id) h (x.world.out.halves id) e (f.sends.flows id) in
      side_bi (is_local x.world.out.side id) (dir_of id) _ x.world.bi.max_remote (index_of id) there (ap (λ c. is_local c id) f.side ∙ k)

  own_bi : (own : Bool) (d : Dir) (i : ℕ) (o : Option ℕ) → (if own then own_refusal x.world d i else o) ≡ None → own ≡ true → d ≡ Bi
  own_bi true Bi i o k e = refl
  own_bi true Uni i o k e = cc
  own_bi false d i o k e = cc

  -- and receives only on the other's and on those
  pub came-both : (id : ℕ) (h : Half) → x.world.receive id ≡ Some h → is_local x.made.side id ≡ true → dir_of id ≡ Bi
  came-both id h e k =
      let known : id_refusal x.world id ≡ None = known-from (trace x.calls) x.world id h f.facts.streams e in
      own_bi (is_own x.world id) (dir_of id) (index_of id) _ known (own-local x.world x.made.side id f.side ∙ k)

-- ---- new frames

abbrev OpenThen : LinkedEnd → LinkedEnd → Frame → Type 0
OpenThen x y g = WasAskedFor x g → OpenFrame x y g

open_at : (x y : LinkedEnd) (g k : Frame) → g ≡ k → OpenThen x y k → OpenThen x y g
open_at x y g k e t = let P : Frame → Type 0 = λ j. OpenThen x y j in subst P (sym e) t

module _ (x y : LinkedEnd) (f : Comes x) (s : IdsSo x y) where
  reset_open : (id code : ℕ) (o : Option Send) (g : Frame) → x.world.out.halves id ≡ o → Some g ≡ reset_frame id code o → OpenThen x y g
  reset_open id code None g e k = cc
  reset_open id code (Some h) g e k = open_at x y g (frames.ResetStream (record { id = id; error_code = code; final_offset = h.pending.offset })) (some_same g _ k)
      (λ asked. record { opened = given-open x y f s id asked.1; both_ways = held-both x y f s id h e })

  window_open : (window id : ℕ) (o : Option Half) (g : Frame) → x.world.receive id ≡ o → Some g ≡ window_frame window id o → OpenThen x y g
  window_open window id None g e k = cc
  window_open window id (Some h) g e k = by_limit (announced_end window (Some h)) k
    where
      by_limit : (l : Option ℕ) → Some g ≡ option_map (frames.MaxStreamData id) l → OpenThen x y g
      by_limit None k = cc
      by_limit (Some limit) k = open_at x y g (frames.MaxStreamData id limit) (some_same g _ k) (λ asked. record { opened = given-open x y f s id asked; both_ways = came-both x y f s id h e })

  blocked_open : (id : ℕ) (o : Option ℕ) (g : Frame) → Some g ≡ option_map (frames.StreamDataBlocked id) o → OpenThen x y g
  blocked_open id None g k = cc
  blocked_open id (Some limit) g k = open_at x y g (frames.StreamDataBlocked id limit) (some_same g _ k) (λ asked. tt)

  data_blocked_open : (b : Bool) (n : ℕ) (g : Frame) → Some g ≡ (if b then Some (frames.DataBlocked n) else None) → OpenThen x y g
  data_blocked_open true n g k = open_at x y g (frames.DataBlocked n) (some_same g _ k) (λ asked. tt)
  data_blocked_open false n g k = cc

  settled_open : (kind : ControlKind) (p q : Pending) (g : Frame) (v : World) → SettlesEntry kind x.world p (Some g) v q → OpenThen x y g
  settled_open kinds.ResetStream p q g v t = reset_open t.id t.code (x.world.out.halves t.id) g refl t.frame
  settled_open kinds.StopSending p q g v t = open_at x y g (frames.StopSending t.stop) (some_same g _ t.frame) (λ asked. given-open x y f s t.stop.id asked.1)
  settled_open kinds.MaxData p q g v t = open_at x y g _ (some_same g _ t.frame) (λ asked. tt)
  settled_open kinds.MaxStreamData p q g v t = window_open x.world.window t.id (x.world.receive t.id) g refl t.frame
  settled_open (kinds.MaxStreams d) p q g v t = open_at x y g _ (some_same g _ t.frame) (λ asked. tt)
  settled_open kinds.DataBlocked p q g v t = data_blocked_open _ _ g t.frame
  settled_open kinds.StreamDataBlocked p q g v t = blocked_open t.id _ g t.frame

  turn_open : (most : ℕ) (fair : Bool) (meta : StreamMeta) (v : World) → CarriesFrame most fair x.world meta v → OpenFrame x y (frame_with (written_on x) meta)
  turn_open most fair meta v t =
      let so = turn-so x most fair meta v t in
      let queue : x.world.queue ≡ t.before.queue = ap (λ (w : World). w.queue) t.found in
      let same : meta.id ≡ t.turn.entry.id = ap (λ (k : StreamMeta). k.id) t.meta ∙ t.turn.transmits.appends.id_is in
      let there : stands meta.id (line x.world.queue) ≡ true =
      ap (λ (w : SendOrder). stands meta.id (line w)) queue ∙ ap (λ i. stands i (line t.before.queue)) same ∙ first-stands t.before.queue t.turn.entry t.turn.is_first in
      record { opened = s.queue meta.id there; both_ways = held-both x y f s meta.id so.half so.held }

frame_at : (x y : LinkedEnd) (g k : Frame) → g ≡ k → OpenFrame x y k → OpenFrame x y g
frame_at x y g k e t = let P : Frame → Type 0 = λ j. OpenFrame x y j in subst P (sym e) t

pub new_open : (x y : LinkedEnd) (e : Event) (v : World) → Comes x → IdsSo x y → MayAct x y e v → (g : Frame) → IsOneOf g (written_by x e) → OpenFrame x y g
new_open x y (LeftPending kind (Some k)) v f s a g h = frame_at x y g k (only g k h) (settled_open x y f s kind a.step.0 a.step.1 k v a.step.2 a.honest)
new_open x y (LeftPending kind None) v f s a g h = absurd h
new_open x y (Sending (TookTurn most fair (Some meta))) v f s a g h = frame_at x y g (frame_with (written_on x) meta) (only g (frame_with (written_on x) meta) h) (turn_open x y f s most fair meta v a.step)
new_open x y (Sending (TookTurn most fair None)) v f s a g h = absurd h
new_open x y _ v f s a g h = absurd h
