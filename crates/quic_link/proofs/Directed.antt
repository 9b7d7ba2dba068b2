-- STOP_SENDING and STREAM_DATA_BLOCKED are written of streams on which they may be sent.
use Rattle.std.proofs.Common.{◌≡◌, ℕ, Bool, true, false, List, Option, Some, None, Ok, refl, sym, ap, ◌∙◌, subst, inl, inr, arith, ◌<◌}
use Rattle.std.specs.Prelude.{nat_lt, if◌then◌else◌}
use Rattle.std.specs.Option.{option_map}
use Rattle.std.proofs.lemmas.Bool.Decides.{nat_tests}
use Rattle.quic_values.specs.declared.ids.Dir.{Dir}
use Rattle.quic_values.specs.declared.ids.Dir.TheVariants.{Bi, Uni}
use Rattle.quic_values.specs.Ids.{dir_of, index_of}
use Rattle.quic_wire.specs.declared.frame.Frame.{Frame}
use Rattle.quic_wire.specs.declared.frame.Frame.TheVariants as frames
use Rattle.quic_limits.specs.Credit.{max_data_of}
use Rattle.quic_limits.specs.SendingCredit.{is_blocked_reported}
use Rattle.quic_sending.specs.declared.send.Send.{Send}
use Rattle.quic_retransmits.specs.Pending.{Pending}
use Rattle.quic_outgoing.specs.Calls.{blocked_limit}
use Rattle.quic_outgoing.specs.Outgoing.{own_of}
use Rattle.quic_outgoing.specs.Senders.{is_local}
use Rattle.quic_writing.specs.Appended.{frame_with}
use Rattle.quic_history.specs.World.{World, is_own, remote_of, id_refusal, own_refusal}
use Rattle.quic_history.specs.Control.{SettlesEntry, announced_end, stream_blocked_frame}
use Rattle.quic_history.specs.declared.control.ControlKind.{ControlKind}
use Rattle.quic_history.specs.declared.control.ControlKind.TheVariants as kinds
use Rattle.quic_history.specs.Flows.{has_side_in}
use Rattle.quic_history.specs.SendEvents.{TookTurn}
use Rattle.quic_history.specs.History.{Event, LeftPending, Sending, Stopped, Step, opened_in_all, trace}
use Rattle.quic_history.proofs.SendSides.{held-side}
use Rattle.quic_history.proofs.StreamSteps.{known-from}
use Rattle.quic_link.specs.Endpoints.{LinkedEnd, Linked, begun, first_acts, second_acts, IsNewEnd, MayAct, acted, written_by, written_on, IsOneOf, WasStoppedWith}
use Rattle.quic_link.proofs.Basics.{either-of, only, some_same}
use Rattle.quic_link.proofs.Ends.{Comes}
use Rattle.quic_link.proofs.Joint.{agrees}
use Rattle.quic_link.proofs.Opens.{IdsSo, own-local, held-both, opened-is, opened_grows}

-- ---- only streams that an end receives on are stopped

-- a stream of its own that an end stopped goes both ways
abbrev pub StopsBoth : LinkedEnd → Type 0
StopsBoth x = (id code : ℕ) → WasStoppedWith x.calls id code → is_local x.made.side id ≡ true → dir_of id ≡ Bi

own_both : (w : World) (own : Bool) (d : Dir) (i : ℕ) (o : Option ℕ) → own ≡ true → (if own then own_refusal w d i else o) ≡ None → d ≡ Bi
own_both w true Bi i o e k = refl
own_both w true Uni i o e k = cc
own_both w false d i o e k = cc

stopped_both : (x y : LinkedEnd) (id code : ℕ) (v : World) → Comes x → Step x.world (Stopped id code (Ok tt)) v → is_local x.made.side id ≡ true → dir_of id ≡ Bi
stopped_both x y id code v f s mine =
    let half = s.2 in
    let known : id_refusal x.world id ≡ None = known-from (trace x.calls) x.world id half.0 f.facts.streams half.2 in
    own_both x.world (is_own x.world id) (dir_of id) (index_of id) _ (own-local x.world x.made.side id f.side ∙ mine) known

stops_acted : (x y : LinkedEnd) (e : Event) (v : World) → Comes x → MayAct x y e v → StopsBoth x → StopsBoth (acted x e v)
stops_acted x y e v f a k id code h mine = elim h [
  | inl is ↦ (let P : Event → Type 0 = λ j. Step x.world j v in stopped_both x y id code v f (subst P (sym is) a.step) mine)
  | inr old ↦ k id code old mine
]

stops_new : (x : LinkedEnd) → IsNewEnd x → StopsBoth x
stops_new x n id code h mine = let P : List Event → Type 0 = λ l. IsOneOf (Stopped id code (Ok tt)) l in absurd (subst P n.calls h)

pub stops-both : {x y : LinkedEnd} → Linked x y → StopsBoth x × StopsBoth y
stops-both {x} {y} (begun n m s) = (stops_new x n, stops_new y m)
stops-both (first_acts {x} {y} e v l a) = let k = stops-both l in (stops_acted x y e v ((agrees l).0).comes a k.0, k.1)
stops-both (second_acts {x} {y} e v l a) = let k = stops-both l in (k.0, stops_acted y x e v ((agrees l).1).comes a k.1)

-- ---- only on streams that an end sends on it is blocked

-- an end that is blocked on a stream opened it, or the stream goes both ways
pub record MayBlock (x : LinkedEnd) (id : ℕ) : Type 0 where
  pub opened : is_local x.made.side id ≡ true → index_of id < opened_in_all x.calls (dir_of id)
  pub both_ways : is_local x.made.side id ≡ false → dir_of id ≡ Bi

-- so it is with each stream of which it wrote STREAM_DATA_BLOCKED
abbrev pub BlocksOwn : LinkedEnd → Type 0
BlocksOwn x = (id limit : ℕ) → IsOneOf (frames.StreamDataBlocked id limit) x.wrote → MayBlock x id

abbrev is_blocked : Frame → Bool
is_blocked (frames.StreamDataBlocked id limit) = true
is_blocked _ = false

abbrev blocked_id : Frame → ℕ
blocked_id (frames.StreamDataBlocked id limit) = id
blocked_id _ = 0

-- whatever is written for an entry of another kind is another frame
some_other : (f g : Frame) → is_blocked f ≡ false → Some g ≡ Some f → is_blocked g ≡ false
some_other f g c e = ap is_blocked (some_same g f e) ∙ c

mapped_other : {A : Type 0} (f : A → Frame) (o : Option A) (g : Frame) → ((a : A) → is_blocked (f a) ≡ false) → Some g ≡ option_map f o → is_blocked g ≡ false
mapped_other f None g c e = cc
mapped_other f (Some a) g c e = some_other (f a) g (c a) e

chosen_other : (b : Bool) (f g : Frame) → is_blocked f ≡ false → Some g ≡ (if b then Some f else None) → is_blocked g ≡ false
chosen_other true f g c e = some_other f g c e
chosen_other false f g c e = cc

side_opened : (own : Bool) (i a : ℕ) (o : Bool) → (if own then nat_lt i a else o) ≡ true → own ≡ true → i < a
side_opened true i a o k e = grind (arith, nat_tests, k)
side_opened false i a o k e = cc

module _ (x y : LinkedEnd) (f : Comes x) (s : IdsSo x y) where
  held_blocks : (id : ℕ) (h : Send) → x.world.out.halves id ≡ Some h → MayBlock x id
  held_blocks id h e =
      let there = held-side _ _ (has_side_in x.world.out x.world.bi.max_remote id) h (x.world.out.halves id) e (f.sends.flows id) in
      let count = opened-is x (dir_of id) f in
      record {
        opened = λ mine. let i = side_opened (is_local x.world.out.side id) (index_of id) (own_of x.world.out (dir_of id)).opened _ there (ap (λ c. is_local c id) f.side ∙ mine) in omega (arith, i, count);
        both_ways = held-both x y f s id h e;
      }

  module _ (id limit : ℕ) (g : Frame) (is : g ≡ frames.StreamDataBlocked id limit) where
    never : is_blocked g ≡ false → MayBlock x id
    never e = let both : true ≡ false = sym (ap is_blocked is) ∙ e in cc

    blocked_by : (q : ℕ) (l : Option ℕ) → MayBlock x q → Some g ≡ option_map (frames.StreamDataBlocked q) l → MayBlock x id
    blocked_by q None m e = cc
    blocked_by q (Some n) m e = let same : q ≡ id = sym (ap blocked_id (some_same g (frames.StreamDataBlocked q n) e)) ∙ ap blocked_id is in subst (MayBlock x) same m

    blocked_at : (q : ℕ) (o : Option Send) → x.world.out.halves q ≡ o → Some g ≡ stream_blocked_frame q o → MayBlock x id
    blocked_at q None held e = cc
    blocked_at q (Some h) held e = blocked_by q (blocked_limit (Some h)) (held_blocks q h held) e

    blocked_written : (kind : ControlKind) (p q : Pending) (v : World) → SettlesEntry kind x.world p (Some g) v q → MayBlock x id
    blocked_written kinds.ResetStream p q v t = never (mapped_other (λ (h : Send). frames.ResetStream (record { id = t.id; error_code = t.code; final_offset = h.pending.offset })) (x.world.out.halves t.id) g (λ h. refl) t.frame)
    blocked_written kinds.StopSending p q v t = never (some_other (frames.StopSending t.stop) g refl t.frame)
    blocked_written kinds.MaxData p q v t = never (some_other (frames.MaxData (max_data_of x.world.credit)) g refl t.frame)
    blocked_written kinds.MaxStreamData p q v t = never (mapped_other (λ n. frames.MaxStreamData t.id n) (announced_end x.world.window (x.world.receive t.id)) g (λ n. refl) t.frame)
    blocked_written (kinds.MaxStreams d) p q v t = never (some_other (frames.MaxStreams d (remote_of x.world d).max_remote) g refl t.frame)
    blocked_written kinds.DataBlocked p q v t = never (chosen_other (is_blocked_reported x.world.out.budget) (frames.DataBlocked x.world.out.budget.max_data) g refl t.frame)
    blocked_written kinds.StreamDataBlocked p q v t = blocked_at t.id (x.world.out.halves t.id) refl t.frame

  new_blocks : (id limit : ℕ) (e : Event) (v : World) → MayAct x y e v → IsOneOf (frames.StreamDataBlocked id limit) (written_by x e) → MayBlock x id
  new_blocks id limit (LeftPending kind (Some g)) v a h = blocked_written id limit g (sym (only (frames.StreamDataBlocked id limit) g h)) kind a.step.0 a.step.1 v a.step.2
  new_blocks id limit (LeftPending kind None) v a h = absurd h
  new_blocks id limit (Sending (TookTurn most fair (Some meta))) v a h = let both : true ≡ false = ap is_blocked (only (frames.StreamDataBlocked id limit) (frame_with (written_on x) meta) h) in cc
  new_blocks id limit (Sending (TookTurn most fair None)) v a h = absurd h
  new_blocks id limit _ v a h = absurd h

  blocks_acted : (e : Event) (v : World) → MayAct x y e v → BlocksOwn x → BlocksOwn (acted x e v)
  blocks_acted e v a k id limit h = more (elim (either-of (frames.StreamDataBlocked id limit) (written_by x e) x.wrote h) [ inl now ↦ new_blocks id limit e v a now | inr old ↦ k id limit old ])
    where
      more : MayBlock x id → MayBlock (acted x e v) id
      more m = record {
        opened = λ mine. let i = m.opened mine in let n = opened_grows x.calls e (dir_of id) in omega (arith, i, n);
        both_ways = m.both_ways;
      }

blocks_new : (x : LinkedEnd) → IsNewEnd x → BlocksOwn x
blocks_new x n id limit h = let P : List Frame → Type 0 = λ l. IsOneOf (frames.StreamDataBlocked id limit) l in absurd (subst P n.wrote h)

pub blocks-own : {x y : LinkedEnd} → Linked x y → BlocksOwn x × BlocksOwn y
blocks-own {x} {y} (begun n m s) = (blocks_new x n, blocks_new y m)
blocks-own (first_acts {x} {y} e v l a) = let k = blocks-own l in let t = (agrees l).0 in (blocks_acted x y t.comes t.ids e v a k.0, k.1)
blocks-own (second_acts {x} {y} e v l a) = let k = blocks-own l in let t = (agrees l).1 in (k.0, blocks_acted y x t.comes t.ids e v a k.1)
