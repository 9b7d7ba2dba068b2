-- Once neither end had something to send, and the payloads without frames are dropped, both ends are idle.
use Rattle.std.proofs.Common.{◌≡◌, ◌⊎◌, ℕ, zero, suc, Bool, true, false, List, [], ◌∷◌, ◌++◌, length, Option, Some, None, Result, Ok, Err, refl, sym, ap, ◌∙◌, subst, inl, inr, arith, ◌≤◌, ◌<◌, append-nil, append_assoc}
use Rattle.std.specs.Prelude.{OnOk, OnErr, ◌&&◌, ◌||◌, ◌+◌, ◌-◌, ◌^◌, min, is_some, unwrap_or, slice_get, drop, map, nat_lt, if◌then◌else◌}
use Rattle.std.specs.Global.{Vec}
use Rattle.std.proofs.lemmas.List.{length-append}
use Rattle.std.proofs.lemmas.Option.{none-some}
use Rattle.quic_values.specs.declared.memory.OutOfMemory.{OutOfMemory}
use Rattle.quic_values.specs.declared.ids.Side.{Side}
use Rattle.quic_values.specs.declared.ids.Side.TheVariants.{Client, Server}
use Rattle.quic_values.specs.declared.ids.Dir.{Dir}
use Rattle.quic_values.specs.declared.ids.Dir.TheVariants.{Bi, Uni}
use Rattle.quic_values.specs.Ids.{initiator_of, dir_of, index_of, stream_id}
use Rattle.quic_wire.specs.declared.frame.StreamMeta.{StreamMeta}
use Rattle.quic_flows.specs.Flow.{SendFlow}
use Rattle.quic_queue.specs.SendOrder.{line}
use Rattle.quic_retransmits.specs.Pending.{Pending, nothing, merged, merged_if}
use Rattle.quic_history.specs.World.{World}
use Rattle.quic_history.specs.Flows.{HasRest, stands}
use Rattle.quic_history.specs.Control.{HasNoneOf, kind_bound}
use Rattle.quic_history.specs.declared.control.ControlKind.{ControlKind}
use Rattle.quic_history.specs.declared.control.ControlKind.TheVariants as kinds
use Rattle.quic_streams.specs.declared.settling.SentPayload.{SentPayload}
use Rattle.quic_streams.specs.Settling.{SentView, resets_of}
use Rattle.quic_streams.specs.Sent.{sent_view, report_view}
use Rattle.quic_endpoint.specs.Ends.{EndState}
use Rattle.quic_endpoint.specs.Reports.{LosesPayloadAt}
use Rattle.quic_exchange.proofs.Origins.{Origin}
use Rattle.quic_steps.specs.declared.steps.End.{End}
use Rattle.quic_steps.specs.declared.steps.End.TheVariants.{A, B}
use Rattle.quic_steps.specs.declared.steps.Step.TheVariants as steps
use Rattle.quic_steps.specs.declared.steps.Reply.TheVariants.{Done, Payload}
use Rattle.quic_steps.specs.declared.steps.PairError.TheVariants.{NoSuchPayload, AlreadySettled, NotAccepted, OutOfMemory as NoMemory}
use Rattle.quic_exchange.specs.Sent.{Sent}
use Rattle.quic_exchange.specs.declared.unsettled.Report.{Report}
use Rattle.quic_exchange.specs.declared.unsettled.Report.TheVariants.{Lost}
use Rattle.quic_exchange.specs.declared.phase.Phase.{Phase}
use Rattle.quic_exchange.specs.declared.phase.Phase.TheVariants as phase
use Rattle.quic_exchange.specs.declared.phase.Going.{Going}
use Rattle.quic_exchange.specs.declared.phase.Going.TheVariants.{On, Over, StreamOver, Unordered}
use Rattle.quic_exchange.specs.Unsettled.{goes_on}
use Rattle.quic_exchange.specs.Payloads.{SentText}
use Rattle.quic_exchange.specs.Replies.{Answer, report_reply}
use Rattle.quic_exchange.specs.State.{PairState, the_end, with_end, with_sent}
use Rattle.quic_exchange.specs.Steps.{NextOrdinary, NextTaken, Emitted, EmitsWhole, Reports, SettlesPayload}
use Rattle.quic_exchange.specs.History.{History}
use Rattle.quic_exchange.proofs.Eras.{EraFrom, next as next-step, ToldIn}
use Rattle.quic_exchange.specs.Due.{IsFull}
use Rattle.quic_exchange.specs.Tale.{Part, Carried, GivenUp, Tales}
use Rattle.quic_exchange.specs.Runs.{StepsBy, more}
use Rattle.quic_exchange.specs.Settling.{step_at, going_of, going_sending, is_nothing_more, is_quiet_at, behind_reports, phase_after, after_accepting, after_streams, after_reading, after_polling, after_emits, after_frame, AreSettledIn, IsAllReported, IsIdle, AreIdle, LeavesNoRest, IsSoughtFor, IsSettledAt, TakesPhase, TakesPhaseOrNone, FollowsPhases, IsCutOff, IsSettling, none as follows_none, more as follows_more}
use Rattle.quic_exchange.proofs.Emissions.{emitted-some}
use Rattle.quic_exchange.proofs.Lists.{slice_get-push, slice_get-slice_set, slice_get-within}
use Rattle.quic_exchange.proofs.Left.{IsLeft}
use Rattle.quic_exchange.proofs.PayloadKnows.{StaySent}
use Rattle.quic_exchange.proofs.Streamless.{IsStreamless, streamless-stays, fresh-streamless, stay-emitted, stay-delivered}
use Rattle.quic_exchange.proofs.Grown.{grown-from}
use Rattle.quic_exchange.proofs.Ordinary.{ordinary-at}
use Rattle.quic_exchange.proofs.Due.{asks-for}
use Rattle.quic_exchange.proofs.Settled.{settled-from}
use Rattle.quic_exchange.proofs.ToldOnce.{told-in-once}

-- the payloads from a number on have no frame
abbrev pub HaveNoFrames : ℕ → List Sent → Type 0
HaveNoFrames first sent = (number : ℕ) (s : Sent) → first ≤ number → slice_get sent number ≡ Some s → s.text.bytes ≡ []

-- A is idle where it had nothing to send
abbrev pub IsIdleIf : Bool → ℕ → PairState → Type 0
IsIdleIf true first v = IsIdle v.a × HaveNoFrames first v.sent
IsIdleIf false first v = Unit {0}

-- the payloads of a quiet round have no STREAM frame
abbrev pub IsStreamlessIf : Bool → List Sent → ℕ → Type 0
IsStreamlessIf true sent number = IsStreamless sent number
IsStreamlessIf false sent number = Unit {0}

abbrev pub IsNextStreamless : Bool → List Sent → Option ℕ → Type 0
IsNextStreamless quiet sent (Some number) = IsStreamlessIf quiet sent number
IsNextStreamless quiet sent None = Unit {0}

-- what holds before the step of a phase
abbrev pub IsReadyFor : Phase → PairState → Type 0
IsReadyFor (phase.EmitOfB first empty quiet) v = IsIdleIf empty first v × IsStreamlessIf quiet v.sent first
IsReadyFor (phase.Deliver payload frame next quiet) v = IsStreamlessIf quiet v.sent payload × IsNextStreamless quiet v.sent next
IsReadyFor (phase.Drop first) v = AreIdle v × HaveNoFrames first v.sent
IsReadyFor _ v = Unit {0}

-- ---- phases before which nothing need hold

ready_streams : (who : End) (s : Side) (d : Dir) (v : PairState) → IsReadyFor (after_streams who s d) v
ready_streams A Client Bi v = tt
ready_streams A Client Uni v = tt
ready_streams A Server Bi v = tt
ready_streams A Server Uni v = tt
ready_streams B Client Bi v = tt
ready_streams B Client Uni v = tt
ready_streams B Server Bi v = tt
ready_streams B Server Uni v = tt

ready_stream : (who : End) (id next : ℕ) (more : Bool) (v : PairState) → IsReadyFor (if more then phase.Read who next true else after_streams who (initiator_of id) (dir_of id)) v
ready_stream who id next true v = tt
ready_stream who id next false v = ready_streams who (initiator_of id) (dir_of id) v

ready_reading : (who : End) (id : ℕ) (ordered : Bool) (going : Going) (v : PairState) → IsReadyFor (after_reading who id ordered going) v
ready_reading who id ordered On v = tt
ready_reading who id ordered Unordered v = tt
ready_reading who id ordered StreamOver v = ready_stream who id (stream_id (initiator_of id) (dir_of id) (index_of id + 1)) (nat_lt (index_of id + 1) (2 ^ 60)) v
ready_reading who id ordered Over v = ready_streams who (initiator_of id) (dir_of id) v

ready_accepting : (who : End) (dir : Dir) (v : PairState) → IsReadyFor (after_accepting who dir) v
ready_accepting A Bi v = tt
ready_accepting A Uni v = tt
ready_accepting B Bi v = tt
ready_accepting B Uni v = tt

ready_polling : (who : End) (going : Going) (v : PairState) → IsReadyFor (after_polling who going) v
ready_polling A On v = tt
ready_polling A Over v = tt
ready_polling A StreamOver v = tt
ready_polling A Unordered v = tt
ready_polling B On v = tt
ready_polling B Over v = tt
ready_polling B StreamOver v = tt
ready_polling B Unordered v = tt

ready_reports : (quiet : Bool) (v : PairState) → IsReadyFor (behind_reports quiet) v
ready_reports true v = tt
ready_reports false v = tt

-- ---- the payloads of a quiet round

streamless_if : (quiet : Bool) (sent later : List Sent) (number : ℕ) → StaySent sent later → IsStreamlessIf quiet sent number → IsStreamlessIf quiet later number
streamless_if true sent later number stay l = streamless-stays sent later number stay l
streamless_if false sent later number stay l = tt

next_if : (quiet : Bool) (sent later : List Sent) (next : Option ℕ) → StaySent sent later → IsNextStreamless quiet sent next → IsNextStreamless quiet later next
next_if quiet sent later (Some number) stay l = streamless_if quiet sent later number stay l
next_if quiet sent later None stay l = tt

ready_deliver : (payload frame : ℕ) (next : Option ℕ) (quiet : Bool) (old new : PairState) → StaySent old.sent new.sent → IsReadyFor (phase.Deliver payload 0 next quiet) old → IsReadyFor (phase.Deliver payload frame next quiet) new
ready_deliver payload frame next quiet old new stay r = (streamless_if quiet old.sent new.sent payload stay r.0, next_if quiet old.sent new.sent next stay r.1)

ready_frame : (payload frame : ℕ) (next : Option ℕ) (quiet : Bool) (going : Going) (old new : PairState) → StaySent old.sent new.sent → IsReadyFor (phase.Deliver payload frame next quiet) old → IsReadyFor (after_frame payload frame next quiet going) new
ready_frame payload frame (Some other) quiet On old new stay r = ready_deliver payload (min (frame + 1) (2 ^ 64 - 1)) (Some other) quiet old new stay r
ready_frame payload frame (Some other) quiet Over old new stay r = (streamless_if quiet old.sent new.sent other stay r.1, tt)
ready_frame payload frame (Some other) quiet StreamOver old new stay r = ready_deliver payload (min (frame + 1) (2 ^ 64 - 1)) (Some other) quiet old new stay r
ready_frame payload frame (Some other) quiet Unordered old new stay r = ready_deliver payload (min (frame + 1) (2 ^ 64 - 1)) (Some other) quiet old new stay r
ready_frame payload frame None quiet On old new stay r = ready_deliver payload (min (frame + 1) (2 ^ 64 - 1)) None quiet old new stay r
ready_frame payload frame None quiet Over old new stay r = tt
ready_frame payload frame None quiet StreamOver old new stay r = ready_deliver payload (min (frame + 1) (2 ^ 64 - 1)) None quiet old new stay r
ready_frame payload frame None quiet Unordered old new stay r = ready_deliver payload (min (frame + 1) (2 ^ 64 - 1)) None quiet old new stay r

-- ---- a payload that takes all, and has no frame

sending_over : (bytes : List ℕ) → Some (going_sending bytes) ≡ Some Over → bytes ≡ []
sending_over [] e = refl
sending_over (b ∷ bytes) e = cc

-- what an emit was replied, where nothing was written
record WroteNone (old : PairState) (who : End) (most : ℕ) (reply : Answer) (new : PairState) : Type 0 where
  number : ℕ
  bytes : Vec ℕ
  reply_is : reply ≡ Ok (Payload number bytes)
  none : bytes.items ≡ []
  emits : EmitsWhole old who most true number bytes.items new

-- it was replied with a payload, or memory ran out
record RepliedPayload (old : PairState) (who : End) (most : ℕ) (reply : Answer) (new : PairState) : Type 0 where
  number : ℕ
  bytes : Vec ℕ
  reply_is : reply ≡ Ok (Payload number bytes)
  emits : EmitsWhole old who most true number bytes.items new

replied : (old new : PairState) (who : End) (most : ℕ) (reply : Answer) → Emitted old who most true reply new → RepliedPayload old who most reply new ⊎ (reply ≡ Err NoMemory)
replied old new who most (Ok (Payload number bytes)) n = inl (record { number = number; bytes = bytes; reply_is = refl; emits = n })
replied old new who most (Err NoMemory) n = inr refl
replied old new who most _ n = absurd n

wrote_none : (old new : PairState) (who : End) (most : ℕ) (reply : Answer) → Emitted old who most true reply new → going_of reply ≡ Some Over → WroteNone old who most reply new
wrote_none old new who most reply n e =
    let P : Answer → Type 0 = λ r. going_of r ≡ Some Over in
    elim (replied old new who most reply n) [
      | inl w ↦ record { number = w.number; bytes = w.bytes; reply_is = w.reply_is; none = sending_over w.bytes.items (subst P w.reply_is e); emits = w.emits }
      | inr none ↦ absurd (none-some Over (subst P none e))
    ]

kind_small : (kind : ControlKind) → kind_bound kind < 1000
kind_small kinds.ResetStream = omega arith
kind_small kinds.StopSending = omega arith
kind_small kinds.MaxData = omega arith
kind_small kinds.MaxStreamData = omega arith
kind_small (kinds.MaxStreams d) = omega arith
kind_small kinds.DataBlocked = omega arith
kind_small kinds.StreamDataBlocked = omega arith

-- so the end has nothing to send
full_idle : (most : ℕ) → 1000 < most → (bytes : List ℕ) (e : EndState) → IsFull most bytes e → bytes ≡ [] → IsIdle e
full_idle most big bytes e full none =
    let size : length bytes ≡ 0 = ap length none in
    let parts : length bytes ≡ length full.front + length full.behind = ap length full.is ∙ length-append full.front full.behind in
    record {
      kinds = λ kind. elim (full.kinds kind) [ inl is ↦ is | inr fills ↦ absurd (let small = kind_small kind in omega (arith, fills, size, parts, small, big)) ];
      streams = elim full.streams [ inl is ↦ is | inr fills ↦ absurd (omega (arith, fills, size, big)) ];
    }

-- the payload that was sent has no frame
module _ (old new : PairState) (who : End) (most : ℕ) (reply : Answer) (w : WroteNone old who most reply new) where
  sent_then : new.sent ≡ old.sent ++ w.emits.emits.sent ∷ []
  sent_then = ap (λ (v : PairState). v.sent) w.emits.emits.is

  no_bytes : w.emits.emits.sent.text.bytes ≡ []
  no_bytes = ap (λ (x : SentText). x.bytes) w.emits.emits.sent_is.text ∙ sym w.emits.bytes_are ∙ w.none

  last_none : (first : ℕ) → ((number : ℕ) (s : Sent) → first ≤ number → slice_get old.sent number ≡ Some s → s.text.bytes ≡ []) → HaveNoFrames first new.sent
  last_none first before number s from got =
      elim (slice_get-push old.sent w.emits.emits.sent number s (ap (λ l. slice_get l number) (sym sent_then) ∙ got)) [
        | inl there ↦ before number s from there
        | inr now ↦ ap (λ (x : Sent). x.text.bytes) now.1 ∙ no_bytes
      ]

  first_none : HaveNoFrames (length old.sent) new.sent
  first_none = last_none (length old.sent) (λ number s from got. absurd (let within = slice_get-within old.sent number s got in omega (arith, within, from)))

module _ (a b : Origin) (h : History) (old new : PairState) (f : EraFrom a b h old) (most : ℕ) (big : 1000 < most) where
  idle_then : (who : End) (reply : Answer) → NextOrdinary old (steps.Emit who most true) reply new → WroteNone old who most reply new → IsIdle (the_end new who)
  idle_then who reply n w =
      let P : Answer → Type 0 = λ r. NextOrdinary old (steps.Emit who most true) r new in
      full_idle most big w.bytes.items (the_end new who) (asks-for a b h old new (steps.Emit who most true) (Ok (Payload w.number w.bytes)) f (subst P w.reply_is n)).0 w.none

  idle_if : (going : Going) (reply : Answer) → NextOrdinary old (steps.Emit A most true) reply new → going_of reply ≡ Some going → IsIdleIf (is_nothing_more going) (length old.sent) new
  idle_if Over reply n e =
      let w = wrote_none old new A most reply n e in
      (idle_then A reply n w, first_none old new A most reply w)
  idle_if On reply n e = tt
  idle_if StreamOver reply n e = tt
  idle_if Unordered reply n e = tt

  -- the payload that was sent has no STREAM frame where it has nothing for a reader
  fresh_if : (who : End) (going : Going) (reply : Answer) → NextOrdinary old (steps.Emit who most true) reply new → going_of reply ≡ Some going → (last_quiet : Bool) → is_quiet_at new.sent (length old.sent) ≡ last_quiet → IsStreamlessIf last_quiet new.sent (length old.sent)
  fresh_if who going reply n e true quiet = fresh-streamless a b h old new f who most true quiet reply (emitted-some old new who most true reply n) going e
  fresh_if who going reply n e false quiet = tt

  ready_emit_a : (going : Going) (reply : Answer) → NextOrdinary old (steps.Emit A most true) reply new → going_of reply ≡ Some going → IsReadyFor (phase.EmitOfB (length old.sent) (is_nothing_more going) (is_quiet_at new.sent (length old.sent))) new
  ready_emit_a going reply n e = (idle_if going reply n e, fresh_if A going reply n e (is_quiet_at new.sent (length old.sent)) refl)

  ready_emit_b : (first : ℕ) (reply : Answer) → IsIdleIf true first old → NextOrdinary old (steps.Emit B most true) reply new → going_of reply ≡ Some Over → IsReadyFor (phase.Drop first) new
  ready_emit_b first reply r n e =
      let w = wrote_none old new B most reply n e in
      let same : new.a ≡ old.a = ap (λ (v : PairState). v.a) w.emits.emits.is in
      (record { of_a = subst IsIdle (sym same) r.0; of_b = idle_then B reply n w }, last_none old new B most reply w first r.1)

  both_if : (first : ℕ) (quiet last_quiet : Bool) → IsStreamlessIf quiet new.sent first → IsStreamlessIf last_quiet new.sent (length old.sent) → IsReadyFor (phase.Deliver first 0 (Some (length old.sent)) (quiet && last_quiet)) new
  both_if first true true l k = (l, k)
  both_if first true false l k = (tt, tt)
  both_if first false last_quiet l k = (tt, tt)

  ready_both : (first : ℕ) (quiet : Bool) (going : Going) (reply : Answer) → IsStreamlessIf quiet old.sent first → NextOrdinary old (steps.Emit B most true) reply new → going_of reply ≡ Some going → IsReadyFor (phase.Deliver first 0 (Some (length old.sent)) (quiet && is_quiet_at new.sent (length old.sent))) new
  ready_both first quiet going reply l n e =
      both_if first quiet (is_quiet_at new.sent (length old.sent)) (streamless_if quiet old.sent new.sent first (stay-emitted old new B most true reply (emitted-some old new B most true reply n)) l) (fresh_if B going reply n e (is_quiet_at new.sent (length old.sent)) refl)

  ready_emits : (first : ℕ) (empty quiet : Bool) (going : Going) (reply : Answer) → IsReadyFor (phase.EmitOfB first empty quiet) old → NextOrdinary old (steps.Emit B most true) reply new → going_of reply ≡ Some going → IsReadyFor (after_emits first empty going (length old.sent) (quiet && is_quiet_at new.sent (length old.sent))) new
  ready_emits first true quiet Over reply r n e = ready_emit_b first reply r.0 n e
  ready_emits first true quiet On reply r n e = ready_both first quiet On reply r.1 n e
  ready_emits first true quiet StreamOver reply r n e = ready_both first quiet StreamOver reply r.1 n e
  ready_emits first true quiet Unordered reply r n e = ready_both first quiet Unordered reply r.1 n e
  ready_emits first false quiet going reply r n e = ready_both first quiet going reply r.1 n e

-- ---- a payload without a frame is dropped

drop_none : {X : Type 0} (n : ℕ) → drop {A = X} n [] ≡ []
drop_none zero = refl
drop_none (suc n) = refl

none_first : (ms : List StreamMeta) (xs : List Part) → map Carried ms ++ xs ≡ [] → ms ≡ []
none_first [] xs e = refl
none_first (m ∷ ms) xs e = cc

goes_of : (rest : Option SentPayload) (begun : Option Report) → (is_some rest && goes_on Lost begun) ≡ true → goes_on Lost begun ≡ true
goes_of None begun e = cc
goes_of (Some r) begun e = e

false_or : (x y : Bool) → x ≡ false → y ≡ false → (x || y) ≡ false
false_or false false e f = refl
false_or false true e f = cc
false_or true y e f = cc

-- nothing is joined to what is pending
none_merged : (kind : ControlKind) (p b : Pending) → b ≡ nothing → HasNoneOf kind p → HasNoneOf kind (merged p b)
none_merged kind p b e h =
    let P : Pending → Type 0 = λ q. HasNoneOf kind (merged p q) in
    subst P (sym e) (by_kind kind h)
  where
    by_kind : (k : ControlKind) → HasNoneOf k p → HasNoneOf k (merged p nothing)
    by_kind kinds.ResetStream l = append-nil p.reset_stream ∙ l
    by_kind kinds.StopSending l = append-nil p.stop_sending ∙ l
    by_kind kinds.MaxData l = false_or p.max_data false l refl
    by_kind kinds.MaxStreamData l = λ id. false_or (p.max_stream_data id) false (l id) refl
    by_kind (kinds.MaxStreams Bi) l = false_or p.max_streams_bi false l refl
    by_kind (kinds.MaxStreams Uni) l = false_or p.max_streams_uni false l refl
    by_kind kinds.DataBlocked l = false_or p.data_blocked false l refl
    by_kind kinds.StreamDataBlocked l = λ id. false_or (p.stream_data_blocked id) false (l id) refl

none_joined : (kind : ControlKind) (p : Pending) (control : Option Pending) → unwrap_or control nothing ≡ nothing → HasNoneOf kind p → HasNoneOf kind (merged_if p control)
none_joined kind p None e h = h
none_joined kind p (Some b) e h = none_merged kind p b e h

-- nothing of it was handed back
record IsEmptyRest (r : SentView) : Type 0 where
  streams : r.streams ≡ []
  control : unwrap_or r.control nothing ≡ nothing

-- so its loss leaves an end idle
idle_lost : (e : EndState) (r : SentView) (answer : Result (Unit {0}) SentPayload) (f : EndState) → Ok Done ≡ report_reply answer → LosesPayloadAt e r (report_view answer) f → IsEmptyRest r → IsIdle e → IsIdle f
idle_lost e r (Err back) f is does none idle = cc
idle_lost e r (Ok done) f is does none idle =
    let P : List StreamMeta → Type 0 = λ l. LosesPayloadAt e (record r { streams = l }) (Ok tt) f in
    let lost = subst P none.streams does in
    let world : f.streams ≡ e.streams = lost.0 in
    record {
      kinds = λ kind. let Q : Pending → Type 0 = λ p. HasNoneOf kind p in subst Q (sym lost.1) (none_joined kind e.pending r.control none.control (idle.kinds kind));
      streams = ap (λ (w : World). line w.queue) world ∙ idle.streams;
    }

idle_of : (v : PairState) (who : End) → AreIdle v → IsIdle (the_end v who)
idle_of v A i = i.of_a
idle_of v B i = i.of_b

idle_with : (v : PairState) (who : End) (e : EndState) (sent : List Sent) → AreIdle v → IsIdle e → AreIdle (with_sent (with_end v who e) sent)
idle_with v A e sent i j = record { of_a = j; of_b = i.of_b }
idle_with v B e sent i j = record { of_a = i.of_a; of_b = j }

module _ (a b : Origin) (h : History) (old new : PairState) (f : EraFrom a b h old) (first : ℕ) (r : IsReadyFor (phase.Drop first) old) where
  dropped_same : new ≡ old → IsReadyFor (phase.Drop first) new
  dropped_same e = let P : PairState → Type 0 = λ v. IsReadyFor (phase.Drop first) v in subst P (sym e) r

  module _ (n : Reports Lost LosesPayloadAt old first (Ok Done) new) where
    left_none : IsEmptyRest (sent_view n.rest)
    left_none =
        let g = grown-from f in
        let s = n.payload.sent in
        let bytes : s.text.bytes ≡ [] = r.1 first s (omega arith) n.payload.is in
        let is : IsLeft (g.recounted.tales.told first) s.unsettled (sent_view n.rest) [] = g.recounted.left first s n.rest [] n.payload.is n.rest_is bytes in
        record {
          streams = none_first (sent_view n.rest).streams (map (λ (c : ℕ × ℕ). GivenUp c.0) (resets_of (sent_view n.rest).control)) (is.parts ∙ drop_none (g.recounted.tales.told first));
          control = is.noted (goes_of s.unsettled.rest s.unsettled.begun n.may);
        }

    still_none : HaveNoFrames first new.sent
    still_none number t from got =
        elim (slice_get-slice_set old.sent first number _ t (ap (λ l. slice_get l number) (sym (ap (λ (v : PairState). v.sent) n.is)) ∙ got)) [
          | inl now ↦ ap (λ (x : Sent). x.text.bytes) now.1 ∙ r.1 first n.payload.sent (omega arith) n.payload.is
          | inr there ↦ r.1 number t from there
        ]

    still_idle : AreIdle new
    still_idle =
        let P : PairState → Type 0 = λ v. AreIdle v in
        let who = n.payload.sent.writer in
        subst P (sym n.is) (idle_with old who n.end _ r.0 (idle_lost (the_end old who) (sent_view n.rest) n.answer n.end n.reply_is n.does left_none (idle_of old who r.0)))

    dropped_lost : IsReadyFor (phase.Drop first) new
    dropped_lost = (still_idle, still_none)

  ready_drop : (going : Going) (reply : Answer) → SettlesPayload Lost LosesPayloadAt old first reply new → going_of reply ≡ Some going → IsReadyFor (phase.Drop first) new
  ready_drop going (Ok Done) n e = dropped_lost n
  ready_drop going (Err NoSuchPayload) n e = dropped_same n.1
  ready_drop going (Err AlreadySettled) n e = dropped_same n.is
  ready_drop going (Err NotAccepted) n e = dropped_same n.is
  ready_drop going (Err NoMemory) n e = cc
  ready_drop going _ n e = absurd n

-- ---- all phases

-- behind each step what is next may be begun
pub ready-next : (a b : Origin) (h : History) (old new : PairState) → EraFrom a b h old → (at : Phase) → IsReadyFor at old → (reply : Answer) → NextOrdinary old (step_at at) reply new → (going : Going) → going_of reply ≡ Some going → IsReadyFor (phase_after at going (length old.sent) (is_quiet_at new.sent (length old.sent))) new
ready-next a b h old new f (phase.Report payload quiet) r reply n On e = tt
ready-next a b h old new f (phase.Report payload quiet) r reply n Over e = tt
ready-next a b h old new f (phase.Report payload quiet) r reply n StreamOver e = tt
ready-next a b h old new f (phase.Report payload quiet) r reply n Unordered e = tt
ready-next a b h old new f (phase.ReportLost payload quiet) r reply n going e = tt
ready-next a b h old new f (phase.Accept who dir) r reply n On e = tt
ready-next a b h old new f (phase.Accept who dir) r reply n Over e = ready_accepting who dir new
ready-next a b h old new f (phase.Accept who dir) r reply n StreamOver e = ready_accepting who dir new
ready-next a b h old new f (phase.Accept who dir) r reply n Unordered e = ready_accepting who dir new
ready-next a b h old new f (phase.Read who id ordered) r reply n going e = ready_reading who id ordered going new
ready-next a b h old new f (phase.Poll who) r reply n going e = ready_polling who going new
ready-next a b h old new f phase.EmitOfA r reply n going e = ready_emit_a a b h old new f (2 ^ 64 - 1) (omega arith) going reply n e
ready-next a b h old new f (phase.EmitOfB first empty quiet) r reply n going e = ready_emits a b h old new f (2 ^ 64 - 1) (omega arith) first empty quiet going reply r n e
ready-next a b h old new f (phase.Deliver payload frame next quiet) r reply n going e = ready_frame payload frame next quiet going old new (stay-delivered old new payload frame reply n) r
ready-next a b h old new f (phase.Drop first) r reply n going e = ready_drop a b h old new f first r going reply n e

ready_same : (at next : Phase) (v : PairState) → IsReadyFor at v → next ≡ at → IsReadyFor next v
ready_same at next v r e = let P : Phase → Type 0 = λ x. IsReadyFor x v in subst P (sym e) r

-- and so may the phase that is sought
pub ready-sought : (at next : Phase) (v : PairState) → IsReadyFor at v → IsSoughtFor v.sent at next → IsReadyFor next v
ready-sought (phase.Report from quiet) next v r s = elim s [
  | inl here ↦ (let P : Phase → Type 0 = λ x. IsReadyFor x v in subst P (sym here.2) tt)
  | inr none ↦ (let P : Phase → Type 0 = λ x. IsReadyFor x v in subst P (sym none.1) (ready_reports quiet v))
]
ready-sought (phase.Drop first) next v r s = elim s [
  | inl here ↦ (let P : Phase → Type 0 = λ x. IsReadyFor x v in subst P (sym here.2) (r.0, λ number t from got. r.1 number t (let le = here.1.low in omega (arith, le, from)) got))
  | inr none ↦ (let P : Phase → Type 0 = λ x. IsReadyFor x v in subst P (sym none.2) tt)
]
ready-sought (phase.ReportLost payload quiet) next v r s = ready_same (phase.ReportLost payload quiet) next v r s
ready-sought (phase.Accept who dir) next v r s = ready_same (phase.Accept who dir) next v r s
ready-sought (phase.Read who id ordered) next v r s = ready_same (phase.Read who id ordered) next v r s
ready-sought (phase.Poll who) next v r s = ready_same (phase.Poll who) next v r s
ready-sought phase.EmitOfA next v r s = ready_same phase.EmitOfA next v r s
ready-sought (phase.EmitOfB first empty quiet) next v r s = ready_same (phase.EmitOfB first empty quiet) next v r s
ready-sought (phase.Deliver payload frame after quiet) next v r s = ready_same (phase.Deliver payload frame after quiet) next v r s

-- ---- one step after the other

went_on : (old : PairState) (before : History) (at next : Phase) (new : PairState) (behind : History) → TakesPhaseOrNone old before at (Ok next) new behind → TakesPhase old before at (Ok next) new behind
went_on old before at next new behind (inl t) = t
went_on old before at next new behind (inr none) = let e = none.0 in cc

-- steps were taken one after the other
abbrev pub GoesBy : PairState → History → PairState → Type 0
GoesBy old taken new = StepsBy NextTaken (λ before between step reply after. Unit {0}) old taken new

-- the steps so far go on by this one, if it was taken
pub steps-on : (first old : PairState) (before : History) (at : Phase) (answer : Result Phase OutOfMemory) (new : PairState) (behind : History) → GoesBy first before old → TakesPhaseOrNone old before at answer new behind → GoesBy first behind new
steps-on first old before at answer new behind run (inl t) =
    let P : History → Type 0 = λ l. GoesBy first l new in
    subst P (sym t.noted) (more (step_at at) t.reply run t.next tt)
steps-on first old before at answer new behind run (inr none) =
    let P : History → Type 0 = λ l. GoesBy first l new in
    let Q : PairState → Type 0 = λ v. GoesBy first before v in
    subst P (sym none.2) (subst Q (sym none.1) run)

-- the history goes on by the steps of phases, and what is next may be begun
pub record ReadyPhases (a b : Origin) (h taken : History) (new : PairState) (at : Phase) : Type 0 where
  pub led : EraFrom a b (h ++ taken) new
  pub ready : IsReadyFor at new

pub ready-phases : (a b : Origin) (h : History) (old : PairState) (taken : History) (new : PairState) (at : Phase) → EraFrom a b h old → FollowsPhases old (phase.Report 0 false) taken new at → ReadyPhases a b h taken new at
ready-phases a b h old _ _ _ f follows_none = record { led = subst (λ l. EraFrom a b l old) (sym (append-nil h)) f; ready = tt }
ready-phases a b h old _ _ _ f (follows_more {taken} {between} {new} {at} here reply going before sought n e) =
    let r = ready-phases a b h old taken between at f before in
    record {
      led = subst (λ l. EraFrom a b l new) (append_assoc h taken ((step_at here, reply) ∷ [])) (next-step (step_at here) reply r.led (ordinary-at here between new reply n));
      ready = ready-next a b (h ++ taken) between new r.led here (ready-sought at here between r.ready sought) reply (ordinary-at here between new reply n) going e;
    }

-- and so far the steps follow the phases
pub follows-on : (first old : PairState) (before : History) (at here next : Phase) (new : PairState) (behind : History) → FollowsPhases first (phase.Report 0 false) before old at → IsSoughtFor old.sent at here → TakesPhaseOrNone old before here (Ok next) new behind → FollowsPhases first (phase.Report 0 false) behind new next
follows-on first old before at here next new behind run sought one =
    let t = went_on old before here next new behind one in
    let on = t.goes next refl in
    let P : History → Type 0 = λ l. FollowsPhases first (phase.Report 0 false) l new next in
    let Q : Phase → Type 0 = λ x. FollowsPhases first (phase.Report 0 false) (before ++ (step_at here, t.reply) ∷ []) new x in
    subst P (sym t.noted) (subst Q (sym on.2) (follows_more here t.reply on.0 run sought t.next on.1))

-- where memory ran out they end there
pub cut-off : (first old : PairState) (before : History) (at here : Phase) (error : OutOfMemory) (new : PairState) (behind : History) → FollowsPhases first (phase.Report 0 false) before old at → IsSoughtFor old.sent at here → TakesPhaseOrNone old before here (Err error) new behind → IsCutOff first behind new
cut-off first old before at here error new behind run sought (inl t) = record { before = before; between = old; at = at; follows = run; here = here; sought = sought; last = inr (t.reply, t.next, t.wanting error refl, t.noted) }
cut-off first old before at here error new behind run sought (inr none) = record { before = before; between = old; at = at; follows = run; here = here; sought = sought; last = inl (none.1, none.2) }

-- what follows from what holds where an answer is Ok
pub on-ok : {X E : Type 0} (r : Result X E) (P Q : Type 0) → (P → Q) → OnOk r P → OnOk r Q
on-ok (Ok x) P Q g h = g h
on-ok (Err e) P Q g h = tt

pub on-err : {X E : Type 0} (r : Result X E) (P : Type 0) → P → OnErr r P
on-err (Ok x) P g = tt
on-err (Err e) P g = g

pub on-ok-both : {X E : Type 0} (r : Result X E) (P Q R : Type 0) → (P → Q → R) → OnOk r P → OnOk r Q → OnOk r R
on-ok-both (Ok x) P Q R g h k = g h k
on-ok-both (Err e) P Q R g h k = tt

-- ---- the end

-- both ends are idle where no phase is left
pub idle-at : (at : Phase) (v : PairState) → IsReadyFor at v → IsSettledAt at v.sent → AreIdle v
idle-at at v r s =
    let P : Phase → Type 0 = λ x. IsReadyFor x v in
    (subst P s.was r).0

-- both ends are idle behind a settling
pub idle-settled : (a b : Origin) (h : History) (old : PairState) (taken : History) (new : PairState) → EraFrom a b h old → IsSettling old taken new → AreIdle new
idle-settled a b h old taken new f s = idle-at s.at new (ready-phases a b h old taken new s.at f s.follows).ready s.ended

-- every payload was reported, by the replies to reports
pub all-reported : (a b : Origin) (h : History) (v : PairState) → EraFrom a b h v → AreSettledIn 0 (length v.sent) v.sent → IsAllReported h v.sent
all-reported a b h v f settled number s got here = ((settled-from f).each number s got).done here (settled number s (omega arith) (slice_get-within v.sent number s got) got)

-- where no stream is queued nothing is left to be sent
pub leaves-no-rest : (a b : Origin) (h : History) (v : PairState) (f : EraFrom a b h v) → AreIdle v → LeavesNoRest (ToldIn f)
leaves-no-rest a b h v f idle t told who id rest =
    let g = grown-from f in
    let same = told-in-once f t g.recounted.tales told g.told in
    let P : Tales → Type 0 = λ x. HasRest ((x.of who).flow id) in
    let c = g.recounted.counted who in
    let Q : SendFlow → Type 0 = λ x. HasRest x in
    let there = c.from.rest id (subst Q (sym (c.tells.flow_is id)) (subst P same rest)) in
    let none : stands id (line (the_end v who).streams.queue) ≡ false = ap (stands id) (queue_at who) in
    let l = sym there ∙ none in
    cc
  where
    queue_at : (who : End) → line (the_end v who).streams.queue ≡ []
    queue_at A = idle.of_a.streams
    queue_at B = idle.of_b.streams
