-- Each call keeps what a history says of how many streams the peer may open.
use Rattle.std.proofs.Common.{◌≡◌, ℕ, Bool, true, false, ◌&&◌, eqb, List, ◌∷◌, length, Option, Some, None, is_some, Result, Ok, Err, refl, sym, ap, ◌∙◌, subst, inl, inr, ◌-◌}
use Rattle.std.specs.Prelude.{not, ◌==◌, if◌then◌else◌}
use Rattle.quic_values.specs.declared.ids.Dir.{Dir}
use Rattle.quic_values.specs.declared.ids.Dir.TheVariants.{Bi, Uni}
use Rattle.quic_values.specs.Ids.{stream_id, other_side}
use Rattle.quic_assembler.specs.declared.chunk.Chunk.{Chunk}
use Rattle.quic_wire.specs.declared.error.ReceiveError.{ReceiveError}
use Rattle.quic_wire.specs.declared.error.ReceiveError.TheVariants as receive_error
use Rattle.quic_receiving.specs.Half.{Half, stop_credit}
use Rattle.quic_receiving.specs.Calls.{Ingests}
use Rattle.quic_receiving.specs.declared.transmit.ShouldTransmit.{ShouldTransmit}
use Rattle.quic_receiving.specs.declared.errors.ReadError.{ReadError}
use Rattle.quic_receiving.specs.declared.errors.ReadError.TheVariants as read_error
use Rattle.quic_receiving.specs.declared.errors.ReadableError.{ReadableError}
use Rattle.quic_receiving.specs.declared.errors.ReadableError.TheVariants as readable_error
use Rattle.quic_sending.specs.declared.errors.HandleError.{HandleError}
use Rattle.quic_sending.specs.declared.errors.HandleError.TheVariants as handle_error
use Rattle.quic_retransmits.specs.Pending.{Pending}
use Rattle.quic_limits.specs.Credit.{Credit}
use Rattle.quic_history.specs.World.{World, id_refusal, remote_of, with_remote, with_receive, with_credit, with_receive_window, advanced, noticed, with_freed}
use Rattle.quic_history.specs.Receiving.{Receives, ReceivesReset, after_reset, credited_to}
use Rattle.quic_history.specs.Reading.{Begins, ReadsHalf, Stops, TellsReset, after_stop}
use Rattle.quic_history.specs.History.{Event, Received, ReceivedReset, AddedCredits, Began, Gave, Ended, Stopped, ToldReset, Resized, SetConcurrent, Accepted, LeftPending, Sending, Rejected, SentAgain, Step, Trace, HalfFrom, untouched, trace, is_closed, is_frame_kept, with_read, with_count_set, Facts}
use Rattle.quic_limits.specs.Remote.{one_accepted}
use Rattle.quic_history.specs.Permitting.{after_concurrent, with_accepted, with_count_of}
use Rattle.quic_history.proofs.ControlSteps.{announces, remotes-settled}
use Rattle.quic_history.proofs.SendSteps.{remotes-sending, remotes-spared}
use Rattle.quic_history.proofs.EarlyFacts.{remotes-rejected, spares-again}
use Rattle.quic_history.proofs.Permits.{remotes-concurrent, one-accepted}
use Rattle.quic_history.proofs.WorldSteps.{refusal-advanced}
use Rattle.quic_history.proofs.Refusals.{refusal-next}
use Rattle.quic_history.proofs.Totals.{by_cases, same}
use Rattle.quic_history.proofs.Traces.{itself}
use Rattle.quic_history.proofs.StreamSteps.{half-from, gone-from, known-from, new-from, refusal-noticed}
use Rattle.quic_history.proofs.FrameHistory.{open-trace, dropped-closed, refusal-code, refused-other, unmoved, after_data_stopped, after_data_running, untold}
use Rattle.quic_history.proofs.ResetHistory.{untold-closed, or-second, or-first}
use Rattle.quic_history.proofs.Remotes.{AllRemotes, SameLimits, SameRemotes, remotes-put, remotes-noticed, remotes-then, remotes-idle, remotes-freed, remotes-remote, remotes-counted, known-index}

remotes_at : (at_once b : Dir → ℕ) (f : ℕ → Trace) (v w : World) → v ≡ w → AllRemotes at_once b f w → AllRemotes at_once b f v
remotes_at at_once b f v w e s = let P : World → Type 0 = λ x. AllRemotes at_once b f x in subst P (sym e) s

-- the credit does not count
remotes_credit : (at_once b : Dir → ℕ) (f : ℕ → Trace) (w : World) (n : ℕ) → AllRemotes at_once b f w → AllRemotes at_once b f (with_credit w n)
remotes_credit at_once b f w n s Bi = s Bi
remotes_credit at_once b f w n s Uni = s Uni

remotes_resized : (at_once b : Dir → ℕ) (f : ℕ → Trace) (w : World) (n : ℕ) → AllRemotes at_once b f w → AllRemotes at_once b f (with_receive_window w n)
remotes_resized at_once b f w n s Bi = s Bi
remotes_resized at_once b f w n s Uni = s Uni

remotes_advanced : (at_once b : Dir → ℕ) (f : ℕ → Trace) (u : World) (id : ℕ) (old new : Half) → AllRemotes at_once b f (with_receive u id (Some new)) → AllRemotes at_once b f (advanced u id old new)
remotes_advanced at_once b f u id old new s Bi = s Bi
remotes_advanced at_once b f u id old new s Uni = s Uni

either : (at_once b : Dir → ℕ) (f : ℕ → Trace) (u v : World) (c : Bool) → (c ≡ true → AllRemotes at_once b f u) → (c ≡ false → AllRemotes at_once b f v) → AllRemotes at_once b f (if c then u else v)
either at_once b f u v true s t = s refl
either at_once b f u v false s t = t refl

module _ (begun : Credit) (at_once b : Dir → ℕ) (h : List Event) (e : Event) (u : World) (f : Facts begun h u) (x : AllRemotes at_once b (trace h) u) where
  abbrev g : ℕ → Trace
  g = trace (e ∷ h)

  -- a call that frees no half
  idle : (v : World) → ((q : ℕ) → (g q).gone ≡ (trace h q).gone) → SameRemotes u v → AllRemotes at_once b g v
  idle v gone s = remotes-idle at_once b (trace h) g u v gone s x

  not_next : (v : World) (id : ℕ) → ((q : ℕ) → id_refusal v q ≡ id_refusal u q) → id_refusal u id ≡ None → ((q : ℕ) → eqb q id ≡ false → g q ≡ trace h q)
      → (d : Dir) → (g (stream_id (other_side v.out.side) d (remote_of v d).max_remote)).gone ≡ false
  not_next v id same_refusals known others d =
      let k : ℕ = stream_id (other_side v.out.side) d (remote_of v d).max_remote in
      let refused = sym (same_refusals k) ∙ refusal-next d v in
      let new : trace h k ≡ untouched = new-from u.window (trace h k) (id_refusal u k) (u.receive k) _ refused (f.streams k) in
      by_cases (eqb k id)
      (λ t. absurd (let a : id_refusal u k ≡ None = ap (id_refusal u) (same k id t) ∙ known in cc))
      (λ n. ap (λ t. t.gone) (others k n ∙ new))

  -- a call that frees one
  frees : (v : World) (id : ℕ) → SameRemotes u v → ((q : ℕ) → id_refusal v q ≡ id_refusal u q) → id_refusal u id ≡ None → ((q : ℕ) → eqb q id ≡ false → g q ≡ trace h q)
      → (trace h id).gone ≡ false → (g id).gone ≡ true → AllRemotes at_once b g (with_freed v id)
  frees v id s same_refusals known others was is =
      remotes-freed at_once b (trace h) g v id (same_refusals id ∙ known) was is others (not_next v id same_refusals known others) (remotes-idle at_once b (trace h) (trace h) u v (λ q. refl) s x)

gone_others : (f g : ℕ → Trace) (id : ℕ) → ((q : ℕ) → eqb q id ≡ false → g q ≡ f q) → (g id).gone ≡ (f id).gone → (q : ℕ) → (g q).gone ≡ (f q).gone
gone_others f g id others here q = by_cases (eqb q id)
    (λ t. let e = same q id t in ap (λ k. (g k).gone) e ∙ here ∙ ap (λ k. (f k).gone) (sym e))
    (λ n. ap (λ t. t.gone) (others q n))

-- ---- a STREAM frame

not_kept : (b : Bool) {P : Type 0} → b ≡ false → b ≡ true → P
not_kept b e k = absurd (cc)

and_none : (b c : Bool) → c ≡ false → (b && c) ≡ false
and_none true c e = e
and_none false c e = refl

module _ (begun : Credit) (at_once b : Dir → ℕ) (h : List Event) (u : World) (id offset : ℕ) (bytes : List ℕ) (fin : Bool) (answer : Result ShouldTransmit ReceiveError) (f : Facts begun h u) (x : AllRemotes at_once b (trace h) u) where
  abbrev ef : Event
  ef = Received id offset bytes fin answer

  abbrev gf : ℕ → Trace
  gf = trace (ef ∷ h)

  abbrev t : Trace
  t = trace h id

  -- that changes nothing
  frame_none : (is_frame_kept answer ≡ true → is_closed t ≡ true) → AllRemotes at_once b gf u
  frame_none closed = idle begun at_once b h ef u f x u (λ q. ap (λ k. k.gone) (untold begun h u id offset bytes fin answer f closed q)) (record { side = refl; sends = refl; limits = λ d. record { max = refl; allocated = refl; concurrent = refl; opened = λ k. k; accepted = λ k. k } })

  frame_others : (q : ℕ) → eqb q id ≡ false → gf q ≡ trace h q
  frame_others q n = rw n refl

  module _ (old new : Half) (known : id_refusal u id ≡ None) (half : u.receive id ≡ Some old) (running : old.reset ≡ None) (kept : is_frame_kept answer ≡ true) where
    frame_was : HalfFrom u.window t old
    frame_was = half-from (trace h) u id old f.streams known half

    frame_here : (gf id).gone ≡ (t.stopped && fin)
    frame_here = rw (itself id, kept, open-trace t old frame_was running) refl

    frame_stays : (t.stopped && fin) ≡ false → AllRemotes at_once b gf (advanced u id old new)
    frame_stays e = remotes_advanced at_once b gf u id old new
        (idle begun at_once b h ef u f x (with_receive u id (Some new)) (gone_others (trace h) gf id frame_others (frame_here ∙ e ∙ sym frame_was.there)) (remotes-put u id (Some new)))

    frame_running : old.stopped ≡ false → AllRemotes at_once b gf (advanced u id old new)
    frame_running s = frame_stays (ap (λ b. b && fin) (sym frame_was.stopped ∙ s))

    put_same : SameRemotes u (advanced u id old new)
    put_same = let s = remotes-put u id (Some new) in record { side = s.side; sends = s.sends; limits = limits_of s }
      where
        limits_of : SameRemotes u (with_receive u id (Some new)) → (d : Dir) → SameLimits (remote_of u d) (remote_of (advanced u id old new) d)
        limits_of s Bi = s.limits Bi
        limits_of s Uni = s.limits Uni

    frame_noticed : old.stopped ≡ false → AllRemotes at_once b gf (noticed (advanced u id old new) id true)
    frame_noticed s = remotes-idle at_once b gf gf (advanced u id old new) (noticed (advanced u id old new) id true) (λ q. refl) (remotes-noticed (advanced u id old new) id true (known-index (advanced u id old new) id (refusal-advanced u id id old new ∙ known))) (frame_running s)

    frame_stopped : old.stopped ≡ true → AllRemotes at_once b gf (with_credit (if fin then with_freed (advanced u id old new) id else advanced u id old new) (new.end - old.end))
    frame_stopped s =
        let w = advanced u id old new in
        let n : ℕ = new.end - old.end in
        remotes_credit at_once b gf (if fin then with_freed w id else w) n
        (either at_once b gf (with_freed w id) w fin
        (λ c. frees begun at_once b h ef u f x w id put_same (λ q. refusal-advanced u id q old new) known frame_others frame_was.there (frame_here ∙ rw (sym frame_was.stopped ∙ s, c) refl))
        (λ c. frame_stays (and_none t.stopped fin c)))

remotes-received : (begun : Credit) (at_once b : Dir → ℕ) (h : List Event) (u v : World) (id offset : ℕ) (bytes : List ℕ) (fin : Bool) (answer : Result ShouldTransmit ReceiveError)
    → Facts begun h u → AllRemotes at_once b (trace h) u → Receives u id offset bytes fin answer v → AllRemotes at_once b (trace (Received id offset bytes fin answer ∷ h)) v
remotes-received begun at_once b h u v id offset bytes fin (Ok transmit) f x (inl s) =
    remotes_at at_once b (trace (Received id offset bytes fin (Ok transmit) ∷ h)) v u s.3 (frame_none begun at_once b h u id offset bytes fin (Ok transmit) f x (λ k. dropped-closed u.window (trace h id) (id_refusal u id) (u.receive id) s.0 (f.streams id) s.1))
remotes-received begun at_once b h u v id offset bytes fin (Ok transmit) f x (inr s) =
    let r = s.3 in
    by_cases s.1.stopped
    (λ k. remotes_at at_once b (trace (Received id offset bytes fin (Ok transmit) ∷ h)) v (with_credit (if fin then with_freed (advanced u id s.1 s.2) id else advanced u id s.1 s.2) (s.2.end - s.1.end)) (s.5 ∙ after_data_stopped u id s.1 s.2 fin k) (frame_stopped begun at_once b h u id offset bytes fin (Ok transmit) f x s.1 s.2 r.known r.half r.running refl k))
    (λ k. remotes_at at_once b (trace (Received id offset bytes fin (Ok transmit) ∷ h)) v (noticed (advanced u id s.1 s.2) id true) (s.5 ∙ after_data_running u id s.1 s.2 fin k) (frame_noticed begun at_once b h u id offset bytes fin (Ok transmit) f x s.1 s.2 r.known r.half r.running refl k))
remotes-received begun at_once b h u v id offset bytes fin (Err (receive_error.Transport error)) f x (inl s) =
    remotes_at at_once b (trace (Received id offset bytes fin (Err (receive_error.Transport error)) ∷ h)) v u s.1 (frame_none begun at_once b h u id offset bytes fin (Err (receive_error.Transport error)) f x (not_kept _ (refusal-code u id error.code s.0)))
remotes-received begun at_once b h u v id offset bytes fin (Err (receive_error.Transport error)) f x (inr s) = refused s.2.ingests
  where
    refused : Ingests s.0 offset bytes fin u.credit.data_recvd u.credit.local_max_data (Err (receive_error.Transport error)) s.1
        → AllRemotes at_once b (trace (Received id offset bytes fin (Err (receive_error.Transport error)) ∷ h)) v
    refused (inl k) =
        remotes_at at_once b (trace (Received id offset bytes fin (Err (receive_error.Transport error)) ∷ h)) v u (s.3 ∙ unmoved u id s.0 s.1 s.2.half k.1)
        (frame_none begun at_once b h u id offset bytes fin (Err (receive_error.Transport error)) f x
        (not_kept _ (refused-other s.0 offset (length bytes) fin u.credit.data_recvd u.credit.local_max_data error.code k.0)))
    refused (inr k) =
        remotes_at at_once b (trace (Received id offset bytes fin (Err (receive_error.Transport error)) ∷ h)) v (advanced u id s.0 s.1) s.3
        (frame_running begun at_once b h u id offset bytes fin (Err (receive_error.Transport error)) f x s.0 s.1 s.2.known s.2.half s.2.running (rw k.1 refl) k.4.running)
remotes-received begun at_once b h u v id offset bytes fin (Err receive_error.CompactionMemory) f x s =
    remotes_at at_once b (trace (Received id offset bytes fin (Err receive_error.CompactionMemory) ∷ h)) v (advanced u id s.0 s.1) s.3 (frame_running begun at_once b h u id offset bytes fin (Err receive_error.CompactionMemory) f x s.0 s.1 s.2.known s.2.half s.2.running refl s.2.ingests.2.running)
remotes-received begun at_once b h u v id offset bytes fin (Err receive_error.OutOfMemory) f x s =
    remotes_at at_once b (trace (Received id offset bytes fin (Err receive_error.OutOfMemory) ∷ h)) v u s (frame_none begun at_once b h u id offset bytes fin (Err receive_error.OutOfMemory) f x (not_kept false refl))

-- ---- a RESET_STREAM frame

same_remotes : (u : World) → SameRemotes u u
same_remotes u = record { side = refl; sends = refl; limits = λ d. record { max = refl; allocated = refl; concurrent = refl; opened = λ k. k; accepted = λ k. k } }

module _ (begun : Credit) (at_once b : Dir → ℕ) (h : List Event) (u : World) (id code final : ℕ) (transmit : ShouldTransmit) (f : Facts begun h u) (x : AllRemotes at_once b (trace h) u) where
  abbrev er : Event
  er = ReceivedReset id code final (Ok transmit)

  abbrev gr : ℕ → Trace
  gr = trace (er ∷ h)

  reset_none : is_closed (trace h id) ≡ true → AllRemotes at_once b gr u
  reset_none closed = idle begun at_once b h er u f x u (λ q. ap (λ k. k.gone) (untold-closed begun h u id code final transmit f closed q)) (same_remotes u)

  reset_others : (q : ℕ) → eqb q id ≡ false → gr q ≡ trace h q
  reset_others q n = rw n refl

  module _ (old new : Half) (known : id_refusal u id ≡ None) (half : u.receive id ≡ Some old) (running : old.reset ≡ None) where
    reset_was : HalfFrom u.window (trace h id) old
    reset_was = half-from (trace h) u id old f.streams known half

    reset_here : (gr id).gone ≡ (trace h id).stopped
    reset_here = rw (itself id, open-trace (trace h id) old reset_was running) refl

    abbrev wr : World
    wr = advanced u id old new

    abbrev xr : World
    xr = noticed wr id (not old.stopped)

    reset_put : SameRemotes u wr
    reset_put = let s = remotes-put u id (Some new) in record { side = s.side; sends = s.sends; limits = limits_of s }
      where
        limits_of : SameRemotes u (with_receive u id (Some new)) → (d : Dir) → SameLimits (remote_of u d) (remote_of wr d)
        limits_of s Bi = s.limits Bi
        limits_of s Uni = s.limits Uni

    reset_same : SameRemotes u xr
    reset_same = remotes-then u wr xr reset_put (remotes-noticed wr id (not old.stopped) (known-index wr id (refusal-advanced u id id old new ∙ known)))

    remotes_after : AllRemotes at_once b gr (after_reset u id old new)
    remotes_after =
        let y = if old.stopped then with_freed xr id else xr in
        let n : ℕ = new.end - credited_to old in
        let all : AllRemotes at_once b gr y = either at_once b gr (with_freed xr id) xr old.stopped
        (λ s. frees begun at_once b h er u f x xr id reset_same (λ q. refusal-noticed wr id (not old.stopped) q ∙ refusal-advanced u id q old new) known reset_others reset_was.there
        (reset_here ∙ sym reset_was.stopped ∙ s))
        (λ s. idle begun at_once b h er u f x xr (gone_others (trace h) gr id reset_others (reset_here ∙ sym reset_was.stopped ∙ s ∙ sym reset_was.there)) reset_same) in
        either at_once b gr y (with_credit y n) (n == 0) (λ k. all) (λ k. remotes_credit at_once b gr y n all)

remotes-reset : (begun : Credit) (at_once b : Dir → ℕ) (h : List Event) (u v : World) (id code final : ℕ) (answer : Result ShouldTransmit ReceiveError)
    → Facts begun h u → AllRemotes at_once b (trace h) u → ReceivesReset u id code final answer v → AllRemotes at_once b (trace (ReceivedReset id code final answer ∷ h)) v
remotes-reset begun at_once b h u v id code final (Ok transmit) f x (inl s) =
    remotes_at at_once b (trace (ReceivedReset id code final (Ok transmit) ∷ h)) v u s.3 (reset_none begun at_once b h u id code final transmit f x (or-second (is_some (trace h id).reset) (trace h id).gone (gone-from (trace h) u id f.streams s.0 s.1)))
remotes-reset begun at_once b h u v id code final (Ok transmit) f x (inr (inl s)) =
    let was = half-from (trace h) u id s.0 f.streams s.2.known s.2.half in
    remotes_at at_once b (trace (ReceivedReset id code final (Ok transmit) ∷ h)) v u s.4 (reset_none begun at_once b h u id code final transmit f x (or-first (is_some (trace h id).reset) (trace h id).gone (ap (λ (o : Option ℕ). is_some o) (sym was.reset) ∙ s.2.resets.1)))
remotes-reset begun at_once b h u v id code final (Ok transmit) f x (inr (inr s)) =
    remotes_at at_once b (trace (ReceivedReset id code final (Ok transmit) ∷ h)) v (after_reset u id s.0 s.1) s.4 (remotes_after begun at_once b h u id code final transmit f x s.0 s.1 s.2.known s.2.half s.2.resets.1)
remotes-reset begun at_once b h u v id code final (Err (receive_error.Transport error)) f x (inl s) = remotes_at at_once b (trace (ReceivedReset id code final (Err (receive_error.Transport error)) ∷ h)) v u s.1 x
remotes-reset begun at_once b h u v id code final (Err (receive_error.Transport error)) f x (inr s) = remotes_at at_once b (trace (ReceivedReset id code final (Err (receive_error.Transport error)) ∷ h)) v u s.3 x
remotes-reset begun at_once b h u v id code final (Err receive_error.CompactionMemory) f x s = absurd s
remotes-reset begun at_once b h u v id code final (Err receive_error.OutOfMemory) f x s = remotes_at at_once b (trace (ReceivedReset id code final (Err receive_error.OutOfMemory) ∷ h)) v u s x

-- ---- reads

remotes_half : (at_once b : Dir → ℕ) (f : ℕ → Trace) (u : World) (id : ℕ) (new : Half) → AllRemotes at_once b f u → AllRemotes at_once b f (with_receive u id (Some new))
remotes_half at_once b f u id new x = remotes-idle at_once b f f u (with_receive u id (Some new)) (λ q. refl) (remotes-put u id (Some new)) x

remotes-began : (begun : Credit) (at_once b : Dir → ℕ) (h : List Event) (u v : World) (id : ℕ) (ordered : Bool) (answer : Result (Unit {0}) ReadableError) → AllRemotes at_once b (trace h) u → Begins u id ordered answer v
    → AllRemotes at_once b (trace h) v
remotes-began begun at_once b h u v id ordered (Ok y) x s = remotes_at at_once b (trace h) v (with_receive u id (Some s.new)) s.is (remotes_half at_once b (trace h) u id s.new x)
remotes-began begun at_once b h u v id ordered (Err readable_error.ClosedStream) x s = remotes_at at_once b (trace h) v u s.1 x
remotes-began begun at_once b h u v id ordered (Err readable_error.IllegalOrderedRead) x s = remotes_at at_once b (trace h) v (with_receive u id (Some s.new)) s.is (remotes_half at_once b (trace h) u id s.new x)
remotes-began begun at_once b h u v id ordered (Err readable_error.OutOfMemory) x (inl s) = remotes_at at_once b (trace h) v u s x
remotes-began begun at_once b h u v id ordered (Err readable_error.OutOfMemory) x (inr s) = remotes_at at_once b (trace h) v (with_receive u id (Some s.new)) s.is (remotes_half at_once b (trace h) u id s.new x)

module _ (begun : Credit) (at_once b : Dir → ℕ) (h : List Event) (u : World) (id most : ℕ) (ordered : Bool) (answer : Result (Option Chunk) ReadError) (old : Half) (f : Facts begun h u) (x : AllRemotes at_once b (trace h) u) (half : u.receive id ≡ Some old) where
  abbrev eg : Event
  eg = Gave id most ordered answer

  gave_known : id_refusal u id ≡ None
  gave_known = known-from (trace h) u id old f.streams half

  gave_was : HalfFrom u.window (trace h id) old
  gave_was = half-from (trace h) u id old f.streams gave_known half

  gave_others : (q : ℕ) → eqb q id ≡ false → trace (eg ∷ h) q ≡ trace h q
  gave_others q n = rw n refl

  gave_here : trace (eg ∷ h) id ≡ with_read ordered answer (trace h id)
  gave_here = rw (itself id) refl

  gave_put : (new : Half) → (with_read ordered answer (trace h id)).gone ≡ (trace h id).gone → AllRemotes at_once b (trace (eg ∷ h)) (with_receive u id (Some new))
  gave_put new e = idle begun at_once b h eg u f x (with_receive u id (Some new)) (gone_others (trace h) (trace (eg ∷ h)) id gave_others (ap (λ k. k.gone) gave_here ∙ e)) (remotes-put u id (Some new))

  gave_freed : (with_read ordered answer (trace h id)).gone ≡ true → AllRemotes at_once b (trace (eg ∷ h)) (with_freed u id)
  gave_freed e = frees begun at_once b h eg u f x u id (same_remotes u) (λ q. refl) gave_known gave_others gave_was.there (ap (λ k. k.gone) gave_here ∙ e)

remotes-gave : (begun : Credit) (at_once b : Dir → ℕ) (h : List Event) (u v : World) (id most : ℕ) (ordered : Bool) (answer : Result (Option Chunk) ReadError) → Facts begun h u → AllRemotes at_once b (trace h) u → ReadsHalf u id most ordered answer v
    → AllRemotes at_once b (trace (Gave id most ordered answer ∷ h)) v
remotes-gave begun at_once b h u v id most ordered (Ok (Some chunk)) f x s = remotes_at at_once b (trace (Gave id most ordered (Ok (Some chunk)) ∷ h)) v (with_receive u id (Some s.new)) s.is (gave_put begun at_once b h u id most ordered (Ok (Some chunk)) s.old f x s.half s.new refl)
remotes-gave begun at_once b h u v id most ordered (Ok None) f x s = remotes_at at_once b (trace (Gave id most ordered (Ok None) ∷ h)) v (with_freed u id) s.is (gave_freed begun at_once b h u id most ordered (Ok None) s.old f x s.half refl)
remotes-gave begun at_once b h u v id most ordered (Err read_error.Blocked) f x s = remotes_at at_once b (trace (Gave id most ordered (Err read_error.Blocked) ∷ h)) v (with_receive u id (Some s.new)) s.is (gave_put begun at_once b h u id most ordered (Err read_error.Blocked) s.old f x s.half s.new refl)
remotes-gave begun at_once b h u v id most ordered (Err (read_error.Reset code)) f x s = remotes_at at_once b (trace (Gave id most ordered (Err (read_error.Reset code)) ∷ h)) v (with_freed u id) s.is (gave_freed begun at_once b h u id most ordered (Err (read_error.Reset code)) s.old f x s.half refl)
remotes-gave begun at_once b h u v id most ordered (Err read_error.OutOfMemory) f x s = remotes_at at_once b (trace (Gave id most ordered (Err read_error.OutOfMemory) ∷ h)) v (with_receive u id (Some s.new)) s.is (gave_put begun at_once b h u id most ordered (Err read_error.OutOfMemory) s.old f x s.half s.new refl)

-- ---- a stop, and the code of a reset

remotes-stopped : (begun : Credit) (at_once b : Dir → ℕ) (h : List Event) (u v : World) (id code : ℕ) (answer : Result (Unit {0}) HandleError) (p q : Pending) → Facts begun h u → AllRemotes at_once b (trace h) u
    → Stops u id code p answer v q → AllRemotes at_once b (trace (Stopped id code answer ∷ h)) v
remotes-stopped begun at_once b h u v id code (Ok y) p q f x s =
    let e = Stopped id code (Ok y) in
    let g = trace (e ∷ h) in
    let old = s.0 in
    let new = s.1 in
    let known = known-from (trace h) u id old f.streams s.2 in
    let was = half-from (trace h) u id old f.streams known s.2 in
    let others = λ (k : ℕ) (n : eqb k id ≡ false). stop_others h id code k n in
    let here = stop_here h id code in
    let z = if is_some old.size then with_freed u id else with_receive u id (Some new) in
    remotes_at at_once b g v (after_stop u id old new) s.6
    (remotes_credit at_once b g z (stop_credit old)
    (either at_once b g (with_freed u id) (with_receive u id (Some new)) (is_some old.size)
    (λ k. frees begun at_once b h e u f x u id (same_remotes u) (λ j. refl) known others was.there (here ∙ sym was.sized ∙ k))
    (λ k. idle begun at_once b h e u f x (with_receive u id (Some new)) (gone_others (trace h) g id others (here ∙ sym was.sized ∙ k ∙ sym was.there)) (remotes-put u id (Some new)))))
  where
    stop_others : (h : List Event) (id code k : ℕ) → eqb k id ≡ false → trace (Stopped id code (Ok tt) ∷ h) k ≡ trace h k
    stop_others h id code k n = rw n refl

    stop_here : (h : List Event) (id code : ℕ) → (trace (Stopped id code (Ok tt) ∷ h) id).gone ≡ (trace h id).sized
    stop_here h id code = rw (itself id) refl
remotes-stopped begun at_once b h u v id code (Err handle_error.ClosedStream) p q f x s = remotes_at at_once b (trace (Stopped id code (Err handle_error.ClosedStream) ∷ h)) v u s.1 x
remotes-stopped begun at_once b h u v id code (Err handle_error.OutOfMemory) p q f x s = remotes_at at_once b (trace (Stopped id code (Err handle_error.OutOfMemory) ∷ h)) v u s.0 x

told_others : (h : List Event) (id code k : ℕ) → eqb k id ≡ false → trace (ToldReset id (Ok (Some code)) ∷ h) k ≡ trace h k
told_others h id code k n = rw n refl

told_here : (h : List Event) (id code : ℕ) → (trace (ToldReset id (Ok (Some code)) ∷ h) id).gone ≡ true
told_here h id code = rw (itself id) refl

remotes-told : (begun : Credit) (at_once b : Dir → ℕ) (h : List Event) (u v : World) (id : ℕ) (answer : Result (Option ℕ) HandleError) (p q : Pending) → Facts begun h u → AllRemotes at_once b (trace h) u
    → TellsReset u id p answer v q → AllRemotes at_once b (trace (ToldReset id answer ∷ h)) v
remotes-told begun at_once b h u v id (Ok (Some code)) p q f x s =
    let known = known-from (trace h) u id s.0 f.streams s.1 in
    let was = half-from (trace h) u id s.0 f.streams known s.1 in
    remotes_at at_once b (trace (ToldReset id (Ok (Some code)) ∷ h)) v (with_freed u id) s.4
    (frees begun at_once b h (ToldReset id (Ok (Some code))) u f x u id (same_remotes u) (λ j. refl) known (λ k n. told_others h id code k n) was.there (told_here h id code))
remotes-told begun at_once b h u v id (Ok None) p q f x s = remotes_at at_once b (trace (ToldReset id (Ok None) ∷ h)) v u s.4 x
remotes-told begun at_once b h u v id (Err handle_error.ClosedStream) p q f x s = remotes_at at_once b (trace (ToldReset id (Err handle_error.ClosedStream) ∷ h)) v u s.1 x
remotes-told begun at_once b h u v id (Err handle_error.OutOfMemory) p q f x s = remotes_at at_once b (trace (ToldReset id (Err handle_error.OutOfMemory) ∷ h)) v u s.3 x

pub kept-remotes : (begun : Credit) (at_once : Dir → ℕ) (h : List Event) (u : World) (e : Event) (v : World) → Facts begun h u → AllRemotes at_once (λ d. (remote_of u d).max_remote) (trace h) u → Step u e v
    → AllRemotes (with_count_set e at_once) (λ d. (remote_of u d).max_remote) (trace (e ∷ h)) v
kept-remotes begun at_once h u (Received id offset bytes fin answer) v f x s = remotes-received begun at_once (λ d. (remote_of u d).max_remote) h u v id offset bytes fin answer f x s
kept-remotes begun at_once h u (ReceivedReset id code final answer) v f x s = remotes-reset begun at_once (λ d. (remote_of u d).max_remote) h u v id code final answer f x s
kept-remotes begun at_once h u (AddedCredits count answer) v f x s = let b : Dir → ℕ = λ d. (remote_of u d).max_remote in remotes_at at_once b (trace h) v (with_credit u count) s.0 (remotes_credit at_once b (trace h) u count x)
kept-remotes begun at_once h u (Began id ordered answer) v f x s = remotes-began begun at_once (λ d. (remote_of u d).max_remote) h u v id ordered answer x s
kept-remotes begun at_once h u (Gave id most ordered answer) v f x s = remotes-gave begun at_once (λ d. (remote_of u d).max_remote) h u v id most ordered answer f x s
kept-remotes begun at_once h u (Ended id count) v f x s = let b : Dir → ℕ = λ d. (remote_of u d).max_remote in remotes_at at_once b (trace h) v (with_credit u count) s (remotes_credit at_once b (trace h) u count x)
kept-remotes begun at_once h u (Stopped id code answer) v f x s = remotes-stopped begun at_once (λ d. (remote_of u d).max_remote) h u v id code answer s.0 s.1 f x s.2
kept-remotes begun at_once h u (ToldReset id answer) v f x s = remotes-told begun at_once (λ d. (remote_of u d).max_remote) h u v id answer s.0 s.1 f x s.2
kept-remotes begun at_once h u (Resized size answer) v f x s = let b : Dir → ℕ = λ d. (remote_of u d).max_remote in remotes_at at_once b (trace h) v (with_receive_window u size) s.0 (remotes_resized at_once b (trace h) u size x)
kept-remotes begun at_once h u (SetConcurrent dir count (Ok k)) v f x s = let b : Dir → ℕ = λ d. (remote_of u d).max_remote in
    remotes_at (with_count_of dir count at_once) b (trace h) v (after_concurrent u dir count) s (remotes-concurrent (trace h) u f.streams at_once dir count x)
kept-remotes begun at_once h u (SetConcurrent dir count (Err k)) v f x s = remotes_at at_once (λ d. (remote_of u d).max_remote) (trace h) v u s x
kept-remotes begun at_once h u (Accepted dir answer) v f x s = let b : Dir → ℕ = λ d. (remote_of u d).max_remote in
    remotes_at at_once b (trace h) v (with_accepted u dir) s.0
    (remotes-idle at_once b (trace h) (trace h) u (with_accepted u dir) (λ q. refl) (remotes-counted u (with_remote u dir (one_accepted (remote_of u dir))) _ (remotes-remote u dir (one_accepted (remote_of u dir)) (one-accepted (remote_of u dir)))) x)
kept-remotes begun at_once h u (LeftPending kind frame) v f x s = remotes-settled at_once (λ d. (remote_of u d).max_remote) h kind frame u v (announces kind u s.0 frame v s.1 s.2) x
kept-remotes begun at_once h u (Sending e) v f x s = remotes-sending at_once (λ d. (remote_of u d).max_remote) (trace h) u e v f.streams x s
kept-remotes begun at_once h u Rejected v f x s = remotes-rejected at_once (λ d. (remote_of u d).max_remote) h u v s.0 s.1 x
kept-remotes begun at_once h u (SentAgain (Ok k)) v f x s = remotes-spared at_once (λ d. (remote_of u d).max_remote) (trace h) u v (spares-again u v _ s.1.2) x
kept-remotes begun at_once h u (SentAgain (Err k)) v f x s = remotes_at at_once (λ d. (remote_of u d).max_remote) (trace h) v u s.1 x
