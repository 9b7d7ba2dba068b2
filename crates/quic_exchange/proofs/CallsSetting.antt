-- A pair, once the application of an end opened or accepted a stream, set a window, a count or a priority, or asked what it is to be told.
use Rattle.std.proofs.Common.{◌≡◌, ℕ, Bool, true, false, Some, None, Result, Ok, Err, Option, refl, sym, ap, ◌∙◌, subst, inl, inr, arith, ◌<◌}
use Rattle.std.specs.Prelude.{ℤ, is_ok, nat_lt, if◌then◌else◌}
use Rattle.std.proofs.lemmas.Bool.Decides.{nat_tests}
use Rattle.quic_values.specs.Ids.{dir_of, index_of}
use Rattle.quic_outgoing.specs.Outgoing.{own_of}
use Rattle.quic_history.specs.Acknowledged.{was_given}
use Rattle.quic_values.specs.declared.memory.OutOfMemory.{OutOfMemory}
use Rattle.quic_values.specs.declared.ids.Dir.{Dir}
use Rattle.quic_wire.specs.declared.event.StreamEvent.{StreamEvent}
use Rattle.quic_wire.specs.declared.event.StreamEvent.TheVariants as stream_event
use Rattle.quic_retransmits.specs.Pending.{Pending}
use Rattle.quic_history.specs.World.{World, is_own, remote_of}
use Rattle.quic_history.specs.Permitting.{acceptable, with_accepted}
use Rattle.quic_history.specs.SendEvents.{OpenedOwn, SetWindow, SetOwnPriority, Polled}
use Rattle.quic_history.specs.History.{Event, Accepted, Resized, SetConcurrent, Sending, Step, Fits}
use Rattle.quic_link.specs.Endpoints.{LinkedEnd, MayAct, acted, IsHonest, WasGiven}
use Rattle.quic_link.specs.Promises.{IsTrueEvent}
use Rattle.quic_link.specs.Asked.{AreAsked}
use Rattle.quic_link.proofs.Readings.{asked-streams}
use Rattle.quic_link.proofs.Promised.{promised}
use Rattle.quic_endpoint.specs.Ends.{EndState, OpensAt, with_world, with_window_set, with_counts_told_if}
use Rattle.quic_steps.specs.declared.steps.End.{End}
use Rattle.quic_steps.specs.declared.steps.Step.TheVariants as steps
use Rattle.quic_steps.specs.declared.steps.PairError.TheVariants.{UnknownId}
use Rattle.quic_exchange.specs.Replies.{Answer, opened_reply, accepted_reply, event_reply}
use Rattle.quic_exchange.specs.Calls.{Opens, Accepts, OnGiven, SetsPriorityOn, SetsSendWindow, SetsReceiveWindow, SetsMaxConcurrent, Polls}
use Rattle.quic_exchange.specs.State.{PairState, OnEnd, the_end, with_end}
use Rattle.quic_exchange.specs.History.{Past, after, after_given, after_poll, after_event, completes, tells_stop}
use Rattle.quic_exchange.proofs.Joined.{Seen, Sees}
use Rattle.quic_exchange.proofs.CallsFlows.{onward-call, known-first, known-stop, known-complete, whole-first}
use Rattle.quic_exchange.proofs.Gives.{gave-none, given-opened, given-accepted}
use Rattle.quic_exchange.proofs.CallsSeen.{Called, called-once, quiet-accepts, sees-sent, sees-given, sees-quiet, sees-stays, sends-same, reads-same, step-at}

-- what an end has to send was asked for, as it had it before
pub asked-same : (x : LinkedEnd) (p q : Pending) → q ≡ p → AreAsked x p → AreAsked x q
asked-same x p q e a = let P : Pending → Type 0 = λ k. AreAsked x k in subst P (sym e) a

-- where counts of streams are told
pub told-streams : (told : Bool) (e : EndState) → (with_counts_told_if told e).streams ≡ e.streams
told-streams true e = refl
told-streams false e = refl

pub asked-told : (x : LinkedEnd) (told : Bool) (e : EndState) → AreAsked x e.pending → AreAsked x (with_counts_told_if told e).pending
asked-told x true e a = asked-streams x e.streams e.pending a
asked-told x false e a = a

-- a step on a stream that the application was not given is refused
pub sees-unknown : (p : Past) (who : End) (old new : PairState) (x y : LinkedEnd) (q : Answer → Past) (reply : Answer) (f : EndState) → Seen p who old x y → reply ≡ Err UnknownId → q (Err UnknownId) ≡ p → f ≡ the_end old who → new ≡ with_end old who f
    → Sees (q reply) who new x y
sees-unknown p who old new x y q reply f s e same is now =
    let P : Past → Type 0 = λ k. Sees k who new x y in
    subst P (sym (ap q e ∙ same)) (sees-stays p who old new x y f s is now)

-- a stream that counts as given was given
pub was-given : (w : World) (id : ℕ) → was_given w id ≡ true → WasGiven w id
was-given w id e = by (is_own w id) e
  where
    less : (a b : ℕ) → nat_lt a b ≡ true → a < b
    less a b k = grind (arith, nat_tests)

    by : (own : Bool) → (if own then nat_lt (index_of id) (own_of w.out (dir_of id)).opened else nat_lt (index_of id) (remote_of w (dir_of id)).next_reported) ≡ true
        → index_of id < (if own then (own_of w.out (dir_of id)).opened else (remote_of w (dir_of id)).next_reported)
    by true k = less _ _ k
    by false k = less _ _ k

module _ (p : Past) (who : End) (old new : PairState) (x y : LinkedEnd) where
  -- a call of the end, by a step of the value that it has in the pair
  pub may-act : Seen p who old x y → (e : Event) (v : World) → IsHonest x y e → Fits x.calls e → Step (the_end old who).streams e v → MayAct x y e v
  may-act s e v honest fits step = record { fits = fits; honest = honest; step = step-at x.world (the_end old who).streams v e s.here.world step }

  -- a stream that counts as given in the pair was given
  pub given-here : Seen p who old x y → (id : ℕ) → was_given (the_end old who).streams id ≡ true → WasGiven x.world id
  given-here s id g = let P : World → Type 0 = λ w. WasGiven w id in subst P (sym s.here.world) (was-given (the_end old who).streams id g)

  -- on a stream that the application was given, or not
  pub on-given : (id : ℕ) (reply : Answer) (f : EndState) (q : Answer → Past) (Does : Type 0) → Seen p who old x y → q (Err UnknownId) ≡ p → new ≡ with_end old who f → OnGiven (the_end old who) id reply f Does
      → (was_given (the_end old who).streams id ≡ true → Does → Sees (q reply) who new x y) → Sees (q reply) who new x y
  on-given id reply f q Does s same now d known = elim d [
    | inl k ↦ known k.0 k.1
    | inr k ↦ sees-unknown p who old new x y q reply f s k.1 same k.2 now
  ]

  opened_any : (dir : Dir) → Seen p who old x y → (f : EndState) → new ≡ with_end old who f → (answer : Result (Option ℕ) OutOfMemory) → OpensAt (the_end old who) dir answer f → Sees (after_given p who (opened_reply answer)) who new x y
  opened_any dir s f now (Ok (Some id)) o =
      let e = Sending (OpenedOwn dir false (Ok (Some id))) in
      sees-given p who id old new x y f e f.streams s (may-act s e f.streams tt tt o.0) refl refl refl tt (given-opened x (p.ids who) s.sends.ids dir id f.streams) refl
      (asked-same x (the_end old who).pending f.pending o.1 s.here.pending) now
  opened_any dir s f now (Ok None) o =
      let e = Sending (OpenedOwn dir false (Ok None)) in
      sees-quiet p who old new x y f e f.streams s (may-act s e f.streams tt tt o.0) refl refl refl tt refl (asked-same x (the_end old who).pending f.pending o.1 s.here.pending) now
  opened_any dir s f now (Err error) o =
      let e = Sending (OpenedOwn dir false (Err error)) in
      sees-quiet p who old new x y f e f.streams s (may-act s e f.streams tt tt o.0) refl refl refl tt refl (asked-same x (the_end old who).pending f.pending o.1 s.here.pending) now

  pub seen-open : (dir : Dir) (reply : Answer) → Seen p who old x y → OnEnd (λ e f. Opens e dir reply f) old who new → Sees (after p (steps.Open who dir) reply) who new x y
  seen-open dir reply s d =
      let P : Answer → Type 0 = λ k. Sees (after_given p who k) who new x y in
      subst P (sym d.does.reply_is) (opened_any dir s d.end d.is d.does.answer d.does.opens)

  accepted_any : (dir : Dir) → Seen p who old x y → (f : EndState) → new ≡ with_end old who f → f ≡ with_world (the_end old who) (with_accepted (the_end old who).streams dir) → (answer : Option ℕ) → answer ≡ acceptable (the_end old who).streams dir
      → Sees (after_given p who (accepted_reply answer)) who new x y
  accepted_any dir s f now is (Some id) k =
      let e = Accepted dir (Some id) in
      sees-given p who id old new x y f e f.streams s (may-act s e f.streams tt tt (ap (λ (j : EndState). j.streams) is, k)) refl refl refl tt (given-accepted x (p.ids who) s.sends.ids dir id f.streams) refl
      (asked-same x (the_end old who).pending f.pending (ap (λ (j : EndState). j.pending) is) s.here.pending) now
  accepted_any dir s f now is None k =
      let e = Accepted dir None in
      sees-quiet p who old new x y f e f.streams s (may-act s e f.streams tt tt (ap (λ (j : EndState). j.streams) is, k)) refl refl refl tt refl
      (asked-same x (the_end old who).pending f.pending (ap (λ (j : EndState). j.pending) is) s.here.pending) now

  pub seen-accept : (dir : Dir) (reply : Answer) → Seen p who old x y → OnEnd (λ e f. Accepts e dir reply f) old who new → Sees (after p (steps.Accept who dir) reply) who new x y
  seen-accept dir reply s d =
      let P : Answer → Type 0 = λ k. Sees (after_given p who k) who new x y in
      subst P (sym d.does.reply_is) (accepted_any dir s d.end d.is d.does.is (acceptable (the_end old who).streams dir) refl)

  pub seen-send-window : (window : ℕ) (reply : Answer) → Seen p who old x y → OnEnd (λ e f. SetsSendWindow e window reply f) old who new → Sees (after p (steps.SetSendWindow who window) reply) who new x y
  seen-send-window window reply s d =
      let o = d.does in
      let f = d.end in
      let e = Sending (SetWindow window) in
      sees-quiet p who old new x y f e f.streams s (may-act s e f.streams tt tt (ap (λ (k : EndState). k.streams) o.1)) refl refl refl tt refl
      (asked-same x (the_end old who).pending f.pending (ap (λ (k : EndState). k.pending) o.1) s.here.pending) d.is

  pub seen-receive-window : (window : ℕ) (reply : Answer) → Seen p who old x y → OnEnd (λ e f. SetsReceiveWindow e window reply f) old who new → Sees (after p (steps.SetReceiveWindow who window) reply) who new x y
  seen-receive-window window reply s d =
      let o = d.does in
      let f = d.end in
      let e = Resized window o.larger in
      let a = s.here.pending in
      let told : AreAsked x (with_window_set (the_end old who) window o.larger).pending = record { resets = a.resets; stops = a.stops; windows = a.windows } in
      sees-quiet p who old new x y f e f.streams s (may-act s e f.streams tt tt (ap (λ (k : EndState). k.streams) o.is, o.larger_is)) refl refl refl tt refl
      (asked-same x (with_window_set (the_end old who) window o.larger).pending f.pending (ap (λ (k : EndState). k.pending) o.is) told) d.is

  pub seen-max-concurrent : (dir : Dir) (count : ℕ) (reply : Answer) → Seen p who old x y → OnEnd (λ e f. SetsMaxConcurrent e dir count reply f) old who new → Sees (after p (steps.SetMaxConcurrent who dir count) reply) who new x y
  seen-max-concurrent dir count reply s d =
      let o = d.does.sets in
      let f = d.end in
      let answer = d.does.answer in
      let told = is_ok answer in
      let e = SetConcurrent dir count answer in
      let asked = asked-told x told o.set (asked-same x (the_end old who).pending o.set.pending o.pending s.here.pending) in
      sees-quiet p who old new x y f e o.set.streams s (may-act s e o.set.streams tt tt o.sets) refl refl refl tt (ap (λ (k : EndState). k.streams) o.is ∙ told-streams told o.set)
      (asked-same x (with_counts_told_if told o.set).pending f.pending (ap (λ (k : EndState). k.pending) o.is) asked) d.is

  pub seen-priority : (id : ℕ) (priority : ℤ) (reply : Answer) → Seen p who old x y → OnEnd (λ e f. OnGiven e id reply f (SetsPriorityOn e id priority reply f)) old who new → Sees (after p (steps.SetPriority who id priority) reply) who new x y
  seen-priority id priority reply s d =
      on-given id reply d.end (λ k. p) (SetsPriorityOn (the_end old who) id priority reply d.end) s refl d.is d.does
      (λ given o.
      let f = d.end in
      let e = Sending (SetOwnPriority id priority o.answer) in
      sees-quiet p who old new x y f e f.streams s (may-act s e f.streams tt tt o.sets.0) refl refl refl tt refl (asked-same x (the_end old who).pending f.pending o.sets.1 s.here.pending) d.is)

  -- ---- what the application is to be told

  module _ (s : Seen p who old x y) (f : EndState) (now : new ≡ with_end old who f) (pending : f.pending ≡ (the_end old who).pending) (event : Option StreamEvent) (step : Step (the_end old who).streams (Sending (Polled event)) f.streams) where
    polled_may : MayAct x y (Sending (Polled event)) f.streams
    polled_may = may-act s (Sending (Polled event)) f.streams tt tt step

    polled_call : Called who old new x y (acted x (Sending (Polled event)) f.streams)
    polled_call =
        let e = Sending (Polled event) in
        let o = onward-call x y e f.streams s.linked polled_may in
        called-once who old new x y e f.streams f o refl (o.asked f.pending (asked-same x (the_end old who).pending f.pending pending s.here.pending)) now (quiet-accepts x e f.streams tt)

    polled_none : Sees p who new x y
    polled_none = sees-quiet p who old new x y f (Sending (Polled event)) f.streams s polled_may refl refl refl tt refl (asked-same x (the_end old who).pending f.pending pending s.here.pending) now

    -- an event that is told is true
    polled_some : (g : StreamEvent) → event ≡ Some g → IsTrueEvent x y g
    polled_some g is =
        let P : Option StreamEvent → Type 0 = λ k. MayAct x y (Sending (Polled k)) f.streams in
        (promised s.linked).0.answers (Sending (Polled (Some g))) f.streams (subst P is polled_may)

    polled_event : (g : StreamEvent) → event ≡ Some g → Sees (after_event p who g) who new x y
    polled_event (stream_event.Finished id) is =
        let e = Sending (Polled event) in
        let z = acted x e f.streams in
        let c = polled_call in
        let true_now = polled_some (stream_event.Finished id) is in
        sees-sent p who old new x y z s c (gave-none x e f.streams tt) id completes (λ q n. sends-same x y e f.streams polled_may refl refl q) (reads-same x y e f.streams polled_may refl tt)
        (λ k. known-complete (p.flow who id) z y id (known-first x y z c.onward id (p.flow who id) (sends-same x y e f.streams polled_may refl refl id) k) (whole-first x y z c.onward id true_now))
    polled_event (stream_event.Stopped id code) is =
        let e = Sending (Polled event) in
        let z = acted x e f.streams in
        let c = polled_call in
        let true_now = polled_some (stream_event.Stopped id code) is in
        sees-sent p who old new x y z s c (gave-none x e f.streams tt) id (tells_stop code) (λ q n. sends-same x y e f.streams polled_may refl refl q) (reads-same x y e f.streams polled_may refl tt)
        (λ k. known-stop (p.flow who id) z y id (known-first x y z c.onward id (p.flow who id) (sends-same x y e f.streams polled_may refl refl id) k) code true_now)
    polled_event (stream_event.Opened dir) is = polled_none
    polled_event (stream_event.Readable id) is = polled_none
    polled_event (stream_event.Writable id) is = polled_none
    polled_event (stream_event.Available dir) is = polled_none

    polled_any : (told : Option StreamEvent) → event ≡ told → Sees (after_poll p who (event_reply told)) who new x y
    polled_any None is = polled_none
    polled_any (Some g) is = polled_event g is

  pub seen-poll : (reply : Answer) → Seen p who old x y → OnEnd (λ e f. Polls e reply f) old who new → Sees (after p (steps.Poll who) reply) who new x y
  seen-poll reply s d =
      let o = d.does in
      let P : Answer → Type 0 = λ k. Sees (after_poll p who k) who new x y in
      subst P (sym o.reply_is) (polled_any s d.end d.is o.pending o.event o.polls o.event refl)
