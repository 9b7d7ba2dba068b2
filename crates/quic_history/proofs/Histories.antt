-- Each call keeps what a history says.
use Rattle.std.proofs.Common.{◌≡◌, ℕ, false, true, Bool, refl, subst, ◌∙◌, List, [], ◌∷◌, Option, Result, Ok, Err, arith, ◌+◌, ◌-◌, ◌^◌, ◌≤◌}
use Rattle.std.specs.Prelude.{min}
use Rattle.quic_assembler.specs.declared.chunk.Chunk.{Chunk}
use Rattle.quic_receiving.specs.declared.errors.ReadError.{ReadError}
use Rattle.quic_history.specs.declared.progress.Progress.{Progress}
use Rattle.quic_history.specs.declared.progress.Progress.TheVariants as progress
use Rattle.quic_history.specs.Reading.{is_ended, ReadsHalf}
use Rattle.quic_history.specs.World.{World, sends, Made, count_of, remote_of}
use Rattle.quic_history.specs.History.{Event, Received, ReceivedReset, AddedCredits, Began, Gave, Ended, Stopped, ToldReset, Resized, SetConcurrent, Accepted, LeftPending, Sending, Step, Fits, Facts, From, IsRun, PermitsNow, EverPermits, with_next, before, RemoteFrom, counts, is_freed, trace, consumed, last_window, debt, received, Rejected, SentAgain, since}
use Rattle.quic_history.proofs.Credits.{credit-credited, credit-resized, credit-same, limit-fits}
use Rattle.quic_history.proofs.SentHistory.{kept-sent}
use Rattle.quic_history.proofs.ControlSteps.{facts-settled}
use Rattle.quic_history.proofs.FlowHistory.{kept-sends}
use Rattle.quic_history.proofs.RestHistory.{kept-rest}
use Rattle.quic_history.proofs.UsedHistory.{kept-used, used-few}
use Rattle.quic_limits.specs.Remote.{Remote}
use Rattle.quic_history.proofs.WritesTold.{writes-told}
use Rattle.quic_history.proofs.ToldEvents.{queues}
use Rattle.quic_values.specs.declared.ids.Dir.TheVariants.{Bi}
use Rattle.quic_history.proofs.SendSteps.{facts-sending}
use Rattle.quic_history.proofs.EarlyFacts.{facts-rejected, facts-again, spares-again, spares-nothing}
use Rattle.quic_history.proofs.Permits.{all-concurrent, all-accepted, credit-concurrent, credit-accepted}
use Rattle.quic_limits.specs.Credit.{Credit, resized}
use Rattle.quic_history.proofs.Endings.{kept-told-of, tells-ends}
use Rattle.quic_history.proofs.Remotes.{rebased}
use Rattle.quic_history.proofs.RemoteHistory.{kept-remotes}
use Rattle.quic_history.proofs.Limits.{goes}
use Rattle.quic_history.proofs.FrameHistory.{kept-received}
use Rattle.quic_history.proofs.ResetHistory.{kept-reset}
use Rattle.quic_history.proofs.ReadHistory.{kept-began, kept-gave, kept-ended, kept-stopped, kept-told}

kept : (begun : Credit) (h : List Event) (u : World) (e : Event) (v : World) → Facts begun h u → Step u e v → Facts begun (e ∷ h) v
kept begun h u (Received id offset bytes fin answer) v f s = kept-received begun h u v id offset bytes fin answer f s
kept begun h u (ReceivedReset id code final answer) v f s = kept-reset begun h u v id code final answer f s
kept begun h u (AddedCredits count answer) v f s = rw s.0 (record {
  credit = credit-credited (last_window begun h) (consumed h) (debt begun h) (received h) count u.credit f.credit;
  streams = f.streams;
})
kept begun h u (Began id ordered answer) v f s = kept-began begun h u v id ordered answer f s
kept begun h u (Gave id most ordered answer) v f s = kept-gave begun h u v id most ordered answer f s
kept begun h u (Ended id count) v f s = kept-ended begun h u v id count f s
kept begun h u (Stopped id code answer) v f s = kept-stopped begun h u v id code answer s.0 s.1 f s.2
kept begun h u (ToldReset id answer) v f s = kept-told begun h u v id answer s.0 s.1 f s.2
kept begun h u (Resized size answer) v f s = rw s.0 (record {
  credit = credit-same size (consumed h) (min (debt begun h + (last_window begun h - size)) (2 ^ 64 - 1)) (received h) _ _ _ (resized u.credit size) (omega arith) (omega arith) refl
      (credit-resized (last_window begun h) (consumed h) (debt begun h) (received h) size u.credit f.credit);
  streams = f.streams;
})
kept begun h u (SetConcurrent dir count (Ok k)) v f s = rw s (record {
  credit = rw (credit-concurrent u dir count) (credit-same (last_window begun h) (consumed h) (debt begun h) (received h) _ _ _ u.credit (omega arith) (omega arith) refl f.credit);
  streams = all-concurrent (trace h) u dir count f.streams;
})
kept begun h u (SetConcurrent dir count (Err k)) v f s = rw s (record {
  credit = credit-same (last_window begun h) (consumed h) (debt begun h) (received h) _ _ _ u.credit (omega arith) (omega arith) refl f.credit;
  streams = f.streams;
})
kept begun h u (Accepted dir answer) v f s = rw s.0 (record {
  credit = rw (credit-accepted u dir) (credit-same (last_window begun h) (consumed h) (debt begun h) (received h) _ _ _ u.credit (omega arith) (omega arith) refl f.credit);
  streams = all-accepted (trace h) u dir f.streams;
})
kept begun h u (LeftPending kind frame) v f s = facts-settled begun h kind frame u v s.0 s.1 f s.2
kept begun h u (Sending e) v f s = facts-sending begun h u e v f s
kept begun h u Rejected v f s = facts-rejected begun h u v f s.0 s.1
kept begun h u (SentAgain (Ok x)) v f s = facts-again begun h u v (Ok x) f (spares-again u v _ s.1.2)
kept begun h u (SentAgain (Err x)) v f s = facts-again begun h u v (Err x) f (spares-nothing u v s.1)

pub permits-now : (m : Made) (h : List Event) (v : World) (run : IsRun m h v) → EverPermits m h v run → PermitsNow m h v run
permits-now m [] v run p = p
permits-now m (e ∷ h) v run p = p.0

accepted_room : (at_once b : ℕ) (g : ℕ → Bool) (r : Remote) → RemoteFrom at_once b g r → r.next_reported ≤ r.max_remote
accepted_room at_once b g r x = let o = x.opened in let a = x.accepted in omega arith

start_few : (m : Made) (h : List Event) (u : World) → IsRun m h u → m.bi.max_remote ≤ 2 ^ 60
start_few m [] u s = s.bi.few
start_few m (e ∷ h) u s = start_few m h s.0 s.1

-- an end that may come from a history may come, after a call, from the history with that call
pub next : (m : Made) (h : List Event) (u : World) (e : Event) (v : World) → Fits h e → From m h u → Step u e v → From m (e ∷ h) v
next m h u e v fits f s =
    let begun : Credit = m.credit in
    let went = goes h u e v (limit-fits _ _ _ _ u.credit f.facts.credit) s in
    let facts = kept begun h u e v f.facts s in
    let told = kept-told-of begun h u e v f.facts s (λ q. (f.ends q, f.given q)) in
    let permits = kept-remotes begun (counts (count_of m) h) h u e v f.facts
    (λ d. rebased (counts (count_of m) h d) (before m h u f.run d) (is_freed (trace h) u.out.side (sends u) d) (remote_of u d) (permits-now m h u f.run f.remotes d)) s in
    let sent = kept-sent (since h) u e v (limit-fits _ _ _ _ u.credit f.facts.credit) f.sent s in
    let sends = kept-sends m h u e v f.side (went.side ∙ f.side) f.sent f.sends (permits Bi) s in
    record {
      run = (u, f.run, fits, s, went);
      side = went.side ∙ f.side;
      window = went.window ∙ f.window;
      facts = facts;
      given = λ q. (told q).1;
      ends = λ q. (told q).0;
      tells = tells-ends begun (e ∷ h) v facts;
      remotes = (permits, f.remotes);
      sent = sent;
      sends = sends;
      writes = writes-told m (e ∷ h) v (went.side ∙ f.side) sent sends;
      queued = (u.events, f.queued, queues m h u f.side f.sent f.sends e v s);
      used = kept-used m h u v (accepted_room _ _ _ u.bi (permits-now m h u f.run f.remotes Bi)) f.sends
          (used-few m (e ∷ h) v (start_few m h u f.run) sent sends (accepted_room _ _ _ v.bi (permits Bi))) f.used e s;
      rest = kept-rest m h u e v (limit-fits _ _ _ _ u.credit f.facts.credit) f.side f.sent f.sends f.rest s;
    }

-- the same for an answer of a reader that may go on
pub next-answer : (m : Made) (h : List Event) (p : Progress) (u v : World) (id most : ℕ) (ordered : Bool) (r : Result (Option Chunk) ReadError) → is_ended p ≡ false → From m h u
    → ReadsHalf u id most ordered r v → From m (with_next p id most ordered r h) v
next-answer m h progress.Readable u v id most ordered r e f s = next m h u (Gave id most ordered r) v tt f s
next-answer m h (progress.Reset code) u v id most ordered r e f s = cc
next-answer m h progress.Finished u v id most ordered r e f s = cc

told_again : (p : Progress) (id most : ℕ) (ordered : Bool) (r : Result (Option Chunk) ReadError) (h : List Event) → is_ended p ≡ true → h ≡ with_next p id most ordered r h
told_again progress.Readable id most ordered r h e = cc
told_again (progress.Reset code) id most ordered r h e = refl
told_again progress.Finished id most ordered r h e = refl

-- and for one that tells again what it told at the end
pub next-told : (m : Made) (h : List Event) (p : Progress) (u : World) (id most : ℕ) (ordered : Bool) (r : Result (Option Chunk) ReadError) → is_ended p ≡ true → From m h u
    → From m (with_next p id most ordered r h) u
next-told m h p u id most ordered r e f = let P : List Event → Type 0 = λ k. From m k u in subst P (told_again p id most ordered r h e) f
