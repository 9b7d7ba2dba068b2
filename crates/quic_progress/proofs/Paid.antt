-- Whatever steps led to a pair since it was made, or since the server rejected what the client had sent early, each end came from calls of
-- which every reader was ended, and that stopped each stream that was stopped.
use Rattle.std.proofs.Common.{◌≡◌, ◌⊎◌, ℕ, Bool, true, false, List, [], ◌∷◌, Ok, Err, refl, sym, ap, ◌∙◌, subst, inl, inr, arith}
use Rattle.std.specs.Prelude.{◌&&◌, ◌==◌, take, if◌then◌else◌}
use Rattle.std.specs.List.{concat}
use Rattle.std.proofs.lemmas.Bool.Decides.{nat_tests}
use Rattle.quic_wire.specs.declared.event.StreamEvent.{StreamEvent}
use Rattle.quic_wire.specs.declared.event.StreamEvent.TheVariants as stream_event
use Rattle.quic_outgoing.specs.declared.limits.PeerLimits.{PeerLimits}
use Rattle.quic_outgoing.specs.Outgoing.{with_params}
use Rattle.quic_history.specs.World.{World, Made, start}
use Rattle.quic_history.specs.Sends.{with_out}
use Rattle.quic_history.specs.SendEvents.{GaveLimits}
use Rattle.quic_history.specs.History.{Event, Stopped as StoppedEvent, Sending, From, IsStart}
use Rattle.quic_history.proofs.Beginnings.{begins}
use Rattle.quic_history.proofs.Histories.{next as next-call}
use Rattle.quic_history.proofs.Unopened.{given-unopened}
use Rattle.quic_link.specs.Endpoints.{IsOneOf, WasStoppedWith}
use Rattle.quic_link.proofs.Ends.{ArePlain}
use Rattle.quic_endpoint.specs.Ends.{EndState}
use Rattle.quic_steps.specs.declared.steps.End.{End}
use Rattle.quic_steps.specs.declared.steps.End.TheVariants.{A, B}
use Rattle.quic_steps.specs.declared.steps.Step.{Step}
use Rattle.quic_steps.specs.declared.steps.Step.TheVariants as steps
use Rattle.quic_steps.specs.declared.steps.Last.{Last}
use Rattle.quic_steps.specs.declared.steps.Last.TheVariants as last
use Rattle.quic_steps.specs.declared.steps.Reply.TheVariants.{Done, DoneTransmit, Fault, Id, Wrote, WroteChunks, Stopped, Read, Code, Event as EventReply}
use Rattle.quic_steps.specs.declared.steps.PairError.TheVariants.{OutOfMemory as NoMemory}
use Rattle.quic_exchange.specs.Replies.{Answer}
use Rattle.quic_exchange.specs.State.{PairState, peer, the_end}
use Rattle.quic_exchange.specs.Steps.{NextOrdinary}
use Rattle.quic_exchange.specs.History.{History, Past, Flow, after, past_of, with_flow, ends_flow, resets_with, stops_with, tells_reset, tells_stop, completes, writes_more, reads_chunks, reads_last, after_event, is_same_end}
use Rattle.quic_exchange.specs.From.{end_begun}
use Rattle.quic_exchange.proofs.Flips.{peer-peer}
use Rattle.quic_exchange.proofs.Origins.{Origin}
use Rattle.quic_exchange.proofs.Eras.{EraFrom, IsBegun, Changes, begun, next, changed, accepts, retries}
use Rattle.quic_exchange.proofs.Grown.{past-after}
use Rattle.quic_exchange.proofs.Recounted.{made_at}
use Rattle.quic_progress.proofs.Spent.{outstanding}
use Rattle.quic_progress.proofs.Whole.{Runs}
use Rattle.quic_progress.proofs.WholeSteps.{step-runs, stop-runs, changed-runs}

-- ---- the stops of a flow

same_if : (b : Bool) (f g : Flow) → g.stops ≡ f.stops → (if b then g else f).stops ≡ f.stops
same_if true f g e = e
same_if false f g e = refl

with_same : (who id : _) (change : Flow → Flow) (p : Past) (end : End) (q : ℕ) → ((f : Flow) → (change f).stops ≡ f.stops) → ((with_flow who id change p).flow end q).stops ≡ (p.flow end q).stops
with_same who id change p end q c = same_if (is_same_end end who && (q == id)) (p.flow end q) (change (p.flow end q)) (c (p.flow end q))

last_same : (l : Last) (f : Flow) → (reads_last l f).stops ≡ f.stops
last_same last.Ended f = refl
last_same (last.Reset code) f = refl
last_same _ f = refl

event_same : (p : Past) (who end : End) (q : ℕ) (event : StreamEvent) → ((after_event p who event).flow end q).stops ≡ (p.flow end q).stops
event_same p who end q (stream_event.Finished id) = with_same who id completes p end q (λ f. refl)
event_same p who end q (stream_event.Stopped id code) = with_same who id (tells_stop code) p end q (λ f. refl)
event_same p who end q _ = refl

-- a step other than one that stops a stream, and begins nothing anew
abbrev pub KeepsStops : Step → Answer → Type 0
KeepsStops (steps.Stop who id code) (Ok Done) = ⊥
KeepsStops steps.EarlyReject (Ok Done) = ⊥
KeepsStops step reply = Unit {0}

stops_kept : (p : Past) (step : Step) (reply : Answer) → KeepsStops step reply → (end : End) (q : ℕ) → ((after p step reply).flow end q).stops ≡ (p.flow end q).stops
stops_kept p (steps.Open who dir) (Ok (Id id)) k end q = refl
stops_kept p (steps.Accept who dir) (Ok (Id id)) k end q = refl
stops_kept p (steps.Write who id bytes) (Ok (Wrote count)) k end q = with_same who id (writes_more (take count bytes)) p end q (λ f. refl)
stops_kept p (steps.Write who id bytes) (Ok (Stopped code)) k end q = with_same who id (tells_stop code) p end q (λ f. refl)
stops_kept p (steps.WriteChunks who id chunks) (Ok (WroteChunks written)) k end q = with_same who id (writes_more (take written.bytes (concat chunks))) p end q (λ f. refl)
stops_kept p (steps.WriteChunks who id chunks) (Ok (Stopped code)) k end q = with_same who id (tells_stop code) p end q (λ f. refl)
stops_kept p (steps.Finish who id) (Ok Done) k end q = with_same who id ends_flow p end q (λ f. refl)
stops_kept p (steps.Finish who id) (Ok (Stopped code)) k end q = with_same who id (tells_stop code) p end q (λ f. refl)
stops_kept p (steps.Reset who id code) (Ok Done) k end q = with_same who id (resets_with code) p end q (λ f. refl)
stops_kept p (steps.Stop who id code) (Ok Done) k end q = absurd k
stops_kept p (steps.Read who id ordered most times) (Ok (Read chunks l transmit)) k end q = with_same (peer who) id (λ f. reads_last l (reads_chunks ordered chunks.items f)) p end q (λ f. last_same l (reads_chunks ordered chunks.items f))
stops_kept p (steps.ReceivedReset who id) (Ok (Code code)) k end q = with_same (peer who) id (tells_reset code) p end q (λ f. refl)
stops_kept p (steps.Poll who) (Ok (EventReply event)) k end q = event_same p who end q event
stops_kept p (steps.Deliver number index) (Ok Done) k end q = refl
stops_kept p (steps.Deliver number index) (Ok DoneTransmit) k end q = refl
stops_kept p (steps.Deliver number index) (Ok (Fault fault)) k end q = refl
stops_kept p (steps.Lose number) (Ok Done) k end q = refl
stops_kept p (steps.Lose number) (Err NoMemory) k end q = refl
stops_kept p (steps.Ack number) (Ok Done) k end q = refl
stops_kept p (steps.Ack number) (Err NoMemory) k end q = refl
stops_kept p steps.EarlyReject (Ok Done) k end q = absurd k
stops_kept p steps.Retry (Ok Done) k end q = refl
stops_kept p _ _ k end q = refl

one_more : (b : Bool) (f : Flow) (code given : ℕ) → IsOneOf given (if b then stops_with code f else f).stops → (IsOneOf given f.stops) ⊎ ((b ≡ true) × (given ≡ code))
one_more true f code given (inl e) = inr (refl, e)
one_more true f code given (inr i) = inl i
one_more false f code given i = inl i

-- ---- an end

pub record PaidAt (m : Made) (p : Past) (who : End) (w : World) : Type 0 where
  pub calls : List Event
  pub from : From m calls w
  pub plain : ArePlain calls
  pub none : outstanding calls ≡ 0
  pub stops : (id code : ℕ) → IsOneOf code (p.flow (peer who) id).stops → WasStoppedWith calls id code

paid_on : (m : Made) (p q : Past) (who : End) (u v : World) → ((id : ℕ) → (q.flow (peer who) id).stops ≡ (p.flow (peer who) id).stops) → Runs m u v → PaidAt m p who u → PaidAt m q who v
paid_on m p q who u v same r x =
    let k = r x.calls x.from x.plain in
    record {
      calls = k.calls;
      from = k.from;
      plain = k.plain;
      none = k.same ∙ x.none;
      stops = λ id code i. let P : List ℕ → Type 0 = λ l. IsOneOf code l in k.stays _ (x.stops id code (subst P (same id) i));
    }

both_true : (a b : Bool) → (a && b) ≡ true → (a ≡ true) × (b ≡ true)
both_true true b e = (refl, e)
both_true false b e = cc

same_end : (a b : End) → is_same_end a b ≡ true → a ≡ b
same_end A A e = refl
same_end B B e = refl
same_end A B e = cc
same_end B A e = cc

same_number : (a b : ℕ) → (a == b) ≡ true → a ≡ b
same_number a b e = grind (arith, nat_tests)

module _ (m : End → Made) (p : Past) (old new : PairState) (paid : (who : End) → PaidAt (m who) p who (the_end old who).streams) where
  -- the end that stopped it has the call
  paid_stopped : (who : End) (id code : ℕ) → NextOrdinary old (steps.Stop who id code) (Ok Done) new → PaidAt (m who) (after p (steps.Stop who id code) (Ok Done)) who (the_end new who).streams
  paid_stopped who id code n =
      let x = paid who in
      let k = stop-runs old new (m who) who id code n x.calls x.from x.plain in
      record {
        calls = k.0.calls;
        from = k.0.from;
        plain = k.0.plain;
        none = k.0.same ∙ x.none;
        stops = λ q given i. elim (one_more (is_same_end (peer who) (peer who) && (q == id)) (p.flow (peer who) q) code given i) [
          | inl before ↦ k.0.stays _ (x.stops q given before)
          | inr now ↦ (let P : ℕ → Type 0 = λ c. IsOneOf (StoppedEvent q c (Ok tt)) k.0.calls in
              let Q : ℕ → Type 0 = λ j. IsOneOf (StoppedEvent j code (Ok tt)) k.0.calls in
              subst P (sym now.1) (subst Q (sym (same_number q id (both_true _ (q == id) now.0).1)) k.1))
        ];
      }

  paid_beside : (who other : End) (id code : ℕ) → (other ≡ who → ⊥) → NextOrdinary old (steps.Stop who id code) (Ok Done) new → PaidAt (m other) (after p (steps.Stop who id code) (Ok Done)) other (the_end new other).streams
  paid_beside who other id code differ n =
      let x = paid other in
      let k = step-runs old new m (steps.Stop who id code) (Ok Done) n other x.calls x.from x.plain in
      record {
        calls = k.calls;
        from = k.from;
        plain = k.plain;
        none = k.same ∙ x.none;
        stops = λ q given i. elim (one_more (is_same_end (peer other) (peer who) && (q == id)) (p.flow (peer other) q) code given i) [
          | inl before ↦ k.stays _ (x.stops q given before)
          | inr now ↦ absurd (differ (sym (peer-peer other) ∙ ap peer (same_end (peer other) (peer who) (both_true (is_same_end (peer other) (peer who)) (q == id) now.0).0) ∙ peer-peer who))
        ];
      }

  paid_stop : (who : End) (id code : ℕ) → NextOrdinary old (steps.Stop who id code) (Ok Done) new → (other : End) → PaidAt (m other) (after p (steps.Stop who id code) (Ok Done)) other (the_end new other).streams
  paid_stop A id code n A = paid_stopped A id code n
  paid_stop B id code n B = paid_stopped B id code n
  paid_stop A id code n B = paid_beside A B id code (λ e. cc) n
  paid_stop B id code n A = paid_beside B A id code (λ e. cc) n

  paid_kept : (step : Step) (reply : Answer) → KeepsStops step reply → NextOrdinary old step reply new → (who : End) → PaidAt (m who) (after p step reply) who (the_end new who).streams
  paid_kept step reply k n who = paid_on (m who) p (after p step reply) who _ _ (λ id. stops_kept p step reply k (peer who) id) (step-runs old new m step reply n who) (paid who)

  pub paid-next : (step : Step) (reply : Answer) → NextOrdinary old step reply new → (who : End) → PaidAt (m who) (after p step reply) who (the_end new who).streams
  paid-next (steps.Stop who id code) (Ok Done) n = paid_stop who id code n
  paid-next steps.EarlyReject (Ok Done) n = absurd n
  paid-next step reply n = paid_kept step reply tt n

-- ---- from the beginning of an era

paid_first : (m : Made) (limits : PeerLimits) (who : End) (p : Past) (e : EndState) → ((id : ℕ) → (p.flow (peer who) id).stops ≡ []) → e ≡ end_begun m limits → IsStart m (start m) → PaidAt m p who e.streams
paid_first m limits who p e none is starts =
    let c = Sending (GaveLimits limits (Ok tt)) in
    let w = with_out (start m) (with_params (start m).out limits) in
    let P : EndState → Type 0 = λ x. PaidAt m p who x.streams in
    subst P (sym is) (record {
      calls = c ∷ [];
      from = next-call m [] (start m) c w tt (begins m (start m) starts) (sym (given-unopened (start m) limits refl refl));
      plain = (refl, tt);
      none = refl;
      stops = λ id code i. absurd (let Q : List ℕ → Type 0 = λ l. IsOneOf code l in subst Q (none id) i);
    })

paid_begun : (a b : Origin) (v : PairState) → IsBegun a b v → (who : End) → PaidAt (made_at a b who) (past_of []) who (the_end v who).streams
paid_begun a b v n A = paid_first (made_at a b A) a.limits A (past_of []) v.a (λ id. refl) n.of_a n.ends.first
paid_begun a b v n B = paid_first (made_at a b B) b.limits B (past_of []) v.b (λ id. refl) n.of_b n.ends.second

changed_stops : {b : Origin} {p : Past} {old new : PairState} (step : Step) → Changes b p old new step → (end : End) (q : ℕ) → ((after p step (Ok Done)).flow end q).stops ≡ (p.flow end q).stops
changed_stops step (accepts k within few) end q = refl
changed_stops step (retries k m did mine accepted kept) end q = refl

pub paid-from : {a b : Origin} {h : History} {v : PairState} (f : EraFrom a b h v) (who : End) → PaidAt (made_at a b who) (past_of h) who (the_end v who).streams
paid-from {a} {b} {h} {v} (begun n) who = paid_begun a b v n who
paid-from {a} {b} (next {h} {old} {new} step reply f n) who =
    let Q : Past → Type 0 = λ p. PaidAt (made_at a b who) p who (the_end new who).streams in
    subst Q (sym (past-after h step reply)) (paid-next (made_at a b) (past_of h) old new (λ k. paid-from f k) step reply n who)
paid-from {a} {b} (changed {h} {old} {new} step f c) who =
    let Q : Past → Type 0 = λ p. PaidAt (made_at a b who) p who (the_end new who).streams in
    subst Q (sym (past-after h step (Ok Done))) (paid_on (made_at a b who) (past_of h) (after (past_of h) step (Ok Done)) who (the_end old who).streams (the_end new who).streams (λ id. changed_stops step c (peer who) id) (changed-runs old new (made_at a b who) step c who) (paid-from f who))
