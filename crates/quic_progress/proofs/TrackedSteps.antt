-- Each step keeps track of what was announced.
use Rattle.std.proofs.Common.{◌≡◌, ℕ, Bool, true, false, List, [], ◌∷◌, ◌++◌, length, Option, Some, None, Result, Ok, Err, refl, sym, ap, ◌∙◌, subst, inl, inr, arith, ◌≤◌, ◌-◌, ◌^◌}
use Rattle.std.specs.Prelude.{slice_get, slice_index_or, unwrap_or, if◌then◌else◌}
use Rattle.std.specs.Option.{option_map}
use Rattle.std.proofs.lemmas.Option.{none-some, same_Some}
use Rattle.quic_values.specs.declared.memory.OutOfMemory.{OutOfMemory}
use Rattle.quic_wire.specs.Frames.{AreFrames}
use Rattle.quic_receiving.specs.Half.{Half, is_open, window_end}
use Rattle.quic_retransmits.specs.Pending.{nothing}
use Rattle.quic_retransmits.specs.Settling.{noted_in}
use Rattle.quic_history.specs.World.{World}
use Rattle.quic_streams.specs.declared.settling.SentPayload.{SentPayload}
use Rattle.quic_streams.specs.Settling.{SentView}
use Rattle.quic_streams.specs.Sent.{sent_view}
use Rattle.quic_link.specs.Endpoints.{IsOneOf}
use Rattle.quic_endpoint.specs.Ends.{EndState}
use Rattle.quic_endpoint.specs.Emitting.{PayloadView}
use Rattle.quic_steps.specs.declared.steps.End.{End}
use Rattle.quic_steps.specs.declared.steps.End.TheVariants.{A, B}
use Rattle.quic_steps.specs.declared.steps.Step.{Step}
use Rattle.quic_steps.specs.declared.steps.Step.TheVariants as steps
use Rattle.quic_steps.specs.declared.steps.Reply.TheVariants.{Payload}
use Rattle.quic_steps.specs.declared.steps.PairError.TheVariants.{OutOfMemory as NoMemory}
use Rattle.quic_exchange.specs.Sent.{Sent}
use Rattle.quic_exchange.specs.Payloads.{SentText, is_accepted, noted_of}
use Rattle.quic_exchange.specs.Replies.{Answer}
use Rattle.quic_exchange.specs.State.{PairState, peer, the_end, with_end, with_sent}
use Rattle.quic_exchange.specs.Steps.{NextOrdinary}
use Rattle.quic_exchange.specs.Tale.{Tales, StepTells}
use Rattle.quic_exchange.specs.History.{Past}
use Rattle.quic_exchange.proofs.Emissions.{EmitsSome, EmittedSome, emitted-some, emitted-part}
use Rattle.quic_exchange.proofs.Lists.{slice_get-push, slice_get-append_left, one-of-first}
use Rattle.quic_exchange.proofs.Marks.{sent_on_end}
use Rattle.quic_exchange.proofs.Origins.{Origin}
use Rattle.quic_exchange.proofs.Joined.{Joined}
use Rattle.quic_exchange.proofs.Flips.{seen-as}
use Rattle.quic_progress.proofs.Permissions.{Permission, AllData, DataOn, StreamsOf, frame_of, is_asked, next_limit_in, announced_of, unannounced, IsWithin}
use Rattle.quic_progress.proofs.Grows.{AllGrow, all-grow, told-less, told-grown, heard_of}
use Rattle.quic_progress.proofs.Emitted.{Emptied, emptied, noted-asked}
use Rattle.quic_progress.proofs.Ends.{EndLeaves, may_of, WritesNone, ends-same, step-leaves}
use Rattle.quic_progress.proofs.Tracked.{UnderWay, Tracks, AreHeard, Which, IsTracked, Forth, way-forth, tracked-same, tracked-delivered, tracked-loses, tracked-acks}

-- ---- a payload is written

last_there : {X : Type 0} (xs : List X) (x : X) → slice_get (xs ++ x ∷ []) (length xs) ≡ Some x
last_there [] x = refl
last_there (y ∷ xs) x = last_there xs x

some_rest : (rest : Option SentPayload) (view : SentView) → option_map sent_view rest ≡ Some view → (r : SentPayload) × (rest ≡ Some r) × (sent_view r ≡ view)
some_rest None view e = absurd (none-some view e)
some_rest (Some r) view e = (r, refl, same_Some (sent_view r) view e)

next_small : (window : ℕ) (o : Option Half) → next_limit_in window o ≤ 2 ^ 62 - 1
next_small window None = omega arith
next_small window (Some h) = by (is_open h)
  where
    by : (b : Bool) → (if b then window_end h window else 0) ≤ 2 ^ 62 - 1
    by true = omega arith
    by false = omega arith

-- what an end announces a frame can tell
told_whole : (k : Permission) (w : World) → IsWithin w → announced_of k w ≤ heard_of k (announced_of k w)
told_whole AllData w i = omega arith
told_whole (DataOn id) w i = let a = i.halves id in let b = next_small w.window (w.receive id) in omega (arith, a, b)
told_whole (StreamsOf d) w i = omega arith

no_mark : (s : Sent) (index : ℕ) → s.text.accepted ≡ [] → is_accepted s.text index ≡ true → ⊥
no_mark s index e h = let k = sym (ap (λ l. slice_index_or l index false) e) ∙ h in cc

module _ {some : Which} (old new : PairState) (t u : Tales) (c : IsTracked some old t) (g : AllGrow t u) (who : End) (most : ℕ) (fair : Bool) (answer : Result (Unit {0}) OutOfMemory) (payload : PayloadView) (e : EmitsSome old who most fair answer payload new) (x : Emptied (the_end old who) e.end payload) where
  sent_then : new.sent ≡ old.sent ++ e.sent ∷ []
  sent_then = ap (λ (v : PairState). v.sent) e.is

  forth : Forth old.sent new.sent
  forth number s is = (s, ap (λ l. slice_get l number) sent_then ∙ slice_get-append_left old.sent (e.sent ∷ []) number s is, refl, refl, refl)

  heard : AreHeard u new.sent
  heard number s all index k n got spelled at marked = elim (slice_get-push old.sent e.sent number s (ap (λ l. slice_get l number) (sym sent_then) ∙ got)) [
    | inl before ↦ told-grown k (heard_of k n) (t.of (peer s.writer)) (u.of (peer s.writer)) (g (peer s.writer)) (c.heard number s all index k n before spelled at marked)
    | inr now ↦ absurd (no_mark s index (ap (λ (v : Sent). v.text.accepted) now.1 ∙ ap (λ (v : SentText). v.accepted) e.sent_is.text) marked)
  ]

  -- the payload has the frame
  under_way : (k : Permission) → IsOneOf (frame_of k (announced_of k e.end.streams)) x.front → UnderWay k (announced_of k e.end.streams) new.sent who
  under_way k h =
      let r = some_rest e.sent.unsettled.rest payload.sent e.sent_is.rest in
      let P : List ℕ → Type 0 = λ b. AreFrames b (x.front ++ x.behind) in
      let noted : noted_in r.0.control ≡ noted_of nothing x.front = ap (λ (v : SentView). unwrap_or v.control nothing) r.2 ∙ x.noted in
      record {
        number = length old.sent;
        payload = e.sent;
        is = ap (λ l. slice_get l (length old.sent)) sent_then ∙ last_there old.sent e.sent;
        writer = e.sent_is.writer;
        rest = r.0;
        rest_is = r.1;
        asked = ap (is_asked k) noted ∙ noted-asked k nothing (announced_of k e.end.streams) x.front h;
        all = x.front ++ x.behind;
        spelled = subst P (sym (ap (λ (v : SentText). v.bytes) e.sent_is.text)) x.spelled;
        limit = announced_of k e.end.streams;
        listed = one-of-first (frame_of k (announced_of k e.end.streams)) x.front x.behind h;
        enough = told_whole k e.end.streams x.within;
      }

  same_first : (k : Permission) → unannounced k e.end.streams ≡ unannounced k (the_end old who).streams
  same_first AllData = refl
  same_first (DataOn id) = x.window
  same_first (StreamsOf d) = refl

  here : (k : Permission) → some who k ≡ true → Tracks k (announced_of k e.end.streams) e.end (u.of (peer who)) new.sent who
  here k on = elim (x.does k) [
    | inl kept ↦ elim (c.tracks who k on) [
      | inl none ↦ inl (let a = kept.0 in let b = same_first k in omega (arith, none, a, b))
      | inr (inl told) ↦ inr (inl (let a = kept.0 in told-grown k _ (t.of (peer who)) (u.of (peer who)) (g (peer who)) (told-less k _ _ (t.of (peer who)) (omega (arith, a)) told)))
      | inr (inr (inl asked)) ↦ inr (inr (inl (kept.1 asked)))
      | inr (inr (inr w)) ↦ (let P : ℕ → Type 0 = λ n. UnderWay k n new.sent who in inr (inr (inr (subst P (sym kept.0) (way-forth k _ old.sent new.sent who forth w)))))
    ]
    | inr (inl said) ↦ inr (inr (inr (under_way k said.0)))
    | inr (inr none) ↦ inl (let a = none.0 in omega (arith, a))
  ]

  there : (other : End) → (k : Permission) → some other k ≡ true → Tracks k (announced_of k (the_end old other).streams) (the_end old other) (u.of (peer other)) new.sent other
  there other k on = elim (c.tracks other k on) [
    | inl none ↦ inl none
    | inr (inl told) ↦ inr (inl (told-grown k _ (t.of (peer other)) (u.of (peer other)) (g (peer other)) told))
    | inr (inr (inl asked)) ↦ inr (inr (inl asked))
    | inr (inr (inr w)) ↦ inr (inr (inr (way-forth k _ old.sent new.sent other forth w)))
  ]

  -- of one end
  abbrev Kept : End → EndState → Type 0
  Kept other f = IsWithin f.streams × ((id : ℕ) → some other (DataOn id) ≡ true → f.streams.window ≤ ((u.of (peer other)).flow id).limit) × ((k : Permission) → some other k ≡ true → Tracks k (announced_of k f.streams) f (u.of (peer other)) new.sent other)

  first_grown : (other : End) (window : ℕ) → ((id : ℕ) → some other (DataOn id) ≡ true → window ≤ ((t.of (peer other)).flow id).limit) → (id : ℕ) → some other (DataOn id) ≡ true → window ≤ ((u.of (peer other)).flow id).limit
  first_grown other window l id on = let a = l id on in let b = ((g (peer other)).flow id).limit in omega (arith, a, b)

  kept_here : Kept who e.end
  kept_here = (x.within, (let P : ℕ → Type 0 = λ n. (id : ℕ) → some who (DataOn id) ≡ true → n ≤ ((u.of (peer who)).flow id).limit in subst P (sym x.window) (first_grown who (the_end old who).streams.window (c.firsts who))), here)

  kept_there : (other : End) → Kept other (the_end old other)
  kept_there other = (c.within other, first_grown other (the_end old other).streams.window (c.firsts other), there other)

  kept_by : (w other : End) (f : EndState) → Kept w f → Kept other (the_end (with_sent (with_end old w f) (old.sent ++ e.sent ∷ [])) other)
  kept_by A A f k = k
  kept_by A B f k = kept_there B
  kept_by B A f k = kept_there A
  kept_by B B f k = k

  kept : (other : End) → Kept other (the_end new other)
  kept other = let P : PairState → Type 0 = λ v. Kept other (the_end v other) in subst P (sym e.is) (kept_by who other e.end kept_here)

  tracked_emits : IsTracked some new u
  tracked_emits = record { within = λ other. (kept other).0; firsts = λ other. (kept other).1; heard = heard; tracks = λ other. (kept other).2 }

module _ {some : Which} (a b : Origin) (p : Past) (old new : PairState) (j : Joined a b p old) (t u : Tales) (c : IsTracked some old t) (g : AllGrow t u) (who : End) (most : ℕ) (fair : Bool) where
  emits_tracked : (answer : Result (Unit {0}) OutOfMemory) (payload : PayloadView) → EmitsSome old who most fair answer payload new → IsTracked some new u
  emits_tracked answer payload e = tracked_emits old new t u c g who most fair answer payload e
      (seen-as a b p old who j (Emptied (the_end old who) e.end payload) (λ x y side s. emptied x y s.linked s.here (c.within who) e.emits))

  emitted_tracked : (reply : Answer) → EmittedSome old who most fair reply new → IsTracked some new u
  emitted_tracked (Ok (Payload number bytes)) e = emits_tracked (Ok tt) e.payload e.emits
  emitted_tracked (Err NoMemory) e = elim e [
    | inl same ↦ tracked-same old new t u c g (record { reads = λ q. false; credits = false; resizes = false; frees = false }) (λ other. let P : PairState → Type 0 = λ v. EndLeaves (record { reads = λ q. false; credits = false; resizes = false; frees = false }) (the_end old other) (the_end v other) in subst P (sym same) (ends-same _ (the_end old other))) (ap (λ (v : PairState). v.sent) same)
    | inr part ↦ emits_tracked part.answer part.payload part.emits
  ]
  emitted_tracked _ e = absurd e

-- ---- all steps

-- a step beside payloads
abbrev pub IsBeside : Step → Type 0
IsBeside (steps.Emit who most fair) = ⊥
IsBeside (steps.EmitPart who most fair part) = ⊥
IsBeside (steps.Deliver number index) = ⊥
IsBeside (steps.Lose number) = ⊥
IsBeside (steps.Ack number) = ⊥
IsBeside _ = Unit {0}

writes_none : (step : Step) → IsBeside step → WritesNone step
writes_none (steps.Emit who most fair) b = absurd b
writes_none (steps.EmitPart who most fair part) b = absurd b
writes_none _ b = tt

pub sents-beside : (old new : PairState) (step : Step) (reply : Answer) → IsBeside step → NextOrdinary old step reply new → new.sent ≡ old.sent
sents-beside old new (steps.Open who dir) reply b n = sent_on_end old who new n
sents-beside old new (steps.Accept who dir) reply b n = sent_on_end old who new n
sents-beside old new (steps.Write who id bytes) reply b n = sent_on_end old who new n
sents-beside old new (steps.WriteChunks who id chunks) reply b n = sent_on_end old who new n
sents-beside old new (steps.Finish who id) reply b n = sent_on_end old who new n
sents-beside old new (steps.Reset who id code) reply b n = sent_on_end old who new n
sents-beside old new (steps.Stop who id code) reply b n = sent_on_end old who new n
sents-beside old new (steps.SetPriority who id priority) reply b n = sent_on_end old who new n
sents-beside old new (steps.Read who id ordered most times) reply b n = sent_on_end old who new n
sents-beside old new (steps.ReceivedReset who id) reply b n = sent_on_end old who new n
sents-beside old new (steps.SetSendWindow who window) reply b n = sent_on_end old who new n
sents-beside old new (steps.SetReceiveWindow who window) reply b n = sent_on_end old who new n
sents-beside old new (steps.SetMaxConcurrent who dir count) reply b n = sent_on_end old who new n
sents-beside old new (steps.Poll who) reply b n = sent_on_end old who new n
sents-beside old new (steps.Emit who most fair) reply b n = absurd b
sents-beside old new (steps.EmitPart who most fair part) reply b n = absurd b
sents-beside old new (steps.Deliver number index) reply b n = absurd b
sents-beside old new (steps.Lose number) reply b n = absurd b
sents-beside old new (steps.Ack number) reply b n = absurd b
sents-beside old new _ reply b n = absurd n

module _ {some : Which} (a b : Origin) (p : Past) (old new : PairState) (j : Joined a b p old) (t u : Tales) (c : IsTracked some old t) where
  tracked_beside : (step : Step) (reply : Answer) → IsBeside step → NextOrdinary old step reply new → AllGrow t u → IsTracked some new u
  tracked_beside step reply k n g = tracked-same old new t u c g (may_of step) (step-leaves old new step reply (writes_none step k) n) (sents-beside old new step reply k n)

  pub tracked-next : (step : Step) (reply : Answer) → NextOrdinary old step reply new → StepTells old.sent new.sent step reply t u → IsTracked some new u
  tracked-next (steps.Emit who most fair) reply n e = emitted_tracked a b p old new j t u c (all-grow old.sent new.sent (steps.Emit who most fair) reply t u e) who most fair reply (emitted-some old new who most fair reply n)
  tracked-next (steps.EmitPart who most fair part) reply n e = emitted_tracked a b p old new j t u c (all-grow old.sent new.sent (steps.EmitPart who most fair part) reply t u e) who most fair reply (emitted-part old new who most fair part reply n)
  tracked-next (steps.Deliver number index) reply n e = tracked-delivered old new t u c (all-grow old.sent new.sent (steps.Deliver number index) reply t u e) number index reply n (step-leaves old new (steps.Deliver number index) reply tt n) e
  tracked-next (steps.Lose number) reply n e = tracked-loses old new t u c (all-grow old.sent new.sent (steps.Lose number) reply t u e) number reply (step-leaves old new (steps.Lose number) reply tt n) n
  tracked-next (steps.Ack number) reply n e = tracked-acks old new t u c (all-grow old.sent new.sent (steps.Ack number) reply t u e) number reply (step-leaves old new (steps.Ack number) reply tt n) n
  tracked-next step reply n e = tracked_beside step reply tt n (all-grow old.sent new.sent step reply t u e)
