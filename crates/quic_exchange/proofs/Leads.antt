-- What holds of a pair, whatever steps led to it.
use Rattle.std.proofs.Common.{◌≡◌, ◌⊎◌, ℕ, Bool, true, false, List, [], Option, Some, None, Ok, Err, refl, sym, ap, ◌∙◌, subst, inl, inr, arith, ◌≤◌, ◌+◌}
use Rattle.std.specs.Prelude.{◌&&◌, MatchBool, is_some, max, slice_get}
use Rattle.quic_values.specs.declared.ids.Side.TheVariants.{Client, Server}
use Rattle.quic_wire.specs.declared.frame.Frame.{Frame}
use Rattle.quic_wire.specs.declared.frame.Frame.TheVariants as frames
use Rattle.quic_wire.specs.Frames.{AreFrames}
use Rattle.quic_retransmits.specs.Settling.{noted_in}
use Rattle.quic_history.specs.Early.{SendsAgain}
use Rattle.quic_link.specs.Endpoints.{IsOneOf}
use Rattle.quic_endpoint.specs.Ends.{EndState}
use Rattle.quic_steps.specs.declared.steps.End.{End}
use Rattle.quic_steps.specs.declared.steps.End.TheVariants.{A, B}
use Rattle.quic_steps.specs.declared.steps.PayloadPart.TheVariants.{Control, Streams}
use Rattle.quic_steps.specs.declared.steps.Step.{Step}
use Rattle.quic_steps.specs.declared.steps.Step.TheVariants as steps
use Rattle.quic_steps.specs.declared.steps.Reply.TheVariants.{Done}
use Rattle.quic_steps.specs.declared.steps.PairError.TheVariants.{LimitsBelow, Undecided, Decided, OutOfMemory as NoMemory}
use Rattle.quic_exchange.specs.declared.early.EarlyLimits.{EarlyLimits}
use Rattle.quic_exchange.specs.Sent.{Sent}
use Rattle.quic_exchange.specs.Replies.{Answer}
use Rattle.quic_exchange.specs.Payloads.{SentText}
use Rattle.quic_exchange.specs.State.{PairState}
use Rattle.quic_exchange.specs.Steps.{NextOrdinary, NextTaken, Next, Accepted, Rejected, Retried, is_server, needs_decision}
use Rattle.quic_exchange.specs.History.{History, FramePlace, Past, past_of, waits_from}
use Rattle.quic_exchange.specs.Headline.{Headline}
use Rattle.quic_exchange.specs.Honest.{AreHonest, IsHonestFrame, IsHonestPayload, most_to, remembered_data, remembered_window, amount_given}
use Rattle.quic_exchange.specs.Refused.{IsRefused, IsRefusedIn, IsRefusedSo, IsAcceptedSo, IsDecidedSo}
use Rattle.quic_exchange.specs.Unrefused.{RefusesNoFrame, IsWelcomePayload, AreAllWelcome}
use Rattle.quic_exchange.specs.Readable.{WithholdsNothing}
use Rattle.quic_exchange.specs.Law.{Drains}
use Rattle.quic_exchange.specs.Due.{AsksFor, AsksAllOf, AsksAllAgain, SendsAllAgain}
use Rattle.quic_exchange.specs.From.{Beginning, PairFrom, next, made_of, end_begun, limits_of_a, waits_first}
use Rattle.quic_exchange.specs.Runs.{PermitsAll, sendings_of}
use Rattle.quic_exchange.specs.Tale.{Tales, StepTells}
use Rattle.quic_exchange.specs.Withheld.{DoesAsPermitted, LeavesNone}
use Rattle.quic_exchange.proofs.Grown.{headline-from}
use Rattle.quic_exchange.proofs.Honest.{honest-from}
use Rattle.quic_exchange.proofs.RefusedSo.{refused-so}
use Rattle.quic_exchange.proofs.Served.{refused-stays}
use Rattle.quic_exchange.proofs.Unrefused.{unrefused-so, welcome-from}
use Rattle.quic_exchange.proofs.Readable.{readable-so}
use Rattle.quic_exchange.proofs.Drained.{drains-so}
use Rattle.quic_exchange.proofs.Due.{asks-for}
use Rattle.quic_exchange.proofs.NotWithheld.{not-withheld}
use Rattle.quic_exchange.proofs.ToldOnce.{told-once, told-in-once, tells-next-once}
use Rattle.quic_exchange.proofs.Beneath.{asks-beneath, asks-noted, waits-stay}
use Rattle.quic_exchange.proofs.Wide.{wide_made, most_of_streams, as_linked, linked_at, decided-same, waiting-same}
use Rattle.quic_exchange.proofs.Led.{Led}
use Rattle.quic_exchange.proofs.OwnDoings.{own-unacked}
use Rattle.quic_exchange.proofs.LedSteps.{led-from, ordinary-linked, tells-ordinary}

-- the payloads are the same beside a wide server
sent_at : (s : Beginning) (w : Option EarlyLimits) (v : PairState) → (linked_at s w v).sent ≡ v.sent
sent_at s None v = refl
sent_at s (Some k) v = refl

pub sent-linked : (s : Beginning) (v : PairState) → (as_linked s v).sent ≡ v.sent
unfolding as_linked
sent-linked s v = sent_at s v.waits v

-- ---- what is read is faithful

pub headline-led : {s : Beginning} {h : History} {v : PairState} → PairFrom s h v → Headline (past_of h) v.sent
headline-led {s} {h} {v} f =
    let l = led-from f in
    let P : Past → Type 0 = λ p. Headline p v.sent in
    let Q : List Sent → Type 0 = λ x. Headline (past_of l.taken) x in
    subst P (sym l.past) (subst Q (sent-linked s v) (headline-from l.at.era))

-- ---- what is sent is honest

-- the greatest window of a stream of the server
abbrev most_on_window : PairState → ℕ
most_on_window v = max v.b.streams.window (remembered_window v.waits)

max_thrice : (w r own told : ℕ) → own ≡ w → told ≡ r → max (max w r) told ≤ max own told
max_thrice w r own told a b = omega (arith, a, b)

more_windows : (limit n a b : ℕ) → limit ≤ n + a → a ≤ b → limit ≤ n + b
more_windows limit n a b h w = omega (arith, h, w)

module _ (s : Beginning) (p : Past) (v : PairState) (k : EarlyLimits) (e : v.waits ≡ Some k) (b_is : v.b ≡ end_begun (made_of Server s.b) (limits_of_a s)) where
  abbrev wide : PairState
  wide = record v { b = end_begun (wide_made s.b k.remembered) (limits_of_a s) }

  data_within : most_to wide B ≤ most_to v B
  data_within =
      let r : remembered_data v.waits ≡ k.remembered.initial_max_data = ap remembered_data e in
      let own : v.b.streams.credit.local_max_data ≡ s.b.receive_window = ap (λ (x : EndState). x.streams.credit.local_max_data) b_is in
      omega (arith, r, own)

  windows_within : most_on_window wide ≤ most_on_window v
  windows_within =
      let r : remembered_window v.waits ≡ most_of_streams k.remembered = ap remembered_window e in
      let own : v.b.streams.window ≡ s.b.stream_receive_window = ap (λ (x : EndState). x.streams.window) b_is in
      max_thrice s.b.stream_receive_window (most_of_streams k.remembered) v.b.streams.window (remembered_window v.waits) own r

  frame_within : (g : Frame) → IsHonestFrame p wide A g → IsHonestFrame p v A g
  frame_within (frames.DataBlocked limit) h = let w = data_within in omega (arith, h, w)
  frame_within (frames.StreamDataBlocked id limit) h = more_windows limit (amount_given (p.flow A id).given) (most_on_window wide) (most_on_window v) h windows_within
  frame_within (frames.Stream x) h = h
  frame_within (frames.ResetStream x) h = h
  frame_within (frames.StopSending x) h = h
  frame_within (frames.MaxData limit) h = h
  frame_within (frames.MaxStreams dir count) h = h
  frame_within (frames.MaxStreamData id limit) h = h
  frame_within _ h = h

no_frames : (p : Past) (v : PairState) (x : Sent) → x.text ≡ record { bytes = []; accepted = [] } → IsHonestPayload p v x
no_frames p v x e =
    let P : List ℕ → Type 0 = λ l. AreFrames l [] in
    record { all = []; spelled = subst P (sym (ap (λ (t : SentText). t.bytes) e)) refl; honest = λ g h. absurd h }

pub honest-led : {s : Beginning} {h : History} {v : PairState} → PairFrom s h v → AreHonest (past_of h) v
honest-led {s} {h} {v} f = by v.waits refl
  where
    l : Led f
    l = led-from f

    honest : AreHonest (past_of h) (as_linked s v)
    honest = let P : Past → Type 0 = λ p. AreHonest p (as_linked s v) in subst P (sym l.past) (honest-from l.at.era)

    by : (w : Option EarlyLimits) → v.waits ≡ w → AreHonest (past_of h) v
    by None e = let P : PairState → Type 0 = λ x. AreHonest (past_of h) x in subst P (decided-same s v e) honest
    by (Some k) e = λ number x got.
        let P : PairState → Type 0 = λ y. AreHonest (past_of h) y in
        let i = l.early k e in
        let all = subst P (waiting-same s v k e) honest number x got in
        elim (i.untaken number x got) [
          | inl own ↦ record {
            all = all.all;
            spelled = all.spelled;
            honest = λ g listed.
                let W : End → Type 0 = λ who. IsHonestFrame (past_of h) v who g in
                let V : End → Type 0 = λ who. IsHonestFrame (past_of h) (record v { b = end_begun (wide_made s.b k.remembered) (limits_of_a s) }) who g in
                subst W (sym own.writer) (frame_within s (past_of h) v k e i.other g (subst V own.writer (all.honest g listed)));
          }
          | inr left ↦ no_frames (past_of h) v x left.text
        ]

-- ---- what is sent is welcome

pub welcome-led : {s : Beginning} {h : History} {v : PairState} → PairFrom s h v → AreAllWelcome v
welcome-led {s} {h} {v} f decided number x got =
    let P : PairState → Type 0 = λ u. (n : ℕ) (y : Sent) → slice_get u.sent n ≡ Some y → IsWelcomePayload u y in
    let l = led-from f in
    let all : P (as_linked s v) = λ n y g. welcome-from l.at.era n y g in
    let here : P v = subst P (decided-same s v decided) all in
    here number x got

-- ---- each step

-- a step is refused for being too early, or taken
by_decision : (old new : PairState) (step : Step) (reply : Answer) → Next old step reply new → (((is_some old.waits && needs_decision step) ≡ true) × (reply ≡ Err Undecided) × (new ≡ old)) ⊎ (((is_some old.waits && needs_decision step) ≡ false) × NextTaken old step reply new)
by_decision old new step reply n = by (is_some old.waits && needs_decision step) refl n
  where
    by : (b : Bool) → (is_some old.waits && needs_decision step) ≡ b → MatchBool b ((reply ≡ Err Undecided) × (new ≡ old)) (NextTaken old step reply new) → (((is_some old.waits && needs_decision step) ≡ true) × (reply ≡ Err Undecided) × (new ≡ old)) ⊎ (((is_some old.waits && needs_decision step) ≡ false) × NextTaken old step reply new)
    by true e k = inl (e, k.0, k.1)
    by false e k = inr (e, k)

by_test : (b c : Bool) (X Y : Type 0) → c ≡ b → MatchBool b X Y → MatchBool c X Y
by_test b c X Y e k = let P : Bool → Type 0 = λ x. MatchBool x X Y in subst P (sym e) k

-- and it is refused, or taken, so
pub next-refused : (old : PairState) (step : Step) → (is_some old.waits && needs_decision step) ≡ true → Next old step (Err Undecided) old
next-refused old step e = by_test true (is_some old.waits && needs_decision step) (◌≡◌ {A = Answer} (Err Undecided) (Err Undecided) × (old ≡ old)) (NextTaken old step (Err Undecided) old) e (refl, refl)

pub next-taken : (old new : PairState) (step : Step) (reply : Answer) → (is_some old.waits && needs_decision step) ≡ false → NextTaken old step reply new → Next old step reply new
next-taken old new step reply e k = by_test false (is_some old.waits && needs_decision step) ((reply ≡ Err Undecided) × (new ≡ old)) (NextTaken old step reply new) e k

accepted_stays : (old new : PairState) (reply : Answer) → Accepted old reply new → IsRefused reply → new ≡ old
accepted_stays old new (Err LimitsBelow) k r = k.is
accepted_stays old new (Err Decided) k r = k.1
accepted_stays old new (Err NoMemory) k r = absurd r
accepted_stays old new (Ok Done) k r = absurd r
accepted_stays old new _ k r = absurd k

rejected_stays : (old new : PairState) (reply : Answer) → Rejected old reply new → IsRefused reply → new ≡ old
rejected_stays old new (Err Decided) k r = k.1
rejected_stays old new (Ok Done) k r = absurd r
rejected_stays old new _ k r = absurd k

retried_stays : (old new : PairState) (reply : Answer) → Retried old reply new → IsRefused reply → new ≡ old
retried_stays old new (Err Decided) k r = k.1
retried_stays old new (Err NoMemory) k r = absurd r
retried_stays old new (Ok Done) k r = absurd r
retried_stays old new _ k r = absurd k

taken_stays : (old new : PairState) (step : Step) (reply : Answer) → NextTaken old step reply new → IsRefused reply → new ≡ old
taken_stays old new steps.EarlyAccept reply k r = accepted_stays old new reply k r
taken_stays old new steps.EarlyReject reply k r = rejected_stays old new reply k r
taken_stays old new steps.Retry reply k r = retried_stays old new reply k r
taken_stays old new step reply k r = refused-stays old new step reply k r

-- a refused step changes nothing
pub stays-led : (old new : PairState) (step : Step) (reply : Answer) → Next old step reply new → IsRefused reply → new ≡ old
stays-led old new step reply n r = elim (by_decision old new step reply n) [ inl early ↦ early.2 | inr k ↦ taken_stays old new step reply k.1 r ]

module _ (s : Beginning) (h : History) (old new : PairState) (f : PairFrom s h old) where
  abbrev led : Led f
  led = led-from f

  -- what holds of an ordinary step beside the wide server, by what is known and was sent
  known_as : (Holds : Past → List Sent → Type 0) → Holds (past_of led.taken) (as_linked s old).sent → Holds (past_of h) old.sent
  known_as Holds k =
      let P : Past → Type 0 = λ p. Holds p old.sent in
      let Q : List Sent → Type 0 = λ x. Holds (past_of led.taken) x in
      subst P (sym led.past) (subst Q (sent-linked s old) k)

  -- ---- refusals

  accepts_so : (reply : Answer) → Accepted old reply new → IsAcceptedSo old.waits reply
  accepts_so (Ok Done) k = (k.limits, k.waiting, k.within)
  accepts_so (Err NoMemory) k = (k.limits, k.waiting, k.within)
  accepts_so (Err LimitsBelow) k = (k.limits, k.waiting, k.below)
  accepts_so (Err Decided) k = k.0
  accepts_so _ k = absurd k

  is_waiting : (k : EarlyLimits) → old.waits ≡ Some k → is_some old.waits ≡ true
  is_waiting k e = ap (λ (w : Option EarlyLimits). is_some w) e

  rejects_so : (reply : Answer) → Rejected old reply new → IsDecidedSo old.waits reply × (reply ≡ Err NoMemory → ⊥)
  rejects_so (Ok Done) k = (is_waiting k.limits k.waiting, λ e. cc)
  rejects_so (Err Decided) k = (k.0, λ e. cc)
  rejects_so _ k = absurd k

  retries_so : (reply : Answer) → Retried old reply new → IsDecidedSo old.waits reply
  retries_so (Ok Done) k = is_waiting k.limits k.waiting
  retries_so (Err NoMemory) k = k.0
  retries_so (Err Decided) k = k.0
  retries_so _ k = absurd k

  ordinary_so : (step : Step) (reply : Answer) → (is_some old.waits && needs_decision step) ≡ false → NextOrdinary old step reply new → IsRefusedIn old.waits (past_of h) old.sent step reply
  ordinary_so step reply free o = known_as (λ p x. IsRefusedIn old.waits p x step reply) (refused-so old.waits led.a led.b led.taken (as_linked s old) (as_linked s new) step reply led.at.era (ordinary-linked f led new step reply free o))

  taken_so : (step : Step) (reply : Answer) → (is_some old.waits && needs_decision step) ≡ false → NextTaken old step reply new → IsRefusedIn old.waits (past_of h) old.sent step reply
  taken_so steps.EarlyAccept reply free k = accepts_so reply k
  taken_so steps.EarlyReject reply free k = rejects_so reply k
  taken_so steps.Retry reply free k = retries_so reply k
  taken_so step reply free k = ordinary_so step reply free k

  refused_led : (step : Step) (reply : Answer) → Next old step reply new → IsRefusedSo old.waits (past_of h) old.sent step reply
  refused_led step reply n = elim (by_decision old new step reply n) [
    | inl early ↦ by_test true (is_some old.waits && needs_decision step) (reply ≡ Err Undecided) (IsRefusedIn old.waits (past_of h) old.sent step reply) early.0 early.1
    | inr k ↦ by_test false (is_some old.waits && needs_decision step) (reply ≡ Err Undecided) (IsRefusedIn old.waits (past_of h) old.sent step reply) k.0 (taken_so step reply k.0 k.1)
  ]

  -- ---- deliveries and reads

  -- a delivery is taken only where all is decided
  decided_so : (w : Option EarlyLimits) → old.waits ≡ w → (is_some old.waits && true) ≡ false → old.waits ≡ None
  decided_so None e free = e
  decided_so (Some k) e free = let both : true ≡ false = sym (ap (λ (w : Option EarlyLimits). is_some w && true) e) ∙ free in cc

  -- while it is not decided nothing was accepted
  none_accepted : (w : Option EarlyLimits) → old.waits ≡ w → is_some old.waits ≡ true → (past_of h).accepted ≡ []
  none_accepted None e some = let both : false ≡ true = sym (ap (λ (w : Option EarlyLimits). is_some w) e) ∙ some in cc
  none_accepted (Some k) e some = ap (λ (p : Past). p.accepted) led.past ∙ (led.early k e).accepted

  none_listed : {places : List FramePlace} → places ≡ [] → (at : FramePlace) → IsOneOf at places → ⊥
  none_listed e at listed = let P : List FramePlace → Type 0 = λ x. IsOneOf at x in absurd (subst P e listed)

  and_left : (a b : Bool) → (a && b) ≡ true → a ≡ true
  and_left true b e = refl
  and_left false b e = cc

  beside : (step : Step) (reply : Answer) → (is_some old.waits && needs_decision step) ≡ false → NextOrdinary old step reply new → NextOrdinary (as_linked s old) step reply (as_linked s new)
  beside step reply free o = ordinary-linked f led new step reply free o

  unrefused_taken : (number index : ℕ) (reply : Answer) → (is_some old.waits && true) ≡ false → NextOrdinary old (steps.Deliver number index) reply new → RefusesNoFrame (past_of h) old.sent (steps.Deliver number index) reply new
  unrefused_taken number index reply free o =
      let none = decided_so old.waits refl free in
      let same : as_linked s new ≡ new = decided-same s new (waits-stay old new (steps.Deliver number index) reply o ∙ none) in
      let P : PairState → Type 0 = λ x. RefusesNoFrame (past_of led.taken) (as_linked s old).sent (steps.Deliver number index) reply x in
      known_as (λ p x. RefusesNoFrame p x (steps.Deliver number index) reply new) (subst P same (unrefused-so led.a led.b led.taken (as_linked s old) (as_linked s new) (steps.Deliver number index) reply led.at.era (beside (steps.Deliver number index) reply free o)))

  unrefused_led : (step : Step) (reply : Answer) → Next old step reply new → RefusesNoFrame (past_of h) old.sent step reply new
  unrefused_led (steps.Deliver number index) reply n = elim (by_decision old new (steps.Deliver number index) reply n) [
    | inl early ↦ (let P : Answer → Type 0 = λ r. RefusesNoFrame (past_of h) old.sent (steps.Deliver number index) r new in subst P (sym early.1) tt)
    | inr k ↦ unrefused_taken number index reply k.0 k.1
  ]
  unrefused_led _ reply n = tt

  readable_refused : (step : Step) → WithholdsNothing (past_of h) old.sent step (Err Undecided)
  readable_refused (steps.Read who id ordered most times) = tt
  readable_refused (steps.ReceivedReset who id) = tt
  readable_refused (steps.Write who id bytes) = tt
  readable_refused (steps.WriteChunks who id chunks) = tt
  readable_refused (steps.Finish who id) = tt
  readable_refused (steps.Poll who) = tt
  readable_refused _ = tt

  readable_ordinary : (step : Step) (reply : Answer) → (is_some old.waits && needs_decision step) ≡ false → NextOrdinary old step reply new → WithholdsNothing (past_of h) old.sent step reply
  readable_ordinary step reply free o = known_as (λ p x. WithholdsNothing p x step reply) (readable-so led.a led.b led.taken (as_linked s old) (as_linked s new) step reply led.at.era (beside step reply free o))

  readable_taken : (step : Step) (reply : Answer) → (is_some old.waits && needs_decision step) ≡ false → NextTaken old step reply new → WithholdsNothing (past_of h) old.sent step reply
  readable_taken steps.EarlyAccept reply free k = tt
  readable_taken steps.EarlyReject reply free k = tt
  readable_taken steps.Retry reply free k = tt
  readable_taken step reply free k = readable_ordinary step reply free k

  readable_led : (step : Step) (reply : Answer) → Next old step reply new → WithholdsNothing (past_of h) old.sent step reply
  readable_led step reply n = elim (by_decision old new step reply n) [
    | inl early ↦ (let P : Answer → Type 0 = λ r. WithholdsNothing (past_of h) old.sent step r in subst P (sym early.1) (readable_refused step))
    | inr k ↦ readable_taken step reply k.0 k.1
  ]

  drains_refused : (step : Step) → (is_some old.waits && needs_decision step) ≡ true → Drains (past_of h) old.sent step (Err Undecided)
  drains_refused (steps.Read who id ordered most times) early = λ in_order some m. absurd (none_listed (none_accepted old.waits refl (and_left (is_some old.waits) (is_server who) early)) m.delivered.end.at m.delivered.end.listed)
  drains_refused _ early = tt

  drains_ordinary : (step : Step) (reply : Answer) → (is_some old.waits && needs_decision step) ≡ false → NextOrdinary old step reply new → Drains (past_of h) old.sent step reply
  drains_ordinary step reply free o = known_as (λ p x. Drains p x step reply) (drains-so led.a led.b led.taken (as_linked s old) (as_linked s new) step reply led.at.era (beside step reply free o))

  drains_taken : (step : Step) (reply : Answer) → (is_some old.waits && needs_decision step) ≡ false → NextTaken old step reply new → Drains (past_of h) old.sent step reply
  drains_taken steps.EarlyAccept reply free k = tt
  drains_taken steps.EarlyReject reply free k = tt
  drains_taken steps.Retry reply free k = tt
  drains_taken step reply free k = drains_ordinary step reply free k

  drains_led : (step : Step) (reply : Answer) → Next old step reply new → Drains (past_of h) old.sent step reply
  drains_led step reply n = elim (by_decision old new step reply n) [
    | inl early ↦ (let P : Answer → Type 0 = λ r. Drains (past_of h) old.sent step r in subst P (sym early.1) (drains_refused step early.0))
    | inr k ↦ drains_taken step reply k.0 k.1
  ]

  -- ---- what is due

  asks_refused : (step : Step) → AsksFor old step (Err Undecided) new
  asks_refused (steps.Open who dir) = tt
  asks_refused (steps.Write who id bytes) = tt
  asks_refused (steps.WriteChunks who id chunks) = tt
  asks_refused (steps.Reset who id code) = tt
  asks_refused (steps.Stop who id code) = (tt, tt)
  asks_refused (steps.Read who id ordered most times) = (tt, tt)
  asks_refused (steps.ReceivedReset who id) = tt
  asks_refused (steps.SetReceiveWindow who window) = tt
  asks_refused (steps.SetMaxConcurrent who dir count) = tt
  asks_refused (steps.Emit who most fair) = (tt, tt)
  asks_refused (steps.EmitPart who most fair part) = (tt, tt)
  asks_refused (steps.Deliver number index) = tt
  asks_refused (steps.Lose number) = tt
  asks_refused (steps.Ack number) = tt
  asks_refused steps.Retry = (tt, tt)
  asks_refused _ = tt

  asks_again : (reply : Answer) → Retried old reply new → AsksAllAgain old.sent reply new.a
  asks_again (Ok Done) k = λ number x rest got rest_is.
      let P : EndState → Type 0 = λ e. AsksAllOf (noted_in rest.control) e.pending in
      subst P (sym (ap (λ (v : PairState). v.a) k.is)) (asks-noted old.sent old.a.pending number x rest got rest_is)
  asks_again (Err error) k = tt
  asks_again _ k = absurd k

  sends_again : (reply : Answer) → Retried old reply new → SendsAllAgain old.a.streams reply new.a.streams
  sends_again (Ok Done) k =
      let P : EndState → Type 0 = λ e. SendsAgain old.a.streams (Ok tt) e.streams in
      subst P (sym (ap (λ (v : PairState). v.a) k.is)) (k.again (own-unacked (made_of Client s.a) old.a.streams (led.early k.limits k.waiting).own))
  sends_again (Err error) k = tt
  sends_again _ k = absurd k

  asks_ordinary : (step : Step) (reply : Answer) → (is_some old.waits && needs_decision step) ≡ false → NextOrdinary old step reply new → AsksFor old step reply new
  asks_ordinary step reply free o = by old.waits refl
    where
      at_linked : AsksFor (as_linked s old) step reply (as_linked s new)
      at_linked = asks-for led.a led.b led.taken (as_linked s old) (as_linked s new) step reply led.at.era (beside step reply free o)

      both : (u w : PairState) → as_linked s old ≡ u → as_linked s new ≡ w → AsksFor u step reply w
      both u w e d =
          let P : PairState → Type 0 = λ x. AsksFor x step reply (as_linked s new) in
          let Q : PairState → Type 0 = λ x. AsksFor u step reply x in
          subst Q d (subst P e at_linked)

      by : (w : Option EarlyLimits) → old.waits ≡ w → AsksFor old step reply new
      by None e = both old new (decided-same s old e) (decided-same s new (waits-stay old new step reply o ∙ e))
      by (Some k) e =
          let wide : EndState = end_begun (wide_made s.b k.remembered) (limits_of_a s) in
          asks-beneath old new wide (led.early k e).untaken step reply (ap (λ (w : Option EarlyLimits). is_some w && needs_decision step) (sym e) ∙ free) o
          (both (record old { b = wide }) (record new { b = wide }) (waiting-same s old k e) (waiting-same s new k (waits-stay old new step reply o ∙ e)))

  asks_taken : (step : Step) (reply : Answer) → (is_some old.waits && needs_decision step) ≡ false → NextTaken old step reply new → AsksFor old step reply new
  asks_taken steps.EarlyAccept reply free k = tt
  asks_taken steps.EarlyReject reply free k = tt
  asks_taken steps.Retry reply free k = (asks_again reply k, sends_again reply k)
  asks_taken step reply free k = asks_ordinary step reply free k

  asks_led : (step : Step) (reply : Answer) → Next old step reply new → AsksFor old step reply new
  asks_led step reply n = elim (by_decision old new step reply n) [
    | inl early ↦ (let P : Answer → Type 0 = λ r. AsksFor old step r new in subst P (sym early.1) (asks_refused step))
    | inr k ↦ asks_taken step reply k.0 k.1
  ]

  -- ---- what is permitted

  does_refused : (t : Tales) (step : Step) → DoesAsPermitted t step (Err Undecided)
  does_refused t (steps.Open who dir) = tt
  does_refused t (steps.Write who id bytes) = tt
  does_refused t (steps.WriteChunks who id chunks) = tt
  does_refused t _ = tt

  leaves_refused : (t : Tales) (step : Step) → LeavesNone t step (Err Undecided)
  leaves_refused t (steps.Emit who most fair) = tt
  leaves_refused t (steps.EmitPart who most fair Control) = tt
  leaves_refused t (steps.EmitPart who most fair Streams) = tt
  leaves_refused t _ = tt

  -- what they tell, before a step and behind it
  module _ (step : Step) (reply : Answer) (n : Next old step reply new) where
    abbrev then : Led (next step reply f n)
    then = led-from (next step reply f n)

    abbrev before : Tales
    before = then.told.0

    before_is : led.tales ≡ before
    before_is = told-once s (sendings_of f) led.tales before led.told then.told.1

    abbrev Permits : Type 0
    Permits = DoesAsPermitted before step reply × LeavesNone then.tales step reply

    permits_refused : reply ≡ Err Undecided → Permits
    permits_refused e =
        let P : Answer → Type 0 = λ r. DoesAsPermitted before step r × LeavesNone then.tales step r in
        subst P (sym e) (does_refused before step, leaves_refused then.tales step)

    permits_ordinary : (is_some old.waits && needs_decision step) ≡ false → NextOrdinary old step reply new → Permits
    permits_ordinary free o =
        let k = not-withheld led.a led.b led.taken (as_linked s old) (as_linked s new) step reply led.at.era (beside step reply free o) in
        let was : k.before ≡ before = told-in-once led.at.era k.before led.tales k.is_told led.at.told ∙ before_is in
        let P : Tales → Type 0 = λ t. StepTells (as_linked s old).sent (as_linked s new).sent step reply t k.behind in
        let Q : List Sent → Type 0 = λ x. StepTells x (as_linked s new).sent step reply before k.behind in
        let R : List Sent → Type 0 = λ x. StepTells old.sent x step reply before k.behind in
        let tells : StepTells old.sent new.sent step reply before k.behind = subst R (sent-linked s new) (subst Q (sent-linked s old) (subst P was k.tells_so)) in
        let is : k.behind ≡ then.tales = tells-next-once s old.sent new.sent before k.behind then.tales step reply (tells-ordinary old new s old.sent new.sent step reply before k.behind o tells) then.told.2 in
        let D : Tales → Type 0 = λ t. DoesAsPermitted t step reply in
        let L : Tales → Type 0 = λ t. LeavesNone t step reply in
        (subst D was k.does, subst L is k.leaves)

    all_permitted : Permits → PermitsAll f step reply new.sent
    all_permitted k = record {
      before = before;
      behind = then.tales;
      is_told = then.told.1;
      told_alone = λ t j. told-once s (sendings_of f) t before j then.told.1;
      tells_so = then.told.2;
      tells_alone = λ t j. tells-next-once s old.sent new.sent before t then.tales step reply j then.told.2;
      does = k.0;
      leaves = k.1;
    }

  permits_taken : (step : Step) (reply : Answer) (n : Next old step reply new) → (is_some old.waits && needs_decision step) ≡ false → NextTaken old step reply new → PermitsAll f step reply new.sent
  permits_taken steps.EarlyAccept reply n free k = all_permitted steps.EarlyAccept reply n (tt, tt)
  permits_taken steps.EarlyReject reply n free k = all_permitted steps.EarlyReject reply n (tt, tt)
  permits_taken steps.Retry reply n free k = all_permitted steps.Retry reply n (tt, tt)
  permits_taken step reply n free k = all_permitted step reply n (permits_ordinary step reply n free k)

  permits_led : (step : Step) (reply : Answer) → Next old step reply new → PermitsAll f step reply new.sent
  permits_led step reply n = elim (by_decision old new step reply n) [
    | inl early ↦ all_permitted step reply n (permits_refused step reply n early.1)
    | inr k ↦ permits_taken step reply n k.0 k.1
  ]

-- ---- all of it

module _ (s : Beginning) (h : History) (old new : PairState) (step : Step) (reply : Answer) (f : PairFrom s h old) (n : Next old step reply new) where
  pub refused-led : IsRefusedSo (waits_from (waits_first s) h) (past_of h) old.sent step reply
  refused-led = let P : Option EarlyLimits → Type 0 = λ w. IsRefusedSo w (past_of h) old.sent step reply in subst P (led-from f).waits (refused_led s h old new f step reply n)

  pub unrefused-led : RefusesNoFrame (past_of h) old.sent step reply new
  unrefused-led = unrefused_led s h old new f step reply n

  pub readable-led : WithholdsNothing (past_of h) old.sent step reply
  readable-led = readable_led s h old new f step reply n

  pub drains-led : Drains (past_of h) old.sent step reply
  drains-led = drains_led s h old new f step reply n

  pub asks-led : AsksFor old step reply new
  asks-led = asks_led s h old new f step reply n

  pub not-withheld-led : PermitsAll f step reply new.sent
  not-withheld-led = permits_led s h old new f step reply n
