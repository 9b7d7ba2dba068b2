-- A step is refused exactly where the steps before it say so.
use Rattle.std.proofs.Common.{◌≡◌, ℕ, true, false, List, Option, Some, Result, Ok, Err, sym, ap, ◌∙◌, subst, inl, inr}
use Rattle.std.specs.Prelude.{slice_get}
use Rattle.std.proofs.lemmas.Option.{same_Some}
use Rattle.quic_wire.specs.declared.frame.Frame.{Frame}
use Rattle.quic_wire.specs.Frames.{AreFrames}
use Rattle.quic_streams.specs.Settling.{SentView}
use Rattle.quic_link.specs.Endpoints.{IsOneOf}
use Rattle.quic_endpoint.specs.Ends.{EndState}
use Rattle.quic_endpoint.specs.Reports.{LosesPayloadAt, AcksPayloadAt}
use Rattle.quic_steps.specs.declared.steps.End.{End}
use Rattle.quic_exchange.proofs.Origins.{Origin}
use Rattle.quic_steps.specs.declared.steps.Step.{Step}
use Rattle.quic_steps.specs.declared.steps.Step.TheVariants as steps
use Rattle.quic_steps.specs.declared.steps.Reply.TheVariants.{Done}
use Rattle.quic_steps.specs.declared.steps.PairError.TheVariants.{NoSuchPayload, NoSuchFrame, NotAccepted, UnknownId, AlreadySettled, LimitsBelow, Undecided, Decided, OutOfMemory as NoMemory}
use Rattle.quic_exchange.specs.declared.early.EarlyLimits.{EarlyLimits}
use Rattle.quic_exchange.specs.Sent.{Sent}
use Rattle.quic_exchange.specs.declared.unsettled.Report.{Report}
use Rattle.quic_exchange.specs.declared.unsettled.Report.TheVariants.{Lost, Acknowledged}
use Rattle.quic_exchange.specs.Unsettled.{needs_acceptance}
use Rattle.quic_exchange.specs.Reports.{MayServe}
use Rattle.quic_exchange.specs.Payloads.{AreAllAccepted, LacksAccepted, is_accepted}
use Rattle.quic_exchange.specs.Replies.{Answer}
use Rattle.quic_exchange.specs.State.{PairState, OnEnd, the_end}
use Rattle.quic_exchange.specs.Calls.{OnGiven}
use Rattle.quic_exchange.specs.Steps.{HasPayload, NextOrdinary, Delivers, Reports, SettlesPayload}
use Rattle.quic_exchange.specs.History.{Past, History, FramePlace, past_of}
use Rattle.quic_exchange.proofs.Eras.{EraFrom}
use Rattle.quic_exchange.specs.Refused.{IsTaken, IsKnownSo, IsFoundSo, HasBytes, Always, HasAllAccepted, HasOneUnaccepted, Needs, Misses, IsServedSo, IsReportedSo, IsRefusedIn}
use Rattle.quic_exchange.proofs.Emissions.{emitted-some, emitted-part}
use Rattle.quic_exchange.proofs.Lists.{slice_get-within, slice_get-there}
use Rattle.quic_exchange.proofs.Marks.{AreMarkedSo, marks-from}
use Rattle.quic_exchange.proofs.Settled.{AreSettledSo, settled-for, unsettled-for, settled-from}
use Rattle.quic_exchange.proofs.Honest.{honest-from}
use Rattle.quic_exchange.proofs.GivenSo.{AreKnown, known-from}
use Rattle.quic_exchange.proofs.Served.{served-opens, served-accepts, served-writes, served-chunks, served-finishes, served-resets, served-stops, served-priority, served-asks, served-reads, served-set, served-receive-window, served-max-concurrent, served-polls, served-emitted, served-hands}

-- ---- steps on streams

known_served : (given : List ℕ) (id : ℕ) (reply : Answer) → IsOneOf id given → IsTaken reply → IsKnownSo given id reply
known_served given id (Err UnknownId) h s = absurd (s tt)
known_served given id reply h s = (h, s)

-- the bytes of every payload spell frames
abbrev AreSpelled : List Sent → Type 0
AreSpelled sent = (number : ℕ) (s : Sent) → slice_get sent number ≡ Some s → (all : List Frame) × AreFrames s.text.bytes all

module _ (old new : PairState) (p : Past) (who : End) (k : AreKnown old p who) (id : ℕ) (reply : Answer) where
  known_so : {Does : EndState → EndState → Type 0} → OnEnd (λ e f. OnGiven e id reply f (Does e f)) old who new → ((e f : EndState) → Does e f → IsTaken reply) → IsKnownSo (p.ids who) id reply
  known_so d served = elim d.does [
    | inl g ↦ known_served (p.ids who) id reply ((k id).0 g.0) (served (the_end old who) d.end g.1)
    | inr g ↦ (let P : Answer → Type 0 = λ r. IsKnownSo (p.ids who) id r in
        subst P (sym g.1) (λ h. let given = (k id).1 h in let both : true ≡ false = sym given ∙ g.0 in cc))
  ]

-- any other step on an end
served_so : {Does : EndState → EndState → Type 0} (old new : PairState) (who : End) (reply : Answer) → OnEnd Does old who new → ((e f : EndState) → Does e f → IsTaken reply) → IsTaken reply
served_so old new who reply d served = served (the_end old who) d.end d.does

-- ---- marks of a payload that was sent

module _ (accepted : List FramePlace) (sent : List Sent) (m : AreMarkedSo accepted sent) (number : ℕ) (s : Sent) (is : slice_get sent number ≡ Some s) where
  -- a frame that is not marked is not listed
  unmarked_so : (index : ℕ) → is_accepted s.text index ≡ false → IsOneOf (number, index) accepted → ⊥
  unmarked_so index none h =
      let b = m.marked (number, index) h in
      let whole : b.payload ≡ s = same_Some b.payload s (sym b.is ∙ is) in
      let both : true ≡ false = sym b.marked ∙ ap (λ (v : Sent). is_accepted v.text index) whole ∙ none in
      cc

  all_listed : AreAllAccepted s.text → HasAllAccepted accepted number s.text.bytes
  all_listed a index k = m.listed number index s is (a k.1.all k.1.spelled index (slice_get-within k.1.all index k.0 k.1.at))

  one_unlisted : (all : List Frame) → AreFrames s.text.bytes all → LacksAccepted s.text → HasOneUnaccepted accepted number s.text.bytes
  one_unlisted all spelled lacks =
      let l = lacks all spelled in
      let there = slice_get-there all l.index l.within in
      (l.index, (there.0, record { all = all; spelled = spelled; at = there.1 }), unmarked_so l.index l.unmarked)

-- ---- steps on payloads

on_sent : {old : PairState} {number : ℕ} → HasPayload old number → HasBytes old.sent number Always
on_sent h = record { payload = h.sent; is = h.is; here = h.here; are = tt }

module _ (old new : PairState) where
  delivers_so : (number index : ℕ) (reply : Answer) → Delivers old number index reply new → IsFoundSo old.sent number index reply
  delivers_so number index (Ok reply) k = record { payload = k.payload.sent; is = k.payload.is; here = k.payload.here; are = (k.frame, k.at) }
  delivers_so number index (Err NoSuchPayload) k = k.0
  delivers_so number index (Err NoSuchFrame) k = record { payload = k.payload.sent; is = k.payload.is; here = k.payload.here; are = k.why }
  delivers_so number index (Err NotAccepted) k = absurd (served-hands (Err NotAccepted) k tt)
  delivers_so number index (Err UnknownId) k = absurd (served-hands (Err UnknownId) k tt)
  delivers_so number index (Err AlreadySettled) k = absurd (served-hands (Err AlreadySettled) k tt)
  delivers_so number index (Err LimitsBelow) k = absurd (served-hands (Err LimitsBelow) k tt)
  delivers_so number index (Err Undecided) k = absurd (served-hands (Err Undecided) k tt)
  delivers_so number index (Err Decided) k = absurd (served-hands (Err Decided) k tt)
  delivers_so number index (Err NoMemory) k = elim k [ inl w ↦ on_sent w.0 | inr t ↦ on_sent t.payload ]

-- what a report needs of a payload
needs_so : (kind : Report) (accepted : List FramePlace) (sent : List Sent) → AreMarkedSo accepted sent → (number : ℕ) (s : Sent) → slice_get sent number ≡ Some s → MayServe kind s.text → Needs kind accepted number s.text.bytes
needs_so Lost accepted sent m number s is serves = tt
needs_so Acknowledged accepted sent m number s is serves = all_listed accepted sent m number s is serves

misses_so : (kind : Report) (accepted : List FramePlace) (sent : List Sent) → AreMarkedSo accepted sent → (number : ℕ) (s : Sent) → slice_get sent number ≡ Some s → (all : List Frame) → AreFrames s.text.bytes all → needs_acceptance kind ≡ true → LacksAccepted s.text → Misses kind accepted number s.text.bytes
misses_so Lost accepted sent m number s is all spelled needs lacks = cc
misses_so Acknowledged accepted sent m number s is all spelled needs lacks = one_unlisted accepted sent m number s is all spelled lacks

module _ (p : Past) (old new : PairState) (t : AreSpelled old.sent) (m : AreMarkedSo p.accepted old.sent) (u : AreSettledSo p.settled p.begun old.sent) (number : ℕ) (kind : Report) (At : EndState → SentView → Result (Unit {0}) SentView → EndState → Type 0) where
  served_report : (reply : Answer) → Reports kind At old number reply new → IsServedSo p old.sent number kind
  served_report reply k = record {
    unsettled = unsettled-for p old.sent u number k.payload.sent k.payload.is k.payload.here kind k.may;
    has = record { payload = k.payload.sent; is = k.payload.is; here = k.payload.here; are = needs_so kind p.accepted old.sent m number k.payload.sent k.payload.is k.serves };
  }

  settles_so : (reply : Answer) → SettlesPayload kind At old number reply new → IsReportedSo p old.sent number kind reply
  settles_so (Ok Done) k = served_report (Ok Done) k
  settles_so (Err NoMemory) k = served_report (Err NoMemory) k
  settles_so (Err NoSuchPayload) k = k.0
  settles_so (Err AlreadySettled) k = record { settled = settled-for p old.sent u number k.payload.sent k.payload.is k.payload.here kind k.why; there = on_sent k.payload }
  settles_so (Err NotAccepted) k =
      let spelled = t number k.payload.sent k.payload.is in
      record {
        unsettled = unsettled-for p old.sent u number k.payload.sent k.payload.is k.payload.here kind k.why.0;
        misses = record { payload = k.payload.sent; is = k.payload.is; here = k.payload.here; are = misses_so kind p.accepted old.sent m number k.payload.sent k.payload.is spelled.0 spelled.1 k.why.1 k.why.2 };
      }
  settles_so _ k = absurd k

-- ---- all steps

-- whatever steps led to a pair, its payloads spell frames
spelled-from : {a b : Origin} {h : History} {v : PairState} → EraFrom a b h v → AreSpelled v.sent
spelled-from f number s is = let honest = honest-from f number s is in (honest.all, honest.spelled)

refused_by : (waits : Option EarlyLimits) (p : Past) (old new : PairState) (step : Step) (reply : Answer) → AreSpelled old.sent → AreMarkedSo p.accepted old.sent → AreSettledSo p.settled p.begun old.sent → ((who : End) → AreKnown old p who) → NextOrdinary old step reply new → IsRefusedIn waits p old.sent step reply
refused_by waits p old new (steps.Open who dir) reply t m u k n = served_so old new who reply n (λ e f d. served-opens d)
refused_by waits p old new (steps.Accept who dir) reply t m u k n = served_so old new who reply n (λ e f d. served-accepts d)
refused_by waits p old new (steps.Write who id bytes) reply t m u k n = known_so old new p who (k who) id reply n (λ e f d. served-writes d)
refused_by waits p old new (steps.WriteChunks who id chunks) reply t m u k n = known_so old new p who (k who) id reply n (λ e f d. served-chunks d)
refused_by waits p old new (steps.Finish who id) reply t m u k n = known_so old new p who (k who) id reply n (λ e f d. served-finishes d)
refused_by waits p old new (steps.Reset who id code) reply t m u k n = known_so old new p who (k who) id reply n (λ e f d. served-resets d)
refused_by waits p old new (steps.Stop who id code) reply t m u k n = known_so old new p who (k who) id reply n (λ e f d. served-stops d)
refused_by waits p old new (steps.SetPriority who id priority) reply t m u k n = known_so old new p who (k who) id reply n (λ e f d. served-priority d)
refused_by waits p old new (steps.Read who id ordered most times) reply t m u k n = known_so old new p who (k who) id reply n (λ e f d. served-reads d)
refused_by waits p old new (steps.ReceivedReset who id) reply t m u k n = known_so old new p who (k who) id reply n (λ e f d. served-asks d)
refused_by waits p old new (steps.SetSendWindow who window) reply t m u k n = served_so old new who reply n (λ e f d. served-set reply d.0)
refused_by waits p old new (steps.SetReceiveWindow who window) reply t m u k n = served_so old new who reply n (λ e f d. served-receive-window d)
refused_by waits p old new (steps.SetMaxConcurrent who dir count) reply t m u k n = served_so old new who reply n (λ e f d. served-max-concurrent d)
refused_by waits p old new (steps.Poll who) reply t m u k n = served_so old new who reply n (λ e f d. served-polls d)
refused_by waits p old new (steps.Emit who most fair) reply t m u k n = served-emitted old new who most fair reply (emitted-some old new who most fair reply n)
refused_by waits p old new (steps.EmitPart who most fair part) reply t m u k n = served-emitted old new who most fair reply (emitted-part old new who most fair part reply n)
refused_by waits p old new (steps.Deliver number index) reply t m u k n = delivers_so old new number index reply n
refused_by waits p old new (steps.Lose number) reply t m u k n = settles_so p old new t m u number Lost LosesPayloadAt reply n
refused_by waits p old new (steps.Ack number) reply t m u k n = settles_so p old new t m u number Acknowledged AcksPayloadAt reply n
refused_by waits p old new _ reply t m u k n = absurd n

-- whatever steps led to a pair, the next one is refused exactly so
pub refused-so : (waits : Option EarlyLimits) (a b : Origin) (h : History) (old new : PairState) (step : Step) (reply : Answer) → EraFrom a b h old → NextOrdinary old step reply new → IsRefusedIn waits (past_of h) old.sent step reply
refused-so waits a b h old new step reply f n = refused_by waits (past_of h) old new step reply (spelled-from f) (marks-from f) (settled-from f) (known-from f) n
