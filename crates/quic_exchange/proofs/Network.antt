-- The network has the payloads that `Emit` and `EmitPart` returned.
use Rattle.std.proofs.Common.{◌≡◌, ℕ, Bool, true, false, List, [], ◌∷◌, ◌++◌, length, Some, Result, Ok, Err, refl, sym, ap, ◌∙◌, subst, inl, inr, arith, ◌+◌, ◌<◌}
use Rattle.std.specs.Prelude.{◌&&◌, MatchBool, is_some, nat_lt, slice_get, slice_set}
use Rattle.std.proofs.lemmas.List.{length-append}
use Rattle.std.proofs.lemmas.Bool.Decides.{nat_tests}
use Rattle.std.proofs.lemmas.Option.{none-some, same_Some}
use Rattle.quic_wire.specs.declared.error.ReceiveError.{ReceiveError}
use Rattle.quic_receiving.specs.declared.transmit.ShouldTransmit.{ShouldTransmit}
use Rattle.quic_streams.specs.Settling.{SentView}
use Rattle.quic_link.specs.Endpoints.{IsOneOf}
use Rattle.quic_endpoint.specs.Ends.{EndState}
use Rattle.quic_endpoint.specs.Emitting.{PayloadView}
use Rattle.quic_endpoint.specs.Reports.{LosesPayloadAt, AcksPayloadAt}
use Rattle.quic_values.specs.declared.memory.OutOfMemory.{OutOfMemory}
use Rattle.quic_steps.specs.declared.steps.End.{End}
use Rattle.quic_steps.specs.declared.steps.End.TheVariants.{A, B}
use Rattle.quic_steps.specs.declared.steps.PayloadPart.{PayloadPart}
use Rattle.quic_steps.specs.declared.steps.Step.{Step}
use Rattle.quic_steps.specs.declared.steps.Step.TheVariants as steps
use Rattle.quic_steps.specs.declared.steps.Reply.TheVariants.{Done, Payload}
use Rattle.quic_steps.specs.declared.steps.PairError.TheVariants.{NoSuchPayload, NoSuchFrame, NotAccepted, AlreadySettled, LimitsBelow, Undecided, Decided, OutOfMemory as NoMemory}
use Rattle.quic_exchange.specs.Sent.{Sent}
use Rattle.quic_exchange.specs.Payloads.{SentText}
use Rattle.quic_exchange.specs.Gone.{HaveLeft}
use Rattle.quic_exchange.specs.declared.unsettled.Report.{Report}
use Rattle.quic_exchange.specs.declared.unsettled.Report.TheVariants.{Lost, Acknowledged}
use Rattle.quic_exchange.specs.Replies.{Answer}
use Rattle.quic_exchange.specs.State.{PairState, OnEnd, with_end}
use Rattle.quic_exchange.specs.Steps.{NextTaken, Next, SentAfter, HandsOver, Delivers, Reports, SettlesPayload, Accepted, Rejected, Retried, needs_decision}
use Rattle.quic_exchange.specs.History.{History}
use Rattle.quic_exchange.specs.From.{Beginning, PairFrom, begun, next}
use Rattle.quic_exchange.specs.Network.{IsSamePayload, KeepsPayloads, KeepsNetwork, SendsPayload, EmitsReturned, DropsPayloads, DropsEarlyData, ChangesNetwork, Returned, returned_then, returned_from, AreInNetwork, AreAllReturned, IsEmittedWhole, IsNetworkOf}
use Rattle.quic_exchange.proofs.Emissions.{EmitsSome, EmittedSome, emitted-some, emitted-part}
use Rattle.quic_exchange.proofs.Lists.{slice_get-append_left, slice_set-keeps, slice_get-set_same, slice_set-length, slice_get-within, slice_get-there, one-of-first, one-of-last}
use Rattle.quic_exchange.proofs.CountedPayloads.{last_of}

-- ---- payloads that stay

same_payload : (s : Sent) → IsSamePayload s s
same_payload s = record { writer = refl; bytes = refl; gone = refl }

keeps_same : (old new : List Sent) → new ≡ old → KeepsNetwork old new
keeps_same old new e =
    let P : List Sent → Type 0 = λ l. KeepsNetwork old l in
    let same : KeepsNetwork old old = record { size = refl; each = λ number s got. (s, got, same_payload s) } in
    subst P (sym e) same

-- one of them is written anew
keeps_set : (sent : List Sent) (number : ℕ) (s t : Sent) → slice_get sent number ≡ Some s → IsSamePayload s t → KeepsNetwork sent (slice_set sent number t)
keeps_set sent number s t is same = record { size = slice_set-length sent number t; each = each }
  where
    each : KeepsPayloads sent (slice_set sent number t)
    each n x got = elim (slice_set-keeps sent number n t x got) [
      | inl here ↦ (let e : s ≡ x = same_Some s x (sym is ∙ sym (ap (slice_get sent) here) ∙ got) in
          let P : Sent → Type 0 = λ k. IsSamePayload k t in
          (t, ap (slice_get (slice_set sent number t)) here ∙ slice_get-set_same sent number s t is, subst P e same))
      | inr there ↦ (x, there, same_payload x)
    ]

keeps_as : (old new more : List Sent) → new ≡ more → KeepsNetwork old more → KeepsNetwork old new
keeps_as old new more e k = let P : List Sent → Type 0 = λ l. KeepsNetwork old l in subst P (sym e) k

-- one more is sent
sends_last : (who : End) (bytes : List ℕ) (old : List Sent) (s : Sent) → s.writer ≡ who → s.text.bytes ≡ bytes → s.gone ≡ false → SendsPayload who bytes old (old ++ s ∷ [])
sends_last who bytes old s w b g = record {
  size = length-append old (s ∷ []);
  each = λ number x got. (x, slice_get-append_left old (s ∷ []) number x got, same_payload x);
  payload = s;
  is = last_of old s;
  writer = w;
  bytes_are = b;
  here = g;
}

-- ---- each step

sent_end : (v : PairState) (who : End) (e : EndState) → (with_end v who e).sent ≡ v.sent
sent_end v A e = refl
sent_end v B e = refl

module _ (old new : PairState) where
  unchanged : new ≡ old → KeepsNetwork old.sent new.sent
  unchanged is = keeps_same old.sent new.sent (ap (λ (v : PairState). v.sent) is)

  on_end : {P : EndState → EndState → Type 0} (who : End) → OnEnd P old who new → KeepsNetwork old.sent new.sent
  on_end who d = keeps_same old.sent new.sent (ap (λ (v : PairState). v.sent) d.is ∙ sent_end old who d.end)

  emits_one : (who : End) (most : ℕ) (fair : Bool) (answer : Result (Unit {0}) OutOfMemory) (payload : PayloadView) → EmitsSome old who most fair answer payload new → SendsPayload who payload.bytes old.sent new.sent
  emits_one who most fair answer payload k =
      let P : List Sent → Type 0 = λ l. SendsPayload who payload.bytes old.sent l in
      subst P (sym (ap (λ (v : PairState). v.sent) k.is)) (sends_last who payload.bytes old.sent k.sent k.sent_is.writer (ap (λ (t : SentText). t.bytes) k.sent_is.text) k.sent_is.here)

  emits_network : (who : End) (most : ℕ) (fair : Bool) (reply : Answer) → EmittedSome old who most fair reply new → EmitsReturned who reply old.sent new.sent
  emits_network who most fair (Ok (Payload number bytes)) k =
      let P : List ℕ → Type 0 = λ b. SendsPayload who b old.sent new.sent in
      (k.number_is, subst P (sym k.bytes_are) (emits_one who most fair (Ok tt) k.payload k.emits))
  emits_network who most fair (Err NoMemory) k = elim k [
    | inl same ↦ inl (unchanged same)
    | inr t ↦ inr (t.payload.bytes, emits_one who most fair t.answer t.payload t.emits)
  ]
  emits_network who most fair _ k = absurd k

  marks_one : (number : ℕ) (s : Sent) (index : ℕ) → slice_get old.sent number ≡ Some s → (answer : Result ShouldTransmit ReceiveError) → SentAfter old.sent number s index answer new.sent → KeepsNetwork old.sent new.sent
  marks_one number s index is (Ok transmit) k = keeps_as old.sent new.sent _ k.2 (keeps_set old.sent number s (record s { text = k.0 }) is (record { writer = refl; bytes = ap (λ (t : SentText). t.bytes) k.1.same; gone = refl }))
  marks_one number s index is (Err error) k = keeps_same old.sent new.sent k

  handed : (number index : ℕ) (reply : Answer) → HandsOver old number index reply new → KeepsNetwork old.sent new.sent
  handed number index reply k = marks_one number k.payload.sent index k.payload.is k.answer k.sent

  delivered : (number index : ℕ) (reply : Answer) → Delivers old number index reply new → KeepsNetwork old.sent new.sent
  delivered number index (Err NoSuchPayload) k = unchanged k.1
  delivered number index (Err NoSuchFrame) k = unchanged k.is
  delivered number index (Err NoMemory) k = elim k [
    | inl same ↦ unchanged same.1
    | inr t ↦ handed number index (Err NoMemory) t
  ]
  delivered number index reply k = handed number index reply k

  module _ (kind : Report) (At : EndState → SentView → Result (Unit {0}) SentView → EndState → Type 0) (number : ℕ) where
    reported : (reply : Answer) → Reports kind At old number reply new → KeepsNetwork old.sent new.sent
    reported reply k = keeps_as old.sent new.sent _ (ap (λ (v : PairState). v.sent) k.is) (keeps_set old.sent number k.payload.sent _ k.payload.is (record { writer = refl; bytes = refl; gone = refl }))

    settled : (reply : Answer) → SettlesPayload kind At old number reply new → KeepsNetwork old.sent new.sent
    settled (Ok Done) k = reported (Ok Done) k
    settled (Err NoMemory) k = reported (Err NoMemory) k
    settled (Err NoSuchPayload) k = unchanged k.1
    settled (Err AlreadySettled) k = unchanged k.is
    settled (Err NotAccepted) k = unchanged k.is
    settled _ k = absurd k

  accepts : (reply : Answer) → Accepted old reply new → KeepsNetwork old.sent new.sent
  accepts (Ok Done) k = keeps_same old.sent new.sent (ap (λ (v : PairState). v.sent) k.is)
  accepts (Err NoMemory) k = unchanged k.is
  accepts (Err LimitsBelow) k = unchanged k.is
  accepts (Err Decided) k = unchanged k.1
  accepts _ k = absurd k

  rejects : (reply : Answer) → Rejected old reply new → DropsEarlyData reply old new
  rejects (Ok Done) k =
      let P : List Sent → Type 0 = λ l. HaveLeft old.sent l in
      (subst P (sym (ap (λ (v : PairState). v.sent) k.is)) k.left, ap (λ (v : PairState). v.a.pending) k.is)
  rejects (Err Decided) k = unchanged k.1
  rejects _ k = absurd k

  retries : (reply : Answer) → Retried old reply new → DropsPayloads reply old.sent new.sent
  retries (Ok Done) k = let P : List Sent → Type 0 = λ l. HaveLeft old.sent l in subst P (sym (ap (λ (v : PairState). v.sent) k.is)) k.left
  retries (Err NoMemory) k = unchanged k.1
  retries (Err Decided) k = unchanged k.1
  retries _ k = absurd k

  taken : (step : Step) (reply : Answer) → NextTaken old step reply new → ChangesNetwork old step reply new
  taken (steps.Open who dir) reply n = on_end who n
  taken (steps.Accept who dir) reply n = on_end who n
  taken (steps.Write who id bytes) reply n = on_end who n
  taken (steps.WriteChunks who id chunks) reply n = on_end who n
  taken (steps.Finish who id) reply n = on_end who n
  taken (steps.Reset who id code) reply n = on_end who n
  taken (steps.Stop who id code) reply n = on_end who n
  taken (steps.SetPriority who id priority) reply n = on_end who n
  taken (steps.Read who id ordered most times) reply n = on_end who n
  taken (steps.ReceivedReset who id) reply n = on_end who n
  taken (steps.SetSendWindow who window) reply n = on_end who n
  taken (steps.SetReceiveWindow who window) reply n = on_end who n
  taken (steps.SetMaxConcurrent who dir count) reply n = on_end who n
  taken (steps.Poll who) reply n = on_end who n
  taken (steps.Emit who most fair) reply n = emits_network who most fair reply (emitted-some old new who most fair reply n)
  taken (steps.EmitPart who most fair part) reply n = emits_network who most fair reply (emitted-part old new who most fair part reply n)
  taken (steps.Deliver number index) reply n = delivered number index reply n
  taken (steps.Lose number) reply n = settled Lost LosesPayloadAt number reply n
  taken (steps.Ack number) reply n = settled Acknowledged AcksPayloadAt number reply n
  taken steps.EarlyAccept reply n = accepts reply n
  taken steps.EarlyReject reply n = rejects reply n
  taken steps.Retry reply n = retries reply n

  undecided : new ≡ old → (step : Step) → ChangesNetwork old step (Err Undecided) new
  undecided is (steps.Emit who most fair) = unchanged is
  undecided is (steps.EmitPart who most fair part) = unchanged is
  undecided is steps.EarlyReject = unchanged is
  undecided is steps.Retry = unchanged is
  undecided is _ = unchanged is

  -- a step adds the payload that it returns, and drops none unless it is a rejection or a Retry
  pub changes-network : (step : Step) (reply : Answer) → Next old step reply new → ChangesNetwork old step reply new
  changes-network step reply n = by (is_some old.waits && needs_decision step) n
    where
      by : (b : Bool) → MatchBool b ((reply ≡ Err Undecided) × (new ≡ old)) (NextTaken old step reply new) → ChangesNetwork old step reply new
      by true k = let P : Answer → Type 0 = λ r. ChangesNetwork old step r new in subst P (sym k.0) (undecided k.1 step)
      by false k = taken step reply k

-- ---- what a caller knows

abbrev as_returned : ℕ → End → List ℕ → Returned
as_returned number who bytes = record { number = number; writer = who; bytes = bytes }

returned_next : (l : List Returned) (h : History) (step : Step) (reply : Answer) → returned_from l (h ++ (step, reply) ∷ []) ≡ returned_then (returned_from l h) step reply
returned_next l [] step reply = refl
returned_next l (e ∷ h) step reply = returned_next (returned_then l e.0 e.1) h step reply

module _ (l : List Returned) (old new : List Sent) (k : KeepsPayloads old new) where
  there_still : AreInNetwork l old → AreInNetwork l new
  there_still a r listed =
      let b = a r listed in
      let t = k r.number b.0 b.1 in
      (t.0, t.1, t.2.writer ∙ b.2, t.2.bytes ∙ b.3, t.2.gone ∙ b.4)

  returned_still : AreAllReturned l old → (number : ℕ) (t : Sent) → slice_get new number ≡ Some t → t.gone ≡ false → number < length old → IsOneOf (record { number = number; writer = t.writer; bytes = t.text.bytes }) l
  returned_still a number t got here within =
      let s = slice_get-there old number within in
      let u = k number s.0 s.1 in
      let P : Sent → Type 0 = λ x. IsSamePayload s.0 x in
      let i = subst P (same_Some u.0 t (sym u.1 ∙ got)) u.2 in
      let Q : End → Type 0 = λ w. IsOneOf (as_returned number w t.text.bytes) l in
      let R : List ℕ → Type 0 = λ b. IsOneOf (as_returned number s.0.writer b) l in
      subst Q (sym i.writer) (subst R (sym i.bytes) (a number s.0 s.1 (sym i.gone ∙ here)))

module _ (l : List Returned) (old new : List Sent) (k : KeepsNetwork old new) where
  returned_kept : AreAllReturned l old → AreAllReturned l new
  returned_kept a number t got here =
      let w = slice_get-within new number t got in
      let size = k.size in
      returned_still l old new k.each a number t got here (omega (arith, w, size))

module _ (l : List Returned) (who : End) (bytes : List ℕ) (old new : List Sent) (p : SendsPayload who bytes old new) where
  there_sent : AreInNetwork l old → AreInNetwork (as_returned (length old) who bytes ∷ l) new
  there_sent a r (inl e) =
      let P : Returned → Type 0 = λ q. (s : Sent) × (slice_get new q.number ≡ Some s) × (s.writer ≡ q.writer) × (s.text.bytes ≡ q.bytes) × (s.gone ≡ false) in
      let now : P (as_returned (length old) who bytes) = (p.payload, p.is, p.writer, p.bytes_are, p.here) in
      subst P (sym e) now
  there_sent a r (inr h) = there_still l old new p.each a r h

  returned_sent : AreAllReturned l old → AreAllReturned (as_returned (length old) who bytes ∷ l) new
  returned_sent a number t got here = by (nat_lt number (length old)) refl
    where
      by : (b : Bool) → nat_lt number (length old) ≡ b → IsOneOf (as_returned number t.writer t.text.bytes) (as_returned (length old) who bytes ∷ l)
      by true e = inr (returned_still l old new p.each a number t got here (grind (arith, nat_tests, e)))
      by false e =
          let w = slice_get-within new number t got in
          let size = p.size in
          let last : number ≡ length old = grind (arith, nat_tests, e, w, size) in
          let same : t ≡ p.payload = same_Some t p.payload (sym got ∙ ap (slice_get new) last ∙ p.is) in
          inl (ap (λ (n : ℕ). as_returned n t.writer t.text.bytes) last
          ∙ ap (λ (s : Sent). as_returned (length old) s.writer s.text.bytes) same
          ∙ ap (λ (x : End). as_returned (length old) x p.payload.text.bytes) p.writer
          ∙ ap (as_returned (length old) who) p.bytes_are)

whole_before : (h : History) (step : Step) (reply : Answer) → IsEmittedWhole (h ++ (step, reply) ∷ []) → IsEmittedWhole h
whole_before h step reply w = record {
  whole = λ who most fair listed. w.whole who most fair (one-of-first (steps.Emit who most fair, Err NoMemory) h ((step, reply) ∷ []) listed);
  parts = λ who most fair part listed. w.parts who most fair part (one-of-first (steps.EmitPart who most fair part, Err NoMemory) h ((step, reply) ∷ []) listed);
}

module _ (h : History) (old new : PairState) (before : IsNetworkOf h old.sent) where
  abbrev Behind : Step → Answer → Type 0
  Behind step reply = IsNetworkOf (h ++ (step, reply) ∷ []) new.sent

  network_as : (step : Step) (reply : Answer) (l : List Returned) → returned_then (returned_from [] h) step reply ≡ l → AreInNetwork l new.sent → (IsEmittedWhole (h ++ (step, reply) ∷ []) → AreAllReturned l new.sent) → Behind step reply
  network_as step reply l e there only =
      let P : List Returned → Type 0 = λ k. AreInNetwork k new.sent in
      let Q : List Returned → Type 0 = λ k. AreAllReturned k new.sent in
      let all = returned_next [] h step reply ∙ e in
      record { there = subst P (sym all) there; only = λ w. subst Q (sym all) (only w) }

  network_kept : (step : Step) (reply : Answer) → returned_then (returned_from [] h) step reply ≡ returned_from [] h → KeepsNetwork old.sent new.sent → Behind step reply
  network_kept step reply e k =
      network_as step reply (returned_from [] h) e (there_still (returned_from [] h) old.sent new.sent k.each before.there)
      (λ w. returned_kept (returned_from [] h) old.sent new.sent k (before.only (whole_before h step reply w)))

  network_dropped : (step : Step) (reply : Answer) → returned_then (returned_from [] h) step reply ≡ [] → HaveLeft old.sent new.sent → Behind step reply
  network_dropped step reply e k =
      network_as step reply [] e (λ r listed. absurd listed)
      (λ w number t got here. let both : true ≡ false = sym (k.each number t got).gone ∙ here in cc)

  network_emitted : (who : End) (most : ℕ) (fair : Bool) (reply : Answer) → EmitsReturned who reply old.sent new.sent → Behind (steps.Emit who most fair) reply
  network_emitted who most fair (Ok (Payload number bytes)) k =
      let l = returned_from [] h in
      network_as (steps.Emit who most fair) (Ok (Payload number bytes)) (as_returned (length old.sent) who bytes.items ∷ l) (ap (λ (n : ℕ). as_returned n who bytes.items ∷ l) k.0) (there_sent l who bytes.items old.sent new.sent k.1 before.there)
      (λ w. returned_sent l who bytes.items old.sent new.sent k.1 (before.only (whole_before h (steps.Emit who most fair) (Ok (Payload number bytes)) w)))
  network_emitted who most fair (Err NoMemory) k = elim k [
    | inl same ↦ network_kept (steps.Emit who most fair) (Err NoMemory) refl same
    | inr p ↦ network_as (steps.Emit who most fair) (Err NoMemory) (returned_from [] h) refl (there_still (returned_from [] h) old.sent new.sent p.1.each before.there)
        (λ w. absurd (w.whole who most fair (one-of-last (steps.Emit who most fair, Err NoMemory) h ((steps.Emit who most fair, Err NoMemory) ∷ []) (inl refl))))
  ]
  network_emitted who most fair reply k = network_kept (steps.Emit who most fair) reply refl k

  network_part : (who : End) (most : ℕ) (fair : Bool) (part : PayloadPart) (reply : Answer) → EmitsReturned who reply old.sent new.sent → Behind (steps.EmitPart who most fair part) reply
  network_part who most fair part (Ok (Payload number bytes)) k =
      let l = returned_from [] h in
      network_as (steps.EmitPart who most fair part) (Ok (Payload number bytes)) (as_returned (length old.sent) who bytes.items ∷ l) (ap (λ (n : ℕ). as_returned n who bytes.items ∷ l) k.0) (there_sent l who bytes.items old.sent new.sent k.1 before.there)
      (λ w. returned_sent l who bytes.items old.sent new.sent k.1 (before.only (whole_before h (steps.EmitPart who most fair part) (Ok (Payload number bytes)) w)))
  network_part who most fair part (Err NoMemory) k = elim k [
    | inl same ↦ network_kept (steps.EmitPart who most fair part) (Err NoMemory) refl same
    | inr p ↦ network_as (steps.EmitPart who most fair part) (Err NoMemory) (returned_from [] h) refl (there_still (returned_from [] h) old.sent new.sent p.1.each before.there)
        (λ w. absurd (w.parts who most fair part (one-of-last (steps.EmitPart who most fair part, Err NoMemory) h ((steps.EmitPart who most fair part, Err NoMemory) ∷ []) (inl refl))))
  ]
  network_part who most fair part reply k = network_kept (steps.EmitPart who most fair part) reply refl k

  network_next : (step : Step) (reply : Answer) → ChangesNetwork old step reply new → Behind step reply
  network_next (steps.Emit who most fair) reply k = network_emitted who most fair reply k
  network_next (steps.EmitPart who most fair part) reply k = network_part who most fair part reply k
  network_next steps.EarlyReject (Ok reply) k = network_dropped steps.EarlyReject (Ok reply) refl k.0
  network_next steps.EarlyReject (Err error) k = network_kept steps.EarlyReject (Err error) refl k
  network_next steps.Retry (Ok reply) k = network_dropped steps.Retry (Ok reply) refl k
  network_next steps.Retry (Err error) k = network_kept steps.Retry (Err error) refl k
  network_next step reply k = network_kept step reply refl k

pub network-led : {s : Beginning} {h : History} {v : PairState} → PairFrom s h v → IsNetworkOf h v.sent
network-led {s} {h} {v} (begun n) =
    let empty : v.sent ≡ [] = ap (λ (k : PairState). k.sent) n.is in
    record { there = λ r listed. absurd listed; only = λ w number t got here. absurd (none-some t (sym (ap (λ (l : List Sent). slice_get l number) empty) ∙ got)) }
network-led {s} (next {h} {old} {new} step reply before n) = network_next h old new (network-led before) step reply (changes-network old new step reply n)
