-- Where all arrived and was read, or was stopped or reset, all that was written counts as consumed.
use Rattle.std.proofs.Common.{◌≡◌, ℕ, zero, suc, Bool, true, false, eqb, List, [], ◌∷◌, length, Option, Some, None, is_some, Ok, refl, sym, ap, ◌∙◌, subst, inl, inr, arith, ◌+◌, ◌≤◌, ◌<◌}
use Rattle.std.specs.Prelude.{◌||◌, nat_eq, slice_get, if◌then◌else◌}
use Rattle.std.specs.List.{list_any}
use Rattle.std.proofs.lemmas.Option.{same_Some}
use Rattle.quic_assembler.specs.Piece.{lies}
use Rattle.quic_wire.specs.declared.frame.Frame.{Frame}
use Rattle.quic_wire.specs.declared.frame.Frame.TheVariants as frames
use Rattle.quic_wire.proofs.Joins.{same as same_frames}
use Rattle.quic_receiving.specs.Data.{IsAllGiven}
use Rattle.quic_receiving.specs.Half.{Half}
use Rattle.quic_receiving.proofs.Data.{in-carried}
use Rattle.quic_flows.specs.Flow.{SendMove}
use Rattle.quic_history.specs.World.{World, Made, id_refusal}
use Rattle.quic_history.specs.SendTotals.{send_totals}
use Rattle.quic_history.specs.History.{Event, Received, From, HalfFrom, StreamFrom, Trace, untouched, ReadChunk, slices, trace, streams, moved_streams, total_over, taken_in_all, is_closed, since, with_moved_stream, send_move_of}
use Rattle.quic_history.proofs.StreamSteps.{half-from, known-from, gone-from}
use Rattle.quic_history.proofs.Totals.{IsOnce, once_with, same}
use Rattle.quic_history.proofs.Traces.{quiet, itself}
use Rattle.quic_link.specs.Endpoints.{LinkedEnd, Linked, IsOneOf, came_on}
use Rattle.quic_link.specs.Promises.{KeptAt}
use Rattle.quic_link.specs.Truths.{amount_on}
use Rattle.quic_link.proofs.Ends.{ArePlain, since-plain}
use Rattle.quic_link.proofs.Joint.{agrees}
use Rattle.quic_link.proofs.Sums.{total-most}
use Rattle.quic_steps.specs.declared.steps.End.{End}
use Rattle.quic_steps.specs.declared.steps.End.TheVariants.{A, B}
use Rattle.quic_exchange.specs.Sent.{Sent}
use Rattle.quic_exchange.specs.Payloads.{is_accepted}
use Rattle.quic_exchange.specs.State.{PairState, peer, the_end}
use Rattle.quic_exchange.specs.History.{History, Past, past_of}
use Rattle.quic_exchange.specs.Headline.{SomeStream, HasOffset}
use Rattle.quic_exchange.specs.From.{Beginning, PairFrom}
use Rattle.quic_exchange.specs.Runs.{sendings_of}
use Rattle.quic_exchange.specs.Tale.{Tales, Told}
use Rattle.quic_exchange.specs.Readable.{SomeReset}
use Rattle.quic_exchange.specs.Settling.{AreIdle, AreSettledIn}
use Rattle.quic_exchange.specs.Completed.{HasArrived, HaveBeenRead, IsUnreset, IsUnstopped}
use Rattle.quic_exchange.proofs.Joined.{Seen}
use Rattle.quic_exchange.proofs.Flips.{seen-as, peer-peer}
use Rattle.quic_exchange.proofs.Headlines.{length-written}
use Rattle.quic_exchange.proofs.Marks.{AreMarkedSo, marks-from}
use Rattle.quic_exchange.proofs.Arrived.{have-arrived}
use Rattle.quic_exchange.proofs.Recounted.{made_at}
use Rattle.quic_exchange.proofs.Grown.{joined-from}
use Rattle.quic_exchange.proofs.ToldOnce.{told-once}
use Rattle.quic_progress.specs.Progress.{IsAgreed, ForgetsNone, KnowsLimits, OwesNoDebt, CanBeTold, IsAllConsumed}
use Rattle.quic_progress.specs.Consumed.{HaveResetsArrived, CountsAsConsumed, CountAsConsumed, ConsumeMost}
use Rattle.quic_progress.proofs.Amounts.{total_in, sum-taken}
use Rattle.quic_progress.proofs.Unread.{AreReadUp, given-all, received-spent}
use Rattle.quic_progress.proofs.Reruns.{reads-run}
use Rattle.quic_progress.proofs.Traces.{kept-low, stopped-still, gone-settled}
use Rattle.quic_progress.proofs.Paid.{PaidAt, paid-from}
use Rattle.quic_progress.proofs.Heard.{HeardAt, heard-from}
use Rattle.quic_progress.proofs.ResetTraces.{IsOverSo, reset-taken}
use Rattle.quic_progress.proofs.Course.{agreed-waits, course-from}
use Rattle.quic_progress.proofs.Settled.{know-limits, know-most}

-- ---- sums over other streams

but : (ℕ → ℕ) → ℕ → ℕ → ℕ
but f x q = if eqb q x then 0 else f q

but_other : (f : ℕ → ℕ) (x q : ℕ) → eqb q x ≡ false → but f x q ≡ f q
unfolding but
but_other f x q n = rw n refl

but_there : (f : ℕ → ℕ) (x : ℕ) → but f x x ≡ 0
unfolding but
but_there f x = rw (itself x) refl

but_most : (f : ℕ → ℕ) (x q : ℕ) → but f x q ≤ f q
unfolding but
but_most f x q = by (eqb q x)
  where
    by : (b : Bool) → (if b then 0 else f q) ≤ f q
    by true = omega arith
    by false = omega arith

or_none : (a b : Bool) → (a || b) ≡ false → (a ≡ false) × (b ≡ false)
or_none true b e = cc
or_none false b e = (refl, e)

turn : (x y : ℕ) → eqb x y ≡ false → eqb y x ≡ false
turn x y e = by (eqb y x) refl
  where
    by : (b : Bool) → eqb y x ≡ b → eqb y x ≡ false
    by true k = absurd (let i : y ≡ x = same y x k in let n : eqb x y ≡ true = ap (λ j. eqb x j) i ∙ itself x in let z = sym n ∙ e in cc)
    by false k = k

total_but : (f : ℕ → ℕ) (x : ℕ) (xs : List ℕ) → list_any (nat_eq x) xs ≡ false → total_over f xs ≤ total_over (but f x) xs
total_but f x [] n = omega arith
total_but f x (y ∷ ys) n =
    let parts = or_none (eqb x y) (list_any (nat_eq x) ys) n in
    let here = but_other f x y (turn x y parts.0) in
    let rest = total_but f x ys parts.1 in
    omega (arith, here, rest)

-- with one more, which is among them or counts nothing
one_among : (f : ℕ → ℕ) (x t : ℕ) (ys : List ℕ) → t ≤ total_over (but f x) ys → (list_any (nat_eq x) ys ≡ false → f x ≡ 0) → f x + t ≤ total_over f ys
one_among f x t ys rest none = by (list_any (nat_eq x) ys) refl
  where
    by : (b : Bool) → list_any (nat_eq x) ys ≡ b → f x + t ≤ total_over f ys
    by true i =
        let z = but_there f x in
        let more = total_in (but f x) f (but_most f x) x (f x) ys (omega (arith, z)) i in
        omega (arith, more, rest)
    by false n =
        let z = none n in
        let l = total-most f (but f x) ys (but_most f x) in
        omega (arith, z, l, rest)

-- over those that count at all the sum is no less
total_among : (f : ℕ → ℕ) (xs ys : List ℕ) → IsOnce xs → ((q : ℕ) → list_any (nat_eq q) ys ≡ false → f q ≡ 0) → total_over f xs ≤ total_over f ys
total_among f [] ys once none = omega arith
total_among f (x ∷ xs) ys once none =
    let a = total_but f x xs once.0 in
    let b = total_among (but f x) xs ys once.1 (λ q n. let l = but_most f x q in let z = none q n in omega (arith, l, z)) in
    one_among f x (total_over f xs) ys (omega (arith, a, b)) (none x)

-- ---- what arrived

last_below : (n high : ℕ) → ((at : ℕ) → at < n → at < high) → n ≤ high
last_below zero high h = omega arith
last_below (suc n) high h = let l = h n (omega arith) in omega (arith, l)

no_code : (o : Option ℕ) → is_some o ≡ false → o ≡ None
no_code None e = refl
no_code (Some code) e = cc

differ : (b : Bool) → b ≡ true → b ≡ false → ⊥
differ true e d = cc
differ false e d = cc

module _ (x y : LinkedEnd) (linked : Linked x y) (q : ℕ) where
  -- a stream without a final size was neither reset nor freed
  unreset : (came_on y q).sized ≡ false → (b : Bool) → is_some (came_on y q).reset ≡ b → is_some (came_on y q).reset ≡ false
  unreset n true e = absurd (differ (came_on y q).sized ((((agrees linked).0).fits q).reset_sized e) n)
  unreset n false e = e

  there : (came_on y q).sized ≡ false → (b : Bool) → (came_on y q).gone ≡ b → (came_on y q).gone ≡ false
  there n true e =
      let c = ((agrees linked).1).comes in
      absurd (elim (gone-settled y.made y.calls y.world c.from.run c.plain q e) [
        | inl sized ↦ differ (came_on y q).sized sized n
        | inr reset ↦ differ (came_on y q).sized ((((agrees linked).0).fits q).reset_sized reset) n
      ])
  there n false e = e

  kept_below : (came_on y q).sized ≡ false → (at : ℕ) → KeptAt y.calls q at → at < (came_on y q).high
  kept_below n at k =
      let r = unreset n (is_some (came_on y q).reset) refl in
      let g = there n (came_on y q).gone refl in
      let unclosed : is_closed (came_on y q) ≡ false = rw (r, g) refl in
      let carried = in-carried (came_on y q).kept at (((agrees linked).1).keeps.bytes q at k unclosed) in
      kept-low y.calls q (no_code (came_on y q).reset r) at carried.0 carried.1

  -- all came of one with a final size
  pub came-sized : (came_on y q).sized ≡ true → amount_on x q ≤ (came_on y q).high
  came-sized e = let w = (((agrees linked).0).fits q).whole e in omega (arith, w)

  -- one that was reset, or freed with a final size, as any calls tell that led to the same end, has a final size
  freed_sized : id_refusal y.world q ≡ None → y.world.receive q ≡ None → (came_on y q).sized ≡ true
  freed_sized known none =
      let c = ((agrees linked).1).comes in
      elim (gone-settled y.made y.calls y.world c.from.run c.plain q (gone-from (trace y.calls) y.world q c.facts.streams known none)) [
        | inl sized ↦ sized
        | inr reset ↦ (((agrees linked).0).fits q).reset_sized reset
      ]

  half_sized : (half : Half) → y.world.receive q ≡ Some half → is_some half.reset ≡ true → (came_on y q).sized ≡ true
  half_sized half held reset =
      let facts = ((agrees linked).1).comes.facts.streams in
      let told = half-from (trace y.calls) y.world q half facts (known-from (trace y.calls) y.world q half facts held) held in
      (((agrees linked).0).fits q).reset_sized (sym (ap (λ (o : Option ℕ). is_some o) told.reset) ∙ reset)

  over_half : (window : ℕ) (t : Trace) (half : Half) → IsOverSo t → HalfFrom window t half → is_some half.reset ≡ true
  over_half window t half (inl reset) f = ap (λ (o : Option ℕ). is_some o) f.reset ∙ reset
  over_half window t half (inr gone) f = absurd (differ t.gone gone.0 f.there)

  over_sized : (window : ℕ) (t : Trace) (r : Option ℕ) (o : Option Half) → id_refusal y.world q ≡ r → y.world.receive q ≡ o → IsOverSo t → StreamFrom window t r o → (came_on y q).sized ≡ true
  over_sized window t None (Some half) known held over f = half_sized half held (over_half window t half over f)
  over_sized window t None None known none over f = freed_sized known none
  over_sized window t (Some error) (Some half) known held over f = absurd f
  over_sized window t (Some error) None known none over f = absurd (let P : Trace → Type 0 = λ k. IsOverSo k in nothing_over (subst P f over))
    where
      nothing_over : IsOverSo untouched → ⊥
      nothing_over (inl e) = cc
      nothing_over (inr e) = let k = e.0 in cc

  pub over-sized : (m : Made) (h : List Event) → From m h y.world → IsOverSo (trace h q) → (came_on y q).sized ≡ true
  over-sized m h f over = over_sized y.world.window (trace h q) (id_refusal y.world q) (y.world.receive q) refl refl over (f.facts.streams q)

  -- all that was written came
  pub all-came : ((at : ℕ) → at < amount_on x q → KeptAt y.calls q at) → amount_on x q ≤ (came_on y q).high
  all-came all = by (came_on y q).sized refl
    where
      by : (b : Bool) → (came_on y q).sized ≡ b → amount_on x q ≤ (came_on y q).high
      by true e = came-sized e
      by false e = last_below (amount_on x q) (came_on y q).high (λ at l. kept_below e at (all at l))

-- no more was written in all than came
all_written : (x y : LinkedEnd) → Linked x y → ((q : ℕ) → amount_on x q ≤ (came_on y q).high) → taken_in_all x.calls ≤ y.world.credit.data_recvd
all_written x y linked came =
    let s = (agrees linked).0 in
    let r = (agrees linked).1 in
    let taken = sum-taken x.made x.calls x.world s.comes.from.run s.comes.plain in
    let each = total-most (λ q. (came_on y q).high) (λ q. amount_on x q) (moved_streams x.calls) came in
    let among = total_among (λ q. (came_on y q).high) (moved_streams x.calls) (streams y.calls) (moved_once x.calls) (λ q n. ap (λ (t : Trace). t.high) (quiet y.calls q n)) in
    let received = r.comes.facts.credit.received in
    omega (arith, taken, each, among, received)
  where
    moved_if : (o : Option (ℕ × SendMove)) (ids : List ℕ) → IsOnce ids → IsOnce (with_moved_stream o ids)
    moved_if None ids o = o
    moved_if (Some m) ids o = once_with m.0 ids o

    moved_once : (h : List Event) → IsOnce (moved_streams h)
    moved_once [] = tt
    moved_once (e ∷ h) = moved_if (send_move_of e) (moved_streams h) (moved_once h)

-- ---- as an end sees it

module _ (p : Past) (v : PairState) (who : End) (marks : AreMarkedSo p.accepted v.sent) (x y : LinkedEnd) (k : Seen p who v x y) where
  -- a byte of a frame that was accepted was kept
  kept_at : (q at : ℕ) → SomeStream v.sent who q p.accepted (HasOffset at) → KeptAt y.calls q at
  kept_at q at s =
      let m = marks.marked s.at s.listed in
      let from = s.sent_as in
      let own = k.own s.at.0 from.payload from.is from.writer in
      let marked : is_accepted from.payload.text s.at.1 ≡ true = ap (λ (z : Sent). is_accepted z.text s.at.1) (same_Some from.payload m.payload (sym from.is ∙ m.is)) ∙ m.marked in
      let stands : slice_get own.all s.at.1 ≡ Some (frames.Stream s.stream) = ap (λ (l : List Frame). slice_get l s.at.1) (same_frames from.payload.text.bytes own.all from.frame.all own.spelled from.frame.spelled) ∙ from.frame.at in
      let w = own.accepted s.at.1 s.stream stands marked in
      let P : ℕ → Type 0 = λ n. lies s.stream.offset n at ≡ true in
      let Q : ℕ → Type 0 = λ i. IsOneOf (Received i s.stream.offset w.bytes s.stream.fin (Ok w.transmit)) y.calls in
      record { offset = s.stream.offset; bytes = w.bytes; fin = s.stream.fin; answer = Ok w.transmit; is = subst Q s.on w.is; kept = refl; has = subst P w.behind s.is }

  -- all that was written on a stream came, where it arrived, or a reset did
  arrived_came : (q : ℕ) → HasArrived (p.flow who q) who q p.accepted v.sent → amount_on x q ≤ (came_on y q).high
  arrived_came q arrived = all-came x y k.linked q (λ at below.
      let n = length-written p v.sent who x y k.sends q in
      kept_at q at (arrived.bytes at (omega (arith, n, below))))

  over_came : (q : ℕ) (m : Made) (h : List Event) → From m h (the_end v (peer who)).streams → IsOverSo (trace h q) → amount_on x q ≤ (came_on y q).high
  over_came q m h f over = let P : World → Type 0 = λ w. From m h w in came-sized x y k.linked q (over-sized x y k.linked q m h (subst P (sym k.there.world) f) over)

  -- and so in all
  received_all : ((q : ℕ) → amount_on x q ≤ (came_on y q).high) → taken_in_all x.calls ≤ (the_end v (peer who)).streams.credit.data_recvd
  received_all came =
      let same_world : y.world.credit.data_recvd ≡ (the_end v (peer who)).streams.credit.data_recvd = ap (λ (w : World). w.credit.data_recvd) k.there.world in
      let l = all_written x y k.linked came in
      omega (arith, same_world, l)

  -- a stream of which each byte was given is read up
  read_whole : (q : ℕ) (half : Half) → (the_end v (peer who)).streams.receive q ≡ Some half → IsAllGiven (slices (p.flow who q).given) (length (p.flow who q).written) → half.end ≤ half.buffer.bytes_read
  read_whole q half held all =
      let r = (agrees k.linked).1 in
      let held_there : y.world.receive q ≡ Some half = ap (λ (w : World). w.receive q) k.there.world ∙ held in
      let facts = r.comes.facts.streams in
      let told = half-from (trace y.calls) y.world q half facts (known-from (trace y.calls) y.world q half facts held_there) held_there in
      let n = length-written p v.sent who x y k.sends q in
      let P : List ReadChunk → Type 0 = λ l. IsAllGiven (slices l) (length (p.flow who q).written) in
      let read = given-all y.calls q (length (p.flow who q).written) (subst P (sym (k.sends.given q)) all) in
      let high = (((agrees k.linked).0).fits q).high in
      let a = told.high in
      let b = told.read in
      omega (arith, n, read, high, a, b)

-- ---- whatever steps led to it

module _ (s : Beginning) (h : History) (v : PairState) (f : PairFrom s h v) (agreed : IsAgreed s v) (idle : AreIdle v) (settled : AreSettledIn 0 (length v.sent) v.sent) (read : HaveBeenRead (past_of h)) (resets : HaveResetsArrived (past_of h) v.sent) where
  -- the calls that each end came from
  paid : (who : End) → PaidAt (made_at (course-from f (agreed-waits f agreed)).a (course-from f (agreed-waits f agreed)).b who) (past_of h) who (the_end v who).streams
  paid who =
      let c = course-from f (agreed-waits f agreed) in
      let P : Past → Type 0 = λ p. PaidAt (made_at c.a c.b who) p who (the_end v who).streams in
      subst P (sym c.past) (paid-from c.era who)

  heard : (who : End) → HeardAt (made_at (course-from f (agreed-waits f agreed)).a (course-from f (agreed-waits f agreed)).b who) (past_of h) v.sent who (the_end v who).streams
  heard who =
      let c = course-from f (agreed-waits f agreed) in
      let P : Past → Type 0 = λ p. HeardAt (made_at c.a c.b who) p v.sent who (the_end v who).streams in
      subst P (sym c.past) (heard-from c.era who)

  -- its reader stopped none that it holds and that is not stopped
  unstopped : (who : End) (q : ℕ) (half : Half) → (the_end v (peer who)).streams.receive q ≡ Some half → half.stopped ≡ false → IsUnstopped ((past_of h).flow who q)
  unstopped who q half held runs code i =
      let a = paid (peer who) in
      let w = (the_end v (peer who)).streams in
      let P : End → Type 0 = λ e. IsOneOf code ((past_of h).flow e q).stops in
      let stopped = stopped-still a.calls q code a.plain (a.stops q code (subst P (sym (peer-peer who)) i)) in
      let facts = a.from.facts.streams in
      let told = half-from (trace a.calls) (the_end v (peer who)).streams q half facts (known-from (trace a.calls) (the_end v (peer who)).streams q half facts held) held in
      differ half.stopped (told.stopped ∙ stopped) runs

  -- of a stream that was given up, a reset came
  over : (who : End) (q code : ℕ) → IsOneOf code ((past_of h).flow who q).resets → IsOverSo (trace (heard (peer who)).calls q)
  over who q code i =
      let a = heard (peer who) in
      let r = resets who q code i in
      let P : End → Type 0 = λ e. SomeReset v.sent e q r.0 (past_of h).accepted in
      reset-taken _ a.calls (the_end v (peer who)).streams a.from.run a.plain q (a.heard q r.0 (subst P (sym (peer-peer who)) r.1))

  -- so none was given up that is held and was not reset
  unreset_there : (who : End) (q : ℕ) (half : Half) → (the_end v (peer who)).streams.receive q ≡ Some half → half.reset ≡ None → IsUnreset ((past_of h).flow who q)
  unreset_there who q half held none code i =
      let a = heard (peer who) in
      let facts = a.from.facts.streams in
      let told = half-from (trace a.calls) (the_end v (peer who)).streams q half facts (known-from (trace a.calls) (the_end v (peer who)).streams q half facts held) held in
      elim (over who q code i) [
        | inl reset ↦ (let k = sym (ap (λ (o : Option ℕ). is_some o) (sym told.reset ∙ none)) ∙ reset in cc)
        | inr gone ↦ differ (trace a.calls q).gone gone.0 told.there
      ]

  read_up : (who : End) → AreReadUp (the_end v (peer who)).streams
  read_up who q half held runs reset =
      let c = course-from f (agreed-waits f agreed) in
      let P : Past → Type 0 = λ p. IsAllGiven (slices (p.flow who q).given) (length (p.flow who q).written) in
      let all = subst P c.past (read who q (unreset_there who q half held reset) (unstopped who q half held runs)).all in
      seen-as _ _ (past_of c.taken) v who (joined-from c.era) (half.end ≤ half.buffer.bytes_read)
      (λ x y side k. read_whole (past_of c.taken) v who (marks-from c.era) x y k q half held all)

  -- the same is told in all as was written
  told_written : (who : End) (x : LinkedEnd) → ArePlain x.calls → x.world ≡ (the_end v who).streams → (send_totals x.world.out).data_sent ≡ taken_in_all x.calls → ((course-from f (agreed-waits f agreed)).recounted.tales.of who).written ≡ taken_in_all x.calls
  told_written who x plain is sent =
      let k = (course-from f (agreed-waits f agreed)).recounted.counted who in
      let a : (send_totals (the_end v who).streams.out).data_sent ≡ taken_in_all (since k.calls) = k.from.sent.taken in
      let b : taken_in_all (since k.calls) ≡ taken_in_all k.calls = ap taken_in_all (since-plain k.calls k.plain) in
      let c : (send_totals x.world.out).data_sent ≡ (send_totals (the_end v who).streams.out).data_sent = ap (λ (w : World). (send_totals w.out).data_sent) is in
      sym k.tells.written_is ∙ sym b ∙ sym a ∙ sym c ∙ sent

  each_came : (who : End) (x y : LinkedEnd) (k : Seen (past_of (course-from f (agreed-waits f agreed)).taken) who v x y) (q : ℕ) (l : List ℕ) → ((past_of h).flow who q).resets ≡ l → amount_on x q ≤ (came_on y q).high
  each_came who x y k q [] e =
      let c = course-from f (agreed-waits f agreed) in
      let P : List ℕ → Type 0 = λ l. (code : ℕ) → IsOneOf code l → ⊥ in
      let Q : Past → Type 0 = λ p. IsUnreset (p.flow who q) in
      let none : IsUnreset ((past_of h).flow who q) = subst P (sym e) (λ code i. absurd i) in
      arrived_came (past_of c.taken) v who (marks-from c.era) x y k q (have-arrived c.a c.b c.taken v c.era idle settled who q (subst Q c.past none))
  each_came who x y k q (code ∷ codes) e =
      let c = course-from f (agreed-waits f agreed) in
      let a = heard (peer who) in
      let P : List ℕ → Type 0 = λ l. IsOneOf code l in
      over_came (past_of c.taken) v who (marks-from c.era) x y k q _ a.calls a.from (over who q code (subst P (sym e) (inl refl)))

  came : (who : End) → ((course-from f (agreed-waits f agreed)).recounted.tales.of who).written ≤ (the_end v (peer who)).streams.credit.data_recvd
  came who =
      let c = course-from f (agreed-waits f agreed) in
      seen-as c.a c.b (past_of c.taken) v who (joined-from c.era) (((course-from f (agreed-waits f agreed)).recounted.tales.of who).written ≤ (the_end v (peer who)).streams.credit.data_recvd)
      (λ x y side k.
      let l = received_all (past_of c.taken) v who (marks-from c.era) x y k (λ q. each_came who x y k q ((past_of h).flow who q).resets refl) in
      let comes = ((agrees k.linked).0).comes in
      let w = told_written who x comes.plain k.here.world comes.sent.taken in
      omega (arith, l, w))

  all_now : (who : End) → OwesNoDebt (the_end v (peer who)).streams.credit → CanBeTold (the_end v (peer who)).streams.credit.local_max_data → IsAllConsumed ((course-from f (agreed-waits f agreed)).recounted.tales.of who) (the_end v (peer who)).streams.credit
  all_now who owes small =
      let a = paid (peer who) in
      let spent = received-spent _ a.calls (the_end v (peer who)).streams a.from (reads-run _ a.calls (the_end v (peer who)).streams a.from.run a.plain) (read_up who) a.plain a.none owes small in
      let l = came who in
      omega (arith, spent, l)

  -- what the limit leaves its writer, where that knows it but for an eighth
  counts_now : (who : End) → KnowsLimits v (course-from f (agreed-waits f agreed)).recounted.tales who → CountsAsConsumed ((course-from f (agreed-waits f agreed)).recounted.tales.of who) (the_end v (peer who)).streams
  counts_now who k = record { all = all_now who; room = λ owes small. k.goes_on.connection owes small (all_now who owes small) }

  pub consumed-all : ForgetsNone s h v → (t : Tales) → Told s (sendings_of f) t → CountAsConsumed v t
  consumed-all none t k =
      let c = course-from f (agreed-waits f agreed) in
      let P : Tales → Type 0 = λ x. CountAsConsumed v x in
      subst P (told-once s (sendings_of f) c.recounted.tales t c.told k) (λ who. counts_now who (know-limits s h v f idle settled c.recounted.tales c.told none who))

  pub consumed-most : (t : Tales) → Told s (sendings_of f) t → ConsumeMost v t
  consumed-most t k =
      let c = course-from f (agreed-waits f agreed) in
      let P : Tales → Type 0 = λ x. ConsumeMost v x in
      subst P (told-once s (sendings_of f) c.recounted.tales t c.told k) (record { client = counts_now A (know-most s h v f idle settled c.recounted.tales c.told agreed).client; server = all_now B })
