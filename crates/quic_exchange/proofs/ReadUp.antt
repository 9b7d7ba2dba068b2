-- A stream that was read until nothing was left is read up, and stays so while no STREAM frame comes.
use Rattle.std.proofs.Common.{◌≡◌, ◌⊎◌, ℕ, Bool, true, false, List, length, Some, Ok, refl, sym, ap, ◌∙◌, subst, inl, inr, arith, ◌≤◌, ◌<◌}
use Rattle.std.specs.Prelude.{◌==◌, nat_lt, slice_get, if◌then◌else◌}
use Rattle.std.proofs.lemmas.Bool.Decides.{nat_tests}
use Rattle.quic_wire.specs.declared.event.StreamEvent.{StreamEvent}
use Rattle.quic_wire.specs.declared.event.StreamEvent.TheVariants as stream_event
use Rattle.quic_wire.specs.declared.frame.Frame.{Frame}
use Rattle.quic_wire.specs.declared.frame.Frame.TheVariants as frames
use Rattle.quic_wire.specs.declared.frame.Stream.{Stream}
use Rattle.quic_wire.proofs.Joins.{same}
use Rattle.quic_receiving.specs.Data.{IsAllGiven}
use Rattle.quic_history.specs.History.{slices}
use Rattle.quic_link.specs.Endpoints.{IsOneOf}
use Rattle.quic_link.specs.Promises.{given_in_order}
use Rattle.quic_exchange.proofs.Origins.{Origin}
use Rattle.quic_steps.specs.declared.steps.End.{End}
use Rattle.quic_steps.specs.declared.steps.End.TheVariants.{A, B}
use Rattle.quic_steps.specs.declared.steps.Reply.TheVariants.{Read, Event}
use Rattle.quic_exchange.specs.Sent.{Sent}
use Rattle.quic_exchange.specs.Replies.{Answer}
use Rattle.quic_exchange.specs.Readable.{HasNothingLeft, IsFlowOver, SomeReset}
use Rattle.quic_exchange.specs.Unrefused.{StreamsAt, none, on, beside}
use Rattle.quic_exchange.specs.State.{PairState, peer}
use Rattle.quic_exchange.specs.History.{Past, Flow, FramePlace, History, past_of, past_read, after_poll, after_event, with_flow, completes, tells_stop, reads_last, reads_chunks}
use Rattle.quic_exchange.specs.Headline.{SomeStream, HasOffset, HasEnd}
use Rattle.quic_exchange.specs.Honest.{IsHonestFrame}
use Rattle.quic_exchange.proofs.Eras.{EraFrom}
use Rattle.quic_exchange.specs.Completed.{HasArrived, IsUnreset, IsUnstopped, IsReadWhole}
use Rattle.quic_exchange.proofs.Lists.{got-one}
use Rattle.quic_exchange.proofs.Flips.{seen-as}
use Rattle.quic_exchange.proofs.PayloadKnows.{StaySent, stay-sent}
use Rattle.quic_exchange.proofs.KeptPlaces.{was-from, reset-stays, reset-more}
use Rattle.quic_exchange.proofs.Streamless.{AddsNoStream, adds-none, adds-then, streamless-place}
use Rattle.quic_exchange.proofs.Grown.{joined-from, headline-from}
use Rattle.quic_exchange.proofs.Honest.{honest-from}
use Rattle.quic_exchange.proofs.Drained.{accepts-from, given-at}

-- nothing is left to read of a stream, or it is read no more
abbrev pub IsReadUp : Past → List Sent → End → ℕ → Type 0
IsReadUp p sent who id = ((ordered : Bool) × HasNothingLeft (p.flow (peer who) id) (peer who) id p.kept sent ordered) ⊎ IsFlowOver p sent (peer who) id

-- as much is known of a flow, as to what was read
pub record IsSameRead (f g : Flow) : Type 0 where
  pub given : g.given ≡ f.given
  pub written : g.written ≡ f.written
  pub ended : g.ended ≡ f.ended
  pub stops : g.stops ≡ f.stops

same_read : (f : Flow) → IsSameRead f f
same_read f = record { given = refl; written = refl; ended = refl; stops = refl }

-- each place that was kept is one of a payload that was sent
abbrev pub ArePlaces : List FramePlace → List Sent → Type 0
ArePlaces places sent = (at : FramePlace) → IsOneOf at places → (s : Sent) × (slice_get sent at.0 ≡ Some s)

-- a stream was read up, and as much is known of it since
pub record WasReadUp (p : Past) (sent : List Sent) (who : End) (id : ℕ) : Type 0 where
  pub before : Past
  pub then_sent : List Sent
  pub up : IsReadUp before then_sent who id
  pub flow : IsSameRead (before.flow (peer who) id) (p.flow (peer who) id)
  pub kept : AddsNoStream sent before.kept p.kept
  pub accepted : AddsNoStream sent before.accepted p.accepted
  pub stay : StaySent then_sent sent
  pub places : ArePlaces before.kept then_sent

-- ---- places

places_at : (sent : List Sent) (who : End) (id : ℕ) (ps : List FramePlace) (ss : List Stream) → StreamsAt sent who id ps ss → ArePlaces ps sent
places_at sent who id _ _ none at h = absurd h
places_at sent who id _ _ (on {places} {streams} place s before from is) at (inl e) = (from.payload, ap (λ (x : FramePlace). slice_get sent x.0) e ∙ from.is)
places_at sent who id _ _ (on {places} {streams} place s before from is) at (inr h) = places_at sent who id places streams before at h
places_at sent who id _ _ (beside {places} {streams} place payload before is lacks) at (inl e) = (payload, ap (λ (x : FramePlace). slice_get sent x.0) e ∙ is)
places_at sent who id _ _ (beside {places} {streams} place payload before is lacks) at (inr h) = places_at sent who id places streams before at h

pub places-from : (a b : Origin) (h : History) (v : PairState) → EraFrom a b h v → ArePlaces (past_of h).kept v.sent
places-from a b h v f = seen-as a b (past_of h) v A (joined-from f) (ArePlaces (past_of h).kept v.sent) (λ x y side s. places_at v.sent A 0 (past_of h).kept _ (s.kept_there.streams 0))

-- ---- it stays read up

stay_more : (one two three : List Sent) → StaySent one two → StaySent two three → StaySent one three
stay_more one two three k l number s is =
    let a = k number s is in
    let b = l number a.0 a.1 in
    (b.0, b.1, b.2 ∙ a.2, b.3 ∙ a.3)

pub read-up-now : (p : Past) (sent : List Sent) (who : End) (id : ℕ) → ArePlaces p.kept sent → IsReadUp p sent who id → WasReadUp p sent who id
read-up-now p sent who id places up = record { before = p; then_sent = sent; up = up; flow = same_read (p.flow (peer who) id); kept = adds-none sent p.kept p.kept refl; accepted = adds-none sent p.accepted p.accepted refl; stay = stay-sent sent; places = places }

pub read-up-still : (p q : Past) (sent more : List Sent) (who : End) (id : ℕ) → IsSameRead (p.flow (peer who) id) (q.flow (peer who) id) → AddsNoStream more p.kept q.kept → AddsNoStream more p.accepted q.accepted → StaySent sent more → WasReadUp p sent who id → WasReadUp q more who id
read-up-still p q sent more who id f kept accepted stay w = record {
  before = w.before;
  then_sent = w.then_sent;
  up = w.up;
  flow = record { given = f.given ∙ w.flow.given; written = f.written ∙ w.flow.written; ended = f.ended ∙ w.flow.ended; stops = f.stops ∙ w.flow.stops };
  kept = adds-then sent more w.before.kept p.kept q.kept stay w.kept kept;
  accepted = adds-then sent more w.before.accepted p.accepted q.accepted stay w.accepted accepted;
  stay = stay_more w.then_sent sent more w.stay stay;
  places = w.places;
}

-- ---- a read or a poll changes no other

other_flow : (P : Flow → Type 0) (test : Bool) (f g : Flow) → test ≡ false → P f → P (if test then g else f)
other_flow P true f g e h = cc
other_flow P false f g e h = h

not_one : (q id : ℕ) → (q ≡ id → ⊥) → (q == id) ≡ false
not_one q id never = by (q == id) refl
  where
    by : (b : Bool) → (q == id) ≡ b → (q == id) ≡ false
    by true e = absurd (never (grind (arith, nat_tests)))
    by false e = e

with_other : (P : Flow → Type 0) (who end : End) (id q : ℕ) (change : Flow → Flow) (p : Past) → (end ≡ who → q ≡ id → ⊥) → P (p.flow end q) → P ((with_flow who id change p).flow end q)
with_other P A A id q change p never h = other_flow P (q == id) (p.flow A q) (change (p.flow A q)) (not_one q id (never refl)) h
with_other P B B id q change p never h = other_flow P (q == id) (p.flow B q) (change (p.flow B q)) (not_one q id (never refl)) h
with_other P A B id q change p never h = h
with_other P B A id q change p never h = h

same_peer : (who end : End) → peer end ≡ peer who → end ≡ who
same_peer A A e = refl
same_peer B B e = refl
same_peer A B e = cc
same_peer B A e = cc

pub read-other : (p : Past) (who end : End) (id q : ℕ) (ordered : Bool) (reply : Answer) → (end ≡ who → q ≡ id → ⊥) → IsSameRead (p.flow (peer end) q) ((past_read p who id ordered reply).flow (peer end) q)
read-other p who end id q ordered (Ok (Read chunks last transmit)) never =
    with_other (IsSameRead (p.flow (peer end) q)) (peer who) (peer end) id q (λ f. reads_last last (reads_chunks ordered chunks.items f)) p (λ e. never (same_peer who end e)) (same_read (p.flow (peer end) q))
read-other p who end id q ordered _ never = same_read (p.flow (peer end) q)

either_flow : (P : Flow → Type 0) (test : Bool) (f g : Flow) → P f → P g → P (if test then g else f)
either_flow P true f g a b = b
either_flow P false f g a b = a

with_like : (who end : End) (id q : ℕ) (change : Flow → Flow) (p : Past) → ((f : Flow) → IsSameRead f (change f)) → IsSameRead (p.flow end q) ((with_flow who id change p).flow end q)
with_like A A id q change p c = either_flow (IsSameRead (p.flow A q)) (q == id) (p.flow A q) (change (p.flow A q)) (same_read (p.flow A q)) (c (p.flow A q))
with_like B B id q change p c = either_flow (IsSameRead (p.flow B q)) (q == id) (p.flow B q) (change (p.flow B q)) (same_read (p.flow B q)) (c (p.flow B q))
with_like A B id q change p c = same_read (p.flow B q)
with_like B A id q change p c = same_read (p.flow A q)

event_like : (p : Past) (who end : End) (q : ℕ) (event : StreamEvent) → IsSameRead (p.flow end q) ((after_event p who event).flow end q)
event_like p who end q (stream_event.Finished id) = with_like who end id q completes p (λ f. record { given = refl; written = refl; ended = refl; stops = refl })
event_like p who end q (stream_event.Stopped id code) = with_like who end id q (tells_stop code) p (λ f. record { given = refl; written = refl; ended = refl; stops = refl })
event_like p who end q _ = same_read (p.flow end q)

pub poll-like : (p : Past) (who end : End) (q : ℕ) (reply : Answer) → IsSameRead (p.flow end q) ((after_poll p who reply).flow end q)
poll-like p who end q (Ok (Event event)) = event_like p who end q event
poll-like p who end q _ = same_read (p.flow end q)

-- ---- what was read up is whole, once all arrived

module _ (a b : Origin) (h : History) (v : PairState) (f : EraFrom a b h v) (who : End) (id : ℕ) (unreset : IsUnreset ((past_of h).flow (peer who) id)) (unstopped : IsUnstopped ((past_of h).flow (peer who) id)) (arrived : HasArrived ((past_of h).flow (peer who) id) (peer who) id (past_of h).accepted v.sent) (w : WasReadUp (past_of h) v.sent who id) where
  abbrev now : Flow
  now = (past_of h).flow (peer who) id

  abbrev old : Flow
  old = w.before.flow (peer who) id

  -- what arrived had arrived before
  before_then : (Is : Stream → Type 0) → SomeStream v.sent (peer who) id (past_of h).accepted Is → SomeStream w.then_sent (peer who) id w.before.kept Is
  before_then Is s =
      elim (w.kept.added s.at (accepts-from f s.at s.listed)) [
        | inl listed ↦ (
            let there = w.places s.at listed in
            record { at = s.at; listed = listed; stream = s.stream; sent_as = was-from w.then_sent v.sent (peer who) id w.stay s.at there.0 there.1 s.stream s.sent_as; on = s.on; is = s.is }
            )
        | inr lacks ↦ absurd (streamless-place v.sent (peer who) s.at s.stream lacks s.sent_as)
      ]

  -- a reset was asked for
  never_reset : (code : ℕ) → SomeReset v.sent (peer who) id code (past_of h).accepted → ⊥
  never_reset code r =
      let honest = honest-from f r.at.0 r.payload r.is in
      let all_same = same r.payload.text.bytes r.there.all honest.all r.there.spelled honest.spelled in
      let among : IsOneOf (frames.ResetStream r.frame) honest.all = got-one honest.all r.at.1 (frames.ResetStream r.frame) (ap (λ (l : List Frame). slice_get l r.at.1) (sym all_same) ∙ r.there.at) in
      let true_of : IsHonestFrame (past_of h) v r.payload.writer (frames.ResetStream r.frame) = honest.honest (frames.ResetStream r.frame) among in
      let P : End → Type 0 = λ e. IsOneOf r.frame.error_code ((past_of h).flow e r.frame.id).resets in
      let Q : ℕ → Type 0 = λ i. IsOneOf r.frame.error_code ((past_of h).flow (peer who) i).resets in
      unreset r.frame.error_code (subst Q r.on (subst P r.writer true_of.0))

  given_same : (n : ℕ) → IsAllGiven (slices old.given) n → IsAllGiven (slices now.given) n
  given_same n = subst (λ g. IsAllGiven (slices g) n) (sym w.flow.given)

  was_there : (at : ℕ) → at < length now.written → SomeStream w.then_sent (peer who) id w.before.kept (HasOffset at)
  was_there at l = before_then (HasOffset at) (arrived.bytes at l)

  -- nothing was left: all of it was given
  all_given : (ordered : Bool) → HasNothingLeft old (peer who) id w.before.kept w.then_sent ordered → IsAllGiven (slices now.given) (length now.written)
  all_given true n = by_side (nat_lt (length (given_in_order old.given)) (length now.written)) refl
    where
      by_side : (b : Bool) → nat_lt (length (given_in_order old.given)) (length now.written) ≡ b → IsAllGiven (slices now.given) (length now.written)
      by_side true e = absurd (n.next refl (was_there (length (given_in_order old.given)) (grind (arith, nat_tests, e))))
      by_side false e =
          let all : length now.written ≤ length (given_in_order old.given) = grind (arith, nat_tests, e) in
          let same_order : given_in_order now.given ≡ given_in_order old.given = ap given_in_order w.flow.given in
          let size = ap length same_order in
          λ at l. given-at now.given (headline-from f (peer who) id).in_order at (omega (arith, l, all, size))
  all_given false n = given_same (length now.written) (λ at l. n.any refl at (was_there at l))

  -- and where it was ended, a read told that
  left_whole : (ordered : Bool) → HasNothingLeft old (peer who) id w.before.kept w.then_sent ordered → IsReadWhole now
  left_whole ordered n =
      let all = all_given ordered n in
      record {
        all = all;
        ended = λ e. absurd (n.end (before_then HasEnd (arrived.end e)) (subst (λ g. IsAllGiven (slices g) (length old.written)) w.flow.given (subst (λ (l : List ℕ). IsAllGiven (slices now.given) (length l)) w.flow.written all)));
      }

  ended_whole : now.ended ≡ true → IsReadWhole now
  ended_whole e = record { all = ((headline-from f (peer who) id).ended e).1; ended = λ k. e }

  over_whole : IsFlowOver w.before w.then_sent (peer who) id → IsReadWhole now
  over_whole (inl ended) = ended_whole (w.flow.ended ∙ ended)
  over_whole (inr (inl stop)) = absurd (unstopped stop.0 (subst (λ l. IsOneOf stop.0 l) (sym w.flow.stops) stop.1))
  over_whole (inr (inr reset)) =
      let r = reset-stays w.then_sent v.sent (peer who) id w.stay reset.0 w.before.accepted reset.1 in
      absurd (never_reset reset.0 (reset-more v.sent (peer who) id reset.0 w.before.accepted (past_of h).accepted w.accepted.stay r))

  pub read-whole : IsReadWhole now
  read-whole = elim w.up [ inl left ↦ left_whole left.0 left.1 | inr over ↦ over_whole over ]
