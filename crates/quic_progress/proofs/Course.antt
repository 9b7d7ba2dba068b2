-- Whatever steps led to a pair, what its ends announced is known, or is to be told, but for what a rejection of an early start forgets.
use Rattle.std.proofs.Common.{◌≡◌, ◌⊎◌, ℕ, Bool, true, false, List, [], Option, Some, None, Ok, Err, refl, sym, ap, ◌∙◌, subst, inl, inr, arith, ◌<◌, ◌≤◌, ◌+◌, ◌/◌, ◌^◌}
use Rattle.std.specs.Prelude.{◌&&◌, MatchBool, is_some, max, slice_get, slice_index_or, unwrap_or}
use Rattle.std.proofs.lemmas.Option.{none-some, same_Some}
use Rattle.quic_values.specs.declared.ids.Dir.{Dir}
use Rattle.quic_values.specs.declared.ids.Dir.TheVariants.{Bi, Uni}
use Rattle.quic_values.specs.declared.ids.Side.TheVariants.{Client, Server}
use Rattle.quic_retransmits.specs.Pending.{nothing}
use Rattle.quic_outgoing.specs.declared.limits.PeerLimits.{PeerLimits}
use Rattle.quic_limits.specs.Credit.{Credit, max_data_of}
use Rattle.quic_limits.specs.Remote.{Remote, new_remote}
use Rattle.quic_streams.specs.declared.settling.SentPayload.{SentPayload}
use Rattle.quic_history.specs.World.{World, Made, PermitsNoLess, made_again, start, remote_of}
use Rattle.quic_history.specs.Early.{with_rejection, announced_anew}
use Rattle.quic_history.specs.Sends.{with_params_given}
use Rattle.quic_history.specs.SendEvents.{GaveLimits}
use Rattle.quic_history.specs.History.{IsStart, Sending}
use Rattle.quic_history.proofs.Unopened.{given-unopened}
use Rattle.quic_link.specs.Endpoints.{LimitsWithin}
use Rattle.quic_endpoint.specs.Ends.{EndState, with_world}
use Rattle.quic_steps.specs.declared.steps.End.{End}
use Rattle.quic_steps.specs.declared.steps.End.TheVariants.{A, B}
use Rattle.quic_steps.specs.declared.steps.Step.{Step}
use Rattle.quic_steps.specs.declared.steps.Step.TheVariants as steps
use Rattle.quic_steps.specs.declared.steps.Reply.TheVariants.{Done}
use Rattle.quic_steps.specs.declared.steps.PairError.TheVariants.{LimitsBelow, Undecided, Decided, OutOfMemory as NoMemory}
use Rattle.quic_exchange.specs.declared.early.EarlyLimits.{EarlyLimits}
use Rattle.quic_exchange.specs.Sent.{Sent}
use Rattle.quic_exchange.specs.Payloads.{SentText, is_accepted}
use Rattle.quic_exchange.specs.Replies.{Answer}
use Rattle.quic_exchange.specs.Gone.{IsGone, with_all_noted}
use Rattle.quic_exchange.specs.State.{PairState, peer, the_end}
use Rattle.quic_exchange.specs.Steps.{NextOrdinary, NextTaken, Next, Accepted, Rejected, Retried, AcceptsEarly, RejectsEarly, Retries, needs_decision}
use Rattle.quic_exchange.specs.History.{History, past_of}
use Rattle.quic_exchange.specs.From.{Beginning, PairFrom, begun, next, IsNew, made_of, end_begun, limits_first, limits_of_a, limits_of_b, waits_of, waits_first}
use Rattle.quic_exchange.specs.Runs.{sendings_of}
use Rattle.quic_exchange.specs.Tale.{Tale, Tales, Told, TellsOfPair, StepTells, tale_begun, tales_begun, tale_first, tale_anew, told_of, with_limits_given, with_unsent_told}
use Rattle.quic_exchange.proofs.Origins.{Origin}
use Rattle.quic_exchange.proofs.Eras.{EraFrom}
use Rattle.quic_exchange.proofs.OwnDoings.{own-renewed, own-permits, own-unacked, spelled-seen}
use Rattle.quic_exchange.proofs.Recounted.{Recounted}
use Rattle.quic_exchange.proofs.Grown.{joined-from, grown-from}
use Rattle.quic_exchange.proofs.ToldOnce.{told-in-once, tells-next-once}
use Rattle.quic_exchange.proofs.Wide.{wide_made, as_linked, linked_at, decided-same, waiting-same, wide-same, most_of_streams, AreSound, sound-new, two-wide}
use Rattle.quic_exchange.proofs.Beneath.{waits-stay, tells-undecided}
use Rattle.quic_exchange.proofs.Led.{EraAt, era-at, Led, IsEarlyPair}
use Rattle.quic_exchange.proofs.LedSteps.{led-from, ordinary-linked}
use Rattle.quic_progress.specs.Progress.{StartsAtOnce, IsAgreed}
use Rattle.quic_progress.proofs.Leaves.{Leaves, beside}
use Rattle.quic_progress.proofs.Permissions.{Permission, AllData, DataOn, StreamsOf, is_asked, announced_of}
use Rattle.quic_progress.proofs.Grows.{AllGrow, all-of, grows-given, grows-unsent}
use Rattle.quic_progress.proofs.Ends.{EndLeaves, by-call, ends-same}
use Rattle.quic_progress.proofs.Tracked.{Which, UnderWay, Tracks, IsTracked, IsEndTracked, AreHeard, tracked-end, tracked-ends, tracked-fewer, tracked-same, tracked-left, forth-same}
use Rattle.quic_progress.proofs.TrackedSteps.{tracked-next}
use Rattle.quic_progress.proofs.Owing.{OwesData, OwesCount}
use Rattle.quic_progress.proofs.OwingSteps.{IsHalfAcked, Owing, nothing_more, owing-plain, owing-forth, owing-moved}
use Rattle.quic_progress.proofs.OwingAll.{AreOwing, owing-next}
use Rattle.quic_progress.proofs.Begun.{IsKnown, known-first, known-given, known-none, owes-first, begun-tracked, begun-owing}
use Rattle.quic_progress.proofs.Undecided.{NoneBegun, none-half, none-gone, none-next, asked-all, way-asked}

-- all permissions, those of the client, and all but those that a rejection forgets
abbrev all_of_both : Which
all_of_both who k = true

abbrev of_client : Which
of_client A k = true
of_client B k = false

abbrev but_forgotten : Bool → Which
but_forgotten known A AllData = known
but_forgotten known A (DataOn id) = true
but_forgotten known A (StreamsOf d) = known
but_forgotten known B k = true

-- a client permits what it was made with, and announced nothing else
pub record PermitsAsMade (s : Beginning) (w : World) : Type 0 where
  pub credit : w.credit ≡ (made_of Client s.a).credit
  pub bi : w.bi ≡ (made_of Client s.a).bi
  pub uni : w.uni ≡ (made_of Client s.a).uni
  pub adjusted : w.adjusted ≡ false

-- one that is rejected permits so
abbrev pub RejectsAsMade : Beginning → PairState → Step → Answer → Type 0
RejectsAsMade s old steps.EarlyReject (Ok Done) = PermitsAsMade s old.a.streams
RejectsAsMade s old step reply = Unit {0}

-- so of each step that led to a pair
abbrev pub HasRejectedAsMade : {s : Beginning} {h : History} {v : PairState} → PairFrom s h v → Type 0
HasRejectedAsMade (begun new) = Unit {0}
HasRejectedAsMade {s} (next {h} {old} {new} step reply before taken) = HasRejectedAsMade before × RejectsAsMade s old step reply

-- or the client started at once
abbrev pub Remembers : Beginning → Type 0 → Type 0
Remembers s Before = StartsAtOnce s ⊎ Before

-- what is kept of a pair of which this is told, where nothing is forgotten or something may be
-- tracks, owes: of which permissions it is kept
-- unbegun: while it is not decided, no payload is acknowledged in part
pub record Kept (known : Bool) (s : Beginning) (v : PairState) (t : Tales) : Type 0 where
  pub tracks : Which
  pub owes : Which
  pub tracked : IsTracked tracks (as_linked s v) t
  pub owing : AreOwing owes (as_linked s v)
  pub unbegun : (k : EarlyLimits) → v.waits ≡ Some k → NoneBegun v.sent
  pub of_early : (k : EarlyLimits) → v.waits ≡ Some k → (j : Permission) → (tracks A j ≡ true) × (owes A j ≡ true)
  pub of_streams : (id : ℕ) → tracks A (DataOn id) ≡ true
  pub of_server : v.waits ≡ None → (j : Permission) → tracks B j ≡ true
  pub of_server_owed : (j : Permission) → owes B j ≡ true
  pub of_all : known ≡ true → (j : Permission) → (tracks A j ≡ true) × (owes A j ≡ true)
  pub at_once : StartsAtOnce s → v.waits ≡ None

-- ---- two ends that begin

no_mark : (s : Sent) (index : ℕ) → s.text.accepted ≡ [] → is_accepted s.text index ≡ true → ⊥
no_mark s index e h = let k = sym (ap (λ l. slice_index_or l index false) e) ∙ h in cc

heard_gone : (t : Tales) (sent : List Sent) → ((number : ℕ) (s : Sent) → slice_get sent number ≡ Some s → IsGone s) → AreHeard t sent
heard_gone t sent gone number s all index k n is spelled at marked = absurd (no_mark s index (ap (λ (x : SentText). x.accepted) (gone number s is).text) marked)

none_there : (sent : List Sent) → sent ≡ [] → (number : ℕ) (s : Sent) → slice_get sent number ≡ Some s → IsGone s
none_there sent e number s got = let P : List Sent → Type 0 = λ l. slice_get l number ≡ Some s in absurd (none-some s (subst P e got))

module _ (v : PairState) (m n : Made) (la lb : PeerLimits) (a_is : v.a ≡ end_begun m la) (b_is : v.b ≡ end_begun n lb) where
  two_tracked : {some : Which} (t : Tales) → ((number : ℕ) (s : Sent) → slice_get v.sent number ≡ Some s → IsGone s) → IsKnown some A m (t.of B) → IsKnown some B n (t.of A) → IsTracked some v t
  two_tracked {some} t gone a b = tracked-ends v t (heard_gone t v.sent gone) each
    where
      each : (who : End) → IsEndTracked some who (the_end v who) (t.of (peer who)) v.sent
      each A = let P : EndState → Type 0 = λ e. IsEndTracked some A e (t.of B) v.sent in subst P (sym a_is) (begun-tracked A m la v.sent (t.of B) a)
      each B = let P : EndState → Type 0 = λ e. IsEndTracked some B e (t.of A) v.sent in subst P (sym b_is) (begun-tracked B n lb v.sent (t.of A) b)

  two_owing : {some : Which} → (some A AllData ≡ true → OwesData (end_begun m la)) → ((d : Dir) → some A (StreamsOf d) ≡ true → OwesCount d (end_begun m la)) → OwesData (end_begun n lb) → ((d : Dir) → OwesCount d (end_begun n lb)) → AreOwing some v
  two_owing {some} a ac b bc A = let P : EndState → Type 0 = λ e. Owing some e v.sent A in subst P (sym a_is) (begun-owing A m la v.sent a ac)
  two_owing {some} a ac b bc B = let P : EndState → Type 0 = λ e. Owing some e v.sent B in subst P (sym b_is) (begun-owing B n lb v.sent (λ on. b) (λ d on. bc d))

-- ---- how it begins

module _ (s : Beginning) (v : PairState) (n : IsNew s v) where
  sound : AreSound s
  sound = sound-new s v n

  a_first : v.a ≡ end_begun (made_of Client s.a) (limits_first s)
  a_first = ap (λ (x : PairState). x.a) n.is

  b_first : v.b ≡ end_begun (made_of Server s.b) (limits_of_a s)
  b_first = ap (λ (x : PairState). x.b) n.is

  sent_first : v.sent ≡ []
  sent_first = ap (λ (x : PairState). x.sent) n.is

  waits_begun : v.waits ≡ waits_first s
  waits_begun = ap (λ (x : PairState). x.waits) n.is

  known_a : (some : Which) → IsKnown some A (made_of Client s.a) (tale_first s B)
  known_a some = known-first some A Client s.a.max_remote_uni s.a.max_remote_bi s.a.send_window s.a.receive_window s.a.stream_receive_window sound.data_a sound.stream_a Server s.b.send_window

  owes_a : OwesData (end_begun (made_of Client s.a) (limits_first s)) × ((d : Dir) → OwesCount d (end_begun (made_of Client s.a) (limits_first s)))
  owes_a = owes-first all_of_both A Client s.a.max_remote_uni s.a.max_remote_bi s.a.send_window s.a.receive_window s.a.stream_receive_window sound.data_a sound.stream_a (limits_first s)

  kept_at_once : {known : Bool} → s.early ≡ None → Kept known s v (tales_begun s)
  kept_at_once e =
      let waits : v.waits ≡ None = waits_begun ∙ ap (waits_of (limits_of_b s)) e in
      let first : limits_first s ≡ limits_of_b s = ap (λ (o : Option PeerLimits). unwrap_or o (limits_of_b s)) e in
      let Q : PeerLimits → Type 0 = λ l. IsKnown all_of_both B (made_of Server s.b) (tale_of l) in
      let b = known-first all_of_both B Server s.b.max_remote_uni s.b.max_remote_bi s.b.send_window s.b.receive_window s.b.stream_receive_window sound.data_b sound.stream_b Client s.a.send_window in
      let c = owes-first all_of_both B Server s.b.max_remote_uni s.b.max_remote_bi s.b.send_window s.b.receive_window s.b.stream_receive_window sound.data_b sound.stream_b (limits_of_a s) in
      let P : PairState → Type 0 = λ x. IsTracked all_of_both x (tales_begun s) in
      let R : PairState → Type 0 = λ x. AreOwing all_of_both x in
      let same = sym (decided-same s v waits) in
      record {
        tracks = all_of_both;
        owes = all_of_both;
        tracked = subst P same (two_tracked v (made_of Client s.a) (made_of Server s.b) (limits_first s) (limits_of_a s) a_first b_first (tales_begun s) (none_there v.sent sent_first) (known_a all_of_both) (subst Q (sym first) b));
        owing = subst R same (two_owing v (made_of Client s.a) (made_of Server s.b) (limits_first s) (limits_of_a s) a_first b_first (λ on. owes_a.0) (λ d on. owes_a.1 d) c.0 c.1);
        unbegun = λ k is. none-gone v.sent (none_there v.sent sent_first);
        of_early = λ k is j. (refl, refl);
        of_streams = λ id. refl;
        of_server = λ is j. refl;
        of_server_owed = λ j. refl;
        of_all = λ none j. (refl, refl);
        at_once = λ early. waits;
      }
    where
      tale_of : PeerLimits → Tale
      tale_of l = tale_begun Client s.a.send_window l

  kept_early : {known : Bool} (l : PeerLimits) → s.early ≡ Some l → Kept known s v (tales_begun s)
  kept_early l e =
      let k : EarlyLimits = record { remembered = l; others = limits_of_b s } in
      let waits : v.waits ≡ Some k = waits_begun ∙ ap (waits_of (limits_of_b s)) e in
      let wide : EndState = end_begun (wide_made s.b l) (limits_of_a s) in
      let u : PairState = record v { b = wide } in
      let small = (two-wide s sound l (n.remembered l e)).small_second in
      let large = both_under s.b.receive_window l.initial_max_data (2 ^ 62) sound.data_b (n.remembered l e).of_connection in
      let b = known-none of_client B Server (max s.b.max_remote_uni l.initial_max_streams_uni) (max s.b.max_remote_bi l.initial_max_streams_bidi) s.b.send_window (max s.b.receive_window l.initial_max_data) (max s.b.stream_receive_window (most_of_streams l)) large small (tale_first s A) (λ j. refl) in
      let c = owes-first of_client B Server (max s.b.max_remote_uni l.initial_max_streams_uni) (max s.b.max_remote_bi l.initial_max_streams_bidi) s.b.send_window (max s.b.receive_window l.initial_max_data) (max s.b.stream_receive_window (most_of_streams l)) large small (limits_of_a s) in
      let P : PairState → Type 0 = λ x. IsTracked of_client x (tales_begun s) in
      let R : PairState → Type 0 = λ x. AreOwing all_of_both x in
      let same : u ≡ as_linked s v = sym (waiting-same s v k waits) in
      record {
        tracks = of_client;
        owes = all_of_both;
        tracked = subst P same (two_tracked u (made_of Client s.a) (wide_made s.b l) (limits_first s) (limits_of_a s) a_first refl (tales_begun s) (none_there v.sent sent_first) (known_a of_client) b);
        owing = subst R same (two_owing u (made_of Client s.a) (wide_made s.b l) (limits_first s) (limits_of_a s) a_first refl (λ on. owes_a.0) (λ d on. owes_a.1 d) c.0 c.1);
        unbegun = λ j is. none-gone v.sent (none_there v.sent sent_first);
        of_early = λ i is j. (refl, refl);
        of_streams = λ id. refl;
        of_server = λ is j. absurd (none-some k (sym is ∙ waits));
        of_server_owed = λ j. refl;
        of_all = λ none j. (refl, refl);
        at_once = λ early. absurd (none-some l (sym early ∙ e));
      }
    where
      both_under : (a b n : ℕ) → a < n → b < n → max a b < n
      both_under a b n x y = omega (arith, x, y)

  kept_begun : {known : Bool} → Kept known s v (tales_begun s)
  kept_begun {known} = by s.early refl
    where
      by : (o : Option PeerLimits) → s.early ≡ o → Kept known s v (tales_begun s)
      by None e = kept_at_once e
      by (Some l) e = kept_early l e

-- ---- a step that changes nothing

kept_same : {known : Bool} (s : Beginning) (old new : PairState) (t u : Tales) → Kept known s old t → new ≡ old → u ≡ t → Kept known s new u
kept_same {known} s old new t u c is told =
    let P : PairState → Type 0 = λ v. Kept known s v u in
    let Q : Tales → Type 0 = λ x. Kept known s old x in
    subst P (sym is) (subst Q (sym told) c)

tells_refused : (s : Beginning) (sent : List Sent) (step : Step) (t : Tales) → TellsOfPair s sent sent step (Err Undecided) t t
tells_refused s sent steps.EarlyAccept t = refl
tells_refused s sent steps.EarlyReject t = refl
tells_refused s sent steps.Retry t = refl
tells_refused s sent step t = tells-undecided sent step t

-- ---- steps beside those that say what becomes of what the client sends early

sent_linked : (s : Beginning) (v : PairState) → (as_linked s v).sent ≡ v.sent
unfolding as_linked
sent_linked s v = by v.waits
  where
    by : (w : Option EarlyLimits) → (linked_at s w v).sent ≡ v.sent
    by None = refl
    by (Some k) = refl

ordinary_tells : (old new : PairState) (s : Beginning) (one more : List Sent) (step : Step) (reply : Answer) (t u : Tales) → NextOrdinary old step reply new → TellsOfPair s one more step reply t u → StepTells one more step reply t u
ordinary_tells old new s one more steps.EarlyAccept reply t u n k = absurd n
ordinary_tells old new s one more steps.EarlyReject reply t u n k = absurd n
ordinary_tells old new s one more steps.Retry reply t u n k = absurd n
ordinary_tells old new s one more _ reply t u n k = k

module _ {known : Bool} (s : Beginning) (h : History) (old new : PairState) (f : PairFrom s h old) (l : Led f) (t u : Tales) (c : Kept known s old t) where
  kept_ordinary : (step : Step) (reply : Answer) → (is_some old.waits && needs_decision step) ≡ false → NextOrdinary old step reply new → TellsOfPair s old.sent new.sent step reply t u → Kept known s new u
  kept_ordinary step reply free o tells =
      let on = ordinary-linked f l new step reply free o in
      let P : List Sent → Type 0 = λ x. StepTells x new.sent step reply t u in
      let Q : List Sent → Type 0 = λ x. StepTells (as_linked s old).sent x step reply t u in
      let told : StepTells (as_linked s old).sent (as_linked s new).sent step reply t u = subst Q (sym (sent_linked s new)) (subst P (sym (sent_linked s old)) (ordinary_tells old new s old.sent new.sent step reply t u o tells)) in
      let waits : new.waits ≡ old.waits = waits-stay old new step reply o in
      record {
        tracks = c.tracks;
        owes = c.owes;
        tracked = tracked-next l.a l.b (past_of l.taken) (as_linked s old) (as_linked s new) (joined-from l.at.era) t u c.tracked step reply on told;
        owing = owing-next l.a l.b l.taken (as_linked s old) (as_linked s new) l.at.era c.tracked.within c.owing step reply on;
        unbegun = λ k is. unbegun k (sym waits ∙ is);
        of_early = λ k is. c.of_early k (sym waits ∙ is);
        of_streams = c.of_streams;
        of_server = λ is. c.of_server (sym waits ∙ is);
        of_server_owed = c.of_server_owed;
        of_all = c.of_all;
        at_once = λ early. waits ∙ c.at_once early;
      }
    where
      unbegun : (k : EarlyLimits) → old.waits ≡ Some k → NoneBegun new.sent
      unbegun k e =
          let i = l.early k e in
          let was : PairState = record old { b = end_begun (wide_made s.b k.remembered) (limits_of_a s) } in
          let at : EraAt l.a l.b l.taken was l.tales = era-at (as_linked s old) was (waiting-same s old k e) l.at in
          let g = grown-from at.era in
          let spelled = spelled-seen (past_of l.taken) was g.joined.first g.joined.second g.joined.seen i.untaken in
          none-next old new (c.unbegun k e) i.untaken spelled g.recounted.tales.told g.recounted.left step reply (ap (λ (w : Option EarlyLimits). is_some w && needs_decision step) (sym e) ∙ free) o

  -- the limits are those of the server
  others_are : (k : EarlyLimits) → old.waits ≡ Some k → k.others ≡ limits_of_b s
  others_are k e = by s.early refl
    where
      by : (o : Option PeerLimits) → s.early ≡ o → k.others ≡ limits_of_b s
      by None none = absurd (none-some k (sym (ap (waits_of (limits_of_b s)) none) ∙ (l.early k e).began))
      by (Some r) some =
          let first : EarlyLimits = record { remembered = r; others = limits_of_b s } in
          ap (λ (x : EarlyLimits). x.others) (sym (same_Some first k (sym (ap (waits_of (limits_of_b s)) some) ∙ (l.early k e).began)))

  a_linked : (as_linked s old).a ≡ old.a
  unfolding as_linked
  a_linked = by old.waits
    where
      by : (w : Option EarlyLimits) → (linked_at s w old).a ≡ old.a
      by None = refl
      by (Some k) = refl

  -- ---- an acceptance

  module _ (x : AcceptsEarly old new) (told : u ≡ told_of A (with_limits_given Client (limits_of_b s)) t) where
    abbrev early : IsEarlyPair s l.a l.b x.limits (past_of l.taken) old
    early = l.early x.limits x.waiting

    same_pair : as_linked s old ≡ old
    same_pair =
        let k = x.limits in
        let W : PeerLimits → Type 0 = λ y. LimitsWithin k.remembered y in
        let within : LimitsWithin k.remembered (limits_of_b s) = subst W (others_are k x.waiting) x.within in
        let b_old : end_begun (wide_made s.b k.remembered) (limits_of_a s) ≡ old.b = ap (λ (m : Made). end_begun m (limits_of_a s)) (wide-same s.b k.remembered within) ∙ sym early.other in
        waiting-same s old k x.waiting ∙ ap (λ (y : EndState). record old { b = y }) b_old

    none_waits : new.waits ≡ None
    none_waits = ap (λ (v : PairState). v.waits) x.is

    sent_same : new.sent ≡ old.sent
    sent_same = ap (λ (v : PairState). v.sent) x.is

    b_new : new.b ≡ end_begun (made_of Server s.b) (limits_of_a s)
    b_new = ap (λ (v : PairState). v.b) x.is ∙ early.other

    -- the client was given the limits, and nothing else
    leaves : (who : End) → EndLeaves nothing_more (the_end old who) (the_end new who)
    leaves who = let P : PairState → Type 0 = λ v. EndLeaves nothing_more (the_end old who) (the_end v who) in subst P (sym x.is) (by who)
      where
        by : (w : End) → EndLeaves nothing_more (the_end old w) (the_end (record old { a = with_world old.a (with_params_given old.a.streams x.limits.others); waits = None }) w)
        by A = by-call nothing_more old.a (with_world old.a (with_params_given old.a.streams x.limits.others)) (Sending (GaveLimits x.limits.others (Ok tt))) tt refl (λ k a. a)
        by B = ends-same nothing_more old.b

    grows : AllGrow t u
    grows = let P : Tales → Type 0 = λ y. AllGrow t y in subst P (sym told) (all-of A (with_limits_given Client (limits_of_b s)) t (λ y. grows-given Client (limits_of_b s) y))

    some_tracked : IsTracked c.tracks new u
    some_tracked =
        let P : PairState → Type 0 = λ v. IsTracked c.tracks v t in
        tracked-same old new t u (subst P same_pair c.tracked) grows nothing_more leaves sent_same

    each_tracked : (who : End) → IsEndTracked all_of_both who (the_end new who) (u.of (peer who)) new.sent
    each_tracked A = tracked-fewer A new.a (u.of B) new.sent (λ k on. (c.of_early x.limits x.waiting k).0) (tracked-end new u some_tracked A)
    each_tracked B =
        let known = known-given all_of_both B Server s.b.max_remote_uni s.b.max_remote_bi s.b.send_window s.b.receive_window s.b.stream_receive_window l.sound.data_b l.sound.stream_b Client (t.of A) in
        let P : EndState → Type 0 = λ e. IsEndTracked all_of_both B e (u.of A) new.sent in
        let Q : Tales → Type 0 = λ y. IsEndTracked all_of_both B (end_begun (made_of Server s.b) (limits_of_a s)) (y.of A) new.sent in
        subst P (sym b_new) (subst Q (sym told) (begun-tracked B (made_of Server s.b) (limits_of_a s) new.sent (with_limits_given Client (limits_of_b s) (t.of A)) known))

    owing_now : AreOwing c.owes new
    owing_now who =
        let P : PairState → Type 0 = λ v. AreOwing c.owes v in
        let before : AreOwing c.owes old = subst P same_pair c.owing in
        owing-forth (the_end new who) old.sent new.sent who (forth-same old.sent new.sent sent_same) (owing-plain (the_end old who) (the_end new who) old.sent who (leaves who) (before who))

    kept_accepts : Kept known s new u
    kept_accepts =
        let P : PairState → Type 0 = λ v. IsTracked all_of_both v u in
        let R : PairState → Type 0 = λ v. AreOwing c.owes v in
        let same = sym (decided-same s new none_waits) in
        record {
          tracks = all_of_both;
          owes = c.owes;
          tracked = subst P same (tracked-ends new u some_tracked.heard each_tracked);
          owing = subst R same owing_now;
          unbegun = λ k is. absurd (none-some k (sym none_waits ∙ is));
          of_early = λ k is. absurd (none-some k (sym none_waits ∙ is));
          of_streams = λ id. refl;
          of_server = λ is j. refl;
          of_server_owed = c.of_server_owed;
          of_all = λ none j. (refl, (c.of_early x.limits x.waiting j).1);
          at_once = λ early. none_waits;
        }

  -- ---- a rejection

  module _ (x : RejectsEarly old new) (told : u ≡ record t { of = tale_anew s t; told = λ number. 0 }) (pre : known ≡ true → Remembers s (PermitsAsMade s old.a.streams)) where
    abbrev was_early : IsEarlyPair s l.a l.b x.limits (past_of l.taken) old
    was_early = l.early x.limits x.waiting

    abbrev anew : Made
    anew = made_again (with_rejection old.a.streams)

    permits : PermitsNoLess (made_of Client s.a) anew
    permits = own-permits (made_of Client s.a) old.a.streams was_early.own

    renewed : IsStart anew (with_rejection old.a.streams)
    renewed = own-renewed (made_of Client s.a) old.a.streams refl was_early.own

    a_anew : new.a ≡ end_begun anew x.limits.others
    a_anew =
        ap (λ (v : PairState). v.a) x.is
        ∙ ap (λ (w : World). record { streams = with_params_given w x.limits.others; pending = nothing }) renewed.is
        ∙ ap (λ (w : World). record { streams = w; pending = nothing }) (given-unopened (start anew) x.limits.others refl refl)

    b_anew : new.b ≡ end_begun (made_of Server s.b) (limits_of_a s)
    b_anew = ap (λ (v : PairState). v.b) x.is ∙ was_early.other

    waits_anew : new.waits ≡ None
    waits_anew = ap (λ (v : PairState). v.waits) x.is

    gone_anew : (number : ℕ) (p : Sent) → slice_get new.sent number ≡ Some p → IsGone p
    gone_anew = let G : List Sent → Type 0 = λ y. (number : ℕ) (p : Sent) → slice_get y number ≡ Some p → IsGone p in subst G (sym (ap (λ (v : PairState). v.sent) x.is)) x.left.each

    -- the client permits what it was made with
    as_made : known ≡ true → PermitsAsMade s old.a.streams
    as_made on = elim (pre on) [
      | inl early ↦ absurd (none-some x.limits (sym (c.at_once early) ∙ x.waiting))
      | inr made ↦ made
    ]

    remote_made : (adjusted : Bool) (r : Remote) (count : ℕ) → adjusted ≡ false → r ≡ new_remote count → announced_anew adjusted r ≡ new_remote count
    remote_made adjusted r count e is = ap (λ b. announced_anew b r) e ∙ is

    known_counts : PermitsAsMade s old.a.streams → (d : Dir) → (remote_of (start anew) d).sent_max_remote ≤ (tale_first s B).count d
    known_counts p Bi = let e = ap (λ (r : Remote). r.sent_max_remote) (remote_made old.a.streams.adjusted old.a.streams.bi s.a.max_remote_bi p.adjusted p.bi) in omega (arith, e)
    known_counts p Uni = let e = ap (λ (r : Remote). r.sent_max_remote) (remote_made old.a.streams.adjusted old.a.streams.uni s.a.max_remote_uni p.adjusted p.uni) in omega (arith, e)

    owes_data : PermitsAsMade s old.a.streams → OwesData (end_begun anew x.limits.others)
    owes_data p =
        let P : Credit → Type 0 = λ k. max_data_of k ≤ k.sent_max_data + k.receive_window / 8 in
        inr (inr (subst P (sym p.credit) (omega arith)))

    owes_counts : PermitsAsMade s old.a.streams → (d : Dir) → OwesCount d (end_begun anew x.limits.others)
    owes_counts p Bi =
        let P : Remote → Type 0 = λ r. r.max_remote ≤ r.sent_max_remote + r.max_concurrent / 8 in
        inr (subst P (sym (remote_made old.a.streams.adjusted old.a.streams.bi s.a.max_remote_bi p.adjusted p.bi)) (omega arith))
    owes_counts p Uni =
        let P : Remote → Type 0 = λ r. r.max_remote ≤ r.sent_max_remote + r.max_concurrent / 8 in
        inr (subst P (sym (remote_made old.a.streams.adjusted old.a.streams.uni s.a.max_remote_uni p.adjusted p.uni)) (omega arith))

    known_client : IsKnown (but_forgotten known) A anew (u.of B)
    known_client =
        let first = known-first all_of_both A Client s.a.max_remote_uni s.a.max_remote_bi s.a.send_window s.a.receive_window s.a.stream_receive_window l.sound.data_a l.sound.stream_a Server s.b.send_window in
        let window = permits.window in
        let P : Tales → Type 0 = λ y. IsKnown (but_forgotten known) A anew (y.of B) in
        let W : EndState → Type 0 = λ e. e.streams.credit.sent_max_data ≤ max_data_of e.streams.credit in
        subst P (sym told) (record {
          small = let a = first.small in omega (arith, a, window);
          within = subst W a_linked (c.tracked.within A).whole;
          firsts = λ id on. let a = first.firsts id refl in omega (arith, a, window);
          whole = λ on. let e = ap (λ (k : Credit). k.sent_max_data) (as_made on).credit in omega (arith, e);
          counts = λ d on. known_counts (as_made on) d;
        })

    known_server : IsKnown (but_forgotten known) B (made_of Server s.b) (u.of A)
    known_server =
        let P : Tales → Type 0 = λ y. IsKnown (but_forgotten known) B (made_of Server s.b) (y.of A) in
        subst P (sym told) (known-first (but_forgotten known) B Server s.b.max_remote_uni s.b.max_remote_bi s.b.send_window s.b.receive_window s.b.stream_receive_window l.sound.data_b l.sound.stream_b Client (t.of A).send_window)

    kept_rejects : Kept known s new u
    kept_rejects =
        let P : PairState → Type 0 = λ v. IsTracked (but_forgotten known) v u in
        let R : PairState → Type 0 = λ v. AreOwing (but_forgotten known) v in
        let same = sym (decided-same s new waits_anew) in
        let b = owes-first (but_forgotten known) B Server s.b.max_remote_uni s.b.max_remote_bi s.b.send_window s.b.receive_window s.b.stream_receive_window l.sound.data_b l.sound.stream_b (limits_of_a s) in
        record {
          tracks = but_forgotten known;
          owes = but_forgotten known;
          tracked = subst P same (two_tracked new anew (made_of Server s.b) x.limits.others (limits_of_a s) a_anew b_anew u gone_anew known_client known_server);
          owing = subst R same (two_owing new anew (made_of Server s.b) x.limits.others (limits_of_a s) a_anew b_anew (λ on. owes_data (as_made on)) (λ d on. owes_counts (as_made on) d) b.0 b.1);
          unbegun = λ k is. none-gone new.sent gone_anew;
          of_early = λ k is. absurd (none-some k (sym waits_anew ∙ is));
          of_streams = λ id. refl;
          of_server = λ is j. refl;
          of_server_owed = λ j. refl;
          of_all = λ on j. both on j;
          at_once = λ early. waits_anew;
        }
      where
        both : known ≡ true → (j : Permission) → (but_forgotten known A j ≡ true) × (but_forgotten known A j ≡ true)
        both on AllData = (on, on)
        both on (DataOn id) = (refl, refl)
        both on (StreamsOf d) = (on, on)

  -- ---- the client is to begin again

  module _ (x : Retries old new) (told : u ≡ told_of A (with_unsent_told Client) t) where
    abbrev still_early : IsEarlyPair s l.a l.b x.limits (past_of l.taken) old
    still_early = l.early x.limits x.waiting

    abbrev wide : EndState
    wide = end_begun (wide_made s.b x.limits.remembered) (limits_of_a s)

    abbrev was : PairState
    was = record old { b = wide }

    abbrev then : PairState
    then = record new { b = wide }

    waits_still : new.waits ≡ old.waits
    waits_still = ap (λ (v : PairState). v.waits) x.is

    old_is : as_linked s old ≡ was
    old_is = waiting-same s old x.limits x.waiting

    new_is : as_linked s new ≡ then
    new_is = waiting-same s new x.limits (waits_still ∙ x.waiting)

    gone_now : (number : ℕ) (p : Sent) → slice_get new.sent number ≡ Some p → IsGone p
    gone_now = let G : List Sent → Type 0 = λ y. (number : ℕ) (p : Sent) → slice_get y number ≡ Some p → IsGone p in subst G (sym (ap (λ (v : PairState). v.sent) x.is)) x.left.each

    a_now : new.a ≡ record { streams = x.streams; pending = with_all_noted old.a.pending old.sent }
    a_now = ap (λ (v : PairState). v.a) x.is

    again_leaves : (who : End) → EndLeaves nothing_more (the_end was who) (the_end then who)
    again_leaves A =
        let P : EndState → Type 0 = λ e. EndLeaves nothing_more old.a e in
        let k = x.again (own-unacked (made_of Client s.a) old.a.streams still_early.own) in
        let Q : World → Type 0 = λ w. Leaves nothing_more old.a.streams w in
        subst P (sym a_now) (record { streams = subst Q (sym k.2) (beside nothing_more old.a.streams _ refl refl refl refl refl); asked = λ j a. asked-all j old.a.pending old.sent a })
    again_leaves B = ends-same nothing_more wide

    -- a payload of which something is unreported is the client's
    of_a : (number : ℕ) (p : Sent) (rest : SentPayload) → slice_get old.sent number ≡ Some p → p.writer ≡ B → p.unsettled.rest ≡ Some rest → ⊥
    of_a number p rest is writer left = elim (still_early.untaken number p is) [
      | inl mine ↦ (let z = sym mine.writer ∙ writer in cc)
      | inr gone ↦ none-some rest (sym gone.rest ∙ left)
    ]

    grows_again : AllGrow t u
    grows_again = let P : Tales → Type 0 = λ y. AllGrow t y in subst P (sym told) (all-of A (with_unsent_told Client) t (λ y. grows-unsent Client y))

    asked_now : (k : Permission) (limit : ℕ) → UnderWay k limit old.sent A → is_asked k new.a.pending ≡ true
    asked_now k limit w = let P : EndState → Type 0 = λ e. is_asked k e.pending ≡ true in subst P (sym a_now) (way-asked k limit old.a.pending old.sent A w)

    tracked_again : IsTracked c.tracks then u
    tracked_again =
        let P : PairState → Type 0 = λ v. IsTracked c.tracks v t in
        tracked-left was then t u (subst P old_is c.tracked) grows_again nothing_more again_leaves (heard_gone u new.sent gone_now) way
      where
        way : (who : End) (k : Permission) → UnderWay k (announced_of k (the_end then who).streams) old.sent who → Tracks k (announced_of k (the_end then who).streams) (the_end then who) (u.of (peer who)) new.sent who
        way A k w = inr (inr (inl (asked_now k _ w)))
        way B k w = absurd (of_a w.number w.payload w.rest w.is w.writer w.rest_is)

    owing_again : AreOwing c.owes then
    owing_again who =
        let P : PairState → Type 0 = λ v. AreOwing c.owes v in
        let before : AreOwing c.owes was = subst P old_is c.owing in
        owing-moved (the_end then who) old.sent new.sent who (half who) (owing-plain (the_end was who) (the_end then who) old.sent who (again_leaves who) (before who))
      where
        half : (w : End) → IsHalfAcked old.sent w → ⊥
        half A k = none-half old.sent A (c.unbegun x.limits x.waiting) k
        half B k = of_a k.number k.payload k.rest k.is k.writer k.rest_is

    kept_retries : Kept known s new u
    kept_retries =
        let P : PairState → Type 0 = λ v. IsTracked c.tracks v u in
        let R : PairState → Type 0 = λ v. AreOwing c.owes v in
        record {
          tracks = c.tracks;
          owes = c.owes;
          tracked = subst P (sym new_is) tracked_again;
          owing = subst R (sym new_is) owing_again;
          unbegun = λ k is. none-gone new.sent gone_now;
          of_early = λ k is. c.of_early k (sym waits_still ∙ is);
          of_streams = c.of_streams;
          of_server = λ is. c.of_server (sym waits_still ∙ is);
          of_server_owed = c.of_server_owed;
          of_all = c.of_all;
          at_once = λ early. waits_still ∙ c.at_once early;
        }

  -- ---- each step

  accepted : (reply : Answer) → Accepted old reply new → TellsOfPair s old.sent new.sent steps.EarlyAccept reply t u → Kept known s new u
  accepted (Ok Done) k e = kept_accepts k e
  accepted (Err NoMemory) k e = kept_same s old new t u c k.is e
  accepted (Err LimitsBelow) k e = kept_same s old new t u c k.is e
  accepted (Err Decided) k e = kept_same s old new t u c k.1 e
  accepted _ k e = absurd k

  rejected : (reply : Answer) → Rejected old reply new → TellsOfPair s old.sent new.sent steps.EarlyReject reply t u → (known ≡ true → Remembers s (RejectsAsMade s old steps.EarlyReject reply)) → Kept known s new u
  rejected (Ok Done) k e pre = kept_rejects k e pre
  rejected (Err Decided) k e pre = kept_same s old new t u c k.1 e
  rejected _ k e pre = absurd k

  retried : (reply : Answer) → Retried old reply new → TellsOfPair s old.sent new.sent steps.Retry reply t u → Kept known s new u
  retried (Ok Done) k e = kept_retries k e
  retried (Err NoMemory) k e = kept_same s old new t u c k.1 e
  retried (Err Decided) k e = kept_same s old new t u c k.1 e
  retried _ k e = absurd k

  kept_taken : (step : Step) (reply : Answer) → (is_some old.waits && needs_decision step) ≡ false → NextTaken old step reply new → TellsOfPair s old.sent new.sent step reply t u → (known ≡ true → Remembers s (RejectsAsMade s old step reply)) → Kept known s new u
  kept_taken steps.EarlyAccept reply free k e pre = accepted reply k e
  kept_taken steps.EarlyReject reply free k e pre = rejected reply k e pre
  kept_taken steps.Retry reply free k e pre = retried reply k e
  kept_taken step reply free k e pre = kept_ordinary step reply free k e

  kept_next : (step : Step) (reply : Answer) → Next old step reply new → TellsOfPair s old.sent new.sent step reply t u → (known ≡ true → Remembers s (RejectsAsMade s old step reply)) → Kept known s new u
  kept_next step reply n e pre = by (is_some old.waits && needs_decision step) refl n
    where
      by : (b : Bool) → (is_some old.waits && needs_decision step) ≡ b → MatchBool b ((reply ≡ Err Undecided) × (new ≡ old)) (NextTaken old step reply new) → Kept known s new u
      by true w k =
          let P : Answer → Type 0 = λ r. TellsOfPair s old.sent new.sent step r t u in
          let Q : List Sent → Type 0 = λ x. TellsOfPair s old.sent x step (Err Undecided) t u in
          let same : TellsOfPair s old.sent old.sent step (Err Undecided) t u = subst Q (ap (λ (v : PairState). v.sent) k.1) (subst P k.0 e) in
          kept_same s old new t u c k.1 (tells-next-once s old.sent old.sent t u t step (Err Undecided) same (tells_refused s old.sent step t))
      by false w k = kept_taken step reply w k e pre

-- ---- whatever steps led to a pair

-- of the steps before, and of this one
before_alone : (s : Beginning) (Before Here : Type 0) → Remembers s (Before × Here) → Remembers s Before
before_alone s Before Here (inl early) = inl early
before_alone s Before Here (inr both) = inr both.0

here_alone : (s : Beginning) (Before Here : Type 0) → Remembers s (Before × Here) → Remembers s Here
here_alone s Before Here (inl early) = inl early
here_alone s Before Here (inr both) = inr both.1

pub kept-from : {s : Beginning} {h : History} {v : PairState} (known : Bool) (f : PairFrom s h v) → (known ≡ true → Remembers s (HasRejectedAsMade f)) → (t : Tales) → Told s (sendings_of f) t → Kept known s v t
kept-from {s} {h} {v} known (begun n) pre t told = let P : Tales → Type 0 = λ x. Kept known s v x in subst P (sym told) (kept_begun s v n)
kept-from {s} known (next {h} {old} {new} step reply f n) pre u told =
    kept_next s h old new f (led-from f) told.0 u
    (kept-from known f (λ on. before_alone s (HasRejectedAsMade f) (RejectsAsMade s old step reply) (pre on)) told.0 told.1)
    step reply n told.2
    (λ on. here_alone s (HasRejectedAsMade f) (RejectsAsMade s old step reply) (pre on))

-- where it is decided
pub record Course (known : Bool) {s : Beginning} {h : History} {v : PairState} (f : PairFrom s h v) : Type 0 where
  pub a : Origin
  pub b : Origin
  pub taken : History
  pub era : EraFrom a b taken v
  pub past : past_of h ≡ past_of taken
  pub recounted : Recounted a b v
  pub told : Told s (sendings_of f) recounted.tales
  pub kept : Kept known s v recounted.tales
  pub tracked : IsTracked kept.tracks v recounted.tales
  pub owing : AreOwing kept.owes v

false_true : false ≡ true → ⊥
false_true e = cc

pub agreed-waits : {s : Beginning} {h : History} {v : PairState} (f : PairFrom s h v) → IsAgreed s v → v.waits ≡ None
agreed-waits {s} f (inl early) = let l = led-from f in (kept-from false f (λ on. absurd (false_true on)) l.tales l.told).at_once early
agreed-waits {s} f (inr none) = none

pub course-known : {s : Beginning} {h : History} {v : PairState} (known : Bool) (f : PairFrom s h v) → (known ≡ true → Remembers s (HasRejectedAsMade f)) → v.waits ≡ None → Course known f
course-known {s} {h} {v} known f pre none =
    let l = led-from f in
    let same = decided-same s v none in
    let at = era-at (as_linked s v) v same l.at in
    let g = grown-from at.era in
    let once : g.recounted.tales ≡ l.tales = told-in-once at.era g.recounted.tales l.tales g.told at.told in
    let T : Tales → Type 0 = λ t. Told s (sendings_of f) t in
    let told : Told s (sendings_of f) g.recounted.tales = subst T (sym once) l.told in
    let k = kept-from known f pre g.recounted.tales told in
    let P : PairState → Type 0 = λ x. IsTracked k.tracks x g.recounted.tales in
    let R : PairState → Type 0 = λ x. AreOwing k.owes x in
    record { a = l.a; b = l.b; taken = l.taken; era = at.era; past = l.past; recounted = g.recounted; told = told; kept = k; tracked = subst P same k.tracked; owing = subst R same k.owing }

-- whatever was forgotten
pub course-from : {s : Beginning} {h : History} {v : PairState} (f : PairFrom s h v) → v.waits ≡ None → Course false f
course-from f none = course-known false f (λ on. absurd (false_true on)) none
