-- A client that is given the limits of its peer once more, or is to send all again, is a linked end still.
use Rattle.std.proofs.Common.{◌≡◌, ℕ, zero, suc, List, [], ◌∷◌, Option, Some, None, Ok, refl, sym, ap, ◌∙◌, subst, inl, inr, arith, ◌≤◌}
use Rattle.std.specs.Prelude.{max, min, ◌^◌, slice_get, unwrap_or, if◌then◌else◌}
use Rattle.std.proofs.lemmas.Option.{none-some}
use Rattle.quic_values.specs.declared.ids.Dir.{Dir}
use Rattle.quic_values.specs.declared.ids.Dir.TheVariants.{Bi, Uni}
use Rattle.quic_wire.specs.declared.frame.Stream.{Stream}
use Rattle.quic_retransmits.specs.Pending.{Pending, nothing, merged_if, thin_view}
use Rattle.quic_retransmits.specs.Settling.{noted_in}
use Rattle.quic_flows.specs.Flow.{SendFlow, with_least_limit}
use Rattle.quic_outgoing.specs.declared.limits.PeerLimits.{PeerLimits}
use Rattle.quic_outgoing.specs.History.{count_in}
use Rattle.quic_outgoing.specs.Outgoing.{first_of}
use Rattle.quic_outgoing.specs.Senders.{is_local, first_limit}
use Rattle.quic_outgoing.specs.Early.{NoneAcked}
use Rattle.quic_history.specs.World.{World, Made}
use Rattle.quic_history.specs.Early.{SendsAgain, with_unsent}
use Rattle.quic_history.specs.Sends.{with_params_given}
use Rattle.quic_history.specs.SendEvents.{GaveLimits}
use Rattle.quic_history.specs.History.{SentAgain, Sending, greatest_count}
use Rattle.quic_history.proofs.Histories.{next as next-call}
use Rattle.quic_link.specs.Endpoints.{LinkedEnd, LimitsWithin, acted, limits_of, IsOneOf}
use Rattle.quic_link.specs.Asked.{AreAsked}
use Rattle.quic_link.proofs.AskedFor.{asked-merged}
use Rattle.quic_streams.specs.declared.settling.SentPayload.{SentPayload}
use Rattle.quic_endpoint.specs.Ends.{EndState, with_world}
use Rattle.quic_steps.specs.declared.steps.End.{End}
use Rattle.quic_steps.specs.declared.steps.End.TheVariants.{A, B}
use Rattle.quic_exchange.specs.Sent.{Sent}
use Rattle.quic_exchange.specs.Gone.{HaveLeft, with_noted, with_all_noted}
use Rattle.quic_exchange.specs.State.{PairState, with_end}
use Rattle.quic_exchange.specs.History.{Past, FramePlace}
use Rattle.quic_exchange.specs.Headline.{SomeStream}
use Rattle.quic_exchange.specs.Readable.{SomeReset, SomeStop}
use Rattle.quic_exchange.specs.Unrefused.{StreamsAt, none, on, beside}
use Rattle.quic_exchange.specs.Tale.{Tale, first_count, with_limits_given, with_unsent_told}
use Rattle.quic_exchange.proofs.KeptFrames.{KeptSent, kept_in}
use Rattle.quic_exchange.proofs.Joined.{Stands, Knows, ArePayloadsOf, IsLike, Seen, Sees}
use Rattle.quic_exchange.proofs.Gives.{gave-none}
use Rattle.quic_exchange.proofs.CallsFlows.{onward-call}
use Rattle.quic_exchange.proofs.CallsSeen.{called-once, quiet-accepts, reads-same, sees-same, sees-quiet}
use Rattle.quic_exchange.proofs.CallsSetting.{asked-same, may-act}
use Rattle.quic_exchange.proofs.Begun.{AreBlank, blank-payloads}
use Rattle.quic_exchange.proofs.Counted.{Counted}
use Rattle.quic_exchange.proofs.CountedBegun.{AreFew}
use Rattle.quic_exchange.proofs.OwnDoings.{AreUntaken}

-- ---- another pair with these ends and payloads

stands_at : (x : LinkedEnd) (e f : EndState) → f ≡ e → Stands x e → Stands x f
stands_at x e f k s = let P : EndState → Type 0 = λ j. Stands x j in subst P (sym k) s

pub seen-alike : (p : Past) (v w : PairState) (x y : LinkedEnd) → w.a ≡ v.a → w.b ≡ v.b → w.sent ≡ v.sent → Seen p A v x y → Seen p A w x y
seen-alike p v w x y a b sent s =
    let P : List Sent → Type 0 = λ l. ArePayloadsOf l A x y in
    let Q : List Sent → Type 0 = λ l. ArePayloadsOf l B y x in
    let R : List Sent → Type 0 = λ l. Knows p l A x y in
    let S : List Sent → Type 0 = λ l. Knows p l B y x in
    let T : List Sent → Type 0 = λ l. KeptSent p l A y in
    let U : List Sent → Type 0 = λ l. KeptSent p l B x in
    record {
      linked = s.linked;
      here = stands_at x v.a w.a a s.here;
      there = stands_at y v.b w.b b s.there;
      own = subst P (sym sent) s.own;
      others = subst Q (sym sent) s.others;
      sends = subst R (sym sent) s.sends;
      receives = subst S (sym sent) s.receives;
      kept_there = subst T (sym sent) s.kept_there;
      kept_here = subst U (sym sent) s.kept_here;
    }

-- ---- where nothing was delivered

none_of : (at : FramePlace) (places : List FramePlace) → places ≡ [] → IsOneOf at places → ⊥
none_of at places e h = let P : List FramePlace → Type 0 = λ l. IsOneOf at l in absurd (subst P e h)

none_at : {sent : List Sent} {who : End} {id : ℕ} {places : List FramePlace} {streams : List Stream} → places ≡ [] → StreamsAt sent who id places streams → streams ≡ []
none_at e none = refl
none_at e (on at s k is same) = cc
none_at e (beside at payload k got other) = cc

-- what was reported of payloads is known no more
abbrev pub without_reports : Past → Past
without_reports p = record p { settled = []; begun = [] }

-- payloads may be any
knows_none : (p : Past) (sent more : List Sent) (who : End) (x y : LinkedEnd) → p.accepted ≡ [] → Knows p sent who x y → Knows (without_reports p) more who x y
knows_none p sent more who x y e k = record {
  ids = k.ids;
  written = k.written;
  finished = k.finished;
  resets = k.resets;
  stops = k.stops;
  given = k.given;
  ended = k.ended;
  unordered = k.unordered;
  told_resets = k.told_resets;
  told_stops = k.told_stops;
  complete = k.complete;
  accepted = λ q offset bytes fin transmit h. let s : SomeStream sent who q p.accepted (IsLike offset bytes fin) = k.accepted q offset bytes fin transmit h in absurd (none_of s.at p.accepted e s.listed);
}

kept_none : (p : Past) (sent more : List Sent) (who : End) (y : LinkedEnd) → p.accepted ≡ [] → p.kept ≡ [] → KeptSent p sent who y → KeptSent (without_reports p) more who y
kept_none p sent more who y e f k = record {
  streams = λ q.
      let P : List FramePlace → Type 0 = λ places. StreamsAt more who q places (kept_in y.calls q) in
      let Q : List Stream → Type 0 = λ ss. StreamsAt more who q [] ss in
      subst P (sym f) (subst Q (sym (none_at f (k.streams q))) none);
  resets = λ q code final transmit h. let s : SomeReset sent who q code p.accepted = k.resets q code final transmit h in absurd (none_of s.at p.accepted e s.listed);
  stops = λ q code h. let s : SomeStop sent who q code p.accepted = k.stops q code h in absurd (none_of s.at p.accepted e s.listed);
}

pub seen-blank : (p : Past) (v w : PairState) (x y : LinkedEnd) → w.a ≡ v.a → w.b ≡ v.b → AreBlank w.sent → p.accepted ≡ [] → p.kept ≡ [] → Seen p A v x y → Seen (without_reports p) A w x y
seen-blank p v w x y a b blank e f s = record {
  linked = s.linked;
  here = stands_at x v.a w.a a s.here;
  there = stands_at y v.b w.b b s.there;
  own = blank-payloads w.sent blank A x y;
  others = blank-payloads w.sent blank B y x;
  sends = knows_none p v.sent w.sent A x y e s.sends;
  receives = knows_none p v.sent w.sent B y x e s.receives;
  kept_there = kept_none p v.sent w.sent A y e f s.kept_there;
  kept_here = kept_none p v.sent w.sent B x e f s.kept_here;
}

-- ---- limits are given

pub seen-given : (p : Past) (old new : PairState) (x y : LinkedEnd) (limits : PeerLimits) → Seen p A old x y → LimitsWithin limits (limits_of y.made) → new.a ≡ with_world old.a (with_params_given old.a.streams limits) → new.b ≡ old.b → new.sent ≡ old.sent → Sees p A new x y
seen-given p old new x y limits s within a b sent =
    let e = Sending (GaveLimits limits (Ok tt)) in
    let f : EndState = new.a in
    let mid : PairState = with_end old A f in
    let may = may-act p A old mid x y s e f.streams within tt (ap (λ (k : EndState). k.streams) a) in
    let o = onward-call x y e f.streams s.linked may in
    let asked = o.asked f.pending (asked-same x old.a.pending f.pending (ap (λ (k : EndState). k.pending) a) s.here.pending) in
    let z = acted x e f.streams in
    let c = called-once A old mid x y e f.streams f o refl asked refl (quiet-accepts x e f.streams tt) in
    let t = sees-same p A old mid x y z s c (gave-none x e f.streams tt) (λ q. record { written = refl; finished = refl; reset = refl }) (reads-same x y e f.streams may refl tt) in
    record { end = t.end; made = t.made; seen = seen-alike p mid new t.end y refl b sent t.seen }

-- ---- all is to be sent again

merged_asked : (x : LinkedEnd) (p : Pending) (o : Option Pending) → AreAsked x p → AreAsked x (unwrap_or o nothing) → AreAsked x (merged_if p o)
merged_asked x p None a b = a
merged_asked x p (Some q) a b = asked-merged x p q a b

asked_at : (x : LinkedEnd) (p : Pending) (o : Option SentPayload) → AreAsked x p → ((r : SentPayload) → o ≡ Some r → AreAsked x (noted_in r.control)) → AreAsked x (with_noted p o)
asked_at x p None a control = a
asked_at x p (Some r) a control = merged_asked x p (thin_view r.control) a (control r refl)

-- what was noted of payloads was asked for
asked_all : (x : LinkedEnd) (sent : List Sent) → ((number : ℕ) (s : Sent) → slice_get sent number ≡ Some s → (r : SentPayload) → s.unsettled.rest ≡ Some r → AreAsked x (noted_in r.control)) → (p : Pending) → AreAsked x p → AreAsked x (with_all_noted p sent)
asked_all x [] control p a = a
asked_all x (s ∷ ss) control p a = asked_all x ss (λ number t got. control (suc number) t got) (with_noted p s.unsettled.rest) (asked_at x p s.unsettled.rest a (control zero s refl))

noted_here : (p : Past) (v : PairState) (x y : LinkedEnd) → Seen p A v x y → AreUntaken v.sent → (number : ℕ) (s : Sent) → slice_get v.sent number ≡ Some s → (r : SentPayload) → s.unsettled.rest ≡ Some r → AreAsked x (noted_in r.control)
noted_here p v x y s untaken number payload got r rest = elim (untaken number payload got) [
  | inl k ↦ (s.own number payload got k.writer).control r rest
  | inr k ↦ absurd (none-some r (sym k.rest ∙ rest))
]

-- the payloads left, where nothing of them was delivered
pub seen-again : (p : Past) (old new : PairState) (x y : LinkedEnd) (streams : World) (sent : List Sent) → Seen p A old x y → NoneAcked old.a.streams.out.side old.a.streams.out.halves → SendsAgain old.a.streams (Ok tt) streams → AreUntaken old.sent → HaveLeft old.sent sent
    → new.a ≡ record { streams = streams; pending = with_all_noted old.a.pending old.sent } → new.b ≡ old.b → new.sent ≡ sent → p.accepted ≡ [] → p.kept ≡ [] → Sees (without_reports p) A new x y
seen-again p old new x y streams sent s unacked sends untaken left a b sent_is accepted kept =
    let e = SentAgain (Ok tt) in
    let f : EndState = record { streams = streams; pending = with_all_noted old.a.pending old.sent } in
    let mid : PairState = with_end old A f in
    let may = may-act p A old mid x y s e streams tt tt (unacked, sends) in
    let asked = asked_all x old.sent (noted_here p old x y s untaken) old.a.pending s.here.pending in
    let t = sees-quiet p A old mid x y f e streams s may refl refl refl tt refl asked refl in
    let P : List Sent → Type 0 = λ l. AreBlank l in
    let blank : AreBlank new.sent = subst P (sym sent_is) (λ number k got. let g = left.each number k got in record { text = g.text; rest = g.rest }) in
    record { end = t.end; made = t.made; seen = seen-blank p mid new t.end y a b blank accepted kept t.seen }

-- ---- what is told then

most_of : (a c n : ℕ) → a ≡ c → n ≤ 2 ^ 60 → max a (min n (2 ^ 60)) ≡ max c n
most_of a c n e few = omega arith

most_counts : (a c : ℕ) (limits : PeerLimits) → AreFew limits → (d : Dir) → a ≡ c → max a (min (count_in limits d) (2 ^ 60)) ≡ max c (first_count limits d)
most_counts a c limits few Bi e = most_of a c limits.initial_max_streams_bidi e few.0
most_counts a c limits few Uni e = most_of a c limits.initial_max_streams_uni e few.1

pub counted-limits : (m : Made) (w v : World) (t : Tale) (limits : PeerLimits) → AreFew limits → Counted m w t → v ≡ with_params_given w limits → Counted m v (with_limits_given m.side limits t)
counted-limits m w v t limits few c is =
    let e = Sending (GaveLimits limits (Ok tt)) in
    let k = c.tells in
    record {
      calls = e ∷ c.calls;
      from = next-call m c.calls w e v tt c.from is;
      plain = (refl, c.plain);
      tells = record {
        flow_is = λ q. ap (with_least_limit (first_limit m.side (first_of limits) q)) (k.flow_is q);
        streams_are = k.streams_are;
        written_is = let a = k.written_is in omega arith;
        limit_is = ap (λ n. max n limits.initial_max_data) k.limit_is;
        window_is = k.window_is;
        opened_are = λ d. let a = k.opened_are d in omega arith;
        counts_are = λ d. most_counts (greatest_count c.calls d) (t.count d) limits few d (k.counts_are d);
      };
    }

pub counted-again : (m : Made) (w v : World) (t : Tale) → NoneAcked w.out.side w.out.halves → Counted m w t → SendsAgain w (Ok tt) v → Counted m v (with_unsent_told m.side t)
counted-again m w v t unacked c sends =
    let e = SentAgain (Ok tt) in
    let k = c.tells in
    record {
      calls = e ∷ c.calls;
      from = next-call m c.calls w e v tt c.from (unacked, sends);
      plain = (refl, c.plain);
      tells = record {
        flow_is = λ q. ap (λ (f : SendFlow). if is_local m.side q then with_unsent f else f) (k.flow_is q);
        streams_are = k.streams_are;
        written_is = let a = k.written_is in omega arith;
        limit_is = let a = k.limit_is in omega arith;
        window_is = k.window_is;
        opened_are = λ d. let a = k.opened_are d in omega arith;
        counts_are = λ d. let a = k.counts_are d in omega arith;
      };
    }
