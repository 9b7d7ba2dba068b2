-- What is kept of a pair, whatever steps led to it: it came by an era, beside a wide server while it is not decided whether the
-- server takes what the client sends early.
use Rattle.std.proofs.Common.{◌≡◌, ℕ, List, [], ◌∷◌, ◌++◌, Option, Some, None, length, refl, sym, ap, ◌∙◌, subst}
use Rattle.std.specs.Prelude.{slice_get, unwrap_or}
use Rattle.std.proofs.lemmas.Option.{none-some, same_Some}
use Rattle.quic_values.specs.declared.ids.Side.TheVariants.{Client, Server}
use Rattle.quic_outgoing.specs.declared.limits.PeerLimits.{PeerLimits}
use Rattle.quic_endpoint.specs.Ends.{EndState}
use Rattle.quic_steps.specs.declared.steps.End.{End}
use Rattle.quic_steps.specs.declared.steps.End.TheVariants.{A, B}
use Rattle.quic_steps.specs.declared.steps.Step.{Step}
use Rattle.quic_exchange.specs.declared.early.EarlyLimits.{EarlyLimits}
use Rattle.quic_exchange.specs.Sent.{Sent}
use Rattle.quic_exchange.specs.Replies.{Answer}
use Rattle.quic_exchange.specs.State.{PairState}
use Rattle.quic_exchange.specs.Steps.{NextOrdinary, Next}
use Rattle.quic_exchange.specs.History.{History, StepTaken, Past, after, past_of, waits_then, waits_from}
use Rattle.quic_exchange.specs.From.{Beginning, PairFrom, begun, next, made_of, end_begun, limits_first, limits_of_a, limits_of_b, waits_of, waits_first, AreSoundLimits, IsNew}
use Rattle.quic_exchange.specs.Runs.{sendings_of}
use Rattle.quic_exchange.specs.Tale.{Tales, Told, TellsOfPair, StepTells, tales_begun, tale_first}
use Rattle.quic_exchange.proofs.Origins.{Origin, made_in, origin_of}
use Rattle.quic_exchange.proofs.Begun.{AreTwoEnds}
use Rattle.quic_exchange.proofs.OwnDoings.{DidOwn, AreUntaken, own-begun}
use Rattle.quic_exchange.proofs.Eras.{EraFrom, begun as begun-era, next as next-era, ToldIn, tale_in, tales_in}
use Rattle.quic_exchange.proofs.Grown.{grown-from, past-after}
use Rattle.quic_exchange.proofs.ToldOnce.{told-in-once}
use Rattle.quic_exchange.proofs.Wide.{wide_made, as_linked, decided-same, waiting-same, AreSound, sound-new, limits-a, limits-b, start-a, two-decided, two-wide}

-- a pair came by an era, whose steps tell this
pub record EraAt (a b : Origin) (taken : History) (u : PairState) (tales : Tales) : Type 0 where
  pub era : EraFrom a b taken u
  pub told : ToldIn era tales

pub era-at : {a b : Origin} {taken : History} {tales : Tales} (u w : PairState) → u ≡ w → EraAt a b taken u tales → EraAt a b taken w tales
era-at {a} {b} {taken} {tales} u w e k = let P : PairState → Type 0 = λ x. EraAt a b taken x tales in subst P e k

-- one more ordinary step
pub record EraOn (a b : Origin) (taken : History) (old : PairState) (t : Tales) (step : Step) (reply : Answer) (new : PairState) : Type 0 where
  pub tales : Tales
  pub tells : StepTells old.sent new.sent step reply t tales
  pub at : EraAt a b (taken ++ (step, reply) ∷ []) new tales

pub era-on : {a b : Origin} {taken : History} {old new : PairState} {t : Tales} → EraAt a b taken old t → (step : Step) (reply : Answer) → NextOrdinary old step reply new → EraOn a b taken old t step reply new
era-on {a} {b} {taken} {old} {new} {t} k step reply n =
    let g = grown-from (next-era step reply k.era n) in
    let before : g.told.0 ≡ t = told-in-once k.era g.told.0 t g.told.1 k.told in
    let P : Tales → Type 0 = λ x. StepTells old.sent new.sent step reply x g.recounted.tales in
    record { tales = g.recounted.tales; tells = subst P before g.told.2; at = record { era = next-era step reply k.era n; told = g.told } }

-- ---- while it is not decided

abbrev pub origin_b : Beginning → Origin
origin_b s = origin_of (made_of Server s.b) (limits_of_a s)

abbrev pub origin_wide : Beginning → PeerLimits → Origin
origin_wide s l = origin_of (wide_made s.b l) (limits_of_a s)

abbrev pub origin_a : Beginning → PeerLimits → Origin
origin_a s l = origin_of (made_of Client s.a) l

-- the client did its own doings alone, and the server nothing
pub record IsEarlyPair (s : Beginning) (a b : Origin) (k : EarlyLimits) (p : Past) (v : PairState) : Type 0 where
  pub began : waits_first s ≡ Some k
  pub a_is : a ≡ origin_a s k.remembered
  pub b_is : b ≡ origin_wide s k.remembered
  pub other : v.b ≡ end_begun (made_of Server s.b) (limits_of_a s)
  pub own : DidOwn (made_of Client s.a) v.a.streams
  pub untaken : AreUntaken v.sent
  pub accepted : p.accepted ≡ []
  pub kept : p.kept ≡ []

pub record Led {s : Beginning} {h : History} {v : PairState} (f : PairFrom s h v) : Type 0 where
  pub sound : AreSound s
  pub a : Origin
  pub b : Origin
  pub taken : History
  pub tales : Tales
  pub at : EraAt a b taken (as_linked s v) tales
  pub past : past_of h ≡ past_of taken
  pub waits : v.waits ≡ waits_from (waits_first s) h
  pub early : (k : EarlyLimits) → v.waits ≡ Some k → IsEarlyPair s a b k (past_of taken) v
  pub told : Told s (sendings_of f) tales

-- ---- how it begins

no_payload : (sent : List Sent) → sent ≡ [] → (number : ℕ) (s : Sent) → slice_get sent number ≡ Some s → ⊥
no_payload sent e number s got = let P : List Sent → Type 0 = λ l. slice_get l number ≡ Some s in none-some s (subst P e got)

tales_first : (a b : Origin) (s : Beginning) (sent : List Sent) → a.send_window ≡ s.a.send_window → a.limits ≡ limits_first s → b ≡ origin_b s → sent ≡ [] → tales_in a b sent ≡ tales_begun s
tales_first a b s sent window limits b_is none = λ k. record { of = λ end. of_is end k; payloads = ap (λ (l : List Sent). length l) none k; told = λ number. 0 }
  where
    of_is : (end : End) → tale_in a b end ≡ tale_first s end
    of_is A = rw (window, limits) refl
    of_is B = rw b_is refl

module _ (s : Beginning) (v : PairState) (n : IsNew s v) where
  sound : AreSound s
  sound = sound-new s v n

  a_first : v.a ≡ end_begun (made_of Client s.a) (limits_first s)
  a_first = ap (λ (x : PairState). x.a) n.is

  b_first : v.b ≡ end_begun (made_of Server s.b) (limits_of_a s)
  b_first = ap (λ (x : PairState). x.b) n.is

  sent_first : v.sent ≡ []
  sent_first = ap (λ (x : PairState). x.sent) n.is

  waits_begun : v.waits ≡ waits_first s
  waits_begun = ap (λ (x : PairState). x.waits) n.is

  begun_with : (a b : Origin) (u : PairState) → u.a ≡ end_begun (made_in Client a) a.limits → u.b ≡ end_begun (made_in Server b) b.limits → u.sent ≡ [] → AreTwoEnds (made_in Client a) (made_in Server b) a.limits b.limits → AreSoundLimits a.limits → AreSoundLimits b.limits → EraAt a b [] u (tales_in a b u.sent)
  begun_with a b u a_is b_is none two la lb = record { era = begun-era (record { of_a = a_is; of_b = b_is; ends = two; gone = λ number p got. absurd (no_payload u.sent none number p got); limits_a = la; limits_b = lb }); told = refl }

  led_decided : s.early ≡ None → Led (begun n)
  led_decided e =
      let waits : v.waits ≡ None = waits_begun ∙ ap (waits_of (limits_of_b s)) e in
      let first : limits_first s ≡ limits_of_b s = ap (λ (o : Option PeerLimits). unwrap_or o (limits_of_b s)) e in
      let a = origin_a s (limits_of_b s) in
      let b = origin_b s in
      record {
        sound = sound;
        a = a;
        b = b;
        taken = [];
        tales = tales_in a b v.sent;
        at = era-at v (as_linked s v) (sym (decided-same s v waits)) (begun_with a b v (a_first ∙ ap (end_begun (made_of Client s.a)) first) b_first sent_first (two-decided s sound) (limits-b s sound) (limits-a s sound));
        past = refl;
        waits = waits_begun;
        early = λ k is. absurd (none-some k (sym waits ∙ is));
        told = tales_first a b s v.sent refl (sym first) refl sent_first;
      }

  led_early : (l : PeerLimits) → s.early ≡ Some l → Led (begun n)
  led_early l e =
      let k : EarlyLimits = record { remembered = l; others = limits_of_b s } in
      let first_is : waits_first s ≡ Some k = ap (waits_of (limits_of_b s)) e in
      let waits : v.waits ≡ Some k = waits_begun ∙ first_is in
      let first : limits_first s ≡ l = ap (λ (o : Option PeerLimits). unwrap_or o (limits_of_b s)) e in
      let a = origin_a s l in
      let b = origin_wide s l in
      let u : PairState = record v { b = end_begun (wide_made s.b l) (limits_of_a s) } in
      let remembered = n.remembered l e in
      let P : EndState → Type 0 = λ x. DidOwn (made_of Client s.a) x.streams in
      record {
        sound = sound;
        a = a;
        b = b;
        taken = [];
        tales = tales_in a b v.sent;
        at = era-at u (as_linked s v) (sym (waiting-same s v k waits)) (begun_with a b u (a_first ∙ ap (end_begun (made_of Client s.a)) first) refl sent_first (two-wide s sound l remembered) remembered (limits-a s sound));
        past = refl;
        waits = waits_begun;
        early = λ j is.
            let same : k ≡ j = same_Some k j (sym waits ∙ is) in
            let Q : EarlyLimits → Type 0 = λ x. IsEarlyPair s a b x (past_of []) v in
            subst Q same (record { began = first_is; a_is = refl; b_is = refl; other = b_first; own = subst P (sym (a_first ∙ ap (end_begun (made_of Client s.a)) first)) (own-begun (made_of Client s.a) l (start-a s sound)); untaken = λ number p got. absurd (no_payload v.sent sent_first number p got); accepted = refl; kept = refl });
        told = tales_wide;
      }
    where
      tales_wide : tales_in (origin_a s l) (origin_wide s l) v.sent ≡ tales_begun s
      tales_wide = λ k. record { of = λ end. of_is end k; payloads = ap (λ (x : List Sent). length x) sent_first k; told = λ number. 0 }
        where
          of_is : (end : End) → tale_in (origin_a s l) (origin_wide s l) end ≡ tale_first s end
          of_is A = let first : l ≡ limits_first s = sym (ap (λ (o : Option PeerLimits). unwrap_or o (limits_of_b s)) e) in rw (← first) refl
          of_is B = refl

  pub led-begun : Led (begun n)
  led-begun = by s.early refl
    where
      by : (o : Option PeerLimits) → s.early ≡ o → Led (begun n)
      by None e = led_decided e
      by (Some l) e = led_early l e

-- ---- a step that changes nothing

waits_more : (w : Option EarlyLimits) (h : History) (e : StepTaken) → waits_from w (h ++ e ∷ []) ≡ waits_then (waits_from w h) e.0 e.1
waits_more w [] e = refl
waits_more w (g ∷ h) e = waits_more (waits_then w g.0 g.1) h e

pub waits-more : (s : Beginning) (h : History) (step : Step) (reply : Answer) → waits_from (waits_first s) (h ++ (step, reply) ∷ []) ≡ waits_then (waits_from (waits_first s) h) step reply
waits-more s h step reply = waits_more (waits_first s) h (step, reply)

pub led-same : {s : Beginning} {h : History} {old new : PairState} (f : PairFrom s h old) → Led f → (step : Step) (reply : Answer) (n : Next old step reply new) → new ≡ old → ((p : Past) → after p step reply ≡ p) → ((w : Option EarlyLimits) → waits_then w step reply ≡ w) → ((t : Tales) → TellsOfPair s old.sent old.sent step reply t t) → Led (next step reply f n)
led-same {s} {h} {old} {new} f l step reply n is past_same waits_same tells =
    let P : PairState → Type 0 = λ x. (m : Next old step reply x) → Led (next step reply f m) in
    subst P (sym is) (λ m. record {
      sound = l.sound;
      a = l.a;
      b = l.b;
      taken = l.taken;
      tales = l.tales;
      at = l.at;
      past = past-after h step reply ∙ past_same (past_of h) ∙ l.past;
      waits = l.waits ∙ sym (waits-more s h step reply ∙ waits_same (waits_from (waits_first s) h));
      early = l.early;
      told = (l.tales, l.told, tells l.tales);
    }) n
