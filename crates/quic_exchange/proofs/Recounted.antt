-- What the steps of a pair tell is what calls of its ends tell.
use Rattle.std.proofs.Common.{◌≡◌, ℕ, List, Option, [], ◌∷◌, ◌++◌, Some, Result, Ok, Err, refl, sym, ap, ◌∙◌, subst, true, false, inl, inr, arith}
use Rattle.std.specs.Prelude.{length, map, take, drop, slice_get, slice_set, unwrap_or, ◌+◌, ◌-◌, ◌≤◌, ◌==◌, if◌then◌else◌}
use Rattle.std.specs.Option.{option_map}
use Rattle.std.proofs.lemmas.List.{length-append, length-drop, drop-drop, take_at, drop_at}
use Rattle.std.proofs.lemmas.Option.{same_Some, none-some}
use Rattle.quic_values.specs.declared.ids.Side.TheVariants.{Client, Server}
use Rattle.quic_wire.specs.declared.frame.Frame.{Frame}
use Rattle.quic_wire.specs.Frames.{AreFrames}
use Rattle.quic_wire.proofs.Joins.{same}
use Rattle.quic_retransmits.specs.Pending.{Pending, nothing, thin_view}
use Rattle.quic_history.specs.World.{Made}
use Rattle.quic_history.specs.SendEvents.{GaveLimits, OpenedOwn, RaisedData, RaisedCount, RaisedLimit, StoppedOwn, SetWindow, WroteOwn, FinishedOwn, ResetOwn, AckedOwn, LostOwn, ResetAckedOwn, TookTurn}
use Rattle.quic_history.specs.History.{Event, Sending, Rejected, SentAgain}
use Rattle.quic_history.proofs.Traces.{itself}
use Rattle.quic_streams.specs.declared.settling.SentPayload.{SentPayload}
use Rattle.quic_streams.specs.Settling.{SentView, resets_of, unreported}
use Rattle.quic_streams.specs.Sent.{sent_view, report_view}
use Rattle.quic_endpoint.specs.Ends.{EndState}
use Rattle.quic_endpoint.specs.Emitting.{PayloadView, control_in}
use Rattle.quic_exchange.proofs.Origins.{Origin, made_in}
use Rattle.quic_steps.specs.declared.steps.End.{End}
use Rattle.quic_steps.specs.declared.steps.End.TheVariants.{A, B}
use Rattle.quic_steps.specs.declared.steps.Step.{Step}
use Rattle.quic_exchange.specs.Sent.{Sent, Unsettled}
use Rattle.quic_exchange.specs.declared.unsettled.Report.{Report}
use Rattle.quic_exchange.specs.declared.unsettled.Report.TheVariants.{Lost, Acknowledged}
use Rattle.quic_exchange.specs.Payloads.{SentText, metas_in, codes_in, noted_of}
use Rattle.quic_exchange.specs.Unsettled.{goes_on, unsettled_after}
use Rattle.quic_exchange.specs.Replies.{Answer}
use Rattle.quic_exchange.specs.State.{PairState, the_end, with_end, with_sent}
use Rattle.quic_exchange.specs.Steps.{IsSentBy}
use Rattle.quic_exchange.specs.Tale.{Tale, Tales, StepTells, TellsParts, TellsAll, Part, Carried, GivenUp, parts_in, parts_of, parts_left, with_parts, told_of, told_more}
use Rattle.quic_exchange.proofs.Lists.{slice_get-push, slice_get-slice_set, slice_get-split, slice_get-set_same, slice_get-within, slice_set-length, apart}
use Rattle.quic_exchange.proofs.Counted.{Counted, IsUntold}
use Rattle.quic_exchange.proofs.Left.{IsLeft, AreLeft}

-- ---- what is left of payloads

-- one is marked
pub left-marked : (sent : List Sent) (told : ℕ → ℕ) → AreLeft sent told → (number : ℕ) (s : Sent) → slice_get sent number ≡ Some s → (text : SentText) → text.bytes ≡ s.text.bytes → AreLeft (slice_set sent number (record s { text = text })) told
left-marked sent told left number s is text bytes n t r all got rest spelled = elim (slice_get-slice_set sent number n (record s { text = text }) t got) [
  | inl new ↦ (
      let unsettled : t.unsettled ≡ s.unsettled = ap (λ (v : Sent). v.unsettled) new.1 in
      let P : List ℕ → Type 0 = λ b. AreFrames b all in
      let Q : Unsettled → Type 0 = λ u. IsLeft (told n) u (sent_view r) all in
      subst Q (sym unsettled)
      (left n s r all (ap (slice_get sent) new.0 ∙ is) (sym (ap (λ (u : Unsettled). u.rest) unsettled) ∙ rest) (subst P (ap (λ (v : Sent). v.text.bytes) new.1 ∙ bytes) spelled))
      )
  | inr there ↦ left n t r all there rest spelled
]

-- what was handed back of a payload is what its frames carry
pub record IsHandedBack (payload : PayloadView) (all : List Frame) : Type 0 where
  pub metas : payload.sent.streams ≡ metas_in all
  pub resets : resets_of payload.sent.control ≡ codes_in all
  pub noted : control_in payload ≡ noted_of nothing all

-- one more is sent
left_sent : (sent : List Sent) (told : ℕ → ℕ) → AreLeft sent told → told (length sent) ≡ 0 → (who : End) (payload : PayloadView) (s : Sent) → IsSentBy who payload s → (these : List Frame) → AreFrames payload.bytes these → IsHandedBack payload these → AreLeft (sent ++ s ∷ []) told
left_sent sent told left none who payload s sent_is these spelled_so back n t r all got rest spelled = elim (slice_get-push sent s n t got) [
  | inl before ↦ left n t r all before rest spelled
  | inr now ↦ (
      let r_is : sent_view r ≡ payload.sent = same_Some (sent_view r) payload.sent (ap (option_map sent_view) (sym rest ∙ ap (λ (v : Sent). v.unsettled.rest) now.1) ∙ sent_is.rest) in
      let bytes : t.text.bytes ≡ payload.bytes = ap (λ (v : Sent). v.text.bytes) now.1 ∙ ap (λ (x : SentText). x.bytes) sent_is.text in
      let P : List ℕ → Type 0 = λ b. AreFrames b all in
      let frames_are : all ≡ these = same payload.bytes all these (subst P bytes spelled) spelled_so in
      let told_none : told n ≡ 0 = ap told now.0 ∙ none in
      let parts : parts_of payload.sent ≡ parts_in these = ap (λ l. map Carried l ++ map (λ (c : ℕ × ℕ). GivenUp c.0) (resets_of payload.sent.control)) back.metas ∙ ap (λ l. map Carried (metas_in these) ++ map (λ (c : ℕ × ℕ). GivenUp c.0) l) back.resets in
      record {
        within = let z = told_none in omega (arith, z);
        parts = ap parts_of r_is ∙ parts ∙ sym (ap parts_in frames_are) ∙ sym (ap (λ k. drop k (parts_in all)) told_none);
        noted = λ goes. ap (λ (v : SentView). unwrap_or v.control nothing) r_is ∙ back.noted ∙ sym (ap (noted_of nothing) frames_are);
      }
      )
]

-- some of the parts of one were reported
pub record IsDone (kind : Report) (u : Unsettled) (r : SentPayload) (answer : Result (Unit {0}) SentPayload) (done : List Part) : Type 0 where
  pub rest_is : u.rest ≡ Some r
  pub goes : goes_on kind u.begun ≡ true
  pub parts : parts_of (sent_view r) ≡ done ++ parts_of (unreported (report_view answer))
  pub control : kind ≡ Lost → (back : SentPayload) → answer ≡ Err back → thin_view back.control ≡ thin_view r.control

only_lost : (kind : Report) → goes_on Lost (Some kind) ≡ true → kind ≡ Lost
only_lost Lost e = refl
only_lost Acknowledged e = cc

module _ (sent : List Sent) (told : ℕ → ℕ) (left : AreLeft sent told) (number : ℕ) (s : Sent) (is : slice_get sent number ≡ Some s) (kind : Report) (r : SentPayload) (answer : Result (Unit {0}) SentPayload) (done : List Part) (k : IsDone kind s.unsettled r answer done) where
  abbrev reported : Sent
  reported = record s { unsettled = unsettled_after kind s.unsettled answer }

  abbrev more_told : ℕ → ℕ
  more_told n = if n == number then told n + length done else told n

  told_here : (n : ℕ) → n ≡ number → more_told n ≡ told number + length done
  told_here n e = ap more_told e ∙ ap (λ b. if b then told number + length done else told number) (itself number)

  told_there : (n : ℕ) → (n == number) ≡ false → more_told n ≡ told n
  told_there n e = ap (λ b. if b then told n + length done else told n) e

  module _ (all : List Frame) (spelled : AreFrames s.text.bytes all) where
    was_left : IsLeft (told number) s.unsettled (sent_view r) all
    was_left = left number s r all is k.rest_is spelled

    -- as many parts as the payload has, with those that are left
    pub done-counts : told number + length done + length (parts_of (unreported (report_view answer))) ≡ length (parts_in all)
    done-counts =
        let within = was_left.within in
        let size : length (parts_of (sent_view r)) ≡ length (parts_in all) - told number = ap length was_left.parts ∙ length-drop (told number) (parts_in all) in
        let both : length (parts_of (sent_view r)) ≡ length done + length (parts_of (unreported (report_view answer))) = ap length k.parts ∙ length-append done (parts_of (unreported (report_view answer))) in
        omega (arith, within, size, both)

    pub done-are : take (length done) (drop (told number) (parts_in all)) ≡ done
    done-are = ap (take (length done)) (sym was_left.parts ∙ k.parts) ∙ take_at done (parts_of (unreported (report_view answer))) (length done) refl

    behind_done : parts_of (unreported (report_view answer)) ≡ drop (told number + length done) (parts_in all)
    behind_done = sym (drop_at done (parts_of (unreported (report_view answer))) (length done) refl) ∙ ap (drop (length done)) (sym k.parts ∙ was_left.parts) ∙ drop-drop (length done) (told number) (parts_in all)

    left_back : (back : SentPayload) → answer ≡ Err back → IsLeft (told number + length done) (record { begun = Some kind; rest = Some back }) (sent_view back) all
    left_back back e =
        let P : Result (Unit {0}) SentPayload → Type 0 = λ a. parts_of (unreported (report_view a)) ≡ drop (told number + length done) (parts_in all) in
        let counts = done-counts in
        record {
          within = omega (arith, counts);
          parts = subst P e behind_done;
          noted = λ goes.
              let lost = only_lost kind goes in
              let Q : Report → Type 0 = λ j. goes_on j s.unsettled.begun ≡ true in
              ap (λ (o : Option Pending). unwrap_or o nothing) (k.control lost back e) ∙ was_left.noted (subst Q lost k.goes);
        }

  left_after : (a : Result (Unit {0}) SentPayload) → a ≡ answer → (t : Sent) → t ≡ record s { unsettled = unsettled_after kind s.unsettled a } → (n : ℕ) → n ≡ number → (b : SentPayload) (all : List Frame) → t.unsettled.rest ≡ Some b → AreFrames t.text.bytes all → IsLeft (more_told n) t.unsettled (sent_view b) all
  left_after (Ok x) a t e n here b all rest spelled = absurd (none-some b (sym (ap (λ (v : Sent). v.unsettled.rest) e) ∙ rest))
  left_after (Err back) a t e n here b all rest spelled =
      let b_is : back ≡ b = same_Some back b (sym (ap (λ (v : Sent). v.unsettled.rest) e) ∙ rest) in
      let P : List ℕ → Type 0 = λ l. AreFrames l all in
      let one = left_back all (subst P (ap (λ (v : Sent). v.text.bytes) e) spelled) back (sym a) in
      let Q : SentPayload → Type 0 = λ j. IsLeft (told number + length done) (record { begun = Some kind; rest = Some back }) (sent_view j) all in
      let R : Unsettled → Type 0 = λ u. IsLeft (told number + length done) u (sent_view b) all in
      let T : ℕ → Type 0 = λ j. IsLeft j t.unsettled (sent_view b) all in
      subst T (sym (told_here n here)) (subst R (sym (ap (λ (v : Sent). v.unsettled) e)) (subst Q b_is one))

  left_reported : AreLeft (slice_set sent number reported) more_told
  left_reported n t b all got rest spelled = elim (slice_get-split sent number n s reported t is got) [
    | inl here ↦ left_after answer refl t here.1 n here.0 b all rest spelled
    | inr there ↦ (let T : ℕ → Type 0 = λ j. IsLeft j t.unsettled (sent_view b) all in subst T (sym (told_there n there.0)) (left n t b all there.1 rest spelled))
  ]

  fresh_reported : ((n : ℕ) → length sent ≤ n → told n ≡ 0) → (n : ℕ) → length sent ≤ n → more_told n ≡ 0
  fresh_reported fresh n h =
      let within = slice_get-within sent number s is in
      told_there n (apart n number (omega (arith, within, h))) ∙ fresh n h

-- ---- a pair with a tale of each end

-- what an end was made with
abbrev pub made_at : Origin → Origin → End → Made
made_at a b A = made_in Client a
made_at a b B = made_in Server b

pub record Recounted (a b : Origin) (v : PairState) : Type 0 where
  pub tales : Tales
  pub counted : (who : End) → Counted (made_at a b who) (the_end v who).streams (tales.of who)
  pub count : tales.payloads ≡ length v.sent
  pub left : AreLeft v.sent tales.told
  pub fresh : (number : ℕ) → length v.sent ≤ number → tales.told number ≡ 0

-- and once one more step was taken
pub record Retold (a b : Origin) (old : PairState) (before : Tales) (step : Step) (reply : Answer) (new : PairState) : Type 0 where
  pub behind : Recounted a b new
  pub tells : StepTells old.sent new.sent step reply before behind.tales

-- the payloads and the tales once parts of a payload were reported
abbrev pub sents_after : List Sent → ℕ → Report → Sent → Result (Unit {0}) SentPayload → List Sent
sents_after sent number kind s answer = slice_set sent number (record s { unsettled = unsettled_after kind s.unsettled answer })

abbrev pub tales_after : Tales → ℕ → List Frame → List Part → End → (Part → Tale → Tale) → Tales
tales_after t number all done who deed = told_more number (length done) (told_of who (with_parts deed (take (length done) (drop (t.told number) (parts_in all)))) t)

module _ (a b : Origin) (old : PairState) (r : Recounted a b old) (step : Step) (reply : Answer) where
  counted_by : (who : End) (change : Tale → Tale) (f : EndState) (sents : List Sent) → Counted (made_at a b who) f.streams (change (r.tales.of who)) → (k : End) → Counted (made_at a b k) (the_end (with_sent (with_end old who f) sents) k).streams ((told_of who change r.tales).of k)
  counted_by A change f sents c A = c
  counted_by A change f sents c B = r.counted B
  counted_by B change f sents c A = r.counted A
  counted_by B change f sents c B = c

  counted_as : (who : End) (f : EndState) (sents : List Sent) → Counted (made_at a b who) f.streams (r.tales.of who) → (k : End) → Counted (made_at a b k) (the_end (with_sent (with_end old who f) sents) k).streams (r.tales.of k)
  counted_as A f sents c A = c
  counted_as A f sents c B = r.counted B
  counted_as B f sents c A = r.counted A
  counted_as B f sents c B = c

  sents_of : (who : End) (f : EndState) (sents : List Sent) → (with_sent (with_end old who f) sents).sent ≡ sents
  sents_of A f sents = refl
  sents_of B f sents = refl

  -- an end was called, and payloads are these
  retold_at : (who : End) (f : EndState) (sents : List Sent) (new : PairState) (u : Tales) → new ≡ with_sent (with_end old who f) sents → ((k : End) → Counted (made_at a b k) (the_end (with_sent (with_end old who f) sents) k).streams (u.of k)) → u.payloads ≡ length sents
      → AreLeft sents u.told → ((number : ℕ) → length sents ≤ number → u.told number ≡ 0) → StepTells old.sent sents step reply r.tales u → Retold a b old r.tales step reply new
  retold_at who f sents new u is counted count left fresh tells =
      let P : PairState → Type 0 = λ v. Retold a b old r.tales step reply v in
      let same_sents = sym (sents_of who f sents) in
      let Q : List Sent → Type 0 = λ l. u.payloads ≡ length l in
      let R : List Sent → Type 0 = λ l. AreLeft l u.told in
      let S : List Sent → Type 0 = λ l. (number : ℕ) → length l ≤ number → u.told number ≡ 0 in
      let T : List Sent → Type 0 = λ l. StepTells old.sent l step reply r.tales u in
      subst P (sym is) (record { behind = record { tales = u; counted = counted; count = subst Q same_sents count; left = subst R same_sents left; fresh = subst S same_sents fresh }; tells = subst T same_sents tells })

  fresh_as : (sents : List Sent) → length sents ≡ length old.sent → (number : ℕ) → length sents ≤ number → r.tales.told number ≡ 0
  fresh_as sents size number h = r.fresh number (omega (arith, size, h))

  -- a step tells more of one end
  pub recount : (who : End) (change : Tale → Tale) (f : EndState) (sents : List Sent) (new : PairState) → new ≡ with_sent (with_end old who f) sents → AreLeft sents r.tales.told → length sents ≡ length old.sent → Counted (made_at a b who) f.streams (change (r.tales.of who))
      → StepTells old.sent sents step reply r.tales (told_of who change r.tales) → Retold a b old r.tales step reply new
  recount who change f sents new is left size c s = retold_at who f sents new (told_of who change r.tales) is (counted_by who change f sents c) (r.count ∙ sym size) left (fresh_as sents size) s

  -- one sends a payload
  pub recount-sent : (who : End) (change : Tale → Tale) (f : EndState) (payload : PayloadView) (s : Sent) (new : PairState) → IsSentBy who payload s → (these : List Frame) → AreFrames payload.bytes these → IsHandedBack payload these → new ≡ with_sent (with_end old who f) (old.sent ++ s ∷ [])
      → Counted (made_at a b who) f.streams (change (r.tales.of who)) → StepTells old.sent (old.sent ++ s ∷ []) step reply r.tales (record (told_of who change r.tales) { payloads = r.tales.payloads + 1 }) → Retold a b old r.tales step reply new
  recount-sent who change f payload s new sent_is these spelled back is c k =
      let sents = old.sent ++ s ∷ [] in
      let before = r.count in
      let longer = length-append old.sent (s ∷ []) in
      let size : r.tales.payloads + 1 ≡ length sents = omega (arith, before, longer) in
      retold_at who f sents new (record (told_of who change r.tales) { payloads = r.tales.payloads + 1 }) is (counted_by who change f sents c) size
      (left_sent old.sent r.tales.told r.left (r.fresh (length old.sent) (omega arith)) who payload s sent_is these spelled back) (λ number h. r.fresh number (omega (arith, longer, h))) k

  -- one tells nothing, though an end was called
  pub recount-as : (who : End) (f : EndState) (sents : List Sent) (new : PairState) → new ≡ with_sent (with_end old who f) sents → AreLeft sents r.tales.told → length sents ≡ length old.sent → Counted (made_at a b who) f.streams (r.tales.of who)
      → StepTells old.sent sents step reply r.tales r.tales → Retold a b old r.tales step reply new
  recount-as who f sents new is left size c s = retold_at who f sents new r.tales is (counted_as who f sents c) (r.count ∙ sym size) left (fresh_as sents size) s

  -- one changes nothing
  pub recount-same : (new : PairState) → new ≡ old → StepTells old.sent old.sent step reply r.tales r.tales → Retold a b old r.tales step reply new
  recount-same new is s = let P : PairState → Type 0 = λ v. Retold a b old r.tales step reply v in subst P (sym is) (record { behind = r; tells = s })

  same_sent : (who : End) (f : EndState) → with_end old who f ≡ with_sent (with_end old who f) old.sent
  same_sent A f = refl
  same_sent B f = refl

  -- and those of an application send no payload
  pub recount-end : (who : End) (change : Tale → Tale) (f : EndState) (new : PairState) → new ≡ with_end old who f → Counted (made_at a b who) f.streams (change (r.tales.of who))
      → StepTells old.sent old.sent step reply r.tales (told_of who change r.tales) → Retold a b old r.tales step reply new
  recount-end who change f new is c s = recount who change f old.sent new (is ∙ same_sent who f) r.left refl c s

  pub recount-called : (who : End) (f : EndState) (new : PairState) → new ≡ with_end old who f → Counted (made_at a b who) f.streams (r.tales.of who) → StepTells old.sent old.sent step reply r.tales r.tales → Retold a b old r.tales step reply new
  recount-called who f new is c s = recount-as who f old.sent new (is ∙ same_sent who f) r.left refl c s

  -- parts of a payload were reported
  module _ (number : ℕ) (s : Sent) (is : slice_get old.sent number ≡ Some s) (all : List Frame) (spelled : AreFrames s.text.bytes all) (kind : Report) (x : SentPayload) (answer : Result (Unit {0}) SentPayload) (done : List Part) (k : IsDone kind s.unsettled x answer done) (deed : Part → Tale → Tale) where
    abbrev sents_behind : List Sent
    sents_behind = sents_after old.sent number kind s answer

    abbrev told_behind : Tales
    told_behind = tales_after r.tales number all done s.writer deed

    parts_behind : (a : Result (Unit {0}) SentPayload) → parts_left (unsettled_after kind s.unsettled a) ≡ length (parts_of (unreported (report_view a)))
    parts_behind (Ok done) = refl
    parts_behind (Err back) = refl

    pub tells-parts : TellsParts sents_behind number deed r.tales told_behind
    tells-parts = record {
      who = s.writer;
      all = all;
      stood = record { payload = record s { unsettled = unsettled_after kind s.unsettled answer }; is = slice_get-set_same old.sent number s _ is; writer = refl; spelled = spelled };
      count = length done;
      counts = ap (λ n. r.tales.told number + length done + n) (parts_behind answer) ∙ done-counts old.sent r.tales.told r.left number s is kind x answer done k all spelled;
      is = refl;
    }

    pub tells-all : r.tales.told number + length done ≡ length (parts_in all) → TellsAll sents_behind number deed r.tales told_behind
    unfolding tells-parts
    tells-all e = record { some = tells-parts; each = e }

    pub recount-report : (f : EndState) (new : PairState) → new ≡ with_sent (with_end old s.writer f) sents_behind → Counted (made_at a b s.writer) f.streams (with_parts deed done (r.tales.of s.writer)) → StepTells old.sent sents_behind step reply r.tales told_behind → Retold a b old r.tales step reply new
    recount-report f new new_is c tells =
        let P : List Part → Type 0 = λ l. Counted (made_at a b s.writer) f.streams (with_parts deed l (r.tales.of s.writer)) in
        let size = slice_set-length old.sent number (record s { unsettled = unsettled_after kind s.unsettled answer }) in
        retold_at s.writer f sents_behind new told_behind new_is
        (counted_by s.writer (with_parts deed (take (length done) (drop (r.tales.told number) (parts_in all)))) f sents_behind (subst P (sym (done-are old.sent r.tales.told r.left number s is kind x answer done k all spelled)) c))
        (r.count ∙ sym size) (left_reported old.sent r.tales.told r.left number s is kind x answer done k)
        (λ n h. fresh_reported old.sent r.tales.told r.left number s is kind x answer done k r.fresh n (omega (arith, size, h))) tells

-- ---- calls that tell nothing of what an end sends

abbrev pub TellsNothing : Event → Type 0
TellsNothing (Sending (GaveLimits limits (Ok x))) = ⊥
TellsNothing (Sending (OpenedOwn dir closed (Ok (Some id)))) = ⊥
TellsNothing (Sending (RaisedData limit)) = ⊥
TellsNothing (Sending (RaisedCount dir count (Ok x))) = ⊥
TellsNothing (Sending (RaisedLimit id limit (Ok x))) = ⊥
TellsNothing (Sending (StoppedOwn id code (Ok x))) = ⊥
TellsNothing (Sending (SetWindow window)) = ⊥
TellsNothing (Sending (WroteOwn id lists closed (Ok written))) = ⊥
TellsNothing (Sending (FinishedOwn id (Ok x))) = ⊥
TellsNothing (Sending (ResetOwn id code (Ok x))) = ⊥
TellsNothing (Sending (AckedOwn id offsets fin (Ok x))) = ⊥
TellsNothing (Sending (LostOwn id offsets fin (Ok x))) = ⊥
TellsNothing (Sending (ResetAckedOwn id (Ok x))) = ⊥
TellsNothing (Sending (TookTurn most fair (Some frame))) = ⊥
TellsNothing Rejected = ⊥
TellsNothing (SentAgain answer) = ⊥
TellsNothing _ = Unit {0}

pub untold : (e : Event) → TellsNothing e → IsUntold e
untold (Sending (GaveLimits limits (Ok x))) k = absurd k
untold (Sending (OpenedOwn dir closed (Ok (Some id)))) k = absurd k
untold (Sending (RaisedData limit)) k = absurd k
untold (Sending (RaisedCount dir count (Ok x))) k = absurd k
untold (Sending (RaisedLimit id limit (Ok x))) k = absurd k
untold (Sending (StoppedOwn id code (Ok x))) k = absurd k
untold (Sending (SetWindow window)) k = absurd k
untold (Sending (WroteOwn id lists closed (Ok written))) k = absurd k
untold (Sending (FinishedOwn id (Ok x))) k = absurd k
untold (Sending (ResetOwn id code (Ok x))) k = absurd k
untold (Sending (AckedOwn id offsets fin (Ok x))) k = absurd k
untold (Sending (LostOwn id offsets fin (Ok x))) k = absurd k
untold (Sending (ResetAckedOwn id (Ok x))) k = absurd k
untold (Sending (TookTurn most fair (Some frame))) k = absurd k
untold Rejected k = absurd k
untold (SentAgain answer) k = absurd k
untold _ k = record { move = refl; limits = refl; joint = refl; taken = refl; limit = refl; window = refl; opens = λ d. refl; counts = λ d. refl }
