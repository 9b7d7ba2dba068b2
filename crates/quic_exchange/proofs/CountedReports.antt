-- What reports of payloads tell of what an end sends.
use Rattle.std.proofs.Common.{◌≡◌, ℕ, true, List, [], ◌∷◌, ◌++◌, length, Some, Result, Ok, Err, refl, sym, ap, ◌∙◌, subst, inl, inr, arith}
use Rattle.std.specs.Prelude.{slice_get, map, ◌+◌, is_ok}
use Rattle.std.proofs.lemmas.List.{append-nil, append_assoc, map-append}
use Rattle.quic_wire.specs.declared.frame.Frame.{Frame}
use Rattle.quic_wire.specs.declared.frame.Frame.TheVariants as frames
use Rattle.quic_wire.specs.declared.frame.StreamMeta.{StreamMeta}
use Rattle.quic_wire.specs.declared.frame.ResetStream.{ResetStream}
use Rattle.quic_wire.specs.declared.frame.Stream.{Stream}
use Rattle.quic_wire.specs.Frames.{AreFrames}
use Rattle.quic_wire.proofs.Joins.{same}
use Rattle.quic_retransmits.specs.Pending.{thin_view}
use Rattle.quic_flows.specs.Flow.{SendMove, WasAcked, WasLost, WasResetAcked}
use Rattle.quic_history.specs.World.{World, Made}
use Rattle.quic_history.specs.Flows.{has_side_in}
use Rattle.quic_history.specs.SendEvents.{AckedOwn, LostOwn, ResetAckedOwn}
use Rattle.quic_history.specs.History.{Event, Step, Fits, Sending}
use Rattle.quic_streams.specs.declared.settling.SentPayload.{SentPayload}
use Rattle.quic_streams.specs.Sent.{sent_view, report_view}
use Rattle.quic_streams.specs.Settling.{SentView, EachInOrder, AcksMeta, LosesMeta, AcksResetOf, AcksWhole, resets_of}
use Rattle.quic_link.specs.Endpoints.{LinkedEnd, IsOneOf}
use Rattle.quic_link.proofs.Joint.{agrees}
use Rattle.quic_endpoint.specs.Ends.{EndState}
use Rattle.quic_endpoint.specs.Reports.{LosesPayloadAt, AcksPayloadAt}
use Rattle.quic_exchange.proofs.Origins.{Origin}
use Rattle.quic_steps.specs.declared.steps.End.{End}
use Rattle.quic_steps.specs.declared.steps.Step.{Step as PairStep}
use Rattle.quic_steps.specs.declared.steps.Step.TheVariants as steps
use Rattle.quic_steps.specs.declared.steps.Reply.TheVariants.{Done}
use Rattle.quic_steps.specs.declared.steps.PairError.TheVariants.{NoSuchPayload, NotAccepted, AlreadySettled, OutOfMemory as NoMemory}
use Rattle.quic_exchange.specs.Sent.{Sent, Unsettled}
use Rattle.quic_exchange.specs.declared.unsettled.Report.{Report}
use Rattle.quic_exchange.specs.declared.unsettled.Report.TheVariants.{Lost, Acknowledged}
use Rattle.quic_exchange.specs.Unsettled.{may_report, goes_on}
use Rattle.quic_exchange.specs.Replies.{Answer, report_reply}
use Rattle.quic_exchange.specs.State.{PairState, the_end, with_end, with_sent}
use Rattle.quic_exchange.specs.Steps.{Reports, SettlesPayload}
use Rattle.quic_exchange.specs.History.{Past}
use Rattle.quic_exchange.specs.Tale.{Tale, Part, Carried, GivenUp, StepTells, parts_in, parts_of, with_parts, acked_part, lost_part, with_deed}
use Rattle.quic_exchange.proofs.Lists.{one-of-first}
use Rattle.quic_exchange.proofs.Joined.{Seen, Joined}
use Rattle.quic_exchange.proofs.Flips.{seen-as}
use Rattle.quic_exchange.proofs.Left.{metas-among, resets-among}
use Rattle.quic_exchange.proofs.CallsSetting.{told-streams}
use Rattle.quic_exchange.proofs.OpenSides.{side-sends}
use Rattle.quic_exchange.proofs.Counted.{Counted, CountedBy, IsDeed, counted-by, by-counted, by-deed, by-at, sides_told, sides-known, sides-stay}
use Rattle.quic_exchange.proofs.Recounted.{Recounted, Retold, IsDone, made_at, sents_after, tales_after, recount-same, recount-report, tells-parts, tells-all, done-counts}

-- ---- reports of one frame after another

-- an end came from more calls, which tell this
record RowCounted (m : Made) (h : List Event) (v : World) (t : Tale) : Type 0 where
  pub calls : List Event
  pub by : CountedBy m calls v t
  pub sides : (id : ℕ) → sides_told m h id ≡ true → sides_told m calls id ≡ true

parts_joined : (deed : Part → Tale → Tale) (xs ys : List Part) (t : Tale) → with_parts deed (xs ++ ys) t ≡ with_parts deed ys (with_parts deed xs t)
parts_joined deed [] ys t = refl
parts_joined deed (x ∷ xs) ys t = parts_joined deed xs ys (deed x t)

module _ {T : Type 0} (Each : World → T → World → Type 0) (event : T → Event) (id_of : T → ℕ) (move : T → SendMove) (part : T → Part) (deed : Part → Tale → Tale)
    (is_deed : (x : T) → IsDeed (event x) (id_of x) (move x) 0) (fits : (h : List Event) (x : T) → Fits h (event x)) (steps_so : (u v : World) (x : T) → Each u x v → Step u (event x) v) (told : (x : T) (t : Tale) → deed (part x) t ≡ with_deed (id_of x) (move x) t) where
  row_counted : (m : Made) (xs : List T) (h : List Event) (w v : World) (t : Tale) → CountedBy m h w t → ((x : T) → IsOneOf x xs → sides_told m h (id_of x) ≡ true) → EachInOrder Each w xs v → RowCounted m h v (with_parts deed (map part xs) t)
  row_counted m [] h w v t c there k = record { calls = h; by = by-at v k c; sides = λ id s. s }
  row_counted m (x ∷ xs) h w v t c there k =
      let e = event x in
      let d = is_deed x in
      let one = by-deed m h w k.0 t e (id_of x) (move x) d (fits h x) (there x (inl refl)) c (steps_so w k.0 x k.1) in
      let rest = row_counted m xs (e ∷ h) k.0 v (with_deed (id_of x) (move x) t) one (λ j l. sides-stay m h e (id_of j) d.joint (there j (inr l))) k.2 in
      let P : Tale → Type 0 = λ u. CountedBy m rest.calls v (with_parts deed (map part xs) u) in
      record { calls = rest.calls; by = subst P (sym (told x t)) rest.by; sides = λ q l. rest.sides q (sides-stay m h e q d.joint l) }

-- as the three kinds of reports
acks_counted : (m : Made) (xs : List StreamMeta) (h : List Event) (w v : World) (t : Tale) → CountedBy m h w t → ((x : StreamMeta) → IsOneOf x xs → sides_told m h x.id ≡ true) → EachInOrder AcksMeta w xs v → RowCounted m h v (with_parts acked_part (map Carried xs) t)
acks_counted = row_counted AcksMeta (λ (x : StreamMeta). Sending (AckedOwn x.id x.offsets x.fin (Ok tt))) (λ (x : StreamMeta). x.id) (λ (x : StreamMeta). WasAcked x.offsets.start x.offsets.end x.fin) Carried acked_part
    (λ x. record { move_is = refl; limits = refl; joint = refl; taken = refl; limit = refl; window = refl; opens = λ d. refl; counts = λ d. refl }) (λ h x. tt) (λ u v x k. k) (λ x t. refl)

losses_counted : (m : Made) (xs : List StreamMeta) (h : List Event) (w v : World) (t : Tale) → CountedBy m h w t → ((x : StreamMeta) → IsOneOf x xs → sides_told m h x.id ≡ true) → EachInOrder LosesMeta w xs v → RowCounted m h v (with_parts lost_part (map Carried xs) t)
losses_counted = row_counted LosesMeta (λ (x : StreamMeta). Sending (LostOwn x.id x.offsets x.fin (Ok tt))) (λ (x : StreamMeta). x.id) (λ (x : StreamMeta). WasLost x.offsets.start x.offsets.end x.fin) Carried lost_part
    (λ x. record { move_is = refl; limits = refl; joint = refl; taken = refl; limit = refl; window = refl; opens = λ d. refl; counts = λ d. refl }) (λ h x. tt) (λ u v x k. k) (λ x t. refl)

resets_counted : (m : Made) (xs : List (ℕ × ℕ)) (h : List Event) (w v : World) (t : Tale) → CountedBy m h w t → ((x : ℕ × ℕ) → IsOneOf x xs → sides_told m h x.0 ≡ true) → EachInOrder AcksResetOf w xs v → RowCounted m h v (with_parts acked_part (map (λ (x : ℕ × ℕ). GivenUp x.0) xs) t)
resets_counted = row_counted AcksResetOf (λ (x : ℕ × ℕ). Sending (ResetAckedOwn x.0 (Ok tt))) (λ (x : ℕ × ℕ). x.0) (λ (x : ℕ × ℕ). WasResetAcked) (λ (x : ℕ × ℕ). GivenUp x.0) acked_part
    (λ x. record { move_is = refl; limits = refl; joint = refl; taken = refl; limit = refl; window = refl; opens = λ d. refl; counts = λ d. refl }) (λ h x. tt) (λ u v x k. k) (λ x t. refl)

-- that a stream was given up is told anew, and changes nothing here
given_lost : (xs : List (ℕ × ℕ)) (t : Tale) → with_parts lost_part (map (λ (x : ℕ × ℕ). GivenUp x.0) xs) t ≡ t
given_lost [] t = refl
given_lost (x ∷ xs) t = given_lost xs t

-- ---- a report of a payload

abbrev given_parts : List (ℕ × ℕ) → List Part
given_parts xs = map (λ (x : ℕ × ℕ). GivenUp x.0) xs

-- the parts of what was unreported, of which the first STREAM frames were reported
frames_done : (r back : SentView) (told behind : List StreamMeta) → r.streams ≡ told ++ behind → back ≡ record r { streams = behind } → parts_of r ≡ map Carried told ++ parts_of back
frames_done r back told behind e b =
    ap (λ l. map Carried l ++ given_parts (resets_of r.control)) e ∙ ap (λ l. l ++ given_parts (resets_of r.control)) (map-append Carried told behind) ∙ append_assoc (map Carried told) (map Carried behind) (given_parts (resets_of r.control))
    ∙ ap (λ (v : SentView). map Carried told ++ parts_of v) (sym b)

-- what a report of a payload tells
record ReportCounted (m : Made) (deed : Part → Tale → Tale) (kind : Report) (u : Unsettled) (r : SentPayload) (answer : Result (Unit {0}) SentPayload) (v : World) (t : Tale) : Type 0 where
  pub done : List Part
  pub is_done : IsDone kind u r answer done
  pub counted : Counted m v (with_parts deed done t)

module _ (m : Made) (e f : EndState) (u : Unsettled) (r : SentPayload) (rest_is : u.rest ≡ Some r) (t : Tale) (c : Counted m e.streams t) (metas : (x : StreamMeta) → IsOneOf x r.streams.items → sides_told m c.calls x.id ≡ true) where
  loss_counted : goes_on Lost u.begun ≡ true → (answer : Result (Unit {0}) SentPayload) → LosesPayloadAt e (sent_view r) (report_view answer) f → ReportCounted m lost_part Lost u r answer f.streams t
  loss_counted goes (Ok done) k =
      let row = losses_counted m r.streams.items c.calls e.streams f.streams t (by-counted c) metas k.0 in
      let P : Tale → Type 0 = λ w. Counted m f.streams w in
      record {
        done = parts_of (sent_view r);
        is_done = record { rest_is = rest_is; goes = goes; parts = sym (append-nil (parts_of (sent_view r))); control = λ lost back e. cc };
        counted = subst P (sym (parts_joined lost_part (map Carried r.streams.items) (given_parts (resets_of (thin_view r.control))) t ∙ given_lost (resets_of (thin_view r.control)) (with_parts lost_part (map Carried r.streams.items) t))) (counted-by row.by);
      }
  loss_counted goes (Err back) k = elim k.0 [
    | inl stop ↦ (
        let row = losses_counted m stop.frames.told c.calls e.streams f.streams t (by-counted c) (λ x h. metas x (told_part x r.streams.items stop.frames.told stop.frames.rest stop.frames.next stop.frames.parts h)) stop.frames.reports in
        record {
          done = map Carried stop.frames.told;
          is_done = record {
            rest_is = rest_is;
            goes = goes;
            parts = frames_done (sent_view r) (sent_view back) stop.frames.told (stop.frames.next ∷ stop.frames.rest) stop.frames.parts stop.left;
            control = λ lost b e. back_control back b r (stop.frames.next ∷ stop.frames.rest) e stop.left;
          };
          counted = counted-by row.by;
        }
        )
    | inr stop ↦ (
        let row = losses_counted m r.streams.items c.calls e.streams f.streams t (by-counted c) metas stop.frames in
        record {
          done = map Carried r.streams.items;
          is_done = record {
            rest_is = rest_is;
            goes = goes;
            parts = frames_done (sent_view r) (sent_view back) r.streams.items [] (sym (append-nil r.streams.items)) stop.left;
            control = λ lost b e. back_control back b r [] e stop.left;
          };
          counted = counted-by row.by;
        }
        )
  ]
    where
      told_part : (x : StreamMeta) (all told rest : List StreamMeta) (next : StreamMeta) → all ≡ told ++ next ∷ rest → IsOneOf x told → IsOneOf x all
      told_part x all told rest next p h = let P : List StreamMeta → Type 0 = λ l. IsOneOf x l in subst P (sym p) (one-of-first x told (next ∷ rest) h)

      back_control : (back b r : SentPayload) (streams : List StreamMeta) → ◌≡◌ {A = Result (Unit {0}) SentPayload} (Err back) (Err b) → sent_view back ≡ record (sent_view r) { streams = streams } → thin_view b.control ≡ thin_view r.control
      back_control back b r streams e l = let same_one : back ≡ b = cc in ap (λ (v : SentView). v.control) (sym (ap sent_view same_one) ∙ l)

  ack_counted : goes_on Acknowledged u.begun ≡ true → ((x : ℕ × ℕ) → IsOneOf x (resets_of (thin_view r.control)) → sides_told m c.calls x.0 ≡ true) → (answer : Result (Unit {0}) SentPayload) → AcksPayloadAt e (sent_view r) (report_view answer) f → ReportCounted m acked_part Acknowledged u r answer f.streams t
  ack_counted goes resets answer k = by_answer answer k.acks
    where
      streams_are : f.streams ≡ k.acked.streams
      streams_are = ap (λ (g : EndState). g.streams) k.is ∙ told-streams (is_ok (report_view answer)) k.acked

      here : (tale : Tale) → Counted m k.acked.streams tale → Counted m f.streams tale
      here tale d = let P : World → Type 0 = λ w. Counted m w tale in subst P (sym streams_are) d

      no_control : Acknowledged ≡ Lost → ⊥
      no_control e = cc

      told_part : {T : Type 0} (x : T) (all told rest : List T) (next : T) → all ≡ told ++ next ∷ rest → IsOneOf x told → IsOneOf x all
      told_part {T} x all told rest next p h = let P : List T → Type 0 = λ l. IsOneOf x l in subst P (sym p) (one-of-first x told (next ∷ rest) h)

      -- STREAM frames and then some resets
      both_rows : (between v : World) (some : List (ℕ × ℕ)) → EachInOrder AcksMeta e.streams r.streams.items between → ((x : ℕ × ℕ) → IsOneOf x some → sides_told m c.calls x.0 ≡ true) → EachInOrder AcksResetOf between some v → Counted m v (with_parts acked_part (map Carried r.streams.items ++ given_parts some) t)
      both_rows between v some frames_told sides resets_told =
          let row = acks_counted m r.streams.items c.calls e.streams between t (by-counted c) metas frames_told in
          let last = resets_counted m some row.calls between v (with_parts acked_part (map Carried r.streams.items) t) row.by (λ x h. row.sides x.0 (sides x h)) resets_told in
          let P : Tale → Type 0 = λ w. Counted m v w in
          subst P (sym (parts_joined acked_part (map Carried r.streams.items) (given_parts some) t)) (counted-by last.by)

      by_answer : (a : Result (Unit {0}) SentPayload) → AcksWhole e.streams (sent_view r) (report_view a) k.acked.streams → ReportCounted m acked_part Acknowledged u r a f.streams t
      by_answer (Ok done) w = record {
        done = parts_of (sent_view r);
        is_done = record { rest_is = rest_is; goes = goes; parts = sym (append-nil (parts_of (sent_view r))); control = λ lost back e. absurd (no_control lost) };
        counted = here _ (both_rows w.0 k.acked.streams (resets_of (thin_view r.control)) w.1 resets w.2);
      }
      by_answer (Err back) w = elim w [
        | inl stop ↦ (
            let row = acks_counted m stop.frames.told c.calls e.streams k.acked.streams t (by-counted c) (λ x h. metas x (told_part x r.streams.items stop.frames.told stop.frames.rest stop.frames.next stop.frames.parts h)) stop.frames.reports in
            record {
              done = map Carried stop.frames.told;
              is_done = record { rest_is = rest_is; goes = goes; parts = frames_done (sent_view r) (sent_view back) stop.frames.told (stop.frames.next ∷ stop.frames.rest) stop.frames.parts stop.left; control = λ lost b e. absurd (no_control lost) };
              counted = here _ (counted-by row.by);
            }
            )
        | inr stop ↦ (
            let noted_are : resets_of (thin_view r.control) ≡ stop.resets.told ++ stop.resets.next ∷ stop.resets.rest = ap resets_of stop.noted ∙ stop.resets.parts in
            let some = stop.resets.told in
            let behind = stop.resets.next ∷ stop.resets.rest in
            record {
              done = map Carried r.streams.items ++ given_parts some;
              is_done = record {
                rest_is = rest_is;
                goes = goes;
                parts = ap (λ l. map Carried r.streams.items ++ given_parts l) noted_are ∙ ap (λ l. map Carried r.streams.items ++ l) (map-append (λ (x : ℕ × ℕ). GivenUp x.0) some behind)
                    ∙ sym (append_assoc (map Carried r.streams.items) (given_parts some) (given_parts behind)) ∙ ap (λ (v : SentView). (map Carried r.streams.items ++ given_parts some) ++ parts_of v) (sym stop.left);
                control = λ lost b e. absurd (no_control lost);
              };
              counted = here _ (both_rows stop.between k.acked.streams some stop.frames (λ x h. resets x (told_part x (resets_of (thin_view r.control)) some stop.resets.rest stop.resets.next noted_are h)) stop.resets.reports);
            }
            )
      ]

-- ---- which streams are meant

module _ (a b : Origin) (p : Past) (old new : PairState) (j : Joined a b p old) (r : Recounted a b old) (number : ℕ) where
  abbrev after : PairStep → Answer → Type 0
  after step reply = Retold a b old r.tales step reply new

  module _ (s : Sent) (is : slice_get old.sent number ≡ Some s) (x : SentPayload) (rest_is : s.unsettled.rest ≡ Some x) (all : List Frame) (spelled : AreFrames s.text.bytes all) where
    abbrev who : End
    who = s.writer

    -- a frame of the payload is one that its writer wrote
    wrote_of : (first second : LinkedEnd) (seen : Seen p who old first second) (g : Frame) → IsOneOf g all → IsOneOf g first.wrote
    wrote_of first second seen g h =
        let i = seen.own number s is refl in
        let P : List Frame → Type 0 = λ l. IsOneOf g l in
        i.wrote g (subst P (sym (same s.text.bytes i.all all i.spelled spelled)) h)

    side_of_stream : (g : Stream) → IsOneOf (frames.Stream g) all → has_side_in (the_end old who).streams.out (the_end old who).streams.bi.max_remote g.id ≡ true
    side_of_stream g h =
        seen-as a b p old who j (has_side_in (the_end old who).streams.out (the_end old who).streams.bi.max_remote g.id ≡ true)
        (λ first second side seen.
        let k = agrees seen.linked in
        let P : World → Type 0 = λ w. has_side_in w.out w.bi.max_remote g.id ≡ true in
        subst P seen.here.world (side-sends first second k.0 k.1 g.id (k.0.ids.frames_open (frames.Stream g) (wrote_of first second seen (frames.Stream g) h))))

    side_of_reset : (g : ResetStream) → IsOneOf (frames.ResetStream g) all → has_side_in (the_end old who).streams.out (the_end old who).streams.bi.max_remote g.id ≡ true
    side_of_reset g h =
        seen-as a b p old who j (has_side_in (the_end old who).streams.out (the_end old who).streams.bi.max_remote g.id ≡ true)
        (λ first second side seen.
        let k = agrees seen.linked in
        let P : World → Type 0 = λ w. has_side_in w.out w.bi.max_remote g.id ≡ true in
        subst P seen.here.world (side-sends first second k.0 k.1 g.id (k.0.ids.frames_open (frames.ResetStream g) (wrote_of first second seen (frames.ResetStream g) h))))

    meta_sides : (m : StreamMeta) → IsOneOf m x.streams.items → sides_told (made_at a b who) (r.counted who).calls m.id ≡ true
    meta_sides m h =
        let g = metas-among old.sent r.tales.told r.left number s is x rest_is all spelled m h in
        let P : StreamMeta → Type 0 = λ k. sides_told (made_at a b who) (r.counted who).calls k.id ≡ true in
        subst P (sym g.2) (sides-known (r.counted who) g.0.id (side_of_stream g.0 g.1))

    reset_sides : (c : ℕ × ℕ) → IsOneOf c (resets_of (thin_view x.control)) → sides_told (made_at a b who) (r.counted who).calls c.0 ≡ true
    reset_sides c h =
        let g = resets-among old.sent r.tales.told r.left number s is x rest_is all spelled c.0 c.1 h in
        let P : ℕ → Type 0 = λ n. sides_told (made_at a b who) (r.counted who).calls n ≡ true in
        subst P g.1 (sides-known (r.counted who) g.0.id (side_of_reset g.0 g.2))

  goes_so : (kind : Report) (u : Unsettled) (x : SentPayload) → u.rest ≡ Some x → may_report kind u ≡ true → goes_on kind u.begun ≡ true
  goes_so kind u x e may = rw e at may

  -- ---- these steps

  spelled_of : (s : Sent) → slice_get old.sent number ≡ Some s → (T : Type 0) → ((all : List Frame) → AreFrames s.text.bytes all → T) → T
  spelled_of s is T f = seen-as a b p old s.writer j T (λ first second side seen. let i = seen.own number s is refl in f i.all i.spelled)

  each_told : (told count whole : ℕ) → told + count + 0 ≡ whole → told + count ≡ whole
  each_told told count whole e = omega arith

  lose_done : (s : Sent) (is : slice_get old.sent number ≡ Some s) (x : SentPayload) (rest_is : s.unsettled.rest ≡ Some x) (may : may_report Lost s.unsettled ≡ true) (answer : Result (Unit {0}) SentPayload) (end : EndState) → LosesPayloadAt (the_end old s.writer) (sent_view x) (report_view answer) end
      → new ≡ with_sent (with_end old s.writer end) (sents_after old.sent number Lost s answer) → after (steps.Lose number) (report_reply answer)
  lose_done s is x rest_is may answer end k e = spelled_of s is (after (steps.Lose number) (report_reply answer)) (λ all spelled.
      let m = made_at a b s.writer in
      let c = loss_counted m (the_end old s.writer) end s.unsettled x rest_is (r.tales.of s.writer) (r.counted s.writer) (meta_sides s is x rest_is all spelled) (goes_so Lost s.unsettled x rest_is may) answer k in
      recount-report a b old r (steps.Lose number) (report_reply answer) number s is all spelled Lost x answer c.done c.is_done lost_part end new e c.counted (tells all spelled answer c.done c.is_done))
    where
      tells : (all : List Frame) (spelled : AreFrames s.text.bytes all) (g : Result (Unit {0}) SentPayload) (done : List Part) (d : IsDone Lost s.unsettled x g done)
          → StepTells old.sent (sents_after old.sent number Lost s g) (steps.Lose number) (report_reply g) r.tales (tales_after r.tales number all done s.writer lost_part)
      tells all spelled (Ok u) done d =
          tells-all a b old r (steps.Lose number) (Ok Done) number s is all spelled Lost x (Ok u) done d lost_part
          (each_told (r.tales.told number) (length done) (length (parts_in all)) (done-counts old.sent r.tales.told r.left number s is Lost x (Ok u) done d all spelled))
      tells all spelled (Err back) done d = tells-parts a b old r (steps.Lose number) (Err NoMemory) number s is all spelled Lost x (Err back) done d lost_part

  ack_done : (s : Sent) (is : slice_get old.sent number ≡ Some s) (x : SentPayload) (rest_is : s.unsettled.rest ≡ Some x) (may : may_report Acknowledged s.unsettled ≡ true) (answer : Result (Unit {0}) SentPayload) (end : EndState) → AcksPayloadAt (the_end old s.writer) (sent_view x) (report_view answer) end
      → new ≡ with_sent (with_end old s.writer end) (sents_after old.sent number Acknowledged s answer) → after (steps.Ack number) (report_reply answer)
  ack_done s is x rest_is may answer end k e = spelled_of s is (after (steps.Ack number) (report_reply answer)) (λ all spelled.
      let m = made_at a b s.writer in
      let c = ack_counted m (the_end old s.writer) end s.unsettled x rest_is (r.tales.of s.writer) (r.counted s.writer) (meta_sides s is x rest_is all spelled) (goes_so Acknowledged s.unsettled x rest_is may) (reset_sides s is x rest_is all spelled) answer k in
      recount-report a b old r (steps.Ack number) (report_reply answer) number s is all spelled Acknowledged x answer c.done c.is_done acked_part end new e c.counted (tells all spelled answer c.done c.is_done))
    where
      tells : (all : List Frame) (spelled : AreFrames s.text.bytes all) (g : Result (Unit {0}) SentPayload) (done : List Part) (d : IsDone Acknowledged s.unsettled x g done)
          → StepTells old.sent (sents_after old.sent number Acknowledged s g) (steps.Ack number) (report_reply g) r.tales (tales_after r.tales number all done s.writer acked_part)
      tells all spelled (Ok u) done d =
          tells-all a b old r (steps.Ack number) (Ok Done) number s is all spelled Acknowledged x (Ok u) done d acked_part
          (each_told (r.tales.told number) (length done) (length (parts_in all)) (done-counts old.sent r.tales.told r.left number s is Acknowledged x (Ok u) done d all spelled))
      tells all spelled (Err back) done d = tells-parts a b old r (steps.Ack number) (Err NoMemory) number s is all spelled Acknowledged x (Err back) done d acked_part

  lost : (reply : Answer) → Reports Lost LosesPayloadAt old number reply new → after (steps.Lose number) reply
  lost reply k = subst (after (steps.Lose number)) (sym k.reply_is) (lose_done k.payload.sent k.payload.is k.rest k.rest_is k.may k.answer k.end k.does k.is)

  acked : (reply : Answer) → Reports Acknowledged AcksPayloadAt old number reply new → after (steps.Ack number) reply
  acked reply k = subst (after (steps.Ack number)) (sym k.reply_is) (ack_done k.payload.sent k.payload.is k.rest k.rest_is k.may k.answer k.end k.does k.is)

  pub counts-lose : (reply : Answer) → SettlesPayload Lost LosesPayloadAt old number reply new → after (steps.Lose number) reply
  counts-lose (Ok Done) k = lost (Ok Done) k
  counts-lose (Err NoMemory) k = lost (Err NoMemory) k
  counts-lose (Err NoSuchPayload) k = recount-same a b old r (steps.Lose number) (Err NoSuchPayload) new k.1 refl
  counts-lose (Err AlreadySettled) k = recount-same a b old r (steps.Lose number) (Err AlreadySettled) new k.is refl
  counts-lose (Err NotAccepted) k = recount-same a b old r (steps.Lose number) (Err NotAccepted) new k.is refl
  counts-lose _ k = absurd k

  pub counts-ack : (reply : Answer) → SettlesPayload Acknowledged AcksPayloadAt old number reply new → after (steps.Ack number) reply
  counts-ack (Ok Done) k = acked (Ok Done) k
  counts-ack (Err NoMemory) k = acked (Err NoMemory) k
  counts-ack (Err NoSuchPayload) k = recount-same a b old r (steps.Ack number) (Err NoSuchPayload) new k.1 refl
  counts-ack (Err AlreadySettled) k = recount-same a b old r (steps.Ack number) (Err AlreadySettled) new k.is refl
  counts-ack (Err NotAccepted) k = recount-same a b old r (steps.Ack number) (Err NotAccepted) new k.is refl
  counts-ack _ k = absurd k
