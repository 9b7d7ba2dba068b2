-- What steps tell of streams that their writer gave up: these stay so, and are freed by an acknowledgement of that alone.
use Rattle.std.proofs.Common.{◌≡◌, ◌⊎◌, ℕ, zero, suc, Bool, true, false, List, [], ◌∷◌, length, Option, Some, None, is_some, Ok, Err, refl, sym, ap, ◌∙◌, subst, inl, inr}
use Rattle.std.specs.Prelude.{◌==◌, ◌+◌, ◌-◌, ◌^◌, is_none, min, take, drop, if◌then◌else◌}
use Rattle.quic_sending.specs.Source.{slice_lists}
use Rattle.quic_wire.specs.declared.frame.Frame.{Frame}
use Rattle.quic_wire.specs.declared.frame.Frame.TheVariants as frames
use Rattle.quic_flows.specs.Flow.{SendFlow, SendMove, WasWritten, WasFinished, WasGivenUp, WasAskedToStop, WasPermitted, WasCarried, WasAcked, WasLost, WasResetAcked, with_send_move, takes_data, with_least_limit, with_carried, with_acked, with_lost, freed_if_whole, counts_for, front_of}
use Rattle.quic_history.proofs.Totals.{same}
use Rattle.quic_link.specs.Endpoints.{IsOneOf}
use Rattle.quic_steps.specs.declared.steps.End.{End}
use Rattle.quic_steps.specs.declared.steps.End.TheVariants.{A, B}
use Rattle.quic_steps.specs.declared.steps.Step.{Step}
use Rattle.quic_steps.specs.declared.steps.Step.TheVariants as steps
use Rattle.quic_steps.specs.declared.steps.Reply.TheVariants.{Done, DoneTransmit, Id, Wrote, WroteChunks, Payload}
use Rattle.quic_steps.specs.declared.steps.PairError.TheVariants.{OutOfMemory as NoMemory}
use Rattle.quic_exchange.specs.Sent.{Sent}
use Rattle.quic_exchange.specs.Replies.{Answer}
use Rattle.quic_exchange.specs.State.{peer}
use Rattle.quic_exchange.specs.Tale.{Tale, Tales, StepTells, SendsOne, HearsOne, TellsParts, WasPayload, Part, Carried, GivenUp, parts_in, with_parts, acked_part, lost_part, with_frames_sent, with_frame_heard, with_one_opened, with_bytes_taken, with_deed, with_window_of, told_of}
use Rattle.quic_exchange.proofs.Lists.{one-of-dropped}

-- a flow that was given up stays so, with its code, and no other is; it is freed only where that was acknowledged
pub record StaysGivenUp (acked : Type 0) (f g : SendFlow) : Type 0 where
  pub kept : (code : ℕ) → f.reset ≡ Some code → g.reset ≡ Some code
  pub back : (code : ℕ) → g.reset ≡ Some code → f.reset ≡ Some code
  pub held : is_some f.reset ≡ true → f.freed ≡ false → (g.freed ≡ false) ⊎ acked

module _ (acked : Type 0) where
  stays_as : (f g : SendFlow) → g.reset ≡ f.reset → g.freed ≡ f.freed → StaysGivenUp acked f g
  stays_as f g reset freed = record { kept = λ code e. reset ∙ e; back = λ code e. sym reset ∙ e; held = λ some e. inl (freed ∙ e) }

  pub stays_if : (b : Bool) (f g h : SendFlow) → (b ≡ true → StaysGivenUp acked f g) → (b ≡ false → StaysGivenUp acked f h) → StaysGivenUp acked f (if b then g else h)
  stays_if true f g h a c = a refl
  stays_if false f g h a c = c refl

  not_counted : (o : Option ℕ) (sent behind : ℕ) → counts_for o sent behind ≡ true → is_some o ≡ true → ⊥
  not_counted None sent behind e s = cc
  not_counted (Some code) sent behind e s = cc

  -- what may be done to it
  abbrev pub MayDo : SendMove → Type 0
  MayDo (WasGivenUp code) = ⊥
  MayDo WasResetAcked = acked
  MayDo _ = Unit {0}

  stays_move : (m : SendMove) (f : SendFlow) → MayDo m → StaysGivenUp acked f (with_send_move m f)
  stays_move (WasWritten pieces) f k = stays_as f _ refl refl
  stays_move WasFinished f k = stays_as f _ refl refl
  stays_move (WasGivenUp code) f k = absurd k
  stays_move (WasAskedToStop code) f k = stays_as f _ refl refl
  stays_move (WasPermitted limit) f k = stays_if (takes_data f.reset f.finished) f (with_least_limit (min limit (2 ^ 62 - 1)) f) f (λ e. stays_as f _ refl refl) (λ e. stays_as f f refl refl)
  stays_move (WasCarried first behind fin) f k = stays_if (is_none f.reset) f (with_carried first behind fin f) f (λ e. stays_as f _ refl refl) (λ e. stays_as f f refl refl)
  stays_move (WasAcked first behind fin) f k = stays_if (counts_for f.reset f.sent_up_to behind) f (freed_if_whole (with_acked first behind fin f)) f
      (λ e. record { kept = λ code d. d; back = λ code d. d; held = λ some d. absurd (not_counted f.reset f.sent_up_to behind e some) }) (λ e. stays_as f f refl refl)
  stays_move (WasLost first behind fin) f k = stays_if (counts_for f.reset f.sent_up_to behind) f (with_lost first behind fin f) f (λ e. stays_as f _ refl refl) (λ e. stays_as f f refl refl)
  stays_move WasResetAcked f k = record { kept = λ code d. d; back = λ code d. d; held = λ some d. inr k }

  pub stays_same : (f : SendFlow) → StaysGivenUp acked f f
  stays_same f = stays_as f f refl refl

  some_kept : (o p : Option ℕ) → ((code : ℕ) → o ≡ Some code → p ≡ Some code) → is_some o ≡ true → is_some p ≡ true
  some_kept None p k e = cc
  some_kept (Some code) p k e = ap (λ (x : Option ℕ). is_some x) (k code refl)

  stays_then : (f g h : SendFlow) → StaysGivenUp acked f g → StaysGivenUp acked g h → StaysGivenUp acked f h
  stays_then f g h a b = record {
    kept = λ code e. b.kept code (a.kept code e);
    back = λ code e. a.back code (b.back code e);
    held = λ some e. elim (a.held some e) [ inl d ↦ b.held (some_kept f.reset g.reset a.kept some) d | inr k ↦ inr k ];
  }

-- ---- tales

abbrev pub TaleStays : (ℕ → Type 0) → Tale → Tale → Type 0
TaleStays acked t u = (q : ℕ) → StaysGivenUp (acked q) (t.flow q) (u.flow q)

module _ (acked : ℕ → Type 0) where
  tale_same : (t : Tale) → TaleStays acked t t
  tale_same t q = stays_same (acked q) (t.flow q)

  tale_then : (t u v : Tale) → TaleStays acked t u → TaleStays acked u v → TaleStays acked t v
  tale_then t u v a b q = stays_then (acked q) (t.flow q) (u.flow q) (v.flow q) (a q) (b q)

  tale_deed : (id : ℕ) (m : SendMove) (t : Tale) → MayDo (acked id) m → TaleStays acked t (with_deed id m t)
  tale_deed id m t k q = stays_if (acked q) (q == id) (t.flow q) (with_send_move m (t.flow q)) (t.flow q)
      (λ e. let P : ℕ → Type 0 = λ i. MayDo (acked i) m in stays_move (acked q) m (t.flow q) (subst P (sym (same q id e)) k)) (λ e. stays_same (acked q) (t.flow q))

  tale_taken : (id count : ℕ) (lists : List (List ℕ)) (t : Tale) → TaleStays acked t (with_bytes_taken id count lists t)
  tale_taken id count lists t = tale_deed id (WasWritten (front_of count lists)) t tt

  tale_heard : (f : Frame) (t : Tale) → TaleStays acked t (with_frame_heard f t)
  tale_heard (frames.MaxData limit) t = tale_same t
  tale_heard (frames.MaxStreams dir count) t = tale_same t
  tale_heard (frames.MaxStreamData id limit) t = tale_deed id (WasPermitted limit) t tt
  tale_heard (frames.StopSending f) t = tale_deed f.id (WasAskedToStop f.error_code) t tt
  tale_heard _ t = tale_same t

  tale_frames : (fs : List Frame) (t : Tale) → TaleStays acked t (with_frames_sent fs t)
  tale_frames [] t = tale_same t
  tale_frames (frames.Stream s ∷ fs) t =
      let u = with_deed s.id (WasCarried s.offset (s.offset + length s.bytes) s.fin) t in
      tale_then t u (with_frames_sent fs u) (tale_deed s.id (WasCarried s.offset (s.offset + length s.bytes) s.fin) t tt) (tale_frames fs u)
  tale_frames (_ ∷ fs) t = tale_frames fs t

  tale_lost : (xs : List Part) (t : Tale) → TaleStays acked t (with_parts lost_part xs t)
  tale_lost [] t = tale_same t
  tale_lost (Carried m ∷ xs) t =
      let u = with_deed m.id (WasLost m.offsets.start m.offsets.end m.fin) t in
      tale_then t u (with_parts lost_part xs u) (tale_deed m.id (WasLost m.offsets.start m.offsets.end m.fin) t tt) (tale_lost xs u)
  tale_lost (GivenUp id ∷ xs) t = tale_lost xs t

  tale_acked : (xs : List Part) (t : Tale) → ((id : ℕ) → IsOneOf (GivenUp id) xs → acked id) → TaleStays acked t (with_parts acked_part xs t)
  tale_acked [] t k = tale_same t
  tale_acked (Carried m ∷ xs) t k =
      let u = with_deed m.id (WasAcked m.offsets.start m.offsets.end m.fin) t in
      tale_then t u (with_parts acked_part xs u) (tale_deed m.id (WasAcked m.offsets.start m.offsets.end m.fin) t tt) (tale_acked xs u (λ id i. k id (inr i)))
  tale_acked (GivenUp id ∷ xs) t k =
      let u = with_deed id WasResetAcked t in
      tale_then t u (with_parts acked_part xs u) (tale_deed id WasResetAcked t (k id (inl refl))) (tale_acked xs u (λ j i. k j (inr i)))

-- ---- both

abbrev pub AllStay : (End → ℕ → Type 0) → Tales → Tales → Type 0
AllStay acked t u = (end : End) → TaleStays (acked end) (t.of end) (u.of end)

one_of_taken : {X : Type 0} (x : X) (n : ℕ) (xs : List X) → IsOneOf x (take n xs) → IsOneOf x xs
one_of_taken x zero xs h = absurd h
one_of_taken x (suc n) [] h = absurd h
one_of_taken x (suc n) (y ∷ ys) (inl e) = inl e
one_of_taken x (suc n) (y ∷ ys) (inr h) = inr (one_of_taken x n ys h)

-- a report of a payload acknowledged that a stream was given up
abbrev pub WasAckedIn : List Sent → Step → End → ℕ → Type 0
WasAckedIn sent (steps.Ack number) end q = (all : List Frame) × WasPayload sent end number all × IsOneOf (GivenUp q) (parts_in all)
WasAckedIn sent _ end q = ⊥

module _ (acked : End → ℕ → Type 0) where
  all_same : (t : Tales) → AllStay acked t t
  all_same t end = tale_same (acked end) (t.of end)

  all_at : (t u v : Tales) → v ≡ u → AllStay acked t u → AllStay acked t v
  all_at t u v e g = let P : Tales → Type 0 = λ x. AllStay acked t x in subst P (sym e) g

  all_of : (who : End) (change : Tale → Tale) (t : Tales) → ((x : Tale) → TaleStays (acked who) x (change x)) → AllStay acked t (told_of who change t)
  all_of A change t g A = g (t.of A)
  all_of A change t g B = tale_same (acked B) (t.of B)
  all_of B change t g A = tale_same (acked A) (t.of A)
  all_of B change t g B = g (t.of B)

  all_as : (who : End) (change : Tale → Tale) (t u : Tales) → u ≡ told_of who change t → ((x : Tale) → TaleStays (acked who) x (change x)) → AllStay acked t u
  all_as who change t u e g = all_at t (told_of who change t) u e (all_of who change t g)

  all_heard : (sent : List Sent) (at : ℕ × ℕ) (t u : Tales) → HearsOne sent at t u → AllStay acked t u
  all_heard sent at t u h = all_as (peer h.who) (with_frame_heard h.frame) t u h.is (tale_heard (acked (peer h.who)) h.frame)

  all_sent : (sent : List Sent) (who : End) (t u : Tales) → SendsOne sent who t u → AllStay acked t u
  all_sent sent who t u s end =
      let P : Tales → Type 0 = λ x. TaleStays (acked end) (t.of end) (x.of end) in
      subst P (sym s.is) (all_of who (with_frames_sent s.all) t (tale_frames (acked who) s.all) end)

  all_parts : (new : List Sent) (number : ℕ) (deed : Part → Tale → Tale) (t u : Tales) (p : TellsParts new number deed t u) → ((x : Tale) → TaleStays (acked p.who) x (with_parts deed (take p.count (drop (t.told number) (parts_in p.all))) x)) → AllStay acked t u
  all_parts new number deed t u p g end =
      let P : Tales → Type 0 = λ x. TaleStays (acked end) (t.of end) (x.of end) in
      let xs = take p.count (drop (t.told number) (parts_in p.all)) in
      subst P (sym p.is) (all_of p.who (with_parts deed xs) t g end)

all_acked : (new : List Sent) (number : ℕ) (t u : Tales) → TellsParts new number acked_part t u → AllStay (WasAckedIn new (steps.Ack number)) t u
all_acked new number t u p = all_parts (WasAckedIn new (steps.Ack number)) new number acked_part t u p
    (λ x. tale_acked (WasAckedIn new (steps.Ack number) p.who) (take p.count (drop (t.told number) (parts_in p.all))) x
    (λ id i. (p.all, p.stood, one-of-dropped (GivenUp id) (t.told number) (parts_in p.all) (one_of_taken (GivenUp id) p.count (drop (t.told number) (parts_in p.all)) i))))

-- a step that gives no stream up
abbrev pub GivesNoneUp : Step → Answer → Type 0
GivesNoneUp (steps.Reset who id code) (Ok Done) = ⊥
GivesNoneUp step reply = Unit {0}

module _ (old new : List Sent) (t u : Tales) where
  pub all-stay : (step : Step) (reply : Answer) → GivesNoneUp step reply → StepTells old new step reply t u → AllStay (WasAckedIn new step) t u
  all-stay (steps.Open who dir) (Ok (Id id)) k e = all_as (WasAckedIn new (steps.Open who dir)) who (with_one_opened dir) t u e (λ x. tale_same (WasAckedIn new (steps.Open who dir) who) x)
  all-stay (steps.Write who id bytes) (Ok (Wrote count)) k e = all_as (WasAckedIn new (steps.Write who id bytes)) who (with_bytes_taken id count (slice_lists bytes)) t u e (tale_taken (WasAckedIn new (steps.Write who id bytes) who) id count (slice_lists bytes))
  all-stay (steps.WriteChunks who id chunks) (Ok (WroteChunks written)) k e = all_as (WasAckedIn new (steps.WriteChunks who id chunks)) who (with_bytes_taken id written.bytes chunks) t u e (tale_taken (WasAckedIn new (steps.WriteChunks who id chunks) who) id written.bytes chunks)
  all-stay (steps.Finish who id) (Ok Done) k e = all_as (WasAckedIn new (steps.Finish who id)) who (with_deed id WasFinished) t u e (λ x. tale_deed (WasAckedIn new (steps.Finish who id) who) id WasFinished x tt)
  all-stay (steps.Reset who id code) (Ok Done) k e = absurd k
  all-stay (steps.SetSendWindow who window) (Ok Done) k e = all_as (WasAckedIn new (steps.SetSendWindow who window)) who (with_window_of window) t u e (λ x. tale_same (WasAckedIn new (steps.SetSendWindow who window) who) x)
  all-stay (steps.Emit who most fair) (Ok (Payload number bytes)) k e = all_sent (WasAckedIn new (steps.Emit who most fair)) new who t u e.0
  all-stay (steps.Emit who most fair) (Err error) k e = elim e [ inl none ↦ all_at (WasAckedIn new (steps.Emit who most fair)) t t u none.1 (all_same (WasAckedIn new (steps.Emit who most fair)) t) | inr one ↦ all_sent (WasAckedIn new (steps.Emit who most fair)) new who t u one.1 ]
  all-stay (steps.EmitPart who most fair part) (Ok (Payload number bytes)) k e = all_sent (WasAckedIn new (steps.EmitPart who most fair part)) new who t u e.0
  all-stay (steps.EmitPart who most fair part) (Err error) k e = elim e [ inl none ↦ all_at (WasAckedIn new (steps.EmitPart who most fair part)) t t u none.1 (all_same (WasAckedIn new (steps.EmitPart who most fair part)) t) | inr one ↦ all_sent (WasAckedIn new (steps.EmitPart who most fair part)) new who t u one.1 ]
  all-stay (steps.Deliver number index) (Ok Done) k e = all_heard (WasAckedIn new (steps.Deliver number index)) old (number, index) t u e
  all-stay (steps.Deliver number index) (Ok DoneTransmit) k e = all_heard (WasAckedIn new (steps.Deliver number index)) old (number, index) t u e
  all-stay (steps.Lose number) (Ok Done) k e = all_parts (WasAckedIn new (steps.Lose number)) new number lost_part t u e.some (λ x. tale_lost (WasAckedIn new (steps.Lose number) (e.some).who) (take (e.some).count (drop (t.told number) (parts_in (e.some).all))) x)
  all-stay (steps.Lose number) (Err NoMemory) k e = all_parts (WasAckedIn new (steps.Lose number)) new number lost_part t u e (λ x. tale_lost (WasAckedIn new (steps.Lose number) (e).who) (take (e).count (drop (t.told number) (parts_in (e).all))) x)
  all-stay (steps.Ack number) (Ok Done) k e = all_acked new number t u e.some
  all-stay (steps.Ack number) (Err NoMemory) k e = all_acked new number t u e
  all-stay step reply k e = all_at (WasAckedIn new step) t t u e (all_same (WasAckedIn new step) t)
