-- What frames that are delivered tell of what an end sends.
use Rattle.std.proofs.Common.{◌≡◌, ℕ, Bool, true, false, List, ◌∷◌, length, Some, Result, Ok, Err, refl, sym, ap, ◌∙◌, subst, inl, inr, arith, ◌≤◌, ◌^◌}
use Rattle.std.specs.Prelude.{slice_get, max, min, if◌then◌else◌}
use Rattle.quic_values.specs.declared.ids.Dir.{Dir}
use Rattle.quic_values.specs.declared.ids.Dir.TheVariants.{Bi, Uni}
use Rattle.quic_wire.specs.declared.frame.Frame.{Frame}
use Rattle.quic_wire.specs.declared.frame.Frame.TheVariants as frames
use Rattle.quic_wire.specs.declared.error.ReceiveError.{ReceiveError}
use Rattle.quic_wire.specs.declared.error.ReceiveError.TheVariants as receive_error
use Rattle.quic_receiving.specs.declared.transmit.ShouldTransmit.{ShouldTransmit}
use Rattle.quic_flows.specs.Flow.{WasAskedToStop, WasPermitted}
use Rattle.quic_outgoing.specs.History.{given_for}
use Rattle.quic_history.specs.World.{World, Made}
use Rattle.quic_history.specs.Flows.{has_side_in}
use Rattle.quic_history.specs.SendEvents.{StoppedOwn, RaisedData, RaisedLimit, RaisedCount}
use Rattle.quic_history.specs.History.{Event, Received, ReceivedReset, Sending}
use Rattle.quic_history.proofs.Histories.{next}
use Rattle.quic_link.specs.Endpoints.{LinkedEnd, IsOneOf}
use Rattle.quic_link.proofs.Joint.{agrees}
use Rattle.quic_link.proofs.Promised.{promised}
use Rattle.quic_endpoint.specs.Ends.{EndState}
use Rattle.quic_endpoint.specs.Receiving.{ReceivesAt, MakesCall, MayAnswer, event_of, with_answer_told}
use Rattle.quic_exchange.proofs.Origins.{Origin}
use Rattle.quic_steps.specs.declared.steps.End.{End}
use Rattle.quic_steps.specs.declared.steps.Step.{Step as PairStep}
use Rattle.quic_steps.specs.declared.steps.Step.TheVariants as steps
use Rattle.quic_steps.specs.declared.steps.Reply.TheVariants.{Done, DoneTransmit}
use Rattle.quic_steps.specs.declared.steps.PairError.TheVariants.{NoSuchPayload, NoSuchFrame, OutOfMemory as NoMemory}
use Rattle.quic_exchange.specs.Sent.{Sent}
use Rattle.quic_exchange.specs.Payloads.{SentText, IsFrameAt}
use Rattle.quic_exchange.specs.Replies.{Answer, received_reply}
use Rattle.quic_exchange.specs.State.{PairState, peer, the_end, with_end, with_sent}
use Rattle.quic_exchange.specs.Steps.{SentAfter, HandsOver, Delivers}
use Rattle.quic_exchange.specs.History.{Past}
use Rattle.quic_exchange.specs.Tale.{Tale, StepTells, with_frame_heard, told_of}
use Rattle.quic_exchange.proofs.Lists.{slice_set-length}
use Rattle.quic_exchange.proofs.Joined.{Seen, Joined}
use Rattle.quic_exchange.proofs.Flips.{seen-as, peer-peer}
use Rattle.quic_exchange.proofs.Left.{AreLeft}
use Rattle.quic_exchange.proofs.Reports.{frame-wrote}
use Rattle.quic_link.proofs.Directed.{stops-both}
use Rattle.quic_exchange.proofs.OpenSides.{side-receives, side-stopped}
use Rattle.quic_exchange.proofs.Counted.{Counted, TellsSo, counted-untold, counted-deed, counted-at}
use Rattle.quic_exchange.proofs.Recounted.{Recounted, Retold, made_at, left-marked, recount, recount-as, recount-same, untold}

-- ---- calls that change one number

tells_limit : (m : Made) (h : List Event) (t : Tale) (limit : ℕ) → TellsSo m h t → TellsSo m (Sending (RaisedData limit) ∷ h) (record t { limit = max t.limit limit })
tells_limit m h t limit k = record {
  flow_is = k.flow_is;
  streams_are = k.streams_are;
  written_is = let e = k.written_is in omega arith;
  limit_is = ap (λ n. max n limit) k.limit_is;
  window_is = k.window_is;
  opened_are = λ d. let e = k.opened_are d in omega arith;
  counts_are = λ d. let e = k.counts_are d in omega arith;
}

count_within : (d dir : Dir) (count a b : ℕ) → count ≤ 2 ^ 60 → a ≡ b → max a (min (given_for dir d count) (2 ^ 60)) ≡ max b (given_for dir d count)
count_within Bi Bi count a b l e = omega arith
count_within Bi Uni count a b l e = omega arith
count_within Uni Bi count a b l e = omega arith
count_within Uni Uni count a b l e = omega arith

tells_count : (m : Made) (h : List Event) (t : Tale) (dir : Dir) (count : ℕ) → count ≤ 2 ^ 60 → TellsSo m h t → TellsSo m (Sending (RaisedCount dir count (Ok tt)) ∷ h) (record t { count = λ d. max (t.count d) (given_for dir d count) })
tells_count m h t dir count l k = record {
  flow_is = k.flow_is;
  streams_are = k.streams_are;
  written_is = let e = k.written_is in omega arith;
  limit_is = let e = k.limit_is in omega arith;
  window_is = k.window_is;
  opened_are = λ d. let e = k.opened_are d in omega arith;
  counts_are = λ d. count_within d dir count _ (t.count d) l (k.counts_are d);
}

-- ---- a frame that an end accepts

-- the stream of a frame has a sending side where the end is permitted to send more on it, or asked to send no more
abbrev HasSide : World → Frame → Type 0
HasSide w (frames.MaxStreamData id limit) = has_side_in w.out w.bi.max_remote id ≡ true
HasSide w (frames.StopSending f) = has_side_in w.out w.bi.max_remote f.id ≡ true
HasSide w _ = Unit {0}

module _ (m : Made) (t : Tale) (w v : World) (c : Counted m w t) where
  heard_ok : (frame : Frame) (transmit : ShouldTransmit) → HasSide w frame → MakesCall w (event_of frame (Ok transmit)) v → Counted m v (with_frame_heard frame t)
  heard_ok (frames.Stream f) transmit side s = counted-untold m w v t (Received f.id f.offset f.bytes f.fin (Ok transmit)) (untold (Received f.id f.offset f.bytes f.fin (Ok transmit)) tt) (λ h. tt) c s
  heard_ok (frames.ResetStream f) transmit side s =
      counted-untold m w v t (ReceivedReset f.id f.error_code f.final_offset (Ok transmit)) (untold (ReceivedReset f.id f.error_code f.final_offset (Ok transmit)) tt) (λ h. tt) c s
  heard_ok (frames.StopSending f) transmit side s =
      counted-deed m w v t (Sending (StoppedOwn f.id f.error_code (Ok tt))) f.id (WasAskedToStop f.error_code)
      (record { move_is = refl; limits = refl; joint = refl; taken = refl; limit = refl; window = refl; opens = λ d. refl; counts = λ d. refl }) (λ h. tt) side c s
  heard_ok (frames.MaxData limit) transmit side s =
      let e = Sending (RaisedData limit) in
      record { calls = e ∷ c.calls; from = next m c.calls w e v tt c.from s; plain = (refl, c.plain); tells = tells_limit m c.calls t limit c.tells }
  heard_ok (frames.MaxStreamData id limit) transmit side s =
      counted-deed m w v t (Sending (RaisedLimit id limit (Ok tt))) id (WasPermitted limit)
      (record { move_is = refl; limits = refl; joint = refl; taken = refl; limit = refl; window = refl; opens = λ d. refl; counts = λ d. refl }) (λ h. tt) side c s
  heard_ok (frames.MaxStreams dir count) transmit side s =
      let e = Sending (RaisedCount dir count (Ok tt)) in
      record { calls = e ∷ c.calls; from = next m c.calls w e v tt c.from s; plain = (refl, c.plain); tells = tells_count m c.calls t dir count s.0 c.tells }
  heard_ok frame transmit side s = counted-at v s c

  -- one that it refuses
  heard_error : (frame : Frame) (error : ReceiveError) → MayAnswer frame (Err error) → MakesCall w (event_of frame (Err error)) v → Counted m v t
  heard_error (frames.Stream f) error may s = counted-untold m w v t (Received f.id f.offset f.bytes f.fin (Err error)) (untold (Received f.id f.offset f.bytes f.fin (Err error)) tt) (λ h. tt) c s
  heard_error (frames.ResetStream f) error may s =
      counted-untold m w v t (ReceivedReset f.id f.error_code f.final_offset (Err error)) (untold (ReceivedReset f.id f.error_code f.final_offset (Err error)) tt) (λ h. tt) c s
  heard_error (frames.StopSending f) error may s =
      counted-untold m w v t (Sending (StoppedOwn f.id f.error_code (Err (record {})))) (untold (Sending (StoppedOwn f.id f.error_code (Err (record {})))) tt) (λ h. tt) c s
  heard_error (frames.MaxData limit) error may s = absurd may
  heard_error (frames.MaxStreamData id limit) error may s = counted-untold m w v t (Sending (RaisedLimit id limit (Err error))) (untold (Sending (RaisedLimit id limit (Err error))) tt) (λ h. tt) c s
  heard_error (frames.MaxStreams dir count) error may s = counted-untold m w v t (Sending (RaisedCount dir count (Err error))) (untold (Sending (RaisedCount dir count (Err error))) tt) (λ h. tt) c s
  heard_error frame error may s = counted-at v s c

-- what an answer asks for is no matter of streams
answered_streams : (answer : Result ShouldTransmit ReceiveError) (e : EndState) → (with_answer_told answer e).streams ≡ e.streams
answered_streams (Ok transmit) e = refl
answered_streams (Err (receive_error.Transport error)) e = refl
answered_streams (Err receive_error.CompactionMemory) e = refl
answered_streams (Err receive_error.OutOfMemory) e = refl

-- ---- which streams frames speak of

module _ (p : Past) (who : End) (v : PairState) (x y : LinkedEnd) (s : Seen p who v x y) where
  -- a stream has a sending side at this end
  abbrev is_sent_here : ℕ → Type 0
  is_sent_here id = has_side_in (the_end v who).streams.out (the_end v who).streams.bi.max_remote id ≡ true

  at_world : (id : ℕ) → has_side_in x.world.out x.world.bi.max_remote id ≡ true → is_sent_here id
  at_world id k = let P : World → Type 0 = λ w. has_side_in w.out w.bi.max_remote id ≡ true in subst P s.here.world k

  -- a frame of the peer
  side_heard : (frame : Frame) → IsOneOf frame y.wrote → HasSide (the_end v who).streams frame
  side_heard (frames.MaxStreamData id limit) h = let a = agrees s.linked in at_world id (side-receives x y a.0 a.1 id (a.1.ids.frames_open (frames.MaxStreamData id limit) h))
  side_heard (frames.StopSending f) h =
      let a = agrees s.linked in
      let asked = (promised s.linked).1.frames_asked (frames.StopSending f) h in
      at_world f.id (side-stopped x y a.0 a.1 f.id (stops-both s.linked).1 (a.1.ids.frames_open (frames.StopSending f) h) f.error_code asked.0)
  side_heard _ h = tt

-- ---- a delivery

module _ (a b : Origin) (p : Past) (old new : PairState) (j : Joined a b p old) (r : Recounted a b old) (number index : ℕ) where
  abbrev after : PairStep → Answer → Type 0
  after step reply = Retold a b old r.tales step reply new

  abbrev delivery : PairStep
  delivery = steps.Deliver number index

  -- a frame of a payload speaks of streams that its receiver knows
  side_at : (s : Sent) → slice_get old.sent number ≡ Some s → (frame : Frame) → IsFrameAt s.text.bytes index frame → HasSide (the_end old (peer s.writer)).streams frame
  side_at s is frame at =
      seen-as a b p old (peer s.writer) j (HasSide (the_end old (peer s.writer)).streams frame)
      (λ x y side seen. let i = seen.others number s is (sym (peer-peer s.writer)) in side_heard p (peer s.writer) old x y seen frame (frame-wrote y x s i index frame at))

  stays : (s : Sent) → slice_get old.sent number ≡ Some s → (answer : Result ShouldTransmit ReceiveError) → SentAfter old.sent number s index answer new.sent → AreLeft new.sent r.tales.told
  stays s is (Ok transmit) m =
      let P : List Sent → Type 0 = λ l. AreLeft l r.tales.told in
      subst P (sym m.2) (left-marked old.sent r.tales.told r.left number s is m.0 (ap (λ (u : SentText). u.bytes) (m.1).same))
  stays s is (Err error) m = let P : List Sent → Type 0 = λ l. AreLeft l r.tales.told in subst P (sym m) r.left

  sizes : (s : Sent) (answer : Result ShouldTransmit ReceiveError) → SentAfter old.sent number s index answer new.sent → length new.sent ≡ length old.sent
  sizes s (Ok transmit) m = ap length m.2 ∙ slice_set-length old.sent number (record s { text = m.0 })
  sizes s (Err error) m = ap length m

  -- what was accepted was sent
  hears_reply : (s : Sent) → slice_get old.sent number ≡ Some s → (frame : Frame) → IsFrameAt s.text.bytes index frame → (sents : List Sent) (due : Bool) → StepTells old.sent sents delivery (Ok (if due then DoneTransmit else Done)) r.tales (told_of (peer s.writer) (with_frame_heard frame) r.tales)
  hears_reply s is frame at sents true = record { who = s.writer; frame = frame; stood = record { payload = s; is = is; writer = refl; frame_is = at }; is = refl }
  hears_reply s is frame at sents false = record { who = s.writer; frame = frame; stood = record { payload = s; is = is; writer = refl; frame_is = at }; is = refl }

  deliver_any : (s : Sent) → slice_get old.sent number ≡ Some s → (frame : Frame) → IsFrameAt s.text.bytes index frame → (answer : Result ShouldTransmit ReceiveError) (end : EndState) → ReceivesAt (the_end old (peer s.writer)) frame answer end
      → SentAfter old.sent number s index answer new.sent → new ≡ with_sent (with_end old (peer s.writer) end) new.sent → after delivery (received_reply answer)
  deliver_any s is frame at answer end k sent e = by_answer answer k sent
    where
      who : End
      who = peer s.writer

      at_end : (k : ReceivesAt (the_end old who) frame answer end) (t : Tale) → Counted (made_at a b who) k.taken.streams t → Counted (made_at a b who) end.streams t
      at_end k t c = counted-at end.streams (ap (λ (g : EndState). g.streams) k.is ∙ answered_streams answer k.taken) c

      refused : (error : ReceiveError) (g : EndState) (k : ReceivesAt (the_end old who) frame (Err error) g) → Counted (made_at a b who) g.streams (r.tales.of who)
      refused error g k = counted-at g.streams (ap (λ (f : EndState). f.streams) k.is ∙ answered_streams (Err error) k.taken)
          (heard_error (made_at a b who) (r.tales.of who) (the_end old who).streams k.taken.streams (r.counted who) frame error k.may k.call)

      accepted : (transmit : ShouldTransmit) (g : EndState) (k : ReceivesAt (the_end old who) frame (Ok transmit) g) → Counted (made_at a b who) g.streams (with_frame_heard frame (r.tales.of who))
      accepted transmit g k = counted-at g.streams (ap (λ (f : EndState). f.streams) k.is ∙ answered_streams (Ok transmit) k.taken)
          (heard_ok (made_at a b who) (r.tales.of who) (the_end old who).streams k.taken.streams (r.counted who) frame transmit (side_at s is frame at) k.call)

      by_answer : (answer : Result ShouldTransmit ReceiveError) → ReceivesAt (the_end old who) frame answer end → SentAfter old.sent number s index answer new.sent → after delivery (received_reply answer)
      by_answer (Ok transmit) k m = let stay = stays s is (Ok transmit) m in recount a b old r delivery _ who (with_frame_heard frame) end new.sent new e stay (sizes s (Ok transmit) m) (accepted transmit end k) (hears_reply s is frame at new.sent transmit.0)
      by_answer (Err (receive_error.Transport error)) k m = recount-as a b old r delivery _ who end new.sent new e (stays s is (Err (receive_error.Transport error)) m) (sizes s (Err (receive_error.Transport error)) m) (refused (receive_error.Transport error) end k) refl
      by_answer (Err receive_error.CompactionMemory) k m = recount-as a b old r delivery _ who end new.sent new e (stays s is (Err receive_error.CompactionMemory) m) (sizes s (Err receive_error.CompactionMemory) m) (refused receive_error.CompactionMemory end k) refl
      by_answer (Err receive_error.OutOfMemory) k m = recount-as a b old r delivery _ who end new.sent new e (stays s is (Err receive_error.OutOfMemory) m) (sizes s (Err receive_error.OutOfMemory) m) (refused receive_error.OutOfMemory end k) refl

  handed : (reply : Answer) → HandsOver old number index reply new → after delivery reply
  handed reply k = subst (after delivery) (sym k.reply_is) (deliver_any k.payload.sent k.payload.is k.frame k.at k.answer k.end k.receives k.sent k.is)

  pub counts-deliver : (reply : Answer) → Delivers old number index reply new → after delivery reply
  counts-deliver (Err NoSuchPayload) k = recount-same a b old r delivery (Err NoSuchPayload) new k.1 refl
  counts-deliver (Err NoSuchFrame) k = recount-same a b old r delivery (Err NoSuchFrame) new k.is refl
  counts-deliver (Err NoMemory) k = elim k [ inl w ↦ recount-same a b old r delivery (Err NoMemory) new w.1 refl | inr t ↦ handed (Err NoMemory) t ]
  counts-deliver reply k = handed reply k
