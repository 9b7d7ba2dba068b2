-- No delivery is refused but for too many pieces.
use Rattle.std.proofs.Common.{◌≡◌, ℕ, Bool, true, false, Some, Result, Ok, Err, refl, sym, ap, ◌∙◌, subst, arith}
use Rattle.std.specs.Prelude.{slice_get, if◌then◌else◌}
use Rattle.quic_wire.specs.declared.frame.Frame.{Frame}
use Rattle.quic_wire.specs.declared.frame.Frame.TheVariants as frames
use Rattle.quic_wire.specs.declared.frame.Stream.{Stream}
use Rattle.quic_wire.specs.declared.error.TransportError.{TransportError}
use Rattle.quic_wire.specs.declared.error.ReceiveError.{ReceiveError}
use Rattle.quic_wire.specs.declared.error.ReceiveError.TheVariants as receive_error
use Rattle.quic_receiving.specs.declared.transmit.ShouldTransmit.{ShouldTransmit}
use Rattle.quic_history.specs.World.{World}
use Rattle.quic_history.specs.SendEvents.{RaisedLimit, RaisedCount}
use Rattle.quic_history.specs.History.{Event, Received, ReceivedReset, Sending, Fits, Step as StepOf}
use Rattle.quic_link.specs.Endpoints.{LinkedEnd, MayAct, IsHonest, IsOneOf}
use Rattle.quic_link.specs.Promises.{IsCrowded, IsWelcome, AreWelcome, IsUnrefused as IsUnrefusedCall}
use Rattle.quic_link.proofs.Promised.{promised}
use Rattle.quic_endpoint.specs.Ends.{EndState}
use Rattle.quic_endpoint.specs.Receiving.{MakesCall, MayAnswer, event_of, with_answer_told}
use Rattle.quic_steps.specs.declared.steps.End.{End}
use Rattle.quic_steps.specs.declared.steps.End.TheVariants.{A, B}
use Rattle.quic_exchange.proofs.Origins.{Origin}
use Rattle.quic_steps.specs.declared.steps.Step.{Step}
use Rattle.quic_steps.specs.declared.steps.Step.TheVariants as steps
use Rattle.quic_steps.specs.declared.steps.Reply.TheVariants.{Done, DoneTransmit}
use Rattle.quic_exchange.specs.Sent.{Sent}
use Rattle.quic_exchange.specs.Payloads.{IsFrameAt}
use Rattle.quic_exchange.specs.Replies.{Answer, received_reply}
use Rattle.quic_exchange.specs.State.{PairState, peer, the_end, with_end, with_sent}
use Rattle.quic_exchange.specs.Steps.{NextOrdinary, Delivers, HandsOver}
use Rattle.quic_exchange.specs.History.{Past, FramePlace, History, past_of}
use Rattle.quic_exchange.specs.Unrefused.{BringsData, BringsTooMany, AnswersDelivery, RefusesNoFrame, IsWelcomePayload}
use Rattle.quic_exchange.proofs.Eras.{EraFrom}
use Rattle.quic_exchange.proofs.Joined.{Stands, IsPayloadOf, Seen, Joined}
use Rattle.quic_exchange.proofs.KeptFrames.{kept_in, count-kept}
use Rattle.quic_exchange.proofs.Flips.{peer-peer, seen-as}
use Rattle.quic_exchange.proofs.CallsSeen.{step-at}
use Rattle.quic_exchange.proofs.Reports.{frame-wrote}
use Rattle.quic_exchange.proofs.Grown.{joined-from}

true_false : (b : Bool) → b ≡ true → b ≡ false → ⊥
true_false b e k = let l = sym e ∙ k in cc

-- a frame of the other end is handed to the end x of a pair
module _ (p : Past) (who : End) (v after : PairState) (x y : LinkedEnd) (s : Seen p who v x y) (at : FramePlace) (payload : Sent) (is : slice_get v.sent at.0 ≡ Some payload) (w : payload.writer ≡ peer who) (u : World) where
  -- which the other wrote
  wrote : (g : Frame) → IsFrameAt payload.text.bytes at.1 g → IsOneOf g y.wrote
  wrote g there = frame-wrote y x payload (s.others at.0 payload is w) at.1 g there

  -- a STREAM frame
  module _ (g : Stream) (there : IsFrameAt payload.text.bytes at.1 (frames.Stream g)) (error : TransportError) where
    abbrev refused : Event
    refused = Received g.id g.offset g.bytes g.fin (Err (receive_error.Transport error))

    too_many : u ≡ (the_end after (peer (peer who))).streams → StepOf (the_end v who).streams refused u → BringsTooMany p v.sent at error after
    too_many behind step =
        let may : MayAct x y refused u = record { fits = tt; honest = wrote (frames.Stream g) there; step = step-at x.world (the_end v who).streams u refused s.here.world step } in
        let all = promised s.linked in
        let no = all.1.unrefused refused u may in
        let P : World → Type 0 = λ k. IsCrowded k g.id in
        record {
          code = no.0;
          held = subst P behind no.1;
          writer = peer who;
          stream = g;
          sent_as = record { payload = payload; is = is; writer = w; frame = there };
          kept = kept_in x.calls g.id;
          are_kept = s.kept_here.streams g.id;
          many = λ n.
              let m = all.0.answers refused u may (λ h. true_false _ (s.receives.unordered g.id h) n) in
              let c = count-kept x.calls g.id in
              omega (arith, m, c);
        }

  -- another is not refused so
  call_unrefused : (e : Event) → IsHonest x y e → Fits x.calls e → StepOf (the_end v who).streams e u → IsUnrefusedCall e u
  call_unrefused e honest fits step = (promised s.linked).1.unrefused e u (record { fits = fits; honest = honest; step = step-at x.world (the_end v who).streams u e s.here.world step })

  refused_so : (frame : Frame) → IsFrameAt payload.text.bytes at.1 frame → (error : TransportError) → u ≡ (the_end after (peer (peer who))).streams → MayAnswer frame (Err (receive_error.Transport error))
      → MakesCall (the_end v who).streams (event_of frame (Err (receive_error.Transport error))) u → BringsTooMany p v.sent at error after
  refused_so (frames.Stream g) there error behind may call = too_many g there error behind call
  refused_so (frames.ResetStream g) there error behind may call =
      absurd (call_unrefused (ReceivedReset g.id g.error_code g.final_offset (Err (receive_error.Transport error))) (wrote (frames.ResetStream g) there) tt call)
  refused_so (frames.StopSending g) there error behind may call = cc
  refused_so (frames.MaxStreamData id limit) there error behind may call =
      absurd (call_unrefused (Sending (RaisedLimit id limit (Err (receive_error.Transport error)))) (wrote (frames.MaxStreamData id limit) there) tt call)
  refused_so (frames.MaxStreams dir count) there error behind may call =
      absurd (call_unrefused (Sending (RaisedCount dir count (Err (receive_error.Transport error)))) (wrote (frames.MaxStreams dir count) there) tt call)
  refused_so _ there error behind may call = absurd may

  -- memory to compact is wanted for data alone
  compacts_so : (frame : Frame) → IsFrameAt payload.text.bytes at.1 frame → MayAnswer frame (Err receive_error.CompactionMemory) → MakesCall (the_end v who).streams (event_of frame (Err receive_error.CompactionMemory)) u → BringsData v.sent at
  compacts_so (frames.Stream g) there may call = (peer who, g, record { payload = payload; is = is; writer = w; frame = there })
  compacts_so (frames.ResetStream g) there may call = absurd call
  compacts_so (frames.StopSending g) there may call = cc
  compacts_so (frames.MaxStreamData id limit) there may call = absurd call
  compacts_so (frames.MaxStreams dir count) there may call = absurd call
  compacts_so _ there may call = absurd may

  taken_done : (due : Bool) → AnswersDelivery p v.sent at (Ok (if due then DoneTransmit else Done)) after
  taken_done true = tt
  taken_done false = tt

  taken : (frame : Frame) → IsFrameAt payload.text.bytes at.1 frame → (answer : Result ShouldTransmit ReceiveError) → (e : EndState) → e.streams ≡ u → the_end after (peer (peer who)) ≡ with_answer_told answer e → MayAnswer frame answer
      → MakesCall (the_end v who).streams (event_of frame answer) u → AnswersDelivery p v.sent at (received_reply answer) after
  taken frame there (Ok transmit) e is_u behind may call = taken_done transmit.0
  taken frame there (Err (receive_error.Transport error)) e is_u behind may call = refused_so frame there error (sym (ap (λ (k : EndState). k.streams) behind ∙ is_u)) may call
  taken frame there (Err receive_error.CompactionMemory) e is_u behind may call = compacts_so frame there may call
  taken frame there (Err receive_error.OutOfMemory) e is_u behind may call = tt

module _ (a b : Origin) (p : Past) (old new : PairState) (j : Joined a b p old) where
  -- the end that a frame was handed to, behind that
  end_is : (q : End) (e : EndState) → new ≡ with_sent (with_end old q e) new.sent → the_end new q ≡ e
  end_is A e is = ap (λ (v : PairState). v.a) is
  end_is B e is = ap (λ (v : PairState). v.b) is

  handed : (number index : ℕ) (reply : Answer) → HandsOver old number index reply new → AnswersDelivery p old.sent (number, index) reply new
  handed number index reply k =
      let who = peer k.payload.sent.writer in
      let w = sym (peer-peer k.payload.sent.writer) in
      let P : Answer → Type 0 = λ r. AnswersDelivery p old.sent (number, index) r new in
      let r = k.receives in
      let behind = ap (λ q. the_end new q) (peer-peer who) ∙ end_is who k.end k.is ∙ r.is in
      subst P (sym k.reply_is)
      (seen-as a b p old who j (AnswersDelivery p old.sent (number, index) (received_reply k.answer) new)
      (λ x y side s. taken p who old new x y s (number, index) k.payload.sent k.payload.is w r.taken.streams k.frame k.at k.answer r.taken refl behind r.may r.call))

  delivered : (number index : ℕ) (reply : Answer) → Delivers old number index reply new → AnswersDelivery p old.sent (number, index) reply new
  delivered number index (Ok reply) k = handed number index (Ok reply) k
  delivered number index (Err error) k = tt

  unrefused_next : (step : Step) (reply : Answer) → NextOrdinary old step reply new → RefusesNoFrame p old.sent step reply new
  unrefused_next (steps.Deliver number index) reply n = delivered number index reply n
  unrefused_next _ reply n = tt

-- whatever the network did, no delivery is
pub unrefused-so : (a b : Origin) (h : History) (old new : PairState) (step : Step) (reply : Answer) → EraFrom a b h old → NextOrdinary old step reply new → RefusesNoFrame (past_of h) old.sent step reply new
unrefused-so a b h old new step reply f n = unrefused_next a b (past_of h) old new (joined-from f) step reply n

-- ---- every frame is welcome

welcome_at : (v : PairState) (s : Sent) (who : End) (x y : LinkedEnd) → s.writer ≡ who → AreWelcome x y → IsPayloadOf x y s → Stands y (the_end v (peer who)) → IsWelcomePayload v s
welcome_at v s who x y e all of there = record {
  all = of.all;
  spelled = of.spelled;
  welcome = λ g listed.
      let P : World → Type 0 = λ w. IsWelcome w g in
      let Q : End → Type 0 = λ k. IsWelcome (the_end v (peer k)).streams g in
      subst Q (sym e) (subst P there.world (all g (of.wrote g listed)));
}

welcome_of : (a b : Origin) (p : Past) (v : PairState) → Joined a b p v → (number : ℕ) (s : Sent) → slice_get v.sent number ≡ Some s → (w : End) → s.writer ≡ w → IsWelcomePayload v s
welcome_of a b p v j number s is A e = welcome_at v s A j.first j.second e (promised j.seen.linked).0.welcome (j.seen.own number s is e) j.seen.there
welcome_of a b p v j number s is B e = welcome_at v s B j.second j.first e (promised j.seen.linked).1.welcome (j.seen.others number s is e) j.seen.here

pub welcome-from : {a b : Origin} {h : History} {v : PairState} → EraFrom a b h v → (number : ℕ) (s : Sent) → slice_get v.sent number ≡ Some s → IsWelcomePayload v s
welcome-from {a} {b} {h} {v} f number s is = welcome_of a b (past_of h) v (joined-from f) number s is s.writer refl
