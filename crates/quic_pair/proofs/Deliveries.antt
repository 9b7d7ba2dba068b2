-- Deliveries of the frames of a payload, one after another.
use Rattle.std.proofs.Common.{◌≡◌, ◌⊎◌, ℕ, ◌≤◌, ◌+◌, List, [], ◌∷◌, ◌++◌, length, Option, Some, None, Result, Ok, Err, true, false, refl, sym, ap, ◌∙◌, subst, inl, inr, arith, Bool}
use Rattle.std.specs.Prelude.{◌&&◌, MatchBool, is_some, slice_get}
use Rattle.std.proofs.lemmas.Option.{none-some, same_Some}
use Rattle.std.proofs.lemmas.List.{length-append}
use Rattle.quic_values.specs.Numbers.{BeginsNumber}
use Rattle.quic_wire.specs.declared.frame.Stream.{Stream}
use Rattle.quic_wire.specs.declared.frame.Frame.{Frame}
use Rattle.quic_wire.specs.declared.frame.Frame.TheVariants as frames
use Rattle.quic_wire.specs.declared.error.ReceiveError.{ReceiveError}
use Rattle.quic_wire.specs.declared.error.ReceiveError.TheVariants as receive_error
use Rattle.quic_wire.specs.Frames.{has_bit, BeginsTwo, BeginsOffset, BeginsContent, BeginsStream, BeginsWith, BeginsFrames, AreFrames}
use Rattle.quic_receiving.specs.declared.transmit.ShouldTransmit.{ShouldTransmit}
use Rattle.quic_session.specs.declared.receiving.Received.{Received}
use Rattle.quic_session.specs.declared.receiving.PayloadError.{PayloadError}
use Rattle.quic_steps.specs.declared.steps.Step.{Step}
use Rattle.quic_steps.specs.declared.steps.Step.TheVariants as steps
use Rattle.quic_steps.specs.declared.steps.Reply.{Reply}
use Rattle.quic_steps.specs.declared.steps.Reply.TheVariants.{Done, DoneTransmit, Fault}
use Rattle.quic_steps.specs.declared.steps.PairError.{PairError}
use Rattle.quic_steps.specs.declared.steps.PairError.TheVariants.{NoSuchPayload, NoSuchFrame, Undecided, OutOfMemory as NoMemory}
use Rattle.quic_exchange.specs.declared.early.EarlyLimits.{EarlyLimits}
use Rattle.quic_exchange.specs.Sent.{Sent}
use Rattle.quic_exchange.specs.Payloads.{IsFrameAt, LacksFrame}
use Rattle.quic_exchange.specs.Gone.{IsNoPayload}
use Rattle.quic_exchange.specs.Network.{KeepsNetwork}
use Rattle.quic_exchange.specs.Replies.{Answer, received_reply}
use Rattle.quic_exchange.specs.State.{PairState}
use Rattle.quic_exchange.specs.Steps.{Next, NextTaken, needs_decision, HasPayload, HandsOver, Delivers}
use Rattle.quic_exchange.specs.History.{History}
use Rattle.quic_exchange.specs.Runs.{TakesSteps, none, more}
use Rattle.quic_exchange.proofs.Beneath.{waits-stay}
use Rattle.quic_exchange.proofs.Lists.{slice_get-within}
use Rattle.quic_exchange.proofs.Network.{changes-network}
use Rattle.quic_exchange.proofs.Runs.{from-steps, holds-led, each-promises, each-stays, each-network}
use Rattle.quic_pair.specs.Whole.{halt_of, DeliversFirst, DeliversEach, DeliversUpTo, AreDeliveries, HandsIn, HasBytesWithin, DeliversSo, none as first_none, more as first_more}

-- ---- no payload has more frames than bytes

number-left : (bytes : List ℕ) (n : ℕ) (rest : List ℕ) → BeginsNumber bytes n rest → length rest ≤ length bytes
number-left bytes n rest h = omega (arith, length-append h.0 rest, ap length h.2)

two-left : (bytes : List ℕ) (m n : ℕ) (rest : List ℕ) → BeginsTwo bytes m n rest → length rest ≤ length bytes
two-left bytes m n rest h = let a = number-left bytes m h.0 h.1 in let b = number-left h.0 n rest h.2 in omega (arith, a, b)

content-left : (with_length : Bool) (bytes xs rest : List ℕ) → BeginsContent with_length bytes xs rest → length rest ≤ length bytes
content-left true bytes xs rest h = let a = number-left bytes (length xs) (xs ++ rest) h in omega (arith, a, length-append xs rest)
content-left false bytes xs rest h = let a = ap length h.1 in omega (arith, a)

offset-left : (with_offset : Bool) (bytes : List ℕ) (n : ℕ) (rest : List ℕ) → BeginsOffset with_offset bytes n rest → length rest ≤ length bytes
offset-left true bytes n rest h = number-left bytes n rest h
offset-left false bytes n rest h = let a = ap length h.1 in omega (arith, a)

stream-left : (kind : ℕ) (bytes : List ℕ) (s : Stream) (rest : List ℕ) → BeginsStream kind bytes s rest → length rest ≤ length bytes
stream-left kind bytes s rest h =
    let a = number-left bytes s.id h.3 h.4 in
    let b = offset-left (has_bit kind 4) h.3 s.offset h.5 h.6 in
    let c = content-left (has_bit kind 2) h.5 s.bytes rest h.7 in
    omega (arith, a, b, c)

frame-left : (bytes : List ℕ) (f : Frame) (rest : List ℕ) → BeginsWith bytes f rest → length rest + 1 ≤ length bytes
frame-left [] f rest h = absurd h
frame-left (kind ∷ bytes) (frames.ResetStream f) rest h = let a = number-left bytes f.id h.1 h.2 in let b = two-left h.1 f.error_code f.final_offset rest h.3 in omega (arith, a, b)
frame-left (kind ∷ bytes) (frames.StopSending f) rest h = let a = two-left bytes f.id f.error_code rest h.1 in omega (arith, a)
frame-left (kind ∷ bytes) (frames.Stream s) rest h = let a = stream-left kind bytes s rest h in omega (arith, a)
frame-left (kind ∷ bytes) (frames.MaxData n) rest h = let a = number-left bytes n rest h.1 in omega (arith, a)
frame-left (kind ∷ bytes) (frames.MaxStreamData id offset) rest h = let a = two-left bytes id offset rest h.1 in omega (arith, a)
frame-left (kind ∷ bytes) (frames.MaxStreams dir count) rest h = let a = number-left bytes count rest h.1 in omega (arith, a)
frame-left (kind ∷ bytes) (frames.DataBlocked n) rest h = let a = number-left bytes n rest h.1 in omega (arith, a)
frame-left (kind ∷ bytes) (frames.StreamDataBlocked id offset) rest h = let a = two-left bytes id offset rest h.1 in omega (arith, a)
frame-left (kind ∷ bytes) (frames.Datagram d) rest h = let a = content-left (has_bit kind 1) bytes d.bytes rest h.2 in omega (arith, a)
frame-left (kind ∷ bytes) _ rest h = absurd h

frames-fit : (bytes : List ℕ) (fs : List Frame) (rest : List ℕ) → BeginsFrames bytes fs rest → length fs ≤ length bytes
frames-fit bytes [] rest h = omega arith
frames-fit bytes (f ∷ fs) rest h =
    let a = frame-left bytes f h.0 h.1 in
    let b = frames-fit h.0 fs rest h.2 in
    omega (arith, a, b)

pub lacks-behind : (bytes : List ℕ) (most : ℕ) → length bytes ≤ most → LacksFrame bytes most
lacks-behind bytes most within all spelled = let a = frames-fit bytes all [] spelled in omega (arith, a, within)

-- ---- a payload that is there

there-no : (v : PairState) (payload : ℕ) → HasPayload v payload → IsNoPayload v.sent payload → ⊥
there-no v payload t (inl past) = let a = slice_get-within v.sent payload t.sent t.is in omega (arith, a, past)
there-no v payload t (inr left) =
    let e : t.sent ≡ left.payload = same_Some t.sent left.payload (sym t.is ∙ left.is) in
    let gone : true ≡ false = sym left.gone ∙ sym (ap (λ (s : Sent). s.gone) e) ∙ t.here in
    cc

-- ---- one delivery

module _ (old new : PairState) (payload index : ℕ) (reply : Answer) where
  -- it waits for nothing
  delivers : old.waits ≡ None → Next old (steps.Deliver payload index) reply new → Delivers old payload index reply new
  delivers e n =
      let P : Option EarlyLimits → Type 0 = λ w. MatchBool (is_some w && true) ((reply ≡ Err Undecided) × (new ≡ old)) (NextTaken old (steps.Deliver payload index) reply new) in
      subst P e n

  pub stays-decided : old.waits ≡ None → Next old (steps.Deliver payload index) reply new → new.waits ≡ None
  stays-decided e n = waits-stay old new (steps.Deliver payload index) reply (delivers e n) ∙ e

  pub stays-there : (most : ℕ) → HasBytesWithin old payload most → Next old (steps.Deliver payload index) reply new → HasBytesWithin new payload most
  stays-there most h n =
      let k : KeepsNetwork old.sent new.sent = changes-network old new (steps.Deliver payload index) reply n in
      let s = k.each payload h.there.sent h.there.is in
      record {
        there = record { sent = s.0; is = s.1; here = s.2.gone ∙ h.there.here };
        within = let e = ap length s.2.bytes in omega (arith, e, h.within);
      }

-- a reply that a delivery has is no other refusal
not-so : (error : PairError) (answer : Result ShouldTransmit ReceiveError) → Err error ≡ received_reply answer → error ≡ NoMemory
not-so error (Ok transmit) e = cc
not-so error (Err (receive_error.Transport fault)) e = cc
not-so error (Err receive_error.CompactionMemory) e = cc
not-so error (Err receive_error.OutOfMemory) e = cc

-- no frame is there, if the reply says so
refused-so : (old new : PairState) (payload index : ℕ) (error : PairError) → HasPayload old payload → Delivers old payload index (Err error) new → (error ≡ NoMemory → ⊥) → (t : HasPayload new payload) × LacksFrame t.sent.text.bytes index
refused-so old new payload index NoSuchPayload t d other = absurd (there-no old payload t d.0)
refused-so old new payload index NoSuchFrame t d other =
    let P : PairState → Type 0 = λ v. (t : HasPayload v payload) × LacksFrame t.sent.text.bytes index in
    subst P (sym d.is) (d.payload, d.why)
refused-so old new payload index NoMemory t d other = absurd (other refl)
refused-so old new payload index error t d other = absurd (other (not-so error d.answer d.reply_is))

error-so : (error : PairError) → halt_of (Err error) ≡ Some (Ok tt) → error ≡ NoMemory → ⊥
error-so NoMemory e is = cc
error-so error e is = cc

no-frame : (old new : PairState) (payload index : ℕ) (reply : Answer) → HasPayload old payload → Delivers old payload index reply new → halt_of reply ≡ Some (Ok tt) → (t : HasPayload new payload) × LacksFrame t.sent.text.bytes index
no-frame old new payload index (Err error) t d e = refused-so old new payload index error t d (error-so error e)
no-frame old new payload index (Ok (Fault (receive_error.Transport error))) t d e = cc
no-frame old new payload index (Ok reply) t d e = cc

-- such a reply left all as it was
same-so : (old new : PairState) (payload index : ℕ) (reply : Answer) → HasPayload old payload → Delivers old payload index reply new → halt_of reply ≡ Some (Ok tt) → new ≡ old
same-so old new payload index (Err NoSuchPayload) t d e = absurd (there-no old payload t d.0)
same-so old new payload index (Err NoSuchFrame) t d e = d.is
same-so old new payload index (Err NoMemory) t d e = cc
same-so old new payload index (Err error) t d e = absurd (error-so error e (not-so error d.answer d.reply_is))
same-so old new payload index (Ok (Fault (receive_error.Transport error))) t d e = cc
same-so old new payload index (Ok reply) t d e = cc

-- ---- many

-- what holds before a frame is delivered
pub record Delivered (old : PairState) (payload most count : ℕ) (between : PairState) : Type 0 where
  pub taken : History
  pub first : DeliversFirst payload count taken
  pub steps : TakesSteps old taken between
  pub decided : between.waits ≡ None
  pub there : HasBytesWithin between payload most

pub delivered-none : (old : PairState) (payload most : ℕ) → old.waits ≡ None → HasBytesWithin old payload most → Delivered old payload most 0 old
delivered-none old payload most decided there = record { taken = []; first = first_none; steps = none; decided = decided; there = there }

module _ (old between new : PairState) (payload most count : ℕ) (reply : Answer) (d : Delivered old payload most count between) (n : Next between (steps.Deliver payload count) reply new) where
  pub delivered-more : halt_of reply ≡ None → Delivered old payload most (count + 1) new
  delivered-more e = record {
    taken = d.taken ++ (steps.Deliver payload count, reply) ∷ [];
    first = first_more d.first reply e;
    steps = more (steps.Deliver payload count) reply d.steps n tt;
    decided = stays-decided between new payload count reply d.decided n;
    there = stays-there between new payload count reply most d.there n;
  }

  halted-at : (answer : Result (Unit {0}) PayloadError) → halt_of reply ≡ Some answer → DeliversSo old payload (record { next = count; answer = answer }) new
  halted-at (Ok tt) e =
      let k = delivers between new payload count reply d.decided n in
      let f = no-frame between new payload count reply d.there.there k e in
      let P : PairState → Type 0 = λ v. TakesSteps old d.taken v in
      (d.taken, inl (record { first = d.first; answer = refl; there = f.0; no_more = f.1 }), subst P (sym (same-so between new payload count reply d.there.there k e)) d.steps)
  halted-at (Err error) e = (
    d.taken ++ (steps.Deliver payload count, reply) ∷ [],
    inr (record { accepted = d.taken; first = d.first; reply = reply; error = error; why = e; answer = refl; is = refl }),
    more (steps.Deliver payload count) reply d.steps n tt,
  )

  pub delivered-halted : (answer : Result (Unit {0}) PayloadError) → halt_of reply ≡ Some answer → DeliversSo old payload (record { next = count; answer = answer }) new
  delivered-halted answer e = halted-at answer e

pub delivered-all : (old between : PairState) (payload most : ℕ) → Delivered old payload most most between → DeliversSo old payload (record { next = most; answer = Ok tt }) between
delivered-all old between payload most d =
    (d.taken, inl (record { first = d.first; answer = refl; there = d.there.there; no_more = lacks-behind d.there.there.sent.text.bytes most d.there.within }), d.steps)

-- what is promised of steps is promised of these
pub hands-in : (old : PairState) (payload : ℕ) (r : Received) (new : PairState) → DeliversSo old payload r new → HandsIn old payload r new
hands-in old payload r new d = record {
  taken = d.0;
  are = d.1;
  next = d.2;
  promises = λ s h f. each-promises s h old d.0 new f d.2;
  behind = λ s h f. holds-led (from-steps f d.2);
  unchanged = each-stays old d.0 new d.2;
  network = each-network old d.0 new d.2;
}
