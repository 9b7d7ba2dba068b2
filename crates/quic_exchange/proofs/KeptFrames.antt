-- The STREAM frames that an end kept, as its calls tell, stand at the places that were kept.
use Rattle.std.proofs.Common.{◌≡◌, ◌⊎◌, ℕ, Bool, true, false, List, [], ◌∷◌, length, Result, Ok, refl, sym, ◌∙◌, subst, inl, inr, arith, ◌+◌}
use Rattle.std.specs.Prelude.{◌==◌, ◌&&◌, if◌then◌else◌}
use Rattle.quic_wire.specs.declared.frame.Frame.{Frame}
use Rattle.quic_wire.specs.declared.frame.Frame.TheVariants as frames
use Rattle.quic_wire.specs.declared.frame.Stream.{Stream}
use Rattle.quic_wire.specs.declared.error.ReceiveError.{ReceiveError}
use Rattle.quic_receiving.specs.declared.transmit.ShouldTransmit.{ShouldTransmit}
use Rattle.quic_history.specs.World.{World}
use Rattle.quic_history.specs.SendEvents.{StoppedOwn}
use Rattle.quic_history.specs.History.{Event, Received, ReceivedReset, Sending, is_frame_kept}
use Rattle.quic_link.specs.Endpoints.{LinkedEnd, acted, IsOneOf}
use Rattle.quic_link.specs.Promises.{kept_count}
use Rattle.quic_steps.specs.declared.steps.End.{End}
use Rattle.quic_exchange.specs.Sent.{Sent}
use Rattle.quic_exchange.specs.History.{Past, FramePlace}
use Rattle.quic_exchange.specs.Unrefused.{StreamsAt}
use Rattle.quic_exchange.specs.Readable.{SomeReset, SomeStop}

-- the frames of a stream that calls kept, the newest first
abbrev pub with_kept : Event → ℕ → List Stream → List Stream
with_kept (Received id offset bytes fin answer) q ss = if (q == id) && is_frame_kept answer then record { id = id; offset = offset; fin = fin; bytes = bytes } ∷ ss else ss
with_kept _ q ss = ss

abbrev pub kept_in : List Event → ℕ → List Stream
kept_in [] q = []
kept_in (e ∷ h) q = with_kept e q (kept_in h q)

-- and those that an answer to a frame kept
abbrev pub kept_of : Frame → Result ShouldTransmit ReceiveError → ℕ → List Stream → List Stream
kept_of (frames.Stream g) answer q ss = with_kept (Received g.id g.offset g.bytes g.fin answer) q ss
kept_of _ answer q ss = ss

-- another frame is none
pub kept-other : (frame : Frame) (answer : Result ShouldTransmit ReceiveError) (q : ℕ) (ss : List Stream) → ((s : Stream) → frame ≡ frames.Stream s → ⊥) → kept_of frame answer q ss ≡ ss
kept-other (frames.Stream g) answer q ss other = absurd (other g refl)
kept-other _ answer q ss other = refl

-- they stand at the places that were kept, and a reset or a stop that y took at one that was accepted
pub record KeptSent (p : Past) (sent : List Sent) (who : End) (y : LinkedEnd) : Type 0 where
  pub streams : (q : ℕ) → StreamsAt sent who q p.kept (kept_in y.calls q)
  pub resets : (q code final : ℕ) (transmit : ShouldTransmit) → IsOneOf (ReceivedReset q code final (Ok transmit)) y.calls → SomeReset sent who q code p.accepted
  pub stops : (q code : ℕ) → IsOneOf (Sending (StoppedOwn q code (Ok tt))) y.calls → SomeStop sent who q code p.accepted

-- they are as many as are counted
kept_or : (b : Bool) (s : Stream) (ss : List Stream) (n : ℕ) → length ss ≡ n → length (if b then s ∷ ss else ss) ≡ n + (if b then 1 else 0)
kept_or true s ss n e = omega (arith, e)
kept_or false s ss n e = omega (arith, e)

pub count-kept : (h : List Event) (q : ℕ) → length (kept_in h q) ≡ kept_count h q
count-kept [] q = refl
count-kept (Received id offset bytes fin answer ∷ h) q =
    kept_or ((q == id) && is_frame_kept answer) (record { id = id; offset = offset; fin = fin; bytes = bytes }) (kept_in h q) (kept_count h q) (count-kept h q)
count-kept (_ ∷ h) q = omega (arith, count-kept h q)

-- ---- calls that keep none

-- x became z by calls by which no STREAM frame was accepted, none kept, and no reset and no stop taken
pub record HearsNothing (x z : LinkedEnd) : Type 0 where
  pub accepts : (q offset : ℕ) (bytes : List ℕ) (fin : Bool) (transmit : ShouldTransmit) → IsOneOf (Received q offset bytes fin (Ok transmit)) z.calls → IsOneOf (Received q offset bytes fin (Ok transmit)) x.calls
  pub keeps : (q : ℕ) → kept_in z.calls q ≡ kept_in x.calls q
  pub resets : (q code final : ℕ) (transmit : ShouldTransmit) → IsOneOf (ReceivedReset q code final (Ok transmit)) z.calls → IsOneOf (ReceivedReset q code final (Ok transmit)) x.calls
  pub stops : (q code : ℕ) → IsOneOf (Sending (StoppedOwn q code (Ok tt))) z.calls → IsOneOf (Sending (StoppedOwn q code (Ok tt))) x.calls

-- or by a call that hands in a frame, which was answered so
pub record HearsFrame (x z : LinkedEnd) (frame : Frame) (answer : Result ShouldTransmit ReceiveError) : Type 0 where
  pub keeps : (q : ℕ) → kept_in z.calls q ≡ kept_of frame answer q (kept_in x.calls q)
  pub resets : (q code final : ℕ) (transmit : ShouldTransmit) → IsOneOf (ReceivedReset q code final (Ok transmit)) z.calls
      → IsOneOf (ReceivedReset q code final (Ok transmit)) x.calls ⊎ ((frame ≡ frames.ResetStream (record { id = q; error_code = code; final_offset = final })) × (answer ≡ Ok transmit))
  pub stops : (q code : ℕ) → IsOneOf (Sending (StoppedOwn q code (Ok tt))) z.calls
      → IsOneOf (Sending (StoppedOwn q code (Ok tt))) x.calls ⊎ ((frame ≡ frames.StopSending (record { id = q; error_code = code })) × (transmit : ShouldTransmit) × (answer ≡ Ok transmit))

pub hears-none : (x : LinkedEnd) → HearsNothing x x
hears-none x = record { accepts = λ q offset bytes fin transmit h. h; keeps = λ q. refl; resets = λ q code final transmit h. h; stops = λ q code h. h }

pub hears-both : (x y z : LinkedEnd) → HearsNothing x y → HearsNothing y z → HearsNothing x z
hears-both x y z a b = record {
  accepts = λ q offset bytes fin transmit h. a.accepts q offset bytes fin transmit (b.accepts q offset bytes fin transmit h);
  keeps = λ q. b.keeps q ∙ a.keeps q;
  resets = λ q code final transmit h. a.resets q code final transmit (b.resets q code final transmit h);
  stops = λ q code h. a.stops q code (b.stops q code h);
}

-- a call that hands in no STREAM, RESET_STREAM or STOP_SENDING frame
abbrev pub IsNoFrame : Event → Type 0
IsNoFrame (Received id offset bytes fin answer) = ⊥
IsNoFrame (ReceivedReset id code final answer) = ⊥
IsNoFrame (Sending (StoppedOwn id code answer)) = ⊥
IsNoFrame _ = Unit {0}

kept_same : (e : Event) (q : ℕ) (ss : List Stream) → IsNoFrame e → with_kept e q ss ≡ ss
kept_same (Received id offset bytes fin answer) q ss w = absurd w
kept_same (ReceivedReset id code final answer) q ss w = absurd w
kept_same (Sending (StoppedOwn id code answer)) q ss w = absurd w
kept_same _ q ss w = refl

pub hears-call : (x : LinkedEnd) (e : Event) (v : World) → IsNoFrame e → HearsNothing x (acted x e v)
hears-call x e v w = record {
  accepts = λ q offset bytes fin transmit h. elim h [
    | inl k ↦ absurd (let P : Event → Type 0 = λ j. IsNoFrame j in subst P (sym k) w)
    | inr k ↦ k
  ];
  keeps = λ q. kept_same e q (kept_in x.calls q) w;
  resets = λ q code final transmit h. elim h [
    | inl k ↦ absurd (let P : Event → Type 0 = λ j. IsNoFrame j in subst P (sym k) w)
    | inr k ↦ k
  ];
  stops = λ q code h. elim h [
    | inl k ↦ absurd (let P : Event → Type 0 = λ j. IsNoFrame j in subst P (sym k) w)
    | inr k ↦ k
  ];
}

-- what was kept stays known
pub kept-as : (p q : Past) (sent : List Sent) (who : End) (y z : LinkedEnd) → q.kept ≡ p.kept → q.accepted ≡ p.accepted → HearsNothing y z → KeptSent p sent who y → KeptSent q sent who z
kept-as p q sent who y z same accepted n k = record {
  streams = λ id.
      let P : List FramePlace → Type 0 = λ l. StreamsAt sent who id l (kept_in z.calls id) in
      let Q : List Stream → Type 0 = λ l. StreamsAt sent who id p.kept l in
      subst P (sym same) (subst Q (sym (n.keeps id)) (k.streams id));
  resets = λ id code final transmit h.
      let P : List FramePlace → Type 0 = λ l. SomeReset sent who id code l in
      subst P (sym accepted) (k.resets id code final transmit (n.resets id code final transmit h));
  stops = λ id code h.
      let P : List FramePlace → Type 0 = λ l. SomeStop sent who id code l in
      subst P (sym accepted) (k.stops id code (n.stops id code h));
}
