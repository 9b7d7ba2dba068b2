-- A frame that is handed to an end is a call of a linked end.
use Rattle.std.proofs.Common.{◌≡◌, ◌⊎◌, ℕ, Bool, List, Result, Ok, Err, refl, sym, ap, ◌∙◌, subst, inl, inr}
use Rattle.quic_values.specs.declared.memory.OutOfMemory.{OutOfMemory}
use Rattle.quic_wire.specs.declared.frame.Frame.{Frame}
use Rattle.quic_wire.specs.declared.frame.Frame.TheVariants as frames
use Rattle.quic_wire.specs.declared.frame.ResetStream.{ResetStream}
use Rattle.quic_wire.specs.declared.frame.StopSending.{StopSending}
use Rattle.quic_wire.specs.declared.frame.Stream.{Stream}
use Rattle.quic_wire.specs.declared.error.ReceiveError.{ReceiveError}
use Rattle.quic_wire.specs.declared.error.ReceiveError.TheVariants as receive_error
use Rattle.quic_receiving.specs.declared.transmit.ShouldTransmit.{ShouldTransmit}
use Rattle.quic_retransmits.specs.Pending.{Pending}
use Rattle.quic_history.specs.World.{World}
use Rattle.quic_history.specs.SendEvents.{StoppedOwn, RaisedData, RaisedLimit, RaisedCount}
use Rattle.quic_history.specs.History.{Event, Received, ReceivedReset, Sending, Step}
use Rattle.quic_link.specs.Endpoints.{LinkedEnd, Linked, first_acts, MayAct, acted, IsOneOf, WasAccepted}
use Rattle.quic_link.specs.Asked.{AreAsked}
use Rattle.quic_endpoint.specs.Ends.{EndState, with_limit_told}
use Rattle.quic_endpoint.specs.Receiving.{ReceivesAt, MakesCall, event_of, with_answer_told, stopped_so, done_so}
use Rattle.quic_exchange.specs.Payloads.{meta_of}
use Rattle.quic_exchange.proofs.Joined.{Stands}
use Rattle.quic_exchange.proofs.KeptFrames.{HearsFrame, kept_in, kept-other}
use Rattle.quic_exchange.proofs.PayloadKeeps.{Keeps, keeps-received, keeps-reset, keeps-send}
use Rattle.quic_exchange.proofs.Reports.{Reaches, reached-send, reached-same, stands-told, stands-at, asked-flags}

abbrev Answered : Type 0
Answered = Result ShouldTransmit ReceiveError

-- x came, by the call that a frame is, to an end that is f: a STREAM frame was accepted only where it is this one
pub record Hears (x y : LinkedEnd) (frame : Frame) (answer : Result ShouldTransmit ReceiveError) (f : EndState) : Type 0 where
  pub end : LinkedEnd
  pub linked : Linked end y
  pub keeps : Keeps x end
  pub here : Stands end f
  pub heard : (q offset : ℕ) (bytes : List ℕ) (fin : Bool) (transmit : ShouldTransmit) → IsOneOf (Received q offset bytes fin (Ok transmit)) end.calls
      → IsOneOf (Received q offset bytes fin (Ok transmit)) x.calls ⊎ ((frame ≡ frames.Stream (record { id = q; offset = offset; fin = fin; bytes = bytes })) × (answer ≡ Ok transmit))
  pub frame_heard : HearsFrame x end frame answer
  pub told : (stream : Stream) (transmit : ShouldTransmit) → frame ≡ frames.Stream stream → answer ≡ Ok transmit → WasAccepted end.calls stream.id (meta_of stream).offsets stream.fin

-- ---- a STREAM frame

abbrev frame_in : Frame → Event → Frame
frame_in g (Received id offset bytes fin answer) = frames.Stream (record { id = id; offset = offset; fin = fin; bytes = bytes })
frame_in g _ = g

abbrev answer_in : Answered → Event → Answered
answer_in a (Received id offset bytes fin answer) = answer
answer_in a _ = a

abbrev stream_in : Stream → Frame → Stream
stream_in s (frames.Stream t) = t
stream_in s _ = s

same_frame : (g : Stream) (answer : Answered) (q offset : ℕ) (bytes : List ℕ) (fin : Bool) (transmit : ShouldTransmit) → Received q offset bytes fin (Ok transmit) ≡ Received g.id g.offset g.bytes g.fin answer
    → (frames.Stream g ≡ frames.Stream (record { id = q; offset = offset; fin = fin; bytes = bytes })) × (answer ≡ Ok transmit)
same_frame g answer q offset bytes fin transmit e = (sym (ap (frame_in (frames.Stream g)) e), sym (ap (answer_in answer) e))

step_at : (u w v : World) (e : Event) → u ≡ w → Step w e v → Step u e v
step_at u w v e k s = let P : World → Type 0 = λ z. Step z e v in subst P (sym k) s

pending_at : (x : LinkedEnd) (p q : Pending) → q ≡ p → AreAsked x p → AreAsked x q
pending_at x p q e a = let P : Pending → Type 0 = λ j. AreAsked x j in subst P (sym e) a

hears_stream : (x y : LinkedEnd) (e f : EndState) (g : Stream) (answer : Answered) → Linked x y → Stands x e → IsOneOf (frames.Stream g) y.wrote → Step e.streams (Received g.id g.offset g.bytes g.fin answer) f.streams → f.pending ≡ e.pending
    → Hears x y (frames.Stream g) answer f
hears_stream x y e f g answer l s wrote step pending =
    let event = Received g.id g.offset g.bytes g.fin answer in
    let may : MayAct x y event f.streams = record { fits = tt; honest = wrote; step = step_at x.world e.streams f.streams event s.world step } in
    let k = keeps-received x y g.id g.offset g.bytes g.fin answer f.streams l may in
    record {
      end = acted x event f.streams;
      linked = first_acts event f.streams l may;
      keeps = k;
      here = record { world = refl; pending = pending_at (acted x event f.streams) e.pending f.pending pending (k.asked e.pending s.pending) };
      heard = λ q offset bytes fin transmit h. elim h [ inl is ↦ inr (same_frame g answer q offset bytes fin transmit is) | inr old ↦ inl old ];
      frame_heard = record { keeps = λ q. refl; resets = λ q code final transmit h. elim h [ inl is ↦ cc | inr old ↦ inl old ]; stops = λ q code h. elim h [ inl is ↦ cc | inr old ↦ inl old ] };
      told = λ stream transmit is ok.
          let P : Stream → Type 0 = λ m. WasAccepted (acted x event f.streams).calls m.id (meta_of m).offsets m.fin in
          subst P (ap (stream_in g) is) (record { bytes = g.bytes; transmit = transmit; is = inl (sym (ap (λ a. Received g.id g.offset g.bytes g.fin a) ok)); behind = refl });
    }

-- ---- a RESET_STREAM frame

abbrev reset_in : Frame → Event → Frame
reset_in g (ReceivedReset id code final answer) = frames.ResetStream (record { id = id; error_code = code; final_offset = final })
reset_in g _ = g

abbrev reset_answer : Answered → Event → Answered
reset_answer a (ReceivedReset id code final answer) = answer
reset_answer a _ = a

same_reset : (g : ResetStream) (answer : Answered) (q code final : ℕ) (transmit : ShouldTransmit) → ReceivedReset q code final (Ok transmit) ≡ ReceivedReset g.id g.error_code g.final_offset answer
    → (frames.ResetStream g ≡ frames.ResetStream (record { id = q; error_code = code; final_offset = final })) × (answer ≡ Ok transmit)
same_reset g answer q code final transmit e = (sym (ap (reset_in (frames.ResetStream g)) e), sym (ap (reset_answer answer) e))

hears_reset : (x y : LinkedEnd) (e f : EndState) (g : ResetStream) (answer : Answered) → Linked x y → Stands x e → IsOneOf (frames.ResetStream g) y.wrote → Step e.streams (ReceivedReset g.id g.error_code g.final_offset answer) f.streams
    → f.pending ≡ e.pending → Hears x y (frames.ResetStream g) answer f
hears_reset x y e f g answer l s wrote step pending =
    let event = ReceivedReset g.id g.error_code g.final_offset answer in
    let may : MayAct x y event f.streams = record { fits = tt; honest = wrote; step = step_at x.world e.streams f.streams event s.world step } in
    let k = keeps-reset x y g.id g.error_code g.final_offset answer f.streams l may in
    record {
      end = acted x event f.streams;
      linked = first_acts event f.streams l may;
      keeps = k;
      here = record { world = refl; pending = pending_at (acted x event f.streams) e.pending f.pending pending (k.asked e.pending s.pending) };
      heard = λ q offset bytes fin transmit h. elim h [ inl is ↦ cc | inr old ↦ inl old ];
      frame_heard = record {
        keeps = λ q. refl;
        resets = λ q code final transmit h. elim h [ inl is ↦ inr (same_reset g answer q code final transmit is) | inr old ↦ inl old ];
        stops = λ q code h. elim h [ inl is ↦ cc | inr old ↦ inl old ];
      };
      told = λ stream transmit is ok. cc;
    }

-- ---- a STOP_SENDING frame

abbrev stop_in : Frame → Event → Frame
stop_in g (Sending (StoppedOwn id code answer)) = frames.StopSending (record { id = id; error_code = code })
stop_in g _ = g

abbrev stop_answer : Result (Unit {0}) OutOfMemory → Event → Result (Unit {0}) OutOfMemory
stop_answer a (Sending (StoppedOwn id code answer)) = answer
stop_answer a _ = a

stop_done : (answer : Answered) → stopped_so answer ≡ Ok tt → (transmit : ShouldTransmit) × (answer ≡ Ok transmit)
stop_done (Ok transmit) e = (transmit, refl)
stop_done (Err error) e = cc

same_stop : (g : StopSending) (answer : Answered) (q code : ℕ) → Sending (StoppedOwn q code (Ok tt)) ≡ Sending (StoppedOwn g.id g.error_code (stopped_so answer))
    → (frames.StopSending g ≡ frames.StopSending (record { id = q; error_code = code })) × (transmit : ShouldTransmit) × (answer ≡ Ok transmit)
same_stop g answer q code e =
    let done = stop_done answer (sym (ap (stop_answer (stopped_so answer)) e)) in
    (sym (ap (stop_in (frames.StopSending g)) e), done.0, done.1)

hears_stop : (x y : LinkedEnd) (e f : EndState) (g : StopSending) (answer : Answered) → Linked x y → Stands x e → IsOneOf (frames.StopSending g) y.wrote → Step e.streams (Sending (StoppedOwn g.id g.error_code (stopped_so answer))) f.streams
    → f.pending ≡ e.pending → Hears x y (frames.StopSending g) answer f
hears_stop x y e f g answer l s wrote step pending =
    let stop = StoppedOwn g.id g.error_code (stopped_so answer) in
    let event = Sending stop in
    let may : MayAct x y event f.streams = record { fits = tt; honest = wrote; step = step_at x.world e.streams f.streams event s.world step } in
    let k = keeps-send x y stop f.streams tt l may in
    record {
      end = acted x event f.streams;
      linked = first_acts event f.streams l may;
      keeps = k;
      here = record { world = refl; pending = pending_at (acted x event f.streams) e.pending f.pending pending (k.asked e.pending s.pending) };
      heard = λ q offset bytes fin transmit h. elim h [ inl is ↦ cc | inr old ↦ inl old ];
      frame_heard = record {
        keeps = λ q. refl;
        resets = λ q code final transmit h. elim h [ inl is ↦ cc | inr old ↦ inl old ];
        stops = λ q code h. elim h [ inl is ↦ inr (same_stop g answer q code is) | inr old ↦ inl old ];
      };
      told = λ stream transmit is ok. cc;
    }

-- ---- other frames

-- a frame that is neither is heard by a call that the steps tell nothing of
quietly : (x y : LinkedEnd) (frame : Frame) (answer : Answered) (f : EndState) → Reaches x y f → ((stream : Stream) → frame ≡ frames.Stream stream → ⊥) → Hears x y frame answer f
quietly x y frame answer f r other = record {
  end = r.end;
  linked = r.linked;
  keeps = r.keeps;
  here = r.here;
  heard = λ q offset bytes fin transmit h. inl (r.hears.accepts q offset bytes fin transmit h);
  frame_heard = record { keeps = λ q. r.hears.keeps q ∙ sym (kept-other frame answer q (kept_in x.calls q) other); resets = λ q code final transmit h. inl (r.hears.resets q code final transmit h); stops = λ q code h. inl (r.hears.stops q code h) };
  told = λ stream transmit is ok. absurd (other stream is);
}

-- one that is no call
reached_none : (x y : LinkedEnd) (e f : EndState) → Linked x y → Stands x e → f.streams ≡ e.streams → f.pending ≡ e.pending → Reaches x y f
reached_none x y e f l s same pending = reached-same x y f l (record { world = s.world ∙ sym same; pending = pending_at x e.pending f.pending pending s.pending })

-- ---- any frame

hears_call : (x y : LinkedEnd) (e f : EndState) (frame : Frame) (answer : Answered) → Linked x y → Stands x e → IsOneOf frame y.wrote → MakesCall e.streams (event_of frame answer) f.streams → f.pending ≡ e.pending → Hears x y frame answer f
hears_call x y e f (frames.Stream g) answer l s wrote call pending = hears_stream x y e f g answer l s wrote call pending
hears_call x y e f (frames.ResetStream g) answer l s wrote call pending =
    hears_reset x y e f g answer l s wrote call pending
hears_call x y e f (frames.StopSending g) answer l s wrote call pending = hears_stop x y e f g answer l s wrote call pending
hears_call x y e f (frames.MaxData limit) answer l s wrote call pending =
    quietly x y (frames.MaxData limit) answer f (reached-send x y e f (RaisedData limit) l s tt tt wrote call pending) (λ stream is. cc)
hears_call x y e f (frames.MaxStreamData id limit) answer l s wrote call pending =
    quietly x y (frames.MaxStreamData id limit) answer f (reached-send x y e f (RaisedLimit id limit (done_so answer)) l s tt tt wrote call pending) (λ stream is. cc)
hears_call x y e f (frames.MaxStreams dir count) answer l s wrote call pending =
    quietly x y (frames.MaxStreams dir count) answer f (reached-send x y e f (RaisedCount dir count (done_so answer)) l s tt tt wrote call pending) (λ stream is. cc)
hears_call x y e f frame answer l s wrote call pending = quietly x y frame answer f (reached_none x y e f l s call pending) (λ stream is. cc)

-- what an answer asks for is flags
stands_answered : (x : LinkedEnd) (answer : Answered) (e : EndState) → Stands x e → Stands x (with_answer_told answer e)
stands_answered x (Ok transmit) e s =
    let told = with_limit_told transmit.0 e in
    stands-told x told (record { world = s.world; pending = asked-flags x e.pending told.pending refl s.pending })
stands_answered x (Err (receive_error.Transport error)) e s = stands-told x e s
stands_answered x (Err receive_error.CompactionMemory) e s = stands-told x e s
stands_answered x (Err receive_error.OutOfMemory) e s = s

-- a frame that the other end wrote is handed to x
pub hears-frame : (x y : LinkedEnd) (e f : EndState) (frame : Frame) (answer : Result ShouldTransmit ReceiveError) → Linked x y → Stands x e → IsOneOf frame y.wrote → ReceivesAt e frame answer f → Hears x y frame answer f
hears-frame x y e f frame answer l s wrote r =
    let h = hears_call x y e r.taken frame answer l s wrote r.call r.pending in
    record { end = h.end; linked = h.linked; keeps = h.keeps; here = stands-at h.end f (with_answer_told answer r.taken) r.is (stands_answered h.end answer r.taken h.here); heard = h.heard; frame_heard = h.frame_heard; told = h.told }
