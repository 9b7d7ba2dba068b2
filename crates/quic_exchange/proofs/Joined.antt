-- What is kept of a pair: its ends are linked ends, each with what it has to send, and the steps tell what they did.
use Rattle.std.proofs.Common.{◌≡◌, ℕ, Bool, true, List, Some, Ok}
use Rattle.std.specs.Prelude.{slice_get}
use Rattle.quic_values.specs.declared.ids.Side.TheVariants.{Client, Server}
use Rattle.quic_wire.specs.declared.frame.Frame.{Frame}
use Rattle.quic_wire.specs.declared.frame.Frame.TheVariants as frames
use Rattle.quic_wire.specs.declared.frame.Stream.{Stream}
use Rattle.quic_wire.specs.Frames.{AreFrames}
use Rattle.quic_receiving.specs.declared.transmit.ShouldTransmit.{ShouldTransmit}
use Rattle.quic_retransmits.specs.Settling.{noted_in}
use Rattle.quic_streams.specs.declared.settling.SentPayload.{SentPayload}
use Rattle.quic_history.specs.History.{Received}
use Rattle.quic_link.specs.Endpoints.{LinkedEnd, Linked, IsOneOf, sent_on, came_on, written_on, WasStoppedWith, WasAccepted}
use Rattle.quic_link.specs.Promises.{CameWhole, WasReadUnordered}
use Rattle.quic_link.specs.Asked.{AreAsked}
use Rattle.quic_endpoint.specs.Ends.{EndState}
use Rattle.quic_steps.specs.declared.steps.End.{End}
use Rattle.quic_steps.specs.declared.steps.End.TheVariants.{A}
use Rattle.quic_exchange.proofs.Origins.{Origin, made_in}
use Rattle.quic_exchange.specs.Sent.{Sent}
use Rattle.quic_exchange.specs.Payloads.{is_accepted, meta_of}
use Rattle.quic_exchange.specs.State.{PairState, peer, the_end}
use Rattle.quic_exchange.specs.History.{Past}
use Rattle.quic_exchange.specs.Headline.{SomeStream}
use Rattle.quic_exchange.proofs.KeptFrames.{KeptSent}
use Rattle.quic_exchange.proofs.Gives.{AreGiven}

-- an end of a pair is a linked end, and what it has to send was asked for
pub record Stands (x : LinkedEnd) (e : EndState) : Type 0 where
  pub world : x.world ≡ e.streams
  pub pending : AreAsked x e.pending

-- a payload that x sent to y: x wrote each of its frames, what was noted of those that are unreported was asked for, and what is
-- marked as accepted was accepted by y
pub record IsPayloadOf (x y : LinkedEnd) (s : Sent) : Type 0 where
  pub all : List Frame
  pub spelled : AreFrames s.text.bytes all
  pub wrote : (g : Frame) → IsOneOf g all → IsOneOf g x.wrote
  pub control : (r : SentPayload) → s.unsettled.rest ≡ Some r → AreAsked x (noted_in r.control)
  pub accepted : (index : ℕ) (stream : Stream) → slice_get all index ≡ Some (frames.Stream stream) → is_accepted s.text index ≡ true
      → WasAccepted y.calls stream.id (meta_of stream).offsets stream.fin

-- a frame like this
pub record IsLike (offset : ℕ) (bytes : List ℕ) (fin : Bool) (s : Stream) : Type 0 where
  pub offset_is : s.offset ≡ offset
  pub bytes_are : s.bytes ≡ bytes
  pub fin_is : s.fin ≡ fin

-- the steps tell what x, which is the end `who`, sent to y
pub record Knows (p : Past) (sent : List Sent) (who : End) (x y : LinkedEnd) : Type 0 where
  pub ids : AreGiven x (p.ids who)
  pub written : (q : ℕ) → written_on x q ≡ (p.flow who q).written
  pub finished : (q : ℕ) → (sent_on x q).finished ≡ (p.flow who q).finished
  pub resets : (q code : ℕ) → (sent_on x q).reset ≡ Some code → IsOneOf code (p.flow who q).resets
  pub stops : (q code : ℕ) → WasStoppedWith y.calls q code → IsOneOf code (p.flow who q).stops
  pub given : (q : ℕ) → (came_on y q).given ≡ (p.flow who q).given
  pub ended : (q : ℕ) → (came_on y q).ended ≡ (p.flow who q).ended
  pub unordered : (q : ℕ) → WasReadUnordered y.calls q → (p.flow who q).unordered ≡ true
  pub told_resets : (q code : ℕ) → IsOneOf code (p.flow who q).told_resets → (sent_on x q).reset ≡ Some code
  pub told_stops : (q code : ℕ) → IsOneOf code (p.flow who q).told_stops → WasStoppedWith y.calls q code
  pub complete : (q : ℕ) → (p.flow who q).complete ≡ true → CameWhole x y q
  pub accepted : (q offset : ℕ) (bytes : List ℕ) (fin : Bool) (transmit : ShouldTransmit) → IsOneOf (Received q offset bytes fin (Ok transmit)) y.calls
      → SomeStream sent who q p.accepted (IsLike offset bytes fin)

-- payloads of an end
abbrev pub ArePayloadsOf : List Sent → End → LinkedEnd → LinkedEnd → Type 0
ArePayloadsOf sent who x y = (number : ℕ) (s : Sent) → slice_get sent number ≡ Some s → s.writer ≡ who → IsPayloadOf x y s

-- a pair as one of its ends sees it: x is that end, and y the other
pub record Seen (p : Past) (who : End) (v : PairState) (x y : LinkedEnd) : Type 0 where
  pub linked : Linked x y
  pub here : Stands x (the_end v who)
  pub there : Stands y (the_end v (peer who))
  pub own : ArePayloadsOf v.sent who x y
  pub others : ArePayloadsOf v.sent (peer who) y x
  pub sends : Knows p v.sent who x y
  pub receives : Knows p v.sent (peer who) y x
  pub kept_there : KeptSent p v.sent who y
  pub kept_here : KeptSent p v.sent (peer who) x

-- what becomes of it by calls of that end
pub record Sees (p : Past) (who : End) (v : PairState) (x y : LinkedEnd) : Type 0 where
  pub end : LinkedEnd
  pub made : end.made ≡ x.made
  pub seen : Seen p who v end y

pub record Joined (a b : Origin) (p : Past) (v : PairState) : Type 0 where
  pub first : LinkedEnd
  pub second : LinkedEnd
  pub made_first : first.made ≡ made_in Client a
  pub made_second : second.made ≡ made_in Server b
  pub seen : Seen p A v first second
