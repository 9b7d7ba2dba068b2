-- A payload that an endpoint writes, whole or of one part: what proofs say of all of them alike.
use Rattle.std.proofs.Common.{◌≡◌, ℕ, Bool, List, [], Result, Ok, Err, refl, ap, inl, inr}
use Rattle.quic_values.specs.declared.memory.OutOfMemory.{OutOfMemory}
use Rattle.quic_datagrams.specs.declared.stats.FrameStats.{FrameStats}
use Rattle.quic_retransmits.specs.Pending.{Pending, nothing}
use Rattle.quic_history.specs.declared.control.ControlKind.{ControlKind}
use Rattle.quic_streams.specs.Payload.{WritesKinds, WritesEntries, control_order}
use Rattle.quic_endpoint.specs.Ends.{EndState}
use Rattle.quic_endpoint.specs.Emitting.{PayloadView, control_in, place_at, EmitsControl, EmitsStreams, EmitsNoStream, EmitsAt, whole as all_parts, cut as control_cut}
use Rattle.quic_steps.specs.declared.steps.End.{End}
use Rattle.quic_steps.specs.declared.steps.PayloadPart.{PayloadPart}
use Rattle.quic_steps.specs.declared.steps.PayloadPart.TheVariants.{Control, Streams}
use Rattle.quic_steps.specs.declared.steps.Step.TheVariants as steps
use Rattle.quic_steps.specs.declared.steps.Reply.TheVariants.{Payload}
use Rattle.quic_steps.specs.declared.steps.PairError.TheVariants.{OutOfMemory as NoMemory}
use Rattle.quic_exchange.specs.Parts.{EmitsPartAt}
use Rattle.quic_exchange.specs.Replies.{Answer}
use Rattle.quic_exchange.specs.Sent.{Sent}
use Rattle.quic_exchange.specs.State.{PairState}
use Rattle.quic_exchange.specs.Steps.{Emits, Emitted, EmitsBy, EmittedBy, EmittedPart}
use Rattle.quic_exchange.specs.Tale.{Tales, StepTells}

-- control frames of some kinds, or of none, are written into an empty payload
pub record EmitsKinds (most : ℕ) (e : EndState) (answer : Result (Unit {0}) OutOfMemory) (f : EndState) (bytes : List ℕ) (sent : Pending) : Type 0 where
  pub kinds : List ControlKind
  pub before : FrameStats
  pub after : FrameStats
  pub writes : WritesKinds most kinds (place_at e [] nothing before) answer (place_at f bytes sent after)
  pub from : WritesEntries (record { bytes = []; sent = nothing; stats = before }) (record { bytes = bytes; sent = sent; stats = after }) e.streams f.streams

-- and STREAM frames behind them, or none
pub data EmitsSomeAt (most : ℕ) (fair : Bool) (e : EndState) (payload : PayloadView) : Result (Unit {0}) OutOfMemory → EndState → Type 0 where
  whole : {answer : Result (Unit {0}) OutOfMemory} {f : EndState} → (between : EndState) (bytes : List ℕ) → EmitsKinds most e (Ok tt) between bytes (control_in payload)
      → EmitsStreams most fair between bytes answer f payload → EmitsSomeAt most fair e payload answer f
  cut : {first : Result (Unit {0}) OutOfMemory} {f : EndState} → (between : EndState) (bytes : List ℕ) → EmitsKinds most e first between bytes (control_in payload)
      → EmitsNoStream between bytes f payload → EmitsSomeAt most fair e payload first f

kinds_of : {most : ℕ} {e : EndState} {answer : Result (Unit {0}) OutOfMemory} {f : EndState} {bytes : List ℕ} {sent : Pending} → EmitsControl most e answer f bytes sent → EmitsKinds most e answer f bytes sent
kinds_of c = record { kinds = control_order; before = c.before; after = c.after; writes = c.writes; from = c.from }

-- counters of which nothing is known
abbrev no_frames : FrameStats
no_frames = record {
  acks = 0;
  ack_frequency = 0;
  crypto = 0;
  connection_close = 0;
  data_blocked = 0;
  datagram = 0;
  handshake_done = 0;
  immediate_ack = 0;
  max_data = 0;
  max_stream_data = 0;
  max_streams_bidi = 0;
  max_streams_uni = 0;
  new_connection_id = 0;
  new_token = 0;
  path_challenge = 0;
  path_response = 0;
  ping = 0;
  reset_stream = 0;
  retire_connection_id = 0;
  stream_data_blocked = 0;
  streams_blocked_bidi = 0;
  streams_blocked_uni = 0;
  stop_sending = 0;
  stream = 0;
}

-- no control frame is written
kinds_none : (most : ℕ) (e : EndState) (sent : Pending) → sent ≡ nothing → EmitsKinds most e (Ok tt) e [] sent
kinds_none most e sent none = record {
  kinds = [];
  before = no_frames;
  after = no_frames;
  writes = ap (λ (p : Pending). place_at e [] p no_frames) none;
  from = record { entries = []; sheet = ap (λ (p : Pending). record { bytes = []; sent = p; stats = no_frames }) none; from = λ m h f. f };
}

pub some-at : {most : ℕ} {fair : Bool} {e : EndState} {payload : PayloadView} {answer : Result (Unit {0}) OutOfMemory} {f : EndState} → EmitsAt most fair e payload answer f → EmitsSomeAt most fair e payload answer f
some-at (all_parts between bytes control streams) = whole between bytes (kinds_of control) streams
some-at (control_cut between bytes control none) = cut between bytes (kinds_of control) none

pub some-part : {most : ℕ} {fair : Bool} {e : EndState} {payload : PayloadView} {answer : Result (Unit {0}) OutOfMemory} {f : EndState} (part : PayloadPart) → EmitsPartAt part most fair e payload answer f → EmitsSomeAt most fair e payload answer f
some-part {most} {fair} {e} {payload} {answer} {f} Control k = cut f payload.bytes (kinds_of k.writes) (record { same = refl; bytes_are = refl; none = k.none })
some-part {most} {fair} {e} {payload} {answer} {f} Streams k = whole e [] (kinds_none most e (control_in payload) k.none) k.writes

-- ---- steps

-- an endpoint wrote a payload, which is sent
abbrev pub EmitsSome : PairState → End → ℕ → Bool → Result (Unit {0}) OutOfMemory → PayloadView → PairState → Type 0
EmitsSome old who most fair answer payload new = EmitsBy (EmitsSomeAt most fair) old who answer payload new

abbrev pub EmittedSome : PairState → End → ℕ → Bool → Answer → PairState → Type 0
EmittedSome old who most fair reply new = EmittedBy (EmitsSomeAt most fair) old who reply new

emits_some : {old : PairState} {who : End} {most : ℕ} {fair : Bool} {answer : Result (Unit {0}) OutOfMemory} {payload : PayloadView} {new : PairState} → Emits old who most fair answer payload new → EmitsSome old who most fair answer payload new
emits_some k = record { end = k.end; emits = some-at k.emits; sent = k.sent; sent_is = k.sent_is; is = k.is }

emits_part : {old : PairState} {who : End} {most : ℕ} {fair : Bool} {answer : Result (Unit {0}) OutOfMemory} {payload : PayloadView} {new : PairState} (part : PayloadPart) → EmitsBy (EmitsPartAt part most fair) old who answer payload new → EmitsSome old who most fair answer payload new
emits_part part k = record { end = k.end; emits = some-part part k.emits; sent = k.sent; sent_is = k.sent_is; is = k.is }

pub emitted-some : (old new : PairState) (who : End) (most : ℕ) (fair : Bool) (reply : Answer) → Emitted old who most fair reply new → EmittedSome old who most fair reply new
emitted-some old new who most fair (Ok (Payload number bytes)) k = record { payload = k.payload; emits = emits_some k.emits; number_is = k.number_is; bytes_are = k.bytes_are }
emitted-some old new who most fair (Err NoMemory) k = elim k [ inl same ↦ inl same | inr t ↦ inr (record { answer = t.answer; payload = t.payload; emits = emits_some t.emits }) ]
emitted-some old new who most fair _ k = absurd k

pub emitted-part : (old new : PairState) (who : End) (most : ℕ) (fair : Bool) (part : PayloadPart) (reply : Answer) → EmittedPart old who most fair part reply new → EmittedSome old who most fair reply new
emitted-part old new who most fair part (Ok (Payload number bytes)) k = record { payload = k.payload; emits = emits_part part k.emits; number_is = k.number_is; bytes_are = k.bytes_are }
emitted-part old new who most fair part (Err NoMemory) k = elim k [ inl same ↦ inl same | inr t ↦ inr (record { answer = t.answer; payload = t.payload; emits = emits_part part t.emits }) ]
emitted-part old new who most fair part _ k = absurd k

-- such a payload tells what one of `Emit` does
pub part-tells : (old new : List Sent) (who : End) (most : ℕ) (fair : Bool) (part : PayloadPart) (reply : Answer) (t u : Tales) → StepTells old new (steps.Emit who most fair) reply t u → StepTells old new (steps.EmitPart who most fair part) reply t u
part-tells old new who most fair part (Ok (Payload number bytes)) t u k = k
part-tells old new who most fair part (Err error) t u k = k
part-tells old new who most fair part _ t u k = k

pub tells-part : (old new : List Sent) (who : End) (most : ℕ) (fair : Bool) (part : PayloadPart) (reply : Answer) (t u : Tales) → StepTells old new (steps.EmitPart who most fair part) reply t u → StepTells old new (steps.Emit who most fair) reply t u
tells-part old new who most fair part (Ok (Payload number bytes)) t u k = k
tells-part old new who most fair part (Err error) t u k = k
tells-part old new who most fair part _ t u k = k
