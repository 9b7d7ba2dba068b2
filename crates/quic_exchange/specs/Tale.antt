-- What the steps of a pair tell of what its ends send: of each stream what was written, permitted, stopped, sent, lost and
-- acknowledged, and of all streams how much was written and how much may be.
use Rattle.std.specs.Prelude.{ℕ, ◌≡◌, ◌⊎◌, ◌==◌, ◌+◌, max, List, [], ◌∷◌, ◌++◌, length, map, take, drop, slice_get, Some, None, unwrap_or, Ok, Err, if◌then◌else◌}
use Rattle.std.specs.Option.{option_map}
use Rattle.quic_values.specs.declared.ids.Side.{Side}
use Rattle.quic_values.specs.declared.ids.Side.TheVariants.{Client, Server}
use Rattle.quic_values.specs.declared.ids.Dir.{Dir}
use Rattle.quic_values.specs.declared.ids.Dir.TheVariants.{Bi, Uni}
use Rattle.quic_sending.specs.Source.{slice_lists}
use Rattle.quic_wire.specs.declared.frame.Frame.{Frame}
use Rattle.quic_wire.specs.declared.frame.Frame.TheVariants as frames
use Rattle.quic_wire.specs.declared.frame.StreamMeta.{StreamMeta}
use Rattle.quic_wire.specs.Frames.{AreFrames}
use Rattle.quic_flows.specs.Flow.{SendFlow, SendMove, WasWritten, WasFinished, WasGivenUp, WasAskedToStop, WasPermitted, WasCarried, WasAcked, WasLost, WasResetAcked, new_flow, with_least_limit, with_send_move, front_of, retained}
use Rattle.quic_outgoing.specs.declared.limits.PeerLimits.{PeerLimits}
use Rattle.quic_outgoing.specs.Outgoing.{first_of}
use Rattle.quic_outgoing.specs.Senders.{first_limit, is_local}
use Rattle.quic_outgoing.specs.History.{given_for}
use Rattle.quic_history.specs.Early.{with_unsent}
use Rattle.quic_history.specs.History.{with_stream, total_over}
use Rattle.quic_streams.specs.Settling.{SentView, resets_of}
use Rattle.quic_streams.specs.Sent.{sent_view}
use Rattle.quic_steps.specs.declared.steps.End.{End}
use Rattle.quic_steps.specs.declared.steps.End.TheVariants.{A, B}
use Rattle.quic_steps.specs.declared.steps.Step.{Step}
use Rattle.quic_steps.specs.declared.steps.Step.TheVariants as steps
use Rattle.quic_steps.specs.declared.steps.Reply.TheVariants.{Done, DoneTransmit, Id, Wrote, WroteChunks, Payload}
use Rattle.quic_steps.specs.declared.steps.PairError.TheVariants.{OutOfMemory as NoMemory}
use Rattle.quic_exchange.specs.Sent.{Sent, Unsettled}
use Rattle.quic_exchange.specs.Payloads.{IsFrameAt, metas_in, codes_in}
use Rattle.quic_exchange.specs.Replies.{Answer}
use Rattle.quic_exchange.specs.State.{peer}
use Rattle.quic_exchange.specs.From.{Beginning, limits_first, limits_of_a, limits_of_b}
use Rattle.quic_exchange.specs.History.{History, FramePlace, is_same_end}

-- what is told of what one end sends
-- flow: of each stream
-- streams: those on whose sending side something was done, each once
-- written: how many bytes all writes took
-- limit: the greatest limit of the connection that was given (RFC 9000 section 4.1)
-- send_window: how many bytes may be kept until they are acknowledged
-- opened: how many streams of each direction were opened
-- count: the greatest count of them that was given (section 4.6)
pub record Tale : Type 0 where
  pub flow : ℕ → SendFlow
  pub streams : List ℕ
  pub written : ℕ
  pub limit : ℕ
  pub send_window : ℕ
  pub opened : Dir → ℕ
  pub count : Dir → ℕ

-- how many streams of a direction limits let an end open
abbrev pub first_count : PeerLimits → Dir → ℕ
first_count l Bi = l.initial_max_streams_bidi
first_count l Uni = l.initial_max_streams_uni

-- what is told of an end that did nothing yet: it was given limits
abbrev pub tale_begun : Side → ℕ → PeerLimits → Tale
tale_begun side send_window limits = record {
  flow = λ q. new_flow (first_limit side (first_of limits) q);
  streams = [];
  written = 0;
  limit = limits.initial_max_data;
  send_window = send_window;
  opened = λ d. 0;
  count = first_count limits;
}

-- so of each of both ends
abbrev pub tale_first : Beginning → End → Tale
tale_first s A = tale_begun Client s.a.send_window (limits_first s)
tale_first s B = tale_begun Server s.b.send_window (limits_of_a s)

-- what is told of both ends
-- of: of each
-- payloads: how many payloads were sent
-- told: of each payload how many of its parts were reported
pub record Tales : Type 0 where
  pub of : End → Tale
  pub payloads : ℕ
  pub told : ℕ → ℕ

-- before the first step
abbrev pub tales_begun : Beginning → Tales
tales_begun s = record { of = tale_first s; payloads = 0; told = λ number. 0 }

-- how many of the written bytes are retained, of all streams
abbrev pub retained_by : Tale → ℕ
retained_by t = total_over (λ q. retained (t.flow q)) t.streams

-- ---- what is done

-- something is done on the sending side of a stream
abbrev pub with_deed : ℕ → SendMove → Tale → Tale
with_deed id move t = record t { flow = λ q. if q == id then with_send_move move (t.flow q) else t.flow q; streams = with_stream id t.streams }

-- a write takes the first bytes of these lists
abbrev pub with_bytes_taken : ℕ → ℕ → List (List ℕ) → Tale → Tale
with_bytes_taken id count lists t = record (with_deed id (WasWritten (front_of count lists)) t) { written = t.written + count }

-- one more stream is opened
abbrev pub with_one_opened : Dir → Tale → Tale
with_one_opened dir t = record t { opened = λ d. t.opened d + given_for dir d 1 }

-- the send window is set
abbrev pub with_window_of : ℕ → Tale → Tale
with_window_of window t = record t { send_window = window }

-- frames are sent: what those of streams carry was sent
abbrev pub with_frames_sent : List Frame → Tale → Tale
with_frames_sent [] t = t
with_frames_sent (frames.Stream s ∷ fs) t = with_frames_sent fs (with_deed s.id (WasCarried s.offset (s.offset + length s.bytes) s.fin) t)
with_frames_sent (_ ∷ fs) t = with_frames_sent fs t

-- a frame of the peer is accepted: it may permit more, or ask to send no more on a stream
abbrev pub with_frame_heard : Frame → Tale → Tale
with_frame_heard (frames.MaxData limit) t = record t { limit = max t.limit limit }
with_frame_heard (frames.MaxStreams dir count) t = record t { count = λ d. max (t.count d) (given_for dir d count) }
with_frame_heard (frames.MaxStreamData id limit) t = with_deed id (WasPermitted limit) t
with_frame_heard (frames.StopSending f) t = with_deed f.id (WasAskedToStop f.error_code) t
with_frame_heard _ t = t

-- limits are given beside those that were given first
abbrev pub with_limits_given : Side → PeerLimits → Tale → Tale
with_limits_given side limits t = record t {
  flow = λ q. with_least_limit (first_limit side (first_of limits) q) (t.flow q);
  limit = max t.limit limits.initial_max_data;
  count = λ d. max (t.count d) (first_count limits d);
}

-- all that was sent on the streams of an end counts as not sent
abbrev pub with_unsent_told : Side → Tale → Tale
with_unsent_told side t = record t { flow = λ q. if is_local side q then with_unsent (t.flow q) else t.flow q }

-- ---- what is reported of a payload

-- a part of a payload of which something is reported: what a STREAM frame carried, or that a stream was given up
pub data Part : Type 0 where
  Carried : StreamMeta → Part
  GivenUp : ℕ → Part

-- the parts of some frames, in the order in which they are reported: STREAM frames, and then RESET_STREAM frames
abbrev pub parts_in : List Frame → List Part
parts_in all = map Carried (metas_in all) ++ map (λ reset. GivenUp reset.0) (codes_in all)

-- those of what is unreported
abbrev pub parts_of : SentView → List Part
parts_of s = map Carried s.streams ++ map (λ reset. GivenUp reset.0) (resets_of s.control)

-- how many are unreported
abbrev pub parts_left : Unsettled → ℕ
parts_left u = length (parts_of (unwrap_or (option_map sent_view u.rest) (record { streams = []; control = None })))

-- a part was acknowledged
abbrev pub acked_part : Part → Tale → Tale
acked_part (Carried m) t = with_deed m.id (WasAcked m.offsets.start m.offsets.end m.fin) t
acked_part (GivenUp id) t = with_deed id WasResetAcked t

-- one was lost; that a stream was given up is told anew
abbrev pub lost_part : Part → Tale → Tale
lost_part (Carried m) t = with_deed m.id (WasLost m.offsets.start m.offsets.end m.fin) t
lost_part (GivenUp id) t = t

-- so of each, one after another
abbrev pub with_parts : (Part → Tale → Tale) → List Part → Tale → Tale
with_parts deed [] t = t
with_parts deed (x ∷ xs) t = with_parts deed xs (deed x t)

-- ---- what was sent

-- a payload of an end has these frames
pub record WasPayload (sent : List Sent) (who : End) (number : ℕ) (all : List Frame) : Type 0 where
  pub payload : Sent
  pub is : slice_get sent number ≡ Some payload
  pub writer : payload.writer ≡ who
  pub spelled : AreFrames payload.text.bytes all

-- a frame of an end stands at a place
pub record WasFrame (sent : List Sent) (who : End) (at : FramePlace) (frame : Frame) : Type 0 where
  pub payload : Sent
  pub is : slice_get sent at.0 ≡ Some payload
  pub writer : payload.writer ≡ who
  pub frame_is : IsFrameAt payload.text.bytes at.1 frame

-- ---- steps

-- more is told of one end
abbrev pub told_of : End → (Tale → Tale) → Tales → Tales
told_of who change t = record t { of = λ end. if is_same_end end who then change (t.of end) else t.of end }

-- a frame was accepted
pub record HearsOne (sent : List Sent) (at : FramePlace) (t u : Tales) : Type 0 where
  pub who : End
  pub frame : Frame
  pub stood : WasFrame sent who at frame
  pub is : u ≡ told_of (peer who) (with_frame_heard frame) t

-- the next payload was sent
pub record SendsOne (sent : List Sent) (who : End) (t u : Tales) : Type 0 where
  pub all : List Frame
  pub stood : WasPayload sent who t.payloads all
  pub is : u ≡ record (told_of who (with_frames_sent all) t) { payloads = t.payloads + 1 }

-- one was sent, or none: there is one payload more behind the step, or there are as many
abbrev pub SendsOneOrNone : List Sent → List Sent → End → Tales → Tales → Type 0
SendsOneOrNone old new who t u = ((length new ≡ length old) × (u ≡ t)) ⊎ ((length new ≡ length old + 1) × SendsOne new who t u)

-- so many more parts of a payload were reported
abbrev pub told_more : ℕ → ℕ → Tales → Tales
told_more number count t = record t { told = λ n. if n == number then t.told n + count else t.told n }

-- parts of a payload were reported, one after another, from the first that was not told before; what is unreported behind the
-- step was not
pub record TellsParts (new : List Sent) (number : ℕ) (deed : Part → Tale → Tale) (t u : Tales) : Type 0 where
  pub who : End
  pub all : List Frame
  pub stood : WasPayload new who number all
  pub count : ℕ
  pub counts : t.told number + count + parts_left stood.payload.unsettled ≡ length (parts_in all)
  pub is : u ≡ told_more number count (told_of who (with_parts deed (take count (drop (t.told number) (parts_in all)))) t)

-- each of its parts was
pub record TellsAll (new : List Sent) (number : ℕ) (deed : Part → Tale → Tale) (t u : Tales) : Type 0 where
  pub some : TellsParts new number deed t u
  pub each : t.told number + some.count ≡ length (parts_in some.all)

-- what a step and its reply tell, with the payloads that were sent before it and behind it. Whether an `Emit` or an `EmitPart` that ran
-- out of memory sent one, the number of payloads says, as `Pair::payload` answers it. A report that ran out of memory tells of the parts that it
-- reported: those that are not left
abbrev pub StepTells : List Sent → List Sent → Step → Answer → Tales → Tales → Type 0
StepTells old new (steps.Open who dir) (Ok (Id id)) t u = u ≡ told_of who (with_one_opened dir) t
StepTells old new (steps.Write who id bytes) (Ok (Wrote count)) t u = u ≡ told_of who (with_bytes_taken id count (slice_lists bytes)) t
StepTells old new (steps.WriteChunks who id chunks) (Ok (WroteChunks written)) t u = u ≡ told_of who (with_bytes_taken id written.bytes chunks) t
StepTells old new (steps.Finish who id) (Ok Done) t u = u ≡ told_of who (with_deed id WasFinished) t
StepTells old new (steps.Reset who id code) (Ok Done) t u = u ≡ told_of who (with_deed id (WasGivenUp code)) t
StepTells old new (steps.SetSendWindow who window) (Ok Done) t u = u ≡ told_of who (with_window_of window) t
StepTells old new (steps.Emit who most fair) (Ok (Payload number bytes)) t u = SendsOne new who t u × (t.payloads ≡ number)
StepTells old new (steps.Emit who most fair) (Err error) t u = SendsOneOrNone old new who t u
StepTells old new (steps.EmitPart who most fair part) (Ok (Payload number bytes)) t u = SendsOne new who t u × (t.payloads ≡ number)
StepTells old new (steps.EmitPart who most fair part) (Err error) t u = SendsOneOrNone old new who t u
StepTells old new (steps.Deliver number index) (Ok Done) t u = HearsOne old (number, index) t u
StepTells old new (steps.Deliver number index) (Ok DoneTransmit) t u = HearsOne old (number, index) t u
StepTells old new (steps.Lose number) (Ok Done) t u = TellsAll new number lost_part t u
StepTells old new (steps.Lose number) (Err NoMemory) t u = TellsParts new number lost_part t u
StepTells old new (steps.Ack number) (Ok Done) t u = TellsAll new number acked_part t u
StepTells old new (steps.Ack number) (Err NoMemory) t u = TellsParts new number acked_part t u
StepTells old new _ reply t u = u ≡ t

-- steps with their replies, and the payloads that were sent behind each of them
pub data Sendings : History → List Sent → Type 0 where
  none : {sent : List Sent} → Sendings [] sent
  more : {h : History} {old : List Sent} (step : Step) (reply : Answer) (new : List Sent) → Sendings h old → Sendings (h ++ (step, reply) ∷ []) new

-- what a rejection tells: the client begins anew with the limits of the server, and only its send window stays. The server did
-- nothing yet
abbrev pub tale_anew : Beginning → Tales → End → Tale
tale_anew s t A = tale_begun Client (t.of A).send_window (limits_of_b s)
tale_anew s t B = tale_first s B

-- what the next step and its reply tell, of a pair that was made so
abbrev pub TellsOfPair : Beginning → List Sent → List Sent → Step → Answer → Tales → Tales → Type 0
TellsOfPair s old new steps.EarlyAccept (Ok Done) t u = u ≡ told_of A (with_limits_given Client (limits_of_b s)) t
TellsOfPair s old new steps.EarlyReject (Ok Done) t u = u ≡ record t { of = tale_anew s t; told = λ number. 0 }
TellsOfPair s old new steps.Retry (Ok Done) t u = u ≡ told_of A (with_unsent_told Client) t
TellsOfPair s old new step reply t u = StepTells old new step reply t u

-- what all of them tell
abbrev pub Told : {h : History} {sent : List Sent} → Beginning → Sendings h sent → Tales → Type 0
Told s none t = t ≡ tales_begun s
Told s (more {h} {old} step reply new before) u = (t : Tales) × Told s before t × TellsOfPair s old new step reply t u
