-- How all that was begun is completed once the network is fair: the steps, in their order, and what is settled behind them.
use Rattle.std.specs.Prelude.{ℕ, Bool, true, false, ◌≡◌, ◌⊎◌, ◌≤◌, ◌<◌, ◌+◌, ◌-◌, ◌^◌, ◌&&◌, min, nat_lt, if◌then◌else◌, List, [], ◌∷◌, ◌++◌, length, slice_get, Option, Some, None, is_some, unwrap_or, Result, Ok, Err, is_ok}
use Rattle.std.specs.Option.{option_map}
use Rattle.quic_values.specs.declared.memory.OutOfMemory.{OutOfMemory}
use Rattle.quic_values.specs.declared.ids.Side.{Side}
use Rattle.quic_values.specs.declared.ids.Side.TheVariants.{Client, Server}
use Rattle.quic_values.specs.declared.ids.Dir.{Dir}
use Rattle.quic_values.specs.declared.ids.Dir.TheVariants.{Bi, Uni}
use Rattle.quic_values.specs.Ids.{initiator_of, dir_of, index_of, stream_id}
use Rattle.quic_wire.specs.declared.error.ReceiveError.TheVariants as receive_error
use Rattle.quic_queue.specs.SendOrder.{line}
use Rattle.quic_history.specs.Control.{HasNoneOf}
use Rattle.quic_history.specs.Flows.{HasRest}
use Rattle.quic_history.specs.declared.control.ControlKind.{ControlKind}
use Rattle.quic_endpoint.specs.Ends.{EndState}
use Rattle.quic_link.specs.Endpoints.{IsOneOf}
use Rattle.quic_steps.specs.declared.steps.End.{End}
use Rattle.quic_steps.specs.declared.steps.End.TheVariants.{A, B}
use Rattle.quic_steps.specs.declared.steps.Step.{Step}
use Rattle.quic_steps.specs.declared.steps.Step.TheVariants as steps
use Rattle.quic_steps.specs.declared.steps.Last.{Last}
use Rattle.quic_steps.specs.declared.steps.Last.TheVariants as last
use Rattle.quic_steps.specs.declared.steps.Reply.TheVariants.{Nothing, Closed, Illegal, Read, Payload, Fault}
use Rattle.quic_steps.specs.declared.steps.PairError.TheVariants.{OutOfMemory as NoMemory}
use Rattle.quic_exchange.specs.Sent.{Sent}
use Rattle.quic_exchange.specs.declared.phase.Phase.{Phase}
use Rattle.quic_exchange.specs.declared.phase.Phase.TheVariants as phase
use Rattle.quic_exchange.specs.declared.phase.Going.{Going}
use Rattle.quic_exchange.specs.declared.phase.Going.TheVariants.{On, Over, StreamOver, Unordered}
use Rattle.quic_exchange.specs.Unsettled.{is_quiet}
use Rattle.quic_exchange.specs.Replies.{Answer}
use Rattle.quic_exchange.specs.State.{PairState}
use Rattle.quic_exchange.specs.Steps.{NextTaken}
use Rattle.quic_exchange.specs.History.{History, past_of}
use Rattle.quic_exchange.specs.Tale.{Tales}

-- ---- the steps

-- the step of a phase. Payloads have room for all that is to be sent, and reads ask for as much as may be asked for
abbrev pub step_at : Phase → Step
step_at (phase.Report payload quiet) = steps.Ack payload
step_at (phase.ReportLost payload quiet) = steps.Lose payload
step_at (phase.Accept who dir) = steps.Accept who dir
step_at (phase.Read who id ordered) = steps.Read who id ordered (2 ^ 64 - 1) 65535
step_at (phase.Poll who) = steps.Poll who
step_at phase.EmitOfA = steps.Emit A (2 ^ 64 - 1) true
step_at (phase.EmitOfB first empty quiet) = steps.Emit B (2 ^ 64 - 1) true
step_at (phase.Deliver payload frame next quiet) = steps.Deliver payload frame
step_at (phase.Drop payload) = steps.Lose payload

-- what a reply says of its step; nothing where memory ran out
abbrev pub going_reading : Last → Option Going
going_reading last.Memory = None
going_reading last.More = Some On
going_reading _ = Some StreamOver

abbrev pub going_sending : List ℕ → Going
going_sending [] = Over
going_sending (b ∷ bs) = On

abbrev pub going_of : Answer → Option Going
going_of (Err NoMemory) = None
going_of (Err error) = Some Over
going_of (Ok (Fault receive_error.CompactionMemory)) = None
going_of (Ok (Read chunks last transmit)) = going_reading last
going_of (Ok Closed) = Some StreamOver
going_of (Ok Illegal) = Some Unordered
going_of (Ok Nothing) = Some Over
going_of (Ok (Payload number bytes)) = Some (going_sending bytes.items)
going_of (Ok _) = Some On

abbrev pub is_nothing_more : Going → Bool
is_nothing_more Over = true
is_nothing_more _ = false

-- ---- their order

-- behind an acknowledgement; where it was refused the payload is reported lost
abbrev pub phase_after_report : ℕ → Bool → Going → Phase
phase_after_report payload quiet On = phase.Report payload quiet
phase_after_report payload quiet _ = phase.ReportLost payload quiet

-- behind the last report. Behind a quiet round nothing is accepted or read
abbrev pub behind_reports : Bool → Phase
behind_reports true = phase.Poll A
behind_reports false = phase.Accept A Bi

-- behind the last stream of a direction to accept
abbrev pub after_accepting : End → Dir → Phase
after_accepting A Bi = phase.Accept A Uni
after_accepting A Uni = phase.Accept B Bi
after_accepting B Bi = phase.Accept B Uni
after_accepting B Uni = phase.Read A 0 true

abbrev pub after_accept : End → Dir → Going → Phase
after_accept who dir On = phase.Accept who dir
after_accept who dir _ = after_accepting who dir

-- behind the last stream of its opener and direction to read: those of the client, of the server, and the peer's
-- unidirectional ones; of A and then of B
abbrev pub after_streams : End → Side → Dir → Phase
after_streams A Client d = phase.Read A 1 true
after_streams A Server Bi = phase.Read A 3 true
after_streams A Server Uni = phase.Read B 0 true
after_streams B Client Bi = phase.Read B 1 true
after_streams B Server d = phase.Read B 2 true
after_streams B Client Uni = phase.Poll A

-- behind a stream
abbrev pub after_stream : End → ℕ → Phase
after_stream who id = if nat_lt (index_of id + 1) (2 ^ 60) then phase.Read who (stream_id (initiator_of id) (dir_of id) (index_of id + 1)) true else after_streams who (initiator_of id) (dir_of id)

abbrev pub after_reading : End → ℕ → Bool → Going → Phase
after_reading who id ordered On = phase.Read who id ordered
after_reading who id ordered Unordered = phase.Read who id false
after_reading who id ordered StreamOver = after_stream who id
after_reading who id ordered Over = after_streams who (initiator_of id) (dir_of id)

abbrev pub after_polling : End → Going → Phase
after_polling who On = phase.Poll who
after_polling A _ = phase.Poll B
after_polling B _ = phase.EmitOfA

-- behind the payloads of both: neither has a frame, or those of the first are delivered
abbrev pub after_emits : ℕ → Bool → Going → ℕ → Bool → Phase
after_emits first true Over second quiet = phase.Drop first
after_emits first empty going second quiet = phase.Deliver first 0 (Some second) quiet

abbrev pub after_frame : ℕ → ℕ → Option ℕ → Bool → Going → Phase
after_frame payload frame (Some other) quiet Over = phase.Deliver other 0 None quiet
after_frame payload frame None quiet Over = phase.Report 0 quiet
after_frame payload frame next quiet going = phase.Deliver payload (min (frame + 1) (2 ^ 64 - 1)) next quiet

-- whether the payload of a number is quiet: it has nothing for a reader
abbrev pub is_quiet_at : List Sent → ℕ → Bool
is_quiet_at sent number = unwrap_or (option_map (λ (s : Sent). is_quiet s.unsettled.rest) (slice_get sent number)) true

-- what is next behind a step before which so many payloads were sent, and whether the next of them is quiet, where the step
-- sent it. A round of two payloads is quiet where both are
abbrev pub phase_after : Phase → Going → ℕ → Bool → Phase
phase_after (phase.Report payload quiet) going sent last_quiet = phase_after_report payload quiet going
phase_after (phase.ReportLost payload quiet) going sent last_quiet = phase.Report payload quiet
phase_after (phase.Accept who dir) going sent last_quiet = after_accept who dir going
phase_after (phase.Read who id ordered) going sent last_quiet = after_reading who id ordered going
phase_after (phase.Poll who) going sent last_quiet = after_polling who going
phase_after phase.EmitOfA going sent last_quiet = phase.EmitOfB sent (is_nothing_more going) last_quiet
phase_after (phase.EmitOfB first empty quiet) going sent last_quiet = after_emits first empty going sent (quiet && last_quiet)
phase_after (phase.Deliver payload frame next quiet) going sent last_quiet = after_frame payload frame next quiet going
phase_after (phase.Drop payload) going sent last_quiet = phase.Drop payload

-- ---- what is settled behind them

-- nothing is unreported of the payloads of these numbers
abbrev pub AreSettledIn : ℕ → ℕ → List Sent → Type 0
AreSettledIn start behind sent = (number : ℕ) (s : Sent) → start ≤ number → number < behind → slice_get sent number ≡ Some s → s.unsettled.rest ≡ None

-- every payload that did not leave was reported, by what the replies to reports say (RFC 9000 section 13.3)
abbrev pub IsAllReported : History → List Sent → Type 0
IsAllReported h sent = (number : ℕ) (s : Sent) → slice_get sent number ≡ Some s → s.gone ≡ false → IsOneOf number (past_of h).settled

-- an end has nothing to send: no control frame of any kind is pending, and no stream stands in the send queue
pub record IsIdle (e : EndState) : Type 0 where
  pub kinds : (kind : ControlKind) → HasNoneOf kind e.pending
  pub streams : line e.streams.queue ≡ []

-- neither has
pub record AreIdle (v : PairState) : Type 0 where
  pub of_a : IsIdle v.a
  pub of_b : IsIdle v.b

-- nothing is left to be sent on any stream, by what is told: no byte that was written and no end that no frame carried, and none
-- that was lost since and not acknowledged
abbrev pub LeavesNoRest : (Tales → Type 0) → Type 0
LeavesNoRest told = (t : Tales) → told t → (who : End) (id : ℕ) → HasRest ((t.of who).flow id) → ⊥

-- ---- one step, and the next

-- the step of a phase was taken and noted with its reply, and what is next is known unless memory ran out; or there was
-- no room to note it, and none was taken
pub record TakesPhase (old : PairState) (before : History) (at : Phase) (answer : Result Phase OutOfMemory) (new : PairState) (behind : History) : Type 0 where
  pub reply : Answer
  pub next : NextTaken old (step_at at) reply new
  pub noted : behind ≡ before ++ (step_at at, reply) ∷ []
  pub goes : (next_one : Phase) → answer ≡ Ok next_one → (going : Going) × (going_of reply ≡ Some going) × (next_one ≡ phase_after at going (length old.sent) (is_quiet_at new.sent (length old.sent)))
  pub wanting : (error : OutOfMemory) → answer ≡ Err error → going_of reply ≡ None

abbrev pub TakesPhaseOrNone : PairState → History → Phase → Result Phase OutOfMemory → PairState → History → Type 0
TakesPhaseOrNone old before at answer new behind = TakesPhase old before at answer new behind ⊎ ((is_ok answer ≡ false) × (new ≡ old) × (behind ≡ before))

-- a payload from a number on, before which all from there on are settled
pub record IsNextFrom (sent : List Sent) (from number : ℕ) : Type 0 where
  pub low : from ≤ number
  pub within : number < length sent
  pub before : AreSettledIn from number sent

-- before a phase is begun, the next payload that is to be reported is sought from a number on
abbrev pub IsSoughtFor : List Sent → Phase → Phase → Type 0
IsSoughtFor sent (phase.Report from quiet) next = ((number : ℕ) × IsNextFrom sent from number × (next ≡ phase.Report number quiet)) ⊎ (AreSettledIn from (length sent) sent × (next ≡ behind_reports quiet))
IsSoughtFor sent (phase.Drop first) next = ((number : ℕ) × IsNextFrom sent first number × (next ≡ phase.Drop number)) ⊎ ((number : ℕ) × IsNextFrom sent 0 number × (next ≡ phase.Report number true))
IsSoughtFor sent at next = next ≡ at

-- steps were taken one after the other, from a phase on, each of the phase that was sought; and what is next is as its reply says
pub data FollowsPhases (old : PairState) (first : Phase) : History → PairState → Phase → Type 0 where
  none : FollowsPhases old first [] old first
  more : {taken : History} {between new : PairState} {at : Phase} (here : Phase) (reply : Answer) (going : Going) → FollowsPhases old first taken between at → IsSoughtFor between.sent at here
      → NextTaken between (step_at here) reply new → going_of reply ≡ Some going → FollowsPhases old first (taken ++ (step_at here, reply) ∷ []) new (phase_after here going (length between.sent) (is_quiet_at new.sent (length between.sent)))

-- there is none where both ends had nothing to send, and every payload is settled
pub record IsSettledAt (at : Phase) (sent : List Sent) : Type 0 where
  pub first : ℕ
  pub was : at ≡ phase.Drop first
  pub settled : AreSettledIn 0 (length sent) sent

-- the steps are those of a settling, from its first phase to its end
pub record IsSettling (old : PairState) (taken : History) (new : PairState) : Type 0 where
  pub at : Phase
  pub follows : FollowsPhases old (phase.Report 0 false) taken new at
  pub ended : IsSettledAt at new.sent

-- they were cut off where memory ran out: by the reply of the last step, or for the list, and then the next was not taken
pub record IsCutOff (old : PairState) (taken : History) (new : PairState) : Type 0 where
  pub before : History
  pub between : PairState
  pub at : Phase
  pub follows : FollowsPhases old (phase.Report 0 false) before between at
  pub here : Phase
  pub sought : IsSoughtFor between.sent at here
  pub last : ((new ≡ between) × (taken ≡ before)) ⊎ ((reply : Answer) × NextTaken between (step_at here) reply new × (going_of reply ≡ None) × (taken ≡ before ++ (step_at here, reply) ∷ []))

-- memory ran out in the last step, by its reply, or for the list of steps: then that has no room for one more
abbrev pub IsOutOfMemory : History → ℕ → Type 0
IsOutOfMemory taken room = (room ≤ length taken) ⊎ ((before : History) × (step : Step) × (reply : Answer) × (taken ≡ before ++ (step, reply) ∷ []) × (going_of reply ≡ None))

-- it was not decided whether the server takes what the client sends early, and no step was taken
pub record IsUndecided (old : PairState) (taken : History) (new : PairState) : Type 0 where
  pub waits : is_some old.waits ≡ true
  pub taken_is : taken ≡ []
  pub same : new ≡ old
