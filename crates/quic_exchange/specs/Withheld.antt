-- Nothing permitted is withheld on the sending side, by what the steps before tell.
use Rattle.std.specs.Prelude.{ℕ, true, false, ◌≡◌, ◌⊎◌, ◌<◌, ◌≤◌, ◌+◌, ◌-◌, min, length, Some, Ok}
use Rattle.std.specs.List.{concat}
use Rattle.quic_values.specs.declared.ids.Dir.TheVariants.{Uni}
use Rattle.quic_values.specs.Ids.{dir_of}
use Rattle.quic_flows.specs.Flow.{SendFlow, takes_data}
use Rattle.quic_outgoing.specs.Senders.{is_local}
use Rattle.quic_history.specs.Flows.{room_on, HasRest}
use Rattle.quic_steps.specs.declared.steps.End.{End}
use Rattle.quic_steps.specs.declared.steps.PayloadPart.TheVariants.{Streams}
use Rattle.quic_steps.specs.declared.steps.Step.{Step}
use Rattle.quic_steps.specs.declared.steps.Step.TheVariants as steps
use Rattle.quic_steps.specs.declared.steps.Reply.TheVariants.{Nothing, Wrote, WroteChunks, Blocked, Stopped, Closed, Payload}
use Rattle.quic_exchange.specs.Replies.{Answer}
use Rattle.quic_exchange.specs.Readable.{side_of}
use Rattle.quic_exchange.specs.Tale.{Tale, Tales, retained_by}

-- how many bytes may be written on a stream: the least of what the limit of the connection leaves, the send window, and the
-- limit of the stream (RFC 9000 sections 4.1 and 4.2)
abbrev pub room_told : Tale → ℕ → ℕ
room_told t id = min (min (t.limit - t.written) (t.send_window - retained_by t)) (room_on (t.flow id))

-- a stream takes no more data: it was ended, given up, or wholly acknowledged
abbrev pub RefusesData : SendFlow → Type 0
RefusesData f = (takes_data f.reset f.finished ≡ false) ⊎ (f.freed ≡ true)

-- a stream on which an end only receives
abbrev pub OnlyReceives : End → ℕ → Type 0
OnlyReceives who id = (is_local (side_of who) id ≡ false) × (dir_of id ≡ Uni)

-- what a write of so many bytes is answered: it takes as many as may be written, and is blocked only where none may
abbrev pub WritesTold : Tale → End → ℕ → ℕ → Answer → Type 0
WritesTold t who id count (Ok (Wrote bytes)) = (bytes ≡ min count (room_told t id)) × (0 < room_told t id)
WritesTold t who id count (Ok (WroteChunks written)) = (written.bytes ≡ min count (room_told t id)) × (0 < room_told t id)
WritesTold t who id count (Ok Blocked) = room_told t id ≡ 0
WritesTold t who id count (Ok (Stopped code)) = (t.flow id).stopped ≡ Some code
WritesTold t who id count (Ok Closed) = OnlyReceives who id ⊎ RefusesData (t.flow id)
WritesTold t who id count _ = Unit {0}

-- what a step is permitted it does: no stream is opened only where as many were as the peer permits (section 4.6)
abbrev pub DoesAsPermitted : Tales → Step → Answer → Type 0
DoesAsPermitted t (steps.Open who dir) (Ok Nothing) = (t.of who).count dir ≤ (t.of who).opened dir
DoesAsPermitted t (steps.Write who id bytes) reply = WritesTold (t.of who) who id (length bytes) reply
DoesAsPermitted t (steps.WriteChunks who id chunks) reply = WritesTold (t.of who) who id (length (concat chunks)) reply
DoesAsPermitted t _ reply = Unit {0}

-- after a payload, unless it was one of control frames alone, something is left to be sent on a stream only where the longest beginning of a STREAM frame does not fit
-- into what the payload leaves (section 19.8)
abbrev pub LeavesNone : Tales → Step → Answer → Type 0
LeavesNone u (steps.Emit who most fair) (Ok (Payload number bytes)) = (id : ℕ) → HasRest ((u.of who).flow id) → most ≤ length bytes.items + 25
LeavesNone u (steps.EmitPart who most fair Streams) (Ok (Payload number bytes)) = (id : ℕ) → HasRest ((u.of who).flow id) → most ≤ length bytes.items + 25
LeavesNone u _ reply = Unit {0}

-- a step withholds nothing on the sending side that is permitted, by what the steps tell
-- told: what those before it tell; tells: what it adds to that
-- before: what those before it tell, and nothing else
-- behind: what they and this one do
pub record NotWithheld (told : Tales → Type 0) (tells : Tales → Tales → Type 0) (step : Step) (reply : Answer) : Type 0 where
  pub before : Tales
  pub behind : Tales
  pub is_told : told before
  pub told_alone : (t : Tales) → told t → t ≡ before
  pub tells_so : tells before behind
  pub tells_alone : (t : Tales) → tells before t → t ≡ behind
  pub does : DoesAsPermitted before step reply
  pub leaves : LeavesNone behind step reply
