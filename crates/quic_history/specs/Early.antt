-- An early start (RFC 9001 section 4.6): what its rejection does to an end, and what sending all of it again does.
use Rattle.std.specs.Prelude.{ℕ, ℤ, Bool, true, false, ◌≡◌, ◌||◌, is_none, is_some, if◌then◌else◌, List, [], ◌∷◌, ◌++◌, Option, Some, None, Result, Ok, Err}
use Rattle.quic_values.specs.declared.memory.OutOfMemory.{OutOfMemory}
use Rattle.quic_values.specs.declared.ids.Side.{Side}
use Rattle.quic_values.specs.declared.ids.Side.TheVariants.{Client}
use Rattle.quic_values.specs.declared.ids.Dir.{Dir}
use Rattle.quic_values.specs.declared.ids.Dir.TheVariants.{Bi, Uni}
use Rattle.quic_values.specs.Ids.{other_side}
use Rattle.quic_limits.specs.Remote.{Remote, none_announced}
use Rattle.quic_queue.specs.declared.queue.Entry.{Entry}
use Rattle.quic_queue.specs.SendOrder.{SendOrder, empty_queue, with_entry}
use Rattle.quic_receiving.specs.Half.{Half}
use Rattle.quic_flows.specs.Flow.{SendFlow, new_flow}
use Rattle.quic_outgoing.specs.Senders.{is_local}
use Rattle.quic_outgoing.specs.Outgoing.{Outgoing, own_ids}
use Rattle.quic_outgoing.specs.Early.{after_rejection, with_all_unsent, KeepsAcked, QueuesUnsent}
use Rattle.quic_history.specs.Halves.{Halves}
use Rattle.quic_history.specs.World.{World, id_refusal}
use Rattle.quic_history.specs.Used.{halves_among}
use Rattle.quic_history.specs.Flows.{has_side_in}

-- a client to whose early start its peer has not answered: nothing came on the streams that it opened, and no send half
-- of a stream of its peer was freed
pub record IsEarly (w : World) : Type 0 where
  pub client : w.out.side ≡ Client
  pub own : (q : ℕ) → is_local w.out.side q ≡ true → id_refusal w q ≡ None → (h : Half) × (w.receive q ≡ Some h) × (h.end ≡ 0)
  pub peer : (q : ℕ) → is_local w.out.side q ≡ false → has_side_in w.out w.bi.max_remote q ≡ true → is_some (w.out.halves q) ≡ true

-- the receive halves of the streams of this end go
unfoldable pub without_own : Side → Halves → Halves
without_own side f = λ q. if is_local side q then None else f q

-- what was announced of the peer's streams may have been lost, but not what an end is made with
abbrev pub announced_anew : Bool → Remote → Remote
announced_anew adjusted r = if adjusted then none_announced r else r

-- an early start was rejected: the streams of this end are gone, and nothing is to be sent
abbrev pub with_rejection : World → World
with_rejection w = record w {
  out = after_rejection w.out;
  queue = empty_queue;
  receive = without_own w.out.side w.receive;
  bi = announced_anew w.adjusted w.bi;
  uni = announced_anew w.adjusted w.uni;
  send_streams = halves_among w (other_side w.out.side) Bi w.bi.next_reported;
}

-- the entry of a stream that is queued at a priority
abbrev pub entry_at : ℕ → Option ℤ → List Entry
entry_at id None = []
entry_at id (Some priority) = record { priority = priority; id = id } ∷ []

-- these are the entries of those of some streams that are to be queued once all counts as not sent
abbrev pub AreUnsentOf : Outgoing → List ℕ → List Entry → Type 0
AreUnsentOf o [] es = es ≡ []
AreUnsentOf o (id ∷ ids) es = (queue : Option ℤ) × QueuesUnsent (o.halves id) queue × (rest : List Entry) × AreUnsentOf o ids rest × (es ≡ entry_at id queue ++ rest)

-- several entries more, one after another
abbrev pub with_entries_put : SendOrder → List Entry → SendOrder
with_entries_put q [] = q
with_entries_put q (e ∷ es) = with_entries_put (with_entry q e) es

-- all that an early start sent is to be sent again: each stream that has something to be sent then, and had nothing
-- before, is queued. Out of memory, nothing changes
abbrev pub SendsAgain : World → Result (Unit {0}) OutOfMemory → World → Type 0
SendsAgain u (Ok x) v = (es : List Entry) × AreUnsentOf u.out (own_ids u.out) es × (v ≡ record u { out = with_all_unsent u.out; queue = with_entries_put u.queue es })
SendsAgain u (Err e) v = v ≡ u

-- also where something was acknowledged: the streams of which something was stay as they are, and nothing changes but
-- what is to be sent of the others, and which are queued
pub record ResendsOnlyUnacked (u v : World) : Type 0 where
  pub kept : KeepsAcked u.out.halves v.out.halves
  pub rest : v ≡ record u { out = record u.out { halves = v.out.halves }; queue = v.queue }

-- what a call did to the sending sides of all streams at once
pub data JointMove : Type 0 where
  -- an early start was rejected
  WereDropped : JointMove
  -- what was sent on those of this end counts as not sent
  WereUnsent : JointMove

-- all that was written on a stream counts as not sent, and so does its end
abbrev pub with_unsent : SendFlow → SendFlow
with_unsent t = if is_none t.reset then record t { carried = λ n. false; sent_up_to = 0; missing = λ n. false; end_due = t.end_due || t.finished } else t

-- what is told of the sending side of a stream once that was done
abbrev pub with_joint_move : Option JointMove → Side → ℕ → SendFlow → SendFlow
with_joint_move None side q t = t
with_joint_move (Some WereDropped) side q t = new_flow 0
with_joint_move (Some WereUnsent) side q t = if is_local side q then with_unsent t else t

-- whether all that is told of the streams of this end begins anew
abbrev pub begins_anew : Option JointMove → Bool
begins_anew None = false
begins_anew (Some WereDropped) = true
begins_anew (Some WereUnsent) = false
