-- What is told of the sending side of a stream where all that was sent may be sent again.
use Rattle.std.proofs.Common.{◌≡◌, ℕ, Bool, true, false, List, ◌∷◌, Ok, Err}
use Rattle.std.specs.Prelude.{◌||◌, is_none, if◌then◌else◌}
use Rattle.quic_flows.specs.Flow.{SendFlow}
use Rattle.quic_outgoing.specs.Senders.{is_local}
use Rattle.quic_history.specs.World.{Made}
use Rattle.quic_history.specs.Flows.{has_send_side, send_moved, with_first_limits}
use Rattle.quic_history.specs.Early.{with_unsent, begins_anew}
use Rattle.quic_history.specs.History.{Event, Rejected, SentAgain, flow, send_move_of, limits_in, opened_in_all, send_tale, since, joint_move_of}

-- nothing of it counts as sent
abbrev pub flow_unsent : SendFlow → SendFlow
flow_unsent t = record t { carried = λ n. false; sent_up_to = 0; missing = λ n. false; end_due = t.end_due || t.finished }

unsent_by : (P : SendFlow → Type 0) (t : SendFlow) → P (flow_unsent t) → P t → P (with_unsent t)
unsent_by P t a b = by (is_none t.reset)
  where
    by : (c : Bool) → P (if c then flow_unsent t else t)
    by true = a
    by false = b

-- what holds of a stream once a call did something to it, holds once the call was made, where that it counts as not sent
-- takes nothing from it, and the call rejects no early start
pub flow-called : (P : SendFlow → Type 0) (m : Made) (e : Event) (h : List Event) (q : ℕ) → begins_anew (joint_move_of e) ≡ false → ((t : SendFlow) → P t → P (flow_unsent t))
    → P (with_first_limits (limits_in e) m.side q (send_moved (send_move_of e) (has_send_side m.side (opened_in_all (since h)) (send_tale m h).may_open) q (flow m h q))) → P (flow m (e ∷ h) q)
flow-called P m Rejected h q n k p = cc
flow-called P m (SentAgain (Ok u)) h q n k p = by (is_local m.side q)
  where
    by : (b : Bool) → P (if b then with_unsent (flow m h q) else flow m h q)
    by true = unsent_by P (flow m h q) (k (flow m h q) p) p
    by false = p
flow-called P m (SentAgain (Err u)) h q n k p = p
flow-called P m e h q n k p = p
