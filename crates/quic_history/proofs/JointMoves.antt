-- What is done to the sending sides of all streams at once.
use Rattle.std.proofs.Common.{◌≡◌, ℕ, Bool, true, false, [], Option, Some, None, refl}
use Rattle.std.specs.Prelude.{◌||◌, is_none, if◌then◌else◌}
use Rattle.quic_values.specs.declared.ids.Side.{Side}
use Rattle.quic_flows.specs.Flow.{SendFlow, new_flow}
use Rattle.quic_outgoing.specs.Senders.{is_local}
use Rattle.quic_history.specs.Early.{JointMove, WereDropped, WereUnsent, with_unsent, with_joint_move}

-- what is said of a call that does nothing to all of them
abbrev pub Alone : Option JointMove → Type 0 → Type 0
Alone None T = T
Alone (Some m) T = Unit {0}

pub alone : (T : Type 0) (o : Option JointMove) → o ≡ None → Alone o T → T
alone T None n t = t
alone T (Some m) n t = cc

-- what holds of what is told of a stream, and where that begins anew, holds then
joint_if : (P : SendFlow → Type 0) (o : Option JointMove) (side : Side) (q : ℕ) (t : SendFlow) → P t → P (new_flow 0) → ((c : Bool) → P (if c
    then record t { carried = λ n. false; sent_up_to = 0; missing = λ n. false; end_due = t.end_due || t.finished } else t)) → P (with_joint_move o side q t)
joint_if P None side q t here anew unsent = here
joint_if P (Some WereDropped) side q t here anew unsent = anew
joint_if P (Some WereUnsent) side q t here anew unsent = by (is_local side q)
  where
    by : (b : Bool) → P (if b then with_unsent t else t)
    by true = unsent (is_none t.reset)
    by false = here

pub joint-cuts : (o : Option JointMove) (side : Side) (q : ℕ) (t : SendFlow) → t.cuts ≡ [] → (with_joint_move o side q t).cuts ≡ []
joint-cuts o side q t e = joint_if (λ x. x.cuts ≡ []) o side q t e refl by
  where
    by : (c : Bool) → (if c then record t { carried = λ n. false; sent_up_to = 0; missing = λ n. false; end_due = t.end_due || t.finished } else t).cuts ≡ []
    by true = e
    by false = e

pub joint-freed : (o : Option JointMove) (side : Side) (q : ℕ) (t : SendFlow) → t.freed ≡ false → (with_joint_move o side q t).freed ≡ false
joint-freed o side q t e = joint_if (λ x. x.freed ≡ false) o side q t e refl by
  where
    by : (c : Bool) → (if c then record t { carried = λ n. false; sent_up_to = 0; missing = λ n. false; end_due = t.end_due || t.finished } else t).freed ≡ false
    by true = e
    by false = e
