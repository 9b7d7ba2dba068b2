use Rattle.std.specs.Prelude.{Result, Ok, Err, OnOk}
use Rattle.quic_ordered.proofs.Stores.{stems_all, stay_all}
use Rattle.quic_ordered.proofs.store.PieceStore.insert.Goals as goal

pub returns-then-end-offset-clause-stems : goal.returns-then-end-offset-clause-stems
returns-then-end-offset-clause-stems c = stems_all _ _

pub returns-then-end-offset-clause-stays : goal.returns-then-end-offset-clause-stays
returns-then-end-offset-clause-stays c = stay_all _ _ _

weaker : {T E A B : Type 0} (r : Result T E) → OnOk r A → (A → B) → OnOk r B
weaker (Ok x) h f = f h
weaker (Err e) h f = tt

pub returns-clause-joined : goal.returns-clause-joined
returns-clause-joined c = weaker c.hold.result c.hold.ensures.joined (λ h some. rw c.new.ensures at h)
