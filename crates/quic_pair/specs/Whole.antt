-- A payload that is handed in whole: its frames are delivered one after another, the first one first.
use Rattle.std.specs.Prelude.{ℕ, ◌≡◌, ◌⊎◌, ◌+◌, ◌≤◌, true, length, List, [], ◌∷◌, ◌++◌, Option, Some, None, is_some, Result, Ok, Err}
use Rattle.quic_wire.specs.declared.error.ReceiveError.TheVariants as receive_error
use Rattle.quic_session.specs.declared.receiving.Received.{Received}
use Rattle.quic_session.specs.declared.receiving.PayloadError.{PayloadError}
use Rattle.quic_session.specs.declared.receiving.PayloadError.TheVariants as payload_error
use Rattle.quic_steps.specs.declared.steps.Step.TheVariants as steps
use Rattle.quic_steps.specs.declared.steps.Reply.TheVariants.{Fault}
use Rattle.quic_steps.specs.declared.steps.PairError.{PairError}
use Rattle.quic_steps.specs.declared.steps.PairError.TheVariants.{NoSuchPayload, Undecided, OutOfMemory as NoMemory}
use Rattle.quic_exchange.specs.Payloads.{LacksFrame}
use Rattle.quic_exchange.specs.Gone.{IsNoPayload}
use Rattle.quic_exchange.specs.Replies.{Answer}
use Rattle.quic_exchange.specs.State.{PairState}
use Rattle.quic_exchange.specs.Steps.{HasPayload}
use Rattle.quic_exchange.specs.History.{History}
use Rattle.quic_exchange.specs.From.{Beginning, PairFrom}
use Rattle.quic_exchange.specs.Promises.{EachIsPromised, HoldsOf}
use Rattle.quic_exchange.specs.Runs.{TakesSteps, StepByStep, StaysIfRefused, NetworkOf}

-- why no frame is delivered behind one that had this reply: there was none, or it was rejected, or memory ran out. A frame that
-- is buffered though there was no memory to compact it is accepted
abbrev pub halt_of : Answer → Option (Result (Unit {0}) PayloadError)
halt_of (Err NoMemory) = Some (Err payload_error.OutOfMemory)
halt_of (Err error) = Some (Ok tt)
halt_of (Ok (Fault (receive_error.Transport error))) = Some (Err (payload_error.Transport error))
halt_of (Ok reply) = None

-- so many frames of a payload were delivered, the first one first, and each was accepted
pub data DeliversFirst (payload : ℕ) : ℕ → History → Type 0 where
  none : DeliversFirst payload 0 []
  more : {count : ℕ} {taken : History} → DeliversFirst payload count taken → (reply : Answer) → halt_of reply ≡ None → DeliversFirst payload (count + 1) (taken ++ (steps.Deliver payload count, reply) ∷ [])

-- all of them were
pub record DeliversEach (payload : ℕ) (r : Received) (taken : History) (new : PairState) : Type 0 where
  pub first : DeliversFirst payload r.next taken
  pub answer : r.answer ≡ Ok tt
  pub there : HasPayload new payload
  pub no_more : LacksFrame there.sent.text.bytes r.next

-- or those before one that was rejected, or for which memory ran out
pub record DeliversUpTo (payload : ℕ) (r : Received) (taken : History) : Type 0 where
  pub accepted : History
  pub first : DeliversFirst payload r.next accepted
  pub reply : Answer
  pub error : PayloadError
  pub why : halt_of reply ≡ Some (Err error)
  pub answer : r.answer ≡ Err error
  pub is : taken ≡ accepted ++ (steps.Deliver payload r.next, reply) ∷ []

-- these steps hand in a payload
abbrev pub AreDeliveries : ℕ → Received → History → PairState → Type 0
AreDeliveries payload r taken new = DeliversEach payload r taken new ⊎ DeliversUpTo payload r taken

-- a payload was handed in, by such steps. What is promised of steps is promised of them
pub record HandsIn (old : PairState) (payload : ℕ) (r : Received) (new : PairState) : Type 0 where
  pub taken : History
  pub are : AreDeliveries payload r taken new
  pub next : TakesSteps old taken new
  pub promises : (s : Beginning) (h : History) → PairFrom s h old → StepByStep (EachIsPromised s h) old taken new
  pub behind : (s : Beginning) (h : History) → PairFrom s h old → HoldsOf s (h ++ taken) new
  pub unchanged : StepByStep StaysIfRefused old taken new
  pub network : StepByStep NetworkOf old taken new

-- why a payload is not handed in: it is not decided whether the server accepts what the client sent early, or else no payload has the
-- number
abbrev pub RefusesPayload : PairState → ℕ → PairError → Type 0
RefusesPayload old payload Undecided = is_some old.waits ≡ true
RefusesPayload old payload NoSuchPayload = (old.waits ≡ None) × IsNoPayload old.sent payload
RefusesPayload old payload _ = ⊥

-- ---- one step after another

-- a payload has the number, and so many bytes
pub record HasBytesWithin (v : PairState) (payload most : ℕ) : Type 0 where
  pub there : HasPayload v payload
  pub within : length there.sent.text.bytes ≤ most

-- the steps alone
abbrev pub DeliversSo : PairState → ℕ → Received → PairState → Type 0
DeliversSo old payload r new = (taken : History) × AreDeliveries payload r taken new × TakesSteps old taken new
