-- What is promised of a pair, of each of its steps, and of a settling.
use Rattle.std.specs.Prelude.{[], ◌∷◌, ◌++◌}
use Rattle.quic_steps.specs.declared.steps.Step.{Step}
use Rattle.quic_exchange.specs.Replies.{Answer}
use Rattle.quic_exchange.specs.State.{PairState}
use Rattle.quic_exchange.specs.History.{History, past_of, waits_from}
use Rattle.quic_exchange.specs.From.{Beginning, waits_first, PairFrom}
use Rattle.quic_exchange.specs.Headline.{Headline}
use Rattle.quic_exchange.specs.Honest.{AreHonest}
use Rattle.quic_exchange.specs.Network.{IsNetworkOf}
use Rattle.quic_exchange.specs.Refused.{IsRefusedSo}
use Rattle.quic_exchange.specs.Unrefused.{RefusesNoFrame, AreAllWelcome}
use Rattle.quic_exchange.specs.Readable.{WithholdsNothing}
use Rattle.quic_exchange.specs.Law.{Drains}
use Rattle.quic_exchange.specs.Due.{AsksFor}
use Rattle.quic_exchange.specs.Runs.{PermitsAll, sendings_of}
use Rattle.quic_exchange.specs.Tale.{Told}
use Rattle.quic_exchange.specs.Settling.{IsAllReported, AreIdle, LeavesNoRest}
use Rattle.quic_exchange.specs.Completed.{HaveArrived, HaveBeenRead, HaveBeenTold, AreAllAcked, AreStopsTold}

-- what holds of a pair to which steps led
-- s: the beginning
-- h: the steps from it, with their replies
pub record HoldsOf (s : Beginning) (h : History) (v : PairState) : Type 0 where
  pub from : PairFrom s h v
  pub headline : Headline (past_of h) v.sent
  pub honest : AreHonest (past_of h) v
  pub returned : IsNetworkOf h v.sent
  pub welcome : AreAllWelcome v

-- what holds of a step of such a pair, of its reply, and of the pair behind it
pub record IsPromised (s : Beginning) (h : History) (old : PairState) (step : Step) (reply : Answer) (new : PairState) : Type 0 where
  pub behind : HoldsOf s (h ++ (step, reply) ∷ []) new
  pub refused : IsRefusedSo (waits_from (waits_first s) h) (past_of h) old.sent step reply
  pub unrefused : RefusesNoFrame (past_of h) old.sent step reply new
  pub readable : WithholdsNothing (past_of h) old.sent step reply
  pub drained : Drains (past_of h) old.sent step reply
  pub due : AsksFor old step reply new
  pub not_withheld : (led : PairFrom s h old) → PermitsAll led step reply new.sent

-- it holds of each step of a run, behind a history and the steps of the run before it
abbrev pub EachIsPromised : Beginning → History → History → PairState → Step → Answer → PairState → Type 0
EachIsPromised s h before between step reply after = IsPromised s (h ++ before) between step reply after

-- what holds behind a settling that came to its end
-- h: the steps up to that end
pub record Completes (s : Beginning) (h : History) (v : PairState) : Type 0 where
  pub reported : IsAllReported h v.sent
  pub idle : AreIdle v
  pub sent : (led : PairFrom s h v) → LeavesNoRest (Told s (sendings_of led))
  pub acked : (led : PairFrom s h v) → AreAllAcked (Told s (sendings_of led))
  pub arrived : HaveArrived (past_of h) v.sent
  pub read : HaveBeenRead (past_of h)
  pub told : HaveBeenTold (past_of h)
  pub stops : (led : PairFrom s h v) → AreStopsTold (Told s (sendings_of led)) (past_of h)
