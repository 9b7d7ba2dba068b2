-- An era of a pair: the steps since it was made, or since the server rejected what the client had sent early.
use Rattle.std.proofs.Common.{◌≡◌, ℕ, List, [], ◌∷◌, ◌++◌, Some, Ok, length}
use Rattle.std.specs.Prelude.{slice_get}
use Rattle.quic_values.specs.declared.ids.Side.TheVariants.{Client, Server}
use Rattle.quic_history.specs.World.{Made}
use Rattle.quic_link.specs.Endpoints.{LimitsWithin, limits_of}
use Rattle.quic_steps.specs.declared.steps.End.{End}
use Rattle.quic_steps.specs.declared.steps.End.TheVariants.{A, B}
use Rattle.quic_steps.specs.declared.steps.Step.{Step}
use Rattle.quic_steps.specs.declared.steps.Step.TheVariants as steps
use Rattle.quic_steps.specs.declared.steps.Reply.TheVariants.{Done}
use Rattle.quic_exchange.specs.Sent.{Sent}
use Rattle.quic_exchange.specs.Replies.{Answer}
use Rattle.quic_exchange.specs.State.{PairState}
use Rattle.quic_exchange.specs.Gone.{IsGone}
use Rattle.quic_exchange.specs.Steps.{NextOrdinary, AcceptsEarly, Retries}
use Rattle.quic_exchange.specs.History.{History, Past, past_of}
use Rattle.quic_exchange.specs.From.{end_begun, AreSoundLimits}
use Rattle.quic_exchange.specs.Tale.{Tale, Tales, tale_begun, told_of, with_limits_given, with_unsent_told, StepTells}
use Rattle.quic_exchange.proofs.Origins.{Origin, made_in}
use Rattle.quic_exchange.proofs.Begun.{AreTwoEnds}
use Rattle.quic_exchange.proofs.OwnDoings.{DidOwn, AreUntaken}

-- a pair at the beginning of an era: nothing is kept of the payloads before it
pub record IsBegun (a b : Origin) (v : PairState) : Type 0 where
  pub of_a : v.a ≡ end_begun (made_in Client a) a.limits
  pub of_b : v.b ≡ end_begun (made_in Server b) b.limits
  pub ends : AreTwoEnds (made_in Client a) (made_in Server b) a.limits b.limits
  pub gone : (number : ℕ) (s : Sent) → slice_get v.sent number ≡ Some s → IsGone s
  pub limits_a : AreSoundLimits a.limits
  pub limits_b : AreSoundLimits b.limits

-- what the server does to what a client sent early, within an era: it accepts it, or asks the client to begin again
pub data Changes (b : Origin) (p : Past) (old new : PairState) : Step → Type 0 where
  accepts : (k : AcceptsEarly old new) → LimitsWithin k.limits.others (limits_of (made_in Server b)) → AreSoundLimits k.limits.others → Changes b p old new steps.EarlyAccept
  retries : (k : Retries old new) (m : Made) → DidOwn m old.a.streams → AreUntaken old.sent → p.accepted ≡ [] → p.kept ≡ [] → Changes b p old new steps.Retry

pub data EraFrom (a b : Origin) : History → PairState → Type 0 where
  begun : {v : PairState} → IsBegun a b v → EraFrom a b [] v
  next : {h : History} {old new : PairState} (step : Step) (reply : Answer) → EraFrom a b h old → NextOrdinary old step reply new → EraFrom a b (h ++ (step, reply) ∷ []) new
  changed : {h : History} {old new : PairState} (step : Step) → EraFrom a b h old → Changes b (past_of h) old new step → EraFrom a b (h ++ (step, Ok Done) ∷ []) new

-- ---- what is told

abbrev pub tale_in : Origin → Origin → End → Tale
tale_in a b A = tale_begun Client a.send_window a.limits
tale_in a b B = tale_begun Server b.send_window b.limits

-- before the first step of an era
abbrev pub tales_in : Origin → Origin → List Sent → Tales
tales_in a b sent = record { of = tale_in a b; payloads = length sent; told = λ number. 0 }

-- what the server's acceptance, and its wish to begin again, tell
abbrev pub tales_changed : {b : Origin} {p : Past} {old new : PairState} {step : Step} → Changes b p old new step → Tales → Tales
tales_changed (accepts k within few) t = told_of A (with_limits_given Client k.limits.others) t
tales_changed (retries k m did mine accepted kept) t = told_of A (with_unsent_told Client) t

-- what all steps of an era tell
abbrev pub ToldIn : {a b : Origin} {h : History} {v : PairState} → EraFrom a b h v → Tales → Type 0
ToldIn {a} {b} {h} {v} (begun n) t = t ≡ tales_in a b v.sent
ToldIn (next {h} {old} {new} step reply f n) u = (t : Tales) × ToldIn f t × StepTells old.sent new.sent step reply t u
ToldIn (changed step f c) u = (t : Tales) × ToldIn f t × (u ≡ tales_changed c t)
