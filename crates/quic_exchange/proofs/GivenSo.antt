-- The streams that count as given in a pair are those that `Open` and `Accept` answered.
use Rattle.std.proofs.Common.{◌≡◌, ℕ, Bool, true, false, sym, subst, arith, ◌<◌}
use Rattle.std.specs.Prelude.{◌↔◌, nat_lt, if◌then◌else◌}
use Rattle.std.proofs.lemmas.Bool.Decides.{nat_tests}
use Rattle.quic_values.specs.Ids.{dir_of, index_of}
use Rattle.quic_outgoing.specs.Outgoing.{own_of}
use Rattle.quic_history.specs.World.{World, is_own, remote_of}
use Rattle.quic_history.specs.Acknowledged.{was_given}
use Rattle.quic_link.specs.Endpoints.{LinkedEnd, IsOneOf, WasGiven}
use Rattle.quic_link.specs.Promises.{Promises}
use Rattle.quic_link.proofs.Promised.{promised}
use Rattle.quic_steps.specs.declared.steps.End.{End}
use Rattle.quic_steps.specs.declared.steps.End.TheVariants.{A, B}
use Rattle.quic_exchange.proofs.Origins.{Origin}
use Rattle.quic_exchange.specs.State.{PairState, the_end}
use Rattle.quic_exchange.specs.History.{Past, History, past_of}
use Rattle.quic_exchange.proofs.Eras.{EraFrom}
use Rattle.quic_exchange.proofs.Joined.{Stands, Knows, Joined}
use Rattle.quic_exchange.proofs.CallsSetting.{was-given}
use Rattle.quic_exchange.proofs.Grown.{joined-from}

-- one that was given counts as given
pub given_counts : (w : World) (id : ℕ) → WasGiven w id → was_given w id ≡ true
given_counts w id h = by (is_own w id) h
  where
    less : (a b : ℕ) → a < b → nat_lt a b ≡ true
    less a b k = grind (arith, nat_tests)

    by : (own : Bool) → index_of id < (if own then (own_of w.out (dir_of id)).opened else (remote_of w (dir_of id)).next_reported)
        → (if own then nat_lt (index_of id) (own_of w.out (dir_of id)).opened else nat_lt (index_of id) (remote_of w (dir_of id)).next_reported) ≡ true
    by true k = less _ _ k
    by false k = less _ _ k

-- the streams that count as given are these
abbrev pub AreKnown : PairState → Past → End → Type 0
AreKnown v p who = (id : ℕ) → (was_given (the_end v who).streams id ≡ true) ↔ IsOneOf id (p.ids who)

known_end : (p : Past) (v : PairState) (who : End) (x y : LinkedEnd) → Knows p v.sent who x y → Stands x (the_end v who) → Promises x y → AreKnown v p who
known_end p v who x y k here all id =
    let P : World → Type 0 = λ w. WasGiven w id in (
      λ h. (k.ids id).0 ((all.given id).0 (subst P (sym here.world) (was-given (the_end v who).streams id h))),
      λ h. given_counts (the_end v who).streams id (subst P here.world ((all.given id).1 ((k.ids id).1 h))),
    )

known_joined : (a b : Origin) (p : Past) (v : PairState) → Joined a b p v → (who : End) → AreKnown v p who
known_joined a b p v j A = known_end p v A j.first j.second j.seen.sends j.seen.here (promised j.seen.linked).0
known_joined a b p v j B = known_end p v B j.second j.first j.seen.receives j.seen.there (promised j.seen.linked).1

-- whatever steps led to a pair
pub known-from : {a b : Origin} {h : History} {v : PairState} → EraFrom a b h v → (who : End) → AreKnown v (past_of h) who
known-from {a} {b} {h} {v} f who = known_joined a b (past_of h) v (joined-from f) who
