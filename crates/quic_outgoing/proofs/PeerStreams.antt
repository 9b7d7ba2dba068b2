-- The peer's bidirectional streams, one after another, from an index on.
use Rattle.std.proofs.Common.{◌≡◌, ℕ, Bool, true, false, cond, Some, refl, sym, ap, arith, ◌+◌}
use Rattle.std.specs.Prelude.{◌==◌, ◌||◌}
use Rattle.std.proofs.lemmas.Bool.{eqb-true}
use Rattle.std.proofs.lemmas.Bool.Decides.{nat_tests}
use Rattle.quic_values.specs.declared.ids.Side.{Side}
use Rattle.quic_values.specs.declared.ids.Side.TheVariants.{Client, Server}
use Rattle.quic_values.specs.declared.ids.Dir.{Dir}
use Rattle.quic_values.specs.declared.ids.Dir.TheVariants.{Bi, Uni}
use Rattle.quic_values.specs.Ids.{stream_id, other_side}
use Rattle.quic_outgoing.specs.declared.entries.FirstLimits.{FirstLimits}
use Rattle.quic_outgoing.specs.Senders.{SendersById, is_between, with_sender, with_more_of_peer, new_sender, first_limit}
use Rattle.quic_outgoing.specs.Outgoing.{Outgoing, with_send_half, with_more_streams, fresh_sender}

pub between-none : (i : Side) (d : Dir) (first q : ℕ) → is_between i d first 0 q ≡ false
between-none i d first q = grind (arith, nat_tests)

pub between-one : (i : Side) (d : Dir) (first n q : ℕ) → is_between i d first (n + 1) q ≡ ((q == stream_id i d (first + n)) || is_between i d first n q)
between-one Client Bi first n q = grind (arith, nat_tests)
between-one Client Uni first n q = grind (arith, nat_tests)
between-one Server Bi first n q = grind (arith, nat_tests)
between-one Server Uni first n q = grind (arith, nat_tests)

of_peer_none : (f : SendersById) (side : Side) (l : FirstLimits) (first : ℕ) → with_more_of_peer f side l first 0 ≡ f
unfolding with_more_of_peer
of_peer_none f side l first = λ k. λ q. ap (λ b. cond b (Some (new_sender (first_limit side l q))) (f q)) (between-none (other_side side) Bi first q) k

join : {X : Type 0} (o : ℕ → X) (id q : ℕ) (a b c : Bool) (r : X) → (q == id) ≡ a → c ≡ (a || b) → cond a (o id) (cond b (o q) r) ≡ cond c (o q) r
join o id q true b c r is e = rw e (ap o (sym (eqb-true q id is)))
join o id q false b c r is e = rw e refl

of_peer_one : (f : SendersById) (side : Side) (l : FirstLimits) (first n : ℕ) → let id = stream_id (other_side side) Bi (first + n) in
    with_sender (with_more_of_peer f side l first n) id (Some (new_sender (first_limit side l id))) ≡ with_more_of_peer f side l first (n + 1)
unfolding with_more_of_peer with_sender
of_peer_one f side l first n = let id = stream_id (other_side side) Bi (first + n) in
    λ k. λ q. join (λ j. Some (new_sender (first_limit side l j))) id q (q == id) (is_between (other_side side) Bi first n q) (is_between (other_side side) Bi first (n + 1) q) (f q) refl
    (between-one (other_side side) Bi first n q) k

pub more-none : (u : Outgoing) (first : ℕ) → with_more_streams u first 0 ≡ u
more-none u first = ap (λ f. record u { halves = f }) (of_peer_none u.halves u.side u.first first)

pub more-one : (u : Outgoing) (first n : ℕ) → let id = stream_id (other_side u.side) Bi (first + n) in
    let w = with_more_streams u first n in with_send_half w id (Some (fresh_sender w id)) ≡ with_more_streams u first (n + 1)
more-one u first n = ap (λ f. record u { halves = f }) (of_peer_one u.halves u.side u.first first n)
