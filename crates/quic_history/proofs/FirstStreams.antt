-- The streams of an initiator and a direction, one after another, from the first or another on.
use Rattle.std.proofs.Common.{◌≡◌, ℕ, Bool, true, false, cond, Option, Some, refl, ap, arith, ◌+◌, ◌<◌}
use Rattle.std.specs.Prelude.{◌==◌, ◌||◌}
use Rattle.std.proofs.lemmas.Bool.Decides.{nat_tests}
use Rattle.quic_values.specs.declared.ids.Side.{Side}
use Rattle.quic_values.specs.declared.ids.Side.TheVariants.{Client, Server}
use Rattle.quic_values.specs.declared.ids.Dir.{Dir}
use Rattle.quic_values.specs.declared.ids.Dir.TheVariants.{Bi, Uni}
use Rattle.quic_values.specs.Ids.{stream_id, other_side}
use Rattle.quic_receiving.specs.Half.{Half}
use Rattle.quic_history.specs.Halves.{Halves, with_half, with_first, with_more, is_among}
use Rattle.quic_outgoing.specs.Senders.{is_between, with_more_of_peer, new_sender, first_limit}
use Rattle.quic_outgoing.specs.Outgoing.{Outgoing, with_more_streams}
use Rattle.quic_outgoing.proofs.PeerStreams.{between-none, between-one}

among-none : (i : Side) (d : Dir) (q : ℕ) → is_among i d 0 q ≡ false
among-none i d q = grind (arith, nat_tests)

among-more : (i : Side) (d : Dir) (n q : ℕ) → is_among i d (n + 1) q ≡ ((q == stream_id i d n) || is_among i d n q)
among-more Client Bi n q = grind (arith, nat_tests)
among-more Client Uni n q = grind (arith, nat_tests)
among-more Server Bi n q = grind (arith, nat_tests)
among-more Server Uni n q = grind (arith, nat_tests)

join : {X : Type 0} (a b c : Bool) (o r : X) → c ≡ (a || b) → cond a o (cond b o r) ≡ cond c o r
join true b c o r e = rw e refl
join false b c o r e = rw e refl

pub with_first-none : (f : Halves) (i : Side) (d : Dir) (o : Option Half) → with_first f i d 0 o ≡ f
unfolding with_first
with_first-none f i d o = λ k. λ q. ap (λ b. cond b o (f q)) (among-none i d q) k

pub with_first-more : (f : Halves) (i : Side) (d : Dir) (n : ℕ) (o : Option Half) → with_half (with_first f i d n o) (stream_id i d n) o ≡ with_first f i d (n + 1) o
unfolding with_first with_half
with_first-more f i d n o = λ k. λ q. join (q == stream_id i d n) (is_among i d n q) (is_among i d (n + 1) q) o (f q) (among-more i d n q) k

pub with_more-none : (f : Halves) (i : Side) (d : Dir) (first : ℕ) (o : Option Half) → with_more f i d first 0 o ≡ f
unfolding with_more
with_more-none f i d first o = λ k. λ q. ap (λ b. cond b o (f q)) (between-none i d first q) k

pub with_more-one : (f : Halves) (i : Side) (d : Dir) (first n : ℕ) (o : Option Half) → with_half (with_more f i d first n o) (stream_id i d (first + n)) o ≡ with_more f i d first (n + 1) o
unfolding with_more with_half
with_more-one f i d first n o = λ k. λ q. join (q == stream_id i d (first + n)) (is_between i d first n q) (is_between i d first (n + 1) q) o (f q) (between-one i d first n q) k

-- no half of the peer's streams of a lower index is among more that are permitted
pub more-below : (u : Outgoing) (first n k : ℕ) → k < first → (with_more_streams u first n).halves (stream_id (other_side u.side) Bi k) ≡ u.halves (stream_id (other_side u.side) Bi k)
unfolding with_more_of_peer
more-below u first n k l = let id = stream_id (other_side u.side) Bi k in
    ap (λ b. cond b (Some (new_sender (first_limit u.side u.first id))) (u.halves id)) (between_below (other_side u.side) first n k l)
  where
    between_below : (i : Side) (first n k : ℕ) → k < first → is_between i Bi first n (stream_id i Bi k) ≡ false
    between_below Client first n k l = grind (arith, nat_tests)
    between_below Server first n k l = grind (arith, nat_tests)
