-- How the halves of a state answer after steps.
use Rattle.std.proofs.Common.{◌≡◌, ℕ, Option, refl, ap, arith, ◌+◌}
use Rattle.quic_receiving.specs.Half.{Half}
use Rattle.quic_history.specs.World.{World, with_receive, with_counted, advanced, id_refusal}
use Rattle.quic_history.proofs.HalfMaps.{half-there, with_half-twice, with_half-back}

pub receive-there : (w : World) (id : ℕ) (o : Option Half) → (with_receive w id o).receive id ≡ o
unfolding with_receive
receive-there w id o = half-there w.receive id o

pub with_receive-twice : (w : World) (id : ℕ) (o p : Option Half) → with_receive (with_receive w id o) id p ≡ with_receive w id p
unfolding with_receive
with_receive-twice w id o p = ap (λ f. record w { receive = f }) (with_half-twice w.receive id o p)

pub with_receive-back : (w : World) (id : ℕ) (o : Option Half) → w.receive id ≡ o → with_receive w id o ≡ w
unfolding with_receive
with_receive-back w id o e = ap (λ f. record w { receive = f }) (with_half-back w.receive id o e)

pub credit-with_receive : (w : World) (id : ℕ) (o : Option Half) → (with_receive w id o).credit ≡ w.credit
unfolding with_receive
credit-with_receive w id o = refl

pub window-with_receive : (w : World) (id : ℕ) (o : Option Half) → (with_receive w id o).window ≡ w.window
unfolding with_receive
window-with_receive w id o = refl

pub refusal-with_receive : (w : World) (id q : ℕ) (o : Option Half) → id_refusal (with_receive w id o) q ≡ id_refusal w q
unfolding with_receive
refusal-with_receive w id q o = refl

pub refusal-advanced : (w : World) (id q : ℕ) (h h' : Half) → id_refusal (advanced w id h h') q ≡ id_refusal w q
unfolding with_receive
refusal-advanced w id q h h' = refl

pub with_counted-none : (w : World) (n : ℕ) → n ≡ 0 → with_counted w n ≡ w
with_counted-none w n e = rw e (ap (λ d. record w { credit = record w.credit { data_recvd = d } }) (plus-none w.credit.data_recvd))
  where
    plus-none : (d : ℕ) → d + 0 ≡ d
    plus-none d = omega arith

pub ruleset world_steps = (receive-there, with_receive-twice, with_receive-back, credit-with_receive, window-with_receive, refusal-with_receive)
