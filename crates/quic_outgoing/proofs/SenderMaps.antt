-- Lemmas on maps from ids to send halves.
use Rattle.std.proofs.Common.{◌≡◌, ◌≤◌, ℕ, Bool, true, false, cond, eqb, Option, Some, None, is_some, max, refl, sym, ap, ◌∙◌, arith}
use Rattle.std.specs.Prelude.{◌==◌}
use Rattle.std.proofs.lemmas.Bool.{eqb-true}
use Rattle.std.proofs.lemmas.Grind.{common_steps}
use Rattle.std.specs.Global.{Box}
use Rattle.std.specs.Option.{option_map}
use Rattle.quic_sending.specs.declared.send.Send.{Send}
use Rattle.quic_retransmits.proofs.Sets.{==-comm}
use Rattle.quic_values.specs.declared.ids.Side.{Side}
use Rattle.quic_values.specs.declared.ids.Dir.{Dir}
use Rattle.quic_values.specs.declared.ids.Dir.TheVariants.{Bi, Uni}
use Rattle.quic_values.specs.Ids.{dir_of}
use Rattle.quic_outgoing.specs.declared.entries.FirstLimits.{FirstLimits}
use Rattle.quic_outgoing.specs.Senders.{SendersById, with_sender, bare, new_sender, raised, first_for, first_limit, joined, is_local}
use Rattle.quic_outgoing.specs.Seen.{sender_in, was_made}

-- an entry as a half: one without is a new half
abbrev pub entry_sender : ℕ → Option (Option (Box Send)) → Option Send
entry_sender limit o = option_map (sender_in limit) o

-- the halves of entries, by the limits that they begin with
abbrev pub senders_of : (ℕ → ℕ) → (ℕ → Option (Option (Box Send))) → SendersById
senders_of w f q = entry_sender (w q) (f q)

pub senders-same : (w : ℕ → ℕ) (g f : ℕ → Option (Option (Box Send))) → ((q : ℕ) → g q ≡ f q) → senders_of w g ≡ senders_of w f
senders-same w g f h = λ i. λ q. entry_sender (w q) (h q i)

eqb-self : (n : ℕ) → eqb n n ≡ true
eqb-self n = grind (arith, common_steps)

put-at : (w : ℕ → ℕ) (id q : ℕ) (b : Bool) (v o : Option (Option (Box Send))) → eqb q id ≡ b
    → entry_sender (w q) (cond b v o) ≡ cond b (entry_sender (w id) v) (entry_sender (w q) o)
put-at w id q true v o e = ap (λ n. entry_sender (w n) v) (eqb-true q id e)
put-at w id q false v o e = refl

pub senders-put : (w : ℕ → ℕ) (g f : ℕ → Option (Option (Box Send))) (id : ℕ) (v : Option (Option (Box Send))) → ((q : ℕ) → g q ≡ cond (id == q) v (f q))
    → senders_of w g ≡ with_sender (senders_of w f) id (entry_sender (w id) v)
unfolding with_sender
senders-put w g f id v h = λ i. λ q. (ap (entry_sender (w q)) (h q ∙ ap (λ b. cond b v (f q)) (==-comm id q)) ∙ put-at w id q (eqb q id) v (f q) refl) i

pub sender-there : (f : SendersById) (id : ℕ) (o : Option Send) → (with_sender f id o) id ≡ o
unfolding with_sender
sender-there f id o = ap (λ b. cond b o (f id)) (eqb-self id)

choose : {X : Type 0} (b : Bool) (o p r : X) → cond b p (cond b o r) ≡ cond b p r
choose true o p r = refl
choose false o p r = refl

pub with_sender-twice : (f : SendersById) (id : ℕ) (o p : Option Send) → with_sender (with_sender f id o) id p ≡ with_sender f id p
unfolding with_sender
with_sender-twice f id o p = λ i. λ q. choose (eqb q id) o p (f q) i

back : (f : SendersById) (id : ℕ) (p : Option Send) → f id ≡ p → (q : ℕ) (b : Bool) → eqb q id ≡ b → cond b p (f q) ≡ f q
back f id p h q true e = sym h ∙ ap f (sym (eqb-true q id e))
back f id p h q false e = refl

pub with_sender-back : (f : SendersById) (id : ℕ) (p : Option Send) → f id ≡ p → with_sender f id p ≡ f
unfolding with_sender
with_sender-back f id p h = λ i. λ q. back f id p h q (eqb q id) refl i

pub ruleset sender_steps = (sender-there, with_sender-twice, with_sender-back)

pub raised-same : (limit : ℕ) (s : Send) → limit ≤ s.max_data → raised limit s ≡ s
raised-same limit s h = ap (λ n. record s { max_data = n }) (greatest s.max_data limit h)
  where
    greatest : (a b : ℕ) → b ≤ a → max a b ≡ a
    greatest a b h = omega arith

raised-raised : (a b : ℕ) (s : Send) → raised (max a b) s ≡ raised b (raised a s)
raised-raised a b s = ap (λ n. record s { max_data = n }) (through s.max_data a b)
  where
    through : (n a b : ℕ) → max n (max a b) ≡ max (max n a) b
    through n a b = omega arith

first-joined : (local : Bool) (dir : Dir) (a b : FirstLimits) → first_for local dir (joined a b) ≡ max (first_for local dir a) (first_for local dir b)
first-joined local Uni a b = refl
first-joined true Bi a b = refl
first-joined false Bi a b = refl

-- a half once more first limits were given
pub raised-at : (side : Side) (a b : FirstLimits) (q : ℕ) (o : Option (Option (Box Send)))
    → entry_sender (first_limit side (joined a b) q) o ≡ option_map (raised (first_limit side b q)) (entry_sender (first_limit side a q) o)
raised-at side a b q None = refl
raised-at side a b q (Some None) = ap (λ n. Some (new_sender n)) (first-joined (is_local side q) (dir_of q) a b)
raised-at side a b q (Some (Some h)) = ap (λ n. Some (raised n (bare h.value))) (first-joined (is_local side q) (dir_of q) a b)
    ∙ ap Some (raised-raised (first_limit side a q) (first_limit side b q) (bare h.value))

pub is-there : (f : SendersById) (id : ℕ) (s : Send) → is_some ((with_sender f id (Some s)) id) ≡ true
is-there f id s = ap is_some (sender-there f id (Some s))

-- a half that was made stays so where another is put
pub made-put : (g f : ℕ → Option (Option (Box Send))) (id : ℕ) (old new : Option (Box Send)) → f id ≡ Some old → (is_some old ≡ true → is_some new ≡ true)
    → ((q : ℕ) → g q ≡ cond (id == q) (Some new) (f q)) → (q : ℕ) → was_made (f q) ≡ true → was_made (g q) ≡ true
made-put g f id old new e k h q m = ap was_made (h q) ∙ by_key (id == q) refl
  where
    by_key : (b : Bool) → (id == q) ≡ b → was_made (cond b (Some new) (f q)) ≡ true
    by_key true t = k (ap was_made (sym e) ∙ ap (λ n. was_made (f n)) (eqb-true id q t) ∙ m)
    by_key false t = m
