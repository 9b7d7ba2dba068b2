-- Lemmas on the halves that are held.
use Rattle.std.proofs.Common.{◌≡◌, ℕ, Bool, true, false, cond, Option, Some, None, refl, ap, ◌∙◌}
use Rattle.std.specs.Prelude.{◌==◌, not, Result, Ok, Err, OnErr}
use Rattle.std.specs.Global.{Box}
use Rattle.std.specs.Option.{option_map}
use Rattle.quic_receiving.specs.Half.{Half}
use Rattle.quic_retransmits.proofs.Sets.{==-comm}
use Rattle.quic_history.specs.Halves.{Halves, with_half}
use Rattle.quic_values.specs.declared.ids.Side.{Side}
use Rattle.quic_outgoing.specs.Senders.{is_local}
use Rattle.quic_history.specs.Early.{without_own}
use Rattle.quic_history.specs.Control.{after_announced, with_announced}
use Rattle.quic_streams.specs.Held.{half_in}

-- entries as halves: an entry without one is a new half
abbrev pub entry_half : ℕ → Option (Option (Box Half)) → Option Half
entry_half w o = option_map (half_in w) o

-- the halves of entries
abbrev pub halves_of : ℕ → (ℕ → Option (Option (Box Half))) → Halves
halves_of w f q = entry_half w (f q)

pub held-same : (w : ℕ) (g f : ℕ → Option (Option (Box Half))) → ((q : ℕ) → g q ≡ f q) → halves_of w g ≡ halves_of w f
held-same w g f h = λ i. λ q. entry_half w (h q i)

put-at : (w : ℕ) (b c : Bool) (v o : Option (Option (Box Half))) → b ≡ c → entry_half w (cond b v o) ≡ cond c (entry_half w v) (entry_half w o)
put-at w true c v o e = rw (← e) refl
put-at w false c v o e = rw (← e) refl

pub held-put : (w : ℕ) (g f : ℕ → Option (Option (Box Half))) (id : ℕ) (v : Option (Option (Box Half))) → ((q : ℕ) → g q ≡ cond (id == q) v (f q))
    → halves_of w g ≡ with_half (halves_of w f) id (entry_half w v)
unfolding with_half
held-put w g f id v h = λ i. λ q. (ap (entry_half w) (h q) ∙ put-at w (id == q) (q == id) v (f q) (==-comm id q)) i

pub on_err : {T E P : Type 0} (r : Result T E) → P → OnErr r P
on_err (Ok x) p = tt
on_err (Err e) p = p

-- the limit of a half that is held is announced
pub announced-some : (f : Halves) (id w : ℕ) (h : Half) → f id ≡ Some h → after_announced f w id (f id) ≡ with_half f id (Some (with_announced w h))
announced-some f id w h e = rw e refl

gone_of : (b : Bool) (w : ℕ) (o : Option (Option (Box Half))) → entry_half w (cond (not b) o None) ≡ cond b None (entry_half w o)
gone_of true w o = refl
gone_of false w o = refl

-- the halves of one end's streams are gone
pub held-without : (side : Side) (w : ℕ) (g f : ℕ → Option (Option (Box Half))) → ((q : ℕ) → g q ≡ cond (not (is_local side q)) (f q) None) → halves_of w g ≡ without_own side (halves_of w f)
unfolding without_own
held-without side w g f h = λ i. λ q. (ap (entry_half w) (h q) ∙ gone_of (is_local side q) w (f q)) i
