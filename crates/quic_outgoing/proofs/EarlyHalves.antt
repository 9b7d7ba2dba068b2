-- What becomes of the halves of an early start.
use Rattle.std.proofs.Common.{◌≡◌, ℕ, Bool, true, false, cond, eqb, List, [], ◌∷◌, Option, Some, None, refl, sym, ap, ◌∙◌, subst}
use Rattle.std.specs.Prelude.{not, ◌||◌, IfSome}
use Rattle.std.specs.Global.{Box}
use Rattle.std.specs.Map.{lookup}
use Rattle.std.specs.Map.Calls.{RetainsPairs}
use Rattle.std.specs.Option.{option_map}
use Rattle.std.proofs.lemmas.Bool.{eqb-true}
use Rattle.quic_values.specs.declared.ids.Side.{Side}
use Rattle.quic_values.specs.declared.ids.Dir.{Dir}
use Rattle.quic_values.specs.declared.ids.Dir.TheVariants.{Bi, Uni}
use Rattle.quic_values.specs.Ids.{dir_of}
use Rattle.quic_sending.specs.declared.send.Send.{Send}
use Rattle.quic_outgoing.specs.declared.entries.FirstLimits.{FirstLimits}
use Rattle.quic_outgoing.specs.Senders.{first_for, first_limit, is_local, new_sender, no_limits, bare, raised}
use Rattle.quic_sending.specs.Buffer.{is_acked}
use Rattle.quic_sending.specs.Sending.{is_reset_sent}
use Rattle.quic_outgoing.specs.Transmitting.{is_data_sent}
use Rattle.quic_outgoing.specs.Early.{of_peer_anew, own_unsent, as_unsent, NoneAcked, KeepsAcked}
use Rattle.quic_outgoing.specs.Seen.{unsent_box, IsAckedAt}
use Rattle.quic_outgoing.proofs.SenderMaps.{entry_sender, senders_of}

none_first : (own : Bool) (d : Dir) → first_for own d no_limits ≡ 0
none_first true Bi = refl
none_first true Uni = refl
none_first false Bi = refl
none_first false Uni = refl

-- an entry once the halves of one end are gone, and the others were not used
gone_or_new : (own : Bool) (d : Dir) (limit : ℕ) (o : Option (Option (Box Send)))
    → entry_sender (first_for own d no_limits) (option_map (λ v. None) (cond (not own) o None)) ≡ cond own None (option_map (λ s. new_sender 0) (entry_sender limit o))
gone_or_new true d limit o = refl
gone_or_new false d limit None = refl
gone_or_new false d limit (Some v) = ap (λ n. Some (new_sender n)) (none_first false d)

pub anew : (side : Side) (limits : FirstLimits) (g f : ℕ → Option (Option (Box Send))) → ((q : ℕ) → g q ≡ option_map (λ v. None) (cond (not (is_local side q)) (f q) None))
    → senders_of (first_limit side no_limits) g ≡ of_peer_anew side (senders_of (first_limit side limits) f)
unfolding of_peer_anew
anew side limits g f h = λ i. λ q. (ap (entry_sender (first_limit side no_limits q)) (h q) ∙ gone_or_new (is_local side q) (dir_of q) (first_limit side limits q) (f q)) i

-- ---- what was sent counts as not sent

-- a closure that keeps each entry, and writes g of it where it may
pub kept-pairs : {F X : Type 0} (T : F → ℕ → X → Bool → X → F → Type 0) (g : ℕ → X → X) (ok : ℕ → X → Type 0) (f : F)
    → ((k : ℕ) (v : X) (b : Bool) (w : X) (f' : F) → T f k v b w f' → (b ≡ true) × (ok k v → w ≡ g k v) × (f' ≡ f))
    → (es kept : List (ℕ × X)) → RetainsPairs T f es kept → (q : ℕ) → ((v : X) → lookup (eqb q) es ≡ Some v → ok q v) → lookup (eqb q) kept ≡ option_map (g q) (lookup (eqb q) es)
kept-pairs T g ok f h [] kept r q may = rw r refl
kept-pairs {F} {X} T g ok f h (e ∷ es) kept r q may =
    let p = h e.0 e.1 r.0 r.1 r.2 r.4 in
    let later : RetainsPairs T f es r.3 = subst (λ (x : F). RetainsPairs T x es r.3) p.2 r.5 in
    let is : kept ≡ (e.0, r.1) ∷ r.3 = r.6 ∙ ap (λ b. cond b ((e.0, r.1) ∷ r.3) r.3) p.0 in
    rw is (by_key (eqb q e.0) refl p.1 (kept-pairs T g ok f h es r.3 later q))
  where
    by_key : (b : Bool) → eqb q e.0 ≡ b → (ok e.0 e.1 → r.1 ≡ g e.0 e.1) → (((v : X) → lookup (eqb q) es ≡ Some v → ok q v) → lookup (eqb q) r.3 ≡ option_map (g q) (lookup (eqb q) es))
        → lookup (eqb q) ((e.0, r.1) ∷ r.3) ≡ option_map (g q) (lookup (eqb q) (e ∷ es))
    by_key true t here more =
        let k : q ≡ e.0 = eqb-true q e.0 t in
        let fine : ok e.0 e.1 = subst (λ (i : ℕ). ok i e.1) k (may e.1 (rw t refl)) in
        rw t (ap Some (here fine ∙ ap (λ i. g i e.1) (sym k)))
    by_key false t here more = rw t (more (λ v l. may v (rw t l)))

-- a half of which all counts as not sent, whatever its room
unsent-raised : (limit : ℕ) (s : Send) → raised limit (bare (as_unsent s)) ≡ as_unsent (raised limit (bare s))
unsent-raised limit s = by (is_reset_sent s.state)
  where
    all : Send → Send
    all t = record t { pending = record t.pending { unsent = 0; lost = [] }; fin_pending = t.fin_pending || is_data_sent t.state }

    by : (b : Bool) → raised limit (bare (cond b s (all s))) ≡ cond b (raised limit (bare s)) (all (raised limit (bare s)))
    by true = refl
    by false = refl

-- an entry of this end once it was done, or one that was left
unsent_or_left : (own : Bool) (limit : ℕ) (o : Option (Option (Box Send)))
    → entry_sender limit (option_map (λ v. cond own (option_map unsent_box v) v) o) ≡ cond own (option_map as_unsent (entry_sender limit o)) (entry_sender limit o)
unsent_or_left true limit None = refl
unsent_or_left true limit (Some None) = refl
unsent_or_left true limit (Some (Some b)) = ap Some (unsent-raised limit b.value)
unsent_or_left false limit None = refl
unsent_or_left false limit (Some v) = refl

pub unsent-own : (side : Side) (w : ℕ → ℕ) (g f : ℕ → Option (Option (Box Send))) → ((q : ℕ) → g q ≡ option_map (λ v. cond (is_local side q) (option_map unsent_box v) v) (f q))
    → senders_of w g ≡ own_unsent side (senders_of w f)
unfolding own_unsent
unsent-own side w g f h = λ i. λ q. (ap (entry_sender (w q)) (h q) ∙ unsent_or_left (is_local side q) (w q) (f q)) i

-- whether an entry may be written so
abbrev pub MayUnsend : Side → ℕ → Option (Box Send) → Type 0
MayUnsend side q v = is_local side q ≡ true → IfSome v (λ b. is_reset_sent b.value.state ≡ false → (n : ℕ) → is_acked b.value.pending n ≡ false)

pub may-unsend : (side : Side) (w : ℕ → ℕ) (f : ℕ → Option (Option (Box Send))) → NoneAcked side (senders_of w f) → (q : ℕ) (v : Option (Box Send)) → f q ≡ Some v → MayUnsend side q v
may-unsend side w f none q None e own = tt
may-unsend side w f none q (Some b) e own = λ open_now n. none q (raised (w q) (bare b.value)) own (ap (entry_sender (w q)) e) open_now n

-- ---- a half of which something was acknowledged stays

-- whether an offset of a half is acknowledged, where there is one
acked_at : ℕ → Option Send → Bool
acked_at n None = false
acked_at n (Some s) = is_acked s.pending n

acked-in : (limit : ℕ) (o : Option (Option (Box Send))) (s : Send) (n : ℕ) → entry_sender limit o ≡ Some s → is_acked s.pending n ≡ true → (v : Option (Box Send)) → o ≡ Some v → IsAckedAt n v
unfolding acked_at
acked-in limit o s n e a None l = tt
acked-in limit o s n e a (Some b) l = ap (acked_at n) (sym (ap (entry_sender limit) l) ∙ e) ∙ a

mapped-same : (o : Option (Option (Box Send))) → option_map (λ v. v) o ≡ o
mapped-same None = refl
mapped-same (Some v) = refl

pub acked-kept : (w : ℕ → ℕ) (g f : ℕ → Option (Option (Box Send))) → ((n q : ℕ) → ((v : Option (Box Send)) → f q ≡ Some v → IsAckedAt n v) → g q ≡ option_map (λ v. v) (f q)) → KeepsAcked (senders_of w f) (senders_of w g)
acked-kept w g f h q s n e a = ap (entry_sender (w q)) (h n q (acked-in (w q) (f q) s n e a) ∙ mapped-same (f q)) ∙ e
