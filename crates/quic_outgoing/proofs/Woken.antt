-- The streams that the peer's limits let be written on again.
use Rattle.std.proofs.Common.{◌≡◌, ℕ, Bool, true, false, cond, List, [], ◌∷◌, ◌++◌, Option, Some, None, is_some, refl, sym, ap, ◌∙◌, add-one, ◌+◌}
use Rattle.std.specs.Prelude.{All}
use Rattle.std.proofs.lemmas.List.{append-nil, append_assoc}
use Rattle.std.proofs.lemmas.List.Elements.{filter-append, filter_passes}
use Rattle.quic_values.specs.declared.ids.Side.{Side}
use Rattle.quic_values.specs.declared.ids.Dir.{Dir}
use Rattle.quic_values.specs.declared.ids.Dir.TheVariants.{Bi, Uni}
use Rattle.quic_values.specs.Ids.{stream_id}
use Rattle.quic_sending.specs.declared.send.Send.{Send}
use Rattle.quic_outgoing.specs.declared.entries.FirstLimits.{FirstLimits}
use Rattle.quic_outgoing.specs.declared.limits.PeerLimits.{PeerLimits}
use Rattle.quic_outgoing.specs.Senders.{first_limit}
use Rattle.quic_outgoing.specs.Outgoing.{Outgoing, first_ids, first_of, with_params, is_stuck}
use Rattle.quic_outgoing.specs.Params.{is_woken_in, woken_among, own_woken, as_waiting, with_waiting, with_woken, newly_writable}

-- one more stream waits
pub waiting-more : (u : Outgoing) (ids : List ℕ) (id : ℕ) → let w = with_waiting u ids in with_waiting u (ids ++ id ∷ []) ≡ as_waiting w id (w.halves id)
waiting-more u [] id = refl
waiting-more u (x ∷ xs) id = waiting-more (as_waiting u x (u.halves x)) xs id

-- one more stream was looked at
pub woken-more : (u : Outgoing) (l : FirstLimits) (s : Side) (d : Dir) (n : ℕ) (before now next : List ℕ) (b : Bool) → let id = stream_id s d n in
    is_woken_in (first_limit u.side l id) (u.halves id) ≡ b → now ≡ before ++ woken_among u l (first_ids s d n) → next ≡ cond b (now ++ id ∷ []) now
    → next ≡ before ++ woken_among u l (first_ids s d (n + 1))
woken-more u l s d n before now next b e i k =
    let id = stream_id s d n in
    let f : ℕ → Bool = λ q. is_woken_in (first_limit u.side l q) (u.halves q) in
    let old = woken_among u l (first_ids s d n) in
    let more : woken_among u l (first_ids s d n ++ id ∷ []) ≡ old ++ cond b (id ∷ []) [] = filter-append f (first_ids s d n) (id ∷ []) ∙ ap (λ c. old ++ cond c (id ∷ []) []) e in
    rw add-one (k ∙ either_way b id now ∙ ap (λ m. m ++ cond b (id ∷ []) []) i ∙ append_assoc before old (cond b (id ∷ []) []) ∙ ap (λ m. before ++ m) (sym more))
  where
    either_way : (b : Bool) (id : ℕ) (now : List ℕ) → cond b (now ++ id ∷ []) now ≡ now ++ cond b (id ∷ []) []
    either_way true id now = refl
    either_way false id now = sym (append-nil now)

-- each of them is held
held_where : (n : ℕ) (o : Option Send) → is_woken_in n o ≡ true → is_some o ≡ true
held_where n None e = cc
held_where n (Some s) e = refl

pub woken-held : (u : Outgoing) (l : FirstLimits) (ids : List ℕ) → All (λ q. is_some (u.halves q) ≡ true) (woken_among u l ids)
woken-held u l ids =
    let f : ℕ → Bool = λ q. is_woken_in (first_limit u.side l q) (u.halves q) in
    λ k d h. held_where _ _ (filter_passes f ids k d h)

-- ---- where no stream was opened

pub none-woken : (u : Outgoing) (p : PeerLimits) → u.own_bi.opened ≡ 0 → u.own_uni.opened ≡ 0 → own_woken u p ≡ []
none-woken u p bi uni =
    ap (λ n. woken_among u (first_of p) (first_ids u.side Bi n ++ first_ids u.side Uni u.own_uni.opened)) bi
    ∙ ap (λ n. woken_among u (first_of p) (first_ids u.side Uni n)) uni

pub none-waits : (u : Outgoing) (p : PeerLimits) → u.own_bi.opened ≡ 0 → u.own_uni.opened ≡ 0 → with_woken u p ≡ u
none-waits u p bi uni = ap (λ ids. cond (is_stuck (with_params u p)) (with_waiting u ids) u) (none-woken u p bi uni) ∙ either_way (is_stuck (with_params u p))
  where
    either_way : (b : Bool) → cond b u u ≡ u
    either_way true = refl
    either_way false = refl

pub none-writable : (u : Outgoing) (p : PeerLimits) → u.own_bi.opened ≡ 0 → u.own_uni.opened ≡ 0 → newly_writable u p ≡ []
none-writable u p bi uni = ap (λ ids. cond (is_stuck (with_params u p)) [] ids) (none-woken u p bi uni) ∙ either_way (is_stuck (with_params u p))
  where
    none : List ℕ
    none = []

    either_way : (b : Bool) → cond b none none ≡ none
    either_way true = refl
    either_way false = refl
