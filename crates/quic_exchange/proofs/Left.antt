-- What is unreported of a payload are frames that its bytes spell.
use Rattle.std.proofs.Common.{◌≡◌, ℕ, List, [], ◌∷◌, ◌++◌, Some, refl, sym, ap, subst, true, inl, inr}
use Rattle.std.specs.Prelude.{slice_get, unwrap_or, drop, map, length, ◌≤◌}
use Rattle.quic_wire.specs.declared.frame.Frame.{Frame}
use Rattle.quic_wire.specs.declared.frame.Frame.TheVariants as frames
use Rattle.quic_wire.specs.declared.frame.Stream.{Stream}
use Rattle.quic_wire.specs.declared.frame.ResetStream.{ResetStream}
use Rattle.quic_wire.specs.declared.frame.StreamMeta.{StreamMeta}
use Rattle.quic_wire.specs.Frames.{AreFrames}
use Rattle.quic_retransmits.specs.Pending.{nothing, thin_view}
use Rattle.quic_streams.specs.declared.settling.SentPayload.{SentPayload}
use Rattle.quic_streams.specs.Settling.{SentView, resets_of}
use Rattle.quic_streams.specs.Sent.{sent_view}
use Rattle.quic_link.specs.Endpoints.{IsOneOf}
use Rattle.quic_exchange.specs.Sent.{Sent, Unsettled}
use Rattle.quic_exchange.specs.declared.unsettled.Report.TheVariants.{Lost}
use Rattle.quic_exchange.specs.Unsettled.{goes_on}
use Rattle.quic_exchange.specs.Payloads.{meta_of, metas_in, codes_in, noted_of}
use Rattle.quic_exchange.specs.Tale.{Part, Carried, GivenUp, parts_in, parts_of}
use Rattle.quic_exchange.proofs.Lists.{one-of-first, one-of-last, one-of-dropped}

-- what is unreported of a payload are the parts of its frames behind those that were told; and unless it was acknowledged in
-- part, all that was noted of the others
pub record IsLeft (told : ℕ) (u : Unsettled) (r : SentView) (all : List Frame) : Type 0 where
  pub within : told ≤ length (parts_in all)
  pub parts : parts_of r ≡ drop told (parts_in all)
  pub noted : goes_on Lost u.begun ≡ true → unwrap_or r.control nothing ≡ noted_of nothing all

-- so of each
abbrev pub AreLeft : List Sent → (ℕ → ℕ) → Type 0
AreLeft sent told = (number : ℕ) (s : Sent) (r : SentPayload) (all : List Frame) → slice_get sent number ≡ Some s → s.unsettled.rest ≡ Some r → AreFrames s.text.bytes all → IsLeft (told number) s.unsettled (sent_view r) all

-- ---- parts

pub carried_in : (m : StreamMeta) (ms : List StreamMeta) → IsOneOf m ms → IsOneOf (Carried m) (map Carried ms)
carried_in m [] h = absurd h
carried_in m (k ∷ ms) (inl e) = inl (ap Carried e)
carried_in m (k ∷ ms) (inr h) = inr (carried_in m ms h)

given_in : (id code : ℕ) (cs : List (ℕ × ℕ)) → IsOneOf (id, code) cs → IsOneOf (GivenUp id) (map (λ (c : ℕ × ℕ). GivenUp c.0) cs)
given_in id code [] h = absurd h
given_in id code (c ∷ cs) (inl e) = inl (ap (λ (k : ℕ × ℕ). GivenUp k.0) e)
given_in id code (c ∷ cs) (inr h) = inr (given_in id code cs h)

same_carried : (m k : StreamMeta) → Carried m ≡ Carried k → m ≡ k
same_carried m k e = cc

-- a part of STREAM frames is no part of others
carried_first : (m : StreamMeta) (ms : List StreamMeta) (cs : List (ℕ × ℕ)) → IsOneOf (Carried m) (map Carried ms ++ map (λ (c : ℕ × ℕ). GivenUp c.0) cs) → IsOneOf m ms
carried_first m [] [] h = absurd h
carried_first m [] (c ∷ cs) (inl e) = cc
carried_first m [] (c ∷ cs) (inr h) = carried_first m [] cs h
carried_first m (k ∷ ms) cs (inl e) = inl (same_carried m k e)
carried_first m (k ∷ ms) cs (inr h) = inr (carried_first m ms cs h)

same_given : (id code : ℕ) → GivenUp id ≡ GivenUp code → id ≡ code
same_given id code e = cc

given_last : (id : ℕ) (ms : List StreamMeta) (cs : List (ℕ × ℕ)) → IsOneOf (GivenUp id) (map Carried ms ++ map (λ (c : ℕ × ℕ). GivenUp c.0) cs) → (code : ℕ) × IsOneOf (id, code) cs
given_last id [] [] h = absurd h
given_last id [] (c ∷ cs) (inl e) = (c.1, inl (ap (λ (n : ℕ). (n, c.1)) (same_given id c.0 e)))
given_last id [] (c ∷ cs) (inr h) = let k = given_last id [] cs h in (k.0, inr k.1)
given_last id (m ∷ ms) cs (inl e) = cc
given_last id (m ∷ ms) cs (inr h) = given_last id ms cs h

-- ---- frames

stream_among : (m : StreamMeta) (fs : List Frame) → IsOneOf m (metas_in fs) → (g : Stream) × IsOneOf (frames.Stream g) fs × (m ≡ meta_of g)
stream_among m [] h = absurd h
stream_among m (frames.Stream s ∷ fs) (inl e) = (s, inl refl, e)
stream_among m (frames.Stream s ∷ fs) (inr h) = let k = stream_among m fs h in (k.0, inr k.1, k.2)
stream_among m (_ ∷ fs) h = let k = stream_among m fs h in (k.0, inr k.1, k.2)

reset_among : (id code : ℕ) (fs : List Frame) → IsOneOf (id, code) (codes_in fs) → (f : ResetStream) × (f.id ≡ id) × IsOneOf (frames.ResetStream f) fs
reset_among id code [] h = absurd h
reset_among id code (frames.ResetStream f ∷ fs) (inl e) = (f, sym (ap (λ (k : ℕ × ℕ). k.0) e), inl refl)
reset_among id code (frames.ResetStream f ∷ fs) (inr h) = let k = reset_among id code fs h in (k.0, k.1, inr k.2)
reset_among id code (_ ∷ fs) h = let k = reset_among id code fs h in (k.0, k.1, inr k.2)

module _ (sent : List Sent) (told : ℕ → ℕ) (left : AreLeft sent told) (number : ℕ) (s : Sent) (is : slice_get sent number ≡ Some s) (r : SentPayload) (rest_is : s.unsettled.rest ≡ Some r) (all : List Frame) (spelled : AreFrames s.text.bytes all) where
  -- a part that is unreported is one of the frames
  part_among : (x : Part) → IsOneOf x (parts_of (sent_view r)) → IsOneOf x (parts_in all)
  part_among x h =
      let P : List Part → Type 0 = λ l. IsOneOf x l in
      one-of-dropped x (told number) (parts_in all) (subst P (left number s r all is rest_is spelled).parts h)

  pub metas-among : (m : StreamMeta) → IsOneOf m r.streams.items → (g : Stream) × IsOneOf (frames.Stream g) all × (m ≡ meta_of g)
  metas-among m h = stream_among m all (carried_first m (metas_in all) (codes_in all) (part_among (Carried m) (one-of-first (Carried m) (map Carried r.streams.items) _ (carried_in m r.streams.items h))))

  pub resets-among : (id code : ℕ) → IsOneOf (id, code) (resets_of (thin_view r.control)) → (f : ResetStream) × (f.id ≡ id) × IsOneOf (frames.ResetStream f) all
  resets-among id code h =
      let k = given_last id (metas_in all) (codes_in all) (part_among (GivenUp id) (one-of-last (GivenUp id) (map Carried r.streams.items) _ (given_in id code (resets_of (thin_view r.control)) h))) in
      reset_among id k.0 all k.1
