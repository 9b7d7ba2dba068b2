-- The streams that the application of an end was given, by the calls of the end.
use Rattle.std.proofs.Common.{◌≡◌, ℕ, false, List, ◌∷◌, Some, Ok, sym, ap, subst, inl, inr}
use Rattle.std.specs.Prelude.{◌↔◌}
use Rattle.quic_values.specs.declared.ids.Dir.{Dir}
use Rattle.quic_history.specs.World.{World}
use Rattle.quic_history.specs.SendEvents.{OpenedOwn}
use Rattle.quic_history.specs.History.{Event, Accepted, Sending}
use Rattle.quic_link.specs.Endpoints.{LinkedEnd, IsOneOf, GaveId, acted}

-- a call opens no stream, and accepts none
abbrev pub GivesNone : Event → Type 0
GivesNone (Sending (OpenedOwn dir closed (Ok (Some id)))) = ⊥
GivesNone (Accepted dir (Some id)) = ⊥
GivesNone _ = Unit {0}

-- x became z by calls that give no stream
abbrev pub GaveNone : LinkedEnd → LinkedEnd → Type 0
GaveNone x z = (id : ℕ) → GaveId z.calls id → GaveId x.calls id

-- the streams that an end was given are these
abbrev pub AreGiven : LinkedEnd → List ℕ → Type 0
AreGiven x ids = (id : ℕ) → GaveId x.calls id ↔ IsOneOf id ids

pub gave-none : (x : LinkedEnd) (e : Event) (v : World) → GivesNone e → GaveNone x (acted x e v)
gave-none x e v w id (inl o) = inl (
  o.0,
  o.1,
  elim o.2 [
    | inl is ↦ absurd (let P : Event → Type 0 = λ j. GivesNone j in subst P (sym is) w)
    | inr old ↦ old
  ],
)
gave-none x e v w id (inr o) = inr (
  o.0,
  elim o.1 [
    | inl is ↦ absurd (let P : Event → Type 0 = λ j. GivesNone j in subst P (sym is) w)
    | inr old ↦ old
  ],
)

-- a stream that was given stays so
gave_more : (calls more : List Event) (id : ℕ) → ((e : Event) → IsOneOf e calls → IsOneOf e more) → GaveId calls id → GaveId more id
gave_more calls more id m (inl o) = inl (o.0, o.1, m (Sending (OpenedOwn o.0 o.1 (Ok (Some id)))) o.2)
gave_more calls more id m (inr o) = inr (o.0, m (Accepted o.0 (Some id)) o.1)

pub given-still : (x z : LinkedEnd) (ids : List ℕ) → ((e : Event) → IsOneOf e x.calls → IsOneOf e z.calls) → GaveNone x z → AreGiven x ids → AreGiven z ids
given-still x z ids m n a id = (λ g. (a id).0 (n id g), λ l. gave_more x.calls z.calls id m ((a id).1 l))

module _ (x : LinkedEnd) (ids : List ℕ) (a : AreGiven x ids) (dir : Dir) (k : ℕ) (v : World) where
  -- one more is opened
  pub given-opened : AreGiven (acted x (Sending (OpenedOwn dir false (Ok (Some k)))) v) (k ∷ ids)
  given-opened id = (to, back)
    where
      to : GaveId (Sending (OpenedOwn dir false (Ok (Some k))) ∷ x.calls) id → IsOneOf id (k ∷ ids)
      to (inl o) = elim o.2 [ inl is ↦ inl (let e : id ≡ k = cc in e) | inr old ↦ inr ((a id).0 (inl (o.0, o.1, old))) ]
      to (inr o) = elim o.1 [ inl is ↦ absurd cc | inr old ↦ inr ((a id).0 (inr (o.0, old))) ]

      back : IsOneOf id (k ∷ ids) → GaveId (Sending (OpenedOwn dir false (Ok (Some k))) ∷ x.calls) id
      back (inl e) = inl (dir, false, inl (ap (λ j. Sending (OpenedOwn dir false (Ok (Some j)))) e))
      back (inr l) = gave_more x.calls (Sending (OpenedOwn dir false (Ok (Some k))) ∷ x.calls) id (λ e h. inr h) ((a id).1 l)

  -- or accepted
  pub given-accepted : AreGiven (acted x (Accepted dir (Some k)) v) (k ∷ ids)
  given-accepted id = (to, back)
    where
      to : GaveId (Accepted dir (Some k) ∷ x.calls) id → IsOneOf id (k ∷ ids)
      to (inl o) = elim o.2 [ inl is ↦ absurd cc | inr old ↦ inr ((a id).0 (inl (o.0, o.1, old))) ]
      to (inr o) = elim o.1 [ inl is ↦ inl (let e : id ≡ k = cc in e) | inr old ↦ inr ((a id).0 (inr (o.0, old))) ]

      back : IsOneOf id (k ∷ ids) → GaveId (Accepted dir (Some k) ∷ x.calls) id
      back (inl e) = inr (dir, inl (ap (λ j. Accepted dir (Some j)) e))
      back (inr l) = gave_more x.calls (Accepted dir (Some k) ∷ x.calls) id (λ e h. inr h) ((a id).1 l)
