-- A copy of the levels shows the same entries.
use Rattle.std.proofs.Common.{◌≡◌, ◌<◌, ℤ, true, List, [], ◌∷◌, ◌++◌, map, Some, None, refl, ap, ◌∙◌}
use Rattle.std.specs.Prelude.{Option, IfSome, IsSomeAnd, MatchOption, int_lt}
use Rattle.std.specs.List.{AllZip}
use Rattle.std.specs.declared.cmp.Reverse.{Reverse}
use Rattle.std.specs.VecDeque.{deque_len}
use Rattle.std.proofs.lemmas.Map.Entries.{lookup_clone}
use Rattle.quic_queue.specs.Levels.{Ids, Levels, entries_at, entries_of, ids_at, IsFilled, IsAbove}
use Rattle.quic_queue.proofs.Comparing.{at}
use Rattle.quic_queue.proofs.Lines.{Level}

module _ (C : Reverse ℤ → Reverse ℤ → Type 0) (D : Ids → Ids → Type 0) (keys : (x y : Reverse ℤ) → C x y → y ≡ x) (items : (v w : Ids) → D v w → w.items ≡ v.items)
    (lengths : (v w : Ids) → D v w → deque_len w ≡ deque_len v) where
  pub copied-entries : (es fs : List Level) → AllZip (λ p q. C p.0 q.0 × D p.1 q.1) es fs → entries_of fs ≡ entries_of es
  copied-entries [] [] z = refl
  copied-entries [] (f ∷ fs) z = absurd z
  copied-entries (e ∷ es) [] z = absurd z
  copied-entries (e ∷ es) (f ∷ fs) z =
      ap (λ l. l ++ entries_of fs) (ap (λ (k : Reverse ℤ). map (λ id. record { priority = k.0; id = id }) f.1.items) (keys e.0 f.0 z.0.0) ∙ ap (map (λ id. record { priority = e.0.0; id = id })) (items e.1 f.1 z.0.1))
      ∙ ap (λ l. entries_at e ++ l) (copied-entries es fs z.1)

  filled_if : (o p : Option Ids) → MatchOption o (p ≡ None) (λ v. IsSomeAnd p (D v)) → IfSome o (λ ids. 0 < deque_len ids) → IfSome p (λ ids. 0 < deque_len ids)
  filled_if None p m s = rw m tt
  filled_if (Some v) None m s = absurd m
  filled_if (Some v) (Some w) m s = rw (lengths v w m) s

  pub copied-filled : (m n : Levels) → AllZip (λ p q. C p.0 q.0 × D p.1 q.1) m.entries n.entries → (priority : ℤ) → IsFilled m priority → IsFilled n priority
  copied-filled m n z priority s = filled_if (ids_at m priority) (ids_at n priority) (lookup_clone C D (at priority) (λ x y c. ap (at priority) (keys x y c)) m.entries n.entries z) s

  above_if : (o p : Option Ids) (q other : ℤ) → MatchOption o (p ≡ None) (λ v. IsSomeAnd p (D v)) → IfSome o (λ ids. int_lt other q ≡ true) → IfSome p (λ ids. int_lt other q ≡ true)
  above_if None p q other m s = rw m tt
  above_if (Some v) None q other m s = absurd m
  above_if (Some v) (Some w) q other m s = s

  pub copied-above : (m n : Levels) → AllZip (λ p q. C p.0 q.0 × D p.1 q.1) m.entries n.entries → (q : ℤ) → IsAbove q m → IsAbove q n
  copied-above m n z q above other = above_if (ids_at m other) (ids_at n other) q other (lookup_clone C D (at other) (λ x y c. ap (at other) (keys x y c)) m.entries n.entries z) (above other)
