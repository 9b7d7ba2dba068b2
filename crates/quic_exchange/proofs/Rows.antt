-- Notes as payloads: what is read of a note, written to it or put behind all is read of its payload, written to it or put behind.
use Rattle.std.proofs.Common.{◌≡◌, ℕ, zero, suc, List, [], ◌∷◌, ◌++◌, length, Option, Some, None, refl, sym, ap, subst, ◌∙◌, inl, inr, arith}
use Rattle.std.specs.Prelude.{map, option_map, slice_get, slice_set}
use Rattle.std.proofs.lemmas.Option.{none-some, same_Some}
use Rattle.quic_steps.specs.declared.steps.End.{End}
use Rattle.quic_exchange.specs.Sent.{Sent}
use Rattle.quic_exchange.specs.declared.sent.Note.{Note}
use Rattle.quic_exchange.specs.Gone.{IsGone, IsNoPayload, IsThere, HaveLeft}
use Rattle.quic_exchange.specs.Notes.{Kept, under, row, rows, IsNoNote, IsNoteThere, HasLeftNetwork, HaveLeftNetwork}

pub row-at : (k : End → Kept) (notes : List Note) (n : ℕ) (note : Note) → slice_get notes n ≡ Some note → slice_get (rows k notes) n ≡ Some (row k note)
row-at k [] n note is = absurd (none-some note is)
row-at k (m ∷ ms) zero note is = ap (λ (x : Note). Some (row k x)) (same_Some m note is)
row-at k (m ∷ ms) (suc n) note is = row-at k ms n note is

pub row-get : (k : End → Kept) (notes : List Note) (n : ℕ) → slice_get (rows k notes) n ≡ option_map (row k) (slice_get notes n)
row-get k [] n = refl
row-get k (m ∷ ms) zero = refl
row-get k (m ∷ ms) (suc n) = row-get k ms n

-- and each payload is that of a note
pub note-at : (k : End → Kept) (notes : List Note) (n : ℕ) (s : Sent) → slice_get (rows k notes) n ≡ Some s → (note : Note) × (slice_get notes n ≡ Some note) × (s ≡ row k note)
note-at k [] n s is = absurd (none-some s is)
note-at k (m ∷ ms) zero s is = (m, refl, sym (same_Some (row k m) s is))
note-at k (m ∷ ms) (suc n) s is = note-at k ms n s is

pub rows-length : (k : End → Kept) (notes : List Note) → length (rows k notes) ≡ length notes
rows-length k [] = refl
rows-length k (m ∷ ms) = ap (λ n. suc n) (rows-length k ms)

pub rows-push : (k : End → Kept) (notes : List Note) (note : Note) → rows k (notes ++ note ∷ []) ≡ rows k notes ++ row k note ∷ []
rows-push k [] note = refl
rows-push k (m ∷ ms) note = ap (λ l. row k m ∷ l) (rows-push k ms note)

pub rows-set : (k : End → Kept) (notes : List Note) (n : ℕ) (note : Note) → rows k (slice_set notes n note) ≡ slice_set (rows k notes) n (row k note)
rows-set k [] n note = refl
rows-set k (m ∷ ms) zero note = refl
rows-set k (m ∷ ms) (suc n) note = ap (λ l. row k m ∷ l) (rows-set k ms n note)

pub no-note : (k : End → Kept) (notes : List Note) (n : ℕ) → IsNoNote notes n → IsNoPayload (rows k notes) n
no-note k notes n (inl past) = inl (let l = rows-length k notes in omega (arith, past, l))
no-note k notes n (inr left) = inr (record { payload = row k left.note; is = row-at k notes n left.note left.is; gone = left.gone })

pub note-there : (k : End → Kept) (notes : List Note) (n : ℕ) → IsNoteThere notes n → IsThere (rows k notes) n
note-there k notes n t = record { payload = row k t.note; is = row-at k notes n t.note t.is; here = t.here }

-- ---- what the endpoints keep changes

-- of no note
pub rows-same : (k l : End → Kept) (notes : List Note) → ((j : ℕ) (m : Note) → slice_get notes j ≡ Some m → under (l m.writer) m.token ≡ under (k m.writer) m.token) → rows l notes ≡ rows k notes
rows-same k l [] same = refl
rows-same k l (m ∷ ms) same =
    ap (λ r. record { writer = m.writer; unsettled = record { begun = m.begun; rest = r }; text = m.text; gone = m.gone } ∷ rows l ms) (same 0 m refl)
    ∙ ap (λ x. row k m ∷ x) (rows-same k l ms (λ j x is. same (suc j) x is))

-- of one note, which is changed too
pub one-row : (k l : End → Kept) (notes : List Note) (n : ℕ) (note : Note) → ((j : ℕ) (m : Note) → slice_get notes j ≡ Some m → (j ≡ n → ⊥) → under (l m.writer) m.token ≡ under (k m.writer) m.token)
    → rows l (slice_set notes n note) ≡ slice_set (rows k notes) n (row l note)
one-row k l [] n note same = refl
one-row k l (m ∷ ms) zero note same = ap (λ x. row l note ∷ x) (rows-same k l ms (λ j x is. same (suc j) x is (λ e. absurd (omega (arith, e)))))
one-row k l (m ∷ ms) (suc n) note same =
    ap (λ r. record { writer = m.writer; unsettled = record { begun = m.begun; rest = r }; text = m.text; gone = m.gone } ∷ rows l (slice_set ms n note)) (same 0 m refl (λ e. absurd (omega (arith, e))))
    ∙ ap (λ x. row k m ∷ x) (one-row k l ms n note (λ j x is away. same (suc j) x is (λ e. away (omega (arith, e)))))

-- ---- payloads that leave

left-row : (k : End → Kept) (n : Note) → HasLeftNetwork n → IsGone (row k n)
left-row k n h = record { gone = h.gone; text = h.text; begun = h.begun; rest = ap (under (k n.writer)) h.token }

pub have-left : (k l : End → Kept) (old new : List Note) → HaveLeftNetwork old new → HaveLeft (rows k old) (rows l new)
have-left k l old new h = record {
  size = rows-length l new ∙ h.size ∙ sym (rows-length k old);
  each = λ number s is.
      let at = note-at l new number s is in
      let P : Sent → Type 0 = λ x. IsGone x in
      subst P (sym at.2) (left-row l at.0 (h.each number at.0 at.1));
}
