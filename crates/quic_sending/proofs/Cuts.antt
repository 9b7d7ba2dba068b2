-- Lemmas on the pieces of all that was written.
use Rattle.std.proofs.Common.{◌≡◌, ℕ, ◌+◌, ◌-◌, ◌<◌, ◌≤◌, ◌⊎◌, inl, inr, min, ⊎_elim, List, [], ◌∷◌, ◌++◌, length, take, drop, refl, sym, ap, ◌∙◌, arith, length-append, length-take, length-drop}
use Rattle.std.specs.List.{concat}
use Rattle.std.proofs.lemmas.Bool.{cases_lt}
use Rattle.std.proofs.lemmas.List.{append-nil, drop-append-le, drop-drop, take-append-le, take_min}
use Rattle.std.proofs.Math.Seq.{drop-append-add, take-add}
use Rattle.quic_sending.specs.Buffer.{Buffered, cut_of, total_length, uncovered, piece_part, HasCuts, IsFrontAt}
use Rattle.quic_sending.proofs.Pieces.{total-append, uncovered-keep, uncovered-skip, piece_part-skip, piece_part-here}

uncovered-all : (d : ℕ) (p : List ℕ) (ps : List (List ℕ)) → d < length p → uncovered d (p ∷ ps) ≡ p ∷ ps
uncovered-all d p ps h = uncovered-keep d (p ∷ ps) h

pub uncovered-push : (d : ℕ) (ps : List (List ℕ)) (p : List ℕ) → d ≤ total_length ps → 0 < length p → uncovered d (ps ++ p ∷ []) ≡ uncovered d ps ++ p ∷ []
uncovered-push d [] p h f = uncovered-all d p [] (omega arith)
uncovered-push d (q ∷ qs) p h f = by (cases_lt d (length q)) (uncovered-push (d - length q) qs p (omega arith) f)
  where
    by : (d < length q) ⊎ (length q ≤ d) → uncovered (d - length q) (qs ++ p ∷ []) ≡ uncovered (d - length q) qs ++ p ∷ [] → uncovered d (q ∷ qs ++ p ∷ []) ≡ uncovered d (q ∷ qs) ++ p ∷ []
    by (inl c) ih = uncovered-all d q (qs ++ p ∷ []) c ∙ ap (λ (x : List (List ℕ)). x ++ p ∷ []) (sym (uncovered-all d q qs c))
    by (inr c) ih = uncovered-skip d q (qs ++ p ∷ []) c ∙ (ih ∙ ap (λ (x : List (List ℕ)). x ++ p ∷ []) (sym (uncovered-skip d q qs c)))

pub total-uncovered-le : (d : ℕ) (ps : List (List ℕ)) → total_length (uncovered d ps) ≤ total_length ps
total-uncovered-le d [] = omega arith
total-uncovered-le d (q ∷ qs) =
    let ih = total-uncovered-le (d - length q) qs in
    ⊎_elim (λ c. rw (uncovered-all d q qs c) (omega arith)) (λ c. rw (uncovered-skip d q qs c) (omega arith)) (cases_lt d (length q))

-- what a longer prefix leaves of the pieces that a shorter one leaves
pub uncovered-uncovered : (d e : ℕ) (ps : List (List ℕ)) → d ≤ e → uncovered (e - (total_length ps - total_length (uncovered d ps))) (uncovered d ps) ≡ uncovered e ps
uncovered-uncovered d e [] h = refl
uncovered-uncovered d e (q ∷ qs) h =
    ⊎_elim
    (λ c. rw (uncovered-all d q qs c) (ap (λ (n : ℕ). uncovered n (q ∷ qs)) (omega arith)))
    (λ c.
    let le = total-uncovered-le (d - length q) qs in
    let ih = uncovered-uncovered (d - length q) (e - length q) qs (omega arith) in
    let same : e - (length q + total_length qs - total_length (uncovered (d - length q) qs)) ≡ (e - length q) - (total_length qs - total_length (uncovered (d - length q) qs)) = omega arith in
    let skipped : length q ≤ e = omega arith in
    rw (uncovered-skip d q qs c) (ap (λ (n : ℕ). uncovered n (uncovered (d - length q) qs)) same ∙ (ih ∙ sym (uncovered-skip e q qs skipped))))
    (cases_lt d (length q))

-- a part that does not begin below the place d is found in the pieces that d leaves
pub piece_part-uncovered : (d s n : ℕ) (ps : List (List ℕ)) → d ≤ s → piece_part (uncovered d ps) (s - (total_length ps - total_length (uncovered d ps))) n ≡ piece_part ps s n
piece_part-uncovered d s n [] h = refl
piece_part-uncovered d s n (q ∷ qs) h =
    ⊎_elim
    (λ c. rw (uncovered-all d q qs c) (ap (λ (m : ℕ). piece_part (q ∷ qs) m n) (omega arith)))
    (λ c.
    let le = total-uncovered-le (d - length q) qs in
    let ih = piece_part-uncovered (d - length q) (s - length q) n qs (omega arith) in
    let same : s - (length q + total_length qs - total_length (uncovered (d - length q) qs)) ≡ (s - length q) - (total_length qs - total_length (uncovered (d - length q) qs)) = omega arith in
    let skipped : length q ≤ s = omega arith in
    rw (uncovered-skip d q qs c) (ap (λ (m : ℕ). piece_part (uncovered (d - length q) qs) m n) same ∙ (ih ∙ sym (piece_part-skip q qs s n skipped))))
    (cases_lt d (length q))

pub length-concat : (ps : List (List ℕ)) → length (concat ps) ≡ total_length ps
length-concat [] = refl
length-concat (q ∷ qs) = length-append q (concat qs) ∙ ap (λ n. length q + n) (length-concat qs)

-- a part is what the written bytes begin with from its start on
pub IsFrontAt-piece_part : (ps : List (List ℕ)) (s n : ℕ) → IsFrontAt (concat ps) s n (piece_part ps s n)
IsFrontAt-piece_part [] s n = record { same = refl; most = omega arith; some = λ h _. absurd (omega arith) }
IsFrontAt-piece_part (q ∷ qs) s n =
    ⊎_elim
    (λ c. rw (piece_part-here q qs s n c) (here c))
    (λ c. rw (piece_part-skip q qs s n c) (there c (IsFrontAt-piece_part qs (s - length q) n)))
    (cases_lt s (length q))
  where
    here : s < length q → IsFrontAt (q ++ concat qs) s n (take n (drop s q))
    here c =
        let len = length-take n (drop s q) in
        let rest = length-drop s q in
        record {
          same = rw (drop-append-le s q (concat qs) (omega arith), len) (sym (take-append-le (min n (length (drop s q))) (drop s q) (concat qs) (omega arith) ∙ take_min n (drop s q)));
          most = omega arith;
          some = λ _ f. omega arith;
        }

    there : length q ≤ s → IsFrontAt (concat qs) (s - length q) n (piece_part qs (s - length q) n) → IsFrontAt (q ++ concat qs) s n (piece_part qs (s - length q) n)
    there c h =
        let len = length-append q (concat qs) in
        let at : s ≡ length q + (s - length q) = omega arith in
        let rest : drop s (q ++ concat qs) ≡ drop (s - length q) (concat qs) = ap (λ (k : ℕ). drop k (q ++ concat qs)) at ∙ drop-append-add q (concat qs) (s - length q) in
        record {
          same = rw rest h.same;
          most = h.most;
          some = λ l f. h.some (omega arith) f;
        }

-- a write adds a piece
pub HasCuts-write : (v w : Buffered) (cuts : List (List ℕ)) (p : List ℕ) → HasCuts cuts v → v.prefix ≤ v.offset → w.offset ≡ v.offset + length p → w.prefix ≡ v.prefix → w.held ≡ v.held ++ cut_of p → HasCuts (cuts ++ cut_of p) w
HasCuts-write v w cuts [] h l o p e =
    let written = h.written in
    record {
      written = rw (append-nil cuts) (omega arith);
      retained = e ∙ rw (append-nil cuts, append-nil v.held, p) h.retained;
    }
HasCuts-write v w cuts (b ∷ bs) h l o p e =
    let written = h.written in
    let sums = total-append cuts ((b ∷ bs) ∷ []) in
    let reached : v.prefix ≤ total_length cuts = omega arith in
    record {
      written = omega arith;
      retained = e ∙ rw (h.retained, p) (sym (uncovered-push v.prefix cuts (b ∷ bs) reached (omega arith)));
    }

-- a longer acknowledged prefix
pub HasCuts-ack : (v w : Buffered) (cuts : List (List ℕ)) → HasCuts cuts v → v.gone + total_length v.held ≡ v.offset → w.offset ≡ v.offset → v.prefix ≤ w.prefix → w.held ≡ uncovered (w.prefix - v.gone) v.held → HasCuts cuts w
HasCuts-ack v w cuts h l o p e =
    let written = h.written in
    let sums = ap total_length h.retained in
    let gone : v.gone ≡ total_length cuts - total_length (uncovered v.prefix cuts) = omega arith in
    record {
      written = o ∙ h.written;
      retained = e ∙ (rw (gone, h.retained) (uncovered-uncovered v.prefix w.prefix cuts p));
    }

uncovered-none : (d : ℕ) (ps : List (List ℕ)) → total_length ps ≤ d → uncovered d ps ≡ []
uncovered-none d [] h = refl
uncovered-none d (q ∷ qs) h =
    let skipped : length q ≤ d = omega arith in
    uncovered-skip d q qs skipped ∙ uncovered-none (d - length q) qs (omega arith)

-- all bytes are acknowledged
pub HasCuts-all : (v w : Buffered) (cuts : List (List ℕ)) → HasCuts cuts v → w.offset ≡ v.offset → w.prefix ≡ v.offset → w.held ≡ [] → HasCuts cuts w
HasCuts-all v w cuts h o p e =
    let written = h.written in
    record {
      written = o ∙ h.written;
      retained = e ∙ sym (uncovered-none w.prefix cuts (omega arith));
    }

-- the part that the held pieces have is that of all pieces
pub HasCuts-part : (v : Buffered) (cuts : List (List ℕ)) (s n : ℕ) → HasCuts cuts v → v.gone + total_length v.held ≡ v.offset → v.prefix ≤ s → piece_part v.held (s - v.gone) n ≡ piece_part cuts s n
HasCuts-part v cuts s n h l p =
    let written = h.written in
    let sums = ap total_length h.retained in
    let gone : v.gone ≡ total_length cuts - total_length (uncovered v.prefix cuts) = omega arith in
    rw (gone, h.retained) (piece_part-uncovered v.prefix s n cuts p)

-- one more part of the bytes from s on
pub front-step : (bytes xs : List ℕ) (s at n : ℕ) → s ≤ at → IsFrontAt bytes at n xs → take (at - s) (drop s bytes) ++ xs ≡ take (at + length xs - s) (drop s bytes)
front-step bytes xs s at n l h =
    let sum : at + length xs - s ≡ (at - s) + length xs = omega arith in
    let place : s + (at - s) ≡ at = omega arith in
    let rest : drop (at - s) (drop s bytes) ≡ drop at bytes = drop-drop (at - s) s bytes ∙ ap (λ (k : ℕ). drop k bytes) place in
    sym
    (ap (λ (k : ℕ). take k (drop s bytes)) sum
    ∙ (take-add (at - s) (length xs) (drop s bytes)
    ∙ ap (λ (r : List ℕ). take (at - s) (drop s bytes) ++ r) (ap (take (length xs)) rest ∙ sym h.same)))

-- more room
pub HasCuts-reserve : (v : Buffered) (cuts : List (List ℕ)) (room : ℕ) → HasCuts cuts v → HasCuts cuts (record v { room = room })
HasCuts-reserve v cuts room h = record { written = h.written; retained = h.retained }
