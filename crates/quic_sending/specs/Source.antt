-- A source of bytes, as the lists of bytes that are left of it.
use Rattle.std.specs.Prelude.{◌≡◌, ℕ, ◌+◌, ◌-◌, ◌<◌, min, nat_lt, if◌then◌else◌, List, [], ◌∷◌, ◌++◌, length, take, drop}
use Rattle.std.specs.List.{concat}
use Rattle.quic_sending.specs.Buffer.{Buffered, HasCuts, cut_of, total_length}

-- the lists that have bytes
abbrev pub filled_of : List (List ℕ) → List (List ℕ)
filled_of [] = []
filled_of (p ∷ ps) = cut_of p ++ filled_of ps

-- the pieces are the first of the lists, but that of the last one of these there may be a front alone
abbrev pub AreCutAs : List (List ℕ) → List (List ℕ) → Type 0
AreCutAs [] ls = Unit {0}
AreCutAs (p ∷ ps) [] = ⊥
AreCutAs (p ∷ []) (l ∷ ls) = (0 < length p) × (p ≡ take (length p) l)
AreCutAs (p ∷ (q ∷ ps)) (l ∷ ls) = (p ≡ l) × AreCutAs (q ∷ ps) ls

-- the pieces are the first n bytes of the lists, or all where there are fewer: one piece for each list of which there
-- are some
pub record AreFrontOf (n : ℕ) (lists pieces : List (List ℕ)) : Type 0 where
  pub bytes : concat pieces ≡ take n (concat lists)
  pub cut : AreCutAs pieces (filled_of lists)

-- those pieces were appended to what a buffer holds, unsent, and nothing else changed but room
pub record Appends (n : ℕ) (lists : List (List ℕ)) (old new : Buffered) : Type 0 where
  pub pieces : List (List ℕ)
  pub front : AreFrontOf n lists pieces
  pub buffer : new ≡ record old { offset = old.offset + min n (total_length lists); held = old.held ++ pieces; room = new.room }
  pub cuts : (cuts : List (List ℕ)) → HasCuts cuts old → HasCuts (cuts ++ pieces) new

-- the lists without their first n bytes, and without those in front of which nothing is left
abbrev pub rest_of : ℕ → List (List ℕ) → List (List ℕ)
rest_of n [] = []
rest_of n ([] ∷ ps) = rest_of n ps
rest_of n ((b ∷ bs) ∷ ps) = if nat_lt n (length (b ∷ bs)) then drop n (b ∷ bs) ∷ ps else rest_of (n - length (b ∷ bs)) ps

-- the lists without their first n bytes, each in its place
abbrev pub without_first : ℕ → List (List ℕ) → List (List ℕ)
without_first n [] = []
without_first n (p ∷ ps) = drop n p ∷ without_first (n - length p) ps

-- the first of those pieces, empty if there is none
abbrev pub popped : ℕ → List (List ℕ) → List ℕ
popped n [] = []
popped n ([] ∷ ps) = popped n ps
popped n ((b ∷ bs) ∷ ps) = take n (b ∷ bs)

-- the lists once it is taken out
abbrev pub after_pop : ℕ → List (List ℕ) → List (List ℕ)
after_pop n [] = []
after_pop n ([] ∷ ps) = after_pop n ps
after_pop n ((b ∷ bs) ∷ ps) = if nat_lt n (length (b ∷ bs)) then drop n (b ∷ bs) ∷ ps else ps

-- the last of those pieces where it is a part of its list, and empty where there is none such
abbrev pub cut_piece : ℕ → List (List ℕ) → List ℕ
cut_piece n [] = []
cut_piece n ([] ∷ ps) = cut_piece n ps
cut_piece n ((b ∷ bs) ∷ ps) = if nat_lt n (length (b ∷ bs)) then take n (b ∷ bs) else cut_piece (n - length (b ∷ bs)) ps

-- without the empty lists in front
abbrev pub drop_empty : List (List ℕ) → List (List ℕ)
drop_empty [] = []
drop_empty ([] ∷ ps) = drop_empty ps
drop_empty ((b ∷ bs) ∷ ps) = (b ∷ bs) ∷ ps

-- the lists of a slice: one, or none where there are no bytes
abbrev pub slice_lists : List ℕ → List (List ℕ)
slice_lists [] = []
slice_lists (b ∷ bs) = (b ∷ bs) ∷ []
