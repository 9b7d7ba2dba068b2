-- What a read and a write of the session's streams do.
use Rattle.std.specs.Prelude.{◌≡◌, ◌<◌, ℕ, List, ◌++◌, length, Option, Some, IfSome}
use Rattle.std.specs.Io.BufRead.{first_piece, drop_through}
use Rattle.std.specs.Io.KnownBytes.{Appends}

-- a beginning of the text was written, where it is known
pub record AppendsPart (old new : Option (List ℕ)) (text : List ℕ) : Type 0 where
  pub part : List ℕ
  pub left : List ℕ
  pub whole : text ≡ part ++ left
  pub writes : Appends old new part

-- the first line of the input was taken, where it is known
abbrev pub TakesFirstLine : Option (List ℕ) → List ℕ → Option (List ℕ) → Type 0
TakesFirstLine old line new = IfSome old (λ xs. (0 < length xs) × (line ≡ first_piece 10 xs) × (new ≡ Some (drop_through 10 xs)))
