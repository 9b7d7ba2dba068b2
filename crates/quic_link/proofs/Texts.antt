-- Bytes of a stream at their places.
use Rattle.std.proofs.Common.{◌≡◌, ℕ, List, length, sym, ap, ◌∙◌, subst, arith, ◌+◌, ◌-◌, ◌≤◌, ◌<◌}
use Rattle.std.specs.Prelude.{◌++◌, drop, slice_index}
use Rattle.std.specs.List.{concat}
use Rattle.std.proofs.lemmas.List.{get_or_append_left, get_or-take, get_or-drop, length-append, length-take, length-drop}
use Rattle.std.proofs.lemmas.List.Folds.{concat-append}
use Rattle.quic_assembler.specs.Piece.{IsByteAt}
use Rattle.quic_outgoing.specs.Transmitting.{between}
use Rattle.quic_link.specs.Truths.{AreBytesOf}

-- what is written behind leaves the bytes before
pub byte-more : (xs ys : List ℕ) (at byte : ℕ) → IsByteAt 0 xs at byte → IsByteAt 0 (xs ++ ys) at byte
byte-more xs ys at byte h =
    let n = length-append xs ys in
    let l : at - 0 < length xs = let k = h.1 in omega arith in
    let k = h.1 in
    (omega arith, omega arith, get_or_append_left xs ys 0 (at - 0) l ∙ h.2)

pub bytes-more : (offset : ℕ) (bytes xs ys : List ℕ) → AreBytesOf offset bytes xs → AreBytesOf offset bytes (xs ++ ys)
bytes-more offset bytes xs ys h at byte k = byte-more xs ys at byte (h at byte k)

pub cuts-more : (offset : ℕ) (bytes : List ℕ) (cuts cuts' more : List (List ℕ)) → cuts' ≡ cuts ++ more → AreBytesOf offset bytes (concat cuts) → AreBytesOf offset bytes (concat cuts')
cuts-more offset bytes cuts cuts' more e h =
    let P : List ℕ → Type 0 = λ w. AreBytesOf offset bytes w in
    let same : concat cuts' ≡ concat cuts ++ concat more = ap concat e ∙ concat-append cuts more in
    subst P (sym same) (bytes-more offset bytes (concat cuts) (concat more) h)

pub length-between : (whole : List ℕ) (start end : ℕ) → start ≤ end → end ≤ length whole → length (between whole start end) ≡ end - start
length-between whole start end ordered within =
    let a = length-take (end - start) (drop start whole) in
    let b = length-drop start whole in
    omega arith

-- a part is of the whole
pub bytes-between : (whole : List ℕ) (start end : ℕ) → start ≤ end → end ≤ length whole → AreBytesOf start (between whole start end) whole
bytes-between whole start end ordered within at byte h =
    let n = length-between whole start end ordered within in
    let a = h.0 in
    let b = h.1 in
    let l : at - start < end - start = omega arith in
    let t = get_or-take (end - start) (drop start whole) (at - start) 0 l in
    let d = get_or-drop start whole (at - start) 0 in
    let i : start + (at - start) ≡ at - 0 = omega arith in
    (omega arith, omega arith, ap (λ k. slice_index whole k) (sym i) ∙ sym d ∙ sym t ∙ h.2)
