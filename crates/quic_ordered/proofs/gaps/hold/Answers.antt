use Rattle.std.proofs.Common.{◌≡◌, ◌∙◌, ℕ, ap, arith, inl, List, length}
use Rattle.quic_assembler.specs.Piece.{PieceView}
use Rattle.quic_ordered.specs.Entries.{piece_at}
use Rattle.quic_ordered.proofs.Joining.{free_for, free_none, put_takes, put_apart, put_stems, free_apart, put_keeps}
use Rattle.quic_ordered.proofs.Slotted.{insert_at, insert_apart, insert_len}
use Rattle.quic_ordered.proofs.gaps.hold.Goals as goal

pub returns-in_default-clause-takes : goal.returns-in_default-clause-takes
returns-in_default-clause-takes c =
    let es = c.args.pieces.now in
    let new = c.args.new in
    let is = rw c.in_default.is at c.in_ok-given.ensures.entries in
    let free = free_for es new c.requires.apart c.requires.some (rw c.in_default.is at c.in_ok-given.ensures.free) in
    let here = ap (λ (xs : List (ℕ × PieceView)). piece_at xs new.offset) is ∙ insert_at es new.offset new in
    let others : (q : ℕ) → (q ≡ new.offset → ⊥) → piece_at c.put_free.new.self q ≡ piece_at es q = λ q ne. ap (λ (xs : List (ℕ × PieceView)). piece_at xs q) is ∙ insert_apart es new.offset q new ne in
    put_takes _ _ new c.requires.apart c.requires.some free here others

pub returns-in_default-clause-stems : goal.returns-in_default-clause-stems
returns-in_default-clause-stems c =
    let es = c.args.pieces.now in
    let new = c.args.new in
    let is = rw c.in_default.is at c.in_ok-given.ensures.entries in
    let free = free_for es new c.requires.apart c.requires.some (rw c.in_default.is at c.in_ok-given.ensures.free) in
    let here = ap (λ (xs : List (ℕ × PieceView)). piece_at xs new.offset) is ∙ insert_at es new.offset new in
    let others : (q : ℕ) → (q ≡ new.offset → ⊥) → piece_at c.put_free.new.self q ≡ piece_at es q = λ q ne. ap (λ (xs : List (ℕ × PieceView)). piece_at xs q) is ∙ insert_apart es new.offset q new ne in
    put_stems _ _ new here others

pub returns-in_default-clause-joined : goal.returns-in_default-clause-joined
returns-in_default-clause-joined c =
    let es = c.args.pieces.now in
    let new = c.args.new in
    let is = rw c.in_default.is at c.in_ok-given.ensures.entries in
    let free = free_for es new c.requires.apart c.requires.some (rw c.in_default.is at c.in_ok-given.ensures.free) in
    let here = ap (λ (xs : List (ℕ × PieceView)). piece_at xs new.offset) is ∙ insert_at es new.offset new in
    let others : (q : ℕ) → (q ≡ new.offset → ⊥) → piece_at c.put_free.new.self q ≡ piece_at es q = λ q ne. ap (λ (xs : List (ℕ × PieceView)). piece_at xs q) is ∙ insert_apart es new.offset q new ne in
    inl (free_apart _ new c.requires.apart free, here)

pub returns-in_default-clause-stays : goal.returns-in_default-clause-stays
returns-in_default-clause-stays c =
    let es = c.args.pieces.now in
    let new = c.args.new in
    let is = rw c.in_default.is at c.in_ok-given.ensures.entries in
    let free = free_for es new c.requires.apart c.requires.some (rw c.in_default.is at c.in_ok-given.ensures.free) in
    let here = ap (λ (xs : List (ℕ × PieceView)). piece_at xs new.offset) is ∙ insert_at es new.offset new in
    let others : (q : ℕ) → (q ≡ new.offset → ⊥) → piece_at c.put_free.new.self q ≡ piece_at es q = λ q ne. ap (λ (xs : List (ℕ × PieceView)). piece_at xs q) is ∙ insert_apart es new.offset q new ne in
    put_keeps _ _ new c.requires.apart c.requires.some others

pub returns-in_default-clause-apart : goal.returns-in_default-clause-apart
returns-in_default-clause-apart c =
    let es = c.args.pieces.now in
    let new = c.args.new in
    let is = rw c.in_default.is at c.in_ok-given.ensures.entries in
    let free = free_for es new c.requires.apart c.requires.some (rw c.in_default.is at c.in_ok-given.ensures.free) in
    let here = ap (λ (xs : List (ℕ × PieceView)). piece_at xs new.offset) is ∙ insert_at es new.offset new in
    let others : (q : ℕ) → (q ≡ new.offset → ⊥) → piece_at c.put_free.new.self q ≡ piece_at es q = λ q ne. ap (λ (xs : List (ℕ × PieceView)). piece_at xs q) is ∙ insert_apart es new.offset q new ne in
    put_apart _ _ new c.requires.apart c.requires.some free here others

pub returns-in_default-clause-pieces : goal.returns-in_default-clause-pieces
returns-in_default-clause-pieces c =
    let es = c.args.pieces.now in
    let new = c.args.new in
    let is = rw c.in_default.is at c.in_ok-given.ensures.entries in
    let free = free_for es new c.requires.apart c.requires.some (rw c.in_default.is at c.in_ok-given.ensures.free) in
    let here = ap (λ (xs : List (ℕ × PieceView)). piece_at xs new.offset) is ∙ insert_at es new.offset new in
    let others : (q : ℕ) → (q ≡ new.offset → ⊥) → piece_at c.put_free.new.self q ≡ piece_at es q = λ q ne. ap (λ (xs : List (ℕ × PieceView)). piece_at xs q) is ∙ insert_apart es new.offset q new ne in
    (let l = ap (λ (xs : List (ℕ × PieceView)). length xs) is ∙ insert_len es new.offset new (free_none es new c.requires.apart c.requires.some free) in omega (arith, l))

pub returns-clause-joined : goal.returns-clause-joined
returns-clause-joined c =
    let same = rw c.in-Some.is at c.in_ok-given.ensures.same in
    let back = rw c.in-Some.is at c.in_ok-given.ensures.back in
    rw (same, back) at c.hold_near.ensures.joined

pub returns-clause-stays : goal.returns-clause-stays
returns-clause-stays c =
    let same = rw c.in-Some.is at c.in_ok-given.ensures.same in
    let back = rw c.in-Some.is at c.in_ok-given.ensures.back in
    rw (same, back) at c.hold_near.ensures.stays
