-- What is known of the runs of a map that lie apart.
use Rattle.std.proofs.Common.{◌≡◌, ℕ, ◌-◌, ◌<◌, ◌≤◌, ◌⊎◌, List, Option, Some, None, refl, sym, ap, subst, ◌∙◌, inl, inr, arith}
use Rattle.std.specs.Prelude.{slice_index, false}
use Rattle.std.specs.BTreeMap.{is_at}
use Rattle.std.specs.Ordering.{nat_cmp}
use Rattle.std.proofs.lemmas.Bool.{cases_lt, cases_eq}
use Rattle.std.proofs.lemmas.Bool.Decides.{nat_tests}
use Rattle.quic_assembler.specs.Piece.{PieceView, run_end, RunHolds}
use Rattle.quic_ordered.specs.Entries.{piece_at, MapHolds, IsPieceMap, IsOutside}

pub is_at-apart : (k q : ℕ) → (q ≡ k → ⊥) → is_at (nat_cmp k) q ≡ false
is_at-apart k q ne = grind (arith, nat_tests)

pub some_is : (o : Option PieceView) (v w : PieceView) → o ≡ Some v → o ≡ Some w → v ≡ w
some_is o v w e f = cc

pub none_some : (o : Option PieceView) (v : PieceView) → o ≡ None → o ≡ Some v → ⊥
none_some o v e f = cc

-- a run has a byte at an offset, or none
pub place : (r : PieceView) (at : ℕ) → IsOutside r at ⊎ ((byte : ℕ) × RunHolds at byte r)
place r at =
    elim (cases_lt at r.offset) [
      | inl below ↦ inl (inl below)
      | inr from ↦
          elim (cases_lt at (run_end r)) [
            | inl lt ↦ inr (slice_index r.bytes (at - r.offset), (from, lt, refl))
            | inr behind ↦ inl (inr behind)
          ]
    ]

pub one_byte : (r : PieceView) (at a b : ℕ) → RunHolds at a r → RunHolds at b r → a ≡ b
one_byte r at a b h k = sym h.2 ∙ k.2

pub outside_not : (r : PieceView) (at a : ℕ) → RunHolds at a r → IsOutside r at → ⊥
outside_not r at a h (inl lt) = omega arith
outside_not r at a h (inr ge) = omega arith

-- two runs that have a byte at one offset are one
pub one_run : (es : List (ℕ × PieceView)) (at a b q r : ℕ) (v w : PieceView) → IsPieceMap es → piece_at es q ≡ Some v → piece_at es r ≡ Some w → RunHolds at a v → RunHolds at b w → v ≡ w
one_run es at a b q r v w h found other hv hw =
    elim (cases_eq q r) [
      | inl same ↦ some_is (piece_at es q) v w found (ap (piece_at es) same ∙ other)
      | inr apart ↦
          let kv = h.key q v found in
          let kw = h.key r w other in
          elim (cases_lt q r) [
            | inl lt ↦ let e = h.apart q r v w found other lt in absurd (omega arith)
            | inr ge ↦ let e = h.apart r q w v other found (omega arith) in absurd (omega arith)
          ]
    ]

pub held_once : (es : List (ℕ × PieceView)) (at a b : ℕ) → IsPieceMap es → MapHolds es at a → MapHolds es at b → a ≡ b
held_once es at a b h x y =
    let e = one_run es at a b x.start y.start x.run y.run h x.found y.found x.here y.here in
    one_byte y.run at a b (subst (RunHolds at a) e x.here) y.here

pub held : (es : List (ℕ × PieceView)) (q at byte : ℕ) (v : PieceView) → piece_at es q ≡ Some v → RunHolds at byte v → MapHolds es at byte
held es q at byte v found here = record { start = q; run = v; found = found; here = here }

-- what lies in a run of the map is held
pub covered : (es : List (ℕ × PieceView)) (q at : ℕ) (v : PieceView) → IsPieceMap es → piece_at es q ≡ Some v → q ≤ at → at < run_end v → (byte : ℕ) × MapHolds es at byte
covered es q at v apart found low high =
    let e = apart.key q v found in
    (slice_index v.bytes (at - v.offset), held es q at _ v found (omega arith, high, refl))
