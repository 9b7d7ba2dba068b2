use Rattle.std.proofs.Common.{arith, ◌≡◌, ◌+◌, ◌<◌, ◌≤◌, ℕ, inl, inr, sym, ap, ◌∙◌, suc}
use Rattle.std.specs.Prelude.{slice_index_or}
use Rattle.block_map.specs.Sorted.{KeyAndValue}
use Rattle.block_map.specs.Rows.{place_among}
use Rattle.std.proofs.lemmas.Bool.{cases_lt, cases_eq}
use Rattle.block_map.proofs.Without.{keeps_all, without_run, none_between}
use Rattle.block_map.proofs.map.BlockMap.remove_keys.Goals as goal

pub returns-in-None : goal.returns-in-None
returns-in-None c = sym (keeps_all c.args.self.now.items c.args.from c.args.to (λ k d lt low high. let h = c.in-None.ensures.none k d lt in absurd (omega (arith, h, low))))

pub returns-in-None-find : goal.returns-in-None-find
returns-in-None-find c = sym (keeps_all c.args.self.now.items c.args.from c.args.to (λ k d lt low high. let h = c.in-None-find.ensures.none k d lt in absurd (omega (arith, h, high))))

pub remove_run-requires-clause-order : goal.remove_run-requires-clause-order
remove_run-requires-clause-order c =
    let xs = c.args.self.now.items in
    let first = c.in-Some.ensures.first in
    let last = c.in-Some-find.ensures.last in
    let p = place_among c.args.self.now.rows c.in-Some.place.block c.in-Some.place.index in
    let q = place_among c.args.self.now.rows c.in-Some-find.place.block c.in-Some-find.place.index in
    let low = λ (d : KeyAndValue). ap (λ (x : KeyAndValue). x.0) (c.entry.ensures d) in
    let high = λ (d : KeyAndValue). ap (λ (x : KeyAndValue). x.0) (c.entry-2.ensures d) in
    let rises = c.find.ensures.rises in
    let le = c.if-entry.true in
    elim (cases_lt q p) [
      | inl less ↦ let r = rises q p c.entry-2.result c.entry.result less first.fits in let l = low c.entry.result in let h = high c.entry-2.result in absurd (omega (arith, r, l, h, le))
      | inr ge ↦ ge
    ]

pub returns-then-entry : goal.returns-then-entry
returns-then-entry c =
    let xs = c.args.self.now.items in
    let first = c.in-Some.ensures.first in
    let last = c.in-Some-find.ensures.last in
    let p = place_among c.args.self.now.rows c.in-Some.place.block c.in-Some.place.index in
    let q = place_among c.args.self.now.rows c.in-Some-find.place.block c.in-Some-find.place.index in
    let low = λ (d : KeyAndValue). ap (λ (x : KeyAndValue). x.0) (c.entry.ensures d) in
    let high = λ (d : KeyAndValue). ap (λ (x : KeyAndValue). x.0) (c.entry-2.ensures d) in
    let rises = c.find.ensures.rises in
    let is : suc q ≡ q + 1 = omega arith in
    let le = c.if-entry.true in
    let order : p ≤ q = elim (cases_lt q p) [
      | inl less ↦ let r = rises q p c.entry-2.result c.entry.result less first.fits in let l = low c.entry.result in let h = high c.entry-2.result in absurd (omega (arith, r, l, h, le))
      | inr ge ↦ ge
    ] in
    c.remove_run.ensures ∙ sym (without_run xs c.args.from c.args.to p q (q + 1) is order first last rises)

pub returns-else-entry : goal.returns-else-entry
returns-else-entry c =
    let xs = c.args.self.now.items in
    let first = c.in-Some.ensures.first in
    let last = c.in-Some-find.ensures.last in
    let p = place_among c.args.self.now.rows c.in-Some.place.block c.in-Some.place.index in
    let q = place_among c.args.self.now.rows c.in-Some-find.place.block c.in-Some-find.place.index in
    let low = λ (d : KeyAndValue). ap (λ (x : KeyAndValue). x.0) (c.entry.ensures d) in
    let high = λ (d : KeyAndValue). ap (λ (x : KeyAndValue). x.0) (c.entry-2.ensures d) in
    let rises = c.find.ensures.rises in
    let gt = c.if-entry.false in
    let less : q < p = elim (cases_lt q p) [
      | inl less ↦ less
      | inr ge ↦ elim (cases_eq p q) [
        | inl same ↦ let l = low c.entry.result in let h = high c.entry.result in let s = ap (λ (k : ℕ). (slice_index_or xs k c.entry.result).0) same in absurd (omega (arith, l, h, s, gt))
        | inr ne ↦ let r = rises p q c.entry.result c.entry-2.result (omega (arith, ge, ne)) last.fits in let l = low c.entry.result in let h = high c.entry-2.result in absurd (omega (arith, r, l, h, gt))
      ]
    ] in
    sym (none_between xs c.args.from c.args.to p q rises first last less)
