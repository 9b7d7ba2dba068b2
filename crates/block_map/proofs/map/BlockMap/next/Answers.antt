use Rattle.std.proofs.Common.{arith, ◌≡◌, ◌+◌, ◌<◌, ℕ, [], length, ap, ◌∙◌, suc}
use Rattle.block_map.specs.Rows.{Entries, flat, place_among, IsPlace}
use Rattle.block_map.proofs.Flat.{same_at, place_after, place_end, place_fits}
use Rattle.block_map.proofs.map.BlockMap.next.Goals as goal

pub returns-then-block-len-clause-next : goal.returns-then-block-len-clause-next
returns-then-block-len-clause-next c =
    let rows = c.self.inside.blocks.items in
    let items : flat rows ≡ c.args.self.now.items = ap (λ (v : Entries). v.items) c.self.view_is in
    let placed : rows ≡ c.args.self.now.rows = ap (λ (v : Entries). v.rows) c.self.view_is in
    let b = c.args.place.block in
    let i = c.args.place.index in
    let place : IsPlace rows b i = rw (← placed) at c.requires in
    let row = c.index.result.now in
    let same = ap length (c.index.ensures ∙ same_at rows b row [] place.0) in
    let l = c.len-len.ensures.len in
    let a = place_after rows b [] place.0 in
    let p : suc b ≡ b + 1 = omega arith in
    let q = ap (λ (k : ℕ). place_among rows k 0) p in
    let inside = place.1 in
    let h : place_among rows (b + 1) 0 ≡ place_among rows b i + 1 = omega (arith, a, q, same, l, inside) in
    rw placed at h

pub returns-clause-none : goal.returns-clause-none
returns-clause-none c =
    let rows = c.self.inside.blocks.items in
    let items : flat rows ≡ c.args.self.now.items = ap (λ (v : Entries). v.items) c.self.view_is in
    let placed : rows ≡ c.args.self.now.rows = ap (λ (v : Entries). v.rows) c.self.view_is in
    let b = c.args.place.block in
    let i = c.args.place.index in
    let place : IsPlace rows b i = rw (← placed) at c.requires in
    let row = c.index.result.now in
    let same = ap length (c.index.ensures ∙ same_at rows b row [] place.0) in
    let l = c.len-len.ensures.len in
    let lt = place.0 in
    let inside = place.1 in
    let last : suc b ≡ length rows = omega (arith, lt, c.len.ensures) in
    let z = place_end rows b [] last in
    let h : length (flat rows) ≡ place_among rows b i + 1 = omega (arith, z, same, l, inside) in
    rw (items, placed) at h

pub returns-then-index-len-clause-fits : goal.returns-then-index-len-clause-fits
returns-then-index-len-clause-fits c =
    let rows = c.self.inside.blocks.items in
    let items : flat rows ≡ c.args.self.now.items = ap (λ (v : Entries). v.items) c.self.view_is in
    let placed : rows ≡ c.args.self.now.rows = ap (λ (v : Entries). v.rows) c.self.view_is in
    let b = c.args.place.block in
    let i = c.args.place.index in
    let place : IsPlace rows b i = rw (← placed) at c.requires in
    let row = c.index.result.now in
    let same = ap length (c.index.ensures ∙ same_at rows b row [] place.0) in
    let l = c.len-len.ensures.len in
    let f = place_fits rows b (i + 1) [] place.0 (omega (arith, same, l)) in
    let h : place_among rows b i + 1 < length (flat rows) = omega (arith, f) in
    rw (items, placed) at h

pub returns-then-block-len-clause-fits : goal.returns-then-block-len-clause-fits
returns-then-block-len-clause-fits c =
    let rows = c.self.inside.blocks.items in
    let items : flat rows ≡ c.args.self.now.items = ap (λ (v : Entries). v.items) c.self.view_is in
    let placed : rows ≡ c.args.self.now.rows = ap (λ (v : Entries). v.rows) c.self.view_is in
    let b = c.args.place.block in
    let i = c.args.place.index in
    let place : IsPlace rows b i = rw (← placed) at c.requires in
    let row = c.index.result.now in
    let same = ap length (c.index.ensures ∙ same_at rows b row [] place.0) in
    let l = c.len-len.ensures.len in
    let a = place_after rows b [] place.0 in
    let p : suc b ≡ b + 1 = omega arith in
    let q = ap (λ (k : ℕ). place_among rows k 0) p in
    let inside = place.1 in
    let lt : b + 1 < length rows = omega (arith, c.len.ensures) in
    let f = place_fits rows (b + 1) 0 [] lt (c.self.invariant.some (b + 1) [] lt) in
    let h : place_among rows b i + 1 < length (flat rows) = omega (arith, f, a, q, same, l, inside) in
    rw (items, placed) at h
