use Rattle.std.proofs.Common.{arith, ◌≡◌, ◌+◌, ◌≤◌, [], length, ap}
use Rattle.std.specs.List.{remove_range}
use Rattle.block_map.specs.Rows.{Entries, flat, place_among, IsPlace}
use Rattle.block_map.proofs.Flat.{place_fits}
use Rattle.block_map.proofs.Rising.{rises_without, length-without}
use Rattle.block_map.proofs.map.BlockMap.remove_run.Goals as goal

pub overflow_add-self : goal.overflow_add-self
overflow_add-self c =
    let rows = c.self.inside.blocks.items in
    let placed : rows ≡ c.args.self.now.rows = ap (λ (v : Entries). v.rows) c.self.view_is in
    let b = c.args.first.block in
    let i = c.args.first.index in
    let k = c.args.last.block in
    let j = c.args.last.index in
    let last : IsPlace rows k j = rw (← placed) at c.requires.last in
    let order : place_among rows b i ≤ place_among rows k j = rw (← placed) at c.requires.order in
    let f = place_fits rows k j [] last.0 last.1 in
    let n : place_among rows b i + c.count_between-count.result ≡ place_among rows k j = rw c.as_slice.ensures.value at c.count_between-count.ensures in
    let len = c.self.invariant.len_is in
    omega (arith, f, n, len)

pub overflow_sub-self : goal.overflow_sub-self
overflow_sub-self c =
    let rows = c.self.inside.blocks.items in
    let placed : rows ≡ c.args.self.now.rows = ap (λ (v : Entries). v.rows) c.self.view_is in
    let b = c.args.first.block in
    let i = c.args.first.index in
    let k = c.args.last.block in
    let j = c.args.last.index in
    let last : IsPlace rows k j = rw (← placed) at c.requires.last in
    let order : place_among rows b i ≤ place_among rows k j = rw (← placed) at c.requires.order in
    let f = place_fits rows k j [] last.0 last.1 in
    let n : place_among rows b i + c.count_between-count.result ≡ place_among rows k j = rw c.as_slice.ensures.value at c.count_between-count.ensures in
    let len = c.self.invariant.len_is in
    omega (arith, f, n, len)

pub invariant_of-self : goal.invariant_of-self
invariant_of-self c =
    let rows = c.self.inside.blocks.items in
    let placed : rows ≡ c.args.self.now.rows = ap (λ (v : Entries). v.rows) c.self.view_is in
    let b = c.args.first.block in
    let i = c.args.first.index in
    let k = c.args.last.block in
    let j = c.args.last.index in
    let last : IsPlace rows k j = rw (← placed) at c.requires.last in
    let order : place_among rows b i ≤ place_among rows k j = rw (← placed) at c.requires.order in
    let f = place_fits rows k j [] last.0 last.1 in
    let n : place_among rows b i + c.count_between-count.result ≡ place_among rows k j = rw c.as_slice.ensures.value at c.count_between-count.ensures in
    let len = c.self.invariant.len_is in
    let from = place_among rows b i in
    let to = place_among rows k j + 1 in
    let all : flat c.remove_entries.new.blocks.items ≡ remove_range (flat rows) from to = c.remove_entries.ensures.items in
    let r = rises_without (flat rows) from to (omega (arith, order)) (omega (arith, f)) c.self.invariant.rises in
    let m = length-without (flat rows) from to (omega (arith, order)) (omega (arith, f)) in
    let total = ap length all in
    record {
      some = c.remove_entries.ensures.some;
      rises = rw (← all) at r;
      len_is = omega (arith, n, m, total, len, f);
      empty = c.self.invariant.empty;
      room = λ ready. absurd cc;
    }
