use Rattle.std.proofs.Common.{arith, ◌≡◌, ◌+◌, ◌<◌, List, [], ◌++◌, length, take, drop, sym, ap, ◌∙◌}
use Rattle.block_map.specs.Sorted.{KeyAndValue, KeysRise}
use Rattle.block_map.specs.Rows.{flat}
use Rattle.std.proofs.lemmas.List.{take-append-drop}
use Rattle.block_map.proofs.Flat.{same_at}
use Rattle.block_map.proofs.Rowed.{flat-append, flat_next}
use Rattle.block_map.proofs.Rising.{rises_front}
use Rattle.block_map.proofs.rows.joined.Goals as goal

pub join_row-requires-clause-rises : goal.join_row-requires-clause-rises
join_row-requires-clause-rises c =
    let rows = c.args.blocks.now in
    let i = c.loop-block.block-index in
    let item = c.block-item.result in
    let lt : i < length rows = omega arith in
    let same = c.block-item.is ∙ same_at rows i item [] lt in
    let whole : flat c.loop-block.rows.items ++ item ≡ flat (take (i + 1) rows) = ap (λ (t : List KeyAndValue). t ++ item) c.loop-block.invariant.items ∙ ap (λ (t : List KeyAndValue). flat (take i rows) ++ t) same ∙ sym (flat_next rows i [] lt) in
    let parts : flat rows ≡ flat (take (i + 1) rows) ++ flat (drop (i + 1) rows) = ap flat (sym (take-append-drop (i + 1) rows)) ∙ flat-append (take (i + 1) rows) (drop (i + 1) rows) in
    let all : KeysRise (flat (take (i + 1) rows) ++ flat (drop (i + 1) rows)) = rw parts at c.requires in
    let r = rises_front (flat (take (i + 1) rows)) (flat (drop (i + 1) rows)) all in
    rw (← whole) at r

pub loop-block-preserved : goal.loop-block-preserved
loop-block-preserved c =
    let rows = c.args.blocks.now in
    let i = c.loop-block.block-index in
    let item = c.block-item.result in
    let lt : i < length rows = omega arith in
    let same = c.block-item.is ∙ same_at rows i item [] lt in
    let whole : flat c.loop-block.rows.items ++ item ≡ flat (take (i + 1) rows) = ap (λ (t : List KeyAndValue). t ++ item) c.loop-block.invariant.items ∙ ap (λ (t : List KeyAndValue). flat (take i rows) ++ t) same ∙ sym (flat_next rows i [] lt) in
    record {
      items = c.in_ok-join_row.ensures.items ∙ whole;
      some = c.in_ok-join_row.ensures.some;
      full = c.in_ok-join_row.ensures.full;
    }
