use Rattle.std.proofs.Common.{rules, ◌≤◌, ◌-◌, ◌≡◌, arith, length, take, drop}
use Rattle.std.proofs.lemmas.List.{take_all, length-drop}
use Rattle.std.specs.Prelude.{slice_index_or}
use Rattle.std.proofs.lemmas.Bool.Decides.{nat_tests}
use Rattle.quic_wire.proofs.Steps.{IsBytes}
use Rattle.quic_wire.proofs.Whole.{behind_length, whole_behind, whole_begins}
use Rattle.quic_wire.proofs.reading.whole_stream.Goals as goal

pub overflow_sub-result : goal.overflow_sub-result
overflow_sub-result c =
    let fits : IsBytes c.args.bytes.now = search rules in
    let t : take (length c.args.bytes.now - 1) (drop 1 c.args.bytes.now) ≡ drop 1 c.args.bytes.now = take_all (length c.args.bytes.now - 1) (drop 1 c.args.bytes.now) (simp length-drop (omega arith)) in
    let read = rw t at c.in-Ok.ensures.read in
    behind_length c.in-Some.content.now c.args.bytes.now
    (whole_behind c.args.bytes.now c.in-Ok.after.now c.in-Ok-offset_at.rest.now c.in-Some.content.now c.in-Ok.id c.in-Ok-offset_at.offset fits c.in-len1-up.len_at_least read c.in-Ok-offset_at.ensures c.in-Some.ensures.behind)

pub returns-clause-begins : goal.returns-clause-begins
returns-clause-begins c =
    let fits : IsBytes c.args.bytes.now = search rules in
    let t : take (length c.args.bytes.now - 1) (drop 1 c.args.bytes.now) ≡ drop 1 c.args.bytes.now = take_all (length c.args.bytes.now - 1) (drop 1 c.args.bytes.now) (simp length-drop (omega arith)) in
    let read = rw t at c.in-Ok.ensures.read in
    let low : 8 ≤ slice_index_or c.args.bytes.now 0 0 = grind (arith, nat_tests, c.if-kind-lt8.false) in
    let high : slice_index_or c.args.bytes.now 0 0 ≤ 15 = grind (arith, nat_tests, c.if-kind-gt15.false) in
    rw (c.from.ensures, c.new.ensures)
    (whole_begins c.args.bytes.now c.in-Ok.after.now c.in-Ok-offset_at.rest.now c.in-Some.content.now c.in-Ok.id c.in-Ok-offset_at.offset fits c.in-len1-up.len_at_least low high read c.in-Ok-offset_at.ensures c.in-Some.ensures.read c.in-Some.ensures.behind)
