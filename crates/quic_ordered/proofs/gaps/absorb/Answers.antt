use Rattle.std.proofs.Common.{sym, ◌∙◌, arith}
use Rattle.std.proofs.lemmas.Bool.Decides.{nat_tests}
use Rattle.quic_ordered.proofs.Joining.{step, step_fits}
use Rattle.quic_ordered.proofs.gaps.absorb.Goals as goal

pub loop-from-preserved : goal.loop-from-preserved
loop-from-preserved c = record {
  pieces = let n = c.loop-from.invariant.pieces in let l = c.remove.ensures.len in grind (arith, nat_tests);
  memory = c.write.ensures.memory ∙ c.loop-from.invariant.memory;
  len = c.write.ensures.written.len ∙ c.loop-from.invariant.len;
  joins = λ es apart spans joins.
      let first = c.in-Some.ensures.found in
      step es _ _ c.args.new.now c.in-Some-remove.piece _ _ c.args.start c.args.end c.in-Some.from apart
      (sym c.remove.ensures.value ∙ c.in-Some-remove.is) (let e = first.from in omega arith) (let e = c.end.ensures.value in omega arith)
      c.remove.ensures.gone c.remove.ensures.others
      c.write.ensures.written (c.loop-from.invariant.joins es apart spans joins);
}

pub write-requires-clause-from : goal.write-requires-clause-from
write-requires-clause-from c =
    let j = c.requires.joins in
    let first = c.in-Some.ensures.found in
    let f = step_fits j.0 _ c.args.new.now c.in-Some-remove.piece c.loop-from.base c.args.start c.args.end c.in-Some.from j.1 j.2
    (sym c.remove.ensures.value ∙ c.in-Some-remove.is) (let e = first.from in omega arith) (let e = c.end.ensures.value in omega arith) (c.loop-from.invariant.joins j.0 j.1 j.2 j.3) in
    f.0

pub write-requires-clause-to : goal.write-requires-clause-to
write-requires-clause-to c =
    let j = c.requires.joins in
    let first = c.in-Some.ensures.found in
    let f = step_fits j.0 _ c.args.new.now c.in-Some-remove.piece c.loop-from.base c.args.start c.args.end c.in-Some.from j.1 j.2
    (sym c.remove.ensures.value ∙ c.in-Some-remove.is) (let e = first.from in omega arith) (let e = c.end.ensures.value in omega arith) (c.loop-from.invariant.joins j.0 j.1 j.2 j.3) in
    f.1
