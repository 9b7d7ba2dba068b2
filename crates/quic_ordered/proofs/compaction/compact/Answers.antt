use Rattle.std.proofs.Common.{◌≡◌, ℕ, List, Option, Some, None, arith, sym, subst, refl}
use Rattle.std.specs.Prelude.{IfSome, IfNone, Result, Ok, Err, OnOk}
use Rattle.std.specs.List.{All}
use Rattle.quic_assembler.specs.Piece.{PieceView}
use Rattle.quic_ordered.specs.Rows.{LieWithGaps, IsTidy}
use Rattle.std.specs.Map.{values_of}
use Rattle.quic_ordered.specs.declared.map.Run.{Run}
use Rattle.quic_ordered.specs.Sweeping.{IsNextRun}
use Rattle.quic_ordered.proofs.Sweeping.{swept_none, swept_all}
use Rattle.quic_ordered.proofs.Chains.{swept_map, run_base, run_on, run_done}
use Rattle.quic_ordered.proofs.compaction.compact.Goals as goal

left_none : {A : Type 0} {P : Type 0} (o : Option A) → ((x : A) → o ≡ Some x → ⊥) → IfNone o P → P
left_none None not h = h
left_none (Some x) not h = absurd (not x refl)

on_any : {T E : Type 0} {A : Type 0} (r : Result T E) → A → OnOk r A
on_any (Ok x) h = h
on_any (Err e) h = tt

pub loop-bytes-init : goal.loop-bytes-init
loop-bytes-init c = record { swept = swept_none c.args.pieces.now c.requires.keyed c.requires.order; rises = c.len-count.ensures.rises }

pub join_run-requires-clause-map : goal.join_run-requires-clause-map
join_run-requires-clause-map c = swept_map (values_of c.args.pieces.now) c.loop-bytes.last c.loop-bytes.end c.loop-bytes.pieces c.loop-bytes.invariant.swept

pub join_run-requires-clause-base : goal.join_run-requires-clause-base
join_run-requires-clause-base c =
    let p = c.in_ok-passed.passed in
    let es = c.loop-bytes.pieces in
    let bytes = c.pass_over.new.bytes.items in
    let r = subst (λ (o : Option Run). IfSome o (λ run. IsNextRun es p.last p.end run.base run.from run.stop bytes)) c.in-Some.is c.in_ok-passed.ensures.found in
    let s = c.in_ok-passed.ensures.swept (values_of c.args.pieces.now) c.loop-bytes.invariant.swept in
    run_base (values_of c.args.pieces.now) p.last p.end es c.in-Some.run'.base c.in-Some.run'.from c.in-Some.run'.stop bytes s r

pub loop-bytes-smaller : goal.loop-bytes-smaller
loop-bytes-smaller c =
    let p = c.in_ok-passed.passed in
    let es = c.loop-bytes.pieces in
    let bytes = c.pass_over.new.bytes.items in
    let r = subst (λ (o : Option Run). IfSome o (λ run. IsNextRun es p.last p.end run.base run.from run.stop bytes)) c.in-Some.is c.in_ok-passed.ensures.found in
    let s = c.in_ok-passed.ensures.swept (values_of c.args.pieces.now) c.loop-bytes.invariant.swept in
    let more = run_on (values_of c.args.pieces.now) p.last p.end es c.in-Some.run'.base c.in-Some.run'.from c.in-Some.run'.stop bytes s r in
    let on = c.in_ok-passed.ensures.on in
    let bound = r.bound in
    omega (arith, more, on, bound)

pub loop-bytes-preserved : goal.loop-bytes-preserved
loop-bytes-preserved c =
    let p = c.in_ok-passed.passed in
    let es = c.loop-bytes.pieces in
    let bytes = c.pass_over.new.bytes.items in
    let r = subst (λ (o : Option Run). IfSome o (λ run. IsNextRun es p.last p.end run.base run.from run.stop bytes)) c.in-Some.is c.in_ok-passed.ensures.found in
    let s = c.in_ok-passed.ensures.swept (values_of c.args.pieces.now) c.loop-bytes.invariant.swept in
    let j = c.in_ok-join_run.ensures.joined in
    record {
      swept = run_done (values_of c.args.pieces.now) p.last p.end es c.join_run.new.pieces c.in-Some.run'.base c.in-Some.run'.from c.in-Some.run'.stop bytes j.0 s r c.loop-bytes.invariant.rises c.join_run.ensures.rises j.1 j.2 j.3;
      rises = c.join_run.ensures.rises;
    }

pub returns-in_default-clause-apart : goal.returns-in_default-clause-apart
returns-in_default-clause-apart c =
    let p = c.in_ok-passed.passed in
    let s = c.in_ok-passed.ensures.swept (values_of c.args.pieces.now) c.loop-bytes.invariant.swept in
    on_any c.refill.result (subst (λ (es : List (ℕ × PieceView)). LieWithGaps 0 (values_of es)) (sym c.refill.ensures.same)
    (swept_all (values_of c.args.pieces.now) p.last p.end c.loop-bytes.pieces s (left_none p.next (λ x e. c.in_default.not-Some x e) c.in_ok-passed.ensures.none)).0)

pub returns-in_default-clause-tidy : goal.returns-in_default-clause-tidy
returns-in_default-clause-tidy c =
    let p = c.in_ok-passed.passed in
    let s = c.in_ok-passed.ensures.swept (values_of c.args.pieces.now) c.loop-bytes.invariant.swept in
    on_any c.refill.result (subst (λ (es : List (ℕ × PieceView)). All IsTidy (values_of es)) (sym c.refill.ensures.same)
    (swept_all (values_of c.args.pieces.now) p.last p.end c.loop-bytes.pieces s (left_none p.next (λ x e. c.in_default.not-Some x e) c.in_ok-passed.ensures.none)).1)
