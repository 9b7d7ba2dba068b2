use Rattle.std.proofs.Common.{◌≡◌, ℕ, ◌<◌, false, eqb, Option, subst, List, [], ◌∷◌, ◌++◌, length, Some, refl, sym, ap, ◌∙◌, append_assoc, arith}
use Rattle.std.proofs.lemmas.Result.{err_from_is_err_and}
use Rattle.std.proofs.lemmas.List.{nil_from_length, append-nil}
use Rattle.std.proofs.lemmas.Bool.{eqb-true, eqb-false}
use Rattle.quic_wire.specs.declared.frame.Frame.{Frame}
use Rattle.quic_wire.specs.Frames.{AreFrames}
use Rattle.quic_wire.proofs.Read.{frame_takes}
use Rattle.quic_wire.proofs.Joins.{first_is, fails_then}
use Rattle.quic_wire.specs.Reading.{last_frame}
use Rattle.quic_wire.proofs.Whole.{behind_both, behind_frame, behind_length, same_frame, only_frame}
use Rattle.quic_wire.proofs.reading.decode_front.Goals as goal

not_empty : (bytes : List ℕ) → false ≡ eqb (length bytes) 0 → 0 < length bytes
not_empty bytes e = let ne = eqb-false (length bytes) 0 (sym e) in omega arith

nothing_left : (fs : List Frame) → AreFrames [] fs → fs ≡ []
nothing_left [] is = refl
nothing_left (f ∷ fs) is = absurd is.1

abbrev some : List Frame → Option (List Frame)
some fs = Some fs

pub returns-in_err-frame-clause-only : goal.returns-in_err-frame-clause-only
returns-in_err-frame-clause-only g c = λ fs is.
    let p = err_from_is_err_and c.from_residual.result c.from_residual.ensures.1 in
    let h = c.loop-rest.invariant.only fs is in
    rw (p.1, p.2) (fails_then c.in_err-frame.field-0.0 c.loop-rest.rest.now fs h.0 c.in_err-frame.ensures (not_empty c.loop-rest.rest.now c.loop-rest-test.ensures) h.2)

pub loop-rest-smaller : goal.loop-rest-smaller
loop-rest-smaller g c = (frame_takes c.loop-rest.rest.now (c.in_ok-frame.frame, c.in_ok-frame.after.now) c.loop-rest.invariant.fits c.in_ok-frame.ensures).shorter

pub loop-rest-preserved : goal.loop-rest-preserved
loop-rest-preserved g c =
    let t = frame_takes c.loop-rest.rest.now (c.in_ok-frame.frame, c.in_ok-frame.after.now) c.loop-rest.invariant.fits c.in_ok-frame.ensures in
    let f = c.in_ok-frame.frame in
    let front = c.loop-rest.frames.items in
    rw c.in_ok-push.ensures.items
    (record {
      fits = t.fits;
      last = behind_both c.args.payload.now c.loop-rest.rest.now c.in_ok-frame.after.now c.loop-rest.invariant.last (behind_frame c.loop-rest.rest.now f c.in_ok-frame.after.now t.begins);
      found = λ fs is. rw append_assoc (c.loop-rest.invariant.found (f ∷ fs) (c.in_ok-frame.after.now, t.begins, is));
      only = λ fs is.
          let h = c.loop-rest.invariant.only fs is in
          let g = first_is c.loop-rest.rest.now f c.in_ok-frame.after.now h.0 c.in_ok-frame.ensures (not_empty c.loop-rest.rest.now c.loop-rest-test.ensures) h.2 in
          (g.0, h.1 ∙ ap (λ gs. front ++ gs) g.1 ∙ sym (append_assoc front (f ∷ []) g.0), g.2);
    })

pub returns-clause-found : goal.returns-clause-found
returns-clause-found g c =
    let none = nil_from_length c.loop-rest.rest.now (eqb-true _ _ (sym c.loop-rest-test.ensures)) in
    subst (AreFrames c.args.payload.now) (append-nil c.loop-rest.frames.items) (c.loop-rest.invariant.found [] none)

pub returns-clause-only : goal.returns-clause-only
returns-clause-only g c = λ fs is.
    let none = nil_from_length c.loop-rest.rest.now (eqb-true _ _ (sym c.loop-rest-test.ensures)) in
    let h = c.loop-rest.invariant.only fs is in
    ap some (h.1 ∙ ap (λ gs. c.loop-rest.frames.items ++ gs) (nothing_left h.0 (rw none at h.2)) ∙ append-nil c.loop-rest.frames.items)

pub returns-in_err-frame-clause-malformed : goal.returns-in_err-frame-clause-malformed
returns-in_err-frame-clause-malformed g c = λ is fs are.
    let h = rw is at (returns-in_err-frame-clause-only g c fs are) in
    absurd cc

pub overflow_sub-payload : goal.overflow_sub-payload
overflow_sub-payload g c = behind_length c.loop-rest.rest.now c.args.payload.now c.loop-rest.invariant.last

pub returns-in-Some-clause-found : goal.returns-in-Some-clause-found
returns-in-Some-clause-found g c =
    let w = c.in-Some.last in
    rw (c.behind.ensures, same_frame w c.loop-rest.rest.now c.args.payload.now c.loop-rest.invariant.last)
    (c.loop-rest.invariant.found (last_frame w c.loop-rest.rest.now ∷ []) ([], c.in-Some.ensures.begins, refl))

pub returns-in-Some-clause-only : goal.returns-in-Some-clause-only
returns-in-Some-clause-only g c = λ fs is.
    let w = c.in-Some.last in
    let h = c.loop-rest.invariant.only fs is in
    let one = only_frame c.loop-rest.rest.now (last_frame w c.loop-rest.rest.now) h.0 c.in-Some.ensures.begins h.2 in
    rw (c.behind.ensures, same_frame w c.loop-rest.rest.now c.args.payload.now c.loop-rest.invariant.last)
    (ap some (h.1 ∙ ap (λ gs. c.loop-rest.frames.items ++ gs) one))

pub returns-in-Some-clause-within : goal.returns-in-Some-clause-within
returns-in-Some-clause-within g c =
    let l = behind_length c.loop-rest.rest.now c.args.payload.now c.loop-rest.invariant.last in
    rw c.behind.ensures (omega (arith, l, c.in-Some.ensures.within))
