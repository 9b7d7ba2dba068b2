-- Runs of frames that were handed in as payloads.
use Rattle.std.proofs.Common.{◌≡◌, ℕ, ◌+◌, ◌-◌, ◌≤◌, ◌⊎◌, true, List, [], ◌∷◌, ◌++◌, length, take, drop, Result, Ok, Err, refl, sym, ap, subst, ◌∙◌, arith, inl, inr}
use Rattle.std.proofs.lemmas.List.{length-drop, length-take, length-map, drop-drop}
use Rattle.std.proofs.Math.Seq.{take-length, drop-length}
use Rattle.quic_wire.specs.declared.frame.Frame.{Frame}
use Rattle.quic_wire.specs.Frames.{BeginsFrames}
use Rattle.quic_wire.proofs.Joins.{same}
use Rattle.quic_session.specs.declared.session.Session.{Session}
use Rattle.quic_session.specs.declared.receiving.Received.{Received}
use Rattle.quic_session.specs.declared.receiving.PayloadError.{PayloadError}
use Rattle.quic_session.specs.declared.receiving.PayloadError.TheVariants as payload_error
use Rattle.quic_session.specs.Receiving.{FrameCall, TakesFrames, ReceivesFrame, GoesOnWithCalls, ReceivesPayload}
use Rattle.quic_session.specs.declared.processing.Halt.{Halt}
use Rattle.quic_session.specs.declared.processing.Halt.TheVariants as halt
use Rattle.quic_session.specs.Runs.{begins_with, is_own_type, BeginsRun, BeginsSkipped}
use Rattle.quic_session.specs.Processing.ProcessesRuns.{none, skips, accepts}
use Rattle.quic_session.specs.Processing.{called_frames, ProcessesRuns, StopsFor, StopsBetween, StopsAtRejected, Processes, ProcessesHeld}
use Rattle.quic_session.proofs.Cut.{run-text}
use Rattle.quic_session.proofs.Traced.{no-calls, more-calls}

pub behind-more : (payload : List ℕ) (next n : ℕ) → drop n (drop next payload) ≡ drop (next + n) payload
behind-more payload next n = drop-drop n next payload ∙ ap (λ k. drop k payload) (omega arith)

front-size : (bytes : List ℕ) (n : ℕ) → n ≤ length bytes → length (take n bytes) ≡ length bytes - length (drop n bytes)
front-size bytes n within = omega (arith, length-take n bytes, length-drop n bytes, within)

abbrev is-error : Result (Unit {0}) PayloadError → Type 0
is-error (Ok x) = ⊥
is-error (Err e) = Unit {0}

not-both : (r : Result (Unit {0}) PayloadError) (e : PayloadError) → r ≡ Ok tt → r ≡ Err e → ⊥
not-both r e ok err = subst is-error (sym err ∙ ok) tt

same-error : (e f : PayloadError) → ◌≡◌ {A = Result (Unit {0}) PayloadError} (Err e) (Err f) → e ≡ f
same-error e f h = cc

-- the calls by which a run was accepted
pub record Accepted (s : Session) (bytes rest : List ℕ) (t : Session) : Type 0 where
  pub calls : List FrameCall
  pub run : BeginsRun bytes (called_frames calls) rest
  pub takes : TakesFrames (length bytes - length rest) s calls t
  pub from : GoesOnWithCalls calls s t

-- bytes that were processed up to the rest
pub record Processed (s : Session) (bytes rest : List ℕ) (t : Session) : Type 0 where
  pub calls : List FrameCall
  pub runs : ProcessesRuns s bytes calls rest t
  pub from : GoesOnWithCalls calls s t

pub processed-none : (s : Session) (bytes : List ℕ) → Processed s bytes bytes s
processed-none s bytes = record { calls = []; runs = none; from = no-calls s }

pub processed-skipped : (s : Session) (bytes b c : List ℕ) (t : Session) → Processed s bytes b t → BeginsSkipped b c → Processed s bytes c t
processed-skipped s bytes b c t p skipped = record { calls = p.calls; runs = skips p.runs c skipped; from = p.from }

pub processed-run : (s : Session) (bytes b c : List ℕ) (t u : Session) → Processed s bytes b t → Accepted t b c u → Processed s bytes c u
processed-run s bytes b c t u p a = record { calls = p.calls ++ a.calls; runs = accepts p.runs c a.calls a.run a.takes; from = more-calls p.calls a.calls s t u p.from a.from }

pub run-accepted : (s : Session) (bytes : List ℕ) (n : ℕ) (fs : List Frame) (r : Received) (t : Session) → n ≤ length bytes → BeginsRun bytes fs (drop n bytes) → ReceivesPayload s (take n bytes) 0 r t → r.answer ≡ Ok tt
    → Accepted s bytes (drop n bytes) t
run-accepted s bytes n fs r t within run (inl read) ok =
    let is : fs ≡ read.all = same (take n bytes) fs read.all (run-text bytes n fs within run.0) read.spelled in
    elim read.receives [
      | inl all ↦ record {
        calls = all.calls;
        run = (subst (λ l. BeginsFrames bytes l (drop n bytes)) (is ∙ all.frames) run.0, run.1);
        takes = subst (λ k. TakesFrames k s all.calls t) (front-size bytes n within) all.takes;
        from = all.from;
      }
      | inr stop ↦ absurd (not-both r.answer stop.error ok stop.answer)
    ]
run-accepted s bytes n fs r t within run (inr nothing) ok =
    absurd (elim nothing.why [ inl memory ↦ not-both r.answer payload_error.OutOfMemory ok memory | inr malformed ↦ not-both r.answer payload_error.Malformed ok malformed.0 ])

pub stopped-between : (s : Session) (bytes rest : List ℕ) (answer : Result Halt PayloadError) (t : Session) → Processed s bytes rest t → StopsFor rest answer → StopsBetween s bytes rest answer t
stopped-between s bytes rest answer t p why = record { calls = p.calls; processes = p.runs; from = p.from; why = why }

abbrev halted : PayloadError → Result Halt PayloadError
halted e = Err e

-- where a frame stands that has so many before it
abbrev pub Divides : List ℕ → ℕ → ℕ → Type 0
Divides bytes index offset = (fs gs : List Frame) (rest : List ℕ) → length fs ≡ index → BeginsFrames bytes (fs ++ gs) rest → BeginsFrames bytes fs (drop offset bytes) × BeginsFrames (drop offset bytes) gs rest

abbrev pub Stopped : Session → List ℕ → List ℕ → PayloadError → Session → Type 0
Stopped s whole rest e t = StopsBetween s whole rest (Err e) t ⊎ StopsAtRejected s whole rest (Err e) t

pub run-rejected : (s0 s : Session) (whole bytes : List ℕ) (n offset : ℕ) (fs : List Frame) (r : Received) (t : Session) (e : PayloadError) → n ≤ length bytes → begins_with is_own_type bytes ≡ true → BeginsRun bytes fs (drop n bytes)
    → Processed s0 whole bytes s → ReceivesPayload s (take n bytes) 0 r t → r.answer ≡ Err e → Divides bytes r.next offset → Stopped s0 whole (drop offset bytes) e t
run-rejected s0 s whole bytes n offset fs r t e within own run before (inl read) err divides =
    let is : fs ≡ read.all = same (take n bytes) fs read.all (run-text bytes n fs within run.0) read.spelled in
    let size = front-size bytes n within in
    elim read.receives [
      | inl all ↦ absurd (not-both r.answer e all.answer err)
      | inr stop ↦
          let frames : BeginsFrames bytes (called_frames stop.calls ++ stop.refused.frame ∷ stop.rest) (drop n bytes) = subst (λ l. BeginsFrames bytes l (drop n bytes)) (is ∙ stop.frames) run.0 in
          let index : length (called_frames stop.calls) ≡ r.next = omega (arith, length-map stop.calls (λ (c : FrameCall). c.frame), stop.next) in
          let parts = divides (called_frames stop.calls) (stop.refused.frame ∷ stop.rest) (drop n bytes) index frames in
          inr (record {
            run = bytes;
            before = s;
            earlier = before.calls;
            processes = before.runs;
            calls = stop.calls;
            rejected = stop.refused;
            others = stop.rest;
            behind = drop n bytes;
            is_run = (frames, run.1);
            accepted = parts.0;
            left = parts.1;
            between = stop.between;
            accepts = subst (λ k. TakesFrames k s stop.calls stop.between) size stop.takes;
            rejects = subst (λ k. ReceivesFrame stop.between stop.refused.frame k stop.refused.answer t) size stop.receives;
            from = more-calls before.calls (stop.calls ++ stop.refused ∷ []) s0 s t before.from stop.from;
            error = stop.error;
            why = stop.why;
            answers = ap halted (same-error e stop.error (sym err ∙ stop.answer));
          })
    ]
run-rejected s0 s whole bytes n offset fs r t e within own run before (inr nothing) err divides =
    elim nothing.why [
      | inl memory ↦
          let is : payload_error.OutOfMemory ≡ e = same-error payload_error.OutOfMemory e (sym memory ∙ err) in
          let here : bytes ≡ drop offset bytes = (divides [] fs (drop n bytes) (sym nothing.next) run.0).0 in
          let P : PayloadError → Type 0 = λ x. StopsBetween s0 whole (drop offset bytes) (Err x) t in
          inl (subst P is (record {
            calls = before.calls;
            processes = subst (λ (x : Session). ProcessesRuns s0 whole before.calls (drop offset bytes) x) (sym nothing.same) (subst (λ l. ProcessesRuns s0 whole before.calls l s) here before.runs);
            from = subst (GoesOnWithCalls before.calls s0) (sym nothing.same) before.from;
            why = subst (λ l. begins_with is_own_type l ≡ true) here own;
          }))
      | inr malformed ↦ absurd (malformed.1 fs (run-text bytes n fs within run.0))
    ]

-- a payload of the library's frames alone
pub whole-accepted : (s : Session) (payload : List ℕ) (fs : List Frame) (r : Received) (t : Session) → BeginsRun payload fs [] → ReceivesPayload s payload 0 r t → r.answer ≡ Ok tt → Accepted s payload [] t
whole-accepted s payload fs r t run receives ok =
    let n = length payload in
    let none-behind : drop n payload ≡ [] = drop-length payload in
    let all : take n payload ≡ payload = take-length payload in
    subst (λ l. Accepted s payload l t) none-behind
    (run-accepted s payload n fs r t (omega arith) (subst (λ l. BeginsRun payload fs l) (sym none-behind) run) (subst (λ l. ReceivesPayload s l 0 r t) (sym all) receives) ok)

pub whole-processed : (s : Session) (payload : List ℕ) (fs : List Frame) (first len : ℕ) (r : Received) (t : Session) → first ≡ 0 → len ≡ length payload → BeginsRun payload fs [] → ReceivesPayload s payload 0 r t → r.answer ≡ Ok tt
    → Processes s payload first (record { next = len; answer = Ok halt.End }) t
whole-processed s payload fs first len r t at-start long run receives ok =
    let a = whole-accepted s payload fs r t run receives ok in
    let none-behind : drop len payload ≡ [] = ap (λ k. drop k payload) long ∙ drop-length payload in
    let processes : ProcessesRuns s payload a.calls [] t = accepts none [] a.calls a.run a.takes in
    let from-start : ProcessesRuns s (drop first payload) a.calls [] t = subst (λ k. ProcessesRuns s (drop k payload) a.calls [] t) (sym at-start) processes in
    record {
      on = omega (arith, at-start);
      within = omega (arith, long);
      stops = inl (record { calls = a.calls; processes = subst (λ l. ProcessesRuns s (drop first payload) a.calls l t) (sym none-behind) from-start; from = a.from; why = none-behind });
    }

pub whole-stopped : (s : Session) (payload : List ℕ) (fs : List Frame) (first : ℕ) (r : Received) (t : Session) (e : PayloadError) → first ≡ 0 → begins_with is_own_type payload ≡ true → BeginsRun payload fs [] → ReceivesPayload s payload 0 r t → r.answer ≡ Err e
    → ProcessesHeld s payload first (record { next = 0; answer = Err e }) t
whole-stopped s payload fs first r t e at-start own run (inl read) err =
    elim read.receives [
      | inl all ↦ absurd (not-both r.answer e all.answer err)
      | inr stop ↦ inr (record { all = read.all; spelled = read.spelled; received = r; stops = stop; error = e; why = err; answers = refl; next = refl })
    ]
whole-stopped s payload fs first r t e at-start own run (inr nothing) err =
    elim nothing.why [
      | inl memory ↦
          let is : payload_error.OutOfMemory ≡ e = same-error payload_error.OutOfMemory e (sym memory ∙ err) in
          let P : PayloadError → Type 0 = λ x. StopsBetween s payload payload (Err x) t in
          let stops : StopsBetween s payload payload (Err e) t = subst P is (record { calls = []; processes = subst (λ (x : Session). ProcessesRuns s payload [] payload x) (sym nothing.same) none; from = subst (GoesOnWithCalls [] s) (sym nothing.same) (no-calls s); why = own }) in
          inl (record {
            on = omega (arith, at-start);
            within = omega arith;
            stops = inl (subst (λ k. StopsBetween s (drop k payload) payload (Err e) t) (sym at-start) stops);
          })
      | inr malformed ↦ absurd (malformed.1 fs run.0)
    ]
