-- Where all that was written is acknowledged, nothing is retained.
use Rattle.std.proofs.Common.{◌≡◌, ℕ, zero, suc, Bool, true, false, List, [], ◌∷◌, length, Option, Some, None, refl, sym, ap, ◌∙◌, subst, arith, ◌≤◌, ◌<◌, ◌-◌}
use Rattle.std.specs.Prelude.{◌==◌}
use Rattle.quic_sending.specs.Buffer.{total_length, uncovered}
use Rattle.quic_sending.proofs.Pieces.{uncovered-skip}
use Rattle.quic_flows.specs.Flow.{SendFlow, passing, retained}
use Rattle.quic_history.specs.History.{total_over}
use Rattle.quic_history.proofs.Traces.{itself}
use Rattle.quic_exchange.specs.History.{History}
use Rattle.quic_exchange.specs.State.{PairState}
use Rattle.quic_exchange.specs.From.{Beginning, PairFrom}
use Rattle.quic_exchange.specs.Runs.{sendings_of}
use Rattle.quic_exchange.specs.Tale.{Tales, Told}
use Rattle.quic_exchange.specs.Completed.{IsAllAcked, AreAllAcked}
use Rattle.quic_progress.specs.Progress.{AreFree}

none_uncovered : (d : ℕ) (ps : List (List ℕ)) → total_length ps ≤ d → total_length (uncovered d ps) ≡ 0
none_uncovered d [] l = refl
none_uncovered d (p ∷ ps) l = ap total_length (uncovered-skip d p ps (omega (arith, l))) ∙ none_uncovered (d - length p) ps (omega (arith, l))

all_pass : (f : ℕ → Bool) (n : ℕ) → ((k : ℕ) → k < n → f k ≡ true) → passing f n ≡ n
all_pass f zero h = refl
all_pass f (suc n) h =
    let before = all_pass f n (λ k l. h k (omega (arith, l))) in
    let test : (passing f n == n) ≡ true = ap (λ k. k == n) before ∙ itself n in
    let now : f n ≡ true = h n (omega arith) in
    rw (test, now) refl

none_retained : (f : SendFlow) → (f.reset ≡ None → IsAllAcked f) → retained f ≡ 0
none_retained f all = by f.reset f.freed refl refl
  where
    acked_all : f.reset ≡ None → (b : Bool) → f.finished ≡ b → f.freed ≡ false → total_length (uncovered (passing f.acked (total_length f.cuts)) f.cuts) ≡ 0
    acked_all e true d n = let z = sym ((all e).ended d) ∙ n in cc
    acked_all e false d n =
        let P : ℕ → Type 0 = λ k. total_length (uncovered k f.cuts) ≡ 0 in
        subst P (sym (all_pass f.acked (total_length f.cuts) ((all e).running d))) (none_uncovered (total_length f.cuts) f.cuts (omega arith))

    by : (o : Option ℕ) (b : Bool) → f.reset ≡ o → f.freed ≡ b → retained f ≡ 0
    by (Some code) b e d = rw e refl
    by None true e d = rw (e, d) refl
    by None false e d = let z = acked_all e f.finished refl d in rw (e, d) z

none_over : (f : ℕ → ℕ) (xs : List ℕ) → ((q : ℕ) → f q ≡ 0) → total_over f xs ≡ 0
none_over f [] h = refl
none_over f (x ∷ xs) h = let a = h x in let b = none_over f xs h in omega (arith, a, b)

pub are-free : (s : Beginning) (h : History) (v : PairState) (led : PairFrom s h v) → AreAllAcked (Told s (sendings_of led)) → (t : Tales) → Told s (sendings_of led) t → AreFree t
are-free s h v led acked t told who = none_over (λ q. retained ((t.of who).flow q)) (t.of who).streams (λ q. none_retained ((t.of who).flow q) (acked t told who q))
