use Rattle.std.proofs.Common.{◌≡◌, rules, sym, ℕ, ◌+◌, ◌-◌, ◌≤◌, ◌<◌, ◌++◌, List, min, length, take, drop, replicate, inl, inr, arith}
use Rattle.std.proofs.Math.Nat.{sub_self}
use Rattle.std.proofs.Math.Seq.{take-append-add, take-append_seam}
use Rattle.std.proofs.lemmas.Bool.{cases_lt}
use Rattle.std.proofs.lemmas.List.{append-nil, take_all, take-replicate, drop-replicate, take-append-le}
use Rattle.quic_streams_c.proofs.words.fill_words.Goals as goal

-- all words that are known fit
all-fit : (known : List ℕ) (k n : ℕ) → n ≡ length known + k → known ++ replicate k 0 ≡ take n (known ++ replicate n 0)
all-fit known k n e = rw e (rw take-append-add (rw (take-replicate {X = ℕ} k (length known + k) 0 (omega arith))))

filled : (known : List ℕ) (n m : ℕ) → m ≡ min (length known) n → take m known ++ drop m (replicate n 0) ≡ take n (known ++ replicate n 0)
filled known n m e = elim (cases_lt n (length known)) [
  | inl less ↦ (let is : m ≡ n = omega arith in rw is (rw (drop-replicate {X = ℕ} n n 0, take-append-le n known (replicate n 0) (omega arith)) (rw (sub_self, append-nil))))
  | inr enough ↦ (let is : m ≡ length known = omega arith in rw is (rw (take_all (length known) known (omega arith), drop-replicate {X = ℕ} (length known) n 0) (all-fit known (n - length known) n (omega arith))))
]

pub returns-then-out-known : goal.returns-then-out-known
returns-then-out-known c =
    let known = c.args.known.now in
    let long : length c.args.out.now ≡ length known = search rules in
    rw (c.copy_from_slice.ensures.after, long) (sym (take-append_seam known (replicate (length known) 0)))

pub returns : goal.returns
returns c =
    let zeros : c.fill.new.self ≡ replicate (length c.args.out.now) 0 = c.fill.ensures.after (λ y same. same) in
    let count : c.min-count.result ≡ min (length c.args.known.now) (length c.args.out.now) = omega arith in
    rw (c.copy_from_slice-2.ensures.after, zeros) (filled c.args.known.now (length c.args.out.now) c.min-count.result count)
