-- All that is counted as written was written on some stream.
use Rattle.std.proofs.Common.{◌≡◌, ℕ, Bool, true, false, ◌||◌, eqb, List, [], ◌∷◌, Option, Some, None, Ok, refl, ap, ◌∙◌, subst, arith, ◌+◌, ◌≤◌}
use Rattle.std.specs.Prelude.{nat_eq, if◌then◌else◌}
use Rattle.std.specs.List.{list_any}
use Rattle.quic_sending.specs.Buffer.{total_length}
use Rattle.quic_sending.specs.declared.send.Written.{Written}
use Rattle.quic_sending.proofs.Pieces.{total-append}
use Rattle.quic_flows.specs.Flow.{SendFlow, SendMove, WasWritten, front_of}
use Rattle.quic_flows.proofs.Fronts.{front-length}
use Rattle.quic_history.specs.World.{World, Made}
use Rattle.quic_history.specs.Flows.{has_send_side, has_side_in, send_moved}
use Rattle.quic_history.specs.Early.{begins_anew}
use Rattle.quic_history.specs.SendEvents.{WroteOwn}
use Rattle.quic_history.specs.History.{Event, Sending, Step, From, IsRun, flow, since, send_tale, opened_in_all, send_move_of, with_moved_stream, moved_streams, taken_by, taken_in_all, total_over, with_stream, joint_move_of}
use Rattle.quic_history.proofs.FlowHistory.{known-by}
use Rattle.quic_history.proofs.SendSides.{held-side}
use Rattle.quic_history.proofs.Totals.{by_cases, same}
use Rattle.quic_history.proofs.Traces.{itself}
use Rattle.quic_link.proofs.Ends.{ArePlain}
use Rattle.quic_link.proofs.Growth.{grows}
use Rattle.quic_link.proofs.Rooms.{amount}
use Rattle.quic_link.proofs.Sums.{total-most}
use Rattle.quic_link.proofs.Unsent.{flow-called}
use Rattle.quic_progress.proofs.Reruns.{from-run}

-- ---- sums

or_rest : (a b : Bool) → (a || b) ≡ true → a ≡ false → b ≡ true
or_rest true b e n = cc
or_rest false b e n = e

module _ (f g : ℕ → ℕ) (least : (q : ℕ) → f q ≤ g q) where
  -- one of those grows by n at least
  pub total_in : (k n : ℕ) (xs : List ℕ) → f k + n ≤ g k → list_any (nat_eq k) xs ≡ true → total_over f xs + n ≤ total_over g xs
  total_in k n [] here i = cc
  total_in k n (x ∷ xs) here i = by_cases (eqb k x)
      (λ t.
      let P : ℕ → Type 0 = λ i. f i + n ≤ g i in
      let at : f x + n ≤ g x = subst P (same k x t) here in
      let rest = total-most g f xs least in
      omega (arith, at, rest))
      (λ m. let a = least x in let rest = total_in k n xs here (or_rest (eqb k x) (list_any (nat_eq k) xs) i m) in omega (arith, a, rest))

  -- one that is among them then
  total_rises : (k n : ℕ) (xs : List ℕ) → f k + n ≤ g k → total_over f xs + n ≤ total_over g (with_stream k xs)
  total_rises k n xs here = by (list_any (nat_eq k) xs) refl
    where
      by : (b : Bool) → list_any (nat_eq k) xs ≡ b → total_over f xs + n ≤ total_over g (if b then xs else k ∷ xs)
      by true e = total_in k n xs here e
      by false e = let rest = total-most g f xs least in omega (arith, here, rest)

  -- none grows
  total_stays : (o : Option (ℕ × SendMove)) (xs : List ℕ) → total_over f xs + 0 ≤ total_over g (with_moved_stream o xs)
  total_stays None xs = let rest = total-most g f xs least in omega (arith, rest)
  total_stays (Some m) xs = let l = least m.0 in total_rises m.0 0 xs (omega (arith, l))

-- ---- calls

module _ (m : Made) (h : List Event) (u : World) (f : From m h u) where
  grew : (e : Event) (v : World) → begins_anew (joint_move_of e) ≡ false → Step u e v → (q : ℕ) → amount (flow m h q) ≤ amount (flow m (e ∷ h) q)
  grew e v plain s q =
      let g = grows m h u v f e plain s q in
      let n : amount (flow m (e ∷ h) q) ≡ amount (flow m h q) + total_length g.more = ap total_length g.cuts ∙ total-append (flow m h q).cuts g.more in
      omega (arith, n)

  there : ℕ → Bool
  there = has_send_side m.side (opened_in_all (since h)) (send_tale m h).may_open

  -- what a write took stands on its stream
  moved_amount : (id : ℕ) (pieces : List (List ℕ)) (k : ℕ → Bool) (t : SendFlow) → k id ≡ true → amount (send_moved (Some (id, WasWritten pieces)) k id t) ≡ amount t + total_length pieces
  moved_amount id pieces k t e = rw (itself id, e) (total-append t.cuts pieces)

  wrote_more : (id : ℕ) (lists : List (List ℕ)) (closed : Bool) (written : Written) (v : World) → Step u (Sending (WroteOwn id lists closed (Ok written))) v
      → amount (flow m h id) + written.bytes ≤ amount (flow m (Sending (WroteOwn id lists closed (Ok written)) ∷ h) id)
  wrote_more id lists closed written v s =
      let w = f.writes id lists closed s.0 (Ok written) v s.2 s.1 s.3 in
      let took = s.3.3.0 in
      let side : has_side_in u.out u.bi.max_remote id ≡ true = held-side _ _ (has_side_in u.out u.bi.max_remote id) took.half (u.out.halves id) took.is_held (f.sends.flows id) in
      let known : has_send_side m.side (opened_in_all (since h)) (send_tale m h).may_open id ≡ true = known-by m h u f.side f.sends.may_open f.sent id ∙ side in
      let front = front-length written.bytes lists in
      let size = w.2 in
      let more = moved_amount id (front_of written.bytes lists) (has_send_side m.side (opened_in_all (since h)) (send_tale m h).may_open) (flow m h id) known in
      flow-called (λ t. amount (flow m h id) + written.bytes ≤ amount t) m (Sending (WroteOwn id lists closed (Ok written))) h id refl (λ t l. l) (omega (arith, more, front, size))

  written_step : (e : Event) (v : World) → begins_anew (joint_move_of e) ≡ false → Step u e v → (xs : List ℕ)
      → total_over (λ q. amount (flow m h q)) xs + taken_by e ≤ total_over (λ q. amount (flow m (e ∷ h) q)) (with_moved_stream (send_move_of e) xs)
  written_step (Sending (WroteOwn id lists closed (Ok written))) v plain s xs =
      let e = Sending (WroteOwn id lists closed (Ok written)) in
      total_rises (λ q. amount (flow m h q)) (λ q. amount (flow m (e ∷ h) q)) (grew e v plain s) id written.bytes xs (wrote_more id lists closed written v s)
  written_step e v plain s xs = total_stays (λ q. amount (flow m h q)) (λ q. amount (flow m (e ∷ h) q)) (grew e v plain s) (send_move_of e) xs

-- what is counted is no more than the sum over the streams that calls did something on
pub sum-taken : (m : Made) (h : List Event) (v : World) → IsRun m h v → ArePlain h → taken_in_all h ≤ total_over (λ q. amount (flow m h q)) (moved_streams h)
sum-taken m [] v s plain = omega arith
sum-taken m (e ∷ h) v r plain =
    let before = sum-taken m h r.0 r.1 plain.1 in
    let step = written_step m h r.0 (from-run m h r.0 r.1) e v plain.0 r.3 (moved_streams h) in
    omega (arith, before, step)
