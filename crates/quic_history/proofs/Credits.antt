-- The credit of a connection over its history.
use Rattle.std.proofs.Common.{◌≡◌, ℕ, Bool, true, false, refl, arith, ◌+◌, ◌-◌, ◌≤◌, ◌<◌, ◌^◌}
use Rattle.std.specs.Prelude.{min, nat_lt, if◌then◌else◌}
use Rattle.std.proofs.lemmas.Bool.Decides.{nat_tests}
use Rattle.quic_limits.specs.Credit.{Credit, credited, counted, resized}
use Rattle.quic_history.specs.World.{IsUnusedCredit}
use Rattle.quic_history.specs.History.{CreditFrom}

pub credit-start : (c : Credit) → IsUnusedCredit c → CreditFrom c.receive_window 0 c.shrink_debt 0 c
credit-start c s = let limit = s.limit in let came = s.received in record {
  receive_window = refl;
  debt = refl;
  debt_fits = s.debt_fits;
  limit = omega arith;
  received = came;
  permitted = omega arith;
  unread = omega arith;
}

-- bytes were consumed
pub credit-credited : (window used owed came count : ℕ) (c : Credit) → CreditFrom window used owed came c → CreditFrom window (used + count) (owed - count) came (credited c count)
credit-credited window used owed came count c f =
    let was = f.debt in
    let limit : c.local_max_data ≡ min (window + used + owed) (2 ^ 64 - 1) = f.limit in
    let within = f.permitted in
    let rises : min (c.local_max_data + (count - c.shrink_debt)) (2 ^ 64 - 1) ≡ min (window + (used + count) + (owed - count)) (2 ^ 64 - 1) = omega arith in
    record {
      receive_window = f.receive_window;
      debt = omega arith;
      debt_fits = let fits = f.debt_fits in omega arith;
      limit = rises;
      received = f.received;
      permitted = omega arith;
      unread = omega arith;
    }

-- bytes were received
pub credit-counted : (window used owed came more after : ℕ) (c : Credit) → CreditFrom window used owed came c → after ≡ came + more → c.data_recvd + more ≤ c.local_max_data
    → CreditFrom window used owed after (counted c more)
credit-counted window used owed came more after c f is within =
    let was = f.received in
    let limit : c.local_max_data ≡ min (window + used + owed) (2 ^ 64 - 1) = f.limit in
    record {
      receive_window = f.receive_window;
      debt = f.debt;
      debt_fits = f.debt_fits;
      limit = f.limit;
      received = omega arith;
      permitted = omega arith;
      unread = omega arith;
    }

-- the same numbers
pub credit-same : (window used owed came used' owed' came' : ℕ) (c : Credit) → used' ≡ used → owed' ≡ owed → came' ≡ came → CreditFrom window used owed came c → CreditFrom window used' owed' came' c
credit-same window used owed came used' owed' came' c u o r f = rw (u, o, r) f

-- a limit is a number of 64 bits
pub limit-fits : (window used owed came : ℕ) (c : Credit) → CreditFrom window used owed came c → c.local_max_data < 2 ^ 64
limit-fits window used owed came c f = let limit : c.local_max_data ≡ min (window + used + owed) (2 ^ 64 - 1) = f.limit in omega arith

-- the window was set: a larger one raises the limit by the gain, a smaller one adds the loss to the debt
pub credit-resized : (window used owed came new : ℕ) (c : Credit) → CreditFrom window used owed came c
    → CreditFrom new used (min (owed + (window - new)) (2 ^ 64 - 1)) came (resized c new)
credit-resized window used owed came new c f = by_size (nat_lt c.receive_window new) refl
  where
    limit : c.local_max_data ≡ min (window + used + owed) (2 ^ 64 - 1)
    limit = f.limit

    by_size : (b : Bool) → nat_lt c.receive_window new ≡ b → CreditFrom new used (min (owed + (window - new)) (2 ^ 64 - 1)) came
        (if b
        then record c { receive_window = new; local_max_data = min (c.local_max_data + (new - c.receive_window)) (2 ^ 64 - 1) }
        else record c { receive_window = new; shrink_debt = min (c.shrink_debt + (c.receive_window - new)) (2 ^ 64 - 1) })
    by_size true e = let less : c.receive_window < new = grind (arith, nat_tests) in record { receive_window = refl; debt = omega arith; debt_fits = omega arith; limit = omega arith; received = f.received; permitted = omega arith; unread = omega arith }
    by_size false e = let most : new ≤ c.receive_window = grind (arith, nat_tests) in record { receive_window = refl; debt = omega arith; debt_fits = omega arith; limit = omega arith; received = f.received; permitted = omega arith; unread = omega arith }
