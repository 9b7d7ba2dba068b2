-- Lemmas on what holds of every send buffer.
use Rattle.std.proofs.Common.{◌≡◌, ℕ, ◌+◌, ◌-◌, ◌^◌, ◌<◌, ◌≤◌, ◌⊎◌, inl, inr, true, false, ◌||◌, ◌&&◌, not, List, [], ◌∷◌, ◌++◌, length, nat_lt, arith}
use Rattle.std.proofs.lemmas.Bool.{both_ways, cases_lt}
use Rattle.std.proofs.lemmas.Bool.Decides.{nat_tests}
use Rattle.std.specs.declared.ops.Range.{Range}
use Rattle.quic_ranges.specs.Runs.{Run, contains, lies_in}
use Rattle.quic_sending.specs.Ranges.{IsNothing}
use Rattle.quic_sending.specs.Buffer.{Buffered, IsNextRange, IsSound, is_acked, is_lost, total_length, AreFilled, IsInFirst}
use Rattle.quic_sending.proofs.Pieces.{total-append, AreFilled-push, IsInFirst-push}

-- one more piece
pub IsSound-write : (v : Buffered) (p : List ℕ) (room : ℕ) → IsSound v → 0 < length p → v.offset + length p < 2 ^ 62 → IsSound (record v { offset = v.offset + length p; held = v.held ++ p ∷ []; room = room })
IsSound-write v p room h f small =
    let e = total-append v.held (p ∷ []) in
    record {
      lengths = omega arith;
      filled = AreFilled-push v.held p h.filled f;
      first = IsInFirst-push _ v.held p h.first f;
      gone_acked = h.gone_acked;
      acked_sent = h.acked_sent;
      sent_written = omega arith;
      small = small;
      later_in = h.later_in;
      lost_in = h.lost_in;
    }

-- nothing is acknowledged, and all counts as not sent
pub IsSound-unsent : (v : Buffered) (lost : List Run) → IsSound v → ((n : ℕ) → (nat_lt n v.prefix || contains v.later n) ≡ false) → IsNothing lost → IsSound (record v { unsent = 0; lost = lost })
IsSound-unsent v lost s none empty =
    record {
      lengths = s.lengths;
      filled = s.filled;
      first = s.first;
      gone_acked = s.gone_acked;
      acked_sent = start;
      sent_written = omega arith;
      small = s.small;
      later_in = λ n t. absurd (both_ways _ (later n (none n)) t);
      lost_in = λ n t. absurd (both_ways _ (empty n) t);
    }
  where
    start : v.prefix ≤ 0
    start = let first = none 0 in grind (arith, nat_tests)

    later : (n : ℕ) → (nat_lt n v.prefix || contains v.later n) ≡ false → contains v.later n ≡ false
    later n e = grind (arith, nat_tests)

-- what is to be sent next lies between the acknowledged prefix and the end of what was written
pub next_within : (v : Buffered) (a e : ℕ) → IsSound v → IsNextRange v a e → (v.prefix ≤ a) × (a ≤ e) × (e ≤ v.offset)
next_within v a e s (inl r) =
    let low : a ≤ a = omega arith in
    let some : a < e = r.run.some in
    let last_low : a ≤ e - 1 = omega arith in
    let last_high : e - 1 < e = omega arith in
    let first = s.lost_in a (r.run.inside a low some) in
    let last = s.lost_in (e - 1) (r.run.inside (e - 1) last_low last_high) in
    (first.0, omega arith, omega (arith, last.1, s.sent_written))
next_within v a e s (inr (none, a_is, e_is)) = (omega (arith, s.acked_sent), omega (arith, s.sent_written), omega arith)

-- the prefix does not pass what was sent
pub prefix_sent : (v : Buffered) (prefix : ℕ) (later : List Run) (range : Range ℕ) → IsSound v → range.end ≤ v.unsent → v.prefix ≤ prefix → ((n : ℕ) → (nat_lt n prefix || contains later n) ≡ (is_acked v n || lies_in range n)) → prefix ≤ v.unsent
prefix_sent v prefix later range s sent grows acked = by (cases_lt v.unsent prefix)
  where
    by : (v.unsent < prefix) ⊎ (prefix ≤ v.unsent) → prefix ≤ v.unsent
    by (inl past) = absurd (
        let at = acked v.unsent in
        let old = s.later_in v.unsent in
        let low = s.acked_sent in
        grind (arith, nat_tests))
    by (inr within) = within

-- the offsets of a range are acknowledged
pub IsSound-ack : (v w : Buffered) (range : Range ℕ) → IsSound v → range.end ≤ v.unsent → v.prefix ≤ w.prefix → ((n : ℕ) → is_acked w n ≡ (is_acked v n || lies_in range n)) → ((n : ℕ) → is_lost w n ≡ (is_lost v n && not (lies_in range n))) → ((n : ℕ) → contains w.later n ≡ true → w.prefix < n) → w.unsent ≡ v.unsent → w.offset ≡ v.offset → w.gone + total_length w.held ≡ w.offset → AreFilled w.held → IsInFirst (w.prefix - w.gone) w.held → w.gone ≤ w.prefix → IsSound w
IsSound-ack v w range s sent grows acked lost above unsent offset lengths filled first gone =
    record {
      lengths = lengths;
      filled = filled;
      first = first;
      gone_acked = gone;
      acked_sent = let e = prefix_sent v w.prefix w.later range s sent grows acked in omega arith;
      sent_written = let e = s.sent_written in omega arith;
      small = let e = s.small in omega arith;
      later_in = λ n t. (above n t, later n t);
      lost_in = λ n t. (low n t, high n t, out n t);
    }
  where
    later : (n : ℕ) → contains w.later n ≡ true → n < w.unsent
    later n t =
        let at = acked n in
        let old = s.later_in n in
        let low = s.acked_sent in
        grind (arith, nat_tests)

    low : (n : ℕ) → contains w.lost n ≡ true → w.prefix ≤ n
    low n t =
        let at = acked n in
        let is = lost n in
        let old = s.lost_in n in
        grind (arith, nat_tests)

    high : (n : ℕ) → contains w.lost n ≡ true → n < w.unsent
    high n t =
        let is = lost n in
        let old = s.lost_in n in
        grind (arith, nat_tests)

    out : (n : ℕ) → contains w.lost n ≡ true → contains w.later n ≡ false
    out n t =
        let at = acked n in
        let is = lost n in
        let old = s.lost_in n in
        grind (arith, nat_tests)
