-- Where a history begins.
use Rattle.std.proofs.Common.{◌≡◌, ℕ, Bool, true, false, ◌&&◌, not, cond, [], Some, None, refl, sym, ap, subst, arith, ◌/◌, ◌%◌, ◌<◌, ◌≤◌, ◌^◌, zero, suc}
use Rattle.std.specs.Prelude.{max, min, ◌+◌, nat_lt, nat_le, if◌then◌else◌, ◌==◌}
use Rattle.std.proofs.lemmas.Bool.Decides.{nat_tests}
use Rattle.quic_values.specs.declared.ids.Side.{Side}
use Rattle.quic_values.specs.declared.ids.Side.TheVariants.{Client, Server}
use Rattle.quic_values.specs.declared.ids.Dir.{Dir}
use Rattle.quic_values.specs.declared.ids.Dir.TheVariants.{Bi, Uni}
use Rattle.quic_values.specs.Ids.{stream_id, other_side, index_of}
use Rattle.quic_limits.specs.Remote.{Remote, new_remote}
use Rattle.quic_receiving.specs.Counted.{number}
use Rattle.quic_receiving.specs.Half.{new_half}
use Rattle.quic_history.specs.Halves.{is_among, with_first}
use Rattle.quic_history.specs.World.{World, Made, made_with, IsUnusedCredit, IsUnusedRemote, count_of, remote_of, start, is_same_side}
use Rattle.quic_queue.specs.SendOrder.{empty_queue}
use Rattle.quic_history.proofs.RestHistory.{rest-start}
use Rattle.quic_history.proofs.Endings.{tells-ends}
use Rattle.quic_history.specs.SendTotals.{send_totals}
use Rattle.quic_history.specs.Used.{used_halves, halves_among}
use Rattle.quic_history.proofs.SentHistory.{sent-start}
use Rattle.quic_history.proofs.FlowHistory.{sends-start}
use Rattle.quic_history.proofs.WritesTold.{writes-told}
use Rattle.quic_history.proofs.Remotes.{AllRemotes}
use Rattle.quic_history.specs.History.{StreamFrom, RemoteFrom, untouched, trace, Facts, IsStart, From}
use Rattle.quic_history.proofs.Refusals.{refusal_by, refusal-is}
use Rattle.quic_history.proofs.Credits.{credit-start}
use Rattle.quic_history.proofs.StreamSteps.{AllFrom, new-half-from}

abbrev pub has_side : Side → Bool → Bool
has_side Client b = b
has_side Server b = not b

abbrev pub has_dir : Dir → Bool → Bool
has_dir Bi c = c
has_dir Uni c = not c

-- an id is spelled by an initiator and a direction, by its two bits
pub spelled : (i : Side) (d : Dir) (q : ℕ) (b c : Bool) → (q % 2 == 0) ≡ b → (q / 2 % 2 == 0) ≡ c → (q == stream_id i d (index_of q)) ≡ (has_side i b && has_dir d c)
spelled Client Bi q true true e k = grind (arith, nat_tests)
spelled Client Bi q true false e k = grind (arith, nat_tests)
spelled Client Bi q false true e k = grind (arith, nat_tests)
spelled Client Bi q false false e k = grind (arith, nat_tests)
spelled Client Uni q true true e k = grind (arith, nat_tests)
spelled Client Uni q true false e k = grind (arith, nat_tests)
spelled Client Uni q false true e k = grind (arith, nat_tests)
spelled Client Uni q false false e k = grind (arith, nat_tests)
spelled Server Bi q true true e k = grind (arith, nat_tests)
spelled Server Bi q true false e k = grind (arith, nat_tests)
spelled Server Bi q false true e k = grind (arith, nat_tests)
spelled Server Bi q false false e k = grind (arith, nat_tests)
spelled Server Uni q true true e k = grind (arith, nat_tests)
spelled Server Uni q true false e k = grind (arith, nat_tests)
spelled Server Uni q false true e k = grind (arith, nat_tests)
spelled Server Uni q false false e k = grind (arith, nat_tests)

pub among : (i : Side) (d : Dir) (count q : ℕ) (b c : Bool) → (q % 2 == 0) ≡ b → (q / 2 % 2 == 0) ≡ c
    → is_among i d count q ≡ ((has_side i b && has_dir d c) && nat_lt (index_of q) count)
among i d count q b c e k = ap (λ x. x && nat_lt (index_of q) count) (spelled i d q b c e k)

pub least : (n : ℕ) → nat_le 0 n ≡ true
least n = grind (arith, nat_tests)

le_not_lt : (m n : ℕ) → nat_le m n ≡ not (nat_lt n m)
le_not_lt m n = grind (arith, nat_tests)

-- a stream of the peer, by whether it is among the first
of_peer : (error window : ℕ) (first : Bool) → StreamFrom window untouched (if not first then Some error else None) (cond first (Some (new_half window)) None)
of_peer error window true = new-half-from window
of_peer error window false = refl

by_limit : (error window count index : ℕ) → StreamFrom window untouched (if nat_le count index then Some error else None) (cond (nat_lt index count) (Some (new_half window)) None)
by_limit error window count index = rw (le_not_lt count index) (of_peer error window (nat_lt index count))

-- a stream, by whose it is and by its direction
by_bits : (s : Side) (b c : Bool) (uni bi window index : ℕ)
    → StreamFrom window untouched (refusal_by (is_same_side s (if b then Client else Server)) c 0 bi uni index)
    (cond ((has_side (other_side s) b && has_dir Uni c) && nat_lt index uni) (Some (new_half window))
    (cond ((has_side (other_side s) b && has_dir Bi c) && nat_lt index bi) (Some (new_half window)) None))
by_bits Client true true uni bi window index = rw (least index) refl
by_bits Client true false uni bi window index = refl
by_bits Client false true uni bi window index = by_limit _ window bi index
by_bits Client false false uni bi window index = by_limit _ window uni index
by_bits Server true true uni bi window index = by_limit _ window bi index
by_bits Server true false uni bi window index = by_limit _ window uni index
by_bits Server false true uni bi window index = rw (least index) refl
by_bits Server false false uni bi window index = refl

-- what is told of each stream is true at the start
all_start : (m : Made) → AllFrom (λ q. untouched) (start m)
unfolding with_first
all_start m q =
    let w = start m in
    rw (refusal-is w q, among (other_side m.side) Uni m.uni.max_remote q (q % 2 == 0) (q / 2 % 2 == 0) refl refl, among (other_side m.side) Bi m.bi.max_remote q (q % 2 == 0) (q / 2 % 2 == 0) refl refl)
    (by_bits m.side (q % 2 == 0) (q / 2 % 2 == 0) m.uni.max_remote m.bi.max_remote m.window (index_of q))

facts_start : (m : Made) → IsUnusedCredit m.credit → Facts m.credit [] (start m)
facts_start m unused = record { credit = credit-start m.credit unused; streams = all_start m }

pub none-over : (n : ℕ) (over : ℕ → Bool) → ((i : ℕ) → over i ≡ false) → number over n ≡ 0
unfolding number
none-over zero over none = refl
none-over (suc n) over none = let e = none n in rw e (omega (arith, none-over n over none))

remote_start : (over : ℕ → Bool) (r : Remote) → ((i : ℕ) → over i ≡ false) → IsUnusedRemote r → RemoteFrom r.max_concurrent r.max_remote over r
remote_start over r none unused =
    let e = none-over r.max_remote over none in
    let all = unused.allocated in
    let next = unused.next in
    let reported = unused.reported in
    let enough = unused.enough in
    let p : r.max_remote ≡ max r.max_remote (min (r.max_concurrent + number over r.max_remote) (2 ^ 60)) = omega arith in
    record { concurrent = refl; allocated = omega arith; permitted = p; opened = omega arith; accepted = omega arith }

-- no stream was freed
remotes_start : (m : Made) → IsUnusedRemote m.uni → IsUnusedRemote m.bi → AllRemotes (count_of m) (λ d. (remote_of (start m) d).max_remote) (trace []) (start m)
remotes_start m uni bi Bi = remote_start _ m.bi (λ i. refl) bi
remotes_start m uni bi Uni = remote_start _ m.uni (λ i. refl) uni

-- and none was accepted
used_start : (m : Made) → m.bi.next_reported ≡ 0 → 0 ≡ used_halves (start m)
unfolding number
used_start m none = let e : halves_among (start m) (other_side m.side) Bi m.bi.next_reported ≡ 0 = ap (halves_among (start m) (other_side m.side) Bi) none in sym (ap (λ n. 0 + n) e)

-- an end that was just made may come from what it was made with and no calls
pub begins : (m : Made) (v : World) → IsStart m v → From m [] v
begins m v s =
    let P : World → Type 0 = λ x. From m [] x in
    let facts = facts_start m s.credit in
    let sent = sent-start (send_totals (start m).out) refl refl refl refl in
    subst P (sym s.is) (record {
      run = record { uni = s.uni; bi = s.bi; credit = s.credit; is = refl };
      side = refl;
      window = refl;
      facts = facts;
      given = λ q. record { came = λ at byte h. absurd h; once = tt };
      ends = λ q. record { freed = λ k. cc; sized = λ k. cc; all = λ k. cc };
      tells = tells-ends m.credit [] (start m) facts;
      remotes = remotes_start m s.uni s.bi;
      sent = sent;
      sends = sends-start m;
      writes = writes-told m [] (start m) refl sent (sends-start m);
      queued = refl;
      rest = rest-start m empty_queue;
      used = used_start m s.bi.reported;
    })

-- ---- with counts and windows

unused_remote : (count : ℕ) → count ≤ 2 ^ 60 → IsUnusedRemote (new_remote count)
unused_remote count few = record { next = refl; reported = refl; told = refl; allocated = refl; few = few; enough = omega arith }

-- up to 2^60 streams of each direction, and a receive window that can be announced
pub start-with : (side : Side) (uni bi send_window receive_window window : ℕ) → uni ≤ 2 ^ 60 → bi ≤ 2 ^ 60 → receive_window < 2 ^ 62
    → let m = made_with side uni bi send_window receive_window window in IsStart m (start m)
start-with side uni bi send_window receive_window window few_uni few_bi small = record {
  uni = unused_remote uni few_uni;
  bi = unused_remote bi few_bi;
  credit = record { received = refl; limit = omega arith; debt_fits = omega arith };
  is = refl;
}
