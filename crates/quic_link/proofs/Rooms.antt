-- No more is written on a stream than its limit says, and in all no more than is counted.
use Rattle.std.proofs.Common.{◌≡◌, ℕ, Bool, true, false, eqb, List, [], ◌∷◌, Option, Some, None, Ok, Err, refl, sym, ap, ◌∙◌, subst, arith, ◌+◌, ◌-◌, ◌^◌, ◌≤◌, ◌<◌}
use Rattle.std.specs.Prelude.{◌++◌, ◌==◌, ◌&&◌, is_none, min, max, if◌then◌else◌}
use Rattle.quic_values.specs.declared.ids.Side.{Side}
use Rattle.quic_values.specs.declared.ids.Dir.{Dir}
use Rattle.quic_values.specs.declared.ids.Dir.TheVariants.{Bi, Uni}
use Rattle.quic_values.specs.Ids.{dir_of}
use Rattle.quic_sending.specs.Buffer.{total_length}
use Rattle.quic_sending.proofs.Pieces.{total-append}
use Rattle.quic_flows.specs.Flow.{SendMove, WasWritten, WasFinished, WasGivenUp, WasAskedToStop, WasPermitted, WasCarried, WasAcked, WasLost, WasResetAcked, SendFlow, front_of, takes_data, with_least_limit, with_carried, with_acked, with_lost, freed_if_whole, counts_for, with_send_move}
use Rattle.quic_flows.proofs.Fronts.{front-length}
use Rattle.quic_outgoing.specs.declared.limits.PeerLimits.{PeerLimits}
use Rattle.quic_outgoing.specs.Outgoing.{first_of}
use Rattle.quic_outgoing.specs.Senders.{first_limit, first_for, is_local}
use Rattle.quic_history.specs.World.{World, Made}
use Rattle.quic_history.specs.Flows.{send_moved, with_first_limits, room_on, has_send_side}
use Rattle.quic_history.specs.SendEvents.{SendEvent, SendStep, GaveLimits, RaisedLimit, StoppedOwn, WroteOwn, FinishedOwn, ResetOwn, AckedOwn, LostOwn, ResetAckedOwn, TookTurn}
use Rattle.quic_history.specs.History.{Event, Sending, Step, From, flow, send_move_of, limits_in, taken_by, taken_in_all, total_over, opened_in_all, send_tale, write_room, joint_move_of, since}
use Rattle.quic_history.specs.Early.{begins_anew}
use Rattle.quic_history.proofs.Totals.{by_cases, same, IsOnce}
use Rattle.quic_link.proofs.Ends.{ArePlain}
use Rattle.quic_link.proofs.Unsent.{flow_unsent, flow-called}
use Rattle.quic_link.specs.Endpoints.{LinkedEnd, IsHonest, limits_of, LimitsWithin}
use Rattle.quic_link.proofs.Sums.{total-most, total-grows}

-- how many bytes were written on a stream
abbrev pub amount : SendFlow → ℕ
amount t = total_length t.cuts

-- what is done to a stream writes so many bytes
abbrev pub bytes_in_move : Option (ℕ × SendMove) → ℕ
bytes_in_move None = 0
bytes_in_move (Some m) = by_move m.1
  where
    by_move : SendMove → ℕ
    by_move (WasWritten pieces) = total_length pieces
    by_move _ = 0

-- and no more than there is room for
abbrev pub IsRoomFor : (ℕ → SendFlow) → Option (ℕ × SendMove) → Type 0
IsRoomFor f None = Unit {0}
IsRoomFor f (Some m) = bytes_in_move (Some m) ≤ room_on (f m.0)

pub record RoomSo (t : SendFlow) : Type 0 where
  pub within : amount t ≤ t.limit
  pub small : t.limit < 2 ^ 62

amount_if : (a b : SendFlow) (k : Bool) (n : ℕ) → amount a ≡ n → amount b ≡ n → amount (if k then a else b) ≡ n
amount_if a b true n e g = e
amount_if a b false n e g = g

amount_move : (m : SendMove) (t : SendFlow) → amount (with_send_move m t) ≡ amount t + bytes_in_move (Some (0, m))
amount_move (WasWritten pieces) t = total-append t.cuts pieces
amount_move WasFinished t = omega arith
amount_move (WasGivenUp code) t = omega arith
amount_move (WasAskedToStop code) t = omega arith
amount_move (WasPermitted limit) t = amount_if (with_least_limit (min limit (2 ^ 62 - 1)) t) t (takes_data t.reset t.finished) (amount t + 0) (omega arith) (omega arith)
amount_move (WasCarried first behind fin) t = amount_if (with_carried first behind fin t) t (is_none t.reset) (amount t + 0) (omega arith) (omega arith)
amount_move (WasAcked first behind fin) t = amount_if (freed_if_whole (with_acked first behind fin t)) t (counts_for t.reset t.sent_up_to behind) (amount t + 0) (omega arith) (omega arith)
amount_move (WasLost first behind fin) t = amount_if (with_lost first behind fin t) t (counts_for t.reset t.sent_up_to behind) (amount t + 0) (omega arith) (omega arith)
amount_move WasResetAcked t = omega arith

most_if : (a b : SendFlow) (k : Bool) (n : ℕ) → amount a ≤ n → amount b ≤ n → amount (if k then a else b) ≤ n
most_if a b true n e g = e
most_if a b false n e g = g

limits_amount : (l : Option PeerLimits) (side : Side) (q : ℕ) (t : SendFlow) → amount (with_first_limits l side q t) ≡ amount t
limits_amount None side q t = refl
limits_amount (Some limits) side q t = refl

amount_other : (o : Option (ℕ × SendMove)) (there : ℕ → Bool) (q k : ℕ) (t : SendFlow) → (m : SendMove) → o ≡ Some (k, m) → eqb q k ≡ false → amount (send_moved (Some (k, m)) there q t) ≡ amount t
amount_other o there q k t m e n = rw n refl

-- the sum grows by what is written
sum_moved : (o : Option (ℕ × SendMove)) (l : Option PeerLimits) (side : Side) (there : ℕ → Bool) (f : ℕ → SendFlow) (xs : List ℕ) → IsOnce xs
    → total_over (λ q. amount (with_first_limits l side q (send_moved o there q (f q)))) xs ≤ total_over (λ q. amount (f q)) xs + bytes_in_move o
sum_moved None l side there f xs once =
    let k = total-most (λ q. amount (f q)) (λ q. amount (with_first_limits l side q (f q))) xs (λ q. let e = limits_amount l side q (f q) in omega arith) in
    omega arith
sum_moved (Some m) l side there f xs once =
    total-grows (λ q. amount (f q)) (λ q. amount (with_first_limits l side q (send_moved (Some m) there q (f q)))) m.0 (bytes_in_move (Some m)) xs once
    (λ q n. let e = limits_amount l side q (send_moved (Some m) there q (f q)) ∙ amount_other (Some m) there q m.0 (f q) m.1 refl n in omega arith)
    (let e = limits_amount l side m.0 (send_moved (Some m) there m.0 (f m.0)) in
    let k = amount_move m.1 (f m.0) in
    let b = most_if (with_send_move m.1 (f m.0)) (f m.0) ((m.0 == m.0) && there m.0) (amount (f m.0) + bytes_in_move (Some m)) (omega arith) (omega arith) in
    omega arith)

-- ---- the room of one stream

room_if : (a b : SendFlow) (k : Bool) → RoomSo a → RoomSo b → RoomSo (if k then a else b)
room_if a b true g h = g
room_if a b false g h = h

room_same : (t t' : SendFlow) → t'.cuts ≡ t.cuts → t'.limit ≡ t.limit → RoomSo t → RoomSo t'
room_same t t' c l r = let a = r.within in let b = r.small in let e : amount t' ≡ amount t = ap total_length c in record { within = omega arith; small = omega arith }

room_least : (t : SendFlow) (n : ℕ) → n < 2 ^ 62 → RoomSo t → RoomSo (with_least_limit n t)
room_least t n s r = let a = r.within in let b = r.small in
    let w : amount t ≤ max t.limit n = omega arith in
    let x : max t.limit n < 2 ^ 62 = omega arith in
    record { within = w; small = x }

room_move : (m : SendMove) (t : SendFlow) → bytes_in_move (Some (0, m)) ≤ room_on t → RoomSo t → RoomSo (with_send_move m t)
room_move (WasWritten pieces) t k r =
    let a = r.within in
    let e = total-append t.cuts pieces in
    let w : total_length (t.cuts ++ pieces) ≤ t.limit = omega arith in
    record { within = w; small = r.small }
room_move WasFinished t k r = room_same t _ refl refl r
room_move (WasGivenUp code) t k r = room_same t _ refl refl r
room_move (WasAskedToStop code) t k r = room_same t _ refl refl r
room_move (WasPermitted limit) t k r = room_if _ t (takes_data t.reset t.finished) (room_least t (min limit (2 ^ 62 - 1)) (omega arith) r) r
room_move (WasCarried first behind fin) t k r = room_if _ t _ (room_same t _ refl refl r) r
room_move (WasAcked first behind fin) t k r = room_if _ t _ (room_same t _ refl refl r) r
room_move (WasLost first behind fin) t k r = room_if _ t _ (room_same t _ refl refl r) r
room_move WasResetAcked t k r = room_same t _ refl refl r

room_moved : (o : Option (ℕ × SendMove)) (there : ℕ → Bool) (f : ℕ → SendFlow) (q : ℕ) → IsRoomFor f o → RoomSo (f q) → RoomSo (send_moved o there q (f q))
room_moved None there f q k r = r
room_moved (Some m) there f q k r = by_cases (eqb q m.0)
    (λ e. let P : ℕ → Type 0 = λ i. bytes_in_move (Some m) ≤ room_on (f i) in
    let at : bytes_in_move (Some m) ≤ room_on (f q) = subst P (sym (same q m.0 e)) k in
    room_if _ (f q) (eqb q m.0 && there q) (room_move m.1 (f q) at r) r)
    (λ n. rw n r)

-- the limits that are handed in are within those of the other end
abbrev pub AreLimitsOf : Made → Option PeerLimits → Type 0
AreLimitsOf m None = Unit {0}
AreLimitsOf m (Some limits) = LimitsWithin limits (limits_of m)

pub within-same : (p : PeerLimits) → LimitsWithin p p
within-same p = record { of_connection = omega arith; streams_bidi = omega arith; streams_uni = omega arith; of_uni = omega arith; of_bidi_local = omega arith; of_bidi_remote = omega arith }

pub first-is : (m : Made) (side : Side) (q : ℕ) → first_limit side (first_of (limits_of m)) q ≡ m.window
first-is m side q = by_dir (is_local side q) (dir_of q)
  where
    by_dir : (own : Bool) (d : Dir) → first_for own d (first_of (limits_of m)) ≡ m.window
    by_dir true Bi = refl
    by_dir true Uni = refl
    by_dir false Bi = refl
    by_dir false Uni = refl

-- so no stream begins with more than its window
pub first-most : (m : Made) (limits : PeerLimits) (side : Side) (q : ℕ) → LimitsWithin limits (limits_of m) → first_limit side (first_of limits) q ≤ m.window
first-most m limits side q w = by_dir (is_local side q) (dir_of q)
  where
    by_dir : (own : Bool) (d : Dir) → first_for own d (first_of limits) ≤ m.window
    by_dir true Bi = w.of_bidi_remote
    by_dir true Uni = w.of_uni
    by_dir false Bi = w.of_bidi_local
    by_dir false Uni = w.of_uni

room_limits : (m : Made) (l : Option PeerLimits) (side : Side) (q : ℕ) (t : SendFlow) → m.window < 2 ^ 62 → AreLimitsOf m l → RoomSo t → RoomSo (with_first_limits l side q t)
room_limits m None side q t s a r = r
room_limits m (Some limits) side q t s a r =
    let n = first-most m limits side q a in
    room_least t (first_limit side (first_of limits) q) (omega arith) r

pub limits-honest : (x y : LinkedEnd) (e : Event) → IsHonest x y e → AreLimitsOf y.made (limits_in e)
limits-honest x y (Sending (GaveLimits limits (Ok u))) k = k
limits-honest x y _ k = tt

-- ---- what a call writes

module _ (m : Made) (h : List Event) (u v : World) (f : From m h u) where
  -- a write takes what there is room for
  written_room : (id : ℕ) (lists : List (List ℕ)) (bytes : ℕ) → bytes ≡ min (total_length lists) (write_room m h id) → total_length (front_of bytes lists) ≤ room_on (flow m h id)
  written_room id lists bytes e = let k = front-length bytes lists in omega arith

  room_send : (e : SendEvent) → SendStep u e v → IsRoomFor (flow m h) (send_move_of (Sending e))
  room_send (WroteOwn id lists closed (Ok written)) s =
      let w = f.writes id lists closed s.0 (Ok written) v s.2 s.1 s.3 in
      written_room id lists written.bytes w.2
  room_send (WroteOwn id lists closed (Err e)) s = tt
  room_send (ResetOwn id code (Ok x)) s = omega arith
  room_send (ResetOwn id code (Err e)) s = tt
  room_send (RaisedLimit id limit (Ok x)) s = omega arith
  room_send (RaisedLimit id limit (Err e)) s = tt
  room_send (StoppedOwn id code (Ok x)) s = omega arith
  room_send (StoppedOwn id code (Err e)) s = tt
  room_send (FinishedOwn id (Ok x)) s = omega arith
  room_send (FinishedOwn id (Err e)) s = tt
  room_send (AckedOwn id offsets fin (Ok x)) s = omega arith
  room_send (AckedOwn id offsets fin (Err e)) s = tt
  room_send (LostOwn id offsets fin (Ok x)) s = omega arith
  room_send (LostOwn id offsets fin (Err e)) s = tt
  room_send (ResetAckedOwn id (Ok x)) s = omega arith
  room_send (ResetAckedOwn id (Err e)) s = tt
  room_send (TookTurn most fair None) s = tt
  room_send (TookTurn most fair (Some frame)) s = omega arith
  room_send _ s = tt

  room_any : (e : Event) → Step u e v → IsRoomFor (flow m h) (send_move_of e)
  room_any (Sending e) s = room_send e s
  room_any _ s = tt

  -- no call goes beyond the limit of a stream
  pub room-kept : (n : Made) (e : Event) → begins_anew (joint_move_of e) ≡ false → Step u e v → n.window < 2 ^ 62 → AreLimitsOf n (limits_in e) → (q : ℕ) → RoomSo (flow m h q) → RoomSo (flow m (e ∷ h) q)
  room-kept n e plain s small a q r = flow-called (λ t. RoomSo t) m e h q plain (λ t k. room_same t (flow_unsent t) refl refl k)
      (room_limits n (limits_in e) m.side q _ small a (room_moved (send_move_of e) _ (flow m h) q (room_any e s) r))

-- a call writes no more than is counted
written_counts : (e : Event) → bytes_in_move (send_move_of e) ≤ taken_by e
written_counts (Sending (WroteOwn id lists closed (Ok written))) = let k = front-length written.bytes lists in omega arith
written_counts (Sending (WroteOwn id lists closed (Err e))) = omega arith
written_counts (Sending (ResetOwn id code (Ok x))) = omega arith
written_counts (Sending (ResetOwn id code (Err e))) = omega arith
written_counts (Sending (RaisedLimit id limit (Ok x))) = omega arith
written_counts (Sending (RaisedLimit id limit (Err e))) = omega arith
written_counts (Sending (StoppedOwn id code (Ok x))) = omega arith
written_counts (Sending (StoppedOwn id code (Err e))) = omega arith
written_counts (Sending (FinishedOwn id (Ok x))) = omega arith
written_counts (Sending (FinishedOwn id (Err e))) = omega arith
written_counts (Sending (AckedOwn id offsets fin (Ok x))) = omega arith
written_counts (Sending (AckedOwn id offsets fin (Err e))) = omega arith
written_counts (Sending (LostOwn id offsets fin (Ok x))) = omega arith
written_counts (Sending (LostOwn id offsets fin (Err e))) = omega arith
written_counts (Sending (ResetAckedOwn id (Ok x))) = omega arith
written_counts (Sending (ResetAckedOwn id (Err e))) = omega arith
written_counts (Sending (TookTurn most fair None)) = omega arith
written_counts (Sending (TookTurn most fair (Some frame))) = omega arith
written_counts _ = omega arith

most_self : (n : ℕ) → n ≤ n
most_self n = omega arith

-- the sum over any streams, each once, is no more than what is counted
pub sum-written : (m : Made) (h : List Event) (xs : List ℕ) → ArePlain h → IsOnce xs → total_over (λ q. amount (flow m h q)) xs ≤ taken_in_all h
sum-written m [] xs plain once = none_written xs
  where
    none_written : (ys : List ℕ) → total_over (λ q. amount (flow m [] q)) ys ≤ 0
    none_written [] = omega arith
    none_written (y ∷ ys) = omega (arith, none_written ys)
sum-written m (e ∷ h) xs plain once =
    let there : ℕ → Bool = has_send_side m.side (opened_in_all (since h)) (send_tale m h).may_open in
    let moved : ℕ → SendFlow = λ q. with_first_limits (limits_in e) m.side q (send_moved (send_move_of e) there q (flow m h q)) in
    let a = sum_moved (send_move_of e) (limits_in e) m.side there (flow m h) xs once in
    let b = written_counts e in
    let c = sum-written m h xs plain.1 once in
    let d = total-most (λ q. amount (moved q)) (λ q. amount (flow m (e ∷ h) q)) xs (λ q. flow-called (λ t. amount t ≤ amount (moved q)) m e h q plain.0 (λ t l. l) (most_self (amount (moved q)))) in
    omega arith
