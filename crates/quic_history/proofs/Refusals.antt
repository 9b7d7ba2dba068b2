-- Which frames are refused, by the parts of a stream's id.
use Rattle.std.proofs.Common.{◌≡◌, ℕ, Bool, true, false, Option, Some, None, refl, sym, ap, ◌∙◌, arith, ◌+◌, ◌/◌, ◌%◌}
use Rattle.std.specs.Prelude.{◌==◌, nat_le, if◌then◌else◌}
use Rattle.std.proofs.lemmas.Bool.Decides.{nat_tests}
use Rattle.quic_values.specs.declared.ids.Side.{Side}
use Rattle.quic_values.specs.declared.ids.Side.TheVariants.{Client, Server}
use Rattle.quic_values.specs.declared.ids.Dir.{Dir}
use Rattle.quic_values.specs.declared.ids.Dir.TheVariants.{Bi, Uni}
use Rattle.quic_values.specs.Ids.{stream_id, other_side, is_client_side, index_of, initiator_of}
use Rattle.quic_wire.specs.Codes.{STREAM_LIMIT_ERROR, STREAM_STATE_ERROR}
use Rattle.quic_history.specs.World.{World, id_refusal, own_refusal, remote_of, is_own, is_same_side}

-- the error, by whether a stream is this end's, whether it is bidirectional, how many are open, and its index
abbrev pub refusal_by : Bool → Bool → ℕ → ℕ → ℕ → ℕ → Option ℕ
refusal_by true true opened bi uni index = if nat_le opened index then Some STREAM_STATE_ERROR else None
refusal_by true false opened bi uni index = Some STREAM_STATE_ERROR
refusal_by false true opened bi uni index = if nat_le bi index then Some STREAM_LIMIT_ERROR else None
refusal_by false false opened bi uni index = if nat_le uni index then Some STREAM_LIMIT_ERROR else None

by_parts : (w : World) (own bi : Bool) (index : ℕ)
    → (if own then own_refusal w (if bi then Bi else Uni) index
    else (if nat_le (remote_of w (if bi then Bi else Uni)).max_remote index then Some STREAM_LIMIT_ERROR else None))
    ≡ refusal_by own bi w.out.own_bi.opened w.bi.max_remote w.uni.max_remote index
by_parts w true true index = refl
by_parts w true false index = refl
by_parts w false true index = refl
by_parts w false false index = refl

pub refusal-is : (w : World) (q : ℕ) → id_refusal w q ≡ refusal_by (is_own w q) (q / 2 % 2 == 0) w.out.own_bi.opened w.bi.max_remote w.uni.max_remote (index_of q)
refusal-is w q = by_parts w (is_own w q) (q / 2 % 2 == 0) (index_of q)

-- nothing else counts
pub refusal-same : (v w : World) (q : ℕ) → v.out.side ≡ w.out.side → v.out.own_bi.opened ≡ w.out.own_bi.opened → v.bi.max_remote ≡ w.bi.max_remote → v.uni.max_remote ≡ w.uni.max_remote
    → id_refusal v q ≡ id_refusal w q
refusal-same v w q side opened bi uni = refusal-is v q ∙ rw (side, opened, bi, uni) (sym (refusal-is w q))

abbrev pub is_bi : Dir → Bool
is_bi Bi = true
is_bi Uni = false

pub side-bit : (s : Side) (d : Dir) (n : ℕ) → (stream_id s d n % 2 == 0) ≡ is_client_side s
side-bit Client Bi n = grind (arith, nat_tests)
side-bit Client Uni n = grind (arith, nat_tests)
side-bit Server Bi n = grind (arith, nat_tests)
side-bit Server Uni n = grind (arith, nat_tests)

pub dir-bit : (s : Side) (d : Dir) (n : ℕ) → (stream_id s d n / 2 % 2 == 0) ≡ is_bi d
dir-bit Client Bi n = grind (arith, nat_tests)
dir-bit Client Uni n = grind (arith, nat_tests)
dir-bit Server Bi n = grind (arith, nat_tests)
dir-bit Server Uni n = grind (arith, nat_tests)

pub index-id : (s : Side) (d : Dir) (n : ℕ) → index_of (stream_id s d n) ≡ n
index-id Client Bi n = omega arith
index-id Client Uni n = omega arith
index-id Server Bi n = omega arith
index-id Server Uni n = omega arith

other_not_same : (s : Side) → is_same_side s (if is_client_side (other_side s) then Client else Server) ≡ false
other_not_same Client = refl
other_not_same Server = refl

-- a stream of the peer is not this end's
pub own-other : (s : Side) (d : Dir) (n : ℕ) → is_same_side s (initiator_of (stream_id (other_side s) d n)) ≡ false
own-other s d n = ap (λ b. is_same_side s (if b then Client else Server)) (side-bit (other_side s) d n) ∙ other_not_same s

-- the error of a frame on the peer's stream of a direction and an index
pub refusal-peer : (w : World) (s : Side) (d : Dir) (n : ℕ) → w.out.side ≡ s
    → id_refusal w (stream_id (other_side s) d n) ≡ refusal_by false (is_bi d) w.out.own_bi.opened w.bi.max_remote w.uni.max_remote n
refusal-peer w s d n e = refusal-is w (stream_id (other_side s) d n) ∙ rw (e, own-other s d n, dir-bit (other_side s) d n, index-id (other_side s) d n) refl

-- a stream that is not the peer's of an index has another index, if it is of the peer and in the direction
other_index : (s : Side) (d : Dir) (q m : ℕ) → (q % 2 == 0) ≡ is_client_side (other_side s) → (q / 2 % 2 == 0) ≡ is_bi d → (q == stream_id (other_side s) d m) ≡ false
    → nat_le (m + 1) (q / 4) ≡ nat_le m (q / 4)
other_index Client Bi q m side dir apart = grind (arith, nat_tests)
other_index Client Uni q m side dir apart = grind (arith, nat_tests)
other_index Server Bi q m side dir apart = grind (arith, nat_tests)
other_index Server Uni q m side dir apart = grind (arith, nat_tests)

peer_side : (s : Side) (b : Bool) → is_same_side s (if b then Client else Server) ≡ false → b ≡ is_client_side (other_side s)
peer_side Client true e = cc
peer_side Client false e = refl
peer_side Server true e = refl
peer_side Server false e = cc

-- one more stream of a direction is permitted: frames on the others are refused as before
raised_bi : (s : Side) (q opened m uni : ℕ) (own bi : Bool) → is_same_side s (initiator_of q) ≡ own → (q / 2 % 2 == 0) ≡ bi → (q == stream_id (other_side s) Bi m) ≡ false
    → refusal_by own bi opened (m + 1) uni (index_of q) ≡ refusal_by own bi opened m uni (index_of q)
raised_bi s q opened m uni true true e f apart = refl
raised_bi s q opened m uni true false e f apart = refl
raised_bi s q opened m uni false true e f apart =
    ap (λ b. if b then Some STREAM_LIMIT_ERROR else None) (other_index s Bi q m (peer_side s (q % 2 == 0) e) f apart)
raised_bi s q opened m uni false false e f apart = refl

raised_uni : (s : Side) (q opened bi m : ℕ) (own is : Bool) → is_same_side s (initiator_of q) ≡ own → (q / 2 % 2 == 0) ≡ is → (q == stream_id (other_side s) Uni m) ≡ false
    → refusal_by own is opened bi (m + 1) (index_of q) ≡ refusal_by own is opened bi m (index_of q)
raised_uni s q opened bi m true true e f apart = refl
raised_uni s q opened bi m true false e f apart = refl
raised_uni s q opened bi m false true e f apart = refl
raised_uni s q opened bi m false false e f apart =
    ap (λ b. if b then Some STREAM_LIMIT_ERROR else None) (other_index s Uni q m (peer_side s (q % 2 == 0) e) f apart)

-- the largest counts of streams, one more in a direction
abbrev pub IsRaised : Dir → World → World → Type 0
IsRaised Bi w v = (v.bi.max_remote ≡ w.bi.max_remote + 1) × (v.uni.max_remote ≡ w.uni.max_remote)
IsRaised Uni w v = (v.bi.max_remote ≡ w.bi.max_remote) × (v.uni.max_remote ≡ w.uni.max_remote + 1)

pub refusal-raised : (d : Dir) (w v : World) (q : ℕ) → v.out.side ≡ w.out.side → v.out.own_bi.opened ≡ w.out.own_bi.opened → IsRaised d w v
    → (q == stream_id (other_side w.out.side) d (remote_of w d).max_remote) ≡ false → id_refusal v q ≡ id_refusal w q
refusal-raised Bi w v q side opened r apart =
    refusal-is v q ∙ rw (side, opened, r.0, r.1) (raised_bi w.out.side q w.out.own_bi.opened w.bi.max_remote w.uni.max_remote (is_own w q) (q / 2 % 2 == 0) refl refl apart)
    ∙ sym (refusal-is w q)
refusal-raised Uni w v q side opened r apart =
    refusal-is v q ∙ rw (side, opened, r.0, r.1) (raised_uni w.out.side q w.out.own_bi.opened w.bi.max_remote w.uni.max_remote (is_own w q) (q / 2 % 2 == 0) refl refl apart)
    ∙ sym (refusal-is w q)

here_no : (m : ℕ) → nat_le (m + 1) m ≡ false
here_no m = grind (arith, nat_tests)

here_yes : (m : ℕ) → nat_le m m ≡ true
here_yes m = grind (arith, nat_tests)

-- frames on the next stream are refused, and no more once it is permitted
pub refusal-next : (d : Dir) (w : World) → id_refusal w (stream_id (other_side w.out.side) d (remote_of w d).max_remote) ≡ Some STREAM_LIMIT_ERROR
refusal-next Bi w = refusal-peer w w.out.side Bi w.bi.max_remote refl ∙ rw (here_yes w.bi.max_remote) refl
refusal-next Uni w = refusal-peer w w.out.side Uni w.uni.max_remote refl ∙ rw (here_yes w.uni.max_remote) refl

pub refusal-permitted : (d : Dir) (w v : World) → v.out.side ≡ w.out.side → IsRaised d w v → id_refusal v (stream_id (other_side w.out.side) d (remote_of w d).max_remote) ≡ None
refusal-permitted Bi w v side r = refusal-peer v w.out.side Bi w.bi.max_remote side ∙ rw (r.0, here_no w.bi.max_remote) refl
refusal-permitted Uni w v side r = refusal-peer v w.out.side Uni w.uni.max_remote side ∙ rw (r.1, here_no w.uni.max_remote) refl

this_same : (s : Side) → is_same_side s (if is_client_side s then Client else Server) ≡ true
this_same Client = refl
this_same Server = refl

-- a stream of this end
pub own-id : (s : Side) (d : Dir) (n : ℕ) → is_same_side s (initiator_of (stream_id s d n)) ≡ true
own-id s d n = ap (λ b. is_same_side s (if b then Client else Server)) (side-bit s d n) ∙ this_same s

-- the error of a frame on this end's bidirectional stream of an index
pub refusal-own : (w : World) (s : Side) (n : ℕ) → w.out.side ≡ s → id_refusal w (stream_id s Bi n) ≡ (if nat_le w.out.own_bi.opened n then Some STREAM_STATE_ERROR else None)
refusal-own w s n e = refusal-is w (stream_id s Bi n) ∙ rw (e, own-id s Bi n, dir-bit s Bi n, index-id s Bi n) refl

own_index : (s : Side) (q m : ℕ) → (q % 2 == 0) ≡ is_client_side s → (q / 2 % 2 == 0) ≡ true → (q == stream_id s Bi m) ≡ false → nat_le (m + 1) (q / 4) ≡ nat_le m (q / 4)
own_index Client q m side dir apart = grind (arith, nat_tests)
own_index Server q m side dir apart = grind (arith, nat_tests)

pub own-side : (s : Side) (b : Bool) → is_same_side s (if b then Client else Server) ≡ true → b ≡ is_client_side s
own-side Client true e = refl
own-side Client false e = cc
own-side Server true e = cc
own-side Server false e = refl

opened_more : (s : Side) (q m bi uni : ℕ) (own is : Bool) → is_same_side s (initiator_of q) ≡ own → (q / 2 % 2 == 0) ≡ is → (q == stream_id s Bi m) ≡ false
    → refusal_by own is (m + 1) bi uni (index_of q) ≡ refusal_by own is m bi uni (index_of q)
opened_more s q m bi uni true true e f apart = ap (λ b. if b then Some STREAM_STATE_ERROR else None) (own_index s q m (own-side s (q % 2 == 0) e) f apart)
opened_more s q m bi uni true false e f apart = refl
opened_more s q m bi uni false true e f apart = refl
opened_more s q m bi uni false false e f apart = refl

-- one more bidirectional stream of this end is open: frames on the others are refused as before
pub refusal-own-next : (w v : World) (q : ℕ) → v.out.side ≡ w.out.side → v.out.own_bi.opened ≡ w.out.own_bi.opened + 1 → v.bi.max_remote ≡ w.bi.max_remote → v.uni.max_remote ≡ w.uni.max_remote
    → (q == stream_id w.out.side Bi w.out.own_bi.opened) ≡ false → id_refusal v q ≡ id_refusal w q
refusal-own-next w v q side opened bi uni apart =
    refusal-is v q ∙ rw (side, opened, bi, uni) (opened_more w.out.side q w.out.own_bi.opened w.bi.max_remote w.uni.max_remote (is_own w q) (q / 2 % 2 == 0) refl refl apart)
    ∙ sym (refusal-is w q)
