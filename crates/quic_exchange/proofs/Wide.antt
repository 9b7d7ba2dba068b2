-- While it is not decided whether a server takes what a client sends early, the client may stand beside a server that permits
-- what was remembered too.
use Rattle.std.proofs.Common.{◌≡◌, ℕ, Option, Some, None, refl, ap, arith, ◌≤◌, ◌<◌}
use Rattle.std.specs.Prelude.{max, ◌^◌}
use Rattle.quic_values.specs.declared.ids.Side.TheVariants.{Client, Server}
use Rattle.quic_outgoing.specs.declared.limits.PeerLimits.{PeerLimits}
use Rattle.quic_history.specs.World.{Made, PermitsNoLess, made_with, start}
use Rattle.quic_history.specs.History.{IsStart}
use Rattle.quic_history.proofs.Beginnings.{start-with}
use Rattle.quic_link.specs.Endpoints.{LimitsWithin, limits_of}
use Rattle.quic_link.proofs.Rooms.{within-same}
use Rattle.quic_steps.specs.declared.steps.Config.{Config}
use Rattle.quic_exchange.specs.declared.early.EarlyLimits.{EarlyLimits}
use Rattle.quic_exchange.specs.State.{PairState}
use Rattle.quic_exchange.specs.From.{Beginning, made_of, end_begun, limits_of_a, limits_of_b, AreSoundLimits, IsNew}
use Rattle.quic_exchange.proofs.Begun.{AreTwoEnds}

-- the greatest limit of a stream
abbrev pub most_of_streams : PeerLimits → ℕ
most_of_streams l = max l.initial_max_stream_data_uni (max l.initial_max_stream_data_bidi_local l.initial_max_stream_data_bidi_remote)

-- such a server
abbrev pub wide_made : Config → PeerLimits → Made
wide_made c l = made_with Server (max c.max_remote_uni l.initial_max_streams_uni) (max c.max_remote_bi l.initial_max_streams_bidi) c.send_window (max c.receive_window l.initial_max_data) (max c.stream_receive_window (most_of_streams l))

pub wide-within : (c : Config) (l : PeerLimits) → LimitsWithin l (limits_of (wide_made c l))
wide-within c l = record { of_connection = omega arith; streams_bidi = omega arith; streams_uni = omega arith; of_uni = omega arith; of_bidi_local = omega arith; of_bidi_remote = omega arith }

pub wide-others : (c : Config) (l : PeerLimits) → LimitsWithin (limits_of (made_of Server c)) (limits_of (wide_made c l))
wide-others c l = record { of_connection = omega arith; streams_bidi = omega arith; streams_uni = omega arith; of_uni = omega arith; of_bidi_local = omega arith; of_bidi_remote = omega arith }

max_same : (n m : ℕ) → m ≤ n → max n m ≡ n
max_same n m l = omega (arith, l)

max_below : (n a b c : ℕ) → a ≤ n → b ≤ n → c ≤ n → max n (max a (max b c)) ≡ n
max_below n a b c k l m = omega (arith, k, l, m)

-- which is the server, where that permits as much
pub wide-same : (c : Config) (l : PeerLimits) → LimitsWithin l (limits_of (made_of Server c)) → wide_made c l ≡ made_of Server c
wide-same c l w =
    let uni = max_same c.max_remote_uni l.initial_max_streams_uni w.streams_uni in
    let bi = max_same c.max_remote_bi l.initial_max_streams_bidi w.streams_bidi in
    let whole = max_same c.receive_window l.initial_max_data w.of_connection in
    let window = max_below c.stream_receive_window l.initial_max_stream_data_uni l.initial_max_stream_data_bidi_local l.initial_max_stream_data_bidi_remote w.of_uni w.of_bidi_local w.of_bidi_remote in
    rw (uni, bi, whole, window) refl

-- a pair with such a server, while it is not decided
abbrev pub linked_at : Beginning → Option EarlyLimits → PairState → PairState
linked_at s None v = v
linked_at s (Some k) v = record v { b = end_begun (wide_made s.b k.remembered) (limits_of_a s) }

unfoldable pub as_linked : Beginning → PairState → PairState
as_linked s v = linked_at s v.waits v

-- one that is decided is itself
pub decided-same : (s : Beginning) (v : PairState) → v.waits ≡ None → as_linked s v ≡ v
unfolding as_linked
decided-same s v e = ap (λ w. linked_at s w v) e

pub waiting-same : (s : Beginning) (v : PairState) (k : EarlyLimits) → v.waits ≡ Some k → as_linked s v ≡ record v { b = end_begun (wide_made s.b k.remembered) (limits_of_a s) }
unfolding as_linked
waiting-same s v k e = ap (λ w. linked_at s w v) e

-- what such numbers may be

-- no count is above 2^60, and no window above what can be told
pub record AreSound (s : Beginning) : Type 0 where
  pub uni_a : s.a.max_remote_uni ≤ 2 ^ 60
  pub uni_b : s.b.max_remote_uni ≤ 2 ^ 60
  pub bi_a : s.a.max_remote_bi ≤ 2 ^ 60
  pub bi_b : s.b.max_remote_bi ≤ 2 ^ 60
  pub data_a : s.a.receive_window < 2 ^ 62
  pub data_b : s.b.receive_window < 2 ^ 62
  pub stream_a : s.a.stream_receive_window < 2 ^ 62
  pub stream_b : s.b.stream_receive_window < 2 ^ 62

pub sound-new : (s : Beginning) (v : PairState) → IsNew s v → AreSound s
sound-new s v n = record { uni_a = n.few_uni.0; uni_b = n.few_uni.1; bi_a = n.few_bi.0; bi_b = n.few_bi.1; data_a = n.small.0; data_b = n.small.1; stream_a = n.small_of_stream.0; stream_b = n.small_of_stream.1 }

module _ (s : Beginning) (k : AreSound s) where
  pub limits-a : AreSoundLimits (limits_of_a s)
  limits-a = record { few_bi = k.bi_a; few_uni = k.uni_a; of_connection = k.data_a; of_uni = k.stream_a; of_bidi_local = k.stream_a; of_bidi_remote = k.stream_a }

  pub limits-b : AreSoundLimits (limits_of_b s)
  limits-b = record { few_bi = k.bi_b; few_uni = k.uni_b; of_connection = k.data_b; of_uni = k.stream_b; of_bidi_local = k.stream_b; of_bidi_remote = k.stream_b }

  pub start-a : IsStart (made_of Client s.a) (start (made_of Client s.a))
  start-a = start-with Client s.a.max_remote_uni s.a.max_remote_bi s.a.send_window s.a.receive_window s.a.stream_receive_window k.uni_a k.bi_a k.data_a

  pub start-b : IsStart (made_of Server s.b) (start (made_of Server s.b))
  start-b = start-with Server s.b.max_remote_uni s.b.max_remote_bi s.b.send_window s.b.receive_window s.b.stream_receive_window k.uni_b k.bi_b k.data_b

  -- both ends of a pair that is decided
  pub two-decided : AreTwoEnds (made_of Client s.a) (made_of Server s.b) (limits_of_b s) (limits_of_a s)
  two-decided = record { first = start-a; second = start-b; small_first = k.stream_a; small_second = k.stream_b; sides = refl; within = within-same (limits_of_b s); others_within = within-same (limits_of_a s) }

  -- and of one that is not
  pub two-wide : (l : PeerLimits) → AreSoundLimits l → AreTwoEnds (made_of Client s.a) (wide_made s.b l) l (limits_of_a s)
  two-wide l r = record {
    first = start-a;
    second = start-with Server (max s.b.max_remote_uni l.initial_max_streams_uni) (max s.b.max_remote_bi l.initial_max_streams_bidi) s.b.send_window (max s.b.receive_window l.initial_max_data) (max s.b.stream_receive_window (most_of_streams l))
        (both_below s.b.max_remote_uni l.initial_max_streams_uni (2 ^ 60) k.uni_b r.few_uni) (both_below s.b.max_remote_bi l.initial_max_streams_bidi (2 ^ 60) k.bi_b r.few_bi) (both_under s.b.receive_window l.initial_max_data (2 ^ 62) k.data_b r.of_connection);
    small_first = k.stream_a;
    small_second = four_under s.b.stream_receive_window l.initial_max_stream_data_uni l.initial_max_stream_data_bidi_local l.initial_max_stream_data_bidi_remote (2 ^ 62) k.stream_b r.of_uni r.of_bidi_local r.of_bidi_remote;
    sides = refl;
    within = wide-within s.b l;
    others_within = within-same (limits_of_a s);
  }
    where
      both_below : (a b n : ℕ) → a ≤ n → b ≤ n → max a b ≤ n
      both_below a b n x y = omega (arith, x, y)

      both_under : (a b n : ℕ) → a < n → b < n → max a b < n
      both_under a b n x y = omega (arith, x, y)

      four_under : (a b c d n : ℕ) → a < n → b < n → c < n → d < n → max a (max b (max c d)) < n
      four_under a b c d n w x y z = omega (arith, w, x, y, z)

-- the limits of an end that permits no less
pub within-permits : (m n : Made) → PermitsNoLess m n → LimitsWithin (limits_of m) (limits_of n)
within-permits m n p =
    let limit = p.limit in
    let uni = p.uni in
    let bi = p.bi in
    let window = p.window in
    record { of_connection = limit; streams_bidi = bi; streams_uni = uni; of_uni = omega (arith, window); of_bidi_local = omega (arith, window); of_bidi_remote = omega (arith, window) }
