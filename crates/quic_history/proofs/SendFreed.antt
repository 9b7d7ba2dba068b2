-- What it leaves of the receiving side that the send half of a stream is let go.
use Rattle.std.proofs.Common.{◌≡◌, ℕ, Bool, true, false, ◌&&◌, not, eqb, Option, Some, None, is_some, refl, sym, ap, ◌∙◌, arith, ◌<◌, ◌/◌, ◌%◌}
use Rattle.std.specs.Prelude.{◌==◌, nat_le, nat_lt, if◌then◌else◌}
use Rattle.std.proofs.lemmas.Bool.Decides.{nat_tests}
use Rattle.quic_values.specs.declared.ids.Side.{Side}
use Rattle.quic_values.specs.declared.ids.Dir.{Dir}
use Rattle.quic_values.specs.declared.ids.Dir.TheVariants.{Bi, Uni}
use Rattle.quic_values.specs.Ids.{stream_id, other_side, dir_of, index_of}
use Rattle.quic_wire.specs.Codes.{STREAM_LIMIT_ERROR}
use Rattle.quic_limits.specs.Remote as remote
use Rattle.quic_limits.specs.Remote.{Remote}
use Rattle.quic_limits.specs.SendingCredit.{SendingCredit}
use Rattle.quic_receiving.specs.Half.{Half}
use Rattle.quic_outgoing.specs.Senders.{with_sender}
use Rattle.quic_outgoing.specs.Outgoing.{with_send_half}
use Rattle.quic_history.specs.World.{World, sends, id_refusal, is_own, remote_of, with_remote, with_receive, permitted_if, replaced_in}
use Rattle.quic_history.specs.Sends.{with_out, is_permitted}
use Rattle.quic_history.specs.Acknowledged.{send_released, with_send_freed, without_sender}
use Rattle.quic_history.specs.History.{Trace, RemoteFrom, untouched, is_freed}
use Rattle.quic_history.proofs.Totals.{by_cases, same}
use Rattle.quic_history.proofs.Traces.{itself}
use Rattle.quic_history.proofs.Refusals.{refusal-same, refusal-next, refusal-peer, own-other}
use Rattle.quic_history.proofs.Remotes.{AllRemotes, limits-refl, remote-same, remote-replaced, other-place, bi-not-uni, none-and, spelled}
use Rattle.quic_history.proofs.StreamSteps.{AllFrom, all-same, all-replaced, half-from, gone-from, known-from, new-from, steady, steady-replaced}

-- the half was let go, and the credit of the sending side is another
abbrev pub without_half : World → ℕ → SendingCredit → World
without_half u id c = with_out u (record (with_send_half u.out id None) { budget = c })

either : (P : World → Type 0) (u v : World) (b : Bool) → (b ≡ true → P u) → (b ≡ false → P v) → P (if b then u else v)
either P u v true s t = s refl
either P u v false s t = t refl

-- what may be said of an end where a send half was freed
pub send-freed : (P : World → Type 0) (w : World) (id : ℕ) → P (without_sender w id) → P (replaced_in (without_sender w id) Bi) → P (with_send_freed w id)
send-freed P w id s t = let u = without_sender w id in either P u (send_released u (dir_of id) id) (is_own u id) (λ e. s) (λ e. of_dir (dir_of id))
  where
    of_dir : (d : Dir) → P (send_released (without_sender w id) d id)
    of_dir Uni = s
    of_dir Bi = let u = without_sender w id in either P u (replaced_in u Bi) (is_some (u.receive id)) (λ e. s) (λ e. t)

pub steady-send-freed : (w : World) (id : ℕ) → steady (with_send_freed w id) ≡ steady w
steady-send-freed w id = send-freed (λ x. steady x ≡ steady w) w id refl (steady-replaced (without_sender w id) Bi)

-- what is told of each stream
pub all-send-freed : (f : ℕ → Trace) (u : World) (id : ℕ) (c : SendingCredit) → AllFrom f u → AllFrom f (with_send_freed (without_half u id c) id)
all-send-freed f u id c s =
    let w = without_half u id c in
    let k : AllFrom f w = all-same f u w refl (λ q. refusal-same w u q refl refl refl refl) (λ q. refl) s in
    send-freed (AllFrom f) w id k (all-replaced f Bi (without_sender w id) k)

-- ---- how many streams the peer may open

pub none-here : (u : World) (id : ℕ) (c : SendingCredit) → sends (without_half u id c) id ≡ false
unfolding with_sender
none-here u id c = rw (itself id) refl

pub others-held : (u : World) (id : ℕ) (c : SendingCredit) (q : ℕ) → eqb q id ≡ false → sends (without_half u id c) q ≡ sends u q
unfolding with_sender
others-held u id c q n = rw n refl

-- another stream takes the place of a bidirectional one
record Replaced (w v : World) : Type 0 where
  side : v.out.side ≡ w.out.side
  bi : v.bi ≡ remote.replaced w.bi
  uni : v.uni ≡ w.uni
  held : (q : ℕ) → eqb q (stream_id (other_side w.out.side) Bi w.bi.max_remote) ≡ false → sends v q ≡ sends w q

replaced_if : (w : World) (b : Bool) (r : Remote) → r ≡ remote.replaced w.bi → Replaced w (permitted_if (with_remote w Bi r) Bi (if b then Some w.bi.max_remote else None))
unfolding with_sender with_receive
replaced_if w true r e = record { side = refl; bi = e; uni = refl; held = λ q n. rw n refl }
replaced_if w false r e = record { side = refl; bi = e; uni = refl; held = λ q n. refl }

is_replaced : (w : World) → Replaced w (replaced_in w Bi)
is_replaced w = replaced_if w (remote.lacks_streams (remote.freed w.bi)) (remote.replaced w.bi) refl

some_half : (o : Option Half) → is_some o ≡ true → (h : Half) × (o ≡ Some h)
some_half None e = cc
some_half (Some h) e = (h, refl)

no_half : (o : Option Half) → is_some o ≡ false → o ≡ None
no_half None e = refl
no_half (Some h) e = cc

below : (m i : ℕ) → i < m → (if nat_le m i then Some STREAM_LIMIT_ERROR else None) ≡ None
below m i l = let t : nat_le m i ≡ false = grind (arith, nat_tests) in rw t refl

apart : (j m : ℕ) → j < m → eqb j m ≡ false
apart j m l = grind (arith, nat_tests)

pub index-below : (own : Bool) (i m : ℕ) → own ≡ false → (if own then true else nat_lt i m) ≡ true → i < m
index-below true i m e k = cc
index-below false i m e k = grind (arith, nat_tests)

contrary : (k : Bool) {P : Type 0} → k ≡ true → k ≡ false → P
contrary k t n = absurd (cc)

module _ (at_once b : Dir → ℕ) (f : ℕ → Trace) (u : World) (id : ℕ) (c : SendingCredit) (held : sends u id ≡ true) (s : AllFrom f u) (x : AllRemotes at_once b f u) where
  abbrev w : World
  w = without_sender (without_half u id c) id

  abbrev peer : Side
  peer = other_side u.out.side

  -- the stream is not wholly freed
  stays : ((i : ℕ) → eqb (stream_id peer Bi i) id ≡ true → (f id).gone ≡ false) → AllRemotes at_once b f w
  stays e Uni = x Uni
  stays e Bi = remote-same (at_once Bi) (b Bi) (is_freed f u.out.side (sends u) Bi) (is_freed f u.out.side (sends w) Bi) u.bi u.bi (limits-refl u.bi)
      (λ i l. let k : ℕ = stream_id peer Bi i in by_cases (eqb k id)
      (λ t. let gone : (f k).gone ≡ false = ap (λ j. (f j).gone) (same k id t) ∙ e i t in rw gone refl)
      (λ n. ap (λ m. (f k).gone && not m) (others-held u id c k n))) (x Bi)

  -- nothing was told of the next stream
  next_new : (f (stream_id peer Bi u.bi.max_remote)).gone ≡ false
  next_new = let q : ℕ = stream_id peer Bi u.bi.max_remote in
      ap (λ t. t.gone) (new-from u.window (f q) (id_refusal u q) (u.receive q) STREAM_LIMIT_ERROR (refusal-next Bi u) (s q))

  -- it is
  replaces : (j : ℕ) → id ≡ stream_id peer Bi j → j < u.bi.max_remote → (f id).gone ≡ true → (v : World) → Replaced w v → AllRemotes at_once b f v
  replaces j e l gone v r Uni = rw (r.side, r.uni) (x Uni)
  replaces j e l gone v r Bi =
      let at : ℕ → ℕ = λ i. stream_id peer Bi i in
      let was : sends u (at j) ≡ true = ap (sends u) (sym e) ∙ held in
      let here : sends v (at j) ≡ false = r.held (at j) (other-place peer Bi j u.bi.max_remote (apart j u.bi.max_remote l)) ∙ ap (sends w) (sym e) ∙ none-here u id c in
      let told : (f (at j)).gone ≡ true = ap (λ k. (f k).gone) (sym e) ∙ gone in
      rw (r.side, r.bi)
      (remote-replaced (at_once Bi) (b Bi) (is_freed f u.out.side (sends u) Bi) (is_freed f u.out.side (sends v) Bi) u.bi j l
      (rw (told, was) refl) (rw (told, here) refl)
      (λ i n. by_cases (eqb i u.bi.max_remote)
      (λ t. let new : (f (at i)).gone ≡ false = ap (λ m. (f (at m)).gone) (same i u.bi.max_remote t) ∙ next_new in rw new refl)
      (λ m. ap (λ k. (f (at i)).gone && not k)
      (r.held (at i) (other-place peer Bi i u.bi.max_remote m) ∙ others-held u id c (at i) (rw e (other-place peer Bi i j n)))))
      (none-and (f (at u.bi.max_remote)).gone (not (sends v (at u.bi.max_remote))) next_new) (x Bi))

  by_receive : (j : ℕ) → id ≡ stream_id peer Bi j → j < u.bi.max_remote → (k : Bool) → is_some (u.receive id) ≡ k → AllRemotes at_once b f (if k then w else replaced_in w Bi)
  by_receive j e l true k = let h = some_half (u.receive id) k in
      let known = known-from f u id h.0 s h.1 in
      let there = half-from f u id h.0 s known h.1 in
      stays (λ i t. there.there)
  by_receive j e l false k =
      let known : id_refusal u id ≡ None = ap (id_refusal u) e ∙ refusal-peer u u.out.side Bi j refl ∙ below u.bi.max_remote j l in
      replaces j e l (gone-from f u id s known (no_half (u.receive id) k)) (replaced_in w Bi) (is_replaced w)

  of_dir : (d : Dir) (j : ℕ) → id ≡ stream_id peer d j → j < (remote_of u d).max_remote → AllRemotes at_once b f (send_released w d id)
  of_dir Uni j e l = stays (λ i t. contrary (eqb (stream_id peer Bi i) id) t (rw e (bi-not-uni peer i j)))
  of_dir Bi j e l = by_receive j e l (is_some (u.receive id)) refl

  pub remotes-send-freed : is_permitted u id ≡ true → AllRemotes at_once b f (with_send_freed (without_half u id c) id)
  remotes-send-freed known = either (AllRemotes at_once b f) w (send_released w (dir_of id) id) (is_own w id)
      (λ own. stays (λ i t. contrary (is_own u id) own (ap (is_own u) (sym (same (stream_id peer Bi i) id t)) ∙ own-other u.out.side Bi i)))
      (λ own. of_dir (dir_of id) (index_of id) (spelled u.out.side (id % 2 == 0) (id / 2 % 2 == 0) id refl refl own) (index-below (is_own u id) (index_of id) (remote_of u (dir_of id)).max_remote own known))
