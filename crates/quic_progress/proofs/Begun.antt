-- An end that begins is known to its peer as far as this one was told what it is made with.
use Rattle.std.proofs.Common.{◌≡◌, ℕ, Bool, true, false, List, Option, Some, None, refl, sym, ◌∙◌, inl, inr, arith, ◌≤◌, ◌<◌, ◌+◌, ◌/◌, ◌^◌}
use Rattle.std.specs.Prelude.{if◌then◌else◌}
use Rattle.quic_values.specs.declared.ids.Side.{Side}
use Rattle.quic_values.specs.declared.ids.Dir.{Dir}
use Rattle.quic_values.specs.declared.ids.Dir.TheVariants.{Bi, Uni}
use Rattle.quic_values.specs.Ids.{other_side, dir_of}
use Rattle.quic_limits.specs.Credit.{max_data_of}
use Rattle.quic_receiving.specs.Half.{Half, new_half}
use Rattle.quic_outgoing.specs.declared.limits.PeerLimits.{PeerLimits}
use Rattle.quic_outgoing.specs.Outgoing.{first_of}
use Rattle.quic_outgoing.specs.Senders.{first_for, is_local}
use Rattle.quic_history.specs.Halves.{with_first, is_among}
use Rattle.quic_history.specs.World.{Made, made_with, start, remote_of}
use Rattle.quic_link.specs.Endpoints.{limits_of}
use Rattle.quic_steps.specs.declared.steps.End.{End}
use Rattle.quic_exchange.specs.Sent.{Sent}
use Rattle.quic_exchange.specs.From.{end_begun}
use Rattle.quic_exchange.specs.Tale.{Tale, tale_begun, with_limits_given}
use Rattle.quic_progress.proofs.Permissions.{Permission, AllData, DataOn, StreamsOf, limit_in, next_limit_in, announced_of}
use Rattle.quic_progress.proofs.Tracked.{Which, Tracks, IsEndTracked}
use Rattle.quic_progress.proofs.Owing.{OwesData, OwesCount}
use Rattle.quic_progress.proofs.OwingSteps.{Owing}

-- the halves of an end that was just made are new
either_new : (window : ℕ) (P : Option Half → Type 0) (b c : Bool) → P None → P (Some (new_half window)) → P (if b then Some (new_half window) else (if c then Some (new_half window) else None))
either_new window P true c none new = new
either_new window P false true none new = new
either_new window P false false none new = none

new_halves : (m : Made) (P : Option Half → Type 0) (q : ℕ) → P None → P (Some (new_half m.window)) → P ((start m).receive q)
unfolding with_first
new_halves m P q none new = either_new m.window P (is_among (other_side m.side) Uni m.uni.max_remote q) (is_among (other_side m.side) Bi m.bi.max_remote q) none new

first_all : (m : Made) (local : Bool) (d : Dir) → first_for local d (first_of (limits_of m)) ≡ m.window
first_all m local Uni = refl
first_all m true Bi = refl
first_all m false Bi = refl

-- its peer knows so much of what an end is made with
pub record IsKnown (some : Which) (who : End) (m : Made) (t : Tale) : Type 0 where
  pub small : m.window < 2 ^ 62
  pub within : m.credit.sent_max_data ≤ max_data_of m.credit
  pub firsts : (id : ℕ) → some who (DataOn id) ≡ true → m.window ≤ (t.flow id).limit
  pub whole : some who AllData ≡ true → m.credit.sent_max_data ≤ t.limit
  pub counts : (d : Dir) → some who (StreamsOf d) ≡ true → (remote_of (start m) d).sent_max_remote ≤ t.count d

-- an end that is made with windows and counts alone: it announced them
known_with : (some : Which) (who : End) (side : Side) (uni bi send_window receive_window window : ℕ) (t : Tale) → receive_window < 2 ^ 62 → window < 2 ^ 62 → ((id : ℕ) → some who (DataOn id) ≡ true → window ≤ (t.flow id).limit) → (some who AllData ≡ true → receive_window ≤ t.limit)
    → (some who (StreamsOf Bi) ≡ true → bi ≤ t.count Bi) → (some who (StreamsOf Uni) ≡ true → uni ≤ t.count Uni) → IsKnown some who (made_with side uni bi send_window receive_window window) t
known_with some who side uni bi send_window receive_window window t large small firsts whole of_bi of_uni = record { small = small; within = omega (arith, large); firsts = firsts; whole = whole; counts = counts }
  where
    counts : (d : Dir) → some who (StreamsOf d) ≡ true → (remote_of (start (made_with side uni bi send_window receive_window window)) d).sent_max_remote ≤ t.count d
    counts Bi on = of_bi on
    counts Uni on = of_uni on

module _ (some : Which) (who : End) (side : Side) (uni bi send_window receive_window window : ℕ) (large : receive_window < 2 ^ 62) (small : window < 2 ^ 62) where
  abbrev made : Made
  made = made_with side uni bi send_window receive_window window

  -- the peer begins with these limits
  pub known-first : (other : Side) (other_window : ℕ) → IsKnown some who (made_with side uni bi send_window receive_window window) (tale_begun other other_window (limits_of (made_with side uni bi send_window receive_window window)))
  known-first other other_window = known_with some who side uni bi send_window receive_window window _ large small (λ id on. let f = first_all (made_with side uni bi send_window receive_window window) (is_local other id) (dir_of id) in omega (arith, f)) (λ on. omega arith) (λ on. omega arith) (λ on. omega arith)

  -- or is given them beside others
  pub known-given : (other : Side) (t : Tale) → IsKnown some who (made_with side uni bi send_window receive_window window) (with_limits_given other (limits_of (made_with side uni bi send_window receive_window window)) t)
  known-given other t = known_with some who side uni bi send_window receive_window window _ large small (λ id on. let f = first_all (made_with side uni bi send_window receive_window window) (is_local other id) (dir_of id) in omega (arith, f)) (λ on. omega arith) (λ on. omega arith) (λ on. omega arith)

  -- of an end of which nothing is to be known
  pub known-none : (t : Tale) → ((k : Permission) → some who k ≡ false) → IsKnown some who (made_with side uni bi send_window receive_window window) t
  known-none t off = known_with some who side uni bi send_window receive_window window t large small (λ id on. let z = sym (off (DataOn id)) ∙ on in cc) (λ on. let z = sym (off AllData) ∙ on in cc) (λ on. let z = sym (off (StreamsOf Bi)) ∙ on in cc) (λ on. let z = sym (off (StreamsOf Uni)) ∙ on in cc)

  -- what it permits is what it announced
  pub owes-first : (limits : PeerLimits) → OwesData (end_begun (made_with side uni bi send_window receive_window window) limits) × ((d : Dir) → OwesCount d (end_begun (made_with side uni bi send_window receive_window window) limits))
  owes-first limits = (inr (inr (omega arith)), λ d. inr (of_dir d))
    where
      of_dir : (d : Dir) → (remote_of (end_begun (made_with side uni bi send_window receive_window window) limits).streams d).max_remote ≤ (remote_of (end_begun (made_with side uni bi send_window receive_window window) limits).streams d).sent_max_remote + (remote_of (end_begun (made_with side uni bi send_window receive_window window) limits).streams d).max_concurrent / 8
      of_dir Bi = omega arith
      of_dir Uni = omega arith

module _ {some : Which} (who : End) (m : Made) (limits : PeerLimits) (sent : List Sent) where
  pub begun-tracked : (t : Tale) → IsKnown some who m t → IsEndTracked some who (end_begun m limits) t sent
  begun-tracked t n = record {
    within = record {
      small = n.small;
      whole = n.within;
      halves = λ q. let s = n.small in new_halves m (λ o. limit_in o ≤ next_limit_in m.window o) q (omega arith) (omega (arith, s));
    };
    firsts = n.firsts;
    tracks = tracks;
  }
    where
      counts_at : (d : Dir) → some who (StreamsOf d) ≡ true → (remote_of (end_begun m limits).streams d).sent_max_remote ≤ t.count d
      counts_at Bi on = n.counts Bi on
      counts_at Uni on = n.counts Uni on

      tracks : (k : Permission) → some who k ≡ true → Tracks k (announced_of k (end_begun m limits).streams) (end_begun m limits) t sent who
      tracks AllData on = inr (inl (n.whole on))
      tracks (DataOn id) on = inl (new_halves m (λ o. limit_in o ≤ m.window) id (omega arith) (omega arith))
      tracks (StreamsOf d) on = inr (inl (counts_at d on))

  pub begun-owing : (some who AllData ≡ true → OwesData (end_begun m limits)) → ((d : Dir) → some who (StreamsOf d) ≡ true → OwesCount d (end_begun m limits)) → Owing some (end_begun m limits) sent who
  begun-owing whole counts = record { whole = whole; windows = λ id. inr (near_window id); counts = λ d on. inl (counts d on) }
    where
      near_window : (q : ℕ) → next_limit_in m.window ((start m).receive q) ≤ limit_in ((start m).receive q) + m.window / 8
      near_window q = new_halves m (λ o. next_limit_in m.window o ≤ limit_in o + m.window / 8) q (omega arith) (omega arith)
