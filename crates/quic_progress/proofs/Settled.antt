-- Once a settling ended, each end knows what the other permits but for an eighth.
use Rattle.std.proofs.Common.{◌≡◌, ◌⊎◌, ℕ, Bool, true, false, length, Some, None, refl, sym, ap, ◌∙◌, subst, inl, inr, arith, ◌≤◌, ◌<◌, ◌+◌, ◌-◌, ◌/◌, ◌^◌}
use Rattle.std.specs.Prelude.{min, max, slice_get, if◌then◌else◌}
use Rattle.std.proofs.lemmas.Option.{none-some}
use Rattle.quic_values.specs.declared.ids.Dir.{Dir}
use Rattle.quic_sending.specs.Buffer.{total_length}
use Rattle.quic_receiving.specs.Half.{Half, window_end}
use Rattle.quic_history.specs.Flows.{room_on}
use Rattle.quic_history.specs.World.{World, remote_of}
use Rattle.quic_history.specs.declared.control.ControlKind.TheVariants as kinds
use Rattle.quic_history.specs.History.{RemoteFrom}
use Rattle.quic_history.proofs.Histories.{permits-now}
use Rattle.quic_streams.specs.declared.settling.SentPayload.{SentPayload}
use Rattle.quic_steps.specs.declared.steps.End.{End}
use Rattle.quic_steps.specs.declared.steps.End.TheVariants.{A, B}
use Rattle.quic_exchange.specs.Sent.{Sent}
use Rattle.quic_exchange.specs.State.{PairState, peer, the_end}
use Rattle.quic_exchange.specs.History.{History}
use Rattle.quic_exchange.specs.From.{Beginning, PairFrom}
use Rattle.quic_exchange.specs.Runs.{sendings_of}
use Rattle.quic_exchange.specs.Tale.{Tale, Tales, Told}
use Rattle.quic_exchange.specs.Settling.{IsIdle, AreIdle, AreSettledIn}
use Rattle.quic_exchange.proofs.Lists.{slice_get-within}
use Rattle.quic_exchange.proofs.ToldOnce.{told-once}
use Rattle.quic_progress.specs.Progress.{IsAgreed, ForgetsNone, OwesNoDebt, CanBeTold, TakesMore, IsReadOn, KnowsAnnounced, KnowsPermitted, IsAllRead, MayGoOn, KnowsLimits, KnowLimits, KnowsStreams, KnowMost}
use Rattle.quic_progress.proofs.Permissions.{Permission, AllData, DataOn, StreamsOf, is_asked, limit_in, next_limit_in, announced_of, unannounced}
use Rattle.quic_progress.proofs.Grows.{IsTold}
use Rattle.quic_progress.proofs.Tracked.{Which, UnderWay, IsTracked}
use Rattle.quic_progress.proofs.Owing.{IsExempt, IsNear}
use Rattle.quic_progress.proofs.OwingAll.{AreOwing}
use Rattle.quic_progress.proofs.Course.{HasRejectedAsMade, Remembers, Course, course-known, course-from, agreed-waits}
use Rattle.quic_progress.proofs.Unset.{rejected-unset}

both_differ : (b : Bool) → b ≡ true → b ≡ false → ⊥
both_differ true e d = cc
both_differ false e d = cc

-- ---- numbers

room_left : (window x written limit enforced : ℕ) → enforced ≤ limit + x → written + window ≤ enforced → window - x ≤ limit - written
room_left window x written limit enforced a b = omega (arith, a, b)

eighth_less : (n : ℕ) → 0 < n → n / 8 < n
eighth_less n l = omega (arith, l)

opens_one : (at_once allocated most freed before count opened : ℕ) → allocated + freed ≡ most → most ≡ max before (min (at_once + freed) (2 ^ 60)) → opened + allocated ≤ most → most < 2 ^ 60 → most ≤ count + at_once / 8 → at_once / 8 < at_once → opened < count
opens_one at_once allocated most freed before count opened a p o few near l = omega (arith, a, p, o, few, near, l)

-- ---- the end of a settling

module _ {some owes : Which} (v : PairState) (t : Tales) (idle : AreIdle v) (settled : AreSettledIn 0 (length v.sent) v.sent) (tracked : IsTracked some v t) (owing : AreOwing owes v) where
  idle_at : (who : End) → IsIdle (the_end v who)
  idle_at A = idle.of_a
  idle_at B = idle.of_b

  none_asked : (who : End) (k : Permission) → is_asked k (the_end v who).pending ≡ true → ⊥
  none_asked who AllData e = both_differ (the_end v who).pending.max_data e ((idle_at who).kinds kinds.MaxData)
  none_asked who (DataOn id) e = both_differ ((the_end v who).pending.max_stream_data id) e ((idle_at who).kinds kinds.MaxStreamData id)
  none_asked who (StreamsOf d) e = both_differ _ e ((idle_at who).kinds (kinds.MaxStreams d))

  none_left : (number : ℕ) (s : Sent) (rest : SentPayload) → slice_get v.sent number ≡ Some s → s.unsettled.rest ≡ Some rest → ⊥
  none_left number s rest is left = none-some rest (sym (settled number s (omega arith) (slice_get-within v.sent number s is) is) ∙ left)

  none_way : (who : End) (k : Permission) (n : ℕ) → UnderWay k n v.sent who → ⊥
  none_way who k n w = none_left w.number w.payload w.rest w.is w.rest_is

  first_told : (who : End) (k : Permission) → some who k ≡ true → announced_of k (the_end v who).streams ≤ unannounced k (the_end v who).streams → IsTold k (announced_of k (the_end v who).streams) (t.of (peer who))
  first_told who AllData on l = omega (arith, l)
  first_told who (DataOn id) on l = λ takes. let f = tracked.firsts who id on in omega (arith, l, f)
  first_told who (StreamsOf d) on l = omega (arith, l)

  told : (who : End) (k : Permission) → some who k ≡ true → IsTold k (announced_of k (the_end v who).streams) (t.of (peer who))
  told who k on = elim (tracked.tracks who k on) [
    | inl none ↦ first_told who k on none
    | inr (inl is) ↦ is
    | inr (inr (inl asked)) ↦ absurd (none_asked who k asked)
    | inr (inr (inr w)) ↦ absurd (none_way who k _ w)
  ]

  near_data : (who : End) → owes who AllData ≡ true → IsExempt (the_end v who).streams.credit ⊎ IsNear AllData (the_end v who).streams
  near_data who on = elim ((owing who).whole on) [ inl exempt ↦ inl exempt | inr (inl asked) ↦ absurd (none_asked who AllData asked) | inr (inr near) ↦ inr near ]

  near_window : (who : End) (id : ℕ) → IsNear (DataOn id) (the_end v who).streams
  near_window who id = elim ((owing who).windows id) [ inl asked ↦ absurd (none_asked who (DataOn id) asked) | inr near ↦ near ]

  near_count : (who : End) (d : Dir) → owes who (StreamsOf d) ≡ true → IsNear (StreamsOf d) (the_end v who).streams
  near_count who d on = elim ((owing who).counts d on) [
    | inl (inl asked) ↦ absurd (none_asked who (StreamsOf d) asked)
    | inl (inr near) ↦ near
    | inr half ↦ absurd (none_left half.number half.payload half.rest half.is half.rest_is)
  ]

  -- ---- as an end reads what the other writes

  module _ (who : End) where
    abbrev w : World
    w = (the_end v who).streams

    abbrev tale : Tale
    tale = t.of (peer who)

    sent_is : (id : ℕ) (h : Half) → IsReadOn (the_end v who).streams id h → limit_in ((the_end v who).streams.receive id) ≡ h.sent_max
    sent_is id h r = ap limit_in r.held ∙ ap (λ b. if b then h.sent_max else 0) r.runs

    next_is : (id : ℕ) (h : Half) → IsReadOn (the_end v who).streams id h → next_limit_in (the_end v who).streams.window ((the_end v who).streams.receive id) ≡ window_end h (the_end v who).streams.window
    next_is id h r = ap (next_limit_in (the_end v who).streams.window) r.held ∙ ap (λ b. if b then window_end h (the_end v who).streams.window else 0) r.runs

    -- ---- streams

    module _ (of_streams : (id : ℕ) → some who (DataOn id) ≡ true) where
      announced_on : (id : ℕ) (h : Half) → IsReadOn (the_end v who).streams id h → TakesMore ((t.of (peer who)).flow id) → h.sent_max ≤ ((t.of (peer who)).flow id).limit
      announced_on id h r takes = let a = told who (DataOn id) (of_streams id) takes in let b = sent_is id h r in omega (arith, a, b)

      permitted_on : (id : ℕ) (h : Half) → IsReadOn (the_end v who).streams id h → TakesMore ((t.of (peer who)).flow id) → window_end h (the_end v who).streams.window ≤ ((t.of (peer who)).flow id).limit + (the_end v who).streams.window / 8
      permitted_on id h r takes =
          let a = told who (DataOn id) (of_streams id) takes in
          let b = next_is id h r in
          let n = near_window who id in
          omega (arith, a, b, n)

      stream_room : (id : ℕ) (h : Half) → IsReadOn (the_end v who).streams id h → TakesMore ((t.of (peer who)).flow id) → IsAllRead ((t.of (peer who)).flow id) h → CanBeTold (h.buffer.bytes_read + (the_end v who).streams.window)
          → (the_end v who).streams.window - (the_end v who).streams.window / 8 ≤ room_on ((t.of (peer who)).flow id)
      stream_room id h r takes read small =
          let l = permitted_on id h r takes in
          let whole : h.buffer.bytes_read + (the_end v who).streams.window ≤ ((t.of (peer who)).flow id).limit + (the_end v who).streams.window / 8 = omega (arith, l, small) in
          room_left (the_end v who).streams.window ((the_end v who).streams.window / 8) (total_length ((t.of (peer who)).flow id).cuts) ((t.of (peer who)).flow id).limit (h.buffer.bytes_read + (the_end v who).streams.window) whole (omega (arith, read))

      knows_streams : KnowsStreams (t.of (peer who)) (the_end v who).streams
      knows_streams = record { announced = announced_on; permitted = permitted_on; goes_on = stream_room }

    -- ---- all

    module _ (on : (k : Permission) → (some who k ≡ true) × (owes who k ≡ true)) where
      of_streams : (id : ℕ) → some who (DataOn id) ≡ true
      of_streams id = (on (DataOn id)).0

      announced : KnowsAnnounced (t.of (peer who)) (the_end v who).streams
      announced = record {
        connection = told who AllData (on AllData).0;
        streams = announced_on of_streams;
        counts = λ d. told who (StreamsOf d) (on (StreamsOf d)).0;
      }

      permitted_data : OwesNoDebt (the_end v who).streams.credit → CanBeTold (the_end v who).streams.credit.local_max_data → (the_end v who).streams.credit.local_max_data ≤ (t.of (peer who)).limit + (the_end v who).streams.credit.receive_window / 8
      permitted_data none small = elim (near_data who (on AllData).1) [
        | inl (inl owed) ↦ absurd (omega (arith, owed, none))
        | inl (inr big) ↦ absurd (omega (arith, big, small))
        | inr near ↦ (let a = told who AllData (on AllData).0 in omega (arith, near, a, small))
      ]

      permitted : KnowsPermitted (t.of (peer who)) (the_end v who).streams
      permitted = record {
        connection = permitted_data;
        streams = permitted_on of_streams;
        counts = λ d. let a = told who (StreamsOf d) (on (StreamsOf d)).0 in let n = near_count who d (on (StreamsOf d)).1 in omega (arith, a, n);
      }

      module _ (remotes : (d : Dir) → (at_once : ℕ) × (before : ℕ) × (over : ℕ → Bool) × RemoteFrom at_once before over (remote_of (the_end v who).streams d)) where
        goes_on : MayGoOn (t.of (peer who)) (the_end v who).streams
        goes_on = record {
          connection = λ none small consumed. room_left (the_end v who).streams.credit.receive_window ((the_end v who).streams.credit.receive_window / 8) (t.of (peer who)).written (t.of (peer who)).limit (the_end v who).streams.credit.local_max_data (permitted_data none small) consumed;
          streams = stream_room of_streams;
          opens = λ d some few none.
              let x = remotes d in
              let r = remote_of (the_end v who).streams d in
              opens_one r.max_concurrent r.allocated r.max_remote _ x.1 ((t.of (peer who)).count d) ((t.of (peer who)).opened d) x.3.allocated x.3.permitted none few (permitted.counts d) (eighth_less r.max_concurrent some);
        }

-- ---- whatever steps led to it

module _ {known : Bool} (s : Beginning) (h : History) (v : PairState) (f : PairFrom s h v) (c : Course known f) (decided : v.waits ≡ None) (idle : AreIdle v) (settled : AreSettledIn 0 (length v.sent) v.sent) where
  remotes : (who : End) (d : Dir) → (at_once : ℕ) × (before : ℕ) × (over : ℕ → Bool) × RemoteFrom at_once before over (remote_of (the_end v who).streams d)
  remotes who d = let k = c.recounted.counted who in (_, _, _, permits-now _ k.calls (the_end v who).streams k.from.run k.from.remotes d)

  knows_of : (who : End) → ((k : Permission) → (c.kept.tracks (peer who) k ≡ true) × (c.kept.owes (peer who) k ≡ true)) → KnowsLimits v c.recounted.tales who
  knows_of A on = record { announced = announced v c.recounted.tales idle settled c.tracked c.owing B on; permitted = permitted v c.recounted.tales idle settled c.tracked c.owing B on; goes_on = goes_on v c.recounted.tales idle settled c.tracked c.owing B on (remotes B) }
  knows_of B on = record { announced = announced v c.recounted.tales idle settled c.tracked c.owing A on; permitted = permitted v c.recounted.tales idle settled c.tracked c.owing A on; goes_on = goes_on v c.recounted.tales idle settled c.tracked c.owing A on (remotes A) }

  -- the client knows what the server permits
  client_knows : KnowsLimits v c.recounted.tales A
  client_knows = knows_of A (λ k. (c.kept.of_server decided k, c.kept.of_server_owed k))

  -- and the server what the client does, where nothing is forgotten
  know_now : known ≡ true → KnowLimits v c.recounted.tales
  know_now on A = client_knows
  know_now on B = knows_of B (λ k. c.kept.of_all on k)

  most_now : KnowMost v c.recounted.tales
  most_now = record { client = client_knows; server = knows_streams v c.recounted.tales idle settled c.tracked c.owing A c.kept.of_streams }

  pub streams-now : (who : End) → KnowsStreams (c.recounted.tales.of (peer who)) (the_end v who).streams
  streams-now A = most_now.server
  streams-now B = knows_streams v c.recounted.tales idle settled c.tracked c.owing B (λ id. c.kept.of_server decided (DataOn id))

-- where nothing is forgotten, it is decided what becomes of what the client sends early
pub forgets-agreed : (s : Beginning) (h : History) (v : PairState) → ForgetsNone s h v → IsAgreed s v
forgets-agreed s h v (inl early) = inl early
forgets-agreed s h v (inr k) = inr k.0

module _ (s : Beginning) (h : History) (v : PairState) (f : PairFrom s h v) (idle : AreIdle v) (settled : AreSettledIn 0 (length v.sent) v.sent) (t : Tales) (told : Told s (sendings_of f) t) where
  pub know-limits : ForgetsNone s h v → KnowLimits v t
  know-limits none =
      let decided = agreed-waits f (forgets-agreed s h v none) in
      let c = course-known true f (λ on. remembers none) decided in
      let P : Tales → Type 0 = λ x. KnowLimits v x in
      subst P (told-once s (sendings_of f) c.recounted.tales t c.told told) (know_now s h v f c decided idle settled refl)
    where
      remembers : ForgetsNone s h v → Remembers s (HasRejectedAsMade f)
      remembers (inl early) = inl early
      remembers (inr k) = inr (rejected-unset f k.1)

  pub know-most : IsAgreed s v → KnowMost v t
  know-most agreed =
      let decided = agreed-waits f agreed in
      let c = course-from f decided in
      let P : Tales → Type 0 = λ x. KnowMost v x in
      subst P (told-once s (sendings_of f) c.recounted.tales t c.told told) (most_now s h v f c decided idle settled)
