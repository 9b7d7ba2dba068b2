-- What the frames beside STREAM that an end writes leave as it was.
use Rattle.std.proofs.Common.{◌≡◌, ℕ, Bool, true, false, eqb, Option, Some, None, refl, sym, ap, subst, arith, List, ◌∷◌, is_some, ◌∙◌, ◌+◌, ◌-◌, ◌≤◌}
use Rattle.std.specs.Prelude.{max, ◌==◌, if◌then◌else◌}
use Rattle.std.specs.Option.{option_map}
use Rattle.quic_values.specs.declared.ids.Dir.{Dir}
use Rattle.quic_values.specs.declared.ids.Dir.TheVariants.{Bi, Uni}
use Rattle.quic_wire.specs.declared.frame.Frame.{Frame}
use Rattle.quic_wire.specs.declared.frame.Frame.TheVariants as frames
use Rattle.quic_sending.specs.declared.send.Send.{Send}
use Rattle.quic_limits.specs.SendingCredit.{is_blocked_reported}
use Rattle.quic_outgoing.specs.Calls.{blocked_limit}
use Rattle.quic_limits.specs.Credit.{Credit, announced}
use Rattle.quic_limits.specs.Remote.{Remote, streams_announced}
use Rattle.quic_receiving.specs.Half.{Half, is_open, window_end}
use Rattle.quic_retransmits.specs.Pending.{Pending}
use Rattle.quic_history.specs.Halves.{with_half}
use Rattle.quic_history.specs.World.{World, id_refusal, remote_of, with_remote, with_receive}
use Rattle.quic_history.specs.History.{Event, LeftPending, Trace, WasAnnounced, HalfFrom, StreamFrom, CreditFrom, Facts, Goes, trace, moved, consumed, last_window, debt, received}
use Rattle.quic_history.specs.declared.control.ControlKind.{ControlKind}
use Rattle.quic_history.specs.declared.control.ControlKind.TheVariants as kinds
use Rattle.quic_history.specs.Control.{SettlesEntry, after_announced, with_announced, window_frame, reset_frame}
use Rattle.quic_history.proofs.Credits.{credit-same}
use Rattle.quic_history.proofs.Refusals.{refusal-same}
use Rattle.quic_history.proofs.Remotes.{AllRemotes, SameLimits, remotes-idle, limits-refl}
use Rattle.quic_history.proofs.StreamSteps.{AllFrom, all-same, all-remote}
use Rattle.quic_history.proofs.Totals.{by_cases, same}
use Rattle.quic_history.proofs.Traces.{itself, received-kept}

-- what was announced is all that changed
pub record Announces (u v : World) : Type 0 where
  pub out : v.out ≡ u.out
  pub window : v.window ≡ u.window
  pub queue : v.queue ≡ u.queue
  pub reported : v.bi.next_reported ≡ u.bi.next_reported
  pub count : v.send_streams ≡ u.send_streams
  pub credit_window : v.credit.receive_window ≡ u.credit.receive_window
  pub credit_limit : v.credit.local_max_data ≡ u.credit.local_max_data
  pub credit_came : v.credit.data_recvd ≡ u.credit.data_recvd
  pub credit_debt : v.credit.shrink_debt ≡ u.credit.shrink_debt
  pub limits : (d : Dir) → SameLimits (remote_of u d) (remote_of v d)

announces_none : (u : World) → Announces u u
announces_none u = record { out = refl; window = refl; queue = refl; reported = refl; count = refl; credit_window = refl; credit_limit = refl; credit_came = refl; credit_debt = refl; limits = λ d. limits-refl (remote_of u d) }

announces_at : (u v w : World) → v ≡ w → Announces u w → Announces u v
announces_at u v w e s = let P : World → Type 0 = λ x. Announces u x in subst P (sym e) s

announces_credit : (u : World) → Announces u (record u { credit = announced u.credit })
announces_credit u = record {
  out = refl;
  window = refl;
  queue = refl;
  reported = refl;
  count = refl;
  credit_window = refl;
  credit_limit = refl;
  credit_came = refl;
  credit_debt = refl;
  limits = both;
}
  where
    both : (d : Dir) → SameLimits (remote_of u d) (remote_of (record u { credit = announced u.credit }) d)
    both Bi = limits-refl u.bi
    both Uni = limits-refl u.uni

announces_streams : (u : World) (e : Dir) → Announces u (with_remote u e (streams_announced (remote_of u e)))
announces_streams u Bi = record {
  out = refl;
  window = refl;
  queue = refl;
  reported = refl;
  count = refl;
  credit_window = refl;
  credit_limit = refl;
  credit_came = refl;
  credit_debt = refl;
  limits = both;
}
  where
    both : (d : Dir) → SameLimits (remote_of u d) (remote_of (with_remote u Bi (streams_announced u.bi)) d)
    both Bi = record { max = refl; allocated = refl; concurrent = refl; opened = λ k. k; accepted = λ k. k }
    both Uni = limits-refl u.uni
announces_streams u Uni = record {
  out = refl;
  window = refl;
  queue = refl;
  reported = refl;
  count = refl;
  credit_window = refl;
  credit_limit = refl;
  credit_came = refl;
  credit_debt = refl;
  limits = both;
}
  where
    both : (d : Dir) → SameLimits (remote_of u d) (remote_of (with_remote u Uni (streams_announced u.uni)) d)
    both Bi = limits-refl u.bi
    both Uni = record { max = refl; allocated = refl; concurrent = refl; opened = λ k. k; accepted = λ k. k }

kept_at : (n n' : ℕ) (t : Trace) (r r' : Option ℕ) (o o' : Option Half) → n' ≡ n → r' ≡ r → o' ≡ o → StreamFrom n t r o → StreamFrom n' t r' o'
kept_at n n' t r r' o o' w e l s = rw (w, e, l) s

announces_half : (u : World) (id : ℕ) (h : Half) → u.receive id ≡ Some h → Announces u (record u { receive = with_half u.receive id (Some (with_announced u.window h)) })
unfolding with_half
announces_half u id h e = record {
  out = refl;
  window = refl;
  queue = refl;
  reported = refl;
  count = refl;
  credit_window = refl;
  credit_limit = refl;
  credit_came = refl;
  credit_debt = refl;
  limits = both;
}
  where
    both : (d : Dir) → SameLimits (remote_of u d) (remote_of (record u { receive = with_half u.receive id (Some (with_announced u.window h)) }) d)
    both Bi = limits-refl u.bi
    both Uni = limits-refl u.uni

announces_window : (u : World) (id : ℕ) (o : Option Half) → u.receive id ≡ o → Announces u (record u { receive = after_announced u.receive u.window id o })
announces_window u id None e = announces_none u
announces_window u id (Some h) e = announces_half u id h e

pub announces : (k : ControlKind) (u : World) (p : Pending) (o : Option Frame) (v : World) (q : Pending) → SettlesEntry k u p o v q → Announces u v
announces kinds.ResetStream u p o v q s = announces_at u v u s.end (announces_none u)
announces kinds.StopSending u p o v q s = announces_at u v u s.end (announces_none u)
announces kinds.MaxData u p o v q s = announces_at u v _ s.end (announces_credit u)
announces kinds.MaxStreamData u p o v q s = announces_at u v _ s.end (announces_window u s.id (u.receive s.id) refl)
announces (kinds.MaxStreams d) u p o v q s = announces_at u v _ s.end (announces_streams u d)
announces kinds.DataBlocked u p o v q s = announces_at u v u s.end (announces_none u)
announces kinds.StreamDataBlocked u p o v q s = announces_at u v u s.end (announces_none u)

credit_moved : (window used owed came : ℕ) (c c' : Credit) → c'.receive_window ≡ c.receive_window → c'.local_max_data ≡ c.local_max_data → c'.data_recvd ≡ c.data_recvd → c'.shrink_debt ≡ c.shrink_debt
    → CreditFrom window used owed came c → CreditFrom window used owed came c'
credit_moved window used owed came c c' w l r d f = record {
  receive_window = w ∙ f.receive_window;
  debt = d ∙ f.debt;
  debt_fits = rw d f.debt_fits;
  limit = l ∙ f.limit;
  received = r ∙ f.received;
  permitted = rw l f.permitted;
  unread = f.unread;
}

-- ---- what it leaves is true of the end as before

-- a half whose limit is announced, and what is told of it
half_told : (n : ℕ) (t : Trace) (limit : ℕ) (h : Half) → HalfFrom n t h → HalfFrom n (record t { announced = max t.announced limit }) (record h { sent_max = max h.sent_max limit })
half_told n t limit h k = record {
  high = k.high;
  read = k.read;
  sized = k.sized;
  stopped = k.stopped;
  reset = k.reset;
  there = k.there;
  final = k.final;
  within = k.within;
  limit = raised h.sent_max n t.announced limit k.limit;
  holds = k.holds;
}
  where
    raised : (s n a limit : ℕ) → s ≡ max n a → max s limit ≡ max n (max a limit)
    raised s n a limit e = omega arith

stream_told : (n : ℕ) (t : Trace) (r : Option ℕ) (limit : ℕ) (h : Half) → StreamFrom n t r (Some h) → StreamFrom n (record t { announced = max t.announced limit }) r (Some (record h { sent_max = max h.sent_max limit }))
stream_told n t None limit h k = half_told n t limit h k
stream_told n t (Some error) limit h k = absurd k

-- MAX_STREAM_DATA of a stream was written: which half it announced a limit of
record AnnouncesLimit (u : World) (id limit : ℕ) (v : World) : Type 0 where
  pub half : Half
  pub held : u.receive id ≡ Some half
  pub is : v ≡ record u { receive = with_half u.receive id (Some (record half { sent_max = max half.sent_max limit })) }

limit_of : (u : World) (k id limit : ℕ) (o : Option Half) (v : World) → u.receive k ≡ o → Some (frames.MaxStreamData id limit) ≡ window_frame u.window k o
    → v ≡ record u { receive = after_announced u.receive u.window k o } → AnnouncesLimit u id limit v
limit_of u k id limit None v e f is = cc
limit_of u k id limit (Some half) v e f is = by_test (is_open half) refl f is
  where
    by_test : (b : Bool) → is_open half ≡ b → Some (frames.MaxStreamData id limit) ≡ option_map (frames.MaxStreamData k) (if b then Some (window_end half u.window) else None)
        → v ≡ record u { receive = with_half u.receive k (Some (if b then record half { sent_max = max half.sent_max (window_end half u.window) } else half)) } → AnnouncesLimit u id limit v
    by_test false t g is = cc
    by_test true t g is =
        let is_id : k ≡ id = cc in
        let is_limit : window_end half u.window ≡ limit = cc in
        record {
          half = half;
          held = ap u.receive (sym is_id) ∙ e;
          is = is ∙ ap (λ n. record u { receive = with_half u.receive k (Some (record half { sent_max = max half.sent_max n })) }) is_limit
              ∙ ap (λ n. record u { receive = with_half u.receive n (Some (record half { sent_max = max half.sent_max limit })) }) is_id;
        }

-- no other kind is written as MAX_STREAM_DATA
not_reset : (i c id limit : ℕ) (o : Option Send) → Some (frames.MaxStreamData id limit) ≡ reset_frame i c o → ⊥
not_reset i c id limit None e = cc
not_reset i c id limit (Some s) e = cc

not_if : (b : Bool) (n id limit : ℕ) → Some (frames.MaxStreamData id limit) ≡ (if b then Some (frames.DataBlocked n) else None) → ⊥
not_if true n id limit e = cc
not_if false n id limit e = cc

not_blocked : (i id limit : ℕ) (o : Option ℕ) → Some (frames.MaxStreamData id limit) ≡ option_map (frames.StreamDataBlocked i) o → ⊥
not_blocked i id limit None e = cc
not_blocked i id limit (Some n) e = cc

announces_limit : (k : ControlKind) (u : World) (p : Pending) (id limit : ℕ) (v : World) (q : Pending) → SettlesEntry k u p (Some (frames.MaxStreamData id limit)) v q → AnnouncesLimit u id limit v
announces_limit kinds.ResetStream u p id limit v q s = absurd (not_reset s.id s.code id limit (u.out.halves s.id) s.frame)
announces_limit kinds.StopSending u p id limit v q s = let e = s.frame in cc
announces_limit kinds.MaxData u p id limit v q s = let e = s.frame in cc
announces_limit kinds.MaxStreamData u p id limit v q s = limit_of u s.id id limit (u.receive s.id) v refl s.frame s.end
announces_limit (kinds.MaxStreams d) u p id limit v q s = let e = s.frame in cc
announces_limit kinds.DataBlocked u p id limit v q s = absurd (not_if (is_blocked_reported u.out.budget) u.out.budget.max_data id limit s.frame)
announces_limit kinds.StreamDataBlocked u p id limit v q s = absurd (not_blocked s.id id limit (blocked_limit (u.out.halves s.id)) s.frame)

told_limit : (f : ℕ → Trace) (u : World) (id limit : ℕ) (v : World) → AnnouncesLimit u id limit v → AllFrom f u → AllFrom (λ q. moved (Some (id, WasAnnounced limit)) q (f q)) v
unfolding with_half
told_limit f u id limit v s a =
    let P : World → Type 0 = λ x. AllFrom (λ q. moved (Some (id, WasAnnounced limit)) q (f q)) x in
    subst P (sym s.is) (λ q. by_cases (eqb q id) (here q) (there q))
  where
    w : World
    w = record u { receive = with_half u.receive id (Some (record s.half { sent_max = max s.half.sent_max limit })) }

    here : (q : ℕ) → eqb q id ≡ true → StreamFrom u.window (moved (Some (id, WasAnnounced limit)) q (f q)) (id_refusal w q) (w.receive q)
    here q t =
        let at : StreamFrom u.window (f q) (id_refusal u q) (Some s.half) = rw (ap u.receive (same q id t) ∙ s.held) at (a q) in
        rw (t, refusal-same w u q refl refl refl refl) (stream_told u.window (f q) (id_refusal u q) limit s.half at)

    there : (q : ℕ) → eqb q id ≡ false → StreamFrom u.window (moved (Some (id, WasAnnounced limit)) q (f q)) (id_refusal w q) (w.receive q)
    there q n = rw n (kept_at u.window u.window (f q) (id_refusal u q) (id_refusal w q) (u.receive q) (u.receive q) refl (refusal-same w u q refl refl refl refl) refl (a q))

-- ---- any other frame, or none

abbrev limit_in : Option Frame → Option (ℕ × ℕ)
limit_in (Some (frames.MaxStreamData id limit)) = Some (id, limit)
limit_in _ = None

all_at : (f : ℕ → Trace) (u v : World) → v ≡ u → AllFrom f u → AllFrom f v
all_at f u v e a = let P : World → Type 0 = λ x. AllFrom f x in subst P (sym e) a

same_half : (f : ℕ → Trace) (u : World) (id : ℕ) (half : Half) → u.receive id ≡ Some half → AllFrom f u → AllFrom f (record u { receive = with_half u.receive id (Some half) })
unfolding with_half
same_half f u id half e a q = by_cases (eqb q id)
    (λ t. rw t (kept_at u.window u.window (f q) (id_refusal u q) (id_refusal v q) (u.receive q) (Some half) refl (refusal-same v u q refl refl refl refl) (sym (ap u.receive (same q id t) ∙ e)) (a q)))
    (λ n. rw n (kept_at u.window u.window (f q) (id_refusal u q) (id_refusal v q) (u.receive q) (u.receive q) refl (refusal-same v u q refl refl refl refl) refl (a q)))
  where
    v : World
    v = record u { receive = with_half u.receive id (Some half) }

kept_window : (f : ℕ → Trace) (u : World) (k : ℕ) (o : Option Half) (frame : Option Frame) (v : World) → u.receive k ≡ o → frame ≡ window_frame u.window k o
    → v ≡ record u { receive = after_announced u.receive u.window k o } → limit_in frame ≡ None → AllFrom f u → AllFrom f v
kept_window f u k None frame v e g is none a = all_at f u v is a
kept_window f u k (Some half) frame v e g is none a = by_test (is_open half) g is
  where
    by_test : (b : Bool) → frame ≡ option_map (frames.MaxStreamData k) (if b then Some (window_end half u.window) else None)
        → v ≡ record u { receive = with_half u.receive k (Some (if b then record half { sent_max = max half.sent_max (window_end half u.window) } else half)) } → AllFrom f v
    by_test true g is = absurd (let there : limit_in frame ≡ Some (k, window_end half u.window) = ap limit_in g in cc)
    by_test false g is = all_at f (record u { receive = with_half u.receive k (Some half) }) v is (same_half f u k half e a)

all_credit : (f : ℕ → Trace) (u : World) → AllFrom f u → AllFrom f (record u { credit = announced u.credit })
all_credit f u a = all-same f u (record u { credit = announced u.credit }) refl (λ q. refusal-same (record u { credit = announced u.credit }) u q refl refl refl refl) (λ q. refl) a

all_streams : (f : ℕ → Trace) (u : World) (d : Dir) → AllFrom f u → AllFrom f (with_remote u d (streams_announced (remote_of u d)))
all_streams f u d a = all-remote f d u (streams_announced (remote_of u d)) refl a

streams_kept : (k : ControlKind) (u : World) (p : Pending) (o : Option Frame) (v : World) (q : Pending) → SettlesEntry k u p o v q → limit_in o ≡ None → (f : ℕ → Trace) → AllFrom f u → AllFrom f v
streams_kept kinds.ResetStream u p o v q s none f a = all_at f u v s.end a
streams_kept kinds.StopSending u p o v q s none f a = all_at f u v s.end a
streams_kept kinds.MaxData u p o v q s none f a = all_at f _ v s.end (all_credit f u a)
streams_kept kinds.MaxStreamData u p o v q s none f a = kept_window f u s.id (u.receive s.id) o v refl s.frame s.end none a
streams_kept (kinds.MaxStreams d) u p o v q s none f a = all_at f _ v s.end (all_streams f u d a)
streams_kept kinds.DataBlocked u p o v q s none f a = all_at f u v s.end a
streams_kept kinds.StreamDataBlocked u p o v q s none f a = all_at f u v s.end a

credit_settled : (begun : Credit) (h : List Event) (u v : World) → Facts begun h u → Announces u v → CreditFrom (last_window begun h) (consumed h) (debt begun h) (received h) v.credit
credit_settled begun h u v f s = credit_moved _ _ _ _ u.credit v.credit s.credit_window s.credit_limit s.credit_came s.credit_debt f.credit

facts_idle : (begun : Credit) (h : List Event) (u v : World) → Facts begun h u → Announces u v → (n : ℕ) → n ≡ received h → CreditFrom (last_window begun h) (consumed h + 0) (debt begun h - 0) n v.credit
facts_idle begun h u v f s n e = credit-same (last_window begun h) (consumed h) (debt begun h) (received h) _ _ _ v.credit (omega arith) (omega arith) e (credit_settled begun h u v f s)

pub facts-settled : (begun : Credit) (h : List Event) (k : ControlKind) (o : Option Frame) (u v : World) (p q : Pending) → Facts begun h u → SettlesEntry k u p o v q → Facts begun (LeftPending k o ∷ h) v
facts-settled begun h k (Some (frames.MaxStreamData id limit)) u v p q f s =
    let limit_told = announces_limit k u p id limit v q s in
    record {
      credit = facts_idle begun h u v f (announces k u p _ v q s) (received (LeftPending k (Some (frames.MaxStreamData id limit)) ∷ h))
          (received-kept h (trace (LeftPending k (Some (frames.MaxStreamData id limit)) ∷ h)) id (λ j n. rw n refl) (rw (itself id) refl));
      streams = told_limit (trace h) u id limit v limit_told f.streams;
    }
facts-settled begun h k o u v p q f s = let a = announces k u p o v q s in record {
  credit = facts_idle begun h u v f a (received h) refl;
  streams = streams_kept k u p o v q s refl (trace h) f.streams;
}

-- nothing is freed by it
gone_settled : (h : List Event) (k : ControlKind) (o : Option Frame) (q : ℕ) → (trace (LeftPending k o ∷ h) q).gone ≡ (trace h q).gone
gone_settled h k (Some (frames.MaxStreamData id limit)) q = by_test (q == id)
  where
    by_test : (b : Bool) → (if b then record (trace h q) { announced = max (trace h q).announced limit } else trace h q).gone ≡ (trace h q).gone
    by_test true = refl
    by_test false = refl
gone_settled h k o q = refl

pub remotes-settled : (at_once b : Dir → ℕ) (h : List Event) (k : ControlKind) (o : Option Frame) (u v : World) → Announces u v → AllRemotes at_once b (trace h) u → AllRemotes at_once b (trace (LeftPending k o ∷ h)) v
remotes-settled at_once b h k o u v s x =
    remotes-idle at_once b (trace h) (trace (LeftPending k o ∷ h)) u v (λ q. gone_settled h k o q) (record { side = ap (λ o. o.side) s.out; sends = ap (λ o q. is_some (o.halves q)) s.out; limits = s.limits }) x

pub goes-settled : (u v : World) → Announces u v → Goes u v
goes-settled u v s = record { side = ap (λ o. o.side) s.out; window = s.window; limit = omega (arith, s.credit_limit) }
