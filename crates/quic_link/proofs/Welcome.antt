-- No frame that an end wrote is refused by the other.
use Rattle.std.proofs.Common.{◌≡◌, ℕ, Bool, true, false, eqb, List, length, Option, Some, None, is_some, Ok, Err, refl, sym, ap, ◌∙◌, inl, inr, arith, ◌+◌, ◌-◌, ◌≤◌, ◌<◌, ◌^◌}
use Rattle.std.specs.Prelude.{◌&&◌, ◌||◌, not, nat_lt, nat_le, if◌then◌else◌}
use Rattle.std.proofs.lemmas.Bool.Decides.{nat_tests}
use Rattle.quic_values.specs.declared.ids.Dir.{Dir}
use Rattle.quic_values.specs.declared.ids.Dir.TheVariants.{Bi, Uni}
use Rattle.quic_values.specs.Ids.{dir_of, index_of}
use Rattle.quic_values.specs.Offsets.{is_past}
use Rattle.quic_wire.specs.declared.frame.Frame.{Frame}
use Rattle.quic_wire.specs.declared.frame.Frame.TheVariants as frames
use Rattle.quic_wire.specs.declared.frame.Stream.{Stream}
use Rattle.quic_wire.specs.declared.error.ReceiveError.TheVariants as receive_error
use Rattle.quic_wire.specs.declared.error.TransportError.{TransportError}
use Rattle.quic_wire.specs.Codes.{STREAM_LIMIT_ERROR, STREAM_STATE_ERROR, INTERNAL_ERROR}
use Rattle.quic_receiving.specs.Calls.{Ingests}
use Rattle.quic_history.specs.Receiving.{Receives, ReceivesReset}
use Rattle.quic_history.proofs.WorldSteps.{receive-there}
use Rattle.quic_history.specs.SendEvents.{RaisedCount, RaisedLimit}
use Rattle.quic_receiving.specs.Half.{Half, Verdict, Refused, Taken, verdict, verdict_by, verdict_of_limits, reset_verdict, is_unfit, is_beyond, final_size_error}
use Rattle.quic_outgoing.specs.Outgoing.{own_of}
use Rattle.quic_outgoing.specs.Senders.{is_local}
use Rattle.quic_history.specs.World.{World, is_own, remote_of, id_refusal, own_refusal}
use Rattle.quic_history.specs.Sends.{sending_refusal}
use Rattle.quic_history.specs.History.{Received, ReceivedReset, Sending, Trace, HalfFrom, trace, streams, received, with_stream, opened_in_all}
use Rattle.quic_history.proofs.StreamSteps.{half-from}
use Rattle.quic_history.proofs.Totals.{once_with, total_with, by_cases, same}
use Rattle.quic_history.proofs.Traces.{streams-once, quiet, itself}
use Rattle.quic_link.specs.Endpoints.{LinkedEnd, IsOneOf, sent_on, came_on}
use Rattle.quic_link.specs.Truths.{IsFrameTrue, IsTrueData, amount_on}
use Rattle.quic_link.specs.Promises.{IsWelcome, AreWelcome, TakesBlocked, IsCrowded, RefusesNone}
use Rattle.quic_link.proofs.Directed.{StopsBoth, MayBlock, BlocksOwn}
use Rattle.quic_link.proofs.Sums.{total-most}
use Rattle.quic_link.proofs.Rooms.{amount, sum-written}
use Rattle.quic_link.proofs.Opens.{OpenBy, OpenFrame, SendsOn, ReceivesOn, own-local, local-other, opened-is}
use Rattle.quic_link.proofs.Joint.{Agrees}

-- ---- ids

own_index : (own : Bool) (a b : Dir → ℕ) (id : ℕ) (d : Dir) → own ≡ true → dir_of id ≡ d → OpenBy own a b id → index_of id < a d
own_index true a b id d e k o = let n = ap a k in omega arith
own_index false a b id d e k o = cc

their_index : (own : Bool) (a b : Dir → ℕ) (id : ℕ) (d : Dir) → own ≡ false → dir_of id ≡ d → OpenBy own a b id → index_of id < b d
their_index true a b id d e k o = cc
their_index false a b id d e k o = let n = ap b k in omega arith

below : (a i n : ℕ) {X : Type 0} (e : X) → i < a → (if nat_le a i then Some e else None) ≡ None
below a i n e l = by_test (nat_le a i) (grind (arith, nat_tests))
  where
    by_test : (b : Bool) → b ≡ false → (if b then Some e else None) ≡ None
    by_test true k = cc
    by_test false k = refl

known_by : (w : World) (own : Bool) (d : Dir) (i : ℕ) → (own ≡ false → i < (remote_of w d).max_remote) → (own ≡ true → d ≡ Bi) → (own ≡ true → i < w.out.own_bi.opened)
    → (if own then own_refusal w d i else (if nat_le (remote_of w d).max_remote i then Some STREAM_LIMIT_ERROR else None)) ≡ None
known_by w true Bi i l b o = below w.out.own_bi.opened i 0 STREAM_STATE_ERROR (o refl)
known_by w true Uni i l b o = let k = b refl in cc
known_by w false d i l b o = below (remote_of w d).max_remote i 0 STREAM_LIMIT_ERROR (l refl)

told_by : (w : World) (own : Bool) (d : Dir) (i : ℕ) (o : Option ℕ) → (own ≡ true → i < (own_of w.out d).opened) → (own ≡ false → o ≡ None)
    → (if own then (if nat_le (own_of w.out d).opened i then Some STREAM_STATE_ERROR else None) else o) ≡ None
told_by w true d i o l k = below (own_of w.out d).opened i 0 STREAM_STATE_ERROR (l refl)
told_by w false d i o l k = k refl

not_true : (b : Bool) → not b ≡ true → b ≡ false
not_true true e = cc
not_true false e = refl

not_false : (b : Bool) → not b ≡ false → b ≡ true
not_false true e = refl
not_false false e = cc

-- ---- verdicts

neither : (a b c d : ℕ) → b ≤ a → d ≤ c → (nat_lt a b || nat_lt c d) ≡ false
neither a b c d l m = by_two (nat_lt a b) (nat_lt c d) (grind (arith, nat_tests)) (grind (arith, nat_tests))
  where
    by_two : (p q : Bool) → p ≡ false → q ≡ false → (p || q) ≡ false
    by_two p q e k = rw (e, k) refl

take_by : (size : Option ℕ) (high limit end : ℕ) (fin : Bool) (received most : ℕ) → end < 2 ^ 62 → is_past size end fin ≡ false → (fin && nat_lt end high) ≡ false → is_beyond high limit end received most ≡ false
    → verdict_by size high limit end fin received most ≡ Taken
take_by size high limit end fin received most l a b c = let k : nat_le (2 ^ 62) end ≡ false = grind (arith, nat_tests) in rw (k, a, b, c) refl

past_none : (size : Option ℕ) (end n : ℕ) (fin : Bool) → end ≤ n → (fin ≡ true → end ≡ n) → ((k : ℕ) → size ≡ Some k → k ≡ n) → is_past size end fin ≡ false
past_none None end n fin l e k = refl
past_none (Some m) end n true l e k = let a = k m refl in let b = e refl in grind (arith, nat_tests)
past_none (Some m) end n false l e k = let a = k m refl in grind (arith, nat_tests)

not_below : (end high : ℕ) (fin : Bool) → (fin ≡ true → high ≤ end) → (fin && nat_lt end high) ≡ false
not_below end high true l = let k = l refl in grind (arith, nat_tests)
not_below end high false l = refl

take_reset : (size : Option ℕ) (high limit final received most : ℕ) → is_unfit size high final ≡ false → is_beyond high limit final received most ≡ false
    → (if is_unfit size high final then Refused final_size_error else verdict_of_limits high limit final received most) ≡ Taken
take_reset size high limit final received most a b = rw (a, b) refl

fit : (size : Option ℕ) (high final : ℕ) → high ≤ final → ((k : ℕ) → size ≡ Some k → k ≡ final) → is_unfit size high final ≡ false
fit None high final l k = grind (arith, nat_tests)
fit (Some m) high final l k = let a = k m refl in grind (arith, nat_tests)

module _ (x y : LinkedEnd) (s : Agrees x y) (r : Agrees y x) where
  -- an end opens no more streams than the other permits
  opened_most : (d : Dir) → opened_in_all x.calls d ≤ (remote_of y.world d).max_remote
  opened_most d =
      let f = s.comes in
      let a = f.sent.opened d in
      let b = f.sent.counted d in
      let c = f.sent.few d in
      let e = s.ids.counts d in
      omega arith

  whose : (id : ℕ) → is_own y.world id ≡ not (is_local x.made.side id)
  whose id = own-local y.world y.made.side id r.comes.side ∙ local-other x.made.side y.made.side id s.other

  -- streams that an end sends on are known to the other
  sends_known : (id : ℕ) → SendsOn x y id → id_refusal y.world id ≡ None
  sends_known id o =
      let own = whose id in
      known_by y.world (is_own y.world id) (dir_of id) (index_of id)
      (λ e. let mine : is_local x.made.side id ≡ true = not_false (is_local x.made.side id) (sym own ∙ e) in
      let i = own_index (is_local x.made.side id) (opened_in_all x.calls) (opened_in_all y.calls) id (dir_of id) mine refl o.opened in
      let m = opened_most (dir_of id) in
      omega arith)
      (λ e. o.both_ways (not_true (is_local x.made.side id) (sym own ∙ e)))
      (λ e. let theirs : is_local x.made.side id ≡ false = not_true (is_local x.made.side id) (sym own ∙ e) in
      let i = their_index (is_local x.made.side id) (opened_in_all x.calls) (opened_in_all y.calls) id Bi theirs (o.both_ways theirs) o.opened in
      let n = opened-is y Bi r.comes in
      omega arith)

  -- and so are those that it receives on
  receives_known : (id : ℕ) → ReceivesOn x y id → sending_refusal y.world id ≡ None
  receives_known id o =
      let own = whose id in
      told_by y.world (is_own y.world id) (dir_of id) (index_of id) _
      (λ e. let theirs : is_local x.made.side id ≡ false = not_true (is_local x.made.side id) (sym own ∙ e) in
      let i = their_index (is_local x.made.side id) (opened_in_all x.calls) (opened_in_all y.calls) id (dir_of id) theirs refl o.opened in
      let n = opened-is y (dir_of id) r.comes in
      omega arith)
      (λ e. let mine : is_local x.made.side id ≡ true = not_false (is_local x.made.side id) (sym own ∙ e) in
      let both = o.both_ways mine in
      let i = own_index (is_local x.made.side id) (opened_in_all x.calls) (opened_in_all y.calls) id Bi mine both o.opened in
      let m = opened_most Bi in
      rw both (below y.world.bi.max_remote (index_of id) 0 STREAM_LIMIT_ERROR (omega arith)))

  -- ---- credit

  -- the highest offset of a stream, once a frame up to `end` came
  abbrev reaches : ℕ → ℕ → ℕ → ℕ
  reaches id end q = if eqb q id then (came_on y id).high + (end - (came_on y id).high) else (came_on y q).high

  reaches_most : (id end : ℕ) → end ≤ amount_on x id → (q : ℕ) → reaches id end q ≤ amount_on x q
  reaches_most id end l q = by_cases (eqb q id)
      (λ e. let k : amount_on x q ≡ amount_on x id = ap (amount_on x) (same q id e) in
      let h = (s.fits id).high in
      let n : (came_on y id).high + (end - (came_on y id).high) ≤ amount_on x q = omega arith in
      rw e n)
      (λ n. let h = (s.fits q).high in rw n h)

  -- what was received, and comes new with a frame, is permitted
  pub permitted : (id end : ℕ) → end ≤ amount_on x id → y.world.credit.data_recvd + (end - (came_on y id).high) ≤ y.world.credit.local_max_data
  permitted id end l =
      let f = s.comes in
      let xs = streams y.calls in
      let once = streams-once y.calls in
      let all = once_with id xs once in
      let sums = total_with (λ q. (came_on y q).high) (reaches id end) id xs once (λ a. ap (λ (t : Trace). t.high) (quiet y.calls id a)) (λ q n. rw n refl) in
      let here : reaches id end id ≡ (came_on y id).high + (end - (came_on y id).high) = rw (itself id) refl in
      let most = total-most (λ q. amount (sent_on x q)) (reaches id end) (with_stream id xs) (reaches_most id end l) in
      let written = sum-written x.made x.calls (with_stream id xs) s.comes.plain all in
      let taken = f.sent.taken in
      let limit = f.sent.limit in
      let within = f.sent.within in
      let held = s.credit.limit in
      let came = r.comes.facts.credit.received in
      omega arith

  -- ---- the verdict of a half

  abbrev told : (id : ℕ) (h : Half) → y.world.receive id ≡ Some h → id_refusal y.world id ≡ None → HalfFrom y.world.window (came_on y id) h
  told id h e k = half-from (trace y.calls) y.world id h r.comes.facts.streams k e

  fits_limit : (id end : ℕ) (h : Half) → HalfFrom y.world.window (came_on y id) h → end ≤ amount_on x id → is_beyond h.end h.sent_max end y.world.credit.data_recvd y.world.credit.local_max_data ≡ false
  fits_limit id end h t l =
      let high = t.high in
      let limit = t.limit in
      let window = r.comes.window in
      let held = s.limits id in
      let within = (s.rooms id).within in
      let p = permitted id end l in
      neither h.sent_max end y.world.credit.local_max_data (y.world.credit.data_recvd + (end - h.end)) (omega arith) (omega arith)

  -- a final size that is known is what was written
  size_written : (id : ℕ) (h : Half) → HalfFrom y.world.window (came_on y id) h → (size : ℕ) → h.size ≡ Some size → size ≡ amount_on x id
  size_written id h t size e =
      let sized : (came_on y id).sized ≡ true = sym t.sized ∙ ap (λ (o : Option ℕ). is_some o) e in
      sym (t.final size e) ∙ t.high ∙ (s.fits id).whole sized

  taken : (g : Stream) → IsTrueData x g → (h : Half) → HalfFrom y.world.window (came_on y g.id) h
      → verdict h g.offset (length g.bytes) g.fin y.world.credit.data_recvd y.world.credit.local_max_data ≡ Taken
  taken g d h t =
      let within = d.within in
      let room = (s.rooms g.id).within in
      let small = (s.rooms g.id).small in
      let high = (s.fits g.id).high in
      let is_high = t.high in
      let end : ℕ = g.offset + length g.bytes in
      take_by h.size h.end h.sent_max (g.offset + length g.bytes) g.fin y.world.credit.data_recvd y.world.credit.local_max_data (omega arith)
      (past_none h.size (g.offset + length g.bytes) (amount_on x g.id) g.fin within d.ends (size_written g.id h t))
      (not_below (g.offset + length g.bytes) h.end g.fin (λ e. let k = d.ends e in omega arith))
      (fits_limit g.id (g.offset + length g.bytes) h t within)

  reset_taken : (id final : ℕ) → final ≡ amount_on x id → (h : Half) → HalfFrom y.world.window (came_on y id) h
      → reset_verdict h final y.world.credit.data_recvd y.world.credit.local_max_data ≡ Taken
  reset_taken id final e h t =
      let high = (s.fits id).high in
      let is_high = t.high in
      take_reset h.size h.end h.sent_max final y.world.credit.data_recvd y.world.credit.local_max_data
      (fit h.size h.end final (omega arith) (λ k i. size_written id h t k i ∙ sym e))
      (fits_limit id final h t (omega arith))

  takes_blocked : (id : ℕ) → MayBlock x id → TakesBlocked y.world id
  takes_blocked id m = record {
    both_ways = λ own. m.both_ways (not_true (is_local x.made.side id) (sym (whose id) ∙ own));
    within = λ theirs.
        let mine = not_false (is_local x.made.side id) (sym (whose id) ∙ theirs) in
        let i = m.opened mine in
        let n = opened_most (dir_of id) in
        omega (arith, i, n);
  }

  -- every frame is welcome
  module _ (stops : StopsBoth x) (blocks : BlocksOwn x) where
    welcome : (g : Frame) → IsOneOf g x.wrote → IsFrameTrue x g → OpenFrame x y g → IsWelcome y.world g
    welcome (frames.Stream g) h t o =
        let known = sends_known g.id o in
        (known, λ h e n. taken g t h (told g.id h e known))
    welcome (frames.ResetStream g) h t o =
        let known = sends_known g.id o in
        (known, λ h e. reset_taken g.id g.final_offset t.1 h (told g.id h e known))
    welcome (frames.StopSending g) h t o = receives_known g.id (record { opened = o; both_ways = stops g.id g.error_code t })
    welcome (frames.MaxStreamData id limit) h t o = receives_known id o
    welcome (frames.MaxStreams d count) h t o = few_streams d count t
      where
        few_streams : (d : Dir) (count : ℕ) → count ≤ (remote_of x.world d).max_remote → count ≤ 2 ^ 60
        few_streams d count l = let m = s.few d in omega arith
    welcome (frames.StreamDataBlocked id limit) h t o = takes_blocked id (blocks id limit h)
    welcome _ h t o = tt

    pub all-welcome : AreWelcome x y
    all-welcome g h = welcome g h (s.truth g h) (s.ids.frames_open g h)

-- ---- what calls are answered

refused_taken : (c : ℕ) (k : Verdict) → k ≡ Refused c → k ≡ Taken → ⊥
refused_taken c k e t = let n = sym e ∙ t in cc

none_some : (c : ℕ) (o : Option ℕ) → o ≡ Some c → o ≡ None → ⊥
none_some c o e n = let k = sym e ∙ n in cc

module _ (x y : LinkedEnd) (all : AreWelcome x y) where
  unrefused_frame : (id offset : ℕ) (bytes : List ℕ) (fin : Bool) (error : TransportError) (v : World) → IsOneOf (frames.Stream (record { id = id; offset = offset; fin = fin; bytes = bytes })) x.wrote
      → Receives y.world id offset bytes fin (Err (receive_error.Transport error)) v → (error.code ≡ INTERNAL_ERROR) × IsCrowded v id
  unrefused_frame id offset bytes fin error v k (inl s) = let w = all _ k in absurd (none_some error.code _ s.0 w.0)
  unrefused_frame id offset bytes fin error v k (inr s) =
      let w = all (frames.Stream (record { id = id; offset = offset; fin = fin; bytes = bytes })) k in
      by_answer s.0 s.1 (w.1 s.0 s.2.half s.2.running) (ap (λ (w : World). w.receive id) s.3 ∙ receive-there y.world id (Some s.1)) s.2.ingests
    where
      by_answer : (old new : Half) → verdict old offset (length bytes) fin y.world.credit.data_recvd y.world.credit.local_max_data ≡ Taken → v.receive id ≡ Some new
          → Ingests old offset bytes fin y.world.credit.data_recvd y.world.credit.local_max_data (Err (receive_error.Transport error)) new → (error.code ≡ INTERNAL_ERROR) × IsCrowded v id
      by_answer old new now held (inl t) = absurd (refused_taken error.code _ t.0 now)
      by_answer old new now held (inr t) = (t.1, record { half = new; held = held; many = t.2 })

  unrefused_reset : (id code final : ℕ) (error : TransportError) (v : World) → IsOneOf (frames.ResetStream (record { id = id; error_code = code; final_offset = final })) x.wrote
      → ReceivesReset y.world id code final (Err (receive_error.Transport error)) v → ⊥
  unrefused_reset id code final error v k (inl s) = let w = all _ k in none_some error.code _ s.0 w.0
  unrefused_reset id code final error v k (inr s) =
      let w = all (frames.ResetStream (record { id = id; error_code = code; final_offset = final })) k in
      refused_taken error.code _ s.2.resets.0 (w.1 s.0 s.2.half)

  -- none is a transport error, but of too many pieces
  pub refuses-none : RefusesNone x y
  refuses-none (Received id offset bytes fin (Err (receive_error.Transport error))) v a = unrefused_frame id offset bytes fin error v a.honest a.step
  refuses-none (Received id offset bytes fin (Err receive_error.CompactionMemory)) v a = tt
  refuses-none (Received id offset bytes fin (Err receive_error.OutOfMemory)) v a = tt
  refuses-none (Received id offset bytes fin (Ok transmit)) v a = tt
  refuses-none (ReceivedReset id code final (Err (receive_error.Transport error))) v a = unrefused_reset id code final error v a.honest a.step
  refuses-none (ReceivedReset id code final (Err receive_error.CompactionMemory)) v a = tt
  refuses-none (ReceivedReset id code final (Err receive_error.OutOfMemory)) v a = tt
  refuses-none (ReceivedReset id code final (Ok transmit)) v a = tt
  refuses-none (Sending (RaisedCount dir count (Err (receive_error.Transport error)))) v a = let w = all (frames.MaxStreams dir count) a.honest in let k = a.step.0 in omega arith
  refuses-none (Sending (RaisedCount dir count (Err receive_error.CompactionMemory))) v a = tt
  refuses-none (Sending (RaisedCount dir count (Err receive_error.OutOfMemory))) v a = tt
  refuses-none (Sending (RaisedCount dir count (Ok u))) v a = tt
  refuses-none (Sending (RaisedLimit id limit (Err (receive_error.Transport error)))) v a = none_some error.code _ a.step.0 (all (frames.MaxStreamData id limit) a.honest)
  refuses-none (Sending (RaisedLimit id limit (Err receive_error.CompactionMemory))) v a = tt
  refuses-none (Sending (RaisedLimit id limit (Err receive_error.OutOfMemory))) v a = tt
  refuses-none (Sending (RaisedLimit id limit (Ok u))) v a = tt
  refuses-none _ v a = tt
