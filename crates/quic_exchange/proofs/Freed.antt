-- The half of a stream is freed once its end and every byte are acknowledged, by what the steps tell.
use Rattle.std.proofs.Common.{◌≡◌, ℕ, zero, suc, Bool, true, false, List, [], ◌∷◌, length, Option, Some, None, Ok, Err, refl, sym, ◌∙◌, subst, inl, inr, arith, ◌<◌}
use Rattle.std.specs.Prelude.{◌==◌, ◌&&◌, ◌||◌, ◌+◌, ◌-◌, ◌^◌, min, take, drop, is_none, is_some, if◌then◌else◌}
use Rattle.quic_wire.specs.declared.frame.Frame.{Frame}
use Rattle.quic_wire.specs.declared.frame.Frame.TheVariants as frames
use Rattle.quic_sending.specs.Buffer.{total_length}
use Rattle.quic_sending.specs.Source.{slice_lists}
use Rattle.quic_sending.proofs.Pieces.{total-append}
use Rattle.quic_flows.specs.Flow.{SendFlow, SendMove, WasWritten, WasFinished, WasGivenUp, WasAskedToStop, WasPermitted, WasCarried, WasAcked, WasLost, WasResetAcked, with_send_move, with_carried, with_acked, with_lost, with_least_limit, takes_data, counts_for, passing, is_whole, freed_if_whole, front_of}
use Rattle.quic_values.specs.declared.ids.Side.TheVariants.{Client}
use Rattle.quic_outgoing.specs.Outgoing.{first_of}
use Rattle.quic_outgoing.specs.Senders.{first_limit, is_local}
use Rattle.quic_history.specs.Early.{with_unsent}
use Rattle.quic_history.proofs.Traces.{itself}
use Rattle.quic_link.proofs.Basics.{both, either_true, or_left, or_right}
use Rattle.quic_exchange.proofs.Origins.{Origin}
use Rattle.quic_steps.specs.declared.steps.End.{End}
use Rattle.quic_steps.specs.declared.steps.End.TheVariants.{A, B}
use Rattle.quic_steps.specs.declared.steps.Step.{Step}
use Rattle.quic_steps.specs.declared.steps.Step.TheVariants as steps
use Rattle.quic_steps.specs.declared.steps.Reply.TheVariants.{Done, DoneTransmit, Id, Wrote, WroteChunks, Payload}
use Rattle.quic_steps.specs.declared.steps.PairError.TheVariants.{OutOfMemory as NoMemory}
use Rattle.quic_exchange.specs.Sent.{Sent}
use Rattle.quic_exchange.specs.Replies.{Answer}
use Rattle.quic_exchange.specs.State.{PairState, peer}
use Rattle.quic_exchange.specs.History.{History, Past}
use Rattle.quic_exchange.proofs.Eras.{EraFrom, begun, next, changed, Changes, accepts, retries, ToldIn, tales_in, tales_changed}
use Rattle.quic_exchange.specs.Settling.{AreIdle, AreSettledIn}
use Rattle.quic_exchange.specs.Completed.{IsAllAcked, AreAllAcked}
use Rattle.quic_exchange.specs.Tale.{Tale, Tales, StepTells, SendsOne, TellsParts, Part, Carried, GivenUp, parts_in, with_parts, acked_part, lost_part, with_frames_sent, with_frame_heard, with_one_opened, with_bytes_taken, with_deed, with_window_of, told_of}
use Rattle.quic_exchange.proofs.Settling.{leaves-no-rest}
use Rattle.quic_exchange.proofs.ToldOnce.{told-in-once}
use Rattle.quic_exchange.proofs.Traced.{IsTraced}
use Rattle.quic_exchange.proofs.TracedSteps.{IsUnreported, traces-from}
use Rattle.quic_exchange.proofs.Arrived.{is-acked-at, is-end-acked, none-unreported}

-- of a stream that was not given up: its half is freed once it was ended and all of it is acknowledged, and not before it was ended
record IsFreedSo (f : SendFlow) : Type 0 where
  whole : f.reset ≡ None → f.finished ≡ true → f.end_acked ≡ true → ((n : ℕ) → n < total_length f.cuts → f.acked n ≡ true) → f.freed ≡ true
  ended : f.reset ≡ None → f.freed ≡ true → f.finished ≡ true

all_passing : (f : ℕ → Bool) (n : ℕ) → ((k : ℕ) → k < n → f k ≡ true) → (passing f n == n) ≡ true
all_passing f zero h = refl
all_passing f (suc n) h =
    let before = all_passing f n (λ k l. h k (omega (arith, l))) in
    let now : f n ≡ true = h n (omega arith) in
    rw (before, now) (itself (suc n))

both_are : (a b : Bool) → a ≡ true → b ≡ true → (a && b) ≡ true
both_are a b e d = rw (e, d) refl

whole_by : (f : SendFlow) → f.finished ≡ true → f.end_acked ≡ true → ((n : ℕ) → n < total_length f.cuts → f.acked n ≡ true) → is_whole f ≡ true
whole_by f d e all = both_are (f.finished && f.end_acked) (passing f.acked (total_length f.cuts) == total_length f.cuts) (both_are f.finished f.end_acked d e) (all_passing f.acked (total_length f.cuts) all)

freed_if : (b : Bool) (f g : SendFlow) → IsFreedSo f → IsFreedSo g → IsFreedSo (if b then f else g)
freed_if true f g a b = a
freed_if false f g a b = b

freed_acked : (first behind : ℕ) (fin : Bool) (f : SendFlow) → IsFreedSo f → IsFreedSo (freed_if_whole (with_acked first behind fin f))
freed_acked first behind fin f s =
    let h = with_acked first behind fin f in
    record {
      whole = λ r d e all. or_right f.freed (is_whole h) (whole_by h d e all);
      ended = λ r k. elim (either_true f.freed (is_whole h) k) [
        | inl old ↦ s.ended r old
        | inr now ↦ (both f.finished h.end_acked (both (f.finished && h.end_acked) (passing h.acked (total_length h.cuts) == total_length h.cuts) now).0).0
      ];
    }

no_code : (o : Option ℕ) → o ≡ None → is_some o ≡ true → ⊥
no_code None e k = cc
no_code (Some code) e k = cc

freed_move : (m : SendMove) (f : SendFlow) → IsFreedSo f → IsFreedSo (with_send_move m f)
freed_move (WasWritten pieces) f s = record { whole = λ r d e all. let size = total-append f.cuts pieces in s.whole r d e (λ n l. all n (omega (arith, l, size))); ended = s.ended }
freed_move WasFinished f s = record { whole = λ r d e all. cc; ended = λ r k. refl }
freed_move (WasGivenUp code) f s = record { whole = λ r d e all. cc; ended = λ r k. cc }
freed_move (WasAskedToStop code) f s = record { whole = s.whole; ended = s.ended }
freed_move (WasPermitted limit) f s = freed_if (takes_data f.reset f.finished) (with_least_limit (min limit (2 ^ 62 - 1)) f) f (record { whole = s.whole; ended = s.ended }) s
freed_move (WasCarried first behind fin) f s = freed_if (is_none f.reset) (with_carried first behind fin f) f (record { whole = s.whole; ended = s.ended }) s
freed_move (WasAcked first behind fin) f s = freed_if (counts_for f.reset f.sent_up_to behind) (freed_if_whole (with_acked first behind fin f)) f (freed_acked first behind fin f s) s
freed_move (WasLost first behind fin) f s = freed_if (counts_for f.reset f.sent_up_to behind) (with_lost first behind fin f) f (record { whole = s.whole; ended = s.ended }) s
freed_move WasResetAcked f s = record {
  whole = λ r d e all. or_left f.freed (is_some f.reset) (s.whole r d e all);
  ended = λ r k. elim (either_true f.freed (is_some f.reset) k) [ inl old ↦ s.ended r old | inr code ↦ absurd (no_code f.reset r code) ];
}

-- ---- all streams of an end

freed_deed : (id : ℕ) (m : SendMove) (t : Tale) → ((q : ℕ) → IsFreedSo (t.flow q)) → (q : ℕ) → IsFreedSo ((with_deed id m t).flow q)
freed_deed id m t k q = freed_if (q == id) (with_send_move m (t.flow q)) (t.flow q) (freed_move m (t.flow q) (k q)) (k q)

freed_frames : (fs : List Frame) (t : Tale) → ((q : ℕ) → IsFreedSo (t.flow q)) → (q : ℕ) → IsFreedSo ((with_frames_sent fs t).flow q)
freed_frames [] t k = k
freed_frames (frames.Stream s ∷ fs) t k = freed_frames fs (with_deed s.id (WasCarried s.offset (s.offset + length s.bytes) s.fin) t) (freed_deed s.id (WasCarried s.offset (s.offset + length s.bytes) s.fin) t k)
freed_frames (_ ∷ fs) t k = freed_frames fs t k

freed_heard : (frame : Frame) (t : Tale) → ((q : ℕ) → IsFreedSo (t.flow q)) → (q : ℕ) → IsFreedSo ((with_frame_heard frame t).flow q)
freed_heard (frames.MaxData limit) t k = k
freed_heard (frames.MaxStreams dir count) t k = k
freed_heard (frames.MaxStreamData id limit) t k = freed_deed id (WasPermitted limit) t k
freed_heard (frames.StopSending f) t k = freed_deed f.id (WasAskedToStop f.error_code) t k
freed_heard _ t k = k

freed_lost : (x : Part) (t : Tale) → ((q : ℕ) → IsFreedSo (t.flow q)) → (q : ℕ) → IsFreedSo ((lost_part x t).flow q)
freed_lost (Carried m) t k = freed_deed m.id (WasLost m.offsets.start m.offsets.end m.fin) t k
freed_lost (GivenUp id) t k = k

freed_part : (x : Part) (t : Tale) → ((q : ℕ) → IsFreedSo (t.flow q)) → (q : ℕ) → IsFreedSo ((acked_part x t).flow q)
freed_part (Carried m) t k = freed_deed m.id (WasAcked m.offsets.start m.offsets.end m.fin) t k
freed_part (GivenUp id) t k = freed_deed id WasResetAcked t k

freed_parts : (deed : Part → Tale → Tale) → ((x : Part) (t : Tale) → ((q : ℕ) → IsFreedSo (t.flow q)) → (q : ℕ) → IsFreedSo ((deed x t).flow q)) → (xs : List Part) (t : Tale) → ((q : ℕ) → IsFreedSo (t.flow q)) → (q : ℕ) → IsFreedSo ((with_parts deed xs t).flow q)
freed_parts deed one [] t k = k
freed_parts deed one (x ∷ xs) t k = freed_parts deed one xs (deed x t) (one x t k)

-- ---- all steps

module _ (t : Tales) (k : (who : End) (q : ℕ) → IsFreedSo ((t.of who).flow q)) where
  freed_one : (who : End) (change : Tale → Tale) → (((q : ℕ) → IsFreedSo ((t.of who).flow q)) → (q : ℕ) → IsFreedSo ((change (t.of who)).flow q)) → (end : End) (q : ℕ) → IsFreedSo (((told_of who change t).of end).flow q)
  freed_one A change c A = c (k A)
  freed_one A change c B = k B
  freed_one B change c A = k A
  freed_one B change c B = c (k B)

  freed_as : (who : End) (change : Tale → Tale) (u : Tales) → u ≡ told_of who change t → (((q : ℕ) → IsFreedSo ((t.of who).flow q)) → (q : ℕ) → IsFreedSo ((change (t.of who)).flow q)) → (end : End) (q : ℕ) → IsFreedSo ((u.of end).flow q)
  freed_as who change u e c end q = let P : Tales → Type 0 = λ v. IsFreedSo ((v.of end).flow q) in subst P (sym e) (freed_one who change c end q)

  freed_same : (u : Tales) → u ≡ t → (end : End) (q : ℕ) → IsFreedSo ((u.of end).flow q)
  freed_same u e end q = let P : Tales → Type 0 = λ v. IsFreedSo ((v.of end).flow q) in subst P (sym e) (k end q)

  freed_sent : (sent : List Sent) (who : End) (u : Tales) → SendsOne sent who t u → (end : End) (q : ℕ) → IsFreedSo ((u.of end).flow q)
  freed_sent sent who u s end q = let P : Tales → Type 0 = λ v. IsFreedSo ((v.of end).flow q) in subst P (sym s.is) (freed_one who (with_frames_sent s.all) (freed_frames s.all (t.of who)) end q)

  freed_told : (sent : List Sent) (number : ℕ) (deed : Part → Tale → Tale) → ((x : Part) (v : Tale) → ((q : ℕ) → IsFreedSo (v.flow q)) → (q : ℕ) → IsFreedSo ((deed x v).flow q)) → (u : Tales) → TellsParts sent number deed t u → (end : End) (q : ℕ) → IsFreedSo ((u.of end).flow q)
  freed_told sent number deed one u p end q =
      let P : Tales → Type 0 = λ v. IsFreedSo ((v.of end).flow q) in
      subst P (sym p.is) (freed_one p.who (with_parts deed (take p.count (drop (t.told number) (parts_in p.all)))) (freed_parts deed one (take p.count (drop (t.told number) (parts_in p.all))) (t.of p.who)) end q)

  freed_wrote : (who : End) (id count : ℕ) (lists : List (List ℕ)) (u : Tales) → u ≡ told_of who (with_bytes_taken id count lists) t → (end : End) (q : ℕ) → IsFreedSo ((u.of end).flow q)
  freed_wrote who id count lists u e = freed_as who (with_bytes_taken id count lists) u e (freed_deed id (WasWritten (front_of count lists)) (t.of who))

  freed_step : (old new : List Sent) (step : Step) (reply : Answer) (u : Tales) → StepTells old new step reply t u → (end : End) (q : ℕ) → IsFreedSo ((u.of end).flow q)
  freed_step old new (steps.Open who dir) (Ok (Id id)) u e = freed_as who (with_one_opened dir) u e (λ j. j)
  freed_step old new (steps.Write who id bytes) (Ok (Wrote count)) u e = freed_wrote who id count (slice_lists bytes) u e
  freed_step old new (steps.WriteChunks who id chunks) (Ok (WroteChunks written)) u e = freed_wrote who id written.bytes chunks u e
  freed_step old new (steps.Finish who id) (Ok Done) u e = freed_as who (with_deed id WasFinished) u e (freed_deed id WasFinished (t.of who))
  freed_step old new (steps.Reset who id code) (Ok Done) u e = freed_as who (with_deed id (WasGivenUp code)) u e (freed_deed id (WasGivenUp code) (t.of who))
  freed_step old new (steps.SetSendWindow who window) (Ok Done) u e = freed_as who (with_window_of window) u e (λ j. j)
  freed_step old new (steps.Emit who most fair) (Ok (Payload number bytes)) u e = freed_sent new who u e.0
  freed_step old new (steps.Emit who most fair) (Err error) u e = λ end q. elim e [ inl same ↦ freed_same u same.1 end q | inr one ↦ freed_sent new who u one.1 end q ]
  freed_step old new (steps.EmitPart who most fair part) (Ok (Payload number bytes)) u e = freed_sent new who u e.0
  freed_step old new (steps.EmitPart who most fair part) (Err error) u e = λ end q. elim e [ inl same ↦ freed_same u same.1 end q | inr one ↦ freed_sent new who u one.1 end q ]
  freed_step old new (steps.Deliver number index) (Ok Done) u e = freed_as (peer e.who) (with_frame_heard e.frame) u e.is (freed_heard e.frame (t.of (peer e.who)))
  freed_step old new (steps.Deliver number index) (Ok DoneTransmit) u e = freed_as (peer e.who) (with_frame_heard e.frame) u e.is (freed_heard e.frame (t.of (peer e.who)))
  freed_step old new (steps.Lose number) (Ok Done) u e = freed_told new number lost_part freed_lost u e.some
  freed_step old new (steps.Lose number) (Err NoMemory) u e = freed_told new number lost_part freed_lost u e
  freed_step old new (steps.Ack number) (Ok Done) u e = freed_told new number acked_part freed_part u e.some
  freed_step old new (steps.Ack number) (Err NoMemory) u e = freed_told new number acked_part freed_part u e
  freed_step old new _ _ u e = freed_same u e

freed_begun : (a b : Origin) (sent : List Sent) (end : End) (q : ℕ) → IsFreedSo (((tales_in a b sent).of end).flow q)
freed_begun a b sent A q = record { whole = λ r d e all. cc; ended = λ r k. cc }
freed_begun a b sent B q = record { whole = λ r d e all. cc; ended = λ r k. cc }

freed_limit : (limit : ℕ) (f : SendFlow) → IsFreedSo f → IsFreedSo (with_least_limit limit f)
freed_limit limit f k = record { whole = k.whole; ended = k.ended }

freed_unsent : (c : Bool) (f : SendFlow) → IsFreedSo f → IsFreedSo (if c then with_unsent f else f)
freed_unsent false f k = k
freed_unsent true f k = by (is_none f.reset)
  where
    by : (d : Bool) → IsFreedSo (if d then record f { carried = λ n. false; sent_up_to = 0; missing = λ n. false; end_due = f.end_due || f.finished } else f)
    by true = record { whole = k.whole; ended = k.ended }
    by false = k

freed_changed : {b : Origin} {p : Past} {old new : PairState} {step : Step} (c : Changes b p old new step) (t : Tales) → ((end : End) (q : ℕ) → IsFreedSo ((t.of end).flow q)) → (end : End) (q : ℕ) → IsFreedSo (((tales_changed c t).of end).flow q)
freed_changed (accepts c within few) t k A q = freed_limit (first_limit Client (first_of c.limits.others) q) ((t.of A).flow q) (k A q)
freed_changed (accepts c within few) t k B q = k B q
freed_changed (retries c m did mine accepted kept) t k A q = freed_unsent (is_local Client q) ((t.of A).flow q) (k A q)
freed_changed (retries c m did mine accepted kept) t k B q = k B q

freed_all : {a b : Origin} {h : History} {v : PairState} (f : EraFrom a b h v) (t : Tales) → ToldIn f t → (end : End) (q : ℕ) → IsFreedSo ((t.of end).flow q)
freed_all {a} {b} {h} {v} (begun n) t k end q = let P : Tales → Type 0 = λ x. IsFreedSo ((x.of end).flow q) in subst P (sym k) (freed_begun a b v.sent end q)
freed_all (next {h} {old} {new} step reply f n) t k end q = freed_step k.0 (freed_all f k.0 k.1) old.sent new.sent step reply t k.2 end q
freed_all (changed step f c) t k end q = let P : Tales → Type 0 = λ x. IsFreedSo ((x.of end).flow q) in subst P (sym k.2) (freed_changed c k.0 (freed_all f k.0 k.1) end q)

-- ---- the end

module _ (a b : Origin) (h : History) (v : PairState) (f : EraFrom a b h v) (idle : AreIdle v) (settled : AreSettledIn 0 (length v.sent) v.sent) where
  module _ (t : Tales) (told : ToldIn f t) (who : End) (id : ℕ) (r : ((t.of who).flow id).reset ≡ None) where
    abbrev flow : SendFlow
    flow = (t.of who).flow id

    freed_so : IsFreedSo flow
    freed_so = freed_all f t told who id

    traced : IsTraced (IsUnreported v.sent who) id flow
    traced =
        let g = traces-from f in
        let P : Tales → Type 0 = λ u. IsTraced (IsUnreported v.sent who) id ((u.of who).flow id) in
        subst P (told-in-once f g.recounted.tales t g.told told) (g.traced who id)

    bytes_acked : flow.freed ≡ false → (n : ℕ) → n < total_length flow.cuts → flow.acked n ≡ true
    bytes_acked = is-acked-at (IsUnreported v.sent who) (none-unreported a b h v f idle settled who) id flow traced (leaves-no-rest a b h v f idle t told who id) r

    end_acked : flow.freed ≡ false → flow.finished ≡ true → flow.end_acked ≡ true
    end_acked = is-end-acked (IsUnreported v.sent who) (none-unreported a b h v f idle settled who) id flow traced (leaves-no-rest a b h v f idle t told who id) r

    freed_then : (c : Bool) → flow.freed ≡ c → flow.finished ≡ true → flow.freed ≡ true
    freed_then true e d = e
    freed_then false e d = freed_so.whole r d (end_acked e d) (bytes_acked e)

    running_then : (c : Bool) → flow.freed ≡ c → flow.finished ≡ false → (n : ℕ) → n < total_length flow.cuts → flow.acked n ≡ true
    running_then true e d = let both_ways = sym (freed_so.ended r e) ∙ d in cc
    running_then false e d = bytes_acked e

    all_acked : IsAllAcked flow
    all_acked = record { ended = freed_then flow.freed refl; running = running_then flow.freed refl }

  pub all-acked : AreAllAcked (ToldIn f)
  all-acked t told who id r = all_acked t told who id r
