-- What is acknowledged came, and what a stop tells was asked for.
use Rattle.std.proofs.Common.{◌≡◌, ℕ, zero, suc, Bool, true, false, eqb, List, ◌∷◌, length, Option, Some, None, is_some, Ok, Err, refl, sym, ap, ◌∙◌, subst, inl, inr, arith, ◌+◌, ◌≤◌, ◌<◌}
use Rattle.std.specs.Prelude.{◌==◌, ◌&&◌, ◌||◌, is_none, unwrap_or, if◌then◌else◌}
use Rattle.std.proofs.lemmas.Bool.{cases_lt}
use Rattle.std.proofs.lemmas.Bool.Decides.{nat_tests}
use Rattle.quic_ranges.specs.Runs.{is_in}
use Rattle.quic_values.specs.declared.ids.Side.{Side}
use Rattle.quic_wire.specs.declared.frame.Frame.TheVariants as frames
use Rattle.quic_assembler.specs.Piece.{lies}
use Rattle.quic_sending.specs.Buffer.{total_length}
use Rattle.quic_receiving.specs.declared.transmit.ShouldTransmit.{ShouldTransmit}
use Rattle.quic_flows.specs.Flow.{SendMove, WasWritten, WasFinished, WasGivenUp, WasAskedToStop, WasPermitted, WasCarried, WasAcked, WasLost, WasResetAcked, SendFlow, takes_data, with_carried, with_acked, with_lost, counts_for, passing, is_whole, freed_if_whole, with_send_move}
use Rattle.quic_outgoing.specs.declared.limits.PeerLimits.{PeerLimits}
use Rattle.quic_history.specs.World.{World}
use Rattle.quic_history.specs.Flows.{send_moved, with_first_limits, has_send_side}
use Rattle.quic_history.specs.SendEvents.{RaisedLimit, StoppedOwn, WroteOwn, FinishedOwn, ResetOwn, AckedOwn, LostOwn, ResetAckedOwn, TookTurn}
use Rattle.quic_history.specs.History.{Event, Received, Sending, send_move_of, limits_in, opened_in_all, send_tale, since}
use Rattle.quic_history.proofs.Totals.{by_cases, same}
use Rattle.quic_link.specs.Endpoints.{LinkedEnd, IsOneOf, MayAct, acted, sent_on, IsHonest, WasStoppedWith}
use Rattle.quic_link.specs.Promises.{CameAt, EndCame}
use Rattle.quic_link.proofs.Ends.{Comes, plain-call}
use Rattle.quic_link.proofs.Unsent.{flow_unsent, flow-called}
use Rattle.quic_link.proofs.Growth.{MayMove, CanMove, can-move}
use Rattle.quic_link.proofs.Rooms.{amount}
use Rattle.quic_link.proofs.TrueFrames.{AllTrue}
use Rattle.quic_link.proofs.Basics.{both, either_true, or_left}

-- the end and every byte are acknowledged
pub record WholeSo (f : SendFlow) : Type 0 where
  pub finished : f.finished ≡ true
  pub end_acked : f.end_acked ≡ true
  pub all : (n : ℕ) → n < amount f → f.acked n ≡ true

pub record AckedSo (f : SendFlow) (calls : List Event) (q : ℕ) : Type 0 where
  pub came : (n : ℕ) → f.acked n ≡ true → CameAt calls q n
  pub end_came : f.end_acked ≡ true → EndCame calls q
  pub whole : f.freed ≡ true → f.reset ≡ None → WholeSo f
  pub stopped : (code : ℕ) → f.stopped ≡ Some code → WasStoppedWith calls q code

-- ---- every offset passes

passing_most : (f : ℕ → Bool) (n : ℕ) → passing f n ≤ n
passing_most f zero = omega arith
passing_most f (suc n) = by_test ((passing f n == n) && f n) (passing_most f n)
  where
    by_test : (b : Bool) → passing f n ≤ n → (if b then suc n else passing f n) ≤ suc n
    by_test true l = omega arith
    by_test false l = omega arith

all_pass : (f : ℕ → Bool) (n : ℕ) → (passing f n == n) ≡ true → (k : ℕ) → k < n → f k ≡ true
all_pass f zero e k l = absurd (omega arith)
all_pass f (suc n) e k l = by_test ((passing f n == n) && f n) refl e (λ t m. all_pass f n t k m)
  where
    below : (a n : ℕ) → a ≤ n → (a == suc n) ≡ true → ⊥
    below a n l e = grind (arith, nat_tests)

    by_test : (b : Bool) → ((passing f n == n) && f n) ≡ b → ((if b then suc n else passing f n) == suc n) ≡ true → ((passing f n == n) ≡ true → k < n → f k ≡ true) → f k ≡ true
    by_test true t h before =
        let parts = both (passing f n == n) (f n) t in
        elim (cases_lt k n) [
          | inl m ↦ before parts.0 m
          | inr m ↦ (let i : k ≡ n = omega arith in ap f i ∙ parts.1)
        ]
    by_test false t h before = absurd (below (passing f n) n (passing_most f n) h)

whole_of : (f : SendFlow) → is_whole f ≡ true → WholeSo f
whole_of f e =
    let a = both (f.finished && f.end_acked) (passing f.acked (total_length f.cuts) == total_length f.cuts) e in
    let b = both f.finished f.end_acked a.0 in
    record { finished = b.0; end_acked = b.1; all = λ n l. all_pass f.acked (total_length f.cuts) a.1 n l }

-- ---- what was done to a stream

-- a frame that is acknowledged was answered Ok
pub record RangeCame (calls : List Event) (q first behind : ℕ) (fin : Bool) : Type 0 where
  pub bytes : List ℕ
  pub transmit : ShouldTransmit
  pub is : IsOneOf (Received q first bytes fin (Ok transmit)) calls
  pub ends : behind ≡ first + length bytes

abbrev TrueAck : List Event → ℕ → SendMove → Type 0
TrueAck calls q (WasAcked first behind fin) = RangeCame calls q first behind fin
TrueAck calls q (WasAskedToStop code) = WasStoppedWith calls q code
TrueAck calls q _ = Unit {0}

abbrev pub TrueAcked : List Event → Option (ℕ × SendMove) → Type 0
TrueAcked calls None = Unit {0}
TrueAcked calls (Some m) = TrueAck calls m.0 m.1

acked_if : (calls : List Event) (q : ℕ) (a b : SendFlow) (k : Bool) → AckedSo a calls q → AckedSo b calls q → AckedSo (if k then a else b) calls q
acked_if calls q a b true g h = g
acked_if calls q a b false g h = h

-- the rest does not count
acked_same : (calls : List Event) (q : ℕ) (f f' : SendFlow) → f'.acked ≡ f.acked → f'.end_acked ≡ f.end_acked → f'.freed ≡ f.freed → f'.reset ≡ f.reset → f'.stopped ≡ f.stopped → f'.finished ≡ f.finished → f'.cuts ≡ f.cuts
    → AckedSo f calls q → AckedSo f' calls q
acked_same calls q f f' a b c d e g h s = record {
  came = λ n k. s.came n (sym (ap (λ t. t n) a) ∙ k);
  end_came = λ k. s.end_came (sym b ∙ k);
  whole = λ k r.
      let w = s.whole (sym c ∙ k) (sym d ∙ r) in
      let n : amount f' ≡ amount f = ap total_length h in
      record { finished = g ∙ w.finished; end_acked = b ∙ w.end_acked; all = λ i l. ap (λ t. t i) a ∙ w.all i (omega arith) };
  stopped = λ code k. s.stopped code (sym e ∙ k);
}

-- a stream that is whole takes no data
no_more : (f : SendFlow) → WholeSo f → f.reset ≡ None → takes_data f.reset f.finished ≡ true → ⊥
no_more f w r t = let k = rw (r, w.finished) at t in cc

range_has : (calls : List Event) (q first behind n : ℕ) (fin : Bool) → RangeCame calls q first behind fin → is_in (first, behind) n ≡ true → CameAt calls q n
range_has calls q first behind n fin k h = record { offset = first; bytes = k.bytes; fin = fin; transmit = k.transmit; is = k.is; has = ap (λ b. lies first b n) (sym k.ends) ∙ h }

end_has : (calls : List Event) (q first behind : ℕ) (fin : Bool) → RangeCame calls q first behind fin → fin ≡ true → EndCame calls q
end_has calls q first behind true k h = record { offset = first; bytes = k.bytes; transmit = k.transmit; is = k.is }
end_has calls q first behind false k h = cc

acked_frame : (calls : List Event) (q first behind : ℕ) (fin : Bool) (f : SendFlow) → RangeCame calls q first behind fin → AckedSo f calls q → AckedSo (freed_if_whole (with_acked first behind fin f)) calls q
acked_frame calls q first behind fin f k s = record {
  came = λ n h. elim (either_true (f.acked n) (is_in (first, behind) n) h) [ inl a ↦ s.came n a | inr b ↦ range_has calls q first behind n fin k b ];
  end_came = λ h. elim (either_true f.end_acked fin h) [ inl a ↦ s.end_came a | inr b ↦ end_has calls q first behind fin k b ];
  whole = λ h r. elim (either_true f.freed (is_whole (with_acked first behind fin f)) h) [
    | inl a ↦ (let w = s.whole a r in record { finished = w.finished; end_acked = or_left f.end_acked fin w.end_acked; all = λ n l. or_left (f.acked n) (is_in (first, behind) n) (w.all n l) })
    | inr b ↦ (let w = whole_of (with_acked first behind fin f) b in record { finished = w.finished; end_acked = w.end_acked; all = w.all })
  ];
  stopped = s.stopped;
}

stop_told : (calls : List Event) (q code c : ℕ) (o : Option ℕ) → WasStoppedWith calls q code → ((d : ℕ) → o ≡ Some d → WasStoppedWith calls q d) → Some (unwrap_or o code) ≡ Some c → WasStoppedWith calls q c
stop_told calls q code c None k s e = let i : code ≡ c = cc in let P : ℕ → Type 0 = λ d. WasStoppedWith calls q d in subst P i k
stop_told calls q code c (Some d) k s e = s c e

let_go : (a : Bool) (r : Option ℕ) → (a || is_some r) ≡ true → r ≡ None → a ≡ true
let_go true r h e = refl
let_go false r h e = let k = rw e at h in cc

acked_move : (calls : List Event) (q : ℕ) (m : SendMove) (f : SendFlow) → MayMove m f → TrueAck calls q m → AckedSo f calls q → AckedSo (with_send_move m f) calls q
acked_move calls q (WasWritten pieces) f may k s = record { came = s.came; end_came = s.end_came; whole = λ h r. absurd (no_more f (s.whole h r) r may); stopped = s.stopped }
acked_move calls q WasFinished f may k s = record { came = s.came; end_came = λ h. cc; whole = λ h r. absurd (no_more f (s.whole h r) r may); stopped = s.stopped }
acked_move calls q (WasGivenUp code) f may k s = record { came = s.came; end_came = s.end_came; whole = λ h r. cc; stopped = s.stopped }
acked_move calls q (WasAskedToStop code) f may k s = record {
  came = s.came;
  end_came = s.end_came;
  whole = λ h r. let w = s.whole h r in record { finished = w.finished; end_acked = w.end_acked; all = w.all };
  stopped = λ c h. stop_told calls q code c f.stopped k s.stopped h;
}
acked_move calls q (WasPermitted limit) f may k s = acked_if calls q _ f (takes_data f.reset f.finished) (acked_same calls q f _ refl refl refl refl refl refl refl s) s
acked_move calls q (WasCarried first behind fin) f may k s = acked_if calls q (with_carried first behind fin f) f (is_none f.reset) (acked_same calls q f _ refl refl refl refl refl refl refl s) s
acked_move calls q (WasAcked first behind fin) f may k s = acked_if calls q (freed_if_whole (with_acked first behind fin f)) f (counts_for f.reset f.sent_up_to behind) (acked_frame calls q first behind fin f k s) s
acked_move calls q (WasLost first behind fin) f may k s = acked_if calls q (with_lost first behind fin f) f (counts_for f.reset f.sent_up_to behind) (acked_same calls q f _ refl refl refl refl refl refl refl s) s
acked_move calls q WasResetAcked f may k s = record {
  came = s.came;
  end_came = s.end_came;
  whole = λ h r. let w = s.whole (let_go f.freed f.reset h r) r in record { finished = w.finished; end_acked = w.end_acked; all = w.all };
  stopped = s.stopped;
}

acked_moved : (calls : List Event) (o : Option (ℕ × SendMove)) (there : ℕ → Bool) (f : ℕ → SendFlow) (q : ℕ) → CanMove f o → TrueAcked calls o → AckedSo (f q) calls q → AckedSo (send_moved o there q (f q)) calls q
acked_moved calls None there f q may k s = s
acked_moved calls (Some m) there f q may k s = by_cases (eqb q m.0)
    (λ e.
    let P : ℕ → Type 0 = λ i. MayMove m.1 (f i) in
    let Q : ℕ → Type 0 = λ i. TrueAck calls i m.1 in
    acked_if calls q (with_send_move m.1 (f q)) (f q) (eqb q m.0 && there q) (acked_move calls q m.1 (f q) (subst P (sym (same q m.0 e)) may) (subst Q (sym (same q m.0 e)) k) s) s)
    (λ n. rw n s)

acked_limits : (calls : List Event) (q : ℕ) (l : Option PeerLimits) (side : Side) (f : SendFlow) → AckedSo f calls q → AckedSo (with_first_limits l side q f) calls q
acked_limits calls q None side f s = s
acked_limits calls q (Some limits) side f s = acked_same calls q f _ refl refl refl refl refl refl refl s

ack_true : (x y : LinkedEnd) (e : Event) → AllTrue y → IsHonest x y e → TrueAcked y.calls (send_move_of e)
ack_true x y (Sending (AckedOwn id offsets fin (Ok u))) t k = record { bytes = k.bytes; transmit = k.transmit; is = k.is; ends = k.behind }
ack_true x y (Sending (AckedOwn id offsets fin (Err error))) t k = tt
ack_true x y (Sending (StoppedOwn id code (Ok u))) t k = t (frames.StopSending (record { id = id; error_code = code })) k
ack_true x y (Sending (StoppedOwn id code (Err error))) t k = tt
ack_true x y (Sending (RaisedLimit id limit (Ok u))) t k = tt
ack_true x y (Sending (RaisedLimit id limit (Err error))) t k = tt
ack_true x y (Sending (WroteOwn id lists closed (Ok written))) t k = tt
ack_true x y (Sending (WroteOwn id lists closed (Err error))) t k = tt
ack_true x y (Sending (FinishedOwn id (Ok u))) t k = tt
ack_true x y (Sending (FinishedOwn id (Err error))) t k = tt
ack_true x y (Sending (ResetOwn id code (Ok u))) t k = tt
ack_true x y (Sending (ResetOwn id code (Err error))) t k = tt
ack_true x y (Sending (LostOwn id offsets fin (Ok u))) t k = tt
ack_true x y (Sending (LostOwn id offsets fin (Err error))) t k = tt
ack_true x y (Sending (ResetAckedOwn id (Ok u))) t k = tt
ack_true x y (Sending (ResetAckedOwn id (Err error))) t k = tt
ack_true x y (Sending (TookTurn most fair None)) t k = tt
ack_true x y (Sending (TookTurn most fair (Some frame))) t k = tt
ack_true x y _ t k = tt

-- the end that sends was called
pub acked-sent : (x y : LinkedEnd) (e : Event) (v : World) → Comes x → AllTrue y → MayAct x y e v → ((q : ℕ) → AckedSo (sent_on x q) y.calls q) → (q : ℕ) → AckedSo (sent_on (acted x e v) q) y.calls q
acked-sent x y e v f t a s q =
    flow-called (λ t. AckedSo t y.calls q) x.made e x.calls q (plain-call x y e a.honest) (λ t k. acked_same y.calls q t (flow_unsent t) refl refl refl refl refl refl refl k)
    (acked_limits y.calls q (limits_in e) x.made.side _
    (acked_moved y.calls (send_move_of e) (has_send_side x.made.side (opened_in_all (since x.calls)) (send_tale x.made x.calls).may_open) (sent_on x) q (can-move x.made x.calls x.world v f.from e a.step) (ack_true x y e t a.honest) (s q)))

-- the end that receives was
pub acked-came : (f : SendFlow) (calls : List Event) (q : ℕ) (e : Event) → AckedSo f calls q → AckedSo f (e ∷ calls) q
acked-came f calls q e s = record {
  came = λ n k. let c = s.came n k in record { offset = c.offset; bytes = c.bytes; fin = c.fin; transmit = c.transmit; is = inr c.is; has = c.has };
  end_came = λ k. let c = s.end_came k in record { offset = c.offset; bytes = c.bytes; transmit = c.transmit; is = inr c.is };
  whole = s.whole;
  stopped = λ code k. inr (s.stopped code k);
}
