-- What came of a stream agrees with what was written on it.
use Rattle.std.proofs.Common.{◌≡◌, ℕ, Bool, true, false, eqb, List, ◌∷◌, length, Option, Some, None, is_some, Ok, Err, refl, sym, ap, ◌∙◌, subst, inl, inr, arith, ◌+◌, ◌≤◌}
use Rattle.std.specs.Prelude.{◌++◌, ◌&&◌, ◌||◌, max, min, ◌-◌, ◌^◌, if◌then◌else◌}
use Rattle.std.specs.List.{concat}
use Rattle.std.proofs.lemmas.List.Folds.{concat-append}
use Rattle.quic_assembler.specs.Piece.{IsByteAt}
use Rattle.quic_values.specs.declared.ids.Side.{Side}
use Rattle.quic_wire.specs.declared.frame.Frame.TheVariants as frames
use Rattle.quic_sending.specs.Buffer.{total_length}
use Rattle.quic_sending.proofs.Pieces.{total-append}
use Rattle.quic_receiving.specs.Data.{Carries}
use Rattle.quic_receiving.specs.declared.errors.ReadError.TheVariants as read_error
use Rattle.quic_flows.specs.Flow.{SendMove, WasWritten, WasFinished, WasGivenUp, WasAskedToStop, WasPermitted, WasCarried, WasAcked, WasLost, WasResetAcked, SendFlow, takes_data, with_send_move}
use Rattle.quic_outgoing.specs.declared.limits.PeerLimits.{PeerLimits}
use Rattle.quic_outgoing.specs.Outgoing.{first_of}
use Rattle.quic_outgoing.specs.Senders.{first_limit}
use Rattle.quic_history.specs.World.{World, Made}
use Rattle.quic_history.specs.Flows.{send_moved, with_first_limits, has_send_side}
use Rattle.quic_history.specs.SendEvents.{RaisedLimit, StoppedOwn, WroteOwn, FinishedOwn, ResetOwn, AckedOwn, LostOwn, ResetAckedOwn, TookTurn}
use Rattle.quic_history.specs.Early.{begins_anew}
use Rattle.quic_history.specs.History.{Event, Move, Framed, WasReset, WasRead, WasStopped, WasTold, WasAnnounced, Received, ReceivedReset, Stopped, ToldReset, LeftPending, Sending, Trace, untouched, move_of, moved, with_move, with_kept_frame, with_reset, is_frame_kept, is_closed, send_move_of, limits_in, opened_in_all, send_tale, joint_move_of, since}
use Rattle.quic_history.proofs.Totals.{by_cases, same}
use Rattle.quic_link.proofs.Ends.{plain-call}
use Rattle.quic_link.proofs.Unsent.{flow-called}
use Rattle.quic_link.specs.Endpoints.{LinkedEnd, acted, sent_on, came_on, IsHonest}
use Rattle.quic_link.specs.Truths.{AreBytesOf}
use Rattle.quic_link.proofs.Growth.{Grows, still-closed}
use Rattle.quic_link.proofs.Rooms.{amount, AreLimitsOf, first-most}
use Rattle.quic_link.proofs.Texts.{byte-more}
use Rattle.quic_link.proofs.TrueFrames.{AllTrue, announced-grows}
use Rattle.quic_link.proofs.Basics.{either_true, ended_closed, or_left}

pub record StreamFits (f : SendFlow) (t : Trace) : Type 0 where
  pub high : t.high ≤ amount f
  pub closed : t.sized ≡ true → takes_data f.reset f.finished ≡ false
  pub whole : t.sized ≡ true → t.high ≡ amount f
  pub ended : t.sized ≡ true → t.reset ≡ None → f.finished ≡ true
  pub reset : (code : ℕ) → t.reset ≡ Some code → f.reset ≡ Some code
  pub reset_sized : is_some t.reset ≡ true → t.sized ≡ true
  pub kept : (at byte : ℕ) → Carries t.kept at byte → IsByteAt 0 (concat f.cuts) at byte

pub fits-new : (f : SendFlow) → StreamFits f untouched
fits-new f = record {
  high = omega arith;
  closed = λ k. cc;
  whole = λ k. cc;
  ended = λ k n. cc;
  reset = λ code k. cc;
  reset_sized = λ k. cc;
  kept = λ at byte k. absurd k;
}

-- what was written grows
pub fits-grown : (f f' : SendFlow) (t : Trace) → Grows f f' → StreamFits f t → StreamFits f' t
fits-grown f f' t g s =
    let n : amount f' ≡ amount f + total_length g.more = ap total_length g.cuts ∙ total-append f.cuts g.more in
    let high = s.high in
    record {
      high = omega arith;
      closed = λ k. still-closed f f' g (s.closed k);
      whole = λ k. let none : total_length g.more ≡ 0 = ap total_length (g.closed (s.closed k)) in let w = s.whole k in omega arith;
      ended = λ k r. g.finished (s.ended k r);
      reset = λ code k. g.reset code (s.reset code k);
      reset_sized = s.reset_sized;
      kept = λ at byte k.
          let P : List ℕ → Type 0 = λ w. IsByteAt 0 w at byte in
          let e : concat f'.cuts ≡ concat f.cuts ++ concat g.more = ap concat g.cuts ∙ concat-append f.cuts g.more in
          subst P (sym e) (byte-more (concat f.cuts) (concat g.more) at byte (s.kept at byte k));
    }

-- what was done to a receiving side agrees with what was written
pub record TrueFrame (f : SendFlow) (offset : ℕ) (bytes : List ℕ) (fin : Bool) : Type 0 where
  pub bytes_are : AreBytesOf offset bytes (concat f.cuts)
  pub within : offset + length bytes ≤ amount f
  pub finished : fin ≡ true → f.finished ≡ true
  pub ends : fin ≡ true → offset + length bytes ≡ amount f

abbrev pub TrueMove : SendFlow → Move → Type 0
TrueMove f (Framed offset bytes fin answer) = TrueFrame f offset bytes fin
TrueMove f (WasReset code final) = (f.reset ≡ Some code) × (final ≡ amount f)
TrueMove f _ = Unit {0}

abbrev pub TrueMoved : (ℕ → SendFlow) → Option (ℕ × Move) → Type 0
TrueMoved f None = Unit {0}
TrueMoved f (Some m) = TrueMove (f m.0) m.1

fits_if : (f : SendFlow) (a b : Trace) (k : Bool) → StreamFits f a → StreamFits f b → StreamFits f (if k then a else b)
fits_if f a b true g h = g
fits_if f a b false g h = h

fits_frame : (f : SendFlow) (t : Trace) (offset : ℕ) (bytes : List ℕ) (fin : Bool) → TrueFrame f offset bytes fin → StreamFits f t → StreamFits f (with_kept_frame offset bytes fin t)
fits_frame f t offset bytes fin k s = fits_if f t _ (is_closed t) s new
  where
    end : ℕ
    end = offset + length bytes

    new : StreamFits f (record t { high = max t.high (offset + length bytes); sized = t.sized || fin; gone = t.stopped && fin; kept = record { offset = offset; bytes = bytes } ∷ t.kept })
    new =
        let high = s.high in
        let within = k.within in
        let most : max t.high (offset + length bytes) ≤ amount f = omega arith in
        record {
          high = most;
          closed = λ e. elim (either_true t.sized fin e) [ inl a ↦ s.closed a | inr b ↦ ended_closed f.reset f.finished (k.finished b) ];
          whole = λ e. elim (either_true t.sized fin e) [
            | inl a ↦ (let w = s.whole a in let x : max t.high (offset + length bytes) ≡ amount f = omega arith in x)
            | inr b ↦ (let w = k.ends b in let x : max t.high (offset + length bytes) ≡ amount f = omega arith in x)
          ];
          ended = λ e r. elim (either_true t.sized fin e) [ inl a ↦ s.ended a r | inr b ↦ k.finished b ];
          reset = s.reset;
          reset_sized = λ e. or_left t.sized fin (s.reset_sized e);
          kept = λ at byte e. elim e [ inl a ↦ k.bytes_are at byte a | inr b ↦ s.kept at byte b ];
        }

fits_reset : (f : SendFlow) (t : Trace) (code final : ℕ) → f.reset ≡ Some code → final ≡ amount f → StreamFits f t → StreamFits f (with_reset code final t)
fits_reset f t code final r e s = fits_if f t _ (is_closed t) s (record {
  high = omega arith;
  closed = λ k. ap (λ (o : Option ℕ). takes_data o f.finished) r;
  whole = λ k. e;
  ended = λ k n. cc;
  reset = λ c k. r ∙ k;
  reset_sized = λ k. refl;
  kept = s.kept;
})

-- the rest does not count
fits_same : (f : SendFlow) (t t' : Trace) → t'.high ≡ t.high → t'.sized ≡ t.sized → t'.reset ≡ t.reset → t'.kept ≡ t.kept → StreamFits f t → StreamFits f t'
fits_same f t t' a b c d s =
    let high = s.high in
    record {
      high = omega arith;
      closed = λ k. s.closed (sym b ∙ k);
      whole = λ k. a ∙ s.whole (sym b ∙ k);
      ended = λ k n. s.ended (sym b ∙ k) (sym c ∙ n);
      reset = λ code k. s.reset code (sym c ∙ k);
      reset_sized = λ k. b ∙ s.reset_sized (sym (ap (λ (o : Option ℕ). is_some o) c) ∙ k);
      kept = λ at byte k. s.kept at byte (subst_kept t t' at byte d k);
    }
  where
    subst_kept : (t t' : Trace) (at byte : ℕ) → t'.kept ≡ t.kept → Carries t'.kept at byte → Carries t.kept at byte
    subst_kept t t' at byte d k = rw d at k

fits_move : (f : SendFlow) (m : Move) (t : Trace) → TrueMove f m → StreamFits f t → StreamFits f (with_move m t)
fits_move f (Framed offset bytes fin answer) t k s = fits_if f (with_kept_frame offset bytes fin t) t (is_frame_kept answer) (fits_frame f t offset bytes fin k s) s
fits_move f (WasReset code final) t k s = fits_reset f t code final k.0 k.1 s
fits_move f (WasRead ordered (Ok (Some chunk))) t k s = fits_same f t _ refl refl refl refl s
fits_move f (WasRead ordered (Ok None)) t k s = fits_same f t _ refl refl refl refl s
fits_move f (WasRead ordered (Err read_error.Blocked)) t k s = s
fits_move f (WasRead ordered (Err (read_error.Reset code))) t k s = fits_same f t _ refl refl refl refl s
fits_move f (WasRead ordered (Err read_error.OutOfMemory)) t k s = s
fits_move f WasStopped t k s = fits_same f t _ refl refl refl refl s
fits_move f WasTold t k s = fits_same f t _ refl refl refl refl s
fits_move f (WasAnnounced limit) t k s = fits_same f t _ refl refl refl refl s

-- something was done to the receiving side of a stream
pub fits-moved : (f : ℕ → SendFlow) (o : Option (ℕ × Move)) (q : ℕ) (t : Trace) → TrueMoved f o → StreamFits (f q) t → StreamFits (f q) (moved o q t)
fits-moved f None q t k s = s
fits-moved f (Some m) q t k s = by_cases (eqb q m.0)
    (λ e. let P : ℕ → Type 0 = λ i. TrueMove (f i) m.1 in
    let at : TrueMove (f q) m.1 = subst P (sym (same q m.0 e)) k in
    fits_if (f q) (with_move m.1 t) t (eqb q m.0) (fits_move (f q) m.1 t at s) s)
    (λ n. rw n s)

-- what an end is told came of the other
pub move-true : (x y : LinkedEnd) (e : Event) → AllTrue x → IsHonest y x e → TrueMoved (sent_on x) (move_of e)
move-true x y (Received id offset bytes fin answer) t k =
    let d = t (frames.Stream (record { id = id; offset = offset; fin = fin; bytes = bytes })) k in
    record { bytes_are = d.bytes; within = d.within; finished = d.finished; ends = d.ends }
move-true x y (ReceivedReset id code final (Ok transmit)) t k = t (frames.ResetStream (record { id = id; error_code = code; final_offset = final })) k
move-true x y (ReceivedReset id code final (Err error)) t k = tt
move-true x y (Stopped id code (Ok u)) t k = tt
move-true x y (Stopped id code (Err error)) t k = tt
move-true x y (ToldReset id (Ok (Some code))) t k = tt
move-true x y (ToldReset id (Ok None)) t k = tt
move-true x y (ToldReset id (Err error)) t k = tt
move-true x y (LeftPending kind None) t k = tt
move-true x y (LeftPending kind (Some (frames.MaxStreamData id limit))) t k = tt
move-true x y (LeftPending kind (Some _)) t k = tt
move-true x y _ t k = tt

-- ---- the limits of streams

-- the limit that is held is not above the one that is enforced
abbrev pub LimitSo : ℕ → SendFlow → Trace → Type 0
LimitSo window f t = f.limit ≤ max window t.announced

abbrev pub TrueLimit : (ℕ → Trace) → Option (ℕ × SendMove) → Type 0
TrueLimit t None = Unit {0}
TrueLimit t (Some m) = by_move (t m.0) m.1
  where
    by_move : Trace → SendMove → Type 0
    by_move k (WasPermitted limit) = limit ≤ k.announced
    by_move k _ = Unit {0}

limit_if : (n : ℕ) (a b : SendFlow) (k : Bool) → a.limit ≤ n → b.limit ≤ n → (if k then a else b).limit ≤ n
limit_if n a b true g h = g
limit_if n a b false g h = h

limit_move : (window : ℕ) (m : SendMove) (f : SendFlow) (t : Trace) → TrueLimit (λ q. t) (Some (0, m)) → LimitSo window f t → LimitSo window (with_send_move m f) t
limit_move window (WasWritten pieces) f t k l = l
limit_move window WasFinished f t k l = l
limit_move window (WasGivenUp code) f t k l = l
limit_move window (WasAskedToStop code) f t k l = l
limit_move window (WasPermitted limit) f t k l = limit_if (max window t.announced) _ f (takes_data f.reset f.finished) (let x : max f.limit (min limit (2 ^ 62 - 1)) ≤ max window t.announced = omega arith in x) l
limit_move window (WasCarried first behind fin) f t k l = limit_if (max window t.announced) _ f _ l l
limit_move window (WasAcked first behind fin) f t k l = limit_if (max window t.announced) _ f _ l l
limit_move window (WasLost first behind fin) f t k l = limit_if (max window t.announced) _ f _ l l
limit_move window WasResetAcked f t k l = l

limit_moved : (window : ℕ) (o : Option (ℕ × SendMove)) (there : ℕ → Bool) (f : ℕ → SendFlow) (t : ℕ → Trace) (q : ℕ) → TrueLimit t o → LimitSo window (f q) (t q) → LimitSo window (send_moved o there q (f q)) (t q)
limit_moved window None there f t q k l = l
limit_moved window (Some m) there f t q k l = by_cases (eqb q m.0)
    (λ e. let P : ℕ → Type 0 = λ i. TrueLimit (λ j. t i) (Some (0, m.1)) in
    let at : TrueLimit (λ j. t q) (Some (0, m.1)) = subst P (sym (same q m.0 e)) k in
    limit_if (max window (t q).announced) (with_send_move m.1 (f q)) (f q) (eqb q m.0 && there q) (limit_move window m.1 (f q) (t q) at l) l)
    (λ n. rw n l)

limit_first : (m : Made) (l : Option PeerLimits) (side : Side) (q : ℕ) (f : SendFlow) (t : Trace) → AreLimitsOf m l → LimitSo m.window f t → LimitSo m.window (with_first_limits l side q f) t
limit_first m None side q f t a k = k
limit_first m (Some limits) side q f t a k =
    let n = first-most m limits side q a in
    let x : max f.limit (first_limit side (first_of limits) q) ≤ max m.window t.announced = omega arith in
    x

limit_true : (x y : LinkedEnd) (e : Event) → AllTrue y → IsHonest x y e → TrueLimit (came_on y) (send_move_of e)
limit_true x y (Sending (RaisedLimit id limit (Ok u))) t k = (t (frames.MaxStreamData id limit) k).0
limit_true x y (Sending (RaisedLimit id limit (Err error))) t k = tt
limit_true x y (Sending (StoppedOwn id code (Ok u))) t k = tt
limit_true x y (Sending (StoppedOwn id code (Err error))) t k = tt
limit_true x y (Sending (WroteOwn id lists closed (Ok written))) t k = tt
limit_true x y (Sending (WroteOwn id lists closed (Err error))) t k = tt
limit_true x y (Sending (FinishedOwn id (Ok u))) t k = tt
limit_true x y (Sending (FinishedOwn id (Err error))) t k = tt
limit_true x y (Sending (ResetOwn id code (Ok u))) t k = tt
limit_true x y (Sending (ResetOwn id code (Err error))) t k = tt
limit_true x y (Sending (AckedOwn id offsets fin (Ok u))) t k = tt
limit_true x y (Sending (AckedOwn id offsets fin (Err error))) t k = tt
limit_true x y (Sending (LostOwn id offsets fin (Ok u))) t k = tt
limit_true x y (Sending (LostOwn id offsets fin (Err error))) t k = tt
limit_true x y (Sending (ResetAckedOwn id (Ok u))) t k = tt
limit_true x y (Sending (ResetAckedOwn id (Err error))) t k = tt
limit_true x y (Sending (TookTurn most fair None)) t k = tt
limit_true x y (Sending (TookTurn most fair (Some frame))) t k = tt
limit_true x y _ t k = tt

-- the end that sends was called
pub limits-sent : (x y : LinkedEnd) (e : Event) (v : World) → AllTrue y → IsHonest x y e → AreLimitsOf y.made (limits_in e) → ((q : ℕ) → LimitSo y.made.window (sent_on x q) (came_on y q))
    → (q : ℕ) → LimitSo y.made.window (sent_on (acted x e v) q) (came_on y q)
limits-sent x y e v t k a l q = flow-called (λ f. LimitSo y.made.window f (came_on y q)) x.made e x.calls q (plain-call x y e k) (λ f l. l) (
    limit_first y.made (limits_in e) x.made.side q _ (came_on y q) a
    (limit_moved y.made.window (send_move_of e) (has_send_side x.made.side (opened_in_all (since x.calls)) (send_tale x.made x.calls).may_open) (sent_on x) (came_on y) q (limit_true x y e t k) (l q)))

-- the end that receives was
pub limits-came : (x y : LinkedEnd) (e : Event) (v : World) → begins_anew (joint_move_of e) ≡ false → ((q : ℕ) → LimitSo y.made.window (sent_on x q) (came_on y q)) → (q : ℕ) → LimitSo y.made.window (sent_on x q) (came_on (acted y e v) q)
limits-came x y e v plain l q = let a = announced-grows e y.calls plain q in let b = l q in omega arith
