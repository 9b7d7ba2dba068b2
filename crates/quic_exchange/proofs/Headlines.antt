-- What linked ends promise is what a caller knows.
use Rattle.std.proofs.Common.{◌≡◌, ℕ, suc, Bool, true, List, [], ◌∷◌, length, ◌<◌, ◌+◌, ◌-◌, refl, sym, ap, ◌∙◌, subst, arith}
use Rattle.std.specs.List.{slice_index}
use Rattle.quic_assembler.specs.Piece.{lies}
use Rattle.quic_receiving.specs.Data.{IsAllGiven}
use Rattle.quic_sending.proofs.Cuts.{length-concat}
use Rattle.quic_wire.specs.declared.frame.Stream.{Stream}
use Rattle.quic_history.specs.History.{ReadChunk, slices}
use Rattle.quic_link.specs.Endpoints.{LinkedEnd, sent_on, came_on}
use Rattle.quic_link.specs.Truths.{AreBytesOf, amount_on}
use Rattle.quic_link.specs.Promises.{TellsTruth, CameAt, EndCame, CameWhole, given_in_order}
use Rattle.quic_link.proofs.Promised.{promised}
use Rattle.quic_link.proofs.Readers.{InRows}
use Rattle.quic_link.proofs.Joint.{agrees}
use Rattle.quic_steps.specs.declared.steps.End.{End}
use Rattle.quic_steps.specs.declared.steps.End.TheVariants.{A, B}
use Rattle.quic_exchange.proofs.Origins.{Origin}
use Rattle.quic_exchange.specs.Sent.{Sent}
use Rattle.quic_exchange.specs.State.{PairState}
use Rattle.quic_exchange.specs.History.{Past}
use Rattle.quic_exchange.specs.Headline.{Headline, IsFaithful, IsDelivered, IsBeginningOf, AreInOrder, SomeStream, HasOffset, HasEnd}
use Rattle.quic_exchange.proofs.Joined.{Knows, IsLike, Joined}

-- ---- bytes at their places are a beginning

byte_tail : (x y : ℕ) (xs ys : List ℕ) → AreBytesOf 0 (x ∷ xs) (y ∷ ys) → AreBytesOf 0 xs ys
byte_tail x y xs ys h at byte k =
    let l : suc at < 0 + length (x ∷ xs) = omega (arith, k.1) in
    let e : suc at - 0 ≡ suc at = omega arith in
    let d : at - 0 ≡ at = omega arith in
    let b : slice_index xs at ≡ byte = rw d at k.2 in
    let t = h (suc at) byte (omega arith, l, rw e b) in
    (omega arith, omega (arith, t.1), rw d (rw e at t.2))

pub beginning : (xs ys : List ℕ) → AreBytesOf 0 xs ys → IsBeginningOf xs ys
beginning [] ys h = (ys, refl)
beginning (x ∷ xs) [] h = let t = h 0 x (omega arith, omega arith, refl) in absurd (omega (arith, t.1))
beginning (x ∷ xs) (y ∷ ys) h =
    let t = h 0 x (omega arith, omega arith, refl) in
    let e : y ≡ x = t.2 in
    let more = beginning xs ys (byte_tail x y xs ys h) in
    (more.0, cc)

in_order : (given : List ReadChunk) → InRows given → AreInOrder given
in_order [] rows = tt
in_order (c ∷ cs) rows = (in_order cs rows.0, rows.1)

-- ---- what came whole was delivered

module _ (p : Past) (sent : List Sent) (who : End) (x y : LinkedEnd) (k : Knows p sent who x y) where
  pub length-written : (q : ℕ) → amount_on x q ≡ length (p.flow who q).written
  length-written q = sym (length-concat (sent_on x q).cuts) ∙ ap length (k.written q)

  like_offset : (offset : ℕ) (bytes : List ℕ) (fin : Bool) (at : ℕ) (s : Stream) → lies offset (offset + length bytes) at ≡ true → IsLike offset bytes fin s → HasOffset at s
  like_offset offset bytes fin at s h l = rw (l.offset_is, l.bytes_are) h

  -- a byte that came stood in a frame that was accepted
  pub came-at : (q at : ℕ) → CameAt y.calls q at → SomeStream sent who q p.accepted (HasOffset at)
  came-at q at came =
      let s = k.accepted q came.offset came.bytes came.fin came.transmit came.is in
      record { at = s.at; listed = s.listed; stream = s.stream; sent_as = s.sent_as; on = s.on; is = like_offset came.offset came.bytes came.fin at s.stream came.has s.is }

  pub end-came : (q : ℕ) → EndCame y.calls q → SomeStream sent who q p.accepted HasEnd
  end-came q came =
      let s = k.accepted q came.offset came.bytes true came.transmit came.is in
      record { at = s.at; listed = s.listed; stream = s.stream; sent_as = s.sent_as; on = s.on; is = s.is.fin_is }

  delivered : (q : ℕ) → CameWhole x y q → IsDelivered (p.flow who q) who q p.accepted sent
  delivered q c = record {
    finished = sym (k.finished q) ∙ c.finished;
    bytes = λ at below. came-at q at (c.bytes at (subst (λ n. at < n) (sym (length-written q)) below));
    end = end-came q c.end;
  }

  -- what is true of linked ends is true of what a caller knows
  pub faithful : (q : ℕ) → TellsTruth x y q → InRows (came_on y q).given → IsFaithful (p.flow who q) who q p.accepted sent
  faithful q t rows =
      let f = p.flow who q in
      let all : (came_on y q).ended ≡ true → IsAllGiven (slices (came_on y q).given) (length f.written) = λ e. subst (IsAllGiven (slices (came_on y q).given)) (length-written q) (t.all e) in
      let bytes : AreBytesOf 0 (given_in_order f.given) f.written = rw (← k.given q, ← k.written q) t.beginning in record {
        beginning = beginning (given_in_order f.given) f.written bytes;
        slices_written = rw (← k.given q, ← k.written q) t.slices_written;
        in_order = rw (← k.given q) (in_order (came_on y q).given rows);
        once = rw (← k.given q) t.once;
        ended = λ e. let told = k.ended q ∙ e in (sym (k.finished q) ∙ t.finished told, subst (λ g. IsAllGiven (slices g) (length f.written)) (k.given q) (all told));
        resets = λ code h. k.resets q code (k.told_resets q code h);
        stops = λ code h. k.stops q code (k.told_stops q code h);
        complete = λ e. delivered q (k.complete q e);
      }

pub headline : (a b : Origin) (p : Past) (v : PairState) → Joined a b p v → Headline p v.sent
headline a b p v j A id = let all = promised j.seen.linked in faithful p v.sent A j.first j.second j.seen.sends id (all.0.truth id) (((agrees j.seen.linked).1).reads.traces id).rows
headline a b p v j B id = let all = promised j.seen.linked in faithful p v.sent B j.second j.first j.seen.receives id (all.1.truth id) (((agrees j.seen.linked).0).reads.traces id).rows
