-- Lemmas on the frames that are written of a stream.
use Rattle.std.proofs.Common.{◌≡◌, ℕ, ℤ, Bool, true, false, List, refl, ap, ◌∙◌}
use Rattle.std.specs.Prelude.{MatchBool, Option, Some, None, Result, Ok, Err, IfOk, OnErr}
use Rattle.quic_sending.specs.Buffer.{Buffered, IsSound}
use Rattle.quic_sending.specs.declared.send.Send.{Send}
use Rattle.quic_outgoing.specs.declared.transmitting.WrittenFrame.{WrittenFrame}
use Rattle.quic_outgoing.specs.Senders.{bare, raised}
use Rattle.quic_values.specs.declared.memory.OutOfMemory.{OutOfMemory}
use Rattle.quic_outgoing.specs.Outgoing.{Outgoing}
use Rattle.quic_outgoing.specs.Transmitting.{AppendsFrame, TransmitsFrame, Transmits, SendsAt, TransmitsAt}

pub by_answer : {P Q : Type 0} (b : Bool) → (b ≡ true → P) → (b ≡ false → Q) → MatchBool b P Q
by_answer true p q = p refl
by_answer false p q = q refl

-- what holds of a buffer does not depend on the room
pub sound-bare : (b : Buffered) → IsSound b → IsSound (record b { room = 0 })
sound-bare b h = record {
  lengths = h.lengths;
  filled = h.filled;
  first = h.first;
  gone_acked = h.gone_acked;
  acked_sent = h.acked_sent;
  sent_written = h.sent_written;
  small = h.small;
  later_in = h.later_in;
  lost_in = h.lost_in;
}

-- what is written does not depend on the room, nor on the limit of the peer
pub frame-bare : (limit most id : ℕ) (s t : Send) (bytes new : List ℕ) (frame : WrittenFrame) → AppendsFrame most id s bytes frame t new
    → AppendsFrame most id (raised limit (bare s)) bytes frame (raised limit (bare t)) new
frame-bare limit most id s t bytes new frame h = record {
  limit = h.limit;
  with_length = h.with_length;
  id_is = h.id_is;
  next = h.next;
  end_is = h.end_is;
  length_is = h.length_is;
  fin_is = h.fin_is;
  ordered = h.ordered;
  written = h.written;
  lost = h.lost;
  after = ap (λ (x : Send). raised limit (bare x)) h.after;
  sound = sound-bare t.pending h.sound;
  more = h.more;
  size = h.size;
  text = λ cuts had. h.text cuts (record { written = had.written; retained = had.retained });
  spelled = h.spelled;
}

pub if_ok : {T E : Type 0} (P Q : T → Type 0) (r : Result T E) → ((x : T) → P x → Q x) → IfOk r P → IfOk r Q
if_ok P Q (Ok x) f p = f x p
if_ok P Q (Err e) f p = tt

pub where_err : {T E P Q : Type 0} (r : Result T E) → (P → Q) → OnErr r P → OnErr r Q
where_err (Ok x) f p = tt
where_err (Err e) f p = f p

pub transmits : (u v : Outgoing) (id most : ℕ) (bytes new : List ℕ) (r : Result WrittenFrame OutOfMemory)
    → IfOk r (λ frame. TransmitsFrame u.halves id most bytes frame v.halves new) → OnErr r (v.halves ≡ u.halves) → OnErr r (new ≡ bytes)
    → v ≡ record u { halves = v.halves } → Transmits u id most bytes r v new
transmits u v id most bytes new (Ok frame) h halves same is = (h, is)
transmits u v id most bytes new (Err e) h halves same is = (is ∙ ap (λ f. record u { halves = f }) halves, same)

pub transmits_at : (u v : Outgoing) (id : ℕ) (priority : ℤ) (most : ℕ) (bytes new : List ℕ) (r : Result (Option WrittenFrame) OutOfMemory)
    → SendsAt u.halves id priority most bytes r v.halves new → v ≡ record u { halves = v.halves } → TransmitsAt u id priority most bytes r v new
transmits_at u v id priority most bytes new (Ok (Some frame)) h is = (h.0, (h.1, is))
transmits_at u v id priority most bytes new (Ok None) h is = (h.0, is ∙ ap (λ f. record u { halves = f }) h.1, h.2)
transmits_at u v id priority most bytes new (Err e) h is = (h.0, (is ∙ ap (λ f. record u { halves = f }) h.1, h.2))
