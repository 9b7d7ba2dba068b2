-- What the calls on the receiving side leave of the sending sides: all, but that a stream of the peer may be permitted.
use Rattle.std.proofs.Common.{◌≡◌, ℕ, Bool, true, false, List, Option, Some, None, is_some, Result, Ok, Err, refl, sym, ◌∙◌, subst, inl, inr, ◌-◌}
use Rattle.std.specs.Prelude.{◌==◌, not, nat_le, if◌then◌else◌}
use Rattle.quic_values.specs.declared.ids.Dir.{Dir}
use Rattle.quic_values.specs.declared.ids.Dir.TheVariants.{Bi, Uni}
use Rattle.quic_values.specs.Ids.{dir_of, index_of}
use Rattle.quic_assembler.specs.declared.chunk.Chunk.{Chunk}
use Rattle.quic_wire.specs.declared.event.StreamEvent.{StreamEvent}
use Rattle.quic_wire.specs.declared.error.ReceiveError.{ReceiveError}
use Rattle.quic_wire.specs.declared.error.ReceiveError.TheVariants as receive_error
use Rattle.quic_limits.specs.Remote as remote
use Rattle.quic_limits.specs.Remote.{Remote}
use Rattle.quic_receiving.specs.Half.{Half, stop_credit}
use Rattle.quic_receiving.specs.declared.transmit.ShouldTransmit.{ShouldTransmit}
use Rattle.quic_receiving.specs.declared.errors.ReadError.{ReadError}
use Rattle.quic_receiving.specs.declared.errors.ReadError.TheVariants as read_error
use Rattle.quic_receiving.specs.declared.errors.ReadableError.{ReadableError}
use Rattle.quic_receiving.specs.declared.errors.ReadableError.TheVariants as readable_error
use Rattle.quic_sending.specs.declared.errors.HandleError.{HandleError}
use Rattle.quic_sending.specs.declared.errors.HandleError.TheVariants as handle_error
use Rattle.quic_retransmits.specs.Pending.{Pending}
use Rattle.quic_flows.specs.Flow.{SendFlow}
use Rattle.quic_history.specs.Flows.{AllFlows}
use Rattle.quic_history.specs.World.{World, sends, is_own, remote_of, with_remote, with_receive, with_permitted, permitted_if, replaced_in, released, with_freed, told, told_readable, noticed, with_credit, with_counted, with_send_streams}
use Rattle.quic_history.specs.Receiving.{Receives, ReceivesReset, after_data, after_reset, credited_to}
use Rattle.quic_history.specs.Reading.{Begins, Stops, TellsReset, after_read, after_stop}
use Rattle.quic_history.specs.Permitting.{after_concurrent}
use Rattle.quic_history.proofs.ReceivingSteps.{Stays, stays-noticed, stays-replaced, stays-received, stays-reset, stays-began, stays-gave, stays-stopped, stays-told-reset}
use Rattle.quic_history.proofs.SendSides.{SameSides, sides-none, flows-same, flows-next, flows-more}

-- a call after which as much is true of the sending sides as before
pub record Leaves (u v : World) : Type 0 where
  pub flows : (f : ℕ → SendFlow) → AllFlows f u.out u.bi.max_remote → AllFlows f v.out v.bi.max_remote
  pub first : v.out.first ≡ u.out.first
  pub buffered : v.out.budget.buffered_data ≡ u.out.budget.buffered_data
  pub window : v.out.budget.send_window ≡ u.out.budget.send_window

pub leaves-none : (u : World) → Leaves u u
leaves-none u = record { flows = λ f all. all; first = refl; buffered = refl; window = refl }

pub leaves-then : (u v w : World) → Leaves u v → Leaves v w → Leaves u w
leaves-then u v w s t = record {
  flows = λ f all. t.flows f (s.flows f all);
  first = t.first ∙ s.first;
  buffered = t.buffered ∙ s.buffered;
  window = t.window ∙ s.window;
}

pub leaves-at : (u v w : World) → v ≡ w → Leaves u w → Leaves u v
leaves-at u v w e s = let P : World → Type 0 = λ x. Leaves u x in subst P (sym e) s

pub leaves-same : (u v : World) → v ≡ u → Leaves u v
leaves-same u v e = leaves-at u v u e (leaves-none u)

-- the same sending sides, and as many streams of the peer
pub leaves-sides : (u v : World) → SameSides u.out v.out → v.bi.max_remote ≡ u.bi.max_remote → Leaves u v
leaves-sides u v s e = record {
  flows = λ f all. let P : ℕ → Type 0 = λ n. AllFlows f v.out n in subst P (sym e) (flows-same f u.out v.out u.bi.max_remote s all);
  first = s.first;
  buffered = s.buffered;
  window = s.window;
}

leaves_put : (u : World) (id : ℕ) (o : Option Half) → Leaves u (with_receive u id o)
unfolding with_receive
leaves_put u id o = leaves-sides u (with_receive u id o) (sides-none u.out) refl

pub leaves-remote : (u : World) (d : Dir) (r : Remote) → r.max_remote ≡ (remote_of u d).max_remote → Leaves u (with_remote u d r)
leaves-remote u Bi r e = leaves-sides u (with_remote u Bi r) (sides-none u.out) e
leaves-remote u Uni r e = leaves-sides u (with_remote u Uni r) (sides-none u.out) refl

pub leaves-counted : (u v : World) (n : ℕ) → Leaves u v → Leaves u (with_send_streams v n)
leaves-counted u v n s = record { flows = s.flows; first = s.first; buffered = s.buffered; window = s.window }

pub leaves-told : (u : World) (e : StreamEvent) → Leaves u (told u e)
leaves-told u e = leaves-sides u (told u e) (sides-none u.out) refl

-- a stream of the peer takes the place of one that is freed
leaves_next : (u : World) (d : Dir) → Leaves u (with_permitted (with_remote u d (remote.one_permitted (remote.freed (remote_of u d)))) d (remote_of u d).max_remote)
unfolding with_receive
leaves_next u Bi = record { flows = λ f all. flows-next f u.out u.bi.max_remote all; first = refl; buffered = refl; window = refl }
leaves_next u Uni = record { flows = λ f all. all; first = refl; buffered = refl; window = refl }

leaves_parts : Stays Leaves
leaves_parts = record {
  none = leaves-none;
  onward = leaves-then;
  put = leaves_put;
  counts = λ u d r m reported. leaves-remote u d r m;
  told = leaves-told;
  credit = λ u n. leaves-sides u (with_credit u n) (sides-none u.out) refl;
  counted = λ u n. leaves-sides u (with_counted u n) (sides-none u.out) refl;
  permitted = leaves_next;
}

pub leaves-noticed : (u : World) (id : ℕ) (b : Bool) → Leaves u (noticed u id b)
leaves-noticed = stays-noticed Leaves leaves_parts

pub leaves-replaced : (u : World) (d : Dir) → Leaves u (replaced_in u d)
leaves-replaced = stays-replaced Leaves leaves_parts

-- more are permitted at once
pub leaves-concurrent : (u : World) (d : Dir) (count : ℕ) → Leaves u (after_concurrent u d count)
leaves-concurrent u Bi count = record { flows = λ f all. flows-more f u.out u.bi.max_remote (remote.lacking u.bi count) all; first = refl; buffered = refl; window = refl }
leaves-concurrent u Uni count = record { flows = λ f all. all; first = refl; buffered = refl; window = refl }

-- ---- the calls

pub leaves-received : (u v : World) (id offset : ℕ) (bytes : List ℕ) (fin : Bool) (answer : Result ShouldTransmit ReceiveError) → Receives u id offset bytes fin answer v → Leaves u v
leaves-received = stays-received Leaves leaves_parts

pub leaves-reset : (u v : World) (id code final : ℕ) (answer : Result ShouldTransmit ReceiveError) → ReceivesReset u id code final answer v → Leaves u v
leaves-reset = stays-reset Leaves leaves_parts

pub leaves-began : (u v : World) (id : ℕ) (ordered : Bool) (answer : Result (Unit {0}) ReadableError) → Begins u id ordered answer v → Leaves u v
leaves-began = stays-began Leaves leaves_parts

pub leaves-gave : (u v : World) (id : ℕ) (new : Half) (answer : Result (Option Chunk) ReadError) → v ≡ after_read u id new answer → Leaves u v
leaves-gave = stays-gave Leaves leaves_parts

pub leaves-stopped : (u v : World) (id code : ℕ) (answer : Result (Unit {0}) HandleError) (p q : Pending) → Stops u id code p answer v q → Leaves u v
leaves-stopped = stays-stopped Leaves leaves_parts

pub leaves-told-reset : (u v : World) (id : ℕ) (answer : Result (Option ℕ) HandleError) (p q : Pending) → TellsReset u id p answer v q → Leaves u v
leaves-told-reset = stays-told-reset Leaves leaves_parts
