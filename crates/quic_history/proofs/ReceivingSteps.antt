-- What the calls on the receiving side are made of: what holds of each part holds of each call.
use Rattle.std.proofs.Common.{◌≡◌, ℕ, Bool, true, false, List, Option, Some, None, is_some, Result, Ok, Err, refl, sym, ◌∙◌, subst, inl, inr, ◌-◌, ◌+◌}
use Rattle.std.specs.Prelude.{◌==◌, not, nat_le, if◌then◌else◌}
use Rattle.quic_values.specs.declared.ids.Dir.{Dir}
use Rattle.quic_values.specs.declared.ids.Dir.TheVariants.{Bi, Uni}
use Rattle.quic_values.specs.Ids.{dir_of, index_of}
use Rattle.quic_assembler.specs.declared.chunk.Chunk.{Chunk}
use Rattle.quic_wire.specs.declared.event.StreamEvent.{StreamEvent}
use Rattle.quic_wire.specs.declared.error.ReceiveError.{ReceiveError}
use Rattle.quic_wire.specs.declared.error.ReceiveError.TheVariants as receive_error
use Rattle.quic_limits.specs.Remote as remote
use Rattle.quic_limits.specs.Remote.{Remote}
use Rattle.quic_receiving.specs.Half.{Half, stop_credit}
use Rattle.quic_receiving.specs.declared.transmit.ShouldTransmit.{ShouldTransmit}
use Rattle.quic_receiving.specs.declared.errors.ReadError.{ReadError}
use Rattle.quic_receiving.specs.declared.errors.ReadError.TheVariants as read_error
use Rattle.quic_receiving.specs.declared.errors.ReadableError.{ReadableError}
use Rattle.quic_receiving.specs.declared.errors.ReadableError.TheVariants as readable_error
use Rattle.quic_sending.specs.declared.errors.HandleError.{HandleError}
use Rattle.quic_sending.specs.declared.errors.HandleError.TheVariants as handle_error
use Rattle.quic_retransmits.specs.Pending.{Pending}
use Rattle.quic_history.specs.World.{World, sends, is_own, remote_of, with_remote, with_receive, with_permitted, permitted_if, replaced_in, released, with_freed, told, told_readable, noticed, with_credit, with_counted, advanced}
use Rattle.quic_history.specs.Receiving.{Receives, ReceivesReset, after_data, after_reset, credited_to}
use Rattle.quic_history.specs.Reading.{Begins, Stops, TellsReset, after_read, after_stop}
use Rattle.quic_history.proofs.StreamSteps.{noticed-any, opened-max}

-- what a relation of the end before to the end after has to hold of
pub record Stays (R : World → World → Type 0) : Type 0 where
  pub none : (u : World) → R u u
  pub onward : (u v w : World) → R u v → R v w → R u w
  pub put : (u : World) (id : ℕ) (o : Option Half) → R u (with_receive u id o)
  pub counts : (u : World) (d : Dir) (r : Remote) → r.max_remote ≡ (remote_of u d).max_remote → r.next_reported ≡ (remote_of u d).next_reported → R u (with_remote u d r)
  pub told : (u : World) (e : StreamEvent) → R u (told u e)
  pub credit : (u : World) (n : ℕ) → R u (with_credit u n)
  pub counted : (u : World) (n : ℕ) → R u (with_counted u n)
  -- a stream of the peer takes the place of one that is freed
  pub permitted : (u : World) (d : Dir) → R u (with_permitted (with_remote u d (remote.one_permitted (remote.freed (remote_of u d)))) d (remote_of u d).max_remote)

pub opened-reported : (r : Remote) (index : ℕ) (b : Bool) → (if b then record r { next_remote = index + 1; opened = true } else r).next_reported ≡ r.next_reported
opened-reported r index true = refl
opened-reported r index false = refl

module _ (R : World → World → Type 0) (parts : Stays R) where
  pub stays-at : (u v w : World) → v ≡ w → R u w → R u v
  stays-at u v w e k = let P : World → Type 0 = λ x. R u x in subst P (sym e) k

  pub stays-same : (u v : World) → v ≡ u → R u v
  stays-same u v e = stays-at u v u e (parts.none u)

  stays_if : (u v w : World) (b : Bool) → R u v → R u w → R u (if b then v else w)
  stays_if u v w true k l = k
  stays_if u v w false k l = l

  stays_readable : (u : World) (id : ℕ) (b : Bool) → R u (told_readable u id b)
  stays_readable u id true = parts.told u _
  stays_readable u id false = parts.none u

  pub stays-noticed : (u : World) (id : ℕ) (b : Bool) → R u (noticed u id b)
  stays-noticed u id b =
      let P : World → Type 0 = λ x. R u x in
      let r : Remote = remote_of u (dir_of id) in
      noticed-any P u id b (stays_readable u id b)
      (parts.counts u (dir_of id) _ (opened-max r (index_of id) (nat_le r.next_remote (index_of id))) (opened-reported r (index_of id) (nat_le r.next_remote (index_of id))))

  stays_credit : (u v : World) (n : ℕ) → R u v → R u (with_credit v n)
  stays_credit u v n k = parts.onward u v _ k (parts.credit v n)

  -- ---- a half is freed

  replaced_if : (u : World) (d : Dir) (b : Bool)
      → R u (permitted_if (with_remote u d (if b then remote.one_permitted (remote.freed (remote_of u d)) else remote.freed (remote_of u d))) d (if b then Some (remote_of u d).max_remote else None))
  replaced_if u d true = parts.permitted u d
  replaced_if u d false = parts.counts u d (remote.freed (remote_of u d)) refl refl

  pub stays-replaced : (u : World) (d : Dir) → R u (replaced_in u d)
  stays-replaced u d = replaced_if u d (remote.lacks_streams (remote.freed (remote_of u d)))

  stays_released : (u : World) (d : Dir) (id : ℕ) → R u (released u d id)
  stays_released u Uni id = stays-replaced u Uni
  stays_released u Bi id = stays_if u u (replaced_in u Bi) ((sends u) id) (parts.none u) (stays-replaced u Bi)

  stays_freed : (u : World) (id : ℕ) → R u (with_freed u id)
  stays_freed u id =
      let w = with_receive u id None in
      stays_if u w (released w (dir_of id) id) (is_own w id) (parts.put u id None) (parts.onward u w _ (parts.put u id None) (stays_released w (dir_of id) id))

  -- ---- the calls

  stays_advanced : (u : World) (id : ℕ) (old new : Half) → R u (advanced u id old new)
  stays_advanced u id old new = parts.onward u (with_receive u id (Some new)) _ (parts.put u id (Some new)) (parts.counted (with_receive u id (Some new)) (new.end - old.end))

  stays_data : (u : World) (id : ℕ) (old new : Half) (fin stopped : Bool)
      → R u (if stopped then with_credit (if fin then with_freed (advanced u id old new) id else advanced u id old new) (new.end - old.end) else noticed (advanced u id old new) id true)
  stays_data u id old new fin true =
      let w = advanced u id old new in
      let k = stays_advanced u id old new in
      stays_credit u (if fin then with_freed w id else w) (new.end - old.end) (stays_if u (with_freed w id) w fin (parts.onward u w _ k (stays_freed w id)) k)
  stays_data u id old new fin false =
      let w = advanced u id old new in
      parts.onward u w _ (stays_advanced u id old new) (stays-noticed w id true)

  pub stays-received : (u v : World) (id offset : ℕ) (bytes : List ℕ) (fin : Bool) (answer : Result ShouldTransmit ReceiveError) → Receives u id offset bytes fin answer v → R u v
  stays-received u v id offset bytes fin (Ok transmit) (inl s) = stays-same u v s.3
  stays-received u v id offset bytes fin (Ok transmit) (inr s) = stays-at u v (after_data u id s.1 s.2 fin) s.5 (stays_data u id s.1 s.2 fin s.1.stopped)
  stays-received u v id offset bytes fin (Err (receive_error.Transport error)) (inl s) = stays-same u v s.1
  stays-received u v id offset bytes fin (Err (receive_error.Transport error)) (inr s) = stays-at u v (advanced u id s.0 s.1) s.3 (stays_advanced u id s.0 s.1)
  stays-received u v id offset bytes fin (Err receive_error.CompactionMemory) s = stays-at u v (advanced u id s.0 s.1) s.3 (stays_advanced u id s.0 s.1)
  stays-received u v id offset bytes fin (Err receive_error.OutOfMemory) s = stays-same u v s

  stays_rest : (u v : World) (n : ℕ) (b : Bool) → R u v → R u (if b then v else with_credit v n)
  stays_rest u v n true s = s
  stays_rest u v n false s = stays_credit u v n s

  pub stays-reset : (u v : World) (id code final : ℕ) (answer : Result ShouldTransmit ReceiveError) → ReceivesReset u id code final answer v → R u v
  stays-reset u v id code final (Ok transmit) (inl s) = stays-same u v s.3
  stays-reset u v id code final (Ok transmit) (inr (inl s)) = stays-same u v s.4
  stays-reset u v id code final (Ok transmit) (inr (inr s)) =
      let old = s.0 in
      let new = s.1 in
      let w = advanced u id old new in
      let x = noticed w id (not old.stopped) in
      let at_x = parts.onward u w x (stays_advanced u id old new) (stays-noticed w id (not old.stopped)) in
      stays-at u v (after_reset u id old new) s.4
      (stays_rest u (if old.stopped then with_freed x id else x) (new.end - credited_to old) (new.end - credited_to old == 0)
      (stays_if u (with_freed x id) x old.stopped (parts.onward u x _ at_x (stays_freed x id)) at_x))
  stays-reset u v id code final (Err (receive_error.Transport error)) (inl s) = stays-same u v s.1
  stays-reset u v id code final (Err (receive_error.Transport error)) (inr s) = stays-same u v s.3
  stays-reset u v id code final (Err receive_error.CompactionMemory) s = absurd s
  stays-reset u v id code final (Err receive_error.OutOfMemory) s = stays-same u v s

  pub stays-began : (u v : World) (id : ℕ) (ordered : Bool) (answer : Result (Unit {0}) ReadableError) → Begins u id ordered answer v → R u v
  stays-began u v id ordered (Ok x) s = stays-at u v _ s.is (parts.put u id (Some s.new))
  stays-began u v id ordered (Err readable_error.ClosedStream) s = stays-same u v s.1
  stays-began u v id ordered (Err readable_error.IllegalOrderedRead) s = stays-at u v _ s.is (parts.put u id (Some s.new))
  stays-began u v id ordered (Err readable_error.OutOfMemory) (inl s) = stays-same u v s
  stays-began u v id ordered (Err readable_error.OutOfMemory) (inr s) = stays-at u v _ s.is (parts.put u id (Some s.new))

  stays_read : (u : World) (id : ℕ) (new : Half) (answer : Result (Option Chunk) ReadError) → R u (after_read u id new answer)
  stays_read u id new (Ok (Some chunk)) = parts.put u id (Some new)
  stays_read u id new (Ok None) = stays_freed u id
  stays_read u id new (Err read_error.Blocked) = parts.put u id (Some new)
  stays_read u id new (Err (read_error.Reset code)) = stays_freed u id
  stays_read u id new (Err read_error.OutOfMemory) = parts.put u id (Some new)

  pub stays-gave : (u v : World) (id : ℕ) (new : Half) (answer : Result (Option Chunk) ReadError) → v ≡ after_read u id new answer → R u v
  stays-gave u v id new answer e = stays-at u v _ e (stays_read u id new answer)

  pub stays-stopped : (u v : World) (id code : ℕ) (answer : Result (Unit {0}) HandleError) (p q : Pending) → Stops u id code p answer v q → R u v
  stays-stopped u v id code (Ok x) p q s =
      stays-at u v (after_stop u id s.0 s.1) s.6
      (stays_credit u (if is_some s.0.size then with_freed u id else with_receive u id (Some s.1)) (stop_credit s.0)
      (stays_if u (with_freed u id) (with_receive u id (Some s.1)) (is_some s.0.size) (stays_freed u id) (parts.put u id (Some s.1))))
  stays-stopped u v id code (Err handle_error.ClosedStream) p q s = stays-same u v s.1
  stays-stopped u v id code (Err handle_error.OutOfMemory) p q s = stays-same u v s.0

  pub stays-told-reset : (u v : World) (id : ℕ) (answer : Result (Option ℕ) HandleError) (p q : Pending) → TellsReset u id p answer v q → R u v
  stays-told-reset u v id (Ok (Some code)) p q s = stays-at u v _ s.4 (stays_freed u id)
  stays-told-reset u v id (Ok None) p q s = stays-same u v s.4
  stays-told-reset u v id (Err handle_error.ClosedStream) p q s = stays-same u v s.1
  stays-told-reset u v id (Err handle_error.OutOfMemory) p q s = stays-same u v s.3
