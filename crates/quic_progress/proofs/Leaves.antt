-- What the calls of an end leave of what it announced: all but writing a limit as a frame.
use Rattle.std.proofs.Common.{◌≡◌, ◌⊎◌, ℕ, Bool, true, false, eqb, List, Option, Some, None, Result, Ok, Err, is_some, length, refl, sym, ap, ◌∙◌, subst, inl, inr, arith, ◌≤◌, ◌+◌, ◌-◌, ◌^◌}
use Rattle.std.specs.Prelude.{ℤ, ◌==◌, ◌&&◌, not, nat_le, nat_lt, is_none, min, if◌then◌else◌}
use Rattle.std.proofs.lemmas.Option.{same_Some, none-some}
use Rattle.quic_values.specs.declared.memory.OutOfMemory.{OutOfMemory}
use Rattle.quic_values.specs.declared.ids.Dir.{Dir}
use Rattle.quic_values.specs.declared.ids.Dir.TheVariants.{Bi, Uni}
use Rattle.quic_values.specs.Ids.{stream_id, other_side, dir_of, index_of}
use Rattle.quic_assembler.specs.declared.chunk.Chunk.{Chunk}
use Rattle.quic_assembler.specs.declared.errors.EnsureError.{EnsureError}
use Rattle.quic_assembler.specs.declared.errors.EnsureError.TheVariants as ensure_error
use Rattle.quic_wire.specs.declared.event.StreamEvent.TheVariants as stream_event
use Rattle.quic_wire.specs.declared.error.ReceiveError.{ReceiveError}
use Rattle.quic_wire.specs.declared.error.ReceiveError.TheVariants as receive_error
use Rattle.quic_wire.specs.declared.event.StreamEvent.{StreamEvent}
use Rattle.quic_limits.specs.Credit.{Credit, counted, credited, max_data_of}
use Rattle.quic_limits.specs.Remote as remote
use Rattle.quic_limits.specs.Remote.{Remote}
use Rattle.quic_sending.specs.declared.errors.HandleError.{HandleError}
use Rattle.quic_sending.specs.declared.errors.HandleError.TheVariants as handle_error
use Rattle.quic_receiving.specs.Half.{Half, new_half, is_open, counted_to}
use Rattle.quic_receiving.specs.Calls.{TakesFrame, KeepsBytes, Orders, Waits}
use Rattle.quic_receiving.specs.declared.errors.ReadError.{ReadError}
use Rattle.quic_receiving.specs.declared.errors.ReadError.TheVariants as read_error
use Rattle.quic_receiving.specs.declared.errors.ReadableError.{ReadableError}
use Rattle.quic_receiving.specs.declared.errors.ReadableError.TheVariants as readable_error
use Rattle.quic_receiving.specs.declared.transmit.ShouldTransmit.{ShouldTransmit}
use Rattle.quic_outgoing.specs.Outgoing.{Outgoing, with_send_half}
use Rattle.quic_outgoing.specs.Senders.{is_between}
use Rattle.quic_outgoing.specs.Calls.{StopsSending}
use Rattle.quic_outgoing.specs.Acknowledging.{AcksStream}
use Rattle.quic_history.specs.Halves.{with_half, with_more}
use Rattle.quic_history.specs.World.{World, is_own, sends, remote_of, with_remote, with_receive, with_permitted, permitted_if, replaced_in, released, with_freed, told, told_readable, noticed, with_credit, with_counted, with_receive_window, advanced}
use Rattle.quic_history.specs.Receiving.{Receives, ReceivesReset, after_data, after_reset, credited_to}
use Rattle.quic_history.specs.Reading.{Begins, Asks, ReadsHalf, after_stop}
use Rattle.quic_history.specs.Permitting.{SetsConcurrent, after_concurrent, with_more_permitted, with_accepted}
use Rattle.quic_history.specs.Sends.{with_out, is_permitted, with_opened, TellsNext, PollsQueue, told_writable, after_first_stop, with_own_count}
use Rattle.quic_history.specs.Writes.{with_queued}
use Rattle.quic_history.specs.Acknowledged.{with_send_freed, without_sender, told_finished, frees_reset}
use Rattle.quic_history.specs.SendEvents.{SendEvent, SendStep, GaveLimits, OpenedOwn, RaisedData, RaisedCount, RaisedLimit, StoppedOwn, SetWindow, WroteOwn, FinishedOwn, ResetOwn, SetOwnPriority, AckedOwn, LostOwn, ResetAckedOwn, TookTurn, Polled}
use Rattle.quic_history.specs.History.{Event, Received, ReceivedReset, AddedCredits, Began, Gave, Ended, Stopped, ToldReset, Resized, SetConcurrent, Accepted, LeftPending, Sending, Rejected, SentAgain, Step}
use Rattle.quic_history.proofs.WorldSteps.{receive-there, credit-with_receive, window-with_receive}
use Rattle.quic_history.proofs.Totals.{by_cases, same}
use Rattle.quic_history.proofs.StreamSteps.{noticed-any}
use Rattle.quic_history.proofs.SendFreed.{send-freed}
use Rattle.quic_history.proofs.SendSteps.{either-way}

-- ---- halves

-- a half with the last limit that was announced; where a reader is at it, it may have read more
pub record KeepsHalf (reads : Bool) (h k : Half) : Type 0 where
  pub sent : k.sent_max ≡ h.sent_max
  pub opens : is_open k ≡ true → is_open h ≡ true
  pub grows : h.buffer.bytes_read ≤ k.buffer.bytes_read
  pub read : (reads ≡ true) ⊎ (k.buffer.bytes_read ≡ h.buffer.bytes_read)

-- a half of which nothing was announced
pub record IsNewHalf (window : ℕ) (reads : Bool) (k : Half) : Type 0 where
  pub sent : k.sent_max ≡ window
  pub read : (reads ≡ true) ⊎ (k.buffer.bytes_read ≡ 0)

-- a half that is held was, or it is new
abbrev pub HalfGoes : ℕ → Bool → Option Half → Option Half → Type 0
HalfGoes window reads o None = Unit {0}
HalfGoes window reads o (Some k) = IsNewHalf window reads k ⊎ ((h : Half) × (o ≡ Some h) × KeepsHalf reads h k)

keeps_same : (reads : Bool) (h : Half) → KeepsHalf reads h h
keeps_same reads h = record { sent = refl; opens = λ e. e; grows = omega arith; read = inr refl }

pub goes-same : (window : ℕ) (reads : Bool) (o p : Option Half) → p ≡ o → HalfGoes window reads o p
goes-same window reads o None e = tt
goes-same window reads o (Some k) e = inr (k, sym e, keeps_same reads k)

goes_new : (window : ℕ) (reads : Bool) (o : Option Half) → HalfGoes window reads o (Some (new_half window))
goes_new window reads o = inl (record { sent = refl; read = inr refl })

keeps_then : (reads : Bool) (h k l : Half) → KeepsHalf reads h k → KeepsHalf reads k l → KeepsHalf reads h l
keeps_then reads h k l a b = record {
  sent = b.sent ∙ a.sent;
  opens = λ e. a.opens (b.opens e);
  grows = let x = a.grows in let y = b.grows in omega (arith, x, y);
  read = elim b.read [ inl r ↦ inl r | inr e ↦ elim a.read [ inl r ↦ inl r | inr d ↦ inr (e ∙ d) ] ];
}

new_then : (window : ℕ) (reads : Bool) (k l : Half) → IsNewHalf window reads k → KeepsHalf reads k l → IsNewHalf window reads l
new_then window reads k l a b = record {
  sent = b.sent ∙ a.sent;
  read = elim b.read [ inl r ↦ inl r | inr e ↦ elim a.read [ inl r ↦ inl r | inr d ↦ inr (e ∙ d) ] ];
}

goes_then : (window : ℕ) (reads : Bool) (o p r : Option Half) → HalfGoes window reads o p → HalfGoes window reads p r → HalfGoes window reads o r
goes_then window reads o p None a b = tt
goes_then window reads o None (Some l) a b = elim b [ inl n ↦ inl n | inr k ↦ absurd (none-some k.0 k.1) ]
goes_then window reads o (Some k) (Some l) a b = elim b [
  | inl n ↦ inl n
  | inr c ↦ (
      let P : Half → Type 0 = λ x. KeepsHalf reads x l in
      let d : KeepsHalf reads k l = subst P (sym (same_Some k c.0 c.1)) c.2 in
      elim a [ inl n ↦ inl (new_then window reads k l n d) | inr h ↦ inr (h.0, h.1, keeps_then reads h.0 k l h.2 d) ]
      )
]

-- ---- ends

-- what calls may do beside
-- reads: the streams that may be read
-- credits: whether bytes may be consumed
-- resizes: whether the receive window may be set
-- frees: whether streams of the peer may be freed, or more permitted
pub record May : Type 0 where
  pub reads : ℕ → Bool
  pub credits : Bool
  pub resizes : Bool
  pub frees : Bool

abbrev pub SameRoom : Credit → Credit → Type 0
SameRoom c d = (d.local_max_data ≡ c.local_max_data) × (d.shrink_debt ≡ c.shrink_debt) × (d.receive_window ≡ c.receive_window)

abbrev pub SameCount : Remote → Remote → Type 0
SameCount r k = (k.max_remote ≡ r.max_remote) × (k.max_concurrent ≡ r.max_concurrent)

-- an end announced nothing more, and did no more than it may
pub record Leaves (m : May) (u v : World) : Type 0 where
  pub window : v.window ≡ u.window
  pub whole : v.credit.sent_max_data ≡ u.credit.sent_max_data
  pub rises : max_data_of u.credit ≤ max_data_of v.credit
  pub size : (m.resizes ≡ true) ⊎ (v.credit.receive_window ≡ u.credit.receive_window)
  pub room : (m.credits ≡ true) ⊎ SameRoom u.credit v.credit
  pub counts : (d : Dir) → (remote_of v d).sent_max_remote ≡ (remote_of u d).sent_max_remote
  pub permits : (m.frees ≡ true) ⊎ ((d : Dir) → SameCount (remote_of u d) (remote_of v d))
  pub halves : (q : ℕ) → HalfGoes u.window (m.reads q) (u.receive q) (v.receive q)

pub leaves-same : (m : May) (u : World) → Leaves m u u
leaves-same m u = record { window = refl; whole = refl; rises = omega arith; size = inr refl; room = inr (refl, refl, refl); counts = λ d. refl; permits = inr (λ d. (refl, refl)); halves = λ q. goes-same u.window (m.reads q) (u.receive q) (u.receive q) refl }

pub leaves-then : (m : May) (u v w : World) → Leaves m u v → Leaves m v w → Leaves m u w
leaves-then m u v w a b = record {
  window = b.window ∙ a.window;
  whole = b.whole ∙ a.whole;
  rises = let x = a.rises in let y = b.rises in omega (arith, x, y);
  size = elim a.size [ inl c ↦ inl c | inr x ↦ elim b.size [ inl c ↦ inl c | inr y ↦ inr (y ∙ x) ] ];
  room = elim a.room [ inl c ↦ inl c | inr x ↦ elim b.room [ inl c ↦ inl c | inr y ↦ inr (y.0 ∙ x.0, y.1 ∙ x.1, y.2 ∙ x.2) ] ];
  counts = λ d. b.counts d ∙ a.counts d;
  permits = elim a.permits [ inl c ↦ inl c | inr x ↦ elim b.permits [ inl c ↦ inl c | inr y ↦ inr (λ d. ((y d).0 ∙ (x d).0, (y d).1 ∙ (x d).1)) ] ];
  halves = λ q. let P : ℕ → Type 0 = λ n. HalfGoes n (m.reads q) (v.receive q) (w.receive q) in
      goes_then u.window (m.reads q) (u.receive q) (v.receive q) (w.receive q) (a.halves q) (subst P a.window (b.halves q));
}

pub leaves-at : (m : May) (u v w : World) → v ≡ w → Leaves m u w → Leaves m u v
leaves-at m u v w e l = let P : World → Type 0 = λ x. Leaves m u x in subst P (sym e) l

module _ (m : May) where
  -- nothing changes of its receiving side
  pub beside : (u v : World) → v.window ≡ u.window → v.credit ≡ u.credit → v.bi ≡ u.bi → v.uni ≡ u.uni → v.receive ≡ u.receive → Leaves m u v
  beside u v window credit bi uni receive = record { window = window; whole = ap (λ (c : Credit). c.sent_max_data) credit; rises = omega (arith, ap (λ (c : Credit). max_data_of c) credit); size = inr (ap (λ (c : Credit). c.receive_window) credit); room = inr (ap (λ (c : Credit). c.local_max_data) credit, ap (λ (c : Credit). c.shrink_debt) credit, ap (λ (c : Credit). c.receive_window) credit); counts = both; permits = inr same_both; halves = λ q. goes-same u.window (m.reads q) (u.receive q) (v.receive q) (ap (λ f. f q) receive) }
    where
      both : (d : Dir) → (remote_of v d).sent_max_remote ≡ (remote_of u d).sent_max_remote
      both Bi = ap (λ (r : Remote). r.sent_max_remote) bi
      both Uni = ap (λ (r : Remote). r.sent_max_remote) uni

      same_both : (d : Dir) → SameCount (remote_of u d) (remote_of v d)
      same_both Bi = (ap (λ (r : Remote). r.max_remote) bi, ap (λ (r : Remote). r.max_concurrent) bi)
      same_both Uni = (ap (λ (r : Remote). r.max_remote) uni, ap (λ (r : Remote). r.max_concurrent) uni)

  recredited : (u : World) (c : Credit) → c.sent_max_data ≡ u.credit.sent_max_data → max_data_of u.credit ≤ max_data_of c → (m.resizes ≡ true) ⊎ (c.receive_window ≡ u.credit.receive_window) → (m.credits ≡ true) ⊎ SameRoom u.credit c → Leaves m u (record u { credit = c })
  recredited u c sent rises size room = record { window = refl; whole = sent; rises = rises; size = size; room = room; counts = both; permits = inr same_both; halves = λ q. goes-same u.window (m.reads q) (u.receive q) (u.receive q) refl }
    where
      both : (d : Dir) → (remote_of (record u { credit = c }) d).sent_max_remote ≡ (remote_of u d).sent_max_remote
      both Bi = refl
      both Uni = refl

      same_both : (d : Dir) → SameCount (remote_of u d) (remote_of (record u { credit = c }) d)
      same_both Bi = (refl, refl)
      same_both Uni = (refl, refl)

  other_half : (w : World) (id q : ℕ) (o : Option Half) → eqb q id ≡ false → (with_receive w id o).receive q ≡ w.receive q
  unfolding with_receive with_half
  other_half w id q o n = rw n refl

  put_counts : (w : World) (id : ℕ) (o : Option Half) (d : Dir) → (remote_of (with_receive w id o) d).sent_max_remote ≡ (remote_of w d).sent_max_remote
  unfolding with_receive
  put_counts w id o Bi = refl
  put_counts w id o Uni = refl

  put_permits : (w : World) (id : ℕ) (o : Option Half) (d : Dir) → SameCount (remote_of w d) (remote_of (with_receive w id o) d)
  unfolding with_receive
  put_permits w id o Bi = (refl, refl)
  put_permits w id o Uni = (refl, refl)

  put_window : (w : World) (id : ℕ) (o : Option Half) → (with_receive w id o).window ≡ w.window
  unfolding with_receive
  put_window w id o = refl

  -- one half changes
  put : (u : World) (id : ℕ) (o : Option Half) → HalfGoes u.window (m.reads id) (u.receive id) o → Leaves m u (with_receive u id o)
  put u id o g = record { window = put_window u id o; whole = ap (λ (c : Credit). c.sent_max_data) (credit-with_receive u id o); rises = omega (arith, ap (λ (c : Credit). max_data_of c) (credit-with_receive u id o)); size = inr (ap (λ (c : Credit). c.receive_window) (credit-with_receive u id o)); room = (let e = credit-with_receive u id o in inr (ap (λ (c : Credit). c.local_max_data) e, ap (λ (c : Credit). c.shrink_debt) e, ap (λ (c : Credit). c.receive_window) e)); counts = put_counts u id o; permits = inr (put_permits u id o); halves = at }
    where
      at : (q : ℕ) → HalfGoes u.window (m.reads q) (u.receive q) ((with_receive u id o).receive q)
      at q = by_cases (eqb q id)
          (λ t.
          let P : ℕ → Type 0 = λ k. HalfGoes u.window (m.reads k) (u.receive k) ((with_receive u id o).receive k) in
          let Q : Option Half → Type 0 = λ p. HalfGoes u.window (m.reads id) (u.receive id) p in
          subst P (sym (same q id t)) (subst Q (sym (receive-there u id o)) g))
          (λ n. goes-same u.window (m.reads q) (u.receive q) ((with_receive u id o).receive q) (other_half u id q o n))

  counted_put : (u : World) (id n : ℕ) (o : Option Half) → HalfGoes u.window (m.reads id) (u.receive id) o → Leaves m u (with_counted (with_receive u id o) n)
  counted_put u id n o g = leaves-then m u (with_receive u id o) (with_counted (with_receive u id o) n) (put u id o g) (recredited (with_receive u id o) (counted (with_receive u id o).credit n) refl (omega arith) (inr refl) (inr (refl, refl, refl)))

  remote_so : (u : World) (d : Dir) (r : Remote) → r.sent_max_remote ≡ (remote_of u d).sent_max_remote → (m.frees ≡ true) ⊎ SameCount (remote_of u d) r → Leaves m u (with_remote u d r)
  remote_so u Bi r e k = record { window = refl; whole = refl; rises = omega arith; size = inr refl; room = inr (refl, refl, refl); counts = (λ d. both d); permits = elim k [ inl f ↦ inl f | inr c ↦ inr (λ d. same_both c d) ]; halves = λ q. goes-same u.window (m.reads q) (u.receive q) (u.receive q) refl }
    where
      both : (d : Dir) → (remote_of (with_remote u Bi r) d).sent_max_remote ≡ (remote_of u d).sent_max_remote
      both Bi = e
      both Uni = refl

      same_both : SameCount u.bi r → (d : Dir) → SameCount (remote_of u d) (remote_of (with_remote u Bi r) d)
      same_both c Bi = c
      same_both c Uni = (refl, refl)
  remote_so u Uni r e k = record { window = refl; whole = refl; rises = omega arith; size = inr refl; room = inr (refl, refl, refl); counts = (λ d. both d); permits = elim k [ inl f ↦ inl f | inr c ↦ inr (λ d. same_both c d) ]; halves = λ q. goes-same u.window (m.reads q) (u.receive q) (u.receive q) refl }
    where
      both : (d : Dir) → (remote_of (with_remote u Uni r) d).sent_max_remote ≡ (remote_of u d).sent_max_remote
      both Bi = refl
      both Uni = e

      same_both : SameCount u.uni r → (d : Dir) → SameCount (remote_of u d) (remote_of (with_remote u Uni r) d)
      same_both c Bi = (refl, refl)
      same_both c Uni = c

  readable_so : (u : World) (id : ℕ) (b : Bool) → Leaves m u (told_readable u id b)
  readable_so u id true = beside u (told_readable u id true) refl refl refl refl refl
  readable_so u id false = leaves-same m u

  opened_sent : (r : Remote) (index : ℕ) (b : Bool) → (if b then record r { next_remote = index + 1; opened = true } else r).sent_max_remote ≡ r.sent_max_remote
  opened_sent r index true = refl
  opened_sent r index false = refl

  opened_count : (r : Remote) (index : ℕ) (b : Bool) → SameCount r (if b then record r { next_remote = index + 1; opened = true } else r)
  opened_count r index true = (refl, refl)
  opened_count r index false = (refl, refl)

  noticed_so : (u : World) (id : ℕ) (b : Bool) → Leaves m u (noticed u id b)
  noticed_so u id b =
      let P : World → Type 0 = λ x. Leaves m u x in
      noticed-any P u id b (readable_so u id b) (remote_so u (dir_of id) (remote.opened_up_to (remote_of u (dir_of id)) (index_of id)) (opened_sent (remote_of u (dir_of id)) (index_of id) (nat_le (remote_of u (dir_of id)).next_remote (index_of id))) (inr (opened_count (remote_of u (dir_of id)) (index_of id) (nat_le (remote_of u (dir_of id)).next_remote (index_of id)))))

  -- a stream of the peer is permitted
  permitted_so : (u : World) (d : Dir) (index : ℕ) → Leaves m u (with_permitted u d index)
  permitted_so u Uni index = let id = stream_id (other_side u.out.side) Uni index in put u id (Some (new_half u.window)) (goes_new u.window (m.reads id) (u.receive id))
  permitted_so u Bi index =
      let id = stream_id (other_side u.out.side) Bi index in
      let w = with_receive u id (Some (new_half u.window)) in
      leaves-then m u w (with_permitted u Bi index) (put u id (Some (new_half u.window)) (goes_new u.window (m.reads id) (u.receive id))) (beside w (with_permitted u Bi index) refl refl refl refl refl)

  permitted_maybe : (u : World) (d : Dir) (o : Option ℕ) → Leaves m u (permitted_if u d o)
  permitted_maybe u d None = leaves-same m u
  permitted_maybe u d (Some index) = permitted_so u d index

  replaced_sent : (r : Remote) (b : Bool) → (if b then remote.one_permitted (remote.freed r) else remote.freed r).sent_max_remote ≡ r.sent_max_remote
  replaced_sent r true = refl
  replaced_sent r false = refl

  replaced_so : m.frees ≡ true → (u : World) (d : Dir) → Leaves m u (replaced_in u d)
  replaced_so f u d =
      let r = remote.replaced (remote_of u d) in
      let w = with_remote u d r in
      leaves-then m u w (replaced_in u d) (remote_so u d r (replaced_sent (remote_of u d) (remote.lacks_streams (remote.freed (remote_of u d)))) (inl f)) (permitted_maybe w d (remote.replacement (remote_of u d)))

  either_so : (u v w : World) (b : Bool) → Leaves m u v → Leaves m u w → Leaves m u (if b then v else w)
  either_so u v w true a c = a
  either_so u v w false a c = c

  released_so : m.frees ≡ true → (u : World) (d : Dir) (id : ℕ) → Leaves m u (released u d id)
  released_so f u Uni id = replaced_so f u Uni
  released_so f u Bi id = either_so u u (replaced_in u Bi) (sends u id) (leaves-same m u) (replaced_so f u Bi)

  freed_so : m.frees ≡ true → (u : World) (id : ℕ) → Leaves m u (with_freed u id)
  freed_so f u id =
      let w = with_receive u id None in
      let p = put u id None tt in
      either_so u w (released w (dir_of id) id) (is_own w id) p (leaves-then m u w (released w (dir_of id) id) p (released_so f w (dir_of id) id))

  send_freed_so : m.frees ≡ true → (u : World) (id : ℕ) → Leaves m u (with_send_freed u id)
  send_freed_so f u id =
      let P : World → Type 0 = λ x. Leaves m u x in
      let w = without_sender u id in
      let p : Leaves m u w = beside u w refl refl refl refl refl in
      send-freed P u id p (leaves-then m u w (replaced_in w Bi) p (replaced_so f w Bi))

  credit_so : m.credits ≡ true → (u : World) (n : ℕ) → Leaves m u (with_credit u n)
  credit_so c u n = recredited u (credited u.credit n) refl (omega arith) (inr refl) (inl c)

  out_so : (u : World) (o : Outgoing) → Leaves m u (with_out u o)
  out_so u o = beside u (with_out u o) refl refl refl refl refl

  -- ---- frames that came

  keeps_counted : (r : Bool) (h : Half) (end : ℕ) (fin : Bool) → KeepsHalf r h (counted_to h end fin)
  keeps_counted r h end fin = record { sent = refl; opens = by_end fin; grows = omega arith; read = inr refl }
    where
      by_end : (b : Bool) → (is_none (if b then Some end else h.size) && not h.stopped) ≡ true → is_open h ≡ true
      by_end true e = cc
      by_end false e = e

  keeps_at : (r : Bool) (h k l : Half) → k ≡ l → KeepsHalf r h l → KeepsHalf r h k
  keeps_at r h k l e s = let P : Half → Type 0 = λ x. KeepsHalf r h x in subst P (sym e) s

  keeps_bytes : (r : Bool) (h : Half) (offset : ℕ) (bytes : List ℕ) (fin : Bool) (k : Half) → KeepsBytes h offset bytes fin k → KeepsHalf r h k
  keeps_bytes r h offset bytes fin k s =
      let c = keeps_counted r h (offset + length bytes) fin in
      record {
        sent = ap (λ (x : Half). x.sent_max) s.is;
        opens = λ e. c.opens (sym (ap is_open s.is) ∙ e);
        grows = let e = s.inserted.bytes_read in omega (arith, e);
        read = inr s.inserted.bytes_read;
      }

  keeps_frame : (r : Bool) (h : Half) (offset : ℕ) (bytes : List ℕ) (fin : Bool) (k : Half) → TakesFrame h offset bytes fin k → KeepsHalf r h k
  keeps_frame r h offset bytes fin k s = by h.stopped refl
    where
      by : (b : Bool) → h.stopped ≡ b → KeepsHalf r h k
      by true e = keeps_at r h k (counted_to h (offset + length bytes) fin) (s.stopped e) (keeps_counted r h (offset + length bytes) fin)
      by false e = keeps_bytes r h offset bytes fin k (s.running e)

  put_kept : (u : World) (id : ℕ) (h k : Half) → u.receive id ≡ Some h → KeepsHalf (m.reads id) h k → Leaves m u (advanced u id h k)
  put_kept u id h k held s = counted_put u id (k.end - h.end) (Some k) (inr (h, held, s))

  data_so : m.credits ≡ true → m.frees ≡ true → (u : World) (id : ℕ) (h k : Half) (fin stopped : Bool) → Leaves m u (advanced u id h k)
      → Leaves m u (let w = advanced u id h k in if stopped then with_credit (if fin then with_freed w id else w) (k.end - h.end) else noticed w id true)
  data_so c f u id h k fin true l =
      let w = advanced u id h k in
      let v = if fin then with_freed w id else w in
      leaves-then m u v (with_credit v (k.end - h.end)) (either_so u (with_freed w id) w fin (leaves-then m u w (with_freed w id) l (freed_so f w id)) l) (credit_so c v (k.end - h.end))
  data_so c f u id h k fin false l = let w = advanced u id h k in leaves-then m u w (noticed w id true) l (noticed_so w id true)

  received_so : m.credits ≡ true → m.frees ≡ true → (u : World) (id offset : ℕ) (bytes : List ℕ) (fin : Bool) (answer : Result ShouldTransmit ReceiveError) (v : World) → Receives u id offset bytes fin answer v → Leaves m u v
  received_so c f u id offset bytes fin (Ok transmit) v r = elim r [
    | inl dropped ↦ leaves-at m u v u dropped.3 (leaves-same m u)
    | inr t ↦ leaves-at m u v (after_data u id t.1 t.2 fin) t.5 (data_so c f u id t.1 t.2 fin t.1.stopped (put_kept u id t.1 t.2 t.3.half (keeps_frame (m.reads id) t.1 offset bytes fin t.2 t.3.ingests.3)))
  ]
  received_so c f u id offset bytes fin (Err (receive_error.Transport error)) v r = elim r [
    | inl unknown ↦ leaves-at m u v u unknown.1 (leaves-same m u)
    | inr t ↦ leaves-at m u v (advanced u id t.0 t.1) t.3 (put_kept u id t.0 t.1 t.2.half (elim t.2.ingests [
      | inl same ↦ keeps_at (m.reads id) t.0 t.1 t.0 same.1 (keeps_same (m.reads id) t.0)
      | inr kept ↦ keeps_bytes (m.reads id) t.0 offset bytes fin t.1 kept.4
    ]))
  ]
  received_so c f u id offset bytes fin (Err receive_error.CompactionMemory) v t = leaves-at m u v (advanced u id t.0 t.1) t.3 (put_kept u id t.0 t.1 t.2.half (keeps_bytes (m.reads id) t.0 offset bytes fin t.1 t.2.ingests.2))
  received_so c f u id offset bytes fin (Err receive_error.OutOfMemory) v r = leaves-at m u v u r (leaves-same m u)

  rest_so : m.credits ≡ true → (u w : World) (n : ℕ) (b : Bool) → Leaves m u w → Leaves m u (if b then w else with_credit w n)
  rest_so c u w n b l = either_so u w (with_credit w n) b l (leaves-then m u w (with_credit w n) l (credit_so c w n))

  reset_so : m.credits ≡ true → m.frees ≡ true → (u : World) (id code final : ℕ) (answer : Result ShouldTransmit ReceiveError) (v : World) → ReceivesReset u id code final answer v → Leaves m u v
  reset_so c f u id code final (Ok transmit) v r = elim r [
    | inl none ↦ leaves-at m u v u none.3 (leaves-same m u)
    | inr k ↦ elim k [
      | inl again ↦ leaves-at m u v u again.4 (leaves-same m u)
      | inr t ↦ (
          let h = t.0 in
          let k = t.1 in
          let x = t.2.resets in
          let w = advanced u id h k in
          let kept : KeepsHalf (m.reads id) h k = record { sent = ap (λ (y : Half). y.sent_max) x.3; opens = λ e. (let z = sym (ap is_open x.3) ∙ e in cc); grows = let e = x.2.bytes_read in omega (arith, e); read = inr x.2.bytes_read } in
          let l = put_kept u id h k t.2.half kept in
          let n = noticed w id (not h.stopped) in
          let j : Leaves m u n = leaves-then m u w n l (noticed_so w id (not h.stopped)) in
          let e = if h.stopped then with_freed n id else n in
          let g : Leaves m u e = either_so u (with_freed n id) n h.stopped (leaves-then m u n (with_freed n id) j (freed_so f n id)) j in
          leaves-at m u v (after_reset u id h k) t.4 (rest_so c u e (k.end - credited_to h) (k.end - credited_to h == 0) g)
          )
    ]
  ]
  reset_so c f u id code final (Err (receive_error.Transport error)) v r = elim r [
    | inl unknown ↦ leaves-at m u v u unknown.1 (leaves-same m u)
    | inr there ↦ leaves-at m u v u there.3 (leaves-same m u)
  ]
  reset_so c f u id code final (Err receive_error.CompactionMemory) v r = absurd r
  reset_so c f u id code final (Err receive_error.OutOfMemory) v r = leaves-at m u v u r (leaves-same m u)

  -- ---- reads

  buffer_grown : (r : Bool) (h k : Half) → k ≡ record h { buffer = k.buffer } → h.buffer.bytes_read ≤ k.buffer.bytes_read → (r ≡ true) ⊎ (k.buffer.bytes_read ≡ h.buffer.bytes_read) → KeepsHalf r h k
  buffer_grown r h k is grows read = record { sent = ap (λ (y : Half). y.sent_max) is; opens = λ e. sym (ap is_open is) ∙ e; grows = grows; read = read }

  buffer_kept : (r : Bool) (h k : Half) → k ≡ record h { buffer = k.buffer } → k.buffer.bytes_read ≡ h.buffer.bytes_read → KeepsHalf r h k
  buffer_kept r h k is read = buffer_grown r h k is (omega (arith, read)) (inr read)

  orders_so : (r : Bool) (h : Half) (ordered : Bool) (answer : Result (Unit {0}) EnsureError) (k : Half) → Orders h ordered answer k → KeepsHalf r h k
  orders_so r h ordered (Ok x) k o = elim o [
    | inl same ↦ keeps_at r h k h same.1 (keeps_same r h)
    | inr other ↦ buffer_kept r h k other.2 other.1.leaves.bytes_read
  ]
  orders_so r h ordered (Err ensure_error.IllegalOrderedRead) k o = buffer_kept r h k o.3 o.2.bytes_read
  orders_so r h ordered (Err ensure_error.OutOfMemory) k o = buffer_kept r h k o.2 o.1.bytes_read

  asks_so : (u : World) (id : ℕ) (ordered : Bool) (answer : Result (Unit {0}) EnsureError) (v : World) → Asks u id ordered answer v → Leaves m u v
  asks_so u id ordered answer v a = leaves-at m u v (with_receive u id (Some a.new)) a.is (put u id (Some a.new) (inr (a.old, a.half, orders_so (m.reads id) a.old ordered answer a.new a.orders)))

  begins_so : (u : World) (id : ℕ) (ordered : Bool) (answer : Result (Unit {0}) ReadableError) (v : World) → Begins u id ordered answer v → Leaves m u v
  begins_so u id ordered (Ok x) v b = asks_so u id ordered (Ok x) v b
  begins_so u id ordered (Err readable_error.ClosedStream) v b = leaves-at m u v u b.1 (leaves-same m u)
  begins_so u id ordered (Err readable_error.IllegalOrderedRead) v b = asks_so u id ordered (Err ensure_error.IllegalOrderedRead) v b
  begins_so u id ordered (Err readable_error.OutOfMemory) v b = elim b [ inl e ↦ leaves-at m u v u e (leaves-same m u) | inr a ↦ asks_so u id ordered (Err ensure_error.OutOfMemory) v a ]

  waits_so : (r : Bool) (h k : Half) → Waits h k → KeepsHalf r h k
  waits_so r h k w = buffer_kept r h k w.is w.rests.bytes_read

  reads_so : m.frees ≡ true → (u : World) (id most : ℕ) (ordered : Bool) (answer : Result (Option Chunk) ReadError) (v : World) → m.reads id ≡ true → ReadsHalf u id most ordered answer v → Leaves m u v
  reads_so f u id most ordered (Ok (Some chunk)) v t r = leaves-at m u v (with_receive u id (Some r.new)) r.is (put u id (Some r.new) (inr (r.old, r.half, buffer_grown (m.reads id) r.old r.new r.reads.2 (let e = r.reads.1.bytes_read in omega (arith, e)) (inl t))))
  reads_so f u id most ordered (Ok None) v t r = leaves-at m u v (with_freed u id) r.is (freed_so f u id)
  reads_so f u id most ordered (Err read_error.Blocked) v t r = leaves-at m u v (with_receive u id (Some r.new)) r.is (put u id (Some r.new) (inr (r.old, r.half, waits_so (m.reads id) r.old r.new r.reads.2)))
  reads_so f u id most ordered (Err (read_error.Reset code)) v t r = leaves-at m u v (with_freed u id) r.is (freed_so f u id)
  reads_so f u id most ordered (Err read_error.OutOfMemory) v t r = leaves-at m u v (with_receive u id (Some r.new)) r.is (put u id (Some r.new) (inr (r.old, r.half, waits_so (m.reads id) r.old r.new r.reads.1)))

  stops_so : m.credits ≡ true → m.frees ≡ true → (u : World) (id code : ℕ) (answer : Result (Unit {0}) HandleError) (v : World) → Step u (Stopped id code answer) v → Leaves m u v
  stops_so c f u id code (Ok x) v s =
      let t = s.2 in
      let h = t.0 in
      let k = t.1 in
      let kept : KeepsHalf (m.reads id) h k = record { sent = ap (λ (y : Half). y.sent_max) t.5; opens = λ e. (let z = sym (ap is_open t.5) ∙ e in closed h.size z); grows = let e = t.4.bytes_read in omega (arith, e); read = inr t.4.bytes_read } in
      let w = with_receive u id (Some k) in
      let l : Leaves m u w = put u id (Some k) (inr (h, t.2, kept)) in
      let e = if is_some h.size then with_freed u id else w in
      let g : Leaves m u e = either_so u (with_freed u id) w (is_some h.size) (freed_so f u id) l in
      leaves-at m u v (after_stop u id h k) t.6 (leaves-then m u e (after_stop u id h k) g (credit_so c e _))
    where
      closed : {X : Type 0} (o : Option ℕ) → (is_none o && false) ≡ true → X
      closed None e = cc
      closed (Some n) e = cc
  stops_so c f u id code (Err handle_error.ClosedStream) v s = leaves-at m u v u s.2.1 (leaves-same m u)
  stops_so c f u id code (Err handle_error.OutOfMemory) v s = leaves-at m u v u s.2.0 (leaves-same m u)

  told_so : m.frees ≡ true → (u : World) (id : ℕ) (answer : Result (Option ℕ) HandleError) (v : World) → Step u (ToldReset id answer) v → Leaves m u v
  told_so f u id (Ok (Some code)) v s = leaves-at m u v (with_freed u id) s.2.4 (freed_so f u id)
  told_so f u id (Ok None) v s = leaves-at m u v u s.2.4 (leaves-same m u)
  told_so f u id (Err handle_error.ClosedStream) v s = leaves-at m u v u s.2.1 (leaves-same m u)
  told_so f u id (Err handle_error.OutOfMemory) v s = leaves-at m u v u s.2.3 (leaves-same m u)

  -- ---- how many streams the peer may open

  more_so : (u : World) (d : Dir) (first n : ℕ) → Leaves m u (with_more_permitted u d first n)
  unfolding with_more
  more_so u d first n = of_dir d
    where
      at : (e : Dir) (q : ℕ) (b : Bool) → HalfGoes u.window (m.reads q) (u.receive q) (if b then Some (new_half u.window) else u.receive q)
      at e q true = goes_new u.window (m.reads q) (u.receive q)
      at e q false = goes-same u.window (m.reads q) (u.receive q) (u.receive q) refl

      bi_counts : (k : Dir) → (remote_of (with_more_permitted u Bi first n) k).sent_max_remote ≡ (remote_of u k).sent_max_remote
      bi_counts Bi = refl
      bi_counts Uni = refl

      bi_permits : (k : Dir) → SameCount (remote_of u k) (remote_of (with_more_permitted u Bi first n) k)
      bi_permits Bi = (refl, refl)
      bi_permits Uni = (refl, refl)

      uni_permits : (k : Dir) → SameCount (remote_of u k) (remote_of (with_more_permitted u Uni first n) k)
      uni_permits Bi = (refl, refl)
      uni_permits Uni = (refl, refl)

      uni_counts : (k : Dir) → (remote_of (with_more_permitted u Uni first n) k).sent_max_remote ≡ (remote_of u k).sent_max_remote
      uni_counts Bi = refl
      uni_counts Uni = refl

      of_dir : (e : Dir) → Leaves m u (with_more_permitted u e first n)
      of_dir Bi = record { window = refl; whole = refl; rises = omega arith; size = inr refl; room = inr (refl, refl, refl); counts = (λ k. bi_counts k); permits = inr (λ k. bi_permits k); halves = λ q. at Bi q (is_between (other_side u.out.side) Bi first n q) }
      of_dir Uni = record { window = refl; whole = refl; rises = omega arith; size = inr refl; room = inr (refl, refl, refl); counts = (λ k. uni_counts k); permits = inr (λ k. uni_permits k); halves = λ q. at Uni q (is_between (other_side u.out.side) Uni first n q) }

  concurrent_so : m.frees ≡ true → (u : World) (d : Dir) (count : ℕ) → Leaves m u (after_concurrent u d count)
  concurrent_so f u d count =
      let r = remote_of u d in
      let w = with_remote u d (remote.with_concurrent r count) in
      let x = with_more_permitted w d r.max_remote (remote.lacking r count) in
      leaves-then m u w (after_concurrent u d count) (remote_so u d (remote.with_concurrent r count) refl (inl f))
      (leaves-then m w x (after_concurrent u d count) (more_so w d r.max_remote (remote.lacking r count)) (beside x (after_concurrent u d count) refl refl refl refl refl))

  accepted_sent : (r : Remote) (b : Bool) → (if b then record r { next_reported = r.next_reported + 1 } else r).sent_max_remote ≡ r.sent_max_remote
  accepted_sent r true = refl
  accepted_sent r false = refl

  accepted_count : (r : Remote) (b : Bool) → SameCount r (if b then record r { next_reported = r.next_reported + 1 } else r)
  accepted_count r true = (refl, refl)
  accepted_count r false = (refl, refl)

  accepted_so : (u : World) (d : Dir) → Leaves m u (with_accepted u d)
  accepted_so u d =
      let r = remote.one_accepted (remote_of u d) in
      let w = with_remote u d r in
      leaves-then m u w (with_accepted u d) (remote_so u d r (accepted_sent (remote_of u d) (nat_lt (remote_of u d).next_reported (remote_of u d).next_remote)) (inr (accepted_count (remote_of u d) (nat_lt (remote_of u d).next_reported (remote_of u d).next_remote)))) (beside w (with_accepted u d) refl refl refl refl refl)

  -- ---- calls of the sending side

  queued_so : (u w : World) (id : ℕ) (o : Option ℤ) → Leaves m u w → Leaves m u (with_queued w id o)
  queued_so u w id None l = l
  queued_so u w id (Some priority) l = leaves-then m u w (with_queued w id (Some priority)) l (beside w (with_queued w id (Some priority)) refl refl refl refl refl)

  writable_so : (u w : World) (id : ℕ) (b : Bool) → Leaves m u w → Leaves m u (told_writable w id b)
  writable_so u w id true l = leaves-then m u w (told_writable w id true) l (beside w (told_writable w id true) refl refl refl refl refl)
  writable_so u w id false l = l

  first_stop_so : (u w : World) (id code : ℕ) (b : Bool) → Leaves m u w → Leaves m u (after_first_stop w id code b)
  first_stop_so u w id code true l =
      let t = told w (stream_event.Stopped id code) in
      leaves-then m u t (noticed t id false) (leaves-then m u w t l (beside w t refl refl refl refl refl)) (noticed_so t id false)
  first_stop_so u w id code false l = l

  finished_so : m.frees ≡ true → (u w : World) (id : ℕ) (b : Bool) → Leaves m u w → Leaves m u (told_finished w id b)
  finished_so f u w id true l =
      let x = with_send_freed w id in
      leaves-then m u x (told_finished w id true) (leaves-then m u w x l (send_freed_so f w id)) (beside x (told_finished w id true) refl refl refl refl refl)
  finished_so f u w id false l = l

  opened_so : (u : World) (d : Dir) (id : ℕ) (o : Outgoing) → Leaves m u (with_opened u d id o)
  opened_so u Uni id o = beside u (with_opened u Uni id o) refl refl refl refl refl
  opened_so u Bi id o =
      let w = with_receive u id (Some (new_half u.window)) in
      leaves-then m u w (with_opened u Bi id o) (put u id (Some (new_half u.window)) (goes_new u.window (m.reads id) (u.receive id))) (beside w (with_opened u Bi id o) refl refl refl refl refl)

  count_so : (u : World) (d : Dir) (count : ℕ) → Leaves m u (with_own_count u d count)
  count_so u d count =
      let w = with_out u _ in
      either_so u (told w (stream_event.Available d)) w _ (beside u (told w (stream_event.Available d)) refl refl refl refl refl) (out_so u _)

  same_so : (u v : World) → v ≡ u → Leaves m u v
  same_so u v e = leaves-at m u v u e (leaves-same m u)

  told_next_so : (u : World) (answer : Option StreamEvent) (v : World) → TellsNext u answer v → Leaves m u v
  told_next_so u answer v t = either-way u.bi.opened t
      (λ (b : (answer ≡ Some (stream_event.Opened Bi)) × (v ≡ with_remote u Bi (remote.opening_told u.bi))). leaves-at m u v (with_remote u Bi (remote.opening_told u.bi)) b.1 (remote_so u Bi (remote.opening_told u.bi) refl (inr (refl, refl))))
      (λ r. either-way u.uni.opened r
      (λ (b : (answer ≡ Some (stream_event.Opened Uni)) × (v ≡ with_remote u Uni (remote.opening_told u.uni))). leaves-at m u v (with_remote u Uni (remote.opening_told u.uni)) b.1 (remote_so u Uni (remote.opening_told u.uni) refl (inr (refl, refl))))
      (λ k. polled k.0 (with_out u k.1) k.3 (out_so u k.1)))
    where
      polled : (o : Option ℕ) (w : World) → PollsQueue w o answer v → Leaves m u w → Leaves m u v
      polled (Some id) w p l = leaves-at m u v w p.1 l
      polled None w p l = leaves-at m u v (record w { events = p.0 }) p.2 (leaves-then m u w (record w { events = p.0 }) l (beside w (record w { events = p.0 }) refl refl refl refl refl))

  -- acknowledgements may free a stream
  abbrev MayFree : SendEvent → Type 0
  MayFree (AckedOwn id offsets fin answer) = m.frees ≡ true
  MayFree (ResetAckedOwn id answer) = m.frees ≡ true
  MayFree _ = Unit {0}

  sending_so : (u : World) (e : SendEvent) (v : World) → MayFree e → SendStep u e v → Leaves m u v
  sending_so u (GaveLimits limits (Ok x)) v f s = leaves-at m u v _ s (beside u _ refl refl refl refl refl)
  sending_so u (GaveLimits limits (Err x)) v f s = same_so u v s
  sending_so u (OpenedOwn dir closed (Ok None)) v f s = same_so u v s.1
  sending_so u (OpenedOwn dir closed (Ok (Some id))) v f s = leaves-at m u v (with_opened u dir id s.1) s.3 (opened_so u dir id s.1)
  sending_so u (OpenedOwn dir closed (Err x)) v f s = same_so u v s
  sending_so u (RaisedData limit) v f s = leaves-at m u v (with_out u _) s (out_so u _)
  sending_so u (RaisedCount dir count (Ok x)) v f s = leaves-at m u v (with_own_count u dir count) s.1 (count_so u dir count)
  sending_so u (RaisedCount dir count (Err (receive_error.Transport error))) v f s = same_so u v s.2
  sending_so u (RaisedCount dir count (Err receive_error.CompactionMemory)) v f s = absurd s
  sending_so u (RaisedCount dir count (Err receive_error.OutOfMemory)) v f s = same_so u v s.2
  sending_so u (RaisedLimit id limit (Ok x)) v f s =
      let w = told_writable (with_out u s.2) id s.1 in
      leaves-at m u v (noticed w id false) s.4 (leaves-then m u w (noticed w id false) (writable_so u (with_out u s.2) id s.1 (out_so u s.2)) (noticed_so w id false))
  sending_so u (RaisedLimit id limit (Err (receive_error.Transport error))) v f s = same_so u v s.1
  sending_so u (RaisedLimit id limit (Err receive_error.CompactionMemory)) v f s = absurd s
  sending_so u (RaisedLimit id limit (Err receive_error.OutOfMemory)) v f s = same_so u v s
  sending_so u (StoppedOwn id code (Ok x)) v f s = either-way (is_permitted u id) s
      (λ (k : (is_first : Bool) × (o : Outgoing) × StopsSending u.out id code (Ok is_first) o × (v ≡ after_first_stop (with_out u o) id code is_first)). leaves-at m u v (after_first_stop (with_out u k.1) id code k.0) k.3 (first_stop_so u (with_out u k.1) id code k.0 (out_so u k.1)))
      (λ (e : v ≡ u). same_so u v e)
  sending_so u (StoppedOwn id code (Err x)) v f s = same_so u v s
  sending_so u (SetWindow window) v f s = leaves-at m u v (with_out u _) s (out_so u _)
  sending_so u (WroteOwn id lists closed (Ok written)) v f s = let k = s.3 in leaves-at m u v (with_queued (with_out u k.2) id k.1.queue_at) k.5 (queued_so u (with_out u k.2) id k.1.queue_at (out_so u k.2))
  sending_so u (WroteOwn id lists closed (Err x)) v f s = elim s.3 [ inl none ↦ same_so u v none.2 | inr k ↦ leaves-at m u v (with_out u k.1) k.3 (out_so u k.1) ]
  sending_so u (FinishedOwn id (Ok x)) v f s = leaves-at m u v (with_queued (with_out u s.1) id s.0) s.3 (queued_so u (with_out u s.1) id s.0 (out_so u s.1))
  sending_so u (FinishedOwn id (Err x)) v f s = leaves-at m u v (with_out u s.0) s.2 (out_so u s.0)
  sending_so u (ResetOwn id code answer) v f s = leaves-at m u v (with_out u s.2.0) s.2.2 (out_so u s.2.0)
  sending_so u (SetOwnPriority id priority answer) v f s = leaves-at m u v (with_out u s.0) s.2 (out_so u s.0)
  sending_so u (AckedOwn id offsets fin (Ok x)) v f s = either-way (is_permitted u id) s
      (λ (k : (done : Bool) × (o : Outgoing) × AcksStream u.out id offsets fin (Ok done) o × (v ≡ told_finished (with_out u o) id done)). leaves-at m u v (told_finished (with_out u k.1) id k.0) k.3 (finished_so f u (with_out u k.1) id k.0 (out_so u k.1)))
      (λ (e : v ≡ u). same_so u v e)
  sending_so u (AckedOwn id offsets fin (Err x)) v f s = same_so u v s.2
  sending_so u (LostOwn id offsets fin (Ok x)) v f s = leaves-at m u v (with_queued (with_out u s.1) id s.0) s.3 (queued_so u (with_out u s.1) id s.0 (out_so u s.1))
  sending_so u (LostOwn id offsets fin (Err x)) v f s = same_so u v s.1
  sending_so u (ResetAckedOwn id (Ok x)) v f s = either-way (frees_reset u id) s
      (λ (e : v ≡ with_send_freed (with_out u (with_send_half u.out id None)) id). let w = with_out u (with_send_half u.out id None) in leaves-at m u v (with_send_freed w id) e (leaves-then m u w (with_send_freed w id) (out_so u _) (send_freed_so f w id)))
      (λ (e : v ≡ u). same_so u v e)
  sending_so u (ResetAckedOwn id (Err x)) v f s = same_so u v s.1
  sending_so u (TookTurn most fair None) v f s = leaves-at m u v _ s.is (beside u _ refl refl refl refl refl)
  sending_so u (TookTurn most fair (Some frame)) v f s = leaves-at m u v _ s.is (beside u _ refl refl refl refl refl)
  sending_so u (Polled answer) v f s = told_next_so u answer v s

  -- ---- all calls

  -- a call that writes nothing of what is pending, begins no era, and does no more than it may
  abbrev pub MayLeave : Event → Type 0
  MayLeave (Received id offset bytes fin answer) = (m.credits ≡ true) × (m.frees ≡ true)
  MayLeave (ReceivedReset id code final answer) = (m.credits ≡ true) × (m.frees ≡ true)
  MayLeave (AddedCredits count answer) = m.credits ≡ true
  MayLeave (Gave id most ordered answer) = (m.reads id ≡ true) × (m.frees ≡ true)
  MayLeave (Ended id count) = m.credits ≡ true
  MayLeave (Stopped id code answer) = (m.credits ≡ true) × (m.frees ≡ true)
  MayLeave (ToldReset id answer) = m.frees ≡ true
  MayLeave (Resized window answer) = (m.credits ≡ true) × (m.resizes ≡ true)
  MayLeave (SetConcurrent dir count answer) = m.frees ≡ true
  MayLeave (LeftPending kind frame) = ⊥
  MayLeave (Sending e) = MayFree e
  MayLeave Rejected = ⊥
  MayLeave (SentAgain answer) = ⊥
  MayLeave _ = Unit {0}

  set_so : m.frees ≡ true → (u : World) (d : Dir) (count : ℕ) (answer : Result (Unit {0}) OutOfMemory) (v : World) → SetsConcurrent u d count answer v → Leaves m u v
  set_so f u d count (Ok x) v s = leaves-at m u v (after_concurrent u d count) s (concurrent_so f u d count)
  set_so f u d count (Err x) v s = same_so u v s

  resized_so : m.credits ≡ true → m.resizes ≡ true → (u : World) (window : ℕ) (b : Bool) → Leaves m u (record u { credit = if b then record u.credit { receive_window = window; local_max_data = min (u.credit.local_max_data + (window - u.credit.receive_window)) (2 ^ 64 - 1) } else record u.credit { receive_window = window; shrink_debt = min (u.credit.shrink_debt + (u.credit.receive_window - window)) (2 ^ 64 - 1) } })
  resized_so c z u window true = recredited u _ refl (omega arith) (inl z) (inl c)
  resized_so c z u window false = recredited u _ refl (omega arith) (inl z) (inl c)

  pub leaves-step : (u : World) (e : Event) (v : World) → MayLeave e → Step u e v → Leaves m u v
  leaves-step u (Received id offset bytes fin answer) v f s = received_so f.0 f.1 u id offset bytes fin answer v s
  leaves-step u (ReceivedReset id code final answer) v f s = reset_so f.0 f.1 u id code final answer v s
  leaves-step u (AddedCredits count answer) v f s = leaves-at m u v (with_credit u count) s.0 (credit_so f u count)
  leaves-step u (Began id ordered answer) v f s = begins_so u id ordered answer v s
  leaves-step u (Gave id most ordered answer) v f s = reads_so f.1 u id most ordered answer v f.0 s
  leaves-step u (Ended id count) v f s = leaves-at m u v (with_credit u count) s (credit_so f u count)
  leaves-step u (Stopped id code answer) v f s = stops_so f.0 f.1 u id code answer v s
  leaves-step u (ToldReset id answer) v f s = told_so f u id answer v s
  leaves-step u (Resized window answer) v f s = leaves-at m u v (with_receive_window u window) s.0 (resized_so f.0 f.1 u window (nat_lt u.credit.receive_window window))
  leaves-step u (SetConcurrent dir count answer) v f s = set_so f u dir count answer v s
  leaves-step u (Accepted dir answer) v f s = leaves-at m u v (with_accepted u dir) s.0 (accepted_so u dir)
  leaves-step u (LeftPending kind frame) v f s = absurd f
  leaves-step u (Sending e) v f s = sending_so u e v f s
  leaves-step u Rejected v f s = absurd f
  leaves-step u (SentAgain answer) v f s = absurd f

-- the half that is freed is none, or that of a stream that was permitted
pub freed-half : (u : World) (id : ℕ) → HalfGoes u.window false None ((with_freed u id).receive id)
freed-half u id =
    let m : May = record { reads = λ q. false; credits = false; resizes = false; frees = true } in
    let w = with_receive u id None in
    let l : Leaves m w (with_freed u id) = either_so m w w (released w (dir_of id) id) (is_own w id) (leaves-same m w) (released_so m refl w (dir_of id) id) in
    let P : Option Half → Type 0 = λ o. HalfGoes u.window false o ((with_freed u id).receive id) in
    let Q : ℕ → Type 0 = λ n. HalfGoes n false (w.receive id) ((with_freed u id).receive id) in
    subst P (receive-there u id None) (subst Q (window-with_receive u id None) (l.halves id))
