-- A client whose early start was rejected while it did nothing but its own doings is a new end.
use Rattle.std.proofs.Common.{◌≡◌, ◌⊎◌, inl, inr, ℕ, Bool, true, false, ◌&&◌, not, cond, List, [], ◌∷◌, Option, Some, None, is_some, Ok, Err, refl, sym, ap, ◌∙◌, subst, arith, ◌+◌, ◌-◌, ◌/◌, ◌%◌, ◌≤◌}
use Rattle.std.specs.Prelude.{◌==◌, ◌^◌, ◌++◌, max, min, nat_lt, length, slice_index, if◌then◌else◌}
use Rattle.std.specs.Option.{option_map}
use Rattle.quic_values.specs.declared.ids.Side.{Side}
use Rattle.quic_values.specs.declared.ids.Side.TheVariants.{Client, Server}
use Rattle.quic_values.specs.declared.ids.Dir.{Dir}
use Rattle.quic_values.specs.declared.ids.Dir.TheVariants.{Bi, Uni}
use Rattle.quic_values.specs.Ids.{stream_id, other_side, dir_of, index_of}
use Rattle.quic_wire.specs.declared.event.StreamEvent.{StreamEvent}
use Rattle.quic_wire.specs.declared.event.StreamEvent.TheVariants as stream_event
use Rattle.quic_wire.specs.declared.frame.Frame.TheVariants as frames
use Rattle.quic_sending.specs.declared.send.Send.{Send}
use Rattle.quic_limits.specs.Own.{no_own}
use Rattle.quic_limits.specs.Remote.{Remote}
use Rattle.quic_limits.specs.SendingCredit.{no_credit}
use Rattle.quic_queue.specs.SendOrder.{empty_queue}
use Rattle.quic_receiving.specs.Counted.{number}
use Rattle.quic_receiving.specs.Data.{Slice, Carries}
use Rattle.quic_receiving.specs.Half.{Half}
use Rattle.quic_receiving.specs.declared.errors.ReadError.TheVariants as read_error
use Rattle.quic_outgoing.specs.Senders.{SendersById, is_local, are_one_end, is_between, new_sender, first_limit, no_limits, with_more_of_peer}
use Rattle.quic_outgoing.specs.Early.{of_peer_anew}
use Rattle.quic_outgoing.specs.Outgoing.{own_of}
use Rattle.quic_assembler.specs.declared.chunk.Chunk.{Chunk}
use Rattle.quic_history.specs.Flows.{has_side_in, is_answered_on, TakesQueued}
use Rattle.quic_history.specs.Halves.{Halves}
use Rattle.quic_history.specs.Early.{IsEarly, with_rejection, without_own, announced_anew}
use Rattle.quic_history.specs.Used.{halves_among}
use Rattle.quic_history.specs.World.{World, Made, PermitsNoLess, made_again, start, sends, remote_of, IsUnusedCredit, IsUnusedRemote}
use Rattle.quic_history.specs.SendEvents.{RaisedCount, RaisedLimit, StoppedOwn, AckedOwn, ResetAckedOwn, Polled, GaveLimits}
use Rattle.quic_history.specs.History.{Event, Received, ReceivedReset, AddedCredits, Began, Gave, Ended, Stopped, ToldReset, LeftPending, Sending, Step, Fits, trace, slices, with_read, given, consumed, consumed_by, received, streams, total_over, last_window, debt, GivenSo, EndsSo, is_freed, before, IsStart, IsRun, EverPermits, AreQueued, QueuesSo, From, tells_answer, IsUnanswered, limits_in, told_of_limits, opened_ids, since}
use Rattle.quic_history.specs.OwnDoings.{is_own_doing, AreOwnDoings}
use Rattle.quic_history.proofs.Traces.{itself}
use Rattle.quic_history.proofs.StreamSteps.{half-from, known-from}
use Rattle.quic_history.proofs.SendSides.{none-held}
use Rattle.quic_history.proofs.EarlyFlows.{none-first}
use Rattle.quic_history.proofs.EarlyFacts.{announced-most}
use Rattle.quic_history.proofs.Beginnings.{begins, none-over, has_side, spelled, least}
use Rattle.quic_history.proofs.Histories.{next, permits-now}
use Rattle.quic_history.proofs.Unanswered.{IsQuiet, quiet-trace, is-early}
use Rattle.quic_history.proofs.Bare.{IsBare, new_if, first_halves, first-peer, first-own, bare-run, mine, not-mine}

-- ---- what own doings tell

module _ (m : Made) (h : List Event) (u v : World) (f : From m h u) (quiet : IsUnanswered h) where
  -- a half that is held was not reset
  unreset : (id code : ℕ) (old : Half) → u.receive id ≡ Some old → old.reset ≡ Some code → ⊥
  unreset id code old half reset =
      let known = known-from (trace h) u id old f.facts.streams half in
      let was = half-from (trace h) u id old f.facts.streams known half in
      let k = quiet-trace h quiet id in
      let none : old.reset ≡ None = was.reset ∙ k.reset in
      let both = sym none ∙ reset in cc

  -- the end of a stream is not told
  unended : (id most : ℕ) (ordered : Bool) → From m (Gave id most ordered (Ok None) ∷ h) v → ⊥
  unended id most ordered g =
      let is : trace (Gave id most ordered (Ok None) ∷ h) id ≡ with_read ordered (Ok None) (trace h id) = rw (itself id) refl in
      let ends = subst EndsSo is (g.ends id) in
      let k = quiet-trace h quiet id in
      let both = sym k.sized ∙ ends.sized refl in cc

  -- a chunk has no bytes
  no_bytes : (id most : ℕ) (ordered : Bool) (chunk : Chunk) → From m (Gave id most ordered (Ok (Some chunk)) ∷ h) v → length chunk.bytes ≡ 0
  no_bytes id most ordered chunk g =
      let is : trace (Gave id most ordered (Ok (Some chunk)) ∷ h) id ≡ with_read ordered (Ok (Some chunk)) (trace h id) = rw (itself id) refl in
      let told = subst GivenSo is (g.given id) in
      let k = quiet-trace h quiet id in
      none_given chunk.offset chunk.bytes (slices (trace h id).given) (trace h id).kept k.kept told.came
    where
      none_given : (offset : ℕ) (bytes : List ℕ) (others kept : List Slice) → kept ≡ [] → ((at byte : ℕ) → Carries (record { offset = offset; bytes = bytes } ∷ others) at byte → Carries kept at byte) → length bytes ≡ 0
      none_given offset [] others kept e came = refl
      none_given offset (b ∷ bs) others kept e came =
          let P : List Slice → Type 0 = λ l. Carries l offset (slice_index (b ∷ bs) (offset - offset)) in
          absurd (subst P e (came offset (slice_index (b ∷ bs) (offset - offset)) (inl (omega arith, omega arith, refl))))

-- no answer of the peer is among them
unanswered_step : (m : Made) (h : List Event) (u : World) (e : Event) (v : World) → From m h u → IsUnanswered h → From m (e ∷ h) v
    → (is_own_doing e ≡ true) ⊎ ((is_some (limits_in e) ≡ true) × (h ≡ [])) → Step u e v → tells_answer e ≡ false
unanswered_step m h u (Received id offset bytes fin answer) v f quiet g own s = not-mine (mine h (Received id offset bytes fin answer) refl own)
unanswered_step m h u (ReceivedReset id code final answer) v f quiet g own s = not-mine (mine h (ReceivedReset id code final answer) refl own)
unanswered_step m h u (Gave id most ordered (Ok None)) v f quiet g own s = absurd (unended m h u v f quiet id most ordered g)
unanswered_step m h u (Gave id most ordered (Err (read_error.Reset code))) v f quiet g own s = absurd (unreset m h u v f quiet id code s.old s.half s.reads.0)
unanswered_step m h u (ToldReset id (Ok (Some code))) v f quiet g own s = absurd (unreset m h u v f quiet id code s.2.0 s.2.1 s.2.3)
unanswered_step m h u (Sending (AckedOwn id offsets fin answer)) v f quiet g own s = not-mine (mine h (Sending (AckedOwn id offsets fin answer)) refl own)
unanswered_step m h u (Sending (ResetAckedOwn id answer)) v f quiet g own s = not-mine (mine h (Sending (ResetAckedOwn id answer)) refl own)
unanswered_step m h u _ v f quiet g own s = refl

-- and no reader gave a byte
given_step : (m : Made) (h : List Event) (u : World) (e : Event) (v : World) → From m h u → IsUnanswered h → From m (e ∷ h) v → given h ≡ 0 → given (e ∷ h) ≡ 0
given_step m h u (Began id ordered answer) v f quiet g z = refl
given_step m h u (Gave id most ordered (Ok (Some chunk))) v f quiet g z = let n = no_bytes m h u v f quiet id most ordered chunk g in omega arith
given_step m h u (Ended id count) v f quiet g z = refl
given_step m h u _ v f quiet g z = z

-- so nothing is consumed
consumed_step : (h : List Event) (e : Event) → IsUnanswered h → (is_own_doing e ≡ true) ⊎ ((is_some (limits_in e) ≡ true) × (h ≡ [])) → Fits h e → given h ≡ 0 → consumed_by h e ≡ 0
consumed_step h (Received id offset bytes fin answer) quiet own fits z = not-mine (mine h (Received id offset bytes fin answer) refl own)
consumed_step h (ReceivedReset id code final answer) quiet own fits z = not-mine (mine h (ReceivedReset id code final answer) refl own)
consumed_step h (AddedCredits count answer) quiet own fits z = not-mine (mine h (AddedCredits count answer) refl own)
consumed_step h (Ended id count) quiet own fits z = fits ∙ z
consumed_step h (Gave id most ordered answer) quiet own fits z = refl
consumed_step h (Stopped id code (Ok x)) quiet own fits z = let k = quiet-trace h quiet id in rw (k.reset, k.high) (omega arith)
consumed_step h (ToldReset id (Ok (Some code))) quiet own fits z = refl
consumed_step h (LeftPending kind (Some (frames.MaxStreamData id limit))) quiet own fits z = refl
consumed_step h _ quiet own fits z = refl

-- what is known of an end that did nothing else
record DidItsOwn (m : Made) (h : List Event) (w : World) : Type 0 where
  from : From m h w
  unanswered : IsUnanswered h
  given : given h ≡ 0
  consumed : consumed h ≡ 0

did_own : (m : Made) (h : List Event) (w : World) → IsRun m h w → AreOwnDoings h → DidItsOwn m h w
did_own m [] w run own = record { from = begins m w run; unanswered = tt; given = refl; consumed = refl }
did_own m (e ∷ h) w run own =
    let u = run.0 in
    let k = did_own m h u run.1 own.1 in
    let after = next m h u e w run.2 k.from run.3 in
    let none = consumed_step h e k.unanswered own.0 run.2 k.given in
    let were = k.consumed in
    record {
      from = after;
      unanswered = (unanswered_step m h u e w k.from k.unanswered after own.0 run.3, k.unanswered);
      given = given_step m h u e w k.from k.unanswered after k.given;
      consumed = omega arith;
    }

none_in_all : (f : ℕ → ℕ) (xs : List ℕ) → ((q : ℕ) → f q ≡ 0) → total_over f xs ≡ 0
none_in_all f [] z = refl
none_in_all f (x ∷ xs) z = omega (arith, z x, none_in_all f xs z)

-- ---- nothing is queued to be told

stays_empty : (before after : List StreamEvent) → before ≡ [] → after ≡ before ++ [] → after ≡ []
stays_empty before after z e = e ∙ ap (λ l. l ++ []) z

taken_empty : (before : List StreamEvent) (answer : Option StreamEvent) (after : List StreamEvent) → before ≡ [] → TakesQueued before answer after → after ≡ []
taken_empty before None after z s = s.1
taken_empty before (Some (stream_event.Opened dir)) after z (inl s) = s ∙ z
taken_empty before (Some (stream_event.Opened dir)) after z (inr s) = let both = sym z ∙ s in cc
taken_empty before (Some (stream_event.Writable id)) after z (inl s) = s ∙ z
taken_empty before (Some (stream_event.Writable id)) after z (inr s) = let both = sym z ∙ s in cc
taken_empty before (Some (stream_event.Readable id)) after z s = let both = sym z ∙ s in cc
taken_empty before (Some (stream_event.Finished id)) after z s = let both = sym z ∙ s in cc
taken_empty before (Some (stream_event.Stopped id code)) after z s = let both = sym z ∙ s in cc
taken_empty before (Some (stream_event.Available dir)) after z s = let both = sym z ∙ s in cc

empty_step : (m : Made) (h : List Event) (e : Event) (before after : List StreamEvent) → (is_own_doing e ≡ true) ⊎ ((is_some (limits_in e) ≡ true) × (h ≡ [])) → before ≡ [] → QueuesSo m h e before after → after ≡ []
empty_step m h (Received id offset bytes fin answer) before after own z s = not-mine (mine h (Received id offset bytes fin answer) refl own)
empty_step m h (ReceivedReset id code final answer) before after own z s = not-mine (mine h (ReceivedReset id code final answer) refl own)
empty_step m h (Sending (Polled answer)) before after own z s = taken_empty before answer after z s
empty_step m h (Sending (GaveLimits limits (Ok x))) before after (inl own) z s = not-mine own
empty_step m h (Sending (GaveLimits limits (Ok x))) before after (inr own) z s =
    let P : List Event → Type 0 = λ g. after ≡ before ++ told_of_limits m g limits (opened_ids m.side (since g)) in
    stays_empty before after z (subst P own.1 s)
empty_step m h (Sending (RaisedCount dir count answer)) before after own z s = not-mine (mine h (Sending (RaisedCount dir count answer)) refl own)
empty_step m h (Sending (RaisedLimit id limit answer)) before after own z s = not-mine (mine h (Sending (RaisedLimit id limit answer)) refl own)
empty_step m h (Sending (StoppedOwn id code answer)) before after own z s = not-mine (mine h (Sending (StoppedOwn id code answer)) refl own)
empty_step m h (Sending (AckedOwn id offsets fin answer)) before after own z s = not-mine (mine h (Sending (AckedOwn id offsets fin answer)) refl own)
empty_step m h _ before after own z s = stays_empty before after z s

none_queued : (m : Made) (h : List Event) (events : List StreamEvent) → AreOwnDoings h → AreQueued m h events → events ≡ []
none_queued m [] events own k = k
none_queued m (e ∷ h) events own k = empty_step m h e k.0 events own.0 (none_queued m h k.0 own.1 k.1) k.2

-- ---- what is left of the peer's streams

few_start : (m : Made) (d : Dir) → IsUnusedRemote m.bi → IsUnusedRemote m.uni → (remote_of (start m) d).max_remote ≤ 2 ^ 60
few_start m Bi bi uni = bi.few
few_start m Uni bi uni = uni.few

few_permitted : (m : Made) (h : List Event) (v : World) (run : IsRun m h v) → EverPermits m h v run → (d : Dir) → (remote_of v d).max_remote ≤ 2 ^ 60
few_permitted m [] v run all d = let P : World → Type 0 = λ w. (remote_of w d).max_remote ≤ 2 ^ 60 in subst P (sym run.is) (few_start m d run.bi run.uni)
few_permitted m (e ∷ h) v run all d =
    let few = few_permitted m h run.0 run.1 all.1 d in
    let now = all.0 d in
    let permitted = now.permitted in
    omega arith

module _ (m : Made) (h : List Event) (u : World) (client : m.side ≡ Client) (own : AreOwnDoings h) (f : From m h u) where
  did : DidItsOwn m h u
  did = did_own m h u f.run own

  quiet_all : (q : ℕ) → IsQuiet (trace h q)
  quiet_all q = quiet-trace h did.unanswered q

  bare : IsBare u
  bare = bare-run m h u client f.run own

  unused_credit : IsUnusedCredit u.credit
  unused_credit =
      let used = did.consumed in
      let came = none_in_all (λ q. (trace h q).high) (streams h) (λ q. let k = quiet_all q in k.high) in
      let c = f.facts.credit in
      let window = c.receive_window in
      let owed = c.debt in
      let limit : u.credit.local_max_data ≡ min (last_window m.credit h + consumed h + debt m.credit h) (2 ^ 64 - 1) = c.limit in
      record { received = c.received ∙ came; limit = omega arith; debt_fits = c.debt_fits }

  none_freed : (d : Dir) (i : ℕ) → is_freed (trace h) u.out.side (sends u) d i ≡ false
  none_freed Bi i = let k = quiet_all (stream_id (other_side u.out.side) Bi i) in rw k.there refl
  none_freed Uni i = let k = quiet_all (stream_id (other_side u.out.side) Uni i) in k.there

  unused_remote : (d : Dir) → IsUnusedRemote (remote_of u d)
  unused_remote d =
      let now = permits-now m h u f.run f.remotes d in
      let none = none-over (remote_of u d).max_remote (is_freed (trace h) u.out.side (sends u) d) (none_freed d) in
      let all = now.allocated in
      let permitted : (remote_of u d).max_remote ≡ max (before m h u f.run d) (min ((remote_of u d).max_concurrent + number (is_freed (trace h) u.out.side (sends u) d) (remote_of u d).max_remote) (2 ^ 60)) = now.permitted in
      let k = bare.unopened d in
      record { next = k.next; reported = k.reported; told = k.told; allocated = omega arith; few = few_permitted m h u f.run f.remotes d; enough = omega arith }

  early : IsEarly u
  early = is-early m h u client did.unanswered f

  abbrev w : World
  w = with_rejection u

  unused_anew : (b : Bool) (r : Remote) → IsUnusedRemote r → IsUnusedRemote (announced_anew b r)
  unused_anew true r s = record { next = s.next; reported = s.reported; told = s.told; allocated = s.allocated; few = s.few; enough = s.enough }
  unused_anew false r s = s

  -- the receive halves
  abbrev most_of : Dir → ℕ
  most_of d = (remote_of w d).max_remote

  most_same : (d : Dir) → (remote_of u d).max_remote ≡ most_of d
  most_same Bi = sym (announced-most u.adjusted u.bi)
  most_same Uni = sym (announced-most u.adjusted u.uni)

  receive_at : (q : ℕ) (b : Bool) → is_local u.out.side q ≡ b → (if b then None else u.receive q) ≡ first_halves u.out.side most_of u.window q
  receive_at q true e = sym (first-own u.out.side most_of u.window q e)
  receive_at q false e =
      bare.peer q (ap (λ s. is_local s q) (sym bare.client) ∙ e)
      ∙ ap (λ n. new_if u.window (nat_lt (index_of q) n)) (most_same (dir_of q))
      ∙ sym (first-peer u.out.side most_of u.window q e)

  receive_is : without_own u.out.side u.receive ≡ first_halves u.out.side most_of u.window
  unfolding without_own
  receive_is = λ k. λ q. receive_at q (is_local u.out.side q) refl k

  -- the send halves
  is_peers : (s : Side) (b : Bool) → has_side (other_side s) b ≡ not (are_one_end s (if b then Client else Server))
  is_peers Client true = refl
  is_peers Client false = refl
  is_peers Server true = refl
  is_peers Server false = refl

  among_first : (s : Side) (n q : ℕ) → is_between (other_side s) Bi 0 n q ≡ ((not (is_local s q) && (q / 2 % 2 == 0)) && nat_lt (index_of q) n)
  among_first s n q =
      let z : 0 + n ≡ n = omega arith in
      rw (spelled (other_side s) Bi q (q % 2 == 0) (q / 2 % 2 == 0) refl refl, least (index_of q), z) (ap (λ b. (b && (q / 2 % 2 == 0)) && nat_lt (index_of q) n) (is_peers s (q % 2 == 0)))

  held_anew : (o : Option Send) (n : ℕ) → n ≡ 0 → (b : Bool) → (b ≡ true → is_some o ≡ true) → (b ≡ false → o ≡ None) → option_map (λ s. new_sender 0) o ≡ cond b (Some (new_sender n)) None
  held_anew (Some s) n z true there none = ap (λ x. Some (new_sender x)) (sym z)
  held_anew None n z true there none = let k = there refl in cc
  held_anew o n z false there none = ap (option_map (λ s. new_sender 0)) (none refl)

  side_of_peer : (b : Bool) (d : Dir) (c : Bool) (opened : Dir → ℕ) (n index : ℕ) → b ≡ false
      → (if b then nat_lt index (opened (if c then Bi else Uni)) else is_answered_on (if c then Bi else Uni) n index) ≡ ((not b && c) && nat_lt index n)
  side_of_peer true d c opened n index e = cc
  side_of_peer false d true opened n index e = refl
  side_of_peer false d false opened n index e = refl

  has_side_now : (q : ℕ) → is_local u.out.side q ≡ false → has_side_in u.out u.bi.max_remote q ≡ is_between (other_side u.out.side) Bi 0 (most_of Bi) q
  has_side_now q e =
      side_of_peer (is_local u.out.side q) Bi (q / 2 % 2 == 0) (λ d. (own_of u.out d).opened) u.bi.max_remote (index_of q) e
      ∙ ap (λ n. (not (is_local u.out.side q) && (q / 2 % 2 == 0)) && nat_lt (index_of q) n) (most_same Bi)
      ∙ sym (among_first u.out.side (most_of Bi) q)

  send_at : (q : ℕ) (b : Bool) → is_local u.out.side q ≡ b
      → (if b then None else option_map (λ s. new_sender 0) (u.out.halves q)) ≡ cond (is_between (other_side u.out.side) Bi 0 (most_of Bi) q) (Some (new_sender (first_limit u.out.side no_limits q))) None
  send_at q true e =
      let k : is_between (other_side u.out.side) Bi 0 (most_of Bi) q ≡ false = among_first u.out.side (most_of Bi) q ∙ ap (λ b. (not b && (q / 2 % 2 == 0)) && nat_lt (index_of q) (most_of Bi)) e in
      rw k refl
  send_at q false e =
      held_anew (u.out.halves q) (first_limit u.out.side no_limits q) (none-first (is_local u.out.side q) (dir_of q)) (is_between (other_side u.out.side) Bi 0 (most_of Bi) q)
      (λ t. early.peer q e (has_side_now q e ∙ t))
      (λ t. none-held _ _ (has_side_in u.out u.bi.max_remote q) (u.out.halves q) (has_side_now q e ∙ t) (f.sends.flows q))

  halves_are : of_peer_anew u.out.side u.out.halves ≡ with_more_of_peer (λ id. None) u.out.side no_limits 0 (most_of Bi)
  unfolding of_peer_anew with_more_of_peer
  halves_are = λ k. λ q. send_at q (is_local u.out.side q) refl k

  -- and the rest
  abbrev shape : Halves → SendersById → List StreamEvent → ℕ → World
  shape r s es n = record {
    credit = u.credit;
    bi = announced_anew u.adjusted u.bi;
    uni = announced_anew u.adjusted u.uni;
    out = record { side = u.out.side; own_bi = no_own; own_uni = no_own; budget = no_credit u.out.budget.send_window; first = no_limits; halves = s; blocked = [] };
    queue = empty_queue;
    receive = r;
    window = u.window;
    events = es;
    send_streams = n;
    adjusted = u.adjusted;
  }

  none_accepted : halves_among u (other_side u.out.side) Bi u.bi.next_reported ≡ 0
  unfolding number
  none_accepted = let k = bare.unopened Bi in ap (halves_among u (other_side u.out.side) Bi) k.reported

  again : w ≡ start (made_again w)
  again =
      ap (λ r. shape r (of_peer_anew u.out.side u.out.halves) u.events (halves_among u (other_side u.out.side) Bi u.bi.next_reported)) receive_is
      ∙ ap (λ s. shape (first_halves u.out.side most_of u.window) s u.events (halves_among u (other_side u.out.side) Bi u.bi.next_reported)) halves_are
      ∙ ap (λ es. shape (first_halves u.out.side most_of u.window) (with_more_of_peer (λ id. None) u.out.side no_limits 0 (most_of Bi)) es (halves_among u (other_side u.out.side) Bi u.bi.next_reported)) (none_queued m h u.events own f.queued)
      ∙ ap (λ n. shape (first_halves u.out.side most_of u.window) (with_more_of_peer (λ id. None) u.out.side no_limits 0 (most_of Bi)) [] n) none_accepted

  starts_anew : IsStart (made_again w) w
  starts_anew = record { uni = unused_anew u.adjusted u.uni (unused_remote Uni); bi = unused_anew u.adjusted u.bi (unused_remote Bi); credit = unused_credit; is = again }

-- a rejected end is a new end, made with what it holds that is not of its own streams
pub renewed : (m : Made) (h : List Event) (u v : World) → m.side ≡ Client → AreOwnDoings h → From m h u → v ≡ with_rejection u → From (made_again v) [] v
renewed m h u v client own f e = let P : World → Type 0 = λ x. From (made_again x) [] x in subst P (sym e) (begins (made_again (with_rejection u)) (with_rejection u) (starts_anew m h u client own f))

-- ---- what the peer was permitted

data_kept : (m : Made) (h : List Event) (v : World) → IsRun m h v → m.credit.local_max_data ≤ v.credit.local_max_data
data_kept m [] v run = let e : v.credit.local_max_data ≡ m.credit.local_max_data = ap (λ (w : World). w.credit.local_max_data) run.is in omega arith
data_kept m (e ∷ h) v run = let a = data_kept m h run.0 run.1 in let b = run.4.limit in omega arith

count_kept : (m : Made) (h : List Event) (v : World) (run : IsRun m h v) → EverPermits m h v run → (d : Dir) → (remote_of (start m) d).max_remote ≤ (remote_of v d).max_remote
count_kept m [] v run all d = let now = all d in let permitted = now.permitted in omega arith
count_kept m (e ∷ h) v run all d = let a = count_kept m h run.0 run.1 all.1 d in let now = all.0 d in let permitted = now.permitted in omega arith

-- a rejection takes nothing of it back
pub permits-no-less : (m : Made) (h : List Event) (u v : World) → From m h u → v ≡ with_rejection u → PermitsNoLess m (made_again v)
permits-no-less m h u v f e =
    let P : World → Type 0 = λ x. PermitsNoLess m (made_again x) in
    let bi = count_kept m h u f.run f.remotes Bi in
    let uni = count_kept m h u f.run f.remotes Uni in
    let same_bi = announced-most u.adjusted u.bi in
    let same_uni = announced-most u.adjusted u.uni in
    subst P (sym e) (record { side = f.side; limit = data_kept m h u f.run; uni = omega arith; bi = omega arith; window = f.window })
