-- What a client does by itself leaves the streams of its peer as they were made.
use Rattle.std.proofs.Common.{◌≡◌, ◌⊎◌, inl, inr, ℕ, Bool, true, false, ◌&&◌, not, cond, List, [], ◌∷◌, Option, Some, None, is_some, Result, Ok, Err, refl, sym, ap, ◌∙◌, subst, arith, ◌+◌, ◌/◌, ◌%◌, ◌<◌}
use Rattle.std.specs.Prelude.{◌==◌, ◌^◌, ◌-◌, ℤ, max, min, nat_lt, nat_le, unwrap_or, if◌then◌else◌, MatchBool}
use Rattle.std.proofs.lemmas.Bool.{eqb-true}
use Rattle.std.proofs.lemmas.Bool.Decides.{nat_tests}
use Rattle.quic_values.specs.declared.ids.Side.{Side}
use Rattle.quic_values.specs.declared.ids.Side.TheVariants.{Client, Server}
use Rattle.quic_values.specs.declared.ids.Dir.{Dir}
use Rattle.quic_values.specs.declared.ids.Dir.TheVariants.{Bi, Uni}
use Rattle.quic_values.specs.Ids.{stream_id, other_side, initiator_of, dir_of, index_of}
use Rattle.quic_values.specs.declared.memory.OutOfMemory.{OutOfMemory}
use Rattle.quic_wire.specs.declared.event.StreamEvent.{StreamEvent}
use Rattle.quic_wire.specs.declared.frame.Frame.{Frame}
use Rattle.quic_limits.specs.Remote.{Remote, lacking, one_accepted, streams_announced}
use Rattle.quic_receiving.specs.Half.{Half, new_half, stop_credit}
use Rattle.quic_receiving.specs.declared.errors.ReadError.{ReadError}
use Rattle.quic_receiving.specs.declared.errors.ReadError.TheVariants as read_error
use Rattle.quic_receiving.specs.declared.errors.ReadableError.{ReadableError}
use Rattle.quic_receiving.specs.declared.errors.ReadableError.TheVariants as readable_error
use Rattle.quic_sending.specs.declared.errors.HandleError.{HandleError}
use Rattle.quic_sending.specs.declared.errors.HandleError.TheVariants as handle_error
use Rattle.quic_retransmits.specs.Pending.{Pending}
use Rattle.quic_assembler.specs.declared.chunk.Chunk.{Chunk}
use Rattle.quic_outgoing.specs.Senders.{is_local, are_one_end}
use Rattle.quic_outgoing.specs.Outgoing.{Outgoing, own_of}
use Rattle.quic_history.specs.declared.control.ControlKind.{ControlKind}
use Rattle.quic_history.specs.declared.control.ControlKind.TheVariants as kinds
use Rattle.quic_history.specs.Halves.{Halves, with_half, with_first, with_more}
use Rattle.quic_history.specs.World.{World, Made, start, is_own, remote_of, with_remote, with_receive, with_credit, with_receive_window, with_freed}
use Rattle.quic_history.specs.Control.{SettlesEntry, with_announced, after_announced}
use Rattle.quic_history.specs.Reading.{Begins, Stops, TellsReset, after_read, after_stop}
use Rattle.quic_history.specs.Sends.{with_opened, with_out, TellsNext, PollsQueue}
use Rattle.quic_history.specs.SendEvents.{SendEvent, SendStep, GaveLimits, OpenedOwn, RaisedData, RaisedCount, RaisedLimit, StoppedOwn, SetWindow, WroteOwn, FinishedOwn, ResetOwn, SetOwnPriority, AckedOwn, LostOwn, ResetAckedOwn, TookTurn, Polled}
use Rattle.quic_history.specs.Writes.{with_queued}
use Rattle.quic_history.specs.Permitting.{after_concurrent, with_accepted}
use Rattle.quic_history.specs.History.{Event, Received, ReceivedReset, AddedCredits, Began, Gave, Ended, Stopped, ToldReset, Resized, SetConcurrent, Accepted, LeftPending, Sending, Rejected, SentAgain, Step, IsStart, IsRun, limits_in}
use Rattle.quic_history.specs.OwnDoings.{is_own_sending, is_own_doing, AreOwnDoings}
use Rattle.quic_history.proofs.Beginnings.{has_side, has_dir, among, spelled}
use Rattle.quic_history.proofs.EarlyFacts.{same-ends}
use Rattle.quic_history.proofs.Refusals.{side-bit}
use Rattle.quic_history.proofs.SendSteps.{goes-sending}

-- the half of a stream that may be opened, or not, and was not touched
abbrev pub new_if : ℕ → Bool → Option Half
new_if window b = if b then Some (new_half window) else None

-- none of the peer's streams of a direction was opened
pub record IsUnopened (r : Remote) : Type 0 where
  pub next : r.next_remote ≡ 0
  pub reported : r.next_reported ≡ 0
  pub told : r.opened ≡ false

-- a client none of whose peer's streams was opened or touched: each that may be opened has a new half
pub record IsBare (w : World) : Type 0 where
  pub client : w.out.side ≡ Client
  pub unopened : (d : Dir) → IsUnopened (remote_of w d)
  pub peer : (q : ℕ) → is_local Client q ≡ false → w.receive q ≡ new_if w.window (nat_lt (index_of q) (remote_of w (dir_of q)).max_remote)

-- ---- an end that was just made

-- the halves that it begins with, by how many streams of each direction the peer may open
abbrev pub first_halves : Side → (Dir → ℕ) → ℕ → Halves
first_halves s f window = with_first (with_first (λ id. None) (other_side s) Bi (f Bi) (Some (new_half window))) (other_side s) Uni (f Uni) (Some (new_half window))

first_by : (s : Side) (b c : Bool) (f : Dir → ℕ) (o : Option Half) (index : ℕ) → are_one_end s (if b then Client else Server) ≡ false
    → cond ((has_side (other_side s) b && has_dir Uni c) && nat_lt index (f Uni)) o (cond ((has_side (other_side s) b && has_dir Bi c) && nat_lt index (f Bi)) o None)
    ≡ (if nat_lt index (f (if c then Bi else Uni)) then o else None)
first_by Client true c f o index e = cc
first_by Client false true f o index e = refl
first_by Client false false f o index e = by (nat_lt index (f Uni))
  where
    by : (b : Bool) → cond b o (cond false o None) ≡ (if b then o else None)
    by true = refl
    by false = refl
first_by Server true true f o index e = refl
first_by Server true false f o index e = by (nat_lt index (f Uni))
  where
    by : (b : Bool) → cond b o (cond false o None) ≡ (if b then o else None)
    by true = refl
    by false = refl
first_by Server false c f o index e = cc

-- those of the peer's streams
pub first-peer : (s : Side) (f : Dir → ℕ) (window q : ℕ) → is_local s q ≡ false → first_halves s f window q ≡ new_if window (nat_lt (index_of q) (f (dir_of q)))
unfolding with_first
first-peer s f window q e =
    rw (among (other_side s) Uni (f Uni) q (q % 2 == 0) (q / 2 % 2 == 0) refl refl, among (other_side s) Bi (f Bi) q (q % 2 == 0) (q / 2 % 2 == 0) refl refl)
    (first_by s (q % 2 == 0) (q / 2 % 2 == 0) f (Some (new_half window)) (index_of q) e)

own_by : (s : Side) (b c : Bool) (f : Dir → ℕ) (o : Option Half) (index : ℕ) → are_one_end s (if b then Client else Server) ≡ true
    → cond ((has_side (other_side s) b && has_dir Uni c) && nat_lt index (f Uni)) o (cond ((has_side (other_side s) b && has_dir Bi c) && nat_lt index (f Bi)) o None) ≡ None
own_by Client true c f o index e = refl
own_by Client false c f o index e = cc
own_by Server true c f o index e = cc
own_by Server false c f o index e = refl

-- its own have none
pub first-own : (s : Side) (f : Dir → ℕ) (window q : ℕ) → is_local s q ≡ true → first_halves s f window q ≡ None
unfolding with_first
first-own s f window q e =
    rw (among (other_side s) Uni (f Uni) q (q % 2 == 0) (q / 2 % 2 == 0) refl refl, among (other_side s) Bi (f Bi) q (q % 2 == 0) (q / 2 % 2 == 0) refl refl)
    (own_by s (q % 2 == 0) (q / 2 % 2 == 0) f (Some (new_half window)) (index_of q) e)

bare_start : (m : Made) (v : World) → m.side ≡ Client → IsStart m v → IsBare v
bare_start m v client s = subst IsBare (sym s.is) (record {
  client = client;
  unopened = both;
  peer = λ q e. first-peer m.side (λ d. (remote_of (start m) d).max_remote) m.window q (ap (λ s. is_local s q) client ∙ e);
})
  where
    both : (d : Dir) → IsUnopened (remote_of (start m) d)
    both Bi = record { next = s.bi.next; reported = s.bi.reported; told = s.bi.told }
    both Uni = record { next = s.uni.next; reported = s.uni.reported; told = s.uni.told }

-- ---- what leaves it so

bare_at : (v w : World) → v ≡ w → IsBare w → IsBare v
bare_at v w e b = subst IsBare (sym e) b

-- a direction of which nothing is opened, and no more may be
record StaysUnopened (r r' : Remote) : Type 0 where
  max : r'.max_remote ≡ r.max_remote
  next : r'.next_remote ≡ r.next_remote
  reported : r'.next_reported ≡ r.next_reported
  told : r'.opened ≡ r.opened

stays : (r : Remote) → StaysUnopened r r
stays r = record { max = refl; next = refl; reported = refl; told = refl }

bare_kept : (u v : World) → v.out.side ≡ u.out.side → v.window ≡ u.window → ((d : Dir) → StaysUnopened (remote_of u d) (remote_of v d))
    → ((q : ℕ) → is_local Client q ≡ false → v.receive q ≡ u.receive q) → IsBare u → IsBare v
bare_kept u v side window remotes receive b = record {
  client = side ∙ b.client;
  unopened = λ d. let s = remotes d in let k = b.unopened d in record { next = s.next ∙ k.next; reported = s.reported ∙ k.reported; told = s.told ∙ k.told };
  peer = λ q e. let s = remotes (dir_of q) in
      receive q e ∙ b.peer q e
      ∙ ap (λ n. new_if n (nat_lt (index_of q) (remote_of u (dir_of q)).max_remote)) (sym window)
      ∙ ap (λ n. new_if v.window (nat_lt (index_of q) n)) (sym s.max);
}

-- the parts that count
record SameRest (u v : World) : Type 0 where
  bi : v.bi ≡ u.bi
  uni : v.uni ≡ u.uni
  receive : v.receive ≡ u.receive
  window : v.window ≡ u.window

rest_at : (u v w : World) → v ≡ w → SameRest u w → SameRest u v
rest_at u v w e s = let P : World → Type 0 = λ x. SameRest u x in subst P (sym e) s

rest_none : (u : World) → SameRest u u
rest_none u = record { bi = refl; uni = refl; receive = refl; window = refl }

rest_out : (u : World) (o : Outgoing) → SameRest u (with_out u o)
rest_out u o = record { bi = refl; uni = refl; receive = refl; window = refl }

rest_queued : (u : World) (o : Outgoing) (id : ℕ) (queue : Option ℤ) → SameRest u (with_queued (with_out u o) id queue)
rest_queued u o id None = record { bi = refl; uni = refl; receive = refl; window = refl }
rest_queued u o id (Some priority) = record { bi = refl; uni = refl; receive = refl; window = refl }

same_stays : (r r' : Remote) → r' ≡ r → StaysUnopened r r'
same_stays r r' e = let P : Remote → Type 0 = λ x. StaysUnopened r x in subst P (sym e) (stays r)

bare_rest : (u v : World) → v.out.side ≡ u.out.side → SameRest u v → IsBare u → IsBare v
bare_rest u v side s b = bare_kept u v side s.window both (λ q e. ap (λ (f : Halves). f q) s.receive) b
  where
    both : (d : Dir) → StaysUnopened (remote_of u d) (remote_of v d)
    both Bi = same_stays u.bi v.bi s.bi
    both Uni = same_stays u.uni v.uni s.uni

-- a half of a stream of the client
not_this : (q id : ℕ) (b : Bool) → (q == id) ≡ b → is_local Client id ≡ true → is_local Client q ≡ false → b ≡ false
not_this q id true e own peer = let k : is_local Client q ≡ true = ap (is_local Client) (eqb-true q id e) ∙ own in cc
not_this q id false e own peer = refl

bare_put : (u : World) (id : ℕ) (o : Option Half) → is_local Client id ≡ true → IsBare u → IsBare (with_receive u id o)
unfolding with_receive with_half
bare_put u id o own b = bare_kept u (with_receive u id o) refl refl both (λ q e. ap (λ k. cond k o (u.receive q)) (not_this q id (q == id) refl own e)) b
  where
    both : (d : Dir) → StaysUnopened (remote_of u d) (remote_of (with_receive u id o) d)
    both Bi = stays u.bi
    both Uni = stays u.uni

freed_own : (u : World) (id : ℕ) → u.out.side ≡ Client → is_local Client id ≡ true → with_freed u id ≡ with_receive u id None
unfolding with_receive
freed_own u id client own =
    let mine : is_own u id ≡ true = same-ends u.out.side (initiator_of id) ∙ ap (λ s. is_local s id) client ∙ own in
    rw mine refl

bare_freed : (u : World) (id : ℕ) → is_local Client id ≡ true → IsBare u → IsBare (with_freed u id)
bare_freed u id own b = bare_at (with_freed u id) (with_receive u id None) (freed_own u id b.client own) (bare_put u id None own b)

bare_credit : (u : World) (n : ℕ) → IsBare u → IsBare (with_credit u n)
bare_credit u n b = bare_rest u (with_credit u n) refl (record { bi = refl; uni = refl; receive = refl; window = refl }) b

-- ---- reads

bare_asks : (u v : World) (id : ℕ) (o : Option Half) → v ≡ with_receive u id o → is_local Client id ≡ true → IsBare u → IsBare v
bare_asks u v id o e own b = bare_at v (with_receive u id o) e (bare_put u id o own b)

bare_began : (u v : World) (id : ℕ) (ordered : Bool) (answer : Result (Unit {0}) ReadableError) → is_local Client id ≡ true → Begins u id ordered answer v → IsBare u → IsBare v
bare_began u v id ordered (Ok x) own s b = bare_asks u v id (Some s.new) s.is own b
bare_began u v id ordered (Err readable_error.ClosedStream) own s b = bare_at v u s.1 b
bare_began u v id ordered (Err readable_error.IllegalOrderedRead) own s b = bare_asks u v id (Some s.new) s.is own b
bare_began u v id ordered (Err readable_error.OutOfMemory) own (inl s) b = bare_at v u s b
bare_began u v id ordered (Err readable_error.OutOfMemory) own (inr s) b = bare_asks u v id (Some s.new) s.is own b

bare_read : (u v : World) (id : ℕ) (h : Half) (answer : Result (Option Chunk) ReadError) → is_local Client id ≡ true → v ≡ after_read u id h answer → IsBare u → IsBare v
bare_read u v id h (Ok (Some chunk)) own e b = bare_asks u v id (Some h) e own b
bare_read u v id h (Ok None) own e b = bare_at v (with_freed u id) e (bare_freed u id own b)
bare_read u v id h (Err read_error.Blocked) own e b = bare_asks u v id (Some h) e own b
bare_read u v id h (Err (read_error.Reset code)) own e b = bare_at v (with_freed u id) e (bare_freed u id own b)
bare_read u v id h (Err read_error.OutOfMemory) own e b = bare_asks u v id (Some h) e own b

bare_stopped : (u v : World) (id code : ℕ) (p : Pending) (answer : Result (Unit {0}) HandleError) (q : Pending) → is_local Client id ≡ true → Stops u id code p answer v q → IsBare u → IsBare v
bare_stopped u v id code p (Ok x) q own s b = bare_at v (after_stop u id s.0 s.1) s.6 (by (is_some s.0.size))
  where
    by : (sized : Bool) → IsBare (with_credit (if sized then with_freed u id else with_receive u id (Some s.1)) (stop_credit s.0))
    by true = bare_credit (with_freed u id) (stop_credit s.0) (bare_freed u id own b)
    by false = bare_credit (with_receive u id (Some s.1)) (stop_credit s.0) (bare_put u id (Some s.1) own b)
bare_stopped u v id code p (Err handle_error.ClosedStream) q own s b = bare_at v u s.1 b
bare_stopped u v id code p (Err handle_error.OutOfMemory) q own s b = bare_at v u s.0 b

bare_told : (u v : World) (id : ℕ) (p : Pending) (answer : Result (Option ℕ) HandleError) (q : Pending) → is_local Client id ≡ true → TellsReset u id p answer v q → IsBare u → IsBare v
bare_told u v id p (Ok (Some code)) q own s b = bare_at v (with_freed u id) s.4 (bare_freed u id own b)
bare_told u v id p (Ok None) q own s b = bare_at v u s.4 b
bare_told u v id p (Err handle_error.ClosedStream) q own s b = bare_at v u s.1 b
bare_told u v id p (Err handle_error.OutOfMemory) q own s b = bare_at v u s.3 b

-- ---- more streams of the peer

more_if : (window first n i : ℕ) (b c : Bool) → nat_lt i first ≡ b → nat_lt i (first + n) ≡ c
    → cond (nat_le first i && c) (Some (new_half window)) (new_if window b) ≡ new_if window c
more_if window first n i true true e k = by (nat_le first i)
  where
    by : (l : Bool) → cond (l && true) (Some (new_half window)) (Some (new_half window)) ≡ Some (new_half window)
    by true = refl
    by false = refl
more_if window first n i true false e k = absurd (let a : i < first = grind (arith, nat_tests) in let l : nat_lt i (first + n) ≡ true = grind (arith, nat_tests) in cc)
more_if window first n i false true e k = let l : nat_le first i ≡ true = grind (arith, nat_tests) in rw l refl
more_if window first n i false false e k = by (nat_le first i)
  where
    by : (l : Bool) → cond (l && false) (Some (new_half window)) None ≡ None
    by true = refl
    by false = refl

-- a stream of the peer is spelled by its direction
peer_spelled : (q : ℕ) (d : Dir) (b c : Bool) → (q % 2 == 0) ≡ b → (q / 2 % 2 == 0) ≡ c → are_one_end Client (if b then Client else Server) ≡ false → (q == stream_id Server d (index_of q)) ≡ has_dir d c
peer_spelled q d true c e k peer = cc
peer_spelled q d false c e k peer = spelled Server d q false c e k

-- with one direction's count raised
abbrev raised_in : Dir → ℕ → (Dir → ℕ) → Dir → ℕ
raised_in Bi n f Bi = f Bi + n
raised_in Bi n f Uni = f Uni
raised_in Uni n f Bi = f Bi
raised_in Uni n f Uni = f Uni + n

more_by : (d : Dir) (c : Bool) (f : Dir → ℕ) (window n i : ℕ)
    → cond (has_dir d c && (nat_le (f d) i && nat_lt i (f d + n))) (Some (new_half window)) (new_if window (nat_lt i (f (if c then Bi else Uni))))
    ≡ new_if window (nat_lt i (raised_in d n f (if c then Bi else Uni)))
more_by Bi true f window n i = more_if window (f Bi) n i (nat_lt i (f Bi)) (nat_lt i (f Bi + n)) refl refl
more_by Bi false f window n i = refl
more_by Uni true f window n i = refl
more_by Uni false f window n i = more_if window (f Uni) n i (nat_lt i (f Uni)) (nat_lt i (f Uni + n)) refl refl

more_peer : (g : Halves) (s : Side) (d : Dir) (f : Dir → ℕ) (window n q : ℕ) → s ≡ Server → is_local Client q ≡ false
    → g q ≡ new_if window (nat_lt (index_of q) (f (dir_of q)))
    → with_more g s d (f d) n (Some (new_half window)) q ≡ new_if window (nat_lt (index_of q) (raised_in d n f (dir_of q)))
unfolding with_more
more_peer g s d f window n q server peer was =
    let spells : (q == stream_id s d (index_of q)) ≡ has_dir d (q / 2 % 2 == 0) = ap (λ x. q == stream_id x d (index_of q)) server ∙ peer_spelled q d (q % 2 == 0) (q / 2 % 2 == 0) refl refl peer in
    ap (λ b. cond (b && (nat_le (f d) (index_of q) && nat_lt (index_of q) (f d + n))) (Some (new_half window)) (g q)) spells
    ∙ ap (λ o. cond (has_dir d (q / 2 % 2 == 0) && (nat_le (f d) (index_of q) && nat_lt (index_of q) (f d + n))) (Some (new_half window)) o) was
    ∙ more_by d (q / 2 % 2 == 0) f window n (index_of q)

bare_concurrent : (u : World) (d : Dir) (count : ℕ) → IsBare u → IsBare (after_concurrent u d count)
bare_concurrent u Bi count b = record {
  client = b.client;
  unopened = both;
  peer = λ q e. more_peer u.receive (other_side u.out.side) Bi (λ d. (remote_of u d).max_remote) u.window (lacking u.bi count) q (ap other_side b.client) e (b.peer q e) ∙ raised q;
}
  where
    w : World
    w = after_concurrent u Bi count

    both : (d : Dir) → IsUnopened (remote_of w d)
    both Bi = let k = b.unopened Bi in record { next = k.next; reported = k.reported; told = k.told }
    both Uni = b.unopened Uni

    by_dir : (d : Dir) → raised_in Bi (lacking u.bi count) (λ d. (remote_of u d).max_remote) d ≡ (remote_of w d).max_remote
    by_dir Bi = refl
    by_dir Uni = refl

    raised : (q : ℕ) → new_if u.window (nat_lt (index_of q) (raised_in Bi (lacking u.bi count) (λ d. (remote_of u d).max_remote) (dir_of q))) ≡ new_if w.window (nat_lt (index_of q) (remote_of w (dir_of q)).max_remote)
    raised q = ap (λ n. new_if u.window (nat_lt (index_of q) n)) (by_dir (dir_of q))
bare_concurrent u Uni count b = record {
  client = b.client;
  unopened = both;
  peer = λ q e. more_peer u.receive (other_side u.out.side) Uni (λ d. (remote_of u d).max_remote) u.window (lacking u.uni count) q (ap other_side b.client) e (b.peer q e) ∙ raised q;
}
  where
    w : World
    w = after_concurrent u Uni count

    both : (d : Dir) → IsUnopened (remote_of w d)
    both Bi = b.unopened Bi
    both Uni = let k = b.unopened Uni in record { next = k.next; reported = k.reported; told = k.told }

    by_dir : (d : Dir) → raised_in Uni (lacking u.uni count) (λ d. (remote_of u d).max_remote) d ≡ (remote_of w d).max_remote
    by_dir Bi = refl
    by_dir Uni = refl

    raised : (q : ℕ) → new_if u.window (nat_lt (index_of q) (raised_in Uni (lacking u.uni count) (λ d. (remote_of u d).max_remote) (dir_of q))) ≡ new_if w.window (nat_lt (index_of q) (remote_of w (dir_of q)).max_remote)
    raised q = ap (λ n. new_if u.window (nat_lt (index_of q) n)) (by_dir (dir_of q))

-- none is there to be accepted
accepted_stays : (r : Remote) → IsUnopened r → StaysUnopened r (one_accepted r)
accepted_stays r k =
    let next = k.next in
    let reported = k.reported in
    let none : nat_lt r.next_reported r.next_remote ≡ false = grind (arith, nat_tests) in
    same_stays r (one_accepted r) (rw none refl)

bare_accepted : (u : World) (d : Dir) → IsBare u → IsBare (with_accepted u d)
bare_accepted u Bi b = bare_kept u (with_accepted u Bi) refl refl both (λ q e. refl) b
  where
    both : (d : Dir) → StaysUnopened (remote_of u d) (remote_of (with_accepted u Bi) d)
    both Bi = accepted_stays u.bi (b.unopened Bi)
    both Uni = stays u.uni
bare_accepted u Uni b = bare_kept u (with_accepted u Uni) refl refl both (λ q e. refl) b
  where
    both : (d : Dir) → StaysUnopened (remote_of u d) (remote_of (with_accepted u Uni) d)
    both Bi = stays u.bi
    both Uni = accepted_stays u.uni (b.unopened Uni)

-- ---- control frames

-- the limit of a stream that was not touched is announced as it was
announced_new : (window : ℕ) → with_announced window (new_half window) ≡ new_half window
announced_new window = let same : max window (min (0 + window) (2 ^ 62 - 1)) ≡ window = omega arith in ap (λ n. record (new_half window) { sent_max = n }) same

announced_some : (window : ℕ) (h : Half) (b : Bool) → new_if window b ≡ Some h → with_announced window h ≡ h
announced_some window h true e =
    let P : Half → Type 0 = λ x. with_announced window x ≡ x in
    let is : new_half window ≡ h = ap (λ (o : Option Half). unwrap_or o h) e in
    subst P is (announced_new window)
announced_some window h false e = cc

announced_peer : (f : Halves) (window k q : ℕ) (o : Option Half) (b : Bool) → f k ≡ o → f q ≡ new_if window b → (after_announced f window k o) q ≡ f q
unfolding with_half
announced_peer f window k q None b e is = refl
announced_peer f window k q (Some h) b e is = by (q == k) refl
  where
    by : (c : Bool) → (q == k) ≡ c → cond c (Some (with_announced window h)) (f q) ≡ f q
    by true t = let j : f q ≡ Some h = ap f (eqb-true q k t) ∙ e in ap Some (announced_some window h b (sym is ∙ j)) ∙ sym j
    by false t = refl

bare_window : (u v : World) (k : ℕ) → v ≡ record u { receive = after_announced u.receive u.window k (u.receive k) } → IsBare u → IsBare v
bare_window u v k e b = let w = record u { receive = after_announced u.receive u.window k (u.receive k) } in
    bare_at v w e (bare_kept u w refl refl both (λ q peer. announced_peer u.receive u.window k q (u.receive k) _ refl (b.peer q peer)) b)
  where
    both : (d : Dir) → StaysUnopened (remote_of u d) (remote_of (record u { receive = after_announced u.receive u.window k (u.receive k) }) d)
    both Bi = stays u.bi
    both Uni = stays u.uni

announced_stays : (r : Remote) → StaysUnopened r (streams_announced r)
announced_stays r = record { max = refl; next = refl; reported = refl; told = refl }

bare_announced : (u : World) (d : Dir) → IsBare u → IsBare (with_remote u d (streams_announced (remote_of u d)))
bare_announced u Bi b = bare_kept u (with_remote u Bi (streams_announced u.bi)) refl refl both (λ q e. refl) b
  where
    both : (d : Dir) → StaysUnopened (remote_of u d) (remote_of (with_remote u Bi (streams_announced u.bi)) d)
    both Bi = announced_stays u.bi
    both Uni = stays u.uni
bare_announced u Uni b = bare_kept u (with_remote u Uni (streams_announced u.uni)) refl refl both (λ q e. refl) b
  where
    both : (d : Dir) → StaysUnopened (remote_of u d) (remote_of (with_remote u Uni (streams_announced u.uni)) d)
    both Bi = stays u.bi
    both Uni = announced_stays u.uni

bare_left : (k : ControlKind) (u : World) (p : Pending) (o : Option Frame) (v : World) (q : Pending) → SettlesEntry k u p o v q → IsBare u → IsBare v
bare_left kinds.ResetStream u p o v q s b = bare_at v u s.end b
bare_left kinds.StopSending u p o v q s b = bare_at v u s.end b
bare_left kinds.MaxData u p o v q s b = bare_rest u v (ap (λ (w : World). w.out.side) s.end) (rest_at u v _ s.end (record { bi = refl; uni = refl; receive = refl; window = refl })) b
bare_left kinds.MaxStreamData u p o v q s b = bare_window u v s.id s.end b
bare_left (kinds.MaxStreams d) u p o v q s b = bare_at v _ s.end (bare_announced u d b)
bare_left kinds.DataBlocked u p o v q s b = bare_at v u s.end b
bare_left kinds.StreamDataBlocked u p o v q s b = bare_at v u s.end b

-- ---- the sending side

own_id : (d : Dir) (n : ℕ) → is_local Client (stream_id Client d n) ≡ true
own_id d n = ap (λ b. are_one_end Client (if b then Client else Server)) (side-bit Client d n)

bare_opened : (u v : World) (d : Dir) (id : ℕ) (o : Outgoing) → v.out.side ≡ u.out.side → is_local Client id ≡ true → v ≡ with_opened u d id o → IsBare u → IsBare v
unfolding with_receive
bare_opened u v Uni id o side own e b = bare_rest u v side (rest_at u v (with_opened u Uni id o) e (record { bi = refl; uni = refl; receive = refl; window = refl })) b
bare_opened u v Bi id o side own e b = let w = with_receive u id (Some (new_half u.window)) in
    bare_rest w v side (rest_at w v (with_opened u Bi id o) e (record { bi = refl; uni = refl; receive = refl; window = refl })) (bare_put u id (Some (new_half u.window)) own b)

none_opened : (A B : Type 0) {C : Type 0} (a b : Bool) → a ≡ false → b ≡ false → MatchBool a A (MatchBool b B C) → C
none_opened A B true b e k s = cc
none_opened A B false true e k s = cc
none_opened A B false false e k s = s

polls_rest : (u v : World) (o : Outgoing) (writable : Option ℕ) (answer : Option StreamEvent) → PollsQueue (with_out u o) writable answer v → SameRest u v
polls_rest u v o (Some id) answer s = rest_at u v (with_out u o) s.1 (rest_out u o)
polls_rest u v o None answer s = rest_at u v (record (with_out u o) { events = s.0 }) s.2 (record { bi = refl; uni = refl; receive = refl; window = refl })

polled_rest : (u v : World) (answer : Option StreamEvent) → IsBare u → TellsNext u answer v → SameRest u v
polled_rest u v answer b s =
    let bi = b.unopened Bi in
    let uni = b.unopened Uni in
    let t = none_opened _ _ u.bi.opened u.uni.opened bi.told uni.told s in
    polls_rest u v t.1 t.0 answer t.3

pub neither : {P : Type 0} → (false ≡ true) ⊎ (false ≡ true) → P
neither (inl e) = cc
neither (inr e) = cc

rest_sending : (u : World) (e : SendEvent) (v : World) → IsBare u → (is_own_sending e ≡ true) ⊎ (is_some (limits_in (Sending e)) ≡ true) → SendStep u e v
    → SameRest u v ⊎ ((d : Dir) × (id : ℕ) × (o : Outgoing) × (is_local Client id ≡ true) × (v ≡ with_opened u d id o))
rest_sending u (GaveLimits limits (Ok x)) v b own s = inl (rest_at u v _ s (record { bi = refl; uni = refl; receive = refl; window = refl }))
rest_sending u (GaveLimits limits (Err e)) v b own s = inl (rest_at u v u s (rest_none u))
rest_sending u (OpenedOwn dir closed (Ok None)) v b own s = inl (rest_at u v u s.1 (rest_none u))
rest_sending u (OpenedOwn dir closed (Ok (Some id))) v b own s =
    let mine : is_local Client id ≡ true = ap (is_local Client) s.2.1 ∙ ap (λ i. is_local Client (stream_id i dir (own_of u.out dir).opened)) b.client ∙ own_id dir (own_of u.out dir).opened in
    inr (dir, id, s.1, mine, s.3)
rest_sending u (OpenedOwn dir closed (Err e)) v b own s = inl (rest_at u v u s (rest_none u))
rest_sending u (SetWindow size) v b own s = inl (rest_at u v _ s (rest_out u _))
rest_sending u (WroteOwn id lists closed (Ok written)) v b own s = let w = s.3 in inl (rest_at u v _ w.5 (rest_queued u w.2 id _))
rest_sending u (WroteOwn id lists closed (Err e)) v b own s = inl (elim s.3 [
  | inl w ↦ rest_at u v u w.2 (rest_none u)
  | inr w ↦ rest_at u v _ w.3 (rest_out u w.1)
])
rest_sending u (FinishedOwn id (Ok x)) v b own s = inl (rest_at u v _ s.3 (rest_queued u s.1 id s.0))
rest_sending u (FinishedOwn id (Err e)) v b own s = inl (rest_at u v _ s.2 (rest_out u s.0))
rest_sending u (ResetOwn id code answer) v b own s = inl (rest_at u v _ s.2.2 (rest_out u s.2.0))
rest_sending u (SetOwnPriority id priority answer) v b own s = inl (rest_at u v _ s.2 (rest_out u s.0))
rest_sending u (LostOwn id offsets fin (Ok x)) v b own s = inl (rest_at u v _ s.3 (rest_queued u s.1 id s.0))
rest_sending u (LostOwn id offsets fin (Err e)) v b own s = inl (rest_at u v u s.1 (rest_none u))
rest_sending u (TookTurn most fair None) v b own s = inl (rest_at u v _ s.is (record { bi = refl; uni = refl; receive = refl; window = refl }))
rest_sending u (TookTurn most fair (Some frame)) v b own s = inl (rest_at u v _ s.is (record { bi = refl; uni = refl; receive = refl; window = refl }))
rest_sending u (Polled answer) v b own s = inl (polled_rest u v answer b s)
rest_sending u (RaisedData limit) v b own s = neither own
rest_sending u (RaisedCount dir count answer) v b own s = neither own
rest_sending u (RaisedLimit id limit answer) v b own s = neither own
rest_sending u (StoppedOwn id code answer) v b own s = neither own
rest_sending u (AckedOwn id offsets fin answer) v b own s = neither own
rest_sending u (ResetAckedOwn id answer) v b own s = neither own

bare_sending : (u : World) (e : SendEvent) (v : World) → (is_own_sending e ≡ true) ⊎ (is_some (limits_in (Sending e)) ≡ true) → SendStep u e v → IsBare u → IsBare v
bare_sending u e v own s b = let went = goes-sending u e v s in elim (rest_sending u e v b own s) [
  | inl k ↦ bare_rest u v went.side k b
  | inr k ↦ bare_opened u v k.0 k.1 k.2 went.side k.3 k.4 b
]

-- ---- each call

-- a call that gave no limits
pub mine : (h : List Event) (e : Event) → is_some (limits_in e) ≡ false → (is_own_doing e ≡ true) ⊎ ((is_some (limits_in e) ≡ true) × (h ≡ [])) → is_own_doing e ≡ true
mine h e n (inl k) = k
mine h e n (inr k) = let both = sym n ∙ k.0 in cc

pub not-mine : {P : Type 0} → false ≡ true → P
not-mine e = cc

bare_step : (h : List Event) (u : World) (e : Event) (v : World) → (is_own_doing e ≡ true) ⊎ ((is_some (limits_in e) ≡ true) × (h ≡ [])) → Step u e v → IsBare u → IsBare v
bare_step h u (Received id offset bytes fin answer) v own s b = not-mine (mine h (Received id offset bytes fin answer) refl own)
bare_step h u (ReceivedReset id code final answer) v own s b = not-mine (mine h (ReceivedReset id code final answer) refl own)
bare_step h u (AddedCredits count answer) v own s b = not-mine (mine h (AddedCredits count answer) refl own)
bare_step h u (Began id ordered answer) v own s b = bare_began u v id ordered answer (mine h (Began id ordered answer) refl own) s b
bare_step h u (Gave id most ordered answer) v own s b = bare_read u v id s.new answer (mine h (Gave id most ordered answer) refl own) s.is b
bare_step h u (Ended id count) v own s b = bare_at v (with_credit u count) s (bare_credit u count b)
bare_step h u (Stopped id code answer) v own s b = bare_stopped u v id code s.0 answer s.1 (mine h (Stopped id code answer) refl own) s.2 b
bare_step h u (ToldReset id answer) v own s b = bare_told u v id s.0 answer s.1 (mine h (ToldReset id answer) refl own) s.2 b
bare_step h u (Resized size answer) v own s b = bare_rest u v (ap (λ (w : World). w.out.side) s.0) (rest_at u v (with_receive_window u size) s.0 (record { bi = refl; uni = refl; receive = refl; window = refl })) b
bare_step h u (SetConcurrent dir count (Ok x)) v own s b = bare_at v (after_concurrent u dir count) s (bare_concurrent u dir count b)
bare_step h u (SetConcurrent dir count (Err x)) v own s b = bare_at v u s b
bare_step h u (Accepted dir answer) v own s b = bare_at v (with_accepted u dir) s.0 (bare_accepted u dir b)
bare_step h u (LeftPending kind frame) v own s b = bare_left kind u s.0 frame v s.1 s.2 b
bare_step h u (Sending e) v (inl own) s b = bare_sending u e v (inl own) s b
bare_step h u (Sending e) v (inr own) s b = bare_sending u e v (inr own.0) s b
bare_step h u Rejected v own s b = not-mine (mine h Rejected refl own)
bare_step h u (SentAgain (Ok x)) v own s b = bare_rest u v (ap (λ (w : World). w.out.side) s.1.2) (rest_at u v _ s.1.2 (record { bi = refl; uni = refl; receive = refl; window = refl })) b
bare_step h u (SentAgain (Err x)) v own s b = bare_at v u s.1 b

-- a client that did nothing but its own doings is bare
pub bare-run : (m : Made) (h : List Event) (w : World) → m.side ≡ Client → IsRun m h w → AreOwnDoings h → IsBare w
bare-run m [] w client run own = bare_start m w client run
bare-run m (e ∷ h) w client run own = bare_step h run.0 e w own.0 run.3 (bare-run m h run.0 client run.1 own.1)
