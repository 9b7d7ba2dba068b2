-- Streams and limits that one end counts on, the other permits; kept by each call.
use Rattle.std.proofs.Common.{◌≡◌, ℕ, zero, suc, Bool, true, false, [], ◌∷◌, Option, Some, None, Ok, Err, sym, ap, ◌∙◌, subst, inl, inr, arith, ◌≤◌, ◌<◌}
use Rattle.std.specs.Prelude.{not, max}
use Rattle.quic_values.specs.declared.ids.Dir.{Dir}
use Rattle.quic_values.specs.declared.ids.Dir.TheVariants.{Bi, Uni}
use Rattle.quic_values.specs.declared.ids.Side.{Side}
use Rattle.quic_values.specs.Ids.{other_side, stream_id, dir_of, index_of}
use Rattle.quic_wire.specs.declared.frame.Frame.TheVariants as frames
use Rattle.quic_outgoing.specs.declared.limits.PeerLimits.{PeerLimits}
use Rattle.quic_outgoing.specs.History.{count_in, given_for}
use Rattle.quic_outgoing.specs.Senders.{is_local}
use Rattle.quic_outgoing.specs.Outgoing.{own_of, first_ids, own_ids}
use Rattle.quic_history.specs.World.{World, Made, start, remote_of}
use Rattle.quic_history.specs.SendEvents.{GaveLimits, RaisedData, RaisedCount, RaisedLimit, StoppedOwn, WroteOwn, FinishedOwn, LostOwn}
use Rattle.quic_history.specs.History.{Event, Received, ReceivedReset, Sending, SentAgain, opened_in_all, count_by, greatest_limit, limit_by}
use Rattle.quic_history.proofs.Credits.{limit-fits}
use Rattle.quic_history.proofs.Refusals.{index-id}
use Rattle.quic_link.specs.Endpoints.{LinkedEnd, IsOneOf, MayAct, acted, written_by, IsHonest, limits_of, LimitsWithin}
use Rattle.quic_link.proofs.Ends.{Comes, plain-call}
use Rattle.quic_link.proofs.TrueFrames.{AllTrue, count-grows, limit-grows}
use Rattle.quic_link.proofs.Meets.{nexts, next_of_dir, MeetsBy, frame_id, meets-step}
use Rattle.quic_link.proofs.Queues.{queued_id, MayQueue, queues-step}
use Rattle.quic_link.proofs.Opens.{IdsSo, IsOpenAt, OpenBy, own-local, local-other, open_first, open_second, frame_first, frame_second, opened_grows, opened-is, given-open, new_open}
use Rattle.quic_link.proofs.GivenIds.{local_own, dir_is}
use Rattle.quic_link.proofs.Basics.{either-of, only}

-- ---- the queue

abbrev QueuedOpen : LinkedEnd → LinkedEnd → Option ℕ → Type 0
QueuedOpen x y None = Unit {0}
QueuedOpen x y (Some id) = IsOpenAt x y id

queued_open : (x y : LinkedEnd) (e : Event) → Comes x → IdsSo x y → IsHonest x y e → QueuedOpen x y (queued_id e)
queued_open x y (Sending (WroteOwn id lists closed (Ok written))) f s k = given-open x y f s id k
queued_open x y (Sending (WroteOwn id lists closed (Err error))) f s k = tt
queued_open x y (Sending (FinishedOwn id (Ok u))) f s k = given-open x y f s id k
queued_open x y (Sending (FinishedOwn id (Err error))) f s k = tt
queued_open x y (Sending (LostOwn id offsets fin (Ok u))) f s k =
    let sends = s.frames_open (frames.Stream (record { id = id; offset = offsets.start; fin = fin; bytes = k.bytes })) k.is in sends.opened
queued_open x y (Sending (LostOwn id offsets fin (Err error))) f s k = tt
queued_open x y _ f s k = tt

-- the streams of a direction that an end opened
first_has : (s : Side) (d : Dir) (n q : ℕ) → IsOneOf q (first_ids s d n) → (i : ℕ) × (i < n) × (q ≡ stream_id s d i)
first_has s d zero q h = absurd h
first_has s d (suc n) q h = elim (either-of q (first_ids s d n) (stream_id s d n ∷ []) h) [
  | inl k ↦ (let t = first_has s d n q k in let l = t.1 in let m : t.0 < suc n = omega arith in (t.0, m, t.2))
  | inr k ↦ (let m : n < suc n = omega arith in (n, m, only q (stream_id s d n) k))
]

opened_open : (x y : LinkedEnd) (d : Dir) (i q : ℕ) → q ≡ stream_id x.made.side d i → i < opened_in_all x.calls d → IsOpenAt x y q
opened_open x y d i q e l =
    let own : is_local x.made.side q ≡ true = ap (is_local x.made.side) e ∙ local_own x.made.side d i in
    let dir : dir_of q ≡ d = ap dir_of e ∙ dir_is x.made.side d i in
    let index : index_of q ≡ i = ap index_of e ∙ index-id x.made.side d i in
    let P : Bool → Type 0 = λ b. OpenBy b (opened_in_all x.calls) (opened_in_all y.calls) q in
    let Q : Dir → Type 0 = λ c. index_of q < opened_in_all x.calls c in
    let here : index_of q < opened_in_all x.calls d = omega arith in
    subst P (sym own) (subst Q (sym dir) here)

own_ids_open : (x y : LinkedEnd) → Comes x → (q : ℕ) → IsOneOf q (own_ids x.world.out) → IsOpenAt x y q
own_ids_open x y f q h = elim (either-of q (first_ids x.world.out.side Bi x.world.out.own_bi.opened) (first_ids x.world.out.side Uni x.world.out.own_uni.opened) h) [
  | inl k ↦ by_dir Bi k
  | inr k ↦ by_dir Uni k
]
  where
    by_dir : (d : Dir) → IsOneOf q (first_ids x.world.out.side d (own_of x.world.out d).opened) → IsOpenAt x y q
    by_dir d k =
        let t = first_has x.world.out.side d (own_of x.world.out d).opened q k in
        let n = opened-is x d f in
        let l = t.1 in
        opened_open x y d t.0 q (t.2 ∙ ap (λ s. stream_id s d t.0) f.side) (omega arith)

-- so a call queues only streams that are open
may_queue_open : (x y : LinkedEnd) (e : Event) → Comes x → IdsSo x y → IsHonest x y e → (q : ℕ) → MayQueue x.world e q → IsOpenAt x y q
may_queue_open x y (SentAgain (Ok u)) f s k q m = own_ids_open x y f q m
may_queue_open x y e f s k q m = let P : Option ℕ → Type 0 = λ o. QueuedOpen x y o in subst P m (queued_open x y e f s k)

-- ---- streams that frames open

abbrev MetOpen : LinkedEnd → LinkedEnd → Option ℕ → Type 0
MetOpen x y None = Unit {0}
MetOpen x y (Some id) = IsOpenAt y x id

met_open : (x y : LinkedEnd) (e : Event) → IdsSo y x → IsHonest x y e → MetOpen x y (frame_id e)
met_open x y (Received id offset bytes fin answer) s k = let o = s.frames_open (frames.Stream (record { id = id; offset = offset; fin = fin; bytes = bytes })) k in o.opened
met_open x y (ReceivedReset id code final answer) s k = let o = s.frames_open (frames.ResetStream (record { id = id; error_code = code; final_offset = final })) k in o.opened
met_open x y (Sending (RaisedLimit id limit answer)) s k = let o = s.frames_open (frames.MaxStreamData id limit) k in o.opened
met_open x y (Sending (StoppedOwn id code answer)) s k = s.frames_open (frames.StopSending (record { id = id; error_code = code })) k
met_open x y _ s k = tt

own_open : (own : Bool) (a b : Dir → ℕ) (id : ℕ) (d : Dir) → own ≡ true → dir_of id ≡ d → OpenBy own a b id → index_of id < a d
own_open true a b id d e k o = let n = ap a k in omega arith
own_open false a b id d e k o = cc

-- streams of the peer count as opened only where it opened them
met_after : (x y : LinkedEnd) (v : World) (o : Option ℕ) → x.world.out.side ≡ x.made.side → y.made.side ≡ other_side x.made.side → MeetsBy x.world v o → MetOpen x y o
    → ((d : Dir) → next_of_dir (nexts x.world) d ≤ opened_in_all y.calls d) → (d : Dir) → next_of_dir (nexts v) d ≤ opened_in_all y.calls d
met_after x y v None side other m k l d = let e : next_of_dir (nexts v) d ≡ next_of_dir (nexts x.world) d = ap (λ p. next_of_dir p d) m in let a = l d in omega arith
met_after x y v (Some id) side other m k l d = elim (m d) [
  | inl a ↦ (let b = l d in omega arith)
  | inr a ↦ (let mine : is_local x.made.side id ≡ false = sym (own-local x.world x.made.side id side) ∙ a.0 in
      let theirs : is_local y.made.side id ≡ true = local-other x.made.side y.made.side id other ∙ ap not mine in
      let b = own_open (is_local y.made.side id) (opened_in_all y.calls) (opened_in_all x.calls) id d theirs a.1 k in
      let c = a.2 in
      omega arith)
]

-- ---- counts of streams

count_most : (m : Made) (limits : PeerLimits) (d : Dir) → LimitsWithin limits (limits_of m) → count_in limits d ≤ (remote_of (start m) d).max_remote
count_most m limits Bi w = w.streams_bidi
count_most m limits Uni w = w.streams_uni

given_most : (e d : Dir) (n : ℕ) (most : Dir → ℕ) → n ≤ most e → given_for e d n ≤ most d
given_most Bi Bi n most l = l
given_most Bi Uni n most l = omega arith
given_most Uni Bi n most l = omega arith
given_most Uni Uni n most l = l

count_true : (x y : LinkedEnd) (e : Event) → AllTrue y → ((d : Dir) → (remote_of (start y.made) d).max_remote ≤ (remote_of y.world d).max_remote) → IsHonest x y e → (d : Dir) → count_by e d ≤ (remote_of y.world d).max_remote
count_true x y (Sending (GaveLimits limits (Ok u))) t base k d =
    let a = count_most y.made limits d k in
    let b = base d in
    omega arith
count_true x y (Sending (RaisedCount dir count (Ok u))) t base k d =
    let a = given_most dir d count (λ c. (remote_of y.world c).max_remote) (t (frames.MaxStreams dir count) k) in
    omega arith
count_true x y (Sending (RaisedCount dir count (Err error))) t base k d = omega arith
count_true x y _ t base k d = omega arith

-- ---- the limit of the connection

-- no higher limit is held than is enforced, which is at least the first one
pub record DataSo (x y : LinkedEnd) : Type 0 where
  pub limit : greatest_limit x.calls ≤ y.world.credit.local_max_data
  pub base : x.made.credit.local_max_data ≤ x.world.credit.local_max_data

limit_true : (x y : LinkedEnd) (e : Event) → AllTrue y → y.made.credit.local_max_data ≤ y.world.credit.local_max_data → IsHonest x y e → limit_by e ≤ y.world.credit.local_max_data
limit_true x y (Sending (GaveLimits limits (Ok u))) t base k = let a = k.of_connection in omega arith
limit_true x y (Sending (RaisedData limit)) t base k = t (frames.MaxData limit) k
limit_true x y _ t base k = omega arith

-- ---- the first end was called

module _ (x y : LinkedEnd) (e : Event) (v : World) (f : Comes x) (a : MayAct x y e v) where
  pub ids-first : y.made.side ≡ other_side x.made.side → AllTrue y → IdsSo x y → IdsSo y x → IdsSo (acted x e v) y
  ids-first other t s r =
      let fits = limit-fits _ _ _ _ x.world.credit f.facts.credit in
      let queues = queues-step x.calls x.world e v fits (plain-call x y e a.honest) a.step in
      record {
        frames_open = λ g h. elim (either-of g (written_by x e) x.wrote h) [
          | inl k ↦ frame_first x y e v g (new_open x y e v f s a g k)
          | inr k ↦ frame_first x y e v g (s.frames_open g k)
        ];
        queue = λ q h. elim (queues q h) [
          | inl k ↦ open_first x y e v q (s.queue q k)
          | inr k ↦ open_first x y e v q (may_queue_open x y e f s a.honest q k)
        ];
        met = met_after x y v (frame_id e) f.side other (meets-step x.world e v (plain-call x y e a.honest) a.step) (met_open x y e r a.honest) s.met;
        counts = λ d. let k = s.counts d in let l = count_true x y e t r.base a.honest d in omega arith;
        base = λ d. let k = s.base d in let l = count-grows x.made x.calls x.world f.from e v a.step d in omega arith;
      }

  -- what the other end knows stays
  pub ids-other : IdsSo y x → IdsSo y (acted x e v)
  ids-other s = record {
    frames_open = λ g h. frame_second y x e v g (s.frames_open g h);
    queue = λ q h. open_second y x e v q (s.queue q h);
    met = λ d. let k = s.met d in let l = opened_grows x.calls e d in omega arith;
    counts = λ d. let k = s.counts d in let l = count-grows x.made x.calls x.world f.from e v a.step d in omega arith;
    base = s.base;
  }

  pub data-first : AllTrue y → DataSo x y → DataSo y x → DataSo (acted x e v) y
  data-first t s r =
      let k = s.limit in
      let l = limit_true x y e t r.base a.honest in
      let m = s.base in
      let n = limit-grows x.made x.calls x.world f.from e v a.step in
      let b : max (greatest_limit x.calls) (limit_by e) ≤ y.world.credit.local_max_data = omega arith in
      record { limit = b; base = omega arith }

  pub data-other : DataSo y x → DataSo y (acted x e v)
  data-other s = let k = s.limit in let n = limit-grows x.made x.calls x.world f.from e v a.step in record { limit = omega arith; base = s.base }
