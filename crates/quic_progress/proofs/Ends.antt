-- What each step but a payload that is written leaves of what the ends announced, and of what they have to send.
use Rattle.std.proofs.Common.{◌≡◌, ℕ, Bool, true, false, List, [], ◌∷◌, Option, Some, None, Result, Ok, Err, refl, sym, ap, ◌∙◌, subst, inl, inr}
use Rattle.std.specs.Prelude.{◌||◌, ◌==◌, ◌&&◌, is_ok, if◌then◌else◌}
use Rattle.quic_values.specs.declared.memory.OutOfMemory.{OutOfMemory}
use Rattle.quic_values.specs.declared.ids.Dir.{Dir}
use Rattle.quic_values.specs.declared.ids.Dir.TheVariants.{Bi, Uni}
use Rattle.quic_assembler.specs.declared.chunk.Chunk.{Chunk}
use Rattle.quic_wire.specs.declared.frame.Frame.{Frame}
use Rattle.quic_wire.specs.declared.frame.Frame.TheVariants as frames
use Rattle.quic_wire.specs.declared.frame.StreamMeta.{StreamMeta}
use Rattle.quic_wire.specs.declared.error.ReceiveError.{ReceiveError}
use Rattle.quic_wire.specs.declared.error.ReceiveError.TheVariants as receive_error
use Rattle.quic_limits.specs.Credit.{credited, is_max_data_due}
use Rattle.quic_limits.specs.Remote.{is_max_streams_due}
use Rattle.quic_sending.specs.Source.{slice_lists}
use Rattle.quic_sending.specs.declared.send.Send.{Send}
use Rattle.quic_sending.specs.declared.send.Written.{Written}
use Rattle.quic_sending.specs.declared.send.WriteError.{WriteError}
use Rattle.quic_sending.specs.declared.send.WriteError.TheVariants as write_error
use Rattle.quic_sending.specs.declared.errors.HandleError.{HandleError}
use Rattle.quic_sending.specs.declared.errors.HandleError.TheVariants as handle_error
use Rattle.quic_receiving.specs.declared.errors.ReadError.TheVariants as read_error
use Rattle.quic_receiving.specs.declared.errors.ReadableError.{ReadableError}
use Rattle.quic_receiving.specs.declared.transmit.ShouldTransmit.{ShouldTransmit}
use Rattle.quic_outgoing.specs.Outgoing.{Outgoing, is_stuck}
use Rattle.quic_outgoing.specs.Writing.{RefusesWrite, told_blocked, is_limit_news}
use Rattle.quic_limits.specs.SendingCredit.{is_blocked_due}
use Rattle.quic_wire.specs.declared.frame.StopSending.{StopSending}
use Rattle.quic_retransmits.specs.Pending.{Pending, merged_if}
use Rattle.quic_retransmits.specs.Queueing.{with_id}
use Rattle.quic_history.specs.World.{World}
use Rattle.quic_history.specs.Writes.{WritesOwn}
use Rattle.quic_history.specs.Receiving.{with_max_streams}
use Rattle.quic_history.specs.Reading.{GivesChunks, LastReads, ReadsSome, Stops, TellsReset, bytes_in, pending_after, is_window_queued, progress_of}
use Rattle.quic_history.specs.Permitting.{acceptable}
use Rattle.quic_history.specs.declared.progress.LastAnswer.{LastAnswer}
use Rattle.quic_history.specs.declared.progress.LastAnswer.TheVariants as last_answer
use Rattle.quic_history.specs.declared.progress.Progress.{Progress}
use Rattle.quic_history.specs.SendEvents.{OpenedOwn, RaisedData, RaisedCount, RaisedLimit, StoppedOwn, SetWindow, WroteOwn, FinishedOwn, ResetOwn, SetOwnPriority, AckedOwn, LostOwn, ResetAckedOwn, Polled}
use Rattle.quic_history.specs.History.{Event, Received, ReceivedReset, Began, Gave, Ended, Stopped as StoppedEvent, ToldReset, Resized, SetConcurrent, Accepted, Sending, Step}
use Rattle.quic_history.proofs.Traces.{itself}
use Rattle.quic_streams.specs.declared.batches.ReadSome.{ReadSome}
use Rattle.quic_streams.specs.Settling.{SentView, EachInOrder, AcksMeta, LosesMeta, AcksResetOf, AcksWhole, resets_of}
use Rattle.quic_streams.specs.Sent.{sent_view, report_view}
use Rattle.quic_endpoint.specs.Ends.{EndState, ResetsAt, StopsReading, TellsResetAt, SetsConcurrentAt, ReadsAt, with_counts_told, with_counts_told_if, with_limit_told}
use Rattle.quic_endpoint.specs.Receiving.{ReceivesAt, MakesCall, event_of, with_answer_told, done_so, stopped_so}
use Rattle.quic_endpoint.specs.Reports.{LosesPayloadAt, AcksPayloadAt}
use Rattle.quic_steps.specs.declared.steps.End.{End}
use Rattle.quic_steps.specs.declared.steps.End.TheVariants.{A, B}
use Rattle.quic_steps.specs.declared.steps.Step.{Step as PairStep}
use Rattle.quic_steps.specs.declared.steps.Step.TheVariants as steps
use Rattle.quic_steps.specs.declared.steps.Reply.TheVariants.{Done}
use Rattle.quic_steps.specs.declared.steps.PairError.TheVariants.{NoSuchPayload, NoSuchFrame, NotAccepted, AlreadySettled, OutOfMemory as NoMemory}
use Rattle.quic_exchange.specs.Sent.{Sent}
use Rattle.quic_exchange.specs.declared.unsettled.Report.TheVariants.{Lost, Acknowledged}
use Rattle.quic_exchange.specs.Replies.{Answer}
use Rattle.quic_exchange.specs.State.{PairState, peer, the_end, with_end, with_sent}
use Rattle.quic_exchange.specs.Calls.{OnGiven, ReadsSo}
use Rattle.quic_exchange.specs.Steps.{NextOrdinary, HandsOver, Delivers, SettlesPayload}
use Rattle.quic_progress.proofs.Leaves.{May, Leaves, MayLeave, leaves-same, leaves-then, leaves-at, leaves-step}
use Rattle.quic_progress.proofs.Permissions.{Permission, AllData, DataOn, StreamsOf, is_asked}

-- a step leaves what was announced, and what is pending of limits
pub record EndLeaves (m : May) (e f : EndState) : Type 0 where
  pub streams : Leaves m e.streams f.streams
  pub asked : (k : Permission) → is_asked k e.pending ≡ true → is_asked k f.pending ≡ true

abbrev Asked : Pending → Pending → Type 0
Asked p q = (k : Permission) → is_asked k p ≡ true → is_asked k q ≡ true

pub ends-same : (m : May) (e : EndState) → EndLeaves m e e
ends-same m e = record { streams = leaves-same m e.streams; asked = λ k a. a }

pub ends-at : (m : May) (e f g : EndState) → f ≡ g → EndLeaves m e g → EndLeaves m e f
ends-at m e f g is l = let P : EndState → Type 0 = λ x. EndLeaves m e x in subst P (sym is) l

or_left : (a b : Bool) → a ≡ true → (a || b) ≡ true
or_left true b e = refl
or_left false b e = cc

asked_same : (p q : Pending) → q ≡ p → Asked p q
asked_same p q e k a = ap (is_asked k) e ∙ a

asked_at : (p q r : Pending) → q ≡ r → Asked p r → Asked p q
asked_at p q r e a = let P : Pending → Type 0 = λ x. Asked p x in subst P (sym e) a

counts_asked : (w : World) (p : Pending) → Asked p (with_max_streams w p)
counts_asked w p AllData a = a
counts_asked w p (DataOn id) a = a
counts_asked w p (StreamsOf Bi) a = or_left p.max_streams_bi (is_max_streams_due w.bi) a
counts_asked w p (StreamsOf Uni) a = or_left p.max_streams_uni (is_max_streams_due w.uni) a

limit_asked : (p : Pending) (b : Bool) → Asked p (record p { max_data = p.max_data || b })
limit_asked p b AllData a = or_left p.max_data b a
limit_asked p b (DataOn id) a = a
limit_asked p b (StreamsOf Bi) a = a
limit_asked p b (StreamsOf Uni) a = a

module _ (m : May) where
  counts_so : (e f : EndState) → EndLeaves m e f → EndLeaves m e (with_counts_told f)
  counts_so e f l = record { streams = l.streams; asked = λ k a. counts_asked f.streams f.pending k (l.asked k a) }

  limit_so : (due : Bool) (e f : EndState) → EndLeaves m e f → EndLeaves m e (with_limit_told due f)
  limit_so due e f l = record { streams = l.streams; asked = λ k a. limit_asked f.pending due k (l.asked k a) }

  counts_if : (b : Bool) (e f : EndState) → EndLeaves m e f → EndLeaves m e (with_counts_told_if b f)
  counts_if true e f l = counts_so e f l
  counts_if false e f l = l

  answer_so : (answer : Result ShouldTransmit ReceiveError) (e f : EndState) → EndLeaves m e f → EndLeaves m e (with_answer_told answer f)
  answer_so (Ok transmit) e f l = counts_so e (with_limit_told transmit.0 f) (limit_so transmit.0 e f l)
  answer_so (Err (receive_error.Transport error)) e f l = counts_so e f l
  answer_so (Err receive_error.CompactionMemory) e f l = counts_so e f l
  answer_so (Err receive_error.OutOfMemory) e f l = l

  pub by-call : (e f : EndState) (c : Event) → MayLeave m c → Step e.streams c f.streams → Asked e.pending f.pending → EndLeaves m e f
  by-call e f c may s a = record { streams = leaves-step m e.streams c f.streams may s; asked = a }

  pub by-same : (e f : EndState) → f.streams ≡ e.streams → f.pending ≡ e.pending → EndLeaves m e f
  by-same e f s p = record { streams = leaves-at m e.streams f.streams e.streams s (leaves-same m e.streams); asked = asked_same e.pending f.pending p }

-- ---- what is pending

blocked_asked : (u : Outgoing) (id : ℕ) (p : Pending) (o : Option Send) → Asked p (told_blocked u id o p)
blocked_asked u id p None k a = a
blocked_asked u id p (Some s) k a = by (is_stuck u) k a
  where
    by : (b : Bool) → Asked p (if b then record p { data_blocked = p.data_blocked || is_blocked_due u.budget } else record p { stream_data_blocked = with_id p.stream_data_blocked id (is_limit_news s) })
    by true AllData a = a
    by true (DataOn q) a = a
    by true (StreamsOf Bi) a = a
    by true (StreamsOf Uni) a = a
    by false AllData a = a
    by false (DataOn q) a = a
    by false (StreamsOf Bi) a = a
    by false (StreamsOf Uni) a = a

refused_asked : (u : Outgoing) (id : ℕ) (p : Pending) (e : WriteError) (v : Outgoing) (q : Pending) → RefusesWrite u id p e v q → Asked p q
refused_asked u id p write_error.Blocked v q r = asked_at p q (told_blocked u id (u.halves id) p) r.2 (blocked_asked u id p (u.halves id))
refused_asked u id p (write_error.Stopped code) v q r = asked_same p q r.2
refused_asked u id p write_error.ClosedStream v q r = asked_same p q r.2
refused_asked u id p write_error.OutOfMemory v q r = asked_same p q r.1

writes_asked : (u : World) (id : ℕ) (lists : List (List ℕ)) (p : Pending) (answer : Result Written WriteError) (v : World) (left : List (List ℕ)) (q : Pending) → WritesOwn u id lists false p answer v left q → Asked p q
writes_asked u id lists p (Ok written) v left q d = asked_same p q d.3.1
writes_asked u id lists p (Err e) v left q d = elim d [ inl closed ↦ asked_same p q closed.4 | inr k ↦ refused_asked u.out id p e k.1 q k.2.1 ]

resets_asked : (e f : EndState) (id code : ℕ) (answer : Result (Unit {0}) HandleError) → ResetsAt e id code answer f → Asked e.pending f.pending
resets_asked e f id code (Ok x) d = asked_at e.pending f.pending _ d.1.4 (given_up e.pending _)
  where
    given_up : (p : Pending) (l : List (ℕ × ℕ)) → Asked p (record p { reset_stream = l })
    given_up p l AllData a = a
    given_up p l (DataOn q) a = a
    given_up p l (StreamsOf Bi) a = a
    given_up p l (StreamsOf Uni) a = a
resets_asked e f id code (Err handle_error.ClosedStream) d = asked_same e.pending f.pending d.1.2
resets_asked e f id code (Err handle_error.OutOfMemory) d = asked_same e.pending f.pending d.1.1

stops_asked : (u : World) (id code : ℕ) (p : Pending) (answer : Result (Unit {0}) HandleError) (v : World) (q : Pending) → Stops u id code p answer v q → Asked p q
stops_asked u id code p (Ok x) v q d = asked_at p q _ d.7 (stopped p _ (is_max_data_due v.credit))
  where
    stopped : (p : Pending) (l : List StopSending) (b : Bool) → Asked p (record p { stop_sending = l; max_data = p.max_data || b })
    stopped p l b AllData a = or_left p.max_data b a
    stopped p l b (DataOn q) a = a
    stopped p l b (StreamsOf Bi) a = a
    stopped p l b (StreamsOf Uni) a = a
stops_asked u id code p (Err handle_error.ClosedStream) v q d = asked_same p q d.2
stops_asked u id code p (Err handle_error.OutOfMemory) v q d = asked_same p q d.1

tells_asked : (u : World) (id : ℕ) (p : Pending) (answer : Result (Option ℕ) HandleError) (v : World) (q : Pending) → TellsReset u id p answer v q → Asked p q
tells_asked u id p (Ok (Some code)) v q d = asked_at p q (with_max_streams v p) d.5 (counts_asked v p)
tells_asked u id p (Ok None) v q d = asked_same p q d.5
tells_asked u id p (Err handle_error.ClosedStream) v q d = asked_same p q d.2
tells_asked u id p (Err handle_error.OutOfMemory) v q d = asked_same p q d.4

read_asked : (g : Progress) (w : World) (id n : ℕ) (p : Pending) → Asked p (pending_after g w id n p)
read_asked g w id n p AllData a = or_left p.max_data (is_max_data_due (credited w.credit n)) a
read_asked g w id n p (DataOn q) a = or_left (p.max_stream_data q) (is_window_queued g w (w.receive id) && (q == id)) a
read_asked g w id n p (StreamsOf Bi) a = or_left p.max_streams_bi (is_max_streams_due w.bi) a
read_asked g w id n p (StreamsOf Uni) a = or_left p.max_streams_uni (is_max_streams_due w.uni) a

merged_asked : (p : Pending) (o : Option Pending) → Asked p (merged_if p o)
merged_asked p None k a = a
merged_asked p (Some b) AllData a = or_left p.max_data b.max_data a
merged_asked p (Some b) (DataOn id) a = or_left (p.max_stream_data id) (b.max_stream_data id) a
merged_asked p (Some b) (StreamsOf Bi) a = or_left p.max_streams_bi b.max_streams_bi a
merged_asked p (Some b) (StreamsOf Uni) a = or_left p.max_streams_uni b.max_streams_uni a

-- ---- reads

module _ (m : May) (id most : ℕ) (ordered : Bool) (may : (m.reads id ≡ true) × (m.frees ≡ true)) where
  gives_so : (chunks : List Chunk) (u v : World) → GivesChunks u id most ordered chunks v → Leaves m u v
  gives_so [] u v g = leaves-at m u v u g (leaves-same m u)
  gives_so (c ∷ cs) u v g = leaves-then m u g.0 v (leaves-step m u (Gave id most ordered (Ok (Some c))) g.0 may g.1) (gives_so cs g.0 v g.2)

  last_so : (last : LastAnswer) (u v : World) → LastReads u id most ordered last v → Leaves m u v
  last_so last_answer.Blocked u v r = leaves-step m u (Gave id most ordered (Err read_error.Blocked)) v may r
  last_so last_answer.Ended u v r = leaves-step m u (Gave id most ordered (Ok None)) v may r
  last_so (last_answer.Reset code) u v r = leaves-step m u (Gave id most ordered (Err (read_error.Reset code))) v may r
  last_so last_answer.Memory u v r = leaves-step m u (Gave id most ordered (Err read_error.OutOfMemory)) v may r
  last_so last_answer.More u v r = leaves-at m u v u r (leaves-same m u)

  pub some-so : (credits : m.credits ≡ true) (times : ℕ) (p q : Pending) (chunks : List Chunk) (last : LastAnswer) (transmit : Bool) (u v : World) → ReadsSome u id most times ordered p chunks last transmit v q → Leaves m u v
  some-so credits times p q chunks last transmit u v s =
      let one = leaves-step m u (Began id ordered (Ok tt)) s.opened tt s.begins in
      let two = gives_so chunks s.opened s.read s.gives in
      let three = last_so last s.read s.ended s.last_reads in
      let four = leaves-step m s.ended (Ended id (bytes_in chunks)) v credits s.is in
      leaves-then m u s.ended v (leaves-then m u s.read s.ended (leaves-then m u s.opened s.read one two) three) four

-- ---- reports

each_lost : (m : May) (ms : List StreamMeta) (u v : World) → EachInOrder LosesMeta u ms v → Leaves m u v
each_lost m [] u v e = leaves-at m u v u e (leaves-same m u)
each_lost m (x ∷ xs) u v e = leaves-then m u e.0 v (leaves-step m u (Sending (LostOwn x.id x.offsets x.fin (Ok tt))) e.0 tt e.1) (each_lost m xs e.0 v e.2)

each_acked : (m : May) → m.frees ≡ true → (ms : List StreamMeta) (u v : World) → EachInOrder AcksMeta u ms v → Leaves m u v
each_acked m f [] u v e = leaves-at m u v u e (leaves-same m u)
each_acked m f (x ∷ xs) u v e = leaves-then m u e.0 v (leaves-step m u (Sending (AckedOwn x.id x.offsets x.fin (Ok tt))) e.0 f e.1) (each_acked m f xs e.0 v e.2)

each_reset : (m : May) → m.frees ≡ true → (rs : List (ℕ × ℕ)) (u v : World) → EachInOrder AcksResetOf u rs v → Leaves m u v
each_reset m f [] u v e = leaves-at m u v u e (leaves-same m u)
each_reset m f (x ∷ xs) u v e = leaves-then m u e.0 v (leaves-step m u (Sending (ResetAckedOwn x.0 (Ok tt))) e.0 f e.1) (each_reset m f xs e.0 v e.2)

pub lost-so : (m : May) (e f : EndState) (sent : SentView) (answer : Result (Unit {0}) SentView) → LosesPayloadAt e sent answer f → EndLeaves m e f
lost-so m e f sent (Ok x) d = record { streams = each_lost m sent.streams e.streams f.streams d.0; asked = asked_at e.pending f.pending _ d.1 (merged_asked e.pending sent.control) }
lost-so m e f sent (Err back) d = record {
  streams = elim d.0 [ inl a ↦ each_lost m a.frames.told e.streams f.streams a.frames.reports | inr c ↦ each_lost m sent.streams e.streams f.streams c.frames ];
  asked = asked_same e.pending f.pending d.1;
}

acks_so : (m : May) → m.frees ≡ true → (u v : World) (sent : SentView) (answer : Result (Unit {0}) SentView) → AcksWhole u sent answer v → Leaves m u v
acks_so m f u v sent (Ok x) d = leaves-then m u d.0 v (each_acked m f sent.streams u d.0 d.1) (each_reset m f (resets_of sent.control) d.0 v d.2)
acks_so m f u v sent (Err back) d = elim d [
  | inl a ↦ each_acked m f a.frames.told u v a.frames.reports
  | inr r ↦ leaves-then m u r.between v (each_acked m f sent.streams u r.between r.frames) (each_reset m f r.resets.told r.between v r.resets.reports)
]

pub acked-so : (m : May) → m.frees ≡ true → (e f : EndState) (sent : SentView) (answer : Result (Unit {0}) SentView) → AcksPayloadAt e sent answer f → EndLeaves m e f
acked-so m free e f sent answer d =
    ends-at m e f (with_counts_told_if (is_ok answer) d.acked) d.is
    (counts_if m (is_ok answer) e d.acked (record { streams = acks_so m free e.streams d.acked.streams sent answer d.acks; asked = asked_same e.pending d.acked.pending d.pending }))

-- ---- frames that are handed over

call_so : (m : May) → m.credits ≡ true → m.frees ≡ true → (u v : World) (frame : Frame) (answer : Result ShouldTransmit ReceiveError) → MakesCall u (event_of frame answer) v → Leaves m u v
call_so m c f u v (frames.Stream g) answer s = leaves-step m u (Received g.id g.offset g.bytes g.fin answer) v (c, f) s
call_so m c f u v (frames.ResetStream g) answer s = leaves-step m u (ReceivedReset g.id g.error_code g.final_offset answer) v (c, f) s
call_so m c f u v (frames.StopSending g) answer s = leaves-step m u (Sending (StoppedOwn g.id g.error_code (stopped_so answer))) v tt s
call_so m c f u v (frames.MaxData limit) answer s = leaves-step m u (Sending (RaisedData limit)) v tt s
call_so m c f u v (frames.MaxStreamData id limit) answer s = leaves-step m u (Sending (RaisedLimit id limit (done_so answer))) v tt s
call_so m c f u v (frames.MaxStreams dir count) answer s = leaves-step m u (Sending (RaisedCount dir count (done_so answer))) v tt s
call_so m c f u v _ answer s = leaves-at m u v u s (leaves-same m u)

pub receives-so : (m : May) → m.credits ≡ true → m.frees ≡ true → (e f : EndState) (frame : Frame) (answer : Result ShouldTransmit ReceiveError) → ReceivesAt e frame answer f → EndLeaves m e f
receives-so m c free e f frame answer r =
    ends-at m e f (with_answer_told answer r.taken) r.is (answer_so m answer e r.taken (record { streams = call_so m c free e.streams r.taken.streams frame answer r.call; asked = asked_same e.pending r.taken.pending r.pending }))

-- ---- of calls whose end is not the last

pub stop-leaves : (e f : EndState) (id code : ℕ) (answer : Result (Unit {0}) HandleError) (d : StopsReading e id code answer f) → EndLeaves (record { reads = λ q. false; credits = true; resizes = false; frees = true }) e d.stopped
stop-leaves e f id code answer d = by-call (record { reads = λ q. false; credits = true; resizes = false; frees = true }) e d.stopped (StoppedEvent id code answer) (refl, refl) (e.pending, d.stopped.pending, d.stops) (stops_asked e.streams id code e.pending answer d.stopped.streams d.stopped.pending d.stops)

pub code-leaves : (e f : EndState) (id : ℕ) (answer : Result (Option ℕ) HandleError) (d : TellsResetAt e id answer f) → EndLeaves (record { reads = λ q. false; credits = false; resizes = false; frees = true }) e d.asked
code-leaves e f id answer d = by-call (record { reads = λ q. false; credits = false; resizes = false; frees = true }) e d.asked (ToldReset id answer) refl (e.pending, d.asked.pending, d.tells) (tells_asked e.streams id e.pending answer d.asked.streams d.asked.pending d.tells)

pub set-leaves : (e f : EndState) (dir : Dir) (count : ℕ) (answer : Result (Unit {0}) OutOfMemory) (d : SetsConcurrentAt e dir count answer f) → EndLeaves (record { reads = λ q. false; credits = false; resizes = false; frees = true }) e d.set
set-leaves e f dir count answer d = by-call (record { reads = λ q. false; credits = false; resizes = false; frees = true }) e d.set (SetConcurrent dir count answer) refl d.sets (asked_same e.pending d.set.pending d.pending)

pub read-asked : (e : EndState) (id most times : ℕ) (ordered : Bool) (chunks : List Chunk) (last : LastAnswer) (transmit : Bool) (f : EndState) (d : ReadsAt e id most times ordered chunks last transmit f) (k : Permission) → is_asked k e.pending ≡ true → is_asked k d.read.pending ≡ true
read-asked e id most times ordered chunks last transmit f d = asked_at e.pending d.read.pending _ d.reads.pending (read_asked (progress_of last) d.reads.ended id (bytes_in chunks) e.pending)

-- ---- all steps

-- what a step may do beside
abbrev pub may_of : PairStep → May
may_of (steps.Read who id ordered most times) = record { reads = λ q. q == id; credits = true; resizes = false; frees = true }
may_of (steps.Stop who id code) = record { reads = λ q. false; credits = true; resizes = false; frees = true }
may_of (steps.ReceivedReset who id) = record { reads = λ q. false; credits = false; resizes = false; frees = true }
may_of (steps.SetReceiveWindow who window) = record { reads = λ q. false; credits = true; resizes = true; frees = false }
may_of (steps.SetMaxConcurrent who dir count) = record { reads = λ q. false; credits = false; resizes = false; frees = true }
may_of (steps.Deliver number index) = record { reads = λ q. false; credits = true; resizes = false; frees = true }
may_of (steps.Ack number) = record { reads = λ q. false; credits = false; resizes = false; frees = true }
may_of _ = record { reads = λ q. false; credits = false; resizes = false; frees = false }

-- a step writes no payload
abbrev pub WritesNone : PairStep → Type 0
WritesNone (steps.Emit who most fair) = ⊥
WritesNone (steps.EmitPart who most fair part) = ⊥
WritesNone _ = Unit {0}

module _ (old new : PairState) (m : May) where
  abbrev Both : Type 0
  Both = (who : End) → EndLeaves m (the_end old who) (the_end new who)

  both_same : new ≡ old → Both
  both_same e who = let P : PairState → Type 0 = λ v. EndLeaves m (the_end old who) (the_end v who) in subst P (sym e) (ends-same m (the_end old who))

  with_one : (k : End) (g : EndState) → EndLeaves m (the_end old k) g → (who : End) → EndLeaves m (the_end old who) (the_end (with_end old k g) who)
  with_one A g l A = l
  with_one A g l B = ends-same m old.b
  with_one B g l A = ends-same m old.a
  with_one B g l B = l

  with_more : (k : End) (g : EndState) (sent : List Sent) → EndLeaves m (the_end old k) g → (who : End) → EndLeaves m (the_end old who) (the_end (with_sent (with_end old k g) sent) who)
  with_more A g sent l A = l
  with_more A g sent l B = ends-same m old.b
  with_more B g sent l A = ends-same m old.a
  with_more B g sent l B = l

  both_end : (k : End) (g : EndState) → new ≡ with_end old k g → EndLeaves m (the_end old k) g → Both
  both_end k g e l who = let P : PairState → Type 0 = λ v. EndLeaves m (the_end old who) (the_end v who) in subst P (sym e) (with_one k g l who)

  both_sent : (k : End) (g : EndState) (sent : List Sent) → new ≡ with_sent (with_end old k g) sent → EndLeaves m (the_end old k) g → Both
  both_sent k g sent e l who = let P : PairState → Type 0 = λ v. EndLeaves m (the_end old who) (the_end v who) in subst P (sym e) (with_more k g sent l who)

  given_so : (e g : EndState) (id : ℕ) (reply : Answer) (Does : Type 0) → OnGiven e id reply g Does → (Does → EndLeaves m e g) → EndLeaves m e g
  given_so e g id reply Does d known = elim d [ inl there ↦ known there.1 | inr none ↦ ends-at m e g e none.2 (ends-same m e) ]

  read_so : m.credits ≡ true → (e g : EndState) (id : ℕ) (ordered : Bool) (most times : ℕ) → (m.reads id ≡ true) × (m.frees ≡ true) → (answer : Result ReadSome ReadableError) → ReadsSo e id ordered most times answer g → EndLeaves m e g
  read_so c e g id ordered most times may (Ok read) s =
      ends-at m e g (with_counts_told s.read) s.is
      (counts_so m e s.read (record {
        streams = some-so m id most ordered may c times e.pending s.read.pending read.chunks.items read.last read.transmit.0 e.streams s.read.streams s.reads;
        asked = asked_at e.pending s.read.pending _ s.reads.pending (read_asked (progress_of read.last) s.reads.ended id (bytes_in read.chunks.items) e.pending);
      }))
  read_so c e g id ordered most times may (Err error) s =
      ends-at m e g (with_counts_told_if _ s.asked) s.is (counts_if m _ e s.asked (by-call m e s.asked (Began id ordered (Err error)) tt s.begins (asked_same e.pending s.asked.pending s.pending)))

  handed_so : m.credits ≡ true → m.frees ≡ true → (number index : ℕ) (reply : Answer) → HandsOver old number index reply new → Both
  handed_so c f number index reply n = both_sent (peer n.payload.sent.writer) n.end new.sent n.is (receives-so m c f (the_end old (peer n.payload.sent.writer)) n.end n.frame n.answer n.receives)

  delivered_so : m.credits ≡ true → m.frees ≡ true → (number index : ℕ) (reply : Answer) → Delivers old number index reply new → Both
  delivered_so c f number index (Err NoSuchPayload) n = both_same n.1
  delivered_so c f number index (Err NoSuchFrame) n = both_same n.is
  delivered_so c f number index (Err NoMemory) n = elim n [ inl same ↦ both_same same.1 | inr t ↦ handed_so c f number index (Err NoMemory) t ]
  delivered_so c f number index reply n = handed_so c f number index reply n

  loses_so : (number : ℕ) (reply : Answer) → SettlesPayload Lost LosesPayloadAt old number reply new → Both
  loses_so number (Ok Done) n = both_sent n.payload.sent.writer n.end _ n.is (lost-so m (the_end old n.payload.sent.writer) n.end (sent_view n.rest) (report_view n.answer) n.does)
  loses_so number (Err NoMemory) n = both_sent n.payload.sent.writer n.end _ n.is (lost-so m (the_end old n.payload.sent.writer) n.end (sent_view n.rest) (report_view n.answer) n.does)
  loses_so number (Err NoSuchPayload) n = both_same n.1
  loses_so number (Err AlreadySettled) n = both_same n.is
  loses_so number (Err NotAccepted) n = both_same n.is
  loses_so number _ n = absurd n

  acks_step : m.frees ≡ true → (number : ℕ) (reply : Answer) → SettlesPayload Acknowledged AcksPayloadAt old number reply new → Both
  acks_step f number (Ok Done) n = both_sent n.payload.sent.writer n.end _ n.is (acked-so m f (the_end old n.payload.sent.writer) n.end (sent_view n.rest) (report_view n.answer) n.does)
  acks_step f number (Err NoMemory) n = both_sent n.payload.sent.writer n.end _ n.is (acked-so m f (the_end old n.payload.sent.writer) n.end (sent_view n.rest) (report_view n.answer) n.does)
  acks_step f number (Err NoSuchPayload) n = both_same n.1
  acks_step f number (Err AlreadySettled) n = both_same n.is
  acks_step f number (Err NotAccepted) n = both_same n.is
  acks_step f number _ n = absurd n

pub step-leaves : (old new : PairState) (step : PairStep) (reply : Answer) → WritesNone step → NextOrdinary old step reply new → (who : End) → EndLeaves (may_of step) (the_end old who) (the_end new who)
step-leaves old new (steps.Open who dir) reply w n = let m = may_of (steps.Open who dir) in both_end old new m who n.end n.is (by-call m (the_end old who) n.end (Sending (OpenedOwn dir false n.does.answer)) tt n.does.opens.0 (asked_same _ _ n.does.opens.1))
step-leaves old new (steps.Accept who dir) reply w n = let m = may_of (steps.Accept who dir) in
    both_end old new m who n.end n.is (by-call m (the_end old who) n.end (Accepted dir (acceptable (the_end old who).streams dir)) tt (ap (λ (e : EndState). e.streams) n.does.is, refl) (asked_same _ _ (ap (λ (e : EndState). e.pending) n.does.is)))
step-leaves old new (steps.Write who id bytes) reply w n = let m = may_of (steps.Write who id bytes) in let e = the_end old who in
    both_end old new m who n.end n.is (given_so old new m e n.end id reply _ n.does (λ d. by-call m e n.end (Sending (WroteOwn id (slice_lists bytes) false d.answer)) tt (e.pending, n.end.pending, d.writes.0, d.writes.1) (writes_asked e.streams id (slice_lists bytes) e.pending d.answer n.end.streams d.writes.0 n.end.pending d.writes.1)))
step-leaves old new (steps.WriteChunks who id chunks) reply w n = let m = may_of (steps.WriteChunks who id chunks) in let e = the_end old who in
    both_end old new m who n.end n.is (given_so old new m e n.end id reply _ n.does (λ k. elim k [
      | inl d ↦ by-call m e n.end (Sending (WroteOwn id chunks false d.answer)) tt (e.pending, n.end.pending, d.writes.0, d.writes.1) (writes_asked e.streams id chunks e.pending d.answer n.end.streams d.writes.0 n.end.pending d.writes.1)
      | inr none ↦ ends-at m e n.end e none.1 (ends-same m e)
    ]))
step-leaves old new (steps.Finish who id) reply w n = let m = may_of (steps.Finish who id) in let e = the_end old who in
    both_end old new m who n.end n.is (given_so old new m e n.end id reply _ n.does (λ d. by-call m e n.end (Sending (FinishedOwn id d.answer)) tt d.finishes.0 (asked_same _ _ d.finishes.1)))
step-leaves old new (steps.Reset who id code) reply w n = let m = may_of (steps.Reset who id code) in let e = the_end old who in
    both_end old new m who n.end n.is (given_so old new m e n.end id reply _ n.does (λ d. by-call m e n.end (Sending (ResetOwn id code d.answer)) tt (e.pending, n.end.pending, d.resets) (resets_asked e n.end id code d.answer d.resets)))
step-leaves old new (steps.Stop who id code) reply w n = let m = may_of (steps.Stop who id code) in let e = the_end old who in
    both_end old new m who n.end n.is (given_so old new m e n.end id reply _ n.does (λ d. let s = d.stops in
    ends-at m e n.end _ s.is (counts_if m _ e s.stopped (by-call m e s.stopped (StoppedEvent id code d.answer) (refl, refl) (e.pending, s.stopped.pending, s.stops) (stops_asked e.streams id code e.pending d.answer s.stopped.streams s.stopped.pending s.stops)))))
step-leaves old new (steps.SetPriority who id priority) reply w n = let m = may_of (steps.SetPriority who id priority) in let e = the_end old who in
    both_end old new m who n.end n.is (given_so old new m e n.end id reply _ n.does (λ d. by-call m e n.end (Sending (SetOwnPriority id priority d.answer)) tt d.sets.0 (asked_same _ _ d.sets.1)))
step-leaves old new (steps.Read who id ordered most times) reply w n = let m = may_of (steps.Read who id ordered most times) in let e = the_end old who in
    both_end old new m who n.end n.is (given_so old new m e n.end id reply _ n.does (λ d. read_so old new m refl e n.end id ordered most times (itself id, refl) d.answer d.reads))
step-leaves old new (steps.ReceivedReset who id) reply w n = let m = may_of (steps.ReceivedReset who id) in let e = the_end old who in
    both_end old new m who n.end n.is (given_so old new m e n.end id reply _ n.does (λ d. let s = d.tells in
    ends-at m e n.end _ s.is (counts_if m _ e s.asked (by-call m e s.asked (ToldReset id d.answer) refl (e.pending, s.asked.pending, s.tells) (tells_asked e.streams id e.pending d.answer s.asked.streams s.asked.pending s.tells)))))
step-leaves old new (steps.SetSendWindow who window) reply w n = let m = may_of (steps.SetSendWindow who window) in let e = the_end old who in
    both_end old new m who n.end n.is (by-call m e n.end (Sending (SetWindow window)) tt (ap (λ (x : EndState). x.streams) n.does.1) (asked_same _ _ (ap (λ (x : EndState). x.pending) n.does.1)))
step-leaves old new (steps.SetReceiveWindow who window) reply w n = let m = may_of (steps.SetReceiveWindow who window) in let e = the_end old who in
    both_end old new m who n.end n.is (by-call m e n.end (Resized window n.does.larger) (refl, refl) (ap (λ (x : EndState). x.streams) n.does.is, n.does.larger_is) (asked_at _ _ _ (ap (λ (x : EndState). x.pending) n.does.is) (limit_asked e.pending n.does.larger)))
step-leaves old new (steps.SetMaxConcurrent who dir count) reply w n = let m = may_of (steps.SetMaxConcurrent who dir count) in let e = the_end old who in let s = n.does.sets in
    both_end old new m who n.end n.is (ends-at m e n.end _ s.is (counts_if m _ e s.set (by-call m e s.set (SetConcurrent dir count n.does.answer) refl s.sets (asked_same _ _ s.pending))))
step-leaves old new (steps.Poll who) reply w n = let m = may_of (steps.Poll who) in
    both_end old new m who n.end n.is (by-call m (the_end old who) n.end (Sending (Polled n.does.event)) tt n.does.polls (asked_same _ _ n.does.pending))
step-leaves old new (steps.Emit who most fair) reply w n = absurd w
step-leaves old new (steps.EmitPart who most fair part) reply w n = absurd w
step-leaves old new (steps.Deliver number index) reply w n = delivered_so old new (may_of (steps.Deliver number index)) refl refl number index reply n
step-leaves old new (steps.Lose number) reply w n = loses_so old new (may_of (steps.Lose number)) number reply n
step-leaves old new (steps.Ack number) reply w n = acks_step old new (may_of (steps.Ack number)) refl number reply n
step-leaves old new _ reply w n = absurd n
