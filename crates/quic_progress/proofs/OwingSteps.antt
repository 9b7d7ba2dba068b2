-- What an end permits is above what it announced by less than an eighth, or is to be announced: each step keeps it.
use Rattle.std.proofs.Common.{◌≡◌, ◌⊎◌, ℕ, Bool, true, false, List, Option, Some, None, Result, Ok, Err, refl, sym, ap, ◌∙◌, subst, inl, inr, arith, ◌≤◌, ◌<◌, ◌+◌, ◌-◌, ◌/◌, ◌^◌}
use Rattle.std.specs.Prelude.{◌||◌, ◌&&◌, ◌==◌, min, nat_lt, if◌then◌else◌, slice_get}
use Rattle.std.proofs.lemmas.Bool.Decides.{nat_tests}
use Rattle.quic_values.specs.declared.memory.OutOfMemory.{OutOfMemory}
use Rattle.quic_values.specs.declared.ids.Dir.{Dir}
use Rattle.quic_wire.specs.declared.frame.Frame.{Frame}
use Rattle.quic_wire.specs.declared.frame.Frame.TheVariants as frames
use Rattle.quic_wire.specs.declared.error.ReceiveError.TheVariants as receive_error
use Rattle.quic_limits.specs.Credit.{Credit, credited, is_max_data_due, max_data_of}
use Rattle.quic_sending.specs.declared.errors.HandleError.{HandleError}
use Rattle.quic_sending.specs.declared.errors.HandleError.TheVariants as handle_error
use Rattle.quic_receiving.specs.declared.errors.ReadableError.{ReadableError}
use Rattle.quic_retransmits.specs.Pending.{Pending}
use Rattle.quic_history.specs.Halves.{is_due_in}
use Rattle.quic_history.specs.World.{World, with_freed}
use Rattle.quic_history.specs.Reading.{LastReads, progress_of, is_window_queued, bytes_in}
use Rattle.quic_history.specs.declared.progress.LastAnswer.{LastAnswer}
use Rattle.quic_history.specs.declared.progress.LastAnswer.TheVariants as last_answer
use Rattle.quic_history.specs.declared.progress.Progress.{Progress}
use Rattle.quic_history.specs.declared.progress.Progress.TheVariants as progress
use Rattle.quic_history.specs.SendEvents.{RaisedData, RaisedLimit, RaisedCount, StoppedOwn}
use Rattle.quic_history.specs.History.{Began, Sending}
use Rattle.quic_history.proofs.Traces.{itself}
use Rattle.quic_history.proofs.StreamSteps.{steady-freed}
use Rattle.quic_link.proofs.Basics.{same_id}
use Rattle.quic_retransmits.specs.Queueing.{with_id}
use Rattle.quic_streams.specs.declared.batches.ReadSome.{ReadSome}
use Rattle.quic_streams.specs.declared.settling.SentPayload.{SentPayload}
use Rattle.quic_endpoint.specs.Ends.{EndState, StopsReading, TellsResetAt, SetsConcurrentAt, ReadsAt, RefusesRead, with_counts_told, with_counts_told_if, with_window_set}
use Rattle.quic_endpoint.specs.Receiving.{MakesCall, event_of, stopped_so}
use Rattle.quic_steps.specs.declared.steps.End.{End}
use Rattle.quic_exchange.specs.Sent.{Sent, Unsettled}
use Rattle.quic_exchange.specs.declared.unsettled.Report.TheVariants.{Acknowledged}
use Rattle.quic_exchange.specs.Due.{AsksData, AsksWindow, HasConsumed}
use Rattle.quic_progress.proofs.Leaves.{May, Leaves, HalfGoes, leaves-same, leaves-at, leaves-step, freed-half}
use Rattle.quic_progress.proofs.Permissions.{AllData, StreamsOf, is_asked}
use Rattle.quic_progress.proofs.Ends.{EndLeaves, by-call, by-same}
use Rattle.quic_progress.proofs.Tracked.{Which, Forth}
use Rattle.quic_progress.proofs.Owing.{IsExempt, OwesData, OwesWindow, OwesCount, data-asked, data-still, data-plain, window-asked, window-freed, window-left, count-told, count-left}

-- a payload was acknowledged in part
pub record IsHalfAcked (sent : List Sent) (who : End) : Type 0 where
  pub number : ℕ
  pub payload : Sent
  pub is : slice_get sent number ≡ Some payload
  pub writer : payload.writer ≡ who
  pub begun : payload.unsettled.begun ≡ Some Acknowledged
  pub rest : SentPayload
  pub rest_is : payload.unsettled.rest ≡ Some rest

-- what an end permits is near to what it announced, or is to be announced, of each stream and of some permissions beside
pub record Owing (some : Which) (e : EndState) (sent : List Sent) (who : End) : Type 0 where
  pub whole : some who AllData ≡ true → OwesData e
  pub windows : (id : ℕ) → OwesWindow id e
  pub counts : (d : Dir) → some who (StreamsOf d) ≡ true → OwesCount d e ⊎ IsHalfAcked sent who

half_forth : (old new : List Sent) (who : End) → Forth old new → IsHalfAcked old who → IsHalfAcked new who
half_forth old new who f h =
    let s = f h.number h.payload h.is in
    record { number = h.number; payload = s.0; is = s.1; writer = s.2 ∙ h.writer; begun = ap (λ (u : Unsettled). u.begun) s.3 ∙ h.begun; rest = h.rest; rest_is = ap (λ (u : Unsettled). u.rest) s.3 ∙ h.rest_is }

pub owing-forth : {some : Which} (e : EndState) (old new : List Sent) (who : End) → Forth old new → Owing some e old who → Owing some e new who
owing-forth e old new who f o = record { whole = o.whole; windows = o.windows; counts = λ d on. elim (o.counts d on) [ inl near ↦ inl near | inr half ↦ inr (half_forth old new who f half) ] }

-- among other payloads, where none was acknowledged in part
pub owing-moved : {some : Which} (e : EndState) (old new : List Sent) (who : End) → (IsHalfAcked old who → ⊥) → Owing some e old who → Owing some e new who
owing-moved e old new who none o = record { whole = o.whole; windows = o.windows; counts = λ d on. elim (o.counts d on) [ inl near ↦ inl near | inr half ↦ absurd (none half) ] }

-- a call that consumes, frees and reads nothing
abbrev pub nothing_more : May
nothing_more = record { reads = λ q. false; credits = false; resizes = false; frees = false }

pub owing-plain : {some : Which} (e f : EndState) (sent : List Sent) (who : End) → EndLeaves nothing_more e f → Owing some e sent who → Owing some f sent who
owing-plain e f sent who l o = record {
  whole = λ on. data-plain nothing_more e f l refl (o.whole on);
  windows = λ id. window-left nothing_more id e f l refl (o.windows id);
  counts = λ d on. elim (o.counts d on) [ inl near ↦ inl (count-left nothing_more d e f l refl near) | inr half ↦ inr half ];
}

pub owing-at : {some : Which} (e f : EndState) (sent : List Sent) (who : End) → f ≡ e → Owing some e sent who → Owing some f sent who
owing-at {some} e f sent who is o = let P : EndState → Type 0 = λ x. Owing some x sent who in subst P (sym is) o

-- counts are told
pub owing-told : {some : Which} (e : EndState) (sent : List Sent) (who : End) → (some who AllData ≡ true → OwesData e) → ((id : ℕ) → OwesWindow id e) → Owing some (with_counts_told e) sent who
owing-told e sent who whole windows = record { whole = whole; windows = windows; counts = λ d on. inl (count-told e d) }

told-if : {some : Which} (b : Bool) (e : EndState) (sent : List Sent) (who : End) → Owing some e sent who → Owing some (with_counts_told_if b e) sent who
told-if true e sent who o = owing-told e sent who o.whole o.windows
told-if false e sent who o = o

or_right : (a b : Bool) → b ≡ true → (a || b) ≡ true
or_right true b e = refl
or_right false b e = e

module _ (sent : List Sent) (who : End) where
  -- ---- reads

  asked_id : (ids : ℕ → Bool) (id : ℕ) (due : Bool) → due ≡ true → (with_id ids id due) id ≡ true
  asked_id ids id true e = or_right (ids id) (true && (id == id)) (itself id)
  asked_id ids id false e = cc

  module _ (e f : EndState) (id most times : ℕ) (ordered : Bool) (r : ReadSome) (d : ReadsAt e id most times ordered r.chunks.items r.last r.transmit.0 f) where
    read_data : AsksData d.read
    read_data =
        let s = d.reads in
        let P : Pending → Type 0 = λ p. is_max_data_due d.read.streams.credit ≡ true → p.max_data ≡ true in
        let C : Credit → Type 0 = λ c. is_max_data_due c ≡ true → (e.pending.max_data || is_max_data_due (credited s.ended.credit (bytes_in r.chunks.items))) ≡ true in
        subst P (sym s.pending) (subst C (sym (ap (λ (w : World). w.credit) s.is)) (or_right e.pending.max_data (is_max_data_due (credited s.ended.credit (bytes_in r.chunks.items)))))

    read_window : progress_of r.last ≡ progress.Readable → AsksWindow d.read id
    read_window goes =
        let s = d.reads in
        let P : Pending → Type 0 = λ p. is_due_in d.read.streams.window (d.read.streams.receive id) ≡ true → p.max_stream_data id ≡ true in
        let W : World → Type 0 = λ w. is_due_in w.window (w.receive id) ≡ true → (with_id e.pending.max_stream_data id (is_window_queued (progress_of r.last) s.ended (s.ended.receive id))) id ≡ true in
        let G : Progress → Type 0 = λ g. is_due_in s.ended.window (s.ended.receive id) ≡ true → (with_id e.pending.max_stream_data id (is_window_queued g s.ended (s.ended.receive id))) id ≡ true in
        subst P (sym s.pending) (subst W (sym s.is) (subst G (sym goes) (asked_id e.pending.max_stream_data id (is_due_in s.ended.window (s.ended.receive id)))))

    -- the reader came to the end, or to a reset: its half was freed
    gone : (w : World) → d.reads.ended ≡ with_freed w id → OwesWindow id d.read
    gone w is =
        let s = d.reads in
        let P : World → Type 0 = λ x. HalfGoes x.window false None (x.receive id) in
        let G : World → Type 0 = λ x. HalfGoes w.window false None (x.receive id) in
        let L = leaves_freed w in
        let Q : ℕ → Type 0 = λ n. HalfGoes n false None ((with_freed w id).receive id) in
        let here : HalfGoes (with_freed w id).window false None ((with_freed w id).receive id) = subst Q (sym L) (freed-half w id) in
        let ended : HalfGoes s.ended.window false None (s.ended.receive id) = subst P (sym is) here in
        window-freed id d.read (subst P (sym s.is) ended)
      where
        leaves_freed : (w : World) → (with_freed w id).window ≡ w.window
        leaves_freed w = ap (λ k. k.window) (steady-freed w id)

    window_of : (last : LastAnswer) → r.last ≡ last → LastReads d.reads.read id most ordered last d.reads.ended → OwesWindow id d.read
    window_of last_answer.Blocked e l = window-asked d.read id (read_window (ap progress_of e))
    window_of last_answer.Ended e l = gone d.reads.read l.is
    window_of (last_answer.Reset code) e l = gone d.reads.read l.is
    window_of last_answer.Memory e l = window-asked d.read id (read_window (ap progress_of e))
    window_of last_answer.More e l = window-asked d.read id (read_window (ap progress_of e))

    pub owing-read : {some : Which} → EndLeaves (record { reads = λ q. q == id; credits = true; resizes = false; frees = true }) e d.read → Owing some e sent who → Owing some f sent who
    owing-read l o = owing-at (with_counts_told d.read) f sent who d.is (owing-told d.read sent who (λ on. data-asked d.read read_data) (λ q. window_at q (q == id) refl))
      where
        window_at : (q : ℕ) (b : Bool) → (q == id) ≡ b → OwesWindow q d.read
        window_at q true t = let P : ℕ → Type 0 = λ k. OwesWindow k d.read in subst P (sym (same_id q id t)) (window_of r.last refl d.reads.last_reads)
        window_at q false t = window-left (record { reads = λ q. q == id; credits = true; resizes = false; frees = true }) q e d.read l t (o.windows q)

  pub refused-read : {some : Which} (e f : EndState) (id : ℕ) (ordered : Bool) (error : ReadableError) → RefusesRead e id ordered error f → Owing some e sent who → Owing some f sent who
  refused-read e f id ordered error s o =
      owing-at _ f sent who s.is (told-if _ s.asked sent who (owing-plain e s.asked sent who (by-call nothing_more e s.asked (Began id ordered (Err error)) tt s.begins (λ k a. ap (is_asked k) s.pending ∙ a)) o))

  -- ---- stops and resets

  pub owing-stopped : {some : Which} (e f : EndState) (id code : ℕ) (answer : Result (Unit {0}) HandleError) → (d : StopsReading e id code answer f) → EndLeaves (record { reads = λ q. false; credits = true; resizes = false; frees = true }) e d.stopped → Owing some e sent who → Owing some f sent who
  owing-stopped e f id code (Ok done) d l o =
      let P : Pending → Type 0 = λ p. is_max_data_due d.stopped.streams.credit ≡ true → p.max_data ≡ true in
      let asks : AsksData d.stopped = subst P (sym d.stops.7) (or_right e.pending.max_data (is_max_data_due d.stopped.streams.credit)) in
      owing-at (with_counts_told d.stopped) f sent who d.is (owing-told d.stopped sent who (λ on. data-asked d.stopped asks) (λ id. window-left (record { reads = λ q. false; credits = true; resizes = false; frees = true }) id e d.stopped l refl (o.windows id)))
  owing-stopped e f id code (Err handle_error.ClosedStream) d l o =
      owing-at (with_counts_told d.stopped) f sent who d.is (told-if true d.stopped sent who (owing-plain e d.stopped sent who (by-same nothing_more e d.stopped d.stops.1 d.stops.2) o))
  owing-stopped e f id code (Err handle_error.OutOfMemory) d l o = owing-at d.stopped f sent who d.is (owing-plain e d.stopped sent who (by-same nothing_more e d.stopped d.stops.0 d.stops.1) o)

  pub owing-code : {some : Which} (e f : EndState) (id : ℕ) (answer : Result (Option ℕ) HandleError) → (d : TellsResetAt e id answer f) → EndLeaves (record { reads = λ q. false; credits = false; resizes = false; frees = true }) e d.asked → Owing some e sent who → Owing some f sent who
  owing-code e f id (Ok (Some code)) d l o =
      let m : May = record { reads = λ q. false; credits = false; resizes = false; frees = true } in
      owing-at (with_counts_told d.asked) f sent who d.is (owing-told d.asked sent who (λ on. data-plain m e d.asked l refl (o.whole on)) (λ id. window-left m id e d.asked l refl (o.windows id)))
  owing-code e f id (Ok None) d l o = owing-at (with_counts_told d.asked) f sent who d.is (told-if true d.asked sent who (owing-plain e d.asked sent who (by-same nothing_more e d.asked d.tells.4 d.tells.5) o))
  owing-code e f id (Err handle_error.ClosedStream) d l o = owing-at (with_counts_told d.asked) f sent who d.is (told-if true d.asked sent who (owing-plain e d.asked sent who (by-same nothing_more e d.asked d.tells.1 d.tells.2) o))
  owing-code e f id (Err handle_error.OutOfMemory) d l o = owing-at d.asked f sent who d.is (owing-plain e d.asked sent who (by-same nothing_more e d.asked d.tells.3 d.tells.4) o)

  -- ---- windows and counts that are set

  abbrev OwesCredit : Credit → Bool → Type 0
  OwesCredit c asked = IsExempt c ⊎ ((asked ≡ true) ⊎ (max_data_of c ≤ c.sent_max_data + c.receive_window / 8))

  or_left : (a b : Bool) → a ≡ true → (a || b) ≡ true
  or_left true b e = refl
  or_left false b e = cc

  smaller : (c : Credit) (window : ℕ) (asked : Bool) → nat_lt c.receive_window window ≡ false → OwesCredit c asked → OwesCredit (record c { receive_window = window; shrink_debt = min (c.shrink_debt + (c.receive_window - window)) (2 ^ 64 - 1) }) (asked || false)
  smaller c window asked k o = elim o [
    | inl (inl owed) ↦ inl (inl (omega (arith, owed)))
    | inl (inr big) ↦ inl (inr big)
    | inr (inl a) ↦ inr (inl (or_left asked false a))
    | inr (inr near) ↦ by (nat_lt window c.receive_window) refl near
  ]
    where
      less : (a n : ℕ) → nat_lt a n ≡ true → a < n
      less a n e = grind (arith, nat_tests)

      equal : (a n : ℕ) → nat_lt a n ≡ false → nat_lt n a ≡ false → a ≡ n
      equal a n e d = grind (arith, nat_tests)

      by : (b : Bool) → nat_lt window c.receive_window ≡ b → max_data_of c ≤ c.sent_max_data + c.receive_window / 8 → OwesCredit (record c { receive_window = window; shrink_debt = min (c.shrink_debt + (c.receive_window - window)) (2 ^ 64 - 1) }) (asked || false)
      by true e near = let l = less window c.receive_window e in inl (inl (omega (arith, l)))
      by false e near = let q = ap (λ (n : ℕ). n / 8) (equal window c.receive_window e k) in inr (inr (omega (arith, near, q)))

  pub window-data : (e f : EndState) (window : ℕ) (larger : Bool) → larger ≡ nat_lt e.streams.credit.receive_window window → f ≡ with_window_set e window larger → OwesData e → OwesData f
  window-data e f window larger is f_is o = let P : EndState → Type 0 = λ x. OwesData x in subst P (sym f_is) (by larger is)
    where
      by : (b : Bool) → b ≡ nat_lt e.streams.credit.receive_window window → OwesData (with_window_set e window b)
      by true k = inr (inl (or_right e.pending.max_data true refl))
      by false k =
          let c = e.streams.credit in
          let P : Bool → Type 0 = λ b. OwesCredit (if b then record c { receive_window = window; local_max_data = min (c.local_max_data + (window - c.receive_window)) (2 ^ 64 - 1) } else record c { receive_window = window; shrink_debt = min (c.shrink_debt + (c.receive_window - window)) (2 ^ 64 - 1) }) (e.pending.max_data || false) in
          subst P k (smaller c window e.pending.max_data (sym k) o)

  pub owing-set : {some : Which} (e f : EndState) (dir : Dir) (count : ℕ) (answer : Result (Unit {0}) OutOfMemory) → (d : SetsConcurrentAt e dir count answer f) → EndLeaves (record { reads = λ q. false; credits = false; resizes = false; frees = true }) e d.set → Owing some e sent who → Owing some f sent who
  owing-set e f dir count (Ok done) d l o =
      let m : May = record { reads = λ q. false; credits = false; resizes = false; frees = true } in
      owing-at (with_counts_told d.set) f sent who d.is (owing-told d.set sent who (λ on. data-plain m e d.set l refl (o.whole on)) (λ id. window-left m id e d.set l refl (o.windows id)))
  owing-set e f dir count (Err error) d l o = owing-at d.set f sent who d.is (owing-plain e d.set sent who (by-same nothing_more e d.set d.sets d.pending) o)

  -- ---- frames that are handed over

  pub frame-data : (m : May) (e f : EndState) → EndLeaves m e f → m.resizes ≡ false → (HasConsumed e.streams.credit f.streams.credit → AsksData f) → OwesData e → OwesData f
  frame-data m e f l fixed asks o = elim l.streams.size [
    | inl may ↦ (let z = sym fixed ∙ may in cc)
    | inr size ↦ by (nat_lt e.streams.credit.local_max_data f.streams.credit.local_max_data) refl size
  ]
    where
      less : (a n : ℕ) → nat_lt a n ≡ true → a < n
      less a n e = grind (arith, nat_tests)

      above : (a n : ℕ) → nat_lt a n ≡ false → n ≤ a
      above a n e = grind (arith, nat_tests)

      by_debt : (b : Bool) → nat_lt f.streams.credit.shrink_debt e.streams.credit.shrink_debt ≡ b → f.streams.credit.receive_window ≡ e.streams.credit.receive_window → f.streams.credit.local_max_data ≤ e.streams.credit.local_max_data → OwesData f
      by_debt true t size limit = data-asked f (asks (inr (less f.streams.credit.shrink_debt e.streams.credit.shrink_debt t)))
      by_debt false t size limit = data-still m e f l size limit (above f.streams.credit.shrink_debt e.streams.credit.shrink_debt t) o

      by : (b : Bool) → nat_lt e.streams.credit.local_max_data f.streams.credit.local_max_data ≡ b → f.streams.credit.receive_window ≡ e.streams.credit.receive_window → OwesData f
      by true t size = data-asked f (asks (inl (less e.streams.credit.local_max_data f.streams.credit.local_max_data t)))
      by false t size = by_debt (nat_lt f.streams.credit.shrink_debt e.streams.credit.shrink_debt) refl size (above e.streams.credit.local_max_data f.streams.credit.local_max_data t)

  -- a frame for which there was no memory
  pub call-none : (u v : World) (frame : Frame) → MakesCall u (event_of frame (Err receive_error.OutOfMemory)) v → Leaves nothing_more u v
  call-none u v (frames.Stream g) s = leaves-at nothing_more u v u s (leaves-same nothing_more u)
  call-none u v (frames.ResetStream g) s = leaves-at nothing_more u v u s (leaves-same nothing_more u)
  call-none u v (frames.StopSending g) s = leaves-step nothing_more u (Sending (StoppedOwn g.id g.error_code (stopped_so (Err receive_error.OutOfMemory)))) v tt s
  call-none u v (frames.MaxData limit) s = leaves-step nothing_more u (Sending (RaisedData limit)) v tt s
  call-none u v (frames.MaxStreamData id limit) s = leaves-step nothing_more u (Sending (RaisedLimit id limit (Err receive_error.OutOfMemory))) v tt s
  call-none u v (frames.MaxStreams dir count) s = leaves-step nothing_more u (Sending (RaisedCount dir count (Err receive_error.OutOfMemory))) v tt s
  call-none u v _ s = leaves-at nothing_more u v u s (leaves-same nothing_more u)
