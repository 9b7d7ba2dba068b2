-- Lemmas on several reads of a half in a row.
use Rattle.std.proofs.Common.{◌≡◌, ℕ, ◌+◌, ◌≤◌, ◌<◌, ◌^◌, Bool, true, false, List, [], ◌∷◌, ◌++◌, length, Option, Some, None, Result, Ok, Err, refl, sym, ap, ◌∙◌, subst, arith}
use Rattle.std.proofs.lemmas.Bool.{false≢true}
use Rattle.quic_assembler.specs.declared.chunk.Chunk.{Chunk}
use Rattle.quic_receiving.specs.Half.{Half}
use Rattle.quic_receiving.specs.Calls.{Reads}
use Rattle.quic_receiving.specs.declared.errors.ReadError.{ReadError}
use Rattle.quic_receiving.specs.declared.errors.ReadError.TheVariants as read_error
use Rattle.quic_history.specs.declared.progress.LastAnswer.{LastAnswer}
use Rattle.quic_history.specs.declared.progress.LastAnswer.TheVariants as last_answer
use Rattle.quic_history.specs.declared.progress.Progress.TheVariants as progress
use Rattle.quic_history.specs.World.{World, with_credit, with_freed, with_receive}
use Rattle.quic_retransmits.specs.Pending.{Pending}
use Rattle.quic_history.specs.Reading.{is_reading, is_ended, progress_of, after_read, bytes_in, IsLastOf, is_window_queued, ReadsHalf, ReadsSome, GivesChunks, LastReads, Begins}
use Rattle.quic_history.proofs.ReadingSteps.{reader_mode, reader_runs, reading-after}
use Rattle.quic_history.proofs.WorldSteps.{with_receive-twice, with_receive-back, receive-there}
use Rattle.quic_streams.specs.InPlace.{ChangesHalves}
use Rattle.quic_streams.specs.HalfReads.{GivesOn, LastOn, ReadsSomeOn, ReadsSomeIn, is_due_after, credit_queued, is_credit_queued}
use Rattle.quic_streams.proofs.InPlace.{put-in}

-- one more chunk
pub gives_on-more : (h u k : Half) (most : ℕ) (cs : List Chunk) (c : Chunk) → GivesOn h most cs u → Reads u most (Ok (Some c)) k → GivesOn h most (cs ++ c ∷ []) k
gives_on-more h u k most [] c g r = let P : Half → Type 0 = λ x. Reads x most (Ok (Some c)) k in (k, subst P g r, refl)
gives_on-more h u k most (d ∷ ds) c g r = (g.0, g.1, gives_on-more g.0 u k most ds c g.2 r)

-- an answer without a chunk is the last
pub last_on : (h k : Half) (most : ℕ) (r : Result (Option Chunk) ReadError) (last : LastAnswer) → IsLastOf r last → Reads h most r k → LastOn h most last k
last_on h k most (Ok (Some chunk)) last e r = absurd e
last_on h k most (Ok None) last e r = rw e r
last_on h k most (Err read_error.Blocked) last e r = rw e r
last_on h k most (Err (read_error.Reset code)) last e r = rw e r
last_on h k most (Err read_error.OutOfMemory) last e r = rw e r

-- a half that was read where it lies, in its mode
reads_world : (w v : World) (id most : ℕ) (ordered : Bool) (read : ℕ) (r : Result (Option Chunk) ReadError) (h k : Half) → w.receive id ≡ Some h
    → is_reading progress.Readable (Some h) ordered read ≡ true → Reads h most r k → v ≡ after_read w id k r → ReadsHalf w id most ordered r v
reads_world w v id most ordered read r h k there reading reads is = record {
  old = h;
  new = k;
  half = there;
  mode = reader_mode h ordered read reading;
  running = reader_runs h ordered read reading;
  reads = reads;
  is = is;
}

-- the chunks that the half gave are those of the stream
gives_world : (w : World) (id most : ℕ) (ordered : Bool) (read : ℕ) (h k : Half) (cs : List Chunk) → w.receive id ≡ Some h
    → is_reading progress.Readable (Some h) ordered read ≡ true → GivesOn h most cs k → GivesChunks w id most ordered cs (with_receive w id (Some k))
gives_world w id most ordered read h k [] there reading g = ap (λ x. with_receive w id (Some x)) g ∙ with_receive-back w id (Some h) there
gives_world w id most ordered read h k (c ∷ cs) there reading g =
    let u = g.0 in
    let v = with_receive w id (Some u) in
    let rest = gives_world v id most ordered (read + length c.bytes) u k cs (receive-there w id (Some u)) (reading-after h u ordered read most (Ok (Some c)) reading g.1) g.2 in
    let P : World → Type 0 = λ x. GivesChunks v id most ordered cs x in
    (v, reads_world w v id most ordered read (Ok (Some c)) h u there reading g.1 refl, subst P (with_receive-twice w id (Some u) (Some k)) rest)

-- and it may still be read
still_read : (most : ℕ) (ordered : Bool) (read : ℕ) (h k : Half) (cs : List Chunk) → is_reading progress.Readable (Some h) ordered read ≡ true → GivesOn h most cs k
    → is_reading progress.Readable (Some k) ordered (read + bytes_in cs) ≡ true
still_read most ordered read h k [] reading g =
    let more : read + 0 ≡ read = omega arith in
    rw (g, more) reading
still_read most ordered read h k (c ∷ cs) reading g =
    let all : read + (length c.bytes + bytes_in cs) ≡ (read + length c.bytes) + bytes_in cs = omega arith in
    rw all (still_read most ordered (read + length c.bytes) g.0 k cs (reading-after h g.0 ordered read most (Ok (Some c)) reading g.1) g.2)

freed_behind : (w : World) (id : ℕ) (o : Option Half) → with_freed (with_receive w id o) id ≡ with_freed w id
freed_behind w id o = rw (with_receive-twice w id o None) refl

-- the last answer of the half is that of the stream
last_world : (w v : World) (id most : ℕ) (ordered : Bool) (read : ℕ) (last : LastAnswer) (h k : Half) → w.receive id ≡ Some h → is_reading progress.Readable (Some h) ordered read ≡ true
    → (is_ended (progress_of last) ≡ true → v ≡ with_freed w id) → (is_ended (progress_of last) ≡ false → v ≡ with_receive w id (Some k)) → LastOn h most last k
    → LastReads w id most ordered last v
last_world w v id most ordered read last_answer.Blocked h k there reading ended going r = reads_world w v id most ordered read (Err read_error.Blocked) h k there reading r (going refl)
last_world w v id most ordered read last_answer.Ended h k there reading ended going r = reads_world w v id most ordered read (Ok None) h k there reading r (ended refl)
last_world w v id most ordered read (last_answer.Reset code) h k there reading ended going r = reads_world w v id most ordered read (Err (read_error.Reset code)) h k there reading r (ended refl)
last_world w v id most ordered read last_answer.Memory h k there reading ended going r = reads_world w v id most ordered read (Err read_error.OutOfMemory) h k there reading r (going refl)
last_world w v id most ordered read last_answer.More h k there reading ended going r =
    going refl ∙ ap (λ x. with_receive w id (Some x)) r ∙ with_receive-back w id (Some h) there

-- whether MAX_STREAM_DATA is queued
due_world : (u v : World) (id : ℕ) (last : LastAnswer) → (is_ended (progress_of last) ≡ false → v ≡ u)
    → is_due_after last u.window (u.receive id) ≡ is_window_queued (progress_of last) v (v.receive id)
due_world u v id last_answer.Blocked going = rw (going refl) refl
due_world u v id last_answer.Ended going = refl
due_world u v id (last_answer.Reset code) going = refl
due_world u v id last_answer.Memory going = rw (going refl) refl
due_world u v id last_answer.More going = rw (going refl) refl

module _ (w u v : World) (id most times : ℕ) (ordered : Bool) (cs : List Chunk) (last : LastAnswer)
    (s : ReadsSomeIn w.receive id most times ordered cs last u.receive) (only : ChangesHalves w u)
    (ended : is_ended (progress_of last) ≡ true → v ≡ with_freed u id) (going : is_ended (progress_of last) ≡ false → v ≡ u) where
  abbrev opened : World
  opened = with_receive w id (Some s.reads.opened)

  abbrev behind : World
  behind = with_receive w id (Some s.reads.read)

  is_put : u ≡ with_receive w id (Some s.new)
  is_put = put-in w u id (Some s.new) only s.is

  begins : Begins w id ordered (Ok tt) opened
  begins = record { old = s.old; new = s.reads.opened; half = s.half; running = s.reads.asks.0; orders = s.reads.asks.1; is = refl }

  gives : GivesChunks opened id most ordered cs behind
  gives =
      let P : World → Type 0 = λ x. GivesChunks opened id most ordered cs x in
      subst P (with_receive-twice w id (Some s.reads.opened) (Some s.reads.read))
      (gives_world opened id most ordered 0 s.reads.opened s.reads.read cs (receive-there w id (Some s.reads.opened)) s.reads.reading s.reads.gives)

  last_reads : LastReads behind id most ordered last v
  last_reads = last_world behind v id most ordered (0 + bytes_in cs) last s.reads.read s.new (receive-there w id (Some s.reads.read))
      (still_read most ordered 0 s.reads.opened s.reads.read cs s.reads.reading s.reads.gives)
      (λ e. ended e ∙ ap (λ x. with_freed x id) is_put ∙ freed_behind w id (Some s.new) ∙ sym (freed_behind w id (Some s.reads.read)))
      (λ e. going e ∙ is_put ∙ sym (with_receive-twice w id (Some s.reads.read) (Some s.new)))
      s.reads.last_reads

  -- reads of a half where it lies, with their credit, are those of its stream
  pub reads_some : (x : World) (p q : Pending) (due transmit : Bool) (n : ℕ) → n ≡ bytes_in cs → due ≡ is_due_after last u.window (u.receive id) → x ≡ with_credit v n
      → q ≡ credit_queued due v id n p → transmit ≡ is_credit_queued due v n → ReadsSome w id most times ordered p cs last transmit x q
  reads_some x p q due transmit n all is_due credit queued told =
      let same : due ≡ is_window_queued (progress_of last) v (v.receive id) = is_due ∙ due_world u v id last going in
      record {
        opened = opened;
        read = behind;
        ended = v;
        begins = begins;
        gives = gives;
        last_reads = last_reads;
        count = s.reads.count;
        is = rw (← all) credit;
        pending = rw (← all, ← same) queued;
        transmits = rw (← all, ← same) told;
      }
