-- What a step does to an end are calls of which each reader is ended that was opened.
use Rattle.std.proofs.Common.{◌≡◌, ℕ, Bool, false, List, [], ◌∷◌, length, Option, Some, None, Result, Ok, Err, refl, sym, ap, ◌∙◌, subst, inl, inr, arith, ◌+◌, ◌-◌}
use Rattle.quic_values.specs.declared.memory.OutOfMemory.{OutOfMemory}
use Rattle.quic_assembler.specs.declared.chunk.Chunk.{Chunk}
use Rattle.quic_wire.specs.declared.frame.Frame.{Frame}
use Rattle.quic_wire.specs.declared.frame.Frame.TheVariants as frames
use Rattle.quic_wire.specs.declared.frame.StreamMeta.{StreamMeta}
use Rattle.quic_wire.specs.declared.error.ReceiveError.{ReceiveError}
use Rattle.quic_receiving.specs.declared.errors.ReadError.TheVariants as read_error
use Rattle.quic_receiving.specs.declared.transmit.ShouldTransmit.{ShouldTransmit}
use Rattle.quic_retransmits.specs.Pending.{Pending}
use Rattle.quic_history.specs.World.{World, Made}
use Rattle.quic_history.specs.Early.{begins_anew}
use Rattle.quic_history.specs.Reading.{GivesChunks, LastReads, ReadsSome, bytes_in}
use Rattle.quic_history.specs.declared.progress.LastAnswer.{LastAnswer}
use Rattle.quic_history.specs.declared.progress.LastAnswer.TheVariants as last_answer
use Rattle.quic_history.specs.SendEvents.{RaisedData, RaisedCount, RaisedLimit, StoppedOwn, AckedOwn, LostOwn, ResetAckedOwn, TookTurn}
use Rattle.quic_history.specs.History.{Event, Received, ReceivedReset, Began, Gave, Ended, LeftPending, Sending, Rejected, SentAgain, Step, Fits, From, given, with_chunks, with_last, joint_move_of}
use Rattle.quic_history.proofs.Histories.{next}
use Rattle.quic_streams.specs.Payload.{Entry, with_entries}
use Rattle.quic_streams.specs.Transmitting.{with_turns}
use Rattle.quic_streams.specs.Settling.{SentView, EachInOrder, AcksMeta, LosesMeta, AcksResetOf, AcksWhole, LosesWhole, resets_of}
use Rattle.quic_link.specs.Endpoints.{IsOneOf}
use Rattle.quic_link.proofs.Ends.{ArePlain}
use Rattle.quic_endpoint.specs.Receiving.{MakesCall, event_of, done_so, stopped_so}
use Rattle.quic_endpoint.specs.Ends.{EndState}
use Rattle.quic_endpoint.specs.Emitting.{PayloadView, control_in, EmitsStreams}
use Rattle.quic_progress.proofs.Spent.{with_outstanding, outstanding}
use Rattle.quic_exchange.proofs.Emissions.{EmitsKinds, EmitsSomeAt, whole, cut}

-- an end came from calls that go on from others, of which no reader is open that was not before
pub record Run (m : Made) (h : List Event) (v : World) : Type 0 where
  pub calls : List Event
  pub from : From m calls v
  pub plain : ArePlain calls
  pub same : outstanding calls ≡ outstanding h
  pub stays : (e : Event) → IsOneOf e h → IsOneOf e calls

-- so from whichever calls it came before
abbrev pub Runs : Made → World → World → Type 0
Runs m u v = (h : List Event) → From m h u → ArePlain h → Run m h v

pub runs-same : (m : Made) (u : World) → Runs m u u
runs-same m u h f p = record { calls = h; from = f; plain = p; same = refl; stays = λ e i. i }

pub runs-at : (m : Made) (u v w : World) → v ≡ w → Runs m u w → Runs m u v
runs-at m u v w e r = let P : World → Type 0 = λ x. Runs m u x in subst P (sym e) r

pub runs-then : (m : Made) (u v w : World) → Runs m u v → Runs m v w → Runs m u w
runs-then m u v w a b h f p =
    let x = a h f p in
    let y = b x.calls x.from x.plain in
    record { calls = y.calls; from = y.from; plain = y.plain; same = y.same ∙ x.same; stays = λ e i. y.stays e (x.stays e i) }

-- ---- one call

-- a call beside those of a reader that gives bytes
abbrev pub IsBesideReads : Event → Type 0
IsBesideReads (Gave id most ordered (Ok (Some chunk))) = ⊥
IsBesideReads (Ended id count) = ⊥
IsBesideReads Rejected = ⊥
IsBesideReads _ = Unit {0}

beside_plain : (e : Event) → IsBesideReads e → begins_anew (joint_move_of e) ≡ false
beside_plain (Gave id most ordered (Ok (Some chunk))) b = absurd b
beside_plain (Ended id count) b = absurd b
beside_plain Rejected b = absurd b
beside_plain (SentAgain (Ok x)) b = refl
beside_plain (SentAgain (Err x)) b = refl
beside_plain _ b = refl

beside_fits : (e : Event) → IsBesideReads e → (h : List Event) → Fits h e
beside_fits (Gave id most ordered (Ok (Some chunk))) b h = absurd b
beside_fits (Ended id count) b h = absurd b
beside_fits Rejected b h = absurd b
beside_fits _ b h = tt

beside_same : (e : Event) → IsBesideReads e → (n : ℕ) → with_outstanding e n ≡ n
beside_same (Gave id most ordered (Ok (Some chunk))) b n = absurd b
beside_same (Ended id count) b n = absurd b
beside_same Rejected b n = absurd b
beside_same _ b n = refl

pub runs-call : (m : Made) (u v : World) (e : Event) → IsBesideReads e → Step u e v → Runs m u v
runs-call m u v e b s h f p = record {
  calls = e ∷ h;
  from = next m h u e v (beside_fits e b h) f s;
  plain = (beside_plain e b, p);
  same = beside_same e b (outstanding h);
  stays = λ x i. inr i;
}

-- such calls, of which this is one
abbrev pub RunsBy : Event → Made → World → World → Type 0
RunsBy e m u v = (h : List Event) → From m h u → ArePlain h → (r : Run m h v) × IsOneOf e r.calls

pub by-call : (m : Made) (u v : World) (e : Event) → IsBesideReads e → Step u e v → RunsBy e m u v
by-call m u v e b s h f p = (
  record {
    calls = e ∷ h;
    from = next m h u e v (beside_fits e b h) f s;
    plain = (beside_plain e b, p);
    same = beside_same e b (outstanding h);
    stays = λ x i. inr i;
  },
  inl refl,
)

pub by-at : (e : Event) (m : Made) (u v w : World) → v ≡ w → RunsBy e m u w → RunsBy e m u v
by-at e m u v w is r = let P : World → Type 0 = λ x. RunsBy e m u x in subst P (sym is) r

-- ---- reads

more_out : (a b c d : ℕ) → a ≡ (b + c) + d → a ≡ b + (c + d)
more_out a b c d e = omega (arith, e)

module _ (id most : ℕ) (ordered : Bool) where
  chunks_out : (cs : List Chunk) (h : List Event) → outstanding (with_chunks id most ordered cs h) ≡ outstanding h + bytes_in cs
  chunks_out [] h = omega arith
  chunks_out (c ∷ cs) h = more_out _ (outstanding h) (length c.bytes) (bytes_in cs) (chunks_out cs (Gave id most ordered (Ok (Some c)) ∷ h))

  chunks_given : (cs : List Chunk) (h : List Event) → given (with_chunks id most ordered cs h) ≡ given h + bytes_in cs
  chunks_given [] h = omega arith
  chunks_given (c ∷ cs) h = more_out _ (given h) (length c.bytes) (bytes_in cs) (chunks_given cs (Gave id most ordered (Ok (Some c)) ∷ h))

  chunks_stay : (cs : List Chunk) (h : List Event) (e : Event) → IsOneOf e h → IsOneOf e (with_chunks id most ordered cs h)
  chunks_stay [] h e i = i
  chunks_stay (c ∷ cs) h e i = chunks_stay cs (Gave id most ordered (Ok (Some c)) ∷ h) e (inr i)

  chunks_plain : (cs : List Chunk) (h : List Event) → ArePlain h → ArePlain (with_chunks id most ordered cs h)
  chunks_plain [] h p = p
  chunks_plain (c ∷ cs) h p = chunks_plain cs (Gave id most ordered (Ok (Some c)) ∷ h) (refl, p)

  chunks_from : (m : Made) (cs : List Chunk) (h : List Event) (u v : World) → From m h u → GivesChunks u id most ordered cs v → From m (with_chunks id most ordered cs h) v
  chunks_from m [] h u v f g = let P : World → Type 0 = λ x. From m h x in subst P (sym g) f
  chunks_from m (c ∷ cs) h u v f g = chunks_from m cs (Gave id most ordered (Ok (Some c)) ∷ h) g.0 v (next m h u (Gave id most ordered (Ok (Some c))) g.0 tt f g.1) g.2

  last_out : (last : LastAnswer) (h : List Event) → outstanding (with_last id most ordered last h) ≡ outstanding h
  last_out last_answer.Blocked h = refl
  last_out last_answer.Ended h = refl
  last_out (last_answer.Reset code) h = refl
  last_out last_answer.Memory h = refl
  last_out last_answer.More h = refl

  last_given : (last : LastAnswer) (h : List Event) → given (with_last id most ordered last h) ≡ given h
  last_given last_answer.Blocked h = refl
  last_given last_answer.Ended h = refl
  last_given (last_answer.Reset code) h = refl
  last_given last_answer.Memory h = refl
  last_given last_answer.More h = refl

  last_stay : (last : LastAnswer) (h : List Event) (e : Event) → IsOneOf e h → IsOneOf e (with_last id most ordered last h)
  last_stay last_answer.Blocked h e i = inr i
  last_stay last_answer.Ended h e i = inr i
  last_stay (last_answer.Reset code) h e i = inr i
  last_stay last_answer.Memory h e i = inr i
  last_stay last_answer.More h e i = i

  last_plain : (last : LastAnswer) (h : List Event) → ArePlain h → ArePlain (with_last id most ordered last h)
  last_plain last_answer.Blocked h p = (refl, p)
  last_plain last_answer.Ended h p = (refl, p)
  last_plain (last_answer.Reset code) h p = (refl, p)
  last_plain last_answer.Memory h p = (refl, p)
  last_plain last_answer.More h p = p

  last_from : (m : Made) (last : LastAnswer) (h : List Event) (u v : World) → From m h u → LastReads u id most ordered last v → From m (with_last id most ordered last h) v
  last_from m last_answer.Blocked h u v f r = next m h u (Gave id most ordered (Err read_error.Blocked)) v tt f r
  last_from m last_answer.Ended h u v f r = next m h u (Gave id most ordered (Ok None)) v tt f r
  last_from m (last_answer.Reset code) h u v f r = next m h u (Gave id most ordered (Err (read_error.Reset code))) v tt f r
  last_from m last_answer.Memory h u v f r = next m h u (Gave id most ordered (Err read_error.OutOfMemory)) v tt f r
  last_from m last_answer.More h u v f r = let P : World → Type 0 = λ x. From m h x in subst P (sym r) f

  pub runs-reads : (m : Made) (times : ℕ) (p q : Pending) (cs : List Chunk) (last : LastAnswer) (transmit : Bool) (u v : World) → ReadsSome u id most times ordered p cs last transmit v q → Runs m u v
  runs-reads m times p q cs last transmit u v s h f plain =
      let b = Began id ordered (Ok tt) in
      let h1 = with_chunks id most ordered cs (b ∷ h) in
      let h2 = with_last id most ordered last h1 in
      let f1 = chunks_from m cs (b ∷ h) s.opened s.read (next m h u b s.opened tt f s.begins) s.gives in
      let f2 = last_from m last h1 s.read s.ended f1 s.last_reads in
      let a = chunks_given cs (b ∷ h) in
      let d = last_given last h1 in
      let fits : bytes_in cs ≡ given h2 = omega (arith, a, d) in
      let x = chunks_out cs (b ∷ h) in
      let y = last_out last h1 in
      let out : outstanding h2 - bytes_in cs ≡ outstanding h = omega (arith, x, y) in
      record {
        calls = Ended id (bytes_in cs) ∷ h2;
        from = next m h2 s.ended (Ended id (bytes_in cs)) v fits f2 s.is;
        plain = (refl, last_plain last h1 (chunks_plain cs (b ∷ h) (refl, plain)));
        same = out;
        stays = λ e i. inr (last_stay last h1 e (chunks_stay cs (b ∷ h) e (inr i)));
      }

-- ---- payloads that are written

entries_out : (es : List Entry) (h : List Event) → outstanding (with_entries es h) ≡ outstanding h
entries_out [] h = refl
entries_out (e ∷ es) h = entries_out es (LeftPending e.kind e.frame ∷ h)

entries_plain : (es : List Entry) (h : List Event) → ArePlain h → ArePlain (with_entries es h)
entries_plain [] h p = p
entries_plain (e ∷ es) h p = entries_plain es (LeftPending e.kind e.frame ∷ h) (refl, p)

entries_stay : (es : List Entry) (h : List Event) (x : Event) → IsOneOf x h → IsOneOf x (with_entries es h)
entries_stay [] h x i = i
entries_stay (e ∷ es) h x i = entries_stay es (LeftPending e.kind e.frame ∷ h) x (inr i)

module _ (most : ℕ) (fair : Bool) where
  turns_out : (ts : List (Option StreamMeta)) (h : List Event) → outstanding (with_turns most fair ts h) ≡ outstanding h
  turns_out [] h = refl
  turns_out (t ∷ ts) h = turns_out ts (Sending (TookTurn most fair t) ∷ h)

  turns_plain : (ts : List (Option StreamMeta)) (h : List Event) → ArePlain h → ArePlain (with_turns most fair ts h)
  turns_plain [] h p = p
  turns_plain (t ∷ ts) h p = turns_plain ts (Sending (TookTurn most fair t) ∷ h) (refl, p)

  turns_stay : (ts : List (Option StreamMeta)) (h : List Event) (x : Event) → IsOneOf x h → IsOneOf x (with_turns most fair ts h)
  turns_stay [] h x i = i
  turns_stay (t ∷ ts) h x i = turns_stay ts (Sending (TookTurn most fair t) ∷ h) x (inr i)

runs_control : (m : Made) (most : ℕ) (e f : EndState) (answer : Result (Unit {0}) OutOfMemory) (bytes : List ℕ) (sent : Pending) → EmitsKinds most e answer f bytes sent → Runs m e.streams f.streams
runs_control m most e f answer bytes sent k h from plain =
    let w = k.from in
    record { calls = with_entries w.entries h; from = w.from m h from; plain = entries_plain w.entries h plain; same = entries_out w.entries h; stays = entries_stay w.entries h }

runs_streams : (m : Made) (most : ℕ) (fair : Bool) (e f : EndState) (answer : Result (Unit {0}) OutOfMemory) (bytes : List ℕ) (payload : PayloadView) → EmitsStreams most fair e bytes answer f payload → Runs m e.streams f.streams
runs_streams m most fair e f answer bytes payload k h from plain =
    let w = k.from in
    record { calls = with_turns most fair w.turns h; from = w.from m h from; plain = turns_plain most fair w.turns h plain; same = turns_out most fair w.turns h; stays = turns_stay most fair w.turns h }

pub runs-emits : {most : ℕ} {fair : Bool} {e f : EndState} {payload : PayloadView} {answer : Result (Unit {0}) OutOfMemory} (m : Made) → EmitsSomeAt most fair e payload answer f → Runs m e.streams f.streams
runs-emits {most} {fair} {e} {f} {payload} m (whole {answer} between bytes c d) =
    runs-then m e.streams between.streams f.streams (runs_control m most e between (Ok tt) bytes (control_in payload) c) (runs_streams m most fair between f answer bytes payload d)
runs-emits {most} {fair} {e} {f} {payload} m (cut {first} between bytes c d) =
    runs-at m e.streams f.streams between.streams (ap (λ (x : EndState). x.streams) d.same) (runs_control m most e between first bytes (control_in payload) c)

-- ---- reports

each_lost : (m : Made) (ms : List StreamMeta) (u v : World) → EachInOrder LosesMeta u ms v → Runs m u v
each_lost m [] u v e = runs-at m u v u e (runs-same m u)
each_lost m (x ∷ xs) u v e = runs-then m u e.0 v (runs-call m u e.0 (Sending (LostOwn x.id x.offsets x.fin (Ok tt))) tt e.1) (each_lost m xs e.0 v e.2)

each_acked : (m : Made) (ms : List StreamMeta) (u v : World) → EachInOrder AcksMeta u ms v → Runs m u v
each_acked m [] u v e = runs-at m u v u e (runs-same m u)
each_acked m (x ∷ xs) u v e = runs-then m u e.0 v (runs-call m u e.0 (Sending (AckedOwn x.id x.offsets x.fin (Ok tt))) tt e.1) (each_acked m xs e.0 v e.2)

each_reset : (m : Made) (rs : List (ℕ × ℕ)) (u v : World) → EachInOrder AcksResetOf u rs v → Runs m u v
each_reset m [] u v e = runs-at m u v u e (runs-same m u)
each_reset m (x ∷ xs) u v e = runs-then m u e.0 v (runs-call m u e.0 (Sending (ResetAckedOwn x.0 (Ok tt))) tt e.1) (each_reset m xs e.0 v e.2)

pub runs-lost : (m : Made) (u v : World) (p q : Pending) (sent : SentView) (answer : Result (Unit {0}) SentView) → LosesWhole u p sent answer v q → Runs m u v
runs-lost m u v p q sent (Ok x) d = each_lost m sent.streams u v d.0
runs-lost m u v p q sent (Err back) d = elim d.0 [ inl a ↦ each_lost m a.frames.told u v a.frames.reports | inr c ↦ each_lost m sent.streams u v c.frames ]

pub runs-acked : (m : Made) (u v : World) (sent : SentView) (answer : Result (Unit {0}) SentView) → AcksWhole u sent answer v → Runs m u v
runs-acked m u v sent (Ok x) d = runs-then m u d.0 v (each_acked m sent.streams u d.0 d.1) (each_reset m (resets_of sent.control) d.0 v d.2)
runs-acked m u v sent (Err back) d = elim d [
  | inl a ↦ each_acked m a.frames.told u v a.frames.reports
  | inr r ↦ runs-then m u r.between v (each_acked m sent.streams u r.between r.frames) (each_reset m r.resets.told r.between v r.resets.reports)
]

-- ---- frames that are handed over

pub runs-frame : (m : Made) (u v : World) (frame : Frame) (answer : Result ShouldTransmit ReceiveError) → MakesCall u (event_of frame answer) v → Runs m u v
runs-frame m u v (frames.Stream g) answer s = runs-call m u v (Received g.id g.offset g.bytes g.fin answer) tt s
runs-frame m u v (frames.ResetStream g) answer s = runs-call m u v (ReceivedReset g.id g.error_code g.final_offset answer) tt s
runs-frame m u v (frames.StopSending g) answer s = runs-call m u v (Sending (StoppedOwn g.id g.error_code (stopped_so answer))) tt s
runs-frame m u v (frames.MaxData limit) answer s = runs-call m u v (Sending (RaisedData limit)) tt s
runs-frame m u v (frames.MaxStreamData id limit) answer s = runs-call m u v (Sending (RaisedLimit id limit (done_so answer))) tt s
runs-frame m u v (frames.MaxStreams dir count) answer s = runs-call m u v (Sending (RaisedCount dir count (done_so answer))) tt s
runs-frame m u v _ answer s = runs-at m u v u s (runs-same m u)
