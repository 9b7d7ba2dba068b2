-- A pair, once the application of an end stopped a stream, asked for the code of a reset, or read.
use Rattle.std.proofs.Common.{◌≡◌, ◌⊎◌, ℕ, Bool, true, false, eqb, List, [], ◌∷◌, Some, None, Result, Ok, Err, Option, refl, sym, ap, ◌∙◌, subst, inl, inr}
use Rattle.std.specs.Prelude.{if◌then◌else◌}
use Rattle.std.specs.List.{concat}
use Rattle.quic_assembler.specs.declared.chunk.Chunk.{Chunk}
use Rattle.quic_sending.specs.declared.errors.HandleError.{HandleError}
use Rattle.quic_sending.specs.declared.errors.HandleError.TheVariants as handle_error
use Rattle.quic_receiving.specs.declared.errors.ReadableError.{ReadableError}
use Rattle.quic_receiving.specs.declared.errors.ReadableError.TheVariants as readable_error
use Rattle.quic_receiving.specs.declared.errors.ReadError.TheVariants as read_error
use Rattle.quic_retransmits.specs.Pending.{Pending, nothing}
use Rattle.quic_flows.specs.Flow.{SendFlow}
use Rattle.quic_streams.specs.declared.batches.ReadSome.{ReadSome}
use Rattle.quic_history.specs.World.{World, Made}
use Rattle.quic_history.specs.declared.progress.LastAnswer.{LastAnswer}
use Rattle.quic_history.specs.declared.progress.LastAnswer.TheVariants as last_answer
use Rattle.quic_history.specs.Acknowledged.{was_given}
use Rattle.quic_history.specs.Receiving.{with_max_streams}
use Rattle.quic_history.specs.Reading.{ReadsSome, pending_stopped, pending_after, progress_of, bytes_in}
use Rattle.quic_history.specs.SendEvents.{OpenedOwn, StoppedOwn}
use Rattle.quic_history.specs.History.{Event, Received, ReceivedReset, Accepted, Sending, Began, Gave, Ended, Stopped, ToldReset, Trace, trace, flow, with_chunks, with_last, with_reads, with_stop}
use Rattle.quic_history.proofs.Traces.{itself}
use Rattle.quic_link.specs.Endpoints.{LinkedEnd, Linked, acted, IsOneOf, WasGiven, WasStoppedWith, sent_on, came_on}
use Rattle.quic_link.specs.Promises.{WasReadUnordered}
use Rattle.quic_link.proofs.Ends.{Comes}
use Rattle.quic_link.proofs.Given.{given-more}
use Rattle.quic_link.proofs.Growth.{Grows, grows-refl}
use Rattle.quic_link.proofs.Readings.{GoesOn, goes-call, called, chunks-linked, reads-linked, asked-read, asked-stopped, asked-streams}
use Rattle.quic_link.proofs.AskedFor.{asked-nothing, asked-window}
use Rattle.quic_link.proofs.Joint.{agrees}
use Rattle.quic_link.proofs.Promised.{promised}
use Rattle.quic_endpoint.specs.Ends.{EndState, with_counts_told, with_counts_told_if, not_for_memory, StopsReading, TellsResetAt, ReadsAt, RefusesRead}
use Rattle.quic_steps.specs.declared.steps.End.{End}
use Rattle.quic_steps.specs.declared.steps.Step.TheVariants as steps
use Rattle.quic_steps.specs.declared.steps.Last.TheVariants as last_read
use Rattle.quic_exchange.specs.Replies.{Answer, handled_reply, code_reply, read_reply, last_of}
use Rattle.quic_exchange.specs.Calls.{OnGiven, StopsOn as StopsAt, AsksReset, ReadsOn, ReadsSo}
use Rattle.quic_exchange.specs.State.{PairState, OnEnd, peer, the_end, with_end}
use Rattle.quic_exchange.specs.History.{Past, Flow, with_flow, after, past_stop, past_code, past_read, stops_with, tells_reset, reads_last, reads_chunks, with_chunks_read}
use Rattle.quic_exchange.proofs.Joined.{Seen, Sees}
use Rattle.quic_exchange.proofs.KeptFrames.{kept_in, hears-call}
use Rattle.quic_exchange.proofs.CallsFlows.{Onward, onward-call, FlowKnown, SendsSame, ReadsSame, known-second, known-reset, whole-second}
use Rattle.quic_exchange.proofs.Gives.{GaveNone, gave-none}
use Rattle.quic_exchange.proofs.CallsSeen.{Called, called-once, quiet-accepts, sees-read, sees-quiet, sees-idle, sends-same}
use Rattle.quic_exchange.proofs.CallsSetting.{asked-same, told-streams, asked-told, may-act, on-given, given-here}

-- ---- what is told of streams

-- what is kept of a trace, whichever of two it is
kept_if : (k : Bool) (t t' : Trace) → t'.given ≡ t.given → t'.ended ≡ t.ended → ((if k then t' else t).given ≡ t.given) × ((if k then t' else t).ended ≡ t.ended)
kept_if true t t' g e = (g, e)
kept_if false t t' g e = (refl, refl)

-- a call that is none of several
other_event : (Is : Event → Type 0) (e k : Event) (h : List Event) → Is e → (Is k → ⊥) → IsOneOf e (k ∷ h) → IsOneOf e h
other_event Is e k h is none (inl i) = absurd (none (subst Is i is))
other_event Is e k h is none (inr old) = old

-- another id
other_id : (q id : ℕ) → q ≡ id → eqb q id ≡ false → ⊥
other_id q id i n = let m : eqb q id ≡ true = ap (λ (j : ℕ). eqb q j) (sym i) ∙ itself q in let l = sym m ∙ n in cc

-- ---- a stop

module _ (x y : LinkedEnd) (id code : ℕ) (v : World) where
  stopped_others : (q : ℕ) → eqb q id ≡ false → ReadsSame x (acted x (Stopped id code (Ok tt)) v) q
  stopped_others q n =
      let kept = kept_if (eqb q id) (came_on x q) (with_stop (came_on x q)) refl refl in
      record {
        given = kept.0;
        ended = kept.1;
        stops = λ c h. elim h [
          | inl k ↦ absurd (let i : q ≡ id = cc in other_id q id i n)
          | inr old ↦ old
        ];
        modes = λ h. elim h [ inl k ↦ cc | inr old ↦ old ];
      }

  known_stopped : (f : Flow) → Onward x y (acted x (Stopped id code (Ok tt)) v) → FlowKnown f y x id → FlowKnown (stops_with code f) y (acted x (Stopped id code (Ok tt)) v) id
  known_stopped f o k =
      let z = acted x (Stopped id code (Ok tt)) v in
      let kept = kept_if (eqb id id) (came_on x id) (with_stop (came_on x id)) refl refl in
      record {
        written = k.written;
        finished = k.finished;
        resets = k.resets;
        stops = λ c h. elim h [
          | inl e ↦ inl (let i : c ≡ code = cc in i)
          | inr old ↦ inr (k.stops c old)
        ];
        given = kept.0 ∙ k.given;
        ended = kept.1 ∙ k.ended;
        unordered = λ h. elim h [ inl e ↦ cc | inr old ↦ k.unordered old ];
        told_resets = k.told_resets;
        told_stops = λ c h. o.calls _ (k.told_stops c h);
        complete = λ h. whole-second x y z o id (k.complete h);
      }

-- ---- the code of a reset

-- a call that asks for none
abbrev IsNoQuestion : Event → Type 0
IsNoQuestion (ToldReset id answer) = ⊥
IsNoQuestion _ = Unit {0}

told_same : (x : LinkedEnd) (id code : ℕ) (v : World) (q : ℕ) → ReadsSame x (acted x (ToldReset id (Ok (Some code))) v) q
told_same x id code v q =
    let kept = kept_if (eqb q id) (came_on x q) (record (came_on x q) { gone = true }) refl refl in
    record {
      given = kept.0;
      ended = kept.1;
      stops = λ c h. other_event IsNoQuestion (Stopped q c (Ok tt)) (ToldReset id (Ok (Some code))) x.calls tt (λ n. n) h;
      modes = λ h. other_event IsNoQuestion (Began q false (Ok tt)) (ToldReset id (Ok (Some code))) x.calls tt (λ n. n) h;
    }

-- ---- reads

-- a call that neither gives chunks nor ends a reader
abbrev IsNoGift : Event → Type 0
IsNoGift (Gave id most ordered answer) = ⊥
IsNoGift (Ended id count) = ⊥
IsNoGift _ = Unit {0}

-- one that is none of a reader
abbrev IsNoRead : Event → Type 0
IsNoRead (Began id ordered answer) = ⊥
IsNoRead (Gave id most ordered answer) = ⊥
IsNoRead (Ended id count) = ⊥
IsNoRead _ = Unit {0}

no_gift : (e : Event) → IsNoRead e → IsNoGift e
no_gift (Gave id most ordered answer) w = w
no_gift (Ended id count) w = w
no_gift _ w = tt

-- a stream was read as bytes come, where it was before or is now
mode_read : (ordered was : Bool) → (was ≡ true) ⊎ (false ≡ ordered) → (if ordered then was else true) ≡ true
mode_read true was (inl e) = e
mode_read true was (inr e) = cc
mode_read false was e = refl

module _ (id most : ℕ) (ordered : Bool) where
  pub chunks-calls : (cs : List Chunk) (h : List Event) (e : Event) → IsOneOf e h → IsOneOf e (with_chunks id most ordered cs h)
  chunks-calls [] h e k = k
  chunks-calls (c ∷ cs) h e k = chunks-calls cs (Gave id most ordered (Ok (Some c)) ∷ h) e (inr k)

  last_calls : (last : LastAnswer) (h : List Event) (e : Event) → IsOneOf e h → IsOneOf e (with_last id most ordered last h)
  last_calls last_answer.Blocked h e k = inr k
  last_calls last_answer.Ended h e k = inr k
  last_calls (last_answer.Reset code) h e k = inr k
  last_calls last_answer.Memory h e k = inr k
  last_calls last_answer.More h e k = k

  -- the calls before stay
  reads_calls : (cs : List Chunk) (last : LastAnswer) (h : List Event) (e : Event) → IsOneOf e h → IsOneOf e (with_reads id most ordered cs last h)
  reads_calls cs last h e k =
      let b = Began id ordered (Ok tt) ∷ h in
      inr (last_calls last (with_chunks id most ordered cs b) e (chunks-calls cs b e (inr k)))

  chunks_back : (cs : List Chunk) (h : List Event) (e : Event) → IsNoGift e → IsOneOf e (with_chunks id most ordered cs h) → IsOneOf e h
  chunks_back [] h e w k = k
  chunks_back (c ∷ cs) h e w k =
      let g = Gave id most ordered (Ok (Some c)) in
      other_event IsNoGift e g h w (λ n. n) (chunks_back cs (g ∷ h) e w k)

  last_back : (last : LastAnswer) (h : List Event) (e : Event) → IsNoGift e → IsOneOf e (with_last id most ordered last h) → IsOneOf e h
  last_back last_answer.Blocked h e w k = other_event IsNoGift e (Gave id most ordered (Err read_error.Blocked)) h w (λ n. n) k
  last_back last_answer.Ended h e w k = other_event IsNoGift e (Gave id most ordered (Ok None)) h w (λ n. n) k
  last_back (last_answer.Reset code) h e w k = other_event IsNoGift e (Gave id most ordered (Err (read_error.Reset code))) h w (λ n. n) k
  last_back last_answer.Memory h e w k = other_event IsNoGift e (Gave id most ordered (Err read_error.OutOfMemory)) h w (λ n. n) k
  last_back last_answer.More h e w k = k

  -- and reads add none but of a reader
  reads_begun : (cs : List Chunk) (last : LastAnswer) (h : List Event) (e : Event) → IsNoGift e → IsOneOf e (with_reads id most ordered cs last h) → IsOneOf e (Began id ordered (Ok tt) ∷ h)
  reads_begun cs last h e w k =
      let b = Began id ordered (Ok tt) in
      let all = with_chunks id most ordered cs (b ∷ h) in
      let with_all = with_last id most ordered last all in
      chunks_back cs (b ∷ h) e w (last_back last all e w (other_event IsNoGift e (Ended id (bytes_in cs)) with_all w (λ n. n) k))

  pub reads-back : (cs : List Chunk) (last : LastAnswer) (h : List Event) (e : Event) → IsNoRead e → IsOneOf e (with_reads id most ordered cs last h) → IsOneOf e h
  reads-back cs last h e w k = other_event IsNoRead e (Began id ordered (Ok tt)) h w (λ n. n) (reads_begun cs last h e (no_gift e w) k)

  -- no frame is kept by them
  chunks_kept : (cs : List Chunk) (h : List Event) (q : ℕ) → kept_in (with_chunks id most ordered cs h) q ≡ kept_in h q
  chunks_kept [] h q = refl
  chunks_kept (c ∷ cs) h q = chunks_kept cs (Gave id most ordered (Ok (Some c)) ∷ h) q

  last_kept : (last : LastAnswer) (h : List Event) (q : ℕ) → kept_in (with_last id most ordered last h) q ≡ kept_in h q
  last_kept last_answer.Blocked h q = refl
  last_kept last_answer.Ended h q = refl
  last_kept (last_answer.Reset code) h q = refl
  last_kept last_answer.Memory h q = refl
  last_kept last_answer.More h q = refl

  reads_kept : (cs : List Chunk) (last : LastAnswer) (h : List Event) (q : ℕ) → kept_in (with_reads id most ordered cs last h) q ≡ kept_in h q
  reads_kept cs last h q = let b = Began id ordered (Ok tt) ∷ h in last_kept last (with_chunks id most ordered cs b) q ∙ chunks_kept cs b q

  -- nothing is sent by them
  chunks_flow : (m : Made) (cs : List Chunk) (h : List Event) (q : ℕ) → flow m (with_chunks id most ordered cs h) q ≡ flow m h q
  chunks_flow m [] h q = refl
  chunks_flow m (c ∷ cs) h q = chunks_flow m cs (Gave id most ordered (Ok (Some c)) ∷ h) q

  last_flow : (m : Made) (last : LastAnswer) (h : List Event) (q : ℕ) → flow m (with_last id most ordered last h) q ≡ flow m h q
  last_flow m last_answer.Blocked h q = refl
  last_flow m last_answer.Ended h q = refl
  last_flow m (last_answer.Reset code) h q = refl
  last_flow m last_answer.Memory h q = refl
  last_flow m last_answer.More h q = refl

  reads_flow : (m : Made) (cs : List Chunk) (last : LastAnswer) (h : List Event) (q : ℕ) → flow m (with_reads id most ordered cs last h) q ≡ flow m h q
  reads_flow m cs last h q = let b = Began id ordered (Ok tt) ∷ h in last_flow m last (with_chunks id most ordered cs b) q ∙ chunks_flow m cs b q

  -- nor told of another stream
  chunks_other : (cs : List Chunk) (h : List Event) (q : ℕ) → eqb q id ≡ false → trace (with_chunks id most ordered cs h) q ≡ trace h q
  chunks_other [] h q n = refl
  chunks_other (c ∷ cs) h q n = chunks_other cs (Gave id most ordered (Ok (Some c)) ∷ h) q n ∙ rw n refl

  last_other : (last : LastAnswer) (h : List Event) (q : ℕ) → eqb q id ≡ false → trace (with_last id most ordered last h) q ≡ trace h q
  last_other last_answer.Blocked h q n = rw n refl
  last_other last_answer.Ended h q n = rw n refl
  last_other (last_answer.Reset code) h q n = rw n refl
  last_other last_answer.Memory h q n = rw n refl
  last_other last_answer.More h q n = refl

  reads_other : (cs : List Chunk) (last : LastAnswer) (h : List Event) (q : ℕ) → eqb q id ≡ false → trace (with_reads id most ordered cs last h) q ≡ trace h q
  reads_other cs last h q n = let b = Began id ordered (Ok tt) ∷ h in last_other last (with_chunks id most ordered cs b) q n ∙ chunks_other cs b q n

  -- the chunks are given in their order
  pub chunks-given : (cs : List Chunk) (h : List Event) → (trace (with_chunks id most ordered cs h) id).given ≡ with_chunks_read ordered cs (trace h id).given
  chunks-given [] h = refl
  chunks-given (c ∷ cs) h =
      let g = Gave id most ordered (Ok (Some c)) ∷ h in
      chunks-given cs g ∙ ap (with_chunks_read ordered cs) (rw (itself id) refl)

  chunks_ended : (cs : List Chunk) (h : List Event) → (trace (with_chunks id most ordered cs h) id).ended ≡ (trace h id).ended
  chunks_ended [] h = refl
  chunks_ended (c ∷ cs) h = chunks_ended cs (Gave id most ordered (Ok (Some c)) ∷ h) ∙ rw (itself id) refl

  last_given : (last : LastAnswer) (h : List Event) → (trace (with_last id most ordered last h) id).given ≡ (trace h id).given
  last_given last_answer.Blocked h = rw (itself id) refl
  last_given last_answer.Ended h = rw (itself id) refl
  last_given (last_answer.Reset code) h = rw (itself id) refl
  last_given last_answer.Memory h = rw (itself id) refl
  last_given last_answer.More h = refl

  reads_given : (cs : List Chunk) (last : LastAnswer) (h : List Event) → (trace (with_reads id most ordered cs last h) id).given ≡ with_chunks_read ordered cs (trace h id).given
  reads_given cs last h = let b = Began id ordered (Ok tt) ∷ h in last_given last (with_chunks id most ordered cs b) ∙ chunks-given cs b

  -- and the end is told where one tells it
  abbrev ended_by : LastAnswer → Bool → Bool
  ended_by last_answer.Ended was = true
  ended_by _ was = was

  last_ended : (last : LastAnswer) (h : List Event) → (trace (with_last id most ordered last h) id).ended ≡ ended_by last (trace h id).ended
  last_ended last_answer.Blocked h = rw (itself id) refl
  last_ended last_answer.Ended h = rw (itself id) refl
  last_ended (last_answer.Reset code) h = rw (itself id) refl
  last_ended last_answer.Memory h = rw (itself id) refl
  last_ended last_answer.More h = refl

  reads_ended : (cs : List Chunk) (last : LastAnswer) (h : List Event) → (trace (with_reads id most ordered cs last h) id).ended ≡ ended_by last (trace h id).ended
  reads_ended cs last h = let b = Began id ordered (Ok tt) ∷ h in last_ended last (with_chunks id most ordered cs b) ∙ ap (ended_by last) (chunks_ended cs b)

-- what is told last is true
abbrev IsTrueLast : LinkedEnd → ℕ → LastAnswer → Type 0
IsTrueLast y id (last_answer.Reset code) = (sent_on y id).reset ≡ Some code
IsTrueLast y id _ = Unit {0}

true_last : (x y : LinkedEnd) (id most times : ℕ) (ordered : Bool) (p q : Pending) (cs : List Chunk) (last : LastAnswer) (transmit : Bool) (v : World) → Linked x y → ReadsSome x.world id most times ordered p cs last transmit v q → IsTrueLast y id last
true_last x y id most times ordered p q cs (last_answer.Reset code) transmit v l s =
    let b = Began id ordered (Ok tt) in
    let begun : GoesOn x y (called x (b ∷ x.calls) s.opened) = goes-call x y b s.opened l (record { fits = tt; honest = tt; step = s.begins }) in
    let read : GoesOn x y (called x (with_chunks id most ordered cs (b ∷ x.calls)) s.read) = chunks-linked x y id most ordered cs (b ∷ x.calls) s.opened s.read begun s.gives in
    (promised read.linked).0.answers (Gave id most ordered (Err (read_error.Reset code))) s.ended (record { fits = tt; honest = tt; step = s.last_reads })
true_last x y id most times ordered p q cs last_answer.Blocked transmit v l s = tt
true_last x y id most times ordered p q cs last_answer.Ended transmit v l s = tt
true_last x y id most times ordered p q cs last_answer.Memory transmit v l s = tt
true_last x y id most times ordered p q cs last_answer.More transmit v l s = tt

-- a stream that was given stays so
given_still : (x y z : LinkedEnd) (id : ℕ) → GoesOn x y z → WasGiven x.world id → WasGiven z.world id
given_still x y z id g k = (g.asked _ (asked-window x nothing id true k (asked-nothing x))).windows id (itself id)

module _ (x y : LinkedEnd) (id most times : ℕ) (ordered : Bool) (cs : List Chunk) (last : LastAnswer) (v : World) where
  -- the end once it read
  abbrev read_end : LinkedEnd
  read_end = called x (with_reads id most ordered cs last x.calls) v

  reads_onward : GoesOn x y read_end → Onward x y read_end
  reads_onward g = record {
    linked = g.linked;
    made = refl;
    wrote = λ w h. h;
    calls = λ e h. reads_calls id most ordered cs last x.calls e h;
    grown = λ q. let P : SendFlow → Type 0 = λ t. Grows (sent_on x q) t in subst P (sym (reads_flow id most ordered x.made cs last x.calls q)) (grows-refl (sent_on x q));
    asked = g.asked;
  }

  reads_send : (q : ℕ) → SendsSame x read_end q
  reads_send q =
      let k : sent_on read_end q ≡ sent_on x q = reads_flow id most ordered x.made cs last x.calls q in
      record { written = ap (λ (t : SendFlow). concat t.cuts) k; finished = ap (λ (t : SendFlow). t.finished) k; reset = ap (λ (t : SendFlow). t.reset) k }

  reads_stops : (q code : ℕ) → WasStoppedWith read_end.calls q code → WasStoppedWith x.calls q code
  reads_stops q code h = reads-back id most ordered cs last x.calls (Stopped q code (Ok tt)) tt h

  reads_gave_none : GaveNone x read_end
  reads_gave_none q (inl o) = inl (o.0, o.1, reads-back id most ordered cs last x.calls (Sending (OpenedOwn o.0 o.1 (Ok (Some q)))) tt o.2)
  reads_gave_none q (inr o) = inr (o.0, reads-back id most ordered cs last x.calls (Accepted o.0 (Some q)) tt o.1)

  reads_others : (q : ℕ) → eqb q id ≡ false → ReadsSame x read_end q
  reads_others q n =
      let k : came_on read_end q ≡ came_on x q = reads_other id most ordered cs last x.calls q n in
      record { given = ap (λ (t : Trace). t.given) k; ended = ap (λ (t : Trace). t.ended) k; stops = reads_stops q; modes = modes }
    where
      modes : WasReadUnordered read_end.calls q → WasReadUnordered x.calls q
      modes h = elim (reads_begun id most ordered cs last x.calls (Began q false (Ok tt)) tt h) [
        | inl e ↦ absurd (let i : q ≡ id = cc in other_id q id i n)
        | inr old ↦ old
      ]

  module _ (f : Flow) (o : Onward x y read_end) (k : FlowKnown f y x id) where
    known_mode : WasReadUnordered read_end.calls id → (if ordered then f.unordered else true) ≡ true
    known_mode h = elim (reads_begun id most ordered cs last x.calls (Began id false (Ok tt)) tt h) [
      | inl e ↦ mode_read ordered f.unordered (inr (let i : false ≡ ordered = cc in i))
      | inr old ↦ mode_read ordered f.unordered (inl (k.unordered old))
    ]

    known_chunks : (came_on read_end id).ended ≡ (came_on x id).ended → FlowKnown (reads_chunks ordered cs f) y read_end id
    known_chunks e = record {
      written = k.written;
      finished = k.finished;
      resets = k.resets;
      stops = λ c h. k.stops c (reads_stops id c h);
      given = reads_given id most ordered cs last x.calls ∙ ap (with_chunks_read ordered cs) k.given;
      ended = e ∙ k.ended;
      unordered = known_mode;
      told_resets = k.told_resets;
      told_stops = λ c h. o.calls _ (k.told_stops c h);
      complete = λ h. whole-second x y read_end o id (k.complete h);
    }

    known_end : (came_on read_end id).ended ≡ true → FlowKnown (reads_last last_read.Ended (reads_chunks ordered cs f)) y read_end id
    known_end e = record {
      written = k.written;
      finished = k.finished;
      resets = k.resets;
      stops = λ c h. k.stops c (reads_stops id c h);
      given = reads_given id most ordered cs last x.calls ∙ ap (with_chunks_read ordered cs) k.given;
      ended = e;
      unordered = known_mode;
      told_resets = k.told_resets;
      told_stops = λ c h. o.calls _ (k.told_stops c h);
      complete = λ h. whole-second x y read_end o id (k.complete h);
    }

    known_read : (told : LastAnswer) → (came_on read_end id).ended ≡ ended_by id most ordered told (came_on x id).ended → IsTrueLast y id told → FlowKnown (reads_last (last_of told) (reads_chunks ordered cs f)) y read_end id
    known_read last_answer.Blocked e t = known_chunks e
    known_read last_answer.Ended e t = known_end e
    known_read (last_answer.Reset code) e t = known-reset (reads_chunks ordered cs f) y read_end id (known_chunks e) code t
    known_read last_answer.Memory e t = known_chunks e
    known_read last_answer.More e t = known_chunks e

-- ---- calls

module _ (p : Past) (who : End) (old new : PairState) (x y : LinkedEnd) (s : Seen p who old x y) (f : EndState) (now : new ≡ with_end old who f) (id : ℕ) where
  comes : Comes x
  comes = ((agrees s.linked).0).comes

  -- a call that was refused, or found nothing
  handled_idle : (told : Bool) (k : EndState) → k.streams ≡ (the_end old who).streams → k.pending ≡ (the_end old who).pending → f ≡ with_counts_told_if told k → Sees p who new x y
  handled_idle told k w q is =
      sees-idle p who old new x y f s (ap (λ (j : EndState). j.streams) is ∙ told-streams told k ∙ w)
      (asked-same x (with_counts_told_if told k).pending f.pending (ap (λ (j : EndState). j.pending) is) (asked-told x told k (asked-same x (the_end old who).pending k.pending q s.here.pending))) now

  module _ (given : was_given (the_end old who).streams id ≡ true) (code : ℕ) where
    stopped_one : (u : Unit {0}) → StopsReading (the_end old who) id code (Ok u) f → Sees (with_flow (peer who) id (stops_with code) p) who new x y
    stopped_one u d =
        let e = Stopped id code (Ok tt) in
        let v = d.stopped.streams in
        let p0 = (the_end old who).pending in
        let a = may-act p who old new x y s e v tt tt (p0, d.stopped.pending, d.stops) in
        let z = acted x e v in
        let o = onward-call x y e v s.linked a in
        let asked = asked-stopped z v d.stops.0 id code p0 (inl refl) (given-more x y e v comes a id (given-here p who old new x y s id given)) (o.asked p0 s.here.pending) in
        let told = asked-told z true d.stopped (asked-same z (pending_stopped v d.stops.0 id code p0) d.stopped.pending d.stops.7 asked) in
        let c = called-once who old new x y e v f o (ap (λ (k : EndState). k.streams) d.is ∙ told-streams true d.stopped) (asked-same z (with_counts_told d.stopped).pending f.pending (ap (λ (k : EndState). k.pending) d.is) told) now (hears-call x e v tt) in
        sees-read p who old new x y z s c (gave-none x e v tt) id (stops_with code) (sends-same x y e v a refl refl) (stopped_others x y id code v) (λ k. known_stopped x y id code v (p.flow (peer who) id) o k)

    stopped_any : (answer : Result (Unit {0}) HandleError) → StopsReading (the_end old who) id code answer f → Sees (past_stop p who id code (handled_reply answer)) who new x y
    stopped_any (Ok u) d = stopped_one u d
    stopped_any (Err handle_error.ClosedStream) d = handled_idle true d.stopped d.stops.1 d.stops.2 d.is
    stopped_any (Err handle_error.OutOfMemory) d = handled_idle false d.stopped d.stops.0 d.stops.1 d.is

  told_one : (code : ℕ) → TellsResetAt (the_end old who) id (Ok (Some code)) f → Sees (with_flow (peer who) id (tells_reset code) p) who new x y
  told_one code d =
      let e = ToldReset id (Ok (Some code)) in
      let v = d.asked.streams in
      let p0 = (the_end old who).pending in
      let a = may-act p who old new x y s e v tt tt (p0, d.asked.pending, d.tells) in
      let z = acted x e v in
      let o = onward-call x y e v s.linked a in
      let told = asked-told z true d.asked (asked-same z (with_max_streams v p0) d.asked.pending d.tells.5 (asked-streams z v p0 (o.asked p0 s.here.pending))) in
      let c = called-once who old new x y e v f o (ap (λ (k : EndState). k.streams) d.is ∙ told-streams true d.asked) (asked-same z (with_counts_told d.asked).pending f.pending (ap (λ (k : EndState). k.pending) d.is) told) now (quiet-accepts x e v tt) in
      sees-read p who old new x y z s c (gave-none x e v tt) id (tells_reset code) (sends-same x y e v a refl refl) (λ q n. told_same x id code v q)
      (λ k. known-reset (p.flow (peer who) id) y z id (known-second x y z o id (p.flow (peer who) id) (told_same x id code v id) k) code ((promised s.linked).0.answers e v a))

  told_any : (answer : Result (Option ℕ) HandleError) → TellsResetAt (the_end old who) id answer f → Sees (past_code p who id (code_reply answer)) who new x y
  told_any (Ok (Some code)) d = told_one code d
  told_any (Ok None) d = handled_idle true d.asked d.tells.4 d.tells.5 d.is
  told_any (Err handle_error.ClosedStream) d = handled_idle true d.asked d.tells.1 d.tells.2 d.is
  told_any (Err handle_error.OutOfMemory) d = handled_idle false d.asked d.tells.3 d.tells.4 d.is

  module _ (given : was_given (the_end old who).streams id ≡ true) (ordered : Bool) (most times : ℕ) where
    read_some : (cs : List Chunk) (last : LastAnswer) (transmit : Bool) → ReadsAt (the_end old who) id most times ordered cs last transmit f
        → Sees (with_flow (peer who) id (λ k. reads_last (last_of last) (reads_chunks ordered cs k)) p) who new x y
    read_some cs last transmit d =
        let p0 = (the_end old who).pending in
        let v = d.read.streams in
        let reads : ReadsSome x.world id most times ordered p0 cs last transmit v d.read.pending =
        let P : World → Type 0 = λ w. ReadsSome w id most times ordered p0 cs last transmit v d.read.pending in subst P (sym s.here.world) d.reads in
        let z = called x (with_reads id most ordered cs last x.calls) v in
        let g : GoesOn x y z = reads-linked x y id most times ordered p0 d.read.pending cs last transmit v s.linked reads in
        let o = reads_onward x y id most times ordered cs last v g in
        let after_reads = pending_after (progress_of last) reads.ended id (bytes_in cs) p0 in
        let asked = asked-read z (progress_of last) reads.ended id (bytes_in cs) p0 (given_still x y z id g (given-here p who old new x y s id given)) (g.asked p0 s.here.pending) in
        let told = asked-told z true d.read (asked-same z after_reads d.read.pending reads.pending asked) in
        let c : Called who old new x y z = record {
          onward = o;
          quiet = record {
            accepts = λ q offset bytes fin sent h. reads-back id most ordered cs last x.calls (Received q offset bytes fin (Ok sent)) tt h;
            keeps = λ q. reads_kept id most ordered cs last x.calls q;
            resets = λ q code final sent h. reads-back id most ordered cs last x.calls (ReceivedReset q code final (Ok sent)) tt h;
            stops = λ q code h. reads-back id most ordered cs last x.calls (Sending (StoppedOwn q code (Ok tt))) tt h;
          };
          end = f;
          stands = record {
            world = sym (ap (λ (k : EndState). k.streams) d.is);
            pending = asked-same z (with_counts_told d.read).pending f.pending (ap (λ (k : EndState). k.pending) d.is) told;
          };
          is = now;
        } in
        sees-read p who old new x y z s c (reads_gave_none x y id most times ordered cs last v) id (λ k. reads_last (last_of last) (reads_chunks ordered cs k)) (reads_send x y id most times ordered cs last v) (reads_others x y id most times ordered cs last v)
        (λ k. known_read x y id most times ordered cs last v (p.flow (peer who) id) o k last (reads_ended id most ordered cs last x.calls) (true_last x y id most times ordered p0 d.read.pending cs last transmit v s.linked reads))

    read_none : (error : ReadableError) → RefusesRead (the_end old who) id ordered error f → Sees p who new x y
    read_none error d =
        let e = Began id ordered (Err error) in
        let v = d.asked.streams in
        let told = asked-told x (not_for_memory error) d.asked (asked-same x (the_end old who).pending d.asked.pending d.pending s.here.pending) in
        sees-quiet p who old new x y f e v s (may-act p who old new x y s e v tt tt d.begins) refl refl refl tt (ap (λ (k : EndState). k.streams) d.is ∙ told-streams (not_for_memory error) d.asked)
        (asked-same x (with_counts_told_if (not_for_memory error) d.asked).pending f.pending (ap (λ (k : EndState). k.pending) d.is) told) now

    read_any : (answer : Result ReadSome ReadableError) → ReadsSo (the_end old who) id ordered most times answer f → Sees (past_read p who id ordered (read_reply answer)) who new x y
    read_any (Ok r) d = read_some r.chunks.items r.last r.transmit.0 d
    read_any (Err readable_error.ClosedStream) d = read_none readable_error.ClosedStream d
    read_any (Err readable_error.IllegalOrderedRead) d = read_none readable_error.IllegalOrderedRead d
    read_any (Err readable_error.OutOfMemory) d = read_none readable_error.OutOfMemory d

-- ---- the steps

module _ (p : Past) (who : End) (old new : PairState) (x y : LinkedEnd) where
  pub seen-stop : (id code : ℕ) (reply : Answer) → Seen p who old x y → OnEnd (λ e f. OnGiven e id reply f (StopsAt e id code reply f)) old who new → Sees (after p (steps.Stop who id code) reply) who new x y
  seen-stop id code reply s d =
      on-given p who old new x y id reply d.end (past_stop p who id code) (StopsAt (the_end old who) id code reply d.end) s refl d.is d.does
      (λ given w. let P : Answer → Type 0 = λ k. Sees (past_stop p who id code k) who new x y in
      subst P (sym w.reply_is) (stopped_any p who old new x y s d.end d.is id given code w.answer w.stops))

  pub seen-received-reset : (id : ℕ) (reply : Answer) → Seen p who old x y → OnEnd (λ e f. OnGiven e id reply f (AsksReset e id reply f)) old who new → Sees (after p (steps.ReceivedReset who id) reply) who new x y
  seen-received-reset id reply s d =
      on-given p who old new x y id reply d.end (past_code p who id) (AsksReset (the_end old who) id reply d.end) s refl d.is d.does
      (λ given w. let P : Answer → Type 0 = λ k. Sees (past_code p who id k) who new x y in
      subst P (sym w.reply_is) (told_any p who old new x y s d.end d.is id w.answer w.tells))

  pub seen-read : (id : ℕ) (ordered : Bool) (most times : ℕ) (reply : Answer) → Seen p who old x y → OnEnd (λ e f. OnGiven e id reply f (ReadsOn e id ordered most times reply f)) old who new
      → Sees (after p (steps.Read who id ordered most times) reply) who new x y
  seen-read id ordered most times reply s d =
      on-given p who old new x y id reply d.end (past_read p who id ordered) (ReadsOn (the_end old who) id ordered most times reply d.end) s refl d.is d.does
      (λ given w. let P : Answer → Type 0 = λ k. Sees (past_read p who id ordered k) who new x y in
      subst P (sym w.reply_is) (read_any p who old new x y s d.end d.is id given ordered most times w.answer w.reads))
