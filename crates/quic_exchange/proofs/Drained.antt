-- What was delivered is read.
use Rattle.std.proofs.Common.{◌≡◌, ℕ, Bool, true, false, List, [], ◌∷◌, ◌++◌, length, None, Result, Ok, Err, refl, sym, ap, ◌∙◌, subst, inl, inr, arith, ◌+◌, ◌<◌, ◌≤◌}
use Rattle.std.specs.Prelude.{nat_lt, ◌||◌, if◌then◌else◌}
use Rattle.std.specs.Global.{Vec}
use Rattle.std.proofs.lemmas.List.{length-append}
use Rattle.std.proofs.lemmas.Bool.Decides.{nat_tests}
use Rattle.quic_assembler.specs.declared.chunk.Chunk.{Chunk}
use Rattle.quic_assembler.specs.Piece.{lies}
use Rattle.quic_receiving.specs.Data.{is_in_slices, IsAllGiven}
use Rattle.quic_receiving.specs.declared.errors.ReadableError.{ReadableError}
use Rattle.quic_receiving.specs.declared.errors.ReadableError.TheVariants as readable_error
use Rattle.quic_streams.specs.declared.batches.ReadSome.{ReadSome}
use Rattle.quic_history.specs.History.{ReadChunk, slices}
use Rattle.quic_link.specs.Endpoints.{IsOneOf}
use Rattle.quic_link.specs.Promises.{given_in_order}
use Rattle.quic_steps.specs.declared.steps.End.{End}
use Rattle.quic_exchange.proofs.Origins.{Origin}
use Rattle.quic_steps.specs.declared.steps.Step.{Step}
use Rattle.quic_steps.specs.declared.steps.Step.TheVariants as steps
use Rattle.quic_steps.specs.declared.steps.Reply.TheVariants.{Done, DoneTransmit, Fault, Read, Closed, Illegal}
use Rattle.quic_steps.specs.declared.steps.PairError.TheVariants.{NoSuchPayload, NoSuchFrame, NotAccepted, UnknownId, AlreadySettled, LimitsBelow, Undecided, Decided, OutOfMemory as NoMemory}
use Rattle.quic_steps.specs.declared.steps.Last.{Last}
use Rattle.quic_steps.specs.declared.steps.Last.TheVariants as last
use Rattle.quic_exchange.specs.Sent.{Sent}
use Rattle.quic_exchange.specs.declared.unsettled.Report.{Report}
use Rattle.quic_exchange.specs.declared.unsettled.Report.TheVariants.{Lost, Acknowledged}
use Rattle.quic_exchange.specs.Replies.{Answer, read_reply}
use Rattle.quic_exchange.specs.State.{PairState, peer}
use Rattle.quic_exchange.specs.Steps.{NextOrdinary}
use Rattle.quic_exchange.specs.History.{Past, Flow, FramePlace, History, past_of, after, past_read, after_deliver, reads_last, reads_chunks, with_chunks_read, is_kept_by, after_report, past_rejected, past_retried}
use Rattle.quic_exchange.specs.Headline.{IsFaithful, IsBeginningOf, AreInOrder, SomeStream}
use Rattle.quic_exchange.specs.Readable.{AreCut, HasNothingLeft, ReadsTrue}
use Rattle.quic_exchange.specs.Refused.{IsKnownSo}
use Rattle.quic_exchange.specs.Law.{MayDrain, DrainsBy, DrainsFlow, Drains}
use Rattle.quic_exchange.proofs.Eras.{EraFrom, begun, next, changed}
use Rattle.quic_exchange.proofs.Grown.{headline-from, past-after}
use Rattle.quic_exchange.proofs.Beside.{IsOfNoPayload, beside}
use Rattle.quic_exchange.proofs.Readable.{readable-so}
use Rattle.quic_exchange.proofs.RefusedSo.{refused-so}
use Rattle.quic_exchange.proofs.CallsFlows.{flow-changed}
use Rattle.quic_exchange.proofs.Deeds.{sent-same}
use Rattle.quic_history.proofs.Traces.{itself}

-- ---- what was accepted was kept

-- each place that was accepted is among those that were kept
abbrev pub AcceptsKept : Past → Type 0
AcceptsKept p = (at : FramePlace) → IsOneOf at p.accepted → IsOneOf at p.kept

accepts_as : (p q : Past) → q.accepted ≡ p.accepted → q.kept ≡ p.kept → AcceptsKept p → AcceptsKept q
accepts_as p q same_accepted same_kept a at h =
    let P : List FramePlace → Type 0 = λ l. IsOneOf at l in
    subst P (sym same_kept) (a at (subst P same_accepted h))

accepts_one : (p : Past) (place : FramePlace) → AcceptsKept p → (at : FramePlace) → IsOneOf at (place ∷ p.accepted) → IsOneOf at (place ∷ p.kept)
accepts_one p place a at h = elim h [ inl e ↦ inl e | inr old ↦ inr (a at old) ]

kept_or : (b : Bool) (p : Past) (place at : FramePlace) → IsOneOf at p.kept → IsOneOf at (if b then place ∷ p.kept else p.kept)
kept_or true p place at h = inr h
kept_or false p place at h = h

accepts_delivered : (p : Past) (place : FramePlace) (reply : Answer) → AcceptsKept p → AcceptsKept (after_deliver p place reply)
accepts_delivered p place (Ok Done) a = accepts_one p place a
accepts_delivered p place (Ok DoneTransmit) a = accepts_one p place a
accepts_delivered p place (Ok (Fault fault)) a = λ at h. kept_or (is_kept_by fault) p place at (a at h)
accepts_delivered p place _ a = a

accepts_reported : (p : Past) (number : ℕ) (kind : Report) (reply : Answer) → AcceptsKept p → AcceptsKept (after_report p number kind reply)
accepts_reported p number kind (Ok Done) a = a
accepts_reported p number kind (Err NoMemory) a = a
accepts_reported p number kind _ a = a

accepts_rejected : (p : Past) (reply : Answer) → AcceptsKept p → AcceptsKept (past_rejected p reply)
accepts_rejected p (Ok Done) a = λ at h. absurd h
accepts_rejected p _ a = a

accepts_retried : (p : Past) (reply : Answer) → AcceptsKept p → AcceptsKept (past_retried p reply)
accepts_retried p (Ok Done) a = a
accepts_retried p _ a = a

module _ (p : Past) (reply : Answer) (a : AcceptsKept p) where
  accepts_beside : (step : Step) → IsOfNoPayload step → AcceptsKept (after p step reply)
  accepts_beside step k = let b = beside p step reply k in accepts_as p (after p step reply) b.accepted b.kept a

  accepts_after : (step : Step) → AcceptsKept (after p step reply)
  accepts_after (steps.Open who dir) = accepts_beside (steps.Open who dir) tt
  accepts_after (steps.Accept who dir) = accepts_beside (steps.Accept who dir) tt
  accepts_after (steps.Write who id bytes) = accepts_beside (steps.Write who id bytes) tt
  accepts_after (steps.WriteChunks who id chunks) = accepts_beside (steps.WriteChunks who id chunks) tt
  accepts_after (steps.Finish who id) = accepts_beside (steps.Finish who id) tt
  accepts_after (steps.Reset who id code) = accepts_beside (steps.Reset who id code) tt
  accepts_after (steps.Stop who id code) = accepts_beside (steps.Stop who id code) tt
  accepts_after (steps.Read who id ordered most times) = accepts_beside (steps.Read who id ordered most times) tt
  accepts_after (steps.ReceivedReset who id) = accepts_beside (steps.ReceivedReset who id) tt
  accepts_after (steps.Poll who) = accepts_beside (steps.Poll who) tt
  accepts_after (steps.Deliver number index) = accepts_delivered p (number, index) reply a
  accepts_after (steps.Lose number) = accepts_reported p number Lost reply a
  accepts_after (steps.Ack number) = accepts_reported p number Acknowledged reply a
  accepts_after steps.EarlyReject = accepts_rejected p reply a
  accepts_after steps.Retry = accepts_retried p reply a
  accepts_after _ = a

pub accepts-from : {a b : Origin} {whole : History} {v : PairState} → EraFrom a b whole v → AcceptsKept (past_of whole)
accepts-from {a} {b} {whole} {v} (begun n) = λ at h. absurd h
accepts-from {a} {b} {whole} {v} (next {h} {old} {new} step reply f n) =
    subst AcceptsKept (sym (past-after h step reply)) (accepts_after (past_of h) reply (accepts-from f) step)
accepts-from {a} {b} {whole} {v} (changed {h} {old} {new} step f c) =
    subst AcceptsKept (sym (past-after h step (Ok Done))) (accepts_after (past_of h) (Ok Done) (accepts-from f) step)

-- ---- what ordered reads gave

or_right : (a b : Bool) → b ≡ true → (a || b) ≡ true
or_right true b e = refl
or_right false b e = e

-- a byte of a chunk, or of those before it, is in one of them
module _ (c : ReadChunk) (cs : List ReadChunk) (at : ℕ) where
  is_before : is_in_slices (slices cs) at ≡ true → is_in_slices (slices (c ∷ cs)) at ≡ true
  is_before h = or_right (lies c.offset (c.offset + length c.bytes) at) (is_in_slices (slices cs) at) h

  is_here : c.offset ≤ at → at < c.offset + length c.bytes → is_in_slices (slices (c ∷ cs)) at ≡ true
  is_here low high = let k : lies c.offset (c.offset + length c.bytes) at ≡ true = grind (arith, nat_tests, low, high) in rw k refl

  module _ (before : at < length (given_in_order cs) → is_in_slices (slices cs) at ≡ true) where
    by_side : (b : Bool) → nat_lt at (length (given_in_order cs)) ≡ b → c.offset ≡ length (given_in_order cs) → at < length (given_in_order cs) + length c.bytes → is_in_slices (slices (c ∷ cs)) at ≡ true
    by_side true e place high = is_before (before (grind (arith, nat_tests, e)))
    by_side false e place high = is_here (grind (arith, nat_tests, e, place)) (omega (arith, place, high))

    by_order : (b : Bool) → (b ≡ true → c.offset ≡ length (given_in_order cs)) → at < length (if b then given_in_order cs ++ c.bytes else given_in_order cs) → is_in_slices (slices (c ∷ cs)) at ≡ true
    by_order true o k = let n = length-append (given_in_order cs) c.bytes in by_side (nat_lt at (length (given_in_order cs))) refl (o refl) (omega (arith, n, k))
    by_order false o k = is_before (before k)

-- a byte below is in a chunk
pub given-at : (given : List ReadChunk) → AreInOrder given → (at : ℕ) → at < length (given_in_order given) → is_in_slices (slices given) at ≡ true
given-at [] o at l = absurd (omega (arith, l))
given-at (c ∷ cs) o at l = by_order c cs at (given-at cs o.0 at) c.ordered o.1 l

-- each chunk that an ordered read gave has a byte
given_more : (most : ℕ) (chunks : List Chunk) (given : List ReadChunk) → 0 < most → AreCut most chunks → length (given_in_order given) + length chunks ≤ length (given_in_order (with_chunks_read true chunks given))
given_more most [] given l cut = omega arith
given_more most (c ∷ cs) given l cut =
    let one = cut.1 l in
    let rest = given_more most cs (record { offset = c.offset; bytes = c.bytes; ordered = true } ∷ given) l cut.2 in
    let n = length-append (given_in_order given) c.bytes in
    omega (arith, one, rest, n)

beginning_within : (xs ys : List ℕ) → IsBeginningOf xs ys → length xs ≤ length ys
beginning_within xs ys b = let n = length-append xs b.0 in let k = ap length b.1 in omega (arith, n, k)

-- ---- one read

module _ (p : Past) (sent : List Sent) (who : End) (id most times : ℕ) (kept : AcceptsKept p) (some : 0 < most) (m : MayDrain p sent who id) where
  abbrev f : Flow
  f = p.flow (peer who) id

  -- a frame that was accepted was kept
  as_kept : (Is : _) → SomeStream sent (peer who) id p.accepted Is → SomeStream sent (peer who) id p.kept Is
  as_kept Is s = record { at = s.at; listed = kept s.at s.listed; stream = s.stream; sent_as = s.sent_as; on = s.on; is = s.is }

  -- the flow after a read that told no end
  module _ (chunks : List Chunk) (g : Flow) (is : g ≡ reads_chunks true chunks f) (true_of : IsFaithful g (peer who) id p.accepted sent) where
    same_written : g.written ≡ f.written
    same_written = ap (λ (k : Flow). k.written) is

    within : length (given_in_order g.given) ≤ length f.written
    within = let P : List ℕ → Type 0 = λ w. length (given_in_order g.given) ≤ length w in subst P same_written (beginning_within (given_in_order g.given) g.written true_of.beginning)

    -- something is left, or all was given
    not_blocked : HasNothingLeft g (peer who) id p.kept sent true → ⊥
    not_blocked none = by_side (nat_lt (length (given_in_order g.given)) (length f.written)) refl
      where
        by_side : (b : Bool) → nat_lt (length (given_in_order g.given)) (length f.written) ≡ b → ⊥
        by_side true e = none.next refl (as_kept _ (m.delivered.bytes (length (given_in_order g.given)) (grind (arith, nat_tests, e))))
        by_side false e =
            let all : length f.written ≤ length (given_in_order g.given) = grind (arith, nat_tests, e) in
            let P : List ℕ → Type 0 = λ w. IsAllGiven (slices g.given) (length w) in
            none.end (as_kept _ m.delivered.end) (subst P (sym same_written) (λ at l. given-at g.given true_of.in_order at (omega (arith, l, all))))

    -- each chunk has a byte
    as_asked : AreCut most chunks → length chunks ≡ times → times ≤ length g.written
    as_asked cut count =
        let more = given_more most chunks f.given some cut in
        let n : length (given_in_order g.given) ≡ length (given_in_order (with_chunks_read true chunks f.given)) = ap (λ (k : Flow). length (given_in_order k.given)) is in
        let w : length (given_in_order g.given) ≤ length g.written = beginning_within (given_in_order g.given) g.written true_of.beginning in
        omega (arith, more, n, w, count)

  -- what is known of the flow after a read
  abbrev flow_read : Answer → Flow
  flow_read reply = (past_read p who id true reply).flow (peer who) id

  read_is : (chunks : Vec Chunk) (end : Last) (transmit : Bool) → flow_read (Ok (Read chunks end transmit)) ≡ reads_last end (reads_chunks true chunks.items f)
  read_is chunks end transmit =
      let change : Flow → Flow = λ k. reads_last end (reads_chunks true chunks.items k) in
      let P : Flow → Type 0 = λ k. k ≡ change f in
      flow-changed P (peer who) id change p id (λ e. refl) (λ n. absurd (let l = sym (itself id) ∙ n in cc))

  by_last : (chunks : Vec Chunk) (end : Last) (transmit : Bool) → ReadsTrue (past_read p who id true (Ok (Read chunks end transmit))) sent who id true most times (Ok (Read chunks end transmit))
      → IsFaithful (flow_read (Ok (Read chunks end transmit))) (peer who) id p.accepted sent → DrainsBy times chunks.items end (flow_read (Ok (Read chunks end transmit)))
  by_last chunks last.Blocked transmit r g = absurd (not_blocked chunks.items (flow_read (Ok (Read chunks last.Blocked transmit))) (read_is chunks last.Blocked transmit) g r.1)
  by_last chunks last.Ended transmit r g =
      let ended = ap (λ (k : Flow). k.ended) (read_is chunks last.Ended transmit) in
      record { all = (g.ended ended).1; ended = ended }
  by_last chunks (last.Reset code) transmit r g = absurd (m.unreset code r.1)
  by_last chunks last.Memory transmit r g = tt
  by_last chunks last.More transmit r g = (r.1, as_asked chunks.items (flow_read (Ok (Read chunks last.More transmit))) (read_is chunks last.More transmit) g r.0 r.1)

  -- a reply of a read
  abbrev IsReadReply : Answer → Type 0
  IsReadReply (Ok (Read chunks end transmit)) = Unit {0}
  IsReadReply (Ok Closed) = Unit {0}
  IsReadReply (Ok Illegal) = Unit {0}
  IsReadReply (Ok _) = ⊥
  IsReadReply (Err error) = Unit {0}

  read_replies : (answer : Result ReadSome ReadableError) → IsReadReply (read_reply answer)
  read_replies (Ok r) = tt
  read_replies (Err readable_error.ClosedStream) = tt
  read_replies (Err readable_error.IllegalOrderedRead) = tt
  read_replies (Err readable_error.OutOfMemory) = tt

  by_reply : (reply : Answer) → IsReadReply reply → ReadsTrue (past_read p who id true reply) sent who id true most times reply → IsKnownSo (p.ids who) id reply
      → IsFaithful (flow_read reply) (peer who) id p.accepted sent → DrainsFlow times reply (flow_read reply)
  by_reply (Ok (Read chunks end transmit)) w r k g = by_last chunks end transmit r g
  by_reply (Ok Closed) w r k g = absurd (elim r [
    | inl own ↦ m.receives own
    | inr over ↦ elim over [
      | inl ended ↦ (let l = sym ended ∙ m.unended in cc)
      | inr o ↦ elim o [ inl stop ↦ m.running stop.0 stop.1 | inr reset ↦ m.unreset reset.0 reset.1 ]
    ]
  ])
  by_reply (Ok Illegal) w r k g = absurd (let l = sym r.1 ∙ m.in_order in cc)
  by_reply (Err UnknownId) w r k g = absurd (k m.known)
  by_reply (Err NoMemory) w r k g = tt
  by_reply (Err NoSuchPayload) w r k g = absurd (k.1 tt)
  by_reply (Err NoSuchFrame) w r k g = absurd (k.1 tt)
  by_reply (Err NotAccepted) w r k g = absurd (k.1 tt)
  by_reply (Err AlreadySettled) w r k g = absurd (k.1 tt)
  by_reply (Err LimitsBelow) w r k g = absurd (k.1 tt)
  by_reply (Err Undecided) w r k g = absurd (k.1 tt)
  by_reply (Err Decided) w r k g = absurd (k.1 tt)
  by_reply _ w r k g = absurd w

-- ---- the step

module _ (a b : Origin) (h : History) (old new : PairState) (g : EraFrom a b h old) where
  abbrev p : Past
  p = past_of h

  drains_read : (who : End) (id : ℕ) (ordered : Bool) (most times : ℕ) (reply : Answer) → NextOrdinary old (steps.Read who id ordered most times) reply new → Drains p old.sent (steps.Read who id ordered most times) reply
  drains_read who id false most times reply n = λ o some m. cc
  drains_read who id true most times reply n = λ o some m.
      let step = steps.Read who id true most times in
      let kept = accepts-from g in
      let W : Answer → Type 0 = λ r. IsReadReply p old.sent who id most times kept some m r in
      let is_reply : W reply = elim n.does [
        | inl known ↦ subst W (sym known.1.reply_is) (read_replies p old.sent who id most times kept some m known.1.answer)
        | inr unknown ↦ subst W (sym unknown.1) tt
      ] in
      let all = headline-from (next step reply g n) (peer who) id in
      let H : Past → Type 0 = λ q. IsFaithful (q.flow (peer who) id) (peer who) id q.accepted new.sent in
      let S : List Sent → Type 0 = λ l. IsFaithful ((past_read p who id true reply).flow (peer who) id) (peer who) id (past_read p who id true reply).accepted l in
      let L : List FramePlace → Type 0 = λ l. IsFaithful ((past_read p who id true reply).flow (peer who) id) (peer who) id l old.sent in
      let true_of = subst L (beside p (steps.Read who id true most times) reply tt).accepted (subst S (ap (λ (v : PairState). v.sent) n.is ∙ sent-same old who n.end) (subst H (past-after h step reply) all)) in
      by_reply p old.sent who id most times kept some m reply is_reply (readable-so a b h old new step reply g n) (refused-so None a b h old new step reply g n) true_of

  drains_next : (step : Step) (reply : Answer) → NextOrdinary old step reply new → Drains p old.sent step reply
  drains_next (steps.Read who id ordered most times) reply n = drains_read who id ordered most times reply n
  drains_next _ reply n = tt

-- whatever the network did, what was delivered is read
pub drains-so : (a b : Origin) (h : History) (old new : PairState) (step : Step) (reply : Answer) → EraFrom a b h old → NextOrdinary old step reply new → Drains (past_of h) old.sent step reply
drains-so a b h old new step reply g n = drains_next a b h old new g step reply n
