-- Several reads of a stream, and a stop, are calls of a linked end, and keep what is pending asked for.
use Rattle.std.proofs.Common.{◌≡◌, ℕ, Bool, List, [], ◌∷◌, Some, None, Ok, Err, refl, sym, ap, ◌∙◌, subst, arith, ◌+◌}
use Rattle.std.specs.Prelude.{is_none}
use Rattle.quic_assembler.specs.declared.chunk.Chunk.{Chunk}
use Rattle.quic_receiving.specs.Half.{Half}
use Rattle.quic_receiving.specs.declared.errors.ReadError.TheVariants as read_error
use Rattle.quic_retransmits.specs.Pending.{Pending}
use Rattle.quic_retransmits.specs.Queueing.{with_id, with_stop_sending}
use Rattle.quic_history.specs.World.{World}
use Rattle.quic_history.specs.declared.progress.Progress.{Progress}
use Rattle.quic_history.specs.declared.progress.LastAnswer.{LastAnswer}
use Rattle.quic_history.specs.declared.progress.LastAnswer.TheVariants as last_answer
use Rattle.quic_history.specs.Receiving.{with_max_streams}
use Rattle.quic_history.specs.Reading.{GivesChunks, LastReads, ReadsSome, bytes_in, is_window_queued, pending_after, pending_stopped}
use Rattle.quic_history.specs.History.{Event, Began, Gave, Ended, given, with_chunks, with_last, with_reads}
use Rattle.quic_wire.specs.declared.frame.StopSending.{StopSending}
use Rattle.quic_link.specs.Endpoints.{LinkedEnd, IsOneOf, MayAct, acted, Linked, first_acts, WasGiven, WasStoppedWith}
use Rattle.quic_link.specs.Asked.{AreAsked}
use Rattle.quic_link.proofs.Joint.{agrees}
use Rattle.quic_link.proofs.AskedFor.{asked-acted, asked-stop, asked-window}

-- x may become z by calls, and what is pending stays asked for
pub record GoesOn (x y z : LinkedEnd) : Type 0 where
  pub linked : Linked z y
  pub asked : (p : Pending) → AreAsked x p → AreAsked z p

pub goes-none : (x y : LinkedEnd) → Linked x y → GoesOn x y x
goes-none x y l = record { linked = l; asked = λ p k. k }

pub goes-then : (x y z w : LinkedEnd) → GoesOn x y z → GoesOn z y w → GoesOn x y w
goes-then x y z w a b = record { linked = b.linked; asked = λ p k. b.asked p (a.asked p k) }

pub goes-call : (x y : LinkedEnd) (e : Event) (v : World) → Linked x y → MayAct x y e v → GoesOn x y (acted x e v)
goes-call x y e v l a = record { linked = first_acts e v l a; asked = λ p k. asked-acted x y e v ((agrees l).0).comes a p k }

-- ---- several reads

-- the end with other calls and another value
abbrev pub called : LinkedEnd → List Event → World → LinkedEnd
called x h v = record { made = x.made; calls = h; world = v; wrote = x.wrote }

goes_at : (x y : LinkedEnd) (h : List Event) (v w : World) → v ≡ w → GoesOn x y (called x h w) → GoesOn x y (called x h v)
goes_at x y h v w e g = let P : World → Type 0 = λ u. GoesOn x y (called x h u) in subst P (sym e) g

module _ (x y : LinkedEnd) (id most : ℕ) (ordered : Bool) where
  pub chunks-linked : (cs : List Chunk) (h : List Event) (w v : World) → GoesOn x y (called x h w) → GivesChunks w id most ordered cs v → GoesOn x y (called x (with_chunks id most ordered cs h) v)
  chunks-linked [] h w v l g = goes_at x y h v w g l
  chunks-linked (c ∷ cs) h w v l g =
      let e = Gave id most ordered (Ok (Some c)) in
      chunks-linked cs (e ∷ h) g.0 v (goes-then x y (called x h w) (called x (e ∷ h) g.0) l (goes-call (called x h w) y e g.0 l.linked (record { fits = tt; honest = tt; step = g.1 }))) g.2

  last_linked : (last : LastAnswer) (h : List Event) (w v : World) → GoesOn x y (called x h w) → LastReads w id most ordered last v → GoesOn x y (called x (with_last id most ordered last h) v)
  last_linked last_answer.Blocked h w v l r = goes-then x y (called x h w) _ l (goes-call (called x h w) y (Gave id most ordered (Err read_error.Blocked)) v l.linked (record { fits = tt; honest = tt; step = r }))
  last_linked last_answer.Ended h w v l r = goes-then x y (called x h w) _ l (goes-call (called x h w) y (Gave id most ordered (Ok None)) v l.linked (record { fits = tt; honest = tt; step = r }))
  last_linked (last_answer.Reset code) h w v l r = goes-then x y (called x h w) _ l (goes-call (called x h w) y (Gave id most ordered (Err (read_error.Reset code))) v l.linked (record { fits = tt; honest = tt; step = r }))
  last_linked last_answer.Memory h w v l r = goes-then x y (called x h w) _ l (goes-call (called x h w) y (Gave id most ordered (Err read_error.OutOfMemory)) v l.linked (record { fits = tt; honest = tt; step = r }))
  last_linked last_answer.More h w v l r = goes_at x y h v w r l

given_chunks : (id most : ℕ) (ordered : Bool) (cs : List Chunk) (h : List Event) → given (with_chunks id most ordered cs h) ≡ given h + bytes_in cs
given_chunks id most ordered [] h = omega arith
given_chunks id most ordered (c ∷ cs) h = omega (arith, given_chunks id most ordered cs (Gave id most ordered (Ok (Some c)) ∷ h))

given_last : (id most : ℕ) (ordered : Bool) (last : LastAnswer) (h : List Event) → given (with_last id most ordered last h) ≡ given h
given_last id most ordered last_answer.Blocked h = refl
given_last id most ordered last_answer.Ended h = refl
given_last id most ordered (last_answer.Reset code) h = refl
given_last id most ordered last_answer.Memory h = refl
given_last id most ordered last_answer.More h = refl

-- a stream is opened for reads, read, and its reader ended
pub reads-linked : (x y : LinkedEnd) (id most times : ℕ) (ordered : Bool) (p q : Pending) (cs : List Chunk) (last : LastAnswer) (transmit : Bool) (v : World) → Linked x y → ReadsSome x.world id most times ordered p cs last transmit v q
    → GoesOn x y (called x (with_reads id most ordered cs last x.calls) v)
reads-linked x y id most times ordered p q cs last transmit v l s =
    let b = Began id ordered (Ok tt) in
    let begun_now : GoesOn x y (called x (b ∷ x.calls) s.opened) = goes-call x y b s.opened l (record { fits = tt; honest = tt; step = s.begins }) in
    let h = with_chunks id most ordered cs (b ∷ x.calls) in
    let read : GoesOn x y (called x h s.read) = chunks-linked x y id most ordered cs (b ∷ x.calls) s.opened s.read begun_now s.gives in
    let k = with_last id most ordered last h in
    let ended : GoesOn x y (called x k s.ended) = last_linked x y id most ordered last h s.read s.ended read s.last_reads in
    let fits : bytes_in cs ≡ given k = let a = given_last id most ordered last h in let c = given_chunks id most ordered cs (b ∷ x.calls) in counted (bytes_in cs) (given k) (given h) a c in
    goes-then x y (called x k s.ended) (called x (Ended id (bytes_in cs) ∷ k) v) ended
    (goes-call (called x k s.ended) y (Ended id (bytes_in cs)) v ended.linked (record { fits = fits; honest = tt; step = s.is }))
  where
    counted : (n k h : ℕ) → k ≡ h → h ≡ 0 + n → n ≡ k
    counted n k h a b = omega arith

-- ---- what they queue

asked_same : (x : LinkedEnd) (p q : Pending) → q.reset_stream ≡ p.reset_stream → q.stop_sending ≡ p.stop_sending → q.max_stream_data ≡ p.max_stream_data → AreAsked x p → AreAsked x q
asked_same x p q a b c s =
    let P : Pending → Type 0 = λ k. AreAsked x k in
    record {
      resets = λ id code h. s.resets id code (same_resets id code h);
      stops = λ f h. s.stops f (same_stops f h);
      windows = λ id h. s.windows id (sym (ap (λ w. w id) c) ∙ h);
    }
  where
    same_resets : (id code : ℕ) → IsOneOf (id, code) q.reset_stream → IsOneOf (id, code) p.reset_stream
    same_resets id code h = let Q : List (ℕ × ℕ) → Type 0 = λ l. IsOneOf (id, code) l in subst Q a h

    same_stops : (f : StopSending) → IsOneOf f q.stop_sending → IsOneOf f p.stop_sending
    same_stops f h = let Q : List StopSending → Type 0 = λ l. IsOneOf f l in subst Q b h

-- at the end of a reader a limit of its stream may be queued, which the application was given
pub asked-read : (x : LinkedEnd) (progress : Progress) (w : World) (id read : ℕ) (p : Pending) → WasGiven x.world id → AreAsked x p → AreAsked x (pending_after progress w id read p)
asked-read x progress w id read p g s =
    asked_same x (record p { max_stream_data = with_id p.max_stream_data id (is_window_queued progress w (w.receive id)) }) (pending_after progress w id read p) refl refl refl
    (asked-window x p id (is_window_queued progress w (w.receive id)) g s)

-- and by a stop STOP_SENDING, once it was made
pub asked-stopped : (x : LinkedEnd) (v : World) (h : Half) (id code : ℕ) (p : Pending) → WasStoppedWith x.calls id code → WasGiven x.world id → AreAsked x p → AreAsked x (pending_stopped v h id code p)
asked-stopped x v h id code p t g s =
    asked_same x (record p { stop_sending = with_stop_sending p.stop_sending id code (is_none h.reset) }) (pending_stopped v h id code p) refl refl refl
    (asked-stop x p id code (is_none h.reset) t g s)

-- the other frames that calls queue need no more
pub asked-streams : (x : LinkedEnd) (w : World) (p : Pending) → AreAsked x p → AreAsked x (with_max_streams w p)
asked-streams x w p s = asked_same x p (with_max_streams w p) refl refl refl s
