-- A frame that was kept at a place was handed in by a call, and a stream that was stopped or reset was so by one.
use Rattle.std.proofs.Common.{◌≡◌, ◌⊎◌, ℕ, Bool, true, false, List, [], ◌∷◌, Option, Some, None, Result, Ok, Err, refl, sym, ap, ◌∙◌, subst, inl, inr}
use Rattle.std.specs.Prelude.{◌==◌, ◌&&◌, if◌then◌else◌}
use Rattle.std.proofs.lemmas.Option.{same_Some}
use Rattle.quic_assembler.specs.declared.chunk.Chunk.{Chunk}
use Rattle.quic_wire.specs.declared.frame.Frame.TheVariants as frames
use Rattle.quic_wire.specs.declared.frame.Stream.{Stream}
use Rattle.quic_receiving.specs.declared.transmit.ShouldTransmit.{ShouldTransmit}
use Rattle.quic_wire.specs.declared.error.ReceiveError.{ReceiveError}
use Rattle.quic_receiving.specs.declared.errors.ReadError.{ReadError}
use Rattle.quic_receiving.specs.declared.errors.ReadError.TheVariants as read_error
use Rattle.quic_outgoing.specs.Senders.{is_local}
use Rattle.quic_values.specs.declared.ids.Side.TheVariants.{Client}
use Rattle.quic_history.specs.Early.{begins_anew}
use Rattle.quic_history.specs.History.{Event, Received, ReceivedReset, Gave, Stopped, ToldReset, LeftPending, Framed, Trace, trace, untouched, moved, move_of, with_move, with_read, with_reset, with_stop, with_kept_frame, told_still, joint_move_of, is_frame_kept, is_closed}
use Rattle.quic_link.specs.Endpoints.{IsOneOf, WasStoppedWith}
use Rattle.quic_link.specs.Promises.{KeptAt, EndKept}
use Rattle.quic_link.proofs.Basics.{same_id}
use Rattle.quic_steps.specs.declared.steps.End.{End}
use Rattle.quic_exchange.specs.Sent.{Sent}
use Rattle.quic_exchange.specs.History.{FramePlace}
use Rattle.quic_exchange.specs.Headline.{IsStreamFrom, SomeStream, HasOffset, HasEnd}
use Rattle.quic_exchange.specs.Unrefused.{StreamsAt, none, on, beside}
use Rattle.quic_exchange.proofs.KeptFrames.{kept_in}
use Rattle.quic_exchange.proofs.KeptPlaces.{stream-one}

-- ---- a frame at a place is among those that were kept there

kept_one : (sent : List Sent) (who : End) (q : ℕ) {ps : List FramePlace} {ss : List Stream} → StreamsAt sent who q ps ss → (at : FramePlace) (s : Stream) → IsOneOf at ps → IsStreamFrom sent who at s → s.id ≡ q → IsOneOf s ss
kept_one sent who q none at s h from i = absurd h
kept_one sent who q (on {places} {streams} place t before there is) at s h from i =
    let P : FramePlace → Type 0 = λ k. IsStreamFrom sent who k t in
    elim h [
      | inl e ↦ inl (stream-one sent who at s t from (subst P (sym e) there))
      | inr old ↦ inr (kept_one sent who q before at s old from i)
    ]
kept_one sent who q (beside {places} {streams} place payload before is lacks) at s h from i =
    let P : FramePlace → Type 0 = λ k. IsStreamFrom sent who k s in
    elim h [
      | inl e ↦ absurd (lacks s (subst P e from) i)
      | inr old ↦ kept_one sent who q before at s old from i
    ]

-- ---- and was handed in

record KeptCall (h : List Event) (q : ℕ) (s : Stream) : Type 0 where
  pub answer : Result ShouldTransmit ReceiveError
  pub is : IsOneOf (Received q s.offset s.bytes s.fin answer) h
  pub kept : is_frame_kept answer ≡ true

later : (e : Event) (h : List Event) (q : ℕ) (s : Stream) → KeptCall h q s → KeptCall (e ∷ h) q s
later e h q s k = record { answer = k.answer; is = inr k.is; kept = k.kept }

kept_call : (h : List Event) (q : ℕ) (s : Stream) → IsOneOf s (kept_in h q) → KeptCall h q s
kept_call [] q s k = absurd k
kept_call (Received id offset bytes fin answer ∷ h) q s k = by_both (q == id) (is_frame_kept answer) refl refl k (kept_call h q s)
  where
    by_both : (b c : Bool) → (q == id) ≡ b → is_frame_kept answer ≡ c → IsOneOf s (if b && c then record { id = id; offset = offset; fin = fin; bytes = bytes } ∷ kept_in h q else kept_in h q) → (IsOneOf s (kept_in h q) → KeptCall h q s) → KeptCall (Received id offset bytes fin answer ∷ h) q s
    by_both true true b c (inl i) before =
        let same_call : Received q s.offset s.bytes s.fin answer ≡ Received id offset bytes fin answer = ap (λ (j : ℕ). Received j s.offset s.bytes s.fin answer) (same_id q id b) ∙ ap (λ (t : Stream). Received id t.offset t.bytes t.fin answer) i in
        record { answer = answer; is = inl same_call; kept = c }
    by_both true true b c (inr old) before = later (Received id offset bytes fin answer) h q s (before old)
    by_both true false b c old before = later (Received id offset bytes fin answer) h q s (before old)
    by_both false true b c old before = later (Received id offset bytes fin answer) h q s (before old)
    by_both false false b c old before = later (Received id offset bytes fin answer) h q s (before old)
kept_call (e ∷ h) q s k = later e h q s (kept_call h q s k)

module _ (sent : List Sent) (who : End) (q : ℕ) (ps : List FramePlace) (h : List Event) (all : StreamsAt sent who q ps (kept_in h q)) where
  call_of : (Is : Stream → Type 0) (s : SomeStream sent who q ps Is) → KeptCall h q s.stream
  call_of Is s = kept_call h q s.stream (kept_one sent who q all s.at s.stream s.listed s.sent_as s.on)

  pub kept-offset : (at : ℕ) → SomeStream sent who q ps (HasOffset at) → KeptAt h q at
  kept-offset at s =
      let c = call_of (HasOffset at) s in
      record { offset = s.stream.offset; bytes = s.stream.bytes; fin = s.stream.fin; answer = c.answer; is = c.is; kept = c.kept; has = s.is }

  pub kept-end : SomeStream sent who q ps HasEnd → EndKept h q
  kept-end s =
      let c = call_of HasEnd s in
      let P : Bool → Type 0 = λ b. IsOneOf (Received q s.stream.offset s.stream.bytes b c.answer) h in
      record { offset = s.stream.offset; bytes = s.stream.bytes; answer = c.answer; is = subst P s.is c.is; kept = c.kept }

-- ---- stops and resets

-- a trace is stopped and reset as one is
abbrev IsOverAs : Trace → Trace → Type 0
IsOverAs a t = (a.stopped ≡ t.stopped) × (a.reset ≡ t.reset)

as_if : (k : Bool) (a b t : Trace) → IsOverAs a t → IsOverAs b t → IsOverAs (if k then a else b) t
as_if true a b t e f = e
as_if false a b t e f = f

as_read : (ordered : Bool) (answer : Result (Option Chunk) ReadError) (t : Trace) → IsOverAs (with_read ordered answer t) t
as_read ordered (Ok (Some chunk)) t = (refl, refl)
as_read ordered (Ok None) t = (refl, refl)
as_read ordered (Err read_error.Blocked) t = (refl, refl)
as_read ordered (Err (read_error.Reset code)) t = (refl, refl)
as_read ordered (Err read_error.OutOfMemory) t = (refl, refl)

-- a call that neither stops a stream nor takes a reset
abbrev EndsNone : Event → Type 0
EndsNone (Stopped id code (Ok u)) = ⊥
EndsNone (ReceivedReset id code final (Ok transmit)) = ⊥
EndsNone _ = Unit {0}

as_before : (e : Event) (q : ℕ) (t : Trace) → EndsNone e → IsOverAs (moved (move_of e) q t) t
as_before (Received id offset bytes fin answer) q t w =
    as_if (q == id) (with_move (Framed offset bytes fin answer) t) t t (as_if (is_frame_kept answer) (with_kept_frame offset bytes fin t) t t (as_if (is_closed t) t _ t (refl, refl) (refl, refl)) (refl, refl)) (refl, refl)
as_before (ReceivedReset id code final (Ok transmit)) q t w = absurd w
as_before (ReceivedReset id code final (Err error)) q t w = (refl, refl)
as_before (Gave id most ordered answer) q t w = as_if (q == id) (with_read ordered answer t) t t (as_read ordered answer t) (refl, refl)
as_before (Stopped id code (Ok u)) q t w = absurd w
as_before (Stopped id code (Err error)) q t w = (refl, refl)
as_before (ToldReset id (Ok (Some code))) q t w = as_if (q == id) (record t { gone = true }) t t (refl, refl) (refl, refl)
as_before (ToldReset id (Ok None)) q t w = (refl, refl)
as_before (ToldReset id (Err error)) q t w = (refl, refl)
as_before (LeftPending kind None) q t w = (refl, refl)
as_before (LeftPending kind (Some (frames.MaxStreamData id limit))) q t w = as_if (q == id) _ t t (refl, refl) (refl, refl)
as_before (LeftPending kind (Some _)) q t w = (refl, refl)
as_before _ q t w = (refl, refl)

module _ (id code q : ℕ) (t : Trace) where
  stop_now : (u : Unit {0}) (b : Bool) → (q == id) ≡ b → (if b then with_stop t else t).stopped ≡ true → (t.stopped ≡ true) ⊎ (Stopped q code (Ok tt) ≡ Stopped id code (Ok u))
  stop_now u true e k = inr (ap (λ (j : ℕ). Stopped j code (Ok tt)) (same_id q id e))
  stop_now u false e k = inl k

  reset_code : (c : ℕ) (final : ℕ) → (with_reset code final t).reset ≡ Some c → (t.reset ≡ Some c) ⊎ (code ≡ c)
  reset_code c final k = by_closed (is_closed t) k
    where
      by_closed : (b : Bool) → (if b then t else record t { high = final; sized = true; reset = Some code; gone = t.stopped }).reset ≡ Some c → (t.reset ≡ Some c) ⊎ (code ≡ c)
      by_closed true e = inl e
      by_closed false e = inr (same_Some code c e)

  reset_now : (c : ℕ) (final : ℕ) (transmit : ShouldTransmit) (b : Bool) → (q == id) ≡ b → (if b then with_reset code final t else t).reset ≡ Some c
      → (t.reset ≡ Some c) ⊎ (ReceivedReset q c final (Ok transmit) ≡ ReceivedReset id code final (Ok transmit))
  reset_now c final transmit true e k = elim (reset_code c final k) [
    | inl old ↦ inl old
    | inr now ↦ inr (ap (λ (j : ℕ). ReceivedReset j c final (Ok transmit)) (same_id q id e) ∙ ap (λ (d : ℕ). ReceivedReset id d final (Ok transmit)) (sym now))
  ]
  reset_now c final transmit false e k = inl k

  stop_kept : (final : ℕ) (b : Bool) → (if b then with_reset code final t else t).stopped ≡ t.stopped
  stop_kept final true = stop_either (is_closed t)
    where
      stop_either : (c : Bool) → (if c then t else record t { high = final; sized = true; reset = Some code; gone = t.stopped }).stopped ≡ t.stopped
      stop_either true = refl
      stop_either false = refl
  stop_kept final false = refl

  reset_kept : (b : Bool) → (if b then with_stop t else t).reset ≡ t.reset
  reset_kept true = refl
  reset_kept false = refl

-- a stream is stopped by a call, or was before
stop_by : (e : Event) (q : ℕ) (t : Trace) → (moved (move_of e) q t).stopped ≡ true → (t.stopped ≡ true) ⊎ ((code : ℕ) × (Stopped q code (Ok tt) ≡ e))
stop_by (Stopped id code (Ok u)) q t k = elim (stop_now id code q t u (q == id) refl k) [ inl old ↦ inl old | inr now ↦ inr (code, now) ]
stop_by (Stopped id code (Err error)) q t k = inl k
stop_by (ReceivedReset id code final (Ok transmit)) q t k = inl (sym (stop_kept id code q t final (q == id)) ∙ k)
stop_by (ReceivedReset id code final (Err error)) q t k = inl k
stop_by e q t k = inl (sym (as_before e q t tt).0 ∙ k)

-- and reset by one with its code
reset_by : (e : Event) (q c : ℕ) (t : Trace) → (moved (move_of e) q t).reset ≡ Some c → (t.reset ≡ Some c) ⊎ ((final : ℕ) × (transmit : ShouldTransmit) × (ReceivedReset q c final (Ok transmit) ≡ e))
reset_by (ReceivedReset id code final (Ok transmit)) q c t k = elim (reset_now id code q t c final transmit (q == id) refl k) [ inl old ↦ inl old | inr now ↦ inr (final, transmit, now) ]
reset_by (ReceivedReset id code final (Err error)) q c t k = inl k
reset_by (Stopped id code (Ok u)) q c t k = inl (sym (reset_kept id code q t (q == id)) ∙ k)
reset_by (Stopped id code (Err error)) q c t k = inl k
reset_by e q c t k = inl (sym (as_before e q t tt).1 ∙ k)

-- nothing is forgotten where nothing is told any more
still : (P : Trace → Type 0) (e : Event) (q : ℕ) (t : Trace) → (P untouched → ⊥) → P (told_still e q t) → P t
still P e q t new k = by_anew (begins_anew (joint_move_of e) && is_local Client q) k
  where
    by_anew : (b : Bool) → P (if b then untouched else t) → P t
    by_anew true k = absurd (new k)
    by_anew false k = k

pub was-stopped : (h : List Event) (q : ℕ) → (trace h q).stopped ≡ true → (code : ℕ) × WasStoppedWith h q code
was-stopped [] q k = cc
was-stopped (e ∷ h) q k = elim (stop_by e q (told_still e q (trace h q)) k) [
  | inl old ↦ (let before = was-stopped h q (still (λ t. t.stopped ≡ true) e q (trace h q) (λ n. cc) old) in (before.0, inr before.1))
  | inr now ↦ (now.0, inl now.1)
]

pub was-reset : (h : List Event) (q c : ℕ) → (trace h q).reset ≡ Some c → (final : ℕ) × (transmit : ShouldTransmit) × IsOneOf (ReceivedReset q c final (Ok transmit)) h
was-reset [] q c k = cc
was-reset (e ∷ h) q c k = elim (reset_by e q c (told_still e q (trace h q)) k) [
  | inl old ↦ (let before = was-reset h q c (still (λ t. t.reset ≡ Some c) e q (trace h q) (λ n. cc) old) in (before.0, before.1, inr before.2))
  | inr now ↦ (now.0, now.1, inl now.2)
]
