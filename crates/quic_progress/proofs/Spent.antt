-- What counts as consumed of each stream is counted in all.
use Rattle.std.proofs.Common.{◌≡◌, ℕ, Bool, true, false, List, [], ◌∷◌, length, Option, Some, None, is_some, Ok, Err, refl, ap, arith, ◌+◌, ◌-◌, ◌≤◌}
use Rattle.std.specs.Prelude.{◌||◌, max, nat_eq, if◌then◌else◌}
use Rattle.std.specs.List.{list_any}
use Rattle.quic_receiving.specs.declared.errors.ReadError.TheVariants as read_error
use Rattle.quic_wire.specs.declared.frame.Frame.TheVariants as frames
use Rattle.quic_history.specs.History.{Event, Received, ReceivedReset, Gave, Ended, Stopped, ToldReset, LeftPending, Move, Framed, WasReset, WasRead, WasStopped, WasTold, WasAnnounced, Trace, untouched, trace, streams, with_streams, move_of, moved, with_move, with_kept_frame, is_frame_kept, is_closed, total_over, consumed, given_back, handed_in, move_gives, frame_credit}
use Rattle.quic_history.proofs.Totals.{IsOnce, total_with}
use Rattle.quic_history.proofs.Traces.{itself, quiet, streams-once}
use Rattle.quic_link.proofs.Ends.{ArePlain}

-- up to where a stream counts as consumed: one that was stopped or reset up to its highest offset, another as far as it was read
abbrev pub counted_on : Trace → ℕ
counted_on t = if t.stopped || is_some t.reset then t.high else t.read

-- how many bytes readers gave that were not ended
abbrev pub with_outstanding : Event → ℕ → ℕ
with_outstanding (Gave id most ordered (Ok (Some chunk))) n = n + length chunk.bytes
with_outstanding (Ended id count) n = n - count
with_outstanding _ n = n

abbrev pub outstanding : List Event → ℕ
outstanding [] = 0
outstanding (e ∷ h) = with_outstanding e (outstanding h)

-- how many bytes a read gave
abbrev given_in : Move → ℕ
given_in (WasRead ordered (Ok (Some chunk))) = length chunk.bytes
given_in _ = 0

-- by how much what counts as consumed grows at most
abbrev grown : Option (ℕ × Move) → (ℕ → Trace) → ℕ
grown None f = 0
grown (Some m) f = move_gives m.1 (f m.0) + given_in m.1

-- ---- one stream

not_reset : (a b : Bool) → (a || b) ≡ false → a ≡ false
not_reset true b e = cc
not_reset false b e = refl

frame_counts : (stopped reset : Bool) (high read end : ℕ) → reset ≡ false → (if stopped || reset then max high end else read) ≤ (if stopped || reset then high else read) + ((if stopped then end - high else 0) + 0)
frame_counts true reset high read end e = omega arith
frame_counts false false high read end e = omega arith
frame_counts false true high read end e = cc

frame_kept : (offset : ℕ) (bytes : List ℕ) (fin : Bool) (t : Trace) → counted_on (with_kept_frame offset bytes fin t) ≤ counted_on t + (frame_credit t (offset + length bytes) + 0)
frame_kept offset bytes fin t = by (is_closed t) refl
  where
    by : (k : Bool) → is_closed t ≡ k → counted_on (with_kept_frame offset bytes fin t) ≤ counted_on t + (frame_credit t (offset + length bytes) + 0)
    by true e = rw e (omega arith)
    by false e = rw e (frame_counts t.stopped (is_some t.reset) t.high t.read (offset + length bytes) (not_reset (is_some t.reset) t.gone e))

reset_counts : (stopped reset : Bool) (high read final : ℕ) → reset ≡ false → final ≤ (if stopped || reset then high else read) + ((final - (if stopped then high else read)) + 0)
reset_counts true reset high read final e = omega arith
reset_counts false false high read final e = omega arith
reset_counts false true high read final e = cc

always : (b : Bool) (x y : ℕ) → (if b || true then x else y) ≡ x
always true x y = refl
always false x y = refl

reset_taken : (code final : ℕ) (t : Trace) → counted_on (with_move (WasReset code final) t) ≤ counted_on t + (move_gives (WasReset code final) t + 0)
reset_taken code final t = by (is_closed t) refl
  where
    by : (k : Bool) → is_closed t ≡ k → counted_on (with_move (WasReset code final) t) ≤ counted_on t + (move_gives (WasReset code final) t + 0)
    by true e = rw e (omega arith)
    by false e =
        let a = always t.stopped final t.read in
        let b = reset_counts t.stopped (is_some t.reset) t.high t.read final (not_reset (is_some t.reset) t.gone e) in
        rw e (omega (arith, a, b))

stop_counts : (stopped reset : Bool) (high read : ℕ) → high ≤ (if stopped || reset then high else read) + ((if reset then 0 else high - read) + 0)
stop_counts true true high read = omega arith
stop_counts true false high read = omega arith
stop_counts false true high read = omega arith
stop_counts false false high read = omega arith

chunk_counts : (b : Bool) (high read n : ℕ) → (if b then high else read + n) ≤ (if b then high else read) + (0 + n)
chunk_counts true high read n = omega arith
chunk_counts false high read n = omega arith

move_counts : (m : Move) (t : Trace) → counted_on (with_move m t) ≤ counted_on t + (move_gives m t + given_in m)
move_counts (Framed offset bytes fin answer) t = by (is_frame_kept answer) refl
  where
    by : (k : Bool) → is_frame_kept answer ≡ k → counted_on (with_move (Framed offset bytes fin answer) t) ≤ counted_on t + (move_gives (Framed offset bytes fin answer) t + 0)
    by true e = rw e (frame_kept offset bytes fin t)
    by false e = rw e (omega arith)
move_counts (WasReset code final) t = reset_taken code final t
move_counts (WasRead ordered (Ok (Some chunk))) t = chunk_counts (t.stopped || is_some t.reset) t.high t.read (length chunk.bytes)
move_counts (WasRead ordered (Ok None)) t = omega arith
move_counts (WasRead ordered (Err read_error.Blocked)) t = omega arith
move_counts (WasRead ordered (Err (read_error.Reset code))) t = omega arith
move_counts (WasRead ordered (Err read_error.OutOfMemory)) t = omega arith
move_counts WasStopped t = stop_counts t.stopped (is_some t.reset) t.high t.read
move_counts WasTold t = omega arith
move_counts (WasAnnounced limit) t = omega arith

-- ---- all streams

total_counts : (o : Option (ℕ × Move)) (f : ℕ → Trace) (xs : List ℕ) → IsOnce xs → ((k : ℕ) → list_any (nat_eq k) xs ≡ false → f k ≡ untouched)
    → total_over (λ q. counted_on (moved o q (f q))) (with_streams o xs) ≤ total_over (λ q. counted_on (f q)) xs + grown o f
total_counts None f xs once none = omega arith
total_counts (Some m) f xs once none =
    let sums = total_with (λ q. counted_on (f q)) (λ q. counted_on (moved (Some m) q (f q))) m.0 xs once (λ a. ap counted_on (none m.0 a)) (λ q n. rw n refl) in
    let here : counted_on (moved (Some m) m.0 (f m.0)) ≡ counted_on (with_move m.1 (f m.0)) = rw (itself m.0) refl in
    let most = move_counts m.1 (f m.0) in
    omega (arith, sums, here, most)

-- a call hands in what it took out of what is outstanding, and gives back what grows
event_counts : (f : ℕ → Trace) (n : ℕ) (e : Event) → grown (move_of e) f + n ≤ given_back (move_of e) f (handed_in e) + with_outstanding e n
event_counts f n (Gave id most ordered (Ok (Some chunk))) = omega arith
event_counts f n (Gave id most ordered (Ok None)) = omega arith
event_counts f n (Gave id most ordered (Err error)) = omega arith
event_counts f n (Received id offset bytes fin answer) = omega arith
event_counts f n (ReceivedReset id code final (Ok transmit)) = omega arith
event_counts f n (ReceivedReset id code final (Err error)) = omega arith
event_counts f n (Stopped id code (Ok x)) = omega arith
event_counts f n (Stopped id code (Err error)) = omega arith
event_counts f n (ToldReset id (Ok (Some code))) = omega arith
event_counts f n (ToldReset id (Ok None)) = omega arith
event_counts f n (ToldReset id (Err error)) = omega arith
event_counts f n (LeftPending kind (Some (frames.MaxStreamData id limit))) = omega arith
event_counts f n (LeftPending kind (Some _)) = omega arith
event_counts f n (LeftPending kind None) = omega arith
event_counts f n (Ended id count) = omega arith
event_counts f n _ = omega arith

-- what counts as consumed of all streams was consumed, or is outstanding
pub counted-all : (h : List Event) → ArePlain h → total_over (λ q. counted_on (trace h q)) (streams h) ≤ consumed h + outstanding h
counted-all [] plain = omega arith
counted-all (e ∷ h) plain =
    let before = counted-all h plain.1 in
    let all = total_counts (move_of e) (trace h) (streams h) (streams-once h) (quiet h) in
    let event = event_counts (trace h) (outstanding h) e in
    rw (plain.0) (omega (arith, before, all, event))
