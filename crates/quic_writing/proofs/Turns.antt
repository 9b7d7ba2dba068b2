-- What a turn leaves.
use Rattle.std.proofs.Common.{◌≡◌, ℕ, ◌+◌, ◌-◌, ◌<◌, Bool, length, ap, inl, inr, arith}
use Rattle.quic_wire.specs.Text.{meta_text}
use Rattle.quic_wire.specs.declared.frame.StreamMeta.{StreamMeta}
use Rattle.quic_queue.specs.SendOrder.{SendOrder, line}
use Rattle.quic_writing.specs.Writer.{Writer, TakesTurn, next_of}
use Rattle.quic_writing.proofs.Queues.{line-let_go, line-settled}

-- a frame has a type at least
head-some : (m : StreamMeta) (with_length : Bool) → 0 < length (meta_text m with_length)
head-some m with_length = omega arith

-- a frame makes the payload longer, and a stream that is let go makes the queue shorter
pub shrinks : (most : ℕ) (fair : Bool) (a b : Writer) → length a.bytes + 25 < most → TakesTurn most fair a b
    → (most - length b.bytes) + length (line b.queue) < (most - length a.bytes) + length (line a.queue)
shrinks most fair a b small (inl s) =
    let bytes : length b.bytes ≡ length a.bytes = ap (λ (w : Writer). length w.bytes) s.is in
    let queue = ap (λ (w : Writer). length (line w.queue)) s.is in
    let shorter = line-let_go a.queue s.entry s.is_first in
    omega arith
shrinks most fair a b small (inr s) =
    let queue = ap (λ (q : SendOrder). length (line q)) s.queue in
    let line = line-settled a.queue s.entry (next_of fair s.priority s.frame.has_more) s.is_first in
    let head = head-some s.frame.meta s.transmits.appends.with_length in
    let size = s.transmits.appends.size in
    omega arith
