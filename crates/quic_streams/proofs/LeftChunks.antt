-- What a write leaves in the chunks of a caller.
use Rattle.std.proofs.Common.{◌≡◌, ℕ, ◌≤◌, Bool, List, [], length, take, drop, replicate, min, sym, ap, ◌∙◌, inl, inr}
use Rattle.std.specs.Prelude.{Result, Ok, Err, IfOk, OnErr}
use Rattle.quic_limits.specs.SendingCredit.{writable}
use Rattle.quic_sending.specs.declared.send.Written.{Written}
use Rattle.quic_sending.specs.declared.send.WriteError.{WriteError}
use Rattle.quic_sending.specs.Buffer.{total_length}
use Rattle.quic_sending.specs.Sending.{permitted}
use Rattle.quic_sending.specs.Source.{without_first}
use Rattle.quic_sending.proofs.Left.{chunks_left, chunks_kept, without_first-min}
use Rattle.quic_retransmits.specs.Pending.{Pending}
use Rattle.quic_history.specs.World.{World}
use Rattle.quic_history.specs.Writes.{WritesOwn}

-- where the first k of them were taken whole and are empty, and the others are what is left, they are without the bytes
-- that were written
pub left_chunks : (w : World) (id : ℕ) (closed : Bool) (p : Pending) (written : Written) (v : World) (q : Pending) (k : ℕ) (cs old : List (List ℕ)) → k ≤ length cs → take k cs ≡ replicate k [] → length cs ≡ length old
    → WritesOwn w id old closed p (Ok written) v (drop k cs) q → cs ≡ without_first written.bytes old
left_chunks w id closed p written v q k cs old within taken size (shut, wrote, o, (t, same), is, r) =
    let n = permitted t.half (writable w.out.budget) in
    let bytes : written.bytes ≡ min n (total_length old) = ap (λ (x : Written). x.bytes) is ∙ t.bytes in
    chunks_left k n cs old within taken t.rest size ∙ (sym (without_first-min n old) ∙ ap (λ (m : ℕ). without_first m old) (sym bytes))

-- where nothing was written all are as they were
pub kept_chunks : (w : World) (id : ℕ) (closed : Bool) (p : Pending) (e : WriteError) (v : World) (q : Pending) (k : ℕ) (cs old : List (List ℕ)) → k ≤ length cs → length cs ≡ length old
    → WritesOwn w id old closed p (Err e) v (drop k cs) q → cs ≡ old
kept_chunks w id closed p e v q k cs old within size h = elim h [
  | inl t ↦ chunks_kept k cs old within t.3 size
  | inr t ↦ chunks_kept k cs old within t.2.0 size
]

-- the same of what a caller has, whatever was answered
pub left_of_write : (r : Result Written WriteError) (w : World) (id : ℕ) (closed : Bool) (p : Pending) (v : World) (q : Pending) (k : ℕ) (cs left old : List (List ℕ)) → k ≤ length cs → take k cs ≡ replicate k [] → length cs ≡ length old
    → WritesOwn w id old closed p r v (drop k cs) q → left ≡ cs → IfOk r (λ (written : Written). left ≡ without_first written.bytes old)
left_of_write (Ok written) w id closed p v q k cs left old within taken size h is = is ∙ left_chunks w id closed p written v q k cs old within taken size h
left_of_write (Err e) w id closed p v q k cs left old within taken size h is = tt

pub kept_of_write : (r : Result Written WriteError) (w : World) (id : ℕ) (closed : Bool) (p : Pending) (v : World) (q : Pending) (k : ℕ) (cs left old : List (List ℕ)) → k ≤ length cs → length cs ≡ length old
    → WritesOwn w id old closed p r v (drop k cs) q → left ≡ cs → OnErr r (left ≡ old)
kept_of_write (Ok written) w id closed p v q k cs left old within size h is = tt
kept_of_write (Err e) w id closed p v q k cs left old within size h is = is ∙ kept_chunks w id closed p e v q k cs old within size h
