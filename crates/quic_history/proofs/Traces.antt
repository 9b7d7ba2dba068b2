-- What histories tell of streams, by themselves.
use Rattle.std.proofs.Common.{◌≡◌, ℕ, Bool, true, false, ◌||◌, ◌&&◌, eqb, List, [], ◌∷◌, Option, Some, None, Result, Ok, Err, refl, ap, ◌∙◌, arith, ◌+◌}
use Rattle.std.specs.Prelude.{nat_eq, if◌then◌else◌}
use Rattle.std.specs.List.{list_any}
use Rattle.std.proofs.lemmas.Bool.Decides.{nat_tests}
use Rattle.quic_assembler.specs.declared.chunk.Chunk.{Chunk}
use Rattle.quic_receiving.specs.declared.errors.ReadError.{ReadError}
use Rattle.quic_receiving.specs.declared.errors.ReadError.TheVariants as read_error
use Rattle.quic_history.specs.History.{Event, Move, Trace, trace, untouched, joint_move_of, told_still, move_of, moved, with_stream, with_streams, streams, received, total_over, with_read}
use Rattle.quic_history.specs.Early.{begins_anew}
use Rattle.quic_outgoing.specs.Senders.{is_local}
use Rattle.quic_values.specs.declared.ids.Side.TheVariants.{Client}
use Rattle.quic_history.proofs.Totals.{IsOnce, once_with, total_with, same, by_cases}

pub itself : (k : ℕ) → eqb k k ≡ true
itself k = grind (arith, nat_tests)

once_moved : (m : Option (ℕ × Move)) (ids : List ℕ) → IsOnce ids → IsOnce (with_streams m ids)
once_moved None ids o = o
once_moved (Some m) ids o = once_with m.0 ids o

-- the streams of a history stand once each
pub streams-once : (h : List Event) → IsOnce (streams h)
streams-once [] = tt
streams-once (e ∷ h) = once_moved (move_of e) (streams h) (streams-once h)

or_parts : (b c : Bool) → (b || c) ≡ false → (b ≡ false) × (c ≡ false)
or_parts true c h = absurd (cc)
or_parts false c h = (refl, h)

absent_if : (b : Bool) (q id : ℕ) (ids : List ℕ) → list_any (nat_eq id) ids ≡ b → list_any (nat_eq q) (if b then ids else id ∷ ids) ≡ false
    → (eqb q id ≡ false) × (list_any (nat_eq q) ids ≡ false)
absent_if true q id ids e a = (by_cases (eqb q id) (λ t. absurd (let k : q ≡ id = same q id t in let m : list_any (nat_eq q) ids ≡ true = ap (λ x. list_any (nat_eq x) ids) k ∙ e in cc)) (λ n. n), a)
absent_if false q id ids e a = or_parts (eqb q id) (list_any (nat_eq q) ids) a

-- a stream that is not among those with one more is none of those, and not that one
pub absent : (q id : ℕ) (ids : List ℕ) → list_any (nat_eq q) (with_stream id ids) ≡ false → (eqb q id ≡ false) × (list_any (nat_eq q) ids ≡ false)
absent q id ids a = absent_if (list_any (nat_eq id) ids) q id ids refl a

quiet_moved : (m : Option (ℕ × Move)) (q : ℕ) (ids : List ℕ) (t : Trace) → list_any (nat_eq q) (with_streams m ids) ≡ false
    → (list_any (nat_eq q) ids ≡ false → t ≡ untouched) → moved m q t ≡ untouched
quiet_moved None q ids t a was = was a
quiet_moved (Some m) q ids t a was = let k = absent q m.0 ids a in let n : eqb q m.0 ≡ false = k.0 in rw n (was k.1)

-- where nothing was told of a stream, nothing is
pub still-untouched : (e : Event) (q : ℕ) (t : Trace) → t ≡ untouched → told_still e q t ≡ untouched
still-untouched e q t k = by (begins_anew (joint_move_of e) && is_local Client q)
  where
    by : (b : Bool) → (if b then untouched else t) ≡ untouched
    by true = refl
    by false = k

-- a stream that no call touched is as at first
pub quiet : (h : List Event) (q : ℕ) → list_any (nat_eq q) (streams h) ≡ false → trace h q ≡ untouched
quiet [] q a = refl
quiet (e ∷ h) q a = quiet_moved (move_of e) q (streams h) (told_still e q (trace h q)) a (λ n. still-untouched e q (trace h q) (quiet h q n))

-- a frame changes the sum of the highest offsets by what it changes that of its stream
pub received-change : (h : List Event) (g : ℕ → Trace) (id : ℕ) → ((q : ℕ) → eqb q id ≡ false → g q ≡ trace h q)
    → total_over (λ q. (g q).high) (with_stream id (streams h)) + (trace h id).high ≡ received h + (g id).high
received-change h g id others =
    total_with (λ q. (trace h q).high) (λ q. (g q).high) id (streams h) (streams-once h) (λ a. ap (λ t. t.high) (quiet h id a)) (λ q n. ap (λ t. t.high) (others q n))

-- a call that leaves the highest offset of its stream leaves their sum
pub received-kept : (h : List Event) (g : ℕ → Trace) (id : ℕ) → ((q : ℕ) → eqb q id ≡ false → g q ≡ trace h q) → (g id).high ≡ (trace h id).high
    → total_over (λ q. (g q).high) (with_stream id (streams h)) ≡ received h
received-kept h g id others here = let change = received-change h g id others in omega arith

-- a read leaves the highest offset
pub high-read : (ordered : Bool) (r : Result (Option Chunk) ReadError) (t : Trace) → (with_read ordered r t).high ≡ t.high
high-read ordered (Ok (Some chunk)) t = refl
high-read ordered (Ok None) t = refl
high-read ordered (Err read_error.Blocked) t = refl
high-read ordered (Err (read_error.Reset code)) t = refl
high-read ordered (Err read_error.OutOfMemory) t = refl
