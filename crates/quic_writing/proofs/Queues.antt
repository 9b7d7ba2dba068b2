-- What a turn does to the queue.
use Rattle.std.proofs.Common.{◌≡◌, ℤ, ◌+◌, ◌≤◌, Bool, true, false, List, [], ◌∷◌, drop, length, Option, Some, None, refl, sym, ap, inl, inr, suc, cond, arith}
use Rattle.std.specs.Prelude.{slice_get, int_lt}
use Rattle.std.proofs.lemmas.Option.{none-some}
use Rattle.quic_queue.specs.declared.queue.Entry.{Entry}
use Rattle.quic_queue.specs.declared.queue.Next.{Next}
use Rattle.quic_queue.specs.declared.queue.Next.TheVariants.{LetGo, PutAnew, KeepBack}
use Rattle.quic_queue.specs.SendOrder.{SendOrder, put, line, first, without_next, with_turn_ended, HasTurnPlace}
use Rattle.quic_writing.specs.Writer.{unreserved, next_of}

-- the room does not show in what becomes of the first stream
pub settled-unreserved : (q r : SendOrder) (e : Entry) (next : Next) → unreserved r ≡ unreserved q
    → unreserved (with_turn_ended (without_next r) e next) ≡ with_turn_ended (without_next (unreserved q)) e next
settled-unreserved q r e LetGo same = ap (λ (x : SendOrder). with_turn_ended (without_next x) e LetGo) same
settled-unreserved q r e (PutAnew p) same = ap (λ (x : SendOrder). with_turn_ended (without_next x) e (PutAnew p)) same
settled-unreserved q r e KeepBack same = ap (λ (x : SendOrder). with_turn_ended (without_next x) e KeepBack) same

-- there is room where a stream is put anew
pub has-place : (q : SendOrder) (e : Entry) (fair : Bool) (priority : ℤ) (has_more : Bool) → (fair ≡ true → q.reserved ≡ Some priority) → HasTurnPlace q e (next_of fair priority has_more)
has-place q e fair priority false place = tt
has-place q e true priority true place = inl (place refl)
has-place q e false priority true place = tt

-- the place of a stream that keeps its priority serves, where none is kept back
pub own-place : (q : SendOrder) (e : Entry) (fair : Bool) (has_more : Bool) → (fair ≡ true → q.kept ≡ None) → HasTurnPlace q e (next_of fair e.priority has_more)
own-place q e fair false place = tt
own-place q e true true place = inr (place refl, refl)
own-place q e false true place = tt

pub first-unreserved : (q r : SendOrder) → unreserved r ≡ unreserved q → first r ≡ first q
first-unreserved q r same = ap (λ (x : SendOrder). first x) same

one-more : (b : Bool) (e x : Entry) (xs ys : List Entry) → length ys ≡ length xs + 1 → length (cond b (e ∷ x ∷ xs) (x ∷ ys)) ≡ suc (length xs) + 1
one-more true e x xs ys h = omega arith
one-more false e x xs ys h = omega (arith, h)

length-put : (es : List Entry) (e : Entry) → length (put es e) ≡ length es + 1
length-put [] e = refl
length-put (x ∷ xs) e = one-more (int_lt x.priority e.priority) e x xs (put xs e) (length-put xs e)

length-drop : (es : List Entry) (e : Entry) → slice_get es 0 ≡ Some e → length (drop 1 es) + 1 ≡ length es
length-drop [] e is = absurd (none-some e is)
length-drop (x ∷ xs) e is = omega arith

without : (waiting : List Entry) (kept : Option Entry) (reserved : Option ℤ) (e : Entry)
    → first (record { waiting = waiting; kept = kept; reserved = reserved }) ≡ Some e
    → length (without_next (record { waiting = waiting; kept = kept; reserved = reserved })).waiting + 1 ≡ length (line (record { waiting = waiting; kept = kept; reserved = reserved }))
without waiting None reserved e is = length-drop waiting e is
without waiting (Some k) reserved e is = omega arith

-- the line grows shorter where the first stream is let go, and never longer
pub line-let_go : (q : SendOrder) (e : Entry) → first q ≡ Some e → length (line (with_turn_ended (without_next q) e LetGo)) + 1 ≡ length (line q)
line-let_go q e is = without q.waiting q.kept q.reserved e is

pub line-settled : (q : SendOrder) (e : Entry) (next : Next) → first q ≡ Some e → length (line (with_turn_ended (without_next q) e next)) ≤ length (line q)
line-settled q e LetGo is = omega (arith, without q.waiting q.kept q.reserved e is)
line-settled q e (PutAnew p) is = let size = length-put (without_next q).waiting (record { priority = p; id = e.id }) in let rest = without q.waiting q.kept q.reserved e is in omega arith
line-settled q e KeepBack is = let rest = without q.waiting q.kept q.reserved e is in omega arith

pub line-empty : (q : SendOrder) → first q ≡ None → line q ≡ []
line-empty q is = empty (line q) is
  where
    empty : (es : List Entry) → slice_get es 0 ≡ None → es ≡ []
    empty [] e = refl
    empty (x ∷ xs) e = absurd (none-some x (sym e))
