-- What is known of a list of steps.
use Rattle.std.proofs.Common.{◌≡◌, ℕ, ◌+◌, ◌-◌, ◌≤◌, ◌<◌, ◌↔◌, inl, inr, refl, sym, ap, ◌∙◌, List, [], ◌∷◌, ◌++◌, length, take, get_or, arith, Bool, IfSome, true, false, Option, Some, None, option_to_list, append_assoc}
use Rattle.std.specs.Prelude.{◌||◌}
use Rattle.std.specs.List.{Any, All, AllPairs}
use Rattle.std.proofs.lemmas.List.{append-nil, length-append, get_or_append_left, get_or_at, get_or-take, length-take, get_or_default}
use Rattle.std.proofs.lemmas.List.Elements.{All-push, All-weaker, All-nil}
use Rattle.std.proofs.lemmas.Bool.{cases_lt}
use Rattle.quic_assembler.specs.declared.steps.Op.{Op}
use Rattle.quic_assembler.specs.declared.steps.Op.TheVariants.{Insert, Read, Unordered}
use Rattle.quic_assembler.specs.declared.steps.ReplayError.{ReplayError}
use Rattle.quic_assembler.specs.declared.steps.ReplayError.TheVariants.{TooManyChunks, CompactionMemory, OutOfMemory, BadPiece}
use Rattle.std.proofs.Common.{Result, Ok, Err}
use Rattle.std.proofs.lemmas.Bool.{false≢true}
use Rattle.std.proofs.lemmas.List.{take_more}
use Rattle.quic_assembler.specs.declared.chunk.Chunk.{Chunk}
use Rattle.quic_assembler.specs.Reassembly.{IsHeld, IsWithin, HoldsNothing}
use Rattle.quic_assembler.specs.Steps.{State, Body, is_read, IsDoneIn, ReadsChunk, LeavesMode, TakesOp, Replays, StepCarries, IsCarriedBy, AreApart, Follows, ordered_steps, later_steps, IsGapless, IsReplay, RefusesStep}
use Rattle.quic_assembler.proofs.Counts.{Any-nil, Any-unpush}

-- one more step
pub replays_push : {S : Type 0} (body : Body S) (ops : List Op) (op : Op) (a m b : S) (given : List Chunk) (o : Option Chunk) → Replays body ops a given m → TakesOp body op m o b → Replays body (ops ++ op ∷ []) a (given ++ option_to_list o) b
replays_push body [] op a m b given o r s = (b, o, [], (rw r.0 at s), (refl, refl), (rw (r.1, append-nil) refl))
replays_push body (p ∷ ops) op a m b given o (mid, chunk, rest, t, r, e) s =
    (mid, chunk, rest ++ option_to_list o, t, replays_push body ops op mid m b rest o r s, (rw (e, append_assoc) refl))

-- what is known after steps: what is held was brought, what was given was brought, given once, is done and is not held
pub record Known (ops : List Op) (given : List Chunk) (s : State) : Type 0 where
  pub held : (at byte : ℕ) → s.held at byte → Any (StepCarries at byte) ops
  pub carried : All (IsCarriedBy ops) given
  pub apart : AllPairs AreApart given
  pub past : (at : ℕ) → Any (λ (c : Chunk). IsWithin c.offset c.bytes at) given → IsDoneIn s at × (IsHeld s.held at → ⊥)

Any-left : {X : Type 0} (P : X → Type 0) (xs : List X) (x : X) → Any P xs → Any P (xs ++ x ∷ [])
Any-left P xs x (k, y, l, e, p) = (k, y, omega (arith, length-append xs (x ∷ [])), get_or_append_left xs (x ∷ []) y k l ∙ e, p)

Any-last : {X : Type 0} (P : X → Type 0) (xs : List X) (x : X) → P x → Any P (xs ++ x ∷ [])
Any-last P xs x p = (length xs, x, omega (arith, length-append xs (x ∷ [])), get_or_at xs x [] x (length xs) refl, p)

pairs_push : {X : Type 0} (R : X → X → Type 0) (xs : List X) (x : X) → AllPairs R xs → All (λ y. R y x) xs → AllPairs R (xs ++ x ∷ [])
pairs_push R xs x a h = λ i j d l m. elim (cases_lt j (length xs)) [
  | inl n ↦ (
      let o : i < length xs = omega arith in
      rw (get_or_append_left xs (x ∷ []) d i o, get_or_append_left xs (x ∷ []) d j n) (a i j d l n))
  | inr n ↦ (
      let at : length xs ≡ j = omega (arith, length-append xs (x ∷ [])) in
      let o : i < length xs = omega arith in
      rw (get_or_append_left xs (x ∷ []) d i o, get_or_at xs x [] d j at) (h i d o))
]

carried_more : (ops : List Op) (op : Op) (given : List Chunk) → All (IsCarriedBy ops) given → All (IsCarriedBy (ops ++ op ∷ [])) given
carried_more ops op given h = All-weaker (IsCarriedBy ops) (IsCarriedBy (ops ++ op ∷ [])) (λ c w at byte p. Any-left (StepCarries at byte) ops op (w at byte p)) given h

-- what is done stays done
done_kept : (x y : State) (at : ℕ) (mode : Bool) → x.ordered ≡ mode → y.ordered ≡ x.ordered → x.read ≤ y.read
    → (x.ordered ≡ true → IsDoneIn x at ↔ (at < x.read)) → (y.ordered ≡ true → IsDoneIn y at ↔ (at < y.read)) → (x.ordered ≡ false → IsDoneIn x at → IsDoneIn y at) → IsDoneIn x at → IsDoneIn y at
done_kept x y at true e o l p q h d = (q (o ∙ e)).1 (omega (arith, (p e).0 d))
done_kept x y at false e o l p q h d = h e d

default_same : (xs : List Chunk) (i : ℕ) (d : Chunk) → i < length xs → get_or xs i (get_or xs i d) ≡ get_or xs i d
default_same xs i d l = get_or_default xs i (get_or xs i d) d l

known_none : (ops : List Op) (op : Op) (given : List Chunk) (x y : State) → Known ops given x → ((at byte : ℕ) → y.held at byte → Any (StepCarries at byte) (ops ++ op ∷ [])) → ((at : ℕ) → IsDoneIn x at → IsDoneIn y at) → ((at : ℕ) → IsDoneIn x at → (IsHeld x.held at → ⊥) → IsHeld y.held at → ⊥) → Known (ops ++ op ∷ []) (given ++ []) y
known_none ops op given x y k h d n = rw append-nil (record {
  held = h;
  carried = carried_more ops op given k.carried;
  apart = k.apart;
  past = λ at a. (d at (k.past at a).0, n at (k.past at a).0 (k.past at a).1);
})

known_chunk : (ops : List Op) (op : Op) (given : List Chunk) (x y : State) (most : ℕ) (chunk : Chunk) → Known ops given x → ReadsChunk x y most chunk → ((at : ℕ) → IsDoneIn x at → IsDoneIn y at) → Known (ops ++ op ∷ []) (given ++ chunk ∷ []) y
known_chunk ops op given x y most chunk k r d = record {
  held = λ at byte h. Any-left (StepCarries at byte) ops op (k.held at byte (r.gives.origin at byte h));
  carried = All-push (IsCarriedBy (ops ++ op ∷ [])) given chunk (carried_more ops op given k.carried) (λ at byte p. Any-left (StepCarries at byte) ops op (k.held at byte (r.gives.given at byte p)));
  apart = pairs_push AreApart given chunk k.apart (λ i e l at p q.
      (k.past at (i, get_or given i e, l, default_same given i e l, p)).1 (get_or chunk.bytes (at - chunk.offset) 0, r.gives.given at (get_or chunk.bytes (at - chunk.offset) 0) (q.0, q.1, refl)));
  past = λ at a. elim (Any-unpush (λ (c : Chunk). IsWithin c.offset c.bytes at) given chunk a) [
    | inl b ↦ (d at (k.past at b).0, (λ h. (k.past at b).1 (h.0, r.gives.origin at h.0 h.1)))
    | inr w ↦ (r.taken at w, r.gives.gone at w)
  ];
}

done_left : (x y : State) (at : ℕ) (mode : Bool) → x.ordered ≡ mode → LeavesMode x y → (x.ordered ≡ true → IsDoneIn x at ↔ (at < x.read)) → IsDoneIn x at → IsDoneIn y at
done_left x y at true e l p d = (l.done e at).1 (inl ((p e).0 d))
done_left x y at false e l p d = l.done_same e at ∙ d

or_true : (b t c : Bool) → b ≡ true → c ≡ (b || t) → c ≡ true
or_true b t c e f = f ∙ rw e refl

-- each step keeps what is known
pub known_step : {S : Type 0} (body : Body S) (law : (x : S) (at : ℕ) → (body.state x).ordered ≡ true → IsDoneIn (body.state x) at ↔ (at < (body.state x).read)) (ops : List Op) (op : Op) (given : List Chunk) (o : Option Chunk) (a b : S) → Known ops given (body.state a) → TakesOp body op a o b → Known (ops ++ op ∷ []) (given ++ option_to_list o) (body.state b)
known_step body law ops (Insert offset bytes size) given o a b k (e, i, few, fit, call) =
    let d : (at : ℕ) → IsDoneIn (body.state a) at → IsDoneIn (body.state b) at = λ at. done_kept (body.state a) (body.state b) at (body.state a).ordered refl i.ordered (omega (arith, i.read)) (law a at) (law b at) (λ f h. or_true _ _ _ h (i.done at f)) in
    rw e (known_none ops (Insert offset bytes size) given (body.state a) (body.state b) k
    (λ at byte h. elim (i.held.origin at byte h) [
      | inl w ↦ Any-left (StepCarries at byte) ops (Insert offset bytes size) (k.held at byte w)
      | inr w ↦ Any-last (StepCarries at byte) ops (Insert offset bytes size) w
    ])
    d
    (λ at done none h. elim (i.held.fresh at h.0 h.1) [ inl w ↦ none (h.0, w) | inr w ↦ w done ]))
known_step body law ops (Read most) given None a b k (r, call) =
    known_none ops (Read most) given (body.state a) (body.state b) k
    (λ at byte h. Any-left (StepCarries at byte) ops (Read most) (k.held at byte (r.stays.held.origin at byte h)))
    (λ at. done_kept (body.state a) (body.state b) at (body.state a).ordered refl r.stays.ordered (omega (arith, r.stays.read)) (law a at) (law b at) (λ f h. r.stays.done at f ∙ h))
    (λ at done none h. none (h.0, r.stays.held.origin at h.0 h.1))
known_step body law ops (Read most) given (Some chunk) a b k (r, call) =
    known_chunk ops (Read most) given (body.state a) (body.state b) most chunk k r
    (λ at. done_kept (body.state a) (body.state b) at (body.state a).ordered refl r.ordered (omega (arith, r.moves)) (law a at) (law b at) (λ f h. r.done at f ∙ h))
known_step body law ops Unordered given o a b k (e, l, same, call) =
    rw e (known_none ops Unordered given (body.state a) (body.state b) k
    (λ at byte h. Any-left (StepCarries at byte) ops Unordered (k.held at byte (l.held.origin at byte h)))
    (λ at. done_left (body.state a) (body.state b) at (body.state a).ordered refl l (law a at))
    (λ at done none h. none (h.0, l.held.origin at h.0 h.1)))

-- the steps before the first change of mode, and the others
pub record Splits {S : Type 0} (body : Body S) (ops : List Op) (a b : S) (given : List Chunk) : Type 0 where
  pub mid : S
  pub first : List Chunk
  pub later : List Chunk
  pub given_is : given ≡ first ++ later
  pub before : Replays body (ordered_steps ops) a first mid
  pub after : Replays body (later_steps ops) mid later b

splits : {S : Type 0} (body : Body S) (ops : List Op) (a b : S) (given : List Chunk) → Replays body ops a given b → Splits body ops a b given
splits body [] a b given r = record { mid = a; first = []; later = []; given_is = r.1; before = (refl, refl); after = (r.0, refl) }
splits body (Insert offset bytes size ∷ ops) a b given (m, o, rest, s, r, e) =
    let q = splits body ops m b rest r in
    record { mid = q.mid; first = option_to_list o ++ q.first; later = q.later; given_is = e ∙ (ap (λ (y : List Chunk). option_to_list o ++ y) q.given_is ∙ sym (append_assoc (option_to_list o) q.first q.later)); before = (m, o, q.first, s, q.before, refl); after = q.after }
splits body (Read most ∷ ops) a b given (m, o, rest, s, r, e) =
    let q = splits body ops m b rest r in
    record { mid = q.mid; first = option_to_list o ++ q.first; later = q.later; given_is = e ∙ (ap (λ (y : List Chunk). option_to_list o ++ y) q.given_is ∙ sym (append_assoc (option_to_list o) q.first q.later)); before = (m, o, q.first, s, q.before, refl); after = q.after }
splits body (Unordered ∷ ops) a b given r = record { mid = a; first = []; later = given; given_is = refl; before = (refl, refl); after = r }

follows_from : (n m e : ℕ) (cs : List Chunk) → Follows n cs e → n ≡ m → Follows m cs e
follows_from n m e cs f h = rw (← h) f

follows : {S : Type 0} (body : Body S) (ops : List Op) (a b : S) (given : List Chunk) → Replays body (ordered_steps ops) a given b → (body.state a).ordered ≡ true → Follows (body.state a).read given (body.state b).read
follows body [] a b given r o = rw (r.1, r.0) refl
follows body (Insert offset bytes size ∷ ops) a b given (m, c, rest, s, r, e) o =
    rw (e, s.0) (follows_from _ _ _ _ (follows body ops m b rest r (s.1.ordered ∙ o)) s.1.read)
follows body (Read most ∷ ops) a b given (m, None, rest, s, r, e) o =
    rw e (follows_from _ _ _ _ (follows body ops m b rest r (s.0.stays.ordered ∙ o)) s.0.stays.read)
follows body (Read most ∷ ops) a b given (m, Some c, rest, s, r, e) o =
    rw e (s.0.start o, follows_from _ _ _ _ (follows body ops m b rest r (s.0.ordered ∙ o)) s.0.moves)
follows body (Unordered ∷ ops) a b given r o = rw (r.1, r.0) refl

pub gapless : {S : Type 0} (body : Body S) (ops : List Op) (a b : S) (given : List Chunk) → Replays body ops a given b → (body.state a).ordered ≡ true → (body.state a).read ≡ 0 → IsGapless body ops a b given
gapless body ops a b given r o z =
    let q = splits body ops a b given r in
    record { mid = q.mid; first = q.first; later = q.later; given_is = q.given_is; before = q.before; after = q.after; follows = follows_from _ _ _ _ (follows body ops a q.mid q.first q.before o) z }

-- before the first step
pub known_start : (s : State) → HoldsNothing s.held → Known [] [] s
known_start s n = record {
  held = λ at byte h. absurd (n at byte h);
  carried = All-nil (IsCarriedBy []);
  apart = λ i j d l m. absurd (omega arith);
  past = λ at a. absurd (Any-nil (λ (c : Chunk). IsWithin c.offset c.bytes at) a);
}

pub take_next : (ops : List Op) (i : ℕ) (op : Op) → i < length ops → op ≡ get_or ops i op → take (i + 1) ops ≡ take i ops ++ op ∷ []
take_next ops i op l e = take_more ops i op l ∙ rw (← e) refl

Any-take : {X : Type 0} (P : X → Type 0) (xs : List X) (i : ℕ) → Any P (take i xs) → Any P xs
Any-take P xs i (k, x, l, e, p) =
    let m : k < i = omega (arith, length-take i xs) in
    (k, x, omega (arith, length-take i xs), sym (get_or-take i xs k x m) ∙ e, p)

carried_whole : (ops : List Op) (i : ℕ) (given : List Chunk) → All (IsCarriedBy (take i ops)) given → All (IsCarriedBy ops) given
carried_whole ops i given h = All-weaker (IsCarriedBy (take i ops)) (IsCarriedBy ops) (λ c w at byte p. Any-take (StepCarries at byte) ops i (w at byte p)) given h

-- after the last step, or a refusal
pub replay_end : {S : Type 0} (body : Body S) (ops : List Op) (i : ℕ) (a b : S) (room : ℕ) (out next given : List Chunk) → length ops ≤ i → i ≤ length ops → next ≡ out ++ given → Replays body (take i ops) a given b → Known (take i ops) given (body.state b) → (body.state a).ordered ≡ true → (body.state a).read ≡ 0 → IsReplay body ops a b room out next (Ok tt)
replay_end body ops i a b room out next given l m e r k o z = record {
  taken = i;
  mid = b;
  given = given;
  added = e;
  steps = r;
  end = (omega arith, refl);
  carried = carried_whole ops i given k.carried;
  apart = k.apart;
  gapless = gapless body (take i ops) a b given r o z;
}

pub replay_refused : {S : Type 0} (body : Body S) (ops : List Op) (i : ℕ) (a m b : S) (room : ℕ) (out next given : List Chunk) (op : Op) (error : ReplayError) → i < length ops → op ≡ get_or ops i op → next ≡ out ++ given → Replays body (take i ops) a given m → Known (take i ops) given (body.state m) → (body.state a).ordered ≡ true → (body.state a).read ≡ 0 → RefusesStep body (room ≤ length next) op error m b → IsReplay body ops a b room out next (Err error)
replay_refused body ops i a m b room out next given op error l p e r k o z f = record {
  taken = i;
  mid = m;
  given = given;
  added = e;
  steps = r;
  end = (l, (λ d. rw (get_or_default ops i d op l, ← p) f));
  carried = carried_whole ops i given k.carried;
  apart = k.apart;
  gapless = gapless body (take i ops) a m given r o z;
}

pub refused_memory : {S : Type 0} (body : Body S) (full : Type 0) (op : Op) (s : S) → is_read op ≡ true → full → RefusesStep body full op OutOfMemory s s
refused_memory body full (Insert offset bytes size) s e f = absurd (false≢true e)
refused_memory body full (Read most) s e f = inl (f, refl)
refused_memory body full Unordered s e f = absurd (false≢true e)

-- only a read gives a chunk
pub gives_by_read : {S : Type 0} (body : Body S) (op : Op) (a b : S) (given : Option Chunk) → TakesOp body op a given b → IfSome given (λ _. is_read op ≡ true)
gives_by_read body (Insert offset bytes size) a b given h = rw h.0 tt
gives_by_read body (Read most) a b None h = tt
gives_by_read body (Read most) a b (Some chunk) h = refl
gives_by_read body Unordered a b given h = rw h.0 tt

pub if_some : {A : Type 0} {P Q : Type 0} (o : Option A) → IfSome o (λ _. P) → (P → Q) → IfSome o (λ _. Q)
if_some None h f = tt
if_some (Some x) h f = f h

-- what a call refused
pub refused_by_call : {S : Type 0} (body : Body S) (full : Type 0) (op : Op) (e : ReplayError) (a b : S) → RefusesStep body ⊥ op e a b → RefusesStep body full op e a b
refused_by_call body full (Insert offset bytes size) TooManyChunks a b h = h
refused_by_call body full (Insert offset bytes size) CompactionMemory a b h = h
refused_by_call body full (Insert offset bytes size) OutOfMemory a b h = h
refused_by_call body full (Insert offset bytes size) BadPiece a b h = h
refused_by_call body full (Read most) OutOfMemory a b h = elim h [ inl n ↦ absurd n.0 | inr c ↦ inr c ]
refused_by_call body full (Read most) e a b h = absurd h
refused_by_call body full Unordered OutOfMemory a b h = h
refused_by_call body full Unordered e a b h = absurd h
