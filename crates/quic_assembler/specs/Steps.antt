-- What steps do to a reassembler, one after the other.
use Rattle.std.specs.Prelude.{Ok, Err, ℕ, Bool, true, false, ◌≡◌, ◌+◌, ◌≤◌, ◌<◌, ◌^◌, ◌↔◌, ◌⊎◌, ◌||◌, max, List, [], ◌∷◌, ◌++◌, length, take, slice_index_or, Option, Some, None, option_to_list, Result, MatchResult}
use Rattle.std.specs.List.{Any, All, AllPairs}
use Rattle.quic_assembler.specs.declared.steps.Op.{Op}
use Rattle.quic_assembler.specs.declared.steps.Op.TheVariants.{Insert, Read, Unordered}
use Rattle.quic_assembler.specs.declared.steps.ReplayError.{ReplayError}
use Rattle.quic_assembler.specs.declared.steps.ReplayError.TheVariants.{TooManyChunks, CompactionMemory, OutOfMemory, BadPiece}
use Rattle.quic_assembler.specs.declared.chunk.Chunk.{Chunk}
use Rattle.quic_assembler.specs.declared.errors.InsertError.{InsertError}
use Rattle.quic_assembler.specs.declared.errors.InsertError.TheVariants as insert_error
use Rattle.quic_assembler.specs.declared.errors.EnsureError.{EnsureError}
use Rattle.quic_assembler.specs.declared.errors.EnsureError.TheVariants as ensure_error
use Rattle.quic_values.specs.declared.memory.OutOfMemory.{OutOfMemory as Refusal}
use Rattle.quic_assembler.specs.Piece.{IsByteAt, lies}
use Rattle.quic_assembler.specs.Reassembly.{IsHeld, IsWithin, IsBehind, HoldsMore, Takes, Gives, SameHeld, KeepsOffsets, HoldsNothing, run_count}

-- what a reassembler holds, what it is done with, how many offsets were read, its mode, the highest end, and how many pieces it holds
pub record State : Type 1 where
  pub held : ℕ → ℕ → Type 0
  pub done : ℕ → Bool
  pub read : ℕ
  pub ordered : Bool
  pub highest : ℕ
  pub pieces : ℕ

abbrev pub IsDoneIn : State → ℕ → Type 0
IsDoneIn s at = s.done at ≡ true

-- which values a call with an answer leads from and to: an insert of bytes at an offset that keep so much memory alive, a read of at most so many bytes, asking for a mode
abbrev pub InsertCall : Type 0 → Type 1
InsertCall S = S → ℕ → List ℕ → ℕ → Result (Unit {0}) InsertError → S → Type 0

abbrev pub ReadCall : Type 0 → Type 1
ReadCall S = S → ℕ → Result (Option Chunk) Refusal → S → Type 0

abbrev pub OrderCall : Type 0 → Type 1
OrderCall S = S → Bool → Result (Unit {0}) EnsureError → S → Type 0

-- what is seen of a reassembler, and its calls
pub record Body (S : Type 0) : Type 1 where
  pub state : S → State
  pub inserts : InsertCall S
  pub reads : ReadCall S
  pub orders : OrderCall S

abbrev pub body_of : {S : Type 0} → (S → ℕ → ℕ → Type 0) → (S → ℕ → Bool) → (S → ℕ) → (S → Bool) → (S → ℕ) → (S → ℕ) → InsertCall S → ReadCall S → OrderCall S → Body S
body_of holds done read ordered highest pieces inserts reads orders = record {
  state = λ s. record { held = holds s; done = done s; read = read s; ordered = ordered s; highest = highest s; pieces = pieces s };
  inserts = inserts;
  reads = reads;
  orders = orders;
}

-- bytes end below 2^62, and are no longer than their allocation
pub record IsFit (offset : ℕ) (bytes : List ℕ) (size : ℕ) : Type 0 where
  pub fits : offset + length bytes < 2 ^ 62
  pub allocated : length bytes ≤ size

-- bytes were inserted and kept
pub record Inserts (a b : State) (offset : ℕ) (bytes : List ℕ) : Type 0 where
  pub held : Takes a.held b.held (IsDoneIn a) offset bytes
  pub done : (at : ℕ) → a.ordered ≡ false → b.done at ≡ (a.done at || lies offset (offset + length bytes) at)
  pub read : b.read ≡ a.read
  pub ordered : b.ordered ≡ a.ordered
  pub highest : b.highest ≡ max a.highest (offset + length bytes)
  pub pieces : a.ordered ≡ true → b.pieces ≤ a.pieces + 1
  pub pieces_unordered : a.ordered ≡ false → b.pieces ≤ a.pieces + run_count a.done offset (length bytes)
  pub stale : IsBehind a.ordered a.read offset bytes → b.pieces ≡ a.pieces

-- a chunk was read
pub record ReadsChunk (a b : State) (most : ℕ) (chunk : Chunk) : Type 0 where
  pub gives : Gives a.held b.held chunk.offset chunk.bytes
  pub here : IsHeld a.held chunk.offset
  pub limit : length chunk.bytes ≤ most
  pub some : 0 < most → 0 < length chunk.bytes
  pub start : a.ordered ≡ true → chunk.offset ≡ a.read
  pub lowest : (at : ℕ) → at < chunk.offset → IsHeld a.held at → ⊥
  pub moves : b.read ≡ a.read + length chunk.bytes
  pub taken : (at : ℕ) → IsWithin chunk.offset chunk.bytes at → IsDoneIn b at
  pub done : (at : ℕ) → a.ordered ≡ false → b.done at ≡ a.done at
  pub ordered : b.ordered ≡ a.ordered
  pub highest : b.highest ≡ a.highest
  pub pieces : b.pieces ≤ a.pieces

-- all is as before, but for pieces that are gone
pub record Stays (a b : State) : Type 0 where
  pub held : SameHeld a.held b.held
  pub done : (at : ℕ) → a.ordered ≡ false → b.done at ≡ a.done at
  pub read : b.read ≡ a.read
  pub ordered : b.ordered ≡ a.ordered
  pub highest : b.highest ≡ a.highest
  pub pieces : b.pieces ≤ a.pieces

-- there was nothing to read
pub record ReadsNothing (a b : State) : Type 0 where
  pub stays : Stays a b
  pub none : a.ordered ≡ true → IsHeld a.held a.read → ⊥
  pub none_unordered : a.ordered ≡ false → HoldsNothing a.held

-- a read was refused
pub record ReadsShort (a b : State) (most : ℕ) : Type 0 where
  pub stays : Stays a b
  pub more : HoldsMore a.held a.ordered a.read most

-- unordered mode holds from here on
pub record LeavesMode (a b : State) : Type 0 where
  pub held : KeepsOffsets a.held b.held
  pub done : a.ordered ≡ true → (at : ℕ) → IsDoneIn b at ↔ ((at < a.read) ⊎ IsHeld a.held at)
  pub done_same : a.ordered ≡ false → (at : ℕ) → b.done at ≡ a.done at
  pub read : b.read ≡ a.read
  pub ordered : b.ordered ≡ false
  pub highest : b.highest ≡ a.highest
  pub pieces : b.pieces ≤ a.pieces

-- whether a step may give a chunk
abbrev pub is_read : Op → Bool
is_read (Insert offset bytes size) = false
is_read (Read most) = true
is_read Unordered = false

-- a step that was taken, and the chunk that it gave: its call answered so, and refused nothing
abbrev pub TakesOp : {S : Type 0} → Body S → Op → S → Option Chunk → S → Type 0
TakesOp body (Insert offset bytes size) a o b =
    (o ≡ None) × Inserts (body.state a) (body.state b) offset bytes
    × (IsBehind (body.state a).ordered (body.state a).read offset bytes ⊎ ((body.state b).pieces ≤ 2048))
    × IsFit offset bytes size × body.inserts a offset bytes size (Ok tt) b
TakesOp body (Read most) a None b = ReadsNothing (body.state a) (body.state b) × body.reads a most (Ok None) b
TakesOp body (Read most) a (Some chunk) b = ReadsChunk (body.state a) (body.state b) most chunk × body.reads a most (Ok (Some chunk)) b
TakesOp body Unordered a o b =
    (o ≡ None) × LeavesMode (body.state a) (body.state b) × ((body.state a).ordered ≡ false → b ≡ a) × body.orders a false (Ok tt) b

-- why a step was refused, and what it left: its call refused it for that reason, or it was not taken: a read for lack of room for its chunk (`full`), an insert whose bytes are fit for lack of memory for the copy
abbrev pub RefusesStep : {S : Type 0} → Body S → Type 0 → Op → ReplayError → S → S → Type 0
RefusesStep body full (Insert offset bytes size) TooManyChunks a b =
    Inserts (body.state a) (body.state b) offset bytes × (1024 < (body.state b).pieces)
    × (IsBehind (body.state a).ordered (body.state a).read offset bytes → ⊥)
    × IsFit offset bytes size × body.inserts a offset bytes size (Err insert_error.TooManyChunks) b
RefusesStep body full (Insert offset bytes size) CompactionMemory a b =
    Inserts (body.state a) (body.state b) offset bytes
    × (IsBehind (body.state a).ordered (body.state a).read offset bytes → ⊥)
    × IsFit offset bytes size × body.inserts a offset bytes size (Err insert_error.CompactionMemory) b
RefusesStep body full (Insert offset bytes size) BadPiece a b = (b ≡ a) × ((2 ^ 62 ≤ offset + length bytes) ⊎ (size < length bytes))
RefusesStep body full (Insert offset bytes size) OutOfMemory a b = IsFit offset bytes size × (b ≡ a)
RefusesStep body full (Read most) OutOfMemory a b =
    (full × (b ≡ a)) ⊎ (ReadsShort (body.state a) (body.state b) most × ((error : Refusal) × body.reads a most (Err error) b))
RefusesStep body full (Read most) e a b = ⊥
RefusesStep body full Unordered OutOfMemory a b =
    Stays (body.state a) (body.state b) × ((body.state a).ordered ≡ true) × body.orders a false (Err ensure_error.OutOfMemory) b
RefusesStep body full Unordered e a b = ⊥

-- the steps lead from a to b, one after the other, and gave the chunks
abbrev pub Replays : {S : Type 0} → Body S → List Op → S → List Chunk → S → Type 0
Replays body [] a given b = (b ≡ a) × (given ≡ [])
Replays {S} body (op ∷ ops) a given b = (mid : S) × (chunk : Option Chunk) × (rest : List Chunk) × TakesOp body op a chunk mid × Replays body ops mid rest b × (given ≡ option_to_list chunk ++ rest)

-- the step brings `byte` at `at`
abbrev pub StepCarries : ℕ → ℕ → Op → Type 0
StepCarries at byte (Insert offset bytes size) = IsByteAt offset bytes at byte
StepCarries at byte (Read most) = ⊥
StepCarries at byte Unordered = ⊥

-- each byte of the chunk was brought by a step
abbrev pub IsCarriedBy : List Op → Chunk → Type 0
IsCarriedBy ops chunk = (at byte : ℕ) → IsByteAt chunk.offset chunk.bytes at byte → Any (StepCarries at byte) ops

-- no offset is in both
abbrev pub AreApart : Chunk → Chunk → Type 0
AreApart c d = (at : ℕ) → IsWithin c.offset c.bytes at → IsWithin d.offset d.bytes at → ⊥

-- the chunks follow each other without a gap
abbrev pub Follows : ℕ → List Chunk → ℕ → Type 0
Follows start [] end = start ≡ end
Follows start (c ∷ cs) end = (c.offset ≡ start) × Follows (start + length c.bytes) cs end

-- the steps before the first change of mode
abbrev pub ordered_steps : List Op → List Op
ordered_steps [] = []
ordered_steps (Insert offset bytes size ∷ ops) = Insert offset bytes size ∷ ordered_steps ops
ordered_steps (Read most ∷ ops) = Read most ∷ ordered_steps ops
ordered_steps (Unordered ∷ ops) = []

-- the steps from the first change of mode on
abbrev pub later_steps : List Op → List Op
later_steps [] = []
later_steps (Insert offset bytes size ∷ ops) = later_steps ops
later_steps (Read most ∷ ops) = later_steps ops
later_steps (Unordered ∷ ops) = Unordered ∷ ops

-- the steps before the first change of mode gave `first`, without a gap from 0, and the others gave `later`
pub record IsGapless {S : Type 0} (body : Body S) (ops : List Op) (a b : S) (given : List Chunk) : Type 0 where
  pub mid : S
  pub first : List Chunk
  pub later : List Chunk
  pub given_is : given ≡ first ++ later
  pub before : Replays body (ordered_steps ops) a first mid
  pub after : Replays body (later_steps ops) mid later b
  pub follows : Follows 0 first ((body.state mid).read)

-- so many steps were taken, up to a refusal or all of them, and what they gave was put behind `out`, which had room for so many chunks
pub record IsReplay {S : Type 0} (body : Body S) (ops : List Op) (a b : S) (room : ℕ) (out next : List Chunk) (r : Result (Unit {0}) ReplayError) : Type 0 where
  pub taken : ℕ
  pub mid : S
  pub given : List Chunk
  pub added : next ≡ out ++ given
  pub steps : Replays body (take taken ops) a given mid
  pub end : MatchResult r (λ _. (taken ≡ length ops) × (b ≡ mid)) (λ e. (taken < length ops) × ((d : Op) → RefusesStep body (room ≤ length next) (slice_index_or ops taken d) e mid b))
  pub carried : All (IsCarriedBy ops) given
  pub apart : AllPairs AreApart given
  pub gapless : IsGapless body (take taken ops) a mid given
