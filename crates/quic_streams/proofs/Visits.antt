-- Calls of `next` on a reader go on with a history.
use Rattle.std.proofs.Common.{◌≡◌, ℕ, ◌+◌, Bool, List, [], ◌∷◌, Option, Some, None, Result, Ok, Err, refl, sym, ap, ◌∙◌, subst, arith}
use Rattle.quic_assembler.specs.declared.chunk.Chunk.{Chunk}
use Rattle.quic_receiving.specs.declared.errors.ReadError.{ReadError}
use Rattle.quic_retransmits.specs.Pending.{Pending}
use Rattle.quic_history.specs.declared.progress.Progress.{Progress}
use Rattle.quic_history.specs.declared.progress.Progress.TheVariants as progress
use Rattle.quic_history.specs.World.{World, Made, with_credit}
use Rattle.quic_history.specs.Reading.{Begins, Nexts, given_by, pending_after, is_transmit_due}
use Rattle.quic_history.specs.History.{Event, Began, Gave, Ended, From, given, with_next}
use Rattle.quic_history.proofs.Histories.{next}
use Rattle.quic_streams.specs.Visits.{NextCall, MakesCalls, Visits, ReadsWith, progress_behind, bytes_given, with_calls, with_reader}

from-next : (p : Progress) (m : Made) (h : List Event) (u v : World) (id most : ℕ) (ordered : Bool) (r : Result (Option Chunk) ReadError) → From m h u → Nexts p u id most ordered r v
    → From m (with_next p id most ordered r h) v
from-next progress.Readable m h u v id most ordered r f n = next m h u (Gave id most ordered r) v tt f n
from-next (progress.Reset code) m h u v id most ordered r f n = let P : World → Type 0 = λ x. From m h x in subst P (sym n.1) f
from-next progress.Finished m h u v id most ordered r f n = let P : World → Type 0 = λ x. From m h x in subst P (sym n.1) f

given-gave : (id most : ℕ) (ordered : Bool) (r : Result (Option Chunk) ReadError) (h : List Event) → given (Gave id most ordered r ∷ h) ≡ given h + given_by r
given-gave id most ordered (Ok (Some chunk)) h = refl
given-gave id most ordered (Ok None) h = omega arith
given-gave id most ordered (Err e) h = omega arith

given-next : (p : Progress) (u v : World) (id most : ℕ) (ordered : Bool) (r : Result (Option Chunk) ReadError) (h : List Event) → Nexts p u id most ordered r v
    → given (with_next p id most ordered r h) ≡ given h + given_by r
given-next progress.Readable u v id most ordered r h n = given-gave id most ordered r h
given-next (progress.Reset code) u v id most ordered r h n = rw n.0 (omega arith)
given-next progress.Finished u v id most ordered r h n = rw n.0 (omega arith)

from-calls : (m : Made) (h : List Event) (w v : World) (id : ℕ) (ordered : Bool) (cs : List NextCall) → From m h w → MakesCalls w id ordered cs v → From m (with_calls id ordered cs h) v
from-calls m h w v id ordered [] f k = let P : World → Type 0 = λ x. From m h x in subst P (sym k) f
from-calls m h w v id ordered (c ∷ cs) f k =
    from-next (progress_behind cs) m (with_calls id ordered cs h) k.0 v id c.most ordered c.answer (from-calls m h w k.0 id ordered cs f k.1) k.2

given-calls : (h : List Event) (w v : World) (id : ℕ) (ordered : Bool) (cs : List NextCall) → MakesCalls w id ordered cs v → given (with_calls id ordered cs h) ≡ given h + bytes_given cs
given-calls h w v id ordered [] k = omega arith
given-calls h w v id ordered (c ∷ cs) k =
    omega (arith, given-next (progress_behind cs) k.0 v id c.most ordered c.answer (with_calls id ordered cs h) k.2, given-calls h w k.0 id ordered cs k.1)

-- a reader that was opened, used and ended goes on with the history
from-reader : (m : Made) (h : List Event) (w opened read v : World) (id : ℕ) (ordered : Bool) (cs : List NextCall) → From m h w → Begins w id ordered (Ok tt) opened
    → MakesCalls opened id ordered cs read → v ≡ with_credit read (bytes_given cs) → From m (with_reader id ordered cs h) v
from-reader m h w opened read v id ordered cs f begins makes is =
    let b = Began id ordered (Ok tt) in
    let used = from-calls m (b ∷ h) opened read id ordered cs (next m h w b opened tt f begins) makes in
    let fits : bytes_given cs ≡ given (with_calls id ordered cs (b ∷ h)) = sym (given-calls (b ∷ h) opened read id ordered cs makes ∙ plus (bytes_given cs)) in
    next m (with_calls id ordered cs (b ∷ h)) read (Ended id (bytes_given cs)) v fits used is
  where
    plus : (n : ℕ) → 0 + n ≡ n
    plus n = omega arith

-- what came of a reader that was opened, used and ended
pub reads_with : (w opened read v : World) (id : ℕ) (ordered : Bool) (p q : Pending) (Is : List NextCall → Type 0) (behind : Progress) (count : ℕ) (transmit : Bool)
    → Begins w id ordered (Ok tt) opened → Visits opened id ordered read behind count Is → v ≡ with_credit read count → q ≡ pending_after behind read id count p
    → transmit ≡ is_transmit_due behind read id count → ReadsWith w id ordered p Is transmit v q
reads_with w opened read v id ordered p q Is behind count transmit begins visits state pending transmits = record {
  calls = visits.calls;
  is = visits.is;
  opened = opened;
  read = read;
  begins = begins;
  makes = visits.makes;
  state = rw (← visits.read_is) state;
  pending = rw (← visits.read_is, ← visits.progress_is) pending;
  transmits = rw (← visits.read_is, ← visits.progress_is) transmits;
  from = λ m h f. from-reader m h w opened read v id ordered visits.calls f begins visits.makes (rw (← visits.read_is) state);
}
