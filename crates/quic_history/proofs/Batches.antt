-- Several reads in a row.
use Rattle.std.proofs.Common.{◌≡◌, ℕ, Bool, List, [], ◌∷◌, ◌++◌, length, Option, Some, None, Result, Ok, Err, refl, sym, ap, ◌∙◌, subst, arith, ◌+◌}
use Rattle.quic_assembler.specs.declared.chunk.Chunk.{Chunk}
use Rattle.quic_receiving.specs.declared.errors.ReadError.{ReadError}
use Rattle.quic_receiving.specs.declared.errors.ReadError.TheVariants as read_error
use Rattle.quic_history.specs.declared.progress.LastAnswer.{LastAnswer}
use Rattle.quic_history.specs.declared.progress.LastAnswer.TheVariants as last_answer
use Rattle.quic_retransmits.specs.Pending.{Pending}
use Rattle.quic_history.specs.World.{World, Made}
use Rattle.quic_history.specs.Reading.{ReadsHalf, ReadsSome, GivesChunks, LastReads, IsLastOf, bytes_in}
use Rattle.quic_history.specs.History.{Event, Began, Gave, Ended, From, given, with_chunks, with_last, with_reads}
use Rattle.quic_history.proofs.Histories.{next}

-- one more chunk
pub gives-more : (w u v : World) (id most : ℕ) (ordered : Bool) (cs : List Chunk) (c : Chunk) → GivesChunks w id most ordered cs u → ReadsHalf u id most ordered (Ok (Some c)) v
    → GivesChunks w id most ordered (cs ++ c ∷ []) v
gives-more w u v id most ordered [] c g r = let P : World → Type 0 = λ x. ReadsHalf x id most ordered (Ok (Some c)) v in (v, subst P g r, refl)
gives-more w u v id most ordered (d ∷ ds) c g r = (g.0, g.1, gives-more g.0 u v id most ordered ds c g.2 r)

pub bytes_in-more : (cs : List Chunk) (c : Chunk) → bytes_in (cs ++ c ∷ []) ≡ bytes_in cs + length c.bytes
bytes_in-more [] c = omega arith
bytes_in-more (d ∷ ds) c = omega (arith, bytes_in-more ds c)

-- an answer without a chunk is the last
pub last_reads : (w v : World) (id most : ℕ) (ordered : Bool) (r : Result (Option Chunk) ReadError) (last : LastAnswer) → IsLastOf r last → ReadsHalf w id most ordered r v
    → LastReads w id most ordered last v
last_reads w v id most ordered (Ok (Some chunk)) last e r = absurd e
last_reads w v id most ordered (Ok None) last e r = rw e r
last_reads w v id most ordered (Err read_error.Blocked) last e r = rw e r
last_reads w v id most ordered (Err (read_error.Reset code)) last e r = rw e r
last_reads w v id most ordered (Err read_error.OutOfMemory) last e r = rw e r

given-chunks : (id most : ℕ) (ordered : Bool) (cs : List Chunk) (h : List Event) → given (with_chunks id most ordered cs h) ≡ given h + bytes_in cs
given-chunks id most ordered [] h = omega arith
given-chunks id most ordered (c ∷ cs) h = omega (arith, given-chunks id most ordered cs (Gave id most ordered (Ok (Some c)) ∷ h))

given-last_read : (id most : ℕ) (ordered : Bool) (last : LastAnswer) (h : List Event) → given (with_last id most ordered last h) ≡ given h
given-last_read id most ordered last_answer.Blocked h = refl
given-last_read id most ordered last_answer.Ended h = refl
given-last_read id most ordered (last_answer.Reset code) h = refl
given-last_read id most ordered last_answer.Memory h = refl
given-last_read id most ordered last_answer.More h = refl

from-chunks : (m : Made) (h : List Event) (w v : World) (id most : ℕ) (ordered : Bool) (cs : List Chunk) → From m h w → GivesChunks w id most ordered cs v
    → From m (with_chunks id most ordered cs h) v
from-chunks m h w v id most ordered [] f g = let P : World → Type 0 = λ x. From m h x in subst P (sym g) f
from-chunks m h w v id most ordered (c ∷ cs) f g =
    let e = Gave id most ordered (Ok (Some c)) in
    from-chunks m (e ∷ h) g.0 v id most ordered cs (next m h w e g.0 tt f g.1) g.2

from-last : (m : Made) (h : List Event) (w v : World) (id most : ℕ) (ordered : Bool) (last : LastAnswer) → From m h w → LastReads w id most ordered last v
    → From m (with_last id most ordered last h) v
from-last m h w v id most ordered last_answer.Blocked f r = next m h w (Gave id most ordered (Err read_error.Blocked)) v tt f r
from-last m h w v id most ordered last_answer.Ended f r = next m h w (Gave id most ordered (Ok None)) v tt f r
from-last m h w v id most ordered (last_answer.Reset code) f r = next m h w (Gave id most ordered (Err (read_error.Reset code))) v tt f r
from-last m h w v id most ordered last_answer.Memory f r = next m h w (Gave id most ordered (Err read_error.OutOfMemory)) v tt f r
from-last m h w v id most ordered last_answer.More f r = let P : World → Type 0 = λ x. From m h x in subst P (sym r) f

-- a reader that was opened, read and ended goes on with the history
pub from-reads : (m : Made) (h : List Event) (w v : World) (id most times : ℕ) (ordered : Bool) (p q : Pending) (cs : List Chunk) (last : LastAnswer) (transmit : Bool)
    → From m h w → ReadsSome w id most times ordered p cs last transmit v q → From m (with_reads id most ordered cs last h) v
from-reads m h w v id most times ordered p q cs last transmit f s =
    let b = Began id ordered (Ok tt) in
    let opened = next m h w b s.opened tt f s.begins in
    let h' = with_chunks id most ordered cs (b ∷ h) in
    let read = from-chunks m (b ∷ h) s.opened s.read id most ordered cs opened s.gives in
    let ended = from-last m h' s.read s.ended id most ordered last read s.last_reads in
    let fits : bytes_in cs ≡ given (with_last id most ordered last h') = sym (given-last_read id most ordered last h' ∙ given-chunks id most ordered cs (b ∷ h) ∙ plus (bytes_in cs)) in
    next m (with_last id most ordered last h') s.ended (Ended id (bytes_in cs)) v fits ended s.is
  where
    plus : (n : ℕ) → 0 + n ≡ n
    plus n = omega arith
