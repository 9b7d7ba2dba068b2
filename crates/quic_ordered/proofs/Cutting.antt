-- What lies below the bytes that were read is cut off before a piece is kept.
use Rattle.std.proofs.Common.{◌≡◌, ℕ, ◌+◌, ◌-◌, ◌≤◌, ◌<◌, sym, ap, ◌∙◌, List, length, max, drop, arith, true}
use Rattle.std.proofs.lemmas.List.{length-drop}
use Rattle.quic_assembler.specs.Reassembly.{Reassembly}
use Rattle.quic_ordered.specs.Entries.{piece_of}
use Rattle.quic_ordered.specs.Assembly.{unread, KeepsPiece}
use Rattle.quic_ordered.proofs.Assembling.{unread_is, keeps_joined}

drop_none : (offset : ℕ) (bytes : List ℕ) → bytes ≡ drop (offset - offset) bytes
drop_none offset bytes =
    let none : offset - offset ≡ 0 = omega arith in
    sym (ap (λ (n : ℕ). drop n bytes) none)

-- bytes that begin where the read ones end, or behind that, are not cut
pub unread_whole : (read offset : ℕ) (bytes : List ℕ) (size : ℕ) → read ≤ offset → piece_of offset bytes size ≡ unread read offset bytes size
unread_whole read offset bytes size le = unread_is read offset offset bytes bytes size (omega arith) (drop_none offset bytes)

unread_cut : (read offset start : ℕ) (bytes rest : List ℕ) (size : ℕ) → start ≡ read → offset < start → rest ≡ drop (start - offset) bytes → unread read start rest size ≡ unread read offset bytes size
unread_cut read offset start bytes rest size at below cut = sym (unread_whole read start rest size (omega arith)) ∙ unread_is read offset start bytes rest size (omega arith) cut

pub cut_end : (offset start : ℕ) (bytes rest : List ℕ) → offset < start → start < offset + length bytes → rest ≡ drop (start - offset) bytes → start + length rest ≡ offset + length bytes
cut_end offset start bytes rest below on cut =
    let len : length rest ≡ length bytes - (start - offset) = ap length cut ∙ length-drop (start - offset) bytes in
    omega (arith, len)

pub keeps_cut : (old new : Reassembly) (offset start : ℕ) (bytes rest : List ℕ) (size : ℕ) → old.ordered ≡ true → start ≡ old.bytes_read → offset < start → start < offset + length bytes → rest ≡ drop (start - offset) bytes → KeepsPiece old new start rest size → KeepsPiece old new offset bytes size
keeps_cut old new offset start bytes rest size o at below on cut k =
    let end = cut_end offset start bytes rest below on cut in
    let j = k.added.joins o in
    keeps_joined old new offset bytes size start (start + length rest) (unread old.bytes_read start rest size) (unread_cut old.bytes_read offset start bytes rest size at below cut) o (k.ordered ∙ o) k.bytes_read (k.highest ∙ ap (λ (n : ℕ). max old.highest n) end) (omega arith) end j.merges j.stems j.stays j.joined j.within j.pieces
