use Rattle.std.proofs.Common.{Some, arith, length-drop, sym, ◌+◌, ◌-◌}
use Rattle.quic_assembler.specs.Piece.{PieceView}
use Rattle.quic_assembler.proofs.Parts.{kept_loose, kept_long, kept_short, alone_above, alone_touching}
use Rattle.quic_assembler.proofs.piece.Piece.is_kept.Goals as goal

pub returns-then-not-is_compact : goal.returns-then-not-is_compact
returns-then-not-is_compact c = rw (← c.self.view_is) (sym (kept_loose _ _ (c.self.inside.offset + c.len.result - c.max.result) _ _ (simp length-drop (omega (arith, c.len.ensures, c.max.ensures))) (rw (← c.self.view_is) at (sym c.if-not-is_compact.ensures))))

pub returns-then-length-least : goal.returns-then-length-least
returns-then-length-least c = rw (← c.self.view_is) (sym (kept_long _ _ (c.self.inside.offset + c.len.result - c.max.result) _ _ (simp length-drop (omega (arith, c.len.ensures, c.max.ensures))) (rw (← c.self.view_is) at (sym c.if-not-is_compact.ensures)) c.if-length-least.true))

pub returns-in-None : goal.returns-in-None
returns-in-None c = rw (← c.self.view_is, c.in-None.is) (sym (kept_short _ _ (c.self.inside.offset + c.len.result - c.max.result) _ _ (simp length-drop (omega (arith, c.len.ensures, c.max.ensures))) (rw (← c.self.view_is) at (sym c.if-not-is_compact.ensures)) c.if-length-least.false))

pub returns-then-end-self : goal.returns-then-end-self
returns-then-end-self c =
    let r : PieceView = record { offset = c.self.inside.offset; bytes = c.self.inside.bytes; allocation_size = c.self.inside.allocation_size; compact = c.self.inside.compact; sequence = c.self.inside.sequence } in
    let compact = rw (← c.self.view_is) at (sym c.if-not-is_compact.ensures) in
    let short = kept_short c.args.least c.args.end (c.self.inside.offset + c.len.result - c.max.result) r (Some c.in-Some.next) (simp length-drop (omega (arith, c.len.ensures, c.max.ensures))) compact c.if-length-least.false in
    rw (← c.self.view_is, c.in-Some.is, short) (rw c.len.ensures (sym (alone_above c.args.end c.in-Some.next r c.if-end-self.true)))

pub returns-else-end-self : goal.returns-else-end-self
returns-else-end-self c =
    let r : PieceView = record { offset = c.self.inside.offset; bytes = c.self.inside.bytes; allocation_size = c.self.inside.allocation_size; compact = c.self.inside.compact; sequence = c.self.inside.sequence } in
    let compact = rw (← c.self.view_is) at (sym c.if-not-is_compact.ensures) in
    let short = kept_short c.args.least c.args.end (c.self.inside.offset + c.len.result - c.max.result) r (Some c.in-Some.next) (simp length-drop (omega (arith, c.len.ensures, c.max.ensures))) compact c.if-length-least.false in
    rw (← c.self.view_is, c.in-Some.is, short) (sym (alone_touching c.args.end c.in-Some.next r c.if-end-self.false))
