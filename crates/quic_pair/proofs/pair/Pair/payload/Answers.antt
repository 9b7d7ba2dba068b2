use Rattle.std.proofs.Common.{◌≡◌, ◌∙◌, ◌<◌, ℕ, List, Some, sym, ap, arith}
use Rattle.std.specs.Prelude.{slice_get, option_map}
use Rattle.quic_exchange.specs.declared.sent.Note.{Note}
use Rattle.quic_exchange.specs.Notes.{row, IsNoNote, IsNoteThere}
use Rattle.quic_exchange.specs.Sent.{Sent}
use Rattle.quic_exchange.proofs.Lists.{slice_get-within}
use Rattle.quic_exchange.proofs.Rows.{row-at, no-note, note-there}
use Rattle.quic_pair.specs.Ends.{kept_of}
use Rattle.quic_pair.proofs.Sessions.{note-read}
use Rattle.quic_pair.specs.Shown.{pair_view}
use Rattle.quic_pair.proofs.pair.Pair.payload.Goals as goal

pub returns-then-is_no_payload-clause-none : goal.returns-then-is_no_payload-clause-none
unfolding pair_view
returns-then-is_no_payload-clause-none c =
    let e = c.args.self.now.ends in
    let none : IsNoNote e.sent.items c.args.number = rw c.deref.ensures.value at (c.is_no_payload.ensures.yes c.if-is_no_payload.true) in
    no-note (kept_of e.a e.b) e.sent.items c.args.number none

pub index-whole-requires : goal.index-whole-requires
index-whole-requires c =
    let e = c.args.self.now.ends in
    let t : IsNoteThere e.sent.items c.args.number = rw c.deref.ensures.value at (c.is_no_payload.ensures.no c.if-is_no_payload.false) in
    let within = slice_get-within e.sent.items c.args.number t.note t.is in
    let size = e.sent.ok.0 in
    omega (arith, within, size)

pub returns-clause-bytes : goal.returns-clause-bytes
unfolding pair_view
returns-clause-bytes c =
    let e = c.args.self.now.ends in
    let t : IsNoteThere e.sent.items c.args.number = rw c.deref.ensures.value at (c.is_no_payload.ensures.no c.if-is_no_payload.false) in
    let same : c.index-whole.result.now ≡ t.note = c.index-whole.ensures ∙ note-read e.sent.items c.args.number t.note c.index-whole.result.now t.is in
    ap (option_map (λ (s : Sent). s.text.bytes)) (row-at (kept_of e.a e.b) e.sent.items c.args.number t.note t.is) ∙ ap (λ (n : Note). Some n.text.bytes) (sym same) ∙ ap Some (sym c.bytes.ensures)

pub returns-clause-there : goal.returns-clause-there
unfolding pair_view
returns-clause-there c =
    let e = c.args.self.now.ends in
    let t : IsNoteThere e.sent.items c.args.number = rw c.deref.ensures.value at (c.is_no_payload.ensures.no c.if-is_no_payload.false) in
    note-there (kept_of e.a e.b) e.sent.items c.args.number t
