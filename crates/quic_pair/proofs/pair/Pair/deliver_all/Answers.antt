use Rattle.std.proofs.Common.{◌≡◌, ◌≤◌, ℕ, List, length, true, false, refl, sym, ap, ◌∙◌, arith}
use Rattle.quic_exchange.specs.declared.sent.Note.{Note}
use Rattle.quic_exchange.specs.Notes.{row, IsNoNote, IsNoteThere}
use Rattle.quic_exchange.proofs.Completes.{none-waits}
use Rattle.quic_exchange.proofs.Lists.{slice_get-within}
use Rattle.quic_exchange.proofs.Rows.{row-at, no-note}
use Rattle.quic_pair.specs.Ends.{kept_of}
use Rattle.quic_pair.specs.Shown.{pair_view}
use Rattle.quic_pair.proofs.Sessions.{note-read}
use Rattle.quic_pair.proofs.Deliveries.{hands-in}
use Rattle.quic_pair.proofs.pair.Pair.deliver_all.Goals as goal

pub returns-then-is_some : goal.returns-then-is_some
unfolding pair_view
returns-then-is_some c = record { hands_in = tt; refused = (sym c.is_some.ensures ∙ c.if-is_some.true, refl) }

pub returns-then-is_no_payload : goal.returns-then-is_no_payload
unfolding pair_view
returns-then-is_no_payload c =
    let e = c.args.self.now.ends in
    let gone : IsNoNote e.sent.items c.args.payload = rw c.deref.ensures.value at (c.is_no_payload.ensures.yes c.if-is_no_payload.true) in
    record { hands_in = tt; refused = ((none-waits e.waits (sym c.is_some.ensures ∙ c.if-is_some.false), no-note (kept_of e.a e.b) e.sent.items c.args.payload gone), refl) }

pub deliver_frames-requires-clause-there : goal.deliver_frames-requires-clause-there
unfolding pair_view
deliver_frames-requires-clause-there c =
    let e = c.args.self.now.ends in
    let t : IsNoteThere e.sent.items c.args.payload = rw c.deref.ensures.value at (c.is_no_payload.ensures.no c.if-is_no_payload.false) in
    let same : c.index.result.now ≡ t.note = c.index.ensures ∙ note-read e.sent.items c.args.payload t.note c.index.result.now t.is in
    let size : length c.bytes-most.result.now ≡ length t.note.text.bytes = ap length c.bytes-most.ensures ∙ ap (λ (n : Note). length n.text.bytes) same in
    record { there = record { sent = row (kept_of e.a e.b) t.note; is = row-at (kept_of e.a e.b) e.sent.items c.args.payload t.note t.is; here = t.here }; within = omega (arith, size) }

pub returns-clause-hands_in : goal.returns-clause-hands_in
returns-clause-hands_in c = hands-in (pair_view c.args.self.now) c.args.payload c.deliver_frames.result (pair_view c.deliver_frames.new.self) c.deliver_frames.ensures
