use Rattle.std.proofs.Common.{rules, ◌≡◌, ap, ◌∙◌, sym, refl}
use Rattle.std.specs.Prelude.{Some, Err}
use Rattle.std.proofs.lemmas.Int.{to_z-of_z}
use Rattle.quic_outgoing.specs.Seen.{senders, sender_in}
use Rattle.quic_outgoing.specs.Senders.{first_limit, with_sender}
use Rattle.quic_outgoing.specs.Transmitting.{sending_priority}
use Rattle.quic_outgoing.proofs.SenderMaps.{senders-put, with_sender-back}
use Rattle.quic_outgoing.proofs.entries.SendEntries.write_frame_at.Goals as goal

pub returns-then-not-is_sending_at-clause-sends : goal.returns-then-not-is_sending_at-clause-sends
unfolding senders
returns-then-not-is_sending_at-clause-sends c =
    let w = first_limit c.args.self.now.side c.args.self.now.first in
    let moved = senders-put w _ _ c.args.id _ ((c.get_mut.follows.holds c.in-Some.entry.now).3 (search rules)).0 in
    let held : senders c.args.self.now c.args.id ≡ Some (sender_in (w c.args.id) c.in-Some.entry.now) = search rules in
    let fits = c.ranges.priority in
    let other = simp to_z-of_z at (c.is_sending_at.ensures.no c.if-not-is_sending_at.true (w c.args.id)) in (
      λ is. other (ap sending_priority (sym held) ∙ is),
      moved ∙ with_sender-back (senders c.args.self.now) c.args.id _ held,
      refl,
    )

pub returns-in_err-frame-clause-sends : goal.returns-in_err-frame-clause-sends
unfolding senders
returns-in_err-frame-clause-sends c =
    let w = first_limit c.args.self.now.side c.args.self.now.first in
    let moved = senders-put w _ _ c.args.id _ ((c.get_mut.follows.holds c.append_of_entry.new.entry).3 (search rules)).0 in
    let held : senders c.args.self.now c.args.id ≡ Some (sender_in (w c.args.id) c.in-Some.entry.now) = search rules in
    let limit : c.first_limit-first_limit.result ≡ w c.args.id = c.first_limit-first_limit.ensures in
    let fits = c.ranges.priority in
    let same = simp to_z-of_z at (c.is_sending_at.ensures.yes c.if-not-is_sending_at.false (w c.args.id)) in
    let is : c.from_residual.result ≡ Err c.in_err-frame.field-0.0 = search rules in
    let half : sender_in (w c.args.id) c.append_of_entry.new.entry ≡ sender_in (w c.args.id) c.in-Some.entry.now = rw (← limit) c.in_err-frame.ensures.half in
    rw is (
      ap sending_priority held ∙ same,
      moved ∙ ap (λ s. with_sender (senders c.args.self.now) c.args.id (Some s)) half ∙ with_sender-back (senders c.args.self.now) c.args.id _ held,
      c.in_err-frame.ensures.bytes,
    )

pub returns-clause-sends : goal.returns-clause-sends
unfolding senders
returns-clause-sends c =
    let w = first_limit c.args.self.now.side c.args.self.now.first in
    let moved = senders-put w _ _ c.args.id _ ((c.get_mut.follows.holds c.append_of_entry.new.entry).3 (search rules)).0 in
    let held : senders c.args.self.now c.args.id ≡ Some (sender_in (w c.args.id) c.in-Some.entry.now) = search rules in
    let limit : c.first_limit-first_limit.result ≡ w c.args.id = c.first_limit-first_limit.ensures in
    let fits = c.ranges.priority in
    let same = simp to_z-of_z at (c.is_sending_at.ensures.yes c.if-not-is_sending_at.false (w c.args.id)) in (
      ap sending_priority held ∙ same,
      record {
        half = sender_in (w c.args.id) c.in-Some.entry.now;
        sent = sender_in (w c.args.id) c.append_of_entry.new.entry;
        is_held = held;
        appends = rw (← limit) c.in_ok-frame.ensures.ok;
        is = moved;
      },
    )
