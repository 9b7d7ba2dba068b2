use Rattle.std.proofs.Common.{rules, arith, ◌≡◌}
use Rattle.std.proofs.lemmas.Grind.{common_steps}
use Rattle.quic_outgoing.specs.Transmitting.{room_behind_id}
use Rattle.quic_outgoing.proofs.Frames.{by_answer}
use Rattle.quic_outgoing.proofs.transmitting.append_frame.Goals as goal

pub returns-clause-ok : goal.returns-clause-ok
returns-clause-ok c =
    let room : room_behind_id c.args.max_size c.args.id c.args.buf.now.items ≡ c.room_behind_id-room.result = search rules in
    record {
      limit = c.next_transmit-with_length.ensures.next.0;
      with_length = c.next_transmit-with_length.result.1;
      id_is = search rules;
      next = c.next_transmit-with_length.ensures.next.1;
      end_is = rw room c.next_transmit-with_length.ensures.next.2;
      length_is = rw room c.next_transmit-with_length.ensures.next.3;
      fin_is = search rules;
      ordered = c.next_transmit-with_length.ensures.within.1;
      written = c.next_transmit-with_length.ensures.within.2;
      lost = search rules;
      after = search rules;
      sound = search rules;
      more = by_answer _ c.is_pending-has_more.ensures.some c.is_pending-has_more.ensures.none;
      size = grind (arith, common_steps);
      text = search rules;
      spelled = search rules;
    }
